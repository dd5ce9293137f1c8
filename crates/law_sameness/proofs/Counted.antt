-- A turn changes what is counted as is told by what is read before and after it.
use Rattle.std.proofs.Common.{◌≡◌, ℕ, zero, suc, ◌+◌, List, [], ◌∷◌, ◌++◌, length, map, ap, sym, ◌∙◌, subst, refl, arith}
use Rattle.std.specs.Prelude.{Bool, true, false, slice_get, slice_index, slice_set, Option, Some, None, option_map}
use Rattle.nova_objects.specs.declared.object.Object.{Object}
use Rattle.nova_model.specs.Choice.{Candidate, next_to_act}
use Rattle.nova_model.specs.Creation.{budget_of, object_of}
use Rattle.nova_model.specs.Deeds.{deed, sign_of}
use Rattle.nova_model.specs.Delegations.{Delegations}
use Rattle.nova_model.specs.Runs.{after}
use Rattle.nova_model.specs.State.{KernelState, budget_at, entry}
use Rattle.nova_model.specs.Turn.{answer_of, budget_after, event_of, is_spent, quantum_in, stamp_after, turn}
use Rattle.nova_model.specs.declared.budget.Budget.{Budget}
use Rattle.nova_model.specs.declared.deed.Deed.{Deed}
use Rattle.nova_model.specs.declared.deed.Deed.TheVariants.{Finishes, Replies}
use Rattle.nova_model.specs.declared.event.Event.{Event}
use Rattle.nova_model.specs.declared.event.EventKind.{EventKind}
use Rattle.nova_model.specs.declared.event.EventKind.TheVariants as event
use Rattle.nova_model.specs.declared.event.Turn.TheVariants.{Stepped}
use Rattle.nova_model.specs.declared.new_object.NewObject.{NewObject}
use Rattle.nova_model.specs.declared.new_object.NewObject.TheVariants as new
use Rattle.nova_model.specs.declared.times.Due.TheVariants as due
use Rattle.nova_model.specs.declared.transfer.ItemEnd.TheVariants.{Given, Skipped, Translated}
use Rattle.law_forest.proofs.Boots.{sources_keep}
use Rattle.law_forest.proofs.Turning.{after_keeps, of_events}
use Rattle.nova_objects.specs.declared.object.Object.TheVariants.{Sm}
use Rattle.nova_model.specs.Boot.{Image, Scenario, bare, boot, with_image, with_images}
use Rattle.nova_model.specs.Sources.{Source, with_source}
use Rattle.law_forest.specs.Effects.{Falls, Passing, Ticks, branch_by, branched, joined, made_by, stamp_with}
use Rattle.law_forest.specs.Turns.{acting, budgets_charged, budgets_paid, passing, passing_event, stamp_charged, stamp_paid, turned}
use Rattle.law_turns.proofs.Paying as paying
use Rattle.law_turns.proofs.Paying.{turn_is}
use Rattle.law_turns.specs.Budgets.{left_in}
use Rattle.law_sameness.specs.Counts.{Counts, counts_after, counts_of, first_stamp, IsFresh, paid, paid_with, renewed, stamp_in, ticked, with_child, with_object}

get_end : {T : Type 0} (xs : List T) → slice_get xs (length xs) ≡ None
get_end [] = refl
get_end (x ∷ xs) = get_end xs

get_last : {T : Type 0} (xs : List T) (o : Option T) → slice_get (joined xs o) (length xs) ≡ o
get_last xs None = get_end xs
get_last [] (Some x) = refl
get_last (y ∷ xs) (Some x) = get_last xs (Some x)

stamps_joined : (bs : List (Option Budget)) (b : Option Budget) → map stamp_in (bs ++ b ∷ []) ≡ map stamp_in bs ++ stamp_in b ∷ []
stamps_joined [] b = refl
stamps_joined (x ∷ bs) b = ap (λ (l : List (Option ℕ)). stamp_in x ∷ l) (stamps_joined bs b)

stamps_set : (bs : List (Option Budget)) (n : ℕ) (b : Option Budget) → map stamp_in (slice_set bs n b) ≡ slice_set (map stamp_in bs) n (stamp_in b)
stamps_set [] n b = refl
stamps_set (x ∷ bs) zero b = refl
stamps_set (x ∷ bs) (suc n) b = ap (λ (l : List (Option ℕ)). stamp_in x ∷ l) (stamps_set bs n b)

-- the stamp that is there, set again
stamps_same : (bs : List (Option Budget)) (n : ℕ) (b : Budget) → entry (slice_get bs n) ≡ Some b → slice_set (map stamp_in bs) n (Some b.stamp) ≡ map stamp_in bs
stamps_same [] n b there = refl
stamps_same (x ∷ bs) zero b there = ap (λ (o : Option Budget). stamp_in o ∷ map stamp_in bs) (sym there)
stamps_same (x ∷ bs) (suc n) b there = ap (λ (l : List (Option ℕ)). stamp_in x ∷ l) (stamps_same bs n b there)

abbrev pub made_counts : List ℕ → List (Option ℕ) → ℕ → ℕ → Counts
made_counts clocks stamps next id = record { clocks = clocks; stamps = stamps; next_stamp = next; next_id = id }

-- DERIVATIONS

abbrev id_with : ℕ → Option NewObject → ℕ
id_with id None = id
id_with id (Some made) = id + 1

abbrev id_after : ℕ → EventKind → ℕ
id_after id kind = (with_child (record { clocks = []; stamps = []; next_stamp = 0; next_id = id }) kind).next_id

next_by : (k : KernelState) (f : Delegations) (ec : ℕ) (d : Deed) → (branched f (branch_by k ec d)).next ≡ id_after (id_with f.next (made_by d)) (sign_of d).0
next_by k f ec (Finishes item (Given children) words after) = refl
next_by k f ec (Finishes item (Skipped skip) words after) = refl
next_by k f ec (Finishes item (Translated word) words after) = refl
next_by k f ec (Replies caller mark true) = refl
next_by k f ec (Replies caller mark false) = refl
next_by k f ec other = refl

-- AN OBJECT THAT IS MADE

abbrev grown : KernelState → Option NewObject → Counts
grown k made = record {
  clocks = k.times.clocks;
  stamps = map stamp_in (joined k.budgets (option_map (budget_of k.next_stamp) made));
  next_stamp = stamp_with k.next_stamp made;
  next_id = id_with k.delegations.next made;
}

grows : (k : KernelState) (made : Option NewObject) → with_object (counts_of k) (option_map object_of made) ≡ grown k made
grows k None = refl
grows k (Some (new.Sc ec cpu priority quantum)) =
    ap (λ (l : List (Option ℕ)). made_counts k.times.clocks l (k.next_stamp + 1) (k.delegations.next + 1))
    (sym (stamps_joined k.budgets (budget_of k.next_stamp (new.Sc ec cpu priority quantum))))
grows k (Some other) = ap (λ (l : List (Option ℕ)). made_counts k.times.clocks l k.next_stamp (k.delegations.next + 1)) (sym (stamps_joined k.budgets None))

-- WHAT PAYS

pays : (clocks : List ℕ) (bs : List (Option Budget)) (next id sc quantum : ℕ) (b : Budget) (is : Bool) → entry (slice_get bs sc) ≡ Some b →
    renewed (made_counts clocks (map stamp_in bs) next id) sc is
    ≡ made_counts clocks (map stamp_in (slice_set bs sc (Some (budget_after is quantum next b)))) (stamp_after is next) id
pays clocks bs next id sc quantum b true there =
    ap (λ (l : List (Option ℕ)). made_counts clocks l (next + 1) id) (sym (stamps_set bs sc (Some (budget_after true quantum next b))))
pays clocks bs next id sc quantum b false there =
    ap (λ (l : List (Option ℕ)). made_counts clocks l next id)
    (sym (stamps_same bs sc b there) ∙ sym (stamps_set bs sc (Some (budget_after false quantum next b))))

-- it is the same whichever the kind is
paid_acting : (d : Deed) (t : Counts) (sc : ℕ) (left : Option ℕ) → paid t sc left (sign_of d).0 ≡ paid_with t sc left
paid_acting (Finishes item (Given children) words after) t sc left = refl
paid_acting (Finishes item (Skipped skip) words after) t sc left = refl
paid_acting (Finishes item (Translated word) words after) t sc left = refl
paid_acting (Replies caller mark true) t sc left = refl
paid_acting (Replies caller mark false) t sc left = refl
paid_acting other t sc left = refl

child_parts : (clocks : List ℕ) (stamps : List (Option ℕ)) (next id : ℕ) (kind : EventKind) →
    with_child (made_counts clocks stamps next id) kind ≡ made_counts clocks stamps next (id_after id kind)
child_parts clocks stamps next id event.Made = refl
child_parts clocks stamps next id other = refl

-- A TURN

chosen_counts : (k : KernelState) (cpu : ℕ) (c : Candidate) → next_to_act k cpu ≡ Some c → after k cpu ≡ turned k cpu (acting k c) →
    counts_of (turned k cpu (acting k c)) ≡ counts_after (counts_of k) k (event_of cpu c (deed k c.actor)) (turned k cpu (acting k c))
chosen_counts k cpu c chosen is = sym (
    ap (λ (o : Option Object). ticked (paid (with_child (with_object (counts_of k) o) kind) c.sc (left_in (budget_at k c.sc)) kind) cpu)
    (get_last k.objects (option_map object_of made))
    ∙ ap (λ (t : Counts). ticked (paid (with_child t kind) c.sc (left_in (budget_at k c.sc)) kind) cpu) (grows k made)
    ∙ ap (λ (t : Counts). ticked (paid t c.sc (left_in (budget_at k c.sc)) kind) cpu) (child_parts k.times.clocks (map stamp_in bs) next (id_with k.delegations.next made) kind)
    ∙ ap (λ (t : Counts). ticked t cpu) (paid_acting d (made_counts k.times.clocks (map stamp_in bs) next id) c.sc (left_in (budget_at k c.sc)))
    ∙ ap (λ (o : Option ℕ). ticked (paid_with (made_counts k.times.clocks (map stamp_in bs) next id) c.sc o) cpu) (ap left_in t.its.there)
    ∙ ap (λ (u : Counts). ticked u cpu) (pays k.times.clocks bs next id c.sc t.its.quantum t.its.budget (is_spent t.its.budget) there)
    ∙ ends
    )
  where
    d : Deed
    d = deed k c.actor

    kind : EventKind
    kind = (sign_of d).0

    made : Option NewObject
    made = made_by d

    bs : List (Option Budget)
    bs = joined k.budgets (option_map (budget_of k.next_stamp) made)

    next : ℕ
    next = stamp_with k.next_stamp made

    id : ℕ
    id = id_after (id_with k.delegations.next made) kind

    t : paying.IsTurn k (after k cpu) cpu c
    t = turn_is k cpu c chosen

    there : entry (slice_get bs c.sc) ≡ Some t.its.budget
    there = still_there k.budgets (option_map (budget_of k.next_stamp) made) c.sc t.its.budget t.its.there
      where
        kept : (xs : List (Option Budget)) (x : Option Budget) (n : ℕ) (b : Budget) → entry (slice_get xs n) ≡ Some b → entry (slice_get (xs ++ x ∷ []) n) ≡ Some b
        kept [] x n b is = absurd (cc)
        kept (y ∷ xs) x zero b is = is
        kept (y ∷ xs) x (suc n) b is = kept xs x n b is

        still_there : (xs : List (Option Budget)) (o : Option (Option Budget)) (n : ℕ) (b : Budget) → entry (slice_get xs n) ≡ Some b → entry (slice_get (joined xs o) n) ≡ Some b
        still_there xs None n b is = is
        still_there xs (Some x) n b is = kept xs x n b is

    os : List Object
    os = joined k.objects (option_map object_of made)

    quantum_there : quantum_in (slice_get os c.sc) ≡ t.its.quantum
    quantum_there = ap quantum_in (still_object k.objects (option_map object_of made) c.sc _ t.its.object)
      where
        kept : (xs : List Object) (x : Object) (n : ℕ) (o : Object) → slice_get xs n ≡ Some o → slice_get (xs ++ x ∷ []) n ≡ Some o
        kept [] x n o is = absurd (cc)
        kept (y ∷ xs) x zero o is = is
        kept (y ∷ xs) x (suc n) o is = kept xs x n o is

        still_object : (xs : List Object) (o : Option Object) (n : ℕ) (x : Object) → slice_get xs n ≡ Some x → slice_get (joined xs o) n ≡ Some x
        still_object xs None n x is = is
        still_object xs (Some y) n x is = kept xs y n x is

    clocks : List ℕ
    clocks = slice_set k.times.clocks cpu (slice_index k.times.clocks cpu + 1)

    ends : made_counts clocks (map stamp_in (slice_set bs c.sc (Some (budget_after (is_spent t.its.budget) t.its.quantum next t.its.budget)))) (stamp_after (is_spent t.its.budget) next) id
        ≡ counts_of (turned k cpu (acting k c))
    ends =
        ap (λ (q : ℕ). made_counts clocks (map stamp_in (slice_set bs c.sc (Some (budget_after (is_spent t.its.budget) q next t.its.budget)))) (stamp_after (is_spent t.its.budget) next) id) (sym quantum_there)
        ∙ ap (λ (o : Option Budget). made_counts clocks (map stamp_in (budgets_paid bs c.sc (quantum_in (slice_get os c.sc)) next o)) (stamp_paid next o) id) (sym there)
        ∙ ap (λ (i : ℕ). made_counts clocks (map stamp_in (budgets_charged os bs next (Some c.sc))) (stamp_charged bs next (Some c.sc)) i) (sym (next_by k k.delegations c.actor d))

passing_counts : (k : KernelState) (cpu : ℕ) (p : Passing) →
    counts_of (turned k cpu (passing k p)) ≡ counts_after (counts_of k) k (passing_event k cpu p) (turned k cpu (passing k p))
passing_counts k cpu (Falls (due.Alarm alarm)) = ap (λ (o : Option Object). ticked (with_object (counts_of k) o) cpu) (sym (get_end k.objects))
passing_counts k cpu (Falls (due.Deadline ec)) = ap (λ (o : Option Object). ticked (with_object (counts_of k) o) cpu) (sym (get_end k.objects))
passing_counts k cpu Ticks = ap (λ (o : Option Object). ticked (with_object (counts_of k) o) cpu) (sym (get_end k.objects))

pub counts_turned : (k : KernelState) (cpu : ℕ) (e : Event) → answer_of (turn k cpu) ≡ Stepped e → counts_of (after k cpu) ≡ counts_after (counts_of k) k e (after k cpu)
counts_turned k cpu e answers = of_events (λ (f : Event). counts_of (after k cpu) ≡ counts_after (counts_of k) k f (after k cpu)) k cpu e answers
    (λ p comes is. subst (λ (s : KernelState). counts_of s ≡ counts_after (counts_of k) k (passing_event k cpu p) s) (sym is) (passing_counts k cpu p))
    (λ c chosen is. subst (λ (s : KernelState). counts_of s ≡ counts_after (counts_of k) k (event_of cpu c (deed k c.actor)) s) (sym is) (chosen_counts k cpu c chosen is))

-- both counts of a processor's turns
pub counts_stay : (k : KernelState) (cpu : ℕ) → k.stirs.processors ≡ k.times.clocks → (after k cpu).stirs.processors ≡ (after k cpu).times.clocks
counts_stay k cpu same =
    after_keeps (λ (s : KernelState). s.stirs.processors ≡ s.times.clocks) (λ s c t e is h. ap (λ (l : List ℕ). slice_set l c (slice_index l c + 1)) h) k cpu same

-- AT BOOT

objects_more : (xs : List Object) → map first_stamp (xs ++ Sm ∷ []) ≡ map first_stamp xs ++ None ∷ []
objects_more [] = refl
objects_more (x ∷ xs) = ap (λ (l : List (Option ℕ)). first_stamp x ∷ l) (objects_more xs)

length_more : (xs : List Object) (o : Object) → length (xs ++ o ∷ []) ≡ length xs + 1
length_more [] o = refl
length_more (x ∷ xs) o = let e = length_more xs o in omega (arith, e)

source_fresh : (k : KernelState) (s : Source) → IsFresh k → IsFresh (with_source k s)
source_fresh k s h = record {
  clocks = h.clocks;
  processors = h.processors;
  stamps = stamps_joined k.budgets None ∙ ap (λ (l : List (Option ℕ)). l ++ None ∷ []) h.stamps ∙ sym (objects_more k.objects);
  next = h.next;
  id = (let e = h.id in let long = length_more k.objects Sm in omega (arith, e, long));
}

images_fresh : (k : KernelState) (images : List Image) → IsFresh k → IsFresh (with_images k images)
images_fresh k [] h = h
images_fresh k (image ∷ images) h = images_fresh (with_image k image) images (record { clocks = h.clocks; processors = h.processors; stamps = h.stamps; next = h.next; id = h.id })

pub boot_fresh : (s : Scenario) → IsFresh (boot s)
boot_fresh s =
    sources_keep IsFresh source_fresh (with_images (bare s.cpus s.ram s.consoles s.root) s.images) s.sources
    (images_fresh (bare s.cpus s.ram s.consoles s.root) s.images (record { clocks = refl; processors = refl; stamps = refl; next = refl; id = omega arith }))
