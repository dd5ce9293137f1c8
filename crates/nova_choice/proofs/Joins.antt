-- An object that joins: where it is a scheduling context it joins its queue, and all others wait as they did.
use Rattle.std.proofs.Common.{◌≡◌, ℕ, zero, suc, ◌+◌, ◌-◌, ◌<◌, ◌≤◌, ◌==◌, List, [], ◌∷◌, ◌++◌, length, refl, ap, ap₂, sym, ◌∙◌, subst, arith, IsSome}
use Rattle.std.specs.Prelude.{Bool, true, false, nat_lt, Option, Some, None, option_map, slice_get, slice_set, ◌≢◌}
use Rattle.std.proofs.lemmas.List.{length-append, length-set}
use Rattle.std.proofs.lemmas.Option.{slice_get_past}
use Rattle.nova_model.specs.Creation.{budget_of, context_of, new_context, object_of, stamp_past, with_object}
use Rattle.nova_model.specs.Edges.{AreEdges, cpu_in}
use Rattle.nova_model.specs.State.{Contexts, KernelState, budget_at, ec_in, entry}
use Rattle.nova_model.specs.declared.budget.Budget.{Budget}
use Rattle.nova_model.specs.declared.context.EcState.{EcState}
use Rattle.nova_model.specs.declared.new_object.NewObject.{NewObject}
use Rattle.nova_model.specs.declared.new_object.NewObject.TheVariants as new
use Rattle.nova_objects.specs.declared.object.Object.{Object}
use Rattle.nova_objects.specs.declared.object.Object.TheVariants.{Pd, Ec, Sc, Pt, Sm}
use Rattle.nova_ec.proofs.Tables.{ec_in-more}
use Rattle.nova_ec.proofs.Untouched.{joining_moves_none, same_acts}
use Rattle.nova_sched.specs.Queues.{Schedule, added, marked, marked_by, new_entry, padded, queued_at}
use Rattle.nova_sched.specs.declared.queued.Queued.{Queued}
use Rattle.nova_choice.specs.Schedules.{AreQueuedBut, HasHome, IsAtHome, IsOwned, IsPlacedIn, but_for, joined, leads, processor_at, wanted, wanted_with}
use Rattle.nova_choice.proofs.Budgets.{padded_at, padded_length, stamp_joined}
use Rattle.nova_choice.proofs.Waits.{LeadsBut, home_kept, wanted_but}

-- LOOKING UP IN A LONGER LIST

pub get_below : {T : Type 0} → (xs ys : List T) (i : ℕ) → i < length xs → slice_get (xs ++ ys) i ≡ slice_get xs i
get_below [] ys i h = absurd (omega (arith, h))
get_below (x ∷ xs) ys zero h = refl
get_below (x ∷ xs) ys (suc i) h = get_below xs ys i (omega (arith, h))

pub get_last : {T : Type 0} → (xs : List T) (x : T) (n : ℕ) → length xs ≡ n → slice_get (xs ++ x ∷ []) n ≡ Some x
get_last [] x zero is = refl
get_last [] x (suc n) is = absurd (omega (arith, is))
get_last (y ∷ xs) x zero is = absurd (omega (arith, is))
get_last (y ∷ xs) x (suc n) is = get_last xs x n (omega (arith, is))

get_past : {T : Type 0} → (xs : List T) (x : T) (i : ℕ) → length xs < i → slice_get (xs ++ x ∷ []) i ≡ None
get_past xs x i h = slice_get_past (xs ++ x ∷ []) i (let n = length-append xs (x ∷ []) in omega (arith, h, n))

pub get_set_other : {T : Type 0} → (xs : List T) (i n : ℕ) (x : T) → n ≢ i → slice_get (slice_set xs i x) n ≡ slice_get xs n
get_set_other [] i n x h = refl
get_set_other (y ∷ xs) zero zero x h = absurd (h refl)
get_set_other (y ∷ xs) zero (suc n) x h = refl
get_set_other (y ∷ xs) (suc i) zero x h = refl
get_set_other (y ∷ xs) (suc i) (suc n) x h = get_set_other xs i n x (λ same. h (ap suc same))

pub get_set_same : {T : Type 0} → (xs : List (Option T)) (i : ℕ) (x y : T) → entry (slice_get xs i) ≡ Some x → entry (slice_get (slice_set xs i (Some y)) i) ≡ Some y
get_set_same [] i x y h = absurd cc
get_set_same (z ∷ xs) zero x y h = refl
get_set_same (z ∷ xs) (suc i) x y h = get_set_same xs i x y h

-- QUEUES

pub marked_other : (s : Schedule) (sc n : ℕ) (b : Bool) → n ≢ sc → queued_at (marked s sc b) n ≡ queued_at s n
marked_other s sc n b apart = by_entry (queued_at s sc)
  where
    by_entry : (o : Option Queued) → queued_at (marked_by s sc b o) n ≡ queued_at s n
    by_entry None = refl
    by_entry (Some e) = ap entry (get_set_other s.entries sc n (Some (record e { is_runnable = b })) apart)

pub marked_same : (s : Schedule) (sc : ℕ) (b : Bool) (e : Queued) → queued_at s sc ≡ Some e → queued_at (marked s sc b) sc ≡ Some (record e { is_runnable = b })
marked_same s sc b e there =
    ap (λ (o : Option Queued). queued_at (marked_by s sc b o) sc) there ∙ get_set_same s.entries sc e (record e { is_runnable = b }) there

pub marked_none : (s : Schedule) (sc : ℕ) (b : Bool) → queued_at s sc ≡ None → marked s sc b ≡ s
marked_none s sc b there = ap (marked_by s sc b) there

pub marked_cpus : (s : Schedule) (sc : ℕ) (b : Bool) → (marked s sc b).cpus ≡ s.cpus
marked_cpus s sc b = by_entry (queued_at s sc)
  where
    by_entry : (o : Option Queued) → (marked_by s sc b o).cpus ≡ s.cpus
    by_entry None = refl
    by_entry (Some e) = refl

pub marked_length : (s : Schedule) (sc : ℕ) (b : Bool) → length (marked s sc b).entries ≡ length s.entries
marked_length s sc b = by_entry (queued_at s sc)
  where
    by_entry : (o : Option Queued) → length (marked_by s sc b o).entries ≡ length s.entries
    by_entry None = refl
    by_entry (Some e) = length-set s.entries sc (Some (record e { is_runnable = b }))

added_below : (s : Schedule) (n cpu priority quantum i : ℕ) → length s.entries ≤ n → i < n → queued_at (added s n cpu priority quantum) i ≡ queued_at s i
added_below s n cpu priority quantum i few h =
    let full = padded_length s.entries n few in
    ap entry (get_below (padded n s.entries) (Some (new_entry cpu priority quantum s.next_stamp) ∷ []) i (omega (arith, full, h)))
    ∙ padded_at s.entries (n - length s.entries) i

added_last : (s : Schedule) (n cpu priority quantum : ℕ) → length s.entries ≤ n →
    queued_at (added s n cpu priority quantum) n ≡ Some (new_entry cpu priority quantum s.next_stamp)
added_last s n cpu priority quantum few = ap entry (get_last (padded n s.entries) (Some (new_entry cpu priority quantum s.next_stamp)) n (padded_length s.entries n few))

added_past : (s : Schedule) (n cpu priority quantum i : ℕ) → length s.entries ≤ n → n < i → queued_at (added s n cpu priority quantum) i ≡ None
added_past s n cpu priority quantum i few h =
    let full = padded_length s.entries n few in
    ap entry (get_past (padded n s.entries) (Some (new_entry cpu priority quantum s.next_stamp)) i (omega (arith, full, h)))

none_past : (s : Schedule) (i : ℕ) → length s.entries ≤ i → queued_at s i ≡ None
none_past s i h = ap entry (slice_get_past s.entries i h)

-- CONTEXTS

cpu_there : (cs : Contexts) (ec cpu : ℕ) → cpu_in cs ec ≡ Some cpu → IsSome (ec_in cs ec)
cpu_there cs ec cpu is = by_place (ec_in cs ec) is
  where
    by_place : (o : Option EcState) → option_map (λ (x : EcState). x.cpu) o ≡ Some cpu → IsSome o
    by_place None h = absurd cc
    by_place (Some x) h = refl

cpu_more : (cs : Contexts) (o : Option EcState) (ec cpu : ℕ) → cpu_in cs ec ≡ Some cpu → cpu_in (cs ++ o ∷ []) ec ≡ Some cpu
cpu_more cs o ec cpu is = by_place (ec_in cs ec) refl is
  where
    by_place : (p : Option EcState) → ec_in cs ec ≡ p → option_map (λ (x : EcState). x.cpu) p ≡ Some cpu → cpu_in (cs ++ o ∷ []) ec ≡ Some cpu
    by_place None there h = absurd cc
    by_place (Some x) there h = ap (option_map (λ (y : EcState). y.cpu)) (ec_in-more cs o ec x there) ∙ h

pub leads_more : (cs : Contexts) (o : Option EcState) → AreEdges cs → LeadsBut None cs (cs ++ o ∷ [])
leads_more cs o sound = record {
  same = λ ec home at fresh. same_acts cs (cs ++ o ∷ []) ec (joining_moves_none cs o ec sound (cpu_there cs ec home at));
  homes = λ ec home at. cpu_more cs o ec home at;
}

-- THE ENTRIES

-- each number is one of those before, the new one, or past it
by_number : (P : ℕ → Type 0) (n i : ℕ) → (i < n → P i) → P n → (n < i → P i) → P i
by_number P n i before last past = by_test (nat_lt i n) refl (i == n) refl
  where
    by_test : (t : Bool) → nat_lt i n ≡ t → (u : Bool) → (i == n) ≡ u → P i
    by_test true less u same = before (grind (arith, less))
    by_test false less true same = subst P (let e : n ≡ i = grind (arith, same) in e) last
    by_test false less false same = past (grind (arith, less, same))

home_at : (cpus n : ℕ) (cs : Contexts) (new : NewObject) → length cs ≡ n → HasHome cpus cs new → IsAtHome cpus (cs ++ context_of n new ∷ []) n (Some (object_of new))
home_at cpus n cs new.Pd full home = tt
home_at cpus n cs (new.Ec pd cpu kind sp event) full home =
    (home, ap (λ (o : Option (Option EcState)). option_map (λ (x : EcState). x.cpu) (entry o)) (get_last cs (Some (new_context n cpu kind sp)) n full))
home_at cpus n cs (new.Sc ec cpu priority quantum) full home = (home.0, cpu_more cs None ec cpu home.1)
home_at cpus n cs (new.Pt ec mtd ip) full home = tt
home_at cpus n cs (new.Sm count) full home = tt

-- owners stay
owner_more : (os : List Object) (o : Object) (ec cpu : ℕ) → processor_at (slice_get os ec) ≡ Some cpu → processor_at (slice_get (os ++ o ∷ []) ec) ≡ Some cpu
owner_more [] o ec cpu is = absurd cc
owner_more (x ∷ os) o zero cpu is = is
owner_more (x ∷ os) o (suc ec) cpu is = owner_more os o ec cpu is

owned_more : (os : List Object) (o : Object) (x : Option Object) → IsOwned os x → IsOwned (os ++ o ∷ []) x
owned_more os o (Some (Sc ec cpu priority quantum)) owned = owner_more os o ec cpu owned
owned_more os o (Some Pd) owned = tt
owned_more os o (Some (Ec pd cpu kind event)) owned = tt
owned_more os o (Some (Pt ec mtd ip)) owned = tt
owned_more os o (Some Sm) owned = tt
owned_more os o None owned = tt

owned_new : (k : KernelState) (new : NewObject) → IsPlacedIn k new → IsOwned (k.objects ++ object_of new ∷ []) (Some (object_of new))
owned_new k (new.Sc ec cpu priority quantum) placed = owner_more k.objects (Sc ec cpu priority quantum) ec cpu placed
owned_new k new.Pd placed = tt
owned_new k (new.Ec pd cpu kind sp event) placed = tt
owned_new k (new.Pt ec mtd ip) placed = tt
owned_new k (new.Sm count) placed = tt

cpus_joined : (cs : Contexts) (s : Schedule) (n : ℕ) (new : NewObject) → (joined cs s n new).cpus ≡ s.cpus
cpus_joined cs s n (new.Sc ec cpu priority quantum) = marked_cpus (added s n cpu priority quantum) n (leads cs ec)
cpus_joined cs s n new.Pd = refl
cpus_joined cs s n (new.Ec pd cpu kind sp event) = refl
cpus_joined cs s n (new.Pt ec mtd ip) = refl
cpus_joined cs s n (new.Sm count) = refl

numbers_joined : (cs : Contexts) (s : Schedule) (n : ℕ) (new : NewObject) → length s.entries ≤ n → length (joined cs s n new).entries ≤ n + 1
numbers_joined cs s n (new.Sc ec cpu priority quantum) few =
    let e : Option Queued = Some (new_entry cpu priority quantum s.next_stamp) in
    let marks = marked_length (added s n cpu priority quantum) n (leads cs ec) in
    let more = length-append (padded n s.entries) (e ∷ []) in
    let full = padded_length s.entries n few in
    omega (arith, marks, more, full)
numbers_joined cs s n new.Pd few = omega (arith, few)
numbers_joined cs s n (new.Ec pd cpu kind sp event) few = omega (arith, few)
numbers_joined cs s n (new.Pt ec mtd ip) few = omega (arith, few)
numbers_joined cs s n (new.Sm count) few = omega (arith, few)

-- of another number
joined_other : (cs : Contexts) (s : Schedule) (n i : ℕ) (new : NewObject) → length s.entries ≤ n → i ≢ n → queued_at (joined cs s n new) i ≡ queued_at s i
joined_other cs s n i (new.Sc ec cpu priority quantum) few apart =
    marked_other (added s n cpu priority quantum) n i (leads cs ec) apart
    ∙ by_number (λ j. j ≢ n → queued_at (added s n cpu priority quantum) j ≡ queued_at s j) n i
    (λ less other. added_below s n cpu priority quantum i few less)
    (λ other. absurd (other refl))
    (λ more other. added_past s n cpu priority quantum i few more ∙ sym (none_past s i (omega (arith, few, more)))) apart
joined_other cs s n i new.Pd few apart = refl
joined_other cs s n i (new.Ec pd cpu kind sp event) few apart = refl
joined_other cs s n i (new.Pt ec mtd ip) few apart = refl
joined_other cs s n i (new.Sm count) few apart = refl

-- of the new number
joined_last : (cs : Contexts) (s : Schedule) (n : ℕ) (new : NewObject) → length s.entries ≤ n →
    queued_at (joined cs s n new) n ≡ wanted_with cs (Some (object_of new)) (budget_of s.next_stamp new)
joined_last cs s n (new.Sc ec cpu priority quantum) few =
    marked_same (added s n cpu priority quantum) n (leads cs ec) (new_entry cpu priority quantum s.next_stamp) (added_last s n cpu priority quantum few)
joined_last cs s n new.Pd few = none_past s n few
joined_last cs s n (new.Ec pd cpu kind sp event) few = none_past s n few
joined_last cs s n (new.Pt ec mtd ip) few = none_past s n few
joined_last cs s n (new.Sm count) few = none_past s n few

wanted_new : (cpus : ℕ) (cs ds : Contexts) (new : NewObject) (b : Option Budget) → LeadsBut None cs ds → HasHome cpus cs new →
    wanted_with ds (Some (object_of new)) b ≡ wanted_with cs (Some (object_of new)) b
wanted_new cpus cs ds (new.Sc ec cpu priority quantum) (Some b) kept home =
    ap (λ (t : Bool). Some (record { cpu = cpu; priority = priority; quantum = quantum; is_runnable = t; budget = b })) (kept.same ec cpu home.1 refl)
wanted_new cpus cs ds (new.Sc ec cpu priority quantum) None kept home = refl
wanted_new cpus cs ds new.Pd b kept home = refl
wanted_new cpus cs ds (new.Ec pd cpu kind sp event) b kept home = refl
wanted_new cpus cs ds (new.Pt ec mtd ip) b kept home = refl
wanted_new cpus cs ds (new.Sm count) b kept home = refl

-- THE STATE

pub queued_joined : (stale : Option ℕ) (k : KernelState) (s : Schedule) (pd selector : ℕ) (new : NewObject) → AreEdges k.contexts →
    length k.contexts ≡ length k.objects → length k.budgets ≡ length k.objects → HasHome s.cpus k.contexts new → IsPlacedIn k new → AreQueuedBut stale k s →
    AreQueuedBut stale (with_object k pd selector new) (joined k.contexts s (length k.objects) new)
queued_joined stale k s pd selector new sound contexts budgets home placed queued =
    let n = length k.objects in
    let ds = k.contexts ++ context_of n new ∷ [] in
    let kept = leads_more k.contexts (context_of n new) sound in
    let cpus : (joined k.contexts s n new).cpus ≡ s.cpus = cpus_joined k.contexts s n new in
    record {
      cpus = rw cpus queued.cpus;
      numbers = let many = numbers_joined k.contexts s n new queued.numbers in let all = length-append k.objects (object_of new ∷ []) in omega (arith, many, all);
      stamp = stamp_joined k.contexts s n new ∙ ap (λ (m : ℕ). stamp_past m new) queued.stamp;
      entries = λ i. by_number
          (λ j. but_for stale (queued_at (joined k.contexts s n new) j) ≡ but_for stale (wanted (with_object k pd selector new) j)) n i
          (λ less.
          ap (but_for stale) (joined_other k.contexts s n i new queued.numbers (λ same. absurd (omega (arith, less, same))))
          ∙ queued.entries i
          ∙ ap (but_for stale) (sym (wanted_but None s.cpus i k.contexts ds (slice_get k.objects i) (budget_at k i) kept (queued.homes i)))
          ∙ ap₂ (λ (o : Option Object) (b : Option Budget). but_for stale (wanted_with ds o b)) (sym (get_below k.objects (object_of new ∷ []) i less))
          (ap entry (sym (get_below k.budgets (budget_of k.next_stamp new ∷ []) i (omega (arith, less, budgets))))))
          (ap (but_for stale)
          (joined_last k.contexts s n new queued.numbers
          ∙ ap (λ (m : ℕ). wanted_with k.contexts (Some (object_of new)) (budget_of m new)) queued.stamp
          ∙ sym (wanted_new s.cpus k.contexts ds new (budget_of k.next_stamp new) kept home)
          ∙ ap₂ (λ (o : Option Object) (b : Option Budget). wanted_with ds o b) (sym (get_last k.objects (object_of new) n refl))
          (ap entry (sym (get_last k.budgets (budget_of k.next_stamp new) n budgets)))))
          (λ more.
          ap (but_for stale)
          (joined_other k.contexts s n i new queued.numbers (λ same. absurd (omega (arith, more, same)))
          ∙ none_past s i (let few = queued.numbers in omega (arith, few, more))
          ∙ ap (λ (o : Option Object). wanted_with ds o (budget_at (with_object k pd selector new) i)) (sym (get_past k.objects (object_of new) i more))));
      homes = λ i. subst (λ (c : ℕ). IsAtHome c ds i (slice_get (k.objects ++ object_of new ∷ []) i)) (sym cpus)
          (by_number (λ j. IsAtHome s.cpus ds j (slice_get (k.objects ++ object_of new ∷ []) j)) n i
          (λ less. subst (λ (o : Option Object). IsAtHome s.cpus ds i o) (sym (get_below k.objects (object_of new ∷ []) i less))
          (home_kept None s.cpus i k.contexts ds (slice_get k.objects i) kept (queued.homes i)))
          (subst (λ (o : Option Object). IsAtHome s.cpus ds n o) (sym (get_last k.objects (object_of new) n refl)) (home_at s.cpus n k.contexts new contexts home))
          (λ more. subst (λ (o : Option Object). IsAtHome s.cpus ds i o) (sym (get_past k.objects (object_of new) i more)) tt));
      owners = λ i. by_number (λ j. IsOwned (k.objects ++ object_of new ∷ []) (slice_get (k.objects ++ object_of new ∷ []) j)) n i
          (λ less. subst (λ (o : Option Object). IsOwned (k.objects ++ object_of new ∷ []) o) (sym (get_below k.objects (object_of new ∷ []) i less))
          (owned_more k.objects (object_of new) (slice_get k.objects i) (queued.owners i)))
          (subst (λ (o : Option Object). IsOwned (k.objects ++ object_of new ∷ []) o) (sym (get_last k.objects (object_of new) n refl)) (owned_new k new placed))
          (λ more. subst (λ (o : Option Object). IsOwned (k.objects ++ object_of new ∷ []) o) (sym (get_past k.objects (object_of new) i more)) tt);
    }
