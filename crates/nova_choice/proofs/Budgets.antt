-- The budgets that the queues hold, as a table of the kernel's.
use Rattle.std.proofs.Common.{◌≡◌, ℕ, zero, suc, ◌+◌, ◌-◌, ◌≤◌, ◌<◌, List, [], ◌∷◌, ◌++◌, length, refl, ap, ap₂, sym, subst, ◌∙◌, arith}
use Rattle.std.specs.Prelude.{Bool, Option, Some, None, IsSome, map, option_map, replicate, slice_get, slice_set}
use Rattle.std.proofs.lemmas.List.{length-append, length-set, length-map, length-replicate, map-append, append_assoc, append-nil}
use Rattle.nova_model.specs.Creation.{budget_of, stamp_past}
use Rattle.nova_model.specs.State.{Contexts, entry}
use Rattle.nova_model.specs.declared.budget.Budget.{Budget}
use Rattle.nova_model.specs.declared.new_object.NewObject.{NewObject}
use Rattle.nova_model.specs.declared.new_object.NewObject.TheVariants as new
use Rattle.nova_objects.specs.declared.object.Object.{Object}
use Rattle.nova_sched.specs.Queues.{Schedule, added, marked, marked_by, new_entry, padded, queued_at, with_entry}
use Rattle.nova_sched.specs.declared.queued.Queued.{Queued}
use Rattle.nova_choice.specs.Schedules.{budgets_of, joined, leads, remarked}

abbrev Entries : Type 0
Entries = List (Option Queued)

abbrev budget_in : Option Queued → Option Budget
budget_in o = option_map (λ (e : Queued). e.budget) o

-- LOOKING UP

none_there : {T : Type 0} → (n i : ℕ) → entry {T = T} (slice_get (replicate n None) i) ≡ None
none_there zero i = refl
none_there (suc n) zero = refl
none_there (suc n) (suc i) = none_there n i

pub padded_at : {T : Type 0} → (xs : List (Option T)) (n i : ℕ) → entry (slice_get (xs ++ replicate n None) i) ≡ entry (slice_get xs i)
padded_at [] n i = none_there n i
padded_at (x ∷ xs) n zero = refl
padded_at (x ∷ xs) n (suc i) = padded_at xs n i

budgets_at : (xs : Entries) (i : ℕ) → entry (slice_get (map budget_in xs) i) ≡ budget_in (entry (slice_get xs i))
budgets_at [] i = refl
budgets_at (x ∷ xs) zero = refl
budgets_at (x ∷ xs) (suc i) = budgets_at xs i

pub budget_queued : (s : Schedule) (count sc : ℕ) → entry (slice_get (budgets_of s count) sc) ≡ option_map (λ (e : Queued). e.budget) (queued_at s sc)
unfolding budgets_of
budget_queued s count sc = padded_at (map budget_in s.entries) (count - length (map budget_in s.entries)) sc ∙ budgets_at s.entries sc

-- an entry that is there has its place
pub below : {T : Type 0} → (xs : List (Option T)) (i : ℕ) (x : T) → entry (slice_get xs i) ≡ Some x → i < length xs
below [] i x h = absurd cc
below (y ∷ xs) zero x h = omega arith
below (y ∷ xs) (suc i) x h = let rest = below xs i x h in omega arith

-- WRITING

map_set : (xs : Entries) (i : ℕ) (e : Queued) → map budget_in (slice_set xs i (Some e)) ≡ slice_set (map budget_in xs) i (Some e.budget)
map_set [] i e = refl
map_set (x ∷ xs) zero e = refl
map_set (x ∷ xs) (suc i) e = ap (λ (ys : List (Option Budget)). budget_in x ∷ ys) (map_set xs i e)

padded_set : {T : Type 0} → (xs ys : List (Option T)) (i : ℕ) (x : Option T) → i < length xs → slice_set (xs ++ ys) i x ≡ slice_set xs i x ++ ys
padded_set [] ys i x h = absurd (omega (arith, h))
padded_set (z ∷ xs) ys zero x h = refl
padded_set {T = T} (z ∷ xs) ys (suc i) x h = ap (λ (zs : List (Option T)). z ∷ zs) (padded_set xs ys i x (omega (arith, h)))

-- a scheduling context that is there has another budget
pub budgets_set : (s : Schedule) (count sc : ℕ) (e d : Queued) → queued_at s sc ≡ Some e →
    budgets_of (with_entry s sc d) count ≡ slice_set (budgets_of s count) sc (Some d.budget)
unfolding budgets_of
budgets_set s count sc e d there =
    let here : sc < length (map budget_in s.entries) = (let h = below s.entries sc e there in rw (length-map s.entries budget_in) h) in
    ap (padded count) (map_set s.entries sc d)
    ∙ ap (λ (n : ℕ). slice_set (map budget_in s.entries) sc (Some d.budget) ++ replicate (count - n) None) (length-set (map budget_in s.entries) sc (Some d.budget))
    ∙ sym (padded_set (map budget_in s.entries) (replicate (count - length (map budget_in s.entries)) None) sc (Some d.budget) here)

map_mark : (xs : Entries) (i : ℕ) (e : Queued) (b : Bool) → entry (slice_get xs i) ≡ Some e → map budget_in (slice_set xs i (Some (record e { is_runnable = b }))) ≡ map budget_in xs
map_mark [] i e b h = refl
map_mark (x ∷ xs) zero e b h = ap (λ (o : Option Budget). o ∷ map budget_in xs) (sym (ap budget_in h))
map_mark (x ∷ xs) (suc i) e b h = ap (λ (ys : List (Option Budget)). budget_in x ∷ ys) (map_mark xs i e b h)

-- a mark keeps all but itself
marked_by_budgets : (s : Schedule) (count sc : ℕ) (b : Bool) (o : Option Queued) → queued_at s sc ≡ o → budgets_of (marked_by s sc b o) count ≡ budgets_of s count
unfolding budgets_of
marked_by_budgets s count sc b None there = refl
marked_by_budgets s count sc b (Some e) there = ap (padded count) (map_mark s.entries sc e b there)

pub marked_budgets : (s : Schedule) (count sc : ℕ) (b : Bool) → budgets_of (marked s sc b) count ≡ budgets_of s count
marked_budgets s count sc b = marked_by_budgets s count sc b (queued_at s sc) refl

marked_by_stamp : (s : Schedule) (sc : ℕ) (b : Bool) (o : Option Queued) → (marked_by s sc b o).next_stamp ≡ s.next_stamp
marked_by_stamp s sc b None = refl
marked_by_stamp s sc b (Some e) = refl

pub marked_stamp : (s : Schedule) (sc : ℕ) (b : Bool) → (marked s sc b).next_stamp ≡ s.next_stamp
marked_stamp s sc b = marked_by_stamp s sc b (queued_at s sc)

pub remarked_budgets : (objects : List Object) (cs : Contexts) (scs : List ℕ) (s : Schedule) (count : ℕ) → budgets_of (remarked objects cs scs s) count ≡ budgets_of s count
remarked_budgets objects cs [] s count = refl
remarked_budgets objects cs (sc ∷ scs) s count = remarked_budgets objects cs scs (marked s sc _) count ∙ marked_budgets s count sc _

pub remarked_stamp : (objects : List Object) (cs : Contexts) (scs : List ℕ) (s : Schedule) → (remarked objects cs scs s).next_stamp ≡ s.next_stamp
remarked_stamp objects cs [] s = refl
remarked_stamp objects cs (sc ∷ scs) s = remarked_stamp objects cs scs (marked s sc _) ∙ marked_stamp s sc _

-- ADDING

replicate_last : {T : Type 0} → (n : ℕ) (x : T) → replicate (suc n) x ≡ replicate n x ++ x ∷ []
replicate_last zero x = refl
replicate_last {T = T} (suc n) x = ap (λ (ys : List T). x ∷ ys) (replicate_last n x)

-- one number more, without a scheduling context
pub budgets_more : (s : Schedule) (count : ℕ) → length s.entries ≤ count → budgets_of s (count + 1) ≡ budgets_of s count ++ None ∷ []
unfolding budgets_of
budgets_more s count few =
    let bs = map budget_in s.entries in
    let more : count + 1 - length bs ≡ suc (count - length bs) = (let n = length-map s.entries budget_in in omega (arith, n, few)) in
    ap (λ (n : ℕ). bs ++ replicate n None) more
    ∙ ap (λ (ys : List (Option Budget)). bs ++ ys) (replicate_last {T = Option Budget} (count - length bs) None)
    ∙ sym (append_assoc bs (replicate (count - length bs) None) (None ∷ []))

map_none : (n : ℕ) → map budget_in (replicate n None) ≡ replicate n None
map_none zero = refl
map_none (suc n) = ap (λ (ys : List (Option Budget)). None ∷ ys) (map_none n)

pub padded_length : {T : Type 0} → (xs : List (Option T)) (count : ℕ) → length xs ≤ count → length (padded count xs) ≡ count
padded_length {T = T} xs count few =
    let nothing : Option T = None in
    length-append xs (replicate (count - length xs) nothing) ∙ (let n = length-replicate (count - length xs) nothing in omega (arith, n, few))

-- or with one, which has the number
pub budgets_added : (s : Schedule) (count cpu priority quantum : ℕ) → length s.entries ≤ count →
    budgets_of (added s count cpu priority quantum) (count + 1) ≡ budgets_of s count ++ Some (record { left = quantum; stamp = s.next_stamp; ticks = 0 }) ∷ []
unfolding budgets_of
budgets_added s count cpu priority quantum few =
    let bs = map budget_in s.entries in
    let b : Option Budget = Some (record { left = quantum; stamp = s.next_stamp; ticks = 0 }) in
    let all : map budget_in (padded count s.entries ++ Some (new_entry cpu priority quantum s.next_stamp) ∷ []) ≡ padded count bs ++ b ∷ [] =
    map-append budget_in (padded count s.entries) (Some (new_entry cpu priority quantum s.next_stamp) ∷ [])
    ∙ ap (λ (ys : List (Option Budget)). ys ++ b ∷ [])
    (map-append budget_in s.entries (replicate (count - length s.entries) None)
    ∙ ap (λ (ys : List (Option Budget)). bs ++ ys) (map_none (count - length s.entries))
    ∙ ap (λ (n : ℕ). bs ++ replicate (count - n) (let nothing : Option Budget = None in nothing)) (sym (length-map s.entries budget_in))) in
    let few_budgets : length bs ≤ count = (let n = length-map s.entries budget_in in omega (arith, n, few)) in
    let full : length (padded count bs ++ b ∷ []) ≡ count + 1 =
    length-append (padded count bs) (b ∷ []) ∙ ap (λ (n : ℕ). n + 1) (padded_length bs count few_budgets) in
    ap (padded (count + 1)) all
    ∙ ap (λ (n : ℕ). (padded count bs ++ b ∷ []) ++ replicate (count + 1 - n) None) full
    ∙ ap (λ (n : ℕ). (padded count bs ++ b ∷ []) ++ replicate n None) (let e : count + 1 - (count + 1) ≡ 0 = omega arith in e)
    ∙ append-nil (padded count bs ++ b ∷ [])

pub budgets_joined : (cs : Contexts) (s : Schedule) (count : ℕ) (new : NewObject) → length s.entries ≤ count →
    budgets_of (joined cs s count new) (count + 1) ≡ budgets_of s count ++ budget_of s.next_stamp new ∷ []
budgets_joined cs s count (new.Sc ec cpu priority quantum) few =
    marked_budgets (added s count cpu priority quantum) (count + 1) count (leads cs ec) ∙ budgets_added s count cpu priority quantum few
budgets_joined cs s count new.Pd few = budgets_more s count few
budgets_joined cs s count (new.Ec pd cpu kind sp event) few = budgets_more s count few
budgets_joined cs s count (new.Pt ec mtd ip) few = budgets_more s count few
budgets_joined cs s count (new.Sm n) few = budgets_more s count few

pub stamp_joined : (cs : Contexts) (s : Schedule) (count : ℕ) (new : NewObject) → (joined cs s count new).next_stamp ≡ stamp_past s.next_stamp new
stamp_joined cs s count (new.Sc ec cpu priority quantum) = marked_stamp (added s count cpu priority quantum) count (leads cs ec)
stamp_joined cs s count new.Pd = refl
stamp_joined cs s count (new.Ec pd cpu kind sp event) = refl
stamp_joined cs s count (new.Pt ec mtd ip) = refl
stamp_joined cs s count (new.Sm n) = refl

-- in other words: what an object that is made leaves
pub budgets_with : (cs : Contexts) (s after : Schedule) (os : List Object) (o : Object) (new : NewObject) → length s.entries ≤ length os →
    after ≡ joined cs s (length os) new → budgets_of after (length (os ++ o ∷ [])) ≡ budgets_of s (length os) ++ budget_of s.next_stamp new ∷ []
budgets_with cs s after os o new few is =
    ap₂ (λ (x : Schedule) (n : ℕ). budgets_of x n) is (length-append os (o ∷ [])) ∙ budgets_joined cs s (length os) new few

pub stamp_with : (cs : Contexts) (s after : Schedule) (n : ℕ) (new : NewObject) → after ≡ joined cs s n new → after.next_stamp ≡ stamp_past s.next_stamp new
stamp_with cs s after n new is = ap (λ (x : Schedule). x.next_stamp) is ∙ stamp_joined cs s n new

-- a scheduling context whose budget stays there stays in the queues
pub still_queued : (s after : Schedule) (count more sc : ℕ) → IsSome (queued_at s sc) →
    (IsSome (entry (slice_get (budgets_of s count) sc)) → IsSome (entry (slice_get (budgets_of after more) sc))) → IsSome (queued_at after sc)
still_queued s after count more sc there kept =
    from_budget (queued_at after sc)
    (subst (λ (o : Option Budget). IsSome o) (budget_queued after more sc)
    (kept (subst (λ (o : Option Budget). IsSome o) (sym (budget_queued s count sc)) (to_budget (queued_at s sc) there))))
  where
    to_budget : (o : Option Queued) → IsSome o → IsSome (option_map (λ (e : Queued). e.budget) o)
    to_budget None h = absurd cc
    to_budget (Some e) h = refl

    from_budget : (o : Option Queued) → IsSome (option_map (λ (e : Queued). e.budget) o) → IsSome o
    from_budget None h = absurd cc
    from_budget (Some e) h = refl
