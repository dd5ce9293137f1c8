-- Scheduling contexts of one processor that are marked anew.
use Rattle.std.proofs.Common.{◌≡◌, ℕ, zero, suc, ◌+◌, ◌<◌, ◌==◌, List, [], ◌∷◌, length, refl, ap, ap₂, sym, ◌∙◌, subst, arith, IsSome}
use Rattle.std.specs.Prelude.{Bool, true, false, not, ◌&&◌, ◌||◌, ◌≢◌, eqb, if◌then◌else◌, Option, Some, None, IfSome, is_some, drop, option_and_then, option_map, slice_get, slice_index_or, slice_set}
use Rattle.std.specs.List.{list_any}
use Rattle.nova_model.specs.Choice.{in_front}
use Rattle.nova_model.specs.Edges.{after_edges, chase, cpu_in, edge}
use Rattle.nova_model.specs.State.{Contexts, KernelState, budget_at, entry}
use Rattle.nova_model.specs.declared.budget.Budget.{Budget}
use Rattle.nova_objects.specs.declared.object.Object.{Object}
use Rattle.nova_objects.specs.declared.object.Object.TheVariants.{Pd, Ec, Sc, Pt, Sm}
use Rattle.nova_ec.proofs.Walks.{after_edges-last}
use Rattle.nova_sched.specs.Queues.{Schedule, marked, marked_by, member_of, members, members_from, queued_at}
use Rattle.nova_sched.specs.declared.queued.Queued.{Queued}
use Rattle.nova_choice.specs.Schedules.{AreQueued, AreQueuedBeyond, AreQueuedBut, AreQueuedBy, Avoids, NeverWaits, actor_of, budgets_of, but_for, leads, owner_in, remarked, wanted, wanted_with}
use Rattle.nova_choice.proofs.Budgets.{remarked_budgets, remarked_stamp}
use Rattle.nova_choice.proofs.Joins.{marked_cpus, marked_length, marked_none, marked_other, marked_same}

-- MEMBERS

members_mark : (cpu n i : ℕ) (es : List (Option Queued)) (e : Queued) (b : Bool) → entry (slice_get es i) ≡ Some e →
    members_from cpu n (slice_set es i (Some (record e { is_runnable = b }))) ≡ members_from cpu n es
members_mark cpu n i [] e b there = refl
members_mark cpu n zero (o ∷ es) e b there = ap (λ (p : Option Queued). in_front (member_of cpu n p) (members_from cpu (n + 1) es)) (sym there)
members_mark cpu n (suc i) (o ∷ es) e b there = ap (in_front (member_of cpu n o)) (members_mark cpu (n + 1) i es e b there)

-- a mark keeps them
pub members_marked : (s : Schedule) (sc cpu : ℕ) (b : Bool) → members (marked s sc b) cpu ≡ members s cpu
members_marked s sc cpu b = by_entry (queued_at s sc) refl
  where
    by_entry : (o : Option Queued) → queued_at s sc ≡ o → members (marked_by s sc b o) cpu ≡ members s cpu
    by_entry None there = refl
    by_entry (Some e) there = members_mark cpu 0 sc s.entries e b there

-- each is there
record IsMember (n m : ℕ) (es : List (Option Queued)) : Type 0 where
  place : ℕ
  number : m ≡ n + place
  there : IsSome (entry (slice_get es place))

member_later : (n m : ℕ) (o : Option Queued) (es : List (Option Queued)) → IsMember (n + 1) m es → IsMember n m (o ∷ es)
member_later n m o es rest =
    record { place = suc rest.place; number = rest.number ∙ (let e : n + 1 + rest.place ≡ n + suc rest.place = omega arith in e); there = rest.there }

member_there : (cpu n i m : ℕ) (es : List (Option Queued)) → slice_get (members_from cpu n es) i ≡ Some m → IsMember n m es
member_there cpu n i m [] h = absurd cc
member_there cpu n i m (None ∷ es) h = member_later n m None es (member_there cpu (n + 1) i m es h)
member_there cpu n i m (Some e ∷ es) h = by_test (λ j g. member_later n m (Some e) es (member_there cpu (n + 1) j m es g)) (e.cpu == cpu) i h
  where
    by_test : ((j : ℕ) → slice_get (members_from cpu (n + 1) es) j ≡ Some m → IsMember n m (Some e ∷ es)) → (t : Bool) → (j : ℕ) →
        slice_get (in_front (if t then Some n else None) (members_from cpu (n + 1) es)) j ≡ Some m → IsMember n m (Some e ∷ es)
    by_test go false j g = go j g
    by_test go true zero g =
        record { place = 0; number = (let same : n ≡ m = cc in sym same) ∙ (let e : n ≡ n + 0 = omega arith in e); there = refl }
    by_test go true (suc j) g = go j g

pub members_there : (s : Schedule) (cpu i m : ℕ) → slice_get (members s cpu) i ≡ Some m → IsSome (queued_at s m)
members_there s cpu i m h =
    let found = member_there cpu 0 i m s.entries h in
    subst (λ (n : ℕ). IsSome (queued_at s n)) (let e : found.place ≡ m = let n = found.number in omega (arith, n) in e) found.there

-- and each that is there is one
member_listed : (cpu n i : ℕ) (es : List (Option Queued)) (e : Queued) → entry (slice_get es i) ≡ Some e → (e.cpu == cpu) ≡ true →
    list_any (eqb (n + i)) (members_from cpu n es) ≡ true
member_listed cpu n i [] e there home = absurd cc
member_listed cpu n zero (o ∷ es) e there home =
    ap (λ (p : Option Queued). list_any (eqb (n + 0)) (in_front (member_of cpu n p) (members_from cpu (n + 1) es))) there
    ∙ rw home (rw (let same : eqb (n + 0) n ≡ true = grind arith in same) refl)
member_listed cpu n (suc i) (o ∷ es) e there home =
    any_in_front (n + suc i) (member_of cpu n o) (members_from cpu (n + 1) es)
    (subst (λ (m : ℕ). list_any (eqb m) (members_from cpu (n + 1) es) ≡ true) (let same : n + 1 + i ≡ n + suc i = omega arith in same) (member_listed cpu (n + 1) i es e there home))
  where
    or_true : (t : Bool) → (t || true) ≡ true
    or_true true = refl
    or_true false = refl

    any_in_front : (m : ℕ) (o : Option ℕ) (ms : List ℕ) → list_any (eqb m) ms ≡ true → list_any (eqb m) (in_front o ms) ≡ true
    any_in_front m None ms h = h
    any_in_front m (Some x) ms h = ap (λ (t : Bool). eqb m x || t) h ∙ or_true (eqb m x)

pub members_listed : (s : Schedule) (cpu sc : ℕ) (e : Queued) → queued_at s sc ≡ Some e → (e.cpu == cpu) ≡ true → list_any (eqb sc) (members s cpu) ≡ true
members_listed s cpu sc e there home =
    subst (λ (m : ℕ). list_any (eqb m) (members s cpu) ≡ true) (let same : 0 + sc ≡ sc = omega arith in same) (member_listed cpu 0 sc s.entries e there home)

-- MARKS

abbrev mark_of : List Object → Contexts → ℕ → Bool
mark_of objects cs sc = is_some (actor_of cs (slice_get objects sc))

abbrev with_mark : Bool → Bool → Option Queued → Option Queued
with_mark true b o = option_map (λ (e : Queued). record e { is_runnable = b }) o
with_mark false b o = o

with_mark_twice : (t b : Bool) (o : Option Queued) → with_mark t b (with_mark true b o) ≡ with_mark true b o
with_mark_twice true b None = refl
with_mark_twice true b (Some e) = refl
with_mark_twice false b o = refl

marked_at : (s : Schedule) (sc : ℕ) (b : Bool) → queued_at (marked s sc b) sc ≡ with_mark true b (queued_at s sc)
marked_at s sc b = by_entry (queued_at s sc) refl
  where
    by_entry : (o : Option Queued) → queued_at s sc ≡ o → queued_at (marked s sc b) sc ≡ with_mark true b (queued_at s sc)
    by_entry None there = ap (λ (x : Schedule). queued_at x sc) (marked_none s sc b there) ∙ there ∙ sym (ap (with_mark true b) there)
    by_entry (Some e) there = marked_same s sc b e there ∙ sym (ap (with_mark true b) there)

-- those of the list are marked, and no other
remarked_at : (objects : List Object) (cs : Contexts) (scs : List ℕ) (s : Schedule) (sc : ℕ) →
    queued_at (remarked objects cs scs s) sc ≡ with_mark (list_any (eqb sc) scs) (mark_of objects cs sc) (queued_at s sc)
remarked_at objects cs [] s sc = refl
remarked_at objects cs (x ∷ xs) s sc = remarked_at objects cs xs (marked s x (mark_of objects cs x)) sc ∙ by_place (eqb sc x) refl
  where
    by_place : (t : Bool) → eqb sc x ≡ t →
        with_mark (list_any (eqb sc) xs) (mark_of objects cs sc) (queued_at (marked s x (mark_of objects cs x)) sc)
        ≡ with_mark (t || list_any (eqb sc) xs) (mark_of objects cs sc) (queued_at s sc)
    by_place true is =
        let same : x ≡ sc = grind (arith, is) in
        ap (λ (y : ℕ). with_mark (list_any (eqb sc) xs) (mark_of objects cs sc) (queued_at (marked s y (mark_of objects cs y)) sc)) same
        ∙ ap (with_mark (list_any (eqb sc) xs) (mark_of objects cs sc)) (marked_at s sc (mark_of objects cs sc))
        ∙ with_mark_twice (list_any (eqb sc) xs) (mark_of objects cs sc) (queued_at s sc)
    by_place false is =
        ap (with_mark (list_any (eqb sc) xs) (mark_of objects cs sc)) (marked_other s x sc (mark_of objects cs x) (λ same. absurd (grind (arith, is, same))))

remarked_cpus : (objects : List Object) (cs : Contexts) (scs : List ℕ) (s : Schedule) → (remarked objects cs scs s).cpus ≡ s.cpus
remarked_cpus objects cs [] s = refl
remarked_cpus objects cs (sc ∷ scs) s = remarked_cpus objects cs scs (marked s sc (mark_of objects cs sc)) ∙ marked_cpus s sc (mark_of objects cs sc)

remarked_length : (objects : List Object) (cs : Contexts) (scs : List ℕ) (s : Schedule) → length (remarked objects cs scs s).entries ≡ length s.entries
remarked_length objects cs [] s = refl
remarked_length objects cs (sc ∷ scs) s = remarked_length objects cs scs (marked s sc (mark_of objects cs sc)) ∙ marked_length s sc (mark_of objects cs sc)

-- a scheduling context that waits as it is wanted is marked by the context that acts in its turns
acts_in : (cs : Contexts) (ec : ℕ) → leads cs ec ≡ is_some (actor_of cs (Some (Sc ec 0 0 0)))
acts_in cs ec = by_test (leads cs ec)
  where
    by_test : (t : Bool) → t ≡ is_some (if t then Some (chase cs ec) else None)
    by_test true = refl
    by_test false = refl

wanted_mark : (cs : Contexts) (o : Option Object) (b : Option Budget) (v : Queued) → wanted_with cs o b ≡ Some v → v.is_runnable ≡ is_some (actor_of cs o)
wanted_mark cs (Some (Sc ec cpu priority quantum)) (Some b) v h =
    sym (let same : leads cs ec ≡ v.is_runnable = ap (λ (e : Option Queued). mark_in e) h in same) ∙ acts_in cs ec
  where
    mark_in : Option Queued → Bool
    mark_in None = false
    mark_in (Some e) = e.is_runnable
wanted_mark cs (Some (Sc ec cpu priority quantum)) None v h = absurd cc
wanted_mark cs (Some Pd) b v h = absurd cc
wanted_mark cs (Some (Ec pd cpu kind event)) b v h = absurd cc
wanted_mark cs (Some (Pt ec mtd ip)) b v h = absurd cc
wanted_mark cs (Some Sm) b v h = absurd cc
wanted_mark cs None b v h = absurd cc

-- an entry that is right but for its mark
right_when_marked : (home : ℕ) (t b : Bool) (o w : Option Queued) → but_for (Some home) o ≡ but_for (Some home) w →
    ((v : Queued) → w ≡ Some v → v.is_runnable ≡ b) → ((e : Queued) → o ≡ Some e → (e.cpu == home) ≡ true → t ≡ true) → with_mark t b o ≡ w
right_when_marked home t b None None same mark listed = by_test t
  where
    by_test : (u : Bool) → with_mark u b None ≡ None
    by_test true = refl
    by_test false = refl
right_when_marked home t b None (Some v) same mark listed = absurd cc
right_when_marked home t b (Some e) None same mark listed = absurd cc
right_when_marked home t b (Some e) (Some v) same mark listed =
    let inner : record e { is_runnable = not (e.cpu == home) && e.is_runnable } ≡ record v { is_runnable = not (v.cpu == home) && v.is_runnable } = cc in
    by_place (e.cpu == home) refl t (listed e refl) inner
  where
    with_runs : Queued → Bool → Queued
    with_runs x r = record x { is_runnable = r }

    marked_like : record e { is_runnable = not (e.cpu == home) && e.is_runnable } ≡ record v { is_runnable = not (v.cpu == home) && v.is_runnable } → (r : Bool) → with_runs e r ≡ with_runs v r
    marked_like inner r = ap (λ (x : Queued). with_runs x r) inner

    by_place : (u : Bool) → (e.cpu == home) ≡ u → (t : Bool) → ((e.cpu == home) ≡ true → t ≡ true) →
        record e { is_runnable = not (e.cpu == home) && e.is_runnable } ≡ record v { is_runnable = not (v.cpu == home) && v.is_runnable } → with_mark t b (Some e) ≡ Some v
    by_place u at true here inner = ap (λ (x : Queued). Some x) (marked_like inner b ∙ ap (with_runs v) (sym (mark v refl)))
    by_place true at false here inner = absurd (let no_way : false ≡ true = here at in cc)
    by_place false at false here inner =
        let cpu : e.cpu ≡ v.cpu = ap (λ (x : Queued). x.cpu) inner in
        let runs : e.is_runnable ≡ v.is_runnable =
        (let left : (not (e.cpu == home) && e.is_runnable) ≡ (not (v.cpu == home) && v.is_runnable) = ap (λ (x : Queued). x.is_runnable) inner in
        let other : (v.cpu == home) ≡ false = ap (λ (n : ℕ). n == home) (sym cpu) ∙ at in
        sym (rw at refl) ∙ left ∙ rw other refl) in
        ap (λ (x : Queued). Some x) (ap (with_runs e) runs ∙ marked_like inner v.is_runnable)

-- all members of the processor are marked, so that the queues are right
pub remarked_queued : (k : KernelState) (s : Schedule) (home : ℕ) → AreQueuedBut (Some home) k s → AreQueued k (remarked k.objects k.contexts (members s home) s)
remarked_queued k s home queued = record {
  cpus = rw (remarked_cpus k.objects k.contexts (members s home) s) queued.cpus;
  numbers = rw (remarked_length k.objects k.contexts (members s home) s) queued.numbers;
  stamp = remarked_stamp k.objects k.contexts (members s home) s ∙ queued.stamp;
  entries = λ sc.
      remarked_at k.objects k.contexts (members s home) s sc
      ∙ right_when_marked home (list_any (eqb sc) (members s home)) (mark_of k.objects k.contexts sc) (queued_at s sc) (wanted k sc) (queued.entries sc)
      (λ v is. wanted_mark k.contexts (slice_get k.objects sc) (budget_at k sc) v is) (λ e is at. members_listed s home sc e is at);
  homes = λ number. rw (remarked_cpus k.objects k.contexts (members s home) s) (queued.homes number);
  owners = queued.owners;
}

-- one alone is marked, where the context to which ways come has no other scheduling context
pub marked_own : (k : KernelState) (s : Schedule) (moved at x : ℕ) → AreQueuedBy moved at k s → ((sc : ℕ) → owner_in (slice_get k.objects sc) ≡ Some at → x ≡ sc) →
    AreQueuedBeyond moved at k (remarked k.objects k.contexts (x ∷ []) s)
marked_own k s moved at x queued only = record {
  near = record {
    cpus = rw (remarked_cpus k.objects k.contexts (x ∷ []) s) queued.near.cpus;
    numbers = rw (remarked_length k.objects k.contexts (x ∷ []) s) queued.near.numbers;
    stamp = remarked_stamp k.objects k.contexts (x ∷ []) s ∙ queued.near.stamp;
    entries = λ sc. ap (but_for (cpu_in k.contexts moved)) (remarked_at k.objects k.contexts (x ∷ []) s sc) ∙ near_by sc (eqb sc x);
    homes = λ number. rw (remarked_cpus k.objects k.contexts (x ∷ []) s) (queued.near.homes number);
    owners = queued.near.owners;
  };
  others = λ sc never. remarked_at k.objects k.contexts (x ∷ []) s sc ∙ others_by sc (eqb sc x) refl (owner_in (slice_get k.objects sc)) refl never;
}
  where
    by_stale : (sc : ℕ) (stale : Option ℕ) → but_for stale (queued_at s sc) ≡ but_for stale (wanted k sc) →
        with_mark true (mark_of k.objects k.contexts sc) (queued_at s sc) ≡ wanted k sc
    by_stale sc (Some home) same =
        right_when_marked home true (mark_of k.objects k.contexts sc) (queued_at s sc) (wanted k sc) same
        (λ v is. wanted_mark k.contexts (slice_get k.objects sc) (budget_at k sc) v is) (λ e is at. refl)
    by_stale sc None same =
        right_when_marked 0 true (mark_of k.objects k.contexts sc) (queued_at s sc) (wanted k sc) (ap (but_for (Some 0)) same)
        (λ v is. wanted_mark k.contexts (slice_get k.objects sc) (budget_at k sc) v is) (λ e is at. refl)

    near_by : (sc : ℕ) (t : Bool) → but_for (cpu_in k.contexts moved) (with_mark (t || false) (mark_of k.objects k.contexts sc) (queued_at s sc)) ≡ but_for (cpu_in k.contexts moved) (wanted k sc)
    near_by sc true = ap (but_for (cpu_in k.contexts moved)) (by_stale sc (cpu_in k.contexts moved) (queued.near.entries sc))
    near_by sc false = queued.near.entries sc

    never_at : (ec : ℕ) → ec ≢ at → NeverWaits k.contexts at ec → Avoids k.contexts at ec
    never_at ec apart never zero meets = apart (let same : ec ≡ at = cc in same)
    never_at ec apart never (suc n) meets = never n meets

    others_by : (sc : ℕ) (t : Bool) → eqb sc x ≡ t → (o : Option ℕ) → owner_in (slice_get k.objects sc) ≡ o → IfSome o (NeverWaits k.contexts at) →
        with_mark (t || false) (mark_of k.objects k.contexts sc) (queued_at s sc) ≡ wanted k sc
    others_by sc true is o owner never = by_stale sc (cpu_in k.contexts moved) (queued.near.entries sc)
    others_by sc false is None owner never = queued.others sc (subst (λ (o : Option ℕ). IfSome o (Avoids k.contexts at)) (sym owner) tt)
    others_by sc false is (Some ec) owner never =
        queued.others sc (subst (λ (o : Option ℕ). IfSome o (Avoids k.contexts at)) (sym owner)
        (never_at ec (λ same. absurd (let here = only sc (owner ∙ ap Some same) in grind (arith, is, here))) never))

-- none is, where it has none
pub none_own : (k : KernelState) (s : Schedule) (moved at : ℕ) → AreQueuedBy moved at k s → ((sc : ℕ) → owner_in (slice_get k.objects sc) ≢ Some at) → AreQueuedBeyond moved at k s
none_own k s moved at queued none = record {
  near = queued.near;
  others = λ sc never. queued.others sc (by_owner sc (owner_in (slice_get k.objects sc)) refl never);
}
  where
    never_at : (ec : ℕ) → ec ≢ at → NeverWaits k.contexts at ec → Avoids k.contexts at ec
    never_at ec apart never zero meets = apart (let same : ec ≡ at = cc in same)
    never_at ec apart never (suc n) meets = never n meets

    by_owner : (sc : ℕ) (o : Option ℕ) → owner_in (slice_get k.objects sc) ≡ o → IfSome o (NeverWaits k.contexts at) → IfSome o (Avoids k.contexts at)
    by_owner sc None owner never = tt
    by_owner sc (Some ec) owner never = never_at ec (λ same. none sc (owner ∙ ap Some same)) never

-- all are right, so that others are
pub all_beyond : (k : KernelState) (s : Schedule) (moved at : ℕ) → AreQueued k s → AreQueuedBeyond moved at k s
all_beyond k s moved at queued = record {
  near = record {
    cpus = queued.cpus;
    numbers = queued.numbers;
    stamp = queued.stamp;
    entries = λ sc. ap (but_for (cpu_in k.contexts moved)) (queued.entries sc);
    homes = queued.homes;
    owners = queued.owners;
  };
  others = λ sc never. queued.entries sc;
}

-- the last edge of a way
last_edge : (g : ℕ → Option ℕ) (n e at : ℕ) → after_edges (suc n) g e ≡ Some at → (y : ℕ) × (after_edges n g e ≡ Some y) × (g y ≡ Some at)
last_edge g n e at way = by_mid (after_edges n g e) refl (sym (after_edges-last n g e) ∙ way)
  where
    by_mid : (o : Option ℕ) → after_edges n g e ≡ o → option_and_then g o ≡ Some at → (y : ℕ) × (after_edges n g e ≡ Some y) × (g y ≡ Some at)
    by_mid None is last = absurd cc
    by_mid (Some y) is last = (y, is, last)

-- where none waits for it, all are right
pub beyond_nobody : (k : KernelState) (s : Schedule) (moved at : ℕ) → AreQueuedBeyond moved at k s → ((z : ℕ) → edge k.contexts z ≢ Some at) → AreQueued k s
beyond_nobody k s moved at queued nobody = record {
  cpus = queued.near.cpus;
  numbers = queued.near.numbers;
  stamp = queued.near.stamp;
  entries = λ sc. queued.others sc (by_owner (owner_in (slice_get k.objects sc)));
  homes = queued.near.homes;
  owners = queued.near.owners;
}
  where
    by_owner : (o : Option ℕ) → IfSome o (NeverWaits k.contexts at)
    by_owner None = tt
    by_owner (Some ec) = λ n meets. let last = last_edge (edge k.contexts) n ec at meets in nobody last.0 last.2

-- where one context waits for it alone, those that never come to that are
pub beyond_only : (k : KernelState) (s : Schedule) (moved at waiter : ℕ) → AreQueuedBeyond moved at k s → ((z : ℕ) → edge k.contexts z ≡ Some at → waiter ≡ z) → AreQueuedBy moved waiter k s
beyond_only k s moved at waiter queued only = record {
  near = queued.near;
  others = λ sc avoids. queued.others sc (by_owner (owner_in (slice_get k.objects sc)) avoids);
}
  where
    by_owner : (o : Option ℕ) → IfSome o (Avoids k.contexts waiter) → IfSome o (NeverWaits k.contexts at)
    by_owner None avoids = tt
    by_owner (Some ec) avoids = λ n meets. let last = last_edge (edge k.contexts) n ec at meets in avoids n (last.1 ∙ ap Some (sym (only last.0 last.2)))

-- the state with other budgets and another stamp
unfoldable pub with_budgets : KernelState → List (Option Budget) → ℕ → KernelState
with_budgets k budgets stamp = record k { budgets = budgets; next_stamp = stamp }

-- marks show nothing
pub refreshed_shown : (k : KernelState) (s after : Schedule) (count : ℕ) (scs : List ℕ) → k.budgets ≡ budgets_of s count → k.next_stamp ≡ s.next_stamp →
    after ≡ remarked k.objects k.contexts scs s → record k { budgets = budgets_of after count; next_stamp = after.next_stamp } ≡ k
unfolding with_budgets
refreshed_shown k s after count scs budgets stamp is =
    ap₂ (with_budgets k) (ap (λ (x : Schedule). budgets_of x count) is ∙ remarked_budgets k.objects k.contexts scs s count ∙ sym budgets)
    (ap (λ (x : Schedule). x.next_stamp) is ∙ remarked_stamp k.objects k.contexts scs s ∙ sym stamp)

pub refreshed_queued : (k new : KernelState) (s after : Schedule) (scs : List ℕ) → AreQueued k (remarked k.objects k.contexts scs s) → new ≡ k →
    after ≡ remarked k.objects k.contexts scs s → AreQueued new after
refreshed_queued k new s after scs queued same is =
    subst (λ (x : KernelState). AreQueued x after) (sym same) (subst (λ (x : Schedule). AreQueued k x) (sym is) queued)

-- one after another

index_there : (xs : List ℕ) (i : ℕ) → i < length xs → slice_get xs i ≡ Some (slice_index_or xs i 0)
index_there [] i h = absurd (omega (arith, h))
index_there (x ∷ xs) zero h = refl
index_there (x ∷ xs) (suc i) h = index_there xs i (omega (arith, h))

drop_here : (xs : List ℕ) (i : ℕ) → i < length xs → drop i xs ≡ slice_index_or xs i 0 ∷ drop (suc i) xs
drop_here [] i h = absurd (omega (arith, h))
drop_here (x ∷ xs) zero h = refl
drop_here (x ∷ xs) (suc i) h = drop_here xs i (omega (arith, h))

-- the next is there
pub next_there : (s : Schedule) (cpu i : ℕ) (ms : List ℕ) → ms ≡ members s cpu → i < length ms → IsSome (queued_at s (slice_index_or ms i 0))
next_there s cpu i ms is below = members_there s cpu i (slice_index_or ms i 0) (ap (λ (xs : List ℕ). slice_get xs i) (sym is) ∙ index_there ms i below)

pub members_after : (s after : Schedule) (cpu sc : ℕ) (b : Bool) → after ≡ marked s sc b → members after cpu ≡ members s cpu
members_after s after cpu sc b is = ap (λ (x : Schedule). members x cpu) is ∙ members_marked s sc cpu b

pub remarked_next : (objects : List Object) (cs : Contexts) (s after : Schedule) (cpu i : ℕ) (ms : List ℕ) (b : Bool) → ms ≡ members s cpu → i < length ms →
    b ≡ is_some (actor_of cs (slice_get objects (slice_index_or ms i 0))) → after ≡ marked s (slice_index_or ms i 0) b →
    remarked objects cs (drop (i + 1) (members after cpu)) after ≡ remarked objects cs (drop i (members s cpu)) s
remarked_next objects cs s after cpu i ms b is below mark marks =
    let sc = slice_index_or ms i 0 in
    ap (λ (xs : List ℕ). remarked objects cs (drop (i + 1) xs) after) (members_after s after cpu sc b marks ∙ sym is)
    ∙ ap (λ (x : Schedule). remarked objects cs (drop (i + 1) ms) x) (marks ∙ ap (marked s sc) mark)
    ∙ ap (λ (n : ℕ). remarked objects cs (sc ∷ drop n ms) s) (let e : i + 1 ≡ suc i = omega arith in e)
    ∙ ap (λ (xs : List ℕ). remarked objects cs xs s) (sym (drop_here ms i below))
    ∙ ap (λ (xs : List ℕ). remarked objects cs (drop i xs) s) is
