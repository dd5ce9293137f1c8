-- A turn of others leaves a side's part as it is.
use Rattle.std.proofs.Common.{◌≡◌, ℕ, ◌<◌, ◌⊎◌, ◌==◌, zero, suc, List, [], ◌∷◌, length, refl, sym, ap, ◌∙◌, subst, inl, inr, arith}
use Rattle.std.specs.Prelude.{Bool, true, false, ◌&&◌, not, map, IsSome, is_some, slice_get, option_map, Option, Some, None}
use Rattle.std.specs.List.{find}
use Rattle.std.proofs.lemmas.Bool.{and_parts, eqb-true}
use Rattle.std.proofs.lemmas.Option.{slice_get_within}
use Rattle.nova_objects.specs.declared.object.Object.{Object}
use Rattle.nova_objects.specs.declared.object.Object.TheVariants.{Pd, Ec, Sc, Pt, Sm}
use Rattle.nova_range.specs.declared.range.Kind.{Kind}
use Rattle.nova_model.specs.Boot.{Scenario, boot}
use Rattle.nova_model.specs.Capabilities.{is_ec, is_pt, is_sc, is_sm}
use Rattle.nova_model.specs.Delegations.{Delegations, covers, has_place, is_same_kind, range_of}
use Rattle.nova_model.specs.Revokes.{in_scope, scope}
use Rattle.nova_model.specs.Runs.{after, run}
use Rattle.nova_model.specs.State.{KernelState, context_at, deadline_of, entry, pd_of}
use Rattle.nova_model.specs.declared.budget.Budget.{Budget}
use Rattle.nova_model.specs.declared.context.EcState.{EcState}
use Rattle.nova_model.specs.declared.context.State.TheVariants.{Blocked}
use Rattle.nova_model.specs.declared.delegation.Derivation.{Derivation}
use Rattle.nova_model.specs.declared.times.Deadline.{Deadline}
use Rattle.law_forest.proofs.Members.{contains_from_in, filtered_in, in_from_contains}
use Rattle.law_forest.proofs.Pairs.{same_id}
use Rattle.law_forest.proofs.Scopes.{find_more}
use Rattle.law_turns.specs.Tables.{HasTables, has_words}
use Rattle.law_turns.proofs.Tags.{get_map}
use Rattle.law_turns.proofs.TablesKept.{context_is}
use Rattle.law_isolation.specs.Sound.{IsSound}
use Rattle.law_isolation.proofs.Runs.{reached_sound, turn_sound}
use Rattle.law_isolation.proofs.Showing.{turn_frames}
use Rattle.law_turns.proofs.Serving.{IsActor}
use Rattle.law_origins.specs.Giving.{Acts}
use Rattle.law_origins.proofs.Actors.{object_stays}
use Rattle.law_integrity.specs.Confined.{AreSetsApart, StaysOrWakes, IsMember, IsOwned, IsWoken, LeavesTo, Stays as Unchanged, Wakes}
use Rattle.law_integrity.specs.Integrity.{Creates, Gives, GrowsByRight, IsByRight, Keeps, Takes}
use Rattle.law_integrity.specs.Rights.{HasTurn}
use Rattle.law_integrity.proofs.Authorised.{authorised_by}
use Rattle.law_integrity.proofs.Confining.{acting_one, any_held, gives_in, member_pd}
use Rattle.law_integrity.proofs.Entries.{same_length}
use Rattle.law_integrity.proofs.Leaving.{leaves_other}
use Rattle.law_forest.proofs.Changes.{reached_change}
use Rattle.law_flow.proofs.Origins.{origins_left}
use Rattle.law_flow.proofs.Sets.{find_less}
use Rattle.law_flow.specs.Flow.{AreAlike, IsGuarded, held_by}
use Rattle.law_flow.proofs.Seeing.{fronts_same}

-- TABLES

at_place : {T : Type 0} (xs : List (Option T)) (n : ℕ) → n < length xs → slice_get xs n ≡ Some (entry (slice_get xs n))
at_place [] n below = absurd (omega (arith, below))
at_place (x ∷ xs) zero below = refl
at_place (x ∷ xs) (suc n) below = at_place xs n (omega (arith, below))

pub raw : {T : Type 0} (xs ys : List (Option T)) (n : ℕ) → n < length xs → n < length ys → entry (slice_get ys n) ≡ entry (slice_get xs n) → slice_get ys n ≡ slice_get xs n
raw {T} xs ys n first second same = at_place ys n second ∙ ap (λ (o : Option T). Some o) same ∙ sym (at_place xs n first)

pub absent : {T : Type 0} (xs : List (Option T)) (f : Object → Bool) (os : List Object) (n : ℕ) → map is_some xs ≡ map f os → option_map f (slice_get os n) ≡ Some false → entry (slice_get xs n) ≡ None
absent {T} xs f os n same kind = by_entry (slice_get xs n) (sym (get_map is_some xs n) ∙ ap (λ (l : List Bool). slice_get l n) same ∙ get_map f os n ∙ kind)
  where
    by_entry : (o : Option (Option T)) → option_map is_some o ≡ Some false → entry o ≡ None
    by_entry None h = absurd (cc)
    by_entry (Some None) h = refl
    by_entry (Some (Some x)) h = absurd (cc)

-- an entry for an object that is there, which stays where the object is of that kind
pub table_same : {T : Type 0} (f : Object → Bool) (xs ys : List (Option T)) (os ps : List Object) (n : ℕ) (o : Object) → map is_some xs ≡ map f os → map is_some ys ≡ map f ps →
    slice_get os n ≡ Some o → slice_get ps n ≡ Some o → (f o ≡ true → entry (slice_get ys n) ≡ entry (slice_get xs n)) → slice_get ys n ≡ slice_get xs n
table_same f xs ys os ps n o first second before later same = raw xs ys n below also (by_kind (f o) refl)
  where
    below : n < length xs
    below = let within = slice_get_within os n o before in let size = same_length is_some f xs os first in omega (arith, within, size)

    also : n < length ys
    also = let within = slice_get_within ps n o later in let size = same_length is_some f ys ps second in omega (arith, within, size)

    by_kind : (t : Bool) → f o ≡ t → entry (slice_get ys n) ≡ entry (slice_get xs n)
    by_kind true is = same is
    by_kind false is =
        absent ys f ps n second (ap (option_map f) later ∙ ap (λ (t : Bool). Some t) is) ∙ sym (absent xs f os n first (ap (option_map f) before ∙ ap (λ (t : Bool). Some t) is))

-- no context of what is no execution context
no_context : (k : KernelState) (n : ℕ) (o : Object) → HasTables k → slice_get k.objects n ≡ Some o → is_ec o ≡ false → context_at k n ≡ None
no_context k n o tables is kind = by_test (is_some (context_at k n)) refl
  where
    none : (e : Option EcState) → is_some e ≡ false → e ≡ None
    none None h = refl
    none (Some x) h = absurd (cc)

    by_test : (t : Bool) → is_some (context_at k n) ≡ t → context_at k n ≡ None
    by_test false h = none (context_at k n) h
    by_test true h =
        let its : option_map is_ec (slice_get k.objects n) ≡ Some true = context_is k n h tables in
        let also : option_map is_ec (slice_get k.objects n) ≡ Some false = ap (option_map is_ec) is ∙ ap (λ (t : Bool). Some t) kind in absurd (let both : Some true ≡ Some false = sym its ∙ also in cc)

-- WHAT A DOMAIN HOLDS AT A PLACE

-- one of another domain covers no place there
pub of_another : (kind : Kind) (pd place : ℕ) (d : Derivation) → (d.pd ≡ pd → ⊥) → covers kind pd place d ≡ false
of_another kind pd place d other = by_test (covers kind pd place d) refl
  where
    by_test : (t : Bool) → covers kind pd place d ≡ t → t ≡ false
    by_test false is = refl
    by_test true is =
        let parts = and_parts (is_same_kind kind d.kind) (d.pd == pd && has_place (range_of d) place) is in
        let rest = and_parts (d.pd == pd) (has_place (range_of d) place) parts.1 in absurd (other (eqb-true d.pd pd rest.0))

-- A TURN OF ONE OF THE OTHERS

-- what is there
pub some_there : {T : Type 0} (o : Option T) → IsSome o → (x : T) × (o ≡ Some x)
some_there None h = absurd (cc)
some_there (Some x) h = (x, refl)

context_of_side : (k : KernelState) (S T P : ℕ → Type 0) → IsGuarded k S T P → (n : ℕ) (o : Object) → P n → slice_get k.objects n ≡ Some o → is_ec o ≡ true → IsMember k S n
context_of_side k S T P g n (Ec pd cpu kind event) p is h = record { domain = pd; cpu = cpu; kind = kind; event = event; object = is; of = subst (IsOwned k S n) is (g.owned n p) }
context_of_side k S T P g n Pd p is h = absurd (cc)
context_of_side k S T P g n (Sc donor cpu priority quantum) p is h = absurd (cc)
context_of_side k S T P g n (Pt handler mtd ip) p is h = absurd (cc)
context_of_side k S T P g n Sm p is h = absurd (cc)

words_are_contexts : (o : Object) → has_words o ≡ true → is_ec o ≡ true
words_are_contexts (Ec pd cpu kind event) h = refl
words_are_contexts Pd h = absurd (cc)
words_are_contexts (Sc donor cpu priority quantum) h = absurd (cc)
words_are_contexts (Pt handler mtd ip) h = absurd (cc)
words_are_contexts Sm h = absurd (cc)

no_deadline_there : (k : KernelState) (n : ℕ) (o : Object) → IsSound k → slice_get k.objects n ≡ Some o → is_ec o ≡ false → deadline_of k.times n ≡ None
no_deadline_there k n o sound is kind = by_deadline (deadline_of k.times n) refl
  where
    none : context_at k n ≡ None
    none = no_context k n o sound.kept.tables is kind

    by_deadline : (d : Option Deadline) → deadline_of k.times n ≡ d → d ≡ None
    by_deadline None at = refl
    by_deadline (Some d) at =
        let blocked = (sound.kept.deadlines n d at).blocked in
        absurd (let nobody : None ≡ Some (Blocked d.sm) = sym (ap (option_map (λ (x : EcState). x.state)) none) ∙ blocked in cc)

spaces_left : (k new : KernelState) (S T P : ℕ → Type 0) (ec : ℕ) → IsSound k → AreSetsApart k S T → IsGuarded k S T P → IsActor k.contexts ec → IsMember k T ec →
    GrowsByRight k new ec → (kind : Kind) (pd place : ℕ) → S pd → find (covers kind pd place) new.delegations.list ≡ find (covers kind pd place) k.delegations.list
spaces_left k new S T P ec sound apart g actor mine (Keeps objects same) kind pd place s = ap (λ (f : Delegations). find (covers kind pd place) f.list) same
spaces_left k new S T P ec sound apart g actor mine (Creates object capability first objects is) kind pd place s =
    ap (λ (f : Delegations). find (covers kind pd place) f.list) is
    ∙ find_more (covers kind pd place) k.delegations.list capability
    (of_another kind pd place capability (λ same. apart.separate.disjoint pd s (subst T (sym first.pd ∙ same) (member_pd k T ec mine))))
spaces_left k new S T P ec sound apart g actor mine (Gives child source has edge_ within shared given gives objects is) kind pd place s =
    ap (λ (f : Delegations). find (covers kind pd place) f.list) is
    ∙ find_more (covers kind pd place) k.delegations.list child
    (of_another kind pd place child (λ same. apart.separate.disjoint pd s (subst T same (gives_in k T ec source.pd child.pd sound apart.separate.second actor mine gives).1)))
spaces_left k new S T P ec sound apart g actor mine (Takes leaf may objects is) kind pd place s =
    ap (λ (f : Delegations). find (covers kind pd place) f.list) is
    ∙ find_less (covers kind pd place) (λ (x : Derivation). not (x.id == leaf.id)) k.delegations.list (λ x there out. of_another kind pd place x (λ same.
    let leaf_in = (filtered_in (in_scope (record { pd = pd_of k ec; range = may.range; own = may.own }) k.delegations.list) k.delegations.list leaf
    (in_from_contains (scope (record { pd = pd_of k ec; range = may.range; own = may.own }) k.delegations.list) leaf may.taken)).0 in
    let one : x ≡ leaf = same_id k.delegations.list x leaf sound.forest.rising (in_from_contains k.delegations.list x there) leaf_in (eqb-true x.id leaf.id (unnot (x.id == leaf.id) out)) in
    g.lines leaf may.ancestor (contains_from_in k.delegations.list leaf leaf_in) (subst S (sym same ∙ ap (λ (y : Derivation). y.pd) one) s) may.above (subst T (sym may.held) (member_pd k T ec mine))))
  where
    unnot : (t : Bool) → not t ≡ false → t ≡ true
    unnot true h = refl
    unnot false h = absurd (cc)

pub others_leave : (s : Scenario) (before : List ℕ) (S T P : ℕ → Type 0) (cpu ec : ℕ) → AreSetsApart (run (boot s) before) S T → IsGuarded (run (boot s) before) S T P → Acts (run (boot s) before) cpu ec →
    IsMember (run (boot s) before) T ec → AreAlike (run (boot s) before) (after (run (boot s) before) cpu) S P
others_leave s before S T P cpu ec apart g acts_ mine = record {
  objects = λ n p. stays n p;
  fronts = λ n p. fronts_same k.contexts new.contexts n (contexts n p (object n p).0 (object n p).1);
  contexts = λ n p its. contexts n p (object n p).0 (object n p).1;
  messages = λ n p its.
      table_same has_words k.messages new.messages k.objects new.objects n (object n p).0 tables.messages later.messages (object n p).1 (stays n p ∙ (object n p).1)
      (λ kind. left.messages n (context_of_side k S T P g n (object n p).0 p (object n p).1 (words_are_contexts (object n p).0 kind)));
  transfers = λ n p its.
      table_same is_ec k.transfers new.transfers k.objects new.objects n (object n p).0 tables.transfers later.transfers (object n p).1 (stays n p ∙ (object n p).1)
      (λ kind. left.transfers n (context_of_side k S T P g n (object n p).0 p (object n p).1 kind));
  identifiers = λ n p.
      table_same is_pt k.identifiers new.identifiers k.objects new.objects n (object n p).0 tables.identifiers later.identifiers (object n p).1 (stays n p ∙ (object n p).1)
      (identifier n p (object n p).0 (object n p).1);
  semaphores = λ n p.
      table_same is_sm k.semaphores new.semaphores k.objects new.objects n (object n p).0 tables.semaphores later.semaphores (object n p).1 (stays n p ∙ (object n p).1)
      (semaphore n p (object n p).0 (object n p).1);
  ticks = λ n p. ap (λ (o : Option (Option Budget)). option_map (λ (b : Budget). b.ticks) (entry o))
      (table_same is_sc k.budgets new.budgets k.objects new.objects n (object n p).0 tables.budgets later.budgets (object n p).1 (stays n p ∙ (object n p).1)
      (budget n p (object n p).0 (object n p).1));
  deadlines = λ n p. deadlines n p (object n p).0 (object n p).1;
  spaces = λ kind pd place s. ap (option_map held_by) (spaces_left k new S T P ec sound apart g actor mine by.2.grows kind pd place s);
  origins = λ kind pd place from mine_ theirs. origins_left k.delegations new.delegations sound.forest (reached_change s before cpu) kind pd place from (spaces_left k new S T P ec sound apart g actor mine by.2.grows kind pd place mine_);
  frames = λ pd page to its leads. left.frames to.frame (g.memory pd page to its leads);
  size = turn_frames k cpu;
}
  where
    k : KernelState
    k = run (boot s) before

    new : KernelState
    new = after (run (boot s) before) cpu

    sound : IsSound (run (boot s) before)
    sound = reached_sound s before

    again : IsSound (after (run (boot s) before) cpu)
    again = turn_sound (run (boot s) before) cpu (reached_sound s before)

    tables : HasTables (run (boot s) before)
    tables = sound.kept.tables

    later : HasTables (after (run (boot s) before) cpu)
    later = again.kept.tables

    actor : IsActor (run (boot s) before).contexts ec
    actor = acting_one (run (boot s) before) cpu ec acts_

    left : LeavesTo (run (boot s) before) (after (run (boot s) before) cpu) T S
    left = leaves_other s before S T cpu ec apart.separate acts_ mine

    by : (sc : ℕ) × HasTurn (run (boot s) before) cpu ec sc × IsByRight (run (boot s) before) (after (run (boot s) before) cpu) cpu ec sc
    by = authorised_by s before cpu ec acts_

    object : (n : ℕ) → P n → (o : Object) × (slice_get (run (boot s) before).objects n ≡ Some o)
    object n p = some_there (slice_get (run (boot s) before).objects n) (g.there n p)

    stays : (n : ℕ) → P n → slice_get (after (run (boot s) before) cpu).objects n ≡ slice_get (run (boot s) before).objects n
    stays n p = object_stays (run (boot s) before) cpu n (slice_get_within (run (boot s) before).objects n (object n p).0 (object n p).1)

    by_left : (n : ℕ) → IsMember k S n → StaysOrWakes k T n (context_at k n) (context_at new n) → context_at new n ≡ context_at k n
    by_left n m (Unchanged same) = same
    by_left n m (Wakes woken x old to) = absurd (apart.first n woken.sm woken.blocked m (any_held woken.may))

    below : (n : ℕ) → P n → n < length k.contexts
    below n p = let within = slice_get_within k.objects n (object n p).0 (object n p).1 in let size = sound.whole.places in omega (arith, within, size)

    still : (n : ℕ) → P n → n < length new.contexts
    still n p = let within = slice_get_within new.objects n (object n p).0 (stays n p ∙ (object n p).1) in let size = again.whole.places in omega (arith, within, size)

    contexts : (n : ℕ) → P n → (o : Object) → slice_get k.objects n ≡ Some o → slice_get new.contexts n ≡ slice_get k.contexts n
    contexts n p o is = raw k.contexts new.contexts n (below n p) (still n p) (by_kind (is_ec o) refl)
      where
        by_kind : (t : Bool) → is_ec o ≡ t → context_at new n ≡ context_at k n
        by_kind true kind = let m = context_of_side k S T P g n o p is kind in by_left n m (left.contexts n m)
        by_kind false kind = no_context new n o later (stays n p ∙ is) kind ∙ sym (no_context k n o tables is kind)

    identifier : (n : ℕ) → P n → (o : Object) → slice_get k.objects n ≡ Some o → is_pt o ≡ true → entry (slice_get new.identifiers n) ≡ entry (slice_get k.identifiers n)
    identifier n p (Pt handler mtd ip) is kind = left.identifiers n handler mtd ip is (subst (IsOwned k S n) is (g.owned n p))
    identifier n p Pd is kind = absurd (cc)
    identifier n p (Ec pd its event_kind event) is kind = absurd (cc)
    identifier n p (Sc donor its priority quantum) is kind = absurd (cc)
    identifier n p Sm is kind = absurd (cc)

    semaphore : (n : ℕ) → P n → (o : Object) → slice_get k.objects n ≡ Some o → is_sm o ≡ true → entry (slice_get new.semaphores n) ≡ entry (slice_get k.semaphores n)
    semaphore n p Sm is kind = left.semaphores n (slice_get_within k.objects n Sm is) (λ h. g.semaphores n p is (any_held h)) (λ h. g.semaphores n p is (any_held h))
    semaphore n p Pd is kind = absurd (cc)
    semaphore n p (Ec pd its event_kind event) is kind = absurd (cc)
    semaphore n p (Sc donor its priority quantum) is kind = absurd (cc)
    semaphore n p (Pt handler mtd ip) is kind = absurd (cc)

    budget : (n : ℕ) → P n → (o : Object) → slice_get k.objects n ≡ Some o → is_sc o ≡ true → entry (slice_get new.budgets n) ≡ entry (slice_get k.budgets n)
    budget n p (Sc donor its priority quantum) is kind = left.budgets n donor its priority quantum is (subst (IsOwned k S n) is (g.owned n p))
    budget n p Pd is kind = absurd (cc)
    budget n p (Ec pd its event_kind event) is kind = absurd (cc)
    budget n p (Pt handler mtd ip) is kind = absurd (cc)
    budget n p Sm is kind = absurd (cc)

    waits_on : (n : ℕ) → IsMember k S n → (deadline_of new.times n ≡ deadline_of k.times n) ⊎ IsWoken k T n → deadline_of new.times n ≡ deadline_of k.times n
    waits_on n m (inl same) = same
    waits_on n m (inr woken) = absurd (apart.first n woken.sm woken.blocked m (any_held woken.may))

    deadlines : (n : ℕ) → P n → (o : Object) → slice_get k.objects n ≡ Some o → slice_get new.times.deadlines n ≡ slice_get k.times.deadlines n
    deadlines n p o is = raw k.times.deadlines new.times.deadlines n within also (by_kind (is_ec o) refl)
      where
        within : n < length k.times.deadlines
        within = let inside = slice_get_within k.objects n o is in let size = tables.deadlines in omega (arith, inside, size)

        also : n < length new.times.deadlines
        also = let inside = slice_get_within new.objects n o (stays n p ∙ is) in let size = later.deadlines in omega (arith, inside, size)

        by_kind : (t : Bool) → is_ec o ≡ t → deadline_of new.times n ≡ deadline_of k.times n
        by_kind true kind = let m = context_of_side k S T P g n o p is kind in waits_on n m (left.deadlines n m)
        by_kind false kind = no_deadline_there new n o again (stays n p ∙ is) kind ∙ sym (no_deadline_there k n o sound is kind)
