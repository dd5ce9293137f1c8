-- A part with the numbers that no object has yet is the same where the part of what is there is, and as many objects are there.
use Rattle.std.proofs.Common.{arith, ◌≡◌, ◌<◌, ◌≤◌, ℕ, zero, suc, ◌==◌, List, [], ◌∷◌, length, refl, sym, ap, ap₂, ◌∙◌}
use Rattle.std.specs.Prelude.{Bool, true, false, ◌&&◌, is_some, nat_lt, slice_get, option_map, option_and_then, Option, Some, None}
use Rattle.std.specs.List.{find}
use Rattle.std.proofs.lemmas.Bool.{and_parts, eqb-true}
use Rattle.std.proofs.lemmas.Bool.Decides.{nat_tests}
use Rattle.std.proofs.lemmas.Option.{slice_get_within}
use Rattle.nova_guest.specs.declared.page.Page.{Page}
use Rattle.nova_objects.specs.ObjectTables.{is_domain}
use Rattle.nova_objects.specs.declared.object.Object.{Object}
use Rattle.nova_objects.specs.declared.object.Object.TheVariants.{Ec, Pd, Pt, Sc, Sm}
use Rattle.nova_range.specs.declared.range.Kind.{Kind}
use Rattle.nova_range.specs.declared.range.Kind.TheVariants.{Mem}
use Rattle.nova_model.specs.Capabilities.{is_ec, is_pt, is_sc, is_sm}
use Rattle.nova_model.specs.Choice.{Candidate, next_to_act}
use Rattle.nova_model.specs.Delegations.{covers, is_same_kind, has_place, range_of, reach}
use Rattle.nova_model.specs.Edges.{caller_in, edge, edge_of, state_in}
use Rattle.nova_model.specs.Lines.{line}
use Rattle.nova_model.specs.Semaphores.{has, semaphore_at, semaphore_in, waits}
use Rattle.nova_model.specs.State.{KernelState, Semaphore, context_at, ec_in, entry, pd_in, pd_of}
use Rattle.nova_model.specs.declared.budget.Budget.{Budget}
use Rattle.nova_model.specs.declared.context.EcState.{EcState}
use Rattle.nova_model.specs.declared.context.Mark.{Mark}
use Rattle.nova_model.specs.declared.context.State.{State}
use Rattle.nova_model.specs.declared.delegation.Derivation.{Derivation}
use Rattle.law_forest.proofs.Members.{IsIn, contains_from_in, found_in}
use Rattle.law_turns.specs.Tables.{HasTables, Refers, has_words}
use Rattle.law_turns.proofs.Setting.{entry_below}
use Rattle.law_turns.proofs.TablesKept.{contexts_length}
use Rattle.law_isolation.specs.Sound.{IsSound}
use Rattle.law_integrity.specs.Confined.{Of}
use Rattle.law_integrity.proofs.Edges.{at_index}
use Rattle.law_integrity.proofs.Entries.{same_length}
use Rattle.law_integrity.proofs.Homes.{AreHomed, home_there}
use Rattle.law_flow.specs.Flow.{AreAlike, IsSide, domains, existing, fronts, held_by, if_own, origin_at, origin_of, own_turn}
use Rattle.law_flow.proofs.Leaving.{absent, raw}
use Rattle.law_flow.proofs.Sets.{line_in}

-- WHAT IS THERE

pub is_below : (n m : ℕ) → nat_lt n m ≡ true → n < m
is_below n m h = grind (arith, nat_tests, h)

below_is : (n m : ℕ) → n < m → nat_lt n m ≡ true
below_is n m h = grind (arith, nat_tests)

pub past_is : (n m : ℕ) → nat_lt n m ≡ false → m ≤ n
past_is n m h = grind (arith, nat_tests, h)

pub in_existing : (k : KernelState) (S : ℕ → Bool) (n : ℕ) → S n ≡ true → n < length k.objects → existing k S n ≡ true
in_existing k S n s below = ap₂ (λ (t u : Bool). t && u) s (below_is n (length k.objects) below)

pub in_domains : (k : KernelState) (S : ℕ → Bool) (n : ℕ) → S n ≡ true → slice_get k.objects n ≡ Some Pd → domains k S n ≡ true
in_domains k S n s at = ap₂ (λ (t : Bool) (o : Option Object). t && is_domain o) s at

pub of_domains : (k : KernelState) (S : ℕ → Bool) (n : ℕ) → domains k S n ≡ true → S n ≡ true
of_domains k S n h = (and_parts (S n) (is_domain (slice_get k.objects n)) h).0

-- no domain, where one is
no_domain : {A : Type 0} (o : Option Object) → o ≡ Some Pd → is_domain o ≡ false → A
no_domain o at away = absurd (let is : is_domain o ≡ true = ap is_domain at in let both : true ≡ false = sym is ∙ away in cc)

-- one that is a domain's is one's that is there
pub domain_at : (k : KernelState) (S : ℕ → Bool) (n : ℕ) → domains k S n ≡ true → slice_get k.objects n ≡ Some Pd
domain_at k S n h = by_object (slice_get k.objects n) (and_parts (S n) (is_domain (slice_get k.objects n)) h).1
  where
    by_object : (o : Option Object) → is_domain o ≡ true → o ≡ Some Pd
    by_object (Some Pd) is = refl
    by_object (Some (Ec pd cpu kind event)) is = absurd (cc)
    by_object (Some (Sc donor cpu priority quantum)) is = absurd (cc)
    by_object (Some (Pt handler mtd ip)) is = absurd (cc)
    by_object (Some Sm) is = absurd (cc)
    by_object None is = absurd (cc)

pub existing_below : (k : KernelState) (P : ℕ → Bool) (n : ℕ) → existing k P n ≡ true → nat_lt n (length k.objects) ≡ true
existing_below k P n h = (and_parts (P n) (nat_lt n (length k.objects)) h).1

pub of_existing : (k : KernelState) (S : ℕ → Bool) (n : ℕ) → existing k S n ≡ true → S n ≡ true
of_existing k S n h = (and_parts (S n) (nat_lt n (length k.objects)) h).0

pub none_past : {T : Type 0} (xs : List T) (n : ℕ) → length xs ≤ n → slice_get xs n ≡ None
none_past [] n h = refl
none_past (x ∷ xs) zero h = absurd (omega (arith, h))
none_past (x ∷ xs) (suc n) h = none_past xs n (omega (arith, h))

-- a turn of others is none of those that are there
pub none_domains : (k : KernelState) (S : ℕ → Bool) (cpu : ℕ) → own_turn S k cpu ≡ None → own_turn (domains k S) k cpu ≡ None
none_domains k S cpu none = by_next (next_to_act k cpu) none
  where
    by_test : (c : Candidate) (t u : Bool) → if_own t c ≡ None → if_own (t && u) c ≡ None
    by_test c true u h = absurd (cc)
    by_test c false u h = refl

    by_next : (o : Option Candidate) → option_and_then (λ c. if_own (S (pd_of k c.actor)) c) o ≡ None → option_and_then (λ c. if_own (domains k S (pd_of k c.actor)) c) o ≡ None
    by_next None h = refl
    by_next (Some c) h = by_test c (S (pd_of k c.actor)) (is_domain (slice_get k.objects (pd_of k c.actor))) h

-- IN BOTH STATES

-- what is known of the two: they have the same objects
pub record AreLevel (k l : KernelState) : Type 0 where
  pub first : IsSound k
  pub second : IsSound l
  pub homed : AreHomed k
  pub homed_too : AreHomed l
  pub objects : l.objects ≡ k.objects

sized : (k l : KernelState) → AreLevel k l → length l.objects ≡ length k.objects
sized k l v = ap (λ (os : List Object). length os) v.objects

-- past the last object
both_past : {T : Type 0} (xs ys : List T) (size n : ℕ) → length xs ≡ size → length ys ≡ size → nat_lt n size ≡ false → slice_get ys n ≡ slice_get xs n
both_past xs ys size n first second past =
    let from = past_is n size past in none_past ys n (omega (arith, from, second)) ∙ sym (none_past xs n (omega (arith, from, first)))

pub covers_pd : (kind : Kind) (pd place : ℕ) (d : Derivation) → covers kind pd place d ≡ true → d.pd ≡ pd
covers_pd kind pd place d h =
    let both = and_parts (is_same_kind kind d.kind) (d.pd == pd && has_place (range_of d) place) h in eqb-true d.pd pd (and_parts (d.pd == pd) (has_place (range_of d) place) both.1).0

-- what no domain that is there holds
none_held : (k : KernelState) → AreHomed k → (kind : Kind) (pd place : ℕ) → is_domain (slice_get k.objects pd) ≡ false → find (covers kind pd place) k.delegations.list ≡ None
none_held k homed kind pd place past = by_found (find (covers kind pd place) k.delegations.list) refl
  where
    by_found : (o : Option Derivation) → find (covers kind pd place) k.delegations.list ≡ o → o ≡ None
    by_found None is = refl
    by_found (Some d) is =
        let its = found_in (covers kind pd place) k.delegations.list d is in
        let same : d.pd ≡ pd = covers_pd kind pd place d its.1 in
        no_domain (slice_get k.objects pd) (ap (slice_get k.objects) (sym same) ∙ homed.holders d (contains_from_in k.delegations.list d its.0)) past

-- and what comes of none
none_origin : (k : KernelState) → AreHomed k → (kind : Kind) (pd place from : ℕ) → is_domain (slice_get k.objects from) ≡ false → origin_at k kind pd place from ≡ None
none_origin k homed kind pd place from past = by_found (find (covers kind pd place) k.delegations.list) refl
  where
    by_near : (d : Derivation) → IsIn k.delegations.list d → (o : Option Derivation) → find (λ (a : Derivation). a.pd == from) (line k.delegations.list d) ≡ o → o ≡ None
    by_near d i None is = refl
    by_near d i (Some a) is =
        let its = found_in (λ (b : Derivation). b.pd == from) (line k.delegations.list d) a is in
        let same : a.pd ≡ from = eqb-true a.pd from its.1 in
        no_domain (slice_get k.objects from) (ap (slice_get k.objects) (sym same) ∙ homed.holders a (contains_from_in k.delegations.list a (line_in k.delegations.list (suc d.id) d a i its.0))) past

    by_found : (o : Option Derivation) → find (covers kind pd place) k.delegations.list ≡ o → origin_of k.delegations.list from o ≡ None
    by_found None is = refl
    by_found (Some d) is =
        let i = (found_in (covers kind pd place) k.delegations.list d is).0 in
        ap (option_map held_by) (by_near d i (find (λ (a : Derivation). a.pd == from) (line k.delegations.list d)) refl)

-- an object that is of no domain that is there is no execution context
no_context : (k : KernelState) → IsSound k → (n : ℕ) → is_domain (slice_get k.objects (pd_of k n)) ≡ false → context_at k n ≡ None
no_context k sound n past = by_entry (context_at k n) refl
  where
    by_entry : (o : Option EcState) → context_at k n ≡ o → o ≡ None
    by_entry None at = refl
    by_entry (Some x) at = no_domain (slice_get k.objects (pd_of k n)) (home_there k n sound.kept.tables (ap is_some at)) past

-- nor has message words and places in items
none_of : (f : Object → Bool) → ((o : Object) → is_ec o ≡ false → f o ≡ false) → (k : KernelState) → IsSound k → (n : ℕ) → n < length k.objects → is_domain (slice_get k.objects (pd_of k n)) ≡ false →
    option_map f (slice_get k.objects n) ≡ Some false
none_of f only k sound n inside past = by_object (slice_get k.objects n) refl past
  where
    by_object : (o : Option Object) → slice_get k.objects n ≡ o → is_domain (slice_get k.objects (pd_in o)) ≡ false → option_map f o ≡ Some false
    by_object None at h = absurd (let none = slice_get_there k.objects n inside at in none)
      where
        slice_get_there : {T : Type 0} (xs : List T) (n : ℕ) → n < length xs → slice_get xs n ≡ None → ⊥
        slice_get_there [] n b e = absurd (omega (arith, b))
        slice_get_there (x ∷ xs) zero b e = cc
        slice_get_there (x ∷ xs) (suc n) b e = slice_get_there xs n (omega (arith, b)) e
    by_object (Some Pd) at h = ap (λ (t : Bool). Some t) (only Pd refl)
    by_object (Some (Ec pd cpu kind event)) at h =
        no_domain (slice_get k.objects pd) (at_index (Refers k.objects) k.objects n (Ec pd cpu kind event) sound.kept.tables.refer at) h
    by_object (Some (Sc e cpu priority quantum)) at h = ap (λ (t : Bool). Some t) (only (Sc e cpu priority quantum) refl)
    by_object (Some (Pt e mtd ip)) at h = ap (λ (t : Bool). Some t) (only (Pt e mtd ip) refl)
    by_object (Some Sm) at h = ap (λ (t : Bool). Some t) (only Sm refl)

words_only : (o : Object) → is_ec o ≡ false → has_words o ≡ false
words_only Pd h = refl
words_only (Ec pd cpu kind event) h = absurd (cc)
words_only (Sc e cpu priority quantum) h = refl
words_only (Pt e mtd ip) h = refl
words_only Sm h = refl

fronts_length : (cs : List (Option EcState)) → length (fronts cs) ≡ length cs
fronts_length [] = refl
fronts_length (c ∷ cs) = ap (λ (n : ℕ). suc n) (fronts_length cs)

pub whole_alike : (k l : KernelState) (S P : ℕ → Bool) → AreLevel k l → AreAlike k l (Of (domains k S)) (Of (existing k P)) → AreAlike k l (Of S) (Of P)
whole_alike k l S P v a = record {
  objects = λ n p. ap (λ (os : List Object). slice_get os n) v.objects;
  fronts = λ n p. by_number (λ n. slice_get (fronts l.contexts) n ≡ slice_get (fronts k.contexts) n) n p (a.fronts n)
      (both_past (fronts k.contexts) (fronts l.contexts) size n (fronts_length k.contexts ∙ contexts_length k mine) (fronts_length l.contexts ∙ contexts_length l its ∙ sized k l v));
  contexts = λ n p s. by_number (λ n. slice_get l.contexts n ≡ slice_get k.contexts n) n p
      (λ q. by_domain (λ n. slice_get l.contexts n ≡ slice_get k.contexts n) n s (a.contexts n q)
      (λ past. raw k.contexts l.contexts n (inside q (contexts_length k mine)) (inside q (contexts_length l its ∙ sized k l v)) (no_context l v.second n (there_too n past) ∙ sym (no_context k v.first n past))))
      (both_past k.contexts l.contexts size n (contexts_length k mine) (contexts_length l its ∙ sized k l v));
  messages = λ n p s. by_number (λ n. slice_get l.messages n ≡ slice_get k.messages n) n p
      (λ q. by_domain (λ n. slice_get l.messages n ≡ slice_get k.messages n) n s (a.messages n q)
      (λ past. raw k.messages l.messages n (inside q (same_length is_some has_words k.messages k.objects mine.messages)) (inside q (same_length is_some has_words l.messages l.objects its.messages ∙ sized k l v))
      (absent l.messages has_words l.objects n its.messages (none_of has_words words_only l v.second n (inside_too q) (there_too n past))
      ∙ sym (absent k.messages has_words k.objects n mine.messages (none_of has_words words_only k v.first n (below q) past)))))
      (both_past k.messages l.messages size n (same_length is_some has_words k.messages k.objects mine.messages) (same_length is_some has_words l.messages l.objects its.messages ∙ sized k l v));
  transfers = λ n p s. by_number (λ n. slice_get l.transfers n ≡ slice_get k.transfers n) n p
      (λ q. by_domain (λ n. slice_get l.transfers n ≡ slice_get k.transfers n) n s (a.transfers n q)
      (λ past. raw k.transfers l.transfers n (inside q (same_length is_some is_ec k.transfers k.objects mine.transfers)) (inside q (same_length is_some is_ec l.transfers l.objects its.transfers ∙ sized k l v))
      (absent l.transfers is_ec l.objects n its.transfers (none_of is_ec (λ o h. h) l v.second n (inside_too q) (there_too n past))
      ∙ sym (absent k.transfers is_ec k.objects n mine.transfers (none_of is_ec (λ o h. h) k v.first n (below q) past)))))
      (both_past k.transfers l.transfers size n (same_length is_some is_ec k.transfers k.objects mine.transfers) (same_length is_some is_ec l.transfers l.objects its.transfers ∙ sized k l v));
  identifiers = λ n p. by_number (λ n. slice_get l.identifiers n ≡ slice_get k.identifiers n) n p (a.identifiers n)
      (both_past k.identifiers l.identifiers size n (same_length is_some is_pt k.identifiers k.objects mine.identifiers) (same_length is_some is_pt l.identifiers l.objects its.identifiers ∙ sized k l v));
  semaphores = λ n p. by_number (λ n. slice_get l.semaphores n ≡ slice_get k.semaphores n) n p (a.semaphores n)
      (both_past k.semaphores l.semaphores size n (same_length is_some is_sm k.semaphores k.objects mine.semaphores) (same_length is_some is_sm l.semaphores l.objects its.semaphores ∙ sized k l v));
  ticks = λ n p. by_number (λ n. ticks_of l n ≡ ticks_of k n) n p (a.ticks n)
      (λ past. ap (λ (o : Option (Option Budget)). option_map (λ (b : Budget). b.ticks) (entry o))
      (both_past k.budgets l.budgets size n (same_length is_some is_sc k.budgets k.objects mine.budgets) (same_length is_some is_sc l.budgets l.objects its.budgets ∙ sized k l v) past));
  deadlines = λ n p. by_number (λ n. slice_get l.times.deadlines n ≡ slice_get k.times.deadlines n) n p (a.deadlines n)
      (both_past k.times.deadlines l.times.deadlines size n mine.deadlines (its.deadlines ∙ sized k l v));
  spaces = λ kind pd place s. by_set pd s (a.spaces kind pd place) (λ past. ap (option_map held_by) (none_held l v.homed_too kind pd place (over pd past) ∙ sym (none_held k v.homed kind pd place past)));
  origins = λ kind pd place from s t. by_set pd s
      (λ q. by_set from t (a.origins kind pd place from q) (λ past. none_origin l v.homed_too kind pd place from (over from past) ∙ sym (none_origin k v.homed kind pd place from past)))
      (λ past. ap (origin_of l.delegations.list from) (none_held l v.homed_too kind pd place (over pd past)) ∙ sym (ap (origin_of k.delegations.list from) (none_held k v.homed kind pd place past)));
  frames = λ pd page to s leads. by_set pd s (λ q. a.frames pd page to q leads) (λ past. absurd (led_none pd page to past leads));
  size = a.size;
}
  where
    size : ℕ
    size = length k.objects

    mine : HasTables k
    mine = v.first.kept.tables

    its : HasTables l
    its = v.second.kept.tables

    ticks_of : KernelState → ℕ → Option ℕ
    ticks_of j n = option_map (λ (b : Budget). b.ticks) (entry (slice_get j.budgets n))

    by_set : {A : Type 0} (n : ℕ) → S n ≡ true → (domains k S n ≡ true → A) → (is_domain (slice_get k.objects n) ≡ false → A) → A
    by_set {A} n s f g = by_test (is_domain (slice_get k.objects n)) refl
      where
        by_test : (t : Bool) → is_domain (slice_get k.objects n) ≡ t → A
        by_test true h = f (ap₂ (λ (t u : Bool). t && u) s h)
        by_test false h = g h

    by_number : (A : ℕ → Type 0) (n : ℕ) → P n ≡ true → (existing k P n ≡ true → A n) → (nat_lt n (length k.objects) ≡ false → A n) → A n
    by_number A n p f g = by_test (nat_lt n (length k.objects)) refl
      where
        by_test : (t : Bool) → nat_lt n (length k.objects) ≡ t → A n
        by_test true h = f (ap₂ (λ (t u : Bool). t && u) p h)
        by_test false h = g h

    by_domain : (A : ℕ → Type 0) (n : ℕ) → S (pd_of k n) ≡ true → (domains k S (pd_of k n) ≡ true → A n) → (is_domain (slice_get k.objects (pd_of k n)) ≡ false → A n) → A n
    by_domain A n s f g = by_set (pd_of k n) s f g

    below : {n : ℕ} → existing k P n ≡ true → n < length k.objects
    below {n} q = is_below n (length k.objects) (and_parts (P n) (nat_lt n (length k.objects)) q).1

    inside : {n m : ℕ} → existing k P n ≡ true → m ≡ length k.objects → n < m
    inside {n} {m} q is = let b : n < length k.objects = below q in omega (arith, b, is)

    inside_too : {n : ℕ} → existing k P n ≡ true → n < length l.objects
    inside_too q = inside q (sized k l v)

    over : (n : ℕ) → is_domain (slice_get k.objects n) ≡ false → is_domain (slice_get l.objects n) ≡ false
    over n past = ap (λ (os : List Object). is_domain (slice_get os n)) v.objects ∙ past

    there_too : (n : ℕ) → is_domain (slice_get k.objects (pd_of k n)) ≡ false → is_domain (slice_get l.objects (pd_of l n)) ≡ false
    there_too n past = ap (λ (os : List Object). is_domain (slice_get os (pd_in (slice_get os n)))) v.objects ∙ past

    led_none : (pd page : ℕ) (to : Page) → is_domain (slice_get k.objects pd) ≡ false → reach k.delegations.list pd page ≡ Some to → ⊥
    led_none pd page to past leads =
        let none : reach k.delegations.list pd page ≡ None = ap (option_map _) (none_held k v.homed Mem pd page past) in
        let both : None ≡ Some to = sym none ∙ leads in cc

-- WHAT IS OF THE SIDE

pub whole_side : (k l : KernelState) (S P : ℕ → Bool) → AreLevel k l → IsSide l (Of (domains k S)) (Of (existing k P)) → IsSide l (Of S) (Of P)
whole_side k l S P v side = record {
  holds = λ d there s kind. of_existing k P d.target (side.holds d there (domain_here d.pd s (v.homed_too.holders d there)) kind);
  handlers = λ n handler mtd ip p is. of_existing k P handler (side.handlers n handler mtd ip (here n p (slice_get_within l.objects n (Pt handler mtd ip) is)) is);
  edges = λ n h p is. of_existing k P h (side.edges n h (context_here n p (state_of n h is)) is);
  callers = λ n c m p is. of_existing k P c (side.callers n c m (context_here n p (served n c m is)) is);
  queues = λ sm n p is. of_existing k P n (side.queues sm n (semaphore_here sm n p is) is);
  blocked = λ n sm p is. of_existing k P sm (side.blocked n sm (context_here n p (ap (λ (o : Option State). is_some o) is)) is);
  members = λ n pd cpu kind event at s.
      of_existing k P n (side.members n pd cpu kind event at (domain_here pd s (at_index (Refers l.objects) l.objects n (Ec pd cpu kind event) v.second.kept.tables.refer at)));
}
  where
    here : (n : ℕ) → P n ≡ true → n < length l.objects → existing k P n ≡ true
    here n q below = in_existing k P n q (let same = sized k l v in omega (arith, below, same))

    domain_here : (n : ℕ) → S n ≡ true → slice_get l.objects n ≡ Some Pd → domains k S n ≡ true
    domain_here n s at = in_domains k S n s (sym (ap (λ (os : List Object). slice_get os n) v.objects) ∙ at)

    -- an execution context that has a state is there
    context_here : (n : ℕ) → P n ≡ true → is_some (state_in l.contexts n) ≡ true → existing k P n ≡ true
    context_here n p there = by_entry (context_at l n) refl there
      where
        by_entry : (o : Option EcState) → context_at l n ≡ o → is_some (option_map (λ (x : EcState). x.state) o) ≡ true → existing k P n ≡ true
        by_entry None at h = absurd (cc)
        by_entry (Some x) at h = here n p (let below = entry_below l.contexts n x at in let size = contexts_length l v.second.kept.tables in omega (arith, below, size))

    state_of : (n h : ℕ) → edge l.contexts n ≡ Some h → (is_some (state_in l.contexts n)) ≡ true
    state_of n h is = by_state (state_in l.contexts n) is
      where
        by_state : (o : Option State) → option_and_then edge_of o ≡ Some h → is_some o ≡ true
        by_state None e = absurd (cc)
        by_state (Some t) e = refl

    served : (n c : ℕ) (m : Mark) → caller_in l.contexts n ≡ Some (c, m) → is_some (state_in l.contexts n) ≡ true
    served n c m is = by_entry (ec_in l.contexts n) is
      where
        by_entry : (o : Option EcState) → option_and_then (λ (x : EcState). x.caller) o ≡ Some (c, m) → is_some (option_map (λ (x : EcState). x.state) o) ≡ true
        by_entry None e = absurd (cc)
        by_entry (Some x) e = refl

    semaphore_here : (sm n : ℕ) → P sm ≡ true → waits l.semaphores sm n ≡ true → existing k P sm ≡ true
    semaphore_here sm n p is = by_entry (semaphore_at l.semaphores sm) refl is
      where
        by_entry : (o : Option Semaphore) → semaphore_at l.semaphores sm ≡ o → has (semaphore_in o).waiting n ≡ true → existing k P sm ≡ true
        by_entry None at h = absurd (cc)
        by_entry (Some s) at h =
            here sm p (let below = entry_below l.semaphores sm s at in let size = same_length is_some is_sm l.semaphores l.objects v.second.kept.tables.semaphores in omega (arith, below, size))
