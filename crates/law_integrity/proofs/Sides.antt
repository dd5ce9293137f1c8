-- Sides along turns: the policy holds on, a turn of a side leaves another side, and what a side comes to reach it was given.
use Rattle.std.proofs.Common.{◌≡◌, ◌<◌, ℕ, ◌⊎◌, List, [], ◌∷◌, ◌++◌, length, refl, sym, ap, ◌∙◌, subst, inl, inr, arith}
use Rattle.std.specs.Prelude.{◌≢◌, Bool, true, false, Contains, is_some, Option}
use Rattle.std.proofs.lemmas.Option.{slice_get_within}
use Rattle.nova_objects.specs.declared.object.Object.TheVariants.{Pd}
use Rattle.nova_range.specs.Rights.{allows, execute_right, read_right, write_right}
use Rattle.nova_range.specs.declared.range.Kind.TheVariants.{Mem, Obj}
use Rattle.nova_model.specs.Boot.{Scenario, boot}
use Rattle.nova_model.specs.Forest.{IsWithin}
use Rattle.nova_model.specs.Runs.{after, run}
use Rattle.nova_model.specs.State.{KernelState, context, context_at, deadline_of, pd_in, pd_of}
use Rattle.nova_model.specs.declared.context.EcState.{EcState}
use Rattle.nova_model.specs.declared.context.State.TheVariants.{Blocked}
use Rattle.nova_model.specs.declared.delegation.Derivation.{Derivation}
use Rattle.law_forest.specs.Within.{LeadsTo as Covers}
use Rattle.law_isolation.proofs.Runs.{reached_sound}
use Rattle.law_turns.proofs.Links.{place}
use Rattle.law_origins.specs.Giving.{Acts}
use Rattle.law_origins.proofs.Lists.{run_append}
use Rattle.law_integrity.specs.Confined.{Holds, StaysOrWakes, IsMember, IsWoken, LeavesTo, Reach, Stays, Wakes}
use Rattle.law_integrity.specs.Rights.{GivesFirst, GivesTo, PageLeadsTo, RepliesWith, TakesOfCaller}
use Rattle.law_integrity.specs.Secrecy.{with_bytes}
use Rattle.law_integrity.specs.Trusted.{HoldsSince, IsGivenFrame, IsGivenObject, IsMadeBySide, IsTurnOfLabel, IsWithinPolicy, Labelled, MayTakeTurns, OrTrusted, ReachesSince, labels, labels_after}
use Rattle.law_integrity.proofs.Confining.{Child, Newest, Old, Whence, acting_one, acts_one, child_target, member_pd, order_none, whence}
use Rattle.law_integrity.proofs.Confined.{reach_of}
use Rattle.law_integrity.proofs.Decided.{IsDecided, holds_decided, reach_decided}
use Rattle.law_integrity.proofs.Homes.{receiver_there}
use Rattle.law_integrity.proofs.Labels.{IsTaken, context_ec, labels_old, turn_taken}
use Rattle.law_integrity.proofs.Leaving.{leaves_clear}
use Rattle.law_integrity.proofs.Policy.{policy_after, policy_clear, side_gives}
use Rattle.law_integrity.proofs.Secrets.{turn_same}

-- THE POLICY

pub within_along : {shared : ℕ → Bool} (s : Scenario) (before turns : List ℕ) (label : ℕ → ℕ) → IsWithinPolicy shared (run (boot s) before) label → MayTakeTurns shared (run (boot s) before) label turns →
    IsWithinPolicy shared (run (run (boot s) before) turns) (labels (run (boot s) before) label turns)
within_along {shared} s before [] label policy take = policy
within_along {shared} s before (cpu ∷ turns) label policy take =
    let k = run (boot s) before in
    let next : run (boot s) (before ++ cpu ∷ []) ≡ after k cpu = run_append (boot s) before (cpu ∷ []) in
    subst (λ (l : KernelState). IsWithinPolicy shared (run l turns) (labels l (labels_after k label cpu) turns)) next
    (within_along s (before ++ cpu ∷ []) turns (labels_after k label cpu)
    (subst (λ (l : KernelState). IsWithinPolicy shared l (labels_after k label cpu)) (sym next) (policy_after k label cpu (turn_taken s before cpu) policy take.0))
    (subst (λ (l : KernelState). MayTakeTurns shared l (labels_after k label cpu) turns) (sym next) take.1))

-- WHAT A TURN OF A SIDE LEAVES OF ANOTHER

-- who acts is an execution context of its domain's label
acts_for : (k : KernelState) (label : ℕ → ℕ) (cpu ec : ℕ) → IsTaken k cpu → Acts k cpu ec → IsMember k (Labelled label (label (pd_of k ec))) ec
acts_for k label cpu ec t acts_ =
    let m = context_ec k ec t.fits.tables (ap (λ (o : Option EcState). is_some o) (acting_one k cpu ec acts_).there) in
    record { domain = m.domain; cpu = m.cpu; kind = m.kind; event = m.event; object = m.object; of = ap label (sym (ap pd_in m.object)) }

pub side_leaves : {shared : ℕ → Bool} (s : Scenario) (turns : List ℕ) (label : ℕ → ℕ) (cpu ec side : ℕ) → IsWithinPolicy shared (run (boot s) turns) label → Acts (run (boot s) turns) cpu ec →
    label (pd_of (run (boot s) turns) ec) ≢ 0 → side ≢ 0 → side ≢ label (pd_of (run (boot s) turns) ec) →
    LeavesTo (run (boot s) turns) (after (run (boot s) turns) cpu) (Labelled label (label (pd_of (run (boot s) turns) ec))) (Labelled label side)
side_leaves {shared} s turns label cpu ec side policy acts_ own some other =
    let k = run (boot s) turns in
    leaves_clear s turns (Labelled label side) (Labelled label (label (pd_of k ec))) cpu ec (policy_clear k label ec side (reached_sound s turns) (turn_taken s turns cpu).local policy (acting_one k cpu ec acts_) own some other) acts_
    (acts_for k label cpu ec (turn_taken s turns cpu) acts_)

pub side_stays : {shared : ℕ → Bool} (s : Scenario) (turns : List ℕ) (label : ℕ → ℕ) (cpu ec side n : ℕ) → IsWithinPolicy shared (run (boot s) turns) label → Acts (run (boot s) turns) cpu ec →
    label (pd_of (run (boot s) turns) ec) ≢ 0 → side ≢ 0 → side ≢ label (pd_of (run (boot s) turns) ec) → IsMember (run (boot s) turns) (Labelled label side) n → ((sm : ℕ) → (context (run (boot s) turns) n).state ≡ Blocked sm → shared sm ≡ false) →
    (context_at (after (run (boot s) turns) cpu) n ≡ context_at (run (boot s) turns) n) × (deadline_of (after (run (boot s) turns) cpu).times n ≡ deadline_of (run (boot s) turns).times n)
side_stays {shared} s turns label cpu ec side n policy acts_ own some other m lone = (by_left (leaves.contexts n m), by_deadline (leaves.deadlines n m))
  where
    k : KernelState
    k = run (boot s) turns

    leaves : LeavesTo k (after k cpu) (Labelled label (label (pd_of k ec))) (Labelled label side)
    leaves = side_leaves s turns label cpu ec side policy acts_ own some other

    apart : (label (pd_of k n) ≡ label (pd_of k ec)) ⊎ (label (pd_of k n) ≡ 0) → ⊥
    apart (inl same) = other (sym (member_pd k (Labelled label side) n m) ∙ same)
    apart (inr none) = some (sym (member_pd k (Labelled label side) n m) ∙ none)

    -- nobody wakes it, as it waits at no shared semaphore
    unwoken : IsWoken k (Labelled label (label (pd_of k ec))) n → ⊥
    unwoken woken =
        let may = policy.capabilities woken.may.capability woken.may.there woken.may.kind (λ none. own (sym woken.may.of ∙ none)) in
        apart (subst (λ (l : ℕ). OrTrusted label l (pd_of k n)) woken.may.of (may.waits (ap shared woken.may.leads ∙ lone woken.sm woken.blocked) n (woken.blocked ∙ ap (λ (sm : ℕ). Blocked sm) (sym woken.may.leads))))

    by_left : StaysOrWakes k (Labelled label (label (pd_of k ec))) n (context_at k n) (context_at (after k cpu) n) → context_at (after k cpu) n ≡ context_at k n
    by_left (Stays same) = same
    by_left (Wakes woken x old new) = absurd (unwoken woken)

    by_deadline : (deadline_of (after k cpu).times n ≡ deadline_of k.times n) ⊎ IsWoken k (Labelled label (label (pd_of k ec))) n → deadline_of (after k cpu).times n ≡ deadline_of k.times n
    by_deadline (inl same) = same
    by_deadline (inr woken) = absurd (unwoken woken)

-- the frames that it doesn't reach are hidden from it
pub side_blind : (s : Scenario) (turns : List ℕ) (label : ℕ → ℕ) (cpu ec frame : ℕ) (bytes : List ℕ) → Acts (run (boot s) turns) cpu ec →
    ((right : ℕ) → Reach (run (boot s) turns) (Labelled label (label (pd_of (run (boot s) turns) ec))) right frame → ⊥) →
    after (with_bytes (run (boot s) turns) frame bytes) cpu ≡ with_bytes (after (run (boot s) turns) cpu) frame bytes
side_blind s turns label cpu ec frame bytes acts_ none =
    turn_same (run (boot s) turns) cpu frame bytes
    (λ e its. record { unread = λ page l. by_right e its read_right page l; unwritten = λ page l. by_right e its write_right page l; unexecuted = λ page l. by_right e its execute_right page l })
  where
    k : KernelState
    k = run (boot s) turns

    by_right : (e : ℕ) → Acts k cpu e → (right page : ℕ) → PageLeadsTo k (pd_of k e) page right frame → ⊥
    by_right e its right page l =
        none right (reach_of k (Labelled label (label (pd_of k ec))) ec page right frame (acts_for k label cpu ec (turn_taken s turns cpu) acts_)
        (subst (λ (n : ℕ). PageLeadsTo k (pd_of k n) page right frame) (acts_one k cpu e ec its acts_) l))

-- WHAT A SIDE COMES TO REACH AND TO HOLD

-- a derivation of a side was there; or it is the first capability to an object that one of the side makes; or a child of the side's own; or one that is trusted acts, and it is a child of its own domain's
data Provenance (k : KernelState) (label : ℕ → ℕ) (cpu side : ℕ) (d : Derivation) : Type 0 where
  Was : Contains k.delegations.list d → label d.pd ≡ side → Provenance k label cpu side d
  Makes : (ec : ℕ) → Acts k cpu ec → label (pd_of k ec) ≡ side → d.kind ≡ Obj → d.target ≡ length k.objects → Provenance k label cpu side d
  Passes : (source : Derivation) → Contains k.delegations.list source → label source.pd ≡ side → IsWithin d source → Provenance k label cpu side d
  Gives : (ec : ℕ) → Acts k cpu ec → label (pd_of k ec) ≡ 0 → (source : Derivation) → Contains k.delegations.list source → source.pd ≡ pd_of k ec → IsWithin d source → Provenance k label cpu side d

provenance : {shared : ℕ → Bool} (k : KernelState) (label : ℕ → ℕ) (cpu side : ℕ) (d : Derivation) → IsTaken k cpu → IsWithinPolicy shared k label → side ≢ 0 → Contains (after k cpu).delegations.list d →
    labels_after k label cpu d.pd ≡ side → Provenance k label cpu side d
provenance {shared} k label cpu side d t policy some now of = by_whence (whence k cpu d t.sound.forest now)
  where
    was : d.pd < length k.objects → label d.pd ≡ side
    was below = sym (labels_old k label cpu d.pd below) ∙ of

    by_whence : Whence k cpu d → Provenance k label cpu side d
    by_whence (Old there) = Was there (was (slice_get_within k.objects d.pd Pd (t.homed.holders d there)))
    by_whence (Newest ec acts_ object first objects) =
        let c = first.creator in
        let below : d.pd < length k.objects = subst (λ (n : ℕ). n < length k.objects) c.held (slice_get_within k.objects c.capability.pd Pd (t.homed.holders c.capability c.there)) in
        Makes ec acts_ (ap label (sym first.pd) ∙ was below) first.kind first.target
    by_whence (Child ec acts_ source there within gives) = by_label (place (label (pd_of k ec)) 0)
      where
        its : label d.pd ≡ side
        its = was (slice_get_within k.objects d.pd Pd (receiver_there k ec source.pd d.pd t.sound t.homed (acting_one k cpu ec acts_) gives))

        -- who is trusted gives of its own
        given : label (pd_of k ec) ≡ 0 → GivesTo k ec source.pd d.pd → source.pd ≡ pd_of k ec
        given trusted (TakesOfCaller caller mark state serves g to) = absurd (some (sym its ∙ ap label (sym to) ∙ trusted))
        given trusted (RepliesWith caller mark state serves g to) = sym g
        given trusted (GivesFirst state g) = sym g

        by_label : (label (pd_of k ec) ≡ 0) ⊎ (label (pd_of k ec) ≢ 0) → Provenance k label cpu side d
        by_label (inl trusted) = Gives ec acts_ trusted source there (given trusted gives) within
        by_label (inr other) =
            let labelled = side_gives k label ec source.pd d.pd t.sound policy (acting_one k cpu ec acts_) other gives in
            by_receiver labelled.0 labelled.1
          where
            by_receiver : label source.pd ≡ label (pd_of k ec) → OrTrusted label (label (pd_of k ec)) d.pd → Provenance k label cpu side d
            by_receiver own (inl same) = Passes source there (own ∙ sym same ∙ its) within
            by_receiver own (inr none) = absurd (some (sym its ∙ none))

-- what a child reaches and holds its source does
reach_within : (k : KernelState) (S : ℕ → Type 0) (right frame : ℕ) (d source : Derivation) → Contains k.delegations.list source → S source.pd → IsWithin d source → d.kind ≡ Mem → Covers d frame →
    allows d.rights right ≡ true → Reach k S right frame
reach_within k S right frame d source there of within kind leads allowed = record {
  derivation = source;
  there = there;
  of = of;
  kind = sym within.kind ∙ kind;
  leads =
      let first = within.first in
      let last = within.last in
      let low = leads.first in
      let high = leads.last in record { first = omega (arith, first, low); last = omega (arith, last, high) };
  allowed = within.rights right allowed;
}

holds_within : (k : KernelState) (cpu : ℕ) (S : ℕ → Type 0) (right object : ℕ) (d source : Derivation) → IsTaken k cpu → Contains k.delegations.list source → S source.pd → IsWithin d source → d.kind ≡ Obj →
    d.target ≡ object → allows d.rights right ≡ true → Holds k S right object
holds_within k cpu S right object d source t there of within kind leads allowed =
    let its : source.kind ≡ Obj = sym within.kind ∙ kind in
    record {
      capability = source;
      there = there;
      of = of;
      kind = its;
      leads = sym (child_target d source its (order_none k source t.sound.forest there its) within) ∙ leads;
      allowed = within.rights right allowed;
    }

-- it did before; or one that is trusted acts, whose domain did; or one of the side makes the object
abbrev Reached : KernelState → (ℕ → ℕ) → ℕ → ℕ → ℕ → ℕ → Type 0
Reached k label cpu side right frame = Reach k (Labelled label side) right frame ⊎ ((ec : ℕ) × Acts k cpu ec × (label (pd_of k ec) ≡ 0) × Reach k (λ n. n ≡ pd_of k ec) right frame)

reach_before : {shared : ℕ → Bool} (k : KernelState) (label : ℕ → ℕ) (cpu side right frame : ℕ) → IsTaken k cpu → IsWithinPolicy shared k label → side ≢ 0 → Reach (after k cpu) (Labelled (labels_after k label cpu) side) right frame →
    Reached k label cpu side right frame
reach_before {shared} k label cpu side right frame t policy some r = by_source (provenance k label cpu side r.derivation t policy some r.there r.of)
  where
    by_source : Provenance k label cpu side r.derivation → Reached k label cpu side right frame
    by_source (Was there of) = inl (record { derivation = r.derivation; there = there; of = of; kind = r.kind; leads = r.leads; allowed = r.allowed })
    by_source (Makes ec acts_ of kind target) = absurd (let none : Mem ≡ Obj = sym r.kind ∙ kind in cc)
    by_source (Passes source there of within) = inl (reach_within k (Labelled label side) right frame r.derivation source there of within r.kind r.leads r.allowed)
    by_source (Gives ec acts_ trusted source there of within) =
        inr (ec, acts_, trusted, reach_within k (λ n. n ≡ pd_of k ec) right frame r.derivation source there of within r.kind r.leads r.allowed)

abbrev Held : KernelState → (ℕ → ℕ) → ℕ → ℕ → ℕ → ℕ → Type 0
Held k label cpu side right object =
    Holds k (Labelled label side) right object
    ⊎ (((ec : ℕ) × Acts k cpu ec × (label (pd_of k ec) ≡ 0) × Holds k (λ n. n ≡ pd_of k ec) right object) ⊎ ((ec : ℕ) × Acts k cpu ec × (label (pd_of k ec) ≡ side) × (object ≡ length k.objects)))

hold_before : {shared : ℕ → Bool} (k : KernelState) (label : ℕ → ℕ) (cpu side right object : ℕ) → IsTaken k cpu → IsWithinPolicy shared k label → side ≢ 0 → Holds (after k cpu) (Labelled (labels_after k label cpu) side) right object →
    Held k label cpu side right object
hold_before {shared} k label cpu side right object t policy some h = by_source (provenance k label cpu side h.capability t policy some h.there h.of)
  where
    by_source : Provenance k label cpu side h.capability → Held k label cpu side right object
    by_source (Was there of) = inl (record { capability = h.capability; there = there; of = of; kind = h.kind; leads = h.leads; allowed = h.allowed })
    by_source (Makes ec acts_ of kind target) = inr (inr (ec, acts_, of, sym h.leads ∙ target))
    by_source (Passes source there of within) = inl (holds_within k cpu (Labelled label side) right object h.capability source t there of within h.kind h.leads h.allowed)
    by_source (Gives ec acts_ trusted source there of within) =
        inr (inl (ec, acts_, trusted, holds_within k cpu (λ n. n ≡ pd_of k ec) right object h.capability source t there of within h.kind h.leads h.allowed))

-- one turn more, before them; and the first
abbrev earlier : (k : KernelState) (label : ℕ → ℕ) (cpu side : ℕ) (turns : List ℕ) → IsTurnOfLabel (after k cpu) (labels_after k label cpu) turns side → IsTurnOfLabel k label (cpu ∷ turns) side
earlier k label cpu side turns m =
    record { before = cpu ∷ m.before; cpu = m.cpu; later = m.later; whole = ap (λ (l : List ℕ). cpu ∷ l) m.whole; actor = m.actor; acts = m.acts; of = m.of }

abbrev first_turn : (k : KernelState) (label : ℕ → ℕ) (cpu side ec : ℕ) (turns : List ℕ) → Acts k cpu ec → label (pd_of k ec) ≡ side → IsTurnOfLabel k label (cpu ∷ turns) side
first_turn k label cpu side ec turns acts_ of = record { before = []; cpu = cpu; later = turns; whole = refl; actor = ec; acts = acts_; of = of }

pub side_reaches : {shared : ℕ → Bool} (s : Scenario) (before turns : List ℕ) (label : ℕ → ℕ) (side right frame : ℕ) → IsWithinPolicy shared (run (boot s) before) label → MayTakeTurns shared (run (boot s) before) label turns → side ≢ 0 →
    Reach (run (run (boot s) before) turns) (Labelled (labels (run (boot s) before) label turns) side) right frame →
    ReachesSince (run (boot s) before) label turns side right frame ⊎ IsGivenFrame (run (boot s) before) label turns side right frame
side_reaches {shared} s before [] label side right frame policy take some r = inl r
side_reaches {shared} s before (cpu ∷ turns) label side right frame policy take some r =
    let k = run (boot s) before in
    let next : run (boot s) (before ++ cpu ∷ []) ≡ after k cpu = run_append (boot s) before (cpu ∷ []) in
    by_later k (subst (λ (l : KernelState). ReachesSince l (labels_after k label cpu) turns side right frame ⊎ IsGivenFrame l (labels_after k label cpu) turns side right frame) next
    (side_reaches s (before ++ cpu ∷ []) turns (labels_after k label cpu) side right frame
    (subst (λ (l : KernelState). IsWithinPolicy shared l (labels_after k label cpu)) (sym next) (policy_after k label cpu (turn_taken s before cpu) policy take.0))
    (subst (λ (l : KernelState). MayTakeTurns shared l (labels_after k label cpu) turns) (sym next) take.1) some
    (subst (λ (l : KernelState). Reach (run l turns) (Labelled (labels l (labels_after k label cpu) turns) side) right frame) (sym next) r)))
    (λ now. reach_before k label cpu side right frame (turn_taken s before cpu) policy some now)
  where
    first : (l : KernelState) (names : ℕ → ℕ) (ts : List ℕ) → ReachesSince l names ts side right frame → Reach l (Labelled names side) right frame
    first l names [] since = since
    first l names (c ∷ ts) since = since.0

    by_turn : (k : KernelState) → ReachesSince (after k cpu) (labels_after k label cpu) turns side right frame → IsDecided (Reach k (Labelled label side) right frame) → Reached k label cpu side right frame →
        ReachesSince k label (cpu ∷ turns) side right frame ⊎ IsGivenFrame k label (cpu ∷ turns) side right frame
    by_turn k since (inl was) by = inl (was, since)
    by_turn k since (inr not) (inl was) = absurd (not was)
    by_turn k since (inr not) (inr by) = inr (record { turn = first_turn k label cpu 0 by.0 turns by.1 by.2; unreached = not; since = since; own = by.3 })

    by_later : (k : KernelState) → ReachesSince (after k cpu) (labels_after k label cpu) turns side right frame ⊎ IsGivenFrame (after k cpu) (labels_after k label cpu) turns side right frame →
        (Reach (after k cpu) (Labelled (labels_after k label cpu) side) right frame → Reached k label cpu side right frame) →
        ReachesSince k label (cpu ∷ turns) side right frame ⊎ IsGivenFrame k label (cpu ∷ turns) side right frame
    by_later k (inl since) step =
        by_turn k since (reach_decided k label side right frame) (step (first (after k cpu) (labels_after k label cpu) turns since))
    by_later k (inr given) step = inr (record { turn = earlier k label cpu 0 turns given.turn; unreached = given.unreached; since = given.since; own = given.own })

pub side_holds : {shared : ℕ → Bool} (s : Scenario) (before turns : List ℕ) (label : ℕ → ℕ) (side right object : ℕ) → IsWithinPolicy shared (run (boot s) before) label → MayTakeTurns shared (run (boot s) before) label turns → side ≢ 0 →
    Holds (run (run (boot s) before) turns) (Labelled (labels (run (boot s) before) label turns) side) right object →
    HoldsSince (run (boot s) before) label turns side right object
    ⊎ (IsGivenObject (run (boot s) before) label turns side right object ⊎ IsMadeBySide (run (boot s) before) label turns side right object)
side_holds {shared} s before [] label side right object policy take some h = inl h
side_holds {shared} s before (cpu ∷ turns) label side right object policy take some h =
    let k = run (boot s) before in
    let next : run (boot s) (before ++ cpu ∷ []) ≡ after k cpu = run_append (boot s) before (cpu ∷ []) in
    by_later k (subst (λ (l : KernelState). Later l (labels_after k label cpu) turns) next
    (side_holds s (before ++ cpu ∷ []) turns (labels_after k label cpu) side right object
    (subst (λ (l : KernelState). IsWithinPolicy shared l (labels_after k label cpu)) (sym next) (policy_after k label cpu (turn_taken s before cpu) policy take.0))
    (subst (λ (l : KernelState). MayTakeTurns shared l (labels_after k label cpu) turns) (sym next) take.1) some
    (subst (λ (l : KernelState). Holds (run l turns) (Labelled (labels l (labels_after k label cpu) turns) side) right object) (sym next) h)))
    (λ now. hold_before k label cpu side right object (turn_taken s before cpu) policy some now)
  where
    Later : KernelState → (ℕ → ℕ) → List ℕ → Type 0
    Later l names ts = HoldsSince l names ts side right object ⊎ (IsGivenObject l names ts side right object ⊎ IsMadeBySide l names ts side right object)

    first : (l : KernelState) (names : ℕ → ℕ) (ts : List ℕ) → HoldsSince l names ts side right object → Holds l (Labelled names side) right object
    first l names [] since = since
    first l names (c ∷ ts) since = since.0

    by_turn : (k : KernelState) → HoldsSince (after k cpu) (labels_after k label cpu) turns side right object → IsDecided (Holds k (Labelled label side) right object) → Held k label cpu side right object →
        Later k label (cpu ∷ turns)
    by_turn k since (inl was) by = inl (was, since)
    by_turn k since (inr not) (inl was) = absurd (not was)
    by_turn k since (inr not) (inr (inl by)) = inr (inl (record { turn = first_turn k label cpu 0 by.0 turns by.1 by.2; unheld = not; since = since; own = by.3 }))
    by_turn k since (inr not) (inr (inr by)) = inr (inr (record { turn = first_turn k label cpu side by.0 turns by.1 by.2; next = by.3; since = since }))

    by_later : (k : KernelState) → Later (after k cpu) (labels_after k label cpu) turns →
        (Holds (after k cpu) (Labelled (labels_after k label cpu) side) right object → Held k label cpu side right object) → Later k label (cpu ∷ turns)
    by_later k (inl since) step = by_turn k since (holds_decided k label side right object) (step (first (after k cpu) (labels_after k label cpu) turns since))
    by_later k (inr (inl given)) step = inr (inl (record { turn = earlier k label cpu 0 turns given.turn; unheld = given.unheld; since = given.since; own = given.own }))
    by_later k (inr (inr made)) step = inr (inr (record { turn = earlier k label cpu side turns made.turn; next = made.next; since = made.since }))
