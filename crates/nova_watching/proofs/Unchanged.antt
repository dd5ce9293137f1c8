-- A turn of one instruction, or of the clock alone, leaves all ties, so that isolated sides stay so.
use Rattle.std.proofs.Common.{◌≡◌, ◌⊎◌, ℕ, List, [], ◌∷◌, ◌++◌, refl, sym, ap, ap₂, ◌∙◌, subst, inl, inr}
use Rattle.std.specs.Prelude.{◌==◌, ◌&&◌, ◌||◌, Bool, true, false, if◌then◌else◌, flat_map, is_some, map, slice_get, option_to_list, Option, Some, None}
use Rattle.std.specs.List.{enumerate_from}
use Rattle.std.proofs.lemmas.Bool.{eq-eqb, eqb-true}
use Rattle.rv_model.specs.Registers.{Registers}
use Rattle.rv_model.specs.Step.{Once, Raised, Went}
use Rattle.nova_objects.specs.declared.object.Object.{Object}
use Rattle.nova_objects.specs.declared.object.Object.TheVariants.{Pd, Ec, Sc, Pt, Sm}
use Rattle.nova_range.specs.declared.range.Kind.{Kind}
use Rattle.nova_range.specs.declared.range.Kind.TheVariants.{Mem, Obj}
use Rattle.nova_model.specs.Choice.{Candidate, next_to_act}
use Rattle.nova_model.specs.Deeds.{deed, instruction, sign_of}
use Rattle.nova_model.specs.Edges.{edge_of}
use Rattle.nova_model.specs.Runs.{after}
use Rattle.nova_model.specs.State.{Contexts, KernelState, context, context_at, context_in, ec_in, ec_of, is_local_in, pd_in, with_ec}
use Rattle.nova_model.specs.Turn.{answer_of, turn}
use Rattle.nova_model.specs.declared.context.EcState.{EcState}
use Rattle.nova_model.specs.declared.context.Mark.{Mark}
use Rattle.nova_model.specs.declared.context.State.{State}
use Rattle.nova_model.specs.declared.context.State.TheVariants.{Blocked, Granting}
use Rattle.nova_model.specs.declared.deed.Deed.{Deed}
use Rattle.nova_model.specs.declared.deed.Deed.TheVariants.{Finishes, Replies, Rests, Steps}
use Rattle.nova_model.specs.declared.delegation.Derivation.{Derivation}
use Rattle.nova_model.specs.declared.event.Event.{Event}
use Rattle.nova_model.specs.declared.event.Turn.{Turn}
use Rattle.nova_model.specs.declared.times.Due.TheVariants as due
use Rattle.nova_model.specs.declared.transfer.ItemEnd.TheVariants.{Given, Skipped, Translated}
use Rattle.nova_ties.specs.Ties.{AreRespected, label_in}
use Rattle.nova_ties.specs.declared.tie.Cause.TheVariants as cause
use Rattle.nova_ties.specs.declared.tie.Tie.{Tie}
use Rattle.law_forest.specs.Effects.{Falls, Ticks, all_edited, applied, effect, steps_by}
use Rattle.law_forest.specs.Turns.{Acts, Idles, IsTurning, Passes, Takes, Turning, acting, turned}
use Rattle.law_forest.proofs.Turning.{comes}
use Rattle.law_turns.specs.Tables.{HasTables}
use Rattle.law_turns.proofs.Setting.{entry_itself, entry_other}
use Rattle.law_turns.proofs.TablesFit.{chosen_acts, entry_acts}
use Rattle.law_sides.specs.Isolated.{AreIsolated, came_by_exit, is_exit_of, is_sending}
use Rattle.law_sides.specs.Tied.{beside_at, beside_in, flows_by, gives_of, is_at, lead_of, leads, queue_of, serves_by, serves_of, served, shares_all, strict, takes_by, takes_of, ties, ties_at, ties_by, ties_in, ties_of_kind, waits_all, waits_at, waits_in, weak}
use Rattle.law_sides.proofs.Isolating.{respected_isolated}
use Rattle.law_sides.proofs.Respecting.{isolated_respects}
use Rattle.nova_naming.specs.Statements.{Stated}
use Rattle.nova_sides.specs.Among.{flows_in}
use Rattle.nova_judging.specs.Answers.{AreFinest, ties_beside}
use Rattle.nova_judging.specs.Labelled.{flows_between, labelled, labels_of, shared_by}
use Rattle.nova_report.specs.Report.{is_silent}
use Rattle.nova_watching.specs.Watched.{AreIsolatedBy, IsKnown, is_plain, trusted_root}

-- what ties read of an execution context
abbrev Front : Type 0
Front = State × Option (ℕ × Mark)

abbrev front : Option EcState → Option Front
front None = None
front (Some x) = Some (x.state, x.caller)

pub record AreSame (k l : KernelState) : Type 0 where
  pub list : l.delegations.list ≡ k.delegations.list
  pub objects : l.objects ≡ k.objects
  pub fronts : (n : ℕ) → front (context_at l n) ≡ front (context_at k n)

flat_same : {X Y : Type 0} (f g : X → List Y) → ((x : X) → f x ≡ g x) → (xs : List X) → flat_map f xs ≡ flat_map g xs
flat_same f g same [] = refl
flat_same f g same (x ∷ xs) = ap₂ (λ a b. a ++ b) (same x) (flat_same f g same xs)

-- two entries with the same front
pair_of : (a b : Front) → Some a ≡ Some b → a ≡ b
pair_of a b is = cc

state_of : (x y : EcState) → front (Some x) ≡ front (Some y) → x.state ≡ y.state
state_of x y is = ap (λ (p : Front). p.0) (pair_of (x.state, x.caller) (y.state, y.caller) is)

caller_of : (x y : EcState) → front (Some x) ≡ front (Some y) → x.caller ≡ y.caller
caller_of x y is = ap (λ (p : Front). p.1) (pair_of (x.state, x.caller) (y.state, y.caller) is)

waits_same : (d : Derivation) (n pd : ℕ) (o p : Option EcState) → front o ≡ front p → waits_at d n pd o ≡ waits_at d n pd p
waits_same d n pd None None is = refl
waits_same d n pd (Some x) (Some y) is = ap (λ (s : State). if is_at d.target s then Some (weak d.pd pd (cause.Waits d.id n)) else None) (state_of x y is)
waits_same d n pd None (Some y) is = absurd (cc)
waits_same d n pd (Some x) None is = absurd (cc)

beside_same : (sm n pd m other : ℕ) (o p : Option EcState) → front o ≡ front p → beside_at sm n pd m other o ≡ beside_at sm n pd m other p
beside_same sm n pd m other None None is = refl
beside_same sm n pd m other (Some x) (Some y) is = ap (λ (s : State). if is_at sm s then Some (weak pd other (cause.Queue n m)) else None) (state_of x y is)
beside_same sm n pd m other None (Some y) is = absurd (cc)
beside_same sm n pd m other (Some x) None is = absurd (cc)

module _ (shared : ℕ → Bool) (flows : ℕ → ℕ → Bool) (k l : KernelState) (same : AreSame k l) where
  state_same : (n : ℕ) → (context l n).state ≡ (context k n).state
  state_same n = by_entries (context_at l n) (context_at k n) (same.fronts n)
    where
      by_entries : (o p : Option EcState) → front o ≡ front p → (context_in o).state ≡ (context_in p).state
      by_entries None None is = refl
      by_entries (Some x) (Some y) is = state_of x y is
      by_entries None (Some y) is = absurd (cc)
      by_entries (Some x) None is = absurd (cc)

  caller_same : (n : ℕ) → (context l n).caller ≡ (context k n).caller
  caller_same n = by_entries (context_at l n) (context_at k n) (same.fronts n)
    where
      by_entries : (o p : Option EcState) → front o ≡ front p → (context_in o).caller ≡ (context_in p).caller
      by_entries None None is = refl
      by_entries (Some x) (Some y) is = caller_of x y is
      by_entries None (Some y) is = absurd (cc)
      by_entries (Some x) None is = absurd (cc)

  lead_same : (d : Derivation) (o : Option Object) → lead_of l d o ≡ lead_of k d o
  lead_same d (Some Pd) = refl
  lead_same d (Some (Ec pd cpu kind event)) = refl
  lead_same d (Some (Sc donor cpu priority quantum)) =
      ap (λ (os : List Object). Some (leads d (pd_in (slice_get os donor)) (Sc donor cpu priority quantum) (cause.Scheduling d.id))) same.objects
  lead_same d (Some (Pt handler mtd ip)) = ap (λ (os : List Object). Some (leads d (pd_in (slice_get os handler)) (Pt handler mtd ip) (cause.Portal d.id))) same.objects
  lead_same d (Some Sm) = refl
  lead_same d None = refl

  waits_in_same : (d : Derivation) (e : ℕ × Object) → waits_in l d e ≡ waits_in k d e
  waits_in_same d (n, Ec pd cpu kind event) = waits_same d n pd (context_at l n) (context_at k n) (same.fronts n)
  waits_in_same d (n, Pd) = refl
  waits_in_same d (n, Sc donor cpu priority quantum) = refl
  waits_in_same d (n, Pt handler mtd ip) = refl
  waits_in_same d (n, Sm) = refl

  waits_all_same : (d : Derivation) → waits_all shared l d ≡ waits_all shared k d
  waits_all_same d = ap (λ (ts : List Tie). if shared d.target then [] else ts)
      (flat_same (λ (e : ℕ × Object). option_to_list (waits_in l d e)) (λ (e : ℕ × Object). option_to_list (waits_in k d e)) (λ e. ap (λ (o : Option Tie). option_to_list o) (waits_in_same d e)) (enumerate_from 0 l.objects)
      ∙ ap (λ (os : List Object). flat_map (λ (e : ℕ × Object). option_to_list (waits_in k d e)) (enumerate_from 0 os)) same.objects)

  by_same : (d : Derivation) → ties_by shared flows l l.delegations.list d ≡ ties_by shared flows k k.delegations.list d
  by_same d = ap (λ (list : List Derivation). ties_by shared flows l list d) same.list ∙ by_kind d.kind
    where
      by_kind : (kind : Kind) → ties_of_kind shared flows l k.delegations.list d kind ≡ ties_of_kind shared flows k k.delegations.list d kind
      by_kind Mem = refl
      by_kind Obj =
          ap₂ (λ (a : List Tie) (b : List Tie). a ++ b) (ap (λ (o : Option Tie). option_to_list o) (lead_same d (slice_get l.objects d.target) ∙ ap (λ (os : List Object). lead_of k d (slice_get os d.target)) same.objects))
          (ap₂ (λ (a : List Tie) (b : List Tie). a ++ b) (ap (λ (os : List Object). shares_all shared k.delegations.list d (slice_get os d.target)) same.objects) (waits_all_same d))

  -- by execution contexts
  came_same : (waiter handler : ℕ) → came_by_exit l waiter handler ≡ came_by_exit k waiter handler
  came_same waiter handler = ap₂ (λ (s : State) (c : Option (ℕ × Mark)). is_sending s || is_exit_of waiter c) (state_same waiter) (caller_same handler)

  served_same : (handler n pd : ℕ) → served l handler n pd ≡ served k handler n pd
  served_same handler n pd =
      ap₂ (λ (os : List Object) (b : Bool). record { from = pd_in (slice_get os handler); to = pd; strict = is_local_in (slice_get os n) || b; cause = cause.Serves handler n }) same.objects (came_same n handler)

  serves_same : (n pd : ℕ) (o : Option ℕ) → serves_by l n pd o ≡ serves_by k n pd o
  serves_same n pd None = refl
  serves_same n pd (Some handler) = ap (λ (t : Tie). Some t) (served_same handler n pd)

  takes_same : (n pd : ℕ) (o : Option (ℕ × Mark)) → takes_by l n pd o ≡ takes_by k n pd o
  takes_same n pd None = refl
  takes_same n pd (Some (caller, mark)) = ap (λ (os : List Object). Some (strict pd (pd_in (slice_get os caller)) (cause.Takes n caller))) same.objects

  takes_in_same : (n pd : ℕ) (s : State) (c : Option (ℕ × Mark)) → takes_of l n pd s c ≡ takes_of k n pd s c
  takes_in_same n pd (Granting None) c = takes_same n pd c
  takes_in_same n pd (Granting (Some new)) c = refl
  takes_in_same n pd other c = refl

  beside_in_same : (sm n pd : ℕ) (e : ℕ × Object) → beside_in l sm n pd e ≡ beside_in k sm n pd e
  beside_in_same sm n pd (m, Ec other cpu kind event) = beside_same sm n pd m other (context_at l m) (context_at k m) (same.fronts m)
  beside_in_same sm n pd (m, Pd) = refl
  beside_in_same sm n pd (m, Sc donor cpu priority quantum) = refl
  beside_in_same sm n pd (m, Pt handler mtd ip) = refl
  beside_in_same sm n pd (m, Sm) = refl

  queue_same : (n pd : ℕ) (s : State) → queue_of shared l n pd s ≡ queue_of shared k n pd s
  queue_same n pd (Blocked sm) = ap (λ (ts : List Tie). if shared sm then [] else ts)
      (flat_same (λ (e : ℕ × Object). option_to_list (beside_in l sm n pd e)) (λ (e : ℕ × Object). option_to_list (beside_in k sm n pd e)) (λ e. ap (λ (o : Option Tie). option_to_list o) (beside_in_same sm n pd e)) (enumerate_from 0 l.objects)
      ∙ ap (λ (os : List Object). flat_map (λ (e : ℕ × Object). option_to_list (beside_in k sm n pd e)) (enumerate_from 0 os)) same.objects)
  queue_same n pd other = refl

  abbrev parts_of : KernelState → ℕ → ℕ → State → Option (ℕ × Mark) → List Tie
  parts_of s n pd state caller = option_to_list (serves_of s n pd state) ++ (option_to_list (takes_of s n pd state caller) ++ (option_to_list (gives_of n pd state) ++ queue_of shared s n pd state))

  parts_same : (n pd : ℕ) (s : State) (c : Option (ℕ × Mark)) → parts_of l n pd s c ≡ parts_of k n pd s c
  parts_same n pd s c =
      ap₂ (λ (a : List Tie) (b : List Tie). a ++ b) (ap (λ (o : Option Tie). option_to_list o) (serves_same n pd (edge_of s)))
      (ap₂ (λ (a : List Tie) (b : List Tie). a ++ b) (ap (λ (o : Option Tie). option_to_list o) (takes_in_same n pd s c))
      (ap (λ (q : List Tie). option_to_list (gives_of n pd s) ++ q) (queue_same n pd s)))

  in_same : (n pd : ℕ) (o p : Option EcState) → front o ≡ front p → ties_in shared l n pd o ≡ ties_in shared k n pd p
  in_same n pd None None is = refl
  in_same n pd (Some x) (Some y) is = parts_same n pd x.state x.caller ∙ ap₂ (parts_of k n pd) (state_of x y is) (caller_of x y is)
  in_same n pd None (Some y) is = absurd (cc)
  in_same n pd (Some x) None is = absurd (cc)

  at_same : (e : ℕ × Object) → ties_at shared l e ≡ ties_at shared k e
  at_same (n, Ec pd cpu kind event) = in_same n pd (context_at l n) (context_at k n) (same.fronts n)
  at_same (n, Pd) = refl
  at_same (n, Sc donor cpu priority quantum) = refl
  at_same (n, Pt handler mtd ip) = refl
  at_same (n, Sm) = refl

  ties_same : ties shared flows l ≡ ties shared flows k
  unfolding ties
  ties_same =
      ap₂ (λ (a : List Tie) (b : List Tie). a ++ b)
      (flat_same (ties_by shared flows l l.delegations.list) (ties_by shared flows k k.delegations.list) by_same l.delegations.list ∙ ap (flat_map (ties_by shared flows k k.delegations.list)) same.list)
      (flat_same (ties_at shared l) (ties_at shared k) at_same (enumerate_from 0 l.objects) ∙ ap (λ (os : List Object). flat_map (ties_at shared k) (enumerate_from 0 os)) same.objects)

labels_same : (k l : KernelState) → AreSame k l → (policy : List Stated) → labels_of policy l ≡ labels_of policy k
unfolding labels_of
labels_same k l same policy = ap (λ (os : List Object). map (labelled policy) (enumerate_from 0 os)) same.objects

-- the ties of a policy's sides
policy_same : (k l : KernelState) → AreSame k l → (flows : List (ℕ × ℕ)) (policy : List Stated) → ties_beside flows policy l ≡ ties_beside flows policy k
policy_same k l same flows policy =
    ap (λ (labels : List ℕ). ties (shared_by policy) (flows_in flows labels) l) (labels_same k l same policy)
    ∙ ties_same (shared_by policy) (flows_in flows (labels_of policy k)) k l same

pub still_isolated : (k l : KernelState) → AreSame k l → (policy : Option (List Stated)) → HasTables l → AreIsolatedBy policy k → AreIsolatedBy policy l
still_isolated k l same None tables found = record {
  new = found.new;
  finest = subst (λ (old : List ℕ). AreFinest (ties_beside [] trusted_root l) old found.new) (sym (labels_same k l same trusted_root))
      (subst (λ (tied : List Tie). AreFinest tied (labels_of trusted_root k) found.new) (sym (policy_same k l same [] trusted_root)) found.finest);
}
still_isolated k l same (Some policy) tables isolated =
    subst (λ (labels : List ℕ). AreIsolated (shared_by policy) (flows_between policy) l (label_in labels)) (sym (labels_same k l same policy))
    (respected_isolated l (label_in (labels_of policy k)) tables
    (subst (AreRespected (label_in (labels_of policy k))) (sym (ties_same (shared_by policy) (flows_by (flows_between policy) (label_in (labels_of policy k))) k l same))
    (isolated_respects k (label_in (labels_of policy k)) isolated)))

-- A PLAIN TURN

-- an instruction leaves all fronts
fronts_with : (cs : Contexts) (ec n : ℕ) (regs : Registers) → is_some (ec_in cs ec) ≡ true → front (ec_in (with_ec cs ec (record (ec_of cs ec) { regs = regs })) n) ≡ front (ec_in cs n)
fronts_with cs ec n regs there = by_test (n == ec) refl
  where
    itself : (o : Option EcState) → ec_in cs ec ≡ o → is_some o ≡ true → front (Some (record (ec_of cs ec) { regs = regs })) ≡ front o
    itself None at is = absurd (cc)
    itself (Some x) at is = ap (λ (y : EcState). Some (y.state, y.caller)) (ap context_in at)

    by_test : (b : Bool) → (n == ec) ≡ b → front (ec_in (with_ec cs ec (record (ec_of cs ec) { regs = regs })) n) ≡ front (ec_in cs n)
    by_test true is =
        let one : n ≡ ec = eqb-true n ec is in
        subst (λ (m : ℕ). front (ec_in (with_ec cs ec (record (ec_of cs ec) { regs = regs })) m) ≡ front (ec_in cs m)) (sym one)
        (ap front (entry_itself cs ec (record (ec_of cs ec) { regs = regs }) there) ∙ itself (ec_in cs ec) refl there)
    by_test false is = ap front (entry_other cs ec n (record (ec_of cs ec) { regs = regs }) (λ one. let both : true ≡ false = sym (eq-eqb n ec one) ∙ is in absurd (cc)))

steps_fronts : (cs : Contexts) (ec n : ℕ) (o : Once) → is_some (ec_in cs ec) ≡ true → front (ec_in (all_edited cs (steps_by ec o)) n) ≡ front (ec_in cs n)
steps_fronts cs ec n (Raised reason q0 q1) there = refl
steps_fronts cs ec n (Went regs store) there = fronts_with cs ec n regs there

plain_deed : (d : Deed) → is_silent (sign_of d).0 ≡ true → (d ≡ Steps) ⊎ (d ≡ Rests)
plain_deed Steps is = inl refl
plain_deed Rests is = inr refl
plain_deed (Finishes item (Given children) words next) is = absurd (cc)
plain_deed (Finishes item (Skipped skip) words next) is = absurd (cc)
plain_deed (Finishes item (Translated word) words next) is = absurd (cc)
plain_deed (Replies caller mark true) is = absurd (cc)
plain_deed (Replies caller mark false) is = absurd (cc)
plain_deed other is = absurd (cc)

acting_same : (k : KernelState) (cpu : ℕ) (c : Candidate) → next_to_act k cpu ≡ Some c → (d : Deed) → deed k c.actor ≡ d → (d ≡ Steps) ⊎ (d ≡ Rests) → AreSame k (turned k cpu (acting k c))
acting_same k cpu c next d is (inl steps) =
    let does : Steps ≡ deed k c.actor = sym (is ∙ steps) in
    let there : is_some (context_at k c.actor) ≡ true = entry_acts k.contexts (context_at k c.actor) (chosen_acts k cpu c next) in
    record {
      list = subst (λ (e : Deed). (applied k (effect k c.actor e)).delegations.list ≡ k.delegations.list) does refl;
      objects = subst (λ (e : Deed). (applied k (effect k c.actor e)).objects ≡ k.objects) does refl;
      fronts = λ n. subst (λ (e : Deed). front (ec_in (applied k (effect k c.actor e)).contexts n) ≡ front (context_at k n)) does (steps_fronts k.contexts c.actor n (instruction k c.actor) there);
    }
acting_same k cpu c next d is (inr rests) =
    let does : Rests ≡ deed k c.actor = sym (is ∙ rests) in
    record {
      list = subst (λ (e : Deed). (applied k (effect k c.actor e)).delegations.list ≡ k.delegations.list) does refl;
      objects = subst (λ (e : Deed). (applied k (effect k c.actor e)).objects ≡ k.objects) does refl;
      fronts = λ n. subst (λ (e : Deed). front (ec_in (applied k (effect k c.actor e)).contexts n) ≡ front (context_at k n)) does refl;
    }

turning_same : (k : KernelState) (cpu : ℕ) (t : Turning) (e : Event) → IsTurning k cpu t e → is_silent e.kind ≡ true → AreSame k (turned k cpu t)
turning_same k cpu t e (Acts c next at event) plain =
    subst (λ (u : Turning). AreSame k (turned k cpu u)) (sym at)
    (acting_same k cpu c next (deed k c.actor) refl (plain_deed (deed k c.actor) (sym (ap (λ (f : Event). is_silent f.kind) event) ∙ plain)))
turning_same k cpu t e (Passes Ticks due at event) plain =
    subst (λ (u : Turning). AreSame k (turned k cpu u)) (sym at) (record { list = refl; objects = refl; fronts = λ n. refl })
turning_same k cpu t e (Passes (Falls (due.Alarm alarm)) due_ at event) plain = absurd (let both = sym (ap (λ (f : Event). is_silent f.kind) event) ∙ plain in cc)
turning_same k cpu t e (Passes (Falls (due.Deadline ec)) due_ at event) plain = absurd (let both = sym (ap (λ (f : Event). is_silent f.kind) event) ∙ plain in cc)

pub plain_same : (k : KernelState) (cpu : ℕ) (t : Turn) → t ≡ answer_of (turn k cpu) → is_plain t ≡ true → AreSame k (after k cpu)
plain_same k cpu t is plain = elim (comes k cpu) [
  | Idles none moment state answer ↦ absurd (let both : false ≡ true = sym (ap is_plain (is ∙ answer)) ∙ plain in cc)
  | Takes u e turning state answer ↦ subst (AreSame k) (sym state) (turning_same k cpu u e turning (sym (ap is_plain (is ∙ answer)) ∙ plain))
]

-- what is known after a turn
pub known_after : (k l : KernelState) (cpu : ℕ) (t : Turn) (policy : Option (List Stated)) (known plain : Bool) → l ≡ after k cpu → t ≡ answer_of (turn k cpu) → HasTables l → IsKnown known policy k → plain ≡ is_plain t →
    IsKnown (known && plain) policy l
known_after k l cpu t policy false plain state answer tables before is = tt
known_after k l cpu t policy true false state answer tables before is = tt
known_after k l cpu t policy true true state answer tables before is =
    still_isolated k l (subst (AreSame k) (sym state) (plain_same k cpu t answer (sym is))) policy tables before
