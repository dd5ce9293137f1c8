-- Whether a side is at work in a turn: by the state of who acts, and where it makes a hypercall by that, which is seen of the event; and where it gives by who is amid a revoke.
use Rattle.std.proofs.Common.{◌≡◌, ◌⊎◌, ℕ, ◌+◌, ◌-◌, refl, sym, ap, ◌∙◌, subst, inl, inr, arith}
use Rattle.std.specs.Prelude.{◌==◌, ◌&&◌, Bool, true, false, not, nat_le, Option, Some, None, option_and_then, option_map, if◌then◌else◌}
use Rattle.std.specs.Option.{option_or}
use Rattle.std.proofs.lemmas.Bool.{and_from, and_parts}
use Rattle.std.proofs.lemmas.Bool.Decides.{nat_tests}
use Rattle.std.proofs.lemmas.Option.{same_Some}
use Rattle.nova_calls.specs.Hypercalls.{call_of}
use Rattle.nova_model.specs.Choice.{Candidate, choice, next_to_act, unless_due}
use Rattle.nova_model.specs.Deeds.{deed, sign_of}
use Rattle.nova_model.specs.Edges.{is_giving}
use Rattle.nova_model.specs.State.{KernelState, context, context_at, context_in, pd_of}
use Rattle.nova_model.specs.Times.{Entry, Times, clock, due_on, if_due, next_entry, until_due}
use Rattle.nova_model.specs.Turn.{answer_of, chosen_by, taken, turn, turn_by}
use Rattle.nova_model.specs.declared.context.EcState.{EcState}
use Rattle.nova_model.specs.declared.event.Turn.{Turn}
use Rattle.nova_model.specs.declared.times.Due.{Due}
use Rattle.law_integrity.specs.Rights.{Again, AtCall, IsAsking}
use Rattle.law_turns.specs.Revoking.{is_revoking}
use Rattle.law_integrity.specs.Confined.{Of}
use Rattle.law_turns.specs.Tables.{HasTables}
use Rattle.law_flow.specs.Flow.{IsCallAtWork, RevokesNothing, if_own, own_turn}
use Rattle.nova_flowing.specs.Working.{IsWorking, is_of_side, is_revoke, kind_at, kind_in, kind_of}
use Rattle.nova_flowing.specs.declared.lapse.Lapse.{Lapse}
use Rattle.nova_flowing.specs.declared.lapse.LapseKind.{LapseKind}
use Rattle.nova_flowing.specs.declared.lapse.LapseKind.TheVariants.{Creates, Gives, Revokes}
use Rattle.nova_watching.specs.Worked.{IsLapse, IsTurnTold, asks_in, doer_at, doer_in, first_gift, gift_in, is_due, lapse_by, lapse_in, lapse_in_turn, lapse_kind, next_doer, of_side, turn_lapse}
use Rattle.nova_watching.specs.declared.work.Doer.{Doer}
use Rattle.nova_watching.proofs.Calling.{asking_from, from_asking, not_both}
use Rattle.nova_watching.proofs.Gifts.{doer_with, gift_is, idle_asks, none_amid}
use Rattle.nova_watching.proofs.Doings.{call_creates, call_revokes, call_works, gift_state, no_birth, no_gift, revoke_state, revokes_call, state_gives, state_revokes}

module _ (revokes : Bool) (S : ℕ → Bool) (k : KernelState) (cpu n : ℕ) where
  -- nobody acts
  none_acts : next_to_act k cpu ≡ None → IsTurnTold revokes S k cpu n None
  none_acts none ec sc own = absurd (let both : None ≡ Some (ec, sc) = sym (ap (option_and_then (λ (c : Candidate). if_own (S (pd_of k c.actor)) c)) none) ∙ own in cc)

  module _ (c : Candidate) (next : next_to_act k cpu ≡ Some c) where
    abbrev here : Doer
    here = doer_with k c.actor (context k c.actor)

    own_is : own_turn S k cpu ≡ if_own (S (pd_of k c.actor)) c
    own_is = ap (option_and_then (λ (d : Candidate). if_own (S (pd_of k d.actor)) d)) next

    -- whose turn it is, where it is the side's
    mine_by : (ec sc : ℕ) → own_turn S k cpu ≡ Some (ec, sc) → (S (pd_of k c.actor) ≡ true) × (c.actor ≡ ec)
    mine_by ec sc own = by_test (S (pd_of k c.actor)) refl (sym own_is ∙ own)
      where
        by_test : (b : Bool) → S (pd_of k c.actor) ≡ b → if_own b c ≡ Some (ec, sc) → (S (pd_of k c.actor) ≡ true) × (c.actor ≡ ec)
        by_test true is h = (is, ap (λ (p : ℕ × ℕ). p.0) (same_Some (c.actor, c.sc) (ec, sc) h))
        by_test false is h = absurd (cc)

    works_if : (S (pd_of k c.actor) ≡ true → IsWorking revokes S k c.actor) → IsTurnTold revokes S k cpu n None
    works_if works ec sc own = let its = mine_by ec sc own in subst (IsWorking revokes S k) its.1 (works its.0)

    -- it is at work
    calm_works : kind_in (context k c.actor).state ≡ None → (IsAsking k c.actor → IsCallAtWork (Unit {0}) (revokes ≡ true) (false ≡ true) (call_of (context k c.actor).regs)) → IsWorking revokes S k c.actor
    calm_works none calls = record {
      calls = calls;
      gives = λ is. absurd (state_gives (context k c.actor).state none is);
      revokes = λ is. absurd (state_revokes (context k c.actor).state none is);
    }

    gift_works : kind_in (context k c.actor).state ≡ Some Gives → RevokesNothing k (Of S) → IsWorking revokes S k c.actor
    gift_works is none =
        let g = gift_state (context k c.actor).state is in
        record { calls = λ asking. absurd (idle_asks k c.actor Gives is asking); gives = λ gives. none; revokes = λ amid. absurd (g.stays amid) }

    revoke_works : kind_in (context k c.actor).state ≡ Some Revokes → revokes ≡ true → IsWorking revokes S k c.actor
    revoke_works is may =
        let g = revoke_state (context k c.actor).state is in
        record { calls = λ asking. absurd (idle_asks k c.actor Revokes is asking); gives = λ gives. absurd (g.keeps gives); revokes = λ amid. may }

    -- or it lapses
    lapse_of : (l : Lapse) → l.ec ≡ c.actor → l.pd ≡ pd_of k c.actor → S l.pd ≡ true → (IsWorking revokes S k c.actor → ⊥) → kind_at k c.actor ≡ Some l.kind → l.turn ≡ n + 1 → IsLapse revokes S k cpu n l
    lapse_of l ec pd s never kind turn = record {
      sc = c.sc;
      acts = own_is ∙ ap (λ (b : Bool). if_own b c) (ap S (sym pd) ∙ s) ∙ ap (λ (m : ℕ). Some (m, c.sc)) (sym ec);
      lapses = λ works. never (subst (IsWorking revokes S k) ec works);
      kind = ap (kind_at k) ec ∙ kind;
      turn = turn;
    }

    by_state_kind : (kind : LapseKind) → kind_in (context k c.actor).state ≡ Some kind → kind_at k c.actor ≡ Some kind
    by_state_kind kind is = ap (λ (o : Option LapseKind). option_or o (kind_of (call_of (context k c.actor).regs))) is

    by_call_kind : (kind : LapseKind) → kind_in (context k c.actor).state ≡ None → kind_of (call_of (context k c.actor).regs) ≡ Some kind → kind_at k c.actor ≡ Some kind
    by_call_kind kind none is = ap (λ (o : Option LapseKind). option_or o (kind_of (call_of (context k c.actor).regs))) none ∙ is

    -- what gives
    gifts_told : kind_in (context k c.actor).state ≡ Some Gives → HasTables k → (o : Option Lapse) → first_gift revokes S k n here ≡ o → IsTurnTold revokes S k cpu n o
    gifts_told is tables None none = works_if (λ mine. gift_works is (none_amid revokes S k n here tables mine none))
    gifts_told is tables (Some l) first =
        let g = gift_is revokes S k n here l first in
        let b = g.0 in
        let both = and_parts (S l.pd) (S l.amid) (and_parts (S l.pd && S l.amid) (not (revokes && is_revoke l.kind)) g.1).0 in
        let amid = b.beside in
        lapse_of l b.ec b.pd both.0 (λ works. works.gives (gift_state (context k c.actor).state is).gives amid.who amid.range amid.own amid.state (ap S amid.of ∙ both.1))
        (by_state_kind Gives is ∙ ap Some (sym b.kind)) b.turn

    -- what is a lapse by itself
    abbrev alone : LapseKind → Lapse
    alone kind = record { turn = n + 1; ec = c.actor; pd = pd_of k c.actor; amid = pd_of k c.actor; kind = kind }

    alone_told : (kind : LapseKind) → kind_at k c.actor ≡ Some kind → (not (revokes && is_revoke kind) ≡ true → IsWorking revokes S k c.actor → ⊥) →
        (not (revokes && is_revoke kind) ≡ false → IsWorking revokes S k c.actor) → IsTurnTold revokes S k cpu n (of_side revokes S (Some (alone kind)))
    alone_told kind is never works = by_test (is_of_side revokes S (alone kind)) refl
      where
        by_may : S (pd_of k c.actor) ≡ true → is_of_side revokes S (alone kind) ≡ false → (b : Bool) → not (revokes && is_revoke kind) ≡ b → IsWorking revokes S k c.actor
        by_may mine off true counts =
            absurd (not_both (is_of_side revokes S (alone kind))
            (and_from (S (pd_of k c.actor) && S (pd_of k c.actor)) (not (revokes && is_revoke kind)) (and_from (S (pd_of k c.actor)) (S (pd_of k c.actor)) mine mine) counts) off)
        by_may mine off false counts = works counts

        by_test : (b : Bool) → is_of_side revokes S (alone kind) ≡ b → IsTurnTold revokes S k cpu n (if b then Some (alone kind) else None)
        by_test true its =
            let parts = and_parts (S (pd_of k c.actor) && S (pd_of k c.actor)) (not (revokes && is_revoke kind)) its in
            lapse_of (alone kind) refl refl (and_parts (S (pd_of k c.actor)) (S (pd_of k c.actor)) parts.0).0 (never parts.1) is refl
        by_test false its = works_if (λ mine. by_may mine its (not (revokes && is_revoke kind)) refl)

    -- where a revoke counts it isn't allowed
    counts_not : (b : Bool) → not (b && true) ≡ true → b ≡ true → ⊥
    counts_not true counts may = absurd (cc)
    counts_not false counts may = absurd (cc)

    allows_it : (b : Bool) → not (b && true) ≡ false → b ≡ true
    allows_it true off = refl
    allows_it false off = absurd (cc)

    counts_always : (b : Bool) → not (b && false) ≡ false → ⊥
    counts_always true off = absurd (cc)
    counts_always false off = absurd (cc)

    told_with : HasTables k → IsTurnTold revokes S k cpu n
        (option_or (gift_in revokes S k n here (kind_in (context k c.actor).state)) (of_side revokes S (lapse_by n here (lapse_kind here (sign_of (deed k c.actor)).0))))
    told_with tables = by_state (kind_in (context k c.actor).state) refl
      where
        calls_none : kind_of (call_of (context k c.actor).regs) ≡ None → IsAsking k c.actor → IsCallAtWork (Unit {0}) (revokes ≡ true) (false ≡ true) (call_of (context k c.actor).regs)
        calls_none two asking = call_works (revokes ≡ true) (call_of (context k c.actor).regs) two

        by_kind : kind_in (context k c.actor).state ≡ None → (kind : LapseKind) → kind_of (call_of (context k c.actor).regs) ≡ Some kind → asks_in (context k c.actor).state (sign_of (deed k c.actor)).0 ≡ true →
            IsTurnTold revokes S k cpu n (of_side revokes S (lapse_by n here (Some kind)))
        by_kind one Creates two three =
            alone_told Creates (by_call_kind Creates one two)
            (λ counts works. call_creates (revokes ≡ true) (call_of (context k c.actor).regs) two (works.calls (asking_from k c.actor three))) (λ off. absurd (counts_always revokes off))
        by_kind one Gives two three = absurd (no_gift (call_of (context k c.actor).regs) two)
        by_kind one Revokes two three =
            alone_told Revokes (by_call_kind Revokes one two)
            (λ counts works. counts_not revokes counts (call_revokes (revokes ≡ true) (call_of (context k c.actor).regs) two (works.calls (asking_from k c.actor three))))
            (λ off. calm_works one (λ asking. revokes_call (revokes ≡ true) (call_of (context k c.actor).regs) two (allows_it revokes off)))

        by_asks : kind_in (context k c.actor).state ≡ None → (kind : LapseKind) → kind_of (call_of (context k c.actor).regs) ≡ Some kind → (asks : Bool) → asks_in (context k c.actor).state (sign_of (deed k c.actor)).0 ≡ asks →
            IsTurnTold revokes S k cpu n (of_side revokes S (lapse_by n here (lapse_in (Some kind) asks)))
        by_asks one kind two true three = by_kind one kind two three
        by_asks one kind two false three =
            works_if (λ mine. calm_works one (λ asking. not_both (asks_in (context k c.actor).state (sign_of (deed k c.actor)).0) (from_asking k c.actor kind two asking) three))

        by_call : kind_in (context k c.actor).state ≡ None → (call : Option LapseKind) → kind_of (call_of (context k c.actor).regs) ≡ call → (asks : Bool) → asks_in (context k c.actor).state (sign_of (deed k c.actor)).0 ≡ asks →
            IsTurnTold revokes S k cpu n (of_side revokes S (lapse_by n here (lapse_in call asks)))
        by_call one None two true three = works_if (λ mine. calm_works one (calls_none two))
        by_call one None two false three = works_if (λ mine. calm_works one (calls_none two))
        by_call one (Some kind) two asks three = by_asks one kind two asks three

        by_state : (state : Option LapseKind) → kind_in (context k c.actor).state ≡ state → IsTurnTold revokes S k cpu n
            (option_or (gift_in revokes S k n here state) (of_side revokes S (lapse_by n here (option_or state (lapse_in (kind_of (call_of (context k c.actor).regs)) (asks_in (context k c.actor).state (sign_of (deed k c.actor)).0))))))
        by_state (Some Creates) one = absurd (no_birth (context k c.actor).state one)
        by_state (Some Gives) one = subst (IsTurnTold revokes S k cpu n) (sym (no_more (first_gift revokes S k n here))) (gifts_told one tables (first_gift revokes S k n here) refl)
          where
            no_more : (o : Option Lapse) → option_or o None ≡ o
            no_more None = refl
            no_more (Some l) = refl
        by_state (Some Revokes) one =
            alone_told Revokes (by_state_kind Revokes one) (λ counts works. counts_not revokes counts (works.revokes (revoke_state (context k c.actor).state one).revokes))
            (λ off. revoke_works one (allows_it revokes off))
        by_state None one = by_call one (kind_of (call_of (context k c.actor).regs)) refl (asks_in (context k c.actor).state (sign_of (deed k c.actor)).0) refl

  -- a number without an execution context does nothing
  nobody_works : (ec : ℕ) → context_at k ec ≡ None → IsWorking revokes S k ec
  nobody_works ec none = record {
    calls = λ asking. absurd (by_asking asking);
    gives = λ gives. absurd (let both = sym (ap (λ (o : Option EcState). is_giving (context_in o).state) none) ∙ gives in cc);
    revokes = λ amid. absurd (let both = sym (ap (λ (o : Option EcState). is_revoking (context_in o).state) none) ∙ amid in cc);
  }
    where
      by_asking : IsAsking k ec → ⊥
      by_asking (AtCall c) = let both = sym (ap (λ (o : Option EcState). (context_in o).state) none) ∙ c.state in absurd (cc)
      by_asking (Again handler is) = let both = sym (ap (λ (o : Option EcState). (context_in o).state) none) ∙ is in absurd (cc)

-- WHAT IS DUE

pub record IsLate (t : Times) (cpu : ℕ) : Type 0 where
  pub what : Due
  pub due : due_on t cpu ≡ Some what
  pub test : is_due (until_due t cpu) ≡ true

pub record IsEarly (t : Times) (cpu : ℕ) : Type 0 where
  pub none : due_on t cpu ≡ None
  pub test : is_due (until_due t cpu) ≡ false

late_or_early : (t : Times) (cpu : ℕ) → IsLate t cpu ⊎ IsEarly t cpu
late_or_early t cpu = by_entry (next_entry t cpu) refl
  where
    by_test : (e : Entry) → next_entry t cpu ≡ Some e → (b : Bool) → nat_le e.moment (clock t cpu) ≡ b → IsLate t cpu ⊎ IsEarly t cpu
    by_test e is true h = inl (record {
      what = e.what;
      due = ap (option_and_then (if_due (clock t cpu))) is ∙ ap (λ (b : Bool). if b then Some e.what else None) h;
      test = ap (λ (o : Option Entry). is_due (option_map (λ (m : ℕ). m - clock t cpu) (option_map (λ (e : Entry). e.moment) o))) is ∙ nothing_left e.moment (clock t cpu) h;
    })
      where
        nothing_left : (m c : ℕ) → nat_le m c ≡ true → (m - c == 0) ≡ true
        nothing_left m c h = grind (arith, nat_tests, h)
    by_test e is false h = inr (record {
      none = ap (option_and_then (if_due (clock t cpu))) is ∙ ap (λ (b : Bool). if b then Some e.what else None) h;
      test = ap (λ (o : Option Entry). is_due (option_map (λ (m : ℕ). m - clock t cpu) (option_map (λ (e : Entry). e.moment) o))) is ∙ some_left e.moment (clock t cpu) h;
    })
      where
        some_left : (m c : ℕ) → nat_le m c ≡ false → (m - c == 0) ≡ false
        some_left m c h = grind (arith, nat_tests, h)

    by_entry : (o : Option Entry) → next_entry t cpu ≡ o → IsLate t cpu ⊎ IsEarly t cpu
    by_entry None is = inr (record {
      none = ap (option_and_then (if_due (clock t cpu))) is;
      test = ap (λ (o : Option Entry). is_due (option_map (λ (m : ℕ). m - clock t cpu) (option_map (λ (e : Entry). e.moment) o))) is;
    })
    by_entry (Some e) is = by_test e is (nat_le e.moment (clock t cpu)) refl

next_is : (k : KernelState) (cpu : ℕ) (d : Option Due) (c : Option Candidate) → due_on k.times cpu ≡ d → choice k cpu ≡ c → next_to_act k cpu ≡ unless_due d c
unfolding next_to_act
next_is k cpu d c due is = ap (λ (e : Option Due). unless_due e (choice k cpu)) due ∙ ap (unless_due d) is

turn_chosen : (k : KernelState) (cpu : ℕ) (c : Candidate) → due_on k.times cpu ≡ None → choice k cpu ≡ Some c → turn k cpu ≡ Some (taken k cpu c (deed k c.actor))
unfolding turn
turn_chosen k cpu c early is = ap (turn_by k cpu) early ∙ ap (chosen_by k cpu) is

-- what is told of a turn
pub turn_told : (revokes : Bool) (S : ℕ → Bool) (k : KernelState) (cpu n : ℕ) → HasTables k → IsTurnTold revokes S k cpu n (turn_lapse revokes S k cpu n)
turn_told revokes S k cpu n tables = elim (late_or_early k.times cpu) [
  | inl late ↦ by_late late
  | inr early ↦ by_choice early (choice k cpu) refl
]
  where
    answer : Turn
    answer = answer_of (turn k cpu)

    by_late : IsLate k.times cpu → IsTurnTold revokes S k cpu n (lapse_in_turn revokes S k n (next_doer k cpu (is_due (until_due k.times cpu))) answer)
    by_late late =
        subst (λ (b : Bool). IsTurnTold revokes S k cpu n (lapse_in_turn revokes S k n (next_doer k cpu b) answer)) (sym late.test)
        (none_acts revokes S k cpu n (next_is k cpu (Some late.what) (choice k cpu) late.due refl))

    by_context : (c : Candidate) → next_to_act k cpu ≡ Some c → (o : Option EcState) → context_at k c.actor ≡ o →
        IsTurnTold revokes S k cpu n (lapse_in_turn revokes S k n (doer_in k c.actor o) (answer_of (Some (taken k cpu c (deed k c.actor)))))
    by_context c next None at = works_if revokes S k cpu n c next (λ mine. nobody_works revokes S k cpu n c.actor at)
    by_context c next (Some x) at =
        let here : context k c.actor ≡ x = ap context_in at in
        subst (λ (y : EcState). IsTurnTold revokes S k cpu n
        (option_or (gift_in revokes S k n (doer_with k c.actor y) (kind_in y.state)) (of_side revokes S (lapse_by n (doer_with k c.actor y) (lapse_kind (doer_with k c.actor y) (sign_of (deed k c.actor)).0))))) here
        (told_with revokes S k cpu n c next tables)

    by_choice : IsEarly k.times cpu → (o : Option Candidate) → choice k cpu ≡ o → IsTurnTold revokes S k cpu n (lapse_in_turn revokes S k n (next_doer k cpu (is_due (until_due k.times cpu))) answer)
    by_choice early None is =
        subst (λ (b : Bool). IsTurnTold revokes S k cpu n (lapse_in_turn revokes S k n (next_doer k cpu b) answer)) (sym early.test)
        (subst (λ (o : Option Candidate). IsTurnTold revokes S k cpu n (lapse_in_turn revokes S k n (option_and_then (doer_at k) (option_map (λ (c : Candidate). c.actor) o)) answer)) (sym is)
        (none_acts revokes S k cpu n (next_is k cpu None None early.none is)))
    by_choice early (Some c) is =
        subst (λ (b : Bool). IsTurnTold revokes S k cpu n (lapse_in_turn revokes S k n (next_doer k cpu b) answer)) (sym early.test)
        (subst (λ (o : Option Candidate). IsTurnTold revokes S k cpu n (lapse_in_turn revokes S k n (option_and_then (doer_at k) (option_map (λ (d : Candidate). d.actor) o)) answer)) (sym is)
        (subst (λ (t : Turn). IsTurnTold revokes S k cpu n (lapse_in_turn revokes S k n (doer_at k c.actor) t)) (sym (ap answer_of (turn_chosen k cpu c early.none is)))
        (by_context c (next_is k cpu None (Some c) early.none is) (context_at k c.actor) refl)))
