-- What is found while a hypercall is decided: each row.
use Rattle.std.proofs.Common.{◌≡◌, ◌<◌, ◌≤◌, ℕ, ◌^◌, ◌+◌, refl, sym, ap, ap₂, ◌∙◌, subst, arith, inl, inr}
use Rattle.std.specs.Prelude.{Bool, true, false, is_some, not, if◌then◌else◌, slice_get, option_map, Option, Some, None, Result, Ok, Err, ◌==◌, ◌&&◌, ◌||◌}
use Rattle.std.specs.List.{find}
use Rattle.std.proofs.lemmas.Bool.{and_parts, eq-eqb, eqb-false, eqb-true}
use Rattle.std.proofs.lemmas.Bool.Decides.{nat_tests}
use Rattle.rv_model.specs.Registers.{reg}
use Rattle.nova_calls.specs.declared.call.Call.{Call}
use Rattle.nova_calls.specs.declared.call.Call.TheVariants as asks
use Rattle.nova_calls.specs.declared.call.SmAction.{SmAction}
use Rattle.nova_calls.specs.declared.call.SmAction.TheVariants as act
use Rattle.nova_calls.specs.declared.numbers.TheConstants.{LOOKUP, CALL, CREATE_EC, CREATE_SC, CREATE_PT, CREATE_SM, EC_CTRL, PT_CTRL, SC_CTRL, SM_CTRL}
use Rattle.nova_calls.specs.Numbers.{number_of}
use Rattle.nova_calls.proofs.Numbered.{read_numbered}
use Rattle.nova_objects.specs.declared.object.Object.{Object}
use Rattle.nova_range.specs.declared.range.Range.{Range}
use Rattle.nova_range.specs.declared.rights.Rights.{Rights}
use Rattle.nova_utcb.specs.Messages.{has_counts}
use Rattle.nova_range.specs.declared.status.Status.{Status}
use Rattle.nova_range.specs.declared.status.Status.TheVariants.{Aborted, BadCpu, Timeout}
use Rattle.nova_model.specs.Calls.{admitted, is_parked, is_same_cpu}
use Rattle.nova_model.specs.Capabilities.{call_right, control_right, down_right, is_ec, is_pt, is_sc, is_sm, named, up_right}
use Rattle.nova_range.specs.RangeWords.{word_of}
use Rattle.nova_model.specs.Delegations.{covers, has_place, is_same_kind, range_of}
use Rattle.nova_model.specs.Edges.{circle, cpu_in, is_dead, state_in}
use Rattle.nova_model.specs.Hypercalls.{and_then, asked, deadline_after, downed_by, downed_within, hypercall, looked_up, new_domain, or_refuses, row, sm_ctrl, ticks_in, unless, upped_by}
use Rattle.nova_model.specs.Portals.{handler_of, ip_of, mtd_in}
use Rattle.nova_model.specs.Semaphores.{answer_of, semaphore, woken}
use Rattle.nova_model.specs.State.{Contexts, KernelState, Semaphore, budget_at, context, message, pd_of, processor_of}
use Rattle.nova_model.specs.Times.{clock}
use Rattle.nova_model.specs.declared.admit.Admit.TheVariants.{Help, Refused, Send}
use Rattle.nova_model.specs.declared.deed.Deed.{Deed}
use Rattle.nova_model.specs.declared.deed.Deed.TheVariants as deeds
use Rattle.nova_model.specs.declared.delegation.Derivation.{Derivation}
use Rattle.nova_model.specs.declared.new_object.NewObject.TheVariants.{Sm}
use Rattle.nova_model.specs.declared.semaphore.Down.{Down}
use Rattle.nova_model.specs.declared.semaphore.Down.TheVariants as lowering
use Rattle.nova_model.specs.declared.semaphore.Overflow.{Overflow}
use Rattle.law_forest.proofs.Members.{all_at, contains_from_in, found_in, in_from_contains, none_found}
use Rattle.law_forest.proofs.Transfers.{kinds_equal}
use Rattle.law_forest.proofs.Walk.{IfDone}
use Rattle.law_turns.specs.Tables.{IsOf}
use Rattle.law_turns.proofs.Rows.{call_holds, create_pd_holds, makes_hold, reply_holds}
use Rattle.law_turns.proofs.Referring.{portal_at}
use Rattle.law_turns.proofs.Holding.{has_from}
use Rattle.law_turns.proofs.Creators.{same_kind as same_itself}
use Rattle.law_integrity.specs.Rights.{CallsAt, IsAsking, Names}
use Rattle.law_integrity.specs.Rightful.{HasFirstPlace, IsHelp, IsToldValue, LooksUp, OfNothing, OfRange, OfTicks}
use Rattle.law_integrity.proofs.Refusals.{IsUndone, asked_holds, asked_undone}
use Rattle.law_integrity.proofs.Selected.{ReadsAction, Selects, call_selected, named_by, names}
use Rattle.law_integrity.proofs.Findings.{Found}

abbrev calls_at : (k : KernelState) (ec selector pt : ℕ) → IsAsking k ec → CALL ≡ reg (context k ec).regs 17 → (selector ≡ reg (context k ec).regs 10) × (selector < 2 ^ 20) → named k (pd_of k ec) is_pt call_right selector ≡ Ok pt →
    CallsAt k ec (handler_of k pt)
calls_at k ec selector pt asking numbered at is =
    let its = named_by k (pd_of k ec) is_pt call_right selector pt is in record {
      portal = pt;
      mtd = mtd_in (slice_get k.objects pt);
      ip = ip_of k pt;
      held = names k ec CALL selector call_right pt is_pt asking numbered at its;
      object = portal_at (slice_get k.objects pt) its.object;
    }

named_found : (k : KernelState) (ec call selector right : ℕ) (is : Object → Bool) (d : ℕ → Deed) → IsAsking k ec → call ≡ reg (context k ec).regs 17 → (selector ≡ reg (context k ec).regs 10) × (selector < 2 ^ 20) →
    ((n : ℕ) → Names k ec call right n → IsOf k.objects is n → Found k ec (d n)) → IfDone (Found k ec) (and_then (named k (pd_of k ec) is right selector) (λ n. Ok (d n)))
named_found k ec call selector right is d asking numbered at h = by_name (named k (pd_of k ec) is right selector) refl
  where
    by_name : (o : Result ℕ Status) → named k (pd_of k ec) is right selector ≡ o → IfDone (Found k ec) (and_then o (λ n. Ok (d n)))
    by_name (Err status) e = tt
    by_name (Ok n) e = let its = named_by k (pd_of k ec) is right selector n e in h n (names k ec call selector right n is asking numbered at its) its.object

new_pd_found : (k : KernelState) (ec target : ℕ) (first : Option (Range × Rights)) → Found k ec (new_domain k target first)
new_pd_found k ec target None = tt
new_pd_found k ec target (Some range) = tt

of_sm : (k : KernelState) (ec sm right n : ℕ) → IsAsking k ec → SM_CTRL ≡ reg (context k ec).regs 17 → (sm ≡ reg (context k ec).regs 10) × (sm < 2 ^ 20) → named k (pd_of k ec) is_sm right sm ≡ Ok n →
    Names k ec SM_CTRL right n × IsOf k.objects is_sm n
of_sm k ec sm right n asking numbered at is = let its = named_by k (pd_of k ec) is_sm right sm n is in (names k ec SM_CTRL sm right n is_sm asking numbered at its, its.object)

-- a down is done where the counter is above 0, and waits where it is 0
done_above : (s : Semaphore) → answer_of s ≡ lowering.Done → 0 < s.count
done_above s is = by_test (s.count == 0) refl is
  where
    by_test : (t : Bool) → (s.count == 0) ≡ t → (if t then lowering.Blocked else lowering.Done) ≡ lowering.Done → 0 < s.count
    by_test true none e = absurd (cc)
    by_test false none e = let some : s.count ≡ 0 → ⊥ = eqb-false s.count 0 none in omega arith

waits_at_none : (s : Semaphore) → answer_of s ≡ lowering.Blocked → s.count ≡ 0
waits_at_none s is = by_test (s.count == 0) refl is
  where
    by_test : (t : Bool) → (s.count == 0) ≡ t → (if t then lowering.Blocked else lowering.Done) ≡ lowering.Blocked → s.count ≡ 0
    by_test true none e = eqb-true s.count 0 none
    by_test false none e = absurd (cc)

-- only a call that waits helps
help_waits : (cs : Contexts) (caller handler : ℕ) (flag : Bool) → admitted cs caller handler flag ≡ Help → flag ≡ false
help_waits cs caller handler flag is =
    by_tests (not (is_same_cpu (cpu_in cs handler) (cpu_in cs caller))) (is_dead (state_in cs handler) || circle cs handler caller) (is_parked (state_in cs handler)) flag is
  where
    by_tests : (away lost parked at_once : Bool) →
        (if away then Refused BadCpu else if lost then Refused Aborted else if parked then Send else if at_once then Refused Timeout else Help) ≡ Help → at_once ≡ false
    by_tests true lost parked at_once e = absurd (cc)
    by_tests false true parked at_once e = absurd (cc)
    by_tests false false true at_once e = absurd (cc)
    by_tests false false false true e = absurd (cc)
    by_tests false false false false e = refl

helps_found : (k : KernelState) (ec handler : ℕ) (flag : Bool) → CallsAt k ec handler → has_counts (message k ec) ≡ true → flag ≡ (reg (context k ec).regs 11 == 1) → reg (context k ec).regs 11 ≤ 1 →
    admitted k.contexts ec handler flag ≡ Help → IsHelp k ec handler
helps_found k ec handler flag at counts reads low admits =
    let none : flag ≡ false = help_waits k.contexts ec handler flag admits in
    let other : reg (context k ec).regs 11 ≡ 1 → ⊥ = eqb-false (reg (context k ec).regs 11) 1 (sym reads ∙ none) in
    record { at = at; counts = counts; waits = omega (arith, low, other); admits = ap (admitted k.contexts ec handler) (sym none) ∙ admits }

-- a down that waits to a deadline
within_found : (k : KernelState) (ec sm ticks : ℕ) → IsAsking k ec → SM_CTRL ≡ reg (context k ec).regs 17 → (sm ≡ reg (context k ec).regs 10) × (sm < 2 ^ 20) → reg (context k ec).regs 11 ≡ 2 → ticks ≡ reg (context k ec).regs 12 →
    IfDone (Found k ec) (sm_ctrl k ec (pd_of k ec) sm (act.DownWithin ticks))
within_found k ec sm ticks asking numbered at within ticks_is = by_name (named k (pd_of k ec) is_sm down_right sm) refl
  where
    by_ticks : (n : ℕ) → named k (pd_of k ec) is_sm down_right sm ≡ Ok n → answer_of (semaphore k.semaphores n) ≡ lowering.Blocked → (none : Bool) → ticks == 0 ≡ none →
        IfDone (Found k ec) (unless none Timeout (Ok (deeds.Blocks n (Some (deadline_after k ec n ticks)))))
    by_ticks n is answers true none = tt
    by_ticks n is answers false none =
        let its = of_sm k ec sm down_right n asking numbered at is in
        let left : ticks ≡ 0 → ⊥ = eqb-false ticks 0 none in (
          record { names = its.0; down = inr within },
          its.1,
          record {
            asks = within;
            semaphore = refl;
            processor = refl;
            at = ap (λ (t : ℕ). clock k.times (processor_of k ec) + 1 + t) ticks_is;
            some = subst (λ (t : ℕ). 0 < t) ticks_is (omega arith);
          },
          waits_at_none (semaphore k.semaphores n) answers,
        )

    by_answer : (n : ℕ) → named k (pd_of k ec) is_sm down_right sm ≡ Ok n → (d : Down) → answer_of (semaphore k.semaphores n) ≡ d → IfDone (Found k ec) (downed_within n ticks (deadline_after k ec n ticks) d)
    by_answer n is lowering.Done answers =
        let its = of_sm k ec sm down_right n asking numbered at is in (record { names = its.0; down = inr within }, its.1, done_above (semaphore k.semaphores n) answers)
    by_answer n is lowering.Blocked answers = by_ticks n is answers (ticks == 0) refl

    by_name : (o : Result ℕ Status) → named k (pd_of k ec) is_sm down_right sm ≡ o →
        IfDone (Found k ec) (and_then o (λ n. downed_within n ticks (deadline_after k ec n ticks) (answer_of (semaphore k.semaphores n))))
    by_name (Ok n) is = by_answer n is (answer_of (semaphore k.semaphores n)) refl
    by_name (Err status) is = tt

sm_found : (k : KernelState) (ec sm : ℕ) (action : SmAction) → IsAsking k ec → SM_CTRL ≡ reg (context k ec).regs 17 → (sm ≡ reg (context k ec).regs 10) × (sm < 2 ^ 20) → ReadsAction (context k ec).regs action →
    IfDone (Found k ec) (sm_ctrl k ec (pd_of k ec) sm action)
sm_found k ec sm act.Up asking numbered at reads = by_name (named k (pd_of k ec) is_sm up_right sm) refl
  where
    by_woken : (n : ℕ) → named k (pd_of k ec) is_sm up_right sm ≡ Ok n → (o : Result (Option ℕ) Overflow) → woken (semaphore k.semaphores n) ≡ o → IfDone (Found k ec) (upped_by n o)
    by_woken n is (Ok whom) wakes = let its = of_sm k ec sm up_right n asking numbered at is in (record { names = its.0; up = reads }, its.1, wakes)
    by_woken n is (Err full) wakes = tt

    by_name : (o : Result ℕ Status) → named k (pd_of k ec) is_sm up_right sm ≡ o → IfDone (Found k ec) (and_then o (λ n. upped_by n (woken (semaphore k.semaphores n))))
    by_name (Ok n) is = by_woken n is (woken (semaphore k.semaphores n)) refl
    by_name (Err status) is = tt
sm_found k ec sm act.Down asking numbered at reads = by_name (named k (pd_of k ec) is_sm down_right sm) refl
  where
    by_answer : (n : ℕ) → named k (pd_of k ec) is_sm down_right sm ≡ Ok n → (d : Down) → answer_of (semaphore k.semaphores n) ≡ d → Found k ec (downed_by n d)
    by_answer n is lowering.Done answers =
        let its = of_sm k ec sm down_right n asking numbered at is in (record { names = its.0; down = inl reads }, its.1, done_above (semaphore k.semaphores n) answers)
    by_answer n is lowering.Blocked answers =
        let its = of_sm k ec sm down_right n asking numbered at is in (record { names = its.0; down = inl reads }, its.1, reads, waits_at_none (semaphore k.semaphores n) answers)

    by_name : (o : Result ℕ Status) → named k (pd_of k ec) is_sm down_right sm ≡ o → IfDone (Found k ec) (and_then o (λ n. Ok (downed_by n (answer_of (semaphore k.semaphores n)))))
    by_name (Ok n) is = by_answer n is (answer_of (semaphore k.semaphores n)) refl
    by_name (Err status) is = tt
sm_found k ec sm (act.DownWithin ticks) asking numbered at reads = within_found k ec sm ticks asking numbered at reads.0 reads.1

covers_first : (k : KernelState) (ec : ℕ) (range : Range) (d : Derivation) → HasFirstPlace k ec range d → covers range.kind (pd_of k ec) range.base d ≡ true
covers_first k ec range d h =
    let kind : is_same_kind range.kind d.kind ≡ true = ap (is_same_kind range.kind) h.kind ∙ same_itself range.kind in
    let its : (d.pd == pd_of k ec) ≡ true = eq-eqb d.pd (pd_of k ec) h.holder in
    let least = h.place.from_base in
    let last = h.place.before_end in
    let at : has_place (range_of d) range.base ≡ true = grind (arith, nat_tests) in
    ap₂ (λ (a b : Bool). a && b) kind (ap₂ (λ (a b : Bool). a && b) its at)

looked : (k : KernelState) (ec : ℕ) (range : Range) → LooksUp k ec range → IsToldValue k ec LOOKUP (looked_up k (pd_of k ec) range)
looked k ec range asks_ = by_found (find (covers range.kind (pd_of k ec) range.base) k.delegations.list) refl
  where
    none : is_some (find (covers range.kind (pd_of k ec) range.base) k.delegations.list) ≡ false → (d : Derivation) → HasFirstPlace k ec range d → ⊥
    none is d h =
        let at : covers range.kind (pd_of k ec) range.base d ≡ false =
        all_at (λ (x : Derivation). covers range.kind (pd_of k ec) range.base x ≡ false) k.delegations.list d
        (none_found (covers range.kind (pd_of k ec) range.base) k.delegations.list is) (in_from_contains k.delegations.list d h.there) in
        absurd (let both : true ≡ false = sym (covers_first k ec range d h) ∙ at in cc)

    by_found : (o : Option Derivation) → find (covers range.kind (pd_of k ec) range.base) k.delegations.list ≡ o → IsToldValue k ec LOOKUP (word_of (option_map (λ d. (range_of d, d.rights)) o))
    by_found None is = OfNothing refl range asks_ (none (ap is_some is)) refl
    by_found (Some d) is =
        let its = found_in (covers range.kind (pd_of k ec) range.base) k.delegations.list d is in
        let parts = and_parts (is_same_kind range.kind d.kind) (d.pd == pd_of k ec && has_place (range_of d) range.base) its.1 in
        let rest = and_parts (d.pd == pd_of k ec) (has_place (range_of d) range.base) parts.1 in
        OfRange refl range asks_ d
        (record {
          there = contains_from_in k.delegations.list d its.0;
          holder = eqb-true d.pd (pd_of k ec) rest.0;
          kind = sym (kinds_equal range.kind d.kind parts.0);
          place = has_from (range_of d) range.base rest.1;
        })
        refl

row_found : (k : KernelState) (ec : ℕ) (c : Call) → IsAsking k ec → number_of c ≡ reg (context k ec).regs 17 → Selects (context k ec).regs c → IfDone (Found k ec) (row k ec (pd_of k ec) c)
row_found k ec (asks.Call portal flag) asking numbered at =
    call_holds (Found k ec) k ec (pd_of k ec) portal flag
    (λ pt is. record {
      at = calls_at k ec portal pt asking numbered at.0 is.portal;
      begins = refl;
      number_is = refl;
      items_are = refl;
      counts = is.counts;
      admits = ap (admitted k.contexts ec (handler_of k pt)) (sym at.1) ∙ is.admits;
    })
    (λ pt is. helps_found k ec (handler_of k pt) flag (calls_at k ec portal pt asking numbered at.0 is.portal) is.counts at.1 at.2 is.admits)
row_found k ec asks.Reply asking numbered at =
    reply_holds (Found k ec) k ec (λ caller mark is. record { serves = is.serves; local = is.local; number = sym numbered; items_are = refl; counts = is.counts })
row_found k ec (asks.CreatePd target pd first) asking numbered at = create_pd_holds (Found k ec) k (pd_of k ec) target pd first (new_pd_found k ec target first)
row_found k ec (asks.CreateEc target pd cpu kind sp event) asking numbered at = makes_hold (Found k ec) CREATE_EC target (λ made. tt) k (pd_of k ec) pd _
row_found k ec (asks.CreateSc target pd its quantum priority) asking numbered at = makes_hold (Found k ec) CREATE_SC target (λ made. tt) k (pd_of k ec) pd _
row_found k ec (asks.CreatePt target pd handler mtd ip) asking numbered at = makes_hold (Found k ec) CREATE_PT target (λ made. tt) k (pd_of k ec) pd _
row_found k ec (asks.CreateSm target pd count) asking numbered at = makes_hold (Found k ec) CREATE_SM target (λ made. tt) k (pd_of k ec) pd (λ o. Ok (Sm count))
row_found k ec (asks.Lookup range) asking numbered at = (numbered, looked k ec range (record { number = sym numbered; rights = at.0; reads = at.1 }))
row_found k ec (asks.Revoke range own) asking numbered at = sym numbered
row_found k ec (asks.EcCtrl whose) asking numbered at = named_found k ec EC_CTRL whose control_right is_ec (λ n. deeds.Recalls n) asking numbered at (λ n may is. (may, is))
row_found k ec (asks.ScCtrl sc) asking numbered at =
    named_found k ec SC_CTRL sc control_right is_sc (λ n. deeds.Tells SC_CTRL (ticks_in (budget_at k n))) asking numbered at (λ n may is. (numbered, OfTicks refl n may is refl))
row_found k ec (asks.PtCtrl pt number) asking numbered at = named_found k ec PT_CTRL pt control_right is_pt (λ n. deeds.Names n number) asking numbered at.0 (λ n may is. (may, is, at.1))
row_found k ec (asks.SmCtrl sm action) asking numbered at = sm_found k ec sm action asking numbered at.0 at.1

pub call_found : (k : KernelState) (ec : ℕ) → IsAsking k ec → Found k ec (hypercall k ec (pd_of k ec) (context k ec).regs)
call_found k ec asking = by_answer (asked k ec (pd_of k ec) (context k ec).regs) (asked_undone k ec (pd_of k ec) (context k ec).regs) done
  where
    done : IfDone (Found k ec) (asked k ec (pd_of k ec) (context k ec).regs)
    done = asked_holds (Found k ec) k ec (pd_of k ec) (context k ec).regs
        (λ c reads. row_found k ec c asking (read_numbered (context k ec).regs c reads) (call_selected (context k ec).regs c reads))

    by_answer : (r : Result Deed Status) → IsUndone r → IfDone (Found k ec) r → Found k ec (or_refuses (reg (context k ec).regs 17) r)
    by_answer (Ok d) undone holds = holds
    by_answer (Err status) undone holds = record { number = refl; undone = undone }
