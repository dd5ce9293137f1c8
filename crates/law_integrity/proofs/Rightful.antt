-- Each deed is rightful: what is found while it is decided, what it may make, and what items, revokes and callers come to.
use Rattle.std.proofs.Common.{◌≡◌, ◌%◌, ℕ, refl, sym, ap, ◌∙◌, subst, arith}
use Rattle.std.specs.Prelude.{◌==◌, Bool, true, false, if◌then◌else◌, IfSome, Option, Some, None, Result, Ok, Err, option_and_then, option_map}
use Rattle.std.proofs.lemmas.Bool.{eqb-false, eqb-true}
use Rattle.nova_model.specs.Deeds.{deed, deed_in, mark_in}
use Rattle.nova_model.specs.Deliveries.{answered_by, delegated, delivered, delivers, delivery, flag, part_deed, parted}
use Rattle.nova_model.specs.Forest.{IsForest}
use Rattle.nova_model.specs.Running.{is_busy}
use Rattle.nova_model.specs.State.{KernelState, context, context_at, context_in, is_local_thread, transfer}
use Rattle.nova_model.specs.Transfers.{Part, job_of, next_part}
use Rattle.nova_model.specs.Translations.{translated}
use Rattle.nova_model.specs.declared.context.EcState.{EcState}
use Rattle.nova_model.specs.declared.context.Mark.{Mark}
use Rattle.nova_model.specs.declared.context.State.{State}
use Rattle.nova_model.specs.declared.context.State.TheVariants.{Calling, Granting, Replying}
use Rattle.nova_model.specs.declared.deed.Deed.{Deed}
use Rattle.nova_model.specs.declared.deed.Deed.TheVariants as deeds
use Rattle.nova_model.specs.declared.delegation.Derivation.{Derivation}
use Rattle.nova_model.specs.declared.transfer.Delivery.{Delivery}
use Rattle.nova_model.specs.declared.transfer.ItemEnd.{ItemEnd}
use Rattle.nova_model.specs.declared.transfer.ItemEnd.TheVariants.{Given, Skipped, Translated}
use Rattle.nova_model.specs.declared.transfer.ItemWords.{ItemWords}
use Rattle.nova_model.specs.declared.transfer.Job.{Job}
use Rattle.nova_model.specs.declared.transfer.Reason.{Reason}
use Rattle.nova_model.specs.declared.transfer.Sequel.{Sequel}
use Rattle.nova_model.specs.declared.transfer.Skip.{Skip}
use Rattle.nova_model.specs.declared.transfer.Transfer.{Transfer}
use Rattle.law_forest.proofs.Allowed.{IsAllowed, deed_allowed}
use Rattle.law_turns.specs.Links.{AreServed}
use Rattle.law_turns.specs.Windows.{TellsOfItem}
use Rattle.law_turns.proofs.Leaving.{item_ends, part_given, part_skipped}
use Rattle.law_turns.proofs.Revoking.{begins_asked, returns_done}
use Rattle.law_turns.proofs.Windows.{items_end, words_tell}
use Rattle.law_origins.specs.Events.{AreSelectors}
use Rattle.law_integrity.specs.Rightful.{IsEnd, IsRightful}
use Rattle.law_integrity.specs.Rights.{ServesCaller}
use Rattle.law_integrity.proofs.Deciding.{deed_found}
use Rattle.law_integrity.proofs.Findings.{Ended, Found}
use Rattle.law_integrity.proofs.Parts.{given_rightful}

-- what came of an item is told by its words
told_of : (k : KernelState) (ec item : ℕ) (end : ItemEnd) (words : Option ItemWords) (follows : Sequel) → deed k ec ≡ deeds.Finishes item end words follows → IfSome words (TellsOfItem k ec item end)
told_of k ec item end None follows is = tt
told_of k ec item end (Some words) follows is = words_tell k ec item end words follows is

-- bit 0 of its second word says how an item may end
abbrev IsFlagged : Delivery → Deed → Type 0
IsFlagged v (deeds.Finishes item (Given children) words follows) = v.second_word % 2 ≡ 1
IsFlagged v (deeds.Finishes item (Skipped skip) words follows) = v.second_word % 2 ≡ 1
IsFlagged v (deeds.Finishes item (Translated word) words follows) = v.second_word % 2 ≡ 0
IsFlagged v other = Unit {0}

delivered_flagged : (k : KernelState) (v : Delivery) (t : Transfer) → IsFlagged v (delivered k v t)
delivered_flagged k v t = by_flag (flag v == 1) refl
  where
    by_parted : (j : Job) (d : Derivation) (r : Result Derivation Reason) → IsFlagged v (parted j d r)
    by_parted j d (Ok x) = tt
    by_parted j d (Err reason) = tt

    by_part : v.second_word % 2 ≡ 1 → (j : Job) (o : Option Part) → IsFlagged v (part_deed v t j o)
    by_part set j None = set
    by_part set j (Some p) = by_parted j p.source p.child

    by_job : v.second_word % 2 ≡ 1 → (r : Result Job Skip) → IsFlagged v (delegated k v t r)
    by_job set (Err skip) = set
    by_job set (Ok j) = by_part set (record j { cursor = t.cursor }) (next_part (is_busy k) k.delegations (record j { cursor = t.cursor }))

    by_flag : (b : Bool) → (flag v == 1) ≡ b → IsFlagged v (if b then delegated k v t (job_of v.range_word v.second_word v.delegations v.giver v.receiver)
        else answered_by v t (translated k.delegations.list v.range_word v.translations v.giver v.receiver))
    by_flag true is = by_job (eqb-true (v.second_word % 2) 1 is) (job_of v.range_word v.second_word v.delegations v.giver v.receiver)
    by_flag false is = let unset : v.second_word % 2 ≡ 1 → ⊥ = eqb-false (v.second_word % 2) 1 is in omega (arith, unset)

deed_flagged : (k : KernelState) (ec : ℕ) (v : Delivery) → delivery k ec (context k ec).state ≡ Some v → IsFlagged v (deed k ec)
unfolding deed
deed_flagged k ec v present = by_state (context k ec).state present
  where
    by_state : (s : State) → delivery k ec s ≡ Some v → IsFlagged v (deed_in k ec s)
    by_state (Granting new) is = subst (λ (o : Option Delivery). IsFlagged v (delivers k (transfer k ec) o)) (sym is) (delivered_flagged k v (transfer k ec))
    by_state Replying is = subst (λ (o : Option Delivery). IsFlagged v (delivers k (transfer k ec) o)) (sym is) (delivered_flagged k v (transfer k ec))
    by_state other is = absurd (cc)

-- how it ended
ended : (k : KernelState) (ec item : ℕ) (end : ItemEnd) (words : Option ItemWords) (follows : Sequel) → deed k ec ≡ deeds.Finishes item end words follows → Ended k ec end → IsEnd k ec end
ended k ec item (Given children) words follows is found =
    let all = item_ends k ec item children words follows is in
    let its = all.is_with in (all, found, subst (IsFlagged its.item) is (deed_flagged k ec its.item its.present))
ended k ec item (Skipped skip) words follows is found = (found.0, found.1, found.2, subst (IsFlagged found.0) is (deed_flagged k ec found.0 found.1))
ended k ec item (Translated word) words follows is found = (found.0, found.1, found.2, subst (IsFlagged found.0) is (deed_flagged k ec found.0 found.1))

-- a handler keeps the context that waits for it
keeps_caller : (k : KernelState) (ec handler : ℕ) (came : Mark) → AreServed (is_local_thread k) k.contexts → deed k ec ≡ deeds.Aborts handler came → (context k ec).state ≡ Calling handler →
    ServesCaller k handler ec came
unfolding deed
keeps_caller k ec handler came served is waits =
    let known = (served.linked ec handler).known (state_known (context_at k ec) waits) in
    let keeps : (context k handler).caller ≡ Some (ec, known.0) = kept_by (context_at k handler) known.1 in
    let its : deeds.Aborts handler (mark_in (context k handler).caller) ≡ deeds.Aborts handler came = ap (deed_in k ec) (sym waits) ∙ is in
    let same : known.0 ≡ came = ap mark_in (sym keeps) ∙ aborts_by its in
    keeps ∙ ap (λ (m : Mark). Some (ec, m)) same
  where
    state_known : (o : Option EcState) → (context_in o).state ≡ Calling handler → option_map (λ x. x.state) o ≡ Some (Calling handler)
    state_known None at = absurd (cc)
    state_known (Some x) at = ap (λ (s : State). Some s) at

    kept_by : {m : Mark} (o : Option EcState) → option_and_then (λ x. x.caller) o ≡ Some (ec, m) → (context_in o).caller ≡ Some (ec, m)
    kept_by None at = absurd (cc)
    kept_by (Some x) at = at

    aborts_by : {m n : Mark} → deeds.Aborts handler m ≡ deeds.Aborts handler n → m ≡ n
    aborts_by same = cc

is_rightful : (k : KernelState) (ec : ℕ) (d : Deed) → deed k ec ≡ d → AreServed (is_local_thread k) k.contexts → IsAllowed k ec d → Found k ec d → IsRightful k ec d
is_rightful k ec (deeds.Makes call target made) is served may found = may.creator
is_rightful k ec (deeds.Opens target domain) is served may found = may.0.creator
is_rightful k ec (deeds.Gives child cursor) is served may found = (may, given_rightful k ec child may, part_given k ec cursor child is, found)
is_rightful k ec (deeds.Skips reason place cursor) is served may found = (part_skipped k ec place cursor reason is, found)
is_rightful k ec (deeds.Finishes item end words follows) is served may found = (items_end k ec item end words follows is, told_of k ec item end words follows is, ended k ec item end words follows is found)
is_rightful k ec (deeds.Revokes range own) is served may found = (found, begins_asked k ec range own is)
is_rightful k ec deeds.Returns is served may found = returns_done k ec is
is_rightful k ec (deeds.Aborts handler came) is served may found = (found, keeps_caller k ec handler came served is found)
is_rightful k ec d is served may found = found

pub deed_rightful : (k : KernelState) (ec : ℕ) → IsForest k.delegations → AreSelectors k → AreServed (is_local_thread k) k.contexts → IsRightful k ec (deed k ec)
deed_rightful k ec forest selectors served = is_rightful k ec (deed k ec) refl served (deed_allowed k ec) (deed_found k ec forest selectors)
