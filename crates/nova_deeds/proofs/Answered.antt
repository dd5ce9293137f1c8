-- A call or an exit that is sent, and a reply that completes, are the two ways between a handler that is parked and a handler that serves its caller.
use Rattle.std.proofs.Common.{◌≡◌, ℕ, List, refl, ap, sym, ◌∙◌, inl, inr}
use Rattle.std.specs.Prelude.{Bool, true, false, ◌≢◌, if◌then◌else◌, Option, Some, None}
use Rattle.nova_model.specs.Calls.{is_parked}
use Rattle.nova_model.specs.Deeds.{parked, resumed, serving}
use Rattle.nova_model.specs.Edges.{AreCallers, AreEdges, acts, acts_by, caller_in, state_in}
use Rattle.nova_model.specs.State.{Contexts, ec_in, ec_of, with_ec}
use Rattle.nova_model.specs.declared.context.EcState.{EcState}
use Rattle.nova_model.specs.declared.context.Mark.{Mark}
use Rattle.nova_model.specs.declared.context.State.{State}
use Rattle.nova_model.specs.declared.context.State.TheVariants.{Calling, Granting, Parked, Ready}
use Rattle.nova_ec.specs.Changes.{with_both}
use Rattle.nova_ec.proofs.Acting.{acts_alone}
use Rattle.nova_ec.proofs.Changes.{completing_keeps, sending_keeps}
use Rattle.law_turns.specs.Links.{AreServed, caller_at, state_at}
use Rattle.law_turns.proofs.Links.{place}
use Rattle.law_turns.proofs.Serving.{IsReached, actor_of, awaited, number_in, reached_apart, reached_there, resumed_is, of_there}
use Rattle.law_turns.proofs.Setting.{entry_itself, entry_other}
use Rattle.nova_choice.proofs.Serving.{IsServing}

-- SENT

pub parked_local : (is_local : ℕ → Bool) (cs : Contexts) (c h : ℕ) → IsReached cs c h → AreServed is_local cs → is_local h ≡ true
parked_local is_local cs c h reached served = ((served.well h).parked reached.parked).1

pub parked_is : (o : Option State) → is_parked o ≡ true → o ≡ Some Parked
parked_is (Some Parked) is = refl
parked_is None is = absurd cc
parked_is (Some other) is = absurd cc

-- a handler acts as it begins
begun_acts : (items : Bool) (handler : Option State) → acts_by (if items then Granting None else Ready) handler ≡ true
begun_acts true handler = refl
begun_acts false handler = refl

pub sent_serving : (is_local : ℕ → Bool) (cs : Contexts) (c h ip identifier : ℕ) (m : Mark) (items : Bool) → AreEdges cs → acts cs c ≡ true → IsReached cs c h → AreServed is_local cs →
    IsServing cs (with_both cs c (record (ec_of cs c) { state = Calling h }) h (λ x. serving x c m ip identifier items)) c h
sent_serving is_local cs c h ip identifier m items edges awake reached served =
    let actor = actor_of cs c awake in
    let y : EcState = record (ec_of cs c) { state = Calling h } in
    let one = with_ec cs c y in
    let w = serving (ec_of one h) c m ip identifier items in
    let apart = reached_apart cs c h actor reached in
    let its : ec_in one h ≡ Some (ec_of cs h) = entry_other cs c h y (λ same. apart (sym same)) ∙ of_there cs h (reached_there cs c h reached) in
    record {
      idle_edges = edges;
      busy_edges = (sending_keeps cs c h ip identifier m items (rw actor.there refl) reached.may).edges edges;
      parked = parked_is (state_in cs h) reached.parked;
      calls = awake;
      alone = λ z is. absurd (let none = ((served.well h).parked reached.parked).0 in let knows = ((served.linked z h).known is).1 in cc);
      waits = ap state_at (entry_other one h c w apart ∙ entry_itself cs c y (rw actor.there refl));
      serves = acts_alone one h (ec_of cs h) w its (begun_acts items);
      others = λ z first second. ap state_at (entry_other one h z w second ∙ entry_other cs c z y first);
    }

-- COMPLETED

resumed_acts : (s : State) → s ≡ Ready → (handler : Option State) → acts_by s handler ≡ true
resumed_acts s is handler = ap (λ (t : State). acts_by t handler) is

pub completed_serving : (is_local : ℕ → Bool) (cs : Contexts) (h c : ℕ) (m : Mark) (words : List ℕ) → AreEdges cs → AreCallers cs → acts cs h ≡ true → caller_in cs h ≡ Some (c, m) →
    AreServed is_local cs → IsServing (with_both cs h (parked (ec_of cs h)) c (λ x. resumed x m words)) cs c h
completed_serving is_local cs h c m words edges callers awake keeps served =
    let actor = actor_of cs h awake in
    let its : (ec_of cs h).caller ≡ Some (c, m) = sym (ap caller_at actor.there) ∙ keeps in
    let await = awaited is_local cs h c m actor its served in
    let w = parked (ec_of cs h) in
    let one = with_ec cs h w in
    let y = resumed (ec_of one c) m words in
    let ready = (resumed_is (ec_of one c) m words).ready in
    let there : ec_in one c ≡ Some (ec_of cs c) = entry_other cs h c w await.apart ∙ await.there in
    let here : state_in (with_ec one c y) c ≡ Some Ready = ap state_at (entry_itself one c y (rw there refl)) ∙ ap Some ready in
    let idle : state_in (with_ec one c y) h ≡ Some Parked =
    ap state_at (entry_other one c h y (λ same. await.apart (sym same)) ∙ entry_itself cs h w (rw actor.there refl)) in
    let others : (z : ℕ) → z ≢ c → z ≢ h → state_in cs z ≡ state_in (with_ec one c y) z =
    λ z first second. sym (ap state_at (entry_other one c z y first ∙ entry_other cs h z w second)) in
    record {
      idle_edges = (completing_keeps cs h c m words callers keeps).edges edges;
      busy_edges = edges;
      parked = idle;
      calls = acts_alone one c (ec_of cs c) y there (resumed_acts y.state ready);
      alone = λ z is. absurd (nobody (with_ec one c y) here idle others z is);
      waits = ap state_at await.there ∙ ap Some await.waits;
      serves = awake;
      others = others;
    }
  where
    nobody : (ds : Contexts) → state_in ds c ≡ Some Ready → state_in ds h ≡ Some Parked → ((z : ℕ) → z ≢ c → z ≢ h → state_in cs z ≡ state_in ds z) →
        (z : ℕ) → state_in ds z ≡ Some (Calling h) → ⊥
    nobody ds here idle others z is = elim (place z c) [
      | inl at ↦ absurd (let both : Some Ready ≡ Some (Calling h) = sym here ∙ ap (state_in ds) (sym at) ∙ is in cc)
      | inr first ↦ elim (place z h) [
        | inl at ↦ absurd (let both : Some Parked ≡ Some (Calling h) = sym idle ∙ ap (state_in ds) (sym at) ∙ is in cc)
        | inr second ↦ let knows = (served.linked z h).known (others z first second ∙ is) in first (ap number_in (sym knows.1 ∙ keeps))
      ]
    ]
