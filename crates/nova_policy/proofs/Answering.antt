-- What is answered, by what came and what was told.
use Rattle.std.proofs.Common.{◌≡◌, ℕ, Option, Some, None, List, inl, inr, Result, Ok, Err, subst, sym, string_bytes}
use Rattle.nova_boot.specs.Boot.{scenario_of}
use Rattle.nova_judging.specs.declared.answer.Answer.{Answer}
use Rattle.nova_judging.specs.declared.answer.Told.{Told}
use Rattle.nova_loading.specs.Came.{IsScenarioLoaded, ScenarioCame}
use Rattle.nova_loading.specs.declared.unread.ScenarioUnread.{ScenarioUnread}
use Rattle.nova_loading.specs.declared.unread.ScenarioUnread.TheVariants as text
use Rattle.nova_model.specs.Boot.{boot}
use Rattle.nova_naming.specs.Statements.{Stated}
use Rattle.nova_order.specs.Blocks.{BlockList}
use Rattle.nova_scenario.specs.declared.scenario.Scenario.{Scenario as ScenarioText}
use Rattle.nova_policy.specs.Came.{IsOrderFaultIfNamed, IsPolicyFaultIfNamed, IsScenarioFault, OrderCameIfNamed, PolicyCameIfNamed}
use Rattle.nova_policy.specs.Main.{IsAnswer, IsFault, IsPrepared, IsSent, IsToldOf}
use Rattle.nova_policy.specs.Exit.{of_scenario}
use Rattle.nova_io.specs.Outside.{Depots, Sinks}
use Rattle.nova_policy.specs.Runs.{IsDecided}
use Rattle.nova_policy.specs.declared.exit.Exit.{Exit}
use Rattle.nova_policy.specs.declared.exit.Exit.TheVariants as exit
use Rattle.nova_policy.specs.declared.request.Request.{Request}

module _ {D : Type 0} (d : Depots D) (q : Request) (old : D) where
  -- the scenario isn't loaded, the order isn't read, or the policy isn't
  no_scenario : (new : D) (u : ScenarioUnread) → IsScenarioLoaded d q.scenario old new (Err u) → IsScenarioFault d q.scenario old new (of_scenario u)
  no_scenario new text.Failed is = is
  no_scenario new text.TooLong is = is
  no_scenario new (text.Refused line why) is = is
  no_scenario new text.Memory is = is

  pub scenario_unread : (new : D) (name : List ℕ) (u : ScenarioUnread) (r : Result Told Exit) → name ≡ q.scenario → r ≡ Err (of_scenario u) → IsScenarioLoaded d name old new (Err u)
      → IsPrepared d q old new r
  scenario_unread new name u r named is fault =
      subst (IsPrepared d q old new) (sym is) (inl (no_scenario new u (subst (λ (n : List ℕ). IsScenarioLoaded d n old new (Err u)) named fault)))

  pub scenario_came : (new : D) (name : List ℕ) (from : ScenarioText) → name ≡ q.scenario → ScenarioCame d name old from new → ScenarioCame d q.scenario old from new
  scenario_came new name from named came = subst (λ (n : List ℕ). ScenarioCame d n old from new) named came

  pub order_unread : (first new : D) (from : ScenarioText) (e : Exit) (r : Result Told Exit) → r ≡ Err e → ScenarioCame d q.scenario old from first
      → IsOrderFaultIfNamed d q.order from.cpus first new e → IsPrepared d q old new r
  order_unread first new from e r is came fault =
      subst (IsPrepared d q old new) (sym is) (inr (inl (record { from = from; first = first; scenario = came; fault = fault })))

  pub policy_unread : (first second new : D) (from : ScenarioText) (order : Option BlockList) (e : Exit) (r : Result Told Exit) → r ≡ Err e → ScenarioCame d q.scenario old from first
      → OrderCameIfNamed d q.order from.cpus first order second → IsPolicyFaultIfNamed d q.policy second new e → IsPrepared d q old new r
  policy_unread first second new from order e r is came along fault =
      subst (IsPrepared d q old new) (sym is) (inr (inr (inl (record { from = from; order = order; first = first; second = second; scenario = came; along = along; fault = fault }))))

  -- all came, and this was decided
  pub decided : (first second new : D) (from : ScenarioText) (order : Option BlockList) (policy : Option (List Stated)) (r : Result Told Exit) → ScenarioCame d q.scenario old from first
      → OrderCameIfNamed d q.order from.cpus first order second → PolicyCameIfNamed d q.policy second policy new → IsDecided (boot (scenario_of from)) order policy q.span q.flow r
      → IsPrepared d q old new r
  decided first second new from order policy (Ok t) came along named is = record {
    from = from;
    order = order;
    policy = policy;
    came = record { first = first; second = second; scenario = came; along = along; named = named };
    told = is;
  }
  decided first second new from order policy (Err e) came along named is = inr (inr (inr (record {
    from = from;
    order = order;
    policy = policy;
    came = record { first = first; second = second; scenario = came; along = along; named = named };
    fault = is;
  })))

-- WHAT NO FAULT IS

no_order : {D : Type 0} (d : Depots D) (name : Option (List ℕ)) (cpus : ℕ) (old new : D) → IsOrderFaultIfNamed d name cpus old new exit.WriteFault → ⊥
no_order d None cpus old new is = is
no_order d (Some name) cpus old new is = is

no_order_told : {D : Type 0} (d : Depots D) (name : Option (List ℕ)) (cpus : ℕ) (old new : D) (answer : Answer) → IsOrderFaultIfNamed d name cpus old new (exit.Told answer) → ⊥
no_order_told d None cpus old new answer is = is
no_order_told d (Some name) cpus old new answer is = is

no_policy : {D : Type 0} (d : Depots D) (name : Option (List ℕ)) (old new : D) → IsPolicyFaultIfNamed d name old new exit.WriteFault → ⊥
no_policy d None old new is = is
no_policy d (Some name) old new is = is

no_policy_told : {D : Type 0} (d : Depots D) (name : Option (List ℕ)) (old new : D) (answer : Answer) → IsPolicyFaultIfNamed d name old new (exit.Told answer) → ⊥
no_policy_told d None old new answer is = is
no_policy_told d (Some name) old new answer is = is

module _ {D O : Type 0} (d : Depots D) (o : Sinks O) (q : Request) (old new : D) (before after : O) where
  no_fault : IsFault d q old new exit.WriteFault → ⊥
  no_fault (inl is) = is
  no_fault (inr (inl is)) = no_order d q.order is.from.cpus is.first new is.fault
  no_fault (inr (inr (inl is))) = no_policy d q.policy is.second new is.fault
  no_fault (inr (inr (inr is))) = is.fault

  no_told_fault : (answer : Answer) → IsFault d q old new (exit.Told answer) → ⊥
  no_told_fault answer (inl is) = is
  no_told_fault answer (inr (inl is)) = no_order_told d q.order is.from.cpus is.first new answer is.fault
  no_told_fault answer (inr (inr (inl is))) = no_policy_told d q.policy is.second new answer is.fault
  no_told_fault answer (inr (inr (inr is))) = is.fault

  -- a fault is the answer
  pub faulty : (e : Exit) → IsFault d q old new e → IsAnswer d o q e old new before after
  faulty (exit.Told answer) is = absurd (no_told_fault answer is)
  faulty exit.WriteFault is = absurd (no_fault is)
  faulty exit.Usage is = is
  faulty exit.ReadFault is = is
  faulty (exit.TooLong i) is = is
  faulty (exit.Scenario line why) is = is
  faulty (exit.Order fault) is = is
  faulty (exit.Idle line) is = is
  faulty (exit.Policy line why) is = is
  faulty (exit.Misnamed line expected number) is = is
  faulty exit.Memory is = is

  -- what was told was sent
  pub sent : (t : Told) (e : Exit) → IsToldOf d q old new t.answer (string_bytes t.text) → IsSent o t e before after → IsAnswer d o q e old new before after
  sent t (exit.Told answer) told (same, out) =
      record { text = string_bytes t.text; told = subst (λ (a : Answer). IsToldOf d q old new a (string_bytes t.text)) (sym same) told; out = out }
  sent t exit.WriteFault told out = record { answer = t.answer; text = string_bytes t.text; told = told; out = out }
  sent t exit.Usage told out = absurd out
  sent t exit.ReadFault told out = absurd out
  sent t (exit.TooLong i) told out = absurd out
  sent t (exit.Scenario line why) told out = absurd out
  sent t (exit.Order fault) told out = absurd out
  sent t (exit.Idle line) told out = absurd out
  sent t (exit.Policy line why) told out = absurd out
  sent t (exit.Misnamed line expected number) told out = absurd out
  sent t exit.Memory told out = absurd out
