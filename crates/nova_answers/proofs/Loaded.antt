-- What was not loaded, as an exit.
use Rattle.std.proofs.Common.{◌≡◌, ℕ, List, Bool, false, Err, refl, subst, sym}
use Rattle.nova_io.specs.Outside.{Depots}
use Rattle.nova_loading.specs.Came.{IsOrderLoaded, IsScenarioLoaded, NoOrderCame, OrderCame, ScenarioCame}
use Rattle.nova_loading.specs.Fetches.{IsFetched}
use Rattle.nova_loading.specs.Unread.{order_failed, scenario_failed}
use Rattle.nova_loading.specs.declared.unread.OrderUnread.{OrderUnread}
use Rattle.nova_loading.specs.declared.unread.OrderUnread.TheVariants as order
use Rattle.nova_loading.specs.declared.unread.ScenarioUnread.{ScenarioUnread}
use Rattle.nova_loading.specs.declared.unread.ScenarioUnread.TheVariants as text
use Rattle.nova_order.specs.Blocks.{BlockList}
use Rattle.nova_order.specs.declared.block.Block.{Block}
use Rattle.nova_order.specs.declared.fault.OrderFault.{OrderFault}
use Rattle.nova_order.specs.declared.fault.OrderFault.TheVariants as fault
use Rattle.nova_scenario.specs.declared.scenario.Scenario.{Scenario as ScenarioText}
use Rattle.nova_answers.specs.Exit.{of_order, of_order_text, of_scenario}
use Rattle.nova_answers.specs.Fetches.{FetchesOf}
use Rattle.nova_answers.specs.declared.exit.Exit.{Exit}
use Rattle.nova_answers.specs.Prepared.{IsOrderReadBy, IsScenarioRead}

module _ {D : Type 0} (d : Depots D) (name : List ℕ) (old new : D) where
  no_scenario : (u : ScenarioUnread) → IsScenarioLoaded d name old new (Err u) → IsScenarioRead d name old new (Err (of_scenario u))
  no_scenario text.Failed is = is
  no_scenario text.TooLong is = (refl, is)
  no_scenario (text.Refused line why) is = is
  no_scenario text.Memory is = is

  scenario_fetched : (most : ℕ) (u : ScenarioUnread) → IsFetched d most name (scenario_failed {T = ScenarioText} (Err u)) old new → FetchesOf d most name (of_scenario u) old new
  scenario_fetched most text.Failed is = is
  scenario_fetched most text.TooLong is = is
  scenario_fetched most (text.Refused line why) is = is
  scenario_fetched most text.Memory is = is

  no_text : (cpus most : ℕ) (f : OrderFault) → NoOrderCame d name cpus most f old new → IsOrderReadBy d name cpus most old new (Err (of_order_text f))
  no_text cpus most (fault.BadLine line) is = is
  no_text cpus most (fault.BadCpu line) is = is
  no_text cpus most (fault.ZeroCount line) is = is
  no_text cpus most (fault.NotMerged line) is = is
  no_text cpus most (fault.TooMany line) is = is
  no_text cpus most fault.Memory is = tt

  no_order : (cpus most : ℕ) (u : OrderUnread) → IsOrderLoaded d name cpus most old new (Err u) → IsOrderReadBy d name cpus most old new (Err (of_order u))
  no_order cpus most order.Failed is = is
  no_order cpus most order.TooLong is = (refl, is)
  no_order cpus most (order.Refused f) is = no_text cpus most f is
  no_order cpus most order.Memory is = is

  fetched_text : (most : ℕ) (f : OrderFault) → IsFetched d most name false old new → FetchesOf d most name (of_order_text f) old new
  fetched_text most (fault.BadLine line) is = is
  fetched_text most (fault.BadCpu line) is = is
  fetched_text most (fault.ZeroCount line) is = is
  fetched_text most (fault.NotMerged line) is = is
  fetched_text most (fault.TooMany line) is = is
  fetched_text most fault.Memory is = is

  order_fetched : (most : ℕ) (u : OrderUnread) → IsFetched d most name (order_failed {T = BlockList} (Err u)) old new → FetchesOf d most name (of_order u) old new
  order_fetched most order.Failed is = is
  order_fetched most order.TooLong is = is
  order_fetched most (order.Refused f) is = fetched_text most f is
  order_fetched most order.Memory is = is

  -- the same of the name that was passed on, and of the exit that is answered
  pub scenario_unread : (called : List ℕ) (u : ScenarioUnread) (e : Exit) → called ≡ name → e ≡ of_scenario u → IsScenarioLoaded d called old new (Err u)
      → IsScenarioRead d name old new (Err e)
  scenario_unread called u e named is loaded =
      subst (λ (x : Exit). IsScenarioRead d name old new (Err x)) (sym is) (no_scenario u (subst (λ (n : List ℕ). IsScenarioLoaded d n old new (Err u)) named loaded))

  pub scenario_read : (called : List ℕ) (from : ScenarioText) → called ≡ name → ScenarioCame d called old from new → ScenarioCame d name old from new
  scenario_read called from named came = subst (λ (n : List ℕ). ScenarioCame d n old from new) named came

  pub fetched : (called : List ℕ) (most : ℕ) (failed : Bool) → called ≡ name → IsFetched d most called failed old new → IsFetched d most name failed old new
  fetched called most failed named is = subst (λ (n : List ℕ). IsFetched d most n failed old new) named is

  pub scenario_tried : (called : List ℕ) (most : ℕ) (u : ScenarioUnread) (e : Exit) → called ≡ name → e ≡ of_scenario u → IsFetched d most called (scenario_failed {T = ScenarioText} (Err u)) old new
      → FetchesOf d most name e old new
  scenario_tried called most u e named is all =
      subst (λ (x : Exit). FetchesOf d most name x old new) (sym is) (scenario_fetched most u (fetched called most (scenario_failed {T = ScenarioText} (Err u)) named all))

  pub order_unread : (called : List ℕ) (cpus most : ℕ) (u : OrderUnread) (e : Exit) → called ≡ name → e ≡ of_order u → IsOrderLoaded d called cpus most old new (Err u)
      → IsOrderReadBy d name cpus most old new (Err e)
  order_unread called cpus most u e named is loaded =
      subst (λ (x : Exit). IsOrderReadBy d name cpus most old new (Err x)) (sym is)
      (no_order cpus most u (subst (λ (n : List ℕ). IsOrderLoaded d n cpus most old new (Err u)) named loaded))

  pub order_read : (called : List ℕ) (cpus most : ℕ) (blocks : List Block) → called ≡ name → OrderCame d called cpus most old blocks new → OrderCame d name cpus most old blocks new
  order_read called cpus most blocks named came = subst (λ (n : List ℕ). OrderCame d n cpus most old blocks new) named came

  pub order_tried : (called : List ℕ) (most : ℕ) (u : OrderUnread) (e : Exit) → called ≡ name → e ≡ of_order u → IsFetched d most called (order_failed {T = BlockList} (Err u)) old new
      → FetchesOf d most name e old new
  order_tried called most u e named is all =
      subst (λ (x : Exit). FetchesOf d most name x old new) (sym is) (order_fetched most u (fetched called most (order_failed {T = BlockList} (Err u)) named all))
