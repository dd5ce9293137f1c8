-- Why a file was not loaded, by what failed.
use Rattle.std.specs.Prelude.{Bool, true, false, Result, Ok, Err}
use Rattle.nova_io.specs.declared.faults.FetchFault.{FetchFault}
use Rattle.nova_io.specs.declared.faults.FetchFault.TheVariants as fetch
use Rattle.nova_order.specs.declared.fault.OrderFault.{OrderFault}
use Rattle.nova_order.specs.declared.fault.OrderFault.TheVariants as fault
use Rattle.nova_scenario.specs.declared.fault.ScenarioFault.{ScenarioFault}
use Rattle.nova_scenario.specs.declared.fault.ScenarioFault.TheVariants as text
use Rattle.nova_loading.specs.declared.unread.OrderUnread.{OrderUnread}
use Rattle.nova_loading.specs.declared.unread.OrderUnread.TheVariants as order
use Rattle.nova_loading.specs.declared.unread.ScenarioUnread.{ScenarioUnread}
use Rattle.nova_loading.specs.declared.unread.ScenarioUnread.TheVariants as scenario

abbrev pub of_scenario_fetch : FetchFault → ScenarioUnread
of_scenario_fetch fetch.Failed = scenario.Failed
of_scenario_fetch fetch.TooLong = scenario.TooLong
of_scenario_fetch fetch.Memory = scenario.Memory

abbrev pub of_scenario : ScenarioFault → ScenarioUnread
of_scenario (text.At line why) = scenario.Refused line why
of_scenario text.Memory = scenario.Memory

abbrev pub of_order_fetch : FetchFault → OrderUnread
of_order_fetch fetch.Failed = order.Failed
of_order_fetch fetch.TooLong = order.TooLong
of_order_fetch fetch.Memory = order.Memory

abbrev pub of_order : OrderFault → OrderUnread
of_order fault.Memory = order.Memory
of_order other = order.Refused other

-- whether a fetch failed
abbrev pub scenario_failed : {T : Type 0} → Result T ScenarioUnread → Bool
scenario_failed (Err scenario.Failed) = true
scenario_failed _ = false

abbrev pub order_failed : {T : Type 0} → Result T OrderUnread → Bool
order_failed (Err order.Failed) = true
order_failed _ = false
