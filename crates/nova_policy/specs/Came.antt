-- What comes of the files that are named.
use Rattle.std.specs.Prelude.{◌≡◌, ℕ, List, Option, Some, None, Result, Ok, Err}
use Rattle.nova_io.specs.Outside.{Depots, FileCame, HasFailed, TooManyCame}
use Rattle.nova_loading.specs.Came.{NoOrderCame, NoScenarioCame, OrderCame, most_of_order, most_of_scenario}
use Rattle.nova_naming.specs.Policy.{policy_of}
use Rattle.nova_naming.specs.Statements.{Stated}
use Rattle.nova_naming.specs.declared.fault.PolicyWhy.{PolicyWhy}
use Rattle.nova_order.specs.Blocks.{BlockList}
use Rattle.nova_policy.specs.declared.exit.Exit.{Exit}
use Rattle.nova_policy.specs.declared.exit.Exit.TheVariants.{ReadFault, TooLong, Scenario, Order, Policy, Memory}
use Rattle.nova_policy.specs.declared.exit.Input.TheVariants as input

-- the most bytes of a policy: 1 MiB
abbrev pub most_of_policy : ℕ
most_of_policy = 1048576

-- the most turns of an order
abbrev pub most_turns : ℕ
most_turns = 10000000

-- a file came whose bytes are a policy; or are none, with the first line at fault and why
pub record PolicyCame {D : Type 0} (d : Depots D) (name : List ℕ) (old : D) (policy : List Stated) (new : D) : Type 0 where
  pub bytes : List ℕ
  pub came : FileCame d most_of_policy name old bytes new
  pub reads : policy_of bytes ≡ Ok policy

pub record NoPolicyCame {D : Type 0} (d : Depots D) (name : List ℕ) (line : ℕ) (why : PolicyWhy) (old new : D) : Type 0 where
  pub bytes : List ℕ
  pub came : FileCame d most_of_policy name old bytes new
  pub faulty : policy_of bytes ≡ Err (record { line = line; why = why })

-- where files are named: an order and a policy that came, or nothing
abbrev pub OrderCameIfNamed : {D : Type 0} → Depots D → Option (List ℕ) → ℕ → D → Option BlockList → D → Type 0
OrderCameIfNamed d None cpus old None new = new ≡ old
OrderCameIfNamed d None cpus old (Some order) new = ⊥
OrderCameIfNamed d (Some name) cpus old None new = ⊥
OrderCameIfNamed d (Some name) cpus old (Some order) new = OrderCame d name cpus most_turns old order.blocks new

abbrev pub PolicyCameIfNamed : {D : Type 0} → Depots D → Option (List ℕ) → D → Option (List Stated) → D → Type 0
PolicyCameIfNamed d None old None new = new ≡ old
PolicyCameIfNamed d None old (Some policy) new = ⊥
PolicyCameIfNamed d (Some name) old None new = ⊥
PolicyCameIfNamed d (Some name) old (Some policy) new = PolicyCame d name old policy new

-- WHAT FETCHES ANSWER

abbrev pub IsScenarioFault : {D : Type 0} → Depots D → List ℕ → D → D → Exit → Type 0
IsScenarioFault d name old new ReadFault = HasFailed d name old new
IsScenarioFault d name old new (TooLong input.Scenario) = TooManyCame d most_of_scenario name old new
IsScenarioFault d name old new (Scenario line why) = NoScenarioCame d name line why old new
IsScenarioFault d name old new Memory = Unit {0}
IsScenarioFault d name old new _ = ⊥

abbrev pub IsOrderFault : {D : Type 0} → Depots D → List ℕ → ℕ → D → D → Exit → Type 0
IsOrderFault d name cpus old new ReadFault = HasFailed d name old new
IsOrderFault d name cpus old new (TooLong input.Order) = TooManyCame d most_of_order name old new
IsOrderFault d name cpus old new (Order fault) = NoOrderCame d name cpus most_turns fault old new
IsOrderFault d name cpus old new Memory = Unit {0}
IsOrderFault d name cpus old new _ = ⊥

abbrev pub IsOrderRead : {D : Type 0} → Depots D → List ℕ → ℕ → D → D → Result BlockList Exit → Type 0
IsOrderRead d name cpus old new (Ok order) = OrderCame d name cpus most_turns old order.blocks new
IsOrderRead d name cpus old new (Err exit) = IsOrderFault d name cpus old new exit

abbrev pub IsPolicyFault : {D : Type 0} → Depots D → List ℕ → D → D → Exit → Type 0
IsPolicyFault d name old new ReadFault = HasFailed d name old new
IsPolicyFault d name old new (TooLong input.Policy) = TooManyCame d most_of_policy name old new
IsPolicyFault d name old new (Policy line why) = NoPolicyCame d name line why old new
IsPolicyFault d name old new Memory = Unit {0}
IsPolicyFault d name old new _ = ⊥

abbrev pub IsPolicyRead : {D : Type 0} → Depots D → List ℕ → D → D → Result (List Stated) Exit → Type 0
IsPolicyRead d name old new (Ok policy) = PolicyCame d name old policy new
IsPolicyRead d name old new (Err exit) = IsPolicyFault d name old new exit

-- where files are named
abbrev pub IsOrderFaultIfNamed : {D : Type 0} → Depots D → Option (List ℕ) → ℕ → D → D → Exit → Type 0
IsOrderFaultIfNamed d None cpus old new exit = ⊥
IsOrderFaultIfNamed d (Some name) cpus old new exit = IsOrderFault d name cpus old new exit

abbrev pub IsOrderReadIfNamed : {D : Type 0} → Depots D → Option (List ℕ) → ℕ → D → D → Result (Option BlockList) Exit → Type 0
IsOrderReadIfNamed d name cpus old new (Ok order) = OrderCameIfNamed d name cpus old order new
IsOrderReadIfNamed d name cpus old new (Err exit) = IsOrderFaultIfNamed d name cpus old new exit

abbrev pub IsPolicyFaultIfNamed : {D : Type 0} → Depots D → Option (List ℕ) → D → D → Exit → Type 0
IsPolicyFaultIfNamed d None old new exit = ⊥
IsPolicyFaultIfNamed d (Some name) old new exit = IsPolicyFault d name old new exit

abbrev pub IsPolicyReadIfNamed : {D : Type 0} → Depots D → Option (List ℕ) → D → D → Result (Option (List Stated)) Exit → Type 0
IsPolicyReadIfNamed d name old new (Ok policy) = PolicyCameIfNamed d name old policy new
IsPolicyReadIfNamed d name old new (Err exit) = IsPolicyFaultIfNamed d name old new exit
