-- The table of execution contexts, by number.
use Rattle.std.specs.Prelude.{ℕ, ⊤, ◌≡◌, ◌⊎◌, Option, Some, None, IfSome, if◌then◌else◌}
use Rattle.rv_core.specs.declared.outcome.Outcome.{Outcome}
use Rattle.rv_core.specs.declared.outcome.Outcome.TheVariants.{Next, Raise}
use Rattle.rv_model.specs.Step.{Once, Raised, Went, Store}
use Rattle.nova_model.specs.State.{Contexts, ec_in, ec_of, with_ec}
use Rattle.nova_model.specs.Edges.{acts, chase, cpu_in, edge_of, MayWait, MayServe}
use Rattle.nova_model.specs.declared.context.EcState.{EcState}
use Rattle.nova_model.specs.declared.context.Mark.{Mark}
use Rattle.nova_model.specs.declared.context.State.{State}

-- an entry for each number, which holds an execution context or nothing, and for how many more there is room
pub record EcTable : Type 0 where
  pub items : Contexts
  pub spare : ℕ

-- the context that acts in the turns of an execution context, where the end of its chase does
abbrev pub actor_in : Contexts → ℕ → Option ℕ
actor_in cs e = if acts cs (chase cs e) then Some (chase cs e) else None

abbrev pub with_items : EcTable → Contexts → EcTable
with_items t items = record t { items = items }

-- an execution context is about to do another thing
abbrev pub turned_to : Contexts → ℕ → State → Contexts
turned_to cs e state = with_ec cs e (record (ec_of cs e) { state = state })

-- each has the number of its entry
abbrev pub IsNumbered : ℕ → Option EcState → Type 0
IsNumbered n o = IfSome o (λ x. x.id ≡ n)

abbrev pub AreNumbered : Contexts → Type 0
AreNumbered cs = (n : ℕ) → IsNumbered n (ec_in cs n)

-- a context that is there may become another of its number and processor, in the same state or waiting for a handler that it may wait for, and with
-- the same caller or one that it may serve
abbrev pub MayBecome : Contexts → ℕ → EcState → Type 0
MayBecome cs e y =
    (x : EcState) × (ec_in cs e ≡ Some x) × (y.cpu ≡ x.cpu) × ((y.state ≡ x.state) ⊎ MayWait cs e (edge_of y.state)) × (y.id ≡ x.id)
    × ((y.caller ≡ x.caller) ⊎ MayServe cs e y.caller)

-- the caller of one on this processor, where it has one, is there and on it too
abbrev pub IsServing : Contexts → ℕ → Option (ℕ × Mark) → Type 0
IsServing cs cpu None = ⊤
IsServing cs cpu (Some (c, mark)) = cpu_in cs c ≡ Some cpu

-- an execution context and the state of a bus, the outcome of one instruction of it, and both after it: a raise leaves both as they were
abbrev pub StepsIn : {S : Type 0} → (Store → S → S) → Once → EcState → S → Outcome → EcState → S → Type 0
StepsIn stored (Raised reason q0 q1) x s outcome x' s' = (outcome ≡ Raise reason q0 q1) × (x' ≡ x) × (s' ≡ s)
StepsIn stored (Went regs None) x s outcome x' s' = (outcome ≡ Next) × (x' ≡ record x { regs = regs }) × (s' ≡ s)
StepsIn stored (Went regs (Some store)) x s outcome x' s' = (outcome ≡ Next) × (x' ≡ record x { regs = regs }) × (s' ≡ stored store s)

-- the same of the execution context of a number in a table
abbrev pub Steps : {S : Type 0} → (Store → S → S) → Once → EcTable → ℕ → S → Outcome → EcTable → S → Type 0
Steps stored (Raised reason q0 q1) t ec s outcome t' s' = (outcome ≡ Raise reason q0 q1) × (t' ≡ t) × (s' ≡ s)
Steps stored (Went regs None) t ec s outcome t' s' =
    (outcome ≡ Next) × (t' ≡ with_items t (with_ec t.items ec (record (ec_of t.items ec) { regs = regs }))) × (s' ≡ s)
Steps stored (Went regs (Some store)) t ec s outcome t' s' =
    (outcome ≡ Next) × (t' ≡ with_items t (with_ec t.items ec (record (ec_of t.items ec) { regs = regs }))) × (s' ≡ stored store s)
