-- Runs on their way, and what turns add to them.
use Rattle.std.specs.Prelude.{◌≡◌, ℕ, ◌+◌, ◌-◌, ◌^◌, ◌≤◌, List, [], ◌∷◌, ◌++◌, length, replicate, is_some, if◌then◌else◌}
use Rattle.nova_model.specs.State.{KernelState}
use Rattle.nova_model.specs.Turn.{turn}
use Rattle.nova_model.specs.Runs.{IsFreeOfIdle, run, trace}
use Rattle.nova_order.specs.Blocks.{turns, total}
use Rattle.nova_finished.specs.declared.finished.Finished.{Finished}

-- how many more turns there may be
abbrev pub left : Finished → ℕ
left f = f.limit - length f.trace.items

-- the turn of a processor that is not idle
abbrev pub taken : KernelState → ℕ → List ℕ
taken k cpu = if is_some (turn k cpu) then cpu ∷ [] else []

-- there is room in the console log for as many turns as there may be, and a place in the order for each event
pub record IsReady (f : Finished) : Type 0 where
  pub within : length f.trace.items ≤ f.limit
  pub room : f.limit ≤ f.kernel.room + length f.trace.items
  pub turns : f.kernel.state.turns + f.limit ≤ 2 ^ 31 + length f.trace.items
  pub order : total f.order.blocks ≡ length f.trace.items

-- there is room in the order and in the trace for as many turns as there may be
pub record HasRoom (f : Finished) : Type 0 where
  pub order : f.limit ≤ f.order.spare + length f.trace.items
  pub trace : f.limit ≤ f.trace.capacity

-- after these turns
pub record Passed (old : Finished) (list : List ℕ) (new : Finished) : Type 0 where
  pub opening : new.opening ≡ old.opening
  pub kernel : new.kernel.state ≡ run old.kernel.state list
  pub order : turns new.order.blocks ≡ turns old.order.blocks ++ list
  pub trace : new.trace.items ≡ old.trace.items ++ trace old.kernel.state list
  pub count : length new.trace.items ≡ length old.trace.items + length list
  pub limit : new.limit ≡ old.limit
  pub cpus : new.kernel.state.cpus ≡ old.kernel.state.cpus
  pub ready : IsReady new

-- after `n` turns of one processor, at most `may`, of which none is idle
pub record IsGone (old : Finished) (cpu may n : ℕ) (new : Finished) : Type 0 where
  pub few : n ≤ may
  pub passed : Passed old (replicate n cpu) new
  pub no_idle : IsFreeOfIdle old.kernel.state (replicate n cpu)
