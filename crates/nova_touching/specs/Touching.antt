-- What the turn of a processor touches, in a sound state.
use Rattle.std.specs.Prelude.{◌≡◌, Bool, true, false, List, [], Option, Some, None, is_some, slice_get, option_and_then, Contains}
use Rattle.nova_model.specs.Choice.{in_front}
use Rattle.nova_model.specs.Deeds.{deed}
use Rattle.nova_model.specs.Inputs.{in_ram}
use Rattle.nova_model.specs.Numbers.{CpuId, EcId, FrameNumber}
use Rattle.nova_model.specs.State.{KernelState, context}
use Rattle.nova_model.specs.declared.context.EcState.{EcState}
use Rattle.law_isolation.specs.Sound.{IsSound}
use Rattle.law_swaps.specs.Touches.{Executes, IsTouched, Touch, frame_stored_to, frames_read}
use Rattle.nova_touching.specs.Looking.{IsStepping}
use Rattle.nova_touching.specs.Whom.{AreListed, is_moving, moves_by, whom_by, whom_of}
use Rattle.nova_touching.specs.declared.looking.Sight.{Sight}

-- the state is sound, and the turn of a processor in it touches no more than this
pub record TouchesAtMost (k : KernelState) (cpu : CpuId) (t : Touch) : Type 0 where
  pub sound : IsSound k
  pub touched : IsTouched k cpu t

-- the deed of an execution context that acts touches no more than this
pub record ActsAtMost (k : KernelState) (ec : EcId) (t : Touch) : Type 0 where
  pub reads : Executes (context k ec) → t.reads ≡ frames_read k ec
  pub writes : (frame : FrameNumber) → frame_stored_to k ec (deed k ec) ≡ Some frame → Contains t.writes frame
  pub meets : AreListed k (whom_by (deed k ec)) t.meets
  pub moves : moves_by (deed k ec) ≡ true → t.moves ≡ true
  pub plain : t.is_plain ≡ true → IsStepping k ec

-- of one that is about to do anything but an instruction that goes on, by its state and registers, with what it reads
pub record IsDecided (k : KernelState) (x : EcState) (frames : List FrameNumber) (t : Touch) : Type 0 where
  pub reads : t.reads ≡ frames
  pub meets : AreListed k (whom_of x) t.meets
  pub moves : t.moves ≡ is_moving x.state
  pub plain : t.is_plain ≡ false

-- of an instruction that goes on, by what is seen of it: it is a plain step where it stores to no console
abbrev pub is_inner : KernelState → Option FrameNumber → Bool
is_inner k None = true
is_inner k (Some frame) = is_some (slice_get k.memory.ram frame)

abbrev pub frames_seen : Sight → List FrameNumber
frames_seen s = in_front s.fetched (in_front s.loaded [])

abbrev pub step_touch : KernelState → Sight → Touch
step_touch k s = record {
  reads = frames_seen s;
  writes = in_front (option_and_then (in_ram k) s.stored) [];
  meets = [];
  moves = false;
  is_plain = is_inner k s.stored;
}
