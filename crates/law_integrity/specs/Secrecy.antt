-- What the bytes of a frame tell: to a domain that doesn't reach it, nothing.
use Rattle.std.specs.Prelude.{ℕ, List, [], ◌∷◌, slice_set}
use Rattle.nova_range.specs.Rights.{execute_right, read_right, write_right}
use Rattle.nova_model.specs.Runs.{after}
use Rattle.nova_model.specs.State.{KernelState, pd_of}
use Rattle.law_origins.specs.Giving.{Acts}
use Rattle.law_integrity.specs.Rights.{PageLeadsTo}

-- no page of the domain leads to the frame with a right: by no right can its bytes be read, executed or written there
pub record IsHidden (k : KernelState) (domain frame : ℕ) : Type 0 where
  pub unread : (page : ℕ) → PageLeadsTo k domain page read_right frame → ⊥
  pub unwritten : (page : ℕ) → PageLeadsTo k domain page write_right frame → ⊥
  pub unexecuted : (page : ℕ) → PageLeadsTo k domain page execute_right frame → ⊥

-- the same state but for the bytes of a frame, which are these
abbrev pub with_bytes : KernelState → ℕ → List ℕ → KernelState
with_bytes k frame bytes = record k { memory = record k.memory { ram = slice_set k.memory.ram frame bytes } }

-- in each of these turns the frame is hidden from the domain of the context that acts
abbrev pub IsHiddenAlong : KernelState → List ℕ → ℕ → Type 0
IsHiddenAlong k [] frame = Unit {0}
IsHiddenAlong k (cpu ∷ turns) frame = ((ec : ℕ) → Acts k cpu ec → IsHidden k (pd_of k ec) frame) × IsHiddenAlong (after k cpu) turns frame
