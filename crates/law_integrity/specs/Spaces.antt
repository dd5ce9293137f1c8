-- What an instruction of an execution context finds in memory, and where it may store.
use Rattle.std.specs.Prelude.{◌≡◌, ◌<◌, ◌⊎◌, ℕ, ◌/◌, ◌%◌, Bool, true, false, Option, Some, None, slice_get}
use Rattle.rv_model.specs.Step.{Space}
use Rattle.nova_guest.specs.Frames.{read_in}
use Rattle.nova_range.specs.Rights.{execute_right, read_right, write_right}
use Rattle.nova_utcb.specs.Messages.{loaded}
use Rattle.nova_model.specs.State.{KernelState, is_thread, message, pd_of}
use Rattle.law_integrity.specs.Rights.{PageLeadsTo}

-- a thread's page 0xfffff is its own: no derivation leads there. Its first 512 bytes are the thread's message words.
pub record IsOwnPage (k : KernelState) (ec address : ℕ) : Type 0 where
  pub thread : is_thread k ec ≡ true
  pub page : address / 4096 ≡ 1048575

pub record IsOwnWord (k : KernelState) (ec address : ℕ) : Type 0 where
  pub page : IsOwnPage k ec address
  pub offset : address % 4096 < 512

-- the domain reaches this frame at the address, with the right, and the page isn't the execution context's own
pub record FindsFrame (k : KernelState) (ec address right frame : ℕ) : Type 0 where
  pub other : IsOwnPage k ec address → ⊥
  pub leads : PageLeadsTo k (pd_of k ec) (address / 4096) right frame

-- what is found by a right: the bytes of the frame that is reached, where a console reads 0; or nothing, where none is
pub data Finds (k : KernelState) (ec address right width : ℕ) (result : Option ℕ) : Type 0 where
  InFrame : (frame : ℕ) → FindsFrame k ec address right frame → result ≡ Some (read_in (slice_get k.memory.ram frame) (address % 4096) width) → Finds k ec address right width result
  Nowhere : ((frame : ℕ) → FindsFrame k ec address right frame → ⊥) → result ≡ None → Finds k ec address right width result

-- what a load finds: of its own message words, or by the right to read
pub data Loads (k : KernelState) (ec address width : ℕ) (result : Option ℕ) : Type 0 where
  OwnWords : IsOwnWord k ec address → result ≡ Some (loaded (message k ec) (address % 4096) width) → Loads k ec address width result
  ByRead : (IsOwnWord k ec address → ⊥) → Finds k ec address read_right width result → Loads k ec address width result

-- whether a store is taken: to its own message words, or to a frame that is reached with the right to write
pub data Takes (k : KernelState) (ec address : ℕ) (result : Bool) : Type 0 where
  Taken : (IsOwnWord k ec address ⊎ ((frame : ℕ) × FindsFrame k ec address write_right frame)) → result ≡ true → Takes k ec address result
  Refused : (IsOwnWord k ec address → ⊥) → ((frame : ℕ) → FindsFrame k ec address write_right frame → ⊥) → result ≡ false → Takes k ec address result

-- what the instructions of an execution context see
pub record IsSpaceOf (k : KernelState) (ec : ℕ) (s : Space) : Type 0 where
  pub fetches : (address : ℕ) → Finds k ec address execute_right 4 (s.fetch address)
  pub loads : (address width : ℕ) → Loads k ec address width (s.load address width)
  pub takes : (address width : ℕ) → Takes k ec address (s.takes address width)
