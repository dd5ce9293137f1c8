-- Message words: whose a deed writes, and what they are then.
use Rattle.std.specs.Prelude.{ℕ, ◌≡◌, ◌<◌, ◌/◌, ◌%◌, true, List, Option, Some, None, slice_get}
use Rattle.rv_model.specs.Registers.{Registers}
use Rattle.rv_model.specs.Step.{Store, Went}
use Rattle.nova_utcb.specs.Messages.{copied, exited, stored, with_item}
use Rattle.nova_model.specs.Deeds.{instruction}
use Rattle.nova_model.specs.State.{KernelState, context, entry, is_thread, message}
use Rattle.nova_model.specs.declared.context.Mark.TheVariants as mark
use Rattle.nova_model.specs.declared.deed.Deed.{Deed}
use Rattle.nova_model.specs.declared.deed.Deed.TheVariants.{Steps, Sends, Finishes, Calls, Replies}

-- the message words of a thread, where they are there
abbrev pub words_at : KernelState → ℕ → Option (List ℕ)
words_at k n = entry (slice_get k.messages n)

-- the context whose words a deed of this execution context writes: an instruction its own, a call or an exit that is sent its handler's, a reply to a
-- call its caller's, and the end of an item those of the context that is told. A reply to an exit writes none.
abbrev pub whose_words : ℕ → Deed → Option ℕ
whose_words ec Steps = Some ec
whose_words ec (Calls handler ip identifier items) = Some handler
whose_words ec (Sends handler ip identifier mtd reason q0 q1) = Some handler
whose_words ec (Replies caller mark.Call items) = Some caller
whose_words ec (Finishes item end (Some words) follows) = Some words.ec
whose_words ec other = None

-- a store of a thread's among the 512 bytes of its message words, with which its page 0xfffff begins
pub record IsAmongWords (k : KernelState) (ec : ℕ) (s : Store) : Type 0 where
  pub thread : is_thread k ec ≡ true
  pub page : s.address / 4096 ≡ 1048575
  pub offset : s.address % 4096 < 512

-- the words after an instruction: its own store, where it has one and that is among them; and else they are as before
pub data IsStepped (k : KernelState) (ec : ℕ) (old now : List ℕ) : Type 0 where
  Stores : (regs : Registers) (s : Store) → instruction k ec ≡ Went regs (Some s) → IsAmongWords k ec s →
      now ≡ stored old (s.address % 4096) s.width s.value → IsStepped k ec old now
  Stays : ((regs : Registers) (s : Store) → instruction k ec ≡ Went regs (Some s) → IsAmongWords k ec s → ⊥) → now ≡ old → IsStepped k ec old now

-- how: by the store of the instruction, by a copy of the counts and the counted words of its own, by the exit's message of the groups that the portal's
-- descriptor names, from its registers, or by an item's two words
abbrev pub AreWritten : KernelState → ℕ → Deed → List ℕ → List ℕ → Type 0
AreWritten k ec Steps old now = IsStepped k ec old now
AreWritten k ec (Calls handler ip identifier items) old now = now ≡ copied (message k ec) old
AreWritten k ec (Sends handler ip identifier mtd reason q0 q1) old now = now ≡ exited mtd q0 q1 (context k ec).regs old
AreWritten k ec (Replies caller mark.Call items) old now = now ≡ copied (message k ec) old
AreWritten k ec (Finishes item end (Some words) follows) old now = now ≡ with_item old item words.first words.second
AreWritten k ec other old now = now ≡ old

-- words that were there after a turn: written so
pub record HasWritten (k new : KernelState) (ec n : ℕ) (d : Deed) (old : List ℕ) : Type 0 where
  pub now : List ℕ
  pub there : words_at new n ≡ Some now
  pub written : AreWritten k ec d old now
