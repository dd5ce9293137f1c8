-- An instruction that goes on.
use Rattle.std.specs.Prelude.{◌≡◌, ◌<◌, ◌^◌, ℕ, true, false, Option, Some, None}
use Rattle.rv_core.specs.declared.outcome.Outcome.TheVariants.{Raise}
use Rattle.nova_model.specs.State.{KernelState, context}
use Rattle.nova_deeds.specs.Acts.{is_executing, outcome_of}
use Rattle.nova_model.specs.Deeds.{deed, done, instruction}
use Rattle.nova_model.specs.declared.deed.Deed.TheVariants.{Steps}
use Rattle.nova_deeds.specs.Counted.{IsCounted, KeepsCounts}
use Rattle.nova_deeds.specs.Stirs.{written_frame}
use Rattle.nova_choice.specs.Schedules.{AreQueued}
use Rattle.nova_turn.specs.Parts.{state_of}
use Rattle.nova_turn.specs.Revoking.{AreRunning}
use Rattle.nova_turn.specs.declared.decide.deciding.Raised.{Raised}
use Rattle.nova_turn.specs.declared.parts.Parts.{Parts}

-- the tables agree with each other between turns: what is counted of the state, which scheduling contexts wait in queues, and the list of revokes
pub record AreInStep (p : Parts) : Type 0 where
  pub counted : IsCounted (state_of p)
  pub queued : AreQueued (state_of p) p.queues.all
  pub running : AreRunning (state_of p) p.revokes

-- parts in which a turn may be taken, with room for one more turn and for one more byte of the log
pub record MayTurn (p : Parts) : Type 0 where
  pub tables : AreInStep p
  pub turns : p.turns < 2 ^ 31
  pub log : 0 < p.reach.room

-- who waits for a processor, which revokes run, what is counted of turns and processors, and the room of the log stay
pub record KeepsRest (old new : Parts) : Type 0 where
  pub queues : new.queues ≡ old.queues
  pub revokes : new.revokes ≡ old.revokes
  pub turns : new.turns ≡ old.turns
  pub cpus : new.cpus ≡ old.cpus
  pub log : new.reach.room ≡ old.reach.room

-- it was the deed of the execution context, and is done
pub record WentOn (old new : Parts) (ec : ℕ) : Type 0 where
  pub decided : Steps ≡ deed (state_of old) ec
  pub does : state_of new ≡ done (state_of old) ec Steps
  pub kept : KeepsCounts (state_of old) (state_of new)
  pub wrote : new.reach.written ≡ written_frame (state_of old) ec
  pub queued : AreQueued (state_of new) new.queues.all
  pub running : AreRunning (state_of new) new.revokes

-- the instruction that is next raises this, and where there is no raise, none is next
abbrev pub HasRaised : KernelState → ℕ → Option Raised → Type 0
HasRaised k ec (Some r) = (is_executing (context k ec) ≡ true) × (Raise r.reason r.q0 r.q1 ≡ outcome_of (instruction k ec))
HasRaised k ec None = is_executing (context k ec) ≡ false

-- so it is, and nothing has changed
pub record Stays (old new : Parts) (ec : ℕ) (r : Option Raised) : Type 0 where
  pub raised : HasRaised (state_of old) ec r
  pub state : state_of new ≡ state_of old
  pub log : new.reach.room ≡ old.reach.room
