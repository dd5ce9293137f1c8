-- What a command makes of a scenario: a text, and whether the command is complete.
use Rattle.std.specs.Prelude.{◌≡◌, ℕ, ◌<◌, ◌≤◌, Bool, true, false, List, [], ◌∷◌, ◌++◌, Some, length, codes}
use Rattle.std.specs.List.{AllByRecursion}
use Rattle.nova_model.specs.State.{KernelState}
use Rattle.nova_model.specs.Choice.{is_quiet}
use Rattle.nova_model.specs.Forest.{IsForest}
use Rattle.nova_model.specs.Guests.{input}
use Rattle.nova_model.specs.Runs.{IsFreeOfIdle, after, run, trace}
use Rattle.nova_guest.specs.declared.input.Input.{Input}
use Rattle.law_isolation.specs.Sound.{IsVirtual}
use Rattle.law_integrity.specs.Integrity.{IsAuthorised}
use Rattle.law_origins.specs.Giving.{Acts}
use Rattle.law_origins.specs.Whose.{HasRight}
use Rattle.nova_model.specs.declared.event.EventKind.TheVariants.{Answer}
use Rattle.nova_calls.specs.declared.numbers.TheConstants.{REVOKE}
use Rattle.nova_range.specs.Statuses.{status_code}
use Rattle.nova_range.specs.declared.status.Status.TheVariants.{Success}
use Rattle.law_origins.specs.Lives.{AreGuestsAlone}
use Rattle.law_response.specs.Served.{ServesInRounds}
use Rattle.law_revocation.specs.Along.{HasEvent}
use Rattle.law_revocation.specs.Called.{HasEndedAsCalled}
use Rattle.nova_command.specs.declared.command.Command.{Command}
use Rattle.nova_command.specs.declared.command.Command.TheVariants.{Run, Solo, Check, Bench, Twin}
use Rattle.nova_model.specs.declared.event.Event.{Event}
use Rattle.nova_report.specs.Report.{report}
use Rattle.nova_report.specs.Summary.{summary}
use Rattle.nova_answers.specs.Orders.{IsByRounds, IsOrderOf, IsSpent, most_turns}
use Rattle.nova_io.specs.Outside.{Depots}
use Rattle.nova_answers.specs.Sourced.{AreSourcesTold}

-- in the turn of the processor a revoke of this execution context is answered SUCCESS
abbrev pub IsReturned : KernelState → ℕ → ℕ → Type 0
IsReturned k cpu ec = HasEvent k cpu ec Answer REVOKE (status_code Success)

-- what a command says of a kernel and of the events of its turns: the report, or a bench's summary
abbrev pub said_by : Command → KernelState → List Event → List ℕ
said_by (Run scenario order most) = report
said_by (Solo scenario order most) = report
said_by (Check scenario) = report
said_by (Twin name most) = report
said_by (Bench number most) = summary number

-- a run of a command from a state: there is an order of turns, which is the command's; none of its turns is idle; and the text is what the command
-- says of the run over it with its trace. The run is complete exactly where it ends quiet. The order has no more turns than the command allows, and
-- each is of a processor that is there. After each part of it, from the first turn on, delegations are a sound forest. And each of its turns whose
-- event answers SUCCESS to a revoke ends the revoke that was called in an earlier turn, of the range and with the flag that the caller's registers
-- had then, with nothing left of it: nothing that comes from the revoker still leads to what the range led to. And each virtual CPU that was made at
-- one of its turns is a guest alone from then on: its view at the end, its exits and its bytes are what the guest alone makes of its inputs. Whatever
-- one of its turns changes, the context whose turn it is had the authority for it, or it came by itself: an alarm, a deadline or the clock. Each
-- input of a virtual CPU comes from a context that has the right to it. And each source of the scenario fired not before its moments, none lost or
-- doubled, which its lines of the report tell; and counters of semaphores are balanced, of those of the boot state and of those that turns made. An
-- order by round robin serves the highest priority of each processor: an execution context that has it and waits for none is passed over in at most
-- as many rounds as have a turn that is due there, and as come to the full quanta of the others of its priority.
pub record IsRun {D : Type 0} (d : Depots D) (command : Command) (k : KernelState) (old new : D) (complete : Bool) (bytes text : List ℕ) : Type 0 where
  pub order : List ℕ
  pub of_command : IsOrderOf d command k old new order bytes
  pub no_idle : IsFreeOfIdle k order
  pub reported : text ≡ said_by command (run k order) (trace k order)
  pub quiet : complete ≡ is_quiet (run k order)
  pub spent : complete ≡ false → IsSpent command order
  pub within : length order ≤ most_turns command
  pub processors : AllByRecursion (λ cpu. cpu < k.cpus) order
  pub forests : (before after : List ℕ) → before ++ after ≡ order → IsForest (run k before).delegations
  pub revokes : (before after : List ℕ) (cpu ec : ℕ) → before ++ cpu ∷ after ≡ order → IsReturned (run k before) cpu ec → HasEndedAsCalled k before cpu ec
  pub guests : AreGuestsAlone k order
  pub rights : (before later : List ℕ) (cpu : ℕ) → before ++ cpu ∷ later ≡ order → IsAuthorised (run k before) (after (run k before) cpu) cpu
  pub inputs : (before later : List ℕ) (cpu ec g : ℕ) (i : Input) → before ++ cpu ∷ later ≡ order → IsVirtual (run k before) g → Acts (run k before) cpu ec →
      input (run k before) cpu g ≡ Some i → HasRight k before cpu ec g i
  pub sources : AreSourcesTold k order
  pub response : IsByRounds command → ServesInRounds k (most_turns command) order

-- what a command of one scenario makes of the boot state: check says that the scenario is valid, and any other runs it
abbrev pub IsOutcomeFrom : {D : Type 0} → Depots D → Command → KernelState → D → D → Bool → List ℕ → List ℕ → Type 0
IsOutcomeFrom d (Run scenario order most) k old new complete bytes text = IsRun d (Run scenario order most) k old new complete bytes text
IsOutcomeFrom d (Solo scenario order most) k old new complete bytes text = IsRun d (Solo scenario order most) k old new complete bytes text
IsOutcomeFrom d (Check scenario) k old new complete bytes text = (complete ≡ true) × (text ≡ codes "ok\n") × (new ≡ old) × (bytes ≡ [])
IsOutcomeFrom d (Bench number most) k old new complete bytes text = IsRun d (Bench number most) k old new complete bytes text
IsOutcomeFrom d (Twin name most) k old new complete bytes text = ⊥
