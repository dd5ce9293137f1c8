-- What always holds of a state still does after bytes are laid into its memory.
use Rattle.std.proofs.Common.{ℕ, List}
use Rattle.nova_model.specs.Boot.{laid}
use Rattle.nova_model.specs.State.{KernelState}
use Rattle.law_turns.proofs.Donation.{keeps_in_memory}
use Rattle.law_isolation.proofs.Whole.{laid_whole}
use Rattle.law_leases.specs.Commits.{IsReached}

pub laid_reached : (k : KernelState) (address : ℕ) (bytes : List ℕ) → IsReached k → IsReached (record k { memory = laid k.memory address bytes })
laid_reached k address bytes is = record {
  sound = record {
    forest = is.sound.forest;
    kept = keeps_in_memory k (laid k.memory address bytes) is.sound.kept;
    whole = record {
      frames = laid_whole k.memory address bytes is.sound.whole.frames;
      messages = is.sound.whole.messages;
      registers = is.sound.whole.registers;
      places = is.sound.whole.places;
    };
  };
  single = record { aimed = is.single.aimed; alone = is.single.alone };
}
