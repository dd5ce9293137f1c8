-- What a console was told, and turns of one processor until a word is said there.
use Rattle.std.specs.Prelude.{◌≡◌, ◌<◌, ◌≤◌, ◌⊎◌, ◌==◌, ℕ, Bool, false, List, [], ◌∷◌, nat_eq, replicate, None, if◌then◌else◌}
use Rattle.std.specs.List.{ends_with}
use Rattle.nova_model.specs.State.{KernelState}
use Rattle.nova_model.specs.Turn.{turn}
use Rattle.nova_model.specs.Runs.{run}
use Rattle.nova_model.specs.declared.log.LogByte.{LogByte}

-- the bytes that a console got, in order
abbrev pub bytes_of : ℕ → List LogByte → List ℕ
bytes_of console [] = []
bytes_of console (b ∷ log) = if b.console == console then b.value ∷ bytes_of console log else bytes_of console log

-- the last of them are a word
abbrev pub has_said : KernelState → ℕ → List ℕ → Bool
has_said k console word = ends_with nat_eq (bytes_of console k.memory.log) word

-- turns of one processor led from one state to another, before each of which the word was not said. Where it is not said then, as many turns
-- were taken as might be, or the processor is idle.
pub record IsRunUntil (k new : KernelState) (cpu console most : ℕ) (word : List ℕ) (said : Bool) : Type 0 where
  pub turns : ℕ
  pub within : turns ≤ most
  pub ran : new ≡ run k (replicate turns cpu)
  pub before : (n : ℕ) → n < turns → has_said (run k (replicate n cpu)) console word ≡ false
  pub ends : said ≡ false → (turns ≡ most) ⊎ (turn new cpu ≡ None)
