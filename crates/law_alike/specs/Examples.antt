-- A run that goes on for ever, and whose states are alike.
use Rattle.std.specs.Prelude.{[], ◌∷◌}
use Rattle.nova_model.specs.Boot.{Scenario}

-- On one processor, with a page of memory, the root jumps to itself, on quanta of one turn.
abbrev pub spinning : Scenario
spinning = record {
  cpus = 1;
  ram = 0;
  consoles = 0;
  root = record { pc = 0; sp = 0; priority = 1; quantum = 1 };
  images = record { address = 0; bytes = 111 ∷ 0 ∷ 0 ∷ 0 ∷ [] } ∷ [];
  sources = [];
}
