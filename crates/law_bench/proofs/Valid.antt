-- The text of a bench is a scenario.
use Rattle.std.proofs.Common.{◌≡◌, ℕ, ◌^◌, ◌<◌, List, [], ◌∷◌, false, true, Some, Result, Ok, refl, ap, ◌∙◌, arith}
use Rattle.std.specs.Fmt.{decimal}
use Rattle.nova_text.specs.Number.{number}
use Rattle.nova_text.proofs.NumberLemmas.{number-decimal}
use Rattle.nova_gen.specs.Generated.{generated}
use Rattle.nova_scenario.specs.Fault.{At, and_then}
use Rattle.nova_scenario.specs.Images.{Draft, empty}
use Rattle.nova_scenario.specs.Items.{ImageBlock}
use Rattle.nova_scenario.specs.Scenario.{scenario, read_items, with_block, with_bytes, ended, finished, or_missing}
use Rattle.nova_scenario.specs.Sources.{closing}
use Rattle.nova_scenario.specs.Words.{bytes_of, in_bytes}
use Rattle.nova_scenario.specs.declared.image.Image.{Image}
use Rattle.nova_scenario.specs.declared.scenario.Scenario.{Scenario}
use Rattle.law_bench.proofs.NumberText.{Digits, decimal_digits}
use Rattle.law_bench.proofs.TextLines.{whole_text, generated_text}
use Rattle.law_bench.proofs.Program.{program_words}
use Rattle.law_bench.proofs.BlockText.{head, setting_items, the_block, whole_items, block_assembled}

abbrev image : ℕ → Image
image n = record { address = 0; bytes = bytes_of (program_words n) }

-- what is read of a bench
abbrev pub bench : ℕ → Scenario
bench n = record { cpus = 1; ram = 1; consoles = 0; pc = 0; sp = 0; priority = 1; quantum = 10; images = image n ∷ []; sources = [] }

abbrev settled : Draft
settled = record {
  settings = record { cpus = Some 1; ram = Some 1; consoles = Some 0; root = Some (record { pc = Some 0; sp = 0; priority = 1; quantum = 10 }) };
  images = [];
  sources = [];
  closed = false;
}

module _ (ds : List ℕ) (is : Digits ds) (n : ℕ) (small : n < 2 ^ 32) (reads : number ds ≡ Some n) where
  abbrev rest : Draft → Result Scenario At
  rest d = or_missing (whole_text ds) (finished d)

  block_read : with_block (whole_text ds) (closing settled) head (the_block ds is) ≡ Ok (record settled { images = image n ∷ []; closed = true })
  block_read = ap (λ found. and_then (in_bytes found) (λ bytes. ended (whole_text ds) (the_block ds is).end (with_bytes head.form (closing settled) 0 bytes))) (block_assembled ds is n small reads)

  settings_read : read_items (whole_text ds) empty (setting_items (ImageBlock head (the_block ds is) ∷ [])) ≡ and_then (with_block (whole_text ds) (closing settled) head (the_block ds is)) rest
  settings_read = refl

  whole_read : scenario (whole_text ds) ≡ Ok (bench n)
  unfolding scenario
  whole_read =
      ap (read_items (whole_text ds) empty) (whole_items ds is)
      ∙ settings_read
      ∙ ap (λ found. and_then found rest) block_read

pub bench_read : (n : ℕ) → n < 2 ^ 32 → scenario (generated n) ≡ Ok (bench n)
bench_read n small =
    ap scenario (generated_text n)
    ∙ whole_read (decimal n) (decimal_digits n small) n small (number-decimal n (omega arith))
