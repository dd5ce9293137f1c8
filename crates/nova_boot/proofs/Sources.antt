-- The sources of a scenario, as a kernel adds them.
use Rattle.std.proofs.Common.{◌≡◌, ℕ, ◌*◌, ◌+◌, ◌≤◌, List, [], ◌∷◌, refl, ◌∙◌, arith}
use Rattle.std.specs.Prelude.{length}
use Rattle.std.proofs.lemmas.List.{length-append}
use Rattle.std.proofs.lemmas.Nat.{mul-le}
use Rattle.nova_model.specs.Boot.{Image, bare, with_image, with_images}
use Rattle.nova_model.specs.Sources.{Source, with_source}
use Rattle.nova_model.specs.State.{KernelState}
use Rattle.nova_objects.specs.declared.object.Object.TheVariants.{Sm}
use Rattle.nova_scenario.specs.Sound.{IsSourceOf}
use Rattle.nova_scenario.specs.declared.source.SourceRow.{SourceRow}
use Rattle.nova_times.specs.Kept.{IsAlarm}

-- its numbers are those of an alarm
pub row_alarm : (cpus sm : ℕ) (row : SourceRow) → IsSourceOf cpus row → IsAlarm (record { cpu = row.cpu; sm = sm; first = row.first; period = row.period; count = row.count })
row_alarm cpus sm row is =
    let most : row.count * row.period ≤ 10000000 * 10000000 = mul-le row.count row.period 10000000 10000000 is.count is.period in
    let first = is.first in record {
      period = is.some_turn;
      count = is.some_time;
      last = omega (arith, most, first);
    }

-- one object more
pub source_objects : (k : KernelState) (s : Source) → length (with_source k s).objects ≡ length k.objects + 1
source_objects k s = length-append k.objects (Sm ∷ [])
