-- Sources: up to 32, after all settings and before any image.
use Rattle.std.specs.Prelude.{ℕ, nat_lt, true, [], ◌∷◌, ◌++◌, length, Option, Some, None, Result, Ok, Err, if◌then◌else◌}
use Rattle.nova_scenario.specs.Images.{Draft}
use Rattle.nova_scenario.specs.Settings.{is_whole, within}
use Rattle.nova_scenario.specs.declared.fault.Why.{Why}
use Rattle.nova_scenario.specs.declared.fault.Why.TheVariants.{Syntax, Missing, Range}
use Rattle.nova_scenario.specs.declared.source.SourceRow.{SourceRow}
use Rattle.nova_scenario.specs.declared.statement.SourceHead.{SourceHead}

-- a processor that is there
abbrev pub cpu_below : Option ℕ → Option ℕ → Option ℕ
cpu_below (Some cpus) (Some n) = if nat_lt n cpus then Some n else None
cpu_below _ _ = None

abbrev pub row_of : Option ℕ → Option ℕ → Option ℕ → Option ℕ → Option SourceRow
row_of (Some cpu) (Some first) (Some period) (Some count) = Some (record { cpu = cpu; first = first; period = period; count = count })
row_of _ _ _ _ = None

-- the source of a line, where each number is in its range
abbrev pub source_of : Option ℕ → SourceHead → Option SourceRow
source_of cpus head = row_of (cpu_below cpus head.cpu) (within 0 10000000 head.first) (within 1 10000000 head.period) (within 1 10000000 head.count)

-- Range where it isn't, or where 32 stand
abbrev pub if_room : ℕ → Option SourceRow → Result SourceRow Why
if_room stand None = Err Range
if_room stand (Some row) = if nat_lt stand 32 then Ok row else Err Range

-- Syntax after an image, and Missing where not all settings stand before it
abbrev pub row_in : Draft → SourceHead → Result SourceRow Why
row_in d head =
    if d.closed then Err Syntax
    else (if is_whole d.settings then if_room (length d.sources) (source_of d.settings.cpus head)
    else Err Missing)

abbrev pub with_row : Draft → Result SourceRow Why → Result Draft Why
with_row d (Ok row) = Ok (record d { sources = d.sources ++ row ∷ [] })
with_row d (Err why) = Err why

-- the sources with one more
abbrev pub with_source : Draft → SourceHead → Result Draft Why
with_source d head = with_row d (row_in d head)

-- an image begins: no source may follow
abbrev pub closing : Draft → Draft
closing d = record d { closed = true }
