-- Lines whose blocks are all closed.
use Rattle.std.specs.Prelude.{Bool, true, false, ◌||◌, is_some, List, [], ◌∷◌, Option, Some, None, Result, Ok, Err, IsTrue}
use Rattle.std.specs.List.{find}
use Rattle.nova_text.specs.Line.{Row}
use Rattle.nova_scenario.specs.Items.{is_end}
use Rattle.nova_scenario.specs.Statement.{said}
use Rattle.nova_scenario.specs.declared.fault.Why.{Why}
use Rattle.nova_scenario.specs.declared.statement.Statement.{Statement}
use Rattle.nova_scenario.specs.declared.statement.Statement.TheVariants.{Sets, Adds, Begins}

-- whether a line begins no image
abbrev pub begins_none : Result (Option Statement) Why → Bool
begins_none (Ok (Some (Begins head))) = false
begins_none (Ok (Some (Sets setting))) = true
begins_none (Ok (Some (Adds head))) = true
begins_none (Ok None) = true
begins_none (Err why) = true

-- after each line that begins an image comes a line `end`
abbrev pub AreClosed : List Row → Type 0
AreClosed [] = Unit {0}
AreClosed (row ∷ rows) = IsTrue (begins_none (said row) || is_some (find is_end rows)) × AreClosed rows
