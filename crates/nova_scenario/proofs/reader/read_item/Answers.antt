use Rattle.std.proofs.Common.{rules, ◌≡◌, Some, Ok}
use Rattle.nova_text.specs.Line.{row_of}
use Rattle.nova_scenario.specs.Items.{block}
use Rattle.nova_scenario.specs.Read.{BecomesAt}
use Rattle.nova_scenario.specs.Scenario.{with_block}
use Rattle.nova_scenario.specs.Sources.{closing}
use Rattle.nova_scenario.specs.Statement.{said}
use Rattle.nova_scenario.specs.declared.statement.Statement.TheVariants.{Begins}
use Rattle.nova_scenario.proofs.BlockLemmas.{block_read}
use Rattle.nova_scenario.proofs.reader.read_item.Goals as goal

pub returns-in-Ok-Some-Begins-clause-read : goal.returns-in-Ok-Some-Begins-clause-read
returns-in-Ok-Some-Begins-clause-read c =
    let head = c.in-Ok-Some-Begins.head in
    let begins : said (row_of c.args.line) ≡ Ok (Some (Begins head)) = cc in
    let closed : BecomesAt (with_block c.args.bytes.now (closing c.args.draft.now) head (block (row_of c.args.line) c.args.lines.now)) c.read_image.new.draft c.read_image.result =
    search rules in
    block_read c.args.bytes.now c.args.draft.now c.read_image.new.draft (row_of c.args.line) head c.args.lines.now c.read_image.new.lines begins c.read_image.result closed c.read_image.ensures.lines
