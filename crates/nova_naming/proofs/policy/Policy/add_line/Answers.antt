use Rattle.std.proofs.Common.{rules, ◌≡◌, ◌++◌, ◌∷◌, [], Some, None, Ok}
use Rattle.nova_text.specs.Line.{row_of}
use Rattle.nova_naming.specs.Policy.{at_line, clash, said_in}
use Rattle.nova_naming.proofs.Reading.{added, clashing}
use Rattle.nova_naming.proofs.policy.Policy.add_line.Goals as goal

pub returns-in-Some-clash : goal.returns-in-Some-clash
returns-in-Some-clash c =
    let is : at_line c.args.line.number (said_in (row_of c.args.line)) ≡ Ok (Some c.in-Some.statement) = search rules in
    let clashes : clash c.args.self.now c.in-Some.statement ≡ Some c.in-Some-clash.why = search rules in
    clashing c.args.self.now (row_of c.args.line) c.in-Some.statement c.in-Some-clash.why c.at.result is clashes c.at.ensures

pub returns : goal.returns
returns c =
    let is : at_line c.args.line.number (said_in (row_of c.args.line)) ≡ Ok (Some c.in-Some.statement) = search rules in
    let fits : clash c.args.self.now c.in-Some.statement ≡ None = search rules in
    let pushed : c.push.new.self ≡ c.args.self.now ++ c.in-Some.statement ∷ [] = search rules in
    added c.args.self.now (row_of c.args.line) c.in-Some.statement c.push.new.self is fits pushed
