use Rattle.std.proofs.Common.{rules, ◌≡◌}
use Rattle.nova_model.specs.Choice.{is_quiet}
use Rattle.nova_search.proofs.Going.{whole_if}
use Rattle.nova_search.proofs.exploring.stays_whole.Goals as goal

pub returns-then-is_whole-clause-still : goal.returns-then-is_whole-clause-still
returns-then-is_whole-clause-still c =
    let s = c.args.vertex.now in
    let is : c.quiet.result ≡ is_quiet s = search rules in
    whole_if c.args.merging c.args.is_whole c.quiet.result s (search rules) is (λ t one. c.states_are_one.ensures.quiet c.args.merging s t one)
