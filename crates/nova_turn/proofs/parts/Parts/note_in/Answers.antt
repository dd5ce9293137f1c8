use Rattle.std.proofs.Common.{ap, ◌∙◌}
use Rattle.nova_deeds.specs.StirCounts.{StirTable}
use Rattle.nova_turn.specs.Parts.{state_of}
use Rattle.nova_turn.proofs.StoresSeen.{nobody_counts, one_counts}
use Rattle.nova_turn.proofs.parts.Parts.note_in.Goals as goal

pub returns-in-Nobody-clause-counts : goal.returns-in-Nobody-clause-counts
returns-in-Nobody-clause-counts c =
    let k = state_of c.args.self.now in
    nobody_counts k c.args.self.now.reach.written c.args.ec c.args.frame c.of.result c.requires.counted c.requires.written (c.of.ensures k c.args.ec c.requires.seers) c.in-Nobody.is

pub returns-in-Only-clause-counts : goal.returns-in-Only-clause-counts
returns-in-Only-clause-counts c =
    let k = state_of c.args.self.now in
    ap (λ (t : StirTable). t.counts) c.rise.ensures
    ∙ one_counts k c.args.self.now.reach.written c.args.ec c.args.frame c.of.result c.requires.counted c.requires.written (c.of.ensures k c.args.ec c.requires.seers) c.in-Only.guest c.in-Only.is
