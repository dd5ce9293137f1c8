use Rattle.std.proofs.Common.{rules, ◌≡◌, ◌∙◌}
use Rattle.nova_burst.specs.Lending.{StemsFrom}
use Rattle.nova_model.specs.Runs.{run}
use Rattle.nova_run.proofs.Lent.{comes_after, number_kept}
use Rattle.nova_run.proofs.bursts.burst.Goals as goal

pub block-taken-requires-clause-fits : goal.block-taken-requires-clause-fits
block-taken-requires-clause-fits g c = λ h prefix.
    let d = c.block.ensures.told in
    let k = c.args.shared.now.opened.opening.kernel.state in
    let n = c.args.seat.now.number in
    let own : c.run.new.self.run.cpu ≡ n = c.run.ensures.same.cpu ∙ (search rules) in
    let stems : StemsFrom c.run.new.self (run k d.0) = c.run.ensures.stems (run k d.0) (search rules) in (
      own ∙ number_kept c.args.seat.now c.block.new.seat c.block.ensures.seat,
      comes_after k n c.run.new.self d.0 c.block.new.seat.front h c.block.result d.2 d.4.0 stems prefix,
    )
