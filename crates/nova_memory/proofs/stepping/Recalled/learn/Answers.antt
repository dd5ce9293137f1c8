use Rattle.std.proofs.Common.{ℕ, sym, subst}
use Rattle.nova_memory.specs.Recalled.{LiesAt}
use Rattle.nova_memory.proofs.Remembered.{learned}
use Rattle.nova_memory.proofs.stepping.Recalled.learn.Goals as goal

pub returns-clause-recalled : goal.returns-clause-recalled
returns-clause-recalled c = λ list memory are lies.
    learned list memory c.args.self.now (record { scope = c.scope_of-scope.result; address = c.args.address; frame = c.args.frame; reading = c.in_ok-reading.reading }) c.args.pd
    c.place_of.result c.place_of.ensures.place c.ranges.pd.fits c.scope_of-scope.ensures are
    (subst (λ (w : ℕ). LiesAt list memory c.args.pd c.args.address c.args.frame w) (sym c.in_ok-reading.ensures) lies)
