use Rattle.std.proofs.Common.{◌≡◌, drop}
use Rattle.law_renaming.specs.Forced.{among}
use Rattle.law_renaming.proofs.pairs.is_among.Given as goal

abbrev pub invariant-loop-p : goal.invariant-loop-p
invariant-loop-p l = among (drop l.p-index l.met) l.pair.0 l.pair.1 ≡ among l.met l.pair.0 l.pair.1
