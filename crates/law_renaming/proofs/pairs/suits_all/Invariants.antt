use Rattle.std.proofs.Common.{◌≡◌, drop}
use Rattle.std.specs.List.{list_all}
use Rattle.law_renaming.specs.Forced.{suits}
use Rattle.law_renaming.proofs.pairs.suits_all.Given as goal

abbrev pub invariant-loop-p : goal.invariant-loop-p
invariant-loop-p l = list_all (suits l.pair) (drop l.p-index l.met) ≡ list_all (suits l.pair) l.met
