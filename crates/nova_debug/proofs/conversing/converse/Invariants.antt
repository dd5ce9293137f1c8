use Rattle.std.proofs.Common.{◌≡◌}
use Rattle.std.specs.Io.Iter.{split_byte, split_known_bytes}
use Rattle.nova_debug.proofs.Conversed.{IsUnderWay}
use Rattle.nova_debug.proofs.conversing.converse.Given as goal

-- the lines so far were answered, and the others are left to be read
abbrev pub invariant-loop-line : goal.invariant-loop-line
invariant-loop-line g l = (goal.iterator-loop-line g).can_next l.line-iterator
    × (goal.iterator-loop-line g).is_finite l.line-iterator
    × (split_byte l.line-iterator ≡ 10)
    × IsUnderWay l.fn.session l.session (g.R.Read.remaining l.fn.input) (split_known_bytes g.R.Read.remaining l.line-iterator) (g.W.Write.contents l.fn.out)
    (g.W.Write.contents l.out)
