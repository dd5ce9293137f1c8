use Rattle.std.proofs.Common.{length}
use Rattle.nova_text.specs.Token.{texts_of, tokens_left}
use Rattle.nova_debug.proofs.Asked.{IsLeft}
use Rattle.nova_debug.proofs.orders.order_of.Given as goal

abbrev pub invariant-loop-cpu : goal.invariant-loop-cpu
invariant-loop-cpu l = IsLeft l.most l.order.blocks (texts_of (tokens_left l.line)) (texts_of (tokens_left l.initial.line))

abbrev pub decreases-loop-cpu : goal.decreases-loop-cpu
decreases-loop-cpu l = length (tokens_left l.line)
