use Rattle.nova_policy.proofs.FirstTurns.{AreFirst}
use Rattle.nova_policy.proofs.running.first_turns.Given as goal

abbrev pub invariant-loop-block : goal.invariant-loop-block
invariant-loop-block l = AreFirst l.most l.order.blocks l.block-index l.first.blocks
