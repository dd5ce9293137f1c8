use Rattle.std.proofs.Common.{rules}
use Rattle.nova_compare.proofs.Next.{begin_vertex}
use Rattle.nova_compare.proofs.vertex.Vertex.begin.Goals as goal

pub invariant_of-result : goal.invariant_of-result
invariant_of-result c =
    begin_vertex c.args.kernel.now.state _ _ c.turns_count_by_what_is_read.ensures.begins c.turns_keep_what_they_find.ensures.reached c.alike_states_have_alike_turns.ensures.reached c.x0_is_always_zero.ensures.reached c.requires
    (search rules) (search rules)
