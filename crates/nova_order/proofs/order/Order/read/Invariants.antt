use Rattle.std.proofs.Common.{◌≡◌, length}
use Rattle.std.specs.List.{slice_split}
use Rattle.nova_order.specs.Text.{is_line_feed}
use Rattle.nova_order.specs.Read.{read_lines, order_of}
use Rattle.nova_order.proofs.OrderLemmas.{HasBegun}
use Rattle.nova_order.proofs.order.Order.read.Given as goal

abbrev pub invariant-loop-line : goal.invariant-loop-line
invariant-loop-line l =
    (read_lines l.cpus l.most l.order.blocks (slice_split is_line_feed l.rest) ≡ order_of l.bytes l.cpus l.most)
    × HasBegun l.bytes l.cpus l.most l.order.blocks l.rest

abbrev pub decreases-loop-line : goal.decreases-loop-line
decreases-loop-line l = length l.rest
