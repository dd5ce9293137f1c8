use Rattle.std.proofs.Common.{◌≡◌, ◌++◌, string_bytes, flat_map, drop}
use Rattle.nova_order.specs.Text.{line_of, text_of}
use Rattle.nova_order.proofs.order.Order.text.Given as goal

abbrev pub invariant-loop-block : goal.invariant-loop-block
invariant-loop-block l =
    string_bytes l.out ++ flat_map line_of (drop l.block-index l.self.blocks) ≡ text_of l.self.blocks
