use Rattle.std.proofs.Common.{◌≡◌, length, sym, ◌∙◌, ap, subst, arith}
use Rattle.nova_text.specs.Line.{lines}
use Rattle.nova_scenario.proofs.LineNumbers.{AreNumberedFrom, lines_are_numbered}
use Rattle.nova_scenario.proofs.reader.missing.Goals as goal

pub loop-line-init : goal.loop-line-init
loop-line-init c =
    let all : c.into_iter-line-iterator.result ≡ lines c.args.bytes.now = c.into_iter-line-iterator.ensures.into_iter_gives ∙ c.new-line-items.ensures.lines in
    record {
      numbered = subst (AreNumberedFrom 1) (sym all) (lines_are_numbered c.args.bytes.now);
      counted = let len = ap length all in omega arith;
    }
