use Rattle.std.proofs.Common.{arith}
use Rattle.std.proofs.lemmas.Grind.{common_steps}
use Rattle.rv_asm.specs.Syntax.{is_comma}
use Rattle.rv_asm.proofs.Cuts.{cut_whole, cut_first}
use Rattle.rv_asm.proofs.syntax.cut_at_comma.Goals as goal

pub returns-in-empty-clause-parts : goal.returns-in-empty-clause-parts
returns-in-empty-clause-parts c =
    cut_whole is_comma c.args.line.start c.len_before.result c.args.line.text.now c.len_before.ensures.len _ c.split_at.ensures.front (grind (arith, common_steps))

pub returns-in-len1-up-clause-parts : goal.returns-in-len1-up-clause-parts
returns-in-len1-up-clause-parts c =
    cut_first is_comma c.args.line.start c.len_before.result c.args.line.text.now c.len_before.ensures.len _ _ c.split_at.ensures.front c.split_at.ensures.back (grind (arith, common_steps))
