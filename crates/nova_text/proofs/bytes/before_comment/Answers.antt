use Rattle.std.proofs.Common.{rules, take, ap, ◌∙◌}
use Rattle.std.proofs.lemmas.Iterator.{YieldsList-from_slice}
use Rattle.std.proofs.lemmas.Iterator.Search.{position_from_yields_List}
use borrow.Author.Tests.{tests}
use Rattle.nova_text.specs.Bytes.{is_comment_sign}
use Rattle.nova_text.proofs.Scans.{unwrap_or-position}
use Rattle.nova_text.proofs.bytes.before_comment.Goals as goal

pub returns : goal.returns
returns c =
    let line = c.args.line.now in
    let found = position_from_yields_List is_comment_sign _ _ c.position.result c.position.ensures.ran (YieldsList-from_slice line cc) (λ x b q k. search (rules, tests)) in
    c.split_at.ensures.front ∙ ap (λ n. take n line) (unwrap_or-position is_comment_sign line c.position.result _ c.unwrap_or-len.ensures found)
