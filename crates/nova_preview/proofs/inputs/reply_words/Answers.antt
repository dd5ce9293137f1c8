use Rattle.std.proofs.Common.{rules, arith, ◌≡◌, ◌<◌, ◌∙◌, take, subst}
use Rattle.std.proofs.lemmas.List.{length-set}
use Rattle.nova_model.specs.Inputs.{reply_words}
use Rattle.nova_preview.proofs.Words.{told_all, told_more}
use Rattle.nova_preview.proofs.inputs.reply_words.Goals as goal

pub loop-i-preserved : goal.loop-i-preserved
loop-i-preserved c =
    let before = c.loop-i-test.true in
    let low : c.loop-i.i < 33 = first_of (search rules, grind (arith, before)) in
    record {
      many = length-set c.loop-i.words c.loop-i.i c.reply_word.result ∙ c.loop-i.invariant.many;
      told = told_more c.args.message.now c.loop-i.words c.loop-i.i c.reply_word.result c.reply_word.ensures.message.size low c.loop-i.invariant.many
          c.reply_word.ensures.word c.loop-i.invariant.told;
      message = λ more. c.reply_word.ensures.message;
    }

pub returns : goal.returns
returns c =
    let m = c.args.message.now in
    let stop = c.loop-i-test.false in
    let most = c.loop-i.auto.i-end in
    let end : c.loop-i.i ≡ 33 = first_of (search rules, grind (arith, stop, most)) in
    told_all m c.loop-i.words (c.loop-i.invariant.message (omega (arith, end))).size c.loop-i.invariant.many
    (subst (λ n. take n c.loop-i.words ≡ take n (reply_words m)) end c.loop-i.invariant.told)
