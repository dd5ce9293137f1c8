use Rattle.std.proofs.Common.{ap, ◌∙◌}
use Rattle.std.specs.Result.{result_ok}
use Rattle.nova_scenario.proofs.HexLemmas.{word-read, no_word}
use Rattle.nova_scenario.proofs.words.word_of.Goals as goal

pub returns-then-text-ne-WORD_DIGITS : goal.returns-then-text-ne-WORD_DIGITS
returns-then-text-ne-WORD_DIGITS c = no_word c.args.text.now c.if-text-ne-WORD_DIGITS.true

pub returns : goal.returns
returns c = c.ok.ensures.value ∙ ap result_ok c.parse_digits.ensures ∙ word-read c.args.text.now c.if-text-ne-WORD_DIGITS.false
