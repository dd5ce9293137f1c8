use Rattle.std.proofs.Common.{◌≡◌, true, ◌∙◌, arith}
use Rattle.std.proofs.lemmas.Str.{IsUtf8-from_ascii}
use Rattle.nova_text.specs.Number.{is_numeral}
use Rattle.nova_text.proofs.NumberLemmas.{numeral-ascii, parse-numeral}
use Rattle.nova_text.proofs.number.parse_digits.Goals as goal

pub unreachable-requires : goal.unreachable-requires
unreachable-requires c =
    let is : is_numeral c.args.radix c.args.digits.now ≡ true = grind arith in
    c.in-Err.ensures.cases.0 (IsUtf8-from_ascii c.args.digits.now (numeral-ascii c.args.radix c.requires.upper_bound c.args.digits.now is))

pub returns : goal.returns
returns c =
    let is : is_numeral c.args.radix c.args.digits.now ≡ true = grind arith in
    c.or.ensures ∙ parse-numeral c.args.radix c.requires.upper_bound c.args.digits.now c.from_str_radix.result is (rw c.in-Ok.ensures.cases.0 at c.from_str_radix.ensures.value)
