use Rattle.std.proofs.Common.{◌≡◌, true, ◌∙◌, sym}
use Rattle.std.proofs.lemmas.Str.{IsUtf8-from_ascii}
use Rattle.nova_order.specs.Numbers.{is_canonical}
use Rattle.nova_order.proofs.NumberLemmas.{canonical_ascii, parse_canonical}
use Rattle.nova_order.proofs.number.parse_number.Goals as goal

pub unreachable-requires : goal.unreachable-requires
unreachable-requires c =
    let is : is_canonical c.args.text.now ≡ true = sym c.is_canonical.ensures ∙ c.if-not-is_canonical.false in
    c.in-Err.ensures.cases.0 (IsUtf8-from_ascii c.args.text.now (canonical_ascii c.args.text.now is))

pub returns : goal.returns
returns c =
    let is : is_canonical c.args.text.now ≡ true = sym c.is_canonical.ensures ∙ c.if-not-is_canonical.false in
    c.ok.ensures.value ∙ parse_canonical c.args.text.now c.from_str_radix.result is (rw c.in-Ok.ensures.cases.0 at c.from_str_radix.ensures.value)
