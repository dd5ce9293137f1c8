-- How long an order's text is.
use Rattle.std.proofs.Common.{◌≡◌, ℕ, zero, suc, ◌+◌, ◌*◌, ◌<◌, ◌≤◌, ◌^◌, true, List, [], ◌∷◌, length, refl, ap, ◌∙◌, arith, nat_lt}
use Rattle.std.specs.Prelude.{IsTrue}
use Rattle.std.specs.Fmt.{decimal}
use Rattle.std.specs.List.{list_all}
use Rattle.std.proofs.lemmas.Fmt.{length-decimal-le}
use Rattle.std.proofs.lemmas.List.{length-append}
use Rattle.std.proofs.lemmas.List.Sums.{sum_by-cons}
use Rattle.nova_order.specs.Blocks.{total, IsOrder, is_within}
use Rattle.nova_order.specs.Text.{line_of, text_of}
use Rattle.nova_order.specs.declared.block.Block.{Block}

below_power : (n : ℕ) → n < 10 ^ n
below_power zero = omega arith
below_power (suc n) = let less = below_power n in grind arith

-- no more digits than turns
few_digits : (n : ℕ) → 0 < n → n < 2 ^ 64 → length (decimal n) ≤ n
few_digits n some small = length-decimal-le n n some (below_power n) small

one_digit : (n : ℕ) → n < 10 → length (decimal n) ≤ 1
one_digit n small = length-decimal-le 1 n (omega arith) (omega arith) (omega arith)

short_line : (b : Block) → b.cpu < 10 → 0 < b.count → b.count < 2 ^ 64 → length (line_of b) ≤ 4 * b.count
short_line b cpu some small =
    let front = one_digit b.cpu cpu in
    let back = few_digits b.count some small in
    let whole : length (line_of b) ≡ length (decimal b.cpu) + suc (length (decimal b.count) + 1) =
    length-append (decimal b.cpu) _ ∙ ap (λ n. length (decimal b.cpu) + suc n) (length-append (decimal b.count) (10 ∷ [])) in
    omega arith

text_first : (b : Block) (bs : List Block) → length (text_of (b ∷ bs)) ≡ length (line_of b) + length (text_of bs)
unfolding text_of
text_first b bs = length-append (line_of b) _

text_none : length (text_of []) ≡ 0
unfolding text_of
text_none = refl

short_lines : (cpus : ℕ) (bs : List Block) → cpus ≤ 10 → list_all (λ block. nat_lt 0 block.count) bs ≡ true → list_all (λ block. nat_lt block.cpu cpus) bs ≡ true →
    total bs < 2 ^ 64 → length (text_of bs) ≤ 4 * total bs
short_lines cpus [] few counted within fits = let none = text_none in omega arith
short_lines cpus (b ∷ bs) few counted within fits =
    let sum : total (b ∷ bs) ≡ b.count + total bs = sum_by-cons (λ block. block.count) b bs in
    let rest = short_lines cpus bs few (grind arith) (grind arith) (omega arith) in
    let line = short_line b (grind arith) (grind arith) (omega arith) in
    let all = text_first b bs in
    omega arith

pub short_text : (cpus most : ℕ) (blocks : List Block) → cpus ≤ 10 → IsOrder blocks → IsTrue (is_within cpus most blocks) → length (text_of blocks) ≤ 4 * most
short_text cpus most blocks few order within =
    let lines = short_lines cpus blocks few order.counted (grind (arith, within)) order.fits in
    let turns : total blocks ≤ most = grind (arith, within) in
    omega arith
