-- The line of a block says that block, and no other line does.
use Rattle.std.proofs.Common.{◌≡◌, ℕ, suc, ◌+◌, ◌≤◌, ◌<◌, ◌^◌, true, false, List, [], ◌∷◌, ◌++◌, length, take, drop, get_or, refl, ap, ◌∙◌, arith, Option, Some, None, ⊎_elim}
use Rattle.std.proofs.str.Laws.{order}
use Rattle.std.proofs.Math.Seq.{take-append_seam}
use Rattle.std.specs.Char.{is_digit}
use Rattle.std.specs.Fmt.{decimal}
use Rattle.std.specs.List.{All, list_all, position_or_len, before_first, after_first}
use Rattle.std.proofs.lemmas.List.Elements.{All-nil, All-cons, All-append}
use Rattle.std.proofs.lemmas.List.Sums.{split_at_first, passes_at_first}
use Rattle.nova_order.specs.Numbers.{number}
use Rattle.nova_order.specs.Text.{block_of, block_of_numbers, is_space, is_line_feed}
use Rattle.nova_order.specs.declared.block.Block.{Block}
use Rattle.nova_order.proofs.LineLemmas.{block_none}
use Rattle.nova_order.proofs.NumberLemmas.{digits_decimal, number_decimal, decimal_number}

-- a block's line without its line feed
abbrev pub words_of : Block → List ℕ
words_of block = decimal block.cpu ++ 32 ∷ decimal block.count

-- what stands before a space and after it
space_at : (ds es : List ℕ) → list_all (λ c. is_digit c 10) ds ≡ true → position_or_len is_space (ds ++ 32 ∷ es) ≡ length ds
space_at [] es all = refl
space_at (d ∷ ds) es all =
    let tail = space_at ds es (grind arith) in
    let other : is_space d ≡ false = grind arith in
    rw other (omega arith)

drop_past : (ds : List ℕ) (e : ℕ) (es : List ℕ) → drop (length ds + 1) (ds ++ e ∷ es) ≡ es
drop_past [] e es = refl
drop_past (d ∷ ds) e es = let k : length (d ∷ ds) + 1 ≡ suc (length ds + 1) = omega arith in ap (λ n. drop n (d ∷ (ds ++ e ∷ es))) k ∙ drop_past ds e es

before_space : (ds es : List ℕ) → list_all (λ c. is_digit c 10) ds ≡ true → before_first is_space (ds ++ 32 ∷ es) ≡ ds
before_space ds es all = ap (λ n. take n (ds ++ 32 ∷ es)) (space_at ds es all) ∙ take-append_seam ds (32 ∷ es)

after_space : (ds es : List ℕ) → list_all (λ c. is_digit c 10) ds ≡ true → after_first is_space (ds ++ 32 ∷ es) ≡ es
after_space ds es all = ap (λ n. drop (n + 1) (ds ++ 32 ∷ es)) (space_at ds es all) ∙ drop_past ds 32 es

pub block_of_words : (b : Block) → b.cpu < 2 ^ 64 → b.count < 2 ^ 64 → block_of (words_of b) ≡ Some b
unfolding block_of
block_of_words b cpu_fits count_fits =
    let digits = digits_decimal b.cpu cpu_fits in
    let cpu = ap number (before_space (decimal b.cpu) (decimal b.count) digits) ∙ number_decimal b.cpu cpu_fits in
    let count = ap number (after_space (decimal b.cpu) (decimal b.count) digits) ∙ number_decimal b.count count_fits in
    λ i. block_of_numbers (cpu i) (count i)

-- the line holds no line feed
no_feed : (ds : List ℕ) → list_all (λ c. is_digit c 10) ds ≡ true → All (λ b. is_line_feed b ≡ false) ds
no_feed [] all = All-nil (λ b. is_line_feed b ≡ false)
no_feed (d ∷ ds) all = All-cons (λ b. is_line_feed b ≡ false) d ds (grind arith) (no_feed ds (grind arith))

pub no_feed_in_words : (b : Block) → b.cpu < 2 ^ 64 → b.count < 2 ^ 64 → All (λ b. is_line_feed b ≡ false) (words_of b)
no_feed_in_words b cpu_fits count_fits =
    let P : ℕ → Type 0 = λ b. is_line_feed b ≡ false in
    All-append P (decimal b.cpu) (32 ∷ decimal b.count) (no_feed (decimal b.cpu) (digits_decimal b.cpu cpu_fits)) (All-cons P 32 (decimal b.count) refl (no_feed (decimal b.count) (digits_decimal b.count count_fits)))

-- a line that says a block
words_from : (before after : List ℕ) (x y : Option ℕ) (b : Block) → number before ≡ x → number after ≡ y → block_of_numbers x y ≡ Some b → before ++ 32 ∷ after ≡ words_of b
words_from before after None y b is_x is_y is = absurd cc
words_from before after (Some cpu) None b is_x is_y is = absurd cc
words_from before after (Some cpu) (Some count) b is_x is_y is =
    let block : record { cpu = cpu; count = count } ≡ b = cc in
    let front = decimal_number before cpu is_x in
    let back = decimal_number after count is_y in
    (λ i. front i ++ 32 ∷ back i) ∙ ap words_of block

pub words_of_line : (line : List ℕ) (b : Block) → block_of line ≡ Some b → line ≡ words_of b
unfolding block_of
words_of_line line b is = ⊎_elim
    (λ within.
    let space : get_or line (position_or_len is_space line) 0 ≡ 32 = grind (arith, passes_at_first is_space line 0 within) in
    split_at_first is_space line 0 within
    ∙ ap (λ c. before_first is_space line ++ c ∷ after_first is_space line) space
    ∙ words_from (before_first is_space line) (after_first is_space line) _ _ b refl refl is)
    (λ beyond. absurd (none beyond))
    (order (position_or_len is_space line) (length line))
  where
    none : length line ≤ position_or_len is_space line → ⊥
    none beyond = let no = block_none line beyond in cc
