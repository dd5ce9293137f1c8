-- What is written is read back, and what is read was written.
use Rattle.std.proofs.Common.{◌≡◌, ℕ, ◌+◌, ◌≤◌, ◌<◌, ◌^◌, ◌==◌, Bool, true, false, cond, List, [], ◌∷◌, ◌++◌, refl, ap, sym, subst, ◌∙◌, arith, nat_lt, nat_le, Option, Some, None, Result, Ok, Err, append_assoc, inl, inr, length}
use Rattle.std.specs.Prelude.{flat_map, IsOk, IsTrue, ◌⊎◌}
use Rattle.std.specs.Fmt.{decimal}
use Rattle.std.specs.List.{after_first, before_first, last_or, list_all, position_or_len, slice_split, join_with_byte}
use Rattle.std.proofs.lemmas.List.{append-nil}
use Rattle.std.proofs.lemmas.List.Sums.{sum_by-cons}
use Rattle.std.proofs.lemmas.List.Folds.{list_all-append}
use Rattle.std.proofs.lemmas.List.Concat.{flat_map-append}
use Rattle.std.proofs.lemmas.List.Splits.{slice_split_at, join_with_byte-slice_split}
use Rattle.nova_text.proofs.LineLemmas.{Parts, parts}
use Rattle.nova_order.specs.Blocks.{total, is_of, is_merged_after, IsOrder, is_within}
use Rattle.nova_order.specs.Text.{line_of, text_of, block_of, is_line_feed}
use Rattle.nova_order.specs.Read.{judged, with_block, with_line, and_then, ended, read_lines, order_of, next_line, BeginsWell}
use Rattle.nova_order.specs.declared.block.Block.{Block}
use Rattle.nova_order.specs.declared.fault.OrderFault.{OrderFault}
use Rattle.nova_order.specs.declared.fault.OrderFault.TheVariants.{BadCpu, ZeroCount, NotMerged, TooMany, Memory}
use Rattle.nova_order.proofs.BlockLemmas.{merged_push, total_push, counted_push}
use Rattle.nova_order.proofs.LineLemmas.{read_line, split_line}
use Rattle.nova_order.proofs.TextLemmas.{words_of, block_of_words, no_feed_in_words, words_of_line}

last_push : (o : Option Block) (bs : List Block) (b : Block) → last_or o (bs ++ b ∷ []) ≡ Some b
last_push o [] b = refl
last_push o (x ∷ xs) b = last_push (Some x) xs b

-- a block's line is its words and a line feed
words_first : (b : Block) (rest : List ℕ) → line_of b ++ rest ≡ words_of b ++ 10 ∷ rest
words_first b rest =
    append_assoc (decimal b.cpu) (32 ∷ (decimal b.count ++ 10 ∷ [])) rest
    ∙ ap (λ bytes. decimal b.cpu ++ 32 ∷ bytes) (append_assoc (decimal b.count) (10 ∷ []) rest)
    ∙ sym (append_assoc (decimal b.cpu) (32 ∷ decimal b.count) (10 ∷ rest))

-- the line of a block that fits after others
module _ (cpus most : ℕ) (before : List Block) (b : Block) where
  judged_fits : b.cpu < cpus → 0 < b.count → is_of (last_or None before) b.cpu ≡ false → total before + b.count ≤ most → judged cpus most before (Some b) ≡ Ok b
  judged_fits cpu count other fits =
      let one : nat_le cpus b.cpu ≡ false = grind arith in
      let two : (b.count == 0) ≡ false = grind arith in
      let four : nat_lt most (total before + b.count) ≡ false = grind arith in
      rw (one, two, other, four) refl

  pub line_fits : b.cpu < 2 ^ 64 → b.count < 2 ^ 64 → b.cpu < cpus → 0 < b.count → is_of (last_or None before) b.cpu ≡ false → total before + b.count ≤ most → with_line cpus most before (words_of b) ≡ Ok (before ++ b ∷ [])
  line_fits cpu_fits count_fits cpu count other fits =
      ap (λ o. with_block before (judged cpus most before o)) (block_of_words b cpu_fits count_fits)
      ∙ ap (with_block before) (judged_fits cpu count other fits)

module _ (cpus most : ℕ) (few : cpus ≤ 2 ^ 32) where
  read_step : (before : List Block) (b : Block) (rest : List ℕ) (whole : Result (List Block) OrderFault)
      → b.cpu < cpus → b.count < 2 ^ 64 → 0 < b.count → is_of (last_or None before) b.cpu ≡ false → total before + b.count ≤ most
      → read_lines cpus most (before ++ b ∷ []) (slice_split is_line_feed rest) ≡ whole
      → read_lines cpus most before (slice_split is_line_feed (line_of b ++ rest)) ≡ whole
  read_step before b rest whole cpu count_fits count other fits is =
      let cpu_fits : b.cpu < 2 ^ 64 = omega arith in
      ap (λ bytes. read_lines cpus most before (slice_split is_line_feed bytes)) (words_first b rest)
      ∙ ap (read_lines cpus most before) (slice_split_at is_line_feed (words_of b) 10 rest (no_feed_in_words b cpu_fits count_fits) refl)
      ∙ read_line cpus most before (words_of b) (slice_split is_line_feed rest) (parts rest)
      ∙ ap (λ w. and_then w (λ more. read_lines cpus most more (slice_split is_line_feed rest))) (line_fits cpus most before b cpu_fits count_fits cpu count other fits)
      ∙ is

  pub read_back : (before bs : List Block) → list_all (λ block. nat_lt block.cpu cpus) bs ≡ true → list_all (λ block. nat_lt 0 block.count) bs ≡ true → is_merged_after (last_or None before) bs ≡ true → total before + total bs ≤ most → total before + total bs < 2 ^ 64
      → read_lines cpus most before (slice_split is_line_feed (flat_map line_of bs)) ≡ Ok (before ++ bs)
  read_back before [] cpu count merged within fits = ap Ok (sym (append-nil before))
  read_back before (b ∷ bs) cpu count merged within fits =
      let sum : total (b ∷ bs) ≡ b.count + total bs = sum_by-cons (λ block. block.count) b bs in
      let more : total (before ++ b ∷ []) ≡ total before + b.count = total_push before b in
      let last = sym (last_push None before b) in
      let rest_merged = subst (λ o. is_merged_after o bs ≡ true) last (grind arith) in
      read_step before b (flat_map line_of bs) _ (grind arith) (omega arith) (grind arith) (grind arith) (omega arith)
      (read_back (before ++ b ∷ []) bs (grind arith) (grind arith) rest_merged (omega arith) (omega arith) ∙ ap Ok (append_assoc before (b ∷ []) bs))

pub written_is_read : (blocks : List Block) (cpus most : ℕ) → cpus ≤ 2 ^ 32 → IsOrder blocks → IsTrue (is_within cpus most blocks) → order_of (text_of blocks) cpus most ≡ Ok blocks
unfolding order_of text_of
written_is_read blocks cpus most few is within =
    read_back cpus most few [] blocks (grind arith) is.counted is.merged (grind arith) (omega (arith, is.fits))

-- a block that is found fits after those before
pub record BlockFits (cpus most : ℕ) (before : List Block) (o : Option Block) (b : Block) : Type 0 where
  pub said : o ≡ Some b
  pub cpu : nat_lt b.cpu cpus ≡ true
  pub count : nat_lt 0 b.count ≡ true
  pub other : is_of (last_or None before) b.cpu ≡ false
  pub within : total before + b.count ≤ most

module _ (cpus most : ℕ) (before : List Block) (x b : Block) where
  tests_fit : (one two three four : Bool) → nat_le cpus x.cpu ≡ one → (x.count == 0) ≡ two → is_of (last_or None before) x.cpu ≡ three → nat_lt most (total before + x.count) ≡ four
      → cond one (Err (BadCpu (next_line before))) (cond two (Err (ZeroCount (next_line before))) (cond three (Err (NotMerged (next_line before))) (cond four (Err (TooMany (next_line before))) (Ok x)))) ≡ Ok b
      → BlockFits cpus most before (Some x) b
  tests_fit true two three four is_one is_two is_three is_four is = absurd cc
  tests_fit false true three four is_one is_two is_three is_four is = absurd cc
  tests_fit false false true four is_one is_two is_three is_four is = absurd cc
  tests_fit false false false true is_one is_two is_three is_four is = absurd cc
  tests_fit false false false false is_one is_two is_three is_four is =
      let same : x ≡ b = cc in
      let P : Block → Type 0 = λ y. BlockFits cpus most before (Some x) y in
      subst P same (record { said = refl; cpu = grind arith; count = grind arith; other = is_three; within = grind arith })

judged_ok : (cpus most : ℕ) (before : List Block) (o : Option Block) (b : Block) → judged cpus most before o ≡ Ok b → BlockFits cpus most before o b
judged_ok cpus most before None b is = absurd cc
judged_ok cpus most before (Some x) b is = tests_fit cpus most before x b _ _ _ _ refl refl refl refl is

-- what holds of blocks that were read
pub record AreRead (cpus most : ℕ) (blocks : List Block) : Type 0 where
  pub cpu : list_all (λ block. nat_lt block.cpu cpus) blocks ≡ true
  pub counted : list_all (λ block. nat_lt 0 block.count) blocks ≡ true
  pub merged : is_merged_after None blocks ≡ true
  pub within : total blocks ≤ most

module _ (cpus most : ℕ) where
  read_push : (before : List Block) (o : Option Block) (b : Block) → AreRead cpus most before → BlockFits cpus most before o b → AreRead cpus most (before ++ b ∷ [])
  read_push before o b are fits = record {
    cpu = grind (arith, list_all-append (λ block. nat_lt block.cpu cpus) before (b ∷ []), are.cpu, fits.cpu);
    counted = grind (arith, counted_push before b, are.counted, fits.count);
    merged = grind (arith, merged_push None before b, are.merged, fits.other);
    within = omega (arith, total_push before b, fits.within);
  }

  -- the blocks before with the text that is left are the blocks of the whole
  abbrev Reads : List Block → List ℕ → List Block → Type 0
  Reads before left blocks = (flat_map line_of before ++ left ≡ flat_map line_of blocks) × AreRead cpus most blocks

  reads_none : (before blocks : List Block) → before ≡ blocks → AreRead cpus most before → Reads before [] blocks
  reads_none before blocks same are = (append-nil (flat_map line_of before) ∙ ap (flat_map line_of) same, subst (AreRead cpus most) same are)

  reads_rest : (before blocks : List Block) (rest : List ℕ) → ended before rest ≡ Ok blocks → AreRead cpus most before → Reads before rest blocks
  reads_rest before blocks [] is are = reads_none before blocks (cc) are
  reads_rest before blocks (b ∷ bs) is are = absurd cc

  reads_line : (before blocks : List Block) (line left : List ℕ) (b : Block) → block_of line ≡ Some b → Reads (before ++ b ∷ []) left blocks → Reads before (line ++ 10 ∷ left) blocks
  reads_line before blocks line left b said reads =
      let words = words_of_line line b said in (
        ap (λ bytes. flat_map line_of before ++ (bytes ++ 10 ∷ left)) words
            ∙ ap (λ bytes. flat_map line_of before ++ bytes) (sym (words_first b left))
            ∙ sym (append_assoc (flat_map line_of before) (line_of b) left)
            ∙ ap (λ bytes. bytes ++ left) (sym (flat_map-append line_of before (b ∷ []) ∙ ap (λ bytes. flat_map line_of before ++ bytes) (append-nil (line_of b))))
            ∙ reads.0,
        reads.1,
      )

  reads_judged : (before blocks : List Block) (line left : List ℕ) (next : List Block → Result (List Block) OrderFault) (r : Result Block OrderFault)
      → judged cpus most before (block_of line) ≡ r → and_then (with_block before r) next ≡ Ok blocks → AreRead cpus most before
      → ((more : List Block) → next more ≡ Ok blocks → AreRead cpus most more → Reads more left blocks)
      → Reads before (line ++ 10 ∷ left) blocks
  reads_judged before blocks line left next (Err fault) is_r is are rest = absurd cc
  reads_judged before blocks line left next (Ok b) is_r is are rest =
      let fits = judged_ok cpus most before (block_of line) b is_r in
      reads_line before blocks line left b fits.said (rest (before ++ b ∷ []) is (read_push before (block_of line) b are fits))

  pub reads : (before blocks : List Block) (ps : List (List ℕ)) → read_lines cpus most before ps ≡ Ok blocks → AreRead cpus most before → Reads before (join_with_byte 10 ps) blocks
  reads before blocks [] is are = reads_none before blocks (cc) are
  reads before blocks (rest ∷ []) is are = reads_rest before blocks rest is are
  reads before blocks (line ∷ next ∷ lines) is are =
      reads_judged before blocks line (join_with_byte 10 (next ∷ lines)) (λ more. read_lines cpus most more (next ∷ lines)) _ refl is are (λ more. reads more blocks (next ∷ lines))

  read_none : AreRead cpus most []
  read_none = record { cpu = refl; counted = refl; merged = refl; within = omega arith }

module _ (bytes : List ℕ) (cpus most : ℕ) (blocks : List Block) (is : order_of bytes cpus most ≡ Ok blocks) where
  read_whole : Reads cpus most [] (join_with_byte 10 (slice_split is_line_feed bytes)) blocks
  unfolding order_of
  read_whole = reads cpus most [] blocks (slice_split is_line_feed bytes) is (read_none cpus most)

  pub read_was_written : bytes ≡ text_of blocks
  unfolding text_of
  read_was_written = sym (join_with_byte-slice_split 10 bytes) ∙ read_whole.0

  pub read_is_order : most < 2 ^ 64 → IsOrder blocks
  read_is_order small = let are = read_whole.1 in record { counted = are.counted; merged = are.merged; fits = omega (arith, are.within) }

  pub read_is_within : IsTrue (is_within cpus most blocks)
  read_is_within = let are = read_whole.1 in let all = are.cpu in let few = are.within in grind arith

-- WHEN MEMORY IS WANTED

-- a line at fault wants none
tests_known : (one two three four : Bool) (number : ℕ) (x : Block)
    → cond one (Err (BadCpu number)) (cond two (Err (ZeroCount number)) (cond three (Err (NotMerged number)) (cond four (Err (TooMany number)) (Ok x)))) ≡ Err Memory → ⊥
tests_known true two three four number x is = absurd cc
tests_known false true three four number x is = absurd cc
tests_known false false true four number x is = absurd cc
tests_known false false false true number x is = absurd cc
tests_known false false false false number x is = absurd cc

pub judged_known : (cpus most : ℕ) (before : List Block) (o : Option Block) → judged cpus most before o ≡ Err Memory → ⊥
judged_known cpus most before None is = absurd cc
judged_known cpus most before (Some x) is =
    tests_known (nat_le cpus x.cpu) (x.count == 0) (is_of (last_or None before) x.cpu) (nat_lt most (total before + x.count)) (next_line before) x is

-- a first line that says a block
module _ (cpus most : ℕ) (bytes line after : List ℕ) (within : position_or_len is_line_feed bytes < length bytes) (is_line : line ≡ before_first is_line_feed bytes) (is_after : after ≡ after_first is_line_feed bytes) where
  joined : Parts (slice_split is_line_feed after) → join_with_byte 10 (line ∷ slice_split is_line_feed after) ≡ line ++ 10 ∷ join_with_byte 10 (slice_split is_line_feed after)
  joined some = rw some.are refl

  first_of_bytes : bytes ≡ line ++ 10 ∷ join_with_byte 10 (slice_split is_line_feed after)
  first_of_bytes =
      sym (join_with_byte-slice_split 10 bytes) ∙ ap (join_with_byte 10) (split_line bytes line after within is_line is_after) ∙ joined (parts after)

  begins_by : (r : Result Block OrderFault) → judged cpus most [] (block_of line) ≡ r → IsOk r → BeginsWell bytes cpus most
  begins_by (Err fault) is ok = absurd (cc)
  begins_by (Ok b) is ok =
      let said = (judged_ok cpus most [] (block_of line) b is).said in
      let left = join_with_byte 10 (slice_split is_line_feed after) in
      record {
        block = b;
        rest = left;
        whole = first_of_bytes ∙ ap (λ words. words ++ 10 ∷ left) (words_of_line line b said) ∙ sym (words_first b left);
        fits = ap (judged cpus most []) (sym said) ∙ is;
      }

-- no line was read yet, or the first was good
abbrev pub HasBegun : List ℕ → ℕ → ℕ → List Block → List ℕ → Type 0
HasBegun bytes cpus most blocks rest = ((blocks ≡ []) × (rest ≡ bytes)) ⊎ BeginsWell bytes cpus most

pub begun : (bytes : List ℕ) (cpus most : ℕ) (blocks : List Block) (rest line after : List ℕ) → HasBegun bytes cpus most blocks rest
    → position_or_len is_line_feed rest < length rest → line ≡ before_first is_line_feed rest → after ≡ after_first is_line_feed rest
    → IsOk (judged cpus most blocks (block_of line)) → BeginsWell bytes cpus most
begun bytes cpus most blocks rest line after (inl (none, same)) within is_line is_after ok =
    subst (λ text. BeginsWell text cpus most) same
    (begins_by cpus most rest line after within is_line is_after _ refl (subst (λ before. IsOk (judged cpus most before (block_of line))) none ok))
begun bytes cpus most blocks rest line after (inr well) within is_line is_after ok = well

pub line_read : (cpus most : ℕ) (before more : List Block) (line : List ℕ) → with_line cpus most before line ≡ Ok more → IsOk (judged cpus most before (block_of line))
line_read cpus most before more line is = by_block (judged cpus most before (block_of line)) is
  where
    by_block : (r : Result Block OrderFault) → with_block before r ≡ Ok more → IsOk r
    by_block (Err fault) e = absurd (cc)
    by_block (Ok b) e = refl
