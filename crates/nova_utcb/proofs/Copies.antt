-- A message copied by its two parts: word 0, and the data words from word 4 on.
use Rattle.std.proofs.Common.{◌≡◌, ◌≤◌, ◌<◌, ℕ, ◌+◌, ◌&&◌, nat_le, nat_lt, List, length, get_or, set, take, drop, if◌then◌else◌, ◌∙◌, rules, arith}
use borrow.Rule.Slice.PartMut.{put_mid}
use Rattle.std.proofs.lemmas.List.{places, length-set, get_or-set_same, get_or-set_other, get_or_default}
use Rattle.std.proofs.lemmas.Bool.{cases_eq}
use Rattle.std.proofs.lemmas.Bool.Decides.{nat_tests}
use Rattle.nova_utcb.specs.Messages.{word, untyped, is_given, copied}
use Rattle.nova_utcb.proofs.Ruled.{is_ruled}

-- a list with words that were put over a part of it by those of another
size_over : (a n : ℕ) (xs ys : List ℕ) → a + n ≤ length xs → a + n ≤ length ys → length (put_mid a n xs (take n (drop a ys))) ≡ length xs
size_over a n xs ys inside there = search (rules, places)

word_over : (a n : ℕ) (xs ys : List ℕ) (i d : ℕ) → a + n ≤ length xs → a + n ≤ length ys → i < length xs → get_or (put_mid a n xs (take n (drop a ys))) i d ≡ (if nat_le a i && nat_lt i (a + n) then get_or ys i d else get_or xs i d)
word_over a n xs ys i d inside there within = grind (arith, places, nat_tests)

each : (from to : List ℕ) (n : ℕ) → length from ≡ 128 → length to ≡ 128 → n ≡ untyped from → n ≤ 124 → (i d : ℕ) → i < length to → get_or (put_mid 4 n (set to 0 (word from 0)) (take n (drop 4 from))) i d ≡ (if is_given from i then word from i else get_or to i d)
each from to n a b e most i d within =
    word_over 4 n (set to 0 (word from 0)) from i d (omega (arith, length-set to 0 (word from 0))) (omega arith) (omega (arith, length-set to 0 (word from 0)))
    ∙ by_number
  where
    by_number : (if nat_le 4 i && nat_lt i (4 + n) then get_or from i d else get_or (set to 0 (word from 0)) i d) ≡ (if is_given from i then word from i else get_or to i d)
    by_number = grind (arith, nat_tests, cases_eq i 0, get_or_default from i 0 d, get_or-set_same to 0 (word from 0) d, get_or-set_other to 0 i (word from 0) d)

pub copied_by_parts : (from to : List ℕ) (n : ℕ) → length from ≡ 128 → length to ≡ 128 → n ≡ untyped from → n ≤ 124 → put_mid 4 n (set to 0 (word from 0)) (take n (drop 4 from)) ≡ copied from to
unfolding copied
copied_by_parts from to n a b e most =
    is_ruled (λ i stays. if is_given from i then word from i else stays) to (put_mid 4 n (set to 0 (word from 0)) (take n (drop 4 from)))
    (size_over 4 n (set to 0 (word from 0)) from (omega (arith, length-set to 0 (word from 0))) (omega arith) ∙ length-set to 0 (word from 0))
    (each from to n a b e most)
