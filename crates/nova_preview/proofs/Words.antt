-- The words that a reply tells, one by one.
use Rattle.std.proofs.Common.{◌≡◌, ◌<◌, ℕ, zero, suc, ◌+◌, List, [], ◌∷◌, length, take, drop, refl, sym, ap, ap₂, ◌∙◌, arith}
use Rattle.std.specs.Prelude.{slice_set}
use Rattle.std.proofs.Math.Seq.{take-length}
use Rattle.std.proofs.lemmas.List.{length-drop, length-take}
use Rattle.nova_model.specs.Inputs.{reply_word, reply_words, words_from}

pub words_length : (w : ℕ → ℕ) (n : ℕ) (ms : List ℕ) → length (words_from w n ms) ≡ length ms
words_length w n [] = refl
words_length w n (m ∷ ms) = ap suc (words_length w (n + 1) ms)

words_next : (w : ℕ → ℕ) (n i : ℕ) (ms ws : List ℕ) → i < length ms → length ws ≡ length ms → take i ws ≡ take i (words_from w n ms) →
    take (suc i) (slice_set ws i (w (n + i))) ≡ take (suc i) (words_from w n ms)
words_next w n i [] ws low same were = absurd (omega (arith, low))
words_next w n i (m ∷ ms) [] low same were = absurd (omega (arith, same))
words_next w n zero (m ∷ ms) (x ∷ ws) low same were = let e : n + zero ≡ n = omega arith in ap (λ j. w j ∷ []) e
words_next w n (suc i) (m ∷ ms) (x ∷ ws) low same were =
    let e : n + suc i ≡ n + 1 + i = omega arith in
    let first : x ≡ w n = cc in
    let rest : take i ws ≡ take i (words_from w (n + 1) ms) = cc in
    ap (λ j. x ∷ take (suc i) (slice_set ws i (w j))) e
    ∙ ap₂ (λ (y : ℕ) (ys : List ℕ). y ∷ ys) first (words_next w (n + 1) i ms ws (omega (arith, low)) (omega (arith, same)) rest)

-- how many there are
pub told_length : (m : List ℕ) → length m ≡ 128 → length (take 33 (drop 7 m)) ≡ 33
told_length m whole = let taken = length-take 33 (drop 7 m) in let left = length-drop 7 m in grind (arith, whole, taken, left)

-- one more is told
pub told_more : (m ws : List ℕ) (i value : ℕ) → length m ≡ 128 → i < 33 → length ws ≡ 33 → value ≡ reply_word m (7 + i) → take i ws ≡ take i (reply_words m) →
    take (i + 1) (slice_set ws i value) ≡ take (i + 1) (reply_words m)
told_more m ws i value whole low same is were =
    let many = told_length m whole in
    let e : suc i ≡ i + 1 = omega arith in
    ap (λ v. take (i + 1) (slice_set ws i v)) is
    ∙ ap (λ n. take n (slice_set ws i (reply_word m (7 + i)))) (sym e)
    ∙ words_next (reply_word m) 7 i (take 33 (drop 7 m)) ws (omega (arith, low, many)) (same ∙ sym many) were
    ∙ ap (λ n. take n (reply_words m)) e

-- all are
pub told_all : (m ws : List ℕ) → length m ≡ 128 → length ws ≡ 33 → take 33 ws ≡ take 33 (reply_words m) → ws ≡ reply_words m
told_all m ws whole same were =
    let all : length (reply_words m) ≡ 33 = words_length (reply_word m) 7 (take 33 (drop 7 m)) ∙ told_length m whole in
    sym (take-length ws) ∙ ap (λ n. take n ws) same ∙ were ∙ ap (λ n. take n (reply_words m)) (sym all) ∙ take-length (reply_words m)
