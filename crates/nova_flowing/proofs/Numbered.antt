-- Lines and entries by number, from 0 on, and of tables the lengths.
use Rattle.std.proofs.Common.{◌≡◌, ℕ, suc, ◌+◌, ◌-◌, ◌<◌, List, [], ◌∷◌, ◌++◌, flat_map, map, length, refl, ap, sym, ◌∙◌, arith, append_assoc}
use Rattle.std.specs.List.{enumerate_from, range_with_len}

pub one_more : (f : ℕ → List ℕ) (n count : ℕ) (before after whole : List ℕ) → n < count → after ≡ before ++ f n → before ++ flat_map f (range_with_len n (count - n)) ≡ whole
    → after ++ flat_map f (range_with_len (n + 1) (count - (n + 1))) ≡ whole
one_more f n count before after whole more wrote left =
    let step : count - n ≡ suc (count - (n + 1)) = omega arith in
    ap (λ xs. xs ++ flat_map f (range_with_len (n + 1) (count - (n + 1)))) wrote
    ∙ append_assoc before (f n) (flat_map f (range_with_len (n + 1) (count - (n + 1))))
    ∙ sym (ap (λ m. before ++ flat_map f (range_with_len n m)) step) ∙ left

pub one_mapped : {X : Type 0} (f : ℕ → X) (n count : ℕ) (before after whole : List X) → n < count → after ≡ before ++ f n ∷ [] → before ++ map f (range_with_len n (count - n)) ≡ whole
    → after ++ map f (range_with_len (n + 1) (count - (n + 1))) ≡ whole
one_mapped {X} f n count before after whole more wrote left =
    let step : count - n ≡ suc (count - (n + 1)) = omega arith in
    ap (λ (xs : List X). xs ++ map f (range_with_len (n + 1) (count - (n + 1)))) wrote
    ∙ append_assoc before (f n ∷ []) (map f (range_with_len (n + 1) (count - (n + 1))))
    ∙ sym (ap (λ (m : ℕ). before ++ map f (range_with_len n m)) step) ∙ left

pub mapped_length : {X Y : Type 0} (f : X → Y) (xs : List X) → length (map f xs) ≡ length xs
mapped_length f [] = refl
mapped_length f (x ∷ xs) = ap suc (mapped_length f xs)

pub numbered_length : {X : Type 0} (n : ℕ) (xs : List X) → length (enumerate_from n xs) ≡ length xs
numbered_length n [] = refl
numbered_length n (x ∷ xs) = ap suc (numbered_length (n + 1) xs)
