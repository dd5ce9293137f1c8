-- Lines by number, from 0 on.
use Rattle.std.proofs.Common.{◌≡◌, ℕ, suc, ◌+◌, ◌-◌, ◌<◌, List, ◌++◌, flat_map, ap, sym, ◌∙◌, arith, append_assoc}
use Rattle.std.specs.List.{range_with_len}

pub one_more : (f : ℕ → List ℕ) (n count end : ℕ) (before after whole : List ℕ) → n < end → end ≡ count → after ≡ before ++ f n → before ++ flat_map f (range_with_len n (count - n)) ≡ whole
    → after ++ flat_map f (range_with_len (n + 1) (count - (n + 1))) ≡ whole
one_more f n count end before after whole more same wrote left =
    let step : count - n ≡ suc (count - (n + 1)) = omega arith in
    ap (λ xs. xs ++ flat_map f (range_with_len (n + 1) (count - (n + 1)))) wrote
    ∙ append_assoc before (f n) (flat_map f (range_with_len (n + 1) (count - (n + 1))))
    ∙ sym (ap (λ m. before ++ flat_map f (range_with_len n m)) step) ∙ left
