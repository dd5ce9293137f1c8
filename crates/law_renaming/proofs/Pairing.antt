-- Pairs of frames one after another join one by one.
use Rattle.std.proofs.Common.{◌≡◌, ℕ, suc, ◌+◌, ◌-◌, ◌<◌, ◌≢◌, List, [], ◌∷◌, ◌++◌, length, ap, ◌∙◌, refl, arith}
use Rattle.std.specs.Prelude.{Bool, true, false, ◌&&◌, Some, None, option_and_then, if◌then◌else◌}
use Rattle.nova_guest.specs.declared.guest.Guest.{Guest}
use Rattle.nova_guest.specs.declared.map.Map.{Map}
use Rattle.law_renaming.specs.Forced.{alike_map, alike_maps, among, paired}
use Rattle.law_renaming.specs.Walks.{can_join, joined}

pub joined_cons : (u v : Guest) (met : List (ℕ × ℕ)) (p : ℕ × ℕ) (ps : List (ℕ × ℕ)) →
    joined u v met (p ∷ ps) ≡ option_and_then (λ m. joined u v m ps) (joined u v met (p ∷ []))
joined_cons u v met p ps = by_tests (among met p.0 p.1) (can_join u v met p)
  where
    by_tests : (t c : Bool) → (if t then joined u v met ps else (if c then joined u v (met ++ (p ∷ [])) ps else None))
        ≡ option_and_then (λ m. joined u v m ps) (if t then Some met else (if c then Some (met ++ (p ∷ [])) else None))
    by_tests true c = refl
    by_tests false true = refl
    by_tests false false = refl

paired_next : (count a b i : ℕ) → i < count → paired (count - i) (a + i) (b + i) ≡ (a + i, b + i) ∷ paired (count - (i + 1)) (a + (i + 1)) (b + (i + 1))
paired_next count a b i within =
    let n : count - i ≡ suc (count - (i + 1)) = omega (arith, within) in
    let x : (a + i) + 1 ≡ a + (i + 1) = omega arith in
    let y : (b + i) + 1 ≡ b + (i + 1) = omega arith in
    ap (λ (m : ℕ). paired m (a + i) (b + i)) n ∙ (rw (x, y) refl)

pub joined_next : (u v : Guest) (met : List (ℕ × ℕ)) (count a b i : ℕ) → i < count →
    joined u v met (paired (count - i) (a + i) (b + i))
    ≡ option_and_then (λ m. joined u v m (paired (count - (i + 1)) (a + (i + 1)) (b + (i + 1)))) (joined u v met ((a + i, b + i) ∷ []))
joined_next u v met count a b i within =
    ap (joined u v met) (paired_next count a b i within) ∙ joined_cons u v met (a + i, b + i) (paired (count - (i + 1)) (a + (i + 1)) (b + (i + 1)))

-- maps that are not as many aren't alike
and_fails : (x : Bool) → (x && false) ≡ false
and_fails true = refl
and_fails false = refl

pub unlike_many : (ms ns : List Map) → length ms ≢ length ns → alike_maps ms ns ≡ false
unlike_many [] [] many = absurd (many refl)
unlike_many [] (n ∷ ns) many = refl
unlike_many (m ∷ ms) [] many = refl
unlike_many (m ∷ ms) (n ∷ ns) many = ap (λ (t : Bool). alike_map m n && t) (unlike_many ms ns (λ e. many (ap suc e))) ∙ and_fails (alike_map m n)
