-- Lists that a rule makes, by their numbers.
use Rattle.std.proofs.Common.{◌≡◌, ◌<◌, ◌≤◌, ◌⊎◌, inl, inr, ℕ, zero, suc, ◌+◌, List, [], ◌∷◌, length, get_or, set, ◌==◌, if◌then◌else◌, refl, sym, ap, ◌∙◌, arith}
use Rattle.std.proofs.lemmas.Bool.{cases_eq, cases_lt}
use Rattle.std.proofs.lemmas.Bool.Decides.{nat_tests}
use Rattle.std.proofs.lemmas.List.{same_lists, get_or_past, length-set, get_or-set_same, get_or-set_other}
use Rattle.nova_utcb.specs.Messages.{ruled_from, ruled}

length_from : (rule : ℕ → ℕ → ℕ) (n : ℕ) (ws : List ℕ) → length (ruled_from rule n ws) ≡ length ws
length_from rule n [] = refl
length_from rule n (w ∷ ws) = ap suc (length_from rule (suc n) ws)

pub length_ruled : (rule : ℕ → ℕ → ℕ) (ws : List ℕ) → length (ruled rule ws) ≡ length ws
length_ruled rule ws = length_from rule 0 ws

get_from : (rule : ℕ → ℕ → ℕ) (n : ℕ) (ws : List ℕ) (i d : ℕ) → i < length ws → get_or (ruled_from rule n ws) i d ≡ rule (n + i) (get_or ws i d)
get_from rule n [] i d within = absurd (omega arith)
get_from rule n (w ∷ ws) zero d within = ap (λ k. rule k w) (omega arith)
get_from rule n (w ∷ ws) (suc i) d within =
    get_from rule (suc n) ws i d (omega arith) ∙ ap (λ k. rule k (get_or ws i d)) (omega arith)

pub get_ruled : (rule : ℕ → ℕ → ℕ) (ws : List ℕ) (i d : ℕ) → i < length ws → get_or (ruled rule ws) i d ≡ rule i (get_or ws i d)
get_ruled rule ws i d within = get_from rule 0 ws i d within ∙ ap (λ k. rule k (get_or ws i d)) (omega arith)

-- a list is `ruled rule ws` where each of its words is as the rule says
pub is_ruled : (rule : ℕ → ℕ → ℕ) (ws xs : List ℕ) → length xs ≡ length ws → ((i d : ℕ) → i < length ws → get_or xs i d ≡ rule i (get_or ws i d)) → xs ≡ ruled rule ws
is_ruled rule ws xs size each =
    same_lists xs (ruled rule ws) (size ∙ sym (length_ruled rule ws)) (λ i d within. each i d (omega (arith, within, size)) ∙ sym (get_ruled rule ws i d (omega (arith, within, size))))

-- rules that agree make the same
pub ruled_alike : (f g : ℕ → ℕ → ℕ) (ws : List ℕ) → ((i w : ℕ) → f i w ≡ g i w) → ruled f ws ≡ ruled g ws
ruled_alike f g ws alike = is_ruled g ws (ruled f ws) (length_ruled f ws) (λ i d within. get_ruled f ws i d within ∙ alike i (get_or ws i d))

-- a rule that keeps each word
pub ruled_same : (f : ℕ → ℕ → ℕ) (ws : List ℕ) → ((i w : ℕ) → f i w ≡ w) → ws ≡ ruled f ws
ruled_same f ws same = is_ruled f ws ws refl (λ i d within. sym (same i (get_or ws i d)))

-- one rule after another
pub ruled_then : (f g : ℕ → ℕ → ℕ) (ws : List ℕ) → ruled g (ruled f ws) ≡ ruled (λ i w. g i (f i w)) ws
ruled_then f g ws =
    is_ruled (λ i w. g i (f i w)) ws (ruled g (ruled f ws)) (length_ruled g (ruled f ws) ∙ length_ruled f ws)
    (λ i d within. get_ruled g (ruled f ws) i d (omega (arith, within, length_ruled f ws)) ∙ ap (g i) (get_ruled f ws i d within))

-- a word that is put in
pub set_ruled : (ws : List ℕ) (k v : ℕ) → set ws k v ≡ ruled (λ i w. if i == k then v else w) ws
set_ruled ws k v =
    is_ruled (λ i w. if i == k then v else w) ws (set ws k v) (length-set ws k v)
    (λ i d within. grind (arith, nat_tests, cases_eq i k, get_or-set_same ws k v d, get_or-set_other ws k i v d))

-- a word that is put in after a rule
pub set_then : (f : ℕ → ℕ → ℕ) (ws : List ℕ) (k v : ℕ) → set (ruled f ws) k v ≡ ruled (λ i w. if i == k then v else f i w) ws
set_then f ws k v = set_ruled (ruled f ws) k v ∙ ruled_then f (λ i w. if i == k then v else w) ws

-- a word that the rule keeps, wherever it is
pub get_kept : (f : ℕ → ℕ → ℕ) (ws : List ℕ) (i : ℕ) → ((w : ℕ) → f i w ≡ w) → get_or (ruled f ws) i 0 ≡ get_or ws i 0
get_kept f ws i keeps = by_end (cases_lt i (length ws)) where
  by_end : (i < length ws) ⊎ (length ws ≤ i) → get_or (ruled f ws) i 0 ≡ get_or ws i 0
  by_end (inl within) = get_ruled f ws i 0 within ∙ keeps (get_or ws i 0)
  by_end (inr past) = get_or_past (ruled f ws) i 0 (omega (arith, past, length_ruled f ws)) ∙ sym (get_or_past ws i 0 past)

-- words that the rule gives below a bound
pub get_below : (f : ℕ → ℕ → ℕ) (ws : List ℕ) (n : ℕ) → 0 < n → ((i : ℕ) → f i (get_or ws i 0) < n) → (i : ℕ) → get_or (ruled f ws) i 0 < n
get_below f ws n some below i = by_end (cases_lt i (length ws)) where
  by_end : (i < length ws) ⊎ (length ws ≤ i) → get_or (ruled f ws) i 0 < n
  by_end (inl within) = let e = get_ruled f ws i 0 within in let x = below i in omega (arith, e, x)
  by_end (inr past) = let e = get_or_past (ruled f ws) i 0 (omega (arith, past, length_ruled f ws)) in omega (arith, e, some)
