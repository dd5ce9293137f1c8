-- A line that is written over from some place on.
use Rattle.std.proofs.Common.{◌≡◌, ◌∙◌, ap, sym, ℕ, ◌+◌, ◌-◌, ◌≤◌, List, ◌++◌, length, take, drop, arith, take-take}
use Rattle.std.proofs.Math.Seq.{drop-append_seam, drop-append-add, take-append-add}
use Rattle.std.proofs.lemmas.List.{drop-drop, drop-take}

-- what is left where more is taken away
pub further : (bytes : List ℕ) (start room end : ℕ) → start ≤ room → room ≤ end →
    take (end - room) (drop room bytes) ≡ drop (room - start) (take (end - start) (drop start bytes))
further bytes start room end more within =
    let all : start + (room - start) ≡ room = omega (arith, more) in
    let long : end - start ≡ (room - start) + (end - room) = omega (arith, more, within) in
    ap (λ (n : ℕ). take (end - room) (drop n bytes)) (sym all)
    ∙ ap (λ (xs : List ℕ). take (end - room) xs) (sym (drop-drop (room - start) start bytes))
    ∙ sym (drop-take (room - start) (end - room) (drop start bytes))
    ∙ ap (λ (n : ℕ). drop (room - start) (take n (drop start bytes))) (sym long)

-- what was put before a text that ends at some place
pub before : (new old some : List ℕ) (start rest end : ℕ) → drop start new ≡ some ++ drop rest old → start + length some ≡ rest → rest ≤ end →
    take (end - start) (drop start new) ≡ some ++ take (end - rest) (drop rest old)
before new old some start rest end is long within =
    let more : end - start ≡ length some + (end - rest) = omega (arith, long, within) in
    ap (λ (n : ℕ). take n (drop start new)) more ∙ ap (λ (xs : List ℕ). take (length some + (end - rest)) xs) is
    ∙ take-append-add some (drop rest old) (end - rest)

-- a block was added, of which less than all stays
pub cut : (out block : List ℕ) (long size : ℕ) → long ≤ size → take (length out + long) (out ++ take size block) ≡ out ++ take long block
cut out block long size within =
    take-append-add out (take size block) long ∙ ap (λ (xs : List ℕ). out ++ xs) (take-take long size block within)

-- what stood before two texts came before it
pub behind : (all some rest a b : List ℕ) (room after : ℕ) → all ≡ a ++ some → some ≡ b ++ rest → after + length b + length a ≡ room → drop (room - after) all ≡ rest
behind all some rest a b room after first second long =
    let count : room - after ≡ length a + length b = omega (arith, long) in
    ap (λ (n : ℕ). drop n all) count
    ∙ ap (λ (xs : List ℕ). drop (length a + length b) xs) (first ∙ ap (λ (xs : List ℕ). a ++ xs) second)
    ∙ drop-append-add a (b ++ rest) (length b)
    ∙ drop-append_seam b rest
