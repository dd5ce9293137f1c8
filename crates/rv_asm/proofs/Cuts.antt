-- A text is cut at its first comma.
use Rattle.std.proofs.Common.{◌≡◌, ℕ, ◌+◌, ◌-◌, ◌<◌, ◌≤◌, Bool, true, false, List, [], ◌∷◌, length, take, drop, refl, ap, sym, ◌∙◌, length-drop, arith}
use Rattle.std.proofs.Math.Seq.{drop-drop}
use Rattle.std.proofs.lemmas.Grind.{common_steps}
use Rattle.std.specs.List.{position_or_len, slice_split, onto_first}
use Rattle.std.proofs.lemmas.List.Splits.{slice_split-cons_no, slice_split_first}
use Rattle.nova_text.specs.Piece.{pieces_from}

-- where no element passes, the list is the only part
pub no_cut : (p : ℕ → Bool) (bs : List ℕ) → length bs ≤ position_or_len p bs → slice_split p bs ≡ bs ∷ []
no_cut p [] le = refl
no_cut p (b ∷ bs) le = go (p b) refl (no_cut p bs) where
  go : (v : Bool) → p b ≡ v → (length bs ≤ position_or_len p bs → slice_split p bs ≡ bs ∷ []) → slice_split p (b ∷ bs) ≡ (b ∷ bs) ∷ []
  go true is rest = absurd (let none : position_or_len p (b ∷ bs) ≡ 0 = rw is refl in omega arith)
  go false is rest =
      let more : position_or_len p (b ∷ bs) ≡ 1 + position_or_len p bs = rw is refl in
      slice_split-cons_no p b bs is ∙ ap (onto_first b) (rest (omega arith))

take_all : (n : ℕ) (bs : List ℕ) → length bs ≤ n → take n bs ≡ bs
take_all n bs le = grind (arith, common_steps)

take_rest : (bs : List ℕ) → take (length bs - 1) (drop 1 bs) ≡ drop 1 bs
take_rest bs = take_all (length bs - 1) (drop 1 bs) (let e = length-drop 1 bs in omega arith)

drop_more : (n : ℕ) (bs : List ℕ) → drop 1 (drop n bs) ≡ drop (n + 1) bs
drop_more n bs = drop-drop 1 n bs

module _ (p : ℕ → Bool) (start n : ℕ) (bs : List ℕ) (is_n : n ≡ position_or_len p bs) where
  pub pieces-cut : n < length bs → pieces_from start (slice_split p bs) ≡ record { text = take n bs; span = record { start = start; end = start + length (take n bs) } } ∷ pieces_from (start + length (take n bs) + 1) (slice_split p (drop (n + 1) bs))
  pieces-cut less =
      let inside : position_or_len p bs < length bs = omega arith in
      ap (pieces_from start) (slice_split_first p bs 0 inside)
      ∙ ap (λ k. record { text = take k bs; span = record { start = start; end = start + length (take k bs) } } ∷ pieces_from (start + length (take k bs) + 1) (slice_split p (drop (k + 1) bs))) (sym is_n)

  pub pieces-whole : length bs ≤ n → pieces_from start (slice_split p bs) ≡ record { text = bs; span = record { start = start; end = start + length bs } } ∷ []
  pieces-whole le = let all : length bs ≤ position_or_len p bs = omega arith in ap (pieces_from start) (no_cut p bs all)

  -- the same of a text that was split there
  pub cut_whole : (text : List ℕ) → text ≡ take n bs → length bs ≤ n → pieces_from start (slice_split p bs) ≡ record { text = text; span = record { start = start; end = start + length text } } ∷ []
  cut_whole text is_text le =
      let all : text ≡ bs = is_text ∙ take_all n bs le in
      pieces-whole le ∙ ap (λ t. record { text = t; span = record { start = start; end = start + length t } } ∷ []) (sym all)

  pub cut_first : (text after : List ℕ) → text ≡ take n bs → after ≡ drop n bs → n < length bs → pieces_from start (slice_split p bs) ≡ record { text = text; span = record { start = start; end = start + length text } } ∷ pieces_from (start + length text + 1) (slice_split p (take (length after - 1) (drop 1 after)))
  cut_first text after is_text is_after less =
      let rest : take (length after - 1) (drop 1 after) ≡ drop (n + 1) bs = take_rest after ∙ ap (drop 1) is_after ∙ drop_more n bs in
      pieces-cut less
      ∙ ap (λ t. record { text = t; span = record { start = start; end = start + length t } } ∷ pieces_from (start + length t + 1) (slice_split p (drop (n + 1) bs))) (sym is_text)
      ∙ ap (λ r. record { text = text; span = record { start = start; end = start + length text } } ∷ pieces_from (start + length text + 1) (slice_split p r)) (sym rest)
