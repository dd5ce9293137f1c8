-- Writes of which each leaves the sink as it was.
use Rattle.std.proofs.Common.{◌≡◌, ℕ, List, Result, Ok, Err, OnOk, refl, ◌∙◌}
use Rattle.nova_io.specs.Taken.{Went, WentWhole, Nothing, Piece}

went_nowhere : {T : Type 0} → (bytes : List ℕ) → (first : T) → (n : ℕ) → (last : T) → Went (λ before _ _ after. after ≡ before) bytes first n last → last ≡ first
went_nowhere bytes first n last Nothing = refl
went_nowhere bytes first n last (Piece done count between end went some same) = same ∙ went_nowhere bytes first done between went

pub unchanged : {T A E : Type 0} → (r : Result A E) → (bytes : List ℕ) → (first last : T) → OnOk r (WentWhole (λ before _ _ after. after ≡ before) bytes first last) → OnOk r (last ≡ first)
unchanged (Ok a) bytes first last went = went_nowhere bytes first _ last went
unchanged (Err e) bytes first last went = tt
