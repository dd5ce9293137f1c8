-- One piece offered after another.
use Rattle.std.proofs.Common.{◌≡◌, ℕ, ◌+◌, ◌-◌, ◌<◌, List, take, drop, length, sym, subst}
use Rattle.std.proofs.lemmas.List.{take_rest}
use Rattle.nova_io.specs.Taken.{Took, TakeFailed, Went, Nothing, Piece, WentWhole, WentInPart}

module _ {T : Type 0} (took : Took T) (bytes : List ℕ) (first : T) where
  pub Went-none : (done : ℕ) → done ≡ 0 → Went took bytes first done first
  Went-none done none = subst (λ n. Went took bytes first n first) (sym none) Nothing

  -- a turn of a loop
  pub Went-more : (between last : T) (done count : ℕ) → Went took bytes first done between
      → 0 < count → took between (take (length bytes - done) (drop done bytes)) count last
      → Went took bytes first (done + count) last
  Went-more between last done count went some more =
      Piece done count between last went some (subst (λ rest. took between rest count last) (take_rest bytes done) more)

  -- the end of a loop
  pub Went-whole : (done : ℕ) (last : T) → Went took bytes first done last → done ≡ length bytes → WentWhole took bytes first last
  Went-whole done last went all = subst (λ n. Went took bytes first n last) all went

  pub Went-part : (failed : TakeFailed T) (between last : T) (done : ℕ) → Went took bytes first done between → done < length bytes
      → failed between (take (length bytes - done) (drop done bytes)) last
      → WentInPart took failed bytes first last
  Went-part failed between last done went less more =
      (between, done, less, went, subst (λ rest. failed between rest last) (take_rest bytes done) more)
