-- What the test of two texts tells.
use Rattle.std.proofs.Common.{◌≡◌, ℕ, List}
use Rattle.std.specs.Prelude.{Bool, nat_eq}
use Rattle.std.specs.Bool.{Decides}
use Rattle.std.specs.Cmp.Lexicographic.{pointwise}
use Rattle.std.proofs.lemmas.Bool.Decides.{Decides-eqb}
use Rattle.std.proofs.lemmas.Slice.Eq.{slice_eq-Decides}

pub same_when : (r : Bool) (xs ys : List ℕ) → r ≡ pointwise nat_eq xs ys → Decides r (xs ≡ ys)
same_when r xs ys is = slice_eq-Decides Decides-eqb xs ys r is
