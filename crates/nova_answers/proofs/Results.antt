-- A result is one thing alone.
use Rattle.std.proofs.Common.{◌≡◌, Result, Ok, Err}

pub fault_is_none : {A B : Type 0} (r : Result A B) (is : A) (fault : B) → r ≡ Ok is → r ≡ Err fault → ⊥
fault_is_none r is fault good bad = absurd (cc)

pub same_ok : {A B : Type 0} (r : Result A B) (is other : A) → r ≡ Ok is → r ≡ Ok other → other ≡ is
same_ok r is other good too = cc
