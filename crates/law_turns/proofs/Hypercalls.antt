-- Hypercalls that go on with what was found, or end with a status.
use Rattle.std.proofs.Common.{◌≡◌, refl}
use Rattle.std.specs.Prelude.{Result, Ok, Err}
use Rattle.nova_range.specs.declared.status.Status.{Status}
use Rattle.nova_model.specs.Hypercalls.{and_then}

pub next_same : {A B : Type 0} (o : Result A Status) (f g : A → Result B Status) → ((x : A) → f x ≡ g x) → and_then o f ≡ and_then o g
next_same (Err status) f g same = refl
next_same (Ok x) f g same = same x
