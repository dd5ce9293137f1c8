-- Plain facts of tests, of kinds, and of bytes in frames.
use Rattle.std.proofs.Common.{◌≡◌, ℕ, Bool, true, false, ◌&&◌, List, length, Option, Some, None, refl}
use Rattle.std.proofs.lemmas.List.{length-set}
use Rattle.nova_range.specs.declared.range.Kind.{Kind}
use Rattle.nova_range.specs.declared.range.Kind.TheVariants.{Mem, Obj}
use Rattle.nova_model.specs.Delegations.{is_same_kind}
use Rattle.nova_model.specs.Memory.{Memory, written_in}

pub and_true : (t : Bool) → (t && true) ≡ t
and_true true = refl
and_true false = refl

pub and_false : (t : Bool) → (t && false) ≡ false
and_false true = refl
and_false false = refl

pub same_kind : (a b : Kind) → is_same_kind a b ≡ true → b ≡ a
same_kind Mem Mem h = refl
same_kind Mem Obj h = absurd (cc)
same_kind Obj Mem h = absurd (cc)
same_kind Obj Obj h = refl

pub kind_itself : (a : Kind) → is_same_kind a a ≡ true
kind_itself Mem = refl
kind_itself Obj = refl

-- bytes that are written leave the number of RAM frames
pub length-written_in : (m : Memory) (o : Option (List ℕ)) (frame offset width value : ℕ) → length (written_in m o frame offset width value).ram ≡ length m.ram
length-written_in m (Some bytes) frame offset width value = length-set m.ram frame _
length-written_in m None frame offset width value = refl
