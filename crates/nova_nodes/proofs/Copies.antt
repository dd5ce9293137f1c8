-- Spaces with no room for more hold what they held.
use Rattle.std.proofs.Common.{◌≡◌, ℕ, List, [], ◌∷◌, refl, ap₂, ◌+◌, ◌∙◌, IsSome}
use Rattle.std.specs.Prelude.{zero, suc, slice_get, map, Option, Some, None, IfSome}
use Rattle.std.proofs.lemmas.List.Sums.{sum_by-cons}
use Rattle.nova_range.specs.declared.range.Kind.{Kind}
use Rattle.nova_range.specs.declared.range.Kind.TheVariants.{Mem, Obj}
use Rattle.nova_nodes.specs.Spaces.{SpaceState, entries_at, room_in, total_room, shown_room, roomless}

pub entries_roomless : (spaces : List (Option SpaceState)) (pd : ℕ) (kind : Kind) → entries_at (map roomless spaces) pd kind ≡ entries_at spaces pd kind
entries_roomless [] zero kind = refl
entries_roomless [] (suc pd) kind = refl
entries_roomless (None ∷ spaces) zero kind = refl
entries_roomless (Some s ∷ spaces) zero Mem = refl
entries_roomless (Some s ∷ spaces) zero Obj = refl
entries_roomless (s ∷ spaces) (suc pd) kind = entries_roomless spaces pd kind

none_in : (s : Option SpaceState) → room_in (roomless s) ≡ 0
none_in None = refl
none_in (Some s) = refl

pub total_roomless : (spaces : List (Option SpaceState)) → total_room (map roomless spaces) ≡ 0
total_roomless [] = refl
total_roomless (s ∷ spaces) = sum_by-cons room_in (roomless s) (map roomless spaces) ∙ ap₂ ◌+◌ (none_in s) (total_roomless spaces)

pub there_roomless : (spaces : List (Option SpaceState)) (pd : ℕ) → IfSome (slice_get (map shown_room spaces) pd) IsSome →
    IfSome (slice_get (map shown_room (map roomless spaces)) pd) IsSome
there_roomless [] zero h = h
there_roomless [] (suc pd) h = h
there_roomless (None ∷ spaces) zero h = h
there_roomless (Some s ∷ spaces) zero h = refl
there_roomless (s ∷ spaces) (suc pd) h = there_roomless spaces pd h
