-- Tables of spaces: what a longer one holds, and what one holds with another space at a domain.
use Rattle.std.proofs.Common.{◌≡◌, ℕ, List, [], ◌∷◌, ◌++◌, refl}
use Rattle.std.specs.Prelude.{zero, suc, Option, None}
use Rattle.nova_range.specs.declared.range.Kind.{Kind}
use Rattle.nova_nodes.specs.Spaces.{SpaceState, entries_at, room_at}

pub entries_more : (spaces : List (Option SpaceState)) (pd : ℕ) (kind : Kind) → entries_at (spaces ++ None ∷ []) pd kind ≡ entries_at spaces pd kind
entries_more [] zero kind = refl
entries_more [] (suc pd) kind = refl
entries_more (s ∷ spaces) zero kind = refl
entries_more (s ∷ spaces) (suc pd) kind = entries_more spaces pd kind

pub rooms_more : (spaces : List (Option SpaceState)) (pd : ℕ) → room_at (spaces ++ None ∷ []) pd ≡ room_at spaces pd
rooms_more [] zero = refl
rooms_more [] (suc pd) = refl
rooms_more (s ∷ spaces) zero = refl
rooms_more (s ∷ spaces) (suc pd) = rooms_more spaces pd
