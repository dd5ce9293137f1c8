-- A piece appended to the first file of a name.
use Rattle.std.proofs.Common.{◌≡◌, ℕ, zero, suc, ◌-◌, List, [], ◌∷◌, ◌++◌, set, get_or, Some, None, unwrap_or, bytes_eq, string_bytes, sym, ◌∙◌, ap, append-nil, arith}
use Rattle.std.specs.List.{position}
use Rattle.std.specs.FinMap.{insert}
use Rattle.nova_io.specs.Files.{bytes_of, appended}
use Rattle.nova_io.specs.Memory.{room_of, lowered}
use Rattle.nova_io.specs.Held.{files_held, rooms_held}
use Rattle.nova_io.specs.declared.held.Held.{Held}
use Rattle.nova_io.proofs.Places.{get-at, get-none, from_entries-set_value, insert_again}

abbrev key : Held → List ℕ
key f = string_bytes f.name

module _ (files : List Held) (name : List ℕ) (i : ℕ) (d : Held) (at : position (λ f. bytes_eq name (key f)) files ≡ Some i) where
  bytes-at : bytes_of (files_held files) name ≡ (get_or files i d).store.bytes
  bytes-at = ap (λ held. unwrap_or held []) (get-at key (λ f. f.store.bytes) name files i d at)

  pub room-at : room_of (rooms_held files) name ≡ (get_or files i d).store.room
  room-at = ap (λ room. unwrap_or room 0) (get-at key (λ f. f.store.room) name files i d at)

  pub files-put : (y : Held) (piece : List ℕ) → key y ≡ key (get_or files i d) → y.store.bytes ≡ (get_or files i d).store.bytes ++ piece
      → files_held (set files i y) ≡ appended (files_held files) name piece
  files-put y [] same more =
      from_entries-set_value key (λ f. f.store.bytes) name files i y d at same
      ∙ insert_again (files_held files) name y.store.bytes
      (get-at key (λ f. f.store.bytes) name files i d at ∙ ap Some (sym (more ∙ append-nil (get_or files i d).store.bytes)))
  files-put y (b ∷ piece) same more =
      from_entries-set_value key (λ f. f.store.bytes) name files i y d at same
      ∙ ap (insert (files_held files) name) (more ∙ ap (λ held. held ++ b ∷ piece) (sym bytes-at))

  pub rooms-put : (y : Held) (n : ℕ) → key y ≡ key (get_or files i d) → y.store.room ≡ (get_or files i d).store.room - n
      → rooms_held (set files i y) ≡ lowered (rooms_held files) name n
  rooms-put y zero same less =
      let kept : y.store.room ≡ (get_or files i d).store.room = omega arith in
      from_entries-set_value key (λ f. f.store.room) name files i y d at same
      ∙ insert_again (rooms_held files) name y.store.room
      (get-at key (λ f. f.store.room) name files i d at ∙ ap Some (sym kept))
  rooms-put y (suc n) same less =
      from_entries-set_value key (λ f. f.store.room) name files i y d at same
      ∙ ap (insert (rooms_held files) name) (less ∙ ap (λ room. room - suc n) (sym room-at))

pub room-none : (files : List Held) (name : List ℕ) → position (λ f. bytes_eq name (key f)) files ≡ None → room_of (rooms_held files) name ≡ 0
room-none files name none = ap (λ room. unwrap_or room 0) (get-none key (λ f. f.store.room) name files none)
