-- Cells that agree but for their frames stay so: through stores, and as maps come and go.
use Rattle.std.proofs.Common.{◌≡◌, ℕ, zero, suc, ◌+◌, ◌/◌, ◌*◌, ◌^◌, ◌<◌, ◌≤◌, List, [], ◌∷◌, length, take, drop, ap, ap₂, sym, ◌∙◌, subst, subst₂, refl, inl, inr, arith}
use Rattle.std.specs.Prelude.{Bool, true, false, ◌==◌, Option, Some, None, is_none, option_map, filter, if◌then◌else◌}
use Rattle.std.specs.List.{find}
use Rattle.std.proofs.lemmas.Bool.{cases_eq, eq-eqb, ne_eqb}
use Rattle.byteorder.specs.Endian.{little_bytes}
use Rattle.nova_guest.specs.Cells.{cell_at, cells_given, frame_of, missing, page_size, pieces, stored_in}
use Rattle.nova_guest.specs.Conditions.{AreContents}
use Rattle.nova_guest.specs.Frames.{replaced}
use Rattle.nova_guest.specs.Keyed.{placed, placed_all}
use Rattle.nova_guest.specs.declared.cell.Cell.{Cell}
use Rattle.law_renaming.specs.Renamings.{AreRenamed, CellsAgree, IsOneToOne, Renames}
use Rattle.law_renaming.proofs.Spaces.{same_frame}

-- A STORE, frame by frame
cell_stored : (cells : List Cell) (f o w v g : ℕ) →
    cell_at (stored_in cells f o w v) g ≡ (if g == f then option_map (λ (b : List ℕ). replaced b o (little_bytes w v)) (cell_at cells g) else cell_at cells g)
cell_stored [] f o w v g = grind arith
cell_stored (c ∷ cells) f o w v g = grind (arith, cell_stored cells f o w v g)

pub stored_agrees : (r : ℕ → ℕ → Bool) → IsOneToOne r → (us vs : List Cell) (frame new o w v : ℕ) → Renames r frame new → CellsAgree r us vs →
    CellsAgree r (stored_in us frame o w v) (stored_in vs new o w v)
stored_agrees r one us vs frame new o w v stands same g h pair =
    cell_stored vs new o w v h
    ∙ (rw (same_frame r one g h frame new pair stands, same g h pair) (sym (cell_stored us frame o w v g)))

-- CELLS THAT COME
abbrev first_of : Option (List ℕ) → Option (List ℕ) → Option (List ℕ)
first_of (Some x) y = Some x
first_of None y = y

first_alone : (o : Option (List ℕ)) → o ≡ first_of o None
first_alone None = refl
first_alone (Some x) = refl

piece_before : (size n frame g : ℕ) (bytes : List ℕ) → g < frame → cell_at (pieces size n frame bytes) g ≡ None
piece_before size zero frame g bytes h = refl
piece_before size (suc n) frame g bytes h = grind (arith, piece_before size n (frame + 1) g (drop size bytes))

cell_placed : (c : Cell) (cells : List Cell) (g : ℕ) → cell_at cells c.frame ≡ None →
    cell_at (placed frame_of c cells) g ≡ (if c.frame == g then Some c.contents else cell_at cells g)
cell_placed c [] g free = grind arith
cell_placed c (x ∷ xs) g free = grind (arith, cell_placed c xs g)

-- a frame that has a cell keeps it; a frame that has none gets its piece
cell_given : (size n frame : ℕ) (bytes : List ℕ) (cells : List Cell) (g : ℕ) →
    cell_at (placed_all frame_of (missing cells (pieces size n frame bytes)) cells) g ≡ first_of (cell_at cells g) (cell_at (pieces size n frame bytes) g)
cell_given size zero frame bytes cells g = first_alone (cell_at cells g)
cell_given size (suc n) frame bytes cells g = by_there (cell_at cells frame) refl (λ x. cell_given size n (frame + 1) (drop size bytes) cells x)
  where
    later : List Cell
    later = pieces size n (frame + 1) (drop size bytes)

    first : Cell
    first = record { frame = frame; contents = take size bytes }

    by_there : (o : Option (List ℕ)) → cell_at cells frame ≡ o →
        ((x : ℕ) → cell_at (placed_all frame_of (missing cells later) cells) x ≡ first_of (cell_at cells x) (cell_at later x)) →
        cell_at (placed_all frame_of (if is_none o then first ∷ missing cells later else missing cells later) cells) g ≡ first_of (cell_at cells g) (cell_at (first ∷ later) g)
    by_there (Some b) is rest = rest g ∙ elim (cases_eq frame g) [
      | inl here ↦ rw (subst (λ (x : ℕ). cell_at cells x ≡ Some b) here is) refl
      | inr ne ↦ rw (ne_eqb frame g ne) refl
    ]
    by_there None is rest =
        let free : cell_at (placed_all frame_of (missing cells later) cells) frame ≡ None = rest frame ∙ (rw (is, piece_before size n (frame + 1) frame (drop size bytes) (omega arith)) refl) in
        cell_placed first (placed_all frame_of (missing cells later) cells) g free ∙ elim (cases_eq frame g) [
          | inl here ↦ rw (eq-eqb frame g here, subst (λ (x : ℕ). cell_at cells x ≡ None) here is) refl
          | inr ne ↦ rw (ne_eqb frame g ne) (rest g)
        ]

pieces_agree : (r : ℕ → ℕ → Bool) → IsOneToOne r → (size n frame new : ℕ) (bytes : List ℕ) → ((i : ℕ) → i < n → Renames r (frame + i) (new + i)) →
    CellsAgree r (pieces size n frame bytes) (pieces size n new bytes)
pieces_agree r one size zero frame new bytes stand g h pair = refl
pieces_agree r one size (suc n) frame new bytes stand g h pair =
    rw (same_frame r one frame new g h first pair) (by_test (frame == g) (pieces_agree r one size n (frame + 1) (new + 1) (drop size bytes) later g h pair))
  where
    first : Renames r frame new
    first = subst₂ (Renames r) (omega arith) (omega arith) (stand 0 (omega arith))

    later : (i : ℕ) → i < n → Renames r ((frame + 1) + i) ((new + 1) + i)
    later i within = subst₂ (Renames r) (omega arith) (omega arith) (stand (suc i) (omega (arith, within)))

    by_test : (t : Bool) → cell_at (pieces size n (new + 1) (drop size bytes)) h ≡ cell_at (pieces size n (frame + 1) (drop size bytes)) g →
        option_map (λ c. c.contents) (if t then Some (record { frame = new; contents = take size bytes }) else find (λ c. c.frame == h) (pieces size n (new + 1) (drop size bytes)))
        ≡ option_map (λ c. c.contents) (if t then Some (record { frame = frame; contents = take size bytes }) else find (λ c. c.frame == g) (pieces size n (frame + 1) (drop size bytes)))
    by_test true rest = refl
    by_test false rest = rest

-- contents go no further than the frames of their map
pub contents_fit : (order : ℕ) (contents : List ℕ) → AreContents order contents → length contents / page_size ≤ 2 ^ order
unfolding page_size
contents_fit order contents (inl none) = rw none (omega arith)
contents_fit order contents (inr all) = let e : 4096 * 2 ^ order / 4096 ≡ 2 ^ order = omega arith in rw all (rw e (omega arith))

pub given_agrees : (r : ℕ → ℕ → Bool) → IsOneToOne r → (us vs : List Cell) (order frame new : ℕ) (contents : List ℕ) → length contents / page_size ≤ 2 ^ order →
    AreRenamed r order frame new → CellsAgree r us vs →
    CellsAgree r (placed_all frame_of (missing us (cells_given frame contents)) us) (placed_all frame_of (missing vs (cells_given new contents)) vs)
given_agrees r one us vs order frame new contents fits stand same g h pair =
    cell_given page_size (length contents / page_size) new contents vs h
    ∙ (ap₂ first_of (same g h pair) (pieces_agree r one page_size (length contents / page_size) frame new contents (λ i within. stand i (omega (arith, within, fits))) g h pair)
    ∙ sym (cell_given page_size (length contents / page_size) frame contents us g))

-- CELLS THAT GO
cell_filtered : (q : ℕ → Bool) (cells : List Cell) (g : ℕ) → cell_at (filter (λ c. q c.frame) cells) g ≡ (if q g then cell_at cells g else None)
cell_filtered q [] g = grind arith
cell_filtered q (c ∷ cells) g = elim (cases_eq c.frame g) [
  | inl here ↦ by_here (q c.frame) (ap q here) (eq-eqb c.frame g here) (cell_filtered q cells g)
  | inr ne ↦ by_ne (q c.frame) (ne_eqb c.frame g ne) (cell_filtered q cells g)
]
  where
    by_here : (t : Bool) → t ≡ q g → c.frame == g ≡ true → cell_at (filter (λ c. q c.frame) cells) g ≡ (if q g then cell_at cells g else None) →
        cell_at (if t then c ∷ filter (λ c. q c.frame) cells else filter (λ c. q c.frame) cells) g ≡ (if q g then cell_at (c ∷ cells) g else None)
    by_here true is same rest = rw (sym is, same) refl
    by_here false is same rest = rest ∙ (rw (sym is) refl)

    by_ne : (t : Bool) → c.frame == g ≡ false → cell_at (filter (λ c. q c.frame) cells) g ≡ (if q g then cell_at cells g else None) →
        cell_at (if t then c ∷ filter (λ c. q c.frame) cells else filter (λ c. q c.frame) cells) g ≡ (if q g then cell_at (c ∷ cells) g else None)
    by_ne true ne rest = rw ne rest
    by_ne false ne rest = rw ne rest

pub filtered_agrees : (r : ℕ → ℕ → Bool) (p q : ℕ → Bool) (us vs : List Cell) → ((g h : ℕ) → Renames r g h → q h ≡ p g) → CellsAgree r us vs →
    CellsAgree r (filter (λ c. p c.frame) us) (filter (λ c. q c.frame) vs)
filtered_agrees r p q us vs tests same g h pair =
    cell_filtered q vs h ∙ (rw (tests g h pair, same g h pair) (sym (cell_filtered p us g)))
