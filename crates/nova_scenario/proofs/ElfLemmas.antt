-- The bytes of executables, line by line and token by token.
use Rattle.std.proofs.Common.{◌≡◌, ℕ, Bool, true, false, not, ◌++◌, List, ◌∷◌, Option, Some, None, Result, Ok, Err, refl, ap, ◌∙◌, append_assoc}
use Rattle.std.specs.Prelude.{find, if◌then◌else◌}
use Rattle.std.specs.List.{before_first, list_all, flat_map}
use Rattle.nova_text.specs.Line.{Row}
use Rattle.nova_text.specs.Piece.{Piece}
use Rattle.nova_text.specs.Token.{texts_of}
use Rattle.nova_scenario.specs.Blocks.{with_digits}
use Rattle.nova_scenario.specs.Digits.{is_bytes, bytes_in, has_bytes, line_bytes, elf_by, elf_bytes}
use Rattle.nova_scenario.specs.Fault.{At, at}
use Rattle.nova_scenario.specs.Items.{is_end}
use Rattle.nova_scenario.proofs.Cuts.{before_later}
use Rattle.nova_scenario.proofs.HexLemmas.{led}
use Rattle.nova_scenario.specs.declared.fault.Why.TheVariants.{Syntax}

-- bytes with those of the tokens that are left of a line
abbrev pub with_tokens : ℕ → List ℕ → List Piece → Result (List ℕ) At
with_tokens number bytes pieces =
    if list_all is_bytes (texts_of pieces) then Ok (bytes ++ flat_map bytes_in (texts_of pieces)) else at number Syntax

-- bytes with those of the lines that are left of a block
abbrev pub elf_left : List ℕ → List Row → Result (List ℕ) At
elf_left bytes rows = led bytes (elf_bytes (before_first is_end rows))

-- a line of a block is taken, or refused
module _ (bytes : List ℕ) (row : Row) (rows here : List Row) (is_here : here ≡ row ∷ rows) (inside : is_end row ≡ false) where
  begins_here : before_first is_end here ≡ row ∷ before_first is_end rows
  begins_here = ap (before_first is_end) is_here ∙ before_later is_end row rows inside

  abbrev front : List Row
  front = before_first is_end rows

  joined : (o : Option Row) → led (bytes ++ line_bytes row) (elf_by front o) ≡ led bytes (elf_by (row ∷ front) o)
  joined None = ap Ok (append_assoc bytes (line_bytes row) (flat_map line_bytes front))
  joined (Some faulty) = refl

  pub line_taken : (new : List ℕ) → with_digits bytes row ≡ Ok new → elf_left new rows ≡ elf_left bytes here
  line_taken new taken = go (has_bytes row) refl where
    go : (b : Bool) → has_bytes row ≡ b → elf_left new rows ≡ elf_left bytes here
    go true is =
        let same : Ok (bytes ++ line_bytes row) ≡ Ok new = rw is at taken in
        let new_is : new ≡ bytes ++ line_bytes row = cc in
        rw (new_is, begins_here, is) (joined (find (λ row. not (has_bytes row)) front))
    go false is = let same : at row.number Syntax ≡ Ok new = rw is at taken in cc

  pub line_refused : (fault : At) → with_digits bytes row ≡ Err fault → elf_left bytes here ≡ Err fault
  line_refused fault refused = go (has_bytes row) refl where
    go : (b : Bool) → has_bytes row ≡ b → elf_left bytes here ≡ Err fault
    go true is = let same : Ok (bytes ++ line_bytes row) ≡ Err fault = rw is at refused in cc
    go false is = rw (begins_here, is) (rw is at refused)
