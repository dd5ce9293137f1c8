-- The search through the table: what it finds has the row, and a word that has a row is found by it, since no two rows share a word.
use Rattle.std.proofs.Common.{◌≡◌, ℕ, Bool, true, false, cond, List, [], ◌∷◌, Option, Some, None, refl, ap, sym, ◌∙◌, arith}
use Rattle.std.specs.Prelude.{option_map}
use Rattle.std.specs.List.{find}
use Rattle.std.proofs.lemmas.Bool.Decides.{nat_tests}
use Rattle.rv_model.specs.Table.{row_of, mnemonics, instr_from}
use Rattle.rv_model.specs.Codes.{has_row, operands_in, instr_of}
use Rattle.rv_model.specs.declared.instr.Instr.{Instr}
use Rattle.rv_model.specs.declared.mnemonic.Mnemonic.{Mnemonic}
use Rattle.rv_model.specs.declared.mnemonic.Mnemonic.TheVariants.{Lui}

-- a word that has a row is found by it
pub found : (m : Mnemonic) (w : ℕ) → has_row w (row_of m) ≡ true → find (λ n. has_row w (row_of n)) mnemonics ≡ Some m
found Lui w h = grind (arith, nat_tests)
found _ w h = grind (arith, nat_tests)

-- what a search finds passes its test
find_passes : {X : Type 0} (p : X → Bool) (xs : List X) (x : X) → find p xs ≡ Some x → p x ≡ true
find_passes p [] x e = cc
find_passes p (y ∷ ys) x e = here (p y) refl e (find_passes p ys x) where
  here : (b : Bool) → p y ≡ b → cond b (Some y) (find p ys) ≡ Some x → (find p ys ≡ Some x → p x ≡ true) → p x ≡ true
  here true is e rest = let same : y ≡ x = cc in ap p (sym same) ∙ is
  here false is e rest = rest e

-- an instruction was read by a row that the word has
abbrev pub ReadBy : ℕ → Instr → Mnemonic → Type 0
ReadBy w i m = (has_row w (row_of m) ≡ true) × (i ≡ instr_from m (operands_in (row_of m).format w))

searched : (o : Option Mnemonic) (w : ℕ) (i : Instr) → find (λ m. has_row w (row_of m)) mnemonics ≡ o →
    option_map (λ m. instr_from m (operands_in (row_of m).format w)) o ≡ Some i → (m : Mnemonic) × ReadBy w i m
searched None w i is e = cc
searched (Some m) w i is e = (m, (find_passes (λ m. has_row w (row_of m)) mnemonics m is, cc))

pub read : (w : ℕ) (i : Instr) → instr_of w ≡ Some i → (m : Mnemonic) × ReadBy w i m
unfolding instr_of
read w i e = searched (find (λ m. has_row w (row_of m)) mnemonics) w i refl e
