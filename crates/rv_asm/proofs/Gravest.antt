-- The gravest fault of several operands, taken one operand after another.
use Rattle.std.proofs.Common.{◌≡◌, ℕ, Bool, true, false, List, [], ◌∷◌, ◌++◌, Option, Some, None, Result, Ok, Err, refl, ap, sym, ◌∙◌}
use Rattle.std.specs.Prelude.{IfSome}
use Rattle.std.specs.Option.{option_or}
use Rattle.rv_model.specs.declared.instr.Operands.{Operands}
use Rattle.nova_text.specs.Piece.{Piece}
use Rattle.nova_text.specs.declared.span.Span.{Span}
use Rattle.rv_asm.specs.Operand.{Labels, is_graver, gravest, with_operand, placed, fault_in, all_placed, faults_in, is_bad, lacks_label, is_outside, first_of, first_fault, unless_faulty, with_operands}
use Rattle.rv_asm.specs.declared.fault.OperandFault.{OperandFault}
use Rattle.rv_asm.specs.declared.fault.OperandFault.TheVariants.{Bad, NoLabel, OutOfRange}
use Rattle.rv_asm.specs.declared.fault.FaultyOperand.{FaultyOperand}
use Rattle.rv_asm.specs.declared.slot.Slot.{Slot}

-- what is found passes the test
found_passes : (p : OperandFault → Bool) (faults : List FaultyOperand) → IfSome (first_of p faults) (λ faulty. p faulty.why ≡ true)
found_passes p [] = tt
found_passes p (faulty ∷ faults) = go (p faulty.why) refl (found_passes p faults) where
  go : (b : Bool) → p faulty.why ≡ b → IfSome (first_of p faults) (λ faulty. p faulty.why ≡ true) → IfSome (first_of p (faulty ∷ faults)) (λ faulty. p faulty.why ≡ true)
  go true is rest = rw is is
  go false is rest = rw is rest

-- a fault that is no graver leaves the first
stays : (first second : FaultyOperand) → is_graver second.why first.why ≡ false → gravest first (Err second) ≡ first
stays first second e = rw e refl

yields : (first second : FaultyOperand) → is_graver second.why first.why ≡ true → gravest first (Err second) ≡ second
yields first second e = rw e refl

bad_over : (w : OperandFault) → is_bad w ≡ true → is_graver w NoLabel ≡ true
bad_over Bad e = refl
bad_over NoLabel e = cc
bad_over OutOfRange e = cc

bad_over_range : (w : OperandFault) → is_bad w ≡ true → is_graver w OutOfRange ≡ true
bad_over_range Bad e = refl
bad_over_range NoLabel e = cc
bad_over_range OutOfRange e = cc

label_over_range : (w : OperandFault) → lacks_label w ≡ true → is_graver w OutOfRange ≡ true
label_over_range Bad e = cc
label_over_range NoLabel e = refl
label_over_range OutOfRange e = cc

label_under : (w : OperandFault) → lacks_label w ≡ true → is_graver w NoLabel ≡ false
label_under Bad e = cc
label_under NoLabel e = refl
label_under OutOfRange e = cc

range_under : (w v : OperandFault) → is_outside w ≡ true → is_graver w v ≡ false
range_under Bad v e = cc
range_under NoLabel v e = cc
range_under OutOfRange Bad e = refl
range_under OutOfRange NoLabel e = refl
range_under OutOfRange OutOfRange e = refl

none_over_bad : (w : OperandFault) → is_graver w Bad ≡ false
none_over_bad Bad = refl
none_over_bad NoLabel = refl
none_over_bad OutOfRange = refl

module _ (first : FaultyOperand) (o : Operands) where
  bad_first : (rest : Option FaultyOperand) → first.why ≡ Bad → unless_faulty o (Some first) ≡ Err (gravest first (unless_faulty o rest))
  bad_first None is = refl
  bad_first (Some second) is = ap Err (sym (stays first second (ap (is_graver second.why) is ∙ none_over_bad second.why)))

  label_first : (bad unlabelled outside : Option FaultyOperand) → first.why ≡ NoLabel → IfSome bad (λ f. is_bad f.why ≡ true) → IfSome unlabelled (λ f. lacks_label f.why ≡ true) → IfSome outside (λ f. is_outside f.why ≡ true)
      → unless_faulty o (option_or bad (Some first)) ≡ Err (gravest first (unless_faulty o (option_or bad (option_or unlabelled outside))))
  label_first (Some second) unlabelled outside is b l r = ap Err (sym (yields first second (ap (is_graver second.why) is ∙ bad_over second.why b)))
  label_first None (Some second) outside is b l r = ap Err (sym (stays first second (ap (is_graver second.why) is ∙ label_under second.why l)))
  label_first None None (Some second) is b l r = ap Err (sym (stays first second (range_under second.why first.why r)))
  label_first None None None is b l r = refl

  range_first : (bad unlabelled outside : Option FaultyOperand) → first.why ≡ OutOfRange → IfSome bad (λ f. is_bad f.why ≡ true) → IfSome unlabelled (λ f. lacks_label f.why ≡ true) → IfSome outside (λ f. is_outside f.why ≡ true)
      → unless_faulty o (option_or bad (option_or unlabelled (Some first))) ≡ Err (gravest first (unless_faulty o (option_or bad (option_or unlabelled outside))))
  range_first (Some second) unlabelled outside is b l r = ap Err (sym (yields first second (ap (is_graver second.why) is ∙ bad_over_range second.why b)))
  range_first None (Some second) outside is b l r = ap Err (sym (yields first second (ap (is_graver second.why) is ∙ label_over_range second.why l)))
  range_first None None (Some second) is b l r = ap Err (sym (stays first second (range_under second.why first.why r)))
  range_first None None None is b l r = refl

-- the first fault and that of the operands after it
first_counts : (why : OperandFault) (span : Span) (o : Operands) (faults : List FaultyOperand) → unless_faulty o (first_fault (record { why = why; span = span } ∷ faults)) ≡ Err (gravest (record { why = why; span = span }) (unless_faulty o (first_fault faults)))
first_counts Bad span o faults = bad_first (record { why = Bad; span = span }) o (first_fault faults) refl
first_counts NoLabel span o faults =
    label_first (record { why = NoLabel; span = span }) o (first_of is_bad faults) (first_of lacks_label faults) (first_of is_outside faults) refl (found_passes is_bad faults) (found_passes lacks_label faults) (found_passes is_outside faults)
first_counts OutOfRange span o faults =
    range_first (record { why = OutOfRange; span = span }) o (first_of is_bad faults) (first_of lacks_label faults) (first_of is_outside faults) refl (found_passes is_bad faults) (found_passes lacks_label faults) (found_passes is_outside faults)

-- one operand, and then those after it
abbrev pub and_rest : Operands → Span → Result Operands OperandFault → (Operands → Result Operands FaultyOperand) → Result Operands FaultyOperand
and_rest o span (Ok more) rest = rest more
and_rest o span (Err why) rest = Err (gravest (record { why = why; span = span }) (rest o))

pub one_step : (labels : Labels) (from : ℕ) (slot : Slot) (slots : List Slot) (piece : Piece) (pieces : List Piece) (o : Operands)
    → with_operands labels from (slot ∷ slots) (piece ∷ pieces) o ≡ and_rest o piece.span (with_operand labels from slot piece.text o) (λ more. with_operands labels from slots pieces more)
one_step labels from slot slots piece pieces o = go (with_operand labels from slot piece.text o) where
  go : (r : Result Operands OperandFault) → unless_faulty (all_placed labels from slots pieces (placed o r)) (first_fault (fault_in piece.span r ++ faults_in labels from slots pieces (placed o r))) ≡ and_rest o piece.span r (λ more. with_operands labels from slots pieces more)
  go (Ok more) = refl
  go (Err why) = first_counts why piece.span (all_placed labels from slots pieces o) (faults_in labels from slots pieces o)
