use Rattle.std.proofs.Common.{◌≡◌, ℕ, ◌-◌, ◌≤◌, List, [], ◌∷◌, length, get_or, take, drop, map, Result, Err, ap, sym, ◌∙◌, arith}
use Rattle.std.proofs.lemmas.Grind.{common_steps}
use Rattle.rv_model.specs.declared.instr.Operands.{Operands}
use Rattle.rv_asm.specs.Operand.{Labels, gravest, with_operand, with_operands}
use Rattle.rv_asm.specs.Places.{places_of}
use Rattle.rv_asm.specs.Shown.{operand_seen}
use Rattle.rv_asm.specs.declared.fault.OperandFault.{OperandFault}
use Rattle.rv_asm.specs.declared.fault.FaultyOperand.{FaultyOperand}
use Rattle.rv_asm.specs.declared.slot.Slot.{Slot}
use Rattle.rv_asm.specs.declared.syntax.Operand.{Operand}
use Rattle.rv_asm.proofs.Gravest.{and_rest, one_step}
use Rattle.rv_asm.proofs.statement.+with_operands.Goals as goal

tail : {X : Type 0} (x : X) (xs : List X) → take (length (x ∷ xs) - 1) (drop 1 (x ∷ xs)) ≡ xs
tail x xs = grind (arith, common_steps)

-- the first operand is at fault
at_fault : (labels : Labels) (from : ℕ) (o : Operands) (why : OperandFault) (result : FaultyOperand) (rest : Result Operands FaultyOperand) (slots : List Slot) (texts : List Operand) (slot : Slot) (text : Operand) → 1 ≤ length slots → 1 ≤ length texts
    → Err why ≡ with_operand labels from (get_or slots 0 slot) (get_or texts 0 text).text.now o
    → rest ≡ with_operands labels from (take (length slots - 1) (drop 1 slots)) (map operand_seen (take (length texts - 1) (drop 1 texts))) o
    → result ≡ gravest (record { why = why; span = (get_or texts 0 text).span }) rest
    → Err result ≡ with_operands labels from slots (map operand_seen texts) o
at_fault labels from o why result rest [] texts slot text some more is rest_is result_is = absurd (omega arith)
at_fault labels from o why result rest (s ∷ ss) [] slot text some more is rest_is result_is = absurd (omega arith)
at_fault labels from o why result rest (s ∷ ss) (t ∷ ts) slot text some more is rest_is result_is =
    let after : rest ≡ with_operands labels from ss (map operand_seen ts) o = rest_is ∙ (λ i. with_operands labels from (tail s ss i) (map operand_seen (tail t ts i)) o) in
    ap Err (result_is ∙ ap (gravest (record { why = why; span = t.span })) after)
    ∙ ap (λ r. and_rest o t.span r (λ all. with_operands labels from ss (map operand_seen ts) all)) is
    ∙ sym (one_step labels from s ss (operand_seen t) (map operand_seen ts) o)

pub returns-in-Err : goal.returns-in-Err
returns-in-Err t c =
    at_fault (places_of c.args.labels.now) c.args.from c.args.operands c.in-Err.why c.gravest.result c.with_operands-rest.result c.args.slots.now c.args.texts.now _ _ c.in-len1-up.len_at_least c.in-len1-up-texts.len_at_least c.in-Err.ensures c.with_operands-rest.ensures c.gravest.ensures
