-- What the lines of code mean, wherever they stand.
use Rattle.std.proofs.Common.{◌≡◌, ℕ, ◌+◌, ◌-◌, true, List, [], ◌∷◌, ◌++◌, length, drop, Option, Some, Result, Ok, Err, refl, ap, ◌∙◌, arith}
use Rattle.std.specs.Prelude.{codes, filter, if◌then◌else◌}
use Rattle.std.specs.List.{slice_split}
use Rattle.std.proofs.Math.Seq.{drop-append_seam}
use Rattle.rv_model.specs.declared.instr.Instr.{Instr}
use Rattle.rv_model.specs.declared.instr.Instr.TheVariants.{Addi, Bne, Ecall, Ebreak}
use Rattle.rv_model.specs.declared.instr.Operands.{Operands}
use Rattle.rv_model.specs.declared.mnemonic.Mnemonic.TheVariants as mnemonic
use Rattle.nova_text.specs.Bytes.{is_separator, before_comment, has_bytes}
use Rattle.nova_text.specs.Line.{Row}
use Rattle.nova_text.specs.Number.{number}
use Rattle.nova_text.specs.Piece.{Piece, piece_at, pieces_from}
use Rattle.nova_text.specs.Token.{tokens}
use Rattle.nova_text.specs.declared.span.Span.{Span}
use Rattle.rv_asm.specs.Syntax.{front, operand_of, operands_in, Written, written_from, written}
use Rattle.rv_asm.specs.Name.{Item, Does}
use Rattle.rv_asm.specs.Operand.{Labels, to_label, placed, fault_in, with_imm, first_fault, unless_faulty}
use Rattle.rv_asm.specs.Program.{items_or_fault, statement_of, is_earlier, with_colon, after_label, line_items}
use Rattle.rv_asm.specs.declared.fault.AsmFault.{AsmFault}
use Rattle.rv_asm.specs.declared.fault.AsmFault.TheVariants.{TwiceLabel}
use Rattle.rv_asm.specs.declared.fault.OperandFault.{OperandFault}
use Rattle.rv_asm.specs.declared.label.Label.{Label}
use Rattle.rv_asm.specs.declared.name.Name.TheVariants.{Instruction}

-- a line that begins with a name has what stands after it as its operands
module _ (name rest : List ℕ) (parts : List (List ℕ)) (cut : slice_split is_separator (before_comment (name ++ rest)) ≡ name ∷ parts) (some : has_bytes name ≡ true) (line start : ℕ) where
  abbrev row : Row
  row = record { number = line; start = start; text = name ++ rest }

  abbrev with_rest : List ℕ → Option Written
  with_rest text = Some (record { name = piece_at start name; operands = operands_in (record { number = line; start = start + length name; text = text }) })

  -- the tokens after the name
  abbrev others : List Piece
  others = filter (λ piece. has_bytes piece.text) (pieces_from (start + length name + 1) parts)

  first_token : tokens start (name ++ rest) ≡ piece_at start name ∷ others
  unfolding tokens
  first_token = ap (λ ts. filter (λ piece. has_bytes piece.text) (pieces_from start ts)) cut ∙ rw some refl

  written_line : written row ≡ with_rest rest
  written_line =
      let skip : start + length name - start ≡ length name = omega arith in
      ap (written_from row) first_token
      ∙ ap (λ n. with_rest (drop n (name ++ rest))) skip
      ∙ ap with_rest (drop-append_seam name rest)

-- a line that means an instruction, whatever its place and the labels are
abbrev Means : List ℕ → Instr → Type 0
Means text instr = (labels : Labels) (place line start : ℕ) → line_items labels place (record { number = line; start = start; text = text }) ≡ Ok (Does instr ∷ [])

pub next_of_all : Means (codes "addi x9, x0, 64") (Addi 9 0 64)
unfolding tokens number
next_of_all labels place line start =
    ap (statement_of labels place) (written_line (codes "addi") (codes " x9, x0, 64") (codes "x9," ∷ codes "x0," ∷ codes "64" ∷ []) refl refl line start)

pub makes : Means (codes "addi x17, x0, 2") (Addi 17 0 2)
unfolding tokens number
makes labels place line start =
    ap (statement_of labels place) (written_line (codes "addi") (codes " x17, x0, 2") (codes "x17," ∷ codes "x0," ∷ codes "2" ∷ []) refl refl line start)

pub selects_next : Means (codes "addi x10, x9, 0") (Addi 10 9 0)
unfolding tokens number
selects_next labels place line start =
    ap (statement_of labels place) (written_line (codes "addi") (codes " x10, x9, 0") (codes "x10," ∷ codes "x9," ∷ codes "0" ∷ []) refl refl line start)

pub gives_page : Means (codes "addi x12, x0, 5") (Addi 12 0 5)
unfolding tokens number
gives_page labels place line start =
    ap (statement_of labels place) (written_line (codes "addi") (codes " x12, x0, 5") (codes "x12," ∷ codes "x0," ∷ codes "5" ∷ []) refl refl line start)

pub calls : Means (codes "ecall") Ecall
unfolding tokens number
calls labels place line start = ap (statement_of labels place) (written_line (codes "ecall") [] [] refl refl line start)

pub steps_on : Means (codes "addi x9, x9, 1") (Addi 9 9 1)
unfolding tokens number
steps_on labels place line start =
    ap (statement_of labels place) (written_line (codes "addi") (codes " x9, x9, 1") (codes "x9," ∷ codes "x9," ∷ codes "1" ∷ []) refl refl line start)

pub counts_down : Means (codes "addi x8, x8, -1") (Addi 8 8 4294967295)
unfolding tokens number
counts_down labels place line start =
    ap (statement_of labels place) (written_line (codes "addi") (codes " x8, x8, -1") (codes "x8," ∷ codes "x8," ∷ codes "-1" ∷ []) refl refl line start)

pub revokes : Means (codes "addi x17, x0, 7") (Addi 17 0 7)
unfolding tokens number
revokes labels place line start =
    ap (statement_of labels place) (written_line (codes "addi") (codes " x17, x0, 7") (codes "x17," ∷ codes "x0," ∷ codes "7" ∷ []) refl refl line start)

pub selects_first : Means (codes "addi x10, x0, 1") (Addi 10 0 1)
unfolding tokens number
selects_first labels place line start =
    ap (statement_of labels place) (written_line (codes "addi") (codes " x10, x0, 1") (codes "x10," ∷ codes "x0," ∷ codes "1" ∷ []) refl refl line start)

pub ends : Means (codes "ebreak") Ebreak
unfolding tokens number
ends labels place line start = ap (statement_of labels place) (written_line (codes "ebreak") [] [] refl refl line start)

-- the label of the loop, and the branch back to it
abbrev pub loop_label : Label
loop_label = record { line = 3; place = 3 }

module _ (labels : Labels) (found : labels (codes "loop") ≡ Some loop_label) (start : ℕ) where
  once : (piece : Piece) (rest : Result (List Item) AsmFault) → labels piece.text ≡ Some loop_label → after_label labels 3 (Some piece) rest ≡ rest
  once piece rest is = ap (λ label. if is_earlier 3 label then Err (TwiceLabel (with_colon piece.span)) else rest) is

  pub labels_loop : line_items labels 3 (record { number = 3; start = start; text = codes "loop:" }) ≡ Ok []
  unfolding tokens
  labels_loop = once (front 4 (record { number = 3; start = start + 0; text = codes "loop:" })) (Ok []) found

  abbrev compared : Operands
  compared = record { rd = 0; rs1 = 8; rs2 = 0; imm = 0 }

  abbrev branch_by : Span → Result ℕ OperandFault → Result (List Item) AsmFault
  branch_by span target =
      items_or_fault (Instruction mnemonic.Bne) (unless_faulty (placed compared (with_imm compared target)) (first_fault (fault_in span (with_imm compared target) ++ [])))

  pub loops : line_items labels 9 (record { number = 10; start = start; text = codes "bne x8, x0, loop" }) ≡ Ok (Does (Bne 8 0 4294967272) ∷ [])
  unfolding tokens number
  loops =
      ap (statement_of labels 9) (written_line (codes "bne") (codes " x8, x0, loop") (codes "x8," ∷ codes "x0," ∷ codes "loop" ∷ []) refl refl 10 start)
      ∙ ap (λ label. branch_by (operand_of (piece_at (start + 3 + 3 + 1 + 3 + 1) (codes " loop"))).span (to_label 4096 4094 9 label)) found
