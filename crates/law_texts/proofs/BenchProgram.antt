-- A bench's program, where its words lie in memory.
use Rattle.std.proofs.Common.{◌≡◌, ℕ, ◌+◌, ◌-◌, ◌*◌, ◌/◌, ◌%◌, ◌^◌, ◌<◌, List, length, drop, ◌⊎◌, inl, inr, refl, ap, ap₂, sym, ◌∙◌, arith}
use Rattle.std.specs.Prelude.{Bool, true, false, nat_lt, if◌then◌else◌, Option, Some, None, slice_get, slice_index}
use Rattle.std.proofs.lemmas.List.{get_or-drop}
use Rattle.rv_core.proofs.Encoded.{encoded}
use Rattle.rv_core.specs.Encodable.{IsEncodable, IsSigned}
use Rattle.rv_model.specs.Codes.{instr_of, word_of}
use Rattle.rv_model.specs.Words.{extended, field, minus, plus}
use Rattle.rv_model.specs.declared.instr.Instr.{Instr}
use Rattle.rv_model.specs.declared.instr.Instr.TheVariants.{Lui, Addi, Bne, Ecall, Ebreak}
use Rattle.nova_guest.specs.Frames.{read_in}
use Rattle.nova_model.specs.Memory.{Memory}
use Rattle.rv_asm.specs.Name.{lower_part, upper_part}
use Rattle.law_bench.proofs.Program.{program_words}
use Rattle.law_texts.specs.Words.{LieFrom}
use Rattle.law_texts.proofs.BenchPass.{HoldsCode}

-- BYTES AND WORDS

moved : (bytes : List ℕ) (at i : ℕ) → slice_index (drop at bytes) i ≡ slice_index (drop (at + i) bytes) 0
moved bytes at i =
    get_or-drop at bytes i 0 ∙ (ap (λ (p : ℕ). slice_index bytes p) (let same : at + i ≡ at + i + 0 = omega arith in same) ∙ sym (get_or-drop (at + i) bytes 0 0))

-- a number of four bytes, by its bytes
four_bytes : (o : Option (List ℕ)) (at : ℕ) →
    read_in o at 4 ≡ read_in o at 1 + 256 * (read_in o (at + 1) 1 + 256 * (read_in o (at + 2) 1 + 256 * read_in o (at + 3) 1))
four_bytes None at = refl
four_bytes (Some bytes) at =
    let b1 = moved bytes at 1 in
    let b2 = moved bytes at 2 in
    let b3 = moved bytes at 3 in
    omega (arith, b1, b2, b3)

-- a word, by its bytes
bytes_again : (w : ℕ) → w < 2 ^ 32 → w / 256 ^ 0 % 256 + 256 * (w / 256 ^ 1 % 256 + 256 * (w / 256 ^ 2 % 256 + 256 * (w / 256 ^ 3 % 256))) ≡ w
bytes_again w small = omega (arith, small)

word_read : (m : Memory) (words : List ℕ) (j w : ℕ) → LieFrom m 0 words → j < length words → j < 1024 → slice_index words j ≡ w → w < 2 ^ 32 → read_in (slice_get m.ram 0) (4 * j) 4 ≡ w
word_read m words j w lie there low is small =
    four_bytes (slice_get m.ram 0) (4 * j)
    ∙ (let l0 = byte_there 0 (omega arith) in let l1 = byte_there 1 (omega arith) in let l2 = byte_there 2 (omega arith) in let l3 = byte_there 3 (omega arith) in
    let whole = bytes_again w small in
    let start : read_in (slice_get m.ram 0) (4 * j + 0) 1 ≡ read_in (slice_get m.ram 0) (4 * j) 1 = ap (λ (p : ℕ). read_in (slice_get m.ram 0) p 1) (let same : 4 * j + 0 ≡ 4 * j = omega arith in same) in
    omega (arith, l0, l1, l2, l3, start, whole))
  where
    byte_there : (i : ℕ) → i < 4 → read_in (slice_get m.ram 0) (4 * j + i) 1 ≡ w / 256 ^ i % 256
    byte_there i few =
        let page : (0 + (4 * j + i)) / 4096 ≡ 0 = omega (arith, low, few) in
        let offset : (0 + (4 * j + i)) % 4096 ≡ 4 * j + i = omega (arith, low, few) in
        ap₂ (λ (f o : ℕ). read_in (slice_get m.ram f) o 1) (sym page) (sym offset) ∙ (lie j i there few ∙ ap (λ (v : ℕ). v / 256 ^ i % 256) is)

-- THE NUMBER

lower_signed : (f : ℕ) → f < 2 ^ 12 → IsSigned 12 (extended 12 f)
lower_signed f small = by_half (nat_lt f 2048) refl
  where
    by_half : (b : Bool) → nat_lt f 2048 ≡ b → IsSigned 12 (if b then f else f + (2 ^ 32 - 2 ^ 12))
    by_half true is = inl (grind (arith, is))
    by_half false is = inr (grind (arith, is), omega (arith, small))

lower_by : (f : ℕ) → f < 2 ^ 12 → (extended 12 f ≡ f) ⊎ (extended 12 f ≡ f + (2 ^ 32 - 2 ^ 12))
lower_by f small = by_half (nat_lt f 2048)
  where
    by_half : (b : Bool) → ((if b then f else f + (2 ^ 32 - 2 ^ 12)) ≡ f) ⊎ ((if b then f else f + (2 ^ 32 - 2 ^ 12)) ≡ f + (2 ^ 32 - 2 ^ 12))
    by_half true = inl refl
    by_half false = inr refl

module _ (n : ℕ) (small : n < 2 ^ 20) where
  lower_bits : field n 0 12 < 2 ^ 12
  lower_bits = omega arith

  upper_even : upper_part n % 2 ^ 12 ≡ 0
  upper_even = by_lower (lower_by (field n 0 12) lower_bits)
    where
      by_lower : (lower_part n ≡ field n 0 12) ⊎ (lower_part n ≡ field n 0 12 + (2 ^ 32 - 2 ^ 12)) → minus n (lower_part n) % 2 ^ 12 ≡ 0
      by_lower (inl e) = omega (arith, e, small)
      by_lower (inr e) = omega (arith, e, small)

  pub together : plus (upper_part n) (lower_part n) ≡ n
  together = by_lower (lower_by (field n 0 12) lower_bits)
    where
      by_lower : (lower_part n ≡ field n 0 12) ⊎ (lower_part n ≡ field n 0 12 + (2 ^ 32 - 2 ^ 12)) → plus (minus n (lower_part n)) (lower_part n) ≡ n
      by_lower (inl e) = omega (arith, e, small)
      by_lower (inr e) = omega (arith, e, small)

  upper_encodable : IsEncodable (Lui 8 (upper_part n))
  upper_encodable = record { registers = record { rd = omega arith; rs1 = omega arith; rs2 = omega arith }; immediate = (omega arith, upper_even) }

  lower_encodable : IsEncodable (Addi 8 8 (lower_part n))
  lower_encodable = record { registers = record { rd = omega arith; rs1 = omega arith; rs2 = omega arith }; immediate = lower_signed (field n 0 12) lower_bits }

  upper_word : word_of (Lui 8 (upper_part n)) < 2 ^ 32
  unfolding word_of
  upper_word = omega arith

  lower_word : word_of (Addi 8 8 (lower_part n)) < 2 ^ 32
  unfolding word_of
  lower_word = omega arith

-- THE PROGRAM

pub record HoldsNumber (m : Memory) (n : ℕ) : Type 0 where
  pub upper : instr_of (read_in (slice_get m.ram 0) 0 4) ≡ Some (Lui 8 (upper_part n))
  pub lower : instr_of (read_in (slice_get m.ram 0) 4 4) ≡ Some (Addi 8 8 (lower_part n))

module _ (m : Memory) (n : ℕ) (small : n < 2 ^ 20) (lie : LieFrom m 0 (program_words n)) where
  there : (j : ℕ) (i : Instr) → j < 14 → slice_index (program_words n) j ≡ word_of i → word_of i < 2 ^ 32 → instr_of (word_of i) ≡ Some i → instr_of (read_in (slice_get m.ram 0) (4 * j) 4) ≡ Some i
  there j i low is fits back = ap instr_of (word_read m (program_words n) j (word_of i) lie low (omega (arith, low)) is fits) ∙ back

  pub number_there : HoldsNumber m n
  number_there = record {
    upper = there 0 (Lui 8 (upper_part n)) (omega arith) refl (upper_word n small) (encoded (Lui 8 (upper_part n)) (upper_encodable n small));
    lower = there 1 (Addi 8 8 (lower_part n)) (omega arith) refl (lower_word n small) (encoded (Addi 8 8 (lower_part n)) (lower_encodable n small));
  }

  pub code_there : HoldsCode m
  unfolding word_of instr_of
  code_there = record {
    selects_first = there 2 (Addi 9 0 64) (omega arith) refl (omega arith) refl;
    makes = there 3 (Addi 17 0 2) (omega arith) refl (omega arith) refl;
    selects = there 4 (Addi 10 9 0) (omega arith) refl (omega arith) refl;
    gives = there 5 (Addi 12 0 5) (omega arith) refl (omega arith) refl;
    calls = there 6 Ecall (omega arith) refl (omega arith) refl;
    steps_on = there 7 (Addi 9 9 1) (omega arith) refl (omega arith) refl;
    counts_down = there 8 (Addi 8 8 4294967295) (omega arith) refl (omega arith) refl;
    loops = there 9 (Bne 8 0 4294967272) (omega arith) refl (omega arith) refl;
    revokes = there 10 (Addi 17 0 7) (omega arith) refl (omega arith) refl;
    selects_page = there 11 (Addi 10 0 1) (omega arith) refl (omega arith) refl;
    calls_again = there 12 Ecall (omega arith) refl (omega arith) refl;
    ends = there 13 Ebreak (omega arith) refl (omega arith) refl;
  }
