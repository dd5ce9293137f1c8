-- The numbers that operands may be.
use Rattle.std.proofs.Common.{◌≡◌, ◌⊎◌, inl, inr, ℕ, zero, suc, ◌-◌, ◌*◌, ◌%◌, ◌^◌, ◌<◌, ◌≤◌, Bool, true, false, List, drop, Option, Some, None, Result, Ok, Err, refl, ◌∙◌, arith}
use Rattle.std.specs.Prelude.{nat_lt, nat_le, if◌then◌else◌}
use Rattle.std.proofs.lemmas.Bool.Decides.{nat_tests}
use Rattle.rv_model.specs.Words.{minus}
use Rattle.nova_text.specs.Number.{number, u32_of}
use Rattle.nova_text.specs.declared.number.NumberError.{NumberError}
use Rattle.nova_text.specs.declared.number.NumberError.TheVariants.{Malformed, TooLarge}
use Rattle.rv_asm.specs.Syntax.{is_name}
use Rattle.rv_asm.specs.Operand.{limited, sized, negated, is_negative, number_in, shifted, is_odd, unsigned, offset_in, offset_to, to_label, target_in, Labels}
use Rattle.rv_asm.specs.declared.fault.OperandFault.{OperandFault}
use Rattle.rv_asm.specs.declared.fault.OperandFault.TheVariants.{Bad, OutOfRange}
use Rattle.rv_asm.specs.declared.label.Label.{Label}

-- a number from -low to high, as a word
abbrev pub IsWithin : ℕ → ℕ → ℕ → Type 0
IsWithin low high n = (n ≤ high) ⊎ ((2 ^ 32 - low ≤ n) × (n < 2 ^ 32))

pub record IsLimited (limit n m : ℕ) : Type 0 where
  pub same : m ≡ n
  pub bound : n ≤ limit

pub limited_ok : (limit n m : ℕ) → limited limit n ≡ Ok m → IsLimited limit n m
limited_ok limit n m e = go (nat_le n limit) refl e where
  go : (b : Bool) → nat_le n limit ≡ b → (let r : Result ℕ OperandFault = if b then Ok n else Err OutOfRange in r) ≡ Ok m → IsLimited limit n m
  go true is f = record { same = cc; bound = grind (arith, nat_tests) }
  go false is f = cc

sized_ok : (limit : ℕ) (r : Result ℕ NumberError) (m : ℕ) → sized limit r ≡ Ok m → m ≤ limit
sized_ok limit (Ok n) m e = let l = limited_ok limit n m e in let s = l.same in let b = l.bound in omega arith
sized_ok limit (Err Malformed) m e = cc
sized_ok limit (Err TooLarge) m e = cc

-- below zero
below : (low k m : ℕ) → low ≤ 2 ^ 31 → k ≤ low → m ≡ minus 0 k → (m ≡ 0) ⊎ ((2 ^ 32 - low ≤ m) × (m < 2 ^ 32))
below low zero m small le e = inl (e ∙ refl)
below low (suc k) m small le e = inr (grind arith, grind arith)

negated_ok : (low high : ℕ) (r : Result ℕ OperandFault) (m : ℕ) → low ≤ 2 ^ 31 → ((k : ℕ) → r ≡ Ok k → k ≤ low) → negated r ≡ Ok m → IsWithin low high m
negated_ok low high (Ok k) m small le e =
    elim (below low k m small (le k refl) cc) [ inl z ↦ inl (omega arith) | inr more ↦ inr more ]
negated_ok low high (Err why) m small le e = cc

pub number_ok : (low high : ℕ) (text : List ℕ) (m : ℕ) → low ≤ 2 ^ 31 → number_in low high text ≡ Ok m → IsWithin low high m
number_ok low high text m small e = go (is_negative low text) e where
  go : (b : Bool) → (if b then negated (sized low (u32_of (number (drop 1 text)))) else sized high (u32_of (number text))) ≡ Ok m → IsWithin low high m
  go true f = negated_ok low high (sized low (u32_of (number (drop 1 text)))) m small (λ k. sized_ok low (u32_of (number (drop 1 text))) k) f
  go false f = inl (sized_ok high (u32_of (number text)) m f)

pub shifted_ok : (r : Result ℕ OperandFault) (m : ℕ) → ((k : ℕ) → r ≡ Ok k → IsWithin 0 1048575 k) → shifted r ≡ Ok m → (m < 2 ^ 32) × (m % 2 ^ 12 ≡ 0)
shifted_ok (Ok k) m within e =
    let same : k * 2 ^ 12 ≡ m = cc in
    let small : k ≤ 1048575 = elim (within k refl) [ inl le ↦ le | inr large ↦ absurd (let a = large.0 in let b = large.1 in omega arith) ] in
    (omega arith, grind arith)
shifted_ok (Err why) m within e = cc

-- even numbers
sized_even : (limit : ℕ) (o : Option ℕ) (m : ℕ) → is_odd o ≡ false → sized limit (u32_of o) ≡ Ok m → m % 2 ≡ 0
sized_even limit None m even e = cc
sized_even limit (Some n) m even e = go (nat_lt n (2 ^ 32)) e where
  go : (b : Bool) → sized limit (if b then Ok n else Err TooLarge) ≡ Ok m → m % 2 ≡ 0
  go true f = let l = limited_ok limit n m f in let s = l.same in grind (arith, nat_tests)
  go false f = cc

negated_even : (r : Result ℕ OperandFault) (m : ℕ) → ((k : ℕ) → r ≡ Ok k → (k ≤ 2 ^ 32) × (k % 2 ≡ 0)) → negated r ≡ Ok m → m % 2 ≡ 0
negated_even (Ok k) m even e = let h = even k refl in let le = h.0 in let z = h.1 in let same : minus 0 k ≡ m = cc in grind arith
negated_even (Err why) m even e = cc

pub offset_even : (low high : ℕ) (text : List ℕ) (m : ℕ) → low ≤ 2 ^ 31 → offset_in low high text ≡ Ok m → m % 2 ≡ 0
offset_even low high text m small e = go (is_negative low text) e where
  inner : (b : Bool) → (odd : Bool) → is_odd (number (if b then drop 1 text else text)) ≡ odd → (if odd then Err Bad else (if b then negated (sized low (u32_of (number (drop 1 text)))) else sized high (u32_of (number text)))) ≡ Ok m → m % 2 ≡ 0
  inner b true is f = cc
  inner true false is f =
      negated_even (sized low (u32_of (number (drop 1 text)))) m (λ k h. (let le = sized_ok low (u32_of (number (drop 1 text))) k h in omega arith, sized_even low (number (drop 1 text)) k is h)) f
  inner false false is f = sized_even high (number text) m is f

  go : (b : Bool) → (if is_odd (number (if b then drop 1 text else text)) then Err Bad else (if b then negated (sized low (u32_of (number (drop 1 text)))) else sized high (u32_of (number text)))) ≡ Ok m → m % 2 ≡ 0
  go b f = inner b (is_odd (number (if b then drop 1 text else text))) refl f

pub offset_ok : (low high : ℕ) (text : List ℕ) (m : ℕ) → low ≤ 2 ^ 31 → offset_in low high text ≡ Ok m → IsWithin low high m × (m % 2 ≡ 0)
offset_ok low high text m small e = (go (is_odd (number (unsigned low text))) e, offset_even low high text m small e) where
  go : (odd : Bool) → (if odd then Err Bad else number_in low high text) ≡ Ok m → IsWithin low high m
  go true f = cc
  go false f = number_ok low high text m small f

-- the offset to a label
four_even : (limit d m : ℕ) → limited limit (4 * d) ≡ Ok m → (m ≤ limit) × (m % 2 ≡ 0)
four_even limit d m e = let l = limited_ok limit (4 * d) m e in let s = l.same in let b = l.bound in (omega arith, grind arith)

pub offset_to_ok : (low high from to m : ℕ) → low ≤ 2 ^ 31 → offset_to low high from to ≡ Ok m → IsWithin low high m × (m % 2 ≡ 0)
offset_to_ok low high from to m small e = go (nat_lt to from) e where
  go : (b : Bool) → (if b then negated (limited low (4 * (from - to))) else limited high (4 * (to - from))) ≡ Ok m → IsWithin low high m × (m % 2 ≡ 0)
  go true f = (
    negated_ok low high (limited low (4 * (from - to))) m small (λ k h. (four_even low (from - to) k h).0) f,
    negated_even (limited low (4 * (from - to))) m (λ k h. (let le = (four_even low (from - to) k h).0 in omega arith, (four_even low (from - to) k h).1)) f,
  )
  go false f = let h = four_even high (to - from) m f in (inl h.0, h.1)

pub target_ok : (low high : ℕ) (labels : Labels) (from : ℕ) (text : List ℕ) (m : ℕ) → low ≤ 2 ^ 31 → target_in low high labels from text ≡ Ok m → IsWithin low high m × (m % 2 ≡ 0)
target_ok low high labels from text m small e = go (is_name text) e where
  found : (o : Option Label) → to_label low high from o ≡ Ok m → IsWithin low high m × (m % 2 ≡ 0)
  found None f = cc
  found (Some label) f = offset_to_ok low high from label.place m small f

  go : (b : Bool) → (if b then to_label low high from (labels text) else offset_in low high text) ≡ Ok m → IsWithin low high m × (m % 2 ≡ 0)
  go true f = found (labels text) f
  go false f = offset_ok low high text m small f
