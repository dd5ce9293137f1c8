-- The headers that are left, one after another, and their faults.
use Rattle.std.proofs.Common.{◌≡◌, ◌≢◌, ℕ, suc, ◌+◌, ◌-◌, ◌*◌, ◌<◌, ◌≤◌, Bool, true, false, List, [], ◌∷◌, ◌++◌, Option, Some, None, ap, ◌∙◌, refl, append_assoc, arith}
use Rattle.std.specs.Prelude.{if◌then◌else◌}
use Rattle.nova_elf.specs.Fields.{half, word}
use Rattle.nova_elf.specs.Headers.{is_dynamic, is_loaded, segments_of, has_bad_segment, header_of, headers_from, headers, or_later, fault_in, first_fault_in}
use Rattle.nova_elf.specs.declared.fault.ElfFault.{ElfFault}
use Rattle.nova_elf.specs.declared.fault.ElfFault.TheVariants.{Dynamic, Segment, Memory}
use Rattle.nova_elf.specs.declared.header.Header.{Header}
use Rattle.nova_elf.specs.declared.program.Segment.{Segment as SegmentOf}

-- those from the header of a number on
abbrev pub headers_left : List ℕ → ℕ → List Header
headers_left bytes i = headers_from bytes (word bytes 28 + 32 * i) (half bytes 44 - i)

pub all_left : (bytes : List ℕ) → headers_left bytes 0 ≡ headers bytes
all_left bytes =
    let place : word bytes 28 + 32 * 0 ≡ word bytes 28 = omega arith in
    let count : half bytes 44 - 0 ≡ half bytes 44 = omega arith in
    rw (place, count) refl

pub none_left : (bytes : List ℕ) (i : ℕ) → half bytes 44 ≤ i → headers_left bytes i ≡ []
none_left bytes i past =
    let none : half bytes 44 - i ≡ 0 = omega arith in
    ap (headers_from bytes (word bytes 28 + 32 * i)) none

pub one_left : (bytes : List ℕ) (i : ℕ) → i < half bytes 44 → headers_left bytes i ≡ header_of bytes i ∷ headers_left bytes (i + 1)
one_left bytes i below =
    let left : half bytes 44 - i ≡ suc (half bytes 44 - (i + 1)) = omega arith in
    let place : (word bytes 28 + 32 * i) + 32 ≡ word bytes 28 + 32 * (i + 1) = omega arith in
    ap (headers_from bytes (word bytes 28 + 32 * i)) left
    ∙ ap (λ p. header_of bytes i ∷ headers_from bytes p (half bytes 44 - (i + 1))) place

pub one_more : (before : List SegmentOf) (h : Header) (hs : List Header) → (before ++ segments_of (h ∷ [])) ++ segments_of hs ≡ before ++ segments_of (h ∷ hs)
one_more before h hs = append_assoc before (segments_of (h ∷ [])) (segments_of hs) ∙ ap (λ s. before ++ s) (go (is_loaded h) refl) where
  go : (b : Bool) → is_loaded h ≡ b → segments_of (h ∷ []) ++ segments_of hs ≡ segments_of (h ∷ hs)
  go true is = rw is refl
  go false is = rw is refl

-- no fault of a header is want of memory
fault_apart : (len i : ℕ) (h : Header) → fault_in len i h ≢ Some Memory
fault_apart len i h = go (is_dynamic h) (has_bad_segment len h) where
  go : (dynamic bad : Bool) → (if dynamic then Some (Dynamic i) else (if bad then Some (Segment i) else None)) ≢ Some Memory
  go true bad = λ e. cc
  go false true = λ e. cc
  go false false = λ e. cc

later_apart : (here later : Option ElfFault) → here ≢ Some Memory → later ≢ Some Memory → or_later here later ≢ Some Memory
later_apart (Some fault) later apart more = apart
later_apart None later apart more = more

pub headers_apart : (len i : ℕ) (hs : List Header) → first_fault_in len i hs ≢ Some Memory
headers_apart len i [] = λ e. cc
headers_apart len i (h ∷ hs) = later_apart (fault_in len i h) (first_fault_in len (i + 1) hs) (fault_apart len i h) (headers_apart len (i + 1) hs)
