-- What follows from the answer.
use Rattle.std.proofs.Common.{◌≡◌, ◌≢◌, ℕ, ◌+◌, ◌<◌, ◌≤◌, Bool, true, false, ◌&&◌, ◌||◌, List, [], ◌∷◌, length, Option, Some, None, Result, Ok, Err, ap, sym, ◌∙◌, refl, subst, arith}
use Rattle.std.specs.Prelude.{if◌then◌else◌}
use Rattle.std.specs.List.{AllByRecursion}
use Rattle.std.specs.Option.{option_or}
use Rattle.std.proofs.lemmas.Bool.Decides.{nat_tests}
use Rattle.nova_elf.specs.Executable.{is_not_elf, has_other_class, has_other_order, has_other_version, is_not_exec, is_for_other_machine, has_bad_table, head_fault, first_fault, unless, program, IsRead}
use Rattle.nova_elf.specs.Fields.{word}
use Rattle.nova_elf.specs.SegmentFits.{SegmentFits}
use Rattle.nova_elf.specs.Headers.{is_dynamic, is_loaded, has_bad_segment, fault_in, or_later, first_fault_in, segment_of, segments_of, headers}
use Rattle.nova_elf.specs.declared.fault.ElfFault.{ElfFault}
use Rattle.nova_elf.specs.declared.fault.ElfFault.TheVariants.{NotElf, Class, ByteOrder, Version, NotExec, Machine, Table, Dynamic, Segment as BadSegment, Memory}
use Rattle.nova_elf.specs.declared.header.Header.{Header}
use Rattle.nova_elf.specs.declared.program.Program.{Program}
use Rattle.nova_elf.proofs.HeaderLemmas.{headers_apart}

-- where the answer is no want of memory, it is what is wanted
pub fault_read : (wanted : Result Program ElfFault) (fault : ElfFault) → fault ≢ Memory → wanted ≡ Err fault → IsRead wanted (Err fault)
fault_read wanted NotElf apart is = is
fault_read wanted Class apart is = is
fault_read wanted ByteOrder apart is = is
fault_read wanted Version apart is = is
fault_read wanted NotExec apart is = is
fault_read wanted Machine apart is = is
fault_read wanted Table apart is = is
fault_read wanted (Dynamic i) apart is = is
fault_read wanted (BadSegment i) apart is = is
fault_read wanted Memory apart is = absurd (apart refl)

-- no fault of bytes is want of memory
head_apart : (bytes : List ℕ) → head_fault bytes ≢ Some Memory
head_apart bytes = go (is_not_elf bytes) (has_other_class bytes) (has_other_order bytes) (has_other_version bytes) (is_not_exec bytes) (is_for_other_machine bytes) (has_bad_table bytes) where
  go : (a b c d e f g : Bool) → (if a then Some NotElf else (if b then Some Class else (if c then Some ByteOrder else (if d then Some Version else (if e then Some NotExec else (if f then Some Machine else (if g then Some Table else None))))))) ≢ Some Memory
  go true b c d e f g = λ is. cc
  go false true c d e f g = λ is. cc
  go false false true d e f g = λ is. cc
  go false false false true e f g = λ is. cc
  go false false false false true f g = λ is. cc
  go false false false false false true g = λ is. cc
  go false false false false false false true = λ is. cc
  go false false false false false false false = λ is. cc

or_apart : (a b : Option ElfFault) → a ≢ Some Memory → b ≢ Some Memory → option_or a b ≢ Some Memory
or_apart (Some fault) b apart more = apart
or_apart None b apart more = more

unless_apart : (fault : Option ElfFault) (p : Program) → fault ≢ Some Memory → unless fault p ≢ Err Memory
unless_apart (Some fault) p apart = λ is. apart cc
unless_apart None p apart = λ is. cc

pub program_apart : (bytes : List ℕ) → program bytes ≢ Err Memory
unfolding program first_fault
program_apart bytes = unless_apart _ _ (or_apart (head_fault bytes) (first_fault_in (length bytes) 0 (headers bytes)) (head_apart bytes) (headers_apart (length bytes) 0 (headers bytes)))

-- headers without a fault have segments that fit
none_of : (a b : Option ElfFault) → or_later a b ≡ None → (a ≡ None) × (b ≡ None)
none_of (Some fault) b is = cc
none_of None b is = (refl, is)

header_fits : (len i : ℕ) (h : Header) → fault_in len i h ≡ None → is_loaded h ≡ true → SegmentFits len (segment_of h)
header_fits len i h none loaded = go (is_dynamic h) (has_bad_segment len h) refl refl where
  go : (dynamic bad : Bool) → is_dynamic h ≡ dynamic → has_bad_segment len h ≡ bad → SegmentFits len (segment_of h)
  go true bad d b = let same : Some (Dynamic i) ≡ None = rw d at none in cc
  go false true d b = let same : Some (BadSegment i) ≡ None = rw (d, b) at none in cc
  go false false d b = record { within = grind (arith, nat_tests); room = grind (arith, nat_tests); addresses = grind (arith, nat_tests) }

pub headers_fit : (len i : ℕ) (hs : List Header) → first_fault_in len i hs ≡ None → AllByRecursion (SegmentFits len) (segments_of hs)
headers_fit len i [] none = tt
headers_fit len i (h ∷ hs) none =
    let both = none_of (fault_in len i h) (first_fault_in len (i + 1) hs) none in
    go (is_loaded h) refl both.0 (headers_fit len (i + 1) hs both.1)
  where
    go : (b : Bool) → is_loaded h ≡ b → fault_in len i h ≡ None → AllByRecursion (SegmentFits len) (segments_of hs) → AllByRecursion (SegmentFits len) (segments_of (h ∷ hs))
    go true is here rest = rw is (header_fits len i h here is, rest)
    go false is here rest = rw is rest

or_none : (a b : Option ElfFault) → option_or a b ≡ None → b ≡ None
or_none (Some fault) b is = cc
or_none None b is = is

unless_ok : (fault : Option ElfFault) (p q : Program) → unless fault p ≡ Ok q → (fault ≡ None) × (q ≡ p)
unless_ok (Some fault) p q is = cc
unless_ok None p q is = (refl, cc)

pub program_fits : (bytes : List ℕ) (p : Program) → program bytes ≡ Ok p → AllByRecursion (SegmentFits (length bytes)) p.segments
unfolding program first_fault
program_fits bytes p is =
    let both = unless_ok _ _ p is in
    rw both.1 (headers_fit (length bytes) 0 (headers bytes) (or_none (head_fault bytes) _ both.0))
