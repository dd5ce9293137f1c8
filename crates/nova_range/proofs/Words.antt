-- Range words: what is written is read back, and a word that isn't null is the only one of what is read from it.
use Rattle.std.proofs.Common.{◌≡◌, ◌<◌, ◌≤◌, ℕ, ◌+◌, ◌*◌, ◌%◌, ◌^◌, ◌==◌, if◌then◌else◌, Bool, true, false, Option, Some, None, Result, Ok, Err, IfOk, refl, ap, subst, ◌∙◌, arith}
use Rattle.std.proofs.lemmas.Bool.Decides.{nat_tests}
use Rattle.nova_range.specs.Rights.{rights_of}
use Rattle.nova_range.specs.RangeWords.{type_in, rights_in, order_in, base_in, type_of, kind_in, fault_in, fields_of, unless, meaning_of, HasWord, word_of}
use Rattle.nova_range.specs.declared.range.Kind.{Kind}
use Rattle.nova_range.specs.declared.range.Kind.TheVariants.{Mem, Obj}
use Rattle.nova_range.specs.declared.range.Range.{Range}
use Rattle.nova_range.specs.declared.rights.Rights.{Rights}
use Rattle.nova_range.specs.declared.word.WordFault.{WordFault}

-- a word with these fields
record HasFields (word type rights order base : ℕ) : Type 0 where
  type_is : type_in word ≡ type
  rights_are : rights_in word ≡ rights
  order_is : order_in word ≡ order
  base_is : base_in word ≡ base

fields : (base order rights type : ℕ) → base < 2 ^ 20 → order < 2 ^ 5 → rights < 2 ^ 5 → type < 2 ^ 2 →
    HasFields (base * 2 ^ 12 + order * 2 ^ 7 + rights * 2 ^ 2 + type) type rights order base
fields base order rights type b o r t = record {
  type_is = grind arith;
  rights_are = grind arith;
  order_is = grind arith;
  base_is = grind arith;
}

read : (kind : Kind) (word rights order base : ℕ) → HasFields word (type_of kind) rights order base → order ≤ 20 → base % 2 ^ order ≡ 0 →
    meaning_of word ≡ Ok (Some (record { kind = kind; base = base; order = order }, rights_of rights))
read Mem word rights order base has h aligned = rw (has.type_is, has.order_is, has.base_is, has.rights_are) (grind (arith, nat_tests))
read Obj word rights order base has h aligned = rw (has.type_is, has.order_is, has.base_is, has.rights_are) (grind (arith, nat_tests))

small : (kind : Kind) → type_of kind < 2 ^ 2
small Mem = omega arith
small Obj = omega arith

pub again : (x : Option (Range × Rights)) → HasWord x → meaning_of (word_of x) ≡ Ok x
again None has = refl
again (Some (range, rights)) (is_range, is_rights) =
    let order = is_range.order in
    read range.kind (word_of (Some (range, rights))) rights.0 range.order range.base
    (fields range.base range.order rights.0 (type_of range.kind) is_range.base (omega arith) is_rights (small range.kind))
    order is_range.aligned

pub fits : (x : Option (Range × Rights)) → HasWord x → word_of x < 2 ^ 32
fits None has = omega arith
fits (Some (range, rights)) (is_range, is_rights) =
    let order = is_range.order in
    let base = is_range.base in
    let type = small range.kind in
    omega arith

-- a word that is read has no fault, and what is read stands in its fields
unless_read : (fault : Option WordFault) (found x : Range × Rights) → unless fault found ≡ Ok (Some x) → (fault ≡ None) × (found ≡ x)
unless_read None found x e = (refl, cc)
unless_read (Some fault) found x e = cc

not_null : (null : Bool) (other : Result (Option (Range × Rights)) WordFault) (x : Range × Rights) →
    (if null then Ok None else other) ≡ Ok (Some x) → (null ≡ false) × (other ≡ Ok (Some x))
not_null true other x e = cc
not_null false other x e = (refl, e)

record IsSoundWord (word : ℕ) : Type 0 where
  not_two : type_in word ≡ 2 → ⊥
  order_is : order_in word ≤ 20
  aligned : base_in word % 2 ^ order_in word ≡ 0

without_fault : (word : ℕ) → fault_in word ≡ None → IsSoundWord word
without_fault word e = record {
  not_two = (λ two. grind (arith, nat_tests));
  order_is = grind (arith, nat_tests);
  aligned = grind (arith, nat_tests);
}

type_again : (word : ℕ) → (type_in word ≡ 0 → ⊥) → (type_in word ≡ 2 → ⊥) → type_of (kind_in word) ≡ type_in word
type_again word not_zero not_two = kinds (type_in word == 1) refl where
  kinds : (one : Bool) → (type_in word == 1) ≡ one → type_of (if one then Mem else Obj) ≡ type_in word
  kinds true is = grind (arith, nat_tests)
  kinds false is = grind (arith, nat_tests)

fields_again : (word : ℕ) → word < 2 ^ 32 → base_in word * 2 ^ 12 + order_in word * 2 ^ 7 + rights_in word * 2 ^ 2 + type_in word ≡ word
fields_again word below = grind arith

-- what is read has a word, and it is the word that it was read from
record IsReading (word : ℕ) (x : Range × Rights) : Type 0 where
  found : fields_of word ≡ x
  some_type : type_in word ≡ 0 → ⊥
  sound : IsSoundWord word

reading : (word : ℕ) (x : Range × Rights) → meaning_of word ≡ Ok (Some x) → IsReading word x
reading word x e =
    let some = not_null (type_in word == 0) (unless (fault_in word) (fields_of word)) x e in
    let none = unless_read (fault_in word) (fields_of word) x some.1 in
    record { found = none.1; some_type = (λ zero. grind (arith, nat_tests, some.0)); sound = without_fault word none.0 }

pub only : (word : ℕ) (x : Range × Rights) → word < 2 ^ 32 → meaning_of word ≡ Ok (Some x) → word_of (Some x) ≡ word
only word x below e =
    let is = reading word x e in
    let type = type_again word is.some_type is.sound.not_two in
    subst (λ y. word_of (Some y) ≡ word) is.found
    (ap (λ t. base_in word * 2 ^ 12 + order_in word * 2 ^ 7 + rights_in word * 2 ^ 2 + t) type ∙ fields_again word below)

sound_at : (word : ℕ) (x : Range × Rights) → meaning_of word ≡ Ok (Some x) → HasWord (Some x)
sound_at word x e =
    let is = reading word x e in
    subst (λ y. HasWord (Some y)) is.found
    (record { order = is.sound.order_is; aligned = is.sound.aligned; base = grind arith }, grind arith)

pub sound : (word : ℕ) → IfOk (meaning_of word) HasWord
sound word = by_reading (meaning_of word) refl where
  by_reading : (read : Result (Option (Range × Rights)) WordFault) → meaning_of word ≡ read → IfOk read HasWord
  by_reading (Ok (Some x)) e = sound_at word x e
  by_reading (Ok None) e = tt
  by_reading (Err fault) e = tt
