-- A child that a part of a transfer makes fits the forest.
use Rattle.std.proofs.Common.{◌≡◌, ℕ, ◌<◌, ◌≤◌, ◌+◌, ◌-◌, ◌%◌, ◌^◌, List, ap, sym, ◌∙◌, subst, inl, inr, refl, arith}
use Rattle.std.specs.Prelude.{Bool, true, false, ◌⊎◌, ◌==◌, ◌&&◌, nat_lt, nat_le, min, max, bit_and, filter, Some, Ok, Err, if◌then◌else◌}
use Rattle.std.specs.List.{AllByRecursion, list_all}
use Rattle.std.proofs.lemmas.Bool.{and_parts, eqb-true, eq-eqb, ltb-true, leb-true, cases_lt}
use Rattle.std.proofs.lemmas.Nat.{and_assoc, and_comm, pow_pos}
use Rattle.std.proofs.Math.Nat.{zero-mod}
use Rattle.std.specs.Int.Bits.{and_self}
use Rattle.nova_range.specs.declared.range.Kind.{Kind}
use Rattle.nova_range.specs.declared.range.Kind.TheVariants.{Mem, Obj}
use Rattle.nova_range.specs.Ranges.{IsRange, overlaps}
use Rattle.nova_range.proofs.Multiples.{coarse, end_within}
use Rattle.nova_range.specs.declared.rights.Rights.{Rights}
use Rattle.nova_model.specs.Delegations.{Delegations, is_same_kind, range_of, meets, is_held_in, base_of}
use Rattle.nova_range.specs.Rights.{allows}
use Rattle.nova_model.specs.Forest.{AreApart, IsAligned, IsAlignedFor, IsForest, IsFitting, IsWithin}
use Rattle.nova_model.specs.Transfers.{source_of, dest_of, is_left, next_source, common_rights, child_of, child_range, judged}
use Rattle.nova_model.specs.declared.delegation.Derivation.{Derivation}
use Rattle.nova_model.specs.declared.transfer.Job.{Job}
use Rattle.nova_model.specs.declared.transfer.Reason.TheVariants as reason
use Rattle.law_forest.proofs.Members.{IsIn, all_at, all_weaker, filtered_in, found_in, none_any, contains_from_in}
use Rattle.law_forest.proofs.Multiples.{sum_of, difference_of, nested}

pub kinds_equal : (a b : Kind) → is_same_kind a b ≡ true → a ≡ b
kinds_equal Mem Mem h = refl
kinds_equal Obj Obj h = refl
kinds_equal Mem Obj h = absurd (cc)
kinds_equal Obj Mem h = absurd (cc)

pub kind_itself : (a b : Kind) → a ≡ b → is_same_kind a b ≡ true
kind_itself a b e = ap (is_same_kind a) (sym e) ∙ itself a
  where
    itself : (k : Kind) → is_same_kind k k ≡ true
    itself Mem = refl
    itself Obj = refl

-- what the test of a derivation that is still to be given says
pub record IsLeft (j : Job) (d : Derivation) : Type 0 where
  pub kind : d.kind ≡ j.kind
  pub giver : d.pd ≡ j.giver
  pub at_cursor : j.cursor ≤ d.base
  pub first : d.base < j.source + 2 ^ j.order
  pub second : j.source < d.base + 2 ^ d.order

pub left_facts : (j : Job) (d : Derivation) → is_left j d ≡ true → IsLeft j d
left_facts j d h =
    let a = and_parts (is_same_kind j.kind d.kind) (d.pd == j.giver && (nat_le j.cursor d.base && overlaps (range_of d) (source_of j))) h in
    let b = and_parts (d.pd == j.giver) (nat_le j.cursor d.base && overlaps (range_of d) (source_of j)) a.1 in
    let c = and_parts (nat_le j.cursor d.base) (overlaps (range_of d) (source_of j)) b.1 in
    let e = and_parts (nat_lt d.base (j.source + 2 ^ j.order)) (nat_lt j.source (d.base + 2 ^ d.order)) c.1 in
    record {
      kind = sym (kinds_equal j.kind d.kind a.0);
      giver = eqb-true d.pd j.giver b.0;
      at_cursor = leb-true j.cursor d.base c.0;
      first = ltb-true _ _ e.0;
      second = ltb-true _ _ e.1;
    }

-- what is given next is a derivation of the list that is left
pub record IsNext (list : List Derivation) (j : Job) (d : Derivation) : Type 0 where
  pub there : IsIn list d
  pub left : is_left j d ≡ true

pub next_facts : (list : List Derivation) (j : Job) (d : Derivation) → next_source list j ≡ Some d → IsNext list j d
next_facts list j d is =
    let found = found_in (λ a. list_all (λ b. nat_le (base_of a) (base_of b)) (filter (is_left j) list)) (filter (is_left j) list) d is in
    let k = filtered_in (is_left j) list d found.0 in
    record { there = k.0; left = k.1 }

-- the overlap: where it begins, and of which order it is
pub record IsOverlap (j : Job) (d : Derivation) : Type 0 where
  pub base : (j.dest + (max d.base j.source - j.source)) % 2 ^ min d.order j.order ≡ 0
  pub offset : (max d.base j.source - d.base) % 2 ^ min d.order j.order ≡ 0
  pub inside : (max d.base j.source - d.base) + 2 ^ min d.order j.order ≤ 2 ^ d.order

pub overlap_facts : (j : Job) (d : Derivation) → j.source % 2 ^ j.order ≡ 0 → j.dest % 2 ^ j.order ≡ 0 → IsLeft j d → d.base % 2 ^ d.order ≡ 0 → IsOverlap j d
overlap_facts j d source dest left base = by_order (cases_lt j.order d.order)
  where
    by_order : (j.order < d.order) ⊎ (d.order ≤ j.order) → IsOverlap j d
    by_order (inl h) =
        let order : min d.order j.order ≡ j.order = omega arith in
        let in_d = nested j.source j.order d.base d.order (omega arith) source base left.second left.first in
        let starts : max d.base j.source ≡ j.source = omega (arith, in_d.0) in
        let here : j.source - j.source ≡ 0 = omega arith in
        let at : j.dest + (j.source - j.source) ≡ j.dest = omega arith in
        record {
          base = rw (order, starts, at) dest;
          offset = rw (order, starts) (difference_of (2 ^ j.order) d.base j.source in_d.0 (coarse d.base j.order d.order (omega arith) base) source);
          inside = rw (order, starts) (omega (arith, in_d.0, in_d.1));
        }
    by_order (inr h) =
        let order : min d.order j.order ≡ d.order = omega arith in
        let in_s = nested d.base d.order j.source j.order h base source left.first left.second in
        let starts : max d.base j.source ≡ d.base = omega (arith, in_s.0) in
        let low = coarse j.source d.order j.order h source in
        let none : d.base - d.base ≡ 0 = omega arith in
        record {
          base = rw (order, starts) (sum_of (2 ^ d.order) j.dest (d.base - j.source) (coarse j.dest d.order j.order h dest)
              (difference_of (2 ^ d.order) j.source d.base in_s.0 low base));
          offset = rw (order, starts, none) (zero-mod (2 ^ d.order));
          inside = rw (order, starts) (omega arith);
        }

both_allows : (a b : ℕ) (right : ℕ) → bit_and (bit_and a b) right ≡ right → bit_and a right ≡ right
both_allows a b right h =
    let inner = bit_and b right in
    let whole : bit_and a inner ≡ right = sym (and_assoc right a b) ∙ h in
    ap (bit_and a) (sym whole) ∙ sym (and_assoc inner a a) ∙ ap (λ (k : ℕ). bit_and k inner) (and_self a) ∙ whole

child_aligned : (j : Job) (id : ℕ) (d : Derivation) → IsOverlap j d → IsAligned d → d.kind ≡ j.kind → IsAligned (child_of j id d)
child_aligned j id d over aligned kind = record { base = over.base; target = by_kind j.kind refl (subst (λ (k : Kind). IsAlignedFor k d) kind aligned.target) }
  where
    by_kind : (k : Kind) → j.kind ≡ k → IsAlignedFor k d → IsAlignedFor k (child_of j id d)
    by_kind Mem is t = sum_of (2 ^ min d.order j.order) d.target (max d.base j.source - d.base) (coarse d.target (min d.order j.order) d.order (omega arith) t) over.offset
    by_kind Obj is t = omega arith

-- a right of both is one of the first
pub child_rights : (a b : Rights) (right : ℕ) → allows (common_rights a b) right ≡ true → allows a right ≡ true
child_rights a b right h = eq-eqb (bit_and a.0 right) right (both_allows a.0 b.0 right (eqb-true (bit_and (bit_and a.0 b.0) right) right h))

-- and one of the second
pub sent_rights : (a b : Rights) (right : ℕ) → allows (common_rights a b) right ≡ true → allows b right ≡ true
sent_rights a b right h = child_rights b a right (ap (λ (n : ℕ). bit_and n right == right) (and_comm b.0 a.0) ∙ h)

child_within : (j : Job) (id : ℕ) (d : Derivation) → IsOverlap j d → d.kind ≡ j.kind → d.id < id → IsWithin (child_of j id d) d
child_within j id d over kind older = record {
  older = older;
  kind = sym kind;
  first = omega arith;
  last = omega (arith, over.inside);
  rights = child_rights d.rights j.rights;
}

-- what takes no place of another is apart from it
not_met : (x a : Derivation) → meets x.pd (range_of x) a ≡ false → a.pd ≡ x.pd → a.kind ≡ x.kind → AreApart a x
not_met x a free pd kind =
    ap (λ (b : Bool). b && overlaps (range_of a) (range_of x)) (sym (eq-eqb a.pd x.pd pd)) ∙
    ap (λ (b : Bool). b && (a.pd == x.pd && overlaps (range_of a) (range_of x))) (sym (kind_itself x.kind a.kind (sym kind))) ∙ free

pub not_held : (list : List Derivation) (x : Derivation) → is_held_in list x.pd (range_of x) ≡ false →
    AllByRecursion (λ a. a.pd ≡ x.pd → a.kind ≡ x.kind → AreApart a x) list
not_held list x free =
    all_weaker (λ a. meets x.pd (range_of x) a ≡ false) (λ a. a.pd ≡ x.pd → a.kind ≡ x.kind → AreApart a x) list (λ a h pd kind. not_met x a h pd kind)
    (none_any (meets x.pd (range_of x)) list free)

-- a child that was judged: what the tests said
pub record IsJudged (busy : Derivation → Bool) (list : List Derivation) (x y : Derivation) : Type 0 where
  pub same : y ≡ x
  pub some : (x.rights.0 == 0) ≡ false
  pub free : is_held_in list x.pd (range_of x) ≡ false
  pub idle : busy x ≡ false

pub judged_facts : (busy : Derivation → Bool) (list : List Derivation) (x y : Derivation) → judged busy list x ≡ Ok y → IsJudged busy list x y
judged_facts busy list x y h = by_tests (x.rights.0 == 0) refl (is_held_in list x.pd (range_of x)) refl (busy x) refl h
  where
    by_tests : (n : Bool) → (x.rights.0 == 0) ≡ n → (t : Bool) → is_held_in list x.pd (range_of x) ≡ t → (b : Bool) → busy x ≡ b →
        (if n then Err reason.Rights else if t then Err reason.Taken else if b then Err reason.Busy else Ok x) ≡ Ok y → IsJudged busy list x y
    by_tests true ns t ts b bs g = absurd (cc)
    by_tests false ns true ts b bs g = absurd (cc)
    by_tests false ns false ts true bs g = absurd (cc)
    by_tests false ns false ts false bs g = record { same = cc; some = ns; free = ts; idle = bs }

-- the child of what is given next fits, where no place of it is held
pub free_child_fits : (f : Delegations) (j : Job) (d : Derivation) → IsForest f → IsRange (source_of j) → IsRange (dest_of j) → next_source f.list j ≡ Some d →
    is_held_in f.list j.receiver (range_of (child_of j f.next d)) ≡ false → IsFitting f (child_of j f.next d)
free_child_fits f j d forest source dest is free =
    let next = next_facts f.list j d is in
    let facts = left_facts j d next.left in
    let aligned = all_at IsAligned f.list d forest.aligned next.there in
    let over = overlap_facts j d source.aligned dest.aligned facts aligned.base in
    let older : d.id < f.next = all_at (λ b. b.id < f.next) f.list d forest.numbered next.there in
    record {
      id = refl;
      aligned = child_aligned j f.next d over aligned facts.kind;
      parent = (d, contains_from_in f.list d next.there, refl, child_within j f.next d over facts.kind older);
      apart = not_held f.list (child_of j f.next d) free;
    }

-- a child that is judged good is the child that was looked at, and fits
pub child_fits : (busy : Derivation → Bool) (f : Delegations) (j : Job) (d x : Derivation) → IsForest f → IsRange (source_of j) → IsRange (dest_of j) →
    next_source f.list j ≡ Some d → judged busy f.list (child_of j f.next d) ≡ Ok x → (x ≡ child_of j f.next d) × IsFitting f x
child_fits busy f j d x forest source dest is ok =
    let good = judged_facts busy f.list (child_of j f.next d) x ok in
    (good.same, subst (IsFitting f) (sym good.same) (free_child_fits f j d forest source dest is good.free))

-- where the child lies is a range too
pub child_is_range : (j : Job) (d : Derivation) → IsRange (source_of j) → IsRange (dest_of j) → d.base % 2 ^ d.order ≡ 0 → is_left j d ≡ true → IsRange (child_range j d)
child_is_range j d source dest base left =
    let facts = left_facts j d left in
    let over = overlap_facts j d source.aligned dest.aligned facts base in
    let below = facts.first in
    let some = pow_pos j.order in
    let end = end_within j.dest j.order dest.order dest.aligned dest.base in
    let small = source.order in
    record { order = omega arith; aligned = over.base; base = omega arith }

-- and its targets are among those of what is given
pub child_targets : (j : Job) (id : ℕ) (d : Derivation) → IsRange (source_of j) → IsRange (dest_of j) → d.base % 2 ^ d.order ≡ 0 → is_left j d ≡ true →
    (child_of j id d).target + 2 ^ (child_of j id d).order ≤ d.target + 2 ^ d.order
child_targets j id d source dest base left =
    let over = overlap_facts j d source.aligned dest.aligned (left_facts j d left) base in
    omega (arith, over.inside)
