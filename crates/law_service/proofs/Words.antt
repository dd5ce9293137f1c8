-- What a reply gives on or has written back is told by the words that it gives on, with zeros for all others.
use Rattle.std.proofs.Common.{◌≡◌, ◌<◌, ℕ, ◌+◌, ◌%◌, ◌^◌, List, length, get_or, refl, sym, ap, ap₂, ◌∙◌, subst, arith}
use Rattle.std.specs.Prelude.{◌==◌, ◌||◌, ◌&&◌, Bool, true, false, nat_le, nat_lt, if◌then◌else◌}
use Rattle.std.proofs.lemmas.Bool.Decides.{nat_tests}
use Rattle.rv_model.specs.Registers.{Registers}
use Rattle.nova_range.specs.Mtds.{names}
use Rattle.nova_range.specs.declared.mtd.Mtd.{Mtd}
use Rattle.nova_range.specs.declared.mtd.TheConstants.Mtd.{PC, LOW, HIGH}
use Rattle.nova_utcb.specs.Messages.{copied, groups_in, is_given, register_back, renewed, word, written_back}
use Rattle.nova_utcb.proofs.Ruled.{get_ruled, is_ruled, length_ruled, ruled_alike}
use Rattle.nova_model.specs.State.{no_words}
use Rattle.nova_utcb.proofs.CopyLaws.{rule}
use Rattle.law_service.specs.Service.{is_returned, returned}

-- A COPY

given_at : (from to : List ℕ) (i : ℕ) → i < length to → is_given from i ≡ true → word (copied from to) i ≡ word from i
unfolding copied
given_at from to i within e = get_ruled (rule from) to i 0 within ∙ grind (arith, e)

pub copied_through : (from between to : List ℕ) → 0 < length between → length to ≡ length between → copied (copied from between) to ≡ copied from to
unfolding copied
copied_through from between to some size = is_ruled (rule from) to (copied (copied from between) to) (length_ruled (rule (copied from between)) to) each
  where
    number : is_given (copied from between) ≡ is_given from
    number = ap (λ w. λ i. (i == 0) || (nat_le 4 i && nat_lt i (4 + w % 2 ^ 16))) (given_at from between 0 some refl)

    each : (i d : ℕ) → i < length to → get_or (copied (copied from between) to) i d ≡ rule from i (get_or to i d)
    each i d within =
        let is = get_ruled (rule (copied from between)) to i d within in
        let same = given_at from between i (omega (arith, within, size)) in
        let alike = ap (λ f. f i) number in
        grind (arith, is, same, alike)

-- WRITING BACK

sized : length no_words ≡ 128
sized = refl

returned_at : (m : List ℕ) (i : ℕ) → i < 128 → is_returned m i ≡ true → word (returned m) i ≡ word m i
unfolding returned
returned_at m i within e =
    get_ruled (λ j stays. if is_returned m j then word m j else stays) no_words i 0 (subst (λ (n : ℕ). i < n) (sym sized) within)
    ∙ ap (λ (t : Bool). if t then word m i else get_or no_words i 0) e

groups_so : (m : List ℕ) → groups_in (returned m) ≡ groups_in m
groups_so m = ap (λ (w : ℕ). record { 0 = w }) (returned_at m 4 (omega arith) refl)

renewed_by : (m : List ℕ) (group : Mtd) (n stays : ℕ) (t : Bool) → names (groups_in m) group ≡ t → (t ≡ true → word (returned m) n ≡ word m n) →
    (if t then word (returned m) n else stays) ≡ (if t then word m n else stays)
renewed_by m group n stays true is same = same refl
renewed_by m group n stays false is same = refl

renewed_so : (m : List ℕ) (group : Mtd) (n stays : ℕ) → n < 128 → (names (groups_in m) group ≡ true → is_returned m n ≡ true) → renewed (returned m) group n stays ≡ renewed m group n stays
renewed_so m group n stays within named =
    ap (λ (g : Mtd). if names g group then word (returned m) n else stays) (groups_so m)
    ∙ renewed_by m group n stays (names (groups_in m) group) refl (λ is. returned_at m n within (named is))

-- of four tests one passes
by_second : (a b c d : Bool) → b ≡ true → (a || (b || (c || d))) ≡ true
by_second true b c d h = refl
by_second false true c d h = refl
by_second false false c d h = absurd (cc)

by_third : (a b c d : Bool) → c ≡ true → (a || (b || (c || d))) ≡ true
by_third true b c d h = refl
by_third false true c d h = refl
by_third false false true d h = refl
by_third false false false d h = absurd (cc)

by_fourth : (a b c d : Bool) → d ≡ true → (a || (b || (c || d))) ≡ true
by_fourth true b c d h = refl
by_fourth false true c d h = refl
by_fourth false false true d h = refl
by_fourth false false false d h = h

register_so : (m : List ℕ) (i stays : ℕ) → register_back (returned m) i stays ≡ register_back m i stays
register_so m i stays = by_tests (nat_le 1 i && nat_le i 15) refl (nat_le 16 i && nat_le i 31) refl
  where
    low : (nat_le 1 i && nat_le i 15) ≡ true → renewed (returned m) LOW (8 + i) stays ≡ renewed m LOW (8 + i) stays
    low is =
        let below : 8 + i < 128 = grind (arith, nat_tests, is) in
        let places : (nat_le 9 (8 + i) && nat_le (8 + i) 23) ≡ true = grind (arith, nat_tests, is) in
        renewed_so m LOW (8 + i) stays below
        (λ named. by_third ((8 + i) == 4) (((8 + i) == 7) && names (groups_in m) PC) _ _ (ap₂ (λ (t u : Bool). t && u) places named))

    high : (nat_le 16 i && nat_le i 31) ≡ true → renewed (returned m) HIGH (8 + i) stays ≡ renewed m HIGH (8 + i) stays
    high is =
        let below : 8 + i < 128 = grind (arith, nat_tests, is) in
        let places : (nat_le 24 (8 + i) && nat_le (8 + i) 39) ≡ true = grind (arith, nat_tests, is) in
        renewed_so m HIGH (8 + i) stays below
        (λ named. by_fourth ((8 + i) == 4) (((8 + i) == 7) && names (groups_in m) PC) ((nat_le 9 (8 + i) && nat_le (8 + i) 23) && names (groups_in m) LOW) _ (ap₂ (λ (t u : Bool). t && u) places named))

    by_tests : (t : Bool) → (nat_le 1 i && nat_le i 15) ≡ t → (u : Bool) → (nat_le 16 i && nat_le i 31) ≡ u →
        (if t then renewed (returned m) LOW (8 + i) stays else if u then renewed (returned m) HIGH (8 + i) stays else stays)
        ≡ (if t then renewed m LOW (8 + i) stays else if u then renewed m HIGH (8 + i) stays else stays)
    by_tests true is u of_ = low is
    by_tests false is true of_ = high of_
    by_tests false is false of_ = refl

pub back_so : (m : List ℕ) (r : Registers) → written_back (returned m) r ≡ written_back m r
unfolding written_back
back_so m r =
    ap₂ (λ (pc : ℕ) (x : List ℕ). record { pc = pc; x = x })
    (renewed_so m PC 7 r.pc (omega arith) (λ named. by_second false (names (groups_in m) PC) ((nat_le 9 7 && nat_le 7 23) && names (groups_in m) LOW) ((nat_le 24 7 && nat_le 7 39) && names (groups_in m) HIGH) named)) (ruled_alike (register_back (returned m)) (register_back m) r.x (register_so m))
