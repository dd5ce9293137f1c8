-- Touches within others: what is apart from one is apart from what is within it; and what is marked.
use Rattle.std.proofs.Common.{◌≡◌, ◌≢◌, ℕ, List, [], ◌∷◌, ◌++◌, ap, sym, ◌∙◌, subst, refl}
use Rattle.std.specs.Prelude.{Bool, true, false, ◌==◌, ◌&&◌, ◌||◌, not}
use Rattle.std.specs.List.{list_all}
use Rattle.std.proofs.lemmas.Bool.{eq-eqb, eqb-true}
use Rattle.std.proofs.lemmas.List.Folds.{list_any-append}
use Rattle.law_swaps.specs.Touches.{Touch, are_apart, has, meet}
use Rattle.nova_touching.specs.Marks.{are_apart_from, is_apart_from, is_marked, is_within}
use Rattle.nova_touching.specs.declared.marks.Mark.{Mark}

-- TESTS

or_left : (a b : Bool) → a ≡ true → (a || b) ≡ true
or_left a b is = ap (λ (t : Bool). t || b) is

or_right : (a b : Bool) → b ≡ true → (a || b) ≡ true
or_right true b is = refl
or_right false b is = is

and_both : (a b : Bool) → a ≡ true → b ≡ true → (a && b) ≡ true
and_both a b first second = ap (λ (t : Bool). t && b) first ∙ second

and_first : (a b : Bool) → (a && b) ≡ true → a ≡ true
and_first true b is = refl
and_first false b is = absurd cc

and_second : (a b : Bool) → (a && b) ≡ true → b ≡ true
and_second true b is = is
and_second false b is = absurd cc

-- NUMBERS

-- each number of the second is among the first
abbrev pub Includes : List ℕ → List ℕ → Type 0
Includes xs ys = (n : ℕ) → has ys n ≡ true → has xs n ≡ true

first_has : (x : ℕ) (xs : List ℕ) → has (x ∷ xs) x ≡ true
first_has x xs = or_left (x == x) (has xs x) (eq-eqb x x refl)

all_within : (zs ts : List ℕ) → Includes zs ts → list_all (has zs) ts ≡ true
all_within zs [] has_all = refl
all_within zs (t ∷ ts) has_all =
    and_both (has zs t) (list_all (has zs) ts) (has_all t (first_has t ts)) (all_within zs ts (λ n is. has_all n (or_right (n == t) (has ts n) is)))

all_have : (zs ts : List ℕ) → list_all (has zs) ts ≡ true → Includes zs ts
all_have zs [] all n is = absurd cc
all_have zs (t ∷ ts) all n is = by_test (n == t) refl is (λ h. all_have zs ts (and_second (has zs t) (list_all (has zs) ts) all) n h)
  where
    by_test : (b : Bool) → (n == t) ≡ b → (b || has ts n) ≡ true → (has ts n ≡ true → has zs n ≡ true) → has zs n ≡ true
    by_test true same h rest = subst (λ (m : ℕ). has zs m ≡ true) (sym (eqb-true n t same)) (and_first (has zs t) (list_all (has zs) ts) all)
    by_test false other h rest = rest h

-- TOUCHES

pub record Within (most t : Touch) : Type 0 where
  pub reads : Includes most.reads t.reads
  pub writes : Includes most.writes t.writes
  pub meets : Includes most.meets t.meets
  pub moves : most.moves ≡ false → t.moves ≡ false
  pub plain : most.is_plain ≡ true → t.is_plain ≡ true

moves_of : (a b : Bool) → (a || not b) ≡ true → a ≡ false → b ≡ false
moves_of true b is none = absurd cc
moves_of false true is none = absurd cc
moves_of false false is none = refl

of_moves : (a b : Bool) → (a ≡ false → b ≡ false) → (a || not b) ≡ true
of_moves true b h = refl
of_moves false b h = ap not (h refl)

plain_of : (a b : Bool) → (b || not a) ≡ true → a ≡ true → b ≡ true
plain_of a true is on = refl
plain_of a false is on = absurd (let off : not a ≡ false = ap not on in cc)

of_plain : (a b : Bool) → (a ≡ true → b ≡ true) → (b || not a) ≡ true
of_plain true b h = or_left b false (h refl)
of_plain false b h = or_right b true refl

pub within_of : (most t : Touch) → is_within most t ≡ true → Within most t
within_of most t is =
    let reads = list_all (has most.reads) t.reads in
    let writes = list_all (has most.writes) t.writes in
    let meets = list_all (has most.meets) t.meets in
    let moves = most.moves || not t.moves in
    let plain = t.is_plain || not most.is_plain in
    let second = and_second reads (writes && (meets && (moves && plain))) is in
    let third = and_second writes (meets && (moves && plain)) second in
    let fourth = and_second meets (moves && plain) third in record {
      reads = all_have most.reads t.reads (and_first reads (writes && (meets && (moves && plain))) is);
      writes = all_have most.writes t.writes (and_first writes (meets && (moves && plain)) second);
      meets = all_have most.meets t.meets (and_first meets (moves && plain) third);
      moves = moves_of most.moves t.moves (and_first moves plain fourth);
      plain = plain_of most.is_plain t.is_plain (and_second moves plain fourth);
    }

pub of_within : (most t : Touch) → Within most t → is_within most t ≡ true
of_within most t within =
    and_both (list_all (has most.reads) t.reads) _ (all_within most.reads t.reads within.reads)
    (and_both (list_all (has most.writes) t.writes) _ (all_within most.writes t.writes within.writes)
    (and_both (list_all (has most.meets) t.meets) _ (all_within most.meets t.meets within.meets)
    (and_both (most.moves || not t.moves) _ (of_moves most.moves t.moves within.moves) (of_plain most.is_plain t.is_plain within.plain))))

or_none : (a b : Bool) → (a || b) ≡ false → (a ≡ false) × (b ≡ false)
or_none true b is = absurd cc
or_none false b is = (refl, is)

pub itself_within : (t : Touch) → is_within t t ≡ true
itself_within t = of_within t t (record { reads = λ n is. is; writes = λ n is. is; meets = λ n is. is; moves = λ is. is; plain = λ is. is })

-- APART

meet_none : (xs ys : List ℕ) → meet xs ys ≡ false → (n : ℕ) → has xs n ≡ true → has ys n ≡ false
meet_none [] ys none n is = absurd cc
meet_none (x ∷ xs) ys none n is = by_test (n == x) refl is (λ h. meet_none xs ys (or_none (has ys x) (meet xs ys) none).1 n h)
  where
    by_test : (b : Bool) → (n == x) ≡ b → (b || has xs n) ≡ true → (has xs n ≡ true → has ys n ≡ false) → has ys n ≡ false
    by_test true same h rest = subst (λ (m : ℕ). has ys m ≡ false) (sym (eqb-true n x same)) (or_none (has ys x) (meet xs ys) none).0
    by_test false other h rest = rest h

none_meet : (xs ys : List ℕ) → ((n : ℕ) → has xs n ≡ true → has ys n ≡ true → ⊥) → meet xs ys ≡ false
none_meet [] ys none = refl
none_meet (x ∷ xs) ys none = by_test (has ys x) refl (none_meet xs ys (λ n here there. none n (or_right (n == x) (has xs n) here) there))
  where
    by_test : (b : Bool) → has ys x ≡ b → meet xs ys ≡ false → (b || meet xs ys) ≡ false
    by_test true is rest = absurd (none x (first_has x xs) is)
    by_test false is rest = rest

meet_less : (xs ys us vs : List ℕ) → Includes xs us → Includes ys vs → meet xs ys ≡ false → meet us vs ≡ false
meet_less xs ys us vs first second none = none_meet us vs (λ n here there.
    let no = meet_none xs ys none n (first n here) in let yes = second n there in absurd cc)

has_less : (xs ys : List ℕ) (n : ℕ) → Includes xs ys → has xs n ≡ false → has ys n ≡ false
has_less xs ys n all none = by_test (has ys n) refl
  where
    by_test : (b : Bool) → has ys n ≡ b → b ≡ false
    by_test true is = absurd (let yes = all n is in cc)
    by_test false is = refl

not_of : (a : Bool) → not a ≡ true → a ≡ false
not_of true is = absurd cc
not_of false is = refl

pub apart_less : (p : ℕ) (most other a b : Touch) → Within most a → Within other b → are_apart p most other ≡ true → are_apart p a b ≡ true
apart_less p most other a b first second is =
    let met = has other.meets p in
    let one = meet other.writes most.reads in
    let two = meet other.writes most.writes in
    let three = meet most.writes other.reads in
    let rest = not_of (met || (other.moves || (one || (two || three)))) (and_second most.is_plain _ is) in
    let after = or_none met (other.moves || (one || (two || three))) rest in
    let still = or_none other.moves (one || (two || three)) after.1 in
    let reads = or_none one (two || three) still.1 in
    let writes = or_none two three reads.1 in
    and_both a.is_plain _ (first.plain (and_first most.is_plain _ is))
    (ap not (all_none (has b.meets p) b.moves (meet b.writes a.reads) (meet b.writes a.writes) (meet a.writes b.reads)
    (has_less other.meets b.meets p second.meets after.0) (second.moves still.0) (meet_less other.writes most.reads b.writes a.reads second.writes first.reads reads.0)
    (meet_less other.writes most.writes b.writes a.writes second.writes first.writes writes.0) (meet_less most.writes other.reads a.writes b.reads first.writes second.reads writes.1)))
  where
    all_none : (x y z u v : Bool) → x ≡ false → y ≡ false → z ≡ false → u ≡ false → v ≡ false → (x || (y || (z || (u || v)))) ≡ false
    all_none false y z u v a b c d e = by_second y z u v b c d e
      where
        by_second : (y z u v : Bool) → y ≡ false → z ≡ false → u ≡ false → v ≡ false → (y || (z || (u || v))) ≡ false
        by_second false false false v b c d e = e
        by_second true z u v b c d e = absurd cc
        by_second false true u v b c d e = absurd cc
        by_second false false true v b c d e = absurd cc
    all_none true y z u v a b c d e = absurd cc

-- MARKS

here_or : (m : Mark) (ms : List Mark) (cpu : ℕ) (t : Touch) (P : Type 0) → is_marked (m ∷ ms) cpu t ≡ true → (m.cpu ≡ cpu → Within m.touch t → P) → (is_marked ms cpu t ≡ true → P) → P
here_or m ms cpu t P is here later = by_test ((m.cpu == cpu) && is_within m.touch t) refl is
  where
    by_test : (b : Bool) → ((m.cpu == cpu) && is_within m.touch t) ≡ b → (b || is_marked ms cpu t) ≡ true → P
    by_test true both h = here (eqb-true m.cpu cpu (and_first (m.cpu == cpu) (is_within m.touch t) both)) (within_of m.touch t (and_second (m.cpu == cpu) (is_within m.touch t) both))
    by_test false other h = later h

one_apart : (marks : List Mark) (p q : ℕ) (most a b : Touch) → p ≢ q → is_apart_from marks p most ≡ true → Within most a → is_marked marks q b ≡ true → are_apart p a b ≡ true
one_apart [] p q most a b other apart within is = absurd cc
one_apart (m ∷ ms) p q most a b other apart within is =
    here_or m ms q b (are_apart p a b ≡ true) is (λ same inner. by_test same inner (m.cpu == p) refl (and_first _ (is_apart_from ms p most) apart))
    (λ later. one_apart ms p q most a b other (and_second ((m.cpu == p) || are_apart p most m.touch) (is_apart_from ms p most) apart) within later)
  where
    by_test : m.cpu ≡ q → Within m.touch b → (t : Bool) → (m.cpu == p) ≡ t → (t || are_apart p most m.touch) ≡ true → are_apart p a b ≡ true
    by_test same inner true own h = absurd (other (sym (eqb-true m.cpu p own) ∙ same))
    by_test same inner false far h = apart_less p most m.touch a b within inner h

pub all_apart : (marks lone : List Mark) (p q : ℕ) (a b : Touch) → are_apart_from marks lone ≡ true → p ≢ q → is_marked lone p a ≡ true → is_marked marks q b ≡ true → are_apart p a b ≡ true
all_apart marks [] p q a b apart other is there = absurd cc
all_apart marks (m ∷ ms) p q a b apart other is there =
    here_or m ms p a (are_apart p a b ≡ true) is
    (λ same inner. one_apart marks p q m.touch a b other (subst (λ (c : ℕ). is_apart_from marks c m.touch ≡ true) same (and_first (is_apart_from marks m.cpu m.touch) (are_apart_from marks ms) apart)) inner there)
    (λ later. all_apart marks ms p q a b (and_second (is_apart_from marks m.cpu m.touch) (are_apart_from marks ms) apart) other later there)

-- a mark of a processor that joins, or that comes to touch more
pub marked_last : (marks : List Mark) (m : Mark) → is_marked (marks ++ m ∷ []) m.cpu m.touch ≡ true
marked_last marks m = list_any-append (λ (x : Mark). (x.cpu == m.cpu) && is_within x.touch m.touch) marks (m ∷ [])
    ∙ or_right (is_marked marks m.cpu m.touch) _ (or_left _ false (and_both (m.cpu == m.cpu) _ (eq-eqb m.cpu m.cpu refl) (itself_within m.touch)))

pub marked_more : (marks : List Mark) (m : Mark) (p : ℕ) (t : Touch) → is_marked marks p t ≡ true → is_marked (marks ++ m ∷ []) p t ≡ true
marked_more marks m p t is = list_any-append (λ (x : Mark). (x.cpu == p) && is_within x.touch t) marks (m ∷ []) ∙ or_left (is_marked marks p t) _ is
