-- How many of the states have each outcome, place by place.
use Rattle.std.proofs.Common.{◌≡◌, ◌∙◌, ℕ, zero, suc, ◌+◌, ◌<◌, ◌≤◌, List, [], ◌∷◌, ◌++◌, length, take, refl, ap, ap₂, subst, sym, arith}
use Rattle.std.specs.Prelude.{Bool, true, false, ◌&&◌, Contains, slice_index_or, slice_set}
use Rattle.std.specs.List.{AllByRecursion, count_by}
use Rattle.std.specs.Str.{bytes_eq}
use Rattle.std.proofs.lemmas.List.{length-map, length-take-le}
use Rattle.std.proofs.lemmas.List.Sums.{count_by-le-length, count_by_more_no, count_by_more_yes}
use Rattle.std.proofs.lemmas.Slice.Eq.{bytes_eq-Decides}
use Rattle.nova_model.specs.Choice.{is_quiet}
use Rattle.nova_model.specs.State.{KernelState}
use Rattle.nova_asking.specs.Answers.{AreCounted, AreDistinct, EndsSo, has_ended_so, outcomes}
use Rattle.nova_asking.specs.Outcomes.{outcome}
use Rattle.nova_asking.specs.Searched.{one_more}
use Rattle.nova_asking.specs.declared.ends.End.{End}
use Rattle.nova_asking.proofs.Ended.{all_more, outcome_of}

both : (a b : Bool) → a && b ≡ true → (a ≡ true) × (b ≡ true)
both true b is = (refl, is)
both false b is = absurd (cc)

so_by : (text : List ℕ) (s : KernelState) → has_ended_so text s ≡ true → EndsSo s text
so_by text s is =
    let two = both (is_quiet s) (bytes_eq (outcome s) text) is in
    record { quiet = two.0; outcome = sym ((bytes_eq-Decides (outcome s) text).0 two.1) }

by_so : (text : List ℕ) (s : KernelState) → EndsSo s text → has_ended_so text s ≡ true
by_so text s ends = ap₂ (λ (a b : Bool). a && b) ends.quiet ((bytes_eq-Decides (outcome s) text).1 (sym ends.outcome))

not_so : (text : List ℕ) (s : KernelState) → (EndsSo s text → ⊥) → has_ended_so text s ≡ false
not_so text s not = by_test (has_ended_so text s) refl
  where
    by_test : (b : Bool) → has_ended_so text s ≡ b → has_ended_so text s ≡ false
    by_test true is = absurd (not (so_by text s is))
    by_test false is = is

count_none : (p : KernelState → Bool) (xs : List KernelState) (n : ℕ) (d : KernelState) → n ≤ length xs → ((i : ℕ) → i < n → p (slice_index_or xs i d) ≡ false) → count_by p (take n xs) ≡ 0
count_none p xs zero d most none = refl
count_none p xs (suc n) d most none =
    ap (λ (m : ℕ). count_by p (take m xs)) (let e : suc n ≡ n + 1 = omega arith in e)
    ∙ count_by_more_no p xs n d (omega (arith, most)) (none n (omega arith))
    ∙ count_none p xs n d (omega (arith, most)) (λ i less. none i (omega (arith, less)))

abbrev IsNot : KernelState → End → Type 0
IsNot s e = has_ended_so (outcome_of e) s ≡ false

-- a state that ends none of these so
all_still : (states : List KernelState) (place : ℕ) (d : KernelState) (ends : List End) → place < length states → AllByRecursion (IsNot (slice_index_or states place d)) ends →
    AreCounted (take place states) ends → AreCounted (take (place + 1) states) ends
all_still states place d [] less none are = tt
all_still states place d (e ∷ ends) less none are =
    (are.0 ∙ sym (count_by_more_no (has_ended_so (outcome_of e)) states place d less none.0), all_still states place d ends less none.1 are.1)

none_quiet : (ends : List End) (s : KernelState) → is_quiet s ≡ false → AllByRecursion (IsNot s) ends
none_quiet [] s not = tt
none_quiet (e ∷ ends) s not = (ap (λ (b : Bool). b && bytes_eq (outcome s) (outcome_of e)) not, none_quiet ends s not)

-- the run hasn't ended in the state at a place
pub unquiet_counts : (states : List KernelState) (place : ℕ) (d : KernelState) (ends : List End) → place < length states → is_quiet (slice_index_or states place d) ≡ false →
    AreCounted (take place states) ends → AreCounted (take (place + 1) states) ends
unquiet_counts states place d ends less not are = all_still states place d ends less (none_quiet ends (slice_index_or states place d) not) are

none_other : (ends : List End) (s : KernelState) (text : List ℕ) → text ≡ outcome s → (Contains (outcomes ends) text → ⊥) → AllByRecursion (IsNot s) ends
none_other [] s text is new = tt
none_other (e ∷ ends) s text is new = (
  not_so (outcome_of e) s (λ so. new (0, omega arith, so.outcome ∙ sym is)),
  none_other ends s text is (λ there. new (suc there.0, (let less = there.1 in omega (arith, less)), there.2)),
)

-- it has, with the outcome of an end
pub more_counts : (states : List KernelState) (place : ℕ) (d : KernelState) (ends : List End) (at : ℕ) (x : End) (text : List ℕ) → place < length states →
    is_quiet (slice_index_or states place d) ≡ true → text ≡ outcome (slice_index_or states place d) → at < length ends → slice_index_or (outcomes ends) at text ≡ text →
    AreDistinct (outcomes ends) → AreCounted (take place states) ends → AreCounted (take (place + 1) states) (slice_set ends at (one_more (slice_index_or ends at x)))
more_counts states place d [] at x text less quiet same there is once are = absurd (omega (arith, there))
more_counts states place d (e ∷ ends) zero x text less quiet same there is once are = (
  ap (λ (n : ℕ). n + 1) are.0
      ∙ sym (count_by_more_yes (has_ended_so (outcome_of e)) states place d less
      (by_so (outcome_of e) (slice_index_or states place d) (record { quiet = quiet; outcome = is ∙ same }))),
  all_still states place d ends less
      (none_other ends (slice_index_or states place d) text same (λ rest. once.0 (subst (λ (t : List ℕ). Contains (outcomes ends) t) (sym is) rest))) are.1,
)
more_counts states place d (e ∷ ends) (suc at) x text less quiet same there is once are = (
  are.0 ∙ sym (count_by_more_no (has_ended_so (outcome_of e)) states place d less (not_so (outcome_of e) (slice_index_or states place d) other)),
  more_counts states place d ends at x text less quiet same (omega (arith, there)) is once.1 are.1,
)
  where
    other : EndsSo (slice_index_or states place d) (outcome_of e) → ⊥
    other so =
        once.0 (subst (λ (t : List ℕ). Contains (outcomes ends) t) (same ∙ sym so.outcome)
        (at, (let long = length-map ends outcome_of in omega (arith, there, long)), is))

-- it has, with the outcome of none
pub new_counts : (states : List KernelState) (place : ℕ) (d : KernelState) (ends : List End) (e : End) → place < length states → is_quiet (slice_index_or states place d) ≡ true →
    outcome_of e ≡ outcome (slice_index_or states place d) → (Contains (outcomes ends) (outcome_of e) → ⊥) →
    ((i : ℕ) (y : KernelState) → i < place → EndsSo (slice_index_or states i y) (outcome_of e) → ⊥) → e.states ≡ 1 → AreCounted (take place states) ends →
    AreCounted (take (place + 1) states) (ends ++ e ∷ [])
new_counts states place d ends e less quiet same new before one are =
    all_more (λ (x : End). x.states ≡ count_by (has_ended_so x.outcome.items) (take (place + 1) states)) ends e
    (all_still states place d ends less (none_other ends (slice_index_or states place d) (outcome_of e) same new) are)
    (one
    ∙ sym (count_by_more_yes (has_ended_so (outcome_of e)) states place d less (by_so (outcome_of e) (slice_index_or states place d) (record { quiet = quiet; outcome = same }))
    ∙ ap (λ (n : ℕ). n + 1) (count_none (has_ended_so (outcome_of e)) states place d (omega (arith, less))
    (λ i is. not_so (outcome_of e) (slice_index_or states i d) (before i d is)))))

-- no end has more states than there are
pub room_at : (states : List KernelState) (place at : ℕ) (x : End) (ends : List End) → place ≤ length states → at < length ends → AreCounted (take place states) ends →
    (slice_index_or ends at x).states ≤ place
room_at states place at x [] most there are = absurd (omega (arith, there))
room_at states place zero x (e ∷ ends) most there are =
    let few = count_by-le-length (has_ended_so (outcome_of e)) (take place states) in
    let long = length-take-le place states most in
    let is = are.0 in
    omega (arith, is, few, long)
room_at states place (suc at) x (e ∷ ends) most there are = room_at states place at x ends most (omega (arith, there)) are.1

pub seen_again : (states : List KernelState) (place : ℕ) (d : KernelState) (ends news : List End) (at : ℕ) (text : List ℕ) → length states < 18446744073709551616 → place < length states →
    is_quiet (slice_index_or states place d) ≡ true → text ≡ outcome (slice_index_or states place d) → at < length ends → ((t : List ℕ) → slice_index_or (outcomes ends) at t ≡ text) →
    AreDistinct (outcomes ends) → AreCounted (take place states) ends →
    ((x : End) → (slice_index_or ends at x).states + 1 < 18446744073709551616 → news ≡ slice_set ends at (one_more (slice_index_or ends at x))) → AreCounted (take (place + 1) states) news
seen_again states place d [] news at text few less quiet same there is once are more = absurd (omega (arith, there))
seen_again states place d (e ∷ ends) news at text few less quiet same there is once are more =
    let most = room_at states place at e (e ∷ ends) (omega (arith, less)) there are in
    subst (λ (l : List End). AreCounted (take (place + 1) states) l) (sym (more e (omega (arith, most, few, less))))
    (more_counts states place d (e ∷ ends) at e text less quiet same there (is text) once are)

take_all : (n : ℕ) (xs : List KernelState) → length xs ≤ n → take n xs ≡ xs
take_all zero [] most = refl
take_all zero (x ∷ xs) most = absurd (omega (arith, most))
take_all (suc n) [] most = refl
take_all (suc n) (x ∷ xs) most = ap (λ (l : List KernelState). x ∷ l) (take_all n xs (omega (arith, most)))

pub all_counted : (states : List KernelState) (place : ℕ) (ends : List End) → length states ≤ place → AreCounted (take place states) ends → AreCounted states ends
all_counted states place ends most are = subst (λ (l : List KernelState). AreCounted l ends) (take_all place states most) are
