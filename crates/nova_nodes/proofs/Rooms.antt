-- For how many more there is room: in the spaces of a domain, and in those of all.
use Rattle.std.proofs.Common.{◌≡◌, ℕ, ◌≤◌, ◌+◌, List, [], ◌∷◌, refl, arith, subst, sym, ap, ◌∙◌}
use Rattle.std.specs.Prelude.{◌==◌, Bool, true, false, slice_get, map, zero, suc, Option, Some, None, Result, Ok, Err, OnErr}
use Rattle.std.proofs.lemmas.Bool.{eqb-true, eq-eqb}
use Rattle.std.proofs.lemmas.List.Sums.{sum_by-cons}
use Rattle.nova_nodes.specs.Spaces.{SpaceState, room_in, room_at, shown_room, total_room}
use Rattle.nova_nodes.specs.NodesStates.{or_none}

-- what is shown of a domain is the room in its spaces

pub shown_is : (spaces : List (Option SpaceState)) (pd : ℕ) → or_none (slice_get (map shown_room spaces) pd) ≡ room_at spaces pd
shown_is [] zero = refl
shown_is [] (suc pd) = refl
shown_is (None ∷ spaces) zero = refl
shown_is (Some s ∷ spaces) zero = refl
shown_is (s ∷ spaces) (suc pd) = shown_is spaces pd

pub shown_at : (rooms : List (Option ℕ)) (spaces : List (Option SpaceState)) (pd : ℕ) → rooms ≡ map shown_room spaces → or_none (slice_get rooms pd) ≡ room_at spaces pd
shown_at rooms spaces pd seen = ap (λ rs. or_none (slice_get rs pd)) seen ∙ shown_is spaces pd

pub shown_more : (rooms : List (Option ℕ)) (spaces others : List (Option SpaceState)) (pd : ℕ) → rooms ≡ map shown_room spaces → room_at spaces pd ≤ room_at others pd →
    or_none (slice_get rooms pd) ≤ or_none (slice_get (map shown_room others) pd)
shown_more rooms spaces others pd seen h =
    let before = shown_at rooms spaces pd seen in
    let after = shown_is others pd in
    omega arith

pub shown_less : (rooms : List (Option ℕ)) (spaces others : List (Option SpaceState)) (pd : ℕ) → rooms ≡ map shown_room spaces → room_at spaces pd ≤ room_at others pd + 1 →
    or_none (slice_get rooms pd) ≤ or_none (slice_get (map shown_room others) pd) + 1
shown_less rooms spaces others pd seen h =
    let before = shown_at rooms spaces pd seen in
    let after = shown_is others pd in
    omega arith

-- where no other domain's room changes
pub shown_all : (rooms : List (Option ℕ)) (spaces others : List (Option SpaceState)) (pd : ℕ) → rooms ≡ map shown_room spaces → room_at spaces pd ≤ room_at others pd →
    ((other : ℕ) → ¬ (other ≡ pd) → room_at others other ≡ room_at spaces other) → (other : ℕ) → or_none (slice_get rooms other) ≤ or_none (slice_get (map shown_room others) other)
shown_all rooms spaces others pd seen h same other = shown_more rooms spaces others other seen (by_test (other == pd) refl)
  where
    by_test : (t : Bool) → (other == pd) ≡ t → room_at spaces other ≤ room_at others other
    by_test true is = let e = eqb-true other pd is in subst (λ k. room_at spaces k ≤ room_at others k) (sym e) h
    by_test false is = let e = same other (λ k. let is_it = eq-eqb other pd k in absurd (cc)) in omega arith

pub on_err : {T E P : Type 0} (r : Result T E) → P → OnErr r P
on_err (Ok x) p = tt
on_err (Err e) p = p

-- where no domain's room changes
pub shown_same : (rooms : List (Option ℕ)) (spaces others : List (Option SpaceState)) (pd : ℕ) → rooms ≡ map shown_room spaces → room_at others pd ≡ room_at spaces pd →
    ((other : ℕ) → ¬ (other ≡ pd) → room_at others other ≡ room_at spaces other) → (other : ℕ) → or_none (slice_get (map shown_room others) other) ≡ or_none (slice_get rooms other)
shown_same rooms spaces others pd seen here same other = shown_is others other ∙ (by_test (other == pd) refl ∙ sym (shown_at rooms spaces other seen))
  where
    by_test : (t : Bool) → (other == pd) ≡ t → room_at others other ≡ room_at spaces other
    by_test true is = subst (λ k. room_at others k ≡ room_at spaces k) (sym (eqb-true other pd is)) here
    by_test false is = same other (λ k. let is_it = eq-eqb other pd k in absurd (cc))

-- the room of a domain is part of the room of all

none_at : (pd : ℕ) → room_at [] pd ≡ 0
none_at zero = refl
none_at (suc pd) = refl

total_at : (s : Option SpaceState) (spaces : List (Option SpaceState)) → total_room (s ∷ spaces) ≡ room_in s + total_room spaces
total_at s spaces = sum_by-cons room_in s spaces

first_at : (s : Option SpaceState) (spaces : List (Option SpaceState)) → room_at (s ∷ spaces) 0 ≡ room_in s
first_at s spaces = refl

later_at : (s : Option SpaceState) (spaces : List (Option SpaceState)) (pd : ℕ) → room_at (s ∷ spaces) (suc pd) ≡ room_at spaces pd
later_at s spaces pd = refl

pub room_within : (spaces : List (Option SpaceState)) (pd : ℕ) → room_at spaces pd ≤ total_room spaces
room_within [] pd = let none = none_at pd in omega arith
room_within (s ∷ spaces) zero = omega (arith, total_at s spaces, first_at s spaces)
room_within (s ∷ spaces) (suc pd) = let rest = room_within spaces pd in omega (arith, total_at s spaces, later_at s spaces pd)

-- in another table with the same room of each domain, and of each other than one

pub total_same : (spaces others : List (Option SpaceState)) → ((pd : ℕ) → room_at others pd ≡ room_at spaces pd) → total_room others ≡ total_room spaces
total_same [] [] same = refl
total_same [] (o ∷ others) same =
    let first : room_in o ≡ 0 = same 0 in
    let rest = total_same [] others (λ pd. same (suc pd) ∙ sym (none_at pd)) in
    omega (arith, total_at o others)
total_same (s ∷ spaces) [] same =
    let first : 0 ≡ room_in s = same 0 in
    let rest = total_same spaces [] (λ pd. none_at pd ∙ same (suc pd)) in
    omega (arith, total_at s spaces)
total_same (s ∷ spaces) (o ∷ others) same =
    let first : room_in o ≡ room_in s = same 0 in
    let rest = total_same spaces others (λ pd. same (suc pd)) in
    omega (arith, total_at s spaces, total_at o others)

pub total_changed : (spaces others : List (Option SpaceState)) (pd : ℕ) → ((other : ℕ) → ¬ (other ≡ pd) → room_at others other ≡ room_at spaces other) →
    total_room others + room_at spaces pd ≡ total_room spaces + room_at others pd
total_changed [] [] pd same = omega arith
total_changed [] (o ∷ others) zero same =
    let rest = total_same [] others (λ k. same (suc k) (λ e. absurd (omega arith)) ∙ sym (none_at k)) in
    omega (arith, total_at o others, first_at o others)
total_changed [] (o ∷ others) (suc pd) same =
    let first : room_in o ≡ 0 = same 0 (λ e. absurd (omega arith)) in
    let rest = total_changed [] others pd (λ k off. same (suc k) (λ e. off (omega arith)) ∙ sym (none_at k)) in
    let none = none_at pd in
    omega (arith, total_at o others, later_at o others pd)
total_changed (s ∷ spaces) [] zero same =
    let rest = total_same spaces [] (λ k. none_at k ∙ same (suc k) (λ e. absurd (omega arith))) in
    omega (arith, total_at s spaces, first_at s spaces)
total_changed (s ∷ spaces) [] (suc pd) same =
    let first : 0 ≡ room_in s = same 0 (λ e. absurd (omega arith)) in
    let rest = total_changed spaces [] pd (λ k off. none_at k ∙ same (suc k) (λ e. off (omega arith))) in
    let none = none_at pd in
    omega (arith, total_at s spaces, later_at s spaces pd)
total_changed (s ∷ spaces) (o ∷ others) zero same =
    let rest = total_same spaces others (λ k. same (suc k) (λ e. absurd (omega arith))) in
    omega (arith, total_at s spaces, total_at o others, first_at s spaces, first_at o others)
total_changed (s ∷ spaces) (o ∷ others) (suc pd) same =
    let first : room_in o ≡ room_in s = same 0 (λ e. absurd (omega arith)) in
    let rest = total_changed spaces others pd (λ k off. same (suc k) (λ e. off (omega arith))) in
    omega (arith, total_at s spaces, total_at o others, later_at s spaces pd, later_at o others pd)
