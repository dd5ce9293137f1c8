-- Pairs join those that were met just where all are pairs of one renaming under which cells agree.
use Rattle.std.proofs.Common.{◌≡◌, ℕ, ◌⊎◌, List, [], ◌∷◌, ◌++◌, ap, sym, ◌∙◌, subst, refl, inl, inr}
use Rattle.std.specs.Prelude.{Bool, true, false, ◌==◌, ◌||◌, Option, Some, None, if◌then◌else◌}
use Rattle.std.specs.List.{list_all}
use Rattle.std.proofs.lemmas.Bool.{and_from, and_parts, eq-eqb, eqb-true}
use Rattle.std.proofs.lemmas.List.Folds.{list_any-append}
use Rattle.nova_guest.specs.Cells.{cell_at}
use Rattle.nova_guest.specs.declared.guest.Guest.{Guest}
use Rattle.law_renaming.specs.Forced.{among, has_same_bytes, is_pair, same_bytes, same_flag, suits}
use Rattle.law_renaming.specs.Renamings.{CellsAgree, IsOneToOne, Renames}
use Rattle.law_renaming.specs.Walks.{can_join, joined}
use Rattle.law_renaming.proofs.Comparing.{all_pairs, each_pair}
use Rattle.law_renaming.proofs.Forcing.{AreIn, both_in, bytes_same, bytes_self, eq_self, flags_same, flags_self, is_this, left_in, none_in, or_left, or_parts, or_right, right_in}
use Rattle.law_renaming.proofs.Spaces.{same_frame}

-- a pair, by its two frames
pub record IsThis (a b : ℕ) (p : ℕ × ℕ) : Type 0 where
  pub first : p.0 ≡ a
  pub second : p.1 ≡ b

this_one : (a b : ℕ) (p : ℕ × ℕ) → is_pair a b p ≡ true → IsThis a b p
this_one a b p h = let both = and_parts (p.0 == a) (p.1 == b) h in record { first = eqb-true p.0 a both.0; second = eqb-true p.1 b both.1 }

in_more : (met : List (ℕ × ℕ)) (p : ℕ × ℕ) (a b : ℕ) → among (met ++ (p ∷ [])) a b ≡ true → (among met a b ≡ true) ⊎ IsThis a b p
in_more met p a b h = elim (or_parts (among met a b) (is_pair a b p || false) (sym (list_any-append (is_pair a b) met (p ∷ [])) ∙ h)) [
  | inl here ↦ inl here
  | inr there ↦ elim (or_parts (is_pair a b p) false there) [
    | inl this ↦ inr (this_one a b p this)
    | inr none ↦ absurd (cc)
  ]
]

-- a pair that suits
suit_to : (p : ℕ × ℕ) (a b : ℕ) → suits p (a, b) ≡ true → p.0 ≡ a → p.1 ≡ b
suit_to p a b h e = eqb-true p.1 b (flags_same (p.0 == a) (p.1 == b) h ∙ eq-eqb p.0 a e)

suit_from : (p : ℕ × ℕ) (a b : ℕ) → suits p (a, b) ≡ true → p.1 ≡ b → p.0 ≡ a
suit_from p a b h e = eqb-true p.0 a (sym (flags_same (p.0 == a) (p.1 == b) h) ∙ eq-eqb p.1 b e)

more_one : (met : List (ℕ × ℕ)) (p : ℕ × ℕ) → IsOneToOne (among met) → list_all (suits p) met ≡ true → IsOneToOne (among (met ++ (p ∷ [])))
more_one met p one fit = record {
  to = λ a b c ab ac. to a b c (in_more met p a b ab) (in_more met p a c ac);
  from = λ a b c ac bc. from a b c (in_more met p a c ac) (in_more met p b c bc);
}
  where
    to : (a b c : ℕ) → (among met a b ≡ true) ⊎ IsThis a b p → (among met a c ≡ true) ⊎ IsThis a c p → b ≡ c
    to a b c (inl ab) (inl ac) = one.to a b c ab ac
    to a b c (inl ab) (inr this) = sym (suit_to p a b (each_pair (suits p) met fit a b ab) this.first) ∙ this.second
    to a b c (inr this) (inl ac) = sym this.second ∙ suit_to p a c (each_pair (suits p) met fit a c ac) this.first
    to a b c (inr this) (inr that) = sym this.second ∙ that.second

    from : (a b c : ℕ) → (among met a c ≡ true) ⊎ IsThis a c p → (among met b c ≡ true) ⊎ IsThis b c p → a ≡ b
    from a b c (inl ac) (inl bc) = one.from a b c ac bc
    from a b c (inl ac) (inr this) = sym (suit_from p a c (each_pair (suits p) met fit a c ac) this.second) ∙ this.first
    from a b c (inr this) (inl bc) = sym this.first ∙ suit_from p b c (each_pair (suits p) met fit b c bc) this.second
    from a b c (inr this) (inr that) = sym this.first ∙ that.first

more_cells : (u v : Guest) (met : List (ℕ × ℕ)) (p : ℕ × ℕ) → CellsAgree (among met) u.cells v.cells → has_same_bytes u.cells v.cells p ≡ true →
    CellsAgree (among (met ++ (p ∷ []))) u.cells v.cells
more_cells u v met p cells same a b pair = elim (in_more met p a b pair) [
  | inl here ↦ cells a b here
  | inr this ↦ subst (λ (x : ℕ). cell_at v.cells b ≡ cell_at u.cells x) this.first
      (subst (λ (x : ℕ). cell_at v.cells x ≡ cell_at u.cells p.0) this.second (bytes_same (cell_at u.cells p.0) (cell_at v.cells p.1) same))
]

-- WHAT JOINING TELLS
pub record Joins (u v : Guest) (met ps all : List (ℕ × ℕ)) : Type 0 where
  pub old : AreIn (among all) met
  pub new : AreIn (among all) ps
  pub only : (r : ℕ → ℕ → Bool) → AreIn r met → AreIn r ps → AreIn r all
  pub one : IsOneToOne (among all)
  pub cells : CellsAgree (among all) u.cells v.cells

abbrev pub IfJoined : Guest → Guest → List (ℕ × ℕ) → List (ℕ × ℕ) → Option (List (ℕ × ℕ)) → Type 0
IfJoined u v met ps (Some all) = Joins u v met ps all
IfJoined u v met ps None = (r : ℕ → ℕ → Bool) → IsOneToOne r → CellsAgree r u.cells v.cells → AreIn r met → AreIn r ps → ⊥

self_in : (r : ℕ → ℕ → Bool) (p : ℕ × ℕ) (ps : List (ℕ × ℕ)) → AreIn r (p ∷ ps) → Renames r p.0 p.1
self_in r p ps all = all p.0 p.1 (or_left _ _ (and_from _ _ (eq_self p.0) (eq_self p.1)))

later_in : (r : ℕ → ℕ → Bool) (p : ℕ × ℕ) (ps : List (ℕ × ℕ)) → AreIn r (p ∷ ps) → AreIn r ps
later_in r p ps all a b h = all a b (or_right _ _ h)

front_in : (r : ℕ → ℕ → Bool) (p : ℕ × ℕ) (ps : List (ℕ × ℕ)) → Renames r p.0 p.1 → AreIn r ps → AreIn r (p ∷ ps)
front_in r p ps first rest a b h = elim (or_parts (is_pair a b p) (among ps a b) h) [
  | inl this ↦ is_this r p.0 p.1 a b this first
  | inr there ↦ rest a b there
]

end_in : (r : ℕ → ℕ → Bool) (met : List (ℕ × ℕ)) (p : ℕ × ℕ) → AreIn r met → Renames r p.0 p.1 → AreIn r (met ++ (p ∷ []))
end_in r met p old new = both_in r met (p ∷ []) old (front_in r p [] new (none_in r))

-- a pair that was met
met_before : (u v : Guest) (met ps : List (ℕ × ℕ)) (p : ℕ × ℕ) (o : Option (List (ℕ × ℕ))) → among met p.0 p.1 ≡ true → IfJoined u v met ps o → IfJoined u v met (p ∷ ps) o
met_before u v met ps p None is tells = λ r one cells old new. tells r one cells old (later_in r p ps new)
met_before u v met ps p (Some all) is tells = record {
  old = tells.old;
  new = front_in (among all) p ps (tells.old p.0 p.1 is) tells.new;
  only = λ r old new. tells.only r old (later_in r p ps new);
  one = tells.one;
  cells = tells.cells;
}

-- a pair that joins
met_first : (u v : Guest) (met ps : List (ℕ × ℕ)) (p : ℕ × ℕ) (o : Option (List (ℕ × ℕ))) → IfJoined u v (met ++ (p ∷ [])) ps o → IfJoined u v met (p ∷ ps) o
met_first u v met ps p None tells = λ r one cells old new. tells r one cells (end_in r met p old (self_in r p ps new)) (later_in r p ps new)
met_first u v met ps p (Some all) tells = record {
  old = left_in (among all) met (p ∷ []) tells.old;
  new = front_in (among all) p ps (self_in (among all) p [] (right_in (among all) met (p ∷ []) tells.old)) tells.new;
  only = λ r old new. tells.only r (end_in r met p old (self_in r p ps new)) (later_in r p ps new);
  one = tells.one;
  cells = tells.cells;
}

-- a pair that can't
can_join_found : (u v : Guest) (met : List (ℕ × ℕ)) (p : ℕ × ℕ) (r : ℕ → ℕ → Bool) → IsOneToOne r → CellsAgree r u.cells v.cells → AreIn r met → Renames r p.0 p.1 → can_join u v met p ≡ true
can_join_found u v met p r one cells old new =
    and_from _ _ (all_pairs (suits p) met (λ a b pair. ap (same_flag (p.0 == a)) (same_frame r one p.0 p.1 a b new (old a b pair)) ∙ flags_self (p.0 == a)))
    (subst (λ (c : Option (List ℕ)). same_bytes (cell_at u.cells p.0) c ≡ true) (sym (cells p.0 p.1 new)) (bytes_self (cell_at u.cells p.0)))

pub joined_tells : (u v : Guest) (met ps : List (ℕ × ℕ)) → IsOneToOne (among met) → CellsAgree (among met) u.cells v.cells → IfJoined u v met ps (joined u v met ps)
joined_tells u v met [] one cells = record { old = λ a b h. h; new = none_in (among met); only = λ r old new. old; one = one; cells = cells }
joined_tells u v met (p ∷ ps) one cells =
    by_met (among met p.0 p.1) refl (can_join u v met p) refl (joined_tells u v met ps one cells) (λ first same. joined_tells u v (met ++ (p ∷ [])) ps first same)
  where
    by_met : (t : Bool) → among met p.0 p.1 ≡ t → (c : Bool) → can_join u v met p ≡ c → IfJoined u v met ps (joined u v met ps) →
        (IsOneToOne (among (met ++ (p ∷ []))) → CellsAgree (among (met ++ (p ∷ []))) u.cells v.cells → IfJoined u v (met ++ (p ∷ [])) ps (joined u v (met ++ (p ∷ [])) ps)) →
        IfJoined u v met (p ∷ ps) (if t then joined u v met ps else (if c then joined u v (met ++ (p ∷ [])) ps else None))
    by_met true is c can same more = met_before u v met ps p (joined u v met ps) is same
    by_met false is true can same more =
        let both = and_parts (list_all (suits p) met) (has_same_bytes u.cells v.cells p) can in
        met_first u v met ps p (joined u v (met ++ (p ∷ [])) ps) (more (more_one met p one both.0) (more_cells u v met p cells both.1))
    by_met false is false can same more = λ r one_ cells_ old new. let can_ = can_join_found u v met p r one_ cells_ old (self_in r p ps new) in absurd (cc)
