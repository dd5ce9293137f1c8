-- Where no revoke of a side's is under way, and none of what something of the side's was derived from, nothing that is given within the side is busy.
use Rattle.std.proofs.Common.{arith, ◌≡◌, ℕ, zero, suc, ◌==◌, List, length, refl, sym, ap, ◌∙◌, subst, inl, inr}
use Rattle.std.specs.Prelude.{true, false, ◌&&◌, ◌||◌, ◌⊎◌, Contains, Option, Some, None}
use Rattle.std.specs.List.{range_with_len}
use Rattle.std.proofs.lemmas.Bool.{and_parts, eqb-true, false_from_ne_true, or_cases}
use Rattle.nova_range.specs.Ranges.{is_inside, overlaps}
use Rattle.nova_model.specs.Delegations.{Delegations, is_same_kind, parent_of, range_of}
use Rattle.nova_model.specs.Forest.{IsForest}
use Rattle.nova_model.specs.Lines.{line, line_by}
use Rattle.nova_model.specs.Revokes.{Revocation, busy, in_scope, is_made_of, is_met, is_own, is_top}
use Rattle.nova_model.specs.Running.{Running, is_busy, revoke_of, running, running_of}
use Rattle.nova_model.specs.State.{KernelState, pd_of}
use Rattle.nova_model.specs.declared.delegation.Derivation.{Derivation}
use Rattle.law_forest.proofs.Busy.{busy_child}
use Rattle.law_forest.proofs.Extremes.{any_in}
use Rattle.law_forest.proofs.Lines.{line_enough, line_none}
use Rattle.law_forest.proofs.Members.{IsIn, contains_from_in}
use Rattle.law_forest.proofs.Running.{revoking_there}
use Rattle.law_forest.proofs.Scopes.{parent_found}
use Rattle.law_forest.proofs.Transfers.{kinds_equal}
use Rattle.law_turns.proofs.Leaving.{picked_from, runs_it}
use Rattle.law_flow.specs.Flow.{IsUnrevoked}

-- LINES

-- the parent of one of a line is of the line that is longer by one
line_above : (list : List Derivation) (n : ℕ) (d a q : Derivation) → IsIn (line_by n list (Some d)) a → parent_of list a ≡ Some q → IsIn (line_by (suc n) list (Some d)) q
line_above list zero d a q i up = absurd i
line_above list (suc n) d a q (inl same) up = inr (subst (λ (o : Option Derivation). IsIn (line_by (suc n) list o) q) (sym (ap (parent_of list) same ∙ up)) (inl refl))
line_above list (suc n) d a q (inr i) up = inr (by_parent (parent_of list d) i (λ p j. line_above list n p a q j up))
  where
    by_parent : (o : Option Derivation) → IsIn (line_by n list o) a → ((p : Derivation) → IsIn (line_by n list (Some p)) a → IsIn (line_by (suc n) list (Some p)) q) → IsIn (line_by (suc n) list o) q
    by_parent None h rest = absurd (subst (λ (l : List Derivation). IsIn l a) (line_none n list) h)
    by_parent (Some p) h rest = rest p h

pub parent_above : (f : Delegations) → IsForest f → (d a q : Derivation) → IsIn f.list d → IsIn (line f.list d) a → parent_of f.list a ≡ Some q → IsIn (line f.list d) q
parent_above f forest d a q there i up =
    subst (λ (l : List Derivation). IsIn l q) (line_enough f forest (suc (suc d.id)) (suc d.id) d there (omega arith) (omega arith)) (line_above f.list (suc d.id) d a q i up)

-- A REVOKE ELSEWHERE

met_by : (r : Revocation) (d : Derivation) → is_met r d ≡ true → d.pd ≡ r.pd
met_by r d h =
    let both = and_parts (is_same_kind r.range.kind d.kind) (d.pd == r.pd && overlaps (range_of d) r.range) h in
    eqb-true d.pd r.pd (and_parts (d.pd == r.pd) (overlaps (range_of d) r.range) both.1).0

-- and it is of the range's kind
pub met_kind : (r : Revocation) (d : Derivation) → is_met r d ≡ true → r.range.kind ≡ d.kind
met_kind r d h = kinds_equal r.range.kind d.kind (and_parts (is_same_kind r.range.kind d.kind) (d.pd == r.pd && overlaps (range_of d) r.range) h).0

pub made_by_it : (r : Revocation) (a q : Derivation) → is_made_of r a (Some q) ≡ true → q.pd ≡ r.pd
made_by_it r a q h = met_by r q (and_parts (is_met r q) _ h).0

pub own_of_it : (r : Revocation) (a : Derivation) → is_own r a ≡ true → a.pd ≡ r.pd
own_of_it r a h = met_by r a (and_parts (is_met r a) (is_inside (range_of a) r.range) (and_parts r.own (is_met r a && is_inside (range_of a) r.range) h).1).0

-- what has nobody of the revoker's in its line is out of the scope
pub out_of_scope : (f : Delegations) → IsForest f → (r : Revocation) (d : Derivation) → IsIn f.list d → ((a : Derivation) → Contains (line f.list d) a → a.pd ≡ r.pd → ⊥) → in_scope r f.list d ≡ false
out_of_scope f forest r d there none = false_from_ne_true (in_scope r f.list d) (λ h. by_member (any_in (is_top r f.list) (line f.list d) h))
  where
    by_parent : (a : Derivation) → IsIn (line f.list d) a → (o : Option Derivation) → parent_of f.list a ≡ o → is_made_of r a o ≡ true → ⊥
    by_parent a i None up h = cc
    by_parent a i (Some q) up h = none q (contains_from_in (line f.list d) q (parent_above f forest d a q there i up)) (made_by_it r a q h)

    by_case : (a : Derivation) → IsIn (line f.list d) a → (is_made_of r a (parent_of f.list a) ≡ true) ⊎ (is_own r a ≡ true) → ⊥
    by_case a i (inl made) = by_parent a i (parent_of f.list a) refl made
    by_case a i (inr own) = none a (contains_from_in (line f.list d) a i) (own_of_it r a own)

    by_member : (a : Derivation) × IsIn (line f.list d) a × (is_top r f.list a ≡ true) → ⊥
    by_member m = by_case m.0 m.1 (or_cases (is_made_of r m.0 (parent_of f.list m.0)) (is_own r m.0) m.2)

-- NOTHING IS BUSY

pub unbusy : (k : KernelState) (S : ℕ → Type 0) → IsForest k.delegations → IsUnrevoked k S → (x p : Derivation) → x.id ≡ k.delegations.next → parent_of k.delegations.list x ≡ Some p → S p.pd → S x.pd →
    is_busy k x ≡ false
unbusy k S forest free x p id up s mine = false_from_ne_true (is_busy k x) (λ h. by_runner (any_in (λ (w : Running). busy w.revoke k.delegations.list x) (running k) h))
  where
    there : IsIn k.delegations.list p
    there = (parent_found k.delegations.list x p up).0

    by_revoke : (n : ℕ) (r : Revocation) → revoke_of k n ≡ Some r → busy r k.delegations.list x ≡ true → ⊥
    by_revoke n r runs h =
        let its = revoking_there k n r runs in
        let pd : r.pd ≡ pd_of k n = ap (λ (q : Revocation). q.pd) its.its in
        let away : (q : ℕ) → S q → q ≡ r.pd → ⊥ = λ q t same. free.own n its.range its.own its.state (subst S (same ∙ pd) t) in
        let out = out_of_scope k.delegations forest r p there (λ a above same. free.lines n its.range its.own p a its.state (contains_from_in k.delegations.list p there) s above (same ∙ pd)) in
        by_case away out (or_cases (is_made_of r x (Some p) || in_scope r k.delegations.list p) (is_met r x) (sym (busy_child r k.delegations forest x p id up) ∙ h))
      where
        by_first : ((q : ℕ) → S q → q ≡ r.pd → ⊥) → in_scope r k.delegations.list p ≡ false → (is_made_of r x (Some p) ≡ true) ⊎ (in_scope r k.delegations.list p ≡ true) → ⊥
        by_first away out (inl made) = away p.pd s (made_by_it r x p made)
        by_first away out (inr in_it) = cc

        by_case : ((q : ℕ) → S q → q ≡ r.pd → ⊥) → in_scope r k.delegations.list p ≡ false → ((is_made_of r x (Some p) || in_scope r k.delegations.list p) ≡ true) ⊎ (is_met r x ≡ true) → ⊥
        by_case away out (inl h) = by_first away out (or_cases (is_made_of r x (Some p)) (in_scope r k.delegations.list p) h)
        by_case away out (inr met) = away x.pd mine (met_by r x met)

    by_runner : (w : Running) × IsIn (running k) w × (busy w.revoke k.delegations.list x ≡ true) → ⊥
    by_runner m =
        let its = picked_from (λ e. running_of e (revoke_of k e)) (range_with_len 0 (length k.contexts)) m.0 m.1 in
        by_revoke its.0 m.0.revoke (runs_it its.0 (revoke_of k its.0) m.0 its.1) m.2
