-- Trails, link by link, and that they are chains of parents.
use Rattle.std.proofs.Common.{◌≡◌, ℕ, ◌-◌, ◌<◌, zero, suc, ◌+◌, false, List, [], ◌∷◌, ◌++◌, flat_map, Option, Some, None, refl, ap, sym, subst, ◌∙◌, arith, append_assoc, append-nil}
use Rattle.std.specs.Prelude.{Contains, IfSome, is_some, option_and_then}
use Rattle.nova_model.specs.Boot.{Scenario, boot}
use Rattle.nova_model.specs.Delegations.{Delegations, parent_of, with_id}
use Rattle.nova_model.specs.Forest.{HasParentIn, IsForest}
use Rattle.nova_model.specs.Lines.{line_by}
use Rattle.nova_model.specs.Runs.{run}
use Rattle.nova_model.specs.declared.delegation.Derivation.{Derivation}
use Rattle.law_forest.proofs.Changes.{boot_run_forest}
use Rattle.law_forest.proofs.Lines.{forest_line, line_none, member_found, parent_facts}
use Rattle.law_forest.proofs.Members.{IsIn, all_at, contains_from_in, in_from_contains}
use Rattle.nova_judging.specs.Trails.{IsChain, link_line, trail}

-- LINE BY LINE

-- the lines of what is left of a trail
abbrev pub lines : ℕ → List Derivation → Option Derivation → List ℕ
lines n list d = flat_map link_line (line_by n list d)

-- a link was written
pub one_link : (count i : ℕ) (list : List Derivation) (next later : Option Derivation) (d : Derivation) (before after whole : List ℕ) → i < count → next ≡ Some d → later ≡ parent_of list d
    → after ≡ before ++ link_line d → before ++ lines (count - i) list next ≡ whole → after ++ lines (count - (i + 1)) list later ≡ whole
one_link count i list next later d before after whole more is parent wrote left =
    let step : count - i ≡ suc (count - (i + 1)) = omega arith in
    ap (λ o. after ++ lines (count - (i + 1)) list o) parent
    ∙ ap (λ xs. xs ++ lines (count - (i + 1)) list (parent_of list d)) wrote
    ∙ append_assoc before (link_line d) (lines (count - (i + 1)) list (parent_of list d))
    ∙ sym (ap (λ o. before ++ lines (count - i) list o) is ∙ ap (λ n. before ++ lines n list (Some d)) step)
    ∙ left

-- or there was none
pub no_link : (n : ℕ) (list : List Derivation) (next : Option Derivation) (before whole : List ℕ) → next ≡ None → before ++ lines n list next ≡ whole → before ≡ whole
no_link n list next before whole none left =
    sym (append-nil before) ∙ sym (ap (λ o. before ++ lines n list o) none ∙ ap (λ ds. before ++ flat_map link_line ds) (line_none n list)) ∙ left

pub all_links : (n : ℕ) (list : List Derivation) (next : Option Derivation) (before whole : List ℕ) → n ≡ 0 → before ++ lines n list next ≡ whole → before ≡ whole
all_links n list next before whole none left = sym (append-nil before) ∙ sym (ap (λ m. before ++ lines m list next) none) ∙ left

-- CHAINS

chain_by : (f : Delegations) → IsForest f → (n : ℕ) (d : Derivation) → IsIn f.list d → d.id < n → IsChain f.list (Some d.id) (line_by n f.list (Some d))
chain_by f forest zero d i a = absurd (omega arith)
chain_by f forest (suc n) d i a = (contains_from_in f.list d i, (refl, by_parent (λ p j b. chain_by f forest n p j b) (parent_of f.list d) refl))
  where
    none : (o : Option ℕ) → is_some o ≡ false → o ≡ None
    none None is = refl
    none (Some id) is = absurd (cc)

    by_parent : ((p : Derivation) → IsIn f.list p → p.id < n → IsChain f.list (Some p.id) (line_by n f.list (Some p))) → (o : Option Derivation) → parent_of f.list d ≡ o →
        IsChain f.list d.parent (line_by n f.list o)
    by_parent rest None is =
        let whole = forest_line f d forest (contains_from_in f.list d i) in
        let first : d.parent ≡ None = none d.parent (sym whole.parent ∙ ap (λ (o : Option Derivation). is_some o) is) in
        subst (λ (o : Option ℕ). IsChain f.list o (line_by n f.list None)) (sym first) (subst (IsChain f.list None) (sym (line_none n f.list)) tt)
    by_parent rest (Some p) is =
        let parent = parent_facts f d p forest i is in
        let older = parent.within.older in
        subst (λ (o : Option ℕ). IsChain f.list o (line_by n f.list (Some p))) (sym parent.named) (rest p parent.there (omega arith))

pub trail_chain : (s : Scenario) (turns : List ℕ) (d : Derivation) → Contains (run (boot s) turns).delegations.list d
    → IsChain (run (boot s) turns).delegations.list (Some d.id) (trail (run (boot s) turns).delegations.list d.id)
trail_chain s turns d there =
    let f = (run (boot s) turns).delegations in
    let forest = boot_run_forest s turns in
    let i = in_from_contains f.list d there in
    subst (λ (o : Option Derivation). IsChain f.list (Some d.id) (line_by (suc d.id) f.list o)) (sym (member_found f.list d forest.rising i))
    (chain_by f forest (suc d.id) d i (omega arith))

-- a parent has a smaller id
parent_below : (f : Delegations) → IsForest f → (d : Derivation) → IsIn f.list d → IfSome d.parent (λ (id : ℕ). id < d.id)
parent_below f forest d i = by_parent d.parent (all_at (λ (a : Derivation). HasParentIn f.list a a.parent) f.list d forest.parents i)
  where
    by_parent : (o : Option ℕ) → HasParentIn f.list d o → IfSome o (λ (id : ℕ). id < d.id)
    by_parent None has = tt
    by_parent (Some id) has = let older = has.3.older in let same = has.2 in omega arith

below : (o : Option ℕ) (m n : ℕ) → m < suc n → IfSome o (λ (id : ℕ). id < m) → IfSome o (λ (id : ℕ). id < n)
below None m n less is = tt
below (Some id) m n less is = omega arith

sole_by : (f : Delegations) → IsForest f → (n : ℕ) (o : Option ℕ) (chain : List Derivation) → IfSome o (λ (id : ℕ). id < n) → IsChain f.list o chain
    → chain ≡ line_by n f.list (option_and_then (with_id f.list) o)
sole_by f forest n None [] few is = sym (line_none n f.list)
sole_by f forest n None (d ∷ ds) few is = absurd is
sole_by f forest n (Some id) [] few is = absurd is
sole_by f forest zero (Some id) (d ∷ ds) few is = absurd (omega arith)
sole_by f forest (suc n) (Some id) (d ∷ ds) few is =
    let i = in_from_contains f.list d is.0 in
    let found : with_id f.list id ≡ Some d = sym (ap (with_id f.list) is.1.0) ∙ member_found f.list d forest.rising i in
    let less : d.id < suc n = subst (λ (m : ℕ). m < suc n) (sym is.1.0) few in
    let rest = sole_by f forest n d.parent ds (below d.parent d.id n less (parent_below f forest d i)) is.1.1 in
    ap (λ (l : List Derivation). d ∷ l) rest ∙ sym (ap (line_by (suc n) f.list) found)

pub sole_chain : (s : Scenario) (turns : List ℕ) (id : ℕ) (chain : List Derivation) → IsChain (run (boot s) turns).delegations.list (Some id) chain
    → chain ≡ trail (run (boot s) turns).delegations.list id
sole_chain s turns id chain is = sole_by (run (boot s) turns).delegations (boot_run_forest s turns) (suc id) (Some id) chain (omega arith) is
