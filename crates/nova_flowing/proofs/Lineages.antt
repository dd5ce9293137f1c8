-- Whether a derivation, or one of which it comes, passes a test, link by link.
use Rattle.std.proofs.Common.{◌≡◌, ℕ, ◌-◌, ◌<◌, ◌+◌, suc, List, ap, sym, ◌∙◌, arith}
use Rattle.std.specs.Prelude.{◌||◌, Bool, true, false, Option, Some, None}
use Rattle.std.specs.List.{list_any}
use Rattle.nova_model.specs.Delegations.{parent_of}
use Rattle.nova_model.specs.Lines.{line_by}
use Rattle.nova_model.specs.declared.delegation.Derivation.{Derivation}
use Rattle.law_forest.proofs.Lines.{line_none}

abbrev pub any_in : (Derivation → Bool) → ℕ → List Derivation → Option Derivation → Bool
any_in p n list d = list_any p (line_by n list d)

-- at a link
here : (p : Derivation → Bool) (count i : ℕ) (list : List Derivation) (next : Option Derivation) (d : Derivation) → i < count → next ≡ Some d →
    any_in p (count - i) list next ≡ (p d || any_in p (count - (i + 1)) list (parent_of list d))
here p count i list next d more is =
    let step : count - i ≡ suc (count - (i + 1)) = omega arith in
    ap (λ (o : Option Derivation). any_in p (count - i) list o) is ∙ ap (λ (n : ℕ). any_in p n list (Some d)) step

pub next_link : (p : Derivation → Bool) (count i : ℕ) (list : List Derivation) (next later : Option Derivation) (d : Derivation) (whole : Bool) → i < count → next ≡ Some d → later ≡ parent_of list d → p d ≡ false →
    any_in p (count - i) list next ≡ whole → any_in p (count - (i + 1)) list later ≡ whole
next_link p count i list next later d whole more is parent off left =
    ap (any_in p (count - (i + 1)) list) parent
    ∙ sym (ap (λ (b : Bool). b || any_in p (count - (i + 1)) list (parent_of list d)) off)
    ∙ sym (here p count i list next d more is) ∙ left

pub found_link : (p : Derivation → Bool) (count i : ℕ) (list : List Derivation) (next : Option Derivation) (d : Derivation) (whole : Bool) → i < count → next ≡ Some d → p d ≡ true →
    any_in p (count - i) list next ≡ whole → true ≡ whole
found_link p count i list next d whole more is passes left =
    sym (ap (λ (b : Bool). b || any_in p (count - (i + 1)) list (parent_of list d)) passes) ∙ sym (here p count i list next d more is) ∙ left

pub no_link : (p : Derivation → Bool) (n : ℕ) (list : List Derivation) (next : Option Derivation) (whole : Bool) → next ≡ None → any_in p n list next ≡ whole → false ≡ whole
no_link p n list next whole none left = sym (ap (any_in p n list) none ∙ ap (λ (ds : List Derivation). list_any p ds) (line_none n list)) ∙ left

pub last_link : (p : Derivation → Bool) (n : ℕ) (list : List Derivation) (next : Option Derivation) (whole : Bool) → n ≡ 0 → any_in p n list next ≡ whole → false ≡ whole
last_link p n list next whole none left = sym (ap (λ (m : ℕ). any_in p m list next) none) ∙ left
