-- Where a derivation of memory leads, and what is blocked where.
use Rattle.std.proofs.Common.{◌≡◌, ◌<◌, ◌+◌, ◌-◌, ◌^◌, ℕ, List, [], ◌∷◌, zero, suc, refl, ap, ◌∙◌, subst, inl, inr, arith, sym}
use Rattle.std.specs.Prelude.{map, slice_get, Some, option_map}
use Rattle.std.specs.List.{enumerate_from}
use Rattle.std.proofs.lemmas.Option.{same_Some}
use Rattle.nova_guest.specs.declared.page.Page.{Page}
use Rattle.nova_range.specs.declared.range.Kind.TheVariants.{Mem}
use Rattle.nova_model.specs.Delegations.{page_in, reach}
use Rattle.nova_model.specs.Forest.{IsForest}
use Rattle.nova_model.specs.State.{KernelState}
use Rattle.nova_model.specs.declared.delegation.Derivation.{Derivation}
use Rattle.law_forest.specs.Within.{LeadsTo}
use Rattle.law_forest.proofs.Members.{IsIn}
use Rattle.law_flow.proofs.Holds.{found_one}

-- a page that leads to a frame of a derivation
pub record LeadsBy (k : KernelState) (pd frame : ℕ) : Type 0 where
  pub page : ℕ
  pub to : Page
  pub leads : reach k.delegations.list pd page ≡ Some to
  pub frame_is : to.frame ≡ frame

pub leads_by : (k : KernelState) (d : Derivation) (frame : ℕ) → IsForest k.delegations → IsIn k.delegations.list d → d.kind ≡ Mem → LeadsTo d frame → LeadsBy k d.pd frame
leads_by k d frame forest there kind leads = record {
  page = page;
  to = page_in page d;
  leads = ap (option_map (page_in page)) (found_one k.delegations.list Mem d.pd page d forest.apart there (record { kind = sym kind; pd = refl; place = record { from_base = omega (arith); before_end = high } }));
  frame_is = same;
}
  where
    page : ℕ
    page = d.base + (frame - d.target)

    high : page < d.base + 2 ^ d.order
    high = let first = leads.first in let last = leads.last in omega (arith, first, last)

    same : d.target + (page - d.base) ≡ frame
    same = let first = leads.first in omega (arith, first)

-- an entry of a table has its number
numbered_in : {X : Type 0} (m : ℕ) (xs : List X) (i : ℕ) (x : X) → slice_get xs i ≡ Some x → IsIn (enumerate_from m xs) (m + i, x)
numbered_in m [] i x at = absurd (cc)
numbered_in {X} m (y ∷ ys) zero x at = let same : m ≡ m + 0 = omega arith in inl (ap (λ (z : X). (m, z)) (same_Some y x at) ∙ ap (λ (n : ℕ). (n, x)) same)
numbered_in {X} m (y ∷ ys) (suc i) x at =
    let same : (m + 1) + i ≡ m + suc i = omega arith in
    inr (subst (λ (n : ℕ). IsIn (enumerate_from (m + 1) ys) (n, x)) same (numbered_in (m + 1) ys i x at))

pub numbered_here : {X : Type 0} (xs : List X) (i : ℕ) (x : X) → slice_get xs i ≡ Some x → IsIn (enumerate_from 0 xs) (i, x)
numbered_here {X} xs i x at = let same : 0 + i ≡ i = omega arith in subst (λ (n : ℕ). IsIn (enumerate_from 0 xs) (n, x)) same (numbered_in 0 xs i x at)

pub mapped_at : {X Y : Type 0} (f : X → Y) (xs : List X) (i : ℕ) (x : X) → slice_get xs i ≡ Some x → slice_get (map f xs) i ≡ Some (f x)
mapped_at f [] i x at = absurd (cc)
mapped_at {X} {Y} f (y ∷ ys) zero x at = ap (λ (z : X). Some (f z)) (same_Some y x at)
mapped_at f (y ∷ ys) (suc i) x at = mapped_at f ys i x at

pub at_mapped : {X Y : Type 0} (f : X → Y) (xs : List X) (i : ℕ) (y : Y) → slice_get (map f xs) i ≡ Some y → (x : X) × (slice_get xs i ≡ Some x) × (f x ≡ y)
at_mapped f [] i y at = absurd (cc)
at_mapped f (x ∷ xs) zero y at = (x, refl, same_Some (f x) y at)
at_mapped f (x ∷ xs) (suc i) y at = at_mapped f xs i y at
