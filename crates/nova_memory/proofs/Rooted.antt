-- What the root holds is added one by one.
use Rattle.std.proofs.Common.{◌≡◌, ℕ, ◌+◌, ◌^◌, refl, ap, sym, ◌∙◌, subst}
use Rattle.std.specs.Prelude.{None}
use Rattle.nova_range.specs.declared.range.Range.{Range}
use Rattle.nova_range.specs.declared.rights.Rights.{Rights}
use Rattle.nova_model.specs.Boot.{rights_of, console_derivation, object_derivation}
use Rattle.nova_model.specs.Delegations.{Delegations, added, derived}
use Rattle.nova_model.specs.Forest.{IsFitting}
use Rattle.law_forest.proofs.Boots.{pages, console_fits, pages_more}
use Rattle.nova_memory.specs.Reach.{page_range, selector_range}

-- a console's page
derived_console : (f : Delegations) (order c page : ℕ) (range : Range) (rights : Rights) → f ≡ pages order c → range ≡ page_range page → rights ≡ rights_of 3 →
    page ≡ 2 ^ order + c → derived f.next None 0 range rights page ≡ console_derivation order c
derived_console f order c page range rights is places all at = rw (is, places, all, at) refl

pub console_joins : (f : Delegations) (order c page : ℕ) (range : Range) (rights : Rights) → f ≡ pages order c → range ≡ page_range page → rights ≡ rights_of 3 →
    page ≡ 2 ^ order + c → IsFitting f (derived f.next None 0 range rights page)
console_joins f order c page range rights is places all at =
    subst (IsFitting f) (sym (derived_console f order c page range rights is places all at))
    (subst (λ (g : Delegations). IsFitting g (console_derivation order c)) (sym is) (console_fits order c))

pub console_joined : (f g : Delegations) (order c page : ℕ) (range : Range) (rights : Rights) → f ≡ pages order c → range ≡ page_range page → rights ≡ rights_of 3 →
    page ≡ 2 ^ order + c → g ≡ added f (derived f.next None 0 range rights page) → g ≡ pages order (c + 1)
console_joined f g order c page range rights is places all at joins =
    joins
    ∙ ap (added f) (derived_console f order c page range rights is places all at)
    ∙ ap (λ (h : Delegations). added h (console_derivation order c)) is
    ∙ sym (pages_more order c)

-- an object
pub derived_object : (f : Delegations) (consoles object rights : ℕ) (range : Range) (r : Rights) → f.next ≡ 1 + consoles + object → range ≡ selector_range object →
    r ≡ rights_of rights → derived f.next None 0 range r object ≡ object_derivation consoles object rights
derived_object f consoles object rights range r next places all = rw (next, places, all) refl

pub object_joins : (f g : Delegations) (consoles object rights : ℕ) (range : Range) (r : Rights) → f ≡ g → g.next ≡ 1 + consoles + object →
    range ≡ selector_range object → r ≡ rights_of rights → IsFitting g (object_derivation consoles object rights) → IsFitting f (derived f.next None 0 range r object)
object_joins f g consoles object rights range r is next places all fits =
    subst (IsFitting f) (sym (derived_object f consoles object rights range r (ap (λ (h : Delegations). h.next) is ∙ next) places all))
    (subst (λ (h : Delegations). IsFitting h (object_derivation consoles object rights)) (sym is) fits)

pub object_joined : (f g new : Delegations) (consoles object rights : ℕ) (range : Range) (r : Rights) → f ≡ g → g.next ≡ 1 + consoles + object →
    range ≡ selector_range object → r ≡ rights_of rights → new ≡ added f (derived f.next None 0 range r object) →
    new ≡ added g (object_derivation consoles object rights)
object_joined f g new consoles object rights range r is next places all joins =
    joins
    ∙ ap (added f) (derived_object f consoles object rights range r (ap (λ (h : Delegations). h.next) is ∙ next) places all)
    ∙ ap (λ (h : Delegations). added h (object_derivation consoles object rights)) is
