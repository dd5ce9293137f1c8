-- The derivation for which a number is least.
use Rattle.std.proofs.Common.{◌≡◌, ℕ, ◌≤◌, List, [], subst}
use Rattle.std.specs.Prelude.{Bool, true, nat_le, Some, None}
use Rattle.std.specs.List.{filter}
use Rattle.std.proofs.lemmas.Bool.{false_from_ne_true, leb-true}
use Rattle.nova_model.specs.Delegations.{least_by}
use Rattle.nova_model.specs.declared.delegation.Derivation.{Derivation}
use Rattle.law_forest.proofs.Members.{IsIn}
use Rattle.law_forest.proofs.Extremes.{before_facts, least, none_before, none_kept}

pub none_filtered : {T : Type 0} (p : T → Bool) (xs : List T) → ((x : T) → IsIn xs x → p x ≡ true → ⊥) → filter p xs ≡ []
none_filtered p xs none = none_kept p xs (λ x i. false_from_ne_true (p x) (none x i))

pub record IsLeast (number : Derivation → ℕ) (ds : List Derivation) (d : Derivation) : Type 0 where
  pub there : IsIn ds d
  pub least : (a : Derivation) → IsIn ds a → number d ≤ number a

pub least_facts : (number : Derivation → ℕ) (ds : List Derivation) (d : Derivation) → least_by number ds ≡ Some d → IsLeast number ds d
least_facts number ds d is =
    let k = before_facts (λ a b. nat_le (number a) (number b)) ds d is in record { there = k.there; least = λ a i. leb-true (number d) (number a) (k.before a i) }

-- where there is one there is a least
pub none_least : (number : Derivation → ℕ) (ds : List Derivation) (d : Derivation) → least_by number ds ≡ None → IsIn ds d → ⊥
none_least number ds d none i = subst (λ (l : List Derivation). IsIn l d) (none_before (λ a b. nat_le (number a) (number b)) (least number) ds none) i
