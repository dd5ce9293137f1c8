-- States that meet the conditions: what these look at, as it is shown, and what follows where none waits.
use Rattle.std.proofs.Common.{◌≡◌, ◌≢◌, ℕ, zero, suc, List, [], ◌∷◌, refl, sym, ap, ◌∙◌, subst}
use Rattle.std.specs.Prelude.{map, slice_get, Option, Some, None, option_map, option_and_then}
use Rattle.std.specs.List.{AllByRecursion}
use Rattle.nova_objects.specs.declared.object.Object.{Object}
use Rattle.nova_model.specs.Edges.{edge, edge_of, state_in}
use Rattle.nova_model.specs.State.{Contexts, KernelState, context, context_at, context_in, entry}
use Rattle.nova_model.specs.declared.context.EcState.{EcState}
use Rattle.nova_model.specs.declared.context.State.{State}
use Rattle.nova_model.specs.declared.context.State.TheVariants.{Blocked, Dead, Fresh, Granting, Parked, Ready}
use Rattle.nova_model.specs.declared.delegation.Derivation.{Derivation}

-- objects, derivations and the states of execution contexts
pub record Shows (k : KernelState) (objects : List Object) (list : List Derivation) (states : List (Option State)) : Type 0 where
  pub objects_are : k.objects ≡ objects
  pub list_is : k.delegations.list ≡ list
  pub states_are : map (λ (o : Option EcState). option_map (λ (x : EcState). x.state) o) k.contexts ≡ states

-- what holds of each entry, and of nothing, holds at each number
entry_all : (Q : Option State → Type 0) (ss : List (Option State)) → Q None → AllByRecursion Q ss → (n : ℕ) → Q (entry (slice_get ss n))
entry_all Q [] none all n = none
entry_all Q (s ∷ ss) none all zero = all.0
entry_all Q (s ∷ ss) none all (suc n) = entry_all Q ss none all.1 n

-- so where it may depend on the number
abbrev pub AllAt : (ℕ → Option State → Type 0) → List (Option State) → Type 0
AllAt Q [] = Unit {0}
AllAt Q (s ∷ ss) = Q 0 s × AllAt (λ n. Q (suc n)) ss

pub entry_at : (Q : ℕ → Option State → Type 0) (ss : List (Option State)) → ((n : ℕ) → Q n None) → AllAt Q ss → (n : ℕ) → Q n (entry (slice_get ss n))
entry_at Q [] none all n = none n
entry_at Q (s ∷ ss) none all zero = all.0
entry_at Q (s ∷ ss) none all (suc n) = entry_at (λ m. Q (suc m)) ss (λ m. none (suc m)) all.1 n

pub state_is : (cs : Contexts) (n : ℕ) → state_in cs n ≡ entry (slice_get (map (λ (o : Option EcState). option_map (λ (x : EcState). x.state) o) cs) n)
state_is [] n = refl
state_is (c ∷ cs) zero = refl
state_is (c ∷ cs) (suc n) = state_is cs n

-- a context that waits for none and gives nothing
abbrev pub IsCalm : Option State → Type 0
IsCalm None = Unit {0}
IsCalm (Some Dead) = Unit {0}
IsCalm (Some Fresh) = Unit {0}
IsCalm (Some Parked) = Unit {0}
IsCalm (Some Ready) = Unit {0}
IsCalm other = ⊥

abbrev pub AreCalm : KernelState → Type 0
AreCalm k = (n : ℕ) → IsCalm (state_in k.contexts n)

pub all_calm : (k : KernelState) (ss : List (Option State)) → map (λ (o : Option EcState). option_map (λ (x : EcState). x.state) o) k.contexts ≡ ss → AllByRecursion IsCalm ss → AreCalm k
all_calm k ss is all n =
    subst IsCalm (sym (state_is k.contexts n ∙ ap (λ (l : List (Option State)). entry (slice_get l n)) is)) (entry_all IsCalm ss tt all n)

pub no_edge : {A : Type 0} (k : KernelState) → AreCalm k → (waiter handler : ℕ) → edge k.contexts waiter ≡ Some handler → A
no_edge {A} k calm waiter handler is = by_state (state_in k.contexts waiter) (calm waiter) is
  where
    by_state : (o : Option State) → IsCalm o → option_and_then edge_of o ≡ Some handler → A
    by_state None c e = absurd (cc)
    by_state (Some Dead) c e = absurd (cc)
    by_state (Some Fresh) c e = absurd (cc)
    by_state (Some Parked) c e = absurd (cc)
    by_state (Some Ready) c e = absurd (cc)
    by_state (Some other) c e = absurd c

no_state : {A : Type 0} (k : KernelState) (n : ℕ) (s : State) → AreCalm k → s ≢ Dead → (IsCalm (Some s) → ⊥) → (context k n).state ≡ s → A
no_state {A} k n s calm alive never is = by_entry (context_at k n) (calm n) is
  where
    by_entry : (o : Option EcState) → IsCalm (option_map (λ (x : EcState). x.state) o) → (context_in o).state ≡ s → A
    by_entry None c e = absurd (alive (sym e))
    by_entry (Some x) c e = absurd (never (subst (λ (t : State). IsCalm (Some t)) e c))

pub no_first : {A : Type 0} (k : KernelState) (n new : ℕ) → AreCalm k → (context k n).state ≡ Granting (Some new) → A
no_first k n new calm is = no_state k n (Granting (Some new)) calm (λ same. cc) (λ c. c) is

pub no_taking : {A : Type 0} (k : KernelState) (n : ℕ) → AreCalm k → (context k n).state ≡ Granting None → A
no_taking k n calm is = no_state k n (Granting None) calm (λ same. cc) (λ c. c) is

pub no_wait : {A : Type 0} (k : KernelState) (n sm : ℕ) → AreCalm k → (context k n).state ≡ Blocked sm → A
no_wait k n sm calm is = no_state k n (Blocked sm) calm (λ same. cc) (λ c. c) is
