-- What waits for a handler, or gives a first range, is there; and an execution context is a member where its domain is one.
use Rattle.std.proofs.Common.{◌≡◌, ℕ, refl, ap, subst}
use Rattle.std.specs.Prelude.{Option, Some, None, option_and_then, option_map}
use Rattle.nova_model.specs.Edges.{edge, edge_of}
use Rattle.nova_model.specs.State.{KernelState, context, context_at, context_in, pd_in, pd_of}
use Rattle.nova_model.specs.declared.context.EcState.{EcState}
use Rattle.nova_model.specs.declared.context.State.TheVariants.{Granting}
use Rattle.law_integrity.specs.Confined.{IsMember}
use Rattle.law_integrity.proofs.Labels.{IsEc}

-- of a context that waits for a handler, or is in a state in which none is that isn't there
pub edge_there : (k : KernelState) (n h : ℕ) → edge k.contexts n ≡ Some h → (x : EcState) × (context_at k n ≡ Some x) × (edge_of x.state ≡ Some h)
edge_there k n h is = by_entry (context_at k n) refl is
  where
    by_entry : (o : Option EcState) → context_at k n ≡ o → option_and_then edge_of (option_map (λ (x : EcState). x.state) o) ≡ Some h → (x : EcState) × (context_at k n ≡ Some x) × (edge_of x.state ≡ Some h)
    by_entry None at leads = absurd (cc)
    by_entry (Some x) at leads = (x, at, leads)

pub grant_there : (k : KernelState) (n : ℕ) (new : Option ℕ) → (context k n).state ≡ Granting new → (x : EcState) × (context_at k n ≡ Some x) × (x.state ≡ Granting new)
grant_there k n new is = by_entry (context_at k n) refl is
  where
    by_entry : (o : Option EcState) → context_at k n ≡ o → (context_in o).state ≡ Granting new → (x : EcState) × (context_at k n ≡ Some x) × (x.state ≡ Granting new)
    by_entry None at state = absurd (cc)
    by_entry (Some x) at state = (x, at, state)

pub as_member : (k : KernelState) (S : ℕ → Type 0) (n : ℕ) → IsEc k n → S (pd_of k n) → IsMember k S n
as_member k S n m s = record { domain = m.domain; cpu = m.cpu; kind = m.kind; event = m.event; object = m.object; of = subst S (ap pd_in m.object) s }
