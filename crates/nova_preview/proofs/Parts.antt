-- The next part of a delegation, with the revokes that run, is that of the state.
use Rattle.std.proofs.Common.{◌≡◌, List, refl, ap, ap₂, subst, ◌∙◌}
use Rattle.std.specs.Prelude.{Option, Some, None, Result, Ok, Err, IfOk}
use Rattle.nova_delegate.specs.Parts.{IsReady}
use Rattle.nova_memory.specs.Reach.{ReachState}
use Rattle.nova_model.specs.Delegations.{Delegations}
use Rattle.nova_model.specs.Deliveries.{delegated, part_deed}
use Rattle.nova_model.specs.Running.{Running, is_busy}
use Rattle.nova_model.specs.State.{KernelState}
use Rattle.nova_model.specs.Transfers.{Part, next_part}
use Rattle.nova_model.specs.declared.delegation.Derivation.{Derivation}
use Rattle.nova_model.specs.declared.transfer.Delivery.{Delivery}
use Rattle.nova_model.specs.declared.transfer.Job.{Job}
use Rattle.nova_model.specs.declared.transfer.Reason.{Reason}
use Rattle.nova_model.specs.declared.transfer.Skip.{Skip}
use Rattle.nova_model.specs.declared.transfer.Transfer.{Transfer}
use Rattle.nova_revoke.specs.Runners.{busy_under}
use Rattle.nova_preview.specs.Ahead.{AreOf}

-- where the cursor stands is no matter of what a part comes to
any_cursor : (v : Delivery) (t : Transfer) (j : Job) (p : Option Part) → part_deed v t (record j { cursor = t.cursor }) p ≡ part_deed v t j p
any_cursor v t j None = refl
any_cursor v t j (Some p) = by_child p.source p.child
  where
    by_child : (d : Derivation) (r : Result Derivation Reason) →
        part_deed v t (record j { cursor = t.cursor }) (Some (record { source = d; child = r })) ≡ part_deed v t j (Some (record { source = d; child = r }))
    by_child d (Ok x) = refl
    by_child d (Err reason) = refl

pub delegation_told : (k : KernelState) (s : ReachState) (runs : List Running) (v : Delivery) (t : Transfer) (j : Job) (r : Result Job Skip) → AreOf k s runs → Ok j ≡ r →
    part_deed v t (record j { cursor = t.cursor }) (next_part (busy_under runs s.nodes.delegations.list) s.nodes.delegations (record j { cursor = t.cursor })) ≡ delegated k v t r
delegation_told k s runs v t j r are is =
    ap₂ (λ (f : Delegations) (ws : List Running). part_deed v t (record j { cursor = t.cursor }) (next_part (busy_under ws f.list) f (record j { cursor = t.cursor })))
    are.delegations are.running
    ∙ any_cursor v t j (next_part (is_busy k) k.delegations (record j { cursor = t.cursor }))
    ∙ ap (delegated k v t) is

-- a child that can be added can be so in the state
pub ready_in : (k : KernelState) (s : ReachState) (runs : List Running) (r : Result Derivation Reason) → AreOf k s runs → IfOk r (IsReady s.nodes.delegations) →
    IfOk r (IsReady k.delegations)
ready_in k s runs r are ready = subst (λ (f : Delegations). IfOk r (IsReady f)) are.delegations ready
