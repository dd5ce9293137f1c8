-- Which revokes run: one of each execution context that revokes, for its protection domain.
use Rattle.std.specs.Prelude.{◌==◌, ◌&&◌, Bool, List, length, Option, Some, None, option_and_then}
use Rattle.std.specs.List.{filter_map, list_any, range_with_len}
use Rattle.nova_model.specs.Numbers.{PdId, EcId, Selector}
use Rattle.nova_range.specs.declared.range.Kind.TheVariants.{Obj}
use Rattle.nova_model.specs.Delegations.{is_same_kind, has_place}
use Rattle.nova_model.specs.Revokes.{Revocation, busy}
use Rattle.nova_model.specs.State.{KernelState, context_at, pd_of}
use Rattle.nova_model.specs.declared.context.State.{State}
use Rattle.nova_model.specs.declared.context.State.TheVariants.{Revoking}
use Rattle.nova_model.specs.declared.delegation.Derivation.{Derivation}

-- the revoke of an execution context in this state, in its protection domain
abbrev pub revoke_by : PdId → State → Option Revocation
revoke_by pd (Revoking range own) = Some (record { pd = pd; range = range; own = own })
revoke_by pd other = None

abbrev pub revoke_of : KernelState → EcId → Option Revocation
revoke_of k ec = option_and_then (λ x. revoke_by (pd_of k ec) x.state) (context_at k ec)

-- a revoke that runs, with the execution context that runs it
pub record Running : Type 0 where
  pub ec : EcId
  pub revoke : Revocation

abbrev pub running_of : EcId → Option Revocation → Option Running
running_of ec None = None
running_of ec (Some r) = Some (record { ec = ec; revoke = r })

-- all that run, by the number of the execution context
abbrev pub running : KernelState → List Running
running k = filter_map (λ ec. running_of ec (revoke_of k ec)) (range_with_len 0 (length k.contexts))

-- a new derivation is busy: it may not join while one of them runs
abbrev pub is_busy : KernelState → Derivation → Bool
is_busy k x = list_any (λ w. busy w.revoke k.delegations.list x) (running k)

-- an execution context of the protection domain revokes an object range that contains the selector
abbrev pub is_of_objects : PdId → Selector → Running → Bool
is_of_objects pd selector w = is_same_kind w.revoke.range.kind Obj && ((w.revoke.pd == pd) && has_place w.revoke.range selector)

abbrev pub is_revoked : KernelState → PdId → Selector → Bool
is_revoked k pd selector = list_any (is_of_objects pd selector) (running k)
