-- Roles of trusted domains: those at rest do nothing, and a bare or a mute domain is careful whatever its program does.
use Rattle.std.specs.Prelude.{◌≡◌, ◌≢◌, ◌==◌, ◌&&◌, ◌||◌, ℕ, Bool, true, false, not, slice_get, Option, Some, None}
use Rattle.std.specs.List.{enumerate_from, list_all}
use Rattle.nova_objects.specs.declared.object.Object.{Object}
use Rattle.nova_objects.specs.declared.object.Object.TheVariants.{Pd, Ec, Sc, Pt}
use Rattle.nova_range.specs.Rights.{allows}
use Rattle.nova_range.specs.declared.rights.Rights.{Rights}
use Rattle.nova_model.specs.Capabilities.{bind_portal_right, bind_scheduling_right, call_right, create_right, event_right}
use Rattle.nova_model.specs.Delegations.{is_memory}
use Rattle.nova_model.specs.Edges.{edge_of}
use Rattle.nova_model.specs.State.{KernelState, context_at, pd_of}
use Rattle.nova_model.specs.declared.context.EcState.{EcState}
use Rattle.nova_model.specs.declared.context.Mark.{Mark}
use Rattle.nova_model.specs.declared.context.Mark.TheVariants.{Call}
use Rattle.nova_model.specs.declared.context.State.{State}
use Rattle.nova_model.specs.declared.context.State.TheVariants.{Granting}
use Rattle.nova_model.specs.declared.delegation.Derivation.{Derivation}
use Rattle.law_turns.specs.Giving.{gives_no_first}
use Rattle.law_sides.specs.Resting.{is_resting}

-- WHERE A CAPABILITY LEADS

-- to the domain whose the object is: itself, or that of the execution context, of the handler, or of the context to which it is bound
abbrev pub domain_of : KernelState → ℕ → Option Object → Option ℕ
domain_of k n (Some Pd) = Some n
domain_of k n (Some (Ec pd cpu kind event)) = Some pd
domain_of k n (Some (Sc donor cpu priority quantum)) = Some (pd_of k donor)
domain_of k n (Some (Pt handler mtd ip)) = Some (pd_of k handler)
domain_of k n other = None

abbrev pub is_domain : ℕ → Option ℕ → Bool
is_domain n None = false
is_domain n (Some m) = m == n

abbrev pub is_none_or : ℕ → Option ℕ → Bool
is_none_or n None = true
is_none_or n (Some m) = m == n

abbrev pub target_domain : KernelState → Derivation → Option ℕ
target_domain k d = domain_of k d.target (slice_get k.objects d.target)

-- a capability of a domain; and one of a side, to what is the domain's
abbrev pub is_held : ℕ → Derivation → Bool
is_held n d = not (is_memory d.kind) && (d.pd == n)

abbrev pub is_reached_by : KernelState → (ℕ → ℕ) → ℕ → Derivation → Bool
is_reached_by k label n d = not (is_memory d.kind) && (not (label d.pd == 0) && is_domain n (target_domain k d))

-- these rights don't let it make anything there, nor send items: not to create in a domain, not to bind a portal to an execution context, not to call a portal
abbrev pub is_powerless : Rights → Option Object → Bool
is_powerless rights (Some Pd) = not (allows rights create_right)
is_powerless rights (Some (Ec pd cpu kind event)) = not (allows rights bind_portal_right)
is_powerless rights (Some (Pt handler mtd ip)) = not (allows rights call_right)
is_powerless rights other = true

-- WHAT AN EXECUTION CONTEXT IS DOING

abbrev pub is_if_there : (EcState → Bool) → Option EcState → Bool
is_if_there p None = true
is_if_there p (Some x) = p x

-- it gives no first range and takes no items
abbrev pub is_no_grant : State → Bool
is_no_grant (Granting new) = false
is_no_grant other = true

-- it serves no caller that called
abbrev pub is_uncalled : Option (ℕ × Mark) → Bool
is_uncalled (Some (caller, Call)) = false
is_uncalled other = true

-- it waits for no handler, for none but of the domain, or for none of the domain
abbrev pub waits_for_none : Option ℕ → Bool
waits_for_none None = true
waits_for_none (Some handler) = false

abbrev pub waits_within : KernelState → ℕ → Option ℕ → Bool
waits_within k n None = true
waits_within k n (Some handler) = pd_of k handler == n

abbrev pub waits_without : KernelState → ℕ → Option ℕ → Bool
waits_without k n None = true
waits_without k n (Some handler) = not (pd_of k handler == n)

-- AT REST: no capability of a side leads there, and each execution context is parked or dead, or waits for good at a semaphore that no other domain may raise

abbrev pub is_other : ℕ → ℕ → Bool
is_other n m = not (m == n)

abbrev pub rests_by : KernelState → (ℕ → ℕ) → ℕ → Derivation → Bool
rests_by k label n d = not (is_reached_by k label n d)

abbrev pub rests_in : KernelState → ℕ → ℕ × Object → Bool
rests_in k n (m, Ec pd cpu kind event) = not (pd == n) || is_if_there (is_resting k (is_other n)) (context_at k m)
rests_in k n (m, other) = true

abbrev pub is_at_rest : KernelState → (ℕ → ℕ) → ℕ → Bool
is_at_rest k label n = list_all (rests_by k label n) k.delegations.list && list_all (rests_in k n) (enumerate_from 0 k.objects)

-- BARE: it holds memory alone. Sides may send exits to its handlers, and do nothing else with what is its; and no execution context of its waits for
-- a handler, serves a caller that called it, or takes or gives a first range. So what it gives is memory.

abbrev pub is_bare_by : KernelState → (ℕ → ℕ) → ℕ → Derivation → Bool
is_bare_by k label n d = not (is_held n d) && (not (is_reached_by k label n d) || is_powerless d.rights (slice_get k.objects d.target))

abbrev pub is_bare_in : KernelState → ℕ → ℕ × Object → Bool
is_bare_in k n (m, Ec pd cpu kind event) =
    not (pd == n) || is_if_there (λ (x : EcState). waits_for_none (edge_of x.state) && (is_no_grant x.state && is_uncalled x.caller)) (context_at k m)
is_bare_in k n (m, other) = true

abbrev pub is_bare : KernelState → (ℕ → ℕ) → ℕ → Bool
is_bare k label n = list_all (is_bare_by k label n) k.delegations.list && list_all (is_bare_in k n) (enumerate_from 0 k.objects)

-- MUTE: what it holds, but for memory and semaphores, is its own, or a side's that it controls at most; no capability of a side leads there; and neither waits for a handler of the other, nor does it give a first range. So it
-- gives nothing to sides. Semaphores and memory it may share with them.

-- by these rights it may control the object, and no more: it neither creates in a domain, nor binds to an execution context, nor calls a portal or sends exits to it
abbrev pub controls_alone : Rights → Option Object → Bool
controls_alone rights (Some Pd) = not (allows rights create_right)
controls_alone rights (Some (Ec pd cpu kind event)) = not (allows rights bind_portal_right) && not (allows rights bind_scheduling_right)
controls_alone rights (Some (Pt handler mtd ip)) = not (allows rights call_right) && not (allows rights event_right)
controls_alone rights other = true

abbrev pub is_side : (ℕ → ℕ) → Option ℕ → Bool
is_side label None = false
is_side label (Some n) = not (label n == 0)

abbrev pub is_controlled : KernelState → (ℕ → ℕ) → Derivation → Bool
is_controlled k label d = is_side label (target_domain k d) && controls_alone d.rights (slice_get k.objects d.target)

abbrev pub is_mute_by : KernelState → (ℕ → ℕ) → ℕ → Derivation → Bool
is_mute_by k label n d = not (is_reached_by k label n d) && (not (is_held n d) || (is_none_or n (target_domain k d) || is_controlled k label d))

abbrev pub is_mute_in : KernelState → (ℕ → ℕ) → ℕ → ℕ × Object → Bool
is_mute_in k label n (m, Ec pd cpu kind event) =
    (not (pd == n) || is_if_there (λ (x : EcState). waits_within k n (edge_of x.state) && gives_no_first x.state) (context_at k m))
    && ((label pd == 0) || is_if_there (λ (x : EcState). waits_without k n (edge_of x.state)) (context_at k m))
is_mute_in k label n (m, other) = true

abbrev pub is_mute : KernelState → (ℕ → ℕ) → ℕ → Bool
is_mute k label n = list_all (is_mute_by k label n) k.delegations.list && list_all (is_mute_in k label n) (enumerate_from 0 k.objects)

-- ALL THAT IS TRUSTED

-- what has a side is a domain, and each trusted domain is at rest, bare or mute
pub record AreHarmless (k : KernelState) (label : ℕ → ℕ) : Type 0 where
  pub domains : (n : ℕ) → label n ≢ 0 → slice_get k.objects n ≡ Some Pd
  pub trusted : (n : ℕ) → label n ≡ 0 → slice_get k.objects n ≡ Some Pd → (is_at_rest k label n || (is_bare k label n || is_mute k label n)) ≡ true
