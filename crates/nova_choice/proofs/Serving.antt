-- A call and its reply: turns that led to a caller lead to its handler, and back again, so that but for the handler's own they lead to a context that
-- acts before and after.
use Rattle.std.proofs.Common.{◌≡◌, ℕ, zero, suc, ◌≤◌, List, length, refl, ap, ap₂, sym, ◌∙◌, subst, arith}
use Rattle.std.specs.Prelude.{Bool, true, false, ◌==◌, ◌||◌, ◌≢◌, Option, Some, None, is_none, option_and_then, slice_get}
use Rattle.nova_model.specs.Edges.{AreEdges, acts, acts_as, acts_by, edge, edge_of, is_dead, is_free, met, state_in}
use Rattle.nova_model.specs.State.{Contexts, KernelState, budget_at, entry, is_local_in}
use Rattle.nova_model.specs.declared.budget.Budget.{Budget}
use Rattle.nova_model.specs.declared.context.State.{State}
use Rattle.nova_model.specs.declared.context.State.TheVariants.{Fresh, Ready, Parked, Calling, Helping, Exiting, Sending, Granting, Replying, Revoking, Blocked, Dead}
use Rattle.nova_objects.specs.declared.object.EcKind.TheVariants.{Local, Global, Vcpu}
use Rattle.nova_objects.specs.declared.object.Object.{Object}
use Rattle.nova_objects.specs.declared.object.Object.TheVariants.{Pd, Ec, Sc, Pt, Sm}
use Rattle.nova_ec.proofs.Acting.{awake}
use Rattle.nova_ec.proofs.Donors.{acts_like}
use Rattle.nova_ec.proofs.Ends.{chases_go_on, met_shorter}
use Rattle.nova_sched.specs.Queues.{Schedule}
use Rattle.nova_choice.specs.Schedules.{AreQueued, IsOwned, leads, processor_at, wanted_with}
use Rattle.nova_choice.proofs.Waits.{KeepsQueued, queued_kept}

-- TURNS BY STEPS

leads_here : (cs : Contexts) (z : ℕ) → AreEdges cs → acts cs z ≡ true → leads cs z ≡ true
leads_here cs z sound here = ap (acts cs) ((chases_go_on cs z sound).ends (ap (λ (t : Bool). t || is_none (edge cs z)) here)) ∙ here

or_true : (t : Bool) → (t || true) ≡ true
or_true true = refl
or_true false = refl

leads_end : (cs : Contexts) (z : ℕ) → AreEdges cs → edge cs z ≡ None → leads cs z ≡ acts cs z
leads_end cs z sound none = ap (acts cs) ((chases_go_on cs z sound).ends (ap (λ (o : Option ℕ). acts cs z || is_none o) none ∙ or_true (acts cs z)))

leads_on : (cs : Contexts) (z w : ℕ) → AreEdges cs → acts cs z ≡ false → edge cs z ≡ Some w → leads cs z ≡ leads cs w
leads_on cs z w sound idle way =
    ap (acts cs) ((chases_go_on cs z sound).goes_on w (ap₂ (λ (t : Bool) (o : Option ℕ). t || is_none o) idle way) way)

-- A CALL

-- Two tables that differ in two execution contexts alone: in the first the caller acts and its handler is parked, and in the second the caller waits
-- for the handler, which acts; no other waits for its reply.
pub record IsServing (cs ds : Contexts) (c h : ℕ) : Type 0 where
  pub idle_edges : AreEdges cs
  pub busy_edges : AreEdges ds
  pub parked : state_in cs h ≡ Some Parked
  pub calls : acts cs c ≡ true
  pub alone : (z : ℕ) → state_in cs z ≢ Some (Calling h)
  pub waits : state_in ds c ≡ Some (Calling h)
  pub serves : acts ds h ≡ true
  pub others : (z : ℕ) → z ≢ c → z ≢ h → state_in ds z ≡ state_in cs z

-- a context that waits for another sees no difference, unless that is the handler
same_dead : (cs ds : Contexts) (c h w : ℕ) → IsServing cs ds c h → w ≢ h → is_dead (state_in ds w) ≡ is_dead (state_in cs w)
same_dead cs ds c h w both apart = by_place (w == c) refl
  where
    by_place : (t : Bool) → (w == c) ≡ t → is_dead (state_in ds w) ≡ is_dead (state_in cs w)
    by_place true is =
        let at : w ≡ c = grind (arith, is) in
        ap (λ (n : ℕ). is_dead (state_in ds n)) at ∙ ap is_dead both.waits ∙ sym (awake cs c both.calls).dead ∙ ap (λ (n : ℕ). is_dead (state_in cs n)) (sym at)
    by_place false is = ap is_dead (both.others w (λ at. absurd (grind (arith, is, at))) apart)

same_free : (cs ds : Contexts) (c h w : ℕ) → IsServing cs ds c h → w ≢ h → is_free (state_in ds w) ≡ is_free (state_in cs w)
same_free cs ds c h w both apart = by_place (w == c) refl
  where
    by_place : (t : Bool) → (w == c) ≡ t → is_free (state_in ds w) ≡ is_free (state_in cs w)
    by_place true is =
        let at : w ≡ c = grind (arith, is) in
        ap (λ (n : ℕ). is_free (state_in ds n)) at ∙ ap is_free both.waits ∙ sym (awake cs c both.calls).free ∙ ap (λ (n : ℕ). is_free (state_in cs n)) (sym at)
    by_place false is = ap is_free (both.others w (λ at. absurd (grind (arith, is, at))) apart)

-- a context that is about to help the handler, or to send it an exit, acts while it is parked alone
free_acts : (s : State) (h : ℕ) → edge_of s ≡ Some h → s ≢ Calling h → acts_by s (Some Parked) ≡ true
free_acts (Calling g) h is other = absurd (other (let same : g ≡ h = cc in ap Calling same))
free_acts (Helping g) h is other = refl
free_acts (Sending reason q0 q1 g) h is other = refl
free_acts Fresh h is other = absurd cc
free_acts Ready h is other = absurd cc
free_acts Parked h is other = absurd cc
free_acts (Exiting reason q0 q1) h is other = absurd cc
free_acts (Granting new) h is other = absurd cc
free_acts Replying h is other = absurd cc
free_acts (Revoking range own) h is other = absurd cc
free_acts (Blocked sm) h is other = absurd cc
free_acts Dead h is other = absurd cc

busy_waits : (s : State) (h : ℕ) (handler : Option State) → edge_of s ≡ Some h → is_free handler ≡ false → is_dead handler ≡ false → acts_by s handler ≡ false
busy_waits (Calling g) h handler is free dead = dead
busy_waits (Helping g) h handler is free dead = free
busy_waits (Sending reason q0 q1 g) h handler is free dead = free
busy_waits Fresh h handler is free dead = absurd cc
busy_waits Ready h handler is free dead = absurd cc
busy_waits Parked h handler is free dead = absurd cc
busy_waits (Exiting reason q0 q1) h handler is free dead = absurd cc
busy_waits (Granting new) h handler is free dead = absurd cc
busy_waits Replying h handler is free dead = absurd cc
busy_waits (Revoking range own) h handler is free dead = absurd cc
busy_waits (Blocked sm) h handler is free dead = absurd cc
busy_waits Dead h handler is free dead = absurd cc

-- the caller's own turns
caller_leads : (cs ds : Contexts) (c h : ℕ) → IsServing cs ds c h → leads ds c ≡ leads cs c
caller_leads cs ds c h both =
    leads_on ds c h both.busy_edges (ap (acts_as ds) both.waits ∙ (awake ds h both.serves).dead) (ap (option_and_then edge_of) both.waits)
    ∙ leads_here ds h both.busy_edges both.serves
    ∙ sym (leads_here cs c both.idle_edges both.calls)

-- those of a context that waits for the handler
helper_leads : (cs ds : Contexts) (c h z : ℕ) (s : State) → IsServing cs ds c h → state_in cs z ≡ Some s → state_in ds z ≡ Some s → edge_of s ≡ Some h → leads ds z ≡ leads cs z
helper_leads cs ds c h z s both before now way =
    let handler = awake ds h both.serves in
    leads_on ds z h both.busy_edges
    (ap (acts_as ds) now ∙ ap (λ (o : Option ℕ). acts_by s (option_and_then (state_in ds) o)) way ∙ busy_waits s h (state_in ds h) way handler.free handler.dead)
    (ap (option_and_then edge_of) now ∙ way)
    ∙ leads_here ds h both.busy_edges both.serves
    ∙ sym (leads_here cs z both.idle_edges
    (ap (acts_as cs) before
    ∙ ap (λ (o : Option ℕ). acts_by s (option_and_then (state_in cs) o)) way
    ∙ ap (acts_by s) both.parked
    ∙ free_acts s h way (λ same. both.alone z (before ∙ ap Some same))))

-- those of a context that waits for none
alone_leads : (cs ds : Contexts) (z : ℕ) (o : Option State) → AreEdges cs → AreEdges ds → state_in cs z ≡ o → state_in ds z ≡ o → option_and_then edge_of o ≡ None →
    acts_as ds o ≡ acts_as cs o → leads ds z ≡ leads cs z
alone_leads cs ds z o first second before now none same =
    leads_end ds z second (ap (option_and_then edge_of) now ∙ none)
    ∙ ap (acts_as ds) now
    ∙ same
    ∙ sym (leads_end cs z first (ap (option_and_then edge_of) before ∙ none) ∙ ap (acts_as cs) before)

-- those of a context that waits for another
waiter_leads : (cs ds : Contexts) (c h z w : ℕ) (s : State) → IsServing cs ds c h → state_in cs z ≡ Some s → state_in ds z ≡ Some s → edge_of s ≡ Some w → w ≢ h →
    leads ds w ≡ leads cs w → leads ds z ≡ leads cs z
waiter_leads cs ds c h z w s both before now way apart rest = by_test (acts cs z) refl
  where
    same : acts ds z ≡ acts cs z
    same =
        ap (acts_as ds) now
        ∙ ap (λ (o : Option ℕ). acts_by s (option_and_then (state_in ds) o)) way
        ∙ acts_like s (state_in ds w) (state_in cs w) (same_dead cs ds c h w both apart) (same_free cs ds c h w both apart)
        ∙ sym (ap (acts_as cs) before ∙ ap (λ (o : Option ℕ). acts_by s (option_and_then (state_in cs) o)) way)

    by_test : (t : Bool) → acts cs z ≡ t → leads ds z ≡ leads cs z
    by_test true is = leads_here ds z both.busy_edges (same ∙ is) ∙ sym (leads_here cs z both.idle_edges is)
    by_test false is =
        leads_on ds z w both.busy_edges (same ∙ is) (ap (option_and_then edge_of) now ∙ way)
        ∙ rest
        ∙ sym (leads_on cs z w both.idle_edges is (ap (option_and_then edge_of) before ∙ way))

-- those of any other, where those of the handler that it waits for stay
leads_at : (cs ds : Contexts) (c h z : ℕ) → IsServing cs ds c h → z ≢ h → ((w : ℕ) → edge cs z ≡ Some w → w ≢ h → leads ds w ≡ leads cs w) → leads ds z ≡ leads cs z
leads_at cs ds c h z both apart rest = by_place (z == c) refl
  where
    by_handler : (s : State) (w : ℕ) → state_in cs z ≡ Some s → state_in ds z ≡ Some s → edge_of s ≡ Some w → (t : Bool) → (w == h) ≡ t → leads ds z ≡ leads cs z
    by_handler s w before now way true is =
        let at : w ≡ h = grind (arith, is) in helper_leads cs ds c h z s both before now (way ∙ ap Some at)
    by_handler s w before now way false is =
        let other : w ≢ h = λ at. absurd (grind (arith, is, at)) in
        waiter_leads cs ds c h z w s both before now way other (rest w (ap (option_and_then edge_of) before ∙ way) other)

    by_edge : (s : State) → state_in cs z ≡ Some s → state_in ds z ≡ Some s → (o : Option ℕ) → edge_of s ≡ o → leads ds z ≡ leads cs z
    by_edge s before now None way =
        alone_leads cs ds z (Some s) both.idle_edges both.busy_edges before now way
        (ap (λ (o : Option ℕ). acts_by s (option_and_then (state_in ds) o)) way ∙ sym (ap (λ (o : Option ℕ). acts_by s (option_and_then (state_in cs) o)) way))
    by_edge s before now (Some w) way = by_handler s w before now way (w == h) refl

    by_state : (o : Option State) → state_in cs z ≡ o → state_in ds z ≡ o → leads ds z ≡ leads cs z
    by_state None before now = alone_leads cs ds z None both.idle_edges both.busy_edges before now refl refl
    by_state (Some s) before now = by_edge s before now (edge_of s) refl

    by_place : (t : Bool) → (z == c) ≡ t → leads ds z ≡ leads cs z
    by_place true is = let at : c ≡ z = grind (arith, is) in subst (λ (n : ℕ). leads ds n ≡ leads cs n) at (caller_leads cs ds c h both)
    by_place false is = by_state (state_in cs z) refl (both.others z (λ at. absurd (grind (arith, is, at))) apart)

-- the rest of the way is shorter
leads_within : (n : ℕ) (cs ds : Contexts) (c h z : ℕ) → IsServing cs ds c h → length (met cs z) ≤ n → z ≢ h → leads ds z ≡ leads cs z
leads_within zero cs ds c h z both few apart =
    leads_at cs ds c h z both apart (λ w way other. absurd (let shorter = met_shorter cs z w both.idle_edges way in omega (arith, shorter, few)))
leads_within (suc n) cs ds c h z both few apart =
    leads_at cs ds c h z both apart
    (λ w way other. leads_within n cs ds c h w both (let shorter = met_shorter cs z w both.idle_edges way in omega (arith, shorter, few)) other)

pub serving_leads : (cs ds : Contexts) (c h z : ℕ) → IsServing cs ds c h → z ≢ h → leads ds z ≡ leads cs z
serving_leads cs ds c h z both apart = leads_within (length (met cs z)) cs ds c h z both (omega arith) apart

-- THE QUEUES

-- the owner of a scheduling context is no local thread
owner_apart : (os : List Object) (ec cpu h : ℕ) → processor_at (slice_get os ec) ≡ Some cpu → is_local_in (slice_get os h) ≡ true → ec ≢ h
owner_apart os ec cpu h owned local same = by_object (slice_get os ec) owned (ap (λ (n : ℕ). is_local_in (slice_get os n)) same ∙ local)
  where
    by_object : (o : Option Object) → processor_at o ≡ Some cpu → is_local_in o ≡ true → ⊥
    by_object None is its = cc
    by_object (Some Pd) is its = cc
    by_object (Some (Ec pd at Local event)) is its = cc
    by_object (Some (Ec pd at Global event)) is its = cc
    by_object (Some (Ec pd at Vcpu event)) is its = cc
    by_object (Some (Sc its_ec at priority quantum)) is its = cc
    by_object (Some (Pt its_ec mtd ip)) is its = cc
    by_object (Some Sm) is its = cc

wanted_apart : (os : List Object) (h : ℕ) (cs ds : Contexts) (o : Option Object) (b : Option Budget) → is_local_in (slice_get os h) ≡ true →
    ((ec : ℕ) → ec ≢ h → leads ds ec ≡ leads cs ec) → IsOwned os o → wanted_with ds o b ≡ wanted_with cs o b
wanted_apart os h cs ds (Some (Sc ec cpu priority quantum)) (Some b) local same owned =
    ap (λ (t : Bool). Some (record { cpu = cpu; priority = priority; quantum = quantum; is_runnable = t; budget = b })) (same ec (owner_apart os ec cpu h owned local))
wanted_apart os h cs ds (Some (Sc ec cpu priority quantum)) None local same owned = refl
wanted_apart os h cs ds (Some Pd) b local same owned = refl
wanted_apart os h cs ds (Some (Ec pd cpu kind event)) b local same owned = refl
wanted_apart os h cs ds (Some (Pt ec mtd ip)) b local same owned = refl
wanted_apart os h cs ds (Some Sm) b local same owned = refl
wanted_apart os h cs ds None b local same owned = refl

-- where all turns stay but those of a local thread, no mark is old
pub queued_apart : (stale : Option ℕ) (k new : KernelState) (s : Schedule) (h : ℕ) → AreQueued k s → KeepsQueued stale k new → is_local_in (slice_get k.objects h) ≡ true →
    ((ec : ℕ) → ec ≢ h → leads new.contexts ec ≡ leads k.contexts ec) → AreQueued new s
queued_apart stale k new s h queued kept local same =
    let left = queued_kept stale k new s queued kept in record {
      cpus = left.cpus;
      numbers = left.numbers;
      stamp = left.stamp;
      entries = λ sc.
          queued.entries sc
          ∙ sym (wanted_apart k.objects h k.contexts new.contexts (slice_get k.objects sc) (budget_at k sc) local same (queued.owners sc))
          ∙ ap₂ (λ (os : List Object) (bs : List (Option Budget)). wanted_with new.contexts (slice_get os sc) (entry (slice_get bs sc))) (sym kept.objects) (sym kept.budgets);
      homes = left.homes;
      owners = left.owners;
    }
