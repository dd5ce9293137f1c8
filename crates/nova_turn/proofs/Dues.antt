-- What is due, and what is not.
use mathlib.Core.Path.{fun_ext}
use Rattle.std.proofs.Common.{◌≡◌, ℕ, length, refl, ap, sym, ◌∙◌, subst, arith}
use Rattle.std.specs.Prelude.{false, is_some, is_none, option_map, Option, Some, None, IsSome, IfSome, Ok}
use Rattle.std.specs.List.{filter_map, range_with_len}
use Rattle.nova_model.specs.Running.{Running, revoke_of, running, running_of}
use Rattle.nova_model.specs.Semaphores.{semaphore, woken}
use Rattle.nova_model.specs.State.{KernelState, context_at, deadline_of, ec_in, with_ec}
use Rattle.nova_model.specs.declared.context.EcState.{EcState}
use Rattle.law_turns.specs.Waiting.{AreBlocked}
use Rattle.nova_deeds.proofs.Served.{still_there, woken_there}
use Rattle.nova_model.specs.Choice.{choice}
use Rattle.nova_model.specs.Times.{due_on, next_moment}
use Rattle.nova_model.specs.Turn.{counted, ticking, turn}
use Rattle.nova_model.specs.declared.times.Deadline.{Deadline}
use Rattle.law_turns.specs.Keeping.{IsKept}
use Rattle.law_turns.proofs.Serving.{blocked_there}
use Rattle.nova_choice.specs.Choices.{chosen_of}
use Rattle.nova_choice.proofs.Choosing.{turn_ticks}
use Rattle.nova_revoke.specs.Runners.{RevokesState}
use Rattle.nova_turn.specs.Revoking.{AreRunning}

pub none_due_at : {T : Type 0} (o : Option T) → is_some o ≡ false → o ≡ None
none_due_at None h = refl
none_due_at (Some x) h = absurd cc

-- the revokes that run are those that ran
pub same_running : (k new : KernelState) → length new.contexts ≡ length k.contexts → ((e : ℕ) → revoke_of new e ≡ revoke_of k e) → running new ≡ running k
same_running k new long same =
    ap (λ (n : ℕ). filter_map (λ (e : ℕ). running_of e (revoke_of new e)) (range_with_len 0 n)) long
    ∙ ap (λ (f : ℕ → Option Running). filter_map f (range_with_len 0 (length k.contexts))) (fun_ext (λ e. ap (running_of e) (same e)))

pub still_runs : (k new : KernelState) (r after : RevokesState) → AreRunning k r → length new.contexts ≡ length k.contexts → ((e : ℕ) → revoke_of new e ≡ revoke_of k e) → after ≡ r → AreRunning new after
still_runs k new r after are long same is = subst (AreRunning new) (sym is) (record {
  list = are.list ∙ sym (same_running k new long same);
  places = let few = are.places in omega (arith, few, long);
})

pub counted_runs : (k : KernelState) (cpu : ℕ) (r : RevokesState) → AreRunning k r → AreRunning (counted k cpu) r
counted_runs k cpu r are = record { list = are.list; places = are.places }

-- a context that an up wakes is there, also after the answer of the context that does it
pub woken_still : (k : KernelState) (ec sm : ℕ) (whom : Option ℕ) (x : EcState) → AreBlocked k.contexts k.semaphores → woken (semaphore k.semaphores sm) ≡ Ok whom →
    IfSome whom (λ w. IsSome (ec_in (with_ec k.contexts ec x) w))
woken_still k ec sm None x blocked is = tt
woken_still k ec sm (Some w) x blocked is = still_there k.contexts ec w x (woken_there k.contexts k.semaphores sm w blocked is)

-- a context that has a deadline is there
pub late_there : (k : KernelState) (ec : ℕ) (d : Deadline) → IsKept k → deadline_of k.times ec ≡ Some d → IsSome (context_at k ec)
late_there k ec d kept is = subst IsSome (sym (blocked_there k.contexts ec d.sm (kept.deadlines ec d is).blocked)) refl

some_moment : (o : Option ℕ) → is_none o ≡ false → (m : ℕ) × (o ≡ Some m)
some_moment None h = absurd cc
some_moment (Some m) h = (m, refl)

-- the turn in which the clock alone goes on
pub tick_turn : (k : KernelState) (cpu : ℕ) → due_on k.times cpu ≡ None → None ≡ option_map chosen_of (choice k cpu) → is_none (next_moment k.times cpu) ≡ false → turn k cpu ≡ Some (ticking k cpu)
tick_turn k cpu none chosen some = let moment = some_moment (next_moment k.times cpu) some in turn_ticks k cpu moment.0 none chosen moment.1
