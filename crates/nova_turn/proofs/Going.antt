-- An instruction that goes on, from its outcome.
use Rattle.std.proofs.Common.{◌≡◌, ℕ, refl, ap, sym, subst, ◌∙◌}
use Rattle.std.specs.Prelude.{◌&&◌, ◌==◌, true, Option, Some, None, IsSome}
use Rattle.nova_model.specs.Deeds.{deed, done, instruction, signalled}
use Rattle.nova_model.specs.Edges.{acts}
use Rattle.nova_model.specs.State.{KernelState, context, context_at, is_thread}
use Rattle.nova_model.specs.declared.deed.Deed.{Deed}
use Rattle.nova_model.specs.declared.deed.Deed.TheVariants.{Steps}
use Rattle.rv_core.specs.declared.outcome.Outcome.TheVariants.{Next}
use Rattle.rv_model.specs.Step.{environment_call}
use Rattle.nova_choice.specs.Schedules.{AreQueued}
use Rattle.nova_deeds.specs.Acts.{is_executing, outcome_of}
use Rattle.nova_deeds.specs.Counted.{IsCounted, KeepsCounts}
use Rattle.nova_deeds.specs.Stirs.{written_frame}
use Rattle.nova_deeds.proofs.Keeps.{done-keeps}
use Rattle.nova_deeds.proofs.Moves.{may_move, stale_after}
use Rattle.nova_deeds.proofs.Steps.{executing-deed}
use Rattle.nova_sched.specs.Queues.{Schedule, QueuesState}
use Rattle.nova_turn.specs.Going.{HasRaised, WentOn}
use Rattle.nova_turn.specs.Parts.{state_of}
use Rattle.nova_turn.specs.Revoking.{AreRunning}
use Rattle.nova_turn.specs.declared.act.turn.Progress.TheVariants.{Stayed}
use Rattle.nova_turn.specs.declared.decide.deciding.Raised.{Raised}
use Rattle.nova_turn.specs.declared.parts.Parts.{Parts}
use Rattle.nova_turn.proofs.Foreseen.{goes_on, raises}
use Rattle.nova_turn.proofs.Ongoing.{IsDecided, stepped_runs}

-- it is the deed
pub goes_deed : (k : KernelState) (ec : ℕ) → is_executing (context k ec) ≡ true → Next ≡ outcome_of (instruction k ec) → Steps ≡ deed k ec
goes_deed k ec next goes = goes_on k ec (instruction k ec) goes ∙ sym (executing-deed k ec next)

-- and all marks stay right
goes_queued : (k new : KernelState) (s after : Schedule) (ec : ℕ) → IsCounted k → IsSome (context_at k ec) → acts k.contexts ec ≡ true → AreQueued k s →
    new ≡ done k ec Steps → after ≡ s → AreQueued new after
goes_queued k new s after ec counted there acting queued does same =
    stale_after k new s after ec Steps None (may_move k ec counted there acting) tt queued does same refl

pub went_on : (p q : Parts) (ec : ℕ) → IsDecided (state_of p) ec Steps → IsCounted (state_of p) → acts (state_of p).contexts ec ≡ true → AreQueued (state_of p) p.queues.all →
    AreRunning (state_of p) p.revokes → state_of q ≡ done (state_of p) ec Steps → q.reach.written ≡ written_frame (state_of p) ec → q.queues ≡ p.queues → q.revokes ≡ p.revokes → WentOn p q ec
went_on p q ec decided counted acting queued running does wrote same still = record {
  decided = decided.is;
  does = does;
  kept = subst (λ (s : KernelState). KeepsCounts (state_of p) s) (sym does) (done-keeps (state_of p) ec Steps tt);
  wrote = wrote;
  queued = goes_queued (state_of p) (state_of q) p.queues.all q.queues.all ec counted decided.there acting queued does (ap (λ (x : QueuesState). x.all) same);
  running = stepped_runs p q ec decided running counted.tables does still;
}

-- what a raise leads to is the deed
pub raised_deed : (k : KernelState) (ec : ℕ) (r : Raised) (d : Deed) → HasRaised k ec (Some r) →
    d ≡ signalled k ec r.reason r.q0 r.q1 ((r.reason == environment_call) && is_thread k ec) → d ≡ deed k ec
raised_deed k ec r d raised signals = signals ∙ raises k ec r.reason r.q0 r.q1 (instruction k ec) raised.1 ∙ sym (executing-deed k ec raised.0)

-- a context that stayed with a raise stayed with no other
pub stayed_with : (r s : Option Raised) → Stayed r ≡ Stayed s → r ≡ s
stayed_with r s is = cc
