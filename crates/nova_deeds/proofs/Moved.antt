-- After a deed that moves a context the queues are right but for the marks of scheduling contexts whose ways come to that context.
use Rattle.std.proofs.Common.{◌≡◌, ℕ, refl, ap, sym, ◌∙◌, subst}
use Rattle.std.specs.Prelude.{Option, Some, None, option_and_then}
use Rattle.nova_range.specs.declared.status.Status.TheVariants.{Success}
use Rattle.nova_model.specs.Deeds.{answered, actor_after, done}
use Rattle.nova_model.specs.Edges.{cpu_in}
use Rattle.nova_model.specs.State.{KernelState, context, ec_of, with_ec}
use Rattle.nova_model.specs.declared.context.Mark.TheVariants as mark
use Rattle.nova_model.specs.declared.deed.Deed.{Deed}
use Rattle.nova_model.specs.declared.deed.Deed.TheVariants.{Dies, Waits, Downs, Helps, Aborts, Ups, Blocks}
use Rattle.nova_ec.specs.Changes.{KeepsSound}
use Rattle.nova_ec.proofs.Changes.{deeds_keep}
use Rattle.nova_sched.specs.Queues.{Schedule}
use Rattle.nova_deeds.specs.Acts.{DeedFits}
use Rattle.nova_choice.specs.Schedules.{AreQueued, AreQueuedAfter, AreQueuedWhere, Avoids, moved_by, schedule_after}
use Rattle.nova_choice.proofs.Avoiding.{avoiding_leads, one_moved, others_queued}
use Rattle.nova_deeds.proofs.Moves.{MayMove, answered_queued, stale_after}

-- scheduling contexts whose ways don't come to it are queued as they are
abbrev AreOthersQueued : ℕ → KernelState → Schedule → Type 0
AreOthersQueued e k s = AreQueuedWhere (Avoids k.contexts e) k s

-- a context that does an up acts before and after, so that only the context that it wakes is moved
upped_others : (k : KernelState) (s : Schedule) (ec sm w : ℕ) → MayMove k ec → AreQueued k s → AreOthersQueued w (done k ec (Ups sm (Some w))) s
upped_others k s ec sm w may queued =
    let mid = with_ec k.contexts ec (answered (context k ec) Success None) in
    let sound : KeepsSound k.contexts mid = deeds_keep k.contexts ec (Downs 0) may.there tt in
    let first = answered_queued k ec may in
    others_queued k (done k ec (Ups sm (Some w))) s w queued refl refl
    (λ x cpu at avoids. avoiding_leads mid w x (answered (ec_of mid w) Success None) (sound.edges may.edges) avoids ∙ first.contexts.same x cpu at refl)

-- any other deed changes the context that does it
own_others : (k : KernelState) (s : Schedule) (ec : ℕ) (d : Deed) → MayMove k ec → AreQueued k s → (done k ec d).contexts ≡ with_ec k.contexts ec (actor_after (context k ec) d) →
    (done k ec d).objects ≡ k.objects → (done k ec d).budgets ≡ k.budgets → AreOthersQueued ec (done k ec d) s
own_others k s ec d may queued contexts objects budgets = one_moved k (done k ec d) s ec (actor_after (context k ec) d) queued may.edges contexts objects budgets

done_others : (k : KernelState) (s : Schedule) (ec e : ℕ) (d : Deed) → MayMove k ec → AreQueued k s → moved_by ec d ≡ Some e → AreOthersQueued e (done k ec d) (schedule_after k ec s d)
done_others k s ec e (Ups sm None) may queued is = absurd cc
done_others k s ec e (Ups sm (Some w)) may queued is =
    let same : w ≡ e = cc in subst (λ (n : ℕ). AreOthersQueued n (done k ec (Ups sm (Some w))) s) same (upped_others k s ec sm w may queued)
done_others k s ec e (Dies reason q0) may queued is =
    let same : ec ≡ e = cc in subst (λ (n : ℕ). AreOthersQueued n (done k ec (Dies reason q0)) s) same (own_others k s ec (Dies reason q0) may queued refl refl refl)
done_others k s ec e (Waits handler reason q0 q1) may queued is =
    let same : ec ≡ e = cc in
    subst (λ (n : ℕ). AreOthersQueued n (done k ec (Waits handler reason q0 q1)) s) same (own_others k s ec (Waits handler reason q0 q1) may queued refl refl refl)
done_others k s ec e (Helps handler) may queued is =
    let same : ec ≡ e = cc in subst (λ (n : ℕ). AreOthersQueued n (done k ec (Helps handler)) s) same (own_others k s ec (Helps handler) may queued refl refl refl)
done_others k s ec e (Aborts handler mark.Exit) may queued is =
    let same : ec ≡ e = cc in
    subst (λ (n : ℕ). AreOthersQueued n (done k ec (Aborts handler mark.Exit)) s) same (own_others k s ec (Aborts handler mark.Exit) may queued refl refl refl)
done_others k s ec e (Aborts handler mark.Call) may queued is = absurd cc
done_others k s ec e (Blocks sm until) may queued is =
    let same : ec ≡ e = cc in subst (λ (n : ℕ). AreOthersQueued n (done k ec (Blocks sm until)) s) same (own_others k s ec (Blocks sm until) may queued refl refl refl)
done_others k s ec e other may queued is = absurd cc

-- in other words: what is left to be marked when a deed is done, by the context that it moved
pub queued_moved : (k new : KernelState) (s after : Schedule) (ec : ℕ) (d : Deed) → MayMove k ec → DeedFits k ec d → AreQueued k s → new ≡ done k ec d → after ≡ schedule_after k ec s d →
    AreQueuedAfter (moved_by ec d) new after
queued_moved k new s after ec d may fits queued is marks = by_moved (moved_by ec d) refl
  where
    by_moved : (o : Option ℕ) → moved_by ec d ≡ o → AreQueuedAfter o new after
    by_moved None at = stale_after k new s after ec d None may fits queued is marks (sym (ap (option_and_then (cpu_in new.contexts)) at))
    by_moved (Some e) at = record {
      near = stale_after k new s after ec d (cpu_in new.contexts e) may fits queued is marks (sym (ap (option_and_then (cpu_in new.contexts)) at));
      others = subst (λ (x : KernelState). AreOthersQueued e x after) (sym is)
          (subst (λ (t : Schedule). AreOthersQueued e (done k ec d) t) (sym marks) (done_others k s ec e d may queued at));
    }
