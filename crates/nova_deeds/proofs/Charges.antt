-- A turn that is charged in the queues is charged in the state.
use Rattle.std.proofs.Common.{◌≡◌, ℕ, ◌==◌, List, refl, ap, ap₂, sym, ◌∙◌, subst, arith, IsSome}
use Rattle.std.specs.Prelude.{Bool, true, false, ◌≢◌, Option, Some, None, slice_get, slice_set}
use Rattle.std.proofs.lemmas.List.{length-set}
use Rattle.nova_model.specs.State.{Contexts, KernelState, budget_at, entry}
use Rattle.nova_model.specs.Turn.{budget_after, counted, is_spent, paid_by, quantum_in, stamp_after}
use Rattle.nova_model.specs.Turn as turn
use Rattle.nova_model.specs.declared.budget.Budget.{Budget}
use Rattle.nova_objects.specs.declared.object.Object.{Object}
use Rattle.nova_objects.specs.declared.object.Object.TheVariants.{Pd, Ec, Sc, Pt, Sm}
use Rattle.nova_sched.specs.Queues.{Schedule, charged_schedule, charged_by, queued_at}
use Rattle.nova_sched.specs.declared.queued.Queued.{Queued}
use Rattle.nova_choice.specs.Schedules.{AreQueued, budgets_of, leads, wanted, wanted_with}
use Rattle.nova_choice.proofs.Budgets.{budgets_set}
use Rattle.nova_choice.proofs.Marks.{with_budgets}
use Rattle.nova_sched.specs.Lists.{paid as paid_entry}
use Rattle.nova_deeds.specs.Stirs.{risen_in}
use Rattle.nova_choice.proofs.Joins.{get_set_other, get_set_same}

-- what the queues hold of a scheduling context is what the state says
pub record IsHeld (object : Option Object) (found : Option Budget) (cs : Contexts) (e : Queued) : Type 0 where
  pub quantum : quantum_in object ≡ e.quantum
  pub budget : found ≡ Some e.budget
  pub others : (b : Budget) → wanted_with cs object (Some b) ≡ Some (record e { budget = b })

held : (cs : Contexts) (o : Option Object) (b : Option Budget) (e : Queued) → wanted_with cs o b ≡ Some e → IsHeld o b cs e
held cs (Some (Sc ec cpu priority quantum)) (Some b) e h =
    let same : record { cpu = cpu; priority = priority; quantum = quantum; is_runnable = leads cs ec; budget = b } ≡ e = cc in
    record {
      quantum = ap (λ (x : Queued). x.quantum) same;
      budget = ap (λ (x : Queued). Some x.budget) same;
      others = λ c. ap (λ (x : Queued). Some (record x { budget = c })) same;
    }
held cs (Some (Sc ec cpu priority quantum)) None e h = absurd cc
held cs (Some Pd) b e h = absurd cc
held cs (Some (Ec pd cpu kind event)) b e h = absurd cc
held cs (Some (Pt ec mtd ip)) b e h = absurd cc
held cs (Some Sm) b e h = absurd cc
held cs None b e h = absurd cc

pub held_by : (k : KernelState) (s : Schedule) (sc : ℕ) (e : Queued) → AreQueued k s → queued_at s sc ≡ Some e → IsHeld (slice_get k.objects sc) (budget_at k sc) k.contexts e
held_by k s sc e queued there = held k.contexts (slice_get k.objects sc) (budget_at k sc) e (sym (queued.entries sc) ∙ there)

charged_is : (s : Schedule) (sc : ℕ) (e : Queued) → queued_at s sc ≡ Some e →
    charged_schedule s sc ≡ record s { entries = slice_set s.entries sc (Some (paid_entry e s.next_stamp)); next_stamp = stamp_after (is_spent e.budget) s.next_stamp }
charged_is s sc e there = ap (charged_by s sc) there

pub budgets_charged : (k : KernelState) (s : Schedule) (count sc : ℕ) (e : Queued) → AreQueued k s → queued_at s sc ≡ Some e →
    budgets_of (charged_schedule s sc) count
    ≡ slice_set (budgets_of s count) sc (Some (budget_after (is_spent e.budget) (quantum_in (slice_get k.objects sc)) s.next_stamp e.budget))
unfolding budgets_of
budgets_charged k s count sc e queued there =
    ap (λ (x : Schedule). budgets_of x count) (charged_is s sc e there)
    ∙ budgets_set s count sc e (paid_entry e s.next_stamp) there
    ∙ ap (λ (q : ℕ). slice_set (budgets_of s count) sc (Some (budget_after (is_spent e.budget) q s.next_stamp e.budget))) (sym (held_by k s sc e queued there).quantum)

pub stamp_charged : (s : Schedule) (sc : ℕ) (e : Queued) → queued_at s sc ≡ Some e → (charged_schedule s sc).next_stamp ≡ stamp_after (is_spent e.budget) s.next_stamp
stamp_charged s sc e there = ap (λ (x : Schedule). x.next_stamp) (charged_is s sc e there)

-- the state that a charge leaves
paid_queued : (k : KernelState) (s : Schedule) (cpu sc : ℕ) (e : Queued) → AreQueued k s → queued_at s sc ≡ Some e →
    AreQueued (counted (paid_by k sc (quantum_in (slice_get k.objects sc)) (Some e.budget)) cpu)
    (record s { entries = slice_set s.entries sc (Some (paid_entry e s.next_stamp)); next_stamp = stamp_after (is_spent e.budget) s.next_stamp })
paid_queued k s cpu sc e queued there =
    let h = held_by k s sc e queued there in
    let after = budget_after (is_spent e.budget) (quantum_in (slice_get k.objects sc)) k.next_stamp e.budget in
    let is : paid_entry e s.next_stamp ≡ record e { budget = after } =
    ap₂ (λ (q stamp : ℕ). record e { budget = budget_after (is_spent e.budget) q stamp e.budget }) (sym h.quantum) queued.stamp in
    record {
      cpus = queued.cpus;
      numbers = let n = length-set s.entries sc (Some (paid_entry e s.next_stamp)) in let few = queued.numbers in omega (arith, n, few);
      stamp = ap (stamp_after (is_spent e.budget)) queued.stamp;
      entries = λ n. by_place n (n == sc) refl (queued.entries n) is (h.others after) h.budget;
      homes = queued.homes;
      owners = queued.owners;
    }
  where
    by_place : (n : ℕ) (t : Bool) → (n == sc) ≡ t → queued_at s n ≡ wanted k n →
        paid_entry e s.next_stamp ≡ record e { budget = budget_after (is_spent e.budget) (quantum_in (slice_get k.objects sc)) k.next_stamp e.budget } →
        wanted_with k.contexts (slice_get k.objects sc) (Some (budget_after (is_spent e.budget) (quantum_in (slice_get k.objects sc)) k.next_stamp e.budget))
        ≡ Some (record e { budget = budget_after (is_spent e.budget) (quantum_in (slice_get k.objects sc)) k.next_stamp e.budget }) →
        budget_at k sc ≡ Some e.budget →
        entry (slice_get (slice_set s.entries sc (Some (paid_entry e s.next_stamp))) n)
        ≡ wanted_with k.contexts (slice_get k.objects n)
        (entry (slice_get (slice_set k.budgets sc (Some (budget_after (is_spent e.budget) (quantum_in (slice_get k.objects sc)) k.next_stamp e.budget))) n))
    by_place n true at before is others budget =
        let same : n ≡ sc = grind (arith, at) in
        let after = budget_after (is_spent e.budget) (quantum_in (slice_get k.objects sc)) k.next_stamp e.budget in
        ap (λ (m : ℕ). entry (slice_get (slice_set s.entries sc (Some (paid_entry e s.next_stamp))) m)) same
        ∙ get_set_same s.entries sc e (paid_entry e s.next_stamp) there
        ∙ ap (λ (x : Queued). Some x) is
        ∙ sym others
        ∙ ap (λ (o : Option Budget). wanted_with k.contexts (slice_get k.objects sc) o) (sym (get_set_same k.budgets sc e.budget after budget))
        ∙ ap (λ (m : ℕ). wanted_with k.contexts (slice_get k.objects m) (entry (slice_get (slice_set k.budgets sc (Some after)) m))) (sym same)
    by_place n false at before is others budget =
        let after = budget_after (is_spent e.budget) (quantum_in (slice_get k.objects sc)) k.next_stamp e.budget in
        let apart : n ≢ sc = λ same. absurd (grind (arith, at, same)) in
        ap entry (get_set_other s.entries sc n (Some (paid_entry e s.next_stamp)) apart)
        ∙ before
        ∙ ap (λ (o : Option (Option Budget)). wanted_with k.contexts (slice_get k.objects n) (entry o)) (sym (get_set_other k.budgets sc n (Some after) apart))

pub charged_queued : (k : KernelState) (s : Schedule) (cpu sc : ℕ) (e : Queued) → AreQueued k s → queued_at s sc ≡ Some e → AreQueued (turn.charged k cpu sc) (charged_schedule s sc)
unfolding turn.charged
charged_queued k s cpu sc e queued there =
    subst (λ (x : Schedule). AreQueued (turn.charged k cpu sc) x) (sym (charged_is s sc e there))
    (subst (λ (o : Option Budget). AreQueued (counted (paid_by k sc (quantum_in (slice_get k.objects sc)) o) cpu)
    (record s { entries = slice_set s.entries sc (Some (paid_entry e s.next_stamp)); next_stamp = stamp_after (is_spent e.budget) s.next_stamp }))
    (sym (held_by k s sc e queued there).budget) (paid_queued k s cpu sc e queued there))

pub paid_shown : (k : KernelState) (s after : Schedule) (count sc : ℕ) → AreQueued k s → k.budgets ≡ budgets_of s count → IsSome (queued_at s sc) → after ≡ charged_schedule s sc →
    record k { budgets = budgets_of after count; next_stamp = after.next_stamp } ≡ paid_by k sc (quantum_in (slice_get k.objects sc)) (budget_at k sc)
unfolding with_budgets
paid_shown k s after count sc queued budgets there is = by_entry (queued_at s sc) refl there
  where
    by_budget : (e : Queued) → queued_at s sc ≡ Some e →
        record k { budgets = budgets_of after count; next_stamp = after.next_stamp } ≡ paid_by k sc (quantum_in (slice_get k.objects sc)) (Some e.budget)
    by_budget e at =
        ap₂ (with_budgets k)
        (ap (λ (x : Schedule). budgets_of x count) is
        ∙ budgets_charged k s count sc e queued at
        ∙ ap₂ (λ (bs : List (Option Budget)) (stamp : ℕ). slice_set bs sc (Some (budget_after (is_spent e.budget) (quantum_in (slice_get k.objects sc)) stamp e.budget)))
        (sym budgets) queued.stamp)
        (ap (λ (x : Schedule). x.next_stamp) is ∙ stamp_charged s sc e at ∙ ap (stamp_after (is_spent e.budget)) queued.stamp)

    by_entry : (o : Option Queued) → queued_at s sc ≡ o → IsSome o →
        record k { budgets = budgets_of after count; next_stamp = after.next_stamp } ≡ paid_by k sc (quantum_in (slice_get k.objects sc)) (budget_at k sc)
    by_entry None at some = absurd cc
    by_entry (Some e) at some =
        by_budget e at ∙ ap (paid_by k sc (quantum_in (slice_get k.objects sc))) (sym (held_by k s sc e queued at).budget)

-- a scheduling context that is there is charged
pub charged_there : (k : KernelState) (s after : Schedule) (cpu sc : ℕ) → AreQueued k s → IsSome (queued_at s sc) → after ≡ charged_schedule s sc → AreQueued (turn.charged k cpu sc) after
charged_there k s after cpu sc queued there is =
    subst (λ (x : Schedule). AreQueued (turn.charged k cpu sc) x) (sym is) (by_entry (queued_at s sc) refl there)
  where
    by_entry : (o : Option Queued) → queued_at s sc ≡ o → IsSome o → AreQueued (turn.charged k cpu sc) (charged_schedule s sc)
    by_entry None at some = absurd cc
    by_entry (Some e) at some = charged_queued k s cpu sc e queued at

-- a turn is paid and counted
charged_from : (k mid new : KernelState) (cpu sc : ℕ) → mid ≡ paid_by k sc (quantum_in (slice_get k.objects sc)) (budget_at k sc) → new ≡ counted mid cpu →
    new ≡ turn.charged k cpu sc
unfolding turn.charged
charged_from k mid new cpu sc paid counts = counts ∙ ap (λ (x : KernelState). counted x cpu) paid

pub charge_queued : (k mid new : KernelState) (s between after : Schedule) (cpu sc : ℕ) → AreQueued k s → IsSome (queued_at s sc) →
    mid ≡ paid_by k sc (quantum_in (slice_get k.objects sc)) (budget_at k sc) → new ≡ counted mid cpu → between ≡ charged_schedule s sc → after ≡ between → AreQueued new after
charge_queued k mid new s between after cpu sc queued there paid counts charges same =
    subst (λ (x : KernelState). AreQueued x after) (sym (charged_from k mid new cpu sc paid counts))
    (charged_there k s after cpu sc queued there (same ∙ charges))

-- stir counts are nothing to the queues
pub queued_risen : (k : KernelState) (rises : ℕ → Bool) (s : Schedule) → AreQueued k s → AreQueued (risen_in k rises) s
queued_risen k rises s q = record { cpus = q.cpus; numbers = q.numbers; stamp = q.stamp; entries = q.entries; homes = q.homes; owners = q.owners }
