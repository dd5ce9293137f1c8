-- A commit that goes through leaves what as many turns leave.
use Rattle.law_forest.proofs.Boots.{sources_keep}
use Rattle.nova_model.specs.Times.{until_due}
use Rattle.std.proofs.Common.{◌≡◌, ◌≢◌, ℕ, zero, suc, List, [], ◌∷◌, ap, sym, ◌∙◌, subst, refl, arith}
use Rattle.std.specs.Prelude.{Bool, true, false, ◌==◌, ◌&&◌, nat_le, replicate, slice_get, slice_index, Option, Some, None, option_map, if◌then◌else◌, IfSome, ◌<◌, ◌≤◌, length}
use Rattle.std.proofs.lemmas.Bool.{eqb-true}
use Rattle.std.proofs.lemmas.Option.{same_Some}
use Rattle.nova_guest.specs.declared.guest.Guest.{Guest}
use Rattle.nova_guest.specs.declared.guest.GuestState.TheVariants as guest
use Rattle.nova_objects.specs.declared.object.Object.{Object}
use Rattle.nova_objects.specs.declared.object.Object.TheVariants.{Pd, Ec, Sc, Pt, Sm}
use Rattle.nova_objects.specs.declared.object.EcKind.TheVariants.{Local, Global, Vcpu}
use Rattle.nova_model.specs.Boot.{Image, Scenario, bare, boot, with_image, with_images}
use Rattle.nova_model.specs.Capabilities.{is_vcpu}
use Rattle.nova_model.specs.Choice.{Candidate, choice}
use Rattle.nova_model.specs.Runs.{after, run, trace}
use Rattle.nova_model.specs.State.{KernelState, budget_at, context}
use Rattle.nova_model.specs.Views.{guest_state, view}
use Rattle.nova_model.specs.declared.budget.Budget.{Budget}
use Rattle.nova_model.specs.declared.context.State.{State}
use Rattle.nova_model.specs.declared.context.State.TheVariants.{Fresh, Ready, Parked, Calling, Helping, Exiting, Sending, Granting, Replying, Revoking, Blocked, Dead}
use Rattle.law_turns.specs.Stirs.{stirs_of}
use Rattle.law_turns.specs.Tables.{cpu_of}
use Rattle.law_turns.proofs.Candidates.{HasSchedule, schedule_of, the_chosen}
use Rattle.law_turns.proofs.Paying.{after_holds}
use Rattle.law_turns.proofs.Schedules.{AreAlone, alone_lasts, run_alone}
use Rattle.law_isolation.specs.Sound.{IsSound, IsVirtual}
use Rattle.law_isolation.proofs.OwnTurns.{state_in_there}
use Rattle.law_isolation.proofs.Premises.{guest as virtual_guest}
use Rattle.law_isolation.proofs.Runs.{boot_sound, turn_sound}
use Rattle.law_isolation.proofs.Seen.{view_is}
use Rattle.law_leases.specs.Advances.{IsLeasable, step_of}
use Rattle.law_leases.specs.Aims.{AreAimed}
use Rattle.law_leases.specs.Commits.{IsCommitted, IsReached, LeaseRun, MayCommit, Stems, by_actor, by_room, commit_done, number_of, same_counts, stirs_now, lesser}
use Rattle.law_leases.specs.Counts.{IsAsBefore, IsOn, IsPayer, IsUnstirred}
use Rattle.law_leases.specs.Paging.{IsStepping, advanced_to}
use Rattle.law_leases.specs.declared.commit.CommitDone.TheVariants.{Dropped, Away, Committed}
use Rattle.law_leases.proofs.Aims.{turn_aimed, more_aimed}
use Rattle.law_leases.proofs.Homes.{chosen_home, home}
use Rattle.law_leases.proofs.Paged.{steps_advance}
use Rattle.law_leases.proofs.Payers.{its_payer, not_idle, schedules_it}
use Rattle.law_leases.proofs.Traced.{traced}
use Rattle.law_leases.proofs.Unchanged.{counted, on_virtual, run_on, unstirred, run_clocks}

-- WHAT ALWAYS HOLDS

pub turn_reached : (k : KernelState) (cpu : ℕ) → IsReached k → IsReached (after k cpu)
turn_reached k cpu is = record {
  sound = turn_sound k cpu is.sound;
  single = record { aimed = turn_aimed k cpu is.sound.kept.tables is.single.aimed; alone = after_holds AreAlone alone_lasts k cpu is.single.alone };
}

pub run_reached : (k : KernelState) (turns : List ℕ) → IsReached k → IsReached (run k turns)
run_reached k [] is = is
run_reached k (cpu ∷ turns) is = run_reached (after k cpu) turns (turn_reached k cpu is)

-- a kernel begins so
bare_aimed : (s : Scenario) → AreAimed (bare s.cpus s.ram s.consoles s.root).objects (bare s.cpus s.ram s.consoles s.root).contexts
bare_aimed s zero h leads = absurd (cc)
bare_aimed s (suc zero) h leads = absurd (cc)
bare_aimed s (suc (suc zero)) h leads = absurd (cc)
bare_aimed s (suc (suc (suc e))) h leads = absurd (cc)

images_aimed : (k : KernelState) (images : List Image) → AreAimed k.objects k.contexts → AreAimed (with_images k images).objects (with_images k images).contexts
images_aimed k [] all = all
images_aimed k (image ∷ images) all = images_aimed (with_image k image) images all

pub boot_reached : (s : Scenario) → IsReached (boot s)
boot_reached s = record {
  sound = boot_sound s;
  single = record {
    aimed = sources_keep (λ (k : KernelState). AreAimed k.objects k.contexts) (λ k source all. more_aimed k.objects Sm k.contexts None refl all)
        (with_images (bare s.cpus s.ram s.consoles s.root) s.images) s.sources (images_aimed (bare s.cpus s.ram s.consoles s.root) s.images (bare_aimed s));
    alone = run_alone s [];
  };
}

-- WHAT IS LEASED STAYS

virtual_on : (g cpu : ℕ) (o : Option Object) → option_map is_vcpu o ≡ Some true → ((its : ℕ) → cpu_of o ≡ Some its → its ≡ cpu) → (pd : ℕ) × (event : ℕ) × (o ≡ Some (Ec pd cpu Vcpu event))
virtual_on g cpu (Some (Ec pd its Vcpu event)) is at = (pd, event, ap (λ (n : ℕ). Some (Ec pd n Vcpu event)) (at its refl))
virtual_on g cpu (Some (Ec pd its Local event)) is at = absurd (cc)
virtual_on g cpu (Some (Ec pd its Global event)) is at = absurd (cc)
virtual_on g cpu (Some Pd) is at = absurd (cc)
virtual_on g cpu (Some (Sc ec its priority quantum)) is at = absurd (cc)
virtual_on g cpu (Some (Pt ec mtd ip)) is at = absurd (cc)
virtual_on g cpu (Some Sm) is at = absurd (cc)
virtual_on g cpu None is at = absurd (cc)

-- the context that acts on a processor is one of its
leased_on : (k : KernelState) (cpu : ℕ) (c : Candidate) (b : Budget) → IsSound k → IsLeasable k cpu c b → IsOn k c.actor cpu
leased_on k cpu c b sound may =
    let at = virtual_on c.actor cpu (slice_get k.objects c.actor) may.guest
    (λ its is. same_Some its cpu (sym (home k c.actor its sound.kept.tables is) ∙ chosen_home k cpu c sound may.chosen)) in
    record { pd = at.0; event = at.1; object = at.2; processor = may.processor }

is_ready : (s : State) → guest_state s ≡ guest.Ready → s ≡ Ready
is_ready Ready h = refl
is_ready Fresh h = absurd (cc)
is_ready Parked h = absurd (cc)
is_ready (Calling h) is = absurd (cc)
is_ready (Helping h) is = absurd (cc)
is_ready (Exiting reason q0 q1) h = absurd (cc)
is_ready (Sending reason q0 q1 x) h = absurd (cc)
is_ready (Granting new) h = absurd (cc)
is_ready Replying h = absurd (cc)
is_ready (Revoking range own) h = absurd (cc)
is_ready (Blocked sm) h = absurd (cc)
is_ready Dead h = absurd (cc)

still_ready : (k l : KernelState) (g : ℕ) → view l g ≡ view k g → (context k g).state ≡ Ready → (context l g).state ≡ Ready
still_ready k l g same at_ready = is_ready (context l g).state
    (sym (ap (λ (v : Guest). v.state) (view_is l g)) ∙ (ap (λ (v : Guest). v.state) same ∙ (ap (λ (v : Guest). v.state) (view_is k g) ∙ ap guest_state at_ready)))

still_free : (k l : KernelState) (g : ℕ) → view l g ≡ view k g → (context k g).recall ≡ false → (context l g).recall ≡ false
still_free k l g same free =
    sym (ap (λ (v : Guest). v.recall) (view_is l g)) ∙ (ap (λ (v : Guest). v.recall) same ∙ (ap (λ (v : Guest). v.recall) (view_is k g) ∙ free))

-- the payer of the virtual CPU that is leased, as its own
own_payer : (k : KernelState) (cpu : ℕ) (c : Candidate) (b : Budget) → IsReached k → IsLeasable k cpu c b → (its : HasSchedule k cpu c) →
    IsPayer k cpu c.sc c.actor its.priority its.quantum b
own_payer k cpu c b is may its = record {
  object = its.object ∙ ap (λ (n : ℕ). Some (Sc n cpu its.priority its.quantum)) (its_payer k cpu c its.ec its.priority its.quantum is.sound is.single may.chosen may.guest its.object);
  budget = may.budget;
}

-- where it acts again, it may be leased with the same budget
still_leasable : (k l : KernelState) (cpu : ℕ) (c d : Candidate) (b : Budget) → IsReached k → IsReached l → IsLeasable k cpu c b → IsOn l c.actor cpu → cpu < length l.times.clocks → IsAsBefore k l c.actor cpu →
    choice l cpu ≡ Some d → d.actor ≡ c.actor → IsLeasable l cpu d b
still_leasable k l cpu c d b is now may on clocked same chosen acts =
    let its : HasSchedule k cpu c = schedule_of k cpu c (the_chosen k cpu c may.chosen) in
    let theirs : HasSchedule l cpu d = schedule_of l cpu d (the_chosen l cpu d chosen) in
    let virtual : IsVirtual l d.actor = subst (IsVirtual l) (sym acts) (on_virtual l c.actor cpu on) in
    let kept : IsPayer l cpu c.sc c.actor its.priority its.quantum b = same.payers c.sc c.actor its.priority its.quantum b (own_payer k cpu c b is may its) in
    let pays : theirs.ec ≡ c.actor = its_payer l cpu d theirs.ec theirs.priority theirs.quantum now.sound now.single chosen virtual theirs.object ∙ acts in
    let one : c.sc ≡ d.sc = now.single.alone.one c.actor c.sc d.sc (schedules_it l c.sc c.actor cpu its.priority its.quantum kept.object)
    (schedules_it l d.sc c.actor cpu theirs.priority theirs.quantum (theirs.object ∙ ap (λ (n : ℕ). Some (Sc n cpu theirs.priority theirs.quantum)) pays)) in
    record {
      chosen = chosen;
      guest = virtual;
      ready = ap (λ (n : ℕ). (context l n).state) acts ∙ still_ready k l c.actor same.view may.ready;
      recall = ap (λ (n : ℕ). (context l n).recall) acts ∙ still_free k l c.actor same.view may.recall;
      budget = ap (budget_at l) (sym one) ∙ kept.budget;
      processor = on.processor;
      clock = clocked;
    }

-- COUNTS THAT ARE EQUAL

and_both : (a b : Bool) → (a && b) ≡ true → (a ≡ true) × (b ≡ true)
and_both true true h = (refl, refl)
and_both true false h = absurd (cc)
and_both false b h = absurd (cc)

some_same : (n m : ℕ) (a b : Option ℕ) → a ≡ Some n → b ≡ Some m → number_of a ≡ number_of b → b ≡ a
some_same n m a b is at same = at ∙ (ap Some (sym (sym (ap number_of is) ∙ (same ∙ ap number_of at))) ∙ sym is)

equal_counts : (k l : KernelState) (g cpu : ℕ) → IsSound k → IsSound l → IsVirtual k g → IsVirtual l g → same_counts (stirs_now k g cpu) (stirs_now l g cpu) ≡ true → IsUnstirred k l g cpu
equal_counts k l g cpu sound later is on same =
    let both = and_both (number_of (stirs_of k g) == number_of (stirs_of l g)) (slice_index k.stirs.processors cpu == slice_index l.stirs.processors cpu) same in
    let a = counted k g sound.kept.tables is in let b = counted l g later.kept.tables on in
    record {
      guest = some_same a.0 b.0 (stirs_of k g) (stirs_of l g) a.1 b.1 (eqb-true (number_of (stirs_of k g)) (number_of (stirs_of l g)) both.0);
      processor = sym (eqb-true (slice_index k.stirs.processors cpu) (slice_index l.stirs.processors cpu) both.1);
    }

-- A COMMIT

-- the state that is found, with the lease's state behind it
pub record IsFound (k l : KernelState) (lease : LeaseRun) (c : Candidate) (b : Budget) : Type 0 where
  pub state : IsReached l
  pub on : IsOn l c.actor lease.cpu
  pub same : IsAsBefore k l c.actor lease.cpu

found : (k : KernelState) (turns : List ℕ) (lease : LeaseRun) → (stems : Stems lease k) → same_counts lease.kept (stirs_now (run k turns) lease.guest lease.cpu) ≡ true →
    IsFound k (run k turns) lease stems.chosen stems.budget
found k turns lease stems same =
    let g = stems.chosen.actor in
    let l = run k turns in
    let later : IsReached l = run_reached k turns stems.state in
    let on : IsOn k g lease.cpu = leased_on k lease.cpu stems.chosen stems.budget stems.state.sound stems.may in
    let now : IsOn l g lease.cpu = run_on turns k g lease.cpu on in
    let counts : same_counts (stirs_now k g lease.cpu) (stirs_now l g lease.cpu) ≡ true =
    subst (λ (n : ℕ). same_counts (stirs_now k n lease.cpu) (stirs_now l n lease.cpu) ≡ true) (sym stems.actor)
    (ap (λ (x : ℕ × ℕ). same_counts x (stirs_now l lease.guest lease.cpu)) (sym stems.kept) ∙ same) in
    record {
      state = later;
      on = now;
      same = unstirred turns k g lease.cpu stems.state.sound on
          (equal_counts k l g lease.cpu stems.state.sound later.sound stems.may.guest (on_virtual l g lease.cpu now) counts);
    }

-- with equal counts the processor isn't idle
pub still_busy : (k : KernelState) (turns : List ℕ) (lease : LeaseRun) → Stems lease k → same_counts lease.kept (stirs_now (run k turns) lease.guest lease.cpu) ≡ true →
    choice (run k turns) lease.cpu ≢ None
still_busy k turns lease stems same =
    let f : IsFound k (run k turns) lease stems.chosen stems.budget = found k turns lease stems same in
    let g = stems.chosen.actor in
    let l = run k turns in
    let its : HasSchedule k lease.cpu stems.chosen = schedule_of k lease.cpu stems.chosen (the_chosen k lease.cpu stems.chosen stems.may.chosen) in
    let virtual = virtual_guest l g f.state.sound (on_virtual l g lease.cpu f.on) in
    not_idle l lease.cpu stems.chosen.sc g its.priority its.quantum stems.budget f.state.sound
    (state_in_there l g virtual.there ∙ ap Some (still_ready k l g f.same.view stems.may.ready))
    (f.same.payers stems.chosen.sc g its.priority its.quantum stems.budget (own_payer k lease.cpu stems.chosen stems.budget stems.state stems.may its))

-- the lesser bounds both
lesser_bounds : (left : ℕ) (until : Option ℕ) (n : ℕ) → n ≤ lesser left until → (n ≤ left) × IfSome until (λ turns. n ≤ turns)
lesser_bounds left None n within = (within, tt)
lesser_bounds left (Some until) n within = (omega (arith, within), omega (arith, within))

pub may_commit : (k : KernelState) (turns : List ℕ) (lease : LeaseRun) (d : Candidate) → (stems : Stems lease k) →
    same_counts lease.kept (stirs_now (run k turns) lease.guest lease.cpu) ≡ true → choice (run k turns) lease.cpu ≡ Some d → d.actor ≡ lease.guest →
    MayCommit (run k turns) lease d stems.budget
may_commit k turns lease d stems same chosen acts =
    let f : IsFound k (run k turns) lease stems.chosen stems.budget = found k turns lease stems same in
    let one : d.actor ≡ stems.chosen.actor = acts ∙ sym stems.actor in
    let bound = lesser_bounds stems.budget.left (until_due k.times lease.cpu) lease.steps.count (subst (λ (n : ℕ). lease.steps.count ≤ n) stems.bound stems.within) in
    record {
      state = f.state;
      may = still_leasable k (run k turns) lease.cpu stems.chosen d stems.budget stems.state f.state stems.may f.on (subst (λ (n : ℕ). lease.cpu < n) (sym (run_clocks turns k)) stems.may.clock) f.same chosen one;
      actor = acts;
      left = bound.0;
      early = f.same.early lease.steps.count bound.1;
      runs = subst (λ (v : Guest). IsStepping v lease.steps) (ap (view k) (sym stems.actor) ∙ (sym f.same.view ∙ ap (view (run k turns)) (sym one))) stems.runs;
    }

-- it leaves as many turns, each a plain step of the leased virtual CPU that the chosen scheduling context pays
pub commits : (l : KernelState) (lease : LeaseRun) (d : Candidate) (b : Budget) → MayCommit l lease d b →
    run l (replicate lease.steps.count lease.cpu) ≡ advanced_to l lease.cpu d b lease.steps
commits l lease d b is = steps_advance l lease.cpu d b lease.steps is.state.sound is.may is.left is.early is.runs

pub commit_traced : (l : KernelState) (lease : LeaseRun) (d : Candidate) (b : Budget) → MayCommit l lease d b →
    trace l (replicate lease.steps.count lease.cpu) ≡ replicate lease.steps.count (step_of lease.cpu d)
commit_traced l lease d b is = traced lease.steps.count l lease.cpu d b is.state.sound is.may is.left is.early is.runs.pages.quiet

-- THE ANSWERS

pub committed : (l : KernelState) (lease : LeaseRun) (left n : ℕ) → commit_done l lease left ≡ Committed n → IsCommitted l lease left n
committed l lease left n is = by_counts (same_counts lease.kept (stirs_now l lease.guest lease.cpu)) refl is
  where
    by_fits : same_counts lease.kept (stirs_now l lease.guest lease.cpu) ≡ true → (c : Candidate) → choice l lease.cpu ≡ Some c → c.actor ≡ lease.guest → (t : Bool) →
        nat_le lease.steps.count left ≡ t → by_room lease.steps.count left t ≡ Committed n → IsCommitted l lease left n
    by_fits same c chosen acts true fits h =
        let count : lease.steps.count ≡ n = cc in
        record { same = same; chosen = c; is = chosen; actor = acts; count = count; room = grind (arith, fits, count) }
    by_fits same c chosen acts false fits h = absurd (cc)

    by_test : same_counts lease.kept (stirs_now l lease.guest lease.cpu) ≡ true → (c : Candidate) → choice l lease.cpu ≡ Some c → (t : Bool) → c.actor == lease.guest ≡ t →
        (if t then by_room lease.steps.count left (nat_le lease.steps.count left) else Away c.actor) ≡ Committed n → IsCommitted l lease left n
    by_test same c chosen true acts h = by_fits same c chosen (eqb-true c.actor lease.guest acts) (nat_le lease.steps.count left) refl h
    by_test same c chosen false acts h = absurd (cc)

    by_choice : same_counts lease.kept (stirs_now l lease.guest lease.cpu) ≡ true → (o : Option Candidate) → choice l lease.cpu ≡ o → by_actor lease left o ≡ Committed n →
        IsCommitted l lease left n
    by_choice same None chosen h = absurd (cc)
    by_choice same (Some c) chosen h = by_test same c chosen (c.actor == lease.guest) refl h

    by_counts : (t : Bool) → same_counts lease.kept (stirs_now l lease.guest lease.cpu) ≡ t →
        (if t then by_actor lease left (choice l lease.cpu) else Dropped lease.kept (stirs_now l lease.guest lease.cpu)) ≡ Committed n → IsCommitted l lease left n
    by_counts true same h = by_choice same (choice l lease.cpu) refl h
    by_counts false same h = absurd (cc)
