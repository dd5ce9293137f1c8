-- The virtual CPU that would step next on a processor.
use Rattle.std.proofs.Common.{◌≡◌, ◌<◌, ℕ, List, ap, ap₂, sym, ◌∙◌, subst, refl, arith}
use Rattle.std.specs.Prelude.{Bool, true, false, not, ◌&&◌, nat_le, nat_lt, ◌-◌, ◌==◌, min, option_and_then, Option, Some, None, IsSome, option_map, slice_get, slice_index, length, if◌then◌else◌}
use Rattle.std.proofs.lemmas.Option.{same_Some}
use Rattle.rv_model.specs.Registers.{Registers}
use Rattle.nova_objects.specs.declared.object.Object.{Object}
use Rattle.nova_objects.specs.declared.object.Object.TheVariants.{Pd, Ec, Sc, Pt, Sm}
use Rattle.nova_objects.specs.declared.object.EcKind.TheVariants.{Local, Global, Vcpu}
use Rattle.nova_model.specs.Capabilities.{is_vcpu}
use Rattle.nova_model.specs.Choice.{Candidate, choice, next_to_act, unless_due}
use Rattle.nova_model.specs.Times.{Entry, clock, due_on, if_due, next_entry, until_due}
use Rattle.nova_model.specs.declared.times.Due.{Due}
use Rattle.nova_model.specs.State.{KernelState, budget_at, context, pd_in, pd_of}
use Rattle.nova_model.specs.declared.budget.Budget.{Budget}
use Rattle.nova_model.specs.declared.context.EcState.{EcState}
use Rattle.nova_model.specs.declared.context.State.{State}
use Rattle.nova_model.specs.declared.context.State.TheVariants.{Fresh, Ready, Parked, Calling, Helping, Exiting, Sending, Granting, Replying, Revoking, Blocked, Dead}
use Rattle.law_forest.proofs.Turning.{idle_none}
use Rattle.law_turns.proofs.Candidates.{HasSchedule, schedule_of, the_chosen}
use Rattle.law_isolation.specs.Sound.{IsVirtual}
use Rattle.law_leases.specs.Commits.{IsReached, lesser, stirs_now}
use Rattle.nova_burst.specs.Found.{IsFound}
use Rattle.nova_burst.specs.Lending.{domain_of_virtual, has_code, is_leasable, is_ready, is_to_step, regs_to_step, turns_before, turns_left}
use Rattle.nova_kernel.specs.Views.{left_of}
use Rattle.nova_burst.specs.declared.leasing.Leasable.{Leasable}

-- the virtual CPU that acts, and from what it is paid
pub record IsNext (k : KernelState) (cpu g sc : ℕ) : Type 0 where
  pub chosen : Candidate
  pub budget : Budget
  pub is : choice k cpu ≡ Some chosen
  pub actor : chosen.actor ≡ g
  pub its : chosen.sc ≡ sc
  pub left : budget_at k sc ≡ Some budget

pub next_is : (k : KernelState) (cpu g sc : ℕ) → option_map (λ c. c.actor) (choice k cpu) ≡ Some g → option_map (λ c. c.sc) (choice k cpu) ≡ Some sc → IsNext k cpu g sc
next_is k cpu g sc acts pays = by_choice (choice k cpu) refl acts pays
  where
    by_choice : (o : Option Candidate) → choice k cpu ≡ o → option_map (λ c. c.actor) o ≡ Some g → option_map (λ c. c.sc) o ≡ Some sc → IsNext k cpu g sc
    by_choice None is a p = absurd (cc)
    by_choice (Some c) is a p =
        let its : HasSchedule k cpu c = schedule_of k cpu c (the_chosen k cpu c is) in
        let same : c.sc ≡ sc = same_Some c.sc sc p in
        record { chosen = c; budget = its.budget; is = is; actor = same_Some c.actor g a; its = same; left = ap (budget_at k) (sym same) ∙ its.there }

-- WHAT IS DUE

-- nothing is due where turns are left, and something is where none are
pub record IsBefore (k : KernelState) (cpu budget n : ℕ) : Type 0 where
  pub calm : due_on k.times cpu ≡ None
  pub left : n ≡ lesser budget (until_due k.times cpu)

pub is_before_due : (k : KernelState) (cpu budget left : ℕ) → turns_before budget (until_due k.times cpu) ≡ Some left → IsBefore k cpu budget left
is_before_due k cpu budget left h = by_entry (next_entry k.times cpu) refl h
  where
    calm_by : (now : ℕ) (e : Entry) (b : Bool) → nat_le e.moment now ≡ b → (e.moment - now == 0) ≡ false → if_due now e ≡ None
    calm_by now e true is no_turns = absurd (grind (arith, is, no_turns))
    calm_by now e false is no_turns = ap (λ (b : Bool). if b then Some e.what else None) is

    turns_by : (now : ℕ) (e : Entry) (b : Bool) → (e.moment - now == 0) ≡ b → (if b then None else Some (min budget (e.moment - now))) ≡ Some left →
        (if_due now e ≡ None) × (left ≡ min budget (e.moment - now))
    turns_by now e true is g = absurd (cc)
    turns_by now e false is g = (calm_by now e (nat_le e.moment now) refl is, sym (same_Some (min budget (e.moment - now)) left g))

    by_entry : (o : Option Entry) → next_entry k.times cpu ≡ o → turns_before budget (option_map (λ (m : ℕ). m - clock k.times cpu) (option_map (λ (e : Entry). e.moment) o)) ≡ Some left → IsBefore k cpu budget left
    by_entry None is g = record {
      calm = ap (option_and_then (if_due (clock k.times cpu))) is;
      left = sym (same_Some budget left g) ∙ sym (ap (λ (o : Option Entry). lesser budget (option_map (λ (m : ℕ). m - clock k.times cpu) (option_map (λ (e : Entry). e.moment) o))) is);
    }
    by_entry (Some e) is g =
        let both = turns_by (clock k.times cpu) e (e.moment - clock k.times cpu == 0) refl g in
        record {
          calm = ap (option_and_then (if_due (clock k.times cpu))) is ∙ both.0;
          left = both.1 ∙ sym (ap (λ (o : Option Entry). lesser budget (option_map (λ (m : ℕ). m - clock k.times cpu) (option_map (λ (e : Entry). e.moment) o))) is);
        }

-- something is due, so that none acts
pub none_acts : (k : KernelState) (cpu budget : ℕ) → turns_before budget (until_due k.times cpu) ≡ None → next_to_act k cpu ≡ None
unfolding next_to_act
none_acts k cpu budget h = by_entry (next_entry k.times cpu) refl h
  where
    due_by : (now : ℕ) (e : Entry) (b : Bool) → nat_le e.moment now ≡ b → (e.moment - now == 0) ≡ true → if_due now e ≡ Some e.what
    due_by now e true is none = ap (λ (b : Bool). if b then Some e.what else None) is
    due_by now e false is none = absurd (grind (arith, is, none))

    turns_by : (now : ℕ) (e : Entry) (b : Bool) → (e.moment - now == 0) ≡ b → (if b then None else Some (min budget (e.moment - now))) ≡ None → if_due now e ≡ Some e.what
    turns_by now e true is g = due_by now e (nat_le e.moment now) refl is
    turns_by now e false is g = absurd (cc)

    by_entry : (o : Option Entry) → next_entry k.times cpu ≡ o → turns_before budget (option_map (λ (m : ℕ). m - clock k.times cpu) (option_map (λ (e : Entry). e.moment) o)) ≡ None →
        unless_due (due_on k.times cpu) (choice k cpu) ≡ None
    by_entry None is g = absurd (cc)
    by_entry (Some e) is g =
        let due : due_on k.times cpu ≡ Some e.what =
        ap (option_and_then (if_due (clock k.times cpu))) is ∙ turns_by (clock k.times cpu) e (e.moment - clock k.times cpu == 0) refl g in
        ap (λ (d : Option Due). unless_due d (choice k cpu)) due

-- the chosen context acts, where nothing is due
pub chosen_acts : (k : KernelState) (cpu : ℕ) → due_on k.times cpu ≡ None → next_to_act k cpu ≡ choice k cpu
unfolding next_to_act
chosen_acts k cpu calm = ap (λ (d : Option Due). unless_due d (choice k cpu)) calm

pub acts_on : (k : KernelState) (cpu g sc : ℕ) → IsNext k cpu g sc → is_to_step k (choice k cpu) ≡ has_code k (domain_of_virtual (slice_get k.objects g)) (regs_to_step (context k g))
acts_on k cpu g sc it = ap (is_to_step k) it.is ∙ ap (λ (n : ℕ). has_code k (domain_of_virtual (slice_get k.objects n)) (regs_to_step (context k n))) it.actor

no_choice : (o : Option Candidate) → option_map (λ c. c.actor) o ≡ None → o ≡ None
no_choice None g = refl
no_choice (Some c) g = absurd (cc)

pub pays_some : (k : KernelState) (cpu g : ℕ) → option_map (λ c. c.actor) (choice k cpu) ≡ Some g → option_map (λ c. c.sc) (choice k cpu) ≡ None → ⊥
pays_some k cpu g a p = by_choice (choice k cpu) a p
  where
    by_choice : (o : Option Candidate) → option_map (λ c. c.actor) o ≡ Some g → option_map (λ c. c.sc) o ≡ None → ⊥
    by_choice None a p = cc
    by_choice (Some c) a p = cc

pub not_leasable : (k : KernelState) (cpu : ℕ) → next_to_act k cpu ≡ None → is_leasable k cpu ≡ false
not_leasable k cpu none = ap (λ (o : Option Candidate). nat_lt cpu k.cpus && is_to_step k o) none ∙ and_none (nat_lt cpu k.cpus)
  where
    and_none : (b : Bool) → (b && false) ≡ false
    and_none true = refl
    and_none false = refl

pub leasable_none : (k : KernelState) (cpu : ℕ) → option_map (λ c. c.actor) (choice k cpu) ≡ None → is_leasable k cpu ≡ false
leasable_none k cpu h = not_leasable k cpu (idle_none k cpu (no_choice (choice k cpu) h))

pub leasable_is : (k : KernelState) (cpu g sc : ℕ) → cpu < k.cpus → due_on k.times cpu ≡ None → IsNext k cpu g sc →
    is_leasable k cpu ≡ has_code k (domain_of_virtual (slice_get k.objects g)) (regs_to_step (context k g))
leasable_is k cpu g sc there calm it =
    let is : nat_lt cpu k.cpus ≡ true = grind (arith, there) in
    ap (λ (b : Bool). b && is_to_step k (next_to_act k cpu)) is ∙ (ap (is_to_step k) (chosen_acts k cpu calm) ∙ acts_on k cpu g sc it)

pub nothing_left : (k : KernelState) (cpu g sc : ℕ) → IsNext k cpu g sc → turns_left (left_of k sc) (until_due k.times cpu) ≡ None → is_leasable k cpu ≡ false
nothing_left k cpu g sc it none =
    not_leasable k cpu (none_acts k cpu it.budget.left
    (sym (ap (λ (o : Option Budget). turns_left (option_map (λ (b : Budget). b.left) o) (until_due k.times cpu)) it.left) ∙ none))

pub left_before : (k : KernelState) (cpu g sc left : ℕ) → (it : IsNext k cpu g sc) → turns_left (left_of k sc) (until_due k.times cpu) ≡ Some left → IsBefore k cpu it.budget.left left
left_before k cpu g sc left it is =
    is_before_due k cpu it.budget.left left
    (sym (ap (λ (o : Option Budget). turns_left (option_map (λ (b : Budget). b.left) o) (until_due k.times cpu)) it.left) ∙ is)

-- a virtual CPU, and its domain
pub virtual_is : (k : KernelState) (g pd : ℕ) → domain_of_virtual (slice_get k.objects g) ≡ Some pd → IsVirtual k g × (pd ≡ pd_of k g)
virtual_is k g pd h = by_object (slice_get k.objects g) h
  where
    by_object : (o : Option Object) → domain_of_virtual o ≡ Some pd → (option_map is_vcpu o ≡ Some true) × (pd ≡ pd_in o)
    by_object (Some (Ec p cpu Vcpu event)) g = (refl, sym (same_Some p pd g))
    by_object (Some (Ec p cpu Local event)) g = absurd (cc)
    by_object (Some (Ec p cpu Global event)) g = absurd (cc)
    by_object (Some Pd) g = absurd (cc)
    by_object (Some (Sc ec cpu priority quantum)) g = absurd (cc)
    by_object (Some (Pt ec mtd ip)) g = absurd (cc)
    by_object (Some Sm) g = absurd (cc)
    by_object None g = absurd (cc)

-- a context that is ready, without recall flag
pub record IsStepping (x : EcState) (regs : Registers) : Type 0 where
  pub ready : x.state ≡ Ready
  pub free : x.recall ≡ false
  pub its : regs ≡ x.regs

state_ready : (s : State) → is_ready s ≡ true → s ≡ Ready
state_ready Ready h = refl
state_ready Fresh h = absurd (cc)
state_ready Parked h = absurd (cc)
state_ready (Calling a) h = absurd (cc)
state_ready (Helping a) h = absurd (cc)
state_ready (Exiting a b c) h = absurd (cc)
state_ready (Sending a b c d) h = absurd (cc)
state_ready (Granting a) h = absurd (cc)
state_ready Replying h = absurd (cc)
state_ready (Revoking a b) h = absurd (cc)
state_ready (Blocked a) h = absurd (cc)
state_ready Dead h = absurd (cc)

pub stepping_is : (x : EcState) (regs : Registers) → regs_to_step x ≡ Some regs → IsStepping x regs
stepping_is x regs h = by_tests (is_ready x.state) x.recall refl refl h
  where
    by_tests : (s r : Bool) → is_ready x.state ≡ s → x.recall ≡ r → (if s && not r then Some x.regs else None) ≡ Some regs → IsStepping x regs
    by_tests true false ready free g = record { ready = state_ready x.state ready; free = free; its = sym (same_Some x.regs regs g) }
    by_tests true true ready free g = absurd (cc)
    by_tests false r ready free g = absurd (cc)

-- all of it
pub found_is : (k : KernelState) (cpu sc : ℕ) (r : Leasable) → IsReached k → length k.stirs.processors ≡ k.cpus → cpu < k.cpus → (next : IsNext k cpu r.guest sc) → r.left ≡ lesser next.budget.left (until_due k.times cpu) →
    domain_of_virtual (slice_get k.objects r.guest) ≡ Some r.pd → regs_to_step (context k r.guest) ≡ Some r.regs → r.kept ≡ stirs_now k r.guest cpu → IsFound k cpu r
found_is k cpu sc r is processors there next left domain regs kept =
    let virtual = virtual_is k r.guest r.pd domain in
    let steps : IsStepping (context k r.guest) r.regs = stepping_is (context k r.guest) r.regs regs in
    record {
      state = is;
      processor = there;
      chosen = next.chosen;
      budget = next.budget;
      may = record {
        chosen = next.is;
        guest = subst (IsVirtual k) (sym next.actor) virtual.0;
        ready = ap (λ (n : ℕ). (context k n).state) next.actor ∙ steps.ready;
        recall = ap (λ (n : ℕ). (context k n).recall) next.actor ∙ steps.free;
        budget = ap (budget_at k) next.its ∙ next.left;
        processor = omega arith;
        clock = let same = is.sound.kept.tables.clocks in omega arith;
      };
      actor = next.actor;
      kept = kept;
      left = left;
      pd = virtual.1;
      regs = steps.its;
    }
