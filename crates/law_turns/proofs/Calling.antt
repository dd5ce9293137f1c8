-- Callers and handlers, from links that hold along all turns.
use Rattle.std.proofs.Common.{◌≡◌, ℕ, ◌+◌, List, refl, ap, ◌∙◌, sym, subst}
use Rattle.std.specs.Prelude.{◌≢◌, true, false, slice_get, Option, Some, None, IfSome, IsSome, is_some, option_map}
use Rattle.nova_objects.specs.declared.object.Object.{Object}
use Rattle.nova_objects.specs.declared.object.Object.TheVariants.{Pd, Ec, Sc, Pt, Sm}
use Rattle.nova_objects.specs.declared.object.EcKind.TheVariants.{Local, Global, Vcpu}
use Rattle.nova_model.specs.Boot.{Scenario, boot}
use Rattle.nova_model.specs.Calls.{is_parked}
use Rattle.nova_model.specs.Capabilities.{is_local, is_vcpu}
use Rattle.nova_model.specs.Edges.{AreCallers, caller_in, is_dead, is_free, state_in}
use Rattle.nova_model.specs.Runs.{run}
use Rattle.nova_model.specs.State.{KernelState, context, context_at, ec_in, entry, is_local_in, is_local_thread, is_thread}
use Rattle.nova_model.specs.declared.context.EcState.{EcState}
use Rattle.nova_model.specs.declared.context.Mark.{Mark}
use Rattle.nova_model.specs.declared.context.Mark.TheVariants.{Call, Exit}
use Rattle.nova_model.specs.declared.context.State.{State}
use Rattle.nova_model.specs.declared.context.State.TheVariants.{Calling, Dead, Granting, Parked}
use Rattle.law_turns.specs.Callers.{HasNoCaller, HasOneCaller}
use Rattle.law_turns.specs.Links.{IsWell}
use Rattle.law_turns.specs.Tables.{IsOf, Refers, tag, tag_of}
use Rattle.law_turns.specs.Virtual.{is_guest_state}
use Rattle.law_turns.proofs.TablesFit.{TablesFit, boot_run_fits}
use Rattle.law_turns.proofs.Serving.{number_in}
use Rattle.law_turns.proofs.TablesKept.{all_get, tags_at}
use Rattle.law_turns.proofs.Virtual.{virtual_alone}

-- a local thread is there
there_by : (n : ℕ) (c : Option (Option EcState)) (o : Option Object) → option_map tag c ≡ option_map (tag_of n) o → is_local_in o ≡ true → is_some (entry c) ≡ true
there_by n c None h local = absurd (cc)
there_by n c (Some Pd) h local = absurd (cc)
there_by n None (Some (Ec pd cpu kind event)) h local = absurd (cc)
there_by n (Some None) (Some (Ec pd cpu kind event)) h local = absurd (cc)
there_by n (Some (Some x)) (Some (Ec pd cpu kind event)) h local = refl
there_by n c (Some (Sc ec cpu priority quantum)) h local = absurd (cc)
there_by n c (Some (Pt ec mtd ip)) h local = absurd (cc)
there_by n c (Some Sm) h local = absurd (cc)

local_there : (k : KernelState) (h : ℕ) → TablesFit k → is_local_thread k h ≡ true → IsSome (context_at k h)
local_there k h fits local = there_by (0 + h) (slice_get k.contexts h) (slice_get k.objects h) (tags_at k h fits.tables) local

free_dead : (o : Option State) → is_free o ≡ false → is_dead o ≡ false
free_dead None h = refl
free_dead (Some Dead) h = absurd (cc)
free_dead (Some other) h = refl

one_caller : (k : KernelState) (h : ℕ) → TablesFit k → is_local_thread k h ≡ true → is_free (state_in k.contexts h) ≡ false → HasOneCaller k.contexts h
one_caller k h fits local works = by_caller (caller_in k.contexts h) refl (well.serving local (local_there k h fits local) works)
  where
    well : IsWell (is_local_thread k h) (ec_in k.contexts h)
    well = fits.served.well h

    by_caller : (o : Option (ℕ × Mark)) → caller_in k.contexts h ≡ o → IsSome o → HasOneCaller k.contexts h
    by_caller None keeps some = absurd (cc)
    by_caller (Some (c, mark)) keeps some =
        let link = fits.served.linked c h in record {
          caller = c;
          mark = mark;
          keeps = keeps;
          processor = link.cpu mark keeps;
          waits = link.waits mark keeps (free_dead (state_in k.contexts h) works);
          only = λ other waits. ap number_in (sym ((fits.served.linked other h).known waits).1 ∙ keeps);
        }

no_caller : (k : KernelState) (h : ℕ) → TablesFit k → state_in k.contexts h ≡ Some Parked → HasNoCaller k.contexts h
no_caller k h fits is =
    let none = ((fits.served.well h).parked (ap is_parked is)).0 in
    record { keeps = none; nobody = λ other waits. let kept = (fits.served.linked other h).known waits in absurd (let two : None ≡ Some (other, kept.0) = sym none ∙ kept.1 in cc) }

-- THE LAWS

pub working : (s : Scenario) (turns : List ℕ) (h : ℕ) → is_local_thread (run (boot s) turns) h ≡ true → is_free (state_in (run (boot s) turns).contexts h) ≡ false →
    HasOneCaller (run (boot s) turns).contexts h
working s turns h = one_caller (run (boot s) turns) h (boot_run_fits s turns)

pub waiting : (s : Scenario) (turns : List ℕ) (h : ℕ) → state_in (run (boot s) turns).contexts h ≡ Some Parked → HasNoCaller (run (boot s) turns).contexts h
waiting s turns h = no_caller (run (boot s) turns) h (boot_run_fits s turns)

pub callers_there : (s : Scenario) (turns : List ℕ) → AreCallers (run (boot s) turns).contexts
callers_there s turns e c mark keeps = ((boot_run_fits s turns).served.linked c e).cpu mark keeps

pub callers_known : (s : Scenario) (turns : List ℕ) (c h : ℕ) → state_in (run (boot s) turns).contexts c ≡ Some (Calling h) →
    (mark : Mark) × (caller_in (run (boot s) turns).contexts h ≡ Some (c, mark))
callers_known s turns c h = ((boot_run_fits s turns).served.linked c h).known

pub called_ones_taken : (s : Scenario) (turns : List ℕ) (h c : ℕ) (mark : Mark) → state_in (run (boot s) turns).contexts h ≡ Some (Granting None) →
    caller_in (run (boot s) turns).contexts h ≡ Some (c, mark) → mark ≡ Call
called_ones_taken s turns h c mark is keeps = ((boot_run_fits s turns).served.well h).taking c mark keeps is

local_by : (o : Option Object) → option_map is_local o ≡ Some true → is_local_in o ≡ true
local_by None h = absurd (cc)
local_by (Some Pd) h = absurd (cc)
local_by (Some (Ec pd cpu Local event)) h = refl
local_by (Some (Ec pd cpu Global event)) h = absurd (cc)
local_by (Some (Ec pd cpu Vcpu event)) h = absurd (cc)
local_by (Some (Sc ec cpu priority quantum)) h = absurd (cc)
local_by (Some (Pt ec mtd ip)) h = absurd (cc)
local_by (Some Sm) h = absurd (cc)

pub portals_lead : (s : Scenario) (turns : List ℕ) (pt h mtd ip : ℕ) → slice_get (run (boot s) turns).objects pt ≡ Some (Pt h mtd ip) →
    is_local_thread (run (boot s) turns) h ≡ true
portals_lead s turns pt h mtd ip is =
    let k = run (boot s) turns in
    let refers : Refers k.objects (Pt h mtd ip) =
    subst (λ (o : Option Object). IfSome o (Refers k.objects)) is (all_get (Refers k.objects) k.objects pt (boot_run_fits s turns).tables.refer) in
    local_by (slice_get k.objects h) refers

pub others_alone : (s : Scenario) (turns : List ℕ) (h : ℕ) → is_local_thread (run (boot s) turns) h ≡ false →
    (state_in (run (boot s) turns).contexts h ≢ Some Parked) × (caller_in (run (boot s) turns).contexts h ≡ None)
others_alone s turns h other = (λ is. let local = (well.parked (ap is_parked is)).1 in absurd (cc), by_caller (caller_in (run (boot s) turns).contexts h) refl)
  where
    well : IsWell (is_local_thread (run (boot s) turns) h) (ec_in (run (boot s) turns).contexts h)
    well = (boot_run_fits s turns).served.well h

    by_caller : (o : Option (ℕ × Mark)) → caller_in (run (boot s) turns).contexts h ≡ o → o ≡ None
    by_caller None keeps = refl
    by_caller (Some (c, mark)) keeps = let local = well.kept c mark keeps in absurd (cc)

-- VIRTUAL CPUS

pub guests_stay : (s : Scenario) (turns : List ℕ) (g : ℕ) → IsOf (run (boot s) turns).objects is_vcpu g → is_guest_state (context (run (boot s) turns) g).state ≡ true
guests_stay s turns g virtual = (boot_run_fits s turns).guests.states g virtual

pub called_by_threads : (s : Scenario) (turns : List ℕ) (handler caller : ℕ) → caller_in (run (boot s) turns).contexts handler ≡ Some (caller, Call) →
    is_thread (run (boot s) turns) caller ≡ true
called_by_threads s turns handler caller keeps = (boot_run_fits s turns).guests.callers handler caller keeps

-- a handler keeps the context that waits for it, and no virtual CPU came by a call
exit_awaited : (k : KernelState) (g handler : ℕ) → TablesFit k → IsOf k.objects is_vcpu g → state_in k.contexts g ≡ Some (Calling handler) →
    caller_in k.contexts handler ≡ Some (g, Exit)
exit_awaited k g handler fits virtual waits = let known = (fits.served.linked g handler).known waits in by_mark known.0 known.1
  where
    by_mark : (mark : Mark) → caller_in k.contexts handler ≡ Some (g, mark) → caller_in k.contexts handler ≡ Some (g, Exit)
    by_mark Exit keeps = keeps
    by_mark Call keeps = absurd (let thread = fits.guests.callers handler g keeps in let not = virtual_alone (slice_get k.objects g) virtual in cc)

pub exits_awaited : (s : Scenario) (turns : List ℕ) (g handler : ℕ) → IsOf (run (boot s) turns).objects is_vcpu g →
    state_in (run (boot s) turns).contexts g ≡ Some (Calling handler) → caller_in (run (boot s) turns).contexts handler ≡ Some (g, Exit)
exits_awaited s turns g handler = exit_awaited (run (boot s) turns) g handler (boot_run_fits s turns)
