-- What goes with an object, from tables that fit.
use Rattle.nova_model.specs.Boot.{Scenario, boot}
use Rattle.std.proofs.Common.{◌≡◌, ℕ, ◌+◌, List, refl, ap, ◌∙◌, sym, arith}
use Rattle.std.specs.Prelude.{Bool, true, not, slice_get, Option, Some, None, IfSome, IsSome, is_some, option_map}
use Rattle.nova_objects.specs.declared.object.EcKind.{EcKind}
use Rattle.nova_objects.specs.declared.object.EcKind.TheVariants.{Local, Global, Vcpu}
use Rattle.nova_objects.specs.declared.object.Object.{Object}
use Rattle.nova_objects.specs.declared.object.Object.TheVariants.{Pd, Ec, Sc, Pt, Sm}
use Rattle.nova_model.specs.Capabilities.{is_ec, is_pt, is_sc, is_sm, is_vcpu}
use Rattle.nova_model.specs.Runs.{run}
use Rattle.nova_model.specs.State.{KernelState, budget_at, context_at, entry, is_thread_kind}
use Rattle.nova_model.specs.declared.context.EcState.{EcState}
use Rattle.law_turns.specs.Tables.{HasTables, IsContext, IsOf, Refers, Suits, cpu_of, has_words, tag, tag_of}
use Rattle.law_turns.proofs.TablesFit.{boot_run_fits}
use Rattle.law_turns.proofs.TablesKept.{all_get, kinds_at, tags_at}

-- a table at a number
tagged_at : (k : KernelState) (n : ℕ) → HasTables k → option_map tag (slice_get k.contexts n) ≡ option_map (tag_of n) (slice_get k.objects n)
tagged_at k n h =
    let e : 0 + n ≡ n = omega arith in
    tags_at k n h ∙ ap (λ (m : ℕ). option_map (tag_of m) (slice_get k.objects n)) e

pub there_at : {T : Type 0} (o : Option (Option T)) → option_map is_some o ≡ Some true → IsSome (entry o)
there_at None h = absurd (cc)
there_at (Some None) h = absurd (cc)
there_at (Some (Some x)) h = refl

some_at : {T : Type 0} (o : Option (Option T)) (t : Bool) → option_map is_some o ≡ Some t → is_some (entry o) ≡ t
some_at None t h = absurd (cc)
some_at (Some None) t h = cc
some_at (Some (Some x)) t h = cc

only_at : {T : Type 0} (is : Object → Bool) (o : Option (Option T)) (object : Option Object) → option_map is_some o ≡ option_map is object → IsSome (entry o) →
    option_map is object ≡ Some true
only_at is None object h there = absurd (cc)
only_at is (Some None) object h there = absurd (cc)
only_at is (Some (Some x)) object h there = sym h

-- execution contexts

abbrev first : Option (Option (ℕ × ℕ)) → Option ℕ
first (Some (Some p)) = Some p.0
first other = None

abbrev second : Option (Option (ℕ × ℕ)) → Option ℕ
second (Some (Some p)) = Some p.1
second other = None

some_same : (a b : ℕ) → Some a ≡ Some b → a ≡ b
some_same a b h = cc

context_there : (k : KernelState) (n pd cpu : ℕ) (o : Option (Option EcState)) → slice_get k.contexts n ≡ o → option_map tag o ≡ Some (Some (n, cpu)) →
    slice_get k.objects pd ≡ Some Pd → IsSome (entry (slice_get k.transfers n)) → IsContext k n pd cpu
context_there k n pd cpu None is h domain gives = absurd (cc)
context_there k n pd cpu (Some None) is h domain gives = absurd (cc)
context_there k n pd cpu (Some (Some x)) is h domain gives = record {
  state = x;
  there = ap entry is;
  number = some_same x.id n (ap first h);
  processor = some_same x.cpu cpu (ap second h);
  domain = domain;
  gives = gives;
}

cpu_there : (n cpu : ℕ) (c : Option (Option EcState)) (o : Option Object) → option_map tag c ≡ option_map (tag_of n) o → cpu_of o ≡ Some cpu →
    option_map (λ (x : EcState). x.cpu) (entry c) ≡ Some cpu
cpu_there n cpu c None h is = absurd (cc)
cpu_there n cpu None (Some (Ec pd its_cpu kind event)) h is = absurd (cc)
cpu_there n cpu (Some None) (Some (Ec pd its_cpu kind event)) h is = absurd (cc)
cpu_there n cpu (Some (Some x)) (Some (Ec pd its_cpu kind event)) h is = ap second h ∙ is
cpu_there n cpu c (Some Pd) h is = absurd (cc)
cpu_there n cpu c (Some (Sc ec its_cpu priority quantum)) h is = absurd (cc)
cpu_there n cpu c (Some (Pt ec mtd ip)) h is = absurd (cc)
cpu_there n cpu c (Some Sm) h is = absurd (cc)

only_context : (n : ℕ) (c : Option (Option EcState)) (o : Option Object) → option_map tag c ≡ option_map (tag_of n) o → IsSome (entry c) → option_map is_ec o ≡ Some true
only_context n None o h there = absurd (cc)
only_context n (Some None) o h there = absurd (cc)
only_context n (Some (Some x)) None h there = absurd (cc)
only_context n (Some (Some x)) (Some (Ec pd cpu kind event)) h there = refl
only_context n (Some (Some x)) (Some Pd) h there = absurd (cc)
only_context n (Some (Some x)) (Some (Sc ec cpu priority quantum)) h there = absurd (cc)
only_context n (Some (Some x)) (Some (Pt ec mtd ip)) h there = absurd (cc)
only_context n (Some (Some x)) (Some Sm) h there = absurd (cc)

-- WHAT GOES WITH AN OBJECT

no_thread : (pd cpu : ℕ) (kind : EcKind) (event : ℕ) → is_vcpu (Ec pd cpu kind event) ≡ not (is_thread_kind kind)
no_thread pd cpu Local event = refl
no_thread pd cpu Global event = refl
no_thread pd cpu Vcpu event = refl

object_suits : (k : KernelState) (n : ℕ) → HasTables k → (o : Object) → slice_get k.objects n ≡ Some o → Refers k.objects o → Suits k n o
object_suits k n h Pd is refers = tt
object_suits k n h (Ec pd cpu kind event) is refers = (
  context_there k n pd cpu (slice_get k.contexts n) refl (tagged_at k n h ∙ ap (λ (o : Option Object). option_map (tag_of n) o) is) refers
      (there_at (slice_get k.transfers n) (kinds_at is_ec k.transfers k.objects n h.transfers ∙ ap (λ (o : Option Object). option_map is_ec o) is)),
  (
    some_at (slice_get k.messages n) (is_thread_kind kind)
        (kinds_at has_words k.messages k.objects n h.messages ∙ ap (λ (o : Option Object). option_map has_words o) is),
    some_at (slice_get k.stirs.guests n) (not (is_thread_kind kind))
        (kinds_at is_vcpu k.stirs.guests k.objects n h.guests ∙ ap (λ (o : Option Object). option_map is_vcpu o) is ∙ ap Some (no_thread pd cpu kind event)),
  ),
)
object_suits k n h (Sc ec cpu priority quantum) is refers = (
  there_at (slice_get k.budgets n) (kinds_at is_sc k.budgets k.objects n h.budgets ∙ ap (λ (o : Option Object). option_map is_sc o) is),
  cpu_there ec cpu (slice_get k.contexts ec) (slice_get k.objects ec) (tagged_at k ec h) refers,
)
object_suits k n h (Pt ec mtd ip) is refers = (
  there_at (slice_get k.identifiers n) (kinds_at is_pt k.identifiers k.objects n h.identifiers ∙ ap (λ (o : Option Object). option_map is_pt o) is),
  refers,
)
object_suits k n h Sm is refers =
    there_at (slice_get k.semaphores n) (kinds_at is_sm k.semaphores k.objects n h.semaphores ∙ ap (λ (o : Option Object). option_map is_sm o) is)

suits : (k : KernelState) (n : ℕ) → HasTables k → IfSome (slice_get k.objects n) (Suits k n)
suits k n h = by_object (slice_get k.objects n) refl (all_get (Refers k.objects) k.objects n h.refer)
  where
    by_object : (o : Option Object) → slice_get k.objects n ≡ o → IfSome o (Refers k.objects) → IfSome o (Suits k n)
    by_object None is refers = tt
    by_object (Some o) is refers = object_suits k n h o is refers

pub tables_suit : (s : Scenario) (turns : List ℕ) (n : ℕ) → IfSome (slice_get (run (boot s) turns).objects n) (Suits (run (boot s) turns) n)
tables_suit s turns n = suits (run (boot s) turns) n (boot_run_fits s turns).tables

pub contexts_only : (s : Scenario) (turns : List ℕ) (n : ℕ) → IsSome (context_at (run (boot s) turns) n) → IsOf (run (boot s) turns).objects is_ec n
contexts_only s turns n there =
    let k = run (boot s) turns in only_context n (slice_get k.contexts n) (slice_get k.objects n) (tagged_at k n (boot_run_fits s turns).tables) there

pub messages_only : (s : Scenario) (turns : List ℕ) (n : ℕ) → IsSome (entry (slice_get (run (boot s) turns).messages n)) → IsOf (run (boot s) turns).objects has_words n
messages_only s turns n there =
    let k = run (boot s) turns in
    let h = (boot_run_fits s turns).tables in only_at has_words (slice_get k.messages n) (slice_get k.objects n) (kinds_at has_words k.messages k.objects n h.messages) there

pub transfers_only : (s : Scenario) (turns : List ℕ) (n : ℕ) → IsSome (entry (slice_get (run (boot s) turns).transfers n)) → IsOf (run (boot s) turns).objects is_ec n
transfers_only s turns n there =
    let k = run (boot s) turns in
    let h = (boot_run_fits s turns).tables in only_at is_ec (slice_get k.transfers n) (slice_get k.objects n) (kinds_at is_ec k.transfers k.objects n h.transfers) there

pub budgets_only : (s : Scenario) (turns : List ℕ) (n : ℕ) → IsSome (budget_at (run (boot s) turns) n) → IsOf (run (boot s) turns).objects is_sc n
budgets_only s turns n there =
    let k = run (boot s) turns in
    let h = (boot_run_fits s turns).tables in only_at is_sc (slice_get k.budgets n) (slice_get k.objects n) (kinds_at is_sc k.budgets k.objects n h.budgets) there

pub identifiers_only : (s : Scenario) (turns : List ℕ) (n : ℕ) → IsSome (entry (slice_get (run (boot s) turns).identifiers n)) → IsOf (run (boot s) turns).objects is_pt n
identifiers_only s turns n there =
    let k = run (boot s) turns in
    let h = (boot_run_fits s turns).tables in only_at is_pt (slice_get k.identifiers n) (slice_get k.objects n) (kinds_at is_pt k.identifiers k.objects n h.identifiers) there

pub semaphores_only : (s : Scenario) (turns : List ℕ) (n : ℕ) → IsSome (entry (slice_get (run (boot s) turns).semaphores n)) → IsOf (run (boot s) turns).objects is_sm n
semaphores_only s turns n there =
    let k = run (boot s) turns in
    let h = (boot_run_fits s turns).tables in only_at is_sm (slice_get k.semaphores n) (slice_get k.objects n) (kinds_at is_sm k.semaphores k.objects n h.semaphores) there

pub guests_only : (s : Scenario) (turns : List ℕ) (n : ℕ) → IsSome (entry (slice_get (run (boot s) turns).stirs.guests n)) → IsOf (run (boot s) turns).objects is_vcpu n
guests_only s turns n there =
    let k = run (boot s) turns in
    let h = (boot_run_fits s turns).tables in only_at is_vcpu (slice_get k.stirs.guests n) (slice_get k.objects n) (kinds_at is_vcpu k.stirs.guests k.objects n h.guests) there
