-- Turns of others, and turns in which none acts, one after another: the side stays as it is, and guarded.
use Rattle.std.proofs.Common.{◌≡◌, ℕ, ◌<◌, ◌⊎◌, List, ◌∷◌, length, sym, ap, ◌∙◌, subst, inl, inr, arith}
use Rattle.std.specs.Prelude.{true, ◌||◌, eqb, Contains, IsSome, is_some, slice_get, option_map, option_and_then, Option, Some, None}
use Rattle.std.specs.List.{find}
use Rattle.std.proofs.lemmas.Option.{slice_get_within}
use Rattle.nova_objects.specs.declared.object.EcKind.{EcKind}
use Rattle.nova_objects.specs.declared.object.Object.{Object}
use Rattle.nova_objects.specs.declared.object.Object.TheVariants.{Ec}
use Rattle.nova_model.specs.Capabilities.{is_sm}
use Rattle.nova_model.specs.Delegations.{Delegations, covers}
use Rattle.nova_model.specs.Edges.{edge_of, state_in}
use Rattle.nova_model.specs.Memory.{Memory}
use Rattle.nova_model.specs.Semaphores.{has, semaphore_at, semaphore_in}
use Rattle.nova_model.specs.State.{KernelState, Semaphore, context_at, deadline_of, entry}
use Rattle.nova_model.specs.declared.budget.Budget.{Budget}
use Rattle.nova_model.specs.declared.context.EcState.{EcState}
use Rattle.nova_model.specs.declared.context.State.TheVariants.{Blocked}
use Rattle.nova_model.specs.declared.delegation.Derivation.{Derivation}
use Rattle.nova_model.specs.declared.times.AlarmState.{AlarmState}
use Rattle.nova_model.specs.declared.times.Due.{Due}
use Rattle.nova_model.specs.declared.times.Due.TheVariants as due
use Rattle.law_isolation.specs.Sound.{IsSound}
use Rattle.law_integrity.specs.Integrity.{ClearedAwake, ClearedLate, ContextByTime, DeadlineByTime, IsByTime, IsComing, LeftByLate, Rung, RungAwake, SemaphoreByTime, TimedOut}
use Rattle.law_integrity.proofs.Entries.{same_length}
use Rattle.law_flow.specs.Flow.{AreAlike, Front, IsSide, IsTimeless, held_by, origin_of}
use Rattle.law_flow.proofs.Leaving.{raw, some_there}
use Rattle.law_flow.proofs.Seeing.{by_front, caller_so, fronts_same}

-- WHAT COMES BY ITSELF

pub state_of_entry : (k : KernelState) (n sm : ℕ) (x : EcState) → context_at k n ≡ Some x → x.state ≡ Blocked sm → state_in k.contexts n ≡ Some (Blocked sm)
state_of_entry k n sm x old blocked = ap (option_map (λ (x : EcState). x.state)) old ∙ ap (λ t. Some t) blocked

-- what is due is no alarm at a semaphore of the side's, and no deadline of it
pub record IsForeign (k : KernelState) (P : ℕ → Type 0) (what : Option Due) : Type 0 where
  pub alarms : (n : ℕ) (a : AlarmState) → what ≡ Some (due.Alarm n) → slice_get k.times.alarms n ≡ Some a → P a.alarm.sm → ⊥
  pub deadlines : (n : ℕ) → what ≡ Some (due.Deadline n) → P n → ⊥

pub timeless_foreign : (k : KernelState) (P : ℕ → Type 0) (cpu : ℕ) (what : Option Due) → IsTimeless k P → IsComing k cpu what → IsForeign k P what
timeless_foreign k P cpu what timeless comes = record {
  alarms = λ n a is at p. timeless.alarms n a at p;
  deadlines = λ n is p. let late = subst (IsComing k cpu) is comes in absurd (let both : None ≡ Some late.entry.deadline = sym (timeless.deadlines n p) ∙ late.entry.there in cc);
}

-- an execution context of the side's waits at no semaphore that this alarm rings
rung_none : {A : Type 0} (k : KernelState) (S P : ℕ → Type 0) (what : Option Due) → IsSide k S P → IsForeign k P what → (n alarm : ℕ) (a : AlarmState) → P n → what ≡ Some (due.Alarm alarm) →
    slice_get k.times.alarms alarm ≡ Some a → state_in k.contexts n ≡ Some (Blocked a.alarm.sm) → A
rung_none k S P what side foreign n alarm a p is at blocked = absurd (foreign.alarms alarm a is at (side.blocked n a.alarm.sm p blocked))

-- the first of a queue waits there
pub first_waits : (k : KernelState) (sm n : ℕ) (rest : List ℕ) → IsSound k → (semaphore_in (semaphore_at k.semaphores sm)).waiting ≡ n ∷ rest → state_in k.contexts n ≡ Some (Blocked sm)
first_waits k sm n rest sound first =
    let itself : (eqb n n || has rest n) ≡ true = grind (arith) in
    sound.kept.blocked.blocked sm n (ap (λ (ecs : List ℕ). has ecs n) first ∙ itself)

pub time_leaves : (k new : KernelState) (S P : ℕ → Type 0) (cpu : ℕ) (what : Option Due) → IsSound k → IsSound new → IsSide k S P → ((n : ℕ) → P n → IsSome (slice_get k.objects n)) → IsForeign k P what →
    IsByTime k new cpu what → AreAlike k new S P
time_leaves k new S P cpu what sound again side there foreign t = record {
  objects = λ n p. ap (λ (os : List Object). slice_get os n) t.objects;
  fronts = λ n p. fronts_same k.contexts new.contexts n (raw k.contexts new.contexts n (at_context n p) (still_context n p) (by_context n p (t.contexts n)));
  contexts = λ n p its. raw k.contexts new.contexts n (at_context n p) (still_context n p) (by_context n p (t.contexts n));
  messages = λ n p its. ap (λ (ms : List (Option (List ℕ))). slice_get ms n) t.messages;
  transfers = λ n p its. ap (λ ms. slice_get ms n) t.transfers;
  identifiers = λ n p. ap (λ (ms : List (Option ℕ)). slice_get ms n) t.identifiers;
  semaphores = λ n p. raw k.semaphores new.semaphores n (at_semaphore n p) (still_semaphore n p) (by_semaphore n p (t.semaphores n));
  ticks = λ n p. ap (λ (bs : List (Option Budget)). option_map (λ (b : Budget). b.ticks) (entry (slice_get bs n))) t.budgets.budgets;
  deadlines = λ n p. raw k.times.deadlines new.times.deadlines n (at_deadline n p) (still_deadline n p) (by_deadline n p (t.deadlines n));
  spaces = λ kind pd place s. ap (λ (f : Delegations). option_map held_by (find (covers kind pd place) f.list)) t.delegations;
  origins = λ kind pd place from s also. ap (λ (f : Delegations). origin_of f.list from (find (covers kind pd place) f.list)) t.delegations;
  frames = λ pd page to s leads. ap (λ (m : Memory). slice_get m.ram to.frame) t.memory;
  size = ap (λ (m : Memory). length m.ram) t.memory;
}
  where
    within : (n : ℕ) → P n → n < length k.objects
    within n p = let o = some_there (slice_get k.objects n) (there n p) in slice_get_within k.objects n o.0 o.1

    later : (n : ℕ) → P n → n < length new.objects
    later n p = subst (λ (os : List Object). n < length os) (sym t.objects) (within n p)

    at_context : (n : ℕ) → P n → n < length k.contexts
    at_context n p = let inside = within n p in let size = sound.whole.places in omega (arith, inside, size)

    still_context : (n : ℕ) → P n → n < length new.contexts
    still_context n p = let inside = later n p in let size = again.whole.places in omega (arith, inside, size)

    at_semaphore : (n : ℕ) → P n → n < length k.semaphores
    at_semaphore n p = let inside = within n p in let size = same_length is_some is_sm k.semaphores k.objects sound.kept.tables.semaphores in omega (arith, inside, size)

    still_semaphore : (n : ℕ) → P n → n < length new.semaphores
    still_semaphore n p = let inside = later n p in let size = same_length is_some is_sm new.semaphores new.objects again.kept.tables.semaphores in omega (arith, inside, size)

    at_deadline : (n : ℕ) → P n → n < length k.times.deadlines
    at_deadline n p = let inside = within n p in let size = sound.kept.tables.deadlines in omega (arith, inside, size)

    still_deadline : (n : ℕ) → P n → n < length new.times.deadlines
    still_deadline n p = let inside = later n p in let size = again.kept.tables.deadlines in omega (arith, inside, size)

    by_context : (n : ℕ) → P n → (context_at new n ≡ context_at k n) ⊎ ContextByTime k what n (context_at k n) (context_at new n) → context_at new n ≡ context_at k n
    by_context n p (inl same) = same
    by_context n p (inr (RungAwake alarm a is at rest first x old blocked to)) = rung_none k S P what side foreign n alarm a p is at (state_of_entry k n a.alarm.sm x old blocked)
    by_context n p (inr (TimedOut d is at x old blocked to)) = absurd (foreign.deadlines n is p)

    by_semaphore : (n : ℕ) → P n → (semaphore_at new.semaphores n ≡ semaphore_at k.semaphores n) ⊎ SemaphoreByTime k what n (semaphore_at k.semaphores n) (semaphore_at new.semaphores n) →
        semaphore_at new.semaphores n ≡ semaphore_at k.semaphores n
    by_semaphore n p (inl same) = same
    by_semaphore n p (inr (Rung alarm a is at its s old to)) = absurd (foreign.alarms alarm a is at (subst P its p))
    by_semaphore n p (inr (LeftByLate ec d is at its s old to)) =
        absurd (foreign.deadlines ec is (side.queues d.sm ec (subst P its p) (sound.kept.blocked.waiting d.sm ec (sound.kept.deadlines ec d at).blocked)))

    by_deadline : (n : ℕ) → P n → (deadline_of new.times n ≡ deadline_of k.times n) ⊎ DeadlineByTime k what n (deadline_of new.times n) → deadline_of new.times n ≡ deadline_of k.times n
    by_deadline n p (inl same) = same
    by_deadline n p (inr (ClearedAwake alarm a is at rest first to)) = rung_none k S P what side foreign n alarm a p is at (first_waits k a.alarm.sm n rest sound first)
    by_deadline n p (inr (ClearedLate is to)) = absurd (foreign.deadlines n is p)

-- WHAT IS OF THE SIDE

pub side_left : (k new : KernelState) (S P : ℕ → Type 0) → AreAlike k new S P → IsSide k S P →
    ((d : Derivation) → Contains new.delegations.list d → S d.pd → Contains k.delegations.list d) →
    ((n pd cpu : ℕ) (kind : EcKind) (event : ℕ) → slice_get new.objects n ≡ Some (Ec pd cpu kind event) → S pd → P n) → IsSide new S P
side_left k new S P a side gains members = record {
  holds = λ d there s kind. side.holds d (gains d there s) s kind;
  handlers = λ n handler mtd ip p is. side.handlers n handler mtd ip p (sym (a.objects n p) ∙ is);
  edges = λ n h p is. side.edges n h p (sym (ap (option_and_then edge_of) (states n p)) ∙ is);
  callers = λ n c m p is. side.callers n c m p (sym (caller_so k.contexts new.contexts n (a.fronts n p)) ∙ is);
  queues = λ sm n p is. side.queues sm n p (sym (ap (λ (o : Option (Option Semaphore)). has (semaphore_in (entry o)).waiting n) (a.semaphores sm p)) ∙ is);
  blocked = λ n sm p is. side.blocked n sm p (sym (states n p) ∙ is);
  members = members;
}
  where
    states : (n : ℕ) → P n → state_in new.contexts n ≡ state_in k.contexts n
    states n p = by_front (λ (f : Front). f.state) k.contexts new.contexts n (a.fronts n p)
