-- Labels of domains over a turn: those that are there keep theirs, and what the state says of execution contexts, portals and semaphores says so after it.
use Rattle.std.proofs.Common.{◌≡◌, ◌<◌, ℕ, List, [], ◌∷◌, ◌++◌, length, refl, sym, ap, ◌∙◌, subst, inl, inr, arith}
use Rattle.std.specs.Prelude.{◌==◌, Bool, true, false, if◌then◌else◌, is_some, slice_get, Option, Some, None, option_and_then, option_map}
use Rattle.std.proofs.lemmas.Bool.{eq-eqb, eqb-true}
use Rattle.std.proofs.lemmas.Option.{same_Some, slice_get_within}
use Rattle.nova_objects.specs.declared.object.Object.{Object}
use Rattle.nova_objects.specs.declared.object.Object.TheVariants.{Pd, Ec, Sc, Pt, Sm}
use Rattle.nova_model.specs.Boot.{Scenario, boot}
use Rattle.nova_model.specs.Capabilities.{is_ec, is_local, is_sm}
use Rattle.nova_model.specs.Choice.{Candidate, next_to_act}
use Rattle.nova_model.specs.Deeds.{deed}
use Rattle.nova_model.specs.Edges.{edge, edge_of}
use Rattle.nova_model.specs.Runs.{after, run}
use Rattle.nova_model.specs.Semaphores.{has, semaphore_in}
use Rattle.nova_model.specs.State.{KernelState, Semaphore, context, context_at, context_in, entry, pd_in, pd_of}
use Rattle.nova_model.specs.declared.context.EcState.{EcState}
use Rattle.nova_model.specs.declared.context.Mark.{Mark}
use Rattle.nova_model.specs.declared.context.State.{State}
use Rattle.nova_model.specs.declared.context.State.TheVariants.{Blocked, Granting}
use Rattle.law_isolation.specs.Sound.{IsSound}
use Rattle.law_isolation.proofs.Runs.{reached_sound}
use Rattle.law_turns.specs.Tables.{HasTables, IsOf, Refers}
use Rattle.law_turns.proofs.TablesFit.{TablesFit, boot_run_fits}
use Rattle.law_turns.proofs.TablesKept.{context_is, kinds_at}
use Rattle.law_origins.specs.Giving.{Acts}
use Rattle.law_origins.proofs.Lists.{run_append}
use Rattle.law_integrity.specs.Confined.{IsMember, IsOwned}
use Rattle.law_integrity.specs.Rightful.{IsRightful}
use Rattle.law_integrity.specs.Trusted.{OrTrusted, labels_after, labels_by}
use Rattle.law_integrity.specs.Waits.{HasLocalEdges}
use Rattle.law_integrity.proofs.Blocked.{BlockedBy, TakesBy, blocked_came, taking_came}
use Rattle.law_integrity.proofs.Confining.{object_kept}
use Rattle.law_integrity.proofs.Edges.{at_index, local_edges, reached_rightful}
use Rattle.law_integrity.proofs.Homes.{AreHomed, reached_homed}

-- LABELS

pub labels_old : (k : KernelState) (label : ℕ → ℕ) (cpu n : ℕ) → n < length k.objects → labels_after k label cpu n ≡ label n
labels_old k label cpu n below = by_actor (option_map (λ c. label (pd_of k c.actor)) (next_to_act k cpu))
  where
    by_test : (side : ℕ) (t : Bool) → (n == length k.objects) ≡ t → (if t then side else label n) ≡ label n
    by_test side true is = absurd (let same = eqb-true n (length k.objects) is in omega (arith, below, same))
    by_test side false is = refl

    by_actor : (o : Option ℕ) → labels_by (length k.objects) label o n ≡ label n
    by_actor None = refl
    by_actor (Some side) = by_test side (n == length k.objects) refl

pub labels_made : (k : KernelState) (label : ℕ → ℕ) (cpu ec : ℕ) → Acts k cpu ec → labels_after k label cpu (length k.objects) ≡ label (pd_of k ec)
labels_made k label cpu ec acts_ = by_next (next_to_act k cpu) acts_
  where
    by_next : (o : Option Candidate) → option_map (λ c. c.actor) o ≡ Some ec → labels_by (length k.objects) label (option_map (λ c. label (pd_of k c.actor)) o) (length k.objects) ≡ label (pd_of k ec)
    by_next None is = absurd (cc)
    by_next (Some c) is =
        ap (λ (t : Bool). if t then label (pd_of k c.actor) else label (length k.objects)) (eq-eqb (length k.objects) (length k.objects) refl)
        ∙ ap (λ (e : ℕ). label (pd_of k e)) (same_Some c.actor ec is)

-- EXECUTION CONTEXTS AND THEIR DOMAINS

-- an execution context, of whatever domain
abbrev pub IsEc : KernelState → ℕ → Type 0
IsEc k n = IsMember k (λ m. Unit {0}) n

abbrev pub member_ec : (k : KernelState) (S : ℕ → Type 0) (n : ℕ) → IsMember k S n → IsEc k n
member_ec k S n m = record { domain = m.domain; cpu = m.cpu; kind = m.kind; event = m.event; object = m.object; of = tt }

pub context_ec : (k : KernelState) (n : ℕ) → HasTables k → is_some (context_at k n) ≡ true → IsEc k n
context_ec k n tables there = by_object (slice_get k.objects n) refl (context_is k n there tables)
  where
    by_object : (o : Option Object) → slice_get k.objects n ≡ o → option_map is_ec o ≡ Some true → IsEc k n
    by_object None at h = absurd (cc)
    by_object (Some Pd) at h = absurd (cc)
    by_object (Some (Ec pd cpu kind event)) at h = record { domain = pd; cpu = cpu; kind = kind; event = event; object = at; of = tt }
    by_object (Some (Sc e cpu priority quantum)) at h = absurd (cc)
    by_object (Some (Pt e mtd ip)) at h = absurd (cc)
    by_object (Some Sm) at h = absurd (cc)

pub local_ec : (k : KernelState) (n : ℕ) → IsOf k.objects is_local n → IsEc k n
local_ec k n local = by_object (slice_get k.objects n) refl local
  where
    by_object : (o : Option Object) → slice_get k.objects n ≡ o → option_map is_local o ≡ Some true → IsEc k n
    by_object None at h = absurd (cc)
    by_object (Some Pd) at h = absurd (cc)
    by_object (Some (Ec pd cpu kind event)) at h = record { domain = pd; cpu = cpu; kind = kind; event = event; object = at; of = tt }
    by_object (Some (Sc e cpu priority quantum)) at h = absurd (cc)
    by_object (Some (Pt e mtd ip)) at h = absurd (cc)
    by_object (Some Sm) at h = absurd (cc)

pub edge_ec : (k : KernelState) (n handler : ℕ) → HasTables k → edge k.contexts n ≡ Some handler → IsEc k n
edge_ec k n handler tables is = context_ec k n tables (by_entry (context_at k n) is)
  where
    by_entry : (o : Option EcState) → option_and_then edge_of (option_map (λ x. x.state) o) ≡ Some handler → is_some o ≡ true
    by_entry None e = absurd (cc)
    by_entry (Some x) e = refl

-- the domain of a context is there
pub domain_below : (k : KernelState) (n : ℕ) → HasTables k → (m : IsEc k n) → m.domain < length k.objects
domain_below k n tables m = slice_get_within k.objects m.domain Pd (at_index (Refers k.objects) k.objects n (Ec m.domain m.cpu m.kind m.event) tables.refer m.object)

-- its label stays
pub label_kept : (k : KernelState) (label : ℕ → ℕ) (cpu n : ℕ) → HasTables k → IsEc k n → labels_after k label cpu (pd_of (after k cpu) n) ≡ label (pd_of k n)
label_kept k label cpu n tables m =
    let now : pd_of (after k cpu) n ≡ m.domain = ap pd_in (object_kept k cpu n (Ec m.domain m.cpu m.kind m.event) m.object) in
    let was : pd_of k n ≡ m.domain = ap pd_in m.object in
    ap (labels_after k label cpu) now ∙ labels_old k label cpu m.domain (domain_below k n tables m) ∙ ap label (sym was)

-- WHOSE AN OBJECT IS

pub or_kept : (k : KernelState) (label : ℕ → ℕ) (cpu side n : ℕ) → n < length k.objects → OrTrusted label side n → OrTrusted (labels_after k label cpu) side n
or_kept k label cpu side n below (inl is) = inl (labels_old k label cpu n below ∙ is)
or_kept k label cpu side n below (inr is) = inr (labels_old k label cpu n below ∙ is)

pub or_member : (k : KernelState) (label : ℕ → ℕ) (cpu side n : ℕ) → HasTables k → IsMember k (OrTrusted label side) n → IsMember (after k cpu) (OrTrusted (labels_after k label cpu) side) n
or_member k label cpu side n tables m = record {
  domain = m.domain;
  cpu = m.cpu;
  kind = m.kind;
  event = m.event;
  object = object_kept k cpu n (Ec m.domain m.cpu m.kind m.event) m.object;
  of = or_kept k label cpu side m.domain (domain_below k n tables (member_ec k (OrTrusted label side) n m)) m.of;
}

pub owned_kept : (k : KernelState) (label : ℕ → ℕ) (cpu side n : ℕ) (o : Object) → HasTables k → slice_get k.objects n ≡ Some o → IsOwned k (OrTrusted label side) n (Some o) →
    IsOwned (after k cpu) (OrTrusted (labels_after k label cpu) side) n (Some o)
owned_kept k label cpu side n Pd tables at own = or_kept k label cpu side n (slice_get_within k.objects n Pd at) own
owned_kept k label cpu side n (Ec pd its kind event) tables at own =
    or_kept k label cpu side pd (domain_below k n tables (record { domain = pd; cpu = its; kind = kind; event = event; object = at; of = tt })) own
owned_kept k label cpu side n (Sc donor its priority quantum) tables at own = or_member k label cpu side donor tables own
owned_kept k label cpu side n (Pt handler mtd ip) tables at own = or_member k label cpu side handler tables own
owned_kept k label cpu side n Sm tables at own = tt

-- WHAT A BLOCKED CONTEXT WAITS AT IS A SEMAPHORE

pub blocked_object : (k : KernelState) (n sm : ℕ) → TablesFit k → (context k n).state ≡ Blocked sm → slice_get k.objects sm ≡ Some Sm
blocked_object k n sm fits is = by_slot (slice_get k.semaphores sm) refl (fits.blocked.waiting sm n (by_entry (context_at k n) is))
  where
    by_entry : (o : Option EcState) → (context_in o).state ≡ Blocked sm → option_map (λ x. x.state) o ≡ Some (Blocked sm)
    by_entry None e = absurd (cc)
    by_entry (Some x) e = ap (λ (s : State). Some s) e

    by_object : (o : Option Object) → option_map is_sm o ≡ Some true → o ≡ Some Sm
    by_object None h = absurd (cc)
    by_object (Some Pd) h = absurd (cc)
    by_object (Some (Ec pd cpu kind event)) h = absurd (cc)
    by_object (Some (Sc e cpu priority quantum)) h = absurd (cc)
    by_object (Some (Pt e mtd ip)) h = absurd (cc)
    by_object (Some Sm) h = refl

    by_slot : (o : Option (Option Semaphore)) → slice_get k.semaphores sm ≡ o → has (semaphore_in (entry o)).waiting n ≡ true → slice_get k.objects sm ≡ Some Sm
    by_slot None at waits = absurd (cc)
    by_slot (Some None) at waits = absurd (cc)
    by_slot (Some (Some s)) at waits =
        by_object (slice_get k.objects sm) (sym (kinds_at is_sm k.semaphores k.objects sm fits.tables.semaphores) ∙ ap (option_map (λ (e : Option Semaphore). is_some e)) at)

-- WHAT IS KNOWN OF A TURN

pub record IsTaken (k : KernelState) (cpu : ℕ) : Type 0 where
  pub sound : IsSound k
  pub fits : TablesFit k
  pub homed : AreHomed k
  pub rightful : (ec : ℕ) → IsRightful k ec (deed k ec)
  pub local : HasLocalEdges k
  pub came : (n sm : ℕ) → (context (after k cpu) n).state ≡ Blocked sm → BlockedBy k cpu n sm
  pub taking : (n caller : ℕ) (mark : Mark) → (context (after k cpu) n).state ≡ Granting None → (context (after k cpu) n).caller ≡ Some (caller, mark) → TakesBy k cpu n caller mark
  pub queue : (n sm : ℕ) → (context (after k cpu) n).state ≡ Blocked sm → slice_get (after k cpu).objects sm ≡ Some Sm

pub turn_taken : (s : Scenario) (before : List ℕ) (cpu : ℕ) → IsTaken (run (boot s) before) cpu
turn_taken s before cpu = record {
  sound = reached_sound s before;
  fits = boot_run_fits s before;
  homed = reached_homed s before;
  rightful = λ ec. reached_rightful s before ec;
  local = local_edges s before;
  came = λ n sm is. blocked_came s before cpu n sm is;
  taking = λ n caller mark is keeps. taking_came s before cpu n caller mark is keeps;
  queue = λ n sm is. blocked_object (after (run (boot s) before) cpu) n sm (later_fits s before cpu) is;
}
  where
    later_fits : (s : Scenario) (before : List ℕ) (cpu : ℕ) → TablesFit (after (run (boot s) before) cpu)
    later_fits s before cpu = subst TablesFit (run_append (boot s) before (cpu ∷ [])) (boot_run_fits s (before ++ cpu ∷ []))
