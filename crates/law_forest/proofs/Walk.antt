-- The one walk over deciding: what holds of each deed that looks alone at a state, of what an exit comes to, of what the rows of the table of
-- hypercalls give, and of the parts and ends of items, holds of the deed of every execution context.
use Rattle.std.proofs.Common.{◌≡◌, ℕ, ap, refl, arith}
use Rattle.std.proofs.lemmas.Bool.{eqb-false}
use Rattle.std.specs.Prelude.{Bool, true, false, ◌==◌, ◌+◌, ◌<◌, Option, Some, None, option_map, Result, Ok, Err, if◌then◌else◌}
use Rattle.nova_model.specs.Edges.{is_giving, is_asking}
use Rattle.rv_model.specs.Registers.{Registers, reg}
use Rattle.rv_model.specs.Step.{Once, Raised, Went}
use Rattle.nova_calls.specs.Hypercalls.{call_of}
use Rattle.nova_calls.specs.declared.call.Call.{Call}
use Rattle.nova_calls.specs.declared.call.SmAction.{SmAction}
use Rattle.nova_calls.specs.declared.call.SmAction.TheVariants as act
use Rattle.nova_range.specs.Ranges.{end_of}
use Rattle.nova_range.specs.declared.range.Range.{Range}
use Rattle.nova_range.specs.declared.status.Status.{Status}
use Rattle.nova_model.specs.Calls.{exit_admitted}
use Rattle.nova_model.specs.Capabilities.{down_right, is_sm, named, up_right}
use Rattle.nova_model.specs.Deeds.{startup, recall, signalled, stepping, ready, mark_in, deed_in, deed, instruction}
use Rattle.nova_model.specs.Deeds as deeds
use Rattle.nova_model.specs.Delegations.{range_of}
use Rattle.nova_model.specs.Deliveries.{delivery, flag, finished, range_given, parted, part_deed, delegated, answered_by, delivered, delivers}
use Rattle.nova_model.specs.Exits.{raised_exit, exit_portal, exit_to, exit_at, exits}
use Rattle.nova_model.specs.Hypercalls.{and_then, unless, upped_by, deadline_after, downed_by, downed_within, sm_ctrl, row, or_refuses, hypercall}
use Rattle.nova_model.specs.Revokes.{next_leaf}
use Rattle.nova_model.specs.Running.{is_busy}
use Rattle.nova_model.specs.Portals.{descriptor, handler_of, identifier, ip_of}
use Rattle.nova_model.specs.Semaphores.{answer_of, semaphore, woken}
use Rattle.nova_model.specs.State.{KernelState, context, pd_of, processor_of, transfer}
use Rattle.nova_model.specs.Times.{clock}
use Rattle.nova_model.specs.declared.times.Deadline.{Deadline}
use Rattle.nova_range.specs.declared.status.Status.TheVariants.{Timeout}
use Rattle.nova_model.specs.Transfers.{job_of, next_source, child_of, judged, part_of}
use Rattle.nova_model.specs.Translations.{translated}
use Rattle.nova_model.specs.declared.admit.ExitAdmit.{ExitAdmit}
use Rattle.nova_model.specs.declared.admit.ExitAdmit.TheVariants as exit
use Rattle.nova_model.specs.declared.context.State.{State}
use Rattle.nova_model.specs.declared.context.State.TheVariants.{Fresh, Ready, Parked, Calling, Helping, Exiting, Sending, Granting, Replying, Revoking, Blocked, Dead}
use Rattle.nova_model.specs.declared.deed.Deed.{Deed}
use Rattle.nova_model.specs.declared.deed.Deed.TheVariants.{Rests, Steps, Raises, Dies, Waits, Sends, Refuses, Gives, Skips, Aborts, Removes, Returns, Ups, Downs, Blocks}
use Rattle.nova_model.specs.declared.delegation.Derivation.{Derivation}
use Rattle.nova_model.specs.declared.semaphore.Down.{Down}
use Rattle.nova_model.specs.declared.semaphore.Down.TheVariants as lowering
use Rattle.nova_model.specs.declared.semaphore.Overflow.{Overflow}
use Rattle.nova_model.specs.declared.transfer.Delivery.{Delivery}
use Rattle.nova_model.specs.declared.transfer.ItemEnd.{ItemEnd}
use Rattle.nova_model.specs.declared.transfer.ItemEnd.TheVariants.{Given, Skipped, Translated}
use Rattle.nova_model.specs.declared.transfer.Job.{Job}
use Rattle.nova_model.specs.declared.transfer.Reason.{Reason}
use Rattle.nova_model.specs.declared.transfer.Skip.{Skip}
use Rattle.law_forest.specs.Items.{job_at_cursor}

-- what holds of what is given, unless that is refused
abbrev pub IfDone : {A : Type 0} → (A → Type 0) → Result A Status → Type 0
IfDone P (Ok x) = P x
IfDone P (Err status) = Unit {0}

-- A CONTEXT THAT GIVES NO ITEMS

-- an exit that it raised finds this portal, and comes to this at its handler
pub record IsExit (k : KernelState) (ec pt reason q0 q1 : ℕ) (comes : ExitAdmit) : Type 0 where
  pub raised : raised_exit (context k ec).state ≡ Some (reason, q0, q1)
  pub portal : exit_portal k ec reason ≡ Ok pt
  pub admits : exit_admitted k.contexts ec (handler_of k pt) ≡ comes

-- what holds of each deed of an execution context that does something of its own
pub record Holds (P : Deed → Type 0) (k : KernelState) (ec : ℕ) : Type 0 where
  pub steps : P Steps
  pub raises : (reason q0 q1 : ℕ) → P (Raises reason q0 q1)
  pub dies : (reason q0 : ℕ) → P (Dies reason q0)
  pub waits : (pt reason q0 q1 : ℕ) → IsExit k ec pt reason q0 q1 exit.Waits → P (Waits (handler_of k pt) reason q0 q1)
  pub sends : (pt reason q0 q1 : ℕ) → IsExit k ec pt reason q0 q1 exit.Sends →
      P (Sends (handler_of k pt) (ip_of k pt) (identifier k pt) (descriptor k pt) reason q0 q1)
  pub refuses : (call : ℕ) (status : Status) → P (Refuses call status)
  pub aborts : (handler : ℕ) → (context k ec).state ≡ Calling handler → P (Aborts handler (mark_in (context k handler).caller))
  pub rows : is_asking (context k ec).state ≡ true → (c : Call) → call_of (context k ec).regs ≡ Ok c → IfDone P (row k ec (pd_of k ec) c)
  pub removes : (range : Range) (own : Bool) (leaf : Derivation) → (context k ec).state ≡ Revoking range own →
      next_leaf (record { pd = pd_of k ec; range = range; own = own }) k.delegations ≡ Some leaf → P (Removes leaf)
  pub returns : (range : Range) (own : Bool) → (context k ec).state ≡ Revoking range own →
      next_leaf (record { pd = pd_of k ec; range = range; own = own }) k.delegations ≡ None → P Returns

pub hypercall_holds : (P : Deed → Type 0) (k : KernelState) (ec domain : ℕ) (r : Registers) → ((call : ℕ) (status : Status) → P (Refuses call status)) →
    ((c : Call) → call_of r ≡ Ok c → IfDone P (row k ec domain c)) → P (hypercall k ec domain r)
hypercall_holds P k ec domain r refuses rows = by_call (call_of r) refl
  where
    by_deed : (d : Result Deed Status) → IfDone P d → P (or_refuses (reg r 17) d)
    by_deed (Ok d) holds = holds
    by_deed (Err status) holds = refuses (reg r 17) status

    by_call : (c : Result Call Status) → call_of r ≡ c → P (or_refuses (reg r 17) (and_then c (row k ec domain)))
    by_call (Ok c) is = by_deed (row k ec domain c) (rows c is)
    by_call (Err status) is = refuses (reg r 17) status

-- of a context that makes a hypercall
pub asking_holds : (P : Deed → Type 0) (k : KernelState) (ec : ℕ) → is_asking (context k ec).state ≡ true → Holds P k ec →
    P (hypercall k ec (pd_of k ec) (context k ec).regs)
asking_holds P k ec asks h = hypercall_holds P k ec (pd_of k ec) (context k ec).regs h.refuses (h.rows asks)

-- of a context whose exit is raised and not sent
pub exits_holds : (P : Deed → Type 0) (k : KernelState) (ec reason q0 q1 : ℕ) → raised_exit (context k ec).state ≡ Some (reason, q0, q1) → Holds P k ec →
    P (exits k ec reason q0 q1)
exits_holds P k ec reason q0 q1 raised h = by_portal (exit_portal k ec reason) refl
  where
    by_admit : (pt : ℕ) (a : ExitAdmit) → IsExit k ec pt reason q0 q1 a → P (exit_to k pt reason q0 q1 a)
    by_admit pt exit.Dies is = h.dies reason q0
    by_admit pt exit.Waits is = h.waits pt reason q0 q1 is
    by_admit pt exit.Sends is = h.sends pt reason q0 q1 is

    by_portal : (o : Result ℕ Status) → exit_portal k ec reason ≡ o → P (exit_at k ec reason q0 q1 o)
    by_portal (Err status) portal = h.dies reason q0
    by_portal (Ok pt) portal = by_admit pt (exit_admitted k.contexts ec (handler_of k pt)) (record { raised = raised; portal = portal; admits = refl })

-- of the row of semaphores: what holds of an up, of a down that is done and of a down that waits, until when it may wait: without end, or to a
-- deadline at its semaphore, on its processor, that is not yet due after this turn
pub record IsDeadlineOf (k : KernelState) (ec sm : ℕ) (d : Deadline) : Type 0 where
  pub processor : d.cpu ≡ processor_of k ec
  pub waits_at : d.sm ≡ sm
  pub later : clock k.times (processor_of k ec) + 1 < d.at

abbrev pub IsUntil : KernelState → ℕ → ℕ → Option Deadline → Type 0
IsUntil k ec sm None = Unit {0}
IsUntil k ec sm (Some d) = IsDeadlineOf k ec sm d

pub sm_ctrl_holds : (P : Deed → Type 0) (k : KernelState) (ec domain selector : ℕ) (action : SmAction) →
    ((sm : ℕ) (whom : Option ℕ) → named k domain is_sm up_right selector ≡ Ok sm → woken (semaphore k.semaphores sm) ≡ Ok whom → P (Ups sm whom)) →
    ((sm : ℕ) → named k domain is_sm down_right selector ≡ Ok sm → answer_of (semaphore k.semaphores sm) ≡ lowering.Done → P (Downs sm)) →
    ((sm : ℕ) (until : Option Deadline) → named k domain is_sm down_right selector ≡ Ok sm → answer_of (semaphore k.semaphores sm) ≡ lowering.Blocked →
    IsUntil k ec sm until → P (Blocks sm until)) →
    IfDone P (sm_ctrl k ec domain selector action)
sm_ctrl_holds P k ec domain selector act.Up ups downs blocks = by_name (named k domain is_sm up_right selector) refl
  where
    by_woken : (sm : ℕ) → named k domain is_sm up_right selector ≡ Ok sm → (o : Result (Option ℕ) Overflow) → woken (semaphore k.semaphores sm) ≡ o →
        IfDone P (upped_by sm o)
    by_woken sm is (Ok whom) wakes = ups sm whom is wakes
    by_woken sm is (Err e) wakes = tt

    by_name : (o : Result ℕ Status) → named k domain is_sm up_right selector ≡ o →
        IfDone P (and_then o (λ sm. upped_by sm (woken (semaphore k.semaphores sm))))
    by_name (Ok sm) is = by_woken sm is (woken (semaphore k.semaphores sm)) refl
    by_name (Err status) is = tt
sm_ctrl_holds P k ec domain selector act.Down ups downs blocks = by_name (named k domain is_sm down_right selector) refl
  where
    by_answer : (sm : ℕ) → named k domain is_sm down_right selector ≡ Ok sm → (d : Down) → answer_of (semaphore k.semaphores sm) ≡ d → P (downed_by sm d)
    by_answer sm is lowering.Done answers = downs sm is answers
    by_answer sm is lowering.Blocked answers = blocks sm None is answers tt

    by_name : (o : Result ℕ Status) → named k domain is_sm down_right selector ≡ o →
        IfDone P (and_then o (λ sm. Ok (downed_by sm (answer_of (semaphore k.semaphores sm)))))
    by_name (Ok sm) is = by_answer sm is (answer_of (semaphore k.semaphores sm)) refl
    by_name (Err status) is = tt
sm_ctrl_holds P k ec domain selector (act.DownWithin ticks) ups downs blocks = by_name (named k domain is_sm down_right selector) refl
  where
    by_ticks : (sm : ℕ) → named k domain is_sm down_right selector ≡ Ok sm → answer_of (semaphore k.semaphores sm) ≡ lowering.Blocked →
        (none : Bool) → ticks == 0 ≡ none → IfDone P (unless none Timeout (Ok (Blocks sm (Some (deadline_after k ec sm ticks)))))
    by_ticks sm is answers true none = tt
    by_ticks sm is answers false none =
        blocks sm (Some (deadline_after k ec sm ticks)) is answers (record { processor = refl; waits_at = refl; later = let some : ticks ≡ 0 → ⊥ = eqb-false ticks 0 none in omega arith })

    by_answer : (sm : ℕ) → named k domain is_sm down_right selector ≡ Ok sm → (d : Down) → answer_of (semaphore k.semaphores sm) ≡ d →
        IfDone P (downed_within sm ticks (deadline_after k ec sm ticks) d)
    by_answer sm is lowering.Done answers = downs sm is answers
    by_answer sm is lowering.Blocked answers = by_ticks sm is answers (ticks == 0) refl

    by_name : (o : Result ℕ Status) → named k domain is_sm down_right selector ≡ o →
        IfDone P (and_then o (λ sm. downed_within sm ticks (deadline_after k ec sm ticks) (answer_of (semaphore k.semaphores sm))))
    by_name (Ok sm) is = by_answer sm is (answer_of (semaphore k.semaphores sm)) refl
    by_name (Err status) is = tt

-- of a context that is about to do an instruction
pub ready_holds : (P : Deed → Type 0) (k : KernelState) (ec : ℕ) (test : Bool) → is_asking (context k ec).state ≡ true → Holds P k ec → P (ready k ec test)
ready_holds P k ec true asks h = h.raises recall 0 0
ready_holds P k ec false asks h = by_instruction (instruction k ec)
  where
    by_signal : (reason q0 q1 : ℕ) (test : Bool) → P (signalled k ec reason q0 q1 test)
    by_signal reason q0 q1 true = asking_holds P k ec asks h
    by_signal reason q0 q1 false = h.raises reason q0 q1

    by_instruction : (o : Once) → P (stepping k ec o)
    by_instruction (Raised reason q0 q1) = by_signal reason q0 q1 _
    by_instruction (Went regs store) = h.steps

-- of a context that revokes
pub revoking_holds : (P : Deed → Type 0) (k : KernelState) (ec : ℕ) (range : Range) (own : Bool) → (context k ec).state ≡ Revoking range own → Holds P k ec →
    P (deeds.removes (next_leaf (record { pd = pd_of k ec; range = range; own = own }) k.delegations))
revoking_holds P k ec range own is h = by_leaf (next_leaf (record { pd = pd_of k ec; range = range; own = own }) k.delegations) refl
  where
    by_leaf : (o : Option Derivation) → next_leaf (record { pd = pd_of k ec; range = range; own = own }) k.delegations ≡ o → P (deeds.removes o)
    by_leaf None none = h.returns range own is none
    by_leaf (Some leaf) next = h.removes range own leaf is next

-- A CONTEXT THAT GIVES ITEMS

-- what the present item reads as, where it is a delegation
abbrev pub job_in : Delivery → Result Job Skip
job_in v = job_of v.range_word v.second_word v.delegations v.giver v.receiver

-- its present item is a delegation
pub record IsDelegating (k : KernelState) (ec : ℕ) (v : Delivery) : Type 0 where
  pub present : delivery k ec (context k ec).state ≡ Some v
  pub delegates : (flag v == 1) ≡ true

-- a part that it gives: of this derivation this child
pub record IsGiving (k : KernelState) (ec : ℕ) (d x : Derivation) : Type 0 where
  pub item : Delivery
  pub of_item : IsDelegating k ec item
  pub job : Job
  pub reads : job_in item ≡ Ok job
  pub next : next_source k.delegations.list (job_at_cursor k ec job) ≡ Some d
  pub good : judged (is_busy k) k.delegations.list (child_of (job_at_cursor k ec job) k.delegations.next d) ≡ Ok x

-- a part that it skips: of this derivation, for this reason
pub record IsSkipping (k : KernelState) (ec : ℕ) (d : Derivation) (reason : Reason) : Type 0 where
  pub item : Delivery
  pub of_item : IsDelegating k ec item
  pub job : Job
  pub reads : job_in item ≡ Ok job
  pub next : next_source k.delegations.list (job_at_cursor k ec job) ≡ Some d
  pub bad : judged (is_busy k) k.delegations.list (child_of (job_at_cursor k ec job) k.delegations.next d) ≡ Err reason

-- how an item ends, with its answer: nothing is left, or it is skipped as a whole, or it was translated
abbrev pub EndsAs : KernelState → ℕ → Delivery → ItemEnd → ℕ → Type 0
EndsAs k ec v (Given children) answer =
    (children ≡ (transfer k ec).children) × ((job : Job) × (job_in v ≡ Ok job) × (answer ≡ range_given (job_at_cursor k ec job) children))
EndsAs k ec v (Skipped skip) answer = (job_in v ≡ Err skip) × (answer ≡ 0)
EndsAs k ec v (Translated word) answer =
    (word ≡ translated k.delegations.list v.range_word v.translations v.giver v.receiver) × (answer ≡ word)

-- what holds of each deed of an execution context that gives items
pub record Delivers (P : Deed → Type 0) (k : KernelState) (ec : ℕ) : Type 0 where
  pub gives : (d x : Derivation) → IsGiving k ec d x → P (Gives x (end_of (range_of d)))
  pub skips : (d : Derivation) (reason : Reason) (place : ℕ) → IsSkipping k ec d reason → P (Skips reason place (end_of (range_of d)))
  pub finishes : (v : Delivery) (end : ItemEnd) (answer : ℕ) → delivery k ec (context k ec).state ≡ Some v → EndsAs k ec v end answer →
      P (finished v (transfer k ec).item end answer)

-- of a delegation
delegated_holds : (P : Deed → Type 0) (k : KernelState) (ec : ℕ) (v : Delivery) → IsDelegating k ec v → Delivers P k ec → P (delegated k v (transfer k ec) (job_in v))
delegated_holds P k ec v of_item h = by_job (job_in v) refl
  where
    by_verdict : (j : Job) → job_in v ≡ Ok j → (d : Derivation) → next_source k.delegations.list (job_at_cursor k ec j) ≡ Some d → (r : Result Derivation Reason) →
        judged (is_busy k) k.delegations.list (child_of (job_at_cursor k ec j) k.delegations.next d) ≡ r → P (parted (job_at_cursor k ec j) d r)
    by_verdict j reads d next (Ok x) good = h.gives d x (record { item = v; of_item = of_item; job = j; reads = reads; next = next; good = good })
    by_verdict j reads d next (Err reason) bad =
        h.skips d reason _ (record { item = v; of_item = of_item; job = j; reads = reads; next = next; bad = bad })

    by_source : (j : Job) → job_in v ≡ Ok j → (o : Option Derivation) → next_source k.delegations.list (job_at_cursor k ec j) ≡ o →
        P (part_deed v (transfer k ec) (job_at_cursor k ec j) (option_map (part_of (is_busy k) k.delegations (job_at_cursor k ec j)) o))
    by_source j reads None next = h.finishes v (Given (transfer k ec).children) _ of_item.present (refl, (j, reads, refl))
    by_source j reads (Some d) next = by_verdict j reads d next (judged (is_busy k) k.delegations.list (child_of (job_at_cursor k ec j) k.delegations.next d)) refl

    by_job : (r : Result Job Skip) → job_in v ≡ r → P (delegated k v (transfer k ec) r)
    by_job (Err skip) reads = h.finishes v (Skipped skip) 0 of_item.present (reads, refl)
    by_job (Ok j) reads = by_source j reads (next_source k.delegations.list (job_at_cursor k ec j)) refl

-- of any item
pub delivered_holds : (P : Deed → Type 0) (k : KernelState) (ec : ℕ) (v : Delivery) → delivery k ec (context k ec).state ≡ Some v → Delivers P k ec →
    P (delivered k v (transfer k ec))
delivered_holds P k ec v present h = by_flag (flag v == 1) refl
  where
    by_flag : (t : Bool) → (flag v == 1) ≡ t → P (if t then delegated k v (transfer k ec) (job_in v)
        else answered_by v (transfer k ec) (translated k.delegations.list v.range_word v.translations v.giver v.receiver))
    by_flag true is = delegated_holds P k ec v (record { present = present; delegates = is }) h
    by_flag false is = h.finishes v (Translated _) _ present (refl, refl)

-- one without items rests
pub delivers_holds : (P : Deed → Type 0) (k : KernelState) (ec : ℕ) (o : Option Delivery) → delivery k ec (context k ec).state ≡ o → P Rests → Delivers P k ec →
    P (delivers k (transfer k ec) o)
delivers_holds P k ec None present rests h = rests
delivers_holds P k ec (Some v) present rests h = delivered_holds P k ec v present h

-- EACH

-- of a context that gives no items, and of a context that gives some
pub own_holds : (P : Deed → Type 0) (k : KernelState) (ec : ℕ) → is_giving (context k ec).state ≡ false → P Rests → Holds P k ec → P (deed k ec)
unfolding deed
own_holds P k ec not_giving rests h = by_state (context k ec).state refl not_giving
  where
    by_state : (s : State) → (context k ec).state ≡ s → is_giving s ≡ false → P (deed_in k ec s)
    by_state Fresh is none = h.raises startup 0 0
    by_state Ready is none = ready_holds P k ec (context k ec).recall (ap is_asking is) h
    by_state (Exiting reason q0 q1) is none = exits_holds P k ec reason q0 q1 (ap raised_exit is) h
    by_state Parked is none = rests
    by_state Dead is none = rests
    by_state (Blocked sm) is none = rests
    by_state (Granting new) is none = absurd (cc)
    by_state Replying is none = absurd (cc)
    by_state (Calling handler) is none = h.aborts handler is
    by_state (Helping handler) is none = asking_holds P k ec (ap is_asking is) h
    by_state (Revoking range own) is none = revoking_holds P k ec range own is h
    by_state (Sending reason q0 q1 handler) is none = exits_holds P k ec reason q0 q1 (ap raised_exit is) h

pub giving_holds : (P : Deed → Type 0) (k : KernelState) (ec : ℕ) → is_giving (context k ec).state ≡ true → P Rests → Delivers P k ec → P (deed k ec)
unfolding deed
giving_holds P k ec giving rests h = by_state (context k ec).state refl giving
  where
    by_state : (s : State) → (context k ec).state ≡ s → is_giving s ≡ true → P (deed_in k ec s)
    by_state (Granting new) is some = delivers_holds P k ec (delivery k ec (Granting new)) (ap (delivery k ec) is) rests h
    by_state Replying is some = delivers_holds P k ec (delivery k ec Replying) (ap (delivery k ec) is) rests h
    by_state other is some = absurd (cc)

pub deed_holds : (P : Deed → Type 0) (k : KernelState) (ec : ℕ) → P Rests → Holds P k ec → Delivers P k ec → P (deed k ec)
deed_holds P k ec rests h g = by_test (is_giving (context k ec).state) refl
  where
    by_test : (t : Bool) → is_giving (context k ec).state ≡ t → P (deed k ec)
    by_test false is = own_holds P k ec is rests h
    by_test true is = giving_holds P k ec is rests g
