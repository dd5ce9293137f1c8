-- What a context decides doesn't depend on what is counted, but for ticks that it is told and a deadline to which it waits.
use Rattle.std.proofs.Common.{◌≡◌, ℕ, refl, ap, ◌∙◌}
use Rattle.std.specs.Prelude.{Bool, true, false, ◌==◌, ◌&&◌, not, Option, Some, None, Result, Ok, Err, if◌then◌else◌}
use Rattle.rv_model.specs.Registers.{Registers, reg}
use Rattle.rv_model.specs.Step.{Once, Raised, Went, environment_call}
use Rattle.nova_calls.specs.Hypercalls.{call_of}
use Rattle.nova_calls.specs.declared.call.Call.{Call}
use Rattle.nova_calls.specs.declared.call.Call.TheVariants as asks
use Rattle.nova_calls.specs.declared.call.SmAction.TheVariants as act
use Rattle.nova_calls.specs.declared.numbers.TheConstants.{SC_CTRL}
use Rattle.nova_range.specs.declared.status.Status.{Status}
use Rattle.nova_range.specs.declared.status.Status.TheVariants.{BadPar, Timeout}
use Rattle.nova_utcb.specs.Messages.{has_counts}
use Rattle.nova_model.specs.Calls.{admitted, exit_admitted}
use Rattle.nova_model.specs.Capabilities.{call_right, control_right, down_right, is_pt, is_sc, is_sm, named}
use Rattle.nova_model.specs.Deeds.{deed, deed_in, instruction, ready, signalled, stepping}
use Rattle.nova_model.specs.Deliveries.{answered_by, delegated, delivers, delivery, flag, given_to, taken_from}
use Rattle.nova_model.specs.Exits.{exit_at, exit_portal, exit_to, exits}
use Rattle.nova_model.specs.Hypercalls.{and_then, called, deadline_after, downed_within, hypercall, or_refuses, replied, row, ticks_in, unless}
use Rattle.nova_model.specs.Portals.{handler_of}
use Rattle.nova_model.specs.Semaphores.{answer_of, semaphore}
use Rattle.nova_model.specs.State.{KernelState, budget_at, context, is_local_thread, is_thread, message, pd_of, transfer}
use Rattle.nova_model.specs.Transfers.{job_of}
use Rattle.nova_model.specs.Translations.{translated}
use Rattle.nova_model.specs.declared.admit.Admit.{Admit}
use Rattle.nova_model.specs.declared.admit.Admit.TheVariants.{Refused, Help, Send}
use Rattle.nova_model.specs.declared.admit.ExitAdmit.{ExitAdmit}
use Rattle.nova_model.specs.declared.admit.ExitAdmit.TheVariants as exit
use Rattle.nova_model.specs.declared.context.Mark.{Mark}
use Rattle.nova_model.specs.declared.context.State.{State}
use Rattle.nova_model.specs.declared.context.State.TheVariants.{Exiting, Granting, Helping, Ready, Replying, Sending}
use Rattle.nova_model.specs.declared.deed.Deed.{Deed}
use Rattle.nova_model.specs.declared.deed.Deed.TheVariants as deeds
use Rattle.nova_model.specs.declared.semaphore.Down.{Down}
use Rattle.nova_model.specs.declared.semaphore.Down.TheVariants as down
use Rattle.nova_model.specs.declared.transfer.Delivery.{Delivery}
use Rattle.nova_model.specs.declared.transfer.Job.{Job}
use Rattle.nova_model.specs.declared.transfer.Skip.{Skip}
use Rattle.nova_model.specs.declared.transfer.Transfer.{Transfer}
use Rattle.law_alike.specs.Alike.{uncounted}
use Rattle.law_turns.proofs.Hypercalls.{next_same}

-- a state with the counts of another
abbrev pub counting : KernelState → KernelState → KernelState
counting k l = record k {
  budgets = l.budgets;
  next_stamp = l.next_stamp;
  turns = l.turns;
  stirs = l.stirs;
  times = l.times;
}

pub counting_is : (k l : KernelState) → uncounted k ≡ uncounted l → counting k l ≡ l
counting_is k l same = ap (λ (u : KernelState). counting u l) same

-- a deed without the ticks that it tells, and without the moment to which it waits
abbrev pub blank : Deed → Deed
blank (deeds.Tells call value) = deeds.Tells call (if call == SC_CTRL then 0 else value)
blank (deeds.Blocks sm (Some d)) = deeds.Blocks sm (Some (record d { at = 0 }))
blank other = other

-- HYPERCALLS

called_same : (k l : KernelState) (ec pt : ℕ) (a : Admit) → called k ec pt a ≡ called (counting k l) ec pt a
called_same k l ec pt (Refused status) = refl
called_same k l ec pt Help = refl
called_same k l ec pt Send = refl

replied_same : (k l : KernelState) (ec : ℕ) (o : Option (ℕ × Mark)) → replied k ec o ≡ replied (counting k l) ec o
replied_same k l ec None = refl
replied_same k l ec (Some (caller, mark)) = refl

abbrev blank_of : ℕ → Result Deed Status → Deed
blank_of number r = blank (or_refuses number r)

-- ticks are told where a scheduling context is named
told_same : (k l : KernelState) (number : ℕ) (o : Result ℕ Status) →
    blank_of number (and_then o (λ n. Ok (deeds.Tells SC_CTRL (ticks_in (budget_at k n))))) ≡ blank_of number (and_then o (λ n. Ok (deeds.Tells SC_CTRL (ticks_in (budget_at (counting k l) n)))))
told_same k l number (Err status) = refl
told_same k l number (Ok n) = refl

-- a deadline is waited to where the counter is 0 and there is a tick
late_same : (k l : KernelState) (ec number ticks : ℕ) (o : Result ℕ Status) →
    blank_of number (and_then o (λ n. downed_within n ticks (deadline_after k ec n ticks) (answer_of (semaphore k.semaphores n))))
    ≡ blank_of number (and_then o (λ n. downed_within n ticks (deadline_after (counting k l) ec n ticks) (answer_of (semaphore k.semaphores n))))
late_same k l ec number ticks (Err status) = refl
late_same k l ec number ticks (Ok n) = by_answer (answer_of (semaphore k.semaphores n))
  where
    by_ticks : (t : Bool) → blank_of number (unless t Timeout (Ok (deeds.Blocks n (Some (deadline_after k ec n ticks)))))
        ≡ blank_of number (unless t Timeout (Ok (deeds.Blocks n (Some (deadline_after (counting k l) ec n ticks)))))
    by_ticks true = refl
    by_ticks false = refl

    by_answer : (a : Down) → blank_of number (downed_within n ticks (deadline_after k ec n ticks) a) ≡ blank_of number (downed_within n ticks (deadline_after (counting k l) ec n ticks) a)
    by_answer down.Done = refl
    by_answer down.Blocked = by_ticks (ticks == 0)

row_same : (k l : KernelState) (ec domain number : ℕ) (c : Call) → blank_of number (row k ec domain c) ≡ blank_of number (row (counting k l) ec domain c)
row_same k l ec domain number (asks.Call portal flag) =
    ap (λ (r : Result Deed Status). blank_of number (unless (not (has_counts (message k ec))) BadPar r)) (next_same (named k domain is_pt call_right portal)
    (λ pt. called k ec pt (admitted k.contexts ec (handler_of k pt) flag)) (λ pt. called (counting k l) ec pt (admitted k.contexts ec (handler_of k pt) flag))
    (λ pt. called_same k l ec pt (admitted k.contexts ec (handler_of k pt) flag)))
row_same k l ec domain number asks.Reply =
    ap (λ (r : Result Deed Status). blank_of number (unless (not (is_local_thread k ec)) BadPar (unless (not (has_counts (message k ec))) BadPar r)))
    (replied_same k l ec (context k ec).caller)
row_same k l ec domain number (asks.CreatePd target pd None) = refl
row_same k l ec domain number (asks.CreatePd target pd (Some range)) = refl
row_same k l ec domain number (asks.ScCtrl sc) = told_same k l number (named k domain is_sc control_right sc)
row_same k l ec domain number (asks.SmCtrl sm act.Up) = refl
row_same k l ec domain number (asks.SmCtrl sm act.Down) = refl
row_same k l ec domain number (asks.SmCtrl sm (act.DownWithin ticks)) = late_same k l ec number ticks (named k domain is_sm down_right sm)
row_same k l ec domain number other = refl

hypercall_same : (k l : KernelState) (ec domain : ℕ) (r : Registers) → blank (hypercall k ec domain r) ≡ blank (hypercall (counting k l) ec domain r)
hypercall_same k l ec domain r = by_call (call_of r)
  where
    by_call : (o : Result Call Status) → blank_of (reg r 17) (and_then o (row k ec domain)) ≡ blank_of (reg r 17) (and_then o (row (counting k l) ec domain))
    by_call (Err status) = refl
    by_call (Ok c) = row_same k l ec domain (reg r 17) c

-- EXITS

exit_to_same : (k l : KernelState) (pt reason q0 q1 : ℕ) (a : ExitAdmit) → exit_to k pt reason q0 q1 a ≡ exit_to (counting k l) pt reason q0 q1 a
exit_to_same k l pt reason q0 q1 exit.Dies = refl
exit_to_same k l pt reason q0 q1 exit.Waits = refl
exit_to_same k l pt reason q0 q1 exit.Sends = refl

exits_same : (k l : KernelState) (ec reason q0 q1 : ℕ) → exits k ec reason q0 q1 ≡ exits (counting k l) ec reason q0 q1
exits_same k l ec reason q0 q1 = by_portal (exit_portal k ec reason)
  where
    by_portal : (o : Result ℕ Status) → exit_at k ec reason q0 q1 o ≡ exit_at (counting k l) ec reason q0 q1 o
    by_portal (Err status) = refl
    by_portal (Ok pt) = exit_to_same k l pt reason q0 q1 (exit_admitted k.contexts ec (handler_of k pt))

-- ITEMS

delivers_same : (k l : KernelState) (t : Transfer) (o : Option Delivery) → delivers k t o ≡ delivers (counting k l) t o
delivers_same k l t None = refl
delivers_same k l t (Some v) =
    ap (λ (d : Deed). if flag v == 1 then d else answered_by v t (translated k.delegations.list v.range_word v.translations v.giver v.receiver))
    (by_job (job_of v.range_word v.second_word v.delegations v.giver v.receiver))
  where
    by_job : (j : Result Job Skip) → delegated k v t j ≡ delegated (counting k l) v t j
    by_job (Err skip) = refl
    by_job (Ok j) = refl

taken_same : (k l : KernelState) (ec item : ℕ) (o : Option (ℕ × Mark)) → taken_from k ec item o ≡ taken_from (counting k l) ec item o
taken_same k l ec item None = refl
taken_same k l ec item (Some (caller, mark)) = refl

given_same : (k l : KernelState) (ec item : ℕ) (o : Option (ℕ × Mark)) → given_to k ec item o ≡ given_to (counting k l) ec item o
given_same k l ec item None = refl
given_same k l ec item (Some (caller, mark)) = refl

-- A DEED

stepping_same : (k l : KernelState) (ec : ℕ) (o : Once) → blank (stepping k ec o) ≡ blank (stepping (counting k l) ec o)
stepping_same k l ec (Went regs store) = refl
stepping_same k l ec (Raised reason q0 q1) = by_call ((reason == environment_call) && is_thread k ec)
  where
    by_call : (t : Bool) → blank (signalled k ec reason q0 q1 t) ≡ blank (signalled (counting k l) ec reason q0 q1 t)
    by_call true = hypercall_same k l ec (pd_of k ec) (context k ec).regs
    by_call false = refl

ready_same : (k l : KernelState) (ec : ℕ) (t : Bool) → blank (ready k ec t) ≡ blank (ready (counting k l) ec t)
ready_same k l ec true = refl
ready_same k l ec false = stepping_same k l ec (instruction k ec)

deed_in_same : (k l : KernelState) (ec : ℕ) (s : State) → blank (deed_in k ec s) ≡ blank (deed_in (counting k l) ec s)
deed_in_same k l ec Ready = ready_same k l ec (context k ec).recall
deed_in_same k l ec (Helping handler) = hypercall_same k l ec (pd_of k ec) (context k ec).regs
deed_in_same k l ec (Exiting reason q0 q1) = ap blank (exits_same k l ec reason q0 q1)
deed_in_same k l ec (Sending reason q0 q1 handler) = ap blank (exits_same k l ec reason q0 q1)
deed_in_same k l ec (Granting (Some new)) = ap blank (delivers_same k l (transfer k ec) (delivery k ec (Granting (Some new))))
deed_in_same k l ec (Granting None) =
    ap blank
    (delivers_same k l (transfer k ec) (delivery k ec (Granting None))
    ∙ ap (delivers (counting k l) (transfer k ec)) (taken_same k l ec (transfer k ec).item (context k ec).caller))
deed_in_same k l ec Replying =
    ap blank
    (delivers_same k l (transfer k ec) (delivery k ec Replying)
    ∙ ap (delivers (counting k l) (transfer k ec)) (given_same k l ec (transfer k ec).item (context k ec).caller))
deed_in_same k l ec other = refl

pub deed_same : (k l : KernelState) (ec : ℕ) → blank (deed k ec) ≡ blank (deed (counting k l) ec)
unfolding deed
deed_same k l ec = deed_in_same k l ec (context k ec).state
