-- A deed is decided by looking at no memory, but for the instruction.
use Rattle.std.proofs.Common.{◌≡◌, ℕ, ◌+◌, ◌==◌, List, [], ◌∷◌, refl, ap, ap₂, ◌∙◌}
use Rattle.std.specs.Prelude.{Bool, true, false, ◌&&◌, not, Option, Some, None, Result, Ok, Err}
use Rattle.rv_model.specs.Registers.{Registers, reg}
use Rattle.rv_model.specs.Step.{Once, Raised, Went, environment_call}
use Rattle.nova_calls.specs.Hypercalls.{call_of}
use Rattle.nova_calls.specs.declared.call.Call.{Call}
use Rattle.nova_calls.specs.declared.call.Call.TheVariants as asks
use Rattle.nova_calls.specs.declared.call.SmAction.TheVariants as act
use Rattle.nova_range.specs.declared.status.Status.{Status}
use Rattle.nova_range.specs.declared.status.Status.TheVariants.{BadPar}
use Rattle.nova_utcb.specs.Messages.{has_counts}
use Rattle.nova_range.specs.declared.range.Range.{Range}
use Rattle.nova_range.specs.declared.rights.Rights.{Rights}
use Rattle.nova_model.specs.Calls.{admitted, exit_admitted}
use Rattle.nova_model.specs.Capabilities.{call_right, is_pt, named}
use Rattle.nova_model.specs.Choice.{Candidate, candidate_of, candidates_from, choice, foremost, in_front}
use Rattle.nova_model.specs.Deeds.{deed, deed_in, instruction, ready, signalled, stepping}
use Rattle.nova_model.specs.Deliveries.{delivery, delivers, taken_from, given_to}
use Rattle.nova_model.specs.Exits.{exit_at, exit_portal, exit_to}
use Rattle.nova_model.specs.Hypercalls.{called, create_pd, hypercall, new_domain, or_refuses, replied, row, unless}
use Rattle.nova_model.specs.Memory.{Memory}
use Rattle.nova_model.specs.Portals.{handler_of}
use Rattle.nova_model.specs.State.{KernelState, context, is_thread, message, pd_of, transfer, is_local_thread}
use Rattle.nova_model.specs.declared.admit.Admit.{Admit}
use Rattle.nova_model.specs.declared.admit.Admit.TheVariants.{Refused, Help, Send}
use Rattle.nova_model.specs.declared.admit.ExitAdmit.{ExitAdmit}
use Rattle.nova_model.specs.declared.admit.ExitAdmit.TheVariants as exit
use Rattle.nova_model.specs.declared.context.Mark.{Mark}
use Rattle.nova_model.specs.declared.context.State.{State}
use Rattle.nova_model.specs.declared.context.State.TheVariants.{Ready, Helping, Exiting, Sending, Granting, Replying}
use Rattle.nova_model.specs.declared.deed.Deed.{Deed}
use Rattle.nova_model.specs.declared.transfer.Delivery.{Delivery}
use Rattle.nova_model.specs.declared.transfer.Transfer.{Transfer}
use Rattle.nova_objects.specs.declared.object.Object.{Object}
use Rattle.nova_objects.specs.declared.object.Object.TheVariants.{Sc}
use Rattle.law_turns.proofs.Hypercalls.{next_same}

-- the state with another memory
abbrev pub over : KernelState → Memory → KernelState
over k m = record k { memory = m }

unless_same : {A : Type 0} (t : Bool) (status : Status) (a b : Result A Status) → a ≡ b → unless t status a ≡ unless t status b
unless_same t status a b same = ap (unless t status) same

called_same : (k : KernelState) (m : Memory) (ec pt : ℕ) (a : Admit) → called (over k m) ec pt a ≡ called k ec pt a
called_same k m ec pt (Refused status) = refl
called_same k m ec pt Help = refl
called_same k m ec pt Send = refl

replied_same : (k : KernelState) (m : Memory) (ec : ℕ) (o : Option (ℕ × Mark)) → replied (over k m) ec o ≡ replied k ec o
replied_same k m ec None = refl
replied_same k m ec (Some (caller, mark)) = refl

domain_same : (k : KernelState) (m : Memory) (target : ℕ) (o : Option (Range × Rights)) → new_domain (over k m) target o ≡ new_domain k target o
domain_same k m target None = refl
domain_same k m target (Some range) = refl

row_same : (k : KernelState) (m : Memory) (ec domain : ℕ) (c : Call) → row (over k m) ec domain c ≡ row k ec domain c
row_same k m ec domain (asks.Call portal flag) =
    ap (unless (not (has_counts (message k ec))) BadPar) (next_same (named k domain is_pt call_right portal) _ _ (λ pt. called_same k m ec pt (admitted k.contexts ec (handler_of k pt) flag)))
row_same k m ec domain asks.Reply =
    ap (λ (r : Result Deed Status). unless (not (is_local_thread k ec)) BadPar (unless (not (has_counts (message k ec))) BadPar r)) (replied_same k m ec (context k ec).caller)
row_same k m ec domain (asks.CreatePd target pd first) = by_first first
  where
    by_first : (o : Option (Range × Rights)) → create_pd (over k m) domain target pd o ≡ create_pd k domain target pd o
    by_first None = refl
    by_first (Some range) = refl
row_same k m ec domain (asks.SmCtrl sm act.Up) = refl
row_same k m ec domain (asks.SmCtrl sm act.Down) = refl
row_same k m ec domain (asks.SmCtrl sm (act.DownWithin ticks)) = refl
row_same k m ec domain other = refl

pub hypercall_same : (k : KernelState) (m : Memory) (ec domain : ℕ) (r : Registers) → hypercall (over k m) ec domain r ≡ hypercall k ec domain r
hypercall_same k m ec domain r = ap (or_refuses (reg r 17)) (next_same (call_of r) (row (over k m) ec domain) (row k ec domain) (row_same k m ec domain))

to_same : (k : KernelState) (m : Memory) (pt reason q0 q1 : ℕ) (a : ExitAdmit) → exit_to (over k m) pt reason q0 q1 a ≡ exit_to k pt reason q0 q1 a
to_same k m pt reason q0 q1 exit.Dies = refl
to_same k m pt reason q0 q1 exit.Waits = refl
to_same k m pt reason q0 q1 exit.Sends = refl

at_same : (k : KernelState) (m : Memory) (ec reason q0 q1 : ℕ) (o : Result ℕ Status) → exit_at (over k m) ec reason q0 q1 o ≡ exit_at k ec reason q0 q1 o
at_same k m ec reason q0 q1 (Err status) = refl
at_same k m ec reason q0 q1 (Ok pt) = to_same k m pt reason q0 q1 (exit_admitted k.contexts ec (handler_of k pt))

taken_same : (k : KernelState) (m : Memory) (ec item : ℕ) (o : Option (ℕ × Mark)) → taken_from (over k m) ec item o ≡ taken_from k ec item o
taken_same k m ec item None = refl
taken_same k m ec item (Some (caller, mark)) = refl

given_same : (k : KernelState) (m : Memory) (ec item : ℕ) (o : Option (ℕ × Mark)) → given_to (over k m) ec item o ≡ given_to k ec item o
given_same k m ec item None = refl
given_same k m ec item (Some (caller, mark)) = refl

delivers_same : (k : KernelState) (m : Memory) (t : Transfer) (a b : Option Delivery) → a ≡ b → delivers (over k m) t a ≡ delivers k t b
delivers_same k m t a b same = ap (delivers (over k m) t) same ∙ by_delivery b
  where
    by_delivery : (o : Option Delivery) → delivers (over k m) t o ≡ delivers k t o
    by_delivery None = refl
    by_delivery (Some v) = refl

signals_same : (k : KernelState) (m : Memory) (ec reason q0 q1 : ℕ) (t : Bool) → signalled (over k m) ec reason q0 q1 t ≡ signalled k ec reason q0 q1 t
signals_same k m ec reason q0 q1 true = hypercall_same k m ec (pd_of k ec) (context k ec).regs
signals_same k m ec reason q0 q1 false = refl

steps_same : (k : KernelState) (m : Memory) (ec : ℕ) (o : Once) → stepping (over k m) ec o ≡ stepping k ec o
steps_same k m ec (Raised reason q0 q1) = signals_same k m ec reason q0 q1 ((reason == environment_call) && is_thread k ec)
steps_same k m ec (Went regs store) = refl

ready_same : (k : KernelState) (m : Memory) (ec : ℕ) → instruction (over k m) ec ≡ instruction k ec → (t : Bool) → ready (over k m) ec t ≡ ready k ec t
ready_same k m ec same true = refl
ready_same k m ec same false = ap (stepping (over k m) ec) same ∙ steps_same k m ec (instruction k ec)

in_same : (k : KernelState) (m : Memory) (ec : ℕ) → instruction (over k m) ec ≡ instruction k ec → (s : State) → deed_in (over k m) ec s ≡ deed_in k ec s
in_same k m ec same Ready = ready_same k m ec same (context k ec).recall
in_same k m ec same (Exiting reason q0 q1) = at_same k m ec reason q0 q1 (exit_portal k ec reason)
in_same k m ec same (Sending reason q0 q1 handler) = at_same k m ec reason q0 q1 (exit_portal k ec reason)
in_same k m ec same (Granting (Some new)) = delivers_same k m (transfer k ec) _ (delivery k ec (Granting (Some new))) refl
in_same k m ec same (Granting None) = delivers_same k m (transfer k ec) _ (delivery k ec (Granting None)) (taken_same k m ec (transfer k ec).item (context k ec).caller)
in_same k m ec same Replying = delivers_same k m (transfer k ec) _ (delivery k ec Replying) (given_same k m ec (transfer k ec).item (context k ec).caller)
in_same k m ec same (Helping handler) = hypercall_same k m ec (pd_of k ec) (context k ec).regs
in_same k m ec same other = refl

pub deed_same : (k : KernelState) (m : Memory) (ec : ℕ) → instruction (over k m) ec ≡ instruction k ec → deed (over k m) ec ≡ deed k ec
unfolding deed
deed_same k m ec same = in_same k m ec same (context k ec).state

-- nor is the chosen candidate
of_same : (k : KernelState) (m : Memory) (cpu sc : ℕ) (o : Object) → candidate_of (over k m) cpu sc o ≡ candidate_of k cpu sc o
of_same k m cpu sc (Sc ec its priority quantum) = refl
of_same k m cpu sc other = refl

candidates_same : (k : KernelState) (m : Memory) (cpu sc : ℕ) (os : List Object) → candidates_from (over k m) cpu sc os ≡ candidates_from k cpu sc os
candidates_same k m cpu sc [] = refl
candidates_same k m cpu sc (o ∷ os) = ap₂ (λ (c : Option Candidate) (cs : List Candidate). in_front c cs) (of_same k m cpu sc o) (candidates_same k m cpu (sc + 1) os)

pub choice_same : (k : KernelState) (m : Memory) (cpu : ℕ) → choice (over k m) cpu ≡ choice k cpu
unfolding choice
choice_same k m cpu = ap foremost (candidates_same k m cpu 0 k.objects)
