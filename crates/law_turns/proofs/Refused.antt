-- A turn whose event answers a hypercall with another status than SUCCESS is that of a refusal.
use Rattle.std.proofs.Common.{◌≡◌, ℕ, ap, ◌∙◌, sym, subst, refl}
use Rattle.std.specs.Prelude.{◌≢◌, ◌==◌, Bool, true, false, if◌then◌else◌, slice_index, slice_set, Option, Some, None, IsSome, Result, Ok, Err}
use Rattle.nova_model.specs.Edges.{is_asking}
use Rattle.nova_range.specs.Statuses.{status_code}
use Rattle.nova_range.specs.declared.status.Status.{Status}
use Rattle.nova_model.specs.Choice.{next_to_act}
use Rattle.nova_model.specs.Deeds.{answered, deed, deed_in, done, sign_of, with_context, removes}
use Rattle.nova_model.specs.Deliveries.{delivers, delivery}
use Rattle.nova_model.specs.Inputs.{stirred}
use Rattle.nova_model.specs.Exits.{exit_at, exit_portal, exit_to, exits}
use Rattle.nova_model.specs.Calls.{exit_admitted}
use Rattle.nova_model.specs.Portals.{handler_of}
use Rattle.nova_model.specs.Revokes.{next_leaf}
use Rattle.nova_model.specs.Runs.{after}
use Rattle.nova_model.specs.State.{KernelState, Contexts, context, context_at, context_in, ec_in, ec_of, transfer, pd_of}
use Rattle.nova_model.specs.Turn.{charged, event_of, answer_of, turn}
use Rattle.nova_model.specs.Choice.{Candidate}
use Rattle.nova_model.specs.declared.admit.ExitAdmit.{ExitAdmit}
use Rattle.nova_model.specs.declared.admit.ExitAdmit.TheVariants as exit
use Rattle.nova_model.specs.declared.context.EcState.{EcState}
use Rattle.nova_model.specs.declared.context.State.{State}
use Rattle.nova_model.specs.declared.context.State.TheVariants.{Fresh, Ready, Parked, Calling, Helping, Exiting, Sending, Granting, Replying, Revoking, Blocked, Dead}
use Rattle.nova_model.specs.declared.deed.Deed.{Deed}
use Rattle.nova_model.specs.declared.deed.Deed.TheVariants.{Refuses, Finishes, Replies}
use Rattle.nova_model.specs.declared.delegation.Derivation.{Derivation}
use Rattle.nova_model.specs.declared.event.Event.{Event}
use Rattle.nova_model.specs.declared.event.EventKind.TheVariants.{Answer}
use Rattle.nova_model.specs.declared.event.Turn.TheVariants.{Stepped}
use Rattle.nova_model.specs.declared.transfer.Delivery.{Delivery}
use Rattle.nova_model.specs.declared.transfer.ItemEnd.TheVariants.{Given}
use Rattle.law_forest.proofs.Stirred.{acted, refusal_stirred}
use Rattle.law_forest.proofs.Turning.{acting_is, chosen_turn, of_kind}
use Rattle.law_turns.specs.Refusals.{IsAnswered, IsRefusal, LeavesRest}
use Rattle.law_forest.proofs.Walk.{delivers_holds}
use Rattle.law_turns.proofs.Charges.{charge_leaves}
use Rattle.law_turns.proofs.Setting.{entry_itself, entry_other, index_itself, index_other}

-- only a refusal answers with another status
record IsRefused (d : Deed) : Type 0 where
  call : ℕ
  status : Status
  is : d ≡ Refuses call status

refuses : (d : Deed) → (sign_of d).0 ≡ Answer → (sign_of d).2 ≢ 0 → IsRefused d
refuses (Refuses call status) answers failed = record { call = call; status = status; is = refl }
refuses (Finishes item (Given children) words follows) answers failed = absurd cc
refuses (Replies caller mark true) answers failed = absurd cc
refuses other answers failed = absurd (first_of (cc, search (failed, refl)))

-- and it makes a hypercall, whose state is asking
abbrev AsksFirst : State → Deed → Type 0
AsksFirst s (Refuses call status) = is_asking s ≡ true
AsksFirst s other = Unit {0}

asks_first : (s : State) (d : Deed) → is_asking s ≡ true → AsksFirst s d
asks_first s (Refuses call status) asks = asks
asks_first s other asks = tt

gives_first : (k : KernelState) (ec : ℕ) (s : State) (o : Option Delivery) → delivery k ec (context k ec).state ≡ o → AsksFirst s (delivers k (transfer k ec) o)
gives_first k ec s o is =
    delivers_holds (AsksFirst s) k ec o is tt (record { gives = λ d x g. tt; skips = λ d reason place g. tt; finishes = λ v end answer present ends. tt })

-- an exit is no hypercall
exits_first : (k : KernelState) (ec reason q0 q1 : ℕ) (s : State) → AsksFirst s (exits k ec reason q0 q1)
exits_first k ec reason q0 q1 s = by_portal (exit_portal k ec reason)
  where
    by_admit : (pt : ℕ) (a : ExitAdmit) → AsksFirst s (exit_to k pt reason q0 q1 a)
    by_admit pt exit.Dies = tt
    by_admit pt exit.Waits = tt
    by_admit pt exit.Sends = tt

    by_portal : (o : Result ℕ Status) → AsksFirst s (exit_at k ec reason q0 q1 o)
    by_portal (Err status) = tt
    by_portal (Ok pt) = by_admit pt (exit_admitted k.contexts ec (handler_of k pt))

-- and neither is what a revoke goes on with
removes_first : (k : KernelState) (ec : ℕ) (s : State) (o : Option Derivation) → AsksFirst s (removes o)
removes_first k ec s None = tt
removes_first k ec s (Some leaf) = tt

state_first : (k : KernelState) (ec : ℕ) (s : State) → (context k ec).state ≡ s → AsksFirst s (deed_in k ec s)
state_first k ec Fresh is = tt
state_first k ec Ready is = asks_first Ready _ refl
state_first k ec Parked is = tt
state_first k ec (Calling h) is = tt
state_first k ec (Helping h) is = asks_first (Helping h) _ refl
state_first k ec (Exiting reason q0 q1) is = exits_first k ec reason q0 q1 (Exiting reason q0 q1)
state_first k ec (Sending reason q0 q1 h) is = exits_first k ec reason q0 q1 (Sending reason q0 q1 h)
state_first k ec (Blocked sm) is = tt
state_first k ec (Granting new) is = gives_first k ec (Granting new) (delivery k ec (Granting new)) (ap (delivery k ec) is)
state_first k ec Replying is = gives_first k ec Replying (delivery k ec Replying) (ap (delivery k ec) is)
state_first k ec (Revoking range own) is = removes_first k ec (Revoking range own) (next_leaf (record { pd = pd_of k ec; range = range; own = own }) k.delegations)
state_first k ec Dead is = tt

deed_first : (k : KernelState) (ec : ℕ) → AsksFirst (context k ec).state (deed k ec)
unfolding deed
deed_first k ec = state_first k ec (context k ec).state refl

-- the turn of the chosen one
pub turn_chosen : (k : KernelState) (cpu : ℕ) (c : Candidate) → next_to_act k cpu ≡ Some c → after k cpu ≡ charged (acted k c.actor) cpu c.sc
turn_chosen k cpu c chosen = chosen_turn k cpu c chosen ∙ sym (acting_is k cpu c)

-- the caller, and the rest, after a refusal and its charge
answer_of_refusal : (x : EcState) (status : Status) → is_asking x.state ≡ true → IsAnswered (status_code status) x (answered x status None)
answer_of_refusal x status asks = record {
  status = λ has. index_itself x.regs.x 10 (status_code status) has;
  pc = refl;
  registers = λ i other. by_test i other (i == 0);
  number = refl;
  cpu = refl;
  before = asks;
  state = refl;
  caller = refl;
  recall = refl;
}
  where
    by_test : (i : ℕ) → i ≢ 10 → (t : Bool) →
        (if t then 0 else slice_index (slice_set x.regs.x 10 (status_code status)) i) ≡ (if t then 0 else slice_index x.regs.x i)
    by_test i other true = refl
    by_test i other false = index_other x.regs.x 10 i (status_code status) other

charged_answer : (k : KernelState) (ec cpu sc : ℕ) (status : Status) → is_asking (context k ec).state ≡ true → IsSome (context_at k ec) →
    IsAnswered (status_code status) (context k ec) (context (charged (with_context k ec (answered (context k ec) status None)) cpu sc) ec)
charged_answer k ec cpu sc status asks there =
    let new = with_context k ec (answered (context k ec) status None) in
    let stays = (charge_leaves new cpu sc).contexts in
    subst (λ (x : EcState). IsAnswered (status_code status) (context k ec) x)
    (sym (ap (λ (cs : Contexts). ec_of cs ec) stays ∙ ap context_in (entry_itself k.contexts ec (answered (context k ec) status None) there)))
    (answer_of_refusal (context k ec) status asks)

charged_rest : (k : KernelState) (ec cpu sc : ℕ) (x : EcState) → LeavesRest k (charged (with_context k ec x) cpu sc) ec sc cpu
charged_rest k ec cpu sc x =
    let left = charge_leaves (with_context k ec x) cpu sc in record {
      contexts = λ other differs. ap (λ (cs : Contexts). ec_in cs other) left.contexts ∙ entry_other k.contexts ec other x differs;
      budgets = left.budgets;
      delegations = left.delegations;
      objects = left.objects;
      messages = left.messages;
      transfers = left.transfers;
      identifiers = left.identifiers;
      semaphores = left.semaphores;
      memory = left.memory;
      cpus = left.cpus;
      consoles = left.consoles;
      guests = left.guests;
      processors = left.processors;
      turns = left.turns;
      deadlines = left.deadlines;
      alarms = left.alarms;
      clocks = left.clocks;
    }

-- of the turn of the chosen context
refusal_of : (k : KernelState) (cpu : ℕ) (c : Candidate) (d : Deed) (status : Status) (number : ℕ) → d ≡ Refuses number status → is_asking (context k c.actor).state ≡ true →
    after k cpu ≡ charged (with_context k c.actor (answered (context k c.actor) status None)) cpu c.sc → IsRefusal k cpu (event_of cpu c d)
refusal_of k cpu c d status number is asks turns =
    let code : status_code status ≡ (sign_of d).2 = sym (ap (λ (x : Deed). (sign_of x).2) is) in record {
      status = status;
      code = code;
      answer = λ there.
          subst (λ (n : ℕ). IsAnswered n (context k c.actor) (context (after k cpu) c.actor)) code
          (subst (λ (new : KernelState). IsAnswered (status_code status) (context k c.actor) (context new c.actor)) (sym turns) (charged_answer k c.actor cpu c.sc status asks there));
      rest = subst (λ (new : KernelState). LeavesRest k new c.actor c.sc cpu) (sym turns) (charged_rest k c.actor cpu c.sc (answered (context k c.actor) status None));
      after = turns;
    }

chosen_refusal : (k : KernelState) (cpu : ℕ) (c : Candidate) → next_to_act k cpu ≡ Some c → (sign_of (deed k c.actor)).0 ≡ Answer → (sign_of (deed k c.actor)).2 ≢ 0 →
    IsRefusal k cpu (event_of cpu c (deed k c.actor))
chosen_refusal k cpu c chosen answers failed =
    let r = refuses (deed k c.actor) answers failed in
    let asks : is_asking (context k c.actor).state ≡ true = subst (AsksFirst (context k c.actor).state) r.is (deed_first k c.actor) in
    let answers : KernelState = with_context k c.actor (answered (context k c.actor) r.status None) in
    refusal_of k cpu c (deed k c.actor) r.status r.call r.is asks
    (turn_chosen k cpu c chosen ∙ ap (λ (d : Deed). charged (stirred k c.actor d (done k c.actor d)) cpu c.sc) r.is
    ∙ ap (λ (s : KernelState). charged s cpu c.sc) (refusal_stirred k c.actor r.call r.status answers))

pub refusal : (k : KernelState) (cpu : ℕ) (e : Event) → answer_of (turn k cpu) ≡ Stepped e → e.kind ≡ Answer → e.b ≢ 0 → IsRefusal k cpu e
refusal k cpu e steps answers failed =
    of_kind Answer refl (λ (f : Event). f.b ≢ 0 → IsRefusal k cpu f) k cpu e steps (λ c chosen state kind b. chosen_refusal k cpu c chosen kind b) answers failed
