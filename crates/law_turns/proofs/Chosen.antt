-- The chosen context acts, and what acts does something.
use Rattle.std.proofs.Common.{◌≡◌, ℕ, ◌+◌, List, [], ◌∷◌, refl, ap, ◌∙◌, sym, subst}
use Rattle.std.specs.Prelude.{Bool, true, false, not, ◌&&◌, ◌==◌, ◌≢◌, cond, Option, Some, None, IfSome, IsSome, option_map, option_and_then, if◌then◌else◌, Result, Ok, Err}
use Rattle.std.specs.List.{AllByRecursion, find}
use Rattle.nova_calls.specs.declared.call.Call.{Call}
use Rattle.nova_calls.specs.declared.call.Call.TheVariants as call
use Rattle.nova_calls.specs.declared.numbers.TheConstants.{CREATE_EC, CREATE_SC, CREATE_PT, CREATE_SM, SC_CTRL}
use Rattle.nova_objects.specs.declared.object.Object.{Object}
use Rattle.nova_objects.specs.declared.object.Object.TheVariants.{Sc}
use Rattle.nova_range.specs.declared.range.Range.{Range}
use Rattle.nova_range.specs.declared.rights.Rights.{Rights}
use Rattle.nova_range.specs.declared.status.Status.{Status}
use Rattle.nova_range.specs.declared.status.Status.TheVariants.{BadPar}
use Rattle.nova_utcb.specs.Messages.{has_counts}
use Rattle.nova_model.specs.Calls.{admitted}
use Rattle.nova_model.specs.Capabilities.{call_right, control_right, is_ec, is_sc, is_pt, named}
use Rattle.nova_model.specs.Choice.{Candidate, actor, candidate_with, candidate_of, candidates_from, candidates, choice, in_front}
use Rattle.nova_model.specs.Deeds.{deed, deed_in, removes}
use Rattle.nova_model.specs.Deliveries.{delivered, delivers, delivery, delivery_between, first_delivery, given_to, taken_from, told_by}
use Rattle.nova_model.specs.Edges.{acts, acts_as, acts_by, edge_of, state_in, is_asking}
use Rattle.nova_model.specs.Exits.{raised_exit}
use Rattle.nova_model.specs.Hypercalls.{and_then, called, new_domain, replied, row, ticks_in}
use Rattle.nova_model.specs.Portals.{handler_of}
use Rattle.nova_model.specs.Revokes.{next_leaf}
use Rattle.nova_model.specs.State.{KernelState, budget_at, context, context_in, ec_in, is_local_thread, message, pd_of, transfer}
use Rattle.nova_model.specs.declared.admit.Admit.{Admit}
use Rattle.nova_model.specs.declared.admit.Admit.TheVariants as admit
use Rattle.nova_model.specs.declared.budget.Budget.{Budget}
use Rattle.nova_model.specs.declared.context.EcState.{EcState}
use Rattle.nova_model.specs.declared.context.Mark.{Mark}
use Rattle.nova_model.specs.declared.context.State.{State}
use Rattle.nova_model.specs.declared.context.State.TheVariants.{Fresh, Ready, Parked, Calling, Helping, Exiting, Sending, Granting, Replying, Revoking, Blocked, Dead}
use Rattle.nova_model.specs.declared.deed.Deed.{Deed}
use Rattle.nova_model.specs.declared.deed.Deed.TheVariants.{Rests, Recalls, Tells, Names}
use Rattle.nova_model.specs.declared.delegation.Derivation.{Derivation}
use Rattle.nova_model.specs.declared.new_object.NewObject.TheVariants.{Sm}
use Rattle.nova_model.specs.declared.transfer.Delivery.{Delivery}
use Rattle.nova_model.specs.declared.transfer.Sequel.TheVariants as sequel
use Rattle.law_turns.specs.Links.{IsWell, handles_items}
use Rattle.law_turns.proofs.Rows.{makes_hold, named_holds, unless_holds, create_pd_holds}
use Rattle.law_forest.proofs.Walk.{Holds, IfDone, asking_holds, delivered_holds, exits_holds, ready_holds, sm_ctrl_holds}

-- THE CHOSEN CONTEXT ACTS

abbrev pub Acts : KernelState → Candidate → Type 0
Acts k c = acts k.contexts c.actor ≡ true

with_acts : (k : KernelState) (sc who priority : ℕ) (b : Option Budget) → acts k.contexts who ≡ true → IfSome (candidate_with sc who priority b) (Acts k)
with_acts k sc who priority (Some b) h = h
with_acts k sc who priority None h = tt

candidate_acts : (k : KernelState) (cpu sc : ℕ) (o : Object) → IfSome (candidate_of k cpu sc o) (Acts k)
candidate_acts k cpu sc (Sc ec its_cpu priority quantum) = by_test (its_cpu == cpu) (acts k.contexts (actor k ec)) refl
  where
    by_test : (here test : Bool) → acts k.contexts (actor k ec) ≡ test →
        IfSome (if here && test then candidate_with sc (actor k ec) priority (budget_at k sc) else None) (Acts k)
    by_test true true is = with_acts k sc (actor k ec) priority (budget_at k sc) is
    by_test true false is = tt
    by_test false test is = tt
candidate_acts k cpu sc other = tt

pub with_front : (P : Candidate → Type 0) (o : Option Candidate) (cs : List Candidate) → IfSome o P → AllByRecursion P cs → AllByRecursion P (in_front o cs)
with_front P None cs first others = others
with_front P (Some c) cs first others = (first, others)

candidates_act : (k : KernelState) (cpu sc : ℕ) (os : List Object) → AllByRecursion (Acts k) (candidates_from k cpu sc os)
candidates_act k cpu sc [] = tt
candidates_act k cpu sc (o ∷ os) = with_front (Acts k) (candidate_of k cpu sc o) _ (candidate_acts k cpu sc o) (candidates_act k cpu (sc + 1) os)

pub found_all : (P : Candidate → Type 0) (p : Candidate → Bool) (cs : List Candidate) → AllByRecursion P cs → IfSome (find p cs) P
found_all P p [] h = tt
found_all P p (c ∷ cs) h = by_test (p c) (found_all P p cs h.1)
  where
    by_test : (t : Bool) → IfSome (find p cs) P → IfSome (cond t (Some c) (find p cs)) P
    by_test true others = h.0
    by_test false others = others

pub choice_acts : (k : KernelState) (cpu : ℕ) → IfSome (choice k cpu) (Acts k)
unfolding choice
choice_acts k cpu = found_all (Acts k) _ (candidates k cpu) (candidates_act k cpu 0 k.objects)

-- WHAT ACTS DOES SOMETHING

abbrev is_rest : Deed → Bool
is_rest Rests = true
is_rest other = false

abbrev Does : Deed → Type 0
Does d = is_rest d ≡ false

opens_does : (k : KernelState) (target : ℕ) (first : Option (Range × Rights)) → Does (new_domain k target first)
opens_does k target None = refl
opens_does k target (Some range) = refl

called_does : (k : KernelState) (ec : ℕ) (flag : Bool) (r : Result ℕ Status) →
    IfDone Does (and_then r (λ pt. called k ec pt (admitted k.contexts ec (handler_of k pt) flag)))
called_does k ec flag (Err status) = tt
called_does k ec flag (Ok pt) = by_admit (admitted k.contexts ec (handler_of k pt) flag)
  where
    by_admit : (a : Admit) → IfDone Does (called k ec pt a)
    by_admit (admit.Refused status) = tt
    by_admit admit.Help = refl
    by_admit admit.Send = refl

replied_does : (k : KernelState) (ec : ℕ) (o : Option (ℕ × Mark)) → IfDone Does (replied k ec o)
replied_does k ec (Some (caller, mark)) = refl
replied_does k ec None = tt

row_does : (k : KernelState) (ec domain : ℕ) (c : Call) → IfDone Does (row k ec domain c)
row_does k ec domain (call.Call portal flag) =
    unless_holds Does (not (has_counts (message k ec))) BadPar _ (called_does k ec flag (named k domain is_pt call_right portal))
row_does k ec domain call.Reply =
    unless_holds Does (not (is_local_thread k ec)) BadPar _ (unless_holds Does (not (has_counts (message k ec))) BadPar _ (replied_does k ec (context k ec).caller))
row_does k ec domain (call.CreatePd target pd first) = create_pd_holds Does k domain target pd first (opens_does k target first)
row_does k ec domain (call.CreateEc target pd cpu kind sp event) = makes_hold Does CREATE_EC target (λ made. refl) k domain pd _
row_does k ec domain (call.CreateSc target pd whose quantum priority) = makes_hold Does CREATE_SC target (λ made. refl) k domain pd _
row_does k ec domain (call.CreatePt target pd handler mtd ip) = makes_hold Does CREATE_PT target (λ made. refl) k domain pd _
row_does k ec domain (call.CreateSm target pd count) = makes_hold Does CREATE_SM target (λ made. refl) k domain pd (λ o. Ok (Sm count))
row_does k ec domain (call.EcCtrl whose) = named_holds Does (named k domain is_ec control_right whose) (λ n. Recalls n) (λ n. refl)
row_does k ec domain (call.ScCtrl sc) = named_holds Does (named k domain is_sc control_right sc) (λ n. Tells SC_CTRL (ticks_in (budget_at k n))) (λ n. refl)
row_does k ec domain (call.PtCtrl pt identifier) = named_holds Does (named k domain is_pt control_right pt) (λ n. Names n identifier) (λ n. refl)
row_does k ec domain (call.SmCtrl sm action) = sm_ctrl_holds Does k ec domain sm action (λ n whom is wakes. refl) (λ n is answers. refl) (λ n until is answers till. refl)
row_does k ec domain other = refl

own_does : (k : KernelState) (ec : ℕ) → Holds Does k ec
own_does k ec = record {
  steps = refl;
  raises = λ reason q0 q1. refl;
  dies = λ reason q0. refl;
  refuses = λ number status. refl;
  waits = λ pt reason q0 q1 is. refl;
  sends = λ pt reason q0 q1 is. refl;
  aborts = λ handler is. refl;
  removes = λ range own leaf is next. refl;
  returns = λ range own is next. refl;
  rows = λ asks c read. row_does k ec (pd_of k ec) c;
}

item_does : (k : KernelState) (ec : ℕ) (v : Delivery) → delivery k ec (context k ec).state ≡ Some v → Does (delivered k v (transfer k ec))
item_does k ec v is =
    delivered_holds Does k ec v is (record { gives = λ d x g. refl; skips = λ d reason place g. refl; finishes = λ v end answer is ends. refl })

taking_does : (k : KernelState) (ec : ℕ) (o : Option (ℕ × Mark)) → (context k ec).state ≡ Granting None → (context k ec).caller ≡ o → IsSome o →
    Does (delivers k (transfer k ec) (taken_from k ec (transfer k ec).item o))
taking_does k ec None is keeps some = absurd (cc)
taking_does k ec (Some (caller, mark)) is keeps some =
    item_does k ec (delivery_between k caller ec (transfer k ec).item (Some ec) sequel.Taken) (ap (delivery k ec) is ∙ ap (taken_from k ec (transfer k ec).item) keeps)

replying_does : (k : KernelState) (ec : ℕ) (o : Option (ℕ × Mark)) → (context k ec).state ≡ Replying → (context k ec).caller ≡ o → IsSome o →
    Does (delivers k (transfer k ec) (given_to k ec (transfer k ec).item o))
replying_does k ec None is keeps some = absurd (cc)
replying_does k ec (Some (caller, mark)) is keeps some =
    item_does k ec (delivery_between k ec caller (transfer k ec).item (told_by caller mark) (sequel.Replied caller mark)) (ap (delivery k ec) is ∙ ap (given_to k ec (transfer k ec).item) keeps)

removes_does : (o : Option Derivation) → Does (removes o)
removes_does None = refl
removes_does (Some leaf) = refl

state_does : (k : KernelState) (ec : ℕ) (s : State) → (context k ec).state ≡ s → acts_by s (option_and_then (state_in k.contexts) (edge_of s)) ≡ true →
    (handles_items (Some s) ≡ true → IsSome (context k ec).caller) → Does (deed_in k ec s)
state_does k ec Fresh is acts giving = refl
state_does k ec Ready is acts giving = ready_holds Does k ec (context k ec).recall (ap is_asking is) (own_does k ec)
state_does k ec Parked is acts giving = absurd (cc)
state_does k ec (Calling h) is acts giving = refl
state_does k ec (Helping h) is acts giving = asking_holds Does k ec (ap is_asking is) (own_does k ec)
state_does k ec (Exiting reason q0 q1) is acts giving = exits_holds Does k ec reason q0 q1 (ap raised_exit is) (own_does k ec)
state_does k ec (Sending reason q0 q1 h) is acts giving = exits_holds Does k ec reason q0 q1 (ap raised_exit is) (own_does k ec)
state_does k ec (Granting None) is acts giving = taking_does k ec (context k ec).caller is refl (giving refl)
state_does k ec (Granting (Some new)) is acts giving = item_does k ec (first_delivery k ec new) (ap (delivery k ec) is)
state_does k ec Replying is acts giving = replying_does k ec (context k ec).caller is refl (giving refl)
state_does k ec (Revoking range own) is acts giving = removes_does (next_leaf (record { pd = pd_of k ec; range = range; own = own }) k.delegations)
state_does k ec (Blocked sm) is acts giving = absurd (cc)
state_does k ec Dead is acts giving = absurd (cc)

deed_does : (k : KernelState) (ec : ℕ) (is_local : Bool) → acts k.contexts ec ≡ true → IsWell is_local (ec_in k.contexts ec) → Does (deed k ec)
unfolding deed
deed_does k ec is_local does well = by_entry (ec_in k.contexts ec) refl does well
  where
    by_entry : (o : Option EcState) → ec_in k.contexts ec ≡ o → acts_as k.contexts (option_map (λ (x : EcState). x.state) o) ≡ true → IsWell is_local o →
        Does (deed_in k ec (context_in o).state)
    by_entry None at able its = absurd (cc)
    by_entry (Some x) at able its =
        let same : context k ec ≡ x = ap context_in at in
        state_does k ec x.state (ap (λ (y : EcState). y.state) same) able (λ gives. subst (λ (y : EcState). IsSome y.caller) (sym same) (its.giving gives))

something : (d : Deed) → Does d → d ≢ Rests
something d does is = let rests = ap is_rest is in absurd (cc)

-- the chosen context does something
pub chosen_does : (k : KernelState) (cpu : ℕ) (is_local : ℕ → Bool) → ((e : ℕ) → IsWell (is_local e) (ec_in k.contexts e)) → IfSome (choice k cpu) (λ c. deed k c.actor ≢ Rests)
chosen_does k cpu is_local well = by_choice (choice k cpu) (choice_acts k cpu)
  where
    by_choice : (o : Option Candidate) → IfSome o (Acts k) → IfSome o (λ c. deed k c.actor ≢ Rests)
    by_choice None h = tt
    by_choice (Some c) h = something (deed k c.actor) (deed_does k c.actor (is_local c.actor) h (well c.actor))
