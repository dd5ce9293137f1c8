-- Tables of execution contexts that differ in registers alone: what is found there, and what is decided by it.
use Rattle.std.proofs.Common.{◌≡◌, ℕ, ◌+◌, zero, suc, List, [], ◌∷◌, length, refl, sym, ap, ap₂, ◌∙◌}
use Rattle.std.specs.Prelude.{Bool, ◌==◌, ◌&&◌, ◌||◌, not, is_none, slice_get, option_map, option_and_then, Option, Some, None, if◌then◌else◌}
use Rattle.std.specs.List.{filter_map, find, list_any, range_with_len}
use Rattle.std.proofs.lemmas.Option.{same_Some}
use mathlib.Core.Path.{fun_ext}
use Rattle.rv_model.specs.Registers.{Registers}
use Rattle.nova_range.specs.declared.status.Status.TheVariants.{Aborted, BadCpu, Timeout}
use Rattle.nova_model.specs.Calls.{admitted, exit_admitted, is_parked, is_same_cpu}
use Rattle.nova_model.specs.Choice.{Candidate, candidate_of, candidate_with, candidates_from, choice, foremost, in_front}
use Rattle.nova_model.specs.Edges.{acts, acts_as, acts_by, chase, circle, cpu_in, edge, edge_of, is_dead, met, met_within, or_itself, state_in}
use Rattle.nova_model.specs.Revokes.{busy}
use Rattle.nova_model.specs.Running.{Running, is_busy, is_of_objects, is_revoked, revoke_by, revoke_of, running, running_of}
use Rattle.nova_model.specs.State.{Contexts, KernelState, budget_at, context, context_in, ec_in, ec_of, entry, message, message_in, pd_of}
use Rattle.nova_model.specs.declared.admit.Admit.{Admit}
use Rattle.nova_model.specs.declared.admit.Admit.TheVariants.{Refused, Help, Send}
use Rattle.nova_model.specs.declared.admit.ExitAdmit.{ExitAdmit}
use Rattle.nova_model.specs.declared.admit.ExitAdmit.TheVariants as exit
use Rattle.nova_model.specs.declared.context.EcState.{EcState}
use Rattle.nova_model.specs.declared.context.Mark.{Mark}
use Rattle.nova_model.specs.declared.context.State.{State}
use Rattle.nova_model.specs.declared.context.State.TheVariants.{Granting, Replying}
use Rattle.nova_objects.specs.declared.object.Object.{Object}
use Rattle.nova_objects.specs.declared.object.Object.TheVariants.{Sc}
use Rattle.law_integrity.specs.Disclosure.{registers_set}

-- the state with other tables of execution contexts and message words
abbrev pub Words : Type 0
Words = List (Option (List ℕ))

abbrev pub over : KernelState → Contexts → Words → KernelState
over k cs ms = record k { contexts = cs; messages = ms }

-- the message words of a number there
abbrev pub words_in : Words → ℕ → List ℕ
words_in ms n = message_in (entry (slice_get ms n))

-- what a context reads of message words is the same: its own, and those of the caller whose items it takes, or to which it gives the items of a reply
pub record ReadsSame (k : KernelState) (ms : Words) (ec : ℕ) : Type 0 where
  pub own : words_in ms ec ≡ message k ec
  pub taken : (context k ec).state ≡ Granting None → (caller : ℕ) (came : Mark) → (context k ec).caller ≡ Some (caller, came) → words_in ms caller ≡ message k caller
  pub given : (context k ec).state ≡ Replying → (caller : ℕ) (came : Mark) → (context k ec).caller ≡ Some (caller, came) → words_in ms caller ≡ message k caller

pub reads_all : (k : KernelState) (ec : ℕ) → ReadsSame k k.messages ec
reads_all k ec = record { own = refl; taken = λ is caller came serves. refl; given = λ is caller came serves. refl }

-- two tables with the same in each entry but registers
pub record AreMasked (cs ds : Contexts) : Type 0 where
  pub size : length cs ≡ length ds
  pub states : (e : ℕ) → state_in cs e ≡ state_in ds e
  pub cpus : (e : ℕ) → cpu_in cs e ≡ cpu_in ds e
  pub callers : (e : ℕ) → (ec_of cs e).caller ≡ (ec_of ds e).caller
  pub recalls : (e : ℕ) → (ec_of cs e).recall ≡ (ec_of ds e).recall
  pub own_states : (e : ℕ) → (ec_of cs e).state ≡ (ec_of ds e).state

pub field_set : {T : Type 0} (f : EcState → T) → ((x : EcState) (r : Registers) → f (record x { regs = r }) ≡ f x) → (cs : Contexts) (g : ℕ) (r : Registers) (e : ℕ) →
    option_map f (ec_in (registers_set cs g r) e) ≡ option_map f (ec_in cs e)
field_set f same [] g r e = refl
field_set {T} f same (Some x ∷ cs) zero r zero = ap (λ (y : T). Some y) (same x r)
field_set f same (None ∷ cs) zero r zero = refl
field_set f same (o ∷ cs) zero r (suc e) = refl
field_set f same (o ∷ cs) (suc g) r zero = refl
field_set f same (o ∷ cs) (suc g) r (suc e) = field_set f same cs g r e

field_of : {T : Type 0} (f : EcState → T) (o p : Option EcState) → option_map f o ≡ option_map f p → f (context_in o) ≡ f (context_in p)
field_of f None None h = refl
field_of f None (Some y) h = absurd (cc)
field_of f (Some x) None h = absurd (cc)
field_of f (Some x) (Some y) h = same_Some (f x) (f y) h

set_size : (cs : Contexts) (g : ℕ) (r : Registers) → length (registers_set cs g r) ≡ length cs
set_size [] g r = refl
set_size (o ∷ cs) zero r = refl
set_size (o ∷ cs) (suc g) r = ap suc (set_size cs g r)

pub same_table : (cs : Contexts) → AreMasked cs cs
same_table cs = record { size = refl; states = λ e. refl; cpus = λ e. refl; callers = λ e. refl; recalls = λ e. refl; own_states = λ e. refl }

pub masked : (cs : Contexts) (g : ℕ) (r : Registers) → AreMasked (registers_set cs g r) cs
masked cs g r = record {
  size = set_size cs g r;
  states = field_set (λ x. x.state) (λ x r. refl) cs g r;
  cpus = field_set (λ x. x.cpu) (λ x r. refl) cs g r;
  callers = λ e. field_of (λ x. x.caller) _ _ (field_set (λ x. x.caller) (λ x r. refl) cs g r e);
  recalls = λ e. field_of (λ x. x.recall) _ _ (field_set (λ x. x.recall) (λ x r. refl) cs g r e);
  own_states = λ e. field_of (λ x. x.state) _ _ (field_set (λ x. x.state) (λ x r. refl) cs g r e);
}

-- WHICH HANDLERS CALLS AND EXITS REACH

edges_same : (cs ds : Contexts) → AreMasked cs ds → edge cs ≡ edge ds
edges_same cs ds a = fun_ext (λ e. ap (option_and_then edge_of) (a.states e))

met_same : (cs ds : Contexts) → AreMasked cs ds → (e : ℕ) → met cs e ≡ met ds e
met_same cs ds a e = ap₂ (λ (n : ℕ) (f : ℕ → Option ℕ). met_within n f (Some e)) a.size (edges_same cs ds a)

circle_same : (cs ds : Contexts) → AreMasked cs ds → (h e : ℕ) → circle cs h e ≡ circle ds h e
circle_same cs ds a h e = ap (λ (l : List ℕ). list_any (λ x. e == x) l) (met_same cs ds a h)

abbrev pub admit_by : Bool → Bool → Bool → Bool → Admit
admit_by same lost parked flag = if not same then Refused BadCpu else if lost then Refused Aborted else if parked then Send else if flag then Refused Timeout else Help

pub admitted_same : (cs ds : Contexts) → AreMasked cs ds → (caller handler : ℕ) (flag : Bool) → admitted cs caller handler flag ≡ admitted ds caller handler flag
admitted_same cs ds a caller handler flag =
    ap (λ (t : Bool). admit_by t (is_dead (state_in cs handler) || circle cs handler caller) (is_parked (state_in cs handler)) flag) (ap₂ is_same_cpu (a.cpus handler) (a.cpus caller))
    ∙ ap (λ (t : Bool). admit_by same t (is_parked (state_in cs handler)) flag) (ap₂ (λ (o : Option State) (t : Bool). is_dead o || t) (a.states handler) (circle_same cs ds a handler caller))
    ∙ ap (λ (o : Option State). admit_by same (is_dead (state_in ds handler) || circle ds handler caller) (is_parked o) flag) (a.states handler)
  where
    same : Bool
    same = is_same_cpu (cpu_in ds handler) (cpu_in ds caller)

abbrev pub exit_by : Bool → Bool → Bool → ExitAdmit
exit_by same lost parked = if not same then exit.Dies else if lost then exit.Dies else if parked then exit.Sends else exit.Waits

pub exit_admitted_same : (cs ds : Contexts) → AreMasked cs ds → (ec handler : ℕ) → exit_admitted cs ec handler ≡ exit_admitted ds ec handler
exit_admitted_same cs ds a ec handler =
    ap (λ (t : Bool). exit_by t (is_dead (state_in cs handler) || circle cs handler ec) (is_parked (state_in cs handler))) (ap₂ is_same_cpu (a.cpus handler) (a.cpus ec))
    ∙ ap (λ (t : Bool). exit_by same t (is_parked (state_in cs handler))) (ap₂ (λ (o : Option State) (t : Bool). is_dead o || t) (a.states handler) (circle_same cs ds a handler ec))
    ∙ ap (λ (o : Option State). exit_by same (is_dead (state_in ds handler) || circle ds handler ec) (is_parked o)) (a.states handler)
  where
    same : Bool
    same = is_same_cpu (cpu_in ds handler) (cpu_in ds ec)

-- WHICH REVOKES RUN

revoke_by_state : (k : KernelState) (cs : Contexts) (ms : Words) (ec : ℕ) → revoke_of (over k cs ms) ec ≡ option_and_then (revoke_by (pd_of k ec)) (state_in cs ec)
revoke_by_state k cs ms ec = by_entry (ec_in cs ec)
  where
    by_entry : (o : Option EcState) → option_and_then (λ (x : EcState). revoke_by (pd_of k ec) x.state) o ≡ option_and_then (revoke_by (pd_of k ec)) (option_map (λ (x : EcState). x.state) o)
    by_entry None = refl
    by_entry (Some x) = refl

running_same : (k : KernelState) (cs : Contexts) (ms : Words) → AreMasked cs k.contexts → running (over k cs ms) ≡ running k
running_same k cs ms a =
    ap₂ (λ (f : ℕ → Option Running) (n : ℕ). filter_map f (range_with_len 0 n))
    (fun_ext (λ ec. ap (running_of ec) (revoke_by_state k cs ms ec ∙ ap (option_and_then (revoke_by (pd_of k ec))) (a.states ec) ∙ sym (revoke_by_state k k.contexts k.messages ec)))) a.size

pub busy_same : (k : KernelState) (cs : Contexts) (ms : Words) → AreMasked cs k.contexts → is_busy (over k cs ms) ≡ is_busy k
busy_same k cs ms a = fun_ext (λ x. ap (λ (ws : List Running). list_any (λ w. busy w.revoke k.delegations.list x) ws) (running_same k cs ms a))

pub revoked_same : (k : KernelState) (cs : Contexts) (ms : Words) → AreMasked cs k.contexts → (pd selector : ℕ) → is_revoked (over k cs ms) pd selector ≡ is_revoked k pd selector
revoked_same k cs ms a pd selector = ap (λ (ws : List Running). list_any (is_of_objects pd selector) ws) (running_same k cs ms a)

-- WHICH CONTEXT IS CHOSEN

acts_same : (cs ds : Contexts) → AreMasked cs ds → (e : ℕ) → acts cs e ≡ acts ds e
acts_same cs ds a e = ap (acts_as cs) (a.states e) ∙ by_state (state_in ds e)
  where
    by_state : (o : Option State) → acts_as cs o ≡ acts_as ds o
    by_state None = refl
    by_state (Some s) = ap (λ (f : ℕ → Option State). acts_by s (option_and_then f (edge_of s))) (fun_ext a.states)

chase_same : (cs ds : Contexts) → AreMasked cs ds → (e : ℕ) → chase cs e ≡ chase ds e
chase_same cs ds a e =
    ap₂ (λ (f : ℕ → Bool) (l : List ℕ). or_itself e (find f l))
    (fun_ext (λ x. ap₂ (λ (t : Bool) (o : Option ℕ). t || is_none o) (acts_same cs ds a x) (ap (option_and_then edge_of) (a.states x)))) (met_same cs ds a e)

candidate_same : (k : KernelState) (cs : Contexts) (ms : Words) → AreMasked cs k.contexts → (cpu sc : ℕ) (o : Object) → candidate_of (over k cs ms) cpu sc o ≡ candidate_of k cpu sc o
candidate_same k cs ms a cpu sc (Sc ec its priority quantum) =
    ap (λ (n : ℕ). if (its == cpu) && acts cs n then candidate_with sc n priority (budget_at k sc) else None) (chase_same cs k.contexts a ec)
    ∙ ap (λ (t : Bool). if (its == cpu) && t then candidate_with sc (chase k.contexts ec) priority (budget_at k sc) else None) (acts_same cs k.contexts a (chase k.contexts ec))
candidate_same k cs ms a cpu sc other = refl

candidates_same : (k : KernelState) (cs : Contexts) (ms : Words) → AreMasked cs k.contexts → (cpu sc : ℕ) (os : List Object) → candidates_from (over k cs ms) cpu sc os ≡ candidates_from k cpu sc os
candidates_same k cs ms a cpu sc [] = refl
candidates_same k cs ms a cpu sc (o ∷ os) =
    ap₂ (λ (c : Option Candidate) (rest : List Candidate). in_front c rest) (candidate_same k cs ms a cpu sc o) (candidates_same k cs ms a cpu (sc + 1) os)

pub choice_same : (k : KernelState) (cs : Contexts) (ms : Words) → AreMasked cs k.contexts → (cpu : ℕ) → choice (over k cs ms) cpu ≡ choice k cpu
unfolding choice
choice_same k cs ms a cpu = ap foremost (candidates_same k cs ms a cpu 0 k.objects)
