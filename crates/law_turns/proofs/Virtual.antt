-- Virtual CPUs: what deeds they do, and that whatever is done they stay in their states, and a context that comes by a call is a thread.
use Rattle.std.proofs.Common.{◌≡◌, ℕ, zero, suc, List, [], ◌∷◌, ◌++◌, length, refl, ap, ◌∙◌, sym, subst, inl, inr, arith}
use Rattle.std.specs.Prelude.{◌≢◌, ◌==◌, ◌&&◌, Bool, true, false, slice_get, Option, Some, None, is_some, option_map, option_and_then, Result, Ok, Err}
use Rattle.rv_model.specs.Step.{Once, Raised, Went, environment_call}
use Rattle.nova_objects.specs.declared.object.EcKind.TheVariants.{Local, Global, Vcpu}
use Rattle.nova_objects.specs.declared.object.Object.{Object}
use Rattle.nova_objects.specs.declared.object.Object.TheVariants.{Pd, Ec, Sc, Pt, Sm}
use Rattle.nova_range.specs.declared.status.Status.{Status}
use Rattle.nova_model.specs.Boot.{root_context, root_objects}
use Rattle.nova_model.specs.Calls.{exit_admitted}
use Rattle.nova_model.specs.Capabilities.{is_ec, is_vcpu}
use Rattle.nova_model.specs.Creation.{context_of, object_of}
use Rattle.nova_model.specs.Deeds.{answered, actor_after, deed, deed_in, instruction, parked, ready, resumed, serving, signalled, stepping}
use Rattle.nova_model.specs.Exits.{exit_at, exit_portal, exit_to}
use Rattle.nova_model.specs.Portals.{handler_of}
use Rattle.nova_model.specs.State.{Contexts, KernelState, context, context_at, context_in, ec_in, ec_of, is_local_in, is_local_thread, is_thread, is_thread_in, nobody, with_ec}
use Rattle.nova_model.specs.declared.admit.ExitAdmit.{ExitAdmit}
use Rattle.nova_model.specs.declared.admit.ExitAdmit.TheVariants as exit
use Rattle.nova_model.specs.declared.context.EcState.{EcState}
use Rattle.nova_model.specs.declared.context.Mark.{Mark}
use Rattle.nova_model.specs.declared.context.Mark.TheVariants as mark
use Rattle.nova_model.specs.declared.context.State.{State}
use Rattle.nova_model.specs.declared.context.State.TheVariants.{Fresh, Ready, Calling, Exiting, Sending, Blocked, Dead}
use Rattle.nova_model.specs.declared.deed.Deed.{Deed}
use Rattle.nova_model.specs.declared.deed.Deed.TheVariants.{Rests, Steps, Raises, Dies, Waits, Sends, Aborts}
use Rattle.nova_model.specs.declared.new_object.NewObject.{NewObject}
use Rattle.nova_model.specs.declared.new_object.NewObject.TheVariants as new
use Rattle.nova_model.specs.declared.root.Root.{Root}
use Rattle.nova_range.specs.declared.status.Status.TheVariants.{Success}
use Rattle.law_forest.specs.Effects.{applied, edits_by, effect, joined, made_by}
use Rattle.law_turns.specs.Links.{AreServed, IsCallerOf}
use Rattle.law_turns.specs.Tables.{HasTables, IsOf}
use Rattle.law_turns.specs.Virtual.{AreGuests, is_guest_state}
use Rattle.law_turns.proofs.Referring.{Asks}
use Rattle.law_turns.proofs.Courses.{Courses, IsCall, IsSelf, IsTo, deed_course, edited_length}
use Rattle.law_turns.proofs.Serving.{IsActor, IsReached, mark_in, number_in}
use Rattle.law_turns.proofs.Setting.{entry_below, entry_joined, entry_set, get_kept, get_last, joined_other}
use Rattle.law_turns.proofs.TablesKept.{context_is, contexts_length}

-- KINDS

-- an execution context is a thread or a virtual CPU, and a local thread is a thread
virtual_or_thread : (o : Option Object) → option_map is_ec o ≡ Some true → is_thread_in o ≡ false → option_map is_vcpu o ≡ Some true
virtual_or_thread None is not = absurd (cc)
virtual_or_thread (Some Pd) is not = absurd (cc)
virtual_or_thread (Some (Ec pd cpu Local event)) is not = absurd (cc)
virtual_or_thread (Some (Ec pd cpu Global event)) is not = absurd (cc)
virtual_or_thread (Some (Ec pd cpu Vcpu event)) is not = refl
virtual_or_thread (Some (Sc ec cpu priority quantum)) is not = absurd (cc)
virtual_or_thread (Some (Pt ec mtd ip)) is not = absurd (cc)
virtual_or_thread (Some Sm) is not = absurd (cc)

pub virtual_alone : (o : Option Object) → option_map is_vcpu o ≡ Some true → is_thread_in o ≡ false
virtual_alone None is = refl
virtual_alone (Some Pd) is = refl
virtual_alone (Some (Ec pd cpu Local event)) is = absurd (cc)
virtual_alone (Some (Ec pd cpu Global event)) is = absurd (cc)
virtual_alone (Some (Ec pd cpu Vcpu event)) is = refl
virtual_alone (Some (Sc ec cpu priority quantum)) is = refl
virtual_alone (Some (Pt ec mtd ip)) is = refl
virtual_alone (Some Sm) is = refl

pub local_thread : (o : Option Object) → is_local_in o ≡ true → is_thread_in o ≡ true
local_thread None local = absurd (cc)
local_thread (Some Pd) local = absurd (cc)
local_thread (Some (Ec pd cpu Local event)) local = refl
local_thread (Some (Ec pd cpu Global event)) local = absurd (cc)
local_thread (Some (Ec pd cpu Vcpu event)) local = absurd (cc)
local_thread (Some (Sc ec cpu priority quantum)) local = absurd (cc)
local_thread (Some (Pt ec mtd ip)) local = absurd (cc)
local_thread (Some Sm) local = absurd (cc)

-- THEIR DEEDS

abbrev pub is_guest_deed : Deed → Bool
is_guest_deed Rests = true
is_guest_deed Steps = true
is_guest_deed (Raises reason q0 q1) = true
is_guest_deed (Dies reason q0) = true
is_guest_deed (Waits handler reason q0 q1) = true
is_guest_deed (Sends handler ip identifier mtd reason q0 q1) = true
is_guest_deed (Aborts handler mark) = true
is_guest_deed other = false

-- ECALL of a context that is no thread is an exit, and in its states it gives nothing and helps none
guest_deeds : (k : KernelState) (g : ℕ) → is_thread k g ≡ false → is_guest_state (context k g).state ≡ true → is_guest_deed (deed k g) ≡ true
unfolding deed
guest_deeds k g no_thread is = by_state (context k g).state is
  where
    by_signal : (reason q0 q1 : ℕ) (test : Bool) → is_guest_deed (signalled k g reason q0 q1 (test && is_thread k g)) ≡ true
    by_signal reason q0 q1 true = rw no_thread refl
    by_signal reason q0 q1 false = refl

    by_instruction : (o : Once) → is_guest_deed (stepping k g o) ≡ true
    by_instruction (Raised reason q0 q1) = by_signal reason q0 q1 (reason == environment_call)
    by_instruction (Went regs store) = refl

    by_recall : (recall : Bool) → is_guest_deed (ready k g recall) ≡ true
    by_recall true = refl
    by_recall false = by_instruction (instruction k g)

    by_admit : (pt reason q0 q1 : ℕ) (a : ExitAdmit) → is_guest_deed (exit_to k pt reason q0 q1 a) ≡ true
    by_admit pt reason q0 q1 exit.Dies = refl
    by_admit pt reason q0 q1 exit.Waits = refl
    by_admit pt reason q0 q1 exit.Sends = refl

    by_portal : (reason q0 q1 : ℕ) (o : Result ℕ Status) → is_guest_deed (exit_at k g reason q0 q1 o) ≡ true
    by_portal reason q0 q1 (Err status) = refl
    by_portal reason q0 q1 (Ok pt) = by_admit pt reason q0 q1 (exit_admitted k.contexts g (handler_of k pt))

    by_state : (s : State) → is_guest_state s ≡ true → is_guest_deed (deed_in k g s) ≡ true
    by_state Fresh guest = refl
    by_state Ready guest = by_recall (context k g).recall
    by_state (Exiting reason q0 q1) guest = by_portal reason q0 q1 (exit_portal k g reason)
    by_state (Sending reason q0 q1 handler) guest = by_portal reason q0 q1 (exit_portal k g reason)
    by_state (Calling handler) guest = refl
    by_state Dead guest = refl
    by_state other guest = absurd (cc)

-- any other deed is a thread's
pub thread_does : (k : KernelState) (ec : ℕ) → is_some (context_at k ec) ≡ true → HasTables k → AreGuests k → is_guest_deed (deed k ec) ≡ false → is_thread k ec ≡ true
thread_does k ec there tables guests other = by_test (is_thread k ec) refl
  where
    by_test : (t : Bool) → is_thread k ec ≡ t → t ≡ true
    by_test true is = refl
    by_test false is =
        let virtual = virtual_or_thread (slice_get k.objects ec) (context_is k ec there tables) is in
        let does = guest_deeds k ec is (guests.states ec virtual) in absurd (cc)

-- IN A TABLE OF EXECUTION CONTEXTS

-- of an entry: a virtual CPU is in a state of theirs, and a caller that came by a call is a thread
pub record IsGuestEntry (os : List Object) (n : ℕ) (x : EcState) : Type 0 where
  pub state : IsOf os is_vcpu n → is_guest_state x.state ≡ true
  pub callers : (c : ℕ) → x.caller ≡ Some (c, mark.Call) → is_thread_in (slice_get os c) ≡ true

abbrev pub AreAmong : List Object → Contexts → Type 0
AreAmong os cs = (n : ℕ) → IsGuestEntry os n (ec_of cs n)

entry_caller : (o : Option EcState) (p : ℕ × Mark) → (context_in o).caller ≡ Some p → option_and_then (λ (x : EcState). x.caller) o ≡ Some p
entry_caller None p is = absurd (cc)
entry_caller (Some x) p is = is

caller_entry : (o : Option EcState) (p : ℕ × Mark) → option_and_then (λ (x : EcState). x.caller) o ≡ Some p → (context_in o).caller ≡ Some p
caller_entry None p is = absurd (cc)
caller_entry (Some x) p is = is

pub among_of : (k : KernelState) → AreGuests k → AreAmong k.objects k.contexts
among_of k h n = record { state = h.states n; callers = λ c is. h.callers n c (entry_caller (ec_in k.contexts n) (c, mark.Call) is) }

pub guests_of : (k : KernelState) → AreAmong k.objects k.contexts → AreGuests k
guests_of k h = record { states = λ g. (h g).state; callers = λ handler caller is. (h handler).callers caller (caller_entry (ec_in k.contexts handler) (caller, mark.Call) is) }

pub caller_thread : (k : KernelState) (ec caller : ℕ) (its : Mark) → AreGuests k → IsCallerOf k ec caller its → its ≡ mark.Call → is_thread k caller ≡ true
caller_thread k ec caller its h keeps called = (among_of k h ec).callers caller (keeps ∙ ap (λ (m : Mark). Some (caller, m)) called)

-- no context, a context that is set and one that joins
none_entry : (os : List Object) (n : ℕ) → IsGuestEntry os n nobody
none_entry os n = record { state = λ is. refl; callers = λ c is. absurd (cc) }

set_among : (os : List Object) (cs : Contexts) (e : ℕ) (y : EcState) → IsGuestEntry os e y → AreAmong os cs → AreAmong os (with_ec cs e y)
set_among os cs e y new h n = by_entry (ec_in (with_ec cs e y) n) refl
  where
    by_entry : (o : Option EcState) → ec_in (with_ec cs e y) n ≡ o → IsGuestEntry os n (context_in o)
    by_entry None is = none_entry os n
    by_entry (Some x) is = elim (entry_set cs e n y x is) [
      | inl itself ↦ subst (IsGuestEntry os n) itself.1 (subst (λ (m : ℕ). IsGuestEntry os m y) (sym itself.0) new)
      | inr other ↦ subst (IsGuestEntry os n) (ap context_in other.1) (h n)
    ]

thread_kept : (os : List Object) (o : Object) (c : ℕ) (at : Option Object) → slice_get os c ≡ at → is_thread_in at ≡ true → is_thread_in (slice_get (os ++ o ∷ []) c) ≡ true
thread_kept os o c None is thread = absurd (cc)
thread_kept os o c (Some x) is thread = ap is_thread_in (get_kept os o c x is) ∙ thread

old_entry : (os : List Object) (o : Object) (n : ℕ) (x : EcState) → n ≢ length os → IsGuestEntry os n x → IsGuestEntry (os ++ o ∷ []) n x
old_entry os o n x other h = record {
  state = λ is. h.state (ap (λ (at : Option Object). option_map is_vcpu at) (sym (joined_other os o n other)) ∙ is);
  callers = λ c is. thread_kept os o c (slice_get os c) refl (h.callers c is);
}

more_among : (os : List Object) (o : Object) (cs : Contexts) (entry : Option EcState) → length cs ≡ length os → IsGuestEntry (os ++ o ∷ []) (length os) (context_in entry) →
    AreAmong os cs → AreAmong (os ++ o ∷ []) (cs ++ entry ∷ [])
more_among os o cs entry as_many new h n = by_entry (ec_in (cs ++ entry ∷ []) n) refl
  where
    by_entry : (e : Option EcState) → ec_in (cs ++ entry ∷ []) n ≡ e → IsGuestEntry (os ++ o ∷ []) n (context_in e)
    by_entry None is = none_entry (os ++ o ∷ []) n
    by_entry (Some x) is = elim (entry_joined cs entry n x is) [
      | inl there ↦ let below = entry_below cs n x there in
          let other : n ≢ length os = (λ same. omega (arith, below, same, as_many)) in old_entry os o n x other (subst (IsGuestEntry os n) (ap context_in there) (h n))
      | inr last ↦ subst (IsGuestEntry (os ++ o ∷ []) n) (ap context_in last.1) (subst (λ (m : ℕ). IsGuestEntry (os ++ o ∷ []) m (context_in entry)) (sym (last.0 ∙ as_many)) new)
    ]

born_entry : (os : List Object) (n : ℕ) (made : NewObject) → IsGuestEntry (os ++ object_of made ∷ []) (length os) (context_in (context_of n made))
born_entry os n new.Pd = none_entry _ _
born_entry os n (new.Ec pd cpu Local sp event) = record {
  state = λ is. absurd (let last = get_last os (Ec pd cpu Local event) in
      let not : option_map is_vcpu (slice_get (os ++ Ec pd cpu Local event ∷ []) (length os)) ≡ Some false = ap (λ (o : Option Object). option_map is_vcpu o) last in cc);
  callers = λ c is. absurd (cc);
}
born_entry os n (new.Ec pd cpu Global sp event) = record { state = λ is. refl; callers = λ c is. absurd (cc) }
born_entry os n (new.Ec pd cpu Vcpu sp event) = record { state = λ is. refl; callers = λ c is. absurd (cc) }
born_entry os n (new.Sc ec cpu priority quantum) = none_entry _ _
born_entry os n (new.Pt ec mtd ip) = none_entry _ _
born_entry os n (new.Sm count) = none_entry _ _

-- A CONTEXT THAT ACTS

changed_state : (x : EcState) (d : Deed) → is_guest_deed d ≡ true → is_guest_state x.state ≡ true → is_guest_state (actor_after x d).state ≡ true
changed_state x Rests guest h = h
changed_state x Steps guest h = h
changed_state x (Raises reason q0 q1) guest h = refl
changed_state x (Dies reason q0) guest h = refl
changed_state x (Waits handler reason q0 q1) guest h = refl
changed_state x (Sends handler ip identifier mtd reason q0 q1) guest h = refl
changed_state x (Aborts handler mark.Call) guest h = refl
changed_state x (Aborts handler mark.Exit) guest h = refl
changed_state x other guest h = absurd (cc)

-- ANOTHER

-- a context that goes on, and keeps its caller
ready_entry : (os : List Object) (n : ℕ) (x y : EcState) → y.state ≡ Ready → y.caller ≡ x.caller → IsGuestEntry os n x → IsGuestEntry os n y
ready_entry os n x y ready same h = record { state = λ is. ap is_guest_state ready; callers = λ c is. h.callers c (sym same ∙ is) }

resumed_among : (os : List Object) (cs : Contexts) (e : ℕ) (its : Mark) (m : List ℕ) → AreAmong os cs → AreAmong os (with_ec cs e (resumed (ec_of cs e) its m))
resumed_among os cs e mark.Call m h = set_among os cs e _ (ready_entry os e (ec_of cs e) _ refl refl (h e)) h
resumed_among os cs e mark.Exit m h = set_among os cs e _ (ready_entry os e (ec_of cs e) _ refl refl (h e)) h

-- a context whose wait ends goes on
pub ended_among : (k : KernelState) (w : ℕ) (status : Status) → AreAmong k.objects k.contexts → AreAmong k.objects (with_ec k.contexts w (answered (ec_of k.contexts w) status None))
ended_among k w status h = set_among k.objects k.contexts w _ (ready_entry k.objects w (ec_of k.contexts w) _ refl refl (h w)) h

-- a handler begins
pub reached_thread : (k : KernelState) (ec h : ℕ) → IsReached k.contexts ec h → AreServed (is_local_thread k) k.contexts → is_thread k h ≡ true
reached_thread k ec h reached served = local_thread (slice_get k.objects h) ((served.well h).parked reached.parked).1

serves_entry : (os : List Object) (h : ℕ) (x : EcState) (caller : ℕ) (its : Mark) (ip identifier : ℕ) (items : Bool) → is_thread_in (slice_get os h) ≡ true →
    (its ≡ mark.Call → is_thread_in (slice_get os caller) ≡ true) → IsGuestEntry os h (serving x caller its ip identifier items)
serves_entry os h x caller its ip identifier items local thread = record {
  state = λ is. absurd (let not = virtual_alone (slice_get os h) is in cc);
  callers = λ c is. subst (λ (n : ℕ). is_thread_in (slice_get os n) ≡ true) (ap number_in is) (thread (ap mark_in is));
}

serves_among : (os : List Object) (cs : Contexts) (h caller : ℕ) (its : Mark) (ip identifier : ℕ) (items : Bool) → is_thread_in (slice_get os h) ≡ true →
    (its ≡ mark.Call → is_thread_in (slice_get os caller) ≡ true) → AreAmong os cs → AreAmong os (with_ec cs h (serving (ec_of cs h) caller its ip identifier items))
serves_among os cs h caller its ip identifier items local thread all =
    set_among os cs h (serving (ec_of cs h) caller its ip identifier items) (serves_entry os h (ec_of cs h) caller its ip identifier items local thread) all

-- DEEDS

-- a deed that only a thread does is no virtual CPU's
guest_does : (k : KernelState) (ec : ℕ) (d : Deed) → (is_guest_deed d ≡ false → is_thread k ec ≡ true) → IsOf k.objects is_vcpu ec → is_guest_deed d ≡ true
guest_does k ec d thread virtual = by_test (is_guest_deed d) refl
  where
    by_test : (t : Bool) → is_guest_deed d ≡ t → t ≡ true
    by_test true is = refl
    by_test false is = absurd (let does = thread is in let not = virtual_alone (slice_get k.objects ec) virtual in cc)

guest_courses : (k : KernelState) (ec : ℕ) (d : Deed) → IsActor k.contexts ec → (is_guest_deed d ≡ false → is_thread k ec ≡ true) → AreServed (is_local_thread k) k.contexts →
    AreAmong k.objects k.contexts → Courses k ec d (λ cs all. AreAmong k.objects cs)
guest_courses k ec d actor thread served h = record {
  rests = λ to. h;
  steps = λ regs is. own (record (context k ec) { regs = regs }) (λ p is. is) (ap (λ (e : Deed). (actor_after (context k ec) e).state) is);
  stays = λ cs all w x y is self same now. stays cs w x y is self same now;
  goes = λ y self to may. own y (λ p is. sym self.caller ∙ is) to;
  sends = λ handler its ip identifier items to of reached.
      serves_among k.objects (with_ec k.contexts ec (record (context k ec) { state = Calling handler })) handler ec its ip identifier items (reached_thread k ec handler reached served)
      (calls handler ip identifier items its of) (own (record (context k ec) { state = Calling handler }) (λ p is. is) to);
  replies = λ caller its m to keeps.
      resumed_among k.objects (with_ec k.contexts ec (parked (context k ec))) caller its m (own (parked (context k ec)) (λ p is. absurd cc) to);
  ups = λ sm to is. answers to;
  wakes = λ sm w to is.
      let one = with_ec k.contexts ec (answered (context k ec) Success None) in
      set_among k.objects one w _ (ready_entry k.objects w (ec_of one w) _ refl refl (answers to w)) (answers to);
  downs = λ sm to is. answers to;
  blocks = λ sm to is answer. own (record (context k ec) { state = Blocked sm }) (λ p is. is) to;
}
  where
    own : (y : EcState) → ((p : ℕ × Mark) → y.caller ≡ Some p → (context k ec).caller ≡ Some p) → IsTo k ec d y.state → AreAmong k.objects (with_ec k.contexts ec y)
    own y callers to = set_among k.objects k.contexts ec y (record {
      state = λ is. ap is_guest_state (sym to) ∙ changed_state (context k ec) d (guest_does k ec d thread is) ((h ec).state is);
      callers = λ c is. (h ec).callers c (callers (c, mark.Call) is);
    }) h

    answers : IsTo k ec d Ready → AreAmong k.objects (with_ec k.contexts ec (answered (context k ec) Success None))
    answers to = own (answered (context k ec) Success None) (λ p is. is) to

    calls : (handler ip identifier : ℕ) (items : Bool) (its : Mark) → IsCall d handler ip identifier items its → its ≡ mark.Call → is_thread k ec ≡ true
    calls handler ip identifier items mark.Call is called = thread (ap is_guest_deed is)
    calls handler ip identifier items mark.Exit is called = absurd cc

    stays : (cs : Contexts) (w : ℕ) (x y : EcState) → ec_in cs w ≡ Some x → IsSelf x y → y.state ≡ x.state → AreAmong k.objects cs → AreAmong k.objects (with_ec cs w y)
    stays cs w x y is self same now =
        let old : IsGuestEntry k.objects w x = subst (IsGuestEntry k.objects w) (ap context_in is) (now w) in
        set_among k.objects cs w y
        (record { state = λ virtual. ap is_guest_state same ∙ old.state virtual; callers = λ c keeps. old.callers c (sym self.caller ∙ keeps) }) now

pub joined_among : (os : List Object) (cs : Contexts) (made : Option NewObject) → length cs ≡ length os → AreAmong os cs →
    AreAmong (joined os (option_map object_of made)) (joined cs (option_map (context_of (length os)) made))
joined_among os cs None as_many h = h
joined_among os cs (Some made) as_many h = more_among os (object_of made) cs (context_of (length os) made) as_many (born_entry os (length os) made) h

pub applied_guests : (k : KernelState) (ec : ℕ) (d : Deed) → IsActor k.contexts ec → (is_guest_deed d ≡ false → is_thread k ec ≡ true) → Asks k ec d → HasTables k →
    AreServed (is_local_thread k) k.contexts → AreGuests k → AreGuests (applied k (effect k ec d))
applied_guests k ec d actor thread asks tables served h =
    guests_of (applied k (effect k ec d))
    (joined_among k.objects _ (made_by d) (edited_length k.contexts (edits_by k ec d) ∙ contexts_length k tables)
    (deed_course k ec (λ cs all. AreAmong k.objects cs) d actor asks (guest_courses k ec d actor thread served (among_of k h))))

-- at the beginning there is none, and no context called
pub root_among : (root : Root) → AreAmong (root_objects root) (None ∷ Some (root_context root) ∷ None ∷ [])
root_among root zero = record { state = λ is. refl; callers = λ c is. absurd (cc) }
root_among root (suc zero) = record { state = λ is. refl; callers = λ c is. absurd (cc) }
root_among root (suc (suc zero)) = record { state = λ is. refl; callers = λ c is. absurd (cc) }
root_among root (suc (suc (suc n))) = record { state = λ is. refl; callers = λ c is. absurd (cc) }
