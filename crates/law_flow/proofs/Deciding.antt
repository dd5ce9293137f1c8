-- What one of a side decides to do is the same in two states in which the side's part is, and is done to the side alone.
use Rattle.std.proofs.Common.{arith, ◌≡◌, ℕ, ◌+◌, ◌==◌, List, [], ◌∷◌, refl, sym, ap, ap₂, ◌∙◌}
use Rattle.std.specs.Prelude.{Bool, true, false, ◌&&◌, not, slice_get, option_map, option_and_then, Option, Some, None, Result, Ok, Err, if◌then◌else◌}
use Rattle.std.specs.List.{find}
use Rattle.std.proofs.lemmas.Bool.{and_parts, eqb-true}
use Rattle.rv_model.specs.Registers.{reg}
use Rattle.rv_model.specs.Step.{Once, Raised, Went, environment_call}
use Rattle.rv_model.specs.Words.{plus}
use Rattle.nova_calls.specs.Hypercalls.{call_of}
use Rattle.nova_calls.specs.declared.call.Call.{Call}
use Rattle.nova_calls.specs.declared.call.Call.TheVariants as asks
use Rattle.nova_calls.specs.declared.call.SmAction.TheVariants as act
use Rattle.nova_calls.specs.declared.numbers.TheConstants.{CREATE_EC, CREATE_PT, CREATE_SC, CREATE_SM, LOOKUP, SC_CTRL}
use Rattle.nova_range.specs.RangeWords.{word_of}
use Rattle.nova_range.specs.declared.range.Range.{Range}
use Rattle.nova_range.specs.declared.rights.Rights.{Rights}
use Rattle.nova_range.specs.declared.status.Status.{Status}
use Rattle.nova_range.specs.declared.status.Status.TheVariants.{BadPar, Busy, Timeout}
use Rattle.nova_utcb.specs.Messages.{has_counts, has_items}
use Rattle.nova_model.specs.Calls.{admitted, exit_admitted}
use Rattle.nova_model.specs.Capabilities.{call_right, control_right, down_right, event_right, is_ec, is_pt, is_sc, is_sm, named, up_right}
use Rattle.nova_model.specs.Deeds.{deed, deed_in, instruction, mark_in, ready, signalled, stepping}
use Rattle.nova_model.specs.Delegations.{covers}
use Rattle.nova_model.specs.Edges.{is_giving}
use Rattle.nova_model.specs.Exits.{exit_at, exit_portal, exit_to, exits}
use Rattle.nova_model.specs.Hypercalls.{and_then, called, deadline_after, downed_by, downed_within, hypercall, maker, makes, new_domain, or_refuses, replied, row, ticks_in, unless, unless_busy, upped_by}
use Rattle.nova_model.specs.Portals.{handler_of, identifier, ip_of, mtd_in}
use Rattle.nova_model.specs.Running.{is_revoked}
use Rattle.nova_model.specs.Semaphores.{answer_of, greatest, has, semaphore, woken, woken_of}
use Rattle.nova_model.specs.State.{KernelState, Semaphore, budget_at, context, context_at, context_in, event_base, is_local_thread, is_thread, message, pd_of, processor_of}
use Rattle.nova_model.specs.Times.{clock}
use Rattle.nova_model.specs.declared.admit.Admit.{Admit}
use Rattle.nova_model.specs.declared.admit.Admit.TheVariants.{Refused, Help, Send}
use Rattle.nova_model.specs.declared.admit.ExitAdmit.{ExitAdmit}
use Rattle.nova_model.specs.declared.admit.ExitAdmit.TheVariants as exit
use Rattle.nova_model.specs.declared.budget.Budget.{Budget}
use Rattle.nova_model.specs.declared.context.EcState.{EcState}
use Rattle.nova_model.specs.declared.context.Mark.{Mark}
use Rattle.nova_model.specs.declared.context.State.{State}
use Rattle.nova_model.specs.declared.context.State.TheVariants.{Calling, Exiting, Granting, Helping, Ready, Replying, Revoking, Sending}
use Rattle.nova_model.specs.declared.deed.Deed.{Deed}
use Rattle.nova_model.specs.declared.deed.Deed.TheVariants as deeds
use Rattle.nova_model.specs.declared.new_object.NewObject.{NewObject}
use Rattle.nova_model.specs.declared.new_object.NewObject.TheVariants as new
use Rattle.nova_model.specs.declared.semaphore.Down.{Down}
use Rattle.nova_model.specs.declared.semaphore.Down.TheVariants as down
use Rattle.nova_model.specs.declared.semaphore.Overflow as too
use Rattle.nova_model.specs.declared.times.Deadline.{Deadline}
use Rattle.law_turns.specs.Asked.{IsCalling}
use Rattle.law_integrity.specs.Rights.{Again, AtCall}
use Rattle.law_integrity.proofs.Confining.{waits_edge}
use Rattle.law_turns.specs.Revoking.{is_revoking}
use Rattle.law_flow.specs.Flow.{HasSameClock, IsAtWork, IsCallAtWork}
use Rattle.law_flow.proofs.Creating.{AreMaking, IsMadeOf, MadeOr, create_ec_same, create_pd_same, create_pt_same, create_sc_same, create_sm_same, ec_made, next_by, pt_made, sc_made}
use Rattle.law_flow.proofs.Seeing.{Both, admitted_same, base_same, caller_same, context_same, exit_admitted_same, handler_mine, handler_same, identifier_same, instruction_same, ip_same, local_same, message_same, mtd_same, named_mine, named_same, pd_same, processor_same, semaphore_same, thread_same, told_held, told_of}

-- CALLS

called_same : (k l : KernelState) (S P : ℕ → Type 0) → Both k l S P → (ec pt : ℕ) → P ec → S (pd_of k ec) → P pt → (a : Admit) → called l ec pt a ≡ called k ec pt a
called_same k l S P b ec pt p s q (Refused status) = refl
called_same k l S P b ec pt p s q Help = ap (λ (h : ℕ). Ok (deeds.Helps h)) (handler_same k l S P b pt q)
called_same k l S P b ec pt p s q Send =
    ap₂ (λ (h ip : ℕ). Ok (deeds.Calls h ip (identifier l pt) (has_items (message l ec)))) (handler_same k l S P b pt q) (ip_same k l S P b pt q)
    ∙ ap₂ (λ (n : ℕ) (m : List ℕ). Ok (deeds.Calls (handler_of k pt) (ip_of k pt) n (has_items m))) (identifier_same k l S P b pt q) (message_same k l S P b ec p s)

replied_same : (k l : KernelState) (S P : ℕ → Type 0) → Both k l S P → (ec : ℕ) → P ec → S (pd_of k ec) → (o : Option (ℕ × Mark)) → replied l ec o ≡ replied k ec o
replied_same k l S P b ec p s None = refl
replied_same k l S P b ec p s (Some (caller, mark)) = ap (λ (m : List ℕ). Ok (deeds.Replies caller mark (has_items m))) (message_same k l S P b ec p s)

ticks_same : (o p : Option Budget) → option_map (λ (b : Budget). b.ticks) o ≡ option_map (λ (b : Budget). b.ticks) p → ticks_in o ≡ ticks_in p
ticks_same None None h = refl
ticks_same None (Some c) h = absurd (cc)
ticks_same (Some b) None h = absurd (cc)
ticks_same (Some b) (Some c) h = let same : b.ticks ≡ c.ticks = cc in same

within_same : (sm ticks : ℕ) (d e : Deadline) (a : Down) → d ≡ e → downed_within sm ticks d a ≡ downed_within sm ticks e a
within_same sm ticks d e a same = ap (λ (x : Deadline). downed_within sm ticks x a) same

row_same : (revoking : Type 0) (k l : KernelState) (S P : ℕ → Type 0) → Both k l S P → (ec : ℕ) → P ec → S (pd_of k ec) → (c : Call) → IsCallAtWork (HasSameClock k l ec) revoking (AreMaking k l S P) (Ok c) →
    row l ec (pd_of k ec) c ≡ row k ec (pd_of k ec) c
row_same revoking k l S P b ec p s (asks.Call portal flag) works =
    ap₂ (λ (m : List ℕ) (o : Result ℕ Status). unless (not (has_counts m)) BadPar (and_then o (λ pt. called l ec pt (admitted l.contexts ec (handler_of l pt) flag))))
    (message_same k l S P b ec p s) (named_same k l S P b (pd_of k ec) is_pt call_right portal s)
    ∙ ap (unless (not (has_counts (message k ec))) BadPar) (next_by (named k (pd_of k ec) is_pt call_right portal) _ _ (λ pt is.
    let q = named_mine k l S P b (pd_of k ec) is_pt call_right portal pt s is in
    let h = handler_mine k l S P b (pd_of k ec) call_right portal pt s is in
    ap (λ (n : ℕ). called l ec pt (admitted l.contexts ec n flag)) (handler_same k l S P b pt q)
    ∙ ap (called l ec pt) (admitted_same k l S P b ec (handler_of k pt) flag p h)
    ∙ called_same k l S P b ec pt p s q (admitted k.contexts ec (handler_of k pt) flag)))
row_same revoking k l S P b ec p s asks.Reply works =
    ap₂ (λ (t : Bool) (m : List ℕ). unless (not t) BadPar (unless (not (has_counts m)) BadPar (replied l ec (context l ec).caller)))
    (local_same k l S P b ec p) (message_same k l S P b ec p s)
    ∙ ap (λ (r : Result Deed Status). unless (not (is_local_thread k ec)) BadPar (unless (not (has_counts (message k ec))) BadPar r))
    (ap (λ (x : EcState). replied l ec x.caller) (context_same k l S P b ec p s) ∙ replied_same k l S P b ec p s (context k ec).caller)
row_same revoking k l S P b ec p s (asks.Lookup range) works =
    ap (λ (o : Option (Range × Rights)). Ok (deeds.Tells LOOKUP (word_of o)))
    (told_held (find (covers range.kind (pd_of k ec) range.base) l.delegations.list)
    ∙ ap (option_map told_of) (b.alike.spaces range.kind (pd_of k ec) range.base s)
    ∙ sym (told_held (find (covers range.kind (pd_of k ec) range.base) k.delegations.list)))
row_same revoking k l S P b ec p s (asks.EcCtrl whose) works =
    ap (λ (o : Result ℕ Status). and_then o (λ n. Ok (deeds.Recalls n))) (named_same k l S P b (pd_of k ec) is_ec control_right whose s)
row_same revoking k l S P b ec p s (asks.ScCtrl sc) works =
    ap (λ (o : Result ℕ Status). and_then o (λ n. Ok (deeds.Tells SC_CTRL (ticks_in (budget_at l n))))) (named_same k l S P b (pd_of k ec) is_sc control_right sc s)
    ∙ next_by (named k (pd_of k ec) is_sc control_right sc) _ _ (λ n is.
    ap (λ (t : ℕ). Ok (deeds.Tells SC_CTRL t))
    (ticks_same (budget_at l n) (budget_at k n) (b.alike.ticks n (named_mine k l S P b (pd_of k ec) is_sc control_right sc n s is))))
row_same revoking k l S P b ec p s (asks.PtCtrl pt number) works =
    ap (λ (o : Result ℕ Status). and_then o (λ n. Ok (deeds.Names n number))) (named_same k l S P b (pd_of k ec) is_pt control_right pt s)
row_same revoking k l S P b ec p s (asks.SmCtrl sm act.Up) works =
    ap (λ (o : Result ℕ Status). and_then o (λ n. upped_by n (woken (semaphore l.semaphores n)))) (named_same k l S P b (pd_of k ec) is_sm up_right sm s)
    ∙ next_by (named k (pd_of k ec) is_sm up_right sm) _ _ (λ n is.
    ap (λ (x : Semaphore). upped_by n (woken x)) (semaphore_same k l S P b n (named_mine k l S P b (pd_of k ec) is_sm up_right sm n s is)))
row_same revoking k l S P b ec p s (asks.SmCtrl sm act.Down) works =
    ap (λ (o : Result ℕ Status). and_then o (λ n. Ok (downed_by n (answer_of (semaphore l.semaphores n))))) (named_same k l S P b (pd_of k ec) is_sm down_right sm s)
    ∙ next_by (named k (pd_of k ec) is_sm down_right sm) _ _ (λ n is.
    ap (λ (x : Semaphore). Ok (downed_by n (answer_of x))) (semaphore_same k l S P b n (named_mine k l S P b (pd_of k ec) is_sm down_right sm n s is)))
row_same revoking k l S P b ec p s (asks.SmCtrl sm (act.DownWithin ticks)) works =
    ap (λ (o : Result ℕ Status). and_then o (λ n. downed_within n ticks (deadline_after l ec n ticks) (answer_of (semaphore l.semaphores n)))) (named_same k l S P b (pd_of k ec) is_sm down_right sm s)
    ∙ next_by (named k (pd_of k ec) is_sm down_right sm) _ _ (λ n is.
    ap₂ (λ (x : Semaphore) (d : Deadline). downed_within n ticks d (answer_of x))
    (semaphore_same k l S P b n (named_mine k l S P b (pd_of k ec) is_sm down_right sm n s is)) (until n))
  where
    until : (n : ℕ) → deadline_after l ec n ticks ≡ deadline_after k ec n ticks
    until n =
        ap (λ (c : ℕ). record { cpu = c; sm = n; at = clock l.times c + 1 + ticks }) (processor_same k l S P b ec p)
        ∙ ap (λ (now : ℕ). record { cpu = processor_of k ec; sm = n; at = now + 1 + ticks }) works
row_same revoking k l S P b ec p s (asks.CreatePd target pd first) works = create_pd_same k l S P b works (pd_of k ec) target pd first s
row_same revoking k l S P b ec p s (asks.CreateEc target pd cpu kind sp event) works = create_ec_same k l S P b works (pd_of k ec) target pd cpu kind sp event s
row_same revoking k l S P b ec p s (asks.CreateSc target pd whose quantum priority) works = create_sc_same k l S P b works (pd_of k ec) target pd whose quantum priority s
row_same revoking k l S P b ec p s (asks.CreatePt target pd handler mtd ip) works = create_pt_same k l S P b works (pd_of k ec) target pd handler mtd.0 ip s
row_same revoking k l S P b ec p s (asks.CreateSm target pd count) works = create_sm_same k l S P b works (pd_of k ec) target pd count s
row_same revoking k l S P b ec p s (asks.Revoke range own) works = refl

hypercall_same : (revoking : Type 0) (k l : KernelState) (S P : ℕ → Type 0) → Both k l S P → (ec : ℕ) → P ec → S (pd_of k ec) → IsCallAtWork (HasSameClock k l ec) revoking (AreMaking k l S P) (call_of (context k ec).regs) →
    hypercall l ec (pd_of l ec) (context l ec).regs ≡ hypercall k ec (pd_of k ec) (context k ec).regs
hypercall_same revoking k l S P b ec p s works =
    ap₂ (λ (pd : ℕ) (x : EcState). hypercall l ec pd x.regs) (pd_same k l S P b ec p) (context_same k l S P b ec p s)
    ∙ ap (or_refuses (reg (context k ec).regs 17)) (by_call (call_of (context k ec).regs) works)
  where
    by_call : (o : Result Call Status) → IsCallAtWork (HasSameClock k l ec) revoking (AreMaking k l S P) o → and_then o (row l ec (pd_of k ec)) ≡ and_then o (row k ec (pd_of k ec))
    by_call (Err status) is = refl
    by_call (Ok c) is = row_same revoking k l S P b ec p s c is

-- EXITS

to_same : (k l : KernelState) (S P : ℕ → Type 0) → Both k l S P → (pt reason q0 q1 : ℕ) → P pt → (a : ExitAdmit) → exit_to l pt reason q0 q1 a ≡ exit_to k pt reason q0 q1 a
to_same k l S P b pt reason q0 q1 q exit.Dies = refl
to_same k l S P b pt reason q0 q1 q exit.Waits = ap (λ (h : ℕ). deeds.Waits h reason q0 q1) (handler_same k l S P b pt q)
to_same k l S P b pt reason q0 q1 q exit.Sends =
    ap₂ (λ (h ip : ℕ). deeds.Sends h ip (identifier l pt) (record { 0 = mtd_in (slice_get l.objects pt) }) reason q0 q1) (handler_same k l S P b pt q) (ip_same k l S P b pt q)
    ∙ ap₂ (λ (n m : ℕ). deeds.Sends (handler_of k pt) (ip_of k pt) n (record { 0 = m }) reason q0 q1) (identifier_same k l S P b pt q) (mtd_same k l S P b pt q)

exits_same : (k l : KernelState) (S P : ℕ → Type 0) → Both k l S P → (ec reason q0 q1 : ℕ) → P ec → S (pd_of k ec) → exits l ec reason q0 q1 ≡ exits k ec reason q0 q1
exits_same k l S P b ec reason q0 q1 p s =
    ap (exit_at l ec reason q0 q1)
    (ap₂ (λ (pd base : ℕ). named l pd is_pt event_right (plus base reason)) (pd_same k l S P b ec p) (base_same k l S P b ec p)
    ∙ named_same k l S P b (pd_of k ec) is_pt event_right (plus (event_base k ec) reason) s)
    ∙ by_portal (exit_portal k ec reason) refl
  where
    by_portal : (o : Result ℕ Status) → exit_portal k ec reason ≡ o → exit_at l ec reason q0 q1 o ≡ exit_at k ec reason q0 q1 o
    by_portal (Err status) is = refl
    by_portal (Ok pt) is =
        let q = named_mine k l S P b (pd_of k ec) is_pt event_right (plus (event_base k ec) reason) pt s is in
        let h = handler_mine k l S P b (pd_of k ec) event_right (plus (event_base k ec) reason) pt s is in
        ap (λ (n : ℕ). exit_to l pt reason q0 q1 (exit_admitted l.contexts ec n)) (handler_same k l S P b pt q)
        ∙ ap (exit_to l pt reason q0 q1) (exit_admitted_same k l S P b ec (handler_of k pt) p h)
        ∙ to_same k l S P b pt reason q0 q1 q (exit_admitted k.contexts ec (handler_of k pt))

-- THE DEED

-- a thread that is ready, and whose next instruction is a hypercall, asks
calling : (k : KernelState) (ec reason q0 q1 : ℕ) → (context k ec).state ≡ Ready → (context k ec).recall ≡ false → instruction k ec ≡ Raised reason q0 q1 →
    ((reason == environment_call) && is_thread k ec) ≡ true → IsCalling k ec
calling k ec reason q0 q1 state none at h =
    let parts = and_parts (reason == environment_call) (is_thread k ec) h in
    record {
      state = state;
      recall = none;
      thread = parts.1;
      q0 = q0;
      q1 = q1;
      raises = at ∙ ap (λ (n : ℕ). Raised n q0 q1) (eqb-true reason environment_call parts.0);
    }

in_same : (giving revoking : Type 0) (k l : KernelState) (S P : ℕ → Type 0) → Both k l S P → (ec : ℕ) → P ec → S (pd_of k ec) → IsAtWork (HasSameClock k l ec) giving revoking (AreMaking k l S P) k ec → (t : State) → (context k ec).state ≡ t →
    is_giving t ≡ false → is_revoking t ≡ false → deed_in l ec t ≡ deed_in k ec t
in_same giving revoking k l S P b ec p s works Ready is none_given unrevoking =
    ap (λ (x : EcState). ready l ec x.recall) (context_same k l S P b ec p s) ∙ by_recall (context k ec).recall refl
  where
    by_signal : (context k ec).recall ≡ false → (reason q0 q1 : ℕ) → instruction k ec ≡ Raised reason q0 q1 → (t : Bool) → ((reason == environment_call) && is_thread k ec) ≡ t →
        signalled l ec reason q0 q1 t ≡ signalled k ec reason q0 q1 t
    by_signal none reason q0 q1 at false h = refl
    by_signal none reason q0 q1 at true h = hypercall_same revoking k l S P b ec p s (works.calls (AtCall (calling k ec reason q0 q1 is none at h)))

    by_once : (context k ec).recall ≡ false → (o : Once) → instruction k ec ≡ o → stepping l ec o ≡ stepping k ec o
    by_once none (Went regs store) at = refl
    by_once none (Raised reason q0 q1) at =
        ap (λ (t : Bool). signalled l ec reason q0 q1 ((reason == environment_call) && t)) (thread_same k l S P b ec p)
        ∙ by_signal none reason q0 q1 at ((reason == environment_call) && is_thread k ec) refl

    by_recall : (t : Bool) → (context k ec).recall ≡ t → ready l ec t ≡ ready k ec t
    by_recall true recalled = refl
    by_recall false none = ap (stepping l ec) (instruction_same k l S P b ec p s) ∙ by_once none (instruction k ec) refl
in_same giving revoking k l S P b ec p s works (Exiting reason q0 q1) is none_given unrevoking = exits_same k l S P b ec reason q0 q1 p s
in_same giving revoking k l S P b ec p s works (Sending reason q0 q1 handler) is none_given unrevoking = exits_same k l S P b ec reason q0 q1 p s
in_same giving revoking k l S P b ec p s works (Calling handler) is none_given unrevoking =
    ap (λ (o : Option (ℕ × Mark)). deeds.Aborts handler (mark_in o)) (caller_same k l S P b handler (b.side.edges ec handler p (waits_edge k ec handler is)))
in_same giving revoking k l S P b ec p s works (Helping handler) is none_given unrevoking = hypercall_same revoking k l S P b ec p s (works.calls (Again handler is))
in_same giving revoking k l S P b ec p s works (Granting new) is none_given unrevoking = absurd (cc)
in_same giving revoking k l S P b ec p s works Replying is none_given unrevoking = absurd (cc)
in_same giving revoking k l S P b ec p s works (Revoking range own) is none_given unrevoking = absurd (cc)
in_same giving revoking k l S P b ec p s works other is none_given unrevoking = refl

-- one that gives no items and takes nothing away does the same
pub deed_same : (giving revoking : Type 0) (k l : KernelState) (S P : ℕ → Type 0) → Both k l S P → (ec : ℕ) → P ec → S (pd_of k ec) → IsAtWork (HasSameClock k l ec) giving revoking (AreMaking k l S P) k ec → is_giving (context k ec).state ≡ false → is_revoking (context k ec).state ≡ false → deed l ec ≡ deed k ec
unfolding deed
deed_same giving revoking k l S P b ec p s works none_given unrevoking =
    ap (λ (x : EcState). deed_in l ec x.state) (context_same k l S P b ec p s) ∙ in_same giving revoking k l S P b ec p s works (context k ec).state refl none_given unrevoking

-- TO WHOM IT IS DONE

-- The deed makes no object, and makes and takes away no derivation; and whom it calls, waits for, recalls, wakes or answers is of the side.
abbrev pub IsOwn : Type 0 → (ℕ → Type 0) → Deed → Type 0
IsOwn timed P (deeds.Waits handler reason q0 q1) = P handler
IsOwn timed P (deeds.Sends handler ip number mtd reason q0 q1) = P handler
IsOwn timed P (deeds.Calls handler ip number items) = P handler
IsOwn timed P (deeds.Helps handler) = P handler
IsOwn timed P (deeds.Recalls whose) = P whose
IsOwn timed P (deeds.Names pt number) = P pt
IsOwn timed P (deeds.Replies caller mark items) = P caller
IsOwn timed P (deeds.Ups sm None) = P sm
IsOwn timed P (deeds.Ups sm (Some w)) = P sm × P w
IsOwn timed P (deeds.Downs sm) = P sm
IsOwn timed P (deeds.Blocks sm None) = P sm
IsOwn timed P (deeds.Blocks sm (Some until)) = P sm × timed
IsOwn timed P (deeds.Makes call target made) = ⊥
IsOwn timed P (deeds.Opens target domain) = ⊥
IsOwn timed P (deeds.Gives child cursor) = ⊥
IsOwn timed P (deeds.Removes leaf) = ⊥
IsOwn timed P other = Unit {0}

-- or it makes an object, of what is of the side
abbrev pub MayDo : Type 0 → Type 0 → (ℕ → Type 0) → Deed → Type 0
MayDo timed creating P (deeds.Makes call target made) = creating × IsMadeOf P made
MayDo timed creating P (deeds.Opens target domain) = creating
MayDo timed creating P other = IsOwn timed P other

abbrev OwnOr : Type 0 → Type 0 → (ℕ → Type 0) → Result Deed Status → Type 0
OwnOr timed creating P (Ok d) = MayDo timed creating P d
OwnOr timed creating P (Err status) = Unit {0}

next_own : {A : Type 0} (timed creating : Type 0) (P : ℕ → Type 0) (o : Result A Status) (f : A → Result Deed Status) → ((x : A) → o ≡ Ok x → OwnOr timed creating P (f x)) → OwnOr timed creating P (and_then o f)
next_own timed creating P (Err status) f own = tt
next_own timed creating P (Ok x) f own = own x refl

unless_own : (timed creating : Type 0) (P : ℕ → Type 0) (t : Bool) (status : Status) (r : Result Deed Status) → OwnOr timed creating P r → OwnOr timed creating P (unless t status r)
unless_own timed creating P true status r own = tt
unless_own timed creating P false status r own = own

called_own : (timed creating : Type 0) (k : KernelState) (P : ℕ → Type 0) (ec pt : ℕ) → P (handler_of k pt) → (a : Admit) → OwnOr timed creating P (called k ec pt a)
called_own timed creating k P ec pt h (Refused status) = tt
called_own timed creating k P ec pt h Help = h
called_own timed creating k P ec pt h Send = h

makes_own : (timed creating : Type 0) (k : KernelState) (P : ℕ → Type 0) → creating → (domain call target pd : ℕ) (its : ℕ → Result NewObject Status) → ((owner : ℕ) → MadeOr P (its owner)) →
    OwnOr timed creating P (makes k domain call target pd its)
makes_own timed creating k P creates domain call target pd its each = next_own timed creating P (maker k domain target pd) _ (λ owner is. by_new (its owner) (each owner))
  where
    by_new : (o : Result NewObject Status) → MadeOr P o → OwnOr timed creating P (and_then o (λ made. unless_busy k domain target (deeds.Makes call target made)))
    by_new (Err status) m = tt
    by_new (Ok made) m = unless_own timed creating P (is_revoked k domain target) Busy _ (creates, m)

row_own : (timed revoking creating : Type 0) (k l : KernelState) (S P : ℕ → Type 0) → Both k l S P → (ec : ℕ) → P ec → S (pd_of k ec) → (c : Call) → IsCallAtWork timed revoking creating (Ok c) → OwnOr timed creating P (row k ec (pd_of k ec) c)
row_own timed revoking creating k l S P b ec p s (asks.Call portal flag) works =
    unless_own timed creating P (not (has_counts (message k ec))) BadPar _ (next_own timed creating P (named k (pd_of k ec) is_pt call_right portal) _ (λ pt is.
    called_own timed creating k P ec pt (handler_mine k l S P b (pd_of k ec) call_right portal pt s is) (admitted k.contexts ec (handler_of k pt) flag)))
row_own timed revoking creating k l S P b ec p s asks.Reply works =
    unless_own timed creating P (not (is_local_thread k ec)) BadPar _ (unless_own timed creating P (not (has_counts (message k ec))) BadPar _ (by_caller (context k ec).caller (serves_mine k l S P b ec p)))
  where
    by_caller : (o : Option (ℕ × Mark)) → ((caller : ℕ) (mark : Mark) → o ≡ Some (caller, mark) → P caller) → OwnOr timed creating P (replied k ec o)
    by_caller None mine = tt
    by_caller (Some (caller, mark)) mine = mine caller mark refl

    serves_mine : (k l : KernelState) (S P : ℕ → Type 0) → Both k l S P → (ec : ℕ) → P ec → (caller : ℕ) (mark : Mark) → (context k ec).caller ≡ Some (caller, mark) → P caller
    serves_mine k l S P b ec p caller mark is = b.side.callers ec caller mark p (by_entry (context_at k ec) is)
      where
        by_entry : (o : Option EcState) → (context_in o).caller ≡ Some (caller, mark) →
            option_and_then (λ (x : EcState). x.caller) o ≡ Some (caller, mark)
        by_entry None h = absurd (cc)
        by_entry (Some x) h = h
row_own timed revoking creating k l S P b ec p s (asks.Lookup range) works = tt
row_own timed revoking creating k l S P b ec p s (asks.EcCtrl whose) works =
    next_own timed creating P (named k (pd_of k ec) is_ec control_right whose) _ (λ n is. named_mine k l S P b (pd_of k ec) is_ec control_right whose n s is)
row_own timed revoking creating k l S P b ec p s (asks.ScCtrl sc) works = next_own timed creating P (named k (pd_of k ec) is_sc control_right sc) _ (λ n is. tt)
row_own timed revoking creating k l S P b ec p s (asks.PtCtrl pt number) works =
    next_own timed creating P (named k (pd_of k ec) is_pt control_right pt) _ (λ n is. named_mine k l S P b (pd_of k ec) is_pt control_right pt n s is)
row_own timed revoking creating k l S P b ec p s (asks.SmCtrl sm act.Up) works =
    next_own timed creating P (named k (pd_of k ec) is_sm up_right sm) _ (λ n is.
    by_queue n (named_mine k l S P b (pd_of k ec) is_sm up_right sm n s is) (semaphore k.semaphores n).count (semaphore k.semaphores n).waiting (b.side.queues n))
  where
    by_queue : (n : ℕ) → P n → (count : ℕ) (queue : List ℕ) → ((w : ℕ) → P n → has queue w ≡ true → P w) → OwnOr timed creating P (upped_by n (woken_of count queue))
    by_queue n q count [] mine = by_count (count == greatest)
      where
        by_count : (t : Bool) → OwnOr timed creating P (upped_by n (if◌then◌else◌ {A = Result (Option ℕ) too.Overflow} t (Err (record {})) (Ok None)))
        by_count true = tt
        by_count false = q
    by_queue n q count (w ∷ queue) mine = (q, mine w q (grind (arith)))
row_own timed revoking creating k l S P b ec p s (asks.SmCtrl sm act.Down) works =
    next_own timed creating P (named k (pd_of k ec) is_sm down_right sm) _ (λ n is.
    by_answer n (named_mine k l S P b (pd_of k ec) is_sm down_right sm n s is) (answer_of (semaphore k.semaphores n)))
  where
    by_answer : (n : ℕ) → P n → (a : Down) → MayDo timed creating P (downed_by n a)
    by_answer n q down.Done = q
    by_answer n q down.Blocked = q
row_own timed revoking creating k l S P b ec p s (asks.SmCtrl sm (act.DownWithin ticks)) works =
    next_own timed creating P (named k (pd_of k ec) is_sm down_right sm) _ (λ n is.
    by_answer n (named_mine k l S P b (pd_of k ec) is_sm down_right sm n s is) (answer_of (semaphore k.semaphores n)))
  where
    by_answer : (n : ℕ) → P n → (a : Down) → OwnOr timed creating P (downed_within n ticks (deadline_after k ec n ticks) a)
    by_answer n q down.Done = q
    by_answer n q down.Blocked = unless_own timed creating P (ticks == 0) Timeout _ (q, works)
row_own timed revoking creating k l S P b ec p s (asks.CreatePd target pd first) works =
    next_own timed creating P (maker k (pd_of k ec) target pd) _ (λ owner is. unless_own timed creating P (is_revoked k (pd_of k ec) target) Busy _ (by_first first))
  where
    by_first : (first : Option (Range × Rights)) → MayDo timed creating P (new_domain k target first)
    by_first None = (works, tt)
    by_first (Some range) = works
row_own timed revoking creating k l S P b ec p s (asks.CreateEc target pd cpu kind sp event) works =
    makes_own timed creating k P works (pd_of k ec) CREATE_EC target pd _ (λ owner. ec_made k P owner cpu kind sp event)
row_own timed revoking creating k l S P b ec p s (asks.CreateSc target pd whose quantum priority) works =
    makes_own timed creating k P works (pd_of k ec) CREATE_SC target pd _ (λ owner. sc_made k l S P b (pd_of k ec) whose quantum priority s)
row_own timed revoking creating k l S P b ec p s (asks.CreatePt target pd handler mtd ip) works =
    makes_own timed creating k P works (pd_of k ec) CREATE_PT target pd _ (λ owner. pt_made k l S P b (pd_of k ec) handler mtd.0 ip s)
row_own timed revoking creating k l S P b ec p s (asks.CreateSm target pd count) works = makes_own timed creating k P works (pd_of k ec) CREATE_SM target pd (λ owner. Ok (new.Sm count)) (λ owner. tt)
row_own timed revoking creating k l S P b ec p s (asks.Revoke range own) works = tt

hypercall_own : (timed revoking creating : Type 0) (k l : KernelState) (S P : ℕ → Type 0) → Both k l S P → (ec : ℕ) → P ec → S (pd_of k ec) → IsCallAtWork timed revoking creating (call_of (context k ec).regs) →
    MayDo timed creating P (hypercall k ec (pd_of k ec) (context k ec).regs)
hypercall_own timed revoking creating k l S P b ec p s works =
    by_answer (and_then (call_of (context k ec).regs) (row k ec (pd_of k ec))) (by_call (call_of (context k ec).regs) works)
  where
    by_answer : (r : Result Deed Status) → OwnOr timed creating P r → MayDo timed creating P (or_refuses (reg (context k ec).regs 17) r)
    by_answer (Ok d) own = own
    by_answer (Err status) own = tt

    by_call : (o : Result Call Status) → IsCallAtWork timed revoking creating o → OwnOr timed creating P (and_then o (row k ec (pd_of k ec)))
    by_call (Err status) is = tt
    by_call (Ok c) is = row_own timed revoking creating k l S P b ec p s c is

exits_own : (timed creating : Type 0) (k l : KernelState) (S P : ℕ → Type 0) → Both k l S P → (ec reason q0 q1 : ℕ) → P ec → S (pd_of k ec) → MayDo timed creating P (exits k ec reason q0 q1)
exits_own timed creating k l S P b ec reason q0 q1 p s = by_portal (exit_portal k ec reason) refl
  where
    by_admit : (pt : ℕ) → P (handler_of k pt) → (a : ExitAdmit) → MayDo timed creating P (exit_to k pt reason q0 q1 a)
    by_admit pt h exit.Dies = tt
    by_admit pt h exit.Waits = h
    by_admit pt h exit.Sends = h

    by_portal : (o : Result ℕ Status) → exit_portal k ec reason ≡ o → MayDo timed creating P (exit_at k ec reason q0 q1 o)
    by_portal (Err status) is = tt
    by_portal (Ok pt) is =
        by_admit pt (handler_mine k l S P b (pd_of k ec) event_right (plus (event_base k ec) reason) pt s is) (exit_admitted k.contexts ec (handler_of k pt))

in_own : (timed giving revoking creating : Type 0) (k l : KernelState) (S P : ℕ → Type 0) → Both k l S P → (ec : ℕ) → P ec → S (pd_of k ec) → IsAtWork timed giving revoking creating k ec → (t : State) → (context k ec).state ≡ t →
    is_giving t ≡ false → is_revoking t ≡ false → MayDo timed creating P (deed_in k ec t)
in_own timed giving revoking creating k l S P b ec p s works Ready is none_given unrevoking = by_recall (context k ec).recall refl
  where
    by_signal : (context k ec).recall ≡ false → (reason q0 q1 : ℕ) → instruction k ec ≡ Raised reason q0 q1 → (t : Bool) → ((reason == environment_call) && is_thread k ec) ≡ t →
        MayDo timed creating P (signalled k ec reason q0 q1 t)
    by_signal none reason q0 q1 at false h = tt
    by_signal none reason q0 q1 at true h = hypercall_own timed revoking creating k l S P b ec p s (works.calls (AtCall (calling k ec reason q0 q1 is none at h)))

    by_once : (context k ec).recall ≡ false → (o : Once) → instruction k ec ≡ o → MayDo timed creating P (stepping k ec o)
    by_once none (Went regs store) at = tt
    by_once none (Raised reason q0 q1) at = by_signal none reason q0 q1 at ((reason == environment_call) && is_thread k ec) refl

    by_recall : (t : Bool) → (context k ec).recall ≡ t → MayDo timed creating P (ready k ec t)
    by_recall true recalled = tt
    by_recall false none = by_once none (instruction k ec) refl
in_own timed giving revoking creating k l S P b ec p s works (Exiting reason q0 q1) is none_given unrevoking = exits_own timed creating k l S P b ec reason q0 q1 p s
in_own timed giving revoking creating k l S P b ec p s works (Sending reason q0 q1 handler) is none_given unrevoking = exits_own timed creating k l S P b ec reason q0 q1 p s
in_own timed giving revoking creating k l S P b ec p s works (Helping handler) is none_given unrevoking = hypercall_own timed revoking creating k l S P b ec p s (works.calls (Again handler is))
in_own timed giving revoking creating k l S P b ec p s works (Granting new) is none_given unrevoking = absurd (cc)
in_own timed giving revoking creating k l S P b ec p s works Replying is none_given unrevoking = absurd (cc)
in_own timed giving revoking creating k l S P b ec p s works (Revoking range own) is none_given unrevoking = absurd (cc)
in_own timed giving revoking creating k l S P b ec p s works other is none_given unrevoking = tt

pub deed_own : (timed giving revoking creating : Type 0) (k l : KernelState) (S P : ℕ → Type 0) → Both k l S P → (ec : ℕ) → P ec → S (pd_of k ec) → IsAtWork timed giving revoking creating k ec → is_giving (context k ec).state ≡ false → is_revoking (context k ec).state ≡ false → MayDo timed creating P (deed k ec)
unfolding deed
deed_own timed giving revoking creating k l S P b ec p s works none_given unrevoking = in_own timed giving revoking creating k l S P b ec p s works (context k ec).state refl none_given unrevoking
