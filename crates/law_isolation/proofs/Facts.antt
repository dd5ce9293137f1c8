-- What the law asks of a deed holds of the deed of each execution context.
use Rattle.std.proofs.Common.{◌≡◌, ℕ, ◌+◌, ◌≢◌, List, [], ◌∷◌, ap, sym, ◌∙◌, subst, refl}
use Rattle.std.specs.Prelude.{Bool, true, false, not, ◌==◌, nat_lt, Option, Some, None, option_map, if◌then◌else◌, Result, Ok, Err}
use Rattle.std.proofs.lemmas.Bool.{eq-eqb}
use Rattle.std.proofs.lemmas.Option.{same_Some}
use Rattle.nova_calls.specs.declared.call.Call.{Call}
use Rattle.nova_calls.specs.declared.call.Call.TheVariants as asks
use Rattle.nova_calls.specs.declared.numbers.TheConstants.{CREATE_SM}
use Rattle.nova_range.specs.declared.range.Range.{Range}
use Rattle.nova_range.specs.declared.rights.Rights.{Rights}
use Rattle.nova_range.specs.declared.status.Status.{Status}
use Rattle.nova_range.specs.declared.status.Status.TheVariants.{Busy}
use Rattle.nova_utcb.specs.Messages.{has_counts}
use Rattle.nova_model.specs.Calls.{admitted}
use Rattle.nova_model.specs.Capabilities.{call_right, control_right, event_right, is_ec, is_pt, is_sc, named}
use Rattle.nova_model.specs.Deeds.{deed}
use Rattle.nova_model.specs.Deliveries.{delivery, delivery_between, finished, first_delivery, flag, given_to, taken_from, told_by, words_for}
use Rattle.nova_model.specs.Edges.{caller_in, is_dead, state_in, is_asking}
use Rattle.nova_model.specs.Hypercalls.{and_then, call, called, create_pd, maker, makes, new_domain, replied, reply, row, unless, unless_busy}
use Rattle.nova_model.specs.Portals.{handler_of}
use Rattle.nova_model.specs.Running.{is_revoked}
use Rattle.nova_model.specs.Semaphores.{has, semaphore, waits, woken, woken_of, greatest}
use Rattle.nova_model.specs.State.{KernelState, context, context_at, context_in, is_local_thread, message, pd_of, transfer}
use Rattle.nova_model.specs.Views.{guest_state}
use Rattle.nova_model.specs.declared.admit.Admit.{Admit}
use Rattle.nova_model.specs.declared.admit.Admit.TheVariants.{Refused, Help, Send}
use Rattle.nova_model.specs.declared.context.EcState.{EcState}
use Rattle.nova_model.specs.declared.context.Mark.{Mark}
use Rattle.nova_model.specs.declared.context.Mark.TheVariants as mark
use Rattle.nova_model.specs.declared.context.State.{State}
use Rattle.nova_model.specs.declared.context.State.TheVariants.{Blocked, Calling, Dead, Exiting, Fresh, Granting, Helping, Parked, Ready, Replying, Revoking, Sending}
use Rattle.nova_model.specs.declared.deed.Deed.{Deed}
use Rattle.nova_model.specs.declared.deed.Deed.TheVariants.{Finishes, Makes, Ups}
use Rattle.nova_model.specs.declared.new_object.NewObject.{NewObject}
use Rattle.nova_model.specs.declared.new_object.NewObject.TheVariants as new
use Rattle.nova_model.specs.declared.semaphore.Overflow.{Overflow}
use Rattle.nova_model.specs.declared.transfer.Delivery.{Delivery}
use Rattle.nova_model.specs.declared.transfer.ItemEnd.{ItemEnd}
use Rattle.nova_model.specs.declared.transfer.Sequel.{Sequel}
use Rattle.nova_model.specs.declared.transfer.Sequel.TheVariants as sequel
use Rattle.law_forest.proofs.Leaves.{leaf_facts}
use Rattle.law_forest.proofs.Walk.{IfDone, deed_holds, sm_ctrl_holds}
use Rattle.law_isolation.proofs.Premises.{HasPremises, IsGuest, IsGuestState}
use Rattle.law_isolation.proofs.Unseen.{Facts, WaitsFor}
use Rattle.law_isolation.proofs.OwnTurns.{caller_of, handler_apart, state_in_there, thread_apart}

-- what comes after an answer, or after a condition
then_holds : {A : Type 0} (P : Deed → Type 0) (o : Result A Status) (f : A → Result Deed Status) → ((x : A) → o ≡ Ok x → IfDone P (f x)) → IfDone P (and_then o f)
then_holds P (Ok x) f h = h x refl
then_holds P (Err status) f h = tt

unless_holds : (P : Deed → Type 0) (t : Bool) (status : Status) (rest : Result Deed Status) → IfDone P rest → IfDone P (unless t status rest)
unless_holds P true status rest h = tt
unless_holds P false status rest h = h

makes_holds : (k : KernelState) (g domain call target pd_selector : ℕ) (new : ℕ → Result NewObject Status) → IfDone (Facts k g) (makes k domain call target pd_selector new)
makes_holds k g domain call target pd_selector new =
    then_holds (Facts k g) (maker k domain target pd_selector) _ (λ owner is. then_holds (Facts k g) (new owner) (λ made. unless_busy k domain target (Makes call target made))
    (λ made made_is. unless_holds (Facts k g) (is_revoked k domain target) Busy (Ok (Makes call target made)) tt))

create_pd_holds : (k : KernelState) (g domain target pd_selector : ℕ) (first : Option (Range × Rights)) → IfDone (Facts k g) (create_pd k domain target pd_selector first)
create_pd_holds k g domain target pd_selector first =
    then_holds (Facts k g) (maker k domain target pd_selector) _
    (λ owner is. unless_holds (Facts k g) (is_revoked k domain target) Busy (Ok (new_domain k target first)) (by_first first))
  where
    by_first : (f : Option (Range × Rights)) → Facts k g (new_domain k target f)
    by_first None = tt
    by_first (Some range) = tt

-- a call goes to a thread
call_holds : (k : KernelState) (ec g selector : ℕ) (flag : Bool) → HasPremises k → IsGuest k g → IfDone (Facts k g) (call k ec (pd_of k ec) selector flag)
call_holds k ec g selector flag sound is =
    unless_holds (Facts k g) (not (has_counts (message k ec))) _ _ (then_holds (Facts k g) (named k (pd_of k ec) is_pt call_right selector) _
    (λ pt portal. by_admit pt portal (admitted k.contexts ec (handler_of k pt) flag)))
  where
    by_admit : (pt : ℕ) → named k (pd_of k ec) is_pt call_right selector ≡ Ok pt → (a : Admit) → IfDone (Facts k g) (called k ec pt a)
    by_admit pt portal (Refused status) = tt
    by_admit pt portal Help = tt
    by_admit pt portal Send = handler_apart k (pd_of k ec) call_right selector pt g sound is portal

-- a handler that replies lives, and its caller waits for it
lives : (k : KernelState) (ec : ℕ) → is_dead (Some (context k ec).state) ≡ false → is_dead (state_in k.contexts ec) ≡ false
lives k ec h = by_entry (context_at k ec) h
  where
    by_entry : (o : Option EcState) → is_dead (Some (context_in o).state) ≡ false → is_dead (option_map (λ x. x.state) o) ≡ false
    by_entry (Some x) h = h
    by_entry None h = refl

asking_lives : (s : State) → is_asking s ≡ true → is_dead (Some s) ≡ false
asking_lives Ready h = refl
asking_lives (Helping handler) h = refl
asking_lives other h = absurd (cc)

caller_waits : (k : KernelState) (ec g caller : ℕ) (came : Mark) → HasPremises k → IsGuest k g → is_dead (Some (context k ec).state) ≡ false → (context k ec).caller ≡ Some (caller, came) →
    WaitsFor k g caller came
caller_waits k ec g caller came sound is alive keeps own = (by_mark came kept, ap guest_state waits)
  where
    kept : caller_in k.contexts ec ≡ Some (g, came)
    kept = sym (caller_of k ec) ∙ (keeps ∙ ap (λ (n : ℕ). Some (n, came)) own)

    by_mark : (m : Mark) → caller_in k.contexts ec ≡ Some (g, m) → m ≡ mark.Exit
    by_mark mark.Exit h = refl
    by_mark mark.Call h = absurd (thread_apart k g g is (sound.called g ec h) refl)

    waits : (context k g).state ≡ Calling ec
    waits = same_Some (context k g).state (Calling ec) (sym (state_in_there k g is.there) ∙ sound.waited g ec came kept (lives k ec alive))

reply_holds : (k : KernelState) (ec g : ℕ) → HasPremises k → IsGuest k g → is_asking (context k ec).state ≡ true → IfDone (Facts k g) (reply k ec)
reply_holds k ec g sound is asking =
    unless_holds (Facts k g) (not (is_local_thread k ec)) _ _ (unless_holds (Facts k g) (not (has_counts (message k ec))) _ _ (by_caller (context k ec).caller refl))
  where
    by_caller : (c : Option (ℕ × Mark)) → (context k ec).caller ≡ c → IfDone (Facts k g) (replied k ec c)
    by_caller None keeps = tt
    by_caller (Some c) keeps = caller_waits k ec g c.0 c.1 sound is (asking_lives (context k ec).state asking) keeps

-- a context that waits at a semaphore is no virtual CPU
blocked_apart : (k : KernelState) (sm w g : ℕ) → HasPremises k → IsGuest k g → waits k.semaphores sm w ≡ true → w ≢ g
blocked_apart k sm w g sound is wait own =
    subst IsGuestState (same_Some (context k g).state (Blocked sm) (sym (state_in_there k g is.there) ∙ (ap (state_in k.contexts) (sym own) ∙ sound.blocked sm w wait))) is.runs

first_waits : (count : ℕ) (ecs : List ℕ) (w : ℕ) → woken_of count ecs ≡ Ok (Some w) → has ecs w ≡ true
first_waits count [] w h = by_count (count == greatest) h
  where
    by_count : (t : Bool) → ◌≡◌ {A = Result (Option ℕ) Overflow} (if t then Err (record {}) else Ok None) (Ok (Some w)) → false ≡ true
    by_count true e = absurd (cc)
    by_count false e = absurd (cc)
first_waits count (ec ∷ ecs) w h = let same : ec ≡ w = cc in rw (eq-eqb w ec (sym same)) refl

ups_hold : (k : KernelState) (g sm : ℕ) (whom : Option ℕ) → HasPremises k → IsGuest k g → woken (semaphore k.semaphores sm) ≡ Ok whom → Facts k g (Ups sm whom)
ups_hold k g sm None sound is wakes = tt
ups_hold k g sm (Some w) sound is wakes =
    blocked_apart k sm w g sound is (first_waits (semaphore k.semaphores sm).count (semaphore k.semaphores sm).waiting w wakes)

-- each row
row_holds : (k : KernelState) (ec g : ℕ) → HasPremises k → IsGuest k g → is_asking (context k ec).state ≡ true → (c : Call) → IfDone (Facts k g) (row k ec (pd_of k ec) c)
row_holds k ec g sound is asking (asks.Call portal flag) = call_holds k ec g portal flag sound is
row_holds k ec g sound is asking asks.Reply = reply_holds k ec g sound is asking
row_holds k ec g sound is asking (asks.CreatePd target pd first) = create_pd_holds k g (pd_of k ec) target pd first
row_holds k ec g sound is asking (asks.CreateEc target pd cpu kind sp event) = makes_holds k g (pd_of k ec) _ target pd _
row_holds k ec g sound is asking (asks.CreateSc target pd whose quantum priority) = makes_holds k g (pd_of k ec) _ target pd _
row_holds k ec g sound is asking (asks.CreatePt target pd handler mtd ip) = makes_holds k g (pd_of k ec) _ target pd _
row_holds k ec g sound is asking (asks.CreateSm target pd count) = makes_holds k g (pd_of k ec) CREATE_SM target pd (λ owner. Ok (new.Sm count))
row_holds k ec g sound is asking (asks.EcCtrl whose) = then_holds (Facts k g) (named k (pd_of k ec) is_ec control_right whose) _ (λ n h. tt)
row_holds k ec g sound is asking (asks.ScCtrl sc) = then_holds (Facts k g) (named k (pd_of k ec) is_sc control_right sc) _ (λ n h. tt)
row_holds k ec g sound is asking (asks.PtCtrl pt identifier) = then_holds (Facts k g) (named k (pd_of k ec) is_pt control_right pt) _ (λ n h. tt)
row_holds k ec g sound is asking (asks.SmCtrl sm action) =
    sm_ctrl_holds (Facts k g) k ec (pd_of k ec) sm action (λ n whom h wakes. ups_hold k g n whom sound is wakes) (λ n h answers. tt) (λ n until h answers till. tt)
row_holds k ec g sound is asking other = tt

-- the end of an item
ends_hold : (k : KernelState) (ec g item : ℕ) (end : ItemEnd) (answer : ℕ) (v : Delivery) → HasPremises k → IsGuest k g → delivery k ec (context k ec).state ≡ Some v →
    Facts k g (finished v item end answer)
ends_hold k ec g item end answer v sound is present = by_state (context k ec).state refl present
  where
    -- where the last is no reply
    no_reply : (w : Delivery) (t : Bool) (last : Sequel) → ((caller : ℕ) (came : Mark) → last ≢ sequel.Replied caller came) →
        Facts k g (Finishes item end (words_for w.told answer (flag w)) (if t then sequel.Item else last))
    no_reply w true last none = tt
    no_reply w false sequel.Item none = tt
    no_reply w false sequel.Opened none = tt
    no_reply w false sequel.Taken none = tt
    no_reply w false (sequel.Replied caller came) none = absurd (none caller came refl)

    told_nobody : (caller : ℕ) (came : Mark) (second : ℕ) → came ≡ mark.Exit → words_for (told_by caller came) answer second ≡ None
    told_nobody caller mark.Exit second e = refl
    told_nobody caller mark.Call second e = absurd (cc)

    by_last : (w : Delivery) (t : Bool) (caller : ℕ) (came : Mark) → w.told ≡ told_by caller came → WaitsFor k g caller came →
        Facts k g (Finishes item end (words_for w.told answer (flag w)) (if t then sequel.Item else sequel.Replied caller came))
    by_last w true caller came tells wait = tt
    by_last w false caller came tells wait = (wait, (λ e. ap (λ (o : Option ℕ). words_for o answer (flag w)) tells ∙ told_nobody caller came (flag w) e))

    by_reply : (c : Option (ℕ × Mark)) → (context k ec).caller ≡ c → is_dead (Some (context k ec).state) ≡ false → given_to k ec (transfer k ec).item c ≡ Some v → Facts k g (finished v item end answer)
    by_reply None keeps alive e = absurd (cc)
    by_reply (Some (caller, came)) keeps alive e =
        let w : Delivery = delivery_between k ec caller (transfer k ec).item (told_by caller came) (sequel.Replied caller came) in
        subst (λ (w : Delivery). Facts k g (finished w item end answer)) (same_Some w v e) (by_last w (nat_lt (item + 1) w.items) caller came refl (caller_waits k ec g caller came sound is alive keeps))

    by_taken : (c : Option (ℕ × Mark)) → taken_from k ec (transfer k ec).item c ≡ Some v → Facts k g (finished v item end answer)
    by_taken None e = absurd (cc)
    by_taken (Some (caller, came)) e =
        let w : Delivery = delivery_between k caller ec (transfer k ec).item (Some ec) sequel.Taken in
        subst (λ (w : Delivery). Facts k g (finished w item end answer)) (same_Some w v e) (no_reply w (nat_lt (item + 1) w.items) sequel.Taken (λ c m same. absurd (cc)))

    by_state : (s : State) → (context k ec).state ≡ s → delivery k ec s ≡ Some v → Facts k g (finished v item end answer)
    by_state (Granting (Some domain)) at e =
        let w : Delivery = first_delivery k ec domain in
        subst (λ (w : Delivery). Facts k g (finished w item end answer)) (same_Some w v e) (no_reply w (nat_lt (item + 1) w.items) sequel.Opened (λ c m same. absurd (cc)))
    by_state (Granting None) at e = by_taken (context k ec).caller e
    by_state Replying at e = by_reply (context k ec).caller refl (ap (λ (s : State). is_dead (Some s)) at) e
    by_state Fresh at e = absurd (cc)
    by_state Ready at e = absurd (cc)
    by_state Parked at e = absurd (cc)
    by_state Dead at e = absurd (cc)
    by_state (Calling handler) at e = absurd (cc)
    by_state (Helping handler) at e = absurd (cc)
    by_state (Exiting reason q0 q1) at e = absurd (cc)
    by_state (Sending reason q0 q1 handler) at e = absurd (cc)
    by_state (Revoking range own) at e = absurd (cc)
    by_state (Blocked sm) at e = absurd (cc)

pub deed_facts : (k : KernelState) (ec g : ℕ) → HasPremises k → IsGuest k g → Facts k g (deed k ec)
deed_facts k ec g sound is = deed_holds (Facts k g) k ec tt
    (record {
      steps = tt;
      raises = λ reason q0 q1. tt;
      dies = λ reason q0. tt;
      waits = λ pt reason q0 q1 exit. tt;
      sends = λ pt reason q0 q1 exit. handler_apart k (pd_of k ec) event_right _ pt g sound is exit.portal;
      refuses = λ call status. tt;
      aborts = λ handler at. tt;
      rows = λ asking c reads. row_holds k ec g sound is asking c;
      removes = λ range own leaf at next. (leaf_facts (record { pd = pd_of k ec; range = range; own = own }) k.delegations leaf sound.forest next).there;
      returns = λ range own at none. tt;
    })
    (record { gives = λ d x giving. tt; skips = λ d reason place skipping. tt; finishes = λ v end answer present ends. ends_hold k ec g _ end answer v sound is present })
