-- A context that gives has a range and a protection domain to give it to, and a context that doesn't is at the beginning.
use Rattle.nova_model.specs.Sources.{Source, with_source}
use Rattle.law_forest.proofs.Boots.{sources_keep}
use Rattle.law_forest.proofs.Doing.{set_at}
use Rattle.law_turns.proofs.Passing.{IsEnding, passing_contexts, passing_ending}
use Rattle.std.proofs.Common.{◌≡◌, ℕ, zero, suc, List, [], ◌∷◌, ◌++◌, length, refl, ap, ◌∙◌, sym, subst}
use Rattle.std.specs.Prelude.{Bool, true, false, if◌then◌else◌, slice_get, slice_set, option_map, Option, Some, None, IsSome}
use Rattle.rv_model.specs.Registers.{Registers}
use Rattle.nova_objects.specs.declared.object.EcKind.{EcKind}
use Rattle.nova_objects.specs.declared.object.EcKind.TheVariants.{Local, Global, Vcpu}
use Rattle.nova_objects.specs.declared.object.Object.{Object}
use Rattle.nova_objects.specs.declared.object.Object.TheVariants.{Pd, Ec, Sc, Pt, Sm}
use Rattle.nova_range.specs.declared.status.Status.TheVariants.{Success}
use Rattle.nova_model.specs.Boot.{Scenario, Image, boot, bare, with_image, with_images}
use Rattle.nova_model.specs.Calls.{is_parked}
use Rattle.nova_model.specs.Creation.{context_of, first_registers, first_state, object_of, transfer_of}
use Rattle.nova_model.specs.Deeds.{answered, actor_after, deed, parked, resumed, serving}
use Rattle.nova_model.specs.Deliveries.{delivery, given_to, taken_from}
use Rattle.nova_model.specs.Runs.{run}
use Rattle.nova_model.specs.State.{KernelState, Contexts, context, context_in, ec_in, ec_of, entry, is_local_thread, no_transfer, transfer, transfer_in, with_ec}
use Rattle.nova_model.specs.declared.context.EcState.{EcState}
use Rattle.nova_model.specs.declared.context.State.{State}
use Rattle.nova_model.specs.declared.context.State.TheVariants.{Blocked, Parked, Ready, Calling, Granting, Replying}
use Rattle.nova_model.specs.declared.context.Mark.{Mark}
use Rattle.nova_model.specs.declared.context.Mark.TheVariants as mark
use Rattle.nova_model.specs.declared.event.Event.{Event}
use Rattle.nova_model.specs.declared.transfer.Sequel.TheVariants as sequel
use Rattle.nova_model.specs.Edges.{state_in, is_giving}
use Rattle.nova_model.specs.declared.deed.Deed.{Deed}
use Rattle.nova_model.specs.declared.deed.Deed.TheVariants.{Rests, Gives, Skips, Finishes}
use Rattle.nova_model.specs.declared.new_object.NewObject.{NewObject}
use Rattle.nova_model.specs.declared.new_object.NewObject.TheVariants as new
use Rattle.nova_model.specs.declared.transfer.Transfer.{Transfer}
use Rattle.law_forest.specs.Effects.{applied, effect, joined, made_by, put, transfer_by, Passing, passing_effect, passing_ends}
use Rattle.law_forest.specs.Turns.{Acts, IsTurning, Turning, turned, Passes}
use Rattle.law_forest.proofs.Turning.{along}
use Rattle.law_turns.specs.Links.{state_at}
use Rattle.law_turns.proofs.Awaiting.{Serves, serves_of}
use Rattle.law_turns.proofs.Blocking.{woken_blocked}
use Rattle.law_turns.proofs.Courses.{Courses, IsOpening, IsSelf, IsTo, MayCome, deed_course, has_caller}
use Rattle.law_turns.proofs.TablesFit.{TablesFit, boot_fits, chosen_acts, turned_fits}
use Rattle.law_turns.proofs.GivingPremises.{HasRange, Wants, deed_wants, is_of_item, wants_quiet}
use Rattle.law_turns.proofs.Referring.{Asks, deed_asks}
use Rattle.law_turns.proofs.Serving.{IsActor, actor_of, awaited}
use Rattle.law_turns.proofs.Setting.{get_kept, more_at}

-- WHICH CONTEXTS GIVE AND WHICH DON'T

-- of an execution context in this state, with these registers and this caller, and how far it is
abbrev pub IsFor : List Object → State → Registers → Option (ℕ × Mark) → Transfer → Type 0
IsFor os (Granting (Some domain)) r c t = (slice_get os domain ≡ Some Pd) × HasRange r
IsFor os (Granting None) r c t = IsSome c
IsFor os Replying r c t = IsSome c
IsFor os other r c t = t ≡ no_transfer

abbrev pub IsForEntry : List Object → Option EcState → Transfer → Type 0
IsForEntry os None t = t ≡ no_transfer
IsForEntry os (Some x) t = IsFor os x.state x.regs x.caller t

abbrev pub AreFor : List Object → Contexts → List (Option Transfer) → Type 0
AreFor os cs ts = (e : ℕ) → IsForEntry os (ec_in cs e) (transfer_in (entry (slice_get ts e)))

abbrev pub Sound : KernelState → Type 0
Sound k = AreFor k.objects k.contexts k.transfers

-- a context that doesn't give is at the beginning, and that is all there is to say of it
at_rest : (os : List Object) (s : State) (r : Registers) (c : Option (ℕ × Mark)) (t : Transfer) → is_giving s ≡ false → IsFor os s r c t → t ≡ no_transfer
at_rest os (Granting new) r c t rests h = absurd (cc)
at_rest os Replying r c t rests h = absurd (cc)
at_rest os other r c t rests h = h

of_rest : (os : List Object) (s : State) (r : Registers) (c : Option (ℕ × Mark)) (t : Transfer) → is_giving s ≡ false → t ≡ no_transfer → IsFor os s r c t
of_rest os (Granting new) r c t rests h = absurd (cc)
of_rest os Replying r c t rests h = absurd (cc)
of_rest os other r c t rests h = h

pub entry_rests : (os : List Object) (o : Option EcState) (t : Transfer) → is_giving (context_in o).state ≡ false → IsForEntry os o t → t ≡ no_transfer
entry_rests os None t rests h = h
entry_rests os (Some x) t rests h = at_rest os x.state x.regs x.caller t rests h

-- a context that gives may be anywhere with it
anywhere : (os : List Object) (s : State) (r : Registers) (c : Option (ℕ × Mark)) (t u : Transfer) → is_giving s ≡ true → IsFor os s r c t → IsFor os s r c u
anywhere os (Granting (Some domain)) r c t u gives h = h
anywhere os (Granting None) r c t u gives h = h
anywhere os Replying r c t u gives h = h
anywhere os other r c t u gives h = absurd (cc)

entry_anywhere : (os : List Object) (o : Option EcState) (t u : Transfer) → is_giving (context_in o).state ≡ true → IsForEntry os o t → IsForEntry os o u
entry_anywhere os None t u gives h = absurd (cc)
entry_anywhere os (Some x) t u gives h = anywhere os x.state x.regs x.caller t u gives h

-- objects join
longer : (os : List Object) (o : Object) (s : State) (r : Registers) (c : Option (ℕ × Mark)) (t : Transfer) → IsFor os s r c t → IsFor (os ++ o ∷ []) s r c t
longer os o (Granting (Some domain)) r c t h = (get_kept os o domain Pd h.0, h.1)
longer os o (Granting None) r c t h = h
longer os o Replying r c t h = h
longer os o other r c t h = h

entry_longer : (os : List Object) (o : Object) (x : Option EcState) (t : Transfer) → IsForEntry os x t → IsForEntry (os ++ o ∷ []) x t
entry_longer os o None t h = h
entry_longer os o (Some x) t h = longer os o x.state x.regs x.caller t h

-- CHANGES OF TABLES

set_for : (os : List Object) (cs : Contexts) (ts : List (Option Transfer)) (e : ℕ) (x : EcState) → IsFor os x.state x.regs x.caller (transfer_in (entry (slice_get ts e))) →
    AreFor os cs ts → AreFor os (with_ec cs e x) ts
set_for os cs ts e x new h f =
    set_at (λ o. IsForEntry os o (transfer_in (entry (slice_get ts f)))) cs e f x (h f)
    (λ same. subst (λ (n : ℕ). IsFor os x.state x.regs x.caller (transfer_in (entry (slice_get ts n)))) (sym same) new)

give_for : (os : List Object) (cs : Contexts) (ts : List (Option Transfer)) (e : ℕ) (t : Transfer) → IsForEntry os (ec_in cs e) t → AreFor os cs ts →
    AreFor os cs (slice_set ts e (Some t))
give_for os cs ts e t new h f =
    set_at (λ o. IsForEntry os (ec_in cs f) (transfer_in o)) ts e f t (h f) (λ same. subst (λ (n : ℕ). IsForEntry os (ec_in cs n) t) (sym same) new)

-- an object joins, with what goes with it
joins_for : (os : List Object) (cs : Contexts) (x : Option EcState) (ts : List (Option Transfer)) (t : Option Transfer) →
    ((u : Transfer) → u ≡ no_transfer → IsForEntry os x u) → transfer_in t ≡ no_transfer → AreFor os cs ts → AreFor os (cs ++ x ∷ []) (ts ++ t ∷ [])
joins_for os cs x ts t new none h f =
    more_at (λ y. IsForEntry os (ec_in (cs ++ x ∷ []) f) (transfer_in y)) ts t f
    (more_at (λ y. IsForEntry os y (transfer_in (entry (slice_get ts f)))) cs x f (h f) (λ first. new _ first))
    (λ first. subst (IsForEntry os (ec_in (cs ++ x ∷ []) f)) (sym none) first)

-- a context that doesn't give, and doesn't then
rests_at : (os : List Object) (cs : Contexts) (ts : List (Option Transfer)) (e : ℕ) (x : EcState) → is_giving (ec_of cs e).state ≡ false → is_giving x.state ≡ false →
    AreFor os cs ts → AreFor os (with_ec cs e x) ts
rests_at os cs ts e x rests still h = set_for os cs ts e x (of_rest os x.state x.regs x.caller _ still (entry_rests os (ec_in cs e) _ rests (h e))) h

-- another that doesn't
pub quiet_set : (cs : Contexts) (a w : ℕ) (x : EcState) → is_giving x.state ≡ false → is_giving (ec_of cs w).state ≡ false → is_giving (ec_of (with_ec cs a x) w).state ≡ false
quiet_set cs a w x new old = set_at (λ o. is_giving (context_in o).state ≡ false) cs a w x old (λ same. new)

pub quiet_by : (cs : Contexts) (w : ℕ) (s : State) → state_in cs w ≡ Some s → is_giving s ≡ false → is_giving (ec_of cs w).state ≡ false
quiet_by cs w s is quiet = by_entry (ec_in cs w) is
  where
    by_entry : (o : Option EcState) → option_map (λ y. y.state) o ≡ Some s → is_giving (context_in o).state ≡ false
    by_entry None h = refl
    by_entry (Some y) h = let same : y.state ≡ s = cc in ap is_giving same ∙ quiet

pub parked_quiet : (o : Option EcState) → is_parked (state_at o) ≡ true → is_giving (context_in o).state ≡ false
parked_quiet None is = refl
parked_quiet (Some x) is = by_state x.state is
  where
    by_state : (s : State) → is_parked (Some s) ≡ true → is_giving s ≡ false
    by_state Parked parks = refl
    by_state other parks = absurd cc

-- the caller that it served goes on, and gives nothing
pub resumed_quiet : (x : EcState) (mark : Mark) (m : List ℕ) → is_giving (resumed x mark m).state ≡ false
resumed_quiet x mark.Call m = refl
resumed_quiet x mark.Exit m = refl

-- a context in its state
same_for : (os : List Object) (x y : EcState) (t : Transfer) → IsSelf x y → y.state ≡ x.state → IsFor os x.state x.regs x.caller t → IsFor os y.state y.regs y.caller t
same_for os x y t self same h = by_test (is_giving y.state) refl
  where
    by_test : (test : Bool) → is_giving y.state ≡ test → IsFor os y.state y.regs y.caller t
    by_test true gives = rw (same, self.regs gives, self.caller) h
    by_test false rests = of_rest os y.state y.regs y.caller t rests (at_rest os x.state x.regs x.caller t (ap is_giving (sym same) ∙ rests) h)

entry_at : (os : List Object) (o : Option EcState) (x : EcState) (t : Transfer) → o ≡ Some x → IsForEntry os o t → IsFor os x.state x.regs x.caller t
entry_at os o x t is h = subst (λ (p : Option EcState). IsForEntry os p t) is h

-- OBJECTS THAT JOIN

first_rests : (os : List Object) (kind : EcKind) (r : Registers) (c : Option (ℕ × Mark)) (t : Transfer) → t ≡ no_transfer → IsFor os (first_state kind) r c t
first_rests os Local r c t h = h
first_rests os Global r c t h = h
first_rests os Vcpu r c t h = h

new_rests : (os : List Object) (n : ℕ) (made : NewObject) (t : Transfer) → t ≡ no_transfer → IsForEntry os (context_of n made) t
new_rests os n new.Pd t h = h
new_rests os n (new.Ec pd cpu kind sp event) t h = first_rests os kind (first_registers sp) None t h
new_rests os n (new.Sc ec cpu priority quantum) t h = h
new_rests os n (new.Pt ec mtd ip) t h = h
new_rests os n (new.Sm count) t h = h

pub new_transfer : (o : Object) → transfer_in (transfer_of o) ≡ no_transfer
new_transfer Pd = refl
new_transfer (Ec pd cpu kind event) = refl
new_transfer (Sc ec cpu priority quantum) = refl
new_transfer (Pt ec mtd ip) = refl
new_transfer Sm = refl

last_there : (os : List Object) (o : Object) → slice_get (os ++ o ∷ []) (length os) ≡ Some o
last_there [] o = refl
last_there (x ∷ os) o = last_there os o

joined_longer : (os : List Object) (cs : Contexts) (ts : List (Option Transfer)) (o : Option Object) → AreFor os cs ts → AreFor (joined os o) cs ts
joined_longer os cs ts None h = h
joined_longer os cs ts (Some o) h = λ e. entry_longer os o (ec_in cs e) _ (h e)

joined_for : (os : List Object) (n : ℕ) (cs : Contexts) (ts : List (Option Transfer)) (made : Option NewObject) → AreFor os cs ts →
    AreFor os (joined cs (option_map (context_of n) made)) (joined ts (option_map (λ m. transfer_of (object_of m)) made))
joined_for os n cs ts None h = h
joined_for os n cs ts (Some made) h = joins_for os cs (context_of n made) ts (transfer_of (object_of made)) (new_rests os n made) (new_transfer (object_of made)) h

-- WHAT A DEED MAKES OF TRANSFERS

abbrev pub at : List (Option Transfer) → ℕ → Transfer
at ts e = transfer_in (entry (slice_get ts e))

-- how far all are when it is done, but for an object that joins
abbrev pub transfers_by : KernelState → ℕ → Deed → List (Option Transfer)
transfers_by k ec d = put k.transfers (transfer_by k ec d)

pub transfers_for : (k : KernelState) (ec : ℕ) (d : Deed) → Wants k ec d → Sound k → AreFor k.objects k.contexts (transfers_by k ec d)
transfers_for k ec (Gives child cursor) wants h = give_for k.objects k.contexts k.transfers ec _ (entry_anywhere k.objects (ec_in k.contexts ec) _ _ wants (h ec)) h
transfers_for k ec (Skips reason place cursor) wants h = give_for k.objects k.contexts k.transfers ec _ (entry_anywhere k.objects (ec_in k.contexts ec) _ _ wants (h ec)) h
transfers_for k ec (Finishes item end words after) wants h = give_for k.objects k.contexts k.transfers ec _ (entry_anywhere k.objects (ec_in k.contexts ec) _ _ wants.0 (h ec)) h
transfers_for k ec other wants h = h

set_none : (ts : List (Option Transfer)) (e : ℕ) → at (slice_set ts e (Some no_transfer)) e ≡ no_transfer
set_none [] e = refl
set_none (t ∷ ts) zero = refl
set_none (t ∷ ts) (suc e) = set_none ts e

-- one without an item to give is at the beginning
none_to_give : (k : KernelState) (ec : ℕ) → delivery k ec (context k ec).state ≡ None → Sound k → transfer k ec ≡ no_transfer
none_to_give k ec none h = by_entry (ec_in k.contexts ec) refl (h ec)
  where
    by_caller : (c : Option (ℕ × Mark)) → IsSome c → given_to k ec (transfer k ec).item c ≡ None → ⊥
    by_caller None some is = absurd (cc)
    by_caller (Some (caller, mark)) some is = absurd (cc)

    by_taker : (c : Option (ℕ × Mark)) → IsSome c → taken_from k ec (transfer k ec).item c ≡ None → ⊥
    by_taker None some is = absurd (cc)
    by_taker (Some (caller, mark)) some is = absurd (cc)

    by_entry : (o : Option EcState) → ec_in k.contexts ec ≡ o → IsForEntry k.objects o (transfer k ec) → transfer k ec ≡ no_transfer
    by_entry None is for = for
    by_entry (Some x) is for = by_state x.state refl for (sym (ap (delivery k ec) (ap (λ (y : Option EcState). (context_in y).state) is)) ∙ none)
      where
        by_state : (s : State) → x.state ≡ s → IsFor k.objects s x.regs x.caller (transfer k ec) → delivery k ec s ≡ None → transfer k ec ≡ no_transfer
        by_state (Granting (Some domain)) at for nothing = absurd (cc)
        by_state (Granting None) at for nothing =
            absurd (by_taker x.caller for (ap (taken_from k ec (transfer k ec).item) (sym (ap (λ (y : Option EcState). (context_in y).caller) is)) ∙ nothing))
        by_state Replying at for nothing =
            absurd (by_caller x.caller for (ap (given_to k ec (transfer k ec).item) (sym (ap (λ (y : Option EcState). (context_in y).caller) is)) ∙ nothing))
        by_state other at for nothing = for

-- a context that does something else is at the beginning
pub quiet_own : (k : KernelState) (ec : ℕ) (d : Deed) → is_of_item d ≡ false → Wants k ec d → Sound k → transfer k ec ≡ no_transfer
quiet_own k ec Rests apart wants h = none_to_give k ec wants h
quiet_own k ec (Gives child cursor) apart wants h = absurd cc
quiet_own k ec (Skips reason place cursor) apart wants h = absurd cc
quiet_own k ec (Finishes item end words after) apart wants h = absurd cc
quiet_own k ec other apart wants h = entry_rests k.objects (ec_in k.contexts ec) (transfer k ec) (wants_quiet k ec other refl wants) (h ec)

-- and so is a context that gives no more
own_rests : (k : KernelState) (ec : ℕ) (d : Deed) → Wants k ec d → Sound k → is_giving (actor_after (context k ec) d).state ≡ false → at (transfers_by k ec d) ec ≡ no_transfer
own_rests k ec (Gives child cursor) wants h quiet = absurd cc
own_rests k ec (Skips reason place cursor) wants h quiet = absurd cc
own_rests k ec (Finishes item end words sequel.Item) wants h quiet = absurd (let gives = wants.0 in cc)
own_rests k ec (Finishes item end words sequel.Opened) wants h quiet = set_none k.transfers ec
own_rests k ec (Finishes item end words other) wants h quiet = set_none k.transfers ec
own_rests k ec other wants h quiet = quiet_own k ec other refl wants h

-- A DEED

-- what joins is the protection domain that it opens
opens_there : (k : KernelState) (ec domain : ℕ) (d : Deed) → Wants k ec d → IsOpening d domain →
    (slice_get (joined k.objects (option_map object_of (made_by d))) domain ≡ Some Pd) × HasRange (context k ec).regs
opens_there k ec domain d wants is =
    let asked = subst (Wants k ec) is.deed wants in (
      ap (λ (e : Deed). slice_get (joined k.objects (option_map object_of (made_by e))) domain) is.deed
          ∙ ap (slice_get (k.objects ++ Pd ∷ [])) asked.1 ∙ last_there k.objects Pd,
      asked.2,
    )

begins_for : (os : List Object) (items : Bool) (r : Registers) (c : ℕ × Mark) (t : Transfer) → t ≡ no_transfer → IsFor os (if items then Granting None else Ready) r (Some c) t
begins_for os true r c t none = refl
begins_for os false r c t none = none

for_courses : (k : KernelState) (ec : ℕ) (d : Deed) → IsActor k.contexts ec → Wants k ec d → TablesFit k → Sound k →
    Courses k ec d (λ cs all. AreFor (joined k.objects (option_map object_of (made_by d))) cs (transfers_by k ec d))
for_courses k ec d actor wants fits h =
    let os = joined k.objects (option_map object_of (made_by d)) in
    let ts = transfers_by k ec d in record {
      rests = λ to. base;
      steps = λ regs is. quiet (record (context k ec) { regs = regs }) (ap (λ (e : Deed). (actor_after (context k ec) e).state) is) (subst (Wants k ec) is wants);
      stays = λ cs all w x y is self same now. set_for os cs ts w y (same_for os x y _ self same (entry_at os (ec_in cs w) x _ is (now w))) now;
      goes = λ y self to may. goes y self to may;
      sends = λ handler its ip identifier items to of reached.
          let x : EcState = record (context k ec) { state = Calling handler } in
          let one = with_ec k.contexts ec x in
          let own = quiet x to refl in
          let rests = entry_rests os (ec_in one handler) _ (quiet_set k.contexts ec handler x refl (parked_quiet (ec_in k.contexts handler) reached.parked)) (own handler) in
          set_for os one ts handler (serving (ec_of one handler) ec its ip identifier items) (begins_for os items _ (ec, its) _ rests) own;
      replies = λ caller its m to keeps.
          let one = with_ec k.contexts ec (parked (context k ec)) in
          rests_at os one ts caller (resumed (ec_of one caller) its m)
          (quiet_set k.contexts ec caller (parked (context k ec)) refl (ap is_giving (awaited (is_local_thread k) k.contexts ec caller its actor keeps fits.served).waits))
          (resumed_quiet (ec_of one caller) its m) (quiet (parked (context k ec)) to refl);
      ups = λ sm to is. answers to;
      wakes = λ sm w to is.
          rests_at os (with_ec k.contexts ec (answered (context k ec) Success None)) ts w _
          (quiet_set k.contexts ec w _ refl (quiet_by k.contexts w (Blocked sm) (woken_blocked k sm w is fits.blocked) refl)) refl (answers to);
      downs = λ sm to is. answers to;
      blocks = λ sm to is answer. quiet (record (context k ec) { state = Blocked sm }) to refl;
    }
  where
    base : AreFor (joined k.objects (option_map object_of (made_by d))) k.contexts (transfers_by k ec d)
    base = joined_longer k.objects k.contexts (transfers_by k ec d) (option_map object_of (made_by d)) (transfers_for k ec d wants h)

    quiet : (y : EcState) → IsTo k ec d y.state → is_giving y.state ≡ false →
        AreFor (joined k.objects (option_map object_of (made_by d))) (with_ec k.contexts ec y) (transfers_by k ec d)
    quiet y to still =
        set_for (joined k.objects (option_map object_of (made_by d))) k.contexts (transfers_by k ec d) ec y
        (of_rest (joined k.objects (option_map object_of (made_by d))) y.state y.regs y.caller _ still (own_rests k ec d wants h (ap is_giving to ∙ still))) base

    answers : IsTo k ec d Ready →
        AreFor (joined k.objects (option_map object_of (made_by d))) (with_ec k.contexts ec (answered (context k ec) Success None)) (transfers_by k ec d)
    answers to = quiet (answered (context k ec) Success None) to refl

    given : (s : State) (y : EcState) → IsSelf (context k ec) y → is_giving y.state ≡ true → MayCome k ec d s → is_giving s ≡ true →
        IsFor (joined k.objects (option_map object_of (made_by d))) s y.regs y.caller (at (transfers_by k ec d) ec)
    given (Granting (Some domain)) y self gives may some =
        let o = opens_there k ec domain d wants may in (o.0, subst HasRange (sym (self.regs gives)) o.1)
    given (Granting None) y self gives may some = absurd may
    given Replying y self gives may some = rw self.caller (has_caller k ec may.caller may.its may.keeps)
    given other y self gives may some = absurd cc

    goes : (y : EcState) → IsSelf (context k ec) y → IsTo k ec d y.state → MayCome k ec d y.state →
        AreFor (joined k.objects (option_map object_of (made_by d))) (with_ec k.contexts ec y) (transfers_by k ec d)
    goes y self to may = by_test (is_giving y.state) refl
      where
        by_test : (test : Bool) → is_giving y.state ≡ test → AreFor (joined k.objects (option_map object_of (made_by d))) (with_ec k.contexts ec y) (transfers_by k ec d)
        by_test true gives =
            set_for (joined k.objects (option_map object_of (made_by d))) k.contexts (transfers_by k ec d) ec y (given y.state y self gives may gives) base
        by_test false still = quiet y to still

applied_for : (k : KernelState) (ec : ℕ) (d : Deed) → IsActor k.contexts ec → Asks k ec d → Wants k ec d → TablesFit k → Sound k → Sound (applied k (effect k ec d))
applied_for k ec d actor asks wants fits h =
    joined_for (joined k.objects (option_map object_of (made_by d))) (length k.objects) _ (transfers_by k ec d) (made_by d)
    (deed_course k ec (λ cs all. AreFor (joined k.objects (option_map object_of (made_by d))) cs (transfers_by k ec d)) d actor asks (for_courses k ec d actor wants fits h))

-- the caller that each serves
pub serves_in : (k : KernelState) → TablesFit k → Serves k.contexts
serves_in k fits = serves_of (is_local_thread k) k.contexts fits.served

-- a context whose wait ends gives nothing
passing_for : (k : KernelState) (p : Passing) → IsEnding k.contexts (passing_ends k p) → Sound k → Sound (applied k (passing_effect k p))
passing_for k p ending h =
    passing_contexts (λ cs. AreFor k.objects cs k.transfers) k.contexts (passing_ends k p) ending h
    (λ w sm status waits. rests_at k.objects k.contexts k.transfers w _ (quiet_by k.contexts w (Blocked sm) waits refl) refl h)

-- TURNS

pub turned_gives : (k : KernelState) (cpu : ℕ) (t : Turning) (e : Event) → IsTurning k cpu t e → TablesFit k × Sound k → TablesFit (turned k cpu t) × Sound (turned k cpu t)
turned_gives k cpu t e (Acts c chosen is event) h = (
  turned_fits k cpu t e (Acts c chosen is event) h.0,
  subst (λ (u : Turning). Sound (turned k cpu u)) (sym is)
      (applied_for k c.actor (deed k c.actor) (actor_of k.contexts c.actor (chosen_acts k cpu c chosen)) (deed_asks k c.actor) (deed_wants k c.actor) h.0 h.1),
)
turned_gives k cpu t e (Passes p comes is event) h = (
  turned_fits k cpu t e (Passes p comes is event) h.0,
  subst (λ (u : Turning). Sound (turned k cpu u)) (sym is) (passing_for k p (passing_ending k cpu p comes h.0.blocked h.0.late) h.1),
)

images_for : (k : KernelState) (images : List Image) → Sound k → Sound (with_images k images)
images_for k [] h = h
images_for k (image ∷ images) h = images_for (with_image k image) images h

bare_for : (s : Scenario) → Sound (bare s.cpus s.ram s.consoles s.root)
bare_for s zero = refl
bare_for s (suc zero) = refl
bare_for s (suc (suc zero)) = refl
bare_for s (suc (suc (suc e))) = refl

source_for : (k : KernelState) (s : Source) → Sound k → Sound (with_source k s)
source_for k s h =
    joined_for (joined k.objects (Some (object_of (new.Sm 0)))) (length k.objects) k.contexts k.transfers (Some (new.Sm 0))
    (joined_longer k.objects k.contexts k.transfers (Some (object_of (new.Sm 0))) h)

pub boot_for : (s : Scenario) → Sound (boot s)
boot_for s =
    sources_keep Sound source_for (with_images (bare s.cpus s.ram s.consoles s.root) s.images) s.sources (images_for (bare s.cpus s.ram s.consoles s.root) s.images (bare_for s))

pub boot_run_for : (s : Scenario) (turns : List ℕ) → Sound (run (boot s) turns)
boot_run_for s turns = (along (λ k. TablesFit k × Sound k) (record { begins = λ b. (boot_fits b, boot_for b); turns = turned_gives }) s turns).1
