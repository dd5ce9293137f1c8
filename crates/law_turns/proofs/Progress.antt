-- Items are given in order: what each deed leaves of words, and where a context that gives is then.
use Rattle.std.proofs.Common.{◌≡◌, ◌<◌, ℕ, ◌+◌, List, length, refl, ap, ◌∙◌, sym, subst, arith}
use Rattle.std.specs.Prelude.{◌≢◌, Bool, true, false, nat_lt, if◌then◌else◌, slice_set, Option, Some, None, IfSome, option_map}
use Rattle.std.proofs.lemmas.Bool.Decides.{nat_tests}
use Rattle.rv_model.specs.Step.{Store}
use Rattle.nova_range.specs.declared.status.Status.TheVariants.{Success}
use Rattle.nova_utcb.specs.Messages.{counted_items}
use Rattle.nova_model.specs.AddressSpaces.{words_at}
use Rattle.nova_model.specs.Creation.{context_of, object_of, transfer_of, words_of}
use Rattle.nova_model.specs.Deeds.{address_space, answered, instruction, parked, resumed, serving, transfer_after}
use Rattle.nova_model.specs.Deliveries.{delivery, given_to, sequel_of, taken_from}
use Rattle.nova_model.specs.Edges.{acts, is_giving}
use Rattle.nova_model.specs.Inputs.{store_of}
use Rattle.nova_model.specs.State.{KernelState, Contexts, context, context_in, ec_in, ec_of, is_local_thread, message, no_transfer, transfer, with_ec}
use Rattle.nova_model.specs.declared.context.EcState.{EcState}
use Rattle.nova_model.specs.declared.context.Mark.{Mark}
use Rattle.nova_model.specs.declared.context.Mark.TheVariants as mark
use Rattle.nova_model.specs.declared.context.State.{State}
use Rattle.nova_model.specs.declared.context.State.TheVariants.{Ready, Calling, Granting, Replying, Blocked}
use Rattle.nova_model.specs.declared.deed.Deed.{Deed}
use Rattle.nova_model.specs.declared.deed.Deed.TheVariants.{Steps, Sends, Gives, Skips, Finishes, Calls, Replies}
use Rattle.nova_model.specs.declared.new_object.NewObject.{NewObject}
use Rattle.nova_model.specs.declared.transfer.Delivery.{Delivery}
use Rattle.nova_model.specs.declared.transfer.ItemWords.{ItemWords}
use Rattle.nova_model.specs.declared.transfer.Sequel.{Sequel}
use Rattle.nova_model.specs.declared.transfer.Sequel.TheVariants as sequel
use Rattle.nova_model.specs.declared.transfer.Transfer.{Transfer}
use Rattle.law_forest.specs.Effects.{applied, effect, item_words, joined, made_by, put, store_words, words_by, words_stored}
use Rattle.law_turns.specs.Giving.{source_in}
use Rattle.law_turns.proofs.Awaiting.{Serves, served_waits}
use Rattle.law_turns.proofs.Counting.{apart_stays}
use Rattle.law_turns.proofs.Courses.{Courses, IsCall, IsReply, IsSelf, MayCome, deed_course}
use Rattle.law_turns.proofs.TablesFit.{TablesFit}
use Rattle.law_turns.proofs.Giving.{Sound, at, entry_rests, parked_quiet, quiet_own, resumed_quiet, serves_in, transfers_by, transfers_for}
use Rattle.law_turns.proofs.Items.{AreBounded, Bound, Bounded, BoundedEntry, entry_item, give_bounded, joins_bounded, new_quiet, own_none, parked_none, rests_bounded, reword, set_bounded, context_state, told_none, waiting_none}
use Rattle.law_turns.proofs.Messages.{IsFinish, NoSource, Shows, more_words, other_words, some_items, words_in}
use Rattle.law_turns.proofs.GivingPremises.{Wants, is_of_item}
use Rattle.law_turns.proofs.Referring.{Asks}
use Rattle.law_turns.proofs.Serving.{IsActor, IsReached, actor_of, awaited, reached_apart}

-- WORDS STAY

abbrev pub Keeps : KernelState → List (Option (List ℕ)) → Type 0
Keeps k ns = (e g : ℕ) (x : EcState) → ec_in k.contexts e ≡ Some x → source_in e x.state x.caller ≡ Some g → words_in ns g ≡ words_in k.messages g

put_keeps : (k : KernelState) (o : Option (ℕ × List ℕ)) → IfSome o (λ w. NoSource k.contexts w.0) → Keeps k (put k.messages o)
put_keeps k None none e g x is of = refl
put_keeps k (Some (w, m)) none e g x is of = other_words k.messages w g m (λ same. none e x is (of ∙ ap Some same))

stored_none : (k : KernelState) (ec : ℕ) (s : Option Store) → NoSource k.contexts ec → IfSome (store_words (address_space k ec) ec s) (λ w. NoSource k.contexts w.0)
stored_none k ec None none = tt
stored_none k ec (Some s) none = by_words (words_at (address_space k ec) s.address)
  where
    by_words : (o : Option (List ℕ)) → IfSome (words_stored ec s o) (λ w. NoSource k.contexts w.0)
    by_words None = tt
    by_words (Some m) = none

item_none : (k : KernelState) (ec item : ℕ) (words : Option ItemWords) (after : Sequel) → acts k.contexts ec ≡ true → Serves k.contexts → IsFinish k ec item words after →
    IfSome (item_words k item words) (λ w. NoSource k.contexts w.0)
item_none k ec item None after able serves f = tt
item_none k ec item (Some w) after able serves f = told_none k ec item w after able serves f

caller_none : (k : KernelState) (ec caller : ℕ) (mark : Mark) → acts k.contexts ec ≡ true → Serves k.contexts → is_giving (context k ec).state ≡ false →
    (context k ec).caller ≡ Some (caller, mark) → NoSource k.contexts caller
caller_none k ec caller mark able serves quiet has =
    waiting_none k.contexts ec caller serves (served_waits k ec caller mark able serves has)
    (λ taking. (let gives = ap is_giving (context_state k.contexts ec (Granting None) taking) in absurd (cc)))

-- no context gives from where a deed writes
written_none : (k : KernelState) (ec : ℕ) (d : Deed) → Wants k ec d → Shows k ec d → acts k.contexts ec ≡ true → Serves k.contexts →
    IfSome (words_by k ec d) (λ w. NoSource k.contexts w.0)
written_none k ec Steps wants shows able serves = stored_none k ec (store_of (instruction k ec)) (own_none k ec able serves wants)
written_none k ec (Calls handler ip identifier items) wants shows able serves = parked_none k.contexts handler serves wants.1
written_none k ec (Sends handler ip identifier mtd reason q0 q1) wants shows able serves = parked_none k.contexts handler serves wants.1
written_none k ec (Replies caller mark.Call items) wants shows able serves = caller_none k ec caller mark.Call able serves wants.0 wants.1
written_none k ec (Finishes item end words after) wants shows able serves = item_none k ec item words after able serves shows
written_none k ec other wants shows able serves = tt

-- message words when a deed is done, but for an object that joins
abbrev words_after : KernelState → ℕ → Deed → List (Option (List ℕ))
words_after k ec d = put k.messages (words_by k ec d)

written_keeps : (k : KernelState) (ec : ℕ) (d : Deed) → Wants k ec d → Shows k ec d → acts k.contexts ec ≡ true → Serves k.contexts → Keeps k (words_after k ec d)
written_keeps k ec d wants shows able serves = put_keeps k (words_by k ec d) (written_none k ec d wants shows able serves)

joined_words : (ms : List (Option (List ℕ))) (made : Option NewObject) (g : ℕ) → words_in (joined ms (option_map (λ m. words_of (object_of m)) made)) g ≡ words_in ms g
joined_words ms None g = refl
joined_words ms (Some made) g = more_words ms (object_of made) g

pub applied_keeps : (k : KernelState) (ec : ℕ) (d : Deed) → Wants k ec d → Shows k ec d → acts k.contexts ec ≡ true → Serves k.contexts →
    Keeps k (applied k (effect k ec d)).messages
applied_keeps k ec d wants shows able serves e g x is of = joined_words (words_after k ec d) (made_by d) g ∙ written_keeps k ec d wants shows able serves e g x is of

-- WHERE A CONTEXT THAT GIVES IS

to_entry : (ms : List (Option (List ℕ))) (e : ℕ) (o : Option EcState) (t : Transfer) → Bounded ms e (context_in o).state (context_in o).caller t → BoundedEntry ms e o t
to_entry ms e None t h = tt
to_entry ms e (Some x) t h = h

begins_at : (ms : List (Option (List ℕ))) (e : ℕ) (s : State) (c : Option (ℕ × Mark)) (t : Transfer) → Bounded ms e s c t → Bounded ms e s c no_transfer
begins_at ms e (Granting (Some new)) c t h = refl
begins_at ms e (Granting None) (Some (c, mark)) t h = omega (arith, h)
begins_at ms e (Granting None) None t h = tt
begins_at ms e Replying c t h = omega (arith, h)
begins_at ms e other c t h = tt

entry_begins : (ms : List (Option (List ℕ))) (e : ℕ) (o : Option EcState) (t : Transfer) → BoundedEntry ms e o t → BoundedEntry ms e o no_transfer
entry_begins ms e None t h = tt
entry_begins ms e (Some x) t h = begins_at ms e x.state x.caller t h

-- an item after which one follows
last_ends : (k : KernelState) (ec : ℕ) (s : State) (v : Delivery) → delivery k ec s ≡ Some v → v.last ≡ sequel.Item → ⊥
last_ends k ec (Granting (Some new)) v is last = let same : sequel.Opened ≡ v.last = cc in absurd (cc)
last_ends k ec (Granting None) v is last = by_caller (context k ec).caller is
  where
    by_caller : (o : Option (ℕ × Mark)) → taken_from k ec (transfer k ec).item o ≡ Some v → ⊥
    by_caller None e = absurd (cc)
    by_caller (Some (caller, mark)) e = let same : sequel.Taken ≡ v.last = cc in absurd (cc)
last_ends k ec Replying v is last = by_caller (context k ec).caller is
  where
    by_caller : (o : Option (ℕ × Mark)) → given_to k ec (transfer k ec).item o ≡ Some v → ⊥
    by_caller None e = absurd (cc)
    by_caller (Some (caller, mark)) e = let same : sequel.Replied caller mark ≡ v.last = cc in absurd (cc)
last_ends k ec other v is last = absurd (cc)

next_below : (k : KernelState) (ec item : ℕ) (v : Delivery) → delivery k ec (context k ec).state ≡ Some v → sequel.Item ≡ sequel_of v item → item + 1 < v.items
next_below k ec item v present follows = by_test (nat_lt (item + 1) v.items) refl follows
  where
    by_test : (t : Bool) → nat_lt (item + 1) v.items ≡ t → sequel.Item ≡ (if t then sequel.Item else v.last) → item + 1 < v.items
    by_test true is e = grind (arith, nat_tests)
    by_test false is e = absurd (last_ends k ec (context k ec).state v present (sym e))

pub last_is : (item : ℕ) (v : Delivery) → item < v.items → (sequel.Item ≡ sequel_of v item → ⊥) → item + 1 ≡ v.items
last_is item v below ends = by_test (nat_lt (item + 1) v.items) refl ends
  where
    by_test : (t : Bool) → nat_lt (item + 1) v.items ≡ t → (sequel.Item ≡ (if t then sequel.Item else v.last) → ⊥) → item + 1 ≡ v.items
    by_test true is e = absurd (e refl)
    by_test false is e = grind (arith, nat_tests)

-- bounded by the items of what is present
bounded_by : (k : KernelState) (ec n : ℕ) (s : State) (v : Delivery) (t : Transfer) → delivery k ec s ≡ Some v → n < v.items → t.item ≡ n →
    Bounded k.messages ec s (context k ec).caller t
bounded_by k ec n (Granting (Some new)) v t is below at = let items : 1 ≡ v.items = cc in omega (arith, below, at, items)
bounded_by k ec n (Granting None) v t is below at = by_caller (context k ec).caller is
  where
    by_caller : (o : Option (ℕ × Mark)) → taken_from k ec (transfer k ec).item o ≡ Some v → Bounded k.messages ec (Granting None) o t
    by_caller None e = tt
    by_caller (Some (caller, mark)) e = let items : counted_items (message k caller) ≡ v.items = cc in omega (arith, below, at, items)
bounded_by k ec n Replying v t is below at = by_caller (context k ec).caller is
  where
    by_caller : (o : Option (ℕ × Mark)) → given_to k ec (transfer k ec).item o ≡ Some v → t.item < counted_items (message k ec)
    by_caller None e = absurd (cc)
    by_caller (Some (caller, mark)) e = let items : counted_items (message k ec) ≡ v.items = cc in omega (arith, below, at, items)
bounded_by k ec n other v t is below at = tt

-- TRANSFERS AND WORDS

-- an item ended: the next one
next_bound : (k : KernelState) (ec item : ℕ) (words : Option ItemWords) → IsFinish k ec item words sequel.Item → Bound k →
    AreBounded k.messages k.contexts (slice_set k.transfers ec (Some (transfer_after item sequel.Item)))
next_bound k ec item words f h =
    let t = transfer_after item sequel.Item in
    let below = next_below k ec (transfer k ec).item f.present_item f.present f.follows in
    let now = bounded_by k ec ((transfer k ec).item + 1) (context k ec).state f.present_item t f.present below (ap (λ (n : ℕ). n + 1) f.number) in
    give_bounded k.messages k.contexts k.transfers ec t (to_entry k.messages ec (ec_in k.contexts ec) t now) h

transfers_bound : (k : KernelState) (ec : ℕ) (d : Deed) → Shows k ec d → Bound k → AreBounded k.messages k.contexts (transfers_by k ec d)
transfers_bound k ec (Gives child cursor) shows h =
    give_bounded k.messages k.contexts k.transfers ec _ (entry_item k.messages ec (ec_in k.contexts ec) (transfer k ec) _ refl (h ec)) h
transfers_bound k ec (Skips reason place cursor) shows h =
    give_bounded k.messages k.contexts k.transfers ec _ (entry_item k.messages ec (ec_in k.contexts ec) (transfer k ec) _ refl (h ec)) h
transfers_bound k ec (Finishes item end words sequel.Item) shows h = next_bound k ec item words shows h
transfers_bound k ec (Finishes item end words other) shows h =
    give_bounded k.messages k.contexts k.transfers ec no_transfer (entry_begins k.messages ec (ec_in k.contexts ec) (transfer k ec) (h ec)) h
transfers_bound k ec other shows h = h

-- where it gives from then the words are as before
reply_words : (k : KernelState) (ec caller : ℕ) (its : Mark) → caller ≢ ec → words_in (words_after k ec (Replies caller its true)) ec ≡ message k ec
reply_words k ec caller mark.Call apart = other_words k.messages caller ec _ (λ same. apart (sym same))
reply_words k ec caller mark.Exit apart = refl

-- A DEED

-- a context that begins to give is at its first item
first_item : (k : KernelState) (ec : ℕ) (d : Deed) → is_of_item d ≡ false → Wants k ec d → Sound k → (at (transfers_by k ec d) ec).item ≡ 0
first_item k ec d apart wants sound = ap (λ (t : Transfer). t.item) (apart_stays k ec ec d apart ∙ quiet_own k ec d apart wants sound)

replies_some : (k : KernelState) (ec : ℕ) (d : Deed) → IsActor k.contexts ec → Wants k ec d → Shows k ec d → TablesFit k → Sound k → IsReply k ec d →
    (at (transfers_by k ec d) ec).item < counted_items (words_in (words_after k ec d) ec)
replies_some k ec d actor wants shows fits sound is =
    let shown = subst (Shows k ec) is.deed shows in
    let apart = (awaited (is_local_thread k) k.contexts ec is.caller is.its actor is.keeps fits.served).apart in
    let words = ap (λ (e : Deed). words_in (words_after k ec e) ec) is.deed ∙ reply_words k ec is.caller is.its apart in
    let none = first_item k ec d (ap is_of_item is.deed) wants sound in
    let some = some_items (message k ec) shown.0 (sym shown.1) in
    subst (λ (m : List ℕ). (at (transfers_by k ec d) ec).item < counted_items m) (sym words) (omega (arith, none, some))

-- a handler takes the items of a call from its first one on
takes_some : (k : KernelState) (ec handler ip identifier : ℕ) (items : Bool) (its : Mark) (d : Deed) → IsActor k.contexts ec → Wants k ec d → Shows k ec d → Sound k →
    IsReached k.contexts ec handler → IsCall d handler ip identifier items its →
    Bounded (words_after k ec d) handler (if items then Granting None else Ready) (Some (ec, its)) (at (transfers_by k ec d) handler)
takes_some k ec handler ip identifier false its d actor wants shows sound reached is = tt
takes_some k ec handler ip identifier true mark.Exit d actor wants shows sound reached is = absurd cc
takes_some k ec handler ip identifier true mark.Call d actor wants shows sound reached is =
    let shown = subst (Shows k ec) is shows in
    let words = ap (λ (e : Deed). words_in (words_after k ec e) ec) is ∙ other_words k.messages handler ec _ (reached_apart k.contexts ec handler actor reached) in
    let none = ap (λ (t : Transfer). t.item)
    (entry_rests k.objects (ec_in k.contexts handler) _ (parked_quiet (ec_in k.contexts handler) reached.parked) (transfers_for k ec d wants sound handler)) in
    let some = some_items (message k ec) shown.0 (sym shown.1) in
    subst (λ (m : List ℕ). (at (transfers_by k ec d) handler).item < counted_items m) (sym words) (omega (arith, none, some))

bound_courses : (k : KernelState) (ec : ℕ) (d : Deed) → IsActor k.contexts ec → Wants k ec d → Shows k ec d → TablesFit k → Sound k → Keeps k (words_after k ec d) → Bound k →
    Courses k ec d (λ cs all. AreBounded (words_after k ec d) cs (transfers_by k ec d))
bound_courses k ec d actor wants shows fits sound keeps h =
    let ns = words_after k ec d in
    let ts = transfers_by k ec d in record {
      rests = λ to. base;
      steps = λ regs is. quiet (record (context k ec) { regs = regs }) (subst (Wants k ec) is wants);
      stays = λ cs all w x y is self same now. set_bounded ns cs ts w y (rw (same, self.caller) (entry_bound w (ec_in cs w) x (at ts w) is (now w))) now;
      goes = λ y self to may. goes y self may;
      sends = λ handler its ip identifier items to of reached.
          let one = with_ec k.contexts ec (record (context k ec) { state = Calling handler }) in
          set_bounded ns one ts handler (serving (ec_of one handler) ec its ip identifier items)
          (takes_some k ec handler ip identifier items its d actor wants shows sound reached of) (quiet (record (context k ec) { state = Calling handler }) refl);
      replies = λ caller its m to keeps.
          let one = with_ec k.contexts ec (parked (context k ec)) in
          rests_bounded ns one ts caller (resumed (ec_of one caller) its m) (resumed_quiet (ec_of one caller) its m) (quiet (parked (context k ec)) refl);
      ups = λ sm to is. quiet (answered (context k ec) Success None) refl;
      wakes = λ sm w to is.
          rests_bounded ns (with_ec k.contexts ec (answered (context k ec) Success None)) ts w _ refl (quiet (answered (context k ec) Success None) refl);
      downs = λ sm to is. quiet (answered (context k ec) Success None) refl;
      blocks = λ sm to is answer. quiet (record (context k ec) { state = Blocked sm }) refl;
    }
  where
    base : AreBounded (words_after k ec d) k.contexts (transfers_by k ec d)
    base = reword k.messages (words_after k ec d) k.contexts (transfers_by k ec d) keeps (transfers_bound k ec d shows h)

    quiet : (y : EcState) → is_giving y.state ≡ false → AreBounded (words_after k ec d) (with_ec k.contexts ec y) (transfers_by k ec d)
    quiet y still = rests_bounded (words_after k ec d) k.contexts (transfers_by k ec d) ec y still base

    entry_bound : (w : ℕ) (o : Option EcState) (x : EcState) (t : Transfer) → o ≡ Some x → BoundedEntry (words_after k ec d) w o t → Bounded (words_after k ec d) w x.state x.caller t
    entry_bound w o x t is b = subst (λ (p : Option EcState). BoundedEntry (words_after k ec d) w p t) is b

    given : (s : State) (c : Option (ℕ × Mark)) → MayCome k ec d s → is_giving s ≡ true → Bounded (words_after k ec d) ec s c (at (transfers_by k ec d) ec)
    given (Granting (Some domain)) c may some = first_item k ec d (ap is_of_item may.deed) wants sound
    given (Granting None) c may some = absurd may
    given Replying c may some = replies_some k ec d actor wants shows fits sound may
    given other c may some = absurd cc

    goes : (y : EcState) → IsSelf (context k ec) y → MayCome k ec d y.state → AreBounded (words_after k ec d) (with_ec k.contexts ec y) (transfers_by k ec d)
    goes y self may = by_test (is_giving y.state) refl
      where
        by_test : (test : Bool) → is_giving y.state ≡ test → AreBounded (words_after k ec d) (with_ec k.contexts ec y) (transfers_by k ec d)
        by_test true gives = set_bounded (words_after k ec d) k.contexts (transfers_by k ec d) ec y (given y.state y.caller may gives) base
        by_test false still = quiet y still

pub joined_bound : (ms : List (Option (List ℕ))) (cs : Contexts) (ts : List (Option Transfer)) (n : ℕ) (made : Option NewObject) → AreBounded ms cs ts →
    AreBounded (joined ms (option_map (λ m. words_of (object_of m)) made)) (joined cs (option_map (context_of n) made)) (joined ts (option_map (λ m. transfer_of (object_of m)) made))
joined_bound ms cs ts n None h = h
joined_bound ms cs ts n (Some made) h = joins_bounded ms cs ts (object_of made) (context_of n made) (new_quiet n made _) h

pub applied_bound : (k : KernelState) (ec : ℕ) (d : Deed) → acts k.contexts ec ≡ true → Asks k ec d → Wants k ec d → Shows k ec d → TablesFit k → Sound k → Bound k →
    Bound (applied k (effect k ec d))
applied_bound k ec d able asks wants shows fits sound h =
    let actor = actor_of k.contexts ec able in
    joined_bound (words_after k ec d) _ (transfers_by k ec d) (length k.objects) (made_by d)
    (deed_course k ec (λ cs all. AreBounded (words_after k ec d) cs (transfers_by k ec d)) d actor asks
    (bound_courses k ec d actor wants shows fits sound (written_keeps k ec d wants shows able (serves_in k fits)) h))
