-- Tables fit the objects, and callers stay with the contexts that serve them: what is kept of both in a deed and along turns.
use Rattle.law_turns.proofs.Tags.{made_fits}
use Rattle.nova_model.specs.Sources.{Source, with_source}
use Rattle.law_forest.proofs.Boots.{sources_keep}
use Rattle.std.proofs.Common.{◌≡◌, ℕ, List, [], ◌∷◌, ◌++◌, length, refl, ap, ◌∙◌, sym, subst, inl, inr}
use Rattle.std.specs.Prelude.{◌≢◌, zero, suc, replicate, Bool, true, false, slice_get, Option, Some, None, IfSome, IsSome, Ok, is_some, option_map}
use Rattle.rv_model.specs.Step.{Once, Raised, Went}
use Rattle.nova_objects.specs.declared.object.EcKind.TheVariants.{Local, Global, Vcpu}
use Rattle.nova_objects.specs.declared.object.Object.{Object}
use Rattle.nova_range.specs.declared.status.Status.TheVariants.{Success}
use Rattle.nova_model.specs.Boot.{Image, Scenario, bare, boot, root_context, root_objects, with_image, with_images}
use Rattle.nova_model.specs.Calls.{is_parked}
use Rattle.nova_model.specs.Choice.{Candidate, next_to_act}
use Rattle.nova_model.specs.Creation.{context_of, object_of}
use Rattle.nova_model.specs.Deeds.{answered, deed, instruction}
use Rattle.nova_model.specs.Edges.{acts, acts_as, state_in}
use Rattle.nova_model.specs.Runs.{after, run}
use Rattle.nova_model.specs.Semaphores.{semaphore, woken}
use Rattle.nova_model.specs.State.{Contexts, KernelState, context, context_at, context_in, ec_in, ec_of, is_local_in, is_local_thread, is_thread, message, with_ec}
use Rattle.nova_model.specs.declared.context.EcState.{EcState}
use Rattle.nova_model.specs.declared.context.Mark.{Mark}
use Rattle.nova_model.specs.declared.context.Mark.TheVariants as mark
use Rattle.nova_model.specs.declared.context.State.{State}
use Rattle.nova_model.specs.declared.context.State.TheVariants.{Blocked, Parked, Replying, Calling, Fresh, Granting, Ready}
use Rattle.nova_model.specs.declared.deed.Deed.{Deed}
use Rattle.nova_model.specs.declared.deed.Deed.TheVariants.{Rests, Steps, Sends, Makes, Recalls, Names, Gives, Skips, Finishes, Calls, Replies, Removes, Ups}
use Rattle.nova_model.specs.declared.new_object.NewObject.{NewObject}
use Rattle.nova_model.specs.declared.new_object.NewObject.TheVariants as new
use Rattle.nova_model.specs.declared.transfer.ItemWords.{ItemWords}
use Rattle.nova_model.specs.declared.transfer.Sequel.{Sequel}
use Rattle.nova_model.specs.declared.transfer.Sequel.TheVariants as sequel
use Rattle.nova_model.specs.declared.root.Root.{Root}
use Rattle.rv_model.specs.Step.{Store}
use Rattle.nova_model.specs.AddressSpaces.{words_at}
use Rattle.nova_model.specs.Deeds.{address_space}
use Rattle.nova_model.specs.Inputs.{store_of}
use Rattle.nova_model.specs.Capabilities.{is_pt}
use Rattle.nova_model.specs.declared.event.Event.{Event}
use Rattle.law_forest.specs.Effects.{all_edited, joined, Answers, Becomes, Edit, Parks, edit_at, edited, edits_by, effect, ends_by, passing_ends, passing_effect, Passing, follows_by, identifier_by, item_words, made_by, recalls_by, steps_by, store_words, transfer_by, wakes_by, words_by, words_stored, applied}
use Rattle.law_forest.specs.Turns.{Acts, IsPassing, IsTurning, Passes, Turning, acting, passing, settled, turned}
use Rattle.law_forest.proofs.Turning.{acts_chosen, after_keeps, along}
use Rattle.law_turns.specs.Tables.{IsOf, Refers}
use Rattle.law_turns.specs.Links.{AreServed, IsCallerOf, IsLinked, handles_items, state_at}
use Rattle.law_turns.specs.Tables.{HasTables}
use Rattle.law_turns.specs.Virtual.{AreGuests}
use Rattle.law_turns.specs.Waiting.{AreBlocked, AreDeadlines}
use Rattle.law_turns.proofs.Courses.{Courses, IsSelf, MayCome, deed_course, edited_length, has_caller, of_call}
use Rattle.law_turns.proofs.Blocking.{applied_blocked, bare_blocked, edited_blocked, woken_blocked, joined_blocked}
use Rattle.law_turns.proofs.Deadlines.{deed_deadlines, joined_deadlines, passing_deadlines}
use Rattle.law_turns.proofs.Passing.{IsEnding, passing_blocked, passing_contexts, passing_ending, passing_placed}
use Rattle.law_turns.proofs.Chosen.{choice_acts}
use Rattle.law_turns.proofs.Links.{IsNewborn, is_taking, served_more}
use Rattle.law_turns.proofs.Referring.{Asks, Follows, TellsIn, deed_asks}
use Rattle.law_turns.proofs.Serving.{IsActor, acts_on, actor_of, awaited, blocked_there, ends_on, exit_reaches, is_blocked, replies_on, reached_there, send_reaches, sends_on, stays_on, wakes_on}
use Rattle.law_turns.proofs.Setting.{entry_other, get_last, joined_other}
use Rattle.law_turns.proofs.TablesKept.{AreThere, IsPlaced, applied_tables, contexts_length, edited_tags, owner_thread, set_there, settled_tables, transfer_there, with_memory}
use Rattle.law_turns.proofs.Virtual.{AreAmong, among_of, applied_guests, ended_among, caller_thread, guests_of, is_guest_deed, reached_thread, root_among, thread_does, joined_among}

abbrev Served : KernelState → Type 0
Served k = AreServed (is_local_thread k) k.contexts

pub record TablesFit (k : KernelState) : Type 0 where
  pub tables : HasTables k
  pub served : AreServed (is_local_thread k) k.contexts
  pub blocked : AreBlocked k.contexts k.semaphores
  pub guests : AreGuests k
  pub late : AreDeadlines k.contexts k.times.deadlines

-- A DEED AND TABLES

pub caller_there : (k : KernelState) (ec caller : ℕ) (mark : Mark) → IsActor k.contexts ec → IsCallerOf k ec caller mark → Served k → is_some (context_at k caller) ≡ true
caller_there k ec caller mark actor keeps served = ap is_some (awaited (is_local_thread k) k.contexts ec caller mark actor keeps served).there

stored_thread : (k : KernelState) (ec : ℕ) (s : Option Store) → IfSome (store_words (address_space k ec) ec s) (λ w. is_thread k w.0 ≡ true)
stored_thread k ec None = tt
stored_thread k ec (Some s) = by_words (words_at (address_space k ec) s.address) refl
  where
    by_words : (o : Option (List ℕ)) → words_at (address_space k ec) s.address ≡ o → IfSome (words_stored ec s o) (λ w. is_thread k w.0 ≡ true)
    by_words None is = tt
    by_words (Some m) is = owner_thread (is_thread k ec) (message k ec) _ m is

item_thread : (k : KernelState) (ec item : ℕ) (words : Option ItemWords) → is_thread k ec ≡ true → TablesFit k → TellsIn k ec words →
    IfSome (item_words k item words) (λ w. is_thread k w.0 ≡ true)
item_thread k ec item None thread h tells = tt
item_thread k ec item (Some w) thread h (inl same) = rw same thread
item_thread k ec item (Some w) thread h (inr calls) = caller_thread k ec w.ec mark.Call h.guests calls refl

words_placed : (k : KernelState) (ec : ℕ) (d : Deed) → (is_guest_deed d ≡ false → is_thread k ec ≡ true) → Asks k ec d → TablesFit k → IfSome (words_by k ec d) (λ w. is_thread k w.0 ≡ true)
words_placed k ec Steps thread asks h = stored_thread k ec (store_of (instruction k ec))
words_placed k ec (Calls handler ip identifier items) thread asks h = reached_thread k ec handler (send_reaches k.contexts ec handler asks.flag asks.admits) h.served
words_placed k ec (Sends handler ip identifier mtd reason q0 q1) thread asks h = reached_thread k ec handler (exit_reaches k.contexts ec handler asks.admits) h.served
words_placed k ec (Replies caller mark.Call items) thread asks h = caller_thread k ec caller mark.Call h.guests asks refl
words_placed k ec (Finishes item end words after) thread asks h = item_thread k ec item words (thread refl) h asks.0
words_placed k ec other thread asks h = tt

-- one after another: the second is there still
then_there : (cs : Contexts) (e n : ℕ) (first : Edit) → is_some (ec_in cs e) ≡ true → is_some (ec_in cs n) ≡ true →
    (is_some (ec_in cs e) ≡ true) × ((is_some (ec_in (edit_at cs e first) n) ≡ true) × Unit {0})
then_there cs e n first there also = (there, (set_there cs e (edited (ec_of cs e) first) n also, tt))

steps_there : (cs : Contexts) (ec : ℕ) (o : Once) → is_some (ec_in cs ec) ≡ true → AreThere cs (steps_by ec o)
steps_there cs ec (Raised reason q0 q1) there = tt
steps_there cs ec (Went regs store) there = (there, tt)

recalls_there : (cs : Contexts) (whose : ℕ) (o : Option EcState) → ec_in cs whose ≡ o → AreThere cs (recalls_by whose o)
recalls_there cs whose None is = tt
recalls_there cs whose (Some x) is = (ap is_some is, tt)

wakes_there : (k : KernelState) (ec sm : ℕ) (whom : Option ℕ) → is_some (context_at k ec) ≡ true → woken (semaphore k.semaphores sm) ≡ Ok whom → TablesFit k →
    AreThere k.contexts ((ec, Answers Success None) ∷ wakes_by whom)
wakes_there k ec sm None there is h = (there, tt)
wakes_there k ec sm (Some w) there is h = then_there k.contexts ec w (Answers Success None) there (ap is_some (blocked_there k.contexts w sm (woken_blocked k sm w is h.blocked)))

follows_there : (k : KernelState) (ec : ℕ) (m : List ℕ) (after : Sequel) → IsActor k.contexts ec → Follows k ec after → TablesFit k → AreThere k.contexts (follows_by ec m after)
follows_there k ec m (sequel.Replied caller came) actor follows h = then_there k.contexts ec caller Parks (ap is_some actor.there) (caller_there k ec caller came actor follows h.served)
follows_there k ec m other actor follows h = (ap is_some actor.there, tt)

edits_placed : (k : KernelState) (ec : ℕ) (d : Deed) → IsActor k.contexts ec → Asks k ec d → TablesFit k → AreThere k.contexts (edits_by k ec d)
edits_placed k ec Rests actor asks h = tt
edits_placed k ec (Gives child cursor) actor asks h = tt
edits_placed k ec (Skips reason place cursor) actor asks h = tt
edits_placed k ec (Removes leaf) actor asks h = tt
edits_placed k ec Steps actor asks h = steps_there k.contexts ec (instruction k ec) (ap is_some actor.there)
edits_placed k ec (Recalls whose) actor asks h = (ap is_some actor.there, recalls_there (edit_at k.contexts ec (Answers Success None)) whose _ refl)
edits_placed k ec (Calls handler ip identifier items) actor asks h =
    then_there k.contexts ec handler (Becomes (Calling handler)) (ap is_some actor.there) (reached_there k.contexts ec handler (send_reaches k.contexts ec handler asks.flag asks.admits))
edits_placed k ec (Sends handler ip identifier mtd reason q0 q1) actor asks h =
    then_there k.contexts ec handler (Becomes (Calling handler)) (ap is_some actor.there) (reached_there k.contexts ec handler (exit_reaches k.contexts ec handler asks.admits))
edits_placed k ec (Replies caller came true) actor asks h = (ap is_some actor.there, tt)
edits_placed k ec (Replies caller came false) actor asks h = then_there k.contexts ec caller Parks (ap is_some actor.there) (caller_there k ec caller came actor asks h.served)
edits_placed k ec (Finishes item end words after) actor asks h = follows_there k ec _ after actor asks.1 h
edits_placed k ec (Ups sm whom) actor asks h = wakes_there k ec sm whom (ap is_some actor.there) asks.1 h
edits_placed k ec other actor asks h = (ap is_some actor.there, tt)

made_placed : (k : KernelState) (ec : ℕ) (d : Deed) → Asks k ec d → IfSome (made_by d) (λ m. Refers k.objects (object_of m))
made_placed k ec (Makes call target made) asks = asks
made_placed k ec other asks = tt

transfer_placed : (k : KernelState) (ec : ℕ) (d : Deed) → is_some (context_at k ec) ≡ true → IfSome (transfer_by k ec d) (λ t. is_some (context_at k t.0) ≡ true)
transfer_placed k ec (Gives child cursor) there = there
transfer_placed k ec (Skips reason place cursor) there = there
transfer_placed k ec (Finishes item end words after) there = there
transfer_placed k ec other there = tt

identifier_placed : (k : KernelState) (ec : ℕ) (d : Deed) → Asks k ec d → IfSome (identifier_by d) (λ p. IsOf k.objects is_pt p.0)
identifier_placed k ec (Names pt identifier) asks = asks
identifier_placed k ec other asks = tt

pub effect_placed : (k : KernelState) (ec : ℕ) (d : Deed) → IsActor k.contexts ec → (is_guest_deed d ≡ false → is_thread k ec ≡ true) → Asks k ec d → TablesFit k → IsPlaced k (effect k ec d)
effect_placed k ec d actor thread asks h = record {
  made = made_placed k ec d asks;
  edits = edits_placed k ec d actor asks h;
  words = words_placed k ec d thread asks h;
  transfer = transfer_placed k ec d (ap is_some actor.there);
  identifier = identifier_placed k ec d asks;
}

-- A DEED AND CALLERS

none_born : (is_local : Bool) → IsNewborn is_local None
none_born is_local = record {
  caller = refl;
  calls = λ h is. cc;
  well = record {
    parked = λ is. absurd (cc);
    serving = λ local there works. absurd (cc);
    kept = λ c mark keeps. absurd (cc);
    giving = λ gives. absurd (cc);
    taking = λ c its keeps is. absurd (cc);
  };
}

state_same : (s t : State) → Some s ≡ Some t → s ≡ t
state_same s t same = cc

-- one without a caller, that begins by itself
alone_born : (x : EcState) (s : State) → x.caller ≡ None → x.state ≡ s → ((h : ℕ) → s ≢ Calling h) → is_parked (Some s) ≡ false → handles_items (Some s) ≡ false →
    is_taking (Some s) ≡ false → IsNewborn false (Some x)
alone_born x s none is calls works gives takes = record {
  caller = none;
  calls = λ h calling. calls h (sym is ∙ state_same x.state (Calling h) calling);
  well = record {
    parked = λ parks. absurd (let not : is_parked (Some x.state) ≡ false = ap (λ (t : State). is_parked (Some t)) is ∙ works in cc);
    serving = λ local there working. absurd (cc);
    kept = λ c mark keeps. absurd (cc);
    giving = λ giving. absurd (let not : handles_items (Some x.state) ≡ false = ap (λ (t : State). handles_items (Some t)) is ∙ gives in cc);
    taking = λ c its keeps takes. absurd (cc);
  };
}

born : (n : ℕ) (made : NewObject) → IsNewborn (is_local_in (Some (object_of made))) (context_of n made)
born n new.Pd = none_born false
born n (new.Ec pd cpu Local sp event) = record {
  caller = refl;
  calls = λ h is. cc;
  well = record {
    parked = λ is. (refl, refl);
    serving = λ local there works. absurd (cc);
    kept = λ c mark keeps. absurd (cc);
    giving = λ gives. absurd (cc);
    taking = λ c its keeps is. absurd (cc);
  };
}
born n (new.Ec pd cpu Global sp event) = alone_born _ Fresh refl refl (λ h is. cc) refl refl refl
born n (new.Ec pd cpu Vcpu sp event) = alone_born _ Fresh refl refl (λ h is. cc) refl refl refl
born n (new.Sc ec cpu priority quantum) = none_born false
born n (new.Pt ec mtd ip) = none_born false
born n (new.Sm count) = none_born false

-- an object more, which none serves
locals_stay : (os : List Object) (o : Object) (h : ℕ) → h ≢ length os → is_local_in (slice_get (os ++ o ∷ []) h) ≡ is_local_in (slice_get os h)
locals_stay os o h other = ap is_local_in (joined_other os o h other)

joined_served : (os : List Object) (cs : Contexts) (made : Option NewObject) → length cs ≡ length os → AreServed (λ h. is_local_in (slice_get os h)) cs →
    AreServed (λ h. is_local_in (slice_get (joined os (option_map object_of made)) h)) (joined cs (option_map (context_of (length os)) made))
joined_served os cs None as_many served = served
joined_served os cs (Some made) as_many served =
    let all = os ++ object_of made ∷ [] in
    let new : IsNewborn (is_local_in (slice_get all (length cs))) (context_of (length os) made) = rw (as_many, get_last os (object_of made)) (born (length os) made) in
    served_more (λ h. is_local_in (slice_get os h)) (λ h. is_local_in (slice_get all h)) cs (context_of (length os) made) served new
    (λ h other. locals_stay os (object_of made) h (λ same. other (same ∙ sym as_many)))

-- what a state to which a context comes by itself has
record IsPlain (k : KernelState) (ec : ℕ) (s : State) : Type 0 where
  calls : (h : ℕ) → s ≢ Calling h
  works : is_parked (Some s) ≡ false
  gives : handles_items (Some s) ≡ true → IsSome (context k ec).caller
  takes : is_taking (Some s) ≡ false

plain : (k : KernelState) (ec : ℕ) (d : Deed) (s : State) → MayCome k ec d s → IsPlain k ec s
plain k ec d (Calling h) may = absurd may
plain k ec d Parked may = absurd may
plain k ec d (Granting None) may = absurd may
plain k ec d Replying may = record { calls = λ h is. cc; works = refl; gives = λ is. has_caller k ec may.caller may.its may.keeps; takes = refl }
plain k ec d other may = record { calls = λ h is. cc; works = refl; gives = λ is. absurd cc; takes = refl }

-- the woken context is another than the context that acts
pub woken_apart : (k : KernelState) (ec sm w : ℕ) → IsActor k.contexts ec → state_in k.contexts w ≡ Some (Blocked sm) → w ≢ ec
woken_apart k ec sm w actor waits same =
    let at = ap (λ (n : ℕ). is_blocked (state_in k.contexts n)) (sym same) ∙ ap is_blocked waits in
    let none = actor.unblocked in absurd cc

served_courses : (k : KernelState) (ec : ℕ) (d : Deed) → IsActor k.contexts ec → AreBlocked k.contexts k.semaphores → Served k → Courses k ec d (λ cs all. AreServed (is_local_thread k) cs)
served_courses k ec d actor blocked served = record {
  rests = λ to. served;
  steps = λ regs is. stays_on (is_local_thread k) k.contexts ec (record (context k ec) { regs = regs }) (ap is_some actor.there) refl refl refl served;
  stays = λ cs all w x y is self same h. remains_on cs w x y is self same h;
  goes = λ y self to may. goes_on y self may;
  sends = λ handler its ip identifier items to of reached.
      sends_on (is_local_thread k) k.contexts ec handler its ip identifier items (of_call d handler ip identifier items its of) actor reached served;
  replies = λ caller its m to keeps. replies_on (is_local_thread k) k.contexts ec caller its m actor keeps served;
  ups = λ sm to is. answers;
  wakes = λ sm w to is.
      let waits = woken_blocked k sm w is blocked in
      wakes_on (is_local_thread k) (with_ec k.contexts ec (answered (context k ec) Success None)) w sm
      (ap state_at (entry_other k.contexts ec w (answered (context k ec) Success None) (woken_apart k ec sm w actor waits)) ∙ waits) answers;
  downs = λ sm to is. answers;
  blocks = λ sm to is answer. acts_on (is_local_thread k) k.contexts ec _ actor refl refl (λ h same. cc) refl (λ gives. absurd cc) refl served;
}
  where
    goes_on : (y : EcState) → IsSelf (context k ec) y → MayCome k ec d y.state → AreServed (is_local_thread k) (with_ec k.contexts ec y)
    goes_on y self may =
        let its = plain k ec d y.state may in
        acts_on (is_local_thread k) k.contexts ec y actor self.caller self.cpu its.calls its.works its.gives its.takes served

    answers : AreServed (is_local_thread k) (with_ec k.contexts ec (answered (context k ec) Success None))
    answers = goes_on (answered (context k ec) Success None) (record { id = refl; cpu = refl; caller = refl; regs = λ gives. absurd cc }) tt

    remains_on : (cs : Contexts) (w : ℕ) (x y : EcState) → ec_in cs w ≡ Some x → IsSelf x y → y.state ≡ x.state → AreServed (is_local_thread k) cs →
        AreServed (is_local_thread k) (with_ec cs w y)
    remains_on cs w x y is self same h =
        let at : ec_of cs w ≡ x = ap context_in is in
        stays_on (is_local_thread k) cs w y (ap is_some is) (self.caller ∙ ap (λ (z : EcState). z.caller) (sym at)) (self.cpu ∙ ap (λ (z : EcState). z.cpu) (sym at))
        (same ∙ ap (λ (z : EcState). z.state) (sym at)) h

applied_served : (k : KernelState) (ec : ℕ) (d : Deed) → IsActor k.contexts ec → Asks k ec d → AreBlocked k.contexts k.semaphores → HasTables k → Served k → Served (applied k (effect k ec d))
applied_served k ec d actor asks blocked h served =
    joined_served k.objects (all_edited k.contexts (edits_by k ec d)) (made_by d) (edited_length k.contexts (edits_by k ec d) ∙ contexts_length k h)
    (deed_course k ec (λ cs all. AreServed (is_local_thread k) cs) d actor asks (served_courses k ec d actor blocked served))

-- A TURN

pub gives_there : (k : KernelState) (ec : ℕ) → is_some (context_at k ec) ≡ true → TablesFit k → option_map is_some (slice_get k.transfers ec) ≡ Some true
gives_there k ec there h = transfer_there k ec there h.tables

applied_fits : (k : KernelState) (ec : ℕ) → IsActor k.contexts ec → TablesFit k → TablesFit (applied k (effect k ec (deed k ec)))
applied_fits k ec actor h =
    let asks = deed_asks k ec in
    let thread = thread_does k ec (ap is_some actor.there) h.tables h.guests in record {
      tables = applied_tables k (effect k ec (deed k ec)) (effect_placed k ec (deed k ec) actor thread asks h) h.tables;
      served = applied_served k ec (deed k ec) actor asks h.blocked h.tables h.served;
      blocked = applied_blocked k ec (deed k ec) actor asks h.tables h.served h.blocked;
      guests = applied_guests k ec (deed k ec) actor thread asks h.tables h.served h.guests;
      late = joined_deadlines (length k.objects) _ _ (made_by (deed k ec))
          (deed_deadlines k _ ec (deed k ec) actor asks h.tables (edited_tags k.contexts (edits_by k ec (deed k ec)) (edits_placed k ec (deed k ec) actor asks h)) h.blocked h.late
          (edited_blocked k ec (deed k ec) actor asks h.tables h.served h.blocked));
    }

settled_fits : (s : KernelState) (cpu : ℕ) (t : Turning) → TablesFit s → TablesFit (settled s cpu t)
settled_fits s cpu t h = record {
  tables = settled_tables s cpu t h.tables;
  served = h.served;
  blocked = h.blocked;
  guests = guests_of _ (among_of s h.guests);
  late = h.late;
}

pub chosen_acts : (k : KernelState) (cpu : ℕ) (c : Candidate) → next_to_act k cpu ≡ Some c → acts k.contexts c.actor ≡ true
chosen_acts k cpu c chosen =
    subst (λ (o : Option Candidate). IfSome o (λ d. acts k.contexts d.actor ≡ true)) (acts_chosen k cpu c chosen).0 (choice_acts k cpu)

pub entry_acts : (cs : Contexts) (o : Option EcState) → acts_as cs (option_map (λ x. x.state) o) ≡ true → is_some o ≡ true
entry_acts cs None h = absurd (cc)
entry_acts cs (Some x) h = refl

-- what comes by itself: at most one blocked context goes on
pub passing_served : (k : KernelState) (p : Passing) → IsEnding k.contexts (passing_ends k p) → Served k → AreServed (is_local_thread k) (all_edited k.contexts (ends_by (passing_ends k p)))
passing_served k p ending served =
    passing_contexts (λ cs. AreServed (is_local_thread k) cs) k.contexts (passing_ends k p) ending served
    (λ w sm status is. ends_on (is_local_thread k) k.contexts w sm status is served)

passing_fits : (k : KernelState) (cpu : ℕ) (p : Passing) → IsPassing k cpu p → TablesFit k → TablesFit (applied k (passing_effect k p))
passing_fits k cpu p comes h =
    let ending = passing_ending k cpu p comes h.blocked h.late in
    let placed = passing_placed k p ending in
    let blocked = passing_blocked k cpu p comes h.blocked h.late in record {
      tables = applied_tables k (passing_effect k p) placed h.tables;
      served = passing_served k p ending h.served;
      blocked = blocked;
      guests = guests_of (applied k (passing_effect k p))
          (passing_contexts (λ cs. AreAmong k.objects cs) k.contexts (passing_ends k p) ending (among_of k h.guests) (λ w sm status is. ended_among k w status (among_of k h.guests)));
      late = passing_deadlines k cpu _ p comes (edited_tags k.contexts (ends_by (passing_ends k p)) placed.edits) h.blocked h.late blocked;
    }

pub turned_fits : (k : KernelState) (cpu : ℕ) (t : Turning) (e : Event) → IsTurning k cpu t e → TablesFit k → TablesFit (turned k cpu t)
turned_fits k cpu t e (Acts c chosen is event) h =
    subst (λ (u : Turning). TablesFit (turned k cpu u)) (sym is)
    (settled_fits _ cpu (acting k c) (applied_fits k c.actor (actor_of k.contexts c.actor (chosen_acts k cpu c chosen)) h))
turned_fits k cpu t e (Passes p comes is event) h = subst (λ (u : Turning). TablesFit (turned k cpu u)) (sym is) (settled_fits _ cpu (passing k p) (passing_fits k cpu p comes h))

pub after_fits : (k : KernelState) (cpu : ℕ) → TablesFit k → TablesFit (after k cpu)
after_fits k cpu h = after_keeps TablesFit turned_fits k cpu h

images_fit : (k : KernelState) (images : List Image) → TablesFit k → TablesFit (with_images k images)
images_fit k [] h = h
images_fit k (image ∷ images) h = images_fit (with_image k image) images (record {
  tables = with_memory k _ h.tables;
  served = h.served;
  blocked = h.blocked;
  guests = guests_of (with_image k image) (among_of k h.guests);
  late = h.late;
})

no_link : (c h : ℕ) → IsLinked c None h None
no_link c h = record { known = λ is. absurd (cc); waits = λ mark keeps lives. absurd (cc); cpu = λ mark keeps. refl }

root_served : (root : Root) → AreServed (λ h. is_local_in (slice_get (root_objects root) h)) (None ∷ Some (root_context root) ∷ None ∷ [])
root_served root =
    let local : ℕ → Bool = λ h. is_local_in (slice_get (root_objects root) h) in
    let none : AreServed local [] = record { linked = λ c h. no_link c h; well = λ h. (none_born (local h)).well } in
    served_more local local (None ∷ Some (root_context root) ∷ []) None
    (served_more local local (None ∷ []) (Some (root_context root)) (served_more local local [] None none (none_born false) (λ h other. refl)) (alone_born (root_context root) Ready refl refl (λ h is. cc) refl refl refl) (λ h other. refl))
    (none_born false) (λ h other. refl)

none_late : {cs : Contexts} → AreDeadlines cs (None ∷ None ∷ None ∷ [])
none_late zero d is = absurd cc
none_late (suc zero) d is = absurd cc
none_late (suc (suc zero)) d is = absurd cc
none_late (suc (suc (suc n))) d is = absurd cc

pub zeros_length : (n : ℕ) → length {A = ℕ} (replicate n 0) ≡ n
zeros_length zero = refl
zeros_length (suc n) = ap suc (zeros_length n)

-- and a source
pub source_fits : (k : KernelState) (s : Source) → TablesFit k → TablesFit (with_source k s)
source_fits k s h =
    let tables = made_fits k 0 (length k.objects) (new.Sm 0) tt h.tables in record {
      tables = record {
        contexts = tables.contexts;
        messages = tables.messages;
        transfers = tables.transfers;
        budgets = tables.budgets;
        identifiers = tables.identifiers;
        semaphores = tables.semaphores;
        guests = tables.guests;
        refer = tables.refer;
        deadlines = tables.deadlines;
        clocks = tables.clocks;
      };
      served = joined_served k.objects k.contexts (Some (new.Sm 0)) (contexts_length k h.tables) h.served;
      blocked = joined_blocked (length k.objects) k.contexts k.semaphores (Some (new.Sm 0)) h.blocked;
      guests = guests_of (with_source k s) (joined_among k.objects k.contexts (Some (new.Sm 0)) (contexts_length k h.tables) (among_of k h.guests));
      late = joined_deadlines (length k.objects) k.contexts k.times.deadlines (Some (new.Sm 0)) h.late;
    }

pub image_fits : (s : Scenario) → TablesFit (with_images (bare s.cpus s.ram s.consoles s.root) s.images)
image_fits s = images_fit (bare s.cpus s.ram s.consoles s.root) s.images (record {
  tables = record { contexts = refl; messages = refl; transfers = refl; budgets = refl; identifiers = refl; semaphores = refl; guests = refl; refer = (tt, (refl, (refl, tt))); deadlines = refl; clocks = zeros_length s.cpus };
  served = root_served s.root;
  blocked = bare_blocked s.root;
  guests = guests_of (bare s.cpus s.ram s.consoles s.root) (root_among s.root);
  late = none_late;
})

pub boot_fits : (s : Scenario) → TablesFit (boot s)
boot_fits s = sources_keep TablesFit source_fits (with_images (bare s.cpus s.ram s.consoles s.root) s.images) s.sources (image_fits s)

pub boot_run_fits : (s : Scenario) (turns : List ℕ) → TablesFit (run (boot s) turns)
boot_run_fits s turns = along TablesFit (record { begins = boot_fits; turns = turned_fits }) s turns
