-- A plain step and a turn of any other processor that is apart from it change places.
use Rattle.std.proofs.Common.{◌≡◌, ◌≢◌, ◌<◌, ℕ, ◌+◌, List, [], ◌∷◌, length, refl, sym, ap, ap₂, ◌∙◌, subst}
use Rattle.std.specs.Prelude.{Bool, true, false, IfSome, IsSome, is_some, slice_get, slice_set, Option, Some, None, Contains, option_map, option_and_then, if◌then◌else◌}
use Rattle.std.proofs.lemmas.List.{length-map}
use Rattle.std.proofs.lemmas.Option.{same_Some}
use Rattle.rv_model.specs.Registers.{Registers}
use Rattle.rv_model.specs.Step.{Once, Store}
use Rattle.nova_range.specs.Rights.{write_right}
use Rattle.nova_model.specs.AddressSpaces.{AddressSpace, frame_for}
use Rattle.nova_model.specs.Choice.{Candidate, choice, choose, next_to_act}
use Rattle.nova_model.specs.Creation.{context_of, object_of, words_of}
use Rattle.nova_model.specs.Deeds.{address_space, deed, instruction}
use Rattle.nova_model.specs.Delegations.{reach}
use Rattle.nova_model.specs.Inputs.{frame_of_store, in_ram, store_of}
use Rattle.nova_model.specs.Memory.{Memory}
use Rattle.nova_model.specs.Runs.{after}
use Rattle.nova_model.specs.State.{Contexts, KernelState, Stirs, context, context_in, ec_in, entry, message_in, pd_of, processor_of}
use Rattle.nova_model.specs.Times.{Entry, Times, clock, next_moment, ticked}
use Rattle.nova_model.specs.Turn.{answer_of, state_after, turn}
use Rattle.nova_model.specs.declared.context.EcState.{EcState}
use Rattle.nova_model.specs.declared.deed.Deed.{Deed}
use Rattle.nova_model.specs.declared.deed.Deed.TheVariants.{Steps}
use Rattle.nova_model.specs.declared.event.Event.{Event}
use Rattle.nova_model.specs.declared.event.Turn.TheVariants.{Idle}
use Rattle.law_forest.specs.Effects.{Edits, Effect, all_edited, applied, branched, edit_at, edited, joined, memory_with, put, store_by, store_words}
use Rattle.law_forest.specs.Turns.{Acts, Comes, Idles, IsTurning, Passes, Takes, Turning, turned}
use Rattle.law_forest.proofs.Turning.{acts_chosen, acts_next, comes, none_taken}
use Rattle.law_turns.specs.Keeping.{IsKept}
use Rattle.law_turns.specs.Moments.{IsEarly}
use Rattle.law_turns.specs.Tables.{has_words}
use Rattle.law_turns.proofs.Moments.{early_calm, next_clocks}
use Rattle.law_turns.proofs.Setting.{entry_other, set_both, set_length}
use Rattle.law_turns.proofs.Courses.{edited_length}
use Rattle.law_isolation.specs.Sound.{IsSound}
use Rattle.law_alike.specs.Alike.{AreStampsGiven, AreTimesAlike, IsAlike, TellsNoTicks, tells_ticks, uncounted}
use Rattle.law_alike.proofs.Moments.{times_itself}
use Rattle.law_alike.proofs.Turns.{itself, long_budgets}
use Rattle.law_leases.proofs.Nearing.{turn_early}
use Rattle.law_swaps.specs.Touches.{AreSwapped, ChangesWithin, IsPlain, IsTouched, Touch, are_apart, contexts_changed, frame_stored_to, processor_given}
use Rattle.law_swaps.proofs.Beside.{Avoid, IsBeside, avoided, below_at, beside, calm_early, choice_beside, joined_below, number_at, own_stays}
use Rattle.law_swaps.proofs.Choosing.{IsHome, at_home, choice_same}
use Rattle.law_swaps.proofs.Chosen.{chosen_still, somebody}
use Rattle.law_swaps.proofs.Effecting.{with_store}
use Rattle.law_swaps.proofs.Lists.{IsApart, apart, none_shared}
use Rattle.law_swaps.proofs.Paying.{ArePaid, are_paid, joined_set, lefts_paid_both, order_paid_both}
use Rattle.law_swaps.proofs.Plain.{answer_is, chosen_over, flipped, next_over, plain_step, stores_in, ticked_both}
use Rattle.law_swaps.proofs.Seeing.{IsSeenSame, executes_same, frames_same, instruction_same, own_same, page_same, plain_same, reads_same, touched_same}
use Rattle.law_swaps.proofs.Stepping.{IsStepped, step_is, stepped_by}
use Rattle.law_swaps.proofs.Storing.{AreOwn, Its, Nobodys, Reaches, are_own, bytes_kept, frames_kept, memory_after, same_store, same_words, stores_over, words_both, words_stay}
use Rattle.law_swaps.proofs.Twins.{AreBoth, IsTaken, deeds_both, looks_both, seen_both, taken, twin_of}

-- WHAT THE STEP SEES AFTER IT

long_messages : (k : KernelState) → IsKept k → length k.messages ≡ length k.objects
long_messages k kept = sym (length-map k.messages is_some) ∙ ap length kept.tables.messages ∙ length-map k.objects has_words

abbrev Messages : Type 0
Messages = List (Option (List ℕ))

put_length : (ms : Messages) (o : Option (ℕ × List ℕ)) → length (put ms o) ≡ length ms
put_length ms None = refl
put_length ms (Some (n, w)) = set_length ms n (Some w)

put_other : (ms : Messages) (o : Option (ℕ × List ℕ)) (g : ℕ) → ((n : ℕ) (w : List ℕ) → o ≡ Some (n, w) → n ≢ g) → slice_get (put ms o) g ≡ slice_get ms g
put_other ms None g far = refl
put_other ms (Some (n, w)) g far = words_stay ms n g (Some (n, w)) (Its w refl) (λ same. far n w refl (sym same))

-- the frames to which a deed stores are among those that are touched
stores_any : (k : KernelState) (q : ℕ) (b : Touch) (t : Turning) (e : Event) → IsTouched k q b → IsTurning k q t e → Reaches k.memory.ram t.effect.store (Contains b.writes)
stores_any k q b t e touch (Passes w comes is event) a s frame has goes here =
    absurd (let both : None ≡ Some (a, s) = sym (ap (λ (u : Turning). u.effect.store) is) ∙ has in cc)
stores_any k q b t e touch (Acts d next is event) a s frame has goes here = by_deed (deed k d.actor) refl (sym (ap (λ (u : Turning). u.effect.store) is) ∙ has)
  where
    by_store : (o : Option Store) → option_map {U = AddressSpace × Store} (λ x. (address_space k d.actor, x)) o ≡ Some (a, s) → (o ≡ Some s) × (address_space k d.actor ≡ a)
    by_store None none = absurd (cc)
    by_store (Some x) both =
        let pair : ◌≡◌ {A = AddressSpace × Store} (address_space k d.actor, x) (a, s) = same_Some (address_space k d.actor, x) (a, s) both in
        (ap (λ (p : AddressSpace × Store). Some (p.1)) pair, ap (λ (p : AddressSpace × Store). p.0) pair)

    by_deed : (x : Deed) → deed k d.actor ≡ x → store_by k d.actor x ≡ Some (a, s) → Contains b.writes frame
    by_deed Steps does stores =
        let its = by_store (store_of (instruction k d.actor)) stores in
        touch.writes d frame next
        (ap (frame_stored_to k d.actor) does
        ∙ ap (option_and_then (frame_of_store k d.actor)) its.0
        ∙ ap (option_and_then (in_ram k)) (ap (λ (x : AddressSpace). frame_for x write_right s.address) its.1 ∙ goes)
        ∙ ap (λ (t : Bool). if t then Some frame else None) here)
    by_deed other does stores = absurd (cc)

-- a plain step after another turn is the one before it
seen_after : (k : KernelState) (p q : ℕ) (a b : Touch) (c : Candidate) (t : Turning) (e : Event) → IsSound k → p ≢ q → IsHome k p c → next_to_act k p ≡ Some c → IsApart p a b → IsTouched k q b →
    IsTurning k q t e → after k q ≡ turned k q t → IsSeenSame k (turned k q t) p c a.reads
seen_after k p q a b c t e sound other home next far touch turning state = record {
  first = next;
  second = acts_next (turned k q t) p c (choice_beside k t p q sound.kept by ∙ (acts_chosen k p c next).0)
      (early_calm (turned k q t).times p 0
      (subst (λ (x : KernelState). IsEarly x.times p 1) state (turn_early k q p 1 sound (λ same. other (sym same)) (calm_early k.times p (acts_chosen k p c next).1))));
  object = joined_below k.objects (option_map object_of t.effect.made) c.actor (subst (λ (n : ℕ). c.actor < n) sound.whole.places below);
  context = own_stays k.contexts t.effect.edits (option_map (context_of (length k.objects)) t.effect.made) c.actor (avoided k t.effect p c.actor by.elsewhere number) below;
  words =
      ap (λ (o : Option (Option (List ℕ))). message_in (entry o))
      (joined_below (put k.messages t.effect.words) (option_map (λ m. words_of (object_of m)) t.effect.made) c.actor
      (subst (λ (n : ℕ). c.actor < n) (sym (put_length k.messages t.effect.words ∙ long_messages k sound.kept ∙ sym sound.whole.places)) below)
      ∙ put_other k.messages t.effect.words c.actor (λ n w is same. by.elsewhere.words n w is (ap (processor_of k) same ∙ number)));
  pages = λ page. ap (λ (x : KernelState). reach x.delegations.list (pd_of k c.actor) page) (sym state) ∙ touch.moves far.still (pd_of k c.actor) page;
  size = λ frame. frames_kept k.memory t.effect.store frame;
  bytes = λ frame listed. bytes_kept k.memory t.effect.store frame (λ x s g has goes here same. none_shared b.writes a.reads g frame far.unread (stores_any k q b t e touch turning x s g has goes here) listed (sym same));
}
  where
    by : IsBeside k t p q
    by = beside k p q t e b.meets sound.kept other far.unmet (somebody k p c next) turning (touch.meets t e turning)

    number : processor_of k c.actor ≡ p
    number = number_at k c.actor p sound.kept home.processor

    below : c.actor < length k.contexts
    below = below_at k.contexts c.actor p home.processor

-- BOTH TURNS

edits_over : (cs : Contexts) (g : ℕ) (x : EcState) (es : Edits) → Avoid es g → all_edited (slice_set cs g (Some x)) es ≡ slice_set (all_edited cs es) g (Some x)
edits_over cs g x [] far = refl
edits_over cs g x ((n, e) ∷ es) far =
    ap (λ (l : Contexts). all_edited l es)
    (ap (λ (o : Option EcState). slice_set (slice_set cs g (Some x)) n (Some (edited (context_in o) e))) (entry_other cs g n x (λ same. far.0 (sym same)))
    ∙ set_both cs g n (Some x) (Some (edited (context_in (ec_in cs n)) e)) (λ same. far.0 (sym same)))
    ∙ edits_over (edit_at cs n e) g x es far.1

joined_put : (ms : Messages) (g : ℕ) (o : Option (ℕ × List ℕ)) (more : Option (Option (List ℕ))) → AreOwn g o → g < length ms → joined (put ms o) more ≡ put (joined ms more) o
joined_put ms g o more (Nobodys none) below = ap (λ w. joined (put ms w) more) none ∙ sym (ap (put (joined ms more)) none)
joined_put ms g o more (Its words is) below = ap (λ w. joined (put ms w) more) is ∙ joined_set ms more g (Some words) below ∙ sym (ap (put (joined ms more)) is)

put_both : (ms : Messages) (g : ℕ) (o w : Option (ℕ × List ℕ)) → AreOwn g o → ((n : ℕ) (l : List ℕ) → w ≡ Some (n, l) → n ≢ g) → put (put ms o) w ≡ put (put ms w) o
put_both ms g o None own far = refl
put_both ms g o (Some (n, l)) own far = words_both ms g n o (Some (n, l)) own (Its l refl) (far n l refl)

-- of the turn after the step, as that before it
abbrev turning_with : Turning → Option (AddressSpace × Store) → (ℕ → Bool) → Turning
turning_with t store stirs = record { effect = with_store t.effect store; stirs = stirs; charge = t.charge }

abbrev framed : KernelState → Contexts → Messages → Memory → KernelState
framed k contexts messages memory = record (uncounted k) { contexts = contexts; messages = messages; memory = memory }

rests_any : (k : KernelState) (p q : ℕ) (a b : Touch) (c : Candidate) (regs : Registers) (store : Option Store) (stirs more : Stirs) (t : Turning) (e : Event) (other : Option (AddressSpace × Store)) (stirred : ℕ → Bool) →
    IsSound k → AreBoth k p q a b c regs store stirs → IsTouched k q b → IsTurning k q t e → ((m : Memory) → memory_with m other ≡ memory_with m t.effect.store) → IsSeenSame k (turned k q t) p c a.reads →
    uncounted (stepped_by (turned k q t) p c regs store more) ≡ uncounted (turned (stepped_by k p c regs store stirs) q (turning_with t other stirred))
rests_any k p q a b c regs store stirs more t e other stirred sound h touch turning same seen =
    ap (λ (o : Option EcState). framed (turned k q t) (slice_set edits c.actor (Some (record (context_in o) { regs = regs }))) (put words own_later) memory_later) seen.context
    ∙ ap₂ (λ (w : Option (ℕ × List ℕ)) (m : Memory). framed (turned k q t) (slice_set edits c.actor (Some x)) (put words w) m)
    (same_words (address_space k c.actor) (address_space (turned k q t) c.actor) c.actor store (own_same k (turned k q t) p c a.reads seen))
    (same_store (address_space k c.actor) (address_space (turned k q t) c.actor) (memory_with k.memory t.effect.store) store (page_same k (turned k q t) p c a.reads seen)
    ∙ sym (stores_over (address_space k c.actor) k.memory store t.effect.store h.there
    (λ s f is goes y z g has leads here. none_shared b.writes a.writes g f h.far.unwritten (stores_any k q b t e touch turning y z g has leads here) (h.within s f is goes)))
    ∙ sym (same (memory_after (address_space k c.actor) k.memory store)))
    ∙ ap₂ (λ (cs : Contexts) (ms : Messages). framed (turned k q t) cs ms (memory_with (memory_after (address_space k c.actor) k.memory store) other))
    (sym (joined_set (all_edited k.contexts t.effect.edits) born c.actor (Some x) (subst (λ (n : ℕ). c.actor < n) (sym (edited_length k.contexts t.effect.edits)) below))
    ∙ ap (λ (l : Contexts). joined l born) (sym (edits_over k.contexts c.actor x t.effect.edits (avoided k t.effect p c.actor by.elsewhere number))))
    (sym (joined_put (put k.messages t.effect.words) c.actor own said (are_own (address_space k c.actor) c.actor store)
    (subst (λ (n : ℕ). c.actor < n) (sym (put_length k.messages t.effect.words ∙ long_messages k sound.kept ∙ sym sound.whole.places)) below))
    ∙ ap (λ (l : Messages). joined l said)
    (sym (put_both k.messages c.actor own t.effect.words (are_own (address_space k c.actor) c.actor store) (λ n w is alike. by.elsewhere.words n w is (ap (processor_of k) alike ∙ number)))))
  where
    by : IsBeside k t p q
    by = beside k p q t e b.meets sound.kept h.other h.far.unmet h.chosen turning (touch.meets t e turning)

    number : processor_of k c.actor ≡ p
    number = number_at k c.actor p sound.kept h.home.processor

    below : c.actor < length k.contexts
    below = below_at k.contexts c.actor p h.home.processor

    born : Option (Option EcState)
    born = option_map (context_of (length k.objects)) t.effect.made

    said : Option (Option (List ℕ))
    said = option_map (λ m. words_of (object_of m)) t.effect.made

    x : EcState
    x = record (context k c.actor) { regs = regs }

    edits : Contexts
    edits = joined (all_edited k.contexts t.effect.edits) (option_map (context_of (length k.objects)) t.effect.made)

    words : Messages
    words = joined (put k.messages t.effect.words) (option_map (λ m. words_of (object_of m)) t.effect.made)

    own : Option (ℕ × List ℕ)
    own = store_words (address_space k c.actor) c.actor store

    own_later : Option (ℕ × List ℕ)
    own_later = store_words (address_space (turned k q t) c.actor) c.actor store

    memory_later : Memory
    memory_later = memory_after (address_space (turned k q t) c.actor) (memory_with k.memory t.effect.store) store

alike_any : (k : KernelState) (p q : ℕ) (a b : Touch) (c : Candidate) (regs : Registers) (store : Option Store) (stirs more : Stirs) (t : Turning) (e : Event) (other : Option (AddressSpace × Store)) (stirred : ℕ → Bool) →
    IsSound k → AreStampsGiven k → AreBoth k p q a b c regs store stirs → IsTouched k q b → IsTurning k q t e → ((m : Memory) → memory_with m other ≡ memory_with m t.effect.store) → IsSeenSame k (turned k q t) p c a.reads →
    IsAlike (stepped_by (turned k q t) p c regs store more) (turned (stepped_by k p c regs store stirs) q (turning_with t other stirred))
alike_any k p q a b c regs store stirs more t e other stirred sound given h touch turning same seen = record {
  rest = rests_any k p q a b c regs store stirs more t e other stirred sound h touch turning same seen;
  left = lefts_paid_both k.objects k.budgets k.next_stamp t.effect.made t.charge c.sc p paid;
  order = λ m n peers. order_paid_both k.objects k.budgets k.next_stamp t.effect.made t.charge c.sc p m n paid peers;
  times = subst (AreTimesAlike (ticked (ticked timed q) p)) (ticked_both timed p q h.other) (times_itself (ticked (ticked timed q) p));
}
  where
    by : IsBeside k t p q
    by = beside k p q t e b.meets sound.kept h.other h.far.unmet h.chosen turning (touch.meets t e turning)

    paid : ArePaid k.objects k.budgets k.next_stamp t.effect.made t.charge c.sc p
    paid = are_paid k.objects k.budgets k.next_stamp t.effect.made t.charge c.sc p q (long_budgets k sound.kept) given h.other h.home.pays by.elsewhere.made by.pays

    timed : Times
    timed = (applied k t.effect).times

-- WHAT THE OTHER TOUCHES BEFORE THE STEP

touch_before : (k : KernelState) (p q : ℕ) (a b : Touch) (c : Candidate) (regs : Registers) (store : Option Store) (stirs : Stirs) → AreBoth k p q a b c regs store stirs → IsTouched k q b
touch_before k p q a b c regs store stirs h = record {
  reads = λ d next executes.
      let seen = seen_both k p q a b c d regs store stirs h next in
      reads_same (stepped_by k p c regs store stirs) k q d b.reads (flipped k (stepped_by k p c regs store stirs) q d b.reads seen)
      (h.touch.reads d seen.second (executes_same k (stepped_by k p c regs store stirs) d.actor seen.context executes));
  writes = λ d frame next goes.
      h.touch.writes d frame (seen_both k p q a b c d regs store stirs h next).second
      (ap (frame_stored_to (stepped_by k p c regs store stirs) d.actor) (deeds_both k p q a b c d regs store stirs h next)
      ∙ same_frame d next (deed k d.actor) refl ∙ goes);
  meets = by_turn;
  moves = λ still domain page. by_comes still domain page (comes k q);
  plain = λ is. before_plain (h.touch.plain is);
}
  where
    same_frame : (d : Candidate) → next_to_act k q ≡ Some d → (x : Deed) → deed k d.actor ≡ x → frame_stored_to (stepped_by k p c regs store stirs) d.actor x ≡ frame_stored_to k d.actor x
    same_frame d next Steps does =
        ap (λ (o : Once). option_and_then (frame_of_store (stepped_by k p c regs store stirs) d.actor) (store_of o)) ((looks_both k p q a b c d regs store stirs h next).goes does)
        ∙ frames_same k (stepped_by k p c regs store stirs) q d b.reads (seen_both k p q a b c d regs store stirs h next) (store_of (instruction k d.actor))
    same_frame d next other does = refl

    still : (cpu : ℕ) → IsSome (choose k cpu) → IsSome (choose (stepped_by k p c regs store stirs) cpu)
    still cpu here = chosen_still k p cpu c regs store stirs h.home here

    by_turn : (t : Turning) (e : Event) → IsTurning k q t e → ChangesWithin k t.effect (q ∷ b.meets)
    by_turn t e turning =
        let tw = twin_of k p q a b c regs store stirs t e h turning in
        let within = h.touch.meets tw.twin e tw.turns in record {
          contexts = λ n there here. within.contexts n (subst (λ (f : Effect). Contains (contexts_changed f) n) (sym tw.effect) there) (still (processor_of k n) here);
          words = λ n w is here. within.words n w (ap (λ (f : Effect). f.words) tw.effect ∙ is) (still (processor_of k n) here);
          deadline = λ n until is here. within.deadline n until (ap (λ (f : Effect). f.deadline) tw.effect ∙ is) (still (processor_of k n) here);
          made = λ cpu is here. within.made cpu (ap (λ (f : Effect). processor_given f.made) tw.effect ∙ is) (still cpu here);
        }

    by_comes : b.moves ≡ false → (domain page : ℕ) → Comes k (after k q) q (answer_of (turn k q)) → reach (after k q).delegations.list domain page ≡ reach k.delegations.list domain page
    by_comes still domain page (Idles none moment same answer) = ap (λ (x : KernelState). reach x.delegations.list domain page) same
    by_comes still domain page (Takes t e turning state answer) =
        let tw = twin_of k p q a b c regs store stirs t e h turning in
        ap (λ (x : KernelState). reach x.delegations.list domain page) state
        ∙ ap (λ (f : Effect). reach (branched k.delegations f.branch).list domain page) (sym tw.effect)
        ∙ sym (ap (λ (x : KernelState). reach x.delegations.list domain page) (taken (stepped_by k p c regs store stirs) q tw.twin e tw.turns).state)
        ∙ h.touch.moves still domain page

    before_plain : IsPlain (stepped_by k p c regs store stirs) q → IsPlain k q
    before_plain plain =
        let next = sym (next_over k p q c regs store stirs h.other h.home) ∙ plain.next in
        plain_same (stepped_by k p c regs store stirs) k q b.reads plain
        (flipped k (stepped_by k p c regs store stirs) q plain.candidate b.reads (seen_both k p q a b c plain.candidate regs store stirs h next))
        (h.touch.reads plain.candidate plain.next plain.executes)

-- and which ticks it tells
ticks_before : (k : KernelState) (p q : ℕ) (a b : Touch) (c : Candidate) (regs : Registers) (store : Option Store) (stirs : Stirs) → AreBoth k p q a b c regs store stirs → TellsNoTicks k q
ticks_before k p q a b c regs store stirs h = by_next (next_to_act k q) refl
  where
    by_next : (o : Option Candidate) → next_to_act k q ≡ o → IfSome o (λ (x : Candidate). tells_ticks (deed k x.actor) ≡ false)
    by_next None is = tt
    by_next (Some d) is =
        sym (ap tells_ticks (deeds_both k p q a b c d regs store stirs h is))
        ∙ subst (λ (o : Option Candidate). IfSome o (λ (x : Candidate). tells_ticks (deed (stepped_by k p c regs store stirs) x.actor) ≡ false)) (seen_both k p q a b c d regs store stirs h is).second h.quiet

-- THE LAW

-- where the other has a turn to take
takes_both : (k : KernelState) (p q : ℕ) (a b : Touch) (first : IsPlain k p) (step : IsStepped k (after k p) p first.candidate first.regs first.store) (t : Turning) (e : Event) → IsSound k → AreStampsGiven k →
    IsTouched k p a → AreBoth k p q a b first.candidate first.regs first.store step.stirs → IsTurning k q t e → AreSwapped k p q a b
takes_both k p q a b first step t e sound given touch h turning =
    let own : IsTouched k q b = touch_before k p q a b first.candidate first.regs first.store step.stirs h in
    let tw = twin_of k p q a b first.candidate first.regs first.store step.stirs t e h turning in
    let took : IsTaken k q t e = taken k q t e turning in
    let took_later : IsTaken (stepped_by k p first.candidate first.regs first.store step.stirs) q tw.twin e = taken (stepped_by k p first.candidate first.regs first.store step.stirs) q tw.twin e tw.turns in
    let seen : IsSeenSame k (turned k q t) p first.candidate a.reads = seen_after k p q a b first.candidate t e sound h.other h.home first.next h.far own turning took.state in
    let seen_too : IsSeenSame k (after k q) p first.candidate a.reads = subst (λ (x : KernelState). IsSeenSame k x p first.candidate a.reads) (sym took.state) seen in
    let at = executes_same k (after k q) first.candidate.actor seen_too.context first.executes in
    let went = instruction_same k (after k q) p first.candidate a.reads seen_too (touch.reads first.candidate first.next first.executes) ∙ first.goes_on in
    let ends : IsStepped (after k q) (after (after k q) p) p first.candidate first.regs first.store = step_is (after k q) p first.candidate first.regs first.store seen_too.second at went in record {
      state =
          subst (λ (x : KernelState). IsAlike x (after (after k p) q)) (sym (ends.is ∙ ap (λ (x : KernelState). stepped_by x p first.candidate first.regs first.store ends.stirs) took.state))
          (subst (IsAlike (stepped_by (turned k q t) p first.candidate first.regs first.store ends.stirs))
          (sym (ap (λ (x : KernelState). after x q) step.is ∙ took_later.state
          ∙ ap₂ (λ (f : Effect) (o : Option ℕ). turned (stepped_by k p first.candidate first.regs first.store step.stirs) q (record { effect = f; stirs = tw.twin.stirs; charge = o })) tw.effect tw.charge))
          (alike_any k p q a b first.candidate first.regs first.store step.stirs ends.stirs t e tw.twin.effect.store tw.twin.stirs sound given h own turning tw.memory seen));
      first = touched_same k (after k q) p a first (number_at k first.candidate.actor p sound.kept h.home.processor) touch seen_too;
      second = own;
      first_answer = answer_is (after k q) p first.candidate first.regs first.store seen_too.second at went
          ∙ sym (answer_is k p first.candidate first.regs first.store first.next first.executes first.goes_on);
      second_answer = took.answer ∙ sym (ap (λ (x : KernelState). answer_of (turn x q)) step.is ∙ took_later.answer);
      ticks = λ none. ticks_before k p q a b first.candidate first.regs first.store step.stirs h;
    }

-- where it is idle
idles_both : (k : KernelState) (p q : ℕ) (a b : Touch) (first : IsPlain k p) (step : IsStepped k (after k p) p first.candidate first.regs first.store) → IsTouched k p a →
    AreBoth k p q a b first.candidate first.regs first.store step.stirs → choice k q ≡ None → next_moment k.times q ≡ None → after k q ≡ k → answer_of (turn k q) ≡ Idle → AreSwapped k p q a b
idles_both k p q a b first step touch h none moment same answer =
    let s : KernelState = stepped_by k p first.candidate first.regs first.store step.stirs in
    let idle : turn s q ≡ None =
    none_taken s q (choice_same k s q (chosen_over k p q first.candidate first.regs first.store step.stirs h.other h.home) ∙ none)
    (ap (option_map (λ (x : Entry). x.moment)) (next_clocks k.times (slice_set k.times.clocks p (clock k.times p + 1)) q) ∙ moment) in
    let idle_too : turn (after k p) q ≡ None = ap (λ (x : KernelState). turn x q) step.is ∙ idle in record {
      state =
          subst (λ (x : KernelState). IsAlike (after x p) (after (after k p) q)) (sym same)
          (subst (IsAlike (after k p)) (sym (ap (state_after (after k p)) idle_too)) (itself (after k p)));
      first = subst (λ (x : KernelState). IsTouched x p a) (sym same) touch;
      second = touch_before k p q a b first.candidate first.regs first.store step.stirs h;
      first_answer = ap (λ (x : KernelState). answer_of (turn x p)) same;
      second_answer = answer ∙ sym (ap answer_of idle_too);
      ticks = λ quiet. ticks_before k p q a b first.candidate first.regs first.store step.stirs h;
    }

pub swapped_any : (k : KernelState) (p q : ℕ) (a b : Touch) → IsSound k → AreStampsGiven k → p ≢ q → IsTouched k p a → IsTouched (after k p) q b → TellsNoTicks (after k p) q → are_apart p a b ≡ true → AreSwapped k p q a b
swapped_any k p q a b sound given other touch touch_too quiet aparts =
    let far : IsApart p a b = apart p a b aparts in
    let first : IsPlain k p = touch.plain far.plain in
    let step : IsStepped k (after k p) p first.candidate first.regs first.store = plain_step k p first in
    let h : AreBoth k p q a b first.candidate first.regs first.store step.stirs = record {
      kept = sound.kept;
      other = other;
      chosen = somebody k p first.candidate first.next;
      home = at_home k p first.candidate sound.kept first.next;
      there = first.no_console;
      within = stores_in k p a first touch;
      far = far;
      touch = subst (λ (x : KernelState). IsTouched x q b) step.is touch_too;
      quiet = subst (λ (x : KernelState). TellsNoTicks x q) step.is quiet;
    } in elim (comes k q) [
      | Idles none moment same answer ↦ idles_both k p q a b first step touch h none moment same answer
      | Takes t e turning state answer ↦ takes_both k p q a b first step t e sound given touch h turning
    ]
