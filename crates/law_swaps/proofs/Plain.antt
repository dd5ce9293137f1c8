-- Two plain steps that are apart change places.
use Rattle.std.proofs.Common.{◌≡◌, ◌≢◌, ℕ, ◌+◌, List, refl, sym, ap, ap₂, ◌∙◌, subst}
use Rattle.std.specs.Prelude.{Bool, true, false, IfSome, IsSome, slice_get, slice_set, Option, Some, None, Contains, option_and_then, if◌then◌else◌}
use Rattle.rv_model.specs.Registers.{Registers}
use Rattle.rv_model.specs.Step.{Once, Store, Went}
use Rattle.nova_model.specs.AddressSpaces.{AddressSpace}
use Rattle.nova_model.specs.Choice.{Candidate, next_to_act}
use Rattle.nova_model.specs.Deeds.{address_space, deed, instruction}
use Rattle.nova_model.specs.Delegations.{reach}
use Rattle.nova_model.specs.Inputs.{frame_of_store, in_ram, store_of}
use Rattle.nova_model.specs.Memory.{Memory}
use Rattle.nova_model.specs.Runs.{after}
use Rattle.nova_model.specs.State.{Contexts, KernelState, Stirs, context, context_in, entry, message_in, pd_in, processor_in, processor_of}
use Rattle.nova_model.specs.Times.{Times, clock, ticked}
use Rattle.nova_model.specs.Turn.{answer_of, event_of, quantum_in, turn}
use Rattle.nova_model.specs.declared.budget.Budget.{Budget}
use Rattle.nova_model.specs.declared.context.EcState.{EcState}
use Rattle.nova_model.specs.declared.deed.Deed.{Deed}
use Rattle.nova_model.specs.declared.deed.Deed.TheVariants.{Steps}
use Rattle.nova_model.specs.declared.event.Turn.TheVariants.{Stepped}
use Rattle.nova_objects.specs.declared.object.Object.{Object}
use Rattle.law_forest.specs.Effects.{put, store_words}
use Rattle.law_turns.specs.Keeping.{IsKept}
use Rattle.law_turns.proofs.Setting.{entry_other, index_other, set_both}
use Rattle.law_alike.specs.Alike.{AreStampsGiven, AreTimesAlike, IsAlike, TellsNoTicks, tells_ticks, uncounted}
use Rattle.law_alike.proofs.Moments.{times_itself}
use Rattle.law_alike.proofs.Turns.{answers, long_budgets}
use Rattle.law_swaps.specs.Touches.{AreSwapped, Executes, IsPlain, IsTouched, Touch, are_apart, frame_stored_to}
use Rattle.law_swaps.proofs.Beside.{number_at}
use Rattle.law_swaps.proofs.Charging.{lefts_both, order_both, other_schedule, paid_other}
use Rattle.law_swaps.proofs.Choosing.{AreChosenAlike, IsHome, actors_apart, at_home, choice_same, due_over, moves_none, next_same}
use Rattle.law_swaps.proofs.Lists.{IsApart, apart, none_shared}
use Rattle.law_swaps.proofs.Seeing.{IsSeenSame, executes_same, instruction_same, own_same, page_same, plain_same, touched_same}
use Rattle.law_swaps.proofs.Stepping.{IsStepped, does_step, step_is, stepped_by}
use Rattle.law_swaps.proofs.Storing.{GoesTo, bytes_stay, frames_stay, memory_after, are_own, same_store, same_words, stores_both, words_both, words_stay}

-- WHAT A PLAIN STEP LEAVES OF ANOTHER PROCESSOR

pub chosen_over : (k : KernelState) (p q : ℕ) (c : Candidate) (regs : Registers) (store : Option Store) (stirs : Stirs) → p ≢ q → IsHome k p c → AreChosenAlike k (stepped_by k p c regs store stirs) q
chosen_over k p q c regs store stirs other home = record {
  objects = refl;
  turns = λ ec. moves_none k.contexts c.actor (context k c.actor) (record (context k c.actor) { regs = regs }) home.there refl ec;
  budgets = λ sc on. ap (λ (o : Option (Option Budget)). entry o)
      (paid_other k.budgets c.sc (quantum_in (slice_get k.objects c.sc)) k.next_stamp sc (entry (slice_get k.budgets c.sc))
      (other_schedule k.objects c.sc sc on.0 p q on.1 on.2 other home.pays on.3));
}

pub next_over : (k : KernelState) (p q : ℕ) (c : Candidate) (regs : Registers) (store : Option Store) (stirs : Stirs) → p ≢ q → IsHome k p c →
    next_to_act (stepped_by k p c regs store stirs) q ≡ next_to_act k q
next_over k p q c regs store stirs other home =
    next_same k (stepped_by k p c regs store stirs) q (due_over k.times p q other) (choice_same k (stepped_by k p c regs store stirs) q (chosen_over k p q c regs store stirs other home))

-- and what a plain step there sees, where it stores to none of the frames
pub seen_over : (k : KernelState) (p q : ℕ) (c d : Candidate) (regs : Registers) (store : Option Store) (stirs : Stirs) (frames : List ℕ) → p ≢ q → IsHome k p c → IsHome k q d → next_to_act k q ≡ Some d →
    GoesTo (address_space k c.actor) store (λ frame. IsSome (slice_get k.memory.ram frame)) → GoesTo (address_space k c.actor) store (λ frame. Contains frames frame → ⊥) →
    IsSeenSame k (stepped_by k p c regs store stirs) q d frames
seen_over k p q c d regs store stirs frames other home abroad next there unseen = record {
  first = next;
  second = next_over k p q c regs store stirs other home ∙ next;
  object = refl;
  context = entry_other k.contexts c.actor d.actor (record (context k c.actor) { regs = regs }) (actors_apart k p q c d other home abroad);
  words = ap (λ (o : Option (Option (List ℕ))). message_in (entry o))
      (words_stay k.messages c.actor d.actor (store_words (address_space k c.actor) c.actor store) (are_own (address_space k c.actor) c.actor store) (actors_apart k p q c d other home abroad));
  pages = λ page. refl;
  size = λ frame. frames_stay (address_space k c.actor) k.memory store frame there;
  bytes = λ frame listed. bytes_stay (address_space k c.actor) k.memory store frame there (λ s f is goes same. unseen s f is goes (subst (Contains frames) same listed));
}

pub flipped : (k l : KernelState) (cpu : ℕ) (c : Candidate) (frames : List ℕ) → IsSeenSame k l cpu c frames → IsSeenSame l k cpu c frames
flipped k l cpu c frames same = record {
  first = same.second;
  second = same.first;
  object = sym same.object;
  context = sym same.context;
  words = sym same.words;
  pages = λ page. subst (λ (o : Option Object). reach k.delegations.list (pd_in o) page ≡ reach l.delegations.list (pd_in o) page)
      (sym same.object) (sym (same.pages page));
  size = λ frame. sym (same.size frame);
  bytes = λ frame listed. sym (same.bytes frame listed);
}

-- WHERE IT STORES

pub stores_in : (k : KernelState) (cpu : ℕ) (t : Touch) (plain : IsPlain k cpu) → IsTouched k cpu t → GoesTo (address_space k plain.candidate.actor) plain.store (Contains t.writes)
stores_in k cpu t plain touch s frame is goes = touch.writes plain.candidate frame plain.next
    (ap (frame_stored_to k plain.candidate.actor) (does_step k plain.candidate.actor plain.regs plain.store plain.executes plain.goes_on)
    ∙ ap (λ (o : Once). option_and_then (frame_of_store k plain.candidate.actor) (store_of o)) plain.goes_on
    ∙ ap (option_and_then (frame_of_store k plain.candidate.actor)) is
    ∙ ap (option_and_then (in_ram k)) goes
    ∙ ap (λ (t : Bool). if t then Some frame else None) (plain.no_console s frame is goes))

-- BOTH STEPS

pub ticked_both : (t : Times) (p q : ℕ) → p ≢ q → ticked (ticked t q) p ≡ ticked (ticked t p) q
ticked_both t p q other =
    ap (λ (clocks : List ℕ). record t { clocks = clocks })
    (ap (λ (n : ℕ). slice_set (slice_set t.clocks q (clock t q + 1)) p (n + 1)) (index_other t.clocks q p (clock t q + 1) other)
    ∙ set_both t.clocks q p (clock t q + 1) (clock t p + 1) other
    ∙ sym (ap (λ (n : ℕ). slice_set (slice_set t.clocks p (clock t p + 1)) q (n + 1)) (index_other t.clocks p q (clock t p + 1) (λ same. other (sym same)))))

abbrev framed : KernelState → Contexts → List (Option (List ℕ)) → Memory → KernelState
framed k contexts messages memory = record (uncounted k) { contexts = contexts; messages = messages; memory = memory }

-- two steps, one after another
abbrev both_by : KernelState → ℕ → Candidate → Registers → Option Store → Stirs → ℕ → Candidate → Registers → Option Store → Stirs → KernelState
both_by k p c regs store stirs q d others later more = stepped_by (stepped_by k p c regs store stirs) q d others later more

abbrev second_contexts : KernelState → Candidate → Registers → Candidate → Registers → Contexts
second_contexts k c regs d others =
    slice_set (slice_set k.contexts c.actor (Some (record (context k c.actor) { regs = regs }))) d.actor (Some (record (context k d.actor) { regs = others }))

abbrev second_messages : KernelState → Candidate → Option Store → Candidate → Option Store → List (Option (List ℕ))
second_messages k c store d later = put (put k.messages (store_words (address_space k c.actor) c.actor store)) (store_words (address_space k d.actor) d.actor later)

abbrev second_memory : KernelState → Candidate → Option Store → Candidate → Option Store → Memory
second_memory k c store d later = memory_after (address_space k d.actor) (memory_after (address_space k c.actor) k.memory store) later

rest_is : (k : KernelState) (p q : ℕ) (c d : Candidate) (regs others : Registers) (store later : Option Store) (stirs more : Stirs) (frames : List ℕ) →
    IsSeenSame k (stepped_by k p c regs store stirs) q d frames →
    uncounted (both_by k p c regs store stirs q d others later more) ≡ framed k (second_contexts k c regs d others) (second_messages k c store d later) (second_memory k c store d later)
rest_is k p q c d regs others store later stirs more frames same =
    ap (λ (x : Option EcState). framed k (slice_set first.contexts d.actor (Some (record (context_in x) { regs = others }))) (put first.messages (store_words space d.actor later)) (memory_after space first.memory later)) same.context
    ∙ ap₂ (λ (w : Option (ℕ × List ℕ)) (m : Memory). framed k (second_contexts k c regs d others) (put first.messages w) m)
    (same_words (address_space k d.actor) space d.actor later (own_same k first q d frames same))
    (same_store (address_space k d.actor) space first.memory later (page_same k first q d frames same))
  where
    first : KernelState
    first = stepped_by k p c regs store stirs

    space : AddressSpace
    space = address_space (stepped_by k p c regs store stirs) d.actor

rests_both : (k : KernelState) (c d : Candidate) (regs others : Registers) (store later : Option Store) → d.actor ≢ c.actor →
    GoesTo (address_space k c.actor) store (λ frame. IsSome (slice_get k.memory.ram frame)) → GoesTo (address_space k d.actor) later (λ frame. IsSome (slice_get k.memory.ram frame)) →
    GoesTo (address_space k c.actor) store (λ f. GoesTo (address_space k d.actor) later (λ g. g ≢ f)) →
    framed k (second_contexts k c regs d others) (second_messages k c store d later) (second_memory k c store d later)
    ≡ framed k (second_contexts k d others c regs) (second_messages k d later c store) (second_memory k d later c store)
rests_both k c d regs others store later ne first second differ =
    ap (λ (cs : Contexts). framed k cs (second_messages k c store d later) (second_memory k c store d later))
    (set_both k.contexts c.actor d.actor (Some (record (context k c.actor) { regs = regs })) (Some (record (context k d.actor) { regs = others })) ne)
    ∙ ap₂ (λ (ms : List (Option (List ℕ))) (m : Memory). framed k (second_contexts k d others c regs) ms m)
    (words_both k.messages c.actor d.actor (store_words (address_space k c.actor) c.actor store) (store_words (address_space k d.actor) d.actor later)
    (are_own (address_space k c.actor) c.actor store) (are_own (address_space k d.actor) d.actor later) ne)
    (stores_both (address_space k c.actor) (address_space k d.actor) k.memory store later first second differ)

pub alike_both : (k : KernelState) (p q : ℕ) (c d : Candidate) (regs others : Registers) (store later : Option Store) (s t u v : Stirs) (frames listed : List ℕ) →
    IsKept k → AreStampsGiven k → p ≢ q → IsHome k p c → IsHome k q d →
    IsSeenSame k (stepped_by k p c regs store s) q d frames → IsSeenSame k (stepped_by k q d others later u) p c listed →
    GoesTo (address_space k c.actor) store (λ frame. IsSome (slice_get k.memory.ram frame)) → GoesTo (address_space k d.actor) later (λ frame. IsSome (slice_get k.memory.ram frame)) →
    GoesTo (address_space k c.actor) store (λ f. GoesTo (address_space k d.actor) later (λ g. g ≢ f)) →
    IsAlike (both_by k q d others later u p c regs store v) (both_by k p c regs store s q d others later t)
alike_both k p q c d regs others store later s t u v frames listed kept given other home abroad first second here there differ = record {
  rest = rest_is k q p d c others regs later store u v listed second
      ∙ sym (rests_both k c d regs others store later (actors_apart k p q c d other home abroad) here there differ)
      ∙ sym (rest_is k p q c d regs others store later s t frames first);
  left = lefts_both k.objects k.budgets k.next_stamp d.sc c.sc (λ same. payers (sym same));
  order = λ m n peers. order_both k.objects k.budgets k.next_stamp d.sc c.sc q p m n (long_budgets k kept) given (λ same. other (sym same)) abroad.pays home.pays peers;
  times = subst (AreTimesAlike (ticked (ticked k.times q) p)) (ticked_both k.times p q other) (times_itself (ticked (ticked k.times q) p));
}
  where
    payers : d.sc ≢ c.sc
    payers = other_schedule k.objects c.sc d.sc abroad.pays.0 p q abroad.pays.1 abroad.pays.2 other home.pays abroad.pays.3

-- THE LAW

pub answer_is : (k : KernelState) (cpu : ℕ) (c : Candidate) (regs : Registers) (store : Option Store) → next_to_act k cpu ≡ Some c → Executes (context k c.actor) → instruction k c.actor ≡ Went regs store →
    answer_of (turn k cpu) ≡ Stepped (event_of cpu c Steps)
answer_is k cpu c regs store next at went = answers k cpu c next ∙ ap (λ (d : Deed). Stepped (event_of cpu c d)) (does_step k c.actor regs store at went)

pub tells_none : (k : KernelState) (cpu : ℕ) → IsPlain k cpu → TellsNoTicks k cpu
tells_none k cpu plain =
    subst (λ (o : Option Candidate). IfSome o (λ (x : Candidate). tells_ticks (deed k x.actor) ≡ false)) (sym plain.next)
    (ap tells_ticks (does_step k plain.candidate.actor plain.regs plain.store plain.executes plain.goes_on))

pub plain_step : (k : KernelState) (cpu : ℕ) (plain : IsPlain k cpu) → IsStepped k (after k cpu) cpu plain.candidate plain.regs plain.store
plain_step k cpu plain = step_is k cpu plain.candidate plain.regs plain.store plain.next plain.executes plain.goes_on

-- what the two steps are, in either order
record AreSteps (k : KernelState) (p q : ℕ) (a b : Touch) (first : IsPlain k p) (second : IsPlain k q) : Type 0 where
  home : IsHome k p first.candidate
  abroad : IsHome k q second.candidate
  seen_first : (stirs : Stirs) → IsSeenSame k (stepped_by k p first.candidate first.regs first.store stirs) q second.candidate b.reads
  seen_second : (stirs : Stirs) → IsSeenSame k (stepped_by k q second.candidate second.regs second.store stirs) p first.candidate a.reads
  differ : GoesTo (address_space k first.candidate.actor) first.store (λ f. GoesTo (address_space k second.candidate.actor) second.store (λ g. g ≢ f))

steps_are : (k : KernelState) (p q : ℕ) (a b : Touch) (first : IsPlain k p) (second : IsPlain k q) → IsKept k → p ≢ q → IsTouched k p a → IsTouched k q b → IsApart p a b → AreSteps k p q a b first second
steps_are k p q a b first second kept other touch touch_too far =
    let home = at_home k p first.candidate kept first.next in
    let abroad = at_home k q second.candidate kept second.next in
    let here = stores_in k p a first touch in
    let there = stores_in k q b second touch_too in record {
      home = home;
      abroad = abroad;
      seen_first = λ stirs. seen_over k p q first.candidate second.candidate first.regs first.store stirs b.reads other home abroad second.next first.no_console
          (λ s frame is goes listed. none_shared a.writes b.reads frame frame far.unseen (here s frame is goes) listed refl);
      seen_second = λ stirs. seen_over k q p second.candidate first.candidate second.regs second.store stirs a.reads (λ same. other (sym same)) abroad home first.next second.no_console
          (λ s frame is goes listed. none_shared b.writes a.reads frame frame far.unread (there s frame is goes) listed refl);
      differ = λ s f is goes t g too leads. none_shared b.writes a.writes g f far.unwritten (there t g too leads) (here s f is goes);
    }

-- from the state before both
from_before : (k : KernelState) (p q : ℕ) (a b : Touch) (first : IsPlain k p) (second : IsPlain k q) → IsKept k → AreStampsGiven k → p ≢ q → IsTouched k p a → IsTouched k q b → IsApart p a b → AreSwapped k p q a b
from_before k p q a b first second kept given other touch touch_too far =
    let are : AreSteps k p q a b first second = steps_are k p q a b first second kept other touch touch_too far in
    let step : IsStepped k (after k p) p first.candidate first.regs first.store = plain_step k p first in
    let step_too : IsStepped k (after k q) q second.candidate second.regs second.store = plain_step k q second in
    let seen : IsSeenSame k (after k p) q second.candidate b.reads = subst (λ (x : KernelState). IsSeenSame k x q second.candidate b.reads) (sym step.is) (are.seen_first step.stirs) in
    let seen_too : IsSeenSame k (after k q) p first.candidate a.reads = subst (λ (x : KernelState). IsSeenSame k x p first.candidate a.reads) (sym step_too.is) (are.seen_second step_too.stirs) in
    let at = executes_same k (after k q) first.candidate.actor seen_too.context first.executes in
    let at_too = executes_same k (after k p) second.candidate.actor seen.context second.executes in
    let went = instruction_same k (after k q) p first.candidate a.reads seen_too (touch.reads first.candidate first.next first.executes) ∙ first.goes_on in
    let went_too = instruction_same k (after k p) q second.candidate b.reads seen (touch_too.reads second.candidate second.next second.executes) ∙ second.goes_on in
    let ends : IsStepped (after k q) (after (after k q) p) p first.candidate first.regs first.store = step_is (after k q) p first.candidate first.regs first.store seen_too.second at went in
    let ends_too : IsStepped (after k p) (after (after k p) q) q second.candidate second.regs second.store =
    step_is (after k p) q second.candidate second.regs second.store seen.second at_too went_too in record {
      state =
          subst (λ (x : KernelState). IsAlike x (after (after k p) q)) (sym (ends.is ∙ ap (λ (x : KernelState). stepped_by x p first.candidate first.regs first.store ends.stirs) step_too.is))
          (subst (IsAlike (both_by k q second.candidate second.regs second.store step_too.stirs p first.candidate first.regs first.store ends.stirs))
          (sym (ends_too.is ∙ ap (λ (x : KernelState). stepped_by x q second.candidate second.regs second.store ends_too.stirs) step.is))
          (alike_both k p q first.candidate second.candidate first.regs second.regs first.store second.store step.stirs ends_too.stirs step_too.stirs ends.stirs b.reads a.reads kept given other are.home are.abroad
          (are.seen_first step.stirs) (are.seen_second step_too.stirs) first.no_console second.no_console are.differ));
      first = touched_same k (after k q) p a first (number_at k first.candidate.actor p kept are.home.processor) touch seen_too;
      second = touch_too;
      first_answer = answer_is (after k q) p first.candidate first.regs first.store seen_too.second at went
          ∙ sym (answer_is k p first.candidate first.regs first.store first.next first.executes first.goes_on);
      second_answer = answer_is k q second.candidate second.regs second.store second.next second.executes second.goes_on
          ∙ sym (answer_is (after k p) q second.candidate second.regs second.store seen.second at_too went_too);
      ticks = λ none. tells_none k q second;
    }

-- the second step is one before the first
pub before_first : (k : KernelState) (p q : ℕ) (a b : Touch) (first : IsPlain k p) (last : IsPlain (after k p) q) → IsKept k → p ≢ q → IsTouched k p a → IsTouched (after k p) q b → IsApart p a b →
    IsSeenSame k (after k p) q last.candidate b.reads
before_first k p q a b first last kept other touch touch_too far =
    let home = at_home k p first.candidate kept first.next in
    let step : IsStepped k (after k p) p first.candidate first.regs first.store = plain_step k p first in
    let next : next_to_act k q ≡ Some last.candidate =
    sym (next_over k p q first.candidate first.regs first.store step.stirs other home) ∙ (ap (λ (x : KernelState). next_to_act x q) (sym step.is) ∙ last.next) in
    subst (λ (x : KernelState). IsSeenSame k x q last.candidate b.reads) (sym step.is)
    (seen_over k p q first.candidate last.candidate first.regs first.store step.stirs b.reads other home (at_home k q last.candidate kept next) next first.no_console
    (λ s frame is goes listed. none_shared a.writes b.reads frame frame far.unseen (stores_in k p a first touch s frame is goes) listed refl))

pub swapped : (k : KernelState) (p q : ℕ) (a b : Touch) → IsKept k → AreStampsGiven k → p ≢ q → IsTouched k p a → IsTouched (after k p) q b → b.is_plain ≡ true → are_apart p a b ≡ true → AreSwapped k p q a b
swapped k p q a b kept given other touch touch_too plain aparts =
    let far : IsApart p a b = apart p a b aparts in
    let first : IsPlain k p = touch.plain far.plain in
    let last : IsPlain (after k p) q = touch_too.plain plain in
    let seen = flipped k (after k p) q last.candidate b.reads (before_first k p q a b first last kept other touch touch_too far) in
    let home : processor_of (after k p) last.candidate.actor ≡ q =
    ap (λ (o : Option Object). processor_in o) (sym seen.object) ∙ number_at k last.candidate.actor q kept (at_home k q last.candidate kept seen.second).processor in
    from_before k p q a b first (plain_same (after k p) k q b.reads last seen (touch_too.reads last.candidate last.next last.executes)) kept given other touch
    (touched_same (after k p) k q b last home touch_too seen) far
