-- What a context decides is the same over a plain step of another processor that stores to nothing that it reads, unless it is told ticks.
use Rattle.std.proofs.Common.{◌≡◌, ◌≢◌, ℕ, ◌+◌, List, refl, sym, ap, ap₂, ◌∙◌, subst, inl}
use Rattle.std.specs.Prelude.{Bool, true, false, slice_set, Option, Some, None, option_map, Result, Ok, Err, if◌then◌else◌}
use Rattle.std.proofs.lemmas.Option.{same_Some}
use Rattle.rv_model.specs.Registers.{Registers}
use Rattle.rv_model.specs.Step.{Store}
use Rattle.nova_calls.specs.Hypercalls.{call_of}
use Rattle.nova_calls.specs.declared.call.Call.TheVariants as asks
use Rattle.nova_calls.specs.declared.call.SmAction.TheVariants as act
use Rattle.nova_range.specs.declared.status.Status.{Status}
use Rattle.nova_model.specs.Calls.{exit_admitted}
use Rattle.nova_model.specs.Choice.{Candidate}
use Rattle.nova_model.specs.Deeds.{address_space, deed, deed_in, instruction, ready}
use Rattle.nova_model.specs.Deliveries.{delivers, delivery, given_to, taken_from}
use Rattle.nova_model.specs.Edges.{cpu_in}
use Rattle.nova_model.specs.Exits.{exit_at, exit_portal, exit_to}
use Rattle.nova_model.specs.Hypercalls.{deadline_after}
use Rattle.nova_model.specs.Memory.{Memory}
use Rattle.nova_model.specs.Portals.{handler_of}
use Rattle.nova_model.specs.State.{Contexts, KernelState, Stirs, context, context_in, ec_in, entry, message, message_in, pd_of, processor_of, transfer, with_ec}
use Rattle.nova_model.specs.Times.{clock}
use Rattle.nova_model.specs.declared.admit.ExitAdmit.{ExitAdmit}
use Rattle.nova_model.specs.declared.admit.ExitAdmit.TheVariants as exit
use Rattle.nova_model.specs.declared.context.EcState.{EcState}
use Rattle.nova_model.specs.declared.context.Mark.{Mark}
use Rattle.nova_model.specs.declared.context.State.{State}
use Rattle.nova_model.specs.declared.context.State.TheVariants.{Exiting, Granting, Helping, Ready, Replying, Sending}
use Rattle.nova_model.specs.declared.deed.Deed.TheVariants.{Blocks}
use Rattle.nova_model.specs.declared.transfer.Delivery.{Delivery}
use Rattle.nova_model.specs.declared.transfer.Transfer.{Transfer}
use Rattle.law_forest.specs.Effects.{put, store_words}
use Rattle.law_turns.specs.Keeping.{IsKept}
use Rattle.law_turns.specs.Links.{caller_at}
use Rattle.law_turns.proofs.Setting.{entry_other, index_other}
use Rattle.law_alike.specs.Alike.{tells_ticks}
use Rattle.law_alike.proofs.Deciding.{blank, counting}
use Rattle.law_alike.proofs.Deciding.{deed_same as counted_same}
use Rattle.law_alike.proofs.Doing.{blank_plain, late_blank, semaphore_blank, semaphore_of, ticks_of, told_blank}
use Rattle.law_alike.proofs.Late.{IsLateBy, late, late_deed}
use Rattle.law_integrity.proofs.Deeds.{hypercall_same, over as over_memory}
use Rattle.law_integrity.proofs.Deeds.{deed_same as memory_same}
use Rattle.law_integrity.proofs.Masking.{AreMasked, Words, masked, over, words_in}
use Rattle.law_integrity.proofs.Untold.{deed_same as masked_same}
use Rattle.law_integrity.proofs.Untold.{instruction_same as sight_same}
use Rattle.law_swaps.specs.Touches.{Executes}
use Rattle.law_swaps.proofs.Choosing.{IsHome}
use Rattle.law_swaps.proofs.Stepping.{stepped_by}
use Rattle.law_swaps.proofs.Storing.{are_own, memory_after, words_stay}

-- OVER OTHER BYTES

to_same : (k : KernelState) (m : Memory) (pt reason q0 q1 : ℕ) (a : ExitAdmit) → exit_to (over_memory k m) pt reason q0 q1 a ≡ exit_to k pt reason q0 q1 a
to_same k m pt reason q0 q1 exit.Dies = refl
to_same k m pt reason q0 q1 exit.Waits = refl
to_same k m pt reason q0 q1 exit.Sends = refl

at_same : (k : KernelState) (m : Memory) (ec reason q0 q1 : ℕ) (o : Result ℕ Status) → exit_at (over_memory k m) ec reason q0 q1 o ≡ exit_at k ec reason q0 q1 o
at_same k m ec reason q0 q1 (Err status) = refl
at_same k m ec reason q0 q1 (Ok pt) = to_same k m pt reason q0 q1 (exit_admitted k.contexts ec (handler_of k pt))

taken_same : (k : KernelState) (m : Memory) (ec item : ℕ) (o : Option (ℕ × Mark)) → taken_from (over_memory k m) ec item o ≡ taken_from k ec item o
taken_same k m ec item None = refl
taken_same k m ec item (Some (caller, mark)) = refl

given_same : (k : KernelState) (m : Memory) (ec item : ℕ) (o : Option (ℕ × Mark)) → given_to (over_memory k m) ec item o ≡ given_to k ec item o
given_same k m ec item None = refl
given_same k m ec item (Some (caller, mark)) = refl

delivers_same : (k : KernelState) (m : Memory) (t : Transfer) (a b : Option Delivery) → a ≡ b → delivers (over_memory k m) t a ≡ delivers k t b
delivers_same k m t a b same = ap (delivers (over_memory k m) t) same ∙ by_delivery b
  where
    by_delivery : (o : Option Delivery) → delivers (over_memory k m) t o ≡ delivers k t o
    by_delivery None = refl
    by_delivery (Some v) = refl

-- only a context whose turn is an instruction reads bytes
pub deed_over : (k : KernelState) (m : Memory) (ec : ℕ) → (Executes (context k ec) → instruction (over_memory k m) ec ≡ instruction k ec) → deed (over_memory k m) ec ≡ deed k ec
unfolding deed
deed_over k m ec reads = by_state (context k ec).state refl
  where
    by_recall : (context k ec).state ≡ Ready → (t : Bool) → (context k ec).recall ≡ t → deed_in (over_memory k m) ec (context k ec).state ≡ deed_in k ec (context k ec).state
    by_recall is true recall = ap (deed_in (over_memory k m) ec) is ∙ ap (ready (over_memory k m) ec) recall
        ∙ sym (ap (deed_in k ec) is ∙ ap (ready k ec) recall)
    by_recall is false recall = memory_same k m ec (reads (record { state = is; recall = recall }))

    by_state : (s : State) → (context k ec).state ≡ s → deed_in (over_memory k m) ec (context k ec).state ≡ deed_in k ec (context k ec).state
    by_state Ready is = by_recall is (context k ec).recall refl
    by_state (Exiting reason q0 q1) is = ap (deed_in (over_memory k m) ec) is ∙ at_same k m ec reason q0 q1 (exit_portal k ec reason) ∙ sym (ap (deed_in k ec) is)
    by_state (Sending reason q0 q1 handler) is = ap (deed_in (over_memory k m) ec) is ∙ at_same k m ec reason q0 q1 (exit_portal k ec reason) ∙ sym (ap (deed_in k ec) is)
    by_state (Granting (Some new)) is =
        ap (deed_in (over_memory k m) ec) is ∙ delivers_same k m (transfer k ec) _ (delivery k ec (Granting (Some new))) refl ∙ sym (ap (deed_in k ec) is)
    by_state (Granting None) is =
        ap (deed_in (over_memory k m) ec) is
        ∙ delivers_same k m (transfer k ec) _ (delivery k ec (Granting None)) (taken_same k m ec (transfer k ec).item (context k ec).caller)
        ∙ sym (ap (deed_in k ec) is)
    by_state Replying is =
        ap (deed_in (over_memory k m) ec) is
        ∙ delivers_same k m (transfer k ec) _ (delivery k ec Replying) (given_same k m ec (transfer k ec).item (context k ec).caller)
        ∙ sym (ap (deed_in k ec) is)
    by_state (Helping handler) is = ap (deed_in (over_memory k m) ec) is ∙ hypercall_same k m ec (pd_of k ec) (context k ec).regs ∙ sym (ap (deed_in k ec) is)
    by_state other is = ap (deed_in (over_memory k m) ec) is ∙ sym (ap (deed_in k ec) is)

-- OVER OTHER COUNTS

-- a state with the counts of another, in which the clock of a context's processor is the same
pub deed_counted : (k l : KernelState) (ec : ℕ) → clock l.times (processor_of k ec) ≡ clock k.times (processor_of k ec) → tells_ticks (deed (counting k l) ec) ≡ false → deed (counting k l) ec ≡ deed k ec
deed_counted k l ec same_clock quiet = by_late (late (deed (counting k l) ec)) refl
  where
    blanks : blank (deed k ec) ≡ blank (deed (counting k l) ec)
    blanks = counted_same k l ec

    same_late : late (deed k ec) ≡ late (deed (counting k l) ec)
    same_late = sym (late_blank (deed k ec)) ∙ ap late blanks ∙ late_blank (deed (counting k l) ec)

    same_told : tells_ticks (deed k ec) ≡ tells_ticks (deed (counting k l) ec)
    same_told = sym (told_blank (deed k ec)) ∙ ap tells_ticks blanks ∙ told_blank (deed (counting k l) ec)

    both_late : IsLateBy (counting k l) ec (call_of (context k ec).regs) (deed (counting k l) ec) → IsLateBy k ec (call_of (context k ec).regs) (deed k ec) → deed (counting k l) ec ≡ deed k ec
    both_late a b =
        let ticks : a.ticks ≡ b.ticks = sym (ap ticks_of a.call) ∙ ap ticks_of b.call in
        let sm : a.sm ≡ b.sm = sym (ap semaphore_of a.is) ∙ sym (semaphore_blank (deed (counting k l) ec)) ∙ sym (ap semaphore_of blanks) ∙ semaphore_blank (deed k ec) ∙ ap semaphore_of b.is in
        a.is
        ∙ ap₂ (λ (s t : ℕ). Blocks s (Some (deadline_after (counting k l) ec s t))) sm ticks
        ∙ ap (λ (now : ℕ). Blocks b.sm (Some (record { cpu = processor_of k ec; sm = b.sm; at = now + 1 + b.ticks }))) same_clock
        ∙ sym b.is

    by_late : (t : Bool) → late (deed (counting k l) ec) ≡ t → deed (counting k l) ec ≡ deed k ec
    by_late false is = sym (blank_plain (deed (counting k l) ec) is quiet) ∙ sym blanks ∙ blank_plain (deed k ec) (same_late ∙ is) (same_told ∙ quiet)
    by_late true is = both_late (late_deed (counting k l) ec is) (late_deed k ec (same_late ∙ is))

-- OVER OTHER REGISTERS AND WORDS

abbrev step_contexts : KernelState → Candidate → Registers → Contexts
step_contexts k c regs = with_ec k.contexts c.actor (record (context k c.actor) { regs = regs })

abbrev step_messages : KernelState → Candidate → Option Store → Words
step_messages k c store = put k.messages (store_words (address_space k c.actor) c.actor store)

masked_step : (k : KernelState) (p : ℕ) (c : Candidate) (regs : Registers) → IsHome k p c → AreMasked (step_contexts k c regs) k.contexts
masked_step k p c regs home =
    subst (λ (cs : Contexts). AreMasked cs k.contexts)
    (ap (λ (o : Option EcState). slice_set k.contexts c.actor (option_map (λ (x : EcState). record x { regs = regs }) o)) home.there)
    (masked k.contexts c.actor regs)

-- a context of another processor, and who is its caller
caller_away : (k : KernelState) (p q ec caller : ℕ) (came : Mark) (c : Candidate) → IsKept k → p ≢ q → IsHome k p c → cpu_in k.contexts ec ≡ Some q → (context k ec).caller ≡ Some (caller, came) → caller ≢ c.actor
caller_away k p q ec caller came c kept other home at serves same = by_entry (ec_in k.contexts ec) refl
  where
    by_entry : (o : Option EcState) → ec_in k.contexts ec ≡ o → ⊥
    by_entry None is = let none : None ≡ Some q = sym (ap (option_map (λ (x : EcState). x.cpu)) is) ∙ at in absurd (cc)
    by_entry (Some x) is =
        let keeps : caller_at (ec_in k.contexts ec) ≡ Some (caller, came) = ap caller_at is ∙ (sym (ap (λ (o : Option EcState). (context_in o).caller) is) ∙ serves) in
        let both : Some p ≡ Some q = sym home.processor ∙ ap (cpu_in k.contexts) (sym same) ∙ (kept.served.linked caller ec).cpu came keeps ∙ at in
        other (same_Some p q both)

words_same : (k : KernelState) (n : ℕ) (c : Candidate) (store : Option Store) → n ≢ c.actor → words_in (step_messages k c store) n ≡ message k n
words_same k n c store ne =
    ap (λ (o : Option (Option (List ℕ))). message_in (entry o)) (words_stay k.messages c.actor n (store_words (address_space k c.actor) c.actor store) (are_own (address_space k c.actor) c.actor store) ne)

deed_masked : (k : KernelState) (p q ec : ℕ) (c : Candidate) (regs : Registers) (store : Option Store) → IsKept k → p ≢ q → IsHome k p c → cpu_in k.contexts ec ≡ Some q → ec ≢ c.actor →
    deed (over k (step_contexts k c regs) (step_messages k c store)) ec ≡ deed k ec
deed_masked k p q ec c regs store kept other home at ne =
    masked_same k (step_contexts k c regs) (step_messages k c store) (masked_step k p c regs home) ec
    (record {
      own = words_same k ec c store ne;
      taken = λ is caller came serves. words_same k caller c store (caller_away k p q ec caller came c kept other home at serves);
      given = λ is caller came serves. words_same k caller c store (caller_away k p q ec caller came c kept other home at serves);
    })
    (inl (ap (λ (o : Option EcState). (context_in o).regs) (entry_other k.contexts c.actor ec (record (context k c.actor) { regs = regs }) ne)))

-- ALL OF IT

pub deed_beside : (k : KernelState) (p q ec : ℕ) (c : Candidate) (regs : Registers) (store : Option Store) (stirs : Stirs) → IsKept k → p ≢ q → IsHome k p c → cpu_in k.contexts ec ≡ Some q → processor_of k ec ≡ q → ec ≢ c.actor →
    (Executes (context (stepped_by k p c regs store stirs) ec) → instruction (stepped_by k p c regs store stirs) ec ≡ instruction k ec) → tells_ticks (deed (stepped_by k p c regs store stirs) ec) ≡ false →
    deed (stepped_by k p c regs store stirs) ec ≡ deed k ec
deed_beside k p q ec c regs store stirs kept other home at number ne reads quiet =
    deed_counted (over_memory mid memory) (stepped_by k p c regs store stirs) ec
    (ap (λ (n : ℕ). clock (stepped_by k p c regs store stirs).times n) number ∙ index_other k.times.clocks p q (clock k.times p + 1) (λ same. other (sym same)) ∙ ap (clock k.times) (sym number)) quiet
    ∙ deed_over mid memory ec (λ executes. reads executes ∙ sym instruction_mid)
    ∙ deed_masked k p q ec c regs store kept other home at ne
  where
    mid : KernelState
    mid = over k (step_contexts k c regs) (step_messages k c store)

    memory : Memory
    memory = memory_after (address_space k c.actor) k.memory store

    instruction_mid : instruction (over k (step_contexts k c regs) (step_messages k c store)) ec ≡ instruction k ec
    instruction_mid =
        sight_same k (step_contexts k c regs) (step_messages k c store) ec (words_same k ec c store ne)
        (ap (λ (o : Option EcState). (context_in o).regs) (entry_other k.contexts c.actor ec (record (context k c.actor) { regs = regs }) ne))
