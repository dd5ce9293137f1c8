-- What is told of a turn is what it makes of memory.
use Rattle.std.proofs.Common.{◌≡◌, ℕ, refl, ap, sym, ◌∙◌}
use Rattle.std.specs.Prelude.{◌≢◌, Bool, true, false, not, ◌&&◌, ◌==◌, Option, Some, None, option_map, option_and_then, if◌then◌else◌}
use Rattle.rv_model.specs.Step.{Once, Raised, Went, Store, load_fault}
use Rattle.nova_range.specs.Rights.{write_right}
use Rattle.nova_model.specs.AddressSpaces.{AddressSpace, frame_for, stored_at}
use Rattle.nova_model.specs.Choice.{Candidate}
use Rattle.nova_model.specs.Deeds.{address_space, deed, deed_in, instruction, ready, sign_of, stepping}
use Rattle.nova_model.specs.Inputs.{store_of}
use Rattle.nova_model.specs.Memory.{Memory}
use Rattle.nova_model.specs.Runs.{after}
use Rattle.nova_model.specs.State.{KernelState, context, context_at, context_in}
use Rattle.nova_model.specs.Turn.{answer_of, event_of, turn}
use Rattle.nova_model.specs.declared.context.EcState.{EcState}
use Rattle.nova_model.specs.declared.context.State.{State}
use Rattle.nova_model.specs.declared.context.State.TheVariants.{Ready}
use Rattle.nova_model.specs.declared.deed.Deed.{Deed}
use Rattle.nova_model.specs.declared.deed.Deed.TheVariants.{Steps}
use Rattle.nova_model.specs.declared.event.Event.{Event}
use Rattle.nova_model.specs.declared.event.EventKind.TheVariants as event
use Rattle.nova_model.specs.declared.event.Turn.TheVariants.{Stepped}
use Rattle.law_forest.specs.Effects.{memory_with, store_by}
use Rattle.law_forest.specs.Turns.{is_passing, passing_event}
use Rattle.law_forest.proofs.Turning.{acting_kind, of_events, passing_kind}
use Rattle.nova_recording.specs.Accesses.{access_in, accessed, load_missed, memory_after, put_in, unloaded}
use Rattle.nova_recording.specs.Accesses as of
use Rattle.nova_recording.specs.Wants.{access_by, is_going, is_ready}
use Rattle.nova_recording.specs.declared.preview.Access.{Access}
use Rattle.nova_recording.specs.declared.wants.Next.{Next}
use Rattle.nova_recording.proofs.Others.{no_store}

-- what is told of a context that acts
abbrev told : KernelState → ℕ → Bool → Option Access
told k ec going = if going then accessed k ec else None

told_of : (k : KernelState) (ec : ℕ) (going : Bool) (next : Next) → next.ec ≡ ec →
    option_and_then (λ (n : Next). accessed k n.ec) (if going then Some next else None) ≡ told k ec going
told_of k ec true next is = ap (accessed k) is
told_of k ec false next is = refl

-- of the turn of a context that acts, and of a turn in which none does
acting_told : (k : KernelState) (cpu : ℕ) (c : Candidate) → access_by k (Some (event_of cpu c (deed k c.actor))) ≡ told k c.actor (is_going (context k c.actor))
acting_told k cpu c = rw (acting_kind (deed k c.actor)) (told_of k c.actor (is_going (context k c.actor)) _ refl)

passing_told : (k : KernelState) (e : Event) → is_passing e.kind ≡ true → access_by k (Some e) ≡ None
passing_told k e is = rw is refl

-- a load leaves memory
missed_stays : (m : Memory) (a : AddressSpace) (o : Once) → memory_after m (load_missed a o) ≡ m
missed_stays m a (Went regs store) = refl
missed_stays m a (Raised reason q0 q1) = by_test (reason == load_fault)
  where
    by_test : (t : Bool) → memory_after m (if t then Some (of.load_at a q0 q1) else None) ≡ m
    by_test true = refl
    by_test false = refl

-- a store puts its number to its frame
store_puts : (m : Memory) (s : Store) (frame o : Option ℕ) →
    stored_at m s o ≡ put_in m (record { address = s.address; width = s.width; stored = Some s.value; frame = frame }) s.value o
store_puts m s frame None = refl
store_puts m s frame (Some to) = refl

instruction_puts : (k : KernelState) (ec : ℕ) (o unloaded : Once) →
    memory_with k.memory (option_map (λ s. (address_space k ec, s)) (store_of o)) ≡ memory_after k.memory (of.access_by (address_space k ec) o unloaded)
instruction_puts k ec (Raised reason q0 q1) unloaded = refl
instruction_puts k ec (Went regs None) unloaded = sym (missed_stays k.memory (address_space k ec) unloaded)
instruction_puts k ec (Went regs (Some s)) unloaded =
    let to = frame_for (address_space k ec) write_right s.address in store_puts k.memory s to to

-- a context that is about to execute is there, and its deed is that of its instruction
going_deed : (k : KernelState) (ec : ℕ) → is_going (context k ec) ≡ true → deed k ec ≡ stepping k ec (instruction k ec)
unfolding deed
going_deed k ec going = by_state (context k ec).state going
  where
    by_recall : (recall : Bool) → not recall ≡ true → ready k ec recall ≡ stepping k ec (instruction k ec)
    by_recall true is = absurd cc
    by_recall false is = refl

    by_state : (s : State) → (is_ready s && not (context k ec).recall) ≡ true → deed_in k ec s ≡ stepping k ec (instruction k ec)
    by_state Ready is = by_recall (context k ec).recall is
    by_state other is = absurd cc

going_access : (k : KernelState) (ec : ℕ) → is_going (context k ec) ≡ true →
    accessed k ec ≡ of.access_by (address_space k ec) (instruction k ec) (unloaded k ec)
going_access k ec going = by_context (context_at k ec) going
  where
    by_context : (o : Option EcState) → is_going (context_in o) ≡ true →
        access_in k ec o ≡ of.access_by (address_space k ec) (instruction k ec) (unloaded k ec)
    by_context (Some x) is = refl
    by_context None is = absurd cc

-- what any deed stores of an instruction that raises is nothing
raised_none : (k : KernelState) (ec : ℕ) (d : Deed) (reason q0 q1 : ℕ) → instruction k ec ≡ Raised reason q0 q1 → store_by k ec d ≡ None
raised_none k ec Steps reason q0 q1 is = rw is refl
raised_none k ec other reason q0 q1 is = refl

going_stores : (k : KernelState) (ec : ℕ) (o : Once) → instruction k ec ≡ o →
    store_by k ec (stepping k ec o) ≡ option_map (λ s. (address_space k ec, s)) (store_of o)
going_stores k ec (Raised reason q0 q1) is = raised_none k ec _ reason q0 q1 is
going_stores k ec (Went regs store) is = ap (λ (o : Once). option_map (λ s. (address_space k ec, s)) (store_of o)) is

deed_puts : (k : KernelState) (ec : ℕ) (going : Bool) → is_going (context k ec) ≡ going →
    memory_with k.memory (store_by k ec (deed k ec)) ≡ memory_after k.memory (told k ec going)
deed_puts k ec false is = ap (memory_with k.memory) (no_store k ec is)
deed_puts k ec true is =
    ap (λ (d : Deed). memory_with k.memory (store_by k ec d)) (going_deed k ec is)
    ∙ ap (memory_with k.memory) (going_stores k ec (instruction k ec) refl)
    ∙ instruction_puts k ec (instruction k ec) (unloaded k ec)
    ∙ ap (memory_after k.memory) (sym (going_access k ec is))

pub told_is_change : (k : KernelState) (cpu : ℕ) (e : Event) → answer_of (turn k cpu) ≡ Stepped e → (after k cpu).memory ≡ memory_after k.memory (access_by k (Some e))
told_is_change k cpu e answers =
    of_events (λ (f : Event). (after k cpu).memory ≡ memory_after k.memory (access_by k (Some f))) k cpu e answers
    (λ p comes state. ap (λ (s : KernelState). s.memory) state ∙ ap (memory_after k.memory) (sym (passing_told k (passing_event k cpu p) (passing_kind k cpu p))))
    (λ c chosen state. ap (λ (s : KernelState). s.memory) state ∙ deed_puts k c.actor (is_going (context k c.actor)) refl
    ∙ ap (memory_after k.memory) (sym (acting_told k cpu c)))

-- a context whose event is no step accesses nothing
stepping_told : (k : KernelState) (ec : ℕ) (o unloaded : Once) → (sign_of (stepping k ec o)).0 ≢ event.Step → of.access_by (address_space k ec) o unloaded ≡ None
stepping_told k ec (Raised reason q0 q1) unloaded other = refl
stepping_told k ec (Went regs store) unloaded other = absurd (other refl)

deed_told : (k : KernelState) (ec : ℕ) (going : Bool) → is_going (context k ec) ≡ going → (sign_of (deed k ec)).0 ≢ event.Step → told k ec going ≡ None
deed_told k ec false is other = refl
deed_told k ec true is other =
    going_access k ec is
    ∙ stepping_told k ec (instruction k ec) (unloaded k ec) (λ same. other (ap (λ (d : Deed). (sign_of d).0) (going_deed k ec is) ∙ same))

pub raised_told : (k : KernelState) (cpu : ℕ) (e : Event) → answer_of (turn k cpu) ≡ Stepped e → e.kind ≢ event.Step → access_by k (Some e) ≡ None
raised_told k cpu e answers =
    of_events (λ (f : Event). f.kind ≢ event.Step → access_by k (Some f) ≡ None) k cpu e answers
    (λ p comes state other. passing_told k (passing_event k cpu p) (passing_kind k cpu p))
    (λ c chosen state other. acting_told k cpu c ∙ deed_told k c.actor (is_going (context k c.actor)) refl other)
