-- The instruction of a virtual CPU, with other registers: what is not its own differs by the store alone.
use Rattle.std.proofs.Common.{◌≡◌, ℕ, ◌/◌, ◌%◌, zero, suc, List, [], ◌∷◌, refl, sym, ap, ap₂, ◌∙◌, subst}
use Rattle.std.specs.Prelude.{Bool, true, false, ◌≢◌, ◌==◌, ◌&&◌, nat_lt, is_some, slice_get, slice_set, option_map, option_and_then, Option, Some, None, if◌then◌else◌}
use Rattle.std.proofs.lemmas.Bool.{eqb-true}
use Rattle.std.proofs.lemmas.Option.{same_Some}
use mathlib.Core.Path.{fun_ext}
use Rattle.byteorder.specs.Endian.{little_bytes}
use Rattle.rv_model.specs.Registers.{Registers}
use Rattle.rv_model.specs.Step.{Once, Raised, Store, Went, environment_call}
use Rattle.nova_model.specs.AddressSpaces.{AddressSpace, frame_for, message_size, own_page, stored_at, words_at}
use Rattle.nova_model.specs.Choice.{Candidate, next_to_act, unless_due}
use Rattle.nova_model.specs.Deeds.{address_space, deed, deed_in, instruction, ready, signalled, stepping}
use Rattle.nova_model.specs.Inputs.{foreign_by, input_of, is_outside, is_stirred, only_if, others_input, own_input, store_of}
use Rattle.nova_model.specs.Memory.{written_in}
use Rattle.nova_model.specs.Runs.{after}
use Rattle.nova_model.specs.State.{Contexts, KernelState, ec_of, entry, is_thread, message, pd_of}
use Rattle.nova_model.specs.Times.{due_on}
use Rattle.nova_model.specs.declared.context.EcState.{EcState}
use Rattle.nova_model.specs.declared.deed.Deed.{Deed}
use Rattle.nova_model.specs.declared.deed.Deed.TheVariants as deeds
use Rattle.nova_guest.specs.declared.input.Input.TheVariants as input
use Rattle.law_forest.specs.Effects.{Edit, Effect, Moves, Raises, edited, effect, memory_with, put, steps_by, store_words, words_stored}
use Rattle.law_forest.specs.Turns.{Turning, acting, turned}
use Rattle.law_forest.proofs.Turning.{chosen_turn}
use Rattle.nova_guest.specs.Frames.{replaced}
use Rattle.law_turns.proofs.Setting.{get_other}
use Rattle.law_origins.specs.Giving.{Acts}
use Rattle.nova_range.specs.Rights.{write_right}
use Rattle.nova_utcb.specs.Messages.{stored}
use Rattle.law_integrity.specs.Rights.{PageLeadsTo}
use Rattle.law_integrity.proofs.Stores.{leads_to}
use Rattle.law_integrity.specs.Disclosure.{DifferByInstruction, DifferInRegisters, IsAtInstruction, registers_set, with_registers}
use Rattle.law_integrity.proofs.Masking.{Words, choice_same, masked}

-- WHAT IT COMES TO

abbrev once_deed : Once → Deed
once_deed (Raised reason q0 q1) = deeds.Raises reason q0 q1
once_deed (Went regs store) = deeds.Steps

abbrev once_edit : Once → Edit
once_edit (Raised reason q0 q1) = Raises reason q0 q1
once_edit (Went regs store) = Moves regs

abbrev once_effect : KernelState → ℕ → Once → Effect
once_effect k g o = record (effect k g deeds.Rests) {
  edits = (g, once_edit o) ∷ [];
  words = store_words (address_space k g) g (store_of o);
  store = option_map (λ s. (address_space k g, s)) (store_of o);
}

abbrev once_stirs : KernelState → ℕ → Option Store → ℕ → Bool
once_stirs k g s n = is_some (option_and_then (λ i. only_if (is_outside i) i) (if g == n then Some input.Own else option_and_then (foreign_by k g (pd_of k n)) s))

abbrev once_turning : KernelState → ℕ → ℕ → Once → Turning
once_turning k g sc o = record { effect = once_effect k g o; stirs = once_stirs k g (store_of o); charge = Some sc }

deed_once : (k : KernelState) (g : ℕ) → IsAtInstruction k g → deed k g ≡ once_deed (instruction k g)
unfolding deed
deed_once k g at = ap (deed_in k g) at.state ∙ ap (ready k g) at.recall ∙ by_once (instruction k g) refl
  where
    by_signal : (reason q0 q1 : ℕ) → instruction k g ≡ Raised reason q0 q1 → (called thread : Bool) → (reason == environment_call) ≡ called → is_thread k g ≡ thread →
        signalled k g reason q0 q1 (called && thread) ≡ deeds.Raises reason q0 q1
    by_signal reason q0 q1 came true true called thread = absurd (at.no_call thread q0 q1 (came ∙ ap (λ (n : ℕ). Raised n q0 q1) (eqb-true reason environment_call called)))
    by_signal reason q0 q1 came true false called thread = refl
    by_signal reason q0 q1 came false thread called is = refl

    by_once : (o : Once) → instruction k g ≡ o → stepping k g o ≡ once_deed o
    by_once (Went regs store) came = refl
    by_once (Raised reason q0 q1) came = by_signal reason q0 q1 came (reason == environment_call) (is_thread k g) refl refl

effect_once : (k : KernelState) (g : ℕ) → effect k g (once_deed (instruction k g)) ≡ once_effect k g (instruction k g)
effect_once k g = by_once (instruction k g) refl
  where
    by_once : (o : Once) → instruction k g ≡ o → effect k g (once_deed o) ≡ once_effect k g o
    by_once (Raised reason q0 q1) is = refl
    by_once (Went regs store) is =
        ap (λ (o : Once). record (effect k g deeds.Rests) {
          edits = steps_by g o;
          words = store_words (address_space k g) g (store_of o);
          store = option_map (λ s. (address_space k g, s)) (store_of o);
        }) is

stirs_once : (k : KernelState) (g n : ℕ) → is_stirred k g (once_deed (instruction k g)) n ≡ once_stirs k g (store_of (instruction k g)) n
unfolding input_of
stirs_once k g n = by_once (instruction k g) refl (g == n)
  where
    by_once : (o : Once) → instruction k g ≡ o → (t : Bool) → is_some (option_and_then (λ i. only_if (is_outside i) i) (if t then own_input (once_deed o) else others_input k g n (once_deed o)))
        ≡ is_some (option_and_then (λ i. only_if (is_outside i) i) (if t then Some input.Own else option_and_then (foreign_by k g (pd_of k n)) (store_of o)))
    by_once o is true = by_own o
      where
        by_own : (o : Once) → is_some (option_and_then (λ i. only_if (is_outside i) i) (own_input (once_deed o))) ≡ false
        by_own (Raised reason q0 q1) = refl
        by_own (Went regs store) = refl
    by_once (Raised reason q0 q1) is false = refl
    by_once (Went regs store) is false = ap (λ (o : Once). is_some (option_and_then (λ i. only_if (is_outside i) i) (option_and_then (foreign_by k g (pd_of k n)) (store_of o)))) is

acting_once : (k : KernelState) (g : ℕ) (c : Candidate) → c.actor ≡ g → IsAtInstruction k g → acting k c ≡ once_turning k g c.sc (instruction k g)
acting_once k g c its at =
    ap (λ (n : ℕ). record { effect = effect k n (deed k n); stirs = is_stirred k n (deed k n); charge = Some c.sc }) its
    ∙ ap (λ (d : Deed). record { effect = effect k g d; stirs = is_stirred k g d; charge = Some c.sc }) (deed_once k g at)
    ∙ ap₂ (λ (e : Effect) (is : ℕ → Bool). record { effect = e; stirs = is; charge = Some c.sc }) (effect_once k g) (fun_ext (stirs_once k g))

-- TWO OF THEM

pub set_again : {T : Type 0} (xs : List T) (e : ℕ) (x y : T) → slice_set (slice_set xs e x) e y ≡ slice_set xs e y
set_again [] e x y = refl
set_again (z ∷ xs) zero x y = refl
set_again {T} (z ∷ xs) (suc e) x y = ap (λ (l : List T). z ∷ l) (set_again xs e x y)

pub set_kept : (ms : Words) (g : ℕ) → slice_set ms g (entry (slice_get ms g)) ≡ ms
set_kept [] g = refl
set_kept (o ∷ ms) zero = refl
set_kept (o ∷ ms) (suc g) = ap (λ (l : Words). o ∷ l) (set_kept ms g)

-- a store changes own message words alone
own_only : (ms : Words) (a : AddressSpace) (g : ℕ) (s : Option Store) (o : Option (List ℕ)) → slice_set (put ms (store_words a g s)) g o ≡ slice_set ms g o
own_only ms a g None o = refl
own_only ms a g (Some s) o = by_words (words_at a s.address)
  where
    by_words : (w : Option (List ℕ)) → slice_set (put ms (words_stored g s w)) g o ≡ slice_set ms g o
    by_words None = refl
    by_words (Some m) = set_again ms g (Some (stored m (s.address % 4096) s.width s.value)) o

-- and a virtual CPU has none
no_words : (k : KernelState) (g : ℕ) → is_thread k g ≡ false → (o : Option Store) → store_words (address_space k g) g o ≡ None
no_words k g virtual None = refl
no_words k g virtual (Some s) =
    ap (λ (t : Bool). words_stored g s (if among then (if t then Some (message k g) else None) else None)) virtual ∙ by_place among
  where
    among : Bool
    among = (s.address / 4096 == own_page) && nat_lt (s.address % 4096) message_size

    by_place : (t : Bool) → words_stored g s (if t then None else None) ≡ None
    by_place true = refl
    by_place false = refl

-- what both come to, by what each instruction does
pub record AreSteps (k l : KernelState) (cpu g : ℕ) : Type 0 where
  pub sc : ℕ
  pub first : after k cpu ≡ turned k cpu (once_turning k g sc (instruction k g))
  pub second : after l cpu ≡ turned l cpu (once_turning k g sc (instruction l g))

steps : (k : KernelState) (cpu g : ℕ) (r : Registers) → Acts k cpu g → IsAtInstruction k g → IsAtInstruction (with_registers k g r) g → AreSteps k (with_registers k g r) cpu g
unfolding next_to_act
steps k cpu g r acts_ at also_at = by_next (next_to_act k cpu) refl acts_
  where
    cs : Contexts
    cs = registers_set k.contexts g r

    other : KernelState
    other = with_registers k g r

    next : next_to_act other cpu ≡ next_to_act k cpu
    next = ap (unless_due (due_on k.times cpu)) (choice_same k cs k.messages (masked k.contexts g r) cpu)

    by_next : (o : Option Candidate) → next_to_act k cpu ≡ o → option_map (λ (c : Candidate). c.actor) o ≡ Some g → AreSteps k other cpu g
    by_next None is none = absurd (cc)
    by_next (Some c) is its =
        let same : c.actor ≡ g = same_Some c.actor g its in record {
          sc = c.sc;
          first = chosen_turn k cpu c is ∙ ap (turned k cpu) (acting_once k g c same at);
          second = chosen_turn other cpu c (next ∙ is) ∙ ap (turned other cpu) (acting_once other g c same also_at);
        }

-- each clause is one of the same two
abbrev pub AreBoth : KernelState → KernelState → ℕ → ℕ → Type 0
AreBoth k l cpu g = DifferByInstruction (after k cpu) (after l cpu) g
    × (is_thread k g ≡ false → (after l cpu).messages ≡ (after k cpu).messages)
    × (store_of (instruction l g) ≡ store_of (instruction k g) → ((after l cpu).memory ≡ (after k cpu).memory) × ((after l cpu).stirs ≡ (after k cpu).stirs))
    × ((frame : ℕ) → ((page : ℕ) → PageLeadsTo k (pd_of k g) page write_right frame → ⊥) → slice_get (after l cpu).memory.ram frame ≡ slice_get (after k cpu).memory.ram frame)

-- a frame that its domain can't write stays
unwritten : (k : KernelState) (g frame : ℕ) → ((page : ℕ) → PageLeadsTo k (pd_of k g) page write_right frame → ⊥) → (o : Option Store) →
    slice_get (memory_with k.memory (option_map (λ s. (address_space k g, s)) o)).ram frame ≡ slice_get k.memory.ram frame
unwritten k g frame none None = refl
unwritten k g frame none (Some s) = by_frame (frame_for (address_space k g) write_right s.address) refl
  where
    by_bytes : (f : ℕ) → frame ≢ f → (o : Option (List ℕ)) → slice_get (written_in k.memory o f (s.address % 4096) s.width s.value).ram frame ≡ slice_get k.memory.ram frame
    by_bytes f other (Some old) = get_other k.memory.ram f frame (replaced old (s.address % 4096) (little_bytes s.width s.value)) other
    by_bytes f other None = refl

    by_frame : (o : Option ℕ) → frame_for (address_space k g) write_right s.address ≡ o → slice_get (stored_at k.memory s o).ram frame ≡ slice_get k.memory.ram frame
    by_frame None is = refl
    by_frame (Some f) is =
        by_bytes f (λ same. none (s.address / 4096) (leads_to k g write_right s.address frame (is ∙ ap (λ (n : ℕ). Some n) (sym same)))) (slice_get k.memory.ram f)

set_both : (k : KernelState) (cpu g : ℕ) (r : Registers) → Acts k cpu g → IsAtInstruction k g → IsAtInstruction (with_registers k g r) g → AreBoth k (with_registers k g r) cpu g
set_both k cpu g r acts_ at also_at = (
  subst (λ (s : KernelState). DifferByInstruction s (after other cpu) g) (sym both.first) (subst (λ (s : KernelState). DifferByInstruction first s g) (sym both.second) own),
  λ virtual. ap (λ (s : KernelState). s.messages) both.second
      ∙ ap (put k.messages) (no_words k g virtual (store_of its) ∙ sym (no_words k g virtual (store_of (instruction k g))))
      ∙ ap (λ (s : KernelState). s.messages) (sym both.first),
  λ same. (
    ap (λ (s : KernelState). s.memory) both.second
        ∙ ap (λ (o : Option Store). memory_with k.memory (option_map (λ s. (address_space k g, s)) o)) same
        ∙ ap (λ (s : KernelState). s.memory) (sym both.first),
    ap (λ (s : KernelState). s.stirs) both.second
        ∙ ap (λ (o : Option Store). (turned k cpu (record (once_turning k g both.sc (instruction k g)) { stirs = once_stirs k g o })).stirs) same
        ∙ ap (λ (s : KernelState). s.stirs) (sym both.first),
  ),
  λ frame none. ap (λ (s : KernelState). slice_get s.memory.ram frame) both.second
      ∙ unwritten k g frame none (store_of its) ∙ sym (unwritten k g frame none (store_of (instruction k g)))
      ∙ ap (λ (s : KernelState). slice_get s.memory.ram frame) (sym both.first),
)
  where
    other : KernelState
    other = with_registers k g r

    its : Once
    its = instruction other g

    both : AreSteps k other cpu g
    both = steps k cpu g r acts_ at also_at

    first : KernelState
    first = turned k cpu (once_turning k g both.sc (instruction k g))

    second : KernelState
    second = turned other cpu (once_turning k g both.sc its)

    x : EcState
    x = edited (ec_of (registers_set k.contexts g r) g) (once_edit its)

    w : Option (List ℕ)
    w = entry (slice_get second.messages g)

    own : DifferByInstruction first second g
    own = record {
      own = x;
      words = w;
      rest = ap₂ (λ (cs : Contexts) (ms : Words). record first { contexts = cs; messages = ms; memory = second.memory; stirs = second.stirs })
          (set_again k.contexts g _ (Some x) ∙ sym (set_again k.contexts g _ (Some x)))
          (sym (set_kept second.messages g) ∙ own_only k.messages (address_space k g) g (store_of its) w ∙ sym (own_only k.messages (address_space k g) g (store_of (instruction k g)) w));
    }

pub both_instructions : (k l : KernelState) (cpu g : ℕ) → DifferInRegisters k l g → Acts k cpu g → IsAtInstruction k g → IsAtInstruction l g → AreBoth k l cpu g
both_instructions k l cpu g differ acts_ at also_at =
    subst (λ (s : KernelState). AreBoth k s cpu g) (sym differ.rest)
    (set_both k cpu g differ.registers acts_ at (subst (λ (s : KernelState). IsAtInstruction s g) differ.rest also_at))
