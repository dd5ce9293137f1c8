-- The bytes of a frame that the context that acts doesn't reach influence nothing.
use Rattle.std.proofs.Common.{◌≡◌, ℕ, ◌/◌, ◌%◌, ◌-◌, ◌==◌, List, [], ◌∷◌, ◌++◌, refl, sym, ap, ap₂, ◌∙◌, subst}
use Rattle.std.specs.Prelude.{Bool, true, false, ◌≢◌, IsSome, is_some, slice_get, slice_set, option_map, option_and_then, Option, Some, None, if◌then◌else◌}
use mathlib.Core.Path.{fun_ext}
use Rattle.byteorder.specs.Endian.{little_bytes}
use Rattle.rv_model.specs.Step.{Once, Store, one}
use Rattle.nova_guest.specs.Frames.{read_in, replaced}
use Rattle.nova_range.specs.Rights.{execute_right, read_right, write_right}
use Rattle.nova_model.specs.AddressSpaces.{found, frame_for, loaded_from, space, stored_at, words_at}
use Rattle.nova_model.specs.Choice.{Candidate, choice, in_front, next_to_act}
use Rattle.nova_model.specs.Deeds.{address_space, deed, instruction}
use Rattle.nova_model.specs.Inputs.{foreign_by, foreign_at, given_of, in_ram, input_of, is_outside, is_stirred, only_if, others_input, own_input, store_of}
use Rattle.nova_model.specs.Memory.{Memory, written_in}
use Rattle.nova_model.specs.Runs.{after, run, trace}
use Rattle.nova_model.specs.Times.{due_on, next_moment}
use Rattle.nova_model.specs.Turn.{Step, chosen_by, event_of, tick_by, turn, turn_by}
use Rattle.nova_model.specs.Views.{is_memory_of}
use Rattle.nova_model.specs.declared.event.Event.{Event}
use Rattle.nova_model.specs.State.{KernelState, context, pd_of}
use Rattle.nova_model.specs.declared.deed.Deed.{Deed}
use Rattle.nova_model.specs.declared.deed.Deed.TheVariants as deeds
use Rattle.nova_model.specs.declared.times.Due.{Due}
use Rattle.nova_model.specs.declared.times.Due.TheVariants as due
use Rattle.law_forest.specs.Effects.{Edits, Falls, Passing, Ticks, edits_by, effect, memory_with, steps_by, store_by, store_words, words_by}
use Rattle.law_forest.specs.Turns.{Turning, acting, passing, turned}
use Rattle.law_forest.proofs.Turning.{acts_next, chosen_turn, due_turn, tick_turn}
use Rattle.law_turns.proofs.Setting.{get_other, set_both, set_length, some_set}
use Rattle.law_origins.specs.Giving.{Acts}
use Rattle.law_integrity.specs.Rights.{PageLeadsTo}
use Rattle.law_integrity.specs.Secrecy.{IsHidden, IsHiddenAlong, with_bytes}
use Rattle.law_integrity.proofs.Beside.{idle_stays}
use Rattle.law_integrity.proofs.Deeds.{choice_same, deed_same}
use Rattle.law_integrity.proofs.Stores.{leads_to}

-- no address leads there
far : (k : KernelState) (ec right frame address g : ℕ) → ((page : ℕ) → PageLeadsTo k (pd_of k ec) page right frame → ⊥) → frame_for (address_space k ec) right address ≡ Some g → g ≢ frame
far k ec right frame address g none is = λ same. none (address / 4096) (leads_to k ec right address frame (is ∙ ap (λ (n : ℕ). Some n) same))

-- WHAT AN INSTRUCTION SEES

found_same : (k : KernelState) (ec frame : ℕ) (bytes : List ℕ) (right address width : ℕ) → ((page : ℕ) → PageLeadsTo k (pd_of k ec) page right frame → ⊥) →
    found (address_space (with_bytes k frame bytes) ec) right address width ≡ found (address_space k ec) right address width
found_same k ec frame bytes right address width none = by_frame (frame_for (address_space k ec) right address) refl
  where
    by_frame : (o : Option ℕ) → frame_for (address_space k ec) right address ≡ o →
        option_map (λ g. read_in (slice_get (slice_set k.memory.ram frame bytes) g) (address % 4096) width) o ≡ option_map (λ g. read_in (slice_get k.memory.ram g) (address % 4096) width) o
    by_frame None is = refl
    by_frame (Some g) is = ap (λ (c : Option (List ℕ)). Some (read_in c (address % 4096) width)) (get_other k.memory.ram frame g bytes (far k ec right frame address g none is))

space_same : (k : KernelState) (ec frame : ℕ) (bytes : List ℕ) → IsHidden k (pd_of k ec) frame → space (address_space (with_bytes k frame bytes) ec) ≡ space (address_space k ec)
space_same k ec frame bytes hidden =
    ap₂ (λ (f : ℕ → Option ℕ) (l : ℕ → ℕ → Option ℕ). record (space (address_space k ec)) { fetch = f; load = l })
    (fun_ext (λ address. found_same k ec frame bytes execute_right address 4 hidden.unexecuted))
    (fun_ext (λ address. fun_ext (λ width. by_words address width (words_at (address_space k ec) address))))
  where
    by_words : (address width : ℕ) (o : Option (List ℕ)) → loaded_from (address_space (with_bytes k frame bytes) ec) address width o ≡ loaded_from (address_space k ec) address width o
    by_words address width (Some m) = refl
    by_words address width None = found_same k ec frame bytes read_right address width hidden.unread

instruction_same : (k : KernelState) (ec frame : ℕ) (bytes : List ℕ) → IsHidden k (pd_of k ec) frame → instruction (with_bytes k frame bytes) ec ≡ instruction k ec
instruction_same k ec frame bytes hidden = ap (one (context k ec).regs) (space_same k ec frame bytes hidden)

-- WHAT A DEED DOES

edits_same : (k : KernelState) (ec frame : ℕ) (bytes : List ℕ) → instruction (with_bytes k frame bytes) ec ≡ instruction k ec → (d : Deed) →
    edits_by (with_bytes k frame bytes) ec d ≡ edits_by k ec d
edits_same k ec frame bytes same deeds.Steps = ap (steps_by ec) same
edits_same k ec frame bytes same (deeds.Replies caller came true) = refl
edits_same k ec frame bytes same (deeds.Replies caller came false) = refl
edits_same k ec frame bytes same other = refl

words_same : (k : KernelState) (ec frame : ℕ) (bytes : List ℕ) → instruction (with_bytes k frame bytes) ec ≡ instruction k ec → (d : Deed) →
    words_by (with_bytes k frame bytes) ec d ≡ words_by k ec d
words_same k ec frame bytes same deeds.Steps =
    ap (λ (o : Once). store_words (address_space (with_bytes k frame bytes) ec) ec (store_of o)) same ∙ by_store (store_of (instruction k ec))
  where
    by_store : (o : Option Store) → store_words (address_space (with_bytes k frame bytes) ec) ec o ≡ store_words (address_space k ec) ec o
    by_store None = refl
    by_store (Some s) = refl
words_same k ec frame bytes same other = refl

abbrev memory_of : Memory → ℕ → List ℕ → Memory
memory_of m frame bytes = record m { ram = slice_set m.ram frame bytes }

written_same : (m : Memory) (frame : ℕ) (bytes : List ℕ) (g offset width value : ℕ) → g ≢ frame → (o : Option (List ℕ)) →
    written_in (memory_of m frame bytes) o g offset width value ≡ memory_of (written_in m o g offset width value) frame bytes
written_same m frame bytes g offset width value other (Some old) =
    ap (λ (l : List (List ℕ)). record m { ram = l }) (set_both m.ram frame g bytes (replaced old offset (little_bytes width value)) other)
written_same m frame bytes g offset width value other None =
    ap (λ (n : ℕ). record (memory_of m frame bytes) { log = m.log ++ (if offset == 0 then record { console = g - n; value = value % 256 } ∷ [] else []) }) (set_length m.ram frame bytes)

stored_same : (k : KernelState) (ec frame : ℕ) (bytes : List ℕ) → IsHidden k (pd_of k ec) frame → (s : Store) (o : Option ℕ) → frame_for (address_space k ec) write_right s.address ≡ o →
    stored_at (memory_of k.memory frame bytes) s o ≡ memory_of (stored_at k.memory s o) frame bytes
stored_same k ec frame bytes hidden s None is = refl
stored_same k ec frame bytes hidden s (Some g) is =
    let other : g ≢ frame = far k ec write_right frame s.address g hidden.unwritten is in
    ap (λ (o : Option (List ℕ)). written_in (memory_of k.memory frame bytes) o g (s.address % 4096) s.width s.value) (get_other k.memory.ram frame g bytes other)
    ∙ written_same k.memory frame bytes g (s.address % 4096) s.width s.value other (slice_get k.memory.ram g)

memory_same : (k : KernelState) (ec frame : ℕ) (bytes : List ℕ) → IsHidden k (pd_of k ec) frame → instruction (with_bytes k frame bytes) ec ≡ instruction k ec → (d : Deed) →
    memory_with (memory_of k.memory frame bytes) (store_by (with_bytes k frame bytes) ec d) ≡ memory_of (memory_with k.memory (store_by k ec d)) frame bytes
memory_same k ec frame bytes hidden same deeds.Steps =
    ap (λ (o : Once). memory_with (memory_of k.memory frame bytes) (option_map (λ s. (address_space (with_bytes k frame bytes) ec, s)) (store_of o))) same
    ∙ by_store (store_of (instruction k ec))
  where
    by_store : (o : Option Store) → memory_with (memory_of k.memory frame bytes) (option_map (λ s. (address_space (with_bytes k frame bytes) ec, s)) o)
        ≡ memory_of (memory_with k.memory (option_map (λ s. (address_space k ec, s)) o)) frame bytes
    by_store None = refl
    by_store (Some s) = stored_same k ec frame bytes hidden s (frame_for (address_space k ec) write_right s.address) refl
memory_same k ec frame bytes hidden same other = refl

-- WHAT IT STIRS

foreign_same : (k : KernelState) (ec frame g : ℕ) (bytes : List ℕ) → (o : Option Store) →
    option_and_then (foreign_by (with_bytes k frame bytes) ec (pd_of k g)) o ≡ option_and_then (foreign_by k ec (pd_of k g)) o
foreign_same k ec frame g bytes None = refl
foreign_same k ec frame g bytes (Some s) = by_frame (frame_for (address_space k ec) write_right s.address)
  where
    by_frame : (o : Option ℕ) → option_and_then (foreign_at (with_bytes k frame bytes) (pd_of k g) s) (option_and_then (in_ram (with_bytes k frame bytes)) o)
        ≡ option_and_then (foreign_at k (pd_of k g) s) (option_and_then (in_ram k) o)
    by_frame None = refl
    by_frame (Some n) =
        ap (λ (t : Bool). option_and_then (foreign_at k (pd_of k g) s) (if t then Some n else None)) (some_set k.memory.ram frame n bytes)

stirred_same : (k : KernelState) (ec frame : ℕ) (bytes : List ℕ) → instruction (with_bytes k frame bytes) ec ≡ instruction k ec → (d : Deed) (g : ℕ) →
    is_stirred (with_bytes k frame bytes) ec d g ≡ is_stirred k ec d g
unfolding input_of
stirred_same k ec frame bytes same d g = by_test (ec == g) d
  where
    by_test : (t : Bool) (d : Deed) → is_some (option_and_then (λ i. only_if (is_outside i) i) (if t then own_input d else others_input (with_bytes k frame bytes) ec g d))
        ≡ is_some (option_and_then (λ i. only_if (is_outside i) i) (if t then own_input d else others_input k ec g d))
    by_test true d = refl
    by_test false deeds.Steps =
        ap (λ i. is_some (option_and_then (λ i. only_if (is_outside i) i) i))
        (ap (λ (o : Once). option_and_then (foreign_by (with_bytes k frame bytes) ec (pd_of k g)) (store_of o)) same ∙ foreign_same k ec frame g bytes (store_of (instruction k ec)))
    by_test false (deeds.Gives child cursor) = by_kind (is_memory_of (pd_of k g) child)
      where
        by_kind : (t : Bool) → is_some (option_and_then (λ i. only_if (is_outside i) i) (only_if t (given_of (with_bytes k frame bytes) child)))
            ≡ is_some (option_and_then (λ i. only_if (is_outside i) i) (only_if t (given_of k child)))
        by_kind true = refl
        by_kind false = refl
    by_test false other = refl

-- A TURN

turning_same : (k : KernelState) (cpu frame : ℕ) (bytes : List ℕ) (c : Candidate) → IsHidden k (pd_of k c.actor) frame →
    turned (with_bytes k frame bytes) cpu (acting (with_bytes k frame bytes) c) ≡ with_bytes (turned k cpu (acting k c)) frame bytes
turning_same k cpu frame bytes c hidden =
    let same : instruction (with_bytes k frame bytes) c.actor ≡ instruction k c.actor = instruction_same k c.actor frame bytes hidden in
    ap (λ (d : Deed). turned other cpu (record { effect = effect other c.actor d; stirs = is_stirred other c.actor d; charge = Some c.sc }))
    (deed_same k (memory_of k.memory frame bytes) c.actor same)
    ∙ ap (λ (es : Edits). turned other cpu (record (acting_by d) { effect = record (effect other c.actor d) { edits = es } })) (edits_same k c.actor frame bytes same d)
    ∙ ap (λ (ws : Option (ℕ × List ℕ)). turned other cpu (record (acting_by d) { effect = record (effect other c.actor d) { edits = edits_by k c.actor d; words = ws } })) (words_same k c.actor frame bytes same d)
    ∙ ap (λ (is : ℕ → Bool). turned other cpu (record {
      effect = record (effect other c.actor d) { edits = edits_by k c.actor d; words = words_by k c.actor d };
      stirs = is;
      charge = Some c.sc;
    })) (fun_ext (stirred_same k c.actor frame bytes same d))
    ∙ ap (λ (m : Memory). record (turned k cpu (acting k c)) { memory = m }) (memory_same k c.actor frame bytes hidden same d)
  where
    other : KernelState
    other = with_bytes k frame bytes

    d : Deed
    d = deed k c.actor

    acting_by : Deed → Turning
    acting_by d = record { effect = effect other c.actor d; stirs = is_stirred other c.actor d; charge = Some c.sc }

-- what comes by itself looks at no memory
passing_same : (k : KernelState) (cpu frame : ℕ) (bytes : List ℕ) (p : Passing) →
    turned (with_bytes k frame bytes) cpu (passing (with_bytes k frame bytes) p) ≡ with_bytes (turned k cpu (passing k p)) frame bytes
passing_same k cpu frame bytes (Falls (due.Alarm alarm)) = refl
passing_same k cpu frame bytes (Falls (due.Deadline ec)) = refl
passing_same k cpu frame bytes Ticks = refl

pub turn_same : (k : KernelState) (cpu frame : ℕ) (bytes : List ℕ) → ((ec : ℕ) → Acts k cpu ec → IsHidden k (pd_of k ec) frame) →
    after (with_bytes k frame bytes) cpu ≡ with_bytes (after k cpu) frame bytes
turn_same k cpu frame bytes hidden = by_due (due_on k.times cpu) refl
  where
    other : KernelState
    other = with_bytes k frame bytes

    both : (p : Passing) → after other cpu ≡ turned other cpu (passing other p) → after k cpu ≡ turned k cpu (passing k p) → after other cpu ≡ with_bytes (after k cpu) frame bytes
    both p first second = first ∙ passing_same k cpu frame bytes p ∙ ap (λ (s : KernelState). with_bytes s frame bytes) (sym second)

    by_moment : (o : Option ℕ) → next_moment k.times cpu ≡ o → due_on k.times cpu ≡ None → choice k cpu ≡ None → after other cpu ≡ with_bytes (after k cpu) frame bytes
    by_moment None quiet calm is =
        idle_stays other cpu (choice_same k (memory_of k.memory frame bytes) cpu ∙ is) quiet ∙ ap (λ (s : KernelState). with_bytes s frame bytes) (sym (idle_stays k cpu is quiet))
    by_moment (Some moment) comes calm is =
        let some : IsSome (next_moment k.times cpu) = subst IsSome (sym comes) refl in
        both Ticks (tick_turn other cpu calm (choice_same k (memory_of k.memory frame bytes) cpu ∙ is) some) (tick_turn k cpu calm is some)

    by_choice : (o : Option Candidate) → choice k cpu ≡ o → due_on k.times cpu ≡ None → after other cpu ≡ with_bytes (after k cpu) frame bytes
    by_choice None is calm = by_moment (next_moment k.times cpu) refl calm is
    by_choice (Some c) is calm =
        let acts_ : next_to_act k cpu ≡ Some c = acts_next k cpu c is calm in
        chosen_turn other cpu c (acts_next other cpu c (choice_same k (memory_of k.memory frame bytes) cpu ∙ is) calm)
        ∙ turning_same k cpu frame bytes c (hidden c.actor (ap (option_map (λ (c : Candidate). c.actor)) acts_))
        ∙ ap (λ (s : KernelState). with_bytes s frame bytes) (sym (chosen_turn k cpu c acts_))

    by_due : (o : Option Due) → due_on k.times cpu ≡ o → after other cpu ≡ with_bytes (after k cpu) frame bytes
    by_due (Some what) is = both (Falls what) (due_turn other cpu what is) (due_turn k cpu what is)
    by_due None is = by_choice (choice k cpu) refl is

-- TURNS ONE AFTER ANOTHER

pub turns_same : (k : KernelState) (turns : List ℕ) (frame : ℕ) (bytes : List ℕ) → IsHiddenAlong k turns frame →
    run (with_bytes k frame bytes) turns ≡ with_bytes (run k turns) frame bytes
turns_same k [] frame bytes hidden = refl
turns_same k (cpu ∷ turns) frame bytes hidden =
    ap (λ (s : KernelState). run s turns) (turn_same k cpu frame bytes hidden.0) ∙ turns_same (after k cpu) turns frame bytes hidden.1

-- and their events
pub event_same : (k : KernelState) (cpu frame : ℕ) (bytes : List ℕ) → ((ec : ℕ) → Acts k cpu ec → IsHidden k (pd_of k ec) frame) →
    option_map (λ (s : Step). s.event) (turn (with_bytes k frame bytes) cpu) ≡ option_map (λ (s : Step). s.event) (turn k cpu)
unfolding turn
event_same k cpu frame bytes hidden = by_due (due_on k.times cpu) refl
  where
    other : KernelState
    other = with_bytes k frame bytes

    by_moment : (o : Option ℕ) → option_map (λ (s : Step). s.event) (tick_by other cpu o) ≡ option_map (λ (s : Step). s.event) (tick_by k cpu o)
    by_moment None = refl
    by_moment (Some moment) = refl

    by_choice : (o : Option Candidate) → choice k cpu ≡ o → due_on k.times cpu ≡ None →
        option_map (λ (s : Step). s.event) (chosen_by other cpu o) ≡ option_map (λ (s : Step). s.event) (chosen_by k cpu o)
    by_choice None is calm = by_moment (next_moment k.times cpu)
    by_choice (Some c) is calm =
        let acts_ : Acts k cpu c.actor = ap (option_map (λ (c : Candidate). c.actor)) (acts_next k cpu c is calm) in
        ap (λ (d : Deed). Some (event_of cpu c d))
        (deed_same k (memory_of k.memory frame bytes) c.actor (instruction_same k c.actor frame bytes (hidden c.actor acts_)))

    by_due : (o : Option Due) → due_on k.times cpu ≡ o → option_map (λ (s : Step). s.event) (turn_by other cpu o) ≡ option_map (λ (s : Step). s.event) (turn_by k cpu o)
    by_due (Some (due.Alarm alarm)) is = refl
    by_due (Some (due.Deadline ec)) is = refl
    by_due None is =
        ap (λ (o : Option Candidate). option_map (λ (s : Step). s.event) (chosen_by other cpu o)) (choice_same k (memory_of k.memory frame bytes) cpu)
        ∙ by_choice (choice k cpu) refl is

pub trace_same : (k : KernelState) (turns : List ℕ) (frame : ℕ) (bytes : List ℕ) → IsHiddenAlong k turns frame →
    trace (with_bytes k frame bytes) turns ≡ trace k turns
trace_same k [] frame bytes hidden = refl
trace_same k (cpu ∷ turns) frame bytes hidden =
    ap₂ (λ (e : Option Event) (s : KernelState). in_front e (trace s turns)) (event_same k cpu frame bytes hidden.0) (turn_same k cpu frame bytes hidden.0)
    ∙ ap (λ (es : List Event). in_front (option_map (λ (s : Step). s.event) (turn k cpu)) es) (trace_same (after k cpu) turns frame bytes hidden.1)
