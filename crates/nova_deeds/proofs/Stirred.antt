-- The virtual CPUs that a deed stirs, by what is left after it, and by what was before: the same.
use Rattle.std.proofs.Common.{◌≡◌, ℕ, zero, suc, ◌+◌, ◌==◌, List, [], ◌∷◌, length, refl, ap, ap₂, ◌∙◌, arith}
use Rattle.std.specs.Prelude.{Bool, true, false, ◌&&◌, nat_lt, if◌then◌else◌, Option, Some, None, is_some, option_map, option_and_then, slice_get}
use Rattle.rv_model.specs.Step.{Once, Raised, Went, Store}
use Rattle.nova_guest.specs.declared.input.Input.{Input}
use Rattle.nova_range.specs.Rights.{write_right}
use Rattle.nova_model.specs.AddressSpaces.{AddressSpace, frame_for, stored_at}
use Rattle.nova_model.specs.Deeds.{address_space, done, instruction, memory_after, stepped}
use Rattle.nova_model.specs.Inputs.{foreign_at, foreign_by, in_ram, input_of, is_covered_for, is_outside, is_stirred, only_if, others_input, own_input, store_of, stirred, stirred_count, stirred_from}
use Rattle.nova_model.specs.Memory.{Memory}
use Rattle.nova_model.specs.State.{KernelState, pd_of}
use Rattle.nova_model.specs.Views.{is_memory_of}
use Rattle.nova_model.specs.declared.context.Mark.TheVariants as mark
use Rattle.nova_model.specs.declared.deed.Deed.{Deed}
use Rattle.nova_model.specs.declared.deed.Deed.TheVariants.{Steps, Raises, Dies, Sends, Recalls, Gives, Removes, Finishes, Replies, Aborts}
use Rattle.nova_model.specs.declared.transfer.Sequel.TheVariants.{Replied}
use Rattle.law_turns.proofs.Stirring.{outside as from_outside}
use Rattle.law_forest.proofs.Plain.{length-written_in as written_length}
use Rattle.nova_deeds.proofs.Calm.{with_guests}
use Rattle.nova_deeds.specs.Stirs.{frame_at, is_seen, is_stirring, stirs_itself, stirs_other, written_frame}
use Rattle.nova_deeds.specs.StirCounts.{risen, risen_from}

-- ITS OWN DEED

itself : (d : Deed) → stirs_itself d ≡ from_outside (own_input d)
itself Steps = refl
itself (Raises reason q0 q1) = refl
itself (Sends handler ip identifier mtd reason q0 q1) = refl
itself (Dies reason q0) = refl
itself (Aborts handler mark) = refl
itself other = refl

-- A STORE

-- a frame that is there
pub frame_there : {T : Type 0} → (xs : List T) (n : ℕ) → nat_lt n (length xs) ≡ is_some (slice_get xs n)
frame_there [] n = grind arith
frame_there (x ∷ xs) zero = grind arith
frame_there (x ∷ xs) (suc n) = let e : nat_lt (suc n) (suc (length xs)) ≡ nat_lt n (length xs) = grind arith in e ∙ frame_there xs n

seen_at : (k : KernelState) (pd : ℕ) (s : Store) (o : Option ℕ) →
    is_seen k pd o ≡ from_outside (option_and_then (foreign_at k pd s) (option_and_then (in_ram k) o))
seen_at k pd s None = refl
seen_at k pd s (Some frame) =
    ap (λ (t : Bool). t && is_covered_for k pd frame) (frame_there k.memory.ram frame) ∙ by_tests (is_some (slice_get k.memory.ram frame)) (is_covered_for k pd frame) refl
  where
    by_tests : (t u : Bool) → is_covered_for k pd frame ≡ u →
        (t && is_covered_for k pd frame) ≡ from_outside (option_and_then (foreign_at k pd s) (if t then Some frame else None))
    by_tests false u is = refl
    by_tests true true is = rw is refl
    by_tests true false is = rw is refl

seen_by : (k : KernelState) (ec pd : ℕ) (o : Option Store) →
    is_seen k pd (option_and_then (frame_at k ec) o) ≡ from_outside (option_and_then (foreign_by k ec pd) o)
seen_by k ec pd None = refl
seen_by k ec pd (Some s) = seen_at k pd s (frame_for (address_space k ec) write_right s.address)

stored_length : (m : Memory) (s : Store) (o : Option ℕ) → length (stored_at m s o).ram ≡ length m.ram
stored_length m s None = refl
stored_length m s (Some frame) = written_length m (slice_get m.ram frame) frame _ s.width s.value

memory_length : (a : AddressSpace) (o : Option Store) (m : Memory) → length (memory_after a o m).ram ≡ length m.ram
memory_length a None m = refl
memory_length a (Some s) m = stored_length m s (frame_for a write_right s.address)

seen_after : (k : KernelState) (ec g : ℕ) (o : Once) (w : Option ℕ) → is_seen (stepped k ec o) (pd_of (stepped k ec o) g) w ≡ is_seen k (pd_of k g) w
seen_after k ec g (Raised reason q0 q1) w = refl
seen_after k ec g (Went regs store) None = refl
seen_after k ec g (Went regs store) (Some frame) =
    ap (λ (n : ℕ). nat_lt frame n && is_covered_for k (pd_of k g) frame) (memory_length (address_space k ec) store k.memory)

-- ANOTHER'S DEED

outside : (t : Bool) (i : Input) → is_outside i ≡ true → t ≡ from_outside (only_if t i)
outside true i is = rw is refl
outside false i is = refl

abbrev IsWritten : KernelState → ℕ → Option ℕ → Deed → Type 0
IsWritten k ec w d = d ≡ Steps → w ≡ written_frame k ec

other : (k : KernelState) (w : Option ℕ) (ec g : ℕ) (d : Deed) → IsWritten k ec w d → stirs_other (done k ec d) w d g ≡ from_outside (others_input k ec g d)
other k w ec g Steps written =
    seen_after k ec g (instruction k ec) w ∙ ap (is_seen k (pd_of k g)) (written refl) ∙ seen_by k ec (pd_of k g) (store_of (instruction k ec))
other k w ec g (Recalls whose) written = outside (whose == g) _ refl
other k w ec g (Replies caller mark.Exit false) written = outside (caller == g) _ refl
other k w ec g (Replies caller mark.Exit true) written = refl
other k w ec g (Replies caller mark.Call items) written = refl
other k w ec g (Finishes item end words (Replied caller mark.Exit)) written = outside (caller == g) _ refl
other k w ec g (Finishes item end words after) written = refl
other k w ec g (Gives child cursor) written = outside (is_memory_of (pd_of k g) child) _ refl
other k w ec g (Removes leaf) written = outside (is_memory_of (pd_of k g) leaf) _ refl
other k w ec g d written = refl

-- the virtual CPU that is stirred, after the deed as before it
same : (k : KernelState) (w : Option ℕ) (ec : ℕ) (d : Deed) (g : ℕ) → IsWritten k ec w d → is_stirring (done k ec d) w ec d g ≡ is_stirred k ec d g
unfolding input_of
same k w ec d g written = by_test (ec == g)
  where
    by_test : (t : Bool) → (if t then stirs_itself d else stirs_other (done k ec d) w d g) ≡ from_outside (if t then own_input d else others_input k ec g d)
    by_test true = itself d
    by_test false = other k w ec g d written

-- COUNTS

counts_same : (k : KernelState) (stirs : ℕ → Bool) (ec : ℕ) (d : Deed) → ((g : ℕ) → stirs g ≡ is_stirred k ec d g) → (n : ℕ) (counts : List (Option ℕ)) →
    risen_from stirs n counts ≡ stirred_from k ec d n counts
counts_same k stirs ec d all n [] = refl
counts_same k stirs ec d all n (count ∷ counts) =
    ap₂ (λ (c : Option ℕ) (cs : List (Option ℕ)). c ∷ cs) (by_entry count) (counts_same k stirs ec d all (n + 1) counts)
  where
    by_count : (t : Bool) (m : ℕ) → risen t m ≡ (if t then m + 1 else m)
    by_count true m = refl
    by_count false m = refl

    by_entry : (o : Option ℕ) → option_map (risen (stirs n)) o ≡ option_map (stirred_count k ec d n) o
    by_entry None = refl
    by_entry (Some m) = ap (λ (c : ℕ). Some c) (by_count (stirs n) m ∙ ap (λ (t : Bool). if t then m + 1 else m) (all n))

-- counts that rise by what is left after a deed are those that the deed stirs
pub risen_stirred : (k : KernelState) (ec : ℕ) (d : Deed) (w : Option ℕ) → (d ≡ Steps → w ≡ written_frame k ec) →
    record (done k ec d) { stirs = record (done k ec d).stirs { guests = risen_from (is_stirring (done k ec d) w ec d) 0 (done k ec d).stirs.guests } }
    ≡ stirred k ec d (done k ec d)
risen_stirred k ec d w written =
    ap (with_guests (done k ec d))
    (counts_same k (is_stirring (done k ec d) w ec d) ec d (λ g. same k w ec d g written) 0 (done k ec d).stirs.guests)
