-- An instruction reads the frame that it is fetched from, and that which it loads from.
use Rattle.std.proofs.Common.{◌≡◌, ℕ, List, [], ◌∷◌, refl, sym, ap, ◌∙◌, subst, inl, inr}
use Rattle.std.specs.Prelude.{Bool, true, false, ◌==◌, ◌%◌, slice_get, Option, Some, None, option_map, Contains, if◌then◌else◌}
use Rattle.rv_model.specs.Codes.{instr_of}
use Rattle.rv_model.specs.Registers.{Registers, reg}
use Rattle.rv_model.specs.Step.{Once, Raised, Space, decoded, executed, fetched, load_fault, loaded, loads, misaligned, one}
use Rattle.rv_model.specs.Words.{extended, plus}
use Rattle.rv_model.specs.declared.instr.Instr.{Instr}
use Rattle.rv_model.specs.declared.instr.Instr.TheVariants.{Lb, Lbu, Lh, Lhu, Lw}
use Rattle.nova_guest.specs.Frames.{read_in}
use Rattle.nova_range.specs.Rights.{execute_right, read_right}
use Rattle.nova_model.specs.AddressSpaces.{AddressSpace, found, frame_for, loaded_from, space, without_loads, words_at}
use Rattle.nova_model.specs.Choice.{in_front}
use Rattle.nova_model.specs.Deeds.{address_space}
use Rattle.nova_model.specs.State.{KernelState, context}
use Rattle.law_forest.proofs.Members.{contains_from_in}
use Rattle.law_swaps.specs.Touches.{ReadsWithin, frame_fetched, frame_loaded, frame_missed, frames_read}

-- AN INSTRUCTION

-- an address space with other fetches and other loads
abbrev over : Space → (ℕ → Option ℕ) → (ℕ → ℕ → Option ℕ) → Space
over a fetch load = record { fetch = fetch; load = load; takes = a.takes }

-- the load for which an instruction raises where nothing is found is the same
abbrev LoadsSame : Space → (ℕ → ℕ → Option ℕ) → Once → Type 0
LoadsSame a load once = (address width : ℕ) → once ≡ Raised load_fault address width → load address width ≡ a.load address width

loads_same : (r : Registers) (a : Space) (fetch : ℕ → Option ℕ) (load : ℕ → ℕ → Option ℕ) (rd : ℕ) (extend : ℕ → ℕ) (width address : ℕ) →
    LoadsSame a load (loads r (without_loads a) rd extend width address) → loads r (over a fetch load) rd extend width address ≡ loads r a rd extend width address
loads_same r a fetch load rd extend width address same = by_test (address % width == 0) refl
  where
    by_test : (t : Bool) → (address % width == 0) ≡ t →
        (if t then loaded r rd extend address width (load address width) else Raised misaligned address 1) ≡ (if t then loaded r rd extend address width (a.load address width) else Raised misaligned address 1)
    by_test true is = ap (loaded r rd extend address width) (same address width (ap (λ (t : Bool). if t then Raised load_fault address width else Raised misaligned address 1) is))
    by_test false is = refl

executed_same : (r : Registers) (a : Space) (fetch : ℕ → Option ℕ) (load : ℕ → ℕ → Option ℕ) (i : Instr) →
    LoadsSame a load (executed r (without_loads a) i) → executed r (over a fetch load) i ≡ executed r a i
executed_same r a fetch load (Lb rd rs1 imm) same = loads_same r a fetch load rd (extended 8) 1 (plus (reg r rs1) imm) same
executed_same r a fetch load (Lh rd rs1 imm) same = loads_same r a fetch load rd (extended 16) 2 (plus (reg r rs1) imm) same
executed_same r a fetch load (Lw rd rs1 imm) same = loads_same r a fetch load rd (λ n. n) 4 (plus (reg r rs1) imm) same
executed_same r a fetch load (Lbu rd rs1 imm) same = loads_same r a fetch load rd (λ n. n) 1 (plus (reg r rs1) imm) same
executed_same r a fetch load (Lhu rd rs1 imm) same = loads_same r a fetch load rd (λ n. n) 2 (plus (reg r rs1) imm) same
executed_same r a fetch load other same = refl

fetched_same : (r : Registers) (a : Space) (fetch : ℕ → Option ℕ) (load : ℕ → ℕ → Option ℕ) (o : Option ℕ) →
    LoadsSame a load (fetched r (without_loads a) o) → fetched r (over a fetch load) o ≡ fetched r a o
fetched_same r a fetch load None same = refl
fetched_same r a fetch load (Some word) same = by_instr (instr_of word) same
  where
    by_instr : (i : Option Instr) → LoadsSame a load (decoded r (without_loads a) word i) → decoded r (over a fetch load) word i ≡ decoded r a word i
    by_instr None same = refl
    by_instr (Some i) same = executed_same r a fetch load i same

one_same : (r : Registers) (a : Space) (fetch : ℕ → Option ℕ) (load : ℕ → ℕ → Option ℕ) → fetch r.pc ≡ a.fetch r.pc → LoadsSame a load (one r (without_loads a)) →
    one r (over a fetch load) ≡ one r a
unfolding one
one_same r a fetch load here same = by_test (r.pc % 4 == 0) same
  where
    by_test : (t : Bool) → LoadsSame a load (if t then fetched r (without_loads a) (a.fetch r.pc) else Raised misaligned r.pc 0) →
        (if t then fetched r (over a fetch load) (fetch r.pc) else Raised misaligned r.pc 0) ≡ (if t then fetched r a (a.fetch r.pc) else Raised misaligned r.pc 0)
    by_test false same = refl
    by_test true same = ap (fetched r (over a fetch load)) here ∙ fetched_same r a fetch load (a.fetch r.pc) same

-- ITS FRAMES

in_first : (o p : Option ℕ) (frame : ℕ) → o ≡ Some frame → Contains (in_front o (in_front p [])) frame
in_first o p frame is = subst (λ (x : Option ℕ). Contains (in_front x (in_front p [])) frame) (sym is) (contains_from_in (frame ∷ in_front p []) frame (inl refl))

in_second : (o p : Option ℕ) (frame : ℕ) → p ≡ Some frame → Contains (in_front o (in_front p [])) frame
in_second o p frame is = subst (λ (x : Option ℕ). Contains (in_front o (in_front x [])) frame) (sym is) (by_first o)
  where
    by_first : (x : Option ℕ) → Contains (in_front x (frame ∷ [])) frame
    by_first None = contains_from_in (frame ∷ []) frame (inl refl)
    by_first (Some y) = contains_from_in (y ∷ frame ∷ []) frame (inr (inl refl))

-- what is found at an address, over other bytes
abbrev with_bytes : AddressSpace → List (List ℕ) → AddressSpace
with_bytes a ram = record a { bytes = slice_get ram }

found_same : (a : AddressSpace) (ram : List (List ℕ)) (right address width : ℕ) → ((frame : ℕ) → frame_for a right address ≡ Some frame → slice_get ram frame ≡ a.bytes frame) →
    found (with_bytes a ram) right address width ≡ found a right address width
found_same a ram right address width same = by_frame (frame_for a right address) refl
  where
    by_frame : (o : Option ℕ) → frame_for a right address ≡ o →
        option_map (λ frame. read_in (slice_get ram frame) (address % 4096) width) o ≡ option_map (λ frame. read_in (a.bytes frame) (address % 4096) width) o
    by_frame None is = refl
    by_frame (Some frame) is = ap (λ (bytes : Option (List ℕ)). Some (read_in bytes (address % 4096) width)) (same frame is)

loaded_same : (a : AddressSpace) (ram : List (List ℕ)) (address width : ℕ) (o : Option (List ℕ)) → ((frame : ℕ) → frame_for a read_right address ≡ Some frame → slice_get ram frame ≡ a.bytes frame) →
    loaded_from (with_bytes a ram) address width o ≡ loaded_from a address width o
loaded_same a ram address width None same = found_same a ram read_right address width same
loaded_same a ram address width (Some m) same = refl

pub reads_frames : (k : KernelState) (ec : ℕ) → ReadsWithin k ec (frames_read k ec)
reads_frames k ec ram same = one_same (context k ec).regs (space (address_space k ec)) (space (with_bytes (address_space k ec) ram)).fetch (space (with_bytes (address_space k ec) ram)).load
    (found_same (address_space k ec) ram execute_right (context k ec).regs.pc 4 (λ frame is. same frame (in_first (frame_fetched k ec) (frame_loaded k ec) frame is)))
    (λ address width raises. loaded_same (address_space k ec) ram address width (words_at (address_space k ec) address)
    (λ frame is. same frame (in_second (frame_fetched k ec) (frame_loaded k ec) frame (ap (frame_missed (address_space k ec)) raises ∙ is))))
