-- x0 of each execution context stays 0.
use Rattle.std.proofs.Common.{◌≡◌, ℕ, zero, suc, ◌*◌, ◌/◌, ◌%◌, List, [], ◌∷◌, ◌++◌, sym, ◌∙◌, subst, refl}
use Rattle.std.specs.Prelude.{Bool, true, false, not, ◌==◌, nat_lt, nat_le, bit_and, replicate, slice_index, slice_set, Option, Some, None, option_map, if◌then◌else◌}
use Rattle.std.specs.Int.RustNames.{bit_or, bit_xor}
use Rattle.rv_model.specs.Words.{plus, minus, extended}
use Rattle.rv_model.specs.Registers.{Registers, reg, with_reg}
use Rattle.rv_model.specs.Codes.{instr_of}
use Rattle.rv_model.specs.Step.{Space, Once, Raised, Went, one, executed, decoded, fetched, sets, loads, loaded, stores, stored, goes, jumps, branches, misaligned, bit_of, is_less_signed, shift_left, shift_right, shift_right_signed}
use Rattle.rv_model.specs.declared.instr.Instr.{Instr}
use Rattle.rv_model.specs.declared.instr.Instr.TheVariants.{Lui, Auipc, Jal, Jalr, Beq, Bne, Blt, Bge, Bltu, Bgeu, Lb, Lh, Lw, Lbu, Lhu, Sb, Sh, Sw, Addi, Slti, Sltiu, Xori, Ori, Andi, Slli, Srli, Srai, Add, Sub, Sll, Slt, Sltu, Xor, Srl, Sra, Or, And, Fence, Ecall, Ebreak}
use Rattle.nova_range.specs.declared.status.Status.{Status}
use Rattle.nova_range.specs.declared.status.Status.TheVariants.{Success}
use Rattle.nova_utcb.proofs.ExitLaws.{zero_stays}
use Rattle.nova_model.specs.Boot.{Image, Scenario, bare, boot, with_image, with_images}
use Rattle.nova_model.specs.Creation.{context_of}
use Rattle.nova_model.specs.Deeds.{answered, deed, instruction, resumed, with_value}
use Rattle.nova_model.specs.Runs.{after, run}
use Rattle.nova_model.specs.Sources.{Source, with_source}
use Rattle.nova_model.specs.State.{KernelState, Contexts, context, context_in, ec_of, with_ec}
use Rattle.nova_model.specs.declared.context.EcState.{EcState}
use Rattle.nova_model.specs.declared.context.Mark.{Mark}
use Rattle.nova_model.specs.declared.context.Mark.TheVariants as mark
use Rattle.nova_model.specs.declared.deed.Deed.{Deed}
use Rattle.nova_model.specs.declared.deed.Deed.TheVariants.{Rests, Steps, Sends, Recalls, Gives, Skips, Finishes, Calls, Replies, Aborts, Removes, Ups}
use Rattle.nova_model.specs.declared.event.Event.{Event}
use Rattle.nova_model.specs.declared.new_object.NewObject.{NewObject}
use Rattle.nova_model.specs.declared.new_object.NewObject.TheVariants as new
use Rattle.nova_model.specs.declared.transfer.Sequel.{Sequel}
use Rattle.nova_model.specs.declared.transfer.Sequel.TheVariants as sequel
use Rattle.law_forest.proofs.Boots.{sources_keep}
use Rattle.law_forest.proofs.Turning.{after_keeps, run_keeps}
use Rattle.law_forest.specs.Effects.{Answers, Edit, Edits, Moves, Resumes, Serves, all_edited, edit_at, edited, edits_by, effect, ends_by, follows_by, joined, passing_ends, recalls_by, steps_by, wakes_by}
use Rattle.law_forest.specs.Turns.{Acts, IsTurning, Passes, Turning, turned}
use Rattle.law_sameness.specs.States.{AreZero}

-- AN INSTRUCTION

abbrev IsZero : Once → Type 0
IsZero (Raised reason q0 q1) = Unit {0}
IsZero (Went r store) = slice_index r.x 0 ≡ 0

set_first : (xs : List ℕ) (i value : ℕ) → (i == 0) ≡ false → slice_index (slice_set xs i value) 0 ≡ slice_index xs 0
set_first [] i value is = refl
set_first (x ∷ xs) zero value is = absurd (cc)
set_first (x ∷ xs) (suc i) value is = refl

reg_zero : (r : Registers) (i value : ℕ) → slice_index (with_reg r i value).x 0 ≡ slice_index r.x 0
reg_zero r i value = by_test (i == 0) refl
  where
    by_test : (t : Bool) → (i == 0) ≡ t → slice_index (if t then r else record r { x = slice_set r.x i value }).x 0 ≡ slice_index r.x 0
    by_test true is = refl
    by_test false is = set_first r.x i value is

sets_zero : (r : Registers) (rd value : ℕ) → slice_index r.x 0 ≡ 0 → IsZero (sets r rd value)
sets_zero r rd value h = reg_zero r rd value ∙ h

goes_zero : (r : Registers) (target : ℕ) → slice_index r.x 0 ≡ 0 → IsZero (goes r target)
goes_zero r target h = by_test (target % 4 == 0)
  where
    by_test : (t : Bool) → IsZero (if t then Went (record r { pc = target }) None else Raised misaligned target 0)
    by_test true = h
    by_test false = tt

jumps_zero : (r : Registers) (rd target : ℕ) → slice_index r.x 0 ≡ 0 → IsZero (jumps r rd target)
jumps_zero r rd target h = by_test (target % 4 == 0)
  where
    by_test : (t : Bool) → IsZero (if t then Went (record (with_reg r rd (plus r.pc 4)) { pc = target }) None else Raised misaligned target 0)
    by_test true = reg_zero r rd (plus r.pc 4) ∙ h
    by_test false = tt

branches_zero : (r : Registers) (test : Bool) (offset : ℕ) → slice_index r.x 0 ≡ 0 → IsZero (branches r test offset)
branches_zero r true offset h = goes_zero r (plus r.pc offset) h
branches_zero r false offset h = h

loaded_zero : (r : Registers) (rd : ℕ) (extend : ℕ → ℕ) (address width : ℕ) (o : Option ℕ) → slice_index r.x 0 ≡ 0 → IsZero (loaded r rd extend address width o)
loaded_zero r rd extend address width None h = tt
loaded_zero r rd extend address width (Some v) h = sets_zero r rd (extend v) h

loads_zero : (r : Registers) (a : Space) (rd : ℕ) (extend : ℕ → ℕ) (width address : ℕ) → slice_index r.x 0 ≡ 0 → IsZero (loads r a rd extend width address)
loads_zero r a rd extend width address h = by_test (address % width == 0)
  where
    by_test : (t : Bool) → IsZero (if t then loaded r rd extend address width (a.load address width) else Raised misaligned address 1)
    by_test true = loaded_zero r rd extend address width (a.load address width) h
    by_test false = tt

stored_zero : (r : Registers) (t : Bool) (width address value : ℕ) → slice_index r.x 0 ≡ 0 → IsZero (stored r t width address value)
stored_zero r true width address value h = h
stored_zero r false width address value h = tt

stores_zero : (r : Registers) (a : Space) (width address value : ℕ) → slice_index r.x 0 ≡ 0 → IsZero (stores r a width address value)
stores_zero r a width address value h = by_test (address % width == 0)
  where
    by_test : (t : Bool) → IsZero (if t then stored r (a.takes address width) width address value else Raised misaligned address 2)
    by_test true = stored_zero r (a.takes address width) width address value h
    by_test false = tt

executed_zero : (r : Registers) (a : Space) (i : Instr) → slice_index r.x 0 ≡ 0 → IsZero (executed r a i)
executed_zero r a (Lui rd imm) h = sets_zero r rd (imm) h
executed_zero r a (Auipc rd imm) h = sets_zero r rd (plus r.pc imm) h
executed_zero r a (Jal rd imm) h = jumps_zero r rd ((plus r.pc imm)) h
executed_zero r a (Jalr rd rs1 imm) h = jumps_zero r rd ((plus (reg r rs1) imm / 2 * 2)) h
executed_zero r a (Beq rs1 rs2 imm) h = branches_zero r (reg r rs1 == reg r rs2) imm h
executed_zero r a (Bne rs1 rs2 imm) h = branches_zero r (not (reg r rs1 == reg r rs2)) imm h
executed_zero r a (Blt rs1 rs2 imm) h = branches_zero r (is_less_signed (reg r rs1) (reg r rs2)) imm h
executed_zero r a (Bge rs1 rs2 imm) h = branches_zero r (not (is_less_signed (reg r rs1) (reg r rs2))) imm h
executed_zero r a (Bltu rs1 rs2 imm) h = branches_zero r (nat_lt (reg r rs1) (reg r rs2)) imm h
executed_zero r a (Bgeu rs1 rs2 imm) h = branches_zero r (nat_le (reg r rs2) (reg r rs1)) imm h
executed_zero r a (Lb rd rs1 imm) h = loads_zero r a rd (extended 8) 1 (plus (reg r rs1) imm) h
executed_zero r a (Lh rd rs1 imm) h = loads_zero r a rd (extended 16) 2 (plus (reg r rs1) imm) h
executed_zero r a (Lw rd rs1 imm) h = loads_zero r a rd (λ n. n) 4 (plus (reg r rs1) imm) h
executed_zero r a (Lbu rd rs1 imm) h = loads_zero r a rd (λ n. n) 1 (plus (reg r rs1) imm) h
executed_zero r a (Lhu rd rs1 imm) h = loads_zero r a rd (λ n. n) 2 (plus (reg r rs1) imm) h
executed_zero r a (Sb rs1 rs2 imm) h = stores_zero r a 1 (plus (reg r rs1) imm) (reg r rs2) h
executed_zero r a (Sh rs1 rs2 imm) h = stores_zero r a 2 (plus (reg r rs1) imm) (reg r rs2) h
executed_zero r a (Sw rs1 rs2 imm) h = stores_zero r a 4 (plus (reg r rs1) imm) (reg r rs2) h
executed_zero r a (Addi rd rs1 imm) h = sets_zero r rd (plus (reg r rs1) imm) h
executed_zero r a (Slti rd rs1 imm) h = sets_zero r rd (bit_of (is_less_signed (reg r rs1) imm)) h
executed_zero r a (Sltiu rd rs1 imm) h = sets_zero r rd (bit_of (nat_lt (reg r rs1) imm)) h
executed_zero r a (Xori rd rs1 imm) h = sets_zero r rd (bit_xor (reg r rs1) imm) h
executed_zero r a (Ori rd rs1 imm) h = sets_zero r rd (bit_or (reg r rs1) imm) h
executed_zero r a (Andi rd rs1 imm) h = sets_zero r rd (bit_and (reg r rs1) imm) h
executed_zero r a (Slli rd rs1 imm) h = sets_zero r rd (shift_left (reg r rs1) imm) h
executed_zero r a (Srli rd rs1 imm) h = sets_zero r rd (shift_right (reg r rs1) imm) h
executed_zero r a (Srai rd rs1 imm) h = sets_zero r rd (shift_right_signed (reg r rs1) imm) h
executed_zero r a (Add rd rs1 rs2) h = sets_zero r rd (plus (reg r rs1) (reg r rs2)) h
executed_zero r a (Sub rd rs1 rs2) h = sets_zero r rd (minus (reg r rs1) (reg r rs2)) h
executed_zero r a (Sll rd rs1 rs2) h = sets_zero r rd (shift_left (reg r rs1) (reg r rs2)) h
executed_zero r a (Slt rd rs1 rs2) h = sets_zero r rd (bit_of (is_less_signed (reg r rs1) (reg r rs2))) h
executed_zero r a (Sltu rd rs1 rs2) h = sets_zero r rd (bit_of (nat_lt (reg r rs1) (reg r rs2))) h
executed_zero r a (Xor rd rs1 rs2) h = sets_zero r rd (bit_xor (reg r rs1) (reg r rs2)) h
executed_zero r a (Srl rd rs1 rs2) h = sets_zero r rd (shift_right (reg r rs1) (reg r rs2)) h
executed_zero r a (Sra rd rs1 rs2) h = sets_zero r rd (shift_right_signed (reg r rs1) (reg r rs2)) h
executed_zero r a (Or rd rs1 rs2) h = sets_zero r rd (bit_or (reg r rs1) (reg r rs2)) h
executed_zero r a (And rd rs1 rs2) h = sets_zero r rd (bit_and (reg r rs1) (reg r rs2)) h
executed_zero r a Fence h = h
executed_zero r a Ecall h = tt
executed_zero r a Ebreak h = tt

decoded_zero : (r : Registers) (a : Space) (word : ℕ) (i : Option Instr) → slice_index r.x 0 ≡ 0 → IsZero (decoded r a word i)
decoded_zero r a word (Some i) h = executed_zero r a i h
decoded_zero r a word None h = tt

fetched_zero : (r : Registers) (a : Space) (w : Option ℕ) → slice_index r.x 0 ≡ 0 → IsZero (fetched r a w)
fetched_zero r a (Some w) h = decoded_zero r a w (instr_of w) h
fetched_zero r a None h = tt

one_zero : (r : Registers) (a : Space) → slice_index r.x 0 ≡ 0 → IsZero (one r a)
unfolding one
one_zero r a h = by_test (r.pc % 4 == 0)
  where
    by_test : (t : Bool) → IsZero (if t then fetched r a (a.fetch r.pc) else Raised misaligned r.pc 0)
    by_test true = fetched_zero r a (a.fetch r.pc) h
    by_test false = tt

-- EDITS

abbrev IsEach : Contexts → Type 0
IsEach cs = (g : ℕ) → slice_index (ec_of cs g).regs.x 0 ≡ 0

ec_set : (cs : Contexts) (e : ℕ) (y : EcState) → slice_index y.regs.x 0 ≡ 0 → IsEach cs → IsEach (with_ec cs e y)
ec_set [] e y h each g = each g
ec_set (c ∷ cs) zero y h each zero = h
ec_set (c ∷ cs) zero y h each (suc g) = each (suc g)
ec_set (c ∷ cs) (suc e) y h each zero = each zero
ec_set (c ∷ cs) (suc e) y h each (suc g) = ec_set cs e y h (λ n. each (suc n)) g

value_zero : (r : Registers) (value : Option ℕ) → slice_index (with_value r value).x 0 ≡ slice_index r.x 0
value_zero r None = refl
value_zero r (Some value) = reg_zero r 11 value

answered_zero : (x : EcState) (status : Status) (value : Option ℕ) → slice_index (answered x status value).regs.x 0 ≡ slice_index x.regs.x 0
answered_zero x status value = value_zero (with_reg x.regs 10 _) value ∙ reg_zero x.regs 10 _

resumed_zero : (x : EcState) (came : Mark) (m : List ℕ) → slice_index (resumed x came m).regs.x 0 ≡ slice_index x.regs.x 0
resumed_zero x mark.Call m = answered_zero x Success None
resumed_zero x mark.Exit m = zero_stays m x.regs

-- an edit that sets registers sets such
abbrev FitsEdit : Edit → Type 0
FitsEdit (Moves regs) = slice_index regs.x 0 ≡ 0
FitsEdit other = Unit {0}

edited_zero : (x : EcState) (e : Edit) → FitsEdit e → slice_index x.regs.x 0 ≡ 0 → slice_index (edited x e).regs.x 0 ≡ 0
edited_zero x (Answers status value) fits h = answered_zero x status value ∙ h
edited_zero x (Serves caller came ip identifier items) fits h = reg_zero x.regs 10 identifier ∙ h
edited_zero x (Resumes came m) fits h = resumed_zero x came m ∙ h
edited_zero x (Moves regs) fits h = fits
edited_zero x other fits h = h

abbrev AreFit : Edits → Type 0
AreFit [] = Unit {0}
AreFit ((n, e) ∷ es) = FitsEdit e × AreFit es

all_zero : (cs : Contexts) (es : Edits) → AreFit es → IsEach cs → IsEach (all_edited cs es)
all_zero cs [] fits each = each
all_zero cs ((n, e) ∷ es) fits each = all_zero (edit_at cs n e) es fits.1 (ec_set cs n (edited (ec_of cs n) e) (edited_zero (ec_of cs n) e fits.0 (each n)) each)

steps_fit : (ec : ℕ) (o : Once) → IsZero o → AreFit (steps_by ec o)
steps_fit ec (Raised reason q0 q1) good = tt
steps_fit ec (Went regs store) good = (good, tt)

recalls_fit : (whose : ℕ) (o : Option EcState) → AreFit (recalls_by whose o)
recalls_fit whose None = tt
recalls_fit whose (Some x) = (tt, tt)

wakes_fit : (whom : Option ℕ) → AreFit (wakes_by whom)
wakes_fit None = tt
wakes_fit (Some w) = (tt, tt)

ends_fit : (o : Option (ℕ × Status)) → AreFit (ends_by o)
ends_fit None = tt
ends_fit (Some (w, status)) = (tt, tt)

follows_fit : (ec : ℕ) (m : List ℕ) (after : Sequel) → AreFit (follows_by ec m after)
follows_fit ec m (sequel.Replied caller came) = (tt, (tt, tt))
follows_fit ec m other = (tt, tt)

edits_fit : (k : KernelState) (ec : ℕ) (d : Deed) → IsZero (instruction k ec) → AreFit (edits_by k ec d)
edits_fit k ec Steps good = steps_fit ec (instruction k ec) good
edits_fit k ec Rests good = tt
edits_fit k ec (Gives child cursor) good = tt
edits_fit k ec (Skips reason place cursor) good = tt
edits_fit k ec (Removes leaf) good = tt
edits_fit k ec (Recalls whose) good = (tt, recalls_fit whose _)
edits_fit k ec (Sends handler ip identifier mtd reason q0 q1) good = (tt, (tt, tt))
edits_fit k ec (Calls handler ip identifier items) good = (tt, (tt, tt))
edits_fit k ec (Finishes item end words after) good = follows_fit ec _ after
edits_fit k ec (Replies caller came true) good = (tt, tt)
edits_fit k ec (Replies caller came false) good = (tt, (tt, tt))
edits_fit k ec (Aborts handler mark.Call) good = (tt, tt)
edits_fit k ec (Ups sm whom) good = (tt, wakes_fit whom)
edits_fit k ec other good = (tt, tt)

made_zero : (number : ℕ) (made : NewObject) → slice_index (context_in (context_of number made)).regs.x 0 ≡ 0
made_zero number (new.Ec pd cpu kind sp event) = reg_zero (record { pc = 0; x = replicate 32 0 }) 2 sp
made_zero number other = refl

more_zero : (cs : Contexts) (c : Option EcState) → slice_index (context_in c).regs.x 0 ≡ 0 → IsEach cs → IsEach (cs ++ c ∷ [])
more_zero [] c h each zero = h
more_zero [] c h each (suc g) = refl
more_zero (d ∷ cs) c h each zero = each zero
more_zero (d ∷ cs) c h each (suc g) = more_zero cs c h (λ n. each (suc n)) g

joined_zero : (cs : Contexts) (number : ℕ) (made : Option NewObject) → IsEach cs → IsEach (joined cs (option_map (context_of number) made))
joined_zero cs number None each = each
joined_zero cs number (Some made) each = more_zero cs (context_of number made) (made_zero number made) each

-- A TURN

turned_zero : (k : KernelState) (cpu : ℕ) (t : Turning) (e : Event) → IsTurning k cpu t e → AreZero k → AreZero (turned k cpu t)
turned_zero k cpu t e (Acts c chosen is event) each =
    let d = deed k c.actor in
    let good = one_zero (context k c.actor).regs _ (each c.actor) in
    subst (λ (u : Turning). AreZero (turned k cpu u)) (sym is)
    (joined_zero _ _ (effect k c.actor d).made (all_zero k.contexts (edits_by k c.actor d) (edits_fit k c.actor d good) each))
turned_zero k cpu t e (Passes p comes is event) each =
    subst (λ (u : Turning). AreZero (turned k cpu u)) (sym is)
    (all_zero k.contexts _ (ends_fit (passing_ends k p)) each)

pub after_zero : (k : KernelState) (cpu : ℕ) → AreZero k → AreZero (after k cpu)
after_zero k cpu each = after_keeps AreZero turned_zero k cpu each

bare_zero : (cpus ram consoles : ℕ) (root : _) → AreZero (bare cpus ram consoles root)
bare_zero cpus ram consoles root zero = refl
bare_zero cpus ram consoles root (suc zero) = reg_zero (record { pc = root.pc; x = replicate 32 0 }) 2 root.sp
bare_zero cpus ram consoles root (suc (suc zero)) = refl
bare_zero cpus ram consoles root (suc (suc (suc g))) = refl

images_zero : (k : KernelState) (images : List Image) → AreZero k → AreZero (with_images k images)
images_zero k [] each = each
images_zero k (image ∷ images) each = images_zero (with_image k image) images each

source_zero : (k : KernelState) (s : Source) → AreZero k → AreZero (with_source k s)
source_zero k s each = more_zero k.contexts None refl each

pub boot_zero : (s : Scenario) → AreZero (boot s)
boot_zero s =
    sources_keep AreZero source_zero (with_images (bare s.cpus s.ram s.consoles s.root) s.images) s.sources
    (images_zero (bare s.cpus s.ram s.consoles s.root) s.images (bare_zero s.cpus s.ram s.consoles s.root))

pub run_zero : (s : Scenario) (turns : List ℕ) → AreZero (run (boot s) turns)
run_zero s turns = run_keeps AreZero after_zero (boot s) turns (boot_zero s)
