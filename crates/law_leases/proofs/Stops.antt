-- A lease stops only where the next instruction would raise, or touches a page that isn't copied.
use Rattle.std.proofs.Common.{◌≡◌, ℕ, ◌/◌, ◌%◌, List, ap, sym, ◌∙◌, subst, refl}
use Rattle.std.specs.Prelude.{Bool, true, false, ◌==◌, Option, Some, None, is_some, option_map, option_and_then, if◌then◌else◌}
use Rattle.rv_model.specs.Words.{plus, extended}
use Rattle.rv_model.specs.Registers.{Registers, reg}
use Rattle.rv_model.specs.Codes.{instr_of}
use Rattle.rv_model.specs.Step.{Space, Store, Once, Raised, Went, one, executed, decoded, fetched, loads, loaded, stores, stored, misaligned}
use Rattle.rv_model.specs.declared.instr.Instr.{Instr}
use Rattle.rv_model.specs.declared.instr.Instr.TheVariants.{Lb, Lh, Lw, Lbu, Lhu, Sb, Sh, Sw}
use Rattle.nova_range.specs.Rights.{allows, read_right, write_right, execute_right}
use Rattle.nova_guest.specs.Alone.{guest_space}
use Rattle.nova_guest.specs.Cells.{cell_at}
use Rattle.nova_guest.specs.Frames.{frame_from, frame_with, found_in, read_in}
use Rattle.nova_guest.specs.Maps.{page_in}
use Rattle.nova_guest.specs.declared.guest.Guest.{Guest}
use Rattle.nova_guest.specs.declared.page.Page.{Page as Place}
use Rattle.law_leases.specs.Leases.{IsOfGuest, LeaseState, copied_space, copy_at, lease_by, lease_put, lease_step, lease_written, overlay, read_copy}
use Rattle.law_leases.specs.Stops.{HoldsOfData, HoldsOfInstruction, HoldsOfTouched, HoldsOfWord, IsCopiedAt, IsRaise}
use Rattle.law_leases.specs.declared.steps.Page.{Page}
use Rattle.law_leases.proofs.Leased.{cell_overlaid}
use Rattle.law_leases.proofs.Taken.{IsTaken, one_taken}

-- AT AN ADDRESS THAT IS COPIED

reads_same : (known : ℕ → Option Place) (v : Guest) (pages : List Page) (offset width : ℕ) (p : Place) (b : List ℕ) → IsOfGuest known pages v → copy_at pages p.frame ≡ Some b → (t : Bool) →
    read_copy pages offset width (if t then Some p.frame else None) ≡ option_map (λ (frame : ℕ). read_in (cell_at (overlay pages v.cells) frame) offset width) (if t then Some p.frame else None)
reads_same known v pages offset width p b are copy true =
    ap (option_map (λ (bytes : List ℕ). read_in (Some bytes) offset width)) copy
    ∙ ap (λ (c : Option (List ℕ)). Some (read_in c offset width)) (sym (cell_overlaid known v pages p.frame b are copy))
reads_same known v pages offset width p b are copy false = refl

found_same : (known : ℕ → Option Place) (v : Guest) (pages : List Page) (right address width : ℕ) → IsOfGuest known pages v → IsCopiedAt known pages address →
    read_copy pages (address % 4096) width (frame_from known right address) ≡ found_in (page_in v.maps) (cell_at (overlay pages v.cells)) right address width
found_same known v pages right address width are at =
    ap (λ (o : Option Place). read_copy pages (address % 4096) width (option_and_then (frame_with right) o)) at.at
    ∙ (reads_same known v pages (address % 4096) width at.place at.bytes are at.copy (allows at.place.rights right)
    ∙ ap (λ (o : Option Place). option_map (λ (frame : ℕ). read_in (cell_at (overlay pages v.cells) frame) (address % 4096) width) (option_and_then (frame_with right) o))
    (sym (are.places (address / 4096) at.place at.at)))

takes_by : (pages : List Page) (p : Place) (b : List ℕ) → copy_at pages p.frame ≡ Some b → (t : Bool) →
    is_some (option_and_then (copy_at pages) (if t then Some p.frame else None)) ≡ is_some (if t then Some p.frame else None)
takes_by pages p b copy true = ap is_some copy
takes_by pages p b copy false = refl

takes_same : (known : ℕ → Option Place) (v : Guest) (pages : List Page) (address : ℕ) → IsOfGuest known pages v → IsCopiedAt known pages address →
    is_some (option_and_then (copy_at pages) (frame_from known write_right address)) ≡ is_some (frame_from (page_in v.maps) write_right address)
takes_same known v pages address are at =
    ap (λ (o : Option Place). is_some (option_and_then (copy_at pages) (option_and_then (frame_with write_right) o))) at.at
    ∙ (takes_by pages at.place at.bytes at.copy (allows at.place.rights write_right)
    ∙ ap (λ (o : Option Place). is_some (option_and_then (frame_with write_right) o)) (sym (are.places (address / 4096) at.place at.at)))

-- AN INSTRUCTION

loads_same : (r : Registers) (a b : Space) (rd : ℕ) (extend : ℕ → ℕ) (width address : ℕ) → a.load address width ≡ b.load address width → loads r a rd extend width address ≡ loads r b rd extend width address
loads_same r a b rd extend width address same = ap (λ (o : Option ℕ). if address % width == 0 then loaded r rd extend address width o else Raised misaligned address 1) same

stores_same : (r : Registers) (a b : Space) (width address value : ℕ) → a.takes address width ≡ b.takes address width → stores r a width address value ≡ stores r b width address value
stores_same r a b width address value same = ap (λ (t : Bool). if address % width == 0 then stored r t width address value else Raised misaligned address 2) same

pub record AreSameAt (P : ℕ → Type 0) (a b : Space) : Type 0 where
  pub fetch : (address : ℕ) → P address → a.fetch address ≡ b.fetch address
  pub load : (address width : ℕ) → P address → a.load address width ≡ b.load address width
  pub takes : (address width : ℕ) → P address → a.takes address width ≡ b.takes address width

executed_same : (P : ℕ → Type 0) (r : Registers) (a b : Space) → AreSameAt P a b → (i : Instr) → HoldsOfData P r i → executed r a i ≡ executed r b i
executed_same P r a b same (Lb rd rs1 imm) h = loads_same r a b rd (extended 8) 1 (plus (reg r rs1) imm) (same.load (plus (reg r rs1) imm) 1 h)
executed_same P r a b same (Lh rd rs1 imm) h = loads_same r a b rd (extended 16) 2 (plus (reg r rs1) imm) (same.load (plus (reg r rs1) imm) 2 h)
executed_same P r a b same (Lw rd rs1 imm) h = loads_same r a b rd (λ n. n) 4 (plus (reg r rs1) imm) (same.load (plus (reg r rs1) imm) 4 h)
executed_same P r a b same (Lbu rd rs1 imm) h = loads_same r a b rd (λ n. n) 1 (plus (reg r rs1) imm) (same.load (plus (reg r rs1) imm) 1 h)
executed_same P r a b same (Lhu rd rs1 imm) h = loads_same r a b rd (λ n. n) 2 (plus (reg r rs1) imm) (same.load (plus (reg r rs1) imm) 2 h)
executed_same P r a b same (Sb rs1 rs2 imm) h = stores_same r a b 1 (plus (reg r rs1) imm) (reg r rs2) (same.takes (plus (reg r rs1) imm) 1 h)
executed_same P r a b same (Sh rs1 rs2 imm) h = stores_same r a b 2 (plus (reg r rs1) imm) (reg r rs2) (same.takes (plus (reg r rs1) imm) 2 h)
executed_same P r a b same (Sw rs1 rs2 imm) h = stores_same r a b 4 (plus (reg r rs1) imm) (reg r rs2) (same.takes (plus (reg r rs1) imm) 4 h)
executed_same P r a b same i h = refl

decoded_same : (P : ℕ → Type 0) (r : Registers) (a b : Space) (word : ℕ) → AreSameAt P a b → (i : Option Instr) → HoldsOfInstruction P r i → decoded r a word i ≡ decoded r b word i
decoded_same P r a b word same (Some i) h = executed_same P r a b same i h
decoded_same P r a b word same None h = refl

fetched_same : (P : ℕ → Type 0) (r : Registers) (a b : Space) → AreSameAt P a b → (w : Option ℕ) → HoldsOfWord P r w → fetched r a w ≡ fetched r b w
fetched_same P r a b same (Some w) h = decoded_same P r a b w same (instr_of w) h
fetched_same P r a b same None h = refl

one_same : (P : ℕ → Type 0) (r : Registers) (a b : Space) → AreSameAt P a b → HoldsOfTouched P r b → one r a ≡ one r b
unfolding one
one_same P r a b same h =
    ap (λ (o : Once). if r.pc % 4 == 0 then o else Raised misaligned r.pc 0)
    (ap (fetched r a) (same.fetch r.pc h.pc) ∙ fetched_same P r a b same (b.fetch r.pc) h.there)

-- THE LAW

pub same_where_copied : (known : ℕ → Option Place) (v : Guest) (pages : List Page) → IsOfGuest known pages v →
    AreSameAt (IsCopiedAt known pages) (copied_space known pages) (guest_space v.maps (overlay pages v.cells))
same_where_copied known v pages are = record {
  fetch = λ address at. found_same known v pages execute_right address 4 are at;
  load = λ address width at. found_same known v pages read_right address width are at;
  takes = λ address width at. takes_same known v pages address are at;
}

put_there : (regs : Registers) (pages : List Page) (s : Store) (o : Option ℕ) → is_some (option_and_then (copy_at pages) o) ≡ true → is_some (lease_put regs pages s o) ≡ true
put_there regs pages s None h = absurd (cc)
put_there regs pages s (Some f) h = by_copy (copy_at pages f) h
  where
    by_copy : (c : Option (List ℕ)) → is_some c ≡ true → is_some (lease_written regs pages s f c) ≡ true
    by_copy (Some b) g = refl
    by_copy None g = absurd (cc)

pub stops : (known : ℕ → Option Place) (v : Guest) (l : LeaseState) → IsOfGuest known l.pages v → lease_step known l ≡ None →
    HoldsOfTouched (IsCopiedAt known l.pages) l.regs (guest_space v.maps (overlay l.pages v.cells)) → IsRaise (one l.regs (guest_space v.maps (overlay l.pages v.cells)))
stops known v l are h touched =
    subst IsRaise (one_same (IsCopiedAt known l.pages) l.regs (copied_space known l.pages) (guest_space v.maps (overlay l.pages v.cells)) (same_where_copied known v l.pages are) touched)
    (by_once (one l.regs (copied_space known l.pages)) (one_taken (copied_space known l.pages) l.regs) h)
  where
    by_once : (o : Once) → IsTaken (copied_space known l.pages) o → lease_by known l.pages o ≡ None → IsRaise o
    by_once (Raised reason q0 q1) taken g = tt
    by_once (Went regs None) taken g = absurd (cc)
    by_once (Went regs (Some s)) taken g =
        let there = put_there regs l.pages s (frame_from known write_right s.address) taken in
        let none : is_some (lease_put regs l.pages s (frame_from known write_right s.address)) ≡ false = ap is_some g in absurd (cc)
