-- A lease that is just made stems from the state in which it is made.
use Rattle.std.proofs.Common.{◌≡◌, ◌≤◌, ◌<◌, ℕ, ◌+◌, ◌-◌, ◌/◌, List, length, ap, ap₂, sym, ◌∙◌, subst, refl, arith}
use Rattle.std.specs.Prelude.{Bool, true, false, Option, Some, None, IsSome, is_some, option_map, option_and_then, slice_get, if◌then◌else◌}
use Rattle.std.specs.List.{find}
use Rattle.std.proofs.lemmas.Option.{same_Some}
use Rattle.rv_model.specs.Registers.{Registers}
use Rattle.nova_range.specs.Rights.{allows, execute_right}
use Rattle.nova_guest.specs.Cells.{cell_at}
use Rattle.nova_guest.specs.Frames.{frame_from, frame_with}
use Rattle.nova_guest.specs.Maps.{covers, is_covered, page_in, page_of}
use Rattle.nova_guest.specs.declared.cell.Cell.{Cell}
use Rattle.nova_guest.specs.declared.guest.Guest.{Guest}
use Rattle.nova_guest.specs.declared.map.Map.{Map}
use Rattle.nova_guest.specs.declared.page.Page.{Page as Place}
use Rattle.nova_model.specs.Delegations.{reach}
use Rattle.nova_model.specs.State.{KernelState, context, pd_of}
use Rattle.nova_model.specs.Times.{until_due}
use Rattle.nova_model.specs.Views.{guest_state, maps_of, view}
use Rattle.law_isolation.proofs.OtherTurns.{view_cells}
use Rattle.law_isolation.proofs.Seen.{maps_at, view_is}
use Rattle.law_isolation.proofs.Spaces.{cell_covered, found_covered, page_same}
use Rattle.law_leases.specs.Commits.{IsReached, lesser, stirs_now}
use Rattle.law_leases.specs.Advances.{IsLeasable}
use Rattle.law_leases.specs.Leases.{IsOfGuest, LeaseState, copy_at, lease_steps}
use Rattle.law_leases.specs.Paging.{IsRun}
use Rattle.law_leases.specs.declared.steps.Page.{Page}
use Rattle.law_leases.proofs.Leased.{some_is}
use Rattle.law_leases.proofs.Leasing.{runs}
use Rattle.nova_burst.specs.Copies.{CopiesState, known_in}
use Rattle.nova_burst.specs.Found.{IsFound}
use Rattle.nova_burst.specs.Gathered.{AreGathered, HasPage, IsLedTo}
use Rattle.nova_burst.specs.Lending.{IsCodeCopied, IsNew, LeaseView, StemsFrom, lease_state_of}
use Rattle.nova_burst.specs.declared.copies.Known.{Known}
use Rattle.nova_burst.specs.declared.leasing.Leasable.{Leasable}
use Rattle.nova_burst.proofs.Lists.{some_of}

-- WHAT IS GATHERED IS THE GUEST'S

place_covered : (maps : List Map) (page : ℕ) (p : Place) → page_in maps page ≡ Some p → is_covered maps p.frame ≡ true
place_covered maps page p h = by_map (find (covers page) maps) refl h
  where
    by_map : (o : Option Map) → find (covers page) maps ≡ o → option_map (page_of page) o ≡ Some p → is_covered maps p.frame ≡ true
    by_map None is g = absurd (cc)
    by_map (Some m) is g =
        subst (λ (f : ℕ). is_covered maps f ≡ true) (ap (λ (q : Place). q.frame) (same_Some (page_of page m) p g)) (found_covered page maps m is)

page_at : (k : KernelState) (g page : ℕ) → IsReached k → reach k.delegations.list (pd_of k g) page ≡ page_in (view k g).maps page
page_at k g page is = page_same (pd_of k g) page k.delegations.list is.sound.forest.apart ∙ ap (λ (v : Guest). page_in v.maps page) (sym (view_is k g))

cell_there : (k : KernelState) (g f : ℕ) (b : List ℕ) → IsReached k → IsLedTo k (pd_of k g) f → slice_get k.memory.ram f ≡ Some b → cell_at (view k g).cells f ≡ Some b
cell_there k g f b is led at =
    let covered : is_covered (maps_at k g) f ≡ true = subst (λ (n : ℕ). is_covered (maps_at k g) n ≡ true) led.is
    (place_covered (maps_at k g) led.page led.place (sym (page_same (pd_of k g) led.page k.delegations.list is.sound.forest.apart) ∙ led.leads)) in
    ap (λ (cells : List Cell). cell_at cells f) (view_cells k g) ∙ (cell_covered (maps_at k g) k.memory.ram f covered ∙ at)

of_guest : (k : KernelState) (g most : ℕ) (s : CopiesState) → IsReached k → AreGathered k (pd_of k g) most s → IsOfGuest (known_in s.known) s.pages (view k g)
of_guest k g most s is are = record {
  places = λ page p h. sym (page_at k g page is) ∙ are.places page p h;
  copies = λ f there. let its = some_of (copy_at s.pages f) there in
      some_is (cell_at (view k g).cells f) its.0 (cell_there k g f its.0 is (are.led f there) (are.fresh.bytes f its.0 its.1));
}

-- A LEASE OF IT

-- the parts of a lease that is made of what was found and gathered
pub record IsMadeOf (l : LeaseView) (cpu : ℕ) (r : Leasable) (s : CopiesState) : Type 0 where
  pub its_cpu : l.run.cpu ≡ cpu
  pub guest : l.run.guest ≡ r.guest
  pub kept : l.run.kept ≡ r.kept
  pub left : l.run.left ≡ r.left
  pub count : l.run.steps.count ≡ 0
  pub regs : l.run.steps.regs ≡ r.regs
  pub pages : l.run.steps.pages.items ≡ s.pages
  pub known : l.known ≡ s.known

pub stems_new : (k : KernelState) (cpu most : ℕ) (r : Leasable) (s : CopiesState) (l : LeaseView) → IsFound k cpu r → AreGathered k r.pd most s → IsMadeOf l cpu r s → StemsFrom l k
stems_new k cpu most r s l found are made =
    let g : ℕ = l.run.guest in
    let known = known_in l.known in
    let of : IsOfGuest (known_in s.known) s.pages (view k g) =
    of_guest k g most s found.state (subst (λ (pd : ℕ). AreGathered k pd most s) (found.pd ∙ ap (pd_of k) (sym made.guest)) are) in
    let guests : IsOfGuest known s.pages (view k g) = subst (λ (ks : List Known). IsOfGuest (known_in ks) s.pages (view k g)) (sym made.known) of in
    let regs : (view k g).regs ≡ l.run.steps.regs =
    ap (λ (v : Guest). v.regs) (view_is k g) ∙ (ap (λ (n : ℕ). (context k n).regs) made.guest ∙ (sym found.regs ∙ sym made.regs)) in
    let start : LeaseState = record { regs = (view k g).regs; pages = s.pages } in
    let begins : start ≡ lease_state_of l.run.steps = ap₂ (λ (x : Registers) (ps : List Page). record { regs = x; pages = ps }) regs (sym made.pages) in
    let ran : lease_steps known l.run.steps.count start ≡ Some (lease_state_of l.run.steps) = ap (λ (n : ℕ). lease_steps known n start) made.count ∙ ap Some begins in
    let actor : found.chosen.actor ≡ g = found.actor ∙ sym made.guest in
    let ready = ap (λ (v : Guest). v.state) (view_is k g) ∙ (ap (λ (n : ℕ). guest_state (context k n).state) (sym actor) ∙ ap guest_state found.may.ready) in
    let free : (view k g).recall ≡ false = ap (λ (v : Guest). v.recall) (view_is k g) ∙ (ap (λ (n : ℕ). (context k n).recall) (sym actor) ∙ found.may.recall) in
    let is : IsRun k g l.run.steps.count (lease_state_of l.run.steps) = runs known l.run.steps.count k g start (lease_state_of l.run.steps) ready free guests refl are.fresh ran in
    record {
      processor = let a = found.processor in let b = made.its_cpu in omega arith;
      stems = record {
        state = found.state;
        chosen = found.chosen;
        budget = found.budget;
        may = subst (λ (n : ℕ). IsLeasable k n found.chosen found.budget) (sym made.its_cpu) found.may;
        actor = actor;
        kept = made.kept ∙ (found.kept ∙ ap₂ (stirs_now k) (sym made.guest) (sym made.its_cpu));
        bound = made.left ∙ (found.left ∙ ap (λ (n : ℕ). lesser found.budget.left (until_due k.times n)) (sym made.its_cpu));
        within = let a = made.count in omega arith;
        runs = record { regs = is.regs; pages = is.pages };
      };
      first = s.pages;
      fresh = are.fresh;
      guests = guests;
      ran = ran;
    }

-- the page of pc
code_of : (known : Option Place) (pages : List Page) (n frame : ℕ) (p : Place) → frame_with execute_right p ≡ Some frame → frame < n →
    (p.frame < n → (known ≡ Some p) × IsSome (copy_at pages p.frame)) → IsSome (copy_at pages frame) × (option_and_then (frame_with execute_right) known ≡ Some frame)
code_of known pages n frame p h ram has = by_right (allows p.rights execute_right) h
  where
    by_right : (t : Bool) → (if t then Some p.frame else None) ≡ Some frame → IsSome (copy_at pages frame) × (option_and_then (frame_with execute_right) known ≡ Some frame)
    by_right true g =
        let same : p.frame ≡ frame = same_Some p.frame frame g in
        let both = has (omega arith) in
        (subst (λ (f : ℕ). IsSome (copy_at pages f)) same both.1, ap (option_and_then (frame_with execute_right)) both.0 ∙ h)
    by_right false g = absurd (cc)

code_at : (o : Option Place) (known : Option Place) (pages : List Page) (n frame : ℕ) → option_and_then (frame_with execute_right) o ≡ Some frame → frame < n →
    ((p : Place) → o ≡ Some p → p.frame < n → (known ≡ Some p) × IsSome (copy_at pages p.frame)) →
    IsSome (copy_at pages frame) × (option_and_then (frame_with execute_right) known ≡ Some frame)
code_at None known pages n frame h ram has = absurd (cc)
code_at (Some p) known pages n frame h ram has = code_of known pages n frame p h ram (has p refl)

pub is_new : (k : KernelState) (cpu most : ℕ) (r : Leasable) (s : CopiesState) (l : LeaseView) → IsFound k cpu r → AreGathered k r.pd most s → HasPage k r.pd (r.regs.pc / 4096) s →
    IsMadeOf l cpu r s → IsNew l k cpu most
is_new k cpu most r s l found are has made =
    let pd : pd_of k l.run.guest ≡ r.pd = ap (pd_of k) made.guest ∙ sym found.pd in
    let pc : l.run.steps.regs.pc ≡ r.regs.pc = ap (λ (x : Registers). x.pc) made.regs in
    let there : IsCodeCopied k r.pd r.regs.pc s.pages s.known =
    λ frame h ram. code_at (reach k.delegations.list r.pd (r.regs.pc / 4096)) (known_in s.known (r.regs.pc / 4096)) s.pages (length k.memory.ram) frame h ram has in
    record {
      its_cpu = made.its_cpu;
      count = made.count;
      copies = let a = ap length made.pages in let b = are.few in omega arith;
      code = subst (λ (n : ℕ). IsCodeCopied k n l.run.steps.regs.pc l.run.steps.pages.items l.known) (sym pd)
          (subst (λ (n : ℕ). IsCodeCopied k r.pd n l.run.steps.pages.items l.known) (sym pc)
          (subst (λ (ps : List Page). IsCodeCopied k r.pd r.regs.pc ps l.known) (sym made.pages)
          (subst (λ (ks : List Known). IsCodeCopied k r.pd r.regs.pc s.pages ks) (sym made.known) there)));
    }
