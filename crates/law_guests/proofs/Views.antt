-- A side's part tells the views of its virtual CPUs.
use Rattle.std.proofs.Common.{◌≡◌, ◌≤◌, ◌<◌, ◌+◌, ◌-◌, ◌^◌, ℕ, refl, sym, ap, ◌∙◌, subst, arith}
use Rattle.std.specs.Prelude.{true, nat_le, nat_lt, slice_get, option_map, Option, Some, None}
use Rattle.std.specs.List.{find}
use Rattle.std.proofs.lemmas.Bool.{and_parts}
use Rattle.std.proofs.lemmas.Bool.Decides.{nat_tests}
use Rattle.std.proofs.lemmas.Nat.{pow_pos}
use Rattle.std.proofs.lemmas.Option.{same_Some}
use Rattle.nova_guest.specs.Maps.{is_covered, leads_to}
use Rattle.nova_guest.specs.declared.map.Map.{Map}
use Rattle.nova_guest.specs.declared.page.Page.{Page}
use Rattle.nova_range.specs.declared.range.Kind.TheVariants.{Mem}
use Rattle.nova_model.specs.Capabilities.{is_vcpu}
use Rattle.nova_model.specs.Delegations.{covers, page_in, reach}
use Rattle.nova_model.specs.Forest.{IsForest}
use Rattle.nova_model.specs.State.{KernelState, context, context_in, entry, pd_in, pd_of}
use Rattle.nova_model.specs.Views.{view}
use Rattle.nova_model.specs.declared.context.EcState.{EcState}
use Rattle.nova_model.specs.declared.delegation.Derivation.{Derivation}
use Rattle.law_forest.proofs.Extremes.{any_in}
use Rattle.law_forest.proofs.Members.{IsIn, contains_from_in, found_in, in_from_contains}
use Rattle.law_isolation.specs.Sound.{IsSound, IsVirtual}
use Rattle.law_views.specs.Seen.{AreCellsOf, AreMapsOf, IsMapped, IsShownAs, IsViewOf}
use Rattle.law_flow.proofs.Holds.{Covering, covering, found_one}
use Rattle.law_guests.proofs.Facts.{ViewFacts}
use Rattle.law_flow.specs.Flow.{AreAlike, Held, held_by}

-- THE SAME MAPS

record HeldToo (l : KernelState) (pd page : ℕ) (d : Derivation) : Type 0 where
  derivation : Derivation
  there : IsIn l.delegations.list derivation
  covers : Covering Mem pd page derivation
  same : held_by derivation ≡ held_by d

held_too : (k l : KernelState) (S P : ℕ → Type 0) → AreAlike k l S P → (pd page : ℕ) (d : Derivation) → S pd → find (covers Mem pd page) k.delegations.list ≡ Some d → HeldToo l pd page d
held_too k l S P alike pd page d s is =
    by_found (find (covers Mem pd page) l.delegations.list) refl (alike.spaces Mem pd page s ∙ ap (option_map held_by) is)
  where
    by_found : (o : Option Derivation) → find (covers Mem pd page) l.delegations.list ≡ o → option_map held_by o ≡ Some (held_by d) → HeldToo l pd page d
    by_found None found h = absurd (cc)
    by_found (Some e) found h =
        let its = found_in (covers Mem pd page) l.delegations.list e found in
        record { derivation = e; there = its.0; covers = covering Mem pd page e its.1; same = same_Some (held_by e) (held_by d) h }

mapped_too : (k l : KernelState) (S P : ℕ → Type 0) → AreAlike k l S P → IsForest k.delegations → (pd : ℕ) (m : Map) → S pd → IsMapped k.delegations.list pd m → IsMapped l.delegations.list pd m
mapped_too k l S P alike forest pd m s is =
    let d = is.derivation in
    let size = pow_pos is.derivation.order in
    let first : d.base < d.base + 2 ^ d.order = omega (arith, size) in
    let here : Covering Mem pd d.base d = record { kind = sym is.kind; pd = is.domain; place = record { from_base = omega arith; before_end = first } } in
    let found = found_one k.delegations.list Mem pd d.base d forest.apart (in_from_contains k.delegations.list d is.there) here in
    let too = held_too k l S P alike pd d.base d s found in
    record {
      derivation = too.derivation;
      there = contains_from_in l.delegations.list too.derivation too.there;
      kind = sym too.covers.kind;
      domain = too.covers.pd;
      from = ap (λ (h : Held). h.range.base) too.same ∙ is.from;
      size = ap (λ (h : Held). h.range.order) too.same ∙ is.size;
      may = ap (λ (h : Held). h.rights) too.same ∙ is.may;
      leads = ap (λ (h : Held). h.target) too.same ∙ is.leads;
    }

-- A FRAME THAT IS COVERED

-- a page of the domain leads there
pub record Leads (k : KernelState) (pd frame : ℕ) : Type 0 where
  pub page : ℕ
  pub to : Page
  pub reaches : reach k.delegations.list pd page ≡ Some to
  pub its : to.frame ≡ frame

mapped_leads : (k : KernelState) (pd frame : ℕ) (m : Map) → IsForest k.delegations → IsMapped k.delegations.list pd m → leads_to frame m ≡ true → Leads k pd frame
mapped_leads k pd frame m forest is leads =
    let d = is.derivation in
    let parts = and_parts (nat_le m.frame frame) (nat_lt frame (m.frame + 2 ^ m.order)) leads in
    let low : m.frame ≤ frame = grind (arith, nat_tests, parts.0) in
    let high : frame < m.frame + 2 ^ m.order = grind (arith, nat_tests, parts.1) in
    let least : d.target ≤ frame = subst (λ (n : ℕ). n ≤ frame) (sym is.leads) low in
    let above : frame < d.target + 2 ^ m.order = subst (λ (n : ℕ). frame < n + 2 ^ m.order) (sym is.leads) high in
    let last : frame < d.target + 2 ^ d.order = subst (λ (n : ℕ). frame < d.target + 2 ^ n) (sym is.size) above in
    let page : ℕ = d.base + (frame - d.target) in
    let within : d.base + (frame - d.target) < d.base + 2 ^ d.order = omega (arith, least, last) in
    let here : Covering Mem pd (d.base + (frame - d.target)) d = record { kind = sym is.kind; pd = is.domain; place = record { from_base = omega arith; before_end = within } } in
    let found = found_one k.delegations.list Mem pd (d.base + (frame - d.target)) d forest.apart (in_from_contains k.delegations.list d is.there) here in
    record {
      page = d.base + (frame - d.target);
      to = page_in (d.base + (frame - d.target)) d;
      reaches = ap (option_map (page_in (d.base + (frame - d.target)))) found;
      its = omega (arith, least);
    }

pub view_leads : ViewFacts → (k : KernelState) (g frame : ℕ) → IsSound k → is_covered (view k g).maps frame ≡ true → Leads k (pd_of k g) frame
view_leads f k g frame sound is =
    let some = any_in (leads_to frame) (view k g).maps is in
    mapped_leads k (pd_of k g) frame some.0 sound.forest (((f.maps k g sound).members some.0).0 (contains_from_in (view k g).maps some.0 some.1)) some.2

-- THE SAME VIEW

pub virtual_same : (k l : KernelState) (S P : ℕ → Type 0) → AreAlike k l S P → (g : ℕ) → P g → IsVirtual k g → IsVirtual l g
virtual_same k l S P alike g p virtual = ap (option_map is_vcpu) (alike.objects g p) ∙ virtual

pub domain_same : (k l : KernelState) (S P : ℕ → Type 0) → AreAlike k l S P → (g : ℕ) → P g → pd_of l g ≡ pd_of k g
domain_same k l S P alike g p = ap pd_in (alike.objects g p)

view_is_too : ViewFacts → (k l : KernelState) (S P : ℕ → Type 0) → AreAlike k l S P → AreAlike l k S P → IsSound k → IsSound l → (g : ℕ) → P g → S (pd_of k g) → IsVirtual k g → IsViewOf l g (view k g)
view_is_too f k l S P alike back sound also g p s virtual = record {
  registers = f.registers k g ∙ ap (λ (x : EcState). x.regs) context_so;
  recalled = f.recall k g ∙ ap (λ (x : EcState). x.recall) context_so;
  shown = subst (λ (x : EcState). IsShownAs x.state (view k g).state) context_so (f.state k g sound virtual);
  mapped = record {
    members = λ m. (λ c. to_second m ((maps_k.members m).0 c), λ is. (maps_k.members m).1 (to_first m is));
    rising = maps_k.rising;
  };
  held = record {
    covered = λ frame is. cells_k.covered frame is ∙ sym (frame_so frame is);
    uncovered = cells_k.uncovered;
    rising = cells_k.rising;
  };
}
  where
    context_so : context k g ≡ context l g
    context_so = sym (ap (λ (o : Option (Option EcState)). context_in (entry o)) (alike.contexts g p s))

    maps_k : AreMapsOf k.delegations.list (pd_of k g) (view k g).maps
    maps_k = f.maps k g sound

    cells_k : AreCellsOf (view k g).maps k.memory.ram (view k g).cells
    cells_k = f.cells k g

    pd_so : pd_of l g ≡ pd_of k g
    pd_so = domain_same k l S P alike g p

    to_second : (m : Map) → IsMapped k.delegations.list (pd_of k g) m → IsMapped l.delegations.list (pd_of l g) m
    to_second m is = subst (λ (n : ℕ). IsMapped l.delegations.list n m) (sym pd_so) (mapped_too k l S P alike sound.forest (pd_of k g) m s is)

    to_first : (m : Map) → IsMapped l.delegations.list (pd_of l g) m → IsMapped k.delegations.list (pd_of k g) m
    to_first m is = mapped_too l k S P back also.forest (pd_of k g) m s (subst (λ (n : ℕ). IsMapped l.delegations.list n m) pd_so is)

    frame_so : (frame : ℕ) → is_covered (view k g).maps frame ≡ true → slice_get l.memory.ram frame ≡ slice_get k.memory.ram frame
    frame_so frame is =
        let leads = view_leads f k g frame sound is in
        subst (λ (n : ℕ). slice_get l.memory.ram n ≡ slice_get k.memory.ram n) leads.its (alike.frames (pd_of k g) leads.page leads.to s leads.reaches)

pub view_same : ViewFacts → (k l : KernelState) (S P : ℕ → Type 0) → AreAlike k l S P → AreAlike l k S P → IsSound k → IsSound l → (g : ℕ) → P g → S (pd_of k g) → IsVirtual k g → view l g ≡ view k g
view_same f k l S P alike back sound also g p s virtual =
    sym (f.no_other l g (view k g) also (virtual_same k l S P alike g p virtual) (view_is_too f k l S P alike back sound also g p s virtual))
