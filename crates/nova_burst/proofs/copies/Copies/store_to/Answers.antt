use Rattle.std.proofs.Common.{rules, ◌≡◌, ◌<◌, ◌+◌, ℕ, length, List, ap, sym, ◌∙◌, subst, refl, slice_index_or, slice_set}
use Rattle.std.proofs.lemmas.Option.{same_Some}
use Rattle.byteorder.specs.Endian.{little_bytes}
use Rattle.nova_guest.specs.Frames.{replaced}
use Rattle.law_leases.specs.Leases.{stored_in_page, stored_in_pages}
use Rattle.law_leases.specs.declared.steps.Page.{Page}
use Rattle.nova_burst.specs.Copies.{AreSound, CopiesState, IsCopyOf, known_in}
use Rattle.nova_burst.proofs.Places.{get_there, once_kept, set_there, store_later, stored_here, whole_kept}
use Rattle.nova_burst.proofs.copies.Copies.store_to.Goals as goal

pub invariant_of-self : goal.invariant_of-self
invariant_of-self c =
    let known = known_in c.self.inside.known.items in
    let pages = c.self.inside.pages.items in
    let p : Page = slice_index_or pages c.args.copy c.index_mut.result.now in
    let went : c.store_in.new.page ≡ record p { bytes = replaced p.bytes c.args.offset (little_bytes c.args.width c.args.value); stores = p.stores + 1 } = search rules in
    let is : c.store_in.new.page ≡ stored_in_page p.frame c.args.offset c.args.width c.args.value p = went ∙ stored_here p c.args.offset c.args.width c.args.value in
    let was = c.self.invariant in
    let there : c.args.copy < length pages = search rules in
    let at = get_there pages c.args.copy c.index_mut.result.now there in
    let same : slice_set pages c.args.copy c.store_in.new.page ≡ stored_in_pages pages p.frame c.args.offset c.args.width c.args.value =
    ap (slice_set pages c.args.copy) is ∙ set_there pages p.frame c.args.offset c.args.width c.args.value c.args.copy p was.1.0 at refl in
    let later = store_later known pages p.frame c.args.offset c.args.width c.args.value in
    subst (λ (ps : List Page). AreSound known ps c.self.inside.fetched.page c.self.inside.fetched.copy c.self.inside.loaded.page c.self.inside.loaded.copy c.self.inside.stored.page c.self.inside.stored.copy)
    (sym same) (
      whole_kept pages p.frame c.args.offset c.args.width c.args.value c.requires.place was.0,
      (once_kept pages p.frame c.args.offset c.args.width c.args.value was.1.0, (later _ _ _ was.1.1.0, (later _ _ _ was.1.1.1.0, later _ _ _ was.1.1.1.1))),
    )

pub returns : goal.returns
returns c =
    let pages = c.self.inside.pages.items in
    let p : Page = slice_index_or pages c.args.copy c.index_mut.result.now in
    let went : c.store_in.new.page ≡ record p { bytes = replaced p.bytes c.args.offset (little_bytes c.args.width c.args.value); stores = p.stores + 1 } = search rules in
    let is : c.store_in.new.page ≡ stored_in_page p.frame c.args.offset c.args.width c.args.value p = went ∙ stored_here p c.args.offset c.args.width c.args.value in
    let there : c.args.copy < length pages = search rules in
    let at = get_there pages c.args.copy c.index_mut.result.now there in
    let same : slice_set pages c.args.copy c.store_in.new.page ≡ stored_in_pages pages p.frame c.args.offset c.args.width c.args.value =
    ap (slice_set pages c.args.copy) is ∙ set_there pages p.frame c.args.offset c.args.width c.args.value c.args.copy p c.self.invariant.1.0 at refl in
    let shown : c.args.self.now ≡ record { known = c.self.inside.known.items; pages = pages } = search rules in
    λ f its. let here : IsCopyOf pages f c.args.copy = subst (λ (s : CopiesState). IsCopyOf s.pages f c.args.copy) shown its in
    let frame : p.frame ≡ f = ap (λ (x : Page). x.frame) (same_Some p here.page (sym at ∙ here.at)) ∙ here.is in
    ap (λ (ps : List Page). record { known = c.self.inside.known.items; pages = ps })
    (same ∙ ap (λ (g : ℕ). stored_in_pages pages g c.args.offset c.args.width c.args.value) frame)
    ∙ ap (λ (s : CopiesState). record { known = s.known; pages = stored_in_pages s.pages f c.args.offset c.args.width c.args.value }) (sym shown)
