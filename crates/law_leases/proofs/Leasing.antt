-- What a lease ran on fresh copies of a guest's frames is what the guest does: registers, bytes, and stores of each page.
use Rattle.std.proofs.Common.{◌≡◌, ◌≢◌, ◌⊎◌, ℕ, suc, ◌+◌, List, [], ◌∷◌, inl, inr, ap, ap₂, sym, ◌∙◌, subst, refl, arith}
use Rattle.std.specs.Prelude.{Bool, true, false, replicate, slice_get, Option, Some, None, IsSome, is_some, if◌then◌else◌}
use Rattle.std.specs.List.{AllByRecursion}
use Rattle.std.proofs.lemmas.Bool.{cases_eq}
use Rattle.std.proofs.lemmas.Option.{same_Some}
use Rattle.rv_model.specs.Registers.{Registers}
use Rattle.nova_guest.specs.Alone.{outputs}
use Rattle.nova_guest.specs.Cells.{cell_at}
use Rattle.nova_guest.specs.Maps.{is_covered}
use Rattle.nova_guest.specs.declared.cell.Cell.{Cell}
use Rattle.nova_guest.specs.declared.guest.Guest.{Guest}
use Rattle.nova_guest.specs.declared.guest.GuestState.TheVariants.{Ready}
use Rattle.nova_guest.specs.declared.input.Input.TheVariants.{Own}
use Rattle.nova_guest.specs.declared.map.Map.{Map}
use Rattle.nova_guest.specs.declared.page.Page.{Page as Place}
use Rattle.nova_model.specs.State.{KernelState, context}
use Rattle.nova_model.specs.Views.{cells_from, guest_of, view}
use Rattle.law_isolation.proofs.Seen.{maps_at, view_is}
use Rattle.law_leases.specs.Advances.{frames_stored, own_after}
use Rattle.law_leases.specs.Leases.{IsOfGuest, LeaseState, copy_at, lease_steps, overlaid, overlay, put_back, tallied, tally, times}
use Rattle.law_leases.specs.Paging.{AreFresh, AreOnce, IsRun}
use Rattle.law_leases.specs.declared.steps.Page.{Page}
use Rattle.law_leases.proofs.Leased.{cell_overlaid}
use Rattle.law_leases.proofs.Copying.{AreSteps, steps_leased}

-- fresh copies laid over cells leave them
overlay_from : (maps : List Map) (pages : List Page) (n : ℕ) (ram : List (List ℕ)) → ((i : ℕ) (b c : List ℕ) → copy_at pages (n + i) ≡ Some b → slice_get ram i ≡ Some c → c ≡ b) →
    overlay pages (cells_from maps n ram) ≡ cells_from maps n ram
overlay_from maps pages n [] same = refl
overlay_from maps pages n (c ∷ ram) same = by_test (is_covered maps n) (copy_at pages n) refl
    (overlay_from maps pages (n + 1) ram (λ i b d copy at. let e : n + suc i ≡ (n + 1) + i = omega arith in same (suc i) b d (ap (copy_at pages) e ∙ copy) at))
  where
    laid : (o : Option (List ℕ)) → copy_at pages n ≡ o → overlaid (record { frame = n; contents = c }) o ≡ record { frame = n; contents = c }
    laid None is = refl
    laid (Some b) is = let e : n + 0 ≡ n = omega arith in ap (λ (d : List ℕ). record { frame = n; contents = d }) (sym (same 0 b c (ap (copy_at pages) e ∙ is) refl))

    by_test : (t : Bool) (o : Option (List ℕ)) → copy_at pages n ≡ o → overlay pages (cells_from maps (n + 1) ram) ≡ cells_from maps (n + 1) ram →
        overlay pages (if t then record { frame = n; contents = c } ∷ cells_from maps (n + 1) ram else cells_from maps (n + 1) ram)
        ≡ (if t then record { frame = n; contents = c } ∷ cells_from maps (n + 1) ram else cells_from maps (n + 1) ram)
    by_test true o is rest = ap₂ (λ (d : Cell) (ds : List Cell). d ∷ ds) (laid (copy_at pages n) refl) rest
    by_test false o is rest = rest

put_back_fresh : (k : KernelState) (g : ℕ) (l : LeaseState) → l.regs ≡ (view k g).regs → AreFresh k.memory.ram l.pages → put_back (view k g) l ≡ view k g
put_back_fresh k g l regs fresh =
    ap₂ (λ (v : Guest) (r : Registers). record v { regs = r; cells = overlay l.pages v.cells }) (view_is k g) (regs ∙ ap (λ (v : Guest). v.regs) (view_is k g))
    ∙ (ap (λ (cells : List Cell). record (view_at) { cells = cells }) (overlay_from (maps_at k g) l.pages 0 k.memory.ram (λ i b c copy at.
    let e : 0 + i ≡ i = omega arith in
    same_Some c b (sym at ∙ fresh.bytes i b (ap (copy_at l.pages) (sym e) ∙ copy)))) ∙ sym (view_is k g))
  where
    view_at : Guest
    view_at = guest_of (context k g) (maps_at k g) k.memory.ram

-- THE SAME FRAMES

-- two lists of pages with the same frames
abbrev AreSameFrames : List Page → List Page → Type 0
AreSameFrames [] [] = Unit {0}
AreSameFrames (p ∷ ps) (q ∷ qs) = (p.frame ≡ q.frame) × AreSameFrames ps qs
AreSameFrames ps qs = ⊥

same_tallied : (fs : List ℕ) (ms ls : List Page) → tallied [] ms ≡ tallied fs ls → AreSameFrames ms ls
same_tallied fs [] [] h = tt
same_tallied fs [] (l ∷ ls) h = absurd (cc)
same_tallied fs (m ∷ ms) [] h = absurd (cc)
same_tallied fs (m ∷ ms) (l ∷ ls) h = (ap (λ (p : ℕ × ℕ). p.0) (head_same h), same_tallied fs ms ls (tail_same h))
  where
    head_same : tally [] m ∷ tallied [] ms ≡ tally fs l ∷ tallied fs ls → tally [] m ≡ tally fs l
    head_same e = cc

    tail_same : tally [] m ∷ tallied [] ms ≡ tally fs l ∷ tallied fs ls → tallied [] ms ≡ tallied fs ls
    tail_same e = cc

same_copied : (ms ls : List Page) (f : ℕ) → AreSameFrames ms ls → is_some (copy_at ms f) ≡ is_some (copy_at ls f)
same_copied [] [] f same = refl
same_copied [] (l ∷ ls) f same = absurd same
same_copied (m ∷ ms) [] f same = absurd same
same_copied (m ∷ ms) (l ∷ ls) f same = grind (arith, same.0, same_copied ms ls f same.1)

pub none_copied : (o : Option (List ℕ)) → is_some o ≡ false → o ≡ None
none_copied None h = refl
none_copied (Some b) h = absurd (cc)

same_once : (ms ls : List Page) → AreSameFrames ms ls → AreOnce ls → AreOnce ms
same_once [] [] same once = tt
same_once [] (l ∷ ls) same once = absurd same
same_once (m ∷ ms) [] same once = absurd same
same_once (m ∷ ms) (l ∷ ls) same once = (
  none_copied (copy_at ms m.frame) (same_copied ms ls m.frame same.1 ∙ (ap (λ (f : ℕ). is_some (copy_at ls f)) same.0 ∙ ap is_some once.0)),
  same_once ms ls same.1 once.1,
)

-- each page is the copy of its frame
pages_copied : (all ps : List Page) → AreOnce ps → ((f : ℕ) (b : List ℕ) → copy_at ps f ≡ Some b → copy_at all f ≡ Some b) → AllByRecursion (λ (p : Page). copy_at all p.frame ≡ Some p.bytes) ps
pages_copied all [] once among = tt
pages_copied all (p ∷ ps) once among = (
  among p.frame p.bytes (grind (arith)),
  pages_copied all ps once.1 (λ f b copy. among f b (elsewhere f b copy (cases_eq p.frame f))),
)
  where
    elsewhere : (f : ℕ) (b : List ℕ) → copy_at ps f ≡ Some b → (p.frame ≡ f) ⊎ (p.frame ≢ f) → copy_at (p ∷ ps) f ≡ Some b
    elsewhere f b copy (inl here) = let none : copy_at ps f ≡ None = ap (copy_at ps) (sym here) ∙ once.0 in let both : None ≡ Some b = sym none ∙ copy in absurd (cc)
    elsewhere f b copy (inr ne) = grind (arith, ne, copy)

all_over : (known : ℕ → Option Place) (v : Guest) (all ps : List Page) → IsOfGuest known all v → AllByRecursion (λ (p : Page). copy_at all p.frame ≡ Some p.bytes) ps →
    AllByRecursion (λ (p : Page). cell_at (overlay all v.cells) p.frame ≡ Some p.bytes) ps
all_over known v all [] are copies = tt
all_over known v all (p ∷ ps) are copies = (cell_overlaid known v all p.frame p.bytes are copies.0, all_over known v all ps are copies.1)

stores_of : (fs : List ℕ) (ms ls : List Page) → AllByRecursion (λ (p : Page). p.stores ≡ 0) ls → tallied [] ms ≡ tallied fs ls → AllByRecursion (λ (p : Page). p.stores ≡ times p.frame fs) ms
stores_of fs [] ls none h = tt
stores_of fs (m ∷ ms) [] none h = absurd (cc)
stores_of fs (m ∷ ms) (l ∷ ls) none h = (here (head_same h), stores_of fs ms ls none.1 (tail_same h))
  where
    head_same : tally [] m ∷ tallied [] ms ≡ tally fs l ∷ tallied fs ls → tally [] m ≡ tally fs l
    head_same e = cc

    tail_same : tally [] m ∷ tallied [] ms ≡ tally fs l ∷ tallied fs ls → tallied [] ms ≡ tallied fs ls
    tail_same e = cc

    here : tally [] m ≡ tally fs l → m.stores ≡ times m.frame fs
    here e =
        let frames : m.frame ≡ l.frame = ap (λ (p : ℕ × ℕ). p.0) e in
        let counts : m.stores + 0 ≡ l.stores + times l.frame fs = ap (λ (p : ℕ × ℕ). p.1) e in
        let zero_ : l.stores ≡ 0 = none.0 in
        let n : ℕ = times l.frame fs in
        let same : m.stores ≡ times l.frame fs = omega arith in
        same ∙ ap (λ (f : ℕ). times f fs) (sym frames)

all_still : (fs : List ℕ) (ms ls : List Page) → AreSameFrames ms ls → AllByRecursion (λ (f : ℕ). IsSome (copy_at ls f)) fs → AllByRecursion (λ (f : ℕ). IsSome (copy_at ms f)) fs
all_still [] ms ls same all = tt
all_still (f ∷ fs) ms ls same all = (same_copied ms ls f same ∙ all.0, all_still fs ms ls same all.1)

-- THE LAW

pub runs : (known : ℕ → Option Place) (n : ℕ) (k : KernelState) (g : ℕ) (l m : LeaseState) → (view k g).state ≡ Ready → (view k g).recall ≡ false → IsOfGuest known l.pages (view k g) →
    l.regs ≡ (view k g).regs → AreFresh k.memory.ram l.pages → lease_steps known n l ≡ Some m → IsRun k g n m
runs known n k g l m at_ready free are regs fresh h =
    let v : Guest = view k g in
    let steps : AreSteps n v l m = steps_leased known n v l m at_ready free are h in
    let begins : put_back v l ≡ v = put_back_fresh k g l regs fresh in
    let goes : own_after n v ≡ put_back v m = ap (own_after n) (sym begins) ∙ steps.goes in
    let counts : tallied [] m.pages ≡ tallied (frames_stored n v) l.pages = steps.counts ∙ ap (λ (w : Guest). tallied (frames_stored n w) l.pages) begins in
    let same : AreSameFrames m.pages l.pages = same_tallied (frames_stored n v) m.pages l.pages counts in
    let once : AreOnce m.pages = same_once m.pages l.pages same fresh.once in
    let still : IsOfGuest known m.pages v = record { places = are.places; copies = λ f there. are.copies f (sym (same_copied m.pages l.pages f same) ∙ there) } in
    record {
      regs = sym (ap (λ (w : Guest). w.regs) goes);
      pages = record {
        quiet = ap (λ (w : Guest). outputs w (replicate n Own)) (sym begins) ∙ steps.quiet;
        once = once;
        bytes = subst (λ (w : Guest). AllByRecursion (λ (p : Page). cell_at w.cells p.frame ≡ Some p.bytes) m.pages) (sym goes)
            (all_over known v m.pages m.pages still (pages_copied m.pages m.pages once (λ f b copy. copy)));
        within = subst (λ (fs : List ℕ). AllByRecursion (λ (f : ℕ). IsSome (copy_at m.pages f)) fs) (ap (frames_stored n) begins)
            (all_still (frames_stored n (put_back v l)) m.pages l.pages same steps.copied);
        counts = stores_of (frames_stored n v) m.pages l.pages fresh.stores counts;
      };
    }
