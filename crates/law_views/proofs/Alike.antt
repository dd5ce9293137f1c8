-- What a state has of a virtual CPU is one guest.
use Rattle.std.proofs.Common.{◌≡◌, ◌<◌, ℕ, zero, suc, List, [], ◌∷◌, ap, ap₂, sym, ◌∙◌, subst, refl, inl, inr, arith}
use Rattle.std.specs.Prelude.{true, ◌==◌, Option, Some, None, option_map}
use Rattle.std.specs.List.{AllByRecursion, AllPairs, find}
use Rattle.std.proofs.lemmas.Bool.{cases_Bool, eq-eqb, eqb-true}
use Rattle.std.proofs.lemmas.List.Elements.{recursion_from_All}
use Rattle.std.proofs.lemmas.Option.{same_Some}
use Rattle.law_forest.proofs.Members.{IsIn, all_at, contains_from_in, found_in, in_from_contains}
use Rattle.nova_guest.specs.Cells.{cell_at, frame_of}
use Rattle.nova_guest.specs.Maps.{base_of, is_covered}
use Rattle.nova_guest.specs.declared.cell.Cell.{Cell}
use Rattle.nova_guest.specs.declared.guest.Guest.{Guest}
use Rattle.nova_guest.specs.declared.guest.GuestState.{GuestState}
use Rattle.nova_guest.specs.declared.map.Map.{Map}
use Rattle.law_isolation.specs.Sound.{IsSound, IsVirtual}
use Rattle.law_isolation.proofs.KeyedLaws.{IsRising}
use Rattle.law_isolation.proofs.Premises.{IsGuestState, guest as guest_there}
use Rattle.nova_model.specs.State.{KernelState, context, pd_of}
use Rattle.nova_model.specs.Views.{view}
use Rattle.nova_model.specs.declared.context.State.{State}
use Rattle.nova_model.specs.declared.context.State.TheVariants.{Fresh, Ready, Calling, Exiting, Sending, Dead}
use Rattle.nova_model.specs.declared.delegation.Derivation.{Derivation}
use Rattle.law_isolation.proofs.Seen.{view_registers}
use Rattle.law_views.specs.Seen.{AreCellsOf, AreMapsOf, IsShownAs, IsViewOf}
use Rattle.law_views.proofs.Seen.{view_cells, view_maps, view_recall, view_shown}

-- RISING LISTS

pub rising_from : {T : Type 0} (key : T → ℕ) (xs : List T) → AllPairs (λ a b. key a < key b) xs → IsRising key xs
rising_from key [] pairs = tt
rising_from key (x ∷ xs) pairs = (
  recursion_from_All (λ y. key x < key y) xs (λ i d within. pairs zero (suc i) d (omega arith) (omega (arith, within))),
  rising_from key xs (λ i j d rises within. pairs (suc i) (suc j) d (omega (arith, rises)) (omega (arith, within))),
)

-- with the same members they are the same
same_head : {T : Type 0} (key : T → ℕ) (x y : T) (xs ys : List T) → IsRising key (x ∷ xs) → IsRising key (y ∷ ys) → IsIn (y ∷ ys) x → IsIn (x ∷ xs) y → x ≡ y
same_head key x y xs ys rise rises (inl e) j = sym e
same_head key x y xs ys rise rises (inr i) (inl e) = e
same_head key x y xs ys rise rises (inr i) (inr j) =
    let a = all_at (λ z. key y < key z) ys x rises.0 i in
    let b = all_at (λ z. key x < key z) xs y rise.0 j in
    absurd (omega (arith, a, b))

tail_in : {T : Type 0} (key : T → ℕ) (x y z : T) (xs ys : List T) → IsRising key (x ∷ xs) → x ≡ y → IsIn xs z → IsIn (y ∷ ys) z → IsIn ys z
tail_in key x y z xs ys rise same i (inr j) = j
tail_in key x y z xs ys rise same i (inl e) =
    let a = all_at (λ w. key x < key w) xs z rise.0 i in
    let b : key x ≡ key z = ap key (same ∙ e) in
    absurd (omega (arith, a, b))

same_rising : {T : Type 0} (key : T → ℕ) (xs ys : List T) → IsRising key xs → IsRising key ys → ((z : T) → IsIn xs z → IsIn ys z) → ((z : T) → IsIn ys z → IsIn xs z) → xs ≡ ys
same_rising key [] [] rise rises to back = refl
same_rising key [] (y ∷ ys) rise rises to back = absurd (back y (inl refl))
same_rising key (x ∷ xs) [] rise rises to back = absurd (to x (inl refl))
same_rising key (x ∷ xs) (y ∷ ys) rise rises to back =
    let same : x ≡ y = same_head key x y xs ys rise rises (to x (inl refl)) (back y (inl refl)) in
    ap₂ (λ (z : _) (zs : List _). z ∷ zs) same (same_rising key xs ys rise.1 rises.1
    (λ z i. tail_in key x y z xs ys rise same i (to z (inr i)))
    (λ z i. tail_in key y x z ys xs rises (sym same) i (back z (inr i))))

-- THE STATE

one_state : (s : State) → IsGuestState s → (t u : GuestState) → IsShownAs s t → IsShownAs s u → t ≡ u
one_state Fresh runs t u a b = a.fresh.0 refl ∙ sym (b.fresh.0 refl)
one_state Ready runs t u a b = a.ready.0 refl ∙ sym (b.ready.0 refl)
one_state (Exiting reason q0 q1) runs t u a b = (a.exit reason q0 q1).0 refl ∙ sym ((b.exit reason q0 q1).0 refl)
one_state (Sending reason q0 q1 handler) runs t u a b = (a.exit reason q0 q1).0 refl ∙ sym ((b.exit reason q0 q1).0 refl)
one_state (Calling handler) runs t u a b = a.waits.0 (handler, refl) ∙ sym (b.waits.0 (handler, refl))
one_state Dead runs t u a b = a.dead.0 refl ∙ sym (b.dead.0 refl)
one_state other runs t u a b = absurd runs

-- MAPS

also_mapped : (list : List Derivation) (pd : ℕ) (maps others : List Map) → AreMapsOf list pd maps → AreMapsOf list pd others → (m : Map) → IsIn maps m → IsIn others m
also_mapped list pd maps others a b m i = in_from_contains others m ((b.members m).1 ((a.members m).0 (contains_from_in maps m i)))

one_maps : (list : List Derivation) (pd : ℕ) (maps others : List Map) → AreMapsOf list pd maps → AreMapsOf list pd others → maps ≡ others
one_maps list pd maps others a b =
    same_rising base_of maps others (rising_from base_of maps a.rising) (rising_from base_of others b.rising)
    (also_mapped list pd maps others a b) (also_mapped list pd others maps b a)

-- CELLS

first_found : (frame : ℕ) (cells : List Cell) → AllByRecursion (λ (c : Cell). frame < c.frame) cells → cell_at cells frame ≡ None
first_found frame [] all = refl
first_found frame (c ∷ cells) all = let less = all.0 in grind (arith, less, first_found frame cells all.1)

cell_found : (cells : List Cell) (c : Cell) → IsRising frame_of cells → IsIn cells c → cell_at cells c.frame ≡ Some c.contents
cell_found [] c rising i = absurd i
cell_found (d ∷ cells) c rising (inl e) =
    subst (λ (x : Cell). cell_at (d ∷ cells) x.frame ≡ Some x.contents) e (let here : (d.frame == d.frame) ≡ true = eq-eqb d.frame d.frame refl in rw here refl)
cell_found (d ∷ cells) c rising (inr i) =
    let less = all_at (λ (x : Cell). d.frame < x.frame) cells c rising.0 i in grind (arith, less, cell_found cells c rising.1 i)

found_cell : (cells : List Cell) (c : Cell) → cell_at cells c.frame ≡ Some c.contents → IsIn cells c
found_cell cells c h = by_found (find (λ (d : Cell). d.frame == c.frame) cells) refl h
  where
    by_found : (o : Option Cell) → find (λ (d : Cell). d.frame == c.frame) cells ≡ o → option_map (λ (d : Cell). d.contents) o ≡ Some c.contents → IsIn cells c
    by_found None found e = absurd (cc)
    by_found (Some d) found e =
        let at = found_in (λ (d : Cell). d.frame == c.frame) cells d found in
        subst (IsIn cells) (ap₂ (λ (frame : ℕ) (contents : List ℕ). record { frame = frame; contents = contents }) (eqb-true d.frame c.frame at.1) (same_Some d.contents c.contents e)) at.0

same_cell : (maps : List Map) (ram : List (List ℕ)) (cells others : List Cell) → AreCellsOf maps ram cells → AreCellsOf maps ram others → (frame : ℕ) →
    cell_at cells frame ≡ cell_at others frame
same_cell maps ram cells others a b frame = elim (cases_Bool (is_covered maps frame)) [
  | inl is ↦ a.covered frame is ∙ sym (b.covered frame is)
  | inr not_ ↦ a.uncovered frame not_ ∙ sym (b.uncovered frame not_)
]

also_held : (maps : List Map) (ram : List (List ℕ)) (cells others : List Cell) → AreCellsOf maps ram cells → AreCellsOf maps ram others → (c : Cell) → IsIn cells c → IsIn others c
also_held maps ram cells others a b c i =
    found_cell others c (sym (same_cell maps ram cells others a b c.frame) ∙ cell_found cells c (rising_from frame_of cells a.rising) i)

one_cells : (maps : List Map) (ram : List (List ℕ)) (cells others : List Cell) → AreCellsOf maps ram cells → AreCellsOf maps ram others → cells ≡ others
one_cells maps ram cells others a b =
    same_rising frame_of cells others (rising_from frame_of cells a.rising) (rising_from frame_of others b.rising)
    (also_held maps ram cells others a b) (also_held maps ram others cells b a)

-- THE VIEW

is_view : (k : KernelState) (g : ℕ) → IsSound k → IsVirtual k g → IsViewOf k g (view k g)
is_view k g sound virtual = record {
  registers = view_registers k g;
  recalled = view_recall k g;
  shown = view_shown k g sound virtual;
  mapped = view_maps k g sound;
  held = view_cells k g;
}

one_guest : (k : KernelState) (g : ℕ) (v w : Guest) → IsGuestState (context k g).state → IsViewOf k g v → IsViewOf k g w → v ≡ w
one_guest k g v w runs a b =
    let maps : v.maps ≡ w.maps = one_maps k.delegations.list (pd_of k g) v.maps w.maps a.mapped b.mapped in
    let cells : v.cells ≡ w.cells = one_cells w.maps k.memory.ram v.cells w.cells (subst (λ (ms : List Map). AreCellsOf ms k.memory.ram v.cells) maps a.held) b.held in
    let regs : v.regs ≡ w.regs = a.registers ∙ sym b.registers in
    let recall : v.recall ≡ w.recall = a.recalled ∙ sym b.recalled in
    let state : v.state ≡ w.state = one_state (context k g).state runs v.state w.state a.shown b.shown in
    λ i. record { regs = regs i; state = state i; recall = recall i; maps = maps i; cells = cells i }

pub one_view : (k : KernelState) (g : ℕ) (v : Guest) → IsSound k → IsVirtual k g → IsViewOf k g v → v ≡ view k g
one_view k g v sound virtual is = one_guest k g v (view k g) (guest_there k g sound virtual).runs is (is_view k g sound virtual)
