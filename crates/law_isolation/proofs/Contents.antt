-- The bytes that come with a map are those of its frames, and a map that goes is one of the view.
use Rattle.std.proofs.Common.{◌≡◌, ℕ, ◌%◌, ◌^◌, List, length, take, drop, ap, sym, ◌∙◌, subst, refl}
use Rattle.std.specs.Prelude.{Bool, true, false, not, ◌==◌, filter, slice_get, Option, Some, None, option_and_then, if◌then◌else◌}
use Rattle.std.specs.List.{list_any}
use Rattle.rv_model.specs.Step.{Store}
use Rattle.law_forest.specs.Made.{IsNextLeaf}
use Rattle.law_forest.proofs.Allowed.{IsAllowed, deed_allowed}
use Rattle.law_forest.proofs.Members.{in_from_contains}
use Rattle.nova_guest.specs.Cells.{cell_at, cells_given, page_size}
use Rattle.nova_guest.specs.Maps.{is_covered, is_map, leads_to, overlaps}
use Rattle.nova_guest.specs.declared.cell.Cell.{Cell}
use Rattle.nova_guest.specs.declared.guest.Guest.{Guest}
use Rattle.nova_guest.specs.declared.input.Input.{Input}
use Rattle.nova_guest.specs.declared.input.Input.TheVariants as input_as
use Rattle.nova_guest.specs.declared.map.Map.{Map}
use Rattle.nova_model.specs.Deeds.{deed, instruction}
use Rattle.nova_model.specs.Forest.{IsForest}
use Rattle.nova_model.specs.Guests.{input}
use Rattle.nova_model.specs.Inputs.{contents_of, foreign_at, foreign_by, frame_of_store, given_of, input_of, is_covered_for, only_if, others_input, own_input, reply_of, store_of}
use Rattle.nova_model.specs.Runs.{after}
use Rattle.nova_model.specs.State.{KernelState, context, message, pd_of}
use Rattle.nova_model.specs.Views.{cells_of, guest_of, is_memory_of, maps_of, view}
use Rattle.nova_model.specs.declared.context.Mark.TheVariants as mark
use Rattle.nova_model.specs.declared.deed.Deed.{Deed}
use Rattle.nova_model.specs.declared.deed.Deed.TheVariants.{Steps, Raises, Dies, Sends, Recalls, Gives, Removes, Finishes, Replies, Aborts}
use Rattle.nova_model.specs.declared.delegation.Derivation.{Derivation}
use Rattle.nova_model.specs.declared.transfer.Sequel.TheVariants.{Replied}
use Rattle.law_forest.proofs.Actors.{of_input}
use Rattle.law_isolation.specs.Law.{AreAlike, IsGivenAsSeen, IsTakenAsSeen, answered}
use Rattle.law_isolation.specs.Sound.{AreWhole, IsSound, IsVirtual}
use Rattle.law_isolation.proofs.Exchanges.{all_drop, all_take, given_again, numbered_at}
use Rattle.law_isolation.proofs.OtherTurns.{alone_takes}
use Rattle.law_isolation.proofs.Removals.{has_taken, pages_taken}
use Rattle.law_isolation.proofs.Runs.{turn_is_one}
use Rattle.law_isolation.proofs.Seen.{maps_at, view_is}
use Rattle.law_isolation.proofs.Spaces.{cell_of}

-- a map goes: it is one of `maps`, and the others have none of its pages
pub record IsGoing (base order : ℕ) (maps : List Map) : Type 0 where
  pub there : list_any (is_map base order) maps ≡ true
  pub pages : list_any (overlaps base order) (filter (λ m. not (is_map base order m)) maps) ≡ false

-- what a map that comes brings is what its frames hold, and a map that goes is there
abbrev pub IsOfState : KernelState → ℕ → Option Input → Type 0
IsOfState k pd (Some (input_as.Given base order rights frame contents)) = contents ≡ contents_of k.memory.ram frame order
IsOfState k pd (Some (input_as.Taken base order)) = IsGoing base order (maps_of pd k.delegations.list)
IsOfState k pd other = Unit {0}

only_of : (k : KernelState) (pd : ℕ) (t : Bool) (i : Input) → (t ≡ true → IsOfState k pd (Some i)) → IsOfState k pd (only_if t i)
only_of k pd true i is = is refl
only_of k pd false i is = tt

own_of : (k : KernelState) (pd : ℕ) (d : Deed) → IsOfState k pd (own_input d)
own_of k pd Steps = tt
own_of k pd (Raises reason q0 q1) = tt
own_of k pd (Sends handler ip identifier mtd reason q0 q1) = tt
own_of k pd (Dies reason q0) = tt
own_of k pd (Aborts handler mark) = tt
own_of k pd other = tt

stored_of : (k : KernelState) (ec pd : ℕ) (s : Option Store) → IsOfState k pd (option_and_then (foreign_by k ec pd) s)
stored_of k ec pd None = tt
stored_of k ec pd (Some s) = by_frame (frame_of_store k ec s)
  where
    by_test : (f : ℕ) (t : Bool) → IsOfState k pd (if t then Some (input_as.Foreign f (s.address % 4096) s.width s.value) else None)
    by_test f true = tt
    by_test f false = tt

    by_frame : (f : Option ℕ) → IsOfState k pd (option_and_then (foreign_at k pd s) f)
    by_frame None = tt
    by_frame (Some f) = by_test f (is_covered_for k pd f)

leaf_of : (k : KernelState) (ec pd : ℕ) (leaf : Derivation) → IsForest k.delegations → IsNextLeaf k ec leaf → is_memory_of pd leaf ≡ true →
    IsGoing leaf.base leaf.order (maps_of pd k.delegations.list)
leaf_of k ec pd leaf forest next is =
    let there = in_from_contains k.delegations.list leaf (next.goes forest).there in
    record { there = has_taken pd k.delegations leaf forest there is; pages = pages_taken pd k.delegations leaf forest there is }

others_of : (k : KernelState) (ec g : ℕ) (d : Deed) → IsForest k.delegations → IsAllowed k ec d → IsOfState k (pd_of k g) (others_input k ec g d)
others_of k ec g Steps forest allowed = stored_of k ec (pd_of k g) (store_of (instruction k ec))
others_of k ec g (Recalls whose) forest allowed = only_of k (pd_of k g) (whose == g) input_as.Recall (λ is. tt)
others_of k ec g (Replies caller mark.Exit false) forest allowed = only_of k (pd_of k g) (caller == g) (reply_of (message k ec)) (λ is. tt)
others_of k ec g (Replies caller mark.Exit true) forest allowed = tt
others_of k ec g (Replies caller mark.Call items) forest allowed = tt
others_of k ec g (Finishes item end words (Replied caller mark.Exit)) forest allowed = only_of k (pd_of k g) (caller == g) (reply_of (message k ec)) (λ is. tt)
others_of k ec g (Finishes item end words (Replied caller mark.Call)) forest allowed = tt
others_of k ec g (Finishes item end words other) forest allowed = tt
others_of k ec g (Gives child cursor) forest allowed = only_of k (pd_of k g) (is_memory_of (pd_of k g) child) (given_of k child) (λ is. refl)
others_of k ec g (Removes leaf) forest allowed =
    only_of k (pd_of k g) (is_memory_of (pd_of k g) leaf) (input_as.Taken leaf.base leaf.order) (leaf_of k ec (pd_of k g) leaf forest allowed)
others_of k ec g other forest allowed = tt

deed_of : (k : KernelState) (ec g : ℕ) (d : Deed) → IsForest k.delegations → IsAllowed k ec d → IsOfState k (pd_of k g) (input_of k ec g d)
unfolding input_of
deed_of k ec g d forest allowed = by_actor (ec == g)
  where
    by_actor : (t : Bool) → IsOfState k (pd_of k g) (if t then own_input d else others_input k ec g d)
    by_actor true = own_of k (pd_of k g) d
    by_actor false = others_of k ec g d forest allowed

turn_of : (k : KernelState) (cpu g : ℕ) → IsForest k.delegations → IsOfState k (pd_of k g) (input k cpu g)
turn_of k cpu g forest = of_input (IsOfState k (pd_of k g)) k cpu g tt (λ c chosen. deed_of k c.actor g (deed k c.actor) forest (deed_allowed k c.actor))

-- so it is like the cells of those frames
both : (t u : Bool) (o : Option (List ℕ)) (a b : List ℕ) → (if t then o else None) ≡ Some a → (if u then o else None) ≡ Some b → a ≡ b
both true true o a b x y = cc
both true false o a b x y = absurd (cc)
both false u o a b x y = absurd (cc)

alike : (m : Map) (maps : List Map) (ram : List (List ℕ)) (contents : List ℕ) → AreWhole ram → contents ≡ contents_of ram m.frame m.order →
    AreAlike (cells_given m.frame contents) (cells_of maps ram)
alike m maps ram contents whole is f a b given has =
    let pages : List (List ℕ) = take (2 ^ m.order) (drop m.frame ram) in
    let cells = given_again m.frame pages (all_take (λ p. length p ≡ page_size) (2 ^ m.order) (drop m.frame ram) (all_drop (λ p. length p ≡ page_size) m.frame ram whole)) in
    let at : cell_at (cells_given m.frame contents) f ≡ (if leads_to f m then slice_get ram f else None) =
    ap (λ (bytes : List ℕ). cell_at (cells_given m.frame bytes) f) is ∙ (ap (λ (cs : List Cell). cell_at cs f) cells ∙ numbered_at m ram f) in
    both (leads_to f m) (is_covered maps f) (slice_get ram f) a b (sym at ∙ given) (sym (cell_of maps ram f) ∙ has)

as_seen : (k : KernelState) (pd : ℕ) (v : Guest) (maps : List Map) (i : Option Input) → AreWhole k.memory.ram → v.cells ≡ cells_of maps k.memory.ram → IsOfState k pd i → IsGivenAsSeen v i
as_seen k pd v maps (Some (input_as.Given base order rights frame contents)) whole seen is =
    subst (λ (cs : List Cell). AreAlike (cells_given frame contents) cs) (sym seen)
    (alike (record { base = base; order = order; rights = rights; frame = frame }) maps k.memory.ram contents whole is)
as_seen k pd v maps (Some other) whole seen is = tt
as_seen k pd v maps None whole seen is = tt

pub given_as_seen : (k : KernelState) (cpu g : ℕ) → IsSound k → IsVirtual k g → IsGivenAsSeen (view k g) (input k cpu g)
given_as_seen k cpu g sound virtual =
    as_seen k (pd_of k g) (view k g) (maps_at k g) (input k cpu g) sound.whole.frames (ap (λ (v : Guest). v.cells) (view_is k g)) (turn_of k cpu g sound.forest)

-- a map that goes: the view of before has it, and what is left of it has none of its pages
goes_from : (k : KernelState) (g : ℕ) (new : Guest) (ram : List (List ℕ)) (i : Option Input) → IsOfState k (pd_of k g) i → new ≡ (answered (view k g) i).guest →
    new.cells ≡ cells_of new.maps ram → IsTakenAsSeen (view k g) new i
goes_from k g new ram (Some (input_as.Taken base order)) is comes cells =
    let maps : (view k g).maps ≡ maps_at k g = ap (λ (v : Guest). v.maps) (view_is k g) in
    let there : list_any (is_map base order) (view k g).maps ≡ true = ap (list_any (is_map base order)) maps ∙ is.there in
    let left : new.maps ≡ filter (λ m. not (is_map base order m)) (view k g).maps = ap (λ (v : Guest). v.maps) (comes ∙ alone_takes (view k g) base order there) in
    record {
      was = there;
      pages = ap (list_any (overlaps base order)) (left ∙ ap (filter (λ m. not (is_map base order m))) maps) ∙ is.pages;
      cells = λ frame none. ap (λ (cs : List Cell). cell_at cs frame) cells ∙ (cell_of new.maps ram frame ∙ rw none refl);
    }
goes_from k g new ram (Some other) is comes cells = tt
goes_from k g new ram None is comes cells = tt

pub taken_as_seen : (k : KernelState) (cpu g : ℕ) → IsSound k → IsVirtual k g → IsTakenAsSeen (view k g) (view (after k cpu) g) (input k cpu g)
taken_as_seen k cpu g sound virtual =
    let is : view (after k cpu) g ≡ guest_of (context (after k cpu) g) (maps_at (after k cpu) g) (after k cpu).memory.ram = view_is (after k cpu) g in
    goes_from k g (view (after k cpu) g) (after k cpu).memory.ram (input k cpu g) (turn_of k cpu g sound.forest) (turn_is_one k cpu g sound virtual).guest
    (ap (λ (v : Guest). v.cells) is ∙ sym (ap (λ (v : Guest). cells_of v.maps (after k cpu).memory.ram) is))
