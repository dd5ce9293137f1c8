-- What a view has of a state.
use Rattle.std.proofs.Common.{◌≡◌, ◌≢◌, ◌<◌, ◌⊎◌, ℕ, List, [], ◌∷◌, ap, sym, ◌∙◌, subst, refl, inl, inr, arith}
use Rattle.std.specs.Prelude.{Bool, true, false, ◌==◌, nat_lt, Option, Some, None, slice_get, if◌then◌else◌}
use Rattle.std.specs.List.{AllByRecursion, AllPairs, filter_map}
use Rattle.std.proofs.lemmas.Bool.{and_parts, cases_Bool, eqb-true}
use Rattle.std.proofs.lemmas.List.Elements.{All-from_recursion}
use Rattle.std.proofs.lemmas.List.Kept.{AllPairs-cons}
use Rattle.std.proofs.lemmas.Nat.{pow_pos}
use Rattle.law_forest.proofs.Members.{IsIn, all_weaker, contains_from_in, in_from_contains}
use Rattle.nova_guest.specs.Cells.{frame_of}
use Rattle.nova_guest.specs.Keyed.{placed}
use Rattle.nova_guest.specs.Maps.{base_of}
use Rattle.nova_guest.specs.declared.guest.Guest.{Guest}
use Rattle.nova_guest.specs.declared.guest.GuestState.{GuestState}
use Rattle.nova_guest.specs.declared.guest.GuestState.TheVariants as guest
use Rattle.nova_guest.specs.declared.map.Map.{Map}
use Rattle.law_isolation.specs.Sound.{IsSound, IsVirtual}
use Rattle.law_isolation.proofs.Admits.{view_state}
use Rattle.law_isolation.proofs.Exchanges.{cells_rising}
use Rattle.law_isolation.proofs.KeyedLaws.{IsRising, rising_placed_all}
use Rattle.law_isolation.proofs.Premises.{IsGuestState, guest as guest_there}
use Rattle.law_isolation.proofs.Seen.{maps_at, view_is}
use Rattle.law_isolation.proofs.Spaces.{MapsApart, cell_of, maps_apart, maps_more, maps_same}
use Rattle.nova_model.specs.Delegations.{is_memory}
use Rattle.nova_model.specs.Exits.{raised_exit}
use Rattle.nova_model.specs.Forest.{ArePairs}
use Rattle.nova_model.specs.State.{KernelState, context, pd_of}
use Rattle.nova_model.specs.Views.{cells_of, guest_state, is_memory_of, map_in, map_of, maps_of, view}
use Rattle.nova_model.specs.declared.context.State.{State}
use Rattle.nova_model.specs.declared.context.State.TheVariants.{Fresh, Ready, Calling, Exiting, Sending, Dead}
use Rattle.nova_model.specs.declared.delegation.Derivation.{Derivation}
use Rattle.law_origins.proofs.Rights.{kind_is}
use Rattle.law_turns.proofs.Holding.{Apart as SameSpaceApart}
use Rattle.law_views.proofs.Said.{of_memory}
use Rattle.law_views.specs.Seen.{AreCellsOf, AreMapsOf, IsMapped, IsShownAs}

pub view_recall : (k : KernelState) (g : ℕ) → (view k g).recall ≡ (context k g).recall
view_recall k g = ap (λ (v : Guest). v.recall) (view_is k g)

-- ITS STATE

fresh_back : (s : State) → guest_state s ≡ guest.Fresh → s ≡ Fresh
fresh_back Fresh h = refl
fresh_back other h = absurd (cc)

ready_back : (s : State) → guest_state s ≡ guest.Ready → s ≡ Ready
ready_back Ready h = refl
ready_back other h = absurd (cc)

waits_back : (s : State) → guest_state s ≡ guest.Waiting → (handler : ℕ) × (s ≡ Calling handler)
waits_back (Calling handler) h = (handler, refl)
waits_back other h = absurd (cc)

dead_back : (s : State) → IsGuestState s → guest_state s ≡ guest.Dead → s ≡ Dead
dead_back Dead runs h = refl
dead_back Fresh runs h = absurd (cc)
dead_back Ready runs h = absurd (cc)
dead_back (Exiting reason q0 q1) runs h = absurd (cc)
dead_back (Sending reason q0 q1 handler) runs h = absurd (cc)
dead_back (Calling handler) runs h = absurd (cc)
dead_back other runs h = absurd runs

abbrev exit_of : GuestState → Option (ℕ × ℕ × ℕ)
exit_of (guest.Exit reason q0 q1) = Some (reason, q0, q1)
exit_of other = None

exit_same : (s : State) → raised_exit s ≡ exit_of (guest_state s)
exit_same (Exiting reason q0 q1) = refl
exit_same (Sending reason q0 q1 handler) = refl
exit_same other = refl

abbrev exit_from : Option (ℕ × ℕ × ℕ) → GuestState
exit_from (Some p) = guest.Exit p.0 p.1 p.2
exit_from None = guest.Dead

exit_is : (t : GuestState) (reason q0 q1 : ℕ) → exit_of t ≡ Some (reason, q0, q1) → t ≡ guest.Exit reason q0 q1
exit_is (guest.Exit r a b) reason q0 q1 h = ap exit_from h
exit_is other reason q0 q1 h = absurd (cc)

shown_as : (s : State) → IsGuestState s → IsShownAs s (guest_state s)
shown_as s runs = record {
  fresh = (λ e. ap guest_state e, fresh_back s);
  ready = (λ e. ap guest_state e, ready_back s);
  exit = λ reason q0 q1. (λ e. exit_is (guest_state s) reason q0 q1 (sym (exit_same s) ∙ e), λ e. exit_same s ∙ ap exit_of e);
  waits = (λ e. ap guest_state e.1, waits_back s);
  dead = (λ e. ap guest_state e, dead_back s runs);
}

pub view_shown : (k : KernelState) (g : ℕ) → IsSound k → IsVirtual k g → IsShownAs (context k g).state (view k g).state
view_shown k g sound is = subst (IsShownAs (context k g).state) (sym (view_state k g)) (shown_as (context k g).state (guest_there k g sound is).runs)

-- ITS MAPS

in_placed : {T : Type 0} (key : T → ℕ) (x y : T) (ys : List T) → IsIn (placed key x ys) y → (x ≡ y) ⊎ IsIn ys y
in_placed key x y [] (inl e) = inl e
in_placed key x y [] (inr i) = absurd i
in_placed key x y (z ∷ zs) i = by_tests (nat_lt (key x) (key z)) (key x == key z) (in_placed key x y zs) i
  where
    later : (IsIn (placed key x zs) y → (x ≡ y) ⊎ IsIn zs y) → IsIn (z ∷ placed key x zs) y → (x ≡ y) ⊎ IsIn (z ∷ zs) y
    later rest (inl e) = inr (inl e)
    later rest (inr j) = elim (rest j) [
      | inl e ↦ inl e
      | inr l ↦ inr (inr l)
    ]

    by_tests : (less equal : Bool) → (IsIn (placed key x zs) y → (x ≡ y) ⊎ IsIn zs y) →
        IsIn (if less then x ∷ (z ∷ zs) else (if equal then z ∷ zs else z ∷ placed key x zs)) y → (x ≡ y) ⊎ IsIn (z ∷ zs) y
    by_tests true equal rest j = j
    by_tests false true rest j = inr j
    by_tests false false rest j = later rest j

stays_placed : {T : Type 0} (key : T → ℕ) (x y : T) (ys : List T) → IsIn ys y → IsIn (placed key x ys) y
stays_placed key x y [] i = absurd i
stays_placed key x y (z ∷ zs) i = by_tests (nat_lt (key x) (key z)) (key x == key z) (stays_placed key x y zs) i
  where
    later : (IsIn zs y → IsIn (placed key x zs) y) → IsIn (z ∷ zs) y → IsIn (z ∷ placed key x zs) y
    later rest (inl e) = inl e
    later rest (inr j) = inr (rest j)

    by_tests : (less equal : Bool) → (IsIn zs y → IsIn (placed key x zs) y) → IsIn (z ∷ zs) y →
        IsIn (if less then x ∷ (z ∷ zs) else (if equal then z ∷ zs else z ∷ placed key x zs)) y
    by_tests true equal rest j = inr j
    by_tests false true rest j = j
    by_tests false false rest j = later rest j

placed_there : {T : Type 0} (key : T → ℕ) (x : T) (ys : List T) → AllByRecursion (λ y. key x ≢ key y) ys → IsIn (placed key x ys) x
placed_there key x [] all = inl refl
placed_there key x (z ∷ zs) all = by_tests (nat_lt (key x) (key z)) (key x == key z) refl (placed_there key x zs all.1)
  where
    by_tests : (less equal : Bool) → key x == key z ≡ equal → IsIn (placed key x zs) x →
        IsIn (if less then x ∷ (z ∷ zs) else (if equal then z ∷ zs else z ∷ placed key x zs)) x
    by_tests true equal is rest = inl refl
    by_tests false true is rest = absurd (all.0 (eqb-true (key x) (key z) is))
    by_tests false false is rest = inr rest

bases_differ : (a b : Map) → MapsApart a b → a.base ≢ b.base
bases_differ a b (inl before) same = let p = pow_pos a.order in omega (arith, before, same, p)
bases_differ a b (inr past) same = let p = pow_pos b.order in omega (arith, past, same, p)

-- a map is one of a memory derivation
pub record IsFrom (list : List Derivation) (pd : ℕ) (m : Map) : Type 0 where
  pub derivation : Derivation
  pub there : IsIn list derivation
  pub memory : is_memory_of pd derivation ≡ true
  pub same : map_of derivation ≡ m

from_more : (x : Derivation) (xs : List Derivation) (pd : ℕ) (m : Map) → IsFrom xs pd m → IsFrom (x ∷ xs) pd m
from_more x xs pd m from = record { derivation = from.derivation; there = inr from.there; memory = from.memory; same = from.same }

maps_from : (pd : ℕ) (list : List Derivation) (m : Map) → IsIn (maps_of pd list) m → IsFrom list pd m
maps_from pd [] m i = absurd i
maps_from pd (x ∷ xs) m i = elim (cases_Bool (is_memory_of pd x)) [
  | inl of_ ↦ elim (in_placed base_of (map_of x) m (maps_of pd xs) (subst (λ (ms : List Map). IsIn ms m) (maps_more pd x xs of_) i)) [
    | inl e ↦ record { derivation = x; there = inl refl; memory = of_; same = e }
    | inr later ↦ from_more x xs pd m (maps_from pd xs m later)
  ]
  | inr not_ ↦ from_more x xs pd m (maps_from pd xs m (subst (λ (ms : List Map). IsIn ms m) (maps_same pd x xs not_) i))
]

maps_have : (pd : ℕ) (list : List Derivation) (d : Derivation) → ArePairs SameSpaceApart list → IsIn list d → is_memory_of pd d ≡ true → IsIn (maps_of pd list) (map_of d)
maps_have pd [] d apart i memory = absurd i
maps_have pd (x ∷ xs) d apart (inl e) memory =
    let of_ : is_memory_of pd x ≡ true = ap (is_memory_of pd) e ∙ memory in
    let all = all_weaker (MapsApart (map_of x)) (λ (m : Map). base_of (map_of x) ≢ base_of m) (maps_of pd xs) (λ m h. bases_differ (map_of x) m h) (maps_apart pd x xs of_ apart.0) in
    subst (λ (ms : List Map). IsIn ms (map_of d)) (sym (maps_more pd x xs of_))
    (subst (λ (y : Derivation). IsIn (placed base_of (map_of x) (maps_of pd xs)) (map_of y)) e (placed_there base_of (map_of x) (maps_of pd xs) all))
maps_have pd (x ∷ xs) d apart (inr later) memory = elim (cases_Bool (is_memory_of pd x)) [
  | inl of_ ↦ subst (λ (ms : List Map). IsIn ms (map_of d)) (sym (maps_more pd x xs of_))
      (stays_placed base_of (map_of x) (map_of d) (maps_of pd xs) (maps_have pd xs d apart.1 later memory))
  | inr not_ ↦ subst (λ (ms : List Map). IsIn ms (map_of d)) (sym (maps_same pd x xs not_)) (maps_have pd xs d apart.1 later memory)
]

mapped : (list : List Derivation) (pd : ℕ) (m : Map) → IsFrom list pd m → IsMapped list pd m
mapped list pd m from =
    let parts = and_parts (is_memory from.derivation.kind) (from.derivation.pd == pd) from.memory in record {
      derivation = from.derivation;
      there = contains_from_in list from.derivation from.there;
      kind = kind_is from.derivation.kind parts.0;
      domain = eqb-true from.derivation.pd pd parts.1;
      from = ap (λ (m : Map). m.base) from.same;
      size = ap (λ (m : Map). m.order) from.same;
      may = ap (λ (m : Map). m.rights) from.same;
      leads = ap (λ (m : Map). m.frame) from.same;
    }

same_map : (list : List Derivation) (pd : ℕ) (m : Map) (is : IsMapped list pd m) → map_of is.derivation ≡ m
same_map list pd m is = λ i. record { base = is.from i; order = is.size i; rights = is.may i; frame = is.leads i }

-- rising lists have rising pairs
pub pairs_from : {T : Type 0} (key : T → ℕ) (xs : List T) → IsRising key xs → AllPairs (λ a b. key a < key b) xs
pairs_from key [] rising = λ i j d rises within. absurd (omega (arith, within))
pairs_from key (x ∷ xs) rising = AllPairs-cons (λ a b. key a < key b) x xs (All-from_recursion (λ y. key x < key y) xs rising.0) (pairs_from key xs rising.1)

maps_are : (pd : ℕ) (list : List Derivation) → ArePairs SameSpaceApart list → AreMapsOf list pd (maps_of pd list)
maps_are pd list apart = record {
  members = λ m. (
    λ c. mapped list pd m (maps_from pd list m (in_from_contains (maps_of pd list) m c)),
    λ is. contains_from_in (maps_of pd list) m (subst (IsIn (maps_of pd list)) (same_map list pd m is)
        (maps_have pd list is.derivation apart (in_from_contains list is.derivation is.there) (of_memory is.derivation pd is.kind is.domain))),
  );
  rising = pairs_from base_of (maps_of pd list) (rising_placed_all base_of (filter_map (map_in pd) list) [] tt);
}

pub view_maps : (k : KernelState) (g : ℕ) → IsSound k → AreMapsOf k.delegations.list (pd_of k g) (view k g).maps
view_maps k g sound = subst (AreMapsOf k.delegations.list (pd_of k g)) (sym (ap (λ (v : Guest). v.maps) (view_is k g)))
    (maps_are (pd_of k g) k.delegations.list sound.forest.apart)

-- ITS CELLS

cells_are : (maps : List Map) (ram : List (List ℕ)) → AreCellsOf maps ram (cells_of maps ram)
cells_are maps ram = record {
  covered = λ frame is. cell_of maps ram frame ∙ ap (λ (t : Bool). if t then slice_get ram frame else None) is;
  uncovered = λ frame is. cell_of maps ram frame ∙ ap (λ (t : Bool). if t then slice_get ram frame else None) is;
  rising = pairs_from frame_of (cells_of maps ram) (cells_rising maps 0 ram);
}

pub view_cells : (k : KernelState) (g : ℕ) → AreCellsOf (view k g).maps k.memory.ram (view k g).cells
view_cells k g = subst (λ (v : Guest). AreCellsOf v.maps k.memory.ram v.cells) (sym (view_is k g)) (cells_are (maps_at k g) k.memory.ram)
