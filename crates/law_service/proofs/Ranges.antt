-- A range that joins, and the bytes of the frames to which it leads.
use Rattle.std.proofs.Common.{arith, ◌≡◌, ◌<◌, ◌≤◌, ℕ, zero, suc, ◌+◌, ◌-◌, ◌^◌, ◌==◌, List, [], ◌∷◌, ◌++◌, length, take, drop, get_or, refl, sym, ap, ap₂, ◌∙◌, subst, inl, inr}
use Rattle.std.specs.Prelude.{Bool, true, false, ◌&&◌, not, max, nat_le, nat_lt, is_some, slice_get, option_map, option_and_then, Option, Some, None, if◌then◌else◌}
use Rattle.std.specs.List.{find, list_all}
use Rattle.std.proofs.lemmas.Bool.{and_parts, ne_eqb}
use Rattle.std.proofs.lemmas.Bool.Decides.{nat_tests}
use Rattle.std.proofs.lemmas.List.{get_or-take, get_or-drop}
use Rattle.std.proofs.lemmas.Option.{get_or_from_slice_get, same_Some}
use Rattle.nova_guest.specs.declared.page.Page.{Page}
use Rattle.nova_range.specs.declared.range.Kind.{Kind}
use Rattle.nova_range.specs.declared.range.Kind.TheVariants.{Mem}
use Rattle.nova_range.specs.Ranges.{end_of}
use Rattle.nova_model.specs.Delegations.{Delegations, covers, has_place, is_child_of, is_id, is_memory, is_same_kind, page_in, parent_of, range_of, reach}
use Rattle.nova_model.specs.Forest.{HasParentIn, IsChildless, IsForest}
use Rattle.nova_model.specs.Lines.{line, line_by}
use Rattle.nova_model.specs.declared.delegation.Derivation.{Derivation}
use Rattle.law_forest.proofs.Lines.{line_none}
use Rattle.law_forest.proofs.Members.{IsIn, all_at, all_from, found_in}
use Rattle.law_forest.proofs.Scopes.{find_more, more_keeps, parent_found}
use Rattle.law_flow.specs.Flow.{Held, held_by, origin_of}
use Rattle.law_flow.proofs.Giving.{find_joined}
use Rattle.law_flow.proofs.Holds.{IsTwin}
use Rattle.law_flow.proofs.Giving.{twin_covers}
use Rattle.law_flow.proofs.Origins.{or_else, origin_joined, origin_or}
use Rattle.law_flow.proofs.Seeing.{some_held}
use Rattle.law_flow.proofs.Sets.{line_alone, line_kept}
use Rattle.law_service.specs.Service.{bytes_of, is_foreign, is_led, laid_from, past_parent, past_parents}

-- A NUMBER OF WHICH NOTHING IS MADE

no_child : (n : ℕ) (o : Option ℕ) → past_parent o ≤ n → is_id n o ≡ false
no_child n None h = refl
no_child n (Some id) h = ne_eqb id n (λ e. omega (arith, e, h))

past_all : (list : List Derivation) (d : Derivation) → IsIn list d → past_parent d.parent ≤ past_parents list
past_all [] d i = absurd i
past_all (x ∷ list) d (inl same) = subst (λ (y : Derivation). past_parent y.parent ≤ max (past_parent x.parent) (past_parents list)) same (omega arith)
past_all (x ∷ list) d (inr i) = let rest = past_all list d i in omega (arith, rest)

pub past_childless : (list : List Derivation) → IsChildless list (past_parents list)
past_childless list = all_from (λ (d : Derivation). is_child_of (past_parents list) d ≡ false) list (λ d i. no_child (past_parents list) d.parent (past_all list d i))

-- WHAT IT COMES OF

abbrev pub itself_or_none : Bool → Held → Option Held
itself_or_none true h = Some h
itself_or_none false h = None

origin_first : (x : Derivation) (from : ℕ) (rest : List Derivation) → find (λ (a : Derivation). a.pd == from) rest ≡ None →
    ◌≡◌ {A = Option Held} (option_map held_by (find (λ (a : Derivation). a.pd == from) (x ∷ rest))) (itself_or_none (x.pd == from) (held_by x))
origin_first x from rest none = by_test (x.pd == from)
  where
    by_test : (t : Bool) → ◌≡◌ {A = Option Held} (option_map held_by (if t then Some x else find (λ (a : Derivation). a.pd == from) rest)) (itself_or_none t (held_by x))
    by_test true = refl
    by_test false = ap (option_map held_by) none

-- of nothing but itself, where it is made of nothing
pub root_origin : (list : List Derivation) (x : Derivation) (from : ℕ) → x.parent ≡ None → ◌≡◌ {A = Option Held} (origin_of list from (Some x)) (itself_or_none (x.pd == from) (held_by x))
root_origin list x from none = ap (λ (l : List Derivation). option_map held_by (find (λ (a : Derivation). a.pd == from) l)) (line_alone list x none) ∙ origin_first x from [] refl

none_foreign : (S : ℕ → Bool) (from : ℕ) → S from ≡ true → (ds : List Derivation) → list_all (λ (a : Derivation). not (S a.pd)) ds ≡ true → find (λ (a : Derivation). a.pd == from) ds ≡ None
none_foreign S from mine [] all = refl
none_foreign S from mine (d ∷ ds) all =
    let parts = and_parts (not (S d.pd)) (list_all (λ (a : Derivation). not (S a.pd)) ds) all in
    by_test (d.pd == from) refl parts.0 (none_foreign S from mine ds parts.1)
  where
    by_test : (t : Bool) → (d.pd == from) ≡ t → not (S d.pd) ≡ true → find (λ (a : Derivation). a.pd == from) ds ≡ None → (if t then Some d else find (λ (a : Derivation). a.pd == from) ds) ≡ None
    by_test false other foreign rest = rest
    by_test true same foreign rest =
        let one : d.pd ≡ from = grind (arith, same) in
        let false_true : not true ≡ true = ap not (sym (ap S one ∙ mine)) ∙ foreign in
        absurd (cc)

-- one that joins, and is no child of itself, has the line that it had
pub line_joined : (list : List Derivation) (x : Derivation) → IsChildless list x.id → is_child_of x.id x ≡ false → line (list ++ x ∷ []) x ≡ x ∷ line_by x.id list (parent_of list x)
line_joined list x childless other =
    ap (λ (o : Option Derivation). x ∷ line_by x.id (list ++ x ∷ []) o) same ∙ ap (λ (l : List Derivation). x ∷ l) (by_parent (parent_of list x) refl)
  where
    by_id : (o : Option ℕ) → x.parent ≡ o → option_and_then (λ (id : ℕ). find (λ (d : Derivation). d.id == id) (list ++ x ∷ [])) o ≡ option_and_then (λ (id : ℕ). find (λ (d : Derivation). d.id == id) list) o
    by_id None is = refl
    by_id (Some id) is =
        let away : (id == x.id) ≡ false = ap (is_id x.id) (sym is) ∙ other in
        find_more (λ (a : Derivation). a.id == id) list x (grind (arith, away))

    same : parent_of (list ++ x ∷ []) x ≡ parent_of list x
    same = by_id x.parent refl

    by_parent : (o : Option Derivation) → parent_of list x ≡ o → line_by x.id (list ++ x ∷ []) o ≡ line_by x.id list o
    by_parent None is = line_none x.id (list ++ x ∷ []) ∙ sym (line_none x.id list)
    by_parent (Some p) is = line_kept list (list ++ x ∷ []) (more_keeps list x childless) x.id p (parent_found list x p is).0

-- and of nothing of the side's but itself, where nothing of the side's is above it
pub foreign_origin : (S : ℕ → Bool) (list : List Derivation) (x : Derivation) (from : ℕ) → IsChildless list x.id → is_child_of x.id x ≡ false → is_foreign S list x ≡ true → S from ≡ true →
    ◌≡◌ {A = Option Held} (origin_of (list ++ x ∷ []) from (Some x)) (itself_or_none (x.pd == from) (held_by x))
foreign_origin S list x from childless other foreign mine =
    ap (λ (l : List Derivation). option_map held_by (find (λ (a : Derivation). a.pd == from) l)) (line_joined list x childless other)
    ∙ origin_first x from (line_by x.id list (parent_of list x)) (none_foreign S from mine (line_by x.id list (parent_of list x)) foreign)

-- what all comes of, where twins join that come of the same
pub joined_origins : (xs ys : List Derivation) (d e : Derivation) → IsChildless xs d.id → IsChildless ys e.id → IsTwin d e → (kind : Kind) (pd place from : ℕ) →
    ◌≡◌ {A = Option Held} (option_map held_by (find (covers kind pd place) ys)) (option_map held_by (find (covers kind pd place) xs)) →
    origin_of ys from (find (covers kind pd place) ys) ≡ origin_of xs from (find (covers kind pd place) xs) →
    origin_of (ys ++ e ∷ []) from (Some e) ≡ origin_of (xs ++ d ∷ []) from (Some d) →
    origin_of (ys ++ e ∷ []) from (find (covers kind pd place) (ys ++ e ∷ [])) ≡ origin_of (xs ++ d ∷ []) from (find (covers kind pd place) (xs ++ d ∷ []))
joined_origins xs ys d e first second t kind pd place from held origins new =
    ap (origin_of (ys ++ e ∷ []) from) (find_joined (covers kind pd place) ys e)
    ∙ origin_joined ys e (more_keeps ys e second) from (covers kind pd place e) (find (covers kind pd place) ys) (λ a is. (found_in (covers kind pd place) ys a is).0)
    ∙ ap₂ (λ (s u : Bool). origin_or s u (origin_of ys from (find (covers kind pd place) ys)) (origin_of (ys ++ e ∷ []) from (Some e))) (some_held (find (covers kind pd place) ys) (find (covers kind pd place) xs) held) (twin_covers kind pd place d e t)
    ∙ ap₂ (λ (o p : Option Held). origin_or (is_some (find (covers kind pd place) xs)) (covers kind pd place d) o p) origins new
    ∙ sym (ap (origin_of (xs ++ d ∷ []) from) (find_joined (covers kind pd place) xs d)
    ∙ origin_joined xs d (more_keeps xs d first) from (covers kind pd place d) (find (covers kind pd place) xs) (λ a is. (found_in (covers kind pd place) xs a is).0))

-- one that joins is no child of its own, as numbers of parents are less
pub no_own_child : (f : Delegations) → IsForest f → (x : Derivation) → IsIn f.list x → is_child_of x.id x ≡ false
no_own_child f forest x there = by_parent x.parent (all_at (λ b. HasParentIn f.list b b.parent) f.list x forest.parents there)
  where
    by_parent : (o : Option ℕ) → HasParentIn f.list x o → is_id x.id o ≡ false
    by_parent None h = refl
    by_parent (Some id) h =
        let older = h.3.older in
        let same : h.0.id ≡ id = h.2 in
        ne_eqb id x.id (λ e. omega arith)

-- BYTES

laid_at : (h : Held) (bytes : List (List ℕ)) (n : ℕ) (ram : List (List ℕ)) (i : ℕ) →
    slice_get (laid_from h bytes n ram) i ≡ option_map (λ (old : List ℕ). if is_led h (n + i) then get_or bytes (n + i - h.target) [] else old) (slice_get ram i)
laid_at h bytes n [] i = refl
laid_at h bytes n (old ∷ ram) zero = ap (λ (m : ℕ). Some (if is_led h m then get_or bytes (m - h.target) [] else old)) (omega arith)
laid_at h bytes n (old ∷ ram) (suc i) =
    laid_at h bytes (suc n) ram i
    ∙ ap (λ (m : ℕ). option_map (λ (o : List ℕ). if is_led h m then get_or bytes (m - h.target) [] else o) (slice_get ram i)) (omega arith)

pub laid_length : (h : Held) (bytes : List (List ℕ)) (n : ℕ) (ram : List (List ℕ)) → length (laid_from h bytes n ram) ≡ length ram
laid_length h bytes n [] = refl
laid_length h bytes n (old ∷ ram) = ap suc (laid_length h bytes (suc n) ram)

pub laid_get : (h : Held) (bytes : List (List ℕ)) (ram : List (List ℕ)) (i : ℕ) →
    slice_get (laid_from h bytes 0 ram) i ≡ option_map (λ (old : List ℕ). if is_led h i then get_or bytes (i - h.target) [] else old) (slice_get ram i)
laid_get h bytes ram i = laid_at h bytes 0 ram i ∙ ap (λ (m : ℕ). option_map (λ (o : List ℕ). if is_led h m then get_or bytes (m - h.target) [] else o) (slice_get ram i)) (omega arith)

led_bounds : (h : Held) (i : ℕ) → is_led h i ≡ true → (is_memory h.range.kind ≡ true) × (h.target ≤ i) × (i < h.target + 2 ^ h.range.order)
led_bounds h i led =
    let parts = and_parts (is_memory h.range.kind) (nat_le h.target i && nat_lt i (h.target + 2 ^ h.range.order)) led in
    let places = and_parts (nat_le h.target i) (nat_lt i (h.target + 2 ^ h.range.order)) parts.1 in
    (parts.0, grind (arith, nat_tests, places.0), grind (arith, nat_tests, places.1))

-- the bytes that are there are there still
pub laid_itself : (h : Held) (ram : List (List ℕ)) (i : ℕ) → slice_get (laid_from h (bytes_of ram h) 0 ram) i ≡ slice_get ram i
laid_itself h ram i = laid_get h (bytes_of ram h) ram i ∙ by_entry (slice_get ram i) refl
  where
    taken : (old : List ℕ) → slice_get ram i ≡ Some old → is_led h i ≡ true → get_or (bytes_of ram h) (i - h.target) [] ≡ old
    taken old is led =
        let b = led_bounds h i led in
        let low = b.1 in
        let high = b.2 in
        ap (λ (t : Bool). get_or (if t then take (2 ^ h.range.order) (drop h.target ram) else []) (i - h.target) []) b.0
        ∙ get_or-take (2 ^ h.range.order) (drop h.target ram) (i - h.target) [] (omega (arith, low, high))
        ∙ get_or-drop h.target ram (i - h.target) []
        ∙ ap (λ (m : ℕ). get_or ram m []) (omega (arith, low))
        ∙ get_or_from_slice_get ram i old [] is

    by_test : (old : List ℕ) → slice_get ram i ≡ Some old → (t : Bool) → is_led h i ≡ t → Some (if t then get_or (bytes_of ram h) (i - h.target) [] else old) ≡ Some old
    by_test old is true led = ap (λ (bs : List ℕ). Some bs) (taken old is led)
    by_test old is false led = refl

    by_entry : (o : Option (List ℕ)) → slice_get ram i ≡ o → option_map (λ (old : List ℕ). if is_led h i then get_or (bytes_of ram h) (i - h.target) [] else old) o ≡ o
    by_entry None is = refl
    by_entry (Some old) is = by_test old is (is_led h i) refl

there_too : (ram other : List (List ℕ)) → length other ≡ length ram → (i : ℕ) → is_some (slice_get other i) ≡ is_some (slice_get ram i)
there_too [] [] size i = refl
there_too [] (y ∷ ys) size i = absurd (cc)
there_too (x ∷ xs) [] size i = absurd (cc)
there_too (x ∷ xs) (y ∷ ys) size zero = refl
there_too (x ∷ xs) (y ∷ ys) size (suc i) = there_too xs ys (omega (arith, size)) i

laid_there : (h : Held) (bytes ram other : List (List ℕ)) → length other ≡ length ram → (i : ℕ) → is_led h i ≡ true → slice_get (laid_from h bytes 0 other) i ≡ slice_get (laid_from h bytes 0 ram) i
laid_there h bytes ram other size i led = laid_get h bytes other i ∙ by_entries (slice_get other i) (slice_get ram i) (there_too ram other size i) ∙ sym (laid_get h bytes ram i)
  where
    by_entries : (o p : Option (List ℕ)) → is_some o ≡ is_some p →
        option_map (λ (old : List ℕ). if is_led h i then get_or bytes (i - h.target) [] else old) o ≡ option_map (λ (old : List ℕ). if is_led h i then get_or bytes (i - h.target) [] else old) p
    by_entries None None same = refl
    by_entries None (Some y) same = absurd (cc)
    by_entries (Some x) None same = absurd (cc)
    by_entries (Some x) (Some y) same =
        ap (λ (t : Bool). Some (if t then get_or bytes (i - h.target) [] else x)) led ∙ sym (ap (λ (t : Bool). Some (if t then get_or bytes (i - h.target) [] else y)) led)

-- a page of the range leads to one of its frames
page_led : (x : Derivation) (pd page : ℕ) → covers Mem pd page x ≡ true → is_led (held_by x) (page_in page x).frame ≡ true
page_led x pd page is =
    let parts = and_parts (is_same_kind Mem x.kind) ((x.pd == pd) && has_place (range_of x) page) is in
    let rest = and_parts (x.pd == pd) (has_place (range_of x) page) parts.1 in
    let places = and_parts (nat_le x.base page) (nat_lt page (end_of (range_of x))) rest.1 in
    let low : x.base ≤ page = grind (arith, nat_tests, places.0) in
    let high : page < x.base + 2 ^ x.order = grind (arith, nat_tests, places.1) in
    let first : nat_le x.target (x.target + (page - x.base)) ≡ true = grind (arith, nat_tests) in
    let bound : x.target + (page - x.base) < x.target + 2 ^ x.order = omega (arith, low, high) in
    let last : nat_lt (x.target + (page - x.base)) (x.target + 2 ^ x.order) ≡ true = grind (arith, nat_tests, bound) in
    ap₂ (λ (s t : Bool). s && t) parts.0 (ap₂ (λ (s t : Bool). s && t) first last)

-- and where frames to which pages led have the same bytes, so have those to which they lead then
pub laid_same : (xs : List Derivation) (x : Derivation) (bytes ram other : List (List ℕ)) → length other ≡ length ram → (pd page : ℕ) (to : Page) →
    (reach xs pd page ≡ Some to → slice_get other to.frame ≡ slice_get ram to.frame) → reach (xs ++ x ∷ []) pd page ≡ Some to →
    slice_get (laid_from (held_by x) bytes 0 other) to.frame ≡ slice_get (laid_from (held_by x) bytes 0 ram) to.frame
laid_same xs x bytes ram other size pd page to same leads =
    by_found (find (covers Mem pd page) xs) refl (covers Mem pd page x) refl (sym (ap (option_map (page_in page)) (find_joined (covers Mem pd page) xs x)) ∙ leads)
  where
    by_found : (o : Option Derivation) → find (covers Mem pd page) xs ≡ o → (t : Bool) → covers Mem pd page x ≡ t → option_map (page_in page) (or_else o t x) ≡ Some to →
        slice_get (laid_from (held_by x) bytes 0 other) to.frame ≡ slice_get (laid_from (held_by x) bytes 0 ram) to.frame
    by_found (Some d) at t is h =
        laid_get (held_by x) bytes other to.frame
        ∙ ap (option_map (λ (old : List ℕ). if is_led (held_by x) to.frame then get_or bytes (to.frame - x.target) [] else old)) (same (ap (option_map (page_in page)) at ∙ h))
        ∙ sym (laid_get (held_by x) bytes ram to.frame)
    by_found None at true is h =
        laid_there (held_by x) bytes ram other size to.frame (subst (λ (p : Page). is_led (held_by x) p.frame ≡ true) (same_Some (page_in page x) to h) (page_led x pd page is))
    by_found None at false is h = absurd (cc)
