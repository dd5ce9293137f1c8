-- What was read at addresses stays as it is, until something is stored there.
use Rattle.std.proofs.Common.{inl, inr, ◌≡◌, ◌≢◌, ◌⊎◌, ◌<◌, ◌≤◌, ℕ, zero, suc, ◌+◌, ◌/◌, ◌%◌, ◌^◌, List, [], ◌∷◌, length, replicate, ap, sym, ◌∙◌, subst, refl, arith}
use Rattle.std.specs.Prelude.{Option, Some, None, option_map, slice_get, slice_set}
use Rattle.std.proofs.lemmas.Bool.{cases_eq}
use Rattle.std.proofs.lemmas.Option.{same_Some}
use Rattle.nova_guest.specs.Conditions.{IsWidth}
use Rattle.nova_range.specs.Rights.{execute_right}
use Rattle.nova_model.specs.Memory.{Memory, read, written, written_in}
use Rattle.nova_model.specs.declared.delegation.Derivation.{Derivation}
use Rattle.nova_frames.specs.Store.{AreApart, AreWhole}
use Rattle.nova_memory.specs.Reach.{ReachState}
use Rattle.nova_memory.specs.Recalled.{AreLeft, AreRecalled, IsReadAt, LiesAt, StandsAt}
use Rattle.nova_memory.specs.declared.stepping.Recalled.{Recalled}
use Rattle.nova_memory.specs.declared.stepping.Slot.{Slot}
use Rattle.nova_memory.proofs.Placed.{AreFoundStill}
use Rattle.nova_memory.proofs.Recents.{hit, leads_still}

-- PLACES

pub set_or : {T : Type 0} (xs : List T) (n : ℕ) (v : T) (i : ℕ) (x : T) → slice_get (slice_set xs n v) i ≡ Some x → ((i ≡ n) × (v ≡ x)) ⊎ (slice_get xs i ≡ Some x)
set_or [] n v i x h = absurd (cc)
set_or (y ∷ xs) zero v zero x h = inl (refl, same_Some v x h)
set_or (y ∷ xs) zero v (suc i) x h = inr h
set_or (y ∷ xs) (suc n) v zero x h = inr h
set_or (y ∷ xs) (suc n) v (suc i) x h = elim (set_or xs n v i x h) [
  | inl here ↦ inl (ap suc here.0, here.1)
  | inr other ↦ inr other
]

each_is : (n : ℕ) (v : Slot) (i : ℕ) (x : Slot) → slice_get (replicate n v) i ≡ Some x → v ≡ x
each_is zero v i x at = absurd (cc)
each_is (suc n) v zero x at = same_Some v x at
each_is (suc n) v (suc i) x at = each_is n v i x at

below : {T : Type 0} (xs : List T) (n : ℕ) (y : T) → slice_get xs n ≡ Some y → n < length xs
below [] n y h = absurd (cc)
below (x ∷ xs) zero y h = omega arith
below (x ∷ xs) (suc n) y h = let less = below xs n y h in omega (arith, less)

-- no protection domain has the scope of none
no_scope : (scope base pd : ℕ) → 0 < base → scope ≡ 0 → scope ≡ base + pd → ⊥
no_scope scope base pd began zeroth is = omega (arith, began, zeroth, is)

-- WHAT IS REMEMBERED

-- nothing at first
pub none_recalled : (list : List Derivation) (memory : Memory) (n base : ℕ) (v : Slot) → 0 < base → base + 2 ^ 32 ≤ 2 ^ 64 → v.scope ≡ 0 →
    AreRecalled list memory (record { base = base; slots = replicate n v })
none_recalled list memory n base v began room zeroth = record {
  began = began;
  room = room;
  before = λ i x at. let e = ap (λ (y : Slot). y.scope) (each_is n v i x at) in omega (arith, e, zeroth, began);
  each = λ i pd x at is. absurd (no_scope x.scope base pd began (sym (ap (λ (y : Slot). y.scope) (each_is n v i x at)) ∙ zeroth) is);
}

-- one more
module _ (list : List Derivation) (memory : Memory) (r : Recalled) (v : Slot) (pd n : ℕ) (place : n ≡ v.address / 4 % 1024) (low : pd < 2 ^ 32) (scope : v.scope ≡ r.base + pd)
    (are : AreRecalled list memory r) (lies : LiesAt list memory pd v.address v.frame v.reading.word) where
  here : (i other : ℕ) (x : Slot) → i ≡ n → v ≡ x → x.scope ≡ r.base + other → StandsAt list memory other i x
  here i other x at is its =
      let same : pd ≡ other = (let e = ap (λ (y : Slot). y.scope) is in omega (arith, e, scope, its)) in
      subst (λ (p : ℕ). StandsAt list memory p i x) same (subst (λ (y : Slot). StandsAt list memory pd i y) is (record { place = sym (at ∙ place); lies = lies }))

  pub learned : AreRecalled list memory (record r { slots = slice_set r.slots n v })
  learned = record {
    began = are.began;
    room = are.room;
    before = λ i x at. elim (set_or r.slots n v i x at) [
      | inl new ↦ (let e = ap (λ (y : Slot). y.scope) new.1 in omega (arith, e, scope, low))
      | inr old ↦ are.before i x old
    ];
    each = λ i other x at its. elim (set_or r.slots n v i x at) [
      | inl new ↦ here i other x new.0 new.1 its
      | inr old ↦ are.each i other x old its
    ];
  }

-- what is found still
pub recalled_still : (old new : List Derivation) (memory : Memory) (r : Recalled) → AreFoundStill old new → AreRecalled old memory r → AreRecalled new memory r
recalled_still old new memory r still are = record {
  began = are.began;
  room = are.room;
  before = are.before;
  each = λ i pd x at its.
      let stands = are.each i pd x at its in record {
        place = stands.place;
        lies = record {
          aligned = stands.lies.aligned;
          leads = leads_still old new pd execute_right (record { page = x.address / 4096; frame = x.frame }) still stands.lies.leads;
          there = stands.lies.there;
        };
      };
}

-- what is found there
pub found : (s : ReachState) (r : Recalled) (pd address : ℕ) (x : Slot) → address < 2 ^ 32 → AreRecalled s.nodes.delegations.list s.memory r → s.pd ≡ pd →
    slice_get r.slots (address / 4 % 1024) ≡ Some x → x.address ≡ address → x.scope ≡ r.base + pd → IsReadAt s address x.reading.word
found s r pd address x low are domain at here scope =
    let stands = are.each (address / 4 % 1024) s.pd x at (scope ∙ ap (λ (p : ℕ). r.base + p) (sym domain)) in
    subst (λ (a : ℕ). IsReadAt s a x.reading.word) here (is_read s x.address x.frame x.reading.word (subst (λ (a : ℕ). a < 2 ^ 32) (sym here) low) stands.lies)
  where
    is_read : (s : ReachState) (address frame word : ℕ) → address < 2 ^ 32 → LiesAt s.nodes.delegations.list s.memory s.pd address frame word → IsReadAt s address word
    is_read s address frame word low lies = record {
      aligned = lies.aligned;
      there = ap (option_map (λ (f : ℕ). read s.memory f (address % 4096) 4))
          (hit s execute_right address (record { page = address / 4096; frame = frame }) low refl (λ _. lies.leads)) ∙ ap Some lies.there;
    }

-- A STORE ELSEWHERE

apart_one : (a b : ℕ) → a % 4 ≡ 0 → a / 4 ≢ b / 4 → (a + 4 ≤ b) ⊎ (b + 1 ≤ a)
apart_one a b h ne = grind arith

apart_two : (a b : ℕ) → a % 4 ≡ 0 → b % 2 ≡ 0 → a / 4 ≢ b / 4 → (a + 4 ≤ b) ⊎ (b + 2 ≤ a)
apart_two a b h g ne = grind arith

apart_four : (a b : ℕ) → a % 4 ≡ 0 → b % 4 ≡ 0 → a / 4 ≢ b / 4 → (a + 4 ≤ b) ⊎ (b + 4 ≤ a)
apart_four a b h g ne = grind arith

-- another word lies apart, and what is stored lies within its frame
pub apart_of : (a b w : ℕ) → a % 4 ≡ 0 → IsWidth w → b % w ≡ 0 → a / 4 ≢ b / 4 → (a + 4 ≤ b) ⊎ (b + w ≤ a)
apart_of a b w h (inl e) aligned ne = subst (λ (n : ℕ). (a + 4 ≤ b) ⊎ (b + n ≤ a)) (sym e) (apart_one a b h ne)
apart_of a b w h (inr (inl e)) aligned ne = subst (λ (n : ℕ). (a + 4 ≤ b) ⊎ (b + n ≤ a)) (sym e) (apart_two a b h (ap (λ (n : ℕ). b % n) (sym e) ∙ aligned) ne)
apart_of a b w h (inr (inr e)) aligned ne = subst (λ (n : ℕ). (a + 4 ≤ b) ⊎ (b + n ≤ a)) (sym e) (apart_four a b h (ap (λ (n : ℕ). b % n) (sym e) ∙ aligned) ne)

ends_within : (b w : ℕ) → IsWidth w → b % w ≡ 0 → b % 4096 + w ≤ 4096
ends_within b w (inl e) aligned = omega (arith, e)
ends_within b w (inr (inl e)) aligned = let g : b % 2 ≡ 0 = ap (λ (n : ℕ). b % n) (sym e) ∙ aligned in omega (arith, e, g)
ends_within b w (inr (inr e)) aligned = let g : b % 4 ≡ 0 = ap (λ (n : ℕ). b % n) (sym e) ∙ aligned in omega (arith, e, g)

in_page : (b w : ℕ) → IsWidth w → b % w ≡ 0 → b % 4096 % w ≡ 0
in_page b w (inl e) aligned = subst (λ (n : ℕ). b % 4096 % n ≡ 0) (sym e) (omega arith)
in_page b w (inr (inl e)) aligned = let g : b % 2 ≡ 0 = ap (λ (n : ℕ). b % n) (sym e) ∙ aligned in subst (λ (n : ℕ). b % 4096 % n ≡ 0) (sym e) (omega (arith, g))
in_page b w (inr (inr e)) aligned = let g : b % 4 ≡ 0 = ap (λ (n : ℕ). b % n) (sym e) ∙ aligned in subst (λ (n : ℕ). b % 4096 % n ≡ 0) (sym e) (omega (arith, g))

word_in_page : (n : ℕ) → n % 4096 / 4 ≡ n / 4 % 1024
word_in_page n = omega arith

aligned_in_page : (n : ℕ) → n % 4 ≡ 0 → n % 4096 % 4 ≡ 0
aligned_in_page n h = omega arith

apart_by_place : (x y w : ℕ) → x % 4 ≡ 0 → IsWidth w → y % w ≡ 0 → x / 4 % 1024 ≢ y / 4 % 1024 → (x % 4096 + 4 ≤ y % 4096) ⊎ (y % 4096 + w ≤ x % 4096)
apart_by_place x y w h width aligned ne =
    apart_of (x % 4096) (y % 4096) w (aligned_in_page x h) width (in_page y w width aligned) (λ e. ne (sym (word_in_page x) ∙ (e ∙ word_in_page y)))

-- a store leaves what lies apart from its place
abbrev pub LeavesOthers : Type 0
LeavesOthers = (m : Memory) (frame offset width value other place count : ℕ) → AreWhole m.ram → frame < length m.ram → offset + width ≤ 4096 →
    AreApart frame offset width other place count → read (written m frame offset width value) other place count ≡ read m other place count

-- a store to a console leaves all frames of RAM
still_read : (leaves : LeavesOthers) (m : Memory) (frame o w v f p : ℕ) → AreWhole m.ram → o + w ≤ 4096 → AreApart frame o w f p 4 → (b : Option (List ℕ)) → slice_get m.ram frame ≡ b →
    read (written_in m b frame o w v) f p 4 ≡ read m f p 4
still_read leaves m frame o w v f p whole within apart None is = refl
still_read leaves m frame o w v f p whole within apart (Some bytes) is =
    ap (λ (b : Option (List ℕ)). read (written_in m b frame o w v) f p 4) (sym is) ∙ leaves m frame o w v f p 4 whole (below m.ram frame bytes is) within apart

module _ (leaves : LeavesOthers) (list : List Derivation) (m : Memory) (old new : Recalled) (frame address w v : ℕ) (width : IsWidth w) (aligned : address % w ≡ 0) (whole : AreWhole m.ram)
    (are : AreRecalled list m old) (left : AreLeft old new frame (address / 4 % 1024)) where
  still_stands : (pd i : ℕ) (x : Slot) → (i ≡ address / 4 % 1024 → x.frame ≢ frame) → StandsAt list m pd i x → StandsAt list (written m frame (address % 4096) w v) pd i x
  still_stands pd i x apart stands = record {
    place = stands.place;
    lies = record {
      aligned = stands.lies.aligned;
      leads = stands.lies.leads;
      there = still_read leaves m frame (address % 4096) w v x.frame (x.address % 4096) whole (ends_within address w width aligned) (by_place (cases_eq i (address / 4 % 1024)))
          (slice_get m.ram frame) refl ∙ stands.lies.there;
    };
  }
    where
      by_place : (i ≡ address / 4 % 1024) ⊎ (i ≢ address / 4 % 1024) → AreApart frame (address % 4096) w x.frame (x.address % 4096) 4
      by_place (inl e) = inl (apart e)
      by_place (inr ne) = inr (apart_by_place x.address address w stands.lies.aligned width aligned (λ e. ne (sym stands.place ∙ e)))

  pub stored : AreRecalled list (written m frame (address % 4096) w v) new
  stored = record {
    began = subst (λ (n : ℕ). 0 < n) (sym left.base) are.began;
    room = subst (λ (n : ℕ). n + 2 ^ 32 ≤ 2 ^ 64) (sym left.base) are.room;
    before = λ i x at. subst (λ (n : ℕ). x.scope < n + 2 ^ 32) (sym left.base) (elim (left.each i x at) [
      | inl gone ↦ (let b = are.began in omega (arith, gone, b))
      | inr kept ↦ are.before i x kept.0
    ]);
    each = λ i pd x at its.
        let scope : x.scope ≡ old.base + pd = its ∙ ap (λ (n : ℕ). n + pd) left.base in
        elim (left.each i x at) [
          | inl gone ↦ absurd (no_scope x.scope old.base pd are.began gone scope)
          | inr kept ↦ still_stands pd i x kept.1 (are.each i pd x kept.0 scope)
        ];
  }
