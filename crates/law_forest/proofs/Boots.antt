-- The boot state is a forest.
use Rattle.std.proofs.lemmas.List.{length-append}
use Rattle.nova_objects.specs.declared.object.Object.TheVariants.{Sm}
use Rattle.nova_model.specs.Sources.{Source, with_source, with_sources}
use Rattle.std.proofs.Common.{◌≡◌, ℕ, zero, suc, ◌+◌, ◌^◌, ◌%◌, ◌<◌, ◌≤◌, List, [], ◌∷◌, ◌++◌, ap, ap₂, sym, ◌∙◌, subst, refl, arith, length}
use Rattle.std.specs.Prelude.{Bool, true, false, ◌==◌, ◌&&◌, nat_lt, nat_le, map, None}
use Rattle.std.specs.List.{AllByRecursion, range_with_len}
use Rattle.std.proofs.lemmas.Bool.{eq-eqb}
use Rattle.std.proofs.lemmas.List.FromFn.{map-range_with_len_more}
use Rattle.nova_objects.specs.declared.object.Object.{Object}
use Rattle.nova_range.specs.declared.range.Kind.{Kind}
use Rattle.nova_range.specs.declared.range.Kind.TheVariants.{Mem, Obj}
use Rattle.nova_model.specs.Boot.{Scenario, Image, boot, with_image, with_images, bare, ram_derivation, console_derivation, object_derivation, root_derivations}
use Rattle.nova_model.specs.Capabilities.{is_held}
use Rattle.nova_model.specs.Creation.{root_capability, object_of}
use Rattle.nova_model.specs.Delegations.{Delegations, range_of, has_place, covers, added}
use Rattle.nova_model.specs.Forest.{AreApart, IsForest, IsFitting}
use Rattle.nova_model.specs.State.{KernelState}
use Rattle.nova_model.specs.declared.delegation.Derivation.{Derivation}
use Rattle.nova_model.specs.declared.new_object.NewObject.TheVariants as new
use Rattle.nova_model.specs.declared.root.Root.{Root}
use Rattle.law_forest.proofs.Forests.{forest_add}
use Rattle.law_forest.proofs.Members.{all_more, all_weaker, none_found}
use Rattle.law_forest.proofs.Transfers.{kind_itself}

-- of two derivations one ends before the other begins
begins_last : (a b : Derivation) → a.base + 2 ^ a.order ≤ b.base → AreApart a b
begins_last a b before = grind (arith, before)

-- a derivation that does not cover a selector is apart from one of that selector alone
uncovered_apart : (a x : Derivation) → x.order ≡ 0 → covers x.kind x.pd x.base a ≡ false → a.pd ≡ x.pd → a.kind ≡ x.kind → AreApart a x
uncovered_apart a x order free pd kind =
    let not_there : has_place (range_of a) x.base ≡ false =
    ap (λ (b : Bool). b && has_place (range_of a) x.base) (sym (eq-eqb a.pd x.pd pd)) ∙
    ap (λ (b : Bool). b && (a.pd == x.pd && has_place (range_of a) x.base)) (sym (kind_itself x.kind a.kind (sym kind))) ∙ free in
    let one : 2 ^ x.order ≡ 1 = ap (λ (n : ℕ). 2 ^ n) order in
    by_order (nat_le a.base x.base) refl (nat_lt x.base (a.base + 2 ^ a.order)) refl one not_there
  where
    by_order : (b : Bool) → nat_le a.base x.base ≡ b → (e : Bool) → nat_lt x.base (a.base + 2 ^ a.order) ≡ e →
        2 ^ x.order ≡ 1 → has_place (range_of a) x.base ≡ false → AreApart a x
    by_order false below e end one h = grind arith
    by_order true below false end one h = grind arith
    by_order true below true end one h = absurd (grind arith)

one_more : (n : ℕ) → n % 1 ≡ 0
one_more n = omega arith

-- a capability without a parent, at a selector that nothing covers
pub capability_fits : (f : Delegations) (x : Derivation) → x.id ≡ f.next → x.parent ≡ None → x.kind ≡ Obj → x.order ≡ 0 →
    AllByRecursion (λ a. covers Obj x.pd x.base a ≡ false) f.list → IsFitting f x
capability_fits f x id parent kind order free = record {
  id = id;
  aligned = record { base = rw order (one_more x.base); target = rw kind order };
  parent = rw parent tt;
  apart = all_weaker (λ a. covers Obj x.pd x.base a ≡ false) (λ a. a.pd ≡ x.pd → a.kind ≡ x.kind → AreApart a x) f.list
      (λ a h pd same. uncovered_apart a x order (ap (λ (s : Kind). covers s x.pd x.base a) kind ∙ h) pd same) free;
}

-- that of a new object, at a selector that is not held
pub root_fits : (k : KernelState) (pd selector : ℕ) (object : Object) → is_held k pd selector ≡ false → IsFitting k.delegations (root_capability k pd selector object)
root_fits k pd selector object free =
    capability_fits k.delegations (root_capability k pd selector object) refl refl refl refl (none_found (covers Obj pd selector) k.delegations.list free)

-- what holds of each console from c on
all_consoles : (Q : Derivation → Type 0) (order c n : ℕ) → ((j : ℕ) → c ≤ j → j < c + n → Q (console_derivation order j)) →
    AllByRecursion Q (map (console_derivation order) (range_with_len c n))
all_consoles Q order c zero h = tt
all_consoles Q order c (suc n) h = (h c (omega arith) (omega arith), all_consoles Q order (c + 1) n (λ j from to. h j (omega arith) (omega arith)))

none_left : (n : ℕ) → 0 % n ≡ 0
none_left n = grind arith

-- RAM, and then each console, fits what is there before it
abbrev pub nothing : Delegations
nothing = record { list = []; next = 0 }

abbrev pub pages : ℕ → ℕ → Delegations
pages order consoles = record { list = ram_derivation order ∷ map (console_derivation order) (range_with_len 0 consoles); next = 1 + consoles }

pub ram_fits : (order : ℕ) → IsFitting nothing (ram_derivation order)
ram_fits order = record {
  id = refl;
  aligned = record { base = none_left (2 ^ order); target = none_left (2 ^ order) };
  parent = tt;
  apart = tt;
}

pub console_fits : (order c : ℕ) → IsFitting (pages order c) (console_derivation order c)
console_fits order c = record {
  id = refl;
  aligned = record { base = omega arith; target = omega arith };
  parent = tt;
  apart = (
    λ pd kind. begins_last (ram_derivation order) (console_derivation order c) (omega arith),
    all_consoles (λ a. a.pd ≡ 0 → a.kind ≡ Mem → AreApart a (console_derivation order c)) order 0 c
        (λ j from to pd kind. begins_last (console_derivation order j) (console_derivation order c) (omega arith)),
  );
}

-- one console more is at the end
pub pages_more : (order c : ℕ) → pages order (c + 1) ≡ added (pages order c) (console_derivation order c)
pages_more order c =
    let last : 0 + c ≡ c = omega arith in
    let list = map-range_with_len_more (console_derivation order) 0 c c last in
    let next : 1 + (c + 1) ≡ 1 + c + 1 = omega arith in
    ap₂ (λ (l : List Derivation) (n : ℕ). record { list = ram_derivation order ∷ l; next = n }) list next

pages_forest : (order consoles : ℕ) → IsForest (pages order consoles)
pages_forest order zero = forest_add nothing (ram_derivation order) (record { rising = tt; numbered = tt; aligned = tt; parents = tt; apart = tt }) (ram_fits order)
pages_forest order (suc c) =
    let more : suc c ≡ c + 1 = omega arith in
    subst IsForest (sym (ap (pages order) more ∙ pages_more order c)) (forest_add (pages order c) (console_derivation order c) (pages_forest order c) (console_fits order c))

-- no page covers a selector
pages_uncovered : (order consoles selector : ℕ) → AllByRecursion (λ a. covers Obj 0 selector a ≡ false) (pages order consoles).list
pages_uncovered order consoles selector = (refl, all_consoles (λ a. covers Obj 0 selector a ≡ false) order 0 consoles (λ j from to. refl))

-- then the capabilities of the protection domain, the execution context and the scheduling context
abbrev pub with_pd : ℕ → ℕ → Delegations
with_pd order consoles = added (pages order consoles) (object_derivation consoles 0 1)

abbrev pub with_ec : ℕ → ℕ → Delegations
with_ec order consoles = added (with_pd order consoles) (object_derivation consoles 1 7)

abbrev pub with_sc : ℕ → ℕ → Delegations
with_sc order consoles = added (with_ec order consoles) (object_derivation consoles 2 1)

with_pd_uncovered : (order consoles selector : ℕ) → covers Obj 0 selector (object_derivation consoles 0 1) ≡ false →
    AllByRecursion (λ a. covers Obj 0 selector a ≡ false) (with_pd order consoles).list
with_pd_uncovered order consoles selector h =
    all_more (λ a. covers Obj 0 selector a ≡ false) (pages order consoles).list (object_derivation consoles 0 1) (pages_uncovered order consoles selector) h

pub pd_fits : (order consoles : ℕ) → IsFitting (pages order consoles) (object_derivation consoles 0 1)
pd_fits order consoles = capability_fits (pages order consoles) (object_derivation consoles 0 1) (omega arith) refl refl refl (pages_uncovered order consoles 0)

pub ec_fits : (order consoles : ℕ) → IsFitting (with_pd order consoles) (object_derivation consoles 1 7)
ec_fits order consoles = capability_fits (with_pd order consoles) (object_derivation consoles 1 7) (omega arith) refl refl refl (with_pd_uncovered order consoles 1 refl)

pub sc_fits : (order consoles : ℕ) → IsFitting (with_ec order consoles) (object_derivation consoles 2 1)
sc_fits order consoles =
    capability_fits (with_ec order consoles) (object_derivation consoles 2 1) (omega arith) refl refl refl
    (all_more (λ a. covers Obj 0 2 a ≡ false) (with_pd order consoles).list (object_derivation consoles 1 7) (with_pd_uncovered order consoles 2 refl) refl)

-- these are all
joined : (xs : List Derivation) (a b c : Derivation) → ((xs ++ a ∷ []) ++ b ∷ []) ++ c ∷ [] ≡ xs ++ a ∷ b ∷ c ∷ []
joined [] a b c = refl
joined (x ∷ xs) a b c = ap (λ (l : List Derivation). x ∷ l) (joined xs a b c)

pub with_sc_is_all : (order consoles : ℕ) → with_sc order consoles ≡ record { list = root_derivations order consoles; next = consoles + 4 }
with_sc_is_all order consoles =
    let next : 1 + consoles + 1 + 1 + 1 ≡ consoles + 4 = omega arith in
    ap₂ (λ (l : List Derivation) (n : ℕ). record { list = l; next = n })
    (joined (pages order consoles).list (object_derivation consoles 0 1) (object_derivation consoles 1 7) (object_derivation consoles 2 1)) next

-- the state without images, and the state with them
pub bare_forest : (cpus ram consoles : ℕ) (root : Root) → IsForest (bare cpus ram consoles root).delegations
bare_forest cpus ram consoles root =
    let first = forest_add (pages ram consoles) (object_derivation consoles 0 1) (pages_forest ram consoles) (pd_fits ram consoles) in
    let second = forest_add (with_pd ram consoles) (object_derivation consoles 1 7) first (ec_fits ram consoles) in
    subst IsForest (with_sc_is_all ram consoles) (forest_add (with_ec ram consoles) (object_derivation consoles 2 1) second (sc_fits ram consoles))

-- images leave delegations
pub with_images_delegations : (k : KernelState) (images : List Image) → (with_images k images).delegations ≡ k.delegations
with_images_delegations k [] = refl
with_images_delegations k (image ∷ images) = with_images_delegations (with_image k image) images

-- what sources keep holds after all of them
pub sources_keep : (P : KernelState → Type 0) → ((k : KernelState) (s : Source) → P k → P (with_source k s)) → (k : KernelState) (sources : List Source) → P k → P (with_sources k sources)
sources_keep P keeps k [] h = h
sources_keep P keeps k (s ∷ sources) h = sources_keep P keeps (with_source k s) sources (keeps k s h)

-- the root holds no selector from the number of objects on
pub record IsRooted (k : KernelState) : Type 0 where
  pub forest : IsForest k.delegations
  pub free : AllByRecursion (λ a. (n : ℕ) → length k.objects ≤ n → covers Obj 0 n a ≡ false) k.delegations.list

object_ends : (m n : ℕ) → m + 1 ≤ n → (nat_le m n && nat_lt n (m + 1)) ≡ false
object_ends m n past = grind arith

pub source_rooted : (k : KernelState) (s : Source) → IsRooted k → IsRooted (with_source k s)
source_rooted k s h =
    let c = root_capability k 0 (length k.objects) (object_of (new.Sm 0)) in
    let more : length (k.objects ++ Sm ∷ []) ≡ length k.objects + 1 = length-append k.objects (Sm ∷ []) in record {
      forest = forest_add k.delegations c h.forest (capability_fits k.delegations c refl refl refl refl
          (all_weaker (λ a. (n : ℕ) → length k.objects ≤ n → covers Obj 0 n a ≡ false) (λ a. covers Obj 0 (length k.objects) a ≡ false) k.delegations.list
          (λ a free. free (length k.objects) (omega arith)) h.free));
      free = all_more (λ a. (n : ℕ) → length (k.objects ++ Sm ∷ []) ≤ n → covers Obj 0 n a ≡ false) k.delegations.list c
          (all_weaker (λ a. (n : ℕ) → length k.objects ≤ n → covers Obj 0 n a ≡ false) (λ a. (n : ℕ) → length (k.objects ++ Sm ∷ []) ≤ n → covers Obj 0 n a ≡ false) k.delegations.list
          (λ a free n past. free n (omega (arith, past, more))) h.free)
          (λ n past. object_ends (length k.objects) n (omega (arith, past, more)));
    }

object_past : (consoles object rights n : ℕ) → object < 3 → 3 ≤ n → covers Obj 0 n (object_derivation consoles object rights) ≡ false
object_past consoles object rights n one past = object_ends object n (omega (arith, one, past))

pub both_all : {T : Type 0} (P : T → Type 0) (xs ys : List T) → AllByRecursion P xs → AllByRecursion P ys → AllByRecursion P (xs ++ ys)
both_all P [] ys first others = others
both_all P (x ∷ xs) ys first others = (first.0, both_all P xs ys first.1 others)

bare_free : (cpus ram consoles : ℕ) (root : Root) → AllByRecursion (λ a. (n : ℕ) → 3 ≤ n → covers Obj 0 n a ≡ false) (root_derivations ram consoles)
bare_free cpus ram consoles root =
    both_all (λ a. (n : ℕ) → 3 ≤ n → covers Obj 0 n a ≡ false) (pages ram consoles).list
    (object_derivation consoles 0 1 ∷ object_derivation consoles 1 7 ∷ object_derivation consoles 2 1 ∷ [])
    (λ n past. refl, all_consoles (λ a. (n : ℕ) → 3 ≤ n → covers Obj 0 n a ≡ false) ram 0 consoles (λ j from to n past. refl))
    (λ n past. object_past consoles 0 1 n (omega arith) past, (λ n past. object_past consoles 1 7 n (omega arith) past, (λ n past. object_past consoles 2 1 n (omega arith) past, tt)))

images_rooted : (k : KernelState) (images : List Image) → IsRooted k → IsRooted (with_images k images)
images_rooted k [] h = h
images_rooted k (image ∷ images) h = images_rooted (with_image k image) images (record { forest = h.forest; free = h.free })

pub boot_rooted : (s : Scenario) → IsRooted (boot s)
boot_rooted s =
    sources_keep IsRooted source_rooted (with_images (bare s.cpus s.ram s.consoles s.root) s.images) s.sources
    (images_rooted (bare s.cpus s.ram s.consoles s.root) s.images
    (record { forest = bare_forest s.cpus s.ram s.consoles s.root; free = bare_free s.cpus s.ram s.consoles s.root }))

pub boot_forest : (s : Scenario) → IsForest (boot s).delegations
boot_forest s = (boot_rooted s).forest
