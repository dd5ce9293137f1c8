-- Derivations have ranges of pages, and views are guests.
use Rattle.nova_objects.specs.declared.object.Object.TheVariants.{Sm}
use Rattle.nova_model.specs.Creation.{root_capability}
use Rattle.nova_model.specs.Sources.{Source, with_source, with_sources}
use Rattle.std.proofs.Common.{◌≡◌, ℕ, zero, suc, ◌+◌, ◌/◌, ◌%◌, ◌^◌, ◌<◌, ◌⊎◌, ◌≤◌, List, [], ◌∷◌, ◌++◌, length, map, ap, sym, ◌∙◌, subst, refl, inl, inr, arith, ◌-◌}
use Rattle.std.specs.Prelude.{Bool, true, false, not, ◌==◌, replicate, slice_get, Option, Some, None, if◌then◌else◌}
use Rattle.std.specs.List.{AllByRecursion, range_with_len}
use Rattle.std.proofs.Math.Nat.{pow-le-pow_right}
use Rattle.std.proofs.lemmas.Bool.{and_parts, cases_Bool}
use Rattle.std.proofs.lemmas.List.{length-replicate, length-set, length-append}
use Rattle.std.proofs.lemmas.List.Elements.{All-cons, All-nil}
use Rattle.law_forest.specs.Made.{Grows, IsFirstCapability, IsGivenChild, Leaves, MakesObject, GivesChild, TakesLeaf}
use Rattle.law_forest.proofs.Growth.{turn_growth}
use Rattle.law_forest.proofs.Members.{all_at, all_from, all_more, filtered_in, in_from_contains}
use Rattle.nova_guest.specs.Cells.{page_size}
use Rattle.nova_guest.specs.Conditions.{AreMaps, AreWhole as AreWholeCells, IsGuest, IsMap}
use Rattle.nova_guest.specs.Maps.{is_covered}
use Rattle.nova_guest.specs.declared.cell.Cell.{Cell}
use Rattle.nova_guest.specs.declared.map.Map.{Map}
use Rattle.nova_guest.proofs.Kept.{map_comes}
use Rattle.nova_objects.specs.declared.object.Object.{Object}
use Rattle.nova_range.specs.declared.range.Kind.{Kind}
use Rattle.nova_range.specs.declared.range.Kind.TheVariants.{Mem, Obj}
use Rattle.nova_model.specs.Boot.{Image, Scenario, bare, boot, console_derivation, laid, object_derivation, ram_derivation, with_image, with_images}
use Rattle.nova_model.specs.Delegations.{Delegations, is_memory, without}
use Rattle.nova_model.specs.Forest.{ArePairs, HasParentIn, IsAligned, IsAlignedFor, IsForest, IsWithin}
use Rattle.nova_model.specs.Memory.{Memory, written, written_in}
use Rattle.nova_model.specs.Runs.{after}
use Rattle.nova_model.specs.State.{KernelState, pd_of}
use Rattle.nova_model.specs.Views.{cells_from, is_memory_of, map_of, maps_of, view}
use Rattle.nova_model.specs.declared.delegation.Derivation.{Derivation}
use Rattle.law_turns.proofs.Holding.{Apart as SameSpaceApart}
use Rattle.law_forest.proofs.Boots.{with_images_delegations as images_delegations}
use Rattle.law_isolation.specs.Sound.{AreRanges, AreWhole, IsRanged, IsSound}
use Rattle.law_isolation.proofs.Exchanges.{none_overlap}
use Rattle.law_isolation.proofs.Seen.{maps_at, view_is}
use Rattle.law_isolation.proofs.Showing.{turn_frames}
use Rattle.law_isolation.proofs.Spaces.{maps_apart, maps_more, maps_same}

-- TURNS KEEP THEM

by_one : (n : ℕ) → n % 1 ≡ 0
by_one n = omega arith

first_ranged : (k : KernelState) (maker : ℕ) (object : Object) (d : Derivation) → IsFirstCapability k maker object d → IsRanged (length k.memory.ram) d
first_ranged k maker object d first = record {
  range = record { order = rw first.order (omega arith); aligned = rw first.order (by_one d.base); base = first.selector };
  last = λ memory. let no : is_memory d.kind ≡ false = ap is_memory first.kind in absurd (cc);
  sort = λ memory. let no : is_memory d.kind ≡ false = ap is_memory first.kind in absurd (cc);
}

last_below : {a b n : ℕ} → b ≤ n → a ≤ b → a ≤ n
last_below h e = omega (arith, h, e)

sorted : {first end parent_first parent_end frames : ℕ} → (parent_end ≤ frames) ⊎ (frames ≤ parent_first) → parent_first ≤ first → end ≤ parent_end → (end ≤ frames) ⊎ (frames ≤ first)
sorted (inl h) a b = inl (omega (arith, h, a, b))
sorted (inr h) a b = inr (omega (arith, h, a, b))

pub child_ranged : (k : KernelState) (actor : ℕ) (d : Derivation) → IsForest k.delegations → AreRanges k → IsGivenChild k actor d → IsRanged (length k.memory.ram) d
child_ranged k actor d forest ranges given =
    let of_ : HasParentIn k.delegations.list d (Some given.source.id) =
    subst (HasParentIn k.delegations.list d) given.parent (given.fits forest).parent in
    let within : IsWithin d of_.0 = of_.3 in
    let kind : is_memory d.kind ≡ true → is_memory (of_.0).kind ≡ true = λ memory. ap is_memory (sym within.kind) ∙ memory in
    let parent : IsRanged (length k.memory.ram) of_.0 = all_at (IsRanged (length k.memory.ram)) k.delegations.list of_.0 ranges (in_from_contains k.delegations.list of_.0 of_.1) in
    record {
      range = given.range forest;
      last = λ memory. last_below (parent.last (kind memory)) within.last;
      sort = λ memory. sorted (parent.sort (kind memory)) within.first within.last;
    }

abbrev AreIn : ℕ → Delegations → Type 0
AreIn frames f = AllByRecursion (IsRanged frames) f.list

fewer : (frames : ℕ) (f : Delegations) (id : ℕ) → AreIn frames f → AreIn frames (without f id)
fewer frames f id ranges =
    all_from (IsRanged frames) (without f id).list (λ d i. all_at (IsRanged frames) f.list d ranges (filtered_in (λ (e : Derivation). not (e.id == id)) f.list d i).0)

grown : (old new : KernelState) (ec : ℕ) → IsForest old.delegations → AreRanges old → Grows old ec new → AreIn (length old.memory.ram) new.delegations
grown old new ec forest ranges (Leaves same) = subst (AreIn (length old.memory.ram)) (sym same.delegations) ranges
grown old new ec forest ranges (MakesObject made) =
    subst (AreIn (length old.memory.ram)) (sym made.delegations)
    (all_more (IsRanged (length old.memory.ram)) old.delegations.list made.capability ranges (first_ranged old ec made.object made.capability made.first))
grown old new ec forest ranges (GivesChild g) =
    subst (AreIn (length old.memory.ram)) (sym g.delegations)
    (all_more (IsRanged (length old.memory.ram)) old.delegations.list g.child ranges (child_ranged old ec g.child forest ranges g.given))
grown old new ec forest ranges (TakesLeaf t) =
    subst (AreIn (length old.memory.ram)) (sym t.delegations) (fewer (length old.memory.ram) old.delegations t.leaf.id ranges)

pub turn_ranges : (k : KernelState) (cpu : ℕ) → IsSound k → AreRanges k → AreRanges (after k cpu)
turn_ranges k cpu sound ranges = subst (λ (n : ℕ). AreIn n (after k cpu).delegations) (sym (turn_frames k cpu))
    (let g = turn_growth k cpu in grown k (after k cpu) g.ec sound.forest ranges g.grows)

-- A KERNEL BEGINS WITH THEM

all_append : {T : Type 0} (P : T → Type 0) (xs ys : List T) → AllByRecursion P xs → AllByRecursion P ys → AllByRecursion P (xs ++ ys)
all_append P [] ys all others = others
all_append P (x ∷ xs) ys all others = (all.0, all_append P xs ys all.1 others)

all_consoles : (P : Derivation → Type 0) (order c n : ℕ) → ((j : ℕ) → j < c + n → P (console_derivation order j)) →
    AllByRecursion P (map (console_derivation order) (range_with_len c n))
all_consoles P order c zero h = tt
all_consoles P order c (suc n) h = (h c (omega arith), all_consoles P order (c + 1) n (λ j to. h j (omega (arith, to))))

none_left : (n : ℕ) → 0 % n ≡ 0
none_left n = grind arith

few_frames : (ram : ℕ) → ram ≤ 14 → 2 ^ ram ≤ 16384
few_frames ram h = let some : 0 < 2 = omega arith in pow-le-pow_right some h

ram_ranged : (ram : ℕ) → ram ≤ 14 → IsRanged (2 ^ ram) (ram_derivation ram)
ram_ranged ram h = let few = few_frames ram h in record {
  range = record { order = omega arith; aligned = none_left (2 ^ ram); base = omega arith };
  last = λ memory. omega arith;
  sort = λ memory. inl (omega arith);
}

console_ranged : (ram j : ℕ) → ram ≤ 14 → j < 16 → IsRanged (2 ^ ram) (console_derivation ram j)
console_ranged ram j h few_ = let few = few_frames ram h in record {
  range = record { order = omega arith; aligned = by_one (2 ^ ram + j); base = omega arith };
  last = λ memory. omega arith;
  sort = λ memory. inr (omega arith);
}

object_ranged : (ram consoles object rights : ℕ) → object < 3 → IsRanged (2 ^ ram) (object_derivation consoles object rights)
object_ranged ram consoles object rights h = record {
  range = record { order = omega arith; aligned = by_one object; base = omega arith };
  last = λ memory. absurd (cc);
  sort = λ memory. absurd (cc);
}

written_frames : (m : Memory) (f o w v : ℕ) (b : Option (List ℕ)) → length (written_in m b f o w v).ram ≡ length m.ram
written_frames m f o w v None = refl
written_frames m f o w v (Some bytes) = length-set m.ram f _

laid_frames : (m : Memory) (address : ℕ) (bytes : List ℕ) → length (laid m address bytes).ram ≡ length m.ram
laid_frames m address [] = refl
laid_frames m address (b ∷ bytes) =
    laid_frames (written m (address / 4096) (address % 4096) 1 b) (address + 1) bytes
    ∙ written_frames m (address / 4096) (address % 4096) 1 b (slice_get m.ram (address / 4096))

images_frames : (k : KernelState) (images : List Image) → length (with_images k images).memory.ram ≡ length k.memory.ram
images_frames k [] = refl
images_frames k (image ∷ images) = images_frames (with_image k image) images ∙ laid_frames k.memory image.address image.bytes

image_ranges : (s : Scenario) → s.ram ≤ 14 → s.consoles ≤ 16 → AreRanges (with_images (bare s.cpus s.ram s.consoles s.root) s.images)
image_ranges s frames consoles =
    subst (λ (n : ℕ). AreIn n (with_images (bare s.cpus s.ram s.consoles s.root) s.images).delegations) (sym (images_frames (bare s.cpus s.ram s.consoles s.root) s.images ∙ length-replicate {A = List ℕ} (2 ^ s.ram) (replicate 4096 0)))
    (subst (AreIn (2 ^ s.ram)) (sym (images_delegations (bare s.cpus s.ram s.consoles s.root) s.images))
    (all_append (IsRanged (2 ^ s.ram)) (ram_derivation s.ram ∷ map (console_derivation s.ram) (range_with_len 0 s.consoles))
    (object_derivation s.consoles 0 1 ∷ object_derivation s.consoles 1 7 ∷ object_derivation s.consoles 2 1 ∷ [])
    (ram_ranged s.ram frames, all_consoles (IsRanged (2 ^ s.ram)) s.ram 0 s.consoles (λ j to. console_ranged s.ram j frames (omega (arith, to, consoles))))
    (object_ranged s.ram s.consoles 0 1 (omega arith), (object_ranged s.ram s.consoles 1 7 (omega arith), (object_ranged s.ram s.consoles 2 1 (omega arith), tt)))))

-- a source's derivation is of one selector
sources_ranged : (frames : ℕ) (k : KernelState) (sources : List Source) → length k.objects + length sources ≤ 2 ^ 20 → AreIn frames k.delegations → AreIn frames (with_sources k sources).delegations
sources_ranged frames k [] few h = h
sources_ranged frames k (s ∷ sources) few h =
    let more : length (k.objects ++ Sm ∷ []) ≡ length k.objects + 1 = length-append k.objects (Sm ∷ []) in
    sources_ranged frames (with_source k s) sources (omega (arith, few, more))
    (all_append (IsRanged frames) k.delegations.list (root_capability k 0 (length k.objects) Sm ∷ []) h (
      record {
        range = record { order = omega arith; aligned = by_one (length k.objects); base = omega (arith, few) };
        last = λ memory. absurd (cc);
        sort = λ memory. absurd (cc);
      },
      tt,
    ))

pub sources_frames : (k : KernelState) (sources : List Source) → (with_sources k sources).memory ≡ k.memory
sources_frames k [] = refl
sources_frames k (s ∷ sources) = sources_frames (with_source k s) sources

pub images_cpus : (k : KernelState) (images : List Image) → (with_images k images).cpus ≡ k.cpus
images_cpus k [] = refl
images_cpus k (image ∷ images) = images_cpus (with_image k image) images

pub images_objects : (k : KernelState) (images : List Image) → (with_images k images).objects ≡ k.objects
images_objects k [] = refl
images_objects k (image ∷ images) = images_objects (with_image k image) images

pub boot_ranges : (s : Scenario) → s.ram ≤ 14 → s.consoles ≤ 16 → length s.sources ≤ 2 ^ 20 - 3 → AreRanges (boot s)
boot_ranges s frames consoles few =
    let k = with_images (bare s.cpus s.ram s.consoles s.root) s.images in
    let three : length k.objects ≡ 3 = ap (λ (os : List Object). length os) (images_objects (bare s.cpus s.ram s.consoles s.root) s.images) in
    subst (λ (m : Memory). AreIn (length m.ram) (boot s).delegations) (sym (sources_frames k s.sources))
    (sources_ranged (length k.memory.ram) k s.sources (omega (arith, few, three)) (image_ranges s frames consoles))

-- VIEWS

memory_aligned : (kind : Kind) (d : Derivation) → is_memory kind ≡ true → IsAlignedFor kind d → d.target % 2 ^ d.order ≡ 0
memory_aligned Mem d is aligned = aligned
memory_aligned Obj d is aligned = absurd (cc)

pub map_ranged : (frames pd : ℕ) (d : Derivation) → is_memory_of pd d ≡ true → IsRanged frames d → IsAligned d → IsMap (map_of d)
map_ranged frames pd d is ranged aligned =
    let memory : is_memory d.kind ≡ true = (and_parts (is_memory d.kind) (d.pd == pd) is).0 in record {
      pages = record { order = ranged.range.order; aligned = ranged.range.aligned; base = ranged.range.base };
      aligned = memory_aligned d.kind d memory aligned.target;
      frames = ranged.last memory;
    }

are_maps : (frames pd : ℕ) (list : List Derivation) → AllByRecursion (IsRanged frames) list → AllByRecursion IsAligned list → ArePairs SameSpaceApart list → AreMaps (maps_of pd list)
are_maps frames pd [] ranges aligned apart = record { each = All-nil IsMap; apart = λ i j d rises within. absurd (omega (arith, within)) }
are_maps frames pd (x ∷ xs) ranges aligned apart = elim (cases_Bool (is_memory_of pd x)) [
  | inl of_ ↦ subst AreMaps (sym (maps_more pd x xs of_))
      (map_comes (map_of x) (maps_of pd xs) (map_ranged frames pd x of_ ranges.0 aligned.0) (none_overlap (map_of x) (maps_of pd xs) (maps_apart pd x xs of_ apart.0)) (are_maps frames pd xs ranges.1 aligned.1 apart.1))
  | inr not_ ↦ subst AreMaps (sym (maps_same pd x xs not_)) (are_maps frames pd xs ranges.1 aligned.1 apart.1)
]

page_is : page_size ≡ 4096
unfolding page_size
page_is = refl

cells_whole : (maps : List Map) (n : ℕ) (ram : List (List ℕ)) → AreWhole ram → AreWholeCells (cells_from maps n ram)
cells_whole maps n [] whole = All-nil (λ (c : Cell). length c.contents ≡ 4096)
cells_whole maps n (bytes ∷ ram) whole = by_test (is_covered maps n) (cells_whole maps (n + 1) ram whole.1)
  where
    by_test : (t : Bool) → AreWholeCells (cells_from maps (n + 1) ram) →
        AreWholeCells (if t then record { frame = n; contents = bytes } ∷ cells_from maps (n + 1) ram else cells_from maps (n + 1) ram)
    by_test true rest =
        All-cons (λ (c : Cell). length c.contents ≡ 4096) (record { frame = n; contents = bytes }) (cells_from maps (n + 1) ram) (whole.0 ∙ page_is) rest
    by_test false rest = rest

pub view_guest : (k : KernelState) (g : ℕ) → IsSound k → AreRanges k → IsGuest (view k g)
view_guest k g sound ranges =
    subst IsGuest (sym (view_is k g)) (record {
      maps = are_maps (length k.memory.ram) (pd_of k g) k.delegations.list ranges sound.forest.aligned sound.forest.apart;
      cells = cells_whole (maps_at k g) 0 k.memory.ram sound.whole.frames;
    })
