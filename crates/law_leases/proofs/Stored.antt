-- The copies of a burst: those without a store may be left out, they count no more stores than there were turns, and each is of a whole RAM frame.
use Rattle.std.proofs.Common.{◌≡◌, ◌≢◌, ◌<◌, ◌≤◌, ℕ, zero, suc, List, [], ◌∷◌, length, inl, inr, ap, sym, ◌∙◌, subst, refl, arith}
use Rattle.std.specs.Prelude.{Bool, true, false, ◌==◌, filter, nat_lt, replicate, slice_get, Option, Some, None, IsSome, if◌then◌else◌}
use Rattle.std.specs.List.{AllByRecursion}
use Rattle.std.proofs.lemmas.Bool.{cases_eq}
use Rattle.law_forest.proofs.Members.{all_weaker}
use Rattle.nova_guest.specs.Alone.{applied}
use Rattle.nova_guest.specs.Cells.{cell_at, page_size}
use Rattle.nova_guest.specs.Maps.{is_covered}
use Rattle.nova_guest.specs.declared.cell.Cell.{Cell}
use Rattle.nova_guest.specs.declared.guest.Guest.{Guest}
use Rattle.nova_guest.specs.declared.input.Input.TheVariants.{Own}
use Rattle.nova_model.specs.Choice.{in_front}
use Rattle.nova_model.specs.Runs.{run}
use Rattle.nova_model.specs.State.{KernelState}
use Rattle.nova_model.specs.Views.{view}
use Rattle.law_isolation.specs.Sound.{AreWhole}
use Rattle.law_isolation.proofs.Seen.{maps_at, view_is}
use Rattle.law_isolation.proofs.Spaces.{cell_of}
use Rattle.law_leases.specs.Advances.{frames_stored, next_frame, own_after}
use Rattle.law_leases.specs.Commits.{IsReached, MayAdvance}
use Rattle.law_leases.specs.Leases.{copy_at, times}
use Rattle.law_leases.specs.Paging.{AreFrames, AreOf, AreOnce, stored_to, stores_seen}
use Rattle.law_leases.specs.declared.steps.Page.{Page}
use Rattle.law_leases.specs.declared.steps.Steps.{Steps}
use Rattle.law_leases.proofs.Bursting.{IsAdvanced, advances}
use Rattle.law_leases.proofs.Committed.{run_reached}
use Rattle.law_leases.proofs.Paged.{seen_same}

-- WITHOUT STORES

all_stored : (P : Page → Type 0) (pages : List Page) → AllByRecursion P pages → AllByRecursion P (stored_to pages)
all_stored P [] all = tt
all_stored P (p ∷ pages) all = by_test (all_stored P pages all.1) (nat_lt 0 p.stores)
  where
    by_test : AllByRecursion P (stored_to pages) → (t : Bool) → AllByRecursion P (if t then p ∷ stored_to pages else stored_to pages)
    by_test rest true = (all.0, rest)
    by_test rest false = rest

copied_here : (p : Page) (pages : List Page) (f : ℕ) → p.frame ≡ f → copy_at (p ∷ pages) f ≡ Some p.bytes
copied_here p pages f here = grind (arith, here)

copied_past : (p : Page) (pages : List Page) (f : ℕ) → p.frame ≢ f → copy_at (p ∷ pages) f ≡ copy_at pages f
copied_past p pages f ne = grind (arith, ne)

none_stored : (pages : List Page) (f : ℕ) → copy_at pages f ≡ None → copy_at (stored_to pages) f ≡ None
none_stored [] f none = refl
none_stored (p ∷ pages) f none = elim (cases_eq p.frame f) [
  | inl here ↦ let both : Some p.bytes ≡ None = sym (copied_here p pages f here) ∙ none in absurd (cc)
  | inr ne ↦ by_test ne (none_stored pages f (sym (copied_past p pages f ne) ∙ none)) (nat_lt 0 p.stores)
]
  where
    by_test : p.frame ≢ f → copy_at (stored_to pages) f ≡ None → (t : Bool) → copy_at (if t then p ∷ stored_to pages else stored_to pages) f ≡ None
    by_test ne rest true = copied_past p (stored_to pages) f ne ∙ rest
    by_test ne rest false = rest

once_stored : (pages : List Page) → AreOnce pages → AreOnce (stored_to pages)
once_stored [] once = tt
once_stored (p ∷ pages) once = by_test (once_stored pages once.1) (nat_lt 0 p.stores)
  where
    by_test : AreOnce (stored_to pages) → (t : Bool) → AreOnce (if t then p ∷ stored_to pages else stored_to pages)
    by_test rest true = (none_stored pages p.frame once.0, rest)
    by_test rest false = rest

-- a frame that was stored to
some_of : (o : Option (List ℕ)) (b : List ℕ) → o ≡ Some b → IsSome o
some_of o b is = rw is refl

copied_stored : (pages : List Page) (fs : List ℕ) (f : ℕ) → AllByRecursion (λ (p : Page). p.stores ≡ times p.frame fs) pages → 0 < times f fs → IsSome (copy_at pages f) →
    IsSome (copy_at (stored_to pages) f)
copied_stored [] fs f counts some there = absurd (cc)
copied_stored (p ∷ pages) fs f counts some there = elim (cases_eq p.frame f) [
  | inl here ↦
      let many : p.stores ≡ times f fs = counts.0 ∙ ap (λ (n : ℕ). times n fs) here in
      let passes : nat_lt 0 p.stores ≡ true = grind (arith, many, some) in
      subst (λ (t : Bool). IsSome (copy_at (if t then p ∷ stored_to pages else stored_to pages) f)) (sym passes)
      (some_of (copy_at (p ∷ stored_to pages) f) p.bytes (copied_here p (stored_to pages) f here))
  | inr ne ↦ by_test ne (copied_stored pages fs f counts.1 some (subst IsSome (copied_past p pages f ne) there)) (nat_lt 0 p.stores)
]
  where
    by_test : p.frame ≢ f → IsSome (copy_at (stored_to pages) f) → (t : Bool) → IsSome (copy_at (if t then p ∷ stored_to pages else stored_to pages) f)
    by_test ne rest true = subst IsSome (sym (copied_past p (stored_to pages) f ne)) rest
    by_test ne rest false = rest

front_counted : (f : ℕ) (fs : List ℕ) → 0 < times f (f ∷ fs)
front_counted f fs = let same : (f == f) ≡ true = grind arith in subst (λ (t : Bool). 0 < length (if t then f ∷ filter (λ x. f == x) fs else filter (λ x. f == x) fs)) (sym same) (omega arith)

more_counted : (f x : ℕ) (fs : List ℕ) → 0 < times f fs → 0 < times f (x ∷ fs)
more_counted f x fs some = by_test (f == x)
  where
    by_test : (t : Bool) → 0 < length (if t then x ∷ filter (λ y. f == y) fs else filter (λ y. f == y) fs)
    by_test true = omega arith
    by_test false = some

each_counted : (fs : List ℕ) → AllByRecursion (λ (f : ℕ). 0 < times f fs) fs
each_counted [] = tt
each_counted (x ∷ fs) =
    (front_counted x fs, all_weaker (λ (f : ℕ). 0 < times f fs) (λ (f : ℕ). 0 < times f (x ∷ fs)) fs (λ f h. more_counted f x fs h) (each_counted fs))

all_both : (P Q R : ℕ → Type 0) (xs : List ℕ) → ((x : ℕ) → P x → Q x → R x) → AllByRecursion P xs → AllByRecursion Q xs → AllByRecursion R xs
all_both P Q R [] both p q = tt
all_both P Q R (x ∷ xs) both p q = (both x p.0 q.0, all_both P Q R xs both p.1 q.1)

pub still_of : (v : Guest) (n : ℕ) (pages : List Page) → AreOf v n pages → AreOf v n (stored_to pages)
still_of v n pages are = record {
  quiet = are.quiet;
  once = once_stored pages are.once;
  bytes = all_stored (λ (p : Page). cell_at (own_after n v).cells p.frame ≡ Some p.bytes) pages are.bytes;
  within = all_both (λ (f : ℕ). 0 < times f fs) (λ (f : ℕ). IsSome (copy_at pages f)) (λ (f : ℕ). IsSome (copy_at (stored_to pages) f)) fs
      (λ f some there. copied_stored pages fs f are.counts some there) (each_counted fs) are.within;
  counts = all_stored (λ (p : Page). p.stores ≡ times p.frame fs) pages are.counts;
}
  where
    fs : List ℕ
    fs = frames_stored n v

-- NO MORE STORES THAN TURNS

few_filtered : (q : ℕ → Bool) (xs : List ℕ) → length (filter q xs) ≤ length xs
few_filtered q [] = omega arith
few_filtered q (x ∷ xs) = by_test (few_filtered q xs) (q x)
  where
    by_test : length (filter q xs) ≤ length xs → (t : Bool) → length (if t then x ∷ filter q xs else filter q xs) ≤ length (x ∷ xs)
    by_test few true = omega arith
    by_test few false = omega arith

few_stored : (n : ℕ) (v : Guest) → length (frames_stored n v) ≤ n
few_stored zero v = omega arith
few_stored (suc n) v = by_frame (few_stored n (applied v Own).guest) (next_frame v)
  where
    by_frame : length (frames_stored n (applied v Own).guest) ≤ n → (o : Option ℕ) → length (in_front o (frames_stored n (applied v Own).guest)) ≤ suc n
    by_frame few None = omega arith
    by_frame few (Some f) = omega arith

pub few_seen : (q : ℕ → Bool) (v : Guest) (n : ℕ) (pages : List Page) → AreOf v n pages → stores_seen q pages ≤ n
few_seen q v n pages are =
    let same = seen_same q v n pages are in let less = few_filtered q (frames_stored n v) in let few = few_stored n v in omega (arith, same, less, few)

-- WHOLE FRAMES

at_whole : (ram : List (List ℕ)) (f : ℕ) (b : List ℕ) → AreWhole ram → slice_get ram f ≡ Some b → (f < length ram) × (length b ≡ 4096)
unfolding page_size
at_whole [] f b whole at = absurd (cc)
at_whole (c ∷ ram) zero b whole at = let same : c ≡ b = cc in (omega arith, sym (ap (λ (x : List ℕ). length x) same) ∙ whole.0)
at_whole (c ∷ ram) (suc f) b whole at = let rest = at_whole ram f b whole.1 at in (let low = rest.0 in omega (arith, low), rest.1)

of_frames : (cells : List Cell) (ram : List (List ℕ)) (pages : List Page) → ((f : ℕ) (b : List ℕ) → cell_at cells f ≡ Some b → (f < length ram) × (length b ≡ 4096)) →
    AllByRecursion (λ (p : Page). cell_at cells p.frame ≡ Some p.bytes) pages → AreFrames ram pages
of_frames cells ram [] whole all = tt
of_frames cells ram (p ∷ pages) whole all = (whole p.frame p.bytes all.0, of_frames cells ram pages whole all.1)

held_in : (t : Bool) (o : Option (List ℕ)) (b : List ℕ) → (if t then o else None) ≡ Some b → o ≡ Some b
held_in true o b is = is
held_in false o b is = absurd (cc)

pub pages_whole : (k : KernelState) (cpu : ℕ) (s : Steps) → IsReached k → MayAdvance k cpu s → AreFrames k.memory.ram s.pages.items
pages_whole k cpu s is may =
    let g = may.chosen.actor in
    let all : IsAdvanced s.count k cpu may.chosen may.budget new = advances s.count k cpu may.chosen may.budget is.sound may.may may.left may.early may.runs.pages.quiet in
    let later : IsReached new = run_reached k (replicate s.count cpu) is in
    of_frames (own_after s.count (view k g)).cells k.memory.ram s.pages.items
    (λ f b at.
    let seen : cell_at (view new g).cells f ≡ Some b = ap (λ (v : Guest). cell_at v.cells f) all.seen ∙ at in
    let held = held_in (is_covered (maps_at new g) f) (slice_get new.memory.ram f) b
    (sym (cell_of (maps_at new g) new.memory.ram f) ∙ (sym (ap (λ (v : Guest). cell_at v.cells f) (view_is new g)) ∙ seen)) in
    let whole = at_whole new.memory.ram f b later.sound.whole.frames held in
    (subst (λ (n : ℕ). f < n) all.covers.long whole.0, whole.1))
    may.runs.pages.bytes
  where
    new : KernelState
    new = run k (replicate s.count cpu)
