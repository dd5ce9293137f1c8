-- What was done on copies, laid over the kernel's state, is what as many turns leave.
use Rattle.law_turns.specs.Moments.{IsEarly}
use Rattle.std.proofs.Common.{◌≡◌, ◌≢◌, ◌≤◌, ℕ, zero, suc, ◌+◌, ◌%◌, List, [], ◌∷◌, length, inl, inr, ap, ap₂, sym, ◌∙◌, subst, refl, arith}
use Rattle.std.specs.Prelude.{Bool, true, false, ◌==◌, filter, replicate, slice_get, Option, Some, None, IsSome, is_some, option_map, option_and_then, if◌then◌else◌}
use Rattle.std.specs.List.{AllByRecursion}
use Rattle.std.proofs.lemmas.Bool.{cases_eq, ne_eqb}
use Rattle.std.proofs.lemmas.Option.{same_Some}
use Rattle.byteorder.specs.Endian.{little_bytes}
use Rattle.rv_model.specs.Step.{Store, Once, Raised, Went, one}
use Rattle.nova_range.specs.Rights.{write_right}
use Rattle.nova_guest.specs.Alone.{acted, applied, guest_space, ran, stepped, stored_at, written}
use Rattle.nova_guest.specs.Cells.{cell_at}
use Rattle.nova_guest.specs.Frames.{frame_from, replaced}
use Rattle.nova_guest.specs.Maps.{is_covered, page_in}
use Rattle.nova_guest.specs.declared.cell.Cell.{Cell}
use Rattle.nova_guest.specs.declared.guest.Guest.{Guest}
use Rattle.nova_guest.specs.declared.guest.GuestState.{GuestState}
use Rattle.nova_guest.specs.declared.guest.GuestState.TheVariants.{Fresh, Ready}
use Rattle.nova_guest.specs.declared.input.Input.TheVariants.{Own}
use Rattle.nova_model.specs.Choice.{Candidate, in_front}
use Rattle.nova_model.specs.Inputs.{is_covered_for, store_of}
use Rattle.nova_model.specs.Runs.{run}
use Rattle.nova_model.specs.State.{KernelState, pd_of}
use Rattle.nova_model.specs.Turn.{quantum_in, stamp_after}
use Rattle.nova_model.specs.Views.{view}
use Rattle.nova_model.specs.declared.budget.Budget.{Budget}
use Rattle.law_isolation.specs.Sound.{IsSound}
use Rattle.law_isolation.proofs.Seen.{maps_at, view_is}
use Rattle.law_isolation.proofs.Spaces.{cell_of as cell_in_ram}
use Rattle.law_leases.specs.Advances.{IsLeasable, budget_used, changed_by, frame_stored_to, frames_stored, is_used, laid_over, next_frame, over, own_after, raised_count, raised_from, with_cell}
use Rattle.law_leases.specs.Leases.{cells_in, copy_at, times}
use Rattle.law_leases.specs.Paging.{AreOf, AreOnce, IsStepping, advanced_to, seen_count, seen_from, stores_seen}
use Rattle.law_leases.specs.declared.steps.Page.{Page}
use Rattle.law_leases.specs.declared.steps.Steps.{Steps}
use Rattle.law_leases.proofs.Bursting.{burst}
use Rattle.law_leases.proofs.Leased.{cell_stored}

-- STORES COUNTED BY PAGE

-- as many as there are among frames
abbrev seen_times : (ℕ → Bool) → List Page → List ℕ → ℕ
seen_times q [] fs = 0
seen_times q (p ∷ pages) fs = (if q p.frame then times p.frame fs else 0) + seen_times q pages fs

by_counts : (q : ℕ → Bool) (pages : List Page) (fs : List ℕ) → AllByRecursion (λ (p : Page). p.stores ≡ times p.frame fs) pages → stores_seen q pages ≡ seen_times q pages fs
by_counts q [] fs all = refl
by_counts q (p ∷ pages) fs all = ap₂ (λ (n m : ℕ). (if q p.frame then n else 0) + m) all.0 (by_counts q pages fs all.1)

nothing_seen : (q : ℕ → Bool) (pages : List Page) → seen_times q pages [] ≡ 0
nothing_seen q [] = refl
nothing_seen q (p ∷ pages) = grind (arith, nothing_seen q pages)

not_seen : (q : ℕ → Bool) (pages : List Page) (f : ℕ) (fs : List ℕ) → copy_at pages f ≡ None → seen_times q pages (f ∷ fs) ≡ seen_times q pages fs
not_seen q [] f fs none = refl
not_seen q (p ∷ pages) f fs none = grind (arith, none, not_seen q pages f fs)

abbrev one_if : Bool → ℕ
one_if true = 1
one_if false = 0

one_seen : (q : ℕ → Bool) (pages : List Page) (f : ℕ) (fs : List ℕ) → AreOnce pages → IsSome (copy_at pages f) → seen_times q pages (f ∷ fs) ≡ one_if (q f) + seen_times q pages fs
one_seen q [] f fs once there = absurd (cc)
one_seen q (p ∷ pages) f fs once there = elim (cases_eq p.frame f) [
  | inl here ↦ by_here here (not_seen q pages f fs (ap (copy_at pages) (sym here) ∙ once.0)) (q f) refl
  | inr ne ↦ let rest = one_seen q pages f fs once.1 (grind (arith, there)) in grind (arith, ne, rest)
]
  where
    by_here : p.frame ≡ f → seen_times q pages (f ∷ fs) ≡ seen_times q pages fs → (t : Bool) → q f ≡ t → seen_times q (p ∷ pages) (f ∷ fs) ≡ one_if t + seen_times q (p ∷ pages) fs
    by_here here rest true is = grind (arith, here, rest, is)
    by_here here rest false is = grind (arith, here, rest, is)

filtered_front : (q : ℕ → Bool) (f : ℕ) (fs : List ℕ) → length (filter q (f ∷ fs)) ≡ one_if (q f) + length (filter q fs)
filtered_front q f fs = by_test (q f)
  where
    by_test : (t : Bool) → length (if t then f ∷ filter q fs else filter q fs) ≡ one_if t + length (filter q fs)
    by_test true = let n : ℕ = length (filter q fs) in omega arith
    by_test false = let n : ℕ = length (filter q fs) in omega arith

all_seen : (q : ℕ → Bool) (pages : List Page) (fs : List ℕ) → AreOnce pages → AllByRecursion (λ (f : ℕ). IsSome (copy_at pages f)) fs → length (filter q fs) ≡ seen_times q pages fs
all_seen q pages [] once all = sym (nothing_seen q pages)
all_seen q pages (f ∷ fs) once all =
    filtered_front q f fs ∙ (ap (λ (n : ℕ). one_if (q f) + n) (all_seen q pages fs once all.1) ∙ sym (one_seen q pages f fs once all.0))

pub seen_same : (q : ℕ → Bool) (v : Guest) (n : ℕ) (pages : List Page) → AreOf v n pages → length (filter q (frames_stored n v)) ≡ stores_seen q pages
seen_same q v n pages are = all_seen q pages (frames_stored n v) are.once are.within ∙ sym (by_counts q pages (frames_stored n v) are.counts)

count_same : (k : KernelState) (g n m count : ℕ) (v : Guest) (pages : List Page) → AreOf v n pages → raised_count k g (frames_stored n v) m count ≡ seen_count k g pages m count
count_same k g n m count v pages are = ap (λ (c : ℕ). if g == m then count else count + c) (seen_same (is_covered_for k (pd_of k m)) v n pages are)

entry_same : (k : KernelState) (g n m : ℕ) (count : Option ℕ) (v : Guest) (pages : List Page) → AreOf v n pages →
    option_map (raised_count k g (frames_stored n v) m) count ≡ option_map (seen_count k g pages m) count
entry_same k g n m None v pages are = refl
entry_same k g n m (Some count) v pages are = ap Some (count_same k g n m count v pages are)

counts_same : (k : KernelState) (g n m : ℕ) (counts : List (Option ℕ)) (v : Guest) (pages : List Page) → AreOf v n pages →
    raised_from k g (frames_stored n v) m counts ≡ seen_from k g pages m counts
counts_same k g n m [] v pages are = refl
counts_same k g n m (count ∷ counts) v pages are = ap₂ (λ (o : Option ℕ) (os : List (Option ℕ)). o ∷ os) (entry_same k g n m count v pages are) (counts_same k g n (m + 1) counts v pages are)

-- CELLS OF OTHER FRAMES STAY

abbrev IsElsewhere : Option ℕ → ℕ → Type 0
IsElsewhere o f = (x : ℕ) → o ≡ Some x → x ≢ f

put_elsewhere : (v w : Guest) (fr o width value f : ℕ) (c : Option (List ℕ)) → w.cells ≡ v.cells → cell_at v.cells fr ≡ c →
    ((x : ℕ) → (if is_some c then Some fr else None) ≡ Some x → x ≢ f) → cell_at (written w fr o width value c).guest.cells f ≡ cell_at v.cells f
put_elsewhere v w fr o width value f None same at other = ap (λ (cells : List Cell). cell_at cells f) same
put_elsewhere v w fr o width value f (Some b) same at other =
    cell_stored w.cells fr o width value f
    ∙ (ap (λ (t : Bool). if t then option_map (λ (d : List ℕ). replaced d o (little_bytes width value)) (cell_at w.cells f) else cell_at w.cells f)
    (ne_eqb f fr (λ e. other fr refl (sym e))) ∙ ap (λ (cells : List Cell). cell_at cells f) same)

store_elsewhere : (v w : Guest) (s : Store) (f : ℕ) (o : Option ℕ) → w.cells ≡ v.cells → IsElsewhere (option_and_then (with_cell v.cells) o) f →
    cell_at (stored_at w s o).guest.cells f ≡ cell_at v.cells f
store_elsewhere v w s f None same other = ap (λ (cells : List Cell). cell_at cells f) same
store_elsewhere v w s f (Some fr) same other =
    ap (λ (cells : List Cell). cell_at (written w fr (s.address % 4096) s.width s.value (cell_at cells fr)).guest.cells f) same
    ∙ put_elsewhere v w fr (s.address % 4096) s.width s.value f (cell_at v.cells fr) same refl other

step_elsewhere : (v : Guest) (f : ℕ) (o : Once) → IsElsewhere (option_and_then (frame_stored_to v) (store_of o)) f → cell_at (stepped v o).guest.cells f ≡ cell_at v.cells f
step_elsewhere v f (Raised reason q0 q1) other = refl
step_elsewhere v f (Went regs None) other = refl
step_elsewhere v f (Went regs (Some s)) other = store_elsewhere v (record v { regs = regs }) s f (frame_from (page_in v.maps) write_right s.address) refl other

ran_elsewhere : (v : Guest) (f : ℕ) (t : Bool) → IsElsewhere (next_frame v) f → cell_at (ran v t).guest.cells f ≡ cell_at v.cells f
ran_elsewhere v f true other = refl
ran_elsewhere v f false other = step_elsewhere v f (one v.regs (guest_space v.maps v.cells)) other

acted_elsewhere : (v : Guest) (f : ℕ) (s : GuestState) → IsElsewhere (next_frame v) f → cell_at (acted v s).guest.cells f ≡ cell_at v.cells f
acted_elsewhere v f Fresh other = refl
acted_elsewhere v f Ready other = ran_elsewhere v f v.recall other
acted_elsewhere v f s other = refl

own_elsewhere : (v : Guest) (f : ℕ) → IsElsewhere (next_frame v) f → cell_at (applied v Own).guest.cells f ≡ cell_at v.cells f
unfolding applied
own_elsewhere v f other = acted_elsewhere v f v.state other

front_apart : (f : ℕ) (o : Option ℕ) (fs : List ℕ) → AllByRecursion (λ (x : ℕ). x ≢ f) (in_front o fs) → IsElsewhere o f × AllByRecursion (λ (x : ℕ). x ≢ f) fs
front_apart f None fs all = (λ x is. absurd (cc), all)
front_apart f (Some y) fs all = (λ x is. subst (λ (z : ℕ). z ≢ f) (same_Some y x is) all.0, all.1)

cells_elsewhere : (n : ℕ) (v : Guest) (f : ℕ) → AllByRecursion (λ (x : ℕ). x ≢ f) (frames_stored n v) → cell_at (own_after n v).cells f ≡ cell_at v.cells f
cells_elsewhere zero v f all = refl
cells_elsewhere (suc n) v f all =
    let parts = front_apart f (next_frame v) (frames_stored n (applied v Own).guest) all in
    cells_elsewhere n (applied v Own).guest f parts.1 ∙ own_elsewhere v f parts.0

within_apart : (pages : List Page) (f : ℕ) (fs : List ℕ) → copy_at pages f ≡ None → AllByRecursion (λ (x : ℕ). IsSome (copy_at pages x)) fs → AllByRecursion (λ (x : ℕ). x ≢ f) fs
within_apart pages f [] none all = tt
within_apart pages f (x ∷ fs) none all =
    (λ e. let there : IsSome (copy_at pages f) = subst (λ (y : ℕ). IsSome (copy_at pages y)) e all.0 in let both = subst IsSome none there in absurd (cc), within_apart pages f fs none all.1)

-- RAM

copied_is : (cells : List Cell) (pages : List Page) (f : ℕ) (b : List ℕ) → AllByRecursion (λ (p : Page). cell_at cells p.frame ≡ Some p.bytes) pages → copy_at pages f ≡ Some b →
    cell_at cells f ≡ Some b
copied_is cells [] f b all is = absurd (cc)
copied_is cells (p ∷ pages) f b all is = elim (cases_eq p.frame f) [
  | inl here ↦ let same : p.bytes ≡ b = grind (arith, here, is) in ap (cell_at cells) (sym here) ∙ (all.0 ∙ ap Some same)
  | inr ne ↦ copied_is cells pages f b all.1 (grind (arith, is, ne))
]

laid_same : (n : ℕ) (cells others : List Cell) (ram : List (List ℕ)) →
    ((i : ℕ) (b : List ℕ) → slice_get ram i ≡ Some b → over (cell_at cells (n + i)) b ≡ over (cell_at others (n + i)) b) → laid_over n cells ram ≡ laid_over n others ram
laid_same n cells others [] same = refl
laid_same n cells others (b ∷ ram) same = ap₂ (λ (d : List ℕ) (ds : List (List ℕ)). d ∷ ds)
    (let e : n + 0 ≡ n = omega arith in subst (λ (f : ℕ). over (cell_at cells f) b ≡ over (cell_at others f) b) e (same 0 b refl))
    (laid_same (n + 1) cells others ram (λ i c at. let e : n + suc i ≡ (n + 1) + i = omega arith in
    subst (λ (f : ℕ). over (cell_at cells f) c ≡ over (cell_at others f) c) e (same (suc i) c at)))

over_old : (t : Bool) (o : Option (List ℕ)) (b : List ℕ) → o ≡ Some b → over (if t then o else None) b ≡ b
over_old true o b is = ap (λ (x : Option (List ℕ)). over x b) is
over_old false o b is = refl

frame_laid : (k : KernelState) (g n f : ℕ) (b : List ℕ) (pages : List Page) → AreOf (view k g) n pages → slice_get k.memory.ram f ≡ Some b →
    over (cell_at (own_after n (view k g)).cells f) b ≡ over (copy_at pages f) b
frame_laid k g n f b pages are at = by_copy (copy_at pages f) refl
  where
    by_copy : (o : Option (List ℕ)) → copy_at pages f ≡ o → over (cell_at (own_after n (view k g)).cells f) b ≡ over o b
    by_copy (Some c) is = ap (λ (x : Option (List ℕ)). over x b) (copied_is (own_after n (view k g)).cells pages f c are.bytes is)
    by_copy None is =
        ap (λ (x : Option (List ℕ)). over x b)
        (cells_elsewhere n (view k g) f (within_apart pages f (frames_stored n (view k g)) is are.within)
        ∙ (ap (λ (v : Guest). cell_at v.cells f) (view_is k g) ∙ cell_in_ram (maps_at k g) k.memory.ram f))
        ∙ over_old (is_covered (maps_at k g) f) (slice_get k.memory.ram f) b at

pub ram_same : (k : KernelState) (g n : ℕ) (pages : List Page) → AreOf (view k g) n pages → laid_over 0 (own_after n (view k g)).cells k.memory.ram ≡ laid_over 0 (cells_in pages) k.memory.ram
ram_same k g n pages are = laid_same 0 (own_after n (view k g)).cells (cells_in pages) k.memory.ram
    (λ i b at. let e : 0 + i ≡ i = omega arith in
    subst (λ (f : ℕ). over (cell_at (own_after n (view k g)).cells f) b ≡ over (copy_at pages f) b) (sym e) (frame_laid k g n i b pages are at))

-- THE LAW

pub steps_advance : (k : KernelState) (cpu : ℕ) (c : Candidate) (b : Budget) (s : Steps) → IsSound k → IsLeasable k cpu c b → s.count ≤ b.left → IsEarly k.times cpu s.count → IsStepping (view k c.actor) s →
    run k (replicate s.count cpu) ≡ advanced_to k cpu c b s
steps_advance k cpu c b s sound may left early is =
    burst s.count k cpu c b sound may left early is.pages.quiet
    ∙ (λ i. changed_by k cpu c.sc c.actor s.count (sym is.regs i) (ram_same k c.actor s.count s.pages.items is.pages i)
    (budget_used (is_used s.count b) s.count (quantum_in (slice_get k.objects c.sc)) k.next_stamp b) (stamp_after (is_used s.count b) k.next_stamp)
    (counts_same k c.actor s.count 0 k.stirs.guests (view k c.actor) s.pages.items is.pages i))
