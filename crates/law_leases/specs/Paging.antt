-- What a virtual CPU did on copies of frames, laid over the kernel's state.
use Rattle.std.specs.Prelude.{◌≡◌, ◌<◌, ℕ, zero, suc, ◌+◌, ◌==◌, Bool, List, [], ◌∷◌, length, filter, nat_lt, replicate, slice_get, slice_index, slice_set, Option, Some, None, IsSome, option_map, if◌then◌else◌}
use Rattle.std.specs.List.{AllByRecursion}
use Rattle.rv_model.specs.Registers.{Registers}
use Rattle.nova_guest.specs.Alone.{outputs}
use Rattle.nova_guest.specs.Cells.{cell_at}
use Rattle.nova_guest.specs.declared.guest.Guest.{Guest}
use Rattle.nova_guest.specs.declared.input.Input.TheVariants.{Own}
use Rattle.nova_model.specs.Choice.{Candidate}
use Rattle.nova_model.specs.Inputs.{is_covered_for}
use Rattle.nova_model.specs.State.{KernelState, context, pd_of, with_ec}
use Rattle.nova_model.specs.Turn.{charged, quantum_in, stamp_after}
use Rattle.nova_model.specs.Views.{view}
use Rattle.nova_model.specs.declared.budget.Budget.{Budget}
use Rattle.law_leases.specs.Advances.{budget_used, changed_by, frames_stored, is_used, laid_over, own_after}
use Rattle.law_leases.specs.Leases.{LeaseState, cells_in, copy_at, times}
use Rattle.law_leases.specs.declared.steps.Page.{Page}
use Rattle.law_leases.specs.declared.steps.Steps.{Steps}

-- each frame once
abbrev pub AreOnce : List Page → Type 0
AreOnce [] = Unit {0}
AreOnce (p ∷ pages) = (copy_at pages p.frame ≡ None) × AreOnce pages

-- after n inputs of its own, which put nothing out, the guest has these registers, and each page, of a frame each once, holds the bytes of its cell;
-- none of them stores to another frame that has a cell, and `stores` are those that go to the page's
pub record AreOf (v : Guest) (n : ℕ) (pages : List Page) : Type 0 where
  pub quiet : outputs v (replicate n Own) ≡ []
  pub once : AreOnce pages
  pub bytes : AllByRecursion (λ (p : Page). cell_at (own_after n v).cells p.frame ≡ Some p.bytes) pages
  pub within : AllByRecursion (λ (f : ℕ). IsSome (copy_at pages f)) (frames_stored n v)
  pub counts : AllByRecursion (λ (p : Page). p.stores ≡ times p.frame (frames_stored n v)) pages

pub record IsStepping (v : Guest) (s : Steps) : Type 0 where
  pub regs : s.regs ≡ (own_after s.count v).regs
  pub pages : AreOf v s.count s.pages.items

-- the stores that these pages count, to frames to which the memory of a protection domain leads
abbrev pub stores_seen : (ℕ → Bool) → List Page → ℕ
stores_seen leads [] = 0
stores_seen leads (p ∷ pages) = (if leads p.frame then p.stores else 0) + stores_seen leads pages

abbrev pub seen_count : KernelState → ℕ → List Page → ℕ → ℕ → ℕ
seen_count k g pages n count = if g == n then count else count + stores_seen (is_covered_for k (pd_of k n)) pages

abbrev pub seen_from : KernelState → ℕ → List Page → ℕ → List (Option ℕ) → List (Option ℕ)
seen_from k g pages n [] = []
seen_from k g pages n (count ∷ counts) = option_map (seen_count k g pages n) count ∷ seen_from k g pages (n + 1) counts

-- the state in which these steps of the context that acts were taken
abbrev pub advanced_to : KernelState → ℕ → Candidate → Budget → Steps → KernelState
advanced_to k cpu c b s = changed_by k cpu c.sc c.actor s.count s.regs (laid_over 0 (cells_in s.pages.items) k.memory.ram)
    (budget_used (is_used s.count b) s.count (quantum_in (slice_get k.objects c.sc)) k.next_stamp b) (stamp_after (is_used s.count b) k.next_stamp)
    (seen_from k c.actor s.pages.items 0 k.stirs.guests)

-- copies that are just made: each frame once, with the bytes of RAM, and no store counted
pub record AreFresh (ram : List (List ℕ)) (pages : List Page) : Type 0 where
  pub once : AreOnce pages
  pub bytes : (frame : ℕ) (b : List ℕ) → copy_at pages frame ≡ Some b → slice_get ram frame ≡ Some b
  pub stores : AllByRecursion (λ (p : Page). p.stores ≡ 0) pages

-- what was run on copies is what the guest does in `n` inputs of its own
pub record IsRun (k : KernelState) (g n : ℕ) (m : LeaseState) : Type 0 where
  pub regs : m.regs ≡ (own_after n (view k g)).regs
  pub pages : AreOf (view k g) n m.pages

-- as many turns charged as the number says, one after another
abbrev pub charged_times : ℕ → KernelState → ℕ → ℕ → KernelState
charged_times zero k cpu sc = k
charged_times (suc n) k cpu sc = charged (charged_times n k cpu sc) cpu sc

-- the same at once
abbrev pub charged_at_once : KernelState → ℕ → ℕ → Budget → ℕ → KernelState
charged_at_once k cpu sc b n = record k {
  budgets = slice_set k.budgets sc (Some (budget_used (is_used n b) n (quantum_in (slice_get k.objects sc)) k.next_stamp b));
  next_stamp = stamp_after (is_used n b) k.next_stamp;
  turns = k.turns + n;
  stirs = record k.stirs { processors = slice_set k.stirs.processors cpu (slice_index k.stirs.processors cpu + n) };
  times = record k.times { clocks = slice_set k.times.clocks cpu (slice_index k.times.clocks cpu + n) };
}

-- the pages that were stored to
abbrev pub stored_to : List Page → List Page
stored_to pages = filter (λ p. nat_lt 0 p.stores) pages

-- copied frames written back, one after another
abbrev pub pages_written : List Page → List (List ℕ) → List (List ℕ)
pages_written [] ram = ram
pages_written (p ∷ pages) ram = pages_written pages (slice_set ram p.frame p.bytes)

-- each is of a RAM frame, whole
abbrev pub AreFrames : List (List ℕ) → List Page → Type 0
AreFrames ram pages = AllByRecursion (λ (p : Page). (p.frame < length ram) × (length p.bytes ≡ 4096)) pages

-- steps laid over a state part by part: turns charged, registers, frames that were stored to, and counts
abbrev pub laid_regs : KernelState → ℕ → Registers → KernelState
laid_regs k g regs = record k { contexts = with_ec k.contexts g (record (context k g) { regs = regs }) }

abbrev pub laid_pages : KernelState → List Page → KernelState
laid_pages k pages = record k { memory = record k.memory { ram = pages_written (stored_to pages) k.memory.ram } }

abbrev pub laid_counts : KernelState → ℕ → List Page → KernelState
laid_counts k g pages = record k { stirs = record k.stirs { guests = seen_from k g pages 0 k.stirs.guests } }

abbrev pub laid_steps : KernelState → ℕ → ℕ → ℕ → Steps → KernelState
laid_steps k cpu sc g s = laid_counts (laid_pages (laid_regs (charged_times s.count k cpu sc) g s.regs) s.pages.items) g s.pages.items
