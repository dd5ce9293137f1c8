-- Steps laid over a state part by part are as many turns.
use Rattle.law_turns.specs.Moments.{IsEarly}
use Rattle.std.proofs.Common.{◌≡◌, ◌<◌, ◌≤◌, ℕ, zero, suc, ◌+◌, List, [], ◌∷◌, ap, ap₂, sym, ◌∙◌, refl, arith}
use Rattle.std.specs.Prelude.{replicate, slice_set, Option, Some, None}
use Rattle.nova_guest.specs.Cells.{cell_at}
use Rattle.nova_guest.specs.declared.cell.Cell.{Cell}
use Rattle.nova_model.specs.Choice.{Candidate}
use Rattle.nova_model.specs.Runs.{run}
use Rattle.nova_model.specs.State.{KernelState}
use Rattle.nova_model.specs.Views.{view}
use Rattle.nova_model.specs.declared.budget.Budget.{Budget}
use Rattle.law_isolation.specs.Sound.{IsSound}
use Rattle.law_leases.specs.Advances.{IsLeasable, laid_over, over}
use Rattle.law_leases.specs.Leases.{cells_in}
use Rattle.law_leases.specs.Paging.{AreOf, AreOnce, IsStepping, advanced_to, laid_counts, laid_pages, laid_regs, laid_steps, pages_written, stored_to}
use Rattle.law_leases.specs.declared.steps.Page.{Page}
use Rattle.law_leases.specs.declared.steps.Steps.{Steps}
use Rattle.law_leases.proofs.Paged.{ram_same, steps_advance}
use Rattle.law_leases.proofs.Paid.{charged_all}
use Rattle.law_leases.proofs.Stored.{still_of}

-- one frame written, then the others laid over
laid_none : (n : ℕ) (ram : List (List ℕ)) → ram ≡ laid_over n [] ram
laid_none n [] = refl
laid_none n (b ∷ ram) = ap (λ (ds : List (List ℕ)). b ∷ ds) (laid_none (n + 1) ram)

-- frames from n on, of which one is written: what is laid over others stays
laid_past : (n f : ℕ) (b : List ℕ) (cells : List Cell) (ram : List (List ℕ)) → f < n → laid_over n (record { frame = f; contents = b } ∷ cells) ram ≡ laid_over n cells ram
laid_past n f b cells [] before = refl
laid_past n f b cells (c ∷ ram) before = ap₂ (λ (d : List ℕ) (ds : List (List ℕ)). d ∷ ds)
    (let e : cell_at (record { frame = f; contents = b } ∷ cells) n ≡ cell_at cells n = grind (arith, before) in ap (λ (o : Option (List ℕ)). over o c) e)
    (laid_past (n + 1) f b cells ram (omega arith))

laid_one : (n i f : ℕ) (b : List ℕ) (cells : List Cell) (ram : List (List ℕ)) → f ≡ n + i → cell_at cells f ≡ None →
    laid_over n (record { frame = f; contents = b } ∷ cells) ram ≡ laid_over n cells (slice_set ram i b)
laid_one n i f b cells [] at none = refl
laid_one n zero f b cells (c ∷ ram) at none =
    let here : n ≡ f = omega arith in
    ap₂ (λ (d : List ℕ) (ds : List (List ℕ)). d ∷ ds)
    ((let e : cell_at (record { frame = f; contents = b } ∷ cells) n ≡ Some b = grind (arith, here) in ap (λ (o : Option (List ℕ)). over o c) e) ∙ sym (ap (λ (o : Option (List ℕ)). over o b) (ap (cell_at cells) here ∙ none)))
    (laid_past (n + 1) f b cells ram (omega arith))
laid_one n (suc i) f b cells (c ∷ ram) at none = ap₂ (λ (d : List ℕ) (ds : List (List ℕ)). d ∷ ds)
    (let e : cell_at (record { frame = f; contents = b } ∷ cells) n ≡ cell_at cells n = grind (arith, at) in ap (λ (o : Option (List ℕ)). over o c) e)
    (laid_one (n + 1) i f b cells ram (omega arith) none)

written_laid : (pages : List Page) (ram : List (List ℕ)) → AreOnce pages → pages_written pages ram ≡ laid_over 0 (cells_in pages) ram
written_laid [] ram once = laid_none 0 ram
written_laid (p ∷ pages) ram once =
    written_laid pages (slice_set ram p.frame p.bytes) once.1
    ∙ sym (laid_one 0 p.frame p.frame p.bytes (cells_in pages) ram (omega arith) once.0)

-- the pages that were stored to alone
written_same : (k : KernelState) (g n : ℕ) (pages : List Page) → AreOf (view k g) n pages → pages_written (stored_to pages) k.memory.ram ≡ laid_over 0 (cells_in pages) k.memory.ram
written_same k g n pages are =
    let fewer : AreOf (view k g) n (stored_to pages) = still_of (view k g) n pages are in
    written_laid (stored_to pages) k.memory.ram fewer.once ∙ (sym (ram_same k g n (stored_to pages) fewer) ∙ ram_same k g n pages are)

-- all parts
pub laid_advance : (k : KernelState) (cpu : ℕ) (c : Candidate) (b : Budget) (s : Steps) → IsSound k → IsLeasable k cpu c b → s.count ≤ b.left → IsEarly k.times cpu s.count → IsStepping (view k c.actor) s →
    run k (replicate s.count cpu) ≡ laid_steps k cpu c.sc c.actor s
laid_advance k cpu c b s sound may left early is =
    steps_advance k cpu c b s sound may left early is
    ∙ sym (ap (λ (m : KernelState). laid_counts (laid_pages (laid_regs m c.actor s.regs) s.pages.items) c.actor s.pages.items) (charged_all s.count k cpu c.sc b left may.budget may.processor may.clock)
    ∙ (λ i. record (advanced_to k cpu c b s) { memory = record k.memory { ram = written_same k c.actor s.count s.pages.items is.pages i } }))
