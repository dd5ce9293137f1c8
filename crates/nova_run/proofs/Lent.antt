-- Bursts: a lease that is committed after turns of others.
use Rattle.std.proofs.Common.{◌≡◌, ℕ, List, ◌++◌, ap, sym, ◌∙◌}
use Rattle.std.specs.Prelude.{replicate}
use Rattle.std.proofs.lemmas.List.{append-nil}
use mathlib.Core.List.{IsPrefix}
use Rattle.nova_model.specs.Runs.{run}
use Rattle.nova_model.specs.State.{KernelState}
use Rattle.law_turns.proofs.Passes.{run_append}
use Rattle.nova_burst.specs.Lending.{ComesAfter, LeaseView, StemsFrom}
use Rattle.nova_lock.specs.Seats.{SeatView}

-- a use of the lock leaves its seat the number
pub number_kept : {T : Type 0} (s t : SeatView T) → t ≡ record s { front = t.front } → s.number ≡ t.number
number_kept {T} s t same = sym (ap (λ (v : SeatView T). v.number) same)

-- a lease that was taken after some turns comes after them in each history that begins with them
pub comes_after : (k : KernelState) (cpu : ℕ) (l : LeaseView) (found front h : List ℕ) (n : ℕ) → front ≡ found ++ replicate n cpu → n ≡ 0 → StemsFrom l (run k found) → IsPrefix front h → ComesAfter l (run k h)
comes_after k cpu l found front h n left none stems prefix =
    let same : front ≡ found = left ∙ ap (λ (m : ℕ). found ++ replicate m cpu) none ∙ append-nil found in record {
      begin = run k found;
      stems = stems;
      turns = prefix.0;
      leads = ap (run k) (sym prefix.1) ∙ ap (λ (xs : List ℕ). run k (xs ++ prefix.0)) same ∙ run_append k found prefix.0;
    }
