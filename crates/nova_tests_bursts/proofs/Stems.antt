-- A lease, and the states after that from which it stems.
use Rattle.std.proofs.Common.{◌≡◌, ℕ, List, [], ◌∷◌, ◌++◌, refl, ap, sym, ◌∙◌}
use Rattle.nova_model.specs.Runs.{after, run}
use Rattle.nova_model.specs.State.{KernelState}
use Rattle.nova_burst.specs.Lending.{ComesAfter, LeaseView, StemsFrom}

pub at_once : (l : LeaseView) (k : KernelState) → StemsFrom l k → ComesAfter l k
at_once l k stems = record { begin = k; stems = stems; turns = []; leads = refl }

run_last : (k : KernelState) (xs : List ℕ) (cpu : ℕ) → run k (xs ++ cpu ∷ []) ≡ after (run k xs) cpu
run_last k [] cpu = refl
run_last k (x ∷ xs) cpu = run_last (after k x) xs cpu

pub one_more : (l : LeaseView) (k : KernelState) (cpu : ℕ) → ComesAfter l k → ComesAfter l (after k cpu)
one_more l k cpu c = record {
  begin = c.begin;
  stems = c.stems;
  turns = c.turns ++ cpu ∷ [];
  leads = ap (λ (s : KernelState). after s cpu) c.leads ∙ sym (run_last c.begin c.turns cpu);
}
