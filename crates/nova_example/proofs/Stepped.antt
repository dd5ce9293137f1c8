-- Turns of one processor, one after another.
use Rattle.std.proofs.Common.{◌≡◌, ℕ, ◌+◌, ◌<◌, ◌≤◌, [], ◌∷◌, refl, replicate, ap, sym, ◌∙◌, arith}
use Rattle.std.specs.Prelude.{Bool, true, false, nat_lt}
use Rattle.std.proofs.lemmas.Bool.Decides.{nat_tests}
use Rattle.std.proofs.lemmas.List.{replicate-append-replicate}
use Rattle.nova_model.specs.State.{KernelState}
use Rattle.nova_model.specs.Runs.{after, run}
use Rattle.nova_model.specs.declared.event.Turn.{Turn}
use Rattle.nova_model.specs.declared.event.Turn.TheVariants.{Stepped, Idle}
use Rattle.nova_kernel.specs.Views.{turns_taken}
use Rattle.law_turns.proofs.Passes.{run_append}

-- one more
pub one_more : (k s t : KernelState) (n cpu : ℕ) → s ≡ run k (replicate n cpu) → t ≡ after s cpu → t ≡ run k (replicate (n + 1) cpu)
one_more k s t n cpu so_far turned =
    turned ∙ ap (λ (x : KernelState). after x cpu) so_far ∙ sym (run_append k (replicate n cpu) (cpu ∷ []))
    ∙ ap (run k) (replicate-append-replicate n 1 cpu)

-- the word was not said before each of them
pub not_before : (P : ℕ → Bool) (n : ℕ) → ((i : ℕ) → i < n → P i ≡ false) → P n ≡ false → (i : ℕ) → i < n + 1 → P i ≡ false
not_before P n before now i less = by_test (nat_lt i n) refl
  where
    by_test : (t : Bool) → nat_lt i n ≡ t → P i ≡ false
    by_test true h = before i (grind (arith, nat_tests, h))
    by_test false h = (let last : i ≡ n = grind (arith, nat_tests, h, less) in ap P last) ∙ now

-- a turn counts for one at most
pub one_turn : (k s t : KernelState) (n : ℕ) (told : Turn) → t.turns ≡ s.turns + turns_taken told → s.turns ≤ k.turns + n → t.turns ≤ k.turns + (n + 1)
one_turn k s t n (Stepped event) counted fewer = grind (arith, counted, fewer)
one_turn k s t n Idle counted fewer = grind (arith, counted, fewer)
