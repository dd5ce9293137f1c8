-- Turns of one processor, one part after another.
use Rattle.std.proofs.Common.{◌≡◌, ℕ, ◌+◌, ◌≤◌, List, ap, ◌∙◌, subst, replicate}
use Rattle.std.proofs.lemmas.List.{replicate-append-replicate}
use Rattle.nova_model.specs.State.{KernelState}
use Rattle.nova_model.specs.Runs.{IsFreeOfIdle, run}
use Rattle.law_turns.proofs.Passes.{free_append}
use Rattle.nova_finished.specs.UnderWay.{IsGone, Passed}
use Rattle.nova_finished.specs.declared.finished.Finished.{Finished}
use Rattle.nova_finished.proofs.Passing.{Passed-through}

-- turns of one processor so far, and more of them, none of them idle
pub turns_on : (a b c : Finished) (cpu few most n m : ℕ) → IsGone a cpu few n b → IsGone b cpu most m c → (all : ℕ) → n + m ≤ all → IsGone a cpu all (n + m) c
turns_on a b c cpu few most n m was more all fits =
    let passed = Passed-through a b c (replicate n cpu) (replicate m cpu) was.passed more.passed in
    let free = free_append a.kernel.state (replicate n cpu) (replicate m cpu) was.no_idle (subst (λ (k : KernelState). IsFreeOfIdle k (replicate m cpu)) was.passed.kernel more.no_idle) in
    let both = subst (λ (l : List ℕ). Passed a l c × IsFreeOfIdle a.kernel.state l) (replicate-append-replicate n m cpu) (passed, free) in
    record { few = fits; passed = both.0; no_idle = both.1 }

-- where none was taken, the state is as before
pub none_gone : (a b : Finished) (cpu most n : ℕ) → IsGone a cpu most n b → n ≡ 0 → b.kernel.state ≡ a.kernel.state
none_gone a b cpu most n gone none = gone.passed.kernel ∙ ap (λ (m : ℕ). run a.kernel.state (replicate m cpu)) none
