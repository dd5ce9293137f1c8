use Rattle.std.proofs.Common.{◌≡◌, ◌-◌, ℕ, length}
use Rattle.std.specs.List.{list_any, range_with_len}
use Rattle.nova_model.specs.State.{context_at}
use Rattle.nova_asking.specs.Questions.{some_context, is_dead}
use Rattle.nova_asking.proofs.contexts.some_is_dead.Given as goal

-- the numbers that are left decide
abbrev pub invariant-loop-n : goal.invariant-loop-n
invariant-loop-n l =
    list_any (λ (n : ℕ). is_dead (context_at l.kernel.state n)) (range_with_len l.n (length l.kernel.state.objects - l.n)) ≡ some_context is_dead l.kernel.state
