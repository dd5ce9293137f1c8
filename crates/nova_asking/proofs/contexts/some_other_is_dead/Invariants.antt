use Rattle.std.proofs.Common.{◌≡◌, ◌-◌, length}
use Rattle.std.specs.List.{list_any, range_with_len}
use Rattle.nova_asking.specs.Questions.{is_other_dead, some_other_is_dead}
use Rattle.nova_asking.proofs.contexts.some_other_is_dead.Given as goal

-- the numbers that are left decide
abbrev pub invariant-loop-n : goal.invariant-loop-n
invariant-loop-n l =
    list_any (is_other_dead l.ec l.kernel.state) (range_with_len l.n (length l.kernel.state.objects - l.n)) ≡ some_other_is_dead l.ec l.kernel.state
