-- What is counted of a scheduling context.
use Rattle.std.specs.Prelude.{ℕ, ◌-◌, ◌==◌, Option, Some, None, option_map, if◌then◌else◌}
use Rattle.nova_model.specs.declared.budget.Budget.{Budget}

-- the turns that are left of its quantum
abbrev pub left_in : Option Budget → Option ℕ
left_in o = option_map (λ (b : Budget). b.left) o

-- its stamp, 0 where there is none
abbrev pub stamp_in : Option Budget → ℕ
stamp_in (Some b) = b.stamp
stamp_in None = 0

-- the turns that are left after one more: where it was the last, all of the next quantum
abbrev pub next_left : ℕ → ℕ → ℕ
next_left quantum left = if left - 1 == 0 then quantum else left - 1
