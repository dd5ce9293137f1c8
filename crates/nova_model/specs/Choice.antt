-- What runs: of the runnable scheduling contexts of a processor, that of greatest priority, then of least stamp.
use Rattle.std.specs.Prelude.{ℕ, ◌+◌, ◌==◌, ◌&&◌, ◌||◌, Bool, not, nat_lt, List, [], ◌∷◌, Option, Some, None, is_none, option_map, if◌then◌else◌}
use Rattle.std.specs.List.{find, list_all, range_with_len}
use Rattle.nova_model.specs.Numbers.{EcId, ScId, CpuId}
use Rattle.nova_model.specs.Edges.{acts, chase}
use Rattle.nova_model.specs.State.{KernelState, budget_at}
use Rattle.nova_model.specs.Times.{due_on, next_moment}
use Rattle.nova_model.specs.declared.budget.Budget.{Budget}
use Rattle.nova_model.specs.declared.times.Due.{Due}
use Rattle.nova_objects.specs.declared.object.Object.{Object}
use Rattle.nova_objects.specs.declared.object.Object.TheVariants.{Sc}

-- a runnable scheduling context: its number, the execution context that acts in its turns, its priority and its stamp
pub record Candidate : Type 0 where
  pub sc : ScId
  pub actor : EcId
  pub priority : ℕ
  pub stamp : ℕ

abbrev pub candidate_with : ScId → EcId → ℕ → Option Budget → Option Candidate
candidate_with sc actor priority (Some b) = Some (record { sc = sc; actor = actor; priority = priority; stamp = b.stamp })
candidate_with sc actor priority None = None

-- the context that acts in the turns that an execution context is given: the end of its chase
abbrev pub actor : KernelState → EcId → EcId
actor k ec = chase k.contexts ec

-- the object of this number, where it is a runnable scheduling context of the processor
abbrev pub candidate_of : KernelState → CpuId → ScId → Object → Option Candidate
candidate_of k cpu sc (Sc ec its_cpu priority quantum) =
    if (its_cpu == cpu) && acts k.contexts (actor k ec) then candidate_with sc (actor k ec) priority (budget_at k sc) else None
candidate_of k cpu sc other = None

abbrev pub in_front : {T : Type 0} → Option T → List T → List T
in_front None xs = xs
in_front (Some x) xs = x ∷ xs

-- the candidates among objects that are numbered from `sc` on
abbrev pub candidates_from : KernelState → CpuId → ScId → List Object → List Candidate
candidates_from k cpu sc [] = []
candidates_from k cpu sc (o ∷ os) = in_front (candidate_of k cpu sc o) (candidates_from k cpu (sc + 1) os)

abbrev pub candidates : KernelState → CpuId → List Candidate
candidates k cpu = candidates_from k cpu 0 k.objects

-- of two priorities, each with its stamp, the first goes before the second: a greater priority, or the same and a lesser stamp
abbrev pub outranks : ℕ → ℕ → ℕ → ℕ → Bool
outranks priority stamp other_priority other_stamp =
    nat_lt other_priority priority || ((priority == other_priority) && nat_lt stamp other_stamp)

abbrev pub goes_before : Candidate → Candidate → Bool
goes_before a b = outranks a.priority a.stamp b.priority b.stamp

-- the first element of `xs` before which none of them goes
abbrev pub first_of : {T : Type 0} → (T → T → Bool) → List T → Option T
first_of before xs = find (λ a. list_all (λ b. not (before b a)) xs) xs

abbrev pub foremost : List Candidate → Option Candidate
foremost cs = first_of goes_before cs

unfoldable pub choice : KernelState → CpuId → Option Candidate
choice k cpu = foremost (candidates k cpu)

-- the scheduling context that the processor's next turn is charged to, or none
abbrev pub choose : KernelState → CpuId → Option ScId
choose k cpu = option_map (λ c. c.sc) (choice k cpu)

-- a processor is idle where nothing is runnable and nothing is to come; and no processor has a turn to take
abbrev pub is_idle : KernelState → CpuId → Bool
is_idle k cpu = is_none (choice k cpu) && is_none (next_moment k.times cpu)

abbrev pub is_quiet : KernelState → Bool
is_quiet k = list_all (is_idle k) (range_with_len 0 k.cpus)

-- the candidate that acts in the processor's next turn: the chosen one, where nothing is due
abbrev pub unless_due : Option Due → Option Candidate → Option Candidate
unless_due (Some what) c = None
unless_due None c = c

unfoldable pub next_to_act : KernelState → CpuId → Option Candidate
next_to_act k cpu = unless_due (due_on k.times cpu) (choice k cpu)
