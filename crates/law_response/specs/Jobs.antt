-- The demand of others on a processor.
use Rattle.std.specs.Prelude.{◌≡◌, ◌≤◌, ◌+◌, ◌++◌, ℕ, List}
use Rattle.nova_model.specs.State.{KernelState}
use Rattle.law_response.specs.Waits.{above_in, due_in, turns_at}

-- Of the first n turns of the processor among these, for each n, at most `demand n` are due or of a greater priority.
abbrev pub MeetsDemand : KernelState → List ℕ → ℕ → ℕ → (ℕ → ℕ) → Type 0
MeetsDemand k turns cpu priority demand = (part later : List ℕ) → turns ≡ part ++ later → due_in k cpu part + above_in k cpu priority part ≤ demand (turns_at cpu part)
