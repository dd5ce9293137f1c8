-- Which contexts wait for a handler, and which act.
use Rattle.std.specs.Prelude.{◌≡◌, ◌⊎◌, ℕ}
use Rattle.nova_model.specs.declared.context.State.{State}
use Rattle.nova_model.specs.declared.context.State.TheVariants.{Calling, Helping, Sending}

-- the three states in which a context waits for a handler: it called it, helps it, or has an exit for it
abbrev pub WaitsFor : State → ℕ → Type 0
WaitsFor s handler = (s ≡ Calling handler) ⊎ ((s ≡ Helping handler) ⊎ ((reason : ℕ) × (q0 : ℕ) × (q1 : ℕ) × (s ≡ Sending reason q0 q1 handler)))
