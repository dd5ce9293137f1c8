use Rattle.std.proofs.Common.{◌≡◌, ℕ, ◌*◌, ◌^◌, ◌<◌, ◌≤◌, List, [], ◌∷◌, length, get_or, arith}
use Rattle.std.proofs.lemmas.Grind.{common_steps}
use Rattle.std.specs.Int.{w32, from_le_bytes}
use Rattle.vectors_runs.proofs.memory.number_of.Goals as goal

-- bytes make a number of eight bits each
bytes_fit : (bytes : List ℕ) → length bytes ≤ 4 → ((k : ℕ) → get_or bytes k 0 < 256) → from_le_bytes w32 bytes < 2 ^ (8 * length bytes)
bytes_fit [] short fits = omega arith
bytes_fit (a ∷ []) short fits = omega (arith, fits 0)
bytes_fit (a ∷ b ∷ []) short fits = omega (arith, fits 0, fits 1)
bytes_fit (a ∷ b ∷ c ∷ []) short fits = omega (arith, fits 0, fits 1, fits 2)
bytes_fit (a ∷ b ∷ c ∷ d ∷ []) short fits = omega (arith, fits 0, fits 1, fits 2, fits 3)
bytes_fit (a ∷ b ∷ c ∷ d ∷ e ∷ more) short fits = absurd (omega arith)

pub returns-clause-fits : goal.returns-clause-fits
returns-clause-fits c =
    let is : c.from_le_bytes.result ≡ from_le_bytes w32 c.args.bytes.now = grind (arith, common_steps) in
    rw is (bytes_fit c.args.bytes.now c.requires (λ k. omega (arith, c.type_inv.bytes k)))
