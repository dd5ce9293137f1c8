-- Whether a frame is among those of a range whose order is great, or small.
use Rattle.std.proofs.Common.{◌≡◌, ◌+◌, ◌^◌, ◌<◌, ◌≤◌, ℕ, arith}
use Rattle.std.specs.Prelude.{true, nat_lt}
use Rattle.std.proofs.Math.Nat.{pow-le-pow_right}
use Rattle.std.proofs.lemmas.Bool.{lt-ltb}

beyond : (target frame most size : ℕ) → frame < most → most ≤ size → frame < target + size
beyond target frame most size below more = omega (arith, below, more)

-- a range of 2^32 frames and more ends after all that there may be
pub far_end : (target frame order : ℕ) → frame < 2 ^ 32 → 32 ≤ order → nat_lt frame (target + 2 ^ order) ≡ true
far_end target frame order below far =
    lt-ltb frame (target + 2 ^ order) (beyond target frame (2 ^ 32) (2 ^ order) below (pow-le-pow_right {n = 2} (omega arith) far))
