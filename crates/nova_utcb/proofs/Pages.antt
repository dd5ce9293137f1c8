-- The word that a store leaves, and the bytes of the page.
use Rattle.std.proofs.Common.{◌<◌, ◌≤◌, inl, inr, ℕ, zero, suc, ◌+◌, ◌^◌, sym, subst, arith}
use Rattle.nova_utcb.specs.Messages.{with_bytes}
use Rattle.nova_utcb.specs.Pages.{IsWidth}

byte_fits : (w at value : ℕ) → w < 2 ^ 32 → at < 4 → with_bytes w at 1 value < 2 ^ 32
byte_fits w zero value a b = omega arith
byte_fits w (suc zero) value a b = omega arith
byte_fits w (suc (suc zero)) value a b = omega arith
byte_fits w (suc (suc (suc zero))) value a b = omega arith
byte_fits w (suc (suc (suc (suc at)))) value a b = omega arith

half_fits : (w at value : ℕ) → w < 2 ^ 32 → at < 3 → with_bytes w at 2 value < 2 ^ 32
half_fits w zero value a b = omega arith
half_fits w (suc zero) value a b = omega arith
half_fits w (suc (suc zero)) value a b = omega arith
half_fits w (suc (suc (suc at))) value a b = omega arith

whole_fits : (w at value : ℕ) → w < 2 ^ 32 → at < 1 → with_bytes w at 4 value < 2 ^ 32
whole_fits w zero value a b = omega arith
whole_fits w (suc at) value a b = omega arith

pub word_fits : (w at width value : ℕ) → w < 2 ^ 32 → IsWidth width → at + width ≤ 4 → with_bytes w at width value < 2 ^ 32
word_fits w at width value a (inl e) b = subst (λ n. with_bytes w at n value < 2 ^ 32) (sym e) (byte_fits w at value a (omega (arith, e)))
word_fits w at width value a (inr (inl e)) b = subst (λ n. with_bytes w at n value < 2 ^ 32) (sym e) (half_fits w at value a (omega (arith, e)))
word_fits w at width value a (inr (inr e)) b = subst (λ n. with_bytes w at n value < 2 ^ 32) (sym e) (whole_fits w at value a (omega (arith, e)))
