-- Two places of a list are set in either order; and lists of frames that don't meet have no frame in common.
use Rattle.std.proofs.Common.{◌≡◌, ◌≢◌, ℕ, List, refl}
use Rattle.std.specs.Prelude.{Bool, true, false, ◌==◌, ◌&&◌, ◌||◌, not, Contains}
use Rattle.std.proofs.lemmas.Bool.{eqb-false}
use Rattle.law_forest.proofs.Members.{all_at, in_from_contains, none_any}
use Rattle.law_swaps.specs.Touches.{Touch, are_apart, has, meet}

-- FRAMES

pub absent : (xs : List ℕ) (x y : ℕ) → has xs x ≡ false → Contains xs y → x ≢ y
absent xs x y none there = eqb-false x y (all_at (λ z. (x == z) ≡ false) xs y (none_any (λ z. x == z) xs none) (in_from_contains xs y there))

pub none_shared : (xs ys : List ℕ) (x y : ℕ) → meet xs ys ≡ false → Contains xs x → Contains ys y → x ≢ y
none_shared xs ys x y none here there = absent ys x y (all_at (λ z. has ys z ≡ false) xs x (none_any (has ys) xs none) (in_from_contains xs x here)) there

-- what it is to be apart
pub record IsApart (p : ℕ) (a b : Touch) : Type 0 where
  pub plain : a.is_plain ≡ true
  pub unmet : has b.meets p ≡ false
  pub still : b.moves ≡ false
  pub unread : meet b.writes a.reads ≡ false
  pub unwritten : meet b.writes a.writes ≡ false
  pub unseen : meet a.writes b.reads ≡ false

abbrev All : Bool → Bool → Bool → Bool → Bool → Bool → Type 0
All x y z u v w = (x ≡ true) × (y ≡ false) × (z ≡ false) × (u ≡ false) × (v ≡ false) × (w ≡ false)

each : (x y z u v w : Bool) → (x && not (y || (z || (u || (v || w))))) ≡ true → All x y z u v w
each false y z u v w h = absurd (cc)
each true true z u v w h = absurd (cc)
each true false true u v w h = absurd (cc)
each true false false true v w h = absurd (cc)
each true false false false true w h = absurd (cc)
each true false false false false true h = absurd (cc)
each true false false false false false h = (refl, refl, refl, refl, refl, refl)

pub apart : (p : ℕ) (a b : Touch) → are_apart p a b ≡ true → IsApart p a b
apart p a b h =
    let all = each a.is_plain (has b.meets p) b.moves (meet b.writes a.reads) (meet b.writes a.writes) (meet a.writes b.reads) h in
    record { plain = all.0; unmet = all.1; still = all.2; unread = all.3; unwritten = all.4; unseen = all.5 }
