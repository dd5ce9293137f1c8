-- Two guests compared, each with its inputs.
use Rattle.std.specs.Prelude.{◌≡◌, ◌<◌, ◌≤◌, ◌⊎◌, ℕ, zero, suc, min, Bool, List, [], length, take, if◌then◌else◌}
use Rattle.nova_guest.specs.declared.guest.Guest.{Guest}
use Rattle.nova_guest.specs.declared.input.Input.{Input}
use Rattle.law_renaming.specs.Forced.{agree, among, forced, once}
use Rattle.law_renaming.specs.Renamings.{GuestsAgree, InputsAgree, IsOneToOne, Renames}

-- A VERDICT: they agree, with `inputs` inputs on each side and these pairs of frames; or not even the guests do; or they do with the first `inputs`
-- inputs
pub data Verdict : Type 0 where
  Equal : (inputs : ℕ) → (pairs : List (ℕ × ℕ)) → Verdict
  Views : Verdict
  Differ : (inputs : ℕ) → Verdict

-- WHAT IT MEANS

-- a one-to-one renaming makes the guests and all inputs agree; some finite one does; none does
pub record IsAgreement (r : ℕ → ℕ → Bool) (u v : Guest) (is js : List Input) : Type 0 where
  pub one : IsOneToOne r
  pub guests : GuestsAgree r u v
  pub inputs : InputsAgree r is js

abbrev pub CanAgree : Guest → Guest → List Input → List Input → Type 0
CanAgree u v is js = (pairs : List (ℕ × ℕ)) × IsAgreement (among pairs) u v is js

abbrev pub CantAgree : Guest → Guest → List Input → List Input → Type 0
CantAgree u v is js = (r : ℕ → ℕ → Bool) → IsAgreement r u v is js → ⊥

-- equal: `inputs` inputs on each side, and pairs that make all agree and that each renaming has which does
pub record AreEqual (u v : Guest) (is js : List Input) (inputs : ℕ) (pairs : List (ℕ × ℕ)) : Type 0 where
  pub agreement : IsAgreement (among pairs) u v is js
  pub least : (r : ℕ → ℕ → Bool) → IsAgreement r u v is js → (a b : ℕ) → Renames (among pairs) a b → Renames r a b
  pub first : inputs ≡ length is
  pub second : inputs ≡ length js

-- they differ after `inputs` inputs: those can agree, and with one more they can't, or one side has no more and the other has
pub record AreDifferent (u v : Guest) (is js : List Input) (inputs : ℕ) : Type 0 where
  pub first : inputs ≤ length is
  pub second : inputs ≤ length js
  pub agree : CanAgree u v (take inputs is) (take inputs js)
  pub ends : (inputs < length is → inputs < length js → CantAgree u v (take (suc inputs) is) (take (suc inputs) js))
  pub more : (inputs < length is) ⊎ (inputs < length js)

abbrev pub IsVerdict : Guest → Guest → List Input → List Input → Verdict → Type 0
IsVerdict u v is js (Equal inputs pairs) = AreEqual u v is js inputs pairs
IsVerdict u v is js Views = CantAgree u v [] []
IsVerdict u v is js (Differ inputs) = AreDifferent u v is js inputs

-- two verdicts say the same: of equal sides as many inputs, and the same pairs
abbrev pub SayTheSame : Verdict → Verdict → Type 0
SayTheSame (Equal inputs pairs) (Equal n others) = (inputs ≡ n) × ((a b : ℕ) → among pairs a b ≡ among others a b)
SayTheSame Views Views = Unit {0}
SayTheSame (Differ inputs) (Differ n) = inputs ≡ n
SayTheSame x y = ⊥

-- AND HOW IT IS FOUND: by the pairs that are forced
abbrev pub agree_first : Guest → Guest → List Input → List Input → ℕ → Bool
agree_first u v is js n = agree u v (take n is) (take n js)

-- the greatest number of first inputs, up to one, that can agree
abbrev pub most : Guest → Guest → List Input → List Input → ℕ → ℕ
most u v is js zero = zero
most u v is js (suc n) = if agree_first u v is js (suc n) then suc n else most u v is js n

abbrev pub compared : Guest → Guest → List Input → List Input → Verdict
compared u v is js =
    if agree u v [] [] then
    (if agree u v is js then Equal (length is) (once (forced u v is js)) else Differ (most u v is js (min (length is) (length js))))
    else Views
