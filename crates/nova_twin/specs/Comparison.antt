-- Two sides compared, and what comes of it.
use Rattle.std.specs.Prelude.{◌≡◌, ◌<◌, ◌≤◌, ◌⊎◌, ℕ, suc, List, [], length, take}
use Rattle.nova_guest.specs.declared.guest.Guest.{Guest}
use Rattle.nova_guest.specs.declared.input.Input.{Input}
use Rattle.law_renaming.specs.Forced.{among, named, once}
use Rattle.law_renaming.specs.Renamings.{GuestsAgree, InputsAgree, OutsAgree}
use Rattle.law_renaming.specs.Twins.{IsRenaming}
use Rattle.law_renaming.specs.Verdicts as renaming
use Rattle.nova_twin.specs.Sides.{IsSide}
use Rattle.nova_twin.specs.declared.side.Side.{Side}
use Rattle.nova_twin.specs.declared.verdict.Verdict.{Verdict}
use Rattle.nova_twin.specs.declared.verdict.Verdict.TheVariants.{Equal, Views, Differ}

-- the verdict as a relation on guests and inputs knows it
abbrev pub said : Verdict → renaming.Verdict
said (Equal inputs pairs) = renaming.Equal inputs pairs.items
said Views = renaming.Views
said (Differ inputs) = renaming.Differ inputs

-- A RENAMING of frames, of `ram` and `others` RAM frames, that makes two guests and their inputs agree: a finite list of pairs, one to one, RAM for
-- RAM and a console for a console
pub record MakesAgree (ram others : ℕ) (u v : Guest) (is js : List Input) (pairs : List (ℕ × ℕ)) : Type 0 where
  pub renaming : IsRenaming (among pairs) ram others
  pub guests : GuestsAgree (among pairs) u v
  pub inputs : InputsAgree (among pairs) is js

-- EQUAL: a renaming makes the guests and all inputs agree, `inputs` on each side. Its pairs are those that the guests' maps and the maps given name,
-- each once, in the order in which they are first met
pub record AreEqual (ram others : ℕ) (u v : Guest) (is js : List Input) (inputs : ℕ) (pairs : List (ℕ × ℕ)) : Type 0 where
  pub agree : MakesAgree ram others u v is js pairs
  pub first : inputs ≡ length is
  pub second : inputs ≡ length js
  pub met : pairs ≡ once (named u v is js)

-- DIFFERENT after `inputs` inputs: some renaming makes the guests and these inputs agree, and none does so for one more, or one side has no more and
-- the other has
pub record AreDifferent (ram others : ℕ) (u v : Guest) (is js : List Input) (inputs : ℕ) : Type 0 where
  pub first : inputs ≤ length is
  pub second : inputs ≤ length js
  pub pairs : List (ℕ × ℕ)
  pub agree : MakesAgree ram others u v (take inputs is) (take inputs js) pairs
  pub ends : inputs < length is → inputs < length js → (ps : List (ℕ × ℕ)) → MakesAgree ram others u v (take (suc inputs) is) (take (suc inputs) js) ps → ⊥
  pub more : (inputs < length is) ⊎ (inputs < length js)

-- the three cases
abbrev pub HoldsOf : ℕ → ℕ → Guest → Guest → List Input → List Input → Verdict → Type 0
HoldsOf ram others u v is js (Equal inputs pairs) = AreEqual ram others u v is js inputs pairs.items
HoldsOf ram others u v is js Views = (pairs : List (ℕ × ℕ)) → MakesAgree ram others u v [] [] pairs → ⊥
HoldsOf ram others u v is js (Differ inputs) = AreDifferent ram others u v is js inputs

-- of two sides, whose machines have `ram` and `others` RAM frames
abbrev pub Holds : ℕ → ℕ → Side → Side → Verdict → Type 0
Holds ram others a b verdict = HoldsOf ram others a.start b.start a.inputs.items b.inputs.items verdict

abbrev pub ram_of : (side : Side) → IsSide side → ℕ
ram_of side s = length s.opening.memory.ram

-- WHAT COMES OF IT: with equal sides the ends agree under the pairs, the exits are equal, and the bytes are but for their frames
pub record EndRenamed (a b : Side) (pairs : List (ℕ × ℕ)) : Type 0 where
  pub ends : GuestsAgree (among pairs) a.end b.end
  pub outs : OutsAgree (among pairs) a.outs.items b.outs.items

abbrev pub EndsSo : Side → Side → Verdict → Type 0
EndsSo a b (Equal inputs pairs) = EndRenamed a b pairs.items
EndsSo a b other = Unit {0}
