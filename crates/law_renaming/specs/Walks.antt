-- Two guests compared in one pass over their inputs: pairs are kept that were met, each once, and a new one must suit them.
use Rattle.std.specs.Prelude.{ℕ, zero, suc, ◌&&◌, Bool, List, [], ◌∷◌, ◌++◌, Option, Some, None, if◌then◌else◌}
use Rattle.std.specs.List.{list_all}
use Rattle.nova_guest.specs.declared.guest.Guest.{Guest}
use Rattle.nova_guest.specs.declared.input.Input.{Input}
use Rattle.law_renaming.specs.Forced.{alike, alike_input, among, has_same_bytes, input_pairs, maps_pairs, suits}
use Rattle.law_renaming.specs.Verdicts.{Verdict, Equal, Views, Differ}

-- pairs that join those that were met; a pair that doesn't suit them, or whose frames had unlike bytes at first, can't
abbrev pub can_join : Guest → Guest → List (ℕ × ℕ) → ℕ × ℕ → Bool
can_join u v met p = list_all (suits p) met && has_same_bytes u.cells v.cells p

abbrev pub joined : Guest → Guest → List (ℕ × ℕ) → List (ℕ × ℕ) → Option (List (ℕ × ℕ))
joined u v met [] = Some met
joined u v met (p ∷ ps) =
    if among met p.0 p.1 then joined u v met ps
    else if can_join u v met p then joined u v (met ++ (p ∷ [])) ps
    else None

-- one input of each side
abbrev pub stepped : Guest → Guest → List (ℕ × ℕ) → Input → Input → Option (List (ℕ × ℕ))
stepped u v met i j = if alike_input i j then joined u v met (input_pairs i j) else None

abbrev pub counted : ℕ → Option (List (ℕ × ℕ)) → ℕ
counted n (Some met) = suc n
counted n None = n

-- all inputs, after `n` that agree
abbrev pub walked : Guest → Guest → Option (List (ℕ × ℕ)) → ℕ → List Input → List Input → Verdict
walked u v None n is js = Differ n
walked u v (Some met) n [] [] = Equal n met
walked u v (Some met) n [] (j ∷ js) = Differ n
walked u v (Some met) n (i ∷ is) [] = Differ n
walked u v (Some met) n (i ∷ is) (j ∷ js) = walked u v (stepped u v met i j) (counted n (stepped u v met i j)) is js

abbrev pub started : Guest → Guest → Option (List (ℕ × ℕ)) → List Input → List Input → Verdict
started u v None is js = Views
started u v (Some met) is js = walked u v (Some met) zero is js

abbrev pub walk : Guest → Guest → List Input → List Input → Verdict
walk u v is js = if alike u v then started u v (joined u v [] (maps_pairs u.maps v.maps)) is js else Views
