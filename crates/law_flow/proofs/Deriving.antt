-- Nothing that others hold is made of what a side holds, where its ranges are listed; so that it may revoke. So it is of the run that meets the premises.
use Rattle.std.proofs.Common.{◌≡◌, ℕ, List, [], ◌∷◌, refl, sym, ap, ◌∙◌, subst, inl, inr}
use Rattle.std.specs.Prelude.{◌||◌, Bool, true, false, Contains, not, replicate}
use Rattle.std.specs.List.{list_all}
use Rattle.std.proofs.lemmas.Bool.{and_parts}
use Rattle.nova_model.specs.Boot.{boot}
use Rattle.nova_model.specs.Lines.{line}
use Rattle.nova_model.specs.Runs.{run}
use Rattle.nova_model.specs.State.{KernelState}
use Rattle.nova_model.specs.declared.delegation.Derivation.{Derivation}
use Rattle.law_forest.proofs.Members.{IsIn, in_from_contains}
use Rattle.law_integrity.specs.Confined.{Of}
use Rattle.law_isolation.specs.Sound.{IsSound}
use Rattle.law_isolation.proofs.Runs.{reached_sound}
use Rattle.law_flow.specs.Examples.{first_domains, two_homes}
use Rattle.law_flow.specs.Flow.{AreRevokingWithin, DerivesWithin}
use Rattle.law_flow.proofs.Leaves.{derived_itself}
use Rattle.law_flow.proofs.Meeting.{ranges_shown, ranges_there}

abbrev stays_within : (ℕ → Bool) → Derivation → Derivation → Bool
stays_within S d a = not (S a.pd) || S d.pd

-- of these ranges, what is made of what these domains hold is theirs
abbrev pub all_stay : (ℕ → Bool) → List Derivation → Bool
all_stay S list = list_all (λ d. list_all (stays_within S d) (line list d)) list

true_of : (p : Derivation → Bool) (list : List Derivation) → list_all p list ≡ true → (d : Derivation) → IsIn list d → p d ≡ true
true_of p [] all d i = absurd i
true_of p (x ∷ list) all d (inl same) = ap p (sym same) ∙ (and_parts (p x) (list_all p list) all).0
true_of p (x ∷ list) all d (inr i) = true_of p list (and_parts (p x) (list_all p list) all).1 d i

stays_first : (t u : Bool) → (not t || u) ≡ true → t ≡ true → u ≡ true
stays_first true u h is = h
stays_first false u h is = absurd (cc)

pub within_by : (k : KernelState) (S : ℕ → Bool) (list : List Derivation) → k.delegations.list ≡ list → all_stay S list ≡ true → DerivesWithin k (Of S)
within_by k S list shown all d a has c s =
    let there : IsIn list d = in_from_contains list d (subst (λ (l : List Derivation). Contains l d) shown has) in
    let above : IsIn (line list d) a = in_from_contains (line list d) a (subst (λ (l : List Derivation). Contains (line l d) a) shown c) in
    stays_first (S a.pd) (S d.pd) (true_of (stays_within S d) (line list d) (true_of (λ x. list_all (stays_within S x) (line list x)) list all d there) a above) s

-- in one state its ranges are made of each other alike
pub revoking_itself : (k : KernelState) (S : ℕ → Type 0) → IsSound k → DerivesWithin k S → AreRevokingWithin k k S
revoking_itself k S sound within = record { alike = derived_itself k S sound.forest; first = within; second = within }

pub meets_revoking : AreRevokingWithin (run (boot two_homes) (replicate 66 0)) (run (boot two_homes) (replicate 66 0)) (Of first_domains)
meets_revoking =
    revoking_itself (run (boot two_homes) (replicate 66 0)) (Of first_domains) (reached_sound two_homes (replicate 66 0))
    (within_by (run (boot two_homes) (replicate 66 0)) first_domains ranges_there ranges_shown refl)
