-- The inputs of a list of turns.
use Rattle.std.proofs.Common.{◌≡◌, ℕ, List, [], ◌∷◌, ◌++◌, ap, ◌∙◌, refl}
use Rattle.std.specs.Prelude.{Option, Some, None}
use Rattle.nova_guest.specs.declared.input.Input.{Input}
use Rattle.nova_model.specs.Choice.{in_front}
use Rattle.nova_model.specs.Guests.{input, inputs}
use Rattle.nova_model.specs.Runs.{after, run}
use Rattle.nova_model.specs.State.{KernelState}

front_more : (o : Option Input) (xs ys : List Input) → in_front o (xs ++ ys) ≡ in_front o xs ++ ys
front_more None xs ys = refl
front_more (Some i) xs ys = refl

pub no_inputs : (k : KernelState) (g : ℕ) → inputs k [] g ≡ []
no_inputs k g = refl

pub one_input : (k : KernelState) (cpu g : ℕ) → inputs k (cpu ∷ []) g ≡ in_front (input k cpu g) []
one_input k cpu g = refl

pub more_inputs : (k : KernelState) (first later : List ℕ) (g : ℕ) → inputs k (first ++ later) g ≡ inputs k first g ++ inputs (run k first) later g
more_inputs k [] later g = refl
more_inputs k (cpu ∷ first) later g =
    ap (in_front (input k cpu g)) (more_inputs (after k cpu) first later g)
    ∙ front_more (input k cpu g) (inputs (after k cpu) first g) (inputs (run (after k cpu) first) later g)
