-- Each guest agrees with itself, and maps between frames are renamings.
use Rattle.std.proofs.Common.{◌≡◌, ℕ, ◌==◌, ◌+◌, List, [], ◌∷◌, sym, ◌∙◌, refl}
use Rattle.std.specs.Prelude.{Bool, true}
use Rattle.std.proofs.lemmas.Bool.{eq-eqb, eqb-true}
use Rattle.nova_guest.specs.declared.guest.Guest.{Guest}
use Rattle.nova_guest.specs.declared.input.Input.{Input}
use Rattle.nova_guest.specs.declared.input.Input.TheVariants.{Own, Reply, Recall, Given, Taken, Foreign, Sent, Died}
use Rattle.nova_guest.specs.declared.map.Map.{Map}
use Rattle.law_renaming.specs.Renamings.{InputAgrees, InputsAgree, IsOneToOne, MapsAgree}
use Rattle.law_renaming.specs.Verdicts.{IsAgreement}

abbrev equal : ℕ → ℕ → Bool
equal a b = a == b

equal_self : (a : ℕ) → equal a a ≡ true
equal_self a = eq-eqb a a refl

maps_self : (ms : List Map) → MapsAgree equal ms ms
maps_self [] = tt
maps_self (m ∷ ms) = (record { base = refl; order = refl; rights = refl; frames = λ i within. equal_self (m.frame + i) }, maps_self ms)

input_self : (i : Input) → InputAgrees equal i i
input_self (Given base order rights frame contents) = (frame, refl, λ i within. equal_self (frame + i))
input_self (Foreign frame offset width value) = (frame, refl, equal_self frame)
input_self Own = refl
input_self Sent = refl
input_self Died = refl
input_self Recall = refl
input_self (Reply mtd words) = refl
input_self (Taken base order) = refl

inputs_self : (is : List Input) → InputsAgree equal is is
inputs_self [] = tt
inputs_self (i ∷ is) = (input_self i, inputs_self is)

pub map_one : (f : ℕ → ℕ) → ((a b : ℕ) → f a ≡ f b → a ≡ b) → IsOneToOne (λ a b. f a == b)
map_one f one = record {
  to = λ a b c ab ac. sym (eqb-true (f a) b ab) ∙ eqb-true (f a) c ac;
  from = λ a b c ac bc. one a b (eqb-true (f a) c ac ∙ sym (eqb-true (f b) c bc));
}

pub agrees_itself : (u : Guest) (is : List Input) → IsAgreement equal u u is is
agrees_itself u is = record {
  one = map_one (λ a. a) (λ a b e. e);
  guests = record {
    regs = refl;
    state = refl;
    recall = refl;
    maps = maps_self u.maps;
    cells = λ a b pair. let e = eqb-true a b pair in rw e refl;
  };
  inputs = inputs_self is;
}
