-- Inputs one after another, of guests alone and of virtual CPUs in runs.
use Rattle.std.proofs.Common.{◌≡◌, ℕ, ◌*◌, ◌/◌, ◌^◌, ◌≤◌, List, [], ◌∷◌, length, take, drop, arith}
use Rattle.std.specs.Prelude.{Bool, Option, Some, None, IfSome}
use Rattle.std.specs.List.{All, concat}
use Rattle.std.proofs.lemmas.List.{length-take}
use Rattle.std.proofs.lemmas.List.Elements.{All-cons, All-nil, All-tail, All-head}
use Rattle.nova_guest.specs.Alone.{alone, applied, out_before, outputs}
use Rattle.nova_guest.specs.Cells.{page_size}
use Rattle.nova_guest.specs.Conditions.{IsInput}
use Rattle.nova_guest.specs.declared.guest.Guest.{Guest}
use Rattle.nova_guest.specs.declared.input.Input.{Input}
use Rattle.nova_guest.specs.declared.input.Input.TheVariants as input_as
use Rattle.nova_guest.specs.declared.input.Out.{Out}
use Rattle.nova_model.specs.Choice.{in_front}
use Rattle.nova_model.specs.Guests.{input, inputs}
use Rattle.nova_model.specs.Inputs.{contents_of}
use Rattle.nova_model.specs.Runs.{after}
use Rattle.nova_model.specs.State.{KernelState}
use Rattle.law_isolation.specs.Sound.{AreWhole, IsSound}
use Rattle.law_isolation.proofs.Exchanges.{all_drop, all_take, length_concat}
use Rattle.law_isolation.proofs.Runs.{turn_sound}
use Rattle.law_renaming.specs.Renamings.{InputFits, GuestsAgree, InputsAgree, IsOneToOne, OutsAgree}
use Rattle.law_renaming.proofs.Contents.{contents_fit}
use Rattle.law_renaming.proofs.Passing.{input_passes}
use Rattle.law_renaming.proofs.Steps.{PutsAgree, apply_agrees}

-- THE GUEST ALONE

puts_before : (r : ℕ → ℕ → Bool) (o p : Option Out) (os ps : List Out) → PutsAgree r o p → OutsAgree r os ps → OutsAgree r (out_before o os) (out_before p ps)
puts_before r None None os ps first rest = rest
puts_before r None (Some p) os ps first rest = absurd first
puts_before r (Some o) None os ps first rest = absurd first
puts_before r (Some o) (Some p) os ps first rest = (first, rest)

pub record EndsAgree (r : ℕ → ℕ → Bool) (u v : Guest) (is js : List Input) : Type 0 where
  pub guests : GuestsAgree r (alone u is) (alone v js)
  pub outs : OutsAgree r (outputs u is) (outputs v js)

pub alone_agrees : (r : ℕ → ℕ → Bool) → IsOneToOne r → (u v : Guest) → GuestsAgree r u v → (is js : List Input) → All InputFits is → InputsAgree r is js → EndsAgree r u v is js
alone_agrees r one u v same [] [] fit h = record { guests = same; outs = tt }
alone_agrees r one u v same [] (j ∷ js) fit h = absurd h
alone_agrees r one u v same (i ∷ is) [] fit h = absurd h
alone_agrees r one u v same (i ∷ is) (j ∷ js) fit h =
    let once = apply_agrees r one u v same i j (All-head InputFits i is fit) h.0 in
    let rest = alone_agrees r one (applied u i).guest (applied v j).guest once.guest is js (All-tail InputFits i is fit) h.1 in record {
      guests = rest.guests;
      outs = puts_before r (applied u i).out (applied v j).out (outputs (applied u i).guest is) (outputs (applied v j).guest js) once.out rest.outs;
    }

-- inputs that `alone` takes
pub input_fits : (i : Input) → IsInput i → InputFits i
input_fits (input_as.Given base order rights frame contents) is = contents_fit order contents is.1
input_fits other is = tt

-- WHAT TURNS ARE FOR A VIRTUAL CPU

given_fits : (frame order : ℕ) (ram : List (List ℕ)) → AreWhole ram → length (contents_of ram frame order) / page_size ≤ 2 ^ order
unfolding page_size
given_fits frame order ram whole =
    let some : List (List ℕ) = take (2 ^ order) (drop frame ram) in
    let count : length (concat some) ≡ length some * 4096 =
    length_concat 4096 some (all_take (λ p. length p ≡ 4096) (2 ^ order) (drop frame ram) (all_drop (λ p. length p ≡ 4096) frame ram whole)) in
    let short = length-take (2 ^ order) (drop frame ram) in grind (arith, count, short)

turn_fits : (k : KernelState) (cpu g : ℕ) → IsSound k → IfSome (input k cpu g) InputFits
turn_fits k cpu g sound = input_passes k cpu g InputFits (record {
  own = tt;
  sent = tt;
  died = tt;
  recall = tt;
  reply = λ mtd words. tt;
  taken = λ base order. tt;
  given = λ ec d cursor allowed is. given_fits d.target d.order k.memory.ram sound.whole.frames;
  foreign = λ frame offset width value covered ram. tt;
})

pub front_each : (P : Input → Type 0) (i : Option Input) (is : List Input) → IfSome i P → All P is → All P (in_front i is)
front_each P None is first rest = rest
front_each P (Some i) is first rest = All-cons P i is first rest

pub inputs_fit : (k : KernelState) (turns : List ℕ) (g : ℕ) → IsSound k → All InputFits (inputs k turns g)
inputs_fit k [] g sound = All-nil InputFits
inputs_fit k (cpu ∷ turns) g sound =
    front_each InputFits (input k cpu g) (inputs (after k cpu) turns g) (turn_fits k cpu g sound) (inputs_fit (after k cpu) turns g (turn_sound k cpu sound))
