-- What a turn tells is what its seat learns.
use Rattle.std.proofs.Common.{◌≡◌, ℕ, ◌+◌, ◌-◌, ◌≤◌, List, [], ◌∷◌, ◌++◌, length, refl, ap, ap₂, sym, ◌∙◌, arith, length-append, subst, Some}
use Rattle.std.specs.Prelude.{replicate, slice_get, Result, Ok, Err, IfOk, IfErr, OnErr}
use Rattle.std.proofs.lemmas.List.{length-replicate}
use mathlib.Core.List.{IsPrefix}
use Rattle.nova_lock.specs.History.{entries, IsFrontOf}
use Rattle.nova_lock.specs.Seats.{SeatView}
use Rattle.nova_model.specs.State.{KernelState}
use Rattle.nova_shared.specs.Ran.{Ran}
use Rattle.nova_shared.specs.Seen.{IsTurnOf, Learns, LearnsOfBlock, LearnsOfOthers, mine, seen}
use Rattle.nova_shared.specs.Told.{IsTold, IsRefused}
use Rattle.nova_shared.specs.declared.shared_run.SharedTurn.{SharedTurn}
use Rattle.nova_shared.specs.declared.shared_run.SharedTurn.TheVariants.{Stepped, Idle, AtLimit}
use Rattle.nova_shared.proofs.Seats.{block_mine, stepped_mine}

prefix_length : (xs ys : List ℕ) → IsPrefix xs ys → length xs ≤ length ys
prefix_length xs ys p = omega (arith, ap length p.1, length-append xs p.0)

entry_behind : (xs : List ℕ) (x : ℕ) → slice_get (xs ++ x ∷ []) (length xs) ≡ Some x
entry_behind [] x = refl
entry_behind (y ∷ xs) x = entry_behind xs x

module _ (k : KernelState) (most : ℕ) (old new : SeatView Ran) (found : List ℕ) (same : new ≡ record old { front = new.front }) (front : IsFrontOf old.number old.front found) where
  number : new.number ≡ old.number
  number = ap (λ (s : SeatView Ran). s.number) same

  older : seen old ≤ length found
  older = prefix_length old.front found front.prefix

  -- the history was left as it was found
  stays : new.front ≡ found → mine new ≡ mine old
  stays left = ap₂ entries number left ∙ sym front.whole

  steps : (n : ℕ) → new.front ≡ found ++ old.number ∷ [] → n ≡ length found + 1 → IsTurnOf new.number new.front n
  steps n left is =
      let place : n - 1 ≡ length found = omega (arith, is) in
      ap₂ (λ (l : List ℕ) (m : ℕ). slice_get l m) left place ∙ entry_behind found old.number ∙ ap (λ (m : ℕ). Some m) (sym number)

  learns : (t : SharedTurn) → IsTold k most old.number found new.front t → Learns old new t
  learns (Stepped n) told = (
    omega (arith, older, told.1),
    steps n told.0 told.1,
    omega (arith, ap length told.0, length-append found (old.number ∷ []), told.1),
    ap₂ entries number told.0 ∙ stepped_mine old.number old.front found front,
  )
  learns (Idle n) told = (omega (arith, older, told.1), ap length told.0 ∙ sym told.1, stays told.0)
  learns (AtLimit n) told = (omega (arith, older, told.1), ap length told.0 ∙ sym told.1, stays told.0)

  module _ (cpu : ℕ) (own : cpu ≡ old.number) where
    pub learned : (r : Result SharedTurn ℕ) → IfOk r (IsTold k most cpu found new.front) → IfOk r (Learns old new)
    learned (Ok t) told = learns t (subst (λ (n : ℕ). IsTold k most n found new.front t) own told)
    learned (Err n) told = tt

    pub learned_of_others : (r : Result SharedTurn ℕ) → IfErr r (λ taken. (taken ≡ length found) × IsRefused k most cpu found new.front) → OnErr r (LearnsOfOthers old new)
    learned_of_others (Ok t) refused = tt
    learned_of_others (Err n) refused = (omega (arith, older, ap length refused.1.0), stays refused.1.0)

    pub learned_of_block : (n : ℕ) → new.front ≡ found ++ replicate n cpu → LearnsOfBlock old new n
    learned_of_block n left =
        let place : new.front ≡ found ++ replicate n old.number = left ∙ ap (λ (m : ℕ). found ++ replicate n m) own in (
          omega (arith, older, ap length place, length-append found (replicate n old.number), length-replicate n old.number),
          ap₂ entries number place ∙ block_mine old.number n old.front found front,
        )
