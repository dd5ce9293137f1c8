-- Who acts where something is due, and where nothing is.
use Rattle.std.proofs.Common.{◌≡◌, ℕ, ◌-◌, refl, arith}
use Rattle.std.specs.Prelude.{Bool, true, false, ◌==◌, nat_le, is_some, Option, Some, None, option_map, option_and_then}
use Rattle.nova_model.specs.Choice.{Candidate, choice, next_to_act, unless_due}
use Rattle.nova_model.specs.State.{KernelState}
use Rattle.nova_model.specs.Times.{Entry, clock, due_on, if_due, next_entry, until_due}
use Rattle.nova_model.specs.declared.times.Due.{Due}
use Rattle.nova_asking.specs.Locations.{next_actor}

number : (x y : ℕ) → Some x ≡ Some y → x ≡ y
number x y e = cc

due_by : (now left : ℕ) (o : Option Entry) → option_map (λ (m : ℕ). m - now) (option_map (λ (e : Entry). e.moment) o) ≡ Some left →
    is_some (option_and_then (if_due now) o) ≡ (left == 0)
due_by now left None is = absurd (cc)
due_by now left (Some e) is = by_test (nat_le e.moment now) refl
  where
    by_test : (t : Bool) → nat_le e.moment now ≡ t → is_some (if_due now e) ≡ (left == 0)
    by_test true less = let same = number (e.moment - now) left is in rw less (grind (arith, less, same))
    by_test false more = let same = number (e.moment - now) left is in rw more (grind (arith, more, same))

never_by : (now : ℕ) (o : Option Entry) → option_map (λ (m : ℕ). m - now) (option_map (λ (e : Entry). e.moment) o) ≡ None → is_some (option_and_then (if_due now) o) ≡ false
never_by now None is = refl
never_by now (Some e) is = absurd (cc)

pub due_when : (k : KernelState) (cpu left : ℕ) → until_due k.times cpu ≡ Some left → is_some (due_on k.times cpu) ≡ (left == 0)
due_when k cpu left is = due_by (clock k.times cpu) left (next_entry k.times cpu) is

pub never_due : (k : KernelState) (cpu : ℕ) → until_due k.times cpu ≡ None → is_some (due_on k.times cpu) ≡ false
never_due k cpu is = never_by (clock k.times cpu) (next_entry k.times cpu) is

nobody : (o : Option Due) (c : Option Candidate) → is_some o ≡ true → option_map (λ (x : Candidate). x.actor) (unless_due o c) ≡ None
nobody None c is = absurd (cc)
nobody (Some what) c is = refl

chosen : (o : Option Due) (c : Option Candidate) → is_some o ≡ false → option_map (λ (x : Candidate). x.actor) (unless_due o c) ≡ option_map (λ (x : Candidate). x.actor) c
chosen None c is = refl
chosen (Some what) c is = absurd (cc)

pub nobody_where_due : (k : KernelState) (cpu : ℕ) → is_some (due_on k.times cpu) ≡ true → next_actor k cpu ≡ None
unfolding next_to_act
nobody_where_due k cpu is = nobody (due_on k.times cpu) (choice k cpu) is

pub chosen_where_not : (k : KernelState) (cpu : ℕ) → is_some (due_on k.times cpu) ≡ false → next_actor k cpu ≡ option_map (λ (c : Candidate). c.actor) (choice k cpu)
unfolding next_to_act
chosen_where_not k cpu is = chosen (due_on k.times cpu) (choice k cpu) is
