-- A run that spins: its states are alike to the first.
use Rattle.std.proofs.Common.{◌≡◌, ◌≢◌, ℕ, zero, suc, List, [], ◌∷◌, ◌++◌, refl, sym, ap, ◌∙◌, subst}
use Rattle.std.specs.Prelude.{nat_lt, replicate, slice_get, Option, Some, None}
use Rattle.rv_model.specs.Codes.{instr_of}
use Rattle.rv_model.specs.Step.{one}
use Rattle.nova_calls.specs.Hypercalls.{call_of}
use Rattle.nova_objects.specs.declared.object.EcKind.TheVariants.{Global}
use Rattle.nova_objects.specs.declared.object.Object.{Object}
use Rattle.nova_objects.specs.declared.object.Object.TheVariants.{Pd, Ec, Sc}
use Rattle.nova_model.specs.Boot.{boot}
use Rattle.nova_model.specs.Choice.{choice, next_to_act}
use Rattle.nova_model.specs.Deeds.{deed}
use Rattle.nova_model.specs.Inputs.{input_of}
use Rattle.nova_model.specs.Runs.{after, run}
use Rattle.nova_model.specs.State.{KernelState, entry}
use Rattle.nova_model.specs.Times.{Times, next_entry}
use Rattle.nova_model.specs.Turn.{charged, turn}
use Rattle.nova_model.specs.declared.times.AlarmState.{AlarmState}
use Rattle.nova_model.specs.declared.times.Deadline.{Deadline}
use Rattle.law_turns.proofs.Budgets.{not_less}
use Rattle.law_turns.proofs.Donation.{reached_kept}
use Rattle.law_turns.proofs.Passes.{run_append}
use Rattle.law_alike.specs.Alike.{AreTimesAlike, IsAlarmAlike, IsAlike, IsDeadlineAlike, TellsNoTicks, lefts, stamp, uncounted}
use Rattle.law_alike.specs.Examples.{spinning}
use Rattle.law_alike.proofs.Given.{reached_given}
use Rattle.law_alike.proofs.Turns.{flipped, itself, through, turns_alike}

abbrev first : KernelState
first = boot spinning

-- the state after a turn is alike to the first
abbrev objects_there : List Object
objects_there = Pd ∷ Ec 0 0 Global 16 ∷ Sc 1 0 1 1 ∷ []

only : (n ec cpu priority quantum : ℕ) → slice_get objects_there n ≡ Some (Sc ec cpu priority quantum) → n ≡ 2
only zero ec cpu priority quantum is = absurd (cc)
only (suc zero) ec cpu priority quantum is = absurd (cc)
only (suc (suc zero)) ec cpu priority quantum is = refl
only (suc (suc (suc n))) ec cpu priority quantum is = absurd (cc)

no_deadline : (n : ℕ) → entry {T = Deadline} (slice_get (None ∷ None ∷ None ∷ []) n) ≡ None
no_deadline zero = refl
no_deadline (suc zero) = refl
no_deadline (suc (suc zero)) = refl
no_deadline (suc (suc (suc n))) = refl

calm : (t u : Times) → t.deadlines ≡ None ∷ None ∷ None ∷ [] → u.deadlines ≡ None ∷ None ∷ None ∷ [] → t.alarms ≡ [] → u.alarms ≡ [] → AreTimesAlike t u
calm t u first second none also = record {
  deadlines = λ ec.
      subst (λ (o : Option Deadline). IsDeadlineAlike t u o (entry (slice_get u.deadlines ec))) (sym (ap (λ (l : List (Option Deadline)). entry (slice_get l ec)) first ∙ no_deadline ec))
      (subst (λ (o : Option Deadline). IsDeadlineAlike t u None o) (sym (ap (λ (l : List (Option Deadline)). entry (slice_get l ec)) second ∙ no_deadline ec)) tt);
  alarms = λ n.
      subst (λ (l : List AlarmState). IsAlarmAlike t u (slice_get l n) (slice_get u.alarms n)) (sym none)
      (subst (λ (l : List AlarmState). IsAlarmAlike t u None (slice_get l n)) (sym also) tt);
}

record Shows (k : KernelState) : Type 0 where
  rest : uncounted k ≡ uncounted first
  left : lefts k ≡ lefts first
  objects : k.objects ≡ objects_there
  deadlines : k.times.deadlines ≡ None ∷ None ∷ None ∷ []
  alarms : k.times.alarms ≡ []

shown : Shows (after first 0)
unfolding one instr_of call_of choice deed input_of next_entry charged turn
shown = record { rest = refl; left = refl; objects = refl; deadlines = refl; alarms = refl }

shown_first : Shows first
shown_first = record { rest = refl; left = refl; objects = refl; deadlines = refl; alarms = refl }

alike_by : (k : KernelState) → Shows k → IsAlike k first
alike_by k s = record {
  rest = s.rest;
  left = s.left;
  order = λ m n peers. by_one m n (place m peers.first_ec peers.cpu peers.priority peers.first_quantum peers.first) (place n peers.second_ec peers.cpu peers.priority peers.second_quantum peers.second);
  times = calm k.times first.times s.deadlines shown_first.deadlines s.alarms shown_first.alarms;
}
  where
    place : (n ec cpu priority quantum : ℕ) → slice_get k.objects n ≡ Some (Sc ec cpu priority quantum) → n ≡ 2
    place n ec cpu priority quantum is = only n ec cpu priority quantum (sym (ap (λ (os : List Object). slice_get os n) s.objects) ∙ is)

    by_one : (m n : ℕ) → m ≡ 2 → n ≡ 2 → nat_lt (stamp k m) (stamp k n) ≡ nat_lt (stamp first m) (stamp first n)
    by_one m n its two =
        ap (λ (i : ℕ). nat_lt (stamp k m) (stamp k i)) (two ∙ sym its) ∙ not_less (stamp k m)
        ∙ sym (ap (λ (i : ℕ). nat_lt (stamp first m) (stamp first i)) (two ∙ sym its) ∙ not_less (stamp first m))

once : IsAlike (after first 0) first
once = alike_by (after first 0) shown

-- and so is that after any number of them
tells_none : TellsNoTicks first 0
unfolding one instr_of call_of choice deed input_of next_entry next_to_act
tells_none = refl

one_more : (n : ℕ) → ◌≡◌ {A = List ℕ} (replicate n 0 ++ 0 ∷ []) (replicate (suc n) 0)
one_more zero = refl
one_more (suc n) = ap (λ (l : List ℕ). 0 ∷ l) (one_more n)

pub spins : (n : ℕ) → IsAlike (run (boot spinning) (replicate n 0)) (boot spinning)
spins zero = itself first
spins (suc n) =
    subst (λ (order : List ℕ). IsAlike (run first order) first) (one_more n)
    (subst (λ (s : KernelState). IsAlike s first) (sym (run_append first (replicate n 0) (0 ∷ [])))
    (through (after (run first (replicate n 0)) 0) (after first 0) first
    (flipped (after first 0) (after (run first (replicate n 0)) 0)
    (turns_alike first (run first (replicate n 0)) 0 (reached_kept spinning []) (reached_kept spinning (replicate n 0)) (reached_given spinning []) (reached_given spinning (replicate n 0))
    (flipped (run first (replicate n 0)) first (spins n)) tells_none)) once))

pub differs : stamp (after (boot spinning) 0) 2 ≢ stamp (boot spinning) 2
unfolding one instr_of call_of choice deed input_of next_entry charged turn
differs same = let one_is_none : ◌≡◌ {A = ℕ} 1 0 = same in absurd (cc)
