-- The turns that were taken, and what is decided of them.
use Rattle.std.proofs.Common.{◌≡◌, ℕ, Bool, false, ◌+◌, ◌<◌, ◌≤◌, List, [], ◌∷◌, length, take, Option, Some, None, Result, Ok, Err, inl, inr, refl, sym, subst, arith, append-nil, string_bytes}
use Rattle.std.specs.Prelude.{IfErr, IfOk}
use Rattle.std.specs.List.{AllByRecursion}
use Rattle.law_turns.specs.Orders.{IsRunOut}
use Rattle.nova_model.specs.Boot.{Scenario, boot}
use Rattle.nova_model.specs.Runs.{IsFreeOfIdle, after, rounds, run}
use Rattle.nova_model.specs.State.{KernelState}
use Rattle.nova_order.specs.Blocks.{BlockList, IsOrder, turns}
use Rattle.nova_order.specs.declared.block.Block.{Block}
use Rattle.nova_judging.specs.declared.answer.Told.{Told as Answered}
use Rattle.nova_naming.specs.Statements.{Stated}
use Rattle.nova_finished.specs.Finished.{IsFinished}
use Rattle.nova_finished.specs.declared.finished.Finished.{Finished}
use Rattle.nova_watching.specs.Watched.{AreIsolatedBefore, IsBrokenOn, IsTold}
use Rattle.nova_policy.specs.Runs.{HasNoStranger, HasRun, HasTaken, IsAnsweredOn, IsDecided, IsDecidedOn, IsMisnamed, IsNotRun, IsStopped, IsStrange, IsUndecided, IsUntoldOn, first_turns, told_turns}
use Rattle.nova_policy.specs.declared.exit.Exit.{Exit}
use Rattle.nova_policy.specs.declared.exit.Exit.TheVariants.{Told, Usage, ReadFault, TooLong, Scenario as ScenarioFault, Order, Idle, Policy, Misnamed, WriteFault, Memory}
use Rattle.nova_policy.specs.declared.request.Span.{Span}

pub by_rounds : (s : Scenario) (at most : ℕ) (k : KernelState) (f : Finished) → at ≤ 10000000 → k ≡ boot s → most ≡ at → IsFinished k (rounds k most) most f
    → IsRunOut (boot s) at (rounds (boot s) at) → HasTaken (boot s) (rounds (boot s) at) f
by_rounds s at most k f last begun same finished out =
    let there : IsFinished (boot s) (rounds (boot s) at) at f =
    subst (λ (n : ℕ). IsFinished (boot s) (rounds (boot s) n) n f) same (subst (λ (q : KernelState). IsFinished q (rounds q most) most f) begun finished) in
    let within = out.within in
    record { no_idle = out.no_idle; state = there.kernel; order = there.order; there = out.processors; few = omega arith }

pub along : (s : Scenario) (most : ℕ) (k : KernelState) (order : List ℕ) (f : Finished) → k ≡ boot s → IsFinished k order most f → IsFreeOfIdle k order
    → AllByRecursion (λ cpu. cpu < (boot s).cpus) order → length order ≤ 10000000 → HasTaken (boot s) order f
along s most k order f begun finished free there few =
    let from : IsFinished (boot s) order most f = subst (λ (q : KernelState). IsFinished q order most f) begun finished in
    record { no_idle = subst (λ (q : KernelState). IsFreeOfIdle q order) begun free; state = from.kernel; order = from.order; there = there; few = few }

stopped : (k : KernelState) (order : BlockList) (first : List Block) (at : ℕ) (exit : Exit) → IsOrder first → turns first ≡ take at (turns order.blocks) → IsNotRun k first exit → IsStopped k (Some order) at exit
stopped k order first at (Idle line) sound of is = record { first = first; sound = sound; of = of; idle = is }
stopped k order first at Memory sound of is = tt
stopped k order first at (Told answer) sound of is = is
stopped k order first at Usage sound of is = is
stopped k order first at ReadFault sound of is = is
stopped k order first at (TooLong input) sound of is = is
stopped k order first at (ScenarioFault line why) sound of is = is
stopped k order first at (Order fault) sound of is = is
stopped k order first at (Policy line why) sound of is = is
stopped k order first at (Misnamed line expected number) sound of is = is
stopped k order first at WriteFault sound of is = is

pub stopped_by : (k : KernelState) (order : BlockList) (first : List Block) (at : ℕ) (r : Result Finished Exit) → IsOrder first → turns first ≡ take at (turns order.blocks) → IfErr r (IsNotRun k first)
    → IfErr r (IsStopped k (Some order) at)
stopped_by k order first at (Ok run) sound of is = tt
stopped_by k order first at (Err exit) sound of is = stopped k order first at exit sound of is

pub ran_by : (k : KernelState) (order : BlockList) (first : List Block) (at : ℕ) (r : Result Finished Exit) → turns first ≡ take at (turns order.blocks)
    → IfOk r (HasTaken k (turns first)) → IfOk r (HasRun k (Some order) at)
ran_by k order first at (Ok f) of is = subst (λ (ts : List ℕ). HasTaken k ts f) of is
ran_by k order first at (Err exit) of is = tt

pub only_memory : (k : KernelState) (at : ℕ) (r : Result Finished Exit) → IfErr r (λ (e : Exit). e ≡ Memory) → IfErr r (IsStopped k None at)
only_memory k at (Ok run) is = tt
only_memory k at (Err e) is = subst (IsStopped k None at) (sym is) tt

-- WHAT IS DECIDED

-- of a run of turns
module _ (k now : KernelState) (list : List ℕ) (policy : Option (List Stated)) (from : ℕ) (free : IsFreeOfIdle k list) (ran : now ≡ run k list) where
  misnamed : (e : Exit) → IsMisnamed policy now e → IsUntoldOn k list policy e
  misnamed (Misnamed line expected number) is = record { no_idle = free; strange = subst (λ (s : KernelState). IsStrange policy s line expected number) ran is }
  misnamed Memory is = tt
  misnamed (Told answer) is = is
  misnamed Usage is = is
  misnamed ReadFault is = is
  misnamed (TooLong input) is = is
  misnamed (ScenarioFault line why) is = is
  misnamed (Order fault) is = is
  misnamed (Idle line) is = is
  misnamed (Policy line why) is = is
  misnamed WriteFault is = is

  pub misnamed_by : (e : Exit) (r : Result Answered Exit) → r ≡ Err e → IsMisnamed policy now e → IsDecidedOn k list policy from r
  misnamed_by e r is wrong = subst (IsDecidedOn k list policy from) (sym is) (misnamed e wrong)

  pub told_early : (t : Answered) → HasNoStranger policy now → IsBrokenOn policy from k 0 list t → IsDecidedOn k list policy from (Ok t)
  told_early t named b =
      let late : from ≤ length b.taken = let late = b.late in omega arith in
      record {
        no_idle = free;
        named = subst (HasNoStranger policy) ran named;
        taken = b.taken;
        left = b.left;
        whole = b.whole;
        isolated = b.isolated;
        told = b.told;
        first = inr (late, b.breaking);
      }

  pub told_last : (t : Answered) → HasNoStranger policy now → AreIsolatedBefore policy from k 0 list → IsTold policy now t.answer (string_bytes t.text) → IsDecidedOn k list policy from (Ok t)
  told_last t named isolated told = record {
    no_idle = free;
    named = subst (HasNoStranger policy) ran named;
    taken = list;
    left = [];
    whole = append-nil list;
    isolated = isolated;
    told = subst (λ (s : KernelState). IsTold policy s t.answer (string_bytes t.text)) ran told;
    first = inl refl;
  }

-- without flows
pub without_flows : (k : KernelState) (list : List ℕ) (policy : Option (List Stated)) (from : ℕ) (r : Result Answered Exit) → IsDecidedOn k list policy from r → IsAnsweredOn k list policy from false r
without_flows k list policy from (Ok t) told = record { first = string_bytes t.text; lines = []; whole = sym (append-nil (string_bytes t.text)); told = told; flows = refl }
without_flows k list policy from (Err e) fault = fault

-- no turn is after `from`
pub none_late : (policy : Option (List Stated)) (from : ℕ) (k : KernelState) (n : ℕ) (list : List ℕ) → n + length list ≤ from → AreIsolatedBefore policy from k n list
none_late policy from k n [] few = tt
none_late policy from k n (cpu ∷ cpus) few = (λ late. absurd (omega arith), none_late policy from (after k cpu) (n + 1) cpus (omega arith))

-- of the turns that are asked for
untold : (k : KernelState) (order : Option BlockList) (policy : Option (List Stated)) (span : Span) (flow : Bool) (e : Exit) →
    IsUntoldOn k (told_turns flow span.from (first_turns k order span.until)) policy e → IsUndecided k order policy span flow e
untold k order policy span flow (Misnamed line expected number) is = is
untold k order policy span flow Memory is = tt
untold k order policy span flow (Told answer) is = is
untold k order policy span flow Usage is = is
untold k order policy span flow ReadFault is = is
untold k order policy span flow (TooLong input) is = is
untold k order policy span flow (ScenarioFault line why) is = is
untold k order policy span flow (Order fault) is = is
untold k order policy span flow (Idle line) is = absurd is
untold k order policy span flow (Policy line why) is = is
untold k order policy span flow WriteFault is = is

pub decided_by : (k : KernelState) (order : Option BlockList) (policy : Option (List Stated)) (span : Span) (flow : Bool) (f : Finished) (from : ℕ) (r : Result Answered Exit) → HasRun k order span.until f → from ≡ span.from
    → IsAnsweredOn k (turns f.order.blocks) policy from flow r → IsDecided k order policy span flow r
decided_by k order policy span flow f from r ran same is =
    by_result r (subst (λ (n : ℕ). IsAnsweredOn k (first_turns k order span.until) policy n flow r) same (subst (λ (l : List ℕ). IsAnsweredOn k l policy from flow r) ran.order is))
  where
    by_result : (q : Result Answered Exit) → IsAnsweredOn k (first_turns k order span.until) policy span.from flow q → IsDecided k order policy span flow q
    by_result (Ok t) told = told
    by_result (Err e) fault = untold k order policy span flow e fault

pub taken_by : (k : KernelState) (list : List ℕ) (f : Finished) → HasTaken k list f → HasTaken k (turns f.order.blocks) f
taken_by k list f ran = subst (λ (l : List ℕ). HasTaken k l f) (sym ran.order) ran

stops : (k : KernelState) (order : Option BlockList) (policy : Option (List Stated)) (span : Span) (flow : Bool) (e : Exit) → IsStopped k order span.until e → IsUndecided k order policy span flow e
stops k order policy span flow (Idle line) is = is
stops k order policy span flow Memory is = tt
stops k order policy span flow (Told answer) is = is
stops k order policy span flow Usage is = is
stops k order policy span flow ReadFault is = is
stops k order policy span flow (TooLong input) is = is
stops k order policy span flow (ScenarioFault line why) is = is
stops k order policy span flow (Order fault) is = is
stops k order policy span flow (Policy line why) is = is
stops k order policy span flow (Misnamed line expected number) is = absurd is
stops k order policy span flow WriteFault is = is

pub stops_by : (k : KernelState) (order : Option BlockList) (policy : Option (List Stated)) (span : Span) (flow : Bool) (e : Exit) (r : Result Answered Exit) → r ≡ Err e → IsStopped k order span.until e
    → IsDecided k order policy span flow r
stops_by k order policy span flow e r is stopped = subst (IsDecided k order policy span flow) (sym is) (stops k order policy span flow e stopped)
