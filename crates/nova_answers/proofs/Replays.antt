-- An order that a run wrote is read back as it was.
use Rattle.std.proofs.Common.{◌≡◌, ℕ, ◌<◌, ◌≤◌, ◌^◌, Bool, true, List, [], ◌∷◌, length, refl, ap, ap₂, sym, ◌∙◌, subst, arith}
use Rattle.std.specs.Prelude.{◌&&◌, nat_lt, nat_le, IsTrue, Ok}
use Rattle.std.specs.List.{AllByRecursion, list_all}
use Rattle.nova_model.specs.State.{KernelState}
use Rattle.nova_model.specs.Boot.{boot}
use Rattle.nova_model.specs.Choice.{is_quiet}
use Rattle.nova_model.specs.Runs.{IsFreeOfIdle, run, trace}
use Rattle.nova_boot.specs.Boot.{scenario_of}
use Rattle.nova_command.specs.declared.command.Command.TheVariants.{Run}
use Rattle.nova_order.specs.Blocks.{IsOrder, turns, is_within}
use Rattle.nova_order.specs.Read.{order_of}
use Rattle.nova_order.specs.declared.block.Block.{Block}
use Rattle.nova_order.proofs.OrderLemmas.{written_is_read}
use Rattle.nova_order.proofs.TurnLemmas.{within_turns}
use Rattle.nova_report.specs.Report.{report}
use Rattle.nova_scenario.specs.declared.scenario.Scenario.{Scenario}
use Rattle.nova_scenario.proofs.SoundLemmas.{scenario_sound}
use Rattle.nova_io.specs.Outside.{Depots}
use Rattle.nova_answers.specs.Runs.{IsRun}
use Rattle.nova_answers.specs.Replayed.{AreTakenAgain, AreSameAgain}
use Rattle.nova_answers.proofs.Results.{same_ok}
use Rattle.nova_answers.proofs.Reports.{boot_cpus}

all_below : (cpus : ℕ) (order : List ℕ) → AllByRecursion (λ cpu. cpu < cpus) order → list_all (λ cpu. nat_lt cpu cpus) order ≡ true
all_below cpus [] all = refl
all_below cpus (x ∷ xs) all = one x (list_all (λ cpu. nat_lt cpu cpus) xs) all.0 (all_below cpus xs all.1)
  where
    one : (a : ℕ) (rest : Bool) → a < cpus → rest ≡ true → (nat_lt a cpus && rest) ≡ true
    one a rest less are = grind arith

both_hold : (a : Bool) (n most : ℕ) → a ≡ true → n ≤ most → IsTrue (a && nat_le n most)
both_hold a n most is few = grind arith

pub is_there : (cpus most : ℕ) (blocks : List Block) → IsOrder blocks → AllByRecursion (λ cpu. cpu < cpus) (turns blocks) → length (turns blocks) ≤ most →
    IsTrue (is_within cpus most blocks)
is_there cpus most blocks order all few =
    subst IsTrue (sym (within_turns cpus most blocks order))
    (both_hold (list_all (λ cpu. nat_lt cpu cpus) (turns blocks)) (length (turns blocks)) most (all_below cpus (turns blocks) all) few)

-- the text of a run's order is read as that order
module _ {D : Type 0} (d : Depots D) (name order : List ℕ) (most : ℕ) (k : KernelState) (old new : D) (complete : Bool) (bytes text : List ℕ)
    (ran : IsRun d (Run name order most) k old new complete bytes text) where
  abbrev blocks : List Block
  blocks = ran.of_command.0.blocks

  pub read_back : k.cpus ≤ 2 ^ 32 → order_of bytes k.cpus most ≡ Ok blocks
  read_back few =
      let all = ran.of_command.0.all in
      ap (λ (b : List ℕ). order_of b k.cpus most) ran.of_command.0.text
      ∙ written_is_read blocks k.cpus most few ran.of_command.0.sound
      (is_there k.cpus most blocks ran.of_command.0.sound
      (subst (AllByRecursion (λ cpu. cpu < k.cpus)) all ran.processors)
      (subst (λ (l : List ℕ). length l ≤ most) all ran.within))

few_processors : (from : Scenario) → from.cpus ≤ 8 → (boot (scenario_of from)).cpus ≤ 2 ^ 32
few_processors from few = let same : (boot (scenario_of from)).cpus ≡ from.cpus = boot_cpus (scenario_of from) in omega arith

module _ {D : Type 0} (d : Depots D) where
  pub taken : AreTakenAgain d
  taken name order most old new complete bytes text limit ran =
      let k : KernelState = boot (scenario_of ran.from) in
      let few = few_processors ran.from (scenario_sound ran.came.bytes ran.from ran.came.valid).cpus in record {
        blocks = ran.done.of_command.0.blocks;
        reads = read_back d name order most k ran.between new complete bytes text ran.done few;
        no_idle = subst (IsFreeOfIdle k) ran.done.of_command.0.all ran.done.no_idle;
      }

  pub same : AreSameAgain d
  same name order name_again order_read most old new old_again new_again complete complete_again bytes text none text_again limit ran again from is =
      let k : KernelState = boot (scenario_of ran.from) in
      let k_again : KernelState = boot (scenario_of again.from) in
      let begun : k_again ≡ k = ap (λ (s : Scenario). boot (scenario_of s)) from in
      let few = few_processors ran.from (scenario_sound ran.came.bytes ran.from ran.came.valid).cpus in
      let first = read_back d name order most k ran.between new complete bytes text ran.done few in
      let second : order_of bytes k.cpus most ≡ Ok again.done.of_command.0.blocks =
      ap₂ (λ (b : List ℕ) (s : KernelState). order_of b s.cpus most) (sym is) (sym begun) ∙ again.done.of_command.0.came.reads in
      let blocks = sym (same_ok (order_of bytes k.cpus most) again.done.of_command.0.blocks ran.done.of_command.0.blocks second first) in
      let turns_same : again.done.order ≡ ran.done.order = again.done.of_command.0.all ∙ ap turns blocks ∙ sym ran.done.of_command.0.all in (
        again.done.reported ∙ ap₂ (λ (s : KernelState) (l : List ℕ). report (run s l) (trace s l)) begun turns_same ∙ sym ran.done.reported,
        again.done.quiet ∙ ap₂ (λ (s : KernelState) (l : List ℕ). is_quiet (run s l)) begun turns_same ∙ sym ran.done.quiet,
      )
