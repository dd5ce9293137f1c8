use Rattle.std.proofs.Common.{rules, ◌≡◌, ◌∙◌, ap, sym, ℕ, false, arith, replicate}
use Rattle.nova_model.specs.Runs.{run}
use Rattle.nova_model.specs.State.{KernelState}
use Rattle.nova_example.specs.Said.{has_said}
use Rattle.nova_example.proofs.Stepped.{not_before, one_more, one_turn}
use Rattle.nova_example.proofs.stepping.run_until_said.Goals as goal

pub loop-turn-preserved : goal.loop-turn-preserved
loop-turn-preserved c =
    let so_far = c.loop-turn.invariant.0 in
    let unsaid : has_said c.loop-turn.kernel.state c.args.console c.args.word.now ≡ false = search rules in
    let room = c.loop-turn.invariant.3 in
    let turns = c.loop-turn.invariant.4 in (
      one_more c.args.kernel.now.state c.loop-turn.kernel.state c.turn.new.self.state c.loop-turn._turn c.args.cpu so_far c.in_ok-turn.ensures.state,
      not_before (λ (n : ℕ). has_said (run c.args.kernel.now.state (replicate n c.args.cpu)) c.args.console c.args.word.now) c.loop-turn._turn
          c.loop-turn.invariant.1 (ap (λ (k : KernelState). has_said k c.args.console c.args.word.now) (sym so_far) ∙ unsaid),
      c.turn.ensures.cpus ∙ c.loop-turn.invariant.2,
      (let one = c.turn.ensures.room in omega arith),
      one_turn c.args.kernel.now.state c.loop-turn.kernel.state c.turn.new.self.state c.loop-turn._turn c.in_ok-turn.field-0 c.in_ok-turn.ensures.counted turns,
    )
