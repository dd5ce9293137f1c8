use Rattle.std.proofs.Common.{rules, ◌≡◌, ◌<◌, ◌+◌, length, true, false, sym, subst}
use Rattle.std.specs.Prelude.{is_some}
use Rattle.nova_model.specs.Turn.{turn}
use Rattle.nova_order.specs.Blocks.{turns}
use Rattle.nova_shared.specs.Ran.{Ran}
use Rattle.nova_shared.specs.Told.{IsTold, IsRefused}
use Rattle.nova_shared.specs.declared.shared_run.SharedTurn.TheVariants.{Stepped, Idle, AtLimit}
use Rattle.nova_shared.proofs.Shares.{shared_on, told_stepped, told_idle, told_limit, told_refused, there_on}
use Rattle.nova_shared.proofs.shared_run.SharedRun.turn.Goals as goal

pub returns-then-taken-self-clause-told : goal.returns-then-taken-self-clause-told
returns-then-taken-self-clause-told c =
    subst (λ (r : Ran). IsTold r.opening.kernel.state r.opening.limit c.args.cpu r.order r.order (AtLimit c.len-taken.result)) c.self.view_is
    (told_limit c.self.inside.run c.self.inside.run c.args.cpu c.self.invariant c.len-taken.result (search rules) (search rules))

pub turn-requires-clause-cpu : goal.turn-requires-clause-cpu
turn-requires-clause-cpu c =
    there_on c.self.inside.run c.self.inside.run c.args.cpu c.self.invariant
    (subst (λ (r : Ran). c.args.cpu < r.opening.kernel.state.cpus) (sym c.self.view_is) c.requires.cpu)

pub returns-in_default-clause-memory : goal.returns-in_default-clause-memory
returns-in_default-clause-memory c =
    subst (λ (r : Ran). (c.len-taken.result ≡ length r.order) × IsRefused r.opening.kernel.state r.opening.limit c.args.cpu r.order (turns c.turn.new.self.order.blocks)) c.self.view_is
    (told_refused c.self.inside.run c.turn.new.self c.args.cpu c.self.invariant (search rules) c.len-taken.result (search rules) (search rules) (search rules))

pub returns-then-not-took-clause-told : goal.returns-then-not-took-clause-told
returns-then-not-took-clause-told c =
    let idle : is_some (turn c.self.inside.run.kernel.state c.args.cpu) ≡ false = search rules in
    subst (λ (r : Ran). IsTold r.opening.kernel.state r.opening.limit c.args.cpu r.order (turns c.turn.new.self.order.blocks) (Idle c.len-taken.result)) c.self.view_is
    (told_idle c.self.inside.run c.turn.new.self c.args.cpu c.self.invariant c.in-Ok.ensures.passed c.len-taken.result (search rules) idle (search rules))

pub invariant_of-self-2 : goal.invariant_of-self-2
invariant_of-self-2 c =
    shared_on c.self.inside.run c.turn.new.self c.args.cpu c.self.invariant c.in-Ok.ensures.passed (c.in-Ok.ensures.room c.self.invariant.room)

pub returns-clause-told : goal.returns-clause-told
returns-clause-told c =
    let there : is_some (turn c.self.inside.run.kernel.state c.args.cpu) ≡ true = search rules in
    subst (λ (r : Ran). IsTold r.opening.kernel.state r.opening.limit c.args.cpu r.order (turns c.turn.new.self.order.blocks) (Stepped (c.len-taken.result + 1))) c.self.view_is
    (told_stepped c.self.inside.run c.turn.new.self c.args.cpu c.self.invariant c.in-Ok.ensures.passed c.len-taken.result (search rules) there (search rules))
