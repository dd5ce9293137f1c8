use Rattle.std.proofs.Common.{◌≡◌, ◌<◌, IsSome, replicate, ap, sym, subst, ◌∙◌}
use Rattle.std.specs.Prelude.{IfSome}
use Rattle.nova_model.specs.Runs.{run, trace}
use Rattle.nova_model.specs.State.{KernelState, context_at}
use Rattle.nova_model.specs.declared.context.EcState.{EcState}
use Rattle.nova_ec.specs.Tables.{EcTable}
use Rattle.nova_choice.specs.Schedules.{AreQueued}
use Rattle.nova_turn.specs.Beside.{with_regs}
use Rattle.nova_turn.specs.Known.{AreKnown}
use Rattle.nova_turn.specs.Parts.{state_of}
use Rattle.nova_kernel.specs.Rides.{IsHalted, step_by}
use Rattle.nova_kernel.proofs.Beside.{known_beside, queued_beside}
use Rattle.nova_kernel.proofs.Quanta.{entered_beside}
use Rattle.nova_kernel.proofs.Rides.{beside_own}
use Rattle.nova_kernel.proofs.riding.quanta.Goals as goal

pub ride_quanta-ridden-requires-clause-beside : goal.ride_quanta-ridden-requires-clause-beside
ride_quanta-ridden-requires-clause-beside c =
    let before : KernelState = state_of c.enter.new.self in
    let there : IsSome (context_at before c.args.chosen.actor) = subst (λ (k : KernelState). IsSome (context_at k c.args.chosen.actor)) (sym c.enter.ensures.state) c.requires.acts.there in
    let own : with_regs before c.args.chosen.actor c.context.result.now.regs ≡ state_of c.args.parts.now =
    ap (λ (x : EcState). with_regs before c.args.chosen.actor x.regs) c.context.ensures.context ∙ (beside_own before c.args.chosen.actor there ∙ c.enter.ensures.state) in
    entered_beside c.args.parts.now c.enter.new.self c.args.chosen c.context.result.now.regs c.enter.ensures.state c.enter.ensures.queues c.enter.ensures.revokes c.enter.ensures.entered own
    c.requires.acts c.requires.counted c.requires.queued c.requires.running

pub ride_quanta-ridden-requires-clause-known : goal.ride_quanta-ridden-requires-clause-known
ride_quanta-ridden-requires-clause-known c =
    subst (λ (k : KernelState). AreKnown k c.args.known.now) (sym c.enter.ensures.state) c.requires.known

pub returns-clause-halted : goal.returns-clause-halted
returns-clause-halted c =
    let mid : KernelState = state_of c.ride_quanta-ridden.new.parts in
    let last : record mid { contexts = c.set_regs.new.self.items } ≡ with_regs mid c.args.chosen.actor c.ride_quanta-ridden.new.regs =
    ap (λ (t : EcTable). record mid { contexts = t.items }) c.set_regs.ensures in
    subst (λ (k : KernelState). IfSome c.ride_quanta-ridden.result.raised (λ r. (c.ride_quanta-ridden.result.count < c.args.most) × IsHalted k c.args.cpu c.args.chosen r)) (sym last)
    c.ride_quanta-ridden.ensures.halted

pub returns-clause-state : goal.returns-clause-state
returns-clause-state c =
    let before : KernelState = state_of c.enter.new.self in
    let there : IsSome (context_at before c.args.chosen.actor) = subst (λ (k : KernelState). IsSome (context_at k c.args.chosen.actor)) (sym c.enter.ensures.state) c.requires.acts.there in
    let own : with_regs before c.args.chosen.actor c.context.result.now.regs ≡ state_of c.args.parts.now =
    ap (λ (x : EcState). with_regs before c.args.chosen.actor x.regs) c.context.ensures.context ∙ (beside_own before c.args.chosen.actor there ∙ c.enter.ensures.state) in
    let mid : KernelState = state_of c.ride_quanta-ridden.new.parts in
    let last : record mid { contexts = c.set_regs.new.self.items } ≡ with_regs mid c.args.chosen.actor c.ride_quanta-ridden.new.regs =
    ap (λ (t : EcTable). record mid { contexts = t.items }) c.set_regs.ensures in
    last ∙ (c.ride_quanta-ridden.ensures.later.steps.state ∙ ap (λ (k : KernelState). run k (replicate c.ride_quanta-ridden.result.count c.args.cpu)) own)

pub returns-clause-events : goal.returns-clause-events
returns-clause-events c =
    let before : KernelState = state_of c.enter.new.self in
    let there : IsSome (context_at before c.args.chosen.actor) = subst (λ (k : KernelState). IsSome (context_at k c.args.chosen.actor)) (sym c.enter.ensures.state) c.requires.acts.there in
    let own : with_regs before c.args.chosen.actor c.context.result.now.regs ≡ state_of c.args.parts.now =
    ap (λ (x : EcState). with_regs before c.args.chosen.actor x.regs) c.context.ensures.context ∙ (beside_own before c.args.chosen.actor there ∙ c.enter.ensures.state) in
    subst (λ (k : KernelState). trace k (replicate c.ride_quanta-ridden.result.count c.args.cpu) ≡ replicate c.ride_quanta-ridden.result.count (step_by c.args.cpu c.args.chosen)) own c.ride_quanta-ridden.ensures.later.steps.events

pub returns-clause-known : goal.returns-clause-known
returns-clause-known c =
    let mid : KernelState = state_of c.ride_quanta-ridden.new.parts in
    let last : record mid { contexts = c.set_regs.new.self.items } ≡ with_regs mid c.args.chosen.actor c.ride_quanta-ridden.new.regs =
    ap (λ (t : EcTable). record mid { contexts = t.items }) c.set_regs.ensures in
    λ known all. subst (λ (k : KernelState). AreKnown k known) (sym last)
    (known_beside mid c.args.chosen.actor c.ride_quanta-ridden.new.regs known c.ride_quanta-ridden.ensures.beside.acts.there
    (c.ride_quanta-ridden.ensures.later.known known (subst (λ (k : KernelState). AreKnown k known) (sym c.enter.ensures.state) all)))

pub returns-clause-queued : goal.returns-clause-queued
returns-clause-queued c =
    let mid : KernelState = state_of c.ride_quanta-ridden.new.parts in
    let last : record mid { contexts = c.set_regs.new.self.items } ≡ with_regs mid c.args.chosen.actor c.ride_quanta-ridden.new.regs =
    ap (λ (t : EcTable). record mid { contexts = t.items }) c.set_regs.ensures in
    subst (λ (k : KernelState). AreQueued k c.ride_quanta-ridden.new.parts.queues.all) (sym last)
    (queued_beside mid c.args.chosen.actor c.ride_quanta-ridden.new.regs c.ride_quanta-ridden.new.parts.queues.all c.ride_quanta-ridden.ensures.beside.acts.there c.ride_quanta-ridden.ensures.beside.queued)

pub ride_quanta-ridden-requires-clause-seers : goal.ride_quanta-ridden-requires-clause-seers
ride_quanta-ridden-requires-clause-seers c = c.none-seers.ensures (state_of c.enter.new.self) c.args.chosen.actor
