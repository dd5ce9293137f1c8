use Rattle.std.proofs.Common.{◌≡◌, ◌<◌, IsSome, sym, subst}
use Rattle.std.specs.Prelude.{None, Some, option_map}
use Rattle.nova_choice.specs.Choices.{chosen_of}
use Rattle.nova_deeds.specs.Acts.{IsToBeDone}
use Rattle.nova_model.specs.Choice.{choice}
use Rattle.nova_model.specs.Deeds.{deed}
use Rattle.nova_model.specs.State.{context_at}
use Rattle.nova_model.specs.Times.{due_on}
use Rattle.nova_sched.specs.Queues.{queued_at}
use Rattle.nova_turn.specs.Going.{MayTurn}
use Rattle.nova_turn.specs.Parts.{state_of, view_of}
use Rattle.nova_turn.specs.Views.{IsTurnTaken}
use Rattle.nova_turn.specs.declared.parts.Parts.{Parts}
use Rattle.nova_turn.proofs.parts.Parts.settle_any.Goals as goal

pub conclude-requires-clause-ready : goal.conclude-requires-clause-ready
conclude-requires-clause-ready c = subst MayTurn (sym c.decide-deed.ensures.kept) c.requires.ready

pub conclude-requires-clause-cpu : goal.conclude-requires-clause-cpu
conclude-requires-clause-cpu c = subst (λ (p : Parts). c.args.cpu < p.cpus) (sym c.decide-deed.ensures.kept) c.requires.cpu

pub conclude-requires-clause-none_due : goal.conclude-requires-clause-none_due
conclude-requires-clause-none_due c = subst (λ (p : Parts). due_on (state_of p).times c.args.cpu ≡ None) (sym c.decide-deed.ensures.kept) c.requires.none_due

pub conclude-requires-clause-told : goal.conclude-requires-clause-told
conclude-requires-clause-told c =
    subst (λ (p : Parts). Some c.args.chosen ≡ option_map chosen_of (choice (state_of p) c.args.cpu)) (sym c.decide-deed.ensures.kept) c.requires.told

pub conclude-requires-clause-there : goal.conclude-requires-clause-there
conclude-requires-clause-there c = subst (λ (p : Parts). IsSome (context_at (state_of p) c.args.chosen.actor)) (sym c.decide-deed.ensures.kept) c.requires.there

pub conclude-requires-clause-pays : goal.conclude-requires-clause-pays
conclude-requires-clause-pays c = subst (λ (p : Parts). IsSome (queued_at p.queues.all c.args.chosen.sc)) (sym c.decide-deed.ensures.kept) c.requires.pays

pub conclude-requires-clause-own : goal.conclude-requires-clause-own
conclude-requires-clause-own c =
    subst (λ (p : Parts). c.decide-deed.result ≡ deed (state_of p) c.args.chosen.actor) (sym c.decide-deed.ensures.kept) c.decide-deed.ensures.deed

pub conclude-requires-clause-fits : goal.conclude-requires-clause-fits
conclude-requires-clause-fits c =
    subst (λ (p : Parts). IsToBeDone (state_of p) c.args.chosen.actor c.decide-deed.result) (sym c.decide-deed.ensures.kept) c.decide-deed.ensures.fits

pub returns-clause-taken : goal.returns-clause-taken
returns-clause-taken c =
    subst (λ (p : Parts). IsTurnTaken (view_of p) (view_of c.conclude.new.self) c.args.cpu c.conclude.result) c.decide-deed.ensures.kept
    c.conclude.ensures.taken
