use Rattle.std.proofs.Common.{rules, Some, ◌≡◌, false, length, replicate, sym, subst}
use Rattle.std.specs.Prelude.{option_map}
use Rattle.nova_model.specs.Choice.{choice}
use Rattle.nova_model.specs.State.{KernelState, context}
use Rattle.nova_model.specs.declared.context.State.TheVariants.{Ready}
use Rattle.nova_choice.specs.Choices.{chosen_of}
use Rattle.law_leases.specs.Commits.{IsReached}
use Rattle.law_leases.proofs.Committed.{run_reached}
use Rattle.nova_turn.specs.Parts.{state_of}
use Rattle.nova_kernel.specs.Views.{KernelView}
use Rattle.nova_kernel.specs.Begun.{IsBegun}
use Rattle.nova_kernel.proofs.Begun.{run_begun}
use Rattle.nova_kernel.proofs.Known.{chosen_budget, chosen_there}
use Rattle.nova_kernel.proofs.Rides.{queued_there}
use Rattle.nova_kernel.proofs.kernel.Kernel.ride_on.Goals as goal

pub is_stepping-requires : goal.is_stepping-requires
is_stepping-requires c =
    let k : KernelState = state_of c.self.inside.parts in
    chosen_there k c.args.cpu c.args.chosen (subst (λ (v : KernelView). Some c.args.chosen ≡ option_map chosen_of (choice v.state c.args.cpu)) (sym c.self.view_is) c.requires.told)

pub quanta-requires-clause-next : goal.quanta-requires-clause-next
quanta-requires-clause-next c =
    let k : KernelState = state_of c.self.inside.parts in
    let told : Some c.args.chosen ≡ option_map chosen_of (choice k c.args.cpu) =
    subst (λ (v : KernelView). Some c.args.chosen ≡ option_map chosen_of (choice v.state c.args.cpu)) (sym c.self.view_is) c.requires.told in record {
      told = told;
      pays = queued_there c.self.inside.parts.queues.all (length k.objects) c.args.chosen.sc (chosen_budget k c.args.cpu c.args.chosen told);
    }

pub quanta-requires-clause-acts : goal.quanta-requires-clause-acts
quanta-requires-clause-acts c =
    let k : KernelState = state_of c.self.inside.parts in
    let told : Some c.args.chosen ≡ option_map chosen_of (choice k c.args.cpu) =
    subst (λ (v : KernelView). Some c.args.chosen ≡ option_map chosen_of (choice v.state c.args.cpu)) (sym c.self.view_is) c.requires.told in
    let is_ready : (context k c.args.chosen.actor).state ≡ Ready = search rules in
    let free : (context k c.args.chosen.actor).recall ≡ false = search rules in record {
      there = chosen_there k c.args.cpu c.args.chosen told;
      ready = is_ready;
      recall = free;
    }

pub invariant_of-self : goal.invariant_of-self
invariant_of-self c =
    let k : KernelState = state_of c.self.inside.parts in
    let had = c.self.invariant in record {
      tables = record { counted = c.quanta.ensures.counted; queued = c.quanta.ensures.queued; running = c.quanta.ensures.running };
      reached = subst IsReached (sym c.quanta.ensures.state) (run_reached k (replicate c.quanta.result.count c.args.cpu) had.reached);
      known = c.quanta.ensures.known c.self.inside.known had.known;
      begun = subst IsBegun (sym c.quanta.ensures.state) (run_begun k (replicate c.quanta.result.count c.args.cpu) had.begun);
    }
