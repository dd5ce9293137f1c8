use Rattle.std.proofs.Common.{rules, ◌≡◌, ◌<◌, ◌^◌, IsErr, Ok, length, ap, sym, subst}
use Rattle.nova_model.specs.State.{KernelState}
use Rattle.law_leases.specs.Commits.{IsReached}
use Rattle.nova_turn.specs.Known.{AreKnown}
use Rattle.nova_turn.specs.Parts.{state_of, view_of}
use Rattle.nova_turn.proofs.Settled.{refused_so}
use Rattle.nova_kernel.specs.Begun.{IsBegun}
use Rattle.nova_kernel.specs.Rides.{IsHalted}
use Rattle.nova_kernel.specs.Views.{IsTurnTaken, KernelView}
use Rattle.nova_kernel.proofs.Begun.{after_begun}
use Rattle.nova_kernel.proofs.Known.{kept_known}
use Rattle.nova_kernel.proofs.Rides.{queued_there}
use Rattle.nova_kernel.proofs.kernel.Kernel.settle.Goals as goal

pub settle-requires-clause-ready : goal.settle-requires-clause-ready
settle-requires-clause-ready c = record {
  tables = c.self.invariant.tables;
  turns = subst (λ (v : KernelView). v.state.turns < 2 ^ 31) (sym c.self.view_is) c.requires.turns;
  log = subst (λ (v : KernelView). 0 < v.room) (sym c.self.view_is) c.requires.room;
}

pub settle-requires-clause-none_due : goal.settle-requires-clause-none_due
settle-requires-clause-none_due c =
    let halted = subst (λ (v : KernelView). IsHalted v.state c.args.cpu c.args.chosen c.args.raised) (sym c.self.view_is) c.requires.halted in halted.none_due

pub settle-requires-clause-told : goal.settle-requires-clause-told
settle-requires-clause-told c =
    let halted = subst (λ (v : KernelView). IsHalted v.state c.args.cpu c.args.chosen c.args.raised) (sym c.self.view_is) c.requires.halted in halted.told

pub settle-requires-clause-there : goal.settle-requires-clause-there
settle-requires-clause-there c =
    let halted = subst (λ (v : KernelView). IsHalted v.state c.args.cpu c.args.chosen c.args.raised) (sym c.self.view_is) c.requires.halted in halted.there

pub settle-requires-clause-raised : goal.settle-requires-clause-raised
settle-requires-clause-raised c =
    let halted = subst (λ (v : KernelView). IsHalted v.state c.args.cpu c.args.chosen c.args.raised) (sym c.self.view_is) c.requires.halted in halted.raised

pub settle-requires-clause-pays : goal.settle-requires-clause-pays
settle-requires-clause-pays c =
    let k : KernelState = state_of c.self.inside.parts in
    let halted = subst (λ (v : KernelView). IsHalted v.state c.args.cpu c.args.chosen c.args.raised) (sym c.self.view_is) c.requires.halted in
    queued_there c.self.inside.parts.queues.all (length k.objects) c.args.chosen.sc halted.pays

pub returns : goal.returns
returns c = subst (λ (v : KernelView). IsTurnTaken v (view_of c.settle.new.self) c.args.cpu (Ok c.in_ok-turn.turn)) c.self.view_is c.in_ok-turn.ensures.taken

pub returns-in_err-turn : goal.returns-in_err-turn
returns-in_err-turn c =
    let failed : IsErr c.from_residual.result = search rules in
    subst (λ (v : KernelView). IsTurnTaken v (view_of c.settle.new.self) c.args.cpu c.from_residual.result) c.self.view_is
    (refused_so (view_of c.self.inside.parts) (view_of c.settle.new.self) c.args.cpu c.from_residual.result failed c.in_err-turn.ensures.taken)

pub invariant_of-self : goal.invariant_of-self
invariant_of-self c =
    let same : state_of c.settle.new.self ≡ state_of c.self.inside.parts = ap (λ (v : KernelView). v.state) c.in_err-turn.ensures.taken.memory in
    let had = c.self.invariant in record {
      tables = c.settle.ensures.tables;
      reached = subst IsReached (sym same) had.reached;
      known = subst (λ (s : KernelState). AreKnown s c.self.inside.known) (sym same) had.known;
      begun = subst IsBegun (sym same) had.begun;
    }

pub invariant_of-self-2 : goal.invariant_of-self-2
invariant_of-self-2 c =
    let k : KernelState = state_of c.self.inside.parts in
    let had = c.self.invariant in
    let taken = c.in_ok-turn.ensures.taken in record {
      tables = c.settle.ensures.tables;
      reached = subst IsReached (sym taken.state) (c.what_bursts_stand_on_is_kept.ensures.turns k c.args.cpu had.reached);
      known = kept_known k (state_of c.settle.new.self) c.args.cpu c.in_ok-turn.turn c.self.inside.known c.keep.new.known taken.answer taken.state c.keep.ensures had.known;
      begun = subst IsBegun (sym taken.state) (after_begun k c.args.cpu had.begun);
    }
