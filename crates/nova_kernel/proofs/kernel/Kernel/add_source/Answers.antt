use Rattle.std.proofs.Common.{◌≡◌, ◌<◌, ◌^◌, length, ap, sym, ◌∙◌, subst}
use Rattle.nova_model.specs.Sources.{Source}
use Rattle.nova_model.specs.State.{KernelState}
use Rattle.law_leases.specs.Commits.{IsReached}
use Rattle.nova_turn.proofs.Moves.{queued_same}
use Rattle.nova_turn.specs.Counted.{IsCounted}
use Rattle.nova_turn.specs.Known.{AreKnown}
use Rattle.nova_turn.specs.Parts.{state_of}
use Rattle.nova_times.specs.Kept.{IsAlarm}
use Rattle.nova_kernel.specs.Begun.{IsBegun}
use Rattle.nova_kernel.specs.Views.{KernelView}
use Rattle.nova_kernel.proofs.Known.{none_known}
use Rattle.nova_kernel.proofs.Sourced.{IsSourced, same_running, source_free, source_holds}
use Rattle.nova_kernel.proofs.kernel.Kernel.add_source.Goals as goal

pub add_source-requires-clause-free : goal.add_source-requires-clause-free
add_source-requires-clause-free c =
    let k : KernelState = state_of c.self.inside.parts in
    let begun : IsBegun k = c.self.invariant.begun in
    source_free k (begun.boot (ap (λ (v : KernelView). v.state.turns) c.self.view_is ∙ c.requires.turns))

pub invariant_of-self : goal.invariant_of-self
invariant_of-self c =
    let k : KernelState = state_of c.self.inside.parts in
    let new : KernelState = state_of c.add_source.new.self in
    let same : new ≡ k = c.in_err-number.ensures.memory in
    let had = c.self.invariant in
    let tables = had.tables in record {
      tables = record {
        counted = subst IsCounted (sym same) tables.counted;
        queued = queued_same k new c.self.inside.parts.queues.all c.add_source.new.self.queues.all tables.queued same c.add_source.ensures.queues;
        running = same_running k new c.self.inside.parts.revokes c.add_source.new.self.revokes tables.running same c.add_source.ensures.revokes c.add_source.ensures.places;
      };
      reached = subst IsReached (sym same) had.reached;
      known = subst (λ (s : KernelState). AreKnown s c.self.inside.known) (sym same) had.known;
      begun = subst IsBegun (sym same) had.begun;
    }

pub invariant_of-self-2 : goal.invariant_of-self-2
invariant_of-self-2 c =
    let k : KernelState = state_of c.self.inside.parts in
    let new : KernelState = state_of c.add_source.new.self in
    let s : Source = record { cpu = c.args.cpu; first = c.args.first; period = c.args.period; count = c.args.count } in
    let made : IsSourced k new s c.self.inside.parts.queues.all c.add_source.new.self.queues.all c.self.inside.parts.revokes c.add_source.new.self.revokes = record {
      none = ap (λ (v : KernelView). v.state.turns) c.self.view_is ∙ c.requires.turns;
      few = subst (λ (v : KernelView). length v.state.objects < 2 ^ 20) (sym c.self.view_is) c.requires.objects;
      alarm = subst (λ (v : KernelView). IsAlarm (record { cpu = s.cpu; sm = length v.state.objects; first = s.first; period = s.period; count = s.count })) (sym c.self.view_is)
          c.requires.alarm;
      counted = c.self.invariant.tables.counted;
      queued = c.self.invariant.tables.queued;
      running = c.self.invariant.tables.running;
      begun = c.self.invariant.begun;
      reached = c.what_bursts_stand_on_is_kept.ensures.begins;
      kept = c.turns_keep_what_they_find.ensures.reached;
      added = c.in_ok-number.ensures.added;
      queues = c.add_source.ensures.queues;
      list = c.add_source.ensures.revokes;
      place = c.in_ok-number.ensures.place;
    } in
    let all = source_holds k new s c.self.inside.parts.queues.all c.add_source.new.self.queues.all c.self.inside.parts.revokes c.add_source.new.self.revokes made in record {
      tables = record { counted = all.0; queued = all.1.0; running = all.1.1.0 };
      reached = all.1.1.1.0;
      known = none_known new 8;
      begun = all.1.1.1.1;
    }
