use Rattle.std.proofs.Common.{rules, ◌≡◌, ◌+◌, ◌≤◌, None}
use Rattle.nova_kernel.specs.Rides.{IsNext}
use Rattle.nova_kernel.proofs.Quanta.{later_on}
use Rattle.nova_kernel.proofs.riding.ride_quanta.Goals as goal

pub is_still_chosen-requires-clause-known : goal.is_still_chosen-requires-clause-known
is_still_chosen-requires-clause-known c = c.ride_quantum-ridden.ensures.later.known c.args.known.now (c.loop-count.invariant.later.known c.args.known.now c.requires.known)

pub returns-then-is_some-clause-later : goal.returns-then-is_some-clause-later
returns-then-is_some-clause-later c =
    later_on c.args.parts.now c.loop-count.parts c.ride_quantum-ridden.new.parts c.args.regs.now c.loop-count.regs c.ride_quantum-ridden.new.regs c.args.cpu c.args.chosen c.loop-count.count c.ride_quantum-ridden.result.count
    c.loop-count.invariant.later c.ride_quantum-ridden.ensures.later

pub loop-count-preserved : goal.loop-count-preserved
loop-count-preserved c =
    let few : c.loop-count.count + c.ride_quantum-ridden.result.count ≤ c.args.most = search rules in
    let next : IsNext c.ride_quantum-ridden.new.parts c.args.cpu c.args.chosen = search rules in
    let fresh : c.ride_quantum-ridden.new.parts.reach.written ≡ None = search rules in record {
      few = few;
      beside = c.ride_quantum-ridden.ensures.beside;
      fresh = fresh;
      seers = c.ride_quantum-ridden.ensures.seers;
      next = next;
      later = later_on c.args.parts.now c.loop-count.parts c.ride_quantum-ridden.new.parts c.args.regs.now c.loop-count.regs c.ride_quantum-ridden.new.regs c.args.cpu c.args.chosen c.loop-count.count c.ride_quantum-ridden.result.count
          c.loop-count.invariant.later c.ride_quantum-ridden.ensures.later;
    }
