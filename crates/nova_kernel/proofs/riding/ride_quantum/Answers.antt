use Rattle.std.proofs.Common.{arith, ◌<◌, ℕ, sym, subst}
use Rattle.std.specs.Prelude.{Option, Some, None, IfSome}
use Rattle.nova_turn.specs.declared.decide.deciding.Raised.{Raised}
use Rattle.nova_kernel.specs.Rides.{IsHalted, Raises, beside}
use Rattle.nova_kernel.proofs.Quanta.{HasPaid, HasRidden, bounds_ridden, cpus_ridden, left_ridden, pays_ridden, quantum_beside, quantum_later, quantum_raises, queued_ridden, seers_paid, turns_ridden, counts_along}
use Rattle.nova_kernel.proofs.riding.ride_quantum.Goals as goal

pub charge_times-requires-clause-charged : goal.charge_times-requires-clause-charged
charge_times-requires-clause-charged c =
    let is : HasRidden c.args.parts.now c.ride_beside-ridden.new.parts c.args.cpu c.args.chosen c.args.regs.now c.ride_beside-ridden.new.regs c.ride_beside-ridden.result.count c.args.most = record {
      was = c.requires.beside;
      next = c.requires.next;
      left = c.requires.left;
      early = c.requires.early;
      within = c.requires.cpu;
      few = c.ride_beside-ridden.ensures.most;
      goes = c.ride_beside-ridden.ensures.rides;
      entered = c.ride_beside-ridden.ensures.entered;
      contexts = c.ride_beside-ridden.ensures.contexts;
      queues = c.ride_beside-ridden.ensures.queues;
      revokes = c.ride_beside-ridden.ensures.revokes;
    } in
    bounds_ridden c.args.parts.now c.ride_beside-ridden.new.parts c.args.cpu c.args.chosen c.args.regs.now c.ride_beside-ridden.new.regs c.ride_beside-ridden.result.count c.args.most is

pub charge_times-requires-clause-queued : goal.charge_times-requires-clause-queued
charge_times-requires-clause-queued c =
    let is : HasRidden c.args.parts.now c.ride_beside-ridden.new.parts c.args.cpu c.args.chosen c.args.regs.now c.ride_beside-ridden.new.regs c.ride_beside-ridden.result.count c.args.most = record {
      was = c.requires.beside;
      next = c.requires.next;
      left = c.requires.left;
      early = c.requires.early;
      within = c.requires.cpu;
      few = c.ride_beside-ridden.ensures.most;
      goes = c.ride_beside-ridden.ensures.rides;
      entered = c.ride_beside-ridden.ensures.entered;
      contexts = c.ride_beside-ridden.ensures.contexts;
      queues = c.ride_beside-ridden.ensures.queues;
      revokes = c.ride_beside-ridden.ensures.revokes;
    } in
    queued_ridden c.args.parts.now c.ride_beside-ridden.new.parts c.args.cpu c.args.chosen c.args.regs.now c.ride_beside-ridden.new.regs c.ride_beside-ridden.result.count c.args.most is

pub charge_times-requires-clause-turns : goal.charge_times-requires-clause-turns
charge_times-requires-clause-turns c =
    let is : HasRidden c.args.parts.now c.ride_beside-ridden.new.parts c.args.cpu c.args.chosen c.args.regs.now c.ride_beside-ridden.new.regs c.ride_beside-ridden.result.count c.args.most = record {
      was = c.requires.beside;
      next = c.requires.next;
      left = c.requires.left;
      early = c.requires.early;
      within = c.requires.cpu;
      few = c.ride_beside-ridden.ensures.most;
      goes = c.ride_beside-ridden.ensures.rides;
      entered = c.ride_beside-ridden.ensures.entered;
      contexts = c.ride_beside-ridden.ensures.contexts;
      queues = c.ride_beside-ridden.ensures.queues;
      revokes = c.ride_beside-ridden.ensures.revokes;
    } in
    let same = turns_ridden c.args.parts.now c.ride_beside-ridden.new.parts c.args.cpu c.args.chosen c.args.regs.now c.ride_beside-ridden.new.regs c.ride_beside-ridden.result.count c.args.most is in
    let most = c.requires.turns in
    let few = c.ride_beside-ridden.ensures.most in
    omega (arith, same, most, few)

pub charge_times-requires-clause-cpu : goal.charge_times-requires-clause-cpu
charge_times-requires-clause-cpu c =
    let is : HasRidden c.args.parts.now c.ride_beside-ridden.new.parts c.args.cpu c.args.chosen c.args.regs.now c.ride_beside-ridden.new.regs c.ride_beside-ridden.result.count c.args.most = record {
      was = c.requires.beside;
      next = c.requires.next;
      left = c.requires.left;
      early = c.requires.early;
      within = c.requires.cpu;
      few = c.ride_beside-ridden.ensures.most;
      goes = c.ride_beside-ridden.ensures.rides;
      entered = c.ride_beside-ridden.ensures.entered;
      contexts = c.ride_beside-ridden.ensures.contexts;
      queues = c.ride_beside-ridden.ensures.queues;
      revokes = c.ride_beside-ridden.ensures.revokes;
    } in
    subst (λ (n : ℕ). c.args.cpu < n) (sym (cpus_ridden c.args.parts.now c.ride_beside-ridden.new.parts c.args.cpu c.args.chosen c.args.regs.now c.ride_beside-ridden.new.regs c.ride_beside-ridden.result.count c.args.most is)) c.requires.cpu

pub charge_times-requires-clause-there : goal.charge_times-requires-clause-there
charge_times-requires-clause-there c =
    let is : HasRidden c.args.parts.now c.ride_beside-ridden.new.parts c.args.cpu c.args.chosen c.args.regs.now c.ride_beside-ridden.new.regs c.ride_beside-ridden.result.count c.args.most = record {
      was = c.requires.beside;
      next = c.requires.next;
      left = c.requires.left;
      early = c.requires.early;
      within = c.requires.cpu;
      few = c.ride_beside-ridden.ensures.most;
      goes = c.ride_beside-ridden.ensures.rides;
      entered = c.ride_beside-ridden.ensures.entered;
      contexts = c.ride_beside-ridden.ensures.contexts;
      queues = c.ride_beside-ridden.ensures.queues;
      revokes = c.ride_beside-ridden.ensures.revokes;
    } in
    pays_ridden c.args.parts.now c.ride_beside-ridden.new.parts c.args.cpu c.args.chosen c.args.regs.now c.ride_beside-ridden.new.regs c.ride_beside-ridden.result.count c.args.most is

pub charge_times-requires-clause-left : goal.charge_times-requires-clause-left
charge_times-requires-clause-left c =
    let is : HasRidden c.args.parts.now c.ride_beside-ridden.new.parts c.args.cpu c.args.chosen c.args.regs.now c.ride_beside-ridden.new.regs c.ride_beside-ridden.result.count c.args.most = record {
      was = c.requires.beside;
      next = c.requires.next;
      left = c.requires.left;
      early = c.requires.early;
      within = c.requires.cpu;
      few = c.ride_beside-ridden.ensures.most;
      goes = c.ride_beside-ridden.ensures.rides;
      entered = c.ride_beside-ridden.ensures.entered;
      contexts = c.ride_beside-ridden.ensures.contexts;
      queues = c.ride_beside-ridden.ensures.queues;
      revokes = c.ride_beside-ridden.ensures.revokes;
    } in
    left_ridden c.args.parts.now c.ride_beside-ridden.new.parts c.args.cpu c.args.chosen c.args.regs.now c.ride_beside-ridden.new.regs c.ride_beside-ridden.result.count c.args.most is

pub returns-clause-later : goal.returns-clause-later
returns-clause-later c =
    let is : HasRidden c.args.parts.now c.ride_beside-ridden.new.parts c.args.cpu c.args.chosen c.args.regs.now c.ride_beside-ridden.new.regs c.ride_beside-ridden.result.count c.args.most = record {
      was = c.requires.beside;
      next = c.requires.next;
      left = c.requires.left;
      early = c.requires.early;
      within = c.requires.cpu;
      few = c.ride_beside-ridden.ensures.most;
      goes = c.ride_beside-ridden.ensures.rides;
      entered = c.ride_beside-ridden.ensures.entered;
      contexts = c.ride_beside-ridden.ensures.contexts;
      queues = c.ride_beside-ridden.ensures.queues;
      revokes = c.ride_beside-ridden.ensures.revokes;
    } in
    let paid : HasPaid c.ride_beside-ridden.new.parts c.charge_times.new.parts c.args.cpu c.args.chosen c.ride_beside-ridden.result.count = record {
      charged = c.charge_times.ensures.charged;
      queued = c.charge_times.ensures.queued;
      pays = c.charge_times.ensures.there;
      turns = c.charge_times.ensures.turns;
      cpus = c.charge_times.ensures.cpus;
      revokes = c.charge_times.ensures.revokes;
      reach = c.charge_times.ensures.reach;
    } in
    quantum_later c.args.parts.now c.ride_beside-ridden.new.parts c.charge_times.new.parts c.args.cpu c.args.chosen c.args.regs.now c.ride_beside-ridden.new.regs c.ride_beside-ridden.result.count c.args.most is paid c.ride_beside-ridden.ensures.log

pub returns-clause-beside : goal.returns-clause-beside
returns-clause-beside c =
    let is : HasRidden c.args.parts.now c.ride_beside-ridden.new.parts c.args.cpu c.args.chosen c.args.regs.now c.ride_beside-ridden.new.regs c.ride_beside-ridden.result.count c.args.most = record {
      was = c.requires.beside;
      next = c.requires.next;
      left = c.requires.left;
      early = c.requires.early;
      within = c.requires.cpu;
      few = c.ride_beside-ridden.ensures.most;
      goes = c.ride_beside-ridden.ensures.rides;
      entered = c.ride_beside-ridden.ensures.entered;
      contexts = c.ride_beside-ridden.ensures.contexts;
      queues = c.ride_beside-ridden.ensures.queues;
      revokes = c.ride_beside-ridden.ensures.revokes;
    } in
    let paid : HasPaid c.ride_beside-ridden.new.parts c.charge_times.new.parts c.args.cpu c.args.chosen c.ride_beside-ridden.result.count = record {
      charged = c.charge_times.ensures.charged;
      queued = c.charge_times.ensures.queued;
      pays = c.charge_times.ensures.there;
      turns = c.charge_times.ensures.turns;
      cpus = c.charge_times.ensures.cpus;
      revokes = c.charge_times.ensures.revokes;
      reach = c.charge_times.ensures.reach;
    } in
    quantum_beside c.args.parts.now c.ride_beside-ridden.new.parts c.charge_times.new.parts c.args.cpu c.args.chosen c.args.regs.now c.ride_beside-ridden.new.regs c.ride_beside-ridden.result.count c.args.most is paid c.turns_keep_what_they_find.ensures.turns c.requires.turns

pub returns-clause-halted : goal.returns-clause-halted
returns-clause-halted c =
    let is : HasRidden c.args.parts.now c.ride_beside-ridden.new.parts c.args.cpu c.args.chosen c.args.regs.now c.ride_beside-ridden.new.regs c.ride_beside-ridden.result.count c.args.most = record {
      was = c.requires.beside;
      next = c.requires.next;
      left = c.requires.left;
      early = c.requires.early;
      within = c.requires.cpu;
      few = c.ride_beside-ridden.ensures.most;
      goes = c.ride_beside-ridden.ensures.rides;
      entered = c.ride_beside-ridden.ensures.entered;
      contexts = c.ride_beside-ridden.ensures.contexts;
      queues = c.ride_beside-ridden.ensures.queues;
      revokes = c.ride_beside-ridden.ensures.revokes;
    } in
    let paid : HasPaid c.ride_beside-ridden.new.parts c.charge_times.new.parts c.args.cpu c.args.chosen c.ride_beside-ridden.result.count = record {
      charged = c.charge_times.ensures.charged;
      queued = c.charge_times.ensures.queued;
      pays = c.charge_times.ensures.there;
      turns = c.charge_times.ensures.turns;
      cpus = c.charge_times.ensures.cpus;
      revokes = c.charge_times.ensures.revokes;
      reach = c.charge_times.ensures.reach;
    } in
    raised_by c.ride_beside-ridden.result.raised c.ride_beside-ridden.ensures.raised (quantum_raises c.args.parts.now c.ride_beside-ridden.new.parts c.charge_times.new.parts c.args.cpu c.args.chosen c.args.regs.now c.ride_beside-ridden.new.regs c.ride_beside-ridden.result.count c.args.most is paid)
  where
    raised_by : (o : Option Raised) → IfSome o (λ r. (c.ride_beside-ridden.result.count < c.args.most) × Raises (beside c.ride_beside-ridden.new.parts c.args.chosen c.ride_beside-ridden.new.regs) c.args.chosen.actor r) →
        ((r : Raised) → c.ride_beside-ridden.result.count < c.args.most → Raises (beside c.ride_beside-ridden.new.parts c.args.chosen c.ride_beside-ridden.new.regs) c.args.chosen.actor r →
        IsHalted (beside c.charge_times.new.parts c.args.chosen c.ride_beside-ridden.new.regs) c.args.cpu c.args.chosen r) →
        IfSome o (λ r. (c.ride_beside-ridden.result.count < c.args.most) × IsHalted (beside c.charge_times.new.parts c.args.chosen c.ride_beside-ridden.new.regs) c.args.cpu c.args.chosen r)
    raised_by None all each = tt
    raised_by (Some r) all each = (all.0, each r all.0 all.1)

pub ride_beside-ridden-requires-clause-counts : goal.ride_beside-ridden-requires-clause-counts
ride_beside-ridden-requires-clause-counts c =
    counts_along c.args.parts.now c.args.cpu c.args.chosen c.args.regs.now c.args.most c.requires.beside c.requires.next c.requires.left c.requires.early c.requires.cpu
    c.turns_keep_what_they_find.ensures.turns c.requires.turns

pub returns-clause-seers : goal.returns-clause-seers
returns-clause-seers c =
    seers_paid c.ride_beside-ridden.new.parts c.charge_times.new.parts c.args.cpu c.args.chosen.sc c.ride_beside-ridden.result.count c.args.chosen.actor c.ride_beside-ridden.new.seers
    c.charge_times.ensures.charged c.charge_times.ensures.reach c.ride_beside-ridden.ensures.seers
