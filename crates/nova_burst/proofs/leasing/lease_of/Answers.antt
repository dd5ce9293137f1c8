use Rattle.std.proofs.Common.{◌/◌}
use Rattle.nova_burst.specs.Gathered.{AreGathered, HasPage}
use Rattle.nova_burst.proofs.Beginning.{IsMadeOf, is_new, stems_new}
use Rattle.nova_burst.proofs.leasing.lease_of.Goals as goal

pub returns-clause-new : goal.returns-clause-new
returns-clause-new c =
    let k = c.args.kernel.now.state in
    let are : AreGathered k c.args.found.now.pd c.args.pages c.in_ok-copies.copies = c.in_ok-copies.ensures.gathered in
    let has : HasPage k c.args.found.now.pd (c.args.found.now.regs.pc / 4096) c.in_ok-copies.copies = c.in_ok-copies.ensures.code in
    let made : IsMadeOf c.new-lease.result c.args.cpu c.args.found.now c.in_ok-copies.copies = record {
      its_cpu = c.new-lease.ensures.cpu;
      guest = c.new-lease.ensures.guest;
      kept = c.new-lease.ensures.kept;
      left = c.new-lease.ensures.left;
      count = c.new-lease.ensures.count;
      regs = c.new-lease.ensures.regs;
      pages = c.new-lease.ensures.pages;
      known = c.new-lease.ensures.known;
    } in
    is_new k c.args.cpu c.args.pages c.args.found.now c.in_ok-copies.copies c.new-lease.result c.requires.found are has made

pub returns-clause-stems : goal.returns-clause-stems
returns-clause-stems c =
    let k = c.args.kernel.now.state in
    let are : AreGathered k c.args.found.now.pd c.args.pages c.in_ok-copies.copies = c.in_ok-copies.ensures.gathered in
    let made : IsMadeOf c.new-lease.result c.args.cpu c.args.found.now c.in_ok-copies.copies = record {
      its_cpu = c.new-lease.ensures.cpu;
      guest = c.new-lease.ensures.guest;
      kept = c.new-lease.ensures.kept;
      left = c.new-lease.ensures.left;
      count = c.new-lease.ensures.count;
      regs = c.new-lease.ensures.regs;
      pages = c.new-lease.ensures.pages;
      known = c.new-lease.ensures.known;
    } in
    stems_new k c.args.cpu c.args.pages c.args.found.now c.in_ok-copies.copies c.new-lease.result c.requires.found are made
