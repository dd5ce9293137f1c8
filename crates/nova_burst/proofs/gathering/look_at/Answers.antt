use Rattle.std.proofs.Common.{rules, ◌≡◌}
use Rattle.std.specs.Prelude.{true, is_some}
use Rattle.nova_burst.specs.Copies.{known_in}
use Rattle.nova_burst.specs.Gathered.{IsNoRamPage}
use Rattle.nova_burst.proofs.Grown.{known_before, no_ram_page}
use Rattle.nova_burst.proofs.gathering.look_at.Goals as goal

pub returns-then-knows-clause-grown : goal.returns-then-knows-clause-grown
returns-then-knows-clause-grown c =
    let is : is_some (known_in c.args.copies.now.known c.args.page) ≡ true = search rules in
    known_before c.args.kernel.now.state c.args.pd c.args.most c.args.page c.args.copies.now is

pub returns-in-None-clause-grown : goal.returns-in-None-clause-grown
returns-in-None-clause-grown c =
    let none : IsNoRamPage c.args.kernel.now.state c.args.pd c.args.page = search rules in
    no_ram_page c.args.kernel.now.state c.args.pd c.args.most c.args.page c.args.copies.now none
