use Rattle.std.proofs.Common.{rules, ◌≡◌, ◌/◌, ℕ, [], subst}
use Rattle.nova_burst.specs.Gathered.{HasPage}
use Rattle.nova_burst.proofs.Grown.{all_gathered}
use Rattle.nova_burst.proofs.gathering.gather.Goals as goal

pub returns-clause-gathered : goal.returns-clause-gathered
returns-clause-gathered c =
    let none : c.new-copies.result ≡ record { known = []; pages = [] } = search rules in
    (all_gathered c.args.kernel.now c.look_at.new.kernel c.look_at_registers.new.kernel c.args.pd c.args.most (c.pc-code.result / 4096) c.new-copies.result c.look_at.new.copies c.look_at_registers.new.copies
    c.look_after.new.copies none c.look_at.ensures.kept c.look_at_registers.ensures.kept c.requires c.in_ok-look_at.ensures.grown c.in_ok-look_at_registers.ensures.grown c.in_ok-look_after.ensures.grown).0

pub returns-clause-code : goal.returns-clause-code
returns-clause-code c =
    let none : c.new-copies.result ≡ record { known = []; pages = [] } = search rules in
    subst (λ (pc : ℕ). HasPage c.args.kernel.now.state c.args.pd (pc / 4096) c.look_after.new.copies) c.pc-code.ensures
    (all_gathered c.args.kernel.now c.look_at.new.kernel c.look_at_registers.new.kernel c.args.pd c.args.most (c.pc-code.result / 4096) c.new-copies.result c.look_at.new.copies c.look_at_registers.new.copies
    c.look_after.new.copies none c.look_at.ensures.kept c.look_at_registers.ensures.kept c.requires c.in_ok-look_at.ensures.grown c.in_ok-look_at_registers.ensures.grown c.in_ok-look_after.ensures.grown).1
