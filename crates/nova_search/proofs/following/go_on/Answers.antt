use Rattle.std.proofs.Common.{◌<◌, Option, arith, subst, sym}
use Rattle.nova_model.specs.State.{KernelState}
use Rattle.nova_compare.specs.Steps.{IsNext, IsSuccessor}
use Rattle.nova_search.proofs.following.go_on.Goals as goal

pub returns : goal.returns
returns c = λ went.
    let cpus = c.cpus.ensures in
    let test = c.if-cpu-cpus.false in
    let there : c.args.cpu < c.args.vertex.now.cpus = omega (arith, cpus, test) in
    let next : IsSuccessor c.args.vertex.now c.args.cpu c.in-Some.next =
    subst (λ (o : Option KernelState). IsNext c.args.vertex.now c.args.cpu o) c.in-Some.is c.in_ok-next.ensures in
    (there, subst (λ (s : KernelState). IsSuccessor c.args.vertex.now c.args.cpu s) (sym c.replace.ensures.after) next)
