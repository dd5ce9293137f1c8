use Rattle.std.proofs.Common.{rules, ◌<◌, refl, slice_index_or, arith}
use Rattle.nova_compare.specs.Steps.{IsSuccessor}
use Rattle.nova_search.proofs.Ways.{all_along, along_none, along_on, few_along}
use Rattle.nova_search.proofs.following.go_along.Goals as goal

pub loop-cpu-init : goal.loop-cpu-init
loop-cpu-init c = along_none c.args.vertex.now c.args.vertex.now refl

pub go_on-requires : goal.go_on-requires
go_on-requires c =
    few_along c.args.vertex.now c.loop-cpu.vertex c.args.order.now c.loop-cpu.cpu-index 2147483648 c.loop-cpu.invariant c.loop-cpu-test.true
    (c.requires (let less = c.loop-cpu-test.true in omega (arith, less)))

pub loop-cpu-preserved : goal.loop-cpu-preserved
loop-cpu-preserved c =
    let cpu = slice_index_or c.args.order.now c.loop-cpu.cpu-index 0 in
    let there : cpu < c.loop-cpu.vertex.cpus = search rules in
    let next : IsSuccessor c.loop-cpu.vertex cpu c.go_on.new.vertex = search rules in
    let cpus = c.loop-cpu.invariant.cpus in
    along_on c.args.vertex.now c.loop-cpu.vertex c.go_on.new.vertex c.args.order.now c.loop-cpu.cpu-index c.loop-cpu.invariant c.loop-cpu-test.true
    (omega (arith, there, cpus)) next

pub returns : goal.returns
returns c = λ _. all_along c.args.vertex.now c.loop-cpu.vertex c.args.order.now c.loop-cpu.cpu-index c.loop-cpu.invariant c.loop-cpu-test.false
