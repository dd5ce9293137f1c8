use Rattle.std.proofs.Common.{◌≡◌, ◌∙◌, sym, arith}
use Rattle.std.specs.Prelude.{false}
use Rattle.nova_model.specs.Edges.{stays}
use Rattle.nova_ec.proofs.Ends.{chases_go_on, met_shorter}
use Rattle.nova_ec.proofs.ecs.Ecs.end_of_chase.Goals as goal

pub loop-at-preserved : goal.loop-at-preserved
loop-at-preserved c =
    let leads = sym c.edge.ensures ∙ c.in-Some.is in
    let moves : stays c.args.self.now.items c.loop-at.at ≡ false = grind (arith, leads, c.acts.ensures.acts, c.loop-at-test.true) in
    sym ((chases_go_on c.args.self.now.items c.loop-at.at c.keeps_edges.ensures).goes_on c.in-Some.handler moves leads) ∙ c.loop-at.invariant

pub loop-at-smaller : goal.loop-at-smaller
loop-at-smaller c = met_shorter c.args.self.now.items c.loop-at.at c.in-Some.handler c.keeps_edges.ensures (sym c.edge.ensures ∙ c.in-Some.is)
