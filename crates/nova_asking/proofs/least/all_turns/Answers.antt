use Rattle.std.proofs.Common.{rules, arith}
use Rattle.std.proofs.lemmas.List.{length-map}
use Rattle.nova_search.specs.Searches.{state_of, states_of}
use Rattle.nova_asking.specs.Least.{turns_if}
use Rattle.nova_asking.proofs.Near.{noted_all, noted_on}
use Rattle.nova_asking.proofs.least.all_turns.Goals as goal

pub loop-place-preserved : goal.loop-place-preserved
loop-place-preserved g c =
    let long = length-map c.args.found.now state_of in
    let some = c.loop-place-test.true in
    noted_on (turns_if (g.G.Goal.met c.args.goal.now)) (states_of c.args.found.now) c.loop-place.place c.loop-place.least.items c.push.new.self.items _ c.loop-place.invariant
    (omega (arith, long, some)) c.in_ok-turns_at.ensures (search rules)

pub returns : goal.returns
returns g c =
    let long = length-map c.args.found.now state_of in
    let done = c.loop-place-test.false in
    noted_all (turns_if (g.G.Goal.met c.args.goal.now)) (states_of c.args.found.now) c.loop-place.place c.loop-place.least.items c.loop-place.invariant (omega (arith, long, done))
