use Rattle.std.proofs.Common.{arith, ap₂, ◌∙◌}
use Rattle.law_renaming.specs.Forced.{alike_maps}
use Rattle.nova_twin.proofs.Passing.{map_fails, map_goes_on, maps_joined, partners}
use Rattle.nova_twin.proofs.alike.join_maps.Goals as goal

pub join_map-requires-clause-alike : goal.join_map-requires-clause-alike
join_map-requires-clause-alike c =
    partners c.as_slice-maps.result.now c.as_slice-others.result.now c.loop-i.i _ _ (ap₂ alike_maps c.as_slice-maps.ensures c.as_slice-others.ensures ∙ c.requires.alike) (grind arith) (grind arith)

pub returns-then-not-branch : goal.returns-then-not-branch
returns-then-not-branch c =
    map_fails c.args.u.now c.args.v.now c.loop-i.met.items _ c.as_slice-maps.result.now c.as_slice-others.result.now c.args.u.now.maps c.args.v.now.maps c.loop-i.i _ _ c.as_slice-maps.ensures c.as_slice-others.ensures (grind arith)
    _ c.in_ok-join_map.ensures _ c.loop-i.invariant c.if-not-branch.true

pub loop-i-preserved : goal.loop-i-preserved
loop-i-preserved c =
    map_goes_on c.args.u.now c.args.v.now c.loop-i.met.items _ c.as_slice-maps.result.now c.as_slice-others.result.now c.args.u.now.maps c.args.v.now.maps c.loop-i.i _ _ c.as_slice-maps.ensures c.as_slice-others.ensures (grind arith)
    _ c.in_ok-join_map.ensures _ c.loop-i.invariant c.if-not-branch.false

pub returns : goal.returns
returns c = maps_joined c.args.u.now c.args.v.now c.loop-i.met.items c.args.u.now.maps c.args.v.now.maps c.loop-i.i _ (grind arith) c.loop-i.invariant
