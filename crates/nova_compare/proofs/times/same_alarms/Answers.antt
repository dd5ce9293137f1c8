use Rattle.std.proofs.Common.{◌≡◌, ◌∙◌, ℕ, arith, slice_get, sym}
use Rattle.nova_compare.proofs.Places.{below_none, below_on, same_lists}
use Rattle.nova_compare.proofs.times.same_alarms.Goals as goal

pub loop-i-init : goal.loop-i-init
loop-i-init c = below_none _

pub loop-i-preserved : goal.loop-i-preserved
loop-i-preserved c =
    below_on (λ (n : ℕ). slice_get c.args.a.now.state.times.alarms n ≡ slice_get c.args.b.now.state.times.alarms n) c.loop-i.i c.loop-i.invariant
    c.if-not-same_alarm_at.ensures

pub returns : goal.returns
returns c =
    let over = c.loop-i-test.false in
    let first = c.requires.first in
    same_lists c.args.a.now.state.times.alarms c.args.b.now.state.times.alarms (first ∙ sym c.requires.second) (λ n less. c.loop-i.invariant n (omega (arith, less, over, first)))
