use Rattle.std.proofs.Common.{rules, ◌<◌, ◌≤◌, length, arith}
use Rattle.nova_watching.proofs.Adding.{all_gifts, gifts_begun, one_gift}
use Rattle.nova_watching.proofs.work.note_gifts.Goals as goal

pub loop-i-init : goal.loop-i-init
loop-i-init c = gifts_begun c.args.kernel.now.state c.args.done c.args.doer c.args.lapses.now.items c.objects-object-items.result.now c.objects-object-items.ensures.objects

pub loop-i-preserved : goal.loop-i-preserved
loop-i-preserved c =
    let less : c.loop-i.i < length c.objects-object-items.result.now = search rules in
    one_gift c.args.kernel.now.state c.args.done c.args.doer c.args.lapses.now.items c.loop-i.lapses.items c.note.new.lapses.items c.objects-object-items.result.now c.loop-i.i _ less
    c.loop-i.invariant c.gift_at.result c.gift_at.ensures c.in_ok-note.ensures

pub returns : goal.returns
returns c =
    let more = c.loop-i-test.false in
    let all : length c.objects-object-items.result.now ≤ c.loop-i.i = omega (arith, more) in
    all_gifts c.args.kernel.now.state c.args.done c.args.doer c.args.lapses.now.items c.loop-i.lapses.items c.objects-object-items.result.now c.loop-i.i all c.loop-i.invariant
