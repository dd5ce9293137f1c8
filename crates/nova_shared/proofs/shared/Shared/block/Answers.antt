use Rattle.std.proofs.Common.{rules, ◌≡◌, ap, arith, Fits, w64}
use Rattle.nova_shared.proofs.Seats.{mine_fits, mine_is, seen_is}
use Rattle.nova_shared.proofs.shared.Shared.block.Goals as goal

pub overflow_add-seat : goal.overflow_add-seat
overflow_add-seat g c =
    let d = c.act-done.ensures.told in
    let s = c.seat.inside.seat in
    let most = mine_fits s.number c.act-done.result.seen c.seat.inside.mine c.act-done.result.taken s.front d.0 c.act-done.new.seat.front d.1 d.2 d.3 c.seat.invariant.1 in
    let fits : Fits w64 c.act-done.result.seen = search rules in
    omega (arith, most, fits)

pub invariant_of-seat : goal.invariant_of-seat
invariant_of-seat g c =
    let d = c.act-done.ensures.told in
    let s = c.seat.inside.seat in
    let number : c.act-done.new.seat.number ≡ s.number = ap (λ t. t.number) c.act-done.ensures.seat in (
      seen_is s.number c.act-done.result.seen c.seat.inside.mine c.act-done.result.taken s.front d.0 c.act-done.new.seat.front d.1 d.2 d.3 c.seat.invariant.1,
      mine_is s.number c.act-done.result.seen c.seat.inside.mine c.act-done.result.taken s.front d.0 c.act-done.new.seat.front d.1 d.2 d.3 c.seat.invariant.1 c.act-done.new.seat.number number,
      c.seat.invariant.2,
      search rules,
    )
