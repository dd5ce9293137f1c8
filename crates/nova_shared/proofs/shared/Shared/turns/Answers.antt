use Rattle.std.proofs.Common.{rules, ◌≡◌, ap, arith, Fits, w64}
use Rattle.nova_shared.proofs.Seats.{mine_fits, mine_is, seen_is}
use Rattle.nova_shared.proofs.shared.Shared.turns.Goals as goal

pub overflow_add-seat : goal.overflow_add-seat
overflow_add-seat g c =
    let d = c.go-done.ensures.told in
    let s = c.seat.inside.seat in
    let most = mine_fits s.number c.go-done.result.seen c.seat.inside.mine c.go-done.result.taken s.front d.0 c.go-done.new.seat.front d.1 d.2 d.3 c.seat.invariant.1 in
    let fits : Fits w64 c.go-done.result.seen = search rules in
    omega (arith, most, fits)

pub invariant_of-seat : goal.invariant_of-seat
invariant_of-seat g c =
    let d = c.go-done.ensures.told in
    let s = c.seat.inside.seat in
    let number : c.go-done.new.seat.number ≡ s.number = ap (λ t. t.number) c.go-done.ensures.seat in (
      seen_is s.number c.go-done.result.seen c.seat.inside.mine c.go-done.result.taken s.front d.0 c.go-done.new.seat.front d.1 d.2 d.3 c.seat.invariant.1,
      mine_is s.number c.go-done.result.seen c.seat.inside.mine c.go-done.result.taken s.front d.0 c.go-done.new.seat.front d.1 d.2 d.3 c.seat.invariant.1 c.go-done.new.seat.number number,
      c.seat.invariant.2,
      search rules,
    )
