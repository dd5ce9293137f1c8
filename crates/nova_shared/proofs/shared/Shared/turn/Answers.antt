use Rattle.std.proofs.Common.{rules, ◌≡◌, ap, ℕ, [], ◌∷◌, length, arith, length-append, subst}
use Rattle.nova_lock.specs.History.{entries}
use Rattle.nova_shared.specs.Told.{IsTold}
use Rattle.nova_shared.specs.declared.shared_run.SharedTurn.{SharedTurn}
use Rattle.nova_shared.proofs.Seats.{stepped_mine}
use Rattle.nova_shared.proofs.shared.Shared.turn.Goals as goal

pub invariant_of-seat-in-Stepped-1 : goal.invariant_of-seat-in-Stepped-1
invariant_of-seat-in-Stepped-1 g c =
    let d = c.in-Ok.ensures.told in
    let n = c.seat.inside.seat.number in
    let o = c.args.self.now.opened.opening in
    let told = subst (λ (t : SharedTurn). IsTold o.kernel.state o.limit n d.0 c.take.new.seat.front t) c.in-Stepped.is d.2 in
    let number : c.take.new.seat.number ≡ n = ap (λ s. s.number) c.take.ensures.seat in
    let mine : c.seat.inside.mine ≡ entries n c.seat.inside.seat.front = c.seat.invariant.1 in (
      omega (arith, told.1, ap length told.0, length-append d.0 (n ∷ [])),
      omega (arith, mine, ap (λ (m : ℕ). entries m c.take.new.seat.front) number, ap (entries n) told.0, stepped_mine n c.seat.inside.seat.front d.0 d.1),
      c.seat.invariant.2,
      search rules,
    )
