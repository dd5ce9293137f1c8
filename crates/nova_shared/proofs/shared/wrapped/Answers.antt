use Rattle.std.proofs.Common.{rules, ◌≡◌, ◌≢◌, ◌∷◌, ◌++◌, ◌∙◌, [], arith, ap, sym, append_assoc, length}
use Rattle.nova_shared.proofs.Seats.{all_tail}
use Rattle.nova_shared.proofs.shared.wrapped.Goals as goal

pub loop-seat-preserved : goal.loop-seat-preserved
loop-seat-preserved c =
    let rest = c.next.new.self.rest.items in
    let steps : c.loop-seat.seat-iterator.rest.items ≡ c.in-Some.seat ∷ rest = search rules in
    let i = c.loop-seat.invariant in (
      ap (λ l. l ++ rest) c.add-in-loop-seat.ensures.items ∙ (append_assoc c.loop-seat.out.items (c.in-Some.seat ∷ []) rest ∙ (ap (λ l. c.loop-seat.out.items ++ l) (sym steps) ∙ i.0)),
      omega (arith, ap length steps, c.add-in-loop-seat.ensures.len, c.add-in-loop-seat.ensures.room, i.1),
      all_tail (λ s. (s.front ≡ []) × (s.number ≢ 0)) _ _ _ steps i.2,
    )
