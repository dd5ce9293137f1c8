use Rattle.std.proofs.Common.{◌≡◌, ◌+◌, ◌-◌, ◌∙◌, arith, subst, ℕ}
use Rattle.nova_finished.specs.UnderWay.{IsGone}
use Rattle.nova_finished.proofs.Going.{turns_on}
use Rattle.nova_rounds.proofs.rounds.take.Goals as goal

pub loop-left-preserved : goal.loop-left-preserved
loop-left-preserved c =
    let n = c.args.most - c.loop-left.left in
    let m = c.in-Ok.taken in
    let few = c.loop-left.invariant.2 in
    let most = c.in-Ok.ensures.gone.few in
    let same : n + m ≡ c.args.most - (c.loop-left.left - m) = omega (arith, few, most) in
    let on = turns_on c.args.run.now c.loop-left.run c.go.new.self c.args.cpu c.args.most c.loop-left.left n m c.loop-left.invariant.0 c.in-Ok.ensures.gone c.args.most (omega (arith, few, most)) in (
      subst (λ (l : ℕ). IsGone c.args.run.now c.args.cpu c.args.most l c.go.new.self) same on,
      c.go.ensures.places ∙ c.loop-left.invariant.1,
      omega (arith, few, most),
    )
