use Rattle.std.proofs.Common.{◌++◌, List, sym, ap, ◌∙◌}
use Rattle.std.proofs.lemmas.List.{append-nil}
use Rattle.nova_ties.specs.declared.tie.Tie.{Tie}
use Rattle.nova_sides.proofs.Queues.{nobody_waits}
use Rattle.nova_sides.proofs.holding.push_waits.Goals as goal

pub returns-then-waiting_at-eq0 : goal.returns-then-waiting_at-eq0
returns-then-waiting_at-eq0 c =
    sym (append-nil c.args.out.now.items)
    ∙ ap (λ (l : List Tie). c.args.out.now.items ++ l) (sym (nobody_waits c.args.kernel.now.state c.args.d c.requires.blocked (sym c.waiting_at.ensures ∙ c.if-waiting_at-eq0.true)))
