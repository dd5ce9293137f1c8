use Rattle.std.proofs.Common.{rules, ◌≡◌, ◌<◌, length, subst, sym, ◌∙◌}
use Rattle.std.specs.List.{AllByRecursion}
use Rattle.nova_model.specs.State.{KernelState}
use Rattle.nova_order.specs.Blocks.{turns}
use Rattle.nova_run.proofs.Seated.{still_written}
use Rattle.nova_run.proofs.workers.share.Goals as goal

pub finish-requires : goal.finish-requires
finish-requires g c =
    let given = c.in-Ok.ensures.seats in
    let after = c.work_together.ensures.seats in
    let long : c.in-Ok.made.1.len ≡ length c.in-Ok.made.1.items = search rules in
    record { seats = still_written c.in-Ok.made.0 c.work_together.new.seats _ c.in-Ok.made.1.len (long ∙ given.all.len ∙ sym after.all.len) after }

pub returns-clause-processors : goal.returns-clause-processors
returns-clause-processors g c =
    subst (λ (k : KernelState). AllByRecursion (λ cpu. cpu < k.cpus) (turns c.finish.result.order.blocks)) c.in-Ok.ensures.opening.0 c.finish.ensures.processors
