use Rattle.std.proofs.Common.{◌≡◌, ℕ, List, rules, subst}
use Rattle.nova_boot.specs.Boot.{scenario_of}
use Rattle.nova_model.specs.Boot.{boot}
use Rattle.nova_order.specs.Blocks.{turns}
use Rattle.nova_policy.specs.Runs.{IsToldFlowing}
use Rattle.nova_flowing.specs.declared.lapse.Lapse.{Lapse}
use Rattle.nova_watching.specs.Worked.{AreLapses}
use Rattle.nova_policy.proofs.Flowing.{with_lapses}
use Rattle.nova_policy.proofs.Ran.{taken_by}
use Rattle.nova_policy.proofs.decided.told_part.Goals as goal

pub told_flowing-told-requires-clause-run : goal.told_flowing-told-requires-clause-run
told_flowing-told-requires-clause-run c = taken_by (boot (scenario_of c.args.scenario.now)) _ c.in_ok-part.part c.in_ok-part.ensures

pub returns : goal.returns
returns c =
    let k = boot (scenario_of c.args.scenario.now) in
    let list = turns c.args.run.now.order.blocks in
    let same : c.from-first.result ≡ c.args.from = search rules in
    let lapses : c.deref.result.now ≡ c.in_ok-lapses.lapses.items = search rules in
    let told : IsToldFlowing k (turns c.in_ok-part.part.order.blocks) c.args.policy.now c.args.from c.in_ok-lapses.lapses.items c.told_flowing-told.result =
    subst (λ (n : ℕ). IsToldFlowing k (turns c.in_ok-part.part.order.blocks) c.args.policy.now n c.in_ok-lapses.lapses.items c.told_flowing-told.result) same
    (subst (λ (l : List Lapse). IsToldFlowing k (turns c.in_ok-part.part.order.blocks) c.args.policy.now c.from-first.result l c.told_flowing-told.result) lapses c.told_flowing-told.ensures) in
    with_lapses c.sides_may_revoke_what_they_keep.ensures k list (turns c.in_ok-part.part.order.blocks) c.args.policy.now c.args.from c.in_ok-lapses.lapses.items _ c.in_ok-part.ensures.order c.requires.run.no_idle
    (subst (λ (n : ℕ). AreLapses n k list c.in_ok-lapses.lapses.items) same c.in_ok-lapses.ensures) told
