use Rattle.std.proofs.Common.{rules, ◌≡◌, ◌∙◌, ◌++◌, ℕ, List, Bool, codes, string_bytes, ap}
use Rattle.std.proofs.lemmas.Result.{on_ok_weaker}
use Rattle.nova_naming.specs.Labels.{side_text}
use Rattle.nova_flowing.specs.Lines.{verdict_at, verdict_text}
use Rattle.nova_flowing.specs.Tables.{home_by, own_by}
use Rattle.nova_flowing.specs.Tests.{is_in}
use Rattle.nova_flowing.specs.Working.{work_by}
use Rattle.nova_flowing.specs.declared.lapse.Work.{Work}
use Rattle.nova_model.specs.declared.delegation.Derivation.{Derivation}
use Rattle.nova_flowing.specs.declared.deciding.Verdict.{Verdict}
use Rattle.nova_flowing.proofs.Telling.{line_whole, verdict_same}
use Rattle.nova_flowing.proofs.lines.write_flow.Goals as goal

pub returns : goal.returns
returns c =
    let k = c.args.kernel.now.state in
    let v = c.in_ok-v.v in
    let home : c.deref-2.result.now ≡ v.home.items = search rules in
    let own : c.deref.result.now ≡ v.own.items = search rules in
    let verdict = c.decide-verdict.ensures.exact ∙ verdict_same k c.args.labels.now c.args.label v.own.items v.others.items v.part.items v.home.items c.in_ok-v.ensures.own c.in_ok-v.ensures.others c.in_ok-v.ensures.part c.in_ok-v.ensures.home in
    let work : c.work_of-work.result ≡ work_by k.delegations.list (own_by c.args.labels.now c.args.label) c.args.lapses.now =
    c.work_of-work.ensures ∙ ap (λ (l : List Derivation). work_by l (is_in c.deref.result.now) c.args.lapses.now) c.requires.list
    ∙ ap (λ (t : List Bool). work_by k.delegations.list (is_in t) c.args.lapses.now) (own ∙ c.in_ok-v.ensures.own) in
    let told : verdict_text (is_in c.deref-2.result.now) c.cpus-cpus.result c.work_of-work.result c.decide-verdict.result
    ≡ verdict_text (home_by k c.args.labels.now c.args.label) k.cpus (work_by k.delegations.list (own_by c.args.labels.now c.args.label) c.args.lapses.now) (verdict_at k c.args.labels.now c.args.label) =
    ap (λ (t : List Bool). verdict_text (is_in t) c.cpus-cpus.result c.work_of-work.result c.decide-verdict.result) (home ∙ c.in_ok-v.ensures.home)
    ∙ ap (λ (n : ℕ). verdict_text (home_by k c.args.labels.now c.args.label) n c.work_of-work.result c.decide-verdict.result) c.cpus-cpus.ensures
    ∙ ap (λ (w : Work). verdict_text (home_by k c.args.labels.now c.args.label) k.cpus w c.decide-verdict.result) work
    ∙ ap (λ (w : Verdict). verdict_text (home_by k c.args.labels.now c.args.label) k.cpus (work_by k.delegations.list (own_by c.args.labels.now c.args.label) c.args.lapses.now) w) verdict in
    let first : string_bytes c.push_str.new.self ≡ string_bytes c.args.out.now ++ codes "flow " = search rules in
    let second : string_bytes c.write_side.new.out ≡ string_bytes c.push_str.new.self ++ side_text c.args.policy.now c.args.label = search rules in
    on_ok_weaker c.write_verdict.result (λ bytes. line_whole (codes "flow ") (side_text c.args.policy.now c.args.label) _ _ _ _ _ _ first second told bytes) c.write_verdict.ensures
