use Rattle.std.proofs.Common.{◌≡◌, ◌≢◌, length, ap, sym, ◌∙◌, arith}
use Rattle.std.specs.Prelude.{min}
use Rattle.law_renaming.specs.Verdicts.{Differ}
use Rattle.nova_twin.proofs.Passing.{differ_at_end}
use Rattle.nova_twin.proofs.comparing.first_unlike.Goals as goal

pub returns-else-inputs-others : goal.returns-else-inputs-others
returns-else-inputs-others c =
    let first : length c.as_slice-inputs.result.now ≡ length c.args.a.now.inputs.items = ap length c.as_slice-inputs.ensures.value in
    let second : length c.as_slice-others.result.now ≡ length c.args.b.now.inputs.items = ap length c.as_slice-others.ensures.value in
    let here : c.loop-i.i ≡ c.min-both.result = omega arith in
    let least : c.loop-i.i ≡ min (length c.args.a.now.inputs.items) (length c.args.b.now.inputs.items) = grind (arith, first, second) in
    let many : length c.args.a.now.inputs.items ≢ length c.args.b.now.inputs.items = λ same. grind (arith, same, first, second) in
    sym c.loop-i.invariant
    ∙ (differ_at_end c.args.a.now.start c.args.b.now.start c.loop-i.met.items c.loop-i.i c.args.a.now.inputs.items c.args.b.now.inputs.items least many ∙ ap Differ here)
