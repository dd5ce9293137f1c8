use Rattle.std.proofs.Common.{rules, ◌≡◌, ◌∙◌, List, Bool, length, ap, arith}
use Rattle.std.specs.List.{enumerate_from}
use Rattle.nova_ties.specs.Ties.{is_another}
use Rattle.nova_flowing.specs.Tables.{is_label, is_part, own_table, part_table}
use Rattle.nova_flowing.specs.Tests.{is_in}
use Rattle.nova_flowing.proofs.Numbered.{mapped_length, numbered_length}
use Rattle.nova_flowing.proofs.sides.division_of.Goals as goal

pub returns-clause-part : goal.returns-clause-part
returns-clause-part c =
    let k = c.args.kernel.now.state in
    let table = own_table c.args.labels.now c.args.label in
    let second : c.deref-2.result.now ≡ table = search rules in
    c.in_ok-part.ensures ∙ ap (λ (t : List Bool). part_table k (is_in t)) second

pub returns-clause-of : goal.returns-clause-of
returns-clause-of c =
    let k = c.args.kernel.now.state in
    let own : length c.in_ok-own.own.items ≡ length c.args.labels.now = ap (λ (t : List Bool). length t) c.in_ok-own.ensures ∙ mapped_length (is_label c.args.label) c.args.labels.now in
    let others : length c.in_ok-others.others.items ≡ length c.args.labels.now = ap (λ (t : List Bool). length t) c.in_ok-others.ensures ∙ mapped_length (is_another c.args.label) c.args.labels.now in
    let part : length c.in_ok-part.part.items ≡ length k.objects =
    ap (λ (t : List Bool). length t) c.in_ok-part.ensures ∙ mapped_length (is_part k (is_in c.deref-2.result.now)) (enumerate_from 0 k.objects) ∙ numbered_length 0 k.objects in
    let few = c.requires.labels in
    record { own = omega (arith, own, few); others = omega (arith, others, few); part = omega (arith, part) }
