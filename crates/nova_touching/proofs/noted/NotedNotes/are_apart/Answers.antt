use Rattle.std.proofs.Common.{◌≡◌, rules, sym, ◌∙◌}
use Rattle.nova_touching.specs.Marks.{are_apart_from}
use Rattle.nova_touching.proofs.Marking.{all_apart}
use Rattle.nova_touching.proofs.noted.NotedNotes.are_apart.Goals as goal

pub returns : goal.returns
returns c = λ are p q a b other is there.
    let same : c.are_apart_from.result ≡ are_apart_from c.args.self.now.all c.args.self.now.lone = search rules in
    all_apart c.args.self.now.all c.args.self.now.lone p q a b (sym same ∙ are) other is there
