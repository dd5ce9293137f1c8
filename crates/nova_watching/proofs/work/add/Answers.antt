use Rattle.std.proofs.Common.{◌≡◌, ◌∷◌, [], ◌++◌, ◌∙◌, List, sym, ap, rules}
use Rattle.std.specs.List.{list_any}
use Rattle.nova_flowing.specs.Working.{first_lapse}
use Rattle.nova_flowing.specs.declared.lapse.Lapse.{Lapse}
use Rattle.nova_watching.specs.Worked.{is_like}
use Rattle.nova_watching.proofs.Lapsing.{found_more, found_same}
use Rattle.nova_watching.proofs.work.add.Goals as goal

pub returns-then-has_like : goal.returns-then-has_like
returns-then-has_like c = λ revokes S.
    let same : c.deref.result.now ≡ c.args.lapses.now.items = search rules in
    found_same revokes S c.args.lapses.now.items c.args.lapse
    (ap (λ (l : List Lapse). list_any (is_like c.args.lapse) l) (sym same) ∙ sym c.has_like.ensures ∙ c.if-has_like.true)

pub returns : goal.returns
returns c = λ revokes S.
    let pushed : c.push.new.self.items ≡ c.args.lapses.now.items ++ c.args.lapse ∷ [] = search rules in
    ap (first_lapse revokes S) pushed ∙ found_more revokes S c.args.lapses.now.items c.args.lapse
