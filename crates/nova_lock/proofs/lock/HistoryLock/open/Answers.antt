use Rattle.std.proofs.Common.{rules, ◌≡◌, ap, sym, ◌∙◌, [], ◌∷◌}
use Rattle.nova_lock.proofs.Seating.{opened}
use Rattle.nova_lock.proofs.lock.HistoryLock.open.Goals as goal

pub new-requires : goal.new-requires
new-requires g c =
    let items : c.push.new.self.items ≡ c.of-about.result.value ∷ [] = search rules in
    rw items (opened g.T.Historied.opening g.T.Historied.history g.T.Historied.uses c.of-about.result.value c.blocks-served.result (search rules)
    (ap g.T.Historied.history c.of-about.ensures ∙ c.requires.empty) (ap g.T.Historied.uses c.of-about.ensures ∙ sym c.blocks-served.ensures))
