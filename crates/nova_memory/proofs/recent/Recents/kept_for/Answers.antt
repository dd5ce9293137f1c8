use Rattle.nova_memory.proofs.recent.Recents.kept_for.Goals as goal

pub returns-else-self-pd-clause-recent : goal.returns-else-self-pd-clause-recent
returns-else-self-pd-clause-recent c = λ list are. c.new.ensures.none list
