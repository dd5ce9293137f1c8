use Rattle.std.proofs.Common.{◌≡◌, Some, subst}
use Rattle.nova_turn.specs.Parts.{state_of}
use Rattle.nova_turn.specs.StoresSeen.{IsSeer}
use Rattle.nova_turn.specs.declared.parts.Parts.{Parts}
use Rattle.nova_turn.proofs.parts.Parts.note_anew.Goals as goal

pub returns-clause-seers : goal.returns-clause-seers
returns-clause-seers c = λ are.
    c.learn.ensures (state_of c.args.self.now) c.args.ec are
    (subst (λ (p : Parts). p.reach.written ≡ Some c.args.frame → IsSeer (state_of p) c.args.ec c.args.frame c.seer_of-seer.result) c.whom-guests.ensures.kept (c.seer_of-seer.ensures c.args.frame) c.requires.written)
