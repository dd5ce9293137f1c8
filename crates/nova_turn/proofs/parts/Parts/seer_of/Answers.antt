use Rattle.std.proofs.Common.{sym, ◌∙◌}
use Rattle.nova_turn.specs.Parts.{state_of}
use Rattle.nova_turn.proofs.StoresSeen.{seer_calm, seer_none, seer_only}
use Rattle.nova_turn.proofs.parts.Parts.seer_of.Goals as goal

pub returns-in-Empty : goal.returns-in-Empty
returns-in-Empty c = λ frame wrote.
    seer_none (state_of c.args.self.now) c.args.self.now.reach.written c.args.ec c.args.guests c.requires.these frame wrote c.in-Empty.is

pub returns-then-is_stirring : goal.returns-then-is_stirring
returns-then-is_stirring c = λ frame wrote.
    seer_only (state_of c.args.self.now) c.args.self.now.reach.written c.args.ec c.args.guests c.requires.these frame wrote c.in-Single.guest c.in-Single.is
    (sym c.is_stirring.ensures ∙ c.if-is_stirring.true)

pub returns-else-is_stirring : goal.returns-else-is_stirring
returns-else-is_stirring c = λ frame wrote.
    seer_calm (state_of c.args.self.now) c.args.self.now.reach.written c.args.ec c.args.guests c.requires.these frame wrote c.in-Single.guest c.in-Single.is
    (sym c.is_stirring.ensures ∙ c.if-is_stirring.false)
