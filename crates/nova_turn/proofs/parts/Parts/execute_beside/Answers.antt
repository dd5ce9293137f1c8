use Rattle.std.proofs.Common.{refl, ◌∙◌}
use Rattle.rv_model.specs.Step.{one}
use Rattle.rv_core.specs.Steps.{space_of}
use Rattle.nova_memory.specs.Reach.{fetched, loaded, takes}
use Rattle.nova_turn.specs.Parts.{state_of}
use Rattle.nova_turn.proofs.Beside.{beside-there, beside-written, raised-room, still-entered}
use Rattle.nova_turn.proofs.parts.Parts.execute_beside.Goals as goal

pub returns-clause-outcome : goal.returns-clause-outcome
returns-clause-outcome c =
    (beside-there (state_of c.args.self.now) c.args.ec c.args.self.now.reach c.step.new.self c.args.regs.now c.step.new.regs c.step.result c.requires.there
    (record { delegations = refl; memory = refl; messages = refl; consoles = refl; number = c.requires.entered.number; pd = c.requires.entered.pd; is_thread = c.requires.entered.is_thread })
    c.step.ensures).0

pub returns-clause-done : goal.returns-clause-done
returns-clause-done c =
    (beside-there (state_of c.args.self.now) c.args.ec c.args.self.now.reach c.step.new.self c.args.regs.now c.step.new.regs c.step.result c.requires.there
    (record { delegations = refl; memory = refl; messages = refl; consoles = refl; number = c.requires.entered.number; pd = c.requires.entered.pd; is_thread = c.requires.entered.is_thread })
    c.step.ensures).1

pub returns-clause-entered : goal.returns-clause-entered
returns-clause-entered c =
    let still = still-entered c.args.self.now.reach c.step.new.self c.args.regs.now c.step.new.regs c.step.result (one c.args.regs.now (space_of fetched loaded takes c.args.self.now.reach)) c.step.ensures in record {
      number = still.0 ∙ c.requires.entered.number;
      pd = still.1 ∙ c.requires.entered.pd;
      is_thread = still.2 ∙ c.requires.entered.is_thread;
    }

pub returns-clause-raised : goal.returns-clause-raised
returns-clause-raised c =
    raised-room c.args.self.now.reach c.step.new.self c.args.regs.now c.step.new.regs c.step.result (one c.args.regs.now (space_of fetched loaded takes c.args.self.now.reach)) c.step.ensures

pub returns-clause-written : goal.returns-clause-written
returns-clause-written c = λ none.
    beside-written (state_of c.args.self.now) c.args.ec c.args.self.now.reach c.step.new.self c.args.regs.now c.step.new.regs c.step.result c.requires.there
    (record { delegations = refl; memory = refl; messages = refl; consoles = refl; number = c.requires.entered.number; pd = c.requires.entered.pd; is_thread = c.requires.entered.is_thread })
    none c.step.ensures
