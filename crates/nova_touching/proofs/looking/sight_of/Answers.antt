use Rattle.std.proofs.Common.{◌≡◌, rules, ◌∙◌, ap}
use Rattle.nova_model.specs.AddressSpaces.{frame_for}
use Rattle.nova_range.specs.Rights.{execute_right}
use Rattle.nova_touching.specs.Looking.{seen}
use Rattle.nova_touching.proofs.Looked.{sight_is}
use Rattle.nova_touching.proofs.looking.sight_of.Goals as goal

pub returns : goal.returns
returns c =
    let pc : c.pc.result ≡ c.args.regs.now.pc = search rules in
    let stored : c.looking.inside.stored ≡ c.look-outcome.new.self.stored = search rules in
    sight_is c.args.kernel.now.state c.args.ec c.args.regs.now c.new-looking.result c.look-outcome.new.self c.look-outcome.result _ (record {
      regs_are = c.requires;
      kernel = c.new-looking.ensures.kernel;
      ec_is = c.new-looking.ensures.ec;
      outcome = c.look-outcome.ensures.outcome;
      next = c.look-outcome.ensures.stored;
    }) c.is_next-goes_on.ensures (c.frame_for-fetched.ensures.frame ∙ ap (frame_for (seen c.new-looking.result) execute_right) pc) c.frame_missed-loaded.ensures stored
