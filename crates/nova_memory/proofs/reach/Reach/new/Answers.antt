use Rattle.std.proofs.Common.{◌+◌, length, sym, subst}
use Rattle.nova_model.specs.Delegations.{Delegations}
use Rattle.nova_memory.specs.Reach.{LeadToFrames}
use Rattle.nova_memory.proofs.Laid.{new_leads}
use Rattle.nova_memory.proofs.Seen.{blank_seen}
use Rattle.nova_memory.proofs.reach.Reach.new.Goals as goal

pub invariant_of-result : goal.invariant_of-result
invariant_of-result c = (
  subst (λ (f : Delegations). LeadToFrames (length c.in_ok-frames.frames.memory.ram + c.in_ok-frames.frames.consoles) f.list) (sym c.in_ok-nodes.ensures)
      (new_leads c.in_ok-frames.frames c.args.ram c.args.consoles c.args.log_room c.requires.ram c.requires.consoles c.in_ok-frames.ensures),
  (
    tt,
    (blank_seen c.in_ok-nodes.nodes.delegations.list c.in_ok-sights.sights c.in_ok-sights.ensures, (c.new-3.ensures.none c.in_ok-nodes.nodes.delegations.list, (c.new-4.ensures.none c.in_ok-nodes.nodes.delegations.list, c.none.ensures c.in_ok-nodes.nodes.delegations.list c.in_ok-frames.frames.memory))),
  ),
)
