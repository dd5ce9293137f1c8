use Rattle.std.proofs.Common.{ℕ, ◌+◌, length, sym, subst}
use Rattle.std.proofs.lemmas.List.{length-set}
use Rattle.nova_frames.specs.Store.{FrameStore}
use Rattle.nova_memory.specs.Reach.{LeadToFrames}
use Rattle.nova_memory.proofs.reach.Reach.write_frame.Goals as goal

pub invariant_of-self : goal.invariant_of-self
invariant_of-self c =
    let r = c.self.inside in
    let i = c.self.invariant.1 in
    let list = r.nodes.delegations.list in (
      subst (λ (f : FrameStore). LeadToFrames (length f.memory.ram + f.consoles) list) (sym c.write_frame.ensures)
          (subst (λ (n : ℕ). LeadToFrames (n + r.frames.consoles) list) (sym (length-set r.frames.memory.ram c.args.frame c.args.bytes.now)) c.self.invariant.0),
      (i.0, (i.1.0, (i.1.1.0, (i.1.1.1.0, c.forget.ensures list list r.frames.memory c.write_frame.new.self.memory i.1.1.1.1)))),
    )
