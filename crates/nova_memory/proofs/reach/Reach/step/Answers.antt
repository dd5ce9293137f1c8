use Rattle.std.proofs.Common.{◌≡◌, ℕ, ◌%◌, refl, subst}
use Rattle.nova_memory.proofs.reach.Reach.step.Goals as goal

pub step_known-requires-clause-aligned : goal.step_known-requires-clause-aligned
step_known-requires-clause-aligned c =
    let r = c.self.inside in
    let read = c.in-Some.ensures
    (record {
      nodes = r.nodes;
      memory = r.frames.memory;
      messages = r.messages;
      ec = r.ec;
      pd = r.recents.pd;
      is_thread = r.is_thread;
      written = r.written;
      consoles = r.frames.consoles;
      room = r.frames.room;
    }) refl c.self.invariant.1.1.1.1.1 in
    subst (λ (n : ℕ). n % 4 ≡ 0) c.pc.ensures read.aligned
