use Rattle.std.proofs.Common.{◌≡◌, ℕ, ◌+◌, ◌%◌, length, ap, ap₂, sym, ◌∙◌, subst}
use Rattle.std.specs.Prelude.{slice_get}
use Rattle.nova_model.specs.Memory.{Memory}
use Rattle.law_forest.proofs.Plain.{length-written_in}
use Rattle.nova_memory.specs.Recalled.{AreRecalled}
use Rattle.nova_memory.specs.Reach.{LeadToFrames}
use Rattle.nova_memory.proofs.Remembered.{stored}
use Rattle.nova_memory.proofs.reach.Reach.store_in.Goals as goal

pub invariant_of-self : goal.invariant_of-self
invariant_of-self c =
    let r = c.self.inside in
    let i = c.self.invariant.1 in
    let m = r.frames.memory in
    let list = r.nodes.delegations.list in
    let many : length c.store.new.self.memory.ram + c.store.new.self.consoles ≡ length m.ram + r.frames.consoles =
    ap₂ (λ (n : Memory) (consoles : ℕ). length n.ram + consoles) c.store.ensures.memory c.store.ensures.consoles
    ∙ ap (λ (n : ℕ). n + r.frames.consoles) (length-written_in m (slice_get m.ram c.args.frame) c.args.frame (c.args.address % 4096) c.args.width c.args.value) in (
      subst (λ (n : ℕ). LeadToFrames n list) (sym many) c.self.invariant.0,
      (
        i.0,
        (
          i.1.0,
          (
            i.1.1.0,
            (
              i.1.1.1.0,
              subst (λ (n : Memory). AreRecalled list n c.forget_at.new.self) (sym c.store.ensures.memory)
                  (stored c.loads_give_what_was_stored.ensures.others list m r.recalled c.forget_at.new.self c.args.frame c.args.address c.args.width c.args.value c.requires.width
                  c.requires.aligned c.ram_frames.ensures.whole i.1.1.1.1 c.forget_at.ensures),
            ),
          ),
        ),
      ),
    )
