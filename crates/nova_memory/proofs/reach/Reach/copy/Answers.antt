use Rattle.std.proofs.Common.{◌≡◌, ℕ, ◌+◌, List, length, ap₂, sym, subst}
use Rattle.std.specs.Prelude.{IfSome, Option}
use Rattle.nova_range.specs.declared.range.Kind.TheVariants.{Mem}
use Rattle.nova_model.specs.Delegations.{Delegations}
use Rattle.nova_model.specs.Memory.{Memory}
use Rattle.nova_memory.specs.Reach.{IsFound, LeadToFrames}
use Rattle.nova_memory.specs.Sights.{AreSeen}
use Rattle.nova_memory.specs.declared.viewers.Viewers.{Viewers}
use Rattle.nova_memory.proofs.reach.Reach.copy.Goals as goal

pub invariant_of-result : goal.invariant_of-result
invariant_of-result c =
    let r = c.self.inside in
    let frames = c.in_ok-frames.frames in
    let same : c.in_ok-nodes.nodes.delegations ≡ r.nodes.delegations = c.in_ok-nodes.ensures.same in
    let many : length frames.memory.ram + frames.consoles ≡ length r.frames.memory.ram + r.frames.consoles =
    ap₂ (λ (m : Memory) (n : ℕ). length m.ram + n) c.in_ok-frames.ensures.memory c.in_ok-frames.ensures.consoles in (
      subst (λ (n : ℕ). LeadToFrames n c.in_ok-nodes.nodes.delegations.list) (sym many)
          (subst (λ (f : Delegations). LeadToFrames (length r.frames.memory.ram + r.frames.consoles) f.list) (sym same) c.self.invariant.0),
      (
        subst (λ (f : Delegations). IfSome r.last (IsFound Mem f.list)) (sym same) c.self.invariant.1.0,
        (
          subst (λ (s : List (Option Viewers)). AreSeen c.in_ok-nodes.nodes.delegations.list s) (sym c.in_ok-sights.ensures)
              (subst (λ (f : Delegations). AreSeen f.list r.sights) (sym same) c.self.invariant.1.1.0),
          (c.new.ensures.none c.in_ok-nodes.nodes.delegations.list, (c.new-2.ensures.none c.in_ok-nodes.nodes.delegations.list, c.none.ensures c.in_ok-nodes.nodes.delegations.list frames.memory)),
        ),
      ),
    )
