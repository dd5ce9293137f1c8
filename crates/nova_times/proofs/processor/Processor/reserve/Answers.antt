use Rattle.std.proofs.Common.{sym, ◌∙◌, refl}
use Rattle.nova_times.proofs.Processors.{first_same}
use Rattle.nova_times.proofs.processor.Processor.reserve.Goals as goal

pub invariant_of-self : goal.invariant_of-self
invariant_of-self c = c.self.invariant ∙ sym (first_same c.self.inside.alarms c.self.inside.deadlines c.reserve.new.self c.self.inside.deadlines c.reserve.ensures.same (λ n. refl))

pub invariant_of-self-2 : goal.invariant_of-self-2
invariant_of-self-2 c = c.self.invariant ∙ sym (first_same c.self.inside.alarms c.self.inside.deadlines c.reserve.new.self c.reserve-2.new.self c.reserve.ensures.same c.reserve-2.ensures.same)
