use Rattle.std.proofs.Common.{rules, arith, ◌≡◌, ◌+◌, ◌-◌, ◌<◌, ◌≤◌, length, sym, subst}
use Rattle.std.specs.Prelude.{◌^◌, max, is_ok, if◌then◌else◌}
use Rattle.nova_sem.specs.Semaphores.{SemsState}
use Rattle.nova_sem.proofs.Rooms.{filled, entries_length, resized}
use Rattle.nova_sem.proofs.sems.Sems.room_for_ec.Goals as goal

pub invariant_of-self : goal.invariant_of-self
invariant_of-self c =
    let is : c.max-contexts.result ≡ max (length c.self.inside.links.items) (length c.self.inside.counters.items + 1) = search rules in
    let few = c.self.invariant.0.few in
    let same = entries_length c.self.inside.links.items c.self.inside.counters.items in
    let below = subst (λ (q : SemsState). length q.all < 2 ^ 32 - 1) (sym c.self.view_is) c.requires.few in
    let le : length c.self.inside.links.items ≤ c.max-contexts.result = grind (arith, is) in
    let most : c.max-contexts.result ≤ 2 ^ 32 - 1 = grind (arith, is, few, same, below) in
    let long : length c.resize.new.self.items ≡ (if is_ok c.resize.result then c.max-contexts.result else length c.self.inside.links.items) = search rules in
    let items : c.resize.new.self.items ≡ (if is_ok c.resize.result then filled c.self.inside.links.items c.max-contexts.result else c.self.inside.links.items) = search rules in (
      (resized c.self.inside.links.items c.resize.new.self.items c.self.inside.counters.items c.max-contexts.result (is_ok c.resize.result) c.self.invariant.0 le most long items).holds,
      c.self.invariant.1,
    )
