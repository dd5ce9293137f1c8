use Rattle.std.proofs.Common.{rules, ◌≡◌, ◌<◌, ◌++◌, [], ◌∷◌, length, sym, subst, arith}
use Rattle.std.specs.Prelude.{option_map}
use Rattle.nova_sem.specs.Semaphores.{SemsState}
use Rattle.nova_sem.specs.Links.{AreLinked, new_counter}
use Rattle.nova_sem.proofs.Rooms.{entries_length, added_linked}
use Rattle.nova_sem.proofs.sems.Sems.add.Goals as goal

pub invariant_of-self : goal.invariant_of-self
invariant_of-self c =
    let items : c.push_reserved.new.self.items ≡ c.self.inside.counters.items ++ option_map new_counter c.args.count ∷ [] = search rules in
    let long = entries_length c.self.inside.links.items c.self.inside.counters.items in
    let waiting = subst (λ (q : SemsState). length q.all < q.contexts) (sym c.self.view_is) c.requires.waiting in
    let room : length c.self.inside.counters.items < length c.self.inside.links.items = omega (arith, long, waiting) in (
      subst (AreLinked c.self.inside.links.items) (sym items) (added_linked c.self.inside.links.items c.self.inside.counters.items c.args.count room c.self.invariant.0),
      omega arith,
    )
