use Rattle.std.proofs.Common.{rules, sym, subst, List}
use Rattle.std.specs.Prelude.{IfSome, Option}
use Rattle.nova_memory.specs.Sights.{AreSeen, AreViewers}
use Rattle.nova_memory.specs.declared.viewers.Viewers.{Viewers}
use Rattle.nova_memory.proofs.Seen.{seen_set}
use Rattle.nova_memory.proofs.reach.Reach.learn.Goals as goal

pub invariant_of-self : goal.invariant_of-self
invariant_of-self c =
    let r = c.self.inside in
    let are : IfSome c.viewers_of-viewers.result (AreViewers r.nodes.delegations.list c.args.frame) = search rules in (
      c.self.invariant.0,
      (
        c.self.invariant.1.0,
        (
          subst (λ (s : List (Option Viewers)). AreSeen r.nodes.delegations.list s) (sym c.note.ensures)
              (seen_set r.nodes.delegations.list r.sights c.args.frame c.viewers_of-viewers.result c.self.invariant.1.1.0 are),
          c.self.invariant.1.1.1,
        ),
      ),
    )
