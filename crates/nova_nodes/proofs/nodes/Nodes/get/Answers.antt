use Rattle.std.specs.Prelude.{◌==◌}
use Rattle.nova_model.specs.Delegations.{Delegations}
use Rattle.nova_model.specs.declared.delegation.Derivation.{Derivation}
use Rattle.nova_nodes.proofs.Members.{found_placed}
use Rattle.nova_nodes.proofs.nodes.Nodes.get.Goals as goal

pub returns-clause-placed : goal.returns-clause-placed
returns-clause-placed g c =
    let f : Delegations = record { list = c.self.inside.list.list; next = c.self.inside.next } in
    found_placed (λ (d : Derivation). d.id == c.args.id) f c.get.result c.self.invariant.0 c.get.ensures
