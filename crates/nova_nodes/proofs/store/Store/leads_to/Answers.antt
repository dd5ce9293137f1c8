use Rattle.std.proofs.Common.{rules, ◌≡◌, ◌∙◌, List, ap, sym, subst}
use Rattle.std.specs.List.{All, list_any}
use Rattle.nova_model.specs.Inputs.{leads_to}
use Rattle.nova_model.specs.declared.delegation.Derivation.{Derivation}
use Rattle.nova_nodes.specs.declared.node.Place.{Place}
use Rattle.nova_nodes.specs.Links.{IsSmall, derivations, passes_in}
use Rattle.nova_nodes.specs.NodesStates.{IsPlaced}
use Rattle.nova_nodes.specs.Stores.{node_at, nodes_at}
use Rattle.nova_nodes.proofs.Changes.{all_small, any_derivation}
use Rattle.nova_nodes.proofs.store.Store.leads_to.Goals as goal

pub some_leads-requires : goal.some_leads-requires
some_leads-requires c =
    let slab = c.self.inside.slab in
    let places = c.self.inside.places.items in
    let seen : derivations c.args.self.now.nodes ≡ derivations (nodes_at slab places) = search rules in
    let again : c.as_slice.result.now ≡ places = search rules in
    subst (λ (ps : List Place). All (λ p. IsSmall (node_at slab p)) ps) (sym again) (all_small slab places (subst (λ (ds : List Derivation). All IsPlaced ds) seen c.requires))

pub returns : goal.returns
returns c =
    let slab = c.self.inside.slab in
    let places = c.self.inside.places.items in
    let seen : derivations c.args.self.now.nodes ≡ derivations (nodes_at slab places) = search rules in
    let some : c.some_leads.result ≡ list_any (λ p. passes_in (leads_to c.args.pd c.args.frame) (node_at slab p)) places = search rules in
    some ∙ sym (any_derivation (leads_to c.args.pd c.args.frame) slab places) ∙ ap (list_any (leads_to c.args.pd c.args.frame)) (sym seen)
