use Rattle.std.proofs.Common.{◌≡◌}
use Rattle.std.specs.Prelude.{drop}
use Rattle.std.specs.List.{list_any}
use Rattle.nova_model.specs.Inputs.{leads_to}
use Rattle.nova_nodes.specs.Links.{passes_in}
use Rattle.nova_nodes.specs.Stores.{node_at}
use Rattle.nova_nodes.proofs.store.some_leads.Given as goal

abbrev pub invariant-loop-place : goal.invariant-loop-place
invariant-loop-place l =
    list_any (λ p. passes_in (leads_to l.pd l.frame) (node_at l.slab p)) (drop l.place-index l.places) ≡ list_any (λ p. passes_in (leads_to l.pd l.frame) (node_at l.slab p)) l.places
