use Rattle.std.proofs.Common.{rules, nat_lt}
use Rattle.std.proofs.lemmas.List.Sorted.{IsPartitionPoint-from_clause}
use Rattle.nova_nodes.specs.declared.node.Place.{Place}
use Rattle.nova_nodes.specs.Stores.{place_id}
use Rattle.nova_nodes.proofs.Points.{at_point, before_point, parted, rest_point}
use Rattle.nova_nodes.proofs.store.point.Goals as goal

pub returns-clause-found : goal.returns-clause-found
returns-clause-found c =
    let places = c.args.places.now in
    let point = IsPartitionPoint-from_clause (λ (p : Place). nat_lt (p.id) c.args.id) places c.partition_point.result c.partition_point.ensures.partitioned
    (parted place_id c.args.id places c.requires) (λ a r q k. search rules) in
    at_point place_id c.args.id places c.partition_point.result point

pub returns-clause-before : goal.returns-clause-before
returns-clause-before c =
    let places = c.args.places.now in
    let point = IsPartitionPoint-from_clause (λ (p : Place). nat_lt (p.id) c.args.id) places c.partition_point.result c.partition_point.ensures.partitioned
    (parted place_id c.args.id places c.requires) (λ a r q k. search rules) in
    before_point place_id c.args.id places c.partition_point.result point

pub returns-clause-rest : goal.returns-clause-rest
returns-clause-rest c =
    let places = c.args.places.now in
    let point = IsPartitionPoint-from_clause (λ (p : Place). nat_lt (p.id) c.args.id) places c.partition_point.result c.partition_point.ensures.partitioned
    (parted place_id c.args.id places c.requires) (λ a r q k. search rules) in
    rest_point place_id c.args.id places c.partition_point.result point
