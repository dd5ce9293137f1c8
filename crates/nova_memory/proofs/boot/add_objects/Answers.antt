use Rattle.std.proofs.Common.{◌∙◌, arith}
use Rattle.law_forest.proofs.Boots.{pages, with_pd, with_ec, pd_fits, ec_fits, sc_fits, with_sc_is_all}
use Rattle.nova_memory.proofs.Rooted.{object_joins, object_joined}
use Rattle.nova_memory.proofs.boot.add_objects.Goals as goal

pub root-requires-clause-fits : goal.root-requires-clause-fits
root-requires-clause-fits c =
    object_joins c.args.nodes.now.delegations (pages c.args.order c.args.consoles) c.args.consoles 0 1 c.selector_range.result c.all_to.result c.requires.before
    (omega arith) c.selector_range.ensures c.all_to.ensures.all (pd_fits c.args.order c.args.consoles)

pub root-requires-2-clause-fits : goal.root-requires-2-clause-fits
root-requires-2-clause-fits c =
    let f = pages c.args.order c.args.consoles in
    let first = object_joined c.args.nodes.now.delegations f c.root.new.self.delegations c.args.consoles 0 1 c.selector_range.result c.all_to.result c.requires.before
    (omega arith) c.selector_range.ensures c.all_to.ensures.all c.root.ensures.added in
    object_joins c.root.new.self.delegations (with_pd c.args.order c.args.consoles) c.args.consoles 1 7 c.selector_range-2.result c.all_to-2.result first
    (omega arith) c.selector_range-2.ensures c.all_to-2.ensures.all (ec_fits c.args.order c.args.consoles)

pub root-requires-3-clause-fits : goal.root-requires-3-clause-fits
root-requires-3-clause-fits c =
    let f = pages c.args.order c.args.consoles in
    let first = object_joined c.args.nodes.now.delegations f c.root.new.self.delegations c.args.consoles 0 1 c.selector_range.result c.all_to.result c.requires.before
    (omega arith) c.selector_range.ensures c.all_to.ensures.all c.root.ensures.added in
    let second = object_joined c.root.new.self.delegations (with_pd c.args.order c.args.consoles) c.root-2.new.self.delegations c.args.consoles 1 7
    c.selector_range-2.result c.all_to-2.result first (omega arith) c.selector_range-2.ensures c.all_to-2.ensures.all c.root-2.ensures.added in
    object_joins c.root-2.new.self.delegations (with_ec c.args.order c.args.consoles) c.args.consoles 2 1 c.selector_range-3.result c.all_to-3.result second
    (omega arith) c.selector_range-3.ensures c.all_to-3.ensures.all (sc_fits c.args.order c.args.consoles)

pub returns : goal.returns
returns c =
    let f = pages c.args.order c.args.consoles in
    let first = object_joined c.args.nodes.now.delegations f c.root.new.self.delegations c.args.consoles 0 1 c.selector_range.result c.all_to.result c.requires.before
    (omega arith) c.selector_range.ensures c.all_to.ensures.all c.root.ensures.added in
    let second = object_joined c.root.new.self.delegations (with_pd c.args.order c.args.consoles) c.root-2.new.self.delegations c.args.consoles 1 7
    c.selector_range-2.result c.all_to-2.result first (omega arith) c.selector_range-2.ensures c.all_to-2.ensures.all c.root-2.ensures.added in
    object_joined c.root-2.new.self.delegations (with_ec c.args.order c.args.consoles) c.root-3.new.self.delegations c.args.consoles 2 1
    c.selector_range-3.result c.all_to-3.result second (omega arith) c.selector_range-3.ensures c.all_to-3.ensures.all c.root-3.ensures.added
    ∙ with_sc_is_all c.args.order c.args.consoles
