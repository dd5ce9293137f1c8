use Rattle.std.proofs.Common.{sym, ◌∙◌}
use Rattle.nova_model.specs.Runs.{run}
use Rattle.nova_search.proofs.laws.what_is_in_no_state_is_in_no_order.Goals as goal

pub returns : goal.returns
returns c = λ m test k limit states all same none order cpu are few is.
    let has = all.each order are few in
    sym (same has.one (run k order) cpu has.is) ∙ none has.one cpu has.there is
