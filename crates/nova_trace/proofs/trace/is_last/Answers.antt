use Rattle.std.proofs.Common.{rules, ◌≡◌, ◌∙◌, sym, ◌-◌, length, slice_get, Some}
use Rattle.nova_trace.proofs.EntryLemmas.{last_at, last_found}
use Rattle.nova_trace.proofs.trace.is_last.Goals as goal

pub returns-in-Some : goal.returns-in-Some
returns-in-Some c =
    let at : slice_get c.args.entries.now (length c.args.entries.now - 1) ≡ Some c.in-Some.last.now = search rules in
    last_found c.args.entries.now c.args.event.now c.in-Some.last.now c.is_same_step.result (sym (last_at c.args.entries.now) ∙ at) c.is_same_step.ensures
