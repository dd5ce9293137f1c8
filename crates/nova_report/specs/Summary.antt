-- The summary of a run, in one line.
use Rattle.std.specs.Prelude.{ℕ, Bool, true, false, List, ◌++◌, length, codes, decimal}
use Rattle.nova_model.specs.State.{KernelState}
use Rattle.nova_model.specs.declared.event.Event.{Event}
use Rattle.nova_model.specs.declared.event.EventKind.{EventKind}
use Rattle.nova_model.specs.declared.event.EventKind.TheVariants.{Made, Gone}
pub use Rattle.nova_gsi.specs.Firings.{count_of as count}
use Rattle.nova_report.specs.declared.bench.Counted.{Counted}
use Rattle.nova_report.specs.declared.bench.Counted.TheVariants.{Children, Removals}
use Rattle.nova_report.specs.Words.{line_feed}

-- events that a derivation was made as a child, and that a derivation was removed
abbrev pub made_kind : EventKind → Bool
made_kind Made = true
made_kind other = false

abbrev pub is_made : Event → Bool
is_made e = made_kind e.kind

abbrev pub gone_kind : EventKind → Bool
gone_kind Gone = true
gone_kind other = false

abbrev pub is_gone : Event → Bool
is_gone e = gone_kind e.kind

-- the events that are counted
abbrev pub is_counted : Counted → Event → Bool
is_counted Children = is_made
is_counted Removals = is_gone

-- the number of the scenario, the turns, the events of both kinds, and the derivations at the end
unfoldable pub summary : ℕ → KernelState → List Event → List ℕ
summary number k trace = codes "bench " ++ (decimal number ++ (codes " turns " ++ (decimal k.turns ++ (codes " made " ++ (decimal (count is_made trace)
    ++ (codes " gone " ++ (decimal (count is_gone trace) ++ (codes " caps " ++ (decimal (length k.delegations.list) ++ line_feed)))))))))
