use Rattle.std.proofs.Common.{rules, ◌≡◌, ◌<◌, length, ap, ◌∙◌}
use Rattle.std.specs.Prelude.{slice_index_or, option_map}
use Rattle.nova_model.specs.Times.{Times, next_entry}
use Rattle.nova_times.specs.Kept.{TimesState, seen}
use Rattle.nova_times.specs.Processors.{clocks_of}
use Rattle.nova_times.proofs.Keeping.{next_beyond, next_there}
use Rattle.nova_times.proofs.Processors.{got}
use Rattle.nova_times.proofs.times.Times.first.Goals as goal

pub returns-in-Some : goal.returns-in-Some
returns-in-Some c =
    let ps = c.self.inside.processors.items in
    let t : Times = record { clocks = clocks_of ps; deadlines = c.self.inside.deadlines.items; alarms = c.self.inside.alarms.items } in
    let low : c.args.cpu < length ps = search rules in
    let value : c.in-Some.processor.now ≡ slice_index_or ps c.args.cpu c.in-Some.processor.now = search rules in
    let at = got ps c.args.cpu c.in-Some.processor.now low value in
    ap (option_map seen) c.first.ensures ∙ next_there ps t c.self.inside.sources.items c.args.cpu c.in-Some.processor.now c.self.invariant.0 at ∙ ap (λ (s : TimesState). next_entry s.all c.args.cpu) c.self.view_is

pub returns-in-None : goal.returns-in-None
returns-in-None c = ap (option_map seen) c.first_beyond.ensures ∙ next_beyond c.args.self.now.all c.args.cpu
