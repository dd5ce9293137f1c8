use Rattle.std.proofs.Common.{rules, ◌≡◌, ◌<◌, length, ap, ◌∙◌}
use Rattle.std.specs.Prelude.{slice_index_or}
use Rattle.nova_model.specs.Times.{Times, next_moment}
use Rattle.nova_times.specs.Kept.{TimesState}
use Rattle.nova_times.specs.Processors.{clocks_of, moment_of}
use Rattle.nova_times.proofs.Keeping.{moment_beyond, moment_there}
use Rattle.nova_times.proofs.Processors.{got}
use Rattle.nova_times.proofs.times.Times.next.Goals as goal

pub returns-in-Some : goal.returns-in-Some
returns-in-Some c =
    let ps = c.self.inside.processors.items in
    let t : Times = record { clocks = clocks_of ps; deadlines = c.self.inside.deadlines.items; alarms = c.self.inside.alarms.items } in
    let low : c.args.cpu < length ps = search rules in
    let value : c.in-Some.processor.now ≡ slice_index_or ps c.args.cpu c.in-Some.processor.now = search rules in
    let at = got ps c.args.cpu c.in-Some.processor.now low value in
    c.least.ensures ∙ moment_there ps t c.self.inside.sources.items c.args.cpu c.in-Some.processor.now c.self.invariant.0 at ∙ ap (λ (s : TimesState). next_moment s.all c.args.cpu) c.self.view_is

pub returns-in-None : goal.returns-in-None
returns-in-None c =
    let is : c.map.result ≡ moment_of c.first_beyond.result = search rules in
    is ∙ ap moment_of c.first_beyond.ensures ∙ moment_beyond c.args.self.now.all c.args.cpu
