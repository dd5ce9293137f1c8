use Rattle.std.proofs.Common.{rules, ◌≡◌, ◌<◌, ◌≤◌, length, ap, subst, refl, ◌∙◌}
use Rattle.std.specs.Prelude.{slice_index_or, is_some}
use Rattle.nova_model.specs.Times.{Times, clock, due_on}
use Rattle.nova_times.specs.Kept.{TimesState}
use Rattle.nova_times.specs.Processors.{clocks_of}
use Rattle.nova_times.proofs.Keeping.{is_due_beyond, is_due_there}
use Rattle.nova_times.proofs.Processors.{clock_beyond, got, nothing_at}
use Rattle.nova_times.proofs.times.Times.is_due.Goals as goal

pub returns-in-Some : goal.returns-in-Some
returns-in-Some c =
    let ps = c.self.inside.processors.items in
    let t : Times = record { clocks = clocks_of ps; deadlines = c.self.inside.deadlines.items; alarms = c.self.inside.alarms.items } in
    let low : c.args.cpu < length ps = search rules in
    let value : c.in-Some.processor.now ≡ slice_index_or ps c.args.cpu c.in-Some.processor.now = search rules in
    let at = got ps c.args.cpu c.in-Some.processor.now low value in
    c.is_due.ensures ∙ is_due_there ps t c.self.inside.sources.items c.args.cpu c.in-Some.processor.now c.self.invariant.0 refl at ∙ ap (λ (s : TimesState). is_some (due_on s.all c.args.cpu)) c.self.view_is

pub returns-in-None : goal.returns-in-None
returns-in-None c =
    let ps = c.self.inside.processors.items in
    let beyond : length ps ≤ c.args.cpu = search rules in
    let at = nothing_at ps c.args.cpu beyond in
    let none : clock c.args.self.now.all c.args.cpu ≡ 0 = subst (λ (s : TimesState). clock s.all c.args.cpu ≡ 0) c.self.view_is (clock_beyond ps c.args.cpu at) in
    c.is_due_beyond.ensures ∙ is_due_beyond c.args.self.now.all c.args.cpu none
