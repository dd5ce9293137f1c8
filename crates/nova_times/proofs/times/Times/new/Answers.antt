use Rattle.std.proofs.Common.{rules, ◌≡◌, ◌∙◌, [], ℕ, List, ap, ap₂}
use Rattle.std.specs.Prelude.{Option, replicate}
use Rattle.nova_model.specs.Times.{Times}
use Rattle.nova_model.specs.declared.times.AlarmState.{AlarmState}
use Rattle.nova_model.specs.declared.times.Deadline.{Deadline}
use Rattle.nova_times.specs.Processors.{clocks_of, new_processor}
use Rattle.nova_times.proofs.Processors.{clocks_new}
use Rattle.nova_times.proofs.times.Times.new.Goals as goal

pub returns : goal.returns
returns c =
    let ps : c.in_ok-new.field-0.items ≡ replicate c.args.cpus new_processor = search rules in
    let made : List ℕ → List (Option Deadline) → Times = λ cl ds. record { clocks = cl; deadlines = ds; alarms = [] } in
    let with_alarms : List AlarmState → Times = λ l. record { clocks = clocks_of c.in_ok-new.field-0.items; deadlines = c.new-2.result.items; alarms = l } in
    ap with_alarms c.new-3.ensures.items ∙ ap₂ made (ap clocks_of ps ∙ clocks_new c.args.cpus) c.new-2.ensures.items
