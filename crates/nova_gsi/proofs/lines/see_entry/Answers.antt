use Rattle.std.proofs.Common.{rules, ◌≡◌, ◌∙◌, sym, ap, true, false}
use Rattle.std.specs.Prelude.{Bool, ◌==◌}
use Rattle.nova_gsi.specs.Firings.{is_firing}
use Rattle.nova_gsi.proofs.Passing.{all_passed, passed}
use Rattle.nova_gsi.proofs.lines.see_entry.Goals as goal

pub returns-then-entry-source-clause-seen : goal.returns-then-entry-source-clause-seen
returns-then-entry-source-clause-seen c =
    let s = c.args.source.now in
    let e = c.args.entry.now in
    let no : is_firing c.args.number e.event ≡ false = search rules in
    let own : (e.event.cpu == s.cpu) ≡ true = search rules in
    sym (all_passed s c.args.number e.count c.args.before e.event no ∙ ap (λ (t : Bool). passed s c.args.number t c.args.before e.count) own)

pub returns-else-entry-source-clause-seen : goal.returns-else-entry-source-clause-seen
returns-else-entry-source-clause-seen c =
    let s = c.args.source.now in
    let e = c.args.entry.now in
    let no : is_firing c.args.number e.event ≡ false = search rules in
    let other : (e.event.cpu == s.cpu) ≡ false = search rules in
    sym (all_passed s c.args.number e.count c.args.before e.event no ∙ ap (λ (t : Bool). passed s c.args.number t c.args.before e.count) other)
