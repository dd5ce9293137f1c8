use Rattle.std.proofs.Common.{◌∙◌, ap, List}
use Rattle.std.specs.Prelude.{slice_set, Option}
use Rattle.nova_memory.specs.declared.viewers.Viewers.{Viewers}
use Rattle.nova_memory.proofs.Seen.{shown_set}
use Rattle.nova_memory.proofs.sights.Sights.note.Goals as goal

pub returns-then-frame-len : goal.returns-then-frame-len
returns-then-frame-len c =
    let s = c.self.inside in
    shown_set s.version c.args.frame s.sights.items c.args.viewers ∙ ap (λ (l : List (Option Viewers)). slice_set l c.args.frame c.args.viewers) c.self.view_is
