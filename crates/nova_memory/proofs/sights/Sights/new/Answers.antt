use Rattle.std.proofs.Common.{◌≡◌, rules, sym, subst, List}
use Rattle.std.specs.Prelude.{map, replicate}
use Rattle.nova_memory.specs.Sights.{IsBlank, shown_at}
use Rattle.nova_memory.specs.declared.sights.Sight.{Sight}
use Rattle.nova_memory.proofs.Seen.{first, blank_first}
use Rattle.nova_memory.proofs.sights.Sights.new.Goals as goal

pub returns : goal.returns
returns c =
    let items : c.resize.new.self.items ≡ replicate c.args.frames first = search rules in
    subst (λ (l : List Sight). IsBlank (map (shown_at 0) l)) (sym items) (blank_first c.args.frames)
