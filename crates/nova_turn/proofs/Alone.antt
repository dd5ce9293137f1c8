-- The table of stir counts changes alone.
use Rattle.std.proofs.Common.{◌≡◌, ap, sym, ◌∙◌}
use Rattle.nova_deeds.specs.StirCounts.{StirTable}
use Rattle.nova_turn.specs.declared.parts.Parts.{Parts}

-- a change of the table alone, and another
pub tables_alone : (old mid new : Parts) (table : StirTable) → mid ≡ record old { guests = mid.guests } → new ≡ record mid { guests = table } → new ≡ record old { guests = new.guests }
tables_alone old mid new table before is =
    is ∙ ap (λ (p : Parts). record p { guests = table }) before
    ∙ ap (λ (t : StirTable). record old { guests = t }) (sym (ap (λ (p : Parts). p.guests) is))
