-- The first forbidden byte of a block, line by line.
use Rattle.std.proofs.Common.{◌≡◌, ℕ, Bool, true, false, List, [], ◌∷◌, Option, Some, None, refl, ap, sym, ◌∙◌}
use Rattle.std.specs.List.{before_first}
use Rattle.std.specs.Option.{option_or}
use Rattle.nova_text.specs.Bytes.{has_forbidden}
use Rattle.nova_text.specs.Line.{Row}
use Rattle.nova_scenario.specs.Items.{is_end}
use Rattle.nova_scenario.specs.Words.{forbidden_in}
use Rattle.nova_scenario.proofs.Cuts.{before_later}

first_of : (row : Row) (rows : List Row) → option_or (forbidden_in (row ∷ [])) (forbidden_in rows) ≡ forbidden_in (row ∷ rows)
first_of row rows = go (has_forbidden row.text) refl where
  go : (b : Bool) → has_forbidden row.text ≡ b → option_or (forbidden_in (row ∷ [])) (forbidden_in rows) ≡ forbidden_in (row ∷ rows)
  go true is = rw is refl
  go false is = rw is refl

or_assoc : (a b c : Option ℕ) → option_or (option_or a b) c ≡ option_or a (option_or b c)
or_assoc None b c = refl
or_assoc (Some n) b c = refl

pub line_passed : (so_far : Option ℕ) (row : Row) (rows here : List Row) → here ≡ row ∷ rows → is_end row ≡ false → option_or (option_or so_far (forbidden_in (row ∷ []))) (forbidden_in (before_first is_end rows)) ≡ option_or so_far (forbidden_in (before_first is_end here))
line_passed so_far row rows here is_here inside =
    or_assoc so_far (forbidden_in (row ∷ [])) (forbidden_in (before_first is_end rows))
    ∙ ap (option_or so_far) (first_of row (before_first is_end rows) ∙ ap forbidden_in (sym (ap (before_first is_end) is_here ∙ before_later is_end row rows inside)))
