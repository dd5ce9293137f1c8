-- Reading on after a block.
use Rattle.std.proofs.Common.{◌≡◌, ℕ, Bool, true, false, not, List, [], ◌∷◌, Some, Result, Ok, Err, refl, ap, sym, ◌∙◌}
use Rattle.std.specs.Prelude.{OnOk}
use Rattle.std.specs.List.{after_first}
use Rattle.nova_text.specs.Line.{Row}
use Rattle.nova_scenario.specs.Sources.{closing}
use Rattle.nova_scenario.specs.Fault.{and_then}
use Rattle.nova_scenario.specs.Images.{Draft}
use Rattle.nova_scenario.specs.Items.{is_end, block, item_before, items}
use Rattle.nova_scenario.specs.Read.{BecomesAt, IsReadOn, read_rest}
use Rattle.nova_scenario.specs.Scenario.{with_block, read_items}
use Rattle.nova_scenario.specs.Statement.{said}
use Rattle.nova_scenario.proofs.Cuts.{after_later}
use Rattle.nova_scenario.proofs.Faults.{fault_of_whole}
use Rattle.nova_scenario.specs.declared.fault.ScenarioFault.{ScenarioFault}
use Rattle.nova_scenario.specs.declared.statement.Head.{Head}
use Rattle.nova_scenario.specs.declared.statement.Statement.TheVariants.{Begins}

-- the items after a block are those of the lines after its end
items_after : (rows : List Row) → items true rows ≡ items false (after_first is_end rows)
items_after [] = refl
items_after (row ∷ rows) = go (is_end row) refl (items_after rows) where
  go : (b : Bool) → is_end row ≡ b → items true rows ≡ items false (after_first is_end rows) → items true (row ∷ rows) ≡ items false (after_first is_end (row ∷ rows))
  go true is rest = rw is refl
  go false is rest = ap (λ b. items (not b) rows) is ∙ rest ∙ sym (ap (items false) (after_later is_end row rows is))

module _ (bytes : List ℕ) (draft new : Draft) (row : Row) (head : Head) (rows rest : List Row) (begins : said row ≡ Ok (Some (Begins head))) where
  -- the block is read first, and then what is after it
  block_first : read_rest bytes draft (row ∷ rows) ≡ and_then (with_block bytes (closing draft) head (block row rows)) (λ d. read_rest bytes d (after_first is_end rows))
  block_first =
      ap (λ s. read_items bytes draft (item_before row s rows (λ in_block. items in_block rows))) begins
      ∙ ap (λ more. and_then (with_block bytes (closing draft) head (block row rows)) (λ d. read_items bytes d more)) (items_after rows)

  pub block_read : (result : Result (Unit {0}) ScenarioFault) → BecomesAt (with_block bytes (closing draft) head (block row rows)) new result → OnOk result (rest ≡ after_first is_end rows) → IsReadOn bytes draft (row ∷ rows) new rest result
  block_read (Ok done) is after =
      block_first ∙ ap (λ r. and_then r (λ d. read_rest bytes d (after_first is_end rows))) is ∙ ap (read_rest bytes new) (sym after)
  block_read (Err fault) is after =
      fault_of_whole (with_block bytes (closing draft) head (block row rows)) (read_rest bytes draft (row ∷ rows)) fault
      (λ at e. block_first ∙ ap (λ r. and_then r (λ d. read_rest bytes d (after_first is_end rows))) e) is
