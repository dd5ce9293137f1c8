-- Lines that tell sides.
use Rattle.std.specs.Prelude.{ℕ, ◌==◌, Bool, not, ◌&&◌, if◌then◌else◌, List, [], ◌++◌, codes, decimal, flat_map}
use Rattle.std.specs.List.{enumerate_from, position}
use Rattle.nova_objects.specs.declared.object.Object.{Object}
use Rattle.nova_objects.specs.declared.object.Object.TheVariants.{Pd}
use Rattle.nova_report.specs.Words.{line_feed}
use Rattle.nova_ties.specs.Ties.{label_in, has_label, is_place}
use Rattle.nova_naming.specs.Labels.{side_text}
use Rattle.nova_naming.specs.Statements.{Stated}

-- the domains of a label
abbrev pub member_text : List ℕ → ℕ → ℕ × Object → List ℕ
member_text labels label (n, Pd) = if label_in labels n == label then codes " " ++ decimal n else []
member_text labels label (n, other) = []

abbrev pub members_text : List ℕ → ℕ → List Object → List ℕ
members_text labels label objects = flat_map (member_text labels label) (enumerate_from 0 objects)

abbrev pub begins_side : List ℕ → ℕ × ℕ → Bool
begins_side labels (n, label) = not (label == 0) && is_place n (position (has_label label) labels)

-- what is trusted, and each side in a line, by the least number of its domains
abbrev pub side_line : List Stated → List ℕ → List Object → ℕ × ℕ → List ℕ
side_line policy labels objects (n, label) =
    if begins_side labels (n, label) then codes "side " ++ (side_text policy label ++ (codes ":" ++ (members_text labels label objects ++ line_feed))) else []

abbrev pub side_lines : List Stated → List ℕ → List Object → List ℕ
side_lines policy labels objects = codes "trusted:" ++ (members_text labels 0 objects ++ (line_feed
    ++ flat_map (side_line policy labels objects) (enumerate_from 0 labels)))
