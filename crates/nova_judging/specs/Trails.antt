-- Where capabilities came from, in lines.
use Rattle.std.specs.Prelude.{◌≡◌, ℕ, suc, List, [], ◌∷◌, ◌++◌, Contains, codes, decimal, flat_map, Option, Some, None}
use Rattle.nova_model.specs.Delegations.{with_id}
use Rattle.nova_model.specs.Lines.{line_by}
use Rattle.nova_model.specs.declared.delegation.Derivation.{Derivation}
use Rattle.nova_report.specs.Words.{line_feed, parent_word, space_word}
use Rattle.nova_ties.specs.declared.tie.Cause.{Cause}
use Rattle.nova_ties.specs.declared.tie.Cause.TheVariants.{Domain, Context, Portal, Scheduling, Frames, Shared, Waits, Queue, Serves, Takes, Gives}

-- the derivation of an id, its parent, the parent's parent and so on: ids fall, so that there are at most as many as the id and one
abbrev pub trail : List Derivation → ℕ → List Derivation
trail list id = line_by (suc id) list (with_id list id)

-- what a trail is: each derivation is the parent of the one before it, the first is that of this id, and the last has no parent
abbrev pub IsChain : List Derivation → Option ℕ → List Derivation → Type 0
IsChain list None [] = Unit {0}
IsChain list None (d ∷ ds) = ⊥
IsChain list (Some id) [] = ⊥
IsChain list (Some id) (d ∷ ds) = Contains list d × ((d.id ≡ id) × IsChain list d.parent ds)

-- each in a line, with what a report tells of it
abbrev pub link_line : Derivation → List ℕ
link_line d = codes "from " ++ (decimal d.id ++ (codes " " ++ (parent_word d.parent ++ (codes " " ++ (decimal d.pd ++ (codes " "
    ++ (space_word d.kind ++ (codes " " ++ (decimal d.base ++ (codes " " ++ (decimal d.order ++ (codes " " ++ (decimal d.rights.0
    ++ (codes " " ++ (decimal d.target ++ line_feed)))))))))))))))

abbrev pub trail_lines : List Derivation → ℕ → List ℕ
trail_lines list id = flat_map link_line (trail list id)

-- those of the capabilities of a tie
abbrev pub cause_lines : List Derivation → Cause → List ℕ
cause_lines list (Domain cap) = trail_lines list cap
cause_lines list (Context cap) = trail_lines list cap
cause_lines list (Portal cap) = trail_lines list cap
cause_lines list (Scheduling cap) = trail_lines list cap
cause_lines list (Frames cap other) = trail_lines list cap ++ trail_lines list other
cause_lines list (Shared cap other) = trail_lines list cap ++ trail_lines list other
cause_lines list (Waits cap ec) = trail_lines list cap
cause_lines list (Queue ec other) = []
cause_lines list (Serves handler ec) = []
cause_lines list (Takes handler ec) = []
cause_lines list (Gives ec) = []
