-- Numbers and pairs of a list, as tests.
use Rattle.std.specs.Prelude.{ℕ, ◌==◌, ◌&&◌, Bool, List}
use Rattle.std.specs.List.{list_any}
use Rattle.nova_ties.specs.Ties.{label_in}
use Rattle.law_sides.specs.Tied.{flows_by}

abbrev pub is_among : List ℕ → ℕ → Bool
is_among list n = list_any (λ (m : ℕ). m == n) list

-- a side flows to another, by pairs of their labels; and so of their domains, by a table of labels
abbrev pub is_flow : List (ℕ × ℕ) → ℕ → ℕ → Bool
is_flow flows from to = list_any (λ (f : ℕ × ℕ). (f.0 == from) && (f.1 == to)) flows

abbrev pub flows_in : List (ℕ × ℕ) → List ℕ → ℕ → ℕ → Bool
flows_in flows labels = flows_by (is_flow flows) (label_in labels)
