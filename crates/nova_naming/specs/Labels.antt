-- The labels that a policy gives to domains, and what its sides are called.
use Rattle.std.specs.Prelude.{ℕ, ◌+◌, ◌-◌, ◌==◌, Bool, if◌then◌else◌, List, [], ◌∷◌, codes, decimal, flat_map, length, find, slice_get, Option, Some, None}
use Rattle.std.specs.List.{enumerate_from}
use Rattle.nova_naming.specs.Statements.{OneWay, Stated}
use Rattle.nova_naming.specs.Policy.{is_called, names}

-- what is trusted has the label 0, and the side of a line the line's place among those of the policy, from 1
abbrev pub label_as : ℕ → Option (List ℕ) → ℕ
label_as place None = 0
label_as place (Some name) = place

abbrev pub label_at : ℕ → ℕ → Option (ℕ × Stated) → ℕ
label_at count domain None = count + 1 + domain
label_at count domain (Some (place, s)) = label_as place s.side

abbrev pub is_line_of : ℕ → ℕ × Stated → Bool
is_line_of domain (place, s) = names domain s

-- the label of a domain: that of the line that names it; or, where none does, of a side of its own, whose label is greater than those of lines
unfoldable pub label_of : List Stated → ℕ → ℕ
label_of policy domain = label_at (length policy) domain (find (is_line_of domain) (enumerate_from 1 policy))

-- what the side of a label is called: by its name, or, where it is a domain's own, by the domain's number
abbrev pub name_of : Option (List ℕ) → List ℕ
name_of None = codes "trusted"
name_of (Some name) = name

abbrev pub called : ℕ → ℕ → Option Stated → List ℕ
called count label None = decimal (label - 1 - count)
called count label (Some s) = name_of s.side

abbrev pub side_text : List Stated → ℕ → List ℕ
side_text policy label = if label == 0 then codes "trusted" else called (length policy) label (slice_get policy (label - 1))

-- the semaphores that sides share on purpose
abbrev pub semaphores_in : Stated → List ℕ
semaphores_in s = s.semaphores

abbrev pub semaphores_of : List Stated → List ℕ
semaphores_of policy = flat_map semaphores_in policy

-- the label of the side of a name: its line's place, or 0 where no line has it
abbrev pub place_of : Option (ℕ × Stated) → ℕ
place_of None = 0
place_of (Some (place, s)) = place

abbrev pub is_line_called : List ℕ → ℕ × Stated → Bool
is_line_called name (place, s) = is_called name s.side

abbrev pub label_called : List Stated → List ℕ → ℕ
label_called policy name = place_of (find (is_line_called name) (enumerate_from 1 policy))

-- the one-way flows between its sides, by their labels
abbrev pub flow_by : List Stated → Option OneWay → List (ℕ × ℕ)
flow_by policy None = []
flow_by policy (Some flow) = (label_called policy flow.from, label_called policy flow.to) ∷ []

abbrev pub flow_in : List Stated → Stated → List (ℕ × ℕ)
flow_in policy s = flow_by policy s.flow

abbrev pub flows_of : List Stated → List (ℕ × ℕ)
flows_of policy = flat_map (flow_in policy) policy
