-- The files that a command names, and how long they may be.
use Rattle.std.specs.Prelude.{ℕ, List, [], ◌∷◌, Some, None}
use Rattle.nova_command.specs.declared.command.Command.{Command}
use Rattle.nova_answers.specs.declared.subjects.Subjects.{Subjects}
use Rattle.nova_command.specs.declared.command.Command.TheVariants.{Run, Solo, Check, Bench, Twin}

-- the most bytes of a text that names two guests
abbrev pub most_of_subjects : ℕ
most_of_subjects = 4096

-- the names that a command fetches, beside those in a text that it fetches
abbrev pub names_of : Command → List (List ℕ)
names_of (Run scenario order most) = scenario ∷ []
names_of (Solo scenario None most) = scenario ∷ []
names_of (Solo scenario (Some order) most) = scenario ∷ order ∷ []
names_of (Check scenario) = scenario ∷ []
names_of (Bench number most) = []
names_of (Twin name most) = name ∷ []

-- the names in a text of two guests
abbrev pub names_in : Subjects → List (List ℕ)
names_in s = s.first.scenario ∷ s.first.order ∷ s.second.scenario ∷ s.second.order ∷ []

-- the names that a command appends to
abbrev pub appended_names : Command → List (List ℕ)
appended_names (Run scenario order most) = order ∷ []
appended_names (Solo scenario order most) = []
appended_names (Check scenario) = []
appended_names (Bench number most) = []
appended_names (Twin name most) = []
