-- Words against the form of a command line.
use Rattle.std.specs.Prelude.{◌≡◌, ℕ, true, List, [], ◌∷◌, Option, Some, None, option_map}
use Rattle.clap.specs.Faults.{fault_of, is_simple_and_free}
use Rattle.clap.specs.Kinds.{Kinds}
use Rattle.clap.specs.Simple.{App, is_simple, matches_of}
use Rattle.clap.specs.Walk.{Row}

-- the bytes of a word
abbrev pub Text : Type 0
Text = List ℕ

-- a form of arguments and options alone
pub record IsPlainForm (form : App) : Type 0 where
  pub simple : is_simple form ≡ true
  pub free : is_simple_and_free form ≡ true

-- nothing where there is a fault of some kind, as which a call for help counts too
abbrev pub unless_fault : Kinds → List Row → Option (List Row)
unless_fault [] rows = Some rows
unless_fault (kind ∷ kinds) rows = None

-- what words give to each argument of a form, where the first of them is the program's name, or nothing
unfoldable pub rows_given : App → List Text → Option (List Row)
rows_given form words = unless_fault (fault_of form words) (matches_of form words)

-- the same, seen by what is made of them
abbrev pub given_by : {G : Type 0} → (List Row → G) → App → List Text → Option G
given_by made form words = option_map made (rows_given form words)
