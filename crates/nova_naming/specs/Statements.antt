-- What a line of a policy says by itself.
use Rattle.std.specs.Prelude.{ℕ, ◌==◌, Bool, false, not, ◌&&◌, ◌||◌, if◌then◌else◌, List, [], ◌∷◌, codes, length, nat_lt, Option, Some, None, Result, Ok, Err}
use Rattle.std.specs.Char.{is_ascii_alphabetic, is_ascii_alphanumeric}
use Rattle.std.specs.List.{list_all}
use Rattle.std.specs.Str.{bytes_eq}
pub use Rattle.nova_text.specs.Number.{number_of, numbers_of}
use Rattle.nova_naming.specs.declared.fault.PolicyWhy.{PolicyWhy}
use Rattle.nova_naming.specs.declared.fault.PolicyWhy.TheVariants.{Word, Name, Number, Empty}

-- a one-way flow: the name of the side that it comes from, and of that to which it goes
pub record OneWay : Type 0 where
  pub from : List ℕ
  pub to : List ℕ

-- domains that are one side, of this name, or trusted where there is none; semaphores that sides share; a flow; and the line that says so: of domains, of semaphores or of a flow
pub record Stated : Type 0 where
  pub line : ℕ
  pub side : Option (List ℕ)
  pub domains : List ℕ
  pub semaphores : List ℕ
  pub flow : Option OneWay

-- a name is a letter and up to 31 letters, digits, `-` and `_`, but not `trusted`
abbrev pub is_name_byte : ℕ → Bool
is_name_byte b = is_ascii_alphanumeric b || (b == 45 || b == 95)

abbrev pub is_name : List ℕ → Bool
is_name [] = false
is_name (b ∷ bs) = is_ascii_alphabetic b && (list_all is_name_byte bs && (nat_lt (length bs) 32 && not (bytes_eq (b ∷ bs) (codes "trusted"))))

-- the domains or semaphores that words name: one at least
abbrev pub some_of : Option (List ℕ) → Result (List ℕ) PolicyWhy
some_of None = Err Number
some_of (Some []) = Err Empty
some_of (Some (n ∷ ns)) = Ok (n ∷ ns)

abbrev pub named_by : List (List ℕ) → Result (List ℕ) PolicyWhy
named_by words = some_of (numbers_of words)

-- what is said of domains
abbrev pub stated : ℕ → Option (List ℕ) → Result (List ℕ) PolicyWhy → Result (Option Stated) PolicyWhy
stated line side (Err why) = Err why
stated line side (Ok domains) = Ok (Some (record { line = line; side = side; domains = domains; semaphores = []; flow = None }))

-- what is said of semaphores
abbrev pub stated_shared : ℕ → Result (List ℕ) PolicyWhy → Result (Option Stated) PolicyWhy
stated_shared line (Err why) = Err why
stated_shared line (Ok semaphores) = Ok (Some (record { line = line; side = None; domains = []; semaphores = semaphores; flow = None }))

-- behind `side`: its name, and its domains
abbrev pub sided : ℕ → List (List ℕ) → Result (Option Stated) PolicyWhy
sided line [] = Err Name
sided line (name ∷ words) = if is_name name then stated line (Some name) (named_by words) else Err Name

-- behind `flow`: two names and nothing else
abbrev pub two_names : List (List ℕ) → Option (List ℕ × List ℕ)
two_names (from ∷ to ∷ []) = if is_name from && is_name to then Some (from, to) else None
two_names words = None

abbrev pub flowed : ℕ → Option (List ℕ × List ℕ) → Result (Option Stated) PolicyWhy
flowed line None = Err Name
flowed line (Some (from, to)) = Ok (Some (record { line = line; side = None; domains = []; semaphores = []; flow = Some (record { from = from; to = to }) }))

abbrev pub flowing : ℕ → List (List ℕ) → Result (Option Stated) PolicyWhy
flowing line words = flowed line (two_names words)

-- what the words of a line say: nothing where there are none
abbrev pub said : ℕ → List (List ℕ) → Result (Option Stated) PolicyWhy
said line [] = Ok None
said line (word ∷ words) =
    if bytes_eq word (codes "trusted") then stated line None (named_by words)
    else if bytes_eq word (codes "side") then sided line words
    else if bytes_eq word (codes "shared") then stated_shared line (named_by words)
    else if bytes_eq word (codes "flow") then flowing line words
    else Err Word
