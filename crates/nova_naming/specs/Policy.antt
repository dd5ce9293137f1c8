-- Policies as texts.
use Rattle.std.specs.Prelude.{◌≡◌, ℕ, ◌==◌, Bool, true, false, not, ◌&&◌, ◌||◌, flat_map, is_ok, if◌then◌else◌, List, [], ◌∷◌, ◌++◌, length, nat_le, Option, Some, None, Result, Ok, Err}
use Rattle.std.specs.List.{list_all, list_any}
use Rattle.std.specs.Option.{option_or}
use Rattle.std.specs.Str.{bytes_eq}
use Rattle.nova_text.specs.Line.{Row, lines}
use Rattle.nova_text.specs.Token.{texts_of, tokens}
use Rattle.nova_naming.specs.Statements.{OneWay, Stated, said}
use Rattle.nova_naming.specs.declared.fault.PolicyFault.{PolicyFault}
use Rattle.nova_naming.specs.declared.fault.PolicyFault.TheVariants.{At as AtLine, Memory}
use Rattle.nova_naming.specs.declared.fault.PolicyWhy.{PolicyWhy}
use Rattle.nova_naming.specs.declared.fault.PolicyWhy.TheVariants.{SameName, SameDomain, SameSemaphore, NoSide, SameSide, SameFlow, TooMany}

-- BESIDE OTHER LINES

-- a domain is among those of a line, or of one of these lines
abbrev pub is_among : List ℕ → ℕ → Bool
is_among domains domain = list_any (λ (d : ℕ). d == domain) domains

abbrev pub names : ℕ → Stated → Bool
names domain s = is_among s.domains domain

abbrev pub is_named : List Stated → ℕ → Bool
is_named policy domain = list_any (names domain) policy

-- and so is a semaphore
abbrev pub shares : ℕ → Stated → Bool
shares semaphore s = is_among s.semaphores semaphore

abbrev pub is_shared : List Stated → ℕ → Bool
is_shared policy semaphore = list_any (shares semaphore) policy

-- a name is that of one of these lines
abbrev pub is_called : List ℕ → Option (List ℕ) → Bool
is_called name None = false
is_called name (Some other) = bytes_eq other name

abbrev pub is_taken : List Stated → Option (List ℕ) → Bool
is_taken policy None = false
is_taken policy (Some name) = list_any (λ (s : Stated). is_called name s.side) policy

-- a number stands twice among these
abbrev pub repeats : List ℕ → Bool
repeats [] = false
repeats (d ∷ ds) = is_among ds d || repeats ds

-- one of these lines says this flow
abbrev pub is_same_flow : OneWay → Option OneWay → Bool
is_same_flow flow None = false
is_same_flow flow (Some other) = bytes_eq other.from flow.from && bytes_eq other.to flow.to

abbrev pub flows_so : OneWay → Stated → Bool
flows_so flow s = is_same_flow flow s.flow

-- why a flow can't stand behind these lines: one of its sides isn't there, both are one, or it is said
abbrev pub flow_clash : List Stated → Option OneWay → Option PolicyWhy
flow_clash policy None = None
flow_clash policy (Some flow) =
    if not (is_taken policy (Some flow.from) && is_taken policy (Some flow.to)) then Some NoSide
    else if bytes_eq flow.from flow.to then Some SameSide
    else if list_any (flows_so flow) policy then Some SameFlow
    else None

abbrev pub is_full : List Stated → Option PolicyWhy
is_full policy = if nat_le 1000 (length policy) then Some TooMany else None

-- why what a line says can't stand behind these lines
abbrev pub clash : List Stated → Stated → Option PolicyWhy
clash policy s =
    if is_taken policy s.side then Some SameName
    else if list_any (is_named policy) s.domains || repeats s.domains then Some SameDomain
    else if list_any (is_shared policy) s.semaphores || repeats s.semaphores then Some SameSemaphore
    else option_or (flow_clash policy s.flow) (is_full policy)

-- ALL LINES

-- a line at fault, and why
pub record At : Type 0 where
  pub line : ℕ
  pub why : PolicyWhy

abbrev pub joined : List Stated → Stated → Option PolicyWhy → Result (List Stated) PolicyWhy
joined policy s None = Ok (policy ++ s ∷ [])
joined policy s (Some why) = Err why

-- the policy with what a line says
abbrev pub with_said : List Stated → Result (Option Stated) PolicyWhy → Result (List Stated) PolicyWhy
with_said policy (Err why) = Err why
with_said policy (Ok None) = Ok policy
with_said policy (Ok (Some s)) = joined policy s (clash policy s)

abbrev pub with_line : List Stated → Row → Result (List Stated) PolicyWhy
with_line policy row = with_said policy (said row.number (texts_of (tokens row.start row.text)))

-- what comes next, unless a line is at fault
abbrev pub and_then : ℕ → Result (List Stated) PolicyWhy → (List Stated → Result (List Stated) At) → Result (List Stated) At
and_then line (Err why) next = Err (record { line = line; why = why })
and_then line (Ok policy) next = next policy

-- the policy with what lines say, or the first line at fault
abbrev pub with_lines : List Stated → List Row → Result (List Stated) At
with_lines policy [] = Ok policy
with_lines policy (row ∷ rows) = and_then row.number (with_line policy row) (λ (more : List Stated). with_lines more rows)

-- the policy that a text is, or the first line at fault
unfoldable pub policy_of : List ℕ → Result (List Stated) At
policy_of text = with_lines [] (lines text)

-- WHAT IS ANSWERED

-- a fault is that which is wanted. Want of memory may be answered instead of anything
abbrev pub IsFault : {A : Type 0} → Result A At → PolicyFault → Type 0
IsFault wanted (AtLine line why) = wanted ≡ Err (record { line = line; why = why })
IsFault wanted Memory = Unit {0}

-- what was found, as it is seen, is what is wanted
abbrev pub GivesBy : {A B : Type 0} → (A → B) → Result B At → Result A PolicyFault → Type 0
GivesBy seen wanted (Ok found) = wanted ≡ Ok (seen found)
GivesBy seen wanted (Err fault) = IsFault wanted fault

abbrev pub Gives : {A : Type 0} → Result A At → Result A PolicyFault → Type 0
Gives wanted result = GivesBy (λ found. found) wanted result

-- the same at a line
abbrev pub at_line : {A : Type 0} → ℕ → Result A PolicyWhy → Result A At
at_line line (Err why) = Err (record { line = line; why = why })
at_line line (Ok found) = Ok found

-- a line was read
abbrev pub AddsLine : List Stated → Row → List Stated → Result (Unit {0}) PolicyFault → Type 0
AddsLine old row new result = GivesBy (λ (done : Unit {0}). new) (at_line row.number (with_line old row)) result

-- A POLICY BY ITS LINES

-- what a line says by itself
abbrev pub said_in : Row → Result (Option Stated) PolicyWhy
said_in row = said row.number (texts_of (tokens row.start row.text))

abbrev pub said_if_any : Result (Option Stated) PolicyWhy → List Stated
said_if_any (Ok (Some s)) = s ∷ []
said_if_any (Ok None) = []
said_if_any (Err why) = []

abbrev pub stated_in : Row → List Stated
stated_in row = said_if_any (said_in row)

-- it is none that is wrong by itself
abbrev pub is_right : Row → Bool
is_right row = is_ok (said_in row)

-- each of these can stand behind those before it
abbrev pub FitBehind : List Stated → List Stated → Type 0
FitBehind before [] = Unit {0}
FitBehind before (s ∷ ss) = (clash before s ≡ None) × FitBehind (before ++ s ∷ []) ss

-- lines make a policy: no line is wrong, it is what they say, one after another, and each can stand behind those before it
pub record MakePolicy (rows : List Row) (policy : List Stated) : Type 0 where
  pub right : list_all is_right rows ≡ true
  pub said : policy ≡ flat_map stated_in rows
  pub fit : FitBehind [] policy
