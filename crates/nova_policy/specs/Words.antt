-- What words ask for.
use Rattle.std.specs.Prelude.{ℕ, Bool, List, ◌∷◌, codes, is_some, max, nat_le, if◌then◌else◌, Option, Some, None, option_and_then}
use Rattle.nova_command.specs.Number.{number_within}
use Rattle.nova_policy.specs.Form.{Given, given}
use Rattle.nova_policy.specs.declared.request.Request.{Request}
use Rattle.nova_policy.specs.declared.request.Span.{Span}

-- the turn that a text writes: from 0 to 10,000,000; where there is no text, a given turn
abbrev pub turn_of : List ℕ → Option ℕ
turn_of = number_within 0 10000000

abbrev pub turn_or : ℕ → Option (List ℕ) → Option ℕ
turn_or turn None = Some turn
turn_or turn (Some text) = turn_of text

-- from a turn on, until another, which isn't before it
abbrev pub between : ℕ → ℕ → Option Span
between from until = if nat_le from until then Some (record { from = from; until = until }) else None

-- one turn, which is one million where none is given; or, where a last turn is given, all from it, or from the boot, until that one
abbrev pub spanned : Option (List ℕ) → Option (List ℕ) → Option Span
spanned at None = option_and_then (λ turn. between turn turn) (turn_or 1000000 at)
spanned at (Some text) = option_and_then (λ until. option_and_then (λ from. between from until) (turn_or 0 at)) (turn_of text)

-- the turn of `--flow` stands in place of that of `--at`. Without a last turn this is one million, or the first, where that is later
abbrev pub flowed_on : List ℕ → Option Span
flowed_on text = option_and_then (λ turn. between turn (max turn 1000000)) (turn_of text)

abbrev pub flowed : Option (List ℕ) → Option (List ℕ) → List ℕ → Option Span
flowed None None text = flowed_on text
flowed None (Some until) text = spanned (Some text) (Some until)
flowed (Some at) until text = None

abbrev pub span_of : Option (List ℕ) → Option (List ℕ) → Option (List ℕ) → Option Span
span_of at until None = spanned at until
span_of at until (Some text) = flowed at until text

-- a scenario and these turns, with the order and the policy where they are named, and whether flows are asked for
abbrev pub requested : Option (List ℕ) → Option (List ℕ) → Option Span → Option (List ℕ) → Bool → Option Request
requested (Some scenario) order (Some span) policy flow = Some (record { scenario = scenario; order = order; span = span; policy = policy; flow = flow })
requested scenario order span policy flow = None

abbrev pub asked_of : Given → Option Request
asked_of g = requested g.scenario g.order (span_of g.at g.until g.flow) g.policy (is_some g.flow)

-- what the words after the program's name ask for, or nothing
unfoldable pub asked : List (List ℕ) → Option Request
asked words = option_and_then asked_of (given (codes "nova_policy" ∷ words))
