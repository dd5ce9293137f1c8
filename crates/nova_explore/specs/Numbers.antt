-- The numbers of a request.
use Rattle.std.specs.Prelude.{ℕ, ◌≤◌, ◌^◌, ◌-◌, List, Option}
use Rattle.nova_asking.specs.Questions.{IsApt, ahead}
use Rattle.nova_command.specs.Number.{number_within}
use Rattle.nova_asking.specs.declared.question.Question.{Question}
use Rattle.nova_explore.specs.declared.request.Request.{Request}

-- from 1 to 10,000,000 turns
abbrev pub IsTurns : ℕ → Type 0
IsTurns n = (1 ≤ n) × (n ≤ 10000000)

-- from 1 to 100,000,000 states
abbrev pub IsStates : ℕ → Type 0
IsStates n = (1 ≤ n) × (n ≤ 100000000)

-- the word at this offset lies in its frame
abbrev pub IsOffset : ℕ → Type 0
IsOffset n = n ≤ 4092

-- a question is on a word that lies in its frame, and looks no more turns ahead than an order may have
pub record IsAsked (q : Question) : Type 0 where
  pub apt : IsApt q
  pub ahead : ahead q ≤ 10000000

-- the numbers of a request are within their bounds, and those of its question
pub record HasBounds (r : Request) : Type 0 where
  pub turns : IsTurns r.turns
  pub states : IsStates r.states
  pub asked : IsAsked r.question

-- what texts write
abbrev pub number_of : List ℕ → Option ℕ
number_of = number_within 0 (2 ^ 32 - 1)

abbrev pub turns_of : List ℕ → Option ℕ
turns_of = number_within 1 10000000

abbrev pub states_of : List ℕ → Option ℕ
states_of = number_within 1 100000000

-- a byte of a frame
abbrev pub byte_of : List ℕ → Option ℕ
byte_of = number_within 0 4095

abbrev pub offset_of : List ℕ → Option ℕ
offset_of = number_within 0 4092
