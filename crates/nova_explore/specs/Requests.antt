-- Requests, by the words of the command line.
use Rattle.std.specs.Prelude.{ℕ, List, ◌∷◌, codes, nat_le, Option, Some, None, Result, Ok, Err, option_and_then, option_map, if◌then◌else◌}
use Rattle.std.specs.Str.{bytes_eq}
use Rattle.hex.specs.Hex.{decode_of}
use Rattle.nova_asking.specs.declared.aim.Aim.TheVariants as aim
use Rattle.nova_asking.specs.declared.question.Location.{Location}
use Rattle.nova_asking.specs.declared.question.Question.{Question}
use Rattle.nova_asking.specs.declared.question.Question.TheVariants as question
use Rattle.nova_command.specs.Parsing.{Text}
use Rattle.nova_explore.specs.Form.{Given, given}
use Rattle.nova_explore.specs.Numbers.{byte_of, number_of, offset_of, states_of, turns_of}
use Rattle.nova_explore.specs.declared.request.Request.{Request}
use Rattle.nova_explore.specs.declared.word.Word.{Word}
use Rattle.nova_explore.specs.declared.word.Word.TheVariants as word

-- the word that a text stands for
abbrev pub word_of : List ℕ → Option Word
word_of text =
    if bytes_eq text (codes "console") then Some word.Console
    else if bytes_eq text (codes "text") then Some word.Text
    else if bytes_eq text (codes "word") then Some word.Word
    else if bytes_eq text (codes "at") then Some word.At
    else if bytes_eq text (codes "stores") then Some word.Stores
    else if bytes_eq text (codes "blocked") then Some word.Blocked
    else if bytes_eq text (codes "dies") then Some word.Dies
    else if bytes_eq text (codes "but") then Some word.But
    else if bytes_eq text (codes "stuck") then Some word.Stuck
    else if bytes_eq text (codes "hangs") then Some word.Hangs
    else if bytes_eq text (codes "ends") then Some word.Ends
    else None

-- the bytes that hexadecimal digits write, two of them a byte
abbrev pub unless_odd : {E : Type 0} → Result (List ℕ) E → Option (List ℕ)
unless_odd (Ok bytes) = Some bytes
unless_odd (Err fault) = None

unfoldable pub bytes_of : List ℕ → Option (List ℕ)
bytes_of text = unless_odd (decode_of text)

abbrev pub on_console : Option ℕ → Option (List ℕ) → Option Question
on_console (Some console) (Some bytes) = Some (question.Console console bytes)
on_console _ _ = None

abbrev pub of_word : Option ℕ → Option ℕ → Option ℕ → Option Question
of_word (Some frame) (Some offset) (Some value) = Some (question.Word frame offset value)
of_word _ _ _ = None

abbrev pub location_of : Option ℕ → Option ℕ → Option Location
location_of (Some pd) (Some address) = Some (record { pd = pd; address = address })
location_of _ _ = None

abbrev pub at_one : Option Location → Option Question
at_one (Some location) = Some (question.At location)
at_one None = None

abbrev pub at_both : Option Location → Option Location → Option Question
at_both (Some first) (Some second) = Some (question.AtBoth first second)
at_both _ _ = None

abbrev pub dies_but : Option Word → Option ℕ → Option Question
dies_but (Some word.But) (Some ec) = Some (question.DiesBut ec)
dies_but _ _ = None

-- bytes from one to another, which are in this order
abbrev pub on_bytes : Option ℕ → Option ℕ → Option ℕ → Option Question
on_bytes (Some frame) (Some first) (Some last) = if nat_le first last then Some (question.Stores frame first last) else None
on_bytes _ _ _ = None

abbrev pub on_context : Word → Option ℕ → Option Question
on_context word.Dies (Some ec) = Some (question.DiesOf ec)
on_context word.Stuck (Some ec) = Some (question.Stuck ec)
on_context _ _ = None

abbrev pub end_hangs : Option ℕ → Option Question
end_hangs (Some turns) = Some (question.Hangs turns aim.End)
end_hangs None = None

abbrev pub act_hangs : Option ℕ → Option ℕ → Option Question
act_hangs (Some turns) (Some ec) = Some (question.Hangs turns (aim.Act ec))
act_hangs _ _ = None

-- the questions, each by its word and the words after it
abbrev pub of_none : Word → Option Question
of_none word.Blocked = Some question.Blocked
of_none word.Dies = Some question.Dies
of_none word.Ends = Some question.Ends
of_none _ = None

abbrev pub of_one : Word → Text → Option Question
of_one word.Hangs turns = end_hangs (turns_of turns)
of_one word ec = on_context word (number_of ec)

abbrev pub of_two : Word → Text → Text → Option Question
of_two word.Dies but ec = dies_but (word_of but) (number_of ec)
of_two word.Console console digits = on_console (number_of console) (bytes_of digits)
of_two word.Text console text = on_console (number_of console) (Some text)
of_two word.Hangs turns ec = act_hangs (turns_of turns) (number_of ec)
of_two word.At pd address = at_one (location_of (number_of pd) (number_of address))
of_two _ first second = None

abbrev pub of_three : Word → Text → Text → Text → Option Question
of_three word.Word frame offset value = of_word (number_of frame) (offset_of offset) (number_of value)
of_three word.Stores frame first last = on_bytes (number_of frame) (byte_of first) (byte_of last)
of_three _ first second third = None

abbrev pub of_four : Word → Text → Text → Text → Text → Option Question
of_four word.At pd address other_pd other = at_both (location_of (number_of pd) (number_of address)) (location_of (number_of other_pd) (number_of other))
of_four _ first second third fourth = None

-- by how many words there are: behind a word that is missing there is none
abbrev pub asked : Option Word → Option Text → Option Text → Option Text → Option Text → Option Question
asked None first second third fourth = None
asked (Some word) None second third fourth = of_none word
asked (Some word) (Some first) None third fourth = of_one word first
asked (Some word) (Some first) (Some second) None fourth = of_two word first second
asked (Some word) (Some first) (Some second) (Some third) None = of_three word first second third
asked (Some word) (Some first) (Some second) (Some third) (Some fourth) = of_four word first second third fourth

abbrev pub requested : Option Text → Option ℕ → Option ℕ → Option Question → Option Request
requested (Some scenario) (Some turns) (Some states) (Some question) = Some (record { scenario = scenario; turns = turns; states = states; question = question })
requested _ _ _ _ = None

-- the question that was given
abbrev pub question_in : Given → Option Question
question_in g = asked (option_and_then word_of g.question) g.first g.second g.third g.fourth

-- the request that was given
abbrev pub request_with : Given → Option Question → Option Request
request_with g question = requested g.scenario (option_and_then turns_of g.turns) (option_and_then states_of g.states) question

abbrev pub request_of : Given → Option Request
request_of g = request_with g (question_in g)

-- the request that the words after the program's name are, or nothing
unfoldable pub request : List Text → Option Request
request words = option_and_then request_of (given (codes "nova_explore" ∷ words))
