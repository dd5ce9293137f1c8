-- The two guests that are compared, as a text names them.
use Rattle.std.specs.Prelude.{◌≡◌, ℕ, ◌==◌, ◌^◌, Bool, ◌&&◌, if◌then◌else◌, List, [], ◌∷◌, length, nat_lt, Option, Some, None, Result, Ok, Err}
use Rattle.std.specs.Char.{is_ascii_graphic}
use Rattle.std.specs.List.{before_first, after_first, list_all, slice_split}
use Rattle.nova_text.specs.Number.{number}
use Rattle.nova_text.specs.declared.number.NumberError.{NumberError}
use Rattle.nova_text.specs.declared.number.NumberError.TheVariants.{Malformed}
use Rattle.nova_answers.specs.declared.subjects.Subject.{Subject}
use Rattle.nova_answers.specs.declared.subjects.Subjects.{Subjects}
use Rattle.nova_answers.specs.declared.subjects.SubjectsFault.{SubjectsFault}
use Rattle.nova_answers.specs.declared.subjects.SubjectsFault.TheVariants.{Syntax, Memory}

-- a space, and a line feed
abbrev pub is_space : ℕ → Bool
is_space b = b == 32

abbrev pub is_line_feed : ℕ → Bool
is_line_feed b = b == 10

-- the name of a file: one or more bytes from 33 to 126
abbrev pub is_name : List ℕ → Bool
is_name text = nat_lt 0 (length text) && list_all is_ascii_graphic text

-- the number of a virtual CPU, which is below 2^32
abbrev pub guest_of : ℕ → Option ℕ
guest_of n = if nat_lt n (2 ^ 32) then Some n else None

-- the number that a text writes as that of a guest
abbrev pub guest_read : Option ℕ → Result (Option ℕ) NumberError
guest_read None = Err Malformed
guest_read (Some n) = Ok (guest_of n)

-- the guest of two names and a number, where they are all there
abbrev pub subject_of_words : List ℕ → List ℕ → Option ℕ → Option Subject
subject_of_words scenario order None = None
subject_of_words scenario order (Some n) =
    if is_name scenario && is_name order then Some (record { scenario = scenario; order = order; guest = guest_of n }) else None

-- the guest of a line SCENARIO ORDER GUEST without its line feed
unfoldable pub subject_of : List ℕ → Option Subject
subject_of line =
    let rest = after_first is_space line in
    subject_of_words (before_first is_space line) (before_first is_space rest) (number (after_first is_space rest))

-- the guests of two lines and of what stands behind them, or the first of the lines at fault
abbrev pub both : Option Subject → Option Subject → List (List ℕ) → Result Subjects ℕ
both None second behind = Err 1
both (Some first) None behind = Err 2
both (Some first) (Some second) ([] ∷ []) = Ok (record { first = first; second = second })
both (Some first) (Some second) behind = Err 3

-- the guests of the parts of a text at its line feeds; a part with no line feed behind it is no line
abbrev pub subjects_of_parts : List (List ℕ) → Result Subjects ℕ
subjects_of_parts (first ∷ second ∷ third ∷ parts) = both (subject_of first) (subject_of second) (third ∷ parts)
subjects_of_parts (first ∷ second ∷ []) = both (subject_of first) None []
subjects_of_parts (first ∷ []) = Err 1
subjects_of_parts [] = Err 1

-- the two guests that a text names, or the first line at fault
unfoldable pub subjects_of : List ℕ → Result Subjects ℕ
subjects_of text = subjects_of_parts (slice_split is_line_feed text)

-- what is read of a line, or the line
abbrev pub at_line : ℕ → Option Subject → Result Subject ℕ
at_line line None = Err line
at_line line (Some subject) = Ok subject

-- a fault is of the line that is wanted. Want of memory may be answered instead of anything
abbrev pub IsFault : {A : Type 0} → Result A ℕ → SubjectsFault → Type 0
IsFault wanted (Syntax line) = wanted ≡ Err line
IsFault wanted Memory = Unit {0}

-- what was read is what is wanted
abbrev pub IsRead : {A : Type 0} → Result A ℕ → Result A SubjectsFault → Type 0
IsRead wanted (Ok read) = wanted ≡ Ok read
IsRead wanted (Err fault) = IsFault wanted fault
