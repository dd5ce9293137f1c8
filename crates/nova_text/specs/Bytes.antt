-- What the bytes of a text do in it.
use Rattle.std.specs.Prelude.{ℕ, Bool, true, false, not, ◌||◌, List, [], ◌∷◌, ◌==◌}
use Rattle.std.specs.Char.{is_ascii_graphic}
use Rattle.std.specs.List.{before_first, list_any}

-- a line feed ends a line
abbrev pub is_line_feed : ℕ → Bool
is_line_feed b = b == 10

-- space, tab and carriage return stand between tokens
abbrev pub is_separator : ℕ → Bool
is_separator b = b == 32 || (b == 9 || b == 13)

-- `#` begins a comment
abbrev pub is_comment_sign : ℕ → Bool
is_comment_sign b = b == 35

-- a token ends before a separator and before a comment
abbrev pub ends_token : ℕ → Bool
ends_token b = is_separator b || is_comment_sign b

-- what stands before a line's comment
abbrev pub before_comment : List ℕ → List ℕ
before_comment line = before_first is_comment_sign line

-- only printable ASCII, space, tab and carriage return may stand there
abbrev pub is_allowed : ℕ → Bool
is_allowed b = is_ascii_graphic b || is_separator b

-- whether some other byte does
unfoldable pub has_forbidden : List ℕ → Bool
has_forbidden line = list_any (λ b. not (is_allowed b)) (before_comment line)

-- whether there is a byte
abbrev pub has_bytes : List ℕ → Bool
has_bytes [] = false
has_bytes (b ∷ bs) = true
