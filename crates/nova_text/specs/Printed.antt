-- What is printed of a part of a text and of faults.
use Rattle.std.specs.Prelude.{ℕ, List, ◌++◌, codes}
use Rattle.std.specs.Fmt.{decimal}
use Rattle.nova_text.specs.declared.span.Span.{Span}
use Rattle.nova_text.specs.declared.number.NumberError.{NumberError}
use Rattle.nova_text.specs.declared.number.NumberError.TheVariants.{Malformed, TooLarge}
use Rattle.nova_text.specs.declared.number.NumberFault.{NumberFault}
use Rattle.nova_text.specs.declared.number.NumberFault.TheVariants.{BadToken, TooLarge as TooLargeAt}

-- the places of a part in decimal, as `5..8`
abbrev pub span_text : Span → List ℕ
span_text span = decimal span.start ++ (codes ".." ++ decimal span.end)

-- what is wrong with a token
abbrev pub error_text : NumberError → List ℕ
error_text Malformed = codes "not a number"
error_text TooLarge = codes "a number of 2^32 or more"

-- what is wrong with a token, and where
abbrev pub fault_text : NumberFault → List ℕ
fault_text (BadToken span) = codes "not a number at " ++ span_text span
fault_text (TooLargeAt span) = codes "a number of 2^32 or more at " ++ span_text span
