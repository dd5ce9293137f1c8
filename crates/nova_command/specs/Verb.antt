-- The words that say what to do.
use Rattle.std.specs.Prelude.{ℕ, List, codes, Option, Some, None, if◌then◌else◌}
use Rattle.std.specs.Str.{bytes_eq}
use Rattle.nova_command.specs.declared.verb.Verb.{Verb}
use Rattle.nova_command.specs.declared.verb.Verb.TheVariants.{Run, Solo, Check, Bench, Twin}

-- the verb that a word stands for
abbrev pub verb_of : List ℕ → Option Verb
verb_of word =
    if bytes_eq word (codes "run") then Some Run
    else if bytes_eq word (codes "solo") then Some Solo
    else if bytes_eq word (codes "check") then Some Check
    else if bytes_eq word (codes "bench") then Some Bench
    else if bytes_eq word (codes "twin") then Some Twin
    else None
