use Rattle.std.proofs.Common.{◌≡◌, ◌∷◌, map, string_bytes, take}
use Rattle.nova_command.proofs.parsing.with_program_name.Given as goal

-- the name and the words so far
abbrev pub invariant-loop-word : goal.invariant-loop-word
invariant-loop-word l = map (λ word. word.now) l.named.items ≡ l.program ∷ map string_bytes (take l.word-index l.words)
