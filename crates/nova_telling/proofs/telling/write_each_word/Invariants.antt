use Rattle.std.proofs.Common.{◌≡◌, ◌++◌, ◌-◌, ℕ, string_bytes, flat_map}
use Rattle.std.specs.List.{range_with_len}
use Rattle.nova_utcb.specs.Messages.{word}
use Rattle.nova_telling.specs.Told.{word_text, words_text}
use Rattle.nova_telling.proofs.telling.write_each_word.Given as goal

abbrev pub invariant-loop-i : goal.invariant-loop-i
invariant-loop-i l =
    string_bytes l.out ++ flat_map (λ (i : ℕ). word_text (word l.words i)) (range_with_len l.i (128 - l.i))
    ≡ string_bytes l.initial.out ++ words_text l.words
