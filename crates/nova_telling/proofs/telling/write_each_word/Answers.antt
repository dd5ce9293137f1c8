use Rattle.std.proofs.Common.{rules, arith, ◌≡◌, ◌++◌, ℕ, string_bytes}
use Rattle.nova_utcb.specs.Messages.{word}
use Rattle.nova_telling.specs.Told.{word_text}
use Rattle.nova_report.proofs.Ranges.{range_more, range_end}
use Rattle.nova_telling.proofs.telling.write_each_word.Goals as goal

pub loop-i-preserved : goal.loop-i-preserved
loop-i-preserved c =
    let words = c.args.words.now in
    let wrote : string_bytes c.write_word_after_space.new.out ≡ string_bytes c.loop-i.out ++ word_text (word words c.loop-i.i) = search rules in
    range_more (λ (i : ℕ). word_text (word words i)) c.loop-i.i 128 (string_bytes c.loop-i.out) _ c.loop-i.invariant
    (string_bytes c.write_word_after_space.new.out) (omega arith) wrote

pub returns : goal.returns
returns c =
    range_end (λ (i : ℕ). word_text (word c.args.words.now i)) c.loop-i.i 128 (string_bytes c.loop-i.out) _ c.loop-i.invariant (omega arith)
