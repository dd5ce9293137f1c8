use Rattle.std.proofs.Common.{◌≡◌, ℕ, ◌-◌, ◌*◌, ◌≤◌, List, [], ◌∷◌, ◌++◌, length, take, replicate, refl, ap, ap₂, ◌∙◌, arith}
use Rattle.std.proofs.lemmas.Grind.{common_steps}
use Rattle.std.proofs.lemmas.List.{take_all}
use Rattle.std.specs.Int.{w32, to_le_bytes}
use Rattle.std.specs.List.{flat_map}
use Rattle.vectors_runs.specs.Memory.{memory_with}
use Rattle.vectors_runs.specs.declared.memory.TheConstants.{SIZE, WORDS}
use Rattle.vectors_runs.proofs.memory.Memory.new.Goals as goal

-- a word has four bytes
length-words : (words : List ℕ) → length (flat_map (to_le_bytes w32) words) ≡ 4 * length words
length-words [] = refl
length-words (w ∷ ws) = grind (arith, common_steps, length-words ws)

-- the bytes of the words, filled up with zeros
filled : (words bytes memory : List ℕ) (len : ℕ) → length words ≤ WORDS → bytes ≡ flat_map (to_le_bytes w32) words → len ≡ length bytes → memory ≡ take SIZE bytes ++ replicate (SIZE - len) 0 → memory ≡ memory_with words
filled words bytes memory len few are_words is_len is_filled =
    let size : length bytes ≡ 4 * length words = ap length are_words ∙ length-words words in
    let kept = take_all SIZE bytes (omega arith) in
    is_filled ∙ ap₂ (λ xs n. xs ++ replicate (SIZE - n) 0) (kept ∙ are_words) (is_len ∙ size)

pub returns : goal.returns
returns c =
    let l = c.loop-word in
    let words = c.args.program.now in
    let whole = take_all l.word-index words (omega arith) in
    filled words l.bytes.items c.resize.new.self.items l.bytes.len c.requires (l.invariant ∙ ap (flat_map (to_le_bytes w32)) whole) l.bytes.ok.0 c.in_ok-resize.ensures.items
