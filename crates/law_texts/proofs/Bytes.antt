-- The bytes of words, one word after another.
use Rattle.std.proofs.Common.{◌≡◌, ℕ, zero, suc, ◌+◌, ◌*◌, ◌/◌, ◌%◌, ◌^◌, ◌<◌, List, [], ◌∷◌, length, get_or, refl, ap, ◌∙◌, arith}
use Rattle.std.specs.Prelude.{slice_index}
use Rattle.std.specs.Int.{w32, to_le_bytes}
use Rattle.std.proofs.lemmas.List.{length-append, get_or_append_left, get_or-append-add}
use Rattle.nova_model.specs.Memory.{Memory}
use Rattle.nova_scenario.specs.Words.{bytes_of}
use Rattle.nova_boot.specs.Laid.{byte_at}
use Rattle.law_texts.specs.Words.{LieFrom}

four_bytes : (w : ℕ) → length (to_le_bytes w32 w) ≡ 4
four_bytes w = refl

byte_of_word : (w i : ℕ) → i < 4 → get_or (to_le_bytes w32 w) i 0 ≡ w / 256 ^ i % 256
byte_of_word w zero below = omega arith
byte_of_word w (suc zero) below = refl
byte_of_word w (suc (suc zero)) below = refl
byte_of_word w (suc (suc (suc zero))) below = refl
byte_of_word w (suc (suc (suc (suc i)))) below = absurd (omega arith)

pub bytes_count : (ws : List ℕ) → length (bytes_of ws) ≡ 4 * length ws
bytes_count [] = refl
bytes_count (w ∷ ws) = let one = length-append (to_le_bytes w32 w) (bytes_of ws) in let rest = bytes_count ws in let four = four_bytes w in omega arith

pub byte_of_words : (ws : List ℕ) (j i : ℕ) → j < length ws → i < 4 → get_or (bytes_of ws) (4 * j + i) 0 ≡ get_or ws j 0 / 256 ^ i % 256
byte_of_words [] j i within below = absurd (omega arith)
byte_of_words (w ∷ ws) zero i within below =
    let place : 4 * 0 + i ≡ i = omega arith in
    ap (λ n. get_or (bytes_of (w ∷ ws)) n 0) place
    ∙ get_or_append_left (to_le_bytes w32 w) (bytes_of ws) 0 i (let four = four_bytes w in omega arith)
    ∙ byte_of_word w i below
byte_of_words (w ∷ ws) (suc j) i within below =
    let place : 4 * suc j + i ≡ length (to_le_bytes w32 w) + (4 * j + i) = let four = four_bytes w in omega arith in
    ap (λ n. get_or (bytes_of (w ∷ ws)) n 0) place
    ∙ get_or-append-add (to_le_bytes w32 w) (bytes_of ws) (4 * j + i) 0
    ∙ byte_of_words ws j i (omega arith) below

twice : (v : ℕ) → v % 256 % 256 ≡ v % 256
twice v = omega arith

-- where the bytes of an image lie, the words do
pub words_lie : (m : Memory) (address : ℕ) (ws : List ℕ) → ((j : ℕ) → j < length (bytes_of ws) → byte_at m (address + j) ≡ slice_index (bytes_of ws) j % 256) → LieFrom m address ws
words_lie m address ws there j i within below =
    there (4 * j + i) (let n = bytes_count ws in omega arith)
    ∙ ap (λ b. b % 256) (byte_of_words ws j i within below)
    ∙ twice (get_or ws j 0 / 256 ^ i)
