-- The lines of an order's text.
use Rattle.std.proofs.Common.{◌≡◌, ℕ, ◌+◌, ◌≤◌, ◌<◌, List, [], ◌∷◌, length, refl, ap, sym, subst, ◌∙◌, arith, Option, Some, None, Result, Ok, Err}
use Rattle.std.proofs.lemmas.List.{drop_all}
use Rattle.std.specs.List.{position_or_len, slice_split, before_first, after_first}
use Rattle.std.proofs.lemmas.List.Splits.{slice_split_first, slice_split_none}
use Rattle.std.proofs.lemmas.List.Sums.{fails_before_first}
use Rattle.nova_text.proofs.LineLemmas.{Parts, parts}
use Rattle.nova_order.specs.Numbers.{number}
use Rattle.nova_order.specs.Text.{block_of, block_of_numbers, is_space, is_line_feed}
use Rattle.nova_order.specs.Read.{read_lines, and_then, with_line, ended, next_line, IsFault}
use Rattle.nova_order.specs.declared.block.Block.{Block}
use Rattle.nova_order.specs.declared.fault.OrderFault.{OrderFault}
use Rattle.nova_order.specs.declared.fault.OrderFault.TheVariants.{BadLine, BadCpu, ZeroCount, NotMerged, TooMany, Memory}

-- a line without a space says no block
number_none : number [] ≡ None
unfolding number
number_none = refl

no_count : (cpu : Option ℕ) → block_of_numbers cpu None ≡ None
no_count None = refl
no_count (Some cpu) = refl

pub block_none : (line : List ℕ) → length line ≤ position_or_len is_space line → block_of line ≡ None
unfolding block_of
block_none line beyond =
    let none : after_first is_space line ≡ [] = drop_all (position_or_len is_space line + 1) line (omega arith) in
    ap (λ bs. block_of_numbers (number (before_first is_space line)) (number bs)) none
    ∙ ap (block_of_numbers (number (before_first is_space line))) number_none
    ∙ no_count (number (before_first is_space line))

-- a line before another part is read
pub read_line : (cpus most : ℕ) (blocks : List Block) (line : List ℕ) (ps : List (List ℕ)) → Parts ps → read_lines cpus most blocks (line ∷ ps) ≡ and_then (with_line cpus most blocks line) (λ more. read_lines cpus most more ps)
read_line cpus most blocks line ps some = rw some.are refl

-- the parts of a text with a line feed, and of one without
pub split_line : (bs line after : List ℕ) → position_or_len is_line_feed bs < length bs → line ≡ before_first is_line_feed bs → after ≡ after_first is_line_feed bs → slice_split is_line_feed bs ≡ line ∷ slice_split is_line_feed after
split_line bs line after within is_line is_after =
    let to_line = sym is_line in let to_after = sym is_after in
    slice_split_first is_line_feed bs 0 within ∙ (λ i. to_line i ∷ slice_split is_line_feed (to_after i))

pub split_rest : (bs : List ℕ) → length bs ≤ position_or_len is_line_feed bs → slice_split is_line_feed bs ≡ bs ∷ []
split_rest bs beyond = slice_split_none is_line_feed bs (λ k d below. fails_before_first is_line_feed bs k d (omega arith))

-- a fault of a line is one of all lines from it on
fault_passes : (wanted : Result (List Block) OrderFault) (next : List Block → Result (List Block) OrderFault) (fault : OrderFault) → IsFault wanted fault → IsFault (and_then wanted next) fault
fault_passes wanted next (BadLine line) is = ap (λ w. and_then w next) is
fault_passes wanted next (BadCpu line) is = ap (λ w. and_then w next) is
fault_passes wanted next (ZeroCount line) is = ap (λ w. and_then w next) is
fault_passes wanted next (NotMerged line) is = ap (λ w. and_then w next) is
fault_passes wanted next (TooMany line) is = ap (λ w. and_then w next) is
fault_passes wanted next Memory is = tt

module _ (cpus most : ℕ) (blocks : List Block) (rest : List ℕ) (whole : Result (List Block) OrderFault) (is_whole : read_lines cpus most blocks (slice_split is_line_feed rest) ≡ whole) where
  module _ (line after : List ℕ) (within : position_or_len is_line_feed rest < length rest) (is_line : line ≡ before_first is_line_feed rest) (is_after : after ≡ after_first is_line_feed rest) where
    first_line : and_then (with_line cpus most blocks line) (λ more. read_lines cpus most more (slice_split is_line_feed after)) ≡ whole
    first_line =
        sym (ap (read_lines cpus most blocks) (split_line rest line after within is_line is_after) ∙ read_line cpus most blocks line (slice_split is_line_feed after) (parts after))
        ∙ is_whole

    pub goes_on : (more : List Block) → with_line cpus most blocks line ≡ Ok more → read_lines cpus most more (slice_split is_line_feed after) ≡ whole
    goes_on more is = sym (ap (λ w. and_then w (λ m. read_lines cpus most m (slice_split is_line_feed after))) is) ∙ first_line

    pub stops : (fault : OrderFault) → IsFault (with_line cpus most blocks line) fault → IsFault whole fault
    stops fault is = subst (λ w. IsFault w fault) first_line (fault_passes (with_line cpus most blocks line) _ fault is)

  pub ends_at : length rest ≤ position_or_len is_line_feed rest → 0 < length rest → whole ≡ Err (BadLine (next_line blocks))
  ends_at beyond some = sym is_whole ∙ ap (read_lines cpus most blocks) (split_rest rest beyond) ∙ bad rest some where
    bad : (bs : List ℕ) → 0 < length bs → ended blocks bs ≡ Err (BadLine (next_line blocks))
    bad [] none = absurd (omega arith)
    bad (b ∷ bs) more = refl

  pub ends_well : length rest ≤ position_or_len is_line_feed rest → length rest ≡ 0 → whole ≡ Ok blocks
  ends_well beyond none = sym is_whole ∙ ap (read_lines cpus most blocks) (split_rest rest beyond) ∙ good rest none where
    good : (bs : List ℕ) → length bs ≡ 0 → ended blocks bs ≡ Ok blocks
    good [] len = refl
    good (b ∷ bs) len = absurd (omega arith)
