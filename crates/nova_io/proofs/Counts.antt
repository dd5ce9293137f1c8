-- Laws of counts of faults.
use Rattle.std.proofs.Common.{◌≡◌, ℕ, ◌≤◌, ◌⊎◌, inl, inr, List, ◌∙◌, arith}
use Rattle.nova_io.specs.Faults.{Rose, Stay, IsShared, OthersStay}

-- what rose in a part of a time rose in the whole of it
pub rose_within : (before first last after : ℕ) → before ≤ first → first ≤ last → last ≤ after → Rose first last → Rose before after
rose_within before first last after b m a rose = grind arith

-- counts that stay in two parts of a time
pub stay_again : (before between after : List ℕ → ℕ) → Stay before between → Stay between after → Stay before after
stay_again before between after first then name = then name ∙ first name

stay_or : {D : Type 0} (counts : D → List ℕ → ℕ) (name other : List ℕ) (before between after : D)
    → IsShared counts name other ⊎ (counts between other ≡ counts before other)
    → IsShared counts name other ⊎ (counts after other ≡ counts between other)
    → IsShared counts name other ⊎ (counts after other ≡ counts before other)
stay_or counts name other before between after (inl shared) then = inl shared
stay_or counts name other before between after (inr first) (inl shared) = inl shared
stay_or counts name other before between after (inr first) (inr then) = inr (then ∙ first)

pub others_stay_again : {D : Type 0} (counts : D → List ℕ → ℕ) (name : List ℕ) (before between after : D)
    → OthersStay counts name before between → OthersStay counts name between after → OthersStay counts name before after
others_stay_again counts name before between after first then other = stay_or counts name other before between after (first other) (then other)
