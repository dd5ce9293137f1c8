-- The one order of turns.
use Rattle.std.proofs.Common.{◌≡◌, ℕ, zero, suc, ◌<◌, ◌^◌, ◌==◌, Bool, true, false, not, ◌&&◌, List, [], ◌∷◌, ◌++◌, length, replicate, Option, Some, None, refl, ap, sym, subst, ◌∙◌, arith, nat_lt, nat_le}
use Rattle.std.specs.Prelude.{IsTrue}
use Rattle.std.specs.List.{list_all}
use Rattle.std.proofs.lemmas.List.Folds.{list_all-append}
use Rattle.nova_order.specs.Blocks.{turns, is_merged_after, IsOrder, HasOrder, is_within}
use Rattle.nova_order.specs.declared.block.Block.{Block}
use Rattle.nova_order.proofs.BlockLemmas.{length_turns}

pub turns_first : (b : Block) (bs : List Block) → turns (b ∷ bs) ≡ replicate b.count b.cpu ++ turns bs
unfolding turns
turns_first b bs = refl

turns_none : turns [] ≡ []
unfolding turns
turns_none = refl

-- BOUNDS

all_same : (p : ℕ → Bool) (n x : ℕ) → 0 < n → list_all p (replicate n x) ≡ p x
all_same p zero x some = absurd (omega arith)
all_same p (suc zero) x some = grind arith
all_same p (suc (suc n)) x some = rw (all_same p (suc n) x (omega arith)) (grind arith)

all_of_turns : (p : ℕ → Bool) (bs : List Block) → list_all (λ block. nat_lt 0 block.count) bs ≡ true → list_all p (turns bs) ≡ list_all (λ block. p block.cpu) bs
all_of_turns p [] counted = ap (list_all p) turns_none
all_of_turns p (b ∷ bs) counted =
    ap (list_all p) (turns_first b bs)
    ∙ list_all-append p (replicate b.count b.cpu) (turns bs)
    ∙ (let front = all_same p b.count b.cpu (grind arith) in let back = all_of_turns p bs (grind arith) in λ i. front i && back i)

pub within_turns : (cpus most : ℕ) (blocks : List Block) → IsOrder blocks → is_within cpus most blocks ≡ (list_all (λ cpu. nat_lt cpu cpus) (turns blocks) && nat_le (length (turns blocks)) most)
within_turns cpus most blocks is =
    let cpu = sym (all_of_turns (λ cpu. nat_lt cpu cpus) blocks is.counted) in let sum = sym (length_turns blocks) in λ i. cpu i && nat_le (sum i) most

-- ONE ORDER

-- whether the first turn is of a processor
abbrev is_first : List ℕ → ℕ → Bool
is_first [] cpu = false
is_first (t ∷ ts) cpu = t == cpu

-- turns begin with those of the first block, and end there
starts : (b : Block) (bs : List Block) (before : Option Block) → list_all (λ block. nat_lt 0 block.count) (b ∷ bs) ≡ true → is_merged_after before (b ∷ bs) ≡ true → is_first (turns bs) b.cpu ≡ false
starts b [] before counted merged = ap (λ ts. is_first ts b.cpu) turns_none
starts b (c ∷ cs) before counted merged = ap (λ ts. is_first ts b.cpu) (turns_first c cs) ∙ first_of c.count (grind arith) where
  other : (c.cpu == b.cpu) ≡ false
  other = grind arith

  first_of : (n : ℕ) → 0 < n → is_first (replicate n c.cpu ++ turns cs) b.cpu ≡ false
  first_of zero some = absurd (omega arith)
  first_of (suc n) some = other

runs : (x m n : ℕ) (ts us : List ℕ) → is_first ts x ≡ false → is_first us x ≡ false → replicate m x ++ ts ≡ replicate n x ++ us → (m ≡ n) × (ts ≡ us)
runs x zero zero ts us other_t other_u is = (refl, is)
runs x zero (suc n) ts us other_t other_u is = let first = ap (λ l. is_first l x) is in absurd (grind arith)
runs x (suc m) zero ts us other_t other_u is = let first = ap (λ l. is_first l x) is in absurd (grind arith)
runs x (suc m) (suc n) ts us other_t other_u is = let rest = runs x m n ts us other_t other_u (cc) in (ap suc rest.0, rest.1)

-- two first blocks of the same turns are of one processor
heads : (x y m n : ℕ) (ts us : List ℕ) → 0 < m → 0 < n → replicate m x ++ ts ≡ replicate n y ++ us → x ≡ y
heads x y zero n ts us some more is = absurd (omega arith)
heads x y (suc m) zero ts us some more is = absurd (omega arith)
heads x y (suc m) (suc n) ts us some more is = cc

no_turns : (x m : ℕ) (ts : List ℕ) → 0 < m → replicate m x ++ ts ≡ [] → ⊥
no_turns x zero ts some is = omega arith
no_turns x (suc m) ts some is = cc

block_of : (a b : Block) → a.cpu ≡ b.cpu → a.count ≡ b.count → a ≡ b
block_of a b cpu count = λ i. record { cpu = cpu i; count = count i }

same : (before other : Option Block) (all bs : List Block)
    → list_all (λ block. nat_lt 0 block.count) all ≡ true → is_merged_after before all ≡ true
    → list_all (λ block. nat_lt 0 block.count) bs ≡ true → is_merged_after other bs ≡ true
    → turns all ≡ turns bs → all ≡ bs
same before other [] [] counted merged counted_b merged_b is = refl
same before other [] (b ∷ bs) counted merged counted_b merged_b is =
    absurd (no_turns b.cpu b.count (turns bs) (grind arith) (sym (turns_first b bs) ∙ sym is ∙ turns_none))
same before other (a ∷ more) [] counted merged counted_b merged_b is =
    absurd (no_turns a.cpu a.count (turns more) (grind arith) (sym (turns_first a more) ∙ is ∙ turns_none))
same before other (a ∷ more) (b ∷ bs) counted merged counted_b merged_b is =
    let both : replicate a.count a.cpu ++ turns more ≡ replicate b.count b.cpu ++ turns bs = sym (turns_first a more) ∙ is ∙ turns_first b bs in
    let cpu : a.cpu ≡ b.cpu = heads a.cpu b.cpu a.count b.count (turns more) (turns bs) (grind arith) (grind arith) both in
    let begins = starts a more before counted merged in
    let begins_b : is_first (turns bs) a.cpu ≡ false = subst (λ c. is_first (turns bs) c ≡ false) (sym cpu) (starts b bs other counted_b merged_b) in
    let run = runs a.cpu a.count b.count (turns more) (turns bs) begins begins_b (subst (λ c. replicate a.count a.cpu ++ turns more ≡ replicate b.count c ++ turns bs) (sym cpu) both) in
    let one = block_of a b cpu run.0 in
    let rest = same (Some a) (Some b) more bs (grind arith) (grind arith) (grind arith) (grind arith) run.1 in
    λ i. one i ∷ rest i

pub one_order : (a b : List Block) → IsOrder a → IsOrder b → turns a ≡ turns b → a ≡ b
one_order a b is is_b turn = same None None a b is.counted is.merged is_b.counted is_b.merged turn

-- AN ORDER OF TURNS

merged_of_cpu : (a b : Block) (bs : List Block) → a.cpu ≡ b.cpu → is_merged_after (Some a) bs ≡ is_merged_after (Some b) bs
merged_of_cpu a b [] is = refl
merged_of_cpu a b (c ∷ cs) is = ap (λ cpu. not (cpu == c.cpu) && is_merged_after (Some c) cs) is

-- blocks of turns that fit are an order
order_of_turns : (bs : List Block) (ts : List ℕ) → IsTrue (list_all (λ block. nat_lt 0 block.count) bs) → IsTrue (is_merged_after None bs) → turns bs ≡ ts → length ts < 2 ^ 64 → HasOrder ts
order_of_turns bs ts counted merged are fits = record {
  blocks = bs;
  order = record { counted = counted; merged = merged; fits = let sum = length_turns bs in let len = ap length are in omega arith };
  said = are;
}

-- a turn before all others
alone : (t : ℕ) (bs : List Block) (ts : List ℕ) → turns bs ≡ ts → turns (record { cpu = t; count = 1 } ∷ bs) ≡ t ∷ ts
alone t bs ts are = turns_first (record { cpu = t; count = 1 }) bs ∙ ap (λ l. t ∷ l) are

before_block : (t : ℕ) (b : Block) (bs : List Block) (ts : List ℕ) → IsOrder (b ∷ bs) → turns (b ∷ bs) ≡ ts → length (t ∷ ts) < 2 ^ 64 → (is_same : Bool) → (t == b.cpu) ≡ is_same → HasOrder (t ∷ ts)
before_block t b bs ts is are fits true test =
    let cpu : t ≡ b.cpu = grind arith in
    let more : Block = record { cpu = t; count = suc b.count } in
    let turn : turns (more ∷ bs) ≡ t ∷ ts = turns_first more bs ∙ ap (λ c. t ∷ (replicate b.count c ++ turns bs)) cpu ∙ ap (λ l. t ∷ l) (sym (turns_first b bs) ∙ are) in
    order_of_turns (more ∷ bs) (t ∷ ts) (grind (arith, is.counted)) (merged_of_cpu more b bs cpu ∙ (grind (arith, is.merged))) turn fits
before_block t b bs ts is are fits false test =
    order_of_turns (record { cpu = t; count = 1 } ∷ b ∷ bs) (t ∷ ts) (grind (arith, is.counted)) (grind (arith, test, is.merged)) (alone t (b ∷ bs) ts are) fits

before_blocks : (t : ℕ) (bs : List Block) (ts : List ℕ) → IsOrder bs → turns bs ≡ ts → length (t ∷ ts) < 2 ^ 64 → HasOrder (t ∷ ts)
before_blocks t [] ts is are fits = order_of_turns (record { cpu = t; count = 1 } ∷ []) (t ∷ ts) refl refl (alone t [] ts are) fits
before_blocks t (b ∷ bs) ts is are fits = before_block t b bs ts is are fits (t == b.cpu) refl

pub has_order : (sequence : List ℕ) → length sequence < 2 ^ 64 → HasOrder sequence
has_order [] fits = order_of_turns [] [] refl refl turns_none fits
has_order (t ∷ ts) fits = let rest = has_order ts (omega arith) in before_blocks t rest.blocks ts rest.order rest.said fits
