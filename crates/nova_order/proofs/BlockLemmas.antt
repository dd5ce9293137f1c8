-- Blocks that are added, and a last block that grows.
use Rattle.std.proofs.Common.{◌≡◌, ℕ, ◌+◌, ◌-◌, ◌≤◌, ◌<◌, ◌^◌, Bool, true, false, not, ◌&&◌, List, [], ◌∷◌, ◌++◌, length, replicate, Option, Some, None, refl, ap, sym, subst, ◌∙◌, arith, slice_set, slice_index_or, cond, slice_get, append_assoc, length-append, nat_lt, ◌==◌}
use Rattle.std.specs.List.{last_or, list_all}
use Rattle.std.proofs.lemmas.List.{append-nil, length-replicate, replicate-append-replicate}
use Rattle.std.proofs.lemmas.List.Sums.{sum_by-cons, sum_by_push}
use Rattle.std.proofs.lemmas.List.Folds.{list_all-append}
use Rattle.std.proofs.lemmas.List.Concat.{flat_map-append}
use Rattle.nova_order.specs.Blocks.{turns, total, is_of, is_merged_after, IsOrder, BlockList, grown, added, pushed}
use Rattle.nova_order.specs.declared.block.Block.{Block}

-- the last block by its place
last_at_length : (x : Block) (xs : List Block) → slice_get (x ∷ xs) (length xs) ≡ last_or (Some x) xs
last_at_length x [] = refl
last_at_length x (y ∷ ys) = last_at_length y ys

pub last_at : (blocks : List Block) → slice_get blocks (length blocks - 1) ≡ last_or None blocks
last_at [] = refl
last_at (x ∷ xs) = let e : length (x ∷ xs) - 1 ≡ length xs = omega arith in ap (slice_get (x ∷ xs)) e ∙ last_at_length x xs

-- how many turns there are
pub length_turns : (blocks : List Block) → length (turns blocks) ≡ total blocks
unfolding turns
length_turns [] = refl
length_turns (b ∷ bs) =
    length-append (replicate b.count b.cpu) (turns bs)
    ∙ (let one = length-replicate b.count b.cpu in let more = length_turns bs in let both = sum_by-cons (λ block. block.count) b bs in omega arith)

-- a block more
pub merged_push : (before : Option Block) (bs : List Block) (b : Block) → is_merged_after before (bs ++ b ∷ []) ≡ (is_merged_after before bs && not (is_of (last_or before bs) b.cpu))
merged_push before [] b = grind arith
merged_push before (x ∷ xs) b = rw (merged_push (Some x) xs b) (grind arith)

pub total_push : (bs : List Block) (b : Block) → total (bs ++ b ∷ []) ≡ total bs + b.count
total_push bs b = sum_by_push (λ block. block.count) bs b

pub counted_push : (bs : List Block) (b : Block) → list_all (λ block. nat_lt 0 block.count) (bs ++ b ∷ []) ≡ (list_all (λ block. nat_lt 0 block.count) bs && (nat_lt 0 b.count && true))
counted_push bs b = list_all-append (λ block. nat_lt 0 block.count) bs (b ∷ [])

pub order_push : (bs : List Block) (b : Block) → IsOrder bs → 0 < b.count → total bs + b.count < 2 ^ 64 → is_of (last_or None bs) b.cpu ≡ false → IsOrder (bs ++ b ∷ [])
order_push bs b is some fits other = record {
  counted = grind (arith, counted_push bs b, is.counted);
  merged = grind (arith, merged_push None bs b, is.merged);
  fits = omega (arith, total_push bs b);
}

pub turns_push : (bs : List Block) (b : Block) → turns (bs ++ b ∷ []) ≡ turns bs ++ replicate b.count b.cpu
unfolding turns
turns_push bs b = flat_map-append (λ block. replicate block.count block.cpu) bs (b ∷ []) ∙ ap (λ ts. turns bs ++ ts) (append-nil (replicate b.count b.cpu))

-- blocks with a last one, which is set to another
pub record Ends (bs : List Block) (n : ℕ) (last : Block) : Type 0 where
  pub front : List Block
  pub are : bs ≡ front ++ last ∷ []
  pub set : (b : Block) → slice_set bs n b ≡ front ++ b ∷ []

ends_after : (x : Block) (xs : List Block) (last : Block) → last_or (Some x) xs ≡ Some last → Ends (x ∷ xs) (length xs) last
ends_after x [] last is = let same : x ≡ last = cc in record { front = []; are = ap (λ b. b ∷ []) same; set = λ b. refl }
ends_after x (y ∷ ys) last is =
    let e = ends_after y ys last is in
    record { front = x ∷ e.front; are = ap (λ bs. x ∷ bs) e.are; set = λ b. ap (λ bs. x ∷ bs) (e.set b) }

pub ends : (bs : List Block) (last : Block) → last_or None bs ≡ Some last → Ends bs (length bs - 1) last
ends [] last is = absurd cc
ends (x ∷ xs) last is = let e : length xs ≡ length (x ∷ xs) - 1 = omega arith in subst (λ n. Ends (x ∷ xs) n last) e (ends_after x xs last is)

module _ (bs : List Block) (last : Block) (count : ℕ) (is_last : last_or None bs ≡ Some last) where
  abbrev more : Block
  more = record { cpu = last.cpu; count = last.count + count }

  abbrev set : List Block
  set = slice_set bs (length bs - 1) more

  e : Ends bs (length bs - 1) last
  e = ends bs last is_last

  pub total_grown : total set ≡ total bs + count
  total_grown =
      let one = ap total (e.set more) ∙ total_push e.front more in
      let two = ap total e.are ∙ total_push e.front last in
      omega arith

  pub turns_grown : turns set ≡ turns bs ++ replicate count last.cpu
  turns_grown =
      ap turns (e.set more)
      ∙ turns_push e.front more
      ∙ ap (λ ts. turns e.front ++ ts) (sym (replicate-append-replicate last.count count last.cpu))
      ∙ sym (append_assoc (turns e.front) (replicate last.count last.cpu) (replicate count last.cpu))
      ∙ ap (λ ts. ts ++ replicate count last.cpu) (sym (ap turns e.are ∙ turns_push e.front last))

  pub order_grown : IsOrder bs → total bs + count < 2 ^ 64 → IsOrder set
  order_grown is fits =
      let was = subst IsOrder e.are is in
      let now : IsOrder (e.front ++ more ∷ []) = record {
        counted = grind (arith, counted_push e.front last, counted_push e.front more, was.counted);
        merged = merged_push None e.front more ∙ sym (merged_push None e.front last) ∙ was.merged;
        fits = omega (arith, total_grown, ap total (e.set more));
      } in
      subst IsOrder (sym (e.set more)) now

-- the last block as it was found by the length
last_after : (x : Block) (xs : List Block) (last : Block) → last ≡ slice_index_or (x ∷ xs) (length xs) last → last_or (Some x) xs ≡ Some last
last_after x [] last is = ap Some (sym is)
last_after x (y ∷ ys) last is = last_after y ys last is

pub last_is : (bs : List Block) (n : ℕ) (last : Block) → n ≡ length bs → 0 < n → last ≡ slice_index_or bs (n - 1) last → last_or None bs ≡ Some last
last_is [] n last len some is = absurd (omega arith)
last_is (x ∷ xs) n last len some is = let e : n - 1 ≡ length xs = omega arith in last_after x xs last (is ∙ ap (λ k. slice_index_or (x ∷ xs) k last) e)

pub grown_is : (bs : List Block) (spare n count : ℕ) (last : Block) → n ≡ length bs → last_or None bs ≡ Some last
    → record { blocks = slice_set bs (n - 1) (record { cpu = last.cpu; count = last.count + count }); spare = spare } ≡ grown (last_or None bs) count (record { blocks = bs; spare = spare })
grown_is bs spare n count last len is = rw is (ap (λ k. record { blocks = slice_set bs (k - 1) (record { cpu = last.cpu; count = last.count + count }); spare = spare }) len)

-- turns after all others
module _ (list : BlockList) (cpu count : ℕ) where
  turns_added : turns (list.blocks ++ record { cpu = cpu; count = count } ∷ []) ≡ turns list.blocks ++ replicate count cpu
  turns_added = turns_push list.blocks (record { cpu = cpu; count = count })

  turns_some : (last : Block) (same : Bool) → (last.cpu == cpu) ≡ same → last_or None list.blocks ≡ Some last → turns (cond same (grown (Some last) count list) (added cpu count list)).blocks ≡ turns list.blocks ++ replicate count cpu
  turns_some last true same is = let one : last.cpu ≡ cpu = grind arith in turns_grown list.blocks last count is ∙ ap (λ c. turns list.blocks ++ replicate count c) one
  turns_some last false same is = turns_added

  turns_to : (last : Option Block) → last_or None list.blocks ≡ last → turns (cond (is_of last cpu) (grown last count list) (added cpu count list)).blocks ≡ turns list.blocks ++ replicate count cpu
  turns_to None is = turns_added
  turns_to (Some last) is = turns_some last (last.cpu == cpu) refl is

  pub turns_pushed : turns (pushed cpu count list).blocks ≡ turns list.blocks ++ replicate count cpu
  turns_pushed = turns_to (last_or None list.blocks) refl

  pub total_pushed : total (pushed cpu count list).blocks ≡ total list.blocks + count
  total_pushed =
      let after = length_turns (pushed cpu count list).blocks in
      let before = length_turns list.blocks in
      let more = ap length turns_pushed ∙ length-append (turns list.blocks) (replicate count cpu) in
      let len = length-replicate count cpu in
      omega arith

  spare_to : (last : Option Block) → list.spare ≤ (cond (is_of last cpu) (grown last count list) (added cpu count list)).spare + 1
  spare_to None = omega arith
  spare_to (Some last) = spare_some (last.cpu == cpu) where
    spare_some : (same : Bool) → list.spare ≤ (cond same (grown (Some last) count list) (added cpu count list)).spare + 1
    spare_some true = omega arith
    spare_some false = omega arith

  pub spare_pushed : list.spare ≤ (pushed cpu count list).spare + 1
  spare_pushed = spare_to (last_or None list.blocks)
