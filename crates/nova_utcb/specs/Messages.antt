-- The message words of a thread. Word 0 has two counts: untyped words in bits 0 to 15, and items in bits 16 to 31. Word 1 is the
-- window of translations and word 2 that of delegations. Word 3 is free. The data words are 4 to 127: untyped words lie from word 4
-- on, and items of two words each from word 127 down.
use Rattle.std.specs.Prelude.{◌≡◌, ◌<◌, ℕ, suc, ◌+◌, ◌-◌, ◌*◌, ◌/◌, ◌%◌, ◌^◌, ◌==◌, ◌&&◌, ◌||◌, Bool, nat_le, nat_lt, if◌then◌else◌, List, [], ◌∷◌, length, slice_index, slice_set, Result, Ok, Err}
use Rattle.rv_model.specs.Registers.{Registers, reg}
use Rattle.nova_range.specs.Mtds.{names}
use Rattle.nova_range.specs.declared.mtd.Mtd.{Mtd}
use Rattle.nova_range.specs.declared.mtd.TheConstants.Mtd.{QUAL, PC, LOW, HIGH}
use Rattle.nova_utcb.specs.declared.counts.BadCounts.{BadCounts}

-- a word of a message by its number
abbrev pub word : List ℕ → ℕ → ℕ
word m i = slice_index m i

-- what message words are: 128 numbers below 2^32
pub record IsMessage (m : List ℕ) : Type 0 where
  pub size : length m ≡ 128
  pub words : (i : ℕ) → word m i < 2 ^ 32

-- A list in which each word becomes what a rule gives for its number and itself.
abbrev pub ruled_from : (ℕ → ℕ → ℕ) → ℕ → List ℕ → List ℕ
ruled_from rule n [] = []
ruled_from rule n (w ∷ ws) = rule n w ∷ ruled_from rule (suc n) ws

abbrev pub ruled : (ℕ → ℕ → ℕ) → List ℕ → List ℕ
ruled rule ws = ruled_from rule 0 ws

-- Counts

abbrev pub untyped : List ℕ → ℕ
untyped m = word m 0 % 2 ^ 16

abbrev pub items : List ℕ → ℕ
items m = word m 0 / 2 ^ 16

-- the data words hold what is counted
abbrev pub has_counts : List ℕ → Bool
has_counts m = nat_le (untyped m + 2 * items m) 124

abbrev pub counts_of : List ℕ → Result (ℕ × ℕ) BadCounts
counts_of m = if has_counts m then Ok (untyped m, items m) else Err (record {})

-- Items

-- where an item has its range word, and where its second word
abbrev pub range_place : ℕ → ℕ
range_place i = 126 - 2 * i

abbrev pub second_place : ℕ → ℕ
second_place i = 127 - 2 * i

abbrev pub item_at : List ℕ → ℕ → ℕ × ℕ
item_at m i = (word m (range_place i), word m (second_place i))

-- how many items a message has; a message that counts more words than there are has none
abbrev pub counted_items : List ℕ → ℕ
counted_items m = if has_counts m then items m else 0

abbrev pub has_items : List ℕ → Bool
has_items m = nat_lt 0 (items m)

-- the words with an item put in its place
abbrev pub with_item : List ℕ → ℕ → ℕ → ℕ → List ℕ
with_item m i first second = slice_set (slice_set m (range_place i) first) (second_place i) second

-- the windows that items go to, as range words
abbrev pub translation_window : List ℕ → ℕ
translation_window m = word m 1

abbrev pub delegation_window : List ℕ → ℕ
delegation_window m = word m 2

-- Copying

-- A message gives on its counts and the untyped words that they count.
abbrev pub is_given : List ℕ → ℕ → Bool
is_given m i = (i == 0) || (nat_le 4 i && nat_lt i (4 + untyped m))

-- a message copied over other words: those that it gives on are its own, and all others stay
unfoldable pub copied : List ℕ → List ℕ → List ℕ
copied from to = ruled (λ i stays. if is_given from i then word from i else stays) to

-- Exits

-- a word of a group: 0 where the group isn't named
abbrev pub filled : Mtd → Mtd → ℕ → ℕ
filled mtd group content = if names mtd group then content else 0

-- The exit message: each word by its number, with its group. All others stay.
abbrev pub exit_word : Mtd → ℕ → ℕ → Registers → ℕ → ℕ → ℕ
exit_word mtd q0 q1 r i stays =
    if i == 0 then 36
    else if i == 4 then mtd.0
    else if i == 5 then filled mtd QUAL q0
    else if i == 6 then filled mtd QUAL q1
    else if i == 7 then filled mtd PC r.pc
    else if i == 8 then 0
    else if nat_le 9 i && nat_le i 23 then filled mtd LOW (reg r (i - 8))
    else if nat_le 24 i && nat_le i 39 then filled mtd HIGH (reg r (i - 8))
    else stays

unfoldable pub exited : Mtd → ℕ → ℕ → Registers → List ℕ → List ℕ
exited mtd q0 q1 r m = ruled (exit_word mtd q0 q1 r) m

-- Writing back

-- the groups that a message names, in word 4
abbrev pub groups_in : List ℕ → Mtd
groups_in m = record { 0 = word m 4 }

-- what is written back where a group is named, and else what stays
abbrev pub renewed : List ℕ → Mtd → ℕ → ℕ → ℕ
renewed m group n stays = if names (groups_in m) group then word m n else stays

-- registers by their numbers: each has its word as in an exit message, and x0 stays
abbrev pub register_back : List ℕ → ℕ → ℕ → ℕ
register_back m i stays =
    if nat_le 1 i && nat_le i 15 then renewed m LOW (8 + i) stays
    else if nat_le 16 i && nat_le i 31 then renewed m HIGH (8 + i) stays
    else stays

unfoldable pub written_back : List ℕ → Registers → Registers
written_back m r = record { pc = renewed m PC 7 r.pc; x = ruled (register_back m) r.x }

-- The page of a thread's message words begins with them, each with its lowest byte first: byte j of it.
abbrev pub byte_at : List ℕ → ℕ → ℕ
byte_at m j = word m (j / 4) / 2 ^ (8 * (j % 4)) % 2 ^ 8

-- what a load of `width` bytes finds from an offset on; they lie within one word
abbrev pub loaded : List ℕ → ℕ → ℕ → ℕ
loaded m offset width = word m (offset / 4) / 2 ^ (8 * (offset % 4)) % 2 ^ (8 * width)

-- a word in which `width` bytes from byte `at` on are those of a value: those before it, the value, those after it
abbrev pub with_bytes : ℕ → ℕ → ℕ → ℕ → ℕ
with_bytes w at width value =
    w % 2 ^ (8 * at) + 2 ^ (8 * at) * (value % 2 ^ (8 * width)) + 2 ^ (8 * (at + width)) * (w / 2 ^ (8 * (at + width)))

-- the words after a store of the lowest bytes of a value
abbrev pub stored : List ℕ → ℕ → ℕ → ℕ → List ℕ
stored m offset width value = slice_set m (offset / 4) (with_bytes (word m (offset / 4)) (offset % 4) width value)
