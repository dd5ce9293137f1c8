-- A reply as a guest sees it, with the groups that it names alone, writes back the same registers.
use Rattle.std.proofs.Common.{◌≡◌, ℕ, zero, suc, ◌+◌, ◌-◌, ◌<◌, ◌≤◌, ◌⊎◌, List, [], ◌∷◌, ◌++◌, length, take, drop, get_or, ap, ap₂, sym, ◌∙◌, refl, inl, inr, arith}
use Rattle.std.specs.Prelude.{Bool, true, false, ◌==◌, ◌&&◌, nat_le, bit_and, slice_index, if◌then◌else◌}
use Rattle.std.proofs.lemmas.Bool.{cases_lt}
use Rattle.std.proofs.lemmas.List.{get_or_append_left, get_or-append-add, get_or-take, get_or-drop, length-append, length-take-le, length-drop}
use Rattle.std.proofs.lemmas.Nat.{and_assoc}
use Rattle.rv_model.specs.Registers.{Registers}
use Rattle.nova_guest.specs.Alone.{with_pc, with_low, with_high, written_back as alone_written_back}
use Rattle.nova_range.specs.Mtds.{names}
use Rattle.nova_range.specs.declared.mtd.TheConstants.Mtd.{PC, LOW, HIGH}
use Rattle.nova_model.specs.Inputs.{reply_groups, reply_word, reply_words, words_from}
use Rattle.nova_utcb.specs.Messages.{groups_in, renewed, register_back, ruled, word, written_back}
use Rattle.nova_utcb.proofs.Ruled.{is_ruled}

-- the words of the reply
length_words : (each : ℕ → ℕ) (n : ℕ) (ms : List ℕ) → length (words_from each n ms) ≡ length ms
length_words each n [] = refl
length_words each n (m ∷ ms) = ap suc (length_words each (n + 1) ms)

word_at : (each : ℕ → ℕ) (n : ℕ) (ms : List ℕ) (i d : ℕ) → i < length ms → get_or (words_from each n ms) i d ≡ each (n + i)
word_at each n [] i d h = absurd (omega (arith, h))
word_at each n (m ∷ ms) zero d h = ap each (omega arith)
word_at each n (m ∷ ms) (suc i) d h = word_at each (n + 1) ms i d (omega (arith, h)) ∙ ap each (omega arith)

message_part : (m : List ℕ) → length m ≡ 128 → length (take 33 (drop 7 m)) ≡ 33
message_part m h = length-take-le 33 (drop 7 m) (let e = length-drop 7 m in omega arith)

pub reply_size : (m : List ℕ) → length m ≡ 128 → length (reply_words m) ≡ 33
reply_size m h = length_words (reply_word m) 7 (take 33 (drop 7 m)) ∙ message_part m h

pub reply_at : (m : List ℕ) (i d : ℕ) → length m ≡ 128 → i < 33 → get_or (reply_words m) i d ≡ reply_word m (7 + i)
reply_at m i d h within = word_at (reply_word m) 7 (take 33 (drop 7 m)) i d (let e = message_part m h in omega arith)

-- registers with a group written
low_size : (x words : List ℕ) → length x ≡ 32 → length words ≡ 33 → length (take 1 x ++ (take 15 (drop 2 words) ++ drop 16 x)) ≡ 32
low_size x words h g =
    let a = length-take-le 1 x (omega arith) in
    let b = length-take-le 15 (drop 2 words) (let e = length-drop 2 words in omega arith) in
    let c = length-drop 16 x in
    length-append (take 1 x) (take 15 (drop 2 words) ++ drop 16 x) ∙ (let d = length-append (take 15 (drop 2 words)) (drop 16 x) in omega arith)

high_size : (x words : List ℕ) → length x ≡ 32 → length words ≡ 33 → length (take 16 x ++ take 16 (drop 17 words)) ≡ 32
high_size x words h g =
    let a = length-take-le 16 x (omega arith) in
    let b = length-take-le 16 (drop 17 words) (let e = length-drop 17 words in omega arith) in
    length-append (take 16 x) (take 16 (drop 17 words)) ∙ omega arith

-- those after a list
get_after : (xs ys : List ℕ) (i d : ℕ) → length xs ≤ i → get_or (xs ++ ys) i d ≡ get_or ys (i - length xs) d
get_after xs ys i d h = ap (λ (j : ℕ). get_or (xs ++ ys) j d) (omega arith) ∙ get_or-append-add xs ys (i - length xs) d

low_at : (x words : List ℕ) (i d : ℕ) → length x ≡ 32 → length words ≡ 33 → i < 32 →
    get_or (take 1 x ++ (take 15 (drop 2 words) ++ drop 16 x)) i d ≡ (if nat_le 1 i && nat_le i 15 then get_or words (i + 1) d else get_or x i d)
low_at x words i d h g within = elim (cases_lt i 1) [
  | inl first ↦ get_or_append_left (take 1 x) _ d i (omega (arith, first_size)) ∙ (get_or-take 1 x i d first ∙ grind arith)
  | inr later ↦ get_after (take 1 x) _ i d (omega (arith, first_size)) ∙ (ap (λ (n : ℕ). get_or (take 15 (drop 2 words) ++ drop 16 x) (i - n) d) first_size ∙ elim (cases_lt i 16) [
    | inl low ↦ get_or_append_left (take 15 (drop 2 words)) (drop 16 x) d (i - 1) (omega (arith, group_size))
        ∙ (get_or-take 15 (drop 2 words) (i - 1) d (omega arith) ∙ (get_or-drop 2 words (i - 1) d ∙ (let e : 2 + (i - 1) ≡ i + 1 = omega arith in ap (λ (n : ℕ). get_or words n d) e ∙ grind arith)))
    | inr high ↦ get_after (take 15 (drop 2 words)) (drop 16 x) (i - 1) d (omega (arith, group_size))
        ∙ (ap (λ (n : ℕ). get_or (drop 16 x) (i - 1 - n) d) group_size ∙ (get_or-drop 16 x (i - 1 - 15) d ∙ (let e : 16 + (i - 1 - 15) ≡ i = omega arith in ap (λ (n : ℕ). get_or x n d) e ∙ grind arith)))
  ])
]
  where
    first_size : length (take 1 x) ≡ 1
    first_size = length-take-le 1 x (omega arith)

    group_size : length (take 15 (drop 2 words)) ≡ 15
    group_size = length-take-le 15 (drop 2 words) (let e = length-drop 2 words in omega arith)

high_at : (x words : List ℕ) (i d : ℕ) → length x ≡ 32 → length words ≡ 33 → i < 32 →
    get_or (take 16 x ++ take 16 (drop 17 words)) i d ≡ (if nat_le 16 i && nat_le i 31 then get_or words (i + 1) d else get_or x i d)
high_at x words i d h g within = elim (cases_lt i 16) [
  | inl low ↦ get_or_append_left (take 16 x) _ d i (omega (arith, first_size)) ∙ (get_or-take 16 x i d low ∙ grind arith)
  | inr high ↦ get_after (take 16 x) _ i d (omega (arith, first_size)) ∙ (ap (λ (n : ℕ). get_or (take 16 (drop 17 words)) (i - n) d) first_size
      ∙ (get_or-take 16 (drop 17 words) (i - 16) d (omega arith) ∙ (get_or-drop 17 words (i - 16) d ∙ (let e : 17 + (i - 16) ≡ i + 1 = omega arith in ap (λ (n : ℕ). get_or words n d) e ∙ grind arith))))
]
  where
    first_size : length (take 16 x) ≡ 16
    first_size = length-take-le 16 x (omega arith)

low_get : (named : Bool) (words : List ℕ) (r : Registers) (i d : ℕ) → length r.x ≡ 32 → length words ≡ 33 → i < 32 →
    get_or (with_low named words r).x i d ≡ (if named && (nat_le 1 i && nat_le i 15) then get_or words (i + 1) d else get_or r.x i d)
low_get true words r i d h g within = low_at r.x words i d h g within
low_get false words r i d h g within = refl

high_get : (named : Bool) (words : List ℕ) (r : Registers) (i d : ℕ) → length r.x ≡ 32 → length words ≡ 33 → i < 32 →
    get_or (with_high named words r).x i d ≡ (if named && (nat_le 16 i && nat_le i 31) then get_or words (i + 1) d else get_or r.x i d)
high_get true words r i d h g within = high_at r.x words i d h g within
high_get false words r i d h g within = refl

low_length : (named : Bool) (words : List ℕ) (r : Registers) → length r.x ≡ 32 → length words ≡ 33 → length (with_low named words r).x ≡ 32
low_length true words r h g = low_size r.x words h g
low_length false words r h g = h

high_length : (named : Bool) (words : List ℕ) (r : Registers) → length r.x ≡ 32 → length words ≡ 33 → length (with_high named words r).x ≡ 32
high_length true words r h g = high_size r.x words h g
high_length false words r h g = h

pc_length : (named : Bool) (words : List ℕ) (r : Registers) → (with_pc named words r).x ≡ r.x
pc_length true words r = refl
pc_length false words r = refl

-- each register
low_value : (m : List ℕ) (low : Bool) (i w : ℕ) → names (groups_in m) LOW ≡ low → i < 16 →
    (if low && (nat_le 1 i && nat_le i 15) then reply_word m (8 + i) else w) ≡ register_back m i w
low_value m true i w is h = elim (cases_lt i 1) [
  | inl first ↦ grind (arith, first)
  | inr later ↦ grind (arith, later, is)
]
low_value m false i w is h = grind (arith, is)

high_value : (m : List ℕ) (high : Bool) (i w : ℕ) → names (groups_in m) HIGH ≡ high → 16 ≤ i → i < 32 →
    (if high && (nat_le 16 i && nat_le i 31) then reply_word m (8 + i) else w) ≡ register_back m i w
high_value m true i w is from to = grind (arith, is)
high_value m false i w is from to = grind (arith, is)

skip_high : (high : Bool) (i a b : ℕ) → i < 16 → (if high && (nat_le 16 i && nat_le i 31) then a else b) ≡ b
skip_high high i a b h = grind arith

skip_low : (low : Bool) (i a b : ℕ) → 16 ≤ i → (if low && (nat_le 1 i && nat_le i 15) then a else b) ≡ b
skip_low low i a b h = grind arith

reply_next : (m : List ℕ) (i d : ℕ) → length m ≡ 128 → i < 32 → get_or (reply_words m) (i + 1) d ≡ reply_word m (8 + i)
reply_next m i d size within = reply_at m (i + 1) d size (omega arith) ∙ (let e : 7 + (i + 1) ≡ 8 + i = omega arith in ap (reply_word m) e)

register_is : (m : List ℕ) (low high : Bool) (r : Registers) → names (groups_in m) LOW ≡ low → names (groups_in m) HIGH ≡ high → length m ≡ 128 → length r.x ≡ 32 →
    (i d : ℕ) → i < 32 → get_or (with_high high (reply_words m) (with_low low (reply_words m) r)).x i d ≡ register_back m i (get_or r.x i d)
register_is m low high r is_low is_high size count i d within =
    high_get high (reply_words m) (with_low low (reply_words m) r) i d (low_length low (reply_words m) r count (reply_size m size)) (reply_size m size) within
    ∙ (ap (λ (n : ℕ). if high && (nat_le 16 i && nat_le i 31) then get_or (reply_words m) (i + 1) d else n) (low_get low (reply_words m) r i d count (reply_size m size) within)
    ∙ (ap (λ (n : ℕ). if high && (nat_le 16 i && nat_le i 31) then n else (if low && (nat_le 1 i && nat_le i 15) then n else get_or r.x i d)) (reply_next m i d size within)
    ∙ by_place (cases_lt i 16)))
  where
    by_place : (i < 16) ⊎ (16 ≤ i) →
        (if high && (nat_le 16 i && nat_le i 31) then reply_word m (8 + i) else (if low && (nat_le 1 i && nat_le i 15) then reply_word m (8 + i) else get_or r.x i d))
        ≡ register_back m i (get_or r.x i d)
    by_place (inl before) = skip_high high i (reply_word m (8 + i)) _ before ∙ low_value m low i (get_or r.x i d) is_low before
    by_place (inr past) =
        ap (λ (n : ℕ). if high && (nat_le 16 i && nat_le i 31) then reply_word m (8 + i) else n) (skip_low low i (reply_word m (8 + i)) (get_or r.x i d) past)
        ∙ high_value m high i (get_or r.x i d) is_high past within

registers_are : (m : List ℕ) (low high : Bool) (r : Registers) → names (groups_in m) LOW ≡ low → names (groups_in m) HIGH ≡ high → length m ≡ 128 → length r.x ≡ 32 →
    (with_high high (reply_words m) (with_low low (reply_words m) r)).x ≡ ruled (register_back m) r.x
registers_are m low high r is_low is_high size count =
    is_ruled (register_back m) r.x (with_high high (reply_words m) (with_low low (reply_words m) r)).x
    (high_length high (reply_words m) (with_low low (reply_words m) r) (low_length low (reply_words m) r count (reply_size m size)) (reply_size m size) ∙ sym count)
    (λ i d within. register_is m low high r is_low is_high size count i d (omega arith))

-- pc
first_word : (each : ℕ → ℕ) (n : ℕ) (ms : List ℕ) → 0 < length ms → slice_index (words_from each n ms) 0 ≡ each n
first_word each n [] h = absurd (omega (arith, h))
first_word each n (m ∷ ms) h = refl

pc_is : (m : List ℕ) (named : Bool) (r : Registers) → names (groups_in m) PC ≡ named → length m ≡ 128 → (with_pc named (reply_words m) r).pc ≡ renewed m PC 7 r.pc
pc_is m false r is size = sym (rw is refl)
pc_is m true r is size =
    first_word (reply_word m) 7 (take 33 (drop 7 m)) (omega (arith, message_part m size)) ∙ (rw is refl)

-- a group is named in the reply where it is in the message
pub group_kept : (m : List ℕ) (bits : ℕ) → bit_and 14 bits ≡ bits → (bit_and (bit_and (word m 4) 14) bits == bits) ≡ (bit_and (word m 4) bits == bits)
group_kept m bits h = ap (λ (n : ℕ). n == bits) (and_assoc bits (word m 4) 14 ∙ ap (bit_and (word m 4)) h)

abbrev pc_of : List ℕ → Registers → Registers
pc_of m r = with_pc (names (groups_in m) PC) (reply_words m) r

back_named : (m : List ℕ) (r : Registers) → length m ≡ 128 → length r.x ≡ 32 →
    with_high (names (groups_in m) HIGH) (reply_words m) (with_low (names (groups_in m) LOW) (reply_words m) (pc_of m r)) ≡ written_back m r
unfolding written_back
back_named m r size count =
    let same = pc_length (names (groups_in m) PC) (reply_words m) r in
    ap₂ (λ (pc : ℕ) (x : List ℕ). record { pc = pc; x = x })
    (high_pc (names (groups_in m) HIGH) (names (groups_in m) LOW) ∙ pc_is m (names (groups_in m) PC) r refl size)
    (registers_are m (names (groups_in m) LOW) (names (groups_in m) HIGH) (pc_of m r) refl refl size (ap length same ∙ count) ∙ ap (ruled (register_back m)) same)
  where
    high_pc : (high low : Bool) → (with_high high (reply_words m) (with_low low (reply_words m) (pc_of m r))).pc ≡ (pc_of m r).pc
    high_pc true true = refl
    high_pc true false = refl
    high_pc false true = refl
    high_pc false false = refl

pub back_same : (m : List ℕ) (r : Registers) → length m ≡ 128 → length r.x ≡ 32 → alone_written_back (reply_groups m) (reply_words m) r ≡ written_back m r
back_same m r size count =
    ap (λ (t : Bool). with_high t (reply_words m) (with_low (names (reply_groups m) LOW) (reply_words m) (with_pc (names (reply_groups m) PC) (reply_words m) r))) (group_kept m 8 refl)
    ∙ (ap (λ (t : Bool). with_high (names (groups_in m) HIGH) (reply_words m) (with_low t (reply_words m) (with_pc (names (reply_groups m) PC) (reply_words m) r))) (group_kept m 4 refl)
    ∙ (ap (λ (t : Bool). with_high (names (groups_in m) HIGH) (reply_words m) (with_low (names (groups_in m) LOW) (reply_words m) (with_pc t (reply_words m) r))) (group_kept m 2 refl)
    ∙ back_named m r size count))
