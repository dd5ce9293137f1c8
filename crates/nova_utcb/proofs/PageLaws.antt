-- Loads and stores, byte by byte.
use Rattle.std.proofs.Common.{◌≡◌, ◌≢◌, ◌<◌, ◌≤◌, ◌⊎◌, inl, inr, ℕ, zero, suc, ◌+◌, ◌-◌, ◌*◌, ◌/◌, ◌%◌, ◌^◌, ◌&&◌, nat_le, nat_lt, List, slice_set, if◌then◌else◌, true, false, Bool, refl, sym, ap, ap₂, ◌∙◌, subst, arith}
use Rattle.std.proofs.lemmas.List.{get_or-set_same, get_or-set_other, length-set}
use Rattle.std.proofs.lemmas.Bool.{cases_eq}
use Rattle.std.proofs.lemmas.Bool.Decides.{nat_tests}
use Rattle.nova_utcb.specs.Messages.{IsMessage, word, loaded, stored, with_bytes, byte_at, with_item, item_at, range_place, second_place, counts_of}
use Rattle.nova_utcb.specs.Pages.{IsWidth, IsAccess, byte_of, number_from}
use Rattle.nova_utcb.proofs.Pages.{word_fits}
use Rattle.nova_utcb.proofs.ExitLaws.{set_message}

-- A byte of a word with bytes that were put.
abbrev put_byte : ℕ → ℕ → ℕ → ℕ → ℕ → ℕ
put_byte w at width v b = if nat_le at b && nat_lt b (at + width) then byte_of v (b - at) else byte_of w b

single : (w at v b : ℕ) → at < 4 → b < 4 → byte_of (with_bytes w at 1 v) b ≡ put_byte w at 1 v b
single w zero v zero x y = omega arith
single w zero v (suc zero) x y = omega arith
single w zero v (suc (suc zero)) x y = omega arith
single w zero v (suc (suc (suc zero))) x y = omega arith
single w (suc zero) v zero x y = omega arith
single w (suc zero) v (suc zero) x y = omega arith
single w (suc zero) v (suc (suc zero)) x y = omega arith
single w (suc zero) v (suc (suc (suc zero))) x y = omega arith
single w (suc (suc zero)) v zero x y = omega arith
single w (suc (suc zero)) v (suc zero) x y = omega arith
single w (suc (suc zero)) v (suc (suc zero)) x y = omega arith
single w (suc (suc zero)) v (suc (suc (suc zero))) x y = omega arith
single w (suc (suc (suc zero))) v zero x y = omega arith
single w (suc (suc (suc zero))) v (suc zero) x y = omega arith
single w (suc (suc (suc zero))) v (suc (suc zero)) x y = omega arith
single w (suc (suc (suc zero))) v (suc (suc (suc zero))) x y = omega arith
single w (suc (suc (suc (suc at)))) v b x y = absurd (omega arith)
single w at v (suc (suc (suc (suc b)))) x y = absurd (omega arith)

double : (w at v b : ℕ) → at < 3 → at % 2 ≡ 0 → b < 4 → byte_of (with_bytes w at 2 v) b ≡ put_byte w at 2 v b
double w zero v zero x e y = omega arith
double w zero v (suc zero) x e y = omega arith
double w zero v (suc (suc zero)) x e y = omega arith
double w zero v (suc (suc (suc zero))) x e y = omega arith
double w (suc zero) v b x e y = absurd (omega arith)
double w (suc (suc zero)) v zero x e y = omega arith
double w (suc (suc zero)) v (suc zero) x e y = omega arith
double w (suc (suc zero)) v (suc (suc zero)) x e y = omega arith
double w (suc (suc zero)) v (suc (suc (suc zero))) x e y = omega arith
double w (suc (suc (suc at))) v b x e y = absurd (omega arith)
double w at v (suc (suc (suc (suc b)))) x e y = absurd (omega arith)

four : (w at v b : ℕ) → at < 1 → b < 4 → byte_of (with_bytes w at 4 v) b ≡ put_byte w at 4 v b
four w zero v zero x y = omega arith
four w zero v (suc zero) x y = omega arith
four w zero v (suc (suc zero)) x y = omega arith
four w zero v (suc (suc (suc zero))) x y = omega arith
four w (suc at) v b x y = absurd (omega arith)
four w at v (suc (suc (suc (suc b)))) x y = absurd (omega arith)

put : (w at width v b : ℕ) → IsWidth width → at < 4 → at % width ≡ 0 → b < 4 → byte_of (with_bytes w at width v) b ≡ put_byte w at width v b
put w at width v b (inl e) x a y = subst (λ n. byte_of (with_bytes w at n v) b ≡ put_byte w at n v b) (sym e) (single w at v b x y)
put w at width v b (inr (inl e)) x a y =
    subst (λ n. byte_of (with_bytes w at n v) b ≡ put_byte w at n v b) (sym e)
    (let half = subst (λ n. at % n ≡ 0) e a in double w at v b (omega (arith, half, x)) half y)
put w at width v b (inr (inr e)) x a y =
    subst (λ n. byte_of (with_bytes w at n v) b ≡ put_byte w at n v b) (sym e)
    (let whole = subst (λ n. at % n ≡ 0) e a in four w at v b (omega (arith, whole, x)) y)

-- Places of bytes
place : (offset width : ℕ) → IsAccess offset width → (offset % 4 % width ≡ 0) × (offset % 4 + width ≤ 4)
place offset width is = by is.wide where
  by : IsWidth width → (offset % 4 % width ≡ 0) × (offset % 4 + width ≤ 4)
  by (inl e) = subst (λ n. (offset % 4 % n ≡ 0) × (offset % 4 + n ≤ 4)) (sym e) (omega arith, omega arith)
  by (inr (inl e)) =
      let a = subst (λ n. offset % n ≡ 0) e is.aligned in
      subst (λ n. (offset % 4 % n ≡ 0) × (offset % 4 + n ≤ 4)) (sym e) (omega (arith, a), omega (arith, a))
  by (inr (inr e)) =
      let a = subst (λ n. offset % n ≡ 0) e is.aligned in
      subst (λ n. (offset % 4 % n ≡ 0) × (offset % 4 + n ≤ 4)) (sym e) (omega (arith, a), omega (arith, a))

-- a byte of the word that a store goes to
near : (m : List ℕ) (offset width v j : ℕ) → IsMessage m → IsAccess offset width → j / 4 ≡ offset / 4 → byte_at (stored m offset width v) j ≡ put_byte (word m (offset / 4)) (offset % 4) width v (j % 4)
near m offset width v j is access same =
    let w = with_bytes (word m (offset / 4)) (offset % 4) width v in
    let at = word m (offset / 4) in
    ap (λ i. byte_of (word (stored m offset width v) i) (j % 4)) same
    ∙ ap (λ (x : ℕ). byte_of x (j % 4)) (get_or-set_same m (offset / 4) w 0 (omega (arith, is.size, access.within)))
    ∙ put at (offset % 4) width v (j % 4) access.wide (omega arith) (place offset width access).0 (omega arith)

pub own : (m : List ℕ) (offset width v j : ℕ) → IsMessage m → IsAccess offset width → offset ≤ j → j < offset + width → byte_at (stored m offset width v) j ≡ byte_of v (j - offset)
own m offset width v j is access from to =
    let p = place offset width access in
    let same : j / 4 ≡ offset / 4 = omega (arith, p.1, from, to) in
    let at : j % 4 - offset % 4 ≡ j - offset = omega (arith, p.1, from, to) in
    near m offset width v j is access same
    ∙ taken (nat_le (offset % 4) (j % 4) && nat_lt (j % 4) (offset % 4 + width)) (grind (arith, nat_tests, p.1, from, to, same))
    ∙ ap (byte_of v) at
  where
    taken : (t : Bool) → t ≡ true → (if t then byte_of v (j % 4 - offset % 4) else byte_of (word m (offset / 4)) (j % 4)) ≡ byte_of v (j % 4 - offset % 4)
    taken true e = refl
    taken false e = absurd cc

pub others : (m : List ℕ) (offset width v j : ℕ) → IsMessage m → IsAccess offset width → (j < offset) ⊎ (offset + width ≤ j) → byte_at (stored m offset width v) j ≡ byte_at m j
others m offset width v j is access out = by (cases_eq (j / 4) (offset / 4)) where
  p : (offset % 4 % width ≡ 0) × (offset % 4 + width ≤ 4)
  p = place offset width access

  left : (t : Bool) → t ≡ false → (if t then byte_of v (j % 4 - offset % 4) else byte_of (word m (offset / 4)) (j % 4)) ≡ byte_of (word m (offset / 4)) (j % 4)
  left false e = refl
  left true e = absurd cc

  outside : (j / 4 ≡ offset / 4) → (j < offset) ⊎ (offset + width ≤ j) → (nat_le (offset % 4) (j % 4) && nat_lt (j % 4) (offset % 4 + width)) ≡ false
  outside same (inl x) = grind (arith, nat_tests, p.1, x, same)
  outside same (inr x) = grind (arith, nat_tests, p.1, x, same)

  by : (j / 4 ≡ offset / 4) ⊎ (j / 4 ≢ offset / 4) → byte_at (stored m offset width v) j ≡ byte_at m j
  by (inl same) =
      near m offset width v j is access same
      ∙ left (nat_le (offset % 4) (j % 4) && nat_lt (j % 4) (offset % 4 + width)) (outside same out)
      ∙ ap (λ i. byte_of (word m i) (j % 4)) (sym same)
  by (inr other) = ap (λ (x : ℕ). byte_of x (j % 4)) (get_or-set_other m (offset / 4) (j / 4) (with_bytes (word m (offset / 4)) (offset % 4) width v) 0 other)

-- The number that the bytes of a word make.
halves : (w at : ℕ) → at < 4 → at % 2 ≡ 0 → w / 2 ^ (8 * at) % 2 ^ 16 ≡ byte_of w at + 2 ^ 8 * (byte_of w (at + 1) + 2 ^ 8 * 0)
halves w zero a e = omega arith
halves w (suc zero) a e = absurd (omega arith)
halves w (suc (suc zero)) a e = omega arith
halves w (suc (suc (suc zero))) a e = absurd (omega arith)
halves w (suc (suc (suc (suc at)))) a e = absurd (omega arith)

-- a byte within the word of an offset
further : (m : List ℕ) (offset i : ℕ) → offset % 4 + i < 4 → byte_at m (offset + i) ≡ byte_of (word m (offset / 4)) (offset % 4 + i)
further m offset i within =
    let same : (offset + i) / 4 ≡ offset / 4 = omega (arith, within) in
    let at : (offset + i) % 4 ≡ offset % 4 + i = omega (arith, within) in
    ap₂ (λ a b. byte_of (word m a) b) same at

load_two : (m : List ℕ) (offset : ℕ) → offset % 2 ≡ 0 → loaded m offset 2 ≡ number_from m offset 2
load_two m offset e =
    let x = halves (word m (offset / 4)) (offset % 4) (omega arith) (omega (arith, e)) in
    let y = further m offset 1 (omega (arith, e)) in
    x ∙ ap (λ (b : ℕ). byte_at m offset + 2 ^ 8 * (b + 2 ^ 8 * 0)) (sym y)

load_four : (m : List ℕ) (offset : ℕ) → IsMessage m → offset % 4 ≡ 0 → loaded m offset 4 ≡ number_from m offset 4
load_four m offset is e =
    let b₀ = further m offset 0 (omega (arith, e)) in
    let b₁ = further m offset 1 (omega (arith, e)) in
    let b₂ = further m offset 2 (omega (arith, e)) in
    let b₃ = further m offset 3 (omega (arith, e)) in
    let small = is.words (offset / 4) in
    by_bytes (word m (offset / 4)) (offset % 4) e small
    ∙ ap₂ (λ (x y : ℕ). byte_at m offset + 2 ^ 8 * (x + 2 ^ 8 * y)) (sym b₁)
    (ap₂ (λ (x y : ℕ). x + 2 ^ 8 * (y + 2 ^ 8 * 0)) (sym b₂ ∙ ap (byte_at m) (omega arith)) (sym b₃ ∙ ap (byte_at m) (omega arith)))
  where
    by_bytes : (w at : ℕ) → at ≡ 0 → w < 2 ^ 32 → w / 2 ^ (8 * at) % 2 ^ 32 ≡ byte_of w at + 2 ^ 8 * (byte_of w (at + 1) + 2 ^ 8 * (byte_of w (at + 2) + 2 ^ 8 * (byte_of w (at + 3) + 2 ^ 8 * 0)))
    by_bytes w zero e small = omega arith
    by_bytes w (suc at) e small = absurd (omega arith)

pub loads : (m : List ℕ) (offset width : ℕ) → IsMessage m → IsAccess offset width → loaded m offset width ≡ number_from m offset width
loads m offset width is access = by access.wide where
  by : IsWidth width → loaded m offset width ≡ number_from m offset width
  by (inl e) = subst (λ n. loaded m offset n ≡ number_from m offset n) (sym e) (omega arith)
  by (inr (inl e)) = subst (λ n. loaded m offset n ≡ number_from m offset n) (sym e) (load_two m offset (subst (λ n. offset % n ≡ 0) e access.aligned))
  by (inr (inr e)) = subst (λ n. loaded m offset n ≡ number_from m offset n) (sym e) (load_four m offset is (subst (λ n. offset % n ≡ 0) e access.aligned))

pub store_message : (m : List ℕ) (offset width v : ℕ) → IsMessage m → IsAccess offset width → IsMessage (stored m offset width v)
store_message m offset width v is access =
    set_message m (offset / 4) (with_bytes (word m (offset / 4)) (offset % 4) width v) is
    (word_fits (word m (offset / 4)) (offset % 4) width v (is.words (offset / 4)) access.wide (place offset width access).1)

pub item_message : (m : List ℕ) (i first second : ℕ) → IsMessage m → first < 2 ^ 32 → second < 2 ^ 32 → IsMessage (with_item m i first second)
item_message m i first second is a b =
    set_message (slice_set m (range_place i) first) (second_place i) second (set_message m (range_place i) first is a) b

-- Items
pub set_back : (m : List ℕ) (i first second : ℕ) → IsMessage m → i < 62 → item_at (with_item m i first second) i ≡ (first, second)
set_back m i first second is within =
    let between = slice_set m (range_place i) first in
    ap₂ (λ a b. (a, b))
    (get_or-set_other between (second_place i) (range_place i) second 0 (λ e. omega (arith, e, within)) ∙ get_or-set_same m (range_place i) first 0 (omega (arith, is.size, within)))
    (get_or-set_same between (second_place i) second 0 (omega (arith, is.size, within, length-set m (range_place i) first)))

pub stays : (m : List ℕ) (i first second n : ℕ) → n ≢ range_place i → n ≢ second_place i → word (with_item m i first second) n ≡ word m n
stays m i first second n a b =
    get_or-set_other (slice_set m (range_place i) first) (second_place i) n second 0 b ∙ get_or-set_other m (range_place i) n first 0 a

pub item_stays : (m : List ℕ) (i j first second : ℕ) → i < 62 → j < 62 → i ≢ j → item_at (with_item m i first second) j ≡ item_at m j
item_stays m i j first second a b apart =
    ap₂ (λ x y. (x, y))
    (stays m i first second (range_place j) (λ e. apart (omega (arith, e, a, b))) (λ e. omega (arith, e, a, b)))
    (stays m i first second (second_place j) (λ e. omega (arith, e, a, b)) (λ e. apart (omega (arith, e, a, b))))

pub counts_stay : (m : List ℕ) (i first second : ℕ) → i < 62 → counts_of (with_item m i first second) ≡ counts_of m
counts_stay m i first second a = let same = stays m i first second 0 (λ e. omega (arith, e, a)) (λ e. omega (arith, e, a)) in grind (arith, same)
