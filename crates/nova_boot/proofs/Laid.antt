-- Bytes laid into RAM lie one after another.
use Rattle.std.proofs.Common.{◌≡◌, ℕ, zero, suc, ◌+◌, ◌*◌, ◌/◌, ◌%◌, ◌^◌, ◌<◌, ◌≤◌, ◌⊎◌, ◌≢◌, List, [], ◌∷◌, ◌++◌, length, take, drop, get_or, slice_get, Some, refl, ap, sym, ◌∙◌, subst, inl, inr, arith}
use Rattle.std.specs.Prelude.{slice_index, Option}
use Rattle.std.proofs.lemmas.Bool.{cases_eq, cases_lt}
use Rattle.std.proofs.lemmas.List.{length-set, length-append, length-take-le, length-drop}
use Rattle.std.proofs.lemmas.List.Elements.{All-set}
use Rattle.std.proofs.lemmas.Option.{slice_get-get_or}
use Rattle.byteorder.specs.Endian.{little_bytes}
use Rattle.nova_model.specs.Boot.{laid}
use Rattle.nova_model.specs.Memory.{Memory, read, written, written_in}
use Rattle.nova_guest.specs.Frames.{replaced}
use Rattle.nova_frames.specs.Store.{AreWhole, AreApart}
use Rattle.nova_memory.proofs.Remembered.{LeavesOthers}
use Rattle.nova_boot.specs.Laid.{byte_at, IsLaid}

-- what loads give of stores
abbrev pub GivesStored : Type 0
GivesStored = (m : Memory) (frame offset width value : ℕ) → AreWhole m.ram → frame < length m.ram → offset + width ≤ 4096 →
    read (written m frame offset width value) frame offset width ≡ value % 256 ^ width

-- two addresses are two places
apart : (a other : ℕ) → other ≢ a → AreApart (a / 4096) (a % 4096) 1 (other / 4096) (other % 4096) 1
apart a other ne = by_frame (cases_eq (other / 4096) (a / 4096))
  where
    by_order : other / 4096 ≡ a / 4096 → (other < a) ⊎ (a ≤ other) → (other % 4096 + 1 ≤ a % 4096) ⊎ (a % 4096 + 1 ≤ other % 4096)
    by_order same (inl before) = inl (omega arith)
    by_order same (inr after) = inr (omega (arith, ne))

    by_frame : (other / 4096 ≡ a / 4096) ⊎ (other / 4096 ≢ a / 4096) → AreApart (a / 4096) (a % 4096) 1 (other / 4096) (other % 4096) 1
    by_frame (inl same) = inr (by_order same (cases_lt other a))
    by_frame (inr two) = inl two

-- one byte in its place

put : Memory → ℕ → ℕ → Memory
put m a b = written m (a / 4096) (a % 4096) 1 b

length-replaced : (bytes : List ℕ) (offset b : ℕ) → offset + 1 ≤ length bytes → length (replaced bytes offset (little_bytes 1 b)) ≡ length bytes
length-replaced bytes offset b within =
    length-append (take offset bytes) (little_bytes 1 b ++ drop (offset + 1) bytes)
    ∙ omega (arith, length-take-le offset bytes (omega arith), length-append (little_bytes 1 b) (drop (offset + 1) bytes), length-drop (offset + 1) bytes)

ram-put : (m : Memory) (a b : ℕ) → AreWhole m.ram → a < 4096 * length m.ram → (AreWhole (put m a b).ram) × (length (put m a b).ram ≡ length m.ram)
unfolding put
ram-put m a b whole below =
    let frame = a / 4096 in
    let bytes = get_or m.ram frame [] in
    let there : frame < length m.ram = omega arith in
    let found : slice_get m.ram frame ≡ Some bytes = slice_get-get_or m.ram frame [] there in
    let size : length bytes ≡ 4096 = whole frame [] there in
    let new : length (replaced bytes (a % 4096) (little_bytes 1 b)) ≡ 4096 = length-replaced bytes (a % 4096) b (omega arith) ∙ size in
    subst (λ (o : Option (List ℕ)). (AreWhole (written_in m o frame (a % 4096) 1 b).ram) × (length (written_in m o frame (a % 4096) 1 b).ram ≡ length m.ram)) (sym found)
    (All-set (λ (x : List ℕ). length x ≡ 4096) m.ram frame (replaced bytes (a % 4096) (little_bytes 1 b)) new whole, length-set m.ram frame _)

byte-put_same : GivesStored → (m : Memory) (a b : ℕ) → AreWhole m.ram → a < 4096 * length m.ram → byte_at (put m a b) a ≡ b % 256
unfolding put
byte-put_same stored m a b whole below = stored m (a / 4096) (a % 4096) 1 b whole (omega arith) (omega arith)

byte-put_other : LeavesOthers → (m : Memory) (a b other : ℕ) → AreWhole m.ram → a < 4096 * length m.ram → other ≢ a → byte_at (put m a b) other ≡ byte_at m other
unfolding put
byte-put_other leaves m a b other whole below ne =
    leaves m (a / 4096) (a % 4096) 1 b (other / 4096) (other % 4096) 1 whole (omega arith) (omega arith) (apart a other ne)

-- laying keeps the frames whole, and their number
pub laid_whole : (m : Memory) (address : ℕ) (bytes : List ℕ) → AreWhole m.ram → address + length bytes ≤ 4096 * length m.ram → (AreWhole (laid m address bytes).ram) × (length (laid m address bytes).ram ≡ length m.ram)
unfolding put
laid_whole m address [] whole fits = (whole, refl)
laid_whole m address (b ∷ bs) whole fits =
    let one = ram-put m address b whole (omega arith) in
    let rest = laid_whole (put m address b) (address + 1) bs one.0 (let same = one.1 in omega arith) in
    (rest.0, rest.1 ∙ one.1)

-- one after another

pub laid_there : GivesStored → LeavesOthers → (m : Memory) (address : ℕ) (bytes : List ℕ) → AreWhole m.ram → address + length bytes ≤ 4096 * length m.ram → IsLaid m address bytes (laid m address bytes)
unfolding put
laid_there stored leaves m address [] whole fits = record { laid = λ j below. absurd (omega (arith, below)); others = λ other away. refl }
laid_there stored leaves m address (b ∷ bs) whole fits =
    let first : address < 4096 * length m.ram = omega arith in
    let ram = ram-put m address b whole first in
    let rest = laid_there stored leaves (put m address b) (address + 1) bs ram.0 (let same = ram.1 in omega arith) in record {
      laid = λ j below. by_place j below rest;
      others = λ other away. rest.others other (by_side other away) ∙ byte-put_other leaves m address b other whole first (is_away other away);
    }
  where
    is_away : (other : ℕ) → (other < address) ⊎ (address + length (b ∷ bs) ≤ other) → other ≢ address
    is_away other (inl before) same = omega (arith, before, same)
    is_away other (inr after) same = omega (arith, after, same)

    by_side : (other : ℕ) → (other < address) ⊎ (address + length (b ∷ bs) ≤ other) → (other < address + 1) ⊎ ((address + 1) + length bs ≤ other)
    by_side other (inl before) = inl (omega arith)
    by_side other (inr after) = inr (omega arith)

    by_place : (j : ℕ) → j < length (b ∷ bs) → IsLaid (put m address b) (address + 1) bs (laid (put m address b) (address + 1) bs) →
        byte_at (laid (put m address b) (address + 1) bs) (address + j) ≡ slice_index (b ∷ bs) j % 256
    by_place zero below rest =
        let first : address < 4096 * length m.ram = omega arith in
        let here : address + 0 ≡ address = omega arith in
        ap (byte_at (laid (put m address b) (address + 1) bs)) here ∙ rest.others address (inl (omega arith)) ∙ byte-put_same stored m address b whole first
    by_place (suc i) below rest =
        let next : address + suc i ≡ (address + 1) + i = omega arith in
        ap (byte_at (laid (put m address b) (address + 1) bs)) next ∙ rest.laid i (omega (arith, below))
