-- Stores of two instructions to two frames of RAM are made in either order; and what frames have the same bytes after one.
use Rattle.std.proofs.Common.{◌≡◌, ◌≢◌, ℕ, ◌%◌, ◌-◌, ◌++◌, List, refl, sym, ap, ap₂, ◌∙◌, subst}
use Rattle.std.specs.Prelude.{IsSome, is_some, slice_get, slice_set, Option, Some, None, option_map}
use Rattle.byteorder.specs.Endian.{little_bytes}
use Rattle.rv_model.specs.Step.{Store}
use Rattle.nova_guest.specs.Frames.{frame_from, replaced}
use Rattle.nova_guest.specs.declared.page.Page.{Page}
use Rattle.nova_range.specs.Rights.{write_right}
use Rattle.nova_utcb.specs.Messages.{stored}
use Rattle.nova_model.specs.AddressSpaces.{AddressSpace, frame_for, stored_at, words_at}
use Rattle.nova_model.specs.Memory.{Memory, logged, written, written_in}
use Rattle.law_forest.specs.Effects.{memory_with, put, store_words, words_stored}
use Rattle.law_turns.proofs.Setting.{get_other, set_both, set_length, some_set}

-- the memory after a store in an address space, where there is one
abbrev pub memory_after : AddressSpace → Memory → Option Store → Memory
memory_after a m store = memory_with m (option_map (λ s. (a, s)) store)

-- each store of an instruction goes to a frame of which this holds
abbrev pub GoesTo : AddressSpace → Option Store → (ℕ → Type 0) → Type 0
GoesTo a store P = (s : Store) (frame : ℕ) → store ≡ Some s → frame_for a write_right s.address ≡ Some frame → P frame

abbrev new_bytes : Store → List ℕ → List ℕ
new_bytes s bytes = replaced bytes (s.address % 4096) (little_bytes s.width s.value)

abbrev with_bytes : Memory → ℕ → List ℕ → Memory
with_bytes m frame bytes = record m { ram = slice_set m.ram frame bytes }

-- either nothing of memory changes, or the bytes of one frame of RAM
data IsStored (a : AddressSpace) (store : Option Store) (m : Memory) : Type 0 where
  Nothing : ((n : Memory) → memory_after a n store ≡ n) → IsStored a store m
  Bytes : (s : Store) (frame : ℕ) → store ≡ Some s → frame_for a write_right s.address ≡ Some frame → (old : List ℕ) → slice_get m.ram frame ≡ Some old →
      ((n : Memory) → memory_after a n store ≡ written n frame (s.address % 4096) s.width s.value) → IsStored a store m

some_of : (o : Option (List ℕ)) → IsSome o → (x : List ℕ) × (o ≡ Some x)
some_of (Some x) h = (x, refl)
some_of None h = absurd (cc)

is_stored : (a : AddressSpace) (store : Option Store) (m : Memory) → GoesTo a store (λ frame. IsSome (slice_get m.ram frame)) → IsStored a store m
is_stored a None m goes = Nothing (λ n. refl)
is_stored a (Some s) m goes = by_frame (frame_for a write_right s.address) refl
  where
    by_frame : (o : Option ℕ) → frame_for a write_right s.address ≡ o → IsStored a (Some s) m
    by_frame None is = Nothing (λ n. ap (stored_at n s) is)
    by_frame (Some frame) is =
        let old = some_of (slice_get m.ram frame) (goes s frame refl is) in
        Bytes s frame refl is old.0 old.1 (λ n. ap (stored_at n s) is)

written_is : (m : Memory) (s : Store) (frame : ℕ) (old : List ℕ) → slice_get m.ram frame ≡ Some old → written m frame (s.address % 4096) s.width s.value ≡ with_bytes m frame (new_bytes s old)
written_is m s frame old is = ap (λ (o : Option (List ℕ)). written_in m o frame (s.address % 4096) s.width s.value) is

-- both stores, to two frames
both_written : (m : Memory) (s t : Store) (f g : ℕ) (old other : List ℕ) → g ≢ f → slice_get m.ram f ≡ Some old → slice_get m.ram g ≡ Some other →
    written (written m f (s.address % 4096) s.width s.value) g (t.address % 4096) t.width t.value ≡ with_bytes (with_bytes m f (new_bytes s old)) g (new_bytes t other)
both_written m s t f g old other apart first second =
    ap (λ (n : Memory). written n g (t.address % 4096) t.width t.value) (written_is m s f old first)
    ∙ written_is (with_bytes m f (new_bytes s old)) t g other (get_other m.ram f g (new_bytes s old) apart ∙ second)

pub stores_both : (a b : AddressSpace) (m : Memory) (store later : Option Store) → GoesTo a store (λ frame. IsSome (slice_get m.ram frame)) → GoesTo b later (λ frame. IsSome (slice_get m.ram frame)) →
    GoesTo a store (λ f. GoesTo b later (λ g. g ≢ f)) → memory_after b (memory_after a m store) later ≡ memory_after a (memory_after b m later) store
stores_both a b m store later first second apart = by_first (is_stored a store m first) (is_stored b later m second)
  where
    by_first : IsStored a store m → IsStored b later m → memory_after b (memory_after a m store) later ≡ memory_after a (memory_after b m later) store
    by_first (Nothing none) other = ap (λ (n : Memory). memory_after b n later) (none m) ∙ sym (none (memory_after b m later))
    by_first (Bytes s f is goes old at does) (Nothing none) = none (memory_after a m store) ∙ ap (λ (n : Memory). memory_after a n store) (sym (none m))
    by_first (Bytes s f is goes old at does) (Bytes t g too leads other there writes) =
        let ne : g ≢ f = apart s f is goes t g too leads in
        writes (memory_after a m store) ∙ ap (λ (n : Memory). written n g (t.address % 4096) t.width t.value) (does m)
        ∙ both_written m s t f g old other ne at there
        ∙ ap (λ (l : List (List ℕ)). record m { ram = l }) (set_both m.ram f g (new_bytes s old) (new_bytes t other) ne)
        ∙ sym (both_written m t s g f other old (λ same. ne (sym same)) there at)
        ∙ sym (does (memory_after b m later) ∙ ap (λ (n : Memory). written n f (s.address % 4096) s.width s.value) (writes m))

-- frames that it doesn't go to keep their bytes, and there are as many
pub bytes_stay : (a : AddressSpace) (m : Memory) (store : Option Store) (n : ℕ) → GoesTo a store (λ frame. IsSome (slice_get m.ram frame)) → GoesTo a store (λ frame. n ≢ frame) →
    slice_get (memory_after a m store).ram n ≡ slice_get m.ram n
bytes_stay a m store n there other = by_store (is_stored a store m there)
  where
    by_store : IsStored a store m → slice_get (memory_after a m store).ram n ≡ slice_get m.ram n
    by_store (Nothing none) = ap (λ (k : Memory). slice_get k.ram n) (none m)
    by_store (Bytes s f is goes old at does) =
        ap (λ (k : Memory). slice_get k.ram n) (does m ∙ written_is m s f old at) ∙ get_other m.ram f n (new_bytes s old) (other s f is goes)

pub frames_stay : (a : AddressSpace) (m : Memory) (store : Option Store) (n : ℕ) → GoesTo a store (λ frame. IsSome (slice_get m.ram frame)) →
    is_some (slice_get (memory_after a m store).ram n) ≡ is_some (slice_get m.ram n)
frames_stay a m store n there = by_store (is_stored a store m there)
  where
    by_store : IsStored a store m → is_some (slice_get (memory_after a m store).ram n) ≡ is_some (slice_get m.ram n)
    by_store (Nothing none) = ap (λ (k : Memory). is_some (slice_get k.ram n)) (none m)
    by_store (Bytes s f is goes old at does) =
        ap (λ (k : Memory). is_some (slice_get k.ram n)) (does m ∙ written_is m s f old at) ∙ some_set m.ram f n (new_bytes s old)

-- the pages alone tell which frame it goes to
pub same_store : (a b : AddressSpace) (m : Memory) (store : Option Store) → b.page ≡ a.page → memory_after b m store ≡ memory_after a m store
same_store a b m None same = refl
same_store a b m (Some s) same = ap (λ (page : ℕ → Option Page). stored_at m s (frame_from page write_right s.address)) same

-- MESSAGE WORDS

pub same_words : (a b : AddressSpace) (ec : ℕ) (store : Option Store) → b.words ≡ a.words → store_words b ec store ≡ store_words a ec store
same_words a b ec None same = refl
same_words a b ec (Some s) same = ap (λ (words : Option (List ℕ)). words_stored ec s (words_at (record a { words = words }) s.address)) same

-- they are its own, or none
pub data AreOwn (ec : ℕ) (o : Option (ℕ × List ℕ)) : Type 0 where
  Nobodys : o ≡ None → AreOwn ec o
  Its : (words : List ℕ) → o ≡ Some (ec, words) → AreOwn ec o

pub are_own : (a : AddressSpace) (ec : ℕ) (store : Option Store) → AreOwn ec (store_words a ec store)
are_own a ec None = Nobodys refl
are_own a ec (Some s) = by_words (words_at a s.address)
  where
    by_words : (o : Option (List ℕ)) → AreOwn ec (words_stored ec s o)
    by_words None = Nobodys refl
    by_words (Some m) = Its (stored m (s.address % 4096) s.width s.value) refl

abbrev Messages : Type 0
Messages = List (Option (List ℕ))

pub words_both : (ms : Messages) (ec other : ℕ) (o p : Option (ℕ × List ℕ)) → AreOwn ec o → AreOwn other p → other ≢ ec → put (put ms o) p ≡ put (put ms p) o
words_both ms ec other o p (Nobodys none) second ne = ap (λ q. put (put ms q) p) none ∙ sym (ap (put (put ms p)) none)
words_both ms ec other o p (Its words is) (Nobodys none) ne = ap (put (put ms o)) none ∙ sym (ap (λ q. put (put ms q) o) none)
words_both ms ec other o p (Its words is) (Its others too) ne =
    ap₂ (λ q r. put (put ms q) r) is too ∙ set_both ms ec other (Some words) (Some others) ne ∙ sym (ap₂ (λ q r. put (put ms r) q) is too)

pub words_stay : (ms : Messages) (ec n : ℕ) (o : Option (ℕ × List ℕ)) → AreOwn ec o → n ≢ ec → slice_get (put ms o) n ≡ slice_get ms n
words_stay ms ec n o (Nobodys none) ne = ap (λ q. slice_get (put ms q) n) none
words_stay ms ec n o (Its words is) ne = ap (λ q. slice_get (put ms q) n) is ∙ get_other ms ec n (Some words) ne

-- THE STORE OF ANY DEED

-- of each frame of RAM that it goes to this holds
abbrev pub Reaches : List (List ℕ) → Option (AddressSpace × Store) → (ℕ → Type 0) → Type 0
Reaches ram store P = (a : AddressSpace) (s : Store) (frame : ℕ) → store ≡ Some (a, s) → frame_for a write_right s.address ≡ Some frame → IsSome (slice_get ram frame) → P frame

-- nothing of RAM changes, or the bytes of one frame
data IsMade (store : Option (AddressSpace × Store)) (m : Memory) : Type 0 where
  Unmade : (memory_with m store).ram ≡ m.ram → IsMade store m
  Made : (a : AddressSpace) (s : Store) (frame : ℕ) → store ≡ Some (a, s) → frame_for a write_right s.address ≡ Some frame → IsSome (slice_get m.ram frame) → (new : List ℕ) →
      (memory_with m store).ram ≡ slice_set m.ram frame new → IsMade store m

is_made : (store : Option (AddressSpace × Store)) (m : Memory) → IsMade store m
is_made None m = Unmade refl
is_made (Some (a, s)) m = by_frame (frame_for a write_right s.address) refl
  where
    by_bytes : (frame : ℕ) → frame_for a write_right s.address ≡ Some frame → (o : Option (List ℕ)) → slice_get m.ram frame ≡ o → IsMade (Some (a, s)) m
    by_bytes frame is None at = Unmade (ap (λ (n : Memory). n.ram) (ap (stored_at m s) is ∙ ap (λ (o : Option (List ℕ)). written_in m o frame (s.address % 4096) s.width s.value) at))
    by_bytes frame is (Some old) at =
        Made a s frame refl is (subst IsSome (sym at) refl) (new_bytes s old) (ap (λ (n : Memory). n.ram) (ap (stored_at m s) is ∙ written_is m s frame old at))

    by_frame : (o : Option ℕ) → frame_for a write_right s.address ≡ o → IsMade (Some (a, s)) m
    by_frame None is = Unmade (ap (λ (n : Memory). n.ram) (ap (stored_at m s) is))
    by_frame (Some frame) is = by_bytes frame is (slice_get m.ram frame) refl

pub bytes_kept : (m : Memory) (store : Option (AddressSpace × Store)) (n : ℕ) → Reaches m.ram store (λ frame. n ≢ frame) → slice_get (memory_with m store).ram n ≡ slice_get m.ram n
bytes_kept m store n other = by_made (is_made store m)
  where
    by_made : IsMade store m → slice_get (memory_with m store).ram n ≡ slice_get m.ram n
    by_made (Unmade same) = ap (λ (ram : List (List ℕ)). slice_get ram n) same
    by_made (Made a s frame is goes there new does) = ap (λ (ram : List (List ℕ)). slice_get ram n) does ∙ get_other m.ram frame n new (other a s frame is goes there)

pub frames_kept : (m : Memory) (store : Option (AddressSpace × Store)) (n : ℕ) → is_some (slice_get (memory_with m store).ram n) ≡ is_some (slice_get m.ram n)
frames_kept m store n = by_made (is_made store m)
  where
    by_made : IsMade store m → is_some (slice_get (memory_with m store).ram n) ≡ is_some (slice_get m.ram n)
    by_made (Unmade same) = ap (λ (ram : List (List ℕ)). is_some (slice_get ram n)) same
    by_made (Made a s frame is goes there new does) = ap (λ (ram : List (List ℕ)). is_some (slice_get ram n)) does ∙ some_set m.ram frame n new

-- over another frame with these bytes
over_bytes : (m : Memory) (f : ℕ) (new : List ℕ) (store : Option (AddressSpace × Store)) → Reaches m.ram store (λ g. g ≢ f) → IsSome (slice_get m.ram f) →
    memory_with (with_bytes m f new) store ≡ with_bytes (memory_with m store) f new
over_bytes m f new None apart there = refl
over_bytes m f new (Some (a, s)) apart there = by_frame (frame_for a write_right s.address) refl
  where
    by_bytes : (g : ℕ) → frame_for a write_right s.address ≡ Some g → (o : Option (List ℕ)) → slice_get m.ram g ≡ o →
        written (with_bytes m f new) g (s.address % 4096) s.width s.value ≡ with_bytes (written m g (s.address % 4096) s.width s.value) f new
    by_bytes g is (Some old) at =
        let ne : g ≢ f = apart a s g refl is (subst IsSome (sym at) refl) in
        written_is (with_bytes m f new) s g old (get_other m.ram f g new ne ∙ at)
        ∙ ap (λ (ram : List (List ℕ)). record m { ram = ram }) (set_both m.ram f g new (new_bytes s old) ne)
        ∙ sym (ap (λ (n : Memory). with_bytes n f new) (written_is m s g old at))
    by_bytes g is None at =
        let ne : g ≢ f = λ same. (let some : IsSome {T = List ℕ} None = subst IsSome (ap (slice_get m.ram) (sym same) ∙ at) there in absurd (cc)) in
        ap (λ (o : Option (List ℕ)). written_in (with_bytes m f new) o g (s.address % 4096) s.width s.value) (get_other m.ram f g new ne ∙ at)
        ∙ ap (λ (n : ℕ). record (with_bytes m f new) { log = m.log ++ logged (g - n) (s.address % 4096) s.value }) (set_length m.ram f new)
        ∙ sym (ap (λ (o : Option (List ℕ)). with_bytes (written_in m o g (s.address % 4096) s.width s.value) f new) at)

    by_frame : (o : Option ℕ) → frame_for a write_right s.address ≡ o → stored_at (with_bytes m f new) s o ≡ with_bytes (stored_at m s o) f new
    by_frame None is = refl
    by_frame (Some g) is = by_bytes g is (slice_get m.ram g) refl

pub stores_over : (a : AddressSpace) (m : Memory) (own : Option Store) (store : Option (AddressSpace × Store)) → GoesTo a own (λ frame. IsSome (slice_get m.ram frame)) →
    GoesTo a own (λ f. Reaches m.ram store (λ g. g ≢ f)) → memory_with (memory_after a m own) store ≡ memory_after a (memory_with m store) own
stores_over a m own store there apart = by_own (is_stored a own m there)
  where
    by_own : IsStored a own m → memory_with (memory_after a m own) store ≡ memory_after a (memory_with m store) own
    by_own (Nothing none) = ap (λ (n : Memory). memory_with n store) (none m) ∙ sym (none (memory_with m store))
    by_own (Bytes s f is goes old at does) =
        let ne = apart s f is goes in
        ap (λ (n : Memory). memory_with n store) (does m ∙ written_is m s f old at)
        ∙ over_bytes m f (new_bytes s old) store ne (there s f is goes)
        ∙ sym (does (memory_with m store)
        ∙ written_is (memory_with m store) s f old (bytes_kept m store f (λ b t g its leads here same. ne b t g its leads here (sym same)) ∙ at))
