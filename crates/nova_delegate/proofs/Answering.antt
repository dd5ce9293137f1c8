-- What a translation answers, and why there is no answer.
use Rattle.std.proofs.Common.{◌≡◌, ◌↔◌, ℕ, List, ap, sym, ◌∙◌, subst, refl, arith}
use Rattle.std.specs.Prelude.{◌≢◌, Bool, true, false, ◌&&◌, nat_le, Contains, Option, Some, None, Result, Ok, Err, IfOk, option_and_then, if◌then◌else◌}
use Rattle.std.specs.List.{find}
use Rattle.std.proofs.lemmas.Bool.{and_parts, and_from, false_from_ne_true}
use Rattle.std.proofs.lemmas.List.Elements.{All-contains}
use Rattle.nova_range.specs.Ranges.{IsRange, IsWithin, is_inside}
use Rattle.nova_range.specs.RangeWords.{HasWord, meaning_of, word_of, type_of}
use Rattle.nova_range.specs.declared.range.Kind.{Kind}
use Rattle.nova_range.specs.declared.range.Kind.TheVariants.{Mem, Obj}
use Rattle.nova_range.specs.declared.range.Range.{Range}
use Rattle.nova_range.specs.declared.rights.Rights.{Rights}
use Rattle.nova_range.specs.declared.word.WordFault.{WordFault}
use Rattle.nova_range.proofs.Meetings as meetings
use Rattle.nova_range.proofs.Words.{again, sound}
use Rattle.nova_model.specs.Delegations.{Delegations, is_same_kind, range_of, covers}
use Rattle.nova_model.specs.Lines.{line}
use Rattle.nova_model.specs.Transfers.{read_as, common_rights}
use Rattle.nova_model.specs.Translations.{nearest, smaller, seen_through, within, translation, translated}
use Rattle.nova_model.specs.declared.delegation.Derivation.{Derivation}
use Rattle.law_forest.proofs.Members.{found_in, in_from_contains, contains_from_in}
use Rattle.nova_nodes.specs.NodesStates.{IsPlaced, IsSound}
use Rattle.nova_nodes.proofs.Found.{find_none, not_found}
use Rattle.law_forest.proofs.Plain.{kind_itself, same_kind as same_kinds}
use Rattle.nova_delegate.specs.Answered.{Reads, Holds, IsNearest, IsAnswer, HasNoAnswer, no_item, no_window, not_held, no_ancestor, outside}
use Rattle.nova_delegate.specs.Translations.{IsSeen}
use Rattle.nova_delegate.proofs.Alike.{smaller_common, seen_alike, seen_has_word, rights_common}
use Rattle.nova_delegate.proofs.Firsts.{holds_from, covers_from, held_found, nearest_from, nearest_is, none_first, no_first}
use Rattle.nova_delegate.proofs.Seen.{found_seen}
use Rattle.nova_delegate.proofs.Upward.{nearest_facts}

-- WORDS

reads_from : (word : ℕ) (x : Range × Rights) → read_as (meaning_of word) ≡ Some x → Reads word x
reads_from word x h = by_read (meaning_of word) refl h
  where
    by_read : (r : Result (Option (Range × Rights)) WordFault) → meaning_of word ≡ r → read_as r ≡ Some x → meaning_of word ≡ Ok (Some x)
    by_read (Ok o) is g = is ∙ ap (λ (p : Option (Range × Rights)). Ok p) g
    by_read (Err fault) is g = absurd (cc)

reads_range : (word : ℕ) (x : Range × Rights) → Reads word x → HasWord (Some x)
reads_range word x h = subst (λ (r : Result (Option (Range × Rights)) WordFault). IfOk r HasWord) h (sound word)

some_word : (x : Range × Rights) → word_of (Some x) ≢ 0
some_word (range, rights) = by_kind range.kind refl
  where
    by_kind : (k : Kind) → range.kind ≡ k → word_of (Some (range, rights)) ≢ 0
    by_kind Mem is h = let type : type_of range.kind ≡ 1 = ap type_of is in omega arith
    by_kind Obj is h = let type : type_of range.kind ≡ 3 = ap type_of is in omega arith

-- WHAT IS FOUND

-- the giver's derivation, and the nearest of the receiver's
record AreFound (f : Delegations) (giver receiver : ℕ) (range : Range) (d a : Derivation) : Type 0 where
  there : Contains f.list d
  holds : Holds giver range d
  nearest : IsNearest f.list d receiver a
  seen : IsSeen a d (smaller (range_of d) range)
  placed : IsPlaced d

found : (f : Delegations) (giver receiver : ℕ) (range : Range) (d a : Derivation) → IsSound f → IsRange range → find (covers range.kind giver range.base) f.list ≡ Some d →
    nearest f.list d receiver ≡ Some a → AreFound f giver receiver range d a
found f giver receiver range d a sound is held near =
    let k = found_in (covers range.kind giver range.base) f.list d held in
    let there = contains_from_in f.list d k.0 in
    let on = (nearest_facts f d a receiver sound.forest k.0 near).there in
    let placed = All-contains IsPlaced f.list d sound.placed there in
    record {
      there = there;
      holds = holds_from giver range d k.1;
      nearest = nearest_from f.list d a receiver near;
      seen = found_seen f d a range giver receiver sound is held near placed (All-contains IsPlaced f.list a sound.placed (contains_from_in f.list a on));
      placed = placed;
    }

-- the kind of the smaller is that of both
smaller_kind : (d : Derivation) (range : Range) → d.kind ≡ range.kind → (smaller (range_of d) range).kind ≡ d.kind
smaller_kind d range same = by_order (nat_le d.order range.order) refl
  where
    by_order : (t : Bool) → nat_le d.order range.order ≡ t → (smaller (range_of d) range).kind ≡ d.kind
    by_order true e = rw e refl
    by_order false e = rw e (sym same)

-- what is seen is inside the window
inside_from : (a b : Range) → is_same_kind b.kind a.kind && is_inside a b ≡ true → (a.kind ≡ b.kind) × IsWithin a b
inside_from a b h =
    let k = and_parts (is_same_kind b.kind a.kind) (is_inside a b) h in
    (same_kinds b.kind a.kind k.0, (meetings.within a b).0 k.1)

from_inside : (a b : Range) → a.kind ≡ b.kind → IsWithin a b → is_same_kind b.kind a.kind && is_inside a b ≡ true
from_inside a b kind h =
    and_from (is_same_kind b.kind a.kind) (is_inside a b) (ap (is_same_kind b.kind) kind ∙ kind_itself b.kind) ((meetings.within a b).1 h)

-- AN ANSWER

answer_at : (f : Delegations) (word window giver receiver : ℕ) (range : Range) (rights : Rights) (d a : Derivation) (taken : Range × Rights) →
    Reads word (range, rights) → Reads window taken → AreFound f giver receiver range d a →
    is_same_kind taken.0.kind (seen_through a d (smaller (range_of d) range)).kind && is_inside (seen_through a d (smaller (range_of d) range)) taken.0 ≡ true →
    IsAnswer f.list word window giver receiver (word_of (Some (seen_through a d (smaller (range_of d) range), common_rights d.rights rights)))
answer_at f word window giver receiver range rights d a taken reads takes all h =
    let o = smaller (range_of d) range in
    let inside = inside_from (seen_through a d o) taken.0 h in
    let is = (reads_range word (range, rights) reads).0 in
    record {
      item = (range, rights);
      taken = taken;
      range = (seen_through a d o, common_rights d.rights rights);
      d = d;
      a = a;
      o = o;
      reads = reads;
      takes = takes;
      answers = again (Some (seen_through a d o, common_rights d.rights rights)) (seen_has_word a d o rights all.seen all.placed.rights);
      type = inside.0;
      inside = inside.1;
      there = all.there;
      holds = all.holds;
      nearest = all.nearest;
      places = smaller_common (range_of d) range all.placed.range is all.holds.base;
      alike = seen_alike a d o all.seen (smaller_kind d range all.holds.kind);
      rights = rights_common d.rights rights;
    }

answer_in : (f : Delegations) (word window giver receiver : ℕ) (range : Range) (rights : Rights) (d a : Derivation) (wo : Option (Range × Rights)) →
    Reads word (range, rights) → read_as (meaning_of window) ≡ wo → AreFound f giver receiver range d a →
    word_of (within wo (seen_through a d (smaller (range_of d) range), common_rights d.rights rights)) ≢ 0 →
    IsAnswer f.list word window giver receiver (word_of (within wo (seen_through a d (smaller (range_of d) range), common_rights d.rights rights)))
answer_in f word window giver receiver range rights d a None reads takes all some = absurd (some refl)
answer_in f word window giver receiver range rights d a (Some taken) reads takes all some = by_test (is_same_kind taken.0.kind x.0.kind && is_inside x.0 taken.0) refl some
  where
    x : Range × Rights
    x = (seen_through a d (smaller (range_of d) range), common_rights d.rights rights)

    by_test : (t : Bool) → is_same_kind taken.0.kind x.0.kind && is_inside x.0 taken.0 ≡ t → word_of (if t then Some x else None) ≢ 0 →
        IsAnswer f.list word window giver receiver (word_of (if t then Some x else None))
    by_test true t s = answer_at f word window giver receiver range rights d a taken reads (reads_from window taken takes) all t
    by_test false t s = absurd (s refl)

answer_for : (f : Delegations) (word window giver receiver : ℕ) → IsSound f → (io : Option (Range × Rights)) → read_as (meaning_of word) ≡ io →
    word_of (translation f.list giver receiver io (read_as (meaning_of window))) ≢ 0 →
    IsAnswer f.list word window giver receiver (word_of (translation f.list giver receiver io (read_as (meaning_of window))))
answer_for f word window giver receiver sound None e some = absurd (some refl)
answer_for f word window giver receiver sound (Some (range, rights)) e some = by_held (find (covers range.kind giver range.base) f.list) refl some
  where
    reads : Reads word (range, rights)
    reads = reads_from word (range, rights) e

    wo : Option (Range × Rights)
    wo = read_as (meaning_of window)

    at : Derivation → Derivation → Range × Rights
    at d a = (seen_through a d (smaller (range_of d) range), common_rights d.rights rights)

    by_near : (d : Derivation) → find (covers range.kind giver range.base) f.list ≡ Some d → (o : Option Derivation) → nearest f.list d receiver ≡ o →
        word_of (option_and_then (λ a. within wo (at d a)) o) ≢ 0 → IsAnswer f.list word window giver receiver (word_of (option_and_then (λ a. within wo (at d a)) o))
    by_near d held None near s = absurd (s refl)
    by_near d held (Some a) near s =
        answer_in f word window giver receiver range rights d a wo reads refl (found f giver receiver range d a sound (reads_range word (range, rights) reads).0 held near) s

    by_held : (o : Option Derivation) → find (covers range.kind giver range.base) f.list ≡ o →
        word_of (option_and_then (λ d. option_and_then (λ a. within wo (at d a)) (nearest f.list d receiver)) o) ≢ 0 →
        IsAnswer f.list word window giver receiver (word_of (option_and_then (λ d. option_and_then (λ a. within wo (at d a)) (nearest f.list d receiver)) o))
    by_held None held s = absurd (s refl)
    by_held (Some d) held s = by_near d held (nearest f.list d receiver) refl s

pub answered : (f : Delegations) (word window giver receiver : ℕ) → IsSound f → translated f.list word window giver receiver ≢ 0 →
    IsAnswer f.list word window giver receiver (translated f.list word window giver receiver)
unfolding translated
answered f word window giver receiver sound some = answer_for f word window giver receiver sound (read_as (meaning_of word)) refl some

-- NO ANSWER

none_in : (f : Delegations) (word window giver receiver : ℕ) (range : Range) (rights : Rights) (d a : Derivation) (wo : Option (Range × Rights)) →
    Reads word (range, rights) → read_as (meaning_of window) ≡ wo → AreFound f giver receiver range d a →
    word_of (within wo (seen_through a d (smaller (range_of d) range), common_rights d.rights rights)) ≡ 0 → HasNoAnswer f.list word window giver receiver
none_in f word window giver receiver range rights d a None reads takes all none = no_window takes
none_in f word window giver receiver range rights d a (Some taken) reads takes all none = by_test (is_same_kind taken.0.kind x.0.kind && is_inside x.0 taken.0) refl none
  where
    x : Range × Rights
    x = (seen_through a d (smaller (range_of d) range), common_rights d.rights rights)

    by_test : (t : Bool) → is_same_kind taken.0.kind x.0.kind && is_inside x.0 taken.0 ≡ t → word_of (if t then Some x else None) ≡ 0 →
        HasNoAnswer f.list word window giver receiver
    by_test true t n = absurd (some_word x n)
    by_test false t n =
        outside (range, rights) taken d a reads (reads_from window taken takes) all.there all.holds all.nearest
        (λ kind inside. let on = from_inside x.0 taken.0 kind inside in absurd (cc))

none_for : (f : Delegations) (word window giver receiver : ℕ) → IsSound f → (io : Option (Range × Rights)) → read_as (meaning_of word) ≡ io →
    word_of (translation f.list giver receiver io (read_as (meaning_of window))) ≡ 0 → HasNoAnswer f.list word window giver receiver
none_for f word window giver receiver sound None e none = no_item e
none_for f word window giver receiver sound (Some (range, rights)) e none = by_held (find (covers range.kind giver range.base) f.list) refl none
  where
    reads : Reads word (range, rights)
    reads = reads_from word (range, rights) e

    wo : Option (Range × Rights)
    wo = read_as (meaning_of window)

    at : Derivation → Derivation → Range × Rights
    at d a = (seen_through a d (smaller (range_of d) range), common_rights d.rights rights)

    by_near : (d : Derivation) → find (covers range.kind giver range.base) f.list ≡ Some d → (o : Option Derivation) → nearest f.list d receiver ≡ o →
        word_of (option_and_then (λ a. within wo (at d a)) o) ≡ 0 → HasNoAnswer f.list word window giver receiver
    by_near d held None near n =
        let k = found_in (covers range.kind giver range.base) f.list d held in
        no_ancestor (range, rights) d reads (contains_from_in f.list d k.0) (holds_from giver range d k.1) (no_first (line f.list d) receiver near)
    by_near d held (Some a) near n =
        none_in f word window giver receiver range rights d a wo reads refl (found f giver receiver range d a sound (reads_range word (range, rights) reads).0 held near) n

    by_held : (o : Option Derivation) → find (covers range.kind giver range.base) f.list ≡ o →
        word_of (option_and_then (λ d. option_and_then (λ a. within wo (at d a)) (nearest f.list d receiver)) o) ≡ 0 → HasNoAnswer f.list word window giver receiver
    by_held None held n =
        not_held (range, rights) reads (λ d there h.
        let on = covers_from giver range d h in
        let off = not_found (covers range.kind giver range.base) f.list d held (in_from_contains f.list d there) in
        absurd (cc))
    by_held (Some d) held n = by_near d held (nearest f.list d receiver) refl n

-- what a word reads as, where it reads
read_is : (word : ℕ) (x : Range × Rights) → Reads word x → read_as (meaning_of word) ≡ Some x
read_is word x reads = ap read_as reads

nothing_taken : (list : List Derivation) (giver receiver : ℕ) (io : Option (Range × Rights)) → translation list giver receiver io None ≡ None
nothing_taken list giver receiver None = refl
nothing_taken list giver receiver (Some (range, rights)) = by_held (find (covers range.kind giver range.base) list)
  where
    by_near : (d : Derivation) (o : Option Derivation) →
        option_and_then (λ a. within None (seen_through a d (smaller (range_of d) range), common_rights d.rights rights)) o ≡ None
    by_near d None = refl
    by_near d (Some a) = refl

    by_held : (o : Option Derivation) →
        option_and_then (λ d. option_and_then (λ a. within None (seen_through a d (smaller (range_of d) range), common_rights d.rights rights)) (nearest list d receiver)) o ≡ None
    by_held None = refl
    by_held (Some d) = by_near d (nearest list d receiver)

-- the answer, where giver's derivation and nearest are known
translation_at : (list : List Derivation) (giver receiver : ℕ) (range : Range) (rights : Rights) (d : Derivation) (o : Option Derivation) (wo : Option (Range × Rights)) →
    find (covers range.kind giver range.base) list ≡ Some d → nearest list d receiver ≡ o →
    translation list giver receiver (Some (range, rights)) wo ≡ option_and_then (λ a. within wo (seen_through a d (smaller (range_of d) range), common_rights d.rights rights)) o
translation_at list giver receiver range rights d o wo held near =
    ap (option_and_then (λ b. option_and_then (λ a. within wo (seen_through a b (smaller (range_of b) range), common_rights b.rights rights)) (nearest list b receiver))) held
    ∙ ap (option_and_then (λ a. within wo (seen_through a d (smaller (range_of d) range), common_rights d.rights rights))) near

pub has_none : (f : Delegations) (word window giver receiver : ℕ) → IsSound f → HasNoAnswer f.list word window giver receiver →
    translation f.list giver receiver (read_as (meaning_of word)) (read_as (meaning_of window)) ≡ None
has_none f word window giver receiver sound (no_item e) = ap (λ (o : Option (Range × Rights)). translation f.list giver receiver o (read_as (meaning_of window))) e
has_none f word window giver receiver sound (no_window e) =
    ap (translation f.list giver receiver (read_as (meaning_of word))) e ∙ nothing_taken f.list giver receiver (read_as (meaning_of word))
has_none f word window giver receiver sound (not_held (range, rights) reads none) =
    ap (λ (o : Option (Range × Rights)). translation f.list giver receiver o (read_as (meaning_of window))) (read_is word (range, rights) reads)
    ∙ ap (option_and_then (λ d. option_and_then (λ a. within (read_as (meaning_of window)) (seen_through a d (smaller (range_of d) range), common_rights d.rights rights)) (nearest f.list d receiver)))
    (find_none (covers range.kind giver range.base) f.list (λ d i. false_from_ne_true (covers range.kind giver range.base d) (λ t. none d (contains_from_in f.list d i) (holds_from giver range d t))))
has_none f word window giver receiver sound (no_ancestor (range, rights) d reads there holds none) =
    ap (λ (o : Option (Range × Rights)). translation f.list giver receiver o (read_as (meaning_of window))) (read_is word (range, rights) reads)
    ∙ translation_at f.list giver receiver range rights d None (read_as (meaning_of window)) (held_found f giver range d sound.forest there holds) (none_first (line f.list d) receiver none)
has_none f word window giver receiver sound (outside (range, rights) taken d a reads takes there holds near out) =
    let p = seen_through a d (smaller (range_of d) range) in
    let off : is_same_kind taken.0.kind p.kind && is_inside p taken.0 ≡ false =
    false_from_ne_true (is_same_kind taken.0.kind p.kind && is_inside p taken.0) (λ t. let k = inside_from p taken.0 t in out k.0 k.1) in
    ap (λ (o : Option (Range × Rights)). translation f.list giver receiver o (read_as (meaning_of window))) (read_is word (range, rights) reads)
    ∙ ap (translation f.list giver receiver (Some (range, rights))) (read_is window taken takes)
    ∙ translation_at f.list giver receiver range rights d (Some a) (Some taken) (held_found f giver range d sound.forest there holds) (nearest_is f.list d a receiver near)
    ∙ ap (λ (b : Bool). if b then Some (p, common_rights d.rights rights) else None) off

pub no_answer : (f : Delegations) (word window giver receiver : ℕ) → IsSound f → (translated f.list word window giver receiver ≡ 0) ↔ HasNoAnswer f.list word window giver receiver
unfolding translated
no_answer f word window giver receiver sound = (
  (λ none. none_for f word window giver receiver sound (read_as (meaning_of word)) refl none),
  (λ why. ap word_of (has_none f word window giver receiver sound why)),
)
