-- A conversation on its way: lines that were answered, and bytes that are left to be read.
use Rattle.std.proofs.Common.{◌≡◌, ◌∙◌, ℕ, ◌<◌, List, [], ◌∷◌, ◌++◌, length, Option, Some, None, Result, Ok, ap, sym, subst, arith, append_assoc, append-nil}
use Rattle.std.specs.Prelude.{IfSome, ⊤}
use Rattle.std.specs.Io.BufRead.{DropsThrough, drop_through, first_piece}
use Rattle.std.specs.Io.Iter.{YieldsKnownPiece}
use Rattle.std.specs.Io.KnownBytes.{Appends, IsAtEnd, Keeps}
use Rattle.nova_debug.specs.Conversations.{AreAllLines, AreLinesOf, Conversation, HasConversed, HasWritten}
use Rattle.nova_debug.specs.Conversations.{NoLine, FirstLine}
use Rattle.nova_debug.specs.Conversations.{Begun, Answered}
use Rattle.nova_debug.specs.declared.serving.Session.{Session}

-- with the lines of what is left they are all lines
abbrev pub AreLeft : Option (List ℕ) → Option (List ℕ) → List (List ℕ) → Type 0
AreLeft None left lines = ⊤
AreLeft (Some all) None lines = ⊥
AreLeft (Some all) (Some left) lines = (rest : List (List ℕ)) → AreLinesOf left rest → AreLinesOf all (lines ++ rest)

pub record IsUnderWay (first now : Session) (read left before after : Option (List ℕ)) : Type 0 where
  pub lines : List (List ℕ)
  pub text : List ℕ
  pub answered : Conversation first lines text now
  pub rest : AreLeft read left lines
  pub written : Appends before after text

-- bytes that are written

nothing : (known : Option (List ℕ)) → Appends known known []
nothing None = tt
nothing (Some bytes) = sym (append-nil bytes)

more : (a b c d : Option (List ℕ)) (xs ys : List ℕ) → Appends a b xs → Appends b c ys → Keeps c d → Appends a d (xs ++ ys)
more None b c d xs ys first second kept = tt
more (Some a) None c d xs ys first second kept = absurd first
more (Some a) (Some b) None d xs ys first second kept = absurd second
more (Some a) (Some b) (Some c) None xs ys first second kept = absurd kept
more (Some a) (Some b) (Some c) (Some d) xs ys first second kept = kept ∙ second ∙ ap (λ (l : List ℕ). l ++ ys) first ∙ append_assoc a xs ys

-- lines that are read

all_left : (read : Option (List ℕ)) → AreLeft read read []
all_left None = tt
all_left (Some bytes) = λ rest are. are

first_of : (left : List ℕ) (rest : List (List ℕ)) → 0 < length left → AreLinesOf (drop_through 10 left) rest → AreLinesOf left (first_piece 10 left ∷ rest)
first_of [] rest some are = absurd (omega (arith, some))
first_of (b ∷ bs) rest some are = FirstLine b bs rest are

one_more : (read left later : Option (List ℕ)) (lines : List (List ℕ)) (line : List ℕ) → AreLeft read left lines
    → IfSome left (λ xs. (0 < length xs) × (line ≡ first_piece 10 xs)) → DropsThrough left later 10 → AreLeft read later (lines ++ line ∷ [])
one_more None left later lines line are first drops = tt
one_more (Some all) None later lines line are first drops = absurd are
one_more (Some all) (Some left) None lines line are first drops = absurd (cc)
one_more (Some all) (Some left) (Some later) lines line are first drops = λ rest those.
    let same : later ≡ drop_through 10 left = cc in
    let these = first_of left rest first.0 (subst (λ bytes. AreLinesOf bytes rest) same those) in
    let whole : lines ++ first_piece 10 left ∷ rest ≡ (lines ++ line ∷ []) ++ rest =
    ap (λ l. lines ++ l ∷ rest) (sym first.1) ∙ sym (append_assoc lines (line ∷ []) rest) in
    subst (λ ls. AreLinesOf all ls) whole (are (first_piece 10 left ∷ rest) these)

all_read : (read left : Option (List ℕ)) (lines : List (List ℕ)) → AreLeft read left lines → IsAtEnd left → AreAllLines read lines
all_read None left lines are end = tt
all_read (Some all) None lines are end = absurd are
all_read (Some all) (Some left) lines are end =
    subst (λ ls. AreLinesOf all ls) (append-nil lines) (are [] (subst (λ bytes. AreLinesOf bytes []) (sym end) NoLine))

-- what a piece that was read says of what was left
pub piece_read : {X E : Type 0} (bytes : X → List ℕ) (byte : ℕ) (left later : Option (List ℕ)) (r : Option (Result X E)) (x : X) → byte ≡ 10 → r ≡ Some (Ok x)
    → YieldsKnownPiece bytes (first_piece byte) byte left r later
    → IfSome left (λ xs. (0 < length xs) × (bytes x ≡ first_piece 10 xs)) × DropsThrough left later 10
piece_read bytes byte left later r x ten is piece =
    subst (λ b. IfSome left (λ xs. (0 < length xs) × (bytes x ≡ first_piece b xs)) × DropsThrough left later b) ten
    (subst (λ o. YieldsKnownPiece bytes (first_piece byte) byte left o later) is piece)

pub none_read : {X E : Type 0} (bytes : X → List ℕ) (byte : ℕ) (left later : Option (List ℕ)) (r : Option (Result X E)) → r ≡ None
    → YieldsKnownPiece bytes (first_piece byte) byte left r later → IsAtEnd left
none_read bytes byte left later r is piece = subst (λ o. YieldsKnownPiece bytes (first_piece byte) byte left o later) is piece

-- the conversation

pub begun : (s : Session) (read left out : Option (List ℕ)) → left ≡ read → IsUnderWay s s read left out out
begun s read left out is = record {
  lines = [];
  text = [];
  answered = Begun;
  rest = subst (λ known. AreLeft read known []) (sym is) (all_left read);
  written = nothing out;
}

pub answered : (first now next : Session) (read left later before out more_out after : Option (List ℕ)) (line : List ℕ)
    → IfSome left (λ xs. (0 < length xs) × (line ≡ first_piece 10 xs)) → DropsThrough left later 10
    → HasWritten now line next out more_out → Keeps more_out after
    → IsUnderWay first now read left before out → IsUnderWay first next read later before after
answered first now next read left later before out more_out after line is drops wrote kept way = record {
  lines = way.lines ++ line ∷ [];
  text = way.text ++ wrote.text;
  answered = Answered way.lines way.text now line wrote.text next way.answered wrote.answered;
  rest = one_more read left later way.lines line way.rest is drops;
  written = more before out more_out after way.text wrote.text way.written wrote.written kept;
}

pub ended : (first now : Session) (read left before after : Option (List ℕ)) → IsAtEnd left → IsUnderWay first now read left before after
    → HasConversed first now read before after
ended first now read left before after end way = record {
  lines = way.lines;
  text = way.text;
  answered = way.answered;
  all = all_read read left way.lines way.rest end;
  written = way.written;
}
