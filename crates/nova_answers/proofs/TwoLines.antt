-- A line that names a guest, and a text of two such lines.
use Rattle.std.proofs.Common.{◌≡◌, ℕ, ◌+◌, ◌<◌, ◌≤◌, Bool, true, false, cond, List, [], ◌∷◌, length, refl, ap, sym, subst, ◌∙◌, arith, Option, Some, None, Ok, Err}
use Rattle.std.proofs.lemmas.List.{drop_all}
use Rattle.std.proofs.lemmas.List.Splits.{slice_split_first, slice_split_none}
use Rattle.std.proofs.lemmas.List.Sums.{fails_before_first}
use Rattle.std.proofs.lemmas.Str.Ascii.{IsAscii-nil, IsAscii-cons}
use Rattle.std.specs.Char.{is_ascii_graphic}
use Rattle.std.specs.List.{list_all, position_or_len, slice_split, onto_first, before_first, after_first}
use Rattle.std.specs.Str.{IsAscii}
use Rattle.nova_text.specs.Number.{number}
use Rattle.nova_text.proofs.LineLemmas.{Parts, parts}
use Rattle.nova_answers.specs.Subjects.{is_space, is_line_feed, is_name, guest_of, guest_read, subject_of_words, subject_of, both, subjects_of_parts, subjects_of, at_line, IsFault}
use Rattle.nova_answers.specs.declared.subjects.Subject.{Subject}
use Rattle.nova_answers.specs.declared.subjects.SubjectsFault.{SubjectsFault}
use Rattle.nova_answers.specs.declared.subjects.SubjectsFault.TheVariants.{Syntax, Memory}

-- A LINE

graphic_ascii : (c : ℕ) → is_ascii_graphic c ≡ true → c < 128
graphic_ascii c is = grind arith

all_ascii : (bs : List ℕ) → list_all is_ascii_graphic bs ≡ true → IsAscii bs
all_ascii [] all = IsAscii-nil
all_ascii (b ∷ bs) all = IsAscii-cons b bs (graphic_ascii b (grind arith)) (all_ascii bs (grind arith))

pub name_ascii : (bs : List ℕ) → is_name bs ≡ true → IsAscii bs
name_ascii bs is = all_ascii bs (grind arith)

number_none : number [] ≡ None
unfolding number
number_none = refl

-- without a second space there is no number
pub no_number : (line rest : List ℕ) → rest ≡ after_first is_space line → length rest ≤ position_or_len is_space rest → subject_of line ≡ None
unfolding subject_of
no_number line rest is beyond =
    let none : after_first is_space rest ≡ [] = drop_all (position_or_len is_space rest + 1) rest (omega arith) in
    let last : number (after_first is_space rest) ≡ None = ap number none ∙ number_none in
    subst (λ (r : List ℕ). subject_of_words (before_first is_space line) (before_first is_space r) (number (after_first is_space r)) ≡ None) is
    (ap (subject_of_words (before_first is_space line) (before_first is_space rest)) last)

words_named : (line : ℕ) (scenario order : List ℕ) (n g : Option ℕ) → guest_read n ≡ Ok g → is_name scenario ≡ true → is_name order ≡ true →
    at_line line (subject_of_words scenario order n) ≡ Ok (record { scenario = scenario; order = order; guest = g })
words_named line scenario order None g is named named_too = absurd (cc)
words_named line scenario order (Some n) g is named named_too =
    let same : guest_of n ≡ g = cc in rw (named, named_too, same) refl

pub line_named : (line : ℕ) (text rest scenario order last : List ℕ) (g : Option ℕ) → scenario ≡ before_first is_space text → rest ≡ after_first is_space text →
    order ≡ before_first is_space rest → last ≡ after_first is_space rest → guest_read (number last) ≡ Ok g → is_name scenario ≡ true → is_name order ≡ true →
    at_line line (subject_of text) ≡ Ok (record { scenario = scenario; order = order; guest = g })
unfolding subject_of
line_named line text rest scenario order last g is_scenario is_rest is_order is_last read named named_too =
    let all : subject_of text ≡ subject_of_words scenario order (number last) = rw (is_scenario, is_order, is_last, is_rest) refl in
    ap (at_line line) all ∙ words_named line scenario order (number last) g read named named_too

-- A TEXT

-- a text with a line feed: its first line, and what stands behind it
pub record IsCut (text line behind : List ℕ) : Type 0 where
  pub there : position_or_len is_line_feed text < length text
  pub before : line ≡ before_first is_line_feed text
  pub after : behind ≡ after_first is_line_feed text

cut_parts : (text line behind : List ℕ) → IsCut text line behind → slice_split is_line_feed text ≡ line ∷ slice_split is_line_feed behind
cut_parts text line behind cut =
    let to_line = sym cut.before in let to_behind = sym cut.after in
    slice_split_first is_line_feed text 0 cut.there ∙ (λ i. to_line i ∷ slice_split is_line_feed (to_behind i))

one_part : (text : List ℕ) → length text ≤ position_or_len is_line_feed text → slice_split is_line_feed text ≡ text ∷ []
one_part text beyond = slice_split_none is_line_feed text (λ k d below. fails_before_first is_line_feed text k d (omega arith))

is_some : (line : ℕ) (o : Option Subject) (s : Subject) → at_line line o ≡ Ok s → o ≡ Some s
is_some line None s is = absurd (cc)
is_some line (Some o) s is = cc

same_line : (line n : ℕ) → at_line line None ≡ Err n → line ≡ n
same_line line n is = cc

pub no_line : (text : List ℕ) → length text ≤ position_or_len is_line_feed text → subjects_of text ≡ Err 1
unfolding subjects_of
no_line text beyond = ap subjects_of_parts (one_part text beyond)

first_unread : (line : List ℕ) (ps : List (List ℕ)) → Parts ps → subject_of line ≡ None → subjects_of_parts (line ∷ ps) ≡ Err 1
first_unread line [] some none = absurd (cc)
first_unread line (second ∷ []) some none = rw none refl
first_unread line (second ∷ third ∷ ps) some none = rw none refl

pub first_fault : (text line behind : List ℕ) (fault : SubjectsFault) → IsCut text line behind → IsFault (at_line 1 (subject_of line)) fault → IsFault (subjects_of text) fault
unfolding subjects_of
first_fault text line behind Memory cut is = tt
first_fault text line behind (Syntax n) cut is = by_case (subject_of line) refl is
  where
    by_case : (o : Option Subject) → subject_of line ≡ o → at_line 1 o ≡ Err n → subjects_of_parts (slice_split is_line_feed text) ≡ Err n
    by_case None none at = ap subjects_of_parts (cut_parts text line behind cut) ∙ first_unread line (slice_split is_line_feed behind) (parts behind) none ∙ ap Err (same_line 1 n at)
    by_case (Some s) none at = absurd (cc)

pub one_line : (text line behind : List ℕ) (first : Subject) → IsCut text line behind → at_line 1 (subject_of line) ≡ Ok first →
    length behind ≤ position_or_len is_line_feed behind → subjects_of text ≡ Err 2
unfolding subjects_of
one_line text line behind first cut read beyond =
    let is = is_some 1 (subject_of line) first read in
    ap subjects_of_parts (cut_parts text line behind cut) ∙ ap (λ (ps : List (List ℕ)). subjects_of_parts (line ∷ ps)) (one_part behind beyond)
    ∙ ap (λ (o : Option Subject). both o None []) is

-- both lines, and at least a part behind them
two_lines : (text line behind line_too rest : List ℕ) → IsCut text line behind → IsCut behind line_too rest →
    subjects_of_parts (slice_split is_line_feed text) ≡ both (subject_of line) (subject_of line_too) (slice_split is_line_feed rest)
two_lines text line behind line_too rest cut cut_too =
    let some = parts rest in
    ap subjects_of_parts (cut_parts text line behind cut ∙ ap (λ ps. line ∷ ps) (cut_parts behind line_too rest cut_too ∙ ap (λ ps. line_too ∷ ps) some.are))
    ∙ ap (both (subject_of line) (subject_of line_too)) (sym some.are)

pub second_fault : (text line behind line_too rest : List ℕ) (first : Subject) (fault : SubjectsFault) → IsCut text line behind → IsCut behind line_too rest →
    at_line 1 (subject_of line) ≡ Ok first → IsFault (at_line 2 (subject_of line_too)) fault → IsFault (subjects_of text) fault
unfolding subjects_of
second_fault text line behind line_too rest first Memory cut cut_too read is = tt
second_fault text line behind line_too rest first (Syntax n) cut cut_too read is = by_case (subject_of line_too) refl is
  where
    by_case : (o : Option Subject) → subject_of line_too ≡ o → at_line 2 o ≡ Err n → subjects_of_parts (slice_split is_line_feed text) ≡ Err n
    by_case None none at =
        two_lines text line behind line_too rest cut cut_too ∙ rw (is_some 1 (subject_of line) first read, none) (ap Err (same_line 2 n at))
    by_case (Some s) none at = absurd (cc)

more : (rest : List ℕ) (first second : Subject) → 0 < length rest → both (Some first) (Some second) (slice_split is_line_feed rest) ≡ Err 3
more [] first second some = absurd (omega arith)
more (b ∷ bs) first second some = by_case (is_line_feed b) (slice_split is_line_feed bs) (parts bs)
  where
    onto : (ps : List (List ℕ)) → both (Some first) (Some second) (onto_first b ps) ≡ Err 3
    onto [] = refl
    onto (p ∷ ps) = refl

    by_case : (feed : Bool) (ps : List (List ℕ)) → Parts ps → both (Some first) (Some second) (cond feed ([] ∷ ps) (onto_first b ps)) ≡ Err 3
    by_case true ps is = rw is.are refl
    by_case false ps is = onto ps

pub more_lines : (text line behind line_too rest : List ℕ) (first second : Subject) → IsCut text line behind → IsCut behind line_too rest →
    at_line 1 (subject_of line) ≡ Ok first → at_line 2 (subject_of line_too) ≡ Ok second → 0 < length rest → subjects_of text ≡ Err 3
unfolding subjects_of
more_lines text line behind line_too rest first second cut cut_too read read_too some =
    two_lines text line behind line_too rest cut cut_too
    ∙ rw (is_some 1 (subject_of line) first read, is_some 2 (subject_of line_too) second read_too) (more rest first second some)

pub all_read : (text line behind line_too rest : List ℕ) (first second : Subject) → IsCut text line behind → IsCut behind line_too rest →
    at_line 1 (subject_of line) ≡ Ok first → at_line 2 (subject_of line_too) ≡ Ok second → length rest ≡ 0 →
    subjects_of text ≡ Ok (record { first = first; second = second })
unfolding subjects_of
all_read text line behind line_too [] first second cut cut_too read read_too none =
    two_lines text line behind line_too [] cut cut_too
    ∙ rw (is_some 1 (subject_of line) first read, is_some 2 (subject_of line_too) second read_too) refl
all_read text line behind line_too (b ∷ bs) first second cut cut_too read read_too none = absurd (omega arith)
