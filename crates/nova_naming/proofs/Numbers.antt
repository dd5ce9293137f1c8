-- The numbers of words, read one after another; and names, which are ASCII.
use Rattle.std.proofs.Common.{◌≡◌, ℕ, ◌<◌, true, List, [], ◌∷◌, ◌++◌, Option, Some, None, refl, ap, sym, ◌∙◌, arith, append_assoc, append-nil}
use Rattle.std.proofs.lemmas.Str.Ascii.{IsAscii-nil, IsAscii-cons}
use Rattle.std.specs.Char.{is_ascii_alphabetic}
use Rattle.std.specs.List.{list_all}
use Rattle.std.specs.Str.{IsAscii}
use Rattle.nova_naming.specs.Statements.{is_name, is_name_byte, number_of, numbers_of}

-- numbers behind others
abbrev pub behind : List ℕ → Option (List ℕ) → Option (List ℕ)
behind before None = None
behind before (Some ns) = Some (before ++ ns)

pub begun : (before : List ℕ) (ns : Option (List ℕ)) → before ≡ [] → behind before ns ≡ ns
begun before None none = refl
begun before (Some ns) none = ap (λ (xs : List ℕ). Some (xs ++ ns)) none

pub ended : (before : List ℕ) (words : List (List ℕ)) → words ≡ [] → behind before (numbers_of words) ≡ Some before
ended before words none = ap (λ ws. behind before (numbers_of ws)) none ∙ ap Some (append-nil before)

-- a word's number in front of those of others
abbrev in_front : Option ℕ → Option (List ℕ) → Option (List ℕ)
in_front None ns = None
in_front (Some n) None = None
in_front (Some n) (Some ns) = Some (n ∷ ns)

first_word : (word : List ℕ) (words : List (List ℕ)) → (number : Option ℕ) (numbers : Option (List ℕ)) → number_of word ≡ number → numbers_of words ≡ numbers → numbers_of (word ∷ words) ≡ in_front number numbers
first_word word words None numbers is are = rw is refl
first_word word words (Some n) None is are = rw (is, are) refl
first_word word words (Some n) (Some ns) is are = rw (is, are) refl

pub no_number : (before word : List ℕ) (words all : List (List ℕ)) → all ≡ word ∷ words → number_of word ≡ None → behind before (numbers_of all) ≡ None
no_number before word words all is none =
    ap (λ ws. behind before (numbers_of ws)) is ∙ ap (behind before) (first_word word words None (numbers_of words) none refl)

added : (before : List ℕ) (n : ℕ) (numbers : Option (List ℕ)) → behind (before ++ n ∷ []) numbers ≡ behind before (in_front (Some n) numbers)
added before n None = refl
added before n (Some ns) = ap Some (append_assoc before (n ∷ []) ns)

pub one_more : (before word : List ℕ) (n : ℕ) (words all : List (List ℕ)) → all ≡ word ∷ words → number_of word ≡ Some n
    → behind (before ++ n ∷ []) (numbers_of words) ≡ behind before (numbers_of all)
one_more before word n words all is there =
    added before n (numbers_of words) ∙ sym (ap (behind before) (first_word word words (Some n) (numbers_of words) there refl)) ∙ sym (ap (λ ws. behind before (numbers_of ws)) is)

-- NAMES

byte_ascii : (c : ℕ) → is_name_byte c ≡ true → c < 128
byte_ascii c is = grind arith

letter_ascii : (c : ℕ) → is_ascii_alphabetic c ≡ true → c < 128
letter_ascii c is = grind arith

all_ascii : (bs : List ℕ) → list_all is_name_byte bs ≡ true → IsAscii bs
all_ascii [] all = IsAscii-nil
all_ascii (b ∷ bs) all = IsAscii-cons b bs (byte_ascii b (grind arith)) (all_ascii bs (grind arith))

pub name_ascii : (bs : List ℕ) → is_name bs ≡ true → IsAscii bs
name_ascii [] is = IsAscii-nil
name_ascii (b ∷ bs) is = IsAscii-cons b bs (letter_ascii b (grind arith)) (all_ascii bs (grind arith))
