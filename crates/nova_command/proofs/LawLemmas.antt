-- What plain words give to the form.
use Rattle.std.proofs.Common.{◌≡◌, ℕ, false, List, [], ◌∷◌, Some, None, codes, refl}
use Rattle.std.specs.Str.{bytes_eq}
use Rattle.clap.specs.Lexer.{long_of, short_of}
use Rattle.clap.proofs.OnLiterals.{clap_on_literals}
use Rattle.nova_command.specs.Form.{given}
use Rattle.nova_command.specs.Parsing.{rows_given}
use Rattle.nova_command.specs.Words.{IsPlain}

not_dashes : (word : List ℕ) → IsPlain word → bytes_eq word (codes "--") ≡ false
not_dashes [] plain = refl
not_dashes (b ∷ bs) plain = rw plain refl

not_long : (word : List ℕ) → IsPlain word → long_of word ≡ None
not_long [] plain = refl
not_long (b ∷ bs) plain = rw plain refl

not_short : (word : List ℕ) → IsPlain word → short_of word ≡ None
not_short [] plain = refl
not_short (b ∷ bs) plain = rw plain refl

pub given-name : (word name : List ℕ) → IsPlain word → IsPlain name → given (codes "nova" ∷ word ∷ name ∷ []) ≡ Some (record { command = Some word; first = Some name; second = None; limit = Some (codes "1000000") })
unfolding given rows_given clap_on_literals
given-name a b p q = rw (not_dashes a p, not_long a p, not_short a p, not_dashes b q, not_long b q, not_short b q) refl

pub given-names : (word first second : List ℕ) → IsPlain word → IsPlain first → IsPlain second → given (codes "nova" ∷ word ∷ first ∷ second ∷ []) ≡ Some (record { command = Some word; first = Some first; second = Some second; limit = Some (codes "1000000") })
unfolding given rows_given clap_on_literals
given-names a b c p q r = rw (not_dashes a p, not_long a p, not_short a p, not_dashes b q, not_long b q, not_short b q, not_dashes c r, not_long c r, not_short c r) refl

pub given-limit : (word name text : List ℕ) → IsPlain word → IsPlain name → IsPlain text → given (codes "nova" ∷ word ∷ name ∷ codes "--limit" ∷ text ∷ []) ≡ Some (record { command = Some word; first = Some name; second = None; limit = Some text })
unfolding given rows_given clap_on_literals
given-limit a b c p q r = rw (not_dashes a p, not_long a p, not_short a p, not_dashes b q, not_long b q, not_short b q, not_dashes c r, not_long c r, not_short c r) refl

pub given-names-limit : (word first second text : List ℕ) → IsPlain word → IsPlain first → IsPlain second → IsPlain text → given (codes "nova" ∷ word ∷ first ∷ second ∷ codes "--limit" ∷ text ∷ []) ≡ Some (record { command = Some word; first = Some first; second = Some second; limit = Some text })
unfolding given rows_given clap_on_literals
given-names-limit a b c d p q r s = rw (not_dashes a p, not_long a p, not_short a p, not_dashes b q, not_long b q, not_short b q, not_dashes c r, not_long c r, not_short c r, not_dashes d s, not_long d s, not_short d s) refl
