-- A table in two parts, in which an entry of one part becomes what a rule gives for an entry of the other and itself.
use Rattle.std.proofs.Common.{◌≡◌, ◌∙◌, ◌<◌, ℕ, List, ◌++◌, length, get_or, slice_get, slice_set, Option, Some, ap, arith, refl, sym, rules}
use Rattle.std.proofs.Math.Seq.{of_parts}
use Rattle.std.proofs.lemmas.List.{get_or-append-add, length-append, set-append_left, set-append_right}
use Rattle.std.proofs.lemmas.Option.{slice_get_read}
use Rattle.nova_model.specs.State.{entry}

-- an entry of the front, and the first of the back
in_front : {T : Type 0} (front back : List T) (n : ℕ) (x : T) → n < length front → x ≡ get_or front n x → slice_get (front ++ back) n ≡ Some x
in_front front back n x within is = search (rules, of_parts, slice_get_read)

in_back : {T : Type 0} (front back : List T) (x : T) → 0 < length back → x ≡ get_or back 0 x → slice_get (front ++ back) (length front) ≡ Some x
in_back front back x within is =
    let at : get_or back 0 x ≡ get_or (front ++ back) (length front) x = sym (get_or-append-add front back 0 x) ∙ ap (λ n. get_or (front ++ back) n x) (omega arith) in
    slice_get_read (front ++ back) (length (front ++ back)) (length front) x refl (grind (arith, length-append)) (is ∙ at)

-- what the rule gives for the entries as they are read of the parts, it gives for those of the table
of_entries : {T : Type 0} (rule : Option T → Option T → Option T) (all : List (Option T)) (from to : ℕ) (f t f_read t_read x : Option T) →
    slice_get all from ≡ Some f → slice_get all to ≡ Some t → f ≡ f_read → t ≡ t_read → x ≡ rule f_read t_read →
    x ≡ rule (entry (slice_get all from)) (entry (slice_get all to))
of_entries rule all from to f t f_read t_read x from_is to_is f_is t_is is =
    is ∙ ap (λ a. rule a t_read) (sym f_is ∙ sym (ap entry from_is)) ∙ ap (rule (entry (slice_get all from))) (sym t_is ∙ sym (ap entry to_is))

-- from the front to the first of the back
pub to_back : {T : Type 0} (rule : Option T → Option T → Option T) (all front back : List (Option T)) (from to : ℕ) (f t x : Option T) →
    all ≡ front ++ back → length front ≡ to → from < to → 0 < length back → f ≡ get_or front from f → t ≡ get_or back 0 t →
    x ≡ rule (get_or front from f) (get_or back 0 t) →
    front ++ slice_set back 0 x ≡ slice_set all to (rule (entry (slice_get all from)) (entry (slice_get all to)))
to_back rule all front back from to f t x parts size order within f_is t_is is =
    let from_is : slice_get all from ≡ Some f = ap (λ l. slice_get l from) parts ∙ in_front front back from f (omega arith) f_is in
    let to_is : slice_get all to ≡ Some t = ap (λ l. slice_get l to) parts ∙ ap (slice_get (front ++ back)) (sym size) ∙ in_back front back t within t_is in
    ap (λ n. front ++ slice_set back n x) (omega arith) ∙ sym (set-append_right front back to to x size (omega arith)) ∙ ap (λ l. slice_set l to x) (sym parts)
    ∙ ap (slice_set all to) (of_entries rule all from to f t _ _ x from_is to_is f_is t_is is)

-- from the first of the back to the front
pub to_front : {T : Type 0} (rule : Option T → Option T → Option T) (all front back : List (Option T)) (from to : ℕ) (f t x : Option T) →
    all ≡ front ++ back → length front ≡ from → to < from → 0 < length back → f ≡ get_or back 0 f → t ≡ get_or front to t →
    x ≡ rule (get_or back 0 f) (get_or front to t) →
    slice_set front to x ++ back ≡ slice_set all to (rule (entry (slice_get all from)) (entry (slice_get all to)))
to_front rule all front back from to f t x parts size order within f_is t_is is =
    let from_is : slice_get all from ≡ Some f = ap (λ l. slice_get l from) parts ∙ ap (slice_get (front ++ back)) (sym size) ∙ in_back front back f within f_is in
    let to_is : slice_get all to ≡ Some t = ap (λ l. slice_get l to) parts ∙ in_front front back to t (omega arith) t_is in
    sym (set-append_left front back to x (omega arith)) ∙ ap (λ l. slice_set l to x) (sym parts)
    ∙ ap (slice_set all to) (of_entries rule all from to f t _ _ x from_is to_is f_is t_is is)
