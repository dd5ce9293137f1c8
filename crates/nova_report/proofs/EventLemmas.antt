-- The lines of events that are repeated.
use Rattle.std.proofs.Common.{◌≡◌, ℕ, zero, suc, ◌+◌, ◌-◌, ◌≤◌, ◌<◌, Bool, true, false, not, List, [], ◌∷◌, ◌++◌, length, replicate, refl, ap, sym, ◌∙◌, arith, append_assoc, drop, slice_index_or}
use Rattle.nova_model.specs.declared.event.Event.{Event}
use Rattle.nova_trace.specs.Traces.{events_of}
use Rattle.nova_trace.specs.declared.trace.Repeated.{Repeated}
use Rattle.nova_trace.proofs.EntryLemmas.{length-replicate}
use Rattle.nova_trace.proofs.Left.{drop_next, events_first, length_at, none_left}
use Rattle.nova_report.specs.Report.{event_line, is_silent, is_told, lines_from}

-- one event in front
abbrev lines_by : Bool → ℕ → Event → List Event → List ℕ
lines_by true n e es = event_line (n, e) ++ lines_from (n + 1) es
lines_by false n e es = lines_from (n + 1) es

cons_by : (n : ℕ) (e : Event) (es : List Event) (b : Bool) → is_told (n, e) ≡ b → lines_from n (e ∷ es) ≡ lines_by b n e es
cons_by n e es true is = rw is refl
cons_by n e es false is = rw is refl

pub told_first : (n : ℕ) (e : Event) (es : List Event) → is_silent e.kind ≡ false → lines_from n (e ∷ es) ≡ event_line (n, e) ++ lines_from (n + 1) es
told_first n e es is = cons_by n e es true (ap not is)

silent_first : (n : ℕ) (e : Event) (es : List Event) → is_silent e.kind ≡ true → lines_from n (e ∷ es) ≡ lines_from (n + 1) es
silent_first n e es is = cons_by n e es false (ap not is)

pub silent_untold : (count n : ℕ) (e : Event) → is_silent e.kind ≡ true → lines_from n (replicate count e) ≡ []
silent_untold zero n e is = refl
silent_untold (suc count) n e is = silent_first n e (replicate count e) is ∙ silent_untold count (n + 1) e is

in_front_by : (n : ℕ) (x : Event) (xs ys : List Event) (b : Bool) → is_silent x.kind ≡ b →
    lines_from (n + 1) (xs ++ ys) ≡ lines_from (n + 1) xs ++ lines_from (n + 1 + length xs) ys →
    lines_from n (x ∷ (xs ++ ys)) ≡ lines_from n (x ∷ xs) ++ lines_from (n + 1 + length xs) ys
in_front_by n x xs ys true is more = silent_first n x (xs ++ ys) is ∙ more ∙ ap (λ ls. ls ++ lines_from (n + 1 + length xs) ys) (sym (silent_first n x xs is))
in_front_by n x xs ys false is more =
    told_first n x (xs ++ ys) is ∙ ap (λ ls. event_line (n, x) ++ ls) more
    ∙ sym (append_assoc (event_line (n, x)) (lines_from (n + 1) xs) (lines_from (n + 1 + length xs) ys))
    ∙ ap (λ ls. ls ++ lines_from (n + 1 + length xs) ys) (sym (told_first n x xs is))

pub lines_append : (n : ℕ) (xs ys : List Event) → lines_from n (xs ++ ys) ≡ lines_from n xs ++ lines_from (n + length xs) ys
lines_append n [] ys = let e : n ≡ n + length {A = Event} [] = omega arith in ap (λ m. lines_from m ys) e
lines_append n (x ∷ xs) ys =
    let e : n + 1 + length xs ≡ n + length (x ∷ xs) = omega arith in
    in_front_by n x xs ys (is_silent x.kind) refl (lines_append (n + 1) xs ys) ∙ ap (λ m. lines_from n (x ∷ xs) ++ lines_from m ys) e

pub lines_entry : (n : ℕ) (e : Repeated) (es : List Repeated) → lines_from n (events_of (e ∷ es)) ≡ lines_from n (replicate e.count e.event) ++ lines_from (n + e.count) (events_of es)
lines_entry n e es =
    ap (lines_from n) (events_first e es) ∙ lines_append n (replicate e.count e.event) (events_of es)
    ∙ ap (λ m. lines_from n (replicate e.count e.event) ++ lines_from (n + m) (events_of es)) (length-replicate e.count e.event)

pub next_of : (count i : ℕ) (e : Event) → i < count → replicate (count - i) e ≡ e ∷ replicate (count - (i + 1)) e
next_of count i e more = let n : count - i ≡ suc (count - (i + 1)) = omega arith in ap (λ m. replicate m e) n

-- one line more of an event that comes `count` times
pub line_more : (out : List ℕ) (place i count : ℕ) (e : Event) → i < count → is_silent e.kind ≡ false →
    out ++ lines_from (place + i + 1) (replicate (count - i) e) ≡ (out ++ event_line (place + i + 1, e)) ++ lines_from (place + (i + 1) + 1) (replicate (count - (i + 1)) e)
line_more out place i count e more told =
    ap (λ es. out ++ lines_from (place + i + 1) es) (next_of count i e more)
    ∙ ap (λ ls. out ++ ls) (told_first (place + i + 1) e (replicate (count - (i + 1)) e) told)
    ∙ sym (append_assoc out (event_line (place + i + 1, e)) (lines_from (place + i + 1 + 1) (replicate (count - (i + 1)) e)))
    ∙ (let n : place + i + 1 + 1 ≡ place + (i + 1) + 1 = omega arith in ap (λ m. (out ++ event_line (place + i + 1, e)) ++ lines_from m (replicate (count - (i + 1)) e)) n)

append-nil : (xs : List ℕ) → xs ++ [] ≡ xs
append-nil [] = refl
append-nil (x ∷ xs) = ap (λ ys. x ∷ ys) (append-nil xs)

pub untold : (out : List ℕ) (n count : ℕ) (e : Event) → is_silent e.kind ≡ true → out ≡ out ++ lines_from n (replicate count e)
untold out n count e is = sym (ap (λ ls. out ++ ls) (silent_untold count n e is) ∙ append-nil out)

-- an entry more
pub entry_more : (out : List ℕ) (place : ℕ) (e : Repeated) (es : List Repeated) →
    out ++ lines_from (place + 1) (events_of (e ∷ es)) ≡ (out ++ lines_from (place + 1) (replicate e.count e.event)) ++ lines_from (place + e.count + 1) (events_of es)
entry_more out place e es =
    ap (λ ls. out ++ ls) (lines_entry (place + 1) e es)
    ∙ sym (append_assoc out (lines_from (place + 1) (replicate e.count e.event)) (lines_from (place + 1 + e.count) (events_of es)))
    ∙ (let n : place + 1 + e.count ≡ place + e.count + 1 = omega arith in ap (λ m. (out ++ lines_from (place + 1) (replicate e.count e.event)) ++ lines_from m (events_of es)) n)

-- the entry at a place, of those that are left
pub record IsAt (es : List Repeated) (i : ℕ) (e : Repeated) : Type 0 where
  pub lines : (out : List ℕ) (place : ℕ) → out ++ lines_from (place + 1) (events_of (drop i es))
      ≡ (out ++ lines_from (place + 1) (replicate e.count e.event)) ++ lines_from (place + e.count + 1) (events_of (drop (i + 1) es))
  pub len : length (events_of (drop i es)) ≡ e.count + length (events_of (drop (i + 1) es))

pub at_entry : (es : List Repeated) (i : ℕ) (d : Repeated) → i < length es → IsAt es i (slice_index_or es i d)
at_entry es i d more = record {
  lines = λ out place. ap (λ xs. out ++ lines_from (place + 1) (events_of xs)) (drop_next es i d more) ∙ entry_more out place (slice_index_or es i d) (drop (i + 1) es);
  len = length_at es i d more;
}

pub no_more : (out : List ℕ) (n : ℕ) (es : List Repeated) (i : ℕ) → length es ≤ i → out ++ lines_from n (events_of (drop i es)) ≡ out
no_more out n es i most = ap (λ xs. out ++ lines_from n xs) (none_left es i most) ∙ append-nil out
