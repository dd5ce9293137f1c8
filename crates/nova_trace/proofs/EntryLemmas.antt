-- Entries that are added, and a last entry that grows.
use Rattle.std.proofs.Common.{◌≡◌, ℕ, zero, suc, ◌+◌, ◌-◌, ◌≤◌, ◌<◌, List, [], ◌∷◌, ◌++◌, length, replicate, Some, None, refl, ap, sym, subst, ◌∙◌, arith, Bool, true, false, slice_set, slice_index_or, slice_get, append_assoc, length-append}
use Rattle.std.specs.List.{last_or}
use Rattle.std.proofs.lemmas.List.Concat.{flat_map-append}
use Rattle.nova_model.specs.declared.event.Event.{Event}
use Rattle.std.specs.Bool.{OnTrue}
use Rattle.nova_trace.specs.Traces.{events_of, IsLast}
use Rattle.nova_trace.specs.declared.trace.Repeated.{Repeated}

append-nil : (xs : List Event) → xs ++ [] ≡ xs
append-nil [] = refl
append-nil (x ∷ xs) = ap (λ ys. x ∷ ys) (append-nil xs)

pub events_push : (es : List Repeated) (e : Repeated) → events_of (es ++ e ∷ []) ≡ events_of es ++ replicate e.count e.event
unfolding events_of
events_push es e = flat_map-append (λ entry. replicate entry.count entry.event) es (e ∷ []) ∙ ap (λ ts. events_of es ++ ts) (append-nil (replicate e.count e.event))

pub none : events_of [] ≡ []
unfolding events_of
none = refl

pub length-replicate : (n : ℕ) (x : Event) → length (replicate n x) ≡ n
length-replicate zero x = refl
length-replicate (suc n) x = ap suc (length-replicate n x)

-- entries with a last one, which is set to another
pub record Ends (es : List Repeated) (n : ℕ) (last : Repeated) : Type 0 where
  pub front : List Repeated
  pub are : es ≡ front ++ last ∷ []
  pub set : (e : Repeated) → slice_set es n e ≡ front ++ e ∷ []

ends_after : (x : Repeated) (xs : List Repeated) (last : Repeated) → last_or (Some x) xs ≡ Some last → Ends (x ∷ xs) (length xs) last
ends_after x [] last is = let same : x ≡ last = cc in record { front = []; are = ap (λ b. b ∷ []) same; set = λ b. refl }
ends_after x (y ∷ ys) last is =
    let e = ends_after y ys last is in
    record { front = x ∷ e.front; are = ap (λ bs. x ∷ bs) e.are; set = λ b. ap (λ bs. x ∷ bs) (e.set b) }

pub ends : (es : List Repeated) (last : Repeated) → last_or None es ≡ Some last → Ends es (length es - 1) last
ends [] last is = absurd cc
ends (x ∷ xs) last is = let e : length xs ≡ length (x ∷ xs) - 1 = omega arith in subst (λ n. Ends (x ∷ xs) n last) e (ends_after x xs last is)

replicate_more : (m n : ℕ) (x : Event) → replicate (m + n) x ≡ replicate m x ++ replicate n x
replicate_more zero n x = let e : 0 + n ≡ n = omega arith in ap (λ k. replicate k x) e
replicate_more (suc m) n x = let e : suc m + n ≡ suc (m + n) = omega arith in ap (λ k. replicate k x) e ∙ ap (λ xs. x ∷ xs) (replicate_more m n x)

pub events_grown : (es : List Repeated) (last : Repeated) (count : ℕ) → last_or None es ≡ Some last →
    events_of (slice_set es (length es - 1) (record { event = last.event; count = last.count + count })) ≡ events_of es ++ replicate count last.event
events_grown es last count is =
    let e = ends es last is in
    let more : Repeated = record { event = last.event; count = last.count + count } in
    ap events_of (e.set more)
    ∙ events_push e.front more
    ∙ ap (λ ts. events_of e.front ++ ts) (replicate_more last.count count last.event)
    ∙ sym (append_assoc (events_of e.front) (replicate last.count last.event) (replicate count last.event))
    ∙ ap (λ ts. ts ++ replicate count last.event) (sym (ap events_of e.are ∙ events_push e.front last))

-- the last entry's count is no more than all
pub last_few : (es : List Repeated) (last : Repeated) → last_or None es ≡ Some last → last.count ≤ length (events_of es)
last_few es last is =
    let e = ends es last is in
    let all = ap (λ xs. length (events_of xs)) e.are ∙ ap length (events_push e.front last) ∙ length-append (events_of e.front) (replicate last.count last.event) in
    let own = length-replicate last.count last.event in
    omega (arith, all, own)

-- the last entry as it was found by the length
last_after : (x : Repeated) (xs : List Repeated) (last : Repeated) → last ≡ slice_index_or (x ∷ xs) (length xs) last → last_or (Some x) xs ≡ Some last
last_after x [] last is = ap Some (sym is)
last_after x (y ∷ ys) last is = last_after y ys last is

pub last_is : (es : List Repeated) (n : ℕ) (last : Repeated) → n ≡ length es → 0 < n → last ≡ slice_index_or es (n - 1) last → last_or None es ≡ Some last
last_is [] n last len some is = absurd (omega arith)
last_is (x ∷ xs) n last len some is = let e : n - 1 ≡ length xs = omega arith in last_after x xs last (is ∙ ap (λ k. slice_index_or (x ∷ xs) k last) e)

pub last_found : (es : List Repeated) (event : Event) (last : Repeated) (b : Bool) → last_or None es ≡ Some last → OnTrue b (last.event ≡ event) → OnTrue b (IsLast es event)
last_found es event last true is same = record { last = last; is = is; same = same }
last_found es event last false is same = same

pub same_last : (es : List Repeated) (last : Repeated) (event : Event) → last_or None es ≡ Some last → IsLast es event → last.event ≡ event
same_last es last event is given = let one : given.last ≡ last = cc in ap (λ (e : Repeated). e.event) (sym one) ∙ given.same

-- the last entry by its place
last_at_length : (x : Repeated) (xs : List Repeated) → slice_get (x ∷ xs) (length xs) ≡ last_or (Some x) xs
last_at_length x [] = refl
last_at_length x (y ∷ ys) = last_at_length y ys

pub last_at : (es : List Repeated) → slice_get es (length es - 1) ≡ last_or None es
last_at [] = refl
last_at (x ∷ xs) = let e : length (x ∷ xs) - 1 ≡ length xs = omega arith in ap (slice_get (x ∷ xs)) e ∙ last_at_length x xs
