-- Events one by one, of entries that stand for several.
use Rattle.std.proofs.Common.{◌≡◌, ℕ, zero, suc, ◌+◌, ◌<◌, ◌≤◌, List, [], ◌∷◌, ◌++◌, length, replicate, refl, ap, sym, ◌∙◌, append_assoc, drop, slice_index_or, arith}
use Rattle.nova_model.specs.declared.event.Event.{Event}
use Rattle.nova_trace.specs.Traces.{events_of}
use Rattle.nova_trace.specs.declared.trace.Repeated.{Repeated}
use Rattle.nova_trace.proofs.Left.{events_at, none_left}
use Rattle.std.proofs.lemmas.List.{append-nil}

-- once more
pub once_more : (n : ℕ) (x : Event) → replicate (n + 1) x ≡ replicate n x ++ x ∷ []
once_more zero x = refl
once_more (suc n) x = let e : suc n + 1 ≡ suc (n + 1) = omega arith in ap (λ k. replicate k x) e ∙ ap (λ xs. x ∷ xs) (once_more n x)

-- an entry's events have been added
pub added_next : (before : List Event) (n : ℕ) (x : Event) → (before ++ replicate n x) ++ x ∷ [] ≡ before ++ replicate (n + 1) x
added_next before n x = append_assoc before (replicate n x) (x ∷ []) ∙ ap (λ xs. before ++ xs) (sym (once_more n x))

-- the events of an entry come, and those of the entries after it are left
pub entry_next : (events : List Event) (es : List Repeated) (i : ℕ) (d : Repeated) → i < length es →
    (events ++ replicate (slice_index_or es i d).count (slice_index_or es i d).event) ++ events_of (drop (i + 1) es) ≡ events ++ events_of (drop i es)
entry_next events es i d more =
    let e = slice_index_or es i d in
    append_assoc events (replicate e.count e.event) (events_of (drop (i + 1) es)) ∙ ap (λ xs. events ++ xs) (sym (events_at es i d more))

pub all_listed : (events : List Event) (es : List Repeated) (i : ℕ) → length es ≤ i → events ++ events_of (drop i es) ≡ events
all_listed events es i most = ap (λ xs. events ++ xs) (none_left es i most) ∙ append-nil events
