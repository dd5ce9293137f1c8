-- Entries that are left, from a place on, and the events that they stand for.
use Rattle.std.proofs.Common.{◌≡◌, ℕ, zero, suc, ◌+◌, ◌≤◌, ◌<◌, List, [], ◌∷◌, ◌++◌, length, replicate, refl, ap, ◌∙◌, arith, length-append, drop, slice_index_or}
use Rattle.std.proofs.Math.Seq.{drop-cons}
use Rattle.nova_model.specs.declared.event.EventKind.TheVariants.{Step}
use Rattle.nova_trace.specs.Traces.{events_of}
use Rattle.nova_trace.specs.declared.trace.Repeated.{Repeated}
use Rattle.nova_trace.proofs.EntryLemmas.{length-replicate, none}

-- what stands where there is no entry
abbrev pub blank : Repeated
blank = record { event = record { cpu = 0; sc = 0; ec = 0; kind = Step; a = 0; b = 0 }; count = 0 }

-- an entry and the rest
pub events_first : (e : Repeated) (es : List Repeated) → events_of (e ∷ es) ≡ replicate e.count e.event ++ events_of es
unfolding events_of
events_first e es = refl

pub length_entry : (e : Repeated) (es : List Repeated) → length (events_of (e ∷ es)) ≡ e.count + length (events_of es)
length_entry e es =
    let all = ap length (events_first e es) ∙ length-append (replicate e.count e.event) (events_of es) in
    let own = length-replicate e.count e.event in
    omega (arith, all, own)

pub drop_next : (es : List Repeated) (i : ℕ) (d : Repeated) → i < length es → drop i es ≡ slice_index_or es i d ∷ drop (i + 1) es
drop_next es i d more = let e : suc i ≡ i + 1 = omega arith in drop-cons es i d more ∙ ap (λ n. slice_index_or es i d ∷ drop n es) e

pub drop_all : (es : List Repeated) (i : ℕ) → length es ≤ i → drop i es ≡ []
drop_all [] zero most = refl
drop_all [] (suc i) most = refl
drop_all (e ∷ es) zero most = absurd (omega (arith, most))
drop_all (e ∷ es) (suc i) most = drop_all es i (omega (arith, most))

-- those of the entry at a place, and of those after it
pub events_at : (es : List Repeated) (i : ℕ) (d : Repeated) → i < length es →
    events_of (drop i es) ≡ replicate (slice_index_or es i d).count (slice_index_or es i d).event ++ events_of (drop (i + 1) es)
events_at es i d more = ap events_of (drop_next es i d more) ∙ events_first (slice_index_or es i d) (drop (i + 1) es)

pub length_at : (es : List Repeated) (i : ℕ) (d : Repeated) → i < length es →
    length (events_of (drop i es)) ≡ (slice_index_or es i d).count + length (events_of (drop (i + 1) es))
length_at es i d more = ap (λ (xs : List Repeated). length (events_of xs)) (drop_next es i d more) ∙ length_entry (slice_index_or es i d) (drop (i + 1) es)

pub none_left : (es : List Repeated) (i : ℕ) → length es ≤ i → events_of (drop i es) ≡ []
none_left es i most = ap events_of (drop_all es i most) ∙ none
