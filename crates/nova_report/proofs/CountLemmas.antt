-- How many of events that are repeated are of a kind.
use Rattle.std.proofs.Common.{◌≡◌, ℕ, zero, suc, ◌+◌, ◌≤◌, ◌<◌, Bool, true, false, List, [], ◌∷◌, ◌++◌, length, replicate, refl, ap, ◌∙◌, arith, drop, slice_index_or}
use Rattle.nova_model.specs.declared.event.Event.{Event}
use Rattle.nova_trace.specs.Traces.{events_of}
use Rattle.nova_trace.specs.declared.trace.Repeated.{Repeated}
use Rattle.nova_trace.proofs.Left.{events_at, none_left}
use Rattle.nova_report.specs.Summary.{count}

module _ (p : Event → Bool) where
  abbrev counted_by : Bool → ℕ → ℕ
  counted_by true n = 1 + n
  counted_by false n = n

  first_by : (b : Bool) (e : Event) (es : List Event) → p e ≡ b → count p (e ∷ es) ≡ counted_by b (count p es)
  first_by true e es is = rw is (omega arith)
  first_by false e es is = rw is refl

  append_by : (b : Bool) (e : Event) (xs ys : List Event) → p e ≡ b → count p (xs ++ ys) ≡ count p xs + count p ys → count p (e ∷ (xs ++ ys)) ≡ count p (e ∷ xs) + count p ys
  append_by true e xs ys is more = let all = first_by true e (xs ++ ys) is in let own = first_by true e xs is in omega (arith, all, own, more)
  append_by false e xs ys is more = let all = first_by false e (xs ++ ys) is in let own = first_by false e xs is in omega (arith, all, own, more)

  count_append : (xs ys : List Event) → count p (xs ++ ys) ≡ count p xs + count p ys
  count_append [] ys = omega arith
  count_append (x ∷ xs) ys = append_by (p x) x xs ys refl (count_append xs ys)

  pub all_counted : (n : ℕ) (e : Event) → p e ≡ true → count p (replicate n e) ≡ n
  all_counted zero e is = refl
  all_counted (suc n) e is = let own = first_by true e (replicate n e) is in let more = all_counted n e is in omega (arith, own, more)

  pub none_counted : (n : ℕ) (e : Event) → p e ≡ false → count p (replicate n e) ≡ 0
  none_counted zero e is = refl
  none_counted (suc n) e is = first_by false e (replicate n e) is ∙ none_counted n e is

  few_by : (b : Bool) (e : Event) (es : List Event) → p e ≡ b → count p es ≤ length es → count p (e ∷ es) ≤ length (e ∷ es)
  few_by true e es is more = let own = first_by true e es is in omega (arith, own, more)
  few_by false e es is more = let own = first_by false e es is in omega (arith, own, more)

  pub count_few : (es : List Event) → count p es ≤ length es
  count_few [] = omega arith
  count_few (e ∷ es) = few_by (p e) e es refl (count_few es)

  pub at_place : (es : List Repeated) (i : ℕ) (d : Repeated) → i < length es →
      count p (events_of (drop i es)) ≡ count p (replicate (slice_index_or es i d).count (slice_index_or es i d).event) + count p (events_of (drop (i + 1) es))
  at_place es i d more =
      ap (count p) (events_at es i d more)
      ∙ count_append (replicate (slice_index_or es i d).count (slice_index_or es i d).event) (events_of (drop (i + 1) es))

  pub no_entry : (es : List Repeated) (i : ℕ) → length es ≤ i → count p (events_of (drop i es)) ≡ 0
  no_entry es i most = ap (count p) (none_left es i most)
