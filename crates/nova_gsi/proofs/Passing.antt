-- A pass over a trace, entry by entry.
use Rattle.std.proofs.Common.{◌≡◌, ℕ, zero, suc, ◌+◌, ◌-◌, ◌<◌, ◌≤◌, List, [], ◌∷◌, ◌++◌, replicate, refl, sym, ap, ◌∙◌, arith}
use Rattle.std.specs.Prelude.{Bool, true, false, ◌==◌, if◌then◌else◌}
use Rattle.nova_model.specs.declared.event.Event.{Event}
use Rattle.nova_model.specs.declared.times.Alarm.{Alarm}
use Rattle.nova_gsi.specs.declared.lines.Seen.{Seen}
use Rattle.nova_gsi.specs.declared.source_line.SourceLine.{SourceLine}
use Rattle.nova_gsi.specs.Firings.{is_firing, line}
use Rattle.nova_gsi.specs.Passed.{more_if, seen, seen_all, worse_if}
use Rattle.nova_gsi.proofs.Walks.{line_is, walked}

module _ (s : Alarm) (n : ℕ) where
  pub seen_append : (x : Seen) (xs ys : List Event) → seen_all s n x (xs ++ ys) ≡ seen_all s n (seen_all s n x xs) ys
  seen_append x [] ys = refl
  seen_append x (e ∷ xs) ys = seen_append (seen s n x e) xs ys

  -- a line of what was seen
  abbrev pub told : Seen → SourceLine
  told x = record { fired = x.fired; worst = x.worst }

  seen_walked : (x : Seen) (es : List Event) → walked s n x.clock x.fired x.worst es ≡ told (seen_all s n x es)
  seen_walked x [] = refl
  seen_walked x (e ∷ es) = seen_walked (seen s n x e) es

  abbrev pub start : Seen
  start = record { clock = 0; fired = 0; worst = 0 }

  pub seen_line : (es : List Event) → told (seen_all s n start es) ≡ line s es n
  seen_line es = sym (seen_walked start es) ∙ line_is s n es

  -- of an event that is no firing the clock is told alone
  abbrev pub passed : Bool → Seen → ℕ → Seen
  passed t x count = record { clock = if t then x.clock + count else x.clock; fired = x.fired; worst = x.worst }

  abbrev seen_by : Bool → Bool → Seen → Seen
  seen_by f t x = record { clock = more_if t x.clock; fired = more_if f x.fired; worst = worse_if f s x.clock x.fired x.worst }

  one_passed : (x : Seen) (f t : Bool) → f ≡ false → seen_by f t x ≡ passed t x 1
  one_passed x false true is = refl
  one_passed x false false is = refl
  one_passed x true t is = absurd cc

  passed_more : (t : Bool) (x : Seen) (count : ℕ) → passed t (passed t x 1) count ≡ passed t x (suc count)
  passed_more true x count = let more : x.clock + 1 + count ≡ x.clock + suc count = omega arith in ap (λ (c : ℕ). record { clock = c; fired = x.fired; worst = x.worst }) more
  passed_more false x count = refl

  passed_none : (t : Bool) (x : Seen) → x ≡ passed t x 0
  passed_none true x = let same : x.clock ≡ x.clock + 0 = omega arith in ap (λ (c : ℕ). record { clock = c; fired = x.fired; worst = x.worst }) same
  passed_none false x = refl

  pub all_passed : (count : ℕ) (x : Seen) (e : Event) → is_firing n e ≡ false → seen_all s n x (replicate count e) ≡ passed (e.cpu == s.cpu) x count
  all_passed zero x e not_it = passed_none (e.cpu == s.cpu) x
  all_passed (suc count) x e not_it =
      ap (λ (y : Seen). seen_all s n y (replicate count e)) (one_passed x (is_firing n e) (e.cpu == s.cpu) not_it)
      ∙ all_passed count (passed (e.cpu == s.cpu) x 1) e not_it ∙ passed_more (e.cpu == s.cpu) x count

  -- an event that comes again
  pub seen_next : (count i : ℕ) (x : Seen) (e : Event) → i < count →
      seen_all s n (seen s n x e) (replicate (count - (i + 1)) e) ≡ seen_all s n x (replicate (count - i) e)
  seen_next count i x e more =
      let next : suc (count - (i + 1)) ≡ count - i = omega (arith, more) in ap (λ (m : ℕ). seen_all s n x (replicate m e)) next

  one_more : (t : Bool) (m : ℕ) → more_if t m ≤ m + 1
  one_more true m = omega arith
  one_more false m = omega arith

  pub clock_more : (x : Seen) (e : Event) → (seen s n x e).clock ≤ x.clock + 1
  clock_more x e = one_more (e.cpu == s.cpu) x.clock

  pub fired_more : (x : Seen) (e : Event) → (seen s n x e).fired ≤ x.fired + 1
  fired_more x e = one_more (is_firing n e) x.fired
