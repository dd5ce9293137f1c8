-- What a pass over a trace keeps of a source comes to its firings and delays.
use Rattle.std.proofs.Common.{◌≡◌, ℕ, suc, ◌+◌, ◌-◌, List, [], ◌∷◌, ◌++◌, length, refl, sym, ap, ap₂, ◌∙◌, arith}
use Rattle.std.specs.Prelude.{Bool, true, false, ◌==◌, nat_lt, max, filter, take, cond, if◌then◌else◌, Some, None}
use Rattle.nova_model.specs.Choice.{in_front}
use Rattle.nova_model.specs.declared.event.Event.{Event}
use Rattle.nova_model.specs.declared.times.Alarm.{Alarm}
use Rattle.nova_gsi.specs.declared.source_line.SourceLine.{SourceLine}
use Rattle.nova_gsi.specs.Passed.{more_if, worse_if}
use Rattle.nova_gsi.specs.Firings.{clock_at, count_of, delay, delays_from, firings_from, greatest, is_firing, is_on, line, moment}

abbrev pub walked : Alarm → ℕ → ℕ → ℕ → ℕ → List Event → SourceLine
walked s n clock fired worst [] = record { fired = fired; worst = worst }
walked s n clock fired worst (e ∷ es) =
    walked s n (more_if (e.cpu == s.cpu) clock) (more_if (is_firing n e) fired) (worse_if (is_firing n e) s clock fired worst) es

-- a place after those before it
take_before : (before rest : List Event) → take (length before) (before ++ rest) ≡ before
take_before [] [] = refl
take_before [] (e ∷ rest) = refl
take_before (b ∷ before) rest = ap (λ (es : List Event). b ∷ es) (take_before before rest)

shift : (before : List Event) (e : Event) (rest : List Event) → before ++ e ∷ rest ≡ (before ++ e ∷ []) ++ rest
shift [] e rest = refl
shift (b ∷ before) e rest = ap (λ (es : List Event). b ∷ es) (shift before e rest)

length_more : (before : List Event) (e : Event) → length (before ++ e ∷ []) ≡ length before + 1
length_more [] e = refl
length_more (b ∷ before) e = let rest = length_more before e in omega arith

count_more : (p : Event → Bool) (before : List Event) (e : Event) → count_of p (before ++ e ∷ []) ≡ more_if (p e) (count_of p before)
count_more p [] e = by_test (p e)
  where
    by_test : (t : Bool) → length (cond t (e ∷ []) []) ≡ more_if t 0
    by_test true = refl
    by_test false = refl
count_more p (b ∷ before) e = by_test (p b) (p e) (count_more p before e)
  where
    by_test : (t u : Bool) → count_of p (before ++ e ∷ []) ≡ more_if u (count_of p before) →
        length (cond t (b ∷ filter p (before ++ e ∷ [])) (filter p (before ++ e ∷ []))) ≡ more_if u (length (cond t (b ∷ filter p before) (filter p before)))
    by_test true true h = omega (arith, h)
    by_test true false h = ap suc h
    by_test false u h = h

max_zero : (w : ℕ) → max w 0 ≡ w
max_zero w = grind arith

max_join : (a b c : ℕ) → max (max a b) c ≡ max a (max b c)
max_join a b c = grind arith

-- what is walked from a place on
abbrev rest_line : Alarm → ℕ → List Event → ℕ → ℕ → ℕ → List Event → SourceLine
rest_line s n trace place fired worst rest =
    record { fired = fired + length (firings_from n place rest); worst = max worst (greatest (delays_from s trace fired (firings_from n place rest))) }

walk_is : (s : Alarm) (n : ℕ) (before rest : List Event) (fired worst : ℕ) →
    walked s n (count_of (is_on s.cpu) before) fired worst rest ≡ rest_line s n (before ++ rest) (length before) fired worst rest
walk_is s n before [] fired worst = let none : fired + 0 ≡ fired = omega arith in rw (none, max_zero worst) refl
walk_is s n before (e ∷ rest) fired worst =
    ap (λ (clock : ℕ). walked s n clock (more_if (is_firing n e) fired) (worse_if (is_firing n e) s (count_of (is_on s.cpu) before) fired worst) rest) (sym (count_more (is_on s.cpu) before e))
    ∙ walk_is s n (before ++ e ∷ []) rest (more_if (is_firing n e) fired) (worse_if (is_firing n e) s (count_of (is_on s.cpu) before) fired worst)
    ∙ ap₂ (λ (trace : List Event) (place : ℕ). rest_line s n trace place (more_if (is_firing n e) fired) (worse_if (is_firing n e) s (count_of (is_on s.cpu) before) fired worst) rest)
    (sym (shift before e rest)) (length_more before e)
    ∙ by_test (is_firing n e)
  where
    places : List ℕ
    places = firings_from n (length before + 1) rest

    now : clock_at (before ++ e ∷ rest) s.cpu (length before) ≡ count_of (is_on s.cpu) before
    now = ap (λ (es : List Event). count_of (is_on s.cpu) es) (take_before before (e ∷ rest))

    by_count : (t : Bool) →
        max (if t then max worst (count_of (is_on s.cpu) before - moment s fired) else worst) (greatest (delays_from s (before ++ e ∷ rest) (fired + 1) places))
        ≡ max worst (greatest (in_front (if t then Some (delay s (before ++ e ∷ rest) fired (length before)) else None) (delays_from s (before ++ e ∷ rest) (fired + 1) places)))
    by_count true =
        max_join worst (count_of (is_on s.cpu) before - moment s fired) _
        ∙ ap (λ (clock : ℕ). max worst (max (clock - moment s fired) (greatest (delays_from s (before ++ e ∷ rest) (fired + 1) places)))) (sym now)
    by_count false = refl

    by_test : (t : Bool) →
        rest_line s n (before ++ e ∷ rest) (length before + 1) (more_if t fired) (worse_if t s (count_of (is_on s.cpu) before) fired worst) rest
        ≡ record {
          fired = fired + length (in_front (if t then Some (length before) else None) places);
          worst = max worst (greatest (delays_from s (before ++ e ∷ rest) fired (in_front (if t then Some (length before) else None) places)));
        }
    by_test true =
        let more : fired + 1 + length places ≡ fired + suc (length places) = omega arith in
        ap₂ (λ (a b : ℕ). record { fired = a; worst = b }) more (by_count (nat_lt fired s.count))
    by_test false = refl

max_least : (w : ℕ) → max 0 w ≡ w
max_least w = grind arith

pub line_is : (s : Alarm) (n : ℕ) (trace : List Event) → walked s n 0 0 0 trace ≡ line s trace n
unfolding line
line_is s n trace =
    let same : 0 + length (firings_from n 0 trace) ≡ length (firings_from n 0 trace) = omega arith in
    walk_is s n [] trace 0 0 ∙ ap₂ (λ (fired worst : ℕ). record { fired = fired; worst = worst }) same (max_least (greatest (delays_from s trace 0 (firings_from n 0 trace))))
