-- The best that a search keeps is that before which no other runs.
use Rattle.std.proofs.Common.{◌≡◌, ◌++◌, List, [], ◌∷◌, refl, ap, ◌∙◌, sym, arith, append_assoc}
use Rattle.std.specs.Prelude.{Bool, true, false, not, Option, Some, None, if◌then◌else◌}
use Rattle.std.specs.List.{find, list_all}
use Rattle.std.proofs.lemmas.List.{append-nil}
use Rattle.std.proofs.lemmas.List.Folds.{list_all-append}
use Rattle.nova_sched.specs.Queues.{runs_before}
use Rattle.nova_sched.specs.declared.queued.Runnable.{Runnable}
use Rattle.nova_sched.specs.Best.{better, foremost}

-- the best of the best so far and those of a list
abbrev pub best_of : Option Runnable → List Runnable → Option Runnable
best_of best [] = best
best_of best (c ∷ cs) = best_of (better best (Some c)) cs

runs_before-self : (a : Runnable) → runs_before a a ≡ false
runs_before-self a = grind arith

runs_before-back : (a b : Runnable) → runs_before a b ≡ true → runs_before b a ≡ false
runs_before-back a b h = grind arith

runs_before-through : (a b c : Runnable) → runs_before a b ≡ true → runs_before b c ≡ true → runs_before a c ≡ true
runs_before-through a b c h k = grind arith

-- a runnable that runs before another runs before all that don't go before that
runs_before-past : (a b c : Runnable) → runs_before a b ≡ true → runs_before c b ≡ false → runs_before a c ≡ true
runs_before-past a b c h k = grind arith

-- a runnable that runs before a second, which runs before all of a list
list_all-through : (a b : Runnable) (cs : List Runnable) → runs_before a b ≡ true →
    list_all (λ c. runs_before b c) cs ≡ true → list_all (λ c. runs_before a c) cs ≡ true
list_all-through a b [] h all = refl
list_all-through a b (c ∷ cs) h all = grind (arith, list_all-through a b cs h, runs_before-through a b c h)

list_all-past : (a b : Runnable) (cs : List Runnable) → runs_before a b ≡ true →
    list_all (λ c. not (runs_before c b)) cs ≡ true → list_all (λ c. runs_before a c) cs ≡ true
list_all-past a b [] h all = refl
list_all-past a b (c ∷ cs) h all = grind (arith, list_all-past a b cs h, runs_before-past a b c h)

list_all-back : (b : Runnable) (cs : List Runnable) → list_all (λ c. runs_before b c) cs ≡ true →
    list_all (λ c. not (runs_before c b)) cs ≡ true
list_all-back b [] all = refl
list_all-back b (c ∷ cs) all = grind (arith, list_all-back b cs, runs_before-back b c)

-- nothing of these is found where b stands among all and runs before each
find-past : (b : Runnable) (front back some rest : List Runnable) → list_all (λ c. runs_before b c) some ≡ true →
    find (λ a. list_all (λ c. not (runs_before c a)) (front ++ b ∷ back)) (some ++ rest)
    ≡ find (λ a. list_all (λ c. not (runs_before c a)) (front ++ b ∷ back)) rest
find-past b front back [] rest all = refl
find-past b front back (a ∷ some) rest all =
    grind (arith, find-past b front back some rest, list_all-append (λ c. not (runs_before c a)) front (b ∷ back))

-- b stands after those that it runs before, and none of those after it runs before it
record IsBest (front : List Runnable) (b : Runnable) (back : List Runnable) : Type 0 where
  before_front : list_all (λ c. runs_before b c) front ≡ true
  none_after : list_all (λ c. not (runs_before c b)) back ≡ true

foremost-best : (front : List Runnable) (b : Runnable) (back : List Runnable) → IsBest front b back →
    foremost (front ++ b ∷ back) ≡ Some b
foremost-best front b back best =
    let first : list_all (λ c. not (runs_before c b)) (front ++ b ∷ back) ≡ true =
    grind (arith, list_all-append (λ c. not (runs_before c b)) front (b ∷ back), list_all-back b front best.before_front, best.none_after, runs_before-self b) in
    find-past b front back front (b ∷ back) best.before_front ∙ grind (arith, first)

-- what a further runnable makes of the best
IsBest-kept : (front : List Runnable) (b : Runnable) (back : List Runnable) (c : Runnable) → IsBest front b back →
    runs_before c b ≡ false → IsBest front b (back ++ c ∷ [])
IsBest-kept front b back c best h = record {
  before_front = best.before_front;
  none_after = grind (arith, list_all-append (λ a. not (runs_before a b)) back (c ∷ []), best.none_after);
}

IsBest-changed : (front : List Runnable) (b : Runnable) (back : List Runnable) (c : Runnable) → IsBest front b back →
    runs_before c b ≡ true → IsBest (front ++ b ∷ back) c []
IsBest-changed front b back c best h = record {
  before_front = grind (arith, list_all-append (λ a. runs_before c a) front (b ∷ back), list_all-through c b front h best.before_front, list_all-past c b back h best.none_after);
  none_after = refl;
}

-- a further one: with the better of both, the rest gives the foremost of all
best_of-further : (front : List Runnable) (b : Runnable) (back : List Runnable) (c : Runnable) (rest : List Runnable) → IsBest front b back →
    ((f : List Runnable) (a : Runnable) (k : List Runnable) → IsBest f a k → best_of (Some a) rest ≡ foremost ((f ++ a ∷ k) ++ rest)) →
    (t : Bool) → runs_before c b ≡ t →
    best_of (if t then Some c else Some b) rest ≡ foremost ((front ++ b ∷ back) ++ c ∷ rest)
best_of-further front b back c rest best others true h =
    let e : ((front ++ b ∷ back) ++ c ∷ []) ++ rest ≡ (front ++ b ∷ back) ++ c ∷ rest = append_assoc (front ++ b ∷ back) (c ∷ []) rest in
    others (front ++ b ∷ back) c [] (IsBest-changed front b back c best h) ∙ ap foremost e
best_of-further front b back c rest best others false h =
    let e : (front ++ b ∷ (back ++ c ∷ [])) ++ rest ≡ (front ++ b ∷ back) ++ c ∷ rest =
    append_assoc front (b ∷ (back ++ c ∷ [])) rest
    ∙ ap (λ (l : List Runnable). front ++ b ∷ l) (append_assoc back (c ∷ []) rest)
    ∙ sym (append_assoc front (b ∷ back) (c ∷ rest)) in
    others front b (back ++ c ∷ []) (IsBest-kept front b back c best h) ∙ ap foremost e

best_of-some : (front : List Runnable) (b : Runnable) (back rest : List Runnable) → IsBest front b back →
    best_of (Some b) rest ≡ foremost ((front ++ b ∷ back) ++ rest)
best_of-some front b back [] best =
    let e : (front ++ b ∷ back) ++ [] ≡ front ++ b ∷ back = append-nil (front ++ b ∷ back) in
    sym (ap foremost e ∙ foremost-best front b back best)
best_of-some front b back (c ∷ rest) best =
    best_of-further front b back c rest best (λ f a k h. best_of-some f a k rest h) (runs_before c b) refl

pub best_of-foremost : (cs : List Runnable) → best_of None cs ≡ foremost cs
best_of-foremost [] = refl
best_of-foremost (c ∷ cs) = best_of-some [] c [] cs (record { before_front = refl; none_after = refl })
