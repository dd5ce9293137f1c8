-- The choice in plain terms: the chosen scheduling context may run, and runs behind none that may.
use Rattle.std.proofs.Common.{◌≡◌, ℕ, zero, suc, ◌+◌, List, [], ◌∷◌, refl, ap, sym, subst, ◌∙◌, inl, inr, arith}
use Rattle.std.specs.Prelude.{◌==◌, ◌&&◌, Bool, true, false, not, cond, nat_lt, is_some, Option, Some, None, MatchOption, option_map, if◌then◌else◌}
use Rattle.std.specs.List.{find, list_all}
use Rattle.nova_model.specs.Choice.{in_front}
use Rattle.nova_sched.specs.Queues.{Schedule, queued_at, next, runnables, runnables_from, runs_before}
use Rattle.nova_sched.specs.Lists.{entry_in}
use Rattle.nova_sched.specs.Best.{foremost}
use Rattle.nova_sched.specs.Ready.{as_runnable}
use Rattle.nova_sched.specs.Precedence.{MayRun, NobodyMayRun, IsNotBehind, IsForemost, ChosenIsForemost}
use Rattle.nova_sched.specs.declared.queued.Queued.{Queued}
use Rattle.nova_sched.specs.declared.queued.Runnable.{Runnable}
use Rattle.nova_sched.proofs.Foremost.{best_of, best_of-foremost}

-- what passes of all that are runnable passes of each that may run

front_passes : (p : Runnable → Bool) (o : Option Runnable) (rs : List Runnable) (r : Runnable) → o ≡ Some r → list_all p (in_front o rs) ≡ true → p r ≡ true
front_passes p None rs r is all = absurd cc
front_passes p (Some x) rs r is all = let same : x ≡ r = cc in let first : p x ≡ true = grind arith in sym (ap p same) ∙ first

rest_passes : (p : Runnable → Bool) (o : Option Runnable) (rs : List Runnable) → list_all p (in_front o rs) ≡ true → list_all p rs ≡ true
rest_passes p None rs all = all
rest_passes p (Some x) rs all = grind arith

each_passes : (p : Runnable → Bool) (cpu n : ℕ) (os : List (Option Queued)) (i : ℕ) (e : Queued) → entry_in os i ≡ Some e → MayRun cpu e →
    list_all p (runnables_from cpu n os) ≡ true → p (as_runnable (n + i) e) ≡ true
each_passes p cpu n [] i e is may all = absurd cc
each_passes p cpu n (None ∷ os) zero e is may all = absurd cc
each_passes p cpu n (None ∷ os) (suc i) e is may all =
    ap (λ (k : ℕ). p (as_runnable k e)) (let same : n + suc i ≡ n + 1 + i = omega arith in same) ∙ each_passes p cpu (n + 1) os i e is may all
each_passes p cpu n (Some x ∷ os) zero e is may all =
    let same : x ≡ e = cc in
    let its_cpu : (x.cpu == cpu) ≡ true = grind (arith, ap (λ (y : Queued). y.cpu) same, may.its_cpu) in
    let runs : x.is_runnable ≡ true = ap (λ (y : Queued). y.is_runnable) same ∙ may.runnable in
    let front = front_passes p (if (x.cpu == cpu) && x.is_runnable then Some (as_runnable n x) else None) (runnables_from cpu (n + 1) os) (as_runnable n x) (rw (its_cpu, runs) refl) all in
    ap (λ (k : ℕ). p (as_runnable k e)) (let here : n + 0 ≡ n = omega arith in here) ∙ sym (ap (λ (y : Queued). p (as_runnable n y)) same) ∙ front
each_passes p cpu n (Some x ∷ os) (suc i) e is may all =
    ap (λ (k : ℕ). p (as_runnable k e)) (let same : n + suc i ≡ n + 1 + i = omega arith in same)
    ∙ each_passes p cpu (n + 1) os i e is may (rest_passes p (if (x.cpu == cpu) && x.is_runnable then Some (as_runnable n x) else None) (runnables_from cpu (n + 1) os) all)

-- what is found may run, and passes
record IsOf (p : Runnable → Bool) (cpu n : ℕ) (os : List (Option Queued)) (r : Runnable) : Type 0 where
  place : ℕ
  of : Queued
  there : entry_in os place ≡ Some of
  may_run : MayRun cpu of
  is : r ≡ as_runnable (n + place) of
  passes : p r ≡ true

later : (p : Runnable → Bool) (cpu n : ℕ) (o : Option Queued) (os : List (Option Queued)) (r : Runnable) → IsOf p cpu (n + 1) os r → IsOf p cpu n (o ∷ os) r
later p cpu n o os r h = record {
  place = suc h.place;
  of = h.of;
  there = h.there;
  may_run = h.may_run;
  is = h.is ∙ ap (λ (k : ℕ). as_runnable k h.of) (let same : n + 1 + h.place ≡ n + suc h.place = omega arith in same);
  passes = h.passes;
}

found_of : (p : Runnable → Bool) (cpu n : ℕ) (os : List (Option Queued)) (r : Runnable) → find p (runnables_from cpu n os) ≡ Some r → IsOf p cpu n os r
found_of p cpu n [] r found = absurd cc
found_of p cpu n (None ∷ os) r found = later p cpu n None os r (found_of p cpu (n + 1) os r found)
found_of p cpu n (Some e ∷ os) r found = by_tests (e.cpu == cpu) refl e.is_runnable refl found (found_of p cpu (n + 1) os r)
  where
    by_pass : (t : Bool) → p (as_runnable n e) ≡ t → e.cpu ≡ cpu → e.is_runnable ≡ true → cond t (Some (as_runnable n e)) (find p (runnables_from cpu (n + 1) os)) ≡ Some r →
        (find p (runnables_from cpu (n + 1) os) ≡ Some r → IsOf p cpu (n + 1) os r) → IsOf p cpu n (Some e ∷ os) r
    by_pass true pass its_cpu runs h others =
        let same : as_runnable n e ≡ r = cc in record {
          place = 0;
          of = e;
          there = refl;
          may_run = record { its_cpu = its_cpu; runnable = runs };
          is = sym same ∙ ap (λ (k : ℕ). as_runnable k e) (let here : n ≡ n + 0 = omega arith in here);
          passes = sym (ap p same) ∙ pass;
        }
    by_pass false pass its_cpu runs h others = later p cpu n (Some e) os r (others h)

    by_tests : (t : Bool) → (e.cpu == cpu) ≡ t → (u : Bool) → e.is_runnable ≡ u →
        find p (in_front (if t && u then Some (as_runnable n e) else None) (runnables_from cpu (n + 1) os)) ≡ Some r →
        (find p (runnables_from cpu (n + 1) os) ≡ Some r → IsOf p cpu (n + 1) os r) → IsOf p cpu n (Some e ∷ os) r
    by_tests true its_cpu true runs h others = by_pass (p (as_runnable n e)) refl (grind (arith, its_cpu)) runs h others
    by_tests true its_cpu false runs h others = later p cpu n (Some e) os r (others h)
    by_tests false its_cpu u runs h others = later p cpu n (Some e) os r (others h)

-- there is a foremost wherever any is runnable
best_there : (b : Runnable) (rs : List Runnable) → is_some (best_of (Some b) rs) ≡ true
best_there b [] = refl
best_there b (r ∷ rs) = by_test (runs_before r b) (best_there r rs) (best_there b rs)
  where
    by_test : (t : Bool) → is_some (best_of (Some r) rs) ≡ true → is_some (best_of (Some b) rs) ≡ true → is_some (best_of (if t then Some r else Some b) rs) ≡ true
    by_test true with_it without = with_it
    by_test false with_it without = without

none_runnable : (rs : List Runnable) → foremost rs ≡ None → rs ≡ []
none_runnable [] h = refl
none_runnable (r ∷ rs) h =
    let there : is_some (foremost (r ∷ rs)) ≡ true = sym (ap is_some (best_of-foremost (r ∷ rs))) ∙ best_there r rs in
    let none : is_some (foremost (r ∷ rs)) ≡ false = ap is_some h in
    absurd (cc)

pub not_behind : (a b : Queued) (n m : ℕ) → not (runs_before (as_runnable m b) (as_runnable n a)) ≡ true → IsNotBehind a b
not_behind a b n m h = by_priority (nat_lt b.priority a.priority) refl
  where
    by_priority : (t : Bool) → nat_lt b.priority a.priority ≡ t → IsNotBehind a b
    by_priority true is = inl (grind arith)
    by_priority false is = let same : b.priority ≡ a.priority = grind arith in inr (same, grind arith)

foremost_of : (s : Schedule) (cpu : ℕ) (r : Runnable) → foremost (runnables s cpu) ≡ Some r → IsForemost s cpu r.sc
foremost_of s cpu r found =
    let of = found_of (λ a. list_all (λ b. not (runs_before b a)) (runnables s cpu)) cpu 0 s.entries r found in
    let number : r.sc ≡ of.place = ap (λ (x : Runnable). x.sc) of.is ∙ (let e : 0 + of.place ≡ of.place = omega arith in e) in record {
      chosen = of.of;
      there = ap (queued_at s) number ∙ of.there;
      may_run = of.may_run;
      first = λ other o there may. not_behind of.of o (0 + of.place) (0 + other)
          (subst (λ (x : Runnable). not (runs_before (as_runnable (0 + other) o) x) ≡ true) of.is
          (each_passes (λ b. not (runs_before b r)) cpu 0 s.entries other o there may of.passes));
    }

nobody_of : (s : Schedule) (cpu : ℕ) → foremost (runnables s cpu) ≡ None → NobodyMayRun s cpu
nobody_of s cpu none sc e there may =
    let all : list_all (λ (r : Runnable). false) (runnables s cpu) ≡ true = ap (list_all (λ (r : Runnable). false)) (none_runnable (runnables s cpu) none) in
    let wrong : false ≡ true = each_passes (λ r. false) cpu 0 s.entries sc e there may all in
    absurd (cc)

pub chosen_is_foremost : ChosenIsForemost
unfolding next
chosen_is_foremost s cpu = by_found (foremost (runnables s cpu)) refl
  where
    by_found : (o : Option Runnable) → foremost (runnables s cpu) ≡ o → MatchOption (option_map (λ (r : Runnable). r.sc) o) (NobodyMayRun s cpu) (IsForemost s cpu)
    by_found None is = nobody_of s cpu is
    by_found (Some r) is = foremost_of s cpu r is
