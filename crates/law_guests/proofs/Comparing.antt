-- A virtual CPU in two runs with equal views and equal inputs: what they end with, and what a comparison of the two says.
use Rattle.std.proofs.Common.{◌≡◌, ℕ, List, [], ◌∷◌, ◌++◌, length, refl, sym, ap, ap₂, ◌∙◌, subst, arith}
use Rattle.std.specs.Prelude.{◌==◌, Bool, true, false, filter, min, if◌then◌else◌}
use Rattle.std.specs.List.{AllByRecursion}
use Rattle.std.proofs.lemmas.Bool.{eqb-true}
use Rattle.nova_guest.specs.declared.guest.Guest.{Guest}
use Rattle.nova_guest.specs.declared.input.Input.{Input}
use Rattle.nova_model.specs.Boot.{Scenario, boot}
use Rattle.nova_model.specs.Runs.{run}
use Rattle.nova_model.specs.State.{pd_of}
use Rattle.law_isolation.specs.Sound.{IsVirtual}
use Rattle.law_isolation.specs.Stretches.{BeginEqual, Stretch, inputs_in}
use Rattle.law_isolation.proofs.Runs.{reached_sound}
use Rattle.law_isolation.proofs.Shows.{stretches}
use Rattle.law_renaming.specs.Forced.{agree, forced, once}
use Rattle.law_renaming.specs.Verdicts.{Differ, Equal, IsVerdict, SayTheSame, Verdict, Views, compared, most}
use Rattle.law_guests.proofs.Facts.{ComparingFacts, ViewFacts}
use Rattle.law_integrity.specs.Confined.{Of}
use Rattle.law_flow.specs.Flow.{AreAlike, AreAtWork, IsPartitioned, fixed}
use Rattle.law_flow.proofs.Away.{GoesHome}
use Rattle.law_flow.proofs.Home.{AreTogether}
use Rattle.law_flow.proofs.Turns.{alike_flipped}
use Rattle.law_guests.specs.Guests.{AreOneGuest, SaysEqual, only, turns_of, watched}
use Rattle.law_guests.proofs.Along.{inputs_along}
use Rattle.law_guests.proofs.Telling.{guest_part}
use Rattle.law_guests.proofs.Views.{domain_same, view_same, virtual_same}

-- WHAT A COMPARISON SAYS

compared_itself : ComparingFacts → (u : Guest) (is : List Input) → compared u u is is ≡ Equal (length is) (once (forced u u is is))
compared_itself c u is =
    ap (λ (t : Bool). if t then (if agree u u is is then equal else differ) else Views) (c.found (λ a b. a == b) u u [] [] (c.same u []))
    ∙ ap (λ (t : Bool). if t then equal else differ) (c.found (λ a b. a == b) u u is is (c.same u is))
  where
    equal : Verdict
    equal = Equal (length is) (once (forced u u is is))

    differ : Verdict
    differ = Differ (most u u is is (min (length is) (length is)))

says_equal : ComparingFacts → (u : Guest) (is js : List Input) (v : Verdict) → js ≡ is → IsVerdict u u is js v → SaysEqual (length is) v
says_equal c u is js v same holds = by_verdict v (c.alone u u is is v (Equal (length is) (once (forced u u is is))) here itself)
  where
    here : IsVerdict u u is is v
    here = subst (λ (l : List Input). IsVerdict u u is l v) same holds

    itself : IsVerdict u u is is (Equal (length is) (once (forced u u is is)))
    itself = subst (IsVerdict u u is is) (compared_itself c u is) (c.holds u u is is)

    by_verdict : (x : Verdict) → SayTheSame x (Equal (length is) (once (forced u u is is))) → SaysEqual (length is) x
    by_verdict (Equal inputs pairs) says = says.0
    by_verdict Views says = absurd says
    by_verdict (Differ inputs) says = absurd says

-- ONE GUEST

one_guest : ComparingFacts → (a b : Stretch) → BeginEqual a b → AreOneGuest a b
one_guest c a b begins = record {
  begins = begins;
  ends = stretches a b begins;
  compares = λ start past v holds. says_equal c start (past ++ inputs_in a) (past ++ inputs_in b) v (ap (λ (is : List Input). past ++ is) (sym begins.inputs)) holds;
}

pub guests_home : ViewFacts → ComparingFacts → (revokes : Bool) (a b : Scenario) (before since turns others : List ℕ) (S P C : ℕ → Bool) (T U : ℕ → Type 0) (g : ℕ) →
    IsPartitioned (run (boot a) before) (Of S) T (Of P) → GoesHome false (run (boot a) before) S P C T turns → AreAtWork (fixed revokes) S (run (boot a) before) turns → GoesHome false (run (boot b) since) S P C U others →
    AreAlike (run (boot a) before) (run (boot b) since) (Of S) (Of P) → AreTogether (fixed revokes) (run (boot a) before) (run (boot b) since) S P C → filter C turns ≡ filter C others →
    IsVirtual (run (boot a) before) g → S (pd_of (run (boot a) before) g) ≡ true → AreOneGuest (watched a before g turns) (watched b since g others)
guests_home f c revokes a b before since turns others S P C T U g part goes works also alike timed same virtual mine =
    let k = run (boot a) before in
    let l = run (boot b) since in
    let p = guest_part k S (Of P) part.side g virtual mine in
    let theirs : IsVirtual (run (boot b) since) g = virtual_same k l (Of S) (Of P) alike g p virtual in
    let domain : S (pd_of (run (boot b) since) g) ≡ true = ap S (domain_same k l (Of S) (Of P) alike g p) ∙ mine in
    let meets = inputs_along f revokes S P C turns others k l T U g goes works also alike timed (record { virtual = virtual; mine = mine }) (record { virtual = theirs; mine = domain }) same in
    one_guest c (watched a before g turns) (watched b since g others) (record {
      first = virtual;
      second = theirs;
      views = sym (view_same f k l (Of S) (Of P) alike (alike_flipped k l (Of S) (Of P) alike) (reached_sound a before) (reached_sound b since) g p mine virtual);
      inputs = sym meets;
    })

-- ON ONE PROCESSOR

-- turns of it are as many
pub one_order : (cpu : ℕ) (turns others : List ℕ) → turns_of cpu turns ≡ turns_of cpu others → filter (only cpu) turns ≡ filter (only cpu) others
one_order cpu turns others same = same_lists (filter (only cpu) turns) (filter (only cpu) others) (all_only turns) (all_only others) same
  where
    all_only : (xs : List ℕ) → AllByRecursion (λ (n : ℕ). n ≡ cpu) (filter (only cpu) xs)
    all_only [] = tt
    all_only (x ∷ xs) = by_test (x == cpu) refl (all_only xs)
      where
        by_test : (t : Bool) → (x == cpu) ≡ t → AllByRecursion (λ (n : ℕ). n ≡ cpu) (filter (only cpu) xs) →
            AllByRecursion (λ (n : ℕ). n ≡ cpu) (if t then x ∷ filter (only cpu) xs else filter (only cpu) xs)
        by_test true is rest = (eqb-true x cpu is, rest)
        by_test false is rest = rest

    same_lists : (xs ys : List ℕ) → AllByRecursion (λ (n : ℕ). n ≡ cpu) xs → AllByRecursion (λ (n : ℕ). n ≡ cpu) ys → length xs ≡ length ys → xs ≡ ys
    same_lists [] [] all also count = refl
    same_lists [] (y ∷ ys) all also count = absurd (omega (arith, count))
    same_lists (x ∷ xs) [] all also count = absurd (omega (arith, count))
    same_lists (x ∷ xs) (y ∷ ys) all also count =
        ap₂ (λ (n : ℕ) (l : List ℕ). n ∷ l) (all.0 ∙ sym also.0) (same_lists xs ys all.1 also.1 (omega (arith, count)))
