-- Ends that are entered one by one.
use Rattle.std.proofs.Common.{◌≡◌, ◌⊎◌, ◌∙◌, ℕ, zero, suc, ◌+◌, ◌<◌, ◌≤◌, List, [], ◌∷◌, ◌++◌, length, refl, ap, ap₂, subst, sym, arith, inl, inr}
use Rattle.std.specs.Prelude.{Contains, Option, None, Some, true, slice_index_or, slice_set}
use Rattle.std.specs.List.{AllByRecursion}
use Rattle.std.proofs.lemmas.List.{get_or-map, length-map, map-append}
use Rattle.std.proofs.lemmas.List.Elements.{Contains-append_left, Contains-push, Contains-push_cases}
use Rattle.nova_model.specs.Choice.{is_quiet}
use Rattle.nova_model.specs.State.{KernelState}
use Rattle.nova_search.specs.Searches.{state_at}
use Rattle.nova_search.specs.declared.found.Found.{Found}
use Rattle.nova_compare.proofs.Places.{place}
use Rattle.nova_asking.specs.Answers.{AreDistinct, EndsSo, IsEnd, outcomes}
use Rattle.nova_asking.specs.Searched.{HaveOutcomes, HaveSoFar, IsPlaceOf, KeepEnds, LeadThere, one_more}
use Rattle.nova_asking.specs.Outcomes.{outcome}
use Rattle.nova_asking.specs.declared.ends.End.{End}

abbrev pub outcome_of : End → List ℕ
outcome_of e = e.outcome.items

pub outcome_at : (ends : List End) (i : ℕ) (e : End) (text : List ℕ) → i < length ends → e ≡ slice_index_or ends i e → outcome_of e ≡ text →
    (d : List ℕ) → slice_index_or (outcomes ends) i d ≡ text
outcome_at ends i e text less is same d = get_or-map outcome_of ends i e d less ∙ ap outcome_of (sym is) ∙ same

-- an end that changes in its count alone
same_outcomes : (ends : List End) (i : ℕ) (e : End) → outcome_of e ≡ outcome_of (slice_index_or ends i e) → outcomes (slice_set ends i e) ≡ outcomes ends
same_outcomes [] i e same = refl
same_outcomes (x ∷ xs) zero e same = ap (λ (t : List ℕ). t ∷ outcomes xs) same
same_outcomes (x ∷ xs) (suc i) e same = ap (λ (l : List (List ℕ)). outcome_of x ∷ l) (same_outcomes xs i e same)

any_default : (l : List End) (n : ℕ) (a b : End) → n < length l → slice_index_or l n a ≡ slice_index_or l n b
any_default [] n a b less = absurd (omega (arith, less))
any_default (x ∷ l) zero a b less = refl
any_default (x ∷ l) (suc n) a b less = any_default l n a b (omega (arith, less))

pub counted_outcomes : (ends : List End) (i : ℕ) (x e : End) → i < length ends → x ≡ slice_index_or ends i x → outcome_of e ≡ outcome_of x → outcomes (slice_set ends i e) ≡ outcomes ends
counted_outcomes ends i x e less is same = same_outcomes ends i e (same ∙ ap outcome_of (is ∙ any_default ends i x e less))

-- and that by one
pub raised : (ends : List End) (i : ℕ) (d x y e : End) (n : ℕ) → i < length ends → x ≡ slice_index_or ends i x → y ≡ slice_index_or ends i y → (y.states + 1 < 18446744073709551616 → n ≡ y.states + 1) →
    e ≡ record x { states = n } → (slice_index_or ends i d).states + 1 < 18446744073709551616 → slice_set ends i e ≡ slice_set ends i (one_more (slice_index_or ends i d))
raised ends i d x y e n less is too sum same room =
    ap (λ (z : End). slice_set ends i z)
    (same ∙ ap (λ (m : ℕ). record x { states = m }) (sum (subst (λ (z : End). z.states + 1 < 18446744073709551616) (sym other) room)) ∙ ap₂ (λ (a b : End). record a { states = b.states + 1 }) here other)
  where
    here : x ≡ slice_index_or ends i d
    here = is ∙ any_default ends i x d less

    other : y ≡ slice_index_or ends i d
    other = too ∙ any_default ends i y d less

pub all_set : {T : Type 0} (P : T → Type 0) (xs : List T) (i : ℕ) (x : T) → (P (slice_index_or xs i x) → P x) → AllByRecursion P xs → AllByRecursion P (slice_set xs i x)
all_set P [] i x goes each = each
all_set P (y ∷ xs) zero x goes each = (goes each.0, each.1)
all_set P (y ∷ xs) (suc i) x goes each = (each.0, all_set P xs i x goes each.1)

pub all_more : {T : Type 0} (P : T → Type 0) (xs : List T) (x : T) → AllByRecursion P xs → P x → AllByRecursion P (xs ++ x ∷ [])
all_more P [] x each is = (is, tt)
all_more P (y ∷ xs) x each is = (each.0, all_more P xs x each.1 is)

pub same_kept : (ends : List End) → KeepEnds ends ends
same_kept ends = record { outcomes = λ text there. there; once = λ once. once }

pub counted_kept : (old new : List End) → outcomes new ≡ outcomes old → KeepEnds old new
counted_kept old new same = record {
  outcomes = λ text there. subst (λ (l : List (List ℕ)). Contains l text) (sym same) there;
  once = λ once. subst AreDistinct (sym same) once;
}

distinct_more : (xs : List (List ℕ)) (y : List ℕ) → (Contains xs y → ⊥) → AreDistinct xs → AreDistinct (xs ++ y ∷ [])
distinct_more [] y new once = ((λ there. absurd (let is = there.1 in omega (arith, is))), tt)
distinct_more (x ∷ xs) y new once = (λ there. by_case (Contains-push_cases xs y x there), distinct_more xs y (λ there. new (behind there)) once.1)
  where
    behind : Contains xs y → Contains (x ∷ xs) y
    behind there = (suc there.0, (let is = there.1 in omega (arith, is)), there.2)

    by_case : Contains xs x ⊎ (y ≡ x) → ⊥
    by_case (inl there) = once.0 there
    by_case (inr same) = new (0, omega arith, sym same)

outcomes_more : (ends : List End) (e : End) → outcomes (ends ++ e ∷ []) ≡ outcomes ends ++ outcome_of e ∷ []
outcomes_more ends e = map-append outcome_of ends (e ∷ [])

pub pushed_kept : (ends : List End) (e : End) → (Contains (outcomes ends) (outcome_of e) → ⊥) → KeepEnds ends (ends ++ e ∷ [])
pushed_kept ends e new = record {
  outcomes = λ text there. subst (λ (l : List (List ℕ)). Contains l text) (sym (outcomes_more ends e)) (Contains-append_left (outcomes ends) (outcome_of e ∷ []) text there);
  once = λ once. subst AreDistinct (sym (outcomes_more ends e)) (distinct_more (outcomes ends) (outcome_of e) new once);
}

pub pushed_lead : (k : KernelState) (limit : ℕ) (ends : List End) (e : End) → IsEnd k limit e → LeadThere k limit ends (ends ++ e ∷ [])
pushed_lead k limit ends e is each = all_more (IsEnd k limit) ends e each is

pub pushed_there : (ends : List End) (e : End) (text : List ℕ) → outcome_of e ≡ text → Contains (outcomes (ends ++ e ∷ [])) text
pushed_there ends e text same =
    subst (λ (l : List (List ℕ)). Contains l text) (sym (outcomes_more ends e))
    (subst (λ (t : List ℕ). Contains (outcomes ends ++ outcome_of e ∷ []) t) same (Contains-push (outcomes ends) (outcome_of e)))

-- what is told of an outcome that is there
pub some_by : (ends es : List End) (text t : List ℕ) (o : Option ℕ) (at : ℕ) → IsPlaceOf es t o → o ≡ Some at → es ≡ ends → t ≡ text → IsPlaceOf ends text (Some at)
some_by ends es text t o at is same equal there =
    subst (λ (x : List ℕ). IsPlaceOf ends x (Some at)) there (subst (λ (l : List End). IsPlaceOf l t (Some at)) equal (subst (λ (x : Option ℕ). IsPlaceOf es t x) same is))

pub there_by : (ends : List End) (at : ℕ) (text : List ℕ) → IsPlaceOf ends text (Some at) → Contains (outcomes ends) text
there_by ends at text (less, is) = (at, (let long = length-map ends outcome_of in omega (arith, less, long)), is text)

-- what is told of an outcome that is not there
pub none_by : (ends es : List End) (text t : List ℕ) (o : Option ℕ) → IsPlaceOf es t o → o ≡ None → es ≡ ends → t ≡ text → Contains (outcomes ends) text → ⊥
none_by ends es text t o is none same equal there =
    let not : Contains (outcomes es) t → ⊥ = subst (λ (x : Option ℕ). IsPlaceOf es t x) none is in
    not (subst (λ (l : List End). Contains (outcomes l) t) (sym same) (subst (λ (x : List ℕ). Contains (outcomes ends) x) (sym equal) there))

-- the outcome of the state at a place, as code reads it
pub at_place : (found : List Found) (place : ℕ) (texts : List (List ℕ)) (text : List ℕ) → ((d : KernelState) → text ≡ outcome (state_at found place d)) → Contains texts text →
    (d : KernelState) → Contains texts (outcome (state_at found place d))
at_place found place texts text same there d = subst (λ (t : List ℕ). Contains texts t) (same d) there

-- where no end has an outcome, it isn't there
pub none_there : (ends : List End) (i : ℕ) (text : List ℕ) → ((d : End) (j : ℕ) → j < i → outcome_of (slice_index_or ends j d) ≡ text → ⊥) → length ends ≤ i →
    Contains (outcomes ends) text → ⊥
none_there [] i text none all there = absurd (let is = there.1 in omega (arith, is))
none_there (x ∷ ends) i text none all there =
    let long = length-map (x ∷ ends) outcome_of in
    let is = there.1 in
    let less : there.0 < length (x ∷ ends) = omega (arith, is, long) in
    none x there.0 (omega (arith, less, all)) (sym (get_or-map outcome_of (x ∷ ends) there.0 x text less) ∙ there.2)

pub have_all : (states : List KernelState) (i : ℕ) (texts : List (List ℕ)) → HaveSoFar states i texts → length states ≤ i → HaveOutcomes states texts
have_all states i texts have all = record {
  each = λ s there quiet. subst (λ (x : KernelState). Contains texts (outcome x)) there.2
      (have s there.0 (let is = there.1 in omega (arith, is, all)) (subst (λ (x : KernelState). is_quiet x ≡ true) (sym there.2) quiet));
}

pub have_on : (states : List KernelState) (i : ℕ) (old new : List (List ℕ)) → HaveSoFar states i old → ((text : List ℕ) → Contains old text → Contains new text) →
    ((d : KernelState) → is_quiet (slice_index_or states i d) ≡ true → Contains new (outcome (slice_index_or states i d))) → HaveSoFar states (i + 1) new
have_on states i old new have kept here d j less quiet = by_place (place j i less)
  where
    by_place : (j < i) ⊎ (j ≡ i) → Contains new (outcome (slice_index_or states j d))
    by_place (inl is) = kept (outcome (slice_index_or states j d)) (have d j is quiet)
    by_place (inr same) = subst (λ (n : ℕ). Contains new (outcome (slice_index_or states n d))) (sym same)
        (here d (subst (λ (n : ℕ). is_quiet (slice_index_or states n d) ≡ true) same quiet))

-- where an outcome is not among those so far, no run has ended so in a state before the place
pub not_before : (states : List KernelState) (place : ℕ) (texts : List (List ℕ)) (text : List ℕ) → HaveSoFar states place texts → (Contains texts text → ⊥) →
    (i : ℕ) (d : KernelState) → i < place → EndsSo (slice_index_or states i d) text → ⊥
not_before states place texts text have none i d less ends =
    none (subst (λ (t : List ℕ). Contains texts t) (sym ends.outcome) (have d i less ends.quiet))
