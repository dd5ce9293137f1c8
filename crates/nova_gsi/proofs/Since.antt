-- A deadline has stood since the turn that set it.
use Rattle.std.proofs.Common.{◌≡◌, ℕ, zero, suc, List, [], ◌∷◌, ◌++◌, refl, sym, ap, ◌∙◌, subst, inl, inr}
use Rattle.std.specs.Prelude.{◌⊎◌, take, slice_get, Option, Some, None}
use Rattle.nova_model.specs.Boot.{Scenario, bare, boot, with_images}
use Rattle.nova_model.specs.Runs.{after, run}
use Rattle.nova_model.specs.Sources.{Source, with_source}
use Rattle.nova_model.specs.State.{KernelState, deadline_of, entry}
use Rattle.nova_model.specs.Times.{Times}
use Rattle.nova_model.specs.declared.times.Deadline.{Deadline}
use Rattle.law_forest.proofs.Boots.{sources_keep}
use Rattle.law_turns.proofs.Passes.{run_append}
use Rattle.law_turns.proofs.Setting.{entry_joined}
use Rattle.nova_gsi.specs.Deadlines.{HasStood}
use Rattle.nova_gsi.proofs.Boots.{images_alarms, joined_all, nothing_more}
use Rattle.nova_gsi.proofs.Setters.{sets_own}

-- A BOOT STATE HAS NONE

abbrev HasNone : Times → Type 0
HasNone t = (ec : ℕ) (d : Deadline) → deadline_of t ec ≡ Some d → ⊥

abbrev of_three : List (Option Deadline)
of_three = None ∷ None ∷ None ∷ []

none_there : (ec : ℕ) (d : Deadline) → entry (slice_get of_three ec) ≡ Some d → ⊥
none_there zero d is = absurd cc
none_there (suc zero) d is = absurd cc
none_there (suc (suc zero)) d is = absurd cc
none_there (suc (suc (suc n))) d is = absurd cc

source_none : (k : KernelState) (s : Source) → HasNone k.times → HasNone (with_source k s).times
source_none k s none ec d is = elim (entry_joined k.times.deadlines None ec d is) [
  | inl there ↦ none ec d there
  | inr new ↦ absurd (let nothing = new.1 in cc)
]

boot_none : (s : Scenario) → HasNone (boot s).times
boot_none s =
    sources_keep (λ (k : KernelState). HasNone k.times) source_none (with_images (bare s.cpus s.ram s.consoles s.root) s.images) s.sources
    (subst HasNone (sym (images_alarms (bare s.cpus s.ram s.consoles s.root) s.images)) none_there)

-- A TURN MORE

take_none : (n : ℕ) → take {A = ℕ} n [] ≡ []
take_none zero = refl
take_none (suc n) = refl

taken_more : (xs : List ℕ) (y n : ℕ) → (take n (xs ++ y ∷ []) ≡ take n xs) ⊎ (take n (xs ++ y ∷ []) ≡ xs ++ y ∷ [])
taken_more [] y zero = inl refl
taken_more [] y (suc n) = inr (ap (λ (rest : List ℕ). y ∷ rest) (take_none n))
taken_more (x ∷ xs) y zero = inl refl
taken_more (x ∷ xs) y (suc n) = elim (taken_more xs y n) [
  | inl fewer ↦ inl (ap (λ (rest : List ℕ). x ∷ rest) fewer)
  | inr all ↦ inr (ap (λ (rest : List ℕ). x ∷ rest) all)
]

append_on : (xs ys zs : List ℕ) → (xs ++ ys) ++ zs ≡ xs ++ (ys ++ zs)
append_on [] ys zs = refl
append_on (x ∷ xs) ys zs = ap (λ (rest : List ℕ). x ∷ rest) (append_on xs ys zs)

longer : (k : KernelState) (so_far : List ℕ) (p ec : ℕ) (d : Deadline) → HasStood k so_far ec d → deadline_of (after (run k so_far) p).times ec ≡ Some d →
    HasStood k (so_far ++ p ∷ []) ec d
longer k so_far p ec d h here = record { before = h.before; cpu = h.cpu; since = h.since ++ p ∷ []; parts = parts; sets = h.sets; stands = λ n. by_count n (taken_more h.since p n) }
  where
    parts : so_far ++ p ∷ [] ≡ h.before ++ h.cpu ∷ (h.since ++ p ∷ [])
    parts = ap (λ (xs : List ℕ). xs ++ p ∷ []) h.parts ∙ append_on h.before (h.cpu ∷ h.since) (p ∷ [])

    last : run (after (run k h.before) h.cpu) (h.since ++ p ∷ []) ≡ after (run k so_far) p
    last = sym (run_append k h.before (h.cpu ∷ (h.since ++ p ∷ []))) ∙ ap (run k) (sym parts) ∙ run_append k so_far (p ∷ [])

    by_count : (n : ℕ) → (take n (h.since ++ p ∷ []) ≡ take n h.since) ⊎ (take n (h.since ++ p ∷ []) ≡ h.since ++ p ∷ []) →
        deadline_of (run (after (run k h.before) h.cpu) (take n (h.since ++ p ∷ []))).times ec ≡ Some d
    by_count n (inl fewer) = ap (λ (xs : List ℕ). deadline_of (run (after (run k h.before) h.cpu) xs).times ec) fewer ∙ h.stands n
    by_count n (inr all) =
        ap (λ (xs : List ℕ). deadline_of (run (after (run k h.before) h.cpu) xs).times ec) all ∙ ap (λ (l : KernelState). deadline_of l.times ec) last ∙ here

abbrev AllStood : Scenario → List ℕ → Type 0
AllStood s turns = (ec : ℕ) (d : Deadline) → deadline_of (run (boot s) turns).times ec ≡ Some d → HasStood (boot s) turns ec d

one_more : (s : Scenario) (so_far : List ℕ) (p : ℕ) → AllStood s so_far → AllStood s (so_far ++ p ∷ [])
one_more s so_far p h ec d there = elim (sets_own s so_far p ec d here) [
  | inl old ↦ longer (boot s) so_far p ec d (h ec d old) here
  | inr new ↦
      record {
        before = so_far;
        cpu = p;
        since = [];
        parts = refl;
        sets = new;
        stands = λ n. ap (λ (xs : List ℕ). deadline_of (run (after (run (boot s) so_far) p) xs).times ec) (take_none n) ∙ here;
      }
]
  where
    here : deadline_of (after (run (boot s) so_far) p).times ec ≡ Some d
    here = ap (λ (l : KernelState). deadline_of l.times ec) (sym (run_append (boot s) so_far (p ∷ []))) ∙ there

all_stood : (s : Scenario) (so_far turns : List ℕ) → AllStood s so_far → AllStood s (so_far ++ turns)
all_stood s so_far [] h = subst (AllStood s) (nothing_more so_far) h
all_stood s so_far (p ∷ turns) h = subst (AllStood s) (joined_all so_far p turns) (all_stood s (so_far ++ p ∷ []) turns (one_more s so_far p h))

pub has_stood : (s : Scenario) (turns : List ℕ) (ec : ℕ) (d : Deadline) → deadline_of (run (boot s) turns).times ec ≡ Some d → HasStood (boot s) turns ec d
has_stood s turns = all_stood s [] turns (λ ec d there. absurd (boot_none s ec d there))
