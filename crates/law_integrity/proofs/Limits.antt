-- A context that has a deadline set it by right.
use Rattle.std.proofs.Common.{◌≡◌, ℕ, zero, suc, List, [], ◌∷◌, ◌++◌, ◌⊎◌, refl, sym, ap, ◌∙◌, subst, inl, inr}
use Rattle.std.specs.Prelude.{Option, Some, None, option_map}
use Rattle.std.proofs.lemmas.Option.{same_Some}
use Rattle.law_forest.specs.Effects.{Passing}
use Rattle.law_forest.specs.Turns.{Acts as Chosen, Idles as Stays, Passes, Takes, Turning, turned}
use Rattle.law_forest.proofs.Boots.{sources_keep}
use Rattle.law_forest.proofs.Turning.{comes}
use Rattle.law_turns.proofs.Setting.{more_at}
use Rattle.law_turns.proofs.TablesFit.{boot_run_fits}
use Rattle.nova_model.specs.Boot.{Image, Scenario, bare, boot, with_image, with_images}
use Rattle.nova_model.specs.Choice.{Candidate}
use Rattle.nova_model.specs.Runs.{after, run}
use Rattle.nova_model.specs.Sources.{Source, with_source}
use Rattle.nova_model.specs.State.{KernelState, deadline_of}
use Rattle.nova_model.specs.declared.times.Deadline.{Deadline}
use Rattle.law_origins.specs.Giving.{Acts}
use Rattle.law_origins.proofs.Lists.{by_turns, one_more, run_append}
use Rattle.law_integrity.specs.Integrity.{ClearedAwake, ClearedLate, Clears, DeadlineBy, DeadlineByTime, Sets}
use Rattle.law_integrity.specs.Rights.{AsksDown}
use Rattle.law_integrity.specs.Rightful.{IsOwnDeadline}
use Rattle.law_integrity.specs.Waits.{HasSet, Keeps}
use Rattle.law_integrity.proofs.Authorised.{authorised_by}
use Rattle.law_integrity.proofs.Passing.{due_in, turned_by_time}

keeps_more : (k : KernelState) (turns : List ℕ) (cpu n : ℕ) (d : Deadline) → Keeps k turns n d → deadline_of (after (run k turns) cpu).times n ≡ Some d → Keeps k (turns ++ cpu ∷ []) n d
keeps_more k [] cpu n d now next = (now, next)
keeps_more k (c ∷ turns) cpu n d now next = (now.0, keeps_more (after k c) turns cpu n d now.1 next)

-- a deadline that is there after a turn was there before it, or is set in it
abbrev IsSet : KernelState → ℕ → ℕ → Deadline → Type 0
IsSet k cpu n d = (deadline_of k.times n ≡ Some d) ⊎ (Acts k cpu n × AsksDown k n d.sm × IsOwnDeadline k n d.sm d)

set_by : (k : KernelState) (cpu ec n : ℕ) (new : Option Deadline) (d : Deadline) → Acts k cpu ec → new ≡ Some d → DeadlineBy k ec n new → IsSet k cpu n d
set_by k cpu ec n new d acts is (Sets itself x right own set) =
    let same : x ≡ d = same_Some x d (sym set ∙ is) in
    subst (λ (m : ℕ). IsSet k cpu m d) (sym itself) (subst (λ (y : Deadline). IsSet k cpu ec y) same (inr (acts, right, own)))
set_by k cpu ec n new d acts is (Clears sm right rest first none) = absurd (cc)

-- and so after a turn
set_now : (s : Scenario) (turns : List ℕ) (cpu n : ℕ) (d : Deadline) → deadline_of (after (run (boot s) turns) cpu).times n ≡ Some d → IsSet (run (boot s) turns) cpu n d
set_now s turns cpu n d is = elim (comes now cpu) [
  | Stays none quiet same answer ↦ inl (ap (λ (k : KernelState). deadline_of k.times n) (sym same) ∙ is)
  | Takes t e is_ state answer ↦ elim is_ [
    | Chosen c chosen its event ↦
        let acts_ : Acts now cpu c.actor = ap (option_map (λ (d : Candidate). d.actor)) chosen in
        acting c.actor acts_ ((authorised_by s turns cpu c.actor acts_).2.deadlines n)
    | Passes p passes its event ↦
        passing p (deadline_of (turned now cpu t).times n) (ap (λ (k : KernelState). deadline_of k.times n) (sym state) ∙ is)
        (subst (λ (u : Turning). IsOne p (deadline_of (turned now cpu u).times n)) (sym its) ((turned_by_time now cpu p passes (boot_run_fits s turns)).deadlines n))
  ]
]
  where
    now : KernelState
    now = run (boot s) turns

    acting : (ec : ℕ) → Acts now cpu ec → (deadline_of (after now cpu).times n ≡ deadline_of now.times n) ⊎ DeadlineBy now ec n (deadline_of (after now cpu).times n) → IsSet now cpu n d
    acting ec acts_ (inl same) = inl (sym same ∙ is)
    acting ec acts_ (inr by) = set_by now cpu ec n (deadline_of (after now cpu).times n) d acts_ is by

    IsOne : Passing → Option Deadline → Type 0
    IsOne p o = (o ≡ deadline_of now.times n) ⊎ DeadlineByTime now (due_in p) n o

    passing : (p : Passing) (o : Option Deadline) → o ≡ Some d → IsOne p o → IsSet now cpu n d
    passing p o at (inl same) = inl (sym same ∙ at)
    passing p o at (inr (ClearedAwake alarm a its there rest first none)) = absurd (cc)
    passing p o at (inr (ClearedLate its none)) = absurd (cc)

-- AT THE START

abbrev HasNone : KernelState → Type 0
HasNone k = (n : ℕ) → deadline_of k.times n ≡ None

bare_none : (s : Scenario) → HasNone (bare s.cpus s.ram s.consoles s.root)
bare_none s zero = refl
bare_none s (suc zero) = refl
bare_none s (suc (suc zero)) = refl
bare_none s (suc (suc (suc n))) = refl

images_none : (k : KernelState) (images : List Image) → HasNone k → HasNone (with_images k images)
images_none k [] none = none
images_none k (image ∷ images) none = images_none (with_image k image) images none

source_none : (k : KernelState) (source : Source) → HasNone k → HasNone (with_source k source)
source_none k source none n = more_at (λ (o : Option Deadline). o ≡ None) k.times.deadlines None n (none n) (λ old. old)

boot_none : (s : Scenario) → HasNone (boot s)
boot_none s = sources_keep HasNone source_none (with_images (bare s.cpus s.ram s.consoles s.root) s.images) s.sources (images_none _ s.images (bare_none s))

-- ALONG TURNS

pub has_set : (s : Scenario) (turns : List ℕ) (n : ℕ) (d : Deadline) → deadline_of (run (boot s) turns).times n ≡ Some d → HasSet (boot s) turns n d
has_set s =
    by_turns (λ (turns : List ℕ). (n : ℕ) (d : Deadline) → deadline_of (run (boot s) turns).times n ≡ Some d → HasSet (boot s) turns n d)
    (λ n d is. absurd (let none = boot_none s n in cc))
    (λ turns cpu earlier n d is.
    let now : deadline_of (after (run (boot s) turns) cpu).times n ≡ Some d = ap (λ (k : KernelState). deadline_of k.times n) (sym (run_append (boot s) turns (cpu ∷ []))) ∙ is in
    by_case turns cpu n d now (earlier n d) (set_now s turns cpu n d now))
  where
    by_case : (turns : List ℕ) (cpu n : ℕ) (d : Deadline) → deadline_of (after (run (boot s) turns) cpu).times n ≡ Some d →
        (deadline_of (run (boot s) turns).times n ≡ Some d → HasSet (boot s) turns n d) → IsSet (run (boot s) turns) cpu n d → HasSet (boot s) (turns ++ cpu ∷ []) n d
    by_case turns cpu n d now earlier (inl before) =
        let e = earlier before in
        let at : run (boot s) turns ≡ run (after (run (boot s) e.before) e.cpu) e.later = ap (run (boot s)) e.whole ∙ run_append (boot s) e.before (e.cpu ∷ e.later) in
        record {
          before = e.before;
          cpu = e.cpu;
          later = e.later ++ cpu ∷ [];
          whole = one_more turns e.before e.later e.cpu cpu e.whole;
          acts = e.acts;
          right = e.right;
          own = e.own;
          keeps = keeps_more (after (run (boot s) e.before) e.cpu) e.later cpu n d e.keeps (subst (λ (k : KernelState). deadline_of (after k cpu).times n ≡ Some d) at now);
        }
    by_case turns cpu n d now earlier (inr sets) = record {
      before = turns;
      cpu = cpu;
      later = [];
      whole = refl;
      acts = sets.0;
      right = sets.1;
      own = sets.2;
      keeps = now;
    }
