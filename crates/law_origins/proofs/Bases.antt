-- Exits that are raised go to portals at selectors below 2^20.
use Rattle.nova_model.specs.declared.context.EcState.{EcState}
use Rattle.nova_objects.specs.declared.object.Object.TheVariants.{Sm}
use Rattle.law_turns.proofs.Setting.{more_at}
use Rattle.nova_model.specs.Sources.{Source, with_source}
use Rattle.law_forest.proofs.Boots.{sources_keep}
use Rattle.std.proofs.Common.{◌≡◌, ℕ, zero, suc, ◌-◌, ◌^◌, ◌≤◌, List, [], ◌∷◌, ◌++◌, ap, sym, ◌∙◌, subst, refl, inl, inr, ◌⊎◌, arith}
use Rattle.std.specs.Prelude.{slice_get, Some, option_map, Option, None}
use Rattle.std.proofs.lemmas.Option.{same_Some}
use Rattle.law_forest.specs.Effects.{joined, made_by, Passing}
use Rattle.law_forest.specs.Turns.{Acts as Chosen, IsTurning, Turning, acting, turned, Passes, passing}
use Rattle.law_forest.proofs.Turning.{along}
use Rattle.nova_model.specs.Boot.{Image, Scenario, bare, boot, with_image, with_images}
use Rattle.nova_model.specs.Choice.{Candidate}
use Rattle.nova_model.specs.Creation.{object_of}
use Rattle.nova_model.specs.Deeds.{deed}
use Rattle.nova_model.specs.Exits.{raised_exit}
use Rattle.nova_model.specs.Runs.{run}
use Rattle.nova_model.specs.State.{KernelState, context, event_base, event_base_in, context_in}
use Rattle.nova_model.specs.declared.context.State.{State}
use Rattle.nova_model.specs.declared.context.State.TheVariants.{Exiting, Sending}
use Rattle.nova_model.specs.declared.deed.Deed.{Deed}
use Rattle.nova_model.specs.declared.deed.Deed.TheVariants as deeds
use Rattle.nova_model.specs.declared.event.Event.{Event}
use Rattle.nova_model.specs.declared.new_object.NewObject.{NewObject}
use Rattle.nova_model.specs.declared.new_object.NewObject.TheVariants as new
use Rattle.nova_objects.specs.declared.object.Object.{Object}
use Rattle.law_origins.specs.Events.{AreSelectors, HasEvents}
use Rattle.law_origins.proofs.Coming.{Begins, acting_came, passed}
use Rattle.law_origins.proofs.Warrants.{HasReason, Warrant, deed_reason, deed_warrant}

-- AT THE START

root_bases : (s : Scenario) (ec : ℕ) → event_base (bare s.cpus s.ram s.consoles s.root) ec ≤ 2 ^ 20 - 9
root_bases s zero = omega arith
root_bases s (suc zero) = omega arith
root_bases s (suc (suc zero)) = omega arith
root_bases s (suc (suc (suc ec))) = omega arith

root_reasons : (s : Scenario) (ec reason q0 q1 : ℕ) → raised_exit (context (bare s.cpus s.ram s.consoles s.root) ec).state ≡ Some (reason, q0, q1) → reason ≤ 8
root_reasons s zero reason q0 q1 is = absurd (cc)
root_reasons s (suc zero) reason q0 q1 is = absurd (cc)
root_reasons s (suc (suc zero)) reason q0 q1 is = absurd (cc)
root_reasons s (suc (suc (suc ec))) reason q0 q1 is = absurd (cc)

images_keep : (k : KernelState) (images : List Image) → HasEvents k → HasEvents (with_images k images)
images_keep k [] h = h
images_keep k (image ∷ images) h = images_keep (with_image k image) images (record { bases = h.bases; reasons = h.reasons })

-- IN A TURN

more_bases : (os : List Object) (o : Object) → event_base_in (Some o) ≤ 2 ^ 20 - 9 → (ec : ℕ) → event_base_in (slice_get os ec) ≤ 2 ^ 20 - 9 →
    event_base_in (slice_get (os ++ o ∷ []) ec) ≤ 2 ^ 20 - 9
more_bases [] o fits zero h = fits
more_bases [] o fits (suc ec) h = h
more_bases (x ∷ os) o fits zero h = h
more_bases (x ∷ os) o fits (suc ec) h = more_bases os o fits ec h

object_base : (k : KernelState) (ec call target : ℕ) (made : NewObject) → Warrant k ec (deeds.Makes call target made) → event_base_in (Some (object_of made)) ≤ 2 ^ 20 - 9
object_base k ec call target (new.Ec pd cpu kind sp event) fits = fits
object_base k ec call target new.Pd fits = omega arith
object_base k ec call target (new.Sc its cpu priority quantum) fits = omega arith
object_base k ec call target (new.Pt handler mtd ip) fits = omega arith
object_base k ec call target (new.Sm count) fits = omega arith

made_bases : (k : KernelState) (actor : ℕ) (d : Deed) (ec : ℕ) → Warrant k actor d → event_base k ec ≤ 2 ^ 20 - 9 →
    event_base_in (slice_get (joined k.objects (option_map object_of (made_by d))) ec) ≤ 2 ^ 20 - 9
made_bases k actor (deeds.Makes call target made) ec fits h = more_bases k.objects (object_of made) (object_base k actor call target made fits) ec h
made_bases k actor (deeds.Opens target domain) ec fits h = more_bases k.objects (object_of new.Pd) (omega arith) ec h
made_bases k actor other ec fits h = h

-- an exit that is raised is raised now, or waits, or was before
begun_reason : (k : KernelState) (actor : ℕ) (d : Deed) (s : State) (reason q0 q1 : ℕ) → HasEvents k → Warrant k actor d → HasReason d → Begins d s →
    raised_exit s ≡ Some (reason, q0, q1) → reason ≤ 8
begun_reason k actor (deeds.Raises r a b) s reason q0 q1 h warrant least starts is =
    let same : Some (r, a, b) ≡ Some (reason, q0, q1) = ap raised_exit starts ∙ is in
    subst (λ (n : ℕ). n ≤ 8) (ap (λ (p : ℕ × ℕ × ℕ). p.0) (same_Some (r, a, b) (reason, q0, q1) same)) least
begun_reason k actor (deeds.Waits handler r a b) s reason q0 q1 h warrant least starts is =
    let same : Some (r, a, b) ≡ Some (reason, q0, q1) = ap raised_exit starts ∙ is in
    h.reasons actor reason q0 q1 (warrant ∙ same)
begun_reason k actor (deeds.Sends handler ip identifier mtd r a b) s reason q0 q1 h warrant least starts is = absurd (let none = ap raised_exit starts ∙ is in cc)
begun_reason k actor (deeds.Calls handler ip identifier items) s reason q0 q1 h warrant least starts is = absurd (let none = ap raised_exit starts ∙ is in cc)
begun_reason k actor (deeds.Opens target domain) s reason q0 q1 h warrant least starts is = absurd (let none = ap raised_exit starts ∙ is in cc)
begun_reason k actor other s reason q0 q1 h warrant least starts is = absurd starts

came_reason : (k : KernelState) (cpu : ℕ) (c : Candidate) (ec reason q0 q1 : ℕ) → HasEvents k → (s : State) → (context (turned k cpu (acting k c)) ec).state ≡ s →
    raised_exit s ≡ Some (reason, q0, q1) → reason ≤ 8
came_reason k cpu c ec reason q0 q1 h s at is = by_state s at is
  where
    by_came : (t : State) → raised_exit t ≡ Some (reason, q0, q1) → (((context k ec).state ≡ t) ⊎ ((c.actor ≡ ec) × Begins (deed k c.actor) t)) → reason ≤ 8
    by_came t raised (inl before) = h.reasons ec reason q0 q1 (ap raised_exit before ∙ raised)
    by_came t raised (inr now) = begun_reason k c.actor (deed k c.actor) t reason q0 q1 h (deed_warrant k c.actor) (deed_reason k c.actor) now.1 raised

    by_state : (t : State) → (context (turned k cpu (acting k c)) ec).state ≡ t → raised_exit t ≡ Some (reason, q0, q1) → reason ≤ 8
    by_state (Exiting r a b) its raised = by_came (Exiting r a b) raised (acting_came k cpu c ec (Exiting r a b) tt its)
    by_state (Sending r a b handler) its raised = by_came (Sending r a b handler) raised (acting_came k cpu c ec (Sending r a b handler) tt its)
    by_state other its raised = absurd (cc)

passed_reason : (k : KernelState) (cpu : ℕ) (p : Passing) (ec reason q0 q1 : ℕ) → HasEvents k → (s : State) → (context (turned k cpu (passing k p)) ec).state ≡ s →
    raised_exit s ≡ Some (reason, q0, q1) → reason ≤ 8
passed_reason k cpu p ec reason q0 q1 h (Exiting r a b) at is = h.reasons ec reason q0 q1 (ap raised_exit (passed k p ec (Exiting r a b) tt at) ∙ is)
passed_reason k cpu p ec reason q0 q1 h (Sending r a b handler) at is = h.reasons ec reason q0 q1 (ap raised_exit (passed k p ec (Sending r a b handler) tt at) ∙ is)
passed_reason k cpu p ec reason q0 q1 h other at is = absurd (cc)

turn_keeps : (k : KernelState) (cpu : ℕ) (t : Turning) (e : Event) → IsTurning k cpu t e → HasEvents k → HasEvents (turned k cpu t)
turn_keeps k cpu t e is h = elim is [
  | Chosen c chosen its event ↦ subst (λ (t : Turning). HasEvents (turned k cpu t)) (sym its) (record {
    bases = λ ec. made_bases k c.actor (deed k c.actor) ec (deed_warrant k c.actor) (h.bases ec);
    reasons = λ ec reason q0 q1 raised. came_reason k cpu c ec reason q0 q1 h _ refl raised;
  })
  | Passes p due its event ↦ subst (λ (t : Turning). HasEvents (turned k cpu t)) (sym its) (record {
    bases = h.bases;
    reasons = λ ec reason q0 q1 raised. passed_reason k cpu p ec reason q0 q1 h _ refl raised;
  })
]

begins : (s : Scenario) → HasEvents (boot s)
begins s =
    sources_keep HasEvents source_keeps (with_images (bare s.cpus s.ram s.consoles s.root) s.images) s.sources
    (images_keep (bare s.cpus s.ram s.consoles s.root) s.images (record { bases = root_bases s; reasons = root_reasons s }))
  where
    source_keeps : (k : KernelState) (source : Source) → HasEvents k → HasEvents (with_source k source)
    source_keeps k source h = record {
      bases = λ ec. more_bases k.objects Sm (omega arith) ec (h.bases ec);
      reasons = λ ec reason q0 q1 raised.
          h.reasons ec reason q0 q1
          (more_at (λ (o : Option EcState). raised_exit (context_in o).state ≡ Some (reason, q0, q1) → raised_exit (context k ec).state ≡ Some (reason, q0, q1)) k.contexts None ec
          (λ is. is) (λ old. old) raised);
    }

pub reached_events : (s : Scenario) (turns : List ℕ) → HasEvents (run (boot s) turns)
reached_events s turns = along HasEvents (record { begins = begins; turns = turn_keeps }) s turns

pub are_selectors : (k : KernelState) → HasEvents k → AreSelectors k
are_selectors k h ec reason q0 q1 raised = let base = h.bases ec in let least = h.reasons ec reason q0 q1 raised in omega arith

pub reached_selectors : (s : Scenario) (turns : List ℕ) → AreSelectors (run (boot s) turns)
reached_selectors s turns = are_selectors (run (boot s) turns) (reached_events s turns)
