-- A lease that runs on stems from where it stemmed before; and where it stops.
use Rattle.std.proofs.Common.{◌≡◌, ◌≤◌, ℕ, zero, suc, ◌+◌, List, ap, ap₂, sym, ◌∙◌, subst, refl, arith}
use Rattle.std.specs.Prelude.{false, Option, Some, None, option_and_then}
use Rattle.std.proofs.lemmas.Option.{same_Some}
use Rattle.nova_guest.specs.declared.guest.Guest.{Guest}
use Rattle.nova_guest.specs.declared.guest.GuestState.TheVariants as guest
use Rattle.nova_guest.specs.declared.page.Page.{Page as Place}
use Rattle.nova_model.specs.State.{KernelState, context}
use Rattle.nova_model.specs.Views.{guest_state, view}
use Rattle.nova_model.specs.declared.context.State.TheVariants.{Ready}
use Rattle.law_isolation.proofs.Seen.{view_is}
use Rattle.law_leases.specs.Leases.{IsOfGuest, LeaseState, lease_step, lease_steps}
use Rattle.law_leases.specs.Paging.{IsRun}
use Rattle.law_leases.specs.declared.steps.Steps.{Steps}
use Rattle.law_leases.proofs.Copying.{IsStep, step_leased}
use Rattle.law_leases.proofs.Leasing.{runs}
use Rattle.law_leases.proofs.Stops.{stops}
use Rattle.nova_burst.specs.Copies.{known_in}
use Rattle.nova_burst.specs.Lending.{IsSameLease, LeaseView, MustStop, StemsFrom, lease_state_of}
use Rattle.nova_burst.specs.declared.copies.Known.{Known}

-- some steps, and then more
steps_from : (known : ℕ → Option Place) (n r : ℕ) (m p : LeaseState) (o : Option LeaseState) → option_and_then (lease_steps known n) o ≡ Some m →
    ((k : LeaseState) → lease_steps known n k ≡ Some m → lease_steps known (n + r) k ≡ Some p) → option_and_then (lease_steps known (n + r)) o ≡ Some p
steps_from known n r m p None g rest = absurd (cc)
steps_from known n r m p (Some k) g rest = rest k g

pub steps_add : (known : ℕ → Option Place) (n r : ℕ) (l m p : LeaseState) → lease_steps known n l ≡ Some m → lease_steps known r m ≡ Some p → lease_steps known (n + r) l ≡ Some p
steps_add known zero r l m p h g =
    let e : 0 + r ≡ r = omega arith in
    subst (λ (i : ℕ). lease_steps known i l ≡ Some p) (sym e) (subst (λ (x : LeaseState). lease_steps known r x ≡ Some p) (sym (same_Some l m h)) g)
steps_add known (suc n) r l m p h g =
    let e : suc (n + r) ≡ suc n + r = omega arith in
    subst (λ (i : ℕ). lease_steps known i l ≡ Some p) e (steps_from known n r m p (lease_step known l) h (λ k is. steps_add known n r k m p is g))

-- pages that are known as a guest has them stay so
guests_from : (known : ℕ → Option Place) (n : ℕ) (v : Guest) (l m : LeaseState) → v.state ≡ guest.Ready → v.recall ≡ false → IsOfGuest known l.pages v →
    (o : Option LeaseState) → lease_step known l ≡ o → option_and_then (lease_steps known n) o ≡ Some m →
    ((k : LeaseState) → IsOfGuest known k.pages v → lease_steps known n k ≡ Some m → IsOfGuest known m.pages v) → IsOfGuest known m.pages v
guests_from known n v l m at_ready free are None is h rest = absurd (cc)
guests_from known n v l m at_ready free are (Some k) is h rest =
    let step : IsStep v l k = step_leased known v l k at_ready free are is in
    rest k (record { places = are.places; copies = λ f there. are.copies f (step.still f there) }) h

guests_stay : (known : ℕ → Option Place) (n : ℕ) (v : Guest) (l m : LeaseState) → v.state ≡ guest.Ready → v.recall ≡ false → IsOfGuest known l.pages v →
    lease_steps known n l ≡ Some m → IsOfGuest known m.pages v
guests_stay known zero v l m at_ready free are h = subst (λ (x : LeaseState). IsOfGuest known x.pages v) (same_Some l m h) are
guests_stay known (suc n) v l m at_ready free are h =
    guests_from known n v l m at_ready free are (lease_step known l) refl h (λ k are g. guests_stay known n v k m at_ready free are g)

-- the guest as the lease found it
view_ready : (l : LeaseView) (k : KernelState) → StemsFrom l k → (view k l.run.guest).state ≡ guest.Ready
view_ready l k s = ap (λ (v : Guest). v.state) (view_is k l.run.guest) ∙ (ap (λ (n : ℕ). guest_state (context k n).state) (sym s.stems.actor) ∙ ap guest_state s.stems.may.ready)

view_free : (l : LeaseView) (k : KernelState) → StemsFrom l k → (view k l.run.guest).recall ≡ false
view_free l k s = ap (λ (v : Guest). v.recall) (view_is k l.run.guest) ∙ (ap (λ (n : ℕ). (context k n).recall) (sym s.stems.actor) ∙ s.stems.may.recall)

-- a lease with other steps
abbrev with_steps : LeaseView → Steps → LeaseView
with_steps l t = record { run = record l.run { steps = t }; known = l.known }

same_but : (l m : LeaseView) → IsSameLease l m → m ≡ with_steps l m.run.steps
same_but l m same =
    ap₂ (λ (x : ℕ × (ℕ × ((ℕ × ℕ) × ℕ))) (known : List Known). record { run = record { cpu = x.0; guest = x.1.0; kept = x.1.1.0; left = x.1.1.1; steps = m.run.steps }; known = known })
    (ap₂ (λ (a : ℕ) (b : ℕ × ((ℕ × ℕ) × ℕ)). (a, b)) same.cpu (ap₂ (λ (a : ℕ) (b : (ℕ × ℕ) × ℕ). (a, b)) same.guest (ap₂ (λ (a : ℕ × ℕ) (b : ℕ). (a, b)) same.kept same.left))) same.known

grown : (l : LeaseView) (t : Steps) (n : ℕ) (k : KernelState) → t.count ≡ l.run.steps.count + n → t.count ≤ l.run.left →
    lease_steps (known_in l.known) n (lease_state_of l.run.steps) ≡ Some (lease_state_of t) → StemsFrom l k → StemsFrom (with_steps l t) k
grown l t n k count within ran s =
    let known = known_in l.known in
    let g : ℕ = l.run.guest in
    let start : LeaseState = record { regs = (view k g).regs; pages = s.first } in
    let all : lease_steps known t.count start ≡ Some (lease_state_of t) =
    subst (λ (c : ℕ). lease_steps known c start ≡ Some (lease_state_of t)) (sym count) (steps_add known l.run.steps.count n start (lease_state_of l.run.steps) (lease_state_of t) s.ran ran) in
    let is : IsRun k g t.count (lease_state_of t) = runs known t.count k g start (lease_state_of t) (view_ready l k s) (view_free l k s) s.guests refl s.fresh all in
    record {
      processor = s.processor;
      stems = record {
        state = s.stems.state;
        chosen = s.stems.chosen;
        budget = s.stems.budget;
        may = s.stems.may;
        actor = s.stems.actor;
        kept = s.stems.kept;
        bound = s.stems.bound;
        within = within;
        runs = record { regs = is.regs; pages = is.pages };
      };
      first = s.first;
      fresh = s.fresh;
      guests = s.guests;
      ran = all;
    }

pub stems_on : (l m : LeaseView) (n : ℕ) (k : KernelState) → IsSameLease l m → m.run.steps.count ≡ l.run.steps.count + n → m.run.steps.count ≤ m.run.left →
    lease_steps (known_in l.known) n (lease_state_of l.run.steps) ≡ Some (lease_state_of m.run.steps) → StemsFrom l k → StemsFrom m k
stems_on l m n k same count within ran s =
    subst (λ (x : LeaseView). StemsFrom x k) (sym (same_but l m same)) (grown l m.run.steps n k count (let a = within in let b = same.left in omega arith) ran s)

pub must_stop : (l : LeaseView) (k : KernelState) → StemsFrom l k → lease_step (known_in l.known) (lease_state_of l.run.steps) ≡ None → MustStop l k
must_stop l k s none =
    let g : ℕ = l.run.guest in
    stops (known_in l.known) (view k g) (lease_state_of l.run.steps)
    (guests_stay (known_in l.known) l.run.steps.count (view k g) (record { regs = (view k g).regs; pages = s.first }) (lease_state_of l.run.steps) (view_ready l k s) (view_free l k s) s.guests s.ran)
    none
