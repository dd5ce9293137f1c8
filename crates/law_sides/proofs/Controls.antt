-- Rights that control an object alone: fewer do so, too.
use Rattle.std.proofs.Common.{◌≡◌, ℕ, refl}
use Rattle.std.specs.Prelude.{◌&&◌, Bool, true, false, not, slice_get, Option, Some, None, option_map}
use Rattle.std.proofs.lemmas.Bool.{and_parts}
use Rattle.nova_objects.specs.declared.object.Object.{Object}
use Rattle.nova_objects.specs.declared.object.Object.TheVariants.{Pd, Ec, Sc, Pt, Sm}
use Rattle.nova_range.specs.Rights.{allows}
use Rattle.nova_range.specs.declared.rights.Rights.{Rights}
use Rattle.nova_model.specs.Capabilities.{bind_portal_right, bind_scheduling_right, call_right, create_right, event_right, is_schedulable}
use Rattle.nova_model.specs.State.{KernelState}
use Rattle.law_integrity.proofs.Labels.{IsEc}
use Rattle.law_sides.specs.Roles.{controls_alone}

pub not_both : (b : Bool) → b ≡ true → not b ≡ true → ⊥
not_both true is none = absurd (cc)
not_both false is none = absurd (cc)

-- an object that may have a scheduling context is an execution context
pub schedulable_ec : (k : KernelState) (n : ℕ) → option_map is_schedulable (slice_get k.objects n) ≡ Some true → IsEc k n
schedulable_ec k n is = by_object (slice_get k.objects n) refl is
  where
    by_object : (o : Option Object) → slice_get k.objects n ≡ o → option_map is_schedulable o ≡ Some true → IsEc k n
    by_object None at may = absurd (cc)
    by_object (Some Pd) at may = absurd (cc)
    by_object (Some (Ec pd cpu kind event)) at may = record { domain = pd; cpu = cpu; kind = kind; event = event; object = at; of = tt }
    by_object (Some (Sc e cpu priority quantum)) at may = absurd (cc)
    by_object (Some (Pt e mtd ip)) at may = absurd (cc)
    by_object (Some Sm) at may = absurd (cc)

-- fewer rights control no more
less : (rights more_ : Rights) (right : ℕ) → ((r : ℕ) → allows rights r ≡ true → allows more_ r ≡ true) → not (allows more_ right) ≡ true → not (allows rights right) ≡ true
less rights more_ right within off = by_test (allows rights right) refl
  where
    by_test : (b : Bool) → allows rights right ≡ b → not b ≡ true
    by_test true is = absurd (not_both (allows more_ right) (within right is) off)
    by_test false is = refl

less_two : (rights more_ : Rights) (a b : ℕ) → ((r : ℕ) → allows rights r ≡ true → allows more_ r ≡ true) → (not (allows more_ a) && not (allows more_ b)) ≡ true → (not (allows rights a) && not (allows rights b)) ≡ true
less_two rights more_ a b within off =
    let two = and_parts (not (allows more_ a)) (not (allows more_ b)) off in
    rw (less rights more_ a within two.0, less rights more_ b within two.1) refl

pub controls_less : (rights more_ : Rights) (o : Option Object) → ((r : ℕ) → allows rights r ≡ true → allows more_ r ≡ true) → controls_alone more_ o ≡ true → controls_alone rights o ≡ true
controls_less rights more_ (Some Pd) within h = less rights more_ create_right within h
controls_less rights more_ (Some (Ec pd cpu kind event)) within h = less_two rights more_ bind_portal_right bind_scheduling_right within h
controls_less rights more_ (Some (Sc donor cpu priority quantum)) within h = refl
controls_less rights more_ (Some (Pt handler mtd ip)) within h = less_two rights more_ call_right event_right within h
controls_less rights more_ (Some Sm) within h = refl
controls_less rights more_ None within h = refl
