-- A turn of another processor brings nothing nearer that is to come on this processor.
use Rattle.std.proofs.Common.{◌≡◌, ◌≢◌, ℕ, zero, suc, ◌+◌, ◌-◌, ◌≤◌, List, [], ◌∷◌, refl, sym, ap, ◌∙◌, subst, inl, inr}
use Rattle.std.specs.Prelude.{◌⊎◌, slice_get, slice_index, slice_set, IsSome, Option, Some, None, option_map}
use Rattle.std.proofs.lemmas.Option.{same_Some}
use Rattle.nova_model.specs.Choice.{Candidate, next_to_act}
use Rattle.nova_model.specs.Deeds.{deed}
use Rattle.nova_model.specs.Runs.{after}
use Rattle.nova_model.specs.State.{KernelState, deadline_of, entry, processor_of}
use Rattle.nova_model.specs.Times.{Times, clock, rung_in, rung_once}
use Rattle.nova_model.specs.declared.context.EcState.{EcState}
use Rattle.nova_model.specs.declared.deed.Deed.{Deed}
use Rattle.nova_model.specs.declared.deed.Deed.TheVariants.{Blocks, Ups}
use Rattle.nova_model.specs.declared.event.Event.{Event}
use Rattle.nova_model.specs.declared.new_object.NewObject.{NewObject}
use Rattle.nova_model.specs.declared.times.AlarmState.{AlarmState}
use Rattle.nova_model.specs.declared.times.Deadline.{Deadline}
use Rattle.nova_model.specs.declared.times.Due.TheVariants as due
use Rattle.nova_range.specs.declared.status.Status.{Status}
use Rattle.law_forest.specs.Effects.{Falls, Passing, Ticks, alarms_with, clears_by, deadline_by, deadlines_with, joined, made_by, no_deadline, passing_ends, passing_rings}
use Rattle.law_forest.specs.Turns.{Acts, Idles, IsPassing, IsTurning, Passes, Takes, Turning, acting, passing, turned}
use Rattle.law_forest.proofs.Turning.{acts_chosen, comes}
use Rattle.law_turns.specs.Moments.{HasAlarm, IsEarly}
use Rattle.law_turns.proofs.Deadlines.{at_home, cleared}
use Rattle.law_turns.proofs.Dues.{due_is}
use Rattle.law_turns.proofs.Moments.{early_far, far_early}
use Rattle.law_turns.proofs.Referring.{Asks, deed_asks}
use Rattle.law_turns.proofs.Setting.{entry_joined, entry_set, index_other}
use Rattle.law_isolation.specs.Sound.{IsSound}
use Rattle.law_leases.proofs.Homes.{chosen_home}

-- what is found where one of a list is set
get_set : {T : Type 0} (xs : List T) (n i : ℕ) (v a : T) → slice_get (slice_set xs n v) i ≡ Some a → ((i ≡ n) × (v ≡ a)) ⊎ (slice_get xs i ≡ Some a)
get_set [] n i v a is = absurd cc
get_set (x ∷ xs) zero zero v a is = let same : v ≡ a = cc in inl (refl, same)
get_set (x ∷ xs) zero (suc i) v a is = inr is
get_set (x ∷ xs) (suc n) zero v a is = inr is
get_set (x ∷ xs) (suc n) (suc i) v a is = elim (get_set xs n i v a is) [
  | inl itself ↦ inl (ap suc itself.0, itself.1)
  | inr other ↦ inr other
]

-- times of which each entry of a processor was there before, with the same clock
record BringsNone (t new : Times) (cpu : ℕ) : Type 0 where
  clocks : clock new cpu ≡ clock t cpu
  alarms : (i : ℕ) (a : AlarmState) → slice_get new.alarms i ≡ Some a → a.alarm.cpu ≡ cpu → slice_get t.alarms i ≡ Some a
  deadlines : (ec : ℕ) (d : Deadline) → deadline_of new ec ≡ Some d → d.cpu ≡ cpu → deadline_of t ec ≡ Some d

brings_none : (t new : Times) (cpu n : ℕ) → BringsNone t new cpu → IsEarly t cpu n → IsEarly new cpu n
brings_none t new cpu n b early =
    let far = early_far t cpu n early in
    far_early new cpu n (record {
      alarms = λ i a is here more. subst (λ (now : ℕ). n ≤ a.next - now) (sym b.clocks) (far.alarms i a (b.alarms i a is here) here more);
      deadlines = λ ec d is here. subst (λ (now : ℕ). n ≤ d.at - now) (sym b.clocks) (far.deadlines ec d (b.deadlines ec d is here) here);
    })

-- a context that acts sets a deadline of its own processor alone
deed_sets : (k : KernelState) (ec p cpu : ℕ) (d : Deed) → Asks k ec d → processor_of k ec ≡ p → p ≢ cpu → (n : ℕ) (x : Deadline) →
    entry (slice_get (deadlines_with k.times.deadlines (deadline_by ec d)) n) ≡ Some x → x.cpu ≡ cpu → entry (slice_get k.times.deadlines n) ≡ Some x
deed_sets k ec p cpu (Ups sm None) asks home ne n x is here = is
deed_sets k ec p cpu (Ups sm (Some w)) asks home ne n x is here = (cleared k.times.deadlines w n x is).1
deed_sets k ec p cpu (Blocks sm None) asks home ne n x is here = is
deed_sets k ec p cpu (Blocks sm (Some d)) asks home ne n x is here = elim (entry_set k.times.deadlines ec n d x is) [
  | inl itself ↦ absurd (ne (sym (asks.2.processor ∙ home) ∙ ap (λ (y : Deadline). y.cpu) itself.1 ∙ here))
  | inr other ↦ other.1
]
deed_sets k ec p cpu other asks home ne n x is here = is

pub joined_was : (ds : List (Option Deadline)) (made : Option NewObject) (n : ℕ) (x : Deadline) → entry (slice_get (joined ds (option_map no_deadline made)) n) ≡ Some x →
    entry (slice_get ds n) ≡ Some x
joined_was ds None n x is = is
joined_was ds (Some m) n x is = elim (entry_joined ds None n x is) [
  | inl there ↦ there
  | inr new ↦ absurd (let none = new.1 in cc)
]

home_of : (k : KernelState) (p : ℕ) (c : Candidate) → IsSound k → next_to_act k p ≡ Some c → processor_of k c.actor ≡ p
home_of k p c sound acts =
    let home = chosen_home k p c sound (acts_chosen k p c acts).0 in
    let there : IsSome (option_map (λ (x : EcState). x.cpu) (entry (slice_get k.contexts c.actor))) = subst IsSome (sym home) refl in
    same_Some (processor_of k c.actor) p (sym (at_home k c.actor (some_entry (λ (x : EcState). x.cpu) (entry (slice_get k.contexts c.actor)) there) sound.kept.tables) ∙ home)
  where
    some_entry : (f : EcState → ℕ) (o : Option EcState) → IsSome (option_map f o) → IsSome o
    some_entry f None h = absurd cc
    some_entry f (Some x) h = refl

-- what comes by itself
pub ends_clear : (ds : List (Option Deadline)) (o : Option (ℕ × Status)) (n : ℕ) (x : Deadline) → entry (slice_get (deadlines_with ds (clears_by o)) n) ≡ Some x → entry (slice_get ds n) ≡ Some x
ends_clear ds None n x is = is
ends_clear ds (Some (w, status)) n x is = (cleared ds w n x is).1

rings_by : (k : KernelState) (p cpu n : ℕ) {moment : ℕ} → HasAlarm k.times p n moment → p ≢ cpu → (i : ℕ) (a : AlarmState) →
    slice_get (rung_in k.times.alarms n (slice_get k.times.alarms n)) i ≡ Some a → a.alarm.cpu ≡ cpu → slice_get k.times.alarms i ≡ Some a
rings_by k p cpu n its ne i a is here = by_alarm (slice_get k.times.alarms n) its.there is
  where
    by_alarm : (o : Option AlarmState) → o ≡ Some its.alarm → slice_get (rung_in k.times.alarms n o) i ≡ Some a → slice_get k.times.alarms i ≡ Some a
    by_alarm None there at = absurd cc
    by_alarm (Some x) there at = elim (get_set k.times.alarms n i (rung_once x) a at) [
      | inl itself ↦ absurd (ne (sym (ap (λ (y : AlarmState). y.alarm.cpu) (same_Some x its.alarm there) ∙ its.its) ∙ ap (λ (y : AlarmState). y.alarm.cpu) itself.1 ∙ here))
      | inr other ↦ other
    ]

rings_own : (k : KernelState) (p cpu : ℕ) (q : Passing) → IsPassing k p q → p ≢ cpu → (i : ℕ) (a : AlarmState) → slice_get (alarms_with k.times.alarms (passing_rings q)) i ≡ Some a →
    a.alarm.cpu ≡ cpu → slice_get k.times.alarms i ≡ Some a
rings_own k p cpu (Falls (due.Alarm n)) comes ne i a is here = rings_by k p cpu n (due_is k.times p (due.Alarm n) comes).entry ne i a is here
rings_own k p cpu (Falls (due.Deadline ec)) comes ne i a is here = is
rings_own k p cpu Ticks comes ne i a is here = is

clocks_other : (t : Times) (p cpu : ℕ) → p ≢ cpu → slice_index (slice_set t.clocks p (clock t p + 1)) cpu ≡ clock t cpu
clocks_other t p cpu ne = index_other t.clocks p cpu (clock t p + 1) (λ same. ne (sym same))

turned_early : (k : KernelState) (p cpu n : ℕ) (t : Turning) (e : Event) → IsTurning k p t e → IsSound k → p ≢ cpu → IsEarly k.times cpu n → IsEarly (turned k p t).times cpu n
turned_early k p cpu n t e (Acts c chosen is event) sound ne early =
    subst (λ (u : Turning). IsEarly (turned k p u).times cpu n) (sym is)
    (brings_none k.times (turned k p (acting k c)).times cpu n (record {
      clocks = clocks_other k.times p cpu ne;
      alarms = λ i a at here. at;
      deadlines = λ ec d at here.
          deed_sets k c.actor p cpu (deed k c.actor) (deed_asks k c.actor) (home_of k p c sound chosen) ne ec d
          (joined_was (deadlines_with k.times.deadlines (deadline_by c.actor (deed k c.actor))) (made_by (deed k c.actor)) ec d at) here;
    }) early)
turned_early k p cpu n t e (Passes q comes is event) sound ne early =
    subst (λ (u : Turning). IsEarly (turned k p u).times cpu n) (sym is)
    (brings_none k.times (turned k p (passing k q)).times cpu n (record {
      clocks = clocks_other k.times p cpu ne;
      alarms = rings_own k p cpu q comes ne;
      deadlines = λ ec d at here. ends_clear k.times.deadlines (passing_ends k q) ec d at;
    }) early)

pub turn_early : (k : KernelState) (p cpu n : ℕ) → IsSound k → p ≢ cpu → IsEarly k.times cpu n → IsEarly (after k p).times cpu n
turn_early k p cpu n sound ne early = elim (comes k p) [
  | Idles none moment same answer ↦ subst (λ (s : KernelState). IsEarly s.times cpu n) (sym same) early
  | Takes t e is state answer ↦ subst (λ (s : KernelState). IsEarly s.times cpu n) (sym state) (turned_early k p cpu n t e is sound ne early)
]
