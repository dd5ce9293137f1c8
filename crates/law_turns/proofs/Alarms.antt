-- Alarms keep their moments.
use Rattle.std.proofs.Common.{◌≡◌, ℕ, zero, suc, ◌+◌, ◌*◌, List, [], ◌∷◌, ◌++◌, refl, sym, ap, ◌∙◌, subst, inl, inr, arith}
use Rattle.std.specs.Prelude.{◌⊎◌, true, map, slice_get, slice_set, Option, Some, None}
use Rattle.std.proofs.lemmas.Option.{same_Some}
use Rattle.nova_model.specs.Boot.{Image, Scenario, bare, boot, with_image, with_images}
use Rattle.nova_model.specs.Runs.{run}
use Rattle.nova_model.specs.Sources.{Source, with_source, with_sources}
use Rattle.nova_model.specs.State.{KernelState}
use Rattle.nova_model.specs.Times.{goes_on, rung_in, rung_once}
use Rattle.nova_model.specs.declared.event.Event.{Event}
use Rattle.nova_model.specs.declared.times.Alarm.{Alarm}
use Rattle.nova_model.specs.declared.times.AlarmState.{AlarmState}
use Rattle.nova_model.specs.declared.times.Due.TheVariants as due
use Rattle.law_forest.specs.Effects.{Falls, Passing, Ticks, alarms_with, passing_rings}
use Rattle.law_forest.specs.Turns.{Acts, IsPassing, IsTurning, Passes, Turning, turned}
use Rattle.law_forest.proofs.Boots.{sources_keep}
use Rattle.law_forest.proofs.Turning.{after_keeps, along, run_keeps}
use Rattle.law_turns.specs.Moments.{HasAlarm, IsOnTime}
use Rattle.law_turns.proofs.Dues.{due_is}
use Rattle.law_turns.proofs.Setting.{get_joined}

abbrev pub AreOnTime : List AlarmState → Type 0
AreOnTime alarms = (i : ℕ) (a : AlarmState) → slice_get alarms i ≡ Some a → IsOnTime a

-- what is found where one of a list is set
get_set : {T : Type 0} (xs : List T) (n i : ℕ) (v a : T) → slice_get (slice_set xs n v) i ≡ Some a → (v ≡ a) ⊎ (slice_get xs i ≡ Some a)
get_set [] n i v a is = absurd cc
get_set (x ∷ xs) zero zero v a is = let same : v ≡ a = cc in inl same
get_set (x ∷ xs) zero (suc i) v a is = inr is
get_set (x ∷ xs) (suc n) zero v a is = inr is
get_set (x ∷ xs) (suc n) (suc i) v a is = get_set xs n i v a is

once_more : (first rings period next : ℕ) → next ≡ first + rings * period → next + period ≡ first + (rings + 1) * period
once_more first rings period next is = grind (arith, is)

rung_time : (a : AlarmState) → goes_on a ≡ true → IsOnTime a → IsOnTime (rung_once a)
rung_time a more h = record { next = once_more a.alarm.first a.rings a.alarm.period a.next h.next; rings = grind (arith, more) }

rings_time : (k : KernelState) (cpu n : ℕ) {moment : ℕ} → HasAlarm k.times cpu n moment → AreOnTime k.times.alarms →
    AreOnTime (rung_in k.times.alarms n (slice_get k.times.alarms n))
rings_time k cpu n its h = by_alarm (slice_get k.times.alarms n) its.there
  where
    by_alarm : (o : Option AlarmState) → o ≡ Some its.alarm → AreOnTime (rung_in k.times.alarms n o)
    by_alarm None there = absurd cc
    by_alarm (Some x) there = λ i a at. elim (get_set k.times.alarms n i (rung_once x) a at) [
      | inl itself ↦
          let same : x ≡ its.alarm = same_Some x its.alarm there in
          subst IsOnTime (ap rung_once (sym same) ∙ itself) (rung_time its.alarm its.more (h n its.alarm its.there))
      | inr other ↦ h i a other
    ]

passing_time : (k : KernelState) (cpu : ℕ) (p : Passing) → IsPassing k cpu p → AreOnTime k.times.alarms → AreOnTime (alarms_with k.times.alarms (passing_rings p))
passing_time k cpu (Falls (due.Alarm n)) comes h = rings_time k cpu n (due_is k.times cpu (due.Alarm n) comes).entry h
passing_time k cpu (Falls (due.Deadline ec)) comes h = h
passing_time k cpu Ticks comes h = h

turned_time : (k : KernelState) (cpu : ℕ) (t : Turning) (e : Event) → IsTurning k cpu t e → AreOnTime k.times.alarms → AreOnTime (turned k cpu t).times.alarms
turned_time k cpu t e (Acts c chosen is event) h = subst (λ (u : Turning). AreOnTime (turned k cpu u).times.alarms) (sym is) h
turned_time k cpu t e (Passes p comes is event) h = subst (λ (u : Turning). AreOnTime (turned k cpu u).times.alarms) (sym is) (passing_time k cpu p comes h)

source_time : (k : KernelState) (s : Source) → AreOnTime k.times.alarms → AreOnTime (with_source k s).times.alarms
source_time k s h i a at = elim (get_joined k.times.alarms _ i a at) [
  | inl there ↦ h i a there
  | inr new ↦ subst IsOnTime new.1 (record { next = omega arith; rings = omega arith })
]

images_time : (k : KernelState) (images : List Image) → AreOnTime k.times.alarms → AreOnTime (with_images k images).times.alarms
images_time k [] h = h
images_time k (image ∷ images) h = images_time (with_image k image) images h

boot_time : (s : Scenario) → AreOnTime (boot s).times.alarms
boot_time s =
    sources_keep (λ (k : KernelState). AreOnTime k.times.alarms) source_time (with_images (bare s.cpus s.ram s.consoles s.root) s.images) s.sources
    (images_time (bare s.cpus s.ram s.consoles s.root) s.images (λ i a at. absurd cc))

pub on_time : (s : Scenario) (turns : List ℕ) (i : ℕ) (a : AlarmState) → slice_get (run (boot s) turns).times.alarms i ≡ Some a → IsOnTime a
on_time s turns = along (λ (k : KernelState). AreOnTime k.times.alarms) (record { begins = boot_time; turns = turned_time }) s turns

-- AND STAY THE SAME

set_same : (alarms : List AlarmState) (n : ℕ) (o : Option AlarmState) → slice_get alarms n ≡ o → map (λ (a : AlarmState). a.alarm) (rung_in alarms n o) ≡ map (λ (a : AlarmState). a.alarm) alarms
set_same alarms n None at = refl
set_same [] n (Some x) at = refl
set_same (y ∷ alarms) zero (Some x) at = let same : y ≡ x = cc in ap (λ (a : AlarmState). a.alarm ∷ map (λ (b : AlarmState). b.alarm) alarms) (sym same)
set_same (y ∷ alarms) (suc n) (Some x) at = ap (λ (rest : List Alarm). y.alarm ∷ rest) (set_same alarms n (Some x) at)

passing_same : (alarms : List AlarmState) (o : Option ℕ) → map (λ (a : AlarmState). a.alarm) (alarms_with alarms o) ≡ map (λ (a : AlarmState). a.alarm) alarms
passing_same alarms None = refl
passing_same alarms (Some n) = set_same alarms n (slice_get alarms n) refl

pub turned_same : (b k : KernelState) (cpu : ℕ) (t : Turning) (e : Event) → IsTurning k cpu t e →
    map (λ (a : AlarmState). a.alarm) k.times.alarms ≡ map (λ (a : AlarmState). a.alarm) b.times.alarms →
    map (λ (a : AlarmState). a.alarm) (turned k cpu t).times.alarms ≡ map (λ (a : AlarmState). a.alarm) b.times.alarms
turned_same b k cpu t e (Acts c chosen is event) h = ap (λ (u : Turning). map (λ (a : AlarmState). a.alarm) (turned k cpu u).times.alarms) is ∙ h
turned_same b k cpu t e (Passes p comes is event) h =
    ap (λ (u : Turning). map (λ (a : AlarmState). a.alarm) (turned k cpu u).times.alarms) is ∙ passing_same k.times.alarms (passing_rings p) ∙ h

pub same_alarms : (s : Scenario) (turns : List ℕ) → map (λ (a : AlarmState). a.alarm) (run (boot s) turns).times.alarms ≡ map (λ (a : AlarmState). a.alarm) (boot s).times.alarms
same_alarms s turns =
    run_keeps (λ (k : KernelState). map (λ (a : AlarmState). a.alarm) k.times.alarms ≡ map (λ (a : AlarmState). a.alarm) (boot s).times.alarms)
    (λ k cpu h. after_keeps (λ (k : KernelState). map (λ (a : AlarmState). a.alarm) k.times.alarms ≡ map (λ (a : AlarmState). a.alarm) (boot s).times.alarms) (turned_same (boot s)) k cpu h)
    (boot s) turns refl

-- A SOURCE MORE

sources_more : (k : KernelState) (sources : List Source) (s : Source) → with_sources k (sources ++ s ∷ []) ≡ with_source (with_sources k sources) s
sources_more k [] s = refl
sources_more k (x ∷ sources) s = sources_more (with_source k x) sources s

pub source_more : (b : Scenario) (s : Source) → boot (record b { sources = b.sources ++ s ∷ [] }) ≡ with_source (boot b) s
source_more b s = sources_more (with_images (bare b.cpus b.ram b.consoles b.root) b.images) b.sources s
