-- A virtual CPU is made at one turn, and no event up to that turn names it.
use Rattle.nova_objects.specs.declared.object.Object.TheVariants.{Sm}
use Rattle.law_turns.proofs.Setting.{get_joined}
use Rattle.nova_model.specs.Sources.{Source, with_sources}
use Rattle.law_forest.proofs.Boots.{sources_keep}
use Rattle.nova_range.specs.declared.status.Status.TheVariants.{Success}
use Rattle.nova_model.specs.declared.semaphore.Overflow.{Overflow}
use Rattle.law_turns.proofs.Serving.{blocked_there}
use Rattle.law_turns.proofs.Passing.{IsBlockedIn, IsEnding, passing_ending}
use Rattle.nova_model.specs.declared.times.Due.TheVariants as due
use Rattle.law_forest.specs.Turns.{IsPassing, passing_event}
use Rattle.std.proofs.Common.{◌≡◌, ◌≢◌, ℕ, zero, suc, ◌<◌, ◌≤◌, List, [], ◌∷◌, ◌++◌, length, ap, sym, ◌∙◌, subst, refl, arith, inl, inr}
use Rattle.std.specs.Prelude.{slice_get, Option, Some, None, option_map, Result, Ok, Err, true}
use Rattle.std.specs.List.{All, AllByRecursion}
use Rattle.std.proofs.lemmas.List.{length-append}
use Rattle.std.proofs.lemmas.List.Elements.{All-cons, All-nil}
use Rattle.std.proofs.lemmas.Option.{slice_get_within}
use Rattle.law_forest.specs.Effects.{joined, Falls, Passing, Ticks, alarm_up, passing_ends, with_status}
use Rattle.law_forest.proofs.Turning.{of_events}
use Rattle.law_isolation.specs.Sound.{IsSound, IsVirtual}
use Rattle.law_isolation.proofs.Runs.{turn_sound}
use Rattle.nova_model.specs.Boot.{Scenario, bare, boot, with_images}
use Rattle.nova_model.specs.Capabilities.{is_vcpu}
use Rattle.nova_model.specs.Choice.{Candidate, in_front}
use Rattle.nova_model.specs.Runs.{after, run, trace}
use Rattle.nova_model.specs.State.{KernelState, ec_of}
use Rattle.nova_model.specs.Turn.{Step, answer_of, turn, number_in, whom_of}
use Rattle.nova_model.specs.declared.event.Event.{Event}
use Rattle.nova_objects.specs.declared.object.Object.{Object}
use Rattle.law_isolation.proofs.Ranges.{images_objects}
use Rattle.law_origins.specs.Lives.{IsMade}
use Rattle.law_origins.proofs.Actors.{actor_object, objects_after, was_virtual, there_within}
use Rattle.law_origins.proofs.Lists.{by_turns, one_more, run_append}

-- IT IS MADE

none_at_root : (s : Scenario) (g : ℕ) → IsVirtual (bare s.cpus s.ram s.consoles s.root) g → ⊥
none_at_root s zero is = absurd (cc)
none_at_root s (suc zero) is = absurd (cc)
none_at_root s (suc (suc zero)) is = absurd (cc)
none_at_root s (suc (suc (suc g))) is = absurd (cc)

-- no source makes one
sources_many : (k : KernelState) (sources : List Source) → 0 < length k.objects → 0 < length (with_sources k sources).objects
sources_many k sources some = sources_keep (λ (k : KernelState). 0 < length k.objects) (λ k source some. let more = length-append k.objects (Sm ∷ []) in omega (arith, some, more)) k sources some

pub boot_some : (s : Scenario) → 0 < length (boot s).objects
boot_some s =
    let three : length (with_images (bare s.cpus s.ram s.consoles s.root) s.images).objects ≡ 3 = ap (λ (os : List Object). length os) (images_objects (bare s.cpus s.ram s.consoles s.root) s.images) in
    sources_many (with_images (bare s.cpus s.ram s.consoles s.root) s.images) s.sources (omega (arith, three))

pub none_at_boot : (s : Scenario) (g : ℕ) → IsVirtual (boot s) g → ⊥
none_at_boot s g is =
    sources_keep (λ (k : KernelState). (n : ℕ) → IsVirtual k n → ⊥) (λ k source none n virtual. none_more k n (none n) virtual)
    (with_images (bare s.cpus s.ram s.consoles s.root) s.images) s.sources
    (λ n virtual. none_at_root s n (ap (λ (os : List Object). option_map is_vcpu (slice_get os n)) (sym (images_objects (bare s.cpus s.ram s.consoles s.root) s.images)) ∙ virtual)) g is
  where
    none_more : (k : KernelState) (n : ℕ) → (IsVirtual k n → ⊥) → option_map is_vcpu (slice_get (k.objects ++ Sm ∷ []) n) ≡ Some true → ⊥
    none_more k n none virtual = by_object (slice_get (k.objects ++ Sm ∷ []) n) refl virtual
      where
        by_object : (o : Option Object) → slice_get (k.objects ++ Sm ∷ []) n ≡ o → option_map is_vcpu o ≡ Some true → ⊥
        by_object None at is = cc
        by_object (Some x) at is = elim (get_joined k.objects Sm n x at) [
          | inl old ↦ none (ap (option_map is_vcpu) old ∙ is)
          | inr last ↦ let sm = ap (λ (o : Object). option_map is_vcpu (Some o)) last.1 ∙ is in cc
        ]

made_later : (k : KernelState) (turns : List ℕ) (cpu g : ℕ) → IsMade k turns g → IsMade k (turns ++ cpu ∷ []) g
made_later k turns cpu g m = record {
  before = m.before;
  cpu = m.cpu;
  later = m.later ++ cpu ∷ [];
  whole = one_more turns m.before m.later m.cpu cpu m.whole;
  none = m.none;
  made = m.made;
}

made_or_before : (k : KernelState) (turns : List ℕ) (cpu g : ℕ) → (IsVirtual (run k turns) g → IsMade k turns g) → IsVirtual (after (run k turns) cpu) g → IsMade k (turns ++ cpu ∷ []) g
made_or_before k turns cpu g earlier is = by_object (slice_get (run k turns).objects g) refl
  where
    by_object : (o : Option Object) → slice_get (run k turns).objects g ≡ o → IsMade k (turns ++ cpu ∷ []) g
    by_object None none = record { before = turns; cpu = cpu; later = []; whole = refl; none = none; made = is }
    by_object (Some o) there = made_later k turns cpu g (earlier (was_virtual (run k turns) cpu g (slice_get_within (run k turns).objects g o there) is))

pub is_made : (s : Scenario) (turns : List ℕ) (g : ℕ) → IsVirtual (run (boot s) turns) g → IsMade (boot s) turns g
is_made s =
    by_turns (λ (turns : List ℕ). (g : ℕ) → IsVirtual (run (boot s) turns) g → IsMade (boot s) turns g)
    (λ g is. absurd (none_at_boot s g is))
    (λ turns cpu earlier g is. made_or_before (boot s) turns cpu g (earlier g) (subst (λ (k : KernelState). IsVirtual k g) (run_append (boot s) turns (cpu ∷ [])) is))

-- NO EVENT NAMES IT

more_objects : (k : KernelState) (cpu : ℕ) → length k.objects ≤ length (after k cpu).objects
more_objects k cpu = by_one (objects_after k cpu).0 (objects_after k cpu).1
  where
    by_one : (o : Option Object) → (after k cpu).objects ≡ joined k.objects o → length k.objects ≤ length (after k cpu).objects
    by_one None is = let same = ap (λ (os : List Object). length os) is in omega (arith, same)
    by_one (Some x) is = let same = ap (λ (os : List Object). length os) is ∙ length-append k.objects (x ∷ []) in omega (arith, same)

pub run_objects : (k : KernelState) (turns : List ℕ) → length k.objects ≤ length (run k turns).objects
run_objects k [] = omega arith
run_objects k (cpu ∷ turns) = let first = more_objects k cpu in let rest = run_objects (after k cpu) turns in omega (arith, first, rest)

-- an event names a context that was there before its turn, or it is that of a turn in which none acts, and names 0
passing_there : (k : KernelState) (cpu : ℕ) (p : Passing) → IsSound k → 0 < length k.objects → IsPassing k cpu p → (passing_event k cpu p).ec < length k.objects
passing_there k cpu p sound some comes = by_passing p (passing_ending k cpu p comes sound.kept.blocked sound.kept.deadlines)
  where
    there : (w : ℕ) → IsBlockedIn k.contexts w → w < length k.objects
    there w is = let within = there_within k.contexts w (ec_of k.contexts w) (blocked_there k.contexts w is.0 is.1) in let same = sound.whole.places in omega (arith, within, same)

    by_up : (o : Result (Option ℕ) Overflow) → IsEnding k.contexts (with_status Success (whom_of o)) → number_in (whom_of o) < length k.objects
    by_up (Ok None) ending = some
    by_up (Ok (Some w)) ending = there w ending
    by_up (Err full) ending = some

    by_passing : (q : Passing) → IsEnding k.contexts (passing_ends k q) → (passing_event k cpu q).ec < length k.objects
    by_passing (Falls (due.Alarm alarm)) ending = by_up (alarm_up k alarm) ending
    by_passing (Falls (due.Deadline ec)) ending = there ec ending
    by_passing Ticks ending = some

event_there : (k : KernelState) (cpu : ℕ) (t : Step) → IsSound k → 0 < length k.objects → turn k cpu ≡ Some t → t.event.ec < length k.objects
event_there k cpu t sound some is =
    of_events (λ (e : Event). e.ec < length k.objects) k cpu t.event (ap answer_of is) (λ p comes state. passing_there k cpu p sound some comes)
    (λ c chosen state. actor_object k cpu c.actor sound (ap (option_map (λ (c : Candidate). c.actor)) chosen))

front_all : (P : Event → Type 0) (o : Option Step) (events : List Event) → ((t : Step) → o ≡ Some t → P t.event) → AllByRecursion P events →
    AllByRecursion P (in_front (option_map (λ (t : Step). t.event) o) events)
front_all P None events first rest = rest
front_all P (Some t) events first rest = (first t refl, rest)

-- up to a turn before which there was no object of the number, and in that turn
pub events_below : (k : KernelState) (before : List ℕ) (cpu n : ℕ) → IsSound k → 0 < length k.objects → length (run k before).objects ≤ n → AllByRecursion (λ (e : Event). e.ec ≢ n) (trace k (before ++ cpu ∷ []))
events_below k [] cpu n sound some none =
    front_all (λ (e : Event). e.ec ≢ n) (turn k cpu) [] (λ t is same. let there = event_there k cpu t sound some is in absurd (omega (arith, there, none, same))) tt
events_below k (c ∷ before) cpu n sound some none =
    front_all (λ (e : Event). e.ec ≢ n) (turn k c) (trace (after k c) (before ++ cpu ∷ []))
    (λ t is same. let there = event_there k c t sound some is in let more = run_objects k (c ∷ before) in absurd (omega (arith, there, none, more, same)))
    (events_below (after k c) before cpu n (turn_sound k c sound) (let more = more_objects k c in omega (arith, more, some)) none)

pub all_of : (P : Event → Type 0) (events : List Event) → AllByRecursion P events → All P events
all_of P [] h = All-nil P
all_of P (e ∷ events) h = All-cons P e events h.0 (all_of P events h.1)

pub none_beyond : (os : List Object) (n : ℕ) → slice_get os n ≡ None → length os ≤ n
none_beyond [] n h = omega arith
none_beyond (o ∷ os) zero h = absurd (cc)
none_beyond (o ∷ os) (suc n) h = let r = none_beyond os n h in omega (arith, r)

pub unnamed : (k : KernelState) (turns : List ℕ) (g : ℕ) → IsSound k → 0 < length k.objects → (m : IsMade k turns g) → AllByRecursion (λ (e : Event). e.ec ≢ g) (trace k (m.before ++ m.cpu ∷ []))
unnamed k turns g sound some m = events_below k m.before m.cpu g sound some (none_beyond (run k m.before).objects g m.none)
