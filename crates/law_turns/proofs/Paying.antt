-- What a turn does to objects, budgets, the next stamp and the counts of turns: what its deed adds, and then the charge.
use Rattle.law_forest.proofs.Boots.{sources_keep}
use Rattle.nova_model.specs.declared.event.Event.{Event}
use Rattle.std.proofs.Common.{◌≡◌, ℕ, ◌+◌, List, [], ◌∷◌, ◌++◌, refl, sym, ap, ap₂, ◌∙◌, subst}
use Rattle.std.specs.List.{list_any}
use Rattle.std.specs.Prelude.{Bool, true, false, ◌≤◌, true, false, option_map, slice_get, slice_index, slice_set, Option, Some, None}
use Rattle.nova_objects.specs.declared.object.Object.{Object}
use Rattle.nova_objects.specs.declared.object.Object.TheVariants.{Sc}
use Rattle.nova_model.specs.Boot.{Image, Scenario, bare, boot, with_image, with_images}
use Rattle.nova_model.specs.Capabilities.{is_schedulable}
use Rattle.nova_model.specs.Choice.{Candidate, next_to_act}
use Rattle.nova_model.specs.Creation.{budget_of, object_of, stamp_past}
use Rattle.nova_model.specs.Deeds.{deed}
use Rattle.nova_model.specs.Hypercalls.{schedules}
use Rattle.nova_model.specs.Runs.{after, run}
use Rattle.nova_model.specs.State.{KernelState, budget_at, entry, pd_of}
use Rattle.nova_model.specs.Turn.{budget_after, is_spent, quantum_in, stamp_after, event_of, turn}
use Rattle.nova_model.specs.declared.budget.Budget.{Budget}
use Rattle.nova_model.specs.declared.deed.Deed.{Deed}
use Rattle.nova_model.specs.declared.deed.Deed.TheVariants.{Makes, Opens}
use Rattle.nova_model.specs.declared.new_object.NewObject.{NewObject}
use Rattle.nova_model.specs.declared.new_object.NewObject.TheVariants as new
use Rattle.law_forest.specs.Made.{IsBoundBy}
use Rattle.law_forest.proofs.Allowed.{IsAllowed, deed_allowed}
use Rattle.law_forest.specs.Effects.{applied, effect, joined, made_by, stamp_with, Passing}
use Rattle.law_forest.specs.Turns as turns
use Rattle.law_forest.specs.Turns.{budgets_paid, stamp_paid}
use Rattle.law_forest.proofs.Turning as turning
use Rattle.law_forest.proofs.Turning.{chosen_turn, run_keeps, acts_chosen, event_answered, event_at, event_in}
use Rattle.law_turns.proofs.Candidates.{HasSchedule, schedule_of, the_chosen}
use Rattle.law_turns.proofs.Setting.{entry_kept, get_kept}

-- A DEED

-- it leaves them, or makes one object
pub data Adds (old new : KernelState) (ec : ℕ) : Type 0 where
  AddsNone : new.objects ≡ old.objects → new.budgets ≡ old.budgets → new.next_stamp ≡ old.next_stamp → Adds old new ec
  AddsOne : (made : NewObject) → IsBoundBy old (pd_of old ec) (object_of made) → new.objects ≡ old.objects ++ object_of made ∷ [] →
      new.budgets ≡ old.budgets ++ budget_of old.next_stamp made ∷ [] → new.next_stamp ≡ stamp_past old.next_stamp made → Adds old new ec

adds : (k new : KernelState) (ec : ℕ) (d : Deed) → IsAllowed k ec d → new.objects ≡ joined k.objects (option_map object_of (made_by d)) →
    new.budgets ≡ joined k.budgets (option_map (budget_of k.next_stamp) (made_by d)) → new.next_stamp ≡ stamp_with k.next_stamp (made_by d) → Adds k new ec
adds k s ec (Makes call target made) asked objects budgets next = AddsOne made asked.bound objects budgets next
adds k s ec (Opens target number) allowed objects budgets next = AddsOne new.Pd tt objects budgets next
adds k s ec other allowed objects budgets next = AddsNone objects budgets next

pub applied_adds : (k : KernelState) (ec : ℕ) (d : Deed) → IsAllowed k ec d → Adds k (applied k (effect k ec d)) ec
applied_adds k ec d allowed = adds k (applied k (effect k ec d)) ec d allowed refl refl refl

-- what is there stays
pub still_budget : (k s : KernelState) (ec n : ℕ) (b : Budget) → Adds k s ec → budget_at k n ≡ Some b → budget_at s n ≡ Some b
still_budget k s ec n b (AddsNone objects budgets next) is = ap (λ (bs : List (Option Budget)). entry (slice_get bs n)) budgets ∙ is
still_budget k s ec n b (AddsOne made bound objects budgets next) is =
    ap (λ (bs : List (Option Budget)). entry (slice_get bs n)) budgets ∙ entry_kept k.budgets (budget_of k.next_stamp made) n b is

pub still_object : (k s : KernelState) (ec n : ℕ) (o : Object) → Adds k s ec → slice_get k.objects n ≡ Some o → slice_get s.objects n ≡ Some o
still_object k s ec n o (AddsNone objects budgets next) is = ap (λ (os : List Object). slice_get os n) objects ∙ is
still_object k s ec n o (AddsOne made bound objects budgets next) is =
    ap (λ (os : List Object). slice_get os n) objects ∙ get_kept k.objects (object_of made) n o is

-- A TURN

-- the turn of the chosen candidate: `between` is the state when its deed is done
pub record IsTurn (k new : KernelState) (cpu : ℕ) (c : Candidate) : Type 0 where
  pub its : HasSchedule k cpu c
  pub between : KernelState
  pub adds : Adds k between c.actor
  pub object : slice_get between.objects c.sc ≡ Some (Sc its.ec cpu its.priority its.quantum)
  pub there : budget_at between c.sc ≡ Some its.budget
  pub objects : new.objects ≡ between.objects
  pub budgets : new.budgets ≡ slice_set between.budgets c.sc (Some (budget_after (is_spent its.budget) its.quantum between.next_stamp its.budget))
  pub next : new.next_stamp ≡ stamp_after (is_spent its.budget) between.next_stamp
  pub processors : new.stirs.processors ≡ slice_set k.stirs.processors cpu (slice_index k.stirs.processors cpu + 1)
  pub turns : new.turns ≡ k.turns + 1
  pub clocks : new.times.clocks ≡ slice_set k.times.clocks cpu (slice_index k.times.clocks cpu + 1)

pub spent_ticks : (t : Bool) (quantum stamp : ℕ) (b : Budget) → (budget_after t quantum stamp b).ticks ≡ b.ticks + 1
spent_ticks true quantum stamp b = refl
spent_ticks false quantum stamp b = refl

pub turn_is : (k : KernelState) (cpu : ℕ) (c : Candidate) → next_to_act k cpu ≡ Some c → IsTurn k (after k cpu) cpu c
turn_is k cpu c chosen =
    let its = schedule_of k cpu c (the_chosen k cpu c (acts_chosen k cpu c chosen).0) in
    let s = applied k (effect k c.actor (deed k c.actor)) in
    let adds = applied_adds k c.actor (deed k c.actor) (deed_allowed k c.actor) in
    let object = still_object k s c.actor c.sc (Sc its.ec cpu its.priority its.quantum) adds its.object in
    let there = still_budget k s c.actor c.sc its.budget adds its.there in
    subst (λ (new : KernelState). IsTurn k new cpu c) (sym (chosen_turn k cpu c chosen))
    (record {
      its = its;
      between = s;
      adds = adds;
      object = object;
      there = there;
      objects = refl;
      budgets = ap₂ (λ (o : Option Budget) (q : ℕ). budgets_paid s.budgets c.sc q s.next_stamp o) there (ap quantum_in object);
      next = ap (stamp_paid s.next_stamp) there;
      processors = refl;
      turns = refl;
      clocks = refl;
    })

-- what a turn of a processor comes to, with its event: none, that of the context that acts, or that of what comes by itself
pub data Comes (k new : KernelState) (cpu : ℕ) (event : Option Event) : Type 0 where
  Idles : next_to_act k cpu ≡ None → new ≡ k → event ≡ None → Comes k new cpu event
  Takes : (c : Candidate) → next_to_act k cpu ≡ Some c → IsTurn k new cpu c → event ≡ Some (event_of cpu c (deed k c.actor)) → Comes k new cpu event
  Passes : (p : Passing) → new ≡ turns.turned k cpu (turns.passing k p) → next_to_act k cpu ≡ None → event ≡ Some (turns.passing_event k cpu p) → Comes k new cpu event

pub comes : (k : KernelState) (cpu : ℕ) → Comes k (after k cpu) cpu (event_at k cpu)
comes k cpu = elim (turning.comes k cpu) [
  | turns.Idles none moment same answer ↦ Idles (turning.idle_none k cpu none) same (event_answered (turn k cpu) ∙ ap event_in answer)
  | turns.Takes t e is state answer ↦ elim is [
    | turns.Acts c chosen acts event ↦ Takes c chosen (turn_is k cpu c chosen) (event_answered (turn k cpu) ∙ ap event_in answer ∙ ap Some event)
    | turns.Passes p due passes event ↦ Passes p (state ∙ ap (turns.turned k cpu) passes) (turning.passing_none k cpu p due) (event_answered (turn k cpu) ∙ ap event_in answer ∙ ap Some event)
  ]
]

-- WHAT TURNS KEEP

-- what an object that is made refers to
abbrev pub IsNew : List Object → NewObject → Type 0
IsNew os (new.Sc ec cpu priority quantum) = (option_map is_schedulable (slice_get os ec) ≡ Some true) × (list_any (schedules ec) os ≡ false) × (1 ≤ quantum)
IsNew os other = Unit {0}

bound_new : (k : KernelState) (domain : ℕ) (made : NewObject) → IsBoundBy k domain (object_of made) → IsNew k.objects made
bound_new k domain new.Pd bound = tt
bound_new k domain (new.Ec pd cpu kind sp event) bound = tt
bound_new k domain (new.Sc ec cpu priority quantum) bound = (bound.bound.leads, bound.alone, bound.turns)
bound_new k domain (new.Pt ec mtd ip) bound = tt
bound_new k domain (new.Sm count) bound = tt

-- what holds of objects, budgets and the next stamp, and is kept where an object is made and where a scheduling context is charged
pub record Lasts (P : List Object → List (Option Budget) → ℕ → Type 0) : Type 0 where
  pub more : (os : List Object) (bs : List (Option Budget)) (next : ℕ) (made : NewObject) → IsNew os made → P os bs next →
      P (os ++ object_of made ∷ []) (bs ++ budget_of next made ∷ []) (stamp_past next made)
  pub pays : (os : List Object) (bs : List (Option Budget)) (next sc ec cpu priority quantum : ℕ) (b : Budget) →
      slice_get os sc ≡ Some (Sc ec cpu priority quantum) → entry (slice_get bs sc) ≡ Some b → P os bs next →
      P os (slice_set bs sc (Some (budget_after (is_spent b) quantum next b))) (stamp_after (is_spent b) next)

abbrev pub Holds : (List Object → List (Option Budget) → ℕ → Type 0) → KernelState → Type 0
Holds P k = P k.objects k.budgets k.next_stamp

adds_holds : (P : List Object → List (Option Budget) → ℕ → Type 0) → Lasts P → (k s : KernelState) (ec : ℕ) → Adds k s ec → Holds P k → Holds P s
adds_holds P lasts k s ec (AddsNone objects budgets next) h = rw (objects, budgets, next) h
adds_holds P lasts k s ec (AddsOne made bound objects budgets next) h =
    rw (objects, budgets, next) (lasts.more k.objects k.budgets k.next_stamp made (bound_new k (pd_of k ec) made bound) h)

pub after_holds : (P : List Object → List (Option Budget) → ℕ → Type 0) → Lasts P → (k : KernelState) (cpu : ℕ) → Holds P k → Holds P (after k cpu)
after_holds P lasts k cpu h = by_turn (after k cpu) (comes k cpu)
  where
    by_turn : (s : KernelState) → Comes k s cpu (event_at k cpu) → Holds P s
    by_turn s (Idles idle is none) = rw is h
    by_turn s (Passes p is none event) = subst (Holds P) (sym is) h
    by_turn s (Takes c chosen t event) =
        let b = t.between in
        let held = adds_holds P lasts k b c.actor t.adds h in
        rw (t.objects, t.budgets, t.next)
        (lasts.pays b.objects b.budgets b.next_stamp c.sc t.its.ec cpu t.its.priority t.its.quantum t.its.budget t.object t.there held)

run_holds : (P : List Object → List (Option Budget) → ℕ → Type 0) → Lasts P → (k : KernelState) (turns : List ℕ) → Holds P k → Holds P (run k turns)
run_holds P lasts k turns h = run_keeps (Holds P) (after_holds P lasts) k turns h

images_hold : (P : List Object → List (Option Budget) → ℕ → Type 0) (k : KernelState) (images : List Image) → Holds P k → Holds P (with_images k images)
images_hold P k [] h = h
images_hold P k (image ∷ images) h = images_hold P (with_image k image) images h

-- along every list of turns, where it holds of the root's objects and its budget
pub boot_run_holds : (P : List Object → List (Option Budget) → ℕ → Type 0) → Lasts P → (s : Scenario) (turns : List ℕ) →
    Holds P (bare s.cpus s.ram s.consoles s.root) → Holds P (run (boot s) turns)
boot_run_holds P lasts s turns h =
    run_holds P lasts (boot s) turns
    (sources_keep (Holds P) (λ k source held. lasts.more k.objects k.budgets k.next_stamp (new.Sm 0) tt held) (with_images (bare s.cpus s.ram s.consoles s.root) s.images) s.sources
    (images_hold P (bare s.cpus s.ram s.consoles s.root) s.images h))
