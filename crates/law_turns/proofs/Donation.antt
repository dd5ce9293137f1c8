-- Edges stay sound along all turns: an answer for each course of a deed, and the fold over turns.
use Rattle.law_forest.proofs.Boots.{sources_keep}
use Rattle.law_turns.specs.Waiting.{IsAwaiting}
use Rattle.nova_model.specs.declared.times.Deadline.{Deadline}
use Rattle.law_turns.proofs.Passing.{passing_contexts, passing_ending}
use Rattle.std.proofs.Common.{◌≡◌, ℕ, List, [], ◌∷◌, length, refl, ap, sym, subst, ◌∙◌}
use Rattle.std.specs.Prelude.{◌↔◌, ◌≢◌, Bool, true, false, if◌then◌else◌, option_and_then, Option, Some, None, IfSome, IsSome, is_some, option_map, length}
use Rattle.nova_objects.specs.declared.object.EcKind.TheVariants.{Local, Global, Vcpu}
use Rattle.nova_range.specs.declared.status.Status.TheVariants.{Success}
use Rattle.nova_model.specs.Boot.{Image, Scenario, bare, boot, root_context, with_image, with_images}
use Rattle.nova_model.specs.Choice.{choice}
use Rattle.nova_model.specs.Creation.{context_of}
use Rattle.nova_model.specs.Deeds.{answered, deed, parked, resumed, serving}
use Rattle.nova_model.specs.Edges.{AreEdges, IsNewEdge, acts, chase, circle, edge_of, state_in}
use Rattle.nova_model.specs.Memory.{Memory}
use Rattle.nova_model.specs.Runs.{after, run}
use Rattle.nova_model.specs.Semaphores.{waits}
use Rattle.nova_model.specs.State.{Contexts, KernelState, context, context_at, context_in, ec_in, ec_of, with_ec, deadline_of}
use Rattle.nova_model.specs.declared.context.EcState.{EcState}
use Rattle.nova_model.specs.declared.context.Mark.{Mark}
use Rattle.nova_model.specs.declared.context.State.TheVariants.{Blocked, Calling, Granting, Ready}
use Rattle.nova_model.specs.declared.deed.Deed.{Deed}
use Rattle.nova_model.specs.declared.deed.Deed.TheVariants.{Rests}
use Rattle.nova_model.specs.declared.new_object.NewObject.{NewObject}
use Rattle.nova_model.specs.declared.new_object.NewObject.TheVariants as new
use Rattle.nova_model.specs.declared.root.Root.{Root}
use Rattle.nova_ec.specs.Ways.{EndsAt, Leads}
use Rattle.nova_sem.specs.Sound.{AreSound}
use Rattle.nova_ec.proofs.Ends.{chases_end, circles_are_ways}
use Rattle.nova_ec.proofs.Tables.{edges_kept, edges_more, edges_none, edges_set}
use Rattle.law_turns.specs.Links.{IsCallerOf, state_at}
use Rattle.law_turns.specs.Keeping.{IsKept}
use Rattle.law_turns.proofs.Blocking.{woken_blocked}
use Rattle.law_turns.proofs.Chosen.{choice_acts, chosen_does}
use Rattle.law_turns.proofs.TablesFit.{TablesFit, after_fits, boot_fits, boot_run_fits, caller_there, chosen_acts, turned_fits}
use Rattle.law_turns.proofs.Referring.{Asks, deed_asks}
use Rattle.law_turns.proofs.Serving.{IsActor, IsReached, actor_of, blocked_there, of_there, reached_there, resumed_is}
use Rattle.nova_model.specs.Edges.{MayWait}
use Rattle.nova_model.specs.State.{ec_of}
use Rattle.nova_model.specs.declared.context.State.{State}
use Rattle.nova_model.specs.declared.context.State.TheVariants.{Calling, Helping, Sending, Blocked}
use Rattle.nova_model.specs.declared.event.Event.{Event}
use Rattle.law_forest.specs.Effects.{applied, effect, joined, made_by, passing_ends}
use Rattle.law_forest.specs.Turns.{Acts, IsTurning, Turning, turned, Passes}
use Rattle.law_forest.proofs.Turning.{after_keeps, along}
use Rattle.law_turns.proofs.Courses.{Courses, MayCome, deed_course}
use Rattle.law_turns.proofs.TablesKept.{set_there, with_memory}
use Rattle.law_turns.proofs.Virtual.{among_of, guests_of}

-- ONE OF A TABLE

-- it waits for none, or for a handler that it may wait for, or stays in its state
free_on : (cs : Contexts) (e : ℕ) (y : EcState) → is_some (ec_in cs e) ≡ true → y.cpu ≡ (ec_of cs e).cpu → edge_of y.state ≡ None → AreEdges cs → AreEdges (with_ec cs e y)
free_on cs e y there cpu none sound = edges_set cs e (ec_of cs e) y None sound (of_there cs e there) cpu none tt

waits_on : (cs : Contexts) (e h : ℕ) (y : EcState) → is_some (ec_in cs e) ≡ true → y.cpu ≡ (ec_of cs e).cpu → edge_of y.state ≡ Some h → IsNewEdge cs e h → AreEdges cs →
    AreEdges (with_ec cs e y)
waits_on cs e h y there cpu leads may sound = edges_set cs e (ec_of cs e) y (Some h) sound (of_there cs e there) cpu leads may

keeps_on : (cs : Contexts) (e : ℕ) (y : EcState) → is_some (ec_in cs e) ≡ true → y.cpu ≡ (ec_of cs e).cpu → y.state ≡ (ec_of cs e).state → AreEdges cs → AreEdges (with_ec cs e y)
keeps_on cs e y there cpu same sound = edges_kept cs e (ec_of cs e) y sound (of_there cs e there) cpu same

-- A DEED

new_free : (n : ℕ) (made : NewObject) → option_and_then edge_of (state_at (context_of n made)) ≡ None
new_free n new.Pd = refl
new_free n (new.Ec pd cpu Local sp event) = refl
new_free n (new.Ec pd cpu Global sp event) = refl
new_free n (new.Ec pd cpu Vcpu sp event) = refl
new_free n (new.Sc ec cpu priority quantum) = refl
new_free n (new.Pt ec mtd ip) = refl
new_free n (new.Sm count) = refl

-- a handler parks, and its caller goes on
replied_edges : (k : KernelState) (ec caller : ℕ) (its : Mark) (m : List ℕ) → IsActor k.contexts ec → IsCallerOf k ec caller its → TablesFit k → AreEdges k.contexts →
    let one = with_ec k.contexts ec (parked (context k ec)) in AreEdges (with_ec one caller (resumed (ec_of one caller) its m))
replied_edges k ec caller its m actor keeps fits sound =
    let one = with_ec k.contexts ec (parked (context k ec)) in
    let on = resumed_is (ec_of one caller) its m in
    free_on one caller (resumed (ec_of one caller) its m) (set_there k.contexts ec _ caller (caller_there k ec caller its actor keeps fits.served)) on.cpu (ap edge_of on.ready)
    (free_on k.contexts ec _ (ap is_some actor.there) refl refl sound)

-- a context waits for a handler that takes its message, and the handler goes on
sent_edges : (k : KernelState) (ec handler : ℕ) (its : Mark) (ip identifier : ℕ) (items : Bool) → IsActor k.contexts ec → IsReached k.contexts ec handler → AreEdges k.contexts →
    let one = with_ec k.contexts ec (record (context k ec) { state = Calling handler }) in
    AreEdges (with_ec one handler (serving (ec_of one handler) ec its ip identifier items))
sent_edges k ec handler its ip identifier items actor reached sound =
    let y : EcState = record (context k ec) { state = Calling handler } in
    let one = with_ec k.contexts ec y in
    free_on one handler (serving (ec_of one handler) ec its ip identifier items) (set_there k.contexts ec y handler (reached_there k.contexts ec handler reached)) refl (begins_free items)
    (waits_on k.contexts ec handler y (ap is_some actor.there) refl refl reached.may sound)
  where
    begins_free : (t : Bool) → edge_of (if t then Granting None else Ready) ≡ None
    begins_free true = refl
    begins_free false = refl

edges_courses : (k : KernelState) (ec : ℕ) (d : Deed) → IsActor k.contexts ec → TablesFit k → AreEdges k.contexts → Courses k ec d (λ cs all. AreEdges cs)
edges_courses k ec d actor fits sound = record {
  rests = λ to. sound;
  steps = λ regs is. keeps_on k.contexts ec (record (context k ec) { regs = regs }) (ap is_some actor.there) refl refl sound;
  stays = λ cs all w x y is self same h.
      let at : ec_of cs w ≡ x = ap context_in is in
      keeps_on cs w y (ap is_some is) (self.cpu ∙ ap (λ (z : EcState). z.cpu) (sym at)) (same ∙ ap (λ (z : EcState). z.state) (sym at)) h;
  goes = λ y self to may. edges_set k.contexts ec (context k ec) y (edge_of y.state) sound actor.there self.cpu refl (may_wait y.state may);
  sends = λ handler its ip identifier items to of reached. sent_edges k ec handler its ip identifier items actor reached sound;
  replies = λ caller its m to keeps. replied_edges k ec caller its m actor keeps fits sound;
  ups = λ sm to is. answers;
  wakes = λ sm w to is.
      let one = with_ec k.contexts ec (answered (context k ec) Success None) in
      let there = blocked_there k.contexts w sm (woken_blocked k sm w is fits.blocked) in
      free_on one w (answered (ec_of one w) Success None) (set_there k.contexts ec _ w (ap is_some there)) refl refl answers;
  downs = λ sm to is. answers;
  blocks = λ sm to is answer. free_on k.contexts ec _ (ap is_some actor.there) refl refl sound;
}
  where
    answers : AreEdges (with_ec k.contexts ec (answered (context k ec) Success None))
    answers = free_on k.contexts ec _ (ap is_some actor.there) refl refl sound

    may_wait : (s : State) → MayCome k ec d s → MayWait k.contexts ec (edge_of s)
    may_wait (Calling h) may = absurd may
    may_wait (Helping h) may = may
    may_wait (Sending reason q0 q1 h) may = may
    may_wait other may = tt

joined_edges : (n : ℕ) (cs : Contexts) (made : Option NewObject) → AreEdges cs → AreEdges (joined cs (option_map (context_of n) made))
joined_edges n cs None sound = sound
joined_edges n cs (Some made) sound = edges_more cs (context_of n made) sound (new_free n made)

applied_edges : (k : KernelState) (ec : ℕ) (d : Deed) → IsActor k.contexts ec → Asks k ec d → TablesFit k → AreEdges k.contexts → AreEdges (applied k (effect k ec d)).contexts
applied_edges k ec d actor asks fits sound =
    joined_edges (length k.objects) _ (made_by d) (deed_course k ec (λ cs all. AreEdges cs) d actor asks (edges_courses k ec d actor fits sound))

-- A TURN

-- tables that fit, with sound edges, are kept
abbrev Sound : KernelState → Type 0
Sound k = TablesFit k × AreEdges k.contexts

turned_sound : (k : KernelState) (cpu : ℕ) (t : Turning) (e : Event) → IsTurning k cpu t e → Sound k → Sound (turned k cpu t)
turned_sound k cpu t e (Acts c chosen is event) h = (
  turned_fits k cpu t e (Acts c chosen is event) h.0,
  subst (λ (u : Turning). AreEdges (turned k cpu u).contexts) (sym is)
      (applied_edges k c.actor (deed k c.actor) (actor_of k.contexts c.actor (chosen_acts k cpu c chosen)) (deed_asks k c.actor) h.0 h.1),
)
turned_sound k cpu t e (Passes p comes is event) h = (
  turned_fits k cpu t e (Passes p comes is event) h.0,
  subst (λ (u : Turning). AreEdges (turned k cpu u).contexts) (sym is)
      (passing_contexts AreEdges k.contexts (passing_ends k p) (passing_ending k cpu p comes h.0.blocked h.0.late) h.1
      (λ w sm status waits. free_on k.contexts w _ (ap is_some (blocked_there k.contexts w sm waits)) refl refl h.1)),
)

images_edges : (k : KernelState) (images : List Image) → AreEdges k.contexts → AreEdges (with_images k images).contexts
images_edges k [] sound = sound
images_edges k (image ∷ images) sound = images_edges (with_image k image) images sound

boot_edges : (s : Scenario) → AreEdges (boot s).contexts
boot_edges s =
    sources_keep (λ (k : KernelState). AreEdges k.contexts) (λ k source sound. joined_edges (length k.objects) k.contexts (Some (new.Sm 0)) sound)
    (with_images (bare s.cpus s.ram s.consoles s.root) s.images) s.sources
    (images_edges (bare s.cpus s.ram s.consoles s.root) s.images
    (edges_more (None ∷ Some (root_context s.root) ∷ []) None (edges_more (None ∷ []) (Some (root_context s.root)) (edges_more [] None edges_none refl) refl) refl))

-- THE LAWS

pub sound_edges : (s : Scenario) (turns : List ℕ) → AreEdges (run (boot s) turns).contexts
sound_edges s turns = (along Sound (record { begins = λ b. (boot_fits b, boot_edges b); turns = turned_sound }) s turns).1

pub ended_chase : (s : Scenario) (turns : List ℕ) (e : ℕ) → EndsAt (run (boot s) turns).contexts e (chase (run (boot s) turns).contexts e)
ended_chase s turns e = chases_end (run (boot s) turns).contexts e (sound_edges s turns)

pub exact_circle : (s : Scenario) (turns : List ℕ) (h e : ℕ) → IsSome (context_at (run (boot s) turns) h) →
    (circle (run (boot s) turns).contexts h e ≡ true) ↔ Leads (run (boot s) turns).contexts h e
exact_circle s turns h e there = circles_are_ways (run (boot s) turns).contexts h e (sound_edges s turns) there

pub able : (s : Scenario) (turns : List ℕ) (cpu : ℕ) → IfSome (choice (run (boot s) turns) cpu) (λ c. acts (run (boot s) turns).contexts c.actor ≡ true)
able s turns cpu = choice_acts (run (boot s) turns) cpu

pub acting : (s : Scenario) (turns : List ℕ) (cpu : ℕ) → IfSome (choice (run (boot s) turns) cpu) (λ c. deed (run (boot s) turns) c.actor ≢ Rests)
acting s turns cpu = chosen_does (run (boot s) turns) cpu _ (boot_run_fits s turns).served.well

-- what turns keep
pub keeps : (k : KernelState) (cpu : ℕ) → IsKept k → IsKept (after k cpu)
keeps k cpu h =
    let fits : TablesFit k = record { tables = h.tables; served = h.served; blocked = h.blocked; guests = h.guests; late = h.deadlines } in
    let now = after_fits k cpu fits in
    record { tables = now.tables; served = now.served; edges = (after_keeps Sound turned_sound k cpu (fits, h.edges)).1; blocked = now.blocked; guests = now.guests; deadlines = now.late }

pub keeps_in_memory : (k : KernelState) (m : Memory) → IsKept k → IsKept (record k { memory = m })
keeps_in_memory k m h = record { tables = with_memory k m h.tables; served = h.served; edges = h.edges; blocked = h.blocked; guests = guests_of (record k { memory = m }) (among_of k h.guests); deadlines = h.deadlines }

pub begins_kept : (cpus ram consoles : ℕ) (root : Root) → IsKept (bare cpus ram consoles root)
begins_kept cpus ram consoles root =
    let s : Scenario = record { cpus = cpus; ram = ram; consoles = consoles; root = root; images = []; sources = [] } in
    let fits = boot_fits s in record { tables = fits.tables; served = fits.served; edges = boot_edges s; blocked = fits.blocked; guests = fits.guests; deadlines = fits.late }

images_kept : (k : KernelState) (images : List Image) → IsKept k → IsKept (with_images k images)
images_kept k [] kept = kept
images_kept k (image ∷ images) kept = images_kept (with_image k image) images (keeps_in_memory k (with_image k image).memory kept)

run_kept : (k : KernelState) (turns : List ℕ) → IsKept k → IsKept (run k turns)
run_kept k [] kept = kept
run_kept k (cpu ∷ turns) kept = run_kept (after k cpu) turns (keeps k cpu kept)

pub reached_kept : (s : Scenario) (turns : List ℕ) → IsKept (run (boot s) turns)
reached_kept s turns =
    let fits = boot_fits s in
    run_kept (boot s) turns (record { tables = fits.tables; served = fits.served; edges = boot_edges s; blocked = fits.blocked; guests = fits.guests; deadlines = fits.late })

-- deadlines

pub late_waits : (s : Scenario) (turns : List ℕ) (ec : ℕ) (d : Deadline) → deadline_of (run (boot s) turns).times ec ≡ Some d → IsAwaiting (run (boot s) turns).contexts ec d
late_waits s turns ec d is = (boot_run_fits s turns).late ec d is

pub late_queued : (s : Scenario) (turns : List ℕ) (ec : ℕ) (d : Deadline) → deadline_of (run (boot s) turns).times ec ≡ Some d → waits (run (boot s) turns).semaphores d.sm ec ≡ true
late_queued s turns ec d is = let h = boot_run_fits s turns in h.blocked.waiting d.sm ec (h.late ec d is).blocked

-- semaphores

pub blocked_waits : (s : Scenario) (turns : List ℕ) (sm ec : ℕ) →
    (state_in (run (boot s) turns).contexts ec ≡ Some (Blocked sm)) ↔ (waits (run (boot s) turns).semaphores sm ec ≡ true)
blocked_waits s turns sm ec = let h = (boot_run_fits s turns).blocked in (h.waiting sm ec, h.blocked sm ec)

pub sound_semaphores : (s : Scenario) (turns : List ℕ) → AreSound (run (boot s) turns).semaphores
sound_semaphores s turns = (boot_run_fits s turns).blocked.sound
