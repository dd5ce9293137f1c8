-- Where none may create, no object is made, none comes to the right, and the dead stay dead.
use Rattle.std.proofs.Common.{◌≡◌, ℕ, List, [], ◌∷◌, length, inl, inr, refl, sym, ap, ◌∙◌, subst}
use Rattle.std.proofs.lemmas.Option.{same_Some}
use Rattle.std.specs.Prelude.{◌≢◌, true, false, is_some, map, slice_get, Option, Some, None, option_map}
use Rattle.nova_objects.specs.declared.object.Object.{Object}
use Rattle.nova_objects.specs.declared.object.Object.TheVariants.{Pd}
use Rattle.nova_range.specs.declared.range.Kind.TheVariants.{Obj}
use Rattle.nova_model.specs.Boot.{Scenario, boot}
use Rattle.nova_model.specs.Capabilities.{create_right}
use Rattle.nova_model.specs.Choice.{Candidate, next_to_act}
use Rattle.nova_model.specs.Deeds.{deed}
use Rattle.nova_model.specs.Edges.{is_free, state_in}
use Rattle.nova_model.specs.Runs.{after, run}
use Rattle.nova_model.specs.State.{Contexts, KernelState, context, context_in, ec_in, ec_of, entry, pd_in, pd_of}
use Rattle.nova_model.specs.declared.context.EcState.{EcState}
use Rattle.nova_model.specs.declared.context.State.{State}
use Rattle.nova_model.specs.declared.context.State.TheVariants.{Calling, Dead}
use Rattle.nova_model.specs.declared.event.Event.{Event}
use Rattle.law_forest.specs.Effects.{Edits, all_edited, edit_at, edited, edits_by, made_by, passing_ends}
use Rattle.law_forest.specs.Made.{GivesChild, Grows, GrowsBy, Leaves, MakesObject, MayCreate, TakesLeaf}
use Rattle.law_forest.specs.Turns.{Acts as Chosen, Idles, IsTurning, Passes, Takes, Turning, turned}
use Rattle.law_forest.proofs.Growth.{turn_grows}
use Rattle.law_forest.proofs.Turning.{comes}
use Rattle.law_isolation.specs.Sound.{IsSound}
use Rattle.law_isolation.proofs.Runs.{reached_sound}
use Rattle.law_turns.specs.Keeping.{IsKept}
use Rattle.law_turns.specs.Links.{state_at}
use Rattle.law_turns.proofs.Passing.{Ended, Same, passing_each, passing_ending}
use Rattle.law_turns.proofs.Referring.{deed_asks}
use Rattle.law_turns.specs.Tables.{tag, tags_from}
use Rattle.law_turns.proofs.Serving.{IsActor, actor_of, awaited, of_there, state_there}
use Rattle.law_turns.proofs.Tags.{get_map}
use Rattle.law_turns.proofs.States.{is_waiting, others_move}
use Rattle.law_turns.proofs.TablesFit.{TablesFit, chosen_acts}
use Rattle.law_turns.proofs.TablesKept.{set_there}
use Rattle.law_integrity.specs.Rights.{GivesFirst, GivesTo, RepliesWith, TakesOfCaller}
use Rattle.law_integrity.proofs.Confining.{Child, Newest, Old, Whence, acting_one, child_target, order_none, whence}
use Rattle.law_origins.specs.Giving.{Acts}
use Rattle.law_response.specs.Creating.{CreatesNothing, NobodyCreates, NobodyElseCreates, OutranksOthers}
use Rattle.law_response.specs.Waits.{others, others_in}
use Rattle.law_response.proofs.Responding.{reached_is_kept}
use Rattle.law_response.proofs.Selves.{joined_state, of_state}
use Rattle.law_response.proofs.Waiting.{IsReached, reached_after}

pub reached_is_sound : (k : KernelState) → IsReached k → IsSound k
reached_is_sound k r = subst IsSound (sym r.is) (reached_sound r.scenario r.turns)

-- THE DEAD STAY DEAD

all_there : (cs : Contexts) (es : Edits) (n : ℕ) → is_some (ec_in cs n) ≡ true → is_some (ec_in (all_edited cs es) n) ≡ true
all_there cs [] n there = there
all_there cs ((m, e) ∷ es) n there = all_there (edit_at cs m e) es n (set_there cs m (edited (ec_of cs m) e) n there)

dead_turned : (k : KernelState) (cpu n : ℕ) (t : Turning) (e : Event) → IsTurning k cpu t e → IsKept k → state_in k.contexts n ≡ Some Dead → state_in (turned k cpu t).contexts n ≡ Some Dead
dead_turned k cpu n t e (Chosen c chosen is event) kept at =
    let fits : TablesFit k = record { tables = kept.tables; served = kept.served; blocked = kept.blocked; guests = kept.guests; late = kept.deadlines } in
    let actor : IsActor k.contexts c.actor = actor_of k.contexts c.actor (chosen_acts k cpu c chosen) in
    let other : n ≢ c.actor = λ same. let both : true ≡ false = sym (ap is_free at) ∙ ap (λ (m : ℕ). is_free (state_in k.contexts m)) same ∙ ap (λ (o : Option EcState). is_free (state_at o)) actor.there ∙ actor.awake in cc in
    let d = deed k c.actor in
    let x = of_state k.contexts n Dead at in
    let before : (context k n).state ≡ Dead = ap (λ (o : Option EcState). (context_in o).state) x.1 ∙ x.2 in
    let cs = all_edited k.contexts (edits_by k c.actor d) in
    let there : ec_in cs n ≡ Some (ec_of cs n) = of_there cs n (all_there k.contexts (edits_by k c.actor d) n (ap is_some x.1)) in
    subst (λ (u : Turning). state_in (turned k cpu u).contexts n ≡ Some Dead) (sym is)
    (joined_state (length k.objects) cs n (made_by d) Dead
    (elim (others_move k c.actor d actor (deed_asks k c.actor) fits n other) [
      | inl same ↦ ap state_at there ∙ ap (λ (s : State). Some s) (same ∙ before)
      | inr begun ↦ absurd (let none : is_waiting (context k n).state ≡ false = ap is_waiting before in let waits = begun.0 in cc)
    ]))
dead_turned k cpu n t e (Passes p comes_ is event) kept at =
    let x = of_state k.contexts n Dead at in
    subst (λ (u : Turning). state_in (turned k cpu u).contexts n ≡ Some Dead) (sym is)
    (elim (passing_each k.contexts (passing_ends k p) (passing_ending k cpu p comes_ kept.blocked kept.deadlines) n) [
      | Same same ↦ ap state_at same ∙ at
      | Ended y sm status old waits new ↦
          absurd (let one : Some y ≡ Some x.0 = sym old ∙ x.1 in let same : y ≡ x.0 = cc in let both = sym x.2 ∙ ap (λ (z : EcState). z.state) (sym same) ∙ waits in cc)
    ])

pub dead_after : (k : KernelState) (cpu n : ℕ) → IsKept k → state_in k.contexts n ≡ Some Dead → state_in (after k cpu).contexts n ≡ Some Dead
dead_after k cpu n kept at = elim (comes k cpu) [
  | Idles none moment same answer ↦ ap (λ (x : KernelState). state_in x.contexts n) same ∙ at
  | Takes t e is state answer ↦ ap (λ (x : KernelState). state_in x.contexts n) state ∙ dead_turned k cpu n t e is kept at
]

-- NO OBJECT IS MADE

-- all but those of `E` create nothing; none of `E` acts, or waits for the reply of a context that does
pub record IsLimited (k : KernelState) (cpu : ℕ) (E : ℕ → Type 0) : Type 0 where
  pub nothing : (n : ℕ) → (E n → ⊥) → CreatesNothing k n
  pub acts : (n : ℕ) → Acts k cpu n → E n → ⊥
  pub calls : (n handler : ℕ) → state_in k.contexts n ≡ Some (Calling handler) → E n → ⊥

-- an execution context that acts is alive, and so is its caller; so neither's domain holds the right
actor_creates : (k : KernelState) (cpu ec : ℕ) (E : ℕ → Type 0) → IsLimited k cpu E → Acts k cpu ec → MayCreate k (pd_of k ec) → ⊥
actor_creates k cpu ec E l acts_ may =
    let actor : IsActor k.contexts ec = acting_one k cpu ec acts_ in
    let s : State = (context k ec).state in
    l.nothing ec (l.acts ec acts_) s (ap state_at actor.there)
    (λ dead. let both : true ≡ false = sym (ap (λ (s : State). is_free (Some s)) dead) ∙ actor.awake in cc)
    may

objects_stay : (k : KernelState) (cpu : ℕ) (E : ℕ → Type 0) → IsLimited k cpu E → (after k cpu).objects ≡ k.objects
objects_stay k cpu E l = by_choice (next_to_act k cpu) refl (turn_grows k cpu)
  where
    by_growth : (ec : ℕ) → Acts k cpu ec → Grows k ec (after k cpu) → (after k cpu).objects ≡ k.objects
    by_growth ec acts_ (Leaves h) = h.objects
    by_growth ec acts_ (GivesChild h) = h.objects
    by_growth ec acts_ (TakesLeaf h) = h.objects
    by_growth ec acts_ (MakesObject h) = absurd (actor_creates k cpu ec E l acts_ (subst (MayCreate k) h.first.pd h.first.creator))

    by_choice : (o : Option Candidate) → next_to_act k cpu ≡ o → GrowsBy k o (after k cpu) → (after k cpu).objects ≡ k.objects
    by_choice None is grows = grows.objects
    by_choice (Some c) is grows = by_growth c.actor (ap (option_map (λ (x : Candidate). x.actor)) is) grows

-- NONE COMES TO THE RIGHT

giver_creates : (k : KernelState) (cpu ec giver receiver : ℕ) (E : ℕ → Type 0) → IsKept k → IsLimited k cpu E → Acts k cpu ec → GivesTo k ec giver receiver → MayCreate k giver → ⊥
giver_creates k cpu ec giver receiver E kept l acts_ (TakesOfCaller caller mark state serves g r) may =
    let waits = awaited _ k.contexts ec caller mark (acting_one k cpu ec acts_) serves kept.served in
    let calls : state_in k.contexts caller ≡ Some (Calling ec) = ap state_at waits.there ∙ ap (λ (s : State). Some s) waits.waits in
    l.nothing caller (l.calls caller ec calls) (Calling ec) calls (λ dead. cc) (subst (MayCreate k) (sym g) may)
giver_creates k cpu ec giver receiver E kept l acts_ (RepliesWith caller mark state serves g r) may = actor_creates k cpu ec E l acts_ (subst (MayCreate k) (sym g) may)
giver_creates k cpu ec giver receiver E kept l acts_ (GivesFirst state g) may = actor_creates k cpu ec E l acts_ (subst (MayCreate k) (sym g) may)

-- a domain that may create after a turn could before
created_before : (k : KernelState) (cpu domain : ℕ) (E : ℕ → Type 0) → IsReached k → IsLimited k cpu E → MayCreate (after k cpu) domain → MayCreate k domain
created_before k cpu domain E r l may = by_whence (whence k cpu may.capability sound.forest may.there)
  where
    sound : IsSound k
    sound = reached_is_sound k r

    leads : slice_get k.objects may.capability.target ≡ Some Pd
    leads = ap (λ (os : List Object). slice_get os may.capability.target) (sym (objects_stay k cpu E l)) ∙ may.leads

    by_whence : Whence k cpu may.capability → MayCreate k domain
    by_whence (Old there) = record { capability = may.capability; there = there; held = may.held; kind = may.kind; leads = leads; create = may.create }
    by_whence (Newest ec acts_ object first objects) = absurd (actor_creates k cpu ec E l acts_ (subst (MayCreate k) first.pd first.creator))
    by_whence (Child ec acts_ source there within gives) =
        let kind : source.kind ≡ Obj = sym within.kind ∙ may.kind in
        let target = child_target may.capability source kind (order_none k source sound.forest there kind) within in
        absurd (giver_creates k cpu ec source.pd may.capability.pd E sound.kept l acts_ gives
        (record {
          capability = source;
          there = there;
          held = refl;
          kind = kind;
          leads = ap (slice_get k.objects) (sym target) ∙ leads;
          create = within.rights create_right may.create;
        }))

-- an execution context after a turn that makes no object was there, in some state
tagged_there : (o p : Option (Option EcState)) → option_map tag o ≡ option_map tag p → is_some (entry o) ≡ true → is_some (entry p) ≡ true
tagged_there None p same there = absurd cc
tagged_there (Some None) p same there = absurd cc
tagged_there (Some (Some x)) None same there = absurd cc
tagged_there (Some (Some x)) (Some None) same there = absurd cc
tagged_there (Some (Some x)) (Some (Some y)) same there = refl

was_there : (k : KernelState) (cpu n : ℕ) (s : State) → (after k cpu).objects ≡ k.objects → IsReached k → state_in (after k cpu).contexts n ≡ Some s →
    (t : State) × (state_in k.contexts n ≡ Some t)
was_there k cpu n s objects r at =
    let later = (reached_is_sound (after k cpu) (reached_after k cpu r)).kept.tables.contexts in
    let earlier = (reached_is_sound k r).kept.tables.contexts in
    let tags : map tag (after k cpu).contexts ≡ map tag k.contexts = later ∙ ap (tags_from 0) objects ∙ sym earlier in
    let one : option_map tag (slice_get (after k cpu).contexts n) ≡ option_map tag (slice_get k.contexts n) =
    sym (get_map tag (after k cpu).contexts n) ∙ ap (λ (l : List (Option (ℕ × ℕ))). slice_get l n) tags ∙ get_map tag k.contexts n in
    let there = tagged_there (slice_get (after k cpu).contexts n) (slice_get k.contexts n) one (state_there (ec_in (after k cpu).contexts n) s at) in
    ((ec_of k.contexts n).state, ap state_at (of_there k.contexts n there))

pub nothing_after : (k : KernelState) (cpu : ℕ) (E : ℕ → Type 0) → IsReached k → IsLimited k cpu E → (n : ℕ) → (E n → ⊥) → CreatesNothing (after k cpu) n
nothing_after k cpu E r l n out s at alive may =
    let objects = objects_stay k cpu E l in
    let was = was_there k cpu n s objects r at in
    let living : was.0 ≢ Dead = λ dead. alive (same_Some s Dead (sym at ∙ dead_after k cpu n (reached_is_kept k r) (was.1 ∙ ap (λ (t : State). Some t) dead))) in
    let domain : pd_of (after k cpu) n ≡ pd_of k n = ap (λ (os : List Object). pd_in (slice_get os n)) objects in
    l.nothing n out was.0 was.1 living (subst (MayCreate k) domain (created_before k cpu (pd_of (after k cpu) n) E r l may))

pub outranks_still : (k : KernelState) (by cpu sc priority : ℕ) (E : ℕ → Type 0) → IsReached k → IsLimited k by E → OutranksOthers k cpu sc priority → OutranksOthers (after k by) cpu sc priority
outranks_still k by cpu sc priority E r l outranks n e p quantum at other =
    elim (outranks n e p quantum (ap (λ (os : List Object). slice_get os n) (sym (objects_stay k by E l)) ∙ at) other) [
      | inl less ↦ inl less
      | inr dead ↦ inr (dead_after k by e (reached_is_kept k r) dead)
    ]

-- ALL BUT ONE

-- one execution context, which does not act in this turn and waits for no reply
others_limited : (k : KernelState) (cpu ec : ℕ) → NobodyElseCreates k ec → option_map (λ (c : Candidate). c.actor) (next_to_act k cpu) ≢ Some ec →
    ((handler : ℕ) → state_in k.contexts ec ≢ Some (Calling handler)) → IsLimited k cpu (λ n. n ≡ ec)
others_limited k cpu ec nobody never calls = record {
  nothing = nobody;
  acts = λ n acts_ same. never (acts_ ∙ ap (λ (m : ℕ). Some m) same);
  calls = λ n handler waits same. calls handler (ap (state_in k.contexts) (sym same) ∙ waits);
}

pub others_create_nothing : (k : KernelState) (cpu ec : ℕ) → IsReached k → NobodyElseCreates k ec → option_map (λ (c : Candidate). c.actor) (next_to_act k cpu) ≢ Some ec →
    ((handler : ℕ) → state_in k.contexts ec ≢ Some (Calling handler)) → NobodyElseCreates (after k cpu) ec
others_create_nothing k cpu ec r nobody never calls = nothing_after k cpu (λ n. n ≡ ec) r (others_limited k cpu ec nobody never calls)

pub outranks_after : (k : KernelState) (by cpu sc ec priority : ℕ) → IsReached k → NobodyElseCreates k ec → option_map (λ (c : Candidate). c.actor) (next_to_act k by) ≢ Some ec →
    ((handler : ℕ) → state_in k.contexts ec ≢ Some (Calling handler)) → OutranksOthers k cpu sc priority → OutranksOthers (after k by) cpu sc priority
outranks_after k by cpu sc ec priority r nobody never calls outranks = outranks_still k by cpu sc priority (λ n. n ≡ ec) r (others_limited k by ec nobody never calls) outranks

-- ALL

pub all_limited : (k : KernelState) (cpu : ℕ) → NobodyCreates k → IsLimited k cpu (λ n. ⊥)
all_limited k cpu nobody = record { nothing = λ n out. nobody n; acts = λ n acts_ none. none; calls = λ n handler waits none. none }

record StaysMade (k l : KernelState) : Type 0 where
  objects : l.objects ≡ k.objects
  nobody : NobodyCreates l

made_run : (k : KernelState) (turns : List ℕ) → IsReached k → NobodyCreates k → StaysMade k (run k turns)
made_run k [] r nobody = record { objects = refl; nobody = nobody }
made_run k (by ∷ turns) r nobody =
    let l = all_limited k by nobody in
    let rest = made_run (after k by) turns (reached_after k by r) (λ n. nothing_after k by (λ m. ⊥) r l n (λ none. none)) in
    record { objects = rest.objects ∙ objects_stay k by (λ n. ⊥) l; nobody = rest.nobody }

pub nothing_made : (s : Scenario) (before turns : List ℕ) → NobodyCreates (run (boot s) before) → (run (run (boot s) before) turns).objects ≡ (run (boot s) before).objects
nothing_made s before turns nobody = (made_run (run (boot s) before) turns (record { scenario = s; turns = before; is = refl }) nobody).objects

pub nobody_later : (s : Scenario) (before turns : List ℕ) → NobodyCreates (run (boot s) before) → NobodyCreates (run (run (boot s) before) turns)
nobody_later s before turns nobody = (made_run (run (boot s) before) turns (record { scenario = s; turns = before; is = refl }) nobody).nobody

pub others_stay : (s : Scenario) (before turns : List ℕ) (sc cpu priority : ℕ) → NobodyCreates (run (boot s) before) →
    others (run (run (boot s) before) turns) cpu priority sc ≡ others (run (boot s) before) cpu priority sc
others_stay s before turns sc cpu priority nobody = ap (others_in cpu priority sc 0) (nothing_made s before turns nobody)
