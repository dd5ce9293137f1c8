-- A context that acts by itself goes on to do so until it acts.
use Rattle.std.proofs.Common.{◌≡◌, ℕ, List, [], ◌∷◌, length, inl, inr, refl, sym, ap, ◌∙◌, subst}
use Rattle.std.specs.Prelude.{◌≢◌, ◌||◌, Bool, true, false, is_none, Option, Some, None, option_map, option_and_then}
use Rattle.nova_model.specs.Boot.{Scenario, boot}
use Rattle.nova_model.specs.Choice.{Candidate, actor, next_to_act}
use Rattle.nova_model.specs.Creation.{context_of}
use Rattle.nova_model.specs.Deeds.{deed}
use Rattle.nova_model.specs.Edges.{acts, acts_as, acts_by, edge, edge_of, state_in}
use Rattle.nova_model.specs.Runs.{after, run}
use Rattle.nova_model.specs.State.{Contexts, KernelState, context, context_in, ec_in, ec_of}
use Rattle.nova_model.specs.declared.budget.Budget.{Budget}
use Rattle.nova_model.specs.declared.context.EcState.{EcState}
use Rattle.nova_model.specs.declared.context.State.{State}
use Rattle.nova_model.specs.declared.context.State.TheVariants.{Fresh, Ready, Exiting, Granting, Replying, Revoking, Blocked}
use Rattle.nova_model.specs.declared.event.Event.{Event}
use Rattle.nova_model.specs.declared.new_object.NewObject.{NewObject}
use Rattle.nova_ec.proofs.Ends.{chases_go_on}
use Rattle.law_forest.specs.Effects.{all_edited, edits_by, joined, made_by, passing_ends}
use Rattle.law_forest.specs.Turns.{Acts, Idles, IsTurning, Passes, Takes, Turning, acting, passing, turned}
use Rattle.law_forest.proofs.Turning.{comes}
use Rattle.law_turns.specs.Keeping.{IsKept}
use Rattle.law_turns.specs.Links.{state_at}
use Rattle.law_turns.proofs.Passing.{Ended, Same, passing_each, passing_ending}
use Rattle.law_turns.proofs.Referring.{deed_asks}
use Rattle.law_turns.proofs.Donation.{reached_kept}
use Rattle.law_turns.proofs.Serving.{actor_of, is_blocked}
use Rattle.law_turns.proofs.Setting.{entry_kept}
use Rattle.law_turns.proofs.States.{has_begun, is_waiting, others_move}
use Rattle.law_turns.proofs.TablesFit.{TablesFit, chosen_acts}
use Rattle.law_response.specs.Waits.{ActsItself, Awaits, HasAwaited, IsSchedule, MayRun, NeverActs, acts_itself}
use Rattle.law_response.proofs.Responding.{awaited, reached_is_kept}
use Rattle.law_response.proofs.Waiting.{IsReached, reached_after}

-- IT MAY RUN

acts_whatever : (s : State) (handler : Option State) → acts_itself s ≡ true → acts_by s handler ≡ true
acts_whatever Fresh handler its = refl
acts_whatever Ready handler its = refl
acts_whatever (Exiting reason q0 q1) handler its = refl
acts_whatever (Granting new) handler its = refl
acts_whatever Replying handler its = refl
acts_whatever (Revoking range own) handler its = refl
acts_whatever other handler its = absurd cc

pub itself_acts : (cs : Contexts) (ec : ℕ) (s : State) → state_in cs ec ≡ Some s → acts_itself s ≡ true → acts cs ec ≡ true
itself_acts cs ec s is its = ap (acts_as cs) is ∙ acts_whatever s (option_and_then (state_in cs) (edge_of s)) its

pub itself_leads : (k : KernelState) (ec : ℕ) (s : State) → IsKept k → state_in k.contexts ec ≡ Some s → acts_itself s ≡ true → actor k ec ≡ ec
itself_leads k ec s kept is its =
    (chases_go_on k.contexts ec kept.edges).ends (ap (λ (t : Bool). t || is_none (edge k.contexts ec)) (itself_acts k.contexts ec s is its))

pub itself_may : (k : KernelState) (ec : ℕ) (s : State) → IsKept k → state_in k.contexts ec ≡ Some s → acts_itself s ≡ true → MayRun k ec
itself_may k ec s kept is its = ap (acts k.contexts) (itself_leads k ec s kept is its) ∙ itself_acts k.contexts ec s is its

-- IT STAYS SO

not_waiting : (s : State) → acts_itself s ≡ true → is_waiting s ≡ false
not_waiting Fresh its = refl
not_waiting Ready its = refl
not_waiting (Exiting reason q0 q1) its = refl
not_waiting (Granting new) its = refl
not_waiting Replying its = refl
not_waiting (Revoking range own) its = refl
not_waiting other its = absurd cc

not_blocked : (s : State) (sm : ℕ) → acts_itself s ≡ true → s ≢ Blocked sm
not_blocked s sm its is = let none = ap acts_itself is in cc

pub of_state : (cs : Contexts) (ec : ℕ) (s : State) → state_in cs ec ≡ Some s → (x : EcState) × (ec_in cs ec ≡ Some x) × (x.state ≡ s)
of_state cs ec s is = by_entry (ec_in cs ec) refl is
  where
    by_entry : (o : Option EcState) → ec_in cs ec ≡ o → option_map (λ (x : EcState). x.state) o ≡ Some s → (x : EcState) × (ec_in cs ec ≡ Some x) × (x.state ≡ s)
    by_entry None at h = absurd cc
    by_entry (Some x) at h = (x, at, (let same : x.state ≡ s = cc in same))

-- the state that a table has there is that of its entry, where that isn't the state of no context
pub kept_state : (o : Option EcState) (s : State) → (context_in o).state ≡ s → acts_itself s ≡ true → state_at o ≡ Some s
kept_state None s is its = let none = ap acts_itself is in absurd cc
kept_state (Some x) s is its = ap Some is

pub joined_state : (n : ℕ) (cs : Contexts) (ec : ℕ) (made : Option NewObject) (s : State) → state_in cs ec ≡ Some s → state_in (joined cs (option_map (context_of n) made)) ec ≡ Some s
joined_state n cs ec None s is = is
joined_state n cs ec (Some made) s is =
    let x = of_state cs ec s is in
    ap state_at (entry_kept cs (context_of n made) ec x.0 x.1) ∙ ap Some x.2

itself_turned : (k : KernelState) (cpu ec : ℕ) (s : State) (t : Turning) (e : Event) → IsTurning k cpu t e → IsKept k → state_in k.contexts ec ≡ Some s → acts_itself s ≡ true →
    option_map (λ (c : Candidate). c.actor) (next_to_act k cpu) ≢ Some ec → state_in (turned k cpu t).contexts ec ≡ Some s
itself_turned k cpu ec s t e (Acts c chosen is event) kept at its never =
    let fits : TablesFit k = record { tables = kept.tables; served = kept.served; blocked = kept.blocked; guests = kept.guests; late = kept.deadlines } in
    let other : ec ≢ c.actor = λ same. never (ap (option_map (λ (x : Candidate). x.actor)) chosen ∙ ap (λ (n : ℕ). Some n) (sym same)) in
    let d = deed k c.actor in
    let x = of_state k.contexts ec s at in
    let before : (context k ec).state ≡ s = ap (λ (o : Option EcState). (context_in o).state) x.1 ∙ x.2 in
    let cs = all_edited k.contexts (edits_by k c.actor d) in
    let moves = others_move k c.actor d (actor_of k.contexts c.actor (chosen_acts k cpu c chosen)) (deed_asks k c.actor) fits ec other in
    subst (λ (u : Turning). state_in (turned k cpu u).contexts ec ≡ Some s) (sym is)
    (joined_state (length k.objects) cs ec (made_by d) s
    (kept_state (ec_in cs ec) s (elim moves [
      | inl same ↦ same ∙ before
      | inr begun ↦ absurd (let none : is_waiting (context k ec).state ≡ false = ap is_waiting before ∙ not_waiting s its in let waits = begun.0 in cc)
    ]) its))
itself_turned k cpu ec s t e (Passes p comes is event) kept at its never =
    let x = of_state k.contexts ec s at in
    subst (λ (u : Turning). state_in (turned k cpu u).contexts ec ≡ Some s) (sym is)
    (elim (passing_each k.contexts (passing_ends k p) (passing_ending k cpu p comes kept.blocked kept.deadlines) ec) [
      | Same same ↦ ap state_at same ∙ at
      | Ended y sm status old waits new ↦
          absurd (let one : Some y ≡ Some x.0 = sym old ∙ x.1 in let same : y ≡ x.0 = cc in not_blocked s sm its (sym x.2 ∙ ap (λ (z : EcState). z.state) (sym same) ∙ waits))
    ])

pub itself_after : (k : KernelState) (cpu ec : ℕ) (s : State) → IsKept k → state_in k.contexts ec ≡ Some s → acts_itself s ≡ true →
    option_map (λ (c : Candidate). c.actor) (next_to_act k cpu) ≢ Some ec → state_in (after k cpu).contexts ec ≡ Some s
itself_after k cpu ec s kept at its never = elim (comes k cpu) [
  | Idles none moment same answer ↦ ap (λ (x : KernelState). state_in x.contexts ec) same ∙ at
  | Takes t e is state answer ↦ ap (λ (x : KernelState). state_in x.contexts ec) state ∙ itself_turned k cpu ec s t e is kept at its never
]

pub record StaysItself (k : KernelState) (turns : List ℕ) (ec : ℕ) (s : State) : Type 0 where
  pub awaits : Awaits k ec turns
  pub still : state_in (run k turns).contexts ec ≡ Some s

pub stays_itself : (k : KernelState) (turns : List ℕ) (ec : ℕ) (s : State) → IsReached k → state_in k.contexts ec ≡ Some s → acts_itself s ≡ true → NeverActs k ec turns → StaysItself k turns ec s
stays_itself k [] ec s r at its never = record { awaits = tt; still = at }
stays_itself k (by ∷ turns) ec s r at its (first, never) =
    let kept = reached_is_kept k r in
    let rest = stays_itself (after k by) turns ec s (reached_after k by r) (itself_after k by ec s kept at its first) its never in
    record { awaits = (λ same. first (same ∙ ap (λ (n : ℕ). Some n) (itself_leads k ec s kept at its)), rest.awaits); still = rest.still }

pub acts_in_time : (s : Scenario) (before turns : List ℕ) (sc ec cpu priority quantum : ℕ) (b : Budget) (x : State) → IsSchedule (run (boot s) before) sc ec cpu priority quantum b →
    state_in (run (boot s) before).contexts ec ≡ Some x → acts_itself x ≡ true → NeverActs (run (boot s) before) ec turns →
    HasAwaited (run (boot s) before) turns sc ec cpu priority b × (state_in (run (run (boot s) before) turns).contexts ec ≡ Some x)
acts_in_time s before turns sc ec cpu priority quantum b x its at acts never =
    let k = run (boot s) before in
    let r : IsReached k = record { scenario = s; turns = before; is = refl } in
    let so = stays_itself k turns ec x r at acts never in
    (awaited s before turns sc ec cpu priority quantum b its (itself_may k ec x (reached_is_kept k r) at acts) so.awaits, so.still)

-- A CONTEXT THAT WAS BLOCKED

begun_itself : (s : State) → has_begun s ≡ true → acts_itself s ≡ true
begun_itself Ready h = refl
begun_itself (Granting None) h = refl
begun_itself (Granting (Some domain)) h = refl
begun_itself other h = absurd cc

blocked_at : (o : Option EcState) (sm : ℕ) → (context_in o).state ≡ Blocked sm → state_at o ≡ Some (Blocked sm)
blocked_at None sm is = absurd cc
blocked_at (Some x) sm is = ap Some is

woken_turned : (k : KernelState) (cpu ec sm : ℕ) (t : Turning) (e : Event) → IsTurning k cpu t e → IsKept k → state_in k.contexts ec ≡ Some (Blocked sm) →
    state_in (turned k cpu t).contexts ec ≢ Some (Blocked sm) → ActsItself (turned k cpu t) ec
woken_turned k cpu ec sm t e (Acts c chosen is event) kept at gone =
    let fits : TablesFit k = record { tables = kept.tables; served = kept.served; blocked = kept.blocked; guests = kept.guests; late = kept.deadlines } in
    let actor = actor_of k.contexts c.actor (chosen_acts k cpu c chosen) in
    let other : ec ≢ c.actor = λ same. let both : true ≡ false = sym (ap is_blocked at) ∙ ap (λ (n : ℕ). is_blocked (state_in k.contexts n)) same ∙ actor.unblocked in cc in
    let d = deed k c.actor in
    let x = of_state k.contexts ec (Blocked sm) at in
    let before : (context k ec).state ≡ Blocked sm = ap (λ (o : Option EcState). (context_in o).state) x.1 ∙ x.2 in
    let cs = all_edited k.contexts (edits_by k c.actor d) in
    let moves = others_move k c.actor d actor (deed_asks k c.actor) fits ec other in
    let gone' : state_in (turned k cpu (acting k c)).contexts ec ≢ Some (Blocked sm) = λ still. gone (ap (λ (u : Turning). state_in (turned k cpu u).contexts ec) is ∙ still) in
    subst (λ (u : Turning). ActsItself (turned k cpu u) ec) (sym is) (elim moves [
      | inl same ↦ absurd (gone' (joined_state (length k.objects) cs ec (made_by d) (Blocked sm) (blocked_at (ec_in cs ec) sm (same ∙ before))))
      | inr begun ↦ (
          let s = (ec_of cs ec).state in
          let acts = begun_itself s begun.1 in
          record { state = s; is = joined_state (length k.objects) cs ec (made_by d) s (kept_state (ec_in cs ec) s refl acts); acts = acts }
          )
    ])
woken_turned k cpu ec sm t e (Passes p comes is event) kept at gone =
    let gone' : state_in (turned k cpu (passing k p)).contexts ec ≢ Some (Blocked sm) = λ still. gone (ap (λ (u : Turning). state_in (turned k cpu u).contexts ec) is ∙ still) in
    subst (λ (u : Turning). ActsItself (turned k cpu u) ec) (sym is)
    (elim (passing_each k.contexts (passing_ends k p) (passing_ending k cpu p comes kept.blocked kept.deadlines) ec) [
      | Same same ↦ absurd (gone' (ap state_at same ∙ at))
      | Ended y its status old waits new ↦ record { state = Ready; is = ap state_at new; acts = refl }
    ])

woken_after : (k : KernelState) (cpu ec sm : ℕ) → IsKept k → state_in k.contexts ec ≡ Some (Blocked sm) → state_in (after k cpu).contexts ec ≢ Some (Blocked sm) → ActsItself (after k cpu) ec
woken_after k cpu ec sm kept at gone = elim (comes k cpu) [
  | Idles none moment same answer ↦ absurd (gone (ap (λ (x : KernelState). state_in x.contexts ec) same ∙ at))
  | Takes t e is state answer ↦
      subst (λ (x : KernelState). ActsItself x ec) (sym state)
      (woken_turned k cpu ec sm t e is kept at (λ still. gone (ap (λ (x : KernelState). state_in x.contexts ec) state ∙ still)))
]

pub woken_itself : (s : Scenario) (before : List ℕ) (by ec sm : ℕ) → state_in (run (boot s) before).contexts ec ≡ Some (Blocked sm) →
    state_in (after (run (boot s) before) by).contexts ec ≢ Some (Blocked sm) → ActsItself (after (run (boot s) before) by) ec
woken_itself s before by ec sm at gone = woken_after (run (boot s) before) by ec sm (reached_kept s before) at gone
