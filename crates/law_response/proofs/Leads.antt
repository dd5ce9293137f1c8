-- A context whose turns lead to another that acts stays so in each turn in which the other doesn't act.
use Rattle.std.proofs.Common.{◌≡◌, ℕ, zero, suc, ◌<◌, [], ◌∷◌, ◌++◌, length, refl, sym, ap, ap₂, ◌∙◌, subst, arith, IsSome}
use Rattle.std.specs.Prelude.{◌≢◌, Bool, true, false, ◌==◌, ◌||◌, nat_lt, is_none, Option, Some, None, IfSome, option_map, option_and_then, slice_get}
use Rattle.std.proofs.lemmas.Bool.{eqb-true}
use Rattle.nova_objects.specs.declared.object.Object.{Object}
use Rattle.nova_objects.specs.declared.object.Object.TheVariants.{Pd, Ec, Sc, Pt, Sm}
use Rattle.nova_objects.specs.declared.object.EcKind.TheVariants.{Local, Global, Vcpu}
use Rattle.nova_range.specs.declared.status.Status.{Status}
use Rattle.nova_range.specs.declared.status.Status.TheVariants.{Success}
use Rattle.nova_model.specs.Capabilities.{is_schedulable}
use Rattle.nova_model.specs.Choice.{Candidate, actor, next_to_act}
use Rattle.nova_model.specs.Creation.{context_of}
use Rattle.nova_model.specs.Deeds.{answered, deed}
use Rattle.nova_model.specs.Edges.{AreCallers, AreEdges, MayWait, acts, acts_as, acts_by, after_edges, caller_in, chase, circle, edge, edge_of, is_dead, is_free, state_in, stays}
use Rattle.nova_model.specs.Runs.{after}
use Rattle.nova_model.specs.State.{Contexts, KernelState, context, ec_in, ec_of, is_local_in, is_local_thread, with_ec}
use Rattle.nova_model.specs.declared.context.EcState.{EcState}
use Rattle.nova_model.specs.declared.context.State.{State}
use Rattle.nova_model.specs.declared.context.State.TheVariants.{Parked, Calling, Helping, Sending, Blocked, Dead}
use Rattle.nova_model.specs.declared.deed.Deed.{Deed}
use Rattle.nova_model.specs.declared.event.Event.{Event}
use Rattle.nova_model.specs.declared.new_object.NewObject.{NewObject}
use Rattle.nova_ec.specs.Changes.{AllStay}
use Rattle.nova_ec.specs.Ways.{EndsAt}
use Rattle.nova_ec.proofs.Acting.{all_stay_alone, all_stay_same, awake}
use Rattle.nova_ec.proofs.Donors.{only_donors_change}
use Rattle.nova_ec.proofs.Ends.{chases_end, chases_go_on, circles_are_ways}
use Rattle.nova_ec.proofs.Tables.{edges_kept, edges_set}
use Rattle.nova_ec.proofs.Untouched.{joining_moves_none}
use Rattle.nova_choice.specs.Schedules.{leads}
use Rattle.nova_choice.proofs.Serving.{serving_leads}
use Rattle.nova_deeds.proofs.Answered.{completed_serving, parked_local, sent_serving}
use Rattle.law_forest.specs.Effects.{joined, made_by, passing_ends}
use Rattle.law_forest.specs.Turns.{Acts, Idles, IsTurning, Passes, Takes, Turning, turned}
use Rattle.law_forest.proofs.Turning.{comes}
use Rattle.law_turns.specs.Keeping.{IsKept}
use Rattle.law_turns.specs.Links.{state_at}
use Rattle.law_turns.specs.Tables.{IsOf}
use Rattle.law_turns.proofs.Awaiting.{caller_there}
use Rattle.law_turns.proofs.Blocking.{woken_blocked}
use Rattle.law_turns.proofs.Courses.{Courses, MayCome, deed_course}
use Rattle.law_turns.proofs.Passing.{passing_contexts, passing_ending}
use Rattle.law_turns.proofs.Referring.{deed_asks}
use Rattle.law_turns.proofs.Serving.{IsActor, actor_of, blocked_there, is_blocked}
use Rattle.law_turns.proofs.Setting.{entry_other}
use Rattle.law_turns.proofs.TablesFit.{chosen_acts}

-- WAYS

-- a longer way goes on from where a shorter one ends
beyond : (g : ℕ → Option ℕ) (m n e f x : ℕ) → m < n → after_edges m g e ≡ Some f → after_edges n g e ≡ Some x → (j : ℕ) × (after_edges (suc j) g f ≡ Some x)
beyond g zero zero e f x lt first second = absurd (omega arith)
beyond g zero (suc n) e f x lt first second = let same : e ≡ f = cc in (n, ap (after_edges (suc n) g) (sym same) ∙ second)
beyond g (suc m) zero e f x lt first second = absurd (omega arith)
beyond g (suc m) (suc n) e f x lt first second = by_edge (g e) first second (λ z a b. beyond g m n z f x (omega arith) a b)
  where
    by_edge : (o : Option ℕ) → option_and_then (after_edges m g) o ≡ Some f → option_and_then (after_edges n g) o ≡ Some x →
        ((z : ℕ) → after_edges m g z ≡ Some f → after_edges n g z ≡ Some x → (j : ℕ) × (after_edges (suc j) g f ≡ Some x)) → (j : ℕ) × (after_edges (suc j) g f ≡ Some x)
    by_edge None a b go = absurd cc
    by_edge (Some z) a b go = go z a b

-- a context that acts waits only for a free handler, and that waits for none
dead_free : (o : Option State) → is_dead o ≡ true → is_free o ≡ true
dead_free (Some Dead) h = refl
dead_free None h = absurd cc
dead_free (Some other) h = absurd cc

acting_waits : (cs : Contexts) (s : State) (h : ℕ) → acts_by s (option_and_then (state_in cs) (edge_of s)) ≡ true → edge_of s ≡ Some h → is_free (state_in cs h) ≡ true
acting_waits cs (Calling g) h able is = let same : g ≡ h = cc in ap (λ (n : ℕ). is_free (state_in cs n)) (sym same) ∙ dead_free (state_in cs g) able
acting_waits cs (Helping g) h able is = let same : g ≡ h = cc in ap (λ (n : ℕ). is_free (state_in cs n)) (sym same) ∙ able
acting_waits cs (Sending reason q0 q1 g) h able is = let same : g ≡ h = cc in ap (λ (n : ℕ). is_free (state_in cs n)) (sym same) ∙ able
acting_waits cs other h able is = absurd cc

waits_free : (cs : Contexts) (f h : ℕ) → acts cs f ≡ true → edge cs f ≡ Some h → is_free (state_in cs h) ≡ true
waits_free cs f h able is = by_state (state_in cs f) able is
  where
    by_state : (o : Option State) → acts_as cs o ≡ true → option_and_then edge_of o ≡ Some h → is_free (state_in cs h) ≡ true
    by_state None a b = absurd cc
    by_state (Some s) a b = acting_waits cs s h a b

free_ends : (o : Option State) → is_free o ≡ true → option_and_then edge_of o ≡ None
free_ends (Some Parked) h = refl
free_ends (Some Dead) h = refl
free_ends None h = refl
free_ends (Some other) h = absurd cc

-- where turns lead to a context that acts, they meet no other with which turns stay, unless it is free
not_met : (cs : Contexts) (e g : ℕ) → AreEdges cs → leads cs e ≡ true → stays cs g ≡ true → g ≢ chase cs e → is_free (state_in cs g) ≡ false →
    (n : ℕ) → after_edges n (edge cs) e ≢ Some g
not_met cs e g sound able halts other busy n way = by_less (nat_lt n end.edges) refl
  where
    end : EndsAt cs e (chase cs e)
    end = chases_end cs e sound

    past : (j : ℕ) → after_edges (suc j) (edge cs) (chase cs e) ≡ Some g → ⊥
    past j on = by_edge (edge cs (chase cs e)) refl on
      where
        by_rest : (i h : ℕ) → is_free (state_in cs h) ≡ true → after_edges i (edge cs) h ≡ Some g → ⊥
        by_rest zero h free at = let same : h ≡ g = cc in let now = ap (λ (m : ℕ). is_free (state_in cs m)) same in cc
        by_rest (suc i) h free at = let none = free_ends (state_in cs h) free in let over = ap (option_and_then (after_edges i (edge cs))) none in cc

        by_edge : (o : Option ℕ) → edge cs (chase cs e) ≡ o → option_and_then (after_edges j (edge cs)) o ≡ Some g → ⊥
        by_edge None is at = cc
        by_edge (Some h) is at = by_rest j h (waits_free cs (chase cs e) h able is) at

    by_equal : (t : Bool) → (n == end.edges) ≡ t → nat_lt n end.edges ≡ false → ⊥
    by_equal true is more =
        let same : n ≡ end.edges = eqb-true n end.edges is in
        let both : Some g ≡ Some (chase cs e) = sym way ∙ ap (λ (m : ℕ). after_edges m (edge cs) e) same ∙ end.way in
        other (let one : g ≡ chase cs e = cc in one)
    by_equal false is more =
        let further = beyond (edge cs) end.edges n e (chase cs e) g (grind arith) end.way way in past further.0 further.1

    by_less : (t : Bool) → nat_lt n end.edges ≡ t → ⊥
    by_less true is =
        let goes : IfSome (Some g) (λ x. stays cs x ≡ false) = subst (λ (o : Option ℕ). IfSome o (λ x. stays cs x ≡ false)) way (end.first n (grind arith)) in
        cc
    by_less false is = by_equal (n == end.edges) refl is

-- LED

pub record IsLed (cs : Contexts) (ec : ℕ) : Type 0 where
  pub leads : leads cs ec ≡ true
  pub edges : AreEdges cs

led_there : (cs : Contexts) (ec : ℕ) → IsLed cs ec → IsSome (ec_in cs ec)
led_there cs ec led = by_entry (ec_in cs ec) refl
  where
    by_entry : (o : Option EcState) → ec_in cs ec ≡ o → IsSome o
    by_entry None none =
        let no_state : state_in cs ec ≡ None = ap (option_map (λ (x : EcState). x.state)) none in
        let idle : acts cs ec ≡ false = ap (acts_as cs) no_state in
        let halts : stays cs ec ≡ true = ap₂ (λ (t : Bool) (o : Option ℕ). t || is_none o) idle (ap (option_and_then edge_of) no_state) in
        let itself = (chases_go_on cs ec led.edges).ends halts in
        absurd (let both : true ≡ false = sym led.leads ∙ ap (acts cs) itself ∙ idle in cc)
    by_entry (Some x) is = refl

-- one changes that isn't met
untouched : (cs : Contexts) (ec g : ℕ) (y : EcState) → IsLed cs ec → stays cs g ≡ true → g ≢ chase cs ec → is_free (state_in cs g) ≡ false → leads (with_ec cs g y) ec ≡ true
untouched cs ec g y led halts other busy =
    let stay = only_donors_change cs g ec y led.edges (led_there cs ec led) (by_circle (circle cs ec g) refl) in
    ap (acts (with_ec cs g y)) stay.0 ∙ stay.1 ∙ led.leads
  where
    by_circle : (t : Bool) → circle cs ec g ≡ t → t ≡ false
    by_circle true is =
        let way = (circles_are_ways cs ec g led.edges (led_there cs ec led)).0 is in absurd (not_met cs ec g led.edges led.leads halts other busy way.0 way.1)
    by_circle false is = refl

all_led : (cs ds : Contexts) (ec : ℕ) → AllStay cs ds → leads cs ec ≡ true → leads ds ec ≡ true
all_led cs ds ec all able = ap (acts ds) (all ec).0 ∙ (all (chase cs ec)).1 ∙ able

-- one keeps its state
led_same : (cs : Contexts) (ec w : ℕ) (x y : EcState) → ec_in cs w ≡ Some x → y.cpu ≡ x.cpu → y.state ≡ x.state → IsLed cs ec → IsLed (with_ec cs w y) ec
led_same cs ec w x y there cpu same led = record {
  leads = all_led cs (with_ec cs w y) ec (all_stay_same cs w x y there same) led.leads;
  edges = edges_kept cs w x y led.edges there cpu same;
}

-- a context that acts comes to a state in which it acts, with no edge
led_acting : (cs : Contexts) (ec g : ℕ) (x y : EcState) → acts cs g ≡ true → ec_in cs g ≡ Some x → y.cpu ≡ x.cpu → edge_of y.state ≡ None →
    ((handler : Option State) → acts_by y.state handler ≡ true) → IsLed cs ec → IsLed (with_ec cs g y) ec
led_acting cs ec g x y able there cpu none alone led = record {
  leads = all_led cs (with_ec cs g y) ec (all_stay_alone cs g y able alone) led.leads;
  edges = edges_set cs g x y None led.edges there cpu none tt;
}

-- a context that acts comes to any state, where turns don't lead to it
acts_halts : (cs : Contexts) (g : ℕ) → acts cs g ≡ true → stays cs g ≡ true
acts_halts cs g able = ap (λ (t : Bool). t || is_none (edge cs g)) able

led_moving : (cs : Contexts) (ec g : ℕ) (x y : EcState) → acts cs g ≡ true → ec_in cs g ≡ Some x → y.cpu ≡ x.cpu → MayWait cs g (edge_of y.state) → g ≢ chase cs ec → IsLed cs ec →
    IsLed (with_ec cs g y) ec
led_moving cs ec g x y able there cpu may other led = record {
  leads = untouched cs ec g y led (acts_halts cs g able) other (awake cs g able).free;
  edges = edges_set cs g x y (edge_of y.state) led.edges there cpu refl may;
}

-- a context that was blocked goes on
led_woken : (cs : Contexts) (ec w sm : ℕ) (status : Status) → state_in cs w ≡ Some (Blocked sm) → IsLed cs ec → IsLed (with_ec cs w (answered (ec_of cs w) status None)) ec
led_woken cs ec w sm status blocked led =
    let idle : acts cs w ≡ false = ap (acts_as cs) blocked in
    let halts : stays cs w ≡ true = ap₂ (λ (t : Bool) (o : Option ℕ). t || is_none o) idle (ap (option_and_then edge_of) blocked) in
    record {
      leads = untouched cs ec w (answered (ec_of cs w) status None) led halts
          (λ same. let both : true ≡ false = sym led.leads ∙ ap (acts cs) (sym same) ∙ idle in cc) (ap is_free blocked);
      edges = edges_set cs w (ec_of cs w) (answered (ec_of cs w) status None) None led.edges (blocked_there cs w sm blocked) refl refl tt;
    }

-- A DEED

led_courses : (k : KernelState) (ec g : ℕ) (d : Deed) → acts k.contexts g ≡ true → IsKept k → g ≢ chase k.contexts ec → is_local_thread k ec ≡ false → IsLed k.contexts ec →
    Courses k g d (λ cs all. IsLed cs ec)
led_courses k ec g d able kept other owner led = record {
  rests = λ to. led;
  steps = λ regs is. led_same k.contexts ec g (context k g) (record (context k g) { regs = regs }) actor.there refl refl led;
  stays = λ cs all w x y is self same h. led_same cs ec w x y is self.cpu same h;
  goes = λ y self to may. led_moving k.contexts ec g (context k g) y able actor.there self.cpu (may_wait y.state may) other led;
  sends = λ handler its ip identifier items to of reached.
      let both = sent_serving (is_local_thread k) k.contexts g handler ip identifier its items led.edges able reached kept.served in
      let apart = not_local handler (parked_local (is_local_thread k) k.contexts g handler reached kept.served) in
      record { leads = serving_leads k.contexts _ g handler ec both apart ∙ led.leads; edges = both.busy_edges };
  replies = λ caller its m to keeps.
      let keeps' : caller_in k.contexts g ≡ Some (caller, its) = caller_there (ec_in k.contexts g) caller its keeps in
      let both = completed_serving (is_local_thread k) k.contexts g caller its m led.edges callers able keeps' kept.served in
      let apart = not_local g ((kept.served.well g).kept caller its keeps') in
      record { leads = sym (serving_leads _ k.contexts caller g ec both apart) ∙ led.leads; edges = both.idle_edges };
  ups = λ sm to is. answers;
  wakes = λ sm w to is.
      let blocked = woken_blocked k sm w is kept.blocked in
      let y = answered (context k g) Success None in
      let one = with_ec k.contexts g y in
      let apart : w ≢ g = λ same. let both : true ≡ false = sym (ap is_blocked blocked) ∙ ap (λ (n : ℕ). is_blocked (state_in k.contexts n)) same ∙ actor.unblocked in cc in
      led_woken one ec w sm Success (ap state_at (entry_other k.contexts g w y apart) ∙ blocked) answers;
  downs = λ sm to is. answers;
  blocks = λ sm to is answer. led_moving k.contexts ec g (context k g) (record (context k g) { state = Blocked sm }) able actor.there refl tt other led;
}
  where
    actor : IsActor k.contexts g
    actor = actor_of k.contexts g able

    callers : AreCallers k.contexts
    callers e c m is = (kept.served.linked c e).cpu m is

    not_local : (h : ℕ) → is_local_thread k h ≡ true → ec ≢ h
    not_local h local same = let both : true ≡ false = sym local ∙ ap (is_local_thread k) (sym same) ∙ owner in cc

    answers : IsLed (with_ec k.contexts g (answered (context k g) Success None)) ec
    answers = led_acting k.contexts ec g (context k g) (answered (context k g) Success None) able actor.there refl refl (λ handler. refl) led

    may_wait : (s : State) → MayCome k g d s → MayWait k.contexts g (edge_of s)
    may_wait (Calling h) may = absurd may
    may_wait (Helping h) may = may
    may_wait (Sending reason q0 q1 h) may = may
    may_wait other may = tt

led_joined : (n : ℕ) (cs : Contexts) (ec : ℕ) (made : Option NewObject) → IsLed cs ec → leads (joined cs (option_map (context_of n) made)) ec ≡ true
led_joined n cs ec None led = led.leads
led_joined n cs ec (Some made) led =
    let stay = joining_moves_none cs (context_of n made) ec led.edges (led_there cs ec led) in
    ap (acts (cs ++ context_of n made ∷ [])) stay.0 ∙ stay.1 ∙ led.leads

-- A TURN

led_turned : (k : KernelState) (cpu ec : ℕ) (t : Turning) (e : Event) → IsTurning k cpu t e → IsKept k → is_local_thread k ec ≡ false → leads k.contexts ec ≡ true →
    option_map (λ (c : Candidate). c.actor) (next_to_act k cpu) ≢ Some (actor k ec) → leads (turned k cpu t).contexts ec ≡ true
led_turned k cpu ec t e (Acts c chosen is event) kept owner able await =
    let led : IsLed k.contexts ec = record { leads = able; edges = kept.edges } in
    let other : c.actor ≢ chase k.contexts ec = λ same. await (ap (option_map (λ (x : Candidate). x.actor)) chosen ∙ ap (λ (n : ℕ). Some n) same) in
    let its = chosen_acts k cpu c chosen in
    let d = deed k c.actor in
    subst (λ (u : Turning). leads (turned k cpu u).contexts ec ≡ true) (sym is)
    (led_joined (length k.objects) _ ec (made_by d)
    (deed_course k c.actor (λ cs all. IsLed cs ec) d (actor_of k.contexts c.actor its) (deed_asks k c.actor) (led_courses k ec c.actor d its kept other owner led)))
led_turned k cpu ec t e (Passes p comes is event) kept owner able await =
    let led : IsLed k.contexts ec = record { leads = able; edges = kept.edges } in
    subst (λ (u : Turning). leads (turned k cpu u).contexts ec ≡ true) (sym is)
    (passing_contexts (λ cs. leads cs ec ≡ true) k.contexts (passing_ends k p) (passing_ending k cpu p comes kept.blocked kept.deadlines) able
    (λ w sm status waits. (led_woken k.contexts ec w sm status waits led).leads))

pub led_after : (k : KernelState) (cpu ec : ℕ) → IsKept k → is_local_thread k ec ≡ false → leads k.contexts ec ≡ true →
    option_map (λ (c : Candidate). c.actor) (next_to_act k cpu) ≢ Some (actor k ec) → leads (after k cpu).contexts ec ≡ true
led_after k cpu ec kept owner able await = elim (comes k cpu) [
  | Idles none moment same answer ↦ ap (λ (s : KernelState). leads s.contexts ec) same ∙ able
  | Takes t e is state answer ↦ ap (λ (s : KernelState). leads s.contexts ec) state ∙ led_turned k cpu ec t e is kept owner able await
]

-- THE OWNER

owner_not_local : (o : Option Object) → option_map is_schedulable o ≡ Some true → is_local_in o ≡ false
owner_not_local None is = absurd cc
owner_not_local (Some (Ec pd cpu Local event)) is = absurd cc
owner_not_local (Some (Ec pd cpu Global event)) is = refl
owner_not_local (Some (Ec pd cpu Vcpu event)) is = refl
owner_not_local (Some Pd) is = absurd cc
owner_not_local (Some (Sc ec cpu priority quantum)) is = absurd cc
owner_not_local (Some (Pt ec mtd ip)) is = absurd cc
owner_not_local (Some Sm) is = absurd cc

pub schedulable_apart : (k : KernelState) (ec : ℕ) → IsOf k.objects is_schedulable ec → is_local_thread k ec ≡ false
schedulable_apart k ec is = owner_not_local (slice_get k.objects ec) is
