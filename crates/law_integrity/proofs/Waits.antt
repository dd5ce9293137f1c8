-- A context that waits came by right, and a context that is no local thread pays for itself.
use Rattle.std.proofs.Common.{◌≡◌, ℕ, zero, suc, List, [], ◌∷◌, ◌++◌, ◌⊎◌, refl, sym, ap, ◌∙◌, subst, inl, inr}
use Rattle.std.specs.Prelude.{Option, Some, None, option_map, option_and_then}
use Rattle.std.proofs.lemmas.Option.{same_Some}
use Rattle.nova_ec.specs.Ways.{EndsAt}
use Rattle.law_forest.proofs.Actors.{who_acts}
use Rattle.law_forest.proofs.Turning.{acts_chosen}
use Rattle.nova_guest.specs.declared.input.Input.{Input}
use Rattle.nova_guest.specs.declared.input.Input.TheVariants.{Died, Sent}
use Rattle.law_isolation.proofs.OwnTurns.{own_is}
use Rattle.law_isolation.proofs.Runs.{reached_sound}
use Rattle.law_turns.specs.Tables.{IsOf}
use Rattle.law_turns.proofs.Serving.{IsActor, actor_of}
use Rattle.nova_model.specs.Boot.{Scenario, boot}
use Rattle.nova_model.specs.Capabilities.{is_local}
use Rattle.nova_model.specs.Choice.{Candidate}
use Rattle.nova_model.specs.Deeds.{deed}
use Rattle.nova_model.specs.Edges.{after_edges, edge}
use Rattle.nova_model.specs.Guests.{input}
use Rattle.nova_model.specs.Inputs.{own_input}
use Rattle.nova_model.specs.Runs.{after, run}
use Rattle.nova_model.specs.State.{KernelState, context}
use Rattle.nova_model.specs.declared.context.State.TheVariants.{Calling}
use Rattle.nova_model.specs.declared.deed.Deed.{Deed}
use Rattle.nova_model.specs.declared.deed.Deed.TheVariants as deeds
use Rattle.nova_objects.specs.declared.object.Object.TheVariants.{Sc}
use Rattle.law_origins.specs.Giving.{Acts}
use Rattle.law_origins.specs.Whose.{IsInputBy}
use Rattle.law_origins.proofs.Actors.{input_is, is_able}
use Rattle.law_origins.proofs.Coming.{Begins, came}
use Rattle.law_origins.proofs.Lists.{by_turns, one_more, run_append}
use Rattle.law_origins.proofs.Origins.{boot_plain}
use Rattle.law_origins.proofs.Rights.{input_right}
use Rattle.law_integrity.specs.Rights.{CallsAt, ExitsAt}
use Rattle.law_integrity.specs.Rightful.{IsRightful}
use Rattle.law_integrity.specs.Waits.{ByHandler, ByLoss, DiesOfExit, HasCome, HasLocalEdges, IsSentOn, PaysItself, Waits}
use Rattle.law_integrity.proofs.Authorised.{has_turn}
use Rattle.law_integrity.proofs.Edges.{local_edges, reached_rightful}
use Rattle.law_integrity.proofs.Own.{exits_at}

-- WHAT PAYS

-- a way has a last edge
last_edge : (n : ℕ) (edges : ℕ → Option ℕ) (e f : ℕ) → after_edges (suc n) edges e ≡ Some f → (x : ℕ) × (edges x ≡ Some f)
last_edge zero edges e f is = by_edge (edges e) refl is
  where
    by_edge : (o : Option ℕ) → edges e ≡ o → option_and_then (after_edges zero edges) o ≡ Some f → (x : ℕ) × (edges x ≡ Some f)
    by_edge None at h = absurd (cc)
    by_edge (Some g) at h = (e, at ∙ h)
last_edge (suc n) edges e f is = by_edge (edges e) is (λ g h. last_edge n edges g f h)
  where
    by_edge : (o : Option ℕ) → option_and_then (after_edges (suc n) edges) o ≡ Some f → ((g : ℕ) → after_edges (suc n) edges g ≡ Some f → (x : ℕ) × (edges x ≡ Some f)) →
        (x : ℕ) × (edges x ≡ Some f)
    by_edge None h rest = absurd (cc)
    by_edge (Some g) h rest = rest g h

itself_at : (k : KernelState) (donor ec : ℕ) → HasLocalEdges k → (IsOf k.objects is_local ec → ⊥) → EndsAt k.contexts donor ec → donor ≡ ec
itself_at k donor ec local other way = by_edges way.edges way.way
  where
    by_edges : (n : ℕ) → after_edges n (edge k.contexts) donor ≡ Some ec → donor ≡ ec
    by_edges zero is = same_Some donor ec is
    by_edges (suc n) is = let last = last_edge n (edge k.contexts) donor ec is in absurd (other (local last.0 ec last.1))

pub pays_itself : (s : Scenario) (turns : List ℕ) (cpu ec : ℕ) → Acts (run (boot s) turns) cpu ec → (IsOf (run (boot s) turns).objects is_local ec → ⊥) → PaysItself (run (boot s) turns) cpu ec
pays_itself s turns cpu ec is other =
    who_acts (λ n. (IsOf now.objects is_local n → ⊥) → PaysItself now cpu n) now cpu ec is (λ c chosen none.
    let turn = has_turn now cpu c (reached_sound s turns).kept.edges chosen in
    let same : turn.donor ≡ c.actor = itself_at now turn.donor c.actor (local_edges s turns) none turn.leads in record {
      sc = c.sc;
      priority = turn.priority;
      quantum = turn.quantum;
      pays = ap (option_map (λ (d : Candidate). d.sc)) (acts_chosen now cpu c chosen).0;
      object = turn.object ∙ ap (λ (n : ℕ). Some (Sc n cpu turn.priority turn.quantum)) same;
    }) other
  where
    now : KernelState
    now = run (boot s) turns

-- WHICH CONTEXT WAITS

waits_more : (k : KernelState) (turns : List ℕ) (cpu n h : ℕ) → Waits k turns n h → (context (after (run k turns) cpu) n).state ≡ Calling h → Waits k (turns ++ cpu ∷ []) n h
waits_more k [] cpu n h now next = (now, next)
waits_more k (c ∷ turns) cpu n h now next = (now.0, waits_more (after k c) turns cpu n h now.1 next)

pub came_by : (k : KernelState) (n h : ℕ) (d : Deed) → IsRightful k n d → Begins d (Calling h) → CallsAt k n h ⊎ ExitsAt k n h
came_by k n h (deeds.Calls handler ip number items) r starts = let same : handler ≡ h = cc in inl (subst (CallsAt k n) same r.at)
came_by k n h (deeds.Sends handler ip number mtd reason q0 q1) r starts =
    let same : handler ≡ h = cc in inr (subst (ExitsAt k n) same (exits_at k n handler ip number mtd.0 reason q0 q1 _ r))
came_by k n h (deeds.Opens target domain) r starts = absurd (cc)
came_by k n h (deeds.Raises reason q0 q1) r starts = absurd (cc)
came_by k n h (deeds.Waits handler reason q0 q1) r starts = absurd (cc)
came_by k n h other r starts = absurd starts

pub has_come : (s : Scenario) (turns : List ℕ) (n h : ℕ) → (context (run (boot s) turns) n).state ≡ Calling h → HasCome (boot s) turns n h
has_come s =
    by_turns (λ (turns : List ℕ). (n h : ℕ) → (context (run (boot s) turns) n).state ≡ Calling h → HasCome (boot s) turns n h)
    (λ n h is. absurd (boot_plain s n (Calling h) tt is))
    (λ turns cpu earlier n h is.
    let now : (context (after (run (boot s) turns) cpu) n).state ≡ Calling h = ap (λ (k : KernelState). (context k n).state) (sym (run_append (boot s) turns (cpu ∷ []))) ∙ is in
    by_case turns cpu n h now (earlier n h) (came (run (boot s) turns) cpu n (Calling h) tt now))
  where
    by_case : (turns : List ℕ) (cpu n h : ℕ) → (context (after (run (boot s) turns) cpu) n).state ≡ Calling h →
        ((context (run (boot s) turns) n).state ≡ Calling h → HasCome (boot s) turns n h) →
        (((context (run (boot s) turns) n).state ≡ Calling h) ⊎ (Acts (run (boot s) turns) cpu n × Begins (deed (run (boot s) turns) n) (Calling h))) → HasCome (boot s) (turns ++ cpu ∷ []) n h
    by_case turns cpu n h now earlier (inl before) =
        let e = earlier before in
        let at : run (boot s) turns ≡ run (after (run (boot s) e.before) e.cpu) e.later = ap (run (boot s)) e.whole ∙ run_append (boot s) e.before (e.cpu ∷ e.later) in
        record {
          before = e.before;
          cpu = e.cpu;
          later = e.later ++ cpu ∷ [];
          whole = one_more turns e.before e.later e.cpu cpu e.whole;
          acts = e.acts;
          right = e.right;
          waits = waits_more (after (run (boot s) e.before) e.cpu) e.later cpu n h e.waits (subst (λ (k : KernelState). (context (after k cpu) n).state ≡ Calling h) at now);
        }
    by_case turns cpu n h now earlier (inr begins) = record {
      before = turns;
      cpu = cpu;
      later = [];
      whole = refl;
      acts = begins.0;
      right = came_by (run (boot s) turns) n h (deed (run (boot s) turns) n) (reached_rightful s turns n) begins.1;
      waits = now;
    }

-- WHAT BECOMES OF AN EXIT OF A VIRTUAL CPU

sent_on : (k : KernelState) (g : ℕ) (d : Deed) → IsRightful k g d → own_input d ≡ Some Sent → IsSentOn k g
sent_on k g (deeds.Sends handler ip number mtd reason q0 q1) r is =
    record { handler = handler; ip = ip; number = number; mtd = mtd.0; reason = reason; q0 = q0; q1 = q1; sent = r }
sent_on k g deeds.Steps r is = absurd (cc)
sent_on k g (deeds.Raises reason q0 q1) r is = absurd (cc)
sent_on k g (deeds.Dies reason q0) r is = absurd (cc)
sent_on k g (deeds.Aborts handler came) r is = absurd (cc)
sent_on k g other r is = absurd (cc)

ends_by : (k : KernelState) (g : ℕ) (d : Deed) → IsActor k.contexts g → IsRightful k g d → own_input d ≡ Some Died → DiesOfExit k g
ends_by k g (deeds.Dies reason q0) actor r is = ByLoss reason q0 r
ends_by k g (deeds.Aborts handler came) actor r is = ByHandler handler r.0 (actor.waits handler r.0)
ends_by k g (deeds.Sends handler ip number mtd reason q0 q1) actor r is = absurd (cc)
ends_by k g deeds.Steps actor r is = absurd (cc)
ends_by k g (deeds.Raises reason q0 q1) actor r is = absurd (cc)
ends_by k g other actor r is = absurd (cc)

own_of : (k : KernelState) (cpu ec g : ℕ) (i : Input) → ec ≡ g → Acts k cpu ec → input k cpu g ≡ Some i → own_input (deed k g) ≡ Some i
own_of k cpu ec g i same is input_ =
    let acts : Acts k cpu g = subst (Acts k cpu) same is in
    sym (input_is k cpu g g acts ∙ own_is k g (deed k g)) ∙ input_

pub sends_on : (s : Scenario) (turns : List ℕ) (cpu ec g : ℕ) → IsInputBy s turns cpu ec g Sent → IsSentOn (run (boot s) turns) g
sends_on s turns cpu ec g by =
    sent_on (run (boot s) turns) g (deed (run (boot s) turns) g) (reached_rightful s turns g)
    (own_of (run (boot s) turns) cpu ec g Sent (input_right s turns cpu ec g Sent by) by.acts by.is)

pub ends : (s : Scenario) (turns : List ℕ) (cpu ec g : ℕ) → IsInputBy s turns cpu ec g Died → DiesOfExit (run (boot s) turns) g
ends s turns cpu ec g by =
    let same : ec ≡ g = input_right s turns cpu ec g Died by in
    let acts_ : Acts (run (boot s) turns) cpu g = subst (Acts (run (boot s) turns) cpu) same by.acts in
    ends_by (run (boot s) turns) g (deed (run (boot s) turns) g) (actor_of (run (boot s) turns).contexts g (is_able (run (boot s) turns) cpu g acts_)) (reached_rightful s turns g)
    (own_of (run (boot s) turns) cpu ec g Died same by.acts by.is)
