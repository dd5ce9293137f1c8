-- A context that acts before and after it changes moves no turns: chases end at it both times, and no other finds it free or dead.
use Rattle.std.proofs.Common.{◌≡◌, ℕ, zero, suc, length, ap, ap₂, sym, ◌∙◌, subst, refl, arith}
use Rattle.std.specs.Prelude.{Bool, true, false, ◌==◌, ◌||◌, ◌≢◌, Option, Some, None, is_none, option_map, option_and_then, if◌then◌else◌}
use Rattle.std.specs.List.{find}
use Rattle.std.proofs.lemmas.List.{length-set}
use Rattle.nova_model.specs.Deeds.{actor_after}
use Rattle.nova_model.specs.State.{Contexts, ec_in, ec_of, with_ec}
use Rattle.nova_model.specs.Edges.{met_within, edge, edge_of, acts, acts_as, acts_by, is_dead, is_free, stays, chase, or_itself, state_in}
use Rattle.nova_model.specs.declared.context.EcState.{EcState}
use Rattle.nova_model.specs.declared.context.Mark.TheVariants as mark
use Rattle.nova_model.specs.declared.context.State.{State}
use Rattle.nova_model.specs.declared.context.State.TheVariants.{Fresh, Ready, Parked, Calling, Helping, Exiting, Sending, Granting, Replying, Revoking, Blocked, Dead}
use Rattle.nova_model.specs.declared.deed.Deed.TheVariants.{Rests, Steps, Dies, Waits, Sends, Gives, Skips, Finishes, Calls, Helps, Replies, Aborts, Removes, Blocks}
use Rattle.nova_model.specs.declared.transfer.Sequel.TheVariants as sequel
use Rattle.nova_ec.specs.Changes.{ActingKeepsChases, AllStay, DeedsKeepChases}
use Rattle.nova_ec.specs.Ways.{TurnsStay}
use Rattle.nova_ec.proofs.Donors.{acts_like, unmoved_keeps_chases}
use Rattle.nova_ec.proofs.Tables.{ec_in-set_other, ec_in-set_same, ec_of-there}

-- a context that acts is there, neither free nor dead
pub record IsAwake (cs : Contexts) (e : ℕ) : Type 0 where
  pub context : EcState
  pub there : ec_in cs e ≡ Some context
  pub free : is_free (state_in cs e) ≡ false
  pub dead : is_dead (state_in cs e) ≡ false

not_free : (s : State) (handler : Option State) → acts_by s handler ≡ true → is_free (Some s) ≡ false
not_free Parked handler h = absurd cc
not_free Dead handler h = absurd cc
not_free Fresh handler h = refl
not_free Ready handler h = refl
not_free (Calling g) handler h = refl
not_free (Helping g) handler h = refl
not_free (Exiting reason q0 q1) handler h = refl
not_free (Sending reason q0 q1 g) handler h = refl
not_free (Granting new) handler h = refl
not_free Replying handler h = refl
not_free (Revoking range own) handler h = refl
not_free (Blocked sm) handler h = absurd cc

not_dead : (s : State) → is_free (Some s) ≡ false → is_dead (Some s) ≡ false
not_dead Parked h = refl
not_dead Dead h = absurd cc
not_dead Fresh h = refl
not_dead Ready h = refl
not_dead (Calling g) h = refl
not_dead (Helping g) h = refl
not_dead (Exiting reason q0 q1) h = refl
not_dead (Sending reason q0 q1 g) h = refl
not_dead (Granting new) h = refl
not_dead Replying h = refl
not_dead (Revoking range own) h = refl
not_dead (Blocked sm) h = refl

pub awake : (cs : Contexts) (e : ℕ) → acts cs e ≡ true → IsAwake cs e
awake cs e here = by_entry (ec_in cs e) refl here
  where
    by_entry : (o : Option EcState) → ec_in cs e ≡ o → acts_as cs (option_map (λ (x : EcState). x.state) o) ≡ true → IsAwake cs e
    by_entry None there h = absurd cc
    by_entry (Some x) there h =
        let free = not_free x.state (option_and_then (state_in cs) (edge_of x.state)) h in record {
          context = x;
          there = there;
          free = ap (λ (o : Option EcState). is_free (option_map (λ (z : EcState). z.state) o)) there ∙ free;
          dead = ap (λ (o : Option EcState). is_dead (option_map (λ (z : EcState). z.state) o)) there ∙ not_dead x.state free;
        }

-- two tables that differ at one place alone, where both have a context that acts
record AreAwake (cs ds : Contexts) (e : ℕ) : Type 0 where
  before : acts cs e ≡ true
  now : acts ds e ≡ true
  others : (z : ℕ) → z ≢ e → state_in ds z ≡ state_in cs z

-- a context that looks at a handler sees no difference
alike_free : (cs ds : Contexts) (e z : ℕ) → AreAwake cs ds e → is_free (state_in ds z) ≡ is_free (state_in cs z)
alike_free cs ds e z both = by_place (z == e) refl
  where
    by_place : (t : Bool) → (z == e) ≡ t → is_free (state_in ds z) ≡ is_free (state_in cs z)
    by_place true is =
        let at : z ≡ e = grind (arith, is) in
        subst (λ (n : ℕ). is_free (state_in ds n) ≡ is_free (state_in cs n)) (sym at) ((awake ds e both.now).free ∙ sym (awake cs e both.before).free)
    by_place false is = ap is_free (both.others z (λ at. absurd (grind (arith, is, at))))

alike_dead : (cs ds : Contexts) (e z : ℕ) → AreAwake cs ds e → is_dead (state_in ds z) ≡ is_dead (state_in cs z)
alike_dead cs ds e z both = by_place (z == e) refl
  where
    by_place : (t : Bool) → (z == e) ≡ t → is_dead (state_in ds z) ≡ is_dead (state_in cs z)
    by_place true is =
        let at : z ≡ e = grind (arith, is) in
        subst (λ (n : ℕ). is_dead (state_in ds n) ≡ is_dead (state_in cs n)) (sym at) ((awake ds e both.now).dead ∙ sym (awake cs e both.before).dead)
    by_place false is = ap is_dead (both.others z (λ at. absurd (grind (arith, is, at))))

acts_others : (cs ds : Contexts) (e z : ℕ) → AreAwake cs ds e → z ≢ e → acts ds z ≡ acts cs z
acts_others cs ds e z both other = ap (acts_as ds) (both.others z other) ∙ by_state (state_in cs z)
  where
    by_edge : (s : State) (o : Option ℕ) → acts_by s (option_and_then (state_in ds) o) ≡ acts_by s (option_and_then (state_in cs) o)
    by_edge s None = refl
    by_edge s (Some h) = acts_like s (state_in ds h) (state_in cs h) (alike_dead cs ds e h both) (alike_free cs ds e h both)

    by_state : (o : Option State) → acts_as ds o ≡ acts_as cs o
    by_state None = refl
    by_state (Some s) = by_edge s (edge_of s)

acts_all : (cs ds : Contexts) (e z : ℕ) → AreAwake cs ds e → acts ds z ≡ acts cs z
acts_all cs ds e z both = by_place (z == e) refl
  where
    by_place : (t : Bool) → (z == e) ≡ t → acts ds z ≡ acts cs z
    by_place true is =
        let at : z ≡ e = grind (arith, is) in subst (λ (n : ℕ). acts ds n ≡ acts cs n) (sym at) (both.now ∙ sym both.before)
    by_place false is = acts_others cs ds e z both (λ at. absurd (grind (arith, is, at)))

-- the same search, which ends at that context
here_stays : (cs : Contexts) (e : ℕ) → acts cs e ≡ true → stays cs e ≡ true
here_stays cs e here = ap (λ (t : Bool). t || is_none (edge cs e)) here

same_search : (n : ℕ) (cs ds : Contexts) (e : ℕ) (o : Option ℕ) → AreAwake cs ds e → find (stays ds) (met_within n (edge ds) o) ≡ find (stays cs) (met_within n (edge cs) o)
same_search zero cs ds e o both = refl
same_search (suc n) cs ds e None both = refl
same_search (suc n) cs ds e (Some z) both = by_place (z == e) refl (same_search n cs ds e (edge cs z) both)
  where
    by_place : (t : Bool) → (z == e) ≡ t → find (stays ds) (met_within n (edge ds) (edge cs z)) ≡ find (stays cs) (met_within n (edge cs) (edge cs z)) →
        find (stays ds) (met_within (suc n) (edge ds) (Some z)) ≡ find (stays cs) (met_within (suc n) (edge cs) (Some z))
    by_place true is rest =
        let at : e ≡ z = grind (arith, is) in
        let now : stays ds z ≡ true = subst (λ (m : ℕ). stays ds m ≡ true) at (here_stays ds e both.now) in
        let before : stays cs z ≡ true = subst (λ (m : ℕ). stays cs m ≡ true) at (here_stays cs e both.before) in
        ap (λ (t : Bool). if t then Some z else find (stays ds) (met_within n (edge ds) (edge ds z))) now
        ∙ sym (ap (λ (t : Bool). if t then Some z else find (stays cs) (met_within n (edge cs) (edge cs z))) before)
    by_place false is rest =
        let leads : edge ds z ≡ edge cs z = ap (option_and_then edge_of) (both.others z (λ at. absurd (grind (arith, is, at)))) in
        ap₂ (λ (t : Bool) (o : Option ℕ). if t then Some z else o)
        (ap₂ (λ (a : Bool) (o : Option ℕ). a || is_none o) (acts_all cs ds e z both) leads)
        (ap (λ (o : Option ℕ). find (stays ds) (met_within n (edge ds) o)) leads ∙ rest)

pub acting_keeps_chases : ActingKeepsChases
acting_keeps_chases cs e y before now z =
    let both : AreAwake cs (with_ec cs e y) e = record {
      before = before;
      now = now;
      others = λ x other. ap (option_map (λ (w : EcState). w.state)) (ec_in-set_other cs e x (Some y) other);
    } in (
      ap (or_itself z)
          (ap (λ (n : ℕ). find (stays (with_ec cs e y)) (met_within n (edge (with_ec cs e y)) (Some z))) (length-set cs e (Some y))
          ∙ same_search (length cs) cs (with_ec cs e y) e (Some z) both),
      acts_all cs (with_ec cs e y) e z both,
    )

-- a context that acts in its new state, wherever its edge leads
pub acts_alone : (cs : Contexts) (e : ℕ) (x y : EcState) → ec_in cs e ≡ Some x → ((handler : Option State) → acts_by y.state handler ≡ true) → acts (with_ec cs e y) e ≡ true
acts_alone cs e x y there alone =
    ap (λ (o : Option EcState). acts_as (with_ec cs e y) (option_map (λ (w : EcState). w.state) o)) (ec_in-set_same cs e x y there)
    ∙ alone (option_and_then (state_in (with_ec cs e y)) (edge_of y.state))

-- so all turns stay where a context that acts comes to a state like that, or keeps its state
pub all_stay_alone : (cs : Contexts) (e : ℕ) (y : EcState) → acts cs e ≡ true → ((handler : Option State) → acts_by y.state handler ≡ true) → AllStay cs (with_ec cs e y)
all_stay_alone cs e y before alone =
    let here = awake cs e before in acting_keeps_chases cs e y before (acts_alone cs e here.context y here.there alone)

pub all_stay_same : (cs : Contexts) (e : ℕ) (x y : EcState) → ec_in cs e ≡ Some x → y.state ≡ x.state → AllStay cs (with_ec cs e y)
all_stay_same cs e x y there same z =
    unmoved_keeps_chases cs e z x y there (record {
      edge = ap edge_of same;
      acts = λ handler. ap (λ (s : State). acts_by s handler) same;
      dead = ap (λ (s : State). is_dead (Some s)) same;
      free = ap (λ (s : State). is_free (Some s)) same;
    })

-- in other words, and through two changes
pub all_turns_stay : (cs ds : Contexts) (z : ℕ) → AllStay cs ds → TurnsStay cs ds z
all_turns_stay cs ds z all = ((all z).0, (all (chase cs z)).1)

pub all_through : (cs ds es : Contexts) → AllStay cs ds → AllStay ds es → AllStay cs es
all_through cs ds es first second z = ((second z).0 ∙ (first z).0, (second z).1 ∙ (first z).1)

-- deeds

all_stay_here : (cs : Contexts) (e : ℕ) → acts cs e ≡ true → AllStay cs (with_ec cs e (ec_of cs e))
all_stay_here cs e before =
    let here = awake cs e before in
    all_stay_same cs e here.context (ec_of cs e) here.there (ap (λ (x : EcState). x.state) (ec_of-there cs e here.context here.there))

pub deeds_keep_chases : DeedsKeepChases
deeds_keep_chases cs e Rests before goes = all_stay_here cs e before
deeds_keep_chases cs e Steps before goes = all_stay_here cs e before
deeds_keep_chases cs e (Gives child cursor) before goes = all_stay_here cs e before
deeds_keep_chases cs e (Skips reason place cursor) before goes = all_stay_here cs e before
deeds_keep_chases cs e (Removes leaf) before goes = all_stay_here cs e before
deeds_keep_chases cs e (Dies reason q0) before goes = absurd cc
deeds_keep_chases cs e (Waits handler reason q0 q1) before goes = absurd cc
deeds_keep_chases cs e (Sends handler ip identifier mtd reason q0 q1) before goes = absurd cc
deeds_keep_chases cs e (Finishes item end words sequel.Item) before goes = all_stay_here cs e before
deeds_keep_chases cs e (Finishes item end words sequel.Opened) before goes =
    all_stay_alone cs e (actor_after (ec_of cs e) (Finishes item end words sequel.Opened)) before (λ handler. refl)
deeds_keep_chases cs e (Finishes item end words sequel.Taken) before goes =
    all_stay_alone cs e (actor_after (ec_of cs e) (Finishes item end words sequel.Taken)) before (λ handler. refl)
deeds_keep_chases cs e (Finishes item end words (sequel.Replied caller mark)) before goes = absurd cc
deeds_keep_chases cs e (Calls handler ip identifier items) before goes = absurd cc
deeds_keep_chases cs e (Helps handler) before goes = absurd cc
deeds_keep_chases cs e (Replies caller mark false) before goes = absurd cc
deeds_keep_chases cs e (Aborts handler mark.Exit) before goes = absurd cc
deeds_keep_chases cs e (Blocks sm until) before goes = absurd cc
deeds_keep_chases cs e other before goes = all_stay_alone cs e (actor_after (ec_of cs e) other) before (λ handler. refl)
