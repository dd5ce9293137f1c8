-- What becomes of the context that acts.
use Rattle.std.proofs.Common.{◌≡◌, ℕ, List, [], ◌∷◌, refl, sym, ap, ◌∙◌, subst, inl, inr}
use Rattle.std.specs.Prelude.{◌≢◌, ◌==◌, ◌&&◌, Bool, true, false, not, IfSome, is_some, option_map, Option, Some, None}
use Rattle.std.proofs.lemmas.Bool.{eqb-true}
use Rattle.rv_model.specs.Registers.{reg}
use Rattle.rv_model.specs.Step.{Once, Raised, Went}
use Rattle.nova_calls.specs.declared.numbers.TheConstants.{EC_CTRL}
use Rattle.nova_range.specs.declared.status.Status.{Status}
use Rattle.nova_range.specs.declared.status.Status.TheVariants.{Aborted, Success}
use Rattle.nova_model.specs.Calls.{is_parked}
use Rattle.nova_model.specs.Capabilities.{control_right}
use Rattle.nova_model.specs.Deeds.{answered, deed, instruction, parked, recall}
use Rattle.nova_model.specs.Edges.{is_dead, is_free, state_in}
use Rattle.nova_model.specs.Boot.{Scenario, boot}
use Rattle.nova_model.specs.Runs.{run}
use Rattle.law_origins.proofs.Actors.{is_able}
use Rattle.law_origins.specs.Giving.{Acts}
use Rattle.nova_model.specs.State.{Contexts, KernelState, context, context_in, ec_in, ec_of, is_local_thread, message}
use Rattle.nova_model.specs.declared.admit.ExitAdmit.{ExitAdmit}
use Rattle.nova_model.specs.declared.admit.ExitAdmit.TheVariants as exit
use Rattle.nova_model.specs.declared.context.EcState.{EcState}
use Rattle.nova_model.specs.declared.context.Mark.{Mark}
use Rattle.nova_model.specs.declared.context.Mark.TheVariants as mark
use Rattle.nova_model.specs.declared.context.State.{State}
use Rattle.nova_model.specs.declared.context.State.TheVariants.{Blocked, Calling, Dead, Exiting, Granting, Helping, Parked, Ready, Replying, Revoking, Sending}
use Rattle.nova_model.specs.declared.deed.Deed.{Deed}
use Rattle.nova_model.specs.declared.deed.Deed.TheVariants as deeds
use Rattle.nova_model.specs.declared.transfer.Sequel.{Sequel}
use Rattle.nova_model.specs.declared.transfer.Sequel.TheVariants as sequel
use Rattle.law_forest.specs.Effects.{Answers, Becomes, Edit, Moves, Parks, Raises as Raising, Recalled, Resumes, Serves, Stays, all_edited, edit_at, edited, edits_by, follows_by, recalls_by, steps_by, wakes_by}
use Rattle.law_forest.proofs.Allowed.{OpensNext, deed_opens}
use Rattle.law_turns.proofs.Blocking.{woken_blocked}
use Rattle.law_turns.proofs.Links.{place}
use Rattle.law_turns.proofs.Referring.{Asks, Follows}
use Rattle.law_turns.proofs.Serving.{IsActor, IsReached, actor_of, awaited, exit_reaches, is_blocked, of_there, reached_there, send_reaches}
use Rattle.law_turns.specs.Links.{state_at}
use Rattle.law_turns.proofs.Setting.{entry_itself, entry_other}
use Rattle.law_turns.proofs.TablesFit.{TablesFit}
use Rattle.law_integrity.specs.Rightful.{IsExitAt, RaisesExit, IsRightful, IsToldValue}
use Rattle.law_integrity.specs.Rights.{ExitsAt, ServesCaller, Names}
use Rattle.law_integrity.specs.Integrity.{Answered, AsksItself, ByExit, IsItself, Kept, Left, Lost, MayComeTo, RecallBy, Stepped, Unasked}

-- the right by which an exit goes
abbrev pub exits_at : (k : KernelState) (ec handler ip number mtd reason q0 q1 : ℕ) (comes : ExitAdmit) → IsExitAt k ec handler ip number mtd reason q0 q1 comes → ExitsAt k ec handler
exits_at k ec handler ip number mtd reason q0 q1 comes e =
    record { reason = reason; q0 = q0; q1 = q1; raised = e.raised; portal = e.portal; mtd = mtd; ip = ip; held = e.held; object = e.object }

-- ONE EDIT

same_itself : (k : KernelState) (ec : ℕ) (x : EcState) → IsItself k ec x x
same_itself k ec x = record { number = refl; processor = refl; state = inl refl; regs = Kept refl; caller = inl refl; recall = Unasked refl }

comes_to : (k : KernelState) (ec : ℕ) (x : EcState) (s : State) → MayComeTo k ec s → IsItself k ec x (record x { state = s })
comes_to k ec x s may = record { number = refl; processor = refl; state = inr may; regs = Kept refl; caller = inl refl; recall = Unasked refl }

answers : (k : KernelState) (ec : ℕ) (x : EcState) (status : Status) (value : Option ℕ) → IfSome value (λ v. IsToldValue k ec (reg (context k ec).regs 17) v) → IsItself k ec x (answered x status value)
answers k ec x status value told =
    record { number = refl; processor = refl; state = inr tt; regs = Answered status value told refl; caller = inl refl; recall = Unasked refl }

parks : (k : KernelState) (ec caller : ℕ) (came : Mark) (x : EcState) → ServesCaller k ec caller came → IsItself k ec x (parked x)
parks k ec caller came x serves =
    record { number = refl; processor = refl; state = inr (caller, came, serves); regs = Kept refl; caller = inr (refl, refl); recall = Unasked refl }

raises : (k : KernelState) (ec reason q0 q1 : ℕ) (x : EcState) → RaisesExit k ec reason q0 q1 → IsItself k ec x (edited x (Raising reason q0 q1))
raises k ec reason q0 q1 x r = record { number = refl; processor = refl; state = inr r; regs = Kept refl; caller = inl refl; recall = by_reason (reason == recall) refl x.recall }
  where
    by_reason : (t : Bool) → (reason == recall) ≡ t → (old : Bool) → RecallBy k ec old (old && not t) (Exiting reason q0 q1)
    by_reason true is old = by_old old
      where
        its : Exiting reason q0 q1 ≡ Exiting recall q0 q1
        its = ap (λ (r : ℕ). Exiting r q0 q1) (eqb-true reason recall is)

        by_old : (old : Bool) → RecallBy k ec old (old && false) (Exiting reason q0 q1)
        by_old true = ByExit refl q0 q1 its
        by_old false = ByExit refl q0 q1 its
    by_reason false is true = Unasked refl
    by_reason false is false = Unasked refl

-- THE ENTRY OF THE CONTEXT THAT ACTS

abbrev pub IsOwn : KernelState → ℕ → Option EcState → Type 0
IsOwn k ec o = (y : EcState) × (o ≡ Some y) × IsItself k ec (context k ec) y

none_own : (k : KernelState) (ec : ℕ) → IsActor k.contexts ec → IsOwn k ec (ec_in k.contexts ec)
none_own k ec actor = (context k ec, actor.there, same_itself k ec (context k ec))

own_entry : (k : KernelState) (ec : ℕ) (e : Edit) → IsActor k.contexts ec → ec_in (edit_at k.contexts ec e) ec ≡ Some (edited (context k ec) e)
own_entry k ec e actor = entry_itself k.contexts ec (edited (context k ec) e) (ap (λ (o : Option EcState). is_some o) actor.there)

one_own : (k : KernelState) (ec : ℕ) (e : Edit) → IsActor k.contexts ec → IsItself k ec (context k ec) (edited (context k ec) e) → IsOwn k ec (ec_in (all_edited k.contexts ((ec, e) ∷ [])) ec)
one_own k ec e actor is = (edited (context k ec) e, own_entry k ec e actor, is)

two_own : (k : KernelState) (ec h : ℕ) (e f : Edit) → IsActor k.contexts ec → ec ≢ h → IsItself k ec (context k ec) (edited (context k ec) e) →
    IsOwn k ec (ec_in (all_edited k.contexts ((ec, e) ∷ (h, f) ∷ [])) ec)
two_own k ec h e f actor apart is =
    (edited (context k ec) e, entry_other (edit_at k.contexts ec e) h ec (edited (ec_of (edit_at k.contexts ec e) h) f) apart ∙ own_entry k ec e actor, is)

-- ANOTHER IS ANOTHER

parked_is : (s : State) → is_parked (Some s) ≡ true → s ≡ Parked
parked_is Parked h = refl
parked_is other h = absurd (cc)

pub reached_parked : (k : KernelState) (ec h : ℕ) → IsReached k.contexts ec h → (context k h).state ≡ Parked
reached_parked k ec h r =
    parked_is (context k h).state (ap is_parked (sym (ap state_at (of_there k.contexts h (reached_there k.contexts ec h r)))) ∙ r.parked)

not_parked : (k : KernelState) (ec h : ℕ) → IsActor k.contexts ec → (context k h).state ≡ Parked → ec ≢ h
not_parked k ec h actor parked_ same =
    let free : is_free (Some (context k ec).state) ≡ true = ap (λ (s : State). is_free (Some s)) (ap (λ (n : ℕ). (context k n).state) same ∙ parked_) in
    let both : true ≡ false = sym free ∙ actor.awake in cc

not_dead : {A : Type 0} (s : State) → is_free (Some s) ≡ false → is_dead (Some s) ≡ true → A
not_dead Dead awake dead = absurd (cc)
not_dead other awake dead = absurd (cc)

not_caller : (k : KernelState) (ec caller : ℕ) (came : Mark) → IsActor k.contexts ec → TablesFit k → ServesCaller k ec caller came → ec ≢ caller
not_caller k ec caller came actor fits serves same =
    let waits : (context k caller).state ≡ Calling ec = (awaited (is_local_thread k) k.contexts ec caller came actor serves fits.served).waits in
    let own : (context k ec).state ≡ Calling ec = ap (λ (n : ℕ). (context k n).state) same ∙ waits in
    not_dead (context k ec).state actor.awake (ap (λ (o : Option EcState). is_dead (option_map (λ x. x.state) o)) (sym actor.there) ∙ actor.waits ec own)

not_woken : (k : KernelState) (ec w sm : ℕ) → IsActor k.contexts ec → state_in k.contexts w ≡ Some (Blocked sm) → ec ≢ w
not_woken k ec w sm actor blocked same =
    let both : true ≡ false = ap is_blocked (sym (ap (state_in k.contexts) same ∙ blocked)) ∙ actor.unblocked in cc

-- EACH DEED

steps_own : (k : KernelState) (ec : ℕ) (o : Once) → IsActor k.contexts ec → deed k ec ≡ deeds.Steps → instruction k ec ≡ o → IsOwn k ec (ec_in (all_edited k.contexts (steps_by ec o)) ec)
steps_own k ec (Raised reason q0 q1) actor does is = none_own k ec actor
steps_own k ec (Went regs store) actor does is =
    one_own k ec (Moves regs) actor (record { number = refl; processor = refl; state = inl refl; regs = Stepped does store is; caller = inl refl; recall = Unasked refl })

recalls_own : (k : KernelState) (ec whose : ℕ) → IsActor k.contexts ec → Names k ec EC_CTRL control_right whose → (o : Option EcState) → ec_in (edit_at k.contexts ec (Answers Success None)) whose ≡ o →
    IsOwn k ec (ec_in (all_edited k.contexts ((ec, Answers Success None) ∷ recalls_by whose o)) ec)
recalls_own k ec whose actor may None is = one_own k ec (Answers Success None) actor (answers k ec (context k ec) Success None tt)
recalls_own k ec whose actor may (Some x) is = elim (place ec whose) [
  | inl same ↦
      let cs : Contexts = edit_at k.contexts ec (Answers Success None) in
      let its : ec_in cs whose ≡ Some (answered (context k ec) Success None) = ap (ec_in cs) (sym same) ∙ own_entry k ec (Answers Success None) actor in
      let y : EcState = record (answered (context k ec) Success None) { recall = true } in (
        y,
        ap (ec_in (edit_at cs whose Recalled)) same
            ∙ entry_itself cs whose (edited (ec_of cs whose) Recalled) (ap (λ (o : Option EcState). is_some o) its)
            ∙ ap (λ (o : Option EcState). Some (edited (context_in o) Recalled)) its,
        record {
          number = refl;
          processor = refl;
          state = inr tt;
          regs = Answered Success None tt refl;
          caller = inl refl;
          recall = AsksItself refl (subst (Names k ec EC_CTRL control_right) (sym same) may);
        },
      )
  | inr apart ↦ two_own k ec whose (Answers Success None) Recalled actor apart (answers k ec (context k ec) Success None tt)
]

ups_own : (k : KernelState) (ec sm : ℕ) (whom : Option ℕ) → IsActor k.contexts ec → TablesFit k → Asks k ec (deeds.Ups sm whom) →
    IsOwn k ec (ec_in (all_edited k.contexts ((ec, Answers Success None) ∷ wakes_by whom)) ec)
ups_own k ec sm None actor fits asks = one_own k ec (Answers Success None) actor (answers k ec (context k ec) Success None tt)
ups_own k ec sm (Some w) actor fits asks =
    two_own k ec w (Answers Success None) (Answers Success None) actor (not_woken k ec w sm actor (woken_blocked k sm w asks.1 fits.blocked)) (answers k ec (context k ec) Success None tt)

replies_own : (k : KernelState) (ec caller : ℕ) (came : Mark) (m : List ℕ) → IsActor k.contexts ec → TablesFit k → ServesCaller k ec caller came →
    IsOwn k ec (ec_in (all_edited k.contexts ((ec, Parks) ∷ (caller, Resumes came m) ∷ [])) ec)
replies_own k ec caller came m actor fits serves =
    two_own k ec caller Parks (Resumes came m) actor (not_caller k ec caller came actor fits serves) (parks k ec caller came (context k ec) serves)

follows_own : (k : KernelState) (ec : ℕ) (m : List ℕ) (after : Sequel) → IsActor k.contexts ec → TablesFit k → Follows k ec after → IsOwn k ec (ec_in (all_edited k.contexts (follows_by ec m after)) ec)
follows_own k ec m sequel.Item actor fits follows = one_own k ec Stays actor (same_itself k ec (context k ec))
follows_own k ec m sequel.Opened actor fits follows = one_own k ec (Answers Success None) actor (answers k ec (context k ec) Success None tt)
follows_own k ec m sequel.Taken actor fits follows = one_own k ec (Becomes Ready) actor (comes_to k ec (context k ec) Ready tt)
follows_own k ec m (sequel.Replied caller came) actor fits follows = replies_own k ec caller came m actor fits follows

pub deed_own : (k : KernelState) (ec : ℕ) (d : Deed) → deed k ec ≡ d → IsRightful k ec d → Asks k ec d → OpensNext k d → IsActor k.contexts ec → TablesFit k →
    IsOwn k ec (ec_in (all_edited k.contexts (edits_by k ec d)) ec)
deed_own k ec deeds.Rests is r asks next actor fits = none_own k ec actor
deed_own k ec (deeds.Gives child cursor) is r asks next actor fits = none_own k ec actor
deed_own k ec (deeds.Skips reason place_ cursor) is r asks next actor fits = none_own k ec actor
deed_own k ec (deeds.Removes leaf) is r asks next actor fits = none_own k ec actor
deed_own k ec deeds.Steps is r asks next actor fits = steps_own k ec (instruction k ec) actor is refl
deed_own k ec (deeds.Raises reason q0 q1) is r asks next actor fits = one_own k ec (Raising reason q0 q1) actor (raises k ec reason q0 q1 (context k ec) r)
deed_own k ec (deeds.Dies reason q0) is r asks next actor fits = one_own k ec (Becomes Dead) actor (comes_to k ec (context k ec) Dead (Lost reason q0 r))
deed_own k ec (deeds.Waits handler reason q0 q1) is r asks next actor fits =
    one_own k ec (Becomes (Sending reason q0 q1 handler)) actor (comes_to k ec (context k ec) (Sending reason q0 q1 handler) (exits_at k ec handler r.0 r.1 r.2 reason q0 q1 exit.Waits r.3))
deed_own k ec (deeds.Sends handler ip number mtd reason q0 q1) is r asks next actor fits =
    two_own k ec handler (Becomes (Calling handler)) (Serves ec mark.Exit ip number false) actor (not_parked k ec handler actor (reached_parked k ec handler (exit_reaches k.contexts ec handler r.admits)))
    (comes_to k ec (context k ec) (Calling handler) (inr (exits_at k ec handler ip number mtd.0 reason q0 q1 exit.Sends r)))
deed_own k ec (deeds.Refuses call status) is r asks next actor fits = one_own k ec (Answers status None) actor (answers k ec (context k ec) status None tt)
deed_own k ec (deeds.Makes call target made) is r asks next actor fits = one_own k ec (Answers Success None) actor (answers k ec (context k ec) Success None tt)
deed_own k ec (deeds.Recalls whose) is r asks next actor fits = recalls_own k ec whose actor r.0 _ refl
deed_own k ec (deeds.Tells call value) is r asks next actor fits = one_own k ec (Answers Success (Some value)) actor (answers k ec (context k ec) Success (Some value) (subst (λ (c : ℕ). IsToldValue k ec c value) r.0 r.1))
deed_own k ec (deeds.Names pt number) is r asks next actor fits = one_own k ec (Answers Success None) actor (answers k ec (context k ec) Success None tt)
deed_own k ec (deeds.Opens target domain) is r asks next actor fits =
    one_own k ec (Becomes (Granting (Some domain))) actor (comes_to k ec (context k ec) (Granting (Some domain)) (ap (λ (n : ℕ). Some n) next, r))
deed_own k ec (deeds.Finishes item end words after) is r asks next actor fits = follows_own k ec _ after actor fits asks.1
deed_own k ec (deeds.Calls handler ip number items) is r asks next actor fits =
    two_own k ec handler (Becomes (Calling handler)) (Serves ec mark.Call ip number items) actor (not_parked k ec handler actor (reached_parked k ec handler (send_reaches k.contexts ec handler _ r.admits)))
    (comes_to k ec (context k ec) (Calling handler) (inl r.at))
deed_own k ec (deeds.Helps handler) is r asks next actor fits = one_own k ec (Becomes (Helping handler)) actor (comes_to k ec (context k ec) (Helping handler) r.at)
deed_own k ec (deeds.Replies caller came true) is r asks next actor fits = one_own k ec (Becomes Replying) actor (comes_to k ec (context k ec) Replying (caller, came, r.serves))
deed_own k ec (deeds.Replies caller came false) is r asks next actor fits = replies_own k ec caller came (message k ec) actor fits r.serves
deed_own k ec (deeds.Aborts handler mark.Call) is r asks next actor fits = one_own k ec (Answers Aborted None) actor (answers k ec (context k ec) Aborted None tt)
deed_own k ec (deeds.Aborts handler mark.Exit) is r asks next actor fits = one_own k ec (Becomes Dead) actor (comes_to k ec (context k ec) Dead (Left handler r.0 (actor.waits handler r.0)))
deed_own k ec (deeds.Revokes range own) is r asks next actor fits = one_own k ec (Becomes (Revoking range own)) actor (comes_to k ec (context k ec) (Revoking range own) r.1)
deed_own k ec deeds.Returns is r asks next actor fits = one_own k ec (Answers Success None) actor (answers k ec (context k ec) Success None tt)
deed_own k ec (deeds.Ups sm whom) is r asks next actor fits = ups_own k ec sm whom actor fits asks
deed_own k ec (deeds.Downs sm) is r asks next actor fits = one_own k ec (Answers Success None) actor (answers k ec (context k ec) Success None tt)
deed_own k ec (deeds.Blocks sm until) is r asks next actor fits = one_own k ec (Becomes (Blocked sm)) actor (comes_to k ec (context k ec) (Blocked sm) r.0)

pub own_by : (k : KernelState) (ec : ℕ) → IsRightful k ec (deed k ec) → Asks k ec (deed k ec) → IsActor k.contexts ec → TablesFit k →
    IsOwn k ec (ec_in (all_edited k.contexts (edits_by k ec (deed k ec))) ec)
own_by k ec r asks actor fits = deed_own k ec (deed k ec) refl r asks (deed_opens k ec) actor fits

-- A CONTEXT THAT ACTS THOUGH IT WAITS FOR A REPLY

pub aborts_dead : (s : Scenario) (turns : List ℕ) (cpu ec handler : ℕ) → Acts (run (boot s) turns) cpu ec → (context (run (boot s) turns) ec).state ≡ Calling handler →
    is_dead (state_in (run (boot s) turns).contexts handler) ≡ true
aborts_dead s turns cpu ec handler acts_ is = (actor_of (run (boot s) turns).contexts ec (is_able (run (boot s) turns) cpu ec acts_)).waits handler is
