-- Callers stay with the contexts that serve them, whatever becomes of one or two execution contexts.
use Rattle.std.proofs.Common.{◌≡◌, ℕ, zero, suc, List, [], ◌∷◌, refl, ap, ◌∙◌, sym, subst, inl, inr}
use Rattle.std.specs.Prelude.{◌≢◌, Bool, true, false, if◌then◌else◌, Option, Some, None, IsSome, is_some, option_and_then}
use Rattle.nova_range.specs.declared.status.Status.{Status}
use Rattle.nova_range.specs.declared.status.Status.TheVariants.{Success}
use Rattle.nova_model.specs.Calls.{admitted, exit_admitted, is_parked}
use Rattle.nova_model.specs.Deeds.{answered, parked, resumed, serving}
use Rattle.nova_model.specs.Edges.{IsNewEdge, acts, acts_as, acts_by, edge_of, is_dead, is_free, state_in}
use Rattle.nova_model.specs.State.{Contexts, context_in, ec_in, ec_of, with_ec}
use Rattle.nova_model.specs.declared.admit.Admit.TheVariants as admit
use Rattle.nova_model.specs.declared.admit.ExitAdmit.TheVariants as exit
use Rattle.nova_model.specs.declared.context.EcState.{EcState}
use Rattle.nova_model.specs.declared.context.Mark.{Mark}
use Rattle.nova_model.specs.declared.context.Mark.TheVariants as came
use Rattle.nova_model.specs.declared.context.State.{State}
use Rattle.nova_model.specs.declared.context.State.TheVariants.{Blocked, Calling, Dead, Granting, Parked, Ready}
use Rattle.nova_ec.proofs.Admitted.{call_helped, call_sent, exit_sent, exit_waits}
use Rattle.nova_ec.proofs.Handlers.{may_wait}
use Rattle.law_turns.specs.Links.{AreServed, IsLinked, IsWell, caller_at, cpu_at, handles_items, state_at}
use Rattle.law_turns.proofs.Links.{GoesOn, is_taking, place, served_exchange, served_on}
use Rattle.law_turns.proofs.Setting.{entry_itself, entry_other}

-- A CONTEXT THAT ACTS

-- a context that waits at a semaphore
abbrev pub is_blocked : Option State → Bool
is_blocked (Some (Blocked sm)) = true
is_blocked other = false

-- it is there, neither parked nor dead nor blocked, and where it waits for a reply its handler is dead
pub record IsActor (cs : Contexts) (ec : ℕ) : Type 0 where
  pub there : ec_in cs ec ≡ Some (ec_of cs ec)
  pub awake : is_free (Some (ec_of cs ec).state) ≡ false
  pub waits : (h : ℕ) → (ec_of cs ec).state ≡ Calling h → is_dead (state_in cs h) ≡ true
  pub unblocked : is_blocked (state_in cs ec) ≡ false

awake_by : (s : State) (handler : Option State) → acts_by s handler ≡ true → is_free (Some s) ≡ false
awake_by Parked handler does = absurd (cc)
awake_by Dead handler does = absurd (cc)
awake_by other handler does = refl

unblocked_by : (s : State) (handler : Option State) → acts_by s handler ≡ true → is_blocked (Some s) ≡ false
unblocked_by (Blocked sm) handler does = absurd (cc)
unblocked_by other handler does = refl

awake_lives : (s : State) → is_free (Some s) ≡ false → is_dead (Some s) ≡ false
awake_lives Dead awake = absurd (cc)
awake_lives other awake = refl

awake_works : (s : State) → is_free (Some s) ≡ false → is_parked (Some s) ≡ false
awake_works Parked awake = absurd (cc)
awake_works other awake = refl

pub of_there : (cs : Contexts) (n : ℕ) → is_some (ec_in cs n) ≡ true → ec_in cs n ≡ Some (ec_of cs n)
of_there cs n there = by_entry (ec_in cs n) there
  where
    by_entry : (o : Option EcState) → is_some o ≡ true → o ≡ Some (context_in o)
    by_entry None h = absurd (cc)
    by_entry (Some x) h = refl

-- a context in a state is there
pub state_there : (o : Option EcState) (s : State) → state_at o ≡ Some s → is_some o ≡ true
state_there None s is = absurd (cc)
state_there (Some x) s is = refl

pub blocked_there : (cs : Contexts) (n sm : ℕ) → state_in cs n ≡ Some (Blocked sm) → ec_in cs n ≡ Some (ec_of cs n)
blocked_there cs n sm is = of_there cs n (state_there (ec_in cs n) (Blocked sm) is)

pub actor_of : (cs : Contexts) (ec : ℕ) → acts cs ec ≡ true → IsActor cs ec
actor_of cs ec does = record {
  there = of_there cs ec (by_entry (ec_in cs ec) does).0;
  awake = (by_entry (ec_in cs ec) does).1;
  waits = λ h is. subst (λ (s : State). acts_by s (option_and_then (state_in cs) (edge_of s)) ≡ true) is (by_state (ec_in cs ec) does);
  unblocked = by_blocked (ec_in cs ec) does;
}
  where
    by_entry : (o : Option EcState) → acts_as cs (state_at o) ≡ true → (is_some o ≡ true) × (is_free (Some (context_in o).state) ≡ false)
    by_entry None h = absurd (cc)
    by_entry (Some x) h = (refl, awake_by x.state (option_and_then (state_in cs) (edge_of x.state)) h)

    by_state : (o : Option EcState) → acts_as cs (state_at o) ≡ true → acts_by (context_in o).state (option_and_then (state_in cs) (edge_of (context_in o).state)) ≡ true
    by_state None h = absurd (cc)
    by_state (Some x) h = h

    by_blocked : (o : Option EcState) → acts_as cs (state_at o) ≡ true → is_blocked (state_at o) ≡ false
    by_blocked None h = refl
    by_blocked (Some x) h = unblocked_by x.state (option_and_then (state_in cs) (edge_of x.state)) h

-- it goes on in another state, in which it waits for `odd` at most
goes : (cs : Contexts) (ec : ℕ) (odd : Option ℕ) (y : EcState) → IsActor cs ec → y.caller ≡ (ec_of cs ec).caller → y.cpu ≡ (ec_of cs ec).cpu →
    ((h : ℕ) → y.state ≡ Calling h → odd ≡ Some h) → is_parked (Some y.state) ≡ false → (handles_items (Some y.state) ≡ true → IsSome (ec_of cs ec).caller) →
    is_taking (Some y.state) ≡ false → GoesOn cs odd (ec_of cs ec) y
goes cs ec odd y actor caller cpu calls works gives takes = record {
  caller = caller;
  cpu = cpu;
  calls = λ h is. inr (calls h is);
  frees = λ h is. inr (inl (actor.waits h is));
  lives = λ lives. awake_lives (ec_of cs ec).state actor.awake;
  works = λ working. actor.awake;
  parks = λ is. absurd (cc);
  gives = gives;
  takes = λ is. absurd (let now = ap is_taking is in cc);
}

-- it, or another, stays in its state
remains : (is_local : Bool) (cs : Contexts) (x y : EcState) → IsWell is_local (Some x) → y.caller ≡ x.caller → y.cpu ≡ x.cpu → y.state ≡ x.state → GoesOn cs None x y
remains is_local cs x y well caller cpu same = record {
  caller = caller;
  cpu = cpu;
  calls = λ h is. inl (sym same ∙ is);
  frees = λ h is. inl (same ∙ is);
  lives = λ lives. ap (λ (s : State). is_dead (Some s)) (sym same) ∙ lives;
  works = λ works. ap (λ (s : State). is_free (Some s)) (sym same) ∙ works;
  parks = λ is. ap (λ (s : State). is_parked (Some s)) (sym same) ∙ is;
  gives = λ gives. well.giving (ap (λ (s : State). handles_items (Some s)) (sym same) ∙ gives);
  takes = λ is. ap Some (sym same) ∙ is;
}

well_of : (is_local : ℕ → Bool) (cs : Contexts) (e : ℕ) → is_some (ec_in cs e) ≡ true → AreServed is_local cs → IsWell (is_local e) (Some (ec_of cs e))
well_of is_local cs e there served = subst (λ (o : Option EcState). IsWell (is_local e) o) (of_there cs e there) (served.well e)

pub acts_on : (is_local : ℕ → Bool) (cs : Contexts) (ec : ℕ) (y : EcState) → IsActor cs ec → y.caller ≡ (ec_of cs ec).caller → y.cpu ≡ (ec_of cs ec).cpu →
    ((h : ℕ) → y.state ≢ Calling h) → is_parked (Some y.state) ≡ false → (handles_items (Some y.state) ≡ true → IsSome (ec_of cs ec).caller) →
    is_taking (Some y.state) ≡ false → AreServed is_local cs → AreServed is_local (with_ec cs ec y)
acts_on is_local cs ec y actor caller cpu calls works gives takes served =
    served_on is_local cs ec (ec_of cs ec) y actor.there (goes cs ec None y actor caller cpu (λ h is. absurd (calls h is)) works gives takes) served

pub stays_on : (is_local : ℕ → Bool) (cs : Contexts) (e : ℕ) (y : EcState) → is_some (ec_in cs e) ≡ true → y.caller ≡ (ec_of cs e).caller → y.cpu ≡ (ec_of cs e).cpu →
    y.state ≡ (ec_of cs e).state → AreServed is_local cs → AreServed is_local (with_ec cs e y)
stays_on is_local cs e y there caller cpu same served =
    served_on is_local cs e (ec_of cs e) y (of_there cs e there) (remains (is_local e) cs (ec_of cs e) y (well_of is_local cs e there served) caller cpu same) served

-- a context that is blocked goes on
pub ends_on : (is_local : ℕ → Bool) (cs : Contexts) (e sm : ℕ) (status : Status) → state_in cs e ≡ Some (Blocked sm) → AreServed is_local cs →
    AreServed is_local (with_ec cs e (answered (ec_of cs e) status None))
ends_on is_local cs e sm status blocked served =
    let there = blocked_there cs e sm blocked in
    served_on is_local cs e (ec_of cs e) (answered (ec_of cs e) status None) there (record {
      caller = refl;
      cpu = refl;
      calls = λ h is. absurd (cc);
      frees = λ h is. absurd (let both : Some (Blocked sm) ≡ Some (Calling h) = sym blocked ∙ ap state_at there ∙ ap Some is in cc);
      lives = λ lives. ap is_dead (sym (ap state_at there) ∙ blocked);
      works = λ works. ap is_free (sym (ap state_at there) ∙ blocked);
      parks = λ is. absurd (cc);
      gives = λ gives. absurd (cc);
      takes = λ is. absurd (cc);
    }) served

pub wakes_on : (is_local : ℕ → Bool) (cs : Contexts) (e sm : ℕ) → state_in cs e ≡ Some (Blocked sm) → AreServed is_local cs →
    AreServed is_local (with_ec cs e (answered (ec_of cs e) Success None))
wakes_on is_local cs e sm blocked served = ends_on is_local cs e sm Success blocked served

-- of a caller with its mark: its number, and the mark
abbrev pub number_in : Option (ℕ × Mark) → ℕ
number_in None = 0
number_in (Some p) = p.0

abbrev pub mark_in : Option (ℕ × Mark) → Mark
mark_in None = came.Call
mark_in (Some p) = p.1

-- A CALL

-- the handler that a call reaches
pub record IsReached (cs : Contexts) (ec h : ℕ) : Type 0 where
  pub may : IsNewEdge cs ec h
  pub parked : is_parked (state_in cs h) ≡ true

pub help_edge : (cs : Contexts) (ec h : ℕ) (flag : Bool) → admitted cs ec h flag ≡ admit.Help → IsNewEdge cs ec h
help_edge cs ec h flag is = (may_wait cs ec h ((call_helped cs ec h flag).0 is).0).0

pub send_reaches : (cs : Contexts) (ec h : ℕ) (flag : Bool) → admitted cs ec h flag ≡ admit.Send → IsReached cs ec h
send_reaches cs ec h flag is = let both = (call_sent cs ec h flag).0 is in record { may = (may_wait cs ec h both.0).0; parked = ap is_parked both.1 }

pub exit_waits_edge : (cs : Contexts) (ec h : ℕ) → exit_admitted cs ec h ≡ exit.Waits → IsNewEdge cs ec h
exit_waits_edge cs ec h is = (may_wait cs ec h ((exit_waits cs ec h).0 is).0).0

pub exit_reaches : (cs : Contexts) (ec h : ℕ) → exit_admitted cs ec h ≡ exit.Sends → IsReached cs ec h
exit_reaches cs ec h is = let both = (exit_sent cs ec h).0 is in record { may = (may_wait cs ec h both.0).0; parked = ap is_parked both.1 }

parked_there : (o : Option EcState) → is_parked (state_at o) ≡ true → is_some o ≡ true
parked_there None h = absurd (cc)
parked_there (Some x) h = refl

pub reached_there : (cs : Contexts) (ec h : ℕ) → IsReached cs ec h → is_some (ec_in cs h) ≡ true
reached_there cs ec h reached = parked_there (ec_in cs h) reached.parked

pub reached_apart : (cs : Contexts) (ec h : ℕ) → IsActor cs ec → IsReached cs ec h → ec ≢ h
reached_apart cs ec h actor reached same =
    let parked : is_parked (Some (ec_of cs ec).state) ≡ true = ap is_parked (sym (ap state_at actor.there)) ∙ ap (λ (n : ℕ). is_parked (state_in cs n)) same ∙ reached.parked in
    let works = awake_works (ec_of cs ec).state actor.awake in absurd (cc)

-- a handler's state when it begins
record Begins (s : State) : Type 0 where
  calls : (g : ℕ) → s ≢ Calling g
  works : is_parked (Some s) ≡ false

begins : (items : Bool) → Begins (if items then Granting None else Ready)
begins true = record { calls = λ g is. cc; works = refl }
begins false = record { calls = λ g is. cc; works = refl }

-- it takes items of a call alone
takes_call : (items : Bool) (mark : Mark) → (items ≡ true → mark ≡ came.Call) → Some (if items then Granting None else Ready) ≡ Some (Granting None) → mark ≡ came.Call
takes_call true mark of_call is = of_call refl
takes_call false mark of_call is = absurd (cc)

parked_calls : (s : State) (g : ℕ) → is_parked (Some s) ≡ true → s ≡ Calling g → ⊥
parked_calls s g is same = let calls : is_parked (Some s) ≡ false = ap (λ (t : State). is_parked (Some t)) same in cc

pub sends_on : (is_local : ℕ → Bool) (cs : Contexts) (ec h : ℕ) (mark : Mark) (ip identifier : ℕ) (items : Bool) → (items ≡ true → mark ≡ came.Call) →
    IsActor cs ec → IsReached cs ec h → AreServed is_local cs →
    let one = with_ec cs ec (record (ec_of cs ec) { state = Calling h }) in
    AreServed is_local (with_ec one h (serving (ec_of one h) ec mark ip identifier items))
sends_on is_local cs ec h mark ip identifier items of_call actor reached served =
    let y : EcState = record (ec_of cs ec) { state = Calling h } in
    let one = with_ec cs ec y in
    let w = serving (ec_of one h) ec mark ip identifier items in
    let apart = reached_apart cs ec h actor reached in
    let there = of_there cs h (reached_there cs ec h reached) in
    let same : ec_of one h ≡ ec_of cs h = ap context_in (entry_other cs ec h y (λ at. apart (sym at))) in
    let parks : is_parked (Some (ec_of cs h).state) ≡ true = ap is_parked (sym (ap state_at there)) ∙ reached.parked in
    let before = served.well h in
    let none = before.parked reached.parked in
    let begun = begins items in
    let waiting : ec_in one ec ≡ Some y = entry_itself cs ec y (rw actor.there refl) in
    let processors : Some (ec_of cs ec).cpu ≡ Some (ec_of one h).cpu =
    sym (ap cpu_at actor.there) ∙ sym reached.may.one_processor ∙ ap cpu_at there ∙ ap (λ (x : EcState). Some x.cpu) (sym same) in
    served_exchange is_local cs ec h (ec_of cs ec) y (ec_of cs h) w (record {
      caller = actor.there;
      handler = there;
      on = goes cs ec (Some h) y actor refl refl (λ g is. cc) refl (λ gives. absurd (cc)) refl;
      serves = record {
        apart = apart;
        cpu = ap (λ (x : EcState). x.cpu) same;
        before = λ c its keeps. absurd (let nobody : (ec_of cs h).caller ≡ None = sym (ap caller_at there) ∙ none.0 in cc);
        after = λ c its keeps. sym (ap number_in keeps);
        calls = begun.calls;
        frees = λ g is. absurd (parked_calls (ec_of cs h).state g parks is);
        pair = record { known = λ is. (mark, refl); waits = λ its keeps lives. ap state_at waiting; cpu = λ its keeps. ap cpu_at waiting ∙ processors };
      };
      well = record {
        parked = λ is. absurd (let works = begun.works in cc);
        serving = λ local is works. refl;
        kept = λ c its keeps. none.1;
        giving = λ gives. refl;
        taking = λ c its keeps is. sym (ap mark_in keeps) ∙ takes_call items mark of_call is;
      };
    }) served

-- A REPLY

-- two are set, in either order
set_swap : (cs : Contexts) (a b : ℕ) (x y : EcState) → a ≢ b → with_ec (with_ec cs a x) b y ≡ with_ec (with_ec cs b y) a x
set_swap [] a b x y apart = refl
set_swap (c ∷ cs) zero zero x y apart = absurd (apart refl)
set_swap (c ∷ cs) zero (suc b) x y apart = refl
set_swap (c ∷ cs) (suc a) zero x y apart = refl
set_swap (c ∷ cs) (suc a) (suc b) x y apart = ap (λ (l : Contexts). c ∷ l) (set_swap cs a b x y (λ same. apart (ap suc same)))

-- the caller of a context that acts waits for it
pub record IsAwaited (cs : Contexts) (ec caller : ℕ) : Type 0 where
  pub there : ec_in cs caller ≡ Some (ec_of cs caller)
  pub waits : (ec_of cs caller).state ≡ Calling ec
  pub apart : caller ≢ ec

pub awaited : (is_local : ℕ → Bool) (cs : Contexts) (ec caller : ℕ) (mark : Mark) → IsActor cs ec → (ec_of cs ec).caller ≡ Some (caller, mark) → AreServed is_local cs →
    IsAwaited cs ec caller
awaited is_local cs ec caller mark actor keeps served =
    let link : IsLinked caller (ec_in cs caller) ec (Some (ec_of cs ec)) =
    subst (λ (o : Option EcState). IsLinked caller (ec_in cs caller) ec o) actor.there (served.linked caller ec) in
    let waits = link.waits mark keeps (awake_lives (ec_of cs ec).state actor.awake) in
    let there = of_there cs caller (state_there (ec_in cs caller) (Calling ec) waits) in
    let calls : (ec_of cs caller).state ≡ Calling ec = (let two : Some (ec_of cs caller).state ≡ Some (Calling ec) = sym (ap state_at there) ∙ waits in cc) in record {
      there = there;
      waits = calls;
      apart = λ same.
          let dead = actor.waits ec (ap (λ (n : ℕ). (ec_of cs n).state) (sym same) ∙ calls) in
          let lives : is_dead (state_in cs ec) ≡ false = ap is_dead (ap state_at actor.there) ∙ awake_lives (ec_of cs ec).state actor.awake in absurd (cc);
    }

-- a caller goes on, whatever it came by
pub record IsResumed (x y : EcState) : Type 0 where
  pub caller : y.caller ≡ x.caller
  pub cpu : y.cpu ≡ x.cpu
  pub ready : y.state ≡ Ready

pub resumed_is : (x : EcState) (mark : Mark) (m : List ℕ) → IsResumed x (resumed x mark m)
resumed_is x came.Call m = record { caller = refl; cpu = refl; ready = refl }
resumed_is x came.Exit m = record { caller = refl; cpu = refl; ready = refl }

pub replies_on : (is_local : ℕ → Bool) (cs : Contexts) (ec caller : ℕ) (mark : Mark) (m : List ℕ) → IsActor cs ec → (ec_of cs ec).caller ≡ Some (caller, mark) →
    AreServed is_local cs →
    let one = with_ec cs ec (parked (ec_of cs ec)) in
    AreServed is_local (with_ec one caller (resumed (ec_of one caller) mark m))
replies_on is_local cs ec caller mark m actor keeps served =
    let await = awaited is_local cs ec caller mark actor keeps served in
    let x = ec_of cs caller in
    let y = resumed x mark m in
    let on = resumed_is x mark m in
    let w = parked (ec_of cs ec) in
    let two = with_ec cs caller y in
    let same : ec_of (with_ec cs ec w) caller ≡ x = ap context_in (entry_other cs ec caller w await.apart) in
    let order : with_ec (with_ec cs ec w) caller (resumed (ec_of (with_ec cs ec w) caller) mark m) ≡ with_ec two ec w =
    ap (λ (z : EcState). with_ec (with_ec cs ec w) caller (resumed z mark m)) same ∙ set_swap cs ec caller w y (λ at. await.apart (sym at)) in
    let ready : ec_in two caller ≡ Some y = entry_itself cs caller y (rw await.there refl) in
    let well = well_of is_local cs ec (rw actor.there refl) served in
    subst (λ (ds : Contexts). AreServed is_local ds) (sym order)
    (served_exchange is_local cs caller ec x y (ec_of cs ec) w (record {
      caller = await.there;
      handler = actor.there;
      on = record {
        caller = on.caller;
        cpu = on.cpu;
        calls = λ h is. absurd (let both : Ready ≡ Calling h = sym on.ready ∙ is in cc);
        frees = λ h is. inr (inr (let both : Calling ec ≡ Calling h = sym await.waits ∙ is in cc));
        lives = λ lives. ap (λ (s : State). is_dead (Some s)) await.waits;
        works = λ works. ap (λ (s : State). is_free (Some s)) await.waits;
        parks = λ is. absurd (let no = ap (λ (s : State). is_parked (Some s)) on.ready in cc);
        gives = λ gives. absurd (let none = ap (λ (s : State). handles_items (Some s)) on.ready in cc);
        takes = λ is. absurd (let both : Some Ready ≡ Some (Granting None) = sym (ap Some on.ready) ∙ is in cc);
      };
      serves = record {
        apart = await.apart;
        cpu = refl;
        before = λ c its is. ap number_in (sym is ∙ keeps);
        after = λ c its is. absurd (cc);
        calls = λ g is. cc;
        frees = λ g is. still_dead await.there await.waits g (actor.waits g is);
        pair = record {
          known = λ is. absurd (let both : Some Ready ≡ Some (Calling ec) = sym (ap state_at ready ∙ ap Some on.ready) ∙ is in cc);
          waits = λ its is lives. absurd (cc);
          cpu = λ its is. absurd (cc);
        };
      };
      well = record {
        parked = λ is. (refl, well.kept caller mark keeps);
        serving = λ local is works. absurd (cc);
        kept = λ c its is. absurd (cc);
        giving = λ gives. absurd (cc);
        taking = λ c its is takes. absurd (cc);
      };
    }) served)
  where
    still_dead : ec_in cs caller ≡ Some (ec_of cs caller) → (ec_of cs caller).state ≡ Calling ec → (g : ℕ) → is_dead (state_in cs g) ≡ true →
        is_dead (state_in (with_ec cs caller (resumed (ec_of cs caller) mark m)) g) ≡ true
    still_dead there waits g dead = elim (place g caller) [
      | inl at ↦ absurd (let lives : is_dead (state_in cs g) ≡ false = ap (λ (n : ℕ). is_dead (state_in cs n)) at ∙ ap is_dead (ap state_at there) ∙ ap (λ (s : State). is_dead (Some s)) waits in cc)
      | inr other ↦ ap is_dead (ap state_at (entry_other cs caller g _ other)) ∙ dead
    ]
