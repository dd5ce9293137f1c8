-- How an execution context comes to wait at a semaphore: it waited there before, or asks for a down in its own turn; and how a handler comes to take items.
use Rattle.std.proofs.Common.{◌≡◌, ℕ, ◌<◌, ◌⊎◌, List, length, refl, sym, ap, ◌∙◌, subst, inl, inr, arith}
use Rattle.std.specs.Prelude.{Bool, true, false, if◌then◌else◌, IfSome, is_some, slice_get, Option, Some, None, option_map}
use Rattle.std.proofs.lemmas.Option.{same_Some, slice_get_within}
use Rattle.nova_objects.specs.declared.object.Object.{Object}
use Rattle.nova_model.specs.Boot.{Scenario, boot}
use Rattle.nova_model.specs.Capabilities.{is_ec, is_sm}
use Rattle.nova_model.specs.Choice.{Candidate}
use Rattle.nova_model.specs.Deeds.{resumed}
use Rattle.nova_model.specs.Runs.{after, run}
use Rattle.nova_model.specs.Semaphores.{has, semaphore_in}
use Rattle.nova_model.specs.State.{KernelState, Semaphore, context, context_at, context_in, entry, message}
use Rattle.nova_model.specs.declared.context.EcState.{EcState}
use Rattle.nova_model.specs.declared.context.Mark.{Mark}
use Rattle.nova_model.specs.declared.context.Mark.TheVariants as mark
use Rattle.nova_model.specs.declared.context.State.TheVariants.{Blocked, Fresh, Granting, Parked, Ready}
use Rattle.nova_model.specs.declared.times.Due.{Due}
use Rattle.law_forest.specs.Turns.{Idles as Nothing, Takes as Turns, Acts as Chosen, Passes as Comes, turned}
use Rattle.law_forest.proofs.Turning.{comes}
use Rattle.law_turns.proofs.TablesFit.{TablesFit, boot_run_fits}
use Rattle.law_turns.proofs.TablesKept.{context_is}
use Rattle.law_turns.specs.Tables.{HasTables}
use Rattle.law_origins.specs.Giving.{Acts}
use Rattle.law_integrity.specs.Integrity.{Called, ContextBy, ContextByTime, ExitSent, IsBorn, IsByTime, IsItself, Itself, MayComeTo, NewContext, Recalled, Resumed, RungAwake, TimedOut, Woken}
use Rattle.law_integrity.specs.Rights.{AsksDown, CallsAt}
use Rattle.law_integrity.proofs.Authorised.{authorised_by}
use Rattle.law_integrity.proofs.Entries.{same_length}
use Rattle.law_integrity.proofs.Passing.{due_in, turned_by_time}

-- a context is blocked at a semaphore that is there
pub blocked_below : (k : KernelState) (n sm : ℕ) → TablesFit k → option_map (λ x. x.state) (context_at k n) ≡ Some (Blocked sm) → sm < length k.objects
blocked_below k n sm fits blocked = by_entry (entry (slice_get k.semaphores sm)) refl (fits.blocked.waiting sm n blocked)
  where
    within : (all : List (Option Semaphore)) (m : ℕ) (s : Semaphore) → entry (slice_get all m) ≡ Some s → m < length all
    within all m s is = by_slot (slice_get all m) refl is
      where
        by_slot : (o : Option (Option Semaphore)) → slice_get all m ≡ o → entry o ≡ Some s → m < length all
        by_slot None at e = absurd (cc)
        by_slot (Some x) at e = slice_get_within all m x at

    by_entry : (o : Option Semaphore) → entry (slice_get k.semaphores sm) ≡ o → has (semaphore_in o).waiting n ≡ true → sm < length k.objects
    by_entry None at waits = absurd (cc)
    by_entry (Some s) at waits =
        let below = within k.semaphores sm s at in
        let same = same_length is_some is_sm k.semaphores k.objects fits.tables.semaphores in omega (arith, below, same)

-- an execution context that is there is an object
pub context_below : (k : KernelState) (n : ℕ) (x : EcState) → HasTables k → context_at k n ≡ Some x → n < length k.objects
context_below k n x tables at = by_object (slice_get k.objects n) refl (context_is k n (ap (λ (o : Option EcState). is_some o) at) tables)
  where
    by_object : (o : Option Object) → slice_get k.objects n ≡ o → option_map is_ec o ≡ Some true → n < length k.objects
    by_object None is h = absurd (cc)
    by_object (Some o) is h = slice_get_within k.objects n o is

serves_ready : (items : Bool) (sm : ℕ) → (if items then Granting None else Ready) ≡ Blocked sm → ⊥
serves_ready true sm is = cc
serves_ready false sm is = cc

resumed_ready : (x : EcState) (came : Mark) (words : List ℕ) (sm : ℕ) → (resumed x came words).state ≡ Blocked sm → ⊥
resumed_ready x mark.Call words sm is = cc
resumed_ready x mark.Exit words sm is = cc

pub data BlockedBy (k : KernelState) (cpu n sm : ℕ) : Type 0 where
  Before : (y : EcState) → context_at k n ≡ Some y → y.state ≡ Blocked sm → BlockedBy k cpu n sm
  Now : Acts k cpu n → (y : EcState) → context_at k n ≡ Some y → AsksDown k n sm → BlockedBy k cpu n sm

pub blocked_came : (s : Scenario) (before : List ℕ) (cpu n sm : ℕ) → (context (after (run (boot s) before) cpu) n).state ≡ Blocked sm → BlockedBy (run (boot s) before) cpu n sm
blocked_came s before cpu n sm blocked = by_entry (context_at (after k cpu) n) refl blocked
  where
    k : KernelState
    k = run (boot s) before

    by_itself : (ec : ℕ) (y z : EcState) → Acts k cpu ec → z.state ≡ Blocked sm → n ≡ ec → context_at k n ≡ Some y → IsItself k ec y z → BlockedBy k cpu n sm
    by_itself ec y z acts_ is same old own = by_state own.state
      where
        by_state : (z.state ≡ y.state) ⊎ MayComeTo k ec z.state → BlockedBy k cpu n sm
        by_state (inl stays) = Before y old (sym stays ∙ is)
        by_state (inr may) = Now (subst (Acts k cpu) (sym same) acts_) y old (subst (λ (m : ℕ). AsksDown k m sm) (sym same) (subst (MayComeTo k ec) is may))

    -- of the new state
    of_new : (x z : EcState) → context_at (after k cpu) n ≡ Some x → x.state ≡ Blocked sm → context_at (after k cpu) n ≡ Some z → z.state ≡ Blocked sm
    of_new x z at is new = ap (λ (e : EcState). e.state) (same_Some z x (sym new ∙ at)) ∙ is

    by_born : (x : EcState) → (x.state ≡ Parked) ⊎ (x.state ≡ Fresh) → x.state ≡ Blocked sm → ⊥
    by_born x (inl parked) is = let both : Parked ≡ Blocked sm = sym parked ∙ is in cc
    by_born x (inr fresh) is = let both : Fresh ≡ Blocked sm = sym fresh ∙ is in cc

    by_change : (ec : ℕ) (words : List ℕ) (x : EcState) → Acts k cpu ec → context_at (after k cpu) n ≡ Some x → x.state ≡ Blocked sm →
        (context_at (after k cpu) n ≡ context_at k n) ⊎ ContextBy k ec n words (context_at k n) (context_at (after k cpu) n) → BlockedBy k cpu n sm
    by_change ec words x acts_ at is (inl same) = Before x (sym same ∙ at) is
    by_change ec words x acts_ at is (inr (Itself same y z old new own)) = by_itself ec y z acts_ (of_new x z at is new) same old own
    by_change ec words x acts_ at is (inr (Called c y old parked new)) = absurd (serves_ready _ sm (of_new x _ at is new))
    by_change ec words x acts_ at is (inr (ExitSent e y old parked new)) = absurd (serves_ready false sm (of_new x _ at is new))
    by_change ec words x acts_ at is (inr (Resumed came serves y old waits new)) = absurd (resumed_ready y came words sm (of_new x _ at is new))
    by_change ec words x acts_ at is (inr (Recalled names y old new)) = Before y old (of_new x _ at is new)
    by_change ec words x acts_ at is (inr (Woken other names rest first y old waits new)) = absurd (serves_ready false sm (of_new x _ at is new))
    by_change ec words x acts_ at is (inr (NewContext next born)) =
        absurd (by_born x (subst (λ (o : Option EcState). IfSome o (λ y. (y.state ≡ Parked) ⊎ (y.state ≡ Fresh))) at (first_state (context_at (after k cpu) n) born)) is)
      where
        first_state : (o : Option EcState) → IfSome o (IsBorn n) → IfSome o (λ y. (y.state ≡ Parked) ⊎ (y.state ≡ Fresh))
        first_state None h = tt
        first_state (Some y) h = h.state

    by_time : (what : Option Due) (x : EcState) → context_at (after k cpu) n ≡ Some x → x.state ≡ Blocked sm →
        (context_at (after k cpu) n ≡ context_at k n) ⊎ ContextByTime k what n (context_at k n) (context_at (after k cpu) n) → BlockedBy k cpu n sm
    by_time what x at is (inl same) = Before x (sym same ∙ at) is
    by_time what x at is (inr (RungAwake alarm its due_ there rest first y old waits new)) = absurd (serves_ready false sm (of_new x _ at is new))
    by_time what x at is (inr (TimedOut d due_ has_ y old waits new)) = absurd (serves_ready false sm (of_new x _ at is new))

    by_turn : (x : EcState) → context_at (after k cpu) n ≡ Some x → x.state ≡ Blocked sm → BlockedBy k cpu n sm
    by_turn x at is = elim (comes k cpu) [
      | Nothing none quiet same answer ↦ Before x (ap (λ (l : KernelState). context_at l n) (sym same) ∙ at) is
      | Turns t e takes state answer ↦ elim takes [
        | Chosen c chosen its event ↦
            let acts_ : Acts k cpu c.actor = ap (option_map (λ (d : Candidate). d.actor)) chosen in
            by_change c.actor (message (after k cpu) c.actor) x acts_ at is ((authorised_by s before cpu c.actor acts_).2.contexts n)
        | Comes p passes its event ↦
            let right : IsByTime k (after k cpu) cpu (due_in p) =
            subst (λ (l : KernelState). IsByTime k l cpu (due_in p)) (sym (state ∙ ap (turned k cpu) its)) (turned_by_time k cpu p passes (boot_run_fits s before)) in
            by_time (due_in p) x at is (right.contexts n)
      ]
    ]

    by_entry : (o : Option EcState) → context_at (after k cpu) n ≡ o → (context_in o).state ≡ Blocked sm → BlockedBy k cpu n sm
    by_entry None at is = absurd (cc)
    by_entry (Some x) at is = by_turn x at is

-- HOW A HANDLER COMES TO TAKE ITEMS

serves_taken : (items : Bool) → (if items then Granting None else Ready) ≡ Granting None → items ≡ true
serves_taken true is = refl
serves_taken false is = absurd (cc)

resumed_taken : (x : EcState) (came : Mark) (words : List ℕ) → (resumed x came words).state ≡ Granting None → ⊥
resumed_taken x mark.Call words is = cc
resumed_taken x mark.Exit words is = cc

-- it did before, of the same caller; or its caller acts, and calls it
pub data TakesBy (k : KernelState) (cpu n caller : ℕ) (mark : Mark) : Type 0 where
  Took : (context k n).state ≡ Granting None → (context k n).caller ≡ Some (caller, mark) → TakesBy k cpu n caller mark
  Begins : Acts k cpu caller → CallsAt k caller n → TakesBy k cpu n caller mark

pub taking_came : (s : Scenario) (before : List ℕ) (cpu n caller : ℕ) (mark : Mark) → (context (after (run (boot s) before) cpu) n).state ≡ Granting None →
    (context (after (run (boot s) before) cpu) n).caller ≡ Some (caller, mark) → TakesBy (run (boot s) before) cpu n caller mark
taking_came s before cpu n caller came taking keeps = by_entry (context_at (after k cpu) n) refl taking keeps
  where
    k : KernelState
    k = run (boot s) before

    Taker : EcState → Type 0
    Taker x = (x.state ≡ Granting None) × (x.caller ≡ Some (caller, came))

    took : (y : EcState) → context_at k n ≡ Some y → Taker y → TakesBy k cpu n caller came
    took y old is = Took (ap (λ (o : Option EcState). (context_in o).state) old ∙ is.0) (ap (λ (o : Option EcState). (context_in o).caller) old ∙ is.1)

    of_new : (x z : EcState) → context_at (after k cpu) n ≡ Some x → Taker x → context_at (after k cpu) n ≡ Some z → Taker z
    of_new x z at is new = subst Taker (same_Some x z (sym at ∙ new)) is

    by_itself : (ec : ℕ) (y z : EcState) → Taker z → context_at k n ≡ Some y → IsItself k ec y z → TakesBy k cpu n caller came
    by_itself ec y z is old own = by_state own.state own.caller
      where
        by_state : (z.state ≡ y.state) ⊎ MayComeTo k ec z.state → (z.caller ≡ y.caller) ⊎ ((z.caller ≡ None) × (z.state ≡ Parked)) → TakesBy k cpu n caller came
        by_state (inl stays) (inl same) = took y old (sym stays ∙ is.0, sym same ∙ is.1)
        by_state (inr may) c =
            let none : None ≡ Some (length k.objects) = (subst (MayComeTo k ec) is.0 may).0 in absurd (cc)
        by_state s (inr parks) = let both : Parked ≡ Granting None = sym parks.1 ∙ is.0 in absurd (cc)

    by_born : (x : EcState) → (x.state ≡ Parked) ⊎ (x.state ≡ Fresh) → x.state ≡ Granting None → ⊥
    by_born x (inl parked) is = let both : Parked ≡ Granting None = sym parked ∙ is in cc
    by_born x (inr fresh) is = let both : Fresh ≡ Granting None = sym fresh ∙ is in cc

    by_change : (ec : ℕ) (words : List ℕ) (x : EcState) → Acts k cpu ec → context_at (after k cpu) n ≡ Some x → Taker x →
        (context_at (after k cpu) n ≡ context_at k n) ⊎ ContextBy k ec n words (context_at k n) (context_at (after k cpu) n) → TakesBy k cpu n caller came
    by_change ec words x acts_ at is (inl same) = took x (sym same ∙ at) is
    by_change ec words x acts_ at is (inr (Itself same y z old new own)) = by_itself ec y z (of_new x z at is new) old own
    by_change ec words x acts_ at is (inr (Called c y old parked new)) =
        let its : ec ≡ caller = ap (λ (p : ℕ × Mark). p.0) (same_Some (ec, mark.Call) (caller, came) (of_new x _ at is new).1) in
        Begins (subst (Acts k cpu) its acts_) (subst (λ (m : ℕ). CallsAt k m n) its c)
    by_change ec words x acts_ at is (inr (ExitSent e y old parked new)) = absurd (let none : Ready ≡ Granting None = (of_new x _ at is new).0 in cc)
    by_change ec words x acts_ at is (inr (Resumed mark_ serves y old waits new)) = absurd (resumed_taken y mark_ words (of_new x _ at is new).0)
    by_change ec words x acts_ at is (inr (Recalled names y old new)) = let its = of_new x _ at is new in took y old (its.0, its.1)
    by_change ec words x acts_ at is (inr (Woken other names rest first y old waits new)) = absurd (let none : Ready ≡ Granting None = (of_new x _ at is new).0 in cc)
    by_change ec words x acts_ at is (inr (NewContext next born)) =
        absurd (by_born x (subst (λ (o : Option EcState). IfSome o (λ y. (y.state ≡ Parked) ⊎ (y.state ≡ Fresh))) at (first_state (context_at (after k cpu) n) born)) is.0)
      where
        first_state : (o : Option EcState) → IfSome o (IsBorn n) → IfSome o (λ y. (y.state ≡ Parked) ⊎ (y.state ≡ Fresh))
        first_state None h = tt
        first_state (Some y) h = h.state

    by_time : (what : Option Due) (x : EcState) → context_at (after k cpu) n ≡ Some x → Taker x →
        (context_at (after k cpu) n ≡ context_at k n) ⊎ ContextByTime k what n (context_at k n) (context_at (after k cpu) n) → TakesBy k cpu n caller came
    by_time what x at is (inl same) = took x (sym same ∙ at) is
    by_time what x at is (inr (RungAwake alarm its due_ there rest first y old waits new)) = absurd (let none : Ready ≡ Granting None = (of_new x _ at is new).0 in cc)
    by_time what x at is (inr (TimedOut d due_ has_ y old waits new)) = absurd (let none : Ready ≡ Granting None = (of_new x _ at is new).0 in cc)

    by_turn : (x : EcState) → context_at (after k cpu) n ≡ Some x → Taker x → TakesBy k cpu n caller came
    by_turn x at is = elim (comes k cpu) [
      | Nothing none quiet same answer ↦ took x (ap (λ (l : KernelState). context_at l n) (sym same) ∙ at) is
      | Turns t e takes state answer ↦ elim takes [
        | Chosen c chosen its event ↦
            let acts_ : Acts k cpu c.actor = ap (option_map (λ (d : Candidate). d.actor)) chosen in
            by_change c.actor (message (after k cpu) c.actor) x acts_ at is ((authorised_by s before cpu c.actor acts_).2.contexts n)
        | Comes p passes its event ↦
            let right : IsByTime k (after k cpu) cpu (due_in p) =
            subst (λ (l : KernelState). IsByTime k l cpu (due_in p)) (sym (state ∙ ap (turned k cpu) its)) (turned_by_time k cpu p passes (boot_run_fits s before)) in
            by_time (due_in p) x at is (right.contexts n)
      ]
    ]

    by_entry : (o : Option EcState) → context_at (after k cpu) n ≡ o → (context_in o).state ≡ Granting None → (context_in o).caller ≡ Some (caller, came) → TakesBy k cpu n caller came
    by_entry None at is has = absurd (cc)
    by_entry (Some x) at is has = by_turn x at (is, has)
