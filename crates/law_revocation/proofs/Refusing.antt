-- What would grow a revoke that runs is refused.
use Rattle.std.proofs.Common.{◌≡◌, ℕ, ◌<◌, List, [], ◌∷◌, ◌++◌, ap, sym, ◌∙◌, subst, inl, inr, refl, arith}
use Rattle.std.specs.Prelude.{◌⊎◌, ◌==◌, Bool, true, false, not, nat_lt, Contains, Option, Some, None, option_map, Result, Ok, Err, IsOk}
use Rattle.std.proofs.lemmas.Bool.{eq-eqb}
use Rattle.std.proofs.lemmas.Bool.Decides.{nat_tests}
use Rattle.std.proofs.lemmas.Option.{same_Some}
use Rattle.rv_model.specs.Registers.{reg}
use Rattle.rv_model.specs.Step.{environment_call}
use Rattle.nova_calls.specs.declared.call.Call.{Call}
use Rattle.nova_calls.specs.declared.call.Call.TheVariants.{CreatePd, CreateEc, CreateSc, CreatePt, CreateSm}
use Rattle.nova_range.specs.Ranges.{end_of}
use Rattle.nova_range.specs.declared.range.Kind.{Kind}
use Rattle.nova_range.specs.declared.range.Kind.TheVariants.{Obj}
use Rattle.nova_range.specs.declared.status.Status.{Status}
use Rattle.nova_range.specs.declared.status.Status.TheVariants.{BadCap, BadCpu, Busy}
use Rattle.nova_model.specs.Capabilities.{bind_portal_right, bind_scheduling_right, is_local, is_schedulable, named}
use Rattle.nova_model.specs.Choice.{Candidate, next_to_act}
use Rattle.nova_model.specs.Deeds.{deed, deed_in, ready, signalled, stepping}
use Rattle.nova_model.specs.Delegations.{Delegations, is_held_in, is_same_kind, range_of}
use Rattle.nova_model.specs.Deliveries.{delegated, delivered, delivers, delivery, part_deed, parted}
use Rattle.nova_model.specs.Forest.{IsForest}
use Rattle.nova_model.specs.Hypercalls.{and_then, is_scheduled, maker, or_refuses, row, unless}
use Rattle.nova_model.specs.Revokes.{Revocation, busy, taken_away}
use Rattle.nova_model.specs.Running.{Running, is_busy, is_of_objects, is_revoked, revoke_of, running}
use Rattle.nova_model.specs.Runs.{after}
use Rattle.nova_model.specs.State.{KernelState, context, pd_of, transfer}
use Rattle.nova_model.specs.Transfers.{judged, overlap_base, part_of}
use Rattle.nova_model.specs.declared.context.State.{State}
use Rattle.nova_model.specs.declared.context.State.TheVariants.{Granting, Replying}
use Rattle.nova_model.specs.declared.deed.Deed.{Deed}
use Rattle.nova_model.specs.declared.deed.Deed.TheVariants.{Refuses, Skips}
use Rattle.nova_model.specs.declared.delegation.Derivation.{Derivation}
use Rattle.nova_model.specs.declared.new_object.NewObject.{NewObject}
use Rattle.nova_model.specs.declared.transfer.Delivery.{Delivery}
use Rattle.nova_model.specs.declared.transfer.Job.{Job}
use Rattle.nova_model.specs.declared.transfer.Reason.TheVariants as reason
use Rattle.law_forest.specs.Changes.{ChangeUnder, ChangesUnder, GoesUnder, JoinsUnder, StaysUnder, TakesPart}
use Rattle.law_forest.proofs.Extremes.{any_from}
use Rattle.law_forest.proofs.Members.{IsIn, contains_from_in, filtered_in, in_from_contains}
use Rattle.law_forest.proofs.Running.{running_has}
use Rattle.law_forest.proofs.Under.{turn_under}
use Rattle.law_origins.specs.Giving.{Acts}
use Rattle.law_revocation.specs.Refused.{IsBusy, IsInTheWay, IsSkipped, ObeysRules, WouldGive, WouldMake, from_cursor, target_of}
use Rattle.law_revocation.proofs.Turns.{turn_event, turn_same}

-- WHAT JOINS

-- a member of a list with one more
joined : (xs : List Derivation) (d x : Derivation) → IsIn (xs ++ d ∷ []) x → IsIn xs x ⊎ (d ≡ x)
joined [] d x (inl e) = inr e
joined [] d x (inr i) = absurd i
joined (y ∷ ys) d x (inl e) = inl (inl e)
joined (y ∷ ys) d x (inr i) = by_rest (joined ys d x i)
  where
    by_rest : IsIn ys x ⊎ (d ≡ x) → IsIn (y ∷ ys) x ⊎ (d ≡ x)
    by_rest (inl j) = inl (inr j)
    by_rest (inr e) = inr e

pub joins_idle : (k : KernelState) (cpu ec : ℕ) (r : Revocation) (x : Derivation) → IsForest k.delegations → revoke_of k ec ≡ Some r →
    Contains (after k cpu).delegations.list x → (Contains k.delegations.list x → ⊥) → busy r k.delegations.list x ≡ false
joins_idle k cpu ec r x forest runs now before = by_choice (next_to_act k cpu) (turn_under k cpu ec r forest runs)
  where
    there : (g : Delegations) → (after k cpu).delegations ≡ g → IsIn g.list x
    there g is = subst (λ (h : Delegations). IsIn h.list x) is (in_from_contains (after k cpu).delegations.list x now)

    was : IsIn k.delegations.list x → busy r k.delegations.list x ≡ false
    was i = absurd (before (contains_from_in k.delegations.list x i))

    by_joined : (d : Derivation) → busy r k.delegations.list d ≡ false → IsIn k.delegations.list x ⊎ (d ≡ x) → busy r k.delegations.list x ≡ false
    by_joined d idle (inl i) = was i
    by_joined d idle (inr e) = subst (λ (y : Derivation). busy r k.delegations.list y ≡ false) e idle

    of_change : (actor : ℕ) → ChangeUnder r ec actor k.delegations (after k cpu).delegations → busy r k.delegations.list x ≡ false
    of_change actor (StaysUnder same) = was (there k.delegations same)
    of_change actor (JoinsUnder d fits idle is) = by_joined d idle (joined k.delegations.list d x (there _ is))
    of_change actor (TakesPart same leaf next is) =
        was (filtered_in (λ (a : Derivation). not (a.id == leaf.id)) k.delegations.list x (there _ (is ∙ ap (taken_away k.delegations) next))).0
    of_change actor (GoesUnder others d its childless is) = was (filtered_in (λ (a : Derivation). not (a.id == d.id)) k.delegations.list x (there _ is)).0

    by_choice : (o : Option Candidate) → ChangesUnder r ec o k.delegations (after k cpu).delegations → busy r k.delegations.list x ≡ false
    by_choice None same = was (there k.delegations same)
    by_choice (Some c) change = of_change c.actor change

-- A PART

busy_there : (k : KernelState) (runner : ℕ) (r : Revocation) (x : Derivation) → revoke_of k runner ≡ Some r → busy r k.delegations.list x ≡ true →
    is_busy k x ≡ true
busy_there k runner r x runs is =
    any_from (λ (w : Running). busy w.revoke k.delegations.list x) (running k) (record { ec = runner; revoke = r })
    (in_from_contains (running k) (record { ec = runner; revoke = r }) (running_has k runner r runs)) is

judged_busy : (test : Derivation → Bool) (list : List Derivation) (x : Derivation) → (x.rights.0 == 0) ≡ false → is_held_in list x.pd (range_of x) ≡ false →
    test x ≡ true → judged test list x ≡ Err reason.Busy
judged_busy test list x right free is = rw right (rw free (rw is refl))

gives_deed : (k : KernelState) (ec : ℕ) (v : Delivery) (s : State) → delivery k ec s ≡ Some v → deed_in k ec s ≡ delivered k v (transfer k ec)
gives_deed k ec v (Granting new) e = ap (delivers k (transfer k ec)) e
gives_deed k ec v Replying e = ap (delivers k (transfer k ec)) e
gives_deed k ec v other e = absurd (cc)

delegates_deed : (k : KernelState) (ec : ℕ) (x : Derivation) (part : WouldGive k ec x) → is_busy k x ≡ true →
    delivered k part.item (transfer k ec) ≡ Skips reason.Busy (overlap_base (from_cursor k ec part.job) part.source) (end_of (range_of part.source))
delegates_deed k ec x part is =
    let j : Job = from_cursor k ec part.job in
    let skips : judged (is_busy k) k.delegations.list x ≡ Err reason.Busy = judged_busy (is_busy k) k.delegations.list x part.right part.free is in
    rw part.delegates (
    ap (delegated k part.item (transfer k ec)) part.reads
    ∙ ap (λ (o : Option Derivation). part_deed part.item (transfer k ec) j (option_map (part_of (is_busy k) k.delegations j) o)) part.next
    ∙ ap (parted j part.source) (ap (judged (is_busy k) k.delegations.list) (sym part.child) ∙ skips))

pub part_skipped : (k : KernelState) (cpu ec runner : ℕ) (r : Revocation) (x : Derivation) (part : WouldGive k ec x) → revoke_of k runner ≡ Some r →
    busy r k.delegations.list x ≡ true → Acts k cpu ec → IsSkipped k cpu ec x part
unfolding deed
part_skipped k cpu ec runner r x part runs is acts =
    let d : Deed = Skips reason.Busy (overlap_base (from_cursor k ec part.job) part.source) (end_of (range_of part.source)) in
    let does : deed k ec ≡ d =
    gives_deed k ec part.item (context k ec).state part.present ∙ delegates_deed k ec x part (busy_there k runner r x runs is) in
    record { event = turn_event k cpu ec d acts does; delegations = (turn_same k cpu ec d acts does).delegations }

-- A CREATING CALL

revoked_there : (k : KernelState) (ec runner target : ℕ) (r : Revocation) → revoke_of k runner ≡ Some r → IsInTheWay k ec target r →
    is_revoked k (pd_of k ec) target ≡ true
revoked_there k ec runner target r runs way =
    let kind : is_same_kind r.range.kind Obj ≡ true = ap (λ (n : Kind). is_same_kind n Obj) way.kind in
    let domain : (r.pd == pd_of k ec) ≡ true = eq-eqb r.pd (pd_of k ec) way.domain in
    let of_objects : is_of_objects (pd_of k ec) target (record { ec = runner; revoke = r }) ≡ true = rw kind (rw domain way.place) in
    any_from (is_of_objects (pd_of k ec) target) (running k) (record { ec = runner; revoke = r })
    (in_from_contains (running k) (record { ec = runner; revoke = r }) (running_has k runner r runs)) of_objects

-- after rules that hold
after_rule : {A : Type 0} (o : Result A Status) (next : A → Result Deed Status) → IsOk o → ((x : A) → next x ≡ Err Busy) → and_then o next ≡ Err Busy
after_rule (Ok x) next ok h = h x
after_rule (Err status) next ok h = absurd (cc)

busy_last : (t : Bool) (d : Deed) → t ≡ true → unless t Busy (Ok d) ≡ Err Busy
busy_last true d is = refl
busy_last false d is = absurd (cc)

at_target : (k : KernelState) (domain its target : ℕ) → is_revoked k domain target ≡ true → Some its ≡ Some target → is_revoked k domain its ≡ true
at_target k domain its target is at = ap (is_revoked k domain) (same_Some its target at) ∙ is

-- the rules of execution contexts, scheduling contexts and portals
there_is : (cpu cpus : ℕ) (made : NewObject) → cpu < cpus → IsOk (unless (not (nat_lt cpu cpus)) BadCpu (Ok made))
there_is cpu cpus made below = let t : nat_lt cpu cpus ≡ true = grind (arith, nat_tests) in rw t refl

bound_is : (k : KernelState) (domain whose : ℕ) (made : ℕ → NewObject) →
    (ec : ℕ) × (named k domain is_schedulable bind_scheduling_right whose ≡ Ok ec) × (is_scheduled k ec ≡ false) →
    IsOk (and_then (named k domain is_schedulable bind_scheduling_right whose) (λ ec. unless (is_scheduled k ec) BadCap (Ok (made ec))))
bound_is k domain whose made (ec, names, alone) = rw names (rw alone refl)

named_is : (o : Result ℕ Status) (made : ℕ → NewObject) → IsOk o → IsOk (and_then o (λ n. Ok (made n)))
named_is (Ok n) made ok = refl
named_is (Err status) made ok = absurd (cc)

row_busy : (k : KernelState) (ec domain target : ℕ) (c : Call) → target_of c ≡ Some target → ObeysRules k domain c → is_revoked k domain target ≡ true →
    row k ec domain c ≡ Err Busy
row_busy k ec domain target (CreatePd its pd first) at obeys is =
    after_rule (maker k domain its pd) _ obeys (λ owner. busy_last (is_revoked k domain its) _ (at_target k domain its target is at))
row_busy k ec domain target (CreateEc its pd cpu kind sp event) at obeys is =
    after_rule (maker k domain its pd) _ obeys.0 (λ owner. after_rule _ _ (there_is cpu k.cpus _ obeys.1)
    (λ made. busy_last (is_revoked k domain its) _ (at_target k domain its target is at)))
row_busy k ec domain target (CreateSc its pd whose quantum priority) at obeys is =
    after_rule (maker k domain its pd) _ obeys.0 (λ owner. after_rule _ _ (bound_is k domain whose _ obeys.1)
    (λ made. busy_last (is_revoked k domain its) _ (at_target k domain its target is at)))
row_busy k ec domain target (CreatePt its pd handler mtd ip) at obeys is =
    after_rule (maker k domain its pd) _ obeys.0 (λ owner. after_rule _ _ (named_is (named k domain is_local bind_portal_right handler) _ obeys.1)
    (λ made. busy_last (is_revoked k domain its) _ (at_target k domain its target is at)))
row_busy k ec domain target (CreateSm its pd count) at obeys is =
    after_rule (maker k domain its pd) _ obeys (λ owner. busy_last (is_revoked k domain its) _ (at_target k domain its target is at))
row_busy k ec domain target other at obeys is = absurd (cc)

pub call_busy : (k : KernelState) (cpu ec runner target : ℕ) (r : Revocation) → revoke_of k runner ≡ Some r → IsInTheWay k ec target r →
    Acts k cpu ec → WouldMake k ec target → IsBusy k cpu ec
unfolding deed
call_busy k cpu ec runner target r runs way acts w =
    let d : Deed = Refuses (reg (context k ec).regs 17) Busy in
    let is : is_revoked k (pd_of k ec) target ≡ true = revoked_there k ec runner target r runs way in
    let does : deed k ec ≡ d =
    ap (deed_in k ec) w.calling.state
    ∙ ap (ready k ec) w.calling.recall
    ∙ ap (stepping k ec) w.calling.raises
    ∙ ap (signalled k ec environment_call w.calling.q0 w.calling.q1) w.calling.thread
    ∙ ap (λ (o : Result Call Status). or_refuses (reg (context k ec).regs 17) (and_then o (row k ec (pd_of k ec)))) w.asks
    ∙ ap (or_refuses (reg (context k ec).regs 17)) (row_busy k ec (pd_of k ec) target w.call w.selector w.obeys is) in
    let same = turn_same k cpu ec d acts does in
    record { event = turn_event k cpu ec d acts does; objects = same.objects; delegations = same.delegations }
