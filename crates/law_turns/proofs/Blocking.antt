-- A blocked context waits at its semaphore, whatever is done: an answer for each course of a deed.
use Rattle.std.proofs.Common.{◌≡◌, ℕ, arith, [], ◌∷◌, ◌++◌, List, length, refl, ap, ◌∙◌, sym, subst, inl, inr}
use Rattle.std.specs.Prelude.{◌≢◌, ◌==◌, ◌||◌, eqb, Bool, true, false, if◌then◌else◌, slice_get, Option, Some, None, IsSome, is_some, option_map, Result, Ok, Err}
use Rattle.nova_objects.specs.declared.object.EcKind.TheVariants.{Local, Global, Vcpu}
use Rattle.nova_range.specs.declared.status.Status.TheVariants.{Success, Timeout}
use Rattle.nova_model.specs.Boot.{root_context}
use Rattle.nova_model.specs.Calls.{is_parked}
use Rattle.nova_model.specs.Capabilities.{is_sm}
use Rattle.nova_model.specs.Creation.{context_of, count_of, idle_semaphore}
use Rattle.nova_model.specs.Deeds.{answered, deed, parked, resumed}
use Rattle.nova_model.specs.Edges.{state_in}
use Rattle.nova_model.specs.Semaphores.{Semaphores, answer_of, downed, greatest, has, left, semaphore, semaphore_at, upped, waits, woken, woken_of}
use Rattle.nova_model.specs.State.{Contexts, KernelState, context, ec_in, ec_of, entry, is_local_thread, with_ec, context_at, context_in}
use Rattle.nova_model.specs.declared.context.EcState.{EcState}
use Rattle.nova_model.specs.declared.context.Mark.{Mark}
use Rattle.nova_model.specs.declared.context.State.{State}
use Rattle.nova_model.specs.declared.context.State.TheVariants.{Blocked, Calling, Granting, Parked, Ready}
use Rattle.nova_model.specs.declared.deed.Deed.{Deed}
use Rattle.nova_model.specs.declared.deed.Deed.TheVariants.{Ups}
use Rattle.nova_model.specs.declared.new_object.NewObject.{NewObject}
use Rattle.nova_model.specs.declared.new_object.NewObject.TheVariants as new
use Rattle.nova_model.specs.declared.root.Root.{Root}
use Rattle.nova_model.specs.declared.semaphore.Down.TheVariants as down
use Rattle.nova_model.specs.declared.semaphore.Overflow.{Overflow}
use Rattle.nova_sem.specs.Sound.{AreSound, IsFree}
use Rattle.nova_sem.specs.Waiting.{AllWaitAsBefore, OthersWaitAsBefore}
use Rattle.nova_sem.proofs.Sound.{each_waits_alone}
use Rattle.nova_model.specs.Turn.{whom_of}
use Rattle.nova_sem.proofs.Expiring.{only_the_late_goes}
use Rattle.nova_sem.proofs.Waiting.{only_the_blocked_comes, only_the_woken_goes}
use Rattle.law_turns.specs.Links.{AreServed, state_at}
use Rattle.law_turns.specs.Tables.{HasTables, IsOf}
use Rattle.law_turns.specs.Waiting.{AreBlocked}
use Rattle.law_turns.proofs.Links.{more_itself, more_other, past, place}
use Rattle.law_turns.proofs.Referring.{Asks, deed_asks}
use Rattle.law_turns.proofs.Serving.{IsActor, IsReached, awaited, is_blocked, of_there, reached_apart, reached_there, resumed_is, state_there}
use Rattle.law_turns.proofs.Setting.{entry_itself, entry_other}
use Rattle.law_forest.specs.Effects.{all_edited, applied, edits_by, effect, joined, made_by, semaphore_by, semaphores_with}
use Rattle.law_turns.proofs.Courses.{Courses, MayCome, deed_course}
use Rattle.law_turns.proofs.TablesKept.{kinds_at}

-- A CONTEXT IS SET

-- it waits where its new state says, and all others where they did
record Settles (cs : Contexts) (all new : Semaphores) (e : ℕ) (y : EcState) : Type 0 where
  there : IsSome (ec_in cs e)
  others : OthersWaitAsBefore all e new
  blocked : (sm : ℕ) → waits new sm e ≡ true → y.state ≡ Blocked sm
  waiting : (sm : ℕ) → y.state ≡ Blocked sm → waits new sm e ≡ true
  sound : AreSound new

some_state : (s : State) (sm : ℕ) → Some s ≡ Some (Blocked sm) → s ≡ Blocked sm
some_state s sm is = cc

settled : (cs : Contexts) (all new : Semaphores) (e : ℕ) (y : EcState) → Settles cs all new e y → AreBlocked cs all → AreBlocked (with_ec cs e y) new
settled cs all new e y s h = record {
  blocked = λ sm f is. elim (place f e) [
    | inl same ↦ subst (λ (n : ℕ). state_in (with_ec cs e y) n ≡ Some (Blocked sm)) (sym same)
        (itself ∙ ap Some (s.blocked sm (subst (λ (n : ℕ). waits new sm n ≡ true) same is)))
    | inr other ↦ others f other ∙ h.blocked sm f (sym (s.others sm f other) ∙ is)
  ];
  waiting = λ sm f is. elim (place f e) [
    | inl same ↦ subst (λ (n : ℕ). waits new sm n ≡ true) (sym same)
        (s.waiting sm (some_state y.state sm (sym itself ∙ subst (λ (n : ℕ). state_in (with_ec cs e y) n ≡ Some (Blocked sm)) same is)))
    | inr other ↦ s.others sm f other ∙ h.waiting sm f (sym (others f other) ∙ is)
  ];
  sound = s.sound;
}
  where
    itself : state_in (with_ec cs e y) e ≡ Some y.state
    itself = ap state_at (entry_itself cs e y s.there)

    others : (f : ℕ) → f ≢ e → state_in (with_ec cs e y) f ≡ state_in cs f
    others f other = ap state_at (entry_other cs e f y other)

-- a context that isn't blocked waits nowhere
waits_nowhere : (cs : Contexts) (all : Semaphores) (e : ℕ) → is_blocked (state_in cs e) ≡ false → AreBlocked cs all → IsFree all e
waits_nowhere cs all e unblocked h sm = by_test (waits all sm e) refl
  where
    by_test : (t : Bool) → waits all sm e ≡ t → t ≡ false
    by_test true is = absurd (let blocked = ap is_blocked (h.blocked sm e is) in cc)
    by_test false is = refl

-- it goes on, and isn't blocked then
goes_on : (cs : Contexts) (all : Semaphores) (e : ℕ) (y : EcState) → is_some (ec_in cs e) ≡ true → is_blocked (state_in cs e) ≡ false → is_blocked (Some y.state) ≡ false →
    AreBlocked cs all → AreBlocked (with_ec cs e y) all
goes_on cs all e y there before now h = settled cs all all e y (record {
  there = there;
  others = λ sm f other. refl;
  blocked = λ sm is. absurd (let free = waits_nowhere cs all e before h sm in cc);
  waiting = λ sm is. absurd (let blocked = ap (λ (s : State). is_blocked (Some s)) is in cc);
  sound = h.sound;
}) h

-- it stays in its state
stays : (cs : Contexts) (all : Semaphores) (e : ℕ) (y : EcState) → is_some (ec_in cs e) ≡ true → y.state ≡ (ec_of cs e).state → AreBlocked cs all → AreBlocked (with_ec cs e y) all
stays cs all e y there same h = settled cs all all e y (record {
  there = there;
  others = λ sm f other. refl;
  blocked = λ sm is. same ∙ some_state (ec_of cs e).state sm (sym was ∙ h.blocked sm e is);
  waiting = λ sm is. h.waiting sm e (was ∙ ap Some (sym same ∙ is));
  sound = h.sound;
}) h
  where
    was : state_in cs e ≡ Some (ec_of cs e).state
    was = ap state_at (of_there cs e there)

-- all wait where they did
same_waits : (cs : Contexts) (all new : Semaphores) → AllWaitAsBefore all new → AreSound new → AreBlocked cs all → AreBlocked cs new
same_waits cs all new same sound h = record {
  blocked = λ sm f is. h.blocked sm f (sym (same sm f) ∙ is);
  waiting = λ sm f is. same sm f ∙ h.waiting sm f is;
  sound = sound;
}

-- A SEMAPHORE

-- a context waits at it from now on
blocks : (cs : Contexts) (all : Semaphores) (sm e : ℕ) (y : EcState) → is_some (ec_in cs e) ≡ true → is_blocked (state_in cs e) ≡ false → y.state ≡ Blocked sm →
    IsSome (semaphore_at all sm) → answer_of (semaphore all sm) ≡ down.Blocked → AreBlocked cs all → AreBlocked (with_ec cs e y) (downed all sm e)
blocks cs all sm e y there before now at answers h =
    let sound = each_waits_alone.down all sm e (waits_nowhere cs all e before h) h.sound in
    let here = only_the_blocked_comes.blocked all sm e at answers in
    settled cs all (downed all sm e) e y (record {
      there = there;
      others = only_the_blocked_comes.down all sm e;
      blocked = λ other is. now ∙ ap Blocked (sound.alone e sm other here is);
      waiting = λ other is. let same : sm ≡ other = (let both : Blocked sm ≡ Blocked other = sym now ∙ is in cc) in subst (λ (n : ℕ). waits (downed all sm e) n e ≡ true) same here;
      sound = sound;
    }) h

-- its counter is lowered
downs : (cs : Contexts) (all : Semaphores) (sm e : ℕ) (y : EcState) → is_some (ec_in cs e) ≡ true → is_blocked (state_in cs e) ≡ false → is_blocked (Some y.state) ≡ false →
    answer_of (semaphore all sm) ≡ down.Done → AreBlocked cs all → AreBlocked (with_ec cs e y) (downed all sm e)
downs cs all sm e y there before now answers h =
    same_waits (with_ec cs e y) all (downed all sm e) (only_the_blocked_comes.done all sm e answers)
    (each_waits_alone.down all sm e (waits_nowhere cs all e before h) h.sound) (goes_on cs all e y there before now h)

-- none is woken where none waits
pub nobody_waits : (count : ℕ) (ecs : List ℕ) → woken_of count ecs ≡ Ok None → ecs ≡ []
nobody_waits count [] is = refl
nobody_waits count (ec ∷ ecs) is = absurd (cc)

wakes_nobody : (cs : Contexts) (all : Semaphores) (sm : ℕ) → woken (semaphore all sm) ≡ Ok None → AreBlocked cs all → AreBlocked cs (upped all sm)
wakes_nobody cs all sm wakes h =
    let s = semaphore all sm in
    same_waits cs all (upped all sm) (only_the_woken_goes.nobody all sm (nobody_waits s.count s.waiting wakes)) (each_waits_alone.up all sm h.sound) h

-- nor where the counter is at its greatest
pub none_waits : (count : ℕ) (ecs : List ℕ) → whom_of (woken_of count ecs) ≡ None → ecs ≡ []
none_waits count [] is = refl
none_waits count (ec ∷ ecs) is = absurd cc

pub wakes_none : (cs : Contexts) (all : Semaphores) (sm : ℕ) → whom_of (woken (semaphore all sm)) ≡ None → AreBlocked cs all → AreBlocked cs (upped all sm)
wakes_none cs all sm wakes h =
    let s = semaphore all sm in
    same_waits cs all (upped all sm) (only_the_woken_goes.nobody all sm (none_waits s.count s.waiting wakes)) (each_waits_alone.up all sm h.sound) h

-- the woken context is the first that waits
pub first_waits : (count first : ℕ) (ecs : List ℕ) → woken_of count ecs ≡ Ok (Some first) → (rest : List ℕ) × (ecs ≡ first ∷ rest)
first_waits count first [] is = absurd (by_test (count == greatest) is)
  where
    by_test : (t : Bool) → if◌then◌else◌ {A = Result (Option ℕ) Overflow} t (Err (record {})) (Ok None) ≡ Ok (Some first) → ⊥
    by_test true h = cc
    by_test false h = cc
first_waits count first (ec ∷ ecs) is = let same : ec ≡ first = cc in (ecs, ap (λ (n : ℕ). n ∷ ecs) same)

-- and is blocked there
woken_waits : (all : Semaphores) (sm w : ℕ) → woken (semaphore all sm) ≡ Ok (Some w) → waits all sm w ≡ true
woken_waits all sm w is =
    let s = semaphore all sm in
    let line = first_waits s.count w s.waiting is in
    let itself : (eqb w w || has line.0 w) ≡ true = grind (arith) in ap (λ (ecs : List ℕ). has ecs w) line.1 ∙ itself

pub woken_blocked : (k : KernelState) (sm w : ℕ) → woken (semaphore k.semaphores sm) ≡ Ok (Some w) → AreBlocked k.contexts k.semaphores → state_in k.contexts w ≡ Some (Blocked sm)
woken_blocked k sm w is h = h.blocked sm w (woken_waits k.semaphores sm w is)

pub first_woken : (k : KernelState) (ec sm first : ℕ) → deed k ec ≡ Ups sm (Some first) → (rest : List ℕ) × ((semaphore k.semaphores sm).waiting ≡ first ∷ rest)
first_woken k ec sm first is =
    let s = semaphore k.semaphores sm in
    let asks : Asks k ec (Ups sm (Some first)) = subst (Asks k ec) is (deed_asks k ec) in first_waits s.count first s.waiting asks.1

-- a context is woken, and goes on
pub wakes : (cs : Contexts) (all : Semaphores) (sm w : ℕ) → woken (semaphore all sm) ≡ Ok (Some w) → AreBlocked cs all →
    AreBlocked (with_ec cs w (answered (ec_of cs w) Success None)) (upped all sm)
wakes cs all sm w is h =
    let free = only_the_woken_goes.free all sm w h.sound is in
    settled cs all (upped all sm) w (answered (ec_of cs w) Success None) (record {
      there = state_there (ec_in cs w) (Blocked sm) (h.blocked sm w (woken_waits all sm w is));
      others = only_the_woken_goes.up all sm w is;
      blocked = λ other waits. absurd (let none = free other in cc);
      waiting = λ other waits. absurd (cc);
      sound = each_waits_alone.up all sm h.sound;
    }) h

-- one leaves its queue, and goes on
pub leaves : (cs : Contexts) (all : Semaphores) (sm w : ℕ) → state_in cs w ≡ Some (Blocked sm) → AreBlocked cs all →
    AreBlocked (with_ec cs w (answered (ec_of cs w) Timeout None)) (left all sm w)
leaves cs all sm w is h =
    let free = only_the_late_goes.free all sm w h.sound (h.waiting sm w is) in
    settled cs all (left all sm w) w (answered (ec_of cs w) Timeout None) (record {
      there = state_there (ec_in cs w) (Blocked sm) is;
      others = only_the_late_goes.others all sm w;
      blocked = λ other waits. absurd (let none = free other in cc);
      waiting = λ other waits. absurd (cc);
      sound = only_the_late_goes.sound all sm w h.sound;
    }) h

-- A CONTEXT JOINS

joins : (cs : Contexts) (o : Option EcState) (all : Semaphores) (count : Option ℕ) → is_blocked (state_at o) ≡ false → AreBlocked cs all →
    AreBlocked (cs ++ o ∷ []) (all ++ option_map idle_semaphore count ∷ [])
joins cs o all count born h = same_waits (cs ++ o ∷ []) all (all ++ option_map idle_semaphore count ∷ []) (only_the_blocked_comes.add all count) (each_waits_alone.add all count h.sound)
    (record {
      blocked = λ sm f is. elim (place f (length cs)) [
        | inl last ↦ absurd (let none : state_in cs f ≡ None = ap (state_in cs) last ∙ ap state_at (past cs) in let is = h.blocked sm f is in cc)
        | inr other ↦ ap state_at (more_other cs o f other) ∙ h.blocked sm f is
      ];
      waiting = λ sm f is. elim (place f (length cs)) [
        | inl last ↦ absurd (let its : state_in (cs ++ o ∷ []) f ≡ state_at o = ap (state_in (cs ++ o ∷ [])) last ∙ ap state_at (more_itself cs o) in
            let blocked = ap is_blocked (sym its ∙ is) in cc)
        | inr other ↦ h.waiting sm f (sym (ap state_at (more_other cs o f other)) ∙ is)
      ];
      sound = h.sound;
    })

born_free : (n : ℕ) (made : NewObject) → is_blocked (state_at (context_of n made)) ≡ false
born_free n new.Pd = refl
born_free n (new.Ec pd cpu Local sp event) = refl
born_free n (new.Ec pd cpu Global sp event) = refl
born_free n (new.Ec pd cpu Vcpu sp event) = refl
born_free n (new.Sc ec cpu priority quantum) = refl
born_free n (new.Pt ec mtd ip) = refl
born_free n (new.Sm count) = refl

pub bare_blocked : (root : Root) → AreBlocked (None ∷ Some (root_context root) ∷ None ∷ []) (None ∷ None ∷ None ∷ [])
bare_blocked root =
    joins (None ∷ Some (root_context root) ∷ []) None (None ∷ None ∷ []) None refl
    (joins (None ∷ []) (Some (root_context root)) (None ∷ []) None refl (joins [] None [] None refl (record {
      blocked = λ sm f is. absurd (cc);
      waiting = λ sm f is. absurd (cc);
      sound = each_waits_alone.none;
    })))

-- A CALL AND A REPLY

parked_free : (o : Option State) → is_parked o ≡ true → is_blocked o ≡ false
parked_free None h = absurd (cc)
parked_free (Some Parked) h = refl
parked_free (Some (Blocked sm)) h = absurd (cc)
parked_free (Some other) h = absurd (cc)

begins_free : (items : Bool) → is_blocked (Some (if items then Granting None else Ready)) ≡ false
begins_free true = refl
begins_free false = refl

-- a context goes on to wait for a handler, and the handler goes on
sends : (cs : Contexts) (all : Semaphores) (ec h : ℕ) (w : EcState) → IsActor cs ec → IsReached cs ec h → is_blocked (Some w.state) ≡ false → AreBlocked cs all →
    AreBlocked (with_ec (with_ec cs ec (record (ec_of cs ec) { state = Calling h })) h w) all
sends cs all ec h w actor reached now are =
    let y : EcState = record (ec_of cs ec) { state = Calling h } in
    let apart = reached_apart cs ec h actor reached in
    let still : ec_in (with_ec cs ec y) h ≡ ec_in cs h = entry_other cs ec h y (λ same. apart (sym same)) in
    goes_on (with_ec cs ec y) all h w (ap is_some still ∙ reached_there cs ec h reached) (ap is_blocked (ap state_at still) ∙ parked_free (state_in cs h) reached.parked) now
    (goes_on cs all ec y (ap is_some actor.there) actor.unblocked refl are)

-- a handler parks, and its caller goes on
replies : (is_local : ℕ → Bool) (cs : Contexts) (all : Semaphores) (ec caller : ℕ) (mark : Mark) (m : List ℕ) → IsActor cs ec → (ec_of cs ec).caller ≡ Some (caller, mark) →
    AreServed is_local cs → AreBlocked cs all →
    let one = with_ec cs ec (parked (ec_of cs ec)) in AreBlocked (with_ec one caller (resumed (ec_of one caller) mark m)) all
replies is_local cs all ec caller mark m actor keeps served are =
    let await = awaited is_local cs ec caller mark actor keeps served in
    let y = parked (ec_of cs ec) in
    let one = with_ec cs ec y in
    let still : ec_in one caller ≡ Some (ec_of cs caller) = entry_other cs ec caller y await.apart ∙ await.there in
    let calls : state_in one caller ≡ Some (Calling ec) = ap state_at still ∙ ap Some await.waits in
    goes_on one all caller (resumed (ec_of one caller) mark m) (ap is_some still) (ap is_blocked calls)
    (ap (λ (s : State). is_blocked (Some s)) (resumed_is (ec_of one caller) mark m).ready)
    (goes_on cs all ec y (ap is_some actor.there) actor.unblocked refl are)

-- A DEED

abbrev Settled : KernelState → Type 0
Settled k = AreBlocked k.contexts k.semaphores

-- a state to which a context comes by itself is none in which it waits
free_state : (k : KernelState) (ec : ℕ) (d : Deed) (s : State) → MayCome k ec d s → is_blocked (Some s) ≡ false
free_state k ec d (Blocked sm) may = absurd may
free_state k ec d other may = refl

pub semaphore_there : (k : KernelState) (sm : ℕ) → HasTables k → IsOf k.objects is_sm sm → IsSome (semaphore_at k.semaphores sm)
semaphore_there k sm h is = by_entry (slice_get k.semaphores sm) (kinds_at is_sm k.semaphores k.objects sm h.semaphores ∙ is)
  where
    by_entry : {T : Type 0} (o : Option (Option T)) → option_map is_some o ≡ Some true → IsSome (entry o)
    by_entry None at = absurd (cc)
    by_entry (Some None) at = absurd (cc)
    by_entry (Some (Some x)) at = refl

blocked_courses : (k : KernelState) (ec : ℕ) (d : Deed) → IsActor k.contexts ec → HasTables k → AreServed (is_local_thread k) k.contexts → Settled k → Courses k ec d AreBlocked
blocked_courses k ec d actor tables served h = record {
  rests = λ to. h;
  steps = λ regs is. stays k.contexts k.semaphores ec (record (context k ec) { regs = regs }) there refl h;
  stays = λ cs all w x y is self same now. stays cs all w y (ap is_some is) (same ∙ ap (λ (z : EcState). z.state) (sym (ap context_in is))) now;
  goes = λ y self to may. goes_on k.contexts k.semaphores ec y there actor.unblocked (free_state k ec d y.state may) h;
  sends = λ handler its ip identifier items to of reached. sends k.contexts k.semaphores ec handler _ actor reached (begins_free items) h;
  replies = λ caller its m to keeps. replies (is_local_thread k) k.contexts k.semaphores ec caller its m actor keeps served h;
  ups = λ sm to is. wakes_nobody _ k.semaphores sm is answers;
  wakes = λ sm w to is. wakes _ k.semaphores sm w is answers;
  downs = λ sm to is. downs k.contexts k.semaphores sm ec _ there actor.unblocked refl is h;
  blocks = λ sm to is answer. blocks k.contexts k.semaphores sm ec _ there actor.unblocked refl (semaphore_there k sm tables is) answer h;
}
  where
    there : is_some (context_at k ec) ≡ true
    there = ap is_some actor.there

    answers : AreBlocked (with_ec k.contexts ec (answered (context k ec) Success None)) k.semaphores
    answers = goes_on k.contexts k.semaphores ec _ there actor.unblocked refl h

pub joined_blocked : (n : ℕ) (cs : Contexts) (all : Semaphores) (made : Option NewObject) → AreBlocked cs all →
    AreBlocked (joined cs (option_map (context_of n) made)) (joined all (option_map (λ m. option_map idle_semaphore (count_of m)) made))
joined_blocked n cs all None h = h
joined_blocked n cs all (Some made) h = joins cs (context_of n made) all (count_of made) (born_free n made) h

pub edited_blocked : (k : KernelState) (ec : ℕ) (d : Deed) → IsActor k.contexts ec → Asks k ec d → HasTables k → AreServed (is_local_thread k) k.contexts → Settled k →
    AreBlocked (all_edited k.contexts (edits_by k ec d)) (semaphores_with k.semaphores (semaphore_by ec d))
edited_blocked k ec d actor asks tables served h = deed_course k ec AreBlocked d actor asks (blocked_courses k ec d actor tables served h)

pub applied_blocked : (k : KernelState) (ec : ℕ) (d : Deed) → IsActor k.contexts ec → Asks k ec d → HasTables k → AreServed (is_local_thread k) k.contexts → Settled k →
    Settled (applied k (effect k ec d))
applied_blocked k ec d actor asks tables served h =
    joined_blocked (length k.objects) _ _ (made_by d) (edited_blocked k ec d actor asks tables served h)
