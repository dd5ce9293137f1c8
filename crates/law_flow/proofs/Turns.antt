-- A turn of one of a side in two states, and turns one after another.
use Rattle.std.proofs.Common.{◌≡◌, ℕ, List, [], ◌∷◌, ◌++◌, length, refl, sym, ap, ap₂, ◌∙◌, subst}
use Rattle.std.specs.Prelude.{Bool, true, false, drop, is_some, slice_get, option_map, option_and_then, Option, Some, None}
use Rattle.std.proofs.lemmas.Option.{same_Some}
use Rattle.nova_objects.specs.declared.object.Object.{Object}
use Rattle.nova_objects.specs.declared.object.Object.TheVariants.{Pd, Ec, Sc, Pt, Sm}
use Rattle.nova_calls.specs.Hypercalls.{call_of}
use Rattle.nova_calls.specs.declared.call.Call.{Call}
use Rattle.nova_calls.specs.declared.call.Call.TheVariants as asks
use Rattle.nova_calls.specs.declared.call.SmAction.TheVariants as act
use Rattle.nova_range.specs.declared.status.Status.{Status}
use Rattle.std.specs.Prelude.{Result, Ok}
use Rattle.nova_model.specs.Capabilities.{is_ec}
use Rattle.nova_model.specs.Choice.{Candidate, in_front, next_to_act}
use Rattle.nova_model.specs.Deeds.{deed}
use Rattle.nova_model.specs.Inputs.{is_stirred}
use Rattle.nova_model.specs.Edges.{is_giving}
use Rattle.nova_model.specs.Runs.{after, run}
use Rattle.nova_model.specs.State.{KernelState, context, pd_in, pd_of}
use Rattle.nova_model.specs.declared.context.EcState.{EcState}
use Rattle.nova_model.specs.declared.deed.Deed.{Deed}
use Rattle.nova_model.specs.declared.log.LogByte.{LogByte}
use Rattle.nova_model.specs.Memory.{Memory}
use Rattle.nova_model.specs.Creation.{object_of}
use Rattle.nova_model.specs.declared.new_object.NewObject.{NewObject}
use Rattle.law_forest.specs.Effects.{joined, made_by, memory_with, store_by}
use Rattle.law_forest.specs.Turns.{turned}
use Rattle.law_forest.proofs.Turning.{chosen_turn}
use Rattle.law_turns.proofs.Serving.{actor_of}
use Rattle.law_turns.proofs.TablesKept.{context_is}
use Rattle.law_isolation.specs.Sound.{IsSound}
use Rattle.law_isolation.proofs.Runs.{turn_sound}
use Rattle.law_origins.specs.Giving.{Acts}
use Rattle.law_origins.proofs.Actors.{is_able}
use Rattle.law_integrity.specs.Confined.{Of}
use Rattle.law_flow.specs.Flow.{AreAlike, AreCreatingAlone, AreDerivedAlike, AreGivingWithin, AreLeftAlone, AreRevokingWithin, DerivesWithin, AreAtWorkTimeless, GivesWithin, HasSameClock, IsSide, IsAtWork, IsCallAtWork, IsGivingWithin, RevokesNothing, Allowed, if_own, gain_for, own_bytes, own_deeds, own_turn, schedule, unnumbered}
use Rattle.law_flow.proofs.Seeing.{Both, context_same, reach_same}
use Rattle.law_flow.proofs.Creating.{AreMaking}
use Rattle.law_flow.proofs.Doing.{by_deed, memory_same}
use Rattle.law_flow.proofs.Numbers.{left_numbers, numbers_kept, numbers_left}
use Rattle.law_flow.proofs.Pairs.{AreOwn, first_own, own_both, own_turned_alike, own_turned_side, pair_derived, same_made, same_unnumbered, store_so}
use Rattle.law_flow.proofs.Taking.{derived_kept, left_gains}

-- THE SAME PART

pub alike_flipped : (k l : KernelState) (S P : ℕ → Type 0) → AreAlike k l S P → AreAlike l k S P
alike_flipped k l S P a = record {
  objects = λ n p. sym (a.objects n p);
  fronts = λ n p. sym (a.fronts n p);
  contexts = λ n p s. sym (a.contexts n p (own n p s));
  messages = λ n p s. sym (a.messages n p (own n p s));
  transfers = λ n p s. sym (a.transfers n p (own n p s));
  identifiers = λ n p. sym (a.identifiers n p);
  semaphores = λ n p. sym (a.semaphores n p);
  ticks = λ n p. sym (a.ticks n p);
  deadlines = λ n p. sym (a.deadlines n p);
  spaces = λ kind pd place s. sym (a.spaces kind pd place s);
  origins = λ kind pd place from s t. sym (a.origins kind pd place from s t);
  frames = λ pd page to s leads. sym (a.frames pd page to s (sym (reach_same k l S P a pd page s) ∙ leads));
  size = sym a.size;
}
  where
    own : (n : ℕ) → P n → S (pd_of l n) → S (pd_of k n)
    own n p s = subst (λ (o : Option Object). S (pd_in o)) (a.objects n p) s

pub alike_itself : (k : KernelState) (S P : ℕ → Bool) → AreAlike k k (Of S) (Of P)
alike_itself k S P = record {
  objects = λ n p. refl;
  fronts = λ n p. refl;
  contexts = λ n p s. refl;
  messages = λ n p s. refl;
  transfers = λ n p s. refl;
  identifiers = λ n p. refl;
  semaphores = λ n p. refl;
  ticks = λ n p. refl;
  deadlines = λ n p. refl;
  spaces = λ kind pd place s. refl;
  origins = λ kind pd place from s t. refl;
  frames = λ pd page to s leads. refl;
  size = refl;
}

pub alike_through : (k l m : KernelState) (S P : ℕ → Type 0) → AreAlike k l S P → AreAlike l m S P → AreAlike k m S P
alike_through k l m S P a b = record {
  objects = λ n p. b.objects n p ∙ a.objects n p;
  fronts = λ n p. b.fronts n p ∙ a.fronts n p;
  contexts = λ n p s. b.contexts n p (own n p s) ∙ a.contexts n p s;
  messages = λ n p s. b.messages n p (own n p s) ∙ a.messages n p s;
  transfers = λ n p s. b.transfers n p (own n p s) ∙ a.transfers n p s;
  identifiers = λ n p. b.identifiers n p ∙ a.identifiers n p;
  semaphores = λ n p. b.semaphores n p ∙ a.semaphores n p;
  ticks = λ n p. b.ticks n p ∙ a.ticks n p;
  deadlines = λ n p. b.deadlines n p ∙ a.deadlines n p;
  spaces = λ kind pd place s. b.spaces kind pd place s ∙ a.spaces kind pd place s;
  origins = λ kind pd place from s t. b.origins kind pd place from s t ∙ a.origins kind pd place from s t;
  frames = λ pd page to s leads. b.frames pd page to s (reach_same k l S P a pd page s ∙ leads) ∙ a.frames pd page to s leads;
  size = b.size ∙ a.size;
}
  where
    own : (n : ℕ) → P n → S (pd_of k n) → S (pd_of l n)
    own n p s = subst (λ (o : Option Object). S (pd_in o)) (sym (a.objects n p)) s

-- ONE OF THE SIDE'S TURNS

pub record IsOwnTurn (S : ℕ → Bool) (k : KernelState) (cpu ec sc : ℕ) : Type 0 where
  pub candidate : Candidate
  pub next : next_to_act k cpu ≡ Some candidate
  pub actor : candidate.actor ≡ ec
  pub payer : candidate.sc ≡ sc
  pub of : S (pd_of k ec) ≡ true

pub own_is : (S : ℕ → Bool) (k : KernelState) (cpu ec sc : ℕ) → own_turn S k cpu ≡ Some (ec, sc) → IsOwnTurn S k cpu ec sc
own_is S k cpu ec sc h = by_next (next_to_act k cpu) refl h
  where
    by_test : (c : Candidate) → next_to_act k cpu ≡ Some c → (t : Bool) → S (pd_of k c.actor) ≡ t → if_own t c ≡ Some (ec, sc) → IsOwnTurn S k cpu ec sc
    by_test c is true mine g =
        let both : (c.actor, c.sc) ≡ (ec, sc) = same_Some (c.actor, c.sc) (ec, sc) g in
        let first : c.actor ≡ ec = ap (λ (p : ℕ × ℕ). p.0) both in
        record { candidate = c; next = is; actor = first; payer = ap (λ (p : ℕ × ℕ). p.1) both; of = subst (λ (n : ℕ). S (pd_of k n) ≡ true) first mine }
    by_test c is false mine g = absurd (cc)

    by_next : (o : Option Candidate) → next_to_act k cpu ≡ o → option_and_then (λ c. if_own (S (pd_of k c.actor)) c) o ≡ Some (ec, sc) → IsOwnTurn S k cpu ec sc
    by_next None is g = absurd (cc)
    by_next (Some c) is g = by_test c is (S (pd_of k c.actor)) refl g

pub own_acts : (S : ℕ → Bool) (k : KernelState) (cpu ec sc : ℕ) → IsOwnTurn S k cpu ec sc → Acts k cpu ec
own_acts S k cpu ec sc t = ap (option_map (λ (c : Candidate). c.actor)) t.next ∙ ap (λ (n : ℕ). Some n) t.actor

-- who acts is an execution context, and of the side
pub own_there : (S : ℕ → Bool) (k : KernelState) (P : ℕ → Type 0) (cpu ec sc : ℕ) → IsSound k → IsSide k (Of S) P → IsOwnTurn S k cpu ec sc → P ec
own_there S k P cpu ec sc sound side t = by_object (slice_get k.objects ec) refl kind t.of
  where
    kind : option_map is_ec (slice_get k.objects ec) ≡ Some true
    kind = context_is k ec (ap is_some (actor_of k.contexts ec (is_able k cpu ec (own_acts S k cpu ec sc t))).there) sound.kept.tables

    by_object : (o : Option Object) → slice_get k.objects ec ≡ o → option_map is_ec o ≡ Some true → S (pd_in o) ≡ true → P ec
    by_object (Some (Ec pd its event_kind event)) is h s = side.members ec pd its event_kind event is s
    by_object (Some Pd) is h s = absurd (cc)
    by_object (Some (Sc donor its priority quantum)) is h s = absurd (cc)
    by_object (Some (Pt handler mtd ip)) is h s = absurd (cc)
    by_object (Some Sm) is h s = absurd (cc)
    by_object None is h s = absurd (cc)

pub own_turned : (S : ℕ → Bool) (k : KernelState) (cpu ec sc : ℕ) → IsOwnTurn S k cpu ec sc → after k cpu ≡ turned k cpu (by_deed k ec sc (deed k ec) (is_stirred k ec (deed k ec)))
own_turned S k cpu ec sc t =
    chosen_turn k cpu t.candidate t.next ∙ ap₂ (λ (n m : ℕ). turned k cpu (by_deed k n m (deed k n) (is_stirred k n (deed k n)))) t.actor t.payer

-- what is asked of both states
pub record AreTwins (k l : KernelState) (S P : ℕ → Bool) : Type 0 where
  pub side : IsSide k (Of S) (Of P)
  pub alike : AreAlike k l (Of S) (Of P)
  pub first : IsSound k
  pub second : IsSound l

pub both : (k l : KernelState) (S P : ℕ → Bool) → AreTwins k l S P → Both k l (Of S) (Of P)
both k l S P t = record { side = t.side; alike = t.alike; first = t.first.kept.edges; second = t.second.kept.edges }

-- of a down with a deadline, where items are given, of a revoke and of a create something else may be asked
pub call_as : (timed other revoking taking creating making : Type 0) (o : Result Call Status) → (timed → other) → (revoking → taking) → (creating → making) → IsCallAtWork timed revoking creating o →
    IsCallAtWork other taking making o
call_as timed other revoking taking creating making (Ok (asks.SmCtrl sm (act.DownWithin ticks))) f g m h = f h
call_as timed other revoking taking creating making (Ok (asks.Revoke range own)) f g m h = g h
call_as timed other revoking taking creating making (Ok (asks.CreatePd target pd first)) f g m h = m h
call_as timed other revoking taking creating making (Ok (asks.CreateEc target pd cpu kind sp event)) f g m h = m h
call_as timed other revoking taking creating making (Ok (asks.CreateSc target pd whose quantum priority)) f g m h = m h
call_as timed other revoking taking creating making (Ok (asks.CreatePt target pd handler mtd ip)) f g m h = m h
call_as timed other revoking taking creating making (Ok (asks.CreateSm target pd count)) f g m h = m h
call_as timed other revoking taking creating making any f g m h = h

pub work_as : (timed other giving within revoking taking creating making : Type 0) (k : KernelState) (ec : ℕ) → (timed → other) → (is_giving (context k ec).state ≡ true → giving → within) → (revoking → taking) → (creating → making) →
    IsAtWork timed giving revoking creating k ec → IsAtWork other within taking making k ec
work_as timed other giving within revoking taking creating making k ec f g h m works = record {
  calls = λ asking. call_as timed other revoking taking creating making (call_of (context k ec).regs) f h m (works.calls asking);
  gives = λ is. g is (works.gives is);
  revokes = λ is. h (works.revokes is);
}

making : (k l : KernelState) (S P : ℕ → Bool) → AreTwins k l S P → AreCreatingAlone k l (Of S) (Of P) → AreMaking k l (Of S) (Of P)
making k l S P t alone = record { alone = alone; first = t.first.kept.tables; second = t.second.kept.tables }

pub own_of : (k l : KernelState) (S P : ℕ → Bool) (cpu ec sc : ℕ) → AreTwins k l S P → own_turn S k cpu ≡ Some (ec, sc) →
    IsAtWork (HasSameClock k l ec) (AreGivingWithin k l (Of S) ec) (AreRevokingWithin k l (Of S)) (AreCreatingAlone k l (Of S) (Of P)) k ec →
    AreOwn (HasSameClock k l ec) (AreMaking k l (Of S) (Of P)) k l (Of S) (Of P) (deed k ec) (deed l ec)
own_of k l S P cpu ec sc t own works =
    let its = own_is S k cpu ec sc own in
    own_both k l (Of S) (Of P) (both k l S P t) t.first.forest t.second.forest ec (own_there S k (Of P) cpu ec sc t.first t.side its) its.of
    (work_as (HasSameClock k l ec) (HasSameClock k l ec) (AreGivingWithin k l (Of S) ec) (AreGivingWithin k l (Of S) ec) (AreRevokingWithin k l (Of S)) (AreRevokingWithin k l (Of S)) (AreCreatingAlone k l (Of S) (Of P))
    (AreMaking k l (Of S) (Of P)) k ec (λ same. same) (λ is within. within) (λ within. within) (making k l S P t) works)

pub decided : (k l : KernelState) (S P : ℕ → Bool) (cpu ec sc : ℕ) → AreTwins k l S P → own_turn S k cpu ≡ Some (ec, sc) → IsAtWork (HasSameClock k l ec) (AreGivingWithin k l (Of S) ec) (AreRevokingWithin k l (Of S)) (AreCreatingAlone k l (Of S) (Of P)) k ec → unnumbered (deed l ec) ≡ unnumbered (deed k ec)
decided k l S P cpu ec sc t own works = same_unnumbered (HasSameClock k l ec) (AreMaking k l (Of S) (Of P)) k l (Of S) (Of P) (deed k ec) (deed l ec) (own_of k l S P cpu ec sc t own works)

pub own_alike : (k l : KernelState) (S P : ℕ → Bool) (cpu other ec sc : ℕ) → AreTwins k l S P → own_turn S k cpu ≡ Some (ec, sc) → own_turn S l other ≡ Some (ec, sc) →
    IsAtWork (HasSameClock k l ec) (AreGivingWithin k l (Of S) ec) (AreRevokingWithin k l (Of S)) (AreCreatingAlone k l (Of S) (Of P)) k ec → AreAlike (after k cpu) (after l other) (Of S) (Of P)
own_alike k l S P cpu other ec sc t own also works =
    let its = own_is S k cpu ec sc own in
    let b = both k l S P t in
    let p = own_there S k (Of P) cpu ec sc t.first t.side its in
    subst (λ (s : KernelState). AreAlike s (after l other) (Of S) (Of P)) (sym (own_turned S k cpu ec sc its))
    (subst (λ (s : KernelState). AreAlike (turned k cpu (by_deed k ec sc (deed k ec) (is_stirred k ec (deed k ec)))) s (Of S) (Of P)) (sym (own_turned S l other ec sc (own_is S l other ec sc also)))
    (own_turned_alike (HasSameClock k l ec) (AreMaking k l (Of S) (Of P)) k l (Of S) (Of P) b t.first.forest t.second.forest (λ m. m) cpu other ec sc p its.of (deed k ec) (deed l ec) (own_of k l S P cpu ec sc t own works) (is_stirred k ec (deed k ec)) (is_stirred l ec (deed l ec))))

-- what it stores to consoles is the same
drop_all : (xs ys : List LogByte) → drop (length xs) (xs ++ ys) ≡ ys
drop_all [] ys = refl
drop_all (x ∷ xs) ys = drop_all xs ys

gained_is : (m later : Memory) (gained : List LogByte) → later.log ≡ m.log ++ gained → drop (length m.log) later.log ≡ gained
gained_is m later gained is = ap (drop (length m.log)) is ∙ drop_all m.log gained

pub own_gains : (k l : KernelState) (S P : ℕ → Bool) (cpu other ec sc : ℕ) → AreTwins k l S P → own_turn S k cpu ≡ Some (ec, sc) → own_turn S l other ≡ Some (ec, sc) →
    IsAtWork (HasSameClock k l ec) (AreGivingWithin k l (Of S) ec) (AreRevokingWithin k l (Of S)) (AreCreatingAlone k l (Of S) (Of P)) k ec → gain_for l other (Some (ec, sc)) ≡ gain_for k cpu (Some (ec, sc))
own_gains k l S P cpu other ec sc t own also works =
    let its = own_is S k cpu ec sc own in
    let b = both k l S P t in
    let p = own_there S k (Of P) cpu ec sc t.first t.side its in
    let same = store_so (HasSameClock k l ec) (AreMaking k l (Of S) (Of P)) k l l (Of S) (Of P) ec (deed k ec) (deed l ec) (own_of k l S P cpu ec sc t own works) in
    let stores = (memory_same k l (Of S) (Of P) b ec p its.of (deed k ec)).gains in
    let ours : (after k cpu).memory ≡ memory_with k.memory (store_by k ec (deed k ec)) = ap (λ (s : KernelState). s.memory) (own_turned S k cpu ec sc its) in
    let theirs : (after l other).memory ≡ memory_with l.memory (store_by l ec (deed k ec)) =
    ap (λ (s : KernelState). s.memory) (own_turned S l other ec sc (own_is S l other ec sc also)) ∙ ap (memory_with l.memory) same in
    ap (λ (m : Memory). drop (length l.memory.log) m.log) theirs ∙ gained_is l.memory (memory_with l.memory (store_by l ec (deed k ec))) stores.gained stores.second
    ∙ sym (ap (λ (m : Memory). drop (length k.memory.log) m.log) ours ∙ gained_is k.memory (memory_with k.memory (store_by k ec (deed k ec))) stores.gained stores.first)

pub own_side : (k l : KernelState) (S P : ℕ → Bool) (cpu ec sc : ℕ) → AreTwins k l S P → own_turn S k cpu ≡ Some (ec, sc) →
    IsAtWork (HasSameClock k l ec) (AreGivingWithin k l (Of S) ec) (AreRevokingWithin k l (Of S)) (AreCreatingAlone k l (Of S) (Of P)) k ec → IsSide (after k cpu) (Of S) (Of P)
own_side k l S P cpu ec sc t own works =
    let its = own_is S k cpu ec sc own in
    let p = own_there S k (Of P) cpu ec sc t.first t.side its in
    subst (λ (s : KernelState). IsSide s (Of S) (Of P)) (sym (own_turned S k cpu ec sc its))
    (own_turned_side (HasSameClock k l ec) (AreMaking k l (Of S) (Of P)) k (Of S) (Of P) t.side t.first.forest (λ m. m.alone.first) cpu ec sc p (deed k ec)
    (first_own (HasSameClock k l ec) (AreMaking k l (Of S) (Of P)) k l (Of S) (Of P) (deed k ec) (deed l ec) (own_of k l S P cpu ec sc t own works)) (is_stirred k ec (deed k ec)))

-- ALONG TURNS

-- with what both give, revoke and create within
pub working_both : (giving revoking creating : Type 0) (k l : KernelState) (S P : ℕ → Bool) (ec : ℕ) → AreTwins k l S P → P ec ≡ true → S (pd_of k ec) ≡ true → IsAtWork ⊥ giving revoking creating k ec →
    (is_giving (context k ec).state ≡ true → IsGivingWithin k (Of S) ec) → (is_giving (context l ec).state ≡ true → IsGivingWithin l (Of S) ec) → (revoking → AreRevokingWithin k l (Of S)) →
    (creating → AreCreatingAlone k l (Of S) (Of P)) → IsAtWork (HasSameClock k l ec) (AreGivingWithin k l (Of S) ec) (AreRevokingWithin k l (Of S)) (AreCreatingAlone k l (Of S) (Of P)) k ec
working_both giving revoking creating k l S P ec t p s works mine its takes makes =
    work_as ⊥ (HasSameClock k l ec) giving (AreGivingWithin k l (Of S) ec) revoking (AreRevokingWithin k l (Of S)) creating (AreCreatingAlone k l (Of S) (Of P)) k ec (λ none. absurd none)
    (λ is asked. record { first = mine is; second = its (ap (λ (x : EcState). is_giving x.state) (context_same k l (Of S) (Of P) (both k l S P t) ec p s) ∙ is) }) takes makes works

-- its ranges are made of each other alike after its turn
pub own_derived : (k l : KernelState) (S P : ℕ → Bool) (cpu other ec sc : ℕ) → AreTwins k l S P → own_turn S k cpu ≡ Some (ec, sc) → own_turn S l other ≡ Some (ec, sc) →
    IsAtWork (HasSameClock k l ec) (AreGivingWithin k l (Of S) ec) (AreRevokingWithin k l (Of S)) (AreCreatingAlone k l (Of S) (Of P)) k ec → AreDerivedAlike k l (Of S) → AreDerivedAlike (after k cpu) (after l other) (Of S)
own_derived k l S P cpu other ec sc t own also works a =
    let its = own_is S k cpu ec sc own in
    pair_derived (HasSameClock k l ec) (AreMaking k l (Of S) (Of P)) k l (after k cpu) (after l other) (Of S) (Of P) (both k l S P t) (λ m. m) t.first.forest t.second.forest (turn_sound k cpu t.first).forest
    (turn_sound l other t.second).forest ec (own_there S k (Of P) cpu ec sc t.first t.side its) its.of (deed k ec) (deed l ec)
    (own_of k l S P cpu ec sc t own works) (ap (λ (s : KernelState). s.delegations) (own_turned S k cpu ec sc (own_is S k cpu ec sc own)))
    (ap (λ (s : KernelState). s.delegations) (own_turned S l other ec sc (own_is S l other ec sc also))) a

-- and after a turn that leaves the side's part alone, in the first of two states, and in the second
pub left_derived : (k l : KernelState) (S P : ℕ → Bool) (cpu : ℕ) → IsSound k → AreAlike k (after k cpu) (Of S) (Of P) → AreDerivedAlike k l (Of S) → AreDerivedAlike (after k cpu) l (Of S)
left_derived k l S P cpu sound same a = derived_kept k l (after k cpu) l (Of S) (left_gains k (Of S) cpu sound same.spaces) (λ d there s. there) a

pub derived_left : (k l : KernelState) (S P : ℕ → Bool) (cpu : ℕ) → IsSound l → AreAlike l (after l cpu) (Of S) (Of P) → AreDerivedAlike k l (Of S) → AreDerivedAlike k (after l cpu) (Of S)
derived_left k l S P cpu sound same a = derived_kept k l k (after l cpu) (Of S) (λ d there s. there) (left_gains l (Of S) cpu sound same.spaces) a

-- the numbers that are left are its own after its turn
pub own_numbers : (k l : KernelState) (S P : ℕ → Bool) (cpu other ec sc : ℕ) → AreTwins k l S P → own_turn S k cpu ≡ Some (ec, sc) → own_turn S l other ≡ Some (ec, sc) →
    IsAtWork (HasSameClock k l ec) (AreGivingWithin k l (Of S) ec) (AreRevokingWithin k l (Of S)) (AreCreatingAlone k l (Of S) (Of P)) k ec → AreCreatingAlone k l (Of S) (Of P) →
    AreCreatingAlone (after k cpu) (after l other) (Of S) (Of P)
own_numbers k l S P cpu other ec sc t own also works alone =
    numbers_kept k l (after k cpu) (after l other) (Of S) (Of P) (made_by (deed k ec)) (ap (λ (s : KernelState). s.objects) first)
    (ap (λ (s : KernelState). s.objects) second ∙ ap (λ (o : Option NewObject). joined l.objects (option_map object_of o))
    (same_made (HasSameClock k l ec) (AreMaking k l (Of S) (Of P)) k l (Of S) (Of P) (deed k ec) (deed l ec) (own_of k l S P cpu ec sc t own works)))
    (ap (λ (s : KernelState). s.cpus) first) (ap (λ (s : KernelState). s.cpus) second) alone
  where
    first : after k cpu ≡ turned k cpu (by_deed k ec sc (deed k ec) (is_stirred k ec (deed k ec)))
    first = own_turned S k cpu ec sc (own_is S k cpu ec sc own)

    second : after l other ≡ turned l other (by_deed l ec sc (deed l ec) (is_stirred l ec (deed l ec)))
    second = own_turned S l other ec sc (own_is S l other ec sc also)

abbrev pub OwnDeed : Type 0
OwnDeed = ℕ × Deed

pub record EndSame (k l : KernelState) (S P : ℕ → Bool) (es fs : List OwnDeed) (bs cs : List LogByte) : Type 0 where
  pub alike : AreAlike k l (Of S) (Of P)
  pub deeds : fs ≡ es
  pub bytes : cs ≡ bs

abbrev pub deed_for : KernelState → Option (ℕ × ℕ) → Option OwnDeed
deed_for k o = option_map (λ (p : ℕ × ℕ). (p.0, unnumbered (deed k p.0))) o

-- the second goes on by others' turns alone
others_alone : (allowed : Allowed) (S P : ℕ → Bool) (us : List ℕ) (k l : KernelState) → AreTwins k l S P → AreLeftAlone allowed.revokes S P l us → [] ≡ schedule S l us → EndSame k (run l us) S P [] (own_deeds S l us) [] (own_bytes S l us)
others_alone allowed S P [] k l t left same = record { alike = t.alike; deeds = refl; bytes = refl }
others_alone allowed S P (cpu ∷ us) k l t left same =
    by_own (own_turn S l cpu) refl same (λ next rest. others_alone allowed S P us k (after l cpu) next left.3 rest)
  where
    by_own : (o : Option (ℕ × ℕ)) → own_turn S l cpu ≡ o → [] ≡ in_front o (schedule S (after l cpu) us) →
        (AreTwins k (after l cpu) S P → [] ≡ schedule S (after l cpu) us → EndSame k (run (after l cpu) us) S P [] (own_deeds S (after l cpu) us) [] (own_bytes S (after l cpu) us)) →
        EndSame k (run (after l cpu) us) S P [] (in_front (deed_for l (own_turn S l cpu)) (own_deeds S (after l cpu) us)) [] (gain_for l cpu (own_turn S l cpu) ++ own_bytes S (after l cpu) us)
    by_own None is rest later =
        let ended = later (record { side = t.side; alike = alike_through k l (after l cpu) (Of S) (Of P) t.alike (left.0 is).same; first = t.first; second = turn_sound l cpu t.second }) rest in
        record { alike = ended.alike; deeds = ap (λ (o : Option (ℕ × ℕ)). in_front (deed_for l o) (own_deeds S (after l cpu) us)) is ∙ ended.deeds; bytes = ap (λ (o : Option (ℕ × ℕ)). gain_for l cpu o ++ own_bytes S (after l cpu) us) is ∙ ended.bytes }
    by_own (Some p) is rest later = absurd (cc)

abbrev pub Ends : KernelState → List ℕ → KernelState → List ℕ → (ℕ → Bool) → (ℕ → Bool) → Type 0
Ends k ts l us S P = EndSame (run k ts) (run l us) S P (own_deeds S k ts) (own_deeds S l us) (own_bytes S k ts) (own_bytes S l us)

-- the second goes on until its next own turn, which is as the first's
matched : (allowed : Allowed) (S P : ℕ → Bool) (us : List ℕ) (k l : KernelState) (cpu : ℕ) (ts : List ℕ) (p : ℕ × ℕ) → own_turn S k cpu ≡ Some p → IsAtWork ⊥ (RevokesNothing k (Of S)) (allowed.revokes ≡ true) (allowed.creates ≡ true) k p.0 → GivesWithin S k cpu →
    (allowed.revokes ≡ true → DerivesWithin k (Of S)) → (allowed.revokes ≡ true → AreDerivedAlike k l (Of S)) → (allowed.creates ≡ true → AreCreatingAlone k l (Of S) (Of P)) → AreTwins k l S P → AreLeftAlone allowed.revokes S P l us → p ∷ schedule S (after k cpu) ts ≡ schedule S l us →
    ((vs : List ℕ) (m : KernelState) → (allowed.revokes ≡ true → AreDerivedAlike (after k cpu) m (Of S)) → (allowed.creates ≡ true → AreCreatingAlone (after k cpu) m (Of S) (Of P)) → AreTwins (after k cpu) m S P → AreLeftAlone allowed.revokes S P m vs → schedule S (after k cpu) ts ≡ schedule S m vs → Ends (after k cpu) ts m vs S P) →
    EndSame (run (after k cpu) ts) (run l us) S P ((p.0, unnumbered (deed k p.0)) ∷ own_deeds S (after k cpu) ts) (own_deeds S l us) (gain_for k cpu (Some p) ++ own_bytes S (after k cpu) ts) (own_bytes S l us)
matched allowed S P [] k l cpu ts p own works within derives derived numbers t left same later = absurd (cc)
matched allowed S P (other ∷ us) k l cpu ts p own works within derives derived numbers t left same later =
    by_own (own_turn S l other) refl same (λ alike further next rest. matched allowed S P us k (after l other) cpu ts p own works within derives alike further next left.3 rest later)
  where
    timed : own_turn S l other ≡ Some p → IsAtWork (HasSameClock k l p.0) (AreGivingWithin k l (Of S) p.0) (AreRevokingWithin k l (Of S)) (AreCreatingAlone k l (Of S) (Of P)) k p.0
    timed also =
        let its = own_is S k cpu p.0 p.1 own in
        working_both (RevokesNothing k (Of S)) (allowed.revokes ≡ true) (allowed.creates ≡ true) k l S P p.0 t (own_there S k (Of P) cpu p.0 p.1 t.first t.side its) its.of works (within p.0 p.1 own) (left.1 p.0 p.1 also)
        (λ yes. record { alike = derived yes; first = derives yes; second = left.2 yes }) numbers

    by_own : (o : Option (ℕ × ℕ)) → own_turn S l other ≡ o → p ∷ schedule S (after k cpu) ts ≡ in_front o (schedule S (after l other) us) →
        ((allowed.revokes ≡ true → AreDerivedAlike k (after l other) (Of S)) → (allowed.creates ≡ true → AreCreatingAlone k (after l other) (Of S) (Of P)) → AreTwins k (after l other) S P → p ∷ schedule S (after k cpu) ts ≡ schedule S (after l other) us →
        EndSame (run (after k cpu) ts) (run (after l other) us) S P ((p.0, unnumbered (deed k p.0)) ∷ own_deeds S (after k cpu) ts) (own_deeds S (after l other) us) (gain_for k cpu (Some p) ++ own_bytes S (after k cpu) ts) (own_bytes S (after l other) us)) →
        EndSame (run (after k cpu) ts) (run (after l other) us) S P ((p.0, unnumbered (deed k p.0)) ∷ own_deeds S (after k cpu) ts)
        (in_front (deed_for l (own_turn S l other)) (own_deeds S (after l other) us)) (gain_for k cpu (Some p) ++ own_bytes S (after k cpu) ts) (gain_for l other (own_turn S l other) ++ own_bytes S (after l other) us)
    by_own None is rest goes_on =
        let alone = (left.0 is).same in
        let ended = goes_on (λ yes. derived_left k l S P other t.second alone (derived yes)) (λ yes. numbers_left k l S P other alone (numbers yes)) (record { side = t.side; alike = alike_through k l (after l other) (Of S) (Of P) t.alike alone; first = t.first; second = turn_sound l other t.second }) rest in
        record { alike = ended.alike; deeds = ap (λ (o : Option (ℕ × ℕ)). in_front (deed_for l o) (own_deeds S (after l other) us)) is ∙ ended.deeds; bytes = ap (λ (o : Option (ℕ × ℕ)). gain_for l other o ++ own_bytes S (after l other) us) is ∙ ended.bytes }
    by_own (Some q) is rest goes_on =
        let first : p ≡ q = cc in
        let tails : schedule S (after k cpu) ts ≡ schedule S (after l other) us = cc in
        let also : own_turn S l other ≡ Some p = is ∙ ap (λ (r : ℕ × ℕ). Some r) (sym first) in
        let ended = later us (after l other) (λ yes. own_derived k l S P cpu other p.0 p.1 t own also (timed also) (derived yes)) (λ yes. own_numbers k l S P cpu other p.0 p.1 t own also (timed also) (numbers yes)) (record {
          side = own_side k l S P cpu p.0 p.1 t own (timed also);
          alike = own_alike k l S P cpu other p.0 p.1 t own also (timed also);
          first = turn_sound k cpu t.first;
          second = turn_sound l other t.second;
        }) left.3 tails in
        record {
          alike = ended.alike;
          deeds =
              ap (λ (o : Option (ℕ × ℕ)). in_front (deed_for l o) (own_deeds S (after l other) us)) also
              ∙ ap₂ (λ (d : Deed) (es : List OwnDeed). (p.0, d) ∷ es) (decided k l S P cpu p.0 p.1 t own (timed also)) ended.deeds;
          bytes =
              ap (λ (o : Option (ℕ × ℕ)). gain_for l other o ++ own_bytes S (after l other) us) also
              ∙ ap₂ (λ (xs ys : List LogByte). xs ++ ys) (own_gains k l S P cpu other p.0 p.1 t own also (timed also)) ended.bytes;
        }

pub runs_alike : (allowed : Allowed) (S P : ℕ → Bool) (ts us : List ℕ) (k l : KernelState) → (allowed.revokes ≡ true → AreDerivedAlike k l (Of S)) → (allowed.creates ≡ true → AreCreatingAlone k l (Of S) (Of P)) → AreTwins k l S P → AreLeftAlone allowed.revokes S P k ts → AreLeftAlone allowed.revokes S P l us →
    AreAtWorkTimeless allowed S k ts → schedule S k ts ≡ schedule S l us → Ends k ts l us S P
runs_alike allowed S P [] us k l derived numbers t left right works same = others_alone allowed S P us k l t right same
runs_alike allowed S P (cpu ∷ ts) us k l derived numbers t left right works same =
    by_own (own_turn S k cpu) refl same (λ j vs m alike further next alone also works_ again. runs_alike allowed S P ts vs j m alike further next alone also works_ again)
  where
    by_own : (o : Option (ℕ × ℕ)) → own_turn S k cpu ≡ o → in_front o (schedule S (after k cpu) ts) ≡ schedule S l us →
        ((j : KernelState) (vs : List ℕ) (m : KernelState) → (allowed.revokes ≡ true → AreDerivedAlike j m (Of S)) → (allowed.creates ≡ true → AreCreatingAlone j m (Of S) (Of P)) → AreTwins j m S P → AreLeftAlone allowed.revokes S P j ts → AreLeftAlone allowed.revokes S P m vs → AreAtWorkTimeless allowed S j ts →
        schedule S j ts ≡ schedule S m vs → Ends j ts m vs S P) →
        EndSame (run (after k cpu) ts) (run l us) S P (in_front (deed_for k (own_turn S k cpu)) (own_deeds S (after k cpu) ts)) (own_deeds S l us) (gain_for k cpu (own_turn S k cpu) ++ own_bytes S (after k cpu) ts) (own_bytes S l us)
    by_own None is rest later =
        let alone = left.0 is in
        let ended = later (after k cpu) us l (λ yes. left_derived k l S P cpu t.first alone.same (derived yes)) (λ yes. left_numbers k l S P cpu alone.same (numbers yes)) (record {
          side = alone.side;
          alike = alike_through (after k cpu) k l (Of S) (Of P) (alike_flipped k (after k cpu) (Of S) (Of P) alone.same) t.alike;
          first = turn_sound k cpu t.first;
          second = t.second;
        }) left.3 right works.1 rest in
        record { alike = ended.alike; deeds = ended.deeds ∙ sym (ap (λ (o : Option (ℕ × ℕ)). in_front (deed_for k o) (own_deeds S (after k cpu) ts)) is); bytes = ended.bytes ∙ sym (ap (λ (o : Option (ℕ × ℕ)). gain_for k cpu o ++ own_bytes S (after k cpu) ts) is) }
    by_own (Some p) is rest later =
        let ended = matched allowed S P us k l cpu ts p is (works.0 p.0 p.1 is) left.1 left.2 derived numbers t right rest (λ vs m alike further next alone also. later (after k cpu) vs m alike further next left.3 alone works.1 also) in
        record { alike = ended.alike; deeds = ended.deeds ∙ sym (ap (λ (o : Option (ℕ × ℕ)). in_front (deed_for k o) (own_deeds S (after k cpu) ts)) is); bytes = ended.bytes ∙ sym (ap (λ (o : Option (ℕ × ℕ)). gain_for k cpu o ++ own_bytes S (after k cpu) ts) is) }
