-- A turn touches the same in alike states.
use Rattle.std.proofs.Common.{◌≡◌, ℕ, List, ◌∷◌, refl, sym, ap, ap₂, ◌∙◌, subst}
use Rattle.std.specs.Prelude.{true, false, IfSome, IsSome, is_none, slice_get, Option, Some, None, option_map}
use Rattle.std.proofs.lemmas.Option.{same_Some}
use Rattle.rv_model.specs.Registers.{Registers}
use Rattle.rv_model.specs.Step.{Store, Went}
use Rattle.nova_range.specs.Rights.{write_right}
use Rattle.nova_model.specs.AddressSpaces.{frame_for}
use Rattle.nova_model.specs.Choice.{Candidate, choice, next_to_act}
use Rattle.nova_model.specs.Deeds.{address_space, deed, instruction}
use Rattle.nova_model.specs.Delegations.{reach}
use Rattle.nova_model.specs.State.{KernelState, context, processor_of}
use Rattle.nova_model.specs.Times.{next_moment}
use Rattle.nova_model.specs.Turn.{event_of}
use Rattle.nova_model.specs.declared.context.Mark.TheVariants as mark
use Rattle.nova_model.specs.declared.deed.Deed.{Deed}
use Rattle.nova_model.specs.declared.deed.Deed.TheVariants.{Blocks, Finishes, Replies, Steps}
use Rattle.nova_model.specs.declared.event.Event.{Event}
use Rattle.nova_model.specs.declared.times.Deadline.{Deadline}
use Rattle.law_forest.specs.Effects.{Effect, Falls, Passing, Ticks, effect, passing_effect}
use Rattle.law_forest.specs.Turns.{Acts, IsPassing, IsTurning, Passes, Turning, acting, passing, passing_event}
use Rattle.law_turns.specs.Keeping.{IsKept}
use Rattle.law_alike.specs.Alike.{AreStampsGiven, IsAlike, TellsNoTicks, tells_ticks, uncounted}
use Rattle.law_alike.proofs.Choosing.{same_choice}
use Rattle.law_alike.proofs.Doing.{AreDeedsAlike, Later, Same, deeds_alike}
use Rattle.law_alike.proofs.Moments.{due_alike, moments_alike}
use Rattle.law_alike.proofs.Passing.{effects_passing}
use Rattle.law_alike.proofs.Turns.{actors_alike, turns_alike}
use Rattle.law_swaps.specs.Touches.{ChangesWithin, Executes, HaveSameBytes, IsMet, IsPlain, IsTouched, ReadsWithin, Touch, frame_stored_to, with_ram}

-- the context that acts next in one acts next in the other
pub record HasPair (k l : KernelState) (cpu : ℕ) (d : Candidate) : Type 0 where
  pub candidate : Candidate
  pub next : next_to_act k cpu ≡ Some candidate
  pub actor : candidate.actor ≡ d.actor

pub pair_of : (k l : KernelState) (cpu : ℕ) (d : Candidate) → IsAlike k l → next_to_act l cpu ≡ Some d → HasPair k l cpu d
pair_of k l cpu d alike next = by_next (next_to_act k cpu) refl (actors_alike k l cpu alike ∙ ap (option_map (λ (c : Candidate). c.actor)) next)
  where
    by_next : (o : Option Candidate) → next_to_act k cpu ≡ o → option_map (λ (c : Candidate). c.actor) o ≡ Some d.actor → HasPair k l cpu d
    by_next None is same = absurd (cc)
    by_next (Some c) is same = record { candidate = c; next = is; actor = same_Some c.actor d.actor same }

-- WHAT IS READ AND STORED

reads_alike : (k l : KernelState) (ec : ℕ) (frames : List ℕ) → IsAlike k l → ReadsWithin k ec frames → ReadsWithin l ec frames
reads_alike k l ec frames alike reads =
    subst (λ (u : KernelState). (ram : List (List ℕ)) → HaveSameBytes frames u.memory.ram ram → instruction (with_ram u ram) ec ≡ instruction u ec) alike.rest reads

stored_rest : (k : KernelState) (ec : ℕ) (d : Deed) → frame_stored_to k ec d ≡ frame_stored_to (uncounted k) ec d
stored_rest k ec Steps = refl
stored_rest k ec other = refl

stored_alike : (k l : KernelState) (ec frame : ℕ) → IsAlike k l → AreDeedsAlike k.times l.times (deed k ec) (deed l ec) → frame_stored_to l ec (deed l ec) ≡ Some frame → frame_stored_to k ec (deed k ec) ≡ Some frame
stored_alike k l ec frame alike (Same plain is) goes =
    stored_rest k ec (deed k ec)
    ∙ ap₂ (λ (u : KernelState) (d : Deed). frame_stored_to u ec d) alike.rest is
    ∙ sym (stored_rest l ec (deed l ec))
    ∙ goes
stored_alike k l ec frame alike (Later sm a b first second far) goes = absurd (let both : None ≡ Some frame = sym (ap (frame_stored_to l ec) second) ∙ goes in cc)

-- WHAT IS CHANGED

effect_rest : (k : KernelState) (ec : ℕ) (d : Deed) → effect k ec d ≡ effect (uncounted k) ec d
effect_rest k ec (Finishes item end None sequel) = refl
effect_rest k ec (Finishes item end (Some words) sequel) = refl
effect_rest k ec (Replies caller mark.Call true) = refl
effect_rest k ec (Replies caller mark.Call false) = refl
effect_rest k ec (Replies caller mark.Exit true) = refl
effect_rest k ec (Replies caller mark.Exit false) = refl
effect_rest k ec other = refl

effect_same : (k l : KernelState) (ec : ℕ) (d : Deed) → IsAlike k l → effect k ec d ≡ effect l ec d
effect_same k l ec d alike = effect_rest k ec d ∙ ap (λ (u : KernelState). effect u ec d) alike.rest ∙ sym (effect_rest l ec d)

-- in the state of the other, and by a deed that waits to another moment
pub changes_over : (k l : KernelState) (e : Effect) (processors : List ℕ) → IsAlike k l → ChangesWithin k e processors → ChangesWithin l e processors
changes_over k l e processors alike within = record {
  contexts = λ ec there. of_context ec (within.contexts ec there);
  words = λ ec words is. of_context ec (within.words ec words is);
  deadline = λ ec until is. of_context ec (within.deadline ec until is);
  made = λ cpu given. met cpu (within.made cpu given);
}
  where
    met : (cpu : ℕ) → IsMet k processors cpu → IsMet l processors cpu
    met cpu its here = its (subst IsSome (sym (same_choice k l cpu alike)) here)

    of_context : (ec : ℕ) → IsMet k processors (processor_of k ec) → IsMet l processors (processor_of l ec)
    of_context ec its = subst (λ (u : KernelState). IsMet l processors (processor_of u ec)) alike.rest (met (processor_of k ec) its)

later_within : (k : KernelState) (ec sm : ℕ) (a b : Deadline) (processors : List ℕ) → ChangesWithin k (effect k ec (Blocks sm (Some a))) processors → ChangesWithin k (effect k ec (Blocks sm (Some b))) processors
later_within k ec sm a b processors within = record {
  contexts = within.contexts;
  words = within.words;
  deadline = λ n until is. within.deadline n (Some a) (ap (λ (m : ℕ). Some (m, Some a)) (ap (λ (pair : ℕ × Option Deadline). pair.0) (same_Some (ec, Some b) (n, until) is)));
  made = within.made;
}

deed_within : (k l : KernelState) (ec : ℕ) (processors : List ℕ) → IsAlike k l → AreDeedsAlike k.times l.times (deed k ec) (deed l ec) → ChangesWithin k (effect k ec (deed k ec)) processors →
    ChangesWithin l (effect l ec (deed l ec)) processors
deed_within k l ec processors alike (Same plain is) within =
    changes_over k l (effect l ec (deed l ec)) processors alike
    (subst (λ (e : Effect). ChangesWithin k e processors) (effect_same k l ec (deed k ec) alike ∙ ap (effect l ec) is) within)
deed_within k l ec processors alike (Later sm a b first second far) within =
    changes_over k l (effect l ec (deed l ec)) processors alike
    (subst (λ (e : Effect). ChangesWithin k e processors) (effect_same k l ec (Blocks sm (Some b)) alike ∙ ap (effect l ec) (sym second))
    (later_within k ec sm a b processors (subst (λ (d : Deed). ChangesWithin k (effect k ec d) processors) first within)))

-- what comes by itself
passing_alike : (k l : KernelState) (cpu : ℕ) (p : Passing) → IsAlike k l → IsPassing l cpu p → IsPassing k cpu p
passing_alike k l cpu (Falls what) alike due = due_alike k.times l.times cpu alike.times ∙ due
passing_alike k l cpu Ticks alike (calm, none, moment) = (
  due_alike k.times l.times cpu alike.times ∙ calm,
  by_choice (choice k cpu) refl (same_choice k l cpu alike ∙ ap (option_map (λ (c : Candidate). c.sc)) none),
  by_moment (next_moment k.times cpu) (next_moment l.times cpu) (moments_alike k.times l.times cpu alike.times) moment,
)
  where
    by_choice : (o : Option Candidate) → choice k cpu ≡ o → option_map (λ (c : Candidate). c.sc) o ≡ None → choice k cpu ≡ None
    by_choice None is same = is
    by_choice (Some c) is same = absurd (cc)

    by_moment : (m n : Option ℕ) → is_none m ≡ is_none n → IsSome n → IsSome m
    by_moment None None same h = h
    by_moment None (Some n) same h = absurd (cc)
    by_moment (Some m) n same h = refl

-- A PLAIN STEP

-- what is asked of the state without counts
record IsPlainAt (u : KernelState) (ec : ℕ) (regs : Registers) (store : Option Store) : Type 0 where
  executes : Executes (context u ec)
  goes_on : instruction u ec ≡ Went regs store
  no_console : (s : Store) (frame : ℕ) → store ≡ Some s → frame_for (address_space u ec) write_right s.address ≡ Some frame → IsSome (slice_get u.memory.ram frame)

next_of : (k l : KernelState) (cpu : ℕ) (c : Candidate) → IsAlike k l → next_to_act k cpu ≡ Some c → (d : Candidate) × (next_to_act l cpu ≡ Some d) × (d.actor ≡ c.actor)
next_of k l cpu c alike next = by_next (next_to_act l cpu) refl (sym (actors_alike k l cpu alike) ∙ ap (option_map (λ (x : Candidate). x.actor)) next)
  where
    by_next : (o : Option Candidate) → next_to_act l cpu ≡ o → option_map (λ (x : Candidate). x.actor) o ≡ Some c.actor → (d : Candidate) × (next_to_act l cpu ≡ Some d) × (d.actor ≡ c.actor)
    by_next None is same = absurd (cc)
    by_next (Some d) is same = (d, is, same_Some d.actor c.actor same)

plain_alike : (k l : KernelState) (cpu : ℕ) → IsAlike k l → IsPlain k cpu → IsPlain l cpu
plain_alike k l cpu alike plain =
    let pair = next_of k l cpu plain.candidate alike plain.next in
    let is : IsPlainAt l pair.0.actor plain.regs plain.store =
    subst (λ (ec : ℕ). IsPlainAt l ec plain.regs plain.store) (sym pair.2)
    (over (subst (λ (u : KernelState). IsPlainAt u plain.candidate.actor plain.regs plain.store) alike.rest (under (record { executes = plain.executes; goes_on = plain.goes_on; no_console = plain.no_console })))) in record {
      candidate = pair.0;
      next = pair.1;
      executes = is.executes;
      regs = plain.regs;
      store = plain.store;
      goes_on = is.goes_on;
      no_console = is.no_console;
    }
  where
    under : IsPlainAt k plain.candidate.actor plain.regs plain.store → IsPlainAt (uncounted k) plain.candidate.actor plain.regs plain.store
    under is = record { executes = is.executes; goes_on = is.goes_on; no_console = is.no_console }

    over : IsPlainAt (uncounted l) plain.candidate.actor plain.regs plain.store → IsPlainAt l plain.candidate.actor plain.regs plain.store
    over is = record { executes = is.executes; goes_on = is.goes_on; no_console = is.no_console }

-- THE LAW

pub touched_alike : (k l : KernelState) (cpu : ℕ) (t : Touch) → IsKept k → IsKept l → AreStampsGiven k → AreStampsGiven l → IsAlike k l → TellsNoTicks k cpu → IsTouched k cpu t → IsTouched l cpu t
touched_alike k l cpu t kept also given too alike quiet touch = record {
  reads = λ d next executes.
      let pair = pair_of k l cpu d alike next in
      subst (λ (ec : ℕ). ReadsWithin l ec t.reads) pair.actor
      (reads_alike k l pair.candidate.actor t.reads alike
      (touch.reads pair.candidate pair.next (back pair.candidate.actor (subst (λ (ec : ℕ). Executes (context l ec)) (sym pair.actor) executes))));
  writes = λ d frame next goes.
      let pair = pair_of k l cpu d alike next in
      touch.writes pair.candidate frame pair.next
      (stored_alike k l pair.candidate.actor frame alike (deeds pair.candidate pair.next) (subst (λ (ec : ℕ). frame_stored_to l ec (deed l ec) ≡ Some frame) (sym pair.actor) goes));
  meets = by_turn;
  moves = λ still domain page.
      let after_alike = turns_alike k l cpu kept also given too alike quiet in
      ap (λ (u : KernelState). reach u.delegations.list domain page) (sym after_alike.rest)
      ∙ touch.moves still domain page
      ∙ ap (λ (u : KernelState). reach u.delegations.list domain page) alike.rest;
  plain = λ is. plain_alike k l cpu alike (touch.plain is);
}
  where
    back : (ec : ℕ) → Executes (context l ec) → Executes (context k ec)
    back ec at = subst (λ (u : KernelState). Executes (context u ec)) (sym alike.rest) at

    deeds : (c : Candidate) → next_to_act k cpu ≡ Some c → AreDeedsAlike k.times l.times (deed k c.actor) (deed l c.actor)
    deeds c next = deeds_alike k l c.actor alike (subst (λ (o : Option Candidate). IfSome o (λ (x : Candidate). tells_ticks (deed k x.actor) ≡ false)) next quiet)

    by_turn : (turning : Turning) (e : Event) → IsTurning l cpu turning e → ChangesWithin l turning.effect (cpu ∷ t.meets)
    by_turn turning e (Acts d next is event) =
        let pair = pair_of k l cpu d alike next in
        subst (λ (f : Effect). ChangesWithin l f (cpu ∷ t.meets)) (sym (ap (λ (u : Turning). u.effect) is))
        (subst (λ (ec : ℕ). ChangesWithin l (effect l ec (deed l ec)) (cpu ∷ t.meets)) pair.actor
        (deed_within k l pair.candidate.actor (cpu ∷ t.meets) alike (deeds pair.candidate pair.next)
        (touch.meets (acting k pair.candidate) (event_of cpu pair.candidate (deed k pair.candidate.actor)) (Acts pair.candidate pair.next refl refl))))
    by_turn turning e (Passes p comes is event) =
        subst (λ (f : Effect). ChangesWithin l f (cpu ∷ t.meets)) (sym (ap (λ (u : Turning). u.effect) is))
        (changes_over k l (passing_effect l p) (cpu ∷ t.meets) alike
        (subst (λ (f : Effect). ChangesWithin k f (cpu ∷ t.meets)) (effects_passing k l p alike)
        (touch.meets (passing k p) (passing_event k cpu p) (Passes p (passing_alike k l cpu p alike comes) refl refl))))
