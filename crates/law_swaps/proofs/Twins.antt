-- The turn of another processor before a plain step, and after it: the same, but for what each sees of the other.
use Rattle.std.proofs.Common.{◌≡◌, ◌≢◌, ℕ, ◌+◌, List, refl, sym, ap, ap₂, ◌∙◌, subst}
use Rattle.std.specs.Prelude.{false, IfSome, IsSome, slice_get, slice_set, Option, Some, None, Contains, option_map}
use Rattle.rv_model.specs.Registers.{Registers}
use Rattle.rv_model.specs.Step.{Store}
use Rattle.nova_model.specs.Choice.{Candidate, choose, next_to_act}
use Rattle.nova_model.specs.Deeds.{address_space, deed, instruction}
use Rattle.nova_model.specs.Memory.{Memory}
use Rattle.nova_model.specs.Runs.{after}
use Rattle.nova_model.specs.State.{KernelState, Stirs, context, processor_of}
use Rattle.nova_model.specs.Times.{Entry, clock}
use Rattle.nova_model.specs.Turn.{answer_of, event_of, turn}
use Rattle.nova_model.specs.declared.deed.Deed.{Deed}
use Rattle.nova_model.specs.declared.event.Event.{Event}
use Rattle.nova_model.specs.declared.event.Turn.TheVariants.{Stepped}
use Rattle.nova_model.specs.declared.times.Due.TheVariants as due
use Rattle.law_forest.specs.Effects.{Effect, Falls, Passing, Ticks, effect, memory_with, store_by, words_by}
use Rattle.law_forest.specs.Turns.{Acts, IsPassing, IsTurning, Passes, Turning, acting, passing, passing_event, turned}
use Rattle.law_forest.proofs.Turning.{chosen_turn, comes, due_answers, due_turn, tick_answers, tick_turn}
use Rattle.law_turns.specs.Keeping.{IsKept}
use Rattle.law_turns.proofs.Moments.{next_clocks}
use Rattle.law_alike.specs.Alike.{TellsNoTicks, tells_ticks}
use Rattle.law_alike.proofs.Turns.{answers}
use Rattle.law_swaps.specs.Touches.{Executes, IsTouched, Touch}
use Rattle.law_swaps.proofs.Beside.{elsewhere, number_at}
use Rattle.law_swaps.proofs.Choosing.{IsHome, actors_apart, at_home, due_over, choice_same}
use Rattle.law_swaps.proofs.Chosen.{chosen_still}
use Rattle.law_swaps.proofs.Deciding.{deed_beside}
use Rattle.law_swaps.proofs.Effecting.{LooksSame, effect_same, passing_same, stores_same, with_store}
use Rattle.law_swaps.proofs.Executing.{steps_ready}
use Rattle.law_swaps.proofs.Lists.{IsApart, none_shared}
use Rattle.law_swaps.proofs.Plain.{chosen_over, flipped, seen_over}
use Rattle.law_swaps.proofs.Seeing.{IsSeenSame, instruction_same}
use Rattle.law_swaps.proofs.Stepping.{stepped_by}
use Rattle.law_swaps.proofs.Storing.{GoesTo}

-- A TURN BY WHAT IT IS

pub record IsTaken (k : KernelState) (cpu : ℕ) (t : Turning) (e : Event) : Type 0 where
  pub state : after k cpu ≡ turned k cpu t
  pub answer : answer_of (turn k cpu) ≡ Stepped e

pub taken : (k : KernelState) (cpu : ℕ) (t : Turning) (e : Event) → IsTurning k cpu t e → IsTaken k cpu t e
taken k cpu t e (Acts c next is event) = record { state = chosen_turn k cpu c next ∙ ap (turned k cpu) (sym is); answer = answers k cpu c next ∙ ap Stepped (sym event) }
taken k cpu t e (Passes (Falls what) comes is event) = record {
  state = due_turn k cpu what comes ∙ ap (turned k cpu) (sym is);
  answer = due_answers k cpu what comes ∙ ap Stepped (sym event);
}
taken k cpu t e (Passes Ticks (calm, none, moment) is event) = record {
  state = tick_turn k cpu calm none moment ∙ ap (turned k cpu) (sym is);
  answer = tick_answers k cpu calm none moment ∙ ap Stepped (sym event);
}

-- THE OTHER'S TURN, before and after the step

-- a turn before the step is one after it, with the same effect but for the address space of a store, and the same payer
pub record HasTwin (k s : KernelState) (q : ℕ) (t : Turning) (e : Event) : Type 0 where
  pub twin : Turning
  pub turns : IsTurning s q twin e
  pub effect : twin.effect ≡ with_store t.effect twin.effect.store
  pub charge : twin.charge ≡ t.charge
  pub memory : (m : Memory) → memory_with m twin.effect.store ≡ memory_with m t.effect.store

-- what is known of both
pub record AreBoth (k : KernelState) (p q : ℕ) (a b : Touch) (c : Candidate) (regs : Registers) (store : Option Store) (stirs : Stirs) : Type 0 where
  pub kept : IsKept k
  pub other : p ≢ q
  pub chosen : IsSome (choose k p)
  pub home : IsHome k p c
  pub there : GoesTo (address_space k c.actor) store (λ frame. IsSome (slice_get k.memory.ram frame))
  pub within : GoesTo (address_space k c.actor) store (Contains a.writes)
  pub far : IsApart p a b
  pub touch : IsTouched (stepped_by k p c regs store stirs) q b
  pub quiet : TellsNoTicks (stepped_by k p c regs store stirs) q

-- what the context that acts on the other sees
pub seen_both : (k : KernelState) (p q : ℕ) (a b : Touch) (c d : Candidate) (regs : Registers) (store : Option Store) (stirs : Stirs) → AreBoth k p q a b c regs store stirs → next_to_act k q ≡ Some d →
    IsSeenSame k (stepped_by k p c regs store stirs) q d b.reads
seen_both k p q a b c d regs store stirs h next =
    seen_over k p q c d regs store stirs b.reads h.other h.home (at_home k q d h.kept next) next h.there
    (λ s frame is goes listed. none_shared a.writes b.reads frame frame h.far.unseen (h.within s frame is goes) listed refl)

-- where it is an instruction, it is the same
instruction_both : (k : KernelState) (p q : ℕ) (a b : Touch) (c d : Candidate) (regs : Registers) (store : Option Store) (stirs : Stirs) → AreBoth k p q a b c regs store stirs → next_to_act k q ≡ Some d →
    Executes (context (stepped_by k p c regs store stirs) d.actor) → instruction (stepped_by k p c regs store stirs) d.actor ≡ instruction k d.actor
instruction_both k p q a b c d regs store stirs h next executes =
    let seen = seen_both k p q a b c d regs store stirs h next in
    sym (instruction_same (stepped_by k p c regs store stirs) k q d b.reads (flipped k (stepped_by k p c regs store stirs) q d b.reads seen) (h.touch.reads d seen.second executes))

pub deeds_both : (k : KernelState) (p q : ℕ) (a b : Touch) (c d : Candidate) (regs : Registers) (store : Option Store) (stirs : Stirs) → AreBoth k p q a b c regs store stirs → next_to_act k q ≡ Some d →
    deed (stepped_by k p c regs store stirs) d.actor ≡ deed k d.actor
deeds_both k p q a b c d regs store stirs h next =
    let abroad = at_home k q d h.kept next in
    let seen = seen_both k p q a b c d regs store stirs h next in
    deed_beside k p q d.actor c regs store stirs h.kept h.other h.home abroad.processor (number_at k d.actor q h.kept abroad.processor) (actors_apart k p q c d h.other h.home abroad)
    (instruction_both k p q a b c d regs store stirs h next)
    (subst (λ (o : Option Candidate). IfSome o (λ (x : Candidate). tells_ticks (deed (stepped_by k p c regs store stirs) x.actor) ≡ false)) seen.second h.quiet)

pub looks_both : (k : KernelState) (p q : ℕ) (a b : Touch) (c d : Candidate) (regs : Registers) (store : Option Store) (stirs : Stirs) → AreBoth k p q a b c regs store stirs → next_to_act k q ≡ Some d →
    LooksSame k p d.actor c regs store stirs (deed k d.actor)
looks_both k p q a b c d regs store stirs h next = record {
  apart = actors_apart k p q c d h.other h.home (at_home k q d h.kept next);
  there = h.home.there;
  goes = λ does. instruction_both k p q a b c d regs store stirs h next (steps_ready (stepped_by k p c regs store stirs) d.actor (deeds_both k p q a b c d regs store stirs h next ∙ does));
}

-- its effect is elsewhere
beside_both : (k : KernelState) (p q : ℕ) (a b : Touch) (c : Candidate) (regs : Registers) (store : Option Store) (stirs : Stirs) (n : ℕ) (w : List ℕ) (t : Turning) (e : Event) → AreBoth k p q a b c regs store stirs →
    IsTurning (stepped_by k p c regs store stirs) q t e → t.effect.words ≡ Some (n, w) → n ≢ c.actor
beside_both k p q a b c regs store stirs n w t e h turning is same =
    (elsewhere (stepped_by k p c regs store stirs) t.effect p q b.meets h.other h.far.unmet (chosen_still k p p c regs store stirs h.home h.chosen) (h.touch.meets t e turning)).words n w is
    (ap (processor_of k) same ∙ number_at k c.actor p h.kept h.home.processor)

passing_turn : (k : KernelState) (p q : ℕ) (c : Candidate) (regs : Registers) (store : Option Store) (stirs : Stirs) (w : Passing) → p ≢ q → IsHome k p c → IsPassing k q w → IsPassing (stepped_by k p c regs store stirs) q w
passing_turn k p q c regs store stirs (Falls what) other home comes = due_over k.times p q other ∙ comes
passing_turn k p q c regs store stirs Ticks other home (calm, none, moment) = (
  due_over k.times p q other ∙ calm,
  choice_same k (stepped_by k p c regs store stirs) q (chosen_over k p q c regs store stirs other home) ∙ none,
  subst IsSome (sym (ap (option_map (λ (x : Entry). x.moment)) (next_clocks k.times (slice_set k.times.clocks p (clock k.times p + 1)) q))) moment,
)

passing_same_event : (k : KernelState) (p q : ℕ) (c : Candidate) (regs : Registers) (store : Option Store) (stirs : Stirs) (w : Passing) → passing_event (stepped_by k p c regs store stirs) q w ≡ passing_event k q w
passing_same_event k p q c regs store stirs (Falls (due.Alarm n)) = refl
passing_same_event k p q c regs store stirs (Falls (due.Deadline n)) = refl
passing_same_event k p q c regs store stirs Ticks = refl

pub twin_of : (k : KernelState) (p q : ℕ) (a b : Touch) (c : Candidate) (regs : Registers) (store : Option Store) (stirs : Stirs) (t : Turning) (e : Event) → AreBoth k p q a b c regs store stirs → IsTurning k q t e →
    HasTwin k (stepped_by k p c regs store stirs) q t e
twin_of k p q a b c regs store stirs t e h (Acts d next is event) =
    let s : KernelState = stepped_by k p c regs store stirs in
    let seen = seen_both k p q a b c d regs store stirs h next in
    let deeds = deeds_both k p q a b c d regs store stirs h next in
    let looks = looks_both k p q a b c d regs store stirs h next in
    let turns : IsTurning s q (acting s d) e = Acts d seen.second refl (event ∙ ap (event_of q d) (sym deeds)) in
    let columns : effect s d.actor (deed k d.actor) ≡ with_store (effect k d.actor (deed k d.actor)) (store_by s d.actor (deed k d.actor)) =
    effect_same k p d.actor c regs store stirs (deed k d.actor) looks
    (λ n w has. beside_both k p q a b c regs store stirs n w (acting s d) e h turns (ap (words_by s d.actor) deeds ∙ has)) in record {
      twin = acting s d;
      turns = turns;
      effect = ap (effect s d.actor) deeds ∙ columns
          ∙ ap₂ (λ (f : Effect) (x : Deed). with_store f (store_by s d.actor x)) (sym (ap (λ (u : Turning). u.effect) is)) (sym deeds);
      charge = sym (ap (λ (u : Turning). u.charge) is);
      memory = λ m.
          ap (λ (x : Deed). memory_with m (store_by s d.actor x)) deeds
          ∙ stores_same k p d.actor c regs store stirs (deed k d.actor) m looks
          ∙ sym (ap (λ (u : Turning). memory_with m u.effect.store) is);
    }
twin_of k p q a b c regs store stirs t e h (Passes w comes is event) =
    let s : KernelState = stepped_by k p c regs store stirs in record {
      twin = passing s w;
      turns = Passes w (passing_turn k p q c regs store stirs w h.other h.home comes) refl (event ∙ sym (passing_same_event k p q c regs store stirs w));
      effect = passing_same k p c regs store stirs w ∙ sym (ap (λ (u : Turning). with_store u.effect None) is);
      charge = sym (ap (λ (u : Turning). u.charge) is);
      memory = λ m. sym (ap (λ (u : Turning). memory_with m u.effect.store) is);
    }
