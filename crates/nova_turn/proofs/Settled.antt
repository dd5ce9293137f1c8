-- Turns that were taken, and one that is refused memory, as a caller sees them.
use Rattle.std.proofs.Common.{◌≡◌, ℕ, ◌+◌, ◌≤◌, ap, ap₂, sym, ◌∙◌, arith}
use Rattle.std.specs.Prelude.{Option, Result, Ok, Err, IsErr, OnErr}
use Rattle.nova_model.specs.Deeds.{deed, sign_of}
use Rattle.nova_model.specs.Runs.{after}
use Rattle.nova_model.specs.State.{KernelState}
use Rattle.nova_model.specs.Turn.{answer_of, counted, turn}
use Rattle.nova_model.specs.declared.deed.Deed.{Deed}
use Rattle.nova_model.specs.declared.event.Event.{Event}
use Rattle.nova_model.specs.declared.event.EventKind.{EventKind}
use Rattle.nova_model.specs.declared.event.Turn.{Turn}
use Rattle.nova_model.specs.declared.event.Turn.TheVariants.{Stepped}
use Rattle.nova_choice.specs.Schedules.{AreQueued}
use Rattle.nova_choice.specs.declared.choice.Chosen.{Chosen}
use Rattle.nova_choice.proofs.Choosing.{turn_told}
use Rattle.nova_deeds.proofs.Moves.{queued_same}
use Rattle.nova_deeds.proofs.Passing.{queued_counted}
use Rattle.nova_deeds.proofs.Taken.{IsSettled, settled_state}
use Rattle.nova_sched.specs.Queues.{Schedule}
use Rattle.nova_turn.specs.Parts.{state_of, view_of}
use Rattle.nova_turn.specs.Views.{IsMaking, IsTurnTaken, KernelView}
use Rattle.nova_turn.specs.declared.parts.Parts.{Parts}

abbrev viewed : KernelState → ℕ → KernelView
viewed k n = record { state = k; room = n }

-- the same state with the same room
pub same_view : (p q : Parts) → state_of q ≡ state_of p → q.reach.room ≡ p.reach.room → view_of q ≡ view_of p
same_view p q state room = ap₂ viewed state room

-- what errors there are is nothing for a turn that was taken
pub taken_so : {E F : Type 0} (old new : KernelView) (cpu : ℕ) (t : Turn) → IsTurnTaken {E = F} old new cpu (Ok t) → IsTurnTaken {E = E} old new cpu (Ok t)
taken_so old new cpu t took = record {
  answer = took.answer;
  state = took.state;
  memory = tt;
  making = tt;
  room = took.room;
  idle = took.idle;
  counted = took.counted;
  cpus = took.cpus;
}

-- a turn that is not idle
pub stepped_turn : {E : Type 0} (p q : Parts) (cpu : ℕ) (e : Event) → Stepped e ≡ answer_of (turn (state_of p) cpu) → state_of q ≡ after (state_of p) cpu →
    p.reach.room ≤ q.reach.room + 1 → q.turns ≡ p.turns + 1 → q.cpus ≡ p.cpus → IsTurnTaken {E = E} (view_of p) (view_of q) cpu (Ok (Stepped e))
stepped_turn p q cpu e answer state room turns cpus = record {
  answer = answer;
  state = state;
  memory = tt;
  making = tt;
  room = room;
  idle = λ is. absurd cc;
  counted = turns;
  cpus = cpus;
}

-- the event of a chosen scheduling context's turn, by the sign of the deed
abbrev event_at : ℕ → Chosen → EventKind × ℕ × ℕ → Event
event_at cpu chosen sign = record { cpu = cpu; sc = chosen.sc; ec = chosen.actor; kind = sign.0; a = sign.1; b = sign.2 }

-- one in which a deed was done, what it stirs was counted, and the scheduling context paid
pub settled_turn : {E : Type 0} (p q : Parts) (mid : KernelState) (cpu : ℕ) (chosen : Chosen) (d : Deed) (written : Option ℕ) (sign : EventKind × ℕ × ℕ) (e : Event) →
    IsSettled (state_of p) mid (state_of q) cpu chosen d written → sign ≡ sign_of d →
    e ≡ record { cpu = cpu; sc = chosen.sc; ec = chosen.actor; kind = sign.0; a = sign.1; b = sign.2 } →
    p.reach.room ≤ q.reach.room + 1 → q.turns ≡ p.turns + 1 → q.cpus ≡ p.cpus → IsTurnTaken {E = E} (view_of p) (view_of q) cpu (Ok (Stepped e))
settled_turn p q mid cpu chosen d written sign e settled signed shown room turns cpus =
    let told = turn_told (state_of p) cpu chosen settled.none_due settled.told in
    let event : e ≡ event_at cpu chosen (sign_of d) = shown ∙ ap (event_at cpu chosen) signed in
    let own : event_at cpu chosen (sign_of d) ≡ event_at cpu chosen (sign_of (deed (state_of p) chosen.actor)) = ap (λ (x : Deed). event_at cpu chosen (sign_of x)) settled.decided in
    stepped_turn p q cpu e (ap Stepped (event ∙ own) ∙ sym (ap answer_of told)) (settled_state (state_of p) mid (state_of q) cpu chosen d written settled) room turns cpus

-- one that is refused memory leaves all as it was
pub refused_turn : {E : Type 0} (old new : KernelView) (cpu : ℕ) (r : Result Turn E) → IsErr r → new ≡ old → OnErr r (IsMaking old.state cpu) → IsTurnTaken old new cpu r
refused_turn old new cpu (Ok t) failed same making = absurd cc
refused_turn old new cpu (Err e) failed same making = record {
  answer = tt;
  state = tt;
  memory = same;
  making = making;
  room = let room = ap (λ (v : KernelView). v.room) same in omega (arith, room);
  idle = tt;
  counted = tt;
  cpus = ap (λ (v : KernelView). v.state.cpus) same;
}

-- nor is it, whoever tells of it
pub refused_so : {E F : Type 0} {e : F} (old new : KernelView) (cpu : ℕ) (r : Result Turn E) → IsErr r → IsTurnTaken {E = F} old new cpu (Err e) → IsTurnTaken old new cpu r
refused_so old new cpu (Ok t) failed refused = absurd cc
refused_so old new cpu (Err e) failed refused = record {
  answer = tt;
  state = tt;
  memory = refused.memory;
  making = refused.making;
  room = refused.room;
  idle = tt;
  counted = tt;
  cpus = refused.cpus;
}

-- who waits for a processor does so when the turn is counted
pub counted_waits : (k new : KernelState) (cpu : ℕ) (s queue : Schedule) → AreQueued k s → new ≡ counted k cpu → queue ≡ s → AreQueued new queue
counted_waits k new cpu s queue queued is same = queued_same (counted k cpu) new s queue (queued_counted k cpu s queued) is same
