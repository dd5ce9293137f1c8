-- Turns that are taken in one call.
use Rattle.std.proofs.Common.{◌≡◌, ◌+◌, ◌++◌, ◌≤◌, ◌∙◌, ℕ, List, [], ◌∷◌, ap, ap₂, sym, refl, arith}
use Rattle.std.proofs.lemmas.List.{replicate-append-replicate}
use Rattle.std.specs.Prelude.{Some, Result, Ok, Err, IfOk, OnErr, option_map, replicate}
use Rattle.law_turns.proofs.Passes.{run_append}
use Rattle.nova_model.specs.Choice.{in_front}
use Rattle.nova_model.specs.Runs.{after, run, trace}
use Rattle.nova_model.specs.State.{KernelState}
use Rattle.nova_model.specs.Turn.{Step, turn}
use Rattle.nova_model.specs.declared.event.Event.{Event}
use Rattle.nova_model.specs.declared.event.Turn.{Turn}
use Rattle.nova_model.specs.declared.event.Turn.TheVariants.{Stepped, Idle}
use Rattle.law_leases.proofs.Riding.{in_front_append}
use Rattle.nova_kernel.specs.Rides.{after_turns, last_turns}
use Rattle.nova_kernel.specs.Views.{KernelView, turns_taken}

-- the room that a turn leaves, and how many turns were taken with it
pub last_room : {E : Type 0} → (old new : KernelView) (r : Result Turn E) → old.room ≤ new.room + 1 → IfOk r (λ t. t ≡ Idle → new ≡ old) → OnErr r (new ≡ old) → old.room ≤ new.room + last_turns (Some r)
last_room old new (Ok Idle) most idle refused = let same = ap (λ (v : KernelView). v.room) (idle refl) in omega (arith, same)
last_room old new (Ok (Stepped e)) most idle refused = most
last_room old new (Err e) most idle refused = let same = ap (λ (v : KernelView). v.room) refused in omega (arith, same)

pub last_counted : {E : Type 0} → (old new : KernelView) (r : Result Turn E) → IfOk r (λ t. new.state.turns ≡ old.state.turns + turns_taken t) → OnErr r (new ≡ old) →
    new.state.turns ≡ old.state.turns + last_turns (Some r)
last_counted old new (Ok t) counted refused = counted
last_counted old new (Err e) counted refused = let same = ap (λ (v : KernelView). v.state.turns) refused in omega (arith, same)

-- SEVERAL TURNS, AND SEVERAL MORE

pub turns_more : (n m : ℕ) (k : KernelState) (cpu : ℕ) → after_turns k cpu (n + m) ≡ after_turns (after_turns k cpu n) cpu m
turns_more n m k cpu = ap (run k) (sym (replicate-append-replicate n m cpu)) ∙ run_append k (replicate n cpu) (replicate m cpu)

trace_append : (k : KernelState) (xs ys : List ℕ) → trace k (xs ++ ys) ≡ trace k xs ++ trace (run k xs) ys
trace_append k [] ys = refl
trace_append k (cpu ∷ xs) ys =
    ap (in_front (option_map (λ (s : Step). s.event) (turn k cpu))) (trace_append (after k cpu) xs ys)
    ∙ in_front_append (option_map (λ (s : Step). s.event) (turn k cpu)) (trace (after k cpu) xs) (trace (run (after k cpu) xs) ys)

pub trace_more : (n m : ℕ) (k : KernelState) (cpu : ℕ) (e : Event) → trace k (replicate n cpu) ≡ replicate n e → trace (after_turns k cpu n) (replicate m cpu) ≡ replicate m e →
    trace k (replicate (n + m) cpu) ≡ replicate (n + m) e
trace_more n m k cpu e first more =
    ap (trace k) (sym (replicate-append-replicate n m cpu)) ∙ trace_append k (replicate n cpu) (replicate m cpu) ∙ ap₂ (λ (xs ys : List Event). xs ++ ys) first more
    ∙ replicate-append-replicate n m e
