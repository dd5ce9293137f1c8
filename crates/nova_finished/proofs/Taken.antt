-- Turns that were taken in one call: plain steps, and a turn that may have come after them.
use Rattle.std.proofs.Common.{◌≡◌, ℕ, ◌+◌, ◌<◌, ◌≤◌, List, [], ◌∷◌, ◌++◌, length, replicate, refl, ap, ap₂, sym, ◌∙◌, subst, arith, append_assoc}
use Rattle.std.specs.Prelude.{true, is_some, Option, Some, None, option_map, Result, Ok, Err, IfSome, IfOk, OnOk, OnErr}
use Rattle.std.proofs.lemmas.List.{length-append, length-replicate, replicate-append-replicate}
use Rattle.law_leases.specs.Advances.{step_of}
use Rattle.law_turns.proofs.Passes.{free_append, run_append}
use Rattle.law_turns.proofs.Processors.{run_cpus}
use Rattle.nova_kernel.specs.Rides.{last_turns}
use Rattle.nova_kernel.specs.Views.{KernelView}
use Rattle.nova_model.specs.Choice.{choice, in_front}
use Rattle.nova_model.specs.Runs.{IsFreeOfIdle, after, run, trace}
use Rattle.nova_model.specs.State.{KernelState}
use Rattle.nova_model.specs.Turn.{Step, answer_of, state_after, turn}
use Rattle.nova_model.specs.declared.event.Event.{Event}
use Rattle.nova_model.specs.declared.event.Turn.{Turn}
use Rattle.nova_model.specs.declared.event.Turn.TheVariants.{Idle, Stepped}
use Rattle.nova_order.specs.Blocks.{turns, total}
use Rattle.nova_finished.specs.Steps.{ArePlainSteps, last_events, repeated}
use Rattle.nova_finished.specs.UnderWay.{IsGone, IsReady, Passed}
use Rattle.nova_finished.specs.declared.finished.Finished.{Finished}
use Rattle.nova_finished.proofs.Passing.{trace-append}
use Rattle.nova_finished.proofs.Stepping.{events, run_turns, steps_taken, told_steps}

-- ANY TURNS

-- turns that are not idle have an event each
trace_long : (k : KernelState) (xs : List ℕ) → IsFreeOfIdle k xs → length (trace k xs) ≡ length xs
trace_long k [] free = refl
trace_long k (x ∷ xs) free = by_turn (turn k x) free.0 (trace_long (after k x) xs free.1)
  where
    by_turn : (o : Option Step) → is_some o ≡ true → length (trace (after k x) xs) ≡ length xs
        → length (in_front (option_map (λ (s : Step). s.event) o) (trace (after k x) xs)) ≡ length (x ∷ xs)
    by_turn (Some s) there rest = omega (arith, rest)
    by_turn None there rest = absurd cc

-- a run that went on by turns of which none was idle
passed_by : (f g : Finished) (list : List ℕ) → IsReady f → IsFreeOfIdle f.kernel.state list → length f.trace.items + length list ≤ f.limit
    → g.opening ≡ f.opening → g.kernel.state ≡ run f.kernel.state list → f.kernel.room ≤ g.kernel.room + length list → g.limit ≡ f.limit
    → turns g.order.blocks ≡ turns f.order.blocks ++ list → total g.order.blocks ≡ total f.order.blocks + length list
    → g.trace.items ≡ f.trace.items ++ trace f.kernel.state list → Passed f list g
passed_by f g list ready free few opening state room limit order sum events =
    let many : length g.trace.items ≡ length f.trace.items + length list =
    ap length events ∙ length-append f.trace.items _ ∙ ap (λ (m : ℕ). length f.trace.items + m) (trace_long f.kernel.state list free) in
    let counted : g.kernel.state.turns ≡ f.kernel.state.turns + length list = ap (λ (s : KernelState). s.turns) state ∙ run_turns f.kernel.state list free in
    let log = ready.room in let turns_ = ready.turns in let placed = ready.order in record {
      opening = opening;
      kernel = state;
      order = order;
      trace = events;
      count = many;
      limit = limit;
      cpus = ap (λ (s : KernelState). s.cpus) state ∙ run_cpus f.kernel.state list;
      ready = record {
        within = omega arith;
        room = omega arith;
        turns = omega arith;
        order = omega arith;
      };
    }

-- THE TURN AFTER PLAIN STEPS

module _ {E : Type 0} (n : ℕ) where
  -- it is one turn at most, where there may be one more
  pub last_fits : (most : ℕ) (last : Option (Result Turn E)) → n ≤ most → IfSome last (λ l. n < most) → n + last_turns last ≤ most
  last_fits most None few fewer = omega (arith, few)
  last_fits most (Some (Err refused)) few fewer = omega (arith, few)
  last_fits most (Some (Ok Idle)) few fewer = omega (arith, few)
  last_fits most (Some (Ok (Stepped event))) few fewer = omega (arith, fewer)

-- what it leaves of a state
record IsLast {E : Type 0} (s : KernelState) (cpu : ℕ) (last : Option (Result Turn E)) (new : KernelState) : Type 0 where
  state : new ≡ run s (replicate (last_turns last) cpu)
  events : trace s (replicate (last_turns last) cpu) ≡ last_events last
  free : IsFreeOfIdle s (replicate (last_turns last) cpu)

module _ {E : Type 0} (s : KernelState) (cpu : ℕ) (new : KernelState) where
  answered : (o : Option Step) (t : Turn) → turn s cpu ≡ o → t ≡ answer_of o → new ≡ state_after s o → IsLast {E = E} s cpu (Some (Ok t)) new
  answered None Idle is answer state = record { state = state; events = refl; free = tt }
  answered (Some step) (Stepped e) is answer state = record {
    state = state ∙ sym (ap (state_after s) is);
    events =
        let same : step.event ≡ e = cc in
        ap (λ (o : Option Step). in_front (option_map (λ (s : Step). s.event) o) []) is ∙ ap (λ (x : Event). x ∷ []) same;
    free = (ap is_some is, tt);
  }
  answered None (Stepped e) is answer state = absurd cc
  answered (Some step) Idle is answer state = absurd cc

  came_last : (last : Option (Result Turn E)) → (last ≡ None → new ≡ s) → IfSome last (λ l. IfOk l (λ t. t ≡ answer_of (turn s cpu)))
      → IfSome last (λ l. OnOk l (new ≡ state_after s (turn s cpu))) → IfSome last (λ l. OnErr l (new ≡ s)) → IsLast s cpu last new
  came_last None alone answer state memory = record { state = alone refl; events = refl; free = tt }
  came_last (Some (Err refused)) alone answer state memory = record { state = memory; events = refl; free = tt }
  came_last (Some (Ok t)) alone answer state memory = answered (turn s cpu) t refl answer state

-- ALL OF THEM

-- turns that a kernel took in one call: `n` plain steps with this event, and this answer last
pub record AreTaken {E : Type 0} (k : KernelState) (cpu n : ℕ) (told : Option Event) (last : Option (Result Turn E)) (new : KernelState) : Type 0 where
  pub steps : ArePlainSteps (choice k cpu) cpu n (trace k (replicate n cpu))
  pub event : told ≡ option_map (step_of cpu) (choice k cpu)
  pub alone : last ≡ None → new ≡ run k (replicate n cpu)
  pub answer : IfSome last (λ l. IfOk l (λ t. t ≡ answer_of (turn (run k (replicate n cpu)) cpu)))
  pub state : IfSome last (λ l. OnOk l (new ≡ state_after (run k (replicate n cpu)) (turn (run k (replicate n cpu)) cpu)))
  pub memory : IfSome last (λ l. OnErr l (new ≡ run k (replicate n cpu)))

module _ {E : Type 0} (k : KernelState) (cpu n : ℕ) (event : Option Event) (last : Option (Result Turn E)) (new : KernelState) (took : AreTaken k cpu n event last new) where
  front : List ℕ
  front = replicate n cpu

  back : List ℕ
  back = replicate (last_turns last) cpu

  ended : IsLast (run k (replicate n cpu)) cpu last new
  ended = came_last (run k (replicate n cpu)) cpu new last took.alone took.answer took.state took.memory

  split : front ++ back ≡ replicate (n + last_turns last) cpu
  unfolding front back
  split = replicate-append-replicate n (last_turns last) cpu

  all_state : new ≡ run k (replicate (n + last_turns last) cpu)
  unfolding front back
  all_state = ended.state ∙ sym (run_append k front back) ∙ ap (run k) split

  all_events : trace k (replicate (n + last_turns last) cpu) ≡ repeated event n ++ last_events last
  unfolding front back
  all_events =
      sym (ap (trace k) split) ∙ trace-append k front back
      ∙ ap₂ (λ (xs ys : List Event). xs ++ ys) (events k cpu n took.steps ∙ ap (λ (o : Option Event). repeated o n) (sym took.event)) ended.events

  all_free : IsFreeOfIdle k (replicate (n + last_turns last) cpu)
  unfolding front back
  all_free = subst (IsFreeOfIdle k) split (free_append k front back (steps_taken k cpu n took.steps) ended.free)

module _ {E : Type 0} (f g : Finished) (cpu most n : ℕ) (event : Option Event) (last : Option (Result Turn E)) (v : KernelView)
    (ready : IsReady f) (more : length f.trace.items + most ≤ f.limit) (opening : g.opening ≡ f.opening) (kernel : g.kernel ≡ v) (limit : g.limit ≡ f.limit) where
  -- a run in which they were entered
  gone_so : AreTaken f.kernel.state cpu n event last v.state → n + last_turns last ≤ most → f.kernel.room ≤ v.room + (n + last_turns last)
      → turns g.order.blocks ≡ turns f.order.blocks ++ replicate (n + last_turns last) cpu → total g.order.blocks ≡ total f.order.blocks + (n + last_turns last)
      → g.trace.items ≡ (f.trace.items ++ repeated event n) ++ last_events last → IsGone f cpu most (n + last_turns last) g
  gone_so took few room order sum added =
      let list = replicate (n + last_turns last) cpu in
      let long : length list ≡ n + last_turns last = length-replicate (n + last_turns last) cpu in
      let free = all_free f.kernel.state cpu n event last v.state took in
      let state = ap (λ (w : KernelView). w.state) kernel ∙ all_state f.kernel.state cpu n event last v.state took in
      let place : g.kernel.room ≡ v.room = ap (λ (w : KernelView). w.room) kernel in
      let told = all_events f.kernel.state cpu n event last v.state took in
      record {
        few = few;
        passed = passed_by f g list ready free (omega arith) opening state (omega arith) limit order (omega arith)
            (added ∙ append_assoc f.trace.items (repeated event n) (last_events last) ∙ ap (λ (es : List Event). f.trace.items ++ es) (sym told));
        no_idle = free;
      }

  pub gone : AreTaken f.kernel.state cpu n event last v.state → (m : ℕ) → m ≡ n + last_turns last → n + last_turns last ≤ most → f.kernel.room ≤ v.room + (n + last_turns last)
      → turns g.order.blocks ≡ turns f.order.blocks ++ replicate m cpu → total g.order.blocks ≡ total f.order.blocks + m
      → g.trace.items ≡ (f.trace.items ++ repeated event n) ++ last_events last → IsGone f cpu most m g
  gone took m is few room order sum added =
      subst (λ (i : ℕ). IsGone f cpu most i g) (sym is)
      (gone_so took few room (order ∙ ap (λ (i : ℕ). turns f.order.blocks ++ replicate i cpu) is) (omega (arith, sum, is)) added)

  -- the same of what take_turns says
  pub gone_all : n ≤ most → IfSome last (λ l. n < most) → event ≡ option_map (step_of cpu) (choice f.kernel.state cpu) → (event ≡ None → n ≡ 0)
      → IfSome event (λ e. trace f.kernel.state (replicate n cpu) ≡ replicate n e) → (last ≡ None → v.state ≡ run f.kernel.state (replicate n cpu))
      → IfSome last (λ l. IfOk l (λ t. t ≡ answer_of (turn (run f.kernel.state (replicate n cpu)) cpu)))
      → IfSome last (λ l. OnOk l (v.state ≡ state_after (run f.kernel.state (replicate n cpu)) (turn (run f.kernel.state (replicate n cpu)) cpu)))
      → IfSome last (λ l. OnErr l (v.state ≡ run f.kernel.state (replicate n cpu))) → f.kernel.room ≤ v.room + (n + last_turns last)
      → (m : ℕ) → m ≡ n + last_turns last → turns g.order.blocks ≡ turns f.order.blocks ++ replicate m cpu → total g.order.blocks ≡ total f.order.blocks + m
      → g.trace.items ≡ (f.trace.items ++ repeated event n) ++ last_events last → IsGone f cpu most m g
  gone_all few fewer told none all alone answer state memory room m is order sum added =
      let steps = told_steps (choice f.kernel.state cpu) cpu n (trace f.kernel.state (replicate n cpu)) event told none all in
      gone (record { steps = steps; event = told; alone = alone; answer = answer; state = state; memory = memory }) m is (last_fits n most last few fewer) room order sum added
