-- Turns of a run that is shared.
use Rattle.std.proofs.Common.{◌≡◌, ◌≢◌, ℕ, ◌+◌, ◌-◌, ◌<◌, ◌≤◌, List, [], ◌∷◌, ◌++◌, length, refl, ap, ap₂, sym, ◌∙◌, subst, arith}
use Rattle.std.specs.Prelude.{replicate, Bool, true, false, is_some, None, if◌then◌else◌, Option, Some}
use Rattle.std.proofs.lemmas.List.{append-nil, length-replicate}
use Rattle.nova_kernel.specs.Views.{KernelView, IsMaking}
use Rattle.nova_model.specs.State.{KernelState}
use Rattle.nova_model.specs.Turn.{turn, Step}
use Rattle.nova_model.specs.Runs.{IsFreeOfIdle, run, trace}
use Rattle.law_turns.proofs.Processors.{run_cpus}
use Rattle.nova_order.specs.Blocks.{turns}
use Rattle.nova_order.proofs.BlockLemmas.{length_turns}
use Rattle.law_turns.proofs.Passes.{free_append}
use Rattle.nova_finished.specs.Finished.{IsFinished}
use Rattle.nova_finished.specs.UnderWay.{HasRoom, IsReady, Passed, left, taken}
use Rattle.nova_shared.specs.Runs.{IsSharedRun}
use Rattle.nova_shared.specs.Told.{IsTold, IsRefused}
use Rattle.nova_finished.specs.declared.finished.Finished.{Finished}
use Rattle.nova_shared.specs.declared.shared_run.SharedTurn.TheVariants.{Stepped, Idle, AtLimit}
use Rattle.nova_finished.proofs.Passing.{run_on, trace_on}

-- a run that has taken no turn
pub shared_begun : (k : KernelState) (limit : ℕ) (f : Finished) → IsFinished k [] limit f → IsReady f → (limit ≤ f.order.spare) × (limit ≤ f.trace.capacity) → IsSharedRun f
shared_begun k limit f begun ready made = let most = begun.limit in record {
  kernel = begun.kernel ∙ ap₂ run (sym begun.opening) (sym begun.order);
  trace = begun.trace ∙ ap₂ trace (sym begun.opening) (sym begun.order);
  no_idle = subst (IsFreeOfIdle f.opening.state) (sym begun.order) tt;
  ready = ready;
  room = record { order = omega (arith, most, made.0); trace = omega (arith, most, made.1) };
}

-- the turn of a processor that is not idle is no idle one
pub free_taken : (k : KernelState) (cpu : ℕ) → IsFreeOfIdle k (taken k cpu)
free_taken k cpu = by_test (is_some (turn k cpu)) refl
  where
    by_test : (t : Bool) → is_some (turn k cpu) ≡ t → IsFreeOfIdle k (if t then cpu ∷ [] else [])
    by_test true there = (there, tt)
    by_test false there = tt

taken_some : (k : KernelState) (cpu : ℕ) → is_some (turn k cpu) ≡ true → taken k cpu ≡ cpu ∷ []
taken_some k cpu there = ap (λ (t : Bool). if t then cpu ∷ [] else []) there

taken_none : (k : KernelState) (cpu : ℕ) → is_some (turn k cpu) ≡ false → taken k cpu ≡ []
taken_none k cpu idle = ap (λ (t : Bool). if t then cpu ∷ [] else []) idle

none_there : (o : Option Step) → is_some o ≡ false → o ≡ None
none_there None h = refl
none_there (Some s) h = cc

module _ (f g : Finished) (cpu : ℕ) (was : IsSharedRun f) where
  k : KernelState
  k = f.opening.state

  xs : List ℕ
  xs = turns f.order.blocks

  -- as many turns as events
  pub long : length (turns f.order.blocks) ≡ length f.trace.items
  long = length_turns f.order.blocks ∙ was.ready.order

  -- more turns, none of which is idle
  pub shared_more : (ys : List ℕ) → IsFreeOfIdle f.kernel.state ys → Passed f ys g → HasRoom g → IsSharedRun g
  unfolding k xs
  shared_more ys free passed room =
      let all : IsFreeOfIdle k (xs ++ ys) = free_append k xs ys was.no_idle (subst (λ (s : KernelState). IsFreeOfIdle s ys) was.kernel free) in record {
        kernel = run_on k xs ys f.kernel.state g.kernel.state was.kernel passed.kernel ∙ ap₂ (λ (o : KernelView) (l : List ℕ). run o.state l) (sym passed.opening) (sym passed.order);
        trace = trace_on k xs ys f.kernel.state [] f.trace.items g.trace.items was.kernel was.trace passed.trace ∙ ap₂ (λ (o : KernelView) (l : List ℕ). trace o.state l) (sym passed.opening) (sym passed.order);
        no_idle = subst (λ (z : KernelView × List ℕ). IsFreeOfIdle z.0.state z.1) (λ i. (sym passed.opening i, sym passed.order i)) all;
        ready = passed.ready;
        room = room;
      }

  -- how many turns there are after `n` more
  pub seen_more : (m n : ℕ) → m ≡ length g.trace.items → Passed f (replicate n cpu) g → (m ≡ length (turns f.order.blocks) + n) × (m ≤ f.limit)
  seen_more m n is passed =
      let count = passed.count in let within = passed.ready.within in let limit = passed.limit in
      (omega (arith, is, count, length-replicate n cpu, long), omega (arith, is, within, limit))

  -- what is told of the kernel and of the turns that there may be is told of the run and of its order
  pub told_of : (P : KernelState → ℕ → Type 0) → P f.kernel.state (left f) → P (run f.opening.state (turns f.order.blocks)) (f.limit - length (turns f.order.blocks))
  told_of P told =
      let same : left f ≡ f.limit - length (turns f.order.blocks) = ap (λ (n : ℕ). f.limit - n) (sym long) in
      subst (λ (z : KernelState × ℕ). P z.0 z.1) (λ i. (was.kernel i, same i)) told

  module _ (passed : Passed f (taken f.kernel.state cpu) g) where
    -- a turn more, if there is one
    pub shared_on : HasRoom g → IsSharedRun g
    shared_on room = shared_more (taken f.kernel.state cpu) (free_taken f.kernel.state cpu) passed room

    -- the turn was taken
    pub told_stepped : (n : ℕ) → n ≡ length f.trace.items → is_some (turn f.kernel.state cpu) ≡ true → n ≢ f.limit
        → IsTold f.opening.state f.limit cpu (turns f.order.blocks) (turns g.order.blocks) (Stepped (n + 1))
    told_stepped n is there fewer = let within = was.ready.within in (
      passed.order ∙ ap (λ (l : List ℕ). turns f.order.blocks ++ l) (taken_some f.kernel.state cpu there),
      omega (arith, long, is),
      omega (arith, fewer, is, within),
      ap (λ (s : KernelState). is_some (turn s cpu)) (sym was.kernel) ∙ there,
    )

    -- the processor is idle
    pub told_idle : (n : ℕ) → n ≡ length f.trace.items → is_some (turn f.kernel.state cpu) ≡ false → n ≢ f.limit
        → IsTold f.opening.state f.limit cpu (turns f.order.blocks) (turns g.order.blocks) (Idle n)
    told_idle n is idle fewer = let within = was.ready.within in (
      passed.order ∙ ap (λ (l : List ℕ). turns f.order.blocks ++ l) (taken_none f.kernel.state cpu idle) ∙ append-nil (turns f.order.blocks),
      is ∙ sym long,
      omega (arith, fewer, is, within),
      none_there _ (ap (λ (s : KernelState). is_some (turn s cpu)) (sym was.kernel) ∙ idle),
    )

  -- there are as many turns as there may be
  pub told_limit : (n : ℕ) → n ≡ length f.trace.items → n ≡ f.limit → IsTold f.opening.state f.limit cpu (turns f.order.blocks) (turns f.order.blocks) (AtLimit n)
  told_limit n is full = (refl, is ∙ sym long, full)

  -- memory was refused
  pub told_refused : g ≡ f → (n : ℕ) → n ≡ length f.trace.items → IsMaking f.kernel.state cpu → n ≢ f.limit
      → (n ≡ length (turns f.order.blocks)) × IsRefused f.opening.state f.limit cpu (turns f.order.blocks) (turns g.order.blocks)
  told_refused same n is making fewer = let within = was.ready.within in (
    is ∙ sym long,
    (ap (λ (h : Finished). turns h.order.blocks) same, omega (arith, long, fewer, is, within), subst (λ (s : KernelState). IsMaking s cpu) was.kernel making),
  )

  -- the processor is there
  pub there_on : cpu < f.opening.state.cpus → cpu < f.kernel.state.cpus
  there_on less = let same = ap (λ (s : KernelState). s.cpus) was.kernel ∙ run_cpus f.opening.state (turns f.order.blocks) in omega arith
