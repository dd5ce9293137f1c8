-- Runs along an order, block by block.
use Rattle.std.proofs.Common.{◌≡◌, ℕ, ◌+◌, ◌≤◌, ◌<◌, List, [], ◌∷◌, ◌++◌, length, take, replicate, ap, sym, ◌∙◌, subst, arith, slice_index_or, refl}
use Rattle.std.specs.Prelude.{false, is_some, IsTrue}
use Rattle.nova_model.specs.State.{KernelState}
use Rattle.nova_model.specs.Turn.{turn}
use Rattle.law_turns.proofs.Processors.{run_cpus}
use Rattle.nova_order.specs.Blocks.{turns, total, is_within}
use Rattle.nova_order.specs.declared.block.Block.{Block}
use Rattle.nova_order.proofs.BlockLemmas.{turns_push, length_turns}
use Rattle.nova_order.proofs.BoundLemmas.{cpus_within, total_within}
use Rattle.nova_order.proofs.PlaceLemmas.{fits_at, more_at, there_at}
use Rattle.law_turns.proofs.Passes.{free_append}
use Rattle.nova_model.specs.Runs.{IsFreeOfIdle}
use Rattle.nova_finished.specs.Finished.{IsFinished, IsIdleLine}
use Rattle.nova_finished.specs.UnderWay.{IsGone, IsReady}
use Rattle.nova_rounds.specs.UnderWay.{IsAlong, IsBegun}
use Rattle.nova_finished.specs.declared.finished.Finished.{Finished}
use Rattle.nova_finished.proofs.Idle.{line_idle, turn_idle}
use Rattle.nova_finished.proofs.Passing.{Finished-on}

-- the turns of a block more
block_on : (k : KernelState) (most may : ℕ) (b c : Finished) (blocks : List Block) (block : Block) → IsAlong k most b blocks → IsGone b block.cpu may block.count c →
    IsAlong k most c (blocks ++ block ∷ [])
block_on k most may b c blocks block along gone =
    let list = replicate block.count block.cpu in
    let whole = turns_push blocks block in
    record {
      finished = subst (λ (l : List ℕ). IsFinished k l most c) (sym whole) (Finished-on k (turns blocks) list most b c along.finished gone.passed);
      ready = gone.passed.ready;
      free = subst (IsFreeOfIdle k) (sym whole) (free_append k (turns blocks) list along.free (subst (λ (s : KernelState). IsFreeOfIdle s list) along.finished.kernel gone.no_idle));
    }

-- an order that begins
pub along_first : (k : KernelState) (most : ℕ) (f : Finished) → IsFinished k [] most f → IsReady f → IsAlong k most f []
unfolding turns
along_first k most f begun ready = record { finished = begun; ready = ready; free = tt }

-- a run that begins, told by the state in which it is
pub begun_here : (k : KernelState) (most : ℕ) (f : Finished) → IsFinished k [] most f → IsReady f → IsBegun f
begun_here k most f begun ready = record {
  finished = record { opening = begun.opening ∙ sym begun.kernel; kernel = refl; order = begun.order; trace = begun.trace; limit = refl };
  ready = ready;
}

pub along_here : (k : KernelState) (most : ℕ) (f new : Finished) (blocks : List Block) → IsFinished k [] most f → IsAlong f.kernel.state f.limit new blocks → IsAlong k most new blocks
along_here k most f new blocks begun along =
    subst (λ (m : ℕ). IsAlong k m new blocks) begun.limit (subst (λ (s : KernelState). IsAlong s f.limit new blocks) begun.kernel along)

pub idle_here : (k : KernelState) (most : ℕ) (f : Finished) (blocks : List Block) (line : ℕ) → IsFinished k [] most f → IsIdleLine f.kernel.state blocks line → IsIdleLine k blocks line
idle_here k most f blocks line begun idle = subst (λ (s : KernelState). IsIdleLine s blocks line) begun.kernel idle

-- the block at a place of an order
module _ (blocks : List Block) (i : ℕ) (d : Block) (less : i < length blocks) (k : KernelState) (most : ℕ) (f g : Finished) (along : IsAlong k most f (take i blocks)) where
  abbrev block_at : Block
  block_at = slice_index_or blocks i d

  pub next_there : IsTrue (is_within k.cpus most blocks) → block_at.cpu < f.kernel.state.cpus
  next_there within =
      let cpus = ap (λ (s : KernelState). s.cpus) along.finished.kernel ∙ run_cpus k (turns (take i blocks)) in
      let there = there_at blocks i d less k.cpus (cpus_within k.cpus most blocks within) in
      omega arith

  pub next_fits : (c : ℕ) → total blocks ≤ c → length f.trace.items + block_at.count ≤ c
  next_fits c few =
      let so_far = along.ready.order in
      let taken_ = length_turns f.order.blocks in
      let wanted = length_turns (take i blocks) in
      let same = ap length along.finished.order in
      let fits = fits_at blocks i d less in
      omega arith

  pub next_within : IsTrue (is_within k.cpus most blocks) → length f.trace.items + block_at.count ≤ f.limit
  next_within within = let most_ = along.finished.limit in let fits = next_fits most (total_within k.cpus most blocks within) in omega arith

  module _ (n : ℕ) (gone : IsGone f block_at.cpu block_at.count n g) where
    pub next_on : block_at.count ≤ n → IsAlong k most g (take (i + 1) blocks)
    next_on all =
        let same : n ≡ block_at.count = let few = gone.few in omega arith in
        subst (IsAlong k most g) (sym (more_at blocks i d less))
        (block_on k most block_at.count f g (take i blocks) block_at along (subst (λ (m : ℕ). IsGone f block_at.cpu block_at.count m g) same gone))

    pub next_idle : (line : ℕ) → n < block_at.count → is_some (turn g.kernel.state block_at.cpu) ≡ false → line ≡ i + 1 → IsIdleLine k blocks line
    next_idle line fewer idle number =
        line_idle blocks i d less k f.kernel.state line along.finished.kernel along.free
        (turn_idle f.kernel.state g.kernel.state block_at.cpu n block_at.count fewer gone.passed.kernel idle) number
