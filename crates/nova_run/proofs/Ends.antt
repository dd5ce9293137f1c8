-- A run that goes on by passes until none takes a turn.
use Rattle.std.proofs.Common.{◌≡◌, inl, inr, ⊎_elim, ℕ, ◌<◌, List, length, ap, sym, ◌∙◌, subst, arith}
use Rattle.std.specs.List.{AllByRecursion}
use Rattle.std.proofs.lemmas.List.{length-append}
use Rattle.nova_model.specs.State.{KernelState}
use Rattle.nova_model.specs.Choice.{is_quiet}
use Rattle.nova_model.specs.Runs.{run, rounds, IsFreeOfIdle}
use Rattle.law_turns.specs.Orders.{IsRunOut}
use Rattle.law_turns.proofs.Passes.{free_append, rounds_run_out, run_append}
use Rattle.law_turns.proofs.Processors.{run_cpus}
use Rattle.nova_order.specs.Blocks.{turns}
use Rattle.nova_order.proofs.BlockLemmas.{length_turns}
use Rattle.nova_order.proofs.BoundLemmas.{all_append}
use Rattle.nova_finished.specs.Finished.{IsFinished}
use Rattle.nova_finished.specs.UnderWay.{IsReady, Passed, left}
use Rattle.nova_finished.specs.declared.finished.Finished.{Finished}
use Rattle.nova_finished.proofs.Passing.{Finished-on}

module _ (k : KernelState) (limit : ℕ) (f g : Finished) (begun : IsFinished k (turns f.order.blocks) limit f) (ready : IsReady f) (ran : Passed f (rounds f.kernel.state (left f)) g) where
  before : List ℕ
  before = turns f.order.blocks

  after : List ℕ
  after = rounds f.kernel.state (left f)

  -- what was there, and what the passes added
  pub finished_out : IsFinished k (turns g.order.blocks) limit g
  unfolding before after
  finished_out = subst (λ (l : List ℕ). IsFinished k l limit g) (sym ran.order) (Finished-on k before after limit f g begun ran)

  pub all_out : IsFreeOfIdle k (turns f.order.blocks) → AllByRecursion (λ cpu. cpu < k.cpus) (turns f.order.blocks) → IsRunOut k limit (turns g.order.blocks)
  unfolding before after
  all_out free there =
      let out : IsRunOut f.kernel.state (left f) after = rounds_run_out f.kernel.state (left f) in
      let cpus : f.kernel.state.cpus ≡ k.cpus = ap (λ (s : KernelState). s.cpus) begun.kernel ∙ run_cpus k before in
      let long : length before ≡ length f.trace.items = length_turns f.order.blocks ∙ ready.order in
      let within = ready.within in
      let most = begun.limit in
      let both = length-append before after in
      let few = out.within in
      subst (IsRunOut k limit) (sym ran.order) (record {
        no_idle = free_append k before after free (subst (λ (s : KernelState). IsFreeOfIdle s after) begun.kernel out.no_idle);
        processors = all_append (λ cpu. cpu < k.cpus) before after there (subst (λ (n : ℕ). AllByRecursion (λ cpu. cpu < n) after) cpus out.processors);
        within = omega arith;
        ended = ⊎_elim
            (λ quiet. inl (ap is_quiet (run_append k before after ∙ ap (λ (s : KernelState). run s after) (sym begun.kernel)) ∙ quiet))
            (λ spent. inr (omega arith))
            out.ended;
      })
