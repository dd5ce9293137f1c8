-- What runs from a boot state leave.
use Rattle.std.proofs.Common.{◌≡◌, ⊎_elim, length, ℕ, List, ap, ap₂, sym, ◌∙◌, subst}
use Rattle.std.specs.Prelude.{IsTrue, IfOk, Result, Ok, Err, false}
use Rattle.nova_model.specs.State.{KernelState}
use Rattle.nova_model.specs.Boot.{Scenario, boot}
use Rattle.nova_model.specs.Choice.{is_quiet}
use Rattle.nova_model.specs.Runs.{run, trace, rounds}
use Rattle.nova_model.specs.declared.event.Event.{Event}
use Rattle.nova_model.specs.Runs.{IsFreeOfIdle}
use Rattle.law_turns.specs.Orders.{IsRunOut}
use Rattle.nova_order.specs.Blocks.{IsOrder, turns, is_within}
use Rattle.nova_order.specs.Text.{text_of}
use Rattle.nova_order.specs.declared.block.Block.{Block}
use Rattle.nova_order.proofs.BoundLemmas.{processors_of, turns_within}
use Rattle.nova_report.specs.Report.{report}
use Rattle.nova_boot.specs.Boot.{scenario_of}
pub use Rattle.nova_boot.proofs.Started.{boot_cpus}
use Rattle.nova_scenario.specs.declared.scenario.Scenario.{Scenario as ScenarioText}
use Rattle.nova_answers.specs.Prepared.{IsReportOf, IsTogether, IsAlone}
use Rattle.nova_finished.specs.Finished.{IsFinished}
use Rattle.nova_answers.specs.declared.exit.Exit.{Exit}
use Rattle.nova_answers.specs.declared.outcome.Outcome.{Outcome}
use Rattle.nova_finished.specs.declared.finished.Finished.{Finished}
use Rattle.nova_answers.proofs.Single.{one_order}

-- what is said of a finished run
says : (said : KernelState → List Event → List ℕ) (k : KernelState) (order : List ℕ) (most : ℕ) (f : Finished) (made : Outcome) → IsFinished k order most f →
    made.text.items ≡ said f.kernel.state f.trace.items → made.text.items ≡ said (run k order) (trace k order)
says said k order most f made finished text = text ∙ ap₂ (λ (s : KernelState) (events : List Event). said s events) finished.kernel finished.trace

ends : (k : KernelState) (order : List ℕ) (most : ℕ) (f : Finished) (made : Outcome) → IsFinished k order most f →
    made.is_complete ≡ is_quiet f.kernel.state → made.is_complete ≡ is_quiet (run k order)
ends k order most f made finished quiet = quiet ∙ ap is_quiet finished.kernel

order_reported : (k : KernelState) (blocks : List Block) (most : ℕ) (f : Finished) (made : Outcome) → IsFinished k (turns blocks) most f →
    made.text.items ≡ report f.kernel.state f.trace.items → made.is_complete ≡ is_quiet f.kernel.state →
    IsFreeOfIdle k (turns blocks) → IsTrue (is_within k.cpus most blocks) → IsReportOf report k (turns blocks) most made
order_reported k blocks most f made finished text quiet free within = record {
  no_idle = free;
  text = says report k (turns blocks) most f made finished text;
  quiet = ends k (turns blocks) most f made finished quiet;
  within = turns_within k.cpus most blocks within;
  processors = processors_of k.cpus most blocks within;
}

pub reported_from : (s : Scenario) (limit most : ℕ) (k : KernelState) (blocks : List Block) (f : Finished) (made : Outcome) → k ≡ boot s → most ≡ limit →
    IsFinished k (turns blocks) most f → made.text.items ≡ report f.kernel.state f.trace.items → made.is_complete ≡ is_quiet f.kernel.state →
    IsFreeOfIdle k (turns blocks) → IsTrue (is_within s.cpus limit blocks) → IsReportOf report (boot s) (turns blocks) limit made
reported_from s limit most k blocks f made begun same finished text quiet free within =
    order_reported (boot s) blocks limit f made
    (subst (λ (n : ℕ). IsFinished (boot s) (turns blocks) n f) same (subst (λ (x : KernelState). IsFinished x (turns blocks) most f) begun finished))
    text quiet
    (subst (λ (x : KernelState). IsFreeOfIdle x (turns blocks)) begun free)
    (subst (λ (n : ℕ). IsTrue (is_within n limit blocks)) (sym (boot_cpus s)) within)

-- A RUN WITH A THREAD FOR EACH PROCESSOR

pub finished_at : (s : Scenario) (limit most : ℕ) (k : KernelState) (f : Finished) → k ≡ boot s → most ≡ limit →
    IsFinished k (turns f.order.blocks) most f → IsFinished (boot s) (turns f.order.blocks) limit f
finished_at s limit most k f begun same finished = subst (λ (z : KernelState × ℕ). IsFinished z.0 (turns f.order.blocks) z.1 f) (λ i. (begun i, same i)) finished

pub out_at : (s : Scenario) (limit most : ℕ) (k : KernelState) (f : Finished) → k ≡ boot s → most ≡ limit →
    IsRunOut k most (turns f.order.blocks) → IsRunOut (boot s) limit (turns f.order.blocks)
out_at s limit most k f begun same out = subst (λ (z : KernelState × ℕ). IsRunOut z.0 z.1 (turns f.order.blocks)) (λ i. (begun i, same i)) out

pub out_reported : (said : KernelState → List Event → List ℕ) (k : KernelState) (order : List ℕ) (limit : ℕ) (f : Finished) (made : Outcome) →
    IsFinished k order limit f → IsRunOut k limit order → made.text.items ≡ said f.kernel.state f.trace.items → made.is_complete ≡ is_quiet f.kernel.state →
    IsReportOf said k order limit made
out_reported said k order limit f made finished out text quiet = record {
  no_idle = out.no_idle;
  text = says said k order limit f made finished text;
  quiet = ends k order limit f made finished quiet;
  within = out.within;
  processors = out.processors;
}

pub spent_of : (k : KernelState) (order : List ℕ) (limit : ℕ) (made : Outcome) → made.is_complete ≡ is_quiet (run k order) → IsRunOut k limit order →
    made.is_complete ≡ false → length order ≡ limit
spent_of k order limit made quiet out open_ = ⊎_elim (λ q. absurd (cc (open_, quiet, q))) (λ (e : length order ≡ limit). e) out.ended

pub together_from : (k : KernelState) (limit : ℕ) (f : Finished) (made : Outcome) → IsFinished k (turns f.order.blocks) limit f →
    IsRunOut k limit (turns f.order.blocks) → made.text.items ≡ report f.kernel.state f.trace.items → made.is_complete ≡ is_quiet f.kernel.state →
    IsOrder f.order.blocks → made.order.items ≡ text_of f.order.blocks → IsTogether k limit made
together_from k limit f made finished out text quiet order appended =
    let reported = out_reported report k (turns f.order.blocks) limit f made finished out text quiet in record {
      blocks = f.order.blocks;
      order = order;
      appended = appended;
      reported = reported;
      spent = spent_of k (turns f.order.blocks) limit made reported.quiet out;
    }

-- its order is round robin where there is one processor
module _ (from : ScenarioText) (limit : ℕ) (r : Result Finished Exit) (alone : IsAlone from) where
  same_order : (f : Finished) → IsRunOut (boot (scenario_of from)) limit (turns f.order.blocks) → turns f.order.blocks ≡ rounds (boot (scenario_of from)) limit
  unfolding IsAlone
  same_order f out = one_order (boot (scenario_of from)) limit (turns f.order.blocks) (boot_cpus (scenario_of from) ∙ alone) out

pub alone_out : (from : ScenarioText) (limit : ℕ) (r : Result Finished Exit) → IsAlone from →
    IfOk r (λ f. IsRunOut (boot (scenario_of from)) limit (turns f.order.blocks)) →
    IfOk r (λ f. IsRunOut (boot (scenario_of from)) limit (rounds (boot (scenario_of from)) limit))
alone_out from limit (Ok f) alone out = subst (IsRunOut (boot (scenario_of from)) limit) (same_order from limit (Ok f) alone f out) out
alone_out from limit (Err e) alone out = tt

pub alone_finished : (from : ScenarioText) (limit : ℕ) (r : Result Finished Exit) → IsAlone from →
    IfOk r (λ f. IsFinished (boot (scenario_of from)) (turns f.order.blocks) limit f) →
    IfOk r (λ f. IsRunOut (boot (scenario_of from)) limit (turns f.order.blocks)) →
    IfOk r (λ f. IsFinished (boot (scenario_of from)) (rounds (boot (scenario_of from)) limit) limit f)
alone_finished from limit (Ok f) alone finished out =
    subst (λ (order : List ℕ). IsFinished (boot (scenario_of from)) order limit f) (same_order from limit (Ok f) alone f out) finished
alone_finished from limit (Err e) alone finished out = tt

-- ROUND ROBIN

rounds_finished_at : (s : Scenario) (limit most : ℕ) (k : KernelState) (f : Finished) → k ≡ boot s → most ≡ limit → IsFinished k (rounds k most) most f →
    IsFinished (boot s) (rounds (boot s) limit) limit f
rounds_finished_at s limit most k f begun same finished = subst (λ (z : KernelState × ℕ). IsFinished z.0 (rounds z.0 z.1) z.1 f) (λ i. (begun i, same i)) finished

pub rounds_from : (s : Scenario) (limit most : ℕ) (k : KernelState) (f : Finished) (made : Outcome) → k ≡ boot s → most ≡ limit → IsFinished k (rounds k most) most f →
    IsRunOut (boot s) limit (rounds (boot s) limit) → made.text.items ≡ report f.kernel.state f.trace.items → made.is_complete ≡ is_quiet f.kernel.state →
    IsReportOf report (boot s) (rounds (boot s) limit) limit made
rounds_from s limit most k f made begun same finished out text quiet =
    out_reported report (boot s) (rounds (boot s) limit) limit f made (rounds_finished_at s limit most k f begun same finished) out text quiet

pub rounds_spent : (s : Scenario) (limit most : ℕ) (k : KernelState) (f : Finished) (made : Outcome) → k ≡ boot s → most ≡ limit → IsFinished k (rounds k most) most f →
    IsRunOut (boot s) limit (rounds (boot s) limit) → made.is_complete ≡ is_quiet f.kernel.state → made.is_complete ≡ false → length (rounds (boot s) limit) ≡ limit
rounds_spent s limit most k f made begun same finished out quiet =
    spent_of (boot s) (rounds (boot s) limit) limit made (ends (boot s) (rounds (boot s) limit) limit f made (rounds_finished_at s limit most k f begun same finished) quiet) out
