-- Turns one after another.
use Rattle.std.proofs.Common.{◌≡◌, ℕ, List, [], ◌∷◌, ◌++◌, refl, ap, ap₂, sym, ◌∙◌, arith, append_assoc}
use Rattle.std.specs.Prelude.{Option, Some, None, option_map}
use Rattle.std.proofs.lemmas.List.{length-append}
use Rattle.nova_kernel.specs.Views.{KernelView}
use Rattle.nova_model.specs.State.{KernelState}
use Rattle.nova_model.specs.Choice.{in_front}
use Rattle.nova_model.specs.Turn.{turn, Step}
use Rattle.nova_model.specs.Runs.{after, run, trace}
use Rattle.nova_model.specs.declared.event.Event.{Event}
use Rattle.law_turns.proofs.Passes.{run_append}
use Rattle.nova_order.specs.Blocks.{turns}
use Rattle.nova_finished.specs.Finished.{IsFinished}
use Rattle.nova_finished.specs.UnderWay.{Passed}
use Rattle.nova_finished.specs.declared.finished.Finished.{Finished}

in_front-append : {T : Type 0} → (o : Option T) (xs ys : List T) → in_front o (xs ++ ys) ≡ in_front o xs ++ ys
in_front-append None xs ys = refl
in_front-append (Some x) xs ys = refl

pub trace-append : (k : KernelState) (xs ys : List ℕ) → trace k (xs ++ ys) ≡ trace k xs ++ trace (run k xs) ys
trace-append k [] ys = refl
trace-append k (x ∷ xs) ys =
    ap (in_front (option_map (λ (s : Step). s.event) (turn k x))) (trace-append (after k x) xs ys)
    ∙ in_front-append (option_map (λ (s : Step). s.event) (turn k x)) (trace (after k x) xs) (trace (run (after k x) xs) ys)

module _ (k : KernelState) (xs ys : List ℕ) where
  -- the state and the events after more turns
  pub run_on : (s t : KernelState) → s ≡ run k xs → t ≡ run s ys → t ≡ run k (xs ++ ys)
  run_on s t first then_ = then_ ∙ ap (λ (x : KernelState). run x ys) first ∙ sym (run_append k xs ys)

  pub trace_on : (s : KernelState) (before t u : List Event) → s ≡ run k xs → t ≡ before ++ trace k xs → u ≡ t ++ trace s ys → u ≡ before ++ trace k (xs ++ ys)
  trace_on s before t u first events then_ =
      then_ ∙ ap₂ (λ (l m : List Event). l ++ m) events (ap (λ (x : KernelState). trace x ys) first)
      ∙ append_assoc before (trace k xs) (trace (run k xs) ys) ∙ ap (λ (l : List Event). before ++ l) (sym (trace-append k xs ys))

-- one part of a run after another
pub Passed-through : (a b c : Finished) (xs ys : List ℕ) → Passed a xs b → Passed b ys c → Passed a (xs ++ ys) c
Passed-through a b c xs ys p q = record {
  opening = q.opening ∙ p.opening;
  kernel = run_on a.kernel.state xs ys b.kernel.state c.kernel.state p.kernel q.kernel;
  order = q.order ∙ ap (λ (l : List ℕ). l ++ ys) p.order ∙ append_assoc (turns a.order.blocks) xs ys;
  trace = trace_on a.kernel.state xs ys b.kernel.state a.trace.items b.trace.items c.trace.items p.kernel p.trace q.trace;
  count = let e = p.count in let f = q.count in omega (arith, length-append xs ys);
  limit = q.limit ∙ p.limit;
  cpus = q.cpus ∙ p.cpus;
  ready = q.ready;
}

-- a run that goes on
pub Finished-on : (k : KernelState) (xs ys : List ℕ) (most : ℕ) (b c : Finished) → IsFinished k xs most b → Passed b ys c → IsFinished k (xs ++ ys) most c
Finished-on k xs ys most b c f p = record {
  opening = ap (λ (v : KernelView). v.state) p.opening ∙ f.opening;
  kernel = run_on k xs ys b.kernel.state c.kernel.state f.kernel p.kernel;
  order = p.order ∙ ap (λ (l : List ℕ). l ++ ys) f.order;
  trace = trace_on k xs ys b.kernel.state [] b.trace.items c.trace.items f.kernel f.trace p.trace;
  limit = p.limit ∙ f.limit;
}

-- a run that has taken no turn
pub Finished-none : (k : KernelState) (f : Finished) → f.opening.state ≡ k → f.kernel.state ≡ k → f.order.blocks ≡ [] → f.trace.items ≡ [] → IsFinished k [] f.limit f
unfolding turns
Finished-none k f opening kernel blocks events = record {
  opening = opening;
  kernel = kernel;
  order = ap turns blocks;
  trace = events;
  limit = refl;
}
