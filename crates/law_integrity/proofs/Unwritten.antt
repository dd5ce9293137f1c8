-- A frame that no context that acts may write stays.
use Rattle.std.proofs.Common.{◌≡◌, ℕ, List, [], ◌∷◌, ◌++◌, refl, sym, ◌∙◌, subst}
use Rattle.std.specs.Prelude.{slice_get}
use Rattle.nova_model.specs.Boot.{Scenario, boot}
use Rattle.nova_model.specs.Runs.{after, run}
use Rattle.nova_model.specs.State.{KernelState}
use Rattle.law_origins.proofs.Lists.{run_append}
use Rattle.law_integrity.specs.Unwritten.{IsUnwrittenFrame}
use Rattle.law_integrity.proofs.Authorised.{frames_of}

unwritten_after : (s : Scenario) (before : List ℕ) (turns : List ℕ) (frame : ℕ) → IsUnwrittenFrame (run (boot s) before) turns frame →
    slice_get (run (run (boot s) before) turns).memory.ram frame ≡ slice_get (run (boot s) before).memory.ram frame
unwritten_after s before [] frame none = refl
unwritten_after s before (cpu ∷ turns) frame none =
    let now = run (boot s) before in
    let next : run (boot s) (before ++ cpu ∷ []) ≡ after now cpu = run_append (boot s) before (cpu ∷ []) in
    let rest = unwritten_after s (before ++ cpu ∷ []) turns frame (subst (λ (k : KernelState). IsUnwrittenFrame k turns frame) (sym next) none.1) in
    subst (λ (k : KernelState). slice_get (run k turns).memory.ram frame ≡ slice_get k.memory.ram frame) next rest ∙ frames_of s before cpu frame none.0

pub unwritten_stays : (s : Scenario) (before turns : List ℕ) (frame : ℕ) → IsUnwrittenFrame (run (boot s) before) turns frame →
    slice_get (run (run (boot s) before) turns).memory.ram frame ≡ slice_get (run (boot s) before).memory.ram frame
unwritten_stays s before turns frame none = unwritten_after s before turns frame none
