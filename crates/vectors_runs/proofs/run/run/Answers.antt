use Rattle.std.proofs.Common.{◌≡◌, ℕ, suc, ◌+◌, ◌-◌, List, Some, None, sym, ◌∙◌, ap₂, refl, arith}
use Rattle.rv_model.specs.Registers.{Registers}
use Rattle.rv_model.specs.Step.{Once, Raised, Went, one}
use Rattle.rv_core.specs.Steps.{Follows}
use Rattle.rv_core.specs.declared.outcome.Outcome.{Outcome}
use Rattle.rv_core.specs.declared.outcome.Outcome.TheVariants.{Next}
use Rattle.vectors_runs.specs.Memory.{space, stored}
use Rattle.vectors_runs.specs.Run.{End, ended, run}
use Rattle.vectors_runs.proofs.run.run.Goals as goal

-- after an instruction that doesn't raise the rest of the run follows
goes_on : (o : Once) (r r' : Registers) (bytes bytes' : List ℕ) (rest : Registers → List ℕ → End) → Follows stored o r bytes Next r' bytes' → ended o r bytes rest ≡ rest r' bytes'
goes_on (Raised reason q0 q1) r r' bytes bytes' rest follows = absurd (cc follows.0)
goes_on (Went next None) r r' bytes bytes' rest follows = ap₂ rest (sym follows.1) (sym follows.2)
goes_on (Went next (Some store)) r r' bytes bytes' rest follows = ap₂ rest (sym follows.1) (sym follows.2)

-- a raise ends it
ends : (o : Once) (outcome : Outcome) (r r' : Registers) (bytes bytes' : List ℕ) (rest : Registers → List ℕ → End) → ¬ (outcome ≡ Next) → Follows stored o r bytes outcome r' bytes' → record { outcome = outcome; registers = r'; bytes = bytes' } ≡ ended o r bytes rest
ends (Raised reason q0 q1) outcome r r' bytes bytes' rest not_next follows = cc (follows.0, follows.1, follows.2)
ends (Went next None) outcome r r' bytes bytes' rest not_next follows = absurd (not_next follows.0)
ends (Went next (Some store)) outcome r r' bytes bytes' rest not_next follows = absurd (not_next follows.0)

-- one step more
step_on : (left n : ℕ) (r : Registers) (bytes : List ℕ) → left ≡ suc n → run left r bytes ≡ ended (one r (space bytes)) r bytes (run n)
unfolding run
step_on left n r bytes e = rw e refl

-- where no steps are left, nothing follows
none_left : (left : ℕ) (r : Registers) (bytes : List ℕ) → left ≡ 0 → record { outcome = Next; registers = r; bytes = bytes } ≡ run left r bytes
unfolding run
none_left left r bytes e = rw e refl

pub returns-in_default : goal.returns-in_default
returns-in_default c =
    let l = c.loop-step in
    let left = c.args.steps - l._step in
    let first = step_on left (left - 1) l.regs l.memory (omega arith) in
    ends (one l.regs (space l.memory)) c.step.result l.regs c.step.new.regs l.memory c.step.new.bus (run (left - 1)) c.in_default.not-Next c.step.ensures ∙ sym first ∙ l.invariant

pub loop-step-preserved : goal.loop-step-preserved
loop-step-preserved c =
    let l = c.loop-step in
    let left = c.args.steps - l._step in
    let rest = c.args.steps - (l._step + 1) in
    let first = step_on left rest l.regs l.memory (omega arith) in
    sym (goes_on (one l.regs (space l.memory)) l.regs c.step.new.regs l.memory c.step.new.bus (run rest) c.in-Next.ensures) ∙ sym first ∙ l.invariant

pub returns : goal.returns
returns c = none_left (c.args.steps - c.loop-step._step) c.loop-step.regs c.loop-step.memory (omega arith) ∙ c.loop-step.invariant
