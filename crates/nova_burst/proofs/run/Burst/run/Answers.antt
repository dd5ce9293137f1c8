use Rattle.std.proofs.Common.{rules, arith, ◌≡◌, ◌+◌, ◌^◌, ℕ, List, Some, subst, sym, ◌∙◌}
use Rattle.law_leases.specs.Leases.{lease_step}
use Rattle.nova_burst.specs.Copies.{HasFewStores, known_in, lease_of}
use Rattle.nova_burst.specs.declared.copies.Known.{Known}
use Rattle.nova_burst.proofs.Steps.{steps_more}
use Rattle.nova_burst.proofs.run.Burst.run.Goals as goal

pub loop-i-preserved : goal.loop-i-preserved
loop-i-preserved c =
    let old = c.args.self.now in
    let mid = c.loop-i.self.copies in
    let new = c.step.new.copies in
    let goes : lease_step (known_in mid.known) (lease_of c.loop-i.regs mid) ≡ Some (lease_of c.step.new.regs new) = search rules in
    let e : 2 ^ 32 + c.loop-i.i + 1 ≡ 2 ^ 32 + (c.loop-i.i + 1) = omega arith in
    record {
      ran = steps_more (known_in old.copies.known) c.loop-i.i (lease_of old.regs old.copies) (lease_of c.loop-i.regs mid) (lease_of c.step.new.regs new) c.loop-i.invariant.ran
          (subst (λ (known : List Known). lease_step (known_in known) (lease_of c.loop-i.regs mid) ≡ Some (lease_of c.step.new.regs new)) c.loop-i.invariant.known goes);
      known = c.step.ensures.known ∙ c.loop-i.invariant.known;
      stores = λ n few. let same : n + c.loop-i.i + 1 ≡ n + (c.loop-i.i + 1) = omega arith in
          subst (λ (m : ℕ). HasFewStores m new) same (c.step.ensures.few (n + c.loop-i.i) (c.loop-i.invariant.stores n few));
      few = subst (λ (n : ℕ). HasFewStores n new) e (c.step.ensures.few (2 ^ 32 + c.loop-i.i) c.loop-i.invariant.few);
    }

pub returns-then-not-step-clause-stores : goal.returns-then-not-step-clause-stores
returns-then-not-step-clause-stores c =
    let same : c.step.new.copies ≡ c.loop-i.self.copies = search rules in
    λ n few. subst (HasFewStores (n + c.loop-i.i)) (sym same) (c.loop-i.invariant.stores n few)

pub returns-clause-stores : goal.returns-clause-stores
returns-clause-stores c =
    let all : c.loop-i.i ≡ c.args.most = search rules in
    λ n few. subst (λ (m : ℕ). HasFewStores (n + m) c.loop-i.self.copies) all (c.loop-i.invariant.stores n few)
