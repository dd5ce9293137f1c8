use Rattle.std.proofs.Common.{◌≡◌, ℕ, ◌<◌, ◌^◌, Result, Ok, Err, ap, sym, ◌∙◌, subst, arith}
use Rattle.nova_command.specs.Limit.{IsSize}
use Rattle.nova_gen.specs.Generated.{generated}
use Rattle.nova_scenario.specs.Fault.{At}
use Rattle.nova_scenario.specs.Read.{IsFault}
use Rattle.nova_scenario.specs.Scenario.{scenario}
use Rattle.nova_scenario.specs.declared.fault.ScenarioFault.{ScenarioFault}
use Rattle.nova_scenario.specs.declared.fault.ScenarioFault.TheVariants.{At as AtLine}
use Rattle.nova_scenario.specs.declared.fault.Why.{Why}
use Rattle.nova_scenario.specs.declared.scenario.Scenario.{Scenario}
use Rattle.nova_answers.specs.Prepared.{IsAlone}
use Rattle.nova_answers.proofs.Results.{same_ok}
use Rattle.nova_answers.proofs.bench.bench_scenario.Goals as goal

no_fault : (r : Result Scenario At) (from : Scenario) (fault : ScenarioFault) (line : ℕ) (why_ : Why) → r ≡ Ok from → IsFault r fault → fault ≡ AtLine line why_ → ⊥
no_fault r from fault line why_ good bad is = let wrong : r ≡ Err (record { line = line; why = why_ }) = subst (IsFault r) is bad in absurd (cc)

-- a size is a word, and one processor is alone
size_is_word : (number : ℕ) → IsSize number → number < 2 ^ 32
size_is_word number size = let most = size.1 in omega arith

one_is_alone : (from : Scenario) → from.cpus ≡ 1 → IsAlone from
unfolding IsAlone
one_is_alone from is = is

pub returns-in-Ok-clause-alone : goal.returns-in-Ok-clause-alone
returns-in-Ok-clause-alone c =
    let law = c.a_bench_is_a_scenario.ensures c.args.number (size_is_word c.args.number c.requires.size) in
    let text = c.deref.ensures.value ∙ c.in_ok-text.ensures in
    let same = sym (same_ok (scenario (generated c.args.number)) law.0 c.in-Ok.scenario law.1 (ap scenario (sym text) ∙ c.in-Ok.ensures.exact)) in
    subst IsAlone same (one_is_alone law.0 law.2)

pub unreachable-requires : goal.unreachable-requires
unreachable-requires c =
    let law = c.a_bench_is_a_scenario.ensures c.args.number (size_is_word c.args.number c.requires.size) in
    let text = c.deref.ensures.value ∙ c.in_ok-text.ensures in
    no_fault (scenario c.deref.result.now) law.0 c.in-Err-At.field-0 c.in-Err-At.field-0-0 c.in-Err-At.field-0-1 (ap scenario text ∙ law.1) c.in-Err-At.ensures.exact c.in-Err-At.field-0-is
