-- Each source of a scenario that was read is told of, by the laws of sources.
use Rattle.std.proofs.Common.{◌≡◌, ℕ, zero, suc, ◌+◌, ◌<◌, ◌^◌, List, [], ◌∷◌, ◌++◌, ap, sym, ◌∙◌, subst}
use Rattle.std.specs.Prelude.{length, map, slice_get, true, Some, None}
use Rattle.std.specs.List.{AllByRecursion}
use Rattle.std.proofs.lemmas.Option.{same_Some}
use Rattle.law_turns.proofs.Passes.{run_append}
use Rattle.nova_boot.specs.Boot.{scenario_of, source_of}
use Rattle.nova_gsi.specs.Counters.{IsBalanced, MakesSemaphore}
use Rattle.nova_gsi.specs.Firings.{alarms_from, alarms_of, fired, is_irq, moments_until, unrung}
use Rattle.nova_gsi.specs.Laws.{AreOfMoments}
use Rattle.nova_model.specs.Boot.{Scenario, boot}
use Rattle.nova_model.specs.Choice.{is_quiet}
use Rattle.nova_model.specs.Runs.{after, run, trace}
use Rattle.nova_model.specs.Semaphores.{semaphore_at}
use Rattle.nova_model.specs.State.{KernelState, Semaphore}
use Rattle.nova_model.specs.Times.{clock, due_on}
use Rattle.nova_model.specs.declared.event.Event.{Event}
use Rattle.nova_model.specs.declared.times.Alarm.{Alarm}
use Rattle.nova_model.specs.declared.times.AlarmState.{AlarmState}
use Rattle.nova_scenario.specs.Sound.{IsSound, IsSourceOf}
use Rattle.nova_scenario.specs.declared.scenario.Scenario.{Scenario as ScenarioText}
use Rattle.nova_scenario.specs.declared.source.SourceRow.{SourceRow}
use Rattle.nova_answers.specs.Sourced.{AreSourcesTold}

-- the laws of sources
pub record HasSourceLaws : Type 0 where
  pub alarms : (s : Scenario) → (boot s).times.alarms ≡ map unrung (alarms_of s)
  pub moments : (s : Scenario) (turns : List ℕ) (n : ℕ) (a : Alarm) → slice_get (alarms_of s) n ≡ Some a → a.cpu < s.cpus → AreOfMoments a n (trace (boot s) turns)
  pub until : (s : Scenario) (turns : List ℕ) (n : ℕ) (a : Alarm) → slice_get (alarms_of s) n ≡ Some a → a.cpu < s.cpus → due_on (run (boot s) turns).times a.cpu ≡ None →
      fired (trace (boot s) turns) n ≡ moments_until a (clock (run (boot s) turns).times a.cpu)
  pub quiet : (s : Scenario) (turns : List ℕ) (n : ℕ) (a : Alarm) → slice_get (alarms_of s) n ≡ Some a → a.cpu < s.cpus → is_quiet (run (boot s) turns) ≡ true →
      fired (trace (boot s) turns) n ≡ a.count
  pub statuses : (s : Scenario) (turns : List ℕ) (place : ℕ) (e : Event) → length turns < 2 ^ 32 → slice_get (trace (boot s) turns) place ≡ Some e → is_irq e.kind ≡ true → e.b ≡ 0
  pub counters : (k : KernelState) (turns : List ℕ) (sm : ℕ) (s : Semaphore) → semaphore_at k.semaphores sm ≡ Some s → IsBalanced k turns (run k turns) sm s.count
  pub made : (s : Scenario) (before later : List ℕ) (cpu sm count : ℕ) → MakesSemaphore (run (boot s) before) cpu sm count →
      IsBalanced (after (run (boot s) before) cpu) later (run (boot s) (before ++ cpu ∷ later)) sm count

-- an alarm of a boot state is that of a source, of a processor that is there
record IsOne (cpus : ℕ) (alarms : List Alarm) (n : ℕ) (a : AlarmState) : Type 0 where
  there : slice_get alarms n ≡ Some a.alarm
  cpu : a.alarm.cpu < cpus

one_of : (cpus sm : ℕ) (rows : List SourceRow) → AllByRecursion (IsSourceOf cpus) rows → (n : ℕ) (a : AlarmState) →
    slice_get (map unrung (alarms_from sm (map source_of rows))) n ≡ Some a → IsOne cpus (alarms_from sm (map source_of rows)) n a
one_of cpus sm [] all n a is = absurd cc
one_of cpus sm (row ∷ rows) all zero a is =
    let first : Alarm = record { cpu = row.cpu; sm = sm; first = row.first; period = row.period; count = row.count } in
    let same : unrung first ≡ a = same_Some (unrung first) a is in record {
      there = ap (λ (x : AlarmState). Some x.alarm) same;
      cpu = subst (λ (x : AlarmState). x.alarm.cpu < cpus) same all.0.cpu;
    }
one_of cpus sm (row ∷ rows) all (suc n) a is =
    let later = one_of cpus (sm + 1) rows all.1 n a is in record { there = later.there; cpu = later.cpu }

pub told : HasSourceLaws → (from : ScenarioText) → IsSound from → (turns : List ℕ) → length turns < 2 ^ 32 → AreSourcesTold (boot (scenario_of from)) turns
told laws from sound turns few = record {
  moments = λ n a is. let o = its n a is in laws.moments s turns n a.alarm o.there o.cpu;
  until = λ n a is. let o = its n a is in laws.until s turns n a.alarm o.there o.cpu;
  quiet = λ n a is. let o = its n a is in laws.quiet s turns n a.alarm o.there o.cpu;
  statuses = λ place e. laws.statuses s turns place e few;
  counters = λ before later sm semaphore all there.
      let last : run (run (boot s) before) later ≡ run (boot s) turns = sym (run_append (boot s) before later) ∙ ap (run (boot s)) all in
      subst (λ (l : KernelState). IsBalanced (run (boot s) before) later l sm semaphore.count) last (laws.counters (run (boot s) before) later sm semaphore there);
  made = λ before later cpu sm count all makes.
      subst (λ (order : List ℕ). IsBalanced (after (run (boot s) before) cpu) later (run (boot s) order) sm count) all (laws.made s before later cpu sm count makes);
}
  where
    s : Scenario
    s = scenario_of from

    its : (n : ℕ) (a : AlarmState) → slice_get (boot s).times.alarms n ≡ Some a → IsOne from.cpus (alarms_of s) n a
    its n a is = one_of from.cpus 3 from.sources sound.sources n a (sym (ap (λ (xs : List AlarmState). slice_get xs n) (laws.alarms s)) ∙ is)
