-- What is answered, by what came and what was told.
use Rattle.std.proofs.Common.{◌≡◌, ℕ, List, inl, inr, Result, Ok, Err, subst, sym}
use Rattle.nova_scenario.specs.declared.scenario.Scenario.{Scenario as ScenarioText}
use Rattle.nova_explore.specs.Came.{IsScenarioFault}
use Rattle.nova_explore.specs.Exit.{of_scenario}
use Rattle.nova_explore.specs.Main.{IsAnswer, IsExplored, IsFault, IsPrepared, IsSent, IsToldOf}
use Rattle.nova_io.specs.Outside.{Depots, Sinks}
use Rattle.nova_loading.specs.Came.{IsScenarioLoaded, ScenarioCame}
use Rattle.nova_loading.specs.declared.unread.ScenarioUnread.{ScenarioUnread}
use Rattle.nova_loading.specs.declared.unread.ScenarioUnread.TheVariants as text
use Rattle.nova_explore.specs.declared.exit.Exit.{Exit}
use Rattle.nova_explore.specs.declared.exit.Exit.TheVariants as exit
use Rattle.nova_explore.specs.declared.request.Request.{Request}
use Rattle.nova_explore.specs.declared.told.Told.{Told}
use Rattle.nova_explore.specs.declared.verdict.Verdict.{Verdict}

module _ {D : Type 0} (d : Depots D) (q : Request) (old new : D) where
  -- the scenario isn't loaded
  no_scenario : (u : ScenarioUnread) → IsScenarioLoaded d q.scenario old new (Err u) → IsScenarioFault d q.scenario old new (of_scenario u)
  no_scenario text.Failed is = is
  no_scenario text.TooLong is = is
  no_scenario (text.Refused line why) is = is
  no_scenario text.Memory is = is

  pub unread : (name : List ℕ) (u : ScenarioUnread) (r : Result Told Exit) → name ≡ q.scenario → r ≡ Err (of_scenario u) → IsScenarioLoaded d name old new (Err u) → IsPrepared d q old new r
  unread name u r named is fault =
      subst (IsPrepared d q old new) (sym is) (inl (no_scenario u (subst (λ (n : List ℕ). IsScenarioLoaded d n old new (Err u)) named fault)))

  -- it came, and this was answered
  told : (from : ScenarioText) (r : Result Told Exit) → ScenarioCame d q.scenario old from new → IsExplored from q r → IsPrepared d q old new r
  told from (Ok t) came is = record { from = from; came = came; told = is }
  told from (Err e) came is = inr (record { from = from; came = came; fault = is })

  pub explored : (name : List ℕ) (from : ScenarioText) (r : Result Told Exit) → name ≡ q.scenario → ScenarioCame d name old from new → IsExplored from q r → IsPrepared d q old new r
  explored name from r named came is = told from r (subst (λ (n : List ℕ). ScenarioCame d n old from new) named came) is

module _ {D O : Type 0} (d : Depots D) (o : Sinks O) (q : Request) (old new : D) (before after : O) where
  no_fault : IsFault d q old new exit.WriteFault → ⊥
  no_fault (inl is) = is
  no_fault (inr is) = is.fault

  no_told_fault : (verdict : Verdict) → IsFault d q old new (exit.Told verdict) → ⊥
  no_told_fault verdict (inl is) = is
  no_told_fault verdict (inr is) = is.fault

  -- a fault is the answer
  pub faulty : (e : Exit) → IsFault d q old new e → IsAnswer d o q e old new before after
  faulty (exit.Told verdict) is = absurd (no_told_fault verdict is)
  faulty exit.WriteFault is = absurd (no_fault is)
  faulty exit.Usage is = is
  faulty exit.ReadFault is = is
  faulty exit.TooLong is = is
  faulty (exit.Scenario line why) is = is
  faulty exit.Absent is = is
  faulty exit.Memory is = is

  -- what was told was sent
  pub sent : (t : Told) (e : Exit) → IsToldOf d q old new t.verdict t.text.items → IsSent o t e before after → IsAnswer d o q e old new before after
  sent t (exit.Told verdict) told (same, out) =
      record { text = t.text.items; told = subst (λ (v : Verdict). IsToldOf d q old new v t.text.items) (sym same) told; out = out }
  sent t exit.WriteFault told out = record { verdict = t.verdict; text = t.text.items; told = told; out = out }
  sent t exit.Usage told out = absurd out
  sent t exit.ReadFault told out = absurd out
  sent t exit.TooLong told out = absurd out
  sent t (exit.Scenario line why) told out = absurd out
  sent t exit.Absent told out = absurd out
  sent t exit.Memory told out = absurd out
