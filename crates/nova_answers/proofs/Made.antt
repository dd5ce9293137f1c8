-- From what was read to what a command makes of it, or why it makes nothing.
use Rattle.std.proofs.Common.{◌≡◌, ℕ, ◌≤◌, List, [], length, inr, refl, sym, subst, arith}
use Rattle.std.specs.Prelude.{false, Some, None, Result, Ok, Err, IfOk, IfErr}
use Rattle.nova_model.specs.State.{KernelState}
use Rattle.nova_model.specs.Boot.{Scenario, boot}
use Rattle.nova_model.specs.Choice.{is_quiet}
use Rattle.law_turns.specs.Orders.{IsRunOut}
use Rattle.nova_finished.specs.Finished.{IsFinished}
use Rattle.nova_finished.specs.declared.finished.Finished.{Finished}
use Rattle.nova_model.specs.Forest.{IsForest}
use Rattle.nova_model.specs.Runs.{after, run, rounds}
use Rattle.nova_boot.specs.Boot.{scenario_of}
use Rattle.nova_command.specs.declared.command.Command.TheVariants.{Run, Solo, Bench}
use Rattle.nova_io.specs.Faults.{NeverFalls}
use Rattle.nova_order.specs.Blocks.{turns, BlockList}
use Rattle.nova_gen.specs.Generated.{generated}
use Rattle.nova_report.specs.Report.{report}
use Rattle.nova_report.specs.Summary.{summary}
use Rattle.nova_scenario.specs.Scenario.{scenario}
use Rattle.nova_scenario.specs.declared.scenario.Scenario.{Scenario as ScenarioText}
use Rattle.nova_scenario.proofs.SoundLemmas.{scenario_sound}
use Rattle.nova_answers.proofs.Sourced.{HasSourceLaws, told}
use Rattle.nova_answers.specs.Causes.{OrderRefused, TextRefused}
use Rattle.nova_io.specs.Outside.{Depots}
use Rattle.nova_guest.specs.declared.input.Input.{Input}
use Rattle.law_integrity.specs.Integrity.{IsAuthorised}
use Rattle.law_origins.specs.Lives.{AreGuestsAlone}
use Rattle.law_origins.specs.Reachable.{IsReachable}
use Rattle.law_origins.proofs.Reachable.{reached}
use Rattle.law_origins.specs.Whose.{HasRight, IsInputBy}
use Rattle.law_response.specs.Served.{ServesInRounds}
use Rattle.law_revocation.specs.Called.{HasEndedAsCalled}
use Rattle.nova_loading.specs.Came.{OrderCame, ScenarioCame}
use Rattle.nova_answers.specs.Runs.{IsReturned}
use Rattle.nova_answers.specs.Prepared.{IsOrderReadBy, IsReportOf, IsTogether, IsIdleFault, IsPrepared}
use Rattle.nova_answers.specs.declared.exit.Exit.{Exit}
use Rattle.nova_answers.specs.declared.exit.Exit.TheVariants as exit
use Rattle.nova_answers.specs.declared.exit.OrderWhy.{OrderWhy}
use Rattle.nova_answers.specs.declared.exit.OrderWhy.TheVariants as cause
use Rattle.nova_answers.specs.declared.outcome.Outcome.{Outcome}
use Rattle.nova_answers.proofs.Counts.{rose_in_all}
use Rattle.nova_answers.proofs.Reports.{boot_cpus, out_reported, spent_of}

-- the laws that a run is told by
pub record HasLaws (most : ℕ) : Type 0 where
  pub few : most ≤ 10000000
  pub forests : (s : Scenario) (turns : List ℕ) → IsForest (run (boot s) turns).delegations
  pub revokes : (s : Scenario) (before : List ℕ) (cpu ec : ℕ) → IsReturned (run (boot s) before) cpu ec → HasEndedAsCalled (boot s) before cpu ec
  pub guests : (s : Scenario) (turns : List ℕ) → AreGuestsAlone (boot s) turns
  pub rights : (k : KernelState) (cpu : ℕ) → IsReachable k → IsAuthorised k (after k cpu) cpu
  pub inputs : (s : Scenario) (turns : List ℕ) (cpu ec g : ℕ) (i : Input) → IsInputBy s turns cpu ec g i → HasRight (boot s) turns cpu ec g i
  pub sources : HasSourceLaws

-- the law on round robin
abbrev pub HasServed : Type 0
HasServed = (s : Scenario) (most : ℕ) → 1 ≤ s.root.quantum → ServesInRounds (boot s) most (rounds (boot s) most)

module _ {D : Type 0} (d : Depots D) where
  -- AN ORDER THAT WAS NOT READ, OR HAS AN IDLE TURN

  refused_text : (name : List ℕ) (k : KernelState) (cpus most line : ℕ) (w : OrderWhy) (old new : D) → k.cpus ≡ cpus →
      TextRefused d name cpus most line w old new → OrderRefused d name k most line w old new
  refused_text name k cpus most line cause.BadLine old new same h = subst (λ n. TextRefused d name n most line cause.BadLine old new) (sym same) h
  refused_text name k cpus most line cause.BadCpu old new same h = subst (λ n. TextRefused d name n most line cause.BadCpu old new) (sym same) h
  refused_text name k cpus most line cause.ZeroCount old new same h = subst (λ n. TextRefused d name n most line cause.ZeroCount old new) (sym same) h
  refused_text name k cpus most line cause.NotMerged old new same h = subst (λ n. TextRefused d name n most line cause.NotMerged old new) (sym same) h
  refused_text name k cpus most line cause.TooMany old new same h = subst (λ n. TextRefused d name n most line cause.TooMany old new) (sym same) h
  refused_text name k cpus most line cause.TooLong old new same h = h
  refused_text name k cpus most line cause.Idle old new same h = absurd h

  pub unread_order : (name order : List ℕ) (from : ScenarioText) (most : ℕ) (old between new : D) (e : Exit) → ScenarioCame d name old from between →
      NeverFalls (d.fetch_faults old) (d.fetch_faults between) → NeverFalls (d.fetch_faults between) (d.fetch_faults new) →
      IsOrderReadBy d order from.cpus most between new (Err e) → IsPrepared d (Solo name (Some order) most) old new (Err e)
  unread_order name order from most old between new exit.ReadFault came kept kept_too h = inr (record {
    from = from;
    between = between;
    came = came;
    failed = h;
    in_all = rose_in_all (d.fetch_faults old order) (d.fetch_faults between order) (d.fetch_faults new order) (kept order) (kept_too order) h;
  })
  unread_order name order from most old between new (exit.OrderFault line w) came kept kept_too h = record {
    from = from;
    between = between;
    came = came;
    refused = refused_text order (boot (scenario_of from)) from.cpus most line w between new (boot_cpus (scenario_of from)) h;
  }
  unread_order name order from most old between new exit.Memory came kept kept_too h = tt
  unread_order name order from most old between new exit.Done came kept kept_too h = h
  unread_order name order from most old between new exit.Usage came kept kept_too h = h
  unread_order name order from most old between new (exit.Scenario line w) came kept kept_too h = absurd h
  unread_order name order from most old between new exit.WriteFault came kept kept_too h = h
  unread_order name order from most old between new exit.Limit came kept kept_too h = h
  unread_order name order from most old between new (exit.Twin line w) came kept kept_too h = absurd h

  pub came_at : (name : List ℕ) (cpus most : ℕ) (k : KernelState) (old new : D) (list : BlockList) → k.cpus ≡ cpus →
      OrderCame d name cpus most old list.blocks new → OrderCame d name k.cpus most old list.blocks new
  came_at name cpus most k old new list same came = subst (λ n. OrderCame d name n most old list.blocks new) (sym same) came

  pub idle_order : (name order : List ℕ) (from : ScenarioText) (most : ℕ) (old between new : D) (list : BlockList) (e : Exit) → ScenarioCame d name old from between →
      OrderCame d order from.cpus most between list.blocks new → IsIdleFault (boot (scenario_of from)) list e →
      IsPrepared d (Solo name (Some order) most) old new (Err e)
  idle_order name order from most old between new list (exit.OrderFault line cause.Idle) came came_too h = record {
    from = from;
    between = between;
    came = came;
    refused = (list.blocks, came_at order from.cpus most (boot (scenario_of from)) between new list (boot_cpus (scenario_of from)) came_too, h);
  }
  idle_order name order from most old between new list exit.Memory came came_too h = tt
  idle_order name order from most old between new list (exit.OrderFault line cause.BadLine) came came_too h = absurd h
  idle_order name order from most old between new list (exit.OrderFault line cause.BadCpu) came came_too h = absurd h
  idle_order name order from most old between new list (exit.OrderFault line cause.ZeroCount) came came_too h = absurd h
  idle_order name order from most old between new list (exit.OrderFault line cause.NotMerged) came came_too h = absurd h
  idle_order name order from most old between new list (exit.OrderFault line cause.TooMany) came came_too h = absurd h
  idle_order name order from most old between new list (exit.OrderFault line cause.TooLong) came came_too h = absurd h
  idle_order name order from most old between new list exit.ReadFault came came_too h = absurd h
  idle_order name order from most old between new list exit.Done came came_too h = absurd h
  idle_order name order from most old between new list exit.Usage came came_too h = absurd h
  idle_order name order from most old between new list (exit.Scenario line w) came came_too h = absurd h
  idle_order name order from most old between new list exit.WriteFault came came_too h = absurd h
  idle_order name order from most old between new list exit.Limit came came_too h = absurd h
  idle_order name order from most old between new list (exit.Twin line w) came came_too h = absurd h

  -- WHAT IS MADE

  made_rounds : (name : List ℕ) (most : ℕ) (old new : D) (from : ScenarioText) (made : Outcome) → ScenarioCame d name old from new →
      IsReportOf report (boot (scenario_of from)) (rounds (boot (scenario_of from)) most) most made →
      (made.is_complete ≡ false → length (rounds (boot (scenario_of from)) most) ≡ most) → made.order.items ≡ [] →
      HasServed → HasLaws most → IsPrepared d (Solo name None most) old new (Ok made)
  made_rounds name most old new from made came reported spent none served laws = record {
    from = from;
    between = new;
    came = came;
    done = record {
      order = rounds (boot (scenario_of from)) most;
      of_command = (refl, refl, none);
      no_idle = reported.no_idle;
      reported = reported.text;
      quiet = reported.quiet;
      spent = spent;
      within = reported.within;
      processors = reported.processors;
      forests = λ before after whole. laws.forests (scenario_of from) before;
      revokes = λ before after cpu ec whole. laws.revokes (scenario_of from) before cpu ec;
      guests = laws.guests (scenario_of from) (rounds (boot (scenario_of from)) most);
      rights = λ before later cpu whole. laws.rights (run (boot (scenario_of from)) before) cpu (reached (scenario_of from) before);
      inputs = λ before later cpu ec g i whole virtual acts is. laws.inputs (scenario_of from) before cpu ec g i (record { virtual = virtual; acts = acts; is = is });
      sources = told laws.sources from (scenario_sound came.bytes from came.valid) (rounds (boot (scenario_of from)) most) (let within = reported.within in let few = laws.few in omega (arith, within, few));
      response = λ by_rounds. served (scenario_of from) most (scenario_sound came.bytes from came.valid).some_turn;
    };
  }

  made_by_order : (name order : List ℕ) (most : ℕ) (old between new : D) (from : ScenarioText) (list : BlockList) (made : Outcome) → ScenarioCame d name old from between →
      OrderCame d order from.cpus most between list.blocks new → IsReportOf report (boot (scenario_of from)) (turns list.blocks) most made →
      made.order.items ≡ [] → HasLaws most → IsPrepared d (Solo name (Some order) most) old new (Ok made)
  made_by_order name order most old between new from list made came came_too reported none laws = record {
    from = from;
    between = between;
    came = came;
    done = record {
      order = turns list.blocks;
      of_command = (
        record {
          blocks = list.blocks;
          came = came_at order from.cpus most (boot (scenario_of from)) between new list (boot_cpus (scenario_of from)) came_too;
          all = refl;
        },
        none,
      );
      no_idle = reported.no_idle;
      reported = reported.text;
      quiet = reported.quiet;
      spent = λ open_. tt;
      within = reported.within;
      processors = reported.processors;
      forests = λ before after whole. laws.forests (scenario_of from) before;
      revokes = λ before after cpu ec whole. laws.revokes (scenario_of from) before cpu ec;
      guests = laws.guests (scenario_of from) (turns list.blocks);
      rights = λ before later cpu whole. laws.rights (run (boot (scenario_of from)) before) cpu (reached (scenario_of from) before);
      inputs = λ before later cpu ec g i whole virtual acts is. laws.inputs (scenario_of from) before cpu ec g i (record { virtual = virtual; acts = acts; is = is });
      sources = told laws.sources from (scenario_sound came.bytes from came.valid) (turns list.blocks) (let within = reported.within in let few = laws.few in omega (arith, within, few));
      response = λ by_rounds. absurd by_rounds;
    };
  }

  made_together : (name order : List ℕ) (most : ℕ) (old new : D) (from : ScenarioText) (made : Outcome) → ScenarioCame d name old from new →
      IsTogether (boot (scenario_of from)) most made → HasLaws most → IsPrepared d (Run name order most) old new (Ok made)
  made_together name order most old new from made came together laws = record {
    from = from;
    between = new;
    came = came;
    done = record {
      order = turns together.blocks;
      of_command = (record { blocks = together.blocks; sound = together.order; text = together.appended; all = refl }, refl);
      no_idle = together.reported.no_idle;
      reported = together.reported.text;
      quiet = together.reported.quiet;
      spent = together.spent;
      within = together.reported.within;
      processors = together.reported.processors;
      forests = λ before after whole. laws.forests (scenario_of from) before;
      revokes = λ before after cpu ec whole. laws.revokes (scenario_of from) before cpu ec;
      guests = laws.guests (scenario_of from) (turns together.blocks);
      rights = λ before later cpu whole. laws.rights (run (boot (scenario_of from)) before) cpu (reached (scenario_of from) before);
      inputs = λ before later cpu ec g i whole virtual acts is. laws.inputs (scenario_of from) before cpu ec g i (record { virtual = virtual; acts = acts; is = is });
      sources = told laws.sources from (scenario_sound came.bytes from came.valid) (turns together.blocks) (let within = together.reported.within in let few = laws.few in omega (arith, within, few));
      response = λ by_rounds. absurd by_rounds;
    };
  }

  pub made_bench : (number most : ℕ) (depot : D) (from : ScenarioText) (f : Finished) (made : Outcome) → scenario (generated number) ≡ Ok from →
      IsFinished (boot (scenario_of from)) (rounds (boot (scenario_of from)) most) most f →
      IsRunOut (boot (scenario_of from)) most (rounds (boot (scenario_of from)) most) →
      made.text.items ≡ summary number f.kernel.state f.trace.items → made.is_complete ≡ is_quiet f.kernel.state → made.order.items ≡ [] → HasServed → HasLaws most →
      IsPrepared d (Bench number most) depot depot (Ok made)
  made_bench number most depot from f made valid finished out text quiet none served laws =
      let k : KernelState = boot (scenario_of from) in
      let reported = out_reported (summary number) k (rounds k most) most f made finished out text quiet in record {
        from = from;
        between = depot;
        came = (valid, refl);
        done = record {
          order = rounds k most;
          of_command = (refl, refl, none);
          no_idle = reported.no_idle;
          reported = reported.text;
          quiet = reported.quiet;
          spent = spent_of k (rounds k most) most made reported.quiet out;
          within = reported.within;
          processors = reported.processors;
          forests = λ before after whole. laws.forests (scenario_of from) before;
          revokes = λ before after cpu ec whole. laws.revokes (scenario_of from) before cpu ec;
          guests = laws.guests (scenario_of from) (rounds k most);
          rights = λ before later cpu whole. laws.rights (run (boot (scenario_of from)) before) cpu (reached (scenario_of from) before);
          inputs = λ before later cpu ec g i whole virtual acts is. laws.inputs (scenario_of from) before cpu ec g i (record { virtual = virtual; acts = acts; is = is });
          sources = told laws.sources from (scenario_sound (generated number) from valid) (rounds k most) (let within = reported.within in let few = laws.few in omega (arith, within, few));
          response = λ by_rounds. served (scenario_of from) most (scenario_sound (generated number) from valid).some_turn;
        };
      }

  -- ANY ANSWER

  pub unread_by : (name order : List ℕ) (from : ScenarioText) (most : ℕ) (old between new : D) (e : Exit) (r : Result Outcome Exit) → r ≡ Err e →
      ScenarioCame d name old from between → NeverFalls (d.fetch_faults old) (d.fetch_faults between) →
      NeverFalls (d.fetch_faults between) (d.fetch_faults new) → IsOrderReadBy d order from.cpus most between new (Err e) →
      IsPrepared d (Solo name (Some order) most) old new r
  unread_by name order from most old between new e r is came kept kept_too h =
      subst (λ (x : Result Outcome Exit). IsPrepared d (Solo name (Some order) most) old new x) (sym is)
      (unread_order name order from most old between new e came kept kept_too h)

  pub rounds_by : (name : List ℕ) (most : ℕ) (old new : D) (from : ScenarioText) (r : Result Outcome Exit) → ScenarioCame d name old from new →
      IfOk r (λ made. IsReportOf report (boot (scenario_of from)) (rounds (boot (scenario_of from)) most) most made) →
      IfOk r (λ made. made.is_complete ≡ false → length (rounds (boot (scenario_of from)) most) ≡ most) →
      IfOk r (λ made. made.order.items ≡ []) → IfErr r (λ e. e ≡ exit.Memory) → HasServed → HasLaws most →
      IsPrepared d (Solo name None most) old new r
  rounds_by name most old new from (Ok made) came reported spent none memory served laws = made_rounds name most old new from made came reported spent none served laws
  rounds_by name most old new from (Err e) came reported spent none memory served laws =
      subst (λ (x : Exit). IsPrepared d (Solo name None most) old new (Err x)) (sym memory) tt

  pub order_by : (name order : List ℕ) (most : ℕ) (old between new : D) (from : ScenarioText) (list : BlockList) (r : Result Outcome Exit) →
      ScenarioCame d name old from between → OrderCame d order from.cpus most between list.blocks new →
      IfOk r (λ made. IsReportOf report (boot (scenario_of from)) (turns list.blocks) most made) → IfErr r (IsIdleFault (boot (scenario_of from)) list) →
      IfOk r (λ made. made.order.items ≡ []) → HasLaws most → IsPrepared d (Solo name (Some order) most) old new r
  order_by name order most old between new from list (Ok made) came came_too reported idle none laws =
      made_by_order name order most old between new from list made came came_too reported none laws
  order_by name order most old between new from list (Err e) came came_too reported idle none laws =
      idle_order name order from most old between new list e came came_too idle

  pub together_by : (name order : List ℕ) (most : ℕ) (old new : D) (from : ScenarioText) (r : Result Outcome Exit) → ScenarioCame d name old from new →
      IfOk r (IsTogether (boot (scenario_of from)) most) → IfErr r (λ e. e ≡ exit.Memory) → HasLaws most → IsPrepared d (Run name order most) old new r
  together_by name order most old new from (Ok made) came together memory laws = made_together name order most old new from made came together laws
  together_by name order most old new from (Err e) came together memory laws =
      subst (λ (x : Exit). IsPrepared d (Run name order most) old new (Err x)) (sym memory) tt
