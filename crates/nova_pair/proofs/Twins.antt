-- From what was read to two guests that are compared, or why they are not.
use Rattle.std.proofs.Common.{◌≡◌, ℕ, ◌≤◌, List, inl, inr, refl, sym, ap, ◌∙◌, subst, arith}
use Rattle.std.specs.Prelude.{◌⊎◌, Option, Some, None, unwrap_or, Result, Ok, Err, IfOk, IfErr, IfSome, OnOk}
use Rattle.nova_model.specs.State.{KernelState}
use Rattle.nova_model.specs.Boot.{Scenario, boot}
use Rattle.nova_model.specs.Runs.{IsFreeOfIdle}
use Rattle.std.proofs.lemmas.List.{length-map}
use Rattle.nova_boot.specs.Boot.{scenario_of, source_of}
use Rattle.nova_command.specs.declared.command.Command.TheVariants.{Solo, Twin}
use Rattle.nova_io.specs.Faults.{NeverFalls}
use Rattle.nova_order.specs.Blocks.{turns, BlockList}
use Rattle.law_renaming.specs.Verdicts.{IsVerdict}
use Rattle.nova_scenario.specs.declared.scenario.Scenario.{Scenario as ScenarioText}
use Rattle.nova_scenario.specs.Sound.{IsSound}
use Rattle.nova_scenario.proofs.SoundLemmas.{scenario_sound}
use Rattle.nova_finished.specs.Finished.{IsIdleLine}
use Rattle.nova_finished.specs.declared.fault.RunFault.{RunFault}
use Rattle.nova_finished.specs.declared.fault.RunFault.TheVariants as fault
use Rattle.nova_twin.specs.Comparison.{said, ram_of, Holds, EndsSo}
use Rattle.nova_twin.specs.Sides.{IsAlone, IsBeginning, IsFound, IsSide, IsSideOf}
use Rattle.nova_twin.specs.declared.side.Side.{Side}
use Rattle.nova_answers.specs.Came.{Followed, IsFoundBy, SubjectsCame}
use Rattle.nova_answers.specs.Causes.{IsTried, IsUnread}
use Rattle.nova_answers.specs.Exit.{at_line, of_run}
use Rattle.nova_answers.specs.Fetches.{CameBefore, Fetches, FetchesOf, FetchesOfRun}
use Rattle.nova_answers.specs.Names.{most_of_subjects}
use Rattle.nova_io.specs.Outside.{Depots, HasFailed}
use Rattle.nova_loading.specs.Came.{OrderCame, ScenarioCame}
use Rattle.nova_answers.specs.Prepared.{AreSubjectsRead, IsComparison, IsFollowed, IsFollowedAt, IsIdleFault, IsOrderReadBy, IsPrepared, exit_of}
use Rattle.nova_answers.specs.declared.exit.Exit.{Exit}
use Rattle.nova_answers.specs.declared.exit.Exit.TheVariants as exit
use Rattle.nova_answers.specs.declared.exit.TwinWhy.{TwinWhy}
use Rattle.nova_answers.specs.declared.outcome.Outcome.{Outcome}
use Rattle.nova_answers.specs.declared.subjects.Subject.{Subject}
use Rattle.nova_answers.specs.declared.subjects.Subjects.{Subjects}
use Rattle.nova_answers.proofs.Answered.{run_names}
use Rattle.nova_answers.proofs.Counts.{rose_in_all}
use Rattle.nova_answers.proofs.Made.{came_at, idle_order, unread_order}
use Rattle.nova_answers.proofs.Reports.{boot_cpus}
use Rattle.nova_answers.proofs.Unread.{IsAsGood, run_moved}

-- A SIDE

abbrev pub number_of : Option ℕ → ℕ
number_of guest = unwrap_or guest 0

pub side_at : (k : KernelState) (order : List ℕ) (guest : Option ℕ) (side : Side) → IsFoundBy k order guest (Some side) → IsSideOf k order (unwrap_or guest 0) side
side_at k order (Some guest) side found = found
side_at k order None side found = absurd found

pub begins_at : (from : ScenarioText) → IsSound from → IsBeginning (boot (scenario_of from))
begins_at from sound = record {
  scenario = scenario_of from;
  ram = sound.ram;
  consoles = sound.consoles;
  few = let same = length-map from.sources source_of in let few = sound.few in omega (arith, same, few);
  is = refl;
}

pub found_from : (s : Scenario) (k : KernelState) (order : List ℕ) (guest : ℕ) (found : Option Side) → k ≡ boot s → IsFound k order guest found → IsFound (boot s) order guest found
found_from s k order guest found begun is = subst (λ (z : KernelState). IsFound z order guest found) begun is

pub free_from : (s : Scenario) (k : KernelState) (order : List ℕ) → k ≡ boot s → IsFreeOfIdle k order → IsFreeOfIdle (boot s) order
free_from s k order begun free = subst (λ (z : KernelState). IsFreeOfIdle z order) begun free

idle_at : (k : KernelState) (list : BlockList) (why : RunFault) → ((line : ℕ) → why ≡ fault.OrderIdle line → IsIdleLine k list.blocks line) → IsIdleFault k list (of_run why)
idle_at k list (fault.OrderIdle line) idle = idle line refl
idle_at k list fault.Memory idle = tt

pub idle_from : (s : Scenario) (k : KernelState) (list : BlockList) (why : RunFault) (r : Result (Option Side) RunFault) → k ≡ boot s → r ≡ Err why →
    ((line : ℕ) → r ≡ Err (fault.OrderIdle line) → IsIdleLine k list.blocks line) → IsIdleFault (boot s) list (of_run why)
idle_from s k list why r begun is idle =
    subst (λ (z : KernelState). IsIdleFault z list (of_run why)) begun
    (idle_at k list why (λ line same. idle line (is ∙ ap Err same)))

module _ {D : Type 0} (d : Depots D) where
  abbrev pub is_side : (subject : Subject) (most : ℕ) (old : D) (side : Side) (new : D) → Followed d subject most old (Some side) new → IsSide side
  is_side subject most old side new f = record {
    opening = boot (scenario_of f.from);
    begins = begins_at f.from (scenario_sound f.came.bytes f.from f.came.valid);
    turns = turns f.blocks;
    guest = number_of subject.guest;
    is = side_at (boot (scenario_of f.from)) (turns f.blocks) subject.guest side f.found;
  }

  -- A GUEST

  unfollowed : (subject : Subject) (most : ℕ) (old new : D) (e : Exit) → IsPrepared d (Solo subject.scenario (Some subject.order) most) old new (Err e) →
      IsFollowed d subject most old new (Err e)
  unfollowed subject most old new exit.ReadFault h = h
  unfollowed subject most old new (exit.Scenario line w) h = h
  unfollowed subject most old new (exit.OrderFault line w) h = h
  unfollowed subject most old new exit.Memory h = tt
  unfollowed subject most old new (exit.Twin line w) h = h
  unfollowed subject most old new exit.Done h = h
  unfollowed subject most old new exit.Usage h = h
  unfollowed subject most old new exit.WriteFault h = h
  unfollowed subject most old new exit.Limit h = h

  pub unread_by : (subject : Subject) (from : ScenarioText) (most : ℕ) (old between new : D) (e : Exit) (r : Result (Option Side) Exit) → r ≡ Err e →
      ScenarioCame d subject.scenario old from between → NeverFalls (d.fetch_faults old) (d.fetch_faults between) →
      NeverFalls (d.fetch_faults between) (d.fetch_faults new) → IsOrderReadBy d subject.order from.cpus most between new (Err e) → IsFollowed d subject most old new r
  unread_by subject from most old between new e r is came kept kept_too h =
      subst (λ (x : Result (Option Side) Exit). IsFollowed d subject most old new x) (sym is)
      (unfollowed subject most old new e (unread_order d subject.scenario subject.order from most old between new e came kept kept_too h))

  pub followed_by : (subject : Subject) (most : ℕ) (old between new : D) (from : ScenarioText) (list : BlockList) (r : Result (Option Side) Exit) →
      ScenarioCame d subject.scenario old from between → OrderCame d subject.order from.cpus most between list.blocks new →
      IfOk r (IsFoundBy (boot (scenario_of from)) (turns list.blocks) subject.guest) → IfOk r (λ found. IfSome found IsAlone) →
      OnOk r (IsFreeOfIdle (boot (scenario_of from)) (turns list.blocks)) → IfErr r (IsIdleFault (boot (scenario_of from)) list) → IsFollowed d subject most old new r
  followed_by subject most old between new from list (Ok found) came came_too is alone free idle = record {
    from = from;
    between = between;
    came = came;
    blocks = list.blocks;
    order = came_at d subject.order from.cpus most (boot (scenario_of from)) between new list (boot_cpus (scenario_of from)) came_too;
    no_idle = free;
    found = is;
    alone = alone;
  }
  followed_by subject most old between new from list (Err e) came came_too is alone free idle =
      unfollowed subject most old new e (idle_order d subject.scenario subject.order from most old between new list e came came_too idle)

  -- THE GUEST OF A LINE

  pub unfollowed_at : (line : ℕ) (subject : Subject) (most : ℕ) (old new : D) (e : Exit) → IsFollowed d subject most old new (Err e) →
      IsFollowedAt d line subject most old new (Err (at_line line e))
  unfollowed_at line subject most old new exit.ReadFault h = h
  unfollowed_at line subject most old new (exit.Scenario at w) h = (refl, h)
  unfollowed_at line subject most old new (exit.OrderFault at w) h = (refl, h)
  unfollowed_at line subject most old new exit.Memory h = tt
  unfollowed_at line subject most old new (exit.Twin at w) h = absurd h
  unfollowed_at line subject most old new exit.Done h = h
  unfollowed_at line subject most old new exit.Usage h = h
  unfollowed_at line subject most old new exit.WriteFault h = h
  unfollowed_at line subject most old new exit.Limit h = h

  as_good_at : (line : ℕ) (e : Exit) → IsAsGood d e (at_line line e)
  as_good_at line exit.ReadFault name bytes a b came = came
  as_good_at line (exit.Scenario at w) name bytes a b came = came
  as_good_at line (exit.OrderFault at w) name bytes a b came = came
  as_good_at line exit.Memory name bytes a b came = came
  as_good_at line (exit.Twin at w) name bytes a b came = came
  as_good_at line exit.Done name bytes a b came = came
  as_good_at line exit.Usage name bytes a b came = came
  as_good_at line exit.WriteFault name bytes a b came = came
  as_good_at line exit.Limit name bytes a b came = came

  pub fetched_at : (line : ℕ) (subject : Subject) (e : Exit) (old new : D) → FetchesOfRun d subject.scenario subject.order e old new →
      FetchesOfRun d subject.scenario subject.order (at_line line e) old new
  fetched_at line subject e old new f = run_moved d subject.scenario subject.order e (at_line line e) old new (as_good_at line e) f

  pub fetched_but_missing : (line : ℕ) (subject : Subject) (w : TwinWhy) (old new : D) → FetchesOfRun d subject.scenario subject.order exit.Done old new →
      FetchesOfRun d subject.scenario subject.order (exit.Twin line w) old new
  fetched_but_missing line subject w old new f = run_moved d subject.scenario subject.order exit.Done (exit.Twin line w) old new (λ name bytes a b came. came) f

  -- BOTH

  module _ (name : List ℕ) (most : ℕ) where
    pub text_unread : (old new : D) (e : Exit) (r : Result Outcome Exit) → r ≡ Err e → AreSubjectsRead d name old new (Err e) → IsPrepared d (Twin name most) old new r
    text_unread old new e r is h = subst (λ (x : Result Outcome Exit). IsPrepared d (Twin name most) old new x) (sym is) (by_case e h)
      where
        by_case : (e : Exit) → AreSubjectsRead d name old new (Err e) → IsPrepared d (Twin name most) old new (Err e)
        by_case exit.ReadFault h = inl h
        by_case (exit.Twin line w) h = inl h
        by_case exit.Memory h = tt
        by_case (exit.Scenario at w) h = h
        by_case (exit.OrderFault at w) h = h
        by_case exit.Done h = h
        by_case exit.Usage h = h
        by_case exit.WriteFault h = h
        by_case exit.Limit h = h

    in_all : (scenario order : List ℕ) (old between new : D) → NeverFalls (d.fetch_faults old) (d.fetch_faults between) → NeverFalls (d.fetch_faults between) (d.fetch_faults new) →
        IsUnread d scenario order between new → HasFailed d scenario old new ⊎ HasFailed d order old new
    in_all scenario order old between new kept kept_too (inl failed) =
        inl (rose_in_all (d.fetch_faults old scenario) (d.fetch_faults between scenario) (d.fetch_faults new scenario) (kept scenario) (kept_too scenario) failed)
    in_all scenario order old between new kept kept_too (inr unread) =
        inr (rose_in_all (d.fetch_faults old order) (d.fetch_faults between order) (d.fetch_faults new order) (kept order) (kept_too order) unread.in_all)

    line_unfollowed : (line : ℕ) (subject : Subject) (old at new : D) (e : Exit) → IsTried d name most line old subject at → NeverFalls (d.fetch_faults old) (d.fetch_faults at) →
        NeverFalls (d.fetch_faults at) (d.fetch_faults new) → IsFollowedAt d line subject most at new (Err e) → IsPrepared d (Twin name most) old new (Err e)
    line_unfollowed line subject old at new exit.ReadFault tried kept kept_too h = inr (record {
      line = line;
      subject = subject;
      at = at;
      tried = tried;
      unread = h;
      in_all = in_all subject.scenario subject.order old at new kept kept_too h;
    })
    line_unfollowed line subject old at new (exit.Twin l w) tried kept kept_too h =
        inr (record { subject = subject; at = at; tried = subst (λ (n : ℕ). IsTried d name most n old subject at) (sym h.0) tried; refused = h.1 })
    line_unfollowed line subject old at new exit.Memory tried kept kept_too h = tt
    line_unfollowed line subject old at new (exit.Scenario l w) tried kept kept_too h = h
    line_unfollowed line subject old at new (exit.OrderFault l w) tried kept kept_too h = h
    line_unfollowed line subject old at new exit.Done tried kept kept_too h = h
    line_unfollowed line subject old at new exit.Usage tried kept kept_too h = h
    line_unfollowed line subject old at new exit.WriteFault tried kept kept_too h = h
    line_unfollowed line subject old at new exit.Limit tried kept kept_too h = h

    pub first_unfollowed : (subjects : Subjects) (old at new : D) (e : Exit) (r : Result Outcome Exit) → r ≡ Err e → SubjectsCame d name old subjects at →
        NeverFalls (d.fetch_faults old) (d.fetch_faults at) → NeverFalls (d.fetch_faults at) (d.fetch_faults new) →
        IsFollowedAt d 1 subjects.first most at new (Err e) → IsPrepared d (Twin name most) old new r
    first_unfollowed subjects old at new e r is came kept kept_too h =
        subst (λ (x : Result Outcome Exit). IsPrepared d (Twin name most) old new x) (sym is)
        (line_unfollowed 1 subjects.first old at new e (inl (refl, record { subjects = subjects; came = came; is = refl })) kept kept_too h)

    never_falls : (old between new : D) → NeverFalls (d.fetch_faults old) (d.fetch_faults between) → NeverFalls (d.fetch_faults between) (d.fetch_faults new) →
        NeverFalls (d.fetch_faults old) (d.fetch_faults new)
    never_falls old between new kept kept_too n = both (d.fetch_faults old n) (d.fetch_faults between n) (d.fetch_faults new n) (kept n) (kept_too n)
      where
        both : (a b c : ℕ) → a ≤ b → b ≤ c → a ≤ c
        both a b c x y = omega arith

    pub second_unfollowed : (subjects : Subjects) (old between at new : D) (first : Side) (e : Exit) (r : Result Outcome Exit) → r ≡ Err e →
        SubjectsCame d name old subjects between → Followed d subjects.first most between (Some first) at → NeverFalls (d.fetch_faults old) (d.fetch_faults between) →
        NeverFalls (d.fetch_faults between) (d.fetch_faults at) → NeverFalls (d.fetch_faults at) (d.fetch_faults new) →
        IsFollowedAt d 2 subjects.second most at new (Err e) → IsPrepared d (Twin name most) old new r
    second_unfollowed subjects old between at new first e r is came followed kept kept_too kept_last h =
        subst (λ (x : Result Outcome Exit). IsPrepared d (Twin name most) old new x) (sym is)
        (line_unfollowed 2 subjects.second old at new e
        (inr (refl, record { subjects = subjects; between = between; came = came; first = first; followed = followed; is = refl }))
        (never_falls old between at kept kept_too) kept_last h)

    pub compared_by : (subjects : Subjects) (old between midway new : D) (first second : Side) (r : Result Outcome Exit) → SubjectsCame d name old subjects between →
        Followed d subjects.first most between (Some first) midway → Followed d subjects.second most midway (Some second) new →
        IfOk r (IsComparison (λ v. ((x : IsSide first) (y : IsSide second) → Holds (ram_of first x) (ram_of second y) first second v)
        × IsVerdict first.start second.start first.inputs.items second.inputs.items (said v) × EndsSo first second v)) →
        IfErr r (λ e. e ≡ exit.Memory) → IsPrepared d (Twin name most) old new r
    compared_by subjects old between midway new first second (Ok made) came followed followed_too compared memory = (
      compared.complete,
      compared.none,
      record {
        subjects = subjects;
        between = between;
        came = came;
        first = first;
        midway = midway;
        first_followed = followed;
        second = second;
        second_followed = followed_too;
        verdict = compared.verdict;
        holds = compared.holds.0 (is_side subjects.first most between first midway followed) (is_side subjects.second most midway second new followed_too);
        renaming = compared.holds.1;
        ends = compared.holds.2;
        line = compared.line;
      },
    )
    compared_by subjects old between midway new first second (Err e) came followed followed_too compared memory =
        subst (λ (x : Exit). IsPrepared d (Twin name most) old new (Err x)) (sym memory) tt

    -- THE FETCHES

    pub text_fetched : (old new : D) (e f : Exit) → f ≡ e → FetchesOf d most_of_subjects name e old new → Fetches d (Twin name most) f old new
    text_fetched old new e f is fetched = subst (λ (x : Exit). Fetches d (Twin name most) x old new) (sym is) (inl fetched)

    pub first_fetched : (subjects : Subjects) (old between new : D) (e f : Exit) → f ≡ e → SubjectsCame d name old subjects between →
        FetchesOf d most_of_subjects name exit.Done old between → FetchesOfRun d subjects.first.scenario subjects.first.order e between new → Fetches d (Twin name most) f old new
    first_fetched subjects old between new e f is came text lines =
        subst (λ (x : Exit). Fetches d (Twin name most) x old new) (sym is)
        (inr (record { subjects = subjects; between = between; came = came; others = text.others; lines = inl lines }))

    pub second_fetched : (subjects : Subjects) (old between midway new : D) (first : Side) (e f : Exit) → f ≡ e → SubjectsCame d name old subjects between →
        FetchesOf d most_of_subjects name exit.Done old between → Followed d subjects.first most between (Some first) midway →
        FetchesOfRun d subjects.first.scenario subjects.first.order exit.Done between midway →
        FetchesOfRun d subjects.second.scenario subjects.second.order e midway new → Fetches d (Twin name most) f old new
    second_fetched subjects old between midway new first e f is came text followed before lines =
        subst (λ (x : Exit). Fetches d (Twin name most) x old new) (sym is)
        (inr (record {
          subjects = subjects;
          between = between;
          came = came;
          others = text.others;
          lines = inr (record {
            first = first;
            between = midway;
            followed = followed;
            others = run_names d subjects.first.scenario subjects.first.order exit.Done between midway before;
            second = lines;
          });
        }))

    as_good_by : (r : Result Outcome Exit) → IfErr r (λ e. e ≡ exit.Memory) → IsAsGood d exit.Done (exit_of r)
    as_good_by (Ok made) memory name_ bytes a b came = came
    as_good_by (Err e) memory name_ bytes a b came = subst (λ (x : Exit). CameBefore x d name_ a bytes b) (sym memory) came

    pub all_fetched : (subjects : Subjects) (old between midway new : D) (first : Side) (r : Result Outcome Exit) → IfErr r (λ e. e ≡ exit.Memory) →
        SubjectsCame d name old subjects between → FetchesOf d most_of_subjects name exit.Done old between →
        Followed d subjects.first most between (Some first) midway → FetchesOfRun d subjects.first.scenario subjects.first.order exit.Done between midway →
        FetchesOfRun d subjects.second.scenario subjects.second.order exit.Done midway new → Fetches d (Twin name most) (exit_of r) old new
    all_fetched subjects old between midway new first r memory came text followed before lines =
        second_fetched subjects old between midway new first (exit_of r) (exit_of r) refl came text followed before
        (run_moved d subjects.second.scenario subjects.second.order exit.Done (exit_of r) midway new (as_good_by r memory) lines)
