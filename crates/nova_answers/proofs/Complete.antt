-- Where nothing fails outside and the files have what a command needs, it is done, or was stopped by its limit or by want of memory.
use Rattle.std.proofs.Common.{◌≡◌, ℕ, ◌<◌, ◌≤◌, List, [], length, ap, inl, inr, sym, ◌∙◌, refl, arith, subst}
use Rattle.std.specs.Prelude.{◌⊎◌, Option, Some, None, IfSome, unwrap_or, Ok, Err}
use Rattle.std.specs.List.{AllByRecursion}
use Rattle.std.specs.FinMap.{get}
use Rattle.nova_model.specs.State.{KernelState}
use Rattle.nova_model.specs.Boot.{boot}
use Rattle.nova_model.specs.Runs.{IsFreeOfIdle, run}
use Rattle.nova_boot.specs.Boot.{scenario_of}
use Rattle.nova_command.specs.declared.command.Command.{Command}
use Rattle.nova_command.specs.declared.command.Command.TheVariants.{Run, Solo, Check, Bench, Twin}
use Rattle.nova_io.specs.Files.{Files, bytes_of}
use Rattle.nova_order.specs.Blocks.{turns}
use Rattle.nova_order.specs.Read.{order_of}
use Rattle.nova_order.specs.declared.block.Block.{Block}
use Rattle.nova_order.specs.declared.fault.OrderFault.{OrderFault}
use Rattle.nova_scenario.specs.Scenario.{scenario}
use Rattle.nova_scenario.specs.declared.scenario.Scenario.{Scenario as ScenarioText}
use Rattle.nova_finished.proofs.Idle.{no_idle_line}
use Rattle.nova_answers.specs.Causes.{ScenarioRefused, OrderRefused, IsRefusedAfter, IsReadFault, IsScenarioFault, IsOrderFault, IsTried, IsUnfollowed, SubjectsRefused, LineUnread, IsTwinFault}
use Rattle.nova_answers.specs.Prepared.{IsPrepared}
use Rattle.nova_answers.specs.Came.{Followed, IsFoundBy, SubjectsCame}
use Rattle.nova_answers.specs.Names.{most_of_subjects, names_in}
use Rattle.nova_io.specs.Outside.{Depots, Sinks, HasFailed}
use Rattle.nova_loading.specs.Came.{NoOrderCame, OrderCame, ScenarioCame, most_of_order, most_of_scenario}
use Rattle.nova_answers.specs.Subjects.{subjects_of}
use Rattle.nova_answers.specs.Servable.{HasScenario, HasOrder, HasGuest, HasGuests, IsGuest, IsServable, IsDoneOrStopped, names_read}
use Rattle.nova_answers.specs.declared.exit.Exit.{Exit}
use Rattle.nova_answers.specs.declared.exit.Exit.TheVariants as exit
use Rattle.nova_answers.specs.declared.exit.OrderWhy.{OrderWhy}
use Rattle.nova_answers.specs.declared.exit.OrderWhy.TheVariants as cause
use Rattle.nova_answers.specs.declared.exit.ScenarioWhy.{ScenarioWhy}
use Rattle.nova_answers.specs.declared.exit.ScenarioWhy.TheVariants.{TooLong, Text}
use Rattle.nova_answers.specs.declared.exit.TwinWhy.{TwinWhy}
use Rattle.nova_answers.specs.declared.exit.TwinWhy.TheVariants as twin
use Rattle.nova_answers.specs.declared.subjects.Subject.{Subject}
use Rattle.nova_answers.specs.declared.subjects.Subjects.{Subjects}
use Rattle.nova_answers.proofs.Results.{fault_is_none, same_ok}

-- the bytes that came are those of the file
same_bytes : (files : Option Files) (held : Files) (name bytes came : List ℕ) → files ≡ Some held → get held name ≡ Some bytes →
    IfSome files (λ h. get h name ≡ Some came) → came ≡ bytes
same_bytes (Some files) held name bytes came told there is =
    let same : files ≡ held = ap (λ (o : Option Files). unwrap_or o held) told in
    ap (λ (o : Option (List ℕ)). unwrap_or o bytes) (sym is ∙ ap (λ (h : Files). get h name) same ∙ there)
same_bytes None held name bytes came told there is = absurd (cc)

few_bytes : (files : Option Files) (held : Files) (name bytes : List ℕ) (most : ℕ) → files ≡ Some held → get held name ≡ Some bytes → length bytes ≤ most →
    IfSome files (λ h. most < length (bytes_of h name)) → ⊥
few_bytes (Some files) held name bytes most told there fits more =
    let same : files ≡ held = ap (λ (o : Option Files). unwrap_or o held) told in
    let is : length (bytes_of files name) ≡ length bytes = ap (λ (h : Files). length (bytes_of h name)) same ∙ ap (λ (o : Option (List ℕ)). length (unwrap_or o [])) there in
    absurd (omega arith)
few_bytes None held name bytes most told there fits more = absurd (cc)

module _ {D : Type 0} (d : Depots D) (held : Files) where
  no_scenario_fault : (name : List ℕ) (from : ScenarioText) (line : ℕ) (w : ScenarioWhy) (old new : D) → d.files old ≡ Some held → HasScenario held name from →
      ScenarioRefused d name line w old new → ⊥
  no_scenario_fault name from line TooLong old new told has refused =
      few_bytes (d.files old) held name has.bytes most_of_scenario told has.there has.fits refused.1.held
  no_scenario_fault name from line (Text w) old new told has refused =
      let same = same_bytes (d.files old) held name has.bytes refused.bytes told has.there refused.came.held in
      fault_is_none (scenario has.bytes) from _ has.valid (ap scenario (sym same) ∙ refused.invalid)

  same_scenario : (name : List ℕ) (from other : ScenarioText) (old new : D) → d.files old ≡ Some held → HasScenario held name from → ScenarioCame d name old other new →
      other ≡ from
  same_scenario name from other old new told has came =
      let same = same_bytes (d.files old) held name has.bytes came.bytes told has.there came.came.held in
      same_ok (scenario has.bytes) from other has.valid (ap scenario (sym same) ∙ came.valid)

  no_text_fault : (name : List ℕ) (k : KernelState) (most : ℕ) (fault : OrderFault) (old new : D) → d.files old ≡ Some held → HasOrder held name k most →
      NoOrderCame d name k.cpus most fault old new → ⊥
  no_text_fault name k most fault old new told has none =
      let same = same_bytes (d.files old) held name has.bytes none.bytes told has.there none.came.held in
      fault_is_none (order_of has.bytes k.cpus most) has.blocks fault has.reads (ap (λ (b : List ℕ). order_of b k.cpus most) (sym same) ∙ none.faulty)

  same_order : (name : List ℕ) (k : KernelState) (most : ℕ) (blocks : List Block) (old new : D) → d.files old ≡ Some held → (has : HasOrder held name k most) →
      OrderCame d name k.cpus most old blocks new → blocks ≡ has.blocks
  same_order name k most blocks old new told has came =
      let same = same_bytes (d.files old) held name has.bytes came.bytes told has.there came.came.held in
      same_ok (order_of has.bytes k.cpus most) has.blocks blocks has.reads (ap (λ (b : List ℕ). order_of b k.cpus most) (sym same) ∙ came.reads)

  no_order_fault : (name : List ℕ) (k : KernelState) (most line : ℕ) (w : OrderWhy) (old new : D) → d.files old ≡ Some held → HasOrder held name k most →
      OrderRefused d name k most line w old new → ⊥
  no_order_fault name k most line cause.BadLine old new told has refused = no_text_fault name k most _ old new told has refused
  no_order_fault name k most line cause.BadCpu old new told has refused = no_text_fault name k most _ old new told has refused
  no_order_fault name k most line cause.ZeroCount old new told has refused = no_text_fault name k most _ old new told has refused
  no_order_fault name k most line cause.NotMerged old new told has refused = no_text_fault name k most _ old new told has refused
  no_order_fault name k most line cause.TooMany old new told has refused = no_text_fault name k most _ old new told has refused
  no_order_fault name k most line cause.TooLong old new told has refused =
      few_bytes (d.files old) held name has.bytes most_of_order told has.there has.fits refused.1.held
  no_order_fault name k most line cause.Idle old new told has refused =
      let same = same_order name k most refused.0 old new told has refused.1 in
      no_idle_line k refused.0 line (subst (λ (blocks : List Block). IsFreeOfIdle k (turns blocks)) (sym same) has.no_idle) refused.2

  never_refused : (name order : List ℕ) (from : ScenarioText) (most line : ℕ) (w : OrderWhy) (old new : D) → d.files old ≡ Some held → HasScenario held name from →
      HasOrder held order (boot (scenario_of from)) most → IsRefusedAfter d name order most line w old new → ⊥
  never_refused name order from most line w old new told has has_too refused =
      let same = same_scenario name from refused.from old refused.between told has refused.came in
      no_order_fault order (boot (scenario_of from)) most line w refused.between new (refused.came.came.same ∙ told) has_too
      (subst (λ (s : ScenarioText). OrderRefused d order (boot (scenario_of s)) most line w refused.between new) same refused.refused)

  -- TWO GUESTS

  same_subjects : (name : List ℕ) (most : ℕ) (other : Subjects) (old new : D) → d.files old ≡ Some held → (has : HasGuests held name most) → SubjectsCame d name old other new →
      other ≡ has.subjects
  same_subjects name most other old new told has came =
      let same = same_bytes (d.files old) held name has.bytes came.bytes told has.there came.came.held in
      same_ok (subjects_of has.bytes) has.subjects other has.names (ap subjects_of (sym same) ∙ came.names)

  subjects_good : (name : List ℕ) (most line : ℕ) (w : TwinWhy) (old new : D) → d.files old ≡ Some held → HasGuests held name most → SubjectsRefused d name line w old new → ⊥
  subjects_good name most line twin.Syntax old new told has refused =
      let same = same_bytes (d.files old) held name has.bytes refused.0 told has.there refused.1.held in
      fault_is_none (subjects_of has.bytes) has.subjects _ has.names (ap subjects_of (sym same) ∙ refused.2)
  subjects_good name most line twin.TooLong old new told has refused = few_bytes (d.files old) held name has.bytes most_of_subjects told has.there has.fits refused.1.held
  subjects_good name most line twin.Guest old new told has refused = refused
  subjects_good name most line (twin.Scenario at w) old new told has refused = refused
  subjects_good name most line (twin.Order at w) old new told has refused = refused

  -- what is there is found
  never_missing : (k : KernelState) (order : List ℕ) (guest : Option ℕ) → IsGuest (run k order) guest → IsFoundBy k order guest None → ⊥
  never_missing k order (Some guest) there missing = missing there
  never_missing k order None there missing = there

  guest_found : (subject : Subject) (most : ℕ) (old new : D) → d.files old ≡ Some held → HasGuest held subject most → Followed d subject most old None new → ⊥
  guest_found subject most old new told has followed =
      let same = same_scenario subject.scenario has.from followed.from old followed.between told has.scenario followed.came in
      let after_scenario : d.files followed.between ≡ Some held = followed.came.came.same ∙ told in
      let came = subst (λ (s : ScenarioText). OrderCame d subject.order (boot (scenario_of s)).cpus most followed.between followed.blocks new) same followed.order in
      let blocks = same_order subject.order (boot (scenario_of has.from)) most followed.blocks followed.between new after_scenario has.order came in
      never_missing (boot (scenario_of has.from)) (turns has.order.blocks) subject.guest has.there
      (subst (λ (b : List Block). IsFoundBy (boot (scenario_of has.from)) (turns b) subject.guest None) blocks
      (subst (λ (s : ScenarioText). IsFoundBy (boot (scenario_of s)) (turns followed.blocks) subject.guest None) same followed.found))

  always_followed : (subject : Subject) (most : ℕ) (w : TwinWhy) (old new : D) → d.files old ≡ Some held → HasGuest held subject most → IsUnfollowed d subject most w old new → ⊥
  always_followed subject most (twin.Scenario line w) old new told has refused = no_scenario_fault subject.scenario has.from line w old new told has.scenario refused
  always_followed subject most (twin.Order line w) old new told has refused =
      never_refused subject.scenario subject.order has.from most line w old new told has.scenario has.order refused
  always_followed subject most twin.Guest old new told has refused = guest_found subject most old new told has refused
  always_followed subject most twin.Syntax old new told has refused = refused
  always_followed subject most twin.TooLong old new told has refused = refused

  -- a line that was tried is one of the text, and the files are as before
  pub record IsLineOf (name : List ℕ) (most : ℕ) (has : HasGuests held name most) (subject : Subject) (at : D) : Type 0 where
    pub told : d.files at ≡ Some held
    pub there : HasGuest held subject most

  line_of_text : (name : List ℕ) (most line : ℕ) (old : D) (subject : Subject) (at : D) → d.files old ≡ Some held → (has : HasGuests held name most) →
      IsTried d name most line old subject at → IsLineOf name most has subject at
  line_of_text name most line old subject at told has (inl tried) =
      let first = tried.1 in
      let is : subject ≡ has.subjects.first = first.is ∙ ap (λ (s : Subjects). s.first) (same_subjects name most first.subjects old at told has first.came) in
      record { told = first.came.came.same ∙ told; there = subst (λ (s : Subject). HasGuest held s most) (sym is) has.first }
  line_of_text name most line old subject at told has (inr tried) =
      let second = tried.1 in
      let is : subject ≡ has.subjects.second = second.is ∙ ap (λ (s : Subjects). s.second) (same_subjects name most second.subjects old second.between told has second.came) in
      record {
        told = second.followed.order.came.same ∙ (second.followed.came.came.same ∙ (second.came.came.same ∙ told));
        there = subst (λ (s : Subject). HasGuest held s most) (sym is) has.second;
      }

  never_twin : (name : List ℕ) (most line : ℕ) (w : TwinWhy) (old new : D) → d.files old ≡ Some held → HasGuests held name most → IsTwinFault d (Twin name most) line w old new → ⊥
  never_twin name most line w old new told has (inl refused) = subjects_good name most line w old new told has refused
  never_twin name most line w old new told has (inr refused) =
      let tried = line_of_text name most line old refused.subject refused.at told has refused.tried in
      always_followed refused.subject most w refused.at new tried.told tried.there refused.refused

  -- the names in a text that was tried are among those that the files tell
  names_tried : (name : List ℕ) (most line : ℕ) (old : D) (subject : Subject) (at : D) (P : List ℕ → Type 0) → d.files old ≡ Some held → (has : HasGuests held name most) →
      IsTried d name most line old subject at → AllByRecursion P (names_read (subjects_of (bytes_of held name))) → P subject.scenario × P subject.order
  names_tried name most line old subject at P told has tried all =
      let read : subjects_of (bytes_of held name) ≡ Ok has.subjects = ap (λ (o : Option (List ℕ)). subjects_of (unwrap_or o [])) has.there ∙ has.names in
      by_case tried (subst (λ r. AllByRecursion P (names_read r)) read all)
    where
      by_case : IsTried d name most line old subject at → AllByRecursion P (names_in has.subjects) → P subject.scenario × P subject.order
      by_case (inl t) names =
          let is : subject ≡ has.subjects.first = t.1.is ∙ ap (λ (s : Subjects). s.first) (same_subjects name most t.1.subjects old at told has t.1.came) in
          subst (λ (s : Subject). P s.scenario × P s.order) (sym is) (names.0, names.1.0)
      by_case (inr t) names =
          let is : subject ≡ has.subjects.second = t.1.is ∙ ap (λ (s : Subjects). s.second) (same_subjects name most t.1.subjects old t.1.between told has t.1.came) in
          subst (λ (s : Subject). P s.scenario × P s.order) (sym is) (names.1.1.0, names.1.1.1.0)

module _ {D O : Type 0} (d : Depots D) (o : Sinks O) (old new : D) (before after : O) where
  no_line_unread : (name : List ℕ) (most : ℕ) → IsServable d o (Twin name most) old new before after → LineUnread d name most old new → ⊥
  no_line_unread name most s unread =
      let names = names_tried d s.held name most unread.line old unread.subject unread.at (λ n. HasFailed d n old new → ⊥) s.told s.has unread.tried s.read.1 in
      by_case names unread.in_all
    where
      by_case : (HasFailed d unread.subject.scenario old new → ⊥) × (HasFailed d unread.subject.order old new → ⊥) →
          HasFailed d unread.subject.scenario old new ⊎ HasFailed d unread.subject.order old new → ⊥
      by_case names (inl failed) = names.0 failed
      by_case names (inr failed) = names.1 failed

  no_read_fault : (command : Command) → IsServable d o command old new before after → IsReadFault d command old new → ⊥
  no_read_fault (Run name order most) s failed = s.read.0 failed
  no_read_fault (Bench number most) s failed = absurd failed
  no_read_fault (Solo name None most) s failed = s.read.0 failed
  no_read_fault (Check name) s failed = s.read.0 failed
  no_read_fault (Solo name (Some order) most) s (inl failed) = s.read.0 failed
  no_read_fault (Solo name (Some order) most) s (inr unread) = s.read.1.0 unread.in_all
  no_read_fault (Twin name most) s (inl failed) = s.read.0 failed
  no_read_fault (Twin name most) s (inr unread) = no_line_unread name most s unread

  scenario_good : (command : Command) (line : ℕ) (w : ScenarioWhy) → IsServable d o command old new before after → IsScenarioFault d command line w old new → ⊥
  scenario_good (Run name order most) line w s refused = no_scenario_fault d s.held name s.has.0 line w old new s.told s.has.1 refused
  scenario_good (Bench number most) line w s refused = absurd refused
  scenario_good (Twin name most) line w s refused = absurd refused
  scenario_good (Solo name None most) line w s refused = no_scenario_fault d s.held name s.has.0 line w old new s.told s.has.1 refused
  scenario_good (Check name) line w s refused = no_scenario_fault d s.held name s.has.0 line w old new s.told s.has.1 refused
  scenario_good (Solo name (Some order) most) line w s refused = no_scenario_fault d s.held name s.has.0 line w old new s.told s.has.1 refused

  order_good : (command : Command) (line : ℕ) (w : OrderWhy) → IsServable d o command old new before after → IsOrderFault d command line w old new → ⊥
  order_good (Run name order most) line w s refused = refused
  order_good (Bench number most) line w s refused = refused
  order_good (Twin name most) line w s refused = refused
  order_good (Solo name None most) line w s refused = refused
  order_good (Check name) line w s refused = refused
  order_good (Solo name (Some order) most) line w s refused =
      never_refused d s.held name order s.has.0 most line w old new s.told s.has.1 s.has.2 refused

  twin_good : (command : Command) (line : ℕ) (w : TwinWhy) → IsServable d o command old new before after → IsTwinFault d command line w old new → ⊥
  twin_good (Run name order most) line w s refused = refused
  twin_good (Solo name order most) line w s refused = refused
  twin_good (Check name) line w s refused = refused
  twin_good (Bench number most) line w s refused = refused
  twin_good (Twin name most) line w s refused = never_twin d s.held name most line w old new s.told s.has refused

  pub completes_unless_made : (command : Command) (e : Exit) → IsPrepared d command old new (Err e) → IsServable d o command old new before after → IsDoneOrStopped e
  completes_unless_made command exit.Done h s = inl refl
  completes_unless_made command exit.Limit h s = inr (inl refl)
  completes_unless_made command exit.Memory h s = inr (inr refl)
  completes_unless_made command exit.Usage h s = absurd h
  completes_unless_made command exit.ReadFault h s = absurd (no_read_fault command s h)
  completes_unless_made command (exit.Scenario line w) h s = absurd (scenario_good command line w s h)
  completes_unless_made command (exit.OrderFault line w) h s = absurd (order_good command line w s h)
  completes_unless_made command exit.WriteFault h s = absurd h
  completes_unless_made command (exit.Twin line w) h s = absurd (twin_good command line w s h)
