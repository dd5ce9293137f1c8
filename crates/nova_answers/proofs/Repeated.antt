-- A run is repeated by one thread over the order that it appended.
use Rattle.std.proofs.Common.{◌≡◌, ◌≢◌, ℕ, ◌*◌, ◌<◌, ◌≤◌, Bool, true, false, List, [], ◌∷◌, ◌++◌, length, cond, refl, ap, sym, ◌∙◌, subst, inl, inr, arith}
use Rattle.std.specs.Prelude.{◌⊎◌, Option, Some, None, IfSome, unwrap_or, Ok}
use Rattle.std.specs.Cmp.Lexicographic.{slice_cmp, nat_list_cmp_total}
use Rattle.std.specs.Cmp.{eq_by_cmp_equiv}
use Rattle.std.specs.FinMap.{get, get-insert, nat_cmp-IsAntisymmetric, slice_cmp-IsAntisymmetric}
use Rattle.std.specs.Io.KnownBytes.{append_known}
use Rattle.std.specs.List.{AllByRecursion}
use Rattle.std.specs.Ordering.{nat_cmp, eq_by_cmp}
use Rattle.std.proofs.lemmas.Map.Views.{tells_apart}
use Rattle.nova_model.specs.State.{KernelState}
use Rattle.nova_model.specs.Boot.{boot}
use Rattle.nova_model.specs.Runs.{IsFreeOfIdle}
use Rattle.nova_boot.specs.Boot.{scenario_of}
use Rattle.nova_command.specs.Limit.{IsLimit}
use Rattle.nova_command.specs.declared.command.Command.TheVariants.{Run, Solo}
use Rattle.nova_io.specs.Files.{Files, bytes_of, appended, with_appended}
use Rattle.nova_order.specs.Blocks.{turns}
use Rattle.nova_order.specs.Read.{order_of}
use Rattle.nova_order.specs.declared.block.Block.{Block}
use Rattle.nova_order.specs.declared.fault.OrderFault.{OrderFault}
use Rattle.nova_order.proofs.LengthLemmas.{short_text}
use Rattle.nova_scenario.specs.Scenario.{scenario}
use Rattle.nova_scenario.specs.declared.scenario.Scenario.{Scenario as ScenarioText}
use Rattle.nova_scenario.proofs.SoundLemmas.{scenario_sound}
use Rattle.nova_finished.proofs.Idle.{no_idle_line}
use Rattle.nova_answers.specs.Causes.{ScenarioRefused, OrderRefused, IsRefusedAfter, IsUnread}
use Rattle.nova_answers.specs.Main.{IsAnswer, IsWritten, IsTextCut, IsCut}
use Rattle.nova_io.specs.Outside.{Depots, Sinks, FileCame}
use Rattle.nova_loading.specs.Came.{NoOrderCame, OrderCame, most_of_order, most_of_scenario}
use Rattle.nova_answers.specs.Replayed.{IsTakenAgain}
use Rattle.nova_answers.specs.Repeated.{exit_of_run, AreGiven, IsUndisturbed, IsRepeated, WroteTheSame, AreShort, AreRepeated, AreRepeatedFromFiles}
use Rattle.nova_answers.specs.Runs.{IsRun}
use Rattle.nova_answers.specs.declared.exit.Exit.{Exit}
use Rattle.nova_answers.specs.declared.exit.Exit.TheVariants as exit
use Rattle.nova_answers.specs.declared.exit.OrderWhy.{OrderWhy}
use Rattle.nova_answers.specs.declared.exit.OrderWhy.TheVariants as cause
use Rattle.nova_answers.specs.declared.exit.ScenarioWhy.{ScenarioWhy}
use Rattle.nova_answers.specs.declared.exit.ScenarioWhy.TheVariants.{TooLong, Text}
use Rattle.nova_answers.proofs.Replays.{taken, same, is_there}
use Rattle.nova_answers.proofs.Reports.{boot_cpus}
use Rattle.nova_answers.proofs.Results.{fault_is_none, same_ok}

-- HOW LONG AN ORDER IS

few_bytes : (n most : ℕ) → n ≤ 4 * most → most ≤ 10000000 → n ≤ most_of_order
few_bytes n most bytes turns = omega arith

ten_processors : (from : ScenarioText) → from.cpus ≤ 8 → (boot (scenario_of from)).cpus ≤ 10
ten_processors from few = let same : (boot (scenario_of from)).cpus ≡ from.cpus = boot_cpus (scenario_of from) in omega arith

module _ {D : Type 0} (d : Depots D) where
  run_is_short : (name order : List ℕ) (most : ℕ) (k : KernelState) (old new : D) (complete : Bool) (bytes text : List ℕ) → k.cpus ≤ 10 →
      IsRun d (Run name order most) k old new complete bytes text → length bytes ≤ 4 * most
  run_is_short name order most k old new complete bytes text few ran =
      let all = ran.of_command.0.all in
      subst (λ (b : List ℕ). length b ≤ 4 * most) (sym ran.of_command.0.text)
      (short_text k.cpus most ran.of_command.0.blocks few ran.of_command.0.sound
      (is_there k.cpus most ran.of_command.0.blocks ran.of_command.0.sound
      (subst (AllByRecursion (λ cpu. cpu < k.cpus)) all ran.processors)
      (subst (λ (l : List ℕ). length l ≤ most) all ran.within)))

  pub short : AreShort d
  short name order most old new complete bytes text limit made =
      let k : KernelState = boot (scenario_of made.from) in
      let few = ten_processors made.from (scenario_sound made.came.bytes made.from made.came.valid).cpus in
      few_bytes (length bytes) most (run_is_short name order most k made.between new complete bytes text few made.done) limit.1

-- NO REFUSAL

too_many : (n most : ℕ) → n ≤ most → most < n → ⊥
too_many n most few more = absurd (omega arith)

module _ {D O : Type 0} (d : Depots D) (o : Sinks O) (name order name_again order_again : List ℕ) (most : ℕ) (complete : Bool) (old new old_again new_again : D)
    (before after before_again after_again : O) (limit : IsLimit most) (ran : IsWritten d o (Run name order most) complete old new before after)
    (given : AreGiven d name_again order_again ran.made.came.bytes ran.bytes old_again new_again)
    (quiet : IsUndisturbed d o name_again order_again old_again new_again before_again after_again) where
  abbrev from : ScenarioText
  from = ran.made.from

  abbrev k : KernelState
  k = boot (scenario_of from)

  short_order : length ran.bytes ≤ most_of_order
  short_order = short d name order most old ran.between complete ran.bytes ran.text limit ran.made

  never_unread : IsUnread d name_again order_again old_again new_again → ⊥
  never_unread (inl failed) = quiet.scenario_read failed
  never_unread (inr unread) = quiet.order_read unread.in_all

  no_scenario_fault : (line : ℕ) (w : ScenarioWhy) → ScenarioRefused d name_again line w old_again new_again → ⊥
  no_scenario_fault line TooLong refused =
      too_many (length ran.made.came.bytes) most_of_scenario ran.made.came.came.fits (given.scenario_cut new_again refused.1)
  no_scenario_fault line (Text w) refused =
      let same = given.scenario_whole refused.bytes new_again refused.came in
      fault_is_none (scenario ran.made.came.bytes) from _ ran.made.came.valid (ap scenario (sym same) ∙ refused.invalid)

  same_scenario : (other : ScenarioText) (between : D) (bytes : List ℕ) → FileCame d most_of_scenario name_again old_again bytes between → scenario bytes ≡ Ok other → other ≡ from
  same_scenario other between bytes came valid =
      let same = given.scenario_whole bytes between came in
      same_ok (scenario ran.made.came.bytes) from other ran.made.came.valid (ap scenario (sym same) ∙ valid)

  module _ (first : List ℕ) (between : D) (came_first : FileCame d most_of_scenario name_again old_again first between) where
    abbrev again : IsTakenAgain from most ran.bytes
    again = taken d name order most old ran.between complete ran.bytes ran.text limit ran.made

    no_text_fault : (fault : OrderFault) → NoOrderCame d order_again k.cpus most fault between new_again → ⊥
    no_text_fault fault none =
        let same = given.order_whole first none.bytes between came_first none.came in
        fault_is_none (order_of ran.bytes k.cpus most) again.blocks fault again.reads (ap (λ (b : List ℕ). order_of b k.cpus most) (sym same) ∙ none.faulty)

    same_order : (blocks : List Block) → OrderCame d order_again k.cpus most between blocks new_again → blocks ≡ again.blocks
    same_order blocks came =
        let same = given.order_whole first came.bytes between came_first came.came in
        same_ok (order_of ran.bytes k.cpus most) again.blocks blocks again.reads (ap (λ (b : List ℕ). order_of b k.cpus most) (sym same) ∙ came.reads)

    no_order_fault : (line : ℕ) (w : OrderWhy) → OrderRefused d order_again k most line w between new_again → ⊥
    no_order_fault line cause.BadLine refused = no_text_fault _ refused
    no_order_fault line cause.BadCpu refused = no_text_fault _ refused
    no_order_fault line cause.ZeroCount refused = no_text_fault _ refused
    no_order_fault line cause.NotMerged refused = no_text_fault _ refused
    no_order_fault line cause.TooMany refused = no_text_fault _ refused
    no_order_fault line cause.TooLong refused = too_many (length ran.bytes) most_of_order short_order (given.order_cut first between came_first refused.1)
    no_order_fault line cause.Idle refused =
        no_idle_line k refused.0 line (subst (λ (blocks : List Block). IsFreeOfIdle k (turns blocks)) (sym (same_order refused.0 refused.1)) again.no_idle) refused.2

  never_refused : (line : ℕ) (w : OrderWhy) → IsRefusedAfter d name_again order_again most line w old_again new_again → ⊥
  never_refused line w refused =
      let is = same_scenario refused.from refused.between refused.came.bytes refused.came.came refused.came.valid in
      no_order_fault refused.came.bytes refused.between refused.came.came line w
      (subst (λ (s : ScenarioText). OrderRefused d order_again (boot (scenario_of s)) most line w refused.between new_again) is refused.refused)

  never_cut : IsTextCut d o (Solo name_again (Some order_again) most) old_again new_again before_again after_again ⊎
      IsCut d (Solo name_again (Some order_again) most) old_again new_again before_again after_again → ⊥
  never_cut (inl cut) = quiet.written cut.failed
  never_cut (inr cut) = cut.order

  wrote : (complete_again : Bool) → (it : IsWritten d o (Solo name_again (Some order_again) most) complete_again old_again new_again before_again after_again) →
      (complete_again ≡ complete) × WroteTheSame o before after before_again after_again
  wrote complete_again it =
      let scenario_same = same_scenario it.made.from it.made.between it.made.came.bytes it.made.came.came it.made.came.valid in
      let order_came : FileCame d most_of_order order_again it.made.between it.made.done.of_command.0.came.bytes new_again =
      subst (λ (x : D). FileCame d most_of_order order_again it.made.between it.made.done.of_command.0.came.bytes x) (sym it.order) it.made.done.of_command.0.came.came in
      let order_same = given.order_whole it.made.came.bytes it.made.done.of_command.0.came.bytes it.made.between it.made.came.came order_came in
      let both = same d name order name_again order_again most old ran.between old_again it.between complete complete_again ran.bytes ran.text it.bytes it.text limit ran.made it.made
      scenario_same order_same in
      (both.1, record { text = ran.text; first = ran.written; again = it.written ∙ ap (append_known (o.written before_again)) both.0 })

  pub repeated : (e : Exit) → IsAnswer d o (Solo name_again (Some order_again) most) e old_again new_again before_again after_again →
      IsRepeated o complete e before after before_again after_again
  repeated exit.Done it = let both = wrote true it in inr (ap exit_of_run both.0, both.1)
  repeated exit.Limit it = let both = wrote false it in inr (ap exit_of_run both.0, both.1)
  repeated exit.Memory it = inl refl
  repeated exit.Usage it = absurd it
  repeated exit.ReadFault it = absurd (never_unread it)
  repeated (exit.Scenario line w) it = absurd (no_scenario_fault line w it)
  repeated (exit.OrderFault line w) it = absurd (never_refused line w it)
  repeated exit.WriteFault it = absurd (never_cut it)
  repeated (exit.Twin line w) it = absurd it

-- WHERE FILES ARE TOLD

module _ {D : Type 0} (d : Depots D) (held : Files) where
  told_whole : (files : Option Files) (name came : List ℕ) → files ≡ Some held → IfSome files (λ h. get h name ≡ Some came) → came ≡ bytes_of held name
  told_whole (Some files) name came told is =
      let here : files ≡ held = ap (λ (f : Option Files). unwrap_or f held) told in
      sym (ap (λ (f : Option (List ℕ)). unwrap_or f []) (ap (λ (h : Files). get h name) (sym here) ∙ is))
  told_whole None name came told is = absurd (cc)

  told_cut : (files : Option Files) (name : List ℕ) (most : ℕ) → files ≡ Some held → IfSome files (λ h. most < length (bytes_of h name)) → most < length (bytes_of held name)
  told_cut (Some files) name most told is =
      let here : files ≡ held = ap (λ (f : Option Files). unwrap_or f held) told in subst (λ (h : Files). most < length (bytes_of h name)) here is
  told_cut None name most told is = absurd (cc)

  given_by_files : (name order scenario_bytes order_bytes : List ℕ) (old new : D) → d.files old ≡ Some held → bytes_of held name ≡ scenario_bytes → bytes_of held order ≡ order_bytes →
      AreGiven d name order scenario_bytes order_bytes old new
  given_by_files name order scenario_bytes order_bytes old new told is is_order = record {
    scenario_whole = λ came between file. told_whole (d.files old) name came told file.held ∙ is;
    scenario_cut = λ between file. subst (λ (b : List ℕ). most_of_scenario < length b) is (told_cut (d.files old) name most_of_scenario told file.held);
    order_whole = λ first came between file after. told_whole (d.files between) order came (file.same ∙ told) after.held ∙ is_order;
    order_cut = λ first between file after. subst (λ (b : List ℕ). most_of_order < length b) is_order (told_cut (d.files between) order most_of_order (file.same ∙ told) after.held);
  }

-- other names keep their bytes, and the name has those that were appended to none
abbrev same_name : List ℕ → List ℕ → Bool
same_name = eq_by_cmp (slice_cmp nat_cmp)

other_by : (is : Bool) {A : Type 0} (x y : A) → (is ≡ true → ⊥) → cond is x y ≡ y
other_by true x y not_so = absurd (not_so refl)
other_by false x y not_so = refl

others_stay : (held : Files) (name other bytes : List ℕ) → other ≢ name → bytes_of (appended held name bytes) other ≡ bytes_of held other
others_stay held name other [] apart = refl
others_stay held name other (b ∷ bs) apart =
    ap (λ (f : Option (List ℕ)). unwrap_or f [])
    (get-insert nat_list_cmp_total held name _ other
    ∙ other_by (same_name other name) _ (get held other) (λ is. apart (tells_apart (slice_cmp-IsAntisymmetric nat_cmp-IsAntisymmetric) other name is)))

first_append : (held : Files) (name bytes : List ℕ) → bytes_of held name ≡ [] → bytes_of (appended held name bytes) name ≡ bytes
first_append held name [] none = none
first_append held name (b ∷ bs) none =
    ap (λ (f : Option (List ℕ)). unwrap_or f [])
    (get-insert nat_list_cmp_total held name _ name
    ∙ ap (λ tie. cond tie (Some (bytes_of held name ++ b ∷ bs)) (get held name)) ((eq_by_cmp_equiv nat_list_cmp_total).refl name))
    ∙ ap (λ (l : List ℕ). l ++ b ∷ bs) none

module _ {D O : Type 0} (d : Depots D) (o : Sinks O) where
  pub repeated_all : AreRepeated d o
  repeated_all name order name_again order_again most complete e old new old_again new_again before after before_again after_again limit ran given quiet it =
      repeated d o name order name_again order_again most complete old new old_again new_again before after before_again after_again limit ran given quiet e it

  pub repeated_from_files : AreRepeatedFromFiles d o
  repeated_from_files name order most complete e held old new old_again new_again before after before_again after_again limit told none apart ran kept quiet it =
      let fetched : d.files ran.between ≡ Some held = ap d.files ran.made.done.of_command.1 ∙ ran.made.came.came.same ∙ told in
      let left : d.files old_again ≡ Some (appended held order ran.bytes) = kept ∙ ran.order.held ∙ ap (λ (f : Option Files). with_appended f order ran.bytes) fetched in
      let scenario_there : bytes_of (appended held order ran.bytes) name ≡ ran.made.came.bytes =
      others_stay held order name ran.bytes apart ∙ sym (told_whole d held (d.files old) name ran.made.came.bytes told ran.made.came.came.held) in
      let order_there = first_append held order ran.bytes none in
      repeated d o name order name order most complete old new old_again new_again before after before_again after_again limit ran
      (given_by_files d (appended held order ran.bytes) name order ran.made.came.bytes ran.bytes old_again new_again left scenario_there order_there) quiet e it
