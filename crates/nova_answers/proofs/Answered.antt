-- From what a command made and how it went out to the answer.
use Rattle.std.proofs.Common.{◌≡◌, ℕ, List, [], ◌∷◌, inl, inr, refl, ap, ◌∙◌, subst}
use Rattle.std.specs.Prelude.{◌⊎◌, take, Some, None}
use Rattle.nova_command.specs.declared.command.Command.{Command}
use Rattle.nova_command.specs.declared.command.Command.TheVariants.{Run, Solo, Check, Bench, Twin}
use Rattle.nova_io.specs.Faults.{IsShared, OthersStay, Rose, Stay}
use Rattle.nova_io.specs.Files.{with_appended}
use Rattle.nova_answers.specs.Exit.{IsUnwritten}
use Rattle.nova_answers.specs.Fetches.{AllOthersStay, Appends, Calls, Fetches, FetchesLines, FetchesOfRun, FetchesSecond, HasFiles, IsSharedByAny, LinesNamed, OtherFetchesStay, appended_before}
use Rattle.nova_answers.specs.Made.{IsOutcome}
use Rattle.nova_answers.specs.Main.{IsAnswer, HasOrderFailed, IsOrderOut, IsOrderCut}
use Rattle.nova_answers.specs.Names.{appended_names, names_of, names_in}
use Rattle.nova_io.specs.Outside.{Depots, Sinks}
use Rattle.nova_answers.specs.Sent.{IsSent}
use Rattle.nova_answers.specs.Servable.{IsServable, IsDoneOrStopped}
use Rattle.nova_answers.specs.declared.exit.Exit.{Exit}
use Rattle.nova_answers.specs.declared.exit.Exit.TheVariants as exit
use Rattle.nova_answers.specs.declared.outcome.Outcome.{Outcome}
use Rattle.nova_answers.specs.declared.subjects.Subjects.{Subjects}
use Rattle.nova_answers.proofs.Unread.{as_well}

-- a count that rose after it had stayed rose in all
rose_after : (first between last : ℕ) → between ≡ first → Rose between last → Rose first last
rose_after first between last same rose = subst (λ (n : ℕ). Rose n last) same rose

module _ {D : Type 0} (d : Depots D) where
  failed_in_all : (command : Command) (old between new : D) → Stay (d.append_faults old) (d.append_faults between) → HasOrderFailed d command between new →
      HasOrderFailed d command old new
  failed_in_all (Run name order most) old between new stayed failed =
      rose_after (d.append_faults old order) (d.append_faults between order) (d.append_faults new order) (stayed order) failed
  failed_in_all (Solo name order most) old between new stayed failed = failed
  failed_in_all (Check name) old between new stayed failed = failed
  failed_in_all (Bench number most) old between new stayed failed = failed
  failed_in_all (Twin name most) old between new stayed failed = failed

  -- THE DEPOT

  appends_whole : (command : Command) (bytes : List ℕ) (old new : D) → IsOrderOut d command bytes old new → Appends d command old new
  appends_whole (Run name order most) bytes old new out = (bytes, inl out.whole)
  appends_whole (Solo name order most) bytes old new out = out
  appends_whole (Check name) bytes old new out = out
  appends_whole (Bench number most) bytes old new out = out
  appends_whole (Twin name most) bytes old new out = out

  appends_part : (command : Command) (bytes : List ℕ) (old new : D) → IsOrderCut d command bytes old new → Appends d command old new
  appends_part (Run name order most) bytes old new cut = (bytes, inr cut.part)
  appends_part (Solo name order most) bytes old new cut = absurd cut
  appends_part (Check name) bytes old new cut = absurd cut
  appends_part (Bench number most) bytes old new cut = absurd cut
  appends_part (Twin name most) bytes old new cut = absurd cut

  files_whole : (command : Command) (e : Exit) (bytes : List ℕ) (old between new : D) → (IsUnwritten e → ⊥) → d.files between ≡ d.files old →
      IsOrderOut d command bytes between new → HasFiles d command e old new
  files_whole (Run name order most) e bytes old between new written same out =
      (bytes, out.held ∙ ap (λ files. with_appended files order bytes) same, λ (u : IsUnwritten e). absurd (written u))
  files_whole (Solo name order most) e bytes old between new written same out = ap d.files out ∙ same
  files_whole (Check name) e bytes old between new written same out = ap d.files out ∙ same
  files_whole (Bench number most) e bytes old between new written same out = ap d.files out ∙ same
  files_whole (Twin name most) e bytes old between new written same out = ap d.files out ∙ same

  files_part : (command : Command) (e : Exit) (bytes : List ℕ) (old between new : D) → (IsUnwritten e → ⊥) → d.files between ≡ d.files old →
      IsOrderCut d command bytes between new → HasFiles d command e old new
  files_part (Run name order most) e bytes old between new written same cut =
      (take cut.count bytes, cut.held ∙ ap (λ files. with_appended files order (take cut.count bytes)) same, λ (u : IsUnwritten e). absurd (written u))
  files_part (Solo name order most) e bytes old between new written same cut = absurd cut
  files_part (Check name) e bytes old between new written same cut = absurd cut
  files_part (Bench number most) e bytes old between new written same cut = absurd cut
  files_part (Twin name most) e bytes old between new written same cut = absurd cut

  called : (command : Command) (e : Exit) (old between new : D) → (IsUnwritten e → ⊥) → Fetches d command e old between → Appends d command between new →
      Calls d command e old new
  called command e old between new written fetches appends =
      record { between = between; fetches = fetches; appends = appends; none = λ (u : IsUnwritten e). absurd (written u) }

  -- the counts of appends, where before nothing was appended
  counts_stay : (names : List (List ℕ)) (old between new : D) → Stay (d.append_faults old) (d.append_faults between) → AllOthersStay d.append_faults names between new →
      AllOthersStay d.append_faults names old new
  counts_stay names old between new stayed others other = by_case (others other)
    where
      by_case : IsSharedByAny d.append_faults names other ⊎ (d.append_faults new other ≡ d.append_faults between other) →
          IsSharedByAny d.append_faults names other ⊎ (d.append_faults new other ≡ d.append_faults old other)
      by_case (inl shared) = inl shared
      by_case (inr same) = inr (same ∙ stayed other)

-- THE COUNTS OF FETCHES

module _ {D : Type 0} (d : Depots D) where
  one_name : (name : List ℕ) (old new : D) → OthersStay d.fetch_faults name old new → AllOthersStay d.fetch_faults (name ∷ []) old new
  one_name name old new others other = by_case (others other)
    where
      by_case : IsShared d.fetch_faults name other ⊎ (d.fetch_faults new other ≡ d.fetch_faults old other) →
          IsSharedByAny d.fetch_faults (name ∷ []) other ⊎ (d.fetch_faults new other ≡ d.fetch_faults old other)
      by_case (inl shared) = inl (inl shared)
      by_case (inr same) = inr same

  two_names : (name second : List ℕ) (old between new : D) → OthersStay d.fetch_faults name old between → OthersStay d.fetch_faults second between new →
      AllOthersStay d.fetch_faults (name ∷ second ∷ []) old new
  two_names name second old between new others others_too other = by_case (others other) (others_too other)
    where
      by_case : IsShared d.fetch_faults name other ⊎ (d.fetch_faults between other ≡ d.fetch_faults old other) →
          IsShared d.fetch_faults second other ⊎ (d.fetch_faults new other ≡ d.fetch_faults between other) →
          IsSharedByAny d.fetch_faults (name ∷ second ∷ []) other ⊎ (d.fetch_faults new other ≡ d.fetch_faults old other)
      by_case (inl shared) b = inl (inl shared)
      by_case (inr same) (inl shared) = inl (inr (inl shared))
      by_case (inr same) (inr same_too) = inr (same_too ∙ same)

  first_name : (name second : List ℕ) (old new : D) → OthersStay d.fetch_faults name old new → AllOthersStay d.fetch_faults (name ∷ second ∷ []) old new
  first_name name second old new others other = by_case (others other)
    where
      by_case : IsShared d.fetch_faults name other ⊎ (d.fetch_faults new other ≡ d.fetch_faults old other) →
          IsSharedByAny d.fetch_faults (name ∷ second ∷ []) other ⊎ (d.fetch_faults new other ≡ d.fetch_faults old other)
      by_case (inl shared) = inl (inl shared)
      by_case (inr same) = inr same

  -- the names of a part are among all names
  joined : (a b all : List (List ℕ)) (old between new : D) → ((other : List ℕ) → IsSharedByAny d.fetch_faults a other → IsSharedByAny d.fetch_faults all other) →
      ((other : List ℕ) → IsSharedByAny d.fetch_faults b other → IsSharedByAny d.fetch_faults all other) → AllOthersStay d.fetch_faults a old between →
      AllOthersStay d.fetch_faults b between new → AllOthersStay d.fetch_faults all old new
  joined a b all old between new among among_too others others_too other = by_case (others other) (others_too other)
    where
      by_case : IsSharedByAny d.fetch_faults a other ⊎ (d.fetch_faults between other ≡ d.fetch_faults old other) →
          IsSharedByAny d.fetch_faults b other ⊎ (d.fetch_faults new other ≡ d.fetch_faults between other) →
          IsSharedByAny d.fetch_faults all other ⊎ (d.fetch_faults new other ≡ d.fetch_faults old other)
      by_case (inl shared) x = inl (among other shared)
      by_case (inr same) (inl shared) = inl (among_too other shared)
      by_case (inr same) (inr same_too) = inr (same_too ∙ same)

  second_of_lines : (a b c e other : List ℕ) → IsSharedByAny d.fetch_faults (c ∷ e ∷ []) other → IsSharedByAny d.fetch_faults (a ∷ b ∷ c ∷ e ∷ []) other
  second_of_lines a b c e other shared = inr (inr shared)

  lines_of_all : (name : List ℕ) (names : List (List ℕ)) (other : List ℕ) → IsSharedByAny d.fetch_faults (name ∷ []) other → IsSharedByAny d.fetch_faults (name ∷ names) other
  lines_of_all name names other (inl shared) = inl shared
  lines_of_all name names other (inr none) = absurd none

  first_of_both : (a b c e other : List ℕ) → IsSharedByAny d.fetch_faults (a ∷ b ∷ []) other → IsSharedByAny d.fetch_faults (a ∷ b ∷ c ∷ e ∷ []) other
  first_of_both a b c e other (inl shared) = inl shared
  first_of_both a b c e other (inr (inl shared)) = inr (inl shared)
  first_of_both a b c e other (inr (inr none)) = absurd none

  pub run_names : (scenario order : List ℕ) (e : Exit) (old new : D) → FetchesOfRun d scenario order e old new → AllOthersStay d.fetch_faults (scenario ∷ order ∷ []) old new
  run_names scenario order e old new (inl f) = first_name scenario order old new f.others
  run_names scenario order e old new (inr f) = two_names scenario order old f.between new f.others f.order.others

  lines_names : (s : Subjects) (most : ℕ) (e : Exit) (old new : D) →
      FetchesOfRun d s.first.scenario s.first.order e old new ⊎ FetchesSecond d s most e old new → AllOthersStay d.fetch_faults (names_in s) old new
  lines_names s most e old new (inl f) =
      let all = run_names s.first.scenario s.first.order e old new f in
      λ other. widened (all other)
    where
      widened : {other : List ℕ} → IsSharedByAny d.fetch_faults (s.first.scenario ∷ s.first.order ∷ []) other ⊎ (d.fetch_faults new other ≡ d.fetch_faults old other) →
          IsSharedByAny d.fetch_faults (names_in s) other ⊎ (d.fetch_faults new other ≡ d.fetch_faults old other)
      widened {other} (inl shared) = inl (first_of_both s.first.scenario s.first.order s.second.scenario s.second.order other shared)
      widened {other} (inr same) = inr same
  lines_names s most e old new (inr f) =
      joined (s.first.scenario ∷ s.first.order ∷ []) (s.second.scenario ∷ s.second.order ∷ []) (names_in s) old f.between new
      (first_of_both s.first.scenario s.first.order s.second.scenario s.second.order) (second_of_lines s.first.scenario s.first.order s.second.scenario s.second.order)
      f.others (run_names s.second.scenario s.second.order e f.between new f.second)

  lines_named : (name : List ℕ) (most : ℕ) (e : Exit) (old new : D) → FetchesLines d name most e old new → LinesNamed d name old new
  lines_named name most e old new f = record {
    subjects = f.subjects;
    between = f.between;
    came = f.came;
    others = joined (name ∷ []) (names_in f.subjects) (name ∷ names_in f.subjects) old f.between new (lines_of_all name (names_in f.subjects)) (λ other shared. inr shared)
        (one_name name old f.between f.others) (lines_names f.subjects most e f.between new f.lines);
  }

  pub others_of : (command : Command) (e : Exit) (old new : D) → Fetches d command e old new → OtherFetchesStay d command old new
  others_of (Run name order most) e old new f = one_name name old new f.others
  others_of (Solo name None most) e old new f = one_name name old new f.others
  others_of (Solo name (Some order) most) e old new f = run_names name order e old new f
  others_of (Check name) e old new f = one_name name old new f.others
  others_of (Bench number most) e old new f = λ other. inr (ap (λ depot. d.fetch_faults depot other) f)
  others_of (Twin name most) e old new (inl f) = inl (one_name name old new f.others)
  others_of (Twin name most) e old new (inr f) = inr (lines_named name most e old new f)

  later : (names : List (List ℕ)) (old between new : D) → AllOthersStay d.fetch_faults names old between → Stay (d.fetch_faults between) (d.fetch_faults new) →
      AllOthersStay d.fetch_faults names old new
  later names old between new others stayed other = by_case (others other)
    where
      by_case : IsSharedByAny d.fetch_faults names other ⊎ (d.fetch_faults between other ≡ d.fetch_faults old other) →
          IsSharedByAny d.fetch_faults names other ⊎ (d.fetch_faults new other ≡ d.fetch_faults old other)
      by_case (inl shared) = inl shared
      by_case (inr same) = inr (stayed other ∙ same)

  -- the fetches end before the appends
  others_stay : (command : Command) (old between new : D) → OtherFetchesStay d command old between → Stay (d.fetch_faults between) (d.fetch_faults new) → OtherFetchesStay d command old new
  others_stay (Run name order most) old between new others stayed = later (names_of (Run name order most)) old between new others stayed
  others_stay (Solo name order most) old between new others stayed = later (names_of (Solo name order most)) old between new others stayed
  others_stay (Check name) old between new others stayed = later (names_of (Check name)) old between new others stayed
  others_stay (Bench number most) old between new others stayed = later (names_of (Bench number most)) old between new others stayed
  others_stay (Twin name most) old between new (inl others) stayed = inl (later (name ∷ []) old between new others stayed)
  others_stay (Twin name most) old between new (inr named) stayed = inr (record {
    subjects = named.subjects;
    between = named.between;
    came = named.came;
    others = later (name ∷ names_in named.subjects) old between new named.others stayed;
  })

  pub others_after : (command : Command) (e : Exit) (old between new : D) → Fetches d command e old between → Stay (d.fetch_faults between) (d.fetch_faults new) →
      OtherFetchesStay d command old new
  others_after command e old between new f stayed = others_stay command old between new (others_of command e old between f) stayed

module _ {D O : Type 0} (d : Depots D) (o : Sinks O) (command : Command) (made : Outcome) (old between new : D) (before after : O) where
  pub answered : (e : Exit) → IsOutcome d command old between made.is_complete made.order.items made.text.items → Stay (d.append_faults old) (d.append_faults between) →
      IsSent d o command made e between new before after → IsAnswer d o command e old new before after
  answered exit.Done m stayed s = record {
    bytes = made.order.items;
    text = made.text.items;
    between = between;
    made = subst (λ c. IsOutcome d command old between c made.order.items made.text.items) s.0 m;
    order = s.1.order;
    went = s.1.went;
    written = s.1.written;
  }
  answered exit.Limit m stayed s = record {
    bytes = made.order.items;
    text = made.text.items;
    between = between;
    made = subst (λ c. IsOutcome d command old between c made.order.items made.text.items) s.0 m;
    order = s.1.order;
    went = s.1.went;
    written = s.1.written;
  }
  answered exit.WriteFault m stayed (inl s) = inl (record {
    complete = made.is_complete;
    bytes = made.order.items;
    text = made.text.items;
    between = between;
    made = m;
    order = s.order;
    went = s.went;
    count = s.count;
    within = s.within;
    written = s.written;
    failed = s.failed;
  })
  answered exit.WriteFault m stayed (inr s) = inr (record {
    complete = made.is_complete;
    bytes = made.order.items;
    text = made.text.items;
    between = between;
    made = m;
    order = s.order;
    failed = failed_in_all d command old between new stayed s.failed;
    unwritten = s.unwritten;
  })
  answered exit.Usage m stayed s = absurd s
  answered exit.ReadFault m stayed s = absurd s
  answered (exit.Scenario line why_) m stayed s = absurd s
  answered (exit.OrderFault line why_) m stayed s = absurd s
  answered exit.Memory m stayed s = absurd s
  answered (exit.Twin line why_) m stayed s = absurd s

  no_order_failed : (c : Command) → Stay (d.append_faults old) (d.append_faults between) → HasOrderFailed d c between new → IsServable d o c old new before after → ⊥
  no_order_failed (Run name order most) stayed failed s = s.appended.0 (failed_in_all d (Run name order most) old between new stayed failed)
  no_order_failed (Solo name order most) stayed failed s = failed
  no_order_failed (Check name) stayed failed s = failed
  no_order_failed (Bench number most) stayed failed s = failed
  no_order_failed (Twin name most) stayed failed s = failed

  pub completed : (e : Exit) → Stay (d.append_faults old) (d.append_faults between) → IsSent d o command made e between new before after →
      IsServable d o command old new before after → IsDoneOrStopped e
  completed exit.Done stayed s able = inl refl
  completed exit.Limit stayed s able = inr (inl refl)
  completed exit.WriteFault stayed (inl s) able = absurd (able.written s.failed)
  completed exit.WriteFault stayed (inr s) able = absurd (no_order_failed command stayed s.failed able)
  completed exit.Usage stayed s able = absurd s
  completed exit.ReadFault stayed s able = absurd s
  completed (exit.Scenario line why_) stayed s able = absurd s
  completed (exit.OrderFault line why_) stayed s able = absurd s
  completed exit.Memory stayed s able = absurd s
  completed (exit.Twin line why_) stayed s able = absurd s

  pub written : (e : Exit) → IsSent d o command made e between new before after → IsUnwritten e → after ≡ before
  written exit.Done s unwritten = absurd unwritten
  written exit.Limit s unwritten = absurd unwritten
  written exit.WriteFault s unwritten = absurd unwritten
  written exit.Usage s unwritten = absurd s
  written exit.ReadFault s unwritten = absurd s
  written (exit.Scenario line why_) s unwritten = absurd s
  written (exit.OrderFault line why_) s unwritten = absurd s
  written exit.Memory s unwritten = absurd s
  written (exit.Twin line why_) s unwritten = absurd s

  pub all_calls : (e : Exit) → IsSent d o command made e between new before after → Fetches d command exit.Done old between → Calls d command e old new
  all_calls exit.Done s f = called d command exit.Done old between new (λ u. u) f (appends_whole d command made.order.items between new s.1.order)
  all_calls exit.Limit s f =
      called d command exit.Limit old between new (λ u. u) (as_well d command exit.Limit old between (λ name bytes a b came. came) f)
      (appends_whole d command made.order.items between new s.1.order)
  all_calls exit.WriteFault (inl s) f =
      called d command exit.WriteFault old between new (λ u. u) (as_well d command exit.WriteFault old between (λ name bytes a b came. came) f)
      (appends_whole d command made.order.items between new s.order)
  all_calls exit.WriteFault (inr s) f =
      called d command exit.WriteFault old between new (λ u. u) (as_well d command exit.WriteFault old between (λ name bytes a b came. came) f)
      (appends_part d command made.order.items between new s.order)
  all_calls exit.Usage s f = absurd s
  all_calls exit.ReadFault s f = absurd s
  all_calls (exit.Scenario line why_) s f = absurd s
  all_calls (exit.OrderFault line why_) s f = absurd s
  all_calls exit.Memory s f = absurd s
  all_calls (exit.Twin line why_) s f = absurd s

  pub all_files : (e : Exit) → IsSent d o command made e between new before after → d.files between ≡ d.files old → HasFiles d command e old new
  all_files exit.Done s same = files_whole d command exit.Done made.order.items old between new (λ u. u) same s.1.order
  all_files exit.Limit s same = files_whole d command exit.Limit made.order.items old between new (λ u. u) same s.1.order
  all_files exit.WriteFault (inl s) same = files_whole d command exit.WriteFault made.order.items old between new (λ u. u) same s.order
  all_files exit.WriteFault (inr s) same = files_part d command exit.WriteFault made.order.items old between new (λ u. u) same s.order
  all_files exit.Usage s same = absurd s
  all_files exit.ReadFault s same = absurd s
  all_files (exit.Scenario line why_) s same = absurd s
  all_files (exit.OrderFault line why_) s same = absurd s
  all_files exit.Memory s same = absurd s
  all_files (exit.Twin line why_) s same = absurd s

  pub all_counts : (e : Exit) → IsSent d o command made e between new before after → Stay (d.append_faults old) (d.append_faults between) →
      AllOthersStay d.append_faults (appended_names command) between new → AllOthersStay d.append_faults (appended_before e command) old new
  all_counts exit.Done s stayed others = counts_stay d (appended_names command) old between new stayed others
  all_counts exit.Limit s stayed others = counts_stay d (appended_names command) old between new stayed others
  all_counts exit.WriteFault s stayed others = counts_stay d (appended_names command) old between new stayed others
  all_counts exit.Usage s stayed others = absurd s
  all_counts exit.ReadFault s stayed others = absurd s
  all_counts (exit.Scenario line why_) s stayed others = absurd s
  all_counts (exit.OrderFault line why_) s stayed others = absurd s
  all_counts exit.Memory s stayed others = absurd s
  all_counts (exit.Twin line why_) s stayed others = absurd s
