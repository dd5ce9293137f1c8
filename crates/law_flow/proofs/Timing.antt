-- What is to come on a processor of the side's is the same in two states.
use Rattle.std.proofs.Common.{◌≡◌, ◌⊎◌, ℕ, ◌+◌, zero, suc, List, [], ◌∷◌, ◌++◌, refl, sym, ap, ap₂, ◌∙◌, subst, inl, inr, arith}
use Rattle.std.specs.Prelude.{Bool, true, false, ◌==◌, ◌&&◌, is_some, not, slice_get, slice_index, option_map, option_and_then, Option, Some, None, if◌then◌else◌}
use Rattle.std.specs.List.{find, list_all}
use Rattle.std.proofs.lemmas.Bool.{eqb-true}
use Rattle.std.proofs.lemmas.Option.{same_Some}
use Rattle.nova_objects.specs.declared.object.Object.{Object}
use Rattle.nova_objects.specs.declared.object.Object.TheVariants.{Pd, Ec, Sc, Pt, Sm}
use Rattle.nova_model.specs.Capabilities.{is_ec}
use Rattle.nova_model.specs.Edges.{state_in}
use Rattle.nova_model.specs.State.{KernelState, context_at, deadline_of, entry, processor_in, processor_of}
use Rattle.nova_model.specs.Times.{Entry, alarm_entries, alarm_entry, before_rest, clock, comes_before, deadline_entries, deadline_entry, due_on, goes_on, if_due, next_entry}
use Rattle.nova_model.specs.declared.context.State.TheVariants.{Blocked}
use Rattle.nova_model.specs.declared.times.AlarmState.{AlarmState}
use Rattle.nova_model.specs.declared.times.Deadline.{Deadline}
use Rattle.nova_model.specs.declared.times.Due.TheVariants as due
use Rattle.law_turns.proofs.Deadlines.{at_home}
use Rattle.law_turns.proofs.TablesKept.{context_is}
use Rattle.law_turns.proofs.Serving.{state_there}
use Rattle.law_isolation.specs.Sound.{IsSound}
use Rattle.law_flow.specs.Flow.{AreAlike, IsSide}
use Rattle.law_flow.specs.Processors.{AreTimed, IsAtHome}

-- LISTS OF WHAT NUMBERS HAVE

-- of a list that is numbered from n on what each has, or nothing
abbrev pub listed : {X Y : Type 0} → (ℕ → X → Option Y) → ℕ → List X → List Y
listed f n [] = []
listed f n (x ∷ xs) = before_rest (f n x) (listed f (n + 1) xs)

-- two lists in which each number has the same list the same, however much longer one of them is
pub listed_same : {X Y : Type 0} (f g : ℕ → X → Option Y) (n : ℕ) (xs ys : List X) →
    ((i m : ℕ) → m ≡ n + i → option_and_then (g m) (slice_get ys i) ≡ option_and_then (f m) (slice_get xs i)) → listed g n ys ≡ listed f n xs
listed_same f g n [] [] same = refl
listed_same {X} {Y} f g n [] (y ∷ ys) same =
    ap₂ (λ (o : Option Y) (l : List Y). before_rest o l) (same 0 n (omega arith)) (listed_same f g (n + 1) [] ys (λ i m e. same (suc i) m (omega (arith, e))))
listed_same {X} {Y} f g n (x ∷ xs) [] same =
    sym (ap₂ (λ (o : Option Y) (l : List Y). before_rest o l) (sym (same 0 n (omega arith))) (sym (listed_same f g (n + 1) xs [] (λ i m e. same (suc i) m (omega (arith, e))))))
listed_same {X} {Y} f g n (x ∷ xs) (y ∷ ys) same =
    ap₂ (λ (o : Option Y) (l : List Y). before_rest o l) (same 0 n (omega arith)) (listed_same f g (n + 1) xs ys (λ i m e. same (suc i) m (omega (arith, e))))

alarms_listed : (cpu n : ℕ) (xs : List AlarmState) → alarm_entries cpu n xs ≡ listed (alarm_entry cpu) n xs
alarms_listed cpu n [] = refl
alarms_listed cpu n (a ∷ xs) = ap (before_rest (alarm_entry cpu n a)) (alarms_listed cpu (n + 1) xs)

deadlines_listed : (cpu n : ℕ) (ds : List (Option Deadline)) → deadline_entries cpu n ds ≡ listed (deadline_entry cpu) n ds
deadlines_listed cpu n [] = refl
deadlines_listed cpu n (d ∷ ds) = ap (before_rest (deadline_entry cpu n d)) (deadlines_listed cpu (n + 1) ds)

-- ALARMS

alarm_here : (cpu n : ℕ) (a : AlarmState) (e : Entry) → alarm_entry cpu n a ≡ Some e → a.alarm.cpu ≡ cpu
alarm_here cpu n a e is = by_test (a.alarm.cpu == cpu) refl is
  where
    by_test : (t : Bool) → (a.alarm.cpu == cpu) ≡ t → (if t && goes_on a then Some (record { moment = a.next; what = due.Alarm n }) else None) ≡ Some e → a.alarm.cpu ≡ cpu
    by_test true same h = eqb-true a.alarm.cpu cpu same
    by_test false same h = absurd (cc)

alarms_same : (k l : KernelState) (P C : ℕ → Type 0) (cpu : ℕ) → AreTimed k l P C → C cpu → alarm_entries cpu 0 l.times.alarms ≡ alarm_entries cpu 0 k.times.alarms
alarms_same k l P C cpu t c =
    alarms_listed cpu 0 l.times.alarms
    ∙ listed_same (alarm_entry cpu) (alarm_entry cpu) 0 k.times.alarms l.times.alarms (λ i m e. by_number m i (slice_get k.times.alarms i) refl (slice_get l.times.alarms i) refl)
    ∙ sym (alarms_listed cpu 0 k.times.alarms)
  where
    forth : (m i : ℕ) (a : AlarmState) → slice_get k.times.alarms i ≡ Some a → (o : Option Entry) → alarm_entry cpu m a ≡ o → option_and_then (alarm_entry cpu m) (slice_get l.times.alarms i) ≡ o ⊎ (o ≡ None)
    forth m i a at None is = inr refl
    forth m i a at (Some e) is = inl (ap (option_and_then (alarm_entry cpu m)) (t.alarms i a at (subst C (sym (alarm_here cpu m a e is)) c)) ∙ is)

    back : (m i : ℕ) (a : AlarmState) → slice_get l.times.alarms i ≡ Some a → (o : Option Entry) → alarm_entry cpu m a ≡ o → option_and_then (alarm_entry cpu m) (slice_get k.times.alarms i) ≡ o ⊎ (o ≡ None)
    back m i a at None is = inr refl
    back m i a at (Some e) is = inl (ap (option_and_then (alarm_entry cpu m)) (t.same_alarms i a at (subst C (sym (alarm_here cpu m a e is)) c)) ∙ is)

    by_number : (m i : ℕ) (o : Option AlarmState) → slice_get k.times.alarms i ≡ o → (p : Option AlarmState) → slice_get l.times.alarms i ≡ p →
        option_and_then (alarm_entry cpu m) (slice_get l.times.alarms i) ≡ option_and_then (alarm_entry cpu m) (slice_get k.times.alarms i)
    by_number m i None at None also = ap (option_and_then (alarm_entry cpu m)) also ∙ sym (ap (option_and_then (alarm_entry cpu m)) at)
    by_number m i (Some a) at p also = elim (forth m i a at (alarm_entry cpu m a) refl) [
      | inl same ↦ same ∙ sym (ap (option_and_then (alarm_entry cpu m)) at)
      | inr none ↦ by_other p also none
    ]
      where
        by_other : (p : Option AlarmState) → slice_get l.times.alarms i ≡ p → alarm_entry cpu m a ≡ None →
            option_and_then (alarm_entry cpu m) (slice_get l.times.alarms i) ≡ option_and_then (alarm_entry cpu m) (slice_get k.times.alarms i)
        by_other None also none = ap (option_and_then (alarm_entry cpu m)) also ∙ sym (ap (option_and_then (alarm_entry cpu m)) at ∙ none)
        by_other (Some b) also none = elim (back m i b also (alarm_entry cpu m b) refl) [
          | inl same ↦ ap (option_and_then (alarm_entry cpu m)) also ∙ sym same
          | inr nothing ↦ ap (option_and_then (alarm_entry cpu m)) also ∙ nothing ∙ sym (ap (option_and_then (alarm_entry cpu m)) at ∙ none)
        ]
    by_number m i None at (Some b) also = elim (back m i b also (alarm_entry cpu m b) refl) [
      | inl same ↦ ap (option_and_then (alarm_entry cpu m)) also ∙ sym same
      | inr nothing ↦ ap (option_and_then (alarm_entry cpu m)) also ∙ nothing ∙ sym (ap (option_and_then (alarm_entry cpu m)) at)
    ]

-- DEADLINES

-- a context with a deadline on a processor of the side's is of the side
pub deadline_mine : (k : KernelState) (S P C : ℕ → Type 0) → IsSound k → IsSide k S P → IsAtHome k S P C → (n : ℕ) (d : Deadline) → deadline_of k.times n ≡ Some d → C d.cpu → P n
deadline_mine k S P C sound side home n d at c = by_object (slice_get k.objects n) refl kind processor
  where
    awaits : state_in k.contexts n ≡ Some (Blocked d.sm)
    awaits = (sound.kept.deadlines n d at).blocked

    there : is_some (context_at k n) ≡ true
    there = state_there (context_at k n) (Blocked d.sm) awaits

    kind : option_map is_ec (slice_get k.objects n) ≡ Some true
    kind = context_is k n there sound.kept.tables

    processor : processor_of k n ≡ d.cpu
    processor =
        let both : Some (processor_of k n) ≡ Some d.cpu = sym (at_home k n there sound.kept.tables) ∙ (sound.kept.deadlines n d at).processor in
        same_Some (processor_of k n) d.cpu both

    by_object : (o : Option Object) → slice_get k.objects n ≡ o → option_map is_ec o ≡ Some true → processor_in o ≡ d.cpu → P n
    by_object (Some (Ec pd cpu its event)) is h same = elim (home.strangers n pd cpu its event is (subst C (sym same) c)) [
      | inl s ↦ side.members n pd cpu its event is s
      | inr still ↦ absurd (let both : None ≡ Some d = sym still.deadline ∙ at in cc)
    ]
    by_object (Some Pd) is h same = absurd (cc)
    by_object (Some (Sc ec cpu priority quantum)) is h same = absurd (cc)
    by_object (Some (Pt ec mtd ip)) is h same = absurd (cc)
    by_object (Some Sm) is h same = absurd (cc)
    by_object None is h same = absurd (cc)

deadline_here : (cpu n : ℕ) (d : Deadline) (e : Entry) → deadline_entry cpu n (Some d) ≡ Some e → d.cpu ≡ cpu
deadline_here cpu n d e is = by_test (d.cpu == cpu) refl is
  where
    by_test : (t : Bool) → (d.cpu == cpu) ≡ t → (if t then Some (record { moment = d.at; what = due.Deadline n }) else None) ≡ Some e → d.cpu ≡ cpu
    by_test true same h = eqb-true d.cpu cpu same
    by_test false same h = absurd (cc)

-- the entry of a number, where nothing or no context is there
at_number : (cpu n : ℕ) (o : Option (Option Deadline)) → option_and_then (deadline_entry cpu n) o ≡ deadline_entry cpu n (entry o)
at_number cpu n None = refl
at_number cpu n (Some None) = refl
at_number cpu n (Some (Some d)) = refl

deadlines_same : (k l : KernelState) (S P C : ℕ → Type 0) (cpu : ℕ) → IsSound k → IsSound l → IsSide k S P → IsSide l S P → IsAtHome k S P C → IsAtHome l S P C → AreAlike k l S P → C cpu →
    deadline_entries cpu 0 l.times.deadlines ≡ deadline_entries cpu 0 k.times.deadlines
deadlines_same k l S P C cpu sound also side other home abroad a c =
    deadlines_listed cpu 0 l.times.deadlines
    ∙ listed_same (deadline_entry cpu) (deadline_entry cpu) 0 k.times.deadlines l.times.deadlines (λ i m e.
    at_number cpu m (slice_get l.times.deadlines i) ∙ by_number m i (deadline_of k.times i) refl (deadline_of l.times i) refl ∙ sym (at_number cpu m (slice_get k.times.deadlines i)))
    ∙ sym (deadlines_listed cpu 0 k.times.deadlines)
  where
    same_at : (i : ℕ) → P i → deadline_of l.times i ≡ deadline_of k.times i
    same_at i p = ap (λ (o : Option (Option Deadline)). entry o) (a.deadlines i p)

    -- an entry of either is one of the side's
    ours : (m i : ℕ) (d : Deadline) → deadline_of k.times i ≡ Some d → (o : Option Entry) → deadline_entry cpu m (Some d) ≡ o → (o ≡ None) ⊎ P i
    ours m i d at None is = inl refl
    ours m i d at (Some e) is = inr (deadline_mine k S P C sound side home i d at (subst C (sym (deadline_here cpu m d e is)) c))

    theirs : (m i : ℕ) (d : Deadline) → deadline_of l.times i ≡ Some d → (o : Option Entry) → deadline_entry cpu m (Some d) ≡ o → (o ≡ None) ⊎ P i
    theirs m i d at None is = inl refl
    theirs m i d at (Some e) is = inr (deadline_mine l S P C also other abroad i d at (subst C (sym (deadline_here cpu m d e is)) c))

    by_number : (m i : ℕ) (o : Option Deadline) → deadline_of k.times i ≡ o → (p : Option Deadline) → deadline_of l.times i ≡ p →
        deadline_entry cpu m (deadline_of l.times i) ≡ deadline_entry cpu m (deadline_of k.times i)
    by_number m i None at None there = ap (deadline_entry cpu m) there ∙ sym (ap (deadline_entry cpu m) at)
    by_number m i None at (Some d) there = elim (theirs m i d there (deadline_entry cpu m (Some d)) refl) [
      | inl none ↦ ap (deadline_entry cpu m) there ∙ none ∙ sym (ap (deadline_entry cpu m) at)
      | inr p ↦ ap (deadline_entry cpu m) (same_at i p)
    ]
    by_number m i (Some d) at p there = elim (ours m i d at (deadline_entry cpu m (Some d)) refl) [
      | inl none ↦ by_other p there none
      | inr q ↦ ap (deadline_entry cpu m) (same_at i q)
    ]
      where
        by_other : (p : Option Deadline) → deadline_of l.times i ≡ p → deadline_entry cpu m (Some d) ≡ None → deadline_entry cpu m (deadline_of l.times i) ≡ deadline_entry cpu m (deadline_of k.times i)
        by_other None there none = ap (deadline_entry cpu m) there ∙ sym (ap (deadline_entry cpu m) at ∙ none)
        by_other (Some e) there none = elim (theirs m i e there (deadline_entry cpu m (Some e)) refl) [
          | inl nothing ↦ ap (deadline_entry cpu m) there ∙ nothing ∙ sym (ap (deadline_entry cpu m) at ∙ none)
          | inr q ↦ ap (deadline_entry cpu m) (same_at i q)
        ]

-- WHAT IS DUE

pub entries_same : (k l : KernelState) (S P C : ℕ → Type 0) (cpu : ℕ) → IsSound k → IsSound l → IsSide k S P → IsSide l S P → IsAtHome k S P C → IsAtHome l S P C → AreAlike k l S P → AreTimed k l P C → C cpu →
    next_entry l.times cpu ≡ next_entry k.times cpu
unfolding next_entry
entries_same k l S P C cpu sound also side other home abroad a t c =
    ap (λ (es : List Entry). find (λ x. list_all (λ y. not (comes_before y x)) es) es)
    (ap₂ (λ (xs ys : List Entry). xs ++ ys) (alarms_same k l P C cpu t c) (deadlines_same k l S P C cpu sound also side other home abroad a c))

pub clock_same : (k l : KernelState) (P C : ℕ → Type 0) (cpu : ℕ) → AreTimed k l P C → C cpu → clock l.times cpu ≡ clock k.times cpu
clock_same k l P C cpu t c = index_same l.times.clocks k.times.clocks cpu (t.clocks cpu c)
  where
    index_same : (xs ys : List ℕ) (n : ℕ) → slice_get xs n ≡ slice_get ys n → slice_index xs n ≡ slice_index ys n
    index_same [] [] n h = refl
    index_same [] (y ∷ ys) zero h = absurd (cc)
    index_same [] (y ∷ ys) (suc n) h = index_same [] ys n h
    index_same (x ∷ xs) [] zero h = absurd (cc)
    index_same (x ∷ xs) [] (suc n) h = index_same xs [] n h
    index_same (x ∷ xs) (y ∷ ys) zero h = same_Some x y h
    index_same (x ∷ xs) (y ∷ ys) (suc n) h = index_same xs ys n h

pub due_same : (k l : KernelState) (P C : ℕ → Type 0) (cpu : ℕ) → AreTimed k l P C → C cpu → next_entry l.times cpu ≡ next_entry k.times cpu → due_on l.times cpu ≡ due_on k.times cpu
due_same k l P C cpu t c same = ap₂ (λ (now : ℕ) (o : Option Entry). option_and_then (if_due now) o) (clock_same k l P C cpu t c) same
