-- Turns of a processor while a scheduling context waits there.
use Rattle.std.proofs.Common.{◌≡◌, ℕ, ◌<◌, ◌≤◌, ◌+◌, ◌-◌, List, [], ◌∷◌, ◌++◌, length, refl, sym, ap, ap₂, ◌∙◌, subst, arith}
use Rattle.std.specs.Prelude.{◌≢◌, Bool, true, false, ◌==◌, ◌&&◌, nat_lt, slice_get, slice_set, is_some, Option, Some, None}
use Rattle.std.proofs.lemmas.Bool.{eqb-true, eqb-false, ne_eqb}
use Rattle.nova_objects.specs.declared.object.Object.{Object}
use Rattle.nova_objects.specs.declared.object.Object.TheVariants.{Sc}
use Rattle.nova_model.specs.Boot.{Scenario, boot}
use Rattle.nova_model.specs.Choice.{Candidate, choice, next_to_act}
use Rattle.nova_model.specs.Runs.{after, run}
use Rattle.nova_model.specs.State.{KernelState, budget_at, entry}
use Rattle.nova_model.specs.Times.{due_on}
use Rattle.nova_model.specs.Turn.{budget_after, is_spent}
use Rattle.nova_model.specs.declared.budget.Budget.{Budget}
use Rattle.nova_model.specs.declared.times.Due.{Due}
use Rattle.law_forest.specs.Effects.{Falls}
use Rattle.law_forest.proofs.Turning.{acts_next, event_at, idle_none, passing_none}
use Rattle.law_turns.proofs.Candidates.{schedule_of, the_chosen}
use Rattle.law_turns.proofs.Paying.{Comes, Idles, IsTurn, Passes, Takes, comes, still_budget, still_object}
use Rattle.law_turns.proofs.Setting.{entry_itself, entry_other}
use Rattle.law_turns.proofs.Stamps.{AreStamped, run_stamped}
use Rattle.law_turns.proofs.TablesFit.{boot_run_fits}
use Rattle.law_turns.proofs.Ticks.{lengths, one_if}
use Rattle.law_response.specs.Waits.{HasWaited, IsSchedule, MayRun, StaysRunnable, ahead, is_above, is_due, is_paid_by, paid_in, turns_left, full_quantum}
use Rattle.law_response.proofs.Choosing.{Above, Before, IsBeside, Itself, candidate_of_schedule, chosen_beside}
use Rattle.law_response.proofs.Rings.{after_ahead, is_before, is_peer_at}

-- REACHED STATES

pub record IsReached (k : KernelState) : Type 0 where
  pub scenario : Scenario
  pub turns : List ℕ
  pub is : k ≡ run (boot scenario) turns

pub run_one : (k : KernelState) (turns : List ℕ) (by : ℕ) → run k (turns ++ by ∷ []) ≡ after (run k turns) by
run_one k [] by = refl
run_one k (t ∷ turns) by = run_one (after k t) turns by

abbrev pub reached_after : (k : KernelState) (by : ℕ) → IsReached k → IsReached (after k by)
reached_after k by r = record {
  scenario = r.scenario;
  turns = r.turns ++ by ∷ [];
  is = ap (λ (s : KernelState). after s by) r.is ∙ sym (run_one (boot r.scenario) r.turns by);
}

pub reached_stamped : (k : KernelState) → IsReached k → AreStamped k.objects k.budgets k.next_stamp
reached_stamped k r = subst (λ (s : KernelState). AreStamped s.objects s.budgets s.next_stamp) (sym r.is) (run_stamped r.scenario r.turns)

reached_lengths : (k : KernelState) → IsReached k → length k.budgets ≡ length k.objects
reached_lengths k r = subst (λ (s : KernelState). length s.budgets ≡ length s.objects) (sym r.is) (lengths (run (boot r.scenario) r.turns) (boot_run_fits r.scenario r.turns))

-- WHAT BECOMES OF A SCHEDULING CONTEXT

-- it stays as it is, or it pays: it keeps its stamp with a turn less, or takes a new one
pub data HasGone (k : KernelState) (by sc quantum : ℕ) (b x : Budget) : Type 0 where
  Stays : is_paid_by sc (next_to_act k by) ≡ false → x ≡ b → HasGone k by sc quantum b x
  Pays : is_paid_by sc (next_to_act k by) ≡ true → 1 < turns_left b → turns_left x + 1 ≡ turns_left b → x.stamp ≡ b.stamp → HasGone k by sc quantum b x
  Renews : is_paid_by sc (next_to_act k by) ≡ true → turns_left b ≡ 1 → turns_left x ≡ full_quantum quantum → HasGone k by sc quantum b x

pub record IsAfter (k : KernelState) (by sc ec cpu priority quantum : ℕ) (b : Budget) : Type 0 where
  pub budget : Budget
  pub still : IsSchedule (after k by) sc ec cpu priority quantum budget
  pub gone : HasGone k by sc quantum b budget

pub after_schedule : (k : KernelState) (by sc ec cpu priority quantum : ℕ) (b : Budget) → IsSchedule k sc ec cpu priority quantum b → IsAfter k by sc ec cpu priority quantum b
after_schedule k by sc ec cpu priority quantum b its = by_turn (comes k by)
  where
    nobody : after k by ≡ after k by → (after k by).objects ≡ k.objects → (after k by).budgets ≡ k.budgets → next_to_act k by ≡ None → IsAfter k by sc ec cpu priority quantum b
    nobody same objects budgets none = record {
      budget = b;
      still = record {
        object = ap (λ (os : List Object). slice_get os sc) objects ∙ its.object;
        budget = ap (λ (bs : List (Option Budget)). entry (slice_get bs sc)) budgets ∙ its.budget;
      };
      gone = Stays (ap (is_paid_by sc) none) refl;
    }

    spends : (next its_quantum : ℕ) → its_quantum ≡ quantum → is_paid_by sc (next_to_act k by) ≡ true → (t : Bool) → (b.left - 1 == 0) ≡ t →
        HasGone k by sc quantum b (budget_after t its_quantum next b)
    spends next its_quantum same paid true is = let last : b.left - 1 ≡ 0 = grind arith in Renews paid (omega arith) (ap full_quantum same)
    spends next its_quantum same paid false is = let more : 1 ≤ b.left - 1 = grind arith in Pays paid (omega arith) (omega arith) refl

    takes : (c : Candidate) → next_to_act k by ≡ Some c → (t : IsTurn k (after k by) by c) → (u : Bool) → (c.sc == sc) ≡ u → IsAfter k by sc ec cpu priority quantum b
    takes c chosen t true is =
        let same : c.sc ≡ sc = eqb-true c.sc sc is in
        let both : Some t.its.budget ≡ Some b = sym t.its.there ∙ ap (budget_at k) same ∙ its.budget in
        let one : t.its.budget ≡ b = cc in
        let objects : Some (Sc t.its.ec by t.its.priority t.its.quantum) ≡ Some (Sc ec cpu priority quantum) = sym t.its.object ∙ ap (slice_get k.objects) same ∙ its.object in
        let quanta : t.its.quantum ≡ quantum = cc in
        let x : Budget = budget_after (is_spent b) t.its.quantum t.between.next_stamp b in
        let there : entry (slice_get t.between.budgets sc) ≡ Some b = ap (λ (n : ℕ). entry (slice_get t.between.budgets n)) (sym same) ∙ t.there ∙ both in
        let set : (after k by).budgets ≡ slice_set t.between.budgets sc (Some x) =
        t.budgets ∙ ap₂ (λ (n : ℕ) (y : Budget). slice_set t.between.budgets n (Some (budget_after (is_spent y) t.its.quantum t.between.next_stamp y))) same one in
        record {
          budget = x;
          still = record {
            object = ap (λ (os : List Object). slice_get os sc) t.objects ∙ still_object k t.between c.actor sc (Sc ec cpu priority quantum) t.adds its.object;
            budget = ap (λ (bs : List (Option Budget)). entry (slice_get bs sc)) set ∙ entry_itself t.between.budgets sc x (rw there refl);
          };
          gone = spends t.between.next_stamp t.its.quantum quanta (ap (is_paid_by sc) chosen ∙ is) (is_spent b) refl;
        }
    takes c chosen t false is =
        let other : sc ≢ c.sc = λ same. eqb-false c.sc sc is (sym same) in
        let x : Budget = budget_after (is_spent t.its.budget) t.its.quantum t.between.next_stamp t.its.budget in
        record {
          budget = b;
          still = record {
            object = ap (λ (os : List Object). slice_get os sc) t.objects ∙ still_object k t.between c.actor sc (Sc ec cpu priority quantum) t.adds its.object;
            budget =
                ap (λ (bs : List (Option Budget)). entry (slice_get bs sc)) t.budgets
                ∙ entry_other t.between.budgets c.sc sc x other
                ∙ still_budget k t.between c.actor sc b t.adds its.budget;
          };
          gone = Stays (ap (is_paid_by sc) chosen ∙ is) refl;
        }

    by_turn : Comes k (after k by) by (event_at k by) → IsAfter k by sc ec cpu priority quantum b
    by_turn (Idles none is no_event) = nobody refl (ap (λ (s : KernelState). s.objects) is) (ap (λ (s : KernelState). s.budgets) is) none
    by_turn (Passes p is none event) = nobody refl (ap (λ (s : KernelState). s.objects) is) (ap (λ (s : KernelState). s.budgets) is) none
    by_turn (Takes c chosen t event) = takes c chosen t (c.sc == sc) refl

-- ONE TURN

-- a turn of the processor is due, of a greater priority, its own, or of one before it
abbrev Sum : Bool → Bool → Bool → Bool → Bool → Type 0
Sum here due above paid before = one_if here ≡ one_if (here && due) + (one_if (here && above) + (one_if paid + one_if before))

abbrev pub Counts : KernelState → ℕ → ℕ → ℕ → ℕ → ℕ → Type 0
Counts k by cpu sc priority stamp =
    Sum (by == cpu) (is_due k by) (is_above priority (next_to_act k by)) (is_paid_by sc (next_to_act k by)) (is_before k cpu priority stamp (next_to_act k by))

summed : (k : KernelState) (by cpu sc priority stamp : ℕ) (here due above paid before : Bool) → (by == cpu) ≡ here → is_due k by ≡ due →
    is_above priority (next_to_act k by) ≡ above → is_paid_by sc (next_to_act k by) ≡ paid → is_before k cpu priority stamp (next_to_act k by) ≡ before →
    Sum here due above paid before → Counts k by cpu sc priority stamp
summed k by cpu sc priority stamp here due above paid before h d a p f sum =
    subst (λ (t : Bool). Sum t (is_due k by) (is_above priority (next_to_act k by)) (is_paid_by sc (next_to_act k by)) (is_before k cpu priority stamp (next_to_act k by))) (sym h)
    (subst (λ (t : Bool). Sum here t (is_above priority (next_to_act k by)) (is_paid_by sc (next_to_act k by)) (is_before k cpu priority stamp (next_to_act k by))) (sym d)
    (subst (λ (t : Bool). Sum here due t (is_paid_by sc (next_to_act k by)) (is_before k cpu priority stamp (next_to_act k by))) (sym a)
    (subst (λ (t : Bool). Sum here due above t (is_before k cpu priority stamp (next_to_act k by))) (sym p) (subst (λ (t : Bool). Sum here due above paid t) (sym f) sum))))

-- none acts
sum_none : (here : Bool) → Sum here true false false false
sum_none true = refl
sum_none false = refl

-- whether a chosen scheduling context stands before the stamp
before_is : (k : KernelState) (by cpu priority stamp : ℕ) (c : Candidate) → choice k by ≡ Some c →
    is_before k cpu priority stamp (Some c) ≡ (((by == cpu) && (c.priority == priority)) && nat_lt c.stamp stamp)
before_is k by cpu priority stamp c is =
    let candidate = the_chosen k by c is in
    let schedule = schedule_of k by c candidate in
    let same : c.priority ≡ schedule.priority = (candidate_of_schedule k by c c.sc schedule.ec by schedule.priority schedule.quantum candidate refl schedule.object).ranks in
    ap (λ (o : Option Object). is_peer_at cpu priority o && nat_lt c.stamp stamp) schedule.object
    ∙ ap (λ (n : ℕ). ((by == cpu) && (n == priority)) && nat_lt c.stamp stamp) (sym same)

-- one of another processor pays for none of its turns
pub not_paid : (k : KernelState) (by cpu sc ec priority quantum : ℕ) (c : Candidate) → (by == cpu) ≡ false → choice k by ≡ Some c → slice_get k.objects sc ≡ Some (Sc ec cpu priority quantum) →
    (c.sc == sc) ≡ false
not_paid k by cpu sc ec priority quantum c apart is object = by_test (c.sc == sc) refl
  where
    by_test : (t : Bool) → (c.sc == sc) ≡ t → t ≡ false
    by_test true same =
        let schedule = schedule_of k by c (the_chosen k by c is) in
        let number : c.sc ≡ sc = eqb-true c.sc sc same in
        let both : Some (Sc schedule.ec by schedule.priority schedule.quantum) ≡ Some (Sc ec cpu priority quantum) = sym schedule.object ∙ ap (slice_get k.objects) number ∙ object in
        let one : by ≡ cpu = cc in
        absurd (eqb-false by cpu apart one)
    by_test false same = refl

counted : (k : KernelState) (by sc ec cpu priority quantum : ℕ) (b : Budget) → AreStamped k.objects k.budgets k.next_stamp → IsSchedule k sc ec cpu priority quantum b →
    (by ≡ cpu → is_due k by ≡ false → MayRun k ec) → Counts k by cpu sc priority b.stamp
counted k by sc ec cpu priority quantum b stamped its may = by_due (due_on k.times by) refl
  where
    chosen : (here above paid equal less : Bool) (c : Candidate) → due_on k.times by ≡ None → choice k by ≡ Some c → (by == cpu) ≡ here → nat_lt priority c.priority ≡ above → (c.sc == sc) ≡ paid →
        (c.priority == priority) ≡ equal → nat_lt c.stamp b.stamp ≡ less → Sum here false above paid ((here && equal) && less) → Counts k by cpu sc priority b.stamp
    chosen here above paid equal less c calm is h a p e l sum =
        let acts : next_to_act k by ≡ Some c = acts_next k by c is calm in
        summed k by cpu sc priority b.stamp here false above paid ((here && equal) && less) h (ap is_some calm)
        (ap (is_above priority) acts ∙ a) (ap (is_paid_by sc) acts ∙ p)
        (ap (is_before k cpu priority b.stamp) acts
        ∙ before_is k by cpu priority b.stamp c is
        ∙ ap₂ (λ (s t : Bool). (s && t) && nat_lt c.stamp b.stamp) h e
        ∙ ap (λ (t : Bool). (here && equal) && t) l)
        sum

    of_itself : (equal less : Bool) → less ≡ false → Sum true false false true ((true && equal) && less)
    of_itself true less is = rw is refl
    of_itself false less is = refl

    of_above : (equal less : Bool) → equal ≡ false → Sum true false true false ((true && equal) && less)
    of_above equal less is = rw is refl

    beside : (by == cpu) ≡ true → due_on k.times by ≡ None → (c : Candidate) → choice k by ≡ Some c → IsBeside sc priority b.stamp c → Counts k by cpu sc priority b.stamp
    beside same calm c is (Itself number equal stamp) =
        chosen true false true (c.priority == priority) (nat_lt c.stamp b.stamp) c calm is same (grind arith) (grind arith) refl refl
        (of_itself (c.priority == priority) (nat_lt c.stamp b.stamp) (grind arith))
    beside same calm c is (Above number greater) =
        chosen true true false (c.priority == priority) (nat_lt c.stamp b.stamp) c calm is same (grind arith) (ne_eqb c.sc sc number) refl refl
        (of_above (c.priority == priority) (nat_lt c.stamp b.stamp) (grind arith))
    beside same calm c is (Before number equal less) =
        chosen true false false true true c calm is same (grind arith) (ne_eqb c.sc sc number) (grind arith) (grind arith) refl

    none_here : (by == cpu) ≡ false → due_on k.times by ≡ None → (o : Option Candidate) → choice k by ≡ o → Counts k by cpu sc priority b.stamp
    none_here apart calm None is =
        let nobody : next_to_act k by ≡ None = idle_none k by is in
        summed k by cpu sc priority b.stamp false false false false false apart (ap is_some calm) (ap (is_above priority) nobody) (ap (is_paid_by sc) nobody)
        (ap (is_before k cpu priority b.stamp) nobody) refl
    none_here apart calm (Some c) is =
        chosen false (nat_lt priority c.priority) false (c.priority == priority) (nat_lt c.stamp b.stamp) c calm is apart refl
        (not_paid k by cpu sc ec priority quantum c apart is its.object) refl refl refl

    calm_turn : due_on k.times by ≡ None → (t : Bool) → (by == cpu) ≡ t → Counts k by cpu sc priority b.stamp
    calm_turn calm true same =
        let at : by ≡ cpu = eqb-true by cpu same in
        let here : IsSchedule k sc ec by priority quantum b = subst (λ (n : ℕ). IsSchedule k sc ec n priority quantum b) (sym at) its in
        let ch = chosen_beside k sc ec by priority quantum b stamped here (may at (ap is_some calm)) in
        beside same calm ch.chosen ch.choice ch.beside
    calm_turn calm false apart = none_here apart calm (choice k by) refl

    by_due : (o : Option Due) → due_on k.times by ≡ o → Counts k by cpu sc priority b.stamp
    by_due (Some what) is =
        let nobody : next_to_act k by ≡ None = passing_none k by (Falls what) is in
        summed k by cpu sc priority b.stamp (by == cpu) true false false false refl (ap is_some is) (ap (is_above priority) nobody) (ap (is_paid_by sc) nobody)
        (ap (is_before k cpu priority b.stamp) nobody) (sum_none (by == cpu))
    by_due None is = calm_turn is (by == cpu) refl

-- what one turn of any processor comes to
pub one_turn : (k : KernelState) (by sc ec cpu priority quantum : ℕ) (b : Budget) → IsReached k → IsSchedule k sc ec cpu priority quantum b → (by ≡ cpu → is_due k by ≡ false → MayRun k ec) →
    one_if (by == cpu) + ahead (after k by) cpu priority b.stamp
    ≡ one_if ((by == cpu) && is_due k by)
    + (one_if ((by == cpu) && is_above priority (next_to_act k by)) + (one_if (is_paid_by sc (next_to_act k by)) + ahead k cpu priority b.stamp))
one_turn k by sc ec cpu priority quantum b reached its may =
    let stamped = reached_stamped k reached in
    let below = stamped.below sc b its.budget in
    let sum = counted k by sc ec cpu priority quantum b stamped its may in
    let fell = after_ahead k by cpu priority b.stamp (reached_lengths k reached) (omega arith) in
    omega (arith, sum, fell)

-- ALL OF THEM

-- one more in front of them
waited_on : (k : KernelState) (by : ℕ) (turns : List ℕ) (sc ec cpu priority quantum : ℕ) (b : Budget) → IsReached k → IsSchedule k sc ec cpu priority quantum b →
    (by ≡ cpu → is_due k by ≡ false → MayRun k ec) → paid_in k sc (by ∷ turns) < turns_left b → (a : IsAfter k by sc ec cpu priority quantum b) →
    (paid_in (after k by) sc turns < turns_left a.budget → HasWaited (after k by) turns sc ec cpu priority quantum a.budget) → HasWaited k (by ∷ turns) sc ec cpu priority quantum b
waited_on k by turns sc ec cpu priority quantum b reached its may few a goes = by_gone a.gone
  where
    first : one_if (by == cpu) + ahead (after k by) cpu priority b.stamp
        ≡ one_if ((by == cpu) && is_due k by)
        + (one_if ((by == cpu) && is_above priority (next_to_act k by)) + (one_if (is_paid_by sc (next_to_act k by)) + ahead k cpu priority b.stamp))
    first = one_turn k by sc ec cpu priority quantum b reached its may

    further : (paid : Bool) → is_paid_by sc (next_to_act k by) ≡ paid → a.budget.stamp ≡ b.stamp → turns_left a.budget + one_if paid ≡ turns_left b →
        HasWaited k (by ∷ turns) sc ec cpu priority quantum b
    further paid is stamp left =
        let once : one_if (is_paid_by sc (next_to_act k by)) ≡ one_if paid = ap one_if is in
        let rest = goes (omega (arith, once, left, few)) in
        let at_end = ap (λ (n : ℕ). ahead (run (after k by) turns) cpu priority n) stamp in
        let at_start = ap (λ (n : ℕ). ahead (after k by) cpu priority n) stamp in
        record {
          budget = rest.budget;
          still = rest.still;
          stamp = rest.stamp ∙ stamp;
          left = omega (arith, rest.left, once, left);
          count = omega (arith, rest.count, at_end, at_start, first);
        }

    by_gone : HasGone k by sc quantum b a.budget → HasWaited k (by ∷ turns) sc ec cpu priority quantum b
    by_gone (Stays none same) = further false none (ap (λ (x : Budget). x.stamp) same) (let e = ap turns_left same in omega (arith, e))
    by_gone (Pays paid more left stamp) = further true paid stamp left
    by_gone (Renews paid last full) = let once : one_if (is_paid_by sc (next_to_act k by)) ≡ 1 = ap one_if paid in absurd (omega (arith, once, last, few))

pub waited : (k : KernelState) (turns : List ℕ) (sc ec cpu priority quantum : ℕ) (b : Budget) → IsReached k → IsSchedule k sc ec cpu priority quantum b → StaysRunnable k cpu ec turns →
    paid_in k sc turns < turns_left b → HasWaited k turns sc ec cpu priority quantum b
waited k [] sc ec cpu priority quantum b reached its stays few = record {
  budget = b;
  still = its;
  stamp = refl;
  left = omega arith;
  count = omega arith;
}
waited k (by ∷ turns) sc ec cpu priority quantum b reached its (may, stays) few =
    let a = after_schedule k by sc ec cpu priority quantum b its in
    waited_on k by turns sc ec cpu priority quantum b reached its may few a
    (λ less. waited (after k by) turns sc ec cpu priority quantum a.budget (reached_after k by reached) a.still stays less)

pub reached_waited : (s : Scenario) (before turns : List ℕ) (sc ec cpu priority quantum : ℕ) (b : Budget) → IsSchedule (run (boot s) before) sc ec cpu priority quantum b →
    StaysRunnable (run (boot s) before) cpu ec turns → paid_in (run (boot s) before) sc turns < turns_left b → HasWaited (run (boot s) before) turns sc ec cpu priority quantum b
reached_waited s before turns sc ec cpu priority quantum b its stays few =
    waited (run (boot s) before) turns sc ec cpu priority quantum b (record { scenario = s; turns = before; is = refl }) its stays few
