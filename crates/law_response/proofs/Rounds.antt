-- Each round of round robin has one turn of a processor on which an execution context may run.
use Rattle.std.proofs.Common.{◌≡◌, ℕ, zero, suc, ◌<◌, ◌≤◌, ◌+◌, ◌-◌, List, [], ◌∷◌, ◌++◌, length, length-append, inl, inr, refl, sym, ap, ◌∙◌, subst, arith}
use Rattle.std.specs.Prelude.{◌≢◌, Bool, true, false, ◌==◌, nat_lt, Some, None, option_map}
use Rattle.std.specs.List.{AllByRecursion, Contains, concat}
use Rattle.std.proofs.lemmas.Bool.{eq-eqb, eqb-true}
use Rattle.nova_model.specs.Boot.{Scenario, boot}
use Rattle.nova_model.specs.Choice.{Candidate, next_to_act}
use Rattle.nova_model.specs.Edges.{state_in}
use Rattle.nova_model.specs.Forest.{ArePairs}
use Rattle.nova_model.specs.Runs.{after, run}
use Rattle.nova_model.specs.State.{KernelState}
use Rattle.nova_model.specs.Turn.{answer_of, turn}
use Rattle.nova_model.specs.declared.budget.Budget.{Budget}
use Rattle.nova_model.specs.declared.context.State.{State}
use Rattle.nova_model.specs.declared.event.Turn.TheVariants.{Idle, Stepped}
use Rattle.law_forest.specs.Turns.{Idles, Takes}
use Rattle.law_forest.proofs.Members.{IsIn, in_from_contains}
use Rattle.law_forest.proofs.Turning.{comes}
use Rattle.law_turns.specs.Rounds.{AreRounds, IsRound, below}
use Rattle.law_turns.proofs.Processors.{run_cpus}
use Rattle.law_turns.proofs.Ticks.{one_if}
use Rattle.law_response.specs.Waits.{IsSchedule, NeverActs, acts_itself, turns_at}
use Rattle.law_response.proofs.Choosing.{chosen_beside}
use Rattle.law_response.proofs.Responding.{reached_is_kept}
use Rattle.law_response.proofs.Selves.{itself_after, itself_may}
use Rattle.law_response.proofs.Waiting.{IsReached, after_schedule, reached_after, reached_stamped}

-- WHERE IT IS READY ITS PROCESSOR ISN'T IDLE

-- a scheduling context whose execution context acts by itself
record IsReady (k : KernelState) (sc ec cpu priority quantum : ℕ) (s : State) : Type 0 where
  reached : IsReached k
  budget : Budget
  schedule : IsSchedule k sc ec cpu priority quantum budget
  state : state_in k.contexts ec ≡ Some s
  acts : acts_itself s ≡ true

ready_after : (k : KernelState) (by sc ec cpu priority quantum : ℕ) (s : State) → IsReady k sc ec cpu priority quantum s →
    option_map (λ (c : Candidate). c.actor) (next_to_act k by) ≢ Some ec → IsReady (after k by) sc ec cpu priority quantum s
ready_after k by sc ec cpu priority quantum s r never =
    let a = after_schedule k by sc ec cpu priority quantum r.budget r.schedule in
    record {
      reached = reached_after k by r.reached;
      budget = a.budget;
      schedule = a.still;
      state = itself_after k by ec s (reached_is_kept k r.reached) r.state r.acts never;
      acts = r.acts;
    }

ready_run : (k : KernelState) (part later : List ℕ) (sc ec cpu priority quantum : ℕ) (s : State) → IsReady k sc ec cpu priority quantum s → NeverActs k ec (part ++ later) →
    IsReady (run k part) sc ec cpu priority quantum s × NeverActs (run k part) ec later
ready_run k [] later sc ec cpu priority quantum s r never = (r, never)
ready_run k (by ∷ part) later sc ec cpu priority quantum s r (first, never) = ready_run (after k by) part later sc ec cpu priority quantum s (ready_after k by sc ec cpu priority quantum s r first) never

not_idle : (k : KernelState) (sc ec cpu priority quantum : ℕ) (s : State) → IsReady k sc ec cpu priority quantum s → turn k cpu ≢ None
not_idle k sc ec cpu priority quantum s r idle = elim (comes k cpu) [
  | Idles none moment same answer ↦
      (let ch = chosen_beside k sc ec cpu priority quantum r.budget (reached_stamped k r.reached) r.schedule (itself_may k ec s (reached_is_kept k r.reached) r.state r.acts) in
      let both : None ≡ Some ch.chosen = sym none ∙ ch.choice in cc)
  | Takes t e is state answer ↦ (let both : Idle ≡ Stepped e = sym (ap answer_of idle) ∙ answer in cc)
]

-- A ROUND HAS ONE TURN OF THE PROCESSOR

none_later : (cpu : ℕ) (order : List ℕ) → AllByRecursion (λ c. cpu < c) order → turns_at cpu order ≡ 0
none_later cpu [] all = refl
none_later cpu (c ∷ order) all =
    let other : (c == cpu) ≡ false = let more = all.0 in grind arith in
    let none : one_if (c == cpu) ≡ 0 = ap one_if other in
    let rest = none_later cpu order all.1 in
    omega (arith, none, rest)

one_at_most : (cpu : ℕ) (order : List ℕ) → ArePairs (λ one next. one < next) order → turns_at cpu order ≤ 1
one_at_most cpu [] rising = omega arith
one_at_most cpu (c ∷ order) rising = by_test (c == cpu) refl (one_at_most cpu order rising.1)
  where
    by_test : (t : Bool) → (c == cpu) ≡ t → turns_at cpu order ≤ 1 → turns_at cpu (c ∷ order) ≤ 1
    by_test true is rest =
        let none = none_later cpu order (subst (λ (n : ℕ). AllByRecursion (λ c. n < c) order) (eqb-true c cpu is) rising.0) in
        let one : one_if (c == cpu) ≡ 1 = ap one_if is in omega (arith, one, none)
    by_test false is rest = let none : one_if (c == cpu) ≡ 0 = ap one_if is in omega (arith, none, rest)

has_turn : (cpu : ℕ) (order : List ℕ) → IsIn order cpu → 1 ≤ turns_at cpu order
has_turn cpu [] i = absurd i
has_turn cpu (c ∷ order) (inl same) = let one : one_if (c == cpu) ≡ 1 = ap one_if (eq-eqb c cpu same) in omega (arith, one)
has_turn cpu (c ∷ order) (inr later) = let rest = has_turn cpu order later in omega (arith, rest)

-- the turns of processors below one come first
record Splits (cpu : ℕ) (order : List ℕ) : Type 0 where
  rest : List ℕ
  whole : order ≡ below cpu order ++ rest

none_lower : (cpu first : ℕ) (order : List ℕ) → cpu ≤ first → AllByRecursion (λ c. first < c) order → below cpu order ≡ []
none_lower cpu first [] least all = refl
none_lower cpu first (c ∷ order) least all =
    let not_less : nat_lt c cpu ≡ false = let more = all.0 in grind arith in
    rw not_less (none_lower cpu first order least all.1)

splits : (cpu : ℕ) (order : List ℕ) → ArePairs (λ one next. one < next) order → Splits cpu order
splits cpu [] rising = record { rest = []; whole = refl }
splits cpu (c ∷ order) rising = by_test (nat_lt c cpu) refl (splits cpu order rising.1)
  where
    by_test : (t : Bool) → nat_lt c cpu ≡ t → Splits cpu order → Splits cpu (c ∷ order)
    by_test true is rest = record { rest = rest.rest; whole = rw is (ap (λ (l : List ℕ). c ∷ l) rest.whole) }
    by_test false is rest =
        let least : cpu ≤ c = grind arith in
        record { rest = c ∷ order; whole = rw is (ap (λ (l : List ℕ). l ++ c ∷ order) (sym (none_lower cpu c order least rising.0))) }

turns_both : (cpu : ℕ) (xs ys : List ℕ) → turns_at cpu (xs ++ ys) ≡ turns_at cpu xs + turns_at cpu ys
turns_both cpu [] ys = omega arith
turns_both cpu (x ∷ xs) ys = let rest = turns_both cpu xs ys in omega (arith, rest)

first_never : (k : KernelState) (ec : ℕ) (part later : List ℕ) → NeverActs k ec (part ++ later) → NeverActs k ec part
first_never k ec [] later never = tt
first_never k ec (by ∷ part) later (first, never) = (first, first_never (after k by) ec part later never)

one_round : (k : KernelState) (order : List ℕ) (most sc ec cpu priority quantum : ℕ) (s : State) → IsReady k sc ec cpu priority quantum s → IsRound k most order → cpu < k.cpus →
    length order < most → NeverActs k ec order → turns_at cpu order ≡ 1
one_round k order most sc ec cpu priority quantum s r round there fewer never = by_count (turns_at cpu order) refl
  where
    parts : Splits cpu order
    parts = splits cpu order round.rising

    idle : (Contains order cpu → ⊥) → ⊥
    idle out =
        let all = ap length parts.whole ∙ length-append (below cpu order) parts.rest in
        let ready = (ready_run k (below cpu order) parts.rest sc ec cpu priority quantum s r (subst (NeverActs k ec) parts.whole never)).0 in
        not_idle (run k (below cpu order)) sc ec cpu priority quantum s ready (round.left_out cpu there out (omega (arith, all, fewer)))

    by_count : (n : ℕ) → turns_at cpu order ≡ n → turns_at cpu order ≡ 1
    by_count zero is = absurd (idle (λ c. let some = has_turn cpu order (in_from_contains order cpu c) in omega (arith, some, is)))
    by_count (suc n) is = let most = one_at_most cpu order round.rising in omega (arith, most, is)

-- ROUNDS

all_rounds : (k : KernelState) (rounds : List (List ℕ)) (most sc ec cpu priority quantum : ℕ) (s : State) → IsReady k sc ec cpu priority quantum s → AreRounds k most rounds → cpu < k.cpus →
    length (concat rounds) < most → NeverActs k ec (concat rounds) → turns_at cpu (concat rounds) ≡ length rounds
all_rounds k [] most sc ec cpu priority quantum s r are there fewer never = refl
all_rounds k (order ∷ orders) most sc ec cpu priority quantum s r (round, are) there fewer never =
    let both = length-append order (concat orders) in
    let later = ready_run k order (concat orders) sc ec cpu priority quantum s r never in
    let first = one_round k order most sc ec cpu priority quantum s r round there (omega (arith, both, fewer)) (first_never k ec order (concat orders) never) in
    let still : cpu < (run k order).cpus = subst (λ (n : ℕ). cpu < n) (sym (run_cpus k order)) there in
    let rest = all_rounds (run k order) orders (most - length order) sc ec cpu priority quantum s later.0 are still (omega (arith, both, fewer)) later.1 in
    let sum = turns_both cpu order (concat orders) in
    omega (arith, first, rest, sum)

pub served_by_rounds : (s : Scenario) (before : List ℕ) (rounds : List (List ℕ)) (most sc ec cpu priority quantum : ℕ) (b : Budget) (x : State) → cpu < (run (boot s) before).cpus →
    IsSchedule (run (boot s) before) sc ec cpu priority quantum b → state_in (run (boot s) before).contexts ec ≡ Some x → acts_itself x ≡ true →
    AreRounds (run (boot s) before) most rounds → length (concat rounds) < most → NeverActs (run (boot s) before) ec (concat rounds) → turns_at cpu (concat rounds) ≡ length rounds
served_by_rounds s before rounds most sc ec cpu priority quantum b x there its state acts are fewer never =
    let r : IsReached (run (boot s) before) = record { scenario = s; turns = before; is = refl } in
    all_rounds (run (boot s) before) rounds most sc ec cpu priority quantum x (record { reached = r; budget = b; schedule = its; state = state; acts = acts }) are there fewer never
