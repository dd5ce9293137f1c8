-- From a source's moment to a guest that its driver recalls.
use Rattle.std.proofs.Common.{◌≡◌, ℕ, ◌<◌, ◌≤◌, ◌+◌, ◌*◌, List, [], ◌∷◌, ◌++◌, inl, inr, refl, sym, ap, ◌∙◌, arith}
use Rattle.std.specs.Prelude.{true, slice_get, Some}
use Rattle.std.proofs.lemmas.Bool.{cases_lt}
use Rattle.std.proofs.lemmas.Nat.{mul-le}
use Rattle.nova_objects.specs.declared.object.Object.{Object}
use Rattle.nova_model.specs.Boot.{Scenario, boot}
use Rattle.nova_model.specs.Deeds.{deed, recall}
use Rattle.nova_model.specs.Edges.{state_in}
use Rattle.nova_model.specs.Runs.{after, run}
use Rattle.nova_model.specs.State.{KernelState, context}
use Rattle.nova_model.specs.Times.{clock}
use Rattle.nova_model.specs.declared.budget.Budget.{Budget}
use Rattle.nova_model.specs.declared.context.State.TheVariants.{Ready}
use Rattle.nova_model.specs.declared.deed.Deed.TheVariants.{Raises}
use Rattle.law_turns.proofs.Passes.{run_append}
use Rattle.law_response.specs.Creating.{OutranksOthers}
use Rattle.law_response.specs.Dues.{deadlines_on, sets_in}
use Rattle.law_response.specs.Reactions.{IsAtMoment, IsReaction, rings_within}
use Rattle.law_response.specs.Waits.{IsSchedule, NeverActs, StaysRunnable, above_in, due_in, full_quantum, others, others_in, paid_in, turns_at}
use Rattle.law_response.proofs.Called.{first_there}
use Rattle.law_response.proofs.Coming.{Called, Here, IsComing, stays_coming}
use Rattle.law_response.proofs.Creating.{dead_after}
use Rattle.law_response.proofs.Dues.{dues}
use Rattle.law_response.proofs.Highest.{turn_goes}
use Rattle.law_response.proofs.Jobs.{renewed_within}
use Rattle.law_response.proofs.Prefixes.{clocks_most, due_append, first_turns, none_before, none_first, others_fewer, paid_append, reached_run, run_schedule, sets_fewer, stays_append, turns_append}
use Rattle.law_response.proofs.Recalled.{recalled_deed}
use Rattle.law_response.proofs.Responding.{reached_is_kept}
use Rattle.law_response.proofs.Sharing.{before_others, shared}
use Rattle.law_response.proofs.Waiting.{IsReached, after_schedule, reached_after}

-- UP TO THE RECALL

outranks_same : (k : KernelState) (by cpu sc priority : ℕ) → IsReached k → (after k by).objects ≡ k.objects → OutranksOthers k cpu sc priority → OutranksOthers (after k by) cpu sc priority
outranks_same k by cpu sc priority r objects outranks n e p quantum at other =
    elim (outranks n e p quantum (ap (λ (os : List Object). slice_get os n) (sym objects) ∙ at) other) [
      | inl less ↦ inl less
      | inr dead ↦ inr (dead_after k by e (reached_is_kept k r) dead)
    ]

-- where no object is made, each turn is due or the highest priority's, as long as it may run
every_turn : (k : KernelState) (turns : List ℕ) (sc ec cpu priority quantum : ℕ) (b : Budget) → IsReached k → (run k turns).objects ≡ k.objects → IsSchedule k sc ec cpu priority quantum b →
    OutranksOthers k cpu sc priority → StaysRunnable k cpu ec turns → turns_at cpu turns ≡ due_in k cpu turns + paid_in k sc turns
every_turn k [] sc ec cpu priority quantum b r nothing its outranks stays = refl
every_turn k (by ∷ turns) sc ec cpu priority quantum b r nothing its outranks (may, stays) =
    let a = after_schedule k by sc ec cpu priority quantum b its in
    let none = none_first k by turns nothing in
    let first = turn_goes k by sc ec cpu priority quantum b r its outranks may in
    let rest = every_turn (after k by) turns sc ec cpu priority quantum a.budget (reached_after k by r) (nothing ∙ sym none) a.still (outranks_same k by cpu sc priority r none outranks) stays in
    omega (arith, first, rest)

up_to_recall : (k : KernelState) (waits works rest : List ℕ) (cpu driver_sc driver guest_sc guest priority quantum work begun : ℕ) → IsReached k →
    IsAtMoment k cpu driver_sc driver guest_sc guest priority quantum → IsReaction k waits works rest cpu driver_sc driver priority work begun →
    turns_at cpu (waits ++ works) ≡ due_in k cpu (waits ++ works) + paid_in (run k waits) driver_sc works
up_to_recall k waits works rest cpu driver_sc driver guest_sc guest priority quantum work begun r at goes =
    let coming : IsComing k driver cpu = Called (record {
      number = at.number;
      alarm = at.alarm;
      at = at.there;
      its = at.home;
      more = at.goes;
      come = at.come;
      first = first_there k.semaphores at.alarm.alarm.sm driver at.behind at.first;
    }) in
    let so = stays_coming k waits driver_sc driver cpu at.rank at.its_quantum at.its_budget r at.drives coming goes.never in
    let stays = stays_append k cpu driver waits works so.stays goes.runs in
    let nothing = none_before k (waits ++ works) rest goes.nothing in
    let all = every_turn k (waits ++ works) driver_sc driver cpu at.rank at.its_quantum at.its_budget r nothing at.drives at.outranks stays in
    let none = so.none in
    let paid = paid_append k driver_sc waits works in
    omega (arith, all, none, paid)

-- FROM THE RECALL ON

-- the guest's equals come once, and once for each renewal
in_rounds : (k : KernelState) (turns : List ℕ) (sc ec cpu priority quantum own rounds equals : ℕ) (b : Budget) (r : IsReached k) → 1 ≤ r.scenario.root.quantum →
    IsSchedule k sc ec cpu priority quantum b → StaysRunnable k cpu ec turns → own ≤ rounds * full_quantum quantum + 1 → paid_in k sc turns < own →
    others k cpu priority sc ≡ equals → others (run k turns) cpu priority sc ≡ equals →
    turns_at cpu turns < due_in k cpu turns + (above_in k cpu priority turns + (own + (equals + rounds * equals)))
in_rounds k turns sc ec cpu priority quantum own rounds equals b r least its stays most paid first last =
    let sh = shared k turns sc ec cpu priority quantum b r least its stays in
    let few = renewed_within sh.renewals rounds (full_quantum quantum) (paid_in k sc turns) own sh.often paid most in
    let more = mul-le sh.renewals equals rounds equals few (omega arith) in
    let same = ap (λ (n : ℕ). sh.renewals * n) last in
    let front = before_others k sc ec cpu priority quantum b r least its in
    let count = sh.count in
    omega (arith, count, same, more, front, first, paid)

-- ALL OF THEM

same_others : (k l : KernelState) (cpu priority sc : ℕ) → l.objects ≡ k.objects → others l cpu priority sc ≡ others k cpu priority sc
same_others k l cpu priority sc objects = ap (others_in cpu priority sc 0) objects

not_due : (k : KernelState) (waits works rest : List ℕ) (cpu driver_sc driver guest_sc guest priority quantum work begun own rounds : ℕ) (r : IsReached k) → 1 ≤ r.scenario.root.quantum →
    IsAtMoment k cpu driver_sc driver guest_sc guest priority quantum → IsReaction k waits works rest cpu driver_sc driver priority work begun →
    StaysRunnable (run k (waits ++ works)) cpu guest rest → own ≤ rounds * full_quantum quantum + 1 → paid_in (run k (waits ++ works)) guest_sc rest < own →
    turns_at cpu ((waits ++ works) ++ rest) < due_in k cpu ((waits ++ works) ++ rest) + (work + (own + (others k cpu priority guest_sc + rounds * others k cpu priority guest_sc)))
not_due k waits works rest cpu driver_sc driver guest_sc guest priority quantum work begun own rounds r least at goes stays most paid =
    let early : List ℕ = waits ++ works in
    let first = up_to_recall k waits works rest cpu driver_sc driver guest_sc guest priority quantum work begun r at goes in
    let its = run_schedule k early guest_sc guest cpu priority quantum at.budget at.runs in
    let before = same_others k (run k early) cpu priority guest_sc (none_before k early rest goes.nothing) in
    let ends = same_others k (run (run k early) rest) cpu priority guest_sc (ap (λ (s : KernelState). s.objects) (sym (run_append k early rest)) ∙ goes.nothing) in
    let from = in_rounds (run k early) rest guest_sc guest cpu priority quantum own rounds (others k cpu priority guest_sc) its.0 (reached_run k early r) least its.1 stays most paid before ends in
    let turns = turns_append cpu early rest in
    let due = due_append k cpu early rest in
    let counts = goes.most in
    omega (arith, first, from, turns, due, counts)

reacts : (k : KernelState) (waits works rest : List ℕ) (cpu driver_sc driver guest_sc guest priority quantum work begun own rounds response : ℕ) (r : IsReached k) → 1 ≤ r.scenario.root.quantum →
    IsAtMoment k cpu driver_sc driver guest_sc guest priority quantum → IsReaction k waits works rest cpu driver_sc driver priority work begun →
    StaysRunnable (run k (waits ++ works)) cpu guest rest → own ≤ rounds * full_quantum quantum + 1 →
    rings_within k cpu response + (deadlines_on k cpu + (begun + (work + (own + (others k cpu priority guest_sc + rounds * others k cpu priority guest_sc))))) ≤ response →
    paid_in (run k (waits ++ works)) guest_sc rest < own → turns_at cpu ((waits ++ works) ++ rest) < response
reacts k waits works rest cpu driver_sc driver guest_sc guest priority quantum work begun own rounds response r least at goes stays most enough paid =
    elim (cases_lt (turns_at cpu all) response) [
      | inl less ↦ less
      | inr reaches ↦ absurd (late reaches)
    ]
  where
    all : List ℕ
    all = (waits ++ works) ++ rest

    late : response ≤ turns_at cpu all → ⊥
    late reaches =
        let p = first_turns cpu response all reaches in
        let time = clocks_most k cpu p.part in
        let count = p.count in
        let come = dues k p.part cpu (clock k.times cpu + response) r (omega (arith, time, count)) in
        let sets = sets_fewer k cpu p.part p.later in
        let set = ap (sets_in k cpu) p.whole in
        let few = goes.few in
        let fewer = others_fewer k cpu p.part p.later in
        let turns = ap (turns_at cpu) p.whole in
        let due = ap (due_in k cpu) p.whole in
        let calm = not_due k waits works rest cpu driver_sc driver guest_sc guest priority quantum work begun own rounds r least at goes stays most paid in
        omega (arith, count, come, sets, set, few, fewer, turns, due, calm, enough)

pub jobs_in_time : (s : Scenario) (before waits works rest : List ℕ) (cpu driver_sc driver guest_sc guest priority quantum work begun own rounds response : ℕ) → 1 ≤ s.root.quantum →
    IsAtMoment (run (boot s) before) cpu driver_sc driver guest_sc guest priority quantum → IsReaction (run (boot s) before) waits works rest cpu driver_sc driver priority work begun →
    StaysRunnable (run (run (boot s) before) (waits ++ works)) cpu guest rest → own ≤ rounds * full_quantum quantum + 1 →
    rings_within (run (boot s) before) cpu response
    + (deadlines_on (run (boot s) before) cpu
    + (begun + (work + (own + (others (run (boot s) before) cpu priority guest_sc + rounds * others (run (boot s) before) cpu priority guest_sc))))) ≤ response →
    paid_in (run (run (boot s) before) (waits ++ works)) guest_sc rest < own → turns_at cpu ((waits ++ works) ++ rest) < response
jobs_in_time s before waits works rest cpu driver_sc driver guest_sc guest priority quantum work begun own rounds response least at goes stays most enough paid =
    reacts (run (boot s) before) waits works rest cpu driver_sc driver guest_sc guest priority quantum work begun own rounds response (record { scenario = s; turns = before; is = refl }) least
    at goes stays most enough paid

pub exits_in_time : (s : Scenario) (before waits works rest : List ℕ) (cpu driver_sc driver guest_sc guest priority quantum work begun response : ℕ) → 1 ≤ s.root.quantum →
    IsAtMoment (run (boot s) before) cpu driver_sc driver guest_sc guest priority quantum → IsReaction (run (boot s) before) waits works rest cpu driver_sc driver priority work begun →
    state_in (run (run (boot s) before) (waits ++ works)).contexts guest ≡ Some Ready → (context (run (run (boot s) before) (waits ++ works)) guest).recall ≡ true →
    NeverActs (run (run (boot s) before) (waits ++ works)) guest rest →
    rings_within (run (boot s) before) cpu response
    + (deadlines_on (run (boot s) before) cpu + (begun + (work + (others (run (boot s) before) cpu priority guest_sc + 1)))) ≤ response →
    (turns_at cpu ((waits ++ works) ++ rest) < response) × (deed (run (run (boot s) before) ((waits ++ works) ++ rest)) guest ≡ Raises recall 0 0)
exits_in_time s before waits works rest cpu driver_sc driver guest_sc guest priority quantum work begun response least at goes ready asked never enough =
    let k : KernelState = run (boot s) before in
    let early : List ℕ = waits ++ works in
    let r : IsReached k = record { scenario = s; turns = before; is = refl } in
    let its = run_schedule k early guest_sc guest cpu priority quantum at.budget at.runs in
    let later : IsReached (run k early) = reached_run k early r in
    let so = stays_coming (run k early) rest guest_sc guest cpu priority quantum its.0 later its.1 (Here (record { state = Ready; is = ready; acts = refl })) never in
    let none = so.none in (
      reacts k waits works rest cpu driver_sc driver guest_sc guest priority quantum work begun 1 0 response r least at goes so.stays (omega arith) (omega (arith, enough)) (omega (arith, none)),
      ap (λ (l : KernelState). deed l guest) (run_append k early rest) ∙ recalled_deed (run k early) rest guest later ready asked never,
    )
