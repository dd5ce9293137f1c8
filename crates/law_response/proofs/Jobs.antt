-- A job of some turns ends within its response time: the least number of turns that is enough for the demand of others and for it.
use Rattle.std.proofs.lemmas.Nat.{mul-le}
use Rattle.std.proofs.Common.{◌≡◌, ℕ, zero, suc, ◌<◌, ◌≤◌, ◌+◌, ◌*◌, List, [], ◌∷◌, ◌++◌, inl, inr, refl, ap, subst, arith}
use Rattle.std.specs.Prelude.{Bool, true, false, ◌==◌}
use Rattle.std.proofs.lemmas.Bool.{cases_lt}
use Rattle.nova_model.specs.Boot.{Scenario, boot}
use Rattle.nova_model.specs.Runs.{after, run}
use Rattle.nova_model.specs.State.{KernelState}
use Rattle.nova_model.specs.declared.budget.Budget.{Budget}
use Rattle.law_turns.proofs.Ticks.{one_if}
use Rattle.law_response.specs.Creating.{NobodyCreates}
use Rattle.law_response.specs.Jobs.{MeetsDemand}
use Rattle.law_response.specs.Waits.{IsSchedule, MayRun, StaysRunnable, above_in, ahead, due_in, full_quantum, is_due, others, paid_in, turns_at, turns_left}
use Rattle.law_response.proofs.Creating.{others_stay}
use Rattle.law_response.proofs.Sharing.{shared}
use Rattle.law_response.proofs.Waiting.{waited}

-- the first turns of a list, with `n` of the processor's among them
record HasPart (k : KernelState) (turns : List ℕ) (cpu ec sc n : ℕ) : Type 0 where
  part : List ℕ
  later : List ℕ
  whole : turns ≡ part ++ later
  count : turns_at cpu part ≡ n
  stays : StaysRunnable k cpu ec part
  paid : paid_in k sc part ≤ paid_in k sc turns

-- one turn more in front
part_with : (k : KernelState) (by : ℕ) (turns : List ℕ) (cpu ec sc m n : ℕ) → (by ≡ cpu → is_due k by ≡ false → MayRun k ec) → one_if (by == cpu) + m ≡ n →
    HasPart (after k by) turns cpu ec sc m → HasPart k (by ∷ turns) cpu ec sc n
part_with k by turns cpu ec sc m n may count rest = record {
  part = by ∷ rest.part;
  later = rest.later;
  whole = ap (λ (l : List ℕ). by ∷ l) rest.whole;
  count = (let all = rest.count in omega (arith, all, count));
  stays = (may, rest.stays);
  paid = (let all = rest.paid in omega (arith, all));
}

part_of : (k : KernelState) (turns : List ℕ) (cpu ec sc n : ℕ) → n ≤ turns_at cpu turns → StaysRunnable k cpu ec turns → HasPart k turns cpu ec sc n
part_of k turns cpu ec sc zero within stays = record { part = []; later = turns; whole = refl; count = refl; stays = tt; paid = omega arith }
part_of k [] cpu ec sc (suc n) within stays = absurd (omega arith)
part_of k (by ∷ turns) cpu ec sc (suc n) within (may, stays) = by_test (by == cpu) refl (λ m least. part_of (after k by) turns cpu ec sc m least stays)
  where
    by_test : (t : Bool) → (by == cpu) ≡ t → ((m : ℕ) → m ≤ turns_at cpu turns → HasPart (after k by) turns cpu ec sc m) → HasPart k (by ∷ turns) cpu ec sc (suc n)
    by_test true is parts =
        let one : one_if (by == cpu) ≡ 1 = ap one_if is in part_with k by turns cpu ec sc n (suc n) may (omega (arith, one)) (parts n (omega (arith, within, one)))
    by_test false is parts =
        let none : one_if (by == cpu) ≡ 0 = ap one_if is in part_with k by turns cpu ec sc (suc n) (suc n) may (omega (arith, none)) (parts (suc n) (omega (arith, within, none)))

pub ends_within : (s : Scenario) (before turns : List ℕ) (sc ec cpu priority quantum own response : ℕ) (b : Budget) (demand : ℕ → ℕ) →
    IsSchedule (run (boot s) before) sc ec cpu priority quantum b → StaysRunnable (run (boot s) before) cpu ec turns → MeetsDemand (run (boot s) before) turns cpu priority demand →
    own ≤ turns_left b → demand response + (ahead (run (boot s) before) cpu priority b.stamp + own) ≤ response → paid_in (run (boot s) before) sc turns < own → turns_at cpu turns < response
ends_within s before turns sc ec cpu priority quantum own response b demand its stays meets within enough paid = elim (cases_lt (turns_at cpu turns) response) [
  | inl less ↦ less
  | inr reaches ↦ absurd (late (part_of k turns cpu ec sc response reaches stays))
]
  where
    k : KernelState
    k = run (boot s) before

    late : HasPart k turns cpu ec sc response → ⊥
    late p =
        let fewer = p.paid in
        let w = waited k p.part sc ec cpu priority quantum b (record { scenario = s; turns = before; is = refl }) its p.stays (omega (arith, fewer, paid, within)) in
        let most = subst (λ (n : ℕ). due_in k cpu p.part + above_in k cpu priority p.part ≤ demand n) p.count (meets p.part p.later p.whole) in
        let count = w.count in
        let length = p.count in
        omega (arith, fewer, paid, enough, most, count, length)

-- A job of more than what is left of a quantum: its peers come between, at most once for each renewal.
pub renewed_within : (renewals rounds full paid own : ℕ) → renewals * full < paid + full → paid < own → own ≤ rounds * full + 1 → renewals ≤ rounds
renewed_within renewals rounds full paid own often fewer most = elim (cases_lt rounds renewals) [
  | inl more ↦
      absurd (let least = mul-le (rounds + 1) full renewals full (omega (arith, more)) (omega arith) in
      let sum : (rounds + 1) * full ≡ rounds * full + full = grind arith in
      omega (arith, least, sum, often, fewer, most))
  | inr within ↦ within
]

pub ends_in_rounds : (s : Scenario) (before turns : List ℕ) (sc ec cpu priority quantum own rounds response : ℕ) (b : Budget) (demand : ℕ → ℕ) → 1 ≤ s.root.quantum →
    NobodyCreates (run (boot s) before) → IsSchedule (run (boot s) before) sc ec cpu priority quantum b → StaysRunnable (run (boot s) before) cpu ec turns →
    MeetsDemand (run (boot s) before) turns cpu priority demand → own ≤ rounds * full_quantum quantum + 1 →
    demand response + (ahead (run (boot s) before) cpu priority b.stamp + (own + rounds * others (run (boot s) before) cpu priority sc)) ≤ response →
    paid_in (run (boot s) before) sc turns < own → turns_at cpu turns < response
ends_in_rounds s before turns sc ec cpu priority quantum own rounds response b demand least nobody its stays meets most enough paid = elim (cases_lt (turns_at cpu turns) response) [
  | inl less ↦ less
  | inr reaches ↦ absurd (late (part_of k turns cpu ec sc response reaches stays))
]
  where
    k : KernelState
    k = run (boot s) before

    late : HasPart k turns cpu ec sc response → ⊥
    late p =
        let fewer = p.paid in
        let sh = shared k p.part sc ec cpu priority quantum b (record { scenario = s; turns = before; is = refl }) least its p.stays in
        let few = renewed_within sh.renewals rounds (full_quantum quantum) (paid_in k sc p.part) own sh.often (omega (arith, fewer, paid)) most in
        let peers = others k cpu priority sc in
        let same = ap (λ (n : ℕ). sh.renewals * n) (others_stay s before p.part sc cpu priority nobody) in
        let more = mul-le sh.renewals peers rounds peers few (omega arith) in
        let demanded = subst (λ (n : ℕ). due_in k cpu p.part + above_in k cpu priority p.part ≤ demand n) p.count (meets p.part p.later p.whole) in
        let count = sh.count in
        let length = p.count in
        omega (arith, fewer, paid, enough, demanded, count, length, same, more)
