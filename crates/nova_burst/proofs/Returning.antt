-- What a commit finds, and what it leaves.
use Rattle.std.proofs.Common.{◌≡◌, ◌≤◌, ◌<◌, ◌+◌, ◌^◌, ℕ, zero, suc, List, [], ◌∷◌, ap, ap₂, sym, ◌∙◌, subst, refl, arith}
use Rattle.std.specs.Prelude.{Bool, true, false, Option, Some, None, option_map, replicate, slice_index, if◌then◌else◌}
use Rattle.std.proofs.lemmas.Option.{same_Some}
use Rattle.nova_model.specs.Choice.{Candidate, choice}
use Rattle.nova_model.specs.Runs.{after, run, trace}
use Rattle.nova_model.specs.State.{KernelState}
use Rattle.law_turns.proofs.Processors.{run_cpus}
use Rattle.law_turns.specs.Stirs.{stirs_of}
use Rattle.law_isolation.specs.Sound.{IsVirtual}
use Rattle.law_isolation.proofs.Runs.{turn_virtual}
use Rattle.law_leases.specs.Advances.{step_of}
use Rattle.law_leases.specs.Commits.{IsCommitted, LeaseRun, MayAdvance, MayCommit, by_actor, commit_done, number_of, same_counts, stirs_now}
use Rattle.law_leases.specs.declared.commit.CommitDone.{CommitDone}
use Rattle.law_leases.specs.declared.commit.CommitDone.TheVariants.{Dropped, Away, NoRoom, Committed}
use Rattle.law_leases.proofs.Committed.{commit_traced, committed, may_commit}
use Rattle.nova_deeds.specs.Stirs.{stir_of}
use Rattle.nova_deeds.specs.StirCounts.{count_in}
use Rattle.nova_burst.specs.Lending.{ComesAfter, LeaseView, answer_by, answer_to, turns_of}
use Rattle.nova_burst.specs.Taken.{MayTakeOver}

-- WHICH VIRTUAL CPU A LEASE IS OF

run_virtual : (turns : List ℕ) (k : KernelState) (g : ℕ) → IsVirtual k g → IsVirtual (run k turns) g
run_virtual [] k g is = is
run_virtual (cpu ∷ turns) k g is = run_virtual turns (after k cpu) g (turn_virtual k cpu g is)

pub still_virtual : (l : LeaseView) (k : KernelState) → ComesAfter l k → IsVirtual k l.run.guest
still_virtual l k a =
    subst (λ (x : KernelState). IsVirtual x l.run.guest) (sym a.leads)
    (run_virtual a.turns a.begin l.run.guest (subst (IsVirtual a.begin) a.stems.stems.actor a.stems.stems.may.guest))

pub still_there : (l : LeaseView) (k : KernelState) → ComesAfter l k → l.run.cpu < k.cpus
still_there l k a =
    let same : k.cpus ≡ a.begin.cpus = ap (λ (x : KernelState). x.cpus) a.leads ∙ run_cpus a.begin a.turns in
    let there = a.stems.processor in omega arith

-- WHAT GOES THROUGH

may_again : (l : LeaseView) (k : KernelState) → (a : ComesAfter l k) → same_counts l.run.kept (stirs_now k l.run.guest l.run.cpu) ≡ true → (d : Candidate) →
    choice k l.run.cpu ≡ Some d → d.actor ≡ l.run.guest → MayCommit k l.run d a.stems.stems.budget
may_again l k a = subst (λ (x : KernelState). same_counts l.run.kept (stirs_now x l.run.guest l.run.cpu) ≡ true → (d : Candidate) → choice x l.run.cpu ≡ Some d → d.actor ≡ l.run.guest →
    MayCommit x l.run d a.stems.stems.budget) (sym a.leads) (λ same d chosen acts. may_commit a.begin a.turns l.run d a.stems.stems same chosen acts)

may_by : (l : LeaseView) (k : KernelState) (left n : ℕ) → (a : ComesAfter l k) → (is : IsCommitted k l.run left n) → MayCommit k l.run is.chosen a.stems.stems.budget
may_by l k left n a is = may_again l k a is.same is.chosen is.is is.actor

pub may_advance : (l : LeaseView) (k : KernelState) (left n : ℕ) → ComesAfter l k → commit_done k l.run left ≡ Committed n → MayAdvance k l.run.cpu l.run.steps
may_advance l k left n a done =
    let is : IsCommitted k l.run left n = committed k l.run left n done in
    let may : MayCommit k l.run is.chosen a.stems.stems.budget = may_by l k left n a is in
    record { chosen = is.chosen; budget = a.stems.stems.budget; may = may.may; left = may.left; early = may.early; runs = may.runs }

pub its_count : (l : LeaseView) (k : KernelState) (left n : ℕ) → commit_done k l.run left ≡ Committed n → (l.run.steps.count ≡ n) × (n ≤ left)
its_count l k left n done = let is : IsCommitted k l.run left n = committed k l.run left n done in (is.count, is.room)

pub its_events : (l : LeaseView) (k : KernelState) (left n : ℕ) → ComesAfter l k → commit_done k l.run left ≡ Committed n → (c : Candidate) → choice k l.run.cpu ≡ Some c →
    trace k (replicate n l.run.cpu) ≡ replicate n (step_of l.run.cpu c)
its_events l k left n a done c chosen =
    let is : IsCommitted k l.run left n = committed k l.run left n done in
    let one : is.chosen ≡ c = same_Some is.chosen c (sym is.is ∙ chosen) in
    subst (λ (d : Candidate). trace k (replicate n l.run.cpu) ≡ replicate n (step_of l.run.cpu d)) one
    (subst (λ (m : ℕ). trace k (replicate m l.run.cpu) ≡ replicate m (step_of l.run.cpu is.chosen)) is.count
    (commit_traced k l.run is.chosen a.stems.stems.budget (may_by l k left n a is)))

-- THE ANSWER

count_same : (o : Option ℕ) → count_in o ≡ number_of o
count_same (Some n) = refl
count_same None = refl

pub stirs_same : (k : KernelState) (g cpu : ℕ) → stir_of k g cpu ≡ stirs_now k g cpu
stirs_same k g cpu = ap (λ (n : ℕ). (n, slice_index k.stirs.processors cpu)) (count_same (stirs_of k g))

answer_same : (l : LeaseRun) (left : ℕ) (o : Option Candidate) → answer_by l left (option_map (λ c. c.actor) o) ≡ by_actor l left o
answer_same l left None = refl
answer_same l left (Some c) = refl

pub answer_is : (k : KernelState) (l : LeaseRun) (left : ℕ) (now : ℕ × ℕ) (actor : Option ℕ) → now ≡ stir_of k l.guest l.cpu → actor ≡ option_map (λ c. c.actor) (choice k l.cpu) →
    answer_to l left now actor ≡ commit_done k l left
answer_is k l left now actor stirs acts =
    ap₂ (answer_to l left) (stirs ∙ stirs_same k l.guest l.cpu) acts
    ∙ ap (λ (d : CommitDone). if same_counts l.kept (stirs_now k l.guest l.cpu) then d else Dropped l.kept (stirs_now k l.guest l.cpu)) (answer_same l left (choice k l.cpu))

-- WHAT IS LEFT

pub may_take_over : (l : LeaseView) (k : KernelState) (left : ℕ) (done : CommitDone) → ComesAfter l k → k.turns + left ≤ 2 ^ 31 → done ≡ commit_done k l.run left → MayTakeOver k l.run done
may_take_over l k left (Committed n) a fits is =
    let its = its_count l k left n (sym is) in
    let count = its.0 in
    let room = its.1 in
    record { may = may_advance l k left n a (sym is); count = count; turns = omega arith }
may_take_over l k left (Dropped kept now) a fits is = tt
may_take_over l k left (Away actor) a fits is = tt
may_take_over l k left (NoRoom n) a fits is = tt

pub most_is : (l : LeaseView) (k : KernelState) (left : ℕ) (done : CommitDone) → done ≡ commit_done k l.run left → turns_of done ≤ left
most_is l k left (Committed n) is = (its_count l k left n (sym is)).1
most_is l k left (Dropped kept now) is = omega arith
most_is l k left (Away actor) is = omega arith
most_is l k left (NoRoom n) is = omega arith

pub events_are : (l : LeaseView) (k : KernelState) (left : ℕ) (done : CommitDone) → ComesAfter l k → done ≡ commit_done k l.run left → (c : Candidate) → choice k l.run.cpu ≡ Some c →
    trace k (replicate (turns_of done) l.run.cpu) ≡ replicate (turns_of done) (step_of l.run.cpu c)
events_are l k left (Committed n) a is c chosen = its_events l k left n a (sym is) c chosen
events_are l k left (Dropped kept now) a is c chosen = refl
events_are l k left (Away actor) a is c chosen = refl
events_are l k left (NoRoom n) a is c chosen = refl
