-- What a processor chooses stays the same over a plain step of another; and the context that acts is on its processor.
use Rattle.std.proofs.Common.{◌≡◌, ◌≢◌, ℕ, suc, ◌+◌, List, [], ◌∷◌, refl, sym, ap, ap₂, ◌∙◌, subst, arith}
use Rattle.std.specs.Prelude.{Bool, true, false, ◌==◌, ◌&&◌, slice_get, slice_set, Option, Some, None, IfSome, option_and_then, option_map, if◌then◌else◌}
use Rattle.std.proofs.lemmas.Bool.{eqb-true}
use Rattle.std.proofs.lemmas.Option.{same_Some}
use Rattle.nova_ec.proofs.Donors.{same_state_keeps_chases}
use Rattle.nova_ec.proofs.Untouched.{same_acts}
use Rattle.nova_ec.specs.Ways.{TurnsStay}
use Rattle.nova_objects.specs.declared.object.Object.{Object}
use Rattle.nova_objects.specs.declared.object.Object.TheVariants.{Sc}
use Rattle.nova_model.specs.Choice.{Candidate, actor, candidate_of, candidate_with, candidates_from, choice, foremost, in_front, next_to_act, unless_due}
use Rattle.nova_model.specs.Edges.{acts, cpu_in}
use Rattle.nova_model.specs.State.{Contexts, KernelState, budget_at, context_in, ec_in}
use Rattle.nova_model.specs.Times.{Entry, Times, clock, due_on, if_due, ticked}
use Rattle.nova_model.specs.declared.budget.Budget.{Budget}
use Rattle.nova_model.specs.declared.context.EcState.{EcState}
use Rattle.law_forest.proofs.Turning.{acts_chosen}
use Rattle.law_turns.proofs.Candidates.{HasSchedule, schedule_of, the_chosen}
use Rattle.law_turns.proofs.Moments.{next_clocks}
use Rattle.law_turns.proofs.Setting.{index_other}
use Rattle.law_turns.proofs.TablesKept.{all_get}
use Rattle.law_turns.specs.Keeping.{IsKept}
use Rattle.law_turns.specs.Tables.{Refers, cpu_of}
use Rattle.law_leases.proofs.Homes.{chase_home, chosen_actor, home}
use Rattle.law_swaps.proofs.Charging.{IsOn}

-- WHERE THE ACTOR IS

pub chosen_home : (k : KernelState) (cpu : ℕ) (c : Candidate) → IsKept k → choice k cpu ≡ Some c → cpu_in k.contexts c.actor ≡ Some cpu
chosen_home k cpu c kept chosen =
    ap (cpu_in k.contexts) (chosen_actor k cpu c its.ec cpu its.priority its.quantum chosen its.object)
    ∙ (chase_home k.contexts its.ec kept.edges ∙ home k its.ec cpu kept.tables refers)
  where
    its : HasSchedule k cpu c
    its = schedule_of k cpu c (the_chosen k cpu c chosen)

    refers : cpu_of (slice_get k.objects its.ec) ≡ Some cpu
    refers = subst (λ (o : Option Object). IfSome o (Refers k.objects)) its.object (all_get (Refers k.objects) k.objects c.sc kept.tables.refer)

-- the context that acts next, and the scheduling context that pays
pub record IsHome (k : KernelState) (cpu : ℕ) (c : Candidate) : Type 0 where
  pub processor : cpu_in k.contexts c.actor ≡ Some cpu
  pub there : ec_in k.contexts c.actor ≡ Some (context_in (ec_in k.contexts c.actor))
  pub pays : IsOn k.objects c.sc cpu

there_by : (o : Option EcState) (cpu : ℕ) → option_map (λ (x : EcState). x.cpu) o ≡ Some cpu → o ≡ Some (context_in o)
there_by (Some x) cpu h = refl
there_by None cpu h = absurd (cc)

pub at_home : (k : KernelState) (cpu : ℕ) (c : Candidate) → IsKept k → next_to_act k cpu ≡ Some c → IsHome k cpu c
at_home k cpu c kept next =
    let chosen = (acts_chosen k cpu c next).0 in
    let processor = chosen_home k cpu c kept chosen in
    let its : HasSchedule k cpu c = schedule_of k cpu c (the_chosen k cpu c chosen) in record {
      processor = processor;
      there = there_by (ec_in k.contexts c.actor) cpu processor;
      pays = (its.ec, its.priority, its.quantum, its.object);
    }

pub actors_apart : (k : KernelState) (p q : ℕ) (c d : Candidate) → p ≢ q → IsHome k p c → IsHome k q d → d.actor ≢ c.actor
actors_apart k p q c d other first second same =
    let both : Some q ≡ Some p = sym second.processor ∙ ap (cpu_in k.contexts) same ∙ first.processor in other (sym (same_Some q p both))

-- THE CHOICE

-- the candidate of a number, where there is one
abbrev pub candidate_at : KernelState → ℕ → ℕ → Option Candidate
candidate_at k cpu n = option_and_then (candidate_of k cpu n) (slice_get k.objects n)

candidates_same : (k new : KernelState) (cpu n : ℕ) (os ps : List Object) →
    ((i m : ℕ) → m ≡ n + i → option_and_then (candidate_of new cpu m) (slice_get ps i) ≡ option_and_then (candidate_of k cpu m) (slice_get os i)) →
    candidates_from new cpu n ps ≡ candidates_from k cpu n os
candidates_same k new cpu n [] [] same = refl
candidates_same k new cpu n [] (p ∷ ps) same =
    ap₂ (λ (c : Option Candidate) (cs : List Candidate). in_front c cs) (same 0 n (omega arith)) (candidates_same k new cpu (n + 1) [] ps (λ i m e. same (suc i) m (omega (arith, e))))
candidates_same k new cpu n (o ∷ os) [] same =
    sym (ap₂ (λ (c : Option Candidate) (cs : List Candidate). in_front c cs) (sym (same 0 n (omega arith)))
    (sym (candidates_same k new cpu (n + 1) os [] (λ i m e. same (suc i) m (omega (arith, e))))))
candidates_same k new cpu n (o ∷ os) (p ∷ ps) same =
    ap₂ (λ (c : Option Candidate) (cs : List Candidate). in_front c cs) (same 0 n (omega arith)) (candidates_same k new cpu (n + 1) os ps (λ i m e. same (suc i) m (omega (arith, e))))

pub choice_by : (k new : KernelState) (cpu : ℕ) → ((n : ℕ) → candidate_at new cpu n ≡ candidate_at k cpu n) → choice new cpu ≡ choice k cpu
unfolding choice
choice_by k new cpu same =
    ap foremost (candidates_same k new cpu 0 k.objects new.objects (λ i m e.
    let one : m ≡ i = omega (arith, e) in
    subst (λ (j : ℕ). option_and_then (candidate_of new cpu m) (slice_get new.objects j) ≡ option_and_then (candidate_of k cpu m) (slice_get k.objects j)) one (same m)))

-- where objects stay, turns go where they went, and budgets of its scheduling contexts stay
pub record AreChosenAlike (k new : KernelState) (cpu : ℕ) : Type 0 where
  pub objects : new.objects ≡ k.objects
  pub turns : (ec : ℕ) → TurnsStay k.contexts new.contexts ec
  pub budgets : (sc : ℕ) → IsOn k.objects sc cpu → budget_at new sc ≡ budget_at k sc

candidate_same : (k new : KernelState) (cpu n : ℕ) → AreChosenAlike k new cpu → (o : Option Object) → slice_get k.objects n ≡ o →
    option_and_then (candidate_of new cpu n) o ≡ option_and_then (candidate_of k cpu n) o
candidate_same k new cpu n same (Some (Sc ec its priority quantum)) at = by_test (its == cpu) refl
  where
    by_test : (t : Bool) → (its == cpu) ≡ t →
        (if t && acts new.contexts (actor new ec) then candidate_with n (actor new ec) priority (budget_at new n) else None)
        ≡ (if t && acts k.contexts (actor k ec) then candidate_with n (actor k ec) priority (budget_at k n) else None)
    by_test false is = refl
    by_test true is =
        let here : slice_get k.objects n ≡ Some (Sc ec cpu priority quantum) = at ∙ ap (λ (m : ℕ). Some (Sc ec m priority quantum)) (eqb-true its cpu is) in
        ap₂ (λ (t : Bool) (c : Option Candidate). if t then c else None) (same_acts k.contexts new.contexts ec (same.turns ec))
        (ap₂ (λ (who : ℕ) (b : Option Budget). candidate_with n who priority b) (same.turns ec).0 (same.budgets n (ec, priority, quantum, here)))
candidate_same k new cpu n same (Some other) at = refl
candidate_same k new cpu n same None at = refl

pub choice_same : (k new : KernelState) (cpu : ℕ) → AreChosenAlike k new cpu → choice new cpu ≡ choice k cpu
choice_same k new cpu same = choice_by k new cpu (λ n.
    ap (option_and_then (candidate_of new cpu n)) (ap (λ (os : List Object). slice_get os n) same.objects) ∙ candidate_same k new cpu n same (slice_get k.objects n) refl)

-- a context with other registers moves no turns
pub moves_none : (cs : Contexts) (g : ℕ) (x y : EcState) → ec_in cs g ≡ Some x → y.state ≡ x.state → (e : ℕ) → TurnsStay cs (slice_set cs g (Some y)) e
moves_none cs g x y there same e = same_state_keeps_chases cs g e x y there same

-- WHAT IS DUE

pub due_over : (t : Times) (p q : ℕ) → p ≢ q → due_on (ticked t p) q ≡ due_on t q
due_over t p q other =
    ap₂ (λ (now : ℕ) (e : Option Entry). option_and_then (if_due now) e) (index_other t.clocks p q (clock t p + 1) (λ same. other (sym same)))
    (next_clocks t (slice_set t.clocks p (clock t p + 1)) q)

pub next_same : (k new : KernelState) (cpu : ℕ) → due_on new.times cpu ≡ due_on k.times cpu → choice new cpu ≡ choice k cpu → next_to_act new cpu ≡ next_to_act k cpu
unfolding next_to_act
next_same k new cpu due chosen = ap₂ unless_due due chosen
