-- Turns in which a virtual CPU acts are paid by its own scheduling context.
use Rattle.std.proofs.Common.{◌≡◌, ◌≢◌, ℕ, zero, suc, ◌+◌, List, [], ◌∷◌, ap, sym, ◌∙◌, refl, arith}
use Rattle.std.specs.Prelude.{Bool, true, ◌&&◌, ◌||◌, slice_get, Option, Some, None, is_none, option_map, option_and_then, if◌then◌else◌}
use Rattle.std.proofs.lemmas.Bool.{eq-eqb}
use Rattle.std.proofs.lemmas.Option.{same_Some}
use Rattle.nova_objects.specs.declared.object.Object.{Object}
use Rattle.nova_objects.specs.declared.object.Object.TheVariants.{Pd, Ec, Sc, Pt, Sm}
use Rattle.nova_objects.specs.declared.object.EcKind.TheVariants.{Local, Global, Vcpu}
use Rattle.nova_model.specs.Capabilities.{is_local, is_vcpu}
use Rattle.nova_model.specs.Choice.{Candidate, actor, candidate_of, candidate_with, candidates_from, choice, in_front}
use Rattle.nova_model.specs.Edges.{AreEdges, acts, acts_as, after_edges, chase, edge, edge_of, state_in}
use Rattle.nova_model.specs.Hypercalls.{schedules}
use Rattle.nova_model.specs.State.{Contexts, KernelState, budget_at, context_in, ec_in}
use Rattle.nova_model.specs.declared.budget.Budget.{Budget}
use Rattle.nova_model.specs.declared.context.EcState.{EcState}
use Rattle.nova_model.specs.declared.context.State.TheVariants.{Ready}
use Rattle.nova_ec.proofs.Ends.{chases_end, chases_go_on}
use Rattle.law_turns.specs.Tables.{IsOf}
use Rattle.law_turns.proofs.Best.{choice_idle}
use Rattle.law_isolation.specs.Sound.{IsSound, IsVirtual}
use Rattle.law_leases.specs.Aims.{AreAimed, IsSingle}
use Rattle.law_leases.specs.Counts.{IsPayer}
use Rattle.law_leases.proofs.Homes.{chosen_actor}

-- a virtual CPU is no local thread
not_local : (o : Option Object) → option_map is_vcpu o ≡ Some true → option_map is_local o ≡ Some true → ⊥
not_local (Some (Ec pd cpu Local event)) virtual local = absurd (cc)
not_local (Some (Ec pd cpu Global event)) virtual local = absurd (cc)
not_local (Some (Ec pd cpu Vcpu event)) virtual local = absurd (cc)
not_local (Some Pd) virtual local = absurd (cc)
not_local (Some (Sc ec cpu priority quantum)) virtual local = absurd (cc)
not_local (Some (Pt ec mtd ip)) virtual local = absurd (cc)
not_local (Some Sm) virtual local = absurd (cc)
not_local None virtual local = absurd (cc)

-- so no edge leads to it, and no way but from itself
edge_of_entry : (o : Option EcState) (h : ℕ) → option_and_then edge_of (option_map (λ (x : EcState). x.state) o) ≡ Some h → edge_of (context_in o).state ≡ Some h
edge_of_entry (Some x) h leads = leads
edge_of_entry None h leads = absurd (cc)

no_edge : (k : KernelState) (e g : ℕ) → AreAimed k.objects k.contexts → IsVirtual k g → edge k.contexts e ≢ Some g
no_edge k e g aimed is leads = not_local (slice_get k.objects g) is (aimed e g (edge_of_entry (ec_in k.contexts e) g leads))

way_from : (k : KernelState) (n e g : ℕ) → AreAimed k.objects k.contexts → IsVirtual k g → after_edges n (edge k.contexts) e ≡ Some g → e ≡ g
way_from k zero e g aimed is way = same_Some e g way
way_from k (suc n) e g aimed is way = by_edge (edge k.contexts e) refl way (λ h way. way_from k n h g aimed is way)
  where
    by_edge : (o : Option ℕ) → edge k.contexts e ≡ o → option_and_then (after_edges n (edge k.contexts)) o ≡ Some g →
        ((h : ℕ) → after_edges n (edge k.contexts) h ≡ Some g → h ≡ g) → e ≡ g
    by_edge None leads on rest = absurd (cc)
    by_edge (Some h) leads on rest = absurd (no_edge k e g aimed is (leads ∙ ap Some (rest h on)))

pub chase_from : (k : KernelState) (e g : ℕ) → AreEdges k.contexts → AreAimed k.objects k.contexts → IsVirtual k g → chase k.contexts e ≡ g → e ≡ g
chase_from k e g sound aimed is ends =
    let end = chases_end k.contexts e sound in way_from k end.edges e g aimed is (end.way ∙ ap Some ends)

-- the scheduling context that pays is its own
pub its_payer : (k : KernelState) (cpu : ℕ) (c : Candidate) (ec priority quantum : ℕ) → IsSound k → IsSingle k → choice k cpu ≡ Some c → IsVirtual k c.actor →
    slice_get k.objects c.sc ≡ Some (Sc ec cpu priority quantum) → ec ≡ c.actor
its_payer k cpu c ec priority quantum sound single chosen is at =
    chase_from k ec c.actor sound.kept.edges single.aimed is (sym (chosen_actor k cpu c ec cpu priority quantum chosen at))

pub schedules_it : (k : KernelState) (sc ec cpu priority quantum : ℕ) → slice_get k.objects sc ≡ Some (Sc ec cpu priority quantum) → IsOf k.objects (schedules ec) sc
schedules_it k sc ec cpu priority quantum at = ap (option_map (schedules ec)) at ∙ ap Some (eq-eqb ec ec refl)

-- WHERE IT IS READY, THE PROCESSOR ISN'T IDLE

ready_acts : (cs : Contexts) (g : ℕ) → state_in cs g ≡ Some Ready → acts cs g ≡ true
ready_acts cs g is = ap (acts_as cs) is

ready_stays : (cs : Contexts) (g : ℕ) → AreEdges cs → state_in cs g ≡ Some Ready → chase cs g ≡ g
ready_stays cs g sound is = (chases_go_on cs g sound).ends (ap (λ (t : Bool). t || is_none (edge cs g)) (ready_acts cs g is))

some_candidate : (k : KernelState) (cpu n i : ℕ) (o : Object) (c : Candidate) (os : List Object) → slice_get os i ≡ Some o → candidate_of k cpu (n + i) o ≡ Some c →
    candidates_from k cpu n os ≢ []
some_candidate k cpu n i o c [] at is none = absurd (cc)
some_candidate k cpu n zero o c (x ∷ os) at is none =
    let e : n + 0 ≡ n = omega arith in
    let first : candidate_of k cpu n x ≡ Some c = ap (candidate_of k cpu n) (same_Some x o at) ∙ (ap (λ (m : ℕ). candidate_of k cpu m o) (sym e) ∙ is) in
    let shown : in_front (Some c) (candidates_from k cpu (n + 1) os) ≡ [] = ap (λ (f : Option Candidate). in_front f (candidates_from k cpu (n + 1) os)) (sym first) ∙ none in
    absurd (cc)
some_candidate k cpu n (suc i) o c (x ∷ os) at is none =
    let e : n + suc i ≡ (n + 1) + i = omega arith in
    some_candidate k cpu (n + 1) i o c os at (ap (λ (m : ℕ). candidate_of k cpu m o) (sym e) ∙ is) (rest_none (candidate_of k cpu n x) (candidates_from k cpu (n + 1) os) none)
  where
    rest_none : (f : Option Candidate) (cs : List Candidate) → in_front f cs ≡ [] → cs ≡ []
    rest_none None cs h = h
    rest_none (Some d) cs h = absurd (cc)

pub not_idle : (k : KernelState) (cpu sc g priority quantum : ℕ) (b : Budget) → IsSound k → state_in k.contexts g ≡ Some Ready → IsPayer k cpu sc g priority quantum b → choice k cpu ≢ None
not_idle k cpu sc g priority quantum b sound is payer idle =
    some_candidate k cpu 0 sc (Sc g cpu priority quantum) _ k.objects payer.object shown ((choice_idle k cpu).0 idle)
  where
    first : 0 + sc ≡ sc
    first = omega arith

    shown : candidate_of k cpu (0 + sc) (Sc g cpu priority quantum) ≡ Some (record { sc = sc; actor = g; priority = priority; stamp = b.stamp })
    shown = ap (λ (m : ℕ). candidate_of k cpu m (Sc g cpu priority quantum)) first
        ∙ (ap (λ (t : Bool). if t && acts k.contexts (actor k g) then candidate_with sc (actor k g) priority (budget_at k sc) else None) (eq-eqb cpu cpu refl)
        ∙ (ap (λ (who : ℕ). if acts k.contexts who then candidate_with sc who priority (budget_at k sc) else None) (ready_stays k.contexts g sound.kept.edges is)
        ∙ (ap (λ (t : Bool). if t then candidate_with sc g priority (budget_at k sc) else None) (ready_acts k.contexts g is)
        ∙ ap (candidate_with sc g priority) payer.budget)))
