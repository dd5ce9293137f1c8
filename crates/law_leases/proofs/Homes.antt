-- The context that acts in a turn is on its processor.
use Rattle.std.proofs.Common.{◌≡◌, ℕ, zero, suc, ◌+◌, List, ap, sym, ◌∙◌, subst, refl}
use Rattle.std.specs.Prelude.{Bool, true, false, ◌==◌, ◌&&◌, slice_get, Option, Some, None, IfSome, option_map, option_and_then, if◌then◌else◌}
use Rattle.std.proofs.lemmas.Option.{same_Some}
use Rattle.nova_objects.specs.declared.object.Object.{Object}
use Rattle.nova_objects.specs.declared.object.Object.TheVariants.{Pd, Ec, Sc, Pt, Sm}
use Rattle.nova_model.specs.Choice.{Candidate, actor, candidate_of, candidate_with, choice}
use Rattle.nova_model.specs.Edges.{AreEdges, acts, after_edges, chase, cpu_in, edge}
use Rattle.nova_model.specs.State.{Contexts, KernelState, budget_at, entry}
use Rattle.nova_model.specs.declared.budget.Budget.{Budget}
use Rattle.nova_model.specs.declared.context.EcState.{EcState}
use Rattle.nova_ec.proofs.Ends.{chases_end}
use Rattle.law_turns.specs.Tables.{HasTables, Refers, cpu_of, tag, tag_of}
use Rattle.law_turns.proofs.Candidates.{HasSchedule, IsCandidate, schedule_of, the_chosen}
use Rattle.law_turns.proofs.TablesKept.{all_get}
use Rattle.law_turns.proofs.Tags.{get_map, get_tags}
use Rattle.law_isolation.specs.Sound.{IsSound}

-- an execution context has the processor of its object
home_by : (n cpu : ℕ) (o : Option Object) (c : Option (Option EcState)) → option_map tag c ≡ option_map (tag_of n) o → cpu_of o ≡ Some cpu →
    option_map (λ (x : EcState). x.cpu) (entry c) ≡ Some cpu
home_by n cpu (Some (Ec pd its kind event)) (Some (Some x)) same is =
    ap (λ (p : ℕ × ℕ). Some (p.1)) (same_Some (x.id, x.cpu) (n, its) (same_Some (Some (x.id, x.cpu)) (Some (n, its)) same)) ∙ is
home_by n cpu (Some (Ec pd its kind event)) (Some None) same is = absurd (cc)
home_by n cpu (Some (Ec pd its kind event)) None same is = absurd (cc)
home_by n cpu None c same is = absurd (cc)
home_by n cpu (Some Pd) c same is = absurd (cc)
home_by n cpu (Some (Sc ec its priority quantum)) c same is = absurd (cc)
home_by n cpu (Some (Pt ec mtd ip)) c same is = absurd (cc)
home_by n cpu (Some Sm) c same is = absurd (cc)

pub home : (k : KernelState) (ec cpu : ℕ) → HasTables k → cpu_of (slice_get k.objects ec) ≡ Some cpu → cpu_in k.contexts ec ≡ Some cpu
home k ec cpu tables is = home_by (0 + ec) cpu (slice_get k.objects ec) (slice_get k.contexts ec)
    (sym (get_map tag k.contexts ec) ∙ (ap (λ (ts : List (Option (ℕ × ℕ))). slice_get ts ec) tables.contexts ∙ get_tags 0 k.objects ec)) is

-- edges stay at home
way_home : (n : ℕ) (cs : Contexts) (e f : ℕ) → AreEdges cs → after_edges n (edge cs) e ≡ Some f → cpu_in cs f ≡ cpu_in cs e
way_home zero cs e f sound way = ap (cpu_in cs) (sym (same_Some e f way))
way_home (suc n) cs e f sound way = by_edge (edge cs e) refl way (λ h way. way_home n cs h f sound way)
  where
    by_edge : (o : Option ℕ) → edge cs e ≡ o → option_and_then (after_edges n (edge cs)) o ≡ Some f → ((h : ℕ) → after_edges n (edge cs) h ≡ Some f → cpu_in cs f ≡ cpu_in cs h) →
        cpu_in cs f ≡ cpu_in cs e
    by_edge None is way rest = absurd (cc)
    by_edge (Some h) is way rest = rest h way ∙ sound.one_processor e h is

pub chase_home : (cs : Contexts) (e : ℕ) → AreEdges cs → cpu_in cs (chase cs e) ≡ cpu_in cs e
chase_home cs e sound = let end = chases_end cs e sound in way_home end.edges cs e (chase cs e) sound end.way

-- the chosen scheduling context's turns go to the context that acts
with_actor : (sc who priority : ℕ) (b : Option Budget) (c : Candidate) → candidate_with sc who priority b ≡ Some c → c.actor ≡ who
with_actor sc who priority (Some b) c is = ap (λ (d : Candidate). d.actor) (sym (same_Some _ c is))
with_actor sc who priority None c is = absurd (cc)

of_actor : (k : KernelState) (cpu sc ec its priority quantum : ℕ) (c : Candidate) → candidate_of k cpu sc (Sc ec its priority quantum) ≡ Some c → c.actor ≡ actor k ec
of_actor k cpu sc ec its priority quantum c = by_test ((its == cpu) && acts k.contexts (actor k ec))
  where
    by_test : (t : Bool) → (if t then candidate_with sc (actor k ec) priority (budget_at k sc) else None) ≡ Some c → c.actor ≡ actor k ec
    by_test true is = with_actor sc (actor k ec) priority (budget_at k sc) c is
    by_test false is = absurd (cc)

pub chosen_actor : (k : KernelState) (cpu : ℕ) (c : Candidate) (ec its priority quantum : ℕ) → choice k cpu ≡ Some c → slice_get k.objects c.sc ≡ Some (Sc ec its priority quantum) →
    c.actor ≡ actor k ec
chosen_actor k cpu c ec its priority quantum chosen at =
    let is : IsCandidate k cpu c = the_chosen k cpu c chosen in
    of_actor k cpu c.sc ec its priority quantum c (ap (candidate_of k cpu c.sc) (same_Some _ _ (sym at ∙ is.at)) ∙ is.is)

refers : (k : KernelState) (sc ec cpu priority quantum : ℕ) → HasTables k → slice_get k.objects sc ≡ Some (Sc ec cpu priority quantum) → cpu_of (slice_get k.objects ec) ≡ Some cpu
refers k sc ec cpu priority quantum tables at =
    subst (λ (o : Option Object). IfSome o (Refers k.objects)) at (all_get (Refers k.objects) k.objects sc tables.refer)

pub chosen_home : (k : KernelState) (cpu : ℕ) (c : Candidate) → IsSound k → choice k cpu ≡ Some c → cpu_in k.contexts c.actor ≡ Some cpu
chosen_home k cpu c sound chosen =
    let its : HasSchedule k cpu c = schedule_of k cpu c (the_chosen k cpu c chosen) in
    ap (cpu_in k.contexts) (chosen_actor k cpu c its.ec cpu its.priority its.quantum chosen its.object)
    ∙ (chase_home k.contexts its.ec sound.kept.edges ∙ home k its.ec cpu sound.kept.tables (refers k c.sc its.ec cpu its.priority its.quantum sound.kept.tables its.object))
