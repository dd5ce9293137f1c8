-- Where an execution context moves, turns stay of all whose way along edges doesn't come to it, so that their scheduling contexts keep their marks.
use Rattle.std.proofs.Common.{◌≡◌, ℕ, suc, List, refl, ap, ap₂, sym, ◌∙◌, subst}
use Rattle.std.specs.Prelude.{◌≢◌, Option, Some, None, IfSome, option_and_then, option_map, slice_get}
use Rattle.nova_model.specs.Edges.{AreEdges, after_edges, cpu_in, edge}
use Rattle.nova_model.specs.State.{Contexts, KernelState, budget_at, entry, ec_in, with_ec}
use Rattle.nova_model.specs.declared.budget.Budget.{Budget}
use Rattle.nova_model.specs.declared.context.EcState.{EcState}
use Rattle.nova_objects.specs.declared.object.Object.{Object}
use Rattle.nova_objects.specs.declared.object.Object.TheVariants.{Pd, Ec, Sc, Pt, Sm}
use Rattle.nova_ec.proofs.Tables.{ec_in-set_other, edge-set_other}
use Rattle.nova_ec.proofs.Untouched.{as_far, same_acts, turns_stay}
use Rattle.nova_sched.specs.Queues.{Schedule}
use Rattle.nova_choice.specs.Schedules.{AreQueued, AreQueuedWhere, Avoids, IsAtHome, leads, owner_in, wanted_with}

-- a context that avoids another isn't it
apart : (cs : Contexts) (e x : ℕ) → Avoids cs e x → x ≢ e
apart cs e x avoids same = avoids 0 (ap Some same)

-- a context changes: a context that avoids it waits for such as avoid it too
pub avoiding_leads : (cs : Contexts) (e x : ℕ) (y : EcState) → AreEdges cs → Avoids (with_ec cs e y) e x → leads (with_ec cs e y) x ≡ leads cs x
avoiding_leads cs e x y sound avoids =
    let ds = with_ec cs e y in
    same_acts cs ds x
    (turns_stay cs ds (Avoids ds e) x sound (record {
      states = λ n away. ap (option_map (λ (z : EcState). z.state)) (ec_in-set_other cs e n (Some y) (apart ds e n away));
      closed = λ n h away way m meets. away (suc m) (ap (option_and_then (after_edges m (edge ds))) (edge-set_other cs e y n (apart ds e n away) ∙ way) ∙ meets);
    }) avoids (as_far cs e x y))

-- turns of all that avoid it stay
abbrev pub OthersLead : Contexts → Contexts → ℕ → Type 0
OthersLead cs ds e = (x cpu : ℕ) → cpu_in cs x ≡ Some cpu → Avoids ds e x → leads ds x ≡ leads cs x

wanted_unmoved : (cpus number e : ℕ) (cs ds : Contexts) (o : Option Object) (b : Option Budget) → OthersLead cs ds e → IsAtHome cpus cs number o → IfSome (owner_in o) (Avoids ds e) →
    wanted_with ds o b ≡ wanted_with cs o b
wanted_unmoved cpus number e cs ds (Some (Sc ec cpu priority quantum)) (Some b) same home avoids =
    ap (λ t. Some (record { cpu = cpu; priority = priority; quantum = quantum; is_runnable = t; budget = b })) (same ec cpu home.1 avoids)
wanted_unmoved cpus number e cs ds (Some (Sc ec cpu priority quantum)) None same home avoids = refl
wanted_unmoved cpus number e cs ds (Some Pd) b same home avoids = refl
wanted_unmoved cpus number e cs ds (Some (Ec pd cpu kind event)) b same home avoids = refl
wanted_unmoved cpus number e cs ds (Some (Pt ec mtd ip)) b same home avoids = refl
wanted_unmoved cpus number e cs ds (Some Sm) b same home avoids = refl
wanted_unmoved cpus number e cs ds None b same home avoids = refl

pub others_queued : (k new : KernelState) (s : Schedule) (e : ℕ) → AreQueued k s → new.objects ≡ k.objects → new.budgets ≡ k.budgets → OthersLead k.contexts new.contexts e →
    AreQueuedWhere (Avoids new.contexts e) new s
others_queued k new s e queued objects budgets same sc avoids =
    queued.entries sc
    ∙ sym (wanted_unmoved s.cpus sc e k.contexts new.contexts (slice_get k.objects sc) (budget_at k sc) same (queued.homes sc)
    (subst (λ (os : List Object). IfSome (owner_in (slice_get os sc)) (Avoids new.contexts e)) objects avoids))
    ∙ ap₂ (λ (os : List Object) (bs : List (Option Budget)). wanted_with new.contexts (slice_get os sc) (entry (slice_get bs sc))) (sym objects) (sym budgets)

-- where it alone changes
pub one_moved : (k new : KernelState) (s : Schedule) (e : ℕ) (y : EcState) → AreQueued k s → AreEdges k.contexts → new.contexts ≡ with_ec k.contexts e y →
    new.objects ≡ k.objects → new.budgets ≡ k.budgets → AreQueuedWhere (Avoids new.contexts e) new s
one_moved k new s e y queued sound contexts objects budgets =
    others_queued k new s e queued objects budgets
    (λ x cpu at avoids.
    ap (λ (ds : Contexts). leads ds x) contexts
    ∙ avoiding_leads k.contexts e x y sound (subst (λ (ds : Contexts). Avoids ds e x) contexts avoids))
