-- Where pages lead after a turn whose deed neither gives nor takes away.
use Rattle.std.proofs.Common.{◌≡◌, ℕ, ap, ◌∙◌, refl}
use Rattle.std.specs.Prelude.{false, [], ◌∷◌, ◌++◌, Option, Some, None, option_map}
use Rattle.std.specs.List.{find}
use Rattle.std.specs.Option.{option_or}
use Rattle.std.proofs.lemmas.List.Folds.{find-append}
use Rattle.nova_range.specs.declared.range.Kind.TheVariants.{Mem}
use Rattle.nova_model.specs.Choice.{Candidate, next_to_act}
use Rattle.nova_model.specs.Creation.{object_of, root_capability}
use Rattle.nova_model.specs.Deeds.{deed}
use Rattle.nova_model.specs.Delegations.{covers, page_in, reach}
use Rattle.nova_model.specs.Runs.{after}
use Rattle.nova_model.specs.State.{KernelState, pd_of}
use Rattle.nova_model.specs.declared.deed.Deed.{Deed}
use Rattle.nova_model.specs.declared.deed.Deed.TheVariants.{Gives, Makes, Opens, Removes}
use Rattle.nova_model.specs.declared.delegation.Derivation.{Derivation}
use Rattle.nova_model.specs.declared.event.Event.{Event}
use Rattle.nova_model.specs.declared.new_object.NewObject.{NewObject}
use Rattle.nova_model.specs.declared.new_object.NewObject.TheVariants as new
use Rattle.law_forest.specs.Effects.{branch_by, branched}
use Rattle.law_forest.specs.Turns.{Acts, Idles, IsTurning, Passes, Takes, Turning}
use Rattle.law_forest.proofs.Turning.{comes}
use Rattle.law_swaps.specs.Touches.{LeadAsBefore}
use Rattle.nova_touching.specs.Whom.{moves_by}

-- a capability that joins covers no page
joined_leads : (k : KernelState) (domain target pd page : ℕ) (made : NewObject) →
    reach (k.delegations.list ++ root_capability k domain target (object_of made) ∷ []) pd page ≡ reach k.delegations.list pd page
joined_leads k domain target pd page made =
    ap (option_map (page_in page)) (find-append (covers Mem pd page) k.delegations.list (root_capability k domain target (object_of made) ∷ [])
    ∙ by_found (find (covers Mem pd page) k.delegations.list))
  where
    by_found : (o : Option Derivation) → option_or o None ≡ o
    by_found None = refl
    by_found (Some d) = refl

branch_leads : (k : KernelState) (ec pd page : ℕ) (d : Deed) → moves_by d ≡ false → reach (branched k.delegations (branch_by k ec d)).list pd page ≡ reach k.delegations.list pd page
branch_leads k ec pd page (Makes call target made) still = joined_leads k (pd_of k ec) target pd page made
branch_leads k ec pd page (Opens target number) still = joined_leads k (pd_of k ec) target pd page new.Pd
branch_leads k ec pd page (Gives child cursor) still = absurd cc
branch_leads k ec pd page (Removes leaf) still = absurd cc
branch_leads k ec pd page other still = refl

pub leads_on : (k : KernelState) (cpu : ℕ) → ((c : Candidate) → next_to_act k cpu ≡ Some c → moves_by (deed k c.actor) ≡ false) → LeadAsBefore k (after k cpu)
leads_on k cpu still domain page = elim (comes k cpu) [
  | Idles none moment same answer ↦ ap (λ (x : KernelState). reach x.delegations.list domain page) same
  | Takes t e is state answer ↦ ap (λ (x : KernelState). reach x.delegations.list domain page) state ∙ by_turn t e is
]
  where
    by_turn : (t : Turning) (e : Event) → IsTurning k cpu t e → reach (branched k.delegations t.effect.branch).list domain page ≡ reach k.delegations.list domain page
    by_turn t e (Acts c next acts event) =
        ap (λ (u : Turning). reach (branched k.delegations u.effect.branch).list domain page) acts ∙ branch_leads k c.actor domain page (deed k c.actor) (still c next)
    by_turn t e (Passes p is passes event) = ap (λ (u : Turning). reach (branched k.delegations u.effect.branch).list domain page) passes
