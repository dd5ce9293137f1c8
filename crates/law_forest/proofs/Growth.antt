-- What a turn adds to objects and delegations: what the effect of its deed makes, and what joins or goes.
use Rattle.std.proofs.Common.{◌≡◌, ℕ, [], ◌∷◌, ◌++◌, refl, ap, sym, ◌∙◌, subst}
use Rattle.std.specs.Prelude.{Option, option_map}
use Rattle.nova_model.specs.Choice.{Candidate, next_to_act}
use Rattle.nova_model.specs.Creation.{object_of, root_capability}
use Rattle.nova_model.specs.Deeds.{deed, done}
use Rattle.nova_model.specs.Delegations.{added}
use Rattle.nova_model.specs.Runs.{after}
use Rattle.nova_model.specs.State.{KernelState, pd_of}
use Rattle.nova_model.specs.declared.deed.Deed.{Deed}
use Rattle.nova_model.specs.declared.deed.Deed.TheVariants.{Makes, Opens, Gives, Removes}
use Rattle.nova_model.specs.declared.new_object.NewObject.{NewObject}
use Rattle.nova_model.specs.declared.new_object.NewObject.TheVariants as new
use Rattle.law_forest.specs.Effects.{branch_by, branched, joined, made_by}
use Rattle.law_forest.specs.Made.{Grows, Leaves, MakesObject, GivesChild, TakesLeaf, GrowsBy}
use Rattle.law_forest.specs.Turns.{Acts, Idles, Passes, Takes, turned}
use Rattle.law_forest.proofs.Allowed.{IsAllowed, MayMake, deed_allowed, ids_below}
use Rattle.law_forest.proofs.Doing.{done_is}
use Rattle.law_forest.proofs.Running.{root_idle}
use Rattle.law_forest.proofs.Turning.{comes, idle_none, passing_none}

-- a state with one object more
made_grows : (k s : KernelState) (ec target : ℕ) (made : NewObject) → MayMake k (pd_of k ec) target (object_of made) → s.objects ≡ k.objects ++ object_of made ∷ [] →
    s.delegations ≡ added k.delegations (root_capability k (pd_of k ec) target (object_of made)) → Grows k ec s
made_grows k s ec target made asked objects delegations = MakesObject (record {
  object = object_of made;
  capability = root_capability k (pd_of k ec) target (object_of made);
  first = record {
    pd = refl;
    id = refl;
    parent = refl;
    kind = refl;
    order = refl;
    selector = asked.selector;
    free = asked.free;
    rights = refl;
    target = refl;
    creator = asked.creator;
    place = asked.place;
    bound = asked.bound;
    idle = root_idle k (root_capability k (pd_of k ec) target (object_of made)) refl refl refl asked.unrevoked;
    newest = ids_below k;
  };
  objects = objects;
  delegations = delegations;
})

-- any state with what the effect of a deed makes
grows : (k new : KernelState) (ec : ℕ) (d : Deed) → IsAllowed k ec d → new.objects ≡ joined k.objects (option_map object_of (made_by d)) →
    new.delegations ≡ branched k.delegations (branch_by k ec d) → Grows k ec new
grows k s ec (Makes call target made) asked objects delegations = made_grows k s ec target made asked objects delegations
grows k s ec (Opens target number) allowed objects delegations = made_grows k s ec target new.Pd allowed.0 objects delegations
grows k s ec (Gives child cursor) given objects delegations = GivesChild (record { child = child; given = given; objects = objects; delegations = delegations })
grows k s ec (Removes leaf) is objects delegations = TakesLeaf (record { leaf = leaf; is = is; objects = objects; delegations = delegations })
grows k s ec other allowed objects delegations = Leaves (record { objects = objects; delegations = delegations })

pub deed_grows : (k : KernelState) (ec : ℕ) → Grows k ec (done k ec (deed k ec))
deed_grows k ec =
    let is = done_is k ec (deed k ec) in
    grows k (done k ec (deed k ec)) ec (deed k ec) (deed_allowed k ec) (ap (λ (s : KernelState). s.objects) is) (ap (λ (s : KernelState). s.delegations) is)

-- a turn, whichever context takes it
pub record HasGrown (old new : KernelState) : Type 0 where
  pub ec : ℕ
  pub grows : Grows old ec new

pub turn_growth : (k : KernelState) (cpu : ℕ) → HasGrown k (after k cpu)
turn_growth k cpu = elim (comes k cpu) [
  | Idles is moment same answer ↦
      record { ec = 0; grows = Leaves (record { objects = ap (λ (s : KernelState). s.objects) same; delegations = ap (λ (s : KernelState). s.delegations) same }) }
  | Takes t e comes state answer ↦ elim comes [
    | Acts c chosen is event ↦
        let now = state ∙ ap (turned k cpu) is in record {
          ec = c.actor;
          grows = grows k (after k cpu) c.actor (deed k c.actor) (deed_allowed k c.actor) (ap (λ (s : KernelState). s.objects) now) (ap (λ (s : KernelState). s.delegations) now);
        }
    | Passes p due is event ↦ let now = state ∙ ap (turned k cpu) is in record {
      ec = 0;
      grows = Leaves (record { objects = ap (λ (s : KernelState). s.objects) now; delegations = ap (λ (s : KernelState). s.delegations) now });
    }
  ]
]

pub turn_grows : (k : KernelState) (cpu : ℕ) → GrowsBy k (next_to_act k cpu) (after k cpu)
turn_grows k cpu = elim (comes k cpu) [
  | Idles is moment same answer ↦
      subst (λ (o : Option Candidate). GrowsBy k o (after k cpu)) (sym (idle_none k cpu is))
      (record { objects = ap (λ (s : KernelState). s.objects) same; delegations = ap (λ (s : KernelState). s.delegations) same })
  | Takes t e comes state answer ↦ elim comes [
    | Acts c chosen is event ↦
        let now = state ∙ ap (turned k cpu) is in
        subst (λ (o : Option Candidate). GrowsBy k o (after k cpu)) (sym chosen)
        (grows k (after k cpu) c.actor (deed k c.actor) (deed_allowed k c.actor) (ap (λ (s : KernelState). s.objects) now) (ap (λ (s : KernelState). s.delegations) now))
    | Passes p due is event ↦
        let now = state ∙ ap (turned k cpu) is in
        subst (λ (o : Option Candidate). GrowsBy k o (after k cpu)) (sym (passing_none k cpu p due))
        (record { objects = ap (λ (s : KernelState). s.objects) now; delegations = ap (λ (s : KernelState). s.delegations) now })
  ]
]
