-- A turn changes one derivation at most, and each change keeps the forest.
use Rattle.std.proofs.Common.{◌≡◌, ℕ, List, [], ◌∷◌, sym, subst}
use Rattle.nova_objects.specs.declared.object.Object.{Object}
use Rattle.nova_range.specs.declared.range.Kind.TheVariants.{Obj}
use Rattle.nova_model.specs.Boot.{Scenario, boot}
use Rattle.nova_model.specs.Deeds.{deed, done}
use Rattle.nova_model.specs.Delegations.{Delegations, covers}
use Rattle.nova_model.specs.Forest.{IsForest, IsFitting}
use Rattle.nova_model.specs.Runs.{after, run}
use Rattle.nova_model.specs.State.{KernelState}
use Rattle.nova_model.specs.declared.deed.Deed.{Deed}
use Rattle.nova_model.specs.declared.delegation.Derivation.{Derivation}
use Rattle.law_forest.specs.Changes.{Change, Stays, Joins, Goes}
use Rattle.law_forest.specs.Made.{IsFirstCapability, Grows, Leaves, MakesObject, GivesChild, TakesLeaf}
use Rattle.law_forest.proofs.Boots.{capability_fits, boot_forest}
use Rattle.law_forest.proofs.Forests.{forest_add, forest_without}
use Rattle.law_forest.proofs.Growth.{deed_grows, turn_growth}
use Rattle.law_forest.proofs.Members.{none_found}

pub change_forest : (f g : Delegations) → Change f g → IsForest f → IsForest g
change_forest f g (Stays same) forest = subst IsForest (sym same) forest
change_forest f g (Joins d fits is) forest = subst IsForest (sym is) (forest_add f d forest fits)
change_forest f g (Goes d there childless is) forest = subst IsForest (sym is) (forest_without f d.id forest childless)

pub first_fits : (k : KernelState) (maker : ℕ) (object : Object) (d : Derivation) → IsFirstCapability k maker object d → IsFitting k.delegations d
first_fits k maker object d first =
    capability_fits k.delegations d first.id first.parent first.kind first.order (none_found (covers Obj d.pd d.base) k.delegations.list first.free)

grows_change : (old new : KernelState) (ec : ℕ) → IsForest old.delegations → Grows old ec new → Change old.delegations new.delegations
grows_change old new ec forest (Leaves s) = Stays s.delegations
grows_change old new ec forest (MakesObject g) = Joins g.capability (first_fits old ec g.object g.capability g.first) g.delegations
grows_change old new ec forest (GivesChild g) = Joins g.child (g.given.fits forest) g.delegations
grows_change old new ec forest (TakesLeaf g) = let leaf = g.is.goes forest in Goes g.leaf leaf.there leaf.childless g.delegations

-- a deed changes one
pub deed_change : (k : KernelState) (ec : ℕ) → IsForest k.delegations → Change k.delegations (done k ec (deed k ec)).delegations
deed_change k ec forest = grows_change k (done k ec (deed k ec)) ec forest (deed_grows k ec)

pub done_forest : (k : KernelState) (ec : ℕ) (d : Deed) → d ≡ deed k ec → IsForest k.delegations → IsForest (done k ec d).delegations
done_forest k ec d is forest =
    subst (λ (e : Deed). IsForest (done k ec e).delegations) (sym is) (change_forest k.delegations (done k ec (deed k ec)).delegations (deed_change k ec forest) forest)

-- and so does a turn
pub turn_change : (k : KernelState) (cpu : ℕ) → IsForest k.delegations → Change k.delegations (after k cpu).delegations
turn_change k cpu forest = let g = turn_growth k cpu in grows_change k (after k cpu) g.ec forest g.grows

pub run_forest : (k : KernelState) (turns : List ℕ) → IsForest k.delegations → IsForest (run k turns).delegations
run_forest k [] forest = forest
run_forest k (cpu ∷ turns) forest = run_forest (after k cpu) turns (change_forest k.delegations (after k cpu).delegations (turn_change k cpu forest) forest)

pub boot_run_forest : (s : Scenario) (turns : List ℕ) → IsForest (run (boot s) turns).delegations
boot_run_forest s turns = run_forest (boot s) turns (boot_forest s)

pub reached_change : (s : Scenario) (turns : List ℕ) (cpu : ℕ) → Change (run (boot s) turns).delegations (after (run (boot s) turns) cpu).delegations
reached_change s turns cpu = turn_change (run (boot s) turns) cpu (boot_run_forest s turns)
