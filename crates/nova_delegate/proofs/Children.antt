-- A child that is made of what is given next can be added.
use Rattle.std.proofs.Common.{◌≡◌, ℕ, sym, subst, refl, arith}
use Rattle.std.specs.Prelude.{Bool, true, Some, IsSome, IfSome, Result, Ok, Err, IfOk}
use Rattle.std.proofs.Math.Nat.{lt_of_le_of_lt}
use Rattle.std.proofs.lemmas.Nat.{and_le_l}
use Rattle.nova_model.specs.Delegations.{Delegations, with_id}
use Rattle.nova_model.specs.Forest.{IsForest, IsFitting}
use Rattle.nova_model.specs.Transfers.{is_left, next_source, child_of, judged}
use Rattle.nova_model.specs.declared.delegation.Derivation.{Derivation}
use Rattle.nova_model.specs.declared.transfer.Job.{Job}
use Rattle.nova_model.specs.declared.transfer.Reason.{Reason}
use Rattle.law_forest.proofs.Lines.{member_found}
use Rattle.law_forest.proofs.Transfers.{child_is_range, child_targets, child_fits, next_facts}
use Rattle.nova_delegate.specs.Parts.{IsUnderWay, IsReady}
use Rattle.nova_nodes.specs.NodesStates.{IsPlaced, IsSound}

child_placed : (j : Job) (id : ℕ) (d : Derivation) → IsUnderWay j → IsPlaced d → is_left j d ≡ true → IsPlaced (child_of j id d)
child_placed j id d job placed left =
    let targets = child_targets j id d job.source job.dest placed.range.aligned left in
    let below = placed.targets in
    record {
      range = child_is_range j d job.source job.dest placed.range.aligned left;
      targets = omega arith;
      rights = lt_of_le_of_lt (and_le_l d.rights.0 j.rights.0) placed.rights;
    }

-- what is given next is the derivation of its id
source_found : (f : Delegations) (j : Job) (d : Derivation) → IsForest f → next_source f.list j ≡ Some d → with_id f.list d.id ≡ Some d
source_found f j d forest is = member_found f.list d forest.rising (next_facts f.list j d is).there

child_ready : (busy : Derivation → Bool) (f : Delegations) (j : Job) (d x : Derivation) → IsSound f → IsUnderWay j → IsPlaced d → next_source f.list j ≡ Some d →
    judged busy f.list (child_of j f.next d) ≡ Ok x → IsReady f x
child_ready busy f j d x sound job placed is ok =
    let good = child_fits busy f j d x sound.forest job.source job.dest is ok in
    subst (IsReady f) (sym good.0) (record {
      fits = subst (IsFitting f) good.0 good.1;
      placed = child_placed j f.next d job placed (next_facts f.list j d is).left;
      parent = refl;
    })

pub judged_ready : (busy : Derivation → Bool) (f : Delegations) (j : Job) (d : Derivation) → IsSound f → IsUnderWay j → IsPlaced d → next_source f.list j ≡ Some d →
    (r : Result Derivation Reason) → r ≡ judged busy f.list (child_of j f.next d) → IfOk r (IsReady f)
judged_ready busy f j d sound job placed is (Ok x) e = child_ready busy f j d x sound job placed is (sym e)
judged_ready busy f j d sound job placed is (Err reason) e = tt

-- a child lies in the space
pub child_is_placed : (f : Delegations) (j : Job) (d x : Derivation) (id : ℕ) → IsUnderWay j → IsPlaced d → next_source f.list j ≡ Some d → x ≡ child_of j id d → IsPlaced x
child_is_placed f j d x id job placed is made = subst IsPlaced (sym made) (child_placed j id d job placed (next_facts f.list j d is).left)

-- the parent of a child is there
pub parent_there : (f : Delegations) (j : Job) (d x : Derivation) (id : ℕ) → IsForest f → next_source f.list j ≡ Some d → x ≡ child_of j id d →
    IfSome x.parent (λ parent. IsSome (with_id f.list parent))
parent_there f j d x id forest is made =
    subst (λ (y : Derivation). IfSome y.parent (λ parent. IsSome (with_id f.list parent))) (sym made) (rw (source_found f j d forest is) refl)
