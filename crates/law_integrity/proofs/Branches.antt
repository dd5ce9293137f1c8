-- What a deed does to objects and delegations, and by what right.
use Rattle.std.proofs.Common.{◌≡◌, ℕ, ◌≤◌, List, [], ◌∷◌, ◌++◌, length, refl, sym, ap, ◌∙◌, subst, arith}
use Rattle.std.specs.Prelude.{Bool, true, false, not, ◌==◌, drop, filter, if◌then◌else◌, slice_get, Option, Some, None, option_and_then}
use Rattle.std.proofs.lemmas.Option.{same_Some}
use Rattle.nova_model.specs.Choice.{Candidate, next_to_act}
use Rattle.nova_model.specs.Creation.{object_of, root_capability}
use Rattle.nova_model.specs.Deeds.{deed}
use Rattle.nova_model.specs.Delegations.{Delegations, added}
use Rattle.nova_model.specs.Forest.{HasParentIn, IsForest, IsWithin}
use Rattle.nova_model.specs.Revokes.{Revocation, next_leaf}
use Rattle.nova_model.specs.Running.{revoke_by}
use Rattle.nova_model.specs.Runs.{after}
use Rattle.nova_model.specs.State.{KernelState, context, context_at, context_in, pd_of}
use Rattle.nova_model.specs.declared.context.EcState.{EcState}
use Rattle.nova_model.specs.declared.context.State.{State}
use Rattle.nova_model.specs.declared.context.State.TheVariants.{Revoking}
use Rattle.nova_model.specs.declared.delegation.Derivation.{Derivation}
use Rattle.nova_model.specs.declared.new_object.NewObject.{NewObject}
use Rattle.nova_model.specs.declared.new_object.NewObject.TheVariants as new
use Rattle.nova_model.specs.declared.deed.Deed.{Deed}
use Rattle.nova_model.specs.declared.deed.Deed.TheVariants as deeds
use Rattle.law_forest.specs.Effects.{branch_by, branched, made_by}
use Rattle.law_forest.specs.Made.{GivesChild, Grows, GrowsBy, IsGivenChild, IsNextLeaf, Leaves, MakesObject, MayCreate, TakesLeaf}
use Rattle.law_forest.proofs.Allowed.{IsAllowed}
use Rattle.law_forest.proofs.Growth.{turn_grows}
use Rattle.law_forest.proofs.Members.{in_from_contains}
use Rattle.law_forest.proofs.Pairs.{same_id}
use Rattle.law_turns.specs.Giving.{IsShared}
use Rattle.law_turns.specs.Left.{IsGivenOf}
use Rattle.law_turns.proofs.Leaving.{part_given}
use Rattle.law_turns.proofs.Setting.{joined_length}
use Rattle.law_integrity.specs.Rights.{MayTake}
use Rattle.law_integrity.specs.Integrity.{Creates, Gives, GrowsByRight, Keeps, Takes}
use Rattle.law_integrity.proofs.Parts.{given_rightful, may_take}

-- whose domain may have an object made, where an object is made
pub creator_of : (k : KernelState) (ec : ℕ) (d : Deed) (m : NewObject) → IsAllowed k ec d → made_by d ≡ Some m → MayCreate k (pd_of k ec)
creator_of k ec (deeds.Makes call target made) m may is = may.creator
creator_of k ec (deeds.Opens target domain) m may is = may.0.creator
creator_of k ec other m may is = absurd (cc)

-- a child does not exceed the derivation that it is given of
pub child_within : (k : KernelState) (ec : ℕ) (child : Derivation) → IsForest k.delegations → (g : IsGivenChild k ec child) → IsWithin child g.source
child_within k ec child forest g =
    let has = subst (HasParentIn k.delegations.list child) g.parent (g.fits forest).parent in
    let list = k.delegations.list in
    subst (IsWithin child)
    (same_id list has.0 g.source forest.rising (in_from_contains list has.0 has.1) (in_from_contains list g.source g.there) has.2) has.3

-- the leaf of a revoke that it runs
leaf_taken : (k : KernelState) (ec : ℕ) (leaf : Derivation) → IsForest k.delegations → IsNextLeaf k ec leaf → MayTake k ec leaf
leaf_taken k ec leaf forest next = by_entry (context_at k ec) refl next.runs
  where
    by_state : (s : State) → (context k ec).state ≡ s → revoke_by (pd_of k ec) s ≡ Some next.revoke → MayTake k ec leaf
    by_state (Revoking range own) is h =
        let r : Revocation = record { pd = pd_of k ec; range = range; own = own } in
        may_take k ec range own leaf forest is (ap (λ (r : Revocation). next_leaf r k.delegations) (same_Some r next.revoke h) ∙ next.next)
    by_state other is h = absurd (cc)

    by_entry : (o : Option EcState) → context_at k ec ≡ o → option_and_then (λ x. revoke_by (pd_of k ec) x.state) o ≡ Some next.revoke → MayTake k ec leaf
    by_entry None at h = absurd (cc)
    by_entry (Some x) at h = by_state x.state (ap (λ (o : Option EcState). (context_in o).state) at) h

-- WHAT IS GIVEN IS SHARED

last_same : {T : Type 0} (xs : List T) (x y : T) → xs ++ x ∷ [] ≡ xs ++ y ∷ [] → x ≡ y
last_same [] x y same = let one : Some x ≡ Some y = ap (λ l. slice_get l 0) same in same_Some x y one
last_same (z ∷ xs) x y same = last_same xs x y (ap (drop 1) same)

fewer : {T : Type 0} (is : T → Bool) (xs : List T) → length (filter is xs) ≤ length xs
fewer is [] = omega arith
fewer is (x ∷ xs) = by_test (is x) (fewer is xs)
  where
    by_test : (t : Bool) → length (filter is xs) ≤ length xs → length (if t then x ∷ filter is xs else filter is xs) ≤ length (x ∷ xs)
    by_test true h = omega (arith, h)
    by_test false h = omega (arith, h)

-- where a child joins by a deed, it is the child that the deed gives, and what holds of that holds of it
of_given : (P : Derivation → Type 0) (k : KernelState) (ec : ℕ) (child : Derivation) (d : Deed) → deed k ec ≡ d → ((child : Derivation) (cursor : ℕ) → deed k ec ≡ deeds.Gives child cursor → P child) →
    IsGivenChild k ec child → added k.delegations child ≡ branched k.delegations (branch_by k ec d) → P child
of_given P k ec child (deeds.Gives other cursor) is holds given same =
    subst P (sym (last_same k.delegations.list child other (ap (λ (f : Delegations). f.list) same))) (holds other cursor is)
of_given P k ec child (deeds.Makes call target made) is holds given same =
    let one = last_same k.delegations.list child (root_capability k (pd_of k ec) target (object_of made)) (ap (λ (f : Delegations). f.list) same) in
    absurd (let both : None ≡ Some given.source.id = sym (ap (λ (x : Derivation). x.parent) one) ∙ given.parent in cc)
of_given P k ec child (deeds.Opens target domain) is holds given same =
    let one = last_same k.delegations.list child (root_capability k (pd_of k ec) target (object_of new.Pd)) (ap (λ (f : Delegations). f.list) same) in
    absurd (let both : None ≡ Some given.source.id = sym (ap (λ (x : Derivation). x.parent) one) ∙ given.parent in cc)
of_given P k ec child (deeds.Removes leaf) is holds given same =
    let longer = joined_length k.delegations.list child in
    let shorter = fewer (λ (x : Derivation). not (x.id == leaf.id)) k.delegations.list in
    let both = ap (λ (f : Delegations). length f.list) same in absurd (omega (arith, longer, shorter, both))
of_given P k ec child other is holds given same =
    let longer = joined_length k.delegations.list child in
    let both = ap (λ (f : Delegations). length f.list) same in absurd (omega (arith, longer, both))

pub grows_by : (k new : KernelState) (ec : ℕ) → IsForest k.delegations → ((child : Derivation) (cursor : ℕ) → deed k ec ≡ deeds.Gives child cursor → IsShared k ec child) →
    new.delegations ≡ branched k.delegations (branch_by k ec (deed k ec)) → Grows k ec new → GrowsByRight k new ec
grows_by k new ec forest shares is (Leaves h) = Keeps h.objects h.delegations
grows_by k new ec forest shares is (MakesObject h) = Creates h.object h.capability h.first h.objects h.delegations
grows_by k new ec forest shares is (GivesChild h) =
    Gives h.child h.given.source h.given.there h.given.parent (child_within k ec h.child forest h.given) (of_given (IsShared k ec) k ec h.child (deed k ec) refl shares h.given (sym h.delegations ∙ is))
    (of_given (IsGivenOf k ec) k ec h.child (deed k ec) refl (λ child cursor. part_given k ec cursor child) h.given (sym h.delegations ∙ is))
    (given_rightful k ec h.child h.given) h.objects h.delegations
grows_by k new ec forest shares is (TakesLeaf h) = Takes h.leaf (leaf_taken k ec h.leaf forest h.is) h.objects h.delegations

pub chosen_grows : (k : KernelState) (cpu : ℕ) (c : Candidate) → next_to_act k cpu ≡ Some c → Grows k c.actor (after k cpu)
chosen_grows k cpu c chosen = subst (λ (o : Option Candidate). GrowsBy k o (after k cpu)) chosen (turn_grows k cpu)
