-- A part of an item, and a leaf that a revoke takes.
use Rattle.std.proofs.Common.{◌≡◌, ℕ, refl, sym, ap, ◌∙◌}
use Rattle.std.specs.Prelude.{Bool, true, Option, Some, None, Ok}
use Rattle.std.proofs.lemmas.Option.{same_Some}
use Rattle.nova_range.specs.Ranges.{end_of}
use Rattle.nova_range.specs.declared.range.Range.{Range}
use Rattle.nova_model.specs.Deeds.{deed, removes}
use Rattle.nova_model.specs.Deliveries.{delivery, delivery_between, first_delivery, given_to, taken_from, told_by}
use Rattle.nova_model.specs.Edges.{is_giving}
use Rattle.nova_model.specs.Delegations.{range_of}
use Rattle.nova_model.specs.Forest.{IsForest}
use Rattle.nova_model.specs.Revokes.{Revocation, in_scope, next_leaf}
use Rattle.nova_model.specs.State.{KernelState, context, pd_of, transfer}
use Rattle.nova_model.specs.Transfers.{next_source}
use Rattle.nova_model.specs.declared.context.Mark.{Mark}
use Rattle.nova_model.specs.declared.context.State.{State}
use Rattle.nova_model.specs.declared.context.State.TheVariants.{Granting, Replying, Revoking}
use Rattle.nova_model.specs.declared.delegation.Derivation.{Derivation}
use Rattle.nova_model.specs.declared.transfer.Delivery.{Delivery}
use Rattle.nova_model.specs.declared.transfer.ItemEnd.{ItemEnd}
use Rattle.nova_model.specs.declared.transfer.ItemEnd.TheVariants.{Given, Skipped, Translated}
use Rattle.nova_model.specs.declared.transfer.Job.{Job}
use Rattle.nova_model.specs.declared.transfer.Sequel.TheVariants as sequel
use Rattle.law_forest.specs.Courses.{IsLeaf}
use Rattle.law_forest.specs.Made.{IsGivenChild}
use Rattle.law_forest.proofs.Leaves.{leaf_facts}
use Rattle.law_forest.proofs.Members.{contains_from_in, in_filtered, in_from_contains}
use Rattle.law_forest.proofs.Walk.{EndsAs, giving_holds, job_in}
use Rattle.law_turns.proofs.Leaving.{first_left}
use Rattle.law_origins.proofs.Rights.{IsUnder, under}
use Rattle.law_forest.specs.Items.{job_at_cursor}
use Rattle.law_integrity.specs.Rightful.{MovesPast}
use Rattle.law_integrity.specs.Rights.{GivesFirst, GivesTo, MayTake, RepliesWith, TakesOfCaller}
use Rattle.law_integrity.proofs.Findings.{Ended, Found}

-- A PART OF AN ITEM

gives_to : (k : KernelState) (ec : ℕ) (v : Delivery) (giver receiver : ℕ) → delivery k ec (context k ec).state ≡ Some v → v.giver ≡ giver → v.receiver ≡ receiver →
    GivesTo k ec giver receiver
gives_to k ec v giver receiver present gives receives = by_state (context k ec).state refl present
  where
    by_taken : (c : Option (ℕ × Mark)) → (context k ec).caller ≡ c → (context k ec).state ≡ Granting None → taken_from k ec (transfer k ec).item c ≡ Some v → GivesTo k ec giver receiver
    by_taken None keeps is e = absurd (cc)
    by_taken (Some (caller, came)) keeps is e =
        let w : Delivery = delivery_between k caller ec (transfer k ec).item (Some ec) sequel.Taken in
        let same : w ≡ v = same_Some w v e in
        TakesOfCaller caller came is keeps (ap (λ (w : Delivery). w.giver) same ∙ gives) (ap (λ (w : Delivery). w.receiver) same ∙ receives)

    by_reply : (c : Option (ℕ × Mark)) → (context k ec).caller ≡ c → (context k ec).state ≡ Replying → given_to k ec (transfer k ec).item c ≡ Some v → GivesTo k ec giver receiver
    by_reply None keeps is e = absurd (cc)
    by_reply (Some (caller, came)) keeps is e =
        let w : Delivery = delivery_between k ec caller (transfer k ec).item (told_by caller came) (sequel.Replied caller came) in
        let same : w ≡ v = same_Some w v e in
        RepliesWith caller came is keeps (ap (λ (w : Delivery). w.giver) same ∙ gives) (ap (λ (w : Delivery). w.receiver) same ∙ receives)

    by_state : (t : State) → (context k ec).state ≡ t → delivery k ec t ≡ Some v → GivesTo k ec giver receiver
    by_state (Granting (Some domain)) is e =
        let same : first_delivery k ec domain ≡ v = same_Some (first_delivery k ec domain) v e in
        let its : domain ≡ receiver = ap (λ (w : Delivery). w.receiver) same ∙ receives in
        GivesFirst (is ∙ ap (λ (n : ℕ). Granting (Some n)) its) (ap (λ (w : Delivery). w.giver) same ∙ gives)
    by_state (Granting None) is e = by_taken (context k ec).caller refl is e
    by_state Replying is e = by_reply (context k ec).caller refl is e
    by_state other is e = absurd (cc)

how_ended : (k : KernelState) (ec : ℕ) (v : Delivery) (end : ItemEnd) (answer : ℕ) → delivery k ec (context k ec).state ≡ Some v → EndsAs k ec v end answer → Ended k ec end
how_ended k ec v (Given children) answer present is = is.0
how_ended k ec v (Skipped skip) answer present is = (v, present, is.0)
how_ended k ec v (Translated word) answer present is = (v, present, is.0)

-- behind the derivation that is next
past : (k : KernelState) (ec : ℕ) (v : Delivery) (j : Job) (d : Derivation) → delivery k ec (context k ec).state ≡ Some v → job_in v ≡ Ok j →
    next_source k.delegations.list (job_at_cursor k ec j) ≡ Some d → MovesPast k ec (end_of (range_of d))
past k ec v j d present reads next = record {
  job = job_at_cursor k ec j;
  is_with = record { item = v; present = present; job = j; reads = reads; on = refl };
  source = d;
  first = first_left k.delegations.list (job_at_cursor k ec j) d next;
  behind = refl;
}

pub giving_found : (k : KernelState) (ec : ℕ) → is_giving (context k ec).state ≡ true → Found k ec (deed k ec)
giving_found k ec gives =
    giving_holds (Found k ec) k ec gives tt
    (record { gives = λ d x g. past k ec g.item g.job d g.of_item.present g.reads g.next; skips = λ d reason place s. past k ec s.item s.job d s.of_item.present s.reads s.next; finishes = λ v end answer present is. how_ended k ec v end answer present is })

pub given_rightful : (k : KernelState) (ec : ℕ) (child : Derivation) (g : IsGivenChild k ec child) → GivesTo k ec g.source.pd child.pd
given_rightful k ec child g = gives_to k ec g.item g.source.pd child.pd g.present (sym g.held) (sym g.receiver)

-- A LEAF

pub may_take : (k : KernelState) (ec : ℕ) (range : Range) (own : Bool) (leaf : Derivation) → IsForest k.delegations → (context k ec).state ≡ Revoking range own →
    next_leaf (record { pd = pd_of k ec; range = range; own = own }) k.delegations ≡ Some leaf → MayTake k ec leaf
may_take k ec range own leaf forest state next =
    let r : Revocation = record { pd = pd_of k ec; range = range; own = own } in
    let facts : IsLeaf r k.delegations leaf = leaf_facts r k.delegations leaf forest next in
    let in_list = in_from_contains k.delegations.list leaf facts.there in
    let above : IsUnder k.delegations leaf r.pd = under k.delegations r leaf forest in_list facts.taken in
    record {
      range = range;
      own = own;
      revokes = state;
      taken = contains_from_in _ leaf (in_filtered (in_scope r k.delegations.list) k.delegations.list leaf in_list facts.taken);
      childless = facts.childless;
      ancestor = above.ancestor;
      above = above.above;
      held = above.held;
    }

pub removes_found : (k : KernelState) (ec : ℕ) (range : Range) (own : Bool) → IsForest k.delegations → (context k ec).state ≡ Revoking range own → (o : Option Derivation) →
    next_leaf (record { pd = pd_of k ec; range = range; own = own }) k.delegations ≡ o → Found k ec (removes o)
removes_found k ec range own forest state None next = tt
removes_found k ec range own forest state (Some leaf) next = may_take k ec range own leaf forest state next
