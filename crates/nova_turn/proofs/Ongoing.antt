-- The list of the revokes that run stays that of the state, along deeds and charges.
use Rattle.std.proofs.Common.{◌≡◌, ℕ, ◌<◌, ◌≤◌, List, [], ◌∷◌, ap, ap₂, sym, ◌∙◌, subst, refl, arith}
use Rattle.std.specs.Prelude.{Bool, true, false, length, slice_get, IsSome, Option, Some, None}
use Rattle.std.proofs.lemmas.Bool.{eq-eqb}
use Rattle.std.proofs.lemmas.List.{length-append}
use Rattle.rv_model.specs.Step.{Once, Raised, Went}
use Rattle.nova_objects.specs.declared.object.Object.{Object}
use Rattle.nova_objects.specs.declared.object.Object.TheVariants.{Pd}
use Rattle.nova_range.specs.declared.range.Range.{Range}
use Rattle.nova_model.specs.Creation.{object_of}
use Rattle.nova_model.specs.Deeds.{brought, actor_after, deed, done, followed, instruction, recalled, replied_to, stepped, told, with_context, woken_in}
use Rattle.nova_model.specs.Running.{Running, revoke_of, running}
use Rattle.nova_model.specs.Semaphores.{upped}
use Rattle.nova_model.specs.State.{KernelState, budget_at, context, context_at, pd_of}
use Rattle.nova_model.specs.Turn.{charged, counted, paid_by, quantum_in}
use Rattle.nova_model.specs.declared.budget.Budget.{Budget}
use Rattle.nova_model.specs.declared.context.EcState.{EcState}
use Rattle.nova_model.specs.declared.context.Mark.{Mark}
use Rattle.nova_model.specs.declared.context.Mark.TheVariants as mark
use Rattle.nova_model.specs.declared.context.State.TheVariants.{Revoking}
use Rattle.nova_model.specs.declared.deed.Deed.{Deed}
use Rattle.nova_model.specs.declared.deed.Deed.TheVariants.{Rests, Steps, Makes, Recalls, Opens, Finishes, Replies, Revokes, Returns, Ups}
use Rattle.nova_model.specs.declared.transfer.ItemWords.{ItemWords}
use Rattle.nova_model.specs.declared.transfer.Sequel.{Sequel}
use Rattle.nova_model.specs.declared.transfer.Sequel.TheVariants as sequel
use Rattle.law_turns.specs.Revoking.{AsksRevoke, revoke_after, running_after}
use Rattle.law_forest.proofs.Running.{revokes_there, revoking_there}
use Rattle.nova_deeds.specs.Acts.{DeedFits}
use Rattle.nova_deeds.specs.Counted.{AreTables}
use Rattle.nova_turn.specs.Parts.{HasRoomFor, state_of}
use Rattle.nova_turn.specs.Revoking.{AreRunning, BeginsWithin, revokes_after}
use Rattle.nova_revoke.specs.Runners.{RevokesState, revoke_in}
use Rattle.nova_deeds.specs.Stirs.{risen_in}
use Rattle.nova_turn.specs.declared.parts.Parts.{Parts}
use Rattle.nova_ec.proofs.Changes.{there_at}
use Rattle.nova_ec.proofs.Tables.{there_below}
use Rattle.nova_deeds.proofs.Keeps.{done-keeps}
use Rattle.nova_revoke.proofs.Runners.{runs_begun, runs_ended, runs_fewer, runs_found}

-- WHICH CONTEXT RUNS A REVOKE

below : (k : KernelState) (ec : ℕ) → IsSome (context_at k ec) → ec < length k.contexts
below k ec there = there_below k.contexts ec (context k ec) (there_at k.contexts ec there)

-- the list has the revoke of a context that revokes
pub revoke_found : (k : KernelState) (r : RevokesState) (ec : ℕ) (range : Range) (own : Bool) → AreRunning k r → (context k ec).state ≡ Revoking range own →
    revoke_in ec r.list ≡ Some (record { pd = pd_of k ec; range = range; own = own })
revoke_found k r ec range own are is =
    let runs = revokes_there k ec range own is in
    let within = revoking_there k ec (record { pd = pd_of k ec; range = range; own = own }) runs in
    ap (revoke_in ec) are.list ∙ runs_found (revoke_of k) 0 (length k.contexts) ec (omega arith) (omega (arith, within.below)) ∙ runs

-- AFTER A DEED

deed_runs : (k : KernelState) (ec : ℕ) (d : Deed) → ec < length k.contexts →
    ((range : Range) (own : Bool) → d ≡ Revokes range own → revoke_of k ec ≡ None) → running_after k ec d ≡ revokes_after (pd_of k ec) ec d (running k)
deed_runs k ec (Revokes range own) within idle =
    runs_begun (revoke_of k) (revoke_after k ec (Revokes range own)) 0 (length k.contexts) ec (record { pd = pd_of k ec; range = range; own = own })
    (omega arith) (omega (arith, within)) (idle range own refl) (rw (eq-eqb ec ec refl) refl) (λ e other. rw other refl)
deed_runs k ec Returns within idle =
    runs_ended (revoke_of k) (revoke_after k ec Returns) 0 (length k.contexts) ec (rw (eq-eqb ec ec refl) refl) (λ e other. rw other refl)
deed_runs k ec other within idle = refl

-- what is known of a deed when it is decided: it is that of a context that is there, and leaves the revokes of others
pub record IsDecided (k : KernelState) (ec : ℕ) (d : Deed) : Type 0 where
  pub there : IsSome (context_at k ec)
  pub is : d ≡ deed k ec
  pub all : running (done k ec (deed k ec)) ≡ running_after k ec (deed k ec)
  pub begins : (range : Range) (own : Bool) → deed k ec ≡ Revokes range own → AsksRevoke k ec range own

running_done : (k : KernelState) (ec : ℕ) (d : Deed) → IsDecided k ec d → running (done k ec d) ≡ revokes_after (pd_of k ec) ec d (running k)
running_done k ec d decided =
    ap (λ (e : Deed). running (done k ec e)) decided.is ∙ decided.all ∙ sym (ap (running_after k ec) decided.is)
    ∙ deed_runs k ec d (below k ec decided.there) (λ range own is. (decided.begins range own (sym decided.is ∙ is)).idle)

pub still_running : (k new : KernelState) (ec : ℕ) (d : Deed) (r after : RevokesState) → IsDecided k ec d → AreRunning k r → new ≡ done k ec d →
    after.list ≡ revokes_after (pd_of k ec) ec d r.list → length (done k ec d).contexts ≤ after.places → AreRunning new after
still_running k new ec d r after decided are is list places = record {
  list = list ∙ ap (revokes_after (pd_of k ec) ec d) are.list ∙ sym (running_done k ec d decided) ∙ sym (ap running is);
  places = rw is places;
}

-- a revoke that begins has a place
pub begins_within : (k : KernelState) (ec : ℕ) (d : Deed) (r after : RevokesState) → IsDecided k ec d → AreRunning k r → after.list ≡ r.list → r.places ≤ after.places →
    BeginsWithin after d
begins_within k ec (Revokes range own) r after decided are same more =
    let idle = (decided.begins range own (sym decided.is)).idle in
    let fewer = runs_fewer (revoke_of k) 0 (length k.contexts) ec (omega arith) (omega (arith, below k ec decided.there)) idle in
    let places = are.places in
    rw (same ∙ are.list) (omega (arith, fewer, places, more))
begins_within k ec other r after decided are same more = tt

-- PLACES

told_objects : (k : KernelState) (item : ℕ) (words : Option ItemWords) → (told k item words).objects ≡ k.objects
told_objects k item None = refl
told_objects k item (Some w) = refl

followed_objects : (k : KernelState) (ec : ℕ) (after : Sequel) → (followed k ec after).objects ≡ k.objects
followed_objects k ec sequel.Item = refl
followed_objects k ec sequel.Opened = refl
followed_objects k ec sequel.Taken = refl
followed_objects k ec (sequel.Replied caller m) = refl

brought_objects : (k : KernelState) (ec caller : ℕ) (m : Mark) → (brought k ec caller m).objects ≡ k.objects
brought_objects k ec caller mark.Call = refl
brought_objects k ec caller mark.Exit = refl

replied_objects : (k : KernelState) (ec caller : ℕ) (m : Mark) (items : Bool) → (replied_to k ec caller m items).objects ≡ k.objects
replied_objects k ec caller m true = brought_objects k ec caller m
replied_objects k ec caller m false = brought_objects k ec caller m

woken_objects : (k : KernelState) (whom : Option ℕ) → (woken_in k whom).objects ≡ k.objects
woken_objects k None = refl
woken_objects k (Some ec) = refl

recalled_objects : (k : KernelState) (whose : ℕ) (o : Option EcState) → (recalled k whose o).objects ≡ k.objects
recalled_objects k whose None = refl
recalled_objects k whose (Some x) = refl

stepped_objects : (k : KernelState) (ec : ℕ) (o : Once) → (stepped k ec o).objects ≡ k.objects
stepped_objects k ec (Raised reason q0 q1) = refl
stepped_objects k ec (Went regs store) = refl

objects_within : (k : KernelState) (ec : ℕ) (d : Deed) (places : ℕ) (domain : ℕ) (p : Parts) → length k.objects ≤ p.revokes.places →
    p.objects.items ≡ k.objects → HasRoomFor domain d p → length (done k ec d).objects ≤ p.revokes.places
objects_within k ec (Makes call target new) places domain p few same room =
    let more = room.0.revokes in let is = ap (λ (os : List Object). length os) same in omega (arith, more, is, length-append k.objects (object_of new ∷ []))
objects_within k ec (Opens target number) places domain p few same room =
    let more = room.revokes in let is = ap (λ (os : List Object). length os) same in omega (arith, more, is, length-append k.objects (Pd ∷ []))
objects_within k ec Rests places domain p few same room = few
objects_within k ec Steps places domain p few same room = rw (stepped_objects k ec (instruction k ec)) few
objects_within k ec (Recalls whose) places domain p few same room =
    rw (recalled_objects (with_context k ec (actor_after (context k ec) (Recalls whose))) whose (context_at (with_context k ec (actor_after (context k ec) (Recalls whose))) whose)) few
objects_within k ec (Finishes item end words after) places domain p few same room =
    let mid = with_context k ec (actor_after (context k ec) (Finishes item end words after)) in
    rw (followed_objects (told mid item words) ec after ∙ told_objects mid item words) few
objects_within k ec (Replies caller m items) places domain p few same room =
    rw (replied_objects (with_context k ec (actor_after (context k ec) (Replies caller m items))) ec caller m items) few
objects_within k ec (Ups sm whom) places domain p few same room =
    rw (woken_objects (record (with_context k ec (actor_after (context k ec) (Ups sm whom))) { semaphores = upped k.semaphores sm }) whom) few
objects_within k ec other places domain p few same room = few

-- each execution context has a place after a deed, for which room was made
pub places_within : (k : KernelState) (ec domain : ℕ) (d : Deed) (p : Parts) → DeedFits k ec d → AreTables k → length k.contexts ≤ p.revokes.places → state_of p ≡ k →
    HasRoomFor domain d p → length (done k ec d).contexts ≤ p.revokes.places
places_within k ec domain d p fits tables places same room =
    let new = (done-keeps k ec d fits).tables tables in
    let few : length k.objects ≤ p.revokes.places = rw (sym tables.contexts) places in
    rw new.contexts (objects_within k ec d 0 domain p few (ap (λ (s : KernelState). s.objects) same) room)

-- after an instruction that went on, and after a deed that is done in the room that was made
pub stepped_runs : (p q : Parts) (ec : ℕ) → IsDecided (state_of p) ec Steps → AreRunning (state_of p) p.revokes → AreTables (state_of p) →
    state_of q ≡ done (state_of p) ec Steps → q.revokes ≡ p.revokes → AreRunning (state_of q) q.revokes
stepped_runs p q ec decided are tables does same =
    still_running (state_of p) (state_of q) ec Steps p.revokes q.revokes decided are does (ap (λ (r : RevokesState). r.list) same)
    (rw same (places_within (state_of p) ec 0 Steps p tt tables are.places refl tt))

pub done_runs : (p mid q : Parts) (ec domain : ℕ) (d : Deed) → IsDecided (state_of p) ec d → AreRunning (state_of p) p.revokes → DeedFits (state_of p) ec d → AreTables (state_of p) →
    state_of mid ≡ state_of p → mid.revokes.list ≡ p.revokes.list → p.revokes.places ≤ mid.revokes.places → HasRoomFor domain d mid → state_of q ≡ done (state_of p) ec d →
    q.revokes.list ≡ revokes_after (pd_of (state_of mid) ec) ec d mid.revokes.list → q.revokes.places ≡ mid.revokes.places → AreRunning (state_of q) q.revokes
done_runs p mid q ec domain d decided are fits tables same list more room does after places =
    let few = are.places in
    still_running (state_of p) (state_of q) ec d p.revokes q.revokes decided are does
    (after ∙ ap₂ (λ (s : KernelState) (ws : List Running). revokes_after (pd_of s ec) ec d ws) same list)
    (rw places (places_within (state_of p) ec domain d mid fits tables (omega (arith, few, more)) same room))

-- AFTER A CHARGE

paid_runs : (k : KernelState) (sc quantum cpu : ℕ) (o : Option Budget) (r : RevokesState) → AreRunning k r → AreRunning (counted (paid_by k sc quantum o) cpu) r
paid_runs k sc quantum cpu None r are = record { list = are.list; places = are.places }
paid_runs k sc quantum cpu (Some b) r are = record { list = are.list; places = are.places }

charged_runs : (k : KernelState) (cpu sc : ℕ) (r : RevokesState) → AreRunning k r → AreRunning (charged k cpu sc) r
unfolding charged
charged_runs k cpu sc r are = paid_runs k sc (quantum_in (slice_get k.objects sc)) cpu (budget_at k sc) r are

risen_runs : (k : KernelState) (rises : ℕ → Bool) (r : RevokesState) → AreRunning k r → AreRunning (risen_in k rises) r
risen_runs k rises r are = record { list = are.list; places = are.places }

pub settled_runs : (k mid new : KernelState) (rises : ℕ → Bool) (cpu sc : ℕ) (r noted after : RevokesState) → AreRunning k r → mid ≡ risen_in k rises → noted ≡ r →
    new ≡ charged mid cpu sc → after ≡ noted → AreRunning new after
settled_runs k mid new rises cpu sc r noted after are risen same paid still =
    subst (λ (s : KernelState). AreRunning s after) (sym (paid ∙ ap (λ (s : KernelState). charged s cpu sc) risen))
    (subst (AreRunning (charged (risen_in k rises) cpu sc)) (sym (still ∙ same)) (charged_runs (risen_in k rises) cpu sc r (risen_runs k rises r are)))
