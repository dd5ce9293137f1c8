-- Two sets that share no object come to share none, and no context of either comes to wait where the other holds a right.
use Rattle.std.proofs.Common.{◌≡◌, ℕ, ◌<◌, ◌≤◌, ◌⊎◌, List, [], ◌∷◌, ◌++◌, length, sym, ap, ◌∙◌, subst, inl, inr, arith}
use Rattle.std.specs.Prelude.{Option, Some, option_map}
use Rattle.std.proofs.lemmas.Option.{slice_get_within}
use Rattle.nova_calls.specs.declared.numbers.TheConstants.{SM_CTRL}
use Rattle.nova_model.specs.Boot.{Scenario, boot}
use Rattle.nova_model.specs.Capabilities.{down_right}
use Rattle.nova_model.specs.Runs.{after, run}
use Rattle.nova_model.specs.State.{KernelState, context, context_at, context_in}
use Rattle.nova_model.specs.declared.context.EcState.{EcState}
use Rattle.nova_model.specs.declared.context.State.{State}
use Rattle.nova_model.specs.declared.context.State.TheVariants.{Blocked}
use Rattle.law_turns.proofs.TablesFit.{TablesFit, boot_run_fits}
use Rattle.law_origins.specs.Giving.{Acts}
use Rattle.law_origins.proofs.Lists.{run_append}
use Rattle.law_integrity.specs.Confined.{AreSetsApart, Holds, HoldsAny, StaysOrWakes, IsMember, Stays, Wakes, WaitsApart, grown, more}
use Rattle.law_integrity.proofs.Blocked.{Before, BlockedBy, Now, blocked_below, blocked_came, context_below}
use Rattle.law_integrity.proofs.Confined.{separate_after}
use Rattle.law_integrity.proofs.Leaving.{flipped, leaves_along}
use Rattle.law_integrity.proofs.Resting.{IsMadeNow, holds_made, first_after, holds_before, holds_of, second_after}
use Rattle.law_integrity.proofs.Confining.{both_member, IsAfter, acts_one, any_held, held_none, member_was}
use Rattle.law_integrity.proofs.Homes.{AreHomed, reached_homed}

-- OBJECTS

pub target_there : (k : KernelState) (S : ℕ → Type 0) (right object : ℕ) → AreHomed k → Holds k S right object → object < length k.objects
target_there k S right object homed h =
    let o = homed.targets h.capability h.there h.kind in
    let below = slice_get_within k.objects h.capability.target o.0 o.1 in
    let leads = h.leads in omega (arith, below, leads)

objects_after : (k : KernelState) (S T : ℕ → Type 0) (cpu object : ℕ) → IsAfter k S cpu → IsAfter k T cpu → AreHomed k → AreSetsApart k S T →
    HoldsAny (after k cpu) (more k S cpu) object → HoldsAny (after k cpu) (more k T cpu) object → ⊥
objects_after k S T cpu object a b homed apart mine theirs = by_both (holds_made k S cpu 0 object a homed (held_none mine)) (holds_made k T cpu 0 object b homed (held_none theirs))
  where
    by_both : Holds k S 0 object ⊎ IsMadeNow k S cpu object → Holds k T 0 object ⊎ IsMadeNow k T cpu object → ⊥
    by_both (inl m) (inl t) = apart.objects object (any_held m) (any_held t)
    by_both (inl m) (inr made) = absurd (let below = target_there k S 0 object homed m in let number = made.number in omega (arith, below, number))
    by_both (inr made) (inl t) = absurd (let below = target_there k T 0 object homed t in let number = made.number in omega (arith, below, number))
    by_both (inr made) (inr also) = both_member k S T also.maker apart.separate.disjoint (subst (IsMember k S) (acts_one k cpu made.maker also.maker made.acts also.acts) made.of) also.of

-- WAITS

waits_after : (s : Scenario) (before : List ℕ) (S T : ℕ → Type 0) (cpu : ℕ) → IsAfter (run (boot s) before) S cpu → IsAfter (run (boot s) before) T cpu →
    ((object : ℕ) → HoldsAny (run (boot s) before) S object → HoldsAny (run (boot s) before) T object → ⊥) → WaitsApart (run (boot s) before) S T →
    WaitsApart (after (run (boot s) before) cpu) (more (run (boot s) before) S cpu) (more (run (boot s) before) T cpu)
waits_after s before S T cpu a b objects waits n sm blocked mine theirs = by_came (blocked_came s before cpu n sm blocked)
  where
    k : KernelState
    k = run (boot s) before

    fits : TablesFit k
    fits = boot_run_fits s before

    was : (y : EcState) → context_at k n ≡ Some y → IsMember k S n
    was y at = member_was k cpu S n fits.tables (context_below k n y fits.tables at) mine

    by_came : BlockedBy k cpu n sm → ⊥
    by_came (Before y at is) = by_holds (holds_before k T cpu 0 sm b (reached_homed s before) (held_none theirs))
      where
        by_holds : Holds k T 0 sm ⊎ (length k.objects ≤ sm) → ⊥
        by_holds (inl h) = waits n sm (ap (λ (o : Option EcState). (context_in o).state) at ∙ is) (was y at) (any_held h)
        by_holds (inr later) = absurd (let below = blocked_below k n sm fits (ap (option_map (λ x. x.state)) at ∙ ap (λ (t : State). Some t) is) in omega (arith, below, later))
    by_came (Now acts_ y at asks) = by_holds (holds_before k T cpu 0 sm b (reached_homed s before) (held_none theirs))
      where
        held : Holds k S down_right sm
        held = holds_of k S n SM_CTRL sm down_right (was y at) asks.names

        by_holds : Holds k T 0 sm ⊎ (length k.objects ≤ sm) → ⊥
        by_holds (inl h) = objects sm (any_held held) (any_held h)
        by_holds (inr later) = absurd (let below = target_there k S down_right sm (reached_homed s before) held in omega (arith, below, later))

queues_after : (s : Scenario) (before : List ℕ) (S T : ℕ → Type 0) (cpu n m sm : ℕ) → AreSetsApart (run (boot s) before) S T → (context (after (run (boot s) before) cpu) n).state ≡ Blocked sm →
    (context (after (run (boot s) before) cpu) m).state ≡ Blocked sm → IsMember (after (run (boot s) before) cpu) (more (run (boot s) before) S cpu) n →
    IsMember (after (run (boot s) before) cpu) (more (run (boot s) before) T cpu) m → ⊥
queues_after s before S T cpu n m sm apart first second mine theirs = by_both (blocked_came s before cpu n sm first) (blocked_came s before cpu m sm second)
  where
    k : KernelState
    k = run (boot s) before

    fits : TablesFit k
    fits = boot_run_fits s before

    its : (y : EcState) → context_at k n ≡ Some y → IsMember k S n
    its y at = member_was k cpu S n fits.tables (context_below k n y fits.tables at) mine

    other : (y : EcState) → context_at k m ≡ Some y → IsMember k T m
    other y at = member_was k cpu T m fits.tables (context_below k m y fits.tables at) theirs

    was : (e : ℕ) (y : EcState) → context_at k e ≡ Some y → y.state ≡ Blocked sm → (context k e).state ≡ Blocked sm
    was e y at is = ap (λ (o : Option EcState). (context_in o).state) at ∙ is

    by_both : BlockedBy k cpu n sm → BlockedBy k cpu m sm → ⊥
    by_both (Before y at is) (Before z there also) = apart.queues n m sm (was n y at is) (was m z there also) (its y at) (other z there)
    by_both (Before y at is) (Now acts_ z there asks) = apart.first n sm (was n y at is) (its y at) (any_held (holds_of k T m SM_CTRL sm down_right (other z there) asks.names))
    by_both (Now acts_ y at asks) (Before z there also) = apart.second m sm (was m z there also) (other z there) (any_held (holds_of k S n SM_CTRL sm down_right (its y at) asks.names))
    by_both (Now acts_ y at asks) (Now also_ z there too) = both_member k S T m apart.separate.disjoint (subst (IsMember k S) (acts_one k cpu n m acts_ also_) (its y at)) (other z there)

-- ALONG TURNS

pub apart_flipped : (k : KernelState) (S T : ℕ → Type 0) → AreSetsApart k S T → AreSetsApart k T S
apart_flipped k S T apart = record {
  separate = flipped k S T apart.separate;
  objects = λ object theirs mine. apart.objects object mine theirs;
  first = apart.second;
  second = apart.first;
  queues = λ n m sm first second theirs mine. apart.queues m n sm second first mine theirs;
}

apart_after : (s : Scenario) (before : List ℕ) (S T : ℕ → Type 0) (cpu : ℕ) → AreSetsApart (run (boot s) before) S T →
    AreSetsApart (after (run (boot s) before) cpu) (more (run (boot s) before) S cpu) (more (run (boot s) before) T cpu)
apart_after s before S T cpu apart =
    let a = first_after s before S T cpu apart.separate in
    let b = second_after s before S T cpu apart.separate in
    record {
      separate = separate_after s before S T cpu apart.separate;
      objects = λ object. objects_after (run (boot s) before) S T cpu object a b (reached_homed s before) apart;
      first = waits_after s before S T cpu a b apart.objects apart.first;
      second = waits_after s before T S cpu b a (λ object theirs mine. apart.objects object mine theirs) apart.second;
      queues = λ n m sm first second mine theirs. queues_after s before S T cpu n m sm apart first second mine theirs;
    }

pub apart_along : (s : Scenario) (before turns : List ℕ) (S T : ℕ → Type 0) → AreSetsApart (run (boot s) before) S T →
    AreSetsApart (run (run (boot s) before) turns) (grown (run (boot s) before) S turns) (grown (run (boot s) before) T turns)
apart_along s before [] S T apart = apart
apart_along s before (cpu ∷ turns) S T apart =
    let k = run (boot s) before in
    let next : run (boot s) (before ++ cpu ∷ []) ≡ after k cpu = run_append (boot s) before (cpu ∷ []) in
    subst (λ (l : KernelState). AreSetsApart (run l turns) (grown l (more k S cpu) turns) (grown l (more k T cpu) turns)) next
    (apart_along s (before ++ cpu ∷ []) turns (more k S cpu) (more k T cpu)
    (subst (λ (l : KernelState). AreSetsApart l (more k S cpu) (more k T cpu)) (sym next) (apart_after s before S T cpu apart)))

-- a turn of T's leaves each execution context of S's as it is
pub contexts_stay : (s : Scenario) (before turns : List ℕ) (S T : ℕ → Type 0) (cpu ec n : ℕ) → AreSetsApart (run (boot s) before) S T → Acts (run (run (boot s) before) turns) cpu ec →
    IsMember (run (run (boot s) before) turns) (grown (run (boot s) before) T turns) ec → IsMember (run (run (boot s) before) turns) (grown (run (boot s) before) S turns) n →
    context_at (after (run (run (boot s) before) turns) cpu) n ≡ context_at (run (run (boot s) before) turns) n
contexts_stay s before turns S T cpu ec n apart acts_ mine theirs = by_left ((leaves_along s before turns S T cpu ec apart.separate acts_ mine).contexts n theirs)
  where
    l : KernelState
    l = run (run (boot s) before) turns

    by_left : StaysOrWakes l (grown (run (boot s) before) T turns) n (context_at l n) (context_at (after l cpu) n) → context_at (after l cpu) n ≡ context_at l n
    by_left (Stays same) = same
    by_left (Wakes woken x old new) = absurd ((apart_along s before turns S T apart).first n woken.sm woken.blocked theirs (any_held woken.may))
