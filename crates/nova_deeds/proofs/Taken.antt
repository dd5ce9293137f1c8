-- What a turn that is taken is, by the choice.
use Rattle.std.proofs.Common.{◌≡◌, ℕ, ◌<◌, ◌^◌, ◌==◌, List, [], ◌∷◌, length, arith, refl, ap, sym, ◌∙◌, subst}
use Rattle.std.specs.Prelude.{Bool, true, false, ◌&&◌, not, Option, Some, None, is_some, option_map, slice_get, if◌then◌else◌}
use Rattle.std.specs.List.{list_any}
use Rattle.nova_model.specs.Choice.{choice}
use Rattle.nova_model.specs.Deeds.{deed, done}
use Rattle.nova_model.specs.Edges.{acts, chase}
use Rattle.nova_model.specs.Inputs.{stirred}
use Rattle.nova_model.specs.Runs.{after}
use Rattle.nova_model.specs.Times.{due_on}
use Rattle.nova_model.specs.State.{Contexts, KernelState}
use Rattle.nova_model.specs.Forest.{IsForest}
use Rattle.nova_model.specs.Turn.{charged, state_after}
use Rattle.nova_model.specs.declared.deed.Deed.{Deed}
use Rattle.nova_model.specs.declared.deed.Deed.TheVariants.{Steps}
use Rattle.nova_objects.specs.declared.object.Object.{Object}
use Rattle.nova_objects.specs.declared.object.Object.TheVariants.{Pd, Ec, Sc, Pt, Sm}
use Rattle.nova_deeds.specs.Acts.{is_step}
use Rattle.nova_choice.specs.Choices.{chosen_of}
use Rattle.nova_choice.specs.Schedules.{actor_of, leads}
use Rattle.nova_deeds.specs.Stirs.{is_stirring, risen_in, written_frame}
use Rattle.nova_deeds.proofs.Counts.{IsCounted-charged}
use Rattle.nova_deeds.proofs.StirTables.{risen_calm, risen_same}
use Rattle.nova_deeds.proofs.Calm.{with_guests}
use Rattle.nova_deeds.specs.StirCounts.{numbers_from}
use Rattle.nova_deeds.specs.Counted.{IsCounted, KeepsCounts}
use Rattle.law_turns.specs.Keeping.{IsKept}
use Rattle.law_forest.proofs.Changes.{done_forest}
use Rattle.nova_deeds.proofs.Stirred.{risen_stirred}
use Rattle.nova_choice.specs.declared.choice.Chosen.{Chosen}
use Rattle.nova_choice.proofs.Choosing.{told_by, turn_told}
use Rattle.nova_choice.proofs.Nexts.{chosen_acts}

-- the context that acts in the turns of a scheduling context does act
actor_acts : (cs : Contexts) (o : Option Object) (actor : ℕ) → actor_of cs o ≡ Some actor → acts cs actor ≡ true
actor_acts cs (Some (Sc ec cpu priority quantum)) actor h = by_test (leads cs ec) refl h
  where
    by_test : (t : Bool) → leads cs ec ≡ t → (if t then Some (chase cs ec) else None) ≡ Some actor → acts cs actor ≡ true
    by_test true is g = let same : chase cs ec ≡ actor = cc in ap (acts cs) (sym same) ∙ is
    by_test false is g = absurd cc
actor_acts cs (Some Pd) actor h = absurd cc
actor_acts cs (Some (Ec pd cpu kind event)) actor h = absurd cc
actor_acts cs (Some (Pt ec mtd ip)) actor h = absurd cc
actor_acts cs (Some Sm) actor h = absurd cc
actor_acts cs None actor h = absurd cc

pub told_acts : (k : KernelState) (cpu : ℕ) (chosen : Chosen) → Some chosen ≡ option_map chosen_of (choice k cpu) → acts k.contexts chosen.actor ≡ true
told_acts k cpu chosen h =
    let told = told_by k cpu chosen h in
    actor_acts k.contexts (slice_get k.objects told.candidate.sc) chosen.actor
    (chosen_acts k cpu told.candidate told.is ∙ ap (λ (c : Chosen). Some c.actor) told.told)

-- the state after it, where the context that acts does its deed, what that stirs is counted, and the scheduling context pays
pub turn_taken : (k mid : KernelState) (cpu : ℕ) (chosen : Chosen) (d : Deed) → due_on k.times cpu ≡ None → Some chosen ≡ option_map chosen_of (choice k cpu) → d ≡ deed k chosen.actor →
    mid ≡ stirred k chosen.actor d (done k chosen.actor d) → after k cpu ≡ charged mid cpu chosen.sc
turn_taken k mid cpu chosen d none h is does =
    ap (state_after k) (turn_told k cpu chosen none h)
    ∙ ap (λ (s : KernelState). charged s cpu chosen.sc) (ap (λ (x : Deed). stirred k chosen.actor x (done k chosen.actor x)) (sym is) ∙ sym does)

-- a deed that was done, what it stirs is counted, and the scheduling context pays: that is the turn
pub record IsSettled (k mid new : KernelState) (cpu : ℕ) (chosen : Chosen) (d : Deed) (written : Option ℕ) : Type 0 where
  pub none_due : due_on k.times cpu ≡ None
  pub told : Some chosen ≡ option_map chosen_of (choice k cpu)
  pub decided : d ≡ deed k chosen.actor
  pub does : mid ≡ done k chosen.actor d
  pub wrote : d ≡ Steps → written ≡ written_frame k chosen.actor
  pub settled : new ≡ charged (risen_in mid (is_stirring mid written chosen.actor d)) cpu chosen.sc

stirred_done : (k mid : KernelState) (ec : ℕ) (d : Deed) (written : Option ℕ) → mid ≡ done k ec d → (d ≡ Steps → written ≡ written_frame k ec) →
    risen_in mid (is_stirring mid written ec d) ≡ stirred k ec d (done k ec d)
stirred_done k mid ec d written does wrote = ap (λ (s : KernelState). risen_in s (is_stirring s written ec d)) does ∙ risen_stirred k ec d written wrote

pub settled_state : (k mid new : KernelState) (cpu : ℕ) (chosen : Chosen) (d : Deed) (written : Option ℕ) → IsSettled k mid new cpu chosen d written →
    new ≡ after k cpu
settled_state k mid new cpu chosen d written s =
    s.settled
    ∙ sym (turn_taken k (risen_in mid (is_stirring mid written chosen.actor d)) cpu chosen d s.none_due s.told s.decided
    (stirred_done k mid chosen.actor d written s.does s.wrote))

pub settled_counts : (k mid new : KernelState) (cpu : ℕ) (chosen : Chosen) (d : Deed) (written : Option ℕ) → IsSettled k mid new cpu chosen d written →
    KeepsCounts k mid → k.turns < 2 ^ 31 → IsKept (after k cpu) → IsCounted k → IsCounted new
settled_counts k mid new cpu chosen d written s kept few keeps counted =
    let forest : IsForest mid.delegations =
    subst (λ (x : KernelState). IsForest x.delegations) (sym s.does) (done_forest k chosen.actor d s.decided counted.forest) in
    subst IsCounted (sym s.settled)
    (IsCounted-charged k mid (is_stirring mid written chosen.actor d) cpu chosen.sc kept forest few
    (subst IsKept (sym (settled_state k mid new cpu chosen d written s) ∙ s.settled) keeps) counted)

-- a store that no virtual CPU sees is an input for none
unseen : (k : KernelState) (ec : ℕ) (written : Option ℕ) (m : ℕ) → is_some written ≡ false → is_stirring k written ec Steps m ≡ false
unseen k ec (Some frame) m h = absurd cc
unseen k ec None m h = by_test (ec == m)
  where
    by_test : (t : Bool) → (if t then false else false) ≡ false
    by_test true = refl
    by_test false = refl

none_stirred : (k : KernelState) (ec : ℕ) (written : Option ℕ) → is_some written ≡ false → k ≡ risen_in k (is_stirring k written ec Steps)
none_stirred k ec written h =
    ap (with_guests k) (sym (risen_calm (is_stirring k written ec Steps) 0 k.stirs.guests (λ m from. unseen k ec written m h)))

-- nor where there is none
nobody : (ns : List ℕ) (m : ℕ) → not (length ns == 0) ≡ false → list_any (λ n. n == m) ns ≡ true → true ≡ false
nobody [] m h there = absurd cc
nobody (n ∷ ns) m h there = absurd (grind (arith, h))

none_there : (k : KernelState) (rises : ℕ → Bool) → not (length (numbers_from 0 k.stirs.guests) == 0) ≡ false → k ≡ risen_in k rises
none_there k rises h =
    ap (with_guests k)
    (sym (risen_same rises (λ m. false) 0 k.stirs.guests (λ m there. let never : true ≡ false = nobody (numbers_from 0 k.stirs.guests) m h there in absurd cc)
    ∙ risen_calm (λ m. false) 0 k.stirs.guests (λ m from. refl)))

stored_unseen : (k : KernelState) (ec : ℕ) (written : Option ℕ) → (is_some written && not (length (numbers_from 0 k.stirs.guests) == 0)) ≡ false →
    k ≡ risen_in k (is_stirring k written ec Steps)
stored_unseen k ec None h = none_stirred k ec None refl
stored_unseen k ec (Some frame) h = none_there k (is_stirring k (Some frame) ec Steps) h

-- the deed that goes unseen, and what it leaves
pub record GoesUnseen (k : KernelState) (ec : ℕ) (d : Deed) (written : Option ℕ) : Type 0 where
  pub step : d ≡ Steps
  pub counts : k ≡ risen_in k (is_stirring k written ec d)

pub goes_unseen : (k : KernelState) (ec : ℕ) (d : Deed) (written : Option ℕ) →
    (is_step d && not (is_some written && not (length (numbers_from 0 k.stirs.guests) == 0))) ≡ true → GoesUnseen k ec d written
goes_unseen k ec Steps written h = record { step = refl; counts = stored_unseen k ec written (by_test (is_some written && not (length (numbers_from 0 k.stirs.guests) == 0)) h) }
  where
    by_test : (t : Bool) → not t ≡ true → t ≡ false
    by_test true h = absurd cc
    by_test false h = refl
goes_unseen k ec other written h = absurd cc
