-- Where a deadline's moment has come something is due, and until its execution context acts it stands, or that context acts by itself.
use Rattle.std.proofs.Common.{◌≡◌, ℕ, zero, suc, ◌≤◌, ◌+◌, List, [], ◌∷◌, length, inl, inr, refl, sym, ap, ◌∙◌, subst, arith}
use Rattle.std.specs.Prelude.{◌≢◌, ◌⊎◌, Bool, true, false, ◌==◌, nat_le, is_some, slice_get, slice_index, slice_set, Option, Some, None, IfSome, option_map, option_and_then, Contains}
use Rattle.std.proofs.lemmas.Bool.{eqb-true, eqb-false}
use Rattle.nova_range.specs.declared.status.Status.{Status}
use Rattle.nova_range.specs.declared.status.Status.TheVariants.{Success}
use Rattle.nova_model.specs.Choice.{Candidate, next_to_act}
use Rattle.nova_model.specs.Deeds.{answered, deed}
use Rattle.nova_model.specs.Edges.{state_in}
use Rattle.nova_model.specs.Runs.{after}
use Rattle.nova_model.specs.State.{Contexts, KernelState, deadline_of, ec_in, ec_of, entry, with_ec}
use Rattle.nova_model.specs.Times.{Entry, Times, clock, due_on, entries, if_due, next_entry}
use Rattle.nova_model.specs.declared.context.EcState.{EcState}
use Rattle.nova_model.specs.declared.context.State.TheVariants.{Ready, Blocked}
use Rattle.nova_model.specs.declared.deed.Deed.{Deed}
use Rattle.nova_model.specs.declared.deed.Deed.TheVariants.{Ups, Blocks}
use Rattle.nova_model.specs.declared.event.Event.{Event}
use Rattle.nova_model.specs.declared.new_object.NewObject.{NewObject}
use Rattle.nova_model.specs.declared.times.Deadline.{Deadline}
use Rattle.nova_model.specs.declared.times.Due.TheVariants as due
use Rattle.law_forest.specs.Effects.{all_edited, clears_by, deadline_by, deadlines_with, edits_by, ends_by, joined, made_by, no_deadline, passing_ends}
use Rattle.law_forest.specs.Turns.{Acts, Idles, IsTurning, Passes, Takes, Turning, passing, turned}
use Rattle.law_forest.proofs.Turning.{comes}
use Rattle.law_turns.specs.Keeping.{IsKept}
use Rattle.law_turns.specs.Links.{state_at}
use Rattle.law_turns.specs.Moments.{IsFirstEntry}
use Rattle.law_turns.proofs.Moments.{first_entry, has_entries, no_entry}
use Rattle.law_turns.proofs.Setting.{entry_itself, entry_kept, entry_other, get_other}
use Rattle.law_response.specs.Waits.{ActsItself, is_due}
use Rattle.law_response.proofs.Selves.{joined_state, of_state}

-- WHERE AN ENTRY'S MOMENT HAS COME, SOMETHING IS DUE

pub come_due : (t : Times) (cpu : ℕ) (e : Entry) → Contains (entries t cpu) e → e.moment ≤ clock t cpu → is_some (due_on t cpu) ≡ true
come_due t cpu e there come = by_first (next_entry t cpu) refl (first_entry t cpu)
  where
    due : (f : Entry) → f.moment ≤ clock t cpu → is_some (if_due (clock t cpu) f) ≡ true
    due f least = let test : nat_le f.moment (clock t cpu) ≡ true = grind arith in rw test refl

    by_first : (o : Option Entry) → next_entry t cpu ≡ o → IfSome o (IsFirstEntry (entries t cpu)) → is_some (option_and_then (if_due (clock t cpu)) o) ≡ true
    by_first None is first =
        let none : entries t cpu ≡ [] = (no_entry t cpu).0 is in
        let at = subst (λ (es : List Entry). Contains es e) none there in
        absurd (let below = at.1 in omega arith)
    by_first (Some f) is first = elim (first.least e there) [
      | inl less ↦ due f (omega arith)
      | inr same ↦ (let equal = same.0 in due f (omega arith))
    ]

pub late_due : (k : KernelState) (ec : ℕ) (d : Deadline) → deadline_of k.times ec ≡ Some d → d.at ≤ clock k.times d.cpu → is_due k d.cpu ≡ true
late_due k ec d is come = come_due k.times d.cpu (record { moment = d.at; what = due.Deadline ec }) ((has_entries k.times d.cpu).deadlines ec d is refl) come

-- CLOCKS

pub index_least : (xs : List ℕ) (by cpu : ℕ) → slice_index xs cpu ≤ slice_index (slice_set xs by (slice_index xs by + 1)) cpu
index_least [] by cpu = omega arith
index_least (x ∷ xs) zero zero = omega arith
index_least (x ∷ xs) zero (suc cpu) = omega arith
index_least (x ∷ xs) (suc by) zero = omega arith
index_least (x ∷ xs) (suc by) (suc cpu) = index_least xs by cpu

pub clock_rises : (k : KernelState) (by cpu : ℕ) → clock k.times cpu ≤ clock (after k by).times cpu
clock_rises k by cpu = elim (comes k by) [
  | Idles none moment same answer ↦ (let e = ap (λ (s : KernelState). clock s.times cpu) same in omega arith)
  | Takes t e is state answer ↦ (let f = ap (λ (s : KernelState). clock s.times cpu) state in let least = index_least k.times.clocks by cpu in omega arith)
]

-- IT STANDS, OR ITS EXECUTION CONTEXT ACTS BY ITSELF

-- another's deed leaves a deadline, or wakes the context that has it
deed_stands : (ds : List (Option Deadline)) (a n : ℕ) (d : Deed) (x : Deadline) → n ≢ a → entry (slice_get ds n) ≡ Some x →
    (entry (slice_get (deadlines_with ds (deadline_by a d)) n) ≡ Some x) ⊎ ((sm : ℕ) × (d ≡ Ups sm (Some n)))
deed_stands ds a n (Ups sm None) x other is = inl is
deed_stands ds a n (Ups sm (Some w)) x other is = by_test (n == w) refl
  where
    by_test : (t : Bool) → (n == w) ≡ t → (entry (slice_get (slice_set ds w None) n) ≡ Some x) ⊎ ((s : ℕ) × (Ups sm (Some w) ≡ Ups s (Some n)))
    by_test true same = inr (sm, ap (λ (m : ℕ). Ups sm (Some m)) (sym (eqb-true n w same)))
    by_test false same = inl (ap entry (get_other ds w n None (eqb-false n w same)) ∙ is)
deed_stands ds a n (Blocks sm None) x other is = inl is
deed_stands ds a n (Blocks sm (Some y)) x other is = inl (entry_other ds a n y other ∙ is)
deed_stands ds a n d x other is = inl is

joined_stands : (ds : List (Option Deadline)) (made : Option NewObject) (n : ℕ) (x : Deadline) → entry (slice_get ds n) ≡ Some x →
    entry (slice_get (joined ds (option_map no_deadline made)) n) ≡ Some x
joined_stands ds None n x is = is
joined_stands ds (Some made) n x is = entry_kept ds None n x is

pub answered_ready : (cs : Contexts) (n : ℕ) (x y : EcState) → ec_in cs n ≡ Some x → y.state ≡ Ready → state_in (with_ec cs n y) n ≡ Some Ready
answered_ready cs n x y there ready = ap state_at (entry_itself cs n y (rw there refl)) ∙ ap Some ready

-- a context that is woken by another
pub ups_ready : (k : KernelState) (a n sm : ℕ) (x : EcState) → ec_in k.contexts n ≡ Some x → n ≢ a → state_in (all_edited k.contexts (edits_by k a (Ups sm (Some n)))) n ≡ Some Ready
ups_ready k a n sm x there other =
    let y = answered (ec_of k.contexts a) Success None in
    let one = with_ec k.contexts a y in
    answered_ready one n x (answered (ec_of one n) Success None) (entry_other k.contexts a n y other ∙ there) refl

stands_turned : (k : KernelState) (cpu ec : ℕ) (d : Deadline) (t : Turning) (e : Event) → IsTurning k cpu t e → IsKept k → deadline_of k.times ec ≡ Some d →
    option_map (λ (c : Candidate). c.actor) (next_to_act k cpu) ≢ Some ec → (deadline_of (turned k cpu t).times ec ≡ Some d) ⊎ ActsItself (turned k cpu t) ec
stands_turned k cpu ec d t e (Acts c chosen is event) kept at never =
    let other : ec ≢ c.actor = λ same. never (ap (option_map (λ (x : Candidate). x.actor)) chosen ∙ ap (λ (n : ℕ). Some n) (sym same)) in
    let x = of_state k.contexts ec (Blocked d.sm) (kept.deadlines ec d at).blocked in
    let does = deed k c.actor in
    subst (λ (u : Turning). (deadline_of (turned k cpu u).times ec ≡ Some d) ⊎ ActsItself (turned k cpu u) ec) (sym is)
    (elim (deed_stands k.times.deadlines c.actor ec does d other at) [
      | inl stands ↦ inl (joined_stands (deadlines_with k.times.deadlines (deadline_by c.actor does)) (made_by does) ec d stands)
      | inr woken ↦
          inr (record {
            state = Ready;
            is = joined_state (length k.objects) (all_edited k.contexts (edits_by k c.actor does)) ec (made_by does) Ready
                (ap (λ (f : Deed). state_in (all_edited k.contexts (edits_by k c.actor f)) ec) woken.1 ∙ ups_ready k c.actor ec woken.0 x.0 x.1 other);
            acts = refl;
          })
    ])
stands_turned k cpu ec d t e (Passes p comes is event) kept at never =
    let x = of_state k.contexts ec (Blocked d.sm) (kept.deadlines ec d at).blocked in
    subst (λ (u : Turning). (deadline_of (turned k cpu u).times ec ≡ Some d) ⊎ ActsItself (turned k cpu u) ec) (sym is) (by_ends (passing_ends k p) refl x.0 x.1)
  where
    P : Option (ℕ × Status) → Type 0
    P o = (entry (slice_get (deadlines_with k.times.deadlines (clears_by o)) ec) ≡ Some d) ⊎ (state_in (all_edited k.contexts (ends_by o)) ec ≡ Some Ready)

    ended : (o : Option (ℕ × Status)) (x : EcState) → ec_in k.contexts ec ≡ Some x → P o
    ended None x there = inl at
    ended (Some (w, status)) x there = by_test (ec == w) refl
      where
        by_test : (b : Bool) → (ec == w) ≡ b → P (Some (w, status))
        by_test true same =
            let one : ec ≡ w = eqb-true ec w same in
            inr (subst (λ (n : ℕ). state_in (with_ec k.contexts n (answered (ec_of k.contexts n) status None)) ec ≡ Some Ready) one
            (answered_ready k.contexts ec x (answered (ec_of k.contexts ec) status None) there refl))
        by_test false same = inl (ap entry (get_other k.times.deadlines w ec None (eqb-false ec w same)) ∙ at)

    by_ends : (o : Option (ℕ × Status)) → passing_ends k p ≡ o → (x : EcState) → ec_in k.contexts ec ≡ Some x →
        (deadline_of (turned k cpu (passing k p)).times ec ≡ Some d) ⊎ ActsItself (turned k cpu (passing k p)) ec
    by_ends o is x there = elim (subst P (sym is) (ended o x there)) [
      | inl stands ↦ inl stands
      | inr ready ↦ inr (record { state = Ready; is = ready; acts = refl })
    ]

pub stands_after : (k : KernelState) (cpu ec : ℕ) (d : Deadline) → IsKept k → deadline_of k.times ec ≡ Some d →
    option_map (λ (c : Candidate). c.actor) (next_to_act k cpu) ≢ Some ec → (deadline_of (after k cpu).times ec ≡ Some d) ⊎ ActsItself (after k cpu) ec
stands_after k cpu ec d kept at never = elim (comes k cpu) [
  | Idles none moment same answer ↦ inl (ap (λ (s : KernelState). deadline_of s.times ec) same ∙ at)
  | Takes t e is state answer ↦
      subst (λ (s : KernelState). (deadline_of s.times ec ≡ Some d) ⊎ ActsItself s ec) (sym state) (stands_turned k cpu ec d t e is kept at never)
]
