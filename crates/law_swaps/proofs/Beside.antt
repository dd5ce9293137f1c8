-- What a turn of a processor leaves of another whose part it doesn't change: what is chosen there, that nothing is due, its contexts and their words.
use Rattle.std.proofs.Common.{◌≡◌, ◌≢◌, ◌<◌, ◌≤◌, ℕ, zero, suc, ◌+◌, ◌-◌, List, [], ◌∷◌, ◌++◌, length, map, refl, sym, ap, ap₂, ◌∙◌, subst, inl, inr, arith}
use Rattle.std.specs.Prelude.{◌⊎◌, Bool, true, false, ◌==◌, ◌&&◌, nat_le, slice_get, Option, Some, None, IfSome, IsSome, option_and_then, option_map, Contains, if◌then◌else◌}
use Rattle.std.specs.List.{find}
use Rattle.std.proofs.lemmas.Bool.{eqb-true}
use Rattle.std.proofs.lemmas.Bool.Decides.{nat_tests}
use Rattle.std.proofs.lemmas.Option.{same_Some}
use Rattle.nova_ec.proofs.Ends.{found_more}
use Rattle.nova_ec.proofs.Tables.{chase_ends, there_below}
use Rattle.nova_ec.proofs.Untouched.{same_acts, turns_stay}
use Rattle.nova_ec.specs.Ways.{TurnsStay}
use Rattle.nova_objects.specs.declared.object.Object.{Object}
use Rattle.nova_objects.specs.declared.object.Object.TheVariants.{Sc}
use Rattle.nova_model.specs.Choice.{Candidate, actor, candidate_of, candidate_with, choice, choose}
use Rattle.nova_model.specs.Creation.{budget_of, context_of, object_of}
use Rattle.nova_model.specs.Edges.{AreEdges, acts, cpu_in, edge, met, met_within, stays}
use Rattle.nova_model.specs.State.{Contexts, KernelState, budget_at, context_in, ec_in, ec_of, entry, processor_of}
use Rattle.nova_model.specs.Times.{Entry, Times, clock, due_on, if_due, next_entry}
use Rattle.nova_model.specs.declared.budget.Budget.{Budget}
use Rattle.nova_model.specs.declared.context.EcState.{EcState}
use Rattle.nova_model.specs.declared.event.Event.{Event}
use Rattle.nova_model.specs.declared.new_object.NewObject.{NewObject}
use Rattle.nova_model.specs.declared.new_object.NewObject.TheVariants as new
use Rattle.law_forest.specs.Effects.{Edits, Effect, all_edited, edit_at, edited, joined, stamp_with}
use Rattle.law_forest.specs.Turns.{Acts, IsTurning, Passes, Turning, budgets_charged, turned}
use Rattle.law_forest.proofs.Members.{contains_from_in, in_from_contains}
use Rattle.law_turns.specs.Keeping.{IsKept}
use Rattle.law_turns.specs.Moments.{IsEarly}
use Rattle.law_turns.specs.Tables.{Refers, cpu_of}
use Rattle.law_turns.proofs.Deadlines.{at_home as at_own}
use Rattle.law_turns.proofs.Setting.{entry_other, get_below, joined_length, joined_other}
use Rattle.law_turns.proofs.TablesKept.{all_get}
use Rattle.law_alike.proofs.Turns.{long_budgets}
use Rattle.law_leases.proofs.Homes.{home}
use Rattle.law_turns.proofs.Courses.{edited_length}
use Rattle.law_swaps.specs.Touches.{ChangesWithin, IsMet, contexts_changed, has, processor_given}
use Rattle.law_swaps.proofs.Charging.{IsOn, other_schedule, paid_other}
use Rattle.law_swaps.proofs.Choosing.{at_home as home_of, candidate_at, choice_by}
use Rattle.law_swaps.proofs.Lists.{absent}

-- an effect that changes nothing of a processor
pub record IsElsewhere (k : KernelState) (e : Effect) (p : ℕ) : Type 0 where
  pub contexts : (ec : ℕ) → Contains (contexts_changed e) ec → processor_of k ec ≢ p
  pub words : (ec : ℕ) (words : List ℕ) → e.words ≡ Some (ec, words) → processor_of k ec ≢ p
  pub made : (cpu : ℕ) → processor_given e.made ≡ Some cpu → cpu ≢ p

pub elsewhere : (k : KernelState) (e : Effect) (p q : ℕ) (meets : List ℕ) → p ≢ q → has meets p ≡ false → IsSome (choose k p) → ChangesWithin k e (q ∷ meets) → IsElsewhere k e p
elsewhere k e p q meets other unmet chosen within = record {
  contexts = λ ec there. away (processor_of k ec) (within.contexts ec there);
  words = λ ec words is. away (processor_of k ec) (within.words ec words is);
  made = λ cpu is. away cpu (within.made cpu is);
}
  where
    away : (n : ℕ) → IsMet k (q ∷ meets) n → n ≢ p
    away n met is = elim (in_from_contains (q ∷ meets) n (met (subst (λ (cpu : ℕ). IsSome (choose k cpu)) (sym is) chosen))) [
      | inl same ↦ other (sym (same ∙ is))
      | inr listed ↦ absent meets p n unmet (contains_from_in meets n listed) (sym is)
    ]

-- a turn of a processor beside it: its effect is elsewhere, and its payer is of its own processor
pub record IsBeside (k : KernelState) (t : Turning) (p q : ℕ) : Type 0 where
  pub apart : p ≢ q
  pub elsewhere : IsElsewhere k t.effect p
  pub pays : (sc : ℕ) → t.charge ≡ Some sc → IsOn k.objects sc q

pub beside : (k : KernelState) (p q : ℕ) (t : Turning) (e : Event) (meets : List ℕ) → IsKept k → p ≢ q → has meets p ≡ false → IsSome (choose k p) → IsTurning k q t e →
    ChangesWithin k t.effect (q ∷ meets) → IsBeside k t p q
beside k p q t e meets kept other unmet chosen turning within = record {
  apart = other;
  elsewhere = elsewhere k t.effect p q meets other unmet chosen within;
  pays = λ sc is. by_turn turning sc is;
}
  where
    by_turn : IsTurning k q t e → (sc : ℕ) → t.charge ≡ Some sc → IsOn k.objects sc q
    by_turn (Acts c next acts_ event) sc is =
        let same : c.sc ≡ sc = same_Some c.sc sc (sym (ap (λ (u : Turning). u.charge) acts_) ∙ is) in
        subst (λ (n : ℕ). IsOn k.objects n q) same (home_of k q c kept next).pays
    by_turn (Passes w comes passes event) sc is = absurd (let both : None ≡ Some sc = sym (ap (λ (u : Turning). u.charge) passes) ∙ is in cc)

-- CONTEXTS

abbrev pub Avoid : Edits → ℕ → Type 0
Avoid [] x = Unit {0}
Avoid ((n, e) ∷ es) x = (x ≢ n) × Avoid es x

avoids : (es : Edits) (x : ℕ) → ((n : ℕ) → Contains (map (λ edit. edit.0) es) n → x ≢ n) → Avoid es x
avoids [] x far = tt
avoids ((n, e) ∷ es) x far = (
  far n (contains_from_in (n ∷ map (λ edit. edit.0) es) n (inl refl)),
  avoids es x (λ m there. far m (contains_from_in (n ∷ map (λ edit. edit.0) es) m (inr (in_from_contains (map (λ edit. edit.0) es) m there)))),
)

pub avoided : (k : KernelState) (e : Effect) (p x : ℕ) → IsElsewhere k e p → processor_of k x ≡ p → Avoid e.edits x
avoided k e p x els at = avoids e.edits x (λ n there same. els.contexts n there (ap (processor_of k) (sym same) ∙ at))

pub edits_leave : (cs : Contexts) (es : Edits) (x : ℕ) → Avoid es x → ec_in (all_edited cs es) x ≡ ec_in cs x
edits_leave cs [] x far = refl
edits_leave cs ((n, e) ∷ es) x far = edits_leave (edit_at cs n e) es x far.1 ∙ entry_other cs n x (edited (ec_of cs n) e) far.0

pub joined_below : {T : Type 0} (xs : List T) (o : Option T) (n : ℕ) → n < length xs → slice_get (joined xs o) n ≡ slice_get xs n
joined_below xs None n below = refl
joined_below xs (Some x) n below = joined_other xs x n (λ same. let at = same in absurd (omega (arith, at, below)))

-- where an object of another processor may join
pub own_stays : (cs : Contexts) (es : Edits) (o : Option (Option EcState)) (x : ℕ) → Avoid es x → x < length cs → ec_in (joined (all_edited cs es) o) x ≡ ec_in cs x
own_stays cs es o x far below =
    ap (λ (y : Option (Option EcState)). entry y) (joined_below (all_edited cs es) o x (subst (λ (n : ℕ). x < n) (sym (edited_length cs es)) below)) ∙ edits_leave cs es x far

-- TURNS

further : (cs : Contexts) (e n : ℕ) → AreEdges cs → e < length cs → (n ≡ length cs) ⊎ (n ≡ suc (length cs)) → find (stays cs) (met_within n (edge cs) (Some e)) ≡ find (stays cs) (met cs e)
further cs e n sound below (inl same) = ap (λ (m : ℕ). find (stays cs) (met_within m (edge cs) (Some e))) same
further cs e n sound below (inr more) = ap (λ (m : ℕ). find (stays cs) (met_within m (edge cs) (Some e))) more ∙ by_found (find (stays cs) (met cs e)) refl
  where
    by_found : (f : Option ℕ) → find (stays cs) (met cs e) ≡ f → find (stays cs) (met_within (suc (length cs)) (edge cs) (Some e)) ≡ find (stays cs) (met cs e)
    by_found None is = absurd (let none = chase_ends cs e sound is in omega (arith, below, none))
    by_found (Some f) is = found_more (length cs) (edge cs) (Some e) (stays cs) f is ∙ sym is

joined_by : {T : Type 0} (xs : List T) (o : Option T) → (length (joined xs o) ≡ length xs) ⊎ (length (joined xs o) ≡ suc (length xs))
joined_by xs None = inl refl
joined_by xs (Some x) = inr (joined_length xs x ∙ (let one : length xs + 1 ≡ suc (length xs) = omega arith in one))

there_at : (cs : Contexts) (x cpu : ℕ) → cpu_in cs x ≡ Some cpu → ec_in cs x ≡ Some (ec_of cs x)
there_at cs x cpu at = by_entry (ec_in cs x) at
  where
    by_entry : (o : Option EcState) → option_map (λ (y : EcState). y.cpu) o ≡ Some cpu → o ≡ Some (context_in o)
    by_entry (Some y) h = refl
    by_entry None h = absurd (cc)

pub below_at : (cs : Contexts) (x cpu : ℕ) → cpu_in cs x ≡ Some cpu → x < length cs
below_at cs x cpu at = there_below cs x (ec_of cs x) (there_at cs x cpu at)

-- the number of its processor
pub number_at : (k : KernelState) (x cpu : ℕ) → IsKept k → cpu_in k.contexts x ≡ Some cpu → processor_of k x ≡ cpu
number_at k x cpu kept at =
    same_Some (processor_of k x) cpu (sym (at_own k x (subst IsSome (sym (there_at k.contexts x cpu at)) refl) kept.tables) ∙ at)

pub turns_beside : (k : KernelState) (e : Effect) (p x : ℕ) (o : Option (Option EcState)) → IsKept k → IsElsewhere k e p → cpu_in k.contexts x ≡ Some p →
    TurnsStay k.contexts (joined (all_edited k.contexts e.edits) o) x
turns_beside k e p x o kept els at =
    turns_stay k.contexts (joined (all_edited k.contexts e.edits) o) (λ (n : ℕ). cpu_in k.contexts n ≡ Some p) x kept.edges
    (record {
      states = λ n here. ap (option_map (λ (y : EcState). y.state)) (own_stays k.contexts e.edits o n (avoided k e p n els (number_at k n p kept here)) (below_at k.contexts n p here));
      closed = λ n h here leads. kept.edges.one_processor n h leads ∙ here;
    }) at
    (further k.contexts x (length (joined (all_edited k.contexts e.edits) o)) kept.edges (below_at k.contexts x p at) long)
  where
    long : (length (joined (all_edited k.contexts e.edits) o) ≡ length k.contexts) ⊎ (length (joined (all_edited k.contexts e.edits) o) ≡ suc (length k.contexts))
    long = elim (joined_by (all_edited k.contexts e.edits) o) [
      | inl same ↦ inl (same ∙ edited_length k.contexts e.edits)
      | inr more ↦ inr (more ∙ ap suc (edited_length k.contexts e.edits))
    ]

-- THE CHOICE

last_or_none : {T : Type 0} (xs : List T) (x : T) (n : ℕ) → slice_get xs n ≡ None → (slice_get (xs ++ x ∷ []) n ≡ None) ⊎ (slice_get (xs ++ x ∷ []) n ≡ Some x)
last_or_none [] x zero h = inr refl
last_or_none [] x (suc n) h = inl refl
last_or_none (y ∷ xs) x zero h = absurd (cc)
last_or_none (y ∷ xs) x (suc n) h = last_or_none xs x n h

none_made : (k : KernelState) (p n : ℕ) (made : NewObject) → ((cpu : ℕ) → processor_given (Some made) ≡ Some cpu → cpu ≢ p) → candidate_of k p n (object_of made) ≡ None
none_made k p n (new.Sc ec cpu priority quantum) far = by_test (cpu == p) refl
  where
    by_test : (t : Bool) → (cpu == p) ≡ t → (if t && acts k.contexts (actor k ec) then candidate_with n (actor k ec) priority (budget_at k n) else None) ≡ None
    by_test true is = absurd (far cpu refl (eqb-true cpu p is))
    by_test false is = refl
none_made k p n new.Pd far = refl
none_made k p n (new.Ec pd cpu kind sp event) far = refl
none_made k p n (new.Pt ec mtd ip) far = refl
none_made k p n (new.Sm count) far = refl

pub budget_beside : (k : KernelState) (t : Turning) (p q sc : ℕ) → IsKept k → IsBeside k t p q → IsOn k.objects sc p → budget_at (turned k q t) sc ≡ budget_at k sc
budget_beside k t p q sc kept b on = by_charge t.charge refl
  where
    below : sc < length k.budgets
    below = subst (λ (n : ℕ). sc < n) (sym (long_budgets k kept)) (get_below k.objects sc (Sc on.0 p on.1 on.2) on.3)

    grown : entry (slice_get (joined k.budgets (option_map (budget_of k.next_stamp) t.effect.made)) sc) ≡ budget_at k sc
    grown = ap (λ (o : Option (Option Budget)). entry o) (joined_below k.budgets (option_map (budget_of k.next_stamp) t.effect.made) sc below)

    by_charge : (o : Option ℕ) → t.charge ≡ o →
        entry (slice_get (budgets_charged (joined k.objects (option_map object_of t.effect.made)) (joined k.budgets (option_map (budget_of k.next_stamp) t.effect.made)) (stamp_with k.next_stamp t.effect.made) o) sc) ≡ budget_at k sc
    by_charge None is = grown
    by_charge (Some y) is =
        let its = b.pays y is in
        ap (λ (o : Option (Option Budget)). entry o)
        (paid_other (joined k.budgets (option_map (budget_of k.next_stamp) t.effect.made)) y _ (stamp_with k.next_stamp t.effect.made) sc
        (entry (slice_get (joined k.budgets (option_map (budget_of k.next_stamp) t.effect.made)) y))
        (other_schedule k.objects y sc on.0 q p on.1 on.2 (λ same. b.apart (sym same)) its on.3))
        ∙ grown

candidate_beside : (k : KernelState) (t : Turning) (p q n : ℕ) → IsKept k → IsBeside k t p q → candidate_at (turned k q t) p n ≡ candidate_at k p n
candidate_beside k t p q n kept b = by_object (slice_get k.objects n) refl
  where
    of_old : (o : Object) → slice_get k.objects n ≡ Some o → candidate_of (turned k q t) p n o ≡ candidate_of k p n o
    of_old (Sc ec its priority quantum) at = by_test (its == p) refl
      where
        by_test : (v : Bool) → (its == p) ≡ v →
            (if v && acts (turned k q t).contexts (actor (turned k q t) ec) then candidate_with n (actor (turned k q t) ec) priority (budget_at (turned k q t) n) else None)
            ≡ (if v && acts k.contexts (actor k ec) then candidate_with n (actor k ec) priority (budget_at k n) else None)
        by_test false is = refl
        by_test true is =
            let here : slice_get k.objects n ≡ Some (Sc ec p priority quantum) = at ∙ ap (λ (m : ℕ). Some (Sc ec m priority quantum)) (eqb-true its p is) in
            let refers : cpu_of (slice_get k.objects ec) ≡ Some p = subst (λ (o : Option Object). IfSome o (Refers k.objects)) here (all_get (Refers k.objects) k.objects n kept.tables.refer) in
            let stay : TurnsStay k.contexts (turned k q t).contexts ec =
            turns_beside k t.effect p ec (option_map (context_of (length k.objects)) t.effect.made) kept b.elsewhere (home k ec p kept.tables refers) in
            ap₂ (λ (v : Bool) (c : Option Candidate). if v then c else None) (same_acts k.contexts (turned k q t).contexts ec stay)
            (ap₂ (λ (who : ℕ) (x : Option Budget). candidate_with n who priority x) stay.0 (budget_beside k t p q n kept b (ec, priority, quantum, here)))
    of_old other at = refl

    by_object : (o : Option Object) → slice_get k.objects n ≡ o → option_and_then (candidate_of (turned k q t) p n) (slice_get (joined k.objects (option_map object_of t.effect.made)) n) ≡ option_and_then (candidate_of k p n) (slice_get k.objects n)
    by_object (Some o) at =
        ap (option_and_then (candidate_of (turned k q t) p n)) (joined_below k.objects (option_map object_of t.effect.made) n (get_below k.objects n o at))
        ∙ (ap (option_and_then (candidate_of (turned k q t) p n)) at ∙ of_old o at)
        ∙ sym (ap (option_and_then (candidate_of k p n)) at)
    by_object None at = by_made t.effect.made b.elsewhere.made ∙ sym (ap (option_and_then (candidate_of k p n)) at)
      where
        by_made : (o : Option NewObject) → ((cpu : ℕ) → processor_given o ≡ Some cpu → cpu ≢ p) → option_and_then (candidate_of (turned k q t) p n) (slice_get (joined k.objects (option_map object_of o)) n) ≡ None
        by_made None far = ap (option_and_then (candidate_of (turned k q t) p n)) at
        by_made (Some m) far = elim (last_or_none k.objects (object_of m) n at) [
          | inl none ↦ ap (option_and_then (candidate_of (turned k q t) p n)) none
          | inr last ↦ ap (option_and_then (candidate_of (turned k q t) p n)) last ∙ none_made (turned k q t) p n m far
        ]

pub choice_beside : (k : KernelState) (t : Turning) (p q : ℕ) → IsKept k → IsBeside k t p q → choice (turned k q t) p ≡ choice k p
choice_beside k t p q kept b = choice_by k (turned k q t) p (λ n. candidate_beside k t p q n kept b)

-- NOTHING IS DUE

pub calm_early : (t : Times) (cpu : ℕ) → due_on t cpu ≡ None → IsEarly t cpu 1
calm_early t cpu calm = by_next (next_entry t cpu) calm
  where
    by_next : (o : Option Entry) → option_and_then (if_due (clock t cpu)) o ≡ None → IfSome (option_map (λ moment. moment - clock t cpu) (option_map (λ (e : Entry). e.moment) o)) (λ left. 1 ≤ left)
    by_next None is = tt
    by_next (Some e) is = by_test (nat_le e.moment (clock t cpu)) refl is
      where
        by_test : (b : Bool) → nat_le e.moment (clock t cpu) ≡ b → (if b then Some e.what else None) ≡ None → 1 ≤ e.moment - clock t cpu
        by_test true test h = absurd (cc)
        by_test false test h = grind (arith, nat_tests, test)
