-- A turn of the side's own keeps the condition, too, where it makes no object.
use Rattle.std.proofs.Common.{◌≡◌, ℕ, List, [], ◌∷◌, ◌++◌, refl, sym, ap, ◌∙◌, subst, inl, inr, arith}
use Rattle.std.specs.Prelude.{Bool, true, false, Contains, slice_get, option_map, Option, Some, None}
use Rattle.std.specs.List.{find}
use Rattle.std.proofs.lemmas.Option.{same_Some, slice_get_within}
use Rattle.nova_objects.specs.declared.object.Object.{Object}
use Rattle.nova_objects.specs.declared.object.Object.TheVariants.{Pd}
use Rattle.nova_model.specs.Boot.{Scenario, boot}
use Rattle.nova_model.specs.Creation.{object_of}
use Rattle.nova_model.specs.Deeds.{deed}
use Rattle.nova_model.specs.Delegations.{Delegations, added, covers, reach, without}
use Rattle.nova_model.specs.Inputs.{is_stirred}
use Rattle.nova_model.specs.Runs.{after, run}
use Rattle.nova_model.specs.State.{KernelState, deadline_of, entry}
use Rattle.nova_model.specs.declared.deed.Deed.{Deed}
use Rattle.nova_model.specs.declared.deed.Deed.TheVariants as deeds
use Rattle.nova_model.specs.declared.delegation.Derivation.{Derivation}
use Rattle.nova_model.specs.declared.times.Deadline.{Deadline}
use Rattle.nova_model.specs.declared.new_object.NewObject.{NewObject}
use Rattle.law_forest.specs.Effects.{Branch, branch_by, branched, deadline_by, deadlines_with, joined, made_by, no_deadline}
use Rattle.law_forest.specs.Turns.{turned}
use Rattle.law_forest.proofs.Members.{IsIn, contains_from_in, in_from_contains}
use Rattle.law_turns.proofs.Setting.{more_at}
use Rattle.law_isolation.specs.Sound.{IsSound}
use Rattle.law_isolation.proofs.Runs.{reached_sound}
use Rattle.law_integrity.specs.Confined.{JoinsSet, Of, more}
use Rattle.law_integrity.proofs.Entries.{get_set}
use Rattle.law_flow.specs.Flow.{DerivesWithin, held_by, IsPartitioned, IsSide, IsAtWork, RevokesNothing, own_turn}
use Rattle.law_flow.proofs.Deciding.{IsOwn}
use Rattle.law_flow.proofs.Doing.{branch_none, by_deed}
use Rattle.law_flow.proofs.Giving.{in_joined, part_leads}
use Rattle.law_flow.proofs.Pairs.{Alone, IsOwnDeed, Leaf, New, Open, Part, never, first_made, less_was, own_derives, own_turned_side}
use Rattle.law_flow.proofs.Taking.{led_before}
use Rattle.law_flow.proofs.Within.{own_at}
use Rattle.law_flow.proofs.Tables.{unjoined}
use Rattle.law_flow.proofs.Turns.{IsOwnTurn, own_is, own_there, own_turned}
use Rattle.law_flow.proofs.Guarding.{GoesOn, IsGivenTo, kept_on, next_partitioned}

-- ONE OF THE SIDE'S OWN

undated : (ds : List (Option Deadline)) (o : Option (ℕ × Option Deadline)) (n : ℕ) → ((m : ℕ) (d : Option Deadline) → o ≡ Some (m, d) → d ≡ None) → entry (slice_get ds n) ≡ None →
    entry (slice_get (deadlines_with ds o) n) ≡ None
undated ds None n none old = old
undated ds (Some (m, d)) n none old =
    get_set (λ (o : Option (Option Deadline)). entry o ≡ None) ds m n d old (λ same. none m d refl)

pair_second : (m n : ℕ) (d e : Option Deadline) → ◌≡◌ {A = Option (ℕ × Option Deadline)} (Some (m, d)) (Some (n, e)) → d ≡ e
pair_second m n d e is = ap (λ (a : ℕ × Option Deadline). a.1) (same_Some {A = ℕ × Option Deadline} (m, d) (n, e) is)

still_in : (list : List Derivation) (x d : Derivation) → IsIn list d → IsIn (list ++ x ∷ []) d
still_in [] x d i = absurd i
still_in (y ∷ list) x d (inl same) = inl same
still_in (y ∷ list) x d (inr i) = inr (still_in list x d i)

no_date : (P : ℕ → Type 0) (ec : ℕ) (d : Deed) → IsOwn ⊥ P d → (m : ℕ) (e : Option Deadline) → deadline_by ec d ≡ Some (m, e) → e ≡ None
no_date P ec (deeds.Ups sm None) own m e is = absurd (cc)
no_date P ec (deeds.Ups sm (Some w)) own m e is = sym (pair_second w m None e is)
no_date P ec (deeds.Blocks sm None) own m e is = absurd (cc)
no_date P ec (deeds.Blocks sm (Some until)) own m e is = absurd own.1
no_date P ec other own m e is = absurd (cc)

own_no_date : (creating : Type 0) (k : KernelState) (S P : ℕ → Type 0) (ec : ℕ) (d : Deed) → IsOwnDeed ⊥ creating k S P d → (m : ℕ) (e : Option Deadline) → deadline_by ec d ≡ Some (m, e) → e ≡ None
own_no_date creating k S P ec d (Alone own) m e is = no_date P ec d own m e is
own_no_date creating k S P ec d (Part child cursor gives part) m e is = absurd (let none : None ≡ Some (m, e) = sym (ap (deadline_by ec) gives) ∙ is in cc)
own_no_date creating k S P ec d (Leaf leaf takes mine) m e is = absurd (let none : None ≡ Some (m, e) = sym (ap (deadline_by ec) takes) ∙ is in cc)
own_no_date creating k S P ec d (New call target made makes creates of) m e is = absurd (let none : None ≡ Some (m, e) = sym (ap (deadline_by ec) makes) ∙ is in cc)
own_no_date creating k S P ec d (Open target domain opens creates) m e is = absurd (let none : None ≡ Some (m, e) = sym (ap (deadline_by ec) opens) ∙ is in cc)

pub own_goes_by : (timed : Type 0) (s : Scenario) (before : List ℕ) (S P : ℕ → Bool) (T : ℕ → Type 0) (cpu ec sc : ℕ) → IsPartitioned (run (boot s) before) (Of S) T (Of P) →
    own_turn S (run (boot s) before) cpu ≡ Some (ec, sc) →
    IsOwnDeed timed (false ≡ true) (run (boot s) before) (Of S) (Of P) (deed (run (boot s) before) ec) → IsPartitioned (after (run (boot s) before) cpu) (Of S) (more (run (boot s) before) T cpu) (Of P)
own_goes_by timed s before S P T cpu ec sc c own mine = next_partitioned s before S P T cpu c on none_made
  where
    k : KernelState
    k = run (boot s) before

    sound : IsSound (run (boot s) before)
    sound = reached_sound s before

    its : IsOwnTurn S (run (boot s) before) cpu ec sc
    its = own_is S k cpu ec sc own

    p : P ec ≡ true
    p = own_there S k (Of P) cpu ec sc sound c.side its

    d : Deed
    d = deed (run (boot s) before) ec

    is : after (run (boot s) before) cpu ≡ turned (run (boot s) before) cpu (by_deed (run (boot s) before) ec sc (deed (run (boot s) before) ec) (is_stirred (run (boot s) before) ec (deed (run (boot s) before) ec)))
    is = own_turned S k cpu ec sc its

    delegations : (after (run (boot s) before) cpu).delegations ≡ branched (run (boot s) before).delegations (branch_by (run (boot s) before) ec (deed (run (boot s) before) ec))
    delegations = ap (λ (l : KernelState). l.delegations) is

    objects : (after (run (boot s) before) cpu).objects ≡ (run (boot s) before).objects
    objects = ap (λ (l : KernelState). l.objects) is ∙ unjoined k.objects object_of (made_by d) (first_made timed (false ≡ true) k (Of S) (Of P) d never mine)

    side : IsSide (after (run (boot s) before) cpu) (Of S) (Of P)
    side = subst (λ (l : KernelState). IsSide l (Of S) (Of P)) (sym is) (own_turned_side timed (false ≡ true) k (Of S) (Of P) c.side sound.forest (λ h. absurd (never h)) cpu ec sc p d mine (is_stirred k ec d))

    by_own : IsOwnDeed timed (false ≡ true) (run (boot s) before) (Of S) (Of P) (deed (run (boot s) before) ec) → GoesOn (run (boot s) before) (after (run (boot s) before) cpu) (Of S) (Of P)
    by_own (Alone own) =
        let same = delegations ∙ ap (λ (o : Option Branch). branched k.delegations o) (branch_none timed k (Of P) ec d own) in
        kept_on k (after k cpu) (Of S) (Of P) side (λ e there s_pd. subst (λ (f : Delegations). Contains f.list e) same there)
        (λ kind pd place s_pd. ap (λ (f : Delegations). option_map held_by (find (covers kind pd place) f.list)) same)
    by_own (Part child cursor gives part) =
        let same : (after k cpu).delegations ≡ added k.delegations child = delegations ∙ ap (λ (x : Deed). branched k.delegations (branch_by k ec x)) gives in
        record {
          side = side;
          gains = λ e there s_pd. elim (in_joined k.delegations.list child e (in_from_contains (k.delegations.list ++ child ∷ []) e (subst (λ (f : Delegations). Contains f.list e) same there))) [
            | inl old ↦ inl (contains_from_in k.delegations.list e old)
            | inr new ↦ inr (subst (IsGivenTo k (after k cpu) (Of S)) (sym new) (record {
              part = part;
              stays = subst (λ (f : Delegations). IsIn f.list part.source) (sym same) (still_in k.delegations.list child part.source part.there);
            }))
          ];
          pages = λ pd page to s_pd leads. part_leads k (Of S) child sound.forest part pd page to s_pd (sym (ap (λ (f : Delegations). reach f.list pd page) same) ∙ leads);
        }
    by_own (Leaf leaf takes its_leaf) =
        let same : (after k cpu).delegations ≡ without k.delegations leaf.id = delegations ∙ ap (λ (x : Deed). branched k.delegations (branch_by k ec x)) takes in
        record {
          side = side;
          gains = λ e there s_pd. inl (less_was k.delegations leaf.id e (subst (λ (f : Delegations). Contains f.list e) same there));
          pages = λ pd page to s_pd leads. record {
            pd = pd;
            page = page;
            to = to;
            of = s_pd;
            leads = led_before k.delegations sound.forest leaf (in_from_contains k.delegations.list leaf its_leaf.there) pd page to (sym (ap (λ (f : Delegations). reach f.list pd page) same) ∙ leads);
            its = refl;
          };
        }
    by_own (New call target made makes creates of) = absurd (never creates)
    by_own (Open target domain opens creates) = absurd (never creates)

    on : GoesOn (run (boot s) before) (after (run (boot s) before) cpu) (Of S) (Of P)
    on = by_own mine

    none_made : (n : ℕ) → JoinsSet (run (boot s) before) (Of S) cpu n → ⊥
    none_made n made =
        let at : slice_get k.objects n ≡ Some Pd = sym (ap (λ (os : List Object). slice_get os n) objects) ∙ made.made in
        let below = slice_get_within k.objects n Pd at in let number = made.number in omega (arith, below, number)

pub own_goes_on : (timed : Type 0) (revokes : Bool) (s : Scenario) (before : List ℕ) (S P : ℕ → Bool) (T : ℕ → Type 0) (cpu ec sc : ℕ) → IsPartitioned (run (boot s) before) (Of S) T (Of P) →
    own_turn S (run (boot s) before) cpu ≡ Some (ec, sc) → IsAtWork timed (RevokesNothing (run (boot s) before) (Of S)) (revokes ≡ true) (false ≡ true) (run (boot s) before) ec →
    (revokes ≡ true → DerivesWithin (run (boot s) before) (Of S)) → IsPartitioned (after (run (boot s) before) cpu) (Of S) (more (run (boot s) before) T cpu) (Of P)
own_goes_on timed revokes s before S P T cpu ec sc c own works within =
    own_goes_by timed s before S P T cpu ec sc c own (own_at timed (revokes ≡ true) (false ≡ true) S P T (run (boot s) before) cpu ec sc (reached_sound s before) c own works within)

-- and nothing of others is made of what the side holds
pub own_derives_on : (timed : Type 0) (s : Scenario) (before : List ℕ) (S P : ℕ → Bool) (T : ℕ → Type 0) (cpu ec sc : ℕ) (revokes : Bool) → IsPartitioned (run (boot s) before) (Of S) T (Of P) →
    own_turn S (run (boot s) before) cpu ≡ Some (ec, sc) → IsAtWork timed (RevokesNothing (run (boot s) before) (Of S)) (revokes ≡ true) (false ≡ true) (run (boot s) before) ec →
    (revokes ≡ true → DerivesWithin (run (boot s) before) (Of S)) → revokes ≡ true → DerivesWithin (after (run (boot s) before) cpu) (Of S)
own_derives_on timed s before S P T cpu ec sc revokes c own works within may =
    let k = run (boot s) before in
    let sound = reached_sound s before in
    own_derives timed (false ≡ true) k (after k cpu) (Of S) (Of P) sound.forest ec (deed k ec) (own_at timed (revokes ≡ true) (false ≡ true) S P T k cpu ec sc sound c own works within)
    (ap (λ (l : KernelState). l.delegations) (own_turned S k cpu ec sc (own_is S k cpu ec sc own))) (within may)

-- without a deadline it comes to none
joined_undated : (ds : List (Option Deadline)) (o : Option NewObject) (n : ℕ) → entry (slice_get ds n) ≡ None → entry (slice_get (joined ds (option_map no_deadline o)) n) ≡ None
joined_undated ds None n old = old
joined_undated ds (Some made) n old = more_at (λ (o : Option Deadline). o ≡ None) ds None n old (λ h. h)

pub own_undated : (creating : Type 0) (S : ℕ → Bool) (k : KernelState) (A B : ℕ → Type 0) (cpu ec sc : ℕ) → own_turn S k cpu ≡ Some (ec, sc) → IsOwnDeed ⊥ creating k A B (deed k ec) → (n : ℕ) → deadline_of k.times n ≡ None →
    deadline_of (after k cpu).times n ≡ None
own_undated creating S k A B cpu ec sc own mine n old =
    let d = deed k ec in
    ap (λ (l : KernelState). deadline_of l.times n) (own_turned S k cpu ec sc (own_is S k cpu ec sc own))
    ∙ joined_undated (deadlines_with k.times.deadlines (deadline_by ec d)) (made_by d) n (undated k.times.deadlines (deadline_by ec d) n (own_no_date creating k A B ec d mine) old)
