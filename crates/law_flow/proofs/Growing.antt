-- A side that makes an object stays partitioned off, with the object.
use Rattle.std.proofs.Common.{arith, ◌≡◌, ◌⊎◌, ◌<◌, ℕ, suc, List, [], ◌∷◌, ◌++◌, length, refl, sym, ap, ◌∙◌, subst, inl, inr}
use Rattle.std.specs.Prelude.{Bool, false, Contains, IsSome, slice_get, option_map, Option, Some, None}
use Rattle.std.specs.List.{find}
use Rattle.std.proofs.lemmas.Option.{slice_get_within}
use Rattle.nova_guest.specs.declared.page.Page.{Page}
use Rattle.nova_objects.specs.declared.object.Object.{Object}
use Rattle.nova_objects.specs.declared.object.Object.TheVariants.{Ec, Pd, Pt, Sc, Sm}
use Rattle.nova_range.specs.Rights.{write_right}
use Rattle.nova_range.specs.declared.range.Kind.{Kind}
use Rattle.nova_range.specs.declared.range.Kind.TheVariants.{Mem}
use Rattle.nova_model.specs.Boot.{Scenario, boot}
use Rattle.nova_model.specs.Delegations.{Delegations, added, covers, page_in, reach}
use Rattle.nova_model.specs.Lines.{line}
use Rattle.nova_model.specs.Runs.{after, run}
use Rattle.nova_model.specs.State.{KernelState}
use Rattle.nova_model.specs.declared.delegation.Derivation.{Derivation}
use Rattle.law_forest.specs.Made.{IsFirstCapability}
use Rattle.law_forest.proofs.Changes.{reached_change}
use Rattle.law_forest.proofs.Members.{IsIn, contains_from_in, found_in, in_from_contains}
use Rattle.law_isolation.specs.Sound.{IsSound}
use Rattle.law_isolation.proofs.Runs.{reached_sound}
use Rattle.law_origins.specs.Giving.{Acts}
use Rattle.law_origins.proofs.Actors.{object_stays}
use Rattle.law_integrity.specs.Confined.{Holds, IsMember, IsOwned, more}
use Rattle.law_integrity.proofs.Apart.{apart_along, target_there}
use Rattle.law_integrity.proofs.Confined.{reach_along}
use Rattle.law_integrity.proofs.Confining.{acts_one, any_held, both_member, held_none, member_pd, newest_object, newest_owned, object_kept}
use Rattle.law_integrity.proofs.Homes.{AreHomed, reached_homed}
use Rattle.law_integrity.proofs.Leaving.{flipped}
use Rattle.law_integrity.proofs.Resting.{IsMadeNow, holds_made, second_after}
use Rattle.law_flow.specs.Flow.{IsPartitioned, IsSide}
use Rattle.law_flow.proofs.Existing.{covers_pd}
use Rattle.law_flow.proofs.Giving.{find_joined, in_joined}
use Rattle.law_flow.proofs.Leaving.{some_there}
use Rattle.law_flow.proofs.Origins.{or_else}
use Rattle.law_flow.proofs.Sets.{AreOneSet, apart_as, line_alone, line_in, line_kept, owned_as, parents_kept}

-- what a turn makes, of one of the side's; and the side after it
pub record Grows (k : KernelState) (S R P Q : ℕ → Type 0) (cpu ec : ℕ) (o : Object) (x : Derivation) : Type 0 where
  pub acts : Acts k cpu ec
  pub member : IsMember k S ec
  pub first : IsFirstCapability k ec o x
  pub objects : (after k cpu).objects ≡ k.objects ++ o ∷ []
  pub delegations : (after k cpu).delegations ≡ added k.delegations x
  pub one : AreOneSet (more k S cpu) R
  pub old : (n : ℕ) → Q n → P n ⊎ (n ≡ length k.objects)

pub grown_partitioned : (s : Scenario) (before : List ℕ) (S R P Q T : ℕ → Type 0) (cpu ec : ℕ) (o : Object) (x : Derivation) → Grows (run (boot s) before) S R P Q cpu ec o x → IsPartitioned (run (boot s) before) S T P →
    IsSide (after (run (boot s) before) cpu) R Q → IsPartitioned (after (run (boot s) before) cpu) R (more (run (boot s) before) T cpu) Q
grown_partitioned s before S R P Q T cpu ec o x g c side = record {
  apart = apart_as new (more k S cpu) R (more k T cpu) g.one (apart_along s before (cpu ∷ []) S T c.apart);
  side = side;
  guarded = record {
    there = λ n q. there n (g.old n q);
    owned = λ n q. owned n (g.old n q);
    semaphores = λ n q is h. held n (g.old n q) is (holds_made k T cpu 0 n (second_after s before S T cpu c.apart.separate) homed (held_none h));
    lines = λ d a is mine above t. lines d a (in_joined k.delegations.list x d (subst (λ (f : Delegations). IsIn f.list d) g.delegations (in_from_contains new.delegations.list d is))) mine above t;
    memory = λ pd page to mine leads r.
        let was = led pd page to leads in
        c.guarded.memory pd page to (was_mine pd (holder_by pd page to was) mine) was (reach_along s before (cpu ∷ []) T S write_right to.frame (flipped k S T c.apart.separate) r);
  };
}
  where
    k : KernelState
    k = run (boot s) before

    new : KernelState
    new = after (run (boot s) before) cpu

    sound : IsSound (run (boot s) before)
    sound = reached_sound s before

    homed : AreHomed (run (boot s) before)
    homed = reached_homed s before

    is_new : slice_get (after (run (boot s) before) cpu).objects (length (run (boot s) before).objects) ≡ Some o
    is_new = newest_object k cpu o g.objects

    stays : (n : ℕ) → P n → slice_get (after (run (boot s) before) cpu).objects n ≡ slice_get (run (boot s) before).objects n
    stays n p = let at = some_there (slice_get k.objects n) (c.guarded.there n p) in object_stays k cpu n (slice_get_within k.objects n at.0 at.1)

    below : (n : ℕ) → P n → n < length (run (boot s) before).objects
    below n p = let at = some_there (slice_get k.objects n) (c.guarded.there n p) in slice_get_within k.objects n at.0 at.1

    there : (n : ℕ) → P n ⊎ (n ≡ length (run (boot s) before).objects) → IsSome (slice_get (after (run (boot s) before) cpu).objects n)
    there n (inl p) = subst IsSome (sym (stays n p)) (c.guarded.there n p)
    there n (inr is) = subst IsSome (sym (ap (slice_get new.objects) is ∙ is_new)) refl

    member_kept : (n : ℕ) → IsMember (run (boot s) before) S n → IsMember (after (run (boot s) before) cpu) R n
    member_kept n m = record {
      domain = m.domain;
      cpu = m.cpu;
      kind = m.kind;
      event = m.event;
      object = object_kept k cpu n (Ec m.domain m.cpu m.kind m.event) m.object;
      of = g.one.to m.domain (inl m.of);
    }

    owned_kept : (n : ℕ) (u : Option Object) → IsOwned (run (boot s) before) S n u → IsOwned (after (run (boot s) before) cpu) R n u
    owned_kept n (Some Pd) m = g.one.to n (inl m)
    owned_kept n (Some (Ec pd its kind event)) m = g.one.to pd (inl m)
    owned_kept n (Some (Sc donor its priority quantum)) m = member_kept donor m
    owned_kept n (Some (Pt handler mtd ip)) m = member_kept handler m
    owned_kept n (Some Sm) m = tt
    owned_kept n None m = tt

    newest : IsOwned (after (run (boot s) before) cpu) R (length (run (boot s) before).objects) (Some o)
    newest = owned_as new (more k S cpu) R g.one.to (length k.objects) (Some o) (newest_owned k S cpu ec x o c.apart.separate.first g.acts g.member g.first is_new)

    owned : (n : ℕ) → P n ⊎ (n ≡ length (run (boot s) before).objects) → IsOwned (after (run (boot s) before) cpu) R n (slice_get (after (run (boot s) before) cpu).objects n)
    owned n (inl p) = subst (IsOwned new R n) (sym (stays n p)) (owned_kept n (slice_get k.objects n) (c.guarded.owned n p))
    owned n (inr is) = subst (λ (i : ℕ). IsOwned new R i (slice_get new.objects i)) (sym is) (subst (IsOwned new R (length k.objects)) (sym is_new) newest)

    held : (n : ℕ) → P n ⊎ (n ≡ length (run (boot s) before).objects) → slice_get (after (run (boot s) before) cpu).objects n ≡ Some Sm → Holds (run (boot s) before) T 0 n ⊎ IsMadeNow (run (boot s) before) T cpu n → ⊥
    held n (inl p) is (inl h) = c.guarded.semaphores n p (sym (stays n p) ∙ is) (any_held h)
    held n (inl p) is (inr made) = let inside = below n p in let number = made.number in omega (arith, inside, number)
    held n (inr last) is (inl h) = let inside = target_there k T 0 n homed h in omega (arith, inside, last)
    held n (inr last) is (inr made) = both_member k S T made.maker c.apart.separate.disjoint (subst (IsMember k S) (acts_one k cpu ec made.maker g.acts made.acts) g.member) made.of

    -- a domain that is there is of the side's after the turn where it was before it
    was_mine : (pd : ℕ) → slice_get (run (boot s) before).objects pd ≡ Some Pd → R pd → S pd
    was_mine pd at mine = by_set (g.one.from pd mine)
      where
        by_set : more (run (boot s) before) S cpu pd → S pd
        by_set (inl old) = old
        by_set (inr made) = absurd (let inside = slice_get_within k.objects pd Pd at in let number = made.number in omega (arith, inside, number))

    old_lines : (d a : Derivation) → IsIn (run (boot s) before).delegations.list d → S d.pd → Contains (line (after (run (boot s) before) cpu).delegations.list d) a → more (run (boot s) before) T cpu a.pd → ⊥
    old_lines d a was mine above t = by_set t
      where
        same : line (after (run (boot s) before) cpu).delegations.list d ≡ line (run (boot s) before).delegations.list d
        same = line_kept k.delegations.list new.delegations.list (parents_kept k.delegations new.delegations sound.forest (reached_change s before cpu)) (suc d.id) d was

        before_it : Contains (line (run (boot s) before).delegations.list d) a
        before_it = subst (λ (l : List Derivation). Contains l a) same above

        its : slice_get (run (boot s) before).objects a.pd ≡ Some Pd
        its = homed.holders a (contains_from_in k.delegations.list a (line_in k.delegations.list (suc d.id) d a was (in_from_contains (line k.delegations.list d) a before_it)))

        by_set : more (run (boot s) before) T cpu a.pd → ⊥
        by_set (inl u) = c.guarded.lines d a (contains_from_in k.delegations.list d was) mine before_it u
        by_set (inr made) = let inside = slice_get_within k.objects a.pd Pd its in let number = made.number in omega (arith, inside, number)

    -- the maker's domain is there, and none of the others'
    maker_there : slice_get (run (boot s) before).objects x.pd ≡ Some Pd
    maker_there = subst (λ (n : ℕ). slice_get k.objects n ≡ Some Pd) g.first.creator.held (homed.holders g.first.creator.capability g.first.creator.there)

    alone : (a : Derivation) → IsIn (line (after (run (boot s) before) cpu).delegations.list x) a → a ≡ x
    alone a i = by_line (subst (λ (l : List Derivation). IsIn l a) (line_alone new.delegations.list x g.first.parent) i)
      where
        by_line : IsIn (x ∷ []) a → a ≡ x
        by_line (inl same) = sym same
        by_line (inr none) = absurd none

    lines : (d a : Derivation) → IsIn (run (boot s) before).delegations.list d ⊎ (d ≡ x) → R d.pd → Contains (line (after (run (boot s) before) cpu).delegations.list d) a → more (run (boot s) before) T cpu a.pd → ⊥
    lines d a (inl old) mine above t = old_lines d a old (was_mine d.pd (homed.holders d (contains_from_in k.delegations.list d old)) mine) above t
    lines d a (inr same) mine above t =
        by_set (subst (λ (e : Derivation). more k T cpu e.pd) (alone a (subst (λ (e : Derivation). IsIn (line new.delegations.list e) a) same (in_from_contains (line new.delegations.list d) a above))) t)
      where
        by_set : more (run (boot s) before) T cpu x.pd → ⊥
        by_set (inl u) = c.apart.separate.disjoint x.pd (subst S (sym g.first.pd) (member_pd k S ec g.member)) u
        by_set (inr made) = let inside = slice_get_within k.objects x.pd Pd maker_there in let number = made.number in omega (arith, inside, number)

    led : (pd page : ℕ) (to : Page) → reach (after (run (boot s) before) cpu).delegations.list pd page ≡ Some to → reach (run (boot s) before).delegations.list pd page ≡ Some to
    led pd page to leads =
        by_found (find (covers Mem pd page) k.delegations.list) refl
        (sym (ap (λ (f : Delegations). reach f.list pd page) g.delegations ∙ ap (option_map (page_in page)) (find_joined (covers Mem pd page) k.delegations.list x ∙ ap (λ (t : Bool). or_else (find (covers Mem pd page) k.delegations.list) t x) no_page)) ∙ leads)
      where
        no_page : covers Mem pd page x ≡ false
        no_page = ap (λ (n : Kind). covers Mem pd page (record x { kind = n })) g.first.kind

        by_found : (u : Option Derivation) → find (covers Mem pd page) k.delegations.list ≡ u → option_map (page_in page) (or_else u false x) ≡ Some to → reach k.delegations.list pd page ≡ Some to
        by_found (Some d) at h = ap (option_map (page_in page)) at ∙ h
        by_found None at h = absurd (cc)

    holder_by : (pd page : ℕ) (to : Page) → reach (run (boot s) before).delegations.list pd page ≡ Some to → slice_get (run (boot s) before).objects pd ≡ Some Pd
    holder_by pd page to leads = by_found (find (covers Mem pd page) k.delegations.list) refl leads
      where
        by_found : (u : Option Derivation) → find (covers Mem pd page) k.delegations.list ≡ u → option_map (page_in page) u ≡ Some to → slice_get k.objects pd ≡ Some Pd
        by_found None at h = absurd (cc)
        by_found (Some d) at h =
            let its = found_in (covers Mem pd page) k.delegations.list d at in
            subst (λ (n : ℕ). slice_get k.objects n ≡ Some Pd) (covers_pd Mem pd page d its.1) (homed.holders d (contains_from_in k.delegations.list d its.0))
