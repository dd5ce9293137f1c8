-- What is derived from a side's capability to a shared semaphore stays that side's, where all that is trusted is at rest.
use Rattle.std.proofs.Common.{◌≡◌, ◌≢◌, ◌⊎◌, ◌++◌, ◌<◌, ℕ, zero, suc, List, [], ◌∷◌, refl, sym, ap, ◌∙◌, subst, inl, inr, arith}
use Rattle.std.specs.Prelude.{Bool, true, not, ◌==◌, Contains, slice_get, Option, Some, None, option_map}
use Rattle.std.proofs.lemmas.Bool.{eq-eqb, eqb-true}
use Rattle.std.proofs.lemmas.Option.{slice_get_within}
use Rattle.nova_objects.specs.declared.object.Object.TheVariants.{Pd, Sm}
use Rattle.nova_range.specs.declared.range.Kind.TheVariants.{Obj}
use Rattle.nova_model.specs.Boot.{Scenario, boot}
use Rattle.nova_model.specs.Choice.{Candidate, next_to_act}
use Rattle.nova_model.specs.Delegations.{Delegations, is_child_of, is_id, parent_of, with_id}
use Rattle.nova_model.specs.Forest.{ArePairs, HasParentIn, IsForest}
use Rattle.nova_model.specs.Lines.{line_by}
use Rattle.nova_model.specs.Runs.{after, run}
use Rattle.nova_model.specs.State.{KernelState, pd_of}
use Rattle.nova_model.specs.declared.delegation.Derivation.{Derivation}
use Rattle.law_forest.specs.Made.{GivesChild, Grows, GrowsBy, Leaves, MakesObject, TakesLeaf}
use Rattle.law_forest.proofs.Growth.{turn_grows}
use Rattle.law_forest.proofs.Lines.{line_none, member_found, parent_facts}
use Rattle.law_forest.proofs.Members.{IsIn, all_at, contains_from_in, filtered_in, in_from_contains}
use Rattle.law_origins.specs.Giving.{Acts}
use Rattle.law_origins.proofs.Lists.{run_append}
use Rattle.law_integrity.specs.Confined.{AreSeparate, IsMember, more}
use Rattle.law_integrity.specs.Rights.{GivesTo}
use Rattle.law_integrity.specs.Trusted.{IsWithinPolicy, OrTrusted, labels, labels_after}
use Rattle.law_integrity.proofs.Confined.{separate_after}
use Rattle.law_integrity.proofs.Confining.{acting_one, child_target, gives_in, in_more, member_pd, object_kept, order_none}
use Rattle.law_integrity.proofs.Labels.{IsTaken, labels_old, turn_taken}
use Rattle.law_integrity.proofs.Parts.{given_rightful}
use Rattle.law_integrity.proofs.Policy.{policy_after, side_gives}
use Rattle.law_integrity.proofs.Resting.{acts_in}
use Rattle.law_sides.specs.Isolated.{StayOwn}
use Rattle.law_sides.proofs.Rest.{AreSided, none_after, sided_after, takes_turns}

child_named : (o : Option ℕ) (id : ℕ) → is_id id o ≡ true → o ≡ Some id
child_named None id is = absurd (cc)
child_named (Some other) id is = ap (λ (n : ℕ). Some n) (eqb-true other id is)

same_id : (list : List Derivation) → ArePairs (λ a b. a.id < b.id) list → (a b : Derivation) → IsIn list a → IsIn list b → a.id ≡ b.id → a ≡ b
same_id list rising a b i j is = let both : Some a ≡ Some b = sym (member_found list a rising i) ∙ ap (with_id list) is ∙ member_found list b rising j in cc

-- of no derivation that is there the parent is yet to come
none_later : (f : Delegations) → IsForest f → (d : Derivation) (id : ℕ) → Contains f.list d → ((a : Derivation) → Contains f.list a → a.id < id) → d.parent ≡ Some id → ⊥
none_later f forest d id there later is =
    by_parent (subst (HasParentIn f.list d) is (all_at (λ (a : Derivation). HasParentIn f.list a a.parent) f.list d forest.parents (in_from_contains f.list d there)))
  where
    by_parent : HasParentIn f.list d (Some id) → ⊥
    by_parent has = let below = later has.0 has.1 in let its = has.2 in omega (arith, below, its)

-- A TURN

module _ {shared : ℕ → Bool} (k : KernelState) (label : ℕ → ℕ) (S T : ℕ → Type 0) (cpu : ℕ) (t : IsTaken k cpu) (apart : AreSeparate k S T) (none : (n : ℕ) → T n → ⊥) (sided : AreSided k label S)
    (policy : IsWithinPolicy shared k label) (own : StayOwn shared k label) where
  abbrev later : ℕ → ℕ
  later = labels_after k label cpu

  kept : (d : Derivation) → Contains k.delegations.list d → later d.pd ≡ label d.pd
  kept d there = labels_old k label cpu d.pd (slice_get_within k.objects d.pd Pd (t.homed.holders d there))

  -- both were there
  old : (d p : Derivation) → Contains k.delegations.list d → Contains k.delegations.list p → d.kind ≡ Obj → p.kind ≡ Obj → slice_get (after k cpu).objects p.target ≡ Some Sm → d.target ≡ p.target →
      shared p.target ≡ true → is_child_of p.id d ≡ true → later p.pd ≢ 0 → later d.pd ≡ later p.pd
  old d p there its is kind sm same common child some =
      let o = t.homed.targets p its kind in
      kept d there ∙ own d p there its is kind (o.1 ∙ sym (object_kept k cpu p.target o.0 o.1) ∙ sm) same common child (λ nobody. some (kept p its ∙ nobody)) ∙ sym (kept p its)

  -- what is given is the giver's own
  gave : (x source : Derivation) (ec : ℕ) → Acts k cpu ec → Contains k.delegations.list source → GivesTo k ec source.pd x.pd → later x.pd ≡ later source.pd
  gave x source ec acts_ was gives = by_actor (acts_in k S T cpu ec apart acts_)
    where
      one : OrTrusted label (label (pd_of k ec)) x.pd → label x.pd ≢ 0 → label x.pd ≡ label (pd_of k ec)
      one (inl same) some = same
      one (inr trusted) some = absurd (some trusted)

      by_member : IsMember k S ec → later x.pd ≡ later source.pd
      by_member m =
          let home = sided (pd_of k ec) (member_pd k S ec m) in
          let to = sided x.pd (gives_in k S ec source.pd x.pd t.sound apart.first (acting_one k cpu ec acts_) m gives).1 in
          let both = side_gives k label ec source.pd x.pd t.sound policy (acting_one k cpu ec acts_) home.0 gives in
          labels_old k label cpu x.pd (slice_get_within k.objects x.pd Pd to.1) ∙ one both.1 to.0 ∙ sym both.0 ∙ sym (kept source was)

      by_actor : IsMember k S ec ⊎ IsMember k T ec → later x.pd ≡ later source.pd
      by_actor (inl m) = by_member m
      by_actor (inr m) = absurd (none m.domain m.of)

  abbrev Goal : Derivation → Derivation → Type 0
  Goal d p = d.kind ≡ Obj → p.kind ≡ Obj → slice_get (after k cpu).objects p.target ≡ Some Sm → d.target ≡ p.target → shared p.target ≡ true → is_child_of p.id d ≡ true → later p.pd ≢ 0 → later d.pd ≡ later p.pd

  same_list : (after k cpu).delegations ≡ k.delegations → (d p : Derivation) → Contains (after k cpu).delegations.list d → Contains (after k cpu).delegations.list p → Goal d p
  same_list same d p there its =
      old d p (subst (λ (f : Delegations). Contains f.list d) same there) (subst (λ (f : Delegations). Contains f.list p) same its)

  -- one more derivation, of an id above all others
  by_more : (x : Derivation) → ((a : Derivation) → Contains k.delegations.list a → a.id < x.id) → ((p : Derivation) → Contains k.delegations.list p → x.parent ≡ Some p.id → later x.pd ≡ later p.pd) →
      (x.parent ≡ Some x.id → ⊥) → (d p : Derivation) → IsIn (k.delegations.list ++ x ∷ []) d → IsIn (k.delegations.list ++ x ∷ []) p → Goal d p
  by_more x newest gives apart_ d p i j = by_both (in_more k.delegations.list x d i) (in_more k.delegations.list x p j)
    where
      by_both : IsIn k.delegations.list d ⊎ (x ≡ d) → IsIn k.delegations.list p ⊎ (x ≡ p) → Goal d p
      by_both (inl a) (inl b) = old d p (contains_from_in k.delegations.list d a) (contains_from_in k.delegations.list p b)
      by_both (inl a) (inr b) = λ is kind sm same common child some.
          absurd (none_later k.delegations t.sound.forest d x.id (contains_from_in k.delegations.list d a) newest (child_named d.parent x.id (subst (λ (y : Derivation). is_child_of y.id d ≡ true) (sym b) child)))
      by_both (inr a) (inl b) = λ is kind sm same common child some.
          ap (λ (y : Derivation). later y.pd) (sym a)
          ∙ gives p (contains_from_in k.delegations.list p b) (child_named x.parent p.id (subst (λ (y : Derivation). is_child_of p.id y ≡ true) (sym a) child))
      by_both (inr a) (inr b) = λ is kind sm same common child some.
          absurd (apart_ (child_named x.parent x.id (subst (λ (y : Derivation). is_child_of x.id y ≡ true) (sym a) (subst (λ (y : Derivation). is_child_of y.id d ≡ true) (sym b) child))))

  by_growth : (ec : ℕ) → Acts k cpu ec → Grows k ec (after k cpu) → (d p : Derivation) → Contains (after k cpu).delegations.list d → Contains (after k cpu).delegations.list p → Goal d p
  by_growth ec acts_ (Leaves h) d p there its = same_list h.delegations d p there its
  by_growth ec acts_ (TakesLeaf h) d p there its = old d p (was d there) (was p its)
    where
      was : (x : Derivation) → Contains (after k cpu).delegations.list x → Contains k.delegations.list x
      was x has =
          contains_from_in k.delegations.list x (filtered_in (λ (y : Derivation). not (y.id == h.leaf.id)) k.delegations.list x
          (in_from_contains _ x (subst (λ (f : Delegations). Contains f.list x) h.delegations has))).0
  by_growth ec acts_ (MakesObject h) d p there its =
      by_more h.capability (h.first.newest t.sound.forest) (λ q was named. absurd (let both : None ≡ Some q.id = sym h.first.parent ∙ named in cc))
      (λ named. let both : None ≡ Some h.capability.id = sym h.first.parent ∙ named in cc) d p
      (in_from_contains _ d (subst (λ (f : Delegations). Contains f.list d) h.delegations there)) (in_from_contains _ p (subst (λ (f : Delegations). Contains f.list p) h.delegations its))
  by_growth ec acts_ (GivesChild h) d p there its =
      by_more h.child (h.given.newest t.sound.forest) given itself d p (in_from_contains _ d (subst (λ (f : Delegations). Contains f.list d) h.delegations there))
      (in_from_contains _ p (subst (λ (f : Delegations). Contains f.list p) h.delegations its))
    where
      source_id : (n : ℕ) → h.child.parent ≡ Some n → h.given.source.id ≡ n
      source_id n named = let both : Some h.given.source.id ≡ Some n = sym h.given.parent ∙ named in cc

      given : (q : Derivation) → Contains k.delegations.list q → h.child.parent ≡ Some q.id → later h.child.pd ≡ later q.pd
      given q was named =
          gave h.child h.given.source ec acts_ h.given.there (given_rightful k ec h.child h.given)
          ∙ ap (λ (y : Derivation). later y.pd) (same_id k.delegations.list t.sound.forest.rising h.given.source q (in_from_contains k.delegations.list h.given.source h.given.there)
          (in_from_contains k.delegations.list q was) (source_id q.id named))

      itself : h.child.parent ≡ Some h.child.id → ⊥
      itself named = let below = h.given.newest t.sound.forest h.given.source h.given.there in let same = source_id h.child.id named in omega (arith, below, same)

  by_choice : (o : Option Candidate) → next_to_act k cpu ≡ o → GrowsBy k o (after k cpu) → (d p : Derivation) → Contains (after k cpu).delegations.list d → Contains (after k cpu).delegations.list p → Goal d p
  by_choice None is grows d p there its = same_list grows.delegations d p there its
  by_choice (Some c) is grows d p there its = by_growth c.actor (ap (option_map (λ (x : Candidate). x.actor)) is) grows d p there its

  pub own_after : StayOwn shared (after k cpu) (labels_after k label cpu)
  own_after d p there its is kind sm same common child some = by_choice (next_to_act k cpu) refl (turn_grows k cpu) d p there its is kind sm same common child some

-- TURN AFTER TURN

pub own_along : {shared : ℕ → Bool} (s : Scenario) (before turns : List ℕ) (label : ℕ → ℕ) (S T : ℕ → Type 0) → AreSeparate (run (boot s) before) S T → ((n : ℕ) → T n → ⊥) → AreSided (run (boot s) before) label S →
    IsWithinPolicy shared (run (boot s) before) label → StayOwn shared (run (boot s) before) label → StayOwn shared (run (run (boot s) before) turns) (labels (run (boot s) before) label turns)
own_along {shared} s before [] label S T apart none sided policy own = own
own_along {shared} s before (cpu ∷ turns) label S T apart none sided policy own =
    let k = run (boot s) before in
    let t = turn_taken s before cpu in
    let next : run (boot s) (before ++ cpu ∷ []) ≡ after k cpu = run_append (boot s) before (cpu ∷ []) in
    subst (λ (l : KernelState). StayOwn shared (run l turns) (labels l (labels_after k label cpu) turns)) next
    (own_along s (before ++ cpu ∷ []) turns (labels_after k label cpu) (more k S cpu) (more k T cpu)
    (subst (λ (l : KernelState). AreSeparate l (more k S cpu) (more k T cpu)) (sym next) (separate_after s before S T cpu apart)) (none_after k T cpu none)
    (subst (λ (l : KernelState). AreSided l (labels_after k label cpu) (more k S cpu)) (sym next) (sided_after k label S cpu sided))
    (subst (λ (l : KernelState). IsWithinPolicy shared l (labels_after k label cpu)) (sym next) (policy_after k label cpu t policy (takes_turns shared s before (cpu ∷ []) label S T apart sided none).0))
    (subst (λ (l : KernelState). StayOwn shared l (labels_after k label cpu)) (sym next) (own_after k label S T cpu t apart none sided policy own)))

-- A LINE

-- from whomever of a side a capability to a shared semaphore came, it is of that side
pub line_own : (shared : ℕ → Bool) (k : KernelState) (label : ℕ → ℕ) → IsForest k.delegations → StayOwn shared k label → (n : ℕ) (d a : Derivation) → IsIn k.delegations.list d → d.kind ≡ Obj →
    slice_get k.objects d.target ≡ Some Sm → shared d.target ≡ true → IsIn (line_by n k.delegations.list (Some d)) a → label a.pd ≢ 0 → label d.pd ≡ label a.pd
line_own shared k label forest own zero d a i kind sm common on some = absurd on
line_own shared k label forest own (suc n) d a i kind sm common (inl e) some = ap (λ (x : Derivation). label x.pd) e
line_own shared k label forest own (suc n) d a i kind sm common (inr on) some =
    by_parent (λ p j is its with_ up. line_own shared k label forest own n p a j is its with_ up some) (parent_of k.delegations.list d) refl on
  where
    by_parent : ((p : Derivation) → IsIn k.delegations.list p → p.kind ≡ Obj → slice_get k.objects p.target ≡ Some Sm → shared p.target ≡ true → IsIn (line_by n k.delegations.list (Some p)) a → label p.pd ≡ label a.pd) →
        (o : Option Derivation) → parent_of k.delegations.list d ≡ o → IsIn (line_by n k.delegations.list o) a → label d.pd ≡ label a.pd
    by_parent rest None is above = absurd (subst (λ (l : List Derivation). IsIn l a) (line_none n k.delegations.list) above)
    by_parent rest (Some p) is above =
        let parent = parent_facts k.delegations d p forest i is in
        let there = contains_from_in k.delegations.list p parent.there in
        let p_kind : p.kind ≡ Obj = sym parent.within.kind ∙ kind in
        let same : d.target ≡ p.target = child_target d p p_kind (order_none k p forest there p_kind) parent.within in
        let its : slice_get k.objects p.target ≡ Some Sm = subst (λ (m : ℕ). slice_get k.objects m ≡ Some Sm) same sm in
        let with_ : shared p.target ≡ true = subst (λ (m : ℕ). shared m ≡ true) same common in
        let up : label p.pd ≡ label a.pd = rest p parent.there p_kind its with_ above in
        own d p (contains_from_in k.delegations.list d i) there kind p_kind its same with_ (ap (is_id p.id) parent.named ∙ eq-eqb p.id p.id refl) (λ nobody. some (sym up ∙ nobody)) ∙ up
