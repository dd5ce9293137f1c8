-- A turn in which nothing of what a side holds is given makes nothing of it for others.
use Rattle.std.proofs.Common.{◌≡◌, ℕ, ◌+◌, suc, List, ◌∷◌, refl, sym, ap, ◌∙◌, subst, inl, inr, arith}
use Rattle.std.specs.Prelude.{Bool, true, Contains, option_map, option_and_then, Option, Some, None}
use Rattle.std.proofs.lemmas.Option.{same_Some}
use Rattle.nova_model.specs.Boot.{Scenario, boot}
use Rattle.nova_model.specs.Choice.{Candidate}
use Rattle.nova_model.specs.Delegations.{Delegations, added, parent_of, with_id}
use Rattle.nova_model.specs.Forest.{IsForest}
use Rattle.nova_model.specs.Lines.{line}
use Rattle.nova_model.specs.Runs.{after, run}
use Rattle.nova_model.specs.State.{KernelState}
use Rattle.nova_model.specs.declared.delegation.Derivation.{Derivation}
use Rattle.law_forest.specs.Turns.{Acts as Chosen, Idles, Passes, Takes, turned}
use Rattle.law_forest.specs.Within.{line_from}
use Rattle.law_forest.proofs.Changes.{reached_change}
use Rattle.law_forest.proofs.Lines.{line_is, member_found}
use Rattle.law_forest.proofs.Members.{IsIn, contains_from_in, in_from_contains}
use Rattle.law_forest.proofs.Turning.{comes}
use Rattle.law_isolation.specs.Sound.{IsSound}
use Rattle.law_isolation.proofs.Runs.{reached_sound, turn_sound}
use Rattle.law_origins.specs.Giving.{Acts}
use Rattle.law_integrity.specs.Confined.{Of}
use Rattle.law_integrity.specs.Integrity.{Creates, Gives, GrowsByRight, Keeps, Takes as TakesLeaf}
use Rattle.law_integrity.specs.Rights.{GivesTo}
use Rattle.law_integrity.proofs.Authorised.{authorised_by}
use Rattle.law_flow.specs.Flow.{DerivesWithin}
use Rattle.law_flow.proofs.Sets.{line_kept, parents_kept}
use Rattle.law_flow.proofs.Taking.{derives_kept, last_one, last_there, still_there}

module _ (s : Scenario) (before : List ℕ) (S : ℕ → Bool) (cpu : ℕ)
    (ungiven : (ec giver receiver : ℕ) → Acts (run (boot s) before) cpu ec → GivesTo (run (boot s) before) ec giver receiver → S giver ≡ true → ⊥) (within : DerivesWithin (run (boot s) before) (Of S)) where
  abbrev k : KernelState
  k = run (boot s) before

  abbrev new : KernelState
  new = after (run (boot s) before) cpu

  sound : IsSound k
  sound = reached_sound s before

  forest : IsForest new.delegations
  forest = (turn_sound k cpu sound).forest

  -- one more is not the same, nor one less
  grown : (x : Derivation) → new.delegations ≡ added k.delegations x → new.delegations.next ≡ k.delegations.next → ⊥
  grown x is same = let next : k.delegations.next + 1 ≡ k.delegations.next = sym (ap (λ (f : Delegations). f.next) is) ∙ same in omega (arith, next)

  -- what it is made of was there, and is another's
  abbrev IsAnothers : Option Derivation → Type 0
  IsAnothers o = (q : Derivation) → o ≡ Some q → IsIn k.delegations.list q × (S q.pd ≡ true → ⊥)

  -- the range that joins is the only one of its line, or made of what is another's
  joins : (x a : Derivation) → new.delegations ≡ added k.delegations x → Contains (line new.delegations.list x) a → S a.pd ≡ true → S x.pd ≡ true
  joins x a is above mine = elim (comes k cpu) [
    | Idles nobody quiet same answer ↦ absurd (grown x is (ap (λ (l : KernelState). l.delegations.next) same))
    | Takes t e turning state answer ↦ elim turning [
      | Chosen d chosen its event ↦
          by_grows d.actor (ap (option_map (λ (c : Candidate). c.actor)) chosen) (authorised_by s before cpu d.actor (ap (option_map (λ (c : Candidate). c.actor)) chosen)).2.grows
      | Passes p due its event ↦ absurd (grown x is (ap (λ (l : KernelState). l.delegations.next) (state ∙ ap (turned k cpu) its)))
    ]
  ]
    where
      there : IsIn new.delegations.list x
      there = subst (λ (f : Delegations). IsIn f.list x) (sym is) (last_there k.delegations.list x)

      by_member : (o : Option Derivation) → IsAnothers o → IsIn (x ∷ line_from new.delegations.list o) a → S x.pd ≡ true
      by_member o of (inl same) = ap (λ (y : Derivation). S y.pd) same ∙ mine
      by_member None of (inr further) = absurd further
      by_member (Some q) of (inr further) =
          let its = of q refl in
          let kept : line new.delegations.list q ≡ line k.delegations.list q =
          line_kept k.delegations.list new.delegations.list (parents_kept k.delegations new.delegations sound.forest (reached_change s before cpu)) (suc q.id) q its.0 in
          absurd (its.1 (within q a (contains_from_in k.delegations.list q its.0) (subst (λ (l : List Derivation). Contains l a) kept (contains_from_in (line new.delegations.list q) a further)) mine))

      by_line : (o : Option Derivation) → parent_of new.delegations.list x ≡ o → IsAnothers o → S x.pd ≡ true
      by_line o up of =
          by_member o of
          (subst (λ (l : List Derivation). IsIn l a) (line_is new.delegations x forest there ∙ ap (λ (u : Option Derivation). x ∷ line_from new.delegations.list u) up) (in_from_contains (line new.delegations.list x) a above))

      by_grows : (ec : ℕ) → Acts k cpu ec → GrowsByRight k new ec → S x.pd ≡ true
      by_grows ec acts_ (Keeps objects same) = absurd (grown x is (ap (λ (f : Delegations). f.next) same))
      by_grows ec acts_ (TakesLeaf leaf may objects same) = absurd (grown x is (ap (λ (f : Delegations). f.next) same))
      by_grows ec acts_ (Creates object capability first objects same) =
          let one : capability ≡ x = last_one k.delegations.list capability x (ap (λ (f : Delegations). f.list) (sym same ∙ is)) in
          by_line None (ap (option_and_then (with_id new.delegations.list)) (sym (ap (λ (d : Derivation). d.parent) one) ∙ first.parent)) (λ q h. absurd (cc))
      by_grows ec acts_ (Gives child source has named within_ shared given gives objects same) =
          let one : child ≡ x = last_one k.delegations.list child x (ap (λ (f : Delegations). f.list) (sym same ∙ is)) in
          let old : IsIn k.delegations.list source = in_from_contains k.delegations.list source has in
          let up : parent_of new.delegations.list x ≡ Some source =
          ap (option_and_then (with_id new.delegations.list)) (sym (ap (λ (d : Derivation). d.parent) one) ∙ named)
          ∙ member_found new.delegations.list source forest.rising (subst (λ (f : Delegations). IsIn f.list source) (sym is) (still_there k.delegations.list x source old)) in
          by_line (Some source) up (λ q h.
          let same_q : source ≡ q = same_Some source q h in (
            subst (IsIn k.delegations.list) same_q old,
            λ its. ungiven ec source.pd child.pd acts_ gives (subst (λ (d : Derivation). S d.pd ≡ true) (sym same_q) its),
          ))

  -- so all that is made of it stays its own
  pub ungiven_derives : DerivesWithin (after (run (boot s) before) cpu) (Of S)
  ungiven_derives = derives_kept k new (Of S) sound.forest (reached_change s before cpu) within joins
