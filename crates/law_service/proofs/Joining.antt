-- What a gift makes of the derivations: a range joins that nothing of the side's is above, or they stay.
use Rattle.std.proofs.Common.{◌≡◌, ◌<◌, ℕ, zero, suc, List, refl, sym, ap, ◌∙◌, subst, arith}
use Rattle.std.specs.Prelude.{◌&&◌, ◌||◌, Bool, true, false, not, IsSome, option_and_then, Option, Some, None, if◌then◌else◌}
use Rattle.std.specs.List.{list_all}
use Rattle.std.proofs.lemmas.Bool.{and_parts}
use Rattle.std.proofs.lemmas.Option.{same_Some}
use Rattle.nova_utcb.specs.Messages.{copied}
use Rattle.nova_model.specs.Choice.{Candidate, next_to_act}
use Rattle.nova_model.specs.Deeds.{deed}
use Rattle.nova_model.specs.Delegations.{Delegations, added, is_child_of, is_memory, parent_of}
use Rattle.nova_model.specs.Forest.{IsForest}
use Rattle.nova_model.specs.Lines.{line_by}
use Rattle.nova_model.specs.Runs.{after}
use Rattle.nova_model.specs.State.{KernelState, message, no_words}
use Rattle.nova_model.specs.declared.context.Mark.TheVariants as mark
use Rattle.nova_model.specs.declared.deed.Deed.{Deed}
use Rattle.nova_model.specs.declared.deed.Deed.TheVariants as deeds
use Rattle.nova_model.specs.declared.delegation.Derivation.{Derivation}
use Rattle.nova_model.specs.declared.transfer.Sequel.TheVariants as sequel
use Rattle.law_forest.specs.Effects.{Branch, Joins, branch_by, branched}
use Rattle.law_forest.proofs.Members.{IsIn, all_at}
use Rattle.law_forest.proofs.Scopes.{child_found}
use Rattle.law_forest.proofs.Turning.{chosen_turn}
use Rattle.law_flow.specs.Flow.{Held, held_by}
use Rattle.law_service.specs.Service.{Answer, Begin, Entry, Gift, Item, Part, Recall, Return, Up, bytes_of, concerns, entry_by, entry_in, entry_of, gift_of, if_concerns, is_foreign, is_other, returned}
use Rattle.law_service.proofs.Gifts.{other_gives}
use Rattle.law_service.proofs.Giving.{entry_same}

-- WHO GIVES

pub record GivesSome (k : KernelState) (S P : ℕ → Bool) (cpu : ℕ) (e : Entry) : Type 0 where
  pub candidate : Candidate
  pub chosen : next_to_act k cpu ≡ Some candidate
  pub gift : Gift
  pub gives : gift_of S k candidate.actor (deed k candidate.actor) ≡ Some gift
  pub of : concerns S P gift ≡ true
  pub is : e.gift ≡ Some gift

pub gives_some : (k : KernelState) (S P : ℕ → Bool) (cpu : ℕ) (e : Entry) → entry_in S P k cpu ≡ Some e → IsSome e.gift → GivesSome k S P cpu e
gives_some k S P cpu e is some = by_next (next_to_act k cpu) refl is
  where
    by_gift : (c : Candidate) → next_to_act k cpu ≡ Some c → (o : Option Gift) → gift_of S k c.actor (deed k c.actor) ≡ o → e.gift ≡ option_and_then (if_concerns S P) o → GivesSome k S P cpu e
    by_gift c chosen None at same = absurd (let none : IsSome (option_and_then (if_concerns S P) None) = subst IsSome same some in cc)
    by_gift c chosen (Some g) at same = by_test (concerns S P g) refl same
      where
        by_test : (t : Bool) → concerns S P g ≡ t → e.gift ≡ (if t then Some g else None) → GivesSome k S P cpu e
        by_test false of_ h = absurd (let none : IsSome {T = Gift} None = subst IsSome h some in cc)
        by_test true of_ h = record { candidate = c; chosen = chosen; gift = g; gives = at; of = of_; is = h }

    by_next : (o : Option Candidate) → next_to_act k cpu ≡ o → option_and_then (entry_by S P k) o ≡ Some e → GivesSome k S P cpu e
    by_next None chosen h = absurd (cc)
    by_next (Some c) chosen h =
        let same : entry_of S P k c ≡ e = entry_same (entry_of S P k c) e (entry_of S P k c).gift (entry_of S P k c).payer h in
        by_gift c chosen (gift_of S k c.actor (deed k c.actor)) refl (ap (λ (x : Entry). x.gift) (sym same))

-- WHAT JOINS

pub record JoinsAs (k : KernelState) (S : ℕ → Bool) (domain : ℕ) (held : Held) (o : Option Branch) : Type 0 where
  pub child : Derivation
  pub is : o ≡ Some (Joins child)
  pub pd : child.pd ≡ domain
  pub held_so : held_by child ≡ held
  pub foreign : is_foreign S k.delegations.list child ≡ true

abbrev pub IsBranchOf : KernelState → (ℕ → Bool) → Gift → Option Branch → Type 0
IsBranchOf k S (Part domain held bytes) o = JoinsAs k S domain held o
IsBranchOf k S other o = ◌≡◌ {A = Option Branch} o None

pub branch_is : (S : ℕ → Bool) (k : KernelState) (ec : ℕ) (d : Deed) (g : Gift) → gift_of S k ec d ≡ Some g → IsBranchOf k S g (branch_by k ec d)
branch_is S k ec (deeds.Replies caller mark.Call false) g is = subst (λ (g : Gift). IsBranchOf k S g None) (same_Some (Answer ec caller (copied (message k ec) no_words)) g is) refl
branch_is S k ec (deeds.Replies caller mark.Exit false) g is = subst (λ (g : Gift). IsBranchOf k S g None) (same_Some (Return ec caller (returned (message k ec))) g is) refl
branch_is S k ec (deeds.Replies caller mark.Call true) g is = subst (λ (g : Gift). IsBranchOf k S g None) (other_gives (is_other S k ec) (Begin ec caller (Some (copied (message k ec) no_words))) g is).1 refl
branch_is S k ec (deeds.Replies caller mark.Exit true) g is = subst (λ (g : Gift). IsBranchOf k S g None) (other_gives (is_other S k ec) (Begin ec caller None) g is).1 refl
branch_is S k ec (deeds.Gives child cursor) g is =
    let all = other_gives (is_other S k ec && is_foreign S k.delegations.list child) (Part child.pd (held_by child) (bytes_of k.memory.ram (held_by child))) g is in
    subst (λ (g : Gift). IsBranchOf k S g (Some (Joins child))) all.1
    (record { child = child; is = refl; pd = refl; held_so = refl; foreign = (and_parts (is_other S k ec) (is_foreign S k.delegations.list child) all.0).1 })
branch_is S k ec (deeds.Finishes item end (Some told) sequel.Item) g is = subst (λ (g : Gift). IsBranchOf k S g None) (other_gives (is_other S k ec) (Item item told None) g is).1 refl
branch_is S k ec (deeds.Finishes item end (Some told) (sequel.Replied caller mark.Call)) g is = subst (λ (g : Gift). IsBranchOf k S g None) (other_gives (is_other S k ec) (Item item told (Some (ec, caller))) g is).1 refl
branch_is S k ec (deeds.Finishes item end None (sequel.Replied caller mark.Exit)) g is = subst (λ (g : Gift). IsBranchOf k S g None) (other_gives (is_other S k ec) (Return ec caller (returned (message k ec))) g is).1 refl
branch_is S k ec (deeds.Ups sm woken) g is = subst (λ (g : Gift). IsBranchOf k S g None) (same_Some (Up sm woken) g is) refl
branch_is S k ec (deeds.Recalls whose) g is = subst (λ (g : Gift). IsBranchOf k S g None) (same_Some (Recall whose) g is) refl
branch_is S k ec (deeds.Finishes item end None sequel.Item) g is = absurd (cc)
branch_is S k ec (deeds.Finishes item end None sequel.Opened) g is = absurd (cc)
branch_is S k ec (deeds.Finishes item end None sequel.Taken) g is = absurd (cc)
branch_is S k ec (deeds.Finishes item end None (sequel.Replied caller mark.Call)) g is = absurd (cc)
branch_is S k ec (deeds.Finishes item end (Some told) sequel.Opened) g is = absurd (cc)
branch_is S k ec (deeds.Finishes item end (Some told) sequel.Taken) g is = absurd (cc)
branch_is S k ec (deeds.Finishes item end (Some told) (sequel.Replied caller mark.Exit)) g is = absurd (cc)
branch_is S k ec other g is = absurd (cc)

-- of the turn
pub branch_after : (k : KernelState) (cpu : ℕ) (c : Candidate) (o : Option Branch) → next_to_act k cpu ≡ Some c → branch_by k c.actor (deed k c.actor) ≡ o → (after k cpu).delegations ≡ branched k.delegations o
branch_after k cpu c o chosen is = ap (λ (l : KernelState). l.delegations) (chosen_turn k cpu c chosen) ∙ ap (branched k.delegations) is

pub record JoinsFor (k : KernelState) (S : ℕ → Bool) (cpu domain : ℕ) (held : Held) : Type 0 where
  pub child : Derivation
  pub is : (after k cpu).delegations ≡ added k.delegations child
  pub pd : child.pd ≡ domain
  pub held_so : held_by child ≡ held
  pub foreign : is_foreign S k.delegations.list child ≡ true
  pub of : S domain ≡ true

pub joins_for : (k : KernelState) (S P : ℕ → Bool) (cpu domain : ℕ) (held : Held) (bytes : List (List ℕ)) (e : Entry) → GivesSome k S P cpu e → e.gift ≡ Some (Part domain held bytes) → JoinsFor k S cpu domain held
joins_for k S P cpu domain held bytes e g part =
    let one : g.gift ≡ Part domain held bytes = same_Some g.gift (Part domain held bytes) (sym g.is ∙ part) in
    let b : JoinsAs k S domain held (branch_by k g.candidate.actor (deed k g.candidate.actor)) =
    subst (λ (h : Gift). IsBranchOf k S h (branch_by k g.candidate.actor (deed k g.candidate.actor))) one (branch_is S k g.candidate.actor (deed k g.candidate.actor) g.gift g.gives) in
    let of_ : (S domain && (is_memory held.range.kind || P held.target)) ≡ true = sym (ap (concerns S P) one) ∙ g.of in
    record {
      child = b.child;
      is = branch_after k cpu g.candidate (Some (Joins b.child)) g.chosen b.is;
      pd = b.pd;
      held_so = b.held_so;
      foreign = b.foreign;
      of = (and_parts (S domain) (is_memory held.range.kind || P held.target) of_).0;
    }

-- NOTHING OF THE SIDE'S IS ABOVE IT

first_of : (q : Derivation → Bool) (list : List Derivation) (n : ℕ) (d : Derivation) → d.id < n → list_all q (line_by n list (Some d)) ≡ true → q d ≡ true
first_of q list zero d below all = absurd (omega (arith, below))
first_of q list (suc n) d below all = (and_parts (q d) (list_all q (line_by n list (parent_of list d))) all).0

pub foreign_child : (f : Delegations) → IsForest f → (S : ℕ → Bool) (x d : Derivation) → x.id ≡ f.next → is_foreign S f.list x ≡ true → IsIn f.list d → S d.pd ≡ true → is_child_of d.id x ≡ false
foreign_child f forest S x d id foreign i mine = by_test (is_child_of d.id x) refl
  where
    by_test : (t : Bool) → is_child_of d.id x ≡ t → t ≡ false
    by_test false is = refl
    by_test true is =
        let up : parent_of f.list x ≡ Some d = child_found f forest d x i is in
        let all : list_all (λ (a : Derivation). not (S a.pd)) (line_by x.id f.list (Some d)) ≡ true = ap (λ (o : Option Derivation). list_all (λ (a : Derivation). not (S a.pd)) (line_by x.id f.list o)) (sym up) ∙ foreign in
        let below = all_at (λ b. b.id < f.next) f.list d forest.numbered i in
        let first : not (S d.pd) ≡ true = first_of (λ (a : Derivation). not (S a.pd)) f.list x.id d (omega (arith, below, id)) all in
        let both : not true ≡ true = ap not (sym mine) ∙ first in
        absurd (cc)
