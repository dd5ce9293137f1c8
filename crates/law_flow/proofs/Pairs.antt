-- What one of a side does in two states in which the side's part is the same: one deed with the side alone, or a part that is given within the side, or a leaf of its own that a revoke takes away, the same but for numbers; or an object that it makes.
use Rattle.std.proofs.Common.{arith, ◌≡◌, ℕ, ◌+◌, ◌==◌, refl, sym, ap, ap₂, ◌∙◌, subst}
use Rattle.std.specs.Prelude.{Bool, true, false, Contains, IsSome, not, Option, Some, None}
use Rattle.std.proofs.lemmas.Option.{same_Some}
use Rattle.nova_range.specs.declared.range.Range.{Range}
use Rattle.nova_range.specs.declared.status.Status.TheVariants.{Success}
use Rattle.nova_model.specs.Deeds.{deed, deed_in, removes}
use Rattle.nova_model.specs.Delegations.{Delegations, added, without}
use Rattle.nova_model.specs.Edges.{is_giving}
use Rattle.nova_model.specs.Forest.{IsForest}
use Rattle.nova_model.specs.Revokes.{Revocation, next_leaf}
use Rattle.nova_model.specs.State.{KernelState, context, pd_of}
use Rattle.nova_model.specs.Turn.{event_by}
use Rattle.nova_model.specs.declared.context.EcState.{EcState}
use Rattle.nova_model.specs.declared.context.State.{State}
use Rattle.nova_model.specs.declared.context.State.TheVariants.{Granting, Revoking}
use Rattle.nova_model.specs.declared.deed.Deed.{Deed}
use Rattle.nova_model.specs.declared.deed.Deed.TheVariants as deeds
use Rattle.nova_model.specs.declared.delegation.Derivation.{Derivation}
use Rattle.nova_model.specs.declared.new_object.NewObject.{NewObject}
use Rattle.nova_model.specs.declared.new_object.NewObject.TheVariants as new
use Rattle.law_forest.specs.Changes.{Goes, Joins, Stays}
use Rattle.law_forest.specs.Effects.{Answers, Becomes, branch_by, branched, made_by, store_by}
use Rattle.law_forest.specs.Turns.{turned}
use Rattle.law_forest.proofs.Leaves.{leaf_facts}
use Rattle.law_forest.proofs.Members.{contains_from_in, filtered_in, in_from_contains}
use Rattle.law_turns.specs.Revoking.{is_revoking}
use Rattle.law_integrity.specs.Rights.{GivesTo}
use Rattle.law_flow.specs.Flow.{AreAlike, AreDerivedAlike, AreGivingWithin, AreRevokingWithin, DerivesWithin, HasSameClock, Held, IsAtWork, IsCreatingAlone, IsSameRange, IsSide, held_by, unnumbered}
use Rattle.law_flow.specs.Processors.{unnumbered_event}
use Rattle.law_flow.proofs.Creating.{AreMaking, IsMadeOf}
use Rattle.law_flow.proofs.Deciding.{IsOwn, MayDo, deed_own, deed_same}
use Rattle.law_flow.proofs.Doing.{branch_none, by_deed, made_none, turned_alike}
use Rattle.law_flow.proofs.Giving.{part_alike, part_side}
use Rattle.law_flow.proofs.Holds.{IsTwin}
use Rattle.law_flow.proofs.Leaves.{AreSameOr, in_scope_mine, leaf_same}
use Rattle.law_flow.proofs.Keeping.{EditOwn, turned_side}
use Rattle.law_flow.proofs.Making.{made_alike, made_side, rooted_derived, rooted_derives}
use Rattle.law_flow.proofs.Parts.{GivesItems, IsPart, given_same, gives_items, part_is, sources_same}
use Rattle.law_flow.proofs.Seeing.{Both, context_same, pd_same}
use Rattle.law_flow.proofs.Taking.{IsOwnLeaf, derived_joined, derived_kept, derives_kept, last_one, leaf_alike, leaf_side}

-- what one does in a state
pub data IsOwnDeed (timed creating : Type 0) (k : KernelState) (S P : ℕ → Type 0) (d : Deed) : Type 0 where
  Alone : IsOwn timed P d → IsOwnDeed timed creating k S P d
  Part : (child : Derivation) (cursor : ℕ) → d ≡ deeds.Gives child cursor → IsPart k S child → IsOwnDeed timed creating k S P d
  Leaf : (leaf : Derivation) → d ≡ deeds.Removes leaf → IsOwnLeaf k S leaf → IsOwnDeed timed creating k S P d
  New : (call target : ℕ) (made : NewObject) → d ≡ deeds.Makes call target made → creating → IsMadeOf P made → IsOwnDeed timed creating k S P d
  Open : (target domain : ℕ) → d ≡ deeds.Opens target domain → creating → IsOwnDeed timed creating k S P d

-- and in both
pub data AreOwn (timed creating : Type 0) (k l : KernelState) (S P : ℕ → Type 0) (d e : Deed) : Type 0 where
  One : e ≡ d → IsOwn timed P d → AreOwn timed creating k l S P d e
  Parts : (child twin : Derivation) (cursor : ℕ) → d ≡ deeds.Gives child cursor → e ≡ deeds.Gives twin cursor → IsTwin child twin → (part : IsPart k S child) → (also : IsPart l S twin) →
      IsTwin part.source also.source → AreOwn timed creating k l S P d e
  Leaves : (leaf twin : Derivation) → d ≡ deeds.Removes leaf → e ≡ deeds.Removes twin → IsSameRange k l S leaf twin → IsOwnLeaf k S leaf → IsOwnLeaf l S twin → AreOwn timed creating k l S P d e
  News : (call target : ℕ) (made : NewObject) → d ≡ deeds.Makes call target made → e ≡ d → creating → IsMadeOf P made → AreOwn timed creating k l S P d e
  Opens : (target domain : ℕ) → d ≡ deeds.Opens target domain → e ≡ d → creating → AreOwn timed creating k l S P d e

-- one that makes no object
pub never : false ≡ true → ⊥
never h = cc

-- BUT FOR NUMBERS

abbrev child_in : Deed → Option Derivation
child_in (deeds.Gives child cursor) = Some child
child_in other = None

abbrev cursor_in : Deed → ℕ
cursor_in (deeds.Gives child cursor) = cursor
cursor_in other = 0

abbrev is_numbered : Deed → Bool
is_numbered (deeds.Gives child cursor) = true
is_numbered (deeds.Removes leaf) = true
is_numbered other = false

same_unless : (d e : Deed) → unnumbered e ≡ d → is_numbered d ≡ false → e ≡ d
same_unless d (deeds.Gives twin at) same none = absurd (let both : true ≡ false = ap is_numbered same ∙ none in cc)
same_unless d (deeds.Removes leaf) same none = absurd (let both : true ≡ false = ap is_numbered same ∙ none in cc)
same_unless d other same none = same

paired : (timed creating : Type 0) (k l : KernelState) (S P : ℕ → Type 0) (d e : Deed) → GivesItems d → unnumbered e ≡ unnumbered d →
    ((child : Derivation) (cursor : ℕ) → d ≡ deeds.Gives child cursor → IsPart k S child) → ((child : Derivation) (cursor : ℕ) → e ≡ deeds.Gives child cursor → IsPart l S child) →
    ((child twin : Derivation) (cursor at : ℕ) → d ≡ deeds.Gives child cursor → e ≡ deeds.Gives twin at → (part : IsPart k S child) (also : IsPart l S twin) → IsTwin part.source also.source) → AreOwn timed creating k l S P d e
paired timed creating k l S P deeds.Rests e items same mine its sources = One (same_unless deeds.Rests e same refl) tt
paired timed creating k l S P (deeds.Skips reason place cursor) e items same mine its sources = One (same_unless (deeds.Skips reason place cursor) e same refl) tt
paired timed creating k l S P (deeds.Finishes item end words after) e items same mine its sources = One (same_unless (deeds.Finishes item end words after) e same refl) tt
paired timed creating k l S P (deeds.Gives child cursor) e items same mine its sources = by_twin e same its sources
  where
    by_twin : (e : Deed) → unnumbered e ≡ unnumbered (deeds.Gives child cursor) → ((x : Derivation) (at : ℕ) → e ≡ deeds.Gives x at → IsPart l S x) →
        ((x twin : Derivation) (n at : ℕ) → deeds.Gives child cursor ≡ deeds.Gives x n → e ≡ deeds.Gives twin at → (part : IsPart k S x) (also : IsPart l S twin) → IsTwin part.source also.source) → AreOwn timed creating k l S P (deeds.Gives child cursor) e
    by_twin (deeds.Gives twin at) same its sources =
        let bare : record twin { id = 0; parent = None } ≡ record child { id = 0; parent = None } = same_Some (record twin { id = 0; parent = None }) (record child { id = 0; parent = None }) (ap child_in same) in
        Parts child twin cursor refl (ap (λ (n : ℕ). deeds.Gives twin n) (ap cursor_in same)) (record { pd = ap (λ (d : Derivation). d.pd) bare; held = ap held_by bare }) (mine child cursor refl) (its twin at refl) (sources child twin cursor at refl refl (mine child cursor refl) (its twin at refl))
    by_twin other same its sources = absurd (cc)
paired timed creating k l S P other e items same mine its sources = absurd items

-- WHERE A REVOKE IS UNDER WAY

abbrev revoke_in : KernelState → ℕ → Range → Bool → Revocation
revoke_in k ec range own = record { pd = pd_of k ec; range = range; own = own }

revoking_deed : (k : KernelState) (ec : ℕ) (range : Range) (own : Bool) → (context k ec).state ≡ Revoking range own → deed k ec ≡ removes (next_leaf (revoke_in k ec range own) k.delegations)
unfolding deed
revoking_deed k ec range own is = ap (deed_in k ec) is

leaf_is : (k : KernelState) (S : ℕ → Type 0) → IsForest k.delegations → DerivesWithin k S → (r : Revocation) → S r.pd → (leaf : Derivation) → next_leaf r k.delegations ≡ Some leaf → IsOwnLeaf k S leaf
leaf_is k S forest within r s leaf is =
    let facts = leaf_facts r k.delegations leaf forest is in
    record { there = facts.there; of = in_scope_mine k S forest within r s leaf (in_from_contains k.delegations.list leaf facts.there) facts.taken; childless = facts.childless }

revoking_both : (timed creating : Type 0) (k l : KernelState) (S P : ℕ → Type 0) → Both k l S P → IsForest k.delegations → IsForest l.delegations → (ec : ℕ) → P ec → S (pd_of k ec) → AreRevokingWithin k l S →
    is_revoking (context k ec).state ≡ true → AreOwn timed creating k l S P (deed k ec) (deed l ec)
revoking_both timed creating k l S P b first second ec p s within takes = by_state (context k ec).state refl takes
  where
    by_state : (t : State) → (context k ec).state ≡ t → is_revoking t ≡ true → AreOwn timed creating k l S P (deed k ec) (deed l ec)
    by_state (Revoking range own) is h =
        by_leaves (next_leaf (revoke_in k ec range own) k.delegations) refl (next_leaf (revoke_in k ec range own) l.delegations) refl
        (leaf_same k l S (record { first = first; second = second; holds = b.alike.spaces; within = within }) (revoke_in k ec range own) s)
      where
        mine : deed k ec ≡ removes (next_leaf (revoke_in k ec range own) k.delegations)
        mine = revoking_deed k ec range own is

        its : deed l ec ≡ removes (next_leaf (revoke_in k ec range own) l.delegations)
        its =
            revoking_deed l ec range own (ap (λ (x : EcState). x.state) (context_same k l S P b ec p s) ∙ is)
            ∙ ap (λ (n : ℕ). removes (next_leaf (record { pd = n; range = range; own = own }) l.delegations)) (pd_same k l S P b ec p)

        by_leaves : (o : Option Derivation) → next_leaf (revoke_in k ec range own) k.delegations ≡ o → (u : Option Derivation) → next_leaf (revoke_in k ec range own) l.delegations ≡ u → AreSameOr k l S o u →
            AreOwn timed creating k l S P (deed k ec) (deed l ec)
        by_leaves None none None nothing same =
            let returns : deed k ec ≡ deeds.Returns = mine ∙ ap removes none in
            One (its ∙ ap removes nothing ∙ sym returns) (subst (IsOwn timed P) (sym returns) tt)
        by_leaves (Some d) some None nothing same = absurd same
        by_leaves None none (Some e) other same = absurd same
        by_leaves (Some d) some (Some e) other same =
            Leaves d e (mine ∙ ap removes some) (its ∙ ap removes other) same (leaf_is k S first within.first (revoke_in k ec range own) s d some)
            (leaf_is l S second within.second (revoke_in k ec range own) s e other)
    by_state other is h = absurd (cc)

revoking_one : (timed creating : Type 0) (k : KernelState) (S P : ℕ → Type 0) → IsForest k.delegations → (ec : ℕ) → S (pd_of k ec) → DerivesWithin k S → is_revoking (context k ec).state ≡ true → IsOwnDeed timed creating k S P (deed k ec)
revoking_one timed creating k S P forest ec s within takes = by_state (context k ec).state refl takes
  where
    by_state : (t : State) → (context k ec).state ≡ t → is_revoking t ≡ true → IsOwnDeed timed creating k S P (deed k ec)
    by_state (Revoking range own) is h = by_leaf (next_leaf (revoke_in k ec range own) k.delegations) refl
      where
        by_leaf : (o : Option Derivation) → next_leaf (revoke_in k ec range own) k.delegations ≡ o → IsOwnDeed timed creating k S P (deed k ec)
        by_leaf None none = Alone (subst (IsOwn timed P) (sym (revoking_deed k ec range own is ∙ ap removes none)) tt)
        by_leaf (Some d) some = Leaf d (revoking_deed k ec range own is ∙ ap removes some) (leaf_is k S forest within (revoke_in k ec range own) s d some)
    by_state other is h = absurd (cc)

-- EACH DEED

one_does : (timed creating : Type 0) (k : KernelState) (S P : ℕ → Type 0) (d : Deed) → MayDo timed creating P d → IsOwnDeed timed creating k S P d
one_does timed creating k S P (deeds.Makes call target made) may = New call target made refl may.0 may.1
one_does timed creating k S P (deeds.Opens target domain) may = Open target domain refl may
one_does timed creating k S P other may = Alone may

both_do : (timed creating : Type 0) (k l : KernelState) (S P : ℕ → Type 0) (d e : Deed) → e ≡ d → MayDo timed creating P d → AreOwn timed creating k l S P d e
both_do timed creating k l S P (deeds.Makes call target made) e same may = News call target made refl same may.0 may.1
both_do timed creating k l S P (deeds.Opens target domain) e same may = Opens target domain refl same may
both_do timed creating k l S P other e same may = One same may

pub own_both : (k l : KernelState) (S P : ℕ → Type 0) → Both k l S P → IsForest k.delegations → IsForest l.delegations → (ec : ℕ) → P ec → S (pd_of k ec) →
    IsAtWork (HasSameClock k l ec) (AreGivingWithin k l S ec) (AreRevokingWithin k l S) (AreMaking k l S P) k ec → AreOwn (HasSameClock k l ec) (AreMaking k l S P) k l S P (deed k ec) (deed l ec)
own_both k l S P b first second ec p s works = by_test (is_giving (context k ec).state) refl (is_revoking (context k ec).state) refl
  where
    by_test : (t : Bool) → is_giving (context k ec).state ≡ t → (u : Bool) → is_revoking (context k ec).state ≡ u → AreOwn (HasSameClock k l ec) (AreMaking k l S P) k l S P (deed k ec) (deed l ec)
    by_test false is false calm =
        both_do (HasSameClock k l ec) (AreMaking k l S P) k l S P (deed k ec) (deed l ec) (deed_same (AreGivingWithin k l S ec) (AreRevokingWithin k l S) k l S P b ec p s works is calm)
        (deed_own (HasSameClock k l ec) (AreGivingWithin k l S ec) (AreRevokingWithin k l S) (AreMaking k l S P) k l S P b ec p s works is calm)
    by_test false is true takes = revoking_both (HasSameClock k l ec) (AreMaking k l S P) k l S P b first second ec p s (works.revokes takes) takes
    by_test true is u its =
        let g = works.gives is in
        paired (HasSameClock k l ec) (AreMaking k l S P) k l S P (deed k ec) (deed l ec) (gives_items k ec is)
        (given_same k l S P b first second ec p s g.first g.second.unrevoked is)
        (part_is k S ec first g.first.between)
        (part_is l S ec second g.second.between)
        (sources_same k l S P b first second ec p s g.first is)

one_of : (timed creating : Type 0) (k : KernelState) (S P : ℕ → Type 0) (d : Deed) → GivesItems d → ((child : Derivation) (cursor : ℕ) → d ≡ deeds.Gives child cursor → IsPart k S child) → IsOwnDeed timed creating k S P d
one_of timed creating k S P deeds.Rests items mine = Alone tt
one_of timed creating k S P (deeds.Skips reason place cursor) items mine = Alone tt
one_of timed creating k S P (deeds.Finishes item end words after) items mine = Alone tt
one_of timed creating k S P (deeds.Gives child cursor) items mine = Part child cursor refl (mine child cursor refl)
one_of timed creating k S P other items mine = absurd items

pub own_one : (timed giving revoking creating : Type 0) (k : KernelState) (S P : ℕ → Type 0) → Both k k S P → IsForest k.delegations → (ec : ℕ) → P ec → S (pd_of k ec) → IsAtWork timed giving revoking creating k ec →
    ((giver receiver : ℕ) → GivesTo k ec giver receiver → S giver × S receiver) → (revoking → DerivesWithin k S) → IsOwnDeed timed creating k S P (deed k ec)
own_one timed giving revoking creating k S P b forest ec p s works between within = by_test (is_giving (context k ec).state) refl (is_revoking (context k ec).state) refl
  where
    by_test : (t : Bool) → is_giving (context k ec).state ≡ t → (u : Bool) → is_revoking (context k ec).state ≡ u → IsOwnDeed timed creating k S P (deed k ec)
    by_test false is false calm = one_does timed creating k S P (deed k ec) (deed_own timed giving revoking creating k k S P b ec p s works is calm)
    by_test false is true takes = revoking_one timed creating k S P forest ec s (within (works.revokes takes)) takes
    by_test true is u its = one_of timed creating k S P (deed k ec) (gives_items k ec is) (part_is k S ec forest between)

-- WHAT FOLLOWS

pub first_own : (timed creating : Type 0) (k l : KernelState) (S P : ℕ → Type 0) (d e : Deed) → AreOwn timed creating k l S P d e → IsOwnDeed timed creating k S P d
first_own timed creating k l S P d e (One same own) = Alone own
first_own timed creating k l S P d e (Parts child twin cursor is its t part also from) = Part child cursor is part
first_own timed creating k l S P d e (Leaves leaf twin is its t mine other) = Leaf leaf is mine
first_own timed creating k l S P d e (News call target made is same creates of) = New call target made is creates of
first_own timed creating k l S P d e (Opens target domain is same creates) = Open target domain is creates

abbrev bare : ℕ → Held → Derivation
bare pd h = record { id = 0; pd = pd; kind = h.range.kind; base = h.range.base; order = h.range.order; rights = h.rights; target = h.target; parent = None }

pub same_unnumbered : (timed creating : Type 0) (k l : KernelState) (S P : ℕ → Type 0) (d e : Deed) → AreOwn timed creating k l S P d e → unnumbered e ≡ unnumbered d
same_unnumbered timed creating k l S P d e (One same own) = ap unnumbered same
same_unnumbered timed creating k l S P d e (Parts child twin cursor is its t part also from) =
    ap unnumbered its ∙ ap₂ (λ (n : ℕ) (h : Held). deeds.Gives (bare n h) cursor) t.pd t.held ∙ sym (ap unnumbered is)
same_unnumbered timed creating k l S P d e (Leaves leaf twin is its t mine other) = ap unnumbered its ∙ ap₂ (λ (n : ℕ) (h : Held). deeds.Removes (bare n h)) t.pd t.held ∙ sym (ap unnumbered is)
same_unnumbered timed creating k l S P d e (News call target made is same creates of) = ap unnumbered same
same_unnumbered timed creating k l S P d e (Opens target domain is same creates) = ap unnumbered same

event_so : (cpu sc ec : ℕ) (d : Deed) → unnumbered_event (event_by cpu sc ec d) ≡ unnumbered_event (event_by cpu sc ec (unnumbered d))
event_so cpu sc ec (deeds.Gives child cursor) = refl
event_so cpu sc ec (deeds.Removes leaf) = refl
event_so cpu sc ec other = refl

pub same_event : (cpu sc ec : ℕ) (d e : Deed) → unnumbered e ≡ unnumbered d → unnumbered_event (event_by cpu sc ec e) ≡ unnumbered_event (event_by cpu sc ec d)
same_event cpu sc ec d e same = event_so cpu sc ec e ∙ ap (λ (x : Deed). unnumbered_event (event_by cpu sc ec x)) same ∙ sym (event_so cpu sc ec d)

pub first_made : (timed creating : Type 0) (k : KernelState) (S P : ℕ → Type 0) (d : Deed) → (creating → ⊥) → IsOwnDeed timed creating k S P d → made_by d ≡ None
first_made timed creating k S P d none (Alone own) = made_none timed P d own
first_made timed creating k S P d none (Part child cursor is part) = ap made_by is
first_made timed creating k S P d none (Leaf leaf is mine) = ap made_by is
first_made timed creating k S P d none (New call target made is creates of) = absurd (none creates)
first_made timed creating k S P d none (Open target domain is creates) = absurd (none creates)

none_some : (o : Option NewObject) → o ≡ None → IsSome o → ⊥
none_some None is some = absurd (cc)
none_some (Some made) is some = absurd (cc)

-- where one is made, the side creates
pub made_creating : (timed creating : Type 0) (k : KernelState) (S P : ℕ → Type 0) (d : Deed) → IsOwnDeed timed creating k S P d → IsSome (made_by d) → creating
made_creating timed creating k S P d (Alone own) some = absurd (none_some (made_by d) (made_none timed P d own) some)
made_creating timed creating k S P d (Part child cursor is part) some = absurd (none_some (made_by d) (ap made_by is) some)
made_creating timed creating k S P d (Leaf leaf is mine) some = absurd (none_some (made_by d) (ap made_by is) some)
made_creating timed creating k S P d (New call target made is creates of) some = creates
made_creating timed creating k S P d (Open target domain is creates) some = creates

-- as much is made in both
pub same_made : (timed creating : Type 0) (k l : KernelState) (S P : ℕ → Type 0) (d e : Deed) → AreOwn timed creating k l S P d e → made_by e ≡ made_by d
same_made timed creating k l S P d e (One same own) = ap made_by same
same_made timed creating k l S P d e (Parts child twin cursor is its t part also from) = ap made_by its ∙ sym (ap made_by is)
same_made timed creating k l S P d e (Leaves leaf twin is its t mine other) = ap made_by its ∙ sym (ap made_by is)
same_made timed creating k l S P d e (News call target made is same creates of) = ap made_by same
same_made timed creating k l S P d e (Opens target domain is same creates) = ap made_by same

pub store_so : (timed creating : Type 0) (k l m : KernelState) (S P : ℕ → Type 0) (ec : ℕ) (d e : Deed) → AreOwn timed creating k l S P d e → store_by m ec e ≡ store_by m ec d
store_so timed creating k l m S P ec d e (One same own) = ap (store_by m ec) same
store_so timed creating k l m S P ec d e (Parts child twin cursor is its t part also from) = ap (store_by m ec) its ∙ sym (ap (store_by m ec) is)
store_so timed creating k l m S P ec d e (Leaves leaf twin is its t mine other) = ap (store_by m ec) its ∙ sym (ap (store_by m ec) is)
store_so timed creating k l m S P ec d e (News call target made is same creates of) = ap (store_by m ec) same
store_so timed creating k l m S P ec d e (Opens target domain is same creates) = ap (store_by m ec) same

-- who opens a domain waits for nobody
pub opens_well : (P : ℕ → Type 0) (domain : ℕ) → EditOwn P (Becomes (Granting (Some domain)))
opens_well P domain = (λ h is. absurd (cc), λ sm is. absurd (cc))

pub own_turned_side : (timed creating : Type 0) (k : KernelState) (S P : ℕ → Type 0) → IsSide k S P → IsForest k.delegations → (creating → IsCreatingAlone k S P) → (cpu ec sc : ℕ) → P ec → (d : Deed) → IsOwnDeed timed creating k S P d → (stirs : ℕ → Bool) →
    IsSide (turned k cpu (by_deed k ec sc d stirs)) S P
own_turned_side timed creating k S P side forest alone cpu ec sc p d (Alone own) stirs = turned_side timed k S P side cpu ec sc p d own stirs
own_turned_side timed creating k S P side forest alone cpu ec sc p d (Part child cursor is part) stirs =
    subst (λ (x : Deed). IsSide (turned k cpu (by_deed k ec sc x stirs)) S P) (sym is) (part_side k S P side forest cpu ec sc child cursor part stirs)
own_turned_side timed creating k S P side forest alone cpu ec sc p d (Leaf leaf is mine) stirs =
    subst (λ (x : Deed). IsSide (turned k cpu (by_deed k ec sc x stirs)) S P) (sym is) (leaf_side k S P side cpu ec sc leaf stirs)
own_turned_side timed creating k S P side forest alone cpu ec sc p d (New call target made is creates of) stirs =
    subst (λ (x : Deed). IsSide (turned k cpu (by_deed k ec sc x stirs)) S P) (sym is) (made_side k S P side (alone creates) cpu ec sc target made (Answers Success None) of tt stirs)
own_turned_side timed creating k S P side forest alone cpu ec sc p d (Open target domain is creates) stirs =
    subst (λ (x : Deed). IsSide (turned k cpu (by_deed k ec sc x stirs)) S P) (sym is)
    (made_side k S P side (alone creates) cpu ec sc target new.Pd (Becomes (Granting (Some domain))) tt (opens_well P domain) stirs)

pub own_turned_alike : (timed creating : Type 0) (k l : KernelState) (S P : ℕ → Type 0) → Both k l S P → IsForest k.delegations → IsForest l.delegations → (creating → AreMaking k l S P) → (cpu other ec sc : ℕ) → P ec → S (pd_of k ec) → (d e : Deed) → AreOwn timed creating k l S P d e →
    (stirs others : ℕ → Bool) → AreAlike (turned k cpu (by_deed k ec sc d stirs)) (turned l other (by_deed l ec sc e others)) S P
own_turned_alike timed creating k l S P b forest further making cpu other ec sc p s d e (One same own) stirs others =
    subst (λ (x : Deed). AreAlike (turned k cpu (by_deed k ec sc d stirs)) (turned l other (by_deed l ec sc x others)) S P) (sym same) (turned_alike timed k l S P b cpu other ec sc p s d own stirs others)
own_turned_alike timed creating k l S P b forest further making cpu other ec sc p s d e (Parts child twin cursor is its t part also from) stirs others =
    subst (λ (x : Deed). AreAlike (turned k cpu (by_deed k ec sc x stirs)) (turned l other (by_deed l ec sc e others)) S P) (sym is)
    (subst (λ (x : Deed). AreAlike (turned k cpu (by_deed k ec sc (deeds.Gives child cursor) stirs)) (turned l other (by_deed l ec sc x others)) S P) (sym its)
    (part_alike k l S P b forest further cpu other ec sc child twin cursor t part also from stirs others))
own_turned_alike timed creating k l S P b forest further making cpu other ec sc p s d e (Leaves leaf twin is its t mine theirs) stirs others =
    subst (λ (x : Deed). AreAlike (turned k cpu (by_deed k ec sc x stirs)) (turned l other (by_deed l ec sc e others)) S P) (sym is)
    (subst (λ (x : Deed). AreAlike (turned k cpu (by_deed k ec sc (deeds.Removes leaf) stirs)) (turned l other (by_deed l ec sc x others)) S P) (sym its)
    (leaf_alike k l S P b forest further cpu other ec sc leaf twin t mine.childless theirs.childless stirs others))
own_turned_alike timed creating k l S P b forest further making cpu other ec sc p s d e (News call target made is same creates of) stirs others =
    subst (λ (x : Deed). AreAlike (turned k cpu (by_deed k ec sc x stirs)) (turned l other (by_deed l ec sc e others)) S P) (sym is)
    (subst (λ (x : Deed). AreAlike (turned k cpu (by_deed k ec sc (deeds.Makes call target made) stirs)) (turned l other (by_deed l ec sc x others)) S P) (sym (same ∙ is))
    (made_alike k l S P b forest further (making creates) cpu other ec sc target made (Answers Success None) p stirs others))
own_turned_alike timed creating k l S P b forest further making cpu other ec sc p s d e (Opens target domain is same creates) stirs others =
    subst (λ (x : Deed). AreAlike (turned k cpu (by_deed k ec sc x stirs)) (turned l other (by_deed l ec sc e others)) S P) (sym is)
    (subst (λ (x : Deed). AreAlike (turned k cpu (by_deed k ec sc (deeds.Opens target domain) stirs)) (turned l other (by_deed l ec sc x others)) S P) (sym (same ∙ is))
    (made_alike k l S P b forest further (making creates) cpu other ec sc target new.Pd (Becomes (Granting (Some domain))) p stirs others))

-- WHERE THE SIDE REVOKES

pub less_was : (f : Delegations) (id : ℕ) (d : Derivation) → Contains (without f id).list d → Contains f.list d
less_was f id d there = contains_from_in f.list d (filtered_in (λ (a : Derivation). not (a.id == id)) f.list d (in_from_contains (without f id).list d there)).0

-- its ranges are made of each other alike after it
pub pair_derived : (timed creating : Type 0) (k l m n : KernelState) (S P : ℕ → Type 0) → Both k l S P → (creating → AreMaking k l S P) → IsForest k.delegations → IsForest l.delegations → IsForest m.delegations → IsForest n.delegations → (ec : ℕ) → P ec → S (pd_of k ec) → (d e : Deed) → AreOwn timed creating k l S P d e →
    m.delegations ≡ branched k.delegations (branch_by k ec d) → n.delegations ≡ branched l.delegations (branch_by l ec e) → AreDerivedAlike k l S → AreDerivedAlike m n S
pair_derived timed creating k l m n S P b making first second third fourth ec p s_pd d e (One same own) mine its a =
    derived_kept k l m n S
    (λ x there s. subst (λ (f : Delegations). Contains f.list x) (mine ∙ ap (branched k.delegations) (branch_none timed k P ec d own)) there)
    (λ x there s. subst (λ (f : Delegations). Contains f.list x) (its ∙ ap (λ (y : Deed). branched l.delegations (branch_by l ec y)) same ∙ ap (branched l.delegations) (branch_none timed l P ec d own)) there) a
pair_derived timed creating k l m n S P b making first second third fourth ec p s_pd d e (Parts child twin cursor is also t part other from) mine its a =
    derived_joined k l m n S first second third fourth child twin t part other from
    (mine ∙ ap (λ (y : Deed). branched k.delegations (branch_by k ec y)) is) (its ∙ ap (λ (y : Deed). branched l.delegations (branch_by l ec y)) also) a
pair_derived timed creating k l m n S P b making first second third fourth ec p s_pd d e (Leaves leaf twin is also t here there) mine its a =
    derived_kept k l m n S
    (λ x in_it s. less_was k.delegations leaf.id x (subst (λ (f : Delegations). Contains f.list x) (mine ∙ ap (λ (y : Deed). branched k.delegations (branch_by k ec y)) is) in_it))
    (λ x in_it s. less_was l.delegations twin.id x (subst (λ (f : Delegations). Contains f.list x) (its ∙ ap (λ (y : Deed). branched l.delegations (branch_by l ec y)) also) in_it)) a
pair_derived timed creating k l m n S P b making first second third fourth ec p s_pd d e (News call target made is same creates of) mine its a =
    rooted_derived k l m n S P b first second third fourth ec target made p s_pd (making creates).alone.objects
    (mine ∙ ap (λ (y : Deed). branched k.delegations (branch_by k ec y)) is) (its ∙ ap (λ (y : Deed). branched l.delegations (branch_by l ec y)) (same ∙ is)) a
pair_derived timed creating k l m n S P b making first second third fourth ec p s_pd d e (Opens target domain is same creates) mine its a =
    rooted_derived k l m n S P b first second third fourth ec target new.Pd p s_pd (making creates).alone.objects
    (mine ∙ ap (λ (y : Deed). branched k.delegations (branch_by k ec y)) is) (its ∙ ap (λ (y : Deed). branched l.delegations (branch_by l ec y)) (same ∙ is)) a

-- and all that is made of them is its own
pub own_derives : (timed creating : Type 0) (k m : KernelState) (S P : ℕ → Type 0) → IsForest k.delegations → (ec : ℕ) (d : Deed) → IsOwnDeed timed creating k S P d → m.delegations ≡ branched k.delegations (branch_by k ec d) → DerivesWithin k S →
    DerivesWithin m S
own_derives timed creating k m S P forest ec d (Alone own) is within =
    derives_kept k m S forest (Stays (is ∙ ap (branched k.delegations) (branch_none timed k P ec d own))) within
    (λ x a joins above s. absurd (let same : added k.delegations x ≡ k.delegations = sym joins ∙ is ∙ ap (branched k.delegations) (branch_none timed k P ec d own) in more_next k.delegations x same))
  where
    more_next : (f : Delegations) (x : Derivation) → added f x ≡ f → ⊥
    more_next f x same = let next : f.next + 1 ≡ f.next = ap (λ (g : Delegations). g.next) same in omega (arith, next)
own_derives timed creating k m S P forest ec d (Part child cursor gives part) is within =
    derives_kept k m S forest (Joins child part.fits joined) within
    (λ x a joins above s. subst (λ (y : Derivation). S y.pd) (last_one k.delegations.list child x (ap (λ (f : Delegations). f.list) (sym joined ∙ joins))) part.to)
  where
    joined : m.delegations ≡ added k.delegations child
    joined = is ∙ ap (λ (y : Deed). branched k.delegations (branch_by k ec y)) gives
own_derives timed creating k m S P forest ec d (Leaf leaf takes mine) is within =
    derives_kept k m S forest (Goes leaf mine.there mine.childless gone) within
    (λ x a joins above s. absurd (let next : k.delegations.next ≡ k.delegations.next + 1 = ap (λ (f : Delegations). f.next) (sym gone ∙ joins) in omega (arith, next)))
  where
    gone : m.delegations ≡ without k.delegations leaf.id
    gone = is ∙ ap (λ (y : Deed). branched k.delegations (branch_by k ec y)) takes
own_derives timed creating k m S P forest ec d (New call target made is creates of) joins within =
    rooted_derives k m S forest (pd_of k ec) target made (joins ∙ ap (λ (y : Deed). branched k.delegations (branch_by k ec y)) is) within
own_derives timed creating k m S P forest ec d (Open target domain is creates) joins within =
    rooted_derives k m S forest (pd_of k ec) target new.Pd (joins ∙ ap (λ (y : Deed). branched k.delegations (branch_by k ec y)) is) within
