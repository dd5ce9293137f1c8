-- A range that a revoke of the side's takes away is taken of the side's part alike, in two states in which that is the same; and what is asked of both where the side revokes stays so.
use Rattle.std.proofs.Common.{arith, ◌≡◌, ◌⊎◌, ℕ, suc, ◌==◌, ◌<◌, List, [], ◌∷◌, ◌++◌, refl, sym, ap, ap₂, ◌∙◌, subst, inl, inr}
use Rattle.std.specs.Prelude.{Bool, true, false, Contains, nat_lt, not, option_map, Option, Some, None}
use Rattle.std.specs.List.{find}
use Rattle.std.proofs.lemmas.Bool.{eq-eqb, eqb-true, ne_eqb}
use Rattle.nova_guest.specs.declared.page.Page.{Page}
use Rattle.nova_range.specs.Ranges.{HasPlace}
use Rattle.nova_range.specs.declared.range.Kind.{Kind}
use Rattle.nova_range.specs.declared.range.Kind.TheVariants.{Mem}
use Rattle.nova_model.specs.Delegations.{Delegations, added, covers, is_child_of, is_id, page_in, range_of, reach, without}
use Rattle.nova_model.specs.Forest.{IsChildless, IsForest}
use Rattle.nova_model.specs.Lines.{line}
use Rattle.nova_model.specs.Runs.{after}
use Rattle.nova_model.specs.State.{KernelState}
use Rattle.nova_model.specs.declared.deed.Deed.TheVariants as deeds
use Rattle.nova_model.specs.declared.delegation.Derivation.{Derivation}
use Rattle.law_forest.specs.Changes.{Change, Goes, Joins, Stays}
use Rattle.law_forest.specs.Turns.{turned}
use Rattle.law_forest.proofs.Changes.{turn_change}
use Rattle.law_forest.proofs.Members.{IsIn, all_at, contains_from_in, filtered_in, found_in, in_from_contains}
use Rattle.law_forest.proofs.Pairs.{same_id}
use Rattle.law_forest.proofs.Scopes.{next_childless}
use Rattle.law_isolation.specs.Sound.{IsSound}
use Rattle.law_isolation.proofs.Runs.{turn_sound}
use Rattle.law_flow.specs.Flow.{AreAlike, AreDerivedAlike, AreRevokingWithin, DerivesWithin, Held, IsSameRange, IsSide, held_by, origin_of}
use Rattle.law_flow.proofs.Doing.{by_deed, frames_same, paid_same}
use Rattle.law_flow.proofs.Giving.{in_joined, twin_covers}
use Rattle.law_flow.proofs.Holds.{HoldAlike, IsTwin, at_base, covering, hold_flipped, one_covers, twin_in}
use Rattle.law_flow.proofs.Leaves.{both_so, one_range, range_flipped}
use Rattle.law_flow.proofs.Origins.{origin_kept}
use Rattle.law_flow.proofs.Parts.{IsPart}
use Rattle.law_flow.proofs.Seeing.{Both}
use Rattle.law_flow.proofs.Sets.{find_less, line_kept, parents_kept}

-- ONE RANGE MORE

pub last_there : (list : List Derivation) (x : Derivation) → IsIn (list ++ x ∷ []) x
last_there [] x = inl refl
last_there (y ∷ list) x = inr (last_there list x)

pub last_one : (list : List Derivation) (x y : Derivation) → list ++ x ∷ [] ≡ list ++ y ∷ [] → x ≡ y
last_one [] x y same = ap (head_or x) same
  where
    head_or : Derivation → List Derivation → Derivation
    head_or z [] = z
    head_or z (w ∷ ws) = w
last_one (z ∷ list) x y same = last_one list x y (ap tail_of same)
  where
    tail_of : List Derivation → List Derivation
    tail_of [] = []
    tail_of (w ∷ ws) = ws

-- ONE RANGE LESS

-- a leaf of the side's that is there
pub record IsOwnLeaf (k : KernelState) (S : ℕ → Type 0) (leaf : Derivation) : Type 0 where
  pub there : Contains k.delegations.list leaf
  pub of : S leaf.pd
  pub childless : IsChildless k.delegations.list leaf.id

abbrev unless_gone : Bool → Option Derivation → Option Derivation
unless_gone true o = None
unless_gone false o = o

not_false : (t : Bool) → not t ≡ false → t ≡ true
not_false true h = refl
not_false false h = absurd (cc)

find_without : (f : Delegations) → IsForest f → (x : Derivation) → IsIn f.list x → (kind : Kind) (pd place : ℕ) →
    find (covers kind pd place) (without f x.id).list ≡ unless_gone (covers kind pd place x) (find (covers kind pd place) f.list)
find_without f forest x there kind pd place = by_test (covers kind pd place x) refl
  where
    by_found : covers kind pd place x ≡ true → (o : Option Derivation) → find (covers kind pd place) (without f x.id).list ≡ o → o ≡ None
    by_found is None at = refl
    by_found is (Some y) at =
        let its = found_in (covers kind pd place) (without f x.id).list y at in
        let kept = filtered_in (λ (d : Derivation). not (d.id == x.id)) f.list y its.0 in
        let one : y ≡ x = one_covers f.list kind pd place y x forest.apart kept.0 there (covering kind pd place y its.1) (covering kind pd place x is) in
        let same : (y.id == x.id) ≡ true = eq-eqb y.id x.id (ap (λ (d : Derivation). d.id) one) in
        let gone : false ≡ true = sym (ap not same) ∙ kept.1 in
        absurd (cc)

    by_test : (t : Bool) → covers kind pd place x ≡ t → find (covers kind pd place) (without f x.id).list ≡ unless_gone t (find (covers kind pd place) f.list)
    by_test true is = by_found is (find (covers kind pd place) (without f x.id).list) refl
    by_test false is =
        find_less (covers kind pd place) (λ (d : Derivation). not (d.id == x.id)) f.list (λ a i out.
        ap (covers kind pd place) (same_id f.list a x forest.rising (in_from_contains f.list a i) there (eqb-true a.id x.id (not_false (a.id == x.id) out))) ∙ is)

held_without : (t : Bool) (o u : Option Derivation) → ◌≡◌ {A = Option Held} (option_map held_by u) (option_map held_by o) → ◌≡◌ {A = Option Held} (option_map held_by (unless_gone t u)) (option_map held_by (unless_gone t o))
held_without true o u same = refl
held_without false o u same = same

pub spaces_without : (k l : KernelState) (S : ℕ → Type 0) (leaf twin : Derivation) → IsForest k.delegations → IsForest l.delegations → IsSameRange k l S leaf twin → (kind : Kind) (pd place : ℕ) →
    ◌≡◌ {A = Option Held} (option_map held_by (find (covers kind pd place) l.delegations.list)) (option_map held_by (find (covers kind pd place) k.delegations.list)) →
    ◌≡◌ {A = Option Held} (option_map held_by (find (covers kind pd place) (without l.delegations twin.id).list)) (option_map held_by (find (covers kind pd place) (without k.delegations leaf.id).list))
spaces_without k l S leaf twin first second t kind pd place same =
    ap (option_map held_by) (find_without l.delegations second twin (in_from_contains l.delegations.list twin t.second) kind pd place)
    ∙ ap (λ (b : Bool). option_map held_by (unless_gone b (find (covers kind pd place) l.delegations.list))) (twin_covers kind pd place leaf twin (record { pd = t.pd; held = t.held }))
    ∙ held_without (covers kind pd place leaf) (find (covers kind pd place) k.delegations.list) (find (covers kind pd place) l.delegations.list) same
    ∙ sym (ap (option_map held_by) (find_without k.delegations first leaf (in_from_contains k.delegations.list leaf t.first) kind pd place))

-- of what else is there
abbrev unless_held : Bool → Option Held → Option Held
unless_held true o = None
unless_held false o = o

origin_without : (f : Delegations) → IsForest f → (x : Derivation) → Contains f.list x → IsChildless f.list x.id → (kind : Kind) (pd place from : ℕ) →
    origin_of (without f x.id).list from (find (covers kind pd place) (without f x.id).list) ≡ unless_held (covers kind pd place x) (origin_of f.list from (find (covers kind pd place) f.list))
origin_without f forest x there childless kind pd place from =
    ap (origin_of (without f x.id).list from) (find_without f forest x (in_from_contains f.list x there) kind pd place) ∙ by_test (covers kind pd place x)
  where
    by_found : (o : Option Derivation) → find (covers kind pd place) f.list ≡ o → origin_of (without f x.id).list from o ≡ origin_of f.list from o
    by_found None is = refl
    by_found (Some d) is = origin_kept f.list (without f x.id).list (parents_kept f (without f x.id) forest (Goes x there childless refl)) from d (found_in (covers kind pd place) f.list d is).0

    by_test : (t : Bool) → origin_of (without f x.id).list from (unless_gone t (find (covers kind pd place) f.list)) ≡ unless_held t (origin_of f.list from (find (covers kind pd place) f.list))
    by_test true = refl
    by_test false = by_found (find (covers kind pd place) f.list) refl

-- a page that leads somewhere then led there before
pub led_before : (f : Delegations) → IsForest f → (x : Derivation) → IsIn f.list x → (pd page : ℕ) (to : Page) → reach (without f x.id).list pd page ≡ Some to → reach f.list pd page ≡ Some to
led_before f forest x there pd page to leads =
    by_test (covers Mem pd page x) (find (covers Mem pd page) f.list) refl (sym (ap (option_map (page_in page)) (find_without f forest x there Mem pd page)) ∙ leads)
  where
    by_test : (t : Bool) (o : Option Derivation) → find (covers Mem pd page) f.list ≡ o → option_map (page_in page) (unless_gone t o) ≡ Some to → reach f.list pd page ≡ Some to
    by_test true o is h = absurd (cc)
    by_test false o is h = ap (option_map (page_in page)) is ∙ h

-- A TURN

pub leaf_alike : (k l : KernelState) (S P : ℕ → Type 0) → Both k l S P → IsForest k.delegations → IsForest l.delegations → (cpu other ec sc : ℕ) (leaf twin : Derivation) → IsSameRange k l S leaf twin →
    IsChildless k.delegations.list leaf.id → IsChildless l.delegations.list twin.id → (stirs others : ℕ → Bool) →
    AreAlike (turned k cpu (by_deed k ec sc (deeds.Removes leaf) stirs)) (turned l other (by_deed l ec sc (deeds.Removes twin) others)) S P
leaf_alike k l S P b first second cpu other ec sc leaf twin t mine its stirs others = record {
  objects = b.alike.objects;
  fronts = b.alike.fronts;
  contexts = b.alike.contexts;
  messages = b.alike.messages;
  transfers = b.alike.transfers;
  identifiers = b.alike.identifiers;
  semaphores = b.alike.semaphores;
  ticks = paid_same P k.budgets l.budgets sc _ _ _ _ b.alike.ticks;
  deadlines = b.alike.deadlines;
  spaces = λ kind pd place s. spaces_without k l S leaf twin first second t kind pd place (b.alike.spaces kind pd place s);
  origins = λ kind pd place from s from_s.
      origin_without l.delegations second twin t.second its kind pd place from
      ∙ ap₂ (λ (g : Bool) (o : Option Held). unless_held g o) (twin_covers kind pd place leaf twin (record { pd = t.pd; held = t.held })) (b.alike.origins kind pd place from s from_s)
      ∙ sym (origin_without k.delegations first leaf t.first mine kind pd place from);
  frames = λ pd page to s leads. frames_same k l S P b to.frame (record {
    pd = pd;
    page = page;
    to = to;
    of = s;
    leads = led_before k.delegations first leaf (in_from_contains k.delegations.list leaf t.first) pd page to leads;
    its = refl;
  });
  size = b.alike.size;
}

pub leaf_side : (k : KernelState) (S P : ℕ → Type 0) → IsSide k S P → (cpu ec sc : ℕ) (leaf : Derivation) → (stirs : ℕ → Bool) → IsSide (turned k cpu (by_deed k ec sc (deeds.Removes leaf) stirs)) S P
leaf_side k S P side cpu ec sc leaf stirs = record {
  holds = λ d there s kind.
      side.holds d (contains_from_in k.delegations.list d (filtered_in (λ (a : Derivation). not (a.id == leaf.id)) k.delegations.list d (in_from_contains (without k.delegations leaf.id).list d there)).0) s kind;
  handlers = side.handlers;
  edges = side.edges;
  callers = side.callers;
  queues = side.queues;
  blocked = side.blocked;
  members = side.members;
}

-- MADE OF EACH OTHER ALIKE

abbrev pub GainsNone : KernelState → KernelState → (ℕ → Type 0) → Type 0
GainsNone k new S = (d : Derivation) → Contains new.delegations.list d → S d.pd → Contains k.delegations.list d

-- where the side gains no range
pub derived_kept : (k l m n : KernelState) (S : ℕ → Type 0) → GainsNone k m S → GainsNone l n S → AreDerivedAlike k l S → AreDerivedAlike m n S
derived_kept k l m n S mine its a = record {
  children = λ c d e f t u. a.children c d e f (back c e t) (back d f u);
  order = λ c d e f t u. a.order c d e f (back c e t) (back d f u);
}
  where
    back : (d e : Derivation) → IsSameRange m n S d e → IsSameRange k l S d e
    back d e t = record { of = t.of; first = mine d t.first t.of; second = its e t.second (subst S (sym t.pd) t.of); pd = t.pd; held = t.held }

abbrev Was : KernelState → KernelState → (ℕ → Type 0) → Derivation → Derivation → Derivation → Derivation → Type 0
Was k l S child twin c e = IsSameRange k l S c e ⊎ ((c ≡ child) × (e ≡ twin))

-- and where it gains one, which is made of the same in both, or of nothing
pub record AreMadeAlike (k l : KernelState) (S : ℕ → Type 0) (child twin : Derivation) : Type 0 where
  pub first : IsForest k.delegations
  pub second : IsForest l.delegations
  pub of : S child.pd
  pub id : child.id ≡ k.delegations.next
  pub twin_id : twin.id ≡ l.delegations.next
  pub twins : IsTwin child twin
  pub parents : (d f : Derivation) → IsSameRange k l S d f → is_child_of f.id twin ≡ is_child_of d.id child
  pub itself : is_child_of twin.id twin ≡ is_child_of child.id child

pub derived_more : (k l m n : KernelState) (S : ℕ → Type 0) → IsForest m.delegations → IsForest n.delegations → (child twin : Derivation) → AreMadeAlike k l S child twin →
    m.delegations ≡ added k.delegations child → n.delegations ≡ added l.delegations twin → AreDerivedAlike k l S → AreDerivedAlike m n S
derived_more k l m n S third fourth child twin made one other a = record {
  children = λ c d e f u v. children c d e f (split c e u) (split d f v);
  order = λ c d e f u v. order c d e f (split c e u) (split d f v);
}
  where
    mine : (d : Derivation) → Contains m.delegations.list d → IsIn k.delegations.list d ⊎ (d ≡ child)
    mine d there = in_joined k.delegations.list child d (subst (λ (f : Delegations). IsIn f.list d) one (in_from_contains m.delegations.list d there))

    its : (e : Derivation) → Contains n.delegations.list e → IsIn l.delegations.list e ⊎ (e ≡ twin)
    its e there = in_joined l.delegations.list twin e (subst (λ (f : Delegations). IsIn f.list e) other (in_from_contains n.delegations.list e there))

    old_child : (d : Derivation) → IsIn k.delegations.list d → d.id < child.id
    old_child d i = let below = all_at (λ b. b.id < k.delegations.next) k.delegations.list d made.first.numbered i in let id = made.id in omega (arith, below, id)

    old_twin : (e : Derivation) → IsIn l.delegations.list e → e.id < twin.id
    old_twin e i = let below = all_at (λ b. b.id < l.delegations.next) l.delegations.list e made.second.numbered i in let id = made.twin_id in omega (arith, below, id)

    pair : (c e : Derivation) → IsSameRange m n S c e → c ≡ child → IsSameRange m n S child e
    pair c e u same = subst (λ (d : Derivation). IsSameRange m n S d e) same u

    last_in : (f : Delegations) (x : Derivation) → Contains (added f x).list x
    last_in f x = contains_from_in (f.list ++ x ∷ []) x (last_there f.list x)

    -- the pair that joined
    the_pair : IsSameRange m n S child twin
    the_pair = record {
      of = made.of;
      first = subst (λ (f : Delegations). Contains f.list child) (sym one) (last_in k.delegations child);
      second = subst (λ (f : Delegations). Contains f.list twin) (sym other) (last_in l.delegations twin);
      pd = made.twins.pd;
      held = made.twins.held;
    }

    split : (c e : Derivation) → IsSameRange m n S c e → Was k l S child twin c e
    split c e u = by_both (mine c u.first) (its e u.second)
      where
        by_both : IsIn k.delegations.list c ⊎ (c ≡ child) → IsIn l.delegations.list e ⊎ (e ≡ twin) → Was k l S child twin c e
        by_both (inl i) (inl j) = inl (record { of = u.of; first = contains_from_in k.delegations.list c i; second = contains_from_in l.delegations.list e j; pd = u.pd; held = u.held })
        by_both (inr same) (inr also_same) = inr (same, also_same)
        by_both (inr same) (inl j) = inr (same, one_range m n S fourth child e twin (pair c e u same) the_pair)
        by_both (inl i) (inr same) =
            inr (
              one_range n m S third twin c child (range_flipped m n S c twin (subst (IsSameRange m n S c) same u)) (range_flipped m n S child twin the_pair),
              same,
            )

    -- and nothing is made of it
    under_child : (c : Derivation) → IsIn k.delegations.list c → is_child_of child.id c ≡ false
    under_child c i = all_at (λ (a : Derivation). is_child_of child.id a ≡ false) k.delegations.list c (subst (IsChildless k.delegations.list) (sym made.id) (next_childless k.delegations made.first)) i

    under_twin : (e : Derivation) → IsIn l.delegations.list e → is_child_of twin.id e ≡ false
    under_twin e i = all_at (λ (a : Derivation). is_child_of twin.id a ≡ false) l.delegations.list e (subst (IsChildless l.delegations.list) (sym made.twin_id) (next_childless l.delegations made.second)) i

    children : (c d e f : Derivation) → Was k l S child twin c e → Was k l S child twin d f → is_child_of f.id e ≡ is_child_of d.id c
    children c d e f (inl u) (inl v) = a.children c d e f u v
    children c d e f (inr u) (inl v) = ap (is_child_of f.id) u.1 ∙ made.parents d f v ∙ sym (ap (is_child_of d.id) u.0)
    children c d e f (inl u) (inr v) =
        ap (λ (x : Derivation). is_child_of x.id e) v.1 ∙ under_twin e (in_from_contains l.delegations.list e u.second)
        ∙ sym (ap (λ (x : Derivation). is_child_of x.id c) v.0 ∙ under_child c (in_from_contains k.delegations.list c u.first))
    children c d e f (inr u) (inr v) =
        ap₂ (λ (x y : Derivation). is_child_of y.id x) u.1 v.1 ∙ made.itself ∙ sym (ap₂ (λ (x y : Derivation). is_child_of y.id x) u.0 v.0)

    order : (c d e f : Derivation) → Was k l S child twin c e → Was k l S child twin d f → nat_lt e.id f.id ≡ nat_lt c.id d.id
    order c d e f (inl u) (inl v) = a.order c d e f u v
    order c d e f (inr u) (inl v) =
        let here = old_child d (in_from_contains k.delegations.list d v.first) in
        let there = old_twin f (in_from_contains l.delegations.list f v.second) in
        let first_false : nat_lt child.id d.id ≡ false = grind (arith, here) in
        let second_false : nat_lt twin.id f.id ≡ false = grind (arith, there) in
        ap (λ (x : Derivation). nat_lt x.id f.id) u.1 ∙ second_false ∙ sym (ap (λ (x : Derivation). nat_lt x.id d.id) u.0 ∙ first_false)
    order c d e f (inl u) (inr v) =
        let here = old_child c (in_from_contains k.delegations.list c u.first) in
        let there = old_twin e (in_from_contains l.delegations.list e u.second) in
        let first_true : nat_lt c.id child.id ≡ true = grind (arith, here) in
        let second_true : nat_lt e.id twin.id ≡ true = grind (arith, there) in
        ap (λ (x : Derivation). nat_lt e.id x.id) v.1 ∙ second_true ∙ sym (ap (λ (x : Derivation). nat_lt c.id x.id) v.0 ∙ first_true)
    order c d e f (inr u) (inr v) =
        let first_false : nat_lt child.id child.id ≡ false = grind arith in
        let second_false : nat_lt twin.id twin.id ≡ false = grind arith in
        ap₂ (λ (x y : Derivation). nat_lt x.id y.id) u.1 v.1 ∙ second_false ∙ sym (ap₂ (λ (x y : Derivation). nat_lt x.id y.id) u.0 v.0 ∙ first_false)

pub derived_joined : (k l m n : KernelState) (S : ℕ → Type 0) → IsForest k.delegations → IsForest l.delegations → IsForest m.delegations → IsForest n.delegations → (child twin : Derivation) → IsTwin child twin →
    (part : IsPart k S child) (also : IsPart l S twin) → IsTwin part.source also.source → m.delegations ≡ added k.delegations child → n.delegations ≡ added l.delegations twin → AreDerivedAlike k l S → AreDerivedAlike m n S
derived_joined k l m n S first second third fourth child twin t part also from one other a =
    derived_more k l m n S third fourth child twin (record { first = first; second = second; of = part.to; id = part.fits.id; twin_id = also.fits.id; twins = t; parents = of_child; itself = itself }) one other a
  where
    source_there : IsSameRange k l S part.source also.source
    source_there = record { of = part.of; first = contains_from_in k.delegations.list part.source part.there; second = contains_from_in l.delegations.list also.source also.there; pd = from.pd; held = from.held }

    -- it is made of the same in both
    of_child : (d f : Derivation) → IsSameRange k l S d f → is_child_of f.id twin ≡ is_child_of d.id child
    of_child d f v =
        ap (is_id f.id) also.parent
        ∙ both_so (part.source.id == d.id) (also.source.id == f.id)
        (λ h.
        let same : part.source ≡ d = same_id k.delegations.list part.source d first.rising part.there (in_from_contains k.delegations.list d v.first) (eqb-true part.source.id d.id h) in
        eq-eqb also.source.id f.id (ap (λ (x : Derivation). x.id) (one_range k l S second part.source also.source f source_there (subst (λ (x : Derivation). IsSameRange k l S x f) (sym same) v))))
        (λ h.
        let same : also.source ≡ f = same_id l.delegations.list also.source f second.rising also.there (in_from_contains l.delegations.list f v.second) (eqb-true also.source.id f.id h) in
        eq-eqb part.source.id d.id (ap (λ (x : Derivation). x.id) (one_range l k S first also.source part.source d (range_flipped k l S part.source also.source source_there)
        (subst (λ (x : Derivation). IsSameRange l k S x d) (sym same) (range_flipped k l S d f v)))))
        ∙ sym (ap (is_id d.id) part.parent)

    itself : is_child_of twin.id twin ≡ is_child_of child.id child
    itself =
        let mine_older = part.within.older in
        let its_older = also.within.older in
        ap (is_id twin.id) also.parent ∙ ne_eqb also.source.id twin.id (λ e. omega (arith, its_older, e)) ∙ sym (ap (is_id child.id) part.parent ∙ ne_eqb part.source.id child.id (λ e. omega (arith, mine_older, e)))

pub still_there : (list : List Derivation) (x d : Derivation) → IsIn list d → IsIn (list ++ x ∷ []) d
still_there [] x d i = absurd i
still_there (y ∷ list) x d (inl same) = inl same
still_there (y ∷ list) x d (inr i) = inr (still_there list x d i)

-- a turn that leaves what the side holds as it is brings it no range
pub left_gains : (k : KernelState) (S : ℕ → Type 0) (cpu : ℕ) → IsSound k → HoldAlike S k.delegations.list (after k cpu).delegations.list → GainsNone k (after k cpu) S
left_gains k S cpu sound same d there s = by_change (turn_change k cpu sound.forest)
  where
    new : Delegations
    new = (after k cpu).delegations

    by_change : Change k.delegations (after k cpu).delegations → Contains k.delegations.list d
    by_change (Stays is) = subst (λ (f : Delegations). Contains f.list d) is there
    by_change (Goes x was childless is) =
        contains_from_in k.delegations.list d (filtered_in (λ (a : Derivation). not (a.id == x.id)) k.delegations.list d (in_from_contains (without k.delegations x.id).list d (subst (λ (f : Delegations). Contains f.list d) is there))).0
    by_change (Joins x fits is) = elim (in_joined k.delegations.list x d (subst (λ (f : Delegations). IsIn f.list d) is (in_from_contains new.list d there))) [
      | inl old ↦ contains_from_in k.delegations.list d old
      | inr one ↦
          let forest = (turn_sound k cpu sound).forest in
          let t = twin_in S new.list k.delegations.list forest.apart (hold_flipped S k.delegations.list new.list same) d (in_from_contains new.list d there) s in
          let here : IsIn new.list t.twin = subst (λ (f : Delegations). IsIn f.list t.twin) (sym is) (still_there k.delegations.list x t.twin t.there) in
          let its : t.twin ≡ d =
          one_covers new.list d.kind d.pd d.base t.twin d forest.apart here (in_from_contains new.list d there)
          (record {
            kind = ap (λ (h : Held). h.range.kind) (sym t.is.held);
            pd = t.is.pd;
            place = subst (HasPlace (range_of t.twin)) (ap (λ (h : Held). h.range.base) t.is.held) (at_base t.twin).place;
          }) (at_base d) in
          subst (Contains k.delegations.list) its (contains_from_in k.delegations.list t.twin t.there)
    ]

-- ALL THAT IS MADE OF THE SIDE'S IS THE SIDE'S

-- so it stays where what joins, if it comes of the side's, is the side's
pub derives_kept : (k m : KernelState) (S : ℕ → Type 0) → IsForest k.delegations → Change k.delegations m.delegations → DerivesWithin k S →
    ((x a : Derivation) → m.delegations ≡ added k.delegations x → Contains (line m.delegations.list x) a → S a.pd → S x.pd) → DerivesWithin m S
derives_kept k m S forest change within joins d a there above s = by_change change
  where
    old : IsIn k.delegations.list d → S d.pd
    old i =
        within d a (contains_from_in k.delegations.list d i)
        (subst (λ (l : List Derivation). Contains l a) (line_kept k.delegations.list m.delegations.list (parents_kept k.delegations m.delegations forest change) (suc d.id) d i) above) s

    by_change : Change k.delegations m.delegations → S d.pd
    by_change (Stays is) = old (subst (λ (f : Delegations). IsIn f.list d) is (in_from_contains m.delegations.list d there))
    by_change (Goes x was childless is) =
        old (filtered_in (λ (b : Derivation). not (b.id == x.id)) k.delegations.list d (subst (λ (f : Delegations). IsIn f.list d) is (in_from_contains m.delegations.list d there))).0
    by_change (Joins x fits is) = elim (in_joined k.delegations.list x d (subst (λ (f : Delegations). IsIn f.list d) is (in_from_contains m.delegations.list d there))) [
      | inl i ↦ old i
      | inr one ↦ subst (λ (y : Derivation). S y.pd) (sym one) (joins x a is (subst (λ (y : Derivation). Contains (line m.delegations.list y) a) one above) s)
    ]

-- where no range joins and none goes
pub derives_same : (k m : KernelState) (S : ℕ → Type 0) → m.delegations ≡ k.delegations → DerivesWithin k S → DerivesWithin m S
derives_same k m S same within d a there above s =
    within d a (subst (λ (f : Delegations). Contains f.list d) same there) (subst (λ (f : Delegations). Contains (line f.list d) a) same above) s

pub revoking_kept : (k l m n : KernelState) (S : ℕ → Type 0) → m.delegations ≡ k.delegations → n.delegations ≡ l.delegations → AreRevokingWithin k l S → AreRevokingWithin m n S
revoking_kept k l m n S one other within = record {
  alike =
      derived_kept k l m n S (λ d there s. subst (λ (f : Delegations). Contains f.list d) one there) (λ d there s. subst (λ (f : Delegations). Contains f.list d) other there) within.alike;
  first = derives_same k m S one within.first;
  second = derives_same l n S other within.second;
}
