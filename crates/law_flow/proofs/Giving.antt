-- A part that one of a side gives to the side is given to the side's part alike, in two states in which that is the same.
use Rattle.std.proofs.Common.{arith, ◌≡◌, ℕ, ◌+◌, ◌-◌, ◌^◌, ◌==◌, List, [], ◌∷◌, ◌++◌, refl, sym, ap, ap₂, ◌∙◌, subst, inl, inr}
use Rattle.std.specs.Prelude.{Bool, true, false, ◌&&◌, ◌⊎◌, option_map, Option, Some, None, if◌then◌else◌}
use Rattle.std.specs.List.{find}
use Rattle.std.proofs.lemmas.Option.{same_Some}
use Rattle.nova_guest.specs.declared.page.Page.{Page}
use Rattle.nova_range.specs.declared.range.Kind.{Kind}
use Rattle.nova_range.specs.declared.range.Kind.TheVariants.{Mem, Obj}
use Rattle.nova_model.specs.Delegations.{covers, has_place, is_same_kind, page_in, reach}
use Rattle.nova_model.specs.Forest.{IsAligned, IsAlignedFor, IsForest}
use Rattle.nova_model.specs.State.{KernelState}
use Rattle.nova_model.specs.declared.deed.Deed.TheVariants as deeds
use Rattle.nova_model.specs.declared.delegation.Derivation.{Derivation}
use Rattle.law_forest.specs.Turns.{turned}
use Rattle.law_forest.proofs.Members.{IsIn, all_at, contains_from_in, in_from_contains}
use Rattle.law_flow.specs.Flow.{AreAlike, Held, IsSide, held_by, origin_at, origin_of}
use Rattle.law_flow.proofs.Doing.{Seen, by_deed, frames_same, paid_same, transfers_alike}
use Rattle.law_flow.proofs.Holds.{Covering, IsTwin, covering, found_one, at_base}
use Rattle.law_flow.proofs.Origins.{or_else, origins_joined}
use Rattle.law_flow.proofs.Parts.{IsPart}
use Rattle.law_flow.proofs.Seeing.{Both}

-- ONE MORE RANGE

pub find_joined : (p : Derivation → Bool) (list : List Derivation) (x : Derivation) → find p (list ++ x ∷ []) ≡ or_else (find p list) (p x) x
find_joined p [] x = by_test (p x)
  where
    by_test : (t : Bool) → (if t then Some x else None) ≡ or_else None t x
    by_test true = refl
    by_test false = refl
find_joined p (y ∷ list) x = by_test (p y) (find_joined p list x)
  where
    by_test : (t : Bool) → find p (list ++ x ∷ []) ≡ or_else (find p list) (p x) x → (if t then Some y else find p (list ++ x ∷ [])) ≡ or_else (if t then Some y else find p list) (p x) x
    by_test true rest = refl
    by_test false rest = rest

pub in_joined : (list : List Derivation) (x d : Derivation) → IsIn (list ++ x ∷ []) d → IsIn list d ⊎ (d ≡ x)
in_joined [] x d (inl same) = inr (sym same)
in_joined [] x d (inr none) = absurd none
in_joined (y ∷ list) x d (inl same) = inl (inl same)
in_joined (y ∷ list) x d (inr i) = elim (in_joined list x d i) [
  | inl j ↦ inl (inr j)
  | inr same ↦ inr same
]

-- WHAT IS HELD

abbrev held_or : Option Held → Bool → Held → Option Held
held_or (Some g) t h = Some g
held_or None true h = Some h
held_or None false h = None

held_joined : (o : Option Derivation) (t : Bool) (x : Derivation) → ◌≡◌ {A = Option Held} (option_map held_by (or_else o t x)) (held_or (option_map held_by o) t (held_by x))
held_joined (Some d) t x = refl
held_joined None true x = refl
held_joined None false x = refl

pub twin_covers : (kind : Kind) (pd place : ℕ) (d e : Derivation) → IsTwin d e → covers kind pd place e ≡ covers kind pd place d
twin_covers kind pd place d e t = ap₂ (λ (n : ℕ) (h : Held). is_same_kind kind h.range.kind && (n == pd && has_place h.range place)) t.pd t.held

pub spaces_joined : (kind : Kind) (pd place : ℕ) (xs ys : List Derivation) (d e : Derivation) → IsTwin d e →
    ◌≡◌ {A = Option Held} (option_map held_by (find (covers kind pd place) ys)) (option_map held_by (find (covers kind pd place) xs)) →
    ◌≡◌ {A = Option Held} (option_map held_by (find (covers kind pd place) (ys ++ e ∷ []))) (option_map held_by (find (covers kind pd place) (xs ++ d ∷ [])))
spaces_joined kind pd place xs ys d e t same =
    ap (option_map held_by) (find_joined (covers kind pd place) ys e) ∙ held_joined (find (covers kind pd place) ys) (covers kind pd place e) e
    ∙ ap₂ (λ (o : Option Held) (h : Held). held_or o (covers kind pd place e) h) same t.held
    ∙ ap (λ (b : Bool). held_or (option_map held_by (find (covers kind pd place) xs)) b (held_by d)) (twin_covers kind pd place d e t)
    ∙ sym (ap (option_map held_by) (find_joined (covers kind pd place) xs d) ∙ held_joined (find (covers kind pd place) xs) (covers kind pd place d) d)

-- WHERE PAGES LEAD

-- a page of the child leads where one of its source does
pub child_leads : (k : KernelState) (S : ℕ → Type 0) (child : Derivation) → IsForest k.delegations → IsPart k S child → (pd page : ℕ) → Covering Mem pd page child → Seen k S (page_in page child).frame
child_leads k S child forest part pd page c =
    let q : Derivation = part.source in
    let from : ℕ = q.base + (child.target + (page - child.base) - q.target) in
    let first = part.within.first in
    let last = part.within.last in
    let low = c.place.from_base in
    let high = c.place.before_end in
    let is : Covering Mem q.pd from q = record {
      kind = c.kind ∙ part.within.kind;
      pd = refl;
      place = record { from_base = omega arith; before_end = omega (arith, first, last, low, high) };
    } in
    record {
      pd = q.pd;
      page = from;
      to = page_in from q;
      of = part.of;
      leads = ap (option_map (page_in from)) (found_one k.delegations.list Mem q.pd from q forest.apart part.there is);
      its = omega (arith, first, low);
    }

pub part_leads : (k : KernelState) (S : ℕ → Type 0) (child : Derivation) → IsForest k.delegations → IsPart k S child → (pd page : ℕ) (to : Page) → S pd →
    reach (k.delegations.list ++ child ∷ []) pd page ≡ Some to → Seen k S to.frame
part_leads k S child forest part pd page to s leads =
    by_found (find (covers Mem pd page) k.delegations.list) refl (covers Mem pd page child) refl (sym (ap (option_map (page_in page)) (find_joined (covers Mem pd page) k.delegations.list child)) ∙ leads)
  where
    by_found : (o : Option Derivation) → find (covers Mem pd page) k.delegations.list ≡ o → (t : Bool) → covers Mem pd page child ≡ t → option_map (page_in page) (or_else o t child) ≡ Some to → Seen k S to.frame
    by_found (Some d) at t is h = record { pd = pd; page = page; to = to; of = s; leads = ap (option_map (page_in page)) at ∙ h; its = refl }
    by_found None at true is h =
        subst (λ (p : Page). Seen k S p.frame) (same_Some (page_in page child) to h) (child_leads k S child forest part pd page (covering Mem pd page child is))
    by_found None at false is h = absurd (cc)

-- what is there comes of the same as its twin
sources_come : (k l : KernelState) (S P : ℕ → Type 0) → Both k l S P → IsForest k.delegations → IsForest l.delegations → (d e : Derivation) (from : ℕ) → IsIn k.delegations.list d → IsIn l.delegations.list e → S d.pd →
    IsTwin d e → S from → origin_of l.delegations.list from (Some e) ≡ origin_of k.delegations.list from (Some d)
sources_come k l S P b forest further d e from there here s t theirs =
    sym (ap (origin_of l.delegations.list from) (found_one l.delegations.list e.kind e.pd e.base e further.apart here (at_base e)))
    ∙ ap₂ (λ (h : Held) (n : ℕ). origin_at l h.range.kind n h.range.base from) t.held t.pd
    ∙ b.alike.origins d.kind d.pd d.base from s theirs
    ∙ ap (origin_of k.delegations.list from) (found_one k.delegations.list d.kind d.pd d.base d forest.apart there (at_base d))

-- A TURN

pub part_alike : (k l : KernelState) (S P : ℕ → Type 0) → Both k l S P → IsForest k.delegations → IsForest l.delegations → (cpu other ec sc : ℕ) (child twin : Derivation) (cursor : ℕ) → IsTwin child twin →
    (part : IsPart k S child) (also : IsPart l S twin) → IsTwin part.source also.source → (stirs others : ℕ → Bool) → AreAlike (turned k cpu (by_deed k ec sc (deeds.Gives child cursor) stirs)) (turned l other (by_deed l ec sc (deeds.Gives twin cursor) others)) S P
part_alike k l S P b forest further cpu other ec sc child twin cursor t part also sources stirs others = record {
  objects = b.alike.objects;
  fronts = b.alike.fronts;
  contexts = b.alike.contexts;
  messages = b.alike.messages;
  transfers = λ n q its. transfers_alike k l S P b ec (deeds.Gives child cursor) n (q, its);
  identifiers = b.alike.identifiers;
  semaphores = b.alike.semaphores;
  ticks = paid_same P k.budgets l.budgets sc _ _ _ _ b.alike.ticks;
  deadlines = b.alike.deadlines;
  spaces = λ kind pd place its. spaces_joined kind pd place k.delegations.list l.delegations.list child twin t (b.alike.spaces kind pd place its);
  origins = λ kind pd place from its theirs.
      ap (origin_of (l.delegations.list ++ twin ∷ []) from) (find_joined (covers kind pd place) l.delegations.list twin)
      ∙ origins_joined k l S child twin forest further part also kind pd place from (b.alike.spaces kind pd place its) (b.alike.origins kind pd place from its theirs) (twin_covers kind pd place child twin t) t.pd t.held
      (sources_come k l S P b forest further part.source also.source from part.there also.there part.of sources theirs)
      ∙ sym (ap (origin_of (k.delegations.list ++ child ∷ []) from) (find_joined (covers kind pd place) k.delegations.list child));
  frames = λ pd page to its leads. frames_same k l S P b to.frame (part_leads k S child forest part pd page to its leads);
  size = b.alike.size;
}

-- a child of an object leads where its source does
object_same : (k : KernelState) (S : ℕ → Type 0) (child : Derivation) → IsForest k.delegations → (part : IsPart k S child) → child.kind ≡ Obj → part.source.target ≡ child.target
object_same k S child forest part kind =
    let q : Derivation = part.source in
    let mine : child.order ≡ 0 = subst (λ (n : Kind). IsAlignedFor n child) kind part.fits.aligned.target in
    let its : q.order ≡ 0 = subst (λ (n : Kind). IsAlignedFor n q) (sym part.within.kind ∙ kind) (all_at IsAligned k.delegations.list q forest.aligned part.there).target in
    let small : 2 ^ child.order ≡ 1 = ap (λ (n : ℕ). 2 ^ n) mine in
    let one : 2 ^ q.order ≡ 1 = ap (λ (n : ℕ). 2 ^ n) its in
    let first = part.within.first in
    let last = part.within.last in
    omega (arith, small, one, first, last)

pub part_side : (k : KernelState) (S P : ℕ → Type 0) → IsSide k S P → IsForest k.delegations → (cpu ec sc : ℕ) (child : Derivation) (cursor : ℕ) → IsPart k S child → (stirs : ℕ → Bool) →
    IsSide (turned k cpu (by_deed k ec sc (deeds.Gives child cursor) stirs)) S P
part_side k S P side forest cpu ec sc child cursor part stirs = record {
  holds = λ e there s kind. elim (in_joined k.delegations.list child e (in_from_contains (k.delegations.list ++ child ∷ []) e there)) [
    | inl old ↦ side.holds e (contains_from_in k.delegations.list e old) s kind
    | inr same ↦
        let is : child.kind ≡ Obj = ap (λ (d : Derivation). d.kind) (sym same) ∙ kind in
        subst P (object_same k S child forest part is ∙ ap (λ (d : Derivation). d.target) (sym same))
        (side.holds part.source (contains_from_in k.delegations.list part.source part.there) part.of (sym part.within.kind ∙ is))
  ];
  handlers = side.handlers;
  edges = side.edges;
  callers = side.callers;
  queues = side.queues;
  blocked = side.blocked;
  members = side.members;
}
