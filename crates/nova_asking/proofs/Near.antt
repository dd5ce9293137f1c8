-- Least turns that are passed on by one edge after another, the last first.
use Rattle.std.proofs.Common.{◌≡◌, ◌⊎◌, ◌∙◌, ℕ, zero, suc, ◌+◌, ◌<◌, ◌≤◌, List, [], ◌∷◌, ◌++◌, append_assoc, drop, length, refl, ap, sym, subst, arith, inl, inr}
use Rattle.std.specs.Prelude.{Bool, true, false, Option, Some, None, map, min, nat_le, slice_index_or, slice_set}
use Rattle.std.proofs.lemmas.List.{append-nil, length-map}
use Rattle.nova_model.specs.State.{KernelState}
use Rattle.nova_search.specs.declared.edges.Edge.{Edge}
use Rattle.nova_search.specs.Edges.{AreAhead, AreEdges, IsEdge}
use Rattle.nova_search.proofs.Links.{way_before}
use Rattle.std.proofs.lemmas.Bool.{cases_eq}
use Rattle.nova_asking.specs.Least.{AreLeast, ComesAt, is_within, least_at, nearer, passed_on, turns_if}

set_long : (l : List (Option ℕ)) (i : ℕ) (v : Option ℕ) → length (slice_set l i v) ≡ length l
set_long [] i v = refl
set_long (m ∷ l) zero v = refl
set_long (m ∷ l) (suc i) v = ap suc (set_long l i v)

set_same : (l : List (Option ℕ)) (i : ℕ) (v : Option ℕ) → i < length l → least_at (slice_set l i v) i ≡ v
set_same [] i v less = absurd (omega (arith, less))
set_same (m ∷ l) zero v less = refl
set_same (m ∷ l) (suc i) v less = set_same l i v (omega (arith, less))

set_other : (l : List (Option ℕ)) (i j : ℕ) (v : Option ℕ) → (j ≡ i → ⊥) → least_at (slice_set l i v) j ≡ least_at l j
set_other [] i j v not = refl
set_other (m ∷ l) zero zero v not = absurd (not refl)
set_other (m ∷ l) zero (suc j) v not = refl
set_other (m ∷ l) (suc i) zero v not = refl
set_other (m ∷ l) (suc i) (suc j) v not = set_other l i j v (λ is. not (ap suc is))

-- the lesser of two is at most what either is
within_left : (a b : Option ℕ) (most : ℕ) → is_within a most ≡ true → is_within (nearer a b) most ≡ true
within_left None b most is = absurd (cc)
within_left (Some n) None most is = is
within_left (Some n) (Some m) most is = grind (arith, is)

within_right : (a b : Option ℕ) (most : ℕ) → is_within b most ≡ true → is_within (nearer a b) most ≡ true
within_right None b most is = is
within_right (Some n) None most is = absurd (cc)
within_right (Some n) (Some m) most is = grind (arith, is)

-- and it is either
one_of : (a b : Option ℕ) (n : ℕ) → nearer a b ≡ Some n → (a ≡ Some n) ⊎ (b ≡ Some n)
one_of None b n is = inr is
one_of (Some m) None n is = inl is
one_of (Some m) (Some l) n is = by_test (nat_le m l) refl
  where
    number : (x y : ℕ) → Some x ≡ Some y → x ≡ y
    number x y e = cc

    by_test : (t : Bool) → nat_le m l ≡ t → (Some m ≡ Some n) ⊎ (Some l ≡ Some n)
    by_test true less = let same = number (min m l) n is in inl (ap (λ (x : ℕ). Some x) (grind (arith, less, same)))
    by_test false more = let same = number (min m l) n is in inr (ap (λ (x : ℕ). Some x) (grind (arith, more, same)))

-- one after another
noted_step : (g : KernelState → Option ℕ) (states : List KernelState) (i : ℕ) (o : Option ℕ) → i < length states → ((d : KernelState) → o ≡ g (slice_index_or states i d)) →
    o ∷ map g (drop (i + 1) states) ≡ map g (drop i states)
noted_step g [] i o less is = absurd (omega (arith, less))
noted_step g (s ∷ states) zero o less is = ap (λ (x : Option ℕ). x ∷ map g states) (is s)
noted_step g (s ∷ states) (suc i) o less is =
    ap (λ (m : ℕ). o ∷ map g (drop m (s ∷ states))) (let e : suc i + 1 ≡ suc (i + 1) = omega arith in e) ∙ noted_step g states i o (omega (arith, less)) is

pub noted_on : (g : KernelState → Option ℕ) (states : List KernelState) (i : ℕ) (least more : List (Option ℕ)) (o : Option ℕ) → least ++ map g (drop i states) ≡ map g states →
    i < length states → ((d : KernelState) → o ≡ g (slice_index_or states i d)) → more ≡ least ++ o ∷ [] → more ++ map g (drop (i + 1) states) ≡ map g states
noted_on g states i least more o so_far less is pushed =
    ap (λ (l : List (Option ℕ)). l ++ map g (drop (i + 1) states)) pushed ∙ append_assoc least (o ∷ []) (map g (drop (i + 1) states))
    ∙ ap (λ (l : List (Option ℕ)). least ++ l) (noted_step g states i o less is) ∙ so_far

none_left : (states : List KernelState) (i : ℕ) → length states ≤ i → drop i states ≡ []
none_left [] zero most = refl
none_left [] (suc i) most = refl
none_left (s ∷ states) zero most = absurd (omega (arith, most))
none_left (s ∷ states) (suc i) most = none_left states i (omega (arith, most))

pub noted_all : (g : KernelState → Option ℕ) (states : List KernelState) (i : ℕ) (least : List (Option ℕ)) → least ++ map g (drop i states) ≡ map g states → length states ≤ i →
    least ≡ map g states
noted_all g states i least so_far most = sym (append-nil least) ∙ ap (λ (l : List KernelState). least ++ map g l) (sym (none_left states i most)) ∙ so_far

-- at first
module _ (test : KernelState → Bool) where
  turns_at : (states : List KernelState) (i : ℕ) (d : KernelState) → i < length states → least_at (map (turns_if test) states) i ≡ turns_if test (slice_index_or states i d)
  turns_at [] i d less = absurd (omega (arith, less))
  turns_at (s ∷ states) zero d less = refl
  turns_at (s ∷ states) (suc i) d less = turns_at states i d (omega (arith, less))

  if_so : (s : KernelState) (b : Bool) → test s ≡ b → (n : ℕ) → turns_if test s ≡ Some n → ComesAt test s n
  if_so s true so n is = record {
    end = s;
    order = [];
    way = record { processors = tt; no_idle = tt; state = refl; turns = omega arith };
    passes = so;
    number = number s.turns n (sym (rw so refl) ∙ is);
  }
    where
      number : (x y : ℕ) → Some x ≡ Some y → x ≡ y
      number x y e = cc
  if_so s false so n is = absurd (none (sym (rw so refl) ∙ is))
    where
      none : None ≡ Some n → ⊥
      none e = absurd (cc)

  its_turns : (s : KernelState) → test s ≡ true → is_within (turns_if test s) s.turns ≡ true
  its_turns s is = rw is (grind arith)

  pub least_first : (states : List KernelState) (edges : List Edge) (first : ℕ) (least : List (Option ℕ)) → least ≡ map (turns_if test) states → length edges ≤ first →
      AreLeast test states edges first least
  least_first states edges first least same all = record {
    long = ap length same ∙ length-map states (turns_if test);
    come = λ i turns d less is. let s = slice_index_or states i d in if_so s (test s) refl turns (sym (at i d less) ∙ is);
    here = λ i d less is. let s = slice_index_or states i d in subst (λ (o : Option ℕ). is_within o s.turns ≡ true) (sym (at i d less)) (its_turns s is);
    closed = λ i most d from less is. absurd (omega (arith, from, less, all));
  }
    where
      at : (i : ℕ) (d : KernelState) → i < length states → least_at least i ≡ turns_if test (slice_index_or states i d)
      at i d less = ap (λ (l : List (Option ℕ)). least_at l i) same ∙ turns_at states i d less

  -- from a state that leads to one from which it comes
  comes_before : (states : List KernelState) (e : Edge) (d : KernelState) (n : ℕ) → IsEdge states e → ComesAt test (slice_index_or states e.to d) n →
      ComesAt test (slice_index_or states e.from d) n
  comes_before states e d n is comes = record {
    end = comes.end;
    order = is.cpu ∷ comes.order;
    way = way_before (slice_index_or states e.from d) (slice_index_or states e.to d) comes.end is.cpu comes.order (is.processor d) (is.next d) comes.way;
    passes = comes.passes;
    number = comes.number;
  }

  module _ (states : List KernelState) (edges : List Edge) (place : ℕ) (least : List (Option ℕ)) (e : Edge) (are : AreEdges states edges) (ahead : AreAhead edges)
      (so_far : AreLeast test states edges (place + 1) least) (less : place < length edges) (is : (d : Edge) → slice_index_or edges place d ≡ e) where
    its : IsEdge states e
    its = subst (λ (x : Edge). IsEdge states x) (is e) (are.each place e less)

    long : e.from < length least
    long = let from = its.from in let same = so_far.long in omega (arith, from, same)

    abbrev passed_least : List (Option ℕ)
    passed_least = passed_on least e

    from_here : least_at passed_least e.from ≡ nearer (least_at least e.from) (least_at least e.to)
    from_here = set_same least e.from (nearer (least_at least e.from) (least_at least e.to)) long

    others : (i : ℕ) → (i ≡ e.from → ⊥) → least_at passed_least i ≡ least_at least i
    others i not = set_other least e.from i (nearer (least_at least e.from) (least_at least e.to)) not

    here_or_behind : (i : ℕ) → place ≤ i → (i ≡ place) ⊎ (place + 1 ≤ i)
    here_or_behind i from = by_case (cases_eq i place)
      where
        by_case : (i ≡ place) ⊎ (i ≡ place → ⊥) → (i ≡ place) ⊎ (place + 1 ≤ i)
        by_case (inl same) = inl same
        by_case (inr not) = inr (grind (arith, from, not))

    -- nothing gets more
    kept : (i most : ℕ) → is_within (least_at least i) most ≡ true → is_within (least_at passed_least i) most ≡ true
    kept i most within = by_case (cases_eq i e.from)
      where
        by_case : (i ≡ e.from) ⊎ (i ≡ e.from → ⊥) → is_within (least_at passed_least i) most ≡ true
        by_case (inl same) =
            subst (λ (n : ℕ). is_within (least_at passed_least n) most ≡ true) (sym same)
            (subst (λ (o : Option ℕ). is_within o most ≡ true) (sym from_here)
            (within_left (least_at least e.from) (least_at least e.to) most (subst (λ (n : ℕ). is_within (least_at least n) most ≡ true) same within)))
        by_case (inr not) = subst (λ (o : Option ℕ). is_within o most ≡ true) (sym (others i not)) within

    come : (i turns : ℕ) (d : KernelState) → i < length states → least_at passed_least i ≡ Some turns → ComesAt test (slice_index_or states i d) turns
    come i turns d few noted = by_case (cases_eq i e.from)
      where
        by_either : i ≡ e.from → (least_at least e.from ≡ Some turns) ⊎ (least_at least e.to ≡ Some turns) → ComesAt test (slice_index_or states i d) turns
        by_either same (inl old) = so_far.come i turns d few (ap (λ (n : ℕ). least_at least n) same ∙ old)
        by_either same (inr next) =
            subst (λ (n : ℕ). ComesAt test (slice_index_or states n d) turns) (sym same) (comes_before states e d turns its (so_far.come e.to turns d its.to next))

        by_case : (i ≡ e.from) ⊎ (i ≡ e.from → ⊥) → ComesAt test (slice_index_or states i d) turns
        by_case (inl same) =
            by_either same (one_of (least_at least e.from) (least_at least e.to) turns (sym from_here ∙ ap (λ (n : ℕ). least_at passed_least n) (sym same) ∙ noted))
        by_case (inr not) = so_far.come i turns d few (sym (others i not) ∙ noted)

    closed_by : (i most : ℕ) (d : Edge) → i < length edges → (i ≡ place) ⊎ (place + 1 ≤ i) → is_within (least_at passed_least (slice_index_or edges i d).to) most ≡ true →
        is_within (least_at passed_least (slice_index_or edges i d).from) most ≡ true
    closed_by i most d few (inl same) within =
        let x = ap (λ (n : ℕ). slice_index_or edges n d) same ∙ is d in
        let later = ahead.each i d few in
        let its_from = ap (λ (y : Edge). y.from) x in
        let its_to = ap (λ (y : Edge). y.to) x in
        subst (λ (y : Edge). is_within (least_at passed_least y.from) most ≡ true) (sym x)
        (subst (λ (o : Option ℕ). is_within o most ≡ true) (sym from_here)
        (within_right (least_at least e.from) (least_at least e.to) most
        (subst (λ (o : Option ℕ). is_within o most ≡ true) (others e.to (λ back. absurd (omega (arith, later, its_from, its_to, back))))
        (subst (λ (y : Edge). is_within (least_at passed_least y.to) most ≡ true) x within))))
    closed_by i most d few (inr behind) within =
        let rising = are.rising place i d (omega (arith, behind)) few in
        let its_from = ap (λ (y : Edge). y.from) (is d) in
        let later = ahead.each i d few in
        kept (slice_index_or edges i d).from most
        (so_far.closed i most d behind few
        (subst (λ (o : Option ℕ). is_within o most ≡ true) (others (slice_index_or edges i d).to (λ back. absurd (omega (arith, rising, its_from, later, back)))) within))

    passed : AreLeast test states edges place passed_least
    passed = record {
      long = set_long least e.from (nearer (least_at least e.from) (least_at least e.to)) ∙ so_far.long;
      come = come;
      here = λ i d few so. kept i (slice_index_or states i d).turns (so_far.here i d few so);
      closed = λ i most d from few within. closed_by i most d few (here_or_behind i from) within;
    }

  pub passed_by : (states : List KernelState) (edges : List Edge) (place : ℕ) (least new : List (Option ℕ)) (e : Edge) → AreEdges states edges → AreAhead edges →
      AreLeast test states edges (place + 1) least → place < length edges → new ≡ passed_on least e → ((d : Edge) → slice_index_or edges place d ≡ e) → AreLeast test states edges place new
  passed_by states edges place least new e are ahead so_far less same is =
      subst (λ (l : List (Option ℕ)). AreLeast test states edges place l) (sym same) (passed states edges place least e are ahead so_far less is)

  pub all_passed : (states : List KernelState) (edges : List Edge) (first : ℕ) (least : List (Option ℕ)) → AreLeast test states edges first least → first ≡ 0 →
      AreLeast test states edges 0 least
  all_passed states edges first least are none = subst (λ (n : ℕ). AreLeast test states edges n least) none are
