-- Chases and circles as ways.
use Rattle.std.proofs.Common.{◌≡◌, ℕ, zero, suc, ◌<◌, ◌≤◌, [], ◌∷◌, length, ap, sym, ◌∙◌, subst, refl, arith, IsSome}
use Rattle.std.specs.Prelude.{Bool, true, false, eqb, Option, Some, None, IfSome, option_and_then}
use Rattle.std.specs.List.{find, list_any}
use Rattle.nova_model.specs.State.{Contexts, ec_in}
use Rattle.nova_model.specs.Edges.{IsNewEdge, edge, met_within, met, circle, stays, or_itself, after_edges, AreEdges}
use Rattle.nova_model.specs.declared.context.EcState.{EcState}
use Rattle.nova_ec.specs.Ways.{IsChase, EndsAt, ChasesEnd, CirclesAreWays}
use Rattle.nova_ec.proofs.Walks.{met_within_all, met_few}
use Rattle.nova_ec.proofs.Tables.{edge_there, edge_below, chase_ends, there_below}

-- what a search along edges finds
record Found (p : ℕ → Bool) (g : ℕ → Option ℕ) (e f : ℕ) : Type 0 where
  edges : ℕ
  way : after_edges edges g e ≡ Some f
  last : p f ≡ true
  first : (i : ℕ) → i < edges → IfSome (after_edges i g e) (λ x. p x ≡ false)

found_later : (p : ℕ → Bool) (g : ℕ → Option ℕ) (e z f : ℕ) → g e ≡ Some z → p e ≡ false → Found p g z f → Found p g e f
found_later p g e z f is not_here found = record {
  edges = suc found.edges;
  way = ap (option_and_then (after_edges found.edges g)) is ∙ found.way;
  last = found.last;
  first = λ i below. by_place i below;
}
  where
    by_place : (i : ℕ) → i < suc found.edges → IfSome (after_edges i g e) (λ x. p x ≡ false)
    by_place zero below = not_here
    by_place (suc i) below = subst (λ (o : Option ℕ). IfSome (option_and_then (after_edges i g) o) (λ x. p x ≡ false)) (sym is) (found.first i (omega (arith, below)))

found_along : (n : ℕ) (p : ℕ → Bool) (g : ℕ → Option ℕ) (e f : ℕ) → find p (met_within n g (Some e)) ≡ Some f → Found p g e f
found_along zero p g e f h = absurd cc
found_along (suc n) p g e f h = by_test (p e) refl (g e) refl (λ z there. found_along n p g z f there)
  where
    by_test : (t : Bool) → p e ≡ t → (o : Option ℕ) → g e ≡ o → ((z : ℕ) → find p (met_within n g (Some z)) ≡ Some f → Found p g z f) → Found p g e f
    by_test true is o edge go =
        let same : e ≡ f = (let all : Some e ≡ Some f = grind (arith, is, h) in cc) in
        record { edges = 0; way = ap Some same; last = ap p (sym same) ∙ is; first = λ i below. absurd (omega (arith, below)) }
    by_test false is None edge go = absurd (nothing n (let there : find p (met_within n g None) ≡ Some f = grind (arith, is, h, edge) in there))
      where
        nothing : (m : ℕ) → find p (met_within m g None) ≡ Some f → ⊥
        nothing zero k = cc
        nothing (suc m) k = cc
    by_test false is (Some z) edge go = found_later p g e z f edge is (go z (grind (arith, is, h, edge)))

pub chases_end : ChasesEnd
chases_end cs e sound = by_found (find (stays cs) (met cs e)) refl
  where
    by_found : (o : Option ℕ) → find (stays cs) (met cs e) ≡ o → EndsAt cs e (or_itself e o)
    by_found None is = at_once cs (chase_ends cs e sound is)
      where
        at_once : (ds : Contexts) → length ds ≡ 0 → EndsAt ds e e
        at_once [] none = record { edges = 0; way = refl; last = refl; first = λ i below. absurd (omega (arith, below)) }
        at_once (d ∷ ds) none = absurd (omega (arith, none))
    by_found (Some f) is =
        let found = found_along (length cs) (stays cs) (edge cs) e f is in
        record { edges = found.edges; way = found.way; last = found.last; first = found.first }

-- a context that is met is met after some edges
met_way : (n : ℕ) (g : ℕ → Option ℕ) (e f : ℕ) → list_any (eqb f) (met_within n g (Some e)) ≡ true → (k : ℕ) × (after_edges k g e ≡ Some f)
met_way zero g e f h = absurd cc
met_way (suc n) g e f h = by_place (eqb f e) refl (g e) refl (λ z there. met_way n g z f there)
  where
    by_place : (t : Bool) → eqb f e ≡ t → (o : Option ℕ) → g e ≡ o → ((z : ℕ) → list_any (eqb f) (met_within n g (Some z)) ≡ true → (k : ℕ) × (after_edges k g z ≡ Some f)) →
        (k : ℕ) × (after_edges k g e ≡ Some f)
    by_place true same o edge go = (0, ap Some (let s : e ≡ f = grind (arith, same) in s))
    by_place false same None edge go = absurd (nothing n (let there : list_any (eqb f) (met_within n g None) ≡ true = grind (arith, same, h, edge) in there))
      where
        nothing : (m : ℕ) → list_any (eqb f) (met_within m g None) ≡ true → ⊥
        nothing zero k = cc
        nothing (suc m) k = cc
    by_place false same (Some z) edge go =
        let rest = go z (grind (arith, same, h, edge)) in (suc rest.0, ap (option_and_then (after_edges rest.0 g)) edge ∙ rest.1)

pub circles_are_ways : CirclesAreWays
circles_are_ways cs h e sound there = (λ met. met_way (length cs) (edge cs) h e met, λ way. met_within_all (length cs) (edge cs) h e way.0 sound.no_circle (edge_below cs sound) (below (ec_in cs h) refl there) way.1)
  where
    below : (o : Option _) → ec_in cs h ≡ o → IsSome o → h < length cs
    below None is some = absurd cc
    below (Some x) is some = there_below cs h x is

-- a chase by its steps

pub found_more : (n : ℕ) (g : ℕ → Option ℕ) (o : Option ℕ) (p : ℕ → Bool) (f : ℕ) → find p (met_within n g o) ≡ Some f → find p (met_within (suc n) g o) ≡ Some f
found_more zero g o p f h = absurd cc
found_more (suc n) g None p f h = absurd cc
found_more (suc n) g (Some e) p f h = by_test (p e) refl (λ there. found_more n g (g e) p f there)
  where
    by_test : (t : Bool) → p e ≡ t → (find p (met_within n g (g e)) ≡ Some f → find p (met_within (suc n) g (g e)) ≡ Some f) → find p (met_within (suc (suc n)) g (Some e)) ≡ Some f
    by_test true is go = grind (arith, is, h)
    by_test false is go = grind (arith, is, go, h)

goes_on_in : (cs : Contexts) (n e h : ℕ) (o : Option ℕ) → length cs ≡ suc n → find (stays cs) (met cs e) ≡ o → IsSome o → stays cs e ≡ false → edge cs e ≡ Some h →
    find (stays cs) (met cs e) ≡ find (stays cs) (met cs h)
goes_on_in cs n e h None len is there not_here leads = absurd cc
goes_on_in cs n e h (Some f) len is there not_here leads =
    let opens : met cs e ≡ e ∷ met_within n (edge cs) (Some h) =
    ap (λ (m : ℕ). met_within m (edge cs) (Some e)) len ∙ ap (λ (o : Option ℕ). e ∷ met_within n (edge cs) o) leads in
    let later : find (stays cs) (met_within n (edge cs) (Some h)) ≡ Some f = grind (arith, opens, is, not_here) in
    is ∙ sym (ap (λ (m : ℕ). find (stays cs) (met_within m (edge cs) (Some h))) len ∙ found_more n (edge cs) (Some h) (stays cs) f later)

chase_none : (cs : Contexts) (e : ℕ) → AreEdges cs → (n : ℕ) → length cs ≡ suc n → IsSome (find (stays cs) (met cs e))
chase_none cs e sound n len = by_found (find (stays cs) (met cs e)) refl
  where
    by_found : (o : Option ℕ) → find (stays cs) (met cs e) ≡ o → IsSome o
    by_found None is = absurd (let zero_long = chase_ends cs e sound is in omega (arith, zero_long, len))
    by_found (Some f) is = refl

pub chases_go_on : (cs : Contexts) (e : ℕ) → AreEdges cs → IsChase cs e
chases_go_on cs e sound = by_length (length cs) refl
  where
    by_length : (m : ℕ) → length cs ≡ m → IsChase cs e
    by_length zero len = record {
      ends = λ here. ap (λ (m : ℕ). or_itself e (find (stays cs) (met_within m (edge cs) (Some e)))) len;
      goes_on = λ h not_here leads. absurd (let from = edge_there cs e h leads in let below = there_below cs e from.0 from.1 in omega (arith, below, len));
    }
    by_length (suc n) len = record {
      ends = λ here. ap (λ (m : ℕ). or_itself e (find (stays cs) (met_within m (edge cs) (Some e)))) len ∙ grind (arith, here);
      goes_on = λ h not_here leads.
          let same = goes_on_in cs n e h (find (stays cs) (met cs e)) len refl (chase_none cs e sound n len) not_here leads in
          let there = chase_none cs h sound n len in
          ap (or_itself e) same ∙ itself_or (find (stays cs) (met cs h)) h there;
    }
      where
        itself_or : (o : Option ℕ) (h : ℕ) → IsSome o → or_itself e o ≡ or_itself h o
        itself_or None h there = absurd cc
        itself_or (Some f) h there = refl

-- the way that is left grows shorter

met_fits : (m : ℕ) (g : ℕ → Option ℕ) (o : Option ℕ) → length (met_within (suc m) g o) ≤ m → length (met_within m g o) ≡ length (met_within (suc m) g o)
met_fits zero g None few = refl
met_fits zero g (Some e) few = absurd (omega arith)
met_fits (suc m) g None few = refl
met_fits (suc m) g (Some e) few = omega (arith, met_fits m g (g e))

pub met_shorter : (cs : Contexts) (e h : ℕ) → AreEdges cs → edge cs e ≡ Some h → length (met cs h) < length (met cs e)
met_shorter cs e h sound leads = by_length (length cs) refl
  where
    from : (x : EcState) × (ec_in cs e ≡ Some x)
    from = edge_there cs e h leads

    by_length : (m : ℕ) → length cs ≡ m → length (met cs h) < length (met cs e)
    by_length zero len = absurd (let below = there_below cs e from.0 from.1 in omega (arith, below, len))
    by_length (suc m) len =
        let few : length (met_within (suc (suc m)) (edge cs) (Some e)) ≤ length cs =
        met_few (suc (suc m)) (length cs) (edge cs) e sound.no_circle (edge_below cs sound) (there_below cs e from.0 from.1) in
        let opens : length (met_within (suc m) (edge cs) (edge cs e)) ≡ length (met_within (suc m) (edge cs) (Some h)) = ap (λ (o : Option ℕ). length (met_within (suc m) (edge cs) o)) leads in
        let fits = met_fits m (edge cs) (Some h) (omega (arith, few, opens, len)) in
        let here : length (met cs e) ≡ suc (length (met_within m (edge cs) (Some h))) =
        ap (λ (n : ℕ). length (met_within n (edge cs) (Some e))) len ∙ ap (λ (o : Option ℕ). suc (length (met_within m (edge cs) o))) leads in
        let next : length (met cs h) ≡ length (met_within (suc m) (edge cs) (Some h)) = ap (λ (n : ℕ). length (met_within n (edge cs) (Some h))) len in
        omega (arith, fits, here, next)

-- an edge that is there may stay
pub kept_edge_may : (cs : Contexts) (e h : ℕ) → AreEdges cs → edge cs e ≡ Some h → IsNewEdge cs e h
kept_edge_may cs e h sound leads = record { one_processor = sound.one_processor e h leads; no_circle = by_test (circle cs h e) refl }
  where
    by_test : (t : Bool) → circle cs h e ≡ t → t ≡ false
    by_test false is = refl
    by_test true is =
        let way = met_way (length cs) (edge cs) h e is in
        absurd (sound.no_circle e way.0 (ap (option_and_then (after_edges way.0 (edge cs))) leads ∙ way.1))
