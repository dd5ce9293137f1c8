-- Edges of a table of execution contexts stay sound where a context changes and where one joins.
use Rattle.std.proofs.Common.{◌≡◌, ℕ, zero, suc, ◌+◌, ◌<◌, [], ◌∷◌, ◌++◌, length, ap, sym, ◌∙◌, subst, refl, arith, IsSome, ◌-◌, inl, inr}
use Rattle.std.specs.Prelude.{Bool, true, false, ◌==◌, ◌≢◌, ◌⊎◌, Option, Some, None, slice_index_or, slice_set, option_map, option_and_then}
use Rattle.std.specs.List.{find}
use Rattle.nova_model.specs.State.{Contexts, ec_in, context_in, ec_of}
use Rattle.nova_model.specs.Edges.{cpu_in, edge_of, edge, met_within, met, circle, stays, after_edges, AreEdges, MayWait}
use Rattle.nova_model.specs.declared.context.EcState.{EcState}
use Rattle.nova_ec.specs.Tables.{MayBecome, IsNumbered, AreNumbered}
use Rattle.nova_ec.proofs.Walks.{AreButFor, open_with_edge, open_without_edge, open_same, met_few, met_within_all, met_to_end}

-- look-ups

pub ec_in-set_same : (cs : Contexts) (e : ℕ) (x y : EcState) → ec_in cs e ≡ Some x → ec_in (slice_set cs e (Some y)) e ≡ Some y
ec_in-set_same [] e x y h = absurd cc
ec_in-set_same (c ∷ cs) zero x y h = refl
ec_in-set_same (c ∷ cs) (suc e) x y h = ec_in-set_same cs e x y h

pub ec_in-set_other : (cs : Contexts) (e f : ℕ) (o : Option EcState) → f ≢ e → ec_in (slice_set cs e o) f ≡ ec_in cs f
ec_in-set_other [] e f o h = refl
ec_in-set_other (c ∷ cs) zero zero o h = absurd (h refl)
ec_in-set_other (c ∷ cs) zero (suc f) o h = refl
ec_in-set_other (c ∷ cs) (suc e) zero o h = refl
ec_in-set_other (c ∷ cs) (suc e) (suc f) o h = ec_in-set_other cs e f o (λ same. h (ap suc same))

pub there_below : (cs : Contexts) (e : ℕ) (x : EcState) → ec_in cs e ≡ Some x → e < length cs
there_below [] e x h = absurd cc
there_below (c ∷ cs) zero x h = omega arith
there_below (c ∷ cs) (suc e) x h = omega (arith, there_below cs e x h)

-- a context that has a processor is there
pub there_by_cpu : (cs : Contexts) (e cpu : ℕ) → cpu_in cs e ≡ Some cpu → (x : EcState) × (ec_in cs e ≡ Some x)
there_by_cpu cs e cpu h = by_place (ec_in cs e) refl h
  where
    by_place : (o : Option EcState) → ec_in cs e ≡ o → option_map (λ (x : EcState). x.cpu) o ≡ Some cpu → (x : EcState) × (ec_in cs e ≡ Some x)
    by_place None is k = absurd cc
    by_place (Some x) is k = (x, is)

cpu_below : (cs : Contexts) (e cpu : ℕ) → cpu_in cs e ≡ Some cpu → e < length cs
cpu_below cs e cpu h = let is = there_by_cpu cs e cpu h in there_below cs e is.0 is.1

-- an edge leaves a context that is there
pub edge_there : (cs : Contexts) (e h : ℕ) → edge cs e ≡ Some h → (x : EcState) × (ec_in cs e ≡ Some x)
edge_there cs e h edges = by_place (ec_in cs e) refl edges
  where
    by_place : (o : Option EcState) → ec_in cs e ≡ o → option_and_then edge_of (option_map (λ (x : EcState). x.state) o) ≡ Some h → (x : EcState) × (ec_in cs e ≡ Some x)
    by_place None is k = absurd cc
    by_place (Some x) is k = (x, is)

cpu_of_there : (cs : Contexts) (e : ℕ) (x : EcState) → ec_in cs e ≡ Some x → cpu_in cs e ≡ Some x.cpu
cpu_of_there cs e x is = ap (option_map (λ (y : EcState). y.cpu)) is

-- and leads to a context that is there
pub edge_below : (cs : Contexts) → AreEdges cs → (e h : ℕ) → edge cs e ≡ Some h → h < length cs
edge_below cs sound e h is =
    let from = edge_there cs e h is in cpu_below cs h from.0.cpu (sound.one_processor e h is ∙ cpu_of_there cs e from.0 from.1)

-- what no circle says
pub no_way : (cs : Contexts) → AreEdges cs → (e h : ℕ) → h < length cs → circle cs h e ≡ false → (k : ℕ) → after_edges k (edge cs) h ≢ Some e
no_way cs sound e h below none k way =
    let there : circle cs h e ≡ true = met_within_all (length cs) (edge cs) h e k sound.no_circle (edge_below cs sound) below way in absurd cc

-- one changes

pub edge-set_other : (cs : Contexts) (e : ℕ) (y : EcState) → AreButFor e (edge cs) (edge (slice_set cs e (Some y)))
edge-set_other cs e y f other = ap (λ (o : Option EcState). option_and_then edge_of (option_map (λ (z : EcState). z.state) o)) (ec_in-set_other cs e f (Some y) other)

pub edge-set_same : (cs : Contexts) (e : ℕ) (x y : EcState) → ec_in cs e ≡ Some x → edge (slice_set cs e (Some y)) e ≡ edge_of y.state
edge-set_same cs e x y there = ap (λ (o : Option EcState). option_and_then edge_of (option_map (λ (z : EcState). z.state) o)) (ec_in-set_same cs e x y there)

pub cpu-set : (cs : Contexts) (e : ℕ) (x y : EcState) → ec_in cs e ≡ Some x → y.cpu ≡ x.cpu → (f : ℕ) → cpu_in (slice_set cs e (Some y)) f ≡ cpu_in cs f
cpu-set cs e x y there cpu f = by_place (f == e) refl
  where
    by_place : (t : Bool) → (f == e) ≡ t → cpu_in (slice_set cs e (Some y)) f ≡ cpu_in cs f
    by_place true is =
        let same : f ≡ e = grind (arith, is) in
        ap (λ (n : ℕ). cpu_in (slice_set cs e (Some y)) n) same
        ∙ ap (option_map (λ (z : EcState). z.cpu)) (ec_in-set_same cs e x y there) ∙ ap Some cpu
        ∙ sym (ap (option_map (λ (z : EcState). z.cpu)) there) ∙ sym (ap (cpu_in cs) same)
    by_place false is = ap (option_map (λ (z : EcState). z.cpu)) (ec_in-set_other cs e f (Some y) (λ same. absurd (grind (arith, is, same))))

set_one_processor : (cs : Contexts) (e : ℕ) (x y : EcState) → AreEdges cs → ec_in cs e ≡ Some x → y.cpu ≡ x.cpu →
    ((h : ℕ) → edge_of y.state ≡ Some h → cpu_in cs h ≡ cpu_in cs e) →
    (f h : ℕ) → edge (slice_set cs e (Some y)) f ≡ Some h → cpu_in (slice_set cs e (Some y)) h ≡ cpu_in (slice_set cs e (Some y)) f
set_one_processor cs e x y sound there cpu own f h is = cpu-set cs e x y there cpu h ∙ by_place (f == e) refl ∙ sym (cpu-set cs e x y there cpu f)
  where
    by_place : (t : Bool) → (f == e) ≡ t → cpu_in cs h ≡ cpu_in cs f
    by_place true place =
        let same : f ≡ e = grind (arith, place) in
        own h (sym (edge-set_same cs e x y there) ∙ ap (edge (slice_set cs e (Some y))) (sym same) ∙ is) ∙ ap (cpu_in cs) (sym same)
    by_place false place = sound.one_processor f h (sym (edge-set_other cs e y f (λ same. absurd (grind (arith, place, same)))) ∙ is)

-- a changed context that waits for no other than it may
pub edges_set : (cs : Contexts) (e : ℕ) (x y : EcState) (o : Option ℕ) → AreEdges cs → ec_in cs e ≡ Some x → y.cpu ≡ x.cpu → edge_of y.state ≡ o → MayWait cs e o →
    AreEdges (slice_set cs e (Some y))
edges_set cs e x y None sound there cpu is may = record {
  one_processor = set_one_processor cs e x y sound there cpu (λ h k. absurd (let no : None ≡ Some h = sym is ∙ k in cc));
  no_circle = open_without_edge (edge cs) (edge (slice_set cs e (Some y))) e sound.no_circle (edge-set_other cs e y) (edge-set_same cs e x y there ∙ is);
}
edges_set cs e x y (Some h) sound there cpu is may = record {
  one_processor = set_one_processor cs e x y sound there cpu (λ g k. subst (λ (n : ℕ). cpu_in cs n ≡ cpu_in cs e) (let same : h ≡ g = let all : Some h ≡ Some g = sym is ∙ k in cc in same) may.one_processor);
  no_circle = open_with_edge (edge cs) (edge (slice_set cs e (Some y))) e h sound.no_circle (edge-set_other cs e y) (edge-set_same cs e x y there ∙ is)
      (no_way cs sound e h (cpu_below cs h x.cpu (may.one_processor ∙ cpu_of_there cs e x there)) may.no_circle);
}

-- a changed context in the state that it had
pub edges_kept : (cs : Contexts) (e : ℕ) (x y : EcState) → AreEdges cs → ec_in cs e ≡ Some x → y.cpu ≡ x.cpu → y.state ≡ x.state → AreEdges (slice_set cs e (Some y))
edges_kept cs e x y sound there cpu state =
    let before : edge cs e ≡ edge_of x.state = ap (λ (o : Option EcState). option_and_then edge_of (option_map (λ (z : EcState). z.state) o)) there in record {
      one_processor = set_one_processor cs e x y sound there cpu (λ h k. sound.one_processor e h (before ∙ ap edge_of (sym state) ∙ k));
      no_circle = open_same (edge cs) (edge (slice_set cs e (Some y))) sound.no_circle (λ f. by_place f (f == e) refl before);
    }
  where
    by_place : (f : ℕ) (t : Bool) → (f == e) ≡ t → edge cs e ≡ edge_of x.state → edge (slice_set cs e (Some y)) f ≡ edge cs f
    by_place f true place before =
        let same : f ≡ e = grind (arith, place) in
        ap (edge (slice_set cs e (Some y))) same ∙ edge-set_same cs e x y there ∙ ap edge_of state ∙ sym before ∙ ap (edge cs) (sym same)
    by_place f false place before = edge-set_other cs e y f (λ same. absurd (grind (arith, place, same)))

-- a context joins

pub ec_in-more : (cs : Contexts) (o : Option EcState) (e : ℕ) (x : EcState) → ec_in cs e ≡ Some x → ec_in (cs ++ o ∷ []) e ≡ Some x
ec_in-more [] o e x h = absurd cc
ec_in-more (c ∷ cs) o zero x h = h
ec_in-more (c ∷ cs) o (suc e) x h = ec_in-more cs o e x h

pub edge-more : (cs : Contexts) (o : Option EcState) (e : ℕ) → option_and_then edge_of (option_map (λ (z : EcState). z.state) o) ≡ None → edge (cs ++ o ∷ []) e ≡ edge cs e
edge-more [] o zero h = h
edge-more [] o (suc e) h = refl
edge-more (c ∷ cs) o zero h = refl
edge-more (c ∷ cs) o (suc e) h = edge-more cs o e h

pub cpu-more : (cs : Contexts) (o : Option EcState) (e cpu : ℕ) → cpu_in cs e ≡ Some cpu → cpu_in (cs ++ o ∷ []) e ≡ Some cpu
cpu-more [] o e cpu h = absurd cc
cpu-more (c ∷ cs) o zero cpu h = h
cpu-more (c ∷ cs) o (suc e) cpu h = cpu-more cs o e cpu h

pub edges_more : (cs : Contexts) (o : Option EcState) → AreEdges cs → option_and_then edge_of (option_map (λ (z : EcState). z.state) o) ≡ None → AreEdges (cs ++ o ∷ [])
edges_more cs o sound none = record {
  one_processor = λ e h is.
      let was : edge cs e ≡ Some h = sym (edge-more cs o e none) ∙ is in
      let from = edge_there cs e h was in
      let cpu = cpu_of_there cs e from.0 from.1 in
      cpu-more cs o h from.0.cpu (sound.one_processor e h was ∙ cpu) ∙ sym (cpu-more cs o e from.0.cpu cpu);
  no_circle = open_same (edge cs) (edge (cs ++ o ∷ [])) sound.no_circle (λ e. edge-more cs o e none);
}

pub edges_none : AreEdges []
edges_none = record { one_processor = λ e h is. absurd cc; no_circle = λ e n round. absurd cc }

-- an entry that is read where a context is there
pub ec_read : (cs : Contexts) (e : ℕ) (y : Option EcState) (x : EcState) → IsSome (ec_in cs e) → y ≡ slice_index_or cs e y → y ≡ Some x → ec_in cs e ≡ Some x
ec_read [] e y x there read is = absurd cc
ec_read (c ∷ cs) zero y x there read is = sym read ∙ is
ec_read (c ∷ cs) (suc e) y x there read is = ec_read cs e y x there read is

-- chases end
pub chase_ends : (cs : Contexts) (e : ℕ) → AreEdges cs → find (stays cs) (met cs e) ≡ None → length cs ≡ 0
chase_ends [] e sound h = refl
chase_ends (c ∷ cs) e sound h = by_edge (edge (c ∷ cs) e) refl
  where
    alone : (x : ℕ) → edge (c ∷ cs) x ≡ None → stays (c ∷ cs) x ≡ true
    alone x is = grind (arith, is)

    by_edge : (o : Option ℕ) → edge (c ∷ cs) e ≡ o → length (c ∷ cs) ≡ 0
    by_edge None is = absurd (let s = alone e is in grind (arith, s, h))
    by_edge (Some g) is =
        let from = edge_there (c ∷ cs) e g is in
        let few = met_few (suc (length (c ∷ cs))) (length (c ∷ cs)) (edge (c ∷ cs)) e sound.no_circle (edge_below (c ∷ cs) sound) (there_below (c ∷ cs) e from.0 from.1) in
        let found : IsSome (find (stays (c ∷ cs)) (met (c ∷ cs) e)) = met_to_end (length (c ∷ cs)) (edge (c ∷ cs)) e (stays (c ∷ cs)) few alone in
        absurd cc

-- a context that is there is that of its number
pub ec_of-there : (cs : Contexts) (e : ℕ) (x : EcState) → ec_in cs e ≡ Some x → ec_of cs e ≡ x
ec_of-there cs e x there = ap context_in there

-- the steps of a search along edges
pub next_met : (n i : ℕ) (g : ℕ → Option ℕ) (e : ℕ) → i < n → met_within (n - i) g (Some e) ≡ e ∷ met_within (n - (i + 1)) g (g e)
next_met n i g e below = let left : n - i ≡ suc (n - (i + 1)) = omega arith in ap (λ m. met_within m g (Some e)) left

pub edges_put : (cs : Contexts) (e : ℕ) (y : EcState) → AreEdges cs → MayBecome cs e y → AreEdges (slice_set cs e (Some y))
edges_put cs e y sound may = by_state may.3
  where
    by_state : (y.state ≡ may.0.state) ⊎ MayWait cs e (edge_of y.state) → AreEdges (slice_set cs e (Some y))
    by_state (inl same) = edges_kept cs e may.0 y sound may.1 may.2 same
    by_state (inr wait) = edges_set cs e may.0 y (edge_of y.state) sound may.1 may.2 refl wait

-- numbers

pub numbered_none : AreNumbered []
numbered_none n = tt

numbered_more_from : (cs : Contexts) (from : ℕ) (o : Option EcState) → ((n : ℕ) → IsNumbered (from + n) (ec_in cs n)) → IsNumbered (from + length cs) o →
    (n : ℕ) → IsNumbered (from + n) (ec_in (cs ++ o ∷ []) n)
numbered_more_from [] from o all new zero = new
numbered_more_from [] from o all new (suc n) = tt
numbered_more_from (c ∷ cs) from o all new zero = all zero
numbered_more_from (c ∷ cs) from o all new (suc n) =
    let place : (m : ℕ) → suc from + m ≡ from + suc m = λ m. omega arith in
    subst (λ (i : ℕ). IsNumbered i (ec_in (cs ++ o ∷ []) n)) (place n)
    (numbered_more_from cs (suc from) o (λ m. subst (λ (i : ℕ). IsNumbered i (ec_in cs m)) (sym (place m)) (all (suc m)))
    (subst (λ (i : ℕ). IsNumbered i o) (sym (place (length cs))) new) n)

pub numbered_more : (cs : Contexts) (o : Option EcState) → AreNumbered cs → IsNumbered (length cs) o → AreNumbered (cs ++ o ∷ [])
numbered_more cs o all new n =
    let place : (m : ℕ) → 0 + m ≡ m = λ m. omega arith in
    subst (λ (i : ℕ). IsNumbered i (ec_in (cs ++ o ∷ []) n)) (place n)
    (numbered_more_from cs 0 o (λ m. subst (λ (i : ℕ). IsNumbered i (ec_in cs m)) (sym (place m)) (all m)) (subst (λ (i : ℕ). IsNumbered i o) (sym (place (length cs))) new) n)

pub numbered_set : (cs : Contexts) (e : ℕ) (x y : EcState) → ec_in cs e ≡ Some x → y.id ≡ x.id → AreNumbered cs → AreNumbered (slice_set cs e (Some y))
numbered_set cs e x y there same all n = by_place (n == e) refl
  where
    by_place : (t : Bool) → (n == e) ≡ t → IsNumbered n (ec_in (slice_set cs e (Some y)) n)
    by_place true is =
        let at : n ≡ e = grind (arith, is) in
        let old : IsNumbered e (Some x) = subst (λ (o : Option EcState). IsNumbered e o) there (all e) in
        subst (λ (i : ℕ). IsNumbered i (ec_in (slice_set cs e (Some y)) i)) (sym at)
        (subst (λ (o : Option EcState). IsNumbered e o) (sym (ec_in-set_same cs e x y there)) (same ∙ old))
    by_place false is =
        subst (λ (o : Option EcState). IsNumbered n o) (sym (ec_in-set_other cs e n (Some y) (λ at. absurd (grind (arith, is, at))))) (all n)

pub numbered_put : (cs : Contexts) (e : ℕ) (y : EcState) → AreNumbered cs → MayBecome cs e y → AreNumbered (slice_set cs e (Some y))
numbered_put cs e y all may = numbered_set cs e may.0 y may.1 may.4 all
