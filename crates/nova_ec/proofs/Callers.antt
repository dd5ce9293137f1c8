-- Callers of a table of execution contexts stay sound where a context changes and where one joins.
use Rattle.std.proofs.Common.{◌≡◌, ℕ, zero, suc, [], ◌∷◌, ◌++◌, ap, sym, ◌∙◌, subst, inl, inr, refl, arith}
use Rattle.std.specs.Prelude.{Bool, true, false, ◌==◌, ◌≢◌, ◌⊎◌, Option, Some, None, IfSome, slice_set, option_map}
use Rattle.nova_model.specs.State.{Contexts, ec_in}
use Rattle.nova_model.specs.Edges.{cpu_in, caller_in, AreCallers, MayServe}
use Rattle.nova_model.specs.declared.context.EcState.{EcState}
use Rattle.nova_model.specs.declared.context.Mark.{Mark}
use Rattle.nova_ec.specs.Entries.{caller_at}
use Rattle.nova_ec.specs.Tables.{MayBecome, IsServing}
use Rattle.nova_ec.proofs.Tables.{ec_in-set_same, ec_in-set_other, cpu-set, cpu-more}

caller_there : (cs : Contexts) (e : ℕ) (x : EcState) → ec_in cs e ≡ Some x → caller_in cs e ≡ x.caller
caller_there cs e x there = ap caller_at there

-- a context that has a caller is there
pub server_there : (cs : Contexts) (e c : ℕ) (mark : Mark) → caller_in cs e ≡ Some (c, mark) → (x : EcState) × (ec_in cs e ≡ Some x)
server_there cs e c mark serves = by_place (ec_in cs e) refl serves
  where
    by_place : (o : Option EcState) → ec_in cs e ≡ o → caller_at o ≡ Some (c, mark) → (x : EcState) × (ec_in cs e ≡ Some x)
    by_place None is k = absurd cc
    by_place (Some x) is k = (x, is)

caller-set_same : (cs : Contexts) (e : ℕ) (x y : EcState) → ec_in cs e ≡ Some x → caller_in (slice_set cs e (Some y)) e ≡ y.caller
caller-set_same cs e x y there = ap caller_at (ec_in-set_same cs e x y there)

caller-set_other : (cs : Contexts) (e f : ℕ) (o : Option EcState) → f ≢ e → caller_in (slice_set cs e o) f ≡ caller_in cs f
caller-set_other cs e f o other = ap caller_at (ec_in-set_other cs e f o other)

-- a changed context with a caller that it may serve
pub callers_set : (cs : Contexts) (e : ℕ) (x y : EcState) → AreCallers cs → ec_in cs e ≡ Some x → y.cpu ≡ x.cpu → MayServe cs e y.caller → AreCallers (slice_set cs e (Some y))
callers_set cs e x y sound there cpu may f c mark is = cpu-set cs e x y there cpu c ∙ by_place (f == e) refl ∙ sym (cpu-set cs e x y there cpu f)
  where
    by_place : (t : Bool) → (f == e) ≡ t → cpu_in cs c ≡ cpu_in cs f
    by_place true place =
        let same : f ≡ e = grind (arith, place) in
        let own : y.caller ≡ Some (c, mark) = sym (caller-set_same cs e x y there) ∙ ap (caller_in (slice_set cs e (Some y))) (sym same) ∙ is in
        let serves : MayServe cs e (Some (c, mark)) = subst (MayServe cs e) own may in
        serves ∙ ap (cpu_in cs) (sym same)
    by_place false place = sound f c mark (sym (caller-set_other cs e f (Some y) (λ same. absurd (grind (arith, place, same)))) ∙ is)

-- a caller that is there may stay
pub kept_caller_may : (cs : Contexts) (e : ℕ) (x : EcState) (o : Option (ℕ × Mark)) → AreCallers cs → ec_in cs e ≡ Some x → o ≡ x.caller → MayServe cs e o
kept_caller_may cs e x None sound there same = tt
kept_caller_may cs e x (Some (c, mark)) sound there same = sound e c mark (caller_there cs e x there ∙ sym same)

-- a changed one with the caller that it had
pub callers_kept : (cs : Contexts) (e : ℕ) (x y : EcState) → AreCallers cs → ec_in cs e ≡ Some x → y.cpu ≡ x.cpu → y.caller ≡ x.caller → AreCallers (slice_set cs e (Some y))
callers_kept cs e x y sound there cpu same = callers_set cs e x y sound there cpu (kept_caller_may cs e x y.caller sound there same)

pub callers_put : (cs : Contexts) (e : ℕ) (y : EcState) → AreCallers cs → MayBecome cs e y → AreCallers (slice_set cs e (Some y))
callers_put cs e y sound (x, there, cpu, edge, id, inl same) = callers_kept cs e x y sound there cpu same
callers_put cs e y sound (x, there, cpu, edge, id, inr may) = callers_set cs e x y sound there cpu may

-- a context joins

pub callers_none : AreCallers []
callers_none e c mark is = absurd cc

one_more : (cs : Contexts) (o : Option EcState) (e : ℕ) (y : EcState) → ec_in (cs ++ o ∷ []) e ≡ Some y → (ec_in cs e ≡ Some y) ⊎ (o ≡ Some y)
one_more [] o zero y is = inr is
one_more [] o (suc e) y is = absurd cc
one_more (c ∷ cs) o zero y is = inl is
one_more (c ∷ cs) o (suc e) y is = one_more cs o e y is

pub callers_more : (cs : Contexts) (o : Option EcState) → AreCallers cs → IfSome o (λ x. IsServing cs x.cpu x.caller) → AreCallers (cs ++ o ∷ [])
callers_more cs o sound new e c mark is = by_entry (ec_in (cs ++ o ∷ []) e) refl is
  where
    serves_new : (p : Option EcState) (y : EcState) → p ≡ Some y → y.caller ≡ Some (c, mark) → IfSome p (λ x. IsServing cs x.cpu x.caller) → cpu_in cs c ≡ Some y.cpu
    serves_new p y at own serves =
        let its : IsServing cs y.cpu y.caller = subst (λ (q : Option EcState). IfSome q (λ x. IsServing cs x.cpu x.caller)) at serves in
        subst (λ (q : Option (ℕ × Mark)). IsServing cs y.cpu q) own its

    by_side : (y : EcState) → y.caller ≡ Some (c, mark) → (ec_in cs e ≡ Some y) ⊎ (o ≡ Some y) → cpu_in cs c ≡ Some y.cpu
    by_side y own (inl was) = sound e c mark (caller_there cs e y was ∙ own) ∙ ap (option_map (λ (z : EcState). z.cpu)) was
    by_side y own (inr born) = serves_new o y born own new

    by_entry : (p : Option EcState) → ec_in (cs ++ o ∷ []) e ≡ p → caller_at p ≡ Some (c, mark) → cpu_in (cs ++ o ∷ []) c ≡ cpu_in (cs ++ o ∷ []) e
    by_entry None at own = absurd cc
    by_entry (Some y) at own =
        cpu-more cs o c y.cpu (by_side y own (one_more cs o e y at)) ∙ sym (ap (option_map (λ (z : EcState). z.cpu)) at)
