-- Two tables that agree on all that are met from one on give the same turns there.
use Rattle.std.proofs.Common.{◌≡◌, ℕ, zero, suc, [], ◌∷◌, ◌++◌, length, ap, ap₂, sym, ◌∙◌, subst, refl, arith, IsSome}
use Rattle.std.specs.Prelude.{Bool, ◌||◌, ◌≢◌, Option, Some, None, is_none, option_map, option_and_then, slice_set, if◌then◌else◌}
use Rattle.std.specs.List.{find}
use Rattle.std.proofs.lemmas.List.{length-set}
use Rattle.nova_model.specs.State.{Contexts, ec_in}
use Rattle.nova_model.specs.Edges.{AreEdges, after_edges, met_within, met, edge, edge_of, acts, acts_as, acts_by, stays, chase, cpu_in, or_itself, state_in}
use Rattle.nova_model.specs.declared.context.EcState.{EcState}
use Rattle.nova_model.specs.declared.context.State.{State}
use Rattle.nova_ec.specs.Tables.{actor_in}
use Rattle.nova_ec.specs.Ways.{TurnsStay, JoiningMovesNone, OthersStay}
use Rattle.nova_ec.proofs.Tables.{ec_in-set_other, ec_in-more, there_below, there_by_cpu, chase_ends}
use Rattle.nova_ec.proofs.Ends.{chases_end, found_more}

-- the same states in both at all places of a set that no edge leaves
pub record AreSame (cs ds : Contexts) (P : ℕ → Type 0) : Type 0 where
  pub states : (x : ℕ) → P x → state_in ds x ≡ state_in cs x
  pub closed : (x h : ℕ) → P x → edge cs x ≡ Some h → P h

edge-same : (cs ds : Contexts) (P : ℕ → Type 0) (x : ℕ) → AreSame cs ds P → P x → edge ds x ≡ edge cs x
edge-same cs ds P x same here = ap (option_and_then edge_of) (same.states x here)

pub acts-same : (cs ds : Contexts) (P : ℕ → Type 0) (x : ℕ) → AreSame cs ds P → P x → acts ds x ≡ acts cs x
acts-same cs ds P x same here = ap (acts_as ds) (same.states x here) ∙ by_state (state_in cs x) refl
  where
    by_edge : (s : State) (o : Option ℕ) → edge_of s ≡ o → state_in cs x ≡ Some s → acts_by s (option_and_then (state_in ds) o) ≡ acts_by s (option_and_then (state_in cs) o)
    by_edge s None is at = refl
    by_edge s (Some h) is at = ap (acts_by s) (same.states h (same.closed x h here (ap (option_and_then edge_of) at ∙ is)))

    by_state : (o : Option State) → state_in cs x ≡ o → acts_as ds o ≡ acts_as cs o
    by_state None at = refl
    by_state (Some s) at = by_edge s (edge_of s) refl at

stays-same : (cs ds : Contexts) (P : ℕ → Type 0) (x : ℕ) → AreSame cs ds P → P x → stays ds x ≡ stays cs x
stays-same cs ds P x same here = ap₂ (λ (a : Bool) (o : Option ℕ). a || is_none o) (acts-same cs ds P x same here) (edge-same cs ds P x same here)

search-same : (n : ℕ) (cs ds : Contexts) (P : ℕ → Type 0) (o : Option ℕ) → AreSame cs ds P → ((x : ℕ) → o ≡ Some x → P x) →
    find (stays ds) (met_within n (edge ds) o) ≡ find (stays cs) (met_within n (edge cs) o)
search-same zero cs ds P o same all = refl
search-same (suc n) cs ds P None same all = refl
search-same (suc n) cs ds P (Some x) same all =
    let here = all x refl in
    let rest = search-same n cs ds P (edge cs x) same (λ h is. same.closed x h here is) in
    let goes : find (stays ds) (met_within n (edge ds) (edge ds x)) ≡ find (stays cs) (met_within n (edge cs) (edge cs x)) =
    ap (λ (o : Option ℕ). find (stays ds) (met_within n (edge ds) o)) (edge-same cs ds P x same here) ∙ rest in
    ap₂ (λ (t : Bool) (o : Option ℕ). if t then Some x else o) (stays-same cs ds P x same here) goes

-- the set has all that are met
along : (k : ℕ) (cs ds : Contexts) (P : ℕ → Type 0) (x f : ℕ) → AreSame cs ds P → P x → after_edges k (edge cs) x ≡ Some f → P f
along zero cs ds P x f same here way = subst P (let at : x ≡ f = cc in at) here
along (suc k) cs ds P x f same here way = by_edge (edge cs x) refl way (λ h is rest. along k cs ds P h f same (same.closed x h here is) rest)
  where
    by_edge : (o : Option ℕ) → edge cs x ≡ o → option_and_then (after_edges k (edge cs)) o ≡ Some f →
        ((h : ℕ) → edge cs x ≡ Some h → after_edges k (edge cs) h ≡ Some f → P f) → P f
    by_edge None is way go = absurd cc
    by_edge (Some h) is way go = go h is way

pub turns_stay : (cs ds : Contexts) (P : ℕ → Type 0) (e : ℕ) → AreEdges cs → AreSame cs ds P → P e →
    find (stays cs) (met_within (length ds) (edge cs) (Some e)) ≡ find (stays cs) (met cs e) → TurnsStay cs ds e
turns_stay cs ds P e sound same here far =
    let end = chases_end cs e sound in (
      ap (or_itself e) (search-same (length ds) cs ds P (Some e) same (λ x is. subst P (let at : e ≡ x = cc in at) here) ∙ far),
      acts-same cs ds P (chase cs e) same (along end.edges cs ds P e (chase cs e) same here end.way),
    )

-- in other words: the context that acts

pub same_acts : (cs ds : Contexts) (e : ℕ) → TurnsStay cs ds e → acts ds (chase ds e) ≡ acts cs (chase cs e)
same_acts cs ds e stay = ap (acts ds) stay.0 ∙ stay.1

pub same_actor : (cs ds : Contexts) (e : ℕ) → TurnsStay cs ds e → actor_in ds e ≡ actor_in cs e
same_actor cs ds e stay = ap₂ (λ (t : Bool) (f : ℕ). if t then Some f else None) (same_acts cs ds e stay) stay.0

-- through two changes
pub stay_through : (cs ds es : Contexts) (e : ℕ) → TurnsStay cs ds e → TurnsStay ds es e → TurnsStay cs es e
stay_through cs ds es e first second = (second.0 ∙ first.0, ap (acts es) (sym first.0) ∙ second.1 ∙ same_acts cs ds e first)

-- an entry joins

length-more : (cs : Contexts) (o : Option EcState) → length (cs ++ o ∷ []) ≡ suc (length cs)
length-more [] o = refl
length-more (c ∷ cs) o = ap suc (length-more cs o)

-- there is a context at the place
abbrev IsThere : Contexts → ℕ → Type 0
IsThere cs x = (y : EcState) × (ec_in cs x ≡ Some y)

there_from : (cs : Contexts) (x : ℕ) (o : Option EcState) → ec_in cs x ≡ o → IsSome o → IsThere cs x
there_from cs x None is some = absurd cc
there_from cs x (Some y) is some = (y, is)

same_with_more : (cs : Contexts) (o : Option EcState) → AreEdges cs → AreSame cs (cs ++ o ∷ []) (IsThere cs)
same_with_more cs o sound = record {
  states = λ x there. ap (option_map (λ (y : EcState). y.state)) (ec_in-more cs o x there.0 there.1 ∙ sym there.1);
  closed = λ x h there leads. there_by_cpu cs h there.0.cpu (sound.one_processor x h leads ∙ ap (option_map (λ (y : EcState). y.cpu)) there.1);
}

found_further : (cs : Contexts) (o : Option EcState) (e : ℕ) → AreEdges cs → IsThere cs e →
    find (stays cs) (met_within (length (cs ++ o ∷ [])) (edge cs) (Some e)) ≡ find (stays cs) (met cs e)
found_further cs o e sound there = ap (λ (n : ℕ). find (stays cs) (met_within n (edge cs) (Some e))) (length-more cs o) ∙ by_found (find (stays cs) (met cs e)) refl
  where
    by_found : (f : Option ℕ) → find (stays cs) (met cs e) ≡ f → find (stays cs) (met_within (suc (length cs)) (edge cs) (Some e)) ≡ find (stays cs) (met cs e)
    by_found None is = absurd (let below = there_below cs e there.0 there.1 in let none = chase_ends cs e sound is in omega (arith, below, none))
    by_found (Some f) is = found_more (length cs) (edge cs) (Some e) (stays cs) f is ∙ sym is

pub joining_moves_none : JoiningMovesNone
joining_moves_none cs o e sound some =
    let there = there_from cs e (ec_in cs e) refl some in
    turns_stay cs (cs ++ o ∷ []) (IsThere cs) e sound (same_with_more cs o sound) there (found_further cs o e sound there)

-- one of another processor changes

-- the set of those on other processors, or on none
abbrev IsElsewhere : Contexts → ℕ → ℕ → Type 0
IsElsewhere cs e x = cpu_in cs x ≢ cpu_in cs e

same_elsewhere : (cs : Contexts) (e : ℕ) (y : EcState) → AreEdges cs → AreSame cs (slice_set cs e (Some y)) (IsElsewhere cs e)
same_elsewhere cs e y sound = record {
  states = λ x apart. ap (option_map (λ (z : EcState). z.state)) (ec_in-set_other cs e x (Some y) (λ at. apart (ap (cpu_in cs) at)));
  closed = λ x h apart leads at. apart (sym (sound.one_processor x h leads) ∙ at);
}

pub as_far : (cs : Contexts) (e z : ℕ) (y : EcState) →
    find (stays cs) (met_within (length (slice_set cs e (Some y))) (edge cs) (Some z)) ≡ find (stays cs) (met cs z)
as_far cs e z y = ap (λ (n : ℕ). find (stays cs) (met_within n (edge cs) (Some z))) (length-set cs e (Some y))

pub others_stay : OthersStay
others_stay cs e z y sound apart =
    turns_stay cs (slice_set cs e (Some y)) (IsElsewhere cs e) z sound (same_elsewhere cs e y sound) apart (as_far cs e z y)

-- the same by the numbers of the two processors
pub others_stay_at : (cs : Contexts) (e z cpu : ℕ) (x y : EcState) → AreEdges cs → ec_in cs e ≡ Some x → cpu_in cs z ≡ Some cpu → cpu ≢ x.cpu →
    TurnsStay cs (slice_set cs e (Some y)) z
others_stay_at cs e z cpu x y sound there at other =
    others_stay cs e z y sound (λ same. other (let all : Some cpu ≡ Some x.cpu = sym at ∙ same ∙ ap (option_map (λ (w : EcState). w.cpu)) there in cc))
