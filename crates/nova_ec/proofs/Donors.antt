-- Where one changes, those that do not lead to it are not touched.
use mathlib.Core.Path.{fun_ext}
use Rattle.std.proofs.Common.{◌≡◌, ℕ, suc, ◌<◌, length, ap, ap₂, sym, ◌∙◌, subst, refl, arith, IsSome}
use Rattle.std.specs.Prelude.{Bool, true, false, ◌==◌, ◌||◌, ◌≢◌, Option, Some, None, is_none, option_map, option_and_then, slice_set}
use Rattle.std.specs.List.{find}
use Rattle.std.proofs.lemmas.List.{length-set}
use Rattle.nova_model.specs.State.{Contexts, ec_in}
use Rattle.nova_model.specs.Edges.{after_edges, met_within, edge, edge_of, acts, acts_as, acts_by, is_dead, is_free, stays, chase, or_itself, state_in}
use Rattle.nova_model.specs.declared.context.EcState.{EcState}
use Rattle.nova_model.specs.declared.context.State.{State}
use Rattle.nova_model.specs.declared.context.State.TheVariants.{Fresh, Ready, Parked, Calling, Helping, Exiting, Sending, Granting, Replying, Revoking, Blocked, Dead}
use Rattle.nova_ec.specs.Ways.{IsUnmoved, UnmovedKeepsChases, OnlyDonorsChange, SameStateKeepsChases}
use Rattle.nova_ec.proofs.Tables.{ec_in-set_other, ec_in-set_same, there_below, no_way}
use Rattle.nova_ec.proofs.Untouched.{AreSame, turns_stay, as_far}

-- no way leads from x to e
abbrev IsAway : Contexts → ℕ → ℕ → Type 0
IsAway cs e x = (k : ℕ) → after_edges k (edge cs) x ≢ Some e

away_next : (cs : Contexts) (e x h : ℕ) → IsAway cs e x → edge cs x ≡ Some h → IsAway cs e h
away_next cs e x h away is k way = away (suc k) (ap (option_and_then (after_edges k (edge cs))) is ∙ way)

same_away : (cs : Contexts) (e : ℕ) (y : EcState) → AreSame cs (slice_set cs e (Some y)) (IsAway cs e)
same_away cs e y = record {
  states = λ x away. ap (option_map (λ (z : EcState). z.state)) (ec_in-set_other cs e x (Some y) (λ at. away 0 (ap Some at)));
  closed = λ x h away leads. away_next cs e x h away leads;
}

pub only_donors_change : OnlyDonorsChange
only_donors_change cs e x y sound there apart =
    let away : IsAway cs e x = no_way cs sound e x (below (ec_in cs x) refl there) apart in
    turns_stay cs (slice_set cs e (Some y)) (IsAway cs e) x sound (same_away cs e y) away (as_far cs e x y)
  where
    below : (o : Option EcState) → ec_in cs x ≡ o → IsSome o → x < length cs
    below None is some = absurd cc
    below (Some z) is some = there_below cs x z is

-- what of a handler's state matters
pub acts_like : (s : State) (o p : Option State) → is_dead o ≡ is_dead p → is_free o ≡ is_free p → acts_by s o ≡ acts_by s p
acts_like (Calling h) o p dead free = dead
acts_like (Helping h) o p dead free = free
acts_like (Sending reason q0 q1 h) o p dead free = free
acts_like Fresh o p dead free = refl
acts_like Ready o p dead free = refl
acts_like Parked o p dead free = refl
acts_like (Exiting reason q0 q1) o p dead free = refl
acts_like (Granting new) o p dead free = refl
acts_like Replying o p dead free = refl
acts_like (Revoking range own) o p dead free = refl
acts_like (Blocked sm) o p dead free = refl
acts_like Dead o p dead free = refl

abbrev acts_for : Option State → Option State → Bool
acts_for None handler = false
acts_for (Some s) handler = acts_by s handler

-- alike for a context that looks at them
record AreAlike (o p : Option State) : Type 0 where
  dead : is_dead o ≡ is_dead p
  free : is_free o ≡ is_free p
  edge : option_and_then edge_of o ≡ option_and_then edge_of p
  acts : (handler : Option State) → acts_for o handler ≡ acts_for p handler

alike_self : (o : Option State) → AreAlike o o
alike_self o = record { dead = refl; free = refl; edge = refl; acts = λ handler. refl }

alike_set : (cs : Contexts) (e : ℕ) (x y : EcState) → ec_in cs e ≡ Some x → IsUnmoved x.state y.state → (z : ℕ) → AreAlike (state_in (slice_set cs e (Some y)) z) (state_in cs z)
alike_set cs e x y there same z = by_place (z == e) refl
  where
    now : state_in (slice_set cs e (Some y)) e ≡ Some y.state
    now = ap (option_map (λ (w : EcState). w.state)) (ec_in-set_same cs e x y there)

    before : state_in cs e ≡ Some x.state
    before = ap (option_map (λ (w : EcState). w.state)) there

    both : AreAlike (Some y.state) (Some x.state)
    both = record { dead = same.dead; free = same.free; edge = same.edge; acts = same.acts }

    by_place : (t : Bool) → (z == e) ≡ t → AreAlike (state_in (slice_set cs e (Some y)) z) (state_in cs z)
    by_place true is =
        let at : z ≡ e = grind (arith, is) in
        subst (λ (n : ℕ). AreAlike (state_in (slice_set cs e (Some y)) n) (state_in cs n)) (sym at)
        (subst (λ (o : Option State). AreAlike o (state_in cs e)) (sym now) (subst (λ (o : Option State). AreAlike (Some y.state) o) (sym before) both))
    by_place false is =
        let other : state_in (slice_set cs e (Some y)) z ≡ state_in cs z =
        ap (option_map (λ (w : EcState). w.state)) (ec_in-set_other cs e z (Some y) (λ at. absurd (grind (arith, is, at)))) in
        subst (λ (o : Option State). AreAlike (state_in (slice_set cs e (Some y)) z) o) other (alike_self (state_in (slice_set cs e (Some y)) z))

acts_as-for : (cs : Contexts) (o : Option State) → acts_as cs o ≡ acts_for o (option_and_then (state_in cs) (option_and_then edge_of o))
acts_as-for cs None = refl
acts_as-for cs (Some s) = refl

for_like : (s o p : Option State) → is_dead o ≡ is_dead p → is_free o ≡ is_free p → acts_for s o ≡ acts_for s p
for_like None o p dead free = refl
for_like (Some s) o p dead free = acts_like s o p dead free

acts_alike : (cs ds : Contexts) → ((z : ℕ) → AreAlike (state_in ds z) (state_in cs z)) → (z : ℕ) → acts ds z ≡ acts cs z
acts_alike cs ds alike z =
    let a = alike z in
    acts_as-for ds (state_in ds z)
    ∙ a.acts (option_and_then (state_in ds) (option_and_then edge_of (state_in ds z)))
    ∙ ap (λ (o : Option ℕ). acts_for (state_in cs z) (option_and_then (state_in ds) o)) a.edge
    ∙ by_edge (option_and_then edge_of (state_in cs z))
    ∙ sym (acts_as-for cs (state_in cs z))
  where
    by_edge : (o : Option ℕ) → acts_for (state_in cs z) (option_and_then (state_in ds) o) ≡ acts_for (state_in cs z) (option_and_then (state_in cs) o)
    by_edge None = refl
    by_edge (Some h) = for_like (state_in cs z) (state_in ds h) (state_in cs h) (alike h).dead (alike h).free

pub unmoved_keeps_chases : UnmovedKeepsChases
unmoved_keeps_chases cs e z x y there same =
    let alike = alike_set cs e x y there same in
    let edges : (w : ℕ) → edge (slice_set cs e (Some y)) w ≡ edge cs w = λ w. (alike w).edge in
    let stay : (w : ℕ) → stays (slice_set cs e (Some y)) w ≡ stays cs w =
    λ w. ap₂ (λ (a : Bool) (o : Option ℕ). a || is_none o) (acts_alike cs (slice_set cs e (Some y)) alike w) (edges w) in (
      ap (or_itself z)
          (ap (λ (n : ℕ). find (stays (slice_set cs e (Some y))) (met_within n (edge (slice_set cs e (Some y))) (Some z))) (length-set cs e (Some y))
          ∙ ap₂ (λ (p : ℕ → Bool) (g : ℕ → Option ℕ). find p (met_within (length cs) g (Some z))) (fun_ext stay) (fun_ext edges)),
      acts_alike cs (slice_set cs e (Some y)) alike z,
    )

-- the same state
pub same_state_keeps_chases : SameStateKeepsChases
same_state_keeps_chases cs e z x y there same =
    let unmoved : IsUnmoved x.state y.state = record {
      edge = ap edge_of same;
      acts = λ handler. ap (λ (s : State). acts_by s handler) same;
      dead = ap (λ (s : State). is_dead (Some s)) same;
      free = ap (λ (s : State). is_free (Some s)) same;
    } in
    ((unmoved_keeps_chases cs e z x y there unmoved).0, (unmoved_keeps_chases cs e (chase cs z) x y there unmoved).1)
