-- The revokes that run: where a context runs one, and that what no test of them finds is in the way of none.
use Rattle.std.proofs.Common.{◌≡◌, ℕ, zero, suc, ◌+◌, ◌<◌, ◌^◌, List, [], ◌∷◌, ap, ap₂, sym, ◌∙◌, subst, inl, inr, refl, arith}
use Rattle.std.specs.Prelude.{Bool, true, false, ◌==◌, ◌&&◌, ◌||◌, nat_lt, length, slice_get, Contains, Option, Some, None, option_and_then}
use Rattle.std.specs.List.{cons_option, filter_map, list_any, range_with_len}
use Rattle.std.proofs.lemmas.Bool.{eqb-true, eqb-false, eq-eqb, ne_eqb}
use Rattle.std.proofs.lemmas.Bool.Decides.{nat_tests}
use Rattle.nova_range.specs.Ranges.{end_of}
use Rattle.nova_range.specs.declared.range.Kind.{Kind}
use Rattle.nova_range.specs.declared.range.Kind.TheVariants.{Obj}
use Rattle.nova_range.specs.declared.range.Range.{Range}
use Rattle.nova_model.specs.Delegations.{has_place, is_same_kind}
use Rattle.nova_model.specs.Revokes.{Revocation, busy, is_met}
use Rattle.nova_model.specs.Running.{Running, revoke_by, revoke_of, running_of, running, is_busy, is_of_objects, is_revoked}
use Rattle.nova_model.specs.State.{KernelState, context, context_at, context_in, entry, pd_of}
use Rattle.nova_model.specs.declared.context.EcState.{EcState}
use Rattle.nova_model.specs.declared.context.State.{State}
use Rattle.nova_model.specs.declared.context.State.TheVariants.{Revoking}
use Rattle.nova_model.specs.declared.delegation.Derivation.{Derivation}
use Rattle.law_forest.proofs.Busy.{busy_root}
use Rattle.law_forest.proofs.Members.{IsIn, all_at, none_any, contains_from_in}

-- a context in this state is there, and its revoke runs
pub revokes_there : (k : KernelState) (ec : ℕ) (range : Range) (own : Bool) → (context k ec).state ≡ Revoking range own →
    revoke_of k ec ≡ Some (record { pd = pd_of k ec; range = range; own = own })
revokes_there k ec range own is = by_entry (context_at k ec) is
  where
    by_entry : (o : Option EcState) → (context_in o).state ≡ Revoking range own →
        option_and_then (λ x. revoke_by (pd_of k ec) x.state) o ≡ Some (record { pd = pd_of k ec; range = range; own = own })
    by_entry None dead = absurd (cc)
    by_entry (Some x) its = ap (revoke_by (pd_of k ec)) its

-- and the other way
pub record IsRevoking (k : KernelState) (ec : ℕ) (r : Revocation) : Type 0 where
  pub range : Range
  pub own : Bool
  pub state : (context k ec).state ≡ Revoking range own
  pub its : r ≡ record { pd = pd_of k ec; range = range; own = own }
  pub below : ec < length k.contexts

entry_below : {T : Type 0} (xs : List (Option T)) (n : ℕ) (y : T) → entry (slice_get xs n) ≡ Some y → n < length xs
entry_below [] n y h = absurd (cc)
entry_below (x ∷ xs) zero y h = omega arith
entry_below (x ∷ xs) (suc n) y h = let below = entry_below xs n y h in omega arith

pub revoking_there : (k : KernelState) (ec : ℕ) (r : Revocation) → revoke_of k ec ≡ Some r → IsRevoking k ec r
revoking_there k ec r runs = by_entry (context_at k ec) refl runs
  where
    by_state : (x : EcState) → context_at k ec ≡ Some x → (s : State) → x.state ≡ s → revoke_by (pd_of k ec) s ≡ Some r → IsRevoking k ec r
    by_state x at (Revoking range own) is e = record {
      range = range;
      own = own;
      state = ap (λ o. (context_in o).state) at ∙ is;
      its = cc;
      below = entry_below k.contexts ec x at;
    }
    by_state x at other is e = absurd (cc)

    by_entry : (o : Option EcState) → context_at k ec ≡ o → option_and_then (λ x. revoke_by (pd_of k ec) x.state) o ≡ Some r → IsRevoking k ec r
    by_entry None at e = absurd (cc)
    by_entry (Some x) at e = by_state x at x.state refl e

-- ALL THAT RUN

in_range : (a n i : ℕ) → i < n → IsIn (range_with_len a n) (a + i)
in_range a zero i below = absurd (omega arith)
in_range a (suc n) zero below = inl (omega arith)
in_range a (suc n) (suc i) below =
    let same : (a + 1) + i ≡ a + suc i = omega arith in
    inr (subst (λ (m : ℕ). IsIn (range_with_len (a + 1) n) m) same (in_range (a + 1) n i (omega arith)))

in_picked : {X Y : Type 0} (h : X → Option Y) (xs : List X) (x : X) (y : Y) → IsIn xs x → h x ≡ Some y → IsIn (filter_map h xs) y
in_picked h [] x y i is = absurd i
in_picked h (z ∷ zs) x y (inl e) is = let its : h z ≡ Some y = ap h e ∙ is in rw its (inl refl)
in_picked {Y = Y} h (z ∷ zs) x y (inr i) is = by_first (h z) (in_picked h zs x y i is)
  where
    by_first : (o : Option Y) → IsIn (filter_map h zs) y → IsIn (cons_option o (filter_map h zs)) y
    by_first None j = j
    by_first (Some w) j = inr j

runs_in : (k : KernelState) (ec : ℕ) (r : Revocation) → revoke_of k ec ≡ Some r → IsIn (running k) (record { ec = ec; revoke = r })
runs_in k ec r runs =
    let below = (revoking_there k ec r runs).below in
    let same : 0 + ec ≡ ec = omega arith in
    in_picked (λ e. running_of e (revoke_of k e)) (range_with_len 0 (length k.contexts)) ec (record { ec = ec; revoke = r })
    (subst (λ (n : ℕ). IsIn (range_with_len 0 (length k.contexts)) n) same (in_range 0 (length k.contexts) ec below)) (ap (running_of ec) runs)

pub running_has : (k : KernelState) (ec : ℕ) (r : Revocation) → revoke_of k ec ≡ Some r → Contains (running k) (record { ec = ec; revoke = r })
running_has k ec r runs = contains_from_in (running k) (record { ec = ec; revoke = r }) (runs_in k ec r runs)

-- what is in the way of none of them is in the way of each
pub idle_under : (k : KernelState) (ec : ℕ) (r : Revocation) (x : Derivation) → revoke_of k ec ≡ Some r → is_busy k x ≡ false → busy r k.delegations.list x ≡ false
idle_under k ec r x runs idle =
    all_at (λ (w : Running). busy w.revoke k.delegations.list x ≡ false) (running k) (record { ec = ec; revoke = r })
    (none_any (λ (w : Running). busy w.revoke k.delegations.list x) (running k) idle) (runs_in k ec r runs)

-- A FIRST CAPABILITY

equal_turned : (a b : ℕ) → (a == b) ≡ (b == a)
equal_turned a b = by_test (a == b) refl
  where
    by_test : (t : Bool) → (a == b) ≡ t → t ≡ (b == a)
    by_test true is = sym (eq-eqb b a (sym (eqb-true a b is)))
    by_test false is = sym (ne_eqb b a (λ e. eqb-false a b is (sym e)))

-- places of order 0 are one place
one_place : (base : ℕ) (range : Range) → (nat_lt base (end_of range) && nat_lt range.base (base + 1)) ≡ has_place range base
one_place base range = grind (arith, nat_tests)

met_alone : (r : Revocation) (x : Derivation) → x.kind ≡ Obj → x.order ≡ 0 → is_met r x ≡ (is_same_kind r.range.kind Obj && ((r.pd == x.pd) && has_place r.range x.base))
met_alone r x kind order =
    ap₂ (λ (n : Kind) (o : ℕ). is_same_kind r.range.kind n && (x.pd == r.pd && (nat_lt x.base (end_of r.range) && nat_lt r.range.base (x.base + 2 ^ o)))) kind order
    ∙ ap₂ (λ (s t : Bool). is_same_kind r.range.kind Obj && (s && t)) (equal_turned x.pd r.pd) (one_place x.base r.range)

-- where no running revoke contains its selector it is in the way of none
pub root_idle : (k : KernelState) (x : Derivation) → x.parent ≡ None → x.kind ≡ Obj → x.order ≡ 0 → is_revoked k x.pd x.base ≡ false → is_busy k x ≡ false
root_idle k x parent kind order unrevoked = each (running k) ∙ unrevoked
  where
    each : (ws : List Running) → list_any (λ w. busy w.revoke k.delegations.list x) ws ≡ list_any (is_of_objects x.pd x.base) ws
    each [] = refl
    each (w ∷ ws) = ap₂ (λ (s t : Bool). s || t) (busy_root w.revoke k.delegations.list x parent ∙ met_alone w.revoke x kind order) (each ws)
