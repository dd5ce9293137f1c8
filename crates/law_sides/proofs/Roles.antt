-- What the tests of roles say of a state.
use Rattle.std.proofs.Common.{◌≡◌, ◌≢◌, ◌⊎◌, ℕ, List, refl, sym, ap, ◌∙◌, subst, inl, inr}
use Rattle.std.specs.Prelude.{◌==◌, ◌&&◌, ◌||◌, Bool, true, false, not, Contains, is_some, slice_get, Option, Some}
use Rattle.std.specs.List.{enumerate_from, list_all}
use Rattle.std.proofs.lemmas.Bool.{and_parts, eq-eqb, ne_eqb, or_cases}
use Rattle.nova_objects.specs.declared.object.Object.TheVariants.{Pd, Ec}
use Rattle.nova_range.specs.declared.range.Kind.{Kind}
use Rattle.nova_range.specs.declared.range.Kind.TheVariants.{Mem, Obj}
use Rattle.nova_model.specs.Delegations.{is_memory}
use Rattle.nova_model.specs.Edges.{edge_of}
use Rattle.nova_model.specs.State.{KernelState, context_at, pd_in, pd_of}
use Rattle.nova_model.specs.declared.context.EcState.{EcState}
use Rattle.nova_model.specs.declared.delegation.Derivation.{Derivation}
use Rattle.law_turns.specs.Tables.{HasTables}
use Rattle.law_integrity.proofs.Labels.{IsEc, context_ec}
use Rattle.law_turns.specs.Giving.{gives_no_first}
use Rattle.law_sides.specs.Resting.{is_resting}
use Rattle.law_sides.specs.Roles.{AreHarmless, is_at_rest, is_bare, is_bare_by, is_bare_in, is_controlled, is_domain, is_held, is_if_there, is_mute, is_mute_by, is_mute_in, is_no_grant, is_none_or, is_other, is_powerless, is_reached_by, is_uncalled, rests_by, rests_in, target_domain, waits_for_none, waits_within, waits_without}
use Rattle.law_sides.proofs.Lists.{all_of, numbered_at, of_one}

-- TESTS OF ALL

of_number : {X : Type 0} (p : ℕ × X → Bool) (xs : List X) (n : ℕ) (x : X) → list_all p (enumerate_from 0 xs) ≡ true → slice_get xs n ≡ Some x → p (n, x) ≡ true
of_number {X} p xs n x h at = numbered_at (λ (e : ℕ × X). p e ≡ true) xs n x (all_of p (enumerate_from 0 xs) h) at

then_true : (a b : Bool) → (not a || b) ≡ true → a ≡ true → b ≡ true
then_true true b h is = h
then_true false b h is = absurd (cc)

-- what an entry says of the execution context that is there
if_there : (p : EcState → Bool) (o : Option EcState) (x : EcState) → is_if_there p o ≡ true → o ≡ Some x → p x ≡ true
if_there p o x h is = subst (λ (q : Option EcState). is_if_there p q ≡ true) is h

same_domain : (k : KernelState) (n : ℕ) (m : IsEc k n) → pd_of k n ≡ m.domain
same_domain k n m = ap pd_in m.object

-- a capability of an object, and a capability that leads to a domain
pub obj_not : (kind : Kind) → kind ≡ Obj → not (is_memory kind) ≡ true
obj_not Mem is = absurd (cc)
obj_not Obj is = refl

both_true : (a b : Bool) → a ≡ true → b ≡ true → (a && b) ≡ true
both_true a b is also = rw (is, also) refl

is_held_by : (n : ℕ) (d : Derivation) → d.kind ≡ Obj → d.pd ≡ n → is_held n d ≡ true
is_held_by n d kind of = both_true (not (is_memory d.kind)) (d.pd == n) (obj_not d.kind kind) (eq-eqb d.pd n of)

is_reached : (k : KernelState) (label : ℕ → ℕ) (n : ℕ) (d : Derivation) → d.kind ≡ Obj → label d.pd ≢ 0 → target_domain k d ≡ Some n → is_reached_by k label n d ≡ true
is_reached k label n d kind some to =
    both_true (not (is_memory d.kind)) (not (label d.pd == 0) && is_domain n (target_domain k d)) (obj_not d.kind kind)
    (both_true (not (label d.pd == 0)) (is_domain n (target_domain k d)) (ap not (ne_eqb (label d.pd) 0 some)) (ap (is_domain n) to ∙ eq-eqb n n refl))

not_both : (b : Bool) → b ≡ true → not b ≡ true → ⊥
not_both true is none = absurd (cc)
not_both false is none = absurd (cc)

-- ROLES

-- a trusted domain of a role
pub record IsBare (k : KernelState) (label : ℕ → ℕ) (n : ℕ) : Type 0 where
  pub trusted : label n ≡ 0
  pub there : slice_get k.objects n ≡ Some Pd
  pub bare : is_bare k label n ≡ true

pub record IsMute (k : KernelState) (label : ℕ → ℕ) (n : ℕ) : Type 0 where
  pub trusted : label n ≡ 0
  pub there : slice_get k.objects n ≡ Some Pd
  pub other : is_bare k label n ≡ false
  pub mute : is_mute k label n ≡ true

-- the sides, with what is trusted and not at rest
abbrev pub Living : KernelState → (ℕ → ℕ) → ℕ → Type 0
Living k label n = (label n ≢ 0) ⊎ (IsBare k label n ⊎ IsMute k label n)

module _ (k : KernelState) (label : ℕ → ℕ) (tables : HasTables k) (n : ℕ) where
  -- at rest
  module _ (rests : is_at_rest k label n ≡ true) where
    parts : (list_all (rests_by k label n) k.delegations.list ≡ true) × (list_all (rests_in k n) (enumerate_from 0 k.objects) ≡ true)
    parts = and_parts (list_all (rests_by k label n) k.delegations.list) (list_all (rests_in k n) (enumerate_from 0 k.objects)) rests

    pub rest_unreached : (d : Derivation) → Contains k.delegations.list d → d.kind ≡ Obj → label d.pd ≢ 0 → target_domain k d ≡ Some n → ⊥
    rest_unreached d there kind some to =
        not_both (is_reached_by k label n d) (is_reached k label n d kind some to) (of_one (rests_by k label n) k.delegations.list d parts.0 there)

    pub rest_resting : (ec : ℕ) (x : EcState) → context_at k ec ≡ Some x → pd_of k ec ≡ n → is_resting k (is_other n) x ≡ true
    rest_resting ec x at of =
        let m = context_ec k ec tables (ap (λ (o : Option EcState). is_some o) at) in
        let own : m.domain ≡ n = sym (same_domain k ec m) ∙ of in
        if_there (is_resting k (is_other n)) (context_at k ec) x
        (then_true (m.domain == n) (is_if_there (is_resting k (is_other n)) (context_at k ec)) (of_number (rests_in k n) k.objects ec (Ec m.domain m.cpu m.kind m.event) parts.1 m.object) (eq-eqb m.domain n own)) at

  -- bare
  module _ (bare : is_bare k label n ≡ true) where
    bare_parts : (list_all (is_bare_by k label n) k.delegations.list ≡ true) × (list_all (is_bare_in k n) (enumerate_from 0 k.objects) ≡ true)
    bare_parts = and_parts (list_all (is_bare_by k label n) k.delegations.list) (list_all (is_bare_in k n) (enumerate_from 0 k.objects)) bare

    bare_one : (d : Derivation) → Contains k.delegations.list d → (not (is_held n d) ≡ true) × ((not (is_reached_by k label n d) || is_powerless d.rights (slice_get k.objects d.target)) ≡ true)
    bare_one d there =
        and_parts (not (is_held n d)) (not (is_reached_by k label n d) || is_powerless d.rights (slice_get k.objects d.target)) (of_one (is_bare_by k label n) k.delegations.list d bare_parts.0 there)

    pub bare_holds : (d : Derivation) → Contains k.delegations.list d → d.kind ≡ Obj → d.pd ≡ n → ⊥
    bare_holds d there kind of = not_both (is_held n d) (is_held_by n d kind of) (bare_one d there).0

    pub bare_weak : (d : Derivation) → Contains k.delegations.list d → d.kind ≡ Obj → label d.pd ≢ 0 → target_domain k d ≡ Some n → is_powerless d.rights (slice_get k.objects d.target) ≡ true
    bare_weak d there kind some to =
        then_true (is_reached_by k label n d) (is_powerless d.rights (slice_get k.objects d.target)) (bare_one d there).1 (is_reached k label n d kind some to)

    pub bare_context : (ec : ℕ) (x : EcState) → context_at k ec ≡ Some x → pd_of k ec ≡ n → (waits_for_none (edge_of x.state) ≡ true) × ((is_no_grant x.state && is_uncalled x.caller) ≡ true)
    bare_context ec x at of =
        let m = context_ec k ec tables (ap (λ (o : Option EcState). is_some o) at) in
        let own : m.domain ≡ n = sym (same_domain k ec m) ∙ of in
        and_parts (waits_for_none (edge_of x.state)) (is_no_grant x.state && is_uncalled x.caller)
        (if_there (λ (y : EcState). waits_for_none (edge_of y.state) && (is_no_grant y.state && is_uncalled y.caller)) (context_at k ec) x
        (then_true (m.domain == n) (is_if_there (λ (y : EcState). waits_for_none (edge_of y.state) && (is_no_grant y.state && is_uncalled y.caller)) (context_at k ec))
        (of_number (is_bare_in k n) k.objects ec (Ec m.domain m.cpu m.kind m.event) bare_parts.1 m.object) (eq-eqb m.domain n own)) at)

  -- mute
  module _ (mute : is_mute k label n ≡ true) where
    mute_parts : (list_all (is_mute_by k label n) k.delegations.list ≡ true) × (list_all (is_mute_in k label n) (enumerate_from 0 k.objects) ≡ true)
    mute_parts = and_parts (list_all (is_mute_by k label n) k.delegations.list) (list_all (is_mute_in k label n) (enumerate_from 0 k.objects)) mute

    mute_one : (d : Derivation) → Contains k.delegations.list d → (not (is_reached_by k label n d) ≡ true) × ((not (is_held n d) || (is_none_or n (target_domain k d) || is_controlled k label d)) ≡ true)
    mute_one d there =
        and_parts (not (is_reached_by k label n d)) (not (is_held n d) || (is_none_or n (target_domain k d) || is_controlled k label d)) (of_one (is_mute_by k label n) k.delegations.list d mute_parts.0 there)

    pub mute_unreached : (d : Derivation) → Contains k.delegations.list d → d.kind ≡ Obj → label d.pd ≢ 0 → target_domain k d ≡ Some n → ⊥
    mute_unreached d there kind some to = not_both (is_reached_by k label n d) (is_reached k label n d kind some to) (mute_one d there).0

    pub mute_own : (d : Derivation) → Contains k.delegations.list d → d.kind ≡ Obj → d.pd ≡ n → (is_none_or n (target_domain k d) ≡ true) ⊎ (is_controlled k label d ≡ true)
    mute_own d there kind of =
        or_cases (is_none_or n (target_domain k d)) (is_controlled k label d)
        (then_true (is_held n d) (is_none_or n (target_domain k d) || is_controlled k label d) (mute_one d there).1 (is_held_by n d kind of))

    mute_at : (ec : ℕ) (m : IsEc k ec) →
        ((not (m.domain == n) || is_if_there (λ (y : EcState). waits_within k n (edge_of y.state) && gives_no_first y.state) (context_at k ec)) ≡ true)
        × (((label m.domain == 0) || is_if_there (λ (y : EcState). waits_without k n (edge_of y.state)) (context_at k ec)) ≡ true)
    mute_at ec m =
        and_parts (not (m.domain == n) || is_if_there (λ (y : EcState). waits_within k n (edge_of y.state) && gives_no_first y.state) (context_at k ec))
        ((label m.domain == 0) || is_if_there (λ (y : EcState). waits_without k n (edge_of y.state)) (context_at k ec))
        (of_number (is_mute_in k label n) k.objects ec (Ec m.domain m.cpu m.kind m.event) mute_parts.1 m.object)

    pub mute_context : (ec : ℕ) (x : EcState) → context_at k ec ≡ Some x → pd_of k ec ≡ n → (waits_within k n (edge_of x.state) ≡ true) × (gives_no_first x.state ≡ true)
    mute_context ec x at of =
        let m = context_ec k ec tables (ap (λ (o : Option EcState). is_some o) at) in
        let own : m.domain ≡ n = sym (same_domain k ec m) ∙ of in
        and_parts (waits_within k n (edge_of x.state)) (gives_no_first x.state)
        (if_there (λ (y : EcState). waits_within k n (edge_of y.state) && gives_no_first y.state) (context_at k ec) x
        (then_true (m.domain == n) (is_if_there (λ (y : EcState). waits_within k n (edge_of y.state) && gives_no_first y.state) (context_at k ec)) (mute_at ec m).0 (eq-eqb m.domain n own)) at)

    pub side_context : (ec : ℕ) (x : EcState) → context_at k ec ≡ Some x → label (pd_of k ec) ≢ 0 → waits_without k n (edge_of x.state) ≡ true
    side_context ec x at some =
        let m = context_ec k ec tables (ap (λ (o : Option EcState). is_some o) at) in
        let sided : (label m.domain == 0) ≡ false = ne_eqb (label m.domain) 0 (λ none. some (ap label (same_domain k ec m) ∙ none)) in
        if_there (λ (y : EcState). waits_without k n (edge_of y.state)) (context_at k ec) x
        (subst (λ (b : Bool). (b || is_if_there (λ (y : EcState). waits_without k n (edge_of y.state)) (context_at k ec)) ≡ true) sided (mute_at ec m).1) at

-- what a trusted domain is
pub data Role (k : KernelState) (label : ℕ → ℕ) (n : ℕ) : Type 0 where
  Bare : IsBare k label n → Role k label n
  Mute : IsMute k label n → Role k label n
  Rests : is_at_rest k label n ≡ true → is_mute k label n ≡ false → Role k label n

pub role : (k : KernelState) (label : ℕ → ℕ) (n : ℕ) → AreHarmless k label → label n ≡ 0 → slice_get k.objects n ≡ Some Pd → Role k label n
role k label n harmless trusted there = by_bare (is_bare k label n) refl
  where
    rests : is_bare k label n ≡ false → is_mute k label n ≡ false → (is_at_rest k label n ≡ true) ⊎ ((is_bare k label n || is_mute k label n) ≡ true) → Role k label n
    rests other others (inl rests_) = Rests rests_ others
    rests other others (inr both) =
        let none : (is_bare k label n || is_mute k label n) ≡ false = rw (other, others) refl in
        let off : true ≡ false = sym both ∙ none in absurd (cc)

    by_mute : is_bare k label n ≡ false → (b : Bool) → is_mute k label n ≡ b → Role k label n
    by_mute other true is = Mute (record { trusted = trusted; there = there; other = other; mute = is })
    by_mute other false is = rests other is (or_cases (is_at_rest k label n) (is_bare k label n || is_mute k label n) (harmless.trusted n trusted there))

    by_bare : (b : Bool) → is_bare k label n ≡ b → Role k label n
    by_bare true is = Bare (record { trusted = trusted; there = there; bare = is })
    by_bare false is = by_mute is (is_mute k label n) refl
