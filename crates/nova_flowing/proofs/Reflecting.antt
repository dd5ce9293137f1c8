-- Tests, and what they are tests of.
use Rattle.std.proofs.Common.{◌≡◌, ◌≢◌, ℕ, List, [], ◌∷◌, refl, sym, ap, ◌∙◌, inl, inr}
use Rattle.std.specs.Prelude.{◌==◌, ◌&&◌, Bool, true, false, not, slice_get, Option, Some, None, option_map, option_and_then}
use Rattle.std.specs.List.{AllByRecursion, list_any}
use Rattle.std.specs.Option.{option_or}
use Rattle.std.proofs.lemmas.Bool.{and_from, and_parts, eq-eqb, eqb-true, false_from_ne_true, not-true, or_cases, or_left, or_right}
use Rattle.std.proofs.lemmas.Option.{same_Some}
use Rattle.nova_objects.specs.declared.object.Object.{Object}
use Rattle.nova_objects.specs.declared.object.Object.TheVariants.{Pd, Ec, Sc, Pt, Sm}
use Rattle.nova_range.specs.declared.range.Kind.{Kind}
use Rattle.nova_range.specs.declared.range.Kind.TheVariants.{Mem, Obj}
use Rattle.nova_model.specs.Delegations.{is_memory}
use Rattle.nova_model.specs.Edges.{caller_in, edge, edge_of, state_in}
use Rattle.nova_model.specs.State.{KernelState, context, context_at, context_in}
use Rattle.nova_model.specs.declared.context.EcState.{EcState}
use Rattle.nova_model.specs.declared.context.Mark.{Mark}
use Rattle.nova_model.specs.declared.context.State.{State}
use Rattle.nova_model.specs.declared.context.State.TheVariants.{Blocked, Dead, Granting}
use Rattle.nova_model.specs.declared.delegation.Derivation.{Derivation}
use Rattle.law_forest.proofs.Members.{IsIn, contains_from_in, in_from_contains}
use Rattle.law_integrity.specs.Confined.{HoldsAny, IsMember, IsOwned, Of}
use Rattle.nova_flowing.specs.Leaks.{first_some, when}
use Rattle.nova_flowing.specs.Tests.{blocked_at, caller_of, first_of, holds, is_held, is_member, is_of, is_owned, is_some_with, leads_there}
use Rattle.nova_flowing.specs.declared.leak.Field.{Field}
use Rattle.nova_flowing.specs.declared.leak.Place.{Place}

-- BOTH, AND NEITHER

pub not_both : (b : Bool) → b ≡ true → b ≡ false → ⊥
not_both true passes fails = absurd (cc)
not_both false passes fails = absurd (cc)

-- of two tests that don't both pass
pub neither : (a b : Bool) → (a && b) ≡ false → a ≡ true → b ≡ true → ⊥
neither a b off first second = not_both (a && b) (and_from a b first second) off

pub second_is : (a b : Bool) → (a && not b) ≡ false → a ≡ true → b ≡ true
second_is a true off first = refl
second_is a false off first = absurd (neither a true off first refl)

pub first_is : (a b : Bool) → (not a && b) ≡ false → b ≡ true → a ≡ true
first_is true b off second = refl
first_is false b off second = absurd (neither true b off refl second)

pub off_if : (a b : Bool) → (a ≡ true → b ≡ true → ⊥) → (a && b) ≡ false
off_if a b never = false_from_ne_true (a && b) (λ both. let parts = and_parts a b both in never parts.0 parts.1)

-- the second test isn't passed where the first is
pub off_unless : (a b : Bool) → (a ≡ true → b ≡ true) → (a && not b) ≡ false
off_unless a b so = off_if a (not b) (λ first second. not_both b (so first) (not-true b second))

-- PARTS THAT FAIL

pub none_left : {T : Type 0} (a b : Option T) → option_or a b ≡ None → a ≡ None
none_left None b is = refl
none_left (Some x) b is = absurd (cc)

pub none_right : {T : Type 0} (a b : Option T) → option_or a b ≡ None → b ≡ None
none_right None b is = is
none_right (Some x) b is = absurd (cc)

pub none_both : {T : Type 0} (a b : Option T) → a ≡ None → b ≡ None → option_or a b ≡ None
none_both None b first second = second
none_both (Some x) b first second = absurd (cc)

pub when_off : (t : Bool) (field : Field) (place : Place) → when t field place ≡ None → t ≡ false
when_off true field place is = absurd (cc)
when_off false field place is = refl

pub off_when : (t : Bool) (field : Field) (place : Place) → t ≡ false → when t field place ≡ None
off_when true field place is = absurd (cc)
off_when false field place is = refl

module _ {X Y : Type 0} (f : X → Option Y) where
  pub first_none : (xs : List X) → first_some f xs ≡ None → AllByRecursion (λ (x : X). f x ≡ None) xs
  first_none [] is = tt
  first_none (x ∷ xs) is = (none_left (f x) (first_some f xs) is, first_none xs (none_right (f x) (first_some f xs) is))

  pub none_first : (xs : List X) → AllByRecursion (λ (x : X). f x ≡ None) xs → first_some f xs ≡ None
  none_first [] all = refl
  none_first (x ∷ xs) all = none_both (f x) (first_some f xs) all.0 (none_first xs all.1)

pub any_found : {X : Type 0} (p : X → Bool) (xs : List X) → list_any p xs ≡ true → (x : X) × IsIn xs x × (p x ≡ true)
any_found p [] is = absurd (cc)
any_found p (x ∷ xs) is = elim (or_cases (p x) (list_any p xs) is) [
  | inl here ↦ (x, inl refl, here)
  | inr later ↦ (let its = any_found p xs later in (its.0, inr its.1, its.2))
]

pub found_any : {X : Type 0} (p : X → Bool) (xs : List X) (x : X) → IsIn xs x → p x ≡ true → list_any p xs ≡ true
found_any p [] x i is = absurd i
found_any p (y ∷ ys) x (inl same) is = or_left (p y) (list_any p ys) (ap p same ∙ is)
found_any p (y ∷ ys) x (inr i) is = or_right (p y) (list_any p ys) (found_any p ys x i is)

-- WHOSE AN OBJECT IS

pub member_is : (k : KernelState) (S : ℕ → Bool) (n : ℕ) → is_member k S n ≡ true → IsMember k (Of S) n
member_is k S n is = by_object (slice_get k.objects n) refl is
  where
    by_object : (o : Option Object) → slice_get k.objects n ≡ o → is_of S o ≡ true → IsMember k (Of S) n
    by_object (Some (Ec pd cpu kind event)) at h = record { domain = pd; cpu = cpu; kind = kind; event = event; object = at; of = h }
    by_object (Some Pd) at h = absurd (cc)
    by_object (Some (Sc donor cpu priority quantum)) at h = absurd (cc)
    by_object (Some (Pt handler mtd ip)) at h = absurd (cc)
    by_object (Some Sm) at h = absurd (cc)
    by_object None at h = absurd (cc)

pub member_on : (k : KernelState) (S : ℕ → Bool) (n : ℕ) → IsMember k (Of S) n → is_member k S n ≡ true
member_on k S n m = ap (is_of S) m.object ∙ m.of

pub owned_is : (k : KernelState) (S : ℕ → Bool) (n : ℕ) (o : Option Object) → is_owned k S n o ≡ true → IsOwned k (Of S) n o
owned_is k S n (Some Pd) is = is
owned_is k S n (Some (Ec pd cpu kind event)) is = is
owned_is k S n (Some (Sc donor cpu priority quantum)) is = member_is k S donor is
owned_is k S n (Some (Pt handler mtd ip)) is = member_is k S handler is
owned_is k S n (Some Sm) is = tt
owned_is k S n None is = tt

pub owned_on : (k : KernelState) (S : ℕ → Bool) (n : ℕ) (o : Option Object) → IsOwned k (Of S) n o → is_owned k S n o ≡ true
owned_on k S n (Some Pd) own = own
owned_on k S n (Some (Ec pd cpu kind event)) own = own
owned_on k S n (Some (Sc donor cpu priority quantum)) own = member_on k S donor own
owned_on k S n (Some (Pt handler mtd ip)) own = member_on k S handler own
owned_on k S n (Some Sm) own = refl
owned_on k S n None own = refl

-- CAPABILITIES

pub obj_is : (kind : Kind) → not (is_memory kind) ≡ true → kind ≡ Obj
obj_is Mem is = absurd (cc)
obj_is Obj is = refl

pub mem_is : (kind : Kind) → is_memory kind ≡ true → kind ≡ Mem
mem_is Mem is = refl
mem_is Obj is = absurd (cc)

pub held_is : (S : ℕ → Bool) (d : Derivation) → is_held S d ≡ true → (S d.pd ≡ true) × (d.kind ≡ Obj)
held_is S d is = let parts = and_parts (S d.pd) (not (is_memory d.kind)) is in (parts.0, obj_is d.kind parts.1)

pub held_on : (S : ℕ → Bool) (d : Derivation) → S d.pd ≡ true → d.kind ≡ Obj → is_held S d ≡ true
held_on S d s kind = and_from (S d.pd) (not (is_memory d.kind)) s (ap (λ (its : Kind). not (is_memory its)) kind)

pub holds_is : (k : KernelState) (S : ℕ → Bool) (object : ℕ) → holds k.delegations.list S object ≡ true → HoldsAny k (Of S) object
holds_is k S object is =
    let its = any_found (leads_there S object) k.delegations.list is in
    let parts = and_parts (is_held S its.0) (its.0.target == object) its.2 in
    let held = held_is S its.0 parts.0 in
    record { capability = its.0; there = contains_from_in k.delegations.list its.0 its.1; of = held.0; kind = held.1; leads = eqb-true its.0.target object parts.1 }

pub holds_on : (k : KernelState) (S : ℕ → Bool) (object : ℕ) → HoldsAny k (Of S) object → holds k.delegations.list S object ≡ true
holds_on k S object h =
    found_any (leads_there S object) k.delegations.list h.capability (in_from_contains k.delegations.list h.capability h.there)
    (and_from (is_held S h.capability) (h.capability.target == object) (held_on S h.capability h.of h.kind) (eq-eqb h.capability.target object h.leads))

-- EXECUTION CONTEXTS

-- the one that is there, with what is known of it
pub record Here {T : Type 0} (k : KernelState) (n : ℕ) (f : EcState → T) (value : T) : Type 0 where
  pub x : EcState
  pub there : context_at k n ≡ Some x
  pub is : f x ≡ value

abbrev pub state_of : EcState → State
state_of x = x.state

pub state_here : (k : KernelState) (n : ℕ) (s : State) → state_in k.contexts n ≡ Some s → Here k n state_of s
state_here k n s is = by_entry (context_at k n) refl is
  where
    by_entry : (o : Option EcState) → context_at k n ≡ o → option_map (λ (x : EcState). x.state) o ≡ Some s → Here k n state_of s
    by_entry None at h = absurd (cc)
    by_entry (Some x) at h = record { x = x; there = at; is = same_Some x.state s h }

pub context_here : (k : KernelState) (n : ℕ) (s : State) → s ≢ Dead → (context k n).state ≡ s → Here k n state_of s
context_here k n s alive is = by_entry (context_at k n) refl is
  where
    by_entry : (o : Option EcState) → context_at k n ≡ o → (context_in o).state ≡ s → Here k n state_of s
    by_entry None at h = absurd (alive (sym h))
    by_entry (Some x) at h = record { x = x; there = at; is = h }

pub here_context : (k : KernelState) (n : ℕ) (x : EcState) → context_at k n ≡ Some x → (context k n).state ≡ x.state
here_context k n x at = ap (λ (o : Option EcState). (context_in o).state) at

pub here_state : (k : KernelState) (n : ℕ) (x : EcState) → context_at k n ≡ Some x → state_in k.contexts n ≡ Some x.state
here_state k n x at = ap (option_map (λ (y : EcState). y.state)) at

abbrev pub edge_in : EcState → Option ℕ
edge_in x = edge_of x.state

pub edge_here : (k : KernelState) (n handler : ℕ) → edge k.contexts n ≡ Some handler → Here k n edge_in (Some handler)
edge_here k n handler is = by_entry (context_at k n) refl is
  where
    by_entry : (o : Option EcState) → context_at k n ≡ o → option_and_then edge_of (option_map (λ (x : EcState). x.state) o) ≡ Some handler → Here k n edge_in (Some handler)
    by_entry None at h = absurd (cc)
    by_entry (Some x) at h = record { x = x; there = at; is = h }

pub here_edge : (k : KernelState) (n : ℕ) (x : EcState) → context_at k n ≡ Some x → edge k.contexts n ≡ edge_of x.state
here_edge k n x at = ap (λ (o : Option EcState). option_and_then edge_of (option_map (λ (y : EcState). y.state) o)) at

abbrev pub callers_of : EcState → Option (ℕ × Mark)
callers_of x = x.caller

pub caller_here : (k : KernelState) (n caller : ℕ) (mark : Mark) → caller_in k.contexts n ≡ Some (caller, mark) → Here k n callers_of (Some (caller, mark))
caller_here k n caller mark is = by_entry (context_at k n) refl is
  where
    by_entry : (o : Option EcState) → context_at k n ≡ o → option_and_then (λ (x : EcState). x.caller) o ≡ Some (caller, mark) → Here k n callers_of (Some (caller, mark))
    by_entry None at h = absurd (cc)
    by_entry (Some x) at h = record { x = x; there = at; is = h }

-- what is there passes a test
pub some_with : (p : ℕ → Bool) (o : Option ℕ) (n : ℕ) → o ≡ Some n → p n ≡ true → is_some_with p o ≡ true
some_with p o n is passes = ap (is_some_with p) is ∙ passes

pub with_some : (p : ℕ → Bool) (o : Option ℕ) → is_some_with p o ≡ true → (n : ℕ) × (o ≡ Some n) × (p n ≡ true)
with_some p None is = absurd (cc)
with_some p (Some n) is = (n, refl, is)

pub blocked_is : (s : State) (sm : ℕ) → blocked_at s ≡ Some sm → s ≡ Blocked sm
blocked_is (Blocked other) sm is = ap Blocked (same_Some other sm is)
blocked_is other sm is = absurd (cc)

pub first_is_given : (s : State) (new : ℕ) → first_of s ≡ Some new → s ≡ Granting (Some new)
first_is_given (Granting other) new is = ap Granting is
first_is_given other new is = absurd (cc)

pub caller_is : (c : Option (ℕ × Mark)) (caller : ℕ) → caller_of c ≡ Some caller → (mark : Mark) × (c ≡ Some (caller, mark))
caller_is (Some (other, mark)) caller is = (mark, ap (λ n. Some (n, mark)) (same_Some other caller is))
caller_is None caller is = absurd (cc)
