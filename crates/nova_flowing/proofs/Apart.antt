-- Being apart: no part of it fails exactly where it holds, if who is quiet is idle.
use Rattle.std.proofs.Common.{◌≡◌, ◌⊎◌, ℕ, refl, sym, ap, ◌∙◌, inl, inr}
use Rattle.std.specs.Prelude.{◌==◌, ◌&&◌, ◌||◌, Bool, true, false, not, is_some, Contains, slice_get, Option, Some, None, option_and_then}
use Rattle.std.specs.List.{AllByRecursion, enumerate_from, list_any}
use Rattle.std.proofs.lemmas.Bool.{and_from, and_parts, eq-eqb, eqb-true, not-true, not_from_false, or_cases, or_from, or_left, or_parts, or_right, true_from_ne_false}
use Rattle.nova_objects.specs.declared.object.Object.{Object}
use Rattle.nova_objects.specs.declared.object.Object.TheVariants.{Pd, Ec, Sc, Pt, Sm}
use Rattle.nova_model.specs.Edges.{edge_of}
use Rattle.nova_model.specs.State.{KernelState, context, context_at}
use Rattle.nova_model.specs.declared.context.EcState.{EcState}
use Rattle.nova_model.specs.declared.context.State.{State}
use Rattle.nova_model.specs.declared.context.State.TheVariants.{Blocked, Granting}
use Rattle.nova_model.specs.declared.delegation.Derivation.{Derivation}
use Rattle.law_forest.proofs.Members.{IsIn, all_at, all_from, contains_from_in, in_from_contains}
use Rattle.law_turns.specs.Tables.{HasTables}
use Rattle.law_integrity.specs.Confined.{AreSetsApart, IsClosed, IsIdle, IsMember, Of, WaitsApart}
use Rattle.law_integrity.proofs.Labels.{context_ec}
use Rattle.law_sides.proofs.Lists.{in_numbered, numbered_at}
use Rattle.nova_objects.specs.ObjectTables.{is_domain}
use Rattle.nova_flowing.specs.Leaks.{apart_at, apart_in, at_cap, at_context, leak_at, leak_by}
use Rattle.nova_flowing.specs.Tests.{blocked_at, first_of, gives_without, holds, is_blocked_at, is_foreign, is_held, is_member, is_of, is_of_neither, is_owned, is_quiet, is_some_with, queues_of, stirs, waits_at_theirs, waits_beside, waits_from_without}
use Rattle.nova_flowing.specs.declared.leak.Field.TheVariants as field
use Rattle.nova_flowing.specs.declared.leak.Place.TheVariants.{Object as AtObject}
use Rattle.nova_flowing.specs.declared.leak.Premise.TheVariants.{Apart}
use Rattle.nova_flowing.proofs.Finding.{numbered_here}
use Rattle.nova_flowing.proofs.Quiet.{quiet_from}
use Rattle.nova_flowing.proofs.Reflecting.{any_found, blocked_is, context_here, edge_here, first_is, first_is_given, found_any, held_is, held_on, here_context, here_edge, holds_is, holds_on, member_is, member_on, neither, none_both, none_left, none_right, not_both, off_if, off_unless, off_when, owned_is, owned_on, second_is, some_with, when_off, with_some}

-- what is a domain
pub is_pd : (o : Object) → is_domain (Some o) ≡ true → o ≡ Pd
is_pd Pd is = refl
is_pd (Ec pd cpu kind event) is = absurd (cc)
is_pd (Sc donor cpu priority quantum) is = absurd (cc)
is_pd (Pt handler mtd ip) is = absurd (cc)
is_pd Sm is = absurd (cc)

-- one that is blocked at a semaphore
blocked_test : (sm : ℕ) (s : State) → s ≡ Blocked sm → is_some_with (λ (other : ℕ). other == sm) (blocked_at s) ≡ true
blocked_test sm s is = ap (λ (t : State). is_some_with (λ (other : ℕ). other == sm) (blocked_at t)) is ∙ eq-eqb sm sm refl

pub test_blocked : (sm : ℕ) (s : State) → is_some_with (λ (other : ℕ). other == sm) (blocked_at s) ≡ true → s ≡ Blocked sm
test_blocked sm s is =
    let its = with_some (λ (other : ℕ). other == sm) (blocked_at s) is in
    blocked_is s its.0 its.1 ∙ ap Blocked (eqb-true its.0 sm its.2)

pub blocked_here : (k : KernelState) (n sm : ℕ) (x : EcState) → context_at k n ≡ Some x → x.state ≡ Blocked sm → is_blocked_at sm (context_at k n) ≡ true
blocked_here k n sm x at is = ap (is_blocked_at sm) at ∙ blocked_test sm x.state is

pub record IsBlocked (k : KernelState) (n sm : ℕ) : Type 0 where
  pub x : EcState
  pub there : context_at k n ≡ Some x
  pub blocked : x.state ≡ Blocked sm

pub is_blocked_there : (k : KernelState) (n sm : ℕ) → is_blocked_at sm (context_at k n) ≡ true → IsBlocked k n sm
is_blocked_there k n sm is = by_entry (context_at k n) refl is
  where
    by_entry : (o : Option EcState) → context_at k n ≡ o → is_blocked_at sm o ≡ true → IsBlocked k n sm
    by_entry None at h = absurd (cc)
    by_entry (Some x) at h = record { x = x; there = at; blocked = test_blocked sm x.state h }

-- NO PART FAILS

-- what the tests say of a set, where none fails
record AreOff (k : KernelState) (S : ℕ → Bool) : Type 0 where
  there : (n : ℕ) → S n ≡ true → slice_get k.objects n ≡ Some Pd
  foreign : (d : Derivation) → Contains k.delegations.list d → is_foreign k S d ≡ false
  waits : (n : ℕ) (x : EcState) → context_at k n ≡ Some x → waits_from_without k S n x.state ≡ false
  gives : (n : ℕ) (x : EcState) → context_at k n ≡ Some x → gives_without k S n x.state ≡ false

closed_off : (k : KernelState) (S : ℕ → Bool) → AreOff k S → IsClosed k (Of S)
closed_off k S off = record {
  there = off.there;
  capabilities = λ d has s kind. owned_is k S d.target (slice_get k.objects d.target)
      (second_is (is_held S d) (is_owned k S d.target (slice_get k.objects d.target)) (off.foreign d has) (held_on S d s kind));
  edges = λ waiter handler is m.
      let here = edge_here k waiter handler is in
      member_is k S waiter (first_is (is_member k S waiter) (is_some_with (is_member k S) (edge_of here.x.state)) (off.waits waiter here.x here.there)
      (some_with (is_member k S) (edge_of here.x.state) handler here.is (member_on k S handler m)));
  firsts = λ ec new is m.
      let here = context_here k ec (Granting (Some new)) (λ same. cc) is in
      true_from_ne_false (S new) (λ out. neither (is_member k S ec) (is_some_with (λ (n : ℕ). not (S n)) (first_of here.x.state)) (off.gives ec here.x here.there) (member_on k S ec m)
      (some_with (λ (n : ℕ). not (S n)) (first_of here.x.state) new (ap first_of here.is) (not_from_false (S new) out)));
}

module _ (k : KernelState) (S T : ℕ → Bool) (tables : HasTables k) where
  -- of an execution context none of these fails
  record AreCalm (n : ℕ) (s : State) : Type 0 where
    waits : waits_from_without k S n s ≡ false
    others_wait : waits_from_without k T n s ≡ false
    gives : gives_without k S n s ≡ false
    others_give : gives_without k T n s ≡ false
    stirs : stirs k S T n s ≡ false
    at_theirs : waits_at_theirs k S T n s ≡ false
    at_ours : waits_at_theirs k T S n s ≡ false
    beside : waits_beside k S T n s ≡ false

  calm_off : (n : ℕ) (x : EcState) → apart_in k S T n x ≡ None → AreCalm n x.state
  calm_off n x none =
      let one = or_parts (waits_from_without k S n x.state) (waits_from_without k T n x.state) (when_off _ field.Waiters (at_context n x) (none_left _ _ none)) in
      let rest = none_right _ _ none in
      let two = or_parts (gives_without k S n x.state) (gives_without k T n x.state) (when_off _ field.Firsts (at_context n x) (none_left _ _ rest)) in
      let more = none_right _ _ rest in
      let last = none_right _ _ more in
      let four = or_parts (waits_at_theirs k S T n x.state) (waits_at_theirs k T S n x.state) (when_off _ field.Waits (at_context n x) (none_left _ _ last)) in
      record {
        waits = one.0;
        others_wait = one.1;
        gives = two.0;
        others_give = two.1;
        stirs = when_off _ field.Rest (at_context n x) (none_left _ _ more);
        at_theirs = four.0;
        at_ours = four.1;
        beside = when_off _ field.Queues (at_context n x) (none_right _ _ last);
      }

  -- nothing fails of the state
  pub record AreNone : Type 0 where
    pub by : AllByRecursion (λ (d : Derivation). leak_by k S T S Apart d ≡ None) k.delegations.list
    pub at : AllByRecursion (λ (e : ℕ × Object). leak_at k S T S S Apart e ≡ None) (enumerate_from 0 k.objects)
    pub own : (n : ℕ) → S n ≡ true → (o : Object) × (slice_get k.objects n ≡ Some o)
    pub others : (n : ℕ) → T n ≡ true → (o : Object) × (slice_get k.objects n ≡ Some o)
    pub idle : (n : ℕ) (x : EcState) → context_at k n ≡ Some x → is_of_neither k S T n ≡ true → is_quiet k S T x.state ≡ true → IsIdle k (Of S) (Of T) n x.state

  module _ (none : AreNone) where
    by_off : (d : Derivation) → Contains k.delegations.list d → leak_by k S T S Apart d ≡ None
    by_off d has = all_at (λ (e : Derivation). leak_by k S T S Apart e ≡ None) k.delegations.list d none.by (in_from_contains k.delegations.list d has)

    at_off : (n : ℕ) (o : Object) → slice_get k.objects n ≡ Some o → apart_at k S T n o ≡ None
    at_off n o is = numbered_at (λ (e : ℕ × Object). leak_at k S T S S Apart e ≡ None) k.objects n o none.at is

    calm : (n : ℕ) (x : EcState) → context_at k n ≡ Some x → AreCalm n x.state
    calm n x there =
        let m = context_ec k n tables (ap (λ (o : Option EcState). is_some o) there) in
        calm_off n x (sym (ap (option_and_then (apart_in k S T n)) there) ∙ none_right _ _ (none_right _ _ (at_off n (Ec m.domain m.cpu m.kind m.event) m.object)))

    foreign_off : (d : Derivation) → Contains k.delegations.list d → (is_foreign k S d ≡ false) × (is_foreign k T d ≡ false)
    foreign_off d has = or_parts (is_foreign k S d) (is_foreign k T d) (when_off _ field.Capabilities (at_cap d) (none_left _ _ (by_off d has)))

    domain_off : (n : ℕ) → (S n || T n) ≡ true → (e : (o : Object) × (slice_get k.objects n ≡ Some o)) → slice_get k.objects n ≡ Some Pd
    domain_off n some e =
        let test = when_off _ field.There (AtObject n) (none_left _ _ (at_off n e.0 e.1)) in
        e.1 ∙ ap Some (is_pd e.0 (second_is (S n || T n) (is_domain (Some e.0)) test some))

    first_off : AreOff k S
    first_off = record {
      there = λ n s. domain_off n (or_left (S n) (T n) s) (none.own n s);
      foreign = λ d has. (foreign_off d has).0;
      waits = λ n x there. (calm n x there).waits;
      gives = λ n x there. (calm n x there).gives;
    }

    second_off : AreOff k T
    second_off = record {
      there = λ n t. domain_off n (or_right (S n) (T n) t) (none.others n t);
      foreign = λ d has. (foreign_off d has).1;
      waits = λ n x there. (calm n x there).others_wait;
      gives = λ n x there. (calm n x there).others_give;
    }

    rest_off : (ec : ℕ) (x : EcState) → context_at k ec ≡ Some x → IsIdle k (Of S) (Of T) ec x.state ⊎ (IsMember k (Of S) ec ⊎ IsMember k (Of T) ec)
    rest_off ec x there = by_tests (is_member k S ec) refl (is_member k T ec) refl
      where
        by_tests : (a : Bool) → is_member k S ec ≡ a → (b : Bool) → is_member k T ec ≡ b → IsIdle k (Of S) (Of T) ec x.state ⊎ (IsMember k (Of S) ec ⊎ IsMember k (Of T) ec)
        by_tests true one b two = inr (inl (member_is k S ec one))
        by_tests false one true two = inr (inr (member_is k T ec two))
        by_tests false one false two =
            let out : is_of_neither k S T ec ≡ true = and_from (not (is_member k S ec)) (not (is_member k T ec)) (not_from_false (is_member k S ec) one) (not_from_false (is_member k T ec) two) in
            inl (none.idle ec x there out (second_is (is_of_neither k S T ec) (is_quiet k S T x.state) (calm ec x there).stirs out))

    wait_off : (U V : ℕ → Bool) → ((n : ℕ) (x : EcState) → context_at k n ≡ Some x → waits_at_theirs k U V n x.state ≡ false) → WaitsApart k (Of U) (Of V)
    wait_off U V off n sm is m h =
        let here = context_here k n (Blocked sm) (λ same. cc) is in
        neither (is_member k U n) (is_some_with (holds k.delegations.list V) (blocked_at here.x.state)) (off n here.x here.there) (member_on k U n m)
        (some_with (holds k.delegations.list V) (blocked_at here.x.state) sm (ap blocked_at here.is) (holds_on k V sm h))

    queue_off : (n m sm : ℕ) → (context k n).state ≡ Blocked sm → (context k m).state ≡ Blocked sm → IsMember k (Of S) n → IsMember k (Of T) m → ⊥
    queue_off n m sm is also mine theirs =
        let here = context_here k n (Blocked sm) (λ same. cc) is in
        let there = context_here k m (Blocked sm) (λ same. cc) also in
        let o : Object = Ec theirs.domain theirs.cpu theirs.kind theirs.event in
        neither (is_member k S n) (is_some_with (λ (s : ℕ). list_any (queues_of k T s) (enumerate_from 0 k.objects)) (blocked_at here.x.state)) (calm n here.x here.there).beside (member_on k S n mine)
        (some_with (λ (s : ℕ). list_any (queues_of k T s) (enumerate_from 0 k.objects)) (blocked_at here.x.state) sm (ap blocked_at here.is)
        (found_any (queues_of k T sm) (enumerate_from 0 k.objects) (m, o) (numbered_here k.objects m o theirs.object)
        (and_from (is_of T (Some o)) (is_blocked_at sm (context_at k m)) theirs.of (blocked_here k m sm there.x there.there there.is))))

    pub apart_none : AreSetsApart k (Of S) (Of T)
    apart_none = record {
      separate = record {
        first = closed_off k S first_off;
        second = closed_off k T second_off;
        disjoint = λ n s t.
            let e = none.own n s in
            neither (S n) (T n) (when_off _ field.Disjoint (AtObject n) (none_left _ _ (none_right _ _ (at_off n e.0 e.1)))) s t;
        rest = rest_off;
      };
      objects = λ object mine theirs.
          neither (is_held S mine.capability) (holds k.delegations.list T mine.capability.target)
          (when_off _ field.Objects (at_cap mine.capability) (none_right _ _ (by_off mine.capability mine.there))) (held_on S mine.capability mine.of mine.kind)
          (ap (holds k.delegations.list T) mine.leads ∙ holds_on k T object theirs);
      first = wait_off S T (λ n x there. (calm n x there).at_theirs);
      second = wait_off T S (λ n x there. (calm n x there).at_ours);
      queues = queue_off;
    }

-- WHERE IT HOLDS, NONE FAILS

module _ (k : KernelState) (S : ℕ → Bool) (closed : IsClosed k (Of S)) where
  foreign_no : (d : Derivation) → IsIn k.delegations.list d → is_foreign k S d ≡ false
  foreign_no d i = off_unless (is_held S d) (is_owned k S d.target (slice_get k.objects d.target)) (λ held.
      let h = held_is S d held in
      owned_on k S d.target (slice_get k.objects d.target) (closed.capabilities d (contains_from_in k.delegations.list d i) h.0 h.1))

  waits_no : (n : ℕ) (x : EcState) → context_at k n ≡ Some x → waits_from_without k S n x.state ≡ false
  waits_no n x at = off_if (not (is_member k S n)) (is_some_with (is_member k S) (edge_of x.state)) (λ out some.
      let its = with_some (is_member k S) (edge_of x.state) some in
      not_both (is_member k S n) (member_on k S n (closed.edges n its.0 (here_edge k n x at ∙ its.1) (member_is k S its.0 its.2))) (not-true (is_member k S n) out))

  gives_no : (n : ℕ) (x : EcState) → context_at k n ≡ Some x → gives_without k S n x.state ≡ false
  gives_no n x at = off_if (is_member k S n) (is_some_with (λ (m : ℕ). not (S m)) (first_of x.state)) (λ m some.
      let its = with_some (λ (m : ℕ). not (S m)) (first_of x.state) some in
      not_both (S its.0) (closed.firsts n its.0 (here_context k n x at ∙ first_is_given x.state its.0 its.1) (member_is k S n m)) (not-true (S its.0) its.2))

theirs_no : (k : KernelState) (U V : ℕ → Bool) → WaitsApart k (Of U) (Of V) → (n : ℕ) (x : EcState) → context_at k n ≡ Some x → waits_at_theirs k U V n x.state ≡ false
theirs_no k U V apart n x at = off_if (is_member k U n) (is_some_with (holds k.delegations.list V) (blocked_at x.state)) (λ m some.
    let its = with_some (holds k.delegations.list V) (blocked_at x.state) some in
    apart n its.0 (here_context k n x at ∙ blocked_is x.state its.0 its.1) (member_is k U n m) (holds_is k V its.0 its.2))

module _ (k : KernelState) (S T : ℕ → Bool) (apart : AreSetsApart k (Of S) (Of T)) where
  stirs_no : (n : ℕ) (x : EcState) → context_at k n ≡ Some x → stirs k S T n x.state ≡ false
  stirs_no n x at = off_unless (is_of_neither k S T n) (is_quiet k S T x.state) (λ out.
      let outs = and_parts (not (is_member k S n)) (not (is_member k T n)) out in
      by_rest outs.0 outs.1 (apart.separate.rest n x at))
    where
      by_rest : not (is_member k S n) ≡ true → not (is_member k T n) ≡ true → IsIdle k (Of S) (Of T) n x.state ⊎ (IsMember k (Of S) n ⊎ IsMember k (Of T) n) → is_quiet k S T x.state ≡ true
      by_rest one two (inl idle) = quiet_from k S T n x.state idle
      by_rest one two (inr (inl m)) = absurd (not_both (is_member k S n) (member_on k S n m) (not-true (is_member k S n) one))
      by_rest one two (inr (inr m)) = absurd (not_both (is_member k T n) (member_on k T n m) (not-true (is_member k T n) two))

  beside_no : (n : ℕ) (x : EcState) → context_at k n ≡ Some x → waits_beside k S T n x.state ≡ false
  beside_no n x at = off_if (is_member k S n) (is_some_with (λ (s : ℕ). list_any (queues_of k T s) (enumerate_from 0 k.objects)) (blocked_at x.state)) (λ m some.
      let its = with_some (λ (s : ℕ). list_any (queues_of k T s) (enumerate_from 0 k.objects)) (blocked_at x.state) some in
      let other = any_found (queues_of k T its.0) (enumerate_from 0 k.objects) its.2 in
      let parts = and_parts (is_of T (Some other.0.1)) (is_blocked_at its.0 (context_at k other.0.0)) other.2 in
      let there = is_blocked_there k other.0.0 its.0 parts.1 in
      let theirs = member_is k T other.0.0 (ap (is_of T) (in_numbered k.objects other.0 other.1) ∙ parts.0) in
      apart.queues n other.0.0 its.0 (here_context k n x at ∙ blocked_is x.state its.0 its.1) (here_context k other.0.0 there.x there.there ∙ there.blocked) (member_is k S n m) theirs)

  in_no : (n : ℕ) (x : EcState) → context_at k n ≡ Some x → apart_in k S T n x ≡ None
  in_no n x at =
      none_both _ _ (off_when _ field.Waiters (at_context n x) (or_from _ _ (waits_no k S apart.separate.first n x at) (waits_no k T apart.separate.second n x at)))
      (none_both _ _ (off_when _ field.Firsts (at_context n x) (or_from _ _ (gives_no k S apart.separate.first n x at) (gives_no k T apart.separate.second n x at)))
      (none_both _ _ (off_when _ field.Rest (at_context n x) (stirs_no n x at))
      (none_both _ _ (off_when _ field.Waits (at_context n x) (or_from _ _ (theirs_no k S T apart.first n x at) (theirs_no k T S apart.second n x at)))
      (off_when _ field.Queues (at_context n x) (beside_no n x at)))))

  there_no : (n : ℕ) (o : Object) → slice_get k.objects n ≡ Some o → ((S n || T n) && not (is_domain (Some o))) ≡ false
  there_no n o at = off_unless (S n || T n) (is_domain (Some o)) (λ some. elim (or_cases (S n) (T n) some) [
    | inl s ↦ ap is_domain (sym at ∙ apart.separate.first.there n s)
    | inr t ↦ ap is_domain (sym at ∙ apart.separate.second.there n t)
  ])

  pub none_by : AllByRecursion (λ (d : Derivation). leak_by k S T S Apart d ≡ None) k.delegations.list
  none_by = all_from (λ (d : Derivation). leak_by k S T S Apart d ≡ None) k.delegations.list (λ d i.
      none_both _ _ (off_when _ field.Capabilities (at_cap d) (or_from _ _ (foreign_no k S apart.separate.first d i) (foreign_no k T apart.separate.second d i)))
      (off_when _ field.Objects (at_cap d) (off_if (is_held S d) (holds k.delegations.list T d.target) (λ held h.
      let its = held_is S d held in
      apart.objects d.target (record { capability = d; there = contains_from_in k.delegations.list d i; of = its.0; kind = its.1; leads = refl }) (holds_is k T d.target h)))))

  pub none_at : AllByRecursion (λ (e : ℕ × Object). leak_at k S T S S Apart e ≡ None) (enumerate_from 0 k.objects)
  none_at = all_from (λ (e : ℕ × Object). leak_at k S T S S Apart e ≡ None) (enumerate_from 0 k.objects) (λ e i. one e.0 e.1 (in_numbered k.objects e i))
    where
      one : (n : ℕ) (o : Object) → slice_get k.objects n ≡ Some o → apart_at k S T n o ≡ None
      one n o at =
          none_both _ _ (off_when _ field.There (AtObject n) (there_no n o at))
          (none_both _ _ (off_when _ field.Disjoint (AtObject n) (off_if (S n) (T n) (apart.separate.disjoint n))) (by_entry (context_at k n) refl))
        where
          by_entry : (c : Option EcState) → context_at k n ≡ c → option_and_then (apart_in k S T n) c ≡ None
          by_entry None is = refl
          by_entry (Some x) is = in_no n x is
