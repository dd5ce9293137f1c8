-- Being a side: no part of it fails exactly where it holds.
use Rattle.std.proofs.Common.{◌≡◌, ℕ, refl, sym, ap, ◌∙◌, subst}
use Rattle.std.specs.Prelude.{◌&&◌, Bool, true, false, not, is_some, slice_get, Option, Some, None, option_and_then}
use Rattle.std.specs.List.{AllByRecursion, enumerate_from, list_any}
use Rattle.std.specs.Option.{option_or}
use Rattle.std.proofs.lemmas.Bool.{and_from, and_parts, not-true, not_from_false, true_from_ne_false}
use Rattle.nova_objects.specs.declared.object.Object.{Object}
use Rattle.nova_objects.specs.declared.object.Object.TheVariants.{Pd, Ec, Sc, Pt, Sm}
use Rattle.nova_model.specs.Edges.{edge_of}
use Rattle.nova_model.specs.State.{KernelState, context_at}
use Rattle.nova_model.specs.declared.context.EcState.{EcState}
use Rattle.nova_model.specs.declared.context.State.TheVariants.{Blocked}
use Rattle.nova_model.specs.declared.delegation.Derivation.{Derivation}
use Rattle.law_forest.proofs.Members.{all_at, all_from, contains_from_in, in_from_contains}
use Rattle.law_turns.specs.Tables.{HasTables}
use Rattle.law_turns.specs.Waiting.{AreBlocked}
use Rattle.law_integrity.specs.Confined.{Of}
use Rattle.law_integrity.proofs.Labels.{context_ec}
use Rattle.law_flow.specs.Flow.{IsSide}
use Rattle.law_sides.proofs.Lists.{in_numbered, numbered_at}
use Rattle.nova_flowing.specs.Leaks.{at_cap, at_context, handler_of, leak_at, leak_by, side_at, side_in, when}
use Rattle.nova_flowing.specs.Tests.{blocked_at, caller_of, is_awaited_without, is_blocked_at, is_held, is_of, is_outside, is_without, queues_without}
use Rattle.nova_flowing.specs.declared.leak.Leak.{Leak}
use Rattle.nova_flowing.specs.declared.leak.Field.TheVariants as field
use Rattle.nova_flowing.specs.declared.leak.Place.TheVariants.{Object as AtObject}
use Rattle.nova_flowing.specs.declared.leak.Premise.TheVariants.{Side}
use Rattle.nova_flowing.proofs.Apart.{blocked_here, is_blocked_there}
use Rattle.nova_flowing.proofs.Finding.{numbered_here}
use Rattle.nova_flowing.proofs.Reflecting.{any_found, blocked_is, caller_here, caller_is, edge_here, found_any, held_is, held_on, here_edge, here_state, neither, none_both, none_left, none_right, not_both, off_if, off_unless, off_when, second_is, some_with, state_here, when_off, with_some}

-- a context of the part has none that isn't of it
pub kept_in : (P : ℕ → Bool) (n m : ℕ) (o : Option ℕ) → (P n && is_without P o) ≡ false → P n ≡ true → o ≡ Some m → P m ≡ true
kept_in P n m o off p is = true_from_ne_false (P m) (λ out. neither (P n) (is_without P o) off p (some_with (λ (i : ℕ). not (P i)) o m is (not_from_false (P m) out)))

kept_no : (P : ℕ → Bool) (n : ℕ) (o : Option ℕ) → ((m : ℕ) → P n ≡ true → o ≡ Some m → P m ≡ true) → (P n && is_without P o) ≡ false
kept_no P n o keeps = off_if (P n) (is_without P o) (λ p some.
    let its = with_some (λ (i : ℕ). not (P i)) o some in
    not_both (P its.0) (keeps its.0 p its.1) (not-true (P its.0) its.2))

module _ (k : KernelState) (S P : ℕ → Bool) where
  -- nothing fails of the state
  pub record AreNone : Type 0 where
    pub by : AllByRecursion (λ (d : Derivation). leak_by k S S P Side d ≡ None) k.delegations.list
    pub at : AllByRecursion (λ (e : ℕ × Object). leak_at k S S P S Side e ≡ None) (enumerate_from 0 k.objects)
    pub part : (n : ℕ) → P n ≡ true → (o : Object) × (slice_get k.objects n ≡ Some o)

  -- what the tests say of an object, and of an execution context
  record AreOffAt (n : ℕ) (o : Object) : Type 0 where
    handlers : (P n && is_without P (handler_of o)) ≡ false
    members : (is_of S (Some o) && not (P n)) ≡ false
    queued : is_awaited_without k P n ≡ false
    context : option_and_then (side_in P n) (context_at k n) ≡ None

  off_at : (n : ℕ) (o : Object) → side_at k S P n o ≡ None → AreOffAt n o
  off_at n o none =
      let last : Option Leak = option_and_then (side_in P n) (context_at k n) in
      let third : Option Leak = when (is_awaited_without k P n) field.Queued (AtObject n) in
      let second : Option Leak = when (is_of S (Some o) && not (P n)) field.Members (AtObject n) in
      let first : Option Leak = when (P n && is_without P (handler_of o)) field.Handlers (AtObject n) in
      let rest = none_right first (option_or second (option_or third last)) none in
      let more = none_right second (option_or third last) rest in
      record {
        handlers = when_off (P n && is_without P (handler_of o)) field.Handlers (AtObject n) (none_left first (option_or second (option_or third last)) none);
        members = when_off (is_of S (Some o) && not (P n)) field.Members (AtObject n) (none_left second (option_or third last) rest);
        queued = when_off (is_awaited_without k P n) field.Queued (AtObject n) (none_left third last more);
        context = none_right third last more;
      }

  record AreOffIn (n : ℕ) (x : EcState) : Type 0 where
    edges : (P n && is_without P (edge_of x.state)) ≡ false
    callers : (P n && is_without P (caller_of x.caller)) ≡ false
    blocked : (P n && is_without P (blocked_at x.state)) ≡ false

  off_in : (n : ℕ) (x : EcState) → side_in P n x ≡ None → AreOffIn n x
  off_in n x none =
      let third : Option Leak = when (P n && is_without P (blocked_at x.state)) field.Blocked (at_context n x) in
      let second : Option Leak = when (P n && is_without P (caller_of x.caller)) field.Callers (at_context n x) in
      let first : Option Leak = when (P n && is_without P (edge_of x.state)) field.Edges (at_context n x) in
      let rest = none_right first (option_or second third) none in
      record {
        edges = when_off (P n && is_without P (edge_of x.state)) field.Edges (at_context n x) (none_left first (option_or second third) none);
        callers = when_off (P n && is_without P (caller_of x.caller)) field.Callers (at_context n x) (none_left second third rest);
        blocked = when_off (P n && is_without P (blocked_at x.state)) field.Blocked (at_context n x) (none_right second third rest);
      }

  module _ (tables : HasTables k) (waits : AreBlocked k.contexts k.semaphores) (none : AreNone) where
    at_off : (n : ℕ) (o : Object) → slice_get k.objects n ≡ Some o → AreOffAt n o
    at_off n o is = off_at n o (numbered_at (λ (e : ℕ × Object). leak_at k S S P S Side e ≡ None) k.objects n o none.at is)

    in_off : (n : ℕ) (x : EcState) → context_at k n ≡ Some x → AreOffIn n x
    in_off n x there =
        let m = context_ec k n tables (ap (λ (o : Option EcState). is_some o) there) in
        off_in n x (sym (ap (option_and_then (side_in P n)) there) ∙ (at_off n (Ec m.domain m.cpu m.kind m.event) m.object).context)

    pub side_none : IsSide k (Of S) (Of P)
    side_none = record {
      holds = λ d has s kind.
          let off = all_at (λ (e : Derivation). leak_by k S S P Side e ≡ None) k.delegations.list d none.by (in_from_contains k.delegations.list d has) in
          second_is (is_held S d) (P d.target) (when_off (is_outside S P d) field.Holds (at_cap d) off) (held_on S d s kind);
      handlers = λ n handler mtd ip p at. kept_in P n handler (handler_of (Pt handler mtd ip)) (at_off n (Pt handler mtd ip) at).handlers p refl;
      edges = λ n handler p is.
          let here = edge_here k n handler is in
          kept_in P n handler (edge_of here.x.state) (in_off n here.x here.there).edges p here.is;
      callers = λ n caller mark p is.
          let here = caller_here k n caller mark is in
          kept_in P n caller (caller_of here.x.caller) (in_off n here.x here.there).callers p (ap caller_of here.is);
      queues = λ sm n p is.
          let e = none.part sm p in
          let here = state_here k n (Blocked sm) (waits.blocked sm n is) in
          let m = context_ec k n tables (ap (λ (o : Option EcState). is_some o) here.there) in
          let off = (at_off sm e.0 e.1).queued in
          true_from_ne_false (P n) (λ out. neither (P sm) (list_any (queues_without k P sm) (enumerate_from 0 k.objects)) off p
          (found_any (queues_without k P sm) (enumerate_from 0 k.objects) (n, Ec m.domain m.cpu m.kind m.event) (numbered_here k.objects n (Ec m.domain m.cpu m.kind m.event) m.object)
          (and_from (not (P n)) (is_blocked_at sm (context_at k n)) (not_from_false (P n) out) (blocked_here k n sm here.x here.there here.is))));
      blocked = λ n sm p is.
          let here = state_here k n (Blocked sm) is in
          kept_in P n sm (blocked_at here.x.state) (in_off n here.x here.there).blocked p (ap blocked_at here.is);
      members = λ n pd cpu kind event at s.
          second_is (S pd) (P n) (at_off n (Ec pd cpu kind event) at).members s;
    }

  -- WHERE IT HOLDS, NONE FAILS

  module _ (waits : AreBlocked k.contexts k.semaphores) (side : IsSide k (Of S) (Of P)) where
    in_no : (n : ℕ) (x : EcState) → context_at k n ≡ Some x → side_in P n x ≡ None
    in_no n x at =
        none_both _ _ (off_when _ field.Edges (at_context n x) (kept_no P n (edge_of x.state) (λ m p is. side.edges n m p (here_edge k n x at ∙ is))))
        (none_both _ _ (off_when _ field.Callers (at_context n x) (kept_no P n (caller_of x.caller) (λ m p is.
        let its = caller_is x.caller m is in side.callers n m its.0 p (ap (λ (o : Option EcState). option_and_then (λ (y : EcState). y.caller) o) at ∙ its.1))))
        (off_when _ field.Blocked (at_context n x) (kept_no P n (blocked_at x.state) (λ m p is. side.blocked n m p (here_state k n x at ∙ ap Some (blocked_is x.state m is))))))

    handler_no : (n : ℕ) (o : Object) → slice_get k.objects n ≡ Some o → (m : ℕ) → P n ≡ true → handler_of o ≡ Some m → P m ≡ true
    handler_no n (Pt handler mtd ip) at m p is = subst (λ (i : ℕ). P i ≡ true) (same handler m is) (side.handlers n handler mtd ip p at)
      where
        same : (a b : ℕ) → Some a ≡ Some b → a ≡ b
        same a b is = cc
    handler_no n other at m p is = absurd (cc)

    member_no : (n : ℕ) (o : Object) → slice_get k.objects n ≡ Some o → (is_of S (Some o) && not (P n)) ≡ false
    member_no n (Ec pd cpu kind event) at = off_unless (S pd) (P n) (side.members n pd cpu kind event at)
    member_no n Pd at = refl
    member_no n (Sc donor cpu priority quantum) at = refl
    member_no n (Pt handler mtd ip) at = refl
    member_no n Sm at = refl

    queued_test : (n m : ℕ) (o : Object) → queues_without k P n (m, o) ≡ true → (not (P m) && is_blocked_at n (context_at k m)) ≡ true
    queued_test n m (Ec pd cpu kind event) is = is
    queued_test n m Pd is = absurd (cc)
    queued_test n m (Sc donor cpu priority quantum) is = absurd (cc)
    queued_test n m (Pt handler mtd ip) is = absurd (cc)
    queued_test n m Sm is = absurd (cc)

    awaited_no : (n : ℕ) → is_awaited_without k P n ≡ false
    awaited_no n = off_if (P n) (list_any (queues_without k P n) (enumerate_from 0 k.objects)) (λ p any.
        let other = any_found (queues_without k P n) (enumerate_from 0 k.objects) any in
        let parts = and_parts (not (P other.0.0)) (is_blocked_at n (context_at k other.0.0)) (queued_test n other.0.0 other.0.1 other.2) in
        let there = is_blocked_there k other.0.0 n parts.1 in
        not_both (P other.0.0) (side.queues n other.0.0 p (waits.waiting n other.0.0 (here_state k other.0.0 there.x there.there ∙ ap Some there.blocked))) (not-true (P other.0.0) parts.0))

    pub side_by : AllByRecursion (λ (d : Derivation). leak_by k S S P Side d ≡ None) k.delegations.list
    side_by = all_from (λ (d : Derivation). leak_by k S S P Side d ≡ None) k.delegations.list (λ d i.
        off_when (is_outside S P d) field.Holds (at_cap d) (off_unless (is_held S d) (P d.target) (λ held.
        let h = held_is S d held in side.holds d (contains_from_in k.delegations.list d i) h.0 h.1)))

    pub side_at_none : AllByRecursion (λ (e : ℕ × Object). leak_at k S S P S Side e ≡ None) (enumerate_from 0 k.objects)
    side_at_none = all_from (λ (e : ℕ × Object). leak_at k S S P S Side e ≡ None) (enumerate_from 0 k.objects) (λ e i. one e.0 e.1 (in_numbered k.objects e i))
      where
        one : (n : ℕ) (o : Object) → slice_get k.objects n ≡ Some o → side_at k S P n o ≡ None
        one n o at =
            none_both _ _ (off_when _ field.Handlers (AtObject n) (kept_no P n (handler_of o) (handler_no n o at)))
            (none_both _ _ (off_when _ field.Members (AtObject n) (member_no n o at))
            (none_both _ _ (off_when _ field.Queued (AtObject n) (awaited_no n)) (by_entry (context_at k n) refl)))
          where
            by_entry : (c : Option EcState) → context_at k n ≡ c → option_and_then (side_in P n) c ≡ None
            by_entry None is = refl
            by_entry (Some x) is = in_no n x is
