-- A premise holds exactly where no part of it fails.
use Rattle.std.proofs.Common.{◌≡◌, ◌⊎◌, ◌≤◌, ℕ, List, [], ◌∷◌, zero, suc, refl, sym, ap, subst, inl, inr, arith}
use Rattle.std.specs.Prelude.{◌&&◌, Bool, true, false, not, find, is_some, length, slice_get, Option, Some, None, option_map}
use Rattle.std.specs.List.{AllByRecursion, enumerate_from}
use Rattle.std.specs.Option.{option_or}
use Rattle.nova_objects.specs.declared.object.Object.{Object}
use Rattle.nova_objects.specs.declared.object.Object.TheVariants.{Pd, Ec, Sc, Pt, Sm}
use Rattle.nova_model.specs.State.{KernelState, context_at, deadline_of}
use Rattle.nova_model.specs.Times.{until_due}
use Rattle.nova_model.specs.declared.context.EcState.{EcState}
use Rattle.nova_model.specs.declared.delegation.Derivation.{Derivation}
use Rattle.nova_model.specs.declared.times.Alarm.{Alarm}
use Rattle.law_forest.proofs.Members.{found_in, none_found}
use Rattle.law_isolation.specs.Sound.{IsSound}
use Rattle.law_integrity.specs.Confined.{IsIdle, Of}
use Rattle.law_integrity.proofs.Labels.{context_ec}
use Rattle.law_sides.specs.Resting.{is_nothing}
use Rattle.law_sides.proofs.Lists.{numbered_at}
use Rattle.std.proofs.lemmas.Bool.{and_parts, false_from_ne_true, not-true}
use Rattle.nova_kernel.specs.Begun.{sources_of}
use Rattle.nova_flowing.specs.Leaks.{leak_at, leak_by, leak_of}
use Rattle.nova_flowing.specs.Premises.{Holds, IsDecided, IsOf, IsWaiting, fails, first_failing, first_waiting, home_of, is_blocked, is_waiting, leak_of_premise, others_of, own_of, part_of, unless_failing, unless_waiting, verdict_of, waits_in}
use Rattle.nova_flowing.specs.Tests.{blocked_at, is_in, is_of_neither, is_quiet}
use Rattle.nova_flowing.specs.declared.deciding.Verdict.{Verdict}
use Rattle.nova_flowing.specs.declared.deciding.Verdict.TheVariants.{Fails, Own, Waits}
use Rattle.nova_flowing.specs.declared.division.Division.{Division}
use Rattle.nova_flowing.specs.declared.leak.Leak.{Leak}
use Rattle.nova_flowing.specs.declared.leak.Premise.{Premise}
use Rattle.nova_flowing.specs.declared.leak.Premise.TheVariants.{Apart, Side, Guarded, Divided}
use Rattle.nova_flowing.proofs.Apart.{apart_none, none_at, none_by}
use Rattle.nova_flowing.proofs.Side.{side_at_none, side_by, side_none}
use Rattle.nova_flowing.proofs.Guarded.{guarded_at_none, guarded_by, guarded_none}
use Rattle.nova_flowing.proofs.Divided.{divided_at_none, divided_by, divided_none, divided_of_none}
use Rattle.nova_flowing.proofs.Quiet.{idle_early, idle_endless}
use Rattle.nova_flowing.proofs.Reflecting.{first_none, blocked_is, neither, none_both, none_first, none_left, none_right}

-- of a table that isn't longer than the objects, each number is of one
there_in : (xs : List Object) (table : List Bool) (n : ℕ) → length table ≤ length xs → is_in table n ≡ true → (o : Object) × (slice_get xs n ≡ Some o)
there_in xs [] n short is = absurd (cc)
there_in [] (b ∷ table) n short is = absurd (omega (arith, short))
there_in (x ∷ xs) (b ∷ table) zero short is = (x, refl)
there_in (x ∷ xs) (b ∷ table) (suc n) short is = there_in xs table n (omega (arith, short)) is

module _ (k : KernelState) (v : Division) (of : IsOf k v) (sound : IsSound k) where
  -- what each search found
  record AreNone (p : Premise) : Type 0 where
    by : AllByRecursion (λ (d : Derivation). leak_by k (own_of v) (others_of v) (part_of v) p d ≡ None) k.delegations.list
    at : AllByRecursion (λ (e : ℕ × Object). leak_at k (own_of v) (others_of v) (part_of v) (home_of v) p e ≡ None) (enumerate_from 0 k.objects)
    of_alarms : AllByRecursion (λ (e : ℕ × Alarm). leak_of (part_of v) (home_of v) p e ≡ None) (enumerate_from 0 (sources_of k))

  all_none : (p : Premise) → leak_of_premise k v p ≡ None → AreNone p
  all_none p none =
      let rest = none_right _ _ none in
      record {
        by = first_none (leak_by k (own_of v) (others_of v) (part_of v) p) k.delegations.list (none_left _ _ none);
        at = first_none (leak_at k (own_of v) (others_of v) (part_of v) (home_of v) p) (enumerate_from 0 k.objects) (none_left _ _ rest);
        of_alarms = first_none (leak_of (part_of v) (home_of v) p) (enumerate_from 0 (sources_of k)) (none_right _ _ rest);
      }

  none_all : (p : Premise) → AreNone p → leak_of_premise k v p ≡ None
  none_all p all =
      none_both _ _ (none_first (leak_by k (own_of v) (others_of v) (part_of v) p) k.delegations.list all.by)
      (none_both _ _ (none_first (leak_at k (own_of v) (others_of v) (part_of v) (home_of v) p) (enumerate_from 0 k.objects) all.at)
      (none_first (leak_of (part_of v) (home_of v) p) (enumerate_from 0 (sources_of k)) all.of_alarms))

  pub side_holds : leak_of_premise k v Side ≡ None → Holds k v Side
  side_holds none =
      let all = all_none Side none in
      side_none k (own_of v) (part_of v) sound.kept.tables sound.kept.blocked (record { by = all.by; at = all.at; part = λ n p. there_in k.objects v.part.items n of.part p })

  pub guarded_holds : leak_of_premise k v Guarded ≡ None → Holds k v Guarded
  guarded_holds none =
      let all = all_none Guarded none in
      guarded_none k (own_of v) (others_of v) (part_of v) (record { by = all.by; at = all.at; part = λ n p. there_in k.objects v.part.items n of.part p })

  pub divided_holds : leak_of_premise k v Divided ≡ None → Holds k v Divided
  divided_holds none =
      let all = all_none Divided none in
      divided_none k (own_of v) (others_of v) (part_of v) (home_of v) (record { by = all.by; at = all.at; of = all.of_alarms })

  -- nobody of neither is blocked where something is to come
  free_of : find (is_waiting k v) (enumerate_from 0 k.objects) ≡ None → (n : ℕ) (x : EcState) → context_at k n ≡ Some x →
      (is_of_neither k (own_of v) (others_of v) n && (is_blocked (blocked_at x.state) && not (is_nothing (until_due k.times x.cpu)))) ≡ false
  free_of none n x there =
      let m = context_ec k n sound.kept.tables (ap (λ (o : Option EcState). is_some o) there) in
      let off : waits_in k v n (context_at k n) ≡ false =
      numbered_at (λ (e : ℕ × Object). is_waiting k v e ≡ false) k.objects n (Ec m.domain m.cpu m.kind m.event)
      (none_found (is_waiting k v) (enumerate_from 0 k.objects) (ap (λ (o : Option (ℕ × Object)). is_some o) none)) m.object in
      subst (λ (o : Option EcState). waits_in k v n o ≡ false) there off

  early_of : find (is_waiting k v) (enumerate_from 0 k.objects) ≡ None → (n : ℕ) (x : EcState) → context_at k n ≡ Some x → is_of_neither k (own_of v) (others_of v) n ≡ true →
      (is_blocked (blocked_at x.state) && not (is_nothing (until_due k.times x.cpu))) ≡ false
  early_of none n x there out =
      false_from_ne_true (is_blocked (blocked_at x.state) && not (is_nothing (until_due k.times x.cpu)))
      (neither (is_of_neither k (own_of v) (others_of v) n) (is_blocked (blocked_at x.state) && not (is_nothing (until_due k.times x.cpu))) (free_of none n x there) out)

  -- who is quiet is idle
  abbrev AreIdle : Type 0
  AreIdle = (n : ℕ) (x : EcState) → context_at k n ≡ Some x → is_of_neither k (own_of v) (others_of v) n ≡ true → is_quiet k (own_of v) (others_of v) x.state ≡ true →
      IsIdle k (Of (own_of v)) (Of (others_of v)) n x.state

  apart_if : leak_of_premise k v Apart ≡ None → AreIdle → Holds k v Apart
  apart_if none idle =
      let all = all_none Apart none in
      apart_none k (own_of v) (others_of v) sound.kept.tables (record {
        by = all.by;
        at = all.at;
        own = λ n s. there_in k.objects v.own.items n of.own s;
        others = λ n t. there_in k.objects v.others.items n of.others t;
        idle = idle;
      })

  pub apart_holds : leak_of_premise k v Apart ≡ None → find (is_waiting k v) (enumerate_from 0 k.objects) ≡ None → Holds k v Apart
  apart_holds none free = apart_if none (λ n x there out quiet. idle_early k (own_of v) (others_of v) sound n x there quiet (early_of free n x there out))

  -- or where it has no deadline
  endless_holds : leak_of_premise k v Apart ≡ None → ((n : ℕ) → is_of_neither k (own_of v) (others_of v) n ≡ true → deadline_of k.times n ≡ None) → Holds k v Apart
  endless_holds none endless = apart_if none (λ n x there out quiet. idle_endless k (own_of v) (others_of v) sound n x there quiet (endless n out))

  -- WHERE A PREMISE HOLDS, NO PART FAILS

  no_alarms : (p : Premise) → ((e : ℕ × Alarm) → leak_of (part_of v) (home_of v) p e ≡ None) → AllByRecursion (λ (e : ℕ × Alarm). leak_of (part_of v) (home_of v) p e ≡ None) (enumerate_from 0 (sources_of k))
  no_alarms p each = all_of (enumerate_from 0 (sources_of k))
    where
      all_of : (xs : List (ℕ × Alarm)) → AllByRecursion (λ (e : ℕ × Alarm). leak_of (part_of v) (home_of v) p e ≡ None) xs
      all_of [] = tt
      all_of (x ∷ xs) = (each x, all_of xs)

  none_of : (p : Premise) → Holds k v p → leak_of_premise k v p ≡ None
  none_of Apart holds = none_all Apart (record {
    by = none_by k (own_of v) (others_of v) holds;
    at = none_at k (own_of v) (others_of v) holds;
    of_alarms = no_alarms Apart (λ e. refl);
  })
  none_of Side holds = none_all Side (record {
    by = side_by k (own_of v) (part_of v) sound.kept.blocked holds;
    at = side_at_none k (own_of v) (part_of v) sound.kept.blocked holds;
    of_alarms = no_alarms Side (λ e. refl);
  })
  none_of Guarded holds = none_all Guarded (record {
    by = guarded_by k (own_of v) (others_of v) (part_of v) sound.forest holds;
    at = guarded_at_none k (own_of v) (others_of v) (part_of v) sound.forest holds;
    of_alarms = no_alarms Guarded (λ e. refl);
  })
  none_of Divided holds = none_all Divided (record {
    by = divided_by k (own_of v) (others_of v) (part_of v) (home_of v) holds;
    at = divided_at_none k (own_of v) (others_of v) (part_of v) (home_of v) holds;
    of_alarms = divided_of_none k (own_of v) (others_of v) (part_of v) (home_of v) holds;
  })

  -- THE ANSWER

  named : (p : Premise) (o : Option Leak) (verdict : Verdict) → leak_of_premise k v p ≡ o → option_map (λ (l : Leak). Fails p l) o ≡ Some verdict → IsDecided k v verdict
  named p None verdict found is = absurd (cc)
  named p (Some l) verdict found is =
      subst (IsDecided k v) (same (Fails p l) verdict is) (record {
        first = found;
        fails = λ holds. clash (leak_of_premise k v p) (none_of p holds) found;
      })
    where
      same : (a b : Verdict) → Some a ≡ Some b → a ≡ b
      same a b is = cc

      clash : (o : Option Leak) → o ≡ None → o ≡ Some l → ⊥
      clash None none some = absurd (cc)
      clash (Some m) none some = absurd (cc)

  failing : (p : Premise) (verdict : Verdict) → option_map (λ (l : Leak). Fails p l) (leak_of_premise k v p) ≡ Some verdict → IsDecided k v verdict
  failing p verdict is = named p (leak_of_premise k v p) verdict refl is

  none_mapped : (p : Premise) → option_map (λ (l : Leak). Fails p l) (leak_of_premise k v p) ≡ None → leak_of_premise k v p ≡ None
  none_mapped p is = by_leak (leak_of_premise k v p) is
    where
      by_leak : (o : Option Leak) → option_map (λ (l : Leak). Fails p l) o ≡ None → o ≡ None
      by_leak None h = refl
      by_leak (Some l) h = absurd (cc)

  waiting_at : (n : ℕ) (o : Object) → is_waiting k v (n, o) ≡ true → waits_in k v n (context_at k n) ≡ true
  waiting_at n (Ec pd cpu kind event) is = is
  waiting_at n Pd is = absurd (cc)
  waiting_at n (Sc donor cpu priority quantum) is = absurd (cc)
  waiting_at n (Pt handler mtd ip) is = absurd (cc)
  waiting_at n Sm is = absurd (cc)

  waiting_is : (n : ℕ) → waits_in k v n (context_at k n) ≡ true → IsWaiting k v n
  waiting_is n is = by_entry (context_at k n) refl is
    where
      semaphore : (o : Option ℕ) → is_blocked o ≡ true → (sm : ℕ) × (o ≡ Some sm)
      semaphore None h = absurd (cc)
      semaphore (Some sm) h = (sm, refl)

      by_entry : (o : Option EcState) → context_at k n ≡ o → waits_in k v n o ≡ true → IsWaiting k v n
      by_entry None at h = absurd (cc)
      by_entry (Some x) at h =
          let parts = and_parts (is_of_neither k (own_of v) (others_of v) n) (is_blocked (blocked_at x.state) && not (is_nothing (until_due k.times x.cpu))) h in
          let rest = and_parts (is_blocked (blocked_at x.state)) (not (is_nothing (until_due k.times x.cpu))) parts.1 in
          let its = semaphore (blocked_at x.state) rest.0 in
          record { neither = parts.0; context = x; there = at; sm = its.0; blocked = blocked_is x.state its.0 its.1; comes = not-true (is_nothing (until_due k.times x.cpu)) rest.1 }

  first_waits : (o : Option (ℕ × Object)) (n : ℕ) → find (is_waiting k v) (enumerate_from 0 k.objects) ≡ o → option_map (λ (e : ℕ × Object). e.0) o ≡ Some n → IsWaiting k v n
  first_waits None n found is = absurd (cc)
  first_waits (Some e) n found is =
      let its = found_in (is_waiting k v) (enumerate_from 0 k.objects) e found in
      subst (IsWaiting k v) (same e.0 n is) (waiting_is e.0 (waiting_at e.0 e.1 its.1))
    where
      same : (a b : ℕ) → Some a ≡ Some b → a ≡ b
      same a b is = cc

  waits : (n : ℕ) → option_map (λ (e : ℕ × Object). e.0) (find (is_waiting k v) (enumerate_from 0 k.objects)) ≡ Some n → leak_of_premise k v Apart ≡ None → leak_of_premise k v Side ≡ None
      → leak_of_premise k v Guarded ≡ None → leak_of_premise k v Divided ≡ None → IsDecided k v (Waits n)
  waits n is apart side guarded divided = record {
    waits = first_waits (find (is_waiting k v) (enumerate_from 0 k.objects)) n refl is;
    apart = endless_holds apart;
    side = side_holds side;
    guarded = guarded_holds guarded;
    divided = divided_holds divided;
  }

  owns : option_map (λ (e : ℕ × Object). e.0) (find (is_waiting k v) (enumerate_from 0 k.objects)) ≡ None → leak_of_premise k v Apart ≡ None → leak_of_premise k v Side ≡ None
      → leak_of_premise k v Guarded ≡ None → leak_of_premise k v Divided ≡ None → IsDecided k v Own
  owns is apart side guarded divided = record {
    partitioned = record { apart = apart_holds apart (none_of_map (find (is_waiting k v) (enumerate_from 0 k.objects)) is); side = side_holds side; guarded = guarded_holds guarded };
    divided = divided_holds divided;
  }
    where
      none_of_map : (o : Option (ℕ × Object)) → option_map (λ (e : ℕ × Object). e.0) o ≡ None → o ≡ None
      none_of_map None h = refl
      none_of_map (Some e) h = absurd (cc)

  one_of : {T : Type 0} (a b : Option T) (x : T) → option_or a b ≡ Some x → (a ≡ Some x) ⊎ (b ≡ Some x)
  one_of None b x is = inr is
  one_of (Some y) b x is = inl is

  first_named : (verdict : Verdict) → first_failing k v ≡ Some verdict → IsDecided k v verdict
  first_named verdict is = elim (one_of (fails k v Apart) (option_or (fails k v Side) (option_or (fails k v Guarded) (fails k v Divided))) verdict is) [
    | inl one ↦ failing Apart verdict one
    | inr rest ↦ elim (one_of (fails k v Side) (option_or (fails k v Guarded) (fails k v Divided)) verdict rest) [
      | inl one ↦ failing Side verdict one
      | inr more ↦ elim (one_of (fails k v Guarded) (fails k v Divided) verdict more) [
        | inl one ↦ failing Guarded verdict one
        | inr last ↦ failing Divided verdict last
      ]
    ]
  ]

  none_named : (w : Option ℕ) → first_waiting k v ≡ w → first_failing k v ≡ None → IsDecided k v (unless_waiting w)
  none_named w is none =
      let apart = none_mapped Apart (none_left (fails k v Apart) (option_or (fails k v Side) (option_or (fails k v Guarded) (fails k v Divided))) none) in
      let rest = none_right (fails k v Apart) (option_or (fails k v Side) (option_or (fails k v Guarded) (fails k v Divided))) none in
      let side = none_mapped Side (none_left (fails k v Side) (option_or (fails k v Guarded) (fails k v Divided)) rest) in
      let more = none_right (fails k v Side) (option_or (fails k v Guarded) (fails k v Divided)) rest in
      let guarded = none_mapped Guarded (none_left (fails k v Guarded) (fails k v Divided) more) in
      let divided = none_mapped Divided (none_right (fails k v Guarded) (fails k v Divided) more) in
      by_waiting w is apart side guarded divided
    where
      by_waiting : (w : Option ℕ) → first_waiting k v ≡ w → leak_of_premise k v Apart ≡ None → leak_of_premise k v Side ≡ None → leak_of_premise k v Guarded ≡ None → leak_of_premise k v Divided ≡ None →
          IsDecided k v (unless_waiting w)
      by_waiting None is apart side guarded divided = owns is apart side guarded divided
      by_waiting (Some n) is apart side guarded divided = waits n is apart side guarded divided

  by_failing : (o : Option Verdict) → first_failing k v ≡ o → IsDecided k v (unless_failing o (unless_waiting (first_waiting k v)))
  by_failing (Some verdict) is = first_named verdict is
  by_failing None is = none_named (first_waiting k v) refl is

  pub decided : (verdict : Verdict) → verdict ≡ verdict_of k v → IsDecided k v verdict
  decided verdict is = subst (IsDecided k v) (sym is) (by_failing (first_failing k v) refl)
