-- Divided processors: no part of it fails exactly where it holds.
use Rattle.std.proofs.Common.{◌≡◌, ℕ, refl, sym, ap, subst}
use Rattle.std.specs.Prelude.{◌&&◌, Bool, true, false, not, slice_get, Option, Some, None}
use Rattle.std.specs.List.{AllByRecursion, enumerate_from}
use Rattle.std.proofs.lemmas.Bool.{and_from, and_parts}
use Rattle.nova_objects.specs.declared.object.Object.{Object}
use Rattle.nova_objects.specs.declared.object.Object.TheVariants.{Pd, Ec, Sc, Pt, Sm}
use Rattle.nova_range.specs.Rights.{allows}
use Rattle.nova_model.specs.Capabilities.{create_right}
use Rattle.nova_model.specs.State.{KernelState}
use Rattle.nova_model.specs.declared.delegation.Derivation.{Derivation}
use Rattle.nova_model.specs.declared.times.Alarm.{Alarm}
use Rattle.nova_model.specs.declared.times.AlarmState.{AlarmState}
use Rattle.law_forest.proofs.Members.{all_at, all_from, contains_from_in, in_from_contains}
use Rattle.law_integrity.specs.Confined.{Of}
use Rattle.law_flow.specs.Processors.{IsDivided}
use Rattle.law_sides.proofs.Lists.{in_numbered, numbered_at}
use Rattle.nova_objects.specs.ObjectTables.{is_domain}
use Rattle.nova_kernel.specs.Begun.{sources_of}
use Rattle.nova_flowing.specs.Leaks.{at_cap, at_source, divided_at, leak_at, leak_by, leak_of}
use Rattle.nova_flowing.specs.Tests.{is_creator, is_held, is_member}
use Rattle.nova_flowing.specs.declared.leak.Field.TheVariants as field
use Rattle.nova_flowing.specs.declared.leak.Place.TheVariants.{Context, Object as AtObject}
use Rattle.nova_flowing.specs.declared.leak.Premise.TheVariants.{Divided}
use Rattle.nova_flowing.proofs.Apart.{is_pd}
use Rattle.nova_flowing.proofs.Finding.{at_mapped, mapped_at}
use Rattle.nova_flowing.proofs.Reflecting.{held_is, held_on, member_is, member_on, neither, none_both, none_left, none_right, off_if, off_unless, off_when, second_is, when_off}

domain_there : (o : Option Object) → is_domain o ≡ true → o ≡ Some Pd
domain_there (Some o) is = ap Some (is_pd o is)
domain_there None is = absurd (cc)

module _ (k : KernelState) (S T P C : ℕ → Bool) where
  -- nothing fails of the state
  pub record AreNone : Type 0 where
    pub by : AllByRecursion (λ (d : Derivation). leak_by k S T P Divided d ≡ None) k.delegations.list
    pub at : AllByRecursion (λ (e : ℕ × Object). leak_at k S T P C Divided e ≡ None) (enumerate_from 0 k.objects)
    pub of : AllByRecursion (λ (e : ℕ × Alarm). leak_of P C Divided e ≡ None) (enumerate_from 0 (sources_of k))

  module _ (none : AreNone) where
    at_off : (n : ℕ) (o : Object) → slice_get k.objects n ≡ Some o → divided_at k S T P C n o ≡ None
    at_off n o is = numbered_at (λ (e : ℕ × Object). leak_at k S T P C Divided e ≡ None) k.objects n o none.at is

    of_off : (n : ℕ) (a : AlarmState) → slice_get k.times.alarms n ≡ Some a → leak_of P C Divided (n, a.alarm) ≡ None
    of_off n a is = numbered_at (λ (e : ℕ × Alarm). leak_of P C Divided e ≡ None) (sources_of k) n a.alarm none.of (mapped_at (λ (x : AlarmState). x.alarm) k.times.alarms n a is)

    pub divided_none : IsDivided k (Of S) (Of T) (Of P) (Of C)
    divided_none = record {
      has = record {
        contexts = λ n pd cpu kind event is s.
            second_is (S pd) (C cpu) (when_off (S pd && not (C cpu)) field.Contexts (Context n cpu) (none_left _ _ (at_off n (Ec pd cpu kind event) is))) s;
        schedules = λ n donor cpu priority quantum is m.
            second_is (is_member k S donor) (P n) (when_off (is_member k S donor && not (P n)) field.Schedules (AtObject n) (at_off n (Sc donor cpu priority quantum) is)) (member_on k S donor m);
        rings = λ n a is p.
            second_is (P a.alarm.sm) (C a.alarm.cpu) (when_off (P a.alarm.sm && not (C a.alarm.cpu)) field.Rings (at_source n a.alarm) (of_off n a is)) p;
      };
      others = λ n pd cpu kind event is t c.
          neither (T pd) (C cpu) (when_off (T pd && C cpu) field.Others (Context n cpu) (none_right _ _ (at_off n (Ec pd cpu kind event) is))) t c;
      creates = λ pd t may.
          let d = may.capability in
          let off = all_at (λ (e : Derivation). leak_by k S T P Divided e ≡ None) k.delegations.list d none.by (in_from_contains k.delegations.list d may.there) in
          neither (is_held T d) (allows d.rights create_right && is_domain (slice_get k.objects d.target)) (when_off (is_creator k T d) field.Creates (at_cap d) off)
          (held_on T d (subst (λ (n : ℕ). T n ≡ true) (sym may.held) t) may.kind)
          (and_from (allows d.rights create_right) (is_domain (slice_get k.objects d.target)) may.create (ap is_domain may.leads));
    }

  -- WHERE IT HOLDS, NONE FAILS

  module _ (divided : IsDivided k (Of S) (Of T) (Of P) (Of C)) where
    pub divided_by : AllByRecursion (λ (d : Derivation). leak_by k S T P Divided d ≡ None) k.delegations.list
    divided_by = all_from (λ (d : Derivation). leak_by k S T P Divided d ≡ None) k.delegations.list (λ d i.
        off_when (is_creator k T d) field.Creates (at_cap d) (off_if (is_held T d) (allows d.rights create_right && is_domain (slice_get k.objects d.target)) (λ held may.
        let h = held_is T d held in
        let parts = and_parts (allows d.rights create_right) (is_domain (slice_get k.objects d.target)) may in
        divided.creates d.pd h.0 (record {
          capability = d;
          there = contains_from_in k.delegations.list d i;
          held = refl;
          kind = h.1;
          leads = domain_there (slice_get k.objects d.target) parts.1;
          create = parts.0;
        }))))

    one : (n : ℕ) (o : Object) → slice_get k.objects n ≡ Some o → divided_at k S T P C n o ≡ None
    one n (Ec pd cpu kind event) at =
        none_both _ _ (off_when _ field.Contexts (Context n cpu) (off_unless (S pd) (C cpu) (divided.has.contexts n pd cpu kind event at)))
        (off_when _ field.Others (Context n cpu) (off_if (T pd) (C cpu) (divided.others n pd cpu kind event at)))
    one n (Sc donor cpu priority quantum) at =
        off_when _ field.Schedules (AtObject n) (off_unless (is_member k S donor) (P n) (λ m. divided.has.schedules n donor cpu priority quantum at (member_is k S donor m)))
    one n Pd at = refl
    one n (Pt handler mtd ip) at = refl
    one n Sm at = refl

    pub divided_at_none : AllByRecursion (λ (e : ℕ × Object). leak_at k S T P C Divided e ≡ None) (enumerate_from 0 k.objects)
    divided_at_none = all_from (λ (e : ℕ × Object). leak_at k S T P C Divided e ≡ None) (enumerate_from 0 k.objects) (λ e i. one e.0 e.1 (in_numbered k.objects e i))

    rung : (n : ℕ) (b : Alarm) → (a : AlarmState) × (slice_get k.times.alarms n ≡ Some a) × (a.alarm ≡ b) → leak_of P C Divided (n, b) ≡ None
    rung n b a =
        off_when _ field.Rings (at_source n b) (subst (λ (x : Alarm). (P x.sm && not (C x.cpu)) ≡ false) a.2 (off_unless (P a.0.alarm.sm) (C a.0.alarm.cpu) (divided.has.rings n a.0 a.1)))

    pub divided_of_none : AllByRecursion (λ (e : ℕ × Alarm). leak_of P C Divided e ≡ None) (enumerate_from 0 (sources_of k))
    divided_of_none = all_from (λ (e : ℕ × Alarm). leak_of P C Divided e ≡ None) (enumerate_from 0 (sources_of k)) (λ e i.
        rung e.0 e.1 (at_mapped (λ (x : AlarmState). x.alarm) k.times.alarms e.0 e.1 (in_numbered (sources_of k) e i)))
