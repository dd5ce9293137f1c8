-- Being guarded: no part of it fails exactly where it holds.
use Rattle.std.proofs.Common.{◌≡◌, ℕ, refl, sym, ap, ◌∙◌, subst}
use Rattle.std.specs.Prelude.{◌&&◌, Bool, true, false, Contains, is_some, slice_get, Option, Some, None}
use Rattle.std.specs.List.{AllByRecursion, enumerate_from, list_any}
use Rattle.std.proofs.lemmas.Bool.{and_from, and_parts}
use Rattle.nova_objects.specs.declared.object.Object.{Object}
use Rattle.nova_objects.specs.declared.object.Object.TheVariants.{Pd, Ec, Sc, Pt, Sm}
use Rattle.nova_range.specs.Rights.{allows, write_right}
use Rattle.nova_range.specs.declared.range.Kind.TheVariants.{Mem}
use Rattle.nova_model.specs.Delegations.{is_memory}
use Rattle.nova_model.specs.Forest.{IsForest}
use Rattle.nova_model.specs.Lines.{line}
use Rattle.nova_model.specs.State.{KernelState}
use Rattle.nova_model.specs.declared.delegation.Derivation.{Derivation}
use Rattle.law_forest.specs.Within.{LeadsTo}
use Rattle.law_forest.proofs.Members.{IsIn, all_at, all_from, contains_from_in, in_from_contains}
use Rattle.law_integrity.specs.Confined.{IsOwned, Of}
use Rattle.law_flow.specs.Flow.{IsGuarded}
use Rattle.law_flow.proofs.Looking.{led}
use Rattle.law_sides.specs.Tied.{meets}
use Rattle.law_sides.proofs.Frames.{frame_meets, meets_frame}
use Rattle.law_sides.proofs.Lists.{in_numbered, numbered_at}
use Rattle.nova_flowing.specs.Leaks.{at_cap, guarded_at, is_semaphore, leak_at, leak_by}
use Rattle.nova_flowing.specs.Tests.{holds, is_derived, is_owned, is_written, writes_to}
use Rattle.nova_flowing.specs.declared.leak.Field.TheVariants as field
use Rattle.nova_flowing.specs.declared.leak.Place.TheVariants.{Object as AtObject}
use Rattle.nova_flowing.specs.declared.leak.Premise.TheVariants.{Guarded}
use Rattle.nova_flowing.proofs.Finding.{leads_by}
use Rattle.nova_flowing.proofs.Reflecting.{any_found, found_any, holds_is, holds_on, mem_is, neither, none_both, none_left, none_right, off_if, off_unless, off_when, owned_is, owned_on, second_is, when_off}

semaphore_is : (o : Object) → is_semaphore o ≡ true → o ≡ Sm
semaphore_is Sm is = refl
semaphore_is Pd is = absurd (cc)
semaphore_is (Ec pd cpu kind event) is = absurd (cc)
semaphore_is (Sc donor cpu priority quantum) is = absurd (cc)
semaphore_is (Pt handler mtd ip) is = absurd (cc)

module _ (k : KernelState) (S T P : ℕ → Bool) where
  -- nothing fails of the state
  pub record AreNone : Type 0 where
    pub by : AllByRecursion (λ (d : Derivation). leak_by k S T P Guarded d ≡ None) k.delegations.list
    pub at : AllByRecursion (λ (e : ℕ × Object). leak_at k S T P S Guarded e ≡ None) (enumerate_from 0 k.objects)
    pub part : (n : ℕ) → P n ≡ true → (o : Object) × (slice_get k.objects n ≡ Some o)

  module _ (none : AreNone) where
    by_off : (d : Derivation) → Contains k.delegations.list d → leak_by k S T P Guarded d ≡ None
    by_off d has = all_at (λ (e : Derivation). leak_by k S T P Guarded e ≡ None) k.delegations.list d none.by (in_from_contains k.delegations.list d has)

    at_off : (n : ℕ) (o : Object) → slice_get k.objects n ≡ Some o → guarded_at k S T P n o ≡ None
    at_off n o is = numbered_at (λ (e : ℕ × Object). leak_at k S T P S Guarded e ≡ None) k.objects n o none.at is

    written_off : (d e : Derivation) (frame : ℕ) → IsIn k.delegations.list d → S d.pd ≡ true → d.kind ≡ Mem → LeadsTo d frame → Contains k.delegations.list e → T e.pd ≡ true → e.kind ≡ Mem →
        LeadsTo e frame → allows e.rights write_right ≡ true → ⊥
    written_off d e frame here s kind leads has t other also writes =
        neither (S d.pd && is_memory d.kind) (list_any (writes_to T d) k.delegations.list)
        (when_off (is_written k.delegations.list S T d) field.Memory (at_cap d) (none_right _ _ (by_off d (contains_from_in k.delegations.list d here))))
        (and_from (S d.pd) (is_memory d.kind) s (ap is_memory kind))
        (found_any (writes_to T d) k.delegations.list e (in_from_contains k.delegations.list e has)
        (and_from (T e.pd && is_memory e.kind) (allows e.rights write_right && meets d e) (and_from (T e.pd) (is_memory e.kind) t (ap is_memory other))
        (and_from (allows e.rights write_right) (meets d e) writes (frame_meets d e frame leads also))))

    pub guarded_none : IsGuarded k (Of S) (Of T) (Of P)
    guarded_none = record {
      there = λ n p. let e = none.part n p in ap (λ (o : Option Object). is_some o) e.1;
      owned = λ n p.
          let e = none.part n p in
          subst (IsOwned k (Of S) n) (sym e.1) (owned_is k S n (Some e.0) (second_is (P n) (is_owned k S n (Some e.0)) (when_off _ field.Owned (AtObject n) (none_left _ _ (at_off n e.0 e.1))) p));
      semaphores = λ n p is h.
          neither (P n) (holds k.delegations.list T n) (when_off (P n && holds k.delegations.list T n) field.Semaphores (AtObject n) (none_right _ _ (at_off n Sm is))) p (holds_on k T n h);
      lines = λ d a has s c t.
          neither (S d.pd) (list_any (λ (x : Derivation). T x.pd) (line k.delegations.list d)) (when_off (is_derived k.delegations.list S T d) field.Lines (at_cap d) (none_left _ _ (by_off d has))) s
          (found_any (λ (x : Derivation). T x.pd) (line k.delegations.list d) a (in_from_contains (line k.delegations.list d) a c) t);
      memory = λ pd page to s leads r.
          let l = led k.delegations.list pd page to leads in
          written_off l.derivation r.derivation to.frame l.there (subst (λ (n : ℕ). S n ≡ true) (sym l.its) s) l.kind l.leads r.there r.of r.kind r.leads r.allowed;
    }

  -- WHERE IT HOLDS, NONE FAILS

  module _ (forest : IsForest k.delegations) (guarded : IsGuarded k (Of S) (Of T) (Of P)) where
    written_no : (d : Derivation) → IsIn k.delegations.list d → is_written k.delegations.list S T d ≡ false
    written_no d i = off_if (S d.pd && is_memory d.kind) (list_any (writes_to T d) k.delegations.list) (λ held any.
        let mine = and_parts (S d.pd) (is_memory d.kind) held in
        let e = any_found (writes_to T d) k.delegations.list any in
        let parts = and_parts (T e.0.pd && is_memory e.0.kind) (allows e.0.rights write_right && meets d e.0) e.2 in
        let theirs = and_parts (T e.0.pd) (is_memory e.0.kind) parts.0 in
        let writes = and_parts (allows e.0.rights write_right) (meets d e.0) parts.1 in
        let both = meets_frame d e.0 writes.1 in
        let l = leads_by k d both.0 forest i (mem_is d.kind mine.1) both.1 in
        guarded.memory d.pd l.page l.to mine.0 l.leads (record {
          derivation = e.0;
          there = contains_from_in k.delegations.list e.0 e.1;
          of = theirs.0;
          kind = mem_is e.0.kind theirs.1;
          leads = subst (LeadsTo e.0) (sym l.frame_is) both.2;
          allowed = writes.0;
        }))

    derived_no : (d : Derivation) → IsIn k.delegations.list d → is_derived k.delegations.list S T d ≡ false
    derived_no d i = off_if (S d.pd) (list_any (λ (x : Derivation). T x.pd) (line k.delegations.list d)) (λ s any.
        let a = any_found (λ (x : Derivation). T x.pd) (line k.delegations.list d) any in
        guarded.lines d a.0 (contains_from_in k.delegations.list d i) s (contains_from_in (line k.delegations.list d) a.0 a.1) a.2)

    pub guarded_by : AllByRecursion (λ (d : Derivation). leak_by k S T P Guarded d ≡ None) k.delegations.list
    guarded_by = all_from (λ (d : Derivation). leak_by k S T P Guarded d ≡ None) k.delegations.list (λ d i.
        none_both _ _ (off_when (is_derived k.delegations.list S T d) field.Lines (at_cap d) (derived_no d i)) (off_when (is_written k.delegations.list S T d) field.Memory (at_cap d) (written_no d i)))

    pub guarded_at_none : AllByRecursion (λ (e : ℕ × Object). leak_at k S T P S Guarded e ≡ None) (enumerate_from 0 k.objects)
    guarded_at_none = all_from (λ (e : ℕ × Object). leak_at k S T P S Guarded e ≡ None) (enumerate_from 0 k.objects) (λ e i. one e.0 e.1 (in_numbered k.objects e i))
      where
        one : (n : ℕ) (o : Object) → slice_get k.objects n ≡ Some o → guarded_at k S T P n o ≡ None
        one n o at =
            none_both _ _ (off_when _ field.Owned (AtObject n) (off_unless (P n) (is_owned k S n (Some o)) (λ p. owned_on k S n (Some o) (subst (IsOwned k (Of S) n) at (guarded.owned n p)))))
            (off_when _ field.Semaphores (AtObject n) (off_if (P n) (is_semaphore o && holds k.delegations.list T n) (λ p h.
            let parts = and_parts (is_semaphore o) (holds k.delegations.list T n) h in
            guarded.semaphores n p (at ∙ ap Some (semaphore_is o parts.0)) (holds_is k T n parts.1))))
