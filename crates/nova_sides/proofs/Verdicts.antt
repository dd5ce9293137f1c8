-- What searches answer about ties and rest, and what it means.
use Rattle.std.proofs.Common.{◌≡◌, ◌≢◌, ℕ, List, [], ◌∷◌, refl, sym, ap, ◌∙◌, subst, inl, inr}
use Rattle.std.specs.Prelude.{◌==◌, ◌&&◌, Bool, true, false, not, find, is_some, Contains, slice_get, Option, Some, None, option_map}
use Rattle.std.specs.List.{AllByRecursion, enumerate_from}
use Rattle.std.proofs.lemmas.Bool.{and_cases, and_parts, eqb-false, eqb-true, eq-eqb, not-false, not-true, ne_eqb}
use Rattle.std.proofs.lemmas.Option.{same_Some}
use Rattle.nova_objects.specs.declared.object.Object.{Object}
use Rattle.nova_objects.specs.declared.object.Object.TheVariants.{Pd, Ec, Sc, Pt, Sm}
use Rattle.nova_range.specs.declared.range.Kind.{Kind}
use Rattle.nova_range.specs.declared.range.Kind.TheVariants.{Mem, Obj}
use Rattle.nova_model.specs.Delegations.{is_memory}
use Rattle.nova_model.specs.State.{KernelState, context_at, pd_in, pd_of}
use Rattle.nova_model.specs.declared.context.EcState.{EcState}
use Rattle.nova_model.specs.declared.delegation.Derivation.{Derivation}
use Rattle.law_forest.proofs.Members.{IsIn, all_at, contains_from_in, found_in, in_from_contains, none_found}
use Rattle.law_turns.specs.Tables.{HasTables, Refers}
use Rattle.law_integrity.specs.Confined.{IsMember, IsOwned}
use Rattle.law_integrity.proofs.Confining.{member_pd}
use Rattle.law_integrity.proofs.Edges.{at_index}
use Rattle.law_integrity.proofs.Labels.{context_ec, local_ec}
use Rattle.nova_ties.specs.Ties.{AreRespected, Respects, is_broken, is_respected, label_in, or_trusted}
use Rattle.nova_ties.proofs.Settling.{respected_from, respects_from}
use Rattle.nova_ties.specs.declared.tie.Tie.{Tie}
use Rattle.law_sides.specs.Resting.{IsAtRest, Sided, is_astray, is_astray_at, is_leading, is_leading_by, is_resting, is_sided, is_stirring, is_stirring_at}
use Rattle.law_sides.specs.Tied.{flows_by, lead_of, ties}
use Rattle.nova_sides.specs.Verdicts.{IsBreach, IsRestless}
use Rattle.nova_sides.specs.declared.judging.Restless.{Restless}
use Rattle.nova_sides.specs.declared.judging.Restless.TheVariants.{Astray, Leads, Stirs}
use Rattle.law_sides.proofs.Lists.{in_numbered, numbered_at}
use Rattle.law_sides.specs.Isolated.{AreIsolated}
use Rattle.law_sides.proofs.Isolating.{respected_isolated}
use Rattle.law_sides.proofs.Respecting.{isolated_respects}
use Rattle.law_sides.proofs.Words.{donor_ec}

-- TIES

-- one that is found is there, and passes
broken_there : (label : ℕ → ℕ) (list : List Tie) (t : Tie) → find (is_broken label) list ≡ Some t → IsIn list t × (is_broken label t ≡ true)
broken_there label list t is = found_in (is_broken label) list t is

pub breach_found : (shared : ℕ → Bool) (flows : ℕ → ℕ → Bool) (k : KernelState) (label : ℕ → ℕ) (t : Tie) → find (is_broken label) (ties shared (flows_by flows label) k) ≡ Some t → IsBreach shared flows k label t
breach_found shared flows k label t is =
    let found = broken_there label (ties shared (flows_by flows label) k) t is in
    let off : Respects label t → ⊥ = λ r. not_both (is_respected label t) (respected_from label t r) found.1 in
    record {
      first = is;
      there = contains_from_in (ties shared (flows_by flows label) k) t found.0;
      broken = off;
      none = λ isolated. off (all_at (Respects label) (ties shared (flows_by flows label) k) t (isolated_respects k label isolated) found.0);
    }
  where
    not_both : (b : Bool) → b ≡ true → not b ≡ true → ⊥
    not_both true is none = absurd (cc)
    not_both false is none = absurd (cc)

respects_all : (label : ℕ → ℕ) (list : List Tie) → AllByRecursion (λ (t : Tie). is_broken label t ≡ false) list → AreRespected label list
respects_all label [] all = tt
respects_all label (t ∷ list) all = (respects_from label t (not-false (is_respected label t) all.0), respects_all label list all.1)

pub isolation_found : (shared : ℕ → Bool) (flows : ℕ → ℕ → Bool) (k : KernelState) (label : ℕ → ℕ) → HasTables k → find (is_broken label) (ties shared (flows_by flows label) k) ≡ None → AreIsolated shared flows k label
isolation_found shared flows k label tables none =
    respected_isolated k label tables (respects_all label (ties shared (flows_by flows label) k) (none_found (is_broken label) (ties shared (flows_by flows label) k) (ap (λ (o : Option Tie). is_some o) none)))

-- REST

-- that a domain is of a side, by its label
sided_not : (label : ℕ) → label ≢ 0 → not (label == 0) ≡ true
sided_not label some = ap not (ne_eqb label 0 some)

-- where a capability leads of which nothing leads to what is trusted
owned_from : (k : KernelState) (label : ℕ → ℕ) (d : Derivation) → HasTables k → label d.pd ≢ 0 → is_leading_by label (lead_of k d (slice_get k.objects d.target)) ≡ false →
    IsOwned k (Sided label) d.target (slice_get k.objects d.target)
owned_from k label d tables some is = by_object (slice_get k.objects d.target) refl is
  where
    sided : (n : ℕ) → (not (label d.pd == 0) && (label n == 0)) ≡ false → label n ≢ 0
    sided n h = elim (and_cases (not (label d.pd == 0)) (label n == 0) h) [
      | inl off ↦ absurd (let yes = sided_not (label d.pd) some in let both : true ≡ false = sym yes ∙ off in cc)
      | inr none ↦ eqb-false (label n) 0 none
    ]

    member : (handler : ℕ) → IsMember k (λ m. Unit {0}) handler → label (pd_of k handler) ≢ 0 → IsMember k (Sided label) handler
    member handler m of = record { domain = m.domain; cpu = m.cpu; kind = m.kind; event = m.event; object = m.object; of = λ none. of (ap label (ap pd_in m.object) ∙ none) }

    by_object : (o : Option Object) → slice_get k.objects d.target ≡ o → is_leading_by label (lead_of k d o) ≡ false → IsOwned k (Sided label) d.target o
    by_object (Some Pd) at h = sided d.target h
    by_object (Some (Ec pd cpu its event)) at h = sided pd h
    by_object (Some (Pt handler mtd ip)) at h =
        member handler (local_ec k handler (at_index (Refers k.objects) k.objects d.target (Pt handler mtd ip) tables.refer at)) (sided (pd_of k handler) h)
    by_object (Some (Sc donor cpu priority quantum)) at h =
        member donor (donor_ec k donor cpu (at_index (Refers k.objects) k.objects d.target (Sc donor cpu priority quantum) tables.refer at)) (sided (pd_of k donor) h)
    by_object (Some Sm) at h = tt
    by_object None at h = tt

pub rest_found : (k : KernelState) (table : List ℕ) → HasTables k → find (is_astray k) (enumerate_from 0 table) ≡ None → find (is_leading k (label_in table)) k.delegations.list ≡ None →
    find (is_stirring k (label_in table)) (enumerate_from 0 k.objects) ≡ None → IsAtRest k (label_in table)
rest_found k table tables no_astray no_leading no_stirring = record {
  domains = λ n some. domain n some (slice_get table n) refl;
  capabilities = λ d there kind some. owned_from k (label_in table) d tables some (not_leading d there kind);
  rest = λ ec x at trusted. rests ec x at trusted (context_ec k ec tables (ap (λ (o : Option EcState). is_some o) at));
}
  where
    astray : AllByRecursion (λ (e : ℕ × ℕ). is_astray k e ≡ false) (enumerate_from 0 table)
    astray = none_found (is_astray k) (enumerate_from 0 table) (ap (λ (o : Option (ℕ × ℕ)). is_some o) no_astray)

    stirring : AllByRecursion (λ (e : ℕ × Object). is_stirring k (label_in table) e ≡ false) (enumerate_from 0 k.objects)
    stirring = none_found (is_stirring k (label_in table)) (enumerate_from 0 k.objects) (ap (λ (o : Option (ℕ × Object)). is_some o) no_stirring)

    is_domain : (label : ℕ) → label ≢ 0 → (o : Option Object) → is_astray_at label o ≡ false → o ≡ Some Pd
    is_domain label some (Some Pd) h = refl
    is_domain label some (Some (Ec pd cpu its event)) h = absurd (some (eqb-true label 0 (not-false (label == 0) h)))
    is_domain label some (Some (Sc e cpu priority quantum)) h = absurd (some (eqb-true label 0 (not-false (label == 0) h)))
    is_domain label some (Some (Pt handler mtd ip)) h = absurd (some (eqb-true label 0 (not-false (label == 0) h)))
    is_domain label some (Some Sm) h = absurd (some (eqb-true label 0 (not-false (label == 0) h)))
    is_domain label some None h = absurd (some (eqb-true label 0 (not-false (label == 0) h)))

    domain : (n : ℕ) → label_in table n ≢ 0 → (o : Option ℕ) → slice_get table n ≡ o → slice_get k.objects n ≡ Some Pd
    domain n some None at = absurd (some (ap or_trusted at))
    domain n some (Some label) at =
        is_domain label (λ none. some (ap or_trusted at ∙ none)) (slice_get k.objects n)
        (numbered_at (λ (e : ℕ × ℕ). is_astray k e ≡ false) table n label astray at)

    not_leading : (d : Derivation) → Contains k.delegations.list d → d.kind ≡ Obj → is_leading_by (label_in table) (lead_of k d (slice_get k.objects d.target)) ≡ false
    not_leading d there kind =
        let h = all_at (λ (e : Derivation). is_leading k (label_in table) e ≡ false) k.delegations.list d
        (none_found (is_leading k (label_in table)) k.delegations.list (ap (λ (o : Option Derivation). is_some o) no_leading)) (in_from_contains k.delegations.list d there) in
        by_kind d.kind kind h
      where
        by_kind : (its : Kind) → its ≡ Obj → (not (is_memory its) && is_leading_by (label_in table) (lead_of k d (slice_get k.objects d.target))) ≡ false →
            is_leading_by (label_in table) (lead_of k d (slice_get k.objects d.target)) ≡ false
        by_kind Mem is h = absurd (cc)
        by_kind Obj is h = h

    rests : (ec : ℕ) (x : EcState) → context_at k ec ≡ Some x → label_in table (pd_of k ec) ≡ 0 → IsMember k (λ m. Unit {0}) ec → is_resting k (is_sided (label_in table)) x ≡ true
    rests ec x at trusted m =
        let here : is_stirring_at k (label_in table) m.domain (context_at k ec) ≡ false =
        numbered_at (λ (e : ℕ × Object). is_stirring k (label_in table) e ≡ false) k.objects ec (Ec m.domain m.cpu m.kind m.event) stirring m.object in
        let its : is_stirring_at k (label_in table) m.domain (Some x) ≡ false = subst (λ (o : Option EcState). is_stirring_at k (label_in table) m.domain o ≡ false) at here in
        by_test (ap (label_in table) (sym (ap pd_in m.object)) ∙ trusted) its
      where
        by_test : label_in table m.domain ≡ 0 → ((label_in table m.domain == 0) && not (is_resting k (is_sided (label_in table)) x)) ≡ false → is_resting k (is_sided (label_in table)) x ≡ true
        by_test none h = elim (and_cases (label_in table m.domain == 0) (not (is_resting k (is_sided (label_in table)) x)) h) [
          | inl off ↦ absurd (let yes = eq-eqb (label_in table m.domain) 0 none in let both : true ≡ false = sym yes ∙ off in cc)
          | inr off ↦ not-false (is_resting k (is_sided (label_in table)) x) off
        ]

-- why not
pub astray_found : (k : KernelState) (table : List ℕ) (e : ℕ × ℕ) → find (is_astray k) (enumerate_from 0 table) ≡ Some e → IsRestless k (label_in table) (Astray e.0)
astray_found k table e is =
    let found = found_in (is_astray k) (enumerate_from 0 table) e is in
    let its : label_in table e.0 ≡ e.1 = ap or_trusted (in_numbered table e found.0) in
    (λ none. not_none (slice_get k.objects e.0) e.1 found.1 (sym its ∙ none), λ domain. not_domain e.1 (slice_get k.objects e.0) domain found.1)
  where
    not_domain : (label : ℕ) (o : Option Object) → o ≡ Some Pd → is_astray_at label o ≡ true → ⊥
    not_domain label o domain h = let off : is_astray_at label (Some Pd) ≡ true = subst (λ (p : Option Object). is_astray_at label p ≡ true) domain h in absurd (cc)

    not_none : (o : Option Object) (label : ℕ) → is_astray_at label o ≡ true → label ≡ 0 → ⊥
    not_none (Some Pd) label h none = absurd (cc)
    not_none (Some (Ec pd cpu its event)) label h none = eqb-false label 0 (not-true (label == 0) h) none
    not_none (Some (Sc c cpu priority quantum)) label h none = eqb-false label 0 (not-true (label == 0) h) none
    not_none (Some (Pt handler mtd ip)) label h none = eqb-false label 0 (not-true (label == 0) h) none
    not_none (Some Sm) label h none = eqb-false label 0 (not-true (label == 0) h) none
    not_none None label h none = eqb-false label 0 (not-true (label == 0) h) none

pub leading_found : (k : KernelState) (label : ℕ → ℕ) (d : Derivation) → find (is_leading k label) k.delegations.list ≡ Some d → IsRestless k label (Leads d)
leading_found k label d is =
    let found = found_in (is_leading k label) k.delegations.list d is in
    let parts = and_parts (not (is_memory d.kind)) (is_leading_by label (lead_of k d (slice_get k.objects d.target))) found.1 in
    (contains_from_in k.delegations.list d found.0, kind d.kind parts.0, some (slice_get k.objects d.target) parts.1, not_owned (slice_get k.objects d.target) parts.1)
  where
    kind : (its : Kind) → not (is_memory its) ≡ true → its ≡ Obj
    kind Mem h = absurd (cc)
    kind Obj h = refl

    from_some : (n : ℕ) → (not (label d.pd == 0) && (label n == 0)) ≡ true → label d.pd ≢ 0
    from_some n h = eqb-false (label d.pd) 0 (not-true (label d.pd == 0) (and_parts (not (label d.pd == 0)) (label n == 0) h).0)

    to_none : (n : ℕ) → (not (label d.pd == 0) && (label n == 0)) ≡ true → label n ≡ 0
    to_none n h = eqb-true (label n) 0 (and_parts (not (label d.pd == 0)) (label n == 0) h).1

    some : (o : Option Object) → is_leading_by label (lead_of k d o) ≡ true → label d.pd ≢ 0
    some (Some Pd) h = from_some d.target h
    some (Some (Ec pd cpu its event)) h = from_some pd h
    some (Some (Pt handler mtd ip)) h = from_some (pd_of k handler) h
    some (Some (Sc donor cpu priority quantum)) h = from_some (pd_of k donor) h
    some (Some Sm) h = absurd (cc)
    some None h = absurd (cc)

    not_owned : (o : Option Object) → is_leading_by label (lead_of k d o) ≡ true → IsOwned k (Sided label) d.target o → ⊥
    not_owned (Some Pd) h own = own (to_none d.target h)
    not_owned (Some (Ec pd cpu its event)) h own = own (to_none pd h)
    not_owned (Some (Pt handler mtd ip)) h own = member_pd k (Sided label) handler own (to_none (pd_of k handler) h)
    not_owned (Some (Sc donor cpu priority quantum)) h own = member_pd k (Sided label) donor own (to_none (pd_of k donor) h)
    not_owned (Some Sm) h own = absurd (cc)
    not_owned None h own = absurd (cc)

pub stirring_found : (k : KernelState) (label : ℕ → ℕ) (e : ℕ × Object) → find (is_stirring k label) (enumerate_from 0 k.objects) ≡ Some e → IsRestless k label (Stirs e.0)
stirring_found k label e is =
    let found = found_in (is_stirring k label) (enumerate_from 0 k.objects) e is in
    by_object e.0 e.1 (in_numbered k.objects e found.0) found.1
  where
    by_object : (n : ℕ) (o : Object) → slice_get k.objects n ≡ Some o → is_stirring k label (n, o) ≡ true → IsRestless k label (Stirs n)
    by_object n (Ec pd cpu its event) at h = by_context (context_at k n) refl h
      where
        by_context : (c : Option EcState) → context_at k n ≡ c → is_stirring_at k label pd c ≡ true → IsRestless k label (Stirs n)
        by_context None is_ h_ = absurd (cc)
        by_context (Some x) is_ h_ =
            let parts = and_parts (label pd == 0) (not (is_resting k (is_sided label) x)) h_ in
            (ap label (ap pd_in at) ∙ eqb-true (label pd) 0 parts.0, (x, is_, not-true (is_resting k (is_sided label) x) parts.1))
    by_object n Pd at h = absurd (cc)
    by_object n (Sc c cpu priority quantum) at h = absurd (cc)
    by_object n (Pt handler mtd ip) at h = absurd (cc)
    by_object n Sm at h = absurd (cc)

pub astray_stirs : (k : KernelState) (label : ℕ → ℕ) (n : ℕ) → IsRestless k label (Astray n) → IsAtRest k label → ⊥
astray_stirs k label n r at_rest = r.1 (at_rest.domains n r.0)

pub leading_stirs : (k : KernelState) (label : ℕ → ℕ) (d : Derivation) → IsRestless k label (Leads d) → IsAtRest k label → ⊥
leading_stirs k label d r at_rest = r.3 (at_rest.capabilities d r.0 r.1 r.2)

pub stirring_stirs : (k : KernelState) (label : ℕ → ℕ) (n : ℕ) → IsRestless k label (Stirs n) → IsAtRest k label → ⊥
stirring_stirs k label n r at_rest =
    let x = r.1 in
    let both : true ≡ false = sym (at_rest.rest n x.0 x.1 r.0) ∙ x.2 in cc

-- by what a search answers of numbered ones
some_of : {A : Type 0} (o : Option (ℕ × A)) (n : ℕ) → option_map (λ (e : ℕ × A). e.0) o ≡ Some n → (e : ℕ × A) × (o ≡ Some e) × (e.0 ≡ n)
some_of None n is = absurd (cc)
some_of (Some e) n is = (e, refl, same_Some e.0 n is)

none_of : {A : Type 0} (o : Option (ℕ × A)) → option_map (λ (e : ℕ × A). e.0) o ≡ None → o ≡ None
none_of None is = refl
none_of (Some e) is = absurd (cc)

pub astray_why : (k : KernelState) (table : List ℕ) (n : ℕ) → option_map (λ (e : ℕ × ℕ). e.0) (find (is_astray k) (enumerate_from 0 table)) ≡ Some n → IsRestless k (label_in table) (Astray n)
astray_why k table n is =
    let e = some_of (find (is_astray k) (enumerate_from 0 table)) n is in
    subst (λ (m : ℕ). IsRestless k (label_in table) (Astray m)) e.2 (astray_found k table e.0 e.1)

pub stirring_why : (k : KernelState) (label : ℕ → ℕ) (n : ℕ) → option_map (λ (e : ℕ × Object). e.0) (find (is_stirring k label) (enumerate_from 0 k.objects)) ≡ Some n → IsRestless k label (Stirs n)
stirring_why k label n is =
    let e = some_of (find (is_stirring k label) (enumerate_from 0 k.objects)) n is in
    subst (λ (m : ℕ). IsRestless k label (Stirs m)) e.2 (stirring_found k label e.0 e.1)

pub rest_why : (k : KernelState) (table : List ℕ) → HasTables k → option_map (λ (e : ℕ × ℕ). e.0) (find (is_astray k) (enumerate_from 0 table)) ≡ None → find (is_leading k (label_in table)) k.delegations.list ≡ None →
    option_map (λ (e : ℕ × Object). e.0) (find (is_stirring k (label_in table)) (enumerate_from 0 k.objects)) ≡ None → IsAtRest k (label_in table)
rest_why k table tables no_astray no_leading no_stirring =
    rest_found k table tables (none_of (find (is_astray k) (enumerate_from 0 table)) no_astray) no_leading (none_of (find (is_stirring k (label_in table)) (enumerate_from 0 k.objects)) no_stirring)

-- a cause that is real is one
pub restless_not : (k : KernelState) (label : ℕ → ℕ) (why : Restless) → IsRestless k label why → IsAtRest k label → ⊥
restless_not k label (Astray n) r at_rest = astray_stirs k label n r at_rest
restless_not k label (Leads d) r at_rest = leading_stirs k label d r at_rest
restless_not k label (Stirs n) r at_rest = stirring_stirs k label n r at_rest
