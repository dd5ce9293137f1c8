-- Labels of isolated sides respect the ties of the state.
use Rattle.std.proofs.Common.{◌≡◌, ◌≢◌, ◌⊎◌, ◌++◌, ℕ, [], refl, sym, ap, ◌∙◌, subst, inl, inr}
use Rattle.std.specs.Prelude.{◌==◌, ◌&&◌, ◌||◌, Bool, true, false, not, if◌then◌else◌, flat_map, slice_get, Option, Some, None, option_map, option_and_then, option_to_list}
use Rattle.std.specs.List.{AllByRecursion, enumerate_from}
use Rattle.std.proofs.lemmas.Bool.{and_parts, cases_eq, eqb-true, not-true}
use Rattle.std.proofs.lemmas.Option.{same_Some}
use Rattle.nova_objects.specs.declared.object.Object.{Object}
use Rattle.nova_objects.specs.declared.object.Object.TheVariants.{Pd, Ec, Sc, Pt, Sm}
use Rattle.nova_range.specs.Rights.{allows, write_right}
use Rattle.nova_range.specs.declared.range.Kind.{Kind}
use Rattle.nova_range.specs.declared.range.Kind.TheVariants.{Mem, Obj}
use Rattle.nova_model.specs.Delegations.{is_child_of}
use Rattle.nova_model.specs.Edges.{edge, edge_of}
use Rattle.nova_model.specs.State.{KernelState, context, context_at, context_in, is_local_thread, pd_in, pd_of}
use Rattle.nova_model.specs.declared.context.EcState.{EcState}
use Rattle.nova_model.specs.declared.context.Mark.{Mark}
use Rattle.nova_model.specs.declared.context.State.{State}
use Rattle.nova_model.specs.declared.context.State.TheVariants.{Blocked, Granting}
use Rattle.nova_model.specs.declared.delegation.Derivation.{Derivation}
use Rattle.law_forest.proofs.Members.{IsIn, contains_from_in}
use Rattle.law_integrity.specs.Confined.{IsOwned}
use Rattle.law_integrity.specs.Trusted.{IsWithinPolicy, Labelled, MayHold, MayWait, OrTrusted}
use Rattle.law_integrity.proofs.Confining.{member_pd}
use Rattle.nova_ties.specs.Ties.{AreRespected, Respects}
use Rattle.nova_ties.specs.declared.tie.Cause.TheVariants as cause
use Rattle.nova_ties.specs.declared.tie.Tie.{Tie}
use Rattle.law_sides.specs.Isolated.{AreIsolated, came_by_exit, commands_any}
use Rattle.law_sides.specs.Tied.{beside_at, beside_in, flows_by, gives_of, is_blocked_at, lead_of, meets, overlaps, overlaps_all, overlaps_by, queue_of, serves_by, serves_of, shares, shares_all, shares_at, shares_by, strict, takes_of, ties, ties_at, ties_by, ties_in, ties_of_kind, waits_all, waits_at, waits_in, weak}
use Rattle.law_sides.proofs.Frames.{meets_frame}
use Rattle.law_sides.proofs.Lists.{all_append, all_flat, all_numbered, all_some}
use Rattle.law_sides.proofs.Words.{weak_from, strict_from, leads_respected, state_at, at_sm}

module _ {shared : ℕ → Bool} {flows : ℕ → ℕ → Bool} (k : KernelState) (label : ℕ → ℕ) (isolated : AreIsolated shared flows k label) where
  abbrev policy : IsWithinPolicy shared k label
  policy = isolated.policy

  abbrev R : Tie → Type 0
  R = Respects label

  may : (d : Derivation) → IsIn k.delegations.list d → d.kind ≡ Obj → label d.pd ≢ 0 → MayHold shared k label (label d.pd) d.target
  may d i kind some = policy.capabilities d (contains_from_in k.delegations.list d i) kind some

  led : (d : Derivation) → IsIn k.delegations.list d → d.kind ≡ Obj → AllByRecursion R (option_to_list (lead_of k d (slice_get k.objects d.target)))
  led d i kind =
      by_object (slice_get k.objects d.target) (λ some. (may d i kind some).leads) (λ some is. isolated.powers d (contains_from_in k.delegations.list d i) kind some is)
    where
      by_object : (o : Option Object) → (label d.pd ≢ 0 → IsOwned k (OrTrusted label (label d.pd)) d.target o) →
          (label d.pd ≢ 0 → commands_any d.rights o ≡ true → IsOwned k (Labelled label (label d.pd)) d.target o) → AllByRecursion R (option_to_list (lead_of k d o))
      by_object (Some Pd) h g = (leads_respected label d d.target Pd (cause.Domain d.id) h g, tt)
      by_object (Some (Ec pd cpu kind event)) h g = (leads_respected label d pd (Ec pd cpu kind event) (cause.Context d.id) h g, tt)
      by_object (Some (Sc donor cpu priority quantum)) h g = (
        leads_respected label d (pd_of k donor) (Sc donor cpu priority quantum) (cause.Scheduling d.id)
            (λ some. member_pd k (OrTrusted label (label d.pd)) donor (h some)) (λ some is. member_pd k (Labelled label (label d.pd)) donor (g some is)),
        tt,
      )
      by_object (Some (Pt handler mtd ip)) h g = (
        leads_respected label d (pd_of k handler) (Pt handler mtd ip) (cause.Portal d.id)
            (λ some. member_pd k (OrTrusted label (label d.pd)) handler (h some)) (λ some is. member_pd k (Labelled label (label d.pd)) handler (g some is)),
        tt,
      )
      by_object (Some Sm) h g = tt
      by_object None h g = tt

  sharing : (d : Derivation) → IsIn k.delegations.list d → d.kind ≡ Obj → AllByRecursion R (shares_all shared k.delegations.list d (slice_get k.objects d.target))
  sharing d i kind = by_object (slice_get k.objects d.target) refl
    where
      by_share : slice_get k.objects d.target ≡ Some Sm → (e : Derivation) → IsIn k.delegations.list e → e.kind ≡ Obj → e.target ≡ d.target → (t : Bool) → shared d.target ≡ t →
          AllByRecursion R (option_to_list (shares_at t d e))
      by_share sm e j is same false lone = (
        weak_from label d.pd e.pd (cause.Shared d.id e.id) (λ some. (may d i kind some).alone sm lone e (contains_from_in k.delegations.list e j) is same),
        tt,
      )
      by_share sm e j is same true common = by_child (is_child_of d.id e) refl
        where
          by_child : (t : Bool) → is_child_of d.id e ≡ t → AllByRecursion R (option_to_list (if t then Some (strict d.pd e.pd (cause.Shared d.id e.id)) else None))
          by_child true child = (
            strict_from label d.pd e.pd (cause.Shared d.id e.id)
                (λ some. isolated.parents e d (contains_from_in k.delegations.list e j) (contains_from_in k.delegations.list d i) is kind sm same common child some),
            tt,
          )
          by_child false child = tt

      one : slice_get k.objects d.target ≡ Some Sm → (e : Derivation) → IsIn k.delegations.list e → (its : Kind) → e.kind ≡ its → AllByRecursion R (option_to_list (shares_by shared its d e))
      one sm e j Mem is = tt
      one sm e j Obj is = by_test (e.target == d.target) refl
        where
          by_test : (t : Bool) → (e.target == d.target) ≡ t → AllByRecursion R (option_to_list (if t then shares_at (shared d.target) d e else None))
          by_test true same = by_share sm e j is (eqb-true e.target d.target same) (shared d.target) refl
          by_test false same = tt

      by_object : (o : Option Object) → slice_get k.objects d.target ≡ o → AllByRecursion R (shares_all shared k.delegations.list d o)
      by_object (Some Pd) at = tt
      by_object (Some (Ec pd cpu its event)) at = tt
      by_object (Some (Pt handler mtd ip)) at = tt
      by_object (Some (Sc e cpu priority quantum)) at = tt
      by_object (Some Sm) at = all_flat R (λ (e : Derivation). option_to_list (shares shared d e)) k.delegations.list (λ e j. one at e j e.kind refl)
      by_object None at = tt

  waits : (d : Derivation) → IsIn k.delegations.list d → d.kind ≡ Obj → AllByRecursion R (waits_all shared k d)
  waits d i kind = by_share (shared d.target) refl
    where
      by_context : shared d.target ≡ false → (n pd : ℕ) → pd_of k n ≡ pd → (x : Option EcState) → context_at k n ≡ x → AllByRecursion R (option_to_list (waits_at d n pd x))
      by_context lone n pd its None at = tt
      by_context lone n pd its (Some x) at = by_test (is_blocked_at d.target x) refl
        where
          by_test : (t : Bool) → is_blocked_at d.target x ≡ t → AllByRecursion R (option_to_list (if t then Some (weak d.pd pd (cause.Waits d.id n)) else None))
          by_test true is = (
            weak_from label d.pd pd (cause.Waits d.id n)
                (λ some. subst (OrTrusted label (label d.pd)) its ((may d i kind some).waits lone n (state_at (context_at k n) x at ∙ at_sm d.target x.state is))),
            tt,
          )
          by_test false is = tt

      by_object : shared d.target ≡ false → (n : ℕ) (o : Object) → slice_get k.objects n ≡ Some o → AllByRecursion R (option_to_list (waits_in k d (n, o)))
      by_object lone n Pd at = tt
      by_object lone n (Ec pd cpu its event) at = by_context lone n pd (ap pd_in at) (context_at k n) refl
      by_object lone n (Pt handler mtd ip) at = tt
      by_object lone n (Sc e cpu priority quantum) at = tt
      by_object lone n Sm at = tt

      by_share : (t : Bool) → shared d.target ≡ t → AllByRecursion R (if t then [] else flat_map (λ (e : ℕ × Object). option_to_list (waits_in k d e)) (enumerate_from 0 k.objects))
      by_share true lone = tt
      by_share false lone = all_numbered R (λ (e : ℕ × Object). option_to_list (waits_in k d e)) k.objects (λ n o at. by_object lone n o at)

  overlapping : (d : Derivation) → IsIn k.delegations.list d → d.kind ≡ Mem → AllByRecursion R (overlaps_all false (flows_by flows label) k.delegations.list d (allows d.rights write_right))
  overlapping d i kind = by_right (allows d.rights write_right) refl
    where
      within : allows d.rights write_right ≡ true → (e : Derivation) → IsIn k.delegations.list e → e.kind ≡ Mem → meets d e ≡ true → not (flows (label d.pd) (label e.pd)) ≡ true → label d.pd ≢ 0 →
          OrTrusted label (label d.pd) e.pd
      within writes e j is met held some =
          let both = meets_frame d e met in
          elim (cases_eq (label e.pd) 0) [
            | inl none ↦ inr none
            | inr other ↦ elim (isolated.frames (label d.pd) (label e.pd) both.0 some other
                (record { derivation = d; there = contains_from_in k.delegations.list d i; of = refl; kind = kind; leads = both.1; allowed = writes })
                (record { derivation = e; there = contains_from_in k.delegations.list e j; of = refl; kind = is; leads = both.2 })) [
                  | inl same ↦ inl same
                  | inr flow ↦ let no : true ≡ false = sym flow ∙ not-true (flows (label d.pd) (label e.pd)) held in absurd (cc)
                ]
          ]

      one : allows d.rights write_right ≡ true → (e : Derivation) → IsIn k.delegations.list e → (its : Kind) → e.kind ≡ its → AllByRecursion R (option_to_list (overlaps_by false (flows_by flows label) its d e))
      one writes e j Obj is = tt
      one writes e j Mem is = by_test (meets d e && not (flows (label d.pd) (label e.pd))) refl
        where
          by_test : (t : Bool) → (meets d e && not (flows (label d.pd) (label e.pd))) ≡ t → AllByRecursion R (option_to_list (if t then Some (weak d.pd e.pd (cause.Frames d.id e.id)) else None))
          by_test true both =
              let parts = and_parts (meets d e) (not (flows (label d.pd) (label e.pd))) both in
              (weak_from label d.pd e.pd (cause.Frames d.id e.id) (within writes e j is parts.0 parts.1), tt)
          by_test false both = tt

      by_right : (t : Bool) → allows d.rights write_right ≡ t → AllByRecursion R (overlaps_all false (flows_by flows label) k.delegations.list d t)
      by_right true writes = all_flat R (λ (e : Derivation). option_to_list (overlaps false (flows_by flows label) d e)) k.delegations.list (λ e j. one writes e j e.kind refl)
      by_right false writes = tt

  by_capability : (d : Derivation) → IsIn k.delegations.list d → AllByRecursion R (ties_by shared (flows_by flows label) k k.delegations.list d)
  by_capability d i = by_kind d.kind refl
    where
      by_kind : (its : Kind) → d.kind ≡ its → AllByRecursion R (ties_of_kind shared (flows_by flows label) k k.delegations.list d its)
      by_kind Mem is = overlapping d i is
      by_kind Obj is =
          all_append R (option_to_list (lead_of k d (slice_get k.objects d.target))) (shares_all shared k.delegations.list d (slice_get k.objects d.target) ++ waits_all shared k d) (led d i is)
          (all_append R (shares_all shared k.delegations.list d (slice_get k.objects d.target)) (waits_all shared k d) (sharing d i is) (waits d i is))

  serves : (n pd : ℕ) (x : EcState) → pd_of k n ≡ pd → context_at k n ≡ Some x → AllByRecursion R (option_to_list (serves_of k n pd x.state))
  serves n pd x its at = by_edge (edge_of x.state) refl
    where
      by_edge : (o : Option ℕ) → edge_of x.state ≡ o → AllByRecursion R (option_to_list (serves_by k n pd o))
      by_edge None is = tt
      by_edge (Some handler) is = (
        (λ some. by_way handler some (ap (λ (o : Option EcState). option_and_then edge_of (option_map (λ y. y.state) o)) at ∙ is) (came_by_exit k n handler) refl),
        tt,
      )
        where
          by_waits : (h : ℕ) → came_by_exit k n h ≡ false → MayWait k label (label (pd_of k h)) n →
              (label pd ≡ label (pd_of k h)) ⊎ (((is_local_thread k n || came_by_exit k n h) ≡ false) × (label pd ≡ 0))
          by_waits h called (inl same) = inl (sym (ap label its) ∙ same)
          by_waits h called (inr client) = inr (ap (λ (b : Bool). b || came_by_exit k n h) client.1 ∙ called, sym (ap label its) ∙ client.0)

          by_way : (h : ℕ) → label (pd_of k h) ≢ 0 → edge k.contexts n ≡ Some h → (t : Bool) → came_by_exit k n h ≡ t →
              (label pd ≡ label (pd_of k h)) ⊎ (((is_local_thread k n || came_by_exit k n h) ≡ false) × (label pd ≡ 0))
          by_way h some waits true exits = inl (sym (ap label its) ∙ isolated.exits n h waits exits some)
          by_way h some waits false called = by_waits h called (policy.edges n h waits some)

  takes : (n pd : ℕ) (x : EcState) → pd_of k n ≡ pd → context_at k n ≡ Some x → AllByRecursion R (option_to_list (takes_of k n pd x.state x.caller))
  takes n pd x its at = by_state x.state x.caller (state_at (context_at k n) x at) (ap (λ (o : Option EcState). (context_in o).caller) at)
    where
      by_state : (s : State) (c : Option (ℕ × Mark)) → (context k n).state ≡ s → (context k n).caller ≡ c → AllByRecursion R (option_to_list (takes_of k n pd s c))
      by_state (Granting None) None is keeps = tt
      by_state (Granting None) (Some (caller, mark)) is keeps = (
        strict_from label pd (pd_of k caller) (cause.Takes n caller)
            (λ some. policy.takes n caller mark is keeps (λ none. some (sym (ap label its) ∙ none)) ∙ ap label its),
        tt,
      )
      by_state other c is keeps = tt

  gives : (n pd : ℕ) (x : EcState) → pd_of k n ≡ pd → context_at k n ≡ Some x → AllByRecursion R (option_to_list (gives_of n pd x.state))
  gives n pd x its at = all_some R (gives_of n pd x.state) (λ t is. by_state x.state (state_at (context_at k n) x at) t is)
    where
      by_state : (s : State) → (context k n).state ≡ s → (t : Tie) → gives_of n pd s ≡ Some t → R t
      by_state (Granting (Some new)) is t same =
          subst R (same_Some (strict pd new (cause.Gives n)) t same) (strict_from label pd new (cause.Gives n)
          (λ some. policy.firsts n new is (λ none. some (sym (ap label its) ∙ none)) ∙ ap label its))
      by_state other is t same = absurd (cc)

  queues : (n pd : ℕ) (x : EcState) → pd_of k n ≡ pd → context_at k n ≡ Some x → AllByRecursion R (queue_of shared k n pd x.state)
  queues n pd x its at = by_state x.state (state_at (context_at k n) x at)
    where
      by_context : (sm : ℕ) → shared sm ≡ false → (context k n).state ≡ Blocked sm → (m other : ℕ) → pd_of k m ≡ other → (y : Option EcState) → context_at k m ≡ y → AllByRecursion R (option_to_list (beside_at sm n pd m other y))
      by_context sm lone is m other of None there = tt
      by_context sm lone is m other of (Some y) there = by_test (is_blocked_at sm y) refl
        where
          by_test : (t : Bool) → is_blocked_at sm y ≡ t → AllByRecursion R (option_to_list (if t then Some (weak pd other (cause.Queue n m)) else None))
          by_test true waits = (
            weak_from label pd other (cause.Queue n m)
                (λ some. subst (λ (e : ℕ). OrTrusted label (label e) other) its (subst (OrTrusted label (label (pd_of k n))) of
                (policy.queues n m sm lone is (state_at (context_at k m) y there ∙ at_sm sm y.state waits) (λ none. some (sym (ap label its) ∙ none))))),
            tt,
          )
          by_test false waits = tt

      by_object : (sm : ℕ) → shared sm ≡ false → (context k n).state ≡ Blocked sm → (m : ℕ) (o : Object) → slice_get k.objects m ≡ Some o → AllByRecursion R (option_to_list (beside_in k sm n pd (m, o)))
      by_object sm lone is m Pd there = tt
      by_object sm lone is m (Ec other cpu kind event) there = by_context sm lone is m other (ap pd_in there) (context_at k m) refl
      by_object sm lone is m (Pt handler mtd ip) there = tt
      by_object sm lone is m (Sc e cpu priority quantum) there = tt
      by_object sm lone is m Sm there = tt

      by_share : (sm : ℕ) → (context k n).state ≡ Blocked sm → (t : Bool) → shared sm ≡ t →
          AllByRecursion R (if t then [] else flat_map (λ (e : ℕ × Object). option_to_list (beside_in k sm n pd e)) (enumerate_from 0 k.objects))
      by_share sm is true lone = tt
      by_share sm is false lone = all_numbered R (λ (e : ℕ × Object). option_to_list (beside_in k sm n pd e)) k.objects (λ m o there. by_object sm lone is m o there)

      by_state : (s : State) → (context k n).state ≡ s → AllByRecursion R (queue_of shared k n pd s)
      by_state (Blocked sm) is = by_share sm is (shared sm) refl
      by_state other is = tt

  by_context : (n : ℕ) (o : Object) → slice_get k.objects n ≡ Some o → AllByRecursion R (ties_at shared k (n, o))
  by_context n Pd at = tt
  by_context n (Ec pd cpu its event) at = by_state (context_at k n) refl
    where
      by_state : (x : Option EcState) → context_at k n ≡ x → AllByRecursion R (ties_in shared k n pd x)
      by_state None is = tt
      by_state (Some x) is =
          all_append R (option_to_list (serves_of k n pd x.state)) (option_to_list (takes_of k n pd x.state x.caller) ++ (option_to_list (gives_of n pd x.state) ++ queue_of shared k n pd x.state)) (serves n pd x (ap pd_in at) is)
          (all_append R (option_to_list (takes_of k n pd x.state x.caller)) (option_to_list (gives_of n pd x.state) ++ queue_of shared k n pd x.state) (takes n pd x (ap pd_in at) is)
          (all_append R (option_to_list (gives_of n pd x.state)) (queue_of shared k n pd x.state) (gives n pd x (ap pd_in at) is) (queues n pd x (ap pd_in at) is)))
  by_context n (Pt handler mtd ip) at = tt
  by_context n (Sc e cpu priority quantum) at = tt
  by_context n Sm at = tt

pub isolated_respects : {shared : ℕ → Bool} {flows : ℕ → ℕ → Bool} (k : KernelState) (label : ℕ → ℕ) → AreIsolated shared flows k label → AreRespected label (ties shared (flows_by flows label) k)
unfolding ties
isolated_respects {shared} {flows} k label isolated =
    all_append (Respects label) (flat_map (ties_by shared (flows_by flows label) k k.delegations.list) k.delegations.list) (flat_map (ties_at shared k) (enumerate_from 0 k.objects))
    (all_flat (Respects label) (ties_by shared (flows_by flows label) k k.delegations.list) k.delegations.list (by_capability k label isolated))
    (all_numbered (Respects label) (ties_at shared k) k.objects (by_context k label isolated))
