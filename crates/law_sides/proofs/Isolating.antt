-- Sides whose labels respect the ties of the state are isolated.
use Rattle.std.proofs.Common.{◌≡◌, ◌≢◌, ◌⊎◌, ◌++◌, ℕ, [], refl, sym, ap, ◌∙◌, subst, inl, inr}
use Rattle.std.specs.Prelude.{◌&&◌, ◌||◌, Bool, true, false, not, if◌then◌else◌, flat_map, is_some, Contains, slice_get, Option, Some, None, option_map, option_and_then, option_to_list}
use Rattle.std.specs.List.{AllByRecursion, enumerate_from}
use Rattle.std.proofs.lemmas.Bool.{eq-eqb, or_parts}
use Rattle.nova_objects.specs.declared.object.Object.{Object}
use Rattle.nova_objects.specs.declared.object.Object.TheVariants.{Pd, Ec, Sc, Pt, Sm}
use Rattle.nova_range.specs.Rights.{allows, write_right}
use Rattle.nova_range.specs.declared.range.Kind.{Kind}
use Rattle.nova_range.specs.declared.range.Kind.TheVariants.{Obj}
use Rattle.nova_model.specs.Delegations.{is_child_of}
use Rattle.nova_model.specs.Edges.{edge, edge_of}
use Rattle.nova_model.specs.State.{KernelState, context, context_at, context_in, is_local_thread, pd_in, pd_of}
use Rattle.nova_model.specs.declared.context.EcState.{EcState}
use Rattle.nova_model.specs.declared.context.Mark.{Mark}
use Rattle.nova_model.specs.declared.context.State.{State}
use Rattle.nova_model.specs.declared.context.State.TheVariants.{Blocked, Granting}
use Rattle.nova_model.specs.declared.delegation.Derivation.{Derivation}
use Rattle.law_forest.proofs.Members.{in_from_contains}
use Rattle.law_turns.specs.Tables.{HasTables, Refers}
use Rattle.law_integrity.specs.Confined.{IsMember, IsOwned, Reach, ReachAny}
use Rattle.law_integrity.specs.Trusted.{Labelled, MayWait, OrTrusted}
use Rattle.law_integrity.proofs.Edges.{at_index}
use Rattle.law_integrity.proofs.Labels.{IsEc, context_ec, edge_ec, local_ec}
use Rattle.nova_ties.specs.Ties.{AreRespected, Respects}
use Rattle.nova_ties.specs.declared.tie.Cause.TheVariants as cause
use Rattle.nova_ties.specs.declared.tie.Tie.{Tie}
use Rattle.law_sides.specs.Isolated.{AreIsolated, came_by_exit, commands_any}
use Rattle.law_sides.specs.Tied.{beside_at, beside_in, flows_by, gives_of, lead_of, overlaps, overlaps_all, overlaps_by, queue_of, served, serves_by, serves_of, shares, shares_all, shares_at, shares_by, strict, takes_by, takes_of, ties, ties_at, ties_by, ties_in, ties_of_kind, waits_all, waits_at, waits_in, weak}
use Rattle.law_sides.proofs.Frames.{frame_meets}
use Rattle.law_sides.proofs.Lists.{all_left, all_right, flat_all, numbered_all, some_all}
use Rattle.law_sides.proofs.Words.{weak_to, strict_to, leads_may, leads_own, donor_ec, sm_at}

module _ (shared : ℕ → Bool) (flows : ℕ → ℕ → Bool) (k : KernelState) (label : ℕ → ℕ) (tables : HasTables k)
    (capable : AllByRecursion (Respects label) (flat_map (ties_by shared (flows_by flows label) k k.delegations.list) k.delegations.list))
    (waiting : AllByRecursion (Respects label) (flat_map (ties_at shared k) (enumerate_from 0 k.objects))) where
  its_ties : (d : Derivation) → Contains k.delegations.list d → d.kind ≡ Obj →
      AllByRecursion (Respects label) (option_to_list (lead_of k d (slice_get k.objects d.target)) ++ (shares_all shared k.delegations.list d (slice_get k.objects d.target) ++ waits_all shared k d))
  its_ties d there kind =
      subst (λ (s : Kind). AllByRecursion (Respects label) (ties_of_kind shared (flows_by flows label) k k.delegations.list d s)) kind
      (flat_all (Respects label) (ties_by shared (flows_by flows label) k k.delegations.list) k.delegations.list d capable (in_from_contains k.delegations.list d there))

  its_lead : (d : Derivation) → Contains k.delegations.list d → d.kind ≡ Obj → AllByRecursion (Respects label) (option_to_list (lead_of k d (slice_get k.objects d.target)))
  its_lead d there kind =
      all_left (Respects label) (option_to_list (lead_of k d (slice_get k.objects d.target))) (shares_all shared k.delegations.list d (slice_get k.objects d.target) ++ waits_all shared k d) (its_ties d there kind)

  -- an execution context is a member where its domain is one
  member_of : (S : ℕ → Type 0) (n : ℕ) → IsEc k n → S (pd_of k n) → IsMember k S n
  member_of S n m of = record { domain = m.domain; cpu = m.cpu; kind = m.kind; event = m.event; object = m.object; of = subst S (ap pd_in m.object) of }

  handler_of : (n handler mtd ip : ℕ) → slice_get k.objects n ≡ Some (Pt handler mtd ip) → IsEc k handler
  handler_of n handler mtd ip at = local_ec k handler (at_index (Refers k.objects) k.objects n (Pt handler mtd ip) tables.refer at)

  donor_of : (n donor cpu priority quantum : ℕ) → slice_get k.objects n ≡ Some (Sc donor cpu priority quantum) → IsEc k donor
  donor_of n donor cpu priority quantum at = donor_ec k donor cpu (at_index (Refers k.objects) k.objects n (Sc donor cpu priority quantum) tables.refer at)

  its_leads : (d : Derivation) → Contains k.delegations.list d → d.kind ≡ Obj → label d.pd ≢ 0 → IsOwned k (OrTrusted label (label d.pd)) d.target (slice_get k.objects d.target)
  its_leads d there kind some = by_object (slice_get k.objects d.target) refl (its_lead d there kind)
    where
      by_object : (o : Option Object) → slice_get k.objects d.target ≡ o → AllByRecursion (Respects label) (option_to_list (lead_of k d o)) → IsOwned k (OrTrusted label (label d.pd)) d.target o
      by_object (Some Pd) at a = leads_may label d d.target Pd (cause.Domain d.id) a.0 some
      by_object (Some (Ec pd cpu its event)) at a = leads_may label d pd (Ec pd cpu its event) (cause.Context d.id) a.0 some
      by_object (Some (Pt handler mtd ip)) at a =
          member_of (OrTrusted label (label d.pd)) handler (handler_of d.target handler mtd ip at) (leads_may label d (pd_of k handler) (Pt handler mtd ip) (cause.Portal d.id) a.0 some)
      by_object (Some (Sc donor cpu priority quantum)) at a =
          member_of (OrTrusted label (label d.pd)) donor (donor_of d.target donor cpu priority quantum at)
          (leads_may label d (pd_of k donor) (Sc donor cpu priority quantum) (cause.Scheduling d.id) a.0 some)
      by_object (Some Sm) at a = tt
      by_object None at a = tt

  its_powers : (d : Derivation) → Contains k.delegations.list d → d.kind ≡ Obj → label d.pd ≢ 0 → commands_any d.rights (slice_get k.objects d.target) ≡ true →
      IsOwned k (Labelled label (label d.pd)) d.target (slice_get k.objects d.target)
  its_powers d there kind some power = by_object (slice_get k.objects d.target) refl (its_lead d there kind) power
    where
      by_object : (o : Option Object) → slice_get k.objects d.target ≡ o → AllByRecursion (Respects label) (option_to_list (lead_of k d o)) → commands_any d.rights o ≡ true →
          IsOwned k (Labelled label (label d.pd)) d.target o
      by_object (Some Pd) at a is = leads_own label d d.target Pd (cause.Domain d.id) a.0 some is
      by_object (Some (Ec pd cpu its event)) at a is = leads_own label d pd (Ec pd cpu its event) (cause.Context d.id) a.0 some is
      by_object (Some (Pt handler mtd ip)) at a is =
          member_of (Labelled label (label d.pd)) handler (handler_of d.target handler mtd ip at) (leads_own label d (pd_of k handler) (Pt handler mtd ip) (cause.Portal d.id) a.0 some is)
      by_object (Some (Sc donor cpu priority quantum)) at a is =
          member_of (Labelled label (label d.pd)) donor (donor_of d.target donor cpu priority quantum at)
          (leads_own label d (pd_of k donor) (Sc donor cpu priority quantum) (cause.Scheduling d.id) a.0 some is)
      by_object (Some Sm) at a is = absurd (cc)
      by_object None at a is = absurd (cc)

  its_frames : (side other frame : ℕ) → side ≢ 0 → other ≢ 0 → Reach k (Labelled label side) write_right frame → ReachAny k (Labelled label other) frame → (other ≡ side) ⊎ (flows side other ≡ true)
  its_frames side other frame some more reach any = by_flow (flows (label d.pd) (label e.pd)) refl
    where
      d : Derivation
      d = reach.derivation

      e : Derivation
      e = any.derivation

      tie : Tie
      tie = weak d.pd e.pd (cause.Frames d.id e.id)

      first : AllByRecursion (Respects label) (overlaps_all false (flows_by flows label) k.delegations.list d (allows d.rights write_right))
      first =
          subst (λ (s : Kind). AllByRecursion (Respects label) (ties_of_kind shared (flows_by flows label) k k.delegations.list d s)) reach.kind
          (flat_all (Respects label) (ties_by shared (flows_by flows label) k k.delegations.list) k.delegations.list d capable (in_from_contains k.delegations.list d reach.there))

      each : AllByRecursion (Respects label) (flat_map (λ (f : Derivation). option_to_list (overlaps false (flows_by flows label) d f)) k.delegations.list)
      each = subst (λ (t : Bool). AllByRecursion (Respects label) (overlaps_all false (flows_by flows label) k.delegations.list d t)) reach.allowed first

      by_way : (m n : ℕ) → label m ≡ side → label n ≡ other → OrTrusted label (label m) n → other ≡ side
      by_way m n of its (inl same) = sym its ∙ same ∙ of
      by_way m n of its (inr none) = absurd (more (sym its ∙ none))

      by_flow : (t : Bool) → flows (label d.pd) (label e.pd) ≡ t → (other ≡ side) ⊎ (flows side other ≡ true)
      by_flow true flow = inr (ap (λ (l : ℕ). flows l other) (sym reach.of) ∙ ap (flows (label d.pd)) (sym any.of) ∙ flow)
      by_flow false none =
          let overlap : overlaps false (flows_by flows label) d e ≡ Some tie =
          ap (λ (s : Kind). overlaps_by false (flows_by flows label) s d e) any.kind
          ∙ ap (λ (b : Bool). if b && not (flows (label d.pd) (label e.pd)) then Some tie else None) (frame_meets d e frame reach.leads any.leads)
          ∙ ap (λ (b : Bool). if not b then Some tie else None) none in
          inl (by_way d.pd e.pd reach.of any.of
          (weak_to label d.pd e.pd (cause.Frames d.id e.id)
          (some_all (Respects label) (overlaps false (flows_by flows label) d e) tie
          (flat_all (Respects label) (λ (f : Derivation). option_to_list (overlaps false (flows_by flows label) d f)) k.delegations.list e each (in_from_contains k.delegations.list e any.there)) overlap)
          (λ trusted. some (sym reach.of ∙ trusted))))

  its_rest : (d : Derivation) → Contains k.delegations.list d → d.kind ≡ Obj → AllByRecursion (Respects label) (shares_all shared k.delegations.list d (slice_get k.objects d.target) ++ waits_all shared k d)
  its_rest d there kind =
      all_right (Respects label) (option_to_list (lead_of k d (slice_get k.objects d.target))) (shares_all shared k.delegations.list d (slice_get k.objects d.target) ++ waits_all shared k d) (its_ties d there kind)

  its_alone : (d : Derivation) → Contains k.delegations.list d → d.kind ≡ Obj → label d.pd ≢ 0 → slice_get k.objects d.target ≡ Some Sm → shared d.target ≡ false → (e : Derivation) → Contains k.delegations.list e → e.kind ≡ Obj →
      e.target ≡ d.target → OrTrusted label (label d.pd) e.pd
  its_alone d there kind some sm lone e its is same =
      let all : AllByRecursion (Respects label) (shares_all shared k.delegations.list d (slice_get k.objects d.target)) =
      all_left (Respects label) (shares_all shared k.delegations.list d (slice_get k.objects d.target)) (waits_all shared k d) (its_rest d there kind) in
      let each : AllByRecursion (Respects label) (flat_map (λ (f : Derivation). option_to_list (shares shared d f)) k.delegations.list) =
      subst (λ (o : Option Object). AllByRecursion (Respects label) (shares_all shared k.delegations.list d o)) sm all in
      weak_to label d.pd e.pd (cause.Shared d.id e.id)
      (some_all (Respects label) (shares shared d e) (weak d.pd e.pd (cause.Shared d.id e.id))
      (flat_all (Respects label) (λ (f : Derivation). option_to_list (shares shared d f)) k.delegations.list e each (in_from_contains k.delegations.list e its)) shares_is) some
    where
      shares_is : shares shared d e ≡ Some (weak d.pd e.pd (cause.Shared d.id e.id))
      shares_is =
          ap (λ (s : Kind). shares_by shared s d e) is ∙ ap (λ (b : Bool). if b then shares_at (shared d.target) d e else None) (eq-eqb e.target d.target same)
          ∙ ap (λ (t : Bool). shares_at t d e) lone

  its_parents : (d p : Derivation) → Contains k.delegations.list d → Contains k.delegations.list p → d.kind ≡ Obj → p.kind ≡ Obj → slice_get k.objects p.target ≡ Some Sm → d.target ≡ p.target →
      shared p.target ≡ true → is_child_of p.id d ≡ true → label p.pd ≢ 0 → label d.pd ≡ label p.pd
  its_parents d p there its is kind sm same common child some =
      let all : AllByRecursion (Respects label) (shares_all shared k.delegations.list p (slice_get k.objects p.target)) =
      all_left (Respects label) (shares_all shared k.delegations.list p (slice_get k.objects p.target)) (waits_all shared k p) (its_rest p its kind) in
      let each : AllByRecursion (Respects label) (flat_map (λ (f : Derivation). option_to_list (shares shared p f)) k.delegations.list) =
      subst (λ (o : Option Object). AllByRecursion (Respects label) (shares_all shared k.delegations.list p o)) sm all in
      strict_to label p.pd d.pd (cause.Shared p.id d.id)
      (some_all (Respects label) (shares shared p d) (strict p.pd d.pd (cause.Shared p.id d.id))
      (flat_all (Respects label) (λ (f : Derivation). option_to_list (shares shared p f)) k.delegations.list d each (in_from_contains k.delegations.list d there)) shares_is) some
    where
      shares_is : shares shared p d ≡ Some (strict p.pd d.pd (cause.Shared p.id d.id))
      shares_is =
          ap (λ (s : Kind). shares_by shared s p d) is ∙ ap (λ (b : Bool). if b then shares_at (shared p.target) p d else None) (eq-eqb d.target p.target same)
          ∙ ap (λ (t : Bool). shares_at t p d) common ∙ ap (λ (t : Bool). if t then Some (strict p.pd d.pd (cause.Shared p.id d.id)) else None) child

  its_waits : (d : Derivation) → Contains k.delegations.list d → d.kind ≡ Obj → label d.pd ≢ 0 → shared d.target ≡ false → (n : ℕ) → (context k n).state ≡ Blocked d.target → OrTrusted label (label d.pd) (pd_of k n)
  its_waits d there kind some lone n blocked = by_context (context_at k n) refl blocked
    where
      by_member : (x : EcState) → context_at k n ≡ Some x → x.state ≡ Blocked d.target → IsMember k (λ m. Unit {0}) n → OrTrusted label (label d.pd) (pd_of k n)
      by_member x at is m =
          let here : AllByRecursion (Respects label) (option_to_list (waits_in k d (n, Ec m.domain m.cpu m.kind m.event))) =
          numbered_all (Respects label) (λ (e : ℕ × Object). option_to_list (waits_in k d e)) k.objects n (Ec m.domain m.cpu m.kind m.event)
          (subst (λ (t : Bool). AllByRecursion (Respects label) (if t then [] else flat_map (λ (e : ℕ × Object). option_to_list (waits_in k d e)) (enumerate_from 0 k.objects))) lone
          (all_right (Respects label) (shares_all shared k.delegations.list d (slice_get k.objects d.target)) (waits_all shared k d) (its_rest d there kind))) m.object in
          let waits_is : waits_at d n m.domain (context_at k n) ≡ Some (weak d.pd m.domain (cause.Waits d.id n)) =
          ap (waits_at d n m.domain) at ∙ ap (λ (b : Bool). if b then Some (weak d.pd m.domain (cause.Waits d.id n)) else None) (sm_at d.target x.state is) in
          subst (OrTrusted label (label d.pd)) (sym (ap pd_in m.object))
          (weak_to label d.pd m.domain (cause.Waits d.id n)
          (some_all (Respects label) (waits_at d n m.domain (context_at k n)) (weak d.pd m.domain (cause.Waits d.id n)) here waits_is) some)

      by_context : (o : Option EcState) → context_at k n ≡ o → (context_in o).state ≡ Blocked d.target → OrTrusted label (label d.pd) (pd_of k n)
      by_context None at is = absurd (cc)
      by_context (Some x) at is = by_member x at is (context_ec k n tables (ap (λ (o : Option EcState). is_some o) at))

  -- the ties of an execution context
  here_ties : (n : ℕ) (m : IsMember k (λ i. Unit {0}) n) (x : EcState) → context_at k n ≡ Some x →
      AllByRecursion (Respects label) (option_to_list (serves_of k n m.domain x.state) ++ (option_to_list (takes_of k n m.domain x.state x.caller) ++ (option_to_list (gives_of n m.domain x.state) ++ queue_of shared k n m.domain x.state)))
  here_ties n m x at =
      let here : AllByRecursion (Respects label) (ties_in shared k n m.domain (context_at k n)) =
      numbered_all (Respects label) (ties_at shared k) k.objects n (Ec m.domain m.cpu m.kind m.event) waiting m.object in
      subst (λ (o : Option EcState). AllByRecursion (Respects label) (ties_in shared k n m.domain o)) at here

  taking_ties : (n : ℕ) (m : IsMember k (λ i. Unit {0}) n) (x : EcState) → context_at k n ≡ Some x →
      AllByRecursion (Respects label) (option_to_list (takes_of k n m.domain x.state x.caller) ++ (option_to_list (gives_of n m.domain x.state) ++ queue_of shared k n m.domain x.state))
  taking_ties n m x at =
      all_right (Respects label) (option_to_list (serves_of k n m.domain x.state)) (option_to_list (takes_of k n m.domain x.state x.caller) ++ (option_to_list (gives_of n m.domain x.state) ++ queue_of shared k n m.domain x.state)) (here_ties n m x at)

  later_ties : (n : ℕ) (m : IsMember k (λ i. Unit {0}) n) (x : EcState) → context_at k n ≡ Some x →
      AllByRecursion (Respects label) (option_to_list (gives_of n m.domain x.state) ++ queue_of shared k n m.domain x.state)
  later_ties n m x at =
      all_right (Respects label) (option_to_list (takes_of k n m.domain x.state x.caller)) (option_to_list (gives_of n m.domain x.state) ++ queue_of shared k n m.domain x.state) (taking_ties n m x at)

  its_queues : (n m sm : ℕ) → shared sm ≡ false → (context k n).state ≡ Blocked sm → (context k m).state ≡ Blocked sm → label (pd_of k n) ≢ 0 → OrTrusted label (label (pd_of k n)) (pd_of k m)
  its_queues n m sm lone is waits some = by_contexts (context_at k n) (context_at k m) refl refl is waits
    where
      by_members : (x y : EcState) → context_at k n ≡ Some x → context_at k m ≡ Some y → x.state ≡ Blocked sm → y.state ≡ Blocked sm → IsEc k n → IsEc k m → OrTrusted label (label (pd_of k n)) (pd_of k m)
      by_members x y at there first second a b =
          let its : pd_of k n ≡ a.domain = ap pd_in a.object in
          let others : pd_of k m ≡ b.domain = ap pd_in b.object in
          let all : AllByRecursion (Respects label) (queue_of shared k n a.domain x.state) =
          all_right (Respects label) (option_to_list (gives_of n a.domain x.state)) (queue_of shared k n a.domain x.state) (later_ties n a x at) in
          let queue : AllByRecursion (Respects label) (flat_map (λ (e : ℕ × Object). option_to_list (beside_in k sm n a.domain e)) (enumerate_from 0 k.objects)) =
          subst (λ (t : Bool). AllByRecursion (Respects label) (if t then [] else flat_map (λ (e : ℕ × Object). option_to_list (beside_in k sm n a.domain e)) (enumerate_from 0 k.objects))) lone
          (subst (λ (s : State). AllByRecursion (Respects label) (queue_of shared k n a.domain s)) first all) in
          let here : AllByRecursion (Respects label) (option_to_list (beside_in k sm n a.domain (m, Ec b.domain b.cpu b.kind b.event))) =
          numbered_all (Respects label) (λ (e : ℕ × Object). option_to_list (beside_in k sm n a.domain e)) k.objects m (Ec b.domain b.cpu b.kind b.event) queue b.object in
          let beside : beside_at sm n a.domain m b.domain (context_at k m) ≡ Some (weak a.domain b.domain (cause.Queue n m)) =
          ap (beside_at sm n a.domain m b.domain) there ∙ ap (λ (t : Bool). if t then Some (weak a.domain b.domain (cause.Queue n m)) else None) (sm_at sm y.state second) in
          subst (λ (e : ℕ). OrTrusted label (label e) (pd_of k m)) (sym its) (subst (OrTrusted label (label a.domain)) (sym others)
          (weak_to label a.domain b.domain (cause.Queue n m)
          (some_all (Respects label) (beside_at sm n a.domain m b.domain (context_at k m)) (weak a.domain b.domain (cause.Queue n m)) here beside) (λ none. some (ap label its ∙ none))))

      by_contexts : (o p : Option EcState) → context_at k n ≡ o → context_at k m ≡ p → (context_in o).state ≡ Blocked sm → (context_in p).state ≡ Blocked sm → OrTrusted label (label (pd_of k n)) (pd_of k m)
      by_contexts None p at there first second = absurd (cc)
      by_contexts (Some x) None at there first second = absurd (cc)
      by_contexts (Some x) (Some y) at there first second =
          by_members x y at there first second (context_ec k n tables (ap (λ (o : Option EcState). is_some o) at)) (context_ec k m tables (ap (λ (o : Option EcState). is_some o) there))

  -- the tie of a wait
  its_wait : (waiter handler : ℕ) → edge k.contexts waiter ≡ Some handler → label (pd_of k handler) ≢ 0 →
      (label (pd_of k waiter) ≡ label (pd_of k handler)) ⊎ (((is_local_thread k waiter || came_by_exit k waiter handler) ≡ false) × (label (pd_of k waiter) ≡ 0))
  its_wait waiter handler is some = by_context (edge_ec k waiter handler tables is) (context_at k waiter) refl is
    where
      by_context : IsMember k (λ m. Unit {0}) waiter → (o : Option EcState) → context_at k waiter ≡ o → option_and_then edge_of (option_map (λ x. x.state) o) ≡ Some handler →
          (label (pd_of k waiter) ≡ label (pd_of k handler)) ⊎ (((is_local_thread k waiter || came_by_exit k waiter handler) ≡ false) × (label (pd_of k waiter) ≡ 0))
      by_context m None at e = absurd (cc)
      by_context m (Some x) at e =
          subst (λ (pd : ℕ). (label pd ≡ label (pd_of k handler)) ⊎ (((is_local_thread k waiter || came_by_exit k waiter handler) ≡ false) × (label pd ≡ 0))) (sym (ap pd_in m.object))
          (some_all (Respects label) (serves_of k waiter m.domain x.state) (served k handler waiter m.domain)
          (all_left (Respects label) (option_to_list (serves_of k waiter m.domain x.state))
          (option_to_list (takes_of k waiter m.domain x.state x.caller) ++ (option_to_list (gives_of waiter m.domain x.state) ++ queue_of shared k waiter m.domain x.state)) (here_ties waiter m x at))
          (ap (serves_by k waiter m.domain) e) some)

  its_edges : (waiter handler : ℕ) → edge k.contexts waiter ≡ Some handler → label (pd_of k handler) ≢ 0 → MayWait k label (label (pd_of k handler)) waiter
  its_edges waiter handler is some = elim (its_wait waiter handler is some) [
    | inl same ↦ inl same
    | inr client ↦ inr (client.1, (or_parts (is_local_thread k waiter) (came_by_exit k waiter handler) client.0).0)
  ]

  its_exits : (waiter handler : ℕ) → edge k.contexts waiter ≡ Some handler → came_by_exit k waiter handler ≡ true → label (pd_of k handler) ≢ 0 → label (pd_of k waiter) ≡ label (pd_of k handler)
  its_exits waiter handler is came some = elim (its_wait waiter handler is some) [
    | inl same ↦ same
    | inr client ↦ let none : true ≡ false = sym came ∙ (or_parts (is_local_thread k waiter) (came_by_exit k waiter handler) client.0).1 in absurd (cc)
  ]

  its_takes : (handler caller : ℕ) (mark : Mark) → (context k handler).state ≡ Granting None → (context k handler).caller ≡ Some (caller, mark) → label (pd_of k handler) ≢ 0 →
      label (pd_of k caller) ≡ label (pd_of k handler)
  its_takes handler caller mark is keeps some = by_context (context_at k handler) refl is keeps
    where
      by_member : (x : EcState) → context_at k handler ≡ Some x → x.state ≡ Granting None → x.caller ≡ Some (caller, mark) → IsMember k (λ m. Unit {0}) handler → label (pd_of k caller) ≡ label (pd_of k handler)
      by_member x at s c m =
          let its : pd_of k handler ≡ m.domain = ap pd_in m.object in
          strict_to label m.domain (pd_of k caller) (cause.Takes handler caller)
          (some_all (Respects label) (takes_of k handler m.domain x.state x.caller) (strict m.domain (pd_of k caller) (cause.Takes handler caller))
          (all_left (Respects label) (option_to_list (takes_of k handler m.domain x.state x.caller)) (option_to_list (gives_of handler m.domain x.state) ++ queue_of shared k handler m.domain x.state) (taking_ties handler m x at))
          (ap (λ (t : State). takes_of k handler m.domain t x.caller) s ∙ ap (takes_by k handler m.domain) c)) (λ none. some (ap label its ∙ none))
          ∙ sym (ap label its)

      by_context : (o : Option EcState) → context_at k handler ≡ o → (context_in o).state ≡ Granting None → (context_in o).caller ≡ Some (caller, mark) → label (pd_of k caller) ≡ label (pd_of k handler)
      by_context None at s c = absurd (cc)
      by_context (Some x) at s c = by_member x at s c (context_ec k handler tables (ap (λ (o : Option EcState). is_some o) at))

  its_firsts : (ec new : ℕ) → (context k ec).state ≡ Granting (Some new) → label (pd_of k ec) ≢ 0 → label new ≡ label (pd_of k ec)
  its_firsts ec new is some = by_context (context_at k ec) refl is
    where
      by_member : (x : EcState) → context_at k ec ≡ Some x → x.state ≡ Granting (Some new) → IsMember k (λ m. Unit {0}) ec → label new ≡ label (pd_of k ec)
      by_member x at s m =
          let its : pd_of k ec ≡ m.domain = ap pd_in m.object in
          strict_to label m.domain new (cause.Gives ec)
          (some_all (Respects label) (gives_of ec m.domain x.state) (strict m.domain new (cause.Gives ec))
          (all_left (Respects label) (option_to_list (gives_of ec m.domain x.state)) (queue_of shared k ec m.domain x.state) (later_ties ec m x at))
          (ap (gives_of ec m.domain) s)) (λ none. some (ap label its ∙ none))
          ∙ sym (ap label its)

      by_context : (o : Option EcState) → context_at k ec ≡ o → (context_in o).state ≡ Granting (Some new) → label new ≡ label (pd_of k ec)
      by_context None at s = absurd (cc)
      by_context (Some x) at s = by_member x at s (context_ec k ec tables (ap (λ (o : Option EcState). is_some o) at))

  its_isolation : AreIsolated shared flows k label
  its_isolation = record {
    policy = record {
      capabilities = λ d there kind some. record {
        leads = its_leads d there kind some;
        alone = λ sm lone e its is same. its_alone d there kind some sm lone e its is same;
        waits = λ lone n blocked. its_waits d there kind some lone n blocked;
      };
      edges = its_edges;
      takes = its_takes;
      firsts = its_firsts;
      queues = its_queues;
    };
    powers = its_powers;
    exits = its_exits;
    frames = its_frames;
    parents = its_parents;
  }

pub respected_isolated : {shared : ℕ → Bool} {flows : ℕ → ℕ → Bool} (k : KernelState) (label : ℕ → ℕ) → HasTables k → AreRespected label (ties shared (flows_by flows label) k) → AreIsolated shared flows k label
unfolding ties
respected_isolated {shared} {flows} k label tables all =
    its_isolation shared flows k label tables
    (all_left (Respects label) (flat_map (ties_by shared (flows_by flows label) k k.delegations.list) k.delegations.list) (flat_map (ties_at shared k) (enumerate_from 0 k.objects)) all)
    (all_right (Respects label) (flat_map (ties_by shared (flows_by flows label) k k.delegations.list) k.delegations.list) (flat_map (ties_at shared k) (enumerate_from 0 k.objects)) all)
