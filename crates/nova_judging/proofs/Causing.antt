-- The cause of each tie is what the state says.
use Rattle.std.proofs.Common.{◌≡◌, ◌++◌, ℕ, [], refl, sym, ◌∙◌, subst}
use Rattle.std.specs.Prelude.{◌==◌, ◌&&◌, Bool, true, false, if◌then◌else◌, flat_map, Contains, slice_get, Option, Some, None, option_to_list}
use Rattle.std.specs.List.{AllByRecursion, enumerate_from}
use Rattle.std.proofs.lemmas.Bool.{and_parts, eqb-true}
use Rattle.std.proofs.lemmas.Option.{same_Some}
use Rattle.nova_objects.specs.declared.object.EcKind.{EcKind}
use Rattle.nova_objects.specs.declared.object.Object.{Object}
use Rattle.nova_objects.specs.declared.object.Object.TheVariants.{Pd, Ec, Sc, Pt, Sm}
use Rattle.nova_range.specs.Rights.{allows, write_right}
use Rattle.nova_range.specs.declared.range.Kind.{Kind}
use Rattle.nova_range.specs.declared.range.Kind.TheVariants.{Mem, Obj}
use Rattle.nova_model.specs.Delegations.{is_child_of}
use Rattle.nova_model.specs.Edges.{edge_of}
use Rattle.nova_model.specs.State.{KernelState, context_at, pd_of}
use Rattle.nova_model.specs.declared.context.EcState.{EcState}
use Rattle.nova_model.specs.declared.context.Mark.{Mark}
use Rattle.nova_model.specs.declared.context.State.{State}
use Rattle.nova_model.specs.declared.context.State.TheVariants.{Blocked, Granting}
use Rattle.nova_model.specs.declared.delegation.Derivation.{Derivation}
use Rattle.law_forest.proofs.Members.{all_at, contains_from_in, in_from_contains}
use Rattle.nova_ties.specs.declared.tie.Cause.TheVariants as cause
use Rattle.nova_ties.specs.declared.tie.Tie.{Tie}
use Rattle.law_sides.specs.Tied.{beside_at, beside_in, gives_of, is_blocked_at, lead_of, leads, meets, overlaps, overlaps_all, overlaps_by, passes, queue_of, served, serves_by, serves_of, shares, shares_all, shares_at, shares_by, strict, takes_by, takes_of, ties, ties_at, ties_by, ties_in, ties_of_kind, waits_all, waits_at, waits_in, weak}
use Rattle.law_sides.proofs.Frames.{meets_frame}
use Rattle.law_sides.proofs.Lists.{all_append, all_flat, all_numbered, all_some}
use Rattle.law_sides.proofs.Words.{at_sm}
use Rattle.nova_judging.specs.Causes.{HasCap, HasContext, IsCaused}

chosen : (b : Bool) (x t : Tie) → (if b then Some x else None) ≡ Some t → (b ≡ true) × (x ≡ t)
chosen true x t is = (refl, same_Some x t is)
chosen false x t is = absurd (cc)

module _ (shared : ℕ → Bool) (flows : ℕ → ℕ → Bool) (k : KernelState) where
  abbrev cap_of : (d : Derivation) (kind : Kind) → Contains k.delegations.list d → d.kind ≡ kind → HasCap k kind d.pd d.id
  cap_of d kind there is = record { derivation = d; there = there; kind = is; pd = refl; number = refl }

  -- BY CAPABILITIES

  lead : (d : Derivation) → Contains k.delegations.list d → d.kind ≡ Obj → (o : Option Object) → slice_get k.objects d.target ≡ o → (t : Tie) → lead_of k d o ≡ Some t → IsCaused shared k t
  lead d there is (Some Pd) at t its =
      subst (IsCaused shared k) (same_Some (leads d d.target Pd (cause.Domain d.id)) t its)
      (record { holds = cap_of d Obj there is; object = Pd; at = at; is = refl; strict = refl })
  lead d there is (Some (Ec pd cpu kind event)) at t its =
      subst (IsCaused shared k) (same_Some (leads d pd (Ec pd cpu kind event) (cause.Context d.id)) t its)
      (record { holds = cap_of d Obj there is; object = Ec pd cpu kind event; at = at; is = refl; strict = refl })
  lead d there is (Some (Sc donor cpu priority quantum)) at t its =
      subst (IsCaused shared k) (same_Some (leads d (pd_of k donor) (Sc donor cpu priority quantum) (cause.Scheduling d.id)) t its)
      (record { holds = cap_of d Obj there is; object = Sc donor cpu priority quantum; at = at; is = refl; strict = refl })
  lead d there is (Some (Pt handler mtd ip)) at t its =
      subst (IsCaused shared k) (same_Some (leads d (pd_of k handler) (Pt handler mtd ip) (cause.Portal d.id)) t its)
      (record { holds = cap_of d Obj there is; object = Pt handler mtd ip; at = at; is = refl; strict = refl })
  lead d there is (Some Sm) at t its = absurd (cc)
  lead d there is None at t its = absurd (cc)

  sharing : (d e : Derivation) → Contains k.delegations.list d → d.kind ≡ Obj → slice_get k.objects d.target ≡ Some Sm → Contains k.delegations.list e → e.kind ≡ Obj → e.target ≡ d.target →
      (b : Bool) → shared d.target ≡ b → (t : Tie) → shares_at b d e ≡ Some t → IsCaused shared k t
  sharing d e there is sm its kind same false lone t at =
      subst (IsCaused shared k) (same_Some (weak d.pd e.pd (cause.Shared d.id e.id)) t at)
      (record { one = cap_of d Obj there is; two = cap_of e Obj its kind; same = same; semaphore = sm; strict = sym lone; child = λ on. absurd (let no : true ≡ false = sym on ∙ lone in cc) })
  sharing d e there is sm its kind same true on t at =
      let two = chosen (is_child_of d.id e) (strict d.pd e.pd (cause.Shared d.id e.id)) t at in
      subst (IsCaused shared k) two.1
      (record { one = cap_of d Obj there is; two = cap_of e Obj its kind; same = same; semaphore = sm; strict = sym on; child = λ it. two.0 })

  share : (d e : Derivation) → Contains k.delegations.list d → d.kind ≡ Obj → slice_get k.objects d.target ≡ Some Sm → Contains k.delegations.list e → (kind : Kind) → e.kind ≡ kind →
      (t : Tie) → shares_by shared kind d e ≡ Some t → IsCaused shared k t
  share d e there is sm its Mem kind t at = absurd (cc)
  share d e there is sm its Obj kind t at = by_target (e.target == d.target) refl at
    where
      by_target : (b : Bool) → (e.target == d.target) ≡ b → (if b then shares_at (shared d.target) d e else None) ≡ Some t → IsCaused shared k t
      by_target true same it = sharing d e there is sm its kind (eqb-true e.target d.target same) (shared d.target) refl t it
      by_target false same it = absurd (cc)

  share_all : (d : Derivation) → Contains k.delegations.list d → d.kind ≡ Obj → (o : Option Object) → slice_get k.objects d.target ≡ o → AllByRecursion (IsCaused shared k) (shares_all shared k.delegations.list d o)
  share_all d there is (Some Sm) at =
      all_flat (IsCaused shared k) (λ (e : Derivation). option_to_list (shares shared d e)) k.delegations.list
      (λ e i. all_some (IsCaused shared k) (shares shared d e) (share d e there is at (contains_from_in k.delegations.list e i) e.kind refl))
  share_all d there is (Some Pd) at = tt
  share_all d there is (Some (Ec pd cpu kind event)) at = tt
  share_all d there is (Some (Sc donor cpu priority quantum)) at = tt
  share_all d there is (Some (Pt handler mtd ip)) at = tt
  share_all d there is None at = tt

  abbrev context_of : (n pd cpu : ℕ) (kind : EcKind) (event : ℕ) → slice_get k.objects n ≡ Some (Ec pd cpu kind event) → (x : EcState) → context_at k n ≡ Some x → HasContext k pd n
  context_of n pd cpu kind event object x at = record { cpu = cpu; kind = kind; event = event; object = object; context = x; there = at }

  waiting : (d : Derivation) → Contains k.delegations.list d → d.kind ≡ Obj → shared d.target ≡ false → (n pd cpu : ℕ) (kind : EcKind) (event : ℕ) → slice_get k.objects n ≡ Some (Ec pd cpu kind event) →
      (o : Option EcState) → context_at k n ≡ o → (t : Tie) → waits_at d n pd o ≡ Some t → IsCaused shared k t
  waiting d there is lone n pd cpu kind event object None at t its = absurd (cc)
  waiting d there is lone n pd cpu kind event object (Some x) at t its =
      let two = chosen (is_blocked_at d.target x) (weak d.pd pd (cause.Waits d.id n)) t its in
      subst (IsCaused shared k) two.1
      (record { holds = cap_of d Obj there is; alone = lone; waits = context_of n pd cpu kind event object x at; blocked = at_sm d.target x.state two.0; strict = refl })

  wait : (d : Derivation) → Contains k.delegations.list d → d.kind ≡ Obj → shared d.target ≡ false → (n : ℕ) (object : Object) → slice_get k.objects n ≡ Some object →
      (t : Tie) → waits_in k d (n, object) ≡ Some t → IsCaused shared k t
  wait d there is lone n (Ec pd cpu kind event) object t its = waiting d there is lone n pd cpu kind event object (context_at k n) refl t its
  wait d there is lone n Pd object t its = absurd (cc)
  wait d there is lone n (Sc donor cpu priority quantum) object t its = absurd (cc)
  wait d there is lone n (Pt handler mtd ip) object t its = absurd (cc)
  wait d there is lone n Sm object t its = absurd (cc)

  wait_all : (d : Derivation) → Contains k.delegations.list d → d.kind ≡ Obj → AllByRecursion (IsCaused shared k) (waits_all shared k d)
  wait_all d there is = by_shared (shared d.target) refl
    where
      by_shared : (b : Bool) → shared d.target ≡ b → AllByRecursion (IsCaused shared k) (if b then [] else flat_map (λ (e : ℕ × Object). option_to_list (waits_in k d e)) (enumerate_from 0 k.objects))
      by_shared true on = tt
      by_shared false lone =
          all_numbered (IsCaused shared k) (λ (e : ℕ × Object). option_to_list (waits_in k d e)) k.objects
          (λ i x at. all_some (IsCaused shared k) (waits_in k d (i, x)) (wait d there is lone i x at))

  overlap : (d e : Derivation) → Contains k.delegations.list d → d.kind ≡ Mem → allows d.rights write_right ≡ true → Contains k.delegations.list e → (kind : Kind) → e.kind ≡ kind →
      (t : Tie) → overlaps_by false flows kind d e ≡ Some t → IsCaused shared k t
  overlap d e there is may its Obj kind t at = absurd (cc)
  overlap d e there is may its Mem kind t at =
      let two = chosen (meets d e && passes false (flows d.pd e.pd)) (weak d.pd e.pd (cause.Frames d.id e.id)) t at in
      let common = meets_frame d e (and_parts (meets d e) (passes false (flows d.pd e.pd)) two.0).0 in
      subst (IsCaused shared k) two.1
      (record { writes = cap_of d Mem there is; may = may; reaches = cap_of e Mem its kind; frame = common.0; first = common.1; second = common.2; strict = refl })

  overlap_all : (d : Derivation) → Contains k.delegations.list d → d.kind ≡ Mem → (b : Bool) → allows d.rights write_right ≡ b → AllByRecursion (IsCaused shared k) (overlaps_all false flows k.delegations.list d b)
  overlap_all d there is false may = tt
  overlap_all d there is true may =
      all_flat (IsCaused shared k) (λ (e : Derivation). option_to_list (overlaps false flows d e)) k.delegations.list
      (λ e i. all_some (IsCaused shared k) (overlaps false flows d e) (overlap d e there is may (contains_from_in k.delegations.list e i) e.kind refl))

  by_kind : (d : Derivation) → Contains k.delegations.list d → (kind : Kind) → d.kind ≡ kind → AllByRecursion (IsCaused shared k) (ties_of_kind shared flows k k.delegations.list d kind)
  by_kind d there Mem is = overlap_all d there is (allows d.rights write_right) refl
  by_kind d there Obj is =
      let object = slice_get k.objects d.target in
      all_append (IsCaused shared k) (option_to_list (lead_of k d object)) (shares_all shared k.delegations.list d object ++ waits_all shared k d)
      (all_some (IsCaused shared k) (lead_of k d object) (lead d there is object refl))
      (all_append (IsCaused shared k) (shares_all shared k.delegations.list d object) (waits_all shared k d) (share_all d there is object refl) (wait_all d there is))

  -- BY EXECUTION CONTEXTS

  module _ (n pd cpu : ℕ) (kind : EcKind) (event : ℕ) (object : slice_get k.objects n ≡ Some (Ec pd cpu kind event)) (x : EcState) (at : context_at k n ≡ Some x) where
    abbrev here : HasContext k pd n
    here = context_of n pd cpu kind event object x at

    serving : (o : Option ℕ) → edge_of x.state ≡ o → (t : Tie) → serves_by k n pd o ≡ Some t → IsCaused shared k t
    serving None edge t its = absurd (cc)
    serving (Some handler) edge t its =
        subst (IsCaused shared k) (same_Some (served k handler n pd) t its) (record { of = refl; waits = here; edge = edge; strict = refl })

    taking : (s : State) → x.state ≡ s → (t : Tie) → takes_of k n pd s x.caller ≡ Some t → IsCaused shared k t
    taking (Granting None) is t its = by_caller x.caller refl its
      where
        by_caller : (o : Option (ℕ × Mark)) → x.caller ≡ o → takes_by k n pd o ≡ Some t → IsCaused shared k t
        by_caller None who it = absurd (cc)
        by_caller (Some (caller, mark)) who it =
            subst (IsCaused shared k) (same_Some (strict pd (pd_of k caller) (cause.Takes n caller)) t it)
            (record { takes = here; state = is; mark = mark; caller = who; of = refl; strict = refl })
    taking other is t its = absurd (cc)

    giving : (s : State) → x.state ≡ s → (t : Tie) → gives_of n pd s ≡ Some t → IsCaused shared k t
    giving (Granting (Some new)) is t its =
        subst (IsCaused shared k) (same_Some (strict pd new (cause.Gives n)) t its) (record { gives = here; state = is; strict = refl })
    giving other is t its = absurd (cc)

    beside : (sm : ℕ) → x.state ≡ Blocked sm → shared sm ≡ false → (m other its_cpu : ℕ) (its_kind : EcKind) (its_event : ℕ) → slice_get k.objects m ≡ Some (Ec other its_cpu its_kind its_event) →
        (o : Option EcState) → context_at k m ≡ o → (t : Tie) → beside_at sm n pd m other o ≡ Some t → IsCaused shared k t
    beside sm is lone m other its_cpu its_kind its_event second None there t its = absurd (cc)
    beside sm is lone m other its_cpu its_kind its_event second (Some y) there t its =
        let two = chosen (is_blocked_at sm y) (weak pd other (cause.Queue n m)) t its in
        subst (IsCaused shared k) two.1
        (record { sm = sm; alone = lone; one = here; two = context_of m other its_cpu its_kind its_event second y there; first = is; second = at_sm sm y.state two.0; strict = refl })

    queued : (sm : ℕ) → x.state ≡ Blocked sm → shared sm ≡ false → (m : ℕ) (o : Object) → slice_get k.objects m ≡ Some o → (t : Tie) → beside_in k sm n pd (m, o) ≡ Some t → IsCaused shared k t
    queued sm is lone m (Ec other its_cpu its_kind its_event) second t its = beside sm is lone m other its_cpu its_kind its_event second (context_at k m) refl t its
    queued sm is lone m Pd second t its = absurd (cc)
    queued sm is lone m (Sc donor c priority quantum) second t its = absurd (cc)
    queued sm is lone m (Pt handler mtd ip) second t its = absurd (cc)
    queued sm is lone m Sm second t its = absurd (cc)

    queue_all : (s : State) → x.state ≡ s → AllByRecursion (IsCaused shared k) (queue_of shared k n pd s)
    queue_all (Blocked sm) is = by_shared (shared sm) refl
      where
        by_shared : (b : Bool) → shared sm ≡ b → AllByRecursion (IsCaused shared k) (if b then [] else flat_map (λ (e : ℕ × Object). option_to_list (beside_in k sm n pd e)) (enumerate_from 0 k.objects))
        by_shared true on = tt
        by_shared false lone =
            all_numbered (IsCaused shared k) (λ (e : ℕ × Object). option_to_list (beside_in k sm n pd e)) k.objects
            (λ i o its. all_some (IsCaused shared k) (beside_in k sm n pd (i, o)) (queued sm is lone i o its))
    queue_all other is = tt

    in_context : AllByRecursion (IsCaused shared k) (ties_in shared k n pd (Some x))
    in_context =
        all_append (IsCaused shared k) (option_to_list (serves_of k n pd x.state)) (option_to_list (takes_of k n pd x.state x.caller) ++ (option_to_list (gives_of n pd x.state) ++ queue_of shared k n pd x.state))
        (all_some (IsCaused shared k) (serves_of k n pd x.state) (serving (edge_of x.state) refl))
        (all_append (IsCaused shared k) (option_to_list (takes_of k n pd x.state x.caller)) (option_to_list (gives_of n pd x.state) ++ queue_of shared k n pd x.state)
        (all_some (IsCaused shared k) (takes_of k n pd x.state x.caller) (taking x.state refl))
        (all_append (IsCaused shared k) (option_to_list (gives_of n pd x.state)) (queue_of shared k n pd x.state) (all_some (IsCaused shared k) (gives_of n pd x.state) (giving x.state refl)) (queue_all x.state refl)))

  by_context : (n pd cpu : ℕ) (kind : EcKind) (event : ℕ) → slice_get k.objects n ≡ Some (Ec pd cpu kind event) → (o : Option EcState) → context_at k n ≡ o → AllByRecursion (IsCaused shared k) (ties_in shared k n pd o)
  by_context n pd cpu kind event object None at = tt
  by_context n pd cpu kind event object (Some x) at = in_context n pd cpu kind event object x at

  by_object : (n : ℕ) (o : Object) → slice_get k.objects n ≡ Some o → AllByRecursion (IsCaused shared k) (ties_at shared k (n, o))
  by_object n (Ec pd cpu kind event) at = by_context n pd cpu kind event at (context_at k n) refl
  by_object n Pd at = tt
  by_object n (Sc donor cpu priority quantum) at = tt
  by_object n (Pt handler mtd ip) at = tt
  by_object n Sm at = tt

  all_caused : AllByRecursion (IsCaused shared k) (ties shared flows k)
  unfolding ties
  all_caused =
      all_append (IsCaused shared k) (flat_map (ties_by shared flows k k.delegations.list) k.delegations.list) (flat_map (ties_at shared k) (enumerate_from 0 k.objects))
      (all_flat (IsCaused shared k) (ties_by shared flows k k.delegations.list) k.delegations.list (λ d i. by_kind d (contains_from_in k.delegations.list d i) d.kind refl))
      (all_numbered (IsCaused shared k) (ties_at shared k) k.objects by_object)

  pub caused : (t : Tie) → Contains (ties shared flows k) t → IsCaused shared k t
  caused t there = all_at (IsCaused shared k) (ties shared flows k) t all_caused (in_from_contains (ties shared flows k) t there)
