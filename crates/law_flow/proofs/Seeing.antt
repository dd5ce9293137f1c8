-- What one of a side sees is the same in two states in which the side's part is.
use Rattle.std.proofs.Common.{◌≡◌, ℕ, ◌+◌, ◌-◌, ◌/◌, ◌%◌, ◌==◌, zero, suc, List, refl, sym, ap, ap₂, ◌∙◌, subst}
use Rattle.std.specs.Prelude.{Bool, true, false, ◌&&◌, ◌||◌, IsSome, is_some, slice_get, option_map, option_and_then, Option, Some, None, Ok, if◌then◌else◌}
use Rattle.std.specs.List.{find}
use Rattle.std.proofs.lemmas.Bool.{and_parts, eqb-true}
use Rattle.std.proofs.lemmas.Option.{same_Some}
use mathlib.Core.Path.{fun_ext}
use Rattle.rv_model.specs.Step.{Space, one}
use Rattle.nova_guest.specs.Frames.{frame_with, read_in}
use Rattle.nova_guest.specs.declared.page.Page.{Page}
use Rattle.nova_objects.specs.declared.object.Object.{Object}
use Rattle.nova_objects.specs.declared.object.Object.TheVariants.{Pd, Ec, Sc, Pt, Sm}
use Rattle.nova_range.specs.Rights.{allows, execute_right, read_right}
use Rattle.nova_range.specs.declared.range.Kind.TheVariants.{Mem, Obj}
use Rattle.nova_range.specs.declared.range.Range.{Range}
use Rattle.nova_range.specs.declared.rights.Rights.{Rights}
use Rattle.nova_range.specs.declared.status.Status.TheVariants.{BadCpu}
use Rattle.nova_model.specs.AddressSpaces.{AddressSpace, found, frame_for, loaded_from, own_page, space, space_through, words_at}
use Rattle.nova_model.specs.Calls.{admitted, exit_admitted, is_parked, is_same_cpu}
use Rattle.nova_model.specs.Capabilities.{allowed, is_pt, named, or_bad_cap}
use Rattle.nova_model.specs.Deeds.{address_space, instruction}
use Rattle.nova_model.specs.Delegations.{covers, has_place, is_same_kind, page_in, range_of, reach}
use Rattle.nova_model.specs.Edges.{AreEdges, after_edges, caller_in, circle, cpu_in, edge, edge_of, is_dead, state_in}
use Rattle.nova_model.specs.Portals.{handler_in, handler_of, identifier, ip_in, ip_of, mtd_in, number_in}
use Rattle.nova_model.specs.Semaphores.{semaphore, semaphore_in}
use Rattle.nova_model.specs.State.{Contexts, KernelState, Semaphore, context, context_in, ec_in, entry, event_base, event_base_in, is_local_in, is_local_thread, is_thread, is_thread_in, message, message_in, own_words, pd_in, pd_of, processor_in, processor_of, transfer, transfer_in}
use Rattle.nova_model.specs.declared.admit.Admit.TheVariants.{Refused}
use Rattle.nova_model.specs.declared.admit.ExitAdmit.TheVariants as exit
use Rattle.nova_model.specs.declared.context.EcState.{EcState}
use Rattle.nova_model.specs.declared.context.Mark.{Mark}
use Rattle.nova_model.specs.declared.context.State.{State}
use Rattle.nova_model.specs.declared.delegation.Derivation.{Derivation}
use Rattle.nova_model.specs.declared.transfer.Transfer.{Transfer}
use Rattle.nova_ec.proofs.Ends.{circles_are_ways}
use Rattle.law_forest.proofs.Members.{contains_from_in, found_in}
use Rattle.law_forest.proofs.Transfers.{kinds_equal}
use Rattle.law_turns.proofs.Tags.{get_map}
use Rattle.law_integrity.proofs.Selected.{named_by}
use Rattle.law_integrity.proofs.Masking.{admit_by, exit_by}
use Rattle.law_flow.specs.Flow.{AreAlike, Front, Held, IsSide, front_of, fronts, held_by}

-- both states, whose edges are sound
pub record Both (k l : KernelState) (S P : ℕ → Type 0) : Type 0 where
  pub side : IsSide k S P
  pub alike : AreAlike k l S P
  pub first : AreEdges k.contexts
  pub second : AreEdges l.contexts

-- EXECUTION CONTEXTS AND OBJECTS

pub context_same : (k l : KernelState) (S P : ℕ → Type 0) → Both k l S P → (n : ℕ) → P n → S (pd_of k n) → context l n ≡ context k n
context_same k l S P b n p s = ap (λ (o : Option (Option EcState)). context_in (entry o)) (b.alike.contexts n p s)

-- what is told of an execution context by its front
pub front_in : (cs : Contexts) (n : ℕ) → entry (slice_get (fronts cs) n) ≡ option_map front_of (ec_in cs n)
front_in cs n = ap (λ (o : Option (Option Front)). entry o) (get_map (option_map front_of) cs n) ∙ by_entry (slice_get cs n)
  where
    by_entry : (o : Option (Option EcState)) → entry (option_map (option_map front_of) o) ≡ option_map front_of (entry o)
    by_entry None = refl
    by_entry (Some x) = refl

pub fronts_same : (cs ds : Contexts) (n : ℕ) → slice_get ds n ≡ slice_get cs n → slice_get (fronts ds) n ≡ slice_get (fronts cs) n
fronts_same cs ds n same = get_map (option_map front_of) ds n ∙ ap (option_map (option_map front_of)) same ∙ sym (get_map (option_map front_of) cs n)

told_so : {A : Type 0} (f : Front → A) (o : Option EcState) → option_map (λ (x : EcState). f (front_of x)) o ≡ option_map f (option_map front_of o)
told_so f None = refl
told_so f (Some x) = refl

pub by_front : {A : Type 0} (f : Front → A) (cs ds : Contexts) (n : ℕ) → slice_get (fronts ds) n ≡ slice_get (fronts cs) n →
    option_map (λ (x : EcState). f (front_of x)) (ec_in ds n) ≡ option_map (λ (x : EcState). f (front_of x)) (ec_in cs n)
by_front f cs ds n same =
    told_so f (ec_in ds n) ∙ ap (option_map f) (sym (front_in ds n) ∙ ap (λ (o : Option (Option Front)). entry o) same ∙ front_in cs n) ∙ sym (told_so f (ec_in cs n))

some_so : (o p : Option EcState) → option_map front_of o ≡ option_map front_of p → is_some o ≡ is_some p
some_so None None h = refl
some_so None (Some y) h = absurd (cc)
some_so (Some x) None h = absurd (cc)
some_so (Some x) (Some y) h = refl

pub there_so : (cs ds : Contexts) (n : ℕ) → slice_get (fronts ds) n ≡ slice_get (fronts cs) n → is_some (ec_in ds n) ≡ is_some (ec_in cs n)
there_so cs ds n same = some_so (ec_in ds n) (ec_in cs n) (sym (front_in ds n) ∙ ap (λ (o : Option (Option Front)). entry o) same ∙ front_in cs n)

there_same : (k l : KernelState) (S P : ℕ → Type 0) → Both k l S P → (n : ℕ) → P n → is_some (ec_in l.contexts n) ≡ is_some (ec_in k.contexts n)
there_same k l S P b n p = there_so k.contexts l.contexts n (b.alike.fronts n p)

pub state_same : (k l : KernelState) (S P : ℕ → Type 0) → Both k l S P → (n : ℕ) → P n → state_in l.contexts n ≡ state_in k.contexts n
state_same k l S P b n p = by_front (λ (f : Front). f.state) k.contexts l.contexts n (b.alike.fronts n p)

pub caller_so : (cs ds : Contexts) (n : ℕ) → slice_get (fronts ds) n ≡ slice_get (fronts cs) n → caller_in ds n ≡ caller_in cs n
caller_so cs ds n same = from_front (ec_in ds n) ∙ ap (option_and_then (λ (o : Option (ℕ × Mark)). o)) (by_front (λ (f : Front). f.caller) cs ds n same) ∙ sym (from_front (ec_in cs n))
  where
    from_front : (o : Option EcState) → option_and_then (λ (x : EcState). x.caller) o ≡ option_and_then (λ (c : Option (ℕ × Mark)). c) (option_map (λ (x : EcState). (front_of x).caller) o)
    from_front None = refl
    from_front (Some x) = refl

pub caller_same : (k l : KernelState) (S P : ℕ → Type 0) → Both k l S P → (n : ℕ) → P n → (context l n).caller ≡ (context k n).caller
caller_same k l S P b n p = from_entry (ec_in l.contexts n) ∙ caller_so k.contexts l.contexts n (b.alike.fronts n p) ∙ sym (from_entry (ec_in k.contexts n))
  where
    from_entry : (o : Option EcState) → (context_in o).caller ≡ option_and_then (λ (x : EcState). x.caller) o
    from_entry None = refl
    from_entry (Some x) = refl

cpu_same : (k l : KernelState) (S P : ℕ → Type 0) → Both k l S P → (n : ℕ) → P n → cpu_in l.contexts n ≡ cpu_in k.contexts n
cpu_same k l S P b n p = by_front (λ (f : Front). f.cpu) k.contexts l.contexts n (b.alike.fronts n p)

pub edge_same : (k l : KernelState) (S P : ℕ → Type 0) → Both k l S P → (n : ℕ) → P n → edge l.contexts n ≡ edge k.contexts n
edge_same k l S P b n p = ap (option_and_then edge_of) (state_same k l S P b n p)

pub pd_same : (k l : KernelState) (S P : ℕ → Type 0) → Both k l S P → (n : ℕ) → P n → pd_of l n ≡ pd_of k n
pd_same k l S P b n p = ap pd_in (b.alike.objects n p)

pub processor_same : (k l : KernelState) (S P : ℕ → Type 0) → Both k l S P → (n : ℕ) → P n → processor_of l n ≡ processor_of k n
processor_same k l S P b n p = ap processor_in (b.alike.objects n p)

pub base_same : (k l : KernelState) (S P : ℕ → Type 0) → Both k l S P → (n : ℕ) → P n → event_base l n ≡ event_base k n
base_same k l S P b n p = ap event_base_in (b.alike.objects n p)

pub thread_same : (k l : KernelState) (S P : ℕ → Type 0) → Both k l S P → (n : ℕ) → P n → is_thread l n ≡ is_thread k n
thread_same k l S P b n p = ap is_thread_in (b.alike.objects n p)

pub local_same : (k l : KernelState) (S P : ℕ → Type 0) → Both k l S P → (n : ℕ) → P n → is_local_thread l n ≡ is_local_thread k n
local_same k l S P b n p = ap is_local_in (b.alike.objects n p)

pub message_same : (k l : KernelState) (S P : ℕ → Type 0) → Both k l S P → (n : ℕ) → P n → S (pd_of k n) → message l n ≡ message k n
message_same k l S P b n p s = ap (λ (o : Option (Option (List ℕ))). message_in (entry o)) (b.alike.messages n p s)

pub transfer_same : (k l : KernelState) (S P : ℕ → Type 0) → Both k l S P → (n : ℕ) → P n → S (pd_of k n) → transfer l n ≡ transfer k n
transfer_same k l S P b n p s = ap (λ (o : Option (Option Transfer)). transfer_in (entry o)) (b.alike.transfers n p s)

pub semaphore_same : (k l : KernelState) (S P : ℕ → Type 0) → Both k l S P → (n : ℕ) → P n → semaphore l.semaphores n ≡ semaphore k.semaphores n
semaphore_same k l S P b n p = ap (λ (o : Option (Option Semaphore)). semaphore_in (entry o)) (b.alike.semaphores n p)

-- WHOM CALLS AND EXITS REACH

pub ways_same : (k l : KernelState) (S P : ℕ → Type 0) → Both k l S P → (m n : ℕ) → P n → after_edges m (edge l.contexts) n ≡ after_edges m (edge k.contexts) n
ways_same k l S P b zero n p = refl
ways_same k l S P b (suc m) n p = ap (option_and_then (after_edges m (edge l.contexts))) (edge_same k l S P b n p) ∙ by_edge (edge k.contexts n) refl (λ h is. ways_same k l S P b m h (b.side.edges n h p is))
  where
    by_edge : (o : Option ℕ) → edge k.contexts n ≡ o → ((h : ℕ) → edge k.contexts n ≡ Some h → after_edges m (edge l.contexts) h ≡ after_edges m (edge k.contexts) h) →
        option_and_then (after_edges m (edge l.contexts)) o ≡ option_and_then (after_edges m (edge k.contexts)) o
    by_edge None is later = refl
    by_edge (Some h) is later = later h is

same_test : (t u : Bool) → (t ≡ true → u ≡ true) → (u ≡ true → t ≡ true) → t ≡ u
same_test true u f g = sym (f refl)
same_test false true f g = g refl
same_test false false f g = refl

circle_same : (k l : KernelState) (S P : ℕ → Type 0) → Both k l S P → (h e : ℕ) → P h → IsSome (ec_in k.contexts h) → circle l.contexts h e ≡ circle k.contexts h e
circle_same k l S P b h e p there =
    let also : IsSome (ec_in l.contexts h) = there_same k l S P b h p ∙ there in
    let ours = circles_are_ways k.contexts h e b.first there in
    let theirs = circles_are_ways l.contexts h e b.second also in
    same_test (circle l.contexts h e) (circle k.contexts h e)
    (λ is. let way = theirs.0 is in ours.1 (way.0, sym (ways_same k l S P b way.0 h p) ∙ way.1))
    (λ is. let way = ours.0 is in theirs.1 (way.0, ways_same k l S P b way.0 h p ∙ way.1))

pub admitted_same : (k l : KernelState) (S P : ℕ → Type 0) → Both k l S P → (caller handler : ℕ) (flag : Bool) → P caller → P handler →
    admitted l.contexts caller handler flag ≡ admitted k.contexts caller handler flag
admitted_same k l S P b caller handler flag pc ph = by_there (ec_in k.contexts handler) refl
  where
    away : (cs : Contexts) → cpu_in cs handler ≡ None → admitted cs caller handler flag ≡ Refused BadCpu
    away cs none = ap (λ (o : Option ℕ). admit_by (is_same_cpu o (cpu_in cs caller)) (is_dead (state_in cs handler) || circle cs handler caller) (is_parked (state_in cs handler)) flag) none

    by_there : (o : Option EcState) → ec_in k.contexts handler ≡ o → admitted l.contexts caller handler flag ≡ admitted k.contexts caller handler flag
    by_there None is =
        let here : cpu_in k.contexts handler ≡ None = ap (option_map (λ (x : EcState). x.cpu)) is in
        away l.contexts (cpu_same k l S P b handler ph ∙ here) ∙ sym (away k.contexts here)
    by_there (Some x) is =
        let there : IsSome (ec_in k.contexts handler) = subst IsSome (sym is) refl in
        let same = is_same_cpu (cpu_in k.contexts handler) (cpu_in k.contexts caller) in
        ap (λ (t : Bool). admit_by t (is_dead (state_in l.contexts handler) || circle l.contexts handler caller) (is_parked (state_in l.contexts handler)) flag)
        (ap₂ is_same_cpu (cpu_same k l S P b handler ph) (cpu_same k l S P b caller pc))
        ∙ ap (λ (t : Bool). admit_by same t (is_parked (state_in l.contexts handler)) flag)
        (ap₂ (λ (o : Option State) (t : Bool). is_dead o || t) (state_same k l S P b handler ph) (circle_same k l S P b handler caller ph there))
        ∙ ap (λ (o : Option State). admit_by same (is_dead (state_in k.contexts handler) || circle k.contexts handler caller) (is_parked o) flag) (state_same k l S P b handler ph)

pub exit_admitted_same : (k l : KernelState) (S P : ℕ → Type 0) → Both k l S P → (ec handler : ℕ) → P ec → P handler →
    exit_admitted l.contexts ec handler ≡ exit_admitted k.contexts ec handler
exit_admitted_same k l S P b ec handler pe ph = by_there (ec_in k.contexts handler) refl
  where
    away : (cs : Contexts) → cpu_in cs handler ≡ None → exit_admitted cs ec handler ≡ exit.Dies
    away cs none = ap (λ (o : Option ℕ). exit_by (is_same_cpu o (cpu_in cs ec)) (is_dead (state_in cs handler) || circle cs handler ec) (is_parked (state_in cs handler))) none

    by_there : (o : Option EcState) → ec_in k.contexts handler ≡ o → exit_admitted l.contexts ec handler ≡ exit_admitted k.contexts ec handler
    by_there None is =
        let here : cpu_in k.contexts handler ≡ None = ap (option_map (λ (x : EcState). x.cpu)) is in
        away l.contexts (cpu_same k l S P b handler ph ∙ here) ∙ sym (away k.contexts here)
    by_there (Some x) is =
        let there : IsSome (ec_in k.contexts handler) = subst IsSome (sym is) refl in
        let same = is_same_cpu (cpu_in k.contexts handler) (cpu_in k.contexts ec) in
        ap (λ (t : Bool). exit_by t (is_dead (state_in l.contexts handler) || circle l.contexts handler ec) (is_parked (state_in l.contexts handler)))
        (ap₂ is_same_cpu (cpu_same k l S P b handler ph) (cpu_same k l S P b ec pe))
        ∙ ap (λ (t : Bool). exit_by same t (is_parked (state_in l.contexts handler)))
        (ap₂ (λ (o : Option State) (t : Bool). is_dead o || t) (state_same k l S P b handler ph) (circle_same k l S P b handler ec ph there))
        ∙ ap (λ (o : Option State). exit_by same (is_dead (state_in k.contexts handler) || circle k.contexts handler ec) (is_parked o)) (state_same k l S P b handler ph)

-- WHAT A DOMAIN HOLDS AT A PLACE

-- what is told of a range, the page to which it leads and whether a capability allows are told of what is held
abbrev pub told_of : Held → Range × Rights
told_of h = (h.range, h.rights)

pub told_held : (o : Option Derivation) → ◌≡◌ {A = Option (Range × Rights)} (option_map (λ d. (range_of d, d.rights)) o) (option_map told_of (option_map held_by o))
told_held None = refl
told_held (Some d) = refl

abbrev pub page_by : ℕ → Held → Page
page_by page h = record { frame = h.target + (page - h.range.base); rights = h.rights }

pub page_held : (page : ℕ) (o : Option Derivation) → option_map (page_in page) o ≡ option_map (page_by page) (option_map held_by o)
page_held page None = refl
page_held page (Some d) = refl

abbrev allowed_by : List Object → (Object → Bool) → ℕ → Held → Option ℕ
allowed_by objects is right h = option_and_then (λ object. if is object && allows h.rights right then Some h.target else None) (slice_get objects h.target)

allowed_held : (objects : List Object) (is : Object → Bool) (right : ℕ) (o : Option Derivation) →
    option_and_then (allowed objects is right) o ≡ option_and_then (allowed_by objects is right) (option_map held_by o)
allowed_held objects is right None = refl
allowed_held objects is right (Some d) = refl

pub reach_same : (k l : KernelState) (S P : ℕ → Type 0) → AreAlike k l S P → (pd page : ℕ) → S pd → reach l.delegations.list pd page ≡ reach k.delegations.list pd page
reach_same k l S P a pd page s =
    page_held page (find (covers Mem pd page) l.delegations.list) ∙ ap (option_map (page_by page)) (a.spaces Mem pd page s)
    ∙ sym (page_held page (find (covers Mem pd page) k.delegations.list))

-- where one is found in one list, one is in another in which the same is held
pub some_held : (o p : Option Derivation) → ◌≡◌ {A = Option Held} (option_map held_by o) (option_map held_by p) → is_some o ≡ is_some p
some_held None None h = refl
some_held None (Some d) h = absurd (cc)
some_held (Some d) None h = absurd (cc)
some_held (Some d) (Some e) h = refl

-- WHAT A SELECTOR NAMES

-- a capability of the side's leads to the side
held_mine : (k l : KernelState) (S P : ℕ → Type 0) → Both k l S P → (pd selector : ℕ) (d : Derivation) → S pd → find (covers Obj pd selector) k.delegations.list ≡ Some d → P d.target
held_mine k l S P b pd selector d s is =
    let its = found_in (covers Obj pd selector) k.delegations.list d is in
    let parts = and_parts (is_same_kind Obj d.kind) (d.pd == pd && has_place (range_of d) selector) its.1 in
    let rest = and_parts (d.pd == pd) (has_place (range_of d) selector) parts.1 in
    b.side.holds d (contains_from_in k.delegations.list d its.0) (subst S (sym (eqb-true d.pd pd rest.0)) s) (sym (kinds_equal Obj d.kind parts.0))

pub named_same : (k l : KernelState) (S P : ℕ → Type 0) → Both k l S P → (pd : ℕ) (is : Object → Bool) (right selector : ℕ) → S pd → named l pd is right selector ≡ named k pd is right selector
named_same k l S P b pd is right selector s =
    ap or_bad_cap (allowed_held l.objects is right (find (covers Obj pd selector) l.delegations.list)
    ∙ ap (option_and_then (allowed_by l.objects is right)) (b.alike.spaces Obj pd selector s)
    ∙ sym (allowed_held l.objects is right (find (covers Obj pd selector) k.delegations.list)))
    ∙ by_capability (find (covers Obj pd selector) k.delegations.list) refl
  where
    by_capability : (o : Option Derivation) → find (covers Obj pd selector) k.delegations.list ≡ o →
        or_bad_cap (option_and_then (allowed l.objects is right) o) ≡ or_bad_cap (option_and_then (allowed k.objects is right) o)
    by_capability None at = refl
    by_capability (Some d) at =
        ap (λ (o : Option Object). or_bad_cap (option_and_then (λ object. if is object && allows d.rights right then Some d.target else None) o))
        (b.alike.objects d.target (held_mine k l S P b pd selector d s at))

-- what is named is of the side
pub named_mine : (k l : KernelState) (S P : ℕ → Type 0) → Both k l S P → (pd : ℕ) (is : Object → Bool) (right selector n : ℕ) → S pd → named k pd is right selector ≡ Ok n → P n
named_mine k l S P b pd is right selector n s at = by_capability (find (covers Obj pd selector) k.delegations.list) refl at
  where
    by_test : (d : Derivation) → P d.target → (t : Bool) → or_bad_cap (if t then Some d.target else None) ≡ Ok n → P n
    by_test d p true h = let same : d.target ≡ n = cc in subst P same p
    by_test d p false h = absurd (cc)

    by_object : (d : Derivation) → P d.target → (o : Option Object) →
        or_bad_cap (option_and_then (λ object. if is object && allows d.rights right then Some d.target else None) o) ≡ Ok n → P n
    by_object d p None h = absurd (cc)
    by_object d p (Some o) h = by_test d p (is o && allows d.rights right) h

    by_capability : (o : Option Derivation) → find (covers Obj pd selector) k.delegations.list ≡ o → or_bad_cap (option_and_then (allowed k.objects is right) o) ≡ Ok n → P n
    by_capability None found h = absurd (cc)
    by_capability (Some d) found h = by_object d (held_mine k l S P b pd selector d s found) (slice_get k.objects d.target) h

-- a portal that is named, and its handler
pub handler_mine : (k l : KernelState) (S P : ℕ → Type 0) → Both k l S P → (pd right selector pt : ℕ) → S pd → named k pd is_pt right selector ≡ Ok pt → P (handler_of k pt)
handler_mine k l S P b pd right selector pt s at = by_object (slice_get k.objects pt) refl (named_by k pd is_pt right selector pt at).object
  where
    p : P pt
    p = named_mine k l S P b pd is_pt right selector pt s at

    by_object : (o : Option Object) → slice_get k.objects pt ≡ o → option_map is_pt o ≡ Some true → P (handler_in o)
    by_object (Some (Pt handler mtd ip)) is kind = b.side.handlers pt handler mtd ip p is
    by_object (Some Pd) is kind = absurd (cc)
    by_object (Some (Ec domain cpu its event)) is kind = absurd (cc)
    by_object (Some (Sc ec cpu priority quantum)) is kind = absurd (cc)
    by_object (Some Sm) is kind = absurd (cc)
    by_object None is kind = absurd (cc)

pub handler_same : (k l : KernelState) (S P : ℕ → Type 0) → Both k l S P → (pt : ℕ) → P pt → handler_of l pt ≡ handler_of k pt
handler_same k l S P b pt p = ap handler_in (b.alike.objects pt p)

pub ip_same : (k l : KernelState) (S P : ℕ → Type 0) → Both k l S P → (pt : ℕ) → P pt → ip_of l pt ≡ ip_of k pt
ip_same k l S P b pt p = ap ip_in (b.alike.objects pt p)

pub mtd_same : (k l : KernelState) (S P : ℕ → Type 0) → Both k l S P → (pt : ℕ) → P pt → mtd_in (slice_get l.objects pt) ≡ mtd_in (slice_get k.objects pt)
mtd_same k l S P b pt p = ap mtd_in (b.alike.objects pt p)

pub identifier_same : (k l : KernelState) (S P : ℕ → Type 0) → Both k l S P → (pt : ℕ) → P pt → identifier l pt ≡ identifier k pt
identifier_same k l S P b pt p = ap (λ (o : Option (Option ℕ)). number_in (entry o)) (b.alike.identifiers pt p)

-- WHAT AN INSTRUCTION SEES

pub own_same : (k l : KernelState) (S P : ℕ → Type 0) → Both k l S P → (ec : ℕ) → P ec → S (pd_of k ec) → own_words l ec ≡ own_words k ec
own_same k l S P b ec p s = ap₂ (λ (t : Bool) (m : List ℕ). if t then Some m else None) (thread_same k l S P b ec p) (message_same k l S P b ec p s)

-- the pages and words of the first state over the frames of the second
abbrev pub across : KernelState → KernelState → ℕ → AddressSpace
across k l ec = record { page = (address_space k ec).page; bytes = slice_get l.memory.ram; words = own_words k ec }

pub address_same : (k l : KernelState) (S P : ℕ → Type 0) → Both k l S P → (ec : ℕ) → P ec → S (pd_of k ec) → address_space l ec ≡ across k l ec
address_same k l S P b ec p s =
    ap₂ (λ (pd : ℕ) (own : Option (List ℕ)). space_through l.delegations.list l.memory pd own) (pd_same k l S P b ec p) (own_same k l S P b ec p s)
    ∙ ap (λ (page : ℕ → Option Page). record (across k l ec) { page = page })
    (fun_ext (λ n. ap (λ (o : Option Page). if is_some (own_words k ec) && (n == own_page) then None else o) (reach_same k l S P b.alike (pd_of k ec) n s)))

-- where an address leads, a page of its domain does
pub page_of : (k : KernelState) (ec right address g : ℕ) → frame_for (address_space k ec) right address ≡ Some g →
    (to : Page) × (reach k.delegations.list (pd_of k ec) (address / 4096) ≡ Some to) × (to.frame ≡ g)
page_of k ec right address g is = by_own (is_some (own_words k ec) && (address / 4096 == own_page)) is
  where
    by_right : (to : Page) → reach k.delegations.list (pd_of k ec) (address / 4096) ≡ Some to → (t : Bool) → (if t then Some to.frame else None) ≡ Some g →
        (to : Page) × (reach k.delegations.list (pd_of k ec) (address / 4096) ≡ Some to) × (to.frame ≡ g)
    by_right to at true h = (to, at, same_Some to.frame g h)
    by_right to at false h = absurd (cc)

    by_page : (o : Option Page) → reach k.delegations.list (pd_of k ec) (address / 4096) ≡ o → option_and_then (frame_with right) o ≡ Some g →
        (to : Page) × (reach k.delegations.list (pd_of k ec) (address / 4096) ≡ Some to) × (to.frame ≡ g)
    by_page None at h = absurd (cc)
    by_page (Some to) at h = by_right to at (allows to.rights right) h

    by_own : (t : Bool) → option_and_then (frame_with right) (if t then None else reach k.delegations.list (pd_of k ec) (address / 4096)) ≡ Some g →
        (to : Page) × (reach k.delegations.list (pd_of k ec) (address / 4096) ≡ Some to) × (to.frame ≡ g)
    by_own true h = absurd (cc)
    by_own false h = by_page (reach k.delegations.list (pd_of k ec) (address / 4096)) refl h

-- the bytes of a frame to which an address leads
pub frame_same : (k l : KernelState) (S P : ℕ → Type 0) → Both k l S P → (ec right address g : ℕ) → S (pd_of k ec) → frame_for (address_space k ec) right address ≡ Some g →
    slice_get l.memory.ram g ≡ slice_get k.memory.ram g
frame_same k l S P b ec right address g s is =
    let at = page_of k ec right address g is in
    subst (λ (n : ℕ). slice_get l.memory.ram n ≡ slice_get k.memory.ram n) at.2 (b.alike.frames (pd_of k ec) (address / 4096) at.0 s at.1)

found_same : (k l : KernelState) (S P : ℕ → Type 0) → Both k l S P → (ec : ℕ) → S (pd_of k ec) → (right address width : ℕ) →
    found (across k l ec) right address width ≡ found (address_space k ec) right address width
found_same k l S P b ec s right address width = by_frame (frame_for (address_space k ec) right address) refl
  where
    by_frame : (o : Option ℕ) → frame_for (address_space k ec) right address ≡ o →
        option_map (λ g. read_in (slice_get l.memory.ram g) (address % 4096) width) o ≡ option_map (λ g. read_in (slice_get k.memory.ram g) (address % 4096) width) o
    by_frame None is = refl
    by_frame (Some g) is = ap (λ (c : Option (List ℕ)). Some (read_in c (address % 4096) width)) (frame_same k l S P b ec right address g s is)

pub space_same : (k l : KernelState) (S P : ℕ → Type 0) → Both k l S P → (ec : ℕ) → P ec → S (pd_of k ec) → space (address_space l ec) ≡ space (address_space k ec)
space_same k l S P b ec p s =
    ap space (address_same k l S P b ec p s)
    ∙ ap₂ (λ (f : ℕ → Option ℕ) (g : ℕ → ℕ → Option ℕ). record (space (address_space k ec)) { fetch = f; load = g })
    (fun_ext (λ address. found_same k l S P b ec s execute_right address 4))
    (fun_ext (λ address. fun_ext (λ width. by_words address width (words_at (address_space k ec) address))))
  where
    by_words : (address width : ℕ) (o : Option (List ℕ)) → loaded_from (across k l ec) address width o ≡ loaded_from (address_space k ec) address width o
    by_words address width (Some m) = refl
    by_words address width None = found_same k l S P b ec s read_right address width

pub instruction_same : (k l : KernelState) (S P : ℕ → Type 0) → Both k l S P → (ec : ℕ) → P ec → S (pd_of k ec) → instruction l ec ≡ instruction k ec
instruction_same k l S P b ec p s = ap₂ (λ (x : EcState) (a : Space). one x.regs a) (context_same k l S P b ec p s) (space_same k l S P b ec p s)
