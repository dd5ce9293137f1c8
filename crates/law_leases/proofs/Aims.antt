-- Edges lead to local threads along all turns.
use Rattle.nova_range.specs.declared.status.Status.{Status}
use Rattle.std.proofs.Common.{◌≡◌, ℕ, List, [], ◌∷◌, ◌++◌, length, inl, inr, ap, sym, ◌∙◌, subst, refl}
use Rattle.std.specs.Prelude.{Bool, true, false, slice_get, Option, Some, None, IfSome, option_map, Ok}
use Rattle.std.proofs.lemmas.Option.{same_Some}
use Rattle.nova_calls.specs.declared.numbers.TheConstants.{CREATE_EC, CREATE_SC, CREATE_PT, CREATE_SM, SC_CTRL}
use Rattle.nova_calls.specs.declared.call.Call.{Call}
use Rattle.nova_calls.specs.declared.call.Call.TheVariants as asks
use Rattle.nova_objects.specs.declared.object.EcKind.TheVariants.{Local, Global, Vcpu}
use Rattle.nova_objects.specs.declared.object.Object.{Object}
use Rattle.nova_objects.specs.declared.object.Object.TheVariants.{Pd, Ec, Sc, Pt, Sm}
use Rattle.nova_range.specs.declared.range.Range.{Range}
use Rattle.nova_range.specs.declared.rights.Rights.{Rights}
use Rattle.law_forest.proofs.Walk.{IfDone, deed_holds, sm_ctrl_holds}
use Rattle.nova_model.specs.Capabilities.{call_right, control_right, event_right, is_ec, is_local, is_pt, is_sc, named}
use Rattle.nova_model.specs.Creation.{context_of, object_of}
use Rattle.nova_model.specs.Deeds.{answered, actor_after, deed, parked, resumed, serving}
use Rattle.nova_model.specs.Edges.{edge_of}
use Rattle.nova_model.specs.Hypercalls.{new_domain, row, ticks_in}
use Rattle.nova_model.specs.Portals.{handler_in, handler_of}
use Rattle.nova_model.specs.Runs.{after}
use Rattle.nova_model.specs.State.{Contexts, KernelState, budget_at, context, context_in, ec_in, ec_of, nobody, pd_of, with_ec}
use Rattle.nova_model.specs.declared.context.EcState.{EcState}
use Rattle.nova_model.specs.declared.context.Mark.{Mark}
use Rattle.nova_model.specs.declared.context.Mark.TheVariants as mark
use Rattle.nova_model.specs.declared.deed.Deed.{Deed}
use Rattle.nova_model.specs.declared.deed.Deed.TheVariants.{Waits, Sends, Recalls, Tells, Names, Finishes, Calls, Helps, Replies, Aborts}
use Rattle.nova_model.specs.declared.new_object.NewObject.{NewObject}
use Rattle.nova_model.specs.declared.new_object.NewObject.TheVariants as new
use Rattle.nova_model.specs.declared.transfer.Sequel.TheVariants as sequel
use Rattle.nova_range.specs.declared.status.Status.TheVariants.{Success}
use Rattle.nova_model.specs.declared.context.State.TheVariants.{Calling, Blocked}
use Rattle.nova_model.specs.declared.event.Event.{Event}
use Rattle.law_forest.specs.Effects.{joined, made_by, all_edited, ends_by, passing_ends}
use Rattle.law_forest.specs.Turns.{Acts, IsTurning, Turning, turned, Passes}
use Rattle.law_forest.proofs.Turning.{outcome}
use Rattle.law_turns.specs.Tables.{HasTables, IsOf, Refers}
use Rattle.law_turns.proofs.Courses.{Courses, IsTo, deed_course}
use Rattle.law_turns.proofs.TablesFit.{chosen_acts}
use Rattle.law_turns.proofs.Holding.{IsNamedAt, named_at}
use Rattle.law_turns.proofs.Referring.{deed_asks}
use Rattle.law_turns.proofs.Serving.{actor_of}
use Rattle.law_turns.proofs.Rows.{call_holds, create_pd_holds, makes_hold, named_holds, reply_holds}
use Rattle.law_turns.proofs.Setting.{entry_joined, entry_set, get_kept}
use Rattle.law_turns.proofs.TablesKept.{all_get}
use Rattle.law_leases.specs.Aims.{AreAimed, IsAimed}

-- THE HANDLERS OF DEEDS

portal_local : (k : KernelState) (pt : ℕ) → HasTables k → IsOf k.objects is_pt pt → IsOf k.objects is_local (handler_of k pt)
portal_local k pt tables is = by_object (slice_get k.objects pt) is (all_get (Refers k.objects) k.objects pt tables.refer)
  where
    by_object : (o : Option Object) → option_map is_pt o ≡ Some true → IfSome o (Refers k.objects) → IsOf k.objects is_local (handler_in o)
    by_object (Some (Pt ec mtd ip)) kind refers = refers
    by_object (Some Pd) kind refers = absurd (cc)
    by_object (Some (Ec pd cpu its event)) kind refers = absurd (cc)
    by_object (Some (Sc ec cpu priority quantum)) kind refers = absurd (cc)
    by_object (Some Sm) kind refers = absurd (cc)
    by_object None kind refers = absurd (cc)

named_local : (k : KernelState) (domain right selector pt : ℕ) → HasTables k → named k domain is_pt right selector ≡ Ok pt → IsOf k.objects is_local (handler_of k pt)
named_local k domain right selector pt tables is =
    portal_local k pt tables (subst (IfDone (IsNamedAt k domain selector right is_pt)) is (named_at k domain is_pt right selector)).object

-- a handler for which a context waits by a deed is a local thread
abbrev Aims : KernelState → Deed → Type 0
Aims k (Waits handler reason q0 q1) = IsOf k.objects is_local handler
Aims k (Sends handler ip identifier mtd reason q0 q1) = IsOf k.objects is_local handler
Aims k (Calls handler ip identifier items) = IsOf k.objects is_local handler
Aims k (Helps handler) = IsOf k.objects is_local handler
Aims k other = Unit {0}

opens_aims : (k : KernelState) (target : ℕ) (first : Option (Range × Rights)) → Aims k (new_domain k target first)
opens_aims k target None = tt
opens_aims k target (Some range) = tt

row_aims : (k : KernelState) (ec domain : ℕ) → HasTables k → (c : Call) → IfDone (Aims k) (row k ec domain c)
row_aims k ec domain tables (asks.Call portal flag) = call_holds (Aims k) k ec domain portal flag
    (λ pt is. named_local k domain call_right portal pt tables is.portal) (λ pt is. named_local k domain call_right portal pt tables is.portal)
row_aims k ec domain tables asks.Reply = reply_holds (Aims k) k ec (λ caller mark is. tt)
row_aims k ec domain tables (asks.CreatePd target pd first) = create_pd_holds (Aims k) k domain target pd first (opens_aims k target first)
row_aims k ec domain tables (asks.CreateEc target pd cpu kind sp event) = makes_hold (Aims k) CREATE_EC target (λ made. tt) k domain pd _
row_aims k ec domain tables (asks.CreateSc target pd whose quantum priority) = makes_hold (Aims k) CREATE_SC target (λ made. tt) k domain pd _
row_aims k ec domain tables (asks.CreatePt target pd handler mtd ip) = makes_hold (Aims k) CREATE_PT target (λ made. tt) k domain pd _
row_aims k ec domain tables (asks.CreateSm target pd count) = makes_hold (Aims k) CREATE_SM target (λ made. tt) k domain pd (λ o. Ok (new.Sm count))
row_aims k ec domain tables (asks.EcCtrl whose) = named_holds (Aims k) (named k domain is_ec control_right whose) (λ n. Recalls n) (λ n. tt)
row_aims k ec domain tables (asks.ScCtrl sc) = named_holds (Aims k) (named k domain is_sc control_right sc) (λ n. Tells SC_CTRL (ticks_in (budget_at k n))) (λ n. tt)
row_aims k ec domain tables (asks.PtCtrl pt identifier) = named_holds (Aims k) (named k domain is_pt control_right pt) (λ n. Names n identifier) (λ n. tt)
row_aims k ec domain tables (asks.SmCtrl sm action) = sm_ctrl_holds (Aims k) k ec domain sm action (λ n whom is wakes. tt) (λ n is answers. tt) (λ n until is answers till. tt)
row_aims k ec domain tables other = tt

deed_aims : (k : KernelState) (ec : ℕ) → HasTables k → Aims k (deed k ec)
deed_aims k ec tables =
    deed_holds (Aims k) k ec tt
    (record {
      steps = tt;
      raises = λ reason q0 q1. tt;
      dies = λ reason q0. tt;
      refuses = λ number status. tt;
      waits = λ pt reason q0 q1 e. named_local k (pd_of k ec) event_right _ pt tables e.portal;
      sends = λ pt reason q0 q1 e. named_local k (pd_of k ec) event_right _ pt tables e.portal;
      aborts = λ handler is. tt;
      removes = λ range own leaf is next. tt;
      returns = λ range own is next. tt;
      rows = λ asks c read. row_aims k ec (pd_of k ec) tables c;
    })
    (record { gives = λ d x g. tt; skips = λ d reason place g. tt; finishes = λ v end answer is ends. tt })

-- IN A TABLE

free_entry : (os : List Object) (x : EcState) → edge_of x.state ≡ None → IsAimed os x
free_entry os x free h leads = let both : None ≡ Some h = sym free ∙ leads in absurd (cc)

same_entry : (os : List Object) (x y : EcState) → y.state ≡ x.state → IsAimed os x → IsAimed os y
same_entry os x y same aimed h leads = aimed h (ap edge_of (sym same) ∙ leads)

set_aimed : (os : List Object) (cs : Contexts) (e : ℕ) (y : EcState) → IsAimed os y → AreAimed os cs → AreAimed os (with_ec cs e y)
set_aimed os cs e y new all n = by_entry (ec_in (with_ec cs e y) n) refl
  where
    by_entry : (o : Option EcState) → ec_in (with_ec cs e y) n ≡ o → IsAimed os (context_in o)
    by_entry None is = free_entry os nobody refl
    by_entry (Some x) is = elim (entry_set cs e n y x is) [
      | inl itself ↦ subst (IsAimed os) itself.1 new
      | inr other ↦ subst (IsAimed os) (ap context_in other.1) (all n)
    ]

local_kept : (os : List Object) (o : Object) (h : ℕ) (at : Option Object) → slice_get os h ≡ at → option_map is_local at ≡ Some true → IsOf (os ++ o ∷ []) is_local h
local_kept os o h None is local = absurd (cc)
local_kept os o h (Some x) is local = ap (option_map is_local) (get_kept os o h x is) ∙ local

old_entry : (os : List Object) (o : Object) (x : EcState) → IsAimed os x → IsAimed (os ++ o ∷ []) x
old_entry os o x aimed h leads = local_kept os o h (slice_get os h) refl (aimed h leads)

pub more_aimed : (os : List Object) (o : Object) (cs : Contexts) (entry : Option EcState) → edge_of (context_in entry).state ≡ None → AreAimed os cs → AreAimed (os ++ o ∷ []) (cs ++ entry ∷ [])
more_aimed os o cs entry free all n = by_entry (ec_in (cs ++ entry ∷ []) n) refl
  where
    by_entry : (e : Option EcState) → ec_in (cs ++ entry ∷ []) n ≡ e → IsAimed (os ++ o ∷ []) (context_in e)
    by_entry None is = free_entry (os ++ o ∷ []) nobody refl
    by_entry (Some x) is = elim (entry_joined cs entry n x is) [
      | inl old ↦ subst (IsAimed (os ++ o ∷ [])) (ap context_in old) (old_entry os o (ec_of cs n) (all n))
      | inr new ↦ free_entry (os ++ o ∷ []) x (ap (λ (e : Option EcState). edge_of (context_in e).state) (sym new.1) ∙ free)
    ]

new_free : (n : ℕ) (made : NewObject) → edge_of (context_in (context_of n made)).state ≡ None
new_free n new.Pd = refl
new_free n (new.Ec pd cpu Local sp event) = refl
new_free n (new.Ec pd cpu Global sp event) = refl
new_free n (new.Ec pd cpu Vcpu sp event) = refl
new_free n (new.Sc ec cpu priority quantum) = refl
new_free n (new.Pt ec mtd ip) = refl
new_free n (new.Sm count) = refl

-- A DEED

-- the context that acts
changed_aimed : (k : KernelState) (x : EcState) (d : Deed) → Aims k d → IsAimed k.objects x → IsAimed k.objects (actor_after x d)
changed_aimed k x (Waits handler reason q0 q1) aims aimed h leads = subst (IsOf k.objects is_local) (same_Some handler h leads) aims
changed_aimed k x (Sends handler ip identifier mtd reason q0 q1) aims aimed h leads = subst (IsOf k.objects is_local) (same_Some handler h leads) aims
changed_aimed k x (Calls handler ip identifier items) aims aimed h leads = subst (IsOf k.objects is_local) (same_Some handler h leads) aims
changed_aimed k x (Helps handler) aims aimed h leads = subst (IsOf k.objects is_local) (same_Some handler h leads) aims
changed_aimed k x (Finishes item end words sequel.Item) aims aimed h leads = aimed h leads
changed_aimed k x (Replies caller its true) aims aimed h leads = absurd cc
changed_aimed k x (Aborts handler mark.Call) aims aimed h leads = absurd cc
changed_aimed k x other aims aimed h leads = first_of (cc, search (aimed, leads))

resumed_aimed : (os : List Object) (cs : Contexts) (e : ℕ) (its : Mark) (m : List ℕ) → AreAimed os cs → AreAimed os (with_ec cs e (resumed (ec_of cs e) its m))
resumed_aimed os cs e mark.Call m all = set_aimed os cs e _ (λ h leads. absurd (cc)) all
resumed_aimed os cs e mark.Exit m all = set_aimed os cs e _ (λ h leads. absurd (cc)) all

serves_aimed : (os : List Object) (cs : Contexts) (h caller : ℕ) (its : Mark) (ip identifier : ℕ) (items : Bool) → AreAimed os cs →
    AreAimed os (with_ec cs h (serving (ec_of cs h) caller its ip identifier items))
serves_aimed os cs h caller its ip identifier true all = set_aimed os cs h _ (λ h leads. absurd (cc)) all
serves_aimed os cs h caller its ip identifier false all = set_aimed os cs h _ (λ h leads. absurd (cc)) all

aimed_courses : (k : KernelState) (ec : ℕ) (d : Deed) → Aims k d → AreAimed k.objects k.contexts → Courses k ec d (λ cs all. AreAimed k.objects cs)
aimed_courses k ec d aims h = record {
  rests = λ to. h;
  steps = λ regs is. set_aimed k.objects k.contexts ec _ (same_entry k.objects (context k ec) (record (context k ec) { regs = regs }) refl (h ec)) h;
  stays = λ cs all w x y is self same now.
      set_aimed k.objects cs w y (same_entry k.objects x y same (subst (IsAimed k.objects) (ap context_in is) (now w))) now;
  goes = λ y self to may. own y to;
  sends = λ handler its ip identifier items to of reached.
      serves_aimed k.objects (with_ec k.contexts ec (record (context k ec) { state = Calling handler })) handler ec its ip identifier items
      (own (record (context k ec) { state = Calling handler }) to);
  replies = λ caller its m to keeps. resumed_aimed k.objects (with_ec k.contexts ec (parked (context k ec))) caller its m (own (parked (context k ec)) to);
  ups = λ sm to is. own (answered (context k ec) Success None) to;
  wakes = λ sm w to is.
      set_aimed k.objects (with_ec k.contexts ec (answered (context k ec) Success None)) w _ (λ n leads. absurd (cc)) (own (answered (context k ec) Success None) to);
  downs = λ sm to is. own (answered (context k ec) Success None) to;
  blocks = λ sm to is answer. own (record (context k ec) { state = Blocked sm }) to;
}
  where
    own : (y : EcState) → IsTo k ec d y.state → AreAimed k.objects (with_ec k.contexts ec y)
    own y to = set_aimed k.objects k.contexts ec y (λ n leads. changed_aimed k (context k ec) d aims (h ec) n (ap edge_of to ∙ leads)) h

joined_aimed : (os : List Object) (n : ℕ) (cs : Contexts) (made : Option NewObject) → AreAimed os cs →
    AreAimed (joined os (option_map object_of made)) (joined cs (option_map (context_of n) made))
joined_aimed os n cs None all = all
joined_aimed os n cs (Some made) all = more_aimed os (object_of made) cs (context_of n made) (new_free n made) all

-- A TURN

abbrev Aimed : KernelState → Type 0
Aimed k = AreAimed k.objects k.contexts

-- a context whose wait ends waits for none
passed_aimed : (os : List Object) (cs : Contexts) (o : Option (ℕ × Status)) → AreAimed os cs → AreAimed os (all_edited cs (ends_by o))
passed_aimed os cs None all = all
passed_aimed os cs (Some (w, status)) all = set_aimed os cs w _ (λ h leads. absurd (cc)) all

turned_aimed : (k : KernelState) (cpu : ℕ) (t : Turning) (e : Event) → IsTurning k cpu t e → HasTables k → Aimed k → Aimed (turned k cpu t)
turned_aimed k cpu t e (Acts c chosen is event) tables all =
    let d = deed k c.actor in
    let actor = actor_of k.contexts c.actor (chosen_acts k cpu c chosen) in
    subst (λ (u : Turning). Aimed (turned k cpu u)) (sym is)
    (joined_aimed k.objects (length k.objects) _ (made_by d)
    (deed_course k c.actor (λ cs all. AreAimed k.objects cs) d actor (deed_asks k c.actor) (aimed_courses k c.actor d (deed_aims k c.actor tables) all)))
turned_aimed k cpu t e (Passes p comes is event) tables all =
    subst (λ (u : Turning). Aimed (turned k cpu u)) (sym is) (passed_aimed k.objects k.contexts (passing_ends k p) all)

pub turn_aimed : (k : KernelState) (cpu : ℕ) → HasTables k → AreAimed k.objects k.contexts → AreAimed (after k cpu).objects (after k cpu).contexts
turn_aimed k cpu tables all = outcome (λ s o. Aimed s) k cpu (λ none. all) (λ t e is. turned_aimed k cpu t e is tables all)
