-- What a deed refers to is of the kind that it asks for: a walk over the rows of the table of hypercalls, and over what is given.
use Rattle.std.proofs.Common.{◌≡◌, ℕ, ◌+◌, inl, inr, refl, subst}
use Rattle.std.specs.Prelude.{◌⊎◌, Bool, true, false, not, nat_lt, ◌&&◌, if◌then◌else◌, slice_get, Option, Some, None, IfSome, option_map, option_and_then, Result, Ok, Err}
use Rattle.nova_calls.specs.declared.call.Call.{Call}
use Rattle.nova_calls.specs.declared.call.Call.TheVariants as call
use Rattle.nova_calls.specs.declared.numbers.TheConstants.{CREATE_EC, CREATE_SC, CREATE_PT, CREATE_SM, SC_CTRL}
use Rattle.nova_objects.specs.declared.object.EcKind.{EcKind}
use Rattle.nova_objects.specs.declared.object.Object.{Object}
use Rattle.nova_objects.specs.declared.object.Object.TheVariants.{Pd, Ec, Sc, Pt, Sm}
use Rattle.nova_range.specs.declared.mtd.Mtd.{Mtd}
use Rattle.nova_range.specs.declared.range.Range.{Range}
use Rattle.nova_range.specs.declared.rights.Rights.{Rights}
use Rattle.nova_range.specs.declared.status.Status.{Status}
use Rattle.nova_range.specs.declared.status.Status.TheVariants.{BadCap, BadCpu, BadPar, Busy}
use Rattle.nova_utcb.specs.Messages.{has_counts}
use Rattle.nova_model.specs.Calls.{admitted, exit_admitted}
use Rattle.nova_model.specs.Capabilities.{allowed, bind_portal_right, bind_scheduling_right, call_right, capability, control_right, create_right, is_held, is_ec, is_local, is_pd, is_pt, is_sc, is_schedulable, is_sm, down_right, event_right, named, or_bad_cap, up_right}
use Rattle.nova_model.specs.Creation.{object_of}
use Rattle.nova_model.specs.Deeds.{deed}
use Rattle.nova_range.specs.Rights.{allows}
use Rattle.nova_model.specs.Deliveries.{delivery, flag, given_to, sequel_of, taken_from, words_for}
use Rattle.nova_model.specs.Hypercalls.{and_then, called, create_ec, is_scheduled, maker, makes, new_domain, replied, row, ticks_in, unless, unless_busy}
use Rattle.nova_model.specs.Portals.{descriptor, handler_in, handler_of, ip_in, ip_of, mtd_in}
use Rattle.nova_model.specs.Semaphores.{answer_of, semaphore, woken}
use Rattle.nova_model.specs.Running.{is_revoked}
use Rattle.nova_model.specs.State.{KernelState, budget_at, context, is_local_thread, message, pd_of, processor_in, processor_of, transfer}
use Rattle.nova_model.specs.declared.admit.Admit.{Admit}
use Rattle.nova_model.specs.declared.admit.Admit.TheVariants.{Refused, Help, Send}
use Rattle.nova_model.specs.declared.admit.ExitAdmit.TheVariants as exit
use Rattle.nova_model.specs.declared.context.Mark.{Mark}
use Rattle.nova_model.specs.declared.context.Mark.TheVariants as came
use Rattle.nova_model.specs.declared.context.State.{State}
use Rattle.nova_model.specs.declared.context.State.TheVariants.{Granting, Replying}
use Rattle.nova_model.specs.declared.deed.Deed.{Deed}
use Rattle.nova_model.specs.declared.deed.Deed.TheVariants.{Waits, Sends, Makes, Names, Recalls, Tells, Finishes, Calls, Helps, Replies, Ups, Downs, Blocks}
use Rattle.nova_model.specs.declared.delegation.Derivation.{Derivation}
use Rattle.nova_model.specs.declared.new_object.NewObject.{NewObject}
use Rattle.nova_model.specs.declared.new_object.NewObject.TheVariants as new
use Rattle.nova_model.specs.declared.semaphore.Down.TheVariants as down
use Rattle.nova_model.specs.declared.transfer.Delivery.{Delivery}
use Rattle.nova_model.specs.declared.transfer.ItemWords.{ItemWords}
use Rattle.nova_model.specs.declared.transfer.Sequel.{Sequel}
use Rattle.nova_model.specs.declared.transfer.Sequel.TheVariants as sequel
use Rattle.law_forest.proofs.Allowed.{pd_there}
use Rattle.law_turns.specs.Tables.{IsOf, Refers, cpu_of}
use Rattle.law_turns.proofs.Rows.{unless_holds, create_pd_holds}
use Rattle.law_forest.proofs.Walk.{IfDone, IsExit, IsUntil, deed_holds, sm_ctrl_holds}
use Rattle.law_turns.specs.Links.{IsCallerOf}

-- a call that its handler, that of a portal, takes
pub record IsSent (k : KernelState) (ec handler ip : ℕ) : Type 0 where
  pub portal : ℕ
  pub mtd : ℕ
  pub leads : slice_get k.objects portal ≡ Some (Pt handler mtd ip)
  pub flag : Bool
  pub admits : admitted k.contexts ec handler flag ≡ Send

-- an exit that its handler, that of a portal, takes
pub record IsExitSent (k : KernelState) (ec handler ip : ℕ) (mtd : Mtd) : Type 0 where
  pub portal : ℕ
  pub leads : slice_get k.objects portal ≡ Some (Pt handler mtd.0 ip)
  pub admits : exit_admitted k.contexts ec handler ≡ exit.Sends

-- the context that is told what came of an item, and what follows its end
abbrev pub TellsFor : KernelState → ℕ → Option ℕ → Type 0
TellsFor k ec told = IfSome told (λ n. (n ≡ ec) ⊎ IsCallerOf k ec n came.Call)

abbrev pub TellsIn : KernelState → ℕ → Option ItemWords → Type 0
TellsIn k ec words = IfSome words (λ w. (w.ec ≡ ec) ⊎ IsCallerOf k ec w.ec came.Call)

abbrev pub Follows : KernelState → ℕ → Sequel → Type 0
Follows k ec (sequel.Replied caller mark) = IsCallerOf k ec caller mark
Follows k ec other = Unit {0}

-- what a deed refers to
abbrev pub Asks : KernelState → ℕ → Deed → Type 0
Asks k ec (Makes call target made) = Refers k.objects (object_of made)
Asks k ec (Names pt identifier) = IsOf k.objects is_pt pt
Asks k ec (Finishes item end words after) = TellsIn k ec words × Follows k ec after
Asks k ec (Calls handler ip identifier items) = IsSent k ec handler ip
Asks k ec (Helps handler) = (flag : Bool) × (admitted k.contexts ec handler flag ≡ Help)
Asks k ec (Replies caller mark items) = IsCallerOf k ec caller mark
Asks k ec (Waits handler reason q0 q1) = exit_admitted k.contexts ec handler ≡ exit.Waits
Asks k ec (Sends handler ip identifier mtd reason q0 q1) = IsExitSent k ec handler ip mtd
Asks k ec (Ups sm whom) = IsOf k.objects is_sm sm × (woken (semaphore k.semaphores sm) ≡ Ok whom)
Asks k ec (Downs sm) = IsOf k.objects is_sm sm × (answer_of (semaphore k.semaphores sm) ≡ down.Done)
Asks k ec (Blocks sm until) = IsOf k.objects is_sm sm × (answer_of (semaphore k.semaphores sm) ≡ down.Blocked) × IsUntil k ec sm until
Asks k ec other = Unit {0}

named_is : (k : KernelState) (domain : ℕ) (is : Object → Bool) (right selector : ℕ) → IfDone (IsOf k.objects is) (named k domain is right selector)
named_is k domain is right selector = by_capability (capability k domain selector)
  where
    by_test : (d : Derivation) (test allowed : Bool) → (test ≡ true → IsOf k.objects is d.target) →
        IfDone (IsOf k.objects is) (or_bad_cap (if test && allowed then Some d.target else None))
    by_test d true true h = h refl
    by_test d true false h = tt
    by_test d false allowed h = tt

    by_object : (d : Derivation) (o : Option Object) → slice_get k.objects d.target ≡ o →
        IfDone (IsOf k.objects is) (or_bad_cap (option_and_then (λ object. if is object && allows d.rights right then Some d.target else None) o))
    by_object d None at = tt
    by_object d (Some o) at = by_test d (is o) (allows d.rights right) (λ h. rw (at, h) refl)

    by_capability : (c : Option Derivation) → IfDone (IsOf k.objects is) (or_bad_cap (option_and_then (allowed k.objects is right) c))
    by_capability None = tt
    by_capability (Some d) = by_object d (slice_get k.objects d.target) refl

maker_is : (k : KernelState) (domain target pd : ℕ) → IfDone (IsOf k.objects is_pd) (maker k domain target pd)
maker_is k domain target pd = by_owner (named k domain is_pd create_right pd) (is_held k domain target) (named_is k domain is_pd create_right pd)
  where
    by_owner : (owner : Result ℕ Status) (held : Bool) → IfDone (IsOf k.objects is_pd) owner →
        IfDone (IsOf k.objects is_pd) (and_then owner (λ o. unless held BadCap (Ok o)))
    by_owner (Err status) held h = tt
    by_owner (Ok o) true h = tt
    by_owner (Ok o) false h = h

-- an object that is made by rules that see to what it refers to
makes_asks : (k : KernelState) (ec domain number target pd : ℕ) (new : ℕ → Result NewObject Status) →
    ((o : ℕ) → IsOf k.objects is_pd o → IfDone (λ made. Refers k.objects (object_of made)) (new o)) → IfDone (Asks k ec) (makes k domain number target pd new)
makes_asks k ec domain number target pd new h = by_owner (maker k domain target pd) (maker_is k domain target pd)
  where
    by_new : (r : Result NewObject Status) → IfDone (λ made. Refers k.objects (object_of made)) r →
        IfDone (Asks k ec) (and_then r (λ made. unless_busy k domain target (Makes number target made)))
    by_new (Ok made) refers = unless_holds (Asks k ec) (is_revoked k domain target) Busy (Ok (Makes number target made)) refers
    by_new (Err status) refers = tt

    by_owner : (owner : Result ℕ Status) → IfDone (IsOf k.objects is_pd) owner →
        IfDone (Asks k ec) (and_then owner (λ o. and_then (new o) (λ made. unless_busy k domain target (Makes number target made))))
    by_owner (Ok o) is = by_new (new o) (h o is)
    by_owner (Err status) is = tt

ec_refers : (k : KernelState) (o cpu : ℕ) (kind : EcKind) (sp event : ℕ) (test : Bool) → IsOf k.objects is_pd o →
    IfDone (λ made. Refers k.objects (object_of made)) (unless test BadCpu (Ok (new.Ec o cpu kind sp event)))
ec_refers k o cpu kind sp event true is = tt
ec_refers k o cpu kind sp event false is = pd_there (slice_get k.objects o) is

create_ec_asks : (k : KernelState) (ec domain target pd cpu : ℕ) (kind : EcKind) (sp event : ℕ) → IfDone (Asks k ec) (create_ec k domain target pd cpu kind sp event)
create_ec_asks k ec domain target pd cpu kind sp event =
    makes_asks k ec domain CREATE_EC target pd _ (λ o is. ec_refers k o cpu kind sp event (not (nat_lt cpu k.cpus)) is)

pt_refers : (k : KernelState) (mtd ip : ℕ) (r : Result ℕ Status) → IfDone (IsOf k.objects is_local) r →
    IfDone (λ made. Refers k.objects (object_of made)) (and_then r (λ handler. Ok (new.Pt handler mtd ip)))
pt_refers k mtd ip (Ok handler) h = h
pt_refers k mtd ip (Err status) h = tt

processor_there : (o : Option Object) → option_map is_schedulable o ≡ Some true → cpu_of o ≡ Some (processor_in o)
processor_there None h = absurd (cc)
processor_there (Some Pd) h = absurd (cc)
processor_there (Some (Ec pd cpu kind event)) h = refl
processor_there (Some (Sc ec cpu priority quantum)) h = absurd (cc)
processor_there (Some (Pt ec mtd ip)) h = absurd (cc)
processor_there (Some Sm) h = absurd (cc)

sc_refers : (k : KernelState) (quantum priority : ℕ) (r : Result ℕ Status) → IfDone (IsOf k.objects is_schedulable) r →
    IfDone (λ made. Refers k.objects (object_of made)) (and_then r (λ ec. unless (is_scheduled k ec) BadCap (Ok (new.Sc ec (processor_of k ec) priority quantum))))
sc_refers k quantum priority (Err status) h = tt
sc_refers k quantum priority (Ok ec) h = by_test (is_scheduled k ec)
  where
    by_test : (t : Bool) → IfDone (λ made. Refers k.objects (object_of made)) (unless t BadCap (Ok (new.Sc ec (processor_of k ec) priority quantum)))
    by_test true = tt
    by_test false = processor_there (slice_get k.objects ec) h

named_asks : (k : KernelState) (ec : ℕ) (is : Object → Bool) (r : Result ℕ Status) (d : ℕ → Deed) → IfDone (IsOf k.objects is) r →
    ((n : ℕ) → IsOf k.objects is n → Asks k ec (d n)) → IfDone (Asks k ec) (and_then r (λ n. Ok (d n)))
named_asks k ec is (Ok n) d h asks = asks n h
named_asks k ec is (Err status) d h asks = tt

opens_asks : (k : KernelState) (ec target : ℕ) (first : Option (Range × Rights)) → Asks k ec (new_domain k target first)
opens_asks k ec target None = tt
opens_asks k ec target (Some range) = tt

-- calls and replies

pub portal_at : (o : Option Object) → option_map is_pt o ≡ Some true → o ≡ Some (Pt (handler_in o) (mtd_in o) (ip_in o))
portal_at None h = absurd (cc)
portal_at (Some Pd) h = absurd (cc)
portal_at (Some (Ec pd cpu kind event)) h = absurd (cc)
portal_at (Some (Sc ec cpu priority quantum)) h = absurd (cc)
portal_at (Some (Pt ec mtd ip)) h = refl
portal_at (Some Sm) h = absurd (cc)

called_asks : (k : KernelState) (ec : ℕ) (flag : Bool) (r : Result ℕ Status) → IfDone (IsOf k.objects is_pt) r →
    IfDone (Asks k ec) (and_then r (λ pt. called k ec pt (admitted k.contexts ec (handler_of k pt) flag)))
called_asks k ec flag (Err status) is = tt
called_asks k ec flag (Ok pt) is = by_admit (admitted k.contexts ec (handler_of k pt) flag) refl
  where
    by_admit : (a : Admit) → admitted k.contexts ec (handler_of k pt) flag ≡ a → IfDone (Asks k ec) (called k ec pt a)
    by_admit (Refused status) admits = tt
    by_admit Help admits = (flag, admits)
    by_admit Send admits = record { portal = pt; mtd = mtd_in (slice_get k.objects pt); leads = portal_at (slice_get k.objects pt) is; flag = flag; admits = admits }

replied_asks : (k : KernelState) (ec : ℕ) (o : Option (ℕ × Mark)) → (context k ec).caller ≡ o → IfDone (Asks k ec) (replied k ec o)
replied_asks k ec (Some (caller, mark)) is = is
replied_asks k ec None is = tt

-- exits and semaphores

-- what a capability names is of its kind
names_kind : (k : KernelState) (domain : ℕ) (is : Object → Bool) (right selector n : ℕ) → named k domain is right selector ≡ Ok n → IsOf k.objects is n
names_kind k domain is right selector n names = subst (IfDone (IsOf k.objects is)) names (named_is k domain is right selector)

exit_asks : (k : KernelState) (ec pt reason q0 q1 : ℕ) → IsExit k ec pt reason q0 q1 exit.Sends → IsExitSent k ec (handler_of k pt) (ip_of k pt) (descriptor k pt)
exit_asks k ec pt reason q0 q1 e = record {
  portal = pt;
  leads = portal_at (slice_get k.objects pt) (names_kind k (pd_of k ec) is_pt event_right _ pt e.portal);
  admits = e.admits;
}

-- rows

row_asks : (k : KernelState) (ec domain : ℕ) (c : Call) → IfDone (Asks k ec) (row k ec domain c)
row_asks k ec domain (call.Call portal flag) = unless_holds (Asks k ec) (not (has_counts (message k ec))) BadPar _
    (called_asks k ec flag (named k domain is_pt call_right portal) (named_is k domain is_pt call_right portal))
row_asks k ec domain call.Reply = unless_holds (Asks k ec) (not (is_local_thread k ec)) BadPar _
    (unless_holds (Asks k ec) (not (has_counts (message k ec))) BadPar _ (replied_asks k ec (context k ec).caller refl))
row_asks k ec domain (call.CreatePd target pd first) =
    create_pd_holds (Asks k ec) k domain target pd first (opens_asks k ec target first)
row_asks k ec domain (call.CreateEc target pd cpu kind sp event) = create_ec_asks k ec domain target pd cpu kind sp event
row_asks k ec domain (call.CreateSc target pd whose quantum priority) = makes_asks k ec domain CREATE_SC target pd _
    (λ o is. sc_refers k quantum priority (named k domain is_schedulable bind_scheduling_right whose) (named_is k domain is_schedulable bind_scheduling_right whose))
row_asks k ec domain (call.CreatePt target pd handler mtd ip) = makes_asks k ec domain CREATE_PT target pd _
    (λ o is. pt_refers k mtd.0 ip (named k domain is_local bind_portal_right handler) (named_is k domain is_local bind_portal_right handler))
row_asks k ec domain (call.CreateSm target pd count) = makes_asks k ec domain CREATE_SM target pd (λ o. Ok (new.Sm count)) (λ o is. tt)
row_asks k ec domain (call.Lookup range) = tt
row_asks k ec domain (call.EcCtrl whose) =
    named_asks k ec is_ec (named k domain is_ec control_right whose) (λ n. Recalls n) (named_is k domain is_ec control_right whose) (λ n is. tt)
row_asks k ec domain (call.ScCtrl sc) =
    named_asks k ec is_sc (named k domain is_sc control_right sc) (λ n. Tells SC_CTRL (ticks_in (budget_at k n))) (named_is k domain is_sc control_right sc) (λ n is. tt)
row_asks k ec domain (call.PtCtrl pt identifier) =
    named_asks k ec is_pt (named k domain is_pt control_right pt) (λ n. Names n identifier) (named_is k domain is_pt control_right pt) (λ n is. is)
row_asks k ec domain (call.SmCtrl sm action) = sm_ctrl_holds (Asks k ec) k ec domain sm action
    (λ n whom is wakes. (names_kind k domain is_sm up_right sm n is, wakes))
    (λ n is answers. (names_kind k domain is_sm down_right sm n is, answers))
    (λ n until is answers till. (names_kind k domain is_sm down_right sm n is, answers, till))
row_asks k ec domain other = tt

-- ends of items

tells_words : (k : KernelState) (ec : ℕ) (o : Option ℕ) (first second : ℕ) → TellsFor k ec o → TellsIn k ec (words_for o first second)
tells_words k ec None first second h = tt
tells_words k ec (Some n) first second h = h

follows_item : (k : KernelState) (ec : ℕ) (v : Delivery) (item : ℕ) → Follows k ec v.last → Follows k ec (sequel_of v item)
follows_item k ec v item h = by_test (nat_lt (item + 1) v.items)
  where
    by_test : (t : Bool) → Follows k ec (if t then sequel.Item else v.last)
    by_test true = tt
    by_test false = h

-- where an item goes
abbrev Goes : KernelState → ℕ → Delivery → Type 0
Goes k ec v = TellsFor k ec v.told × Follows k ec v.last

taken_goes : (k : KernelState) (ec item : ℕ) (o : Option (ℕ × Mark)) → IfSome (taken_from k ec item o) (Goes k ec)
taken_goes k ec item None = tt
taken_goes k ec item (Some (caller, mark)) = (inl refl, tt)

given_goes : (k : KernelState) (ec item : ℕ) (o : Option (ℕ × Mark)) → (context k ec).caller ≡ o → IfSome (given_to k ec item o) (Goes k ec)
given_goes k ec item None is = tt
given_goes k ec item (Some (caller, came.Call)) is = (inr is, is)
given_goes k ec item (Some (caller, came.Exit)) is = (tt, is)

delivery_goes : (k : KernelState) (ec : ℕ) (s : State) → IfSome (delivery k ec s) (Goes k ec)
delivery_goes k ec (Granting (Some new)) = (tt, tt)
delivery_goes k ec (Granting None) = taken_goes k ec (transfer k ec).item (context k ec).caller
delivery_goes k ec Replying = given_goes k ec (transfer k ec).item (context k ec).caller refl
delivery_goes k ec other = tt

item_goes : (k : KernelState) (ec : ℕ) (v : Delivery) → delivery k ec (context k ec).state ≡ Some v → Goes k ec v
item_goes k ec v is = subst (λ (o : Option Delivery). IfSome o (Goes k ec)) is (delivery_goes k ec (context k ec).state)

pub deed_asks : (k : KernelState) (ec : ℕ) → Asks k ec (deed k ec)
deed_asks k ec =
    deed_holds (Asks k ec) k ec tt
    (record {
      steps = tt;
      raises = λ reason q0 q1. tt;
      dies = λ reason q0. tt;
      refuses = λ number status. tt;
      waits = λ pt reason q0 q1 e. e.admits;
      sends = λ pt reason q0 q1 e. exit_asks k ec pt reason q0 q1 e;
      aborts = λ handler is. tt;
      removes = λ range own leaf is next. tt;
      returns = λ range own is next. tt;
      rows = λ asks c read. row_asks k ec (pd_of k ec) c;
    })
    (record {
      gives = λ d x g. tt;
      skips = λ d reason place g. tt;
      finishes = λ v end answer is ends.
          let goes = item_goes k ec v is in
          (tells_words k ec v.told answer (flag v) goes.0, follows_item k ec v (transfer k ec).item goes.1);
    })
