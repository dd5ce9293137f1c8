-- What a deed may make, as it is decided: one row a hypercall, and the parts of items.
use Rattle.std.proofs.Common.{◌≡◌, ℕ, refl, sym, ap, ◌∙◌, subst}
use Rattle.std.specs.Prelude.{◌<◌, ◌≤◌, ◌^◌, ◌&&◌, Bool, true, false, if◌then◌else◌, Contains, length, slice_get, Option, Some, None, Result, Ok, Err, ◌==◌, not, nat_lt, option_and_then, option_map}
use Rattle.std.specs.List.{find}
use Rattle.std.proofs.lemmas.Bool.{and_parts, eqb-true}
use Rattle.nova_objects.specs.declared.object.EcKind.{EcKind}
use Rattle.nova_range.specs.declared.range.Kind.TheVariants.{Obj}
use Rattle.nova_objects.specs.declared.object.Object.{Object}
use Rattle.nova_objects.specs.declared.object.Object.TheVariants.{Pd, Ec, Sc, Pt, Sm}
use Rattle.nova_calls.specs.declared.call.Call.{Call}
use Rattle.nova_calls.specs.declared.call.Call.TheVariants as asks
use Rattle.nova_calls.specs.declared.numbers.TheConstants.{CREATE_EC, CREATE_SC, CREATE_PT, CREATE_SM, SC_CTRL}
use Rattle.nova_utcb.specs.Messages.{has_counts}
use Rattle.nova_range.specs.declared.range.Range.{Range}
use Rattle.nova_range.specs.declared.rights.Rights.{Rights}
use Rattle.nova_range.specs.declared.status.Status.{Status}
use Rattle.nova_range.specs.declared.status.Status.TheVariants.{BadCap, BadPar, BadCpu, Busy}
use Rattle.nova_model.specs.Capabilities.{is_held, is_pd, is_ec, is_sc, is_pt, named, call_right, create_right, control_right, allowed, or_bad_cap, bind_portal_right, bind_scheduling_right, is_local, is_schedulable}
use Rattle.nova_model.specs.Creation.{object_of}
use Rattle.nova_model.specs.Deeds.{deed}
use Rattle.nova_model.specs.Delegations.{Delegations, covers, has_place, is_same_kind, range_of}
use Rattle.nova_range.specs.Rights.{allows}
use Rattle.nova_model.specs.Forest.{IsAligned, IsForest, IsFitting}
use Rattle.nova_model.specs.Calls.{admitted}
use Rattle.nova_model.specs.Hypercalls.{and_then, unless, unless_busy, maker, makes, new_domain, call, called, reply, replied, row, is_scheduled, ticks_in}
use Rattle.nova_model.specs.Portals.{handler_of}
use Rattle.nova_model.specs.Revokes.{next_leaf}
use Rattle.nova_model.specs.Running.{is_busy, is_revoked}
use Rattle.nova_model.specs.State.{KernelState, budget_at, context, is_local_thread, message, pd_of, processor_of}
use Rattle.nova_model.specs.Transfers.{child_of}
use Rattle.nova_model.specs.declared.admit.Admit.{Admit}
use Rattle.nova_model.specs.declared.admit.Admit.TheVariants.{Refused, Help, Send}
use Rattle.nova_model.specs.declared.context.Mark.{Mark}
use Rattle.nova_model.specs.declared.context.State.TheVariants.{Revoking}
use Rattle.nova_model.specs.declared.deed.Deed.{Deed}
use Rattle.nova_model.specs.declared.deed.Deed.TheVariants.{Makes, Recalls, Tells, Names, Opens, Gives, Removes}
use Rattle.nova_model.specs.declared.delegation.Derivation.{Derivation}
use Rattle.nova_model.specs.declared.new_object.NewObject.{NewObject}
use Rattle.nova_model.specs.declared.new_object.NewObject.TheVariants as new
use Rattle.law_forest.specs.Made.{MayCreate, MayUse, IsBoundBy, IsMadeIn, IsGivenChild, IsNextLeaf, TakesFree}
use Rattle.law_forest.proofs.Jobs.{job_ranges, job_between_them}
use Rattle.law_forest.proofs.Leaves.{leaf_facts}
use Rattle.law_forest.proofs.Members.{IsIn, all_at, contains_from_in, found_in, in_from_contains}
use Rattle.law_forest.proofs.Running.{revokes_there}
use Rattle.law_forest.proofs.Selectors.{TakesSelector, call_takes}
use Rattle.law_forest.proofs.Transfers.{kinds_equal, next_facts, left_facts, judged_facts, child_rights, sent_rights, child_is_range, free_child_fits}
use Rattle.law_forest.proofs.Walk.{IfDone, IsGiving, sm_ctrl_holds, deed_holds}
use Rattle.law_forest.specs.Items.{job_at_cursor}

-- deciding: a selector that a deed takes is below 2^20 and free, the domain that takes it may make objects, a domain that it opens has the next
-- number, a child that it gives is one, and a leaf that it takes is the next of its revoke

-- what is asked of a maker
pub record MayMake (k : KernelState) (domain target : ℕ) (object : Object) : Type 0 where
  pub free : is_held k domain target ≡ false
  pub selector : target < 2 ^ 20
  pub creator : MayCreate k domain
  pub place : IsMadeIn creator.capability.target object
  pub bound : IsBoundBy k domain object
  pub unrevoked : is_revoked k domain target ≡ false

abbrev pub IsAllowed : KernelState → ℕ → Deed → Type 0
IsAllowed k ec (Makes call target new) = MayMake k (pd_of k ec) target (object_of new)
IsAllowed k ec (Opens target number) = MayMake k (pd_of k ec) target Pd × (number ≡ length k.objects)
IsAllowed k ec (Gives child cursor) = IsGivenChild k ec child
IsAllowed k ec (Removes leaf) = IsNextLeaf k ec leaf
IsAllowed k ec other = Unit {0}

-- a selector that names such an object with such a right is that of a capability to it
named_used : (k : KernelState) (domain : ℕ) (is : Object → Bool) (right selector : ℕ) → IfDone (MayUse k domain is right) (named k domain is right selector)
named_used k domain is right selector = by_capability (find (covers Obj domain selector) k.delegations.list) refl
  where
    by_right : (d : Derivation) → IsIn k.delegations.list d × (covers Obj domain selector d ≡ true) → (fits may : Bool) →
        (fits ≡ true → option_map is (slice_get k.objects d.target) ≡ Some true) → allows d.rights right ≡ may →
        IfDone (MayUse k domain is right) (or_bad_cap (if fits && may then Some d.target else None))
    by_right d found true true leads allowed =
        let parts = and_parts (is_same_kind Obj d.kind) (d.pd == domain && has_place (range_of d) selector) found.1 in
        record {
          capability = d;
          there = contains_from_in k.delegations.list d found.0;
          held = eqb-true d.pd domain (and_parts (d.pd == domain) (has_place (range_of d) selector) parts.1).0;
          kind = sym (kinds_equal Obj d.kind parts.0);
          target = refl;
          leads = leads refl;
          allowed = allowed;
        }
    by_right d found true false leads allowed = tt
    by_right d found false may leads allowed = tt

    by_object : (d : Derivation) → IsIn k.delegations.list d × (covers Obj domain selector d ≡ true) → (o : Option Object) → slice_get k.objects d.target ≡ o →
        IfDone (MayUse k domain is right) (or_bad_cap (option_and_then (λ x. if is x && allows d.rights right then Some d.target else None) o))
    by_object d found None at = tt
    by_object d found (Some x) at = by_right d found (is x) (allows d.rights right) (λ h. rw (at, h) refl) refl

    by_capability : (c : Option Derivation) → find (covers Obj domain selector) k.delegations.list ≡ c →
        IfDone (MayUse k domain is right) (or_bad_cap (option_and_then (allowed k.objects is right) c))
    by_capability None found = tt
    by_capability (Some d) found = by_object d (found_in (covers Obj domain selector) k.delegations.list d found) (slice_get k.objects d.target) refl

-- a selector that names a protection domain with create is that of a capability with which it may be made in
record IsNamed (k : KernelState) (domain owner : ℕ) : Type 0 where
  creator : MayCreate k domain
  its : owner ≡ creator.capability.target

pub pd_there : (o : Option Object) → option_map is_pd o ≡ Some true → o ≡ Some Pd
pd_there None h = absurd (cc)
pd_there (Some Pd) h = refl
pd_there (Some (Ec pd cpu kind event)) h = absurd (cc)
pd_there (Some (Sc ec cpu priority quantum)) h = absurd (cc)
pd_there (Some (Pt ec mtd ip)) h = absurd (cc)
pd_there (Some Sm) h = absurd (cc)

named_creates : (k : KernelState) (domain owner : ℕ) → MayUse k domain is_pd create_right owner → IsNamed k domain owner
named_creates k domain owner used = record {
  creator = record {
    capability = used.capability;
    there = used.there;
    held = used.held;
    kind = used.kind;
    leads = ap (slice_get k.objects) used.target ∙ pd_there (slice_get k.objects owner) used.leads;
    create = used.allowed;
  };
  its = sym used.target;
}

maker_free : (k : KernelState) (domain target pd : ℕ) (P : Deed → Type 0) (next : ℕ → Result Deed Status) →
    ((o : ℕ) → is_held k domain target ≡ false → IsNamed k domain o → IfDone P (next o)) →
    IfDone P (and_then (maker k domain target pd) next)
maker_free k domain target pd P next h = by_owner (named k domain is_pd create_right pd) (named_used k domain is_pd create_right pd) (is_held k domain target) refl
  where
    by_owner : (owner : Result ℕ Status) → IfDone (MayUse k domain is_pd create_right) owner → (held : Bool) → is_held k domain target ≡ held →
        IfDone P (and_then (and_then owner (λ o. unless held BadCap (Ok o))) next)
    by_owner (Err status) used held is = tt
    by_owner (Ok o) used true is = tt
    by_owner (Ok o) used false is = h o is (named_creates k domain o used)

-- what is done unless a revoke is in its way
busy_free : (k : KernelState) (ec target : ℕ) (d : Deed) → (is_revoked k (pd_of k ec) target ≡ false → IsAllowed k ec d) →
    IfDone (IsAllowed k ec) (unless_busy k (pd_of k ec) target d)
busy_free k ec target d h = by_test (is_revoked k (pd_of k ec) target) refl
  where
    by_test : (t : Bool) → is_revoked k (pd_of k ec) target ≡ t → IfDone (IsAllowed k ec) (unless t Busy (Ok d))
    by_test true is = tt
    by_test false is = h is

-- an object that the rules of a call make, where an execution context is one of the domain that was named
abbrev IsGood : KernelState → ℕ → ℕ → NewObject → Type 0
IsGood k domain owner made = IsMadeIn owner (object_of made) × IsBoundBy k domain (object_of made)

-- what is made there
makes_free : (k : KernelState) (ec number target pd : ℕ) (made : ℕ → Result NewObject Status) → target < 2 ^ 20 →
    ((o : ℕ) → IfDone (IsGood k (pd_of k ec) o) (made o)) → IfDone (IsAllowed k ec) (makes k (pd_of k ec) number target pd made)
makes_free k ec number target pd made selector places =
    maker_free k (pd_of k ec) target pd (IsAllowed k ec) (λ o. and_then (made o) (λ m. unless_busy k (pd_of k ec) target (Makes number target m)))
    (λ o free named. by_new o (made o) free named (places o))
  where
    by_new : (o : ℕ) (r : Result NewObject Status) → is_held k (pd_of k ec) target ≡ false → IsNamed k (pd_of k ec) o → IfDone (IsGood k (pd_of k ec) o) r →
        IfDone (IsAllowed k ec) (and_then r (λ m. unless_busy k (pd_of k ec) target (Makes number target m)))
    by_new o (Ok m) free named good = busy_free k ec target (Makes number target m) (λ unrevoked. record {
      free = free;
      selector = selector;
      creator = named.creator;
      place = subst (λ (n : ℕ). IsMadeIn n (object_of m)) named.its good.0;
      bound = good.1;
      unrevoked = unrevoked;
    })
    by_new o (Err status) free named good = tt

new_domain_free : (k : KernelState) (ec target : ℕ) (first : Option (Range × Rights)) → MayMake k (pd_of k ec) target Pd → IsAllowed k ec (new_domain k target first)
new_domain_free k ec target None asked = asked
new_domain_free k ec target (Some range) asked = (asked, refl)

unless_free : (k : KernelState) (ec : ℕ) (test : Bool) (status : Status) (r : Result Deed Status) → IfDone (IsAllowed k ec) r → IfDone (IsAllowed k ec) (unless test status r)
unless_free k ec true status r h = tt
unless_free k ec false status r h = h

named_free : (k : KernelState) (ec : ℕ) (r : Result ℕ Status) (d : ℕ → Deed) → ((n : ℕ) → IsAllowed k ec (d n)) → IfDone (IsAllowed k ec) (and_then r (λ n. Ok (d n)))
named_free k ec (Ok n) d h = h n
named_free k ec (Err status) d h = tt

made_context : (k : KernelState) (domain owner cpu : ℕ) (kind : EcKind) (sp event : ℕ) (missing : Bool) →
    IfDone (IsGood k domain owner) (unless missing BadCpu (Ok (new.Ec owner cpu kind sp event)))
made_context k domain owner cpu kind sp event true = tt
made_context k domain owner cpu kind sp event false = (refl, tt)

made_schedule : (k : KernelState) (domain owner quantum priority : ℕ) → 1 ≤ quantum → (ec : Result ℕ Status) →
    IfDone (MayUse k domain is_schedulable bind_scheduling_right) ec →
    IfDone (IsGood k domain owner) (and_then ec (λ e. unless (is_scheduled k e) BadCap (Ok (new.Sc e (processor_of k e) priority quantum))))
made_schedule k domain owner quantum priority turns (Err status) used = tt
made_schedule k domain owner quantum priority turns (Ok e) used = by_test (is_scheduled k e) refl
  where
    by_test : (t : Bool) → is_scheduled k e ≡ t → IfDone (IsGood k domain owner) (unless t BadCap (Ok (new.Sc e (processor_of k e) priority quantum)))
    by_test true is = tt
    by_test false is = (tt, record { bound = used; processor = refl; alone = is; turns = turns })

made_portal : (k : KernelState) (domain owner mtd ip : ℕ) (handler : Result ℕ Status) → IfDone (MayUse k domain is_local bind_portal_right) handler →
    IfDone (IsGood k domain owner) (and_then handler (λ h. Ok (new.Pt h mtd ip)))
made_portal k domain owner mtd ip (Ok h) used = (tt, used)
made_portal k domain owner mtd ip (Err status) used = tt

-- a call and a reply take none
called_free : (k : KernelState) (ec pt : ℕ) (a : Admit) → IfDone (IsAllowed k ec) (called k ec pt a)
called_free k ec pt (Refused status) = tt
called_free k ec pt Help = tt
called_free k ec pt Send = tt

call_free : (k : KernelState) (ec domain portal : ℕ) (flag : Bool) → IfDone (IsAllowed k ec) (call k ec domain portal flag)
call_free k ec domain portal flag = unless_free k ec _ BadPar _ (by_portal (named k domain is_pt call_right portal))
  where
    by_portal : (pt : Result ℕ Status) → IfDone (IsAllowed k ec) (and_then pt (λ n. called k ec n (admitted k.contexts ec (handler_of k n) flag)))
    by_portal (Ok n) = called_free k ec n (admitted k.contexts ec (handler_of k n) flag)
    by_portal (Err status) = tt

replied_free : (k : KernelState) (ec : ℕ) (caller : Option (ℕ × Mark)) → IfDone (IsAllowed k ec) (replied k ec caller)
replied_free k ec None = tt
replied_free k ec (Some (caller, mark)) = tt

reply_free : (k : KernelState) (ec : ℕ) → IfDone (IsAllowed k ec) (reply k ec)
reply_free k ec =
    unless_free k ec (not (is_local_thread k ec)) BadPar (unless (not (has_counts (message k ec))) BadPar (replied k ec (context k ec).caller))
    (unless_free k ec (not (has_counts (message k ec))) BadPar (replied k ec (context k ec).caller) (replied_free k ec (context k ec).caller))

row_free : (k : KernelState) (ec : ℕ) (c : Call) → TakesSelector c → IfDone (IsAllowed k ec) (row k ec (pd_of k ec) c)
row_free k ec (asks.Call portal flag) selector = call_free k ec (pd_of k ec) portal flag
row_free k ec asks.Reply selector = reply_free k ec
row_free k ec (asks.CreatePd target pd first) selector =
    maker_free k (pd_of k ec) target pd (IsAllowed k ec) (λ o. unless_busy k (pd_of k ec) target (new_domain k target first))
    (λ o free named. busy_free k ec target (new_domain k target first) (λ unrevoked.
    new_domain_free k ec target first
    (record { free = free; selector = selector; creator = named.creator; place = tt; bound = tt; unrevoked = unrevoked })))
row_free k ec (asks.CreateEc target pd cpu kind sp event) selector =
    makes_free k ec CREATE_EC target pd _ selector (λ o. made_context k (pd_of k ec) o cpu kind sp event (not (nat_lt cpu k.cpus)))
row_free k ec (asks.CreateSc target pd its quantum priority) (selector, turns) =
    makes_free k ec CREATE_SC target pd _ selector (λ o.
    made_schedule k (pd_of k ec) o quantum priority turns (named k (pd_of k ec) is_schedulable bind_scheduling_right its)
    (named_used k (pd_of k ec) is_schedulable bind_scheduling_right its))
row_free k ec (asks.CreatePt target pd handler mtd ip) selector =
    makes_free k ec CREATE_PT target pd _ selector (λ o.
    made_portal k (pd_of k ec) o mtd.0 ip (named k (pd_of k ec) is_local bind_portal_right handler) (named_used k (pd_of k ec) is_local bind_portal_right handler))
row_free k ec (asks.CreateSm target pd count) selector = makes_free k ec CREATE_SM target pd (λ o. Ok (new.Sm count)) selector (λ o. (tt, tt))
row_free k ec (asks.EcCtrl other) selector = named_free k ec (named k (pd_of k ec) is_ec control_right other) (λ n. Recalls n) (λ n. tt)
row_free k ec (asks.ScCtrl sc) selector =
    named_free k ec (named k (pd_of k ec) is_sc control_right sc) (λ n. Tells SC_CTRL (ticks_in (budget_at k n))) (λ n. tt)
row_free k ec (asks.PtCtrl pt identifier) selector = named_free k ec (named k (pd_of k ec) is_pt control_right pt) (λ n. Names n identifier) (λ n. tt)
row_free k ec (asks.SmCtrl sm action) selector =
    sm_ctrl_holds (IsAllowed k ec) k ec (pd_of k ec) sm action (λ n whom is wakes. tt) (λ n is answers. tt) (λ n until is answers till. tt)
row_free k ec other selector = tt

-- ids are below the next
pub ids_below : (k : KernelState) → IsForest k.delegations → (a : Derivation) → Contains k.delegations.list a → a.id < k.delegations.next
ids_below k forest a there =
    all_at (λ (b : Derivation). b.id < k.delegations.next) k.delegations.list a forest.numbered (in_from_contains k.delegations.list a there)

-- a part that is given gives such a child
given_child : (k : KernelState) (ec : ℕ) (d x : Derivation) → IsGiving k ec d x → IsGivenChild k ec x
given_child k ec d x g =
    let v = g.item in
    let j = job_at_cursor k ec g.job in
    let next = next_facts k.delegations.list j d g.next in
    let left = left_facts j d next.left in
    let good = judged_facts (is_busy k) k.delegations.list (child_of j k.delegations.next d) x g.good in
    let them = job_between_them v.range_word v.second_word v.delegations v.giver v.receiver g.job g.reads in
    let ranges = job_ranges v.range_word v.second_word v.delegations v.giver v.receiver g.job g.reads in
    subst (IsGivenChild k ec) (sym good.same) (record {
      item = v;
      present = g.of_item.present;
      source = d;
      there = contains_from_in k.delegations.list d next.there;
      held = left.giver ∙ them.giver;
      receiver = them.receiver;
      id = refl;
      parent = refl;
      kind = sym left.kind;
      some_right = good.some;
      rights = child_rights d.rights j.rights;
      sent = them.sent;
      reads = them.reads;
      sent_rights = λ right allowed. ap (λ (r : Rights). allows r right) (sym them.rights) ∙ sent_rights d.rights j.rights right allowed;
      free = good.free;
      idle = good.idle;
      range = λ forest.
          let aligned = all_at IsAligned k.delegations.list d forest.aligned next.there in
          child_is_range j d ranges.source ranges.dest aligned.base next.left;
      newest = ids_below k;
      fits = λ forest. free_child_fits k.delegations j d forest ranges.source ranges.dest g.next good.free;
    })

-- a leaf that is taken is the next
next_taken : (k : KernelState) (ec : ℕ) (range : Range) (own : Bool) (leaf : Derivation) → (context k ec).state ≡ Revoking range own →
    next_leaf (record { pd = pd_of k ec; range = range; own = own }) k.delegations ≡ Some leaf → IsNextLeaf k ec leaf
next_taken k ec range own leaf state next = record {
  revoke = record { pd = pd_of k ec; range = range; own = own };
  runs = revokes_there k ec range own state;
  next = next;
  goes = λ forest. leaf_facts (record { pd = pd_of k ec; range = range; own = own }) k.delegations leaf forest next;
}

pub deed_allowed : (k : KernelState) (ec : ℕ) → IsAllowed k ec (deed k ec)
deed_allowed k ec =
    deed_holds (IsAllowed k ec) k ec tt
    (record {
      steps = tt;
      raises = λ reason q0 q1. tt;
      dies = λ reason q0. tt;
      waits = λ pt reason q0 q1 is. tt;
      sends = λ pt reason q0 q1 is. tt;
      refuses = λ number status. tt;
      aborts = λ handler is. tt;
      rows = λ asks c is. row_free k ec c (call_takes (context k ec).regs c is);
      removes = next_taken k ec;
      returns = λ range own state none. tt;
    })
    (record { gives = given_child k ec; skips = λ d reason place is. tt; finishes = λ v end answer present is. tt })

-- the selector that it takes is free
allowed_free : (k : KernelState) (ec : ℕ) (d : Deed) → IsAllowed k ec d → TakesFree k (pd_of k ec) d
allowed_free k ec (Makes call target new) allowed = allowed.free
allowed_free k ec (Opens target number) allowed = allowed.0.free
allowed_free k ec other free = tt

pub deed_free : (k : KernelState) (ec : ℕ) → TakesFree k (pd_of k ec) (deed k ec)
deed_free k ec = allowed_free k ec (deed k ec) (deed_allowed k ec)

-- the domain that it opens is the next object
abbrev pub OpensNext : KernelState → Deed → Type 0
OpensNext k (Opens target number) = number ≡ length k.objects
OpensNext k other = Unit {0}

allowed_next : (k : KernelState) (ec : ℕ) (d : Deed) → IsAllowed k ec d → OpensNext k d
allowed_next k ec (Opens target number) allowed = allowed.1
allowed_next k ec other allowed = tt

pub deed_opens : (k : KernelState) (ec : ℕ) → OpensNext k (deed k ec)
deed_opens k ec = allowed_next k ec (deed k ec) (deed_allowed k ec)

-- a child that a deed gives fits a sound forest
abbrev pub GivesFitting : Delegations → Deed → Type 0
GivesFitting f (Gives child cursor) = IsFitting f child
GivesFitting f other = Unit {0}

allowed_fits : (k : KernelState) (ec : ℕ) (d : Deed) → IsForest k.delegations → IsAllowed k ec d → GivesFitting k.delegations d
allowed_fits k ec (Gives child cursor) forest given = given.fits forest
allowed_fits k ec other forest given = tt

pub deed_fits : (k : KernelState) (ec : ℕ) → IsForest k.delegations → GivesFitting k.delegations (deed k ec)
deed_fits k ec forest = allowed_fits k ec (deed k ec) forest (deed_allowed k ec)
