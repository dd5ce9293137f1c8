-- What one of a side asks to be made is made of the same in two states in which the side's part is, and is made of what is the side's.
use Rattle.std.proofs.Common.{◌≡◌, ℕ, suc, zero, List, [], ◌∷◌, length, refl, sym, ap, ap₂, ◌∙◌, subst}
use Rattle.std.specs.Prelude.{Bool, true, false, ◌||◌, is_some, nat_lt, not, slice_get, option_map, option_and_then, Option, Some, None, Result, Ok, Err}
use Rattle.std.specs.List.{find, list_any}
use Rattle.std.proofs.lemmas.Bool.{eqb-true, eq-eqb}
use Rattle.nova_calls.specs.declared.numbers.TheConstants.{CREATE_EC, CREATE_PT, CREATE_SC, CREATE_SM}
use Rattle.nova_objects.specs.declared.object.EcKind.{EcKind}
use Rattle.nova_objects.specs.declared.object.Object.{Object}
use Rattle.nova_objects.specs.declared.object.Object.TheVariants.{Ec, Pd, Pt, Sc, Sm}
use Rattle.nova_range.specs.declared.range.Kind.TheVariants.{Obj}
use Rattle.nova_range.specs.declared.range.Range.{Range}
use Rattle.nova_range.specs.declared.rights.Rights.{Rights}
use Rattle.nova_range.specs.declared.status.Status.{Status}
use Rattle.nova_range.specs.declared.status.Status.TheVariants.{BadCap, BadCpu, Busy}
use Rattle.nova_model.specs.Capabilities.{bind_portal_right, bind_scheduling_right, create_right, is_ec, is_local, is_pd, is_schedulable, named}
use Rattle.nova_model.specs.Delegations.{covers}
use Rattle.nova_model.specs.Hypercalls.{and_then, create_ec, create_pd, create_pt, create_sc, create_sm, is_scheduled, maker, makes, new_domain, schedules, unless, unless_busy}
use Rattle.nova_model.specs.Revokes.{Revocation}
use Rattle.nova_model.specs.Running.{is_revoked, revoke_of, revoke_by}
use Rattle.nova_model.specs.State.{KernelState, context_at, entry, pd_in, pd_of, processor_of}
use Rattle.nova_model.specs.declared.context.EcState.{EcState}
use Rattle.nova_model.specs.declared.deed.Deed.{Deed}
use Rattle.nova_model.specs.declared.deed.Deed.TheVariants as deeds
use Rattle.nova_model.specs.declared.new_object.NewObject.{NewObject}
use Rattle.nova_model.specs.declared.new_object.NewObject.TheVariants as new
use Rattle.law_turns.specs.Asked.{IsRevokedAt}
use Rattle.law_turns.specs.Tables.{HasTables}
use Rattle.law_turns.proofs.Holding.{from_idle, idle_from}
use Rattle.law_turns.proofs.TablesKept.{context_is}
use Rattle.law_forest.proofs.Running.{revoking_there}
use Rattle.law_flow.specs.Flow.{AreCreatingAlone}
use Rattle.law_flow.proofs.Seeing.{Both, named_mine, named_same, processor_same, some_held}

-- two states in which the side alone creates, and whose tables are sound
pub record AreMaking (k l : KernelState) (S P : ℕ → Type 0) : Type 0 where
  pub alone : AreCreatingAlone k l S P
  pub first : HasTables k
  pub second : HasTables l

pub next_by : {A B : Type 0} (o : Result A Status) (f g : A → Result B Status) → ((x : A) → o ≡ Ok x → f x ≡ g x) → and_then o f ≡ and_then o g
next_by (Err status) f g same = refl
next_by (Ok x) f g same = same x refl

-- BUSY

same_falses : (t u : Bool) → (t ≡ false → u ≡ false) → (u ≡ false → t ≡ false) → t ≡ u
same_falses true true f g = refl
same_falses true false f g = g refl
same_falses false u f g = sym (f refl)

-- the domain of an execution context that is there is the one of its object
there_member : (k : KernelState) (n : ℕ) (x : EcState) → HasTables k → context_at k n ≡ Some x →
    (cpu : ℕ) × (kind : EcKind) × (event : ℕ) × (slice_get k.objects n ≡ Some (Ec (pd_of k n) cpu kind event))
there_member k n x tables there = by_object (slice_get k.objects n) refl (context_is k n (ap is_some there) tables)
  where
    by_object : (o : Option Object) → slice_get k.objects n ≡ o → option_map is_ec o ≡ Some true →
        (cpu : ℕ) × (kind : EcKind) × (event : ℕ) × (o ≡ Some (Ec (pd_in o) cpu kind event))
    by_object (Some (Ec pd cpu kind event)) is h = (cpu, kind, event, refl)
    by_object (Some Pd) is h = absurd (cc)
    by_object (Some (Sc donor cpu priority quantum)) is h = absurd (cc)
    by_object (Some (Pt handler mtd ip)) is h = absurd (cc)
    by_object (Some Sm) is h = absurd (cc)
    by_object None is h = absurd (cc)

-- what an execution context of the side's domains revokes in a state, it does in another with the same part
revoke_also : (k l : KernelState) (S P : ℕ → Type 0) → ((n pd cpu : ℕ) (kind : EcKind) (event : ℕ) → slice_get k.objects n ≡ Some (Ec pd cpu kind event) → S pd → P n) → HasTables k →
    ((n : ℕ) → P n → slice_get l.objects n ≡ slice_get k.objects n) → ((n : ℕ) → P n → S (pd_of k n) → slice_get l.contexts n ≡ slice_get k.contexts n) → (domain selector : ℕ) → S domain → (r : Revocation) →
    IsRevokedAt k domain selector r → IsRevokedAt l domain selector r
revoke_also k l S P members tables objects contexts domain selector s r h = record { ec = h.ec; runs = also; revoker = h.revoker; kind = h.kind; place = h.place }
  where
    pd : r.pd ≡ pd_of k h.ec
    pd = ap (λ (q : Revocation). q.pd) (revoking_there k h.ec r h.runs).its

    mine : S (pd_of k h.ec)
    mine = subst S (sym h.revoker ∙ pd) s

    by_entry : (o : Option EcState) → context_at k h.ec ≡ o → option_and_then (λ (x : EcState). revoke_by (pd_of k h.ec) x.state) o ≡ Some r → P h.ec
    by_entry None at runs = absurd (cc)
    by_entry (Some x) at runs = let m = there_member k h.ec x tables at in members h.ec (pd_of k h.ec) m.0 m.1 m.2 m.3 mine

    p : P h.ec
    p = by_entry (context_at k h.ec) refl h.runs

    also : revoke_of l h.ec ≡ Some r
    also =
        ap (λ (o : Option Object). option_and_then (λ (x : EcState). revoke_by (pd_in o) x.state) (context_at l h.ec)) (objects h.ec p)
        ∙ ap (λ (o : Option (Option EcState)). option_and_then (λ (x : EcState). revoke_by (pd_of k h.ec) x.state) (entry o)) (contexts h.ec p mine) ∙ h.runs

revoked_same : (k l : KernelState) (S P : ℕ → Type 0) → Both k l S P → AreMaking k l S P → (domain selector : ℕ) → S domain → is_revoked l domain selector ≡ is_revoked k domain selector
revoked_same k l S P b m domain selector s =
    same_falses (is_revoked l domain selector) (is_revoked k domain selector)
    (λ idle. from_idle k domain selector (λ r h. idle_from l domain selector idle r (revoke_also k l S P b.side.members m.first b.alike.objects b.alike.contexts domain selector s r h)))
    (λ idle. from_idle l domain selector (λ r h. idle_from k domain selector idle r
    (revoke_also l k S P m.alone.second.members m.second (λ n p. sym (b.alike.objects n p))
    (λ n p t. sym (b.alike.contexts n p (subst (λ (o : Option Object). S (pd_in o)) (b.alike.objects n p) t))) domain selector s r h)))

-- WHAT SCHEDULES

-- the object of a number schedules an execution context
record IsBoundAt (objects : List Object) (ec : ℕ) : Type 0 where
  number : ℕ
  cpu : ℕ
  priority : ℕ
  quantum : ℕ
  object : slice_get objects number ≡ Some (Sc ec cpu priority quantum)

bound_from : (objects : List Object) (ec : ℕ) → list_any (schedules ec) objects ≡ true → IsBoundAt objects ec
bound_from [] ec h = absurd (cc)
bound_from (o ∷ os) ec h = by_object o (schedules ec o) refl h (bound_from os ec)
  where
    later : (o : Object) (os : List Object) → IsBoundAt os ec → IsBoundAt (o ∷ os) ec
    later o os b = record { number = suc b.number; cpu = b.cpu; priority = b.priority; quantum = b.quantum; object = b.object }

    here : (o : Object) → schedules ec o ≡ true → IsBoundAt (o ∷ os) ec
    here (Sc its cpu priority quantum) is =
        let same : its ≡ ec = eqb-true its ec is in record { number = 0; cpu = cpu; priority = priority; quantum = quantum; object = ap (λ (n : ℕ). Some (Sc n cpu priority quantum)) same }
    here Pd is = absurd (cc)
    here (Ec pd cpu kind event) is = absurd (cc)
    here (Pt handler mtd ip) is = absurd (cc)
    here Sm is = absurd (cc)

    by_object : (o : Object) (t : Bool) → schedules ec o ≡ t → (t || list_any (schedules ec) os) ≡ true → (list_any (schedules ec) os ≡ true → IsBoundAt os ec) → IsBoundAt (o ∷ os) ec
    by_object o true is h rest = here o is
    by_object o false is h rest = later o os (rest h)

from_bound : (objects : List Object) (ec n cpu priority quantum : ℕ) → slice_get objects n ≡ Some (Sc ec cpu priority quantum) → list_any (schedules ec) objects ≡ true
from_bound [] ec n cpu priority quantum at = absurd (cc)
from_bound (o ∷ os) ec zero cpu priority quantum at =
    let same : o ≡ Sc ec cpu priority quantum = cc in ap (λ (x : Object). schedules ec x || list_any (schedules ec) os) same ∙ ap (λ (t : Bool). t || list_any (schedules ec) os) (eq-eqb ec ec refl)
from_bound (o ∷ os) ec (suc n) cpu priority quantum at = ap (λ (t : Bool). schedules ec o || t) (from_bound os ec n cpu priority quantum at) ∙ or_true (schedules ec o)
  where
    or_true : (t : Bool) → (t || true) ≡ true
    or_true true = refl
    or_true false = refl

same_trues : (t u : Bool) → (t ≡ true → u ≡ true) → (u ≡ true → t ≡ true) → t ≡ u
same_trues true u f g = sym (f refl)
same_trues false true f g = g refl
same_trues false false f g = refl

scheduled_same : (k l : KernelState) (S P : ℕ → Type 0) → Both k l S P → AreMaking k l S P → (ec : ℕ) → P ec → is_scheduled l ec ≡ is_scheduled k ec
scheduled_same k l S P b m ec p =
    same_trues (is_scheduled l ec) (is_scheduled k ec)
    (λ h.
    let its = bound_from l.objects ec h in
    let q = m.alone.second.schedules its.number ec its.cpu its.priority its.quantum its.object p in
    from_bound k.objects ec its.number its.cpu its.priority its.quantum (sym (b.alike.objects its.number q) ∙ its.object))
    (λ h.
    let its = bound_from k.objects ec h in
    let q = m.alone.first.schedules its.number ec its.cpu its.priority its.quantum its.object p in
    from_bound l.objects ec its.number its.cpu its.priority its.quantum (b.alike.objects its.number q ∙ its.object))

-- THE ROWS

maker_same : (k l : KernelState) (S P : ℕ → Type 0) → Both k l S P → (domain target pd : ℕ) → S domain → maker l domain target pd ≡ maker k domain target pd
maker_same k l S P b domain target pd s =
    ap₂ (λ (o : Result ℕ Status) (t : Bool). and_then o (λ owner. unless t BadCap (Ok owner))) (named_same k l S P b domain is_pd create_right pd s)
    (some_held (find (covers Obj domain target) l.delegations.list) (find (covers Obj domain target) k.delegations.list) (b.alike.spaces Obj domain target s))

makes_same : (k l : KernelState) (S P : ℕ → Type 0) → Both k l S P → AreMaking k l S P → (domain call target pd : ℕ) → S domain → (mine its : ℕ → Result NewObject Status) → ((owner : ℕ) → its owner ≡ mine owner) →
    makes l domain call target pd its ≡ makes k domain call target pd mine
makes_same k l S P b m domain call target pd s mine its same =
    ap₂ (λ (o : Result ℕ Status) (t : Bool). and_then o (λ owner. and_then (its owner) (λ made. unless t Busy (Ok (deeds.Makes call target made)))))
    (maker_same k l S P b domain target pd s) (revoked_same k l S P b m domain target s)
    ∙ next_by (maker k domain target pd) _ _ (λ owner is. ap (λ (r : Result NewObject Status). and_then r (λ made. unless_busy k domain target (deeds.Makes call target made))) (same owner))

-- a domain that is made is of the same number in both, where it is given a first range
domain_same : (k l : KernelState) → length l.objects ≡ length k.objects → (target : ℕ) (first : Option (Range × Rights)) → new_domain l target first ≡ new_domain k target first
domain_same k l same target None = refl
domain_same k l same target (Some range) = ap (deeds.Opens target) same

pub create_pd_same : (k l : KernelState) (S P : ℕ → Type 0) → Both k l S P → AreMaking k l S P → (domain target pd : ℕ) (first : Option (Range × Rights)) → S domain →
    create_pd l domain target pd first ≡ create_pd k domain target pd first
create_pd_same k l S P b m domain target pd first s =
    ap (λ (d : Deed). and_then (maker l domain target pd) (λ owner. unless (is_revoked l domain target) Busy (Ok d))) (domain_same k l m.alone.objects target first)
    ∙ ap₂ (λ (o : Result ℕ Status) (t : Bool). and_then o (λ owner. unless t Busy (Ok (new_domain k target first)))) (maker_same k l S P b domain target pd s) (revoked_same k l S P b m domain target s)

pub create_ec_same : (k l : KernelState) (S P : ℕ → Type 0) → Both k l S P → AreMaking k l S P → (domain target pd cpu : ℕ) (kind : EcKind) (sp event : ℕ) → S domain →
    create_ec l domain target pd cpu kind sp event ≡ create_ec k domain target pd cpu kind sp event
create_ec_same k l S P b m domain target pd cpu kind sp event s =
    makes_same k l S P b m domain CREATE_EC target pd s _ _ (λ owner. ap (λ (n : ℕ). unless (not (nat_lt cpu n)) BadCpu (Ok (new.Ec owner cpu kind sp event))) m.alone.cpus)

pub create_sc_same : (k l : KernelState) (S P : ℕ → Type 0) → Both k l S P → AreMaking k l S P → (domain target pd whose quantum priority : ℕ) → S domain →
    create_sc l domain target pd whose quantum priority ≡ create_sc k domain target pd whose quantum priority
create_sc_same k l S P b m domain target pd whose quantum priority s =
    makes_same k l S P b m domain CREATE_SC target pd s _ _ (λ owner.
    ap (λ (o : Result ℕ Status). and_then o (λ ec. unless (is_scheduled l ec) BadCap (Ok (new.Sc ec (processor_of l ec) priority quantum)))) (named_same k l S P b domain is_schedulable bind_scheduling_right whose s)
    ∙ next_by (named k domain is_schedulable bind_scheduling_right whose) _ _ (λ ec is.
    let p = named_mine k l S P b domain is_schedulable bind_scheduling_right whose ec s is in
    ap₂ (λ (t : Bool) (cpu : ℕ). unless t BadCap (Ok (new.Sc ec cpu priority quantum))) (scheduled_same k l S P b m ec p) (processor_same k l S P b ec p)))

pub create_pt_same : (k l : KernelState) (S P : ℕ → Type 0) → Both k l S P → AreMaking k l S P → (domain target pd handler mtd ip : ℕ) → S domain →
    create_pt l domain target pd handler mtd ip ≡ create_pt k domain target pd handler mtd ip
create_pt_same k l S P b m domain target pd handler mtd ip s =
    makes_same k l S P b m domain CREATE_PT target pd s _ _ (λ owner.
    ap (λ (o : Result ℕ Status). and_then o (λ ec. Ok (new.Pt ec mtd ip))) (named_same k l S P b domain is_local bind_portal_right handler s))

pub create_sm_same : (k l : KernelState) (S P : ℕ → Type 0) → Both k l S P → AreMaking k l S P → (domain target pd count : ℕ) → S domain → create_sm l domain target pd count ≡ create_sm k domain target pd count
create_sm_same k l S P b m domain target pd count s = makes_same k l S P b m domain CREATE_SM target pd s (λ owner. Ok (new.Sm count)) (λ owner. Ok (new.Sm count)) (λ owner. refl)

-- OF WHAT IT IS MADE

-- what a new object refers to is of the side's part
abbrev pub IsMadeOf : (ℕ → Type 0) → NewObject → Type 0
IsMadeOf P (new.Sc ec cpu priority quantum) = P ec
IsMadeOf P (new.Pt ec mtd ip) = P ec
IsMadeOf P other = Unit {0}

abbrev pub MadeOr : (ℕ → Type 0) → Result NewObject Status → Type 0
MadeOr P (Ok made) = IsMadeOf P made
MadeOr P (Err status) = Unit {0}

next_made : {A : Type 0} (P : ℕ → Type 0) (o : Result A Status) (f : A → Result NewObject Status) → ((x : A) → o ≡ Ok x → MadeOr P (f x)) → MadeOr P (and_then o f)
next_made P (Err status) f own = tt
next_made P (Ok x) f own = own x refl

unless_made : (P : ℕ → Type 0) (t : Bool) (status : Status) (r : Result NewObject Status) → MadeOr P r → MadeOr P (unless t status r)
unless_made P true status r own = tt
unless_made P false status r own = own

pub ec_made : (k : KernelState) (P : ℕ → Type 0) (owner cpu : ℕ) (kind : EcKind) (sp event : ℕ) → MadeOr P (unless (not (nat_lt cpu k.cpus)) BadCpu (Ok (new.Ec owner cpu kind sp event)))
ec_made k P owner cpu kind sp event = unless_made P (not (nat_lt cpu k.cpus)) BadCpu (Ok (new.Ec owner cpu kind sp event)) tt

pub sc_made : (k l : KernelState) (S P : ℕ → Type 0) → Both k l S P → (domain whose quantum priority : ℕ) → S domain →
    MadeOr P (and_then (named k domain is_schedulable bind_scheduling_right whose) (λ ec. unless (is_scheduled k ec) BadCap (Ok (new.Sc ec (processor_of k ec) priority quantum))))
sc_made k l S P b domain whose quantum priority s =
    next_made P (named k domain is_schedulable bind_scheduling_right whose) _ (λ ec is.
    unless_made P (is_scheduled k ec) BadCap (Ok (new.Sc ec (processor_of k ec) priority quantum)) (named_mine k l S P b domain is_schedulable bind_scheduling_right whose ec s is))

pub pt_made : (k l : KernelState) (S P : ℕ → Type 0) → Both k l S P → (domain handler mtd ip : ℕ) → S domain → MadeOr P (and_then (named k domain is_local bind_portal_right handler) (λ ec. Ok (new.Pt ec mtd ip)))
pt_made k l S P b domain handler mtd ip s = next_made P (named k domain is_local bind_portal_right handler) _ (λ ec is. named_mine k l S P b domain is_local bind_portal_right handler ec s is)
