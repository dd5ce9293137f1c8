-- A scheduling context is made as it is asked for.
use Rattle.std.proofs.Common.{◌≡◌, ◌<◌, ◌≤◌, ◌+◌, ℕ, zero, suc, List, [], ◌∷◌, refl, sym, ap, ◌∙◌, subst, arith}
use Rattle.std.specs.Prelude.{◌≢◌, ◌*◌, ◌/◌, ◌%◌, ◌^◌, ◌==◌, ◌&&◌, Bool, true, false, not, if◌then◌else◌, nat_le, nat_lt, slice_get, Option, Some, None, option_map, Result, Ok, Err}
use Rattle.std.specs.List.{list_any}
use Rattle.std.proofs.lemmas.Bool.{eqb-true}
use Rattle.std.proofs.lemmas.Bool.Decides.{nat_tests}
use Rattle.rv_model.specs.Step.{environment_call}
use Rattle.rv_model.specs.Registers.{Registers, reg}
use Rattle.nova_calls.specs.Hypercalls.{call_of, create_sc_row, is_selector, read_row, rows}
use Rattle.nova_calls.specs.declared.call.Call.{Call}
use Rattle.nova_calls.specs.declared.call.Call.TheVariants as asks
use Rattle.nova_calls.specs.declared.numbers.TheConstants.{CREATE_EC, CREATE_SC, CREATE_PT, CREATE_SM, SC_CTRL}
use Rattle.nova_calls.proofs.Numbered.{read_numbered}
use Rattle.nova_objects.specs.declared.object.EcKind.{EcKind}
use Rattle.nova_objects.specs.declared.object.EcKind.TheVariants.{Local, Global, Vcpu}
use Rattle.nova_objects.specs.declared.object.Object.{Object}
use Rattle.nova_objects.specs.declared.object.Object.TheVariants.{Pd, Ec, Sc, Pt, Sm}
use Rattle.nova_range.specs.declared.range.Range.{Range}
use Rattle.nova_range.specs.declared.rights.Rights.{Rights}
use Rattle.nova_range.specs.declared.status.Status.{Status}
use Rattle.nova_range.specs.declared.status.Status.TheVariants.{BadCap, BadCpu, Busy}
use Rattle.nova_model.specs.Capabilities.{bind_portal_right, bind_scheduling_right, control_right, create_right, is_ec, is_held, is_local, is_pd, is_pt, is_sc, is_schedulable, named}
use Rattle.nova_model.specs.Deeds.{deed, deed_in, ready, signalled, stepping}
use Rattle.nova_model.specs.Forest.{IsForest}
use Rattle.nova_model.specs.Hypercalls.{and_then, create_sc, hypercall, is_scheduled, maker, makes, new_domain, or_refuses, row, schedules, ticks_in, unless, unless_busy}
use Rattle.nova_model.specs.Revokes.{Revocation}
use Rattle.nova_model.specs.Running.{is_revoked}
use Rattle.nova_model.specs.State.{KernelState, budget_at, context, pd_of, processor_in, processor_of}
use Rattle.nova_model.specs.declared.deed.Deed.{Deed}
use Rattle.nova_model.specs.declared.deed.Deed.TheVariants.{Makes, Names, Recalls, Tells}
use Rattle.nova_model.specs.declared.delegation.Derivation.{Derivation}
use Rattle.nova_model.specs.declared.new_object.NewObject.{NewObject}
use Rattle.nova_model.specs.declared.new_object.NewObject.TheVariants as new
use Rattle.law_forest.proofs.Walk.{IfDone, deed_holds, sm_ctrl_holds}
use Rattle.law_forest.proofs.Allowed.{pd_there as domain_there}
use Rattle.law_turns.specs.Asked.{AsksSchedule, HoldsAt, IsCalling, IsHeldAt, IsRevokedAt}
use Rattle.law_turns.proofs.Holding.{IsNamedAt, free_from, from_free, from_idle, idle_from, named_at, named_is}
use Rattle.law_turns.proofs.Rows.{call_holds, named_holds, reply_holds, create_pd_holds}

-- WITHOUT A SCHEDULING CONTEXT

not_scheduled : (os : List Object) (n ec cpu priority quantum : ℕ) → list_any (schedules ec) os ≡ false → slice_get os n ≢ Some (Sc ec cpu priority quantum)
not_scheduled [] n ec cpu priority quantum none at = absurd (cc)
not_scheduled (o ∷ os) zero ec cpu priority quantum none at =
    let same : o ≡ Sc ec cpu priority quantum = cc in
    let it : schedules ec o ≡ true = ap (schedules ec) same ∙ (let e : (ec == ec) ≡ true = grind arith in e) in
    let some : list_any (schedules ec) (o ∷ os) ≡ true = rw it refl in
    absurd (cc)
not_scheduled (o ∷ os) (suc n) ec cpu priority quantum none at = by_test (schedules ec o) refl (λ rest. not_scheduled os n ec cpu priority quantum rest at)
  where
    by_test : (t : Bool) → schedules ec o ≡ t → (list_any (schedules ec) os ≡ false → ⊥) → ⊥
    by_test true is others = let some : list_any (schedules ec) (o ∷ os) ≡ true = rw is refl in absurd (cc)
    by_test false is others = others (let e : list_any (schedules ec) os ≡ false = rw is at none in e)

abbrev Alone : List Object → ℕ → Type 0
Alone os ec = (n cpu priority quantum : ℕ) → slice_get os n ≢ Some (Sc ec cpu priority quantum)

first_alone : (o : Object) (os : List Object) (ec : ℕ) → Alone (o ∷ os) ec → schedules ec o ≡ false
first_alone (Sc its cpu priority quantum) os ec alone = by_test (its == ec) refl
  where
    by_test : (t : Bool) → (its == ec) ≡ t → t ≡ false
    by_test true is =
        let same : its ≡ ec = eqb-true its ec is in
        absurd (alone 0 cpu priority quantum (ap (λ (n : ℕ). Some (Sc n cpu priority quantum)) same))
    by_test false is = refl
first_alone Pd os ec alone = refl
first_alone (Ec pd cpu kind event) os ec alone = refl
first_alone (Pt handler mtd ip) os ec alone = refl
first_alone Sm os ec alone = refl

none_scheduled : (os : List Object) (ec : ℕ) → Alone os ec → list_any (schedules ec) os ≡ false
none_scheduled [] ec alone = refl
none_scheduled (o ∷ os) ec alone =
    rw (first_alone o os ec alone) (none_scheduled os ec (λ n cpu priority quantum. alone (suc n) cpu priority quantum))

-- KINDS OF OBJECTS

record IsBindable (o : Option Object) (cpu : ℕ) : Type 0 where
  pd : ℕ
  kind : EcKind
  event : ℕ
  object : o ≡ Some (Ec pd cpu kind event)
  schedulable : kind ≢ Local

bindable : (o : Option Object) → option_map is_schedulable o ≡ Some true → IsBindable o (processor_in o)
bindable None h = absurd (cc)
bindable (Some (Ec pd cpu Local event)) h = absurd (cc)
bindable (Some (Ec pd cpu Global event)) h = record { pd = pd; kind = Global; event = event; object = refl; schedulable = λ is. absurd (cc) }
bindable (Some (Ec pd cpu Vcpu event)) h = record { pd = pd; kind = Vcpu; event = event; object = refl; schedulable = λ is. absurd (cc) }
bindable (Some Pd) h = absurd (cc)
bindable (Some (Sc ec cpu priority quantum)) h = absurd (cc)
bindable (Some (Pt ec mtd ip)) h = absurd (cc)
bindable (Some Sm) h = absurd (cc)

schedulable_is : (pd cpu event : ℕ) (kind : EcKind) → kind ≢ Local → is_schedulable (Ec pd cpu kind event) ≡ true
schedulable_is pd cpu event Local other = absurd (other refl)
schedulable_is pd cpu event Global other = refl
schedulable_is pd cpu event Vcpu other = refl

-- WHAT REGISTERS ASK FOR

record IsRead (r : Registers) (target pd its quantum priority : ℕ) : Type 0 where
  number : reg r 17 ≡ CREATE_SC
  place : reg r 10 ≡ target
  creator : reg r 11 ≡ pd
  binder : reg r 12 ≡ its
  word : reg r 13 ≡ quantum * 2 ^ 8 + priority
  level : priority < 2 ^ 8
  turns : 1 ≤ quantum
  places : (target < 2 ^ 20) × (pd < 2 ^ 20) × (its < 2 ^ 20)

row_read : (r : Registers) (target pd its quantum priority : ℕ) → reg r 17 ≡ CREATE_SC → create_sc_row r ≡ Some (asks.CreateSc target pd its quantum priority) →
    IsRead r target pd its quantum priority
row_read r target pd its quantum priority number is =
    by_test (is_selector (reg r 10) && is_selector (reg r 11) && is_selector (reg r 12) && nat_le 1 (reg r 13 / 2 ^ 8)) refl is
  where
    by_test : (t : Bool) → (is_selector (reg r 10) && is_selector (reg r 11) && is_selector (reg r 12) && nat_le 1 (reg r 13 / 2 ^ 8)) ≡ t →
        (if t then Some (asks.CreateSc (reg r 10) (reg r 11) (reg r 12) (reg r 13 / 2 ^ 8) (reg r 13 % 2 ^ 8)) else None)
        ≡ Some (asks.CreateSc target pd its quantum priority) → IsRead r target pd its quantum priority
    by_test true fits same =
        let a : reg r 10 ≡ target = cc in
        let b : reg r 11 ≡ pd = cc in
        let c : reg r 12 ≡ its = cc in
        let d : reg r 13 / 2 ^ 8 ≡ quantum = cc in
        let e : reg r 13 % 2 ^ 8 ≡ priority = cc in
        record {
          number = number;
          place = a;
          creator = b;
          binder = c;
          word = grind arith;
          level = grind arith;
          turns = grind (arith, nat_tests);
          places = (grind (arith, nat_tests), grind (arith, nat_tests), grind (arith, nat_tests));
        }
    by_test false fits same = absurd (cc)

pub read_some : (o : Option Call) (c : Call) → read_row (Some o) ≡ Ok c → o ≡ Some c
read_some (Some x) c is = cc
read_some None c is = absurd (cc)

call_read : (r : Registers) (target pd its quantum priority : ℕ) → call_of r ≡ Ok (asks.CreateSc target pd its quantum priority) → IsRead r target pd its quantum priority
unfolding call_of
call_read r target pd its quantum priority is =
    let number : reg r 17 ≡ CREATE_SC = sym (read_numbered r (asks.CreateSc target pd its quantum priority) is) in
    row_read r target pd its quantum priority number
    (read_some (create_sc_row r) (asks.CreateSc target pd its quantum priority) (sym (ap (λ (n : ℕ). read_row (slice_get (rows r) n)) number) ∙ is))

row_fits : (r : Registers) → reg r 10 < 2 ^ 20 → reg r 11 < 2 ^ 20 → reg r 12 < 2 ^ 20 → 1 ≤ reg r 13 / 2 ^ 8 →
    create_sc_row r ≡ Some (asks.CreateSc (reg r 10) (reg r 11) (reg r 12) (reg r 13 / 2 ^ 8) (reg r 13 % 2 ^ 8))
row_fits r target pd its turns =
    let a : nat_lt (reg r 10) (2 ^ 20) ≡ true = grind (arith, nat_tests) in
    let b : nat_lt (reg r 11) (2 ^ 20) ≡ true = grind (arith, nat_tests) in
    let c : nat_lt (reg r 12) (2 ^ 20) ≡ true = grind (arith, nat_tests) in
    let d : nat_le 1 (reg r 13 / 2 ^ 8) ≡ true = grind (arith, nat_tests) in
    rw (a, b, c, d) refl

read_call : (r : Registers) (c : Call) → reg r 17 ≡ CREATE_SC → create_sc_row r ≡ Some c → call_of r ≡ Ok c
unfolding call_of
read_call r c number is = ap (λ (n : ℕ). read_row (slice_get (rows r) n)) number ∙ ap (λ (o : Option Call). read_row (Some o)) is

-- WHAT IS MADE WAS ASKED FOR

abbrev AsAsked : KernelState → ℕ → Registers → Deed → Type 0
AsAsked k domain r (Makes number target (new.Sc ec cpu priority quantum)) = (number ≡ CREATE_SC) × AsksSchedule k domain r target ec cpu priority quantum
AsAsked k domain r other = Unit {0}

-- what holds of each object that a row makes
pub makes_each : (P : Deed → Type 0) (k : KernelState) (domain number target pd : ℕ) (made : ℕ → Result NewObject Status) →
    ((owner : ℕ) → maker k domain target pd ≡ Ok owner → is_revoked k domain target ≡ false → IfDone (λ m. P (Makes number target m)) (made owner)) →
    IfDone P (makes k domain number target pd made)
makes_each P k domain number target pd made h = by_owner (maker k domain target pd) refl
  where
    by_new : (t : Bool) → is_revoked k domain target ≡ t → (r : Result NewObject Status) →
        (is_revoked k domain target ≡ false → IfDone (λ m. P (Makes number target m)) r) → IfDone P (and_then r (λ m. unless t Busy (Ok (Makes number target m))))
    by_new true is (Ok m) holds = tt
    by_new true is (Err status) holds = tt
    by_new false is (Ok m) holds = holds is
    by_new false is (Err status) holds = tt

    by_owner : (owner : Result ℕ Status) → maker k domain target pd ≡ owner →
        IfDone P (and_then owner (λ o. and_then (made o) (λ m. unless_busy k domain target (Makes number target m))))
    by_owner (Ok o) is = by_new (is_revoked k domain target) refl (made o) (h o is)
    by_owner (Err status) is = tt

-- the maker's rules
pub record IsMaker (k : KernelState) (domain target pd owner : ℕ) : Type 0 where
  pub named : named k domain is_pd create_right pd ≡ Ok owner
  pub free : is_held k domain target ≡ false

pub maker_is : (k : KernelState) (domain target pd owner : ℕ) → maker k domain target pd ≡ Ok owner → IsMaker k domain target pd owner
maker_is k domain target pd owner is = by_named (named k domain is_pd create_right pd) refl (is_held k domain target) refl is
  where
    by_named : (o : Result ℕ Status) → named k domain is_pd create_right pd ≡ o → (t : Bool) → is_held k domain target ≡ t →
        and_then o (λ x. unless t BadCap (Ok x)) ≡ Ok owner → IsMaker k domain target pd owner
    by_named (Err status) named t held same = absurd (cc)
    by_named (Ok x) named true held same = absurd (cc)
    by_named (Ok x) named false held same = record { named = named ∙ same; free = held }

schedule_asked : (k : KernelState) (domain : ℕ) (r : Registers) (target pd its quantum priority owner : ℕ) → IsRead r target pd its quantum priority → IsMaker k domain target pd owner →
    is_revoked k domain target ≡ false → IfDone (λ m. AsAsked k domain r (Makes CREATE_SC target m))
    (and_then (named k domain is_schedulable bind_scheduling_right its) (λ ec. unless (is_scheduled k ec) BadCap (Ok (new.Sc ec (processor_of k ec) priority quantum))))
schedule_asked k domain r target pd its quantum priority owner read m idle =
    by_named (named k domain is_schedulable bind_scheduling_right its) (named_at k domain is_schedulable bind_scheduling_right its)
  where
    by_alone : (ec : ℕ) → IsNamedAt k domain its bind_scheduling_right is_schedulable ec → (t : Bool) → is_scheduled k ec ≡ t →
        IfDone (λ x. AsAsked k domain r (Makes CREATE_SC target x)) (unless t BadCap (Ok (new.Sc ec (processor_of k ec) priority quantum)))
    by_alone ec named true is = tt
    by_alone ec named false is =
        let creator = subst (λ (o : Result ℕ Status). IfDone (IsNamedAt k domain pd create_right is_pd) o) m.named (named_at k domain is_pd create_right pd) in
        let bound = bindable (slice_get k.objects ec) named.object in (
          refl,
          record {
            call = read.number;
            place = read.place;
            below = read.places.0;
            free = free_from k domain target m.free;
            idle = idle_from k domain target idle;
            owner = owner;
            creator = subst (λ (s : ℕ). HoldsAt k domain s create_right owner) (sym read.creator) (creator.holds read.places.1);
            opened = domain_there (slice_get k.objects owner) creator.object;
            binder = subst (λ (s : ℕ). HoldsAt k domain s bind_scheduling_right ec) (sym read.binder) (named.holds read.places.2);
            pd = bound.pd;
            kind = bound.kind;
            event = bound.event;
            object = bound.object;
            schedulable = bound.schedulable;
            alone = λ n cpu its_priority its_quantum. not_scheduled k.objects n ec cpu its_priority its_quantum is;
            word = read.word;
            level = read.level;
            turns = read.turns;
          },
        )

    by_named : (ec : Result ℕ Status) → IfDone (IsNamedAt k domain its bind_scheduling_right is_schedulable) ec →
        IfDone (λ x. AsAsked k domain r (Makes CREATE_SC target x)) (and_then ec (λ e. unless (is_scheduled k e) BadCap (Ok (new.Sc e (processor_of k e) priority quantum))))
    by_named (Err status) named = tt
    by_named (Ok ec) named = by_alone ec named (is_scheduled k ec) refl

opens_asked : (k : KernelState) (domain : ℕ) (r : Registers) (target : ℕ) (first : Option (Range × Rights)) → AsAsked k domain r (new_domain k target first)
opens_asked k domain r target None = tt
opens_asked k domain r target (Some range) = tt

context_asked : (k : KernelState) (domain : ℕ) (r : Registers) (target owner cpu : ℕ) (kind : EcKind) (sp event : ℕ) (missing : Bool) →
    IfDone (λ m. AsAsked k domain r (Makes CREATE_EC target m)) (unless missing BadCpu (Ok (new.Ec owner cpu kind sp event)))
context_asked k domain r target owner cpu kind sp event true = tt
context_asked k domain r target owner cpu kind sp event false = tt

portal_asked : (k : KernelState) (domain : ℕ) (r : Registers) (target mtd ip : ℕ) (handler : Result ℕ Status) →
    IfDone (λ m. AsAsked k domain r (Makes CREATE_PT target m)) (and_then handler (λ h. Ok (new.Pt h mtd ip)))
portal_asked k domain r target mtd ip (Ok h) = tt
portal_asked k domain r target mtd ip (Err status) = tt

row_asked : (k : KernelState) (ec domain : ℕ) (r : Registers) (c : Call) → call_of r ≡ Ok c → IfDone (AsAsked k domain r) (row k ec domain c)
row_asked k ec domain r (asks.Call portal flag) is = call_holds (AsAsked k domain r) k ec domain portal flag (λ pt sends. tt) (λ pt helps. tt)
row_asked k ec domain r asks.Reply is = reply_holds (AsAsked k domain r) k ec (λ caller mark replies. tt)
row_asked k ec domain r (asks.CreatePd target pd first) is =
    create_pd_holds (AsAsked k domain r) k domain target pd first (opens_asked k domain r target first)
row_asked k ec domain r (asks.CreateEc target pd cpu kind sp event) is =
    makes_each (AsAsked k domain r) k domain CREATE_EC target pd _ (λ owner m idle. context_asked k domain r target owner cpu kind sp event (not (nat_lt cpu k.cpus)))
row_asked k ec domain r (asks.CreateSc target pd its quantum priority) is =
    makes_each (AsAsked k domain r) k domain CREATE_SC target pd _
    (λ owner m idle.
    schedule_asked k domain r target pd its quantum priority owner (call_read r target pd its quantum priority is) (maker_is k domain target pd owner m) idle)
row_asked k ec domain r (asks.CreatePt target pd handler mtd ip) is =
    makes_each (AsAsked k domain r) k domain CREATE_PT target pd _ (λ owner m idle. portal_asked k domain r target mtd.0 ip (named k domain is_local bind_portal_right handler))
row_asked k ec domain r (asks.CreateSm target pd count) is = makes_each (AsAsked k domain r) k domain CREATE_SM target pd (λ o. Ok (new.Sm count)) (λ owner m idle. tt)
row_asked k ec domain r (asks.EcCtrl other) is = named_holds (AsAsked k domain r) (named k domain is_ec control_right other) (λ n. Recalls n) (λ n. tt)
row_asked k ec domain r (asks.ScCtrl sc) is = named_holds (AsAsked k domain r) (named k domain is_sc control_right sc) (λ n. Tells SC_CTRL (ticks_in (budget_at k n))) (λ n. tt)
row_asked k ec domain r (asks.PtCtrl pt identifier) is = named_holds (AsAsked k domain r) (named k domain is_pt control_right pt) (λ n. Names n identifier) (λ n. tt)
row_asked k ec domain r (asks.SmCtrl sm action) is =
    sm_ctrl_holds (AsAsked k domain r) k ec domain sm action (λ n whom names wakes. tt) (λ n names answers. tt) (λ n until names answers till. tt)
row_asked k ec domain r other is = tt

deed_asked : (k : KernelState) (ec : ℕ) → AsAsked k (pd_of k ec) (context k ec).regs (deed k ec)
deed_asked k ec =
    deed_holds (AsAsked k (pd_of k ec) (context k ec).regs) k ec tt
    (record {
      steps = tt;
      raises = λ reason q0 q1. tt;
      dies = λ reason q0. tt;
      refuses = λ number status. tt;
      waits = λ pt reason q0 q1 is. tt;
      sends = λ pt reason q0 q1 is. tt;
      aborts = λ handler is. tt;
      removes = λ range own leaf is next. tt;
      returns = λ range own is next. tt;
      rows = λ asks c is. row_asked k ec (pd_of k ec) (context k ec).regs c is;
    })
    (record { gives = λ d x g. tt; skips = λ d reason place is. tt; finishes = λ v end answer present is. tt })

pub made_as_asked : (k : KernelState) (caller number target ec cpu priority quantum : ℕ) → deed k caller ≡ Makes number target (new.Sc ec cpu priority quantum) →
    (number ≡ CREATE_SC) × AsksSchedule k (pd_of k caller) (context k caller).regs target ec cpu priority quantum
made_as_asked k caller number target ec cpu priority quantum is = subst (AsAsked k (pd_of k caller) (context k caller).regs) is (deed_asked k caller)

-- WHAT IS ASKED FOR IS MADE

created : (k : KernelState) (domain target pd its quantum priority owner ec : ℕ) → named k domain is_pd create_right pd ≡ Ok owner → is_held k domain target ≡ false →
    named k domain is_schedulable bind_scheduling_right its ≡ Ok ec → is_scheduled k ec ≡ false → is_revoked k domain target ≡ false →
    create_sc k domain target pd its quantum priority ≡ Ok (Makes CREATE_SC target (new.Sc ec (processor_of k ec) priority quantum))
created k domain target pd its quantum priority owner ec creator free binder alone idle =
    by_parts (named k domain is_pd create_right pd) (is_held k domain target) (named k domain is_schedulable bind_scheduling_right its) creator free binder
  where
    by_alone : (t v : Bool) → t ≡ false → v ≡ false →
        and_then (unless t BadCap (Ok (new.Sc ec (processor_of k ec) priority quantum))) (λ m. unless v Busy (Ok (Makes CREATE_SC target m)))
        ≡ Ok (Makes CREATE_SC target (new.Sc ec (processor_of k ec) priority quantum))
    by_alone true v is none = absurd (cc)
    by_alone false true is none = absurd (cc)
    by_alone false false is none = refl

    by_parts : (c : Result ℕ Status) (t : Bool) (b : Result ℕ Status) → c ≡ Ok owner → t ≡ false → b ≡ Ok ec →
        and_then (and_then c (λ o. unless t BadCap (Ok o))) (λ o. and_then (and_then b (λ e. unless (is_scheduled k e) BadCap (Ok (new.Sc e (processor_of k e) priority quantum))))
        (λ m. unless_busy k domain target (Makes CREATE_SC target m)))
        ≡ Ok (Makes CREATE_SC target (new.Sc ec (processor_of k ec) priority quantum))
    by_parts (Err status) t b c_is t_is b_is = absurd (cc)
    by_parts c true b c_is t_is b_is = absurd (cc)
    by_parts c t (Err status) c_is t_is b_is = absurd (cc)
    by_parts (Ok o) false (Ok e) c_is t_is b_is =
        let same : e ≡ ec = cc in
        subst (λ (x : ℕ). and_then (unless (is_scheduled k x) BadCap (Ok (new.Sc x (processor_of k x) priority quantum))) (λ m. unless_busy k domain target (Makes CREATE_SC target m))
        ≡ Ok (Makes CREATE_SC target (new.Sc ec (processor_of k ec) priority quantum))) (sym same) (by_alone (is_scheduled k ec) (is_revoked k domain target) alone idle)

pub asked_is : (k : KernelState) (caller domain : ℕ) (r : Registers) (c : Call) (d : Deed) → call_of r ≡ Ok c → row k caller domain c ≡ Ok d →
    hypercall k caller domain r ≡ d
asked_is k caller domain r c d read gives = ap (or_refuses (reg r 17)) (ap (λ (o : Result Call Status). and_then o (row k caller domain)) read ∙ gives)

pub asked_is_made : (k : KernelState) (caller domain : ℕ) (r : Registers) (target ec cpu priority quantum : ℕ) → IsForest k.delegations →
    AsksSchedule k domain r target ec cpu priority quantum → hypercall k caller domain r ≡ Makes CREATE_SC target (new.Sc ec cpu priority quantum)
asked_is_made k caller domain r target ec cpu priority quantum forest a =
    let word = a.word in
    let level = a.level in
    let turns = a.turns in
    let q : reg r 13 / 2 ^ 8 ≡ quantum = grind arith in
    let p : reg r 13 % 2 ^ 8 ≡ priority = grind arith in
    let read = row_fits r (let b = a.below in let at = a.place in omega arith) a.creator.below a.binder.below (omega arith) in
    let here : processor_of k ec ≡ cpu = ap processor_in a.object in
    let makes = created k domain (reg r 10) (reg r 11) (reg r 12) (reg r 13 / 2 ^ 8) (reg r 13 % 2 ^ 8) a.owner ec
    (named_is k domain is_pd create_right (reg r 11) a.owner Pd forest a.creator a.opened refl)
    (from_free k domain (reg r 10) (subst (λ (s : ℕ). (d : Derivation) → IsHeldAt k domain s d → ⊥) (sym a.place) a.free))
    (named_is k domain is_schedulable bind_scheduling_right (reg r 12) ec (Ec a.pd cpu a.kind a.event) forest a.binder a.object (schedulable_is a.pd cpu a.event a.kind a.schedulable))
    (none_scheduled k.objects ec a.alone)
    (from_idle k domain (reg r 10) (subst (λ (s : ℕ). (x : Revocation) → IsRevokedAt k domain s x → ⊥) (sym a.place) a.idle)) in
    asked_is k caller domain r (asks.CreateSc (reg r 10) (reg r 11) (reg r 12) (reg r 13 / 2 ^ 8) (reg r 13 % 2 ^ 8)) _ (read_call r _ a.call read) makes
    ∙ ap (λ (t : ℕ). Makes CREATE_SC t (new.Sc ec (processor_of k ec) (reg r 13 % 2 ^ 8) (reg r 13 / 2 ^ 8))) a.place
    ∙ ap (λ (c : ℕ). Makes CREATE_SC target (new.Sc ec c (reg r 13 % 2 ^ 8) (reg r 13 / 2 ^ 8))) here
    ∙ ap (λ (x : ℕ). Makes CREATE_SC target (new.Sc ec cpu x (reg r 13 / 2 ^ 8))) p
    ∙ ap (λ (x : ℕ). Makes CREATE_SC target (new.Sc ec cpu priority x)) q

pub calling_makes : (k : KernelState) (caller target ec cpu priority quantum : ℕ) → IsForest k.delegations → IsCalling k caller →
    AsksSchedule k (pd_of k caller) (context k caller).regs target ec cpu priority quantum → deed k caller ≡ Makes CREATE_SC target (new.Sc ec cpu priority quantum)
unfolding deed
calling_makes k caller target ec cpu priority quantum forest calling a =
    ap (deed_in k caller) calling.state
    ∙ ap (ready k caller) calling.recall
    ∙ ap (stepping k caller) calling.raises
    ∙ ap (signalled k caller environment_call calling.q0 calling.q1) calling.thread
    ∙ asked_is_made k caller (pd_of k caller) (context k caller).regs target ec cpu priority quantum forest a
