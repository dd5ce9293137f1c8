-- Objects are made exactly as they are asked for.
use Rattle.std.proofs.Common.{◌≡◌, ◌<◌, ◌≤◌, ℕ, ◌-◌, ◌/◌, ◌%◌, ◌^◌, refl, sym, ap, subst, arith}
use Rattle.std.specs.Prelude.{Bool, true, false, not, nat_lt, nat_le, ◌&&◌, if◌then◌else◌, IfSome, option_map, slice_get, Option, Some, None, Result, Ok, Err}
use Rattle.std.proofs.lemmas.Bool.Decides.{nat_tests}
use Rattle.rv_model.specs.Registers.{Registers, reg}
use Rattle.nova_calls.specs.Hypercalls.{call_of, create_ec_row, create_pd_row, create_pt_row, create_sc_row, create_sm_row, is_selector, kind_of, readable, rows}
use Rattle.nova_calls.specs.Numbers.{number_of}
use Rattle.nova_calls.specs.declared.call.Call.{Call}
use Rattle.nova_calls.specs.declared.call.Call.TheVariants as asks
use Rattle.nova_calls.specs.declared.numbers.TheConstants.{CREATE_EC, CREATE_PD, CREATE_PT, CREATE_SC, CREATE_SM}
use Rattle.nova_calls.proofs.Numbered.{holds_by_row, read_in_row, read_numbered}
use Rattle.nova_objects.specs.declared.object.EcKind.{EcKind}
use Rattle.nova_range.specs.RangeWords.{meaning_of}
use Rattle.nova_range.specs.declared.mtd.Mtd.{Mtd}
use Rattle.nova_range.specs.declared.range.Range.{Range}
use Rattle.nova_range.specs.declared.rights.Rights.{Rights}
use Rattle.nova_range.specs.declared.word.WordFault.{WordFault}
use Rattle.nova_calls.specs.declared.numbers.TheConstants.{SC_CTRL}
use Rattle.std.proofs.lemmas.Option.{same_Some}
use Rattle.nova_range.specs.declared.status.Status.{Status}
use Rattle.nova_range.specs.declared.status.Status.TheVariants.{BadCap, BadCpu, Busy}
use Rattle.nova_model.specs.Capabilities.{bind_portal_right, control_right, create_right, is_ec, is_local, is_pd, is_pt, is_sc, named}
use Rattle.nova_model.specs.Deeds.{deed}
use Rattle.nova_model.specs.Hypercalls.{and_then, create_pd, is_scheduled, makes, maker, new_domain, row, ticks_in, unless}
use Rattle.nova_model.specs.Running.{is_revoked}
use Rattle.nova_model.specs.State.{KernelState, budget_at, context, pd_of, processor_of}
use Rattle.nova_model.specs.declared.deed.Deed.{Deed}
use Rattle.nova_model.specs.declared.deed.Deed.TheVariants as deeds
use Rattle.nova_model.specs.declared.new_object.NewObject.{NewObject}
use Rattle.nova_model.specs.declared.new_object.NewObject.TheVariants as new
use Rattle.law_forest.proofs.Walk.{IfDone, deed_holds, sm_ctrl_holds}
use Rattle.law_turns.specs.Asked.{AsksSchedule, HoldsAt}
use Rattle.law_turns.proofs.Asking.{made_as_asked, maker_is, makes_each}
use Rattle.law_turns.proofs.Holding.{free_from, idle_from}
use Rattle.law_turns.proofs.Rows.{call_holds, named_holds, reply_holds}
use Rattle.law_forest.proofs.Allowed.{pd_there as domain_there}
use Rattle.law_integrity.specs.Births.{Asks, AsksOpening, MayMakeAt, call_for}
use Rattle.law_integrity.proofs.Selected.{named_by}

-- WHAT REGISTERS SAY

abbrev Reads : Registers → Call → Type 0
Reads r (asks.CreatePd target pd first) = (target ≡ reg r 10) × (target < 2 ^ 20) × (pd ≡ reg r 11) × (pd < 2 ^ 20) × (readable (meaning_of (reg r 12)) ≡ Some first)
Reads r (asks.CreateEc target pd cpu kind sp event) =
    (target ≡ reg r 10) × (target < 2 ^ 20) × (pd ≡ reg r 11) × (pd < 2 ^ 20) × (cpu ≡ reg r 12 % 2 ^ 8) × (kind_of (reg r 12 / 2 ^ 8) ≡ Some kind) × (sp ≡ reg r 13)
    × (event ≡ reg r 14) × (event ≤ 2 ^ 20 - 9)
Reads r (asks.CreatePt target pd ec mtd ip) =
    (target ≡ reg r 10) × (target < 2 ^ 20) × (pd ≡ reg r 11) × (pd < 2 ^ 20) × (ec ≡ reg r 12) × (ec < 2 ^ 20) × (mtd.0 ≡ reg r 13) × (mtd.0 ≤ 15) × (ip ≡ reg r 14) × (ip % 4 ≡ 0)
Reads r (asks.CreateSc target pd ec quantum priority) = (target ≡ reg r 10) × (target < 2 ^ 20) × (pd ≡ reg r 11) × (pd < 2 ^ 20)
Reads r (asks.CreateSm target pd count) = (target ≡ reg r 10) × (target < 2 ^ 20) × (pd ≡ reg r 11) × (pd < 2 ^ 20) × (count ≡ reg r 12)
Reads r other = Unit {0}

pd_reads : (r : Registers) → IfSome (create_pd_row r) (Reads r)
pd_reads r = by_first (readable (meaning_of (reg r 12))) refl
  where
    by_first : (o : Option (Option (Range × Rights))) → readable (meaning_of (reg r 12)) ≡ o →
        IfSome (if is_selector (reg r 10) && is_selector (reg r 11) then option_map (λ first. asks.CreatePd (reg r 10) (reg r 11) first) o else None) (Reads r)
    by_first None is = grind (arith, nat_tests)
    by_first (Some first) is = grind (arith, nat_tests, is)

ec_reads : (r : Registers) → IfSome (create_ec_row r) (Reads r)
ec_reads r = by_kind (kind_of (reg r 12 / 2 ^ 8)) refl
  where
    by_kind : (o : Option EcKind) → kind_of (reg r 12 / 2 ^ 8) ≡ o →
        IfSome (if is_selector (reg r 10) && is_selector (reg r 11) && nat_le (reg r 14) (2 ^ 20 - 9)
        then option_map (λ kind. asks.CreateEc (reg r 10) (reg r 11) (reg r 12 % 2 ^ 8) kind (reg r 13) (reg r 14)) o
        else None) (Reads r)
    by_kind None is = grind (arith, nat_tests)
    by_kind (Some kind) is = grind (arith, nat_tests, is)

pt_reads : (r : Registers) → IfSome (create_pt_row r) (Reads r)
pt_reads r = grind (arith, nat_tests)

sc_reads : (r : Registers) → IfSome (create_sc_row r) (Reads r)
sc_reads r = grind (arith, nat_tests)

sm_reads : (r : Registers) → IfSome (create_sm_row r) (Reads r)
sm_reads r = grind (arith, nat_tests)

call_reads : (r : Registers) (c : Call) → call_of r ≡ Ok c → Reads r c
call_reads r c is = by_call c (read_in_row r c is)
  where
    by_call : (c : Call) → slice_get (rows r) (number_of c) ≡ Some (Some c) → Reads r c
    by_call (asks.CreatePd target pd first) at = holds_by_row (Reads r) (create_pd_row r) _ at (pd_reads r)
    by_call (asks.CreateEc target pd cpu kind sp event) at = holds_by_row (Reads r) (create_ec_row r) _ at (ec_reads r)
    by_call (asks.CreateSc target pd ec quantum priority) at = holds_by_row (Reads r) (create_sc_row r) _ at (sc_reads r)
    by_call (asks.CreatePt target pd ec mtd ip) at = holds_by_row (Reads r) (create_pt_row r) _ at (pt_reads r)
    by_call (asks.CreateSm target pd count) at = holds_by_row (Reads r) (create_sm_row r) _ at (sm_reads r)
    by_call other at = tt

-- WHAT IS MADE WAS ASKED FOR

abbrev Found : KernelState → ℕ → Registers → Deed → Type 0
Found k domain r (deeds.Makes call target (new.Sc ec cpu priority quantum)) = Unit {0}
Found k domain r (deeds.Makes call target made) = (call ≡ call_for made) × Asks k domain r target made
Found k domain r (deeds.Opens target number) = AsksOpening k domain r target
Found k domain r other = Unit {0}

may_make : (k : KernelState) (domain : ℕ) (r : Registers) (target pd owner : ℕ) → target ≡ reg r 10 → target < 2 ^ 20 → pd ≡ reg r 11 → pd < 2 ^ 20 → maker k domain target pd ≡ Ok owner →
    is_revoked k domain target ≡ false → MayMakeAt k domain r target owner
may_make k domain r target pd owner place below at small makes idle =
    let m = maker_is k domain target pd owner makes in
    let creator = named_by k domain is_pd create_right pd owner m.named in record {
      place = place;
      below = below;
      free = free_from k domain target m.free;
      idle = idle_from k domain target idle;
      creator = subst (λ (s : ℕ). HoldsAt k domain s create_right owner) at (creator.holds small);
      opened = domain_there (slice_get k.objects owner) creator.object;
    }

context_found : (k : KernelState) (domain : ℕ) (r : Registers) (target pd owner cpu : ℕ) (kind : EcKind) (sp event : ℕ) → reg r 17 ≡ CREATE_EC → Reads r (asks.CreateEc target pd cpu kind sp event) →
    MayMakeAt k domain r target owner → IfDone (λ m. Found k domain r (deeds.Makes CREATE_EC target m)) (unless (not (nat_lt cpu k.cpus)) BadCpu (Ok (new.Ec owner cpu kind sp event)))
context_found k domain r target pd owner cpu kind sp event number reads may = by_test (nat_lt cpu k.cpus) refl
  where
    by_test : (t : Bool) → nat_lt cpu k.cpus ≡ t → IfDone (λ m. Found k domain r (deeds.Makes CREATE_EC target m)) (unless (not t) BadCpu (Ok (new.Ec owner cpu kind sp event)))
    by_test true is = (
      refl,
      (
        owner,
        may,
        record {
          call = number;
          domain = refl;
          processor = reads.4;
          there = grind (arith, nat_tests);
          kind_is = reads.5;
          stack = reads.6;
          base = reads.7;
          most = reads.8;
        },
      ),
    )
    by_test false is = tt

portal_found : (k : KernelState) (domain : ℕ) (r : Registers) (target pd owner whom : ℕ) (mtd : Mtd) (ip : ℕ) → reg r 17 ≡ CREATE_PT → Reads r (asks.CreatePt target pd whom mtd ip) →
    MayMakeAt k domain r target owner →
    IfDone (λ m. Found k domain r (deeds.Makes CREATE_PT target m)) (and_then (named k domain is_local bind_portal_right whom) (λ handler. Ok (new.Pt handler mtd.0 ip)))
portal_found k domain r target pd owner whom mtd ip number reads may = by_name (named k domain is_local bind_portal_right whom) refl
  where
    by_name : (o : Result ℕ Status) → named k domain is_local bind_portal_right whom ≡ o →
        IfDone (λ m. Found k domain r (deeds.Makes CREATE_PT target m)) (and_then o (λ handler. Ok (new.Pt handler mtd.0 ip)))
    by_name (Err status) is = tt
    by_name (Ok handler) is =
        let its = named_by k domain is_local bind_portal_right whom handler is in (
          refl,
          (
            owner,
            may,
            record {
              call = number;
              binder = subst (λ (s : ℕ). HoldsAt k domain s bind_portal_right handler) reads.4 (its.holds reads.5);
              handler = its.object;
              descriptor = reads.6;
              groups = reads.7;
              begins = reads.8;
              aligned = reads.9;
            },
          ),
        )

schedule_found : (k : KernelState) (domain : ℕ) (r : Registers) (target quantum priority : ℕ) (o : Result ℕ Status) →
    IfDone (λ m. Found k domain r (deeds.Makes CREATE_SC target m)) (and_then o (λ ec. unless (is_scheduled k ec) BadCap (Ok (new.Sc ec (processor_of k ec) priority quantum))))
schedule_found k domain r target quantum priority (Err status) = tt
schedule_found k domain r target quantum priority (Ok ec) = by_test (is_scheduled k ec)
  where
    by_test : (t : Bool) → IfDone (λ m. Found k domain r (deeds.Makes CREATE_SC target m)) (unless t BadCap (Ok (new.Sc ec (processor_of k ec) priority quantum)))
    by_test true = tt
    by_test false = tt

-- a protection domain, with a first range or without
word_reads : (w : ℕ) (first : Option (Range × Rights)) → readable (meaning_of w) ≡ Some first → meaning_of w ≡ Ok first
word_reads w first is = by_meaning (meaning_of w) is
  where
    by_meaning : (o : Result (Option (Range × Rights)) WordFault) → readable o ≡ Some first → o ≡ Ok first
    by_meaning (Ok read) g = ap (λ (x : Option (Range × Rights)). Ok x) (same_Some read first g)
    by_meaning (Err fault) g = absurd (cc)

domain_found : (k : KernelState) (domain : ℕ) (r : Registers) (target pd : ℕ) (first : Option (Range × Rights)) → reg r 17 ≡ CREATE_PD → Reads r (asks.CreatePd target pd first) →
    IfDone (Found k domain r) (create_pd k domain target pd first)
domain_found k domain r target pd first number reads = by_owner (maker k domain target pd) refl (is_revoked k domain target) refl
  where
    by_first : (owner : ℕ) (f : Option (Range × Rights)) → readable (meaning_of (reg r 12)) ≡ Some f → MayMakeAt k domain r target owner → Found k domain r (new_domain k target f)
    by_first owner None is may = (refl, (owner, may, (number, word_reads (reg r 12) None is)))
    by_first owner (Some range) is may = (owner, may, number, (range, word_reads (reg r 12) (Some range) is))

    by_owner : (o : Result ℕ Status) → maker k domain target pd ≡ o → (t : Bool) → is_revoked k domain target ≡ t →
        IfDone (Found k domain r) (and_then o (λ owner. unless t Busy (Ok (new_domain k target first))))
    by_owner (Err status) is t idle = tt
    by_owner (Ok owner) is true idle = tt
    by_owner (Ok owner) is false idle = by_first owner first reads.4 (may_make k domain r target pd owner reads.0 reads.1 reads.2 reads.3 is idle)

row_found : (k : KernelState) (ec domain : ℕ) (r : Registers) (c : Call) → call_of r ≡ Ok c → IfDone (Found k domain r) (row k ec domain c)
row_found k ec domain r (asks.Call portal flag) is = call_holds (Found k domain r) k ec domain portal flag (λ pt sends. tt) (λ pt helps. tt)
row_found k ec domain r asks.Reply is = reply_holds (Found k domain r) k ec (λ caller mark replies. tt)
row_found k ec domain r (asks.CreatePd target pd first) is =
    domain_found k domain r target pd first (sym (read_numbered r (asks.CreatePd target pd first) is)) (call_reads r (asks.CreatePd target pd first) is)
row_found k ec domain r (asks.CreateEc target pd cpu kind sp event) is =
    let reads = call_reads r (asks.CreateEc target pd cpu kind sp event) is in
    makes_each (Found k domain r) k domain CREATE_EC target pd _
    (λ owner m idle. context_found k domain r target pd owner cpu kind sp event (sym (read_numbered r (asks.CreateEc target pd cpu kind sp event) is)) reads
    (may_make k domain r target pd owner reads.0 reads.1 reads.2 reads.3 m idle))
row_found k ec domain r (asks.CreateSc target pd its quantum priority) is =
    makes_each (Found k domain r) k domain CREATE_SC target pd _
    (λ owner m idle. schedule_found k domain r target quantum priority _)
row_found k ec domain r (asks.CreatePt target pd handler mtd ip) is =
    let reads = call_reads r (asks.CreatePt target pd handler mtd ip) is in
    makes_each (Found k domain r) k domain CREATE_PT target pd _
    (λ owner m idle. portal_found k domain r target pd owner handler mtd ip (sym (read_numbered r (asks.CreatePt target pd handler mtd ip) is)) reads
    (may_make k domain r target pd owner reads.0 reads.1 reads.2 reads.3 m idle))
row_found k ec domain r (asks.CreateSm target pd count) is =
    let reads = call_reads r (asks.CreateSm target pd count) is in
    makes_each (Found k domain r) k domain CREATE_SM target pd (λ o. Ok (new.Sm count))
    (λ owner m idle. (refl, (owner, may_make k domain r target pd owner reads.0 reads.1 reads.2 reads.3 m idle, (sym (read_numbered r (asks.CreateSm target pd count) is), reads.4))))
row_found k ec domain r (asks.EcCtrl other) is = named_holds (Found k domain r) (named k domain is_ec control_right other) (λ n. deeds.Recalls n) (λ n. tt)
row_found k ec domain r (asks.ScCtrl sc) is = named_holds (Found k domain r) (named k domain is_sc control_right sc) (λ n. deeds.Tells SC_CTRL (ticks_in (budget_at k n))) (λ n. tt)
row_found k ec domain r (asks.PtCtrl pt identifier) is = named_holds (Found k domain r) (named k domain is_pt control_right pt) (λ n. deeds.Names n identifier) (λ n. tt)
row_found k ec domain r (asks.SmCtrl sm action) is =
    sm_ctrl_holds (Found k domain r) k ec domain sm action (λ n whom names wakes. tt) (λ n names answers. tt) (λ n until names answers late. tt)
row_found k ec domain r other is = tt

deed_found : (k : KernelState) (ec : ℕ) → Found k (pd_of k ec) (context k ec).regs (deed k ec)
deed_found k ec =
    deed_holds (Found k (pd_of k ec) (context k ec).regs) k ec tt
    (record {
      steps = tt;
      raises = λ reason q0 q1. tt;
      dies = λ reason q0. tt;
      refuses = λ number status. tt;
      waits = λ pt reason q0 q1 is. tt;
      sends = λ pt reason q0 q1 is. tt;
      aborts = λ handler is. tt;
      removes = λ range own leaf is next. tt;
      returns = λ range own is next. tt;
      rows = λ asks c is. row_found k ec (pd_of k ec) (context k ec).regs c is;
    })
    (record { gives = λ d x g. tt; skips = λ d reason place is. tt; finishes = λ v end answer present is. tt })

schedule_asked : (k : KernelState) (domain : ℕ) (r : Registers) (target ec cpu priority quantum : ℕ) → AsksSchedule k domain r target ec cpu priority quantum →
    Asks k domain r target (new.Sc ec cpu priority quantum)
schedule_asked k domain r target ec cpu priority quantum a =
    (a.owner, record { place = sym a.place; below = a.below; free = a.free; idle = a.idle; creator = a.creator; opened = a.opened }, a)

pub made_asked : (k : KernelState) (caller call target : ℕ) (made : NewObject) → deed k caller ≡ deeds.Makes call target made →
    (call ≡ call_for made) × Asks k (pd_of k caller) (context k caller).regs target made
made_asked k caller call target (new.Sc ec cpu priority quantum) is =
    let own = made_as_asked k caller call target ec cpu priority quantum is in
    (own.0, schedule_asked k (pd_of k caller) (context k caller).regs target ec cpu priority quantum own.1)
made_asked k caller call target new.Pd is = subst (Found k (pd_of k caller) (context k caller).regs) is (deed_found k caller)
made_asked k caller call target (new.Ec pd cpu kind sp event) is = subst (Found k (pd_of k caller) (context k caller).regs) is (deed_found k caller)
made_asked k caller call target (new.Pt ec mtd ip) is = subst (Found k (pd_of k caller) (context k caller).regs) is (deed_found k caller)
made_asked k caller call target (new.Sm count) is = subst (Found k (pd_of k caller) (context k caller).regs) is (deed_found k caller)

pub opening_asked : (k : KernelState) (caller target number : ℕ) → deed k caller ≡ deeds.Opens target number → AsksOpening k (pd_of k caller) (context k caller).regs target
opening_asked k caller target number is = subst (Found k (pd_of k caller) (context k caller).regs) is (deed_found k caller)
