-- What a deed wants of transfers: whose execution context gives or doesn't, and where it opens a protection domain, the range that it was
-- asked to give.
use Rattle.std.proofs.Common.{◌≡◌, ℕ, ◌+◌, length, refl, ap, subst}
use Rattle.std.specs.Prelude.{Bool, true, false, ◌&&◌, not, nat_lt, if◌then◌else◌, slice_get, Option, Some, None, IsSome, IfSome, option_map, Result, Ok, Err}
use Rattle.rv_model.specs.Registers.{Registers, reg}
use Rattle.nova_calls.specs.Hypercalls.{call_of, create_pd_row, is_selector, readable, rows}
use Rattle.nova_calls.specs.Numbers.{number_of}
use Rattle.nova_calls.specs.declared.call.Call.{Call}
use Rattle.nova_calls.specs.declared.call.Call.TheVariants as asks
use Rattle.nova_calls.specs.declared.numbers.TheConstants.{CREATE_EC, CREATE_SC, CREATE_PT, CREATE_SM, SC_CTRL}
use Rattle.nova_calls.proofs.Numbered.{holds_by_row, read_in_row}
use Rattle.nova_range.specs.RangeWords.{meaning_of}
use Rattle.nova_range.specs.declared.range.Range.{Range}
use Rattle.nova_range.specs.declared.rights.Rights.{Rights}
use Rattle.nova_range.specs.declared.word.WordFault.{WordFault}
use Rattle.nova_model.specs.Capabilities.{is_ec, is_sc, is_pt, named, control_right}
use Rattle.nova_model.specs.Calls.{admitted, exit_admitted}
use Rattle.nova_model.specs.Deeds.{deed, deed_in}
use Rattle.nova_model.specs.Deliveries.{delivery, delivers, given_to, sequel_of, taken_from}
use Rattle.nova_model.specs.Edges.{state_in, is_giving}
use Rattle.nova_model.specs.Hypercalls.{new_domain, row, ticks_in}
use Rattle.nova_model.specs.Portals.{handler_of}
use Rattle.nova_model.specs.Semaphores.{semaphore, woken}
use Rattle.nova_model.specs.State.{KernelState, budget_at, context, pd_of, transfer}
use Rattle.nova_model.specs.Transfers.{read_as}
use Rattle.nova_model.specs.declared.context.State.{State}
use Rattle.nova_model.specs.declared.context.State.TheVariants.{Parked, Granting, Replying}
use Rattle.nova_model.specs.declared.admit.Admit.TheVariants.{Send}
use Rattle.nova_model.specs.declared.admit.ExitAdmit.TheVariants as exit
use Rattle.nova_model.specs.declared.context.Mark.{Mark}
use Rattle.nova_model.specs.declared.transfer.Delivery.{Delivery}
use Rattle.nova_model.specs.declared.transfer.Sequel.{Sequel}
use Rattle.nova_model.specs.declared.transfer.Sequel.TheVariants as sequel
use Rattle.nova_model.specs.declared.deed.Deed.{Deed}
use Rattle.nova_model.specs.declared.deed.Deed.TheVariants.{Rests, Sends, Recalls, Tells, Names, Opens, Gives, Skips, Finishes, Calls, Replies, Ups}
use Rattle.nova_model.specs.declared.new_object.NewObject.TheVariants.{Sm}
use Rattle.nova_ec.proofs.Admitted.{call_sent, exit_sent}
use Rattle.law_forest.proofs.Walk.{IfDone, Delivers, delivered_holds, own_holds, sm_ctrl_holds}
use Rattle.law_turns.proofs.Rows.{call_holds, makes_hold, named_holds, reply_holds, create_pd_holds}

-- the word in x12 reads as a range
abbrev pub HasRange : Registers → Type 0
HasRange r = IsSome (read_as (meaning_of (reg r 12)))

-- a reply goes to the caller that is served
abbrev pub GoesTo : KernelState → ℕ → Sequel → Type 0
GoesTo k ec (sequel.Replied caller mark) = (context k ec).caller ≡ Some (caller, mark)
GoesTo k ec other = Unit {0}

abbrev pub Wants : KernelState → ℕ → Deed → Type 0
Wants k ec Rests = delivery k ec (context k ec).state ≡ None
Wants k ec (Opens target domain) = (is_giving (context k ec).state ≡ false) × (domain ≡ length k.objects) × HasRange (context k ec).regs
Wants k ec (Gives child cursor) = is_giving (context k ec).state ≡ true
Wants k ec (Skips reason place cursor) = is_giving (context k ec).state ≡ true
Wants k ec (Finishes item end words after) = (is_giving (context k ec).state ≡ true) × GoesTo k ec after
Wants k ec (Calls handler ip identifier items) = (is_giving (context k ec).state ≡ false) × (state_in k.contexts handler ≡ Some Parked)
Wants k ec (Replies caller mark items) = (is_giving (context k ec).state ≡ false) × ((context k ec).caller ≡ Some (caller, mark))
Wants k ec (Sends handler ip identifier mtd reason q0 q1) = (is_giving (context k ec).state ≡ false) × (state_in k.contexts handler ≡ Some Parked)
Wants k ec (Ups sm whom) = (is_giving (context k ec).state ≡ false) × (woken (semaphore k.semaphores sm) ≡ Ok whom)
Wants k ec other = is_giving (context k ec).state ≡ false

-- a part of an item, or the end of one
abbrev pub is_of_item : Deed → Bool
is_of_item (Gives child cursor) = true
is_of_item (Skips reason place cursor) = true
is_of_item (Finishes item end words after) = true
is_of_item other = false

-- what neither is one nor nothing
abbrev pub is_apart : Deed → Bool
is_apart Rests = false
is_apart d = not (is_of_item d)

-- is of a context that doesn't give
pub wants_quiet : (k : KernelState) (ec : ℕ) (d : Deed) → is_apart d ≡ true → Wants k ec d → is_giving (context k ec).state ≡ false
wants_quiet k ec Rests apart wants = absurd cc
wants_quiet k ec (Gives child cursor) apart wants = absurd cc
wants_quiet k ec (Skips reason place cursor) apart wants = absurd cc
wants_quiet k ec (Finishes item end words after) apart wants = absurd cc
wants_quiet k ec (Opens target domain) apart wants = wants.0
wants_quiet k ec (Calls handler ip identifier items) apart wants = wants.0
wants_quiet k ec (Replies caller mark items) apart wants = wants.0
wants_quiet k ec (Sends handler ip identifier mtd reason q0 q1) apart wants = wants.0
wants_quiet k ec (Ups sm whom) apart wants = wants.0
wants_quiet k ec other apart wants = wants

-- WHAT A CALL WAS READ FROM

-- a call that makes a protection domain and gives a range
abbrev HasRangeFor : Registers → Call → Type 0
HasRangeFor r (asks.CreatePd target pd (Some range)) = HasRange r
HasRangeFor r other = Unit {0}

abbrev Row : Registers → Option Call → Type 0
Row r o = IfSome o (HasRangeFor r)

row_if : (r : Registers) (test : Bool) (o : Option Call) → Row r o → Row r (if test then o else None)
row_if r true o h = h
row_if r false o h = tt

create_pd_range : (r : Registers) (target pd : ℕ) (m : Result (Option (Range × Rights)) WordFault) → meaning_of (reg r 12) ≡ m →
    Row r (option_map (λ first. asks.CreatePd target pd first) (readable m))
create_pd_range r target pd (Ok None) is = tt
create_pd_range r target pd (Ok (Some range)) is = rw is refl
create_pd_range r target pd (Err fault) is = tt

call_range : (r : Registers) (c : Call) → call_of r ≡ Ok c → HasRangeFor r c
call_range r c is = by_call c (read_in_row r c is)
  where
    by_call : (c : Call) → slice_get (rows r) (number_of c) ≡ Some (Some c) → HasRangeFor r c
    by_call (asks.CreatePd target pd first) at =
        holds_by_row (HasRangeFor r) (create_pd_row r) _ at
        (row_if r (is_selector (reg r 10) && is_selector (reg r 11)) _ (create_pd_range r (reg r 10) (reg r 11) (meaning_of (reg r 12)) refl))
    by_call other at = tt

-- DECIDING

new_domain_wants : (k : KernelState) (ec target : ℕ) (first : Option (Range × Rights)) → is_giving (context k ec).state ≡ false →
    (IsSome first → HasRange (context k ec).regs) → Wants k ec (new_domain k target first)
new_domain_wants k ec target None rests range = rests
new_domain_wants k ec target (Some first) rests range = (rests, refl, range refl)

first_range : (r : Registers) (target pd : ℕ) (first : Option (Range × Rights)) → HasRangeFor r (asks.CreatePd target pd first) → IsSome first → HasRange r
first_range r target pd None h is = absurd (cc)
first_range r target pd (Some range) h is = h

-- a call is sent to a handler that is parked
admits_parked : (k : KernelState) (ec handler : ℕ) (flag : Bool) → admitted k.contexts ec handler flag ≡ Send → state_in k.contexts handler ≡ Some Parked
admits_parked k ec handler flag is = ((call_sent k.contexts ec handler flag).0 is).1

-- and so is an exit
exit_parked : (k : KernelState) (ec handler : ℕ) → exit_admitted k.contexts ec handler ≡ exit.Sends → state_in k.contexts handler ≡ Some Parked
exit_parked k ec handler is = ((exit_sent k.contexts ec handler).0 is).1

row_wants : (k : KernelState) (ec domain : ℕ) (c : Call) → is_giving (context k ec).state ≡ false → HasRangeFor (context k ec).regs c → IfDone (Wants k ec) (row k ec domain c)
row_wants k ec domain (asks.Call portal flag) rests range =
    call_holds (Wants k ec) k ec domain portal flag (λ pt is. (rests, admits_parked k ec (handler_of k pt) flag is.admits)) (λ pt is. rests)
row_wants k ec domain asks.Reply rests range = reply_holds (Wants k ec) k ec (λ caller mark is. (rests, is.serves))
row_wants k ec domain (asks.CreatePd target pd first) rests range =
    create_pd_holds (Wants k ec) k domain target pd first
    (new_domain_wants k ec target first rests (first_range (context k ec).regs target pd first range))
row_wants k ec domain (asks.CreateEc target pd cpu kind sp event) rests range =
    makes_hold (Wants k ec) CREATE_EC target (λ made. rests) k domain pd _
row_wants k ec domain (asks.CreateSc target pd its quantum priority) rests range = makes_hold (Wants k ec) CREATE_SC target (λ made. rests) k domain pd _
row_wants k ec domain (asks.CreatePt target pd handler mtd ip) rests range = makes_hold (Wants k ec) CREATE_PT target (λ made. rests) k domain pd _
row_wants k ec domain (asks.CreateSm target pd count) rests range = makes_hold (Wants k ec) CREATE_SM target (λ made. rests) k domain pd (λ o. Ok (Sm count))
row_wants k ec domain (asks.EcCtrl other) rests range = named_holds (Wants k ec) (named k domain is_ec control_right other) (λ n. Recalls n) (λ n. rests)
row_wants k ec domain (asks.ScCtrl sc) rests range =
    named_holds (Wants k ec) (named k domain is_sc control_right sc) (λ n. Tells SC_CTRL (ticks_in (budget_at k n))) (λ n. rests)
row_wants k ec domain (asks.PtCtrl pt identifier) rests range =
    named_holds (Wants k ec) (named k domain is_pt control_right pt) (λ n. Names n identifier) (λ n. rests)
row_wants k ec domain (asks.SmCtrl sm action) rests range =
    sm_ctrl_holds (Wants k ec) k ec domain sm action (λ n whom is wakes. (rests, wakes)) (λ n is answers. rests) (λ n until is answers till. rests)
row_wants k ec domain other rests range = rests

-- an item ends so
delivery_goes : (k : KernelState) (ec : ℕ) (s : State) (v : Delivery) → delivery k ec s ≡ Some v → GoesTo k ec v.last
delivery_goes k ec (Granting (Some new)) v is = let last : sequel.Opened ≡ v.last = cc in subst (GoesTo k ec) last tt
delivery_goes k ec (Granting None) v is = by_caller (context k ec).caller is
  where
    by_caller : (o : Option (ℕ × Mark)) → taken_from k ec (transfer k ec).item o ≡ Some v → GoesTo k ec v.last
    by_caller None e = absurd (cc)
    by_caller (Some (caller, mark)) e = let last : sequel.Taken ≡ v.last = cc in subst (GoesTo k ec) last tt
delivery_goes k ec Replying v is = by_caller (context k ec).caller refl is
  where
    by_caller : (o : Option (ℕ × Mark)) → (context k ec).caller ≡ o → given_to k ec (transfer k ec).item o ≡ Some v → GoesTo k ec v.last
    by_caller None at e = absurd (cc)
    by_caller (Some (caller, mark)) at e = let last : sequel.Replied caller mark ≡ v.last = cc in subst (GoesTo k ec) last at
delivery_goes k ec other v is = absurd (cc)

sequel_goes : (k : KernelState) (ec item : ℕ) (v : Delivery) → GoesTo k ec v.last → GoesTo k ec (sequel_of v item)
sequel_goes k ec item v last = by_test (nat_lt (item + 1) v.items)
  where
    by_test : (t : Bool) → GoesTo k ec (if t then sequel.Item else v.last)
    by_test true = tt
    by_test false = last

gives_wants : (k : KernelState) (ec : ℕ) → is_giving (context k ec).state ≡ true → Delivers (Wants k ec) k ec
gives_wants k ec gives = record {
  gives = λ d x g. gives;
  skips = λ d reason place is. gives;
  finishes = λ v end answer present is. (gives, sequel_goes k ec (transfer k ec).item v (delivery_goes k ec (context k ec).state v present));
}

delivers_wants : (k : KernelState) (ec : ℕ) → is_giving (context k ec).state ≡ true → (o : Option Delivery) → delivery k ec (context k ec).state ≡ o →
    Wants k ec (delivers k (transfer k ec) o)
delivers_wants k ec gives None present = present
delivers_wants k ec gives (Some v) present = delivered_holds (Wants k ec) k ec v present (gives_wants k ec gives)

-- of each
none_there : (k : KernelState) (ec : ℕ) (s : State) → is_giving s ≡ false → delivery k ec s ≡ None
none_there k ec (Granting new) rests = absurd (cc)
none_there k ec Replying rests = absurd (cc)
none_there k ec other rests = refl

own_wants : (k : KernelState) (ec : ℕ) → is_giving (context k ec).state ≡ false → Wants k ec (deed k ec)
own_wants k ec rests = own_holds (Wants k ec) k ec rests (none_there k ec (context k ec).state rests) (record {
  steps = rests;
  raises = λ reason q0 q1. rests;
  dies = λ reason q0. rests;
  refuses = λ number status. rests;
  waits = λ pt reason q0 q1 is. rests;
  sends = λ pt reason q0 q1 is. (rests, exit_parked k ec (handler_of k pt) is.admits);
  aborts = λ handler is. rests;
  removes = λ range own leaf is next. rests;
  returns = λ range own is next. rests;
  rows = λ asks c is. row_wants k ec (pd_of k ec) c rests (call_range (context k ec).regs c is);
})

giving_wants : (k : KernelState) (ec : ℕ) → is_giving (context k ec).state ≡ true → Wants k ec (deed k ec)
unfolding deed
giving_wants k ec gives = by_state (context k ec).state refl gives
  where
    by_state : (s : State) → (context k ec).state ≡ s → is_giving s ≡ true → Wants k ec (deed_in k ec s)
    by_state (Granting new) is some = delivers_wants k ec gives (delivery k ec (Granting new)) (ap (delivery k ec) is)
    by_state Replying is some = delivers_wants k ec gives (delivery k ec Replying) (ap (delivery k ec) is)
    by_state other is some = absurd (cc)

pub deed_wants : (k : KernelState) (ec : ℕ) → Wants k ec (deed k ec)
deed_wants k ec = by_test (is_giving (context k ec).state) refl
  where
    by_test : (t : Bool) → is_giving (context k ec).state ≡ t → Wants k ec (deed k ec)
    by_test false is = own_wants k ec is
    by_test true is = giving_wants k ec is
