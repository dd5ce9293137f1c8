-- What is decided over a table of execution contexts that differs in registers alone: the same, but for a context that acts by registers that differ.
use Rattle.std.proofs.Common.{◌≡◌, ℕ, ◌≤◌, ◌-◌, List, [], ◌∷◌, refl, sym, ap, ap₂, ◌∙◌, subst, arith, inl, inr}
use Rattle.std.specs.Prelude.{Bool, true, false, ◌⊎◌, ◌==◌, ◌&&◌, not, nat_le, Option, Some, None, Result, Ok, Err, if◌then◌else◌}
use Rattle.std.proofs.lemmas.Bool.{and_parts}
use Rattle.std.proofs.lemmas.Bool.Decides.{nat_tests}
use mathlib.Core.Path.{fun_ext}
use Rattle.rv_model.specs.Registers.{Registers, reg}
use Rattle.rv_model.specs.Step.{Once, Raised, Went, environment_call, one}
use Rattle.nova_calls.specs.Hypercalls.{call_of}
use Rattle.nova_calls.specs.declared.call.Call.{Call}
use Rattle.nova_calls.specs.declared.call.Call.TheVariants as asks
use Rattle.nova_calls.specs.declared.call.SmAction.TheVariants as act
use Rattle.nova_calls.specs.declared.numbers.TheConstants.{CREATE_EC, CREATE_PT, CREATE_SC, CREATE_SM}
use Rattle.nova_range.specs.Mtds.{names}
use Rattle.nova_range.specs.RangeWords.{meaning_of}
use Rattle.nova_range.specs.declared.mtd.Mtd.{Mtd}
use Rattle.nova_range.specs.declared.mtd.TheConstants.Mtd.{HIGH, LOW, PC}
use Rattle.nova_range.specs.declared.range.Range.{Range}
use Rattle.nova_range.specs.declared.rights.Rights.{Rights}
use Rattle.nova_range.specs.declared.status.Status.{Status}
use Rattle.nova_range.specs.declared.status.Status.TheVariants.{BadPar, Busy}
use Rattle.nova_utcb.specs.Messages.{counted_items, delegation_window, exit_word, exited, filled, has_counts, has_items, item_at, ruled, translation_window}
use Rattle.nova_model.specs.AddressSpaces.{AddressSpace, space, space_through}
use Rattle.nova_model.specs.Calls.{admitted, exit_admitted}
use Rattle.nova_model.specs.Capabilities.{call_right, is_pt, named}
use Rattle.nova_model.specs.Deeds.{address_space, deed, deed_in, instruction, mark_in, ready, removes, signalled, stepping}
use Rattle.nova_model.specs.Deliveries.{answered_by, delegated, delivery, delivery_between, delivers, first_delivery, flag, given_to, part_deed, taken_from, told_by, whole_of}
use Rattle.nova_model.specs.Exits.{exit_at, exit_portal, exit_to, exits, raised_exit}
use Rattle.nova_model.specs.Hypercalls.{and_then, called, hypercall, maker, makes, new_domain, or_refuses, replied, row, unless}
use Rattle.nova_model.specs.Portals.{descriptor, handler_of, identifier, ip_of}
use Rattle.nova_model.specs.Revokes.{next_leaf}
use Rattle.nova_model.specs.State.{Contexts, KernelState, context, ec_of, is_local_thread, is_thread, message, pd_of, transfer}
use Rattle.nova_model.specs.Transfers.{Part, job_of, next_part, read_as}
use Rattle.nova_model.specs.Translations.{translated}
use Rattle.nova_model.specs.declared.admit.Admit.{Admit}
use Rattle.nova_model.specs.declared.admit.Admit.TheVariants.{Refused, Help, Send}
use Rattle.nova_model.specs.declared.admit.ExitAdmit.{ExitAdmit}
use Rattle.nova_model.specs.declared.admit.ExitAdmit.TheVariants as exit
use Rattle.nova_model.specs.declared.context.Mark.{Mark}
use Rattle.nova_model.specs.declared.context.State.{State}
use Rattle.nova_model.specs.declared.context.State.TheVariants.{Calling, Exiting, Granting, Helping, Ready, Replying, Revoking, Sending}
use Rattle.nova_model.specs.declared.deed.Deed.{Deed}
use Rattle.nova_model.specs.declared.deed.Deed.TheVariants as deeds
use Rattle.nova_model.specs.declared.delegation.Derivation.{Derivation}
use Rattle.nova_model.specs.declared.new_object.NewObject.{NewObject}
use Rattle.nova_model.specs.declared.new_object.NewObject.TheVariants as new
use Rattle.nova_model.specs.declared.transfer.Delivery.{Delivery}
use Rattle.nova_model.specs.declared.transfer.Job.{Job}
use Rattle.nova_model.specs.declared.transfer.Reason.{Reason}
use Rattle.nova_model.specs.declared.transfer.Sequel.{Sequel}
use Rattle.nova_model.specs.declared.transfer.Sequel.TheVariants as sequel
use Rattle.nova_model.specs.declared.transfer.Skip.{Skip}
use Rattle.nova_model.specs.declared.transfer.Transfer.{Transfer}
use Rattle.law_integrity.specs.Disclosure.{AreSameIn, AskSame, CallSame, ExitTellsSame, TellsSame}
use Rattle.law_integrity.specs.Rights.{Again, AtCall, IsAsking}
use Rattle.law_integrity.specs.Rightful.{IsStep}
use Rattle.law_integrity.proofs.Findings.{Found}
use Rattle.law_integrity.proofs.Rows.{call_found}
use Rattle.law_turns.proofs.Hypercalls.{next_same}
use Rattle.law_integrity.proofs.Masking.{AreMasked, ReadsSame, Words, admitted_same, busy_same, exit_admitted_same, over, revoked_same, words_in}

-- WHAT AN EXIT TELLS

if_same : (t : Bool) (a b c d : ℕ) → (t ≡ true → a ≡ b) → c ≡ d → (if t then a else c) ≡ (if t then b else d)
if_same true a b c d first second = first refl
if_same false a b c d first second = second

pub exited_same : (mtd : Mtd) (q0 q1 : ℕ) (r s : Registers) → AreSameIn mtd r s → (m : List ℕ) → exited mtd q0 q1 s m ≡ exited mtd q0 q1 r m
unfolding exited
exited_same mtd q0 q1 r s same m = ap (λ (rule : ℕ → ℕ → ℕ). ruled rule m) (fun_ext (λ i. fun_ext (λ stays. word_same i stays)))
  where
    filled_same : (group : Mtd) (a b : ℕ) → (names mtd group ≡ true → a ≡ b) → filled mtd group b ≡ filled mtd group a
    filled_same group a b h = if_same (names mtd group) b a 0 0 (λ is. sym (h is)) refl

    low_same : (i : ℕ) → (nat_le 9 i && nat_le i 23) ≡ true → filled mtd LOW (reg s (i - 8)) ≡ filled mtd LOW (reg r (i - 8))
    low_same i h =
        let parts = and_parts (nat_le 9 i) (nat_le i 23) h in
        let least = parts.0 in
        let last = parts.1 in
        let from : 9 ≤ i = grind (arith, nat_tests) in
        let to : i ≤ 23 = grind (arith, nat_tests) in
        filled_same LOW (reg r (i - 8)) (reg s (i - 8)) (λ is. same.low is (i - 8) (omega (arith, from)) (omega (arith, to)))

    high_same : (i : ℕ) → (nat_le 24 i && nat_le i 39) ≡ true → filled mtd HIGH (reg s (i - 8)) ≡ filled mtd HIGH (reg r (i - 8))
    high_same i h =
        let parts = and_parts (nat_le 24 i) (nat_le i 39) h in
        let least = parts.0 in
        let last = parts.1 in
        let from : 24 ≤ i = grind (arith, nat_tests) in
        let to : i ≤ 39 = grind (arith, nat_tests) in
        filled_same HIGH (reg r (i - 8)) (reg s (i - 8)) (λ is. same.high is (i - 8) (omega (arith, from)) (omega (arith, to)))

    word_same : (i stays : ℕ) → exit_word mtd q0 q1 s i stays ≡ exit_word mtd q0 q1 r i stays
    word_same i stays =
        if_same (i == 0) _ _ _ _ (λ h. refl) (if_same (i == 4) _ _ _ _ (λ h. refl) (if_same (i == 5) _ _ _ _ (λ h. refl) (if_same (i == 6) _ _ _ _ (λ h. refl)
        (if_same (i == 7) _ _ _ _ (λ h. filled_same PC r.pc s.pc same.pc) (if_same (i == 8) _ _ _ _ (λ h. refl)
        (if_same (nat_le 9 i && nat_le i 23) _ _ _ _ (low_same i) (if_same (nat_le 24 i && nat_le i 39) _ _ _ _ (high_same i) refl)))))))

-- HYPERCALLS

-- registers with these in x10 to x14 and x17
abbrev asking : ℕ → ℕ → ℕ → ℕ → ℕ → ℕ → Registers
asking a b c d e n = record { pc = 0; x = 0 ∷ 0 ∷ 0 ∷ 0 ∷ 0 ∷ 0 ∷ 0 ∷ 0 ∷ 0 ∷ 0 ∷ a ∷ b ∷ c ∷ d ∷ e ∷ 0 ∷ 0 ∷ n ∷ [] }

call_read : (r : Registers) → call_of r ≡ call_of (asking (reg r 10) (reg r 11) (reg r 12) (reg r 13) (reg r 14) (reg r 17))
unfolding call_of
call_read r = refl

call_same : (r s : Registers) → AskSame r s → call_of s ≡ call_of r
call_same r s same =
    call_read s
    ∙ ap (λ (n : ℕ). call_of (asking n (reg s 11) (reg s 12) (reg s 13) (reg s 14) (reg s 17))) (its 10 (omega arith) (omega arith))
    ∙ ap (λ (n : ℕ). call_of (asking (reg r 10) n (reg s 12) (reg s 13) (reg s 14) (reg s 17))) (its 11 (omega arith) (omega arith))
    ∙ ap (λ (n : ℕ). call_of (asking (reg r 10) (reg r 11) n (reg s 13) (reg s 14) (reg s 17))) (its 12 (omega arith) (omega arith))
    ∙ ap (λ (n : ℕ). call_of (asking (reg r 10) (reg r 11) (reg r 12) n (reg s 14) (reg s 17))) (its 13 (omega arith) (omega arith))
    ∙ ap (λ (n : ℕ). call_of (asking (reg r 10) (reg r 11) (reg r 12) (reg r 13) n (reg s 17))) (its 14 (omega arith) (omega arith))
    ∙ ap (λ (n : ℕ). call_of (asking (reg r 10) (reg r 11) (reg r 12) (reg r 13) (reg r 14) n)) (sym same.number)
    ∙ sym (call_read r)
  where
    its : (x : ℕ) → 10 ≤ x → x ≤ 14 → reg s x ≡ reg r x
    its x from to = sym (same.arguments x from to)

called_same : (k : KernelState) (cs : Contexts) (ms : Words) (ec pt : ℕ) → words_in ms ec ≡ message k ec → (a : Admit) → called (over k cs ms) ec pt a ≡ called k ec pt a
called_same k cs ms ec pt own (Refused status) = refl
called_same k cs ms ec pt own Help = refl
called_same k cs ms ec pt own Send = ap (λ (m : List ℕ). Ok (deeds.Calls (handler_of k pt) (ip_of k pt) (identifier k pt) (has_items m))) own

replied_same : (k : KernelState) (cs : Contexts) (ms : Words) (ec : ℕ) → words_in ms ec ≡ message k ec → (o : Option (ℕ × Mark)) → replied (over k cs ms) ec o ≡ replied k ec o
replied_same k cs ms ec own None = refl
replied_same k cs ms ec own (Some (caller, mark)) = ap (λ (m : List ℕ). Ok (deeds.Replies caller mark (has_items m))) own

domain_same : (k : KernelState) (cs : Contexts) (ms : Words) (target : ℕ) (o : Option (Range × Rights)) → new_domain (over k cs ms) target o ≡ new_domain k target o
domain_same k cs ms target None = refl
domain_same k cs ms target (Some range) = refl

makes_same : (k : KernelState) (cs : Contexts) (ms : Words) → AreMasked cs k.contexts → (domain call target pd : ℕ) (born : ℕ → Result NewObject Status) →
    makes (over k cs ms) domain call target pd born ≡ makes k domain call target pd born
makes_same k cs ms a domain call target pd born =
    ap (λ (t : Bool). and_then (maker k domain target pd) (λ owner. and_then (born owner) (λ made. unless t Busy (Ok (deeds.Makes call target made))))) (revoked_same k cs ms a domain target)

row_same : (k : KernelState) (cs : Contexts) (ms : Words) → AreMasked cs k.contexts → (ec : ℕ) → words_in ms ec ≡ message k ec → (domain : ℕ) (c : Call) → row (over k cs ms) ec domain c ≡ row k ec domain c
row_same k cs ms a ec own domain (asks.Call portal flag) =
    ap (λ (m : List ℕ). unless (not (has_counts m)) BadPar (and_then (named k domain is_pt call_right portal) (λ pt. called (over k cs ms) ec pt (admitted cs ec (handler_of k pt) flag)))) own
    ∙ ap (unless (not (has_counts (message k ec))) BadPar) (next_same (named k domain is_pt call_right portal) _ _
    (λ pt. called_same k cs ms ec pt own (admitted cs ec (handler_of k pt) flag) ∙ ap (called k ec pt) (admitted_same cs k.contexts a ec (handler_of k pt) flag)))
row_same k cs ms a ec own domain asks.Reply =
    ap₂ (λ (m : List ℕ) (r : Result Deed Status). unless (not (is_local_thread k ec)) BadPar (unless (not (has_counts m)) BadPar r)) own
    (ap (replied (over k cs ms) ec) (a.callers ec) ∙ replied_same k cs ms ec own (context k ec).caller)
row_same k cs ms a ec own domain (asks.CreatePd target pd first) =
    ap₂ (λ (t : Bool) (d : Deed). and_then (maker k domain target pd) (λ owner. unless t Busy (Ok d))) (revoked_same k cs ms a domain target) (domain_same k cs ms target first)
row_same k cs ms a ec own domain (asks.CreateEc target pd cpu kind sp event) = makes_same k cs ms a domain CREATE_EC target pd _
row_same k cs ms a ec own domain (asks.CreateSc target pd whose quantum priority) = makes_same k cs ms a domain CREATE_SC target pd _
row_same k cs ms a ec own domain (asks.CreatePt target pd handler mtd ip) = makes_same k cs ms a domain CREATE_PT target pd _
row_same k cs ms a ec own domain (asks.CreateSm target pd count) = makes_same k cs ms a domain CREATE_SM target pd (λ owner. Ok (new.Sm count))
row_same k cs ms a ec own domain (asks.SmCtrl sm act.Up) = refl
row_same k cs ms a ec own domain (asks.SmCtrl sm act.Down) = refl
row_same k cs ms a ec own domain (asks.SmCtrl sm (act.DownWithin ticks)) = refl
row_same k cs ms a ec own domain other = refl

hypercall_same : (k : KernelState) (cs : Contexts) (ms : Words) → AreMasked cs k.contexts → (ec : ℕ) → words_in ms ec ≡ message k ec → (domain : ℕ) (r : Registers) → hypercall (over k cs ms) ec domain r ≡ hypercall k ec domain r
hypercall_same k cs ms a ec own domain r = ap (or_refuses (reg r 17)) (next_same (call_of r) (row (over k cs ms) ec domain) (row k ec domain) (row_same k cs ms a ec own domain))

-- EXITS

to_same : (k : KernelState) (cs : Contexts) (ms : Words) (pt reason q0 q1 : ℕ) (a : ExitAdmit) → exit_to (over k cs ms) pt reason q0 q1 a ≡ exit_to k pt reason q0 q1 a
to_same k cs ms pt reason q0 q1 exit.Dies = refl
to_same k cs ms pt reason q0 q1 exit.Waits = refl
to_same k cs ms pt reason q0 q1 exit.Sends = refl

pub exits_same : (k : KernelState) (cs : Contexts) (ms : Words) → AreMasked cs k.contexts → (ec reason q0 q1 : ℕ) → exits (over k cs ms) ec reason q0 q1 ≡ exits k ec reason q0 q1
exits_same k cs ms a ec reason q0 q1 = by_portal (exit_portal k ec reason)
  where
    by_portal : (o : Result ℕ Status) → exit_at (over k cs ms) ec reason q0 q1 o ≡ exit_at k ec reason q0 q1 o
    by_portal (Err status) = refl
    by_portal (Ok pt) =
        to_same k cs ms pt reason q0 q1 (exit_admitted cs ec (handler_of k pt)) ∙ ap (exit_to k pt reason q0 q1) (exit_admitted_same cs k.contexts a ec (handler_of k pt))

-- ITEMS

delegated_same : (k : KernelState) (cs : Contexts) (ms : Words) → AreMasked cs k.contexts → (v : Delivery) (t : Transfer) (r : Result Job Skip) → delegated (over k cs ms) v t r ≡ delegated k v t r
delegated_same k cs ms a v t (Err skip) = refl
delegated_same k cs ms a v t (Ok j) = ap (λ (busy : Derivation → Bool). part_deed v t j (next_part busy k.delegations (record j { cursor = t.cursor }))) (busy_same k cs ms a)

delivers_same : (k : KernelState) (cs : Contexts) (ms : Words) → AreMasked cs k.contexts → (t : Transfer) (o p : Option Delivery) → o ≡ p → delivers (over k cs ms) t o ≡ delivers k t p
delivers_same k cs ms a t o p same = ap (delivers (over k cs ms) t) same ∙ by_delivery p
  where
    by_delivery : (o : Option Delivery) → delivers (over k cs ms) t o ≡ delivers k t o
    by_delivery None = refl
    by_delivery (Some v) =
        ap (λ (d : Deed). if flag v == 1 then d else answered_by v t (translated k.delegations.list v.range_word v.translations v.giver v.receiver))
        (delegated_same k cs ms a v t (job_of v.range_word v.second_word v.delegations v.giver v.receiver))

between_same : (k : KernelState) (cs : Contexts) (ms : Words) (from to item : ℕ) (told : Option ℕ) (last : Sequel) → words_in ms from ≡ message k from → words_in ms to ≡ message k to →
    delivery_between (over k cs ms) from to item told last ≡ delivery_between k from to item told last
between_same k cs ms from to item told last gives receives =
    ap₂ (λ (m n : List ℕ). record {
      range_word = (item_at m item).0;
      second_word = (item_at m item).1;
      giver = pd_of k from;
      receiver = pd_of k to;
      translations = if is_thread k to then translation_window n else 0;
      delegations = if is_thread k to then delegation_window n else whole_of (read_as (meaning_of (item_at m item).0));
      told = told;
      items = counted_items m;
      last = last;
    }) gives receives

taken_same : (k : KernelState) (cs : Contexts) (ms : Words) (ec item : ℕ) → words_in ms ec ≡ message k ec → (o : Option (ℕ × Mark)) →
    ((caller : ℕ) (came : Mark) → o ≡ Some (caller, came) → words_in ms caller ≡ message k caller) → taken_from (over k cs ms) ec item o ≡ taken_from k ec item o
taken_same k cs ms ec item own None theirs = refl
taken_same k cs ms ec item own (Some (caller, mark)) theirs = ap (λ (v : Delivery). Some v) (between_same k cs ms caller ec item (Some ec) sequel.Taken (theirs caller mark refl) own)

given_same : (k : KernelState) (cs : Contexts) (ms : Words) (ec item : ℕ) → words_in ms ec ≡ message k ec → (o : Option (ℕ × Mark)) →
    ((caller : ℕ) (came : Mark) → o ≡ Some (caller, came) → words_in ms caller ≡ message k caller) → given_to (over k cs ms) ec item o ≡ given_to k ec item o
given_same k cs ms ec item own None theirs = refl
given_same k cs ms ec item own (Some (caller, mark)) theirs =
    ap (λ (v : Delivery). Some v) (between_same k cs ms ec caller item (told_by caller mark) (sequel.Replied caller mark) own (theirs caller mark refl))

-- THE DEED

-- of one in a state: its registers are the same, or its turn tells the same of both
abbrev pub TellsAlike : KernelState → Contexts → ℕ → State → Type 0
TellsAlike k cs ec s = ((ec_of cs ec).regs ≡ (context k ec).regs) ⊎ TellsSame k ec (context k ec).regs (ec_of cs ec).regs s

pub address_same : (k : KernelState) (cs : Contexts) (ms : Words) (ec : ℕ) → words_in ms ec ≡ message k ec → address_space (over k cs ms) ec ≡ address_space k ec
address_same k cs ms ec own = ap (λ (m : List ℕ). space_through k.delegations.list k.memory (pd_of k ec) (if is_thread k ec then Some m else None)) own

pub instruction_same : (k : KernelState) (cs : Contexts) (ms : Words) (ec : ℕ) → words_in ms ec ≡ message k ec → (ec_of cs ec).regs ≡ (context k ec).regs → instruction (over k cs ms) ec ≡ instruction k ec
instruction_same k cs ms ec own same = ap₂ (λ (r : Registers) (a : AddressSpace). one r (space a)) same (address_same k cs ms ec own)

same_asks : (r s : Registers) → s ≡ r → AskSame r s
same_asks r s same = record { number = ap (λ (r : Registers). reg r 17) (sym same); arguments = λ x from to. ap (λ (r : Registers). reg r x) (sym same) }

asks_same : (k : KernelState) (cs : Contexts) (ms : Words) → AreMasked cs k.contexts → (ec : ℕ) → words_in ms ec ≡ message k ec → AskSame (context k ec).regs (ec_of cs ec).regs →
    hypercall (over k cs ms) ec (pd_of k ec) (ec_of cs ec).regs ≡ hypercall k ec (pd_of k ec) (context k ec).regs
asks_same k cs ms a ec own asks_ =
    ap₂ (λ (n : ℕ) (c : Result Call Status). or_refuses n (and_then c (row (over k cs ms) ec (pd_of k ec)))) (sym asks_.number) (call_same (context k ec).regs (ec_of cs ec).regs asks_)
    ∙ hypercall_same k cs ms a ec own (pd_of k ec) (context k ec).regs

signals_same : (k : KernelState) (cs : Contexts) (ms : Words) → AreMasked cs k.contexts → (ec : ℕ) → words_in ms ec ≡ message k ec → AskSame (context k ec).regs (ec_of cs ec).regs →
    (reason q0 q1 : ℕ) (t : Bool) → signalled (over k cs ms) ec reason q0 q1 t ≡ signalled k ec reason q0 q1 t
signals_same k cs ms a ec own asks_ reason q0 q1 true = asks_same k cs ms a ec own asks_
signals_same k cs ms a ec own asks_ reason q0 q1 false = refl

steps_same : (k : KernelState) (cs : Contexts) (ms : Words) → AreMasked cs k.contexts → (ec : ℕ) → words_in ms ec ≡ message k ec → AskSame (context k ec).regs (ec_of cs ec).regs →
    (o : Once) → stepping (over k cs ms) ec o ≡ stepping k ec o
steps_same k cs ms a ec own asks_ (Went regs store) = refl
steps_same k cs ms a ec own asks_ (Raised reason q0 q1) = signals_same k cs ms a ec own asks_ reason q0 q1 ((reason == environment_call) && is_thread k ec)

ready_same : (k : KernelState) (cs : Contexts) (ms : Words) → AreMasked cs k.contexts → (ec : ℕ) → words_in ms ec ≡ message k ec → TellsAlike k cs ec Ready → (t : Bool) → (context k ec).recall ≡ t → ready (over k cs ms) ec t ≡ ready k ec t
ready_same k cs ms a ec own tells true is = refl
ready_same k cs ms a ec own (inl same) false is =
    ap (stepping (over k cs ms) ec) (instruction_same k cs ms ec own same) ∙ steps_same k cs ms a ec own (same_asks (context k ec).regs (ec_of cs ec).regs same) (instruction k ec)
ready_same k cs ms a ec own (inr (inl recall)) false is = absurd (let both : true ≡ false = sym recall ∙ is in cc)
ready_same k cs ms a ec own (inr (inr call)) false is =
    ap (stepping (over k cs ms) ec) (ap (λ (a : AddressSpace). one (ec_of cs ec).regs (space a)) (address_same k cs ms ec own) ∙ call.second ∙ sym call.first)
    ∙ steps_same k cs ms a ec own call.asks (instruction k ec)

first_same : (k : KernelState) (cs : Contexts) (ms : Words) (ec domain : ℕ) → TellsAlike k cs ec (Granting (Some domain)) → delivery (over k cs ms) ec (Granting (Some domain)) ≡ delivery k ec (Granting (Some domain))
first_same k cs ms ec domain tells = ap (λ (w : ℕ). Some (record (first_delivery k ec domain) { range_word = w; delegations = w })) (by_registers tells)
  where
    by_registers : TellsAlike k cs ec (Granting (Some domain)) → reg (ec_of cs ec).regs 12 ≡ reg (context k ec).regs 12
    by_registers (inl same) = ap (λ (r : Registers). reg r 12) same
    by_registers (inr word) = sym word

in_same : (k : KernelState) (cs : Contexts) (ms : Words) → AreMasked cs k.contexts → (ec : ℕ) → ReadsSame k ms ec → (s : State) → (context k ec).state ≡ s → TellsAlike k cs ec s → deed_in (over k cs ms) ec s ≡ deed_in k ec s
in_same k cs ms a ec reads Ready is tells = ap (ready (over k cs ms) ec) (a.recalls ec) ∙ ready_same k cs ms a ec reads.own tells (context k ec).recall refl
in_same k cs ms a ec reads (Exiting reason q0 q1) is tells = exits_same k cs ms a ec reason q0 q1
in_same k cs ms a ec reads (Sending reason q0 q1 handler) is tells = exits_same k cs ms a ec reason q0 q1
in_same k cs ms a ec reads (Granting (Some domain)) is tells = delivers_same k cs ms a (transfer k ec) _ _ (first_same k cs ms ec domain tells)
in_same k cs ms a ec reads (Granting None) is tells =
    delivers_same k cs ms a (transfer k ec) _ _ (ap (taken_from (over k cs ms) ec (transfer k ec).item) (a.callers ec) ∙ taken_same k cs ms ec (transfer k ec).item reads.own (context k ec).caller (reads.taken is))
in_same k cs ms a ec reads Replying is tells =
    delivers_same k cs ms a (transfer k ec) _ _ (ap (given_to (over k cs ms) ec (transfer k ec).item) (a.callers ec) ∙ given_same k cs ms ec (transfer k ec).item reads.own (context k ec).caller (reads.given is))
in_same k cs ms a ec reads (Calling handler) is tells = ap (λ (c : Option (ℕ × Mark)). deeds.Aborts handler (mark_in c)) (a.callers handler)
in_same k cs ms a ec reads (Helping handler) is (inl same) = asks_same k cs ms a ec reads.own (same_asks (context k ec).regs (ec_of cs ec).regs same)
in_same k cs ms a ec reads (Helping handler) is (inr asks_) = asks_same k cs ms a ec reads.own asks_
in_same k cs ms a ec reads other is tells = refl

pub deed_same : (k : KernelState) (cs : Contexts) (ms : Words) → AreMasked cs k.contexts → (ec : ℕ) → ReadsSame k ms ec → TellsAlike k cs ec (context k ec).state → deed (over k cs ms) ec ≡ deed k ec
unfolding deed
deed_same k cs ms a ec reads tells = ap (deed_in (over k cs ms) ec) (a.own_states ec) ∙ in_same k cs ms a ec reads (context k ec).state refl tells

-- WHAT ITS EFFECT LOOKS AT

-- the instruction that goes on, and the registers of an exit that is sent
abbrev pub LooksSame : KernelState → Contexts → Words → ℕ → Deed → Type 0
LooksSame k cs ms ec deeds.Steps = instruction (over k cs ms) ec ≡ instruction k ec
LooksSame k cs ms ec (deeds.Sends handler ip number mtd reason q0 q1) = (m : List ℕ) → exited mtd q0 q1 (ec_of cs ec).regs m ≡ exited mtd q0 q1 (context k ec).regs m
LooksSame k cs ms ec other = Unit {0}

all_look : (k : KernelState) (cs : Contexts) (ms : Words) (ec : ℕ) → words_in ms ec ≡ message k ec → (ec_of cs ec).regs ≡ (context k ec).regs → (d : Deed) → LooksSame k cs ms ec d
all_look k cs ms ec own same deeds.Steps = instruction_same k cs ms ec own same
all_look k cs ms ec own same (deeds.Sends handler ip number mtd reason q0 q1) = λ m. ap (λ (r : Registers). exited mtd q0 q1 r m) same
all_look k cs ms ec own same other = tt

exits_look : (k : KernelState) (cs : Contexts) (ms : Words) (ec reason q0 q1 : ℕ) → ExitTellsSame k ec reason (context k ec).regs (ec_of cs ec).regs → LooksSame k cs ms ec (exits k ec reason q0 q1)
exits_look k cs ms ec reason q0 q1 tells = by_portal (exit_portal k ec reason) refl
  where
    by_admit : (pt : ℕ) → exit_portal k ec reason ≡ Ok pt → (a : ExitAdmit) → LooksSame k cs ms ec (exit_to k pt reason q0 q1 a)
    by_admit pt is exit.Dies = tt
    by_admit pt is exit.Waits = tt
    by_admit pt is exit.Sends = exited_same (descriptor k pt) q0 q1 (context k ec).regs (ec_of cs ec).regs (tells pt is)

    by_portal : (o : Result ℕ Status) → exit_portal k ec reason ≡ o → LooksSame k cs ms ec (exit_at k ec reason q0 q1 o)
    by_portal (Err status) is = tt
    by_portal (Ok pt) is = by_admit pt is (exit_admitted k.contexts ec (handler_of k pt))

delivers_look : (k : KernelState) (cs : Contexts) (ms : Words) (ec : ℕ) (t : Transfer) (o : Option Delivery) → LooksSame k cs ms ec (delivers k t o)
delivers_look k cs ms ec t None = tt
delivers_look k cs ms ec t (Some v) = by_flag (flag v == 1)
  where
    by_part : (j : Job) (o : Option Part) → LooksSame k cs ms ec (part_deed v t j o)
    by_part j None = tt
    by_part j (Some p) = by_child p.child
      where
        by_child : (r : Result Derivation Reason) → LooksSame k cs ms ec (part_deed v t j (Some (record p { child = r })))
        by_child (Ok x) = tt
        by_child (Err reason) = tt

    by_job : (r : Result Job Skip) → LooksSame k cs ms ec (delegated k v t r)
    by_job (Err skip) = tt
    by_job (Ok j) = by_part j _

    by_flag : (b : Bool) → LooksSame k cs ms ec (if b then delegated k v t (job_of v.range_word v.second_word v.delegations v.giver v.receiver)
        else answered_by v t (translated k.delegations.list v.range_word v.translations v.giver v.receiver))
    by_flag true = by_job _
    by_flag false = tt

-- a hypercall is no instruction that goes on, and sends no exit
call_looks : (k : KernelState) (cs : Contexts) (ms : Words) (ec : ℕ) → IsAsking k ec → (IsStep k ec → ⊥) → raised_exit (context k ec).state ≡ None → LooksSame k cs ms ec (hypercall k ec (pd_of k ec) (context k ec).regs)
call_looks k cs ms ec asking no_step no_exit = by_deed _ (call_found k ec asking)
  where
    by_deed : (d : Deed) → Found k ec d → LooksSame k cs ms ec d
    by_deed deeds.Steps found = absurd (no_step found)
    by_deed (deeds.Sends handler ip number mtd reason q0 q1) found = absurd (let both : None ≡ Some (reason, q0, q1) = sym no_exit ∙ found.raised in cc)
    by_deed other found = tt

ready_looks : (k : KernelState) (cs : Contexts) (ms : Words) (ec : ℕ) → (context k ec).state ≡ Ready → CallSame k ec (context k ec).regs (ec_of cs ec).regs → (t : Bool) → (context k ec).recall ≡ t → LooksSame k cs ms ec (ready k ec t)
ready_looks k cs ms ec is call true recall = tt
ready_looks k cs ms ec is call false recall = subst (λ (o : Once). LooksSame k cs ms ec (stepping k ec o)) (sym call.first) (by_signal (is_thread k ec) refl)
  where
    no_step : IsStep k ec → ⊥
    no_step step = absurd (let both : Raised environment_call 0 0 ≡ Went step.regs step.store = sym call.first ∙ step.goes_on in cc)

    by_signal : (t : Bool) → is_thread k ec ≡ t → LooksSame k cs ms ec (signalled k ec environment_call 0 0 t)
    by_signal true thread = call_looks k cs ms ec (AtCall (record { state = is; recall = recall; thread = thread; q0 = 0; q1 = 0; raises = call.first })) no_step (ap raised_exit is)
    by_signal false thread = tt

in_looks : (k : KernelState) (cs : Contexts) (ms : Words) (ec : ℕ) → words_in ms ec ≡ message k ec → (s : State) → (context k ec).state ≡ s → TellsAlike k cs ec s → LooksSame k cs ms ec (deed_in k ec s)
in_looks k cs ms ec own s is (inl same) = all_look k cs ms ec own same (deed_in k ec s)
in_looks k cs ms ec own Ready is (inr (inl recall)) = subst (λ (t : Bool). LooksSame k cs ms ec (ready k ec t)) (sym recall) tt
in_looks k cs ms ec own Ready is (inr (inr call)) = ready_looks k cs ms ec is call (context k ec).recall refl
in_looks k cs ms ec own (Exiting reason q0 q1) is (inr tells) = exits_look k cs ms ec reason q0 q1 tells
in_looks k cs ms ec own (Sending reason q0 q1 handler) is (inr tells) = exits_look k cs ms ec reason q0 q1 tells
in_looks k cs ms ec own (Granting new) is (inr tells) = delivers_look k cs ms ec (transfer k ec) (delivery k ec (Granting new))
in_looks k cs ms ec own Replying is (inr tells) = delivers_look k cs ms ec (transfer k ec) (delivery k ec Replying)
in_looks k cs ms ec own (Helping handler) is (inr asks_) =
    call_looks k cs ms ec (Again handler is) (λ step. absurd (let both : Helping handler ≡ Ready = sym is ∙ step.state in cc)) (ap raised_exit is)
in_looks k cs ms ec own (Revoking range its) is (inr tells) = by_leaf (next_leaf (record { pd = pd_of k ec; range = range; own = its }) k.delegations)
  where
    by_leaf : (o : Option Derivation) → LooksSame k cs ms ec (removes o)
    by_leaf None = tt
    by_leaf (Some leaf) = tt
in_looks k cs ms ec own other is (inr tells) = tt

pub deed_looks : (k : KernelState) (cs : Contexts) (ms : Words) (ec : ℕ) → words_in ms ec ≡ message k ec → TellsAlike k cs ec (context k ec).state → LooksSame k cs ms ec (deed k ec)
unfolding deed
deed_looks k cs ms ec own tells = in_looks k cs ms ec own (context k ec).state refl tells
