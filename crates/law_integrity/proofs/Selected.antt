-- The selector in x10 of a call, and what it names.
use Rattle.std.proofs.Common.{◌≡◌, ◌<◌, ◌≤◌, ℕ, ◌^◌, slice_get, Option, Some, None, Ok, IfSome, subst, refl, sym, arith}
use Rattle.std.specs.Prelude.{◌==◌, Bool, Result, Err, option_and_then, option_map}
use Rattle.std.proofs.lemmas.Bool.Decides.{nat_tests}
use Rattle.rv_model.specs.Registers.{Registers, reg}
use Rattle.nova_calls.specs.Hypercalls.{call_row, ec_ctrl_row, lookup_row, readable, sc_ctrl_row, pt_ctrl_row, sm_ctrl_row, rows, call_of}
use Rattle.nova_calls.specs.Numbers.{number_of}
use Rattle.nova_calls.specs.declared.call.Call.{Call}
use Rattle.nova_calls.specs.declared.call.Call.TheVariants as call
use Rattle.nova_calls.specs.declared.call.SmAction.{SmAction}
use Rattle.nova_calls.specs.declared.call.SmAction.TheVariants as act
use Rattle.nova_calls.proofs.Numbered.{holds_by_row, read_in_row}
use Rattle.nova_range.specs.RangeWords.{meaning_of}
use Rattle.nova_range.specs.declared.range.Range.{Range}
use Rattle.nova_range.specs.declared.rights.Rights.{Rights}
use Rattle.nova_range.specs.declared.word.WordFault.{WordFault}
use Rattle.nova_objects.specs.declared.object.Object.{Object}
use Rattle.nova_model.specs.Capabilities.{named}
use Rattle.nova_model.specs.State.{KernelState, context, pd_of}
use Rattle.law_turns.specs.Asked.{HoldsAt}
use Rattle.law_turns.proofs.Holding.{IsNamedAt, named_at}
use Rattle.law_forest.proofs.Walk.{IfDone}
use Rattle.law_integrity.specs.Rights.{IsAsking, Names}

-- the selector is one, and stands in x10, as does the range of a lookup; an identifier stands in x11, as does the flag of a call
abbrev IsAt : Registers → ℕ → Type 0
IsAt r selector = (selector ≡ reg r 10) × (selector < 2 ^ 20)

-- what is done to a semaphore is read in x11, and the ticks of a deadline in x12
abbrev pub ReadsAction : Registers → SmAction → Type 0
ReadsAction r act.Up = reg r 11 ≡ 0
ReadsAction r act.Down = reg r 11 ≡ 1
ReadsAction r (act.DownWithin ticks) = (reg r 11 ≡ 2) × (ticks ≡ reg r 12)

abbrev pub Selects : Registers → Call → Type 0
Selects r (call.Call portal flag) = IsAt r portal × (flag ≡ (reg r 11 == 1)) × (reg r 11 ≤ 1)
Selects r (call.Lookup range) = (rights : Rights) × (meaning_of (reg r 10) ≡ Ok (Some (range, rights)))
Selects r (call.EcCtrl ec) = IsAt r ec
Selects r (call.ScCtrl sc) = IsAt r sc
Selects r (call.PtCtrl pt identifier) = IsAt r pt × (identifier ≡ reg r 11)
Selects r (call.SmCtrl sm action) = IsAt r sm × ReadsAction r action
Selects r other = Unit {0}

abbrev Row : Registers → Option Call → Type 0
Row r row = IfSome row (Selects r)

call_selects : (r : Registers) → Row r (call_row r)
call_selects r = grind (arith, nat_tests)

lookup_selects : (r : Registers) → Row r (lookup_row r)
lookup_selects r = by_meaning (meaning_of (reg r 10)) refl
  where
    by_meaning : (m : Result (Option (Range × Rights)) WordFault) → meaning_of (reg r 10) ≡ m →
        IfSome (option_map (λ range. call.Lookup range) (option_and_then (option_map (λ read. read.0)) (readable m))) (Selects r)
    by_meaning (Err fault) is = tt
    by_meaning (Ok None) is = tt
    by_meaning (Ok (Some (range, rights))) is = (rights, is)

ec_ctrl_selects : (r : Registers) → Row r (ec_ctrl_row r)
ec_ctrl_selects r = grind (arith, nat_tests)

sc_ctrl_selects : (r : Registers) → Row r (sc_ctrl_row r)
sc_ctrl_selects r = grind (arith, nat_tests)

pt_ctrl_selects : (r : Registers) → Row r (pt_ctrl_row r)
pt_ctrl_selects r = grind (arith, nat_tests)

sm_ctrl_selects : (r : Registers) → Row r (sm_ctrl_row r)
sm_ctrl_selects r = grind (arith, nat_tests)

pub call_selected : (r : Registers) (c : Call) → call_of r ≡ Ok c → Selects r c
call_selected r c is = by_call c (read_in_row r c is)
  where
    by_call : (c : Call) → slice_get (rows r) (number_of c) ≡ Some (Some c) → Selects r c
    by_call (call.Call portal flag) at = holds_by_row (Selects r) (call_row r) _ at (call_selects r)
    by_call (call.Lookup range) at = holds_by_row (Selects r) (lookup_row r) _ at (lookup_selects r)
    by_call (call.EcCtrl ec) at = holds_by_row (Selects r) (ec_ctrl_row r) _ at (ec_ctrl_selects r)
    by_call (call.ScCtrl sc) at = holds_by_row (Selects r) (sc_ctrl_row r) _ at (sc_ctrl_selects r)
    by_call (call.PtCtrl pt identifier) at = holds_by_row (Selects r) (pt_ctrl_row r) _ at (pt_ctrl_selects r)
    by_call (call.SmCtrl sm action) at = holds_by_row (Selects r) (sm_ctrl_row r) _ at (sm_ctrl_selects r)
    by_call other at = tt

-- what it names
pub names : (k : KernelState) (ec call selector right n : ℕ) (is : Object → Bool) → IsAsking k ec → call ≡ reg (context k ec).regs 17 → (selector ≡ reg (context k ec).regs 10) × (selector < 2 ^ 20) →
    IsNamedAt k (pd_of k ec) selector right is n → Names k ec call right n
names k ec call selector right n is asks numbered at named_ = record { asks = asks; number = sym numbered; at = subst (λ (s : ℕ). HoldsAt k (pd_of k ec) s right n) at.0 (named_.holds at.1) }

pub named_by : (k : KernelState) (domain : ℕ) (is : Object → Bool) (right selector n : ℕ) → named k domain is right selector ≡ Ok n → IsNamedAt k domain selector right is n
named_by k domain is right selector n names = subst (IfDone (IsNamedAt k domain selector right is)) names (named_at k domain is right selector)
