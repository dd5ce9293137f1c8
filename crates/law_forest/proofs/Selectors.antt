-- The selector at which a call puts what it makes, and the quantum that it gives.
use Rattle.std.proofs.Common.{◌≡◌, ◌<◌, ◌≤◌, ℕ, zero, suc, ◌^◌, List, [], ◌∷◌, slice_get, Option, Some, None, Ok, IfSome, subst, arith}
use Rattle.std.proofs.lemmas.Bool.Decides.{nat_tests}
use Rattle.rv_model.specs.Registers.{Registers, reg}
use Rattle.nova_calls.specs.Hypercalls.{create_pd_row, create_ec_row, create_sc_row, create_pt_row, create_sm_row, rows, call_of}
use Rattle.nova_calls.specs.Numbers.{number_of}
use Rattle.nova_calls.specs.declared.call.Call.{Call}
use Rattle.nova_calls.specs.declared.call.Call.TheVariants as call
use Rattle.nova_calls.proofs.Numbered.{holds_by_row, read_in_row}

-- it is one, and a quantum is at least 1
abbrev pub TakesSelector : Call → Type 0
TakesSelector (call.CreatePd target pd first) = target < 2 ^ 20
TakesSelector (call.CreateEc target pd cpu kind sp event) = target < 2 ^ 20
TakesSelector (call.CreateSc target pd ec quantum priority) = (target < 2 ^ 20) × (1 ≤ quantum)
TakesSelector (call.CreatePt target pd ec mtd ip) = target < 2 ^ 20
TakesSelector (call.CreateSm target pd count) = target < 2 ^ 20
TakesSelector other = Unit {0}

abbrev Takes : Option Call → Type 0
Takes row = IfSome row TakesSelector

create_pd_takes : (r : Registers) → Takes (create_pd_row r)
create_pd_takes r = grind (arith, nat_tests)

create_ec_takes : (r : Registers) → Takes (create_ec_row r)
create_ec_takes r = grind (arith, nat_tests)

create_sc_takes : (r : Registers) → Takes (create_sc_row r)
create_sc_takes r = grind (arith, nat_tests)

create_pt_takes : (r : Registers) → Takes (create_pt_row r)
create_pt_takes r = grind (arith, nat_tests)

create_sm_takes : (r : Registers) → Takes (create_sm_row r)
create_sm_takes r = grind (arith, nat_tests)

pub call_takes : (r : Registers) (c : Call) → call_of r ≡ Ok c → TakesSelector c
call_takes r c is = by_call c (read_in_row r c is)
  where
    by_call : (c : Call) → slice_get (rows r) (number_of c) ≡ Some (Some c) → TakesSelector c
    by_call (call.CreatePd target pd first) at = holds_by_row TakesSelector (create_pd_row r) _ at (create_pd_takes r)
    by_call (call.CreateEc target pd cpu kind sp event) at = holds_by_row TakesSelector (create_ec_row r) _ at (create_ec_takes r)
    by_call (call.CreateSc target pd ec quantum priority) at = holds_by_row TakesSelector (create_sc_row r) _ at (create_sc_takes r)
    by_call (call.CreatePt target pd ec mtd ip) at = holds_by_row TakesSelector (create_pt_row r) _ at (create_pt_takes r)
    by_call (call.CreateSm target pd count) at = holds_by_row TakesSelector (create_sm_row r) _ at (create_sm_takes r)
    by_call other at = tt
