-- Each call that registers are read as has arguments in their ranges.
use Rattle.std.proofs.Common.{◌≡◌, ◌<◌, ℕ, ◌^◌, slice_get, Option, Some, None, option_map, option_and_then, Result, Ok, Err, IfSome, IfOk, refl, subst, arith}
use Rattle.std.proofs.lemmas.Bool.Decides.{nat_tests}
use Rattle.rv_model.specs.Registers.{Registers, reg}
use Rattle.nova_range.specs.Ranges.{IsRange}
use Rattle.nova_range.specs.RangeWords.{meaning_of, HasWord}
use Rattle.nova_range.specs.declared.range.Range.{Range}
use Rattle.nova_range.specs.declared.rights.Rights.{Rights}
use Rattle.nova_range.specs.declared.word.WordFault.{WordFault}
use Rattle.nova_range.proofs.Words.{sound}
use Rattle.nova_calls.specs.Hypercalls.{readable, range_of, call_row, create_pd_row, create_ec_row, create_sc_row, create_pt_row, create_sm_row, revoke_row, lookup_row, ec_ctrl_row, sc_ctrl_row, pt_ctrl_row, sm_ctrl_row, rows, call_of}
use Rattle.nova_range.specs.declared.status.Status.{Status}
use Rattle.nova_calls.specs.Numbers.{number_of}
use Rattle.nova_calls.specs.SoundCalls.{IsSoundCall}
use Rattle.nova_calls.specs.declared.call.Call.{Call}
use Rattle.nova_calls.specs.declared.call.Call.TheVariants as call
use Rattle.nova_calls.proofs.Numbered.{holds_by_row, read_in_row}

-- a row gives sound calls
abbrev Gives : Option Call → Type 0
Gives row = IfSome row IsSoundCall

first_sound : (read : Result (Option (Range × Rights)) WordFault) → IfOk read HasWord → (first : Option (Range × Rights)) → readable read ≡ Some first → HasWord first
first_sound (Ok x) has first e = let same : x ≡ first = cc in subst HasWord same has
first_sound (Err fault) has first e = cc

range_sound : (word : ℕ) (range : Range) → range_of word ≡ Some range → IsRange range
range_sound word range e = by_reading (meaning_of word) (sound word) e where
  by_reading : (read : Result (Option (Range × Rights)) WordFault) → IfOk read HasWord → option_and_then (option_map (λ x. x.0)) (readable read) ≡ Some range → IsRange range
  by_reading (Ok (Some (found, rights))) has is = let same : found ≡ range = cc in subst IsRange same has.0
  by_reading (Ok None) has is = cc
  by_reading (Err fault) has is = cc

-- the rows
call_sound : (r : Registers) → Gives (call_row r)
call_sound r = grind (arith, nat_tests)

create_pd_sound : (r : Registers) → Gives (create_pd_row r)
create_pd_sound r =
    let has = first_sound (meaning_of (reg r 12)) (sound (reg r 12)) in
    grind (arith, nat_tests)

create_ec_sound : (r : Registers) → Gives (create_ec_row r)
create_ec_sound r = grind (arith, nat_tests)

create_sc_sound : (r : Registers) → reg r 13 < 2 ^ 32 → Gives (create_sc_row r)
create_sc_sound r word = grind (arith, nat_tests)

create_pt_sound : (r : Registers) → Gives (create_pt_row r)
create_pt_sound r = grind (arith, nat_tests)

create_sm_sound : (r : Registers) → Gives (create_sm_row r)
create_sm_sound r = grind (arith, nat_tests)

revoke_sound : (r : Registers) → Gives (revoke_row r)
revoke_sound r =
    let is = range_sound (reg r 10) in
    grind (arith, nat_tests)

lookup_sound : (r : Registers) → Gives (lookup_row r)
lookup_sound r =
    let is = range_sound (reg r 10) in
    grind (arith, nat_tests)

ec_ctrl_sound : (r : Registers) → Gives (ec_ctrl_row r)
ec_ctrl_sound r = grind (arith, nat_tests)

sc_ctrl_sound : (r : Registers) → Gives (sc_ctrl_row r)
sc_ctrl_sound r = grind (arith, nat_tests)

pt_ctrl_sound : (r : Registers) → Gives (pt_ctrl_row r)
pt_ctrl_sound r = grind (arith, nat_tests)

sm_ctrl_sound : (r : Registers) → Gives (sm_ctrl_row r)
sm_ctrl_sound r = grind (arith, nat_tests)

pub read_sound : (r : Registers) → reg r 13 < 2 ^ 32 → IfOk (call_of r) IsSoundCall
read_sound r word = by_read (call_of r) refl
  where
    by_call : (c : Call) → slice_get (rows r) (number_of c) ≡ Some (Some c) → IsSoundCall c
    by_call (call.Call portal flag) at = holds_by_row IsSoundCall (call_row r) _ at (call_sound r)
    by_call (call.CreatePd target pd first) at = holds_by_row IsSoundCall (create_pd_row r) _ at (create_pd_sound r)
    by_call (call.CreateEc target pd cpu kind sp event) at = holds_by_row IsSoundCall (create_ec_row r) _ at (create_ec_sound r)
    by_call (call.CreateSc target pd ec quantum priority) at = holds_by_row IsSoundCall (create_sc_row r) _ at (create_sc_sound r word)
    by_call (call.CreatePt target pd ec mtd ip) at = holds_by_row IsSoundCall (create_pt_row r) _ at (create_pt_sound r)
    by_call (call.CreateSm target pd count) at = holds_by_row IsSoundCall (create_sm_row r) _ at (create_sm_sound r)
    by_call (call.Revoke range own) at = holds_by_row IsSoundCall (revoke_row r) _ at (revoke_sound r)
    by_call (call.Lookup range) at = holds_by_row IsSoundCall (lookup_row r) _ at (lookup_sound r)
    by_call (call.EcCtrl ec) at = holds_by_row IsSoundCall (ec_ctrl_row r) _ at (ec_ctrl_sound r)
    by_call (call.ScCtrl sc) at = holds_by_row IsSoundCall (sc_ctrl_row r) _ at (sc_ctrl_sound r)
    by_call (call.PtCtrl pt identifier) at = holds_by_row IsSoundCall (pt_ctrl_row r) _ at (pt_ctrl_sound r)
    by_call (call.SmCtrl sm action) at = holds_by_row IsSoundCall (sm_ctrl_row r) _ at (sm_ctrl_sound r)
    by_call other at = tt

    by_read : (read : Result Call Status) → call_of r ≡ read → IfOk read IsSoundCall
    by_read (Ok c) is = by_call c (read_in_row r c is)
    by_read (Err status) is = tt
