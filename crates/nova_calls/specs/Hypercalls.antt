-- Hypercalls: what a thread's registers ask for. x17 has the number of the call, and x10 to x14 have its arguments.
use Rattle.std.specs.Prelude.{ℕ, ◌-◌, ◌/◌, ◌%◌, ◌^◌, ◌==◌, ◌&&◌, Bool, nat_lt, nat_le, if◌then◌else◌, List, [], ◌∷◌, slice_get, Option, Some, None, option_map, option_and_then, Result, Ok, Err}
use Rattle.rv_model.specs.Registers.{Registers, reg}
use Rattle.nova_range.specs.RangeWords.{meaning_of}
use Rattle.nova_range.specs.declared.range.Range.{Range}
use Rattle.nova_range.specs.declared.rights.Rights.{Rights}
use Rattle.nova_range.specs.declared.status.Status.{Status}
use Rattle.nova_range.specs.declared.status.Status.TheVariants.{BadHyp, BadPar}
use Rattle.nova_range.specs.declared.word.WordFault.{WordFault}
use Rattle.nova_objects.specs.declared.object.EcKind.{EcKind}
use Rattle.nova_objects.specs.declared.object.EcKind.TheVariants.{Local, Global, Vcpu}
use Rattle.nova_calls.specs.declared.call.Call.{Call}
use Rattle.nova_calls.specs.declared.call.Call.TheVariants as call
use Rattle.nova_calls.specs.declared.call.SmAction.{SmAction}
use Rattle.nova_calls.specs.declared.call.SmAction.TheVariants.{Up, Down, DownWithin}

-- what arguments may be

abbrev pub is_selector : ℕ → Bool
is_selector word = nat_lt word (2 ^ 20)

abbrev pub is_flag : ℕ → Bool
is_flag word = nat_le word 1

-- the kinds of execution contexts: 0 local, 1 global, 2 virtual CPU
abbrev pub kind_of : ℕ → Option EcKind
kind_of n = if n == 0 then Some Local else if n == 1 then Some Global else if n == 2 then Some Vcpu else None

-- what is done to a semaphore: 0 up, 1 down, 2 down that waits for at most `ticks` ticks
abbrev pub action_of : ℕ → ℕ → Option SmAction
action_of n ticks = if n == 0 then Some Up else if n == 1 then Some Down else if n == 2 then Some (DownWithin ticks) else None

-- a range word that reads, or null
abbrev pub readable : Result (Option (Range × Rights)) WordFault → Option (Option (Range × Rights))
readable (Ok read) = Some read
readable (Err fault) = None

-- a range word that reads and isn't null; its rights don't matter
abbrev pub range_of : ℕ → Option Range
range_of word = option_and_then (option_map (λ read. read.0)) (readable (meaning_of word))

-- The table of hypercalls: a row for each number. A row is nothing where an argument is outside what the row takes.

-- 0 call: x10 portal, x11 flag: don't block
abbrev pub call_row : Registers → Option Call
call_row r = if is_selector (reg r 10) && is_flag (reg r 11) then Some (call.Call (reg r 10) (reg r 11 == 1)) else None

-- 1 reply
abbrev pub reply_row : Registers → Option Call
reply_row r = Some call.Reply

-- 2 create_pd: x10 target, x11 PD, x12 first range, any range word that reads, or null
abbrev pub create_pd_row : Registers → Option Call
create_pd_row r =
    if is_selector (reg r 10) && is_selector (reg r 11)
    then option_map (λ first. call.CreatePd (reg r 10) (reg r 11) first) (readable (meaning_of (reg r 12)))
    else None

-- 3 create_ec: x10 target, x11 PD, x12 processor in bits 0 to 7 and kind in bits 8 to 31, x13 initial x2, x14 event base, at most
-- 2^20 - 9
abbrev pub create_ec_row : Registers → Option Call
create_ec_row r =
    if is_selector (reg r 10) && is_selector (reg r 11) && nat_le (reg r 14) (2 ^ 20 - 9)
    then option_map (λ kind. call.CreateEc (reg r 10) (reg r 11) (reg r 12 % 2 ^ 8) kind (reg r 13) (reg r 14)) (kind_of (reg r 12 / 2 ^ 8))
    else None

-- 4 create_sc: x10 target, x11 PD, x12 EC, x13 quantum in bits 8 to 31, at least 1, and priority in bits 0 to 7
abbrev pub create_sc_row : Registers → Option Call
create_sc_row r =
    if is_selector (reg r 10) && is_selector (reg r 11) && is_selector (reg r 12) && nat_le 1 (reg r 13 / 2 ^ 8)
    then Some (call.CreateSc (reg r 10) (reg r 11) (reg r 12) (reg r 13 / 2 ^ 8) (reg r 13 % 2 ^ 8))
    else None

-- 5 create_pt: x10 target, x11 PD, x12 EC, x13 message transfer descriptor, 0 to 15, x14 instruction pointer, a multiple of 4
abbrev pub create_pt_row : Registers → Option Call
create_pt_row r =
    if is_selector (reg r 10) && is_selector (reg r 11) && is_selector (reg r 12) && nat_le (reg r 13) 15 && (reg r 14 % 4 == 0)
    then Some (call.CreatePt (reg r 10) (reg r 11) (reg r 12) (record { 0 = reg r 13 }) (reg r 14))
    else None

-- 6 create_sm: x10 target, x11 PD, x12 counter
abbrev pub create_sm_row : Registers → Option Call
create_sm_row r =
    if is_selector (reg r 10) && is_selector (reg r 11) then Some (call.CreateSm (reg r 10) (reg r 11) (reg r 12)) else None

-- 7 revoke: x10 range word, not null, x11 flag: the own derivations too
abbrev pub revoke_row : Registers → Option Call
revoke_row r =
    if is_flag (reg r 11) then option_map (λ range. call.Revoke range (reg r 11 == 1)) (range_of (reg r 10)) else None

-- 8 lookup: x10 range word, not null
abbrev pub lookup_row : Registers → Option Call
lookup_row r = option_map (λ range. call.Lookup range) (range_of (reg r 10))

-- 9 ec_ctrl: x10 EC
abbrev pub ec_ctrl_row : Registers → Option Call
ec_ctrl_row r = if is_selector (reg r 10) then Some (call.EcCtrl (reg r 10)) else None

-- 10 sc_ctrl: x10 SC
abbrev pub sc_ctrl_row : Registers → Option Call
sc_ctrl_row r = if is_selector (reg r 10) then Some (call.ScCtrl (reg r 10)) else None

-- 11 pt_ctrl: x10 PT, x11 identifier
abbrev pub pt_ctrl_row : Registers → Option Call
pt_ctrl_row r = if is_selector (reg r 10) then Some (call.PtCtrl (reg r 10) (reg r 11)) else None

-- 12 sm_ctrl: x10 SM, x11 0 up, 1 down or 2 down with a deadline, x12 its ticks
abbrev pub sm_ctrl_row : Registers → Option Call
sm_ctrl_row r = if is_selector (reg r 10) then option_map (λ action. call.SmCtrl (reg r 10) action) (action_of (reg r 11) (reg r 12)) else None

-- the rows by their numbers
abbrev pub rows : Registers → List (Option Call)
rows r =
    call_row r ∷ reply_row r ∷ create_pd_row r ∷ create_ec_row r ∷ create_sc_row r ∷ create_pt_row r ∷ create_sm_row r
    ∷ revoke_row r ∷ lookup_row r ∷ ec_ctrl_row r ∷ sc_ctrl_row r ∷ pt_ctrl_row r ∷ sm_ctrl_row r ∷ []

-- a number without a row is BAD_HYP, and arguments outside the row are BAD_PAR
abbrev pub read_row : Option (Option Call) → Result Call Status
read_row (Some (Some asked)) = Ok asked
read_row (Some None) = Err BadPar
read_row None = Err BadHyp

unfoldable pub call_of : Registers → Result Call Status
call_of r = read_row (slice_get (rows r) (reg r 17))
