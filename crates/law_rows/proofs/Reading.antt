-- Which call registers are read as, by the row of the number in x17.
use Rattle.std.proofs.Common.{◌≡◌, ℕ, zero, suc, ◌<◌, ◌≤◌, ◌^◌, Bool, true, false, List, [], ◌∷◌, length, slice_get, Option, Some, None, refl, ap, sym, ◌∙◌, arith}
use Rattle.std.specs.Prelude.{Ok, Err}
use Rattle.std.proofs.lemmas.Bool.Decides.{nat_tests}
use Rattle.rv_model.specs.Registers.{Registers, reg}
use Rattle.nova_calls.specs.Hypercalls.{call_of, call_row, ec_ctrl_row, lookup_row, pt_ctrl_row, read_row, reply_row, revoke_row, rows, sc_ctrl_row, sm_ctrl_row}
use Rattle.nova_calls.specs.declared.call.Call.{Call}
use Rattle.nova_calls.specs.declared.call.Call.TheVariants as asks
use Rattle.nova_calls.specs.declared.call.SmAction.{SmAction}
use Rattle.nova_calls.specs.declared.call.SmAction.TheVariants.{Down, DownWithin, Up}
use Rattle.nova_calls.proofs.Numbered.{read_numbered}
use Rattle.nova_range.specs.RangeWords.{meaning_of}
use Rattle.nova_range.specs.declared.range.Range.{Range}
use Rattle.nova_range.specs.declared.rights.Rights.{Rights}
use Rattle.nova_range.specs.declared.status.Status.{Status}
use Rattle.nova_range.specs.declared.status.Status.TheVariants.{BadHyp, BadPar}

-- read by the row of a number
of_row : (r : Registers) (n : ℕ) (row : Option Call) → reg r 17 ≡ n → slice_get (rows r) n ≡ Some row → call_of r ≡ read_row (Some row)
unfolding call_of
of_row r n row number at = ap (λ (m : ℕ). read_row (slice_get (rows r) m)) number ∙ ap read_row at

read_so : (row : Option Call) (c : Call) → row ≡ Some c → read_row (Some row) ≡ Ok c
read_so row c is = ap (λ (o : Option Call). read_row (Some o)) is

row_gives : (row : Option Call) (c : Call) → read_row (Some row) ≡ Ok c → row ≡ Some c
row_gives (Some asked) c is = cc
row_gives None c is = absurd (cc)

-- THE CALL OF A NUMBER

pub call_waits : (r : Registers) → reg r 17 ≡ 0 → reg r 10 < 2 ^ 20 → reg r 11 ≡ 0 → call_of r ≡ Ok (asks.Call (reg r 10) false)
call_waits r number below flag = of_row r 0 (call_row r) number refl ∙ read_so (call_row r) (asks.Call (reg r 10) false) (grind (arith, nat_tests))

pub call_at_once : (r : Registers) → reg r 17 ≡ 0 → reg r 10 < 2 ^ 20 → reg r 11 ≡ 1 → call_of r ≡ Ok (asks.Call (reg r 10) true)
call_at_once r number below flag = of_row r 0 (call_row r) number refl ∙ read_so (call_row r) (asks.Call (reg r 10) true) (grind (arith, nat_tests))

pub reply_read : (r : Registers) → reg r 17 ≡ 1 → call_of r ≡ Ok asks.Reply
reply_read r number = of_row r 1 (reply_row r) number refl

pub revoke_read : (r : Registers) (range : Range) (rights : Rights) → reg r 17 ≡ 7 → meaning_of (reg r 10) ≡ Ok (Some (range, rights)) → reg r 11 ≡ 0 →
    call_of r ≡ Ok (asks.Revoke range false)
revoke_read r range rights number word flag = of_row r 7 (revoke_row r) number refl ∙ read_so (revoke_row r) (asks.Revoke range false) (rw word (grind (arith, nat_tests)))

pub revoke_own : (r : Registers) (range : Range) (rights : Rights) → reg r 17 ≡ 7 → meaning_of (reg r 10) ≡ Ok (Some (range, rights)) → reg r 11 ≡ 1 →
    call_of r ≡ Ok (asks.Revoke range true)
revoke_own r range rights number word flag = of_row r 7 (revoke_row r) number refl ∙ read_so (revoke_row r) (asks.Revoke range true) (rw word (grind (arith, nat_tests)))

pub lookup_read : (r : Registers) (range : Range) (rights : Rights) → reg r 17 ≡ 8 → meaning_of (reg r 10) ≡ Ok (Some (range, rights)) → call_of r ≡ Ok (asks.Lookup range)
lookup_read r range rights number word = of_row r 8 (lookup_row r) number refl ∙ read_so (lookup_row r) (asks.Lookup range) (rw word refl)

pub recall_read : (r : Registers) → reg r 17 ≡ 9 → reg r 10 < 2 ^ 20 → call_of r ≡ Ok (asks.EcCtrl (reg r 10))
recall_read r number below = of_row r 9 (ec_ctrl_row r) number refl ∙ read_so (ec_ctrl_row r) (asks.EcCtrl (reg r 10)) (grind (arith, nat_tests))

pub ticks_read : (r : Registers) → reg r 17 ≡ 10 → reg r 10 < 2 ^ 20 → call_of r ≡ Ok (asks.ScCtrl (reg r 10))
ticks_read r number below = of_row r 10 (sc_ctrl_row r) number refl ∙ read_so (sc_ctrl_row r) (asks.ScCtrl (reg r 10)) (grind (arith, nat_tests))

pub identifier_read : (r : Registers) → reg r 17 ≡ 11 → reg r 10 < 2 ^ 20 → call_of r ≡ Ok (asks.PtCtrl (reg r 10) (reg r 11))
identifier_read r number below = of_row r 11 (pt_ctrl_row r) number refl ∙ read_so (pt_ctrl_row r) (asks.PtCtrl (reg r 10) (reg r 11)) (grind (arith, nat_tests))

pub up_read : (r : Registers) → reg r 17 ≡ 12 → reg r 10 < 2 ^ 20 → reg r 11 ≡ 0 → call_of r ≡ Ok (asks.SmCtrl (reg r 10) Up)
up_read r number below action = of_row r 12 (sm_ctrl_row r) number refl ∙ read_so (sm_ctrl_row r) (asks.SmCtrl (reg r 10) Up) (grind (arith, nat_tests))

pub down_read : (r : Registers) → reg r 17 ≡ 12 → reg r 10 < 2 ^ 20 → reg r 11 ≡ 1 → call_of r ≡ Ok (asks.SmCtrl (reg r 10) Down)
down_read r number below action = of_row r 12 (sm_ctrl_row r) number refl ∙ read_so (sm_ctrl_row r) (asks.SmCtrl (reg r 10) Down) (grind (arith, nat_tests))

pub within_read : (r : Registers) → reg r 17 ≡ 12 → reg r 10 < 2 ^ 20 → reg r 11 ≡ 2 → call_of r ≡ Ok (asks.SmCtrl (reg r 10) (DownWithin (reg r 12)))
within_read r number below action =
    of_row r 12 (sm_ctrl_row r) number refl ∙ read_so (sm_ctrl_row r) (asks.SmCtrl (reg r 10) (DownWithin (reg r 12))) (grind (arith, nat_tests))

-- NO CALL

past : {A : Type 0} (xs : List A) (n : ℕ) → length xs ≤ n → slice_get xs n ≡ None
past [] n most = refl
past (x ∷ xs) zero most = absurd (omega (arith, most))
past (x ∷ xs) (suc n) most = past xs n (omega (arith, most))

pub unknown : (r : Registers) → length (rows r) ≤ reg r 17 → call_of r ≡ Err BadHyp
unfolding call_of
unknown r above = ap read_row (past (rows r) (reg r 17) above)

row_bad : (row : Option Call) (status : Status) → read_row (Some row) ≡ Err status → status ≡ BadPar
row_bad (Some asked) status is = absurd (cc)
row_bad None status is = cc

one_there : {A : Type 0} (xs : List A) (n : ℕ) → n < length xs → (x : A) × (slice_get xs n ≡ Some x)
one_there [] n below = absurd (omega (arith, below))
one_there (x ∷ xs) zero below = (x, refl)
one_there (x ∷ xs) (suc n) below = one_there xs n (omega (arith, below))

pub unread : (r : Registers) (status : Status) → reg r 17 < length (rows r) → call_of r ≡ Err status → status ≡ BadPar
unread r status below is =
    let there = one_there (rows r) (reg r 17) below in
    row_bad there.0 status (sym (of_row r (reg r 17) there.0 refl there.1) ∙ is)

-- FLAGS

pub call_flag : (r : Registers) (portal : ℕ) (flag : Bool) → call_of r ≡ Ok (asks.Call portal flag) → reg r 11 ≤ 1
call_flag r portal flag is =
    let number : reg r 17 ≡ 0 = sym (read_numbered r (asks.Call portal flag) is) in
    let row : call_row r ≡ Some (asks.Call portal flag) = row_gives (call_row r) (asks.Call portal flag) (sym (of_row r 0 (call_row r) number refl) ∙ is) in
    grind (arith, nat_tests, row)

pub revoke_flag : (r : Registers) (range : Range) (own : Bool) → call_of r ≡ Ok (asks.Revoke range own) → reg r 11 ≤ 1
revoke_flag r range own is =
    let number : reg r 17 ≡ 7 = sym (read_numbered r (asks.Revoke range own) is) in
    let row : revoke_row r ≡ Some (asks.Revoke range own) = row_gives (revoke_row r) (asks.Revoke range own) (sym (of_row r 7 (revoke_row r) number refl) ∙ is) in
    grind (arith, nat_tests, row)

pub action_flag : (r : Registers) (sm : ℕ) (action : SmAction) → call_of r ≡ Ok (asks.SmCtrl sm action) → reg r 11 ≤ 2
action_flag r sm action is =
    let number : reg r 17 ≡ 12 = sym (read_numbered r (asks.SmCtrl sm action) is) in
    let row : sm_ctrl_row r ≡ Some (asks.SmCtrl sm action) = row_gives (sm_ctrl_row r) (asks.SmCtrl sm action) (sym (of_row r 12 (sm_ctrl_row r) number refl) ∙ is) in
    grind (arith, nat_tests, row)
