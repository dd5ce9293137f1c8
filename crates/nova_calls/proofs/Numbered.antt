-- Each call that registers are read as stands in the row of its number, so that a law on calls looks at their rows alone.
use Rattle.std.proofs.Common.{◌≡◌, ℕ, zero, suc, ◌+◌, List, [], ◌∷◌, slice_get, Option, Some, None, Ok, IfSome, refl, ap, subst, ◌∙◌, arith}
use Rattle.std.proofs.lemmas.Bool.Decides.{nat_tests}
use Rattle.rv_model.specs.Registers.{Registers, reg}
use Rattle.nova_calls.specs.Hypercalls.{call_row, create_pd_row, create_ec_row, create_sc_row, create_pt_row, create_sm_row, revoke_row, lookup_row, ec_ctrl_row, sc_ctrl_row, pt_ctrl_row, sm_ctrl_row, rows, read_row, call_of}
use Rattle.nova_calls.specs.Numbers.{number_of}
use Rattle.nova_calls.specs.declared.call.Call.{Call}

-- the row gives calls of the number alone
abbrev HasNumber : ℕ → Option Call → Type 0
HasNumber n row = IfSome row (λ c. number_of c ≡ n)

-- the rows give calls of the numbers from `n` on
abbrev AreNumbered : ℕ → List (Option Call) → Type 0
AreNumbered n [] = Unit {0}
AreNumbered n (row ∷ rows) = HasNumber n row × AreNumbered (suc n) rows

found : (rows : List (Option Call)) (first n : ℕ) → AreNumbered first rows → (c : Call) → read_row (slice_get rows n) ≡ Ok c → number_of c ≡ first + n
found [] first n numbered c e = cc
found (Some row ∷ rows) first zero numbered c e = let same : row ≡ c = cc in omega (arith, ap number_of same, numbered.0)
found (None ∷ rows) first zero numbered c e = cc
found (row ∷ rows) first (suc n) numbered c e = omega (arith, found rows (suc first) n numbered.1 c e)

call_numbered : (r : Registers) → HasNumber 0 (call_row r)
call_numbered r = grind (arith, nat_tests)

create_pd_numbered : (r : Registers) → HasNumber 2 (create_pd_row r)
create_pd_numbered r = grind (arith, nat_tests)

create_ec_numbered : (r : Registers) → HasNumber 3 (create_ec_row r)
create_ec_numbered r = grind (arith, nat_tests)

create_sc_numbered : (r : Registers) → HasNumber 4 (create_sc_row r)
create_sc_numbered r = grind (arith, nat_tests)

create_pt_numbered : (r : Registers) → HasNumber 5 (create_pt_row r)
create_pt_numbered r = grind (arith, nat_tests)

create_sm_numbered : (r : Registers) → HasNumber 6 (create_sm_row r)
create_sm_numbered r = grind (arith, nat_tests)

revoke_numbered : (r : Registers) → HasNumber 7 (revoke_row r)
revoke_numbered r = grind (arith, nat_tests)

lookup_numbered : (r : Registers) → HasNumber 8 (lookup_row r)
lookup_numbered r = grind (arith, nat_tests)

ec_ctrl_numbered : (r : Registers) → HasNumber 9 (ec_ctrl_row r)
ec_ctrl_numbered r = grind (arith, nat_tests)

sc_ctrl_numbered : (r : Registers) → HasNumber 10 (sc_ctrl_row r)
sc_ctrl_numbered r = grind (arith, nat_tests)

pt_ctrl_numbered : (r : Registers) → HasNumber 11 (pt_ctrl_row r)
pt_ctrl_numbered r = grind (arith, nat_tests)

sm_ctrl_numbered : (r : Registers) → HasNumber 12 (sm_ctrl_row r)
sm_ctrl_numbered r = grind (arith, nat_tests)

pub read_numbered : (r : Registers) (c : Call) → call_of r ≡ Ok c → number_of c ≡ reg r 17
unfolding call_of
read_numbered r c e =
    let numbered = found (rows r) 0 (reg r 17) (call_numbered r, (refl, (create_pd_numbered r, (create_ec_numbered r, (create_sc_numbered r, (create_pt_numbered r, (create_sm_numbered r, (revoke_numbered r, (lookup_numbered r, (ec_ctrl_numbered r, (sc_ctrl_numbered r, (pt_ctrl_numbered r, (sm_ctrl_numbered r, tt))))))))))))) c e in
    omega (arith, numbered)

read_some : (o : Option (Option Call)) (c : Call) → read_row o ≡ Ok c → o ≡ Some (Some c)
read_some (Some (Some asked)) c e = let same : asked ≡ c = cc in ap (λ x. Some (Some x)) same
read_some (Some None) c e = absurd cc
read_some None c e = absurd cc

-- it is what its own row gives
pub read_in_row : (r : Registers) (c : Call) → call_of r ≡ Ok c → slice_get (rows r) (number_of c) ≡ Some (Some c)
unfolding call_of
read_in_row r c e = ap (slice_get (rows r)) (read_numbered r c e) ∙ read_some (slice_get (rows r) (reg r 17)) c e

-- what holds of whatever a row gives holds of it
pub holds_by_row : (P : Call → Type 0) (row : Option Call) (c : Call) → Some row ≡ Some (Some c) → IfSome row P → P c
holds_by_row P (Some asked) c at holds = let same : asked ≡ c = cc in subst P same holds
holds_by_row P None c at holds = absurd cc
