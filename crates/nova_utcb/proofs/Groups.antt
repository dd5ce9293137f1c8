-- Registers of a group, one after another.
use Rattle.std.proofs.Common.{◌≡◌, ◌≤◌, ℕ, ◌+◌, true, false, List, set, ◌==◌, if◌then◌else◌, ap, ◌∙◌, arith}
use Rattle.std.proofs.lemmas.Bool.{cases_eq}
use Rattle.std.proofs.lemmas.Bool.Decides.{nat_tests}
use Rattle.rv_model.specs.Registers.{Registers, reg, with_reg}
use Rattle.nova_range.specs.declared.mtd.Mtd.{Mtd}
use Rattle.nova_utcb.specs.Messages.{word, filled, groups_in, ruled}
use Rattle.nova_range.specs.Mtds.{names}
use Rattle.nova_utcb.specs.Groups.{group_word, with_group, group_register, with_registers}
use Rattle.nova_utcb.proofs.Ruled.{ruled_alike, ruled_same, set_then}

pub no_words : (mtd group : Mtd) (first : ℕ) (r : Registers) (m : List ℕ) → m ≡ with_group mtd group first first r m
no_words mtd group first r m = ruled_same (group_word mtd group first first r) m (λ i w. grind (arith, nat_tests))

pub word_more : (mtd group : Mtd) (first end : ℕ) (r : Registers) (m : List ℕ) → first ≤ end → set (with_group mtd group first end r m) (8 + end) (filled mtd group (reg r end)) ≡ with_group mtd group first (end + 1) r m
word_more mtd group first end r m order =
    set_then (group_word mtd group first end r) m (8 + end) (filled mtd group (reg r end))
    ∙ ruled_alike (λ i w. if i == 8 + end then filled mtd group (reg r end) else group_word mtd group first end r i w) (group_word mtd group first (end + 1) r) m (λ i w. alike i w)
  where
    alike : (i w : ℕ) → (if i == 8 + end then filled mtd group (reg r end) else group_word mtd group first end r i w) ≡ group_word mtd group first (end + 1) r i w
    alike i w = grind (arith, nat_tests, cases_eq i (8 + end))

pub no_registers : (m : List ℕ) (group : Mtd) (first : ℕ) (r : Registers) → r ≡ with_registers m group first first r
no_registers m group first r = ap (λ x. record r { x = x }) (ruled_same (group_register m group first first) r.x (λ i w. grind (arith, nat_tests)))

pub unnamed : (m : List ℕ) (group : Mtd) (first end : ℕ) (r : Registers) → names (groups_in m) group ≡ false → r ≡ with_registers m group first end r
unnamed m group first end r isnt = ap (λ x. record r { x = x }) (ruled_same (group_register m group first end) r.x (λ i w. grind (arith, nat_tests)))

put_register : (m : List ℕ) (group : Mtd) (first end : ℕ) (xs : List ℕ) → names (groups_in m) group ≡ true → first ≤ end → set (ruled (group_register m group first end) xs) end (word m (8 + end)) ≡ ruled (group_register m group first (end + 1)) xs
put_register m group first end xs is order =
    set_then (group_register m group first end) xs end (word m (8 + end))
    ∙ ruled_alike (λ i w. if i == end then word m (8 + end) else group_register m group first end i w) (group_register m group first (end + 1)) xs (λ i w. alike i w)
  where
    alike : (i w : ℕ) → (if i == end then word m (8 + end) else group_register m group first end i w) ≡ group_register m group first (end + 1) i w
    alike i w = grind (arith, nat_tests, cases_eq i end)

pub register_more : (m : List ℕ) (group : Mtd) (first end : ℕ) (r : Registers) → names (groups_in m) group ≡ true → 1 ≤ first → first ≤ end → with_reg (with_registers m group first end r) end (word m (8 + end)) ≡ with_registers m group first (end + 1) r
register_more m group first end r is start order = grind (arith, nat_tests, put_register m group first end r.x is order)
