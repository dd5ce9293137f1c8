-- The exit message by its parts, six words and the registers of two groups; and how these are written back.
use Rattle.std.proofs.Common.{◌≡◌, ℕ, List, set, ◌==◌, if◌then◌else◌, ap, ◌∙◌, arith}
use Rattle.std.proofs.lemmas.Bool.Decides.{nat_tests}
use Rattle.rv_model.specs.Registers.{Registers}
use Rattle.nova_range.specs.declared.mtd.Mtd.{Mtd}
use Rattle.nova_range.specs.declared.mtd.TheConstants.Mtd.{QUAL, PC, LOW, HIGH}
use Rattle.nova_utcb.specs.Messages.{filled, renewed, ruled, exit_word, exited, register_back, written_back}
use Rattle.nova_utcb.specs.Groups.{group_word, with_group, group_register, with_registers}
use Rattle.nova_utcb.proofs.Ruled.{ruled_alike, ruled_then, set_ruled, set_then}

put : (m xs : List ℕ) (f : ℕ → ℕ → ℕ) (k v : ℕ) → xs ≡ ruled f m → set xs k v ≡ ruled (λ i w. if i == k then v else f i w) m
put m xs f k v e = ap (λ ys. set ys k v) e ∙ set_then f m k v

after : (m xs : List ℕ) (f g : ℕ → ℕ → ℕ) → xs ≡ ruled f m → ruled g xs ≡ ruled (λ i w. g i (f i w)) m
after m xs f g e = ap (ruled g) e ∙ ruled_then f g m

-- the first words, by their numbers
abbrev head : Mtd → ℕ → ℕ → ℕ → ℕ → ℕ → ℕ
head mtd a b c i w =
    if i == 8 then 0 else if i == 7 then c else if i == 6 then b else if i == 5 then a else if i == 4 then mtd.0 else if i == 0 then 36 else w

heads : (mtd : Mtd) (a b c : ℕ) (m : List ℕ) → set (set (set (set (set (set m 0 36) 4 mtd.0) 5 a) 6 b) 7 c) 8 0 ≡ ruled (head mtd a b c) m
heads mtd a b c m = put m _ _ 8 0 (put m _ _ 7 c (put m _ _ 6 b (put m _ _ 5 a (put m _ _ 4 mtd.0 (set_ruled m 0 36)))))

alike : (mtd : Mtd) (q0 q1 : ℕ) (r : Registers) (i w : ℕ) → group_word mtd HIGH 16 32 r i (group_word mtd LOW 1 16 r i (head mtd (filled mtd QUAL q0) (filled mtd QUAL q1) (filled mtd PC r.pc) i w)) ≡ exit_word mtd q0 q1 r i w
alike mtd q0 q1 r i w = grind (arith, nat_tests)

pub exited_by_parts : (mtd : Mtd) (q0 q1 : ℕ) (r : Registers) (m : List ℕ) → with_group mtd HIGH 16 32 r (with_group mtd LOW 1 16 r (set (set (set (set (set (set m 0 36) 4 mtd.0) 5 (filled mtd QUAL q0)) 6 (filled mtd QUAL q1)) 7 (filled mtd PC r.pc)) 8 0)) ≡ exited mtd q0 q1 r m
unfolding exited
exited_by_parts mtd q0 q1 r m =
    after m _ _ (group_word mtd HIGH 16 32 r) (after m _ _ (group_word mtd LOW 1 16 r) (heads mtd (filled mtd QUAL q0) (filled mtd QUAL q1) (filled mtd PC r.pc) m))
    ∙ ruled_alike _ (exit_word mtd q0 q1 r) m (alike mtd q0 q1 r)

back : (m : List ℕ) (i w : ℕ) → group_register m HIGH 16 32 i (group_register m LOW 1 16 i w) ≡ register_back m i w
back m i w = grind (arith, nat_tests)

pub back_by_parts : (m : List ℕ) (r : Registers) → with_registers m HIGH 16 32 (with_registers m LOW 1 16 (record r { pc = renewed m PC 7 r.pc })) ≡ written_back m r
unfolding written_back
back_by_parts m r =
    ap (λ x. record { pc = renewed m PC 7 r.pc; x = x })
    (ruled_then (group_register m LOW 1 16) (group_register m HIGH 16 32) r.x ∙ ruled_alike _ (register_back m) r.x (back m))
