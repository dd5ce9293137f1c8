-- Registers `first` to `end - 1` of a group, in the words of a message and back. Register i has word 8 + i.
use Rattle.std.specs.Prelude.{ℕ, ◌+◌, ◌-◌, ◌&&◌, nat_le, nat_lt, if◌then◌else◌, List}
use Rattle.rv_model.specs.Registers.{Registers, reg}
use Rattle.nova_range.specs.declared.mtd.Mtd.{Mtd}
use Rattle.nova_utcb.specs.Messages.{filled, renewed, ruled}

abbrev pub group_word : Mtd → Mtd → ℕ → ℕ → Registers → ℕ → ℕ → ℕ
group_word mtd group first end r i stays =
    if nat_le (8 + first) i && nat_lt i (8 + end) then filled mtd group (reg r (i - 8)) else stays

abbrev pub with_group : Mtd → Mtd → ℕ → ℕ → Registers → List ℕ → List ℕ
with_group mtd group first end r m = ruled (group_word mtd group first end r) m

abbrev pub group_register : List ℕ → Mtd → ℕ → ℕ → ℕ → ℕ → ℕ
group_register m group first end i stays = if nat_le first i && nat_lt i end then renewed m group (8 + i) stays else stays

abbrev pub with_registers : List ℕ → Mtd → ℕ → ℕ → Registers → Registers
with_registers m group first end r = record r { x = ruled (group_register m group first end) r.x }
