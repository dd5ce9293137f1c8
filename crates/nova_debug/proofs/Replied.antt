-- Whether turns may be run, by the blocks of their order.
use Rattle.std.proofs.Common.{◌≡◌, ℕ, ◌<◌, ◌≤◌, ◌==◌, Bool, true, false, ◌&&◌, List, length, nat_lt, nat_le, refl, ap, sym, ◌∙◌, arith}
use Rattle.std.specs.List.{list_all}
use Rattle.nova_model.specs.State.{KernelState}
use Rattle.nova_order.specs.Blocks.{IsOrder, is_within, total, turns}
use Rattle.nova_order.specs.declared.block.Block.{Block}
use Rattle.nova_order.proofs.BlockLemmas.{length_turns}
use Rattle.nova_order.proofs.TurnLemmas.{within_turns}
use Rattle.nova_debug.specs.Orders.{may_run}

pub late : (k : KernelState) (ts : List ℕ) (taken : ℕ) → taken ≡ k.turns → 0 < taken → may_run k ts ≡ false
late k ts taken is some =
    let begun : (k.turns == 0) ≡ false = grind (arith, is, some) in ap (λ (b : Bool). b && list_all (λ cpu. nat_lt cpu k.cpus) ts) begun

and_true : (a b : Bool) → b ≡ true → (a && b) ≡ a
and_true true b is = is
and_true false b is = refl

within_is : (cpus : ℕ) (blocks : List Block) → IsOrder blocks → is_within cpus (total blocks) blocks ≡ list_all (λ cpu. nat_lt cpu cpus) (turns blocks)
within_is cpus blocks order =
    let len = length_turns blocks in
    let few : nat_le (length (turns blocks)) (total blocks) ≡ true = grind (arith, len) in
    within_turns cpus (total blocks) blocks order ∙ and_true (list_all (λ cpu. nat_lt cpu cpus) (turns blocks)) (nat_le (length (turns blocks)) (total blocks)) few

-- where no turn was taken, they may be run exactly where the order is of processors that are there
pub within : (k : KernelState) (blocks : List Block) (taken cpus most : ℕ) (is : Bool) → IsOrder blocks → taken ≡ k.turns → taken ≤ 0 → cpus ≡ k.cpus → most ≡ total blocks
    → is ≡ is_within cpus most blocks → may_run k (turns blocks) ≡ is
within k blocks taken cpus most is order turns_are none cpus_are most_is within_are =
    let begun : (k.turns == 0) ≡ true = grind (arith, turns_are, none) in
    ap (λ (b : Bool). b && list_all (λ cpu. nat_lt cpu k.cpus) (turns blocks)) begun
    ∙ sym (within_is k.cpus blocks order)
    ∙ (λ i. is_within (sym cpus_are i) (sym most_is i) blocks)
    ∙ sym within_are
