use Rattle.std.proofs.Common.{rules, ◌≡◌, ◌∙◌, ℕ, ap₂, sym, slice_index, List, arith}
use Rattle.nova_compare.proofs.Places.{below_none, below_on, same_numbers}
use Rattle.nova_compare.proofs.contexts.same_registers.Goals as goal

pub loop-i-init : goal.loop-i-init
loop-i-init c =
    below_on (λ (n : ℕ). slice_index c.args.a.now.x n ≡ slice_index c.args.b.now.x n) 0 (below_none _)
    c.requires

pub loop-i-preserved : goal.loop-i-preserved
loop-i-preserved c =
    let low = c.loop-i.auto.i in
    let same = c.if-get.false in
    let a = c.get.ensures in
    let b = c.get-in-loop-i.ensures in
    let here : slice_index c.args.a.now.x c.loop-i.i ≡ slice_index c.args.b.now.x c.loop-i.i = grind (arith, low, same, a, b) in
    below_on (λ (n : ℕ). slice_index c.args.a.now.x n ≡ slice_index c.args.b.now.x n) c.loop-i.i c.loop-i.invariant here

pub returns : goal.returns
returns c =
    let over = c.loop-i-test.false in
    let count = c.count_registers.ensures.count in
    let same : c.args.a.now.x ≡ c.args.b.now.x =
    same_numbers c.args.a.now.x c.args.b.now.x (count ∙ sym c.count_registers-2.ensures.count) (λ n less. c.loop-i.invariant n (omega (arith, less, over, count))) in
    let pc : c.args.a.now.pc ≡ c.args.b.now.pc = search rules in
    ap₂ (λ (p : ℕ) (xs : List ℕ). record { pc = p; x = xs }) pc same
