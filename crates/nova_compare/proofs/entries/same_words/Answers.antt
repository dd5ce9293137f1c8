use Rattle.std.proofs.Common.{rules, ◌≡◌, ◌∙◌, ℕ, sym, slice_index, arith}
use Rattle.nova_compare.proofs.Places.{below_none, below_on, same_numbers}
use Rattle.nova_compare.proofs.entries.same_words.Goals as goal

pub loop-i-init : goal.loop-i-init
loop-i-init c = below_none _

pub loop-i-preserved : goal.loop-i-preserved
loop-i-preserved c =
    let here : slice_index c.args.a.now c.loop-i.i ≡ slice_index c.args.b.now c.loop-i.i = search rules in
    below_on (λ (n : ℕ). slice_index c.args.a.now n ≡ slice_index c.args.b.now n) c.loop-i.i c.loop-i.invariant here

pub returns : goal.returns
returns c =
    let over = c.loop-i-test.false in
    let count = c.count_words.ensures in
    same_numbers c.args.a.now c.args.b.now (count ∙ sym c.count_words-2.ensures) (λ n less. c.loop-i.invariant n (omega (arith, less, over, count)))
