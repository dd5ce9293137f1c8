use Rattle.std.proofs.Common.{◌≡◌, ◌∙◌, ℕ, Option, Some, None, slice_get, slice_index_or, ap, sym, arith}
use Rattle.std.proofs.lemmas.Option.{slice_get-get_or}
use Rattle.nova_compare.proofs.Places.{below_none, below_on, same_lists}
use Rattle.nova_compare.proofs.tally.same_stamps.Goals as goal

abbrev none : Option ℕ
none = None

pub loop-i-init : goal.loop-i-init
loop-i-init c = below_none _

pub loop-i-preserved : goal.loop-i-preserved
loop-i-preserved c =
    let less = c.loop-i-test.true in
    let long = c.if-a-b.false in
    let same : slice_index_or c.args.a.now c.loop-i.i none ≡ slice_index_or c.args.b.now c.loop-i.i none = c.if-not-same_count.ensures in
    let here : slice_get c.args.a.now c.loop-i.i ≡ slice_get c.args.b.now c.loop-i.i =
    slice_get-get_or c.args.a.now c.loop-i.i none less ∙ ap (λ (o : Option ℕ). Some o) same ∙ sym (slice_get-get_or c.args.b.now c.loop-i.i none (omega (arith, less, long))) in
    below_on (λ (n : ℕ). slice_get c.args.a.now n ≡ slice_get c.args.b.now n) c.loop-i.i c.loop-i.invariant here

pub returns : goal.returns
returns c =
    let over = c.loop-i-test.false in
    same_lists c.args.a.now c.args.b.now c.if-a-b.false (λ n less. c.loop-i.invariant n (omega (arith, less, over)))
