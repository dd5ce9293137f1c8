use Rattle.std.proofs.Common.{rules, arith, ◌≡◌, ◌<◌, ◌+◌, ◌∙◌, ◌-◌, ap, replicate}
use Rattle.nova_gsi.specs.declared.lines.Seen.{Seen}
use Rattle.nova_gsi.specs.Passed.{seen, seen_all}
use Rattle.nova_gsi.proofs.Passing.{clock_more, fired_more, seen_next}
use Rattle.nova_gsi.proofs.lines.see_times.Goals as goal

pub loop-i-preserved : goal.loop-i-preserved
loop-i-preserved c =
    let s = c.args.source.now in
    let n = c.args.number in
    let e = c.args.event in
    let more : c.loop-i.i < c.args.count = search rules in
    let is : c.see-now.result ≡ seen s n c.loop-i.now e = search rules in
    let clock = clock_more s n c.loop-i.now e in
    let fired = fired_more s n c.loop-i.now e in
    let clocks = c.loop-i.invariant.clock in
    let firings = c.loop-i.invariant.fired in
    let now_clock = ap (λ (x : Seen). x.clock) is in
    let now_fired = ap (λ (x : Seen). x.fired) is in record {
      left =
          ap (λ (x : Seen). seen_all s n x (replicate (c.args.count - (c.loop-i.i + 1)) e)) is
          ∙ seen_next s n c.args.count c.loop-i.i c.loop-i.now e more ∙ c.loop-i.invariant.left;
      clock = omega (arith, now_clock, clock, clocks);
      fired = omega (arith, now_fired, fired, firings);
    }
