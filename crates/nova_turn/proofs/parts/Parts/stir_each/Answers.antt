use Rattle.std.proofs.Common.{arith, ◌-◌, ◌^◌, ◌<◌, ℕ, List, length, refl, ap, sym, ◌∙◌}
use Rattle.std.specs.Prelude.{drop, slice_index_or}
use Rattle.nova_turn.specs.Parts.{state_of}
use Rattle.nova_deeds.specs.StirCounts.{StirTable}
use Rattle.nova_deeds.specs.Stirs.{is_stirring}
use Rattle.nova_deeds.specs.StirCounts.{numbers_from}
use Rattle.nova_turn.specs.declared.parts.Parts.{Parts}
use Rattle.nova_deeds.proofs.StirTables.{but, but_all, but_none, next_count, next_left, next_stirred, numbers_now}
use Rattle.nova_turn.proofs.Alone.{tables_alone}
use Rattle.nova_turn.proofs.parts.Parts.stir_each.Goals.{then-is_stirring, else-is_stirring}
use Rattle.nova_turn.proofs.parts.Parts.stir_each.Goals as goal

pub loop-i-init : goal.loop-i-init
loop-i-init c = record {
  counts = but_all (is_stirring (state_of c.args.self.now) c.args.self.now.reach.written c.args.ec c.args.deed) c.args.self.now.guests.counts;
  rest = refl;
}

pub bounds-numbers-i : goal.bounds-numbers-i
bounds-numbers-i c =
    let same = ap (λ (ns : List ℕ). length ns) (c.numbers.ensures ∙ numbers_now _ c.args.self.now.guests.counts c.loop-i.self.guests.counts c.loop-i.invariant.counts ∙ sym c.numbers-i-end.ensures) in
    let before = c.loop-i-test.true in
    grind (arith, same, before)

pub rise-requires : goal.rise-requires
rise-requires c =
    let all = c.args.self.now.guests.counts in
    let s = is_stirring (state_of c.args.self.now) c.args.self.now.reach.written c.args.ec c.args.deed in
    let is = c.numbers.ensures ∙ numbers_now (but s (drop c.loop-i.i (numbers_from 0 all))) all c.loop-i.self.guests.counts c.loop-i.invariant.counts in
    let same = ap (λ (ns : List ℕ). length ns) (is ∙ sym c.numbers-i-end.ensures) in
    let before = c.loop-i-test.true in
    next_count s all c.loop-i.self.guests.counts c.numbers.result.now c.loop-i.i (2 ^ 64 - 1) is (grind (arith, same, before)) c.loop-i.invariant.counts (omega arith)
    (c.requires (slice_index_or c.numbers.result.now c.loop-i.i 0))

pub loop-i-preserved : goal.loop-i-preserved
loop-i-preserved c =
    let all = c.args.self.now.guests.counts in
    let s = is_stirring (state_of c.args.self.now) c.args.self.now.reach.written c.args.ec c.args.deed in
    let m = slice_index_or c.numbers.result.now c.loop-i.i 0 in
    let is = c.numbers.ensures ∙ numbers_now (but s (drop c.loop-i.i (numbers_from 0 all))) all c.loop-i.self.guests.counts c.loop-i.invariant.counts in
    let same = ap (λ (ns : List ℕ). length ns) (is ∙ sym c.numbers-i-end.ensures) in
    let before = c.loop-i-test.true in
    let low : c.loop-i.i < length c.numbers.result.now = grind (arith, same, before) in
    let asked = c.is_stirring.ensures ∙ ap (λ (p : Parts). is_stirring (state_of p) p.reach.written c.args.ec c.args.deed m) c.loop-i.invariant.rest in
    elim c.if-is_stirring.branch [
      | then-is_stirring w ↦ record {
        counts = ap (λ (p : Parts). p.guests.counts) w.self-is ∙ ap (λ (t : StirTable). t.counts) w.rise.ensures
            ∙ next_stirred s all c.loop-i.self.guests.counts c.numbers.result.now c.loop-i.i is low c.loop-i.invariant.counts (sym asked ∙ w.if-is_stirring.true);
        rest = tables_alone c.args.self.now c.loop-i.self c.if-is_stirring.self w.rise.new.self c.loop-i.invariant.rest w.self-is;
      }
      | else-is_stirring w ↦ record {
        counts = ap (λ (p : Parts). p.guests.counts) w.self-is
            ∙ next_left s all c.loop-i.self.guests.counts c.numbers.result.now c.loop-i.i is low c.loop-i.invariant.counts (sym asked ∙ w.if-is_stirring.false);
        rest = tables_alone c.args.self.now c.loop-i.self c.if-is_stirring.self c.loop-i.self.guests c.loop-i.invariant.rest w.self-is;
      }
    ]

pub returns-clause-counts : goal.returns-clause-counts
returns-clause-counts c =
    let all = c.args.self.now.guests.counts in
    let s = is_stirring (state_of c.args.self.now) c.args.self.now.reach.written c.args.ec c.args.deed in
    let same = ap (λ (ns : List ℕ). length ns) c.numbers-i-end.ensures in
    let after = c.loop-i-test.false in
    c.loop-i.invariant.counts ∙ but_none s all c.loop-i.i (grind (arith, same, after))

pub returns-clause-rest : goal.returns-clause-rest
returns-clause-rest c = c.loop-i.invariant.rest
