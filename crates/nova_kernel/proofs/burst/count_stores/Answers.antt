use Rattle.std.proofs.Common.{arith, ◌≡◌, ◌<◌, ◌≤◌, ◌==◌, ℕ, List, length, refl, ap, sym, ◌∙◌, subst}
use Rattle.std.specs.Prelude.{drop, slice_index_or, true, false}
use Rattle.law_leases.specs.Paging.{stores_seen}
use Rattle.nova_model.specs.Inputs.{is_covered_for}
use Rattle.nova_model.specs.State.{KernelState, pd_of}
use Rattle.nova_turn.specs.StirCounts.{StirTable, numbers_from}
use Rattle.nova_turn.specs.Parts.{state_of}
use Rattle.nova_turn.specs.declared.parts.Parts.{Parts}
use Rattle.nova_turn.proofs.Alone.{tables_alone}
use Rattle.nova_kernel.proofs.Stores.{all_seen, but, but_all, but_none, fewer_seen, next_fits, next_left, next_raised, none_for, numbers_now, some_for, stores_for}
use Rattle.nova_kernel.proofs.burst.count_stores.Goals.{then-guest-ec, else-guest-ec}
use Rattle.nova_kernel.proofs.burst.count_stores.Goals as goal

pub loop-i-init : goal.loop-i-init
loop-i-init c = record { counts = but_all (stores_for (state_of c.args.parts.now) c.args.ec c.args.pages.now) c.args.parts.now.guests.counts; rest = refl }

pub bounds-numbers-i : goal.bounds-numbers-i
bounds-numbers-i c =
    let same = ap (λ (ns : List ℕ). length ns) (c.numbers.ensures ∙ numbers_now _ c.args.parts.now.guests.counts c.loop-i.parts.guests.counts c.loop-i.invariant.counts ∙ sym c.numbers-i-end.ensures) in
    let before = c.loop-i-test.true in
    grind (arith, same, before)

pub rise_by-requires : goal.rise_by-requires
rise_by-requires c =
    let all = c.args.parts.now.guests.counts in
    let more = stores_for (state_of c.args.parts.now) c.args.ec c.args.pages.now in
    let seen = stores_seen (λ f. true) c.args.pages.now in
    let is = c.numbers.ensures ∙ numbers_now (but more (drop c.loop-i.i (numbers_from 0 all))) all c.loop-i.parts.guests.counts c.loop-i.invariant.counts in
    let same = ap (λ (ns : List ℕ). length ns) (is ∙ sym c.numbers-i-end.ensures) in
    let before = c.loop-i-test.true in
    let low : c.loop-i.i < length c.numbers.result.now = grind (arith, same, before) in
    let less : c.stores_seen-count.result ≤ seen =
    subst (λ (n : ℕ). n ≤ seen) (sym c.stores_seen-count.ensures) (fewer_seen (is_covered_for (state_of c.loop-i.parts) c.pd.result) c.args.pages.now) in
    next_fits more all c.loop-i.parts.guests.counts c.numbers.result.now c.loop-i.i c.stores_seen-count.result seen is low c.loop-i.invariant.counts less c.requires.stores
    (c.requires.counts (slice_index_or c.numbers.result.now c.loop-i.i 0))

pub loop-i-preserved : goal.loop-i-preserved
loop-i-preserved c =
    let all = c.args.parts.now.guests.counts in
    let k : KernelState = state_of c.args.parts.now in
    let more = stores_for k c.args.ec c.args.pages.now in
    let m = slice_index_or c.numbers.result.now c.loop-i.i 0 in
    let is = c.numbers.ensures ∙ numbers_now (but more (drop c.loop-i.i (numbers_from 0 all))) all c.loop-i.parts.guests.counts c.loop-i.invariant.counts in
    let same = ap (λ (ns : List ℕ). length ns) (is ∙ sym c.numbers-i-end.ensures) in
    let before = c.loop-i-test.true in
    let low : c.loop-i.i < length c.numbers.result.now = grind (arith, same, before) in
    elim c.if-guest-ec.branch [
      | then-guest-ec w ↦
          let test = w.if-guest-ec.true in
          let other : (m == c.args.ec) ≡ false = grind (arith, test) in
          let seen : w.stores_seen-count.result ≡ more m =
          w.stores_seen-count.ensures
          ∙ (ap (λ (n : ℕ). stores_seen (is_covered_for (state_of c.loop-i.parts) n) c.args.pages.now) w.pd.ensures
          ∙ (ap (λ (p : Parts). stores_seen (is_covered_for (state_of p) (pd_of (state_of p) m)) c.args.pages.now) c.loop-i.invariant.rest ∙ some_for k c.args.ec c.args.pages.now m other)) in
          record {
            counts = ap (λ (p : Parts). p.guests.counts) w.parts-is ∙ ap (λ (t : StirTable). t.counts) w.rise_by.ensures
                ∙ next_raised more all c.loop-i.parts.guests.counts c.numbers.result.now c.loop-i.i w.stores_seen-count.result is low c.loop-i.invariant.counts seen;
            rest = tables_alone c.args.parts.now c.loop-i.parts c.if-guest-ec.parts w.rise_by.new.self c.loop-i.invariant.rest w.parts-is;
          }
      | else-guest-ec w ↦
          let test = w.if-guest-ec.false in
          let same_one : (m == c.args.ec) ≡ true = grind (arith, test) in
          record {
            counts = ap (λ (p : Parts). p.guests.counts) w.parts-is
                ∙ next_left more all c.loop-i.parts.guests.counts c.numbers.result.now c.loop-i.i is low c.loop-i.invariant.counts (none_for k c.args.ec c.args.pages.now m same_one);
            rest = tables_alone c.args.parts.now c.loop-i.parts c.if-guest-ec.parts c.loop-i.parts.guests c.loop-i.invariant.rest w.parts-is;
          }
    ]

pub returns-clause-counts : goal.returns-clause-counts
returns-clause-counts c =
    let all = c.args.parts.now.guests.counts in
    let more = stores_for (state_of c.args.parts.now) c.args.ec c.args.pages.now in
    let same = ap (λ (ns : List ℕ). length ns) c.numbers-i-end.ensures in
    let after = c.loop-i-test.false in
    c.loop-i.invariant.counts
    ∙ (but_none more all c.loop-i.i (grind (arith, same, after)) ∙ all_seen (state_of c.args.parts.now) c.args.ec c.args.pages.now 0 all)
