use Rattle.std.proofs.Common.{rules, ◌≡◌, ◌≤◌, length, arith}
use Rattle.std.specs.Prelude.{true, false}
use Rattle.nova_io.specs.declared.faults.FetchFault.TheVariants.{Failed, TooLong, Memory}
use Rattle.nova_io.proofs.Pieces.{Came-none, more-few, more-some, more-front, more-came, ends-few, ends-whole, ends-came, not-long, part-came, some-came, only-none, only-again, fault_is}
use Rattle.nova_io.proofs.whole.fetch_all.Goals as goal

pub loop-depot-init : goal.loop-depot-init
loop-depot-init g c = record {
  few = search rules;
  front = search rules;
  came = Came-none _ _ _ _ c.new-bytes.ensures.items;
  only = only-none _ _ _ c.args.name.now _;
}

pub loop-depot-smaller : goal.loop-depot-smaller
loop-depot-smaller g c =
    let files = g.D.Depot.files c.args.depot.now in
    let more : c.in_ok-fetch_piece.field-0 ≡ true = search rules in
    let few : length c.loop-depot.bytes.items ≤ c.args.most = search rules in
    let some = more-some g.D.Depot.gave g.D.Depot.fetch_failed files (g.D.Depot.files c.loop-depot.depot) c.args.name.now c.args.most c.args.depot.now c.loop-depot.depot c.fetch_piece.new.depot c.loop-depot.bytes.items c.fetch_piece.new.bytes.items
    c.loop-depot.invariant.only.same c.in_ok-fetch_piece.field-0 c.in_ok-fetch_piece.ensures.next more in
    omega (arith, few, some)

pub loop-depot-preserved : goal.loop-depot-preserved
loop-depot-preserved g c =
    let files = g.D.Depot.files c.args.depot.now in
    let told = g.D.Depot.files c.loop-depot.depot in
    let is : c.in_ok-fetch_piece.field-0 ≡ true = search rules in
    let next = c.in_ok-fetch_piece.ensures.next in
    let same = c.loop-depot.invariant.only.same in
    record {
      few = more-few g.D.Depot.gave g.D.Depot.fetch_failed files told c.args.name.now c.args.most c.args.depot.now c.loop-depot.depot c.fetch_piece.new.depot c.loop-depot.bytes.items c.fetch_piece.new.bytes.items same _ next is;
      front = more-front g.D.Depot.gave g.D.Depot.fetch_failed files told c.args.name.now c.args.most c.args.depot.now c.loop-depot.depot c.fetch_piece.new.depot c.loop-depot.bytes.items c.fetch_piece.new.bytes.items same c.loop-depot.invariant.front _ next is;
      came = more-came g.D.Depot.gave g.D.Depot.fetch_failed files told c.args.name.now c.args.most c.args.depot.now c.loop-depot.depot c.fetch_piece.new.depot c.loop-depot.bytes.items c.fetch_piece.new.bytes.items same c.loop-depot.invariant.came _ next is;
      only = only-again _ _ _ c.args.name.now _ _ _ c.loop-depot.invariant.only c.fetch_piece.ensures.only;
    }

pub returns-then-not-branch-clause-whole : goal.returns-then-not-branch-clause-whole
returns-then-not-branch-clause-whole g c =
    let is : c.in_ok-fetch_piece.field-0 ≡ false = search rules in
    ends-whole g.D.Depot.gave g.D.Depot.fetch_failed (g.D.Depot.files c.args.depot.now) (g.D.Depot.files c.loop-depot.depot) c.args.name.now c.args.most c.args.depot.now c.loop-depot.depot c.fetch_piece.new.depot c.loop-depot.bytes.items c.fetch_piece.new.bytes.items
    c.loop-depot.invariant.only.same c.loop-depot.invariant.front _ c.in_ok-fetch_piece.ensures.next is

pub returns-then-not-branch-clause-fits : goal.returns-then-not-branch-clause-fits
returns-then-not-branch-clause-fits g c =
    let is : c.in_ok-fetch_piece.field-0 ≡ false = search rules in
    let few : length c.loop-depot.bytes.items ≤ c.args.most = search rules in
    let fits = ends-few g.D.Depot.gave g.D.Depot.fetch_failed (g.D.Depot.files c.args.depot.now) (g.D.Depot.files c.loop-depot.depot) c.args.name.now c.args.most c.args.depot.now c.loop-depot.depot c.fetch_piece.new.depot c.loop-depot.bytes.items c.fetch_piece.new.bytes.items
    c.loop-depot.invariant.only.same _ c.in_ok-fetch_piece.ensures.next is few in
    search (rules, fits)

pub returns-then-not-branch-clause-came : goal.returns-then-not-branch-clause-came
returns-then-not-branch-clause-came g c =
    let is : c.in_ok-fetch_piece.field-0 ≡ false = search rules in
    ends-came g.D.Depot.gave g.D.Depot.fetch_failed (g.D.Depot.files c.args.depot.now) (g.D.Depot.files c.loop-depot.depot) c.args.name.now c.args.most c.args.depot.now c.loop-depot.depot c.fetch_piece.new.depot c.loop-depot.bytes.items c.fetch_piece.new.bytes.items
    c.loop-depot.invariant.only.same c.loop-depot.invariant.came _ c.in_ok-fetch_piece.ensures.next is

pub returns-in_err-fetch_piece-clause-too_long : goal.returns-in_err-fetch_piece-clause-too_long
returns-in_err-fetch_piece-clause-too_long g c = λ is.
    absurd (not-long g.D.Depot.gave g.D.Depot.fetch_failed (g.D.Depot.files c.args.depot.now) (g.D.Depot.files c.loop-depot.depot) c.args.name.now c.args.most c.args.depot.now c.loop-depot.depot c.fetch_piece.new.depot c.loop-depot.bytes.items c.fetch_piece.new.bytes.items
    c.loop-depot.invariant.only.same _ c.in_err-fetch_piece.ensures.next (fault_is c.from_residual.result c.in_err-fetch_piece.field-0.0 TooLong c.from_residual.ensures.1 is))

pub returns-in_err-fetch_piece-clause-more_came : goal.returns-in_err-fetch_piece-clause-more_came
returns-in_err-fetch_piece-clause-more_came g c = λ is.
    absurd (not-long g.D.Depot.gave g.D.Depot.fetch_failed (g.D.Depot.files c.args.depot.now) (g.D.Depot.files c.loop-depot.depot) c.args.name.now c.args.most c.args.depot.now c.loop-depot.depot c.fetch_piece.new.depot c.loop-depot.bytes.items c.fetch_piece.new.bytes.items
    c.loop-depot.invariant.only.same _ c.in_err-fetch_piece.ensures.next (fault_is c.from_residual.result c.in_err-fetch_piece.field-0.0 TooLong c.from_residual.ensures.1 is))

pub returns-in_err-fetch_piece-clause-part_came : goal.returns-in_err-fetch_piece-clause-part_came
returns-in_err-fetch_piece-clause-part_came g c =
    let few : length c.loop-depot.bytes.items ≤ c.args.most = search rules in
    λ is. part-came g.D.Depot.gave g.D.Depot.fetch_failed (g.D.Depot.files c.args.depot.now) (g.D.Depot.files c.loop-depot.depot) c.args.name.now c.args.most c.args.depot.now c.loop-depot.depot c.fetch_piece.new.depot c.loop-depot.bytes.items c.fetch_piece.new.bytes.items
    c.loop-depot.invariant.only.same c.loop-depot.invariant.came few _ c.in_err-fetch_piece.ensures.next (fault_is c.from_residual.result c.in_err-fetch_piece.field-0.0 Failed c.from_residual.ensures.1 is)

pub returns-in_err-fetch_piece-clause-some_came : goal.returns-in_err-fetch_piece-clause-some_came
returns-in_err-fetch_piece-clause-some_came g c = λ is.
    some-came g.D.Depot.gave g.D.Depot.fetch_failed (g.D.Depot.files c.args.depot.now) (g.D.Depot.files c.loop-depot.depot) c.args.name.now c.args.most c.args.depot.now c.loop-depot.depot c.fetch_piece.new.depot c.loop-depot.bytes.items c.fetch_piece.new.bytes.items
    c.loop-depot.invariant.only.same c.loop-depot.invariant.came _ c.in_err-fetch_piece.ensures.next (fault_is c.from_residual.result c.in_err-fetch_piece.field-0.0 Memory c.from_residual.ensures.1 is)
