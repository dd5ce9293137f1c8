use Rattle.std.proofs.Common.{◌≡◌, ◌↔◌, IsTrue, nat_lt, subst, rules}
use Rattle.nova_range.specs.Ranges.{SharesPlace, overlaps}
use Rattle.nova_range.proofs.Meetings.{shared}
use Rattle.nova_range.proofs.range.overlap.Goals as goal

pub returns-then-a-end-clause-shared : goal.returns-then-a-end-clause-shared
returns-then-a-end-clause-shared c =
    let test : overlaps c.args.a c.args.b ≡ nat_lt c.args.b.base c.end-then-a-end.result = search rules in
    subst (λ t. IsTrue t ↔ SharesPlace c.args.a c.args.b) test (shared c.args.a c.args.b)
