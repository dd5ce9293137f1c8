use Rattle.law_texts.proofs.BenchLine.{bench_of, bench_of_one, bench_of_seven}
use Rattle.law_texts.proofs.OneOrder.{line_of_any}
use Rattle.law_texts.proofs.benches.benches_by_their_turns.Goals as goal

pub returns-clause-each : goal.returns-clause-each
returns-clause-each c = bench_of c.bytes_lie_where_they_are_laid.ensures

pub returns-clause-one : goal.returns-clause-one
returns-clause-one c = bench_of_one c.bytes_lie_where_they_are_laid.ensures

pub returns-clause-seven : goal.returns-clause-seven
returns-clause-seven c = bench_of_seven c.bytes_lie_where_they_are_laid.ensures

pub returns-clause-any : goal.returns-clause-any
returns-clause-any c = line_of_any
