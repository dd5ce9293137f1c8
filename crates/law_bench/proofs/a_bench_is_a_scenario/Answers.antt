use Rattle.std.proofs.Common.{refl}
use Rattle.law_bench.proofs.Valid.{bench, bench_read}
use Rattle.law_bench.proofs.a_bench_is_a_scenario.Goals as goal

pub returns : goal.returns
returns c = λ number small. (bench number, bench_read number small, refl)
