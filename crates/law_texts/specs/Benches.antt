-- How a bench ends.
use Rattle.std.specs.Prelude.{◌≡◌, ℕ, ◌+◌, ◌*◌, true, List, ◌++◌, codes, replicate}
use Rattle.std.specs.Fmt.{decimal}
use Rattle.nova_model.specs.Choice.{is_quiet}
use Rattle.nova_model.specs.Runs.{IsFreeOfIdle, run, trace}
use Rattle.nova_model.specs.State.{KernelState}
use Rattle.nova_report.specs.Summary.{summary}
use Rattle.nova_report.specs.Words.{line_feed}

-- after `turns` turns of its only processor, none of them idle, the kernel is quiet, and this is the line
pub record EndsSo (number : ℕ) (k : KernelState) (turns : ℕ) (line : List ℕ) : Type 0 where
  pub no_idle : IsFreeOfIdle k (replicate turns 0)
  pub quiet : is_quiet (run k (replicate turns 0)) ≡ true
  pub said : summary number (run k (replicate turns 0)) (trace k (replicate turns 0)) ≡ line

-- the line of a bench: three turns before the passes, nine a pass, one for each page that is taken back, and six
abbrev pub bench_turns : ℕ → ℕ
bench_turns number = 10 * number + 9

abbrev pub bench_line : ℕ → List ℕ
bench_line number = codes "bench " ++ (decimal number ++ (codes " turns " ++ (decimal (bench_turns number) ++ (codes " made " ++ (decimal number
    ++ (codes " gone " ++ (decimal number ++ (codes " caps " ++ (decimal (number + 4) ++ line_feed)))))))))
