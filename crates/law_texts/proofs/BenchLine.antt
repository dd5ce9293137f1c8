-- The line of each bench.
use Rattle.std.proofs.Common.{◌≡◌, ℕ, zero, suc, ◌+◌, ◌*◌, ◌<◌, ◌≤◌, List, [], ◌++◌, length, replicate, refl, ap, sym, ◌∙◌, subst, arith}
use Rattle.std.specs.Prelude.{codes, Result, Ok}
use Rattle.std.specs.Fmt.{decimal, digits}
use Rattle.law_bench.proofs.Program.{program_words}
use Rattle.law_bench.proofs.Valid.{bench, bench_read}
use Rattle.nova_boot.proofs.Lying.{empty_whole}
use Rattle.nova_boot.specs.Boot.{scenario_of}
use Rattle.nova_boot.specs.Laid.{IsLaid}
use Rattle.nova_frames.specs.Store.{AreWhole}
use Rattle.nova_gen.specs.Generated.{generated}
use Rattle.nova_model.specs.Boot.{Image, boot, laid}
use Rattle.nova_model.specs.Memory.{Memory}
use Rattle.nova_model.specs.Runs.{run, trace}
use Rattle.nova_model.specs.State.{KernelState, no_transfer, no_words}
use Rattle.nova_model.specs.declared.context.State.TheVariants.{Ready}
use Rattle.nova_report.specs.Summary.{count, is_gone, is_made, summary}
use Rattle.nova_report.specs.Words.{line_feed}
use Rattle.nova_scenario.specs.Scenario.{scenario}
use Rattle.nova_scenario.specs.Words.{bytes_of}
use Rattle.nova_scenario.specs.declared.scenario.Scenario.{Scenario}
use Rattle.law_texts.specs.Benches.{EndsSo, bench_line, bench_turns}
use Rattle.law_texts.specs.Words.{LieFrom}
use Rattle.law_texts.proofs.BenchEnds.{Ends}
use Rattle.law_texts.proofs.BenchStates.{kernel}
use Rattle.law_texts.proofs.BenchMade.{with_made}
use Rattle.law_texts.proofs.BenchPass.{file, thread}
use Rattle.law_texts.proofs.BenchWhole.{begins, bench_ends, empty_memory, first_accounts, no_tables}
use Rattle.law_texts.proofs.Bytes.{bytes_count, words_lie}

abbrev line_of : ℕ → ℕ → ℕ → ℕ → ℕ → List ℕ
line_of number turns made gone caps = codes "bench " ++ (decimal number ++ (codes " turns " ++ (decimal turns ++ (codes " made " ++ (decimal made
    ++ (codes " gone " ++ (decimal gone ++ (codes " caps " ++ (decimal caps ++ line_feed)))))))))

abbrev zeros : ℕ → List ℕ
zeros n = replicate n 0

length_same : (n : ℕ) → length (zeros n) ≡ n
length_same zero = refl
length_same (suc n) = let rest = length_same n in omega (arith, rest)

-- what ends so writes its line
module _ (number : ℕ) (k : KernelState) (zero_turns : k.turns ≡ 0) (ends : Ends (replicate (bench_turns number) 0) k number number (number + 4)) where
  abbrev order : List ℕ
  order = replicate (bench_turns number) 0

  abbrev gone : ℕ
  gone = count is_gone (trace k order)

  abbrev caps : ℕ
  caps = length (run k order).delegations.list

  turns_are : (run k order).turns ≡ bench_turns number
  turns_are = let t = ends.turns in let size = length_same (bench_turns number) in omega (arith, t, size, zero_turns)

  line_is : summary number (run k order) (trace k order) ≡ bench_line number
  unfolding summary
  line_is =
      ap (λ (n : ℕ). line_of number n (count is_made (trace k order)) gone caps) turns_are
      ∙ (ap (λ (n : ℕ). line_of number (bench_turns number) n gone caps) ends.made
      ∙ (ap (λ (n : ℕ). line_of number (bench_turns number) number n caps) ends.gone
      ∙ ap (λ (n : ℕ). line_of number (bench_turns number) number number n) ends.caps))

  ends_so : EndsSo number k (bench_turns number) (bench_line number)
  ends_so = record { no_idle = ends.free; quiet = ends.quiet; said = line_is }

-- that bytes lie where they are laid
abbrev pub Lays : Type 0
Lays = (m : Memory) (address : ℕ) (bytes : List ℕ) → AreWhole m.ram → address + length bytes ≤ 4096 * length m.ram → IsLaid m address bytes (laid m address bytes)

module _ (lays : Lays) (number : ℕ) where
  abbrev its_memory : Memory
  its_memory = laid empty_memory 0 (bytes_of (program_words number))

  there : LieFrom its_memory 0 (program_words number)
  there =
      words_lie its_memory 0 (program_words number)
      (lays empty_memory 0 (bytes_of (program_words number)) (empty_whole 2) (let size = bytes_count (program_words number) in omega (arith, size))).laid

same_ok : {A B : Type 0} (r : Result A B) (is other : A) → r ≡ Ok is → r ≡ Ok other → is ≡ other
same_ok r is other good too = cc

abbrev its_image : ℕ → Image
its_image number = record { address = 0; bytes = bytes_of (program_words number) }

abbrev begun : ℕ → KernelState
begun number = kernel first_accounts (thread Ready 0 (file 0 0 0 0 0)) no_words no_transfer no_tables (with_made []) 4 (laid empty_memory 0 (bytes_of (program_words number)))

bench_kernel : Lays → (j : ℕ) → suc j ≤ 90000 → EndsSo (suc j) (boot (scenario_of (bench (suc j)))) (bench_turns (suc j)) (bench_line (suc j))
bench_kernel lays j most =
    subst (λ (k : KernelState). EndsSo (suc j) k (bench_turns (suc j)) (bench_line (suc j))) (sym (begins (its_image (suc j))))
    (ends_so (suc j) (begun (suc j)) refl (bench_ends (its_image (suc j)) (its_memory lays (suc j)) j (omega (arith, most)) (there lays (suc j))))

pub bench_of : Lays → (number : ℕ) (s : Scenario) → 0 < number → number ≤ 90000 → scenario (generated number) ≡ Ok s → EndsSo number (boot (scenario_of s)) (bench_turns number) (bench_line number)
bench_of lays zero s some most is = absurd (omega (arith, some))
bench_of lays (suc j) s some most is =
    subst (λ (from : Scenario). EndsSo (suc j) (boot (scenario_of from)) (bench_turns (suc j)) (bench_line (suc j)))
    (same_ok (scenario (generated (suc j))) (bench (suc j)) s (bench_read (suc j) (omega (arith, most))) is) (bench_kernel lays j most)

-- two of them in full

line_one : bench_line 1 ≡ codes "bench 1 turns 19 made 1 gone 1 caps 5\n"
unfolding digits
line_one = refl

line_seven : bench_line 7 ≡ codes "bench 7 turns 79 made 7 gone 7 caps 11\n"
unfolding digits
line_seven = refl

pub bench_of_one : Lays → (s : Scenario) → scenario (generated 1) ≡ Ok s → EndsSo 1 (boot (scenario_of s)) 19 (codes "bench 1 turns 19 made 1 gone 1 caps 5\n")
bench_of_one lays s is = subst (EndsSo 1 (boot (scenario_of s)) 19) line_one (bench_of lays 1 s (omega arith) (omega arith) is)

pub bench_of_seven : Lays → (s : Scenario) → scenario (generated 7) ≡ Ok s → EndsSo 7 (boot (scenario_of s)) 79 (codes "bench 7 turns 79 made 7 gone 7 caps 11\n")
bench_of_seven lays s is = subst (EndsSo 7 (boot (scenario_of s)) 79) line_seven (bench_of lays 7 s (omega arith) (omega arith) is)
