-- A bench, from its first turn on.
use Rattle.std.proofs.Common.{◌≡◌, ℕ, zero, suc, ◌+◌, ◌*◌, ◌^◌, ◌<◌, ◌≤◌, List, [], ◌∷◌, replicate, refl, ap, ◌∙◌, subst, arith}
use Rattle.std.specs.Prelude.{Option, None, slice_get}
use Rattle.rv_model.specs.Step.{Went, decoded, one}
use Rattle.rv_model.specs.declared.instr.Instr.{Instr}
use Rattle.nova_guest.specs.Frames.{read_in}
use Rattle.law_forest.proofs.Changes.{boot_run_forest}
use Rattle.nova_model.specs.AddressSpaces.{space}
use Rattle.nova_model.specs.Boot.{Image, Scenario, boot, laid}
use Rattle.nova_model.specs.Deeds.{address_space}
use Rattle.nova_model.specs.Memory.{Memory}
use Rattle.nova_model.specs.State.{KernelState, no_transfer, no_words}
use Rattle.nova_model.specs.declared.context.State.TheVariants.{Ready}
use Rattle.nova_model.specs.declared.deed.Deed.TheVariants.{Steps}
use Rattle.rv_asm.specs.Name.{upper_part}
use Rattle.law_bench.proofs.Program.{program_words}
use Rattle.law_texts.specs.Words.{LieFrom}
use Rattle.law_texts.proofs.BenchStates.{Accounts, Tables, kernel}
use Rattle.law_texts.proofs.BenchTurn.{IsTaken, paid_once}
use Rattle.law_texts.proofs.BenchMade.{with_made}
use Rattle.law_texts.proofs.BenchPass.{HoldsCode, at, file, first_selected, plain, thread}
use Rattle.law_texts.proofs.BenchEnds.{Ends, turn_ends}
use Rattle.law_texts.proofs.BenchRevoke.{revoke_order}
use Rattle.law_texts.proofs.BenchPasses.{IsBetween, pass_order, passes_end}
use Rattle.law_texts.proofs.BenchProgram.{code_there, number_there, together}

-- THE ORDER

revoke_zeros : (j : ℕ) → revoke_order j ≡ replicate (j + 3) 0
revoke_zeros zero = refl
revoke_zeros (suc j) =
    ap (λ (o : List ℕ). 0 ∷ o) (revoke_zeros j) ∙ ap (λ (n : ℕ). replicate n 0) (let same : suc (j + 3) ≡ suc j + 3 = omega arith in same)

pass_zeros : (j p : ℕ) → pass_order j p ≡ replicate (10 * j + p + 6) 0
pass_zeros zero p =
    ap (λ (o : List ℕ). 0 ∷ 0 ∷ 0 ∷ o) (revoke_zeros p)
    ∙ ap (λ (n : ℕ). replicate n 0) (let same : suc (suc (suc (p + 3))) ≡ 10 * 0 + p + 6 = omega arith in same)
pass_zeros (suc j) p =
    ap (λ (o : List ℕ). 0 ∷ 0 ∷ 0 ∷ 0 ∷ 0 ∷ 0 ∷ 0 ∷ 0 ∷ 0 ∷ o) (pass_zeros j (p + 1))
    ∙ ap (λ (n : ℕ). replicate n 0)
    (let same : suc (suc (suc (suc (suc (suc (suc (suc (suc (10 * j + (p + 1) + 6))))))))) ≡ 10 * suc j + p + 6 = omega arith in same)

-- the turns of a bench of this number
pub bench_order : (j : ℕ) → 0 ∷ 0 ∷ 0 ∷ pass_order (suc j) 0 ≡ replicate (10 * suc j + 9) 0
bench_order j =
    ap (λ (o : List ℕ). 0 ∷ 0 ∷ 0 ∷ o) (pass_zeros (suc j) 0)
    ∙ ap (λ (n : ℕ). replicate n 0) (let same : suc (suc (suc (10 * suc j + 0 + 6))) ≡ 10 * suc j + 9 = omega arith in same)

-- THE BEGINNING

abbrev pub one_image : Image → Scenario
one_image image = record { cpus = 1; ram = 1; consoles = 0; root = record { pc = 0; sp = 0; priority = 1; quantum = 10 }; images = image ∷ []; sources = [] }

abbrev pub empty_memory : Memory
empty_memory = record { ram = replicate 2 (replicate 4096 0); log = [] }

abbrev pub no_tables : Tables
no_tables = record { objects = []; contexts = []; messages = []; transfers = []; budgets = []; identifiers = []; semaphores = []; guests = []; deadlines = [] }

abbrev pub first_accounts : Accounts
first_accounts = record { budget = record { left = 10; stamp = 0; ticks = 0 }; stamp = 1; turns = 0; stirs = 0; clock = 0 }

pub begins : (image : Image) → boot (one_image image) ≡ kernel first_accounts (thread Ready 0 (file 0 0 0 0 0)) no_words no_transfer no_tables (with_made []) 4 (laid empty_memory image.address image.bytes)
begins image = refl

between_first : (image : Image) (m : Memory) → HoldsCode m → IsBetween no_words no_tables [] 4 m 64 0
between_first image m code = record {
  tables = record { objects = tt; contexts = tt; guests = tt; deadlines = tt };
  code = code;
  made = tt;
  from = omega arith;
  old = omega arith;
  forest = boot_run_forest (one_image image) [];
  half = refl;
  whole = refl;
}

module _ (image : Image) (m : Memory) (n : ℕ) (small : n < 2 ^ 20) (lie : LieFrom m 0 (program_words n)) where
  abbrev is : IsBetween no_words no_tables [] 4 m 64 0
  is = between_first image m (code_there m n small lie)

  abbrev first : Accounts → ℕ → List ℕ → KernelState
  first = at no_words no_tables [] 4 m is.tables is.code

  upper_loaded : IsTaken (first first_accounts 0 (file 0 0 0 0 0)) Steps (first (paid_once first_accounts) 4 (file (upper_part n) 0 0 0 0))
  unfolding one
  upper_loaded =
      plain no_words no_tables [] 4 m is.tables is.code first_accounts 0 4 (file 0 0 0 0 0) (file (upper_part n) 0 0 0 0)
      (ap (λ (i : Option Instr). decoded (record { pc = 0; x = file 0 0 0 0 0 }) (space (address_space (first first_accounts 0 (file 0 0 0 0 0)) 1)) (read_in (slice_get m.ram 0) 0 4) i) (number_there m n small lie).upper)

  lower_added : IsTaken (first (paid_once first_accounts) 4 (file (upper_part n) 0 0 0 0)) Steps (first (paid_once (paid_once first_accounts)) 8 (file n 0 0 0 0))
  unfolding one
  lower_added =
      plain no_words no_tables [] 4 m is.tables is.code (paid_once first_accounts) 4 8 (file (upper_part n) 0 0 0 0) (file n 0 0 0 0)
      (ap (λ (i : Option Instr). decoded (record { pc = 4; x = file (upper_part n) 0 0 0 0 }) (space (address_space (first (paid_once first_accounts) 4 (file (upper_part n) 0 0 0 0)) 1)) (read_in (slice_get m.ram 0) 4 4) i) (number_there m n small lie).lower
      ∙ ap (λ (v : ℕ). Went (record { pc = 8; x = file v 0 0 0 0 }) None) (together n small))

pub bench_ends : (image : Image) (m : Memory) (j : ℕ) → suc j + 64 ≤ 2 ^ 20 → LieFrom m 0 (program_words (suc j)) →
    Ends (replicate (10 * suc j + 9) 0) (kernel first_accounts (thread Ready 0 (file 0 0 0 0 0)) no_words no_transfer no_tables (with_made []) 4 m) (suc j) (suc j) (suc j + 4)
bench_ends image m j small lie =
    let few : suc j < 2 ^ 20 = omega (arith, small) in
    let start = between_first image m (code_there m (suc j) few lie) in
    let a1 : Accounts = paid_once first_accounts in
    let a2 : Accounts = paid_once a1 in
    let same : 0 + suc j ≡ suc j = omega arith in
    subst (λ (g : ℕ). Ends (replicate (10 * suc j + 9) 0) (first image m (suc j) few lie first_accounts 0 (file 0 0 0 0 0)) (suc j) g (g + 4)) same
    (subst (λ (o : List ℕ). Ends o (first image m (suc j) few lie first_accounts 0 (file 0 0 0 0 0)) (suc j) (0 + suc j) (0 + suc j + 4)) (bench_order j)
    (turn_ends (first image m (suc j) few lie first_accounts 0 (file 0 0 0 0 0)) (first image m (suc j) few lie a1 4 (file (upper_part (suc j)) 0 0 0 0)) Steps (0 ∷ 0 ∷ pass_order (suc j) 0)
    (suc j) (0 + suc j) (0 + suc j + 4) (suc j) (0 + suc j) (upper_loaded image m (suc j) few lie) refl (omega arith) (omega arith)
    (turn_ends (first image m (suc j) few lie a1 4 (file (upper_part (suc j)) 0 0 0 0)) (first image m (suc j) few lie a2 8 (file (suc j) 0 0 0 0)) Steps (0 ∷ pass_order (suc j) 0)
    (suc j) (0 + suc j) (0 + suc j + 4) (suc j) (0 + suc j) (lower_added image m (suc j) few lie) refl (omega arith) (omega arith)
    (turn_ends (first image m (suc j) few lie a2 8 (file (suc j) 0 0 0 0)) (first image m (suc j) few lie (paid_once a2) 12 (file (suc j) 64 0 0 0)) Steps (pass_order (suc j) 0)
    (suc j) (0 + suc j) (0 + suc j + 4) (suc j) (0 + suc j)
    (first_selected no_words no_tables [] 4 m start.tables start.code a2 (suc j) 0 0 0 0) refl (omega arith) (omega arith)
    (passes_end j no_words no_tables [] 4 m 64 0 start (paid_once a2) 0 0 0 (omega (arith, small)))))))
