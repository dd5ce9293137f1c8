use Rattle.std.proofs.Common.{◌≡◌, ℕ, List, [], ◌∷◌, ◌++◌, map, refl, ap, ◌∙◌}
use Rattle.std.specs.Prelude.{codes}
use Rattle.std.specs.Fmt.{digits}
use Rattle.nova_gsi.specs.Firings.{line}
use Rattle.nova_model.specs.Boot.{boot}
use Rattle.nova_model.specs.Choice.{choice}
use Rattle.nova_model.specs.State.{KernelState}
use Rattle.nova_model.specs.Times.{next_entry}
use Rattle.nova_report.specs.Report.{budget_lines, console_lines, context_lines, derivation_lines, event_lines, register_words, report, run_line, semaphore_lines, source_lines}
use Rattle.nova_report.specs.Words.{hexadecimal}
use Rattle.law_texts.specs.Rows.{a_raise, a_start}
use Rattle.law_texts.proofs.rows.reports_by_their_columns.Goals as goal

abbrev k : KernelState
k = boot a_start

run_is : run_line k ≡ codes "run open 0\n"
unfolding digits choice next_entry register_words hexadecimal
run_is = refl

event_is : event_lines (a_raise ∷ []) ≡ codes "at 1 0 1 raise 7 3\n"
unfolding digits choice next_entry register_words hexadecimal
event_is = refl

context_is : context_lines k ≡ codes "ec 1 global ready 00000008 x2=0000000c\n"
unfolding digits choice next_entry register_words hexadecimal
context_is = refl

budget_is : budget_lines k ≡ codes "sc 2 0 0\n"
unfolding digits choice next_entry register_words hexadecimal
budget_is = refl

semaphore_is : semaphore_lines k ≡ codes "sm 3 0 0\n"
unfolding digits choice next_entry register_words hexadecimal
semaphore_is = refl

source_is : source_lines (map (λ a. a.alarm) k.times.alarms) (a_raise ∷ []) ≡ codes "source 0 0 3 0 0\n"
unfolding digits line
source_is = refl

console_is : console_lines k ≡ codes "console 0 -\n"
unfolding digits choice next_entry register_words hexadecimal
console_is = refl

derivation_is : derivation_lines k ≡ codes "cap 0 - 0 mem 0 1 7 0\ncap 1 - 0 mem 2 0 3 2\ncap 2 - 0 obj 0 0 1 0\ncap 3 - 0 obj 1 0 7 1\ncap 4 - 0 obj 2 0 1 2\ncap 5 - 0 obj 3 0 3 3\n"
unfolding digits choice next_entry register_words hexadecimal
derivation_is = refl

pub returns : goal.returns
unfolding report
returns c =
    ap (λ (x : List ℕ). (x ++ (event_lines (a_raise ∷ []) ++ (context_lines k ++ (budget_lines k ++ (semaphore_lines k ++ (source_lines (map (λ a. a.alarm) k.times.alarms) (a_raise ∷ []) ++ (console_lines k ++ (derivation_lines k))))))))) run_is
    ∙ ap (λ (x : List ℕ). (codes "run open 0\n" ++ (x ++ (context_lines k ++ (budget_lines k ++ (semaphore_lines k ++ (source_lines (map (λ a. a.alarm) k.times.alarms) (a_raise ∷ []) ++ (console_lines k ++ (derivation_lines k))))))))) event_is
    ∙ ap (λ (x : List ℕ). (codes "run open 0\n" ++ (codes "at 1 0 1 raise 7 3\n" ++ (x ++ (budget_lines k ++ (semaphore_lines k ++ (source_lines (map (λ a. a.alarm) k.times.alarms) (a_raise ∷ []) ++ (console_lines k ++ (derivation_lines k))))))))) context_is
    ∙ ap (λ (x : List ℕ). (codes "run open 0\n" ++ (codes "at 1 0 1 raise 7 3\n" ++ (codes "ec 1 global ready 00000008 x2=0000000c\n" ++ (x ++ (semaphore_lines k ++ (source_lines (map (λ a. a.alarm) k.times.alarms) (a_raise ∷ []) ++ (console_lines k ++ (derivation_lines k))))))))) budget_is
    ∙ ap (λ (x : List ℕ). (codes "run open 0\n" ++ (codes "at 1 0 1 raise 7 3\n" ++ (codes "ec 1 global ready 00000008 x2=0000000c\n" ++ (codes "sc 2 0 0\n" ++ (x ++ (source_lines (map (λ a. a.alarm) k.times.alarms) (a_raise ∷ []) ++ (console_lines k ++ (derivation_lines k))))))))) semaphore_is
    ∙ ap (λ (x : List ℕ). (codes "run open 0\n" ++ (codes "at 1 0 1 raise 7 3\n" ++ (codes "ec 1 global ready 00000008 x2=0000000c\n" ++ (codes "sc 2 0 0\n" ++ (codes "sm 3 0 0\n" ++ (x ++ (console_lines k ++ (derivation_lines k))))))))) source_is
    ∙ ap (λ (x : List ℕ). (codes "run open 0\n" ++ (codes "at 1 0 1 raise 7 3\n" ++ (codes "ec 1 global ready 00000008 x2=0000000c\n" ++ (codes "sc 2 0 0\n" ++ (codes "sm 3 0 0\n" ++ (codes "source 0 0 3 0 0\n" ++ (x ++ (derivation_lines k))))))))) console_is
    ∙ ap (λ (x : List ℕ). (codes "run open 0\n" ++ (codes "at 1 0 1 raise 7 3\n" ++ (codes "ec 1 global ready 00000008 x2=0000000c\n" ++ (codes "sc 2 0 0\n" ++ (codes "sm 3 0 0\n" ++ (codes "source 0 0 3 0 0\n" ++ (codes "console 0 -\n" ++ x)))))))) derivation_is
