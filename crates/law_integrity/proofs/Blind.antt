-- A turn of a context of a closed set looks at no registers and no message words of any other.
use Rattle.std.proofs.Common.{◌≡◌, ℕ, List, ◌++◌, subst}
use Rattle.std.specs.Prelude.{Some}
use Rattle.nova_model.specs.Boot.{Scenario, boot}
use Rattle.nova_model.specs.Runs.{after, run}
use Rattle.nova_model.specs.State.{KernelState, context}
use Rattle.nova_model.specs.declared.context.Mark.{Mark}
use Rattle.law_isolation.specs.Sound.{IsSound}
use Rattle.law_isolation.proofs.Runs.{reached_sound}
use Rattle.law_turns.proofs.Serving.{awaited}
use Rattle.law_origins.specs.Giving.{Acts}
use Rattle.law_origins.proofs.Lists.{run_append}
use Rattle.law_integrity.specs.Confined.{AreSeparate, IsClosed, IsMember, grown}
use Rattle.law_integrity.specs.Disclosure.{DifferInRegisters, DifferInWords, GivesItems, AreWordsUnread, ItsOwn, ReadsWords, TakesItems}
use Rattle.law_integrity.proofs.Confined.{separate_along}
use Rattle.law_integrity.proofs.Confining.{acting_one, acts_one, waits_edge}
use Rattle.law_integrity.proofs.Telling as registers
use Rattle.law_integrity.proofs.Unread as words

-- a caller that is served by a context of a closed set is of the set
pub unread_in : (k : KernelState) (S : ℕ → Type 0) (cpu ec n : ℕ) → IsSound k → IsClosed k S → Acts k cpu ec → IsMember k S ec → (IsMember k S n → ⊥) → AreWordsUnread k cpu n
unread_in k S cpu ec n sound closed acts_ m none other also reads = by_reads (subst (λ (e : ℕ). ReadsWords k e n) (acts_one k cpu other ec also acts_) reads)
  where
    caller_in : (came : Mark) → (context k ec).caller ≡ Some (n, came) → IsMember k S n
    caller_in came serves = closed.edges n ec (waits_edge k n ec (awaited _ k.contexts ec n came (acting_one k cpu ec acts_) serves sound.kept.served).waits) m

    by_reads : ReadsWords k ec n → ⊥
    by_reads (ItsOwn same) = none (subst (IsMember k S) same m)
    by_reads (TakesItems is came serves) = none (caller_in came serves)
    by_reads (GivesItems is came serves) = none (caller_in came serves)

pub registers_blind : (s : Scenario) (before turns : List ℕ) (S T : ℕ → Type 0) (cpu ec n : ℕ) (l : KernelState) → AreSeparate (run (boot s) before) S T →
    Acts (run (run (boot s) before) turns) cpu ec → IsMember (run (run (boot s) before) turns) (grown (run (boot s) before) S turns) ec →
    (IsMember (run (run (boot s) before) turns) (grown (run (boot s) before) S turns) n → ⊥) → DifferInRegisters (run (run (boot s) before) turns) l n →
    DifferInRegisters (after (run (run (boot s) before) turns) cpu) (after l cpu) n
registers_blind s before turns S T cpu ec n l apart acts_ m none differ =
    registers.turn_differ k l cpu n differ (λ also. absurd (none (subst (IsMember k (grown (run (boot s) before) S turns)) (acts_one k cpu ec n acts_ also) m)))
  where
    k : KernelState
    k = run (run (boot s) before) turns

pub words_blind : (s : Scenario) (before turns : List ℕ) (S T : ℕ → Type 0) (cpu ec n : ℕ) (l : KernelState) → AreSeparate (run (boot s) before) S T →
    Acts (run (run (boot s) before) turns) cpu ec → IsMember (run (run (boot s) before) turns) (grown (run (boot s) before) S turns) ec →
    (IsMember (run (run (boot s) before) turns) (grown (run (boot s) before) S turns) n → ⊥) → DifferInWords (run (run (boot s) before) turns) l n →
    DifferInWords (after (run (run (boot s) before) turns) cpu) (after l cpu) n
words_blind s before turns S T cpu ec n l apart acts_ m none differ =
    words.turn_differ k l cpu n differ
    (unread_in k (grown (run (boot s) before) S turns) cpu ec n sound (separate_along s before turns S T apart).first acts_ m none)
  where
    k : KernelState
    k = run (run (boot s) before) turns

    sound : IsSound k
    sound = subst IsSound (run_append (boot s) before turns) (reached_sound s (before ++ turns))
