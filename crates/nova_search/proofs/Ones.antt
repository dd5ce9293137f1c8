-- States that are taken for one, by what alike states are.
use Rattle.std.proofs.Common.{◌≡◌, ℕ, ◌<◌, refl, ap, sym, ◌∙◌}
use Rattle.std.specs.Prelude.{true, None, ◌↔◌}
use Rattle.nova_model.specs.Choice.{is_quiet}
use Rattle.nova_model.specs.Runs.{after}
use Rattle.nova_model.specs.State.{KernelState}
use Rattle.nova_model.specs.Turn.{turn}
use Rattle.law_turns.specs.Keeping.{IsKept}
use Rattle.law_alike.specs.Alike.{AreStampsGiven, IsAlike, TellsNoTicks}
use Rattle.nova_search.specs.declared.merging.Merging.{Merging}
use Rattle.nova_search.specs.declared.merging.Merging.TheVariants.{Alike, Same}
use Rattle.nova_search.specs.Merged.{IsApt, IsOne, StaysOne}
use Rattle.nova_search.specs.Reductions.{IsStill}
use Rattle.nova_search.proofs.Covering.{idle_still}

pub one_itself : ((k : KernelState) → IsAlike k k) → (m : Merging) (s : KernelState) → IsOne m s s
one_itself alike Same s = refl
one_itself alike Alike s = alike s

pub one_back : ((k l : KernelState) → IsAlike k l → IsAlike l k) → (m : Merging) (s t : KernelState) → IsOne m s t → IsOne m t s
one_back alike Same s t is = sym is
one_back alike Alike s t is = alike s t is

pub one_through : ((k l n : KernelState) → IsAlike k l → IsAlike l n → IsAlike k n) → (m : Merging) (s t u : KernelState) → IsOne m s t → IsOne m t u → IsOne m s u
one_through alike Same s t u first second = first ∙ second
one_through alike Alike s t u first second = alike s t u first second

pub as_one : ((k l : KernelState) (cpu : ℕ) → IsKept k → IsKept l → AreStampsGiven k → AreStampsGiven l → IsAlike k l → TellsNoTicks k cpu → IsAlike (after k cpu) (after l cpu)) →
    (m : Merging) (s t : KernelState) (cpu : ℕ) → IsApt s → IsApt t → IsOne m s t → StaysOne m s cpu → IsOne m (after s cpu) (after t cpu)
as_one alike Same s t cpu own other is stays = ap (λ (x : KernelState). after x cpu) is
as_one alike Alike s t cpu own other is stays = alike s t cpu own.kept other.kept own.given other.given is stays

pub apt_on : ((k : KernelState) (cpu : ℕ) → IsKept k → IsKept (after k cpu)) → ((k : KernelState) (cpu : ℕ) → AreStampsGiven k → AreStampsGiven (after k cpu)) →
    (s : KernelState) (cpu : ℕ) → IsApt s → IsApt (after s cpu)
apt_on keeps gives s cpu apt = record { kept = keeps s cpu apt.kept; given = gives s cpu apt.given }

same_quiet : ((k l : KernelState) → IsAlike k l → is_quiet k ≡ is_quiet l) → (m : Merging) (s t : KernelState) → IsOne m s t → is_quiet s ≡ is_quiet t
same_quiet alike Same s t is = ap is_quiet is
same_quiet alike Alike s t is = alike s t is

same_cpus : (m : Merging) (s t : KernelState) → IsOne m s t → t.cpus ≡ s.cpus
same_cpus Same s t is = sym (ap (λ (x : KernelState). x.cpus) is)
same_cpus Alike s t is = sym (ap (λ (x : KernelState). x.cpus) is.rest)

pub still_as_one : ((k l : KernelState) → IsAlike k l → is_quiet k ≡ is_quiet l) → ((k : KernelState) → (is_quiet k ≡ true) ↔ ((cpu : ℕ) → cpu < k.cpus → turn k cpu ≡ None)) →
    (m : Merging) (s t : KernelState) → IsOne m s t → is_quiet s ≡ true → IsStill s.cpus t
still_as_one alike idle m s t is quiet = idle_still t ((idle t).0 (sym (same_quiet alike m s t is) ∙ quiet)) s.cpus (same_cpus m s t is)
