-- A choice of which it is known which context acts.
use Rattle.std.proofs.Common.{◌≡◌, ℕ, zero, suc, List, [], ◌∷◌, ap, sym, ◌∙◌, subst}
use Rattle.std.specs.Prelude.{Option, Some, option_map, slice_get}
use Rattle.nova_model.specs.Choice.{choice}
use Rattle.nova_model.specs.State.{KernelState}
use Rattle.nova_sched.specs.Queues.{Schedule}
use Rattle.nova_sched.specs.Queues as queues
use Rattle.nova_choice.proofs.Choosing.{led_chosen}
use Rattle.nova_choice.specs.Choices.{chosen_of, led, led_by}
use Rattle.nova_choice.specs.Schedules.{AreQueued, actor_of}
use Rattle.nova_choice.specs.declared.choice.Chosen.{Chosen}
use Rattle.nova_turn.specs.Known.{AreKnown, IsKnown}

pub known_at : (k : KernelState) (known : List (Option Chosen)) (i : ℕ) (o : Option Chosen) → AreKnown k known → slice_get known i ≡ Some o → IsKnown k o
known_at k [] i o all is = absurd cc
known_at k (x ∷ xs) zero o all is = subst (IsKnown k) (let same : x ≡ o = cc in same) all.0
known_at k (x ∷ xs) (suc i) o all is = known_at k xs i o all.1 is

-- a scheduling context that the queues choose, and the context that acts in its turns
pub found_chosen : (k : KernelState) (s : Schedule) (cpu sc : ℕ) (o : Option ℕ) → AreQueued k s → Some sc ≡ queues.choose s cpu →
    o ≡ actor_of k.contexts (slice_get k.objects sc) → led_by sc o ≡ option_map chosen_of (choice k cpu)
found_chosen k s cpu sc o queued is acts = ap (led_by sc) acts ∙ (ap (led k) is ∙ led_chosen k s cpu queued)

-- one of which that is known
pub known_chosen : (k : KernelState) (s : Schedule) (cpu sc : ℕ) (c : Chosen) → AreQueued k s → Some sc ≡ queues.choose s cpu → c.sc ≡ sc → IsKnown k (Some c) →
    Some c ≡ option_map chosen_of (choice k cpu)
known_chosen k s cpu sc c queued is same known =
    found_chosen k s cpu c.sc (Some c.actor) queued (ap (λ (n : ℕ). Some n) same ∙ is) (sym known)
