-- How a queue is kept: the first and the last that wait, how many they are, and by number of an execution context the one that waits after it.
use Rattle.std.specs.Prelude.{◌≡◌, ◌<◌, ◌≤◌, ◌-◌, ◌^◌, ◌==◌, if◌then◌else◌, ℕ, zero, suc, true, List, [], ◌∷◌, map, length, slice_get, slice_index, Option, Some, None}
use Rattle.nova_model.specs.State.{Semaphore, entry}
use Rattle.nova_model.specs.Semaphores.{Semaphores, waits}
use Rattle.nova_sem.specs.Sound.{AreSound}
use Rattle.nova_sem.specs.declared.counter.Counter.{Counter}

-- as many execution contexts as the number says, from `ec` on, each followed by that which it is linked to
abbrev pub linked : List ℕ → ℕ → ℕ → List ℕ
linked links ec zero = []
linked links ec (suc n) = ec ∷ linked links (slice_index links ec) n

-- the context to which as many links lead from `ec`
abbrev pub led_to : List ℕ → ℕ → ℕ → ℕ
led_to links ec zero = ec
led_to links ec (suc n) = led_to links (slice_index links ec) n

-- of as many contexts after `at`, the last before `ec`
abbrev pub before : List ℕ → ℕ → ℕ → ℕ → ℕ
before links at ec zero = at
before links at ec (suc n) = if slice_index links at == ec then at else before links (slice_index links at) ec n

-- a semaphore of a counter: with the queue to which the links lead
abbrev pub with_queue : List ℕ → Counter → Semaphore
with_queue links c = record { count = c.count; waiting = linked links c.first c.waiting }

abbrev pub entry_with_queue : List ℕ → Option Counter → Option Semaphore
entry_with_queue links None = None
entry_with_queue links (Some c) = Some (with_queue links c)

abbrev pub all_with_queues : List ℕ → List (Option Counter) → Semaphores
all_with_queues links counters = map (entry_with_queue links) counters

-- a counter at which none waits
abbrev pub new_counter : ℕ → Counter
new_counter count = record { count = count; waiting = 0; first = 0; last = 0 }

-- the counter of a number
abbrev pub counter_at : List (Option Counter) → ℕ → Option Counter
counter_at counters sm = entry (slice_get counters sm)

-- of a queue that isn't empty the links lead from the first to the last
abbrev pub IsEnded : List ℕ → Counter → Type 0
IsEnded links c = (n : ℕ) → c.waiting ≡ suc n → c.last ≡ led_to links c.first n

pub record AreLinked (links : List ℕ) (counters : List (Option Counter)) : Type 0 where
  pub ended : (sm : ℕ) (c : Counter) → counter_at counters sm ≡ Some c → IsEnded links c
  pub within : (sm ec : ℕ) → waits (all_with_queues links counters) sm ec ≡ true → ec < length links
  pub few : length links ≤ 2 ^ 32 - 1
  pub room : length counters ≤ length links
  pub sound : AreSound (all_with_queues links counters)
