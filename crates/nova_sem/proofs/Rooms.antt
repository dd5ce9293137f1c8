-- More room to wait, and a new entry.
use Rattle.std.proofs.Common.{◌≡◌, ℕ, suc, ◌-◌, ◌<◌, ◌≤◌, List, [], ◌∷◌, ◌++◌, length, refl, ap, sym, subst, ◌∙◌, arith, length-append}
use Rattle.std.specs.Prelude.{◌==◌, ◌^◌, Bool, true, false, if◌then◌else◌, take, replicate, slice_index, Option, Some, None, option_map}
use Rattle.nova_model.specs.State.{Semaphore}
use Rattle.nova_model.specs.Creation.{idle_semaphore}
use Rattle.nova_model.specs.Semaphores.{Semaphores, waits}
use Rattle.nova_sem.specs.Sound.{AreSound}
use Rattle.nova_sem.specs.Links.{entry_with_queue, all_with_queues, new_counter, counter_at, IsEnded, AreLinked}
use Rattle.nova_sem.specs.declared.counter.Counter.{Counter}
use Rattle.nova_sem.proofs.Tables.{more_same, more_other}
use Rattle.nova_sem.proofs.Sound.{add_sound}
use Rattle.nova_sem.proofs.Waiting.{added_waits}
use Rattle.nova_sem.proofs.Chains.{linked_same, led_same, index_filled}
use Rattle.nova_sem.proofs.Steps.{all_kept, IsLeft}

abbrev pub filled : List ℕ → ℕ → List ℕ
filled links n = take n links ++ replicate (n - length links) 0

pub filled_entries : (links more : List ℕ) (counters : List (Option Counter)) (n : ℕ) → length links ≤ n → more ≡ filled links n → all_with_queues more counters ≡ all_with_queues links counters
filled_entries links more counters n le is =
    all_kept links more counters (λ sm c there. linked_same links more c.first c.waiting
    (λ i. ap (λ (l : List ℕ). slice_index l i) is ∙ index_filled links n (n - length links) i le))

pub filled_linked : (links more : List ℕ) (counters : List (Option Counter)) (n : ℕ) → AreLinked links counters → length links ≤ n → n ≤ 2 ^ 32 - 1 → length more ≡ n →
    more ≡ filled links n → AreLinked more counters
filled_linked links more counters n are le most long is =
    let all = filled_entries links more counters n le is in record {
      ended = λ sm c there k some. are.ended sm c there k some ∙ sym (led_same links more c.first k (λ i. ap (λ (l : List ℕ). slice_index l i) is ∙ index_filled links n (n - length links) i le));
      within = λ sm ec waiting. let lt = are.within sm ec (ap (λ (l : Semaphores). waits l sm ec) (sym all) ∙ waiting) in omega (arith, lt, le, long);
      few = omega (arith, most, long);
      room = let room = are.room in omega (arith, room, le, long);
      sound = subst AreSound (sym all) are.sound;
    }

pub entries_length : (links : List ℕ) (counters : List (Option Counter)) → length (all_with_queues links counters) ≡ length counters
entries_length links [] = refl
entries_length links (o ∷ counters) = ap suc (entries_length links counters)

entries_append : (links : List ℕ) (counters more : List (Option Counter)) → all_with_queues links (counters ++ more) ≡ all_with_queues links counters ++ all_with_queues links more
entries_append links [] more = refl
entries_append links (o ∷ counters) more = ap (λ (l : Semaphores). entry_with_queue links o ∷ l) (entries_append links counters more)

entry_new : (links : List ℕ) (count : Option ℕ) → entry_with_queue links (option_map new_counter count) ≡ option_map idle_semaphore count
entry_new links None = refl
entry_new links (Some n) = refl

-- an entry more, at which none waits
pub added_entries : (links : List ℕ) (counters : List (Option Counter)) (count : Option ℕ) →
    all_with_queues links (counters ++ option_map new_counter count ∷ []) ≡ all_with_queues links counters ++ option_map idle_semaphore count ∷ []
added_entries links counters count =
    entries_append links counters (option_map new_counter count ∷ [])
    ∙ ap (λ (o : Option Semaphore). all_with_queues links counters ++ o ∷ []) (entry_new links count)

pub added_linked : (links : List ℕ) (counters : List (Option Counter)) (count : Option ℕ) → length counters < length links → AreLinked links counters →
    AreLinked links (counters ++ option_map new_counter count ∷ [])
added_linked links counters count lt are =
    let shows = added_entries links counters count in record {
      ended = λ sm c there. by_place sm c there (sm == length counters) refl;
      within = λ sm ec waiting. are.within sm ec (sym (added_waits (all_with_queues links counters) count sm ec) ∙ ap (λ (l : Semaphores). waits l sm ec) (sym shows) ∙ waiting);
      few = are.few;
      room = let more = length-append counters (option_map new_counter count ∷ []) in omega (arith, more, lt);
      sound = subst AreSound (sym shows) (add_sound (all_with_queues links counters) count are.sound);
    }
  where
    nobody : (o : Option ℕ) (c : Counter) → option_map new_counter o ≡ Some c → c.waiting ≡ 0
    nobody None c is = absurd cc
    nobody (Some n) c is = let same : new_counter n ≡ c = cc in ap (λ (d : Counter). d.waiting) (sym same)

    by_place : (sm : ℕ) (c : Counter) → counter_at (counters ++ option_map new_counter count ∷ []) sm ≡ Some c → (t : Bool) → (sm == length counters) ≡ t → IsEnded links c
    by_place sm c there true place =
        let here : sm ≡ length counters = grind (arith, place) in
        let none = nobody count c (sym (more_same counters (option_map new_counter count)) ∙ ap (counter_at (counters ++ option_map new_counter count ∷ [])) (sym here) ∙ there) in
        λ n some. absurd (grind (arith, none, some))
    by_place sm c there false place =
        are.ended sm c (sym (more_other counters (option_map new_counter count) sm (λ e. absurd (grind (arith, place, e)))) ∙ there)

-- more room, or the same where it was refused
pub resized : (links more : List ℕ) (counters : List (Option Counter)) (n : ℕ) (t : Bool) → AreLinked links counters → length links ≤ n → n ≤ 2 ^ 32 - 1 →
    length more ≡ (if t then n else length links) → more ≡ (if t then filled links n else links) → IsLeft more counters (all_with_queues links counters)
resized links more counters n true are le most long is = record {
  holds = filled_linked links more counters n are le most long is;
  shows = filled_entries links more counters n le is;
}
resized links more counters n false are le most long is =
    subst (λ (l : List ℕ). IsLeft l counters (all_with_queues links counters)) (sym is) (record { holds = are; shows = refl })
