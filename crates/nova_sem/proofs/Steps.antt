-- A change of one counter, and of links, keeps the queues of the others.
use Rattle.std.proofs.Common.{◌≡◌, ℕ, zero, suc, ◌<◌, List, [], ◌∷◌, length, refl, ap, sym, subst, ◌∙◌, arith}
use Rattle.std.specs.Prelude.{◌==◌, Bool, true, false, slice_set, Option, Some, None}
use Rattle.nova_model.specs.State.{Semaphore, entry}
use Rattle.nova_model.specs.Semaphores.{Semaphores, has, waits, semaphore, semaphore_in, semaphore_at, changed, changed_by}
use Rattle.nova_sem.specs.Sound.{AreSound}
use Rattle.nova_sem.specs.Links.{linked, led_to, with_queue, entry_with_queue, all_with_queues, counter_at, IsEnded, AreLinked}
use Rattle.nova_sem.specs.declared.counter.Counter.{Counter}
use Rattle.nova_sem.proofs.Tables.{set_same, set_other, length_set}
use Rattle.nova_sem.proofs.Changes.{changed_other}

pub entry_at : (links : List ℕ) (counters : List (Option Counter)) (sm : ℕ) → semaphore_at (all_with_queues links counters) sm ≡ entry_with_queue links (counter_at counters sm)
entry_at links [] sm = refl
entry_at links (None ∷ counters) zero = refl
entry_at links (Some c ∷ counters) zero = refl
entry_at links (o ∷ counters) (suc sm) = entry_at links counters sm

pub semaphore_is : (links : List ℕ) (counters : List (Option Counter)) (sm : ℕ) (c : Counter) → counter_at counters sm ≡ Some c →
    semaphore (all_with_queues links counters) sm ≡ with_queue links c
semaphore_is links counters sm c is = ap semaphore_in (entry_at links counters sm) ∙ ap (λ (o : Option Counter). semaphore_in (entry_with_queue links o)) is

-- the queues of all of these stay
abbrev pub AreKept : List ℕ → List ℕ → List (Option Counter) → Type 0
AreKept links more counters = (sm : ℕ) (c : Counter) → counter_at counters sm ≡ Some c → linked more c.first c.waiting ≡ linked links c.first c.waiting

kept_one : (links more : List ℕ) (o : Option Counter) → ((c : Counter) → o ≡ Some c → linked more c.first c.waiting ≡ linked links c.first c.waiting) → entry_with_queue more o ≡ entry_with_queue links o
kept_one links more None kept = refl
kept_one links more (Some c) kept = ap (λ (l : List ℕ). Some (record { count = c.count; waiting = l })) (kept c refl)

pub all_kept : (links more : List ℕ) (counters : List (Option Counter)) → AreKept links more counters → all_with_queues more counters ≡ all_with_queues links counters
all_kept links more [] kept = refl
all_kept links more (o ∷ counters) kept =
    ap (λ (s : Option Semaphore). s ∷ all_with_queues more counters) (kept_one links more o (λ c is. kept 0 c (ap entry_of is)))
    ∙ ap (λ (l : Semaphores). entry_with_queue links o ∷ l) (all_kept links more counters (λ sm. kept (suc sm)))
  where
    entry_of : Option Counter → Option Counter
    entry_of p = entry (Some p)

-- all but one
pub entries_set : (links more : List ℕ) (counters : List (Option Counter)) (sm : ℕ) (c : Counter) →
    ((other : ℕ) (d : Counter) → ¬ (other ≡ sm) → counter_at counters other ≡ Some d → linked more d.first d.waiting ≡ linked links d.first d.waiting) →
    all_with_queues more (slice_set counters sm (Some c)) ≡ slice_set (all_with_queues links counters) sm (Some (with_queue more c))
entries_set links more [] sm c kept = refl
entries_set links more (o ∷ counters) zero c kept =
    ap (λ (l : Semaphores). Some (with_queue more c) ∷ l) (all_kept links more counters (λ other d is. kept (suc other) d (λ e. absurd cc) is))
entries_set links more (o ∷ counters) (suc sm) c kept =
    ap (λ (s : Option Semaphore). s ∷ all_with_queues more (slice_set counters sm (Some c))) (kept_one links more o (λ d is. kept 0 d (λ e. absurd cc) is))
    ∙ ap (λ (l : Semaphores). entry_with_queue links o ∷ l) (entries_set links more counters sm c (λ other d h is. kept (suc other) d (λ e. h (let same : other ≡ sm = omega arith in same)) is))

-- one counter becomes another as its semaphore changes
pub record IsStep (change : Semaphore → Semaphore) (links more : List ℕ) (counters : List (Option Counter)) (sm : ℕ) (c to : Counter) : Type 0 where
  pub there : counter_at counters sm ≡ Some c
  pub lengths : length more ≡ length links
  pub becomes : with_queue more to ≡ change (with_queue links c)
  pub ends : IsEnded more to
  pub queues : (other : ℕ) (d : Counter) → ¬ (other ≡ sm) → counter_at counters other ≡ Some d → linked more d.first d.waiting ≡ linked links d.first d.waiting
  pub lasts : (other : ℕ) (d : Counter) → ¬ (other ≡ sm) → counter_at counters other ≡ Some d → (n : ℕ) → d.waiting ≡ suc n → led_to more d.first n ≡ led_to links d.first n
  pub below : (ec : ℕ) → has (change (with_queue links c)).waiting ec ≡ true → ec < length links

pub step_entries : (change : Semaphore → Semaphore) (links more : List ℕ) (counters : List (Option Counter)) (sm : ℕ) (c to : Counter) → IsStep change links more counters sm c to →
    all_with_queues more (slice_set counters sm (Some to)) ≡ changed change (all_with_queues links counters) sm
step_entries change links more counters sm c to step =
    entries_set links more counters sm to step.queues
    ∙ ap (λ (s : Semaphore). slice_set (all_with_queues links counters) sm (Some s)) step.becomes
    ∙ sym (ap (changed_by change (all_with_queues links counters) sm) (entry_at links counters sm ∙ ap (entry_with_queue links) step.there))

step_within : (change : Semaphore → Semaphore) (links more : List ℕ) (counters : List (Option Counter)) (sm : ℕ) (c to : Counter) → AreLinked links counters →
    IsStep change links more counters sm c to → (other ec : ℕ) → waits (changed change (all_with_queues links counters) sm) other ec ≡ true → ec < length links
step_within change links more counters sm c to are step other ec is = by_place (other == sm) refl
  where
    at : semaphore_at (all_with_queues links counters) sm ≡ Some (with_queue links c)
    at = entry_at links counters sm ∙ ap (entry_with_queue links) step.there

    now : semaphore (changed change (all_with_queues links counters) sm) sm ≡ change (with_queue links c)
    now =
        ap (λ (o : Option Semaphore). semaphore (changed_by change (all_with_queues links counters) sm o) sm) at
        ∙ ap semaphore_in (set_same (all_with_queues links counters) sm (with_queue links c) (change (with_queue links c)) at)

    by_place : (t : Bool) → (other == sm) ≡ t → ec < length links
    by_place true place =
        let same : other ≡ sm = grind (arith, place) in
        step.below ec (ap (λ (s : Semaphore). has s.waiting ec) (sym now) ∙ ap (λ (n : ℕ). waits (changed change (all_with_queues links counters) sm) n ec) (sym same) ∙ is)
    by_place false place =
        are.within other ec (ap (λ (o : Option Semaphore). has (semaphore_in o).waiting ec)
        (sym (changed_other change (all_with_queues links counters) sm other (λ e. absurd (grind (arith, place, e))))) ∙ is)

step_ended : (change : Semaphore → Semaphore) (links more : List ℕ) (counters : List (Option Counter)) (sm : ℕ) (c to : Counter) → AreLinked links counters →
    IsStep change links more counters sm c to → (other : ℕ) (d : Counter) → counter_at (slice_set counters sm (Some to)) other ≡ Some d → IsEnded more d
step_ended change links more counters sm c to are step other d is = by_place (other == sm) refl
  where
    by_place : (t : Bool) → (other == sm) ≡ t → IsEnded more d
    by_place true place =
        let same : other ≡ sm = grind (arith, place) in
        let both : Some to ≡ Some d = sym (set_same counters sm c to step.there) ∙ ap (counter_at (slice_set counters sm (Some to))) (sym same) ∙ is in
        subst (IsEnded more) (let e : to ≡ d = cc in e) step.ends
    by_place false place = λ n some.
        let off : ¬ (other ≡ sm) = λ e. absurd (grind (arith, place, e)) in
        let before : counter_at counters other ≡ Some d = sym (set_other counters sm other (Some to) off) ∙ is in
        are.ended other d before n some ∙ sym (step.lasts other d off before n some)

pub step_linked : (change : Semaphore → Semaphore) (links more : List ℕ) (counters : List (Option Counter)) (sm : ℕ) (c to : Counter) → AreLinked links counters →
    AreSound (changed change (all_with_queues links counters) sm) → IsStep change links more counters sm c to → AreLinked more (slice_set counters sm (Some to))
step_linked change links more counters sm c to are sound step =
    let all = step_entries change links more counters sm c to step in record {
      ended = step_ended change links more counters sm c to are step;
      within = λ other ec is. subst (λ (n : ℕ). ec < n) (sym step.lengths) (step_within change links more counters sm c to are step other ec (ap (λ (l : Semaphores). waits l other ec) (sym all) ∙ is));
      few = let same = step.lengths in let few = are.few in omega (arith, same, few);
      room = let same = step.lengths in let room = are.room in let set = length_set counters sm (Some to) in omega (arith, same, room, set);
      sound = subst AreSound (sym all) sound;
    }

-- the queues hold, and show what was to come
pub record IsLeft (links : List ℕ) (counters : List (Option Counter)) (after : Semaphores) : Type 0 where
  pub holds : AreLinked links counters
  pub shows : all_with_queues links counters ≡ after
