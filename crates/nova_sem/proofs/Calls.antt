-- What the calls make of a counter and its queue.
use Rattle.std.proofs.Common.{◌≡◌, ℕ, zero, suc, ◌+◌, ◌-◌, ◌<◌, ◌≤◌, List, [], ◌∷◌, ◌++◌, length, refl, ap, sym, subst, ◌∙◌, arith, length-append}
use Rattle.std.specs.Prelude.{◌==◌, ◌^◌, eqb, Bool, true, false, if◌then◌else◌, slice_index, slice_set, Option, Some, None}
use Rattle.std.specs.declared.result.Result.TheVariants.{Ok, Err}
use Rattle.nova_model.specs.State.{Semaphore}
use Rattle.nova_model.specs.Semaphores.{Semaphores, has, waits, semaphore, semaphore_at, semaphore_in, greatest, raised, raised_with, woken, woken_of, lowered, answer_of, changed_by, upped, downed}
use Rattle.nova_sem.specs.Sound.{AreOnce, IsFree}
use Rattle.nova_sem.specs.Links.{linked, led_to, with_queue, entry_with_queue, all_with_queues, counter_at, IsEnded, AreLinked}
use Rattle.nova_sem.specs.declared.counter.Counter.{Counter}
use Rattle.nova_model.specs.declared.semaphore.Down.TheVariants.{Done, Blocked}
use Rattle.nova_sem.proofs.Tables.{length_set}
use Rattle.nova_sem.proofs.Sound.{has_append, once_append, up_sound, down_sound, recounted, count_sound}
use Rattle.nova_sem.proofs.Chains.{led_in, linked_length, linked_apart, led_apart, linked_more, led_more, few}
use Rattle.nova_sem.proofs.Steps.{entry_at, semaphore_is, IsStep, IsLeft, step_entries, step_linked}

-- WHICH CONTEXTS WAIT AT A SEMAPHORE

pub waits_at : (links : List ℕ) (counters : List (Option Counter)) (sm : ℕ) (c : Counter) → counter_at counters sm ≡ Some c → (ec : ℕ) → has (with_queue links c).waiting ec ≡ true →
    waits (all_with_queues links counters) sm ec ≡ true
waits_at links counters sm c there ec is = ap (λ (s : Semaphore). has s.waiting ec) (semaphore_is links counters sm c there) ∙ is

pub below_at : (links : List ℕ) (counters : List (Option Counter)) (sm : ℕ) (c : Counter) → AreLinked links counters → counter_at counters sm ≡ Some c → (ec : ℕ) →
    has (with_queue links c).waiting ec ≡ true → ec < length links
below_at links counters sm c are there ec is = are.within sm ec (waits_at links counters sm c there ec is)

pub once_at : (links : List ℕ) (counters : List (Option Counter)) (sm : ℕ) (c : Counter) → AreLinked links counters → counter_at counters sm ≡ Some c → AreOnce (with_queue links c).waiting
once_at links counters sm c are there = subst (λ (s : Semaphore). AreOnce s.waiting) (semaphore_is links counters sm c there) (are.sound.once sm)

first_has : (links : List ℕ) (a w : ℕ) → 0 < w → has (linked links a w) a ≡ true
first_has links a zero lt = absurd (omega arith)
first_has links a (suc w) lt = grind arith

last_has : (links : List ℕ) (a w last : ℕ) → 0 < w → ((n : ℕ) → w ≡ suc n → last ≡ led_to links a n) → has (linked links a w) last ≡ true
last_has links a zero last lt ends = absurd (omega arith)
last_has links a (suc w) last lt ends = ap (has (linked links a (suc w))) (ends w refl) ∙ led_in links a w

pub first_within : (links : List ℕ) (counters : List (Option Counter)) (sm : ℕ) (c : Counter) → AreLinked links counters → counter_at counters sm ≡ Some c → 0 < c.waiting → c.first < length links
first_within links counters sm c are there lt = below_at links counters sm c are there c.first (first_has links c.first c.waiting lt)

pub last_within : (links : List ℕ) (counters : List (Option Counter)) (sm : ℕ) (c : Counter) → AreLinked links counters → counter_at counters sm ≡ Some c → 0 < c.waiting → c.last < length links
last_within links counters sm c are there lt =
    below_at links counters sm c are there c.last (last_has links c.first c.waiting c.last lt (are.ended sm c there))

-- UP

has_raised : (count ec : ℕ) (ecs : List ℕ) → has (raised_with count ecs).waiting ec ≡ true → has ecs ec ≡ true
has_raised count ec [] is = is
has_raised count ec (e ∷ ecs) is = grind (arith, is)

up_step : (links : List ℕ) (counters : List (Option Counter)) (sm : ℕ) (c to : Counter) → AreLinked links counters → counter_at counters sm ≡ Some c →
    with_queue links to ≡ raised (with_queue links c) → IsEnded links to → IsStep raised links links counters sm c to
up_step links counters sm c to are there becomes ends = record {
  there = there;
  lengths = refl;
  becomes = becomes;
  ends = ends;
  queues = λ other d off is. refl;
  lasts = λ other d off is n some. refl;
  below = λ ec is. below_at links counters sm c are there ec (has_raised c.count ec (linked links c.first c.waiting) is);
}

rise_is : (links : List ℕ) (count first w : ℕ) → w ≡ 0 → (count == greatest) ≡ false →
    ◌≡◌ {A = Semaphore} (record { count = count + 1; waiting = linked links first w }) (raised_with count (linked links first w))
rise_is links count first zero none less = rw less refl
rise_is links count first (suc w) none less = absurd cc

-- no context waits, and the counter rises
pub rise : (links : List ℕ) (counters : List (Option Counter)) (sm : ℕ) (c to : Counter) → AreLinked links counters → counter_at counters sm ≡ Some c → c.waiting ≡ 0 →
    (c.count == greatest) ≡ false → to ≡ record c { count = c.count + 1 } → IsStep raised links links counters sm c to
rise links counters sm c to are there none less is =
    subst (IsStep raised links links counters sm c) (sym is)
    (up_step links counters sm c (record c { count = c.count + 1 }) are there (rise_is links c.count c.first c.waiting none less) (λ n some. absurd (grind (arith, none, some))))

pub woken_none : (links : List ℕ) (c : Counter) → c.waiting ≡ 0 → (c.count == greatest) ≡ false → woken (with_queue links c) ≡ Ok None
woken_none links c none less = ap (λ (w : ℕ). woken_of c.count (linked links c.first w)) none ∙ rw less refl

pub woken_overflow : (links : List ℕ) (c : Counter) → c.waiting ≡ 0 → (c.count == greatest) ≡ true → woken (with_queue links c) ≡ Err (record {})
woken_overflow links c none most = ap (λ (w : ℕ). woken_of c.count (linked links c.first w)) none ∙ rw most refl

stays_is : (links : List ℕ) (count first w : ℕ) → w ≡ 0 → (count == greatest) ≡ true →
    ◌≡◌ {A = Semaphore} (record { count = count; waiting = linked links first w }) (raised_with count (linked links first w))
stays_is links count first zero none most = rw most refl
stays_is links count first (suc w) none most = absurd cc

set_again : (all : Semaphores) (sm : ℕ) (s : Semaphore) → semaphore_at all sm ≡ Some s → slice_set all sm (Some s) ≡ all
set_again [] sm s is = refl
set_again (None ∷ all) zero s is = absurd cc
set_again (Some x ∷ all) zero s is = ap (λ (o : Option Semaphore). o ∷ all) (sym is)
set_again (o ∷ all) (suc sm) s is = ap (λ (l : Semaphores). o ∷ l) (set_again all sm s is)

-- at an overflow all stays
pub overflow : (links : List ℕ) (counters : List (Option Counter)) (sm : ℕ) (c : Counter) → counter_at counters sm ≡ Some c → c.waiting ≡ 0 → (c.count == greatest) ≡ true →
    all_with_queues links counters ≡ upped (all_with_queues links counters) sm
overflow links counters sm c there none most =
    let at : semaphore_at (all_with_queues links counters) sm ≡ Some (with_queue links c) = entry_at links counters sm ∙ ap (entry_with_queue links) there in
    sym (set_again (all_with_queues links counters) sm (with_queue links c) at)
    ∙ ap (λ (s : Semaphore). slice_set (all_with_queues links counters) sm (Some s)) (stays_is links c.count c.first c.waiting none most)
    ∙ sym (ap (changed_by raised (all_with_queues links counters) sm) at)

abbrev semaphore_of : ℕ → List ℕ → Semaphore
semaphore_of count ecs = record { count = count; waiting = ecs }

wake_is : (links : List ℕ) (count first w : ℕ) → 0 < w →
    ◌≡◌ {A = Semaphore} (record { count = count; waiting = linked links (slice_index links first) (w - 1) }) (raised_with count (linked links first w))
wake_is links count first zero lt = absurd (omega arith)
wake_is links count first (suc w) lt =
    ap (λ (n : ℕ). semaphore_of count (linked links (slice_index links first) n)) (let e : suc w - 1 ≡ w = omega arith in e)

-- the first that waits goes
pub wake : (links : List ℕ) (counters : List (Option Counter)) (sm : ℕ) (c to : Counter) → AreLinked links counters → counter_at counters sm ≡ Some c → 0 < c.waiting →
    to ≡ record c { first = slice_index links c.first; waiting = c.waiting - 1 } → IsStep raised links links counters sm c to
wake links counters sm c to are there lt is =
    subst (IsStep raised links links counters sm c) (sym is)
    (up_step links counters sm c (record c { first = slice_index links c.first; waiting = c.waiting - 1 }) are there (wake_is links c.count c.first c.waiting lt)
    (λ n some. are.ended sm c there (suc n) (omega (arith, some, lt))))

woken_is : (links : List ℕ) (count first w : ℕ) → 0 < w → woken_of count (linked links first w) ≡ Ok (Some first)
woken_is links count first zero lt = absurd (omega arith)
woken_is links count first (suc w) lt = refl

pub woken_first : (links : List ℕ) (c : Counter) → 0 < c.waiting → woken (with_queue links c) ≡ Ok (Some c.first)
woken_first links c lt = woken_is links c.count c.first c.waiting lt

-- DOWN

-- a counter above 0 is lowered
pub lower : (links : List ℕ) (counters : List (Option Counter)) (sm ec : ℕ) (c to : Counter) → AreLinked links counters → counter_at counters sm ≡ Some c → 0 < c.count →
    to ≡ record c { count = c.count - 1 } → IsStep (lowered ec) links links counters sm c to
lower links counters sm ec c to are there lt is =
    let some : (c.count == 0) ≡ false = grind (arith, lt) in
    let becomes : with_queue links (record c { count = c.count - 1 }) ≡ lowered ec (with_queue links c) = rw some refl in
    subst (IsStep (lowered ec) links links counters sm c) (sym is) (record {
      there = there;
      lengths = refl;
      becomes = becomes;
      ends = are.ended sm c there;
      queues = λ other d off same. refl;
      lasts = λ other d off same n more. refl;
      below = λ x waiting. below_at links counters sm c are there x (ap (λ (s : Semaphore). has s.waiting x) becomes ∙ waiting);
    })

-- a context is linked to the last, if any waits
abbrev pub relinked : List ℕ → Counter → ℕ → List ℕ
relinked links c ec = if c.waiting == 0 then links else slice_set links c.last ec

abbrev pub joined : Counter → ℕ → Counter
joined c ec = record c { waiting = c.waiting + 1; first = if c.waiting == 0 then ec else c.first; last = ec }

some_wait : (n : ℕ) → (suc n == 0) ≡ false
some_wait n = grind arith

queue_more : (links : List ℕ) (ec first w last : ℕ) → AreOnce (linked links first w) → ((n : ℕ) → w ≡ suc n → last ≡ led_to links first n) → (0 < w → last < length links) →
    linked (if w == 0 then links else slice_set links last ec) (if w == 0 then ec else first) (w + 1) ≡ linked links first w ++ ec ∷ []
queue_more links ec first zero last once ends within = refl
queue_more links ec first (suc n) last once ends within =
    ap (λ (t : Bool). linked (if t then links else slice_set links last ec) (if t then ec else first) (suc n + 1)) (some_wait n)
    ∙ ap (λ (k : ℕ). linked (slice_set links last ec) first k) (let e : suc n + 1 ≡ suc (suc n) = omega arith in e)
    ∙ ap (λ (x : ℕ). linked (slice_set links x ec) first (suc (suc n))) (ends n refl)
    ∙ linked_more links ec first n once (subst (λ (x : ℕ). x < length links) (ends n refl) (within (omega arith)))

last_more : (links : List ℕ) (ec first w last : ℕ) → AreOnce (linked links first w) → ((n : ℕ) → w ≡ suc n → last ≡ led_to links first n) → (0 < w → last < length links) →
    ec ≡ led_to (if w == 0 then links else slice_set links last ec) (if w == 0 then ec else first) w
last_more links ec first zero last once ends within = refl
last_more links ec first (suc n) last once ends within =
    sym (ap (λ (t : Bool). led_to (if t then links else slice_set links last ec) (if t then ec else first) (suc n)) (some_wait n)
    ∙ ap (λ (x : ℕ). led_to (slice_set links x ec) first (suc n)) (ends n refl)
    ∙ led_more links ec first n once (subst (λ (x : ℕ). x < length links) (ends n refl) (within (omega arith))))

length_relinked : (links : List ℕ) (last ec : ℕ) (t : Bool) → length (if t then links else slice_set links last ec) ≡ length links
length_relinked links last ec true = refl
length_relinked links last ec false = length_set links last ec

-- the last of one queue is in no other
last_apart : (links : List ℕ) (counters : List (Option Counter)) (sm : ℕ) (c : Counter) → AreLinked links counters → counter_at counters sm ≡ Some c → 0 < c.waiting →
    (other : ℕ) (d : Counter) → ¬ (other ≡ sm) → counter_at counters other ≡ Some d → has (linked links d.first d.waiting) c.last ≡ false
last_apart links counters sm c are there lt other d off is = by_test (has (linked links d.first d.waiting) c.last) refl
  where
    by_test : (t : Bool) → has (linked links d.first d.waiting) c.last ≡ t → t ≡ false
    by_test false waiting = refl
    by_test true waiting =
        absurd (off (are.sound.alone c.last other sm (waits_at links counters other d is c.last waiting)
        (waits_at links counters sm c there c.last (last_has links c.first c.waiting c.last lt (are.ended sm c there)))))

relinked_queue : (links : List ℕ) (last ec a n w : ℕ) → (0 < w → has (linked links a n) last ≡ false) →
    linked (if w == 0 then links else slice_set links last ec) a n ≡ linked links a n
relinked_queue links last ec a n zero apart = refl
relinked_queue links last ec a n (suc w) apart =
    ap (λ (t : Bool). linked (if t then links else slice_set links last ec) a n) (some_wait w) ∙ linked_apart links last ec a n (apart (omega arith))

relinked_last : (links : List ℕ) (last ec a n w : ℕ) → (0 < w → has (linked links a (suc n)) last ≡ false) →
    led_to (if w == 0 then links else slice_set links last ec) a n ≡ led_to links a n
relinked_last links last ec a n zero apart = refl
relinked_last links last ec a n (suc w) apart =
    ap (λ (t : Bool). led_to (if t then links else slice_set links last ec) a n) (some_wait w) ∙ led_apart links last ec a n (apart (omega arith))

-- where one more waits, all that wait are numbers of links
joined_below : (links : List ℕ) (counters : List (Option Counter)) (sm ec : ℕ) (c : Counter) → AreLinked links counters → counter_at counters sm ≡ Some c → ec < length links →
    (x : ℕ) → has (linked links c.first c.waiting ++ ec ∷ []) x ≡ true → x < length links
joined_below links counters sm ec c are there lt x waiting = by_test (eqb x ec) refl
  where
    by_test : (t : Bool) → eqb x ec ≡ t → x < length links
    by_test true who = let same : x ≡ ec = grind (arith, who) in omega (arith, same, lt)
    by_test false who =
        below_at links counters sm c are there x (let e : has (linked links c.first c.waiting) x ≡ true = grind (arith, has_append (linked links c.first c.waiting) ec x, who, waiting) in e)

-- a context waits, last of all
pub block : (links more : List ℕ) (counters : List (Option Counter)) (sm ec : ℕ) (c to : Counter) → AreLinked links counters → counter_at counters sm ≡ Some c → c.count ≡ 0 →
    ec < length links → more ≡ relinked links c ec → to ≡ joined c ec → IsStep (lowered ec) links more counters sm c to
block links more counters sm ec c to are there none lt linking joining =
    subst (λ (l : List ℕ). IsStep (lowered ec) links l counters sm c to) (sym linking)
    (subst (IsStep (lowered ec) links (relinked links c ec) counters sm c) (sym joining) step)
  where
    becomes : with_queue (relinked links c ec) (joined c ec) ≡ lowered ec (with_queue links c)
    becomes =
        let zero_count : (c.count == 0) ≡ true = grind (arith, none) in
        ap (semaphore_of c.count) (queue_more links ec c.first c.waiting c.last (once_at links counters sm c are there) (are.ended sm c there) (last_within links counters sm c are there))
        ∙ rw zero_count refl

    waiting_is : (lowered ec (with_queue links c)).waiting ≡ linked links c.first c.waiting ++ ec ∷ []
    waiting_is = let zero_count : (c.count == 0) ≡ true = grind (arith, none) in rw zero_count refl

    step : IsStep (lowered ec) links (relinked links c ec) counters sm c (joined c ec)
    step = record {
      there = there;
      lengths = length_relinked links c.last ec (c.waiting == 0);
      becomes = becomes;
      ends = λ n some.
          last_more links ec c.first c.waiting c.last (once_at links counters sm c are there) (are.ended sm c there) (last_within links counters sm c are there)
          ∙ ap (led_to (relinked links c ec) (joined c ec).first) (let e : c.waiting ≡ n = omega (arith, some) in e);
      queues = λ other d off is. relinked_queue links c.last ec d.first d.waiting c.waiting (λ some. last_apart links counters sm c are there some other d off is);
      lasts = λ other d off is n more_wait. relinked_last links c.last ec d.first n c.waiting
          (λ some. ap (λ (k : ℕ). has (linked links d.first k) c.last) (sym more_wait) ∙ last_apart links counters sm c are there some other d off is);
      below = λ x waiting. joined_below links counters sm ec c are there lt x (ap (λ (l : List ℕ). has l x) (sym waiting_is) ∙ waiting);
    }

-- one more can wait
pub room_to_wait : (links : List ℕ) (counters : List (Option Counter)) (sm ec : ℕ) (c : Counter) → AreLinked links counters → counter_at counters sm ≡ Some c →
    IsFree (all_with_queues links counters) ec → ec < length links → c.waiting < 2 ^ 32 - 1
room_to_wait links counters sm ec c are there free lt =
    let not_there : has (linked links c.first c.waiting) ec ≡ false = ap (λ (s : Semaphore). has s.waiting ec) (sym (semaphore_is links counters sm c there)) ∙ free sm in
    let most : length (linked links c.first c.waiting ++ ec ∷ []) ≤ length links =
    few (linked links c.first c.waiting ++ ec ∷ []) (length links) (once_append (linked links c.first c.waiting) ec (once_at links counters sm c are there) not_there) (joined_below links counters sm ec c are there lt) in
    let many : length (linked links c.first c.waiting ++ ec ∷ []) ≡ c.waiting + 1 =
    length-append (linked links c.first c.waiting) (ec ∷ []) ∙ ap (λ (n : ℕ). n + 1) (linked_length links c.first c.waiting) in
    let bound = are.few in omega (arith, most, many, bound)

-- WHAT IS LEFT

up_left : (links : List ℕ) (counters : List (Option Counter)) (sm : ℕ) (c to : Counter) → AreLinked links counters → IsStep raised links links counters sm c to →
    IsLeft links (slice_set counters sm (Some to)) (upped (all_with_queues links counters) sm)
up_left links counters sm c to are step = record {
  holds = step_linked raised links links counters sm c to are (up_sound (all_with_queues links counters) sm are.sound) step;
  shows = step_entries raised links links counters sm c to step;
}

down_left : (links more : List ℕ) (counters : List (Option Counter)) (sm ec : ℕ) (c to : Counter) → AreLinked links counters → IsFree (all_with_queues links counters) ec →
    IsStep (lowered ec) links more counters sm c to → IsLeft more (slice_set counters sm (Some to)) (downed (all_with_queues links counters) sm ec)
down_left links more counters sm ec c to are free step = record {
  holds = step_linked (lowered ec) links more counters sm c to are (down_sound (all_with_queues links counters) sm ec free are.sound) step;
  shows = step_entries (lowered ec) links more counters sm c to step;
}

pub not_greatest : (count : ℕ) → count + 1 < 2 ^ 32 → (count == greatest) ≡ false
not_greatest count lt = grind (arith, lt)

pub is_greatest : (count : ℕ) → count < 2 ^ 32 → ¬ (count + 1 < 2 ^ 32) → (count == greatest) ≡ true
is_greatest count lt over = grind (arith, lt, over)

pub rise_leaves : (links : List ℕ) (counters : List (Option Counter)) (sm : ℕ) (c : Counter) (count : ℕ) → AreLinked links counters → counter_at counters sm ≡ Some c → c.waiting ≡ 0 →
    c.count + 1 < 2 ^ 32 → count ≡ c.count + 1 → IsLeft links (slice_set counters sm (Some (record c { count = count }))) (upped (all_with_queues links counters) sm)
rise_leaves links counters sm c count are there none lt is =
    up_left links counters sm c (record c { count = count }) are
    (rise links counters sm c (record c { count = count }) are there none (not_greatest c.count lt) (ap (λ (n : ℕ). record_with c n) is))
  where
    record_with : Counter → ℕ → Counter
    record_with d n = record d { count = n }

pub wake_leaves : (links : List ℕ) (counters : List (Option Counter)) (sm : ℕ) (c to : Counter) → AreLinked links counters → counter_at counters sm ≡ Some c → 0 < c.waiting →
    to ≡ record c { first = slice_index links c.first; waiting = c.waiting - 1 } → IsLeft links (slice_set counters sm (Some to)) (upped (all_with_queues links counters) sm)
wake_leaves links counters sm c to are there lt is = up_left links counters sm c to are (wake links counters sm c to are there lt is)

pub lower_leaves : (links : List ℕ) (counters : List (Option Counter)) (sm ec : ℕ) (c to : Counter) → AreLinked links counters → counter_at counters sm ≡ Some c →
    IsFree (all_with_queues links counters) ec → 0 < c.count → to ≡ record c { count = c.count - 1 } → IsLeft links (slice_set counters sm (Some to)) (downed (all_with_queues links counters) sm ec)
lower_leaves links counters sm ec c to are there free lt is =
    down_left links links counters sm ec c to are free (lower links counters sm ec c to are there lt is)

pub block_leaves : (links more : List ℕ) (counters : List (Option Counter)) (sm ec : ℕ) (c to : Counter) → AreLinked links counters → counter_at counters sm ≡ Some c →
    IsFree (all_with_queues links counters) ec → c.count ≡ 0 → ec < length links → more ≡ relinked links c ec → to ≡ joined c ec →
    IsLeft more (slice_set counters sm (Some to)) (downed (all_with_queues links counters) sm ec)
block_leaves links more counters sm ec c to are there free none lt linking joining =
    down_left links more counters sm ec c to are free (block links more counters sm ec c to are there none lt linking joining)

-- WHAT IS ANSWERED

pub count_at : (links : List ℕ) (counters : List (Option Counter)) (sm : ℕ) (c : Counter) → counter_at counters sm ≡ Some c → (semaphore (all_with_queues links counters) sm).waiting ≡ linked links c.first c.waiting
count_at links counters sm c there = ap (λ (s : Semaphore). s.waiting) (semaphore_is links counters sm c there)

pub waiting_at : (links : List ℕ) (counters : List (Option Counter)) (sm : ℕ) (c : Counter) → counter_at counters sm ≡ Some c → c.waiting ≡ length (semaphore (all_with_queues links counters) sm).waiting
waiting_at links counters sm c there =
    sym (linked_length links c.first c.waiting) ∙ sym (ap length (count_at links counters sm c there))

pub nobody_at_none : (links : List ℕ) (counters : List (Option Counter)) (sm : ℕ) → counter_at counters sm ≡ None → 0 ≡ length (semaphore (all_with_queues links counters) sm).waiting
nobody_at_none links counters sm none =
    sym (ap (λ (o : Option Semaphore). length (semaphore_in o).waiting) (entry_at links counters sm ∙ ap (entry_with_queue links) none))

pub answer_done : (links : List ℕ) (c : Counter) → 0 < c.count → answer_of (with_queue links c) ≡ Done
answer_done links c lt = let some : (c.count == 0) ≡ false = grind (arith, lt) in rw some refl

pub answer_blocked : (links : List ℕ) (c : Counter) → c.count ≡ 0 → answer_of (with_queue links c) ≡ Blocked
answer_blocked links c none = let zero_count : (c.count == 0) ≡ true = grind (arith, none) in rw zero_count refl

-- WHERE NONE WAITS

pub nobody_waits : (links : List ℕ) (counters : List (Option Counter)) (sm : ℕ) (c : Counter) → AreLinked links counters → counter_at counters sm ≡ Some c → 0 < c.count → c.waiting ≡ 0
nobody_waits links counters sm c are there lt = by_waiting c.waiting refl
  where
    by_waiting : (w : ℕ) → c.waiting ≡ w → w ≡ 0
    by_waiting zero is = refl
    by_waiting (suc n) is =
        let some : 0 < c.waiting = omega (arith, is) in
        let idle : (semaphore (all_with_queues links counters) sm).count ≡ 0 = are.sound.idle sm c.first (waits_at links counters sm c there c.first (first_has links c.first c.waiting some)) in
        let same : (semaphore (all_with_queues links counters) sm).count ≡ c.count = ap (λ (s : Semaphore). s.count) (semaphore_is links counters sm c there) in
        absurd (omega (arith, idle, same, lt))

-- the queues hold at any counter
pub any_count : (links : List ℕ) (counters : List (Option Counter)) (sm : ℕ) (c : Counter) (count : ℕ) → AreLinked links counters → counter_at counters sm ≡ Some c → c.waiting ≡ 0 →
    AreLinked links (slice_set counters sm (Some (record c { count = count })))
any_count links counters sm c count are there none =
    let nobody : (semaphore (all_with_queues links counters) sm).waiting ≡ [] = count_at links counters sm c there ∙ ap (linked links c.first) none in
    step_linked (recounted count) links links counters sm c (record c { count = count }) are (count_sound (all_with_queues links counters) sm count are.sound nobody) (record {
      there = there;
      lengths = refl;
      becomes = refl;
      ends = are.ended sm c there;
      queues = λ other d off is. refl;
      lasts = λ other d off is n some. refl;
      below = λ ec is. below_at links counters sm c are there ec is;
    })
