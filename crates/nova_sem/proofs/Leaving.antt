-- One leaves a queue from its middle.
use Rattle.std.proofs.Common.{◌≡◌, ℕ, zero, suc, ◌+◌, ◌-◌, ◌<◌, ◌≤◌, List, [], ◌∷◌, ◌++◌, length, refl, ap, sym, subst, ◌∙◌, arith}
use Rattle.std.specs.Prelude.{◌==◌, ◌||◌, eqb, Bool, true, false, not, cond, filter, if◌then◌else◌, slice_index, slice_set, Option, Some, None}
use Rattle.std.proofs.lemmas.List.{get_or-set_same, get_or-set_other}
use Rattle.nova_model.specs.State.{Semaphore}
use Rattle.nova_model.specs.Semaphores.{Semaphores, has, waits, semaphore, left, without_one}
use Rattle.nova_sem.specs.Sound.{AreOnce}
use Rattle.nova_sem.specs.Links.{before, linked, led_to, with_queue, all_with_queues, counter_at, IsEnded, AreLinked}
use Rattle.nova_sem.specs.declared.counter.Counter.{Counter}
use Rattle.nova_sem.proofs.Tables.{length_set}
use Rattle.nova_sem.proofs.Expiring.{only_the_late_goes, was_there, without}
use Rattle.nova_sem.proofs.Chains.{has_apart, led_in, linked_apart, led_apart}
use Rattle.nova_sem.proofs.Calls.{below_at, once_at, waits_at}
use Rattle.nova_sem.proofs.Steps.{IsStep, IsLeft, step_entries, step_linked}

-- none of these is `ec`
pub but_none : (ec : ℕ) (ecs : List ℕ) → has ecs ec ≡ false → without ec ecs ≡ ecs
but_none ec [] h = refl
but_none ec (e ∷ ecs) h =
    let apart : (e == ec) ≡ false = grind (arith, h) in
    let rest : has ecs ec ≡ false = grind (arith, h) in
    rw apart (ap (λ l. e ∷ l) (but_none ec ecs rest))

not_there : (t : Bool) → (t ≡ true → ⊥) → t ≡ false
not_there true h = absurd (h refl)
not_there false h = refl

-- the context before is one of them, and not that which leaves
pub before_in : (links : List ℕ) (a ec n : ℕ) → has (linked links a (suc n)) (before links a ec n) ≡ true
before_in links a ec zero = grind arith
before_in links a ec (suc n) = by_test (slice_index links a == ec) (before_in links (slice_index links a) ec n)
  where
    by_test : (t : Bool) → has (linked links (slice_index links a) (suc n)) (before links (slice_index links a) ec n) ≡ true →
        has (linked links a (suc (suc n))) (if t then a else before links (slice_index links a) ec n) ≡ true
    by_test true rest = grind arith
    by_test false rest = more (before links (slice_index links a) ec n) a (linked links (slice_index links a) (suc n)) rest
      where
        more : (x b : ℕ) (ecs : List ℕ) → has ecs x ≡ true → has (b ∷ ecs) x ≡ true
        more x b ecs is = grind (arith, is)

-- what is left of a chain of which the first stays
pub linked_left : (links : List ℕ) (a ec n : ℕ) → ¬ (a ≡ ec) → AreOnce (linked links a (suc n)) → has (linked links a (suc n)) ec ≡ true → ((x : ℕ) → has (linked links a (suc n)) x ≡ true → x < length links) →
    linked (slice_set links (before links a ec n) (slice_index links ec)) a n ≡ without ec (linked links a (suc n))
linked_left links a ec zero off once there within = absurd (grind (arith, off, there))
linked_left links a ec (suc n) off once there within =
    by_test (slice_index links a == ec) refl (λ away. linked_left links (slice_index links a) ec n away once.1 (rest_there a (linked links (slice_index links a) (suc n)) off there) (λ x is. within x (more x a (linked links (slice_index links a) (suc n)) is)))
  where
    next : ℕ
    next = slice_index links a

    rest_there : (b : ℕ) (ecs : List ℕ) → ¬ (b ≡ ec) → has (b ∷ ecs) ec ≡ true → has ecs ec ≡ true
    rest_there b ecs apart is = grind (arith, apart, is)

    more : (x b : ℕ) (ecs : List ℕ) → has ecs x ≡ true → has (b ∷ ecs) x ≡ true
    more x b ecs is = grind (arith, is)

    head_stays : (ecs : List ℕ) → without ec (a ∷ ecs) ≡ a ∷ without ec ecs
    head_stays ecs = let apart : (a == ec) ≡ false = grind (arith, off) in rw apart refl

    head_goes : (ecs : List ℕ) → slice_index links a ≡ ec → without ec (slice_index links a ∷ ecs) ≡ without ec ecs
    head_goes ecs is = let same : (slice_index links a == ec) ≡ true = grind (arith, is) in rw same refl

    by_test : (t : Bool) → (slice_index links a == ec) ≡ t →
        (¬ (slice_index links a ≡ ec) → linked (slice_set links (before links (slice_index links a) ec n) (slice_index links ec)) (slice_index links a) n ≡ without ec (linked links (slice_index links a) (suc n))) →
        linked (slice_set links (if t then a else before links (slice_index links a) ec n) (slice_index links ec)) a (suc n) ≡ without ec (a ∷ linked links (slice_index links a) (suc n))
    by_test true h rest =
        let is : slice_index links a ≡ ec = grind (arith, h) in
        let low : a < length links = within a (grind arith) in
        let tail = linked links (slice_index links (slice_index links a)) n in
        let apart : has (slice_index links a ∷ tail) a ≡ false = once.0 in
        let apart_tail : has tail a ≡ false = grind (arith, apart) in
        let here = get_or-set_same links a (slice_index links ec) 0 low in
        let same : slice_index links (slice_index links a) ≡ slice_index links ec = ap (slice_index links) is in
        let gone : has tail ec ≡ false = ap (has tail) (sym is) ∙ once.1.0 in
        ap (λ (b : ℕ). a ∷ linked (slice_set links a (slice_index links ec)) b n) (here ∙ sym same)
        ∙ ap (λ l. a ∷ l) (linked_apart links a (slice_index links ec) (slice_index links (slice_index links a)) n apart_tail)
        ∙ ap (λ l. a ∷ l) (sym (but_none ec tail gone))
        ∙ ap (λ l. a ∷ l) (sym (head_goes tail is))
        ∙ sym (head_stays (slice_index links a ∷ tail))
    by_test false h rest =
        let away : ¬ (slice_index links a ≡ ec) = λ e. absurd (grind (arith, h, e)) in
        let p = before links (slice_index links a) ec n in
        let apart = has_apart a p (linked links (slice_index links a) (suc n)) once.0 (before_in links (slice_index links a) ec n) in
        let kept = get_or-set_other links p a (slice_index links ec) 0 apart in
        ap (λ (b : ℕ). a ∷ linked (slice_set links p (slice_index links ec)) b n) kept
        ∙ ap (λ l. a ∷ l) (rest away)
        ∙ sym (head_stays (linked links (slice_index links a) (suc n)))

abbrev last_but : ℕ → ℕ → ℕ → ℕ
last_but last ec p = if last == ec then p else last

-- and its last
pub led_left : (links : List ℕ) (a ec n : ℕ) → ¬ (a ≡ ec) → AreOnce (linked links a (suc (suc n))) → has (linked links a (suc (suc n))) ec ≡ true → ((x : ℕ) → has (linked links a (suc (suc n))) x ≡ true → x < length links) →
    last_but (led_to links a (suc n)) ec (before links a ec (suc n)) ≡ led_to (slice_set links (before links a ec (suc n)) (slice_index links ec)) a n
led_left links a ec zero off once there within =
    let is : (slice_index links a == ec) ≡ true = grind (arith, off, there) in
    rw is refl
led_left links a ec (suc n) off once there within =
    by_test (slice_index links a == ec) refl (λ away. led_left links (slice_index links a) ec n away once.1 (rest_there a (linked links (slice_index links a) (suc (suc n))) off there) (λ x is. within x (more x a (linked links (slice_index links a) (suc (suc n))) is)))
  where
    rest_there : (b : ℕ) (ecs : List ℕ) → ¬ (b ≡ ec) → has (b ∷ ecs) ec ≡ true → has ecs ec ≡ true
    rest_there b ecs apart is = grind (arith, apart, is)

    more : (x b : ℕ) (ecs : List ℕ) → has ecs x ≡ true → has (b ∷ ecs) x ≡ true
    more x b ecs is = grind (arith, is)

    by_test : (t : Bool) → (slice_index links a == ec) ≡ t →
        (¬ (slice_index links a ≡ ec) → last_but (led_to links (slice_index links a) (suc n)) ec (before links (slice_index links a) ec (suc n)) ≡ led_to (slice_set links (before links (slice_index links a) ec (suc n)) (slice_index links ec)) (slice_index links a) n) →
        last_but (led_to links (slice_index links a) (suc n)) ec (if t then a else before links (slice_index links a) ec (suc n)) ≡ led_to (slice_set links (if t then a else before links (slice_index links a) ec (suc n)) (slice_index links ec)) a (suc n)
    by_test true h rest =
        let is : slice_index links a ≡ ec = grind (arith, h) in
        let low : a < length links = within a (grind arith) in
        let tail = linked links (slice_index links (slice_index links a)) (suc n) in
        let last = led_to links (slice_index links a) (suc n) in
        let apart : has (slice_index links a ∷ tail) a ≡ false = once.0 in
        let apart_tail : has tail a ≡ false = grind (arith, apart) in
        let here = get_or-set_same links a (slice_index links ec) 0 low in
        let same : slice_index links (slice_index links a) ≡ slice_index links ec = ap (slice_index links) is in
        let gone : has tail ec ≡ false = ap (has tail) (sym is) ∙ once.1.0 in
        let in_tail : has tail last ≡ true = led_in links (slice_index links (slice_index links a)) n in
        let other = has_apart ec last tail gone in_tail in
        let not_last : (last == ec) ≡ false = grind (arith, other) in
        ap (λ (t : Bool). if t then a else last) not_last
        ∙ sym (led_apart links a (slice_index links ec) (slice_index links (slice_index links a)) n apart_tail)
        ∙ ap (λ (b : ℕ). led_to (slice_set links a (slice_index links ec)) b n) (same ∙ sym here)
    by_test false h rest =
        let away : ¬ (slice_index links a ≡ ec) = λ e. absurd (grind (arith, h, e)) in
        let p = before links (slice_index links a) ec (suc n) in
        let apart = has_apart a p (linked links (slice_index links a) (suc (suc n))) once.0 (before_in links (slice_index links a) ec (suc n)) in
        let kept = get_or-set_other links p a (slice_index links ec) 0 apart in
        rest away ∙ sym (ap (λ (b : ℕ). led_to (slice_set links p (slice_index links ec)) b n) kept)

-- THE STEPS

-- the contexts that wait there
pub who_waits : (links : List ℕ) (counters : List (Option Counter)) (sm ec : ℕ) (c : Counter) → counter_at counters sm ≡ Some c → waits (all_with_queues links counters) sm ec ≡ true → has (with_queue links c).waiting ec ≡ true
who_waits links counters sm ec c there is = ap (λ (s : Semaphore). has s.waiting ec) (sym (Rattle.nova_sem.proofs.Steps.semaphore_is links counters sm c there)) ∙ is

some_wait : (links : List ℕ) (a w ec : ℕ) → has (linked links a w) ec ≡ true → 0 < w
some_wait links a zero ec is = absurd cc
some_wait links a (suc w) ec is = omega arith

pub some_wait_at : (links : List ℕ) (c : Counter) (ec : ℕ) → has (with_queue links c).waiting ec ≡ true → 0 < c.waiting
some_wait_at links c ec is = some_wait links c.first c.waiting ec is

left_below : (links : List ℕ) (counters : List (Option Counter)) (sm ec : ℕ) (c : Counter) → AreLinked links counters → counter_at counters sm ≡ Some c →
    (x : ℕ) → has (without_one ec (with_queue links c)).waiting x ≡ true → x < length links
left_below links counters sm ec c are there x is = below_at links counters sm c are there x (was_there ec (with_queue links c).waiting x is)

abbrev semaphore_of : ℕ → List ℕ → Semaphore
semaphore_of count ecs = record { count = count; waiting = ecs }

first_is : (links : List ℕ) (ec first w : ℕ) → first ≡ ec → 0 < w → AreOnce (linked links first w) → linked links (slice_index links first) (w - 1) ≡ without ec (linked links first w)
first_is links ec first zero is lt once = absurd (omega arith)
first_is links ec first (suc w) is lt once =
    let here : (first == ec) ≡ true = grind (arith, is) in
    let tail = linked links (slice_index links first) w in
    let gone : has tail ec ≡ false = ap (has tail) (sym is) ∙ once.0 in
    let less : suc w - 1 ≡ w = omega arith in
    ap (linked links (slice_index links first)) less ∙ sym (but_none ec tail gone) ∙ rw here refl

pub leave_first : (links : List ℕ) (counters : List (Option Counter)) (sm ec : ℕ) (c to : Counter) → AreLinked links counters → counter_at counters sm ≡ Some c → c.first ≡ ec → has (with_queue links c).waiting ec ≡ true →
    to ≡ record c { first = slice_index links c.first; waiting = c.waiting - 1 } → IsLeft links (slice_set counters sm (Some to)) (left (all_with_queues links counters) sm ec)
leave_first links counters sm ec c to are there is waiting becomes = record {
  holds = step_linked (without_one ec) links links counters sm c to are (only_the_late_goes.sound (all_with_queues links counters) sm ec are.sound) step;
  shows = step_entries (without_one ec) links links counters sm c to step;
}
  where
    lt : 0 < c.waiting
    lt = some_wait_at links c ec waiting

    step : IsStep (without_one ec) links links counters sm c to
    step = subst (IsStep (without_one ec) links links counters sm c) (sym becomes) (record {
      there = there;
      lengths = refl;
      becomes = ap (semaphore_of c.count) (first_is links ec c.first c.waiting is lt (once_at links counters sm c are there));
      ends = λ n some. are.ended sm c there (suc n) (omega (arith, some, lt));
      queues = λ other d off same. refl;
      lasts = λ other d off same n more. refl;
      below = left_below links counters sm ec c are there;
    })

middle_is : (links : List ℕ) (ec first w : ℕ) → ¬ (first ≡ ec) → 0 < w → AreOnce (linked links first w) → has (linked links first w) ec ≡ true → ((x : ℕ) → has (linked links first w) x ≡ true → x < length links) →
    linked (slice_set links (before links first ec (w - 1)) (slice_index links ec)) first (w - 1) ≡ without ec (linked links first w)
middle_is links ec first zero off lt once there within = absurd (omega arith)
middle_is links ec first (suc n) off lt once there within =
    let less : suc n - 1 ≡ n = omega arith in
    ap (λ (k : ℕ). linked (slice_set links (before links first ec k) (slice_index links ec)) first k) less ∙ linked_left links first ec n off once there within

middle_last : (links : List ℕ) (ec first w last m : ℕ) → ¬ (first ≡ ec) → w ≡ suc (suc m) → last ≡ led_to links first (suc m) → AreOnce (linked links first w) → has (linked links first w) ec ≡ true →
    ((x : ℕ) → has (linked links first w) x ≡ true → x < length links) →
    last_but last ec (before links first ec (w - 1)) ≡ led_to (slice_set links (before links first ec (w - 1)) (slice_index links ec)) first m
middle_last links ec first w last m off is ends once there within =
    let less : w - 1 ≡ suc m = omega (arith, is) in
    ap (λ (k : ℕ). last_but last ec (before links first ec k)) less
    ∙ ap (λ (l : ℕ). last_but l ec (before links first ec (suc m))) ends
    ∙ led_left links first ec m off (subst (λ (k : ℕ). AreOnce (linked links first k)) is once) (ap (λ (k : ℕ). has (linked links first k) ec) (sym is) ∙ there)
    (λ x h. within x (ap (λ (k : ℕ). has (linked links first k) x) is ∙ h))
    ∙ ap (λ (k : ℕ). led_to (slice_set links (before links first ec k) (slice_index links ec)) first m) (sym less)

before_has : (links : List ℕ) (first ec w : ℕ) → 0 < w → has (linked links first w) (before links first ec (w - 1)) ≡ true
before_has links first ec zero lt = absurd (omega arith)
before_has links first ec (suc n) lt = let less : suc n - 1 ≡ n = omega arith in ap (λ (k : ℕ). has (linked links first (suc n)) (before links first ec k)) less ∙ before_in links first ec n

pub before_waits : (links : List ℕ) (c : Counter) (ec : ℕ) → 0 < c.waiting → has (with_queue links c).waiting (before links c.first ec (c.waiting - 1)) ≡ true
before_waits links c ec lt = before_has links c.first ec c.waiting lt

pub leave_later : (links more : List ℕ) (counters : List (Option Counter)) (sm ec p : ℕ) (c to : Counter) → AreLinked links counters → counter_at counters sm ≡ Some c → ¬ (c.first ≡ ec) → has (with_queue links c).waiting ec ≡ true →
    p ≡ before links c.first ec (c.waiting - 1) → more ≡ slice_set links p (slice_index links ec) → to ≡ record c { waiting = c.waiting - 1; last = if c.last == ec then p else c.last } →
    IsLeft more (slice_set counters sm (Some to)) (left (all_with_queues links counters) sm ec)
leave_later links more counters sm ec p c to are there off waiting place linking becomes = record {
  holds = step_linked (without_one ec) links more counters sm c to are (only_the_late_goes.sound (all_with_queues links counters) sm ec are.sound) step;
  shows = step_entries (without_one ec) links more counters sm c to step;
}
  where
    q : ℕ
    q = before links c.first ec (c.waiting - 1)

    lt : 0 < c.waiting
    lt = some_wait_at links c ec waiting

    apart : (other : ℕ) (d : Counter) → ¬ (other ≡ sm) → counter_at counters other ≡ Some d → has (linked links d.first d.waiting) (before links c.first ec (c.waiting - 1)) ≡ false
    apart other d away is = not_there (has (linked links d.first d.waiting) (before links c.first ec (c.waiting - 1)))
        (λ both. away (are.sound.alone (before links c.first ec (c.waiting - 1)) other sm (waits_at links counters other d is (before links c.first ec (c.waiting - 1)) both)
        (waits_at links counters sm c there (before links c.first ec (c.waiting - 1)) (before_waits links c ec (some_wait_at links c ec waiting)))))

    whole : IsStep (without_one ec) links (slice_set links (before links c.first ec (c.waiting - 1)) (slice_index links ec)) counters sm c (record c { waiting = c.waiting - 1; last = if c.last == ec then before links c.first ec (c.waiting - 1) else c.last })
    whole = record {
      there = there;
      lengths = length_set links (before links c.first ec (c.waiting - 1)) (slice_index links ec);
      becomes = ap (semaphore_of c.count) (middle_is links ec c.first c.waiting off (some_wait_at links c ec waiting) (once_at links counters sm c are there) waiting (below_at links counters sm c are there));
      ends = λ m some.
          let many : c.waiting ≡ suc (suc m) = omega (arith, some) in
          middle_last links ec c.first c.waiting c.last m off many (are.ended sm c there (suc m) many) (once_at links counters sm c are there) waiting (below_at links counters sm c are there);
      queues = λ other d away is. linked_apart links (before links c.first ec (c.waiting - 1)) (slice_index links ec) d.first d.waiting (apart other d away is);
      lasts = λ other d away is m some. led_apart links (before links c.first ec (c.waiting - 1)) (slice_index links ec) d.first m
          (ap (λ (k : ℕ). has (linked links d.first k) (before links c.first ec (c.waiting - 1))) (sym some) ∙ apart other d away is);
      below = left_below links counters sm ec c are there;
    }

    step : IsStep (without_one ec) links more counters sm c to
    step =
        subst (λ (l : List ℕ). IsStep (without_one ec) links l counters sm c to) (sym (linking ∙ ap (λ (n : ℕ). slice_set links n (slice_index links ec)) place))
        (subst (IsStep (without_one ec) links (slice_set links (before links c.first ec (c.waiting - 1)) (slice_index links ec)) counters sm c) (sym (becomes ∙ ap (λ (n : ℕ). moved n) place)) whole)
      where
        moved : ℕ → Counter
        moved n = record c { waiting = c.waiting - 1; last = if c.last == ec then n else c.last }

-- A SEARCH FOR THE CONTEXT BEFORE

pub chain_whole : (links : List ℕ) (first w x : ℕ) → 0 < w → has (linked links first (suc (w - 1))) x ≡ true → has (linked links first w) x ≡ true
chain_whole links first w x lt is = let same : suc (w - 1) ≡ w = omega (arith, lt) in ap (λ (k : ℕ). has (linked links first k) x) (sym same) ∙ is

pub chain_head : (links : List ℕ) (at n : ℕ) → has (linked links at (suc n)) at ≡ true
chain_head links at n = grind arith

pub chain_more : (links : List ℕ) (at n x : ℕ) → has (linked links (slice_index links at) (suc n)) x ≡ true → has (linked links at (suc (suc n))) x ≡ true
chain_more links at n x is = more x at (linked links (slice_index links at) (suc n)) is
  where
    more : (y b : ℕ) (ecs : List ℕ) → has ecs y ≡ true → has (b ∷ ecs) y ≡ true
    more y b ecs h = grind (arith, h)

pub before_next : (links : List ℕ) (at ec n : ℕ) → ¬ (slice_index links at ≡ ec) → before links (slice_index links at) ec n ≡ before links at ec (suc n)
before_next links at ec n off = let apart : (slice_index links at == ec) ≡ false = grind (arith, off) in rw apart refl

pub before_found : (links : List ℕ) (at ec n : ℕ) → slice_index links at ≡ ec → at ≡ before links at ec (suc n)
before_found links at ec n is = let same : (slice_index links at == ec) ≡ true = grind (arith, is) in rw same refl
