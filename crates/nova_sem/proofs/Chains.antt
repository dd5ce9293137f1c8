-- Queues by links: what a new link changes.
use Rattle.std.proofs.Common.{◌≡◌, ℕ, zero, suc, ◌<◌, ◌≤◌, List, [], ◌∷◌, ◌++◌, length, refl, ap, ◌∙◌, arith}
use Rattle.std.specs.Prelude.{true, false, eqb, take, replicate, slice_index, slice_set}
use Rattle.std.specs.List.{IsDistinct, AllByRecursion}
use Rattle.std.proofs.lemmas.List.{get_or-set_same, get_or-set_other}
use Rattle.std.proofs.lemmas.Map.Steps.{length-le_from_distinct_below}
use Rattle.nova_model.specs.Semaphores.{has}
use Rattle.nova_sem.specs.Sound.{AreOnce}
use Rattle.nova_sem.specs.Links.{linked, led_to}

-- WHICH ARE AMONG THEM

has_not_head : (x a : ℕ) (ecs : List ℕ) → has (a ∷ ecs) x ≡ false → ¬ (a ≡ x)
has_not_head x a ecs h same = absurd (grind (arith, h, same))

has_not_rest : (x a : ℕ) (ecs : List ℕ) → has (a ∷ ecs) x ≡ false → has ecs x ≡ false
has_not_rest x a ecs h = grind (arith, h)

has_rest : (x a : ℕ) (ecs : List ℕ) → has ecs x ≡ true → has (a ∷ ecs) x ≡ true
has_rest x a ecs h = grind (arith, h)

has_head : (a : ℕ) (ecs : List ℕ) → has (a ∷ ecs) a ≡ true
has_head a ecs = grind arith

pub has_apart : (x y : ℕ) (ecs : List ℕ) → has ecs x ≡ false → has ecs y ≡ true → ¬ (x ≡ y)
has_apart x y ecs h is same = let there : has ecs x ≡ true = ap (has ecs) same ∙ is in absurd cc

-- the context that links lead to is one of them
pub led_in : (links : List ℕ) (a n : ℕ) → has (linked links a (suc n)) (led_to links a n) ≡ true
led_in links a zero = has_head a []
led_in links a (suc n) =
    has_rest (led_to links (slice_index links a) n) a (linked links (slice_index links a) (suc n)) (led_in links (slice_index links a) n)

pub linked_length : (links : List ℕ) (a n : ℕ) → length (linked links a n) ≡ n
linked_length links a zero = refl
linked_length links a (suc n) = ap suc (linked_length links (slice_index links a) n)

-- ONE LINK CHANGES

pub linked_apart : (links : List ℕ) (x v a n : ℕ) → has (linked links a n) x ≡ false → linked (slice_set links x v) a n ≡ linked links a n
linked_apart links x v a zero h = refl
linked_apart links x v a (suc n) h =
    ap (λ (b : ℕ). a ∷ linked (slice_set links x v) b n) (get_or-set_other links x a v 0 (has_not_head x a (linked links (slice_index links a) n) h))
    ∙ ap (λ (l : List ℕ). a ∷ l) (linked_apart links x v (slice_index links a) n (has_not_rest x a (linked links (slice_index links a) n) h))

pub led_apart : (links : List ℕ) (x v a n : ℕ) → has (linked links a (suc n)) x ≡ false → led_to (slice_set links x v) a n ≡ led_to links a n
led_apart links x v a zero h = refl
led_apart links x v a (suc n) h =
    ap (λ (b : ℕ). led_to (slice_set links x v) b n) (get_or-set_other links x a v 0 (has_not_head x a (linked links (slice_index links a) (suc n)) h))
    ∙ led_apart links x v (slice_index links a) n (has_not_rest x a (linked links (slice_index links a) (suc n)) h)

-- a first that isn't the last keeps its link
first_kept : (links : List ℕ) (ec a n : ℕ) → AreOnce (linked links a (suc (suc n))) →
    slice_index (slice_set links (led_to links a (suc n)) ec) a ≡ slice_index links a
first_kept links ec a n once =
    get_or-set_other links (led_to links (slice_index links a) n) a ec 0
    (has_apart a (led_to links (slice_index links a) n) (linked links (slice_index links a) (suc n)) once.0 (led_in links (slice_index links a) n))

-- a context is linked to the last
pub linked_more : (links : List ℕ) (ec a n : ℕ) → AreOnce (linked links a (suc n)) → led_to links a n < length links →
    linked (slice_set links (led_to links a n) ec) a (suc (suc n)) ≡ linked links a (suc n) ++ ec ∷ []
linked_more links ec a zero once lt = ap (λ (b : ℕ). a ∷ b ∷ []) (get_or-set_same links a ec 0 lt)
linked_more links ec a (suc n) once lt =
    ap (λ (b : ℕ). a ∷ linked (slice_set links (led_to links a (suc n)) ec) b (suc (suc n))) (first_kept links ec a n once)
    ∙ ap (λ (l : List ℕ). a ∷ l) (linked_more links ec (slice_index links a) n once.1 lt)

pub led_more : (links : List ℕ) (ec a n : ℕ) → AreOnce (linked links a (suc n)) → led_to links a n < length links →
    led_to (slice_set links (led_to links a n) ec) a (suc n) ≡ ec
led_more links ec a zero once lt = get_or-set_same links a ec 0 lt
led_more links ec a (suc n) once lt =
    ap (λ (b : ℕ). led_to (slice_set links (led_to links a (suc n)) ec) b (suc n)) (first_kept links ec a n once)
    ∙ led_more links ec (slice_index links a) n once.1 lt

-- LINKS THAT ARE THE SAME

pub linked_same : (links more : List ℕ) (a n : ℕ) → ((i : ℕ) → slice_index more i ≡ slice_index links i) → linked more a n ≡ linked links a n
linked_same links more a zero same = refl
linked_same links more a (suc n) same =
    ap (λ (b : ℕ). a ∷ linked more b n) (same a) ∙ ap (λ (l : List ℕ). a ∷ l) (linked_same links more (slice_index links a) n same)

pub led_same : (links more : List ℕ) (a n : ℕ) → ((i : ℕ) → slice_index more i ≡ slice_index links i) → led_to more a n ≡ led_to links a n
led_same links more a zero same = refl
led_same links more a (suc n) same = ap (λ (b : ℕ). led_to more b n) (same a) ∙ led_same links more (slice_index links a) n same

zeros : (k i : ℕ) → slice_index (replicate k 0) i ≡ 0
zeros zero i = refl
zeros (suc k) zero = refl
zeros (suc k) (suc i) = zeros k i

-- filled up with zeros
pub index_filled : (xs : List ℕ) (n k i : ℕ) → length xs ≤ n → slice_index (take n xs ++ replicate k 0) i ≡ slice_index xs i
index_filled [] zero k i le = zeros k i
index_filled [] (suc n) k i le = zeros k i
index_filled (x ∷ xs) zero k i le = absurd (omega arith)
index_filled (x ∷ xs) (suc n) k zero le = refl
index_filled (x ∷ xs) (suc n) k (suc i) le = index_filled xs n k i (omega arith)

-- HOW MANY THERE ARE

apart_all : (ec : ℕ) (ecs : List ℕ) → has ecs ec ≡ false → AllByRecursion (λ y. eqb ec y ≡ false) ecs
apart_all ec [] h = tt
apart_all ec (e ∷ ecs) h = (grind (arith, h), apart_all ec ecs (has_not_rest ec e ecs h))

once_distinct : (ecs : List ℕ) → AreOnce ecs → IsDistinct eqb ecs
unfolding IsDistinct
once_distinct [] once = tt
once_distinct (ec ∷ ecs) once = (apart_all ec ecs once.0, once_distinct ecs once.1)

-- numbers below n, none of them twice, are at most n
pub few : (ecs : List ℕ) (n : ℕ) → AreOnce ecs → ((ec : ℕ) → has ecs ec ≡ true → ec < n) → length ecs ≤ n
few ecs n once below = length-le_from_distinct_below ecs n (once_distinct ecs once) below
