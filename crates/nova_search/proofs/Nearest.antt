-- States are found by the number of their turns.
use Rattle.std.proofs.Common.{◌≡◌, ◌⊎◌, ℕ, zero, suc, ◌+◌, ◌<◌, ◌≤◌, List, [], ◌∷◌, ◌++◌, length, refl, ap, sym, subst, ◌∙◌, arith, inl, inr}
use Rattle.std.specs.Prelude.{Bool, true, false, Contains, nat_lt, slice_index_or}
use Rattle.std.specs.List.{AllByRecursion}
use Rattle.std.proofs.lemmas.List.{length-append}
use Rattle.nova_model.specs.State.{KernelState}
use Rattle.nova_model.specs.Runs.{after, run}
use Rattle.nova_search.specs.Merged.{IsApt, IsOne}
use Rattle.nova_search.specs.Searches.{AreByTurns, AreNearest, AreProcessors, Grows, HasNear, IsBefore, IsExpanded, IsUnderWay}
use Rattle.nova_search.specs.declared.merging.Merging.{Merging}
use Rattle.nova_search.proofs.Growth.{any_default, still_at}

abbrev pub turns_at : List KernelState → ℕ → KernelState → ℕ
turns_at states i d = (slice_index_or states i d).turns

-- of the states that stand behind others
more_at : (more : List KernelState) (turns i : ℕ) (d : KernelState) → AllByRecursion (λ (s : KernelState). s.turns ≡ turns) more → i < length more →
    (slice_index_or more i d).turns ≡ turns
more_at [] turns i d each less = absurd (omega (arith, less))
more_at (s ∷ more) turns zero d each less = each.0
more_at (s ∷ more) turns (suc i) d each less = more_at more turns i d each.1 (omega (arith, less))

behind_at : (xs more : List KernelState) (turns i : ℕ) (d : KernelState) → AllByRecursion (λ (s : KernelState). s.turns ≡ turns) more → length xs ≤ i → i < length (xs ++ more) →
    (slice_index_or (xs ++ more) i d).turns ≡ turns
behind_at [] more turns i d each many less = more_at more turns i d each less
behind_at (x ∷ xs) more turns zero d each many less = absurd (omega (arith, many))
behind_at (x ∷ xs) more turns (suc i) d each many less = behind_at xs more turns i d each (omega (arith, many)) (omega (arith, less))

new_at : (xs ys : List KernelState) (turns i : ℕ) (d : KernelState) → Grows xs ys turns → length xs ≤ i → i < length ys → (slice_index_or ys i d).turns ≡ turns
new_at xs ys turns i d grows many less =
    ap (λ (l : List KernelState). (slice_index_or l i d).turns) grows.whole
    ∙ behind_at xs grows.more turns i d grows.taken many (let whole = ap length grows.whole in omega (arith, less, whole))

old_at : (xs ys : List KernelState) (turns i : ℕ) (d : KernelState) → Grows xs ys turns → i < length xs → (slice_index_or ys i d).turns ≡ (slice_index_or xs i d).turns
old_at xs ys turns i d grows less = ap (λ (s : KernelState). s.turns) (still_at xs ys i d grows less)

-- a place lies among those that were there, or behind them
pub side : (i n : ℕ) → (i < n) ⊎ (n ≤ i)
side i n = by_test (nat_lt i n) refl
  where
    by_test : (t : Bool) → nat_lt i n ≡ t → (i < n) ⊎ (n ≤ i)
    by_test true is = inl (grind (arith, is))
    by_test false is = inr (grind (arith, is))

-- the first alone
one_at : (k : KernelState) (i j : ℕ) (d : KernelState) → i ≤ j → j < 1 → turns_at (k ∷ []) i d ≤ turns_at (k ∷ []) j d
one_at k zero zero d most less = omega arith
one_at k (suc i) zero d most less = absurd (omega (arith, most))
one_at k i (suc j) d most less = absurd (omega (arith, less))

near_one : (k : KernelState) (i : ℕ) (d : KernelState) → i < 1 → turns_at (k ∷ []) i d ≤ k.turns + 1
near_one k zero d less = omega arith
near_one k (suc i) d less = absurd (omega (arith, less))

pub by_turns_first : (k : KernelState) (limit : ℕ) (states : List KernelState) → states ≡ k ∷ [] → AreByTurns limit states 0
by_turns_first k limit states only = subst (λ (l : List KernelState). AreByTurns limit l 0) (sym only) (record {
  rising = one_at k;
  near = λ there i d less. near_one k i d less;
  few = λ i d first less. absurd (omega (arith, first, less));
})

-- none has taken more turns than those that are found behind them
most_at : (limit : ℕ) (xs ys : List KernelState) (place : ℕ) → AreByTurns limit xs place → place < length xs → ((d : KernelState) → Grows xs ys (turns_at xs place d + 1)) →
    (i : ℕ) (d : KernelState) → i < length ys → turns_at ys i d ≤ turns_at xs place d + 1
most_at limit xs ys place are there grows i d less = by_side (side i (length xs))
  where
    by_side : (i < length xs) ⊎ (length xs ≤ i) → turns_at ys i d ≤ turns_at xs place d + 1
    by_side (inl old) = let same = old_at xs ys (turns_at xs place d + 1) i d (grows d) old in let is = are.near there i d old in omega (arith, same, is)
    by_side (inr new) = let same = new_at xs ys (turns_at xs place d + 1) i d (grows d) new less in omega (arith, same)

pub most_of : (limit : ℕ) (xs ys : List KernelState) (place : ℕ) → AreByTurns limit xs place → place < length xs → ((d : KernelState) → Grows xs ys (turns_at xs place d + 1)) →
    (d s : KernelState) → Contains ys s → s.turns ≤ turns_at xs place d + 1
most_of limit xs ys place are there grows d s has =
    let most = most_at limit xs ys place are there grows has.0 s has.1 in
    let is = ap (λ (x : KernelState). x.turns) has.2 in
    let same = ap (λ (x : KernelState). x.turns) (any_default xs place d s there) in
    omega (arith, most, is, same)

-- where a state was expanded whose turns the limit doesn't use up
pub by_turns_on : (limit : ℕ) (xs ys : List KernelState) (place : ℕ) → AreByTurns limit xs place → place < length xs →
    ((d : KernelState) → Grows xs ys (turns_at xs place d + 1)) → ((d : KernelState) → turns_at xs place d < limit) → AreByTurns limit ys (place + 1)
by_turns_on limit xs ys place are there grows few = record {
  rising = rising;
  near = λ there i d less. near there i d less;
  few = λ i d first less. few_by i d first less (side i (length xs));
}
  where
    most : (i : ℕ) (d : KernelState) → i < length ys → turns_at ys i d ≤ turns_at xs place d + 1
    most = most_at limit xs ys place are there grows

    rising : (i j : ℕ) (d : KernelState) → i ≤ j → j < length ys → turns_at ys i d ≤ turns_at ys j d
    rising i j d ordered less = by_side (side j (length xs))
      where
        by_side : (j < length xs) ⊎ (length xs ≤ j) → turns_at ys i d ≤ turns_at ys j d
        by_side (inl old) =
            let first = old_at xs ys (turns_at xs place d + 1) i d (grows d) (omega (arith, ordered, old)) in
            let second = old_at xs ys (turns_at xs place d + 1) j d (grows d) old in
            let is = are.rising i j d ordered old in
            omega (arith, first, second, is)
        by_side (inr new) =
            let second = new_at xs ys (turns_at xs place d + 1) j d (grows d) new less in
            let is = most i d (omega (arith, ordered, less)) in
            omega (arith, second, is)

    long : (d : KernelState) → length xs ≤ length ys
    long d = let whole = ap length (grows d).whole in let sum = length-append xs (grows d).more in omega (arith, whole, sum)

    near : place + 1 < length ys → (i : ℕ) (d : KernelState) → i < length ys → turns_at ys i d ≤ turns_at ys (place + 1) d + 1
    near more i d less =
        let is = most i d less in
        let here = old_at xs ys (turns_at xs place d + 1) place d (grows d) there in
        let next = rising place (place + 1) d (omega arith) more in
        omega (arith, is, here, next)

    few_by : (i : ℕ) (d : KernelState) → 0 < i → i < length ys → (i < length xs) ⊎ (length xs ≤ i) → turns_at ys i d ≤ limit
    few_by i d first less (inl old) = let same = old_at xs ys (turns_at xs place d + 1) i d (grows d) old in let is = are.few i d first old in omega (arith, same, is)
    few_by i d first less (inr new) = let same = new_at xs ys (turns_at xs place d + 1) i d (grows d) new less in let is = few d in omega (arith, same, is)

-- where a state is left as it is
pub by_turns_left : (limit : ℕ) (xs : List KernelState) (place : ℕ) → AreByTurns limit xs place → AreByTurns limit xs (place + 1)
by_turns_left limit xs place are = record {
  rising = are.rising;
  near = λ more i d less.
      let is = are.near (omega (arith, more)) i d less in
      let next = are.rising place (place + 1) d (omega arith) more in
      omega (arith, is, next);
  few = are.few;
}

-- an order of few turns leads to a state that is one with one that was found before
led_before : (m : Merging) (n few place : ℕ) (states : List KernelState) → ((s : KernelState) (cpu : ℕ) → IsApt s → IsApt (after s cpu)) →
    ((r : KernelState) → Contains states r → r.turns + 1 < few → IsExpanded m n states r) → ((i : ℕ) (d : KernelState) → i < length states → turns_at states i d < few → i < place) →
    (r s : KernelState) (order : List ℕ) → AreProcessors n order → r.turns + length order < few → Contains states r → IsOne m r s → IsApt s → IsBefore m states place (run s order)
led_before m n few place states goes_on expanded before r s [] are less there is apt = record {
  its_place = there.0;
  before = before there.0 r there.1 (subst (λ (x : KernelState). x.turns < few) (sym there.2) (omega (arith, less)));
  is = λ d. subst (λ (x : KernelState). IsOne m x s) (sym (any_default states there.0 d r there.1 ∙ there.2)) is;
}
led_before m n few place states goes_on expanded before r s (cpu ∷ order) are less there is apt =
    let e : HasNear m states (r.turns + 1) (after s cpu) = (expanded r there (omega (arith, less))).each s apt is cpu are.0 in
    let near = e.few in
    led_before m n few place states goes_on expanded before e.has.one (after s cpu) order are.1 (omega (arith, less, near)) e.has.there e.has.is (goes_on s cpu apt)

module _ (m : Merging) (goes_on : (s : KernelState) (cpu : ℕ) → IsApt s → IsApt (after s cpu)) (k : KernelState) (limit : ℕ) (states : List KernelState) (place : ℕ) (is_whole : Bool)
    (way : IsUnderWay m k limit states place is_whole) (by_turns : AreByTurns limit states place) (first : (d : KernelState) → slice_index_or states 0 d ≡ k) (same_one : IsOne m k k)
    (apt : IsApt k) where
  within_limit : (i : ℕ) (d : KernelState) → i < length states → k.turns < turns_at states i d → turns_at states i d ≤ limit
  within_limit zero d there more = let same = ap (λ (s : KernelState). s.turns) (first d) in absurd (omega (arith, same, more))
  within_limit (suc i) d there more = by_turns.few (suc i) d (omega arith) there

  -- a state of fewer turns, but for one, than one that was found has been gone through
  gone_through : (i j : ℕ) (d : KernelState) → i < length states → j < length states → turns_at states j d + 1 < turns_at states i d → j < place
  gone_through i j d there less short = by_side (side place (length states)) (side j place)
    where
      by_side : (place < length states) ⊎ (length states ≤ place) → (j < place) ⊎ (place ≤ j) → j < place
      by_side all (inl is) = is
      by_side (inr all) (inr is) = absurd (omega (arith, all, is, less))
      by_side (inl more) (inr is) =
          let near = by_turns.near more i d there in
          let rising = by_turns.rising place j d is less in
          absurd (omega (arith, near, rising, short))

  earlier : (i j : ℕ) (d : KernelState) → i < length states → j < length states → turns_at states j d < turns_at states i d → j < i
  earlier i j d there less short = by_side (side j i)
    where
      by_side : (j < i) ⊎ (i ≤ j) → j < i
      by_side (inl is) = is
      by_side (inr is) = let rising = by_turns.rising i j d is less in absurd (omega (arith, rising, short))

  pub nearest : AreNearest m k states
  nearest = record { each = each }
    where
      each : (i : ℕ) (d : KernelState) → i < length states → (order : List ℕ) → AreProcessors k.cpus order → k.turns + length order < turns_at states i d →
          IsBefore m states i (run k order)
      each i d there order are few =
          led_before m k.cpus (turns_at states i d) i states goes_on expanded (λ j e less short. earlier_by j e less short) k k order are few way.opening same_one apt
        where
          most : turns_at states i d ≤ limit
          most = within_limit i d there (omega (arith, few))

          same : (j : ℕ) (e : KernelState) → j < length states → slice_index_or states j d ≡ slice_index_or states j e
          same j e less = any_default states j d e less

          earlier_by : (j : ℕ) (e : KernelState) → j < length states → turns_at states j e < turns_at states i d → j < i
          earlier_by j e less short = earlier i j d there less (let is = ap (λ (s : KernelState). s.turns) (same j e less) in omega (arith, is, short))

          expanded : (s : KernelState) → Contains states s → s.turns + 1 < turns_at states i d → IsExpanded m k.cpus states s
          expanded s c short =
              let is : slice_index_or states c.0 d ≡ s = same c.0 s c.1 ∙ c.2 in
              let turns = ap (λ (x : KernelState). x.turns) is in
              subst (λ (x : KernelState). IsExpanded m k.cpus states x) is
              (way.expanded c.0 d (gone_through i c.0 d there c.1 (omega (arith, turns, short))) (omega (arith, turns, short, most)))
