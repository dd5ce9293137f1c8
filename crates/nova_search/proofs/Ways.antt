-- A way that goes on by one turn.
use Rattle.std.proofs.Common.{◌≡◌, ℕ, zero, suc, ◌+◌, ◌<◌, ◌≤◌, List, [], ◌∷◌, ◌++◌, length, take, refl, ap, sym, subst, ◌∙◌, arith}
use Rattle.std.specs.Prelude.{IsSome, slice_index_or}
use Rattle.nova_model.specs.State.{KernelState}
use Rattle.nova_model.specs.Turn.{turn}
use Rattle.nova_model.specs.Runs.{IsFreeOfIdle, after, run}
use Rattle.nova_compare.specs.Steps.{IsSuccessor}
use Rattle.std.proofs.lemmas.List.{take_more}
use Rattle.nova_search.specs.Searches.{AreProcessors, IsAlong, IsReached, IsWay}

pub run_more : (k : KernelState) (order : List ℕ) (cpu : ℕ) → run k (order ++ cpu ∷ []) ≡ after (run k order) cpu
run_more k [] cpu = refl
run_more k (c ∷ order) cpu = run_more (after k c) order cpu

free_more : (k : KernelState) (order : List ℕ) (cpu : ℕ) → IsFreeOfIdle k order → IsSome (turn (run k order) cpu) → IsFreeOfIdle k (order ++ cpu ∷ [])
free_more k [] cpu free there = (there, tt)
free_more k (c ∷ order) cpu free there = (free.0, free_more (after k c) order cpu free.1 there)

pub processors_more : (n : ℕ) (order : List ℕ) (cpu : ℕ) → AreProcessors n order → cpu < n → AreProcessors n (order ++ cpu ∷ [])
processors_more n [] cpu are is = (is, tt)
processors_more n (c ∷ order) cpu are is = (are.0, processors_more n order cpu are.1 is)

pub begun : (k : KernelState) → IsReached k k
begun k = record { order = []; way = record { processors = tt; no_idle = tt; state = refl; turns = omega arith }; cpus = refl }

length_on : (order : List ℕ) (cpu : ℕ) → length (order ++ cpu ∷ []) ≡ length order + 1
length_on [] cpu = refl
length_on (c ∷ order) cpu = let e = length_on order cpu in omega (arith, e)

way_on : (k s t : KernelState) (order : List ℕ) (cpu : ℕ) → IsWay k s order → s.cpus ≡ k.cpus → cpu < s.cpus → IsSuccessor s cpu t → IsWay k t (order ++ cpu ∷ [])
way_on k s t order cpu way cpus is next = record {
  processors = processors_more k.cpus order cpu way.processors (subst (λ (n : ℕ). cpu < n) cpus is);
  no_idle = free_more k order cpu way.no_idle (subst (λ (x : KernelState). IsSome (turn x cpu)) way.state next.there);
  state = next.state ∙ ap (λ (x : KernelState). after x cpu) way.state ∙ sym (run_more k order cpu);
  turns = let so_far = way.turns in let more = next.turns in let long = length_on order cpu in omega (arith, so_far, more, long);
}

pub along_none : (k s : KernelState) → s ≡ k → IsAlong k s []
along_none k s same = subst (λ (x : KernelState). IsAlong k x []) (sym same) (record { way = record { processors = tt; no_idle = tt; state = refl; turns = omega arith }; cpus = refl })

take_whole : (xs : List ℕ) (n : ℕ) → length xs ≤ n → take n xs ≡ xs
take_whole [] zero most = refl
take_whole [] (suc n) most = refl
take_whole (x ∷ xs) zero most = absurd (omega (arith, most))
take_whole (x ∷ xs) (suc n) most = ap (λ (l : List ℕ). x ∷ l) (take_whole xs n (omega (arith, most)))

pub along_on : (k s t : KernelState) (order : List ℕ) (i : ℕ) → IsAlong k s (take i order) → i < length order → slice_index_or order i 0 < k.cpus →
    IsSuccessor s (slice_index_or order i 0) t → IsAlong k t (take (i + 1) order)
along_on k s t order i along less there next = let cpu = slice_index_or order i 0 in subst (λ (o : List ℕ). IsAlong k t o) (sym (take_more order i 0 less)) (record {
  way = way_on k s t (take i order) cpu along.way along.cpus (subst (λ (n : ℕ). cpu < n) (sym along.cpus) there) next;
  cpus = next.cpus ∙ along.cpus;
})

pub all_along : (k s : KernelState) (order : List ℕ) (i : ℕ) → IsAlong k s (take i order) → length order ≤ i → IsWay k s order
all_along k s order i along most = subst (λ (o : List ℕ). IsWay k s o) (take_whole order i most) along.way

pub few_along : (k s : KernelState) (order : List ℕ) (i most : ℕ) → IsAlong k s (take i order) → i < length order → k.turns + length order ≤ most → s.turns < most
few_along k s order i most along less few = let so_far = along.way.turns in let short = length_take order i (omega (arith, less)) in omega (arith, so_far, short, less, few)
  where
    length_take : (xs : List ℕ) (n : ℕ) → n ≤ length xs → length (take n xs) ≡ n
    length_take xs zero most = refl
    length_take [] (suc n) most = absurd (omega (arith, most))
    length_take (x ∷ xs) (suc n) most = ap suc (length_take xs n (omega (arith, most)))

pub goes_on : (k s t : KernelState) (cpu : ℕ) → IsReached k s → cpu < s.cpus → IsSuccessor s cpu t → IsReached k t
goes_on k s t cpu reached is next = record {
  order = reached.order ++ cpu ∷ [];
  way = way_on k s t reached.order cpu reached.way reached.cpus is next;
  cpus = next.cpus ∙ reached.cpus;
}
