-- States that are judged one after another.
use Rattle.std.proofs.Common.{◌≡◌, ℕ, ◌+◌, ◌-◌, ◌<◌, List, [], ◌∷◌, ◌++◌, Option, Some, None, length, replicate, take, drop, ap, sym, subst, ◌∙◌, arith, append_assoc, string_bytes, slice_index_or, refl}
use Rattle.std.proofs.lemmas.List.{length-append, length-replicate, replicate-append-replicate, replicate_more, take-append-drop}
use Rattle.law_turns.proofs.Passes.{run_append}
use Rattle.nova_model.specs.Runs.{after, run}
use Rattle.nova_model.specs.State.{KernelState}
use Rattle.nova_naming.specs.Statements.{Stated}
use Rattle.nova_judging.specs.declared.answer.Told.{Told}
use Rattle.nova_order.specs.Blocks.{total, turns}
use Rattle.nova_order.specs.declared.block.Block.{Block}
use Rattle.nova_order.proofs.BlockLemmas.{length_turns, total_push, turns_push}
use Rattle.nova_order.proofs.BoundLemmas.{turns_append}
use Rattle.nova_order.proofs.PlaceLemmas.{more_at}
use Rattle.nova_watching.specs.Watched.{AreIsolatedBefore, IsBrokenOn, IsTold, IsToldFrom, IsWatched}

module _ (policy : Option (List Stated)) (from : ℕ) where
  before_append : (k : KernelState) (n : ℕ) (xs ys : List ℕ) → AreIsolatedBefore policy from k n xs → AreIsolatedBefore policy from (run k xs) (n + length xs) ys
      → AreIsolatedBefore policy from k n (xs ++ ys)
  before_append k n [] ys first later = let same : n + 0 ≡ n = omega arith in subst (λ (m : ℕ). AreIsolatedBefore policy from k m ys) same later
  before_append k n (x ∷ xs) ys first later =
      let same : n + length (x ∷ xs) ≡ (n + 1) + length xs = omega arith in
      (first.0, before_append (after k x) (n + 1) xs ys first.1 (subst (λ (m : ℕ). AreIsolatedBefore policy from (run (after k x) xs) m ys) same later))

  -- a state that is found among some turns is found among more
  pub broken_more : (k : KernelState) (n : ℕ) (xs ys : List ℕ) (t : Told) → IsBrokenOn policy from k n xs t → IsBrokenOn policy from k n (xs ++ ys) t
  broken_more k n xs ys t b = record {
    taken = b.taken;
    left = b.left ++ ys;
    whole = sym (append_assoc b.taken b.left ys) ∙ ap (λ zs. zs ++ ys) b.whole;
    isolated = b.isolated;
    late = b.late;
    told = b.told;
    breaking = b.breaking;
  }

  broken_later : (k now : KernelState) (n : ℕ) (xs ys : List ℕ) (t : Told) → now ≡ run k xs → AreIsolatedBefore policy from k n xs → IsBrokenOn policy from now (n + length xs) ys t
      → IsBrokenOn policy from k n (xs ++ ys) t
  broken_later k now n xs ys t is first b =
      let len : length (xs ++ b.taken) ≡ length xs + length b.taken = length-append xs b.taken in
      let late = b.late in
      record {
        taken = xs ++ b.taken;
        left = b.left;
        whole = append_assoc xs b.taken b.left ∙ ap (λ zs. xs ++ zs) b.whole;
        isolated = before_append k n xs b.taken first (subst (λ (s : KernelState). AreIsolatedBefore policy from s (n + length xs) b.taken) is b.isolated);
        late = omega arith;
        told = subst (λ (s : KernelState). IsTold policy s t.answer (string_bytes t.text)) (ap (λ (s : KernelState). run s b.taken) is ∙ sym (run_append k xs b.taken)) b.told;
        breaking = b.breaking;
      }

  -- turns that are watched after others
  pub watched_on : (k now later : KernelState) (n : ℕ) (xs ys : List ℕ) (r : Option Told) → IsWatched policy from k n xs now None → IsWatched policy from now (n + length xs) ys later r
      → IsWatched policy from k n (xs ++ ys) later r
  watched_on k now later n xs ys None first next = (
    next.0 ∙ ap (λ (s : KernelState). run s ys) first.0 ∙ sym (run_append k xs ys),
    before_append k n xs ys first.1 (subst (λ (s : KernelState). AreIsolatedBefore policy from s (n + length xs) ys) first.0 next.1),
  )
  watched_on k now later n xs ys (Some t) first next = broken_later k now n xs ys t first.0 first.1 next

  -- ONE TURN

  pub found_here : (k later : KernelState) (n cpu : ℕ) (t : Told) → IsToldFrom policy from k n (Some t) → IsWatched policy from k n (cpu ∷ []) later (Some t)
  found_here k later n cpu t is = record {
    taken = [];
    left = cpu ∷ [];
    whole = refl;
    isolated = tt;
    late = let late = is.0 in omega arith;
    told = is.1.0;
    breaking = is.1.1;
  }

  pub passed_here : (k later : KernelState) (n cpu : ℕ) → IsToldFrom policy from k n None → later ≡ after k cpu → IsWatched policy from k n (cpu ∷ []) later None
  passed_here k later n cpu is turned = (turned, (is, tt))

  -- IN A BLOCK

  pub one_more : (k now later : KernelState) (n i cpu : ℕ) (r : Option Told) → IsWatched policy from k n (replicate i cpu) now None → IsWatched policy from now (n + i) (cpu ∷ []) later r
      → IsWatched policy from k n (replicate (i + 1) cpu) later r
  one_more k now later n i cpu r first next =
      let same : n + i ≡ n + length (replicate i cpu) = ap (λ (m : ℕ). n + m) (sym (length-replicate i cpu)) in
      subst (λ (l : List ℕ). IsWatched policy from k n l later r) (replicate_more i cpu)
      (watched_on k now later n (replicate i cpu) (cpu ∷ []) r first (subst (λ (m : ℕ). IsWatched policy from now m (cpu ∷ []) later r) same next))

  pub found_in_block : (k now later : KernelState) (n i count cpu : ℕ) (t : Told) → i < count → IsWatched policy from k n (replicate i cpu) now None
      → IsWatched policy from now (n + i) (cpu ∷ []) later (Some t) → IsBrokenOn policy from k n (replicate count cpu) t
  found_in_block k now later n i count cpu t more first next =
      let sum : (i + 1) + (count - (i + 1)) ≡ count = omega arith in
      subst (λ (l : List ℕ). IsBrokenOn policy from k n l t) (replicate-append-replicate (i + 1) (count - (i + 1)) cpu ∙ ap (λ (m : ℕ). replicate m cpu) sum)
      (broken_more k n (replicate (i + 1) cpu) (replicate (count - (i + 1)) cpu) t (one_more k now later n i cpu (Some t) first next))

  -- BLOCK AFTER BLOCK

  pub no_blocks : (k : KernelState) → IsWatched policy from k 0 (turns []) k None
  unfolding turns
  no_blocks k = (refl, tt)

  module _ (blocks : List Block) (i : ℕ) (d : Block) (less : i < length blocks) (k now later : KernelState) (done : ℕ) (is : done ≡ total (take i blocks)) where
    abbrev block_at : Block
    block_at = slice_index_or blocks i d

    pub next_total : done + block_at.count ≡ total (take (i + 1) blocks)
    next_total = ap (λ (n : ℕ). n + block_at.count) is ∙ sym (total_push (take i blocks) block_at) ∙ sym (ap total (more_at blocks i d less))

    pub next_block : (r : Option Told) → IsWatched policy from k 0 (turns (take i blocks)) now None → IsWatched policy from now done (replicate block_at.count block_at.cpu) later r
        → IsWatched policy from k 0 (turns (take (i + 1) blocks)) later r
    next_block r first next =
        let same : done ≡ 0 + length (turns (take i blocks)) = let len = length_turns (take i blocks) in omega (arith, is, len) in
        subst (λ (l : List ℕ). IsWatched policy from k 0 l later r) (sym (turns_push (take i blocks) block_at) ∙ sym (ap turns (more_at blocks i d less)))
        (watched_on k now later 0 (turns (take i blocks)) (replicate block_at.count block_at.cpu) r first
        (subst (λ (m : ℕ). IsWatched policy from now m (replicate block_at.count block_at.cpu) later r) same next))

    pub found_in_blocks : (t : Told) → IsWatched policy from k 0 (turns (take i blocks)) now None → IsWatched policy from now done (replicate block_at.count block_at.cpu) later (Some t)
        → IsBrokenOn policy from k 0 (turns blocks) t
    found_in_blocks t first next =
        subst (λ (l : List ℕ). IsBrokenOn policy from k 0 l t)
        (sym (turns_append (take (i + 1) blocks) (drop (i + 1) blocks)) ∙ ap turns (take-append-drop (i + 1) blocks))
        (broken_more k 0 (turns (take (i + 1) blocks)) (turns (drop (i + 1) blocks)) t (next_block (Some t) first next))
