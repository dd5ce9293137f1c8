-- Turns along an order, block by block, in which a virtual CPU is followed.
use Rattle.std.proofs.Common.{◌≡◌, ℕ, ◌+◌, ◌≤◌, ◌<◌, List, [], ◌∷◌, ◌++◌, length, take, replicate, ap, sym, ◌∙◌, subst, refl, arith, slice_index_or}
use Rattle.std.specs.Prelude.{Bool, true, false, is_some, IsSome, IsTrue, nat_lt, if◌then◌else◌}
use Rattle.std.specs.List.{list_all}
use Rattle.std.proofs.lemmas.List.{length-append, replicate-append-replicate}
use Rattle.nova_kernel.specs.Views.{KernelView}
use Rattle.law_turns.proofs.Passes.{free_append, run_append}
use Rattle.nova_model.specs.Runs.{IsFreeOfIdle, after, run}
use Rattle.nova_model.specs.State.{KernelState}
use Rattle.nova_model.specs.Turn.{turn}
use Rattle.nova_order.specs.Blocks.{total, turns}
use Rattle.nova_order.specs.declared.block.Block.{Block}
use Rattle.nova_order.proofs.BlockLemmas.{length_turns, turns_push}
use Rattle.nova_order.proofs.PlaceLemmas.{fits_at, more_at, there_at}
use Rattle.nova_finished.specs.Finished.{IsIdleLine}
use Rattle.nova_finished.specs.UnderWay.{taken}
use Rattle.nova_finished.proofs.Idle.{line_idle}
use Rattle.nova_following.specs.Follows.{Followed, followed, met, noted}
use Rattle.nova_following.specs.Passes.{HasFollowed, IsBlockTaken}

-- TURNS AFTER OTHERS
followed_append : (g : ℕ) (k : KernelState) (xs ys : List ℕ) (f : Followed) → followed g k (xs ++ ys) f ≡ followed g (run k xs) ys (followed g k xs f)
followed_append g k [] ys f = refl
followed_append g k (cpu ∷ xs) ys f = followed_append g (after k cpu) xs ys (noted f (after k cpu) g (met k cpu g))

pub passed_none : (g : ℕ) (k : KernelView) (f : Followed) → HasFollowed g k f [] k f
passed_none g k f = record { state = refl; room = omega arith; count = omega arith; cpus = refl; trail = refl }

pub passed_through : (g : ℕ) (a b c : KernelView) (f h i : Followed) (xs ys : List ℕ) → HasFollowed g a f xs b h → HasFollowed g b h ys c i → HasFollowed g a f (xs ++ ys) c i
passed_through g a b c f h i xs ys one two =
    let long = length-append xs ys in
    let first = one.room in
    let second = two.room in
    let before = one.count in
    let after_ = two.count in
    record {
      state = two.state ∙ (ap (λ (s : KernelState). run s ys) one.state ∙ sym (run_append a.state xs ys));
      room = omega (arith, long, first, second);
      count = omega (arith, long, before, after_);
      cpus = two.cpus ∙ one.cpus;
      trail = two.trail ∙ (ap (λ (s : KernelState). followed g s ys h) one.state ∙ (ap (followed g (run a.state xs) ys) one.trail ∙ sym (followed_append g a.state xs ys f)));
    }

-- TURNS OF ONE PROCESSOR
replicate_on : (n cpu : ℕ) → replicate (n + 1) cpu ≡ replicate n cpu ++ cpu ∷ []
replicate_on n cpu = sym (replicate-append-replicate n 1 cpu)

is_at : (k : KernelState) (cpu : ℕ) → is_some (turn k cpu) ≡ true → IsSome (turn k cpu)
is_at k cpu h = h

pub turn_on : (g : ℕ) (a b c : KernelView) (f h i : Followed) (cpu n : ℕ) → IsBlockTaken a.state (replicate n cpu) (HasFollowed g a f (replicate n cpu) b h) true → HasFollowed g b h (taken b.state cpu) c i →
    is_some (turn b.state cpu) ≡ true → IsBlockTaken a.state (replicate (n + 1) cpu) (HasFollowed g a f (replicate (n + 1) cpu) c i) true
turn_on g a b c f h i cpu n was turned there =
    let one : taken b.state cpu ≡ cpu ∷ [] = ap (λ (t : Bool). if t then cpu ∷ [] else []) there in
    let passed = passed_through g a b c f h i (replicate n cpu) (cpu ∷ []) was.0 (subst (λ (l : List ℕ). HasFollowed g b h l c i) one turned) in
    let free = free_append a.state (replicate n cpu) (cpu ∷ []) was.1
    (is_at (run a.state (replicate n cpu)) cpu (ap (λ (k : KernelState). is_some (turn k cpu)) (sym was.0.state) ∙ there), tt) in
    subst (λ (l : List ℕ). HasFollowed g a f l c i × IsFreeOfIdle a.state l) (sym (replicate_on n cpu)) (passed, free)

-- A BLOCK
abbrev pub IsAlong : ℕ → KernelView → Followed → List Block → KernelView → Followed → Type 0
IsAlong g k f blocks l h = IsBlockTaken k.state (turns blocks) (HasFollowed g k f (turns blocks) l h) true

pub along_first : (g : ℕ) (k : KernelView) (f : Followed) → IsAlong g k f [] k f
unfolding turns
along_first g k f = (passed_none g k f, tt)

block_on : (g : ℕ) (a b c : KernelView) (f h i : Followed) (blocks : List Block) (block : Block) → IsAlong g a f blocks b h →
    IsBlockTaken b.state (replicate block.count block.cpu) (HasFollowed g b h (replicate block.count block.cpu) c i) true → IsAlong g a f (blocks ++ block ∷ []) c i
block_on g a b c f h i blocks block along turned =
    let list = replicate block.count block.cpu in
    subst (λ (l : List ℕ). HasFollowed g a f l c i × IsFreeOfIdle a.state l) (sym (turns_push blocks block)) (
      passed_through g a b c f h i (turns blocks) list along.0 turned.0,
      free_append a.state (turns blocks) list along.1 (subst (λ (s : KernelState). IsFreeOfIdle s list) along.0.state turned.1),
    )

-- the block at a place of an order
module _ (blocks : List Block) (n : ℕ) (d : Block) (less : n < length blocks) (g : ℕ) (a b : KernelView) (f h : Followed) (along : IsAlong g a f (take n blocks) b h) where
  abbrev block_at : Block
  block_at = slice_index_or blocks n d

  pub cpu_at : IsTrue (list_all (λ block. nat_lt block.cpu a.state.cpus) blocks) → block_at.cpu < b.state.cpus
  cpu_at within = let below = there_at blocks n d less a.state.cpus within in let same = along.0.cpus in omega (arith, below, same)

  pub room_at : total blocks ≤ a.room → block_at.count ≤ b.room
  room_at fits = let long = length_turns (take n blocks) in let room = along.0.room in let at = fits_at blocks n d less in omega (arith, fits, long, room, at)

  pub count_at : a.state.turns + total blocks ≤ 2147483648 → b.state.turns + block_at.count ≤ 2147483648
  count_at fits = let long = length_turns (take n blocks) in let count = along.0.count in let at = fits_at blocks n d less in omega (arith, fits, long, count, at)

  pub on_at : (c : KernelView) (i : Followed) (all : Bool) → all ≡ true → IsBlockTaken b.state (replicate block_at.count block_at.cpu) (HasFollowed g b h (replicate block_at.count block_at.cpu) c i) all → IsAlong g a f (take (n + 1) blocks) c i
  on_at c i all is turned =
      subst (λ (l : List Block). IsAlong g a f l c i) (sym (more_at blocks n d less))
      (block_on g a b c f h i (take n blocks) block_at along (subst (λ (t : Bool). IsBlockTaken b.state (replicate block_at.count block_at.cpu) (HasFollowed g b h (replicate block_at.count block_at.cpu) c i) t) is turned))

  pub idle_at : (c : KernelView) (i : Followed) (line : ℕ) (all : Bool) → all ≡ false → IsBlockTaken b.state (replicate block_at.count block_at.cpu) (HasFollowed g b h (replicate block_at.count block_at.cpu) c i) all → line ≡ n + 1 → IsIdleLine a.state blocks line
  idle_at c i line all is turned number =
      line_idle blocks n d less a.state b.state line along.0.state along.1
      (subst (λ (t : Bool). IsBlockTaken b.state (replicate block_at.count block_at.cpu) (HasFollowed g b h (replicate block_at.count block_at.cpu) c i) t) is turned) number
