-- Entries by number, and above them a tree: each of its nodes has the lesser of two.
use Rattle.std.specs.Prelude.{◌≡◌, ◌<◌, ◌≤◌, ℕ, ◌+◌, ◌*◌, ◌-◌, nat_lt, List, [], ◌∷◌, length, slice_get, if◌then◌else◌, Option, None}
use Rattle.nova_model.specs.State.{entry}
use Rattle.nova_times.specs.Entries.{lesser}
use Rattle.nova_times.specs.declared.entry.Entry.{Entry}

-- what stands at a number, or nothing
abbrev pub leaf : List (Option Entry) → ℕ → Option Entry
leaf xs n = entry (slice_get xs n)

-- of all, the entry that no other precedes
abbrev pub least_of : List (Option Entry) → Option Entry
least_of [] = None
least_of (x ∷ xs) = lesser x (least_of xs)

-- THE TREE: its root is 1, the children of i are 2 i and 2 i + 1, and behind the inner nodes come the leaves
abbrev pub node : List (Option Entry) → List (Option Entry) → ℕ → Option Entry
node inner leaves i = if nat_lt i (length inner) then leaf inner i else leaf leaves (i - length inner)

-- what a node above two is to have
abbrev pub of_children : List (Option Entry) → List (Option Entry) → ℕ → Option Entry
of_children inner leaves i = lesser (node inner leaves (2 * i)) (node inner leaves (2 * i + 1))

pub record IsTree (inner leaves : List (Option Entry)) : Type 0 where
  pub size : length leaves ≡ length inner
  pub each : (i : ℕ) → 1 ≤ i → i < length inner → leaf inner i ≡ of_children inner leaves i

-- it is one but for what one node has
pub record IsTreeBut (odd : ℕ) (inner leaves : List (Option Entry)) : Type 0 where
  pub size : length leaves ≡ length inner
  pub each : (i : ℕ) → 1 ≤ i → i < length inner → (i ≡ odd → ⊥) → leaf inner i ≡ of_children inner leaves i

-- it is one from a node on
pub record IsTreeFrom (first : ℕ) (inner leaves : List (Option Entry)) : Type 0 where
  pub size : length leaves ≡ length inner
  pub each : (i : ℕ) → first ≤ i → 1 ≤ i → i < length inner → leaf inner i ≡ of_children inner leaves i
