-- The life of a virtual CPU: the turn in which it was made, and that from then on it is a guest alone.
use Rattle.std.specs.Prelude.{◌≡◌, ◌≢◌, ℕ, List, [], ◌∷◌, ◌++◌, slice_get, None}
use Rattle.std.specs.List.{All, filter}
use Rattle.nova_guest.specs.Alone.{alone, outputs}
use Rattle.law_isolation.specs.Shown.{bytes, exits, is_byte, is_exit, shown}
use Rattle.law_isolation.specs.Sound.{IsVirtual}
use Rattle.nova_model.specs.Guests.{inputs}
use Rattle.nova_model.specs.Runs.{after, run, trace}
use Rattle.nova_model.specs.State.{KernelState}
use Rattle.nova_model.specs.Views.{view}

-- the turn, of a list of turns from k on, that made the virtual CPU: there was no object of its number before that turn, and a virtual CPU after it
pub record IsMade (k : KernelState) (turns : List ℕ) (g : ℕ) : Type 0 where
  pub before : List ℕ
  pub cpu : ℕ
  pub later : List ℕ
  pub whole : turns ≡ before ++ cpu ∷ later
  pub none : slice_get (run k before).objects g ≡ None
  pub made : IsVirtual (after (run k before) cpu) g

-- the state right after that turn
abbrev pub born : (k : KernelState) (turns : List ℕ) (g : ℕ) → IsMade k turns g → KernelState
born k turns g m = after (run k m.before) m.cpu

-- No event up to that turn, and none of that turn, names it. Its view at the end is what the guest alone makes of its view right after that turn and its
-- inputs over the rest of the turns. What the guest alone puts out is all that these turns show of it: the exits that it raises, in order, where reason and first
-- qualification are those of its raise events in the trace, and the second is that of its state right after that turn; and the bytes that its turns
-- append to the log, in order.
pub record IsGuestAlone (k : KernelState) (turns : List ℕ) (g : ℕ) (m : IsMade k turns g) : Type 0 where
  pub unnamed : All (λ e. e.ec ≢ g) (trace k (m.before ++ m.cpu ∷ []))
  pub becomes : view (run k turns) g ≡ alone (view (born k turns g m) g) (inputs (born k turns g m) m.later g)
  pub shows : outputs (view (born k turns g m) g) (inputs (born k turns g m) m.later g) ≡ shown k turns g
  pub raises : filter is_exit (outputs (view (born k turns g m) g) (inputs (born k turns g m) m.later g)) ≡ exits k turns g
  pub stores : filter is_byte (outputs (view (born k turns g m) g) (inputs (born k turns g m) m.later g)) ≡ bytes k turns g

-- each virtual CPU that is there at the end was made at one of the turns, and at no other; and each that was made at one of them is a guest alone from then on
pub record AreGuestsAlone (k : KernelState) (turns : List ℕ) : Type 0 where
  pub made : (g : ℕ) → IsVirtual (run k turns) g → IsMade k turns g
  pub once : (g : ℕ) (m n : IsMade k turns g) → m.before ≡ n.before
  pub alone : (g : ℕ) (m : IsMade k turns g) → IsGuestAlone k turns g m
