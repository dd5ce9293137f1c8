-- Sides beside domains that are trusted: what no program of a side does to another side, while what is trusted serves both.
-- A label says of each protection domain whose it is: 0 is trusted, and any other number is a side.
use Rattle.std.specs.Prelude.{◌≡◌, ◌≢◌, ◌⊎◌, ◌==◌, ℕ, Bool, false, Contains, List, [], ◌∷◌, ◌++◌, if◌then◌else◌, length, slice_get, Option, Some, None, option_map}
use Rattle.nova_objects.specs.declared.object.Object.TheVariants.{Sm}
use Rattle.nova_range.specs.declared.range.Kind.TheVariants.{Obj}
use Rattle.nova_model.specs.Choice.{next_to_act}
use Rattle.nova_model.specs.Edges.{edge}
use Rattle.nova_model.specs.Runs.{after, run}
use Rattle.nova_model.specs.State.{KernelState, context, is_local_thread, pd_of}
use Rattle.nova_model.specs.declared.context.Mark.{Mark}
use Rattle.nova_model.specs.declared.context.State.TheVariants.{Blocked, Granting}
use Rattle.nova_model.specs.declared.delegation.Derivation.{Derivation}
use Rattle.law_origins.specs.Giving.{Acts}
use Rattle.law_integrity.specs.Confined.{Holds, IsOwned, Reach}

-- the domains of this label; and those with the trusted ones
abbrev pub Labelled : (ℕ → ℕ) → ℕ → ℕ → Type 0
Labelled label side n = label n ≡ side

abbrev pub OrTrusted : (ℕ → ℕ) → ℕ → ℕ → Type 0
OrTrusted label side n = (label n ≡ side) ⊎ (label n ≡ 0)

-- semaphores that sides share on purpose, by the numbers of their objects: here none
abbrev pub unshared : ℕ → Bool
unshared sm = false

-- THE POLICY, OF ONE STATE

-- a side may hold capabilities to the object of this number: it is of the side's own or of what is trusted, a domain, an execution context, a portal to a handler or a scheduling context that is bound to an
-- execution context; or a semaphore that is shared, or that no other side holds. And nobody of another side waits at one that isn't shared.
pub record MayHold (shared : ℕ → Bool) (k : KernelState) (label : ℕ → ℕ) (side object : ℕ) : Type 0 where
  pub leads : IsOwned k (OrTrusted label side) object (slice_get k.objects object)
  pub alone : slice_get k.objects object ≡ Some Sm → shared object ≡ false → (d : Derivation) → Contains k.delegations.list d → d.kind ≡ Obj → d.target ≡ object → OrTrusted label side d.pd
  pub waits : shared object ≡ false → (n : ℕ) → (context k n).state ≡ Blocked object → OrTrusted label side (pd_of k n)

-- One that waits for a handler of a side, by a call, a help or an exit, is of that side; or it is trusted and no handler itself, so that nobody waits for it: a client.
abbrev pub MayWait : KernelState → (ℕ → ℕ) → ℕ → ℕ → Type 0
MayWait k label side waiter = (label (pd_of k waiter) ≡ side) ⊎ ((label (pd_of k waiter) ≡ 0) × (is_local_thread k waiter ≡ false))

-- each side holds only what it may; for its handlers wait only those that may, and a handler that takes the items of a call takes them of that side; a domain to which one of a side gives a first range is of that
-- side; and whoever waits at a semaphore that isn't shared, where one of a side waits, is of that side, or trusted. What is trusted may hold what it likes.
pub record IsWithinPolicy (shared : ℕ → Bool) (k : KernelState) (label : ℕ → ℕ) : Type 0 where
  pub capabilities : (d : Derivation) → Contains k.delegations.list d → d.kind ≡ Obj → label d.pd ≢ 0 → MayHold shared k label (label d.pd) d.target
  pub edges : (waiter handler : ℕ) → edge k.contexts waiter ≡ Some handler → label (pd_of k handler) ≢ 0 → MayWait k label (label (pd_of k handler)) waiter
  pub takes : (handler caller : ℕ) (mark : Mark) → (context k handler).state ≡ Granting None → (context k handler).caller ≡ Some (caller, mark) → label (pd_of k handler) ≢ 0 →
      label (pd_of k caller) ≡ label (pd_of k handler)
  pub firsts : (ec new : ℕ) → (context k ec).state ≡ Granting (Some new) → label (pd_of k ec) ≢ 0 → label new ≡ label (pd_of k ec)
  pub queues : (n m sm : ℕ) → shared sm ≡ false → (context k n).state ≡ Blocked sm → (context k m).state ≡ Blocked sm → label (pd_of k n) ≢ 0 → OrTrusted label (label (pd_of k n)) (pd_of k m)

-- ALONG TURNS

-- a domain that is made in a turn has the label of its maker's
abbrev pub labels_by : ℕ → (ℕ → ℕ) → Option ℕ → ℕ → ℕ
labels_by next label None n = label n
labels_by next label (Some side) n = if n == next then side else label n

abbrev pub labels_after : KernelState → (ℕ → ℕ) → ℕ → ℕ → ℕ
labels_after k label cpu = labels_by (length k.objects) label (option_map (λ c. label (pd_of k c.actor)) (next_to_act k cpu))

abbrev pub labels : KernelState → (ℕ → ℕ) → List ℕ → ℕ → ℕ
labels k label [] = label
labels k label (cpu ∷ turns) = labels (after k cpu) (labels_after k label cpu) turns

-- what one that is trusted has to see to in a turn of its own: each capability that a side has then is one that it had, or one that it may hold; it doesn't come to wait for a handler of a side, but as a client; and
-- no handler of a side takes items of its
pub record IsCareful (shared : ℕ → Bool) (k : KernelState) (label : ℕ → ℕ) (cpu ec : ℕ) : Type 0 where
  pub gives : (d : Derivation) → Contains (after k cpu).delegations.list d → d.kind ≡ Obj → label d.pd ≢ 0 →
      Contains k.delegations.list d ⊎ MayHold shared (after k cpu) (labels_after k label cpu) (label d.pd) d.target
  pub calls : (handler : ℕ) → edge (after k cpu).contexts ec ≡ Some handler → (label (pd_of k handler) ≡ 0) ⊎ (is_local_thread k ec ≡ false)
  pub sends : (handler : ℕ) (mark : Mark) → (context (after k cpu) handler).state ≡ Granting None → (context (after k cpu) handler).caller ≡ Some (ec, mark) → label (pd_of k handler) ≡ 0

-- whoever acts in this turn is of a side, or careful
abbrev pub MayTakeTurn : (ℕ → Bool) → KernelState → (ℕ → ℕ) → ℕ → Type 0
MayTakeTurn shared k label cpu = (ec : ℕ) → Acts k cpu ec → label (pd_of k ec) ≡ 0 → IsCareful shared k label cpu ec

abbrev pub MayTakeTurns : (ℕ → Bool) → KernelState → (ℕ → ℕ) → List ℕ → Type 0
MayTakeTurns shared k label [] = Unit {0}
MayTakeTurns shared k label (cpu ∷ turns) = MayTakeTurn shared k label cpu × MayTakeTurns shared (after k cpu) (labels_after k label cpu) turns

-- of a list of turns from k on one in which one of this label acts
pub record IsTurnOfLabel (k : KernelState) (label : ℕ → ℕ) (turns : List ℕ) (side : ℕ) : Type 0 where
  pub before : List ℕ
  pub cpu : ℕ
  pub later : List ℕ
  pub whole : turns ≡ before ++ cpu ∷ later
  pub actor : ℕ
  pub acts : Acts (run k before) cpu actor
  pub of : labels k label before (pd_of (run k before) actor) ≡ side

-- a side reaches the frame with the right in this state, and after each of these turns; or holds that right to the object
abbrev pub ReachesSince : KernelState → (ℕ → ℕ) → List ℕ → ℕ → ℕ → ℕ → Type 0
ReachesSince k label [] side right frame = Reach k (Labelled label side) right frame
ReachesSince k label (cpu ∷ turns) side right frame = Reach k (Labelled label side) right frame × ReachesSince (after k cpu) (labels_after k label cpu) turns side right frame

abbrev pub HoldsSince : KernelState → (ℕ → ℕ) → List ℕ → ℕ → ℕ → ℕ → Type 0
HoldsSince k label [] side right object = Holds k (Labelled label side) right object
HoldsSince k label (cpu ∷ turns) side right object = Holds k (Labelled label side) right object × HoldsSince (after k cpu) (labels_after k label cpu) turns side right object

-- The turn of a list in which a side comes to reach the frame with the right: before it the side doesn't, and from then on it does. One that is trusted acts in it, whose own domain reaches the frame so.
pub record IsGivenFrame (k : KernelState) (label : ℕ → ℕ) (turns : List ℕ) (side right frame : ℕ) : Type 0 where
  pub turn : IsTurnOfLabel k label turns 0
  pub unreached : Reach (run k turn.before) (Labelled (labels k label turn.before) side) right frame → ⊥
  pub since : ReachesSince (after (run k turn.before) turn.cpu) (labels_after (run k turn.before) (labels k label turn.before) turn.cpu) turn.later side right frame
  pub own : Reach (run k turn.before) (λ n. n ≡ pd_of (run k turn.before) turn.actor) right frame

-- the turn in which it comes to hold the right to the object: one that is trusted acts, whose own domain holds it; or one of the side, which makes the object
pub record IsGivenObject (k : KernelState) (label : ℕ → ℕ) (turns : List ℕ) (side right object : ℕ) : Type 0 where
  pub turn : IsTurnOfLabel k label turns 0
  pub unheld : Holds (run k turn.before) (Labelled (labels k label turn.before) side) right object → ⊥
  pub since : HoldsSince (after (run k turn.before) turn.cpu) (labels_after (run k turn.before) (labels k label turn.before) turn.cpu) turn.later side right object
  pub own : Holds (run k turn.before) (λ n. n ≡ pd_of (run k turn.before) turn.actor) right object

pub record IsMadeBySide (k : KernelState) (label : ℕ → ℕ) (turns : List ℕ) (side right object : ℕ) : Type 0 where
  pub turn : IsTurnOfLabel k label turns side
  pub next : object ≡ length (run k turn.before).objects
  pub since : HoldsSince (after (run k turn.before) turn.cpu) (labels_after (run k turn.before) (labels k label turn.before) turn.cpu) turn.later side right object
