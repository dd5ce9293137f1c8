-- Donation in other words: ways along edges.
use Rattle.std.specs.Prelude.{ℕ, ◌≡◌, ◌≢◌, ◌↔◌, ◌<◌, [], ◌∷◌, ◌++◌, true, false, Option, Some, IfSome, IsSome, slice_set}
use Rattle.nova_model.specs.State.{Contexts, ec_in}
use Rattle.nova_model.specs.Edges.{AreEdges, after_edges, edge, edge_of, circle, acts, acts_by, is_dead, is_free, stays, chase, cpu_in}
use Rattle.nova_model.specs.declared.context.EcState.{EcState}
use Rattle.nova_model.specs.declared.context.State.{State}
use Rattle.nova_ec.specs.Tables.{actor_in}

-- a way leads from a context to another
abbrev pub Leads : Contexts → ℕ → ℕ → Type 0
Leads cs e f = (k : ℕ) × (after_edges k (edge cs) e ≡ Some f)

-- a circle is a way
abbrev pub CirclesAreWays : Type 0
CirclesAreWays = (cs : Contexts) (h e : ℕ) → AreEdges cs → IsSome (ec_in cs h) → (circle cs h e ≡ true) ↔ Leads cs h e

-- turns of `e` stay with `f`, which is met after k edges, and with none before it
pub record EndsAt (cs : Contexts) (e f : ℕ) : Type 0 where
  pub edges : ℕ
  pub way : after_edges edges (edge cs) e ≡ Some f
  pub last : stays cs f ≡ true
  pub first : (i : ℕ) → i < edges → IfSome (after_edges i (edge cs) e) (λ x. stays cs x ≡ false)

-- each chase ends, and in one alone
abbrev pub ChasesEnd : Type 0
ChasesEnd = (cs : Contexts) (e : ℕ) → AreEdges cs → EndsAt cs e (chase cs e)

-- from the first table to the second, turns of an execution context stay with the context that they stayed with, and that acts or not as before
abbrev pub TurnsStay : Contexts → Contexts → ℕ → Type 0
TurnsStay cs ds e = (chase ds e ≡ chase cs e) × (acts ds (chase cs e) ≡ acts cs (chase cs e))

-- A context that does not lead to one that changes is not touched. So where a context changes, only scheduling contexts of those that lead to it can
-- become runnable or cease to be.
abbrev pub OnlyDonorsChange : Type 0
OnlyDonorsChange = (cs : Contexts) (e x : ℕ) (y : EcState) → AreEdges cs → IsSome (ec_in cs x) → circle cs x e ≡ false →
    TurnsStay cs (slice_set cs e (Some y)) x

-- a chase by its steps: it stays, or goes on from the context that the edge leads to
pub record IsChase (cs : Contexts) (e : ℕ) : Type 0 where
  pub ends : stays cs e ≡ true → chase cs e ≡ e
  pub goes_on : (h : ℕ) → stays cs e ≡ false → edge cs e ≡ Some h → chase cs e ≡ chase cs h

abbrev pub ChasesGoOn : Type 0
ChasesGoOn = (cs : Contexts) (e : ℕ) → AreEdges cs → IsChase cs e

-- A change that keeps the edge, whether it acts, and whether others find it free or dead, changes no chase: an instruction that raises
-- makes no scheduling context runnable, nor ceases one to be.
pub record IsUnmoved (s t : State) : Type 0 where
  pub edge : edge_of t ≡ edge_of s
  pub acts : (handler : Option State) → acts_by t handler ≡ acts_by s handler
  pub dead : is_dead (Some t) ≡ is_dead (Some s)
  pub free : is_free (Some t) ≡ is_free (Some s)

abbrev pub UnmovedKeepsChases : Type 0
UnmovedKeepsChases = (cs : Contexts) (e z : ℕ) (x y : EcState) → ec_in cs e ≡ Some x → IsUnmoved x.state y.state →
    (chase (slice_set cs e (Some y)) z ≡ chase cs z) × (acts (slice_set cs e (Some y)) z ≡ acts cs z)

-- so none that leaves the state as it is
abbrev pub SameStateKeepsChases : Type 0
SameStateKeepsChases = (cs : Contexts) (e z : ℕ) (x y : EcState) → ec_in cs e ≡ Some x → y.state ≡ x.state → TurnsStay cs (slice_set cs e (Some y)) z

-- where an entry joins, turns of those that are there stay
abbrev pub JoiningMovesNone : Type 0
JoiningMovesNone = (cs : Contexts) (o : Option EcState) (e : ℕ) → AreEdges cs → IsSome (ec_in cs e) → TurnsStay cs (cs ++ o ∷ []) e

-- where one changes, turns on other processors stay
abbrev pub OthersStay : Type 0
OthersStay = (cs : Contexts) (e z : ℕ) (y : EcState) → AreEdges cs → cpu_in cs z ≢ cpu_in cs e → TurnsStay cs (slice_set cs e (Some y)) z

-- where turns stay, the same context acts in them, or none does
abbrev pub SameActs : Type 0
SameActs = (cs ds : Contexts) (e : ℕ) → TurnsStay cs ds e → actor_in ds e ≡ actor_in cs e
