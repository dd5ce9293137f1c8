-- What stays where an execution context changes.
use Rattle.std.specs.Prelude.{ℕ, ◌≡◌, ◌≢◌, ◌⊎◌, Bool, true, false, List, Option, Some, None, IsSome}
use Rattle.nova_range.specs.declared.status.Status.{Status}
use Rattle.nova_model.specs.Deeds.{actor_after, answered, parked, resumed, serving}
use Rattle.nova_model.specs.Edges.{AreCallers, AreEdges, IsNewEdge, MayServe, MayWait, acts, after_edges, caller_in, chase, cpu_in, edge}
use Rattle.nova_model.specs.State.{Contexts, ec_in, ec_of, with_ec}
use Rattle.nova_model.specs.declared.context.EcState.{EcState}
use Rattle.nova_model.specs.declared.context.Mark.{Mark}
use Rattle.nova_model.specs.declared.context.Mark.TheVariants as mark
use Rattle.nova_model.specs.declared.context.State.TheVariants.{Calling}
use Rattle.nova_model.specs.declared.deed.Deed.{Deed}
use Rattle.nova_model.specs.declared.deed.Deed.TheVariants.{Dies, Waits, Sends, Finishes, Calls, Helps, Replies, Aborts, Blocks}
use Rattle.nova_model.specs.declared.transfer.Sequel.{Sequel}
use Rattle.nova_model.specs.declared.transfer.Sequel.TheVariants.{Replied}
use Rattle.nova_ec.specs.Tables.{AreNumbered, MayBecome}
use Rattle.nova_ec.specs.Ways.{TurnsStay}

-- SOUNDNESS

-- from the first table to the second: what was sound still is, and all have the processors that they had
pub record KeepsSound (cs ds : Contexts) : Type 0 where
  pub edges : AreEdges cs → AreEdges ds
  pub callers : AreCallers cs → AreCallers ds
  pub numbers : AreNumbered cs → AreNumbered ds
  pub cpus : (e : ℕ) → cpu_in ds e ≡ cpu_in cs e

-- one becomes another that it may become
abbrev pub ChangesKeep : Type 0
ChangesKeep = (cs : Contexts) (e : ℕ) (y : EcState) → MayBecome cs e y → KeepsSound cs (with_ec cs e y)

-- the handler for which an execution context waits after its deed
abbrev pub edge_by : Deed → Option ℕ
edge_by (Calls handler ip identifier items) = Some handler
edge_by (Helps handler) = Some handler
edge_by (Waits handler reason q0 q1) = Some handler
edge_by (Sends handler ip identifier mtd reason q0 q1) = Some handler
edge_by other = None

abbrev pub DeedsKeep : Type 0
DeedsKeep = (cs : Contexts) (e : ℕ) (d : Deed) → IsSome (ec_in cs e) → MayWait cs e (edge_by d) → KeepsSound cs (with_ec cs e (actor_after (ec_of cs e) d))

abbrev pub ServingKeeps : Type 0
ServingKeeps = (cs : Contexts) (h c ip identifier : ℕ) (mark : Mark) (items : Bool) → IsSome (ec_in cs h) → MayServe cs h (Some (c, mark)) →
    KeepsSound cs (with_ec cs h (serving (ec_of cs h) c mark ip identifier items))

abbrev pub ParkingKeeps : Type 0
ParkingKeeps = (cs : Contexts) (h : ℕ) → IsSome (ec_in cs h) → KeepsSound cs (with_ec cs h (parked (ec_of cs h)))

abbrev pub AnsweringKeeps : Type 0
AnsweringKeeps = (cs : Contexts) (e : ℕ) (status : Status) (value : Option ℕ) → IsSome (ec_in cs e) →
    KeepsSound cs (with_ec cs e (answered (ec_of cs e) status value))

abbrev pub ResumingKeeps : Type 0
ResumingKeeps = (cs : Contexts) (e : ℕ) (mark : Mark) (m : List ℕ) → IsSome (ec_in cs e) → KeepsSound cs (with_ec cs e (resumed (ec_of cs e) mark m))

-- one, and then another, by what it is then
abbrev pub with_both : Contexts → ℕ → EcState → ℕ → (EcState → EcState) → Contexts
with_both cs e y f next = with_ec (with_ec cs e y) f (next (ec_of (with_ec cs e y) f))

-- a call or an exit is sent: the caller waits, and its handler serves it
abbrev pub with_sent : Contexts → ℕ → ℕ → Mark → ℕ → ℕ → Bool → Contexts
with_sent cs c h mark ip identifier items =
    with_both cs c (record (ec_of cs c) { state = Calling h }) h (λ x. serving x c mark ip identifier items)

abbrev pub SendingKeeps : Type 0
SendingKeeps = (cs : Contexts) (c h ip identifier : ℕ) (mark : Mark) (items : Bool) → IsSome (ec_in cs c) → IsNewEdge cs c h →
    KeepsSound cs (with_sent cs c h mark ip identifier items)

-- a reply completes: the handler is parked, and its caller goes on, changed so
abbrev pub with_reply : Contexts → ℕ → ℕ → (EcState → EcState) → Contexts
with_reply cs h c next = with_both cs h (parked (ec_of cs h)) c next

abbrev pub CompletingKeeps : Type 0
CompletingKeeps = (cs : Contexts) (h c : ℕ) (mark : Mark) (m : List ℕ) → AreCallers cs → caller_in cs h ≡ Some (c, mark) →
    KeepsSound cs (with_reply cs h c (λ x. resumed x mark m))

-- WAYS

-- a way that passes one, along the edges of both tables up to there
pub record Passes (cs ds : Contexts) (x e : ℕ) : Type 0 where
  pub edges : ℕ
  pub before : after_edges edges (edge cs) x ≡ Some e
  pub after : after_edges edges (edge ds) x ≡ Some e

-- where one changes, a way along the edges then is one along the edges before, or passes it
abbrev pub NewWays : Type 0
NewWays = (cs : Contexts) (e x f n : ℕ) (y : EcState) → after_edges n (edge (with_ec cs e y)) x ≡ Some f →
    (after_edges n (edge cs) x ≡ Some f) ⊎ Passes cs (with_ec cs e y) x e

-- TURNS

-- from the first table to the second, all turns stay with the contexts that they stayed with, and the same contexts act
abbrev pub AllStay : Contexts → Contexts → Type 0
AllStay cs ds = (z : ℕ) → (chase ds z ≡ chase cs z) × (acts ds z ≡ acts cs z)

-- so it is where one changes that acts before and after, even where it waited for another
abbrev pub ActingKeepsChases : Type 0
ActingKeepsChases = (cs : Contexts) (e : ℕ) (y : EcState) → acts cs e ≡ true → acts (with_ec cs e y) e ≡ true → AllStay cs (with_ec cs e y)

-- whether a context that acted acts after its deed
abbrev pub acts_after : Sequel → Bool
acts_after (Replied caller mark) = false
acts_after other = true

-- a context whose call is aborted goes on, and a context whose exit is aborted dies
abbrev pub is_call : Mark → Bool
is_call mark.Call = true
is_call mark.Exit = false

abbrev pub goes_on : Deed → Bool
goes_on (Dies reason q0) = false
goes_on (Waits handler reason q0 q1) = false
goes_on (Sends handler ip identifier mtd reason q0 q1) = false
goes_on (Calls handler ip identifier items) = false
goes_on (Helps handler) = false
goes_on (Replies caller mark items) = items
goes_on (Aborts handler mark) = is_call mark
goes_on (Blocks sm until) = false
goes_on (Finishes item end words after) = acts_after after
goes_on other = true

abbrev pub DeedsKeepChases : Type 0
DeedsKeepChases = (cs : Contexts) (e : ℕ) (d : Deed) → acts cs e ≡ true → goes_on d ≡ true → AllStay cs (with_ec cs e (actor_after (ec_of cs e) d))

-- where two of one processor change, one after the other, turns on other processors stay
abbrev pub OthersStayTwice : Type 0
OthersStayTwice = (cs : Contexts) (e f z : ℕ) (y w : EcState) → AreEdges cs → KeepsSound cs (with_ec cs e y) → cpu_in cs f ≡ cpu_in cs e →
    cpu_in cs z ≢ cpu_in cs e → TurnsStay cs (with_ec (with_ec cs e y) f w) z
