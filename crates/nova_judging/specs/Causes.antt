-- What the cause of a tie says of the state, a row a cause: which capability, execution context or pair of them ties the two domains, and whether strictly.
use Rattle.std.specs.Prelude.{◌≡◌, ◌||◌, ℕ, Bool, true, false, Contains, slice_get, Some, None}
use Rattle.nova_objects.specs.declared.object.EcKind.{EcKind}
use Rattle.nova_objects.specs.declared.object.Object.{Object}
use Rattle.nova_objects.specs.declared.object.Object.TheVariants.{Pd, Ec, Sc, Pt, Sm}
use Rattle.nova_range.specs.Rights.{allows, write_right}
use Rattle.nova_range.specs.declared.range.Kind.{Kind}
use Rattle.nova_range.specs.declared.range.Kind.TheVariants.{Mem, Obj}
use Rattle.nova_model.specs.Delegations.{is_child_of}
use Rattle.nova_model.specs.Edges.{edge_of}
use Rattle.nova_model.specs.State.{KernelState, context_at, is_local_thread, pd_of}
use Rattle.nova_model.specs.declared.context.EcState.{EcState}
use Rattle.nova_model.specs.declared.context.Mark.{Mark}
use Rattle.nova_model.specs.declared.context.State.TheVariants.{Blocked, Granting}
use Rattle.nova_model.specs.declared.delegation.Derivation.{Derivation}
use Rattle.law_forest.specs.Within.{LeadsTo}
use Rattle.nova_ties.specs.declared.tie.Cause.{Cause}
use Rattle.nova_ties.specs.declared.tie.Cause.TheVariants.{Domain, Context, Portal, Scheduling, Frames, Shared, Waits, Queue, Serves, Takes, Gives}
use Rattle.nova_ties.specs.declared.tie.Tie.{Tie}
use Rattle.law_sides.specs.Isolated.{came_by_exit, commands}

-- the domain holds the capability of this number
pub record HasCap (k : KernelState) (of : Kind) (domain cap : ℕ) : Type 0 where
  pub derivation : Derivation
  pub there : Contains k.delegations.list derivation
  pub kind : derivation.kind ≡ of
  pub pd : derivation.pd ≡ domain
  pub number : derivation.id ≡ cap

-- the object of this number is an execution context of the domain, and this is its state
pub record HasContext (k : KernelState) (pd n : ℕ) : Type 0 where
  pub cpu : ℕ
  pub kind : EcKind
  pub event : ℕ
  pub object : slice_get k.objects n ≡ Some (Ec pd cpu kind event)
  pub context : EcState
  pub there : context_at k n ≡ Some context

-- to which domain an object belongs, as what it is
abbrev pub IsDomain : ℕ → ℕ → Object → Type 0
IsDomain to n Pd = n ≡ to
IsDomain to n other = ⊥

abbrev pub IsContext : ℕ → ℕ → Object → Type 0
IsContext to n (Ec pd cpu kind event) = pd ≡ to
IsContext to n other = ⊥

abbrev pub IsPortal : KernelState → ℕ → ℕ → Object → Type 0
IsPortal k to n (Pt handler mtd ip) = pd_of k handler ≡ to
IsPortal k to n other = ⊥

abbrev pub IsScheduling : KernelState → ℕ → ℕ → Object → Type 0
IsScheduling k to n (Sc donor cpu priority quantum) = pd_of k donor ≡ to
IsScheduling k to n other = ⊥

-- the first domain's capability leads to such an object, and ties strictly where it commands that
pub record IsLeading (k : KernelState) (t : Tie) (cap : ℕ) (Is : ℕ → Object → Type 0) : Type 0 where
  pub holds : HasCap k Obj t.from cap
  pub object : Object
  pub at : slice_get k.objects holds.derivation.target ≡ Some object
  pub is : Is holds.derivation.target object
  pub strict : t.strict ≡ commands holds.derivation.rights object

-- the first domain may write a frame of which the second has memory
pub record AreFrames (k : KernelState) (t : Tie) (cap other : ℕ) : Type 0 where
  pub writes : HasCap k Mem t.from cap
  pub may : allows writes.derivation.rights write_right ≡ true
  pub reaches : HasCap k Mem t.to other
  pub frame : ℕ
  pub first : LeadsTo writes.derivation frame
  pub second : LeadsTo reaches.derivation frame
  pub strict : t.strict ≡ false

-- both lead to one semaphore: one that is shared on purpose ties the first domain strictly to that whose capability comes of its own, and other domains not at all
pub record AreShared (shared : ℕ → Bool) (k : KernelState) (t : Tie) (cap other : ℕ) : Type 0 where
  pub one : HasCap k Obj t.from cap
  pub two : HasCap k Obj t.to other
  pub same : two.derivation.target ≡ one.derivation.target
  pub semaphore : slice_get k.objects one.derivation.target ≡ Some Sm
  pub strict : t.strict ≡ shared one.derivation.target
  pub child : shared one.derivation.target ≡ true → is_child_of one.derivation.id two.derivation ≡ true

-- the first domain's capability leads to the semaphore at which the context of the second waits
pub record IsWaiting (shared : ℕ → Bool) (k : KernelState) (t : Tie) (cap n : ℕ) : Type 0 where
  pub holds : HasCap k Obj t.from cap
  pub alone : shared holds.derivation.target ≡ false
  pub waits : HasContext k t.to n
  pub blocked : waits.context.state ≡ Blocked holds.derivation.target
  pub strict : t.strict ≡ false

-- both contexts wait at one semaphore
pub record AreQueued (shared : ℕ → Bool) (k : KernelState) (t : Tie) (n m : ℕ) : Type 0 where
  pub sm : ℕ
  pub alone : shared sm ≡ false
  pub one : HasContext k t.from n
  pub two : HasContext k t.to m
  pub first : one.context.state ≡ Blocked sm
  pub second : two.context.state ≡ Blocked sm
  pub strict : t.strict ≡ false

-- the context of the second domain waits for the handler, which is the first's
pub record IsServing (k : KernelState) (t : Tie) (handler n : ℕ) : Type 0 where
  pub of : pd_of k handler ≡ t.from
  pub waits : HasContext k t.to n
  pub edge : edge_of waits.context.state ≡ Some handler
  pub strict : t.strict ≡ (is_local_thread k n || came_by_exit k n handler)

-- the handler, the first domain's, takes the items of a call of the context, which is the second's
pub record IsTaking (k : KernelState) (t : Tie) (handler n : ℕ) : Type 0 where
  pub takes : HasContext k t.from handler
  pub state : takes.context.state ≡ Granting None
  pub mark : Mark
  pub caller : takes.context.caller ≡ Some (n, mark)
  pub of : pd_of k n ≡ t.to
  pub strict : t.strict ≡ true

-- the context, the first domain's, gives a first range to the second
pub record IsGivingFirst (k : KernelState) (t : Tie) (n : ℕ) : Type 0 where
  pub gives : HasContext k t.from n
  pub state : gives.context.state ≡ Granting (Some t.to)
  pub strict : t.strict ≡ true

abbrev pub IsCausedBy : (ℕ → Bool) → KernelState → Tie → Cause → Type 0
IsCausedBy shared k t (Domain cap) = IsLeading k t cap (IsDomain t.to)
IsCausedBy shared k t (Context cap) = IsLeading k t cap (IsContext t.to)
IsCausedBy shared k t (Portal cap) = IsLeading k t cap (IsPortal k t.to)
IsCausedBy shared k t (Scheduling cap) = IsLeading k t cap (IsScheduling k t.to)
IsCausedBy shared k t (Frames cap other) = AreFrames k t cap other
IsCausedBy shared k t (Shared cap other) = AreShared shared k t cap other
IsCausedBy shared k t (Waits cap ec) = IsWaiting shared k t cap ec
IsCausedBy shared k t (Queue ec other) = AreQueued shared k t ec other
IsCausedBy shared k t (Serves handler ec) = IsServing k t handler ec
IsCausedBy shared k t (Takes handler ec) = IsTaking k t handler ec
IsCausedBy shared k t (Gives ec) = IsGivingFirst k t ec

abbrev pub IsCaused : (ℕ → Bool) → KernelState → Tie → Type 0
IsCaused shared k t = IsCausedBy shared k t t.cause
