-- Confinement: two sets of protection domains between which nothing leads, and beside which no context acts. A set is a predicate on the numbers of
-- domains; at first a test says which.
use Rattle.std.specs.Prelude.{◌≡◌, ◌⊎◌, ◌<◌, ◌-◌, ℕ, Contains, Bool, true, List, [], ◌∷◌, ◌++◌, length, slice_get, Option, Some, None}
use Rattle.nova_objects.specs.declared.object.EcKind.{EcKind}
use Rattle.nova_objects.specs.declared.object.Object.{Object}
use Rattle.nova_objects.specs.declared.object.Object.TheVariants.{Pd, Ec, Sc, Pt, Sm}
use Rattle.nova_range.specs.Rights.{allows, write_right}
use Rattle.nova_range.specs.declared.status.Status.TheVariants.{Success}
use Rattle.nova_model.specs.Capabilities.{down_right, up_right}
use Rattle.nova_model.specs.Deeds.{answered}
use Rattle.nova_model.specs.Edges.{edge}
use Rattle.nova_model.specs.Semaphores.{semaphore, semaphore_at}
use Rattle.law_turns.specs.Words.{words_at}
use Rattle.nova_range.specs.declared.range.Kind.TheVariants.{Mem, Obj}
use Rattle.nova_model.specs.Lines.{line}
use Rattle.nova_model.specs.Runs.{after, run}
use Rattle.nova_model.specs.State.{KernelState, budget_at, context, context_at, deadline_of, entry, pd_of, transfer_at}
use Rattle.nova_model.specs.declared.context.EcState.{EcState}
use Rattle.nova_model.specs.declared.context.State.{State}
use Rattle.nova_model.specs.declared.context.State.TheVariants.{Blocked, Dead, Granting, Parked}
use Rattle.nova_model.specs.declared.delegation.Derivation.{Derivation}
use Rattle.nova_model.specs.declared.times.AlarmState.{AlarmState}
use Rattle.law_forest.specs.Within.{LeadsTo}
use Rattle.law_origins.specs.Giving.{Acts}

-- the numbers for which a test is true
abbrev pub Of : (ℕ → Bool) → ℕ → Type 0
Of test n = test n ≡ true

-- an execution context of one of these domains
pub record IsMember (k : KernelState) (S : ℕ → Type 0) (ec : ℕ) : Type 0 where
  pub domain : ℕ
  pub cpu : ℕ
  pub kind : EcKind
  pub event : ℕ
  pub object : slice_get k.objects ec ≡ Some (Ec domain cpu kind event)
  pub of : S domain

-- A CLOSED SET: WHAT CAN BE CHECKED OF A STATE

-- an object, of this number, is the set's own: a domain or an execution context of it, a portal to one of its handlers, or a scheduling context that is bound to one of its execution contexts. A semaphore may be shared.
abbrev pub IsOwned : KernelState → (ℕ → Type 0) → ℕ → Option Object → Type 0
IsOwned k S n (Some Pd) = S n
IsOwned k S n (Some (Ec pd cpu kind event)) = S pd
IsOwned k S n (Some (Sc donor cpu priority quantum)) = IsMember k S donor
IsOwned k S n (Some (Pt handler mtd ip)) = IsMember k S handler
IsOwned k S n other = Unit {0}

-- its domains are there; what their capabilities lead to is the set's own; a context that waits for one of its handlers, by a call, a help or an
-- exit, is of the set; and so is a domain that is being given its first range
pub record IsClosed (k : KernelState) (S : ℕ → Type 0) : Type 0 where
  pub there : (n : ℕ) → S n → slice_get k.objects n ≡ Some Pd
  pub capabilities : (d : Derivation) → Contains k.delegations.list d → S d.pd → d.kind ≡ Obj → IsOwned k S d.target (slice_get k.objects d.target)
  pub edges : (waiter handler : ℕ) → edge k.contexts waiter ≡ Some handler → IsMember k S handler → IsMember k S waiter
  pub firsts : (ec new : ℕ) → (context k ec).state ≡ Granting (Some new) → IsMember k S ec → S new

-- a domain of the set holds a capability to the object with the right
pub record Holds (k : KernelState) (S : ℕ → Type 0) (right object : ℕ) : Type 0 where
  pub capability : Derivation
  pub there : Contains k.delegations.list capability
  pub of : S capability.pd
  pub kind : capability.kind ≡ Obj
  pub leads : capability.target ≡ object
  pub allowed : allows capability.rights right ≡ true

-- or a capability with any rights
pub record HoldsAny (k : KernelState) (S : ℕ → Type 0) (object : ℕ) : Type 0 where
  pub capability : Derivation
  pub there : Contains k.delegations.list capability
  pub of : S capability.pd
  pub kind : capability.kind ≡ Obj
  pub leads : capability.target ≡ object

-- it waits at a semaphore that neither set may raise and no alarm rings, and no deadline ends the wait
pub record IsStuck (k : KernelState) (S T : ℕ → Type 0) (n sm : ℕ) : Type 0 where
  pub there : slice_get k.objects sm ≡ Some Sm
  pub first : Holds k S up_right sm → ⊥
  pub second : Holds k T up_right sm → ⊥
  pub alarms : (alarm : ℕ) (a : AlarmState) → slice_get k.times.alarms alarm ≡ Some a → a.alarm.sm ≡ sm → ⊥
  pub deadline : deadline_of k.times n ≡ None

-- the execution context of this number does nothing, and nothing has it do something: it is parked, dead, or stuck
abbrev pub IsIdle : KernelState → (ℕ → Type 0) → (ℕ → Type 0) → ℕ → State → Type 0
IsIdle k S T n Parked = Unit {0}
IsIdle k S T n Dead = Unit {0}
IsIdle k S T n (Blocked sm) = IsStuck k S T n sm
IsIdle k S T n other = ⊥

-- Two closed sets without a common domain; every other execution context, a root's for one, is idle. The domains of others may hold what they like: memory of both sets and capabilities into them.
pub record AreSeparate (k : KernelState) (S T : ℕ → Type 0) : Type 0 where
  pub first : IsClosed k S
  pub second : IsClosed k T
  pub disjoint : (n : ℕ) → S n → T n → ⊥
  pub rest : (ec : ℕ) (x : EcState) → context_at k ec ≡ Some x → IsIdle k S T ec x.state ⊎ (IsMember k S ec ⊎ IsMember k T ec)

-- no context of S waits at a semaphore to which T holds a capability, with whatever right: with up T would wake it, and with down T would wait behind
-- it, and it would take what comes to T
abbrev pub WaitsApart : KernelState → (ℕ → Type 0) → (ℕ → Type 0) → Type 0
WaitsApart k S T = (n sm : ℕ) → (context k n).state ≡ Blocked sm → IsMember k S n → HoldsAny k T sm → ⊥

-- and no object is held by both; no context of either waits at a semaphore that the other holds; and none of either waits where a context of the
-- other does, in whose queue each would decide which is woken
pub record AreSetsApart (k : KernelState) (S T : ℕ → Type 0) : Type 0 where
  pub separate : AreSeparate k S T
  pub objects : (object : ℕ) → HoldsAny k S object → HoldsAny k T object → ⊥
  pub first : WaitsApart k S T
  pub second : WaitsApart k T S
  pub queues : (n m sm : ℕ) → (context k n).state ≡ Blocked sm → (context k m).state ≡ Blocked sm → IsMember k S n → IsMember k T m → ⊥

-- THE SET ALONG TURNS

-- a domain that a context of the set makes in this turn joins the set
pub record JoinsSet (k : KernelState) (S : ℕ → Type 0) (cpu n : ℕ) : Type 0 where
  pub maker : ℕ
  pub acts : Acts k cpu maker
  pub of : IsMember k S maker
  pub number : n ≡ length k.objects
  pub made : slice_get (after k cpu).objects n ≡ Some Pd

abbrev pub more : KernelState → (ℕ → Type 0) → ℕ → ℕ → Type 0
more k S cpu n = S n ⊎ JoinsSet k S cpu n

abbrev pub grown : KernelState → (ℕ → Type 0) → List ℕ → ℕ → Type 0
grown k S [] = S
grown k S (cpu ∷ turns) = grown (after k cpu) (more k S cpu) turns

-- the turn, of a list of turns from k on, in which a context of the set, as it has grown by then, made the object of this number
pub record IsMadeAlong (k : KernelState) (S : ℕ → Type 0) (turns : List ℕ) (object : ℕ) : Type 0 where
  pub before : List ℕ
  pub cpu : ℕ
  pub later : List ℕ
  pub whole : turns ≡ before ++ cpu ∷ later
  pub maker : ℕ
  pub acts : Acts (run k before) cpu maker
  pub of : IsMember (run k before) (grown k S before) maker
  pub number : object ≡ length (run k before).objects

-- WHAT A SET REACHES

-- a domain of the set holds a derivation of memory with the frame among its frames, with the right
pub record Reach (k : KernelState) (S : ℕ → Type 0) (right frame : ℕ) : Type 0 where
  pub derivation : Derivation
  pub there : Contains k.delegations.list derivation
  pub of : S derivation.pd
  pub kind : derivation.kind ≡ Mem
  pub leads : LeadsTo derivation frame
  pub allowed : allows derivation.rights right ≡ true

-- or with any rights
pub record ReachAny (k : KernelState) (S : ℕ → Type 0) (frame : ℕ) : Type 0 where
  pub derivation : Derivation
  pub there : Contains k.delegations.list derivation
  pub of : S derivation.pd
  pub kind : derivation.kind ≡ Mem
  pub leads : LeadsTo derivation frame

-- WHAT A TURN OF ONE SET LEAVES OF THE OTHER

-- an execution context was the first that waited at a semaphore that a domain of the set T may raise
pub record IsWoken (k : KernelState) (T : ℕ → Type 0) (n : ℕ) : Type 0 where
  pub sm : ℕ
  pub rest : List ℕ
  pub may : Holds k T up_right sm
  pub waiting : (semaphore k.semaphores sm).waiting ≡ n ∷ rest
  pub blocked : (context k n).state ≡ Blocked sm

-- its state and registers stay; or it was woken so, and its call is done
pub data StaysOrWakes (k : KernelState) (T : ℕ → Type 0) (n : ℕ) (old new : Option EcState) : Type 0 where
  Stays : new ≡ old → StaysOrWakes k T n old new
  Wakes : IsWoken k T n → (x : EcState) → old ≡ Some x → new ≡ Some (answered x Success None) → StaysOrWakes k T n old new

-- one byte joins the log, of a console that a domain of the set T reaches with write
pub record LogsByte (k new : KernelState) (T : ℕ → Type 0) : Type 0 where
  pub frame : ℕ
  pub value : ℕ
  pub reaches : Reach k T write_right frame
  pub joins : new.memory.log ≡ k.memory.log ++ record { console = frame - length k.memory.ram; value = value } ∷ []

-- A turn of a context of T leaves of S: registers and states, and deadlines, but for a context that is woken so; message words; places in items;
-- identifiers of portals; budgets and ticks of scheduling contexts that are bound to S's; the semaphores to which T holds neither up nor down; and
-- the frames that T doesn't reach with write. The log gains at most a byte of a console that T does. S gains no derivation, and loses none but such
-- as came from a domain of T's.
pub record LeavesTo (k new : KernelState) (T S : ℕ → Type 0) : Type 0 where
  pub contexts : (n : ℕ) → IsMember k S n → StaysOrWakes k T n (context_at k n) (context_at new n)
  pub deadlines : (n : ℕ) → IsMember k S n → (deadline_of new.times n ≡ deadline_of k.times n) ⊎ IsWoken k T n
  pub messages : (n : ℕ) → IsMember k S n → words_at new n ≡ words_at k n
  pub transfers : (n : ℕ) → IsMember k S n → transfer_at new n ≡ transfer_at k n
  pub identifiers : (n handler mtd ip : ℕ) → slice_get k.objects n ≡ Some (Pt handler mtd ip) → IsMember k S handler → entry (slice_get new.identifiers n) ≡ entry (slice_get k.identifiers n)
  pub budgets : (sc donor cpu priority quantum : ℕ) → slice_get k.objects sc ≡ Some (Sc donor cpu priority quantum) → IsMember k S donor → budget_at new sc ≡ budget_at k sc
  pub semaphores : (sm : ℕ) → sm < length k.objects → (Holds k T up_right sm → ⊥) → (Holds k T down_right sm → ⊥) → semaphore_at new.semaphores sm ≡ semaphore_at k.semaphores sm
  pub frames : (frame : ℕ) → (Reach k T write_right frame → ⊥) → slice_get new.memory.ram frame ≡ slice_get k.memory.ram frame
  pub log : (new.memory.log ≡ k.memory.log) ⊎ LogsByte k new T
  pub gains : (d : Derivation) → Contains new.delegations.list d → S d.pd → Contains k.delegations.list d
  pub keeps : (d : Derivation) → Contains k.delegations.list d → ((ancestor : Derivation) → Contains (line k.delegations.list d) ancestor → T ancestor.pd → ⊥) → Contains new.delegations.list d

-- in each of these turns the context that acts is of the set, as it has grown by then
abbrev pub OnlyOf : KernelState → (ℕ → Type 0) → List ℕ → Type 0
OnlyOf k S [] = Unit {0}
OnlyOf k S (cpu ∷ turns) = ((ec : ℕ) → Acts k cpu ec → IsMember k S ec) × OnlyOf (after k cpu) (more k S cpu) turns

-- TWO GUESTS, EACH WITH A MONITOR

-- the domains of a guest and of its monitor
abbrev pub Pair : ℕ → ℕ → ℕ → Type 0
Pair guest monitor n = (n ≡ guest) ⊎ (n ≡ monitor)

-- A guest and its monitor share no domain, no object and no frame with another guest and its monitor, neither side waits for the other, and all else is idle.
pub record ShareNothing (k : KernelState) (guest monitor other_guest other_monitor : ℕ) : Type 0 where
  pub apart : AreSetsApart k (Pair (pd_of k guest) (pd_of k monitor)) (Pair (pd_of k other_guest) (pd_of k other_monitor))
  pub memory : (frame : ℕ) → ReachAny k (Pair (pd_of k guest) (pd_of k monitor)) frame → ReachAny k (Pair (pd_of k other_guest) (pd_of k other_monitor)) frame → ⊥

-- those domains of a guest and its monitor, with all that are made of them in these turns
abbrev pub Side : KernelState → ℕ → ℕ → List ℕ → ℕ → Type 0
Side k guest monitor turns = grown k (Pair (pd_of k guest) (pd_of k monitor)) turns
