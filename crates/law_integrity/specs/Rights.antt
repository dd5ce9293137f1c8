-- By what right a context acts on others: what its protection domain holds, and the caller that it serves, in the state before its turn.
use Rattle.std.specs.Prelude.{◌≡◌, ◌⊎◌, ℕ, ◌+◌, ◌-◌, ◌/◌, Contains, Bool, true, Some, None, length, slice_get}
use Rattle.rv_model.specs.Registers.{Registers, reg}
use Rattle.rv_model.specs.Step.{Store, Went}
use Rattle.nova_calls.specs.declared.numbers.TheConstants.{CALL, SM_CTRL}
use Rattle.nova_objects.specs.declared.object.Object.TheVariants.{Pt, Sc}
use Rattle.nova_range.specs.Ranges.{HasPlace}
use Rattle.nova_range.specs.Rights.{allows, write_right}
use Rattle.nova_range.specs.declared.range.Kind.TheVariants.{Mem}
use Rattle.nova_range.specs.declared.range.Range.{Range}
use Rattle.nova_model.specs.Capabilities.{call_right, down_right, event_right, up_right}
use Rattle.nova_model.specs.Choice.{choose}
use Rattle.nova_model.specs.Deeds.{deed, instruction}
use Rattle.nova_model.specs.Delegations.{range_of}
use Rattle.nova_model.specs.Edges.{acts}
use Rattle.nova_model.specs.Exits.{raised_exit}
use Rattle.nova_model.specs.Forest.{IsChildless}
use Rattle.nova_model.specs.Lines.{line}
use Rattle.nova_model.specs.Revokes.{scope}
use Rattle.nova_model.specs.State.{KernelState, context, event_base, pd_of}
use Rattle.nova_model.specs.Times.{due_on}
use Rattle.nova_model.specs.declared.context.Mark.{Mark}
use Rattle.nova_model.specs.declared.context.State.TheVariants.{Granting, Helping, Replying, Revoking}
use Rattle.nova_model.specs.declared.deed.Deed.TheVariants.{Steps}
use Rattle.nova_model.specs.declared.delegation.Derivation.{Derivation}
use Rattle.nova_ec.specs.Ways.{EndsAt}
use Rattle.law_forest.specs.Made.{MayCreate}
use Rattle.law_turns.specs.Asked.{HoldsAt, IsCalling}
use Rattle.law_turns.specs.Links.{IsCallerOf}

-- WHICH CONTEXT ACTS, AND WHAT PAYS

-- nothing is due on `cpu`; the scheduling context `sc`, which is chosen there, is bound to the donor, whose turns go along edges, each from a context
-- that waits to the handler that it waits for, to `ec`, which acts, and to none before it
pub record HasTurn (k : KernelState) (cpu ec sc : ℕ) : Type 0 where
  pub early : due_on k.times cpu ≡ None
  pub chosen : choose k cpu ≡ Some sc
  pub donor : ℕ
  pub priority : ℕ
  pub quantum : ℕ
  pub object : slice_get k.objects sc ≡ Some (Sc donor cpu priority quantum)
  pub leads : EndsAt k.contexts donor ec
  pub acts : acts k.contexts ec ≡ true

-- MEMORY

-- of the domain's own derivations of memory one covers the page, leads it to the frame, and has the right
pub record PageLeadsTo (k : KernelState) (domain page right frame : ℕ) : Type 0 where
  pub derivation : Derivation
  pub there : Contains k.delegations.list derivation
  pub holder : derivation.pd ≡ domain
  pub kind : derivation.kind ≡ Mem
  pub place : HasPlace (range_of derivation) page
  pub leads : frame ≡ derivation.target + (page - derivation.base)
  pub allowed : allows derivation.rights right ≡ true

-- its instruction goes on and has this store
pub record HasStore (k : KernelState) (ec : ℕ) (s : Store) : Type 0 where
  pub steps : deed k ec ≡ Steps
  pub regs : Registers
  pub store : instruction k ec ≡ Went regs (Some s)

-- and the page of the address leads to the frame, with the right to write
pub record StoresTo (k : KernelState) (ec frame : ℕ) (s : Store) : Type 0 where
  pub stores : HasStore k ec s
  pub reaches : PageLeadsTo k (pd_of k ec) (s.address / 4096) write_right frame

-- OBJECTS

-- a thread whose next instruction is a hypercall, with no recall before it; or a thread that makes its call again, since its handler was busy
pub data IsAsking (k : KernelState) (ec : ℕ) : Type 0 where
  AtCall : IsCalling k ec → IsAsking k ec
  Again : (handler : ℕ) → (context k ec).state ≡ Helping handler → IsAsking k ec

-- it makes the call of this number, in x17, and at the selector in its x10 its domain holds the object `n`, with this right
pub record Names (k : KernelState) (ec call right n : ℕ) : Type 0 where
  pub asks : IsAsking k ec
  pub number : reg (context k ec).regs 17 ≡ call
  pub at : HoldsAt k (pd_of k ec) (reg (context k ec).regs 10) right n

-- it asks for an up of the semaphore, and may; or for a down, with a deadline or without
pub record AsksUp (k : KernelState) (ec sm : ℕ) : Type 0 where
  pub names : Names k ec SM_CTRL up_right sm
  pub up : reg (context k ec).regs 11 ≡ 0

pub record AsksDown (k : KernelState) (ec sm : ℕ) : Type 0 where
  pub names : Names k ec SM_CTRL down_right sm
  pub down : (reg (context k ec).regs 11 ≡ 1) ⊎ (reg (context k ec).regs 11 ≡ 2)

-- it calls, and at the selector in its x10 its domain holds a portal of this handler, with the right to call
pub record CallsAt (k : KernelState) (ec handler : ℕ) : Type 0 where
  pub portal : ℕ
  pub mtd : ℕ
  pub ip : ℕ
  pub held : Names k ec CALL call_right portal
  pub object : slice_get k.objects portal ≡ Some (Pt handler mtd ip)

-- it raised an exit that is not sent, and at event base + reason its domain holds a portal of this handler, with the right to send exits
pub record ExitsAt (k : KernelState) (ec handler : ℕ) : Type 0 where
  pub reason : ℕ
  pub q0 : ℕ
  pub q1 : ℕ
  pub raised : raised_exit (context k ec).state ≡ Some (reason, q0, q1)
  pub portal : ℕ
  pub mtd : ℕ
  pub ip : ℕ
  pub held : HoldsAt k (pd_of k ec) (event_base k ec + reason) event_right portal
  pub object : slice_get k.objects portal ≡ Some (Pt handler mtd ip)

-- it serves the caller, which came by a call or an exit
abbrev pub ServesCaller : KernelState → ℕ → ℕ → Mark → Type 0
ServesCaller = IsCallerOf

-- there was no object of this number, and its domain may have objects made in a protection domain
pub record IsNew (k : KernelState) (ec n : ℕ) : Type 0 where
  pub next : n ≡ length k.objects
  pub creator : MayCreate k (pd_of k ec)

-- DELEGATIONS

-- by which contexts derivations of one domain go to another: a handler takes them of its caller, which sent them; it gives them with its reply, for
-- which its caller waits; or the maker of a protection domain gives a first range
pub data GivesTo (k : KernelState) (ec giver receiver : ℕ) : Type 0 where
  TakesOfCaller : (caller : ℕ) (mark : Mark) → (context k ec).state ≡ Granting None → ServesCaller k ec caller mark → pd_of k caller ≡ giver → pd_of k ec ≡ receiver →
      GivesTo k ec giver receiver
  RepliesWith : (caller : ℕ) (mark : Mark) → (context k ec).state ≡ Replying → ServesCaller k ec caller mark → pd_of k ec ≡ giver → pd_of k caller ≡ receiver →
      GivesTo k ec giver receiver
  GivesFirst : (context k ec).state ≡ Granting (Some receiver) → pd_of k ec ≡ giver → GivesTo k ec giver receiver

-- it revokes, the leaf is in the revoke's scope and has no child; and its domain holds an ancestor of the leaf, or the leaf itself
pub record MayTake (k : KernelState) (ec : ℕ) (leaf : Derivation) : Type 0 where
  pub range : Range
  pub own : Bool
  pub revokes : (context k ec).state ≡ Revoking range own
  pub taken : Contains (scope (record { pd = pd_of k ec; range = range; own = own }) k.delegations.list) leaf
  pub childless : IsChildless k.delegations.list leaf.id
  pub ancestor : Derivation
  pub above : Contains (line k.delegations.list leaf) ancestor
  pub held : ancestor.pd ≡ pd_of k ec
