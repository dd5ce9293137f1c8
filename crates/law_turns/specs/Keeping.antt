-- What turns keep of a state, whatever it is: tables go with objects, edges are sound, callers stay with the contexts that serve them, and the
-- blocked wait at their semaphores, and they alone have deadlines; and virtual CPUs run, raise exits and wait for their replies.
use Rattle.nova_model.specs.Edges.{AreEdges}
use Rattle.nova_model.specs.State.{KernelState, is_local_thread}
use Rattle.law_turns.specs.Links.{AreServed}
use Rattle.law_turns.specs.Tables.{HasTables}
use Rattle.law_turns.specs.Virtual.{AreGuests}
use Rattle.law_turns.specs.Waiting.{AreBlocked, AreDeadlines}

pub record IsKept (k : KernelState) : Type 0 where
  pub tables : HasTables k
  pub served : AreServed (is_local_thread k) k.contexts
  pub edges : AreEdges k.contexts
  pub blocked : AreBlocked k.contexts k.semaphores
  pub guests : AreGuests k
  pub deadlines : AreDeadlines k.contexts k.times.deadlines
