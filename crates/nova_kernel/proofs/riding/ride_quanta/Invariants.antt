use Rattle.std.proofs.Common.{◌≡◌, ◌-◌, ◌≤◌, None}
use Rattle.nova_turn.specs.Parts.{state_of}
use Rattle.nova_turn.specs.StoresSeen.{AreSeersOf}
use Rattle.nova_kernel.specs.Rides.{IsBeside, IsLater, IsNext}
use Rattle.nova_kernel.proofs.riding.ride_quanta.Given as goal

-- the turns up to now, with the same context to go on
abbrev pub invariant-loop-count : goal.invariant-loop-count
invariant-loop-count l = record {
  few : l.count ≤ l.most;
  beside : IsBeside l.parts l.chosen l.regs;
  fresh : l.parts.reach.written ≡ None;
  seers : AreSeersOf (state_of l.parts) l.chosen.actor l.seers;
  next : IsNext l.parts l.cpu l.chosen;
  later : IsLater l.fn.parts l.fn.regs l.parts l.regs l.cpu l.chosen l.count;
}

abbrev pub decreases-loop-count : goal.decreases-loop-count
decreases-loop-count l = l.most - l.count
