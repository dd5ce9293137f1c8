use Rattle.std.proofs.Common.{◌≡◌, ◌+◌, ◌-◌, ◌≤◌, None, Some}
use Rattle.law_leases.specs.Rides.{rides}
use Rattle.nova_turn.specs.Beside.{IsEntered, with_regs}
use Rattle.nova_turn.specs.Parts.{state_of}
use Rattle.nova_turn.specs.StoresSeen.{AreSeersOf}
use Rattle.nova_kernel.proofs.riding.ride_beside.Given as goal

-- the instructions that went on up to now
abbrev pub invariant-loop-left : goal.invariant-loop-left
invariant-loop-left l =
    (rides (l.most - l.left) (with_regs (state_of l.fn.parts) l.ec l.fn.regs) l.ec ≡ Some (with_regs (state_of l.parts) l.ec l.regs))
    × IsEntered l.parts l.ec
    × (l.parts.contexts ≡ l.fn.parts.contexts)
    × (l.parts.queues ≡ l.fn.parts.queues)
    × (l.parts.revokes ≡ l.fn.parts.revokes)
    × (l.fn.parts.reach.room ≤ l.parts.reach.room + (l.most - l.left))
    × (l.left ≤ l.most)
    × (l.parts.reach.written ≡ None)
    × AreSeersOf (state_of l.parts) l.ec l.seers

-- the instructions that are left
abbrev pub decreases-loop-left : goal.decreases-loop-left
decreases-loop-left l = l.left
