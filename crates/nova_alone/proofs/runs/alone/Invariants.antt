use Rattle.std.proofs.Common.{◌≡◌, ◌++◌, drop}
use Rattle.nova_guest.specs.Alone.{alone, outputs}
use Rattle.nova_guest.specs.Conditions.{IsGuest, WantMemory}
use Rattle.nova_alone.proofs.runs.alone.Given as goal

abbrev pub invariant-loop-input : goal.invariant-loop-input
invariant-loop-input l =
    (alone l.guest (drop l.input-index l.inputs) ≡ alone l.fn.start l.inputs)
    × (l.outs.items ++ outputs l.guest (drop l.input-index l.inputs) ≡ outputs l.fn.start l.inputs)
    × IsGuest l.guest
    × (WantMemory l.guest (drop l.input-index l.inputs) → WantMemory l.fn.start l.inputs)
