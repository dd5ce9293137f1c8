use Rattle.std.proofs.Common.{◌≡◌, drop}
use Rattle.nova_flowing.specs.Leaks.{first_some, leak_by}
use Rattle.nova_flowing.specs.Premises.{others_of, own_of, part_of}
use Rattle.nova_flowing.proofs.leaks.first_by.Given as goal

abbrev pub invariant-loop-d : goal.invariant-loop-d
invariant-loop-d l =
    first_some (leak_by l.kernel.state (own_of l.v) (others_of l.v) (part_of l.v) l.premise) (drop l.d-index l.list)
    ≡ first_some (leak_by l.kernel.state (own_of l.v) (others_of l.v) (part_of l.v) l.premise) l.kernel.state.delegations.list
