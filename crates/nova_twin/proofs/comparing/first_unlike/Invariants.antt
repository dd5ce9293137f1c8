use Rattle.std.proofs.Common.{◌≡◌, drop}
use Rattle.std.specs.Prelude.{Some}
use Rattle.law_renaming.specs.Walks.{walked}
use Rattle.nova_twin.proofs.comparing.first_unlike.Given as goal

-- the inputs that are left, after those that agree, are walked as all are
abbrev pub invariant-loop-i : goal.invariant-loop-i
invariant-loop-i l =
    walked l.a.start l.b.start (Some l.met.items) l.i (drop l.i l.a.inputs.items) (drop l.i l.b.inputs.items)
    ≡ walked l.a.start l.b.start (Some l.fn.met.items) 0 l.a.inputs.items l.b.inputs.items
