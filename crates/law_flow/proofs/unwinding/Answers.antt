use Rattle.law_flow.proofs.Turns.{runs_alike}
use Rattle.law_flow.proofs.unwinding.Goals as goal

pub returns : goal.returns
returns c = λ allowed k l turns others S P first second side alike derived numbers left right works same.
    let ends = runs_alike allowed S P turns others k l derived numbers (record { side = side; alike = alike; first = first; second = second }) left right works same in
    record { part = ends.alike; deeds = ends.deeds; bytes = ends.bytes }
