use Rattle.law_service.proofs.Along.{served_alike}
use Rattle.law_service.proofs.unwinding_with_entries.Goals as goal

pub returns : goal.returns
returns c = λ revokes k l turns others S P first second side alike derived served also works same.
    let ends = served_alike revokes S P turns others k l (record { twins = record { side = side; alike = alike; first = first; second = second }; derived = derived }) served also works same in
    record { part = ends.alike; deeds = ends.deeds; bytes = ends.bytes }
