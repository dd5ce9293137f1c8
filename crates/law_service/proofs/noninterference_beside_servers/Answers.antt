use Rattle.std.proofs.Common.{sym, subst}
use Rattle.std.specs.Prelude.{IsSome}
use Rattle.nova_model.specs.Boot.{boot}
use Rattle.nova_model.specs.Runs.{run}
use Rattle.law_isolation.proofs.Runs.{reached_sound}
use Rattle.law_service.proofs.Admitting.{served_along}
use Rattle.law_service.proofs.Along.{served_alike}
use Rattle.law_service.proofs.noninterference_beside_servers.Goals as goal

pub returns : goal.returns
returns c = λ revokes a b before since turns others S P side other there alike within admitted also works works_also same.
    let k = run (boot a) before in
    let l = run (boot b) since in
    let ends = served_alike revokes S P turns others k l
    (record { twins = record { side = side; alike = alike; first = reached_sound a before; second = reached_sound b since }; derived = λ yes. (within yes).alike })
    (served_along revokes a before turns S P side there (λ yes. (within yes).first) admitted works)
    (served_along revokes b since others S P other (λ n p. subst IsSome (sym (alike.objects n p)) (there n p)) (λ yes. (within yes).second) also works_also) works same in
    record { part = ends.alike; deeds = ends.deeds; bytes = ends.bytes }
