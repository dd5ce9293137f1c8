use Rattle.nova_tests_twin.proofs.Begins.{begins_so}
use Rattle.nova_tests_twin.proofs.twins.begin.Goals as goal

pub returns-clause-begins : goal.returns-clause-begins
returns-clause-begins g c = begins_so c.args.scenario.now 80 c.in-Ok.kernel c.requires c.in-Ok.ensures
