use Rattle.std.proofs.Common.{◌≡◌, rules}
use Rattle.nova_flowing.specs.Premises.{verdict_of}
use Rattle.nova_flowing.proofs.Answering.{decided}
use Rattle.nova_flowing.proofs.deciding.decide.Goals as goal

pub returns-in-Some : goal.returns-in-Some
returns-in-Some c =
    let exact : c.in-Some.verdict ≡ verdict_of c.args.kernel.now.state c.args.v.now = search rules in
    record { exact = exact; decided = decided c.args.kernel.now.state c.args.v.now c.requires.of c.actor.ensures.reached.sound c.in-Some.verdict exact }

pub returns-in-None : goal.returns-in-None
returns-in-None c =
    let exact : c.unless_waiting.result ≡ verdict_of c.args.kernel.now.state c.args.v.now = search rules in
    record { exact = exact; decided = decided c.args.kernel.now.state c.args.v.now c.requires.of c.actor.ensures.reached.sound c.unless_waiting.result exact }
