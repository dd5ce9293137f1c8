use Rattle.std.proofs.Common.{◌≡◌, ◌+◌, ◌<◌, rules, arith}
use Rattle.nova_memory.proofs.Seen.{blank_later}
use Rattle.nova_memory.proofs.sights.Sights.forget.Goals as goal

pub returns-in-Some : goal.returns-in-Some
returns-in-Some c =
    let more : c.in-Some.version ≡ c.self.inside.version + 1 = search rules in
    let later : c.self.inside.version < c.in-Some.version = omega (arith, more) in
    blank_later c.self.inside.version c.in-Some.version c.self.inside.sights.items later c.self.invariant
