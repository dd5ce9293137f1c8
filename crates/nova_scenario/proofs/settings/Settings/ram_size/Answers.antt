use Rattle.std.proofs.Common.{rules, ◌≤◌, ◌^◌, arith}
use Rattle.std.proofs.Math.Nat.{pow-le-pow_right}
use Rattle.nova_scenario.proofs.settings.Settings.ram_size.Goals as goal

pub returns-in-Some-clause-small : goal.returns-in-Some-clause-small
returns-in-Some-clause-small c =
    let small : c.in-Some.m ≤ 14 = search rules in
    let power : 2 ^ c.in-Some.m ≤ 2 ^ 14 = pow-le-pow_right (omega arith) small in
    omega arith
