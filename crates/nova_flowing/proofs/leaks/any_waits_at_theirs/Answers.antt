use Rattle.std.proofs.Common.{rules, ◌≡◌, ◌∙◌, ap, sym, Bool, false}
use Rattle.std.specs.Prelude.{◌||◌}
use Rattle.nova_flowing.specs.Premises.{others_of, own_of}
use Rattle.nova_flowing.specs.Tests.{waits_at_theirs}
use Rattle.nova_flowing.proofs.leaks.any_waits_at_theirs.Goals as goal

pub returns-else-own : goal.returns-else-own
returns-else-own c =
    let k = c.args.kernel.now.state in
    let v = c.args.v.now in
    let mine : c.waits_at_theirs-own.result ≡ waits_at_theirs k (own_of v) (others_of v) c.args.n c.args.state = search rules in
    let theirs : c.waits_at_theirs-others.result ≡ waits_at_theirs k (others_of v) (own_of v) c.args.n c.args.state = search rules in
    let none : waits_at_theirs k (own_of v) (others_of v) c.args.n c.args.state ≡ false = sym mine ∙ c.if-own.false in
    theirs ∙ sym (ap (λ (b : Bool). b || waits_at_theirs k (others_of v) (own_of v) c.args.n c.args.state) none)
