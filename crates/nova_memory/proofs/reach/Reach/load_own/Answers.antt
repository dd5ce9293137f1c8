use Rattle.std.proofs.Common.{rules, refl}
use Rattle.nova_memory.specs.Previews.{entered}
use Rattle.nova_memory.proofs.reach.Reach.load_own.Goals as goal

pub returns-then-not-is_own-clause-number : goal.returns-then-not-is_own-clause-number
returns-then-not-is_own-clause-number c = λ pd none.
    let own = c.is_own.ensures (entered c.args.self.now c.args.ec pd c.args.is_thread) refl in search rules

pub load-requires-clause-within : goal.load-requires-clause-within
load-requires-clause-within c =
    let own = c.is_own.ensures (entered c.args.self.now c.args.ec 0 c.args.is_thread) refl in search rules

pub returns-clause-number : goal.returns-clause-number
returns-clause-number c = λ pd none.
    let own = c.is_own.ensures (entered c.args.self.now c.args.ec pd c.args.is_thread) refl in search rules
