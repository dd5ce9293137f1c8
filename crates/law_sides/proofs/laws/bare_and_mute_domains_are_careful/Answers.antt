use Rattle.law_sides.proofs.Harmless.{harmless_powers, harmless_turns, harmless_within}
use Rattle.law_sides.proofs.laws.bare_and_mute_domains_are_careful.Goals as goal

pub returns-clause-turns : goal.returns-clause-turns
returns-clause-turns c shared = harmless_turns

pub returns-clause-within : goal.returns-clause-within
returns-clause-within c shared = harmless_within

pub returns-clause-powers : goal.returns-clause-powers
returns-clause-powers c shared = harmless_powers
