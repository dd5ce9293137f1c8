use Rattle.nova_model.specs.declared.transfer.ItemEnd.TheVariants.{Given, Skipped, Translated}
use Rattle.law_rows.proofs.Giving.{ends, gives, skips}
use Rattle.law_rows.proofs.parts.only_delegations_give.Goals as goal

pub returns-clause-gives : goal.returns-clause-gives
returns-clause-gives c = gives

pub returns-clause-skips : goal.returns-clause-skips
returns-clause-skips c = skips

pub returns-clause-given : goal.returns-clause-given
returns-clause-given c = λ k ec item children words after is. ends k ec item (Given children) words after is

pub returns-clause-skipped : goal.returns-clause-skipped
returns-clause-skipped c = λ k ec item skip words after is. ends k ec item (Skipped skip) words after is

pub returns-clause-translated : goal.returns-clause-translated
returns-clause-translated c = λ k ec item word words after is. ends k ec item (Translated word) words after is
