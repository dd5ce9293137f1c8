use Rattle.nova_utcb.proofs.CopyLaws.{message}
use Rattle.nova_utcb.proofs.ExitLaws.{set_message, born, exit_message}
use Rattle.nova_utcb.proofs.PageLaws.{store_message, item_message}
use Rattle.nova_utcb.proofs.laws.messages_stay_messages.Goals as goal

pub returns-clause-born : goal.returns-clause-born
returns-clause-born c = born

pub returns-clause-copied : goal.returns-clause-copied
returns-clause-copied c = message

pub returns-clause-exited : goal.returns-clause-exited
returns-clause-exited c = exit_message

pub returns-clause-set : goal.returns-clause-set
returns-clause-set c = set_message

pub returns-clause-stored : goal.returns-clause-stored
returns-clause-stored c = store_message

pub returns-clause-item : goal.returns-clause-item
returns-clause-item c = item_message
