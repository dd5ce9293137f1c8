use Rattle.law_turns.proofs.Suited.{tables_suit, contexts_only, messages_only, transfers_only, budgets_only, identifiers_only, semaphores_only, guests_only}
use Rattle.law_turns.proofs.tables.tables_go_with_objects.Goals as goal

pub returns-clause-objects : goal.returns-clause-objects
returns-clause-objects c = tables_suit

pub returns-clause-contexts : goal.returns-clause-contexts
returns-clause-contexts c = contexts_only

pub returns-clause-messages : goal.returns-clause-messages
returns-clause-messages c = messages_only

pub returns-clause-transfers : goal.returns-clause-transfers
returns-clause-transfers c = transfers_only

pub returns-clause-budgets : goal.returns-clause-budgets
returns-clause-budgets c = budgets_only

pub returns-clause-identifiers : goal.returns-clause-identifiers
returns-clause-identifiers c = identifiers_only

pub returns-clause-semaphores : goal.returns-clause-semaphores
returns-clause-semaphores c = semaphores_only

pub returns-clause-guests : goal.returns-clause-guests
returns-clause-guests c = guests_only
