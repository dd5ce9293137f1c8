use Rattle.law_turns.proofs.Cursors.{gives_set, skips_set, made_moves, skipped_moves}
use Rattle.law_turns.proofs.Moving.{gives_move, skips_move}
use Rattle.law_turns.proofs.transfers.each_part_moves_on.Goals as goal

pub returns-clause-gives : goal.returns-clause-gives
returns-clause-gives c = gives_move

pub returns-clause-skips : goal.returns-clause-skips
returns-clause-skips c = skips_move

pub returns-clause-given : goal.returns-clause-given
returns-clause-given c = gives_set

pub returns-clause-skipped : goal.returns-clause-skipped
returns-clause-skipped c = skips_set

pub returns-clause-made : goal.returns-clause-made
returns-clause-made c = made_moves

pub returns-clause-passed : goal.returns-clause-passed
returns-clause-passed c = skipped_moves
