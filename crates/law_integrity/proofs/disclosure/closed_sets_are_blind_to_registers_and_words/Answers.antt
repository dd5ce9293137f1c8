use Rattle.law_integrity.specs.Confined.{Of}
use Rattle.law_integrity.proofs.Blind.{registers_blind, words_blind}
use Rattle.law_integrity.proofs.disclosure.closed_sets_are_blind_to_registers_and_words.Goals as goal

pub returns-clause-registers : goal.returns-clause-registers
returns-clause-registers c k turns S T cpu ec n l at = rw at.is (registers_blind at.scenario at.before turns (Of S) (Of T) cpu ec n l)

pub returns-clause-words : goal.returns-clause-words
returns-clause-words c k turns S T cpu ec n l at = rw at.is (words_blind at.scenario at.before turns (Of S) (Of T) cpu ec n l)
