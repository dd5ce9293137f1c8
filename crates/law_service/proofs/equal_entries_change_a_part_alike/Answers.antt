use Rattle.law_integrity.specs.Confined.{Of}
use Rattle.law_service.proofs.Entering.{entered_alike, turns_alike}
use Rattle.law_service.proofs.equal_entries_change_a_part_alike.Goals as goal

pub returns-clause-entries : goal.returns-clause-entries
returns-clause-entries c = λ k l S P e alike. entered_alike k l (Of S) (Of P) e alike

pub returns-clause-turns : goal.returns-clause-turns
returns-clause-turns c = λ k l S P cpu other e alike first second. turns_alike k l (Of S) (Of P) cpu other e alike first second
