use Rattle.std.proofs.Common.{ap, ◌∙◌}
use Rattle.std.proofs.lemmas.List.{get_or-replicate}
use Rattle.rv_core.specs.declared.readings.Reading.{Reading}
use Rattle.rv_core.proofs.readings.Readings.new.Goals as goal

pub returns : goal.returns
returns c = record { places = λ i d within. ap (λ (r : Reading). r.word) (get_or-replicate 1024 i c.nothing.result d within) ∙ c.nothing.ensures }
