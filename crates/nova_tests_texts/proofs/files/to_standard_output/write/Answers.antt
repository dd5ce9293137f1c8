use Rattle.nova_tests_texts.proofs.Unchanged.{unchanged}
use Rattle.nova_tests_texts.proofs.files.to_standard_output.write.Goals as goal

pub returns : goal.returns
returns g c = unchanged c.write_all.result _ _ _ c.write_all.ensures.went
