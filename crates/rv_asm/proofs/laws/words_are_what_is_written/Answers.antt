use Rattle.rv_asm.proofs.ProgramRead.{program_read}
use Rattle.rv_asm.proofs.laws.words_are_what_is_written.Goals as goal

pub returns : goal.returns
returns c text items e = program_read c.encoded_is_decoded.ensures.again text items e
