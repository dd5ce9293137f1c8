use Rattle.rv_asm.proofs.Reassembled.{reassembled}
use Rattle.rv_asm.proofs.laws.printed_is_assembled.Goals as goal

pub returns-clause-held : goal.returns-clause-held
returns-clause-held c = reassembled

pub returns-clause-read : goal.returns-clause-read
returns-clause-read c w i small e = reassembled i (c.encoded_is_decoded.ensures.all w i small e)
