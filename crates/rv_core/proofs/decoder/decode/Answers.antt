use Rattle.std.proofs.Common.{◌≡◌, ◌<◌, ◌^◌, Some, rules}
use Rattle.rv_model.specs.Codes.{instr_of}
use Rattle.rv_core.proofs.Encoded.{decoded}
use Rattle.rv_core.proofs.decoder.decode.Goals as goal

pub returns-clause-encodable : goal.returns-clause-encodable
returns-clause-encodable c =
    let word : c.args.word < 2 ^ 32 = search rules in
    let is : instr_of c.args.word ≡ Some c.instr_from.result = search rules in
    decoded c.args.word c.instr_from.result word is
