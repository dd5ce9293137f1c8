use Rattle.rv_asm.specs.Program.{assembled}
use Rattle.nova_scenario.proofs.asm.asm_bytes.Goals as goal

pub returns-in-Err : goal.returns-in-Err
returns-in-Err c = c.refused.ensures (assembled c.args.text.now) c.in-Err.ensures.exact
