-- The root helps after each of 200 turns, computed by the definitions.
use Rattle.std.proofs.Common.{◌≡◌, true, refl}
use Rattle.std.specs.Prelude.{replicate}
use Rattle.rv_model.specs.Step.{one}
use Rattle.rv_model.specs.Codes.{instr_of, word_of}
use Rattle.nova_calls.specs.Hypercalls.{call_of}
use Rattle.nova_model.specs.Boot.{boot}
use Rattle.nova_model.specs.Choice.{choice}
use Rattle.nova_model.specs.Deeds.{deed}
use Rattle.nova_model.specs.Inputs.{input_of}
use Rattle.nova_model.specs.Runs.{run}
use Rattle.nova_model.specs.Times.{next_entry}
use Rattle.nova_model.specs.Turn.{charged, turn}
use Rattle.nova_utcb.specs.Messages.{copied, exited, written_back}
use Rattle.law_response.specs.Helping.{callers, goes_on_helping}

pub helps_on : goes_on_helping 1 200 (run (boot callers) (replicate 62 0)) ≡ true
unfolding one instr_of word_of call_of choice deed input_of next_entry charged turn copied exited written_back
helps_on = refl
