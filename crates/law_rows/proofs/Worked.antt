-- Runs and a revoke, computed by the definitions.
use Rattle.std.proofs.Common.{◌≡◌, [], ◌∷◌, true, false, refl}
use Rattle.std.specs.Prelude.{replicate}
use Rattle.rv_model.specs.Step.{one}
use Rattle.rv_model.specs.Codes.{instr_of, word_of}
use Rattle.nova_calls.specs.Hypercalls.{call_of}
use Rattle.nova_model.specs.Boot.{boot}
use Rattle.nova_model.specs.Choice.{choice}
use Rattle.nova_model.specs.Deeds.{deed}
use Rattle.nova_model.specs.Inputs.{input_of}
use Rattle.nova_model.specs.Runs.{run, trace}
use Rattle.nova_model.specs.Times.{next_entry}
use Rattle.nova_model.specs.Turn.{charged, turn}
use Rattle.nova_utcb.specs.Messages.{copied, exited, written_back}
use Rattle.law_rows.specs.Examples.{family, gone, helping, helping_leaves, helping_shows, left, revoke_of_all, shown, watching, watching_leaves, watching_shows}

pub helping_tells : shown (trace (boot helping) (replicate 63 0)) ≡ helping_shows
unfolding one instr_of word_of call_of choice deed input_of next_entry charged turn copied exited written_back
helping_tells = refl

pub helping_ends : left (1 ∷ 3 ∷ 7 ∷ []) (2 ∷ 8 ∷ []) (6 ∷ []) (run (boot helping) (replicate 63 0)) ≡ helping_leaves
unfolding one instr_of word_of call_of choice deed input_of next_entry charged turn copied exited written_back
helping_ends = refl

pub watching_tells : shown (trace (boot watching) (replicate 73 0)) ≡ watching_shows
unfolding one instr_of word_of call_of choice deed input_of next_entry charged turn copied exited written_back
watching_tells = refl

pub watching_ends : left (1 ∷ 3 ∷ 8 ∷ []) (2 ∷ 9 ∷ []) [] (run (boot watching) (replicate 73 0)) ≡ watching_leaves
unfolding one instr_of word_of call_of choice deed input_of next_entry charged turn copied exited written_back
watching_ends = refl

pub given_goes : gone 7 (revoke_of_all false) family ≡ 5 ∷ 6 ∷ 4 ∷ 3 ∷ 2 ∷ []
given_goes = refl

pub own_goes : gone 8 (revoke_of_all true) family ≡ 5 ∷ 6 ∷ 4 ∷ 3 ∷ 0 ∷ 2 ∷ 1 ∷ []
own_goes = refl
