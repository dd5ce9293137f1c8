use Rattle.std.proofs.Common.{inl, inr}
use Rattle.rv_core.proofs.Encoded.{encoded, decoded}
use Rattle.rv_core.proofs.WordAgain.{word_again}
use Rattle.rv_core.proofs.laws.decoded_is_encoded.Goals as goal

pub returns-clause-same_instruction : goal.returns-clause-same_instruction
returns-clause-same_instruction c w i h e = encoded i (decoded w i h e)

pub returns-clause-same_word : goal.returns-clause-same_word
returns-clause-same_word c w i h other e =
    elim (word_again w i h e) [ inl fence ↦ absurd (other fence) | inr same ↦ same ]
