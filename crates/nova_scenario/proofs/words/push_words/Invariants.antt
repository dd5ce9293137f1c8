use Rattle.std.proofs.Common.{◌≡◌, length}
use Rattle.nova_text.specs.Token.{tokens_left}
use Rattle.nova_scenario.proofs.HexLemmas.{with_tokens}
use Rattle.nova_scenario.proofs.words.push_words.Given as goal

abbrev pub invariant-loop-token : goal.invariant-loop-token
invariant-loop-token l = with_tokens l.number l.bytes.items (tokens_left l.line) ≡ with_tokens l.number l.fn.bytes.items (tokens_left l.initial.line)

abbrev pub decreases-loop-token : goal.decreases-loop-token
decreases-loop-token l = length (tokens_left l.line)
