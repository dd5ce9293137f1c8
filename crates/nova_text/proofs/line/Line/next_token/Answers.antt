use Rattle.std.proofs.Common.{arith}
use Rattle.nova_text.proofs.TokenLemmas.{tokens-none, tokens-first}
use Rattle.nova_text.proofs.line.Line.next_token.Goals as goal

pub returns-then-len-eq0-clause-tokens : goal.returns-then-len-eq0-clause-tokens
returns-then-len-eq0-clause-tokens c =
    let none = tokens-none c.args.self.now.start _ _ _ _ c.gap_len-gap.ensures.len c.split_at.ensures.back c.token_len-len.ensures.len (grind arith) in
    (none, none)

pub returns-clause-tokens : goal.returns-clause-tokens
returns-clause-tokens c =
    tokens-first c.args.self.now.start _ _ _ _ c.gap_len-gap.ensures.len c.split_at.ensures.back c.token_len-len.ensures.len _ _ (grind arith) c.split_at-2.ensures.front c.split_at-2.ensures.back
