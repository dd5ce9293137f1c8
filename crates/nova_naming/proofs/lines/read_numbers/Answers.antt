use Rattle.std.proofs.Common.{rules, ◌≡◌, ◌∷◌, ◌++◌, [], ap, sym, ◌∙◌, Some, ℕ, List, subst}
use Rattle.nova_text.specs.Token.{piece_of, texts_of, tokens_left}
use Rattle.nova_naming.specs.Statements.{number_of, numbers_of}
use Rattle.nova_naming.proofs.Numbers.{begun, behind, ended, one_more}
use Rattle.nova_naming.proofs.lines.read_numbers.Goals as goal

pub loop-token-init : goal.loop-token-init
loop-token-init c = begun _ (numbers_of (texts_of (tokens_left c.args.line.now))) (search rules)

pub loop-token-preserved : goal.loop-token-preserved
loop-token-preserved c =
    let first : tokens_left c.loop-token.line ≡ piece_of c.in-Some.token ∷ tokens_left c.next_token.new.self = search rules in
    let is : number_of c.in-Some.token.text.now ≡ Some c.in-Ok.number = search rules in
    let pushed : c.push.new.self.items ≡ c.loop-token.numbers.items ++ c.in-Ok.number ∷ [] = search rules in
    subst (λ (ns : List ℕ). behind ns (numbers_of (texts_of (tokens_left c.next_token.new.self))) ≡ numbers_of (texts_of (tokens_left c.args.line.now))) (sym pushed)
    (one_more c.loop-token.numbers.items c.in-Some.token.text.now c.in-Ok.number _ _ (ap texts_of first) is ∙ c.loop-token.invariant)

pub returns : goal.returns
returns c =
    let none : tokens_left c.loop-token.line ≡ [] = search rules in
    sym (ended c.loop-token.numbers.items _ (ap texts_of none)) ∙ c.loop-token.invariant
