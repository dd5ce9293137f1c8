use Rattle.std.proofs.Common.{rules, ◌≡◌, ◌∷◌, [], true, false, ap, sym, subst, ◌∙◌, Some}
use Rattle.nova_order.specs.Blocks.{BlockList}
use Rattle.nova_order.specs.Text.{block_of_numbers}
use Rattle.nova_text.specs.Token.{piece_of, texts_of, tokens_left}
use Rattle.nova_debug.specs.Commands.{number_of}
use Rattle.nova_debug.specs.Orders.{IsAdded, may_be_added}
use Rattle.nova_debug.proofs.Asked.{IsLeft, added, all_left, none_left, refused}
use Rattle.nova_debug.proofs.orders.order_of.Goals as goal

pub loop-cpu-init : goal.loop-cpu-init
loop-cpu-init c =
    let words = texts_of (tokens_left c.args.line.now) in
    subst (λ (list : BlockList). IsLeft c.args.most list.blocks words words) (sym c.new-order.ensures) (all_left c.args.most words)

pub returns-then-not-branch : goal.returns-then-not-branch
returns-then-not-branch c =
    let cpu = c.in-Some.cpu.text.now in
    let count = c.in-Some-next_token.count.text.now in
    let first : tokens_left c.loop-cpu.line ≡ piece_of c.in-Some.cpu ∷ tokens_left c.next_token.new.self = search rules in
    let second : tokens_left c.next_token.new.self ≡ piece_of c.in-Some-next_token.count ∷ tokens_left c.next_token-in-Some.new.self = search rules in
    let is : block_of_numbers (number_of cpu) (number_of count) ≡ Some c.in-Some-block_of.block = search rules in
    let not_added : may_be_added c.args.most c.loop-cpu.order.blocks c.in-Some-block_of.block ≡ false = search rules in
    record {
      turns = refused c.args.most c.loop-cpu.order.blocks cpu count _ _ _ (ap texts_of first ∙ ap (λ ps. cpu ∷ texts_of ps) second) c.loop-cpu.invariant
          c.in-Some-block_of.block is not_added;
      few = tt;
    }

pub loop-cpu-preserved : goal.loop-cpu-preserved
loop-cpu-preserved c =
    let cpu = c.in-Some.cpu.text.now in
    let count = c.in-Some-next_token.count.text.now in
    let first : tokens_left c.loop-cpu.line ≡ piece_of c.in-Some.cpu ∷ tokens_left c.next_token.new.self = search rules in
    let second : tokens_left c.next_token.new.self ≡ piece_of c.in-Some-next_token.count ∷ tokens_left c.next_token-in-Some.new.self = search rules in
    let is : block_of_numbers (number_of cpu) (number_of count) ≡ Some c.in-Some-block_of.block = search rules in
    let is_added : IsAdded c.args.most c.loop-cpu.order.blocks c.in-Some-block_of.block true c.add.new.order.blocks = search rules in
    added c.args.most c.loop-cpu.order.blocks cpu count _ _ _ (ap texts_of first ∙ ap (λ ps. cpu ∷ texts_of ps) second) c.loop-cpu.invariant
    c.in-Some-block_of.block c.add.new.order.blocks is is_added

pub returns : goal.returns
returns c =
    let none : tokens_left c.loop-cpu.line ≡ [] = search rules in
    record {
      turns = none_left c.args.most c.loop-cpu.order.blocks (texts_of (tokens_left c.loop-cpu.line)) _ (ap texts_of none) c.loop-cpu.invariant;
      few = c.loop-cpu.invariant.few;
    }
