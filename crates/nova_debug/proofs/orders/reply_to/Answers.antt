use Rattle.std.proofs.Common.{rules, ◌≡◌, true, false, ap, ◌∙◌, refl, Err}
use Rattle.nova_order.specs.Blocks.{turns}
use Rattle.nova_debug.proofs.Replied.{late, within}
use Rattle.nova_debug.proofs.orders.reply_to.Goals as goal
use Rattle.nova_debug.proofs.orders.reply_to.Goals.{then-turns-gt0-via-then-turns-gt0, then-turns-gt0-via-else-turns-gt0+then-not-is_within}

pub returns-then-turns-gt0 : goal.returns-then-turns-gt0
returns-then-turns-gt0 c = elim c.then-turns-gt0.branch [
  | then-turns-gt0-via-then-turns-gt0 w ↦ late c.args.opening.now.state (turns c.args.order.now.blocks) _ c.turns.ensures w.if-turns-gt0.true
  | then-turns-gt0-via-else-turns-gt0+then-not-is_within w ↦
      (let no : w.is_within.result ≡ false = search rules in
      within c.args.opening.now.state c.args.order.now.blocks _ _ _ _ w.is_within.ensures.order c.turns.ensures w.if-turns-gt0.false w.cpus.ensures c.sum-most.ensures.sum
      w.is_within.ensures.is ∙ no)
]

pub returns-in-Ok : goal.returns-in-Ok
returns-in-Ok c =
    let yes : c.is_within.result ≡ true = search rules in
    record {
      may = within c.args.opening.now.state c.args.order.now.blocks _ _ _ _ c.is_within.ensures.order c.turns.ensures c.if-turns-gt0.false c.cpus.ensures
          c.sum-most.ensures.sum c.is_within.ensures.is ∙ yes;
      free = c.in-Ok.ensures.no_idle;
      told = c.in-Ok.ensures.text;
    }

pub returns-in-Err-OrderIdle : goal.returns-in-Err-OrderIdle
returns-in-Err-OrderIdle c =
    let yes : c.is_within.result ≡ true = search rules in
    record {
      may = within c.args.opening.now.state c.args.order.now.blocks _ _ _ _ c.is_within.ensures.order c.turns.ensures c.if-turns-gt0.false c.cpus.ensures
          c.sum-most.ensures.sum c.is_within.ensures.is ∙ yes;
      blocks = c.args.order.now.blocks;
      order = c.is_within.ensures.order;
      said = refl;
      idle = c.in-Err-OrderIdle.ensures.idle c.in-Err-OrderIdle.block (ap Err c.in-Err-OrderIdle.field-0-is);
    }
