use Rattle.std.proofs.Common.{rules, ◌≡◌, ◌∙◌, ◌+◌, ◌<◌, ◌++◌, [], ◌∷◌, length, ap}
use Rattle.std.specs.Prelude.{None}
use Rattle.std.proofs.lemmas.List.{length-append}
use Rattle.nova_sched.specs.Queues.{padded}
use Rattle.nova_sched.proofs.Tables.{padded_more}
use Rattle.nova_sched.proofs.queues.pad.Goals as goal

pub loop-preserved : goal.loop-preserved
loop-preserved c =
    let items : c.push_reserved.new.self.items ≡ c.loop.entries.items ++ None ∷ [] = c.push_reserved.ensures.items in
    let reached : length c.loop.entries.items ≡ c.loop.counter = c.loop.invariant.reached in
    let lt : length c.loop.entries.items < c.args.n = search rules in record {
      reached = ap length items ∙ length-append c.loop.entries.items (None ∷ []) ∙ ap (λ n. n + 1) reached;
      padded = ap (padded c.args.n) items ∙ padded_more c.args.n c.loop.entries.items lt ∙ c.loop.invariant.padded;
      capacity = c.push_reserved.ensures.capacity ∙ c.loop.invariant.capacity;
    }
