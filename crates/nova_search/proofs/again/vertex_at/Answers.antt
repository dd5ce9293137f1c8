use Rattle.std.proofs.Common.{rules, ◌≡◌, ◌+◌, ◌<◌, ◌≤◌, ℕ, List, length, subst, sym}
use Rattle.nova_search.proofs.Retaken.{again_if, few_turns}
use Rattle.nova_search.proofs.again.vertex_at.Goals as goal

pub retake-requires : goal.retake-requires
retake-requires c =
    let path : c.deref.result.now ≡ c.in_ok-path.path.items = search rules in
    subst (λ (o : List ℕ). 0 < length o → c.args.opening.now.turns + length o ≤ 2147483648) (sym path)
    (few_turns c.args.found.now c.args.place c.args.opening.now c.in_ok-path.path.items c.requires.place c.requires.linked c.requires.first c.in_ok-path.ensures)

pub returns : goal.returns
returns c =
    let path : c.deref.result.now ≡ c.in_ok-path.path.items = search rules in
    again_if c.args.found.now c.args.place c.args.opening.now c.deref.result.now c.in_ok-path.path.items c.retake.result path c.requires.first c.in_ok-path.ensures c.retake.ensures
