use Rattle.std.proofs.Common.{rules, ◌≡◌, ◌+◌, ◌<◌, ◌≤◌, ℕ, List, length, subst, sym}
use Rattle.nova_model.specs.State.{KernelState}
use Rattle.nova_search.specs.Searches.{AreProcessors}
use Rattle.nova_search.proofs.Retaken.{few_turns, processors_of}
use Rattle.nova_search.proofs.again.kernel_at.Goals as goal

pub take_turns-requires-clause-processors : goal.take_turns-requires-clause-processors
take_turns-requires-clause-processors c =
    let same : c.reserve_log.new.self.state ≡ c.args.opening.now = search rules in
    let path : c.deref.result.now ≡ c.in_ok-path.path.items = search rules in
    subst (λ (s : KernelState). AreProcessors s.cpus c.deref.result.now) (sym same)
    (subst (λ (o : List ℕ). AreProcessors c.args.opening.now.cpus o) (sym path)
    (processors_of c.args.found.now c.args.place c.args.opening.now c.in_ok-path.path.items c.requires.first c.in_ok-path.ensures))

pub take_turns-requires-clause-turns : goal.take_turns-requires-clause-turns
take_turns-requires-clause-turns c =
    let same : c.reserve_log.new.self.state ≡ c.args.opening.now = search rules in
    let path : c.deref.result.now ≡ c.in_ok-path.path.items = search rules in
    subst (λ (s : KernelState). 0 < length c.deref.result.now → s.turns + length c.deref.result.now ≤ 2147483648) (sym same)
    (subst (λ (o : List ℕ). 0 < length o → c.args.opening.now.turns + length o ≤ 2147483648) (sym path)
    (few_turns c.args.found.now c.args.place c.args.opening.now c.in_ok-path.path.items c.requires.place c.requires.linked c.requires.first c.in_ok-path.ensures))
