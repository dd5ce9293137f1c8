use Rattle.std.proofs.Common.{rules, ◌≡◌, ◌<◌, ℕ, ap, ap₂, sym, ◌∙◌, subst}
use Rattle.std.specs.Prelude.{option_map}
use Rattle.nova_model.specs.Choice.{choice}
use Rattle.law_isolation.specs.Sound.{IsVirtual}
use Rattle.nova_deeds.specs.Stirs.{stir_of}
use Rattle.nova_burst.proofs.Returning.{answer_is, still_there, still_virtual}
use Rattle.nova_burst.proofs.leasing.decide.Goals as goal

pub stir-now-requires-clause-guest : goal.stir-now-requires-clause-guest
stir-now-requires-clause-guest c =
    subst (IsVirtual c.args.kernel.now.state) (sym c.guest-guest.ensures) (still_virtual c.args.lease.now c.args.kernel.now.state c.requires)

pub stir-now-requires-clause-cpu : goal.stir-now-requires-clause-cpu
stir-now-requires-clause-cpu c =
    subst (λ (n : ℕ). n < c.args.kernel.now.state.cpus) (sym c.cpu-cpu.ensures) (still_there c.args.lease.now c.args.kernel.now.state c.requires)

pub returns : goal.returns
returns c =
    let k = c.args.kernel.now.state in
    let l = c.args.lease.now.run in
    let stirs : c.stir-now.result ≡ stir_of k l.guest l.cpu = c.stir-now.ensures ∙ ap₂ (stir_of k) c.guest-guest.ensures c.cpu-cpu.ensures in
    let acts : c.actor-acting.result ≡ option_map (λ c. c.actor) (choice k l.cpu) = search rules in
    c.answer.ensures ∙ answer_is k l c.args.left c.stir-now.result c.actor-acting.result stirs acts
