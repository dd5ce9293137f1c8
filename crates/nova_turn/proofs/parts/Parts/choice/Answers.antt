use Rattle.std.proofs.Common.{◌≡◌, arith, rules, ◌∙◌}
use Rattle.std.proofs.lemmas.Option.{gets}
use Rattle.std.specs.Option.{option_copied}
use Rattle.std.specs.Prelude.{Some, slice_get}
use Rattle.nova_model.specs.State.{KernelState}
use Rattle.nova_sched.specs.Queues as queues
use Rattle.nova_choice.proofs.Choosing.{led_chosen}
use Rattle.nova_choice.specs.Choices.{led}
use Rattle.nova_turn.specs.Parts.{state_of}
use Rattle.nova_turn.proofs.Known.{known_at, known_chosen}
use Rattle.nova_turn.proofs.parts.Parts.choice.Goals as goal

pub returns-in_err-sc-clause-choice : goal.returns-in_err-sc-clause-choice
returns-in_err-sc-clause-choice c =
    let k : KernelState = state_of c.args.self.now in
    let s = c.args.self.now.queues.all in
    let found : c.from_residual.result ≡ led k (queues.choose s c.args.cpu) = search rules in
    found ∙ led_chosen k s c.args.cpu c.requires.queued

pub returns-then-last-sc-clause-choice : goal.returns-then-last-sc-clause-choice
returns-then-last-sc-clause-choice c =
    let k : KernelState = state_of c.args.self.now in
    let s = c.args.self.now.queues.all in
    let first : Some c.in_ok-sc.sc ≡ queues.choose s c.args.cpu = search rules in
    let passes = c.if-last-sc.true in
    let same : c.in-Some-Some.last.sc ≡ c.in_ok-sc.sc = grind (arith, passes) in
    let looked : option_copied c.get.result ≡ slice_get c.args.known.now c.args.cpu = let look = c.get.ensures.lookup in grind (arith, gets, look) in
    let at : slice_get c.args.known.now c.args.cpu ≡ Some (Some c.in-Some-Some.last) =
    let one = c.in-Some-Some.is in let two = c.in-Some-Some.field-0-is in let three = c.in-Some-Some.last-is in first_of (cc, search rules, grind (arith, looked, one, two, three)) in
    known_chosen k s c.args.cpu c.in_ok-sc.sc c.in-Some-Some.last c.requires.queued first same
    (known_at k c.args.known.now c.args.cpu (Some c.in-Some-Some.last) c.requires.known at)

pub returns-in_err-actor-clause-choice : goal.returns-in_err-actor-clause-choice
returns-in_err-actor-clause-choice c =
    let k : KernelState = state_of c.args.self.now in
    let s = c.args.self.now.queues.all in
    let found : c.from_residual-in_err-actor.result ≡ led k (queues.choose s c.args.cpu) = search rules in
    found ∙ led_chosen k s c.args.cpu c.requires.queued

pub returns-clause-choice : goal.returns-clause-choice
returns-clause-choice c =
    let k : KernelState = state_of c.args.self.now in
    let s = c.args.self.now.queues.all in
    let found : Some (record { sc = c.in_ok-sc.sc; actor = c.in_ok-actor.actor }) ≡ led k (queues.choose s c.args.cpu) = search rules in
    found ∙ led_chosen k s c.args.cpu c.requires.queued
