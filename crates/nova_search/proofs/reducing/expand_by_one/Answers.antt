use Rattle.std.proofs.Common.{◌≡◌, ◌<◌, List, length, subst, sym}
use Rattle.nova_model.specs.State.{KernelState}
use Rattle.nova_search.specs.declared.found.Found.{Found}
use Rattle.nova_search.specs.Searches.{AreLinked, AreOfTurnsBefore, state_at}
use Rattle.nova_search.proofs.reducing.expand_by_one.Goals as goal

pub expand_alone-requires-clause-place : goal.expand_alone-requires-clause-place
expand_alone-requires-clause-place g c = subst (λ (l : List Found). c.args.place < length l) (sym c.loop-cpu.invariant.found) c.requires.place

pub expand_alone-requires-clause-here : goal.expand_alone-requires-clause-here
expand_alone-requires-clause-here g c =
    subst (λ (l : List Found). (d : KernelState) → state_at l c.args.place d ≡ c.args.vertex.now) (sym c.loop-cpu.invariant.found) c.requires.here

pub expand_alone-requires-clause-linked : goal.expand_alone-requires-clause-linked
expand_alone-requires-clause-linked g c = subst (λ (l : List Found). AreLinked l) (sym c.loop-cpu.invariant.found) c.requires.linked

pub expand_alone-requires-clause-own : goal.expand_alone-requires-clause-own
expand_alone-requires-clause-own g c = subst (λ (l : List Found). AreOfTurnsBefore l c.args.place 0) (sym c.loop-cpu.invariant.found) c.requires.own

pub expand_alone-requires-clause-first : goal.expand_alone-requires-clause-first
expand_alone-requires-clause-first g c =
    subst (λ (l : List Found). (d : KernelState) → state_at l 0 d ≡ c.args.opening.now) (sym c.loop-cpu.invariant.found) c.requires.first
