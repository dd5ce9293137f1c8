use Rattle.nova_guest.specs.Conditions.{IsGuest}
use Rattle.nova_tests_memory.proofs.guests.run.Given as goal

abbrev pub invariant-loop-turn : goal.invariant-loop-turn
invariant-loop-turn g l = IsGuest l.guest
