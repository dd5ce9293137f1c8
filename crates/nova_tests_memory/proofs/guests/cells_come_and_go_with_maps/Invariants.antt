use Rattle.nova_guest.specs.Conditions.{IsGuest}
use Rattle.nova_tests_memory.proofs.guests.cells_come_and_go_with_maps.Given as goal

abbrev pub invariant-loop-kind : goal.invariant-loop-kind
invariant-loop-kind g l = IsGuest l.guest
