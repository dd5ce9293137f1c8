-- Turns of an execution context that waits for the reply of a handler that is ready are the handler's.
use Rattle.std.proofs.Common.{◌≡◌, ℕ, refl, ap, ap₂, ◌∙◌}
use Rattle.std.specs.Prelude.{Bool, true, false, ◌||◌, if◌then◌else◌, Option, Some, None, is_none, option_and_then, option_map}
use Rattle.std.proofs.lemmas.Option.{same_Some}
use Rattle.nova_model.specs.Edges.{AreEdges, acts, acts_as, chase, edge, edge_of, is_dead, state_in}
use Rattle.nova_model.specs.State.{Contexts, ec_in}
use Rattle.nova_model.specs.declared.context.EcState.{EcState}
use Rattle.nova_model.specs.declared.context.State.{State}
use Rattle.nova_model.specs.declared.context.State.TheVariants.{Fresh, Ready, Parked, Calling, Helping, Exiting, Sending, Granting, Replying, Revoking, Blocked, Dead}
use Rattle.nova_ec.proofs.Ends.{chases_go_on}
use Rattle.nova_ec.specs.Tables.{actor_in}
use Rattle.nova_choice.specs.Schedules.{called_at, called_of, is_ready, is_ready_at}

calling : (s : State) (h : ℕ) → called_of s ≡ Some h → s ≡ Calling h
calling (Calling g) h is = ap Calling (same_Some g h is)
calling Fresh h is = absurd cc
calling Ready h is = absurd cc
calling Parked h is = absurd cc
calling (Helping g) h is = absurd cc
calling (Exiting reason q0 q1) h is = absurd cc
calling (Sending reason q0 q1 g) h is = absurd cc
calling (Granting new) h is = absurd cc
calling Replying h is = absurd cc
calling (Revoking range own) h is = absurd cc
calling (Blocked sm) h is = absurd cc
calling Dead h is = absurd cc

ready : (s : State) → is_ready s ≡ true → s ≡ Ready
ready Ready is = refl
ready Fresh is = absurd cc
ready Parked is = absurd cc
ready (Helping g) is = absurd cc
ready (Exiting reason q0 q1) is = absurd cc
ready (Sending reason q0 q1 g) is = absurd cc
ready (Granting new) is = absurd cc
ready Replying is = absurd cc
ready (Revoking range own) is = absurd cc
ready (Blocked sm) is = absurd cc
ready Dead is = absurd cc
ready (Calling g) is = absurd cc

calling_at : (o : Option EcState) (h : ℕ) → called_at o ≡ Some h → option_map (λ (x : EcState). x.state) o ≡ Some (Calling h)
calling_at None h is = absurd cc
calling_at (Some x) h is = ap Some (calling x.state h is)

ready_at : (o : Option EcState) → is_ready_at o ≡ true → option_map (λ (x : EcState). x.state) o ≡ Some Ready
ready_at None is = absurd cc
ready_at (Some x) is = ap Some (ready x.state is)

pub handler_acts : (cs : Contexts) (e h : ℕ) → AreEdges cs → called_at (ec_in cs e) ≡ Some h → is_ready_at (ec_in cs h) ≡ true → actor_in cs e ≡ Some h
handler_acts cs e h sound calls is =
    let waits : state_in cs e ≡ Some (Calling h) = calling_at (ec_in cs e) h calls in
    let serves : state_in cs h ≡ Some Ready = ready_at (ec_in cs h) is in
    let handler : acts cs h ≡ true = ap (acts_as cs) serves in
    let caller : acts cs e ≡ false = ap (acts_as cs) waits ∙ ap is_dead serves in
    let way : edge cs e ≡ Some h = ap (option_and_then edge_of) waits in
    let end : chase cs e ≡ h =
    (chases_go_on cs e sound).goes_on h (ap₂ (λ (t : Bool) (o : Option ℕ). t || is_none o) caller way) way
    ∙ (chases_go_on cs h sound).ends (ap (λ (t : Bool). t || is_none (edge cs h)) handler) in
    ap (λ (n : ℕ). if acts cs n then Some n else None) end ∙ ap (λ (t : Bool). if t then Some h else None) handler
