-- What turns show of a virtual CPU: its exits in the trace, and its bytes in the log of the consoles.
use Rattle.std.specs.Prelude.{ℕ, ◌==◌, Bool, true, false, List, [], ◌∷◌, ◌++◌, length, drop, Option, Some, None, option_map, option_and_then, if◌then◌else◌}
use Rattle.std.specs.List.{filter_map}
use Rattle.nova_guest.specs.declared.guest.GuestState.{GuestState}
use Rattle.nova_guest.specs.declared.guest.GuestState.TheVariants.{Exit}
use Rattle.nova_guest.specs.declared.input.Out.{Out}
use Rattle.nova_guest.specs.declared.input.Out.TheVariants as out
use Rattle.nova_model.specs.Runs.{after}
use Rattle.nova_model.specs.State.{KernelState}
use Rattle.nova_model.specs.Turn.{Step, turn}
use Rattle.nova_model.specs.Views.{view}
use Rattle.nova_model.specs.declared.event.Event.{Event}
use Rattle.nova_model.specs.declared.log.LogByte.{LogByte}
use Rattle.law_isolation.specs.Law.{bytes_of, exit_in, raised_by}

-- the exits that are put out, and those that a virtual CPU raises in a trace, by reason and first qualification
abbrev pub exits_in : List Out → List (ℕ × ℕ)
exits_in outs = filter_map (λ o. exit_in (Some o)) outs

abbrev pub raise_of : ℕ → Event → Option (ℕ × ℕ)
raise_of g e = if e.ec == g then raised_by (e.kind, e.a, e.b) else None

abbrev pub raises_in : ℕ → List Event → List (ℕ × ℕ)
raises_in g events = filter_map (raise_of g) events

-- the bytes that the log gains in turns in which a virtual CPU acts
abbrev pub acts_in : Option Step → ℕ → Bool
acts_in None g = false
acts_in (Some s) g = s.event.ec == g

abbrev pub gained_in : KernelState → ℕ → ℕ → List LogByte
gained_in k cpu g = if acts_in (turn k cpu) g then drop (length k.memory.log) (after k cpu).memory.log else []

abbrev pub gained : KernelState → List ℕ → ℕ → List LogByte
gained k [] g = []
gained k (cpu ∷ cpus) g = gained_in k cpu g ++ gained (after k cpu) cpus g

-- WITH BOTH QUALIFICATIONS, AND FRAMES

-- the exit that a virtual CPU raises in a turn: reason and first qualification are those of the turn's event, the second is that of its state right after
abbrev pub second_of : GuestState → ℕ
second_of (Exit reason q0 q1) = q1
second_of other = 0

abbrev pub exit_with : ℕ → Option (ℕ × ℕ) → List Out
exit_with q1 None = []
exit_with q1 (Some (reason, q0)) = out.Exit reason q0 q1 ∷ []

abbrev pub exit_by : KernelState → ℕ → ℕ → List Out
exit_by k cpu g = exit_with (second_of (view (after k cpu) g).state) (option_and_then (raise_of g) (option_map (λ s. s.event) (turn k cpu)))

-- turns one after another: its exits, and all that it shows
abbrev pub exits : KernelState → List ℕ → ℕ → List Out
exits k [] g = []
exits k (cpu ∷ cpus) g = exit_by k cpu g ++ exits (after k cpu) cpus g

abbrev pub bytes : KernelState → List ℕ → ℕ → List Out
bytes k turns g = bytes_of (length k.memory.ram) (gained k turns g)

abbrev pub shown : KernelState → List ℕ → ℕ → List Out
shown k [] g = []
shown k (cpu ∷ cpus) g = (exit_by k cpu g ++ bytes_of (length k.memory.ram) (gained_in k cpu g)) ++ shown (after k cpu) cpus g

-- outputs of either kind
abbrev pub is_exit : Out → Bool
is_exit (out.Exit reason q0 q1) = true
is_exit (out.Byte frame value) = false

abbrev pub is_byte : Out → Bool
is_byte (out.Exit reason q0 q1) = false
is_byte (out.Byte frame value) = true
