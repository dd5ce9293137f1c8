-- Which turns are wanted: by what the context that acts in them is about to do.
use Rattle.std.specs.Prelude.{◌≡◌, ℕ, ◌+◌, ◌<◌, ◌≤◌, ◌==◌, ◌&&◌, ◌||◌, Bool, true, false, if◌then◌else◌, List, Option, Some, None, slice_get, option_and_then}
use Rattle.std.specs.List.{list_any}
use Rattle.law_forest.specs.Turns.{is_passing}
use Rattle.nova_model.specs.State.{KernelState, context, pd_of}
use Rattle.nova_model.specs.declared.context.EcState.{EcState}
use Rattle.nova_model.specs.declared.event.Event.{Event}
pub use Rattle.nova_deeds.specs.Acts.{is_executing as is_going}
pub use Rattle.nova_choice.specs.Schedules.{is_ready}
use Rattle.nova_recording.specs.Recordings.{RecordingView, at_turn}
use Rattle.nova_recording.specs.Accesses.{accessed}
use Rattle.nova_recording.specs.Watches.{is_seen_by}
use Rattle.nova_recording.specs.declared.preview.Access.{Access}
use Rattle.nova_recording.specs.declared.wants.Next.{Next}
use Rattle.nova_recording.specs.declared.wants.Search.{Search}
use Rattle.nova_recording.specs.declared.wants.Want.{Want}
use Rattle.nova_recording.specs.declared.wants.Want.TheVariants.{At, By}

-- the instruction that an execution context of a domain is about to execute, by its address
abbrev pub next_in : EcState → ℕ → ℕ → Option Next
next_in x pd ec = if is_going x then Some (record { ec = ec; pd = pd; pc = x.regs.pc }) else None

-- that of an execution context in a state
abbrev pub next_of : KernelState → ℕ → Option Next
next_of k ec = next_in (context k ec) (pd_of k ec) ec

-- that of a turn with this event: none acts where a deadline, an alarm or a tick comes
abbrev pub next_by : KernelState → Option Event → Option Next
next_by k (Some e) = if is_passing e.kind then None else next_of k e.ec
next_by k None = None

-- what such a turn loads or stores
abbrev pub access_by : KernelState → Option Event → Option Access
access_by k event = option_and_then (λ (next : Next). accessed k next.ec) (next_by k event)

abbrev pub is_met : Next → Want → Bool
is_met next (At pd address) = (next.pd == pd) && (next.pc == address)
is_met next (By ec) = next.ec == ec

-- whether it is an instruction that is looked for, or loads or stores what is watched
abbrev pub is_wanted : Search → KernelState → Option Next → Bool
is_wanted search k (Some next) = list_any (is_met next) search.wants.items || is_seen_by search.watches.items (accessed k next.ec)
is_wanted search k None = false

-- whether the next turn is wanted
abbrev pub wanted_in : Search → KernelState → Option Event → Bool
wanted_in search k event = is_wanted search k (next_by k event)

abbrev pub wanted_at : KernelState → List Event → Search → ℕ → Bool
wanted_at k events search n = wanted_in search (at_turn k events n) (slice_get events n)

-- none of the turns from one to another is wanted
abbrev pub NoneWanted : KernelState → List Event → Search → ℕ → ℕ → Type 0
NoneWanted k events search first last = (n : ℕ) → first ≤ n → n < last → wanted_at k events search n ≡ false

-- a turn that is wanted, from `first` on and before `last`, and none of those before it is
pub record IsTheFirst (k : KernelState) (events : List Event) (search : Search) (first last turn : ℕ) : Type 0 where
  pub from : first ≤ turn
  pub to : turn < last
  pub wanted : wanted_at k events search turn ≡ true
  pub before : NoneWanted k events search first turn

-- the end of a search in which no turn is wanted
pub record IsTheEnd (k : KernelState) (events : List Event) (search : Search) (first last turn : ℕ) : Type 0 where
  pub end : turn ≡ last
  pub before : NoneWanted k events search first last

-- where a search from `first` on and before `last` stops: at the first turn that is wanted, or at `last`, where none is
abbrev pub IsFirst : KernelState → List Event → Search → ℕ → ℕ → ℕ → Bool → Type 0
IsFirst k events search first last turn true = IsTheFirst k events search first last turn
IsFirst k events search first last turn false = IsTheEnd k events search first last turn

-- a turn on the way of a search, and none of those that were passed is wanted
pub record IsOnTheWay (k : KernelState) (events : List Event) (search : Search) (first last turn : ℕ) : Type 0 where
  pub from : first ≤ turn
  pub to : turn ≤ last
  pub before : NoneWanted k events search first turn

-- a turn that is wanted, after which none is
pub record IsTheLast (k : KernelState) (events : List Event) (search : Search) (first last turn : ℕ) : Type 0 where
  pub from : first ≤ turn
  pub to : turn < last
  pub wanted : wanted_at k events search turn ≡ true
  pub after : NoneWanted k events search (turn + 1) last

-- the last turn from one to another that is wanted, or none is
abbrev pub IsLast : KernelState → List Event → Search → ℕ → ℕ → Option ℕ → Type 0
IsLast k events search first last (Some turn) = IsTheLast k events search first last turn
IsLast k events search first last None = NoneWanted k events search first last

-- the present turn, where it is wanted
abbrev pub latest : Search → RecordingView → Option ℕ → Option ℕ
latest search r found = if wanted_in search r.state (slice_get r.events r.turn) then Some r.turn else found
