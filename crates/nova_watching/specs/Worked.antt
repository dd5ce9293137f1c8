-- Who creates, gives or revokes in a turn, and of a run the first turns of protection domains by which a side of them is no longer at work.
use Rattle.std.specs.Prelude.{◌≡◌, ◌≤◌, ◌⊎◌, ℕ, ◌+◌, ◌==◌, ◌&&◌, ◌||◌, Bool, true, false, not, List, [], ◌++◌, length, if◌then◌else◌, option_and_then, option_map, Option, Some, None}
use Rattle.std.specs.List.{enumerate_from}
use Rattle.std.specs.Option.{option_or}
use Rattle.nova_calls.specs.Hypercalls.{call_of}
use Rattle.nova_model.specs.Choice.{Candidate, choice}
use Rattle.nova_model.specs.Runs.{run}
use Rattle.nova_model.specs.State.{KernelState, context_at, pd_of}
use Rattle.nova_model.specs.Times.{until_due}
use Rattle.nova_model.specs.Turn.{answer_of, turn}
use Rattle.nova_objects.specs.declared.object.Object.{Object}
use Rattle.nova_objects.specs.declared.object.Object.TheVariants.{Ec}
use Rattle.nova_model.specs.declared.context.EcState.{EcState}
use Rattle.nova_model.specs.declared.context.State.{State}
use Rattle.nova_model.specs.declared.context.State.TheVariants.{Helping, Ready, Revoking}
use Rattle.nova_model.specs.declared.event.EventKind.{EventKind}
use Rattle.nova_model.specs.declared.event.EventKind.TheVariants.{Raise, Step}
use Rattle.nova_model.specs.declared.event.Turn.{Turn}
use Rattle.nova_model.specs.declared.event.Turn.TheVariants.{Idle, Stepped}
use Rattle.law_flow.specs.Flow.{own_turn}
use Rattle.nova_flowing.specs.Leaks.{first_some}
use Rattle.nova_flowing.specs.Working.{IsWorkTold, IsWorking, first_lapse, is_of_side, is_revoke, kind_at, kind_in, kind_of}
use Rattle.nova_flowing.specs.declared.lapse.Lapse.{Lapse}
use Rattle.nova_flowing.specs.declared.lapse.LapseKind.{LapseKind}
use Rattle.nova_flowing.specs.declared.lapse.LapseKind.TheVariants.{Gives}
use Rattle.nova_watching.specs.declared.work.Doer.{Doer}

-- WHO ACTS

abbrev pub doer_in : KernelState → ℕ → Option EcState → Option Doer
doer_in k ec None = None
doer_in k ec (Some x) = Some (record { ec = ec; pd = pd_of k ec; state = x.state; call = kind_of (call_of x.regs) })

abbrev pub doer_at : KernelState → ℕ → Option Doer
doer_at k ec = doer_in k ec (context_at k ec)

-- nothing is left until something is due
abbrev pub is_due : Option ℕ → Bool
is_due None = false
is_due (Some left) = left == 0

abbrev pub next_doer : KernelState → ℕ → Bool → Option Doer
next_doer k cpu true = None
next_doer k cpu false = option_and_then (doer_at k) (option_map (λ (c : Candidate). c.actor) (choice k cpu))

-- A TURN

-- what comes of an instruction; one that is ready makes a hypercall where something else comes of its turn, and one that helps makes its call again
abbrev pub is_instruction : EventKind → Bool
is_instruction Step = true
is_instruction Raise = true
is_instruction other = false

abbrev pub asks_in : State → EventKind → Bool
asks_in Ready kind = not (is_instruction kind)
asks_in (Helping handler) kind = true
asks_in other kind = false

abbrev pub lapse_in : Option LapseKind → Bool → Option LapseKind
lapse_in call asks = if asks then call else None

abbrev pub lapse_kind : Doer → EventKind → Option LapseKind
lapse_kind d kind = option_or (kind_in d.state) (lapse_in d.call (asks_in d.state kind))

-- by itself; what gives is at work but beside one that is amid a revoke
abbrev pub lapse_by : ℕ → Doer → Option LapseKind → Option Lapse
lapse_by n d None = None
lapse_by n d (Some Gives) = None
lapse_by n d (Some kind) = Some (record { turn = n + 1; ec = d.ec; pd = d.pd; amid = d.pd; kind = kind })

abbrev pub own_lapse : ℕ → Option Doer → Turn → Option Lapse
own_lapse n None turn = None
own_lapse n (Some d) Idle = None
own_lapse n (Some d) (Stepped e) = lapse_by n d (lapse_kind d e.kind)

-- beside one of a domain, in a state
abbrev pub gift_by : ℕ → Doer → ℕ → State → Option Lapse
gift_by n d pd (Revoking range own) = Some (record { turn = n + 1; ec = d.ec; pd = d.pd; amid = pd; kind = Gives })
gift_by n d pd other = None

abbrev pub gift_beside : KernelState → ℕ → Doer → ℕ → Option EcState → Option Lapse
gift_beside k n d m None = None
gift_beside k n d m (Some x) = gift_by n d (pd_of k m) x.state

abbrev pub gift_at : KernelState → ℕ → Doer → ℕ × Object → Option Lapse
gift_at k n d (m, Ec pd cpu kind event) = gift_beside k n d m (context_at k m)
gift_at k n d (m, other) = None

-- of a side, which may revoke or not
abbrev pub of_side : Bool → (ℕ → Bool) → Option Lapse → Option Lapse
of_side revokes S None = None
of_side revokes S (Some l) = if is_of_side revokes S l then Some l else None

abbrev pub side_gift : Bool → (ℕ → Bool) → KernelState → ℕ → Doer → ℕ × Object → Option Lapse
side_gift revokes S k n d e = of_side revokes S (gift_at k n d e)

abbrev pub first_gift : Bool → (ℕ → Bool) → KernelState → ℕ → Doer → Option Lapse
first_gift revokes S k n d = first_some (side_gift revokes S k n d) (enumerate_from 0 k.objects)

abbrev pub is_gift : Option LapseKind → Bool
is_gift (Some Gives) = true
is_gift other = false

abbrev pub gift_if : Bool → Option Lapse → Option Lapse
gift_if true gift = gift
gift_if false gift = None

abbrev pub gift_in : Bool → (ℕ → Bool) → KernelState → ℕ → Doer → Option LapseKind → Option Lapse
gift_in revokes S k n d kind = gift_if (is_gift kind) (first_gift revokes S k n d)

abbrev pub gift_of : Bool → (ℕ → Bool) → KernelState → ℕ → Option Doer → Option Lapse
gift_of revokes S k n None = None
gift_of revokes S k n (Some d) = gift_in revokes S k n d (kind_in d.state)

-- what the turn of a processor is to a side: it gives beside one of it, or it creates or revokes
abbrev pub doer_on : KernelState → ℕ → Option Doer
doer_on k cpu = next_doer k cpu (is_due (until_due k.times cpu))

abbrev pub lapse_in_turn : Bool → (ℕ → Bool) → KernelState → ℕ → Option Doer → Turn → Option Lapse
lapse_in_turn revokes S k n d turn = option_or (gift_of revokes S k n d) (of_side revokes S (own_lapse n d turn))

abbrev pub turn_lapse : Bool → (ℕ → Bool) → KernelState → ℕ → ℕ → Option Lapse
turn_lapse revokes S k cpu n = lapse_in_turn revokes S k n (doer_on k cpu) (answer_of (turn k cpu))

-- one of the side acts, and isn't at work, in the turn after so many
pub record IsLapse (revokes : Bool) (S : ℕ → Bool) (k : KernelState) (cpu n : ℕ) (l : Lapse) : Type 0 where
  pub sc : ℕ
  pub acts : own_turn S k cpu ≡ Some (l.ec, sc)
  pub lapses : IsWorking revokes S k l.ec → ⊥
  pub kind : kind_at k l.ec ≡ Some l.kind
  pub turn : l.turn ≡ n + 1

abbrev pub IsTurnTold : Bool → (ℕ → Bool) → KernelState → ℕ → ℕ → Option Lapse → Type 0
IsTurnTold revokes S k cpu n None = (ec sc : ℕ) → own_turn S k cpu ≡ Some (ec, sc) → IsWorking revokes S k ec
IsTurnTold revokes S k cpu n (Some l) = IsLapse revokes S k cpu n l

-- ALONG TURNS

-- a list has of each side first what another has, and then this
abbrev pub Adds : List Lapse → List Lapse → (Bool → (ℕ → Bool) → Option Lapse) → Type 0
Adds old new more = (revokes : Bool) (S : ℕ → Bool) → first_lapse revokes S new ≡ option_or (first_lapse revokes S old) (more revokes S)

-- one that has what is given beside some objects has yet to have what is given beside these
abbrev pub AddsTo : KernelState → ℕ → Doer → List Lapse → List Lapse → List (ℕ × Object) → Type 0
AddsTo k n d old new rest =
    (revokes : Bool) (S : ℕ → Bool) → option_or (first_lapse revokes S new) (first_some (side_gift revokes S k n d) rest) ≡ option_or (first_lapse revokes S old) (first_gift revokes S k n d)

-- an earlier one counts for each side for which a later one does
abbrev pub is_like : Lapse → Lapse → Bool
is_like l earlier = ((earlier.pd == l.pd) && (earlier.amid == l.amid)) && (not (is_revoke earlier.kind) || is_revoke l.kind)

-- The turns were taken, and after so many of them each side is at work until the first of the list that is of it, whether it may revoke or not.
pub record AreLapses (from : ℕ) (k : KernelState) (turns : List ℕ) (list : List Lapse) : Type 0 where
  pub before : List ℕ
  pub since : List ℕ
  pub whole : before ++ since ≡ turns
  pub early : length before ≤ from
  pub later : (since ≡ []) ⊎ (length before ≡ from)
  pub works : (revokes : Bool) (S : ℕ → Bool) → IsWorkTold revokes S (run k before) (length before) since (first_lapse revokes S list)

-- from a state after so many turns, with this list of them, these turns are taken, with this one
pub record Continues (from : ℕ) (k : KernelState) (n : ℕ) (old : List Lapse) (turns : List ℕ) (new : KernelState) (list : List Lapse) : Type 0 where
  pub state : new ≡ run k turns
  pub lapses : (start : KernelState) (taken : List ℕ) → k ≡ run start taken → n ≡ length taken → AreLapses from start taken old → AreLapses from start (taken ++ turns) list
