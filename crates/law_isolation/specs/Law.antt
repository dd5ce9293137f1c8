-- The law of one turn: what it leaves of the view of a virtual CPU, and what it puts out for it, is what the guest alone makes of its input.
use Rattle.std.specs.Prelude.{◌≡◌, ℕ, ◌+◌, ◌==◌, Bool, true, false, List, [], ◌∷◌, ◌++◌, length, map, Option, Some, None}
use Rattle.std.specs.List.{list_any}
use Rattle.nova_guest.specs.Alone.{Told, told, applied}
use Rattle.nova_guest.specs.Cells.{cell_at, cells_given}
use Rattle.nova_guest.specs.Maps.{is_covered, is_map, overlaps}
use Rattle.nova_guest.specs.declared.cell.Cell.{Cell}
use Rattle.nova_guest.specs.declared.guest.Guest.{Guest}
use Rattle.nova_guest.specs.declared.input.Input.{Input}
use Rattle.nova_guest.specs.declared.input.Input.TheVariants.{Given, Taken}
use Rattle.nova_guest.specs.declared.input.Out.{Out}
use Rattle.nova_guest.specs.declared.input.Out.TheVariants as out
use Rattle.nova_model.specs.Deeds.{sign_of}
use Rattle.nova_model.specs.Guests.{input}
use Rattle.nova_model.specs.Inputs.{input_of}
use Rattle.nova_model.specs.Runs.{after}
use Rattle.nova_model.specs.State.{KernelState}
use Rattle.nova_model.specs.Turn.{Step, turn}
use Rattle.nova_model.specs.Views.{view}
use Rattle.nova_model.specs.declared.deed.Deed.{Deed}
use Rattle.nova_model.specs.declared.event.EventKind.{EventKind}
use Rattle.nova_model.specs.declared.event.EventKind.TheVariants.{Raise}
use Rattle.nova_model.specs.declared.log.LogByte.{LogByte}

-- what the guest alone makes of an input; without an input it stays as it is and puts out nothing
abbrev pub answered : Guest → Option Input → Told
answered v None = told v None
answered v (Some i) = applied v i

-- an exit that is put out, and the exit that is raised in an event, by reason and first qualification
abbrev pub exit_in : Option Out → Option (ℕ × ℕ)
exit_in (Some (out.Exit reason q0 q1)) = Some (reason, q0)
exit_in other = None

abbrev pub raised_by : EventKind × ℕ × ℕ → Option (ℕ × ℕ)
raised_by (Raise, a, b) = Some (a, b)
raised_by other = None

-- a byte that is put out
abbrev pub bytes_in : Option Out → List Out
bytes_in (Some (out.Byte frame value)) = out.Byte frame value ∷ []
bytes_in other = []

-- the bytes of a log, as they are put out: a console's frame is the number of RAM frames, and the console's
abbrev pub byte_of : ℕ → LogByte → Out
byte_of frames b = out.Byte (frames + b.console) b.value

abbrev pub bytes_of : ℕ → List LogByte → List Out
bytes_of frames log = map (byte_of frames) log

-- the log gains what is put out, where `frames` frames are RAM
pub record IsLogged (frames : ℕ) (old new : List LogByte) (o : Option Out) : Type 0 where
  pub gained : List LogByte
  pub log : new ≡ old ++ gained
  pub bytes : bytes_of frames gained ≡ bytes_in o

-- what a guest puts out in a turn of its own: its exits are its events, and its bytes are what the log gains
pub record IsPutOut (k new : KernelState) (sign : EventKind × ℕ × ℕ) (o : Option Out) : Type 0 where
  pub event : raised_by sign ≡ exit_in o
  pub log : IsLogged (length k.memory.ram) k.memory.log new.memory.log o

-- in a turn of another it puts out nothing
abbrev pub PutsOut : Bool → KernelState → KernelState → EventKind × ℕ × ℕ → Option Out → Type 0
PutsOut true k new sign o = IsPutOut k new sign o
PutsOut false k new sign o = o ≡ None

-- a deed of an execution context, with the state that it leaves, is one input of a guest or nothing
pub record IsOneInput (k new : KernelState) (ec g : ℕ) (d : Deed) : Type 0 where
  pub guest : view new g ≡ (answered (view k g) (input_of k ec g d)).guest
  pub output : PutsOut (ec == g) k new (sign_of d) (answered (view k g) (input_of k ec g d)).out

-- so is the turn of a processor; an idle processor's is nothing
abbrev pub PutsOutIn : KernelState → KernelState → ℕ → Option Step → Option Out → Type 0
PutsOutIn k new g None o = o ≡ None
PutsOutIn k new g (Some s) o = PutsOut (s.event.ec == g) k new (s.event.kind, s.event.a, s.event.b) o

pub record IsOneTurn (k : KernelState) (cpu g : ℕ) : Type 0 where
  pub guest : view (after k cpu) g ≡ (answered (view k g) (input k cpu g)).guest
  pub output : PutsOutIn k (after k cpu) g (turn k cpu) (answered (view k g) (input k cpu g)).out

-- a frame that has a cell among both has the same bytes
abbrev pub AreAlike : List Cell → List Cell → Type 0
AreAlike xs ys = (frame : ℕ) (a b : List ℕ) → cell_at xs frame ≡ Some a → cell_at ys frame ≡ Some b → a ≡ b

-- the cells that come with a map are like those that the guest has
abbrev pub IsGivenAsSeen : Guest → Option Input → Type 0
IsGivenAsSeen v (Some (Given base order rights frame contents)) = AreAlike (cells_given frame contents) v.cells
IsGivenAsSeen v other = Unit {0}

-- of a guest a map of this base and order goes: it was there, none of the maps after has one of its pages, and no frame that they don't lead to has a cell
pub record IsTaken (v new : Guest) (base order : ℕ) : Type 0 where
  pub was : list_any (is_map base order) v.maps ≡ true
  pub pages : list_any (overlaps base order) new.maps ≡ false
  pub cells : (frame : ℕ) → is_covered new.maps frame ≡ false → cell_at new.cells frame ≡ None

abbrev pub IsTakenAsSeen : Guest → Guest → Option Input → Type 0
IsTakenAsSeen v new (Some (Taken base order)) = IsTaken v new base order
IsTakenAsSeen v new other = Unit {0}
