-- The contexts that wait for a handler, and by what right they came to; and what pays for the turns of a context.
use Rattle.std.specs.Prelude.{◌≡◌, ◌⊎◌, ℕ, List, [], ◌∷◌, ◌++◌, Some, true, option_map, slice_get}
use Rattle.nova_objects.specs.declared.object.Object.TheVariants.{Sc}
use Rattle.nova_model.specs.Capabilities.{is_local}
use Rattle.nova_model.specs.Choice.{choice}
use Rattle.nova_model.specs.Edges.{edge, is_dead, state_in}
use Rattle.nova_model.specs.Runs.{after, run}
use Rattle.nova_model.specs.State.{KernelState, context, deadline_of}
use Rattle.nova_model.specs.declared.admit.ExitAdmit.TheVariants as exit
use Rattle.nova_model.specs.declared.context.State.TheVariants.{Calling}
use Rattle.nova_model.specs.declared.times.Deadline.{Deadline}
use Rattle.law_turns.specs.Tables.{IsOf}
use Rattle.law_origins.specs.Giving.{Acts}
use Rattle.law_integrity.specs.Rights.{AsksDown, CallsAt, ExitsAt}
use Rattle.law_integrity.specs.Rightful.{IsExitAt, IsExitLost, IsOwnDeadline}

-- it waits for the reply of the handler in this state, and after each of these turns
abbrev pub Waits : KernelState → List ℕ → ℕ → ℕ → Type 0
Waits k [] n h = (context k n).state ≡ Calling h
Waits k (cpu ∷ turns) n h = ((context k n).state ≡ Calling h) × Waits (after k cpu) turns n h

-- the turn, of a list of turns from k on, in which it called the handler, or had its exit sent to it, by a portal that its domain held; it has waited
-- ever since
pub record HasCome (k : KernelState) (turns : List ℕ) (n h : ℕ) : Type 0 where
  pub before : List ℕ
  pub cpu : ℕ
  pub later : List ℕ
  pub whole : turns ≡ before ++ cpu ∷ later
  pub acts : Acts (run k before) cpu n
  pub right : CallsAt (run k before) n h ⊎ ExitsAt (run k before) n h
  pub waits : Waits (after (run k before) cpu) later n h

-- it has this deadline in this state, and after each of these turns
abbrev pub Keeps : KernelState → List ℕ → ℕ → Deadline → Type 0
Keeps k [] n d = deadline_of k.times n ≡ Some d
Keeps k (cpu ∷ turns) n d = (deadline_of k.times n ≡ Some d) × Keeps (after k cpu) turns n d

-- the turn, of a list of turns from k on, in which it set this deadline for itself, by a down of a semaphore to which its domain held the right then;
-- it has had it ever since
pub record HasSet (k : KernelState) (turns : List ℕ) (n : ℕ) (d : Deadline) : Type 0 where
  pub before : List ℕ
  pub cpu : ℕ
  pub later : List ℕ
  pub whole : turns ≡ before ++ cpu ∷ later
  pub acts : Acts (run k before) cpu n
  pub right : AsksDown (run k before) n d.sm
  pub own : IsOwnDeadline (run k before) n d.sm d
  pub keeps : Keeps (after (run k before) cpu) later n d

-- edges lead to local threads
abbrev pub HasLocalEdges : KernelState → Type 0
HasLocalEdges k = (e h : ℕ) → edge k.contexts e ≡ Some h → IsOf k.objects is_local h

-- the turn of the processor is paid by a scheduling context that is bound to `ec` itself
pub record PaysItself (k : KernelState) (cpu ec : ℕ) : Type 0 where
  pub sc : ℕ
  pub priority : ℕ
  pub quantum : ℕ
  pub pays : option_map (λ c. c.sc) (choice k cpu) ≡ Some sc
  pub object : slice_get k.objects sc ≡ Some (Sc ec cpu priority quantum)

-- what becomes of an exit of a virtual CPU: it is sent to the handler of its portal, which takes it
pub record IsSentOn (k : KernelState) (g : ℕ) : Type 0 where
  pub handler : ℕ
  pub ip : ℕ
  pub number : ℕ
  pub mtd : ℕ
  pub reason : ℕ
  pub q0 : ℕ
  pub q1 : ℕ
  pub sent : IsExitAt k g handler ip number mtd reason q0 q1 exit.Sends

-- or it ends it: no handler takes it, or its handler ended
pub data DiesOfExit (k : KernelState) (g : ℕ) : Type 0 where
  ByLoss : (reason q0 : ℕ) → IsExitLost k g reason q0 → DiesOfExit k g
  ByHandler : (handler : ℕ) → (context k g).state ≡ Calling handler → is_dead (state_in k.contexts handler) ≡ true → DiesOfExit k g
