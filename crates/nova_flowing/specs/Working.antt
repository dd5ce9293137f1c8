-- Until which turn of a run a side is at work, by the law: it creates nothing, gives nothing while one of it is amid a revoke, and revokes only where it may.
use Rattle.std.specs.Prelude.{◌≡◌, ℕ, ◌+◌, ◌&&◌, ◌||◌, nat_le, Bool, true, false, not, List, ◌∷◌, ◌++◌, find, length, Option, Some, None, Result, Ok}
use Rattle.std.specs.Option.{option_or}
use Rattle.nova_calls.specs.Hypercalls.{call_of}
use Rattle.nova_calls.specs.declared.call.Call.{Call}
use Rattle.nova_calls.specs.declared.call.Call.TheVariants.{CreatePd, CreateEc, CreateSc, CreatePt, CreateSm, Revoke}
use Rattle.nova_range.specs.declared.status.Status.{Status}
use Rattle.nova_model.specs.Runs.{run}
use Rattle.nova_model.specs.State.{KernelState, context}
use Rattle.nova_model.specs.declared.context.State.{State}
use Rattle.nova_model.specs.declared.context.State.TheVariants.{Granting, Replying, Revoking}
use Rattle.nova_model.specs.declared.delegation.Derivation.{Derivation}
use Rattle.law_integrity.specs.Confined.{Of}
use Rattle.law_flow.specs.Flow.{AreAtWork, IsAtWork, RevokesNothing, fixed, own_turn}
use Rattle.nova_flowing.specs.Deriving.{IsDerivingTold, first_made}
use Rattle.nova_flowing.specs.declared.lapse.Lapse.{Lapse}
use Rattle.nova_flowing.specs.declared.lapse.LapseKind.{LapseKind}
use Rattle.nova_flowing.specs.declared.lapse.LapseKind.TheVariants.{Creates, Gives, Revokes}
use Rattle.nova_flowing.specs.declared.lapse.Work.{Work}
use Rattle.nova_flowing.specs.declared.leak.Leak.{Leak}

-- what a context does in this state, and asks for by this call: it creates, gives items or a first range, or revokes
abbrev pub kind_in : State → Option LapseKind
kind_in (Granting new) = Some Gives
kind_in Replying = Some Gives
kind_in (Revoking range own) = Some Revokes
kind_in other = None

abbrev pub kind_of : Result Call Status → Option LapseKind
kind_of (Ok (CreatePd target pd first)) = Some Creates
kind_of (Ok (CreateEc target pd cpu kind sp event)) = Some Creates
kind_of (Ok (CreateSc target pd whose quantum priority)) = Some Creates
kind_of (Ok (CreatePt target pd handler mtd ip)) = Some Creates
kind_of (Ok (CreateSm target pd count)) = Some Creates
kind_of (Ok (Revoke range own)) = Some Revokes
kind_of other = None

abbrev pub kind_at : KernelState → ℕ → Option LapseKind
kind_at k ec = option_or (kind_in (context k ec).state) (kind_of (call_of (context k ec).regs))

-- these numbers, and all that no object has yet: a side's domains or objects, with those that it may make
abbrev pub widened : KernelState → (ℕ → Bool) → ℕ → Bool
widened k S n = S n || nat_le (length k.objects) n

-- what `AreAtWork` asks of one turn of a side that makes nothing, and revokes only where the first says that it may
abbrev pub IsWorking : Bool → (ℕ → Bool) → KernelState → ℕ → Type 0
IsWorking revokes S k ec = IsAtWork (Unit {0}) (RevokesNothing k (Of S)) (revokes ≡ true) (false ≡ true) k ec

-- Of a run of which `n` turns were taken before: the first of these turns that is the side's and in which it isn't at work. Whether it may revoke is said first.
pub record HasLapsed (revokes : Bool) (S : ℕ → Bool) (k : KernelState) (n : ℕ) (turns : List ℕ) (l : Lapse) : Type 0 where
  pub taken : List ℕ
  pub cpu : ℕ
  pub left : List ℕ
  pub whole : taken ++ cpu ∷ left ≡ turns
  pub works : AreAtWork (fixed revokes) S k taken
  pub sc : ℕ
  pub acts : own_turn S (run k taken) cpu ≡ Some (l.ec, sc)
  pub lapses : IsWorking revokes S (run k taken) l.ec → ⊥
  pub kind : kind_at (run k taken) l.ec ≡ Some l.kind
  pub turn : l.turn ≡ (n + length taken) + 1

-- it is at work in all of them, or until this one
abbrev pub IsWorkTold : Bool → (ℕ → Bool) → KernelState → ℕ → List ℕ → Option Lapse → Type 0
IsWorkTold revokes S k n turns None = AreAtWork (fixed revokes) S k turns
IsWorkTold revokes S k n turns (Some l) = HasLapsed revokes S k n turns l

-- The first of some lapses that is of a side: one that gives does so while one of the side is amid a revoke, and one that revokes counts where it may not.
abbrev pub is_revoke : LapseKind → Bool
is_revoke Revokes = true
is_revoke other = false

abbrev pub is_of_side : Bool → (ℕ → Bool) → Lapse → Bool
is_of_side revokes S l = (S l.pd && S l.amid) && not (revokes && is_revoke l.kind)

abbrev pub first_lapse : Bool → (ℕ → Bool) → List Lapse → Option Lapse
first_lapse revokes S lapses = find (is_of_side revokes S) lapses

-- it may revoke where others hold nothing that was made of what it holds
abbrev pub may_revoke : Option Leak → Bool
may_revoke None = true
may_revoke (Some leak) = false

abbrev pub work_by : List Derivation → (ℕ → Bool) → List Lapse → Work
work_by list S lapses = record { lapse = first_lapse (may_revoke (first_made list S)) S lapses; calm = first_lapse false S lapses; leak = first_made list S }

-- until when it is at work: where it may revoke if the law's condition on what others hold is met at the beginning, and else without revokes; and until when it is without any
pub record IsWorkEnd (S : ℕ → Bool) (k : KernelState) (n : ℕ) (turns : List ℕ) (w : Work) : Type 0 where
  pub derives : IsDerivingTold k S w.leak
  pub works : IsWorkTold (may_revoke w.leak) S k n turns w.lapse
  pub calm : IsWorkTold false S k n turns w.calm
