-- What the law of one turn stands on: facts of a state, each from what turns keep.
use Rattle.law_turns.proofs.Passing.{IsEnding, passing_ending}
use Rattle.law_forest.specs.Turns.{IsPassing}
use Rattle.law_forest.specs.Effects.{Passing, passing_ends}
use Rattle.std.proofs.Common.{◌≡◌, ℕ, zero, suc, ◌+◌, List, [], ◌∷◌, ap, sym, ◌∙◌, subst, refl}
use Rattle.std.specs.Prelude.{true, false, Option, Some, None, IsSome, option_map, slice_get}
use Rattle.std.specs.List.{AllByRecursion}
use Rattle.std.proofs.lemmas.Option.{same_Some}
use Rattle.nova_objects.specs.declared.object.EcKind.TheVariants.{Local, Global, Vcpu}
use Rattle.nova_objects.specs.declared.object.Object.{Object}
use Rattle.nova_objects.specs.declared.object.Object.TheVariants.{Pd, Ec, Sc, Pt, Sm}
use Rattle.nova_model.specs.Capabilities.{is_local, is_vcpu}
use Rattle.nova_model.specs.Edges.{caller_in, is_dead, state_in}
use Rattle.nova_model.specs.Forest.{IsForest}
use Rattle.nova_model.specs.Semaphores.{waits}
use Rattle.nova_model.specs.State.{KernelState, context, context_at, entry, is_thread, is_thread_in}
use Rattle.nova_model.specs.declared.context.EcState.{EcState}
use Rattle.nova_model.specs.declared.context.Mark.{Mark}
use Rattle.nova_model.specs.declared.context.Mark.TheVariants as mark
use Rattle.nova_model.specs.declared.context.State.{State}
use Rattle.nova_model.specs.declared.context.State.TheVariants.{Fresh, Ready, Calling, Exiting, Sending, Blocked, Dead}
use Rattle.law_turns.specs.Tables.{HasTables, Refers, tag, tag_of}
use Rattle.law_turns.specs.Virtual.{is_guest_state}
use Rattle.law_turns.proofs.Tags.{get_map, get_tags}
use Rattle.law_isolation.specs.Sound.{IsSound, IsVirtual, IsWhole}

-- a state that a virtual CPU comes to
abbrev pub IsGuestState : State → Type 0
IsGuestState Fresh = Unit {0}
IsGuestState Ready = Unit {0}
IsGuestState (Exiting reason q0 q1) = Unit {0}
IsGuestState (Sending reason q0 q1 handler) = Unit {0}
IsGuestState (Calling handler) = Unit {0}
IsGuestState Dead = Unit {0}
IsGuestState other = ⊥

-- a virtual CPU that is there
pub record IsGuest (k : KernelState) (g : ℕ) : Type 0 where
  pub object : option_map is_vcpu (slice_get k.objects g) ≡ Some true
  pub there : IsSome (context_at k g)
  pub runs : IsGuestState (context k g).state

-- Delegations are a sound forest, and all is whole. A portal leads to a thread. A context that waits for a reply is kept as the caller of the handler
-- that is to reply; a handler that lives is waited for by the caller that it keeps; and a caller that came by a call is a thread. A context that
-- waits at a semaphore is blocked there, and so is a context whose wait an alarm or its deadline ends.
pub record HasPremises (k : KernelState) : Type 0 where
  pub forest : IsForest k.delegations
  pub whole : IsWhole k
  pub portals : (pt handler mtd ip : ℕ) → slice_get k.objects pt ≡ Some (Pt handler mtd ip) → is_thread k handler ≡ true
  pub known : (caller handler : ℕ) → state_in k.contexts caller ≡ Some (Calling handler) → (mark : Mark) × (caller_in k.contexts handler ≡ Some (caller, mark))
  pub waited : (caller handler : ℕ) (mark : Mark) → caller_in k.contexts handler ≡ Some (caller, mark) → is_dead (state_in k.contexts handler) ≡ false →
      state_in k.contexts caller ≡ Some (Calling handler)
  pub called : (caller handler : ℕ) → caller_in k.contexts handler ≡ Some (caller, mark.Call) → is_thread k caller ≡ true
  pub blocked : (sm ec : ℕ) → waits k.semaphores sm ec ≡ true → state_in k.contexts ec ≡ Some (Blocked sm)
  pub ending : (cpu : ℕ) (p : Passing) → IsPassing k cpu p → IsEnding k.contexts (passing_ends k p)

-- what holds of all holds at each place
all_at : {T : Type 0} (P : T → Type 0) (xs : List T) (i : ℕ) (x : T) → AllByRecursion P xs → slice_get xs i ≡ Some x → P x
all_at P [] i x all h = absurd (cc)
all_at P (y ∷ ys) zero x all h = subst P (same_Some y x h) all.0
all_at P (y ∷ ys) (suc i) x all h = all_at P ys i x all.1 h

local_is_thread : (o : Option Object) → option_map is_local o ≡ Some true → is_thread_in o ≡ true
local_is_thread None h = absurd (cc)
local_is_thread (Some (Ec pd cpu Local event)) h = refl
local_is_thread (Some (Ec pd cpu Global event)) h = absurd (cc)
local_is_thread (Some (Ec pd cpu Vcpu event)) h = absurd (cc)
local_is_thread (Some Pd) h = absurd (cc)
local_is_thread (Some (Sc ec cpu priority quantum)) h = absurd (cc)
local_is_thread (Some (Pt ec mtd ip)) h = absurd (cc)
local_is_thread (Some Sm) h = absurd (cc)

pub premises : (k : KernelState) → IsSound k → HasPremises k
premises k sound = record {
  forest = sound.forest;
  whole = sound.whole;
  portals = λ pt handler mtd ip at. local_is_thread (slice_get k.objects handler) (all_at (Refers k.objects) k.objects pt (Pt handler mtd ip) sound.kept.tables.refer at);
  known = λ caller handler calls. (sound.kept.served.linked caller handler).known calls;
  waited = λ caller handler came keeps lives. (sound.kept.served.linked caller handler).waits came keeps lives;
  called = λ caller handler keeps. sound.kept.guests.callers handler caller keeps;
  blocked = λ sm ec wait. sound.kept.blocked.blocked sm ec wait;
  ending = λ cpu p comes. passing_ending k cpu p comes sound.kept.blocked sound.kept.deadlines;
}

-- a virtual CPU has its context
tagged : (o : Option Object) (g : ℕ) (c : Option (Option EcState)) → option_map is_vcpu o ≡ Some true → option_map tag c ≡ option_map (tag_of g) o → IsSome (entry c)
tagged (Some (Ec pd cpu kind event)) g (Some (Some x)) is same = refl
tagged (Some (Ec pd cpu kind event)) g (Some None) is same = absurd (cc)
tagged (Some (Ec pd cpu kind event)) g None is same = absurd (cc)
tagged None g c is same = absurd (cc)
tagged (Some Pd) g c is same = absurd (cc)
tagged (Some (Sc ec cpu priority quantum)) g c is same = absurd (cc)
tagged (Some (Pt ec mtd ip)) g c is same = absurd (cc)
tagged (Some Sm) g c is same = absurd (cc)

has_context : (k : KernelState) (g : ℕ) → HasTables k → IsVirtual k g → IsSome (context_at k g)
has_context k g tables is = tagged (slice_get k.objects g) (0 + g) (slice_get k.contexts g) is
    (sym (get_map tag k.contexts g) ∙ (ap (λ (ts : List (Option (ℕ × ℕ))). slice_get ts g) tables.contexts ∙ get_tags 0 k.objects g))

guest_runs : (s : State) → is_guest_state s ≡ true → IsGuestState s
guest_runs Fresh h = tt
guest_runs Ready h = tt
guest_runs (Exiting reason q0 q1) h = tt
guest_runs (Sending reason q0 q1 handler) h = tt
guest_runs (Calling handler) h = tt
guest_runs Dead h = tt
guest_runs other h = absurd (cc)

pub guest : (k : KernelState) (g : ℕ) → IsSound k → IsVirtual k g → IsGuest k g
guest k g sound is = record {
  object = is;
  there = has_context k g sound.kept.tables is;
  runs = guest_runs (context k g).state (sound.kept.guests.states g is);
}
