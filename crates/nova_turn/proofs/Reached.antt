-- What an instruction over the bus is for the state of the kernel.
use Rattle.std.proofs.Common.{◌≡◌, ℕ, List, refl, ap, ap₂, ◌∙◌, subst}
use Rattle.std.specs.Prelude.{Bool, if◌then◌else◌, slice_get, Option, Some, None, option_and_then}
use Rattle.rv_model.specs.Step.{Once, Raised, Went, Store, one}
use Rattle.rv_core.specs.Steps.{space_of}
use Rattle.rv_core.specs.declared.outcome.Outcome.{Outcome}
use Rattle.rv_core.specs.declared.outcome.Outcome.TheVariants.{Raise}
use Rattle.nova_ec.specs.Tables.{EcTable, Steps as Steps_of}
use Rattle.nova_range.specs.Rights.{write_right}
use Rattle.nova_model.specs.AddressSpaces.{AddressSpace, frame_for, space, space_through, after_store, words_after_store}
use Rattle.nova_model.specs.Deeds.{address_space, instruction, stepped, done}
use Rattle.nova_model.specs.Delegations.{Delegations}
use Rattle.nova_model.specs.Inputs.{store_of}
use Rattle.nova_model.specs.Memory.{Memory}
use Rattle.nova_model.specs.State.{KernelState, Contexts, entry, ec_of, message_in, with_ec, context, pd_of, is_thread}
use Rattle.nova_model.specs.declared.deed.Deed.TheVariants.{Steps}
use Rattle.nova_model.specs.declared.delegation.Derivation.{Derivation}
use Rattle.nova_deeds.specs.Acts.{outcome_of}
use Rattle.nova_deeds.specs.Stirs.{frame_at, written_frame}
use Rattle.nova_memory.specs.Reach.{ReachState, reached, fetched, loaded, takes, stored}
use Rattle.nova_turn.specs.Beside.{IsEntered}
use Rattle.nova_turn.specs.Parts.{state_of}
use Rattle.nova_turn.specs.declared.parts.Parts.{Parts}

-- the state with what an instruction reaches, and with another table of execution contexts
abbrev pub reaching : KernelState → ReachState → Contexts → KernelState
reaching k reach contexts = record k {
  delegations = reach.nodes.delegations;
  memory = reach.memory;
  messages = reach.messages.items;
  consoles = reach.consoles;
  contexts = contexts;
}

-- what an execution context reaches
pub record IsReached (k : KernelState) (ec : ℕ) (reach : ReachState) : Type 0 where
  pub delegations : reach.nodes.delegations ≡ k.delegations
  pub memory : reach.memory ≡ k.memory
  pub messages : reach.messages.items ≡ k.messages
  pub consoles : reach.consoles ≡ k.consoles
  pub number : reach.ec ≡ ec
  pub pd : reach.pd ≡ pd_of k ec
  pub is_thread : reach.is_thread ≡ is_thread k ec

pub space-reached : (k : KernelState) (ec : ℕ) (reach : ReachState) → IsReached k ec reach → reached reach ≡ address_space k ec
space-reached k ec reach r = spaces (ap (λ (d : Delegations). d.list) r.delegations) r.memory r.pd r.is_thread r.messages r.number
  where
    spaces : {l l' : List Derivation} {m m' : Memory} {p p' : ℕ} {t t' : Bool} {w w' : List (Option (List ℕ))} {e e' : ℕ} →
        l ≡ l' → m ≡ m' → p ≡ p' → t ≡ t' → w ≡ w' → e ≡ e' →
        space_through l m p (if t then Some (message_in (entry (slice_get w e))) else None)
        ≡ space_through l' m' p' (if t' then Some (message_in (entry (slice_get w' e'))) else None)
    spaces l m p t w e = cc

-- the state with other delegations, another memory, other message words, other consoles and another table of contexts
framed : KernelState → Delegations → Memory → List (Option (List ℕ)) → ℕ → Contexts → KernelState
framed k delegations memory messages consoles contexts =
    record k { delegations = delegations; memory = memory; messages = messages; consoles = consoles; contexts = contexts }

framed-ap : (k : KernelState) {d d' : Delegations} {m m' : Memory} {w w' : List (Option (List ℕ))} {c c' : ℕ} {x x' : Contexts} →
    d ≡ d' → m ≡ m' → w ≡ w' → c ≡ c' → x ≡ x' → framed k d m w c x ≡ framed k d' m' w' c' x'
framed-ap k d m w c x = cc

-- message words after a store
words-ap : (s : Store) {a a' : AddressSpace} {e e' : ℕ} {w w' : List (Option (List ℕ))} → a ≡ a' → e ≡ e' → w ≡ w' →
    words_after_store a e s w ≡ words_after_store a' e' s w'
words-ap s a e w = rw (a, e, w) refl

pub reaching-contexts : (k : KernelState) (ec : ℕ) (reach : ReachState) (cs ds : Contexts) → IsReached k ec reach → cs ≡ ds →
    reaching k reach cs ≡ record k { contexts = ds }
unfolding framed
reaching-contexts k ec reach cs ds r is = framed-ap k r.delegations r.memory r.messages r.consoles is

pub reaching-stored : (k : KernelState) (ec : ℕ) (reach : ReachState) (s : Store) (cs ds : Contexts) → IsReached k ec reach → cs ≡ ds →
    reaching k (stored s reach) cs ≡ record k {
      memory = after_store (address_space k ec) s k.memory;
      messages = words_after_store (address_space k ec) ec s k.messages;
      contexts = ds;
    }
unfolding framed
reaching-stored k ec reach s cs ds r is =
    framed-ap k r.delegations (ap₂ (λ (a : AddressSpace) (m : Memory). after_store a s m) (space-reached k ec reach r) r.memory)
    (words-ap s (space-reached k ec reach r) r.number r.messages) r.consoles is

-- one instruction over what the execution context reaches is one of the kernel's
reaching-steps : (k : KernelState) (t t' : EcTable) (ec : ℕ) (reach reach' : ReachState) (outcome : Outcome) (o : Once) → t.items ≡ k.contexts →
    IsReached k ec reach → Steps_of stored o t ec reach outcome t' reach' → (outcome ≡ outcome_of o) × (reaching k reach' t'.items ≡ stepped k ec o)
reaching-steps k t t' ec reach reach' outcome (Raised reason q0 q1) is r h =
    (h.0, ap₂ (λ (s : ReachState) (u : EcTable). reaching k s u.items) h.2 h.1 ∙ reaching-contexts k ec reach t.items k.contexts r is)
reaching-steps k t t' ec reach reach' outcome (Went regs None) is r h = (
  h.0,
  ap₂ (λ (s : ReachState) (u : EcTable). reaching k s u.items) h.2 h.1
      ∙ reaching-contexts k ec reach _ _ r (ap (λ (cs : Contexts). with_ec cs ec (record (ec_of cs ec) { regs = regs })) is),
)
reaching-steps k t t' ec reach reach' outcome (Went regs (Some store)) is r h = (
  h.0,
  ap₂ (λ (s : ReachState) (u : EcTable). reaching k s u.items) h.2 h.1
      ∙ reaching-stored k ec reach store _ _ r (ap (λ (cs : Contexts). with_ec cs ec (record (ec_of cs ec) { regs = regs })) is),
)

pub steps-there : (k : KernelState) (t t' : EcTable) (ec : ℕ) (reach reach' : ReachState) (outcome : Outcome) → t.items ≡ k.contexts → IsReached k ec reach →
    Steps_of stored (one (ec_of t.items ec).regs (space_of fetched loaded takes reach)) t ec reach outcome t' reach' →
    (outcome ≡ outcome_of (instruction k ec)) × (reaching k reach' t'.items ≡ done k ec Steps)
steps-there k t t' ec reach reach' outcome is r h =
    reaching-steps k t t' ec reach reach' outcome (instruction k ec) is r
    (subst (λ (a : AddressSpace). Steps_of stored (one (context k ec).regs (space a)) t ec reach outcome t' reach') (space-reached k ec reach r)
    (subst (λ (cs : Contexts). Steps_of stored (one (ec_of cs ec).regs (space (reached reach))) t ec reach outcome t' reach') is h))

-- the frame that the instruction stored to
reaching-written : (k : KernelState) (t t' : EcTable) (ec : ℕ) (reach reach' : ReachState) (outcome : Outcome) (o : Once) → IsReached k ec reach →
    reach.written ≡ None → Steps_of stored o t ec reach outcome t' reach' → reach'.written ≡ option_and_then (frame_at k ec) (store_of o)
reaching-written k t t' ec reach reach' outcome (Raised reason q0 q1) r none h = ap (λ (s : ReachState). s.written) h.2 ∙ none
reaching-written k t t' ec reach reach' outcome (Went regs None) r none h = ap (λ (s : ReachState). s.written) h.2 ∙ none
reaching-written k t t' ec reach reach' outcome (Went regs (Some store)) r none h =
    ap (λ (s : ReachState). s.written) h.2 ∙ ap (λ (a : AddressSpace). frame_for a write_right store.address) (space-reached k ec reach r)

pub written-there : (k : KernelState) (t t' : EcTable) (ec : ℕ) (reach reach' : ReachState) (outcome : Outcome) → t.items ≡ k.contexts → IsReached k ec reach →
    reach.written ≡ None → Steps_of stored (one (ec_of t.items ec).regs (space_of fetched loaded takes reach)) t ec reach outcome t' reach' →
    reach'.written ≡ written_frame k ec
written-there k t t' ec reach reach' outcome is r none h =
    reaching-written k t t' ec reach reach' outcome (instruction k ec) r none
    (subst (λ (a : AddressSpace). Steps_of stored (one (context k ec).regs (space a)) t ec reach outcome t' reach') (space-reached k ec reach r)
    (subst (λ (cs : Contexts). Steps_of stored (one (ec_of cs ec).regs (space (reached reach))) t ec reach outcome t' reach') is h))

-- a raise leaves the room
pub room-there : (t t' : EcTable) (ec : ℕ) (reach reach' : ReachState) (outcome : Outcome) (o : Once) → Steps_of stored o t ec reach outcome t' reach' →
    (reason q0 q1 : ℕ) → outcome ≡ Raise reason q0 q1 → reach'.room ≡ reach.room
room-there t t' ec reach reach' outcome (Raised why a b) h reason q0 q1 is = ap (λ (s : ReachState). s.room) h.2
room-there t t' ec reach reach' outcome (Went regs None) h reason q0 q1 is = let next = h.0 in absurd (cc)
room-there t t' ec reach reach' outcome (Went regs (Some store)) h reason q0 q1 is = let next = h.0 in absurd (cc)

-- AN ADDRESS SPACE THAT WAS ENTERED

is-reached : (p : Parts) (ec : ℕ) → IsEntered p ec → IsReached (state_of p) ec p.reach
is-reached p ec entered = record {
  delegations = refl;
  memory = refl;
  messages = refl;
  consoles = refl;
  number = entered.number;
  pd = entered.pd;
  is_thread = entered.is_thread;
}

-- an instruction over it is one of the kernel's
pub entered-steps : (k : KernelState) (p : Parts) (ec : ℕ) (t' : EcTable) (reach' : ReachState) (outcome : Outcome) → IsEntered p ec → state_of p ≡ k →
    Steps_of stored (one (ec_of p.contexts.items ec).regs (space_of fetched loaded takes p.reach)) p.contexts ec p.reach outcome t' reach' →
    (outcome ≡ outcome_of (instruction k ec)) × (reaching (state_of p) reach' t'.items ≡ done k ec Steps)
entered-steps k p ec t' reach' outcome entered is h =
    subst (λ (s : KernelState). (outcome ≡ outcome_of (instruction s ec)) × (reaching (state_of p) reach' t'.items ≡ done s ec Steps)) is
    (steps-there (state_of p) p.contexts t' ec p.reach reach' outcome refl (is-reached p ec entered) h)

pub entered-written : (k : KernelState) (p : Parts) (ec : ℕ) (t' : EcTable) (reach' : ReachState) (outcome : Outcome) → IsEntered p ec → state_of p ≡ k →
    p.reach.written ≡ None → Steps_of stored (one (ec_of p.contexts.items ec).regs (space_of fetched loaded takes p.reach)) p.contexts ec p.reach outcome t' reach' →
    reach'.written ≡ written_frame k ec
entered-written k p ec t' reach' outcome entered is none h =
    subst (λ (s : KernelState). reach'.written ≡ written_frame s ec) is
    (written-there (state_of p) p.contexts t' ec p.reach reach' outcome refl (is-reached p ec entered) none h)
