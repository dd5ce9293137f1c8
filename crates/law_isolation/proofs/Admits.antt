-- What a turn is for a virtual CPU is an input that its state admits.
use Rattle.std.proofs.Common.{◌≡◌, ℕ, ◌%◌, ap, sym, ◌∙◌, subst, refl, inl, inr}
use Rattle.std.specs.Prelude.{Bool, true, false, not, ◌==◌, ◌||◌, IfSome, slice_get, Option, Some, None, is_some, option_and_then, if◌then◌else◌, Result, Ok, Err}
use Rattle.std.specs.List.{AllByRecursion, list_any}
use Rattle.std.proofs.lemmas.Bool.{eqb-true, eq-eqb, cases_eq, ne_eqb}
use Rattle.rv_model.specs.Step.{Once, Raised, Went, Store, environment_call}
use Rattle.law_forest.proofs.Allowed.{GivesFitting, deed_fits}
use Rattle.law_forest.proofs.Members.{in_from_contains}
use Rattle.nova_guest.specs.Admitted.{acts, admits, has_exit, waits}
use Rattle.nova_guest.specs.Cells.{cell_at}
use Rattle.nova_guest.specs.Maps.{is_map, overlaps}
use Rattle.nova_guest.specs.declared.guest.Guest.{Guest}
use Rattle.nova_guest.specs.declared.guest.GuestState.{GuestState}
use Rattle.nova_guest.specs.declared.guest.GuestState.TheVariants as guest
use Rattle.nova_guest.specs.declared.input.Input.{Input}
use Rattle.nova_guest.specs.declared.input.Input.TheVariants as input_as
use Rattle.nova_model.specs.Calls.{exit_admitted}
use Rattle.nova_model.specs.Deeds.{deed, deed_in, instruction, ready, signalled, stepping}
use Rattle.nova_model.specs.Exits.{exit_at, exit_portal, exit_to, exits}
use Rattle.nova_model.specs.Forest.{IsFitting}
use Rattle.nova_model.specs.Guests.{input}
use Rattle.nova_model.specs.Inputs.{foreign_at, foreign_by, given_of, in_ram, input_of, is_covered_for, only_if, others_input, own_input, reply_of, store_of}
use Rattle.nova_model.specs.Portals.{handler_of}
use Rattle.nova_model.specs.State.{KernelState, context, is_thread, message, pd_of}
use Rattle.nova_model.specs.Views.{guest_state, is_memory_of, map_of, view}
use Rattle.nova_model.specs.declared.admit.ExitAdmit.{ExitAdmit}
use Rattle.nova_model.specs.declared.admit.ExitAdmit.TheVariants as exit
use Rattle.nova_model.specs.declared.context.Mark.TheVariants as mark
use Rattle.nova_model.specs.declared.context.State.{State}
use Rattle.nova_model.specs.declared.context.State.TheVariants.{Fresh, Ready, Calling, Exiting, Sending, Dead}
use Rattle.nova_model.specs.declared.deed.Deed.{Deed}
use Rattle.nova_model.specs.declared.deed.Deed.TheVariants.{Steps, Recalls, Gives, Removes, Finishes, Replies}
use Rattle.nova_model.specs.declared.delegation.Derivation.{Derivation}
use Rattle.nova_model.specs.declared.transfer.Sequel.TheVariants.{Replied}
use Rattle.nova_range.specs.Rights.{write_right}
use Rattle.nova_model.specs.AddressSpaces.{frame_for}
use Rattle.nova_model.specs.Deeds.{address_space}
use Rattle.nova_range.specs.declared.status.Status.{Status}
use Rattle.law_forest.proofs.Actors.{of_input}
use Rattle.law_isolation.specs.Sound.{IsSound, IsVirtual}
use Rattle.law_isolation.proofs.Exchanges.{IsApartFrom, apart_maps, covered_for, none_overlap}
use Rattle.law_isolation.proofs.Facts.{deed_facts}
use Rattle.law_isolation.proofs.OtherTurns.{fits_apart, view_cells}
use Rattle.law_isolation.proofs.Unseen.{Facts, WaitsFor}
use Rattle.law_isolation.proofs.Outputs.{guest_no_thread}
use Rattle.law_isolation.proofs.OwnTurns.{not_thread}
use Rattle.law_isolation.proofs.Premises.{HasPremises, IsGuest, IsGuestState, guest as guest_there, premises}
use Rattle.law_isolation.proofs.Removals.{has_taken}
use Rattle.law_isolation.proofs.Seen.{maps_at, view_is}
use Rattle.law_isolation.proofs.Spaces.{cell_covered}

-- an input, where there is one, is admitted
abbrev IsMet : Guest → Option Input → Type 0
IsMet v o = IfSome o (λ i. admits v i ≡ true)

met_if : (v : Guest) (t : Bool) (i : Input) → (t ≡ true → admits v i ≡ true) → IsMet v (only_if t i)
met_if v true i h = h refl
met_if v false i h = tt

-- ITS OWN TURNS

exits_met : (v : Guest) (k : KernelState) (g reason q0 q1 : ℕ) → v.state ≡ guest.Exit reason q0 q1 → IsMet v (own_input (exits k g reason q0 q1))
exits_met v k g reason q0 q1 at = by_portal (exit_portal k g reason)
  where
    by_admit : (pt : ℕ) (a : ExitAdmit) → IsMet v (own_input (exit_to k pt reason q0 q1 a))
    by_admit pt exit.Dies = ap (λ (s : GuestState). has_exit s || waits s) at
    by_admit pt exit.Waits = tt
    by_admit pt exit.Sends = ap has_exit at

    by_portal : (o : Result ℕ Status) → IsMet v (own_input (exit_at k g reason q0 q1 o))
    by_portal (Err status) = ap (λ (s : GuestState). has_exit s || waits s) at
    by_portal (Ok pt) = by_admit pt (exit_admitted k.contexts g (handler_of k pt))

ready_met : (v : Guest) (k : KernelState) (g : ℕ) → IsGuest k g → v.state ≡ guest.Ready → (t : Bool) → IsMet v (own_input (ready k g t))
ready_met v k g is at true = ap acts at
ready_met v k g is at false = by_once (instruction k g)
  where
    by_once : (o : Once) → IsMet v (own_input (stepping k g o))
    by_once (Raised reason q0 q1) =
        subst (λ (t : Bool). IsMet v (own_input (signalled k g reason q0 q1 t))) (sym (not_thread (reason == environment_call) (is_thread k g) (guest_no_thread k g is))) (ap acts at)
    by_once (Went regs store) = ap acts at

own_met_in : (v : Guest) (k : KernelState) (g : ℕ) → IsGuest k g → (s : State) → IsGuestState s → v.state ≡ guest_state s → IsMet v (own_input (deed_in k g s))
own_met_in v k g is Fresh runs at = ap acts at
own_met_in v k g is Ready runs at = ready_met v k g is at (context k g).recall
own_met_in v k g is (Exiting reason q0 q1) runs at = exits_met v k g reason q0 q1 at
own_met_in v k g is (Sending reason q0 q1 handler) runs at = exits_met v k g reason q0 q1 at
own_met_in v k g is (Calling handler) runs at = ap (λ (s : GuestState). has_exit s || waits s) at
own_met_in v k g is Dead runs at = tt
own_met_in v k g is other runs at = absurd runs

pub view_state : (k : KernelState) (g : ℕ) → (view k g).state ≡ guest_state (context k g).state
view_state k g = ap (λ (v : Guest). v.state) (view_is k g)

own_met : (k : KernelState) (g : ℕ) → IsGuest k g → IsMet (view k g) (own_input (deed k g))
unfolding deed
own_met k g is = own_met_in (view k g) k g is (context k g).state is.runs (view_state k g)

-- TURNS OF OTHERS

-- a store to a RAM frame that the view covers goes to one of its cells
store_met : (k : KernelState) (ec g : ℕ) → HasPremises k → (o : Option Store) → IsMet (view k g) (option_and_then (foreign_by k ec (pd_of k g)) o)
store_met k ec g sound None = tt
store_met k ec g sound (Some s) = by_frame (frame_for (address_space k ec) write_right s.address)
  where
    has_cell : (f : ℕ) → is_some (slice_get k.memory.ram f) ≡ true → is_covered_for k (pd_of k g) f ≡ true → is_some (cell_at (view k g).cells f) ≡ true
    has_cell f there covered =
        ap is_some (ap (λ (cs : _). cell_at cs f) (view_cells k g)
        ∙ cell_covered (maps_at k g) k.memory.ram f (sym (covered_for (pd_of k g) f k.delegations.list sound.forest.apart) ∙ covered)) ∙ there

    by_cover : (f : ℕ) → is_some (slice_get k.memory.ram f) ≡ true → (t : Bool) → is_covered_for k (pd_of k g) f ≡ t →
        IsMet (view k g) (if t then Some (input_as.Foreign f (s.address % 4096) s.width s.value) else None)
    by_cover f there true covered = has_cell f there covered
    by_cover f there false covered = tt

    by_ram : (f : ℕ) (t : Bool) → is_some (slice_get k.memory.ram f) ≡ t → IsMet (view k g) (option_and_then (foreign_at k (pd_of k g) s) (if t then Some f else None))
    by_ram f true there = by_cover f there (is_covered_for k (pd_of k g) f) refl
    by_ram f false there = tt

    by_frame : (o : Option ℕ) → IsMet (view k g) (option_and_then (foreign_at k (pd_of k g) s) (option_and_then (in_ram k) o))
    by_frame None = tt
    by_frame (Some f) = by_ram f (is_some (slice_get k.memory.ram f)) refl

reply_met : (k : KernelState) (ec g caller : ℕ) → WaitsFor k g caller mark.Exit → IsMet (view k g) (only_if (caller == g) (reply_of (message k ec)))
reply_met k ec g caller facts = met_if (view k g) (caller == g) (reply_of (message k ec)) (λ own. ap waits (view_state k g ∙ (facts (eqb-true caller g own)).1))

given_met : (k : KernelState) (g : ℕ) (d : Derivation) → IsFitting k.delegations d → IsMet (view k g) (only_if (is_memory_of (pd_of k g) d) (given_of k d))
given_met k g d fits = met_if (view k g) (is_memory_of (pd_of k g) d) (given_of k d) free
  where
    free : is_memory_of (pd_of k g) d ≡ true → not (list_any (overlaps d.base d.order) (view k g).maps) ≡ true
    free is =
        let all : AllByRecursion (IsApartFrom (pd_of k g) d) k.delegations.list = fits_apart (pd_of k g) d k.delegations.list is fits.apart in
        ap (λ (v : Guest). not (list_any (overlaps d.base d.order) v.maps)) (view_is k g)
        ∙ ap not (none_overlap (map_of d) (maps_at k g) (apart_maps (pd_of k g) d k.delegations.list all))

taken_met : (k : KernelState) (g : ℕ) (leaf : Derivation) → HasPremises k → Facts k g (Removes leaf) →
    IsMet (view k g) (only_if (is_memory_of (pd_of k g) leaf) (input_as.Taken leaf.base leaf.order))
taken_met k g leaf sound there = met_if (view k g) (is_memory_of (pd_of k g) leaf) (input_as.Taken leaf.base leaf.order)
    (λ is. ap (λ (v : Guest). list_any (is_map leaf.base leaf.order) v.maps) (view_is k g)
    ∙ has_taken (pd_of k g) k.delegations leaf sound.forest (in_from_contains k.delegations.list leaf there) is)

others_met : (k : KernelState) (ec g : ℕ) (d : Deed) → HasPremises k → Facts k g d → GivesFitting k.delegations d → IsMet (view k g) (others_input k ec g d)
others_met k ec g Steps sound facts fits = store_met k ec g sound (store_of (instruction k ec))
others_met k ec g (Recalls whose) sound facts fits = met_if (view k g) (whose == g) input_as.Recall (λ own. refl)
others_met k ec g (Replies caller mark.Exit false) sound facts fits = reply_met k ec g caller facts
others_met k ec g (Replies caller mark.Exit true) sound facts fits = tt
others_met k ec g (Replies caller mark.Call items) sound facts fits = tt
others_met k ec g (Finishes item end words (Replied caller mark.Exit)) sound facts fits = reply_met k ec g caller facts.0
others_met k ec g (Finishes item end words (Replied caller mark.Call)) sound facts fits = tt
others_met k ec g (Finishes item end words other) sound facts fits = tt
others_met k ec g (Gives child cursor) sound facts fits = given_met k g child fits
others_met k ec g (Removes leaf) sound facts fits = taken_met k g leaf sound facts
others_met k ec g other sound facts fits = tt

-- EACH TURN

deed_met : (k : KernelState) (ec g : ℕ) → HasPremises k → IsGuest k g → IsMet (view k g) (input_of k ec g (deed k ec))
unfolding input_of
deed_met k ec g sound is = elim (cases_eq ec g) [
  | inl own ↦ rw (eq-eqb ec g own) (subst (λ (n : ℕ). IsMet (view k g) (own_input (deed k n))) (sym own) (own_met k g is))
  | inr ne ↦ rw (ne_eqb ec g ne) (others_met k ec g (deed k ec) sound (deed_facts k ec g sound is) (deed_fits k ec sound.forest))
]

pub input_met : (k : KernelState) (cpu g : ℕ) → IsSound k → IsVirtual k g → IfSome (input k cpu g) (λ i. admits (view k g) i ≡ true)
input_met k cpu g sound is = of_input (IsMet (view k g)) k cpu g tt (λ c chosen. deed_met k c.actor g (premises k sound) (guest_there k g sound is))
