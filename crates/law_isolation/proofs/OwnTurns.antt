-- A turn in which the virtual CPU itself acts.
use Rattle.std.proofs.Common.{◌≡◌, ℕ, ◌%◌, ◌≢◌, List, ap, sym, ◌∙◌, subst, refl, arith}
use Rattle.std.specs.Prelude.{Bool, true, false, not, ◌==◌, ◌&&◌, slice_get, Option, Some, None, IsSome, option_and_then, option_map, Result, Ok, Err}
use Rattle.std.proofs.lemmas.Bool.{true≢false, eq-eqb}
use Rattle.rv_model.specs.Step.{Once, Raised, Went, Store, one, environment_call}
use Rattle.nova_guest.specs.Alone.{Told, told, byte_out, written as alone_written, stored_at as alone_stored_at, stored as alone_stored, stepped as alone_stepped, ran, acted, applied}
use Rattle.nova_guest.specs.Cells.{cell_at}
use Rattle.nova_guest.specs.Frames.{frame_from}
use Rattle.nova_guest.specs.Maps.{is_covered, page_in}
use Rattle.nova_guest.specs.declared.cell.Cell.{Cell}
use Rattle.nova_guest.specs.declared.guest.Guest.{Guest}
use Rattle.nova_guest.specs.declared.guest.GuestState.TheVariants as guest
use Rattle.nova_guest.specs.declared.input.Input.{Input}
use Rattle.nova_guest.specs.declared.input.Input.TheVariants.{Own, Sent, Died}
use Rattle.nova_guest.specs.declared.input.Out.{Out}
use Rattle.nova_guest.specs.declared.input.Out.TheVariants as out
use Rattle.nova_guest.specs.declared.map.Map.{Map}
use Rattle.nova_objects.specs.declared.object.Object.{Object}
use Rattle.nova_objects.specs.declared.object.Object.TheVariants.{Pd, Ec, Sc, Pt, Sm}
use Rattle.nova_range.specs.Rights.{write_right}
use Rattle.nova_range.specs.declared.mtd.Mtd.{Mtd}
use Rattle.nova_range.specs.declared.status.Status.{Status}
use Rattle.nova_model.specs.AddressSpaces.{AddressSpace, space, stored_at}
use Rattle.nova_model.specs.Calls.{exit_admitted}
use Rattle.nova_model.specs.Capabilities.{event_right, is_pt, named}
use Rattle.nova_model.specs.Deeds.{sign_of, address_space, instruction, signalled, stepping, ready, recall, mark_in, deed_in, deed, with_context, memory_after, messages_after, stepped, done, serving}
use Rattle.nova_model.specs.Edges.{caller_in, state_in}
use Rattle.nova_model.specs.Exits.{exit_at, exit_portal, exit_to, exits}
use Rattle.nova_model.specs.Inputs.{input_of, own_input}
use Rattle.nova_model.specs.Memory.{Memory, written}
use Rattle.nova_model.specs.Portals.{descriptor, handler_in, handler_of, identifier, ip_of}
use Rattle.nova_model.specs.State.{KernelState, context, context_at, context_in, is_thread, message, with_message, pd_of}
use Rattle.nova_model.specs.Views.{view, guest_of, guest_state, cells_of}
use Rattle.nova_model.specs.declared.admit.ExitAdmit.{ExitAdmit}
use Rattle.nova_model.specs.declared.admit.ExitAdmit.TheVariants as admit
use Rattle.nova_model.specs.declared.context.EcState.{EcState}
use Rattle.nova_model.specs.declared.context.Mark.{Mark}
use Rattle.nova_model.specs.declared.context.Mark.TheVariants as mark
use Rattle.nova_model.specs.declared.context.State.{State}
use Rattle.nova_model.specs.declared.context.State.TheVariants.{Fresh, Ready, Parked, Calling, Helping, Exiting, Sending, Granting, Replying, Revoking, Blocked, Dead}
use Rattle.nova_model.specs.declared.deed.Deed.{Deed}
use Rattle.nova_model.specs.declared.deed.Deed.TheVariants.{Rests, Steps, Raises, Dies, Waits, Sends, Aborts}
use Rattle.nova_utcb.specs.Messages.{exited}
use Rattle.law_forest.proofs.Walk.{IfDone}
use Rattle.law_turns.proofs.Holding.{IsNamedAt, named_at}
use Rattle.law_forest.proofs.Plain.{and_false, and_true}
use Rattle.law_isolation.specs.Law.{answered, IsPutOut, IsOneInput, PutsOut}
use Rattle.law_isolation.proofs.Premises.{HasPremises, IsGuest, IsGuestState}
use Rattle.law_isolation.proofs.Outputs.{IsOwn, console_output, guest_no_thread, own_output, own_space, put_out, put_output, step_output, store_output, wordless}
use Rattle.law_isolation.proofs.Seen.{maps_at, view_is, view_self, view_context}
use Rattle.law_isolation.proofs.Spaces.{cell_covered, frame_covered, frame_same, space_same}
use Rattle.law_isolation.proofs.Stores.{cells_written, stored_nowhere}

-- the guest that the kernel has in its state
abbrev pub guest_at : KernelState → ℕ → Guest
guest_at k g = guest_of (context k g) (maps_at k g) k.memory.ram

abbrev guest_with : EcState → List Map → List Cell → Guest
guest_with x maps cells = record { regs = x.regs; state = guest_state x.state; recall = x.recall; maps = maps; cells = cells }

-- A STORE

written_self : (y : EcState) (maps : List Map) (m : Memory) (f o w v : ℕ) (c : Option (List ℕ)) → cell_at (cells_of maps m.ram) f ≡ c →
    told (guest_of y maps (written m f o w v).ram) (console_output f o v c) ≡ alone_written (guest_of y maps m.ram) f o w v c
written_self y maps m f o w v (Some b) h = ap (λ (cells : List Cell). told (guest_with y maps cells) None) (cells_written maps m f o w v)
written_self y maps m f o w v None h =
    ap (λ (cells : List Cell). told (guest_with y maps cells) (byte_out f o v)) (cells_written maps m f o w v ∙ stored_nowhere (cells_of maps m.ram) f o w v h)

put_self : (y : EcState) (maps : List Map) (m : Memory) (s : Store) (o : Option ℕ) → ((f : ℕ) → o ≡ Some f → is_covered maps f ≡ true) →
    told (guest_of y maps (stored_at m s o).ram) (put_output m s o) ≡ alone_stored_at (guest_of y maps m.ram) s o
put_self y maps m s None covered = refl
put_self y maps m s (Some f) covered =
    let same : cell_at (cells_of maps m.ram) f ≡ slice_get m.ram f = cell_covered maps m.ram f (covered f refl) in
    written_self y maps m f (s.address % 4096) s.width s.value (slice_get m.ram f) same
    ∙ ap (alone_written (guest_of y maps m.ram) f (s.address % 4096) s.width s.value) (sym same)

store_self : (k : KernelState) (g : ℕ) (y : EcState) (store : Option Store) → HasPremises k →
    told (guest_of y (maps_at k g) (memory_after (wordless k g) store k.memory).ram) (store_output (wordless k g) k.memory store)
    ≡ alone_stored (guest_of y (maps_at k g) k.memory.ram) store
store_self k g y None sound = refl
store_self k g y (Some s) sound =
    rw (frame_same k.delegations.list (pd_of k g) write_right s.address sound.forest.apart)
    (put_self y (maps_at k g) k.memory s (frame_from (page_in (maps_at k g)) write_right s.address)
    (λ f h. frame_covered write_right s.address f (maps_at k g) h))

-- A DEED OF ITS OWN

abbrev pub OwnLaw : KernelState → ℕ → Deed → Type 0
OwnLaw k g d = told (view (done k g d) g) (own_output k g d) ≡ answered (view k g) (own_input d)

alone_acts : (v : Guest) → answered v (Some Own) ≡ acted v v.state
unfolding applied
alone_acts v = refl

by_guest : (k : KernelState) (g : ℕ) (y : EcState) (i : Option Input) (o : Option Out) → IsGuest k g →
    told (guest_of y (maps_at k g) k.memory.ram) o ≡ answered (guest_at k g) i → told (view (with_context k g y) g) o ≡ answered (view k g) i
by_guest k g y i o is e = ap (λ (v : Guest). told v o) (view_self k g y is.there) ∙ (e ∙ sym (ap (λ (v : Guest). answered v i) (view_is k g)))

acts_as : (k : KernelState) (g : ℕ) (s : State) → (context k g).state ≡ s → answered (guest_at k g) (Some Own) ≡ acted (guest_at k g) (guest_state s)
acts_as k g s h = alone_acts (guest_at k g) ∙ ap (λ (t : State). acted (guest_at k g) (guest_state t)) h

starts : (k : KernelState) (g : ℕ) → IsGuest k g → (context k g).state ≡ Fresh → OwnLaw k g (Raises 0 0 0)
starts k g is fresh = by_guest k g _ (Some Own) (Some (out.Exit 0 0 0)) is
    (ap (λ (t : Bool). told (record (guest_at k g) { state = guest.Exit 0 0 0; recall = t }) (Some (out.Exit 0 0 0))) (and_true (context k g).recall) ∙ sym (acts_as k g Fresh fresh))

recalls : (k : KernelState) (g : ℕ) → IsGuest k g → (context k g).state ≡ Ready → (context k g).recall ≡ true → OwnLaw k g (Raises 8 0 0)
recalls k g is at_ready asked = by_guest k g _ (Some Own) (Some (out.Exit 8 0 0)) is
    (ap (λ (t : Bool). told (record (guest_at k g) { state = guest.Exit 8 0 0; recall = t }) (Some (out.Exit 8 0 0))) (and_false (context k g).recall)
    ∙ sym (acts_as k g Ready at_ready ∙ ap (ran (guest_at k g)) asked))

-- what the guest alone does with the same instruction
once_alone : (k : KernelState) (g : ℕ) → HasPremises k → IsGuest k g → (context k g).state ≡ Ready → (context k g).recall ≡ false → (o : Once) →
    instruction k g ≡ o → answered (guest_at k g) (Some Own) ≡ alone_stepped (guest_at k g) o
once_alone k g sound is at_ready free o h =
    acts_as k g Ready at_ready ∙ (ap (ran (guest_at k g)) free
    ∙ ap (alone_stepped (guest_at k g)) (ap (one (context k g).regs) (sym (space_same k.delegations.list k.memory (pd_of k g) sound.forest.apart) ∙ ap space (sym (own_space k g is))) ∙ h))

raises : (k : KernelState) (g : ℕ) (reason q0 q1 : ℕ) → IsGuest k g → (context k g).recall ≡ false →
    answered (guest_at k g) (Some Own) ≡ alone_stepped (guest_at k g) (Raised reason q0 q1) → OwnLaw k g (Raises reason q0 q1)
raises k g reason q0 q1 is free alone = by_guest k g _ (Some Own) (Some (out.Exit reason q0 q1)) is
    (ap (λ (t : Bool). told (record (guest_at k g) { state = guest.Exit reason q0 q1; recall = t && not (reason == recall) }) (Some (out.Exit reason q0 q1))) free
    ∙ (ap (λ (t : Bool). told (record (guest_at k g) { state = guest.Exit reason q0 q1; recall = t }) (Some (out.Exit reason q0 q1))) (sym free) ∙ sym alone))

steps : (k : KernelState) (g : ℕ) (regs : _) (store : Option Store) → HasPremises k → IsGuest k g → instruction k g ≡ Went regs store →
    answered (guest_at k g) (Some Own) ≡ alone_stepped (guest_at k g) (Went regs store) → OwnLaw k g Steps
steps k g regs store sound is h alone =
    let y : EcState = record (context k g) { regs = regs } in
    let mid : KernelState = record k { memory = memory_after (address_space k g) store k.memory; messages = messages_after (address_space k g) g store k.messages } in
    ap (λ (o : Once). told (view (stepped k g o) g) (step_output (address_space k g) k.memory o)) h
    ∙ (ap (λ (v : Guest). told v (store_output (address_space k g) k.memory store)) (view_self mid g y is.there)
    ∙ (ap (λ (a : AddressSpace). told (guest_of y (maps_at k g) (memory_after a store k.memory).ram) (store_output a k.memory store)) (own_space k g is)
    ∙ (store_self k g y store sound ∙ (sym alone ∙ sym (ap (λ (v : Guest). answered v (Some Own)) (view_is k g))))))

pub not_thread : (b t : Bool) → t ≡ false → (b && t) ≡ false
not_thread b t h = grind (arith)

once_law : (k : KernelState) (g : ℕ) → HasPremises k → IsGuest k g → (context k g).state ≡ Ready → (context k g).recall ≡ false → (o : Once) →
    instruction k g ≡ o → OwnLaw k g (stepping k g o)
once_law k g sound is at_ready free (Raised reason q0 q1) h =
    subst (λ (t : Bool). OwnLaw k g (signalled k g reason q0 q1 t)) (sym (not_thread (reason == environment_call) (is_thread k g) (guest_no_thread k g is)))
    (raises k g reason q0 q1 is free (once_alone k g sound is at_ready free (Raised reason q0 q1) h))
once_law k g sound is at_ready free (Went regs store) h = steps k g regs store sound is h (once_alone k g sound is at_ready free (Went regs store) h)

ready_law : (k : KernelState) (g : ℕ) → HasPremises k → IsGuest k g → (context k g).state ≡ Ready → (t : Bool) → (context k g).recall ≡ t → OwnLaw k g (ready k g t)
ready_law k g sound is at_ready true h = recalls k g is at_ready h
ready_law k g sound is at_ready false h = once_law k g sound is at_ready h (instruction k g) refl

-- ITS EXIT

alone_dies : (k : KernelState) (g reason q0 q1 : ℕ) → guest_state (context k g).state ≡ guest.Exit reason q0 q1 →
    told (record (guest_at k g) { state = guest.Dead }) None ≡ answered (guest_at k g) (Some Died)
unfolding applied
alone_dies k g reason q0 q1 at_exit = rw at_exit refl

alone_sends : (k : KernelState) (g reason q0 q1 : ℕ) → guest_state (context k g).state ≡ guest.Exit reason q0 q1 →
    told (record (guest_at k g) { state = guest.Waiting }) None ≡ answered (guest_at k g) (Some Sent)
unfolding applied
alone_sends k g reason q0 q1 at_exit = rw at_exit refl

alone_waits : (k : KernelState) (g reason q0 q1 : ℕ) → guest_state (context k g).state ≡ guest.Exit reason q0 q1 →
    told (record (guest_at k g) { state = guest.Exit reason q0 q1 }) None ≡ answered (guest_at k g) None
alone_waits k g reason q0 q1 at_exit = ap (λ (s : _). told (record (guest_at k g) { state = s }) None) (sym at_exit)

alone_ends : (k : KernelState) (g handler : ℕ) → (context k g).state ≡ Calling handler →
    told (record (guest_at k g) { state = guest.Dead }) None ≡ answered (guest_at k g) (Some Died)
unfolding applied
alone_ends k g handler waits = rw waits refl

-- what a capability names is an object of that kind
named_kind : (k : KernelState) (pd : ℕ) (is : Object → Bool) (right selector n : ℕ) → named k pd is right selector ≡ Ok n → option_map is (slice_get k.objects n) ≡ Some true
named_kind k pd is right selector n h = (subst (IfDone (IsNamedAt k pd selector right is)) h (named_at k pd is right selector)).object

-- the handler of a portal is a thread, and so another
portal_thread : (k : KernelState) (pt : ℕ) → HasPremises k → (o : Option Object) → slice_get k.objects pt ≡ o → option_map is_pt o ≡ Some true →
    is_thread k (handler_in o) ≡ true
portal_thread k pt sound (Some (Pt handler mtd ip)) at h = sound.portals pt handler mtd ip at
portal_thread k pt sound (Some Pd) at h = absurd (cc)
portal_thread k pt sound (Some (Ec pd cpu kind event)) at h = absurd (cc)
portal_thread k pt sound (Some (Sc ec cpu priority quantum)) at h = absurd (cc)
portal_thread k pt sound (Some Sm) at h = absurd (cc)
portal_thread k pt sound None at h = absurd (cc)

pub thread_apart : (k : KernelState) (t g : ℕ) → IsGuest k g → is_thread k t ≡ true → t ≢ g
thread_apart k t g is thread e = true≢false (sym thread ∙ (ap (is_thread k) e ∙ guest_no_thread k g is))

pub handler_apart : (k : KernelState) (pd right selector pt g : ℕ) → HasPremises k → IsGuest k g → named k pd is_pt right selector ≡ Ok pt → handler_of k pt ≢ g
handler_apart k pd right selector pt g sound is h =
    thread_apart k (handler_of k pt) g is (portal_thread k pt sound (slice_get k.objects pt) refl (named_kind k pd is_pt right selector pt h))

dies_law : (k : KernelState) (g reason q0 q1 : ℕ) → IsGuest k g → guest_state (context k g).state ≡ guest.Exit reason q0 q1 → OwnLaw k g (Dies reason q0)
dies_law k g reason q0 q1 is at_exit = by_guest k g _ (Some Died) None is (alone_dies k g reason q0 q1 at_exit)

waits_law : (k : KernelState) (g handler reason q0 q1 : ℕ) → IsGuest k g → guest_state (context k g).state ≡ guest.Exit reason q0 q1 →
    OwnLaw k g (Waits handler reason q0 q1)
waits_law k g handler reason q0 q1 is at_exit = by_guest k g _ None None is (alone_waits k g reason q0 q1 at_exit)

sends_law : (k : KernelState) (g handler ip identifier : ℕ) (mtd : Mtd) (reason q0 q1 : ℕ) → IsGuest k g → handler ≢ g →
    guest_state (context k g).state ≡ guest.Exit reason q0 q1 → OwnLaw k g (Sends handler ip identifier mtd reason q0 q1)
sends_law k g handler ip identifier mtd reason q0 q1 is ne at_exit =
    let mid : KernelState = with_context k g (record (context k g) { state = Calling handler }) in
    let told_ : KernelState = with_message mid handler (exited mtd q0 q1 (context mid g).regs (message mid handler)) in
    ap (λ (v : Guest). told v None) (view_context told_ handler g (serving (context mid handler) g mark.Exit ip identifier false) ne ∙ (view_is told_ g ∙ sym (view_is mid g)))
    ∙ by_guest k g _ (Some Sent) None is (alone_sends k g reason q0 q1 at_exit)

exits_law : (k : KernelState) (g reason q0 q1 : ℕ) → HasPremises k → IsGuest k g → guest_state (context k g).state ≡ guest.Exit reason q0 q1 → OwnLaw k g (exits k g reason q0 q1)
exits_law k g reason q0 q1 sound is at_exit = by_portal (exit_portal k g reason) refl
  where
    by_admit : (pt : ℕ) → exit_portal k g reason ≡ Ok pt → (a : ExitAdmit) → OwnLaw k g (exit_to k pt reason q0 q1 a)
    by_admit pt portal admit.Dies = dies_law k g reason q0 q1 is at_exit
    by_admit pt portal admit.Waits = waits_law k g (handler_of k pt) reason q0 q1 is at_exit
    by_admit pt portal admit.Sends =
        sends_law k g (handler_of k pt) (ip_of k pt) (identifier k pt) (descriptor k pt) reason q0 q1 is (handler_apart k (pd_of k g) event_right _ pt g sound is portal) at_exit

    by_portal : (o : Result ℕ Status) → exit_portal k g reason ≡ o → OwnLaw k g (exit_at k g reason q0 q1 o)
    by_portal (Err status) portal = dies_law k g reason q0 q1 is at_exit
    by_portal (Ok pt) portal = by_admit pt portal (exit_admitted k.contexts g (handler_of k pt))

-- the handler of its exit is dead
some_state : (o : Option EcState) → IsSome o → option_map (λ x. x.state) o ≡ Some (context_in o).state
some_state (Some x) h = refl
some_state None h = absurd (cc)

pub caller_of : (k : KernelState) (h : ℕ) → (context k h).caller ≡ caller_in k.contexts h
caller_of k h = by_entry (context_at k h)
  where
    by_entry : (o : Option EcState) → (context_in o).caller ≡ option_and_then (λ x. x.caller) o
    by_entry (Some x) = refl
    by_entry None = refl

pub state_in_there : (k : KernelState) (g : ℕ) → IsSome (context_at k g) → state_in k.contexts g ≡ Some (context k g).state
state_in_there k g there = some_state (context_at k g) there

aborts_law : (k : KernelState) (g handler : ℕ) → HasPremises k → IsGuest k g → (context k g).state ≡ Calling handler → OwnLaw k g (Aborts handler (mark_in (context k handler).caller))
aborts_law k g handler sound is waits =
    by_mark (sound.known g handler (state_in_there k g is.there ∙ ap Some waits))
  where
    by_known : (m : Mark) → caller_in k.contexts handler ≡ Some (g, m) → OwnLaw k g (Aborts handler m)
    by_known mark.Call h = absurd (thread_apart k g g is (sound.called g handler h) refl)
    by_known mark.Exit h = by_guest k g _ (Some Died) None is (alone_ends k g handler waits)

    by_mark : (m : Mark) × (caller_in k.contexts handler ≡ Some (g, m)) → OwnLaw k g (Aborts handler (mark_in (context k handler).caller))
    by_mark h = subst (λ (c : Option (ℕ × Mark)). OwnLaw k g (Aborts handler (mark_in c))) (sym (caller_of k handler ∙ h.1)) (by_known h.0 h.1)

rests_law : (k : KernelState) (g : ℕ) → OwnLaw k g Rests
rests_law k g = refl

-- EACH STATE

own_law_in : (k : KernelState) (g : ℕ) → HasPremises k → IsGuest k g → (s : State) → (context k g).state ≡ s → OwnLaw k g (deed_in k g s)
own_law_in k g sound is Fresh h = starts k g is h
own_law_in k g sound is Ready h = ready_law k g sound is h (context k g).recall refl
own_law_in k g sound is (Exiting reason q0 q1) h = exits_law k g reason q0 q1 sound is (ap guest_state h)
own_law_in k g sound is (Sending reason q0 q1 handler) h = exits_law k g reason q0 q1 sound is (ap guest_state h)
own_law_in k g sound is (Calling handler) h = aborts_law k g handler sound is h
own_law_in k g sound is Dead h = rests_law k g
own_law_in k g sound is Parked h = absurd (subst IsGuestState h is.runs)
own_law_in k g sound is (Helping handler) h = absurd (subst IsGuestState h is.runs)
own_law_in k g sound is (Granting new) h = absurd (subst IsGuestState h is.runs)
own_law_in k g sound is Replying h = absurd (subst IsGuestState h is.runs)
own_law_in k g sound is (Revoking range own) h = absurd (subst IsGuestState h is.runs)
own_law_in k g sound is (Blocked sm) h = absurd (subst IsGuestState h is.runs)

pub own_law : (k : KernelState) (g : ℕ) → HasPremises k → IsGuest k g → OwnLaw k g (deed k g)
unfolding deed
own_law k g sound is = own_law_in k g sound is (context k g).state refl

-- the deed of a virtual CPU is one of those
exits_own : (k : KernelState) (g reason q0 q1 : ℕ) → IsOwn (exits k g reason q0 q1)
exits_own k g reason q0 q1 = by_portal (exit_portal k g reason)
  where
    by_admit : (pt : ℕ) (a : ExitAdmit) → IsOwn (exit_to k pt reason q0 q1 a)
    by_admit pt admit.Dies = tt
    by_admit pt admit.Waits = tt
    by_admit pt admit.Sends = tt

    by_portal : (o : Result ℕ Status) → IsOwn (exit_at k g reason q0 q1 o)
    by_portal (Err status) = tt
    by_portal (Ok pt) = by_admit pt (exit_admitted k.contexts g (handler_of k pt))

ready_own : (k : KernelState) (g : ℕ) → IsGuest k g → (t : Bool) → IsOwn (ready k g t)
ready_own k g is true = tt
ready_own k g is false = by_once (instruction k g)
  where
    by_once : (o : Once) → IsOwn (stepping k g o)
    by_once (Raised reason q0 q1) =
        subst (λ (t : Bool). IsOwn (signalled k g reason q0 q1 t)) (sym (not_thread (reason == environment_call) (is_thread k g) (guest_no_thread k g is))) tt
    by_once (Went regs store) = tt

own_in : (k : KernelState) (g : ℕ) → IsGuest k g → (s : State) → IsGuestState s → IsOwn (deed_in k g s)
own_in k g is Fresh runs = tt
own_in k g is Ready runs = ready_own k g is (context k g).recall
own_in k g is (Exiting reason q0 q1) runs = exits_own k g reason q0 q1
own_in k g is (Sending reason q0 q1 handler) runs = exits_own k g reason q0 q1
own_in k g is (Calling handler) runs = tt
own_in k g is Dead runs = tt
own_in k g is other runs = absurd runs

pub own_deed : (k : KernelState) (g : ℕ) → IsGuest k g → IsOwn (deed k g)
unfolding deed
own_deed k g is = own_in k g is (context k g).state is.runs

pub own_is : (k : KernelState) (g : ℕ) (d : Deed) → input_of k g g d ≡ own_input d
unfolding input_of
own_is k g d = rw (eq-eqb g g refl) refl

pub own_turn : (k : KernelState) (g : ℕ) → HasPremises k → IsGuest k g → IsOneInput k (done k g (deed k g)) g g (deed k g)
own_turn k g sound is =
    let law : told (view (done k g (deed k g)) g) (own_output k g (deed k g)) ≡ answered (view k g) (input_of k g g (deed k g))
    = own_law k g sound is ∙ sym (ap (answered (view k g)) (own_is k g (deed k g))) in
    record {
      guest = ap (λ (t : Told). t.guest) law;
      output = subst (λ (t : Bool). PutsOut t k (done k g (deed k g)) (sign_of (deed k g)) (answered (view k g) (input_of k g g (deed k g))).out) (sym (eq-eqb g g refl))
          (subst (λ (o : Option Out). IsPutOut k (done k g (deed k g)) (sign_of (deed k g)) o) (ap (λ (t : Told). t.out) law) (put_out k g (deed k g) (own_deed k g is)));
    }
