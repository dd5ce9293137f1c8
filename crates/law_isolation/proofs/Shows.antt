-- What the guest alone puts out, with both qualifications and with frames, is what trace, states and log show.
use Rattle.std.proofs.Common.{◌≡◌, ℕ, ◌%◌, List, [], ◌∷◌, ◌++◌, length, ap, ap₂, sym, ◌∙◌, subst, refl}
use Rattle.std.specs.Prelude.{◌==◌, Bool, true, false, Option, Some, None, if◌then◌else◌}
use Rattle.std.specs.List.{filter}
use Rattle.std.proofs.lemmas.List.{append-nil, map-append}
use Rattle.std.proofs.lemmas.List.Elements.{filter-append}
use Rattle.rv_model.specs.Step.{Once, Raised, Went, Store, one}
use Rattle.nova_guest.specs.Alone.{acted, applied, guest_space, out_before, outputs, ran, stepped, stored, stored_at, written}
use Rattle.nova_guest.specs.Cells.{cell_at}
use Rattle.nova_guest.specs.Frames.{frame_from}
use Rattle.nova_guest.specs.Maps.{page_in}
use Rattle.nova_guest.specs.declared.guest.Guest.{Guest}
use Rattle.nova_guest.specs.declared.guest.GuestState.{GuestState}
use Rattle.nova_guest.specs.declared.guest.GuestState.TheVariants as guest
use Rattle.nova_guest.specs.declared.input.Input.{Input}
use Rattle.nova_guest.specs.declared.input.Input.TheVariants.{Own}
use Rattle.nova_guest.specs.declared.input.Out.{Out}
use Rattle.nova_guest.specs.declared.input.Out.TheVariants as out
use Rattle.nova_range.specs.Rights.{write_right}
use Rattle.nova_model.specs.Guests.{input, inputs}
use Rattle.nova_model.specs.Runs.{after}
use Rattle.nova_model.specs.State.{KernelState}
use Rattle.nova_model.specs.Turn.{turn}
use Rattle.nova_model.specs.Views.{view}
use Rattle.nova_model.specs.declared.log.LogByte.{LogByte}
use Rattle.law_isolation.specs.Law.{answered, byte_of, bytes_in, bytes_of, exit_in}
use Rattle.law_isolation.specs.Shown.{bytes, exit_by, exit_with, exits, gained, gained_in, is_byte, is_exit, second_of, shown}
use Rattle.law_isolation.specs.Sound.{IsSound, IsVirtual}
use Rattle.law_isolation.specs.Stretches.{BeginEqual, EndEqual, Stretch, begun, outputs_in}
use Rattle.law_isolation.proofs.Runs.{reached_sound, turn_is_one, turn_sound, turn_virtual, two_runs}
use Rattle.law_isolation.proofs.Showing.{bytes_shown, exit_shown, outputs_next, turn_frames}

-- AN OUTPUT AND THE GUEST

-- an exit that is put out is the state that the guest comes to
abbrev IsFrom : Guest → Option Out → Type 0
IsFrom new None = Unit {0}
IsFrom new (Some (out.Exit reason q0 q1)) = new.state ≡ guest.Exit reason q0 q1
IsFrom new (Some (out.Byte frame value)) = Unit {0}

byte_from : (new : Guest) (frame value : ℕ) (t : Bool) → IsFrom new (if t then Some (out.Byte frame value) else None)
byte_from new frame value true = tt
byte_from new frame value false = tt

written_from : (w : Guest) (frame offset width value : ℕ) (c : Option (List ℕ)) → IsFrom (written w frame offset width value c).guest (written w frame offset width value c).out
written_from w frame offset width value (Some b) = tt
written_from w frame offset width value None = byte_from w frame (value % 256) (offset == 0)

store_from : (w : Guest) (store : Option Store) → IsFrom (stored w store).guest (stored w store).out
store_from w None = tt
store_from w (Some s) = by_frame (frame_from (page_in w.maps) write_right s.address)
  where
    by_frame : (f : Option ℕ) → IsFrom (stored_at w s f).guest (stored_at w s f).out
    by_frame None = tt
    by_frame (Some frame) = written_from w frame (s.address % 4096) s.width s.value (cell_at w.cells frame)

step_from : (v : Guest) (o : Once) → IsFrom (stepped v o).guest (stepped v o).out
step_from v (Raised reason q0 q1) = refl
step_from v (Went regs store) = store_from (record v { regs = regs }) store

run_from : (v : Guest) (t : Bool) → IsFrom (ran v t).guest (ran v t).out
run_from v true = refl
run_from v false = step_from v (one v.regs (guest_space v.maps v.cells))

own_from : (v : Guest) (s : GuestState) → IsFrom (acted v s).guest (acted v s).out
own_from v guest.Fresh = refl
own_from v guest.Ready = run_from v v.recall
own_from v other = tt

applied_from : (v : Guest) (i : Input) → IsFrom (applied v i).guest (applied v i).out
unfolding applied
applied_from v Own = own_from v v.state
applied_from v other = tt

answer_from : (v : Guest) (i : Option Input) → IsFrom (answered v i).guest (answered v i).out
answer_from v None = tt
answer_from v (Some i) = applied_from v i

-- ONE TURN

-- at most one output, as a list
abbrev listed : Option Out → List Out
listed None = []
listed (Some o) = o ∷ []

out_listed : (o : Option Out) (outs : List Out) → out_before o outs ≡ listed o ++ outs
out_listed None outs = refl
out_listed (Some o) outs = refl

output_shown : (new : Guest) (o : Option Out) → IsFrom new o → listed o ≡ exit_with (second_of new.state) (exit_in o) ++ bytes_in o
output_shown new None is = refl
output_shown new (Some (out.Exit reason q0 q1)) is = ap (λ (s : GuestState). out.Exit reason q0 (second_of s) ∷ []) (sym is)
output_shown new (Some (out.Byte frame value)) is = refl

turn_shown : (k : KernelState) (cpu g : ℕ) → IsSound k → IsVirtual k g →
    listed (answered (view k g) (input k cpu g)).out ≡ exit_by k cpu g ++ bytes_of (length k.memory.ram) (gained_in k cpu g)
turn_shown k cpu g sound is =
    let o : Option Out = (answered (view k g) (input k cpu g)).out in
    let law = turn_is_one k cpu g sound is in
    output_shown (view (after k cpu) g) o (subst (λ (v : Guest). IsFrom v o) (sym law.guest) (answer_from (view k g) (input k cpu g)))
    ∙ ap₂ (λ (e : Option (ℕ × ℕ)) (bs : List Out). exit_with (second_of (view (after k cpu) g).state) e ++ bs)
    (exit_shown k (after k cpu) g (turn k cpu) o law.output) (bytes_shown k (after k cpu) g (turn k cpu) o law.output)

-- A RUN

pub outputs_shown : (k : KernelState) (turns : List ℕ) (g : ℕ) → IsSound k → IsVirtual k g → outputs (view k g) (inputs k turns g) ≡ shown k turns g
outputs_shown k [] g sound is = refl
outputs_shown k (cpu ∷ turns) g sound is =
    let o : Option Out = (answered (view k g) (input k cpu g)).out in
    outputs_next k cpu turns g sound is
    ∙ (out_listed o (outputs (view (after k cpu) g) (inputs (after k cpu) turns g))
    ∙ ap₂ (λ (xs ys : List Out). xs ++ ys) (turn_shown k cpu g sound is) (outputs_shown (after k cpu) turns g (turn_sound k cpu sound) (turn_virtual k cpu g is)))

-- of either kind
exits_only : (q1 : ℕ) (e : Option (ℕ × ℕ)) → filter is_exit (exit_with q1 e) ≡ exit_with q1 e
exits_only q1 None = refl
exits_only q1 (Some e) = refl

exits_no_byte : (q1 : ℕ) (e : Option (ℕ × ℕ)) → filter is_byte (exit_with q1 e) ≡ []
exits_no_byte q1 None = refl
exits_no_byte q1 (Some e) = refl

bytes_only : (frames : ℕ) (log : List LogByte) → filter is_byte (bytes_of frames log) ≡ bytes_of frames log
bytes_only frames [] = refl
bytes_only frames (b ∷ log) = ap (λ (os : List Out). byte_of frames b ∷ os) (bytes_only frames log)

bytes_no_exit : (frames : ℕ) (log : List LogByte) → filter is_exit (bytes_of frames log) ≡ []
bytes_no_exit frames [] = refl
bytes_no_exit frames (b ∷ log) = bytes_no_exit frames log

pub exits_of_shown : (k : KernelState) (turns : List ℕ) (g : ℕ) → filter is_exit (shown k turns g) ≡ exits k turns g
exits_of_shown k [] g = refl
exits_of_shown k (cpu ∷ turns) g =
    let e : List Out = exit_by k cpu g in
    let b : List Out = bytes_of (length k.memory.ram) (gained_in k cpu g) in
    filter-append is_exit (e ++ b) (shown (after k cpu) turns g)
    ∙ ap₂ (λ (xs ys : List Out). xs ++ ys)
    (filter-append is_exit e b ∙ (ap₂ (λ (xs ys : List Out). xs ++ ys) (exits_only _ _) (bytes_no_exit (length k.memory.ram) (gained_in k cpu g)) ∙ append-nil e))
    (exits_of_shown (after k cpu) turns g)

pub bytes_of_shown : (k : KernelState) (turns : List ℕ) (g : ℕ) → filter is_byte (shown k turns g) ≡ bytes k turns g
bytes_of_shown k [] g = refl
bytes_of_shown k (cpu ∷ turns) g =
    let e : List Out = exit_by k cpu g in
    let b : List Out = bytes_of (length k.memory.ram) (gained_in k cpu g) in
    filter-append is_byte (e ++ b) (shown (after k cpu) turns g)
    ∙ (ap₂ (λ (xs ys : List Out). xs ++ ys)
    (filter-append is_byte e b ∙ ap₂ (λ (xs ys : List Out). xs ++ ys) (exits_no_byte _ _) (bytes_only (length k.memory.ram) (gained_in k cpu g)))
    (bytes_of_shown (after k cpu) turns g ∙ ap (λ (n : ℕ). bytes_of n (gained (after k cpu) turns g)) (turn_frames k cpu))
    ∙ sym (map-append (byte_of (length k.memory.ram)) (gained_in k cpu g) (gained (after k cpu) turns g)))

pub exits_raised : (k : KernelState) (turns : List ℕ) (g : ℕ) → IsSound k → IsVirtual k g → filter is_exit (outputs (view k g) (inputs k turns g)) ≡ exits k turns g
exits_raised k turns g sound is = ap (filter is_exit) (outputs_shown k turns g sound is) ∙ exits_of_shown k turns g

pub bytes_put : (k : KernelState) (turns : List ℕ) (g : ℕ) → IsSound k → IsVirtual k g → filter is_byte (outputs (view k g) (inputs k turns g)) ≡ bytes k turns g
bytes_put k turns g sound is = ap (filter is_byte) (outputs_shown k turns g sound is) ∙ bytes_of_shown k turns g

-- TWO RUNS

pub stretches : (a b : Stretch) → BeginEqual a b → EndEqual a b
stretches a b same =
    let sound : IsSound (begun a) = reached_sound a.scenario a.before in
    let other : IsSound (begun b) = reached_sound b.scenario b.before in
    let outs : outputs_in a ≡ outputs_in b = ap₂ outputs same.views same.inputs in
    record {
      views = two_runs (begun a) (begun b) a.turns b.turns a.guest b.guest sound other same.first same.second same.views same.inputs;
      outputs = outs;
      shown = sym (outputs_shown (begun a) a.turns a.guest sound same.first) ∙ (outs ∙ outputs_shown (begun b) b.turns b.guest other same.second);
      exits = sym (exits_raised (begun a) a.turns a.guest sound same.first) ∙ (ap (filter is_exit) outs ∙ exits_raised (begun b) b.turns b.guest other same.second);
      bytes = sym (bytes_put (begun a) a.turns a.guest sound same.first) ∙ (ap (filter is_byte) outs ∙ bytes_put (begun b) b.turns b.guest other same.second);
    }
