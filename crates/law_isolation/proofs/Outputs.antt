-- What a virtual CPU puts out in a turn of its own, as the kernel has it.
use Rattle.std.proofs.Common.{◌≡◌, ℕ, zero, suc, ◌+◌, ◌-◌, ◌%◌, ◌≤◌, List, [], ◌∷◌, ◌++◌, length, ap, sym, ◌∙◌, refl, arith}
use Rattle.std.specs.Prelude.{Bool, true, false, ◌==◌, slice_get, Option, Some, None, if◌then◌else◌}
use Rattle.std.proofs.lemmas.List.{append-nil}
use Rattle.rv_model.specs.Step.{Once, Raised, Went, Store}
use Rattle.nova_guest.specs.Alone.{byte_out, guest_space}
use Rattle.nova_guest.specs.Frames.{frame_from}
use Rattle.nova_guest.specs.declared.guest.Guest.{Guest}
use Rattle.nova_guest.specs.declared.input.Out.{Out}
use Rattle.nova_guest.specs.declared.input.Out.TheVariants as out
use Rattle.nova_range.specs.Rights.{write_right}
use Rattle.nova_model.specs.AddressSpaces.{AddressSpace, space, space_through, stored_at}
use Rattle.nova_model.specs.Deeds.{sign_of, address_space, instruction, stepped, done}
use Rattle.nova_model.specs.Memory.{Memory, written_in}
use Rattle.nova_model.specs.State.{KernelState, is_thread, pd_of}
use Rattle.nova_model.specs.Views.{view}
use Rattle.nova_model.specs.declared.deed.Deed.{Deed}
use Rattle.nova_model.specs.declared.deed.Deed.TheVariants.{Rests, Steps, Raises, Dies, Waits, Sends, Aborts}
use Rattle.nova_model.specs.declared.log.LogByte.{LogByte}
use Rattle.law_isolation.specs.Law.{bytes_in, exit_in, IsLogged, IsPutOut}
use Rattle.law_turns.proofs.Virtual.{virtual_alone}
use Rattle.law_isolation.proofs.Premises.{HasPremises, IsGuest}
use Rattle.law_isolation.proofs.Seen.{view_is}
use Rattle.law_isolation.proofs.Spaces.{space_same}

-- a virtual CPU is no thread, and has no words of its own
pub guest_no_thread : (k : KernelState) (g : ℕ) → IsGuest k g → is_thread k g ≡ false
guest_no_thread k g is = virtual_alone (slice_get k.objects g) is.object

-- the address space without words
abbrev pub wordless : KernelState → ℕ → AddressSpace
wordless k g = space_through k.delegations.list k.memory (pd_of k g) None

pub own_space : (k : KernelState) (g : ℕ) → IsGuest k g → address_space k g ≡ wordless k g
own_space k g is = ap (space_through k.delegations.list k.memory (pd_of k g)) (rw (guest_no_thread k g is) refl)

pub guest_sees : (k : KernelState) (g : ℕ) → HasPremises k → IsGuest k g → space (address_space k g) ≡ guest_space (view k g).maps (view k g).cells
guest_sees k g sound is =
    ap space (own_space k g is) ∙ (space_same k.delegations.list k.memory (pd_of k g) sound.forest.apart ∙ sym (ap (λ (v : Guest). guest_space v.maps v.cells) (view_is k g)))

-- WHAT IT PUTS OUT, AS THE KERNEL HAS IT

abbrev pub console_output : ℕ → ℕ → ℕ → Option (List ℕ) → Option Out
console_output frame offset value (Some bytes) = None
console_output frame offset value None = byte_out frame offset value

abbrev pub put_output : Memory → Store → Option ℕ → Option Out
put_output m s (Some frame) = console_output frame (s.address % 4096) s.value (slice_get m.ram frame)
put_output m s None = None

abbrev pub store_output : AddressSpace → Memory → Option Store → Option Out
store_output a m (Some s) = put_output m s (frame_from a.page write_right s.address)
store_output a m None = None

abbrev pub step_output : AddressSpace → Memory → Once → Option Out
step_output a m (Raised reason q0 q1) = None
step_output a m (Went regs store) = store_output a m store

abbrev pub own_output : KernelState → ℕ → Deed → Option Out
own_output k g Steps = step_output (address_space k g) k.memory (instruction k g)
own_output k g (Raises reason q0 q1) = Some (out.Exit reason q0 q1)
own_output k g other = None

-- it is in the event
byte_no_exit : (frame value : ℕ) (t : Bool) → exit_in (if t then Some (out.Byte frame value) else None) ≡ None
byte_no_exit frame value true = refl
byte_no_exit frame value false = refl

console_no_exit : (frame offset value : ℕ) (b : Option (List ℕ)) → exit_in (console_output frame offset value b) ≡ None
console_no_exit frame offset value (Some b) = refl
console_no_exit frame offset value None = byte_no_exit frame (value % 256) (offset == 0)

put_no_exit : (m : Memory) (s : Store) (f : Option ℕ) → exit_in (put_output m s f) ≡ None
put_no_exit m s None = refl
put_no_exit m s (Some f) = console_no_exit f (s.address % 4096) s.value (slice_get m.ram f)

step_no_exit : (a : AddressSpace) (m : Memory) (o : Once) → exit_in (step_output a m o) ≡ None
step_no_exit a m (Raised reason q0 q1) = refl
step_no_exit a m (Went regs None) = refl
step_no_exit a m (Went regs (Some s)) = put_no_exit m s (frame_from a.page write_right s.address)

-- it is in the log
nothing_more : (log : List LogByte) → log ≡ log ++ []
nothing_more log = sym (append-nil log)

nothing_logged : (frames : ℕ) (log : List LogByte) (o : Option Out) → bytes_in o ≡ [] → IsLogged frames log log o
nothing_logged frames log o none = record { gained = []; log = nothing_more log; bytes = sym none }

-- a frame that is no RAM is past it
none_past : (ram : List (List ℕ)) (f : ℕ) → slice_get ram f ≡ None → length ram ≤ f
none_past [] f h = omega arith
none_past (x ∷ xs) zero h = absurd (cc)
none_past (x ∷ xs) (suc f) h = let r = none_past xs f h in omega (arith, r)

byte_logged : (frames frame value : ℕ) (log : List LogByte) (t : Bool) → frames ≤ frame →
    IsLogged frames log (log ++ (if t then record { console = frame - frames; value = value } ∷ [] else [])) (if t then Some (out.Byte frame value) else None)
byte_logged frames frame value log true past =
    let is : frames + (frame - frames) ≡ frame = omega (arith, past) in
    record { gained = record { console = frame - frames; value = value } ∷ []; log = refl; bytes = ap (λ (f : ℕ). out.Byte f value ∷ []) is }
byte_logged frames frame value log false past = record { gained = []; log = refl; bytes = refl }

console_logged : (m : Memory) (f o w v : ℕ) (b : Option (List ℕ)) → slice_get m.ram f ≡ b → IsLogged (length m.ram) m.log (written_in m b f o w v).log (console_output f o v b)
console_logged m f o w v (Some b) is = nothing_logged (length m.ram) m.log None refl
console_logged m f o w v None is = byte_logged (length m.ram) f (v % 256) m.log (o == 0) (none_past m.ram f is)

put_logged : (m : Memory) (s : Store) (f : Option ℕ) → IsLogged (length m.ram) m.log (stored_at m s f).log (put_output m s f)
put_logged m s None = nothing_logged (length m.ram) m.log None refl
put_logged m s (Some f) = console_logged m f (s.address % 4096) s.width s.value (slice_get m.ram f) refl

step_logged : (k : KernelState) (g : ℕ) (o : Once) →
    IsLogged (length k.memory.ram) k.memory.log (stepped k g o).memory.log (step_output (address_space k g) k.memory o)
step_logged k g (Raised reason q0 q1) = nothing_logged (length k.memory.ram) k.memory.log None refl
step_logged k g (Went regs None) = nothing_logged (length k.memory.ram) k.memory.log None refl
step_logged k g (Went regs (Some s)) = put_logged k.memory s (frame_from (address_space k g).page write_right s.address)

-- deeds of a virtual CPU
abbrev pub IsOwn : Deed → Type 0
IsOwn Rests = Unit {0}
IsOwn Steps = Unit {0}
IsOwn (Raises reason q0 q1) = Unit {0}
IsOwn (Dies reason q0) = Unit {0}
IsOwn (Waits handler reason q0 q1) = Unit {0}
IsOwn (Sends handler ip identifier mtd reason q0 q1) = Unit {0}
IsOwn (Aborts handler mark) = Unit {0}
IsOwn other = ⊥

pub put_out : (k : KernelState) (g : ℕ) (d : Deed) → IsOwn d → IsPutOut k (done k g d) (sign_of d) (own_output k g d)
put_out k g Rests own = record { event = refl; log = nothing_logged (length k.memory.ram) k.memory.log None refl }
put_out k g Steps own = record { event = sym (step_no_exit (address_space k g) k.memory (instruction k g)); log = step_logged k g (instruction k g) }
put_out k g (Raises reason q0 q1) own = record { event = refl; log = nothing_logged (length k.memory.ram) k.memory.log (Some (out.Exit reason q0 q1)) refl }
put_out k g (Dies reason q0) own = record { event = refl; log = nothing_logged (length k.memory.ram) k.memory.log None refl }
put_out k g (Waits handler reason q0 q1) own = record { event = refl; log = nothing_logged (length k.memory.ram) k.memory.log None refl }
put_out k g (Sends handler ip identifier mtd reason q0 q1) own = record { event = refl; log = nothing_logged (length k.memory.ram) k.memory.log None refl }
put_out k g (Aborts handler mark) own = record { event = refl; log = nothing_logged (length k.memory.ram) k.memory.log None refl }
put_out k g other own = absurd own
