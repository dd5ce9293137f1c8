-- What the guest alone puts out over a run is what the turns show.
use Rattle.std.proofs.Common.{◌≡◌, ℕ, List, [], ◌∷◌, length, drop, ap, ap₂, sym, ◌∙◌, refl}
use Rattle.std.specs.Prelude.{◌%◌, ◌==◌, Bool, true, false, slice_get, Option, Some, None, option_and_then, option_map, if◌then◌else◌}
use Rattle.std.specs.List.{filter_map}
use Rattle.std.proofs.lemmas.List.{drop_at, length-set}
use Rattle.rv_model.specs.Step.{Store}
use Rattle.nova_guest.specs.Alone.{out_before, outputs}
use Rattle.nova_guest.specs.declared.guest.Guest.{Guest}
use Rattle.nova_guest.specs.declared.input.Input.{Input}
use Rattle.nova_guest.specs.declared.input.Out.{Out}
use Rattle.nova_guest.specs.declared.input.Out.TheVariants as out
use Rattle.nova_range.specs.Rights.{write_right}
use Rattle.nova_model.specs.AddressSpaces.{frame_for, stored_at}
use Rattle.nova_model.specs.Choice.{in_front}
use Rattle.nova_model.specs.Guests.{input, inputs}
use Rattle.nova_model.specs.Memory.{Memory, written_in}
use Rattle.nova_model.specs.Runs.{after, trace}
use Rattle.nova_model.specs.State.{KernelState}
use Rattle.nova_model.specs.Turn.{Step, turn}
use Rattle.nova_model.specs.Views.{view}
use Rattle.nova_model.specs.declared.event.Event.{Event}
use Rattle.nova_model.specs.AddressSpaces.{AddressSpace}
use Rattle.law_forest.specs.Effects.{memory_with}
use Rattle.law_forest.proofs.Turning.{after_keeps}
use Rattle.law_isolation.specs.Law.{PutsOut, PutsOutIn, answered, bytes_in, bytes_of, exit_in, raised_by}
use Rattle.law_isolation.specs.Shown.{acts_in, exits_in, raise_of, raises_in}
use Rattle.law_isolation.specs.Sound.{IsSound, IsVirtual}
use Rattle.law_isolation.proofs.Runs.{turn_is_one, turn_sound, turn_virtual}

outputs_front : (v : Guest) (i : Option Input) (is : List Input) → outputs v (in_front i is) ≡ out_before (answered v i).out (outputs (answered v i).guest is)
outputs_front v None is = refl
outputs_front v (Some i) is = refl

-- what a run puts out, after its first turn
pub outputs_next : (k : KernelState) (cpu : ℕ) (turns : List ℕ) (g : ℕ) → IsSound k → IsVirtual k g →
    outputs (view k g) (inputs k (cpu ∷ turns) g) ≡ out_before (answered (view k g) (input k cpu g)).out (outputs (view (after k cpu) g) (inputs (after k cpu) turns g))
outputs_next k cpu turns g sound is =
    outputs_front (view k g) (input k cpu g) (inputs (after k cpu) turns g)
    ∙ ap (λ (v : Guest). out_before (answered (view k g) (input k cpu g)).out (outputs v (inputs (after k cpu) turns g))) (sym (turn_is_one k cpu g sound is).guest)

-- EXITS

exits_front : (o : Option Out) (outs : List Out) → exits_in (out_before o outs) ≡ in_front (exit_in o) (exits_in outs)
exits_front None outs = refl
exits_front (Some (out.Exit reason q0 q1)) outs = refl
exits_front (Some (out.Byte frame value)) outs = refl

raises_front : (g : ℕ) (e : Option Event) (events : List Event) → raises_in g (in_front e events) ≡ in_front (option_and_then (raise_of g) e) (raises_in g events)
raises_front g None events = refl
raises_front g (Some e) events = by_raise (raise_of g e) refl
  where
    by_raise : (r : Option (ℕ × ℕ)) → raise_of g e ≡ r → filter_map (raise_of g) (e ∷ events) ≡ in_front r (raises_in g events)
    by_raise None is = rw is refl
    by_raise (Some r) is = rw is refl

pub exit_shown : (k new : KernelState) (g : ℕ) (s : Option Step) (o : Option Out) → PutsOutIn k new g s o → exit_in o ≡ option_and_then (raise_of g) (option_map (λ t. t.event) s)
exit_shown k new g None o puts = ap exit_in puts
exit_shown k new g (Some s) o puts = by_actor (s.event.ec == g) puts
  where
    by_actor : (t : Bool) → PutsOut t k new (s.event.kind, s.event.a, s.event.b) o → exit_in o ≡ (if t then raised_by (s.event.kind, s.event.a, s.event.b) else None)
    by_actor true h = sym h.event
    by_actor false h = ap exit_in h

pub exits_shown : (k : KernelState) (turns : List ℕ) (g : ℕ) → IsSound k → IsVirtual k g → exits_in (outputs (view k g) (inputs k turns g)) ≡ raises_in g (trace k turns)
exits_shown k [] g sound is = refl
exits_shown k (cpu ∷ turns) g sound is =
    let o : Option Out = (answered (view k g) (input k cpu g)).out in
    ap exits_in (outputs_next k cpu turns g sound is)
    ∙ (exits_front o (outputs (view (after k cpu) g) (inputs (after k cpu) turns g))
    ∙ (ap₂ (λ (x : Option (ℕ × ℕ)) (xs : List (ℕ × ℕ)). in_front x xs) (exit_shown k (after k cpu) g (turn k cpu) o (turn_is_one k cpu g sound is).output)
    (exits_shown (after k cpu) turns g (turn_sound k cpu sound) (turn_virtual k cpu g is))
    ∙ sym (raises_front g (option_map (λ t. t.event) (turn k cpu)) (trace (after k cpu) turns))))

-- of two runs
pub same_exits : (k l : KernelState) (turns others : List ℕ) (g h : ℕ) → IsSound k → IsSound l → IsVirtual k g → IsVirtual l h →
    view k g ≡ view l h → inputs k turns g ≡ inputs l others h → raises_in g (trace k turns) ≡ raises_in h (trace l others)
same_exits k l turns others g h sound sound_ is is_ views same =
    sym (exits_shown k turns g sound is) ∙ (ap₂ (λ (v : Guest) (ins : List Input). exits_in (outputs v ins)) views same ∙ exits_shown l others h sound_ is_)

-- FRAMES STAY AS MANY

stored_frames : (m : Memory) (s : Store) (f : ℕ) (b : Option (List ℕ)) → length (written_in m b f (s.address % 4096) s.width s.value).ram ≡ length m.ram
stored_frames m s f None = refl
stored_frames m s f (Some bytes) = length-set m.ram f _

memory_frames : (m : Memory) (p : Option (AddressSpace × Store)) → length (memory_with m p).ram ≡ length m.ram
memory_frames m None = refl
memory_frames m (Some (a, s)) = by_frame (frame_for a write_right s.address)
  where
    by_frame : (f : Option ℕ) → length (stored_at m s f).ram ≡ length m.ram
    by_frame None = refl
    by_frame (Some f) = stored_frames m s f (slice_get m.ram f)

pub turn_frames : (k : KernelState) (cpu : ℕ) → length (after k cpu).memory.ram ≡ length k.memory.ram
turn_frames k cpu =
    after_keeps (λ (s : KernelState). length s.memory.ram ≡ length k.memory.ram) (λ s c t e is same. memory_frames s.memory t.effect.store ∙ same) k cpu refl

-- BYTES

pub bytes_shown : (k new : KernelState) (g : ℕ) (s : Option Step) (o : Option Out) → PutsOutIn k new g s o →
    bytes_in o ≡ bytes_of (length k.memory.ram) (if acts_in s g then drop (length k.memory.log) new.memory.log else [])
bytes_shown k new g None o puts = ap bytes_in puts
bytes_shown k new g (Some s) o puts = by_actor (s.event.ec == g) puts
  where
    by_actor : (t : Bool) → PutsOut t k new (s.event.kind, s.event.a, s.event.b) o →
        bytes_in o ≡ bytes_of (length k.memory.ram) (if t then drop (length k.memory.log) new.memory.log else [])
    by_actor true h =
        let gained : drop (length k.memory.log) new.memory.log ≡ h.log.gained = ap (drop (length k.memory.log)) h.log.log ∙ drop_at k.memory.log h.log.gained (length k.memory.log) refl in
        sym (ap (bytes_of (length k.memory.ram)) gained ∙ h.log.bytes)
    by_actor false h = ap bytes_in h
