-- What is known of a side of a run.
use Rattle.std.proofs.Common.{◌≡◌, ℕ, zero, suc, List, [], ◌∷◌, ◌++◌, length, ap, ap₂, sym, ◌∙◌, subst, refl, arith}
use Rattle.std.specs.Prelude.{true, replicate, slice_get, Option, Some, None, option_map}
use Rattle.std.specs.List.{All}
use Rattle.std.proofs.lemmas.List.{length-replicate}
use Rattle.rv_model.specs.Registers.{Registers, with_reg}
use Rattle.law_forest.specs.Effects.{all_edited, joined}
use Rattle.law_forest.specs.Turns.{Idles, Takes}
use Rattle.law_forest.proofs.Turning.{comes, run_keeps}
use Rattle.nova_guest.specs.Alone.{alone, outputs}
use Rattle.nova_guest.specs.Conditions.{IsGuest, IsInput}
use Rattle.nova_guest.specs.declared.guest.Guest.{Guest}
use Rattle.law_isolation.specs.Shown.{shown}
use Rattle.law_isolation.specs.Sound.{AreRanges, IsSound, IsVirtual}
use Rattle.law_isolation.proofs.Admitted.{inputs_admitted}
use Rattle.law_isolation.proofs.Instructions.{length_reg}
use Rattle.law_isolation.proofs.Ranges.{boot_ranges, turn_ranges, view_guest}
use Rattle.law_isolation.proofs.Runs.{boot_sound, run_alone, turn_sound}
use Rattle.law_isolation.proofs.Showing.{turn_frames}
use Rattle.law_turns.proofs.Courses.{edited_length}
use Rattle.law_turns.proofs.Passes.{run_append}
use Rattle.nova_model.specs.Boot.{Scenario, boot}
use Rattle.nova_model.specs.Capabilities.{is_vcpu}
use Rattle.nova_model.specs.Creation.{context_of, object_of}
use Rattle.nova_model.specs.Guests.{inputs}
use Rattle.nova_model.specs.Runs.{after, run}
use Rattle.nova_model.specs.State.{Contexts, KernelState, context, context_in, ec_of}
use Rattle.nova_model.specs.Views.{view}
use Rattle.nova_model.specs.declared.new_object.NewObject.{NewObject}
use Rattle.nova_model.specs.declared.new_object.NewObject.TheVariants as new
use Rattle.nova_objects.specs.declared.object.Object.{Object}
use Rattle.law_origins.specs.Lives.{AreGuestsAlone, IsMade, born}
use Rattle.nova_twin.specs.Comparison.{ram_of}
use Rattle.nova_twin.specs.Sides.{IsBeginning, IsSide}
use Rattle.nova_twin.specs.Steps.{AreRegisters, IsAdmitted}
use Rattle.nova_twin.specs.declared.side.Side.{Side}

-- WHAT HOLDS ALONG RUNS
pub record IsReached (k : KernelState) : Type 0 where
  pub sound : IsSound k
  pub ranges : AreRanges k

begins_so : (k : KernelState) → IsBeginning k → IsReached k
begins_so k b = subst IsReached (sym b.is) (record { sound = boot_sound b.scenario; ranges = boot_ranges b.scenario b.ram b.consoles b.few })

turn_reached : (k : KernelState) (cpu : ℕ) → IsReached k → IsReached (after k cpu)
turn_reached k cpu r = record { sound = turn_sound k cpu r.sound; ranges = turn_ranges k cpu r.sound r.ranges }

pub run_reached : (k : KernelState) (turns : List ℕ) → IsBeginning k → IsReached (run k turns)
run_reached k turns b = run_keeps IsReached turn_reached k turns (begins_so k b)

run_frames : (k : KernelState) (turns : List ℕ) → length (run k turns).memory.ram ≡ length k.memory.ram
run_frames k [] = refl
run_frames k (cpu ∷ turns) = run_frames (after k cpu) turns ∙ turn_frames k cpu

-- THE REGISTERS OF A VIRTUAL CPU THAT IS MADE
begun_registers : (r : Registers) (sp : ℕ) → r.x ≡ replicate 32 0 → AreRegisters (with_reg r 2 sp)
begun_registers r sp is = record {
  count = length_reg r 2 sp ∙ (ap length is ∙ length-replicate {A = ℕ} 32 0);
  first = rw is refl;
}

new_registers : (number : ℕ) (made : NewObject) → option_map is_vcpu (Some (object_of made)) ≡ Some true → AreRegisters (context_in (context_of number made)).regs
new_registers number (new.Ec pd cpu kind sp event) is = begun_registers (record { pc = 0; x = replicate 32 0 }) sp refl
new_registers number new.Pd is = absurd (cc)
new_registers number (new.Sc ec cpu priority quantum) is = absurd (cc)
new_registers number (new.Pt ec mtd ip) is = absurd (cc)
new_registers number (new.Sm count) is = absurd (cc)

last_registers : (os : List Object) (cs : Contexts) (number : ℕ) (made : NewObject) (g : ℕ) → length cs ≡ length os → slice_get os g ≡ None →
    option_map is_vcpu (slice_get (os ++ object_of made ∷ []) g) ≡ Some true → AreRegisters (ec_of (cs ++ context_of number made ∷ []) g).regs
last_registers [] [] number made zero many none is = new_registers number made is
last_registers [] [] number made (suc g) many none is = absurd (cc)
last_registers [] (c ∷ cs) number made g many none is = absurd (omega (arith, many))
last_registers (o ∷ os) [] number made g many none is = absurd (omega (arith, many))
last_registers (o ∷ os) (c ∷ cs) number made zero many none is = absurd (cc)
last_registers (o ∷ os) (c ∷ cs) number made (suc g) many none is = last_registers os cs number made g (omega (arith, many)) none is

made_registers : (os : List Object) (cs : Contexts) (number : ℕ) (made : Option NewObject) (g : ℕ) → length cs ≡ length os → slice_get os g ≡ None →
    option_map is_vcpu (slice_get (joined os (option_map object_of made)) g) ≡ Some true → AreRegisters (ec_of (joined cs (option_map (context_of number) made)) g).regs
made_registers os cs number None g many none is = absurd (let both : None ≡ Some true = ap (option_map is_vcpu) (sym none) ∙ is in cc)
made_registers os cs number (Some made) g many none is = last_registers os cs number made g many none is

pub born_registers : (k : KernelState) (cpu g : ℕ) → IsSound k → slice_get k.objects g ≡ None → IsVirtual (after k cpu) g → AreRegisters (context (after k cpu) g).regs
born_registers k cpu g sound none is = elim (comes k cpu) [
  | Idles chosen ahead same answer ↦ absurd (let both : None ≡ Some true = ap (option_map is_vcpu) (sym none) ∙ (ap (λ (s : KernelState). option_map is_vcpu (slice_get s.objects g)) (sym same) ∙ is) in cc)
  | Takes t e takes state answer ↦
      subst (λ (s : KernelState). AreRegisters (context s g).regs) (sym state)
      (made_registers k.objects (all_edited k.contexts t.effect.edits) (length k.objects) t.effect.made g
      (edited_length k.contexts t.effect.edits ∙ sound.whole.places) none
      (ap (λ (s : KernelState). option_map is_vcpu (slice_get s.objects g)) (sym state) ∙ is))
]

view_registers : (k : KernelState) (g : ℕ) → AreRegisters (context k g).regs → AreRegisters (view k g).regs
unfolding view
view_registers k g h = h

-- A SIDE

-- that all is what the guest alone makes of it
abbrev pub Lives : Type 0
Lives = (s : Scenario) (turns : List ℕ) → AreGuestsAlone (boot s) turns

pub record Known (side : Side) (ram : ℕ) : Type 0 where
  pub state : KernelState
  pub turns : List ℕ
  pub guest : ℕ
  pub reached : IsReached state
  pub there : IsVirtual state guest
  pub frames : length state.memory.ram ≡ ram
  pub start : side.start ≡ view state guest
  pub inputs : side.inputs.items ≡ inputs state turns guest
  pub registers : AreRegisters side.start.regs
  pub last : side.end ≡ alone side.start side.inputs.items
  pub outs : side.outs.items ≡ outputs side.start side.inputs.items

module _ (k : KernelState) (b : IsBeginning k) (turns : List ℕ) (g : ℕ) (m : IsMade k turns g) where
  abbrev at_birth : KernelState
  at_birth = born k turns g m

  pub birth_reached : IsReached at_birth
  birth_reached = turn_reached (run k m.before) m.cpu (run_reached k m.before b)

  birth_frames : length at_birth.memory.ram ≡ length k.memory.ram
  birth_frames = turn_frames (run k m.before) m.cpu ∙ run_frames k m.before

  pub birth_registers : AreRegisters (view at_birth g).regs
  birth_registers = view_registers at_birth g (born_registers (run k m.before) m.cpu g (run_reached k m.before b).sound m.none m.made)

  at_end : run k turns ≡ run at_birth m.later
  at_end = ap (run k) m.whole ∙ run_append k m.before (m.cpu ∷ m.later)

  pub ends_alone : view (run k turns) g ≡ alone (view at_birth g) (inputs at_birth m.later g)
  ends_alone = ap (λ (s : KernelState). view s g) at_end ∙ run_alone at_birth m.later g birth_reached.sound m.made

  abbrev Shows : KernelState → Type 0
  Shows s = (n : IsMade s turns g) → outputs (view (born s turns g n) g) (inputs (born s turns g n) n.later g) ≡ shown s turns g

  pub shows_alone : Lives → outputs (view at_birth g) (inputs at_birth m.later g) ≡ shown k turns g
  shows_alone lives = subst Shows (sym b.is) (λ n. ((lives b.scenario turns).alone g n).shows) m

pub known : Lives → (side : Side) (s : IsSide side) → Known side (ram_of side s)
known lives side s =
    let k = s.opening in
    let m = s.is.made in
    record {
      state = born k s.turns s.guest m;
      turns = m.later;
      guest = s.guest;
      reached = birth_reached k s.begins s.turns s.guest m;
      there = m.made;
      frames = birth_frames k s.begins s.turns s.guest m;
      start = s.is.start;
      inputs = s.is.inputs;
      registers = subst (λ (v : Guest). AreRegisters v.regs) (sym s.is.start) (birth_registers k s.begins s.turns s.guest m);
      last = s.is.last ∙ (ends_alone k s.begins s.turns s.guest m ∙ ap₂ alone (sym s.is.start) (sym s.is.inputs));
      outs = s.is.outs ∙ (sym (shows_alone k s.begins s.turns s.guest m lives) ∙ ap₂ outputs (sym s.is.start) (sym s.is.inputs));
    }

pub admitted : (side : Side) (ram : ℕ) → Known side ram → IsAdmitted side
admitted side ram x = record {
  guest = subst IsGuest (sym x.start) (view_guest x.state x.guest x.reached.sound x.reached.ranges);
  inputs = subst (All IsInput) (sym x.inputs) (inputs_admitted x.state x.turns x.guest x.reached.sound x.reached.ranges);
  registers = x.registers;
}
