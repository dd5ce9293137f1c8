-- What a kernel begins with is what the lines set.
use Rattle.std.proofs.Common.{◌≡◌, ◌≢◌, ℕ, zero, suc, ◌+◌, ◌/◌, ◌%◌, ◌^◌, ◌==◌, Bool, true, false, List, [], ◌∷◌, ◌++◌, length, replicate, get_or, slice_get, slice_set, Option, Some, None, refl, ap, sym, ◌∙◌, subst}
use Rattle.std.specs.Prelude.{if◌then◌else◌, slice_index, Ok}
use Rattle.std.proofs.lemmas.List.{get_or-set_other, length-replicate, length-set}
use Rattle.rv_model.specs.Registers.{reg}
use Rattle.nova_model.specs.Boot.{Image, Scenario, bare, boot, laid, root_context, root_registers, with_image, with_images}
use Rattle.nova_model.specs.Memory.{Memory, written, written_in}
use Rattle.nova_model.specs.Sources.{Source, with_source, with_sources}
use Rattle.nova_model.specs.State.{KernelState, context, context_in, entry}
use Rattle.nova_model.specs.declared.context.EcState.{EcState}
use Rattle.nova_model.specs.declared.root.Root.{Root}
use Rattle.nova_objects.specs.declared.object.Object.TheVariants.{Sc}
use Rattle.nova_text.specs.Line.{lines}
use Rattle.nova_scenario.specs.Items.{Item, FaultyLine, SettingLine, SourceLine, ImageBlock, items}
use Rattle.nova_scenario.specs.Scenario.{scenario}
use Rattle.nova_scenario.specs.declared.scenario.Scenario.{Scenario as ScenarioText}
use Rattle.nova_scenario.specs.declared.statement.Setting.{Setting}
use Rattle.nova_scenario.specs.declared.statement.Setting.TheVariants.{Cpus, Ram, Consoles, Root as RootLine}
use Rattle.nova_scenario.specs.declared.statement.Start.{Start}
use Rattle.nova_boot.specs.Boot.{scenario_of}
use Rattle.nova_boot.proofs.Started.{boot_cpus}
use Rattle.law_isolation.proofs.Ranges.{sources_frames as sources_memory}
use Rattle.law_texts.specs.Settings.{AreTold, IsRoot, IsTold, StartsAt}
use Rattle.law_texts.proofs.Told.{AreSaid, IsRootSaid, IsSaid, lines_said}

get_front : {A : Type 0} (xs ys : List A) (i : ℕ) (x : A) → slice_get xs i ≡ Some x → slice_get (xs ++ ys) i ≡ Some x
get_front [] ys i x is = cc
get_front (y ∷ xs) ys zero x is = is
get_front (y ∷ xs) ys (suc i) x is = get_front xs ys i x is

-- the root's thread, its scheduling context with its budget, and the consoles
record HasRoot (root : Root) (consoles : ℕ) (k : KernelState) : Type 0 where
  thread : slice_get k.contexts 1 ≡ Some (Some (root_context root))
  pays : slice_get k.objects 2 ≡ Some (Sc 1 0 root.priority root.quantum)
  full : slice_get k.budgets 2 ≡ Some (Some (record { left = root.quantum; stamp = 0; ticks = 0 }))
  there : k.consoles ≡ consoles

images_root : (k : KernelState) (images : List Image) (root : Root) (c : ℕ) → HasRoot root c k → HasRoot root c (with_images k images)
images_root k [] root c has = has
images_root k (image ∷ images) root c has =
    images_root (with_image k image) images root c (record { thread = has.thread; pays = has.pays; full = has.full; there = has.there })

sources_root : (k : KernelState) (sources : List Source) (root : Root) (c : ℕ) → HasRoot root c k → HasRoot root c (with_sources k sources)
sources_root k [] root c has = has
sources_root k (s ∷ sources) root c has =
    sources_root (with_source k s) sources root c (record {
      thread = get_front k.contexts _ 1 _ has.thread;
      pays = get_front k.objects _ 2 _ has.pays;
      full = get_front k.budgets _ 2 _ has.full;
      there = has.there;
    })

boot_root : (s : Scenario) → HasRoot s.root s.consoles (boot s)
boot_root s =
    let k = bare s.cpus s.ram s.consoles s.root in
    sources_root (with_images k s.images) s.sources s.root s.consoles
    (images_root k s.images s.root s.consoles (record { thread = refl; pays = refl; full = refl; there = refl }))

-- HOW MANY FRAMES

stored_ram : (m : Memory) (o : Option (List ℕ)) (frame offset value : ℕ) → length (written_in m o frame offset 1 value).ram ≡ length m.ram
stored_ram m (Some bytes) frame offset value = length-set m.ram frame _
stored_ram m None frame offset value = refl

laid_ram : (m : Memory) (address : ℕ) (bytes : List ℕ) → length (laid m address bytes).ram ≡ length m.ram
laid_ram m address [] = refl
laid_ram m address (b ∷ bs) =
    laid_ram (written m (address / 4096) (address % 4096) 1 b) (address + 1) bs ∙ stored_ram m (slice_get m.ram (address / 4096)) (address / 4096) (address % 4096) b

images_ram : (k : KernelState) (images : List Image) → length (with_images k images).memory.ram ≡ length k.memory.ram
images_ram k [] = refl
images_ram k (image ∷ images) = images_ram (with_image k image) images ∙ laid_ram k.memory image.address image.bytes

boot_ram : (s : Scenario) → length (boot s).memory.ram ≡ 2 ^ s.ram
boot_ram s =
    let k = bare s.cpus s.ram s.consoles s.root in
    let zeros : List ℕ = replicate 4096 0 in
    ap (λ (m : Memory). length m.ram) (sources_memory (with_images k s.images) s.sources) ∙ images_ram k s.images ∙ length-replicate (2 ^ s.ram) zeros

-- THE ROOT'S REGISTERS

stack_is : (root : Root) → reg (root_registers root) 2 ≡ root.sp
stack_is root = refl

abbrev zeros : ℕ → List ℕ
zeros m = replicate m 0

all_zero : (m n : ℕ) → get_or (zeros m) n 0 ≡ 0
all_zero zero n = refl
all_zero (suc m) zero = refl
all_zero (suc m) (suc n) = all_zero m n

value_zero : (b : Bool) (v : ℕ) → v ≡ 0 → (if b then 0 else v) ≡ 0
value_zero true v is = refl
value_zero false v is = is

others_zero : (root : Root) (n : ℕ) → n ≢ 2 → reg (root_registers root) n ≡ 0
others_zero root n other =
    value_zero (n == 0) (slice_index (slice_set (zeros 32) 2 root.sp) n) (get_or-set_other (zeros 32) 2 n root.sp 0 other ∙ all_zero 32 n)

module _ (s : ScenarioText) where
  abbrev k : KernelState
  k = boot (scenario_of s)

  has : HasRoot (scenario_of s).root s.consoles k
  has = boot_root (scenario_of s)

  thread_is : context k 1 ≡ root_context (scenario_of s).root
  thread_is = ap (λ o. context_in (entry o)) has.thread

  root_told : (later : List Item) (start : Start) (sp priority quantum : Option ℕ) → IsRootSaid s later start sp priority quantum → IsRoot k later start sp priority quantum
  root_told later start sp priority quantum said = record {
    starts = subst (StartsAt start later) (sym (ap (λ (x : EcState). x.regs.pc) thread_is)) said.starts;
    stack = said.stack ∙ ap Some (sym (ap (λ (x : EcState). reg x.regs 2) thread_is));
    zeros = λ n other. ap (λ (x : EcState). reg x.regs n) thread_is ∙ others_zero (scenario_of s).root n other;
    rank = s.priority;
    turns = s.quantum;
    rank_is = said.rank;
    turns_are = said.turns;
    pays = has.pays;
    full = ap entry has.full;
  }

  line_told : (later : List Item) (setting : Setting) → IsSaid s later setting → IsTold k later setting
  line_told later (Cpus n) said = said ∙ ap Some (sym (boot_cpus (scenario_of s)))
  line_told later (Ram m) said = (s.ram, said, boot_ram (scenario_of s))
  line_told later (Consoles c) said = said ∙ ap Some (sym has.there)
  line_told later (RootLine start sp priority quantum) said = root_told later start sp priority quantum said

  all_told : (its : List Item) → AreSaid s its → AreTold k its
  all_told [] said = tt
  all_told (FaultyLine line why ∷ its) said = all_told its said
  all_told (SettingLine line setting ∷ its) said = (line_told its setting said.0, all_told its said.1)
  all_told (SourceLine line head ∷ its) said = all_told its said
  all_told (ImageBlock head block ∷ its) said = all_told its said

pub told : (bytes : List ℕ) (s : ScenarioText) → scenario bytes ≡ Ok s → AreTold (boot (scenario_of s)) (items false (lines bytes))
told bytes s is = all_told s (items false (lines bytes)) (lines_said bytes s is)
