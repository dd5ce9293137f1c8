-- The state in which a kernel begins.
use Rattle.std.specs.Prelude.{false, ℕ, ◌+◌, ◌/◌, ◌%◌, ◌^◌, List, [], ◌∷◌, ◌++◌, replicate, map, Some, None}
use Rattle.std.specs.List.{range_with_len}
use Rattle.rv_model.specs.Registers.{Registers, with_reg}
use Rattle.nova_model.specs.Memory.{Memory, written}
use Rattle.nova_model.specs.Sources.{Source, with_sources}
use Rattle.nova_model.specs.State.{KernelState, no_transfer, no_words}
use Rattle.nova_model.specs.declared.delegation.Derivation.{Derivation}
use Rattle.nova_range.specs.declared.range.Kind.TheVariants.{Mem, Obj}
use Rattle.nova_range.specs.declared.rights.Rights.{Rights}
use Rattle.nova_objects.specs.declared.object.Object.{Object}
use Rattle.nova_objects.specs.declared.object.Object.TheVariants.{Pd, Ec, Sc}
use Rattle.nova_objects.specs.declared.object.EcKind.TheVariants.{Global}
use Rattle.nova_model.specs.declared.context.EcState.{EcState}
use Rattle.nova_model.specs.declared.context.State.TheVariants.{Ready}
use Rattle.nova_model.specs.declared.root.Root.{Root}

-- words that lie in memory from an address on, as their bytes
pub record Image : Type 0 where
  pub address : ℕ
  pub bytes : List ℕ

-- what a kernel is started with: processors, the order of the number of RAM frames, consoles, the root, the images, and the sources
pub record Scenario : Type 0 where
  pub cpus : ℕ
  pub ram : ℕ
  pub consoles : ℕ
  pub root : Root
  pub images : List Image
  pub sources : List Source

-- the objects: 0 the root's protection domain, 1 its execution context, a thread with event base 16, and 2 its scheduling context
abbrev pub root_objects : Root → List Object
root_objects root = Pd ∷ Ec 0 0 Global 16 ∷ Sc 1 0 root.priority root.quantum ∷ []

-- the registers: pc, and the stack pointer in x2
abbrev pub root_registers : Root → Registers
root_registers root = with_reg (record { pc = root.pc; x = replicate 32 0 }) 2 root.sp

abbrev pub root_context : Root → EcState
root_context root = record { id = 1; cpu = 0; state = Ready; regs = root_registers root; caller = None; recall = false }

abbrev pub rights_of : ℕ → Rights
rights_of bits = record { 0 = bits }

-- all RAM frames, read, write and execute
abbrev pub ram_derivation : ℕ → Derivation
ram_derivation order =
    record { id = 0; pd = 0; kind = Mem; base = 0; order = order; rights = rights_of 7; target = 0; parent = None }

-- console c: the page and the frame after RAM and the consoles before it, read and write
abbrev pub console_derivation : ℕ → ℕ → Derivation
console_derivation order c =
    record { id = 1 + c; pd = 0; kind = Mem; base = 2 ^ order + c; order = 0; rights = rights_of 3; target = 2 ^ order + c; parent = None }

-- an object of the root's, at the selector of its number
abbrev pub object_derivation : ℕ → ℕ → ℕ → Derivation
object_derivation consoles object rights =
    record { id = 1 + consoles + object; pd = 0; kind = Obj; base = object; order = 0; rights = rights_of rights; target = object; parent = None }

abbrev pub root_derivations : ℕ → ℕ → List Derivation
root_derivations order consoles =
    (ram_derivation order ∷ map (console_derivation order) (range_with_len 0 consoles))
    ++ (object_derivation consoles 0 1 ∷ object_derivation consoles 1 7 ∷ object_derivation consoles 2 1 ∷ [])

-- the state without images
abbrev pub bare : ℕ → ℕ → ℕ → Root → KernelState
bare cpus ram consoles root = record {
  delegations = record { list = root_derivations ram consoles; next = consoles + 4 };
  objects = root_objects root;
  contexts = None ∷ Some (root_context root) ∷ None ∷ [];
  messages = None ∷ Some no_words ∷ None ∷ [];
  transfers = None ∷ Some no_transfer ∷ None ∷ [];
  budgets = None ∷ None ∷ Some (record { left = root.quantum; stamp = 0; ticks = 0 }) ∷ [];
  identifiers = None ∷ None ∷ None ∷ [];
  semaphores = None ∷ None ∷ None ∷ [];
  memory = record { ram = replicate (2 ^ ram) (replicate 4096 0); log = [] };
  next_stamp = 1;
  turns = 0;
  cpus = cpus;
  consoles = consoles;
  stirs = record { guests = None ∷ None ∷ None ∷ []; processors = replicate cpus 0 };
  times = record { clocks = replicate cpus 0; deadlines = None ∷ None ∷ None ∷ []; alarms = [] };
}

-- bytes laid into RAM one after another from an address on
abbrev pub laid : Memory → ℕ → List ℕ → Memory
laid m address [] = m
laid m address (b ∷ bs) = laid (written m (address / 4096) (address % 4096) 1 b) (address + 1) bs

abbrev pub with_image : KernelState → Image → KernelState
with_image k image = record k { memory = laid k.memory image.address image.bytes }

abbrev pub with_images : KernelState → List Image → KernelState
with_images k [] = k
with_images k (image ∷ images) = with_images (with_image k image) images

-- the state that a scenario begins in: the images are written, and then the sources are made
abbrev pub boot : Scenario → KernelState
boot s = with_sources (with_images (bare s.cpus s.ram s.consoles s.root) s.images) s.sources
