-- What the lines that set something say of the state that a kernel begins in.
use Rattle.std.specs.Prelude.{◌≡◌, ◌≢◌, ℕ, ◌+◌, ◌^◌, List, [], ◌∷◌, length, slice_get, Option, Some, None, Ok}
use Rattle.rv_model.specs.Registers.{reg}
use Rattle.nova_elf.specs.Executable.{program}
use Rattle.nova_elf.specs.declared.program.Program.{Program}
use Rattle.nova_model.specs.State.{KernelState, budget_at, context}
use Rattle.nova_objects.specs.declared.object.Object.TheVariants.{Sc}
use Rattle.nova_scenario.specs.Digits.{elf_bytes}
use Rattle.nova_scenario.specs.Items.{Block, Item, FaultyLine, SettingLine, SourceLine, ImageBlock}
use Rattle.nova_scenario.specs.declared.statement.Form.{Form}
use Rattle.nova_scenario.specs.declared.statement.Form.TheVariants as form
use Rattle.nova_scenario.specs.declared.statement.Head.{Head}
use Rattle.nova_scenario.specs.declared.statement.Setting.{Setting}
use Rattle.nova_scenario.specs.declared.statement.Setting.TheVariants.{Cpus, Ram, Consoles, Root}
use Rattle.nova_scenario.specs.declared.statement.Start.{Start}
use Rattle.nova_scenario.specs.declared.statement.Start.TheVariants.{Address, Entry}

-- the first block of an executable among some items
abbrev pub or_later : Form → Head → Block → Option (Head × Block) → Option (Head × Block)
or_later form.Hex head block later = later
or_later form.Asm head block later = later
or_later form.Elf head block later = Some (head, block)

abbrev pub first_executable : List Item → Option (Head × Block)
first_executable [] = None
first_executable (FaultyLine line why ∷ more) = first_executable more
first_executable (SettingLine line setting ∷ more) = first_executable more
first_executable (SourceLine line head ∷ more) = first_executable more
first_executable (ImageBlock head block ∷ more) = or_later head.form head block (first_executable more)

-- there is one, with an address and bytes that are a program, whose entry counts from that address
pub record IsEntry (found : Option (Head × Block)) (pc : ℕ) : Type 0 where
  pub head : Head
  pub block : Block
  pub first : found ≡ Some (head, block)
  pub address : ℕ
  pub there : head.address ≡ Some address
  pub file : List ℕ
  pub bytes : elf_bytes block.lines ≡ Ok file
  pub of : Program
  pub is : program file ≡ Ok of
  pub pc_is : pc ≡ address + of.entry

-- where the first thread starts: at an address, or at the entry of the first executable, which stands after its line
abbrev pub StartsAt : Start → List Item → ℕ → Type 0
StartsAt (Address n) later pc = n ≡ Some pc
StartsAt Entry later pc = IsEntry (first_executable later) pc

-- the root's thread, object 1, and its scheduling context, object 2
pub record IsRoot (k : KernelState) (later : List Item) (start : Start) (sp priority quantum : Option ℕ) : Type 0 where
  pub starts : StartsAt start later (context k 1).regs.pc
  pub stack : sp ≡ Some (reg (context k 1).regs 2)
  pub zeros : (n : ℕ) → n ≢ 2 → reg (context k 1).regs n ≡ 0
  pub rank : ℕ
  pub turns : ℕ
  pub rank_is : priority ≡ Some rank
  pub turns_are : quantum ≡ Some turns
  pub pays : slice_get k.objects 2 ≡ Some (Sc 1 0 rank turns)
  pub full : budget_at k 2 ≡ Some (record { left = turns; stamp = 0; ticks = 0 })

-- what a line that sets something says, before the items after it
abbrev pub IsTold : KernelState → List Item → Setting → Type 0
IsTold k later (Cpus n) = n ≡ Some k.cpus
IsTold k later (Ram m) = (order : ℕ) × (m ≡ Some order) × (length k.memory.ram ≡ 2 ^ order)
IsTold k later (Consoles c) = c ≡ Some k.consoles
IsTold k later (Root start sp priority quantum) = IsRoot k later start sp priority quantum

-- each line does
abbrev pub AreTold : KernelState → List Item → Type 0
AreTold k [] = Unit {0}
AreTold k (FaultyLine line why ∷ more) = AreTold k more
AreTold k (SettingLine line setting ∷ more) = IsTold k more setting × AreTold k more
AreTold k (SourceLine line head ∷ more) = AreTold k more
AreTold k (ImageBlock head block ∷ more) = AreTold k more
