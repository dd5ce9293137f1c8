-- What the reader answers.
use Rattle.std.specs.Prelude.{◌≡◌, ◌≢◌, ℕ, Bool, true, List, false, Result, Ok, Err}
use Rattle.nova_text.specs.Line.{Row}
use Rattle.nova_scenario.specs.Fault.{At}
use Rattle.nova_scenario.specs.Images.{Draft}
use Rattle.nova_scenario.specs.Items.{items}
use Rattle.nova_scenario.specs.Scenario.{begins_image, read_items}
use Rattle.nova_scenario.specs.declared.fault.ScenarioFault.{ScenarioFault}
use Rattle.nova_scenario.specs.declared.fault.ScenarioFault.TheVariants.{At as AtLine, Memory}
use Rattle.nova_scenario.specs.declared.fault.Why.{Why}
use Rattle.nova_scenario.specs.declared.fault.Why.TheVariants.{Asm, Elf}
use Rattle.nova_elf.specs.declared.fault.ElfFault.TheVariants.{Memory as ElfMemory}
use Rattle.rv_asm.specs.declared.fault.AsmFault.TheVariants.{Memory as AsmMemory}
use Rattle.nova_scenario.specs.declared.scenario.Scenario.{Scenario}

-- a fault is that which is wanted. Want of memory may be answered instead of anything
abbrev pub IsFault : {A : Type 0} → Result A At → ScenarioFault → Type 0
IsFault wanted (AtLine line why) = wanted ≡ Err (record { line = line; why = why })
IsFault wanted Memory = Unit {0}

-- what was found, as it is seen, is what is wanted
abbrev pub Gives : {A B : Type 0} → (A → B) → Result B At → Result A ScenarioFault → Type 0
Gives seen wanted (Ok found) = wanted ≡ Ok (seen found)
Gives seen wanted (Err fault) = IsFault wanted fault

abbrev pub IsRead : Result Scenario At → Result Scenario ScenarioFault → Type 0
IsRead wanted result = Gives (λ scenario. scenario) wanted result

-- what is changed in place becomes what is wanted; after a fault it may be anything
abbrev pub Becomes : {A : Type 0} → Result A Why → A → Result (Unit {0}) Why → Type 0
Becomes wanted new (Ok done) = wanted ≡ Ok new
Becomes wanted new (Err why) = wanted ≡ Err why

abbrev pub BecomesAt : {A : Type 0} → Result A At → A → Result (Unit {0}) ScenarioFault → Type 0
BecomesAt wanted new result = Gives (λ done. new) wanted result

-- the Memory of a part never stands in a fault of a line
abbrev pub KeepsMemoryApart : ScenarioFault → Type 0
KeepsMemoryApart (AtLine line why) = (why ≢ Asm AsmMemory) × (why ≢ Elf ElfMemory)
KeepsMemoryApart Memory = Unit {0}

-- Memory comes only where memory is taken
abbrev pub IsMemoryOnlyIf : Bool → ScenarioFault → Type 0
IsMemoryOnlyIf takes (AtLine line why) = Unit {0}
IsMemoryOnlyIf takes Memory = takes ≡ true

-- of an image: it takes memory if it begins
abbrev pub TakesIf : Bool → Result (Unit {0}) ScenarioFault → Type 0
TakesIf takes (Ok done) = takes ≡ true
TakesIf takes (Err fault) = IsMemoryOnlyIf takes fault

-- of a draft with the lines that are left: where the rest takes memory, so did all
abbrev pub takes_rest : Draft → List Row → Bool
takes_rest draft rows = begins_image draft (items false rows)

abbrev pub TakesOn : Draft → List Row → Draft → List Row → Result (Unit {0}) ScenarioFault → Type 0
TakesOn old rows new rest (Ok done) = takes_rest new rest ≡ true → takes_rest old rows ≡ true
TakesOn old rows new rest (Err fault) = IsMemoryOnlyIf (takes_rest old rows) fault

-- the scenario that comes of a draft with the lines that are left
abbrev pub read_rest : List ℕ → Draft → List Row → Result Scenario At
read_rest bytes draft rows = read_items bytes draft (items false rows)

-- lines were read: the same comes of what is left. A fault of them is one of all
abbrev pub IsReadOn : List ℕ → Draft → List Row → Draft → List Row → Result (Unit {0}) ScenarioFault → Type 0
IsReadOn bytes old rows new rest (Ok done) = read_rest bytes old rows ≡ read_rest bytes new rest
IsReadOn bytes old rows new rest (Err fault) = IsFault (read_rest bytes old rows) fault
