-- No fault of a text is the want of memory of the assembler.
use Rattle.std.proofs.Common.{ℕ, ◌+◌, ◌^◌, ◌%◌, ◌==◌, Bool, true, false, not, ◌&&◌, List, [], ◌∷◌, ◌++◌, map, Option, Some, None, Result, Ok, Err, ap, subst, length, nat_lt}
use Rattle.std.specs.Prelude.{◌≢◌, nat_le, nat_lt, find, if◌then◌else◌}
use Rattle.std.specs.List.{AllByRecursion, list_any}
use Rattle.std.specs.Option.{option_and_then}
use Rattle.nova_text.specs.Bytes.{has_forbidden}
use Rattle.nova_text.specs.Line.{Row, lines}
use Rattle.nova_text.specs.Token.{tokens}
use Rattle.nova_text.specs.Piece.{Piece}
use Rattle.rv_asm.specs.Program.{assembled}
use Rattle.rv_asm.specs.declared.fault.AsmFault.{AsmFault}
use Rattle.rv_asm.specs.declared.fault.AsmFault.TheVariants.{Memory as AsmMemory}
use Rattle.rv_asm.proofs.TextFaults.{no_memory}
use Rattle.nova_scenario.specs.Sources.{closing, if_room, row_in, source_of, with_row, with_source}
use Rattle.nova_scenario.specs.declared.source.SourceRow.{SourceRow}
use Rattle.nova_scenario.specs.declared.statement.SourceHead.{SourceHead}
use Rattle.nova_scenario.specs.Fault.{At, at, and_then, on_line}
use Rattle.nova_scenario.specs.Images.{Draft, empty, end_of, shares, is_word_address, address_in, begun, with_apart, with_image}
use Rattle.nova_scenario.specs.Items.{Block, Item, FaultyLine, SettingLine, SourceLine, ImageBlock, is_end, item_before, items}
use Rattle.nova_scenario.specs.Read.{IsFault, KeepsMemoryApart}
use Rattle.nova_scenario.specs.Segments.{with_images, with_segments, with_settings, with_program, executable, with_executable, segment_image, reaches_past}
use Rattle.nova_scenario.specs.Digits.{has_bytes, elf_by, elf_bytes}
use Rattle.nova_scenario.specs.Scenario.{block_bytes, with_bytes, ended, with_block, with_item, finished, or_missing, read_items, scenario}
use Rattle.nova_scenario.specs.Settings.{within, pc_of, root_of, entered_at, entered, set_once, put, with_setting, is_whole, ram_size}
use Rattle.nova_scenario.specs.Statement.{keyword_named, statement_of, said_by, said_in, said}
use Rattle.nova_scenario.specs.Words.{has_words, hex_by, hex_words, lesser, line_of, place_of, text_of, forbidden_in, asm_by, asm_words, in_bytes}
use Rattle.nova_scenario.specs.declared.fault.ScenarioFault.{ScenarioFault}
use Rattle.nova_scenario.specs.declared.fault.ScenarioFault.TheVariants.{At as AtLine, Memory}
use Rattle.nova_scenario.specs.declared.fault.Why.{Why}
use Rattle.nova_scenario.specs.declared.fault.Why.TheVariants.{Syntax, Missing, Range, Overlap, Asm, Elf}
use Rattle.nova_elf.specs.Executable.{program}
use Rattle.nova_elf.specs.declared.fault.ElfFault.{ElfFault}
use Rattle.nova_elf.specs.declared.fault.ElfFault.TheVariants.{Memory as ElfMemory}
use Rattle.nova_elf.specs.declared.program.Program.{Program}
use Rattle.nova_elf.specs.declared.program.Segment.{Segment}
use Rattle.nova_elf.proofs.ReadLemmas.{program_apart}
use Rattle.nova_scenario.specs.declared.image.Image.{Image}
use Rattle.nova_scenario.specs.declared.scenario.Scenario.{Scenario}
use Rattle.nova_scenario.specs.declared.settings.Root.{Root}
use Rattle.nova_scenario.specs.declared.settings.Settings.{Settings}
use Rattle.nova_scenario.specs.declared.statement.Form.{Form}
use Rattle.nova_scenario.specs.declared.statement.Form.TheVariants as form
use Rattle.nova_scenario.specs.declared.statement.Head.{Head}
use Rattle.nova_scenario.specs.declared.statement.Setting.{Setting}
use Rattle.nova_scenario.specs.declared.statement.Setting.TheVariants.{Cpus, Ram, Consoles, Root as RootLine}
use Rattle.nova_scenario.specs.declared.statement.Statement.{Statement}
use Rattle.nova_scenario.specs.declared.statement.Statement.TheVariants.{Sets, Adds, Begins}

-- what is wrong with a line, without the assembler's want of memory
abbrev IsOfText : Why → Type 0
IsOfText why = (why ≢ Asm AsmMemory) × (why ≢ Elf ElfMemory)

abbrev NamesText : {A : Type 0} → Result A Why → Type 0
NamesText (Ok x) = Unit {0}
NamesText (Err why) = IsOfText why

abbrev AnswersText : {A : Type 0} → Result A At → Type 0
AnswersText (Ok x) = Unit {0}
AnswersText (Err fault) = IsOfText fault.why

then_text : {A B : Type 0} (r : Result A At) (next : A → Result B At) → AnswersText r → ((x : A) → AnswersText (next x)) → AnswersText (and_then r next)
then_text (Ok x) next here more = more x
then_text (Err fault) next here more = here

line_text : {A : Type 0} (line : ℕ) (r : Result A Why) → NamesText r → AnswersText (on_line line r)
line_text line (Ok x) h = tt
line_text line (Err why) h = h

-- blocks
hex_text : (rows : List Row) → AnswersText (hex_words rows)
hex_text rows = go (find (λ row. not (has_words row)) rows) where
  go : (found : Option Row) → AnswersText (hex_by rows found)
  go None = tt
  go (Some row) = (λ e. cc, λ e. cc)

lesser_text : (forbidden : Option ℕ) (line : ℕ) (fault : AsmFault) → fault ≢ AsmMemory → AnswersText (lesser forbidden line fault)
lesser_text None line fault other = (λ e. other cc, λ e. cc)
lesser_text (Some number) line fault other = go (nat_le number line) where
  go : (b : Bool) → AnswersText {A = List ℕ} (if b then at number Syntax else at line (Asm fault))
  go true = (λ e. cc, λ e. cc)
  go false = (λ e. other cc, λ e. cc)

asm_text : (first : ℕ) (text : List ℕ) (forbidden : Option ℕ) (r : Result (List ℕ) AsmFault) → r ≢ Err AsmMemory → AnswersText (asm_by first text forbidden r)
asm_text first text None (Ok words) other = tt
asm_text first text (Some number) (Ok words) other = (λ e. cc, λ e. cc)
asm_text first text forbidden (Err fault) other = lesser_text forbidden (line_of first text (place_of fault)) fault (λ e. other (ap Err e))

elf_text : (rows : List Row) → AnswersText (elf_bytes rows)
elf_text rows = go (find (λ row. not (has_bytes row)) rows) where
  go : (found : Option Row) → AnswersText (elf_by rows found)
  go None = tt
  go (Some row) = (λ e. cc, λ e. cc)

words_text : (r : Result (List ℕ) At) → AnswersText r → AnswersText (in_bytes r)
words_text (Ok words) h = tt
words_text (Err fault) h = h

bytes_text : (bytes : List ℕ) (b : Block) (f : Form) → AnswersText (block_bytes bytes b f)
bytes_text bytes b form.Hex = words_text (hex_words b.lines) (hex_text b.lines)
bytes_text bytes b form.Asm = words_text (asm_words bytes b) (asm_text b.first.number (text_of bytes b) (forbidden_in b.lines) (assembled (text_of bytes b)) (no_memory (text_of bytes b)))
bytes_text bytes b form.Elf = elf_text b.lines

-- images
address_text : (ram : ℕ) (o : Option ℕ) → NamesText (address_in ram o)
address_text ram None = (λ e. cc, λ e. cc)
address_text ram (Some address) = go (is_word_address ram address) where
  go : (b : Bool) → NamesText (if b then Ok address else Err Range)
  go true = tt
  go false = (λ e. cc, λ e. cc)

begun_text : (s : Settings) (o : Option ℕ) → NamesText (begun s o)
begun_text s o = go (is_whole s) where
  go : (b : Bool) → NamesText (if b then address_in (ram_size s) o else Err Missing)
  go true = address_text (ram_size s) o
  go false = (λ e. cc, λ e. cc)

apart_text : (d : Draft) (image : Image) → NamesText (with_apart d image)
apart_text d image = go (list_any (shares image) d.images) where
  go : (meets : Bool) → NamesText {A = Draft} (if meets then Err Overlap else Ok (record d { images = d.images ++ image ∷ [] }))
  go true = (λ e. cc, λ e. cc)
  go false = tt

image_text : (d : Draft) (image : Image) → NamesText (with_image d image)
image_text d image = go (nat_lt (ram_size d.settings) (end_of image)) where
  go : (past : Bool) → NamesText {A = Draft} (if past then Err Range else with_apart d image)
  go true = (λ e. cc, λ e. cc)
  go false = apart_text d image

-- executables
then_names : {A B : Type 0} (r : Result A Why) (next : A → Result B Why) → NamesText r → ((x : A) → NamesText (next x)) → NamesText (and_then r next)
then_names (Ok x) next here more = more x
then_names (Err why) next here more = here

images_text : (d : Draft) (images : List Image) → NamesText (with_images d images)
images_text d [] = tt
images_text d (image ∷ images) = then_names (with_apart d image) (λ e. with_images e images) (apart_text d image) (λ e. images_text e images)

segments_text : (address : ℕ) (file : List ℕ) (segments : List Segment) (d : Draft) → NamesText (with_segments address file segments d)
segments_text address file segments d = go (list_any (reaches_past (ram_size d.settings) address) segments) where
  go : (past : Bool) → NamesText {A = Draft} (if past then Err Range else with_images d (map (segment_image address file) segments))
  go true = (λ e. cc, λ e. cc)
  go false = images_text d (map (segment_image address file) segments)

put_text : {A : Type 0} (with_new : A → Settings) (r : Result A Why) → NamesText r → NamesText (put with_new r)
put_text with_new (Ok new) h = tt
put_text with_new (Err why) h = h

settings_text : (d : Draft) (r : Result Settings Why) → NamesText r → NamesText (with_settings d r)
settings_text d (Ok settings) h = tt
settings_text d (Err why) h = h

at_entry_text : (root : Root) (pc : Option ℕ) (entry : ℕ) → NamesText (entered_at root pc entry)
at_entry_text root (Some pc) entry = tt
at_entry_text root None entry = go (nat_lt entry (2 ^ 32) && entry % 4 == 0) where
  go : (b : Bool) → NamesText {A = Root} (if b then Ok (record root { pc = Some entry }) else Err Range)
  go true = tt
  go false = (λ e. cc, λ e. cc)

entered_text : (s : Settings) (root : Option Root) (entry : ℕ) → NamesText (entered s root entry)
entered_text s None entry = tt
entered_text s (Some root) entry = put_text _ (entered_at root root.pc entry) (at_entry_text root root.pc entry)

program_text : (r : Result Program ElfFault) → r ≢ Err ElfMemory → NamesText (executable r)
program_text (Ok p) other = tt
program_text (Err fault) other = (λ e. cc, λ e. other cc)

executable_text : (d : Draft) (address : ℕ) (file : List ℕ) → NamesText (with_executable d address file)
executable_text d address file =
    then_names (executable (program file)) (with_program d address file) (program_text (program file) (program_apart file)) (λ p.
    then_names (with_settings d (entered d.settings d.settings.root (address + p.entry))) (with_segments address file p.segments)
    (settings_text d (entered d.settings d.settings.root (address + p.entry)) (entered_text d.settings d.settings.root (address + p.entry)))
    (segments_text address file p.segments))

-- blocks
laid_text : (f : Form) (d : Draft) (address : ℕ) (bytes : List ℕ) → NamesText (with_bytes f d address bytes)
laid_text form.Hex d address bytes = image_text d _
laid_text form.Asm d address bytes = image_text d _
laid_text form.Elf d address bytes = executable_text d address bytes

ended_text : (bytes : List ℕ) (end : Option Row) (laid : Result Draft Why) → NamesText laid → AnswersText (ended bytes end laid)
ended_text bytes None laid h = (λ e. cc, λ e. cc)
ended_text bytes (Some row) laid h = line_text row.number laid h

block_text : (bytes : List ℕ) (d : Draft) (head : Head) (b : Block) → AnswersText (with_block bytes d head b)
block_text bytes d head b =
    then_text (on_line b.first.number (begun d.settings head.address)) _ (line_text b.first.number (begun d.settings head.address) (begun_text d.settings head.address)) (λ address.
    then_text (block_bytes bytes b head.form) _ (bytes_text bytes b head.form) (λ image_bytes.
    ended_text bytes b.end (with_bytes head.form d address image_bytes) (laid_text head.form d address image_bytes)))

-- settings
once_text : {A : Type 0} (old new : Option A) → NamesText (set_once old new)
once_text (Some old) new = (λ e. cc, λ e. cc)
once_text None None = (λ e. cc, λ e. cc)
once_text None (Some new) = tt

setting_text : (s : Settings) (setting : Setting) → NamesText (with_setting s setting)
setting_text s (Cpus n) = put_text _ (set_once s.cpus (within 1 8 n)) (once_text s.cpus (within 1 8 n))
setting_text s (Ram m) = put_text _ (set_once s.ram (within 0 14 m)) (once_text s.ram (within 0 14 m))
setting_text s (Consoles c) = put_text _ (set_once s.consoles (within 0 16 c)) (once_text s.consoles (within 0 16 c))
setting_text s (RootLine start sp priority quantum) =
    let root = root_of (pc_of start) sp (within 0 255 priority) (within 1 16777215 quantum) in
    put_text _ (set_once s.root root) (once_text s.root root)

-- items
abbrev ItemIsOfText : Item → Type 0
ItemIsOfText (FaultyLine line why) = IsOfText why
ItemIsOfText (SettingLine line setting) = Unit {0}
ItemIsOfText (SourceLine line head) = Unit {0}
ItemIsOfText (ImageBlock head b) = Unit {0}

-- a source
source_text : (d : Draft) (head : SourceHead) → NamesText (with_source d head)
source_text d head = by_row (row_in d head) (by_place d.closed (is_whole d.settings)) where
  by_row : (r : Result SourceRow Why) → NamesText r → NamesText (with_row d r)
  by_row (Ok row) names = tt
  by_row (Err why) names = names

  by_room : (o : Option SourceRow) → NamesText (if_room (length d.sources) o)
  by_room None = (λ e. cc, λ e. cc)
  by_room (Some row) = go (nat_lt (length d.sources) 32) where
    go : (b : Bool) → NamesText {A = SourceRow} (if b then Ok row else Err Range)
    go true = tt
    go false = (λ e. cc, λ e. cc)

  by_place : (closed whole : Bool) → NamesText {A = SourceRow} (if closed then Err Syntax else (if whole then if_room (length d.sources) (source_of d.settings.cpus head) else Err Missing))
  by_place true whole = (λ e. cc, λ e. cc)
  by_place false true = by_room (source_of d.settings.cpus head)
  by_place false false = (λ e. cc, λ e. cc)

item_text : (bytes : List ℕ) (d : Draft) (item : Item) → ItemIsOfText item → AnswersText (with_item bytes d item)
item_text bytes d (FaultyLine line why) h = h
item_text bytes d (SettingLine line setting) h = line_text line _ (settings_text d (with_setting d.settings setting) (setting_text d.settings setting))
item_text bytes d (SourceLine line head) h = line_text line (with_source d head) (source_text d head)
item_text bytes d (ImageBlock head b) h = block_text bytes (closing d) head b

read_text : (bytes : List ℕ) (d : Draft) (its : List Item) → AllByRecursion ItemIsOfText its → AnswersText (read_items bytes d its)
read_text bytes d [] all = go (finished d) where
  go : (found : Option Scenario) → AnswersText (or_missing bytes found)
  go None = (λ e. cc, λ e. cc)
  go (Some s) = tt
read_text bytes d (item ∷ its) all =
    then_text (with_item bytes d item) _ (item_text bytes d item all.0) (λ next. read_text bytes next its all.1)

said_by_text : (o : Option Statement) → NamesText (said_by o)
said_by_text None = (λ e. cc, λ e. cc)
said_by_text (Some statement) = tt

said_in_text : (pieces : List Piece) → NamesText (said_in pieces)
said_in_text [] = tt
said_in_text (first ∷ pieces) = said_by_text (option_and_then (statement_of pieces) (keyword_named first.text))

said_text : (row : Row) → NamesText (said row)
said_text row = go (has_forbidden row.text) where
  go : (b : Bool) → NamesText (if b then Err Syntax else said_in (tokens row.start row.text))
  go true = (λ e. cc, λ e. cc)
  go false = said_in_text (tokens row.start row.text)

before_text : (row : Row) (r : Result (Option Statement) Why) (rows : List Row) (more : Bool → List Item) → NamesText r → ((b : Bool) → AllByRecursion ItemIsOfText (more b)) → AllByRecursion ItemIsOfText (item_before row r rows more)
before_text row (Err why) rows more names rest = (names, rest false)
before_text row (Ok None) rows more names rest = rest false
before_text row (Ok (Some (Sets setting))) rows more names rest = (tt, rest false)
before_text row (Ok (Some (Adds head))) rows more names rest = (tt, rest false)
before_text row (Ok (Some (Begins head))) rows more names rest = (tt, rest true)

items_text : (rows : List Row) (in_block : Bool) → AllByRecursion ItemIsOfText (items in_block rows)
items_text [] in_block = tt
items_text (row ∷ rows) true = items_text rows (not (is_end row))
items_text (row ∷ rows) false = before_text row (said row) rows (λ in_block. items in_block rows) (said_text row) (items_text rows)

scenario_text : (bytes : List ℕ) → AnswersText (scenario bytes)
unfolding scenario
scenario_text bytes = read_text bytes empty (items false (lines bytes)) (items_text (lines bytes) false)

-- so a fault of a text keeps memory apart
pub memory_apart : (bytes : List ℕ) (fault : ScenarioFault) → IsFault (scenario bytes) fault → KeepsMemoryApart fault
memory_apart bytes (AtLine line why) is = subst (λ (r : Result Scenario At). AnswersText r) is (scenario_text bytes)
memory_apart bytes Memory is = tt
