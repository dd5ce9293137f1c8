-- What the lines that set something say of the scenario that was read.
use Rattle.std.proofs.Common.{◌≡◌, ℕ, ◌+◌, ◌%◌, ◌^◌, ◌==◌, ◌&&◌, Bool, true, false, List, [], ◌∷◌, ◌++◌, map, Option, Some, None, refl, ap, sym, ◌∙◌, subst, nat_le, nat_lt}
use Rattle.std.specs.Prelude.{option_map, Result, Ok, Err}
use Rattle.std.specs.List.{list_any}
use Rattle.nova_elf.specs.Executable.{program}
use Rattle.nova_elf.specs.declared.program.Program.{Program}
use Rattle.nova_elf.specs.declared.program.Segment.{Segment}
use Rattle.nova_text.specs.Line.{lines}
use Rattle.nova_scenario.specs.Digits.{elf_bytes}
use Rattle.nova_scenario.specs.Fault.{on_line, and_then}
use Rattle.nova_scenario.specs.Images.{Draft, empty, begun, end_of, shares, with_apart, with_image}
use Rattle.nova_scenario.specs.Items.{Block, Item, FaultyLine, SettingLine, SourceLine, ImageBlock, items}
use Rattle.nova_scenario.specs.Scenario.{block_bytes, with_bytes, ended, with_block, with_item, with_pc, whole, finished, read_items, scenario}
use Rattle.nova_scenario.specs.Segments.{executable, reaches_past, segment_image, with_executable, with_images, with_program, with_segments, with_settings}
use Rattle.nova_scenario.specs.Settings.{aligned, entered, entered_at, pc_of, ram_size, root_of, with_setting, within}
use Rattle.nova_scenario.specs.Sources.{closing, row_in, with_row, with_source}
use Rattle.nova_scenario.specs.declared.fault.Why.{Why}
use Rattle.nova_scenario.specs.declared.fault.Why.TheVariants.{Range, Overlap}
use Rattle.nova_scenario.specs.declared.image.Image.{Image}
use Rattle.nova_scenario.specs.declared.scenario.Scenario.{Scenario}
use Rattle.nova_scenario.specs.declared.settings.Root.{Root}
use Rattle.nova_scenario.specs.declared.settings.Settings.{Settings}
use Rattle.nova_scenario.specs.declared.source.SourceRow.{SourceRow}
use Rattle.nova_scenario.specs.declared.statement.Form.{Form}
use Rattle.nova_scenario.specs.declared.statement.Form.TheVariants as form
use Rattle.nova_scenario.specs.declared.statement.Head.{Head}
use Rattle.nova_scenario.specs.declared.statement.Setting.{Setting}
use Rattle.nova_scenario.specs.declared.statement.Setting.TheVariants.{Cpus, Ram, Consoles, Root as RootLine}
use Rattle.nova_scenario.specs.declared.statement.SourceHead.{SourceHead}
use Rattle.nova_scenario.specs.declared.statement.Start.{Start}
use Rattle.nova_scenario.specs.declared.statement.Start.TheVariants.{Address, Entry}
use Rattle.nova_scenario.proofs.LaidLemmas.{address-is}
use Rattle.nova_scenario.proofs.SoundLemmas.{and_then-ok, on_line-ok, settings-ok, ended-ok, executable-ok, or_missing-ok}
use Rattle.nova_scenario.proofs.SoundSettings.{once-new, put-new}
use Rattle.law_texts.specs.Settings.{IsEntry, StartsAt, first_executable, or_later}
use Rattle.law_texts.proofs.Laying.{image_leaves, segments_leave}

-- what a line says of a scenario
pub record IsRootSaid (s : Scenario) (later : List Item) (start : Start) (sp priority quantum : Option ℕ) : Type 0 where
  pub starts : StartsAt start later s.pc
  pub stack : sp ≡ Some s.sp
  pub rank : priority ≡ Some s.priority
  pub turns : quantum ≡ Some s.quantum

abbrev pub IsSaid : Scenario → List Item → Setting → Type 0
IsSaid s later (Cpus n) = n ≡ Some s.cpus
IsSaid s later (Ram m) = m ≡ Some s.ram
IsSaid s later (Consoles c) = c ≡ Some s.consoles
IsSaid s later (RootLine start sp priority quantum) = IsRootSaid s later start sp priority quantum

abbrev pub AreSaid : Scenario → List Item → Type 0
AreSaid s [] = Unit {0}
AreSaid s (FaultyLine line why ∷ more) = AreSaid s more
AreSaid s (SettingLine line setting ∷ more) = IsSaid s more setting × AreSaid s more
AreSaid s (SourceLine line head ∷ more) = AreSaid s more
AreSaid s (ImageBlock head block ∷ more) = AreSaid s more

-- WHAT IS SET STAYS

abbrev Found : Type 0
Found = Option (Head × Block)

abbrev PcComes : Option ℕ → Found → ℕ → Type 0
PcComes (Some pc) found is = is ≡ pc
PcComes None found is = IsEntry found is

record RootComes (r : Root) (found : Found) (s : Scenario) : Type 0 where
  pc : PcComes r.pc found s.pc
  sp : s.sp ≡ r.sp
  priority : s.priority ≡ r.priority
  quantum : s.quantum ≡ r.quantum

-- where these are set, and this is the next executable, the scenario has what is set
record Comes (t : Settings) (found : Found) (s : Scenario) : Type 0 where
  cpus : (n : ℕ) → t.cpus ≡ Some n → s.cpus ≡ n
  ram : (m : ℕ) → t.ram ≡ Some m → s.ram ≡ m
  consoles : (c : ℕ) → t.consoles ≡ Some c → s.consoles ≡ c
  root : (r : Root) → t.root ≡ Some r → RootComes r found s

same_some : {A : Type 0} (a b : A) → Some a ≡ Some b → a ≡ b
same_some a b is = cc

not_both : {A : Type 0} (o : Option A) (x : A) → o ≡ None → o ≡ Some x → ⊥
not_both o x none some = absurd (cc)

-- at the end
end_root : (cpus ram consoles : ℕ) (root : Root) (images : List Image) (sources : List SourceRow) (s : Scenario) (pc : Option ℕ) → root.pc ≡ pc →
    with_pc cpus ram consoles root pc images sources ≡ Some s → Comes (record { cpus = Some cpus; ram = Some ram; consoles = Some consoles; root = Some root }) None s
end_root cpus ram consoles root images sources s None at is = cc
end_root cpus ram consoles root images sources s (Some pc) at is =
    let s_is : s ≡ record { cpus = cpus; ram = ram; consoles = consoles; pc = pc; sp = root.sp; priority = root.priority; quantum = root.quantum; images = images; sources = sources } = cc in
    record {
      cpus = λ n there. ap (λ (x : Scenario). x.cpus) s_is ∙ same_some cpus n there;
      ram = λ m there. ap (λ (x : Scenario). x.ram) s_is ∙ same_some ram m there;
      consoles = λ c there. ap (λ (x : Scenario). x.consoles) s_is ∙ same_some consoles c there;
      root = λ r there. subst (λ (x : Root). RootComes x None s) (same_some root r there) (record {
        pc = subst (λ o. PcComes o None s.pc) (sym at) (ap (λ (x : Scenario). x.pc) s_is);
        sp = ap (λ (x : Scenario). x.sp) s_is;
        priority = ap (λ (x : Scenario). x.priority) s_is;
        quantum = ap (λ (x : Scenario). x.quantum) s_is;
      });
    }

end_comes : (cpus ram consoles : Option ℕ) (root : Option Root) (images : List Image) (sources : List SourceRow) (s : Scenario) → whole cpus ram consoles root images sources ≡ Some s →
    Comes (record { cpus = cpus; ram = ram; consoles = consoles; root = root }) None s
end_comes (Some cpus) (Some ram) (Some consoles) (Some root) images sources s is = end_root cpus ram consoles root images sources s root.pc refl is
end_comes None _ _ _ images sources s is = cc
end_comes (Some cpus) None _ _ images sources s is = cc
end_comes (Some cpus) (Some ram) None _ images sources s is = cc
end_comes (Some cpus) (Some ram) (Some consoles) None images sources s is = cc

-- A LINE THAT SETS SOMETHING

pub within-is : (low high : ℕ) (o : Option ℕ) (x : ℕ) → within low high o ≡ Some x → o ≡ Some x
within-is low high None x is = cc
within-is low high (Some n) x is = go (nat_le low n && nat_le n high) refl where
  go : (b : Bool) → (nat_le low n && nat_le n high) ≡ b → Some n ≡ Some x
  go true t = let same : Some n ≡ Some x = rw t at is in same
  go false t = let same : None ≡ Some x = rw t at is in cc

-- the parts of a root line
record RootParts (start : Start) (sp priority quantum : Option ℕ) (r : Root) : Type 0 where
  pc : pc_of start ≡ Some r.pc
  stack : sp ≡ Some r.sp
  rank : priority ≡ Some r.priority
  turns : quantum ≡ Some r.quantum

root_parts : (start : Start) (pc : Option (Option ℕ)) (sp priority quantum rank turns : Option ℕ) (r : Root) → pc_of start ≡ pc → within 0 255 priority ≡ rank →
    within 1 16777215 quantum ≡ turns → root_of pc sp rank turns ≡ Some r → RootParts start sp priority quantum r
root_parts start (Some pc) (Some sp) priority quantum (Some rank) (Some turns) r of_pc of_rank of_turns is =
    let r_is : record { pc = pc; sp = sp; priority = rank; quantum = turns } ≡ r = cc in record {
      pc = of_pc ∙ ap (λ (x : Root). Some x.pc) r_is;
      stack = ap (λ (x : Root). Some x.sp) r_is;
      rank = within-is 0 255 priority rank of_rank ∙ ap (λ (x : Root). Some x.priority) r_is;
      turns = within-is 1 16777215 quantum turns of_turns ∙ ap (λ (x : Root). Some x.quantum) r_is;
    }
root_parts start None sp priority quantum rank turns r of_pc of_rank of_turns is = cc
root_parts start (Some pc) None priority quantum rank turns r of_pc of_rank of_turns is = cc
root_parts start (Some pc) (Some sp) priority quantum None turns r of_pc of_rank of_turns is = cc
root_parts start (Some pc) (Some sp) priority quantum (Some rank) None r of_pc of_rank of_turns is = cc

aligned-is : (o : Option ℕ) (pc : ℕ) → aligned o ≡ Some pc → o ≡ Some pc
aligned-is None pc is = cc
aligned-is (Some n) pc is = go (n % 4 == 0) refl where
  go : (b : Bool) → (n % 4 == 0) ≡ b → Some n ≡ Some pc
  go true t = let same : Some n ≡ Some pc = rw t at is in same
  go false t = let same : None ≡ Some pc = rw t at is in cc

starts_there : (n : Option ℕ) (a : Option ℕ) (pc : Option ℕ) (found : Found) (is : ℕ) → aligned n ≡ a → option_map Some a ≡ Some pc → PcComes pc found is → n ≡ Some is
starts_there n None pc found is at there comes = cc
starts_there n (Some a) (Some pc) found is at there comes =
    aligned-is n a at ∙ (let same : a ≡ pc = same_some a pc (same_some (Some a) (Some pc) there) in ap Some (same ∙ sym comes))
starts_there n (Some a) None found is at there comes = cc

starts : (start : Start) (later : List Item) (pc : Option ℕ) (is : ℕ) → pc_of start ≡ Some pc → PcComes pc (first_executable later) is → StartsAt start later is
starts (Address n) later pc is there comes = starts_there n (aligned n) pc (first_executable later) is refl there comes
starts Entry later (Some pc) is there comes = cc
starts Entry later None is there comes = comes

setting_said : (d t : Settings) (later : List Item) (s : Scenario) (setting : Setting) → with_setting d setting ≡ Ok t → Comes t (first_executable later) s →
    IsSaid s later setting × Comes d (first_executable later) s
setting_said d t later s (Cpus n) is comes =
    let p = put-new _ _ t is in
    let q = once-new d.cpus (within 1 8 n) p.0 p.1 in
    let here = subst (λ (x : Settings). Comes x (first_executable later) s) p.2 comes in (
      within-is 1 8 n p.0 q.1 ∙ ap Some (sym (here.cpus p.0 refl)),
      record { cpus = λ m there. absurd (not_both d.cpus m q.0 there); ram = here.ram; consoles = here.consoles; root = here.root },
    )
setting_said d t later s (Ram m) is comes =
    let p = put-new _ _ t is in
    let q = once-new d.ram (within 0 14 m) p.0 p.1 in
    let here = subst (λ (x : Settings). Comes x (first_executable later) s) p.2 comes in (
      within-is 0 14 m p.0 q.1 ∙ ap Some (sym (here.ram p.0 refl)),
      record { cpus = here.cpus; ram = λ n there. absurd (not_both d.ram n q.0 there); consoles = here.consoles; root = here.root },
    )
setting_said d t later s (Consoles c) is comes =
    let p = put-new _ _ t is in
    let q = once-new d.consoles (within 0 16 c) p.0 p.1 in
    let here = subst (λ (x : Settings). Comes x (first_executable later) s) p.2 comes in (
      within-is 0 16 c p.0 q.1 ∙ ap Some (sym (here.consoles p.0 refl)),
      record { cpus = here.cpus; ram = here.ram; consoles = λ n there. absurd (not_both d.consoles n q.0 there); root = here.root },
    )
setting_said d t later s (RootLine start sp priority quantum) is comes =
    let p = put-new _ _ t is in
    let q = once-new d.root (root_of (pc_of start) sp (within 0 255 priority) (within 1 16777215 quantum)) p.0 p.1 in
    let here = subst (λ (x : Settings). Comes x (first_executable later) s) p.2 comes in
    let parts = root_parts start (pc_of start) sp priority quantum (within 0 255 priority) (within 1 16777215 quantum) p.0 refl refl refl q.1 in
    let root = here.root p.0 refl in (
      record {
        starts = starts start later p.0.pc s.pc parts.pc root.pc;
        stack = parts.stack ∙ ap Some (sym root.sp);
        rank = parts.rank ∙ ap Some (sym root.priority);
        turns = parts.turns ∙ ap Some (sym root.quantum);
      },
      record { cpus = here.cpus; ram = here.ram; consoles = here.consoles; root = λ r there. absurd (not_both d.root r q.0 there) },
    )

-- AN IMAGE

-- the first executable gives the entry, where the root waits for one
module _ (s : Scenario) (found : Found) (head : Head) (block : Block) (address : ℕ) (there : head.address ≡ Some address) (file : List ℕ)
    (bytes : elf_bytes block.lines ≡ Ok file) (of : Program) (is_program : program file ≡ Ok of) where
  root_entered : (r x : Root) (pc : Option ℕ) → r.pc ≡ pc → entered_at r pc (address + of.entry) ≡ Ok x → RootComes x found s → RootComes r (Some (head, block)) s
  root_entered r x (Some pc) at is comes =
      let x_is : x ≡ r = cc in
      let here = subst (λ (y : Root). RootComes y found s) x_is comes in record {
        pc = subst (λ o. PcComes o (Some (head, block)) s.pc) (sym at) (subst (λ o. PcComes o found s.pc) at here.pc);
        sp = here.sp;
        priority = here.priority;
        quantum = here.quantum;
      }
  root_entered r x None at is comes = go (nat_lt (address + of.entry) (2 ^ 32) && (address + of.entry) % 4 == 0) refl where
    go : (b : Bool) → (nat_lt (address + of.entry) (2 ^ 32) && (address + of.entry) % 4 == 0) ≡ b → RootComes r (Some (head, block)) s
    go false t = let same : Err Range ≡ Ok x = rw t at is in cc
    go true t =
        let same : Ok (record r { pc = Some (address + of.entry) }) ≡ Ok x = rw t at is in
        let x_is : x ≡ record r { pc = Some (address + of.entry) } = cc in
        let here = subst (λ (y : Root). RootComes y found s) x_is comes in
        let entry : IsEntry (Some (head, block)) s.pc =
        record { head = head; block = block; first = refl; address = address; there = there; file = file; bytes = bytes; of = of; is = is_program; pc_is = here.pc } in record {
          pc = subst (λ o. PcComes o (Some (head, block)) s.pc) (sym at) entry;
          sp = here.sp;
          priority = here.priority;
          quantum = here.quantum;
        }

  settings_entered : (d t : Settings) (o : Option Root) → d.root ≡ o → entered d o (address + of.entry) ≡ Ok t → Comes t found s → Comes d (Some (head, block)) s
  settings_entered d t None at is comes =
      let t_is : t ≡ d = cc in
      let here = subst (λ (x : Settings). Comes x found s) t_is comes in
      record { cpus = here.cpus; ram = here.ram; consoles = here.consoles; root = λ r set. absurd (not_both d.root r at set) }
  settings_entered d t (Some root) at is comes =
      let p = put-new _ (entered_at root root.pc (address + of.entry)) t is in
      let here = subst (λ (x : Settings). Comes x found s) p.2 comes in record {
        cpus = here.cpus;
        ram = here.ram;
        consoles = here.consoles;
        root = λ r set.
            subst (λ (y : Root). RootComes y (Some (head, block)) s) (same_some root r (sym at ∙ set)) (root_entered root p.0 root.pc refl p.1 (here.root p.0 refl));
      }

executable_comes : (s : Scenario) (found : Found) (head : Head) (block : Block) (address : ℕ) (file : List ℕ) (d e : Draft) → head.address ≡ Some address →
    elf_bytes block.lines ≡ Ok file → with_executable d address file ≡ Ok e → Comes e.settings found s → Comes d.settings (Some (head, block)) s
executable_comes s found head block address file d e there bytes is comes =
    let a = and_then-ok (executable (program file)) (λ p. with_program d address file p) e is in
    let entry = entered d.settings d.settings.root (address + a.0.entry) in
    let b = and_then-ok (with_settings d entry) (with_segments address file a.0.segments) e a.2 in
    let t = settings-ok d b.0 entry b.1 in
    let same : e.settings ≡ t.0 = (segments_leave b.0 e address file a.0.segments b.2).settings ∙ ap (λ (x : Draft). x.settings) t.2 in
    settings_entered s found head block address there file bytes a.0 (executable-ok (program file) a.0 a.1) d.settings t.0 d.settings.root refl t.1
    (subst (λ (x : Settings). Comes x found s) same comes)

bytes_come : (bytes : List ℕ) (d e : Draft) (f : Form) (head : Head) (block : Block) (address : ℕ) (laid : List ℕ) (found : Found) (s : Scenario) → head.address ≡ Some address →
    block_bytes bytes block f ≡ Ok laid → with_bytes f d address laid ≡ Ok e → Comes e.settings found s → Comes d.settings (or_later f head block found) s
bytes_come bytes d e form.Hex head block address laid found s at are is comes = subst (λ (x : Settings). Comes x found s) (image_leaves d e _ is).settings comes
bytes_come bytes d e form.Asm head block address laid found s at are is comes = subst (λ (x : Settings). Comes x found s) (image_leaves d e _ is).settings comes
bytes_come bytes d e form.Elf head block address laid found s at are is comes = executable_comes s found head block address laid d e at are is comes

block_comes : (bytes : List ℕ) (d e : Draft) (head : Head) (block : Block) (found : Found) (s : Scenario) → with_block bytes d head block ≡ Ok e → Comes e.settings found s →
    Comes d.settings (or_later head.form head block found) s
block_comes bytes d e head block found s is comes =
    let a = and_then-ok (on_line block.first.number (begun d.settings head.address)) (λ address. and_then {B = Draft} (block_bytes bytes block head.form) (λ image_bytes. ended bytes block.end (with_bytes head.form d address image_bytes))) e is in
    let b = and_then-ok (block_bytes bytes block head.form) (λ image_bytes. ended bytes block.end (with_bytes head.form d a.0 image_bytes)) e a.2 in
    let begins = on_line-ok block.first.number (begun d.settings head.address) a.0 a.1 in
    bytes_come bytes d e head.form head block a.0 b.0 found s (address-is d.settings head.address a.0 begins) b.1
    (ended-ok bytes e block.end (with_bytes head.form d a.0 b.0) b.2) comes

-- ALL LINES

source_settings : (d e : Draft) (head : SourceHead) → with_source d head ≡ Ok e → e.settings ≡ d.settings
source_settings d e head is = go (row_in d head) is where
  go : (r : Result SourceRow Why) → with_row d r ≡ Ok e → e.settings ≡ d.settings
  go (Ok row) there = let e_is : e ≡ record d { sources = d.sources ++ row ∷ [] } = cc in ap (λ (x : Draft). x.settings) e_is
  go (Err why) there = cc

read_said : (bytes : List ℕ) (d : Draft) (its : List Item) (s : Scenario) → read_items bytes d its ≡ Ok s → AreSaid s its × Comes d.settings (first_executable its) s
read_said bytes d [] s is =
    (tt, end_comes d.settings.cpus d.settings.ram d.settings.consoles d.settings.root d.images d.sources s (or_missing-ok bytes (finished d) s is))
read_said bytes d (FaultyLine line why ∷ its) s is = cc
read_said bytes d (SettingLine line setting ∷ its) s is =
    let a = and_then-ok (with_item bytes d (SettingLine line setting)) (λ e. read_items bytes e its) s is in
    let p = settings-ok d a.0 (with_setting d.settings setting) (on_line-ok line (with_settings d (with_setting d.settings setting)) a.0 a.1) in
    let rest = read_said bytes a.0 its s a.2 in
    let comes = subst (λ (x : Draft). Comes x.settings (first_executable its) s) p.2 rest.1 in
    let said = setting_said d.settings p.0 its s setting p.1 comes in
    ((said.0, rest.0), said.1)
read_said bytes d (SourceLine line head ∷ its) s is =
    let a = and_then-ok (with_item bytes d (SourceLine line head)) (λ e. read_items bytes e its) s is in
    let rest = read_said bytes a.0 its s a.2 in
    (rest.0, subst (λ (x : Settings). Comes x (first_executable its) s) (source_settings d a.0 head (on_line-ok line (with_source d head) a.0 a.1)) rest.1)
read_said bytes d (ImageBlock head block ∷ its) s is =
    let a = and_then-ok (with_item bytes d (ImageBlock head block)) (λ e. read_items bytes e its) s is in
    let rest = read_said bytes a.0 its s a.2 in
    (rest.0, block_comes bytes (closing d) a.0 head block (first_executable its) s a.1 rest.1)

pub lines_said : (bytes : List ℕ) (s : Scenario) → scenario bytes ≡ Ok s → AreSaid s (items false (lines bytes))
unfolding scenario
lines_said bytes s is = (read_said bytes empty (items false (lines bytes)) s is).0
