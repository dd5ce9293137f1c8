-- Each line of a source is an alarm that a kernel begins with.
use Rattle.std.proofs.Common.{◌≡◌, ℕ, zero, suc, ◌+◌, Bool, true, false, List, [], ◌∷◌, ◌++◌, length, map, slice_get, Option, Some, None, refl, ap, sym, ◌∙◌, subst, arith, append_assoc, append-nil, nat_lt}
use Rattle.std.specs.Prelude.{Result, Ok, Err, if◌then◌else◌}
use Rattle.std.proofs.lemmas.Option.{same_Some}
use Rattle.nova_boot.specs.Boot.{scenario_of, source_of}
use Rattle.nova_gsi.specs.Firings.{alarms_from, alarms_of, unrung}
use Rattle.nova_model.specs.Boot.{Scenario as Started, boot}
use Rattle.nova_model.specs.Creation.{idle_semaphore}
use Rattle.nova_model.specs.Semaphores.{semaphore_at}
use Rattle.nova_model.specs.State.{KernelState}
use Rattle.nova_model.specs.declared.times.Alarm.{Alarm}
use Rattle.nova_model.specs.declared.times.AlarmState.{AlarmState}
use Rattle.nova_elf.specs.Executable.{program}
use Rattle.nova_gsi.proofs.Boots.{get_map}
use Rattle.nova_text.specs.Line.{lines}
use Rattle.nova_scenario.specs.Fault.{and_then, on_line}
use Rattle.nova_scenario.specs.Images.{Draft, empty, begun}
use Rattle.nova_scenario.specs.Items.{Block, Item, FaultyLine, SettingLine, SourceLine, ImageBlock, items}
use Rattle.nova_scenario.specs.Scenario.{block_bytes, with_bytes, ended, with_block, with_item, with_pc, whole, finished, read_items, scenario}
use Rattle.nova_scenario.specs.Segments.{executable, with_executable, with_program, with_segments, with_settings}
use Rattle.nova_scenario.specs.Settings.{entered, is_whole, with_setting, within}
use Rattle.nova_scenario.specs.Sources.{closing, cpu_below, if_room, row_of, with_row, with_source}
use Rattle.nova_scenario.specs.Sources.{source_of as row_in_range}
use Rattle.nova_scenario.specs.declared.fault.Why.{Why}
use Rattle.nova_scenario.specs.declared.fault.Why.TheVariants.{Syntax, Missing, Range}
use Rattle.nova_scenario.specs.declared.image.Image.{Image}
use Rattle.nova_scenario.specs.declared.scenario.Scenario.{Scenario}
use Rattle.nova_scenario.specs.declared.settings.Root.{Root}
use Rattle.nova_scenario.specs.declared.source.SourceRow.{SourceRow}
use Rattle.nova_scenario.specs.declared.statement.Form.{Form}
use Rattle.nova_scenario.specs.declared.statement.Form.TheVariants as form
use Rattle.nova_scenario.specs.declared.statement.Head.{Head}
use Rattle.nova_scenario.specs.declared.statement.SourceHead.{SourceHead}
use Rattle.nova_scenario.proofs.SoundLemmas.{and_then-ok, ended-ok, on_line-ok, settings-ok, or_missing-ok}
use Rattle.law_texts.specs.Sources.{AreAlarms, IsAlarmOf, source_lines}
use Rattle.law_texts.proofs.Laying.{image_leaves, segments_leave}
use Rattle.law_texts.proofs.Told.{within-is}

-- THE ROW OF A LINE

record IsRowOf (head : SourceHead) (row : SourceRow) : Type 0 where
  cpu : head.cpu ≡ Some row.cpu
  first : head.first ≡ Some row.first
  period : head.period ≡ Some row.period
  count : head.count ≡ Some row.count

abbrev AreRowsOf : List SourceHead → List SourceRow → Type 0
AreRowsOf [] [] = Unit {0}
AreRowsOf [] (row ∷ rows) = ⊥
AreRowsOf (head ∷ heads) [] = ⊥
AreRowsOf (head ∷ heads) (row ∷ rows) = IsRowOf head row × AreRowsOf heads rows

below-is : (cpus o : Option ℕ) (x : ℕ) → cpu_below cpus o ≡ Some x → o ≡ Some x
below-is None o x is = cc
below-is (Some cpus) None x is = cc
below-is (Some cpus) (Some n) x is = go (nat_lt n cpus) refl where
  go : (b : Bool) → nat_lt n cpus ≡ b → Some n ≡ Some x
  go true t = let same : Some n ≡ Some x = rw t at is in same
  go false t = let same : None ≡ Some x = rw t at is in cc

row_parts : (head : SourceHead) (cpus cpu first period count : Option ℕ) (row : SourceRow) → cpu_below cpus head.cpu ≡ cpu → within 0 10000000 head.first ≡ first →
    within 1 10000000 head.period ≡ period → within 1 10000000 head.count ≡ count → row_of cpu first period count ≡ Some row → IsRowOf head row
row_parts head cpus (Some cpu) (Some first) (Some period) (Some count) row of_cpu of_first of_period of_count is =
    let row_is : record { cpu = cpu; first = first; period = period; count = count } ≡ row = cc in record {
      cpu = below-is cpus head.cpu cpu of_cpu ∙ ap (λ (x : SourceRow). Some x.cpu) row_is;
      first = within-is 0 10000000 head.first first of_first ∙ ap (λ (x : SourceRow). Some x.first) row_is;
      period = within-is 1 10000000 head.period period of_period ∙ ap (λ (x : SourceRow). Some x.period) row_is;
      count = within-is 1 10000000 head.count count of_count ∙ ap (λ (x : SourceRow). Some x.count) row_is;
    }
row_parts head cpus None first period count row of_cpu of_first of_period of_count is = cc
row_parts head cpus (Some cpu) None period count row of_cpu of_first of_period of_count is = cc
row_parts head cpus (Some cpu) (Some first) None count row of_cpu of_first of_period of_count is = cc
row_parts head cpus (Some cpu) (Some first) (Some period) None row of_cpu of_first of_period of_count is = cc

row_said : (cpus : Option ℕ) (head : SourceHead) (row : SourceRow) → row_in_range cpus head ≡ Some row → IsRowOf head row
row_said cpus head row is =
    row_parts head cpus (cpu_below cpus head.cpu) (within 0 10000000 head.first) (within 1 10000000 head.period) (within 1 10000000 head.count) row refl refl refl refl is

-- A LINE ADDS ITS ROW

abbrev IsAdded : Draft → Draft → SourceHead → Type 0
IsAdded d e head = (row : SourceRow) × (e.sources ≡ d.sources ++ row ∷ []) × IsRowOf head row

source_added : (d e : Draft) (head : SourceHead) → with_source d head ≡ Ok e → IsAdded d e head
source_added d e head is = by_closed d.closed (is_whole d.settings) is where
  by_room : (row : SourceRow) (b : Bool) → IsRowOf head row → with_row d (if b then Ok row else Err Range) ≡ Ok e → IsAdded d e head
  by_room row true its there = let e_is : e ≡ record d { sources = d.sources ++ row ∷ [] } = cc in (row, ap (λ (x : Draft). x.sources) e_is, its)
  by_room row false its there = cc

  by_row : (o : Option SourceRow) → row_in_range d.settings.cpus head ≡ o → with_row d (if_room (length d.sources) o) ≡ Ok e → IsAdded d e head
  by_row None its there = cc
  by_row (Some row) its there = by_room row (nat_lt (length d.sources) 32) (row_said d.settings.cpus head row its) there

  by_closed : (closed are_set : Bool) →
      with_row d (if closed then Err Syntax else (if are_set then if_room (length d.sources) (row_in_range d.settings.cpus head) else Err Missing)) ≡ Ok e → IsAdded d e head
  by_closed true are_set there = cc
  by_closed false false there = cc
  by_closed false true there = by_row (row_in_range d.settings.cpus head) refl there

-- NO OTHER LINE DOES

executable_sources : (d e : Draft) (address : ℕ) (file : List ℕ) → with_executable d address file ≡ Ok e → e.sources ≡ d.sources
executable_sources d e address file is =
    let a = and_then-ok (executable (program file)) (λ p. with_program d address file p) e is in
    let entry = entered d.settings d.settings.root (address + a.0.entry) in
    let b = and_then-ok (with_settings d entry) (with_segments address file a.0.segments) e a.2 in
    (segments_leave b.0 e address file a.0.segments b.2).sources ∙ ap (λ (x : Draft). x.sources) (settings-ok d b.0 entry b.1).2

bytes_sources : (d e : Draft) (f : Form) (address : ℕ) (bytes : List ℕ) → with_bytes f d address bytes ≡ Ok e → e.sources ≡ d.sources
bytes_sources d e form.Hex address bytes is = (image_leaves d e _ is).sources
bytes_sources d e form.Asm address bytes is = (image_leaves d e _ is).sources
bytes_sources d e form.Elf address bytes is = executable_sources d e address bytes is

block_sources : (bytes : List ℕ) (d e : Draft) (head : Head) (block : Block) → with_block bytes d head block ≡ Ok e → e.sources ≡ d.sources
block_sources bytes d e head block is =
    let a = and_then-ok (on_line block.first.number (begun d.settings head.address)) (λ address. and_then {B = Draft} (block_bytes bytes block head.form) (λ image_bytes. ended bytes block.end (with_bytes head.form d address image_bytes))) e is in
    let b = and_then-ok (block_bytes bytes block head.form) (λ image_bytes. ended bytes block.end (with_bytes head.form d a.0 image_bytes)) e a.2 in
    bytes_sources d e head.form a.0 b.0 (ended-ok bytes e block.end (with_bytes head.form d a.0 b.0) b.2)

-- ALL LINES

whole_sources : (cpus ram consoles : Option ℕ) (root : Option Root) (images : List Image) (sources : List SourceRow) (s : Scenario) → whole cpus ram consoles root images sources ≡ Some s →
    s.sources ≡ sources
whole_sources (Some cpus) (Some ram) (Some consoles) (Some root) images sources s is = go root.pc is where
  go : (pc : Option ℕ) → with_pc cpus ram consoles root pc images sources ≡ Some s → s.sources ≡ sources
  go None there = cc
  go (Some pc) there =
      let s_is : s ≡ record { cpus = cpus; ram = ram; consoles = consoles; pc = pc; sp = root.sp; priority = root.priority; quantum = root.quantum; images = images; sources = sources } = cc in
      ap (λ (x : Scenario). x.sources) s_is
whole_sources None _ _ _ images sources s is = cc
whole_sources (Some cpus) None _ _ images sources s is = cc
whole_sources (Some cpus) (Some ram) None _ images sources s is = cc
whole_sources (Some cpus) (Some ram) (Some consoles) None images sources s is = cc

-- the sources of a scenario are those of a draft and the rows of the lines after it
record Follow (old : List SourceRow) (heads : List SourceHead) (new : List SourceRow) : Type 0 where
  rows : List SourceRow
  are : AreRowsOf heads rows
  all : new ≡ old ++ rows

after_same : (old mid new : List SourceRow) (heads : List SourceHead) → mid ≡ old → Follow mid heads new → Follow old heads new
after_same old mid new heads same f = subst (λ xs. Follow xs heads new) same f

after_one : (old mid new : List SourceRow) (head : SourceHead) (heads : List SourceHead) (row : SourceRow) → mid ≡ old ++ row ∷ [] → IsRowOf head row → Follow mid heads new →
    Follow old (head ∷ heads) new
after_one old mid new head heads row more its f = record {
  rows = row ∷ f.rows;
  are = (its, f.are);
  all = f.all ∙ ap (λ xs. xs ++ f.rows) more ∙ append_assoc old (row ∷ []) f.rows;
}

read_follows : (bytes : List ℕ) (d : Draft) (its : List Item) (s : Scenario) → read_items bytes d its ≡ Ok s → Follow d.sources (source_lines its) s.sources
read_follows bytes d [] s is = record {
  rows = [];
  are = tt;
  all = whole_sources d.settings.cpus d.settings.ram d.settings.consoles d.settings.root d.images d.sources s (or_missing-ok bytes (finished d) s is) ∙ sym (append-nil d.sources);
}
read_follows bytes d (FaultyLine line why ∷ its) s is = cc
read_follows bytes d (SettingLine line setting ∷ its) s is =
    let a = and_then-ok (with_item bytes d (SettingLine line setting)) (λ e. read_items bytes e its) s is in
    let p = settings-ok d a.0 (with_setting d.settings setting) (on_line-ok line (with_settings d (with_setting d.settings setting)) a.0 a.1) in
    after_same d.sources a.0.sources s.sources (source_lines its) (ap (λ (x : Draft). x.sources) p.2) (read_follows bytes a.0 its s a.2)
read_follows bytes d (SourceLine line head ∷ its) s is =
    let a = and_then-ok (with_item bytes d (SourceLine line head)) (λ e. read_items bytes e its) s is in
    let added = source_added d a.0 head (on_line-ok line (with_source d head) a.0 a.1) in
    after_one d.sources a.0.sources s.sources head (source_lines its) added.0 added.1 added.2 (read_follows bytes a.0 its s a.2)
read_follows bytes d (ImageBlock head block ∷ its) s is =
    let a = and_then-ok (with_item bytes d (ImageBlock head block)) (λ e. read_items bytes e its) s is in
    after_same d.sources a.0.sources s.sources (source_lines its) (block_sources bytes (closing d) a.0 head block a.1) (read_follows bytes a.0 its s a.2)

rows_follow : (bytes : List ℕ) (s : Scenario) → scenario bytes ≡ Ok s → AreRowsOf (source_lines (items false (lines bytes))) s.sources
unfolding scenario
rows_follow bytes s is = let f = read_follows bytes empty (items false (lines bytes)) s is in subst (AreRowsOf (source_lines (items false (lines bytes)))) (sym f.all) f.are

-- THE ALARMS

-- alarm n of the rows' alarms, which are of the semaphores from one on
record IsOne (alarms : List Alarm) (sm n : ℕ) (head : SourceHead) : Type 0 where
  alarm : Alarm
  there : slice_get alarms n ≡ Some alarm
  cpu : head.cpu ≡ Some alarm.cpu
  first : head.first ≡ Some alarm.first
  period : head.period ≡ Some alarm.period
  count : head.count ≡ Some alarm.count
  place : alarm.sm ≡ sm + n

one_of : (sm : ℕ) (heads : List SourceHead) (rows : List SourceRow) → AreRowsOf heads rows → (n : ℕ) (head : SourceHead) → slice_get heads n ≡ Some head →
    IsOne (alarms_from sm (map source_of rows)) sm n head
one_of sm [] rows are n head is = absurd cc
one_of sm (h ∷ heads) [] are n head is = absurd are
one_of sm (h ∷ heads) (row ∷ rows) are zero head is =
    let same : h ≡ head = same_Some h head is in
    let its = subst (λ (x : SourceHead). IsRowOf x row) same are.0 in record {
      alarm = record { cpu = row.cpu; sm = sm; first = row.first; period = row.period; count = row.count };
      there = refl;
      cpu = its.cpu;
      first = its.first;
      period = its.period;
      count = its.count;
      place = omega arith;
    }
one_of sm (h ∷ heads) (row ∷ rows) are (suc n) head is =
    let later = one_of (sm + 1) heads rows are.1 n head is in record {
      alarm = later.alarm;
      there = later.there;
      cpu = later.cpu;
      first = later.first;
      period = later.period;
      count = later.count;
      place = let at = later.place in omega arith;
    }

as_many_rows : (sm : ℕ) (heads : List SourceHead) (rows : List SourceRow) → AreRowsOf heads rows → length (map unrung (alarms_from sm (map source_of rows))) ≡ length heads
as_many_rows sm [] [] are = refl
as_many_rows sm [] (row ∷ rows) are = absurd are
as_many_rows sm (h ∷ heads) [] are = absurd are
as_many_rows sm (h ∷ heads) (row ∷ rows) are = ap suc (as_many_rows (sm + 1) heads rows are.1)

-- the laws of sources
pub record HasLaws : Type 0 where
  pub alarms : (s : Started) → (boot s).times.alarms ≡ map unrung (alarms_of s)
  pub idle : (s : Started) (n : ℕ) (a : Alarm) → slice_get (alarms_of s) n ≡ Some a → semaphore_at (boot s).semaphores a.sm ≡ Some (idle_semaphore 0)

pub alarms_told : HasLaws → (bytes : List ℕ) (s : Scenario) → scenario bytes ≡ Ok s → AreAlarms (boot (scenario_of s)) (source_lines (items false (lines bytes)))
alarms_told laws bytes s is = record {
  as_many = ap length (laws.alarms from) ∙ as_many_rows 3 heads s.sources rows;
  each = λ n head at.
      let one = one_of 3 heads s.sources rows n head at in record {
        alarm = one.alarm;
        there = ap (λ (xs : List AlarmState). slice_get xs n) (laws.alarms from) ∙ get_map unrung (alarms_of from) n one.alarm one.there;
        cpu = one.cpu;
        first = one.first;
        period = one.period;
        count = one.count;
        place = one.place;
        idle = subst (λ sm. semaphore_at (boot from).semaphores sm ≡ Some (idle_semaphore 0)) one.place (laws.idle from n one.alarm one.there);
      };
}
  where
    from : Started
    from = scenario_of s

    heads : List SourceHead
    heads = source_lines (items false (lines bytes))

    rows : AreRowsOf heads s.sources
    rows = rows_follow bytes s is
