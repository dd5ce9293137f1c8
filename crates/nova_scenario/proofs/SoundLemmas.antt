-- Every scenario is sound: each definition keeps it.
use Rattle.std.proofs.Common.{◌≡◌, ℕ, ◌+◌, ◌-◌, ◌<◌, ◌≤◌, Bool, true, false, not, ◌||◌, List, [], ◌∷◌, ◌++◌, Option, Some, None, Result, Ok, Err, map, length, drop, replicate, slice_range, refl, sym, subst, arith}
use Rattle.std.specs.Prelude.{codes, nat_lt, IfSome, IsSome, is_some, ◌&&◌, option_map, if◌then◌else◌}
use Rattle.std.specs.Str.{bytes_eq}
use Rattle.std.proofs.lemmas.List.{length-append, length-take, length-replicate}
use Rattle.std.specs.List.{AllByRecursion, list_any}
use Rattle.std.specs.Option.{option_and_then}
use Rattle.std.proofs.lemmas.Bool.Decides.{nat_tests}
use Rattle.nova_text.specs.Bytes.{has_forbidden}
use Rattle.nova_text.specs.Line.{Row, lines}
use Rattle.nova_text.specs.Number.{number}
use Rattle.nova_text.specs.Piece.{Piece}
use Rattle.nova_text.specs.Token.{tokens}
use Rattle.nova_scenario.specs.Sources.{closing, cpu_below, if_room, row_of, source_of, with_row, with_source}
use Rattle.nova_scenario.specs.declared.source.SourceRow.{SourceRow}
use Rattle.nova_scenario.specs.declared.statement.SourceHead.{SourceHead}
use Rattle.nova_scenario.specs.Fault.{and_then, on_line}
use Rattle.nova_scenario.specs.Images.{Draft, empty, end_of, shares, begun, with_apart, with_image}
use Rattle.nova_scenario.specs.Items.{Block, Item, FaultyLine, SettingLine, SourceLine, ImageBlock, is_end, item_before, items}
use Rattle.nova_scenario.specs.Scenario.{block_bytes, with_bytes, ended, with_block, with_item, with_pc, whole, finished, or_missing, read_items, scenario}
use Rattle.nova_scenario.specs.Segments.{with_images, with_segments, with_settings, with_program, executable, with_executable, segment_image, reaches_past}
use Rattle.nova_scenario.specs.Settings.{is_whole, within, entered, with_setting, frames_size, ram_size}
use Rattle.nova_scenario.specs.Sound.{IsIn, ShareNone, AreApart, IsSound, IsSourceOf}
use Rattle.nova_scenario.specs.Statement.{number_of, one_number, root_of as root_line, start_of, start_and_numbers, four_numbers, address_and_form, keyword_named, statement_of, said_by, said_in, said}
use Rattle.nova_elf.specs.Executable.{program}
use Rattle.nova_elf.specs.SegmentFits.{SegmentFits}
use Rattle.nova_elf.specs.declared.fault.ElfFault.{ElfFault}
use Rattle.nova_elf.specs.declared.program.Program.{Program}
use Rattle.nova_elf.specs.declared.program.Segment.{Segment}
use Rattle.nova_elf.proofs.ReadLemmas.{program_fits}
use Rattle.nova_scenario.specs.declared.fault.Why.{Why}
use Rattle.nova_scenario.specs.declared.fault.Why.TheVariants.{Syntax, Missing, Range, Overlap}
use Rattle.nova_scenario.specs.declared.image.Image.{Image}
use Rattle.nova_scenario.specs.declared.scenario.Scenario.{Scenario}
use Rattle.nova_scenario.specs.declared.settings.Root.{Root}
use Rattle.nova_scenario.specs.declared.settings.Settings.{Settings}
use Rattle.nova_scenario.specs.declared.statement.Form.{Form}
use Rattle.nova_scenario.specs.declared.statement.Form.TheVariants as form
use Rattle.nova_scenario.specs.declared.statement.Head.{Head}
use Rattle.nova_scenario.specs.declared.statement.Keyword.{Keyword}
use Rattle.nova_scenario.specs.declared.statement.Keyword.TheVariants as keyword
use Rattle.nova_scenario.specs.declared.statement.Setting.TheVariants.{Cpus, Ram, Consoles}
use Rattle.nova_scenario.specs.declared.statement.Start.{Start}
use Rattle.nova_scenario.specs.declared.statement.Start.TheVariants.{Address, Entry}
use Rattle.nova_scenario.specs.declared.statement.Statement.{Statement}
use Rattle.nova_scenario.specs.declared.statement.Statement.TheVariants.{Sets, Adds, Begins}
use Rattle.nova_scenario.proofs.SoundSettings.{IsWord, StartIsWord, HasWords, word_kept, IsPc, IsSoundRoot, AreSound, entered_cpus, entered_kept, setting_cpus, setting_kept, within-range}

-- sources come after the number of processors is set, and are of one of them
abbrev IsRow : Option ℕ → SourceRow → Type 0
IsRow None row = ⊥
IsRow (Some cpus) row = IsSourceOf cpus row

rows_more : (old new : Option ℕ) (rows : List SourceRow) → ((n : ℕ) → old ≡ Some n → new ≡ Some n) → AllByRecursion (IsRow old) rows → AllByRecursion (IsRow new) rows
rows_more old new [] stays all = tt
rows_more None new (row ∷ rows) stays all = absurd all.0
rows_more (Some n) new (row ∷ rows) stays all = (subst (λ (o : Option ℕ). IsRow o row) (sym (stays n refl)) all.0, rows_more (Some n) new rows stays all.1)

-- the images lie in RAM and apart from each other
record IsSoundDraft (d : Draft) : Type 0 where
  settings : AreSound d.settings
  images : AllByRecursion (IsIn (ram_size d.settings)) d.images
  apart : AreApart d.images
  sources : AllByRecursion (IsRow d.settings.cpus) d.sources
  few : length d.sources ≤ 32

lie_in_more : (ram more : ℕ) (images : List Image) → ram ≤ more → AllByRecursion (IsIn ram) images → AllByRecursion (IsIn more) images
lie_in_more ram more [] le all = tt
lie_in_more ram more (image ∷ images) le all =
    (record { within = let w = all.0.within in omega arith }, lie_in_more ram more images le all.1)

-- no shared byte
share_none : (a b : Image) → shares b a ≡ false → ShareNone a b
share_none a b none = λ address in_a in_b. grind (arith, nat_tests)

all_push : {A : Type 0} (P : A → Type 0) (xs : List A) (x : A) → AllByRecursion P xs → P x → AllByRecursion P (xs ++ x ∷ [])
all_push P [] x all last = (last, tt)
all_push P (first ∷ xs) x all last = (all.0, all_push P xs x all.1 last)

or_false : (a b : Bool) → (a || b) ≡ false → (a ≡ false) × (b ≡ false)
or_false true b e = cc
or_false false b e = (refl, e)

apart_push : (images : List Image) (image : Image) → AreApart images → list_any (shares image) images ≡ false → AreApart (images ++ image ∷ [])
apart_push [] image apart none = (tt, tt)
apart_push (first ∷ images) image apart none =
    let both = or_false (shares image first) (list_any (shares image) images) none in
    (all_push (ShareNone first) images image apart.0 (share_none first image both.0), apart_push images image apart.1 both.1)

-- what came of steps that all succeeded
pub and_then-ok : {A B E : Type 0} (r : Result A E) (next : A → Result B E) (y : B) → and_then r next ≡ Ok y → (x : A) × (r ≡ Ok x) × (next x ≡ Ok y)
and_then-ok (Ok x) next y is = (x, refl, is)
and_then-ok (Err fault) next y is = cc

pub on_line-ok : {A : Type 0} (line : ℕ) (r : Result A Why) (x : A) → on_line line r ≡ Ok x → r ≡ Ok x
on_line-ok line (Ok y) x is = cc
on_line-ok line (Err why) x is = cc

pub settings-ok : (d e : Draft) (r : Result Settings Why) → with_settings d r ≡ Ok e → (t : Settings) × (r ≡ Ok t) × (e ≡ record d { settings = t })
settings-ok d e (Ok t) is = (t, refl, cc)
settings-ok d e (Err why) is = cc

-- a further image keeps the draft sound, and what is set
apart_kept : (d e : Draft) (image : Image) → IsSoundDraft d → end_of image ≤ ram_size d.settings → with_apart d image ≡ Ok e → IsSoundDraft e × (e.settings ≡ d.settings)
apart_kept d e image sound within is = go (list_any (shares image) d.images) refl where
  go : (meets : Bool) → list_any (shares image) d.images ≡ meets → IsSoundDraft e × (e.settings ≡ d.settings)
  go true m = let same : Err Overlap ≡ Ok e = rw m at is in cc
  go false m =
      let same : Ok (record d { images = d.images ++ image ∷ [] }) ≡ Ok e = rw m at is in
      let e_is : e ≡ record d { images = d.images ++ image ∷ [] } = cc in
      let added : IsSoundDraft (record d { images = d.images ++ image ∷ [] }) = record {
        settings = sound.settings;
        images = all_push (IsIn (ram_size d.settings)) d.images image sound.images (record { within = within });
        apart = apart_push d.images image sound.apart m;
        sources = sound.sources;
        few = sound.few;
      } in
      rw e_is (added, refl)

image_kept : (d e : Draft) (image : Image) → IsSoundDraft d → with_image d image ≡ Ok e → IsSoundDraft e
image_kept d e image sound is = go (nat_lt (ram_size d.settings) (end_of image)) refl where
  go : (past : Bool) → nat_lt (ram_size d.settings) (end_of image) ≡ past → IsSoundDraft e
  go true p = let same : Err Range ≡ Ok e = rw p at is in cc
  go false p =
      let within : end_of image ≤ ram_size d.settings = grind (arith, nat_tests) in
      let added : with_apart d image ≡ Ok e = rw p at is in
      (apart_kept d e image sound within added).0

-- so do images that each end in RAM
images_kept : (d e : Draft) (images : List Image) → IsSoundDraft d → AllByRecursion (λ image. end_of image ≤ ram_size d.settings) images → with_images d images ≡ Ok e → IsSoundDraft e
images_kept d e [] sound all is = let e_is : e ≡ d = cc in rw e_is sound
images_kept d e (image ∷ images) sound all is =
    let a = and_then-ok (with_apart d image) (λ next. with_images next images) e is in
    let k = apart_kept d a.0 image sound all.0 a.1 in
    images_kept a.0 e images k.0 (subst (λ s. AllByRecursion (λ i. end_of i ≤ ram_size s) images) (sym k.1) all.1) a.2

-- the segments of an executable end in RAM
segment_size : (file : List ℕ) (address : ℕ) (s : Segment) → SegmentFits (length file) s → length (segment_image address file s).bytes ≤ s.memory
segment_size file address s fits =
    let room = fits.room in
    let laid : List ℕ = slice_range file s.offset (s.offset + s.file) in
    let none : ℕ = 0 in
    let zeros : List ℕ = replicate (s.memory - s.file) none in
    let count : (s.offset + s.file) - s.offset ≡ s.file = omega arith in
    omega (arith, length-append laid zeros, length-take ((s.offset + s.file) - s.offset) (drop s.offset file), length-replicate (s.memory - s.file) none)

segments_within : (ram address : ℕ) (file : List ℕ) (segments : List Segment) → AllByRecursion (SegmentFits (length file)) segments → list_any (reaches_past ram address) segments ≡ false → AllByRecursion (λ image. end_of image ≤ ram) (map (segment_image address file) segments)
segments_within ram address file [] fit none = tt
segments_within ram address file (s ∷ segments) fit none =
    let both = or_false (reaches_past ram address s) (list_any (reaches_past ram address) segments) none in
    let size = segment_size file address s fit.0 in
    let ends : address + s.address + s.memory ≤ ram = let h = both.0 in grind (arith, nat_tests) in
    (omega arith, segments_within ram address file segments fit.1 both.1)

segments_kept : (d e : Draft) (address : ℕ) (file : List ℕ) (segments : List Segment) → IsSoundDraft d → AllByRecursion (SegmentFits (length file)) segments → with_segments address file segments d ≡ Ok e → IsSoundDraft e
segments_kept d e address file segments sound fit is = go (list_any (reaches_past (ram_size d.settings) address) segments) refl where
  go : (past : Bool) → list_any (reaches_past (ram_size d.settings) address) segments ≡ past → IsSoundDraft e
  go true p = let same : Err Range ≡ Ok e = rw p at is in cc
  go false p = images_kept d e (map (segment_image address file) segments) sound (segments_within (ram_size d.settings) address file segments fit p) (rw p at is)

pub executable-ok : (r : Result Program ElfFault) (p : Program) → executable r ≡ Ok p → r ≡ Ok p
executable-ok (Ok q) p is = cc
executable-ok (Err fault) p is = cc

executable_kept : (d e : Draft) (address : ℕ) (file : List ℕ) → IsSoundDraft d → with_executable d address file ≡ Ok e → IsSoundDraft e
executable_kept d e address file sound is =
    let a = and_then-ok (executable (program file)) (λ p. with_program d address file p) e is in
    let fit = program_fits file a.0 (executable-ok (program file) a.0 a.1) in
    let b = and_then-ok (with_settings d (entered d.settings d.settings.root (address + a.0.entry))) (with_segments address file a.0.segments) e a.2 in
    let s = settings-ok d b.0 (entered d.settings d.settings.root (address + a.0.entry)) b.1 in
    let k = entered_kept d.settings s.0 d.settings.root (address + a.0.entry) refl sound.settings s.1 in
    let new : IsSoundDraft (record d { settings = s.0 }) = record {
      settings = k.0;
      images = rw k.1 sound.images;
      apart = sound.apart;
      sources = rows_more d.settings.cpus s.0.cpus d.sources (λ n set. entered_cpus d.settings s.0 d.settings.root (address + a.0.entry) n s.1 set) sound.sources;
      few = sound.few;
    } in
    segments_kept b.0 e address file a.0.segments (rw s.2 new) fit b.2

bytes_kept : (d e : Draft) (f : Form) (address : ℕ) (bytes : List ℕ) → IsSoundDraft d → with_bytes f d address bytes ≡ Ok e → IsSoundDraft e
bytes_kept d e form.Hex address bytes sound is = image_kept d e _ sound is
bytes_kept d e form.Asm address bytes sound is = image_kept d e _ sound is
bytes_kept d e form.Elf address bytes sound is = executable_kept d e address bytes sound is

pub ended-ok : (bytes : List ℕ) (e : Draft) (end : Option Row) (laid : Result Draft Why) → ended bytes end laid ≡ Ok e → laid ≡ Ok e
ended-ok bytes e None laid is = cc
ended-ok bytes e (Some row) laid is = on_line-ok row.number laid e is

block_kept : (bytes : List ℕ) (d e : Draft) (head : Head) (block : Block) → IsSoundDraft d → with_block bytes d head block ≡ Ok e → IsSoundDraft e
block_kept bytes d e head block sound is =
    let a = and_then-ok (on_line block.first.number (begun d.settings head.address)) (λ address. and_then {B = Draft} (block_bytes bytes block head.form) (λ image_bytes. ended bytes block.end (with_bytes head.form d address image_bytes))) e is in
    let b = and_then-ok (block_bytes bytes block head.form) (λ image_bytes. ended bytes block.end (with_bytes head.form d a.0 image_bytes)) e a.2 in
    bytes_kept d e head.form a.0 b.0 sound (ended-ok bytes e block.end _ b.2)

-- the numbers of each item are those of a line
abbrev ItemHasWords : Item → Type 0
ItemHasWords (FaultyLine line why) = Unit {0}
ItemHasWords (SettingLine line setting) = HasWords setting
ItemHasWords (SourceLine line head) = Unit {0}
ItemHasWords (ImageBlock head block) = Unit {0}

whole_cpus : (o : Option ℕ) (others : Bool) → (is_some o && others) ≡ true → IsSome o
whole_cpus None others w = absurd cc
whole_cpus (Some n) others w = refl

-- a source, where each of its numbers is in its range
row_sound : (cpus : Option ℕ) (cpu first period count : Option ℕ) → IfSome cpu (λ n. IfSome cpus (λ m. n < m)) → IfSome first (λ n. (0 ≤ n) × (n ≤ 10000000)) →
    IfSome period (λ n. (1 ≤ n) × (n ≤ 10000000)) → IfSome count (λ n. (1 ≤ n) × (n ≤ 10000000)) → IsSome cpus → IfSome (row_of cpu first period count) (IsRow cpus)
row_sound None cpu first period count c f p n there = absurd cc
row_sound (Some cpus) (Some cpu) (Some first) (Some period) (Some count) c f p n there =
    record { cpu = c; first = f.1; some_turn = p.0; period = p.1; some_time = n.0; count = n.1 }
row_sound (Some cpus) None first period count c f p n there = tt
row_sound (Some cpus) (Some cpu) None period count c f p n there = tt
row_sound (Some cpus) (Some cpu) (Some first) None count c f p n there = tt
row_sound (Some cpus) (Some cpu) (Some first) (Some period) None c f p n there = tt

below_sound : (cpus n : Option ℕ) → IfSome (cpu_below cpus n) (λ i. IfSome cpus (λ m. i < m))
below_sound None n = tt
below_sound (Some cpus) None = tt
below_sound (Some cpus) (Some n) = go (nat_lt n cpus) refl where
  go : (b : Bool) → nat_lt n cpus ≡ b → IfSome (if b then Some n else None) (λ i. i < cpus)
  go true is = grind (arith, nat_tests)
  go false is = tt

source_kept : (d e : Draft) (head : SourceHead) → IsSoundDraft d → with_source d head ≡ Ok e → IsSoundDraft e
source_kept d e head sound is = by_closed d.closed (is_whole d.settings) refl is where
  added : (row : SourceRow) → IsRow d.settings.cpus row → length d.sources < 32 → IsSoundDraft (record d { sources = d.sources ++ row ∷ [] })
  added row its room = record {
    settings = sound.settings;
    images = sound.images;
    apart = sound.apart;
    sources = all_push (IsRow d.settings.cpus) d.sources row sound.sources its;
    few = let more = length-append d.sources (row ∷ []) in omega (arith, more, room);
  }

  by_room : (row : SourceRow) (b : Bool) → nat_lt (length d.sources) 32 ≡ b → IsRow d.settings.cpus row → with_row d (if b then Ok row else Err Range) ≡ Ok e → IsSoundDraft e
  by_room row true room its there = let e_is : e ≡ record d { sources = d.sources ++ row ∷ [] } = cc in rw e_is (added row its (grind (arith, nat_tests)))
  by_room row false room its there = cc

  by_row : (o : Option SourceRow) → IfSome o (IsRow d.settings.cpus) → with_row d (if_room (length d.sources) o) ≡ Ok e → IsSoundDraft e
  by_row None its there = cc
  by_row (Some row) its there = by_room row (nat_lt (length d.sources) 32) refl its there

  by_closed : (closed whole : Bool) → is_whole d.settings ≡ whole →
      with_row d (if closed then Err Syntax else (if whole then if_room (length d.sources) (source_of d.settings.cpus head) else Err Missing)) ≡ Ok e → IsSoundDraft e
  by_closed true whole w there = cc
  by_closed false false w there = cc
  by_closed false true w there =
      by_row (source_of d.settings.cpus head)
      (row_sound d.settings.cpus (cpu_below d.settings.cpus head.cpu) (within 0 10000000 head.first) (within 1 10000000 head.period) (within 1 10000000 head.count)
      (below_sound d.settings.cpus head.cpu) (within-range 0 10000000 head.first) (within-range 1 10000000 head.period) (within-range 1 10000000 head.count)
      (whole_cpus d.settings.cpus _ w)) there

item_kept : (bytes : List ℕ) (d e : Draft) (item : Item) → IsSoundDraft d → ItemHasWords item → with_item bytes d item ≡ Ok e → IsSoundDraft e
item_kept bytes d e (FaultyLine line why) sound words is = cc
item_kept bytes d e (SettingLine line setting) sound words is =
    let p = settings-ok d e (with_setting d.settings setting) (on_line-ok line _ e is) in
    let k = setting_kept d.settings p.0 setting sound.settings words p.1 in
    let new : IsSoundDraft (record d { settings = p.0 }) = record {
      settings = k.sound;
      images = lie_in_more (ram_size d.settings) (ram_size p.0) d.images k.more sound.images;
      apart = sound.apart;
      sources = rows_more d.settings.cpus p.0.cpus d.sources (λ n set. setting_cpus d.settings p.0 setting n p.1 set) sound.sources;
      few = sound.few;
    } in
    rw p.2 new
item_kept bytes d e (SourceLine line head) sound words is = source_kept d e head sound (on_line-ok line (with_source d head) e is)
item_kept bytes d e (ImageBlock head block) sound words is =
    block_kept bytes (closing d) e head block (record { settings = sound.settings; images = sound.images; apart = sound.apart; sources = sound.sources; few = sound.few }) is

-- a scenario is what a sound draft comes to
pc-known : (cpus ram consoles : ℕ) (root : Root) (pc : Option ℕ) (images : List Image) (sources : List SourceRow) → root.pc ≡ pc → (1 ≤ cpus) × (cpus ≤ 8) → ram ≤ 14 → consoles ≤ 16 → IsSoundRoot root
    → AllByRecursion (IsIn (frames_size (Some ram))) images → AreApart images → AllByRecursion (IsSourceOf cpus) sources → length sources ≤ 32 → IfSome (with_pc cpus ram consoles root pc images sources) IsSound
pc-known cpus ram consoles root None images sources at p m c r lie apart rows few = tt
pc-known cpus ram consoles root (Some pc) images sources at p m c r lie apart rows few = let here = subst (λ o. IfSome o IsPc) at r.pc in record {
  some_cpu = p.0;
  cpus = p.1;
  ram = m;
  consoles = c;
  pc_aligned = here.0;
  pc = here.1;
  sp = r.sp;
  priority = r.priority;
  some_turn = r.some_turn;
  quantum = r.quantum;
  images = lie;
  apart = apart;
  sources = rows;
  few = few;
}

whole-sound : (cpus ram consoles : Option ℕ) (root : Option Root) (images : List Image) (sources : List SourceRow) → IfSome cpus (λ n. (1 ≤ n) × (n ≤ 8)) → IfSome ram (λ m. m ≤ 14) → IfSome consoles (λ c. c ≤ 16) → IfSome root IsSoundRoot
    → AllByRecursion (IsIn (frames_size ram)) images → AreApart images → AllByRecursion (IsRow cpus) sources → length sources ≤ 32 → IfSome (whole cpus ram consoles root images sources) IsSound
whole-sound (Some cpus) (Some ram) (Some consoles) (Some root) images sources p m c r lie apart rows few = pc-known cpus ram consoles root root.pc images sources refl p m c r lie apart rows few
whole-sound None _ _ _ images sources p m c r lie apart rows few = tt
whole-sound (Some cpus) None _ _ images sources p m c r lie apart rows few = tt
whole-sound (Some cpus) (Some ram) None _ images sources p m c r lie apart rows few = tt
whole-sound (Some cpus) (Some ram) (Some consoles) None images sources p m c r lie apart rows few = tt

pub or_missing-ok : (bytes : List ℕ) (o : Option Scenario) (s : Scenario) → or_missing bytes o ≡ Ok s → o ≡ Some s
or_missing-ok bytes None s is = cc
or_missing-ok bytes (Some t) s is = cc

read_sound : (bytes : List ℕ) (d : Draft) (its : List Item) (s : Scenario) → IsSoundDraft d → AllByRecursion ItemHasWords its → read_items bytes d its ≡ Ok s → IsSound s
read_sound bytes d [] s sound words is =
    let set = sound.settings in
    let there = whole-sound d.settings.cpus d.settings.ram d.settings.consoles d.settings.root d.images d.sources set.cpus set.ram set.consoles set.root sound.images sound.apart sound.sources sound.few in
    subst (λ o. IfSome o IsSound) (or_missing-ok bytes (finished d) s is) there
read_sound bytes d (item ∷ its) s sound words is =
    let a = and_then-ok (with_item bytes d item) _ s is in
    read_sound bytes a.0 its s (item_kept bytes d a.0 item sound words.0 a.1) words.1 a.2

-- the numbers of a statement
abbrev StatementHasWords : Statement → Type 0
StatementHasWords (Sets setting) = HasWords setting
StatementHasWords (Adds head) = Unit {0}
StatementHasWords (Begins head) = Unit {0}

mapped : {A B : Type 0} (P : A → Type 0) (Q : B → Type 0) (f : A → B) (o : Option A) → ((x : A) → P x → Q (f x)) → IfSome o P → IfSome (option_map f o) Q
mapped P Q f None h p = tt
mapped P Q f (Some x) h p = h x p

start_word : (text : List ℕ) → IfSome (start_of text) StartIsWord
start_word text = go (bytes_eq text (codes "entry")) where
  go : (b : Bool) → IfSome (if b then Some Entry else option_map Address (number_of text)) StartIsWord
  go true = tt
  go false = mapped (λ n. IfSome n IsWord) StartIsWord Address (number_of text) (λ n word. word) (word_kept (number text))

root_words : (start : Option Start) (sp priority quantum : Option (Option ℕ)) → IfSome start StartIsWord → IfSome sp (λ n. IfSome n IsWord) → IfSome (root_line start sp priority quantum) HasWords
root_words (Some pc) (Some sp) (Some priority) (Some quantum) p s = (p, s)
root_words None _ _ _ p s = tt
root_words (Some pc) None _ _ p s = tt
root_words (Some pc) (Some sp) None _ p s = tt
root_words (Some pc) (Some sp) (Some priority) None p s = tt

four_words : (pieces : List Piece) → IfSome (start_and_numbers pieces) HasWords
four_words [] = tt
four_words (a ∷ []) = tt
four_words (a ∷ b ∷ []) = tt
four_words (a ∷ b ∷ c ∷ []) = tt
four_words (a ∷ b ∷ c ∷ d ∷ []) = root_words (start_of a.text) (number_of b.text) (number_of c.text) (number_of d.text) (start_word a.text) (word_kept (number b.text))
four_words (a ∷ b ∷ c ∷ d ∷ e ∷ pieces) = tt

any_some : {A : Type 0} (o : Option A) → IfSome o (λ x. Unit {0})
any_some None = tt
any_some (Some x) = tt

statement_words : (pieces : List Piece) (k : Keyword) → IfSome (statement_of pieces k) StatementHasWords
statement_words pieces keyword.Cpus = mapped (λ n. Unit {0}) StatementHasWords (λ n. Sets (Cpus n)) (one_number pieces) (λ n p. tt) (any_some (one_number pieces))
statement_words pieces keyword.Ram = mapped (λ n. Unit {0}) StatementHasWords (λ n. Sets (Ram n)) (one_number pieces) (λ n p. tt) (any_some (one_number pieces))
statement_words pieces keyword.Consoles = mapped (λ n. Unit {0}) StatementHasWords (λ n. Sets (Consoles n)) (one_number pieces) (λ n p. tt) (any_some (one_number pieces))
statement_words pieces keyword.Root = mapped HasWords StatementHasWords Sets (start_and_numbers pieces) (λ setting p. p) (four_words pieces)
statement_words pieces keyword.Source = mapped (λ head. Unit {0}) StatementHasWords Adds (four_numbers pieces) (λ head p. tt) (any_some (four_numbers pieces))
statement_words pieces keyword.Image = mapped (λ head. Unit {0}) StatementHasWords Begins (address_and_form pieces) (λ head p. tt) (any_some (address_and_form pieces))

abbrev SaidHasWords : Result (Option Statement) Why → Type 0
SaidHasWords (Err why) = Unit {0}
SaidHasWords (Ok None) = Unit {0}
SaidHasWords (Ok (Some statement)) = StatementHasWords statement

by_words : (o : Option Statement) → IfSome o StatementHasWords → SaidHasWords (said_by o)
by_words None words = tt
by_words (Some statement) words = words

keyword_words : (pieces : List Piece) (o : Option Keyword) → IfSome (option_and_then (statement_of pieces) o) StatementHasWords
keyword_words pieces None = tt
keyword_words pieces (Some k) = statement_words pieces k

pieces_words : (pieces : List Piece) → SaidHasWords (said_in pieces)
pieces_words [] = tt
pieces_words (first ∷ pieces) = by_words _ (keyword_words pieces (keyword_named first.text))

said_words : (row : Row) → SaidHasWords (said row)
said_words row = go (has_forbidden row.text) refl where
  go : (b : Bool) → has_forbidden row.text ≡ b → SaidHasWords (said row)
  go true is = rw is tt
  go false is = rw is (pieces_words (tokens row.start row.text))

before_words : (row : Row) (r : Result (Option Statement) Why) (rows : List Row) (more : Bool → List Item) → SaidHasWords r → ((b : Bool) → AllByRecursion ItemHasWords (more b)) → AllByRecursion ItemHasWords (item_before row r rows more)
before_words row (Err why) rows more words rest = (tt, rest false)
before_words row (Ok None) rows more words rest = rest false
before_words row (Ok (Some (Sets setting))) rows more words rest = (words, rest false)
before_words row (Ok (Some (Adds head))) rows more words rest = (tt, rest false)
before_words row (Ok (Some (Begins head))) rows more words rest = (tt, rest true)

items_words : (rows : List Row) (in_block : Bool) → AllByRecursion ItemHasWords (items in_block rows)
items_words [] in_block = tt
items_words (row ∷ rows) true = items_words rows (not (is_end row))
items_words (row ∷ rows) false = before_words row (said row) rows (λ in_block. items in_block rows) (said_words row) (items_words rows)

-- at the beginning nothing is set and no image is there
empty_sound : IsSoundDraft empty
empty_sound = record { settings = record { cpus = tt; ram = tt; consoles = tt; root = tt }; images = tt; apart = tt; sources = tt; few = omega arith }

pub scenario_sound : (bytes : List ℕ) (s : Scenario) → scenario bytes ≡ Ok s → IsSound s
unfolding scenario
scenario_sound bytes s is = read_sound bytes empty (items false (lines bytes)) s empty_sound (items_words (lines bytes) false) is
