-- The segments of each executable are among the images.
use Rattle.std.proofs.Common.{◌≡◌, ℕ, ◌+◌, Bool, true, false, List, [], ◌∷◌, ◌++◌, map, Option, Some, None, Ok, Err, refl, ap, sym, ◌∙◌, subst, inl, inr, append_assoc, append-nil, Result}
use Rattle.std.specs.Prelude.{nat_lt}
use Rattle.std.specs.List.{AllByRecursion, list_any}
use Rattle.nova_elf.specs.Executable.{program}
use Rattle.nova_elf.specs.declared.program.Program.{Program}
use Rattle.nova_elf.specs.declared.program.Segment.{Segment}
use Rattle.nova_text.specs.Line.{lines}
use Rattle.nova_scenario.specs.Sources.{closing, row_in, with_row, with_source}
use Rattle.nova_scenario.specs.declared.fault.Why.{Why}
use Rattle.nova_scenario.specs.declared.source.SourceRow.{SourceRow}
use Rattle.nova_scenario.specs.declared.statement.SourceHead.{SourceHead}
use Rattle.nova_scenario.specs.Executables.{IsAmong, AreLaidIn, IsLaidBlock, IsLaidItem}
use Rattle.nova_scenario.specs.Fault.{on_line, and_then}
use Rattle.nova_scenario.specs.Images.{Draft, empty, end_of, shares, is_word_address, address_in, begun, with_apart, with_image}
use Rattle.nova_scenario.specs.Items.{Block, Item, FaultyLine, SettingLine, SourceLine, ImageBlock, items}
use Rattle.nova_scenario.specs.Scenario.{block_bytes, with_bytes, ended, with_block, with_item, with_pc, whole, finished, read_items, scenario}
use Rattle.nova_scenario.specs.Segments.{with_images, with_segments, with_settings, with_program, executable, with_executable, segment_image, reaches_past}
use Rattle.nova_scenario.specs.Settings.{entered, with_setting, is_whole, ram_size}
use Rattle.nova_scenario.specs.declared.fault.Why.TheVariants.{Missing, Range, Overlap}
use Rattle.nova_scenario.specs.declared.image.Image.{Image}
use Rattle.nova_scenario.specs.declared.scenario.Scenario.{Scenario}
use Rattle.nova_scenario.specs.declared.settings.Root.{Root}
use Rattle.nova_scenario.specs.declared.settings.Settings.{Settings}
use Rattle.nova_scenario.specs.declared.statement.Form.{Form}
use Rattle.nova_scenario.specs.declared.statement.Form.TheVariants as form
use Rattle.nova_scenario.specs.declared.statement.Head.{Head}
use Rattle.nova_scenario.proofs.SoundLemmas.{and_then-ok, on_line-ok, settings-ok, executable-ok, ended-ok, or_missing-ok}

-- one of some images is one of more
pub among_more : (image : Image) (images more : List Image) → IsAmong image images → IsAmong image (images ++ more)
among_more image [] more among = absurd among
among_more image (first ∷ images) more (inl is) = inl is
among_more image (first ∷ images) more (inr later) = inr (among_more image images more later)

pub among_last : (image : Image) (front rest : List Image) → IsAmong image (front ++ image ∷ rest)
among_last image [] rest = inl refl
among_last image (first ∷ front) rest = inr (among_last image front rest)

laid_more : (images more : List Image) (address : ℕ) (file : List ℕ) (segments : List Segment) → AreLaidIn images address file segments → AreLaidIn (images ++ more) address file segments
laid_more images more address file [] all = tt
laid_more images more address file (s ∷ segments) all = (among_more (segment_image address file s) images more all.0, laid_more images more address file segments all.1)

all_laid : (front : List Image) (address : ℕ) (file : List ℕ) (segments : List Segment) → AreLaidIn (front ++ map (segment_image address file) segments) address file segments
all_laid front address file [] = tt
all_laid front address file (s ∷ segments) =
    let image = segment_image address file s in
    let rest = map (segment_image address file) segments in (
      among_last image front rest,
      subst (λ images. AreLaidIn images address file segments) (append_assoc front (image ∷ []) rest) (all_laid (front ++ image ∷ []) address file segments),
    )

-- what is read only adds images
abbrev pub Grows : List Image → List Image → Type 0
Grows old new = (more : List Image) × (new ≡ old ++ more)

same_grows : (images : List Image) → Grows images images
same_grows images = ([], sym (append-nil images))

pub grows_on : (a b c : List Image) → Grows a b → Grows b c → Grows a c
grows_on a b c x y = (x.0 ++ y.0, y.1 ∙ ap (λ images. images ++ y.0) x.1 ∙ append_assoc a x.0 y.0)

apart_adds : (d e : Draft) (image : Image) → with_apart d image ≡ Ok e → e.images ≡ d.images ++ image ∷ []
apart_adds d e image is = go (list_any (shares image) d.images) refl where
  go : (meets : Bool) → list_any (shares image) d.images ≡ meets → e.images ≡ d.images ++ image ∷ []
  go true m = let same : Err Overlap ≡ Ok e = rw m at is in cc
  go false m = let same : Ok (record d { images = d.images ++ image ∷ [] }) ≡ Ok e = rw m at is in let e_is : e ≡ record d { images = d.images ++ image ∷ [] } = cc in ap (λ (x : Draft). x.images) e_is

pub image_adds : (d e : Draft) (image : Image) → with_image d image ≡ Ok e → e.images ≡ d.images ++ image ∷ []
image_adds d e image is = go (nat_lt (ram_size d.settings) (end_of image)) refl where
  go : (past : Bool) → nat_lt (ram_size d.settings) (end_of image) ≡ past → e.images ≡ d.images ++ image ∷ []
  go true p = let same : Err Range ≡ Ok e = rw p at is in cc
  go false p = apart_adds d e image (rw p at is)

images_add : (d e : Draft) (images : List Image) → with_images d images ≡ Ok e → e.images ≡ d.images ++ images
images_add d e [] is = let e_is : e ≡ d = cc in ap (λ (x : Draft). x.images) e_is ∙ sym (append-nil d.images)
images_add d e (image ∷ images) is =
    let a = and_then-ok (with_apart d image) (λ next. with_images next images) e is in
    images_add a.0 e images a.2 ∙ ap (λ i. i ++ images) (apart_adds d a.0 image a.1) ∙ append_assoc d.images (image ∷ []) images

segments_add : (d e : Draft) (address : ℕ) (file : List ℕ) (segments : List Segment) → with_segments address file segments d ≡ Ok e → e.images ≡ d.images ++ map (segment_image address file) segments
segments_add d e address file segments is = go (list_any (reaches_past (ram_size d.settings) address) segments) refl where
  go : (past : Bool) → list_any (reaches_past (ram_size d.settings) address) segments ≡ past → e.images ≡ d.images ++ map (segment_image address file) segments
  go true p = let same : Err Range ≡ Ok e = rw p at is in cc
  go false p = images_add d e (map (segment_image address file) segments) (rw p at is)

-- an executable adds its segments
pub executable_adds : (d e : Draft) (address : ℕ) (file : List ℕ) → with_executable d address file ≡ Ok e → (p : Program) × (program file ≡ Ok p) × (e.images ≡ d.images ++ map (segment_image address file) p.segments)
executable_adds d e address file is =
    let a = and_then-ok (executable (program file)) (λ p. with_program d address file p) e is in
    let entry = entered d.settings d.settings.root (address + a.0.entry) in
    let b = and_then-ok (with_settings d entry) (with_segments address file a.0.segments) e a.2 in
    let s = settings-ok d b.0 entry b.1 in
    let images = map (segment_image address file) a.0.segments in (
      a.0,
      executable-ok (program file) a.0 a.1,
      segments_add b.0 e address file a.0.segments b.2 ∙ ap (λ (x : Draft). x.images ++ images) s.2,
    )

executable_laid : (d e : Draft) (address : ℕ) (file : List ℕ) → with_executable d address file ≡ Ok e → (p : Program) × IsLaidBlock e.images address file p
executable_laid d e address file is =
    let a = executable_adds d e address file is in (
      a.0,
      record { is_program = a.1; laid = subst (λ i. AreLaidIn i address file a.0.segments) (sym a.2) (all_laid d.images address file a.0.segments) },
    )

bytes_grow : (d e : Draft) (f : Form) (address : ℕ) (bytes : List ℕ) → with_bytes f d address bytes ≡ Ok e → Grows d.images e.images
bytes_grow d e form.Hex address bytes is = (_, image_adds d e _ is)
bytes_grow d e form.Asm address bytes is = (_, image_adds d e _ is)
bytes_grow d e form.Elf address bytes is = let a = executable_adds d e address bytes is in (map (segment_image address bytes) a.0.segments, a.2)

pub address-is : (s : Settings) (o : Option ℕ) (address : ℕ) → begun s o ≡ Ok address → o ≡ Some address
address-is s o address is = go (is_whole s) refl o refl where
  within : (n : ℕ) (b : Bool) → is_word_address (ram_size s) n ≡ b → address_in (ram_size s) (Some n) ≡ Ok address → Some n ≡ Some address
  within n true t there = let same : Ok n ≡ Ok address = rw t at there in cc
  within n false t there = let same : Err Range ≡ Ok address = rw t at there in cc

  go : (b : Bool) → is_whole s ≡ b → (p : Option ℕ) → o ≡ p → o ≡ Some address
  go false t p at = let same : Err Missing ≡ Ok address = rw t at is in cc
  go true t None at = let same : address_in (ram_size s) o ≡ Ok address = rw t at is in let none : address_in (ram_size s) None ≡ Ok address = rw at at same in cc
  go true t (Some n) at = let same : address_in (ram_size s) o ≡ Ok address = rw t at is in at ∙ within n (is_word_address (ram_size s) n) refl (rw at at same)

block_laid : (bytes : List ℕ) (d e : Draft) (head : Head) (block : Block) → with_block bytes d head block ≡ Ok e → IsLaidItem e.images (ImageBlock head block) × Grows d.images e.images
block_laid bytes d e head block is =
    let a = and_then-ok (on_line block.first.number (begun d.settings head.address)) (λ address. and_then {B = Draft} (block_bytes bytes block head.form) (λ image_bytes. ended bytes block.end (with_bytes head.form d address image_bytes))) e is in
    let b = and_then-ok (block_bytes bytes block head.form) (λ image_bytes. ended bytes block.end (with_bytes head.form d a.0 image_bytes)) e a.2 in
    let laid = ended-ok bytes e block.end (with_bytes head.form d a.0 b.0) b.2 in
    let address = address-is d.settings head.address a.0 (on_line-ok block.first.number (begun d.settings head.address) a.0 a.1) in (
      λ of_form.
          let x = executable_laid d e a.0 b.0 (subst (λ f. with_bytes f d a.0 b.0 ≡ Ok e) of_form laid) in
          (a.0, b.0, x.0, address, subst (λ f. block_bytes bytes block f ≡ Ok b.0) of_form b.1, x.1),
      bytes_grow d e head.form a.0 b.0 laid,
    )

-- a source leaves the images
pub source-images : (d e : Draft) (head : SourceHead) → with_source d head ≡ Ok e → e.images ≡ d.images
source-images d e head is = go (row_in d head) is where
  go : (r : Result SourceRow Why) → with_row d r ≡ Ok e → e.images ≡ d.images
  go (Ok row) there = let e_is : e ≡ record d { sources = d.sources ++ row ∷ [] } = cc in ap (λ (x : Draft). x.images) e_is
  go (Err why) there = cc

item_laid : (bytes : List ℕ) (d e : Draft) (item : Item) → with_item bytes d item ≡ Ok e → IsLaidItem e.images item × Grows d.images e.images
item_laid bytes d e (FaultyLine line why) is = cc
item_laid bytes d e (SettingLine line setting) is =
    let p = settings-ok d e (with_setting d.settings setting) (on_line-ok line (with_settings d (with_setting d.settings setting)) e is) in
    (tt, subst (λ (x : Draft). Grows d.images x.images) (sym p.2) (same_grows d.images))
item_laid bytes d e (SourceLine line head) is = (tt, subst (λ (xs : List Image). Grows d.images xs) (sym (source-images d e head (on_line-ok line (with_source d head) e is))) (same_grows d.images))
item_laid bytes d e (ImageBlock head block) is = block_laid bytes (closing d) e head block is

-- what is laid stays so
item_stays : (old new : List Image) (item : Item) → Grows old new → IsLaidItem old item → IsLaidItem new item
item_stays old new (FaultyLine line why) grows laid = tt
item_stays old new (SettingLine line setting) grows laid = tt
item_stays old new (SourceLine line head) grows laid = tt
item_stays old new (ImageBlock head block) grows laid = λ of_form.
    let h = laid of_form in (
      h.0,
      h.1,
      h.2,
      h.3,
      h.4,
      record {
        is_program = h.5.is_program;
        laid = subst (λ i. AreLaidIn i h.0 h.1 h.2.segments) (sym grows.1) (laid_more old grows.0 h.0 h.1 h.2.segments h.5.laid);
      },
    )

pub whole-images : (cpus ram consoles : Option ℕ) (root : Option Root) (images : List Image) (sources : List SourceRow) (s : Scenario) → whole cpus ram consoles root images sources ≡ Some s → s.images ≡ images
whole-images (Some cpus) (Some ram) (Some consoles) (Some root) images sources s is = go root.pc is where
  go : (pc : Option ℕ) → with_pc cpus ram consoles root pc images sources ≡ Some s → s.images ≡ images
  go None there = cc
  go (Some pc) there = let s_is : s ≡ record { cpus = cpus; ram = ram; consoles = consoles; pc = pc; sp = root.sp; priority = root.priority; quantum = root.quantum; images = images; sources = sources } = cc in ap (λ (x : Scenario). x.images) s_is
whole-images None _ _ _ images sources s is = cc
whole-images (Some cpus) None _ _ images sources s is = cc
whole-images (Some cpus) (Some ram) None _ images sources s is = cc
whole-images (Some cpus) (Some ram) (Some consoles) None images sources s is = cc

read_laid : (bytes : List ℕ) (d : Draft) (its : List Item) (s : Scenario) → read_items bytes d its ≡ Ok s → AllByRecursion (IsLaidItem s.images) its × Grows d.images s.images
read_laid bytes d [] s is =
    let same = whole-images d.settings.cpus d.settings.ram d.settings.consoles d.settings.root d.images d.sources s (or_missing-ok bytes (finished d) s is) in
    (tt, subst (Grows d.images) (sym same) (same_grows d.images))
read_laid bytes d (item ∷ its) s is =
    let a = and_then-ok (with_item bytes d item) (λ e. read_items bytes e its) s is in
    let here = item_laid bytes d a.0 item a.1 in
    let rest = read_laid bytes a.0 its s a.2 in
    ((item_stays a.0.images s.images item rest.1 here.0, rest.0), grows_on d.images a.0.images s.images here.1 rest.1)

pub executables_laid : (bytes : List ℕ) (s : Scenario) → scenario bytes ≡ Ok s → AllByRecursion (IsLaidItem s.images) (items false (lines bytes))
unfolding scenario
executables_laid bytes s is = (read_laid bytes empty (items false (lines bytes)) s is).0
