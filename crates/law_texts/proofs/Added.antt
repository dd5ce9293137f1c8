-- The image of each block of words is one of the scenario's.
use Rattle.std.proofs.Common.{◌≡◌, ℕ, List, [], ◌∷◌, ◌++◌, map, Some, refl, ap, sym, ◌∙◌, subst, append-nil}
use Rattle.std.specs.Prelude.{false, Result, Ok, Err}
use Rattle.std.specs.List.{AllByRecursion}
use Rattle.nova_model.specs.Memory.{Memory}
use Rattle.nova_text.specs.Line.{lines}
use Rattle.nova_scenario.specs.Executables.{IsAmong}
use Rattle.nova_scenario.specs.Fault.{At, on_line, and_then}
use Rattle.nova_scenario.specs.Images.{Draft, empty, begun}
use Rattle.nova_scenario.specs.Items.{Block, Item, FaultyLine, SettingLine, SourceLine, ImageBlock, items}
use Rattle.nova_scenario.specs.Scenario.{block_bytes, with_bytes, ended, with_block, with_item, finished, read_items, scenario}
use Rattle.nova_scenario.specs.Segments.{with_settings, segment_image}
use Rattle.nova_scenario.specs.Settings.{with_setting}
use Rattle.nova_scenario.specs.Sources.{closing, with_source}
use Rattle.nova_scenario.specs.Words.{hex_words, asm_words, bytes_of, in_bytes}
use Rattle.nova_scenario.specs.declared.image.Image.{Image}
use Rattle.nova_scenario.specs.declared.scenario.Scenario.{Scenario}
use Rattle.nova_scenario.specs.declared.statement.Form.{Form}
use Rattle.nova_scenario.specs.declared.statement.Form.TheVariants as form
use Rattle.nova_scenario.specs.declared.statement.Head.{Head}
use Rattle.nova_scenario.proofs.LaidLemmas.{Grows, address-is, among_last, among_more, executable_adds, grows_on, image_adds, source-images, whole-images}
use Rattle.nova_scenario.proofs.SoundLemmas.{and_then-ok, on_line-ok, settings-ok, ended-ok, or_missing-ok}
use Rattle.nova_boot.specs.Lying.{LiesThere}
use Rattle.nova_boot.proofs.Among.{of_one}
use Rattle.law_texts.specs.Words.{HoldsBlock, HoldsItem}
use Rattle.law_texts.proofs.Bytes.{words_lie}

-- the image of a block of words is among some images
record IsAdded (images : List Image) (said : Result (List ℕ) At) (head : Head) : Type 0 where
  address : ℕ
  there : head.address ≡ Some address
  words : List ℕ
  are : said ≡ Ok words
  among : IsAmong (record { address = address; bytes = bytes_of words }) images

abbrev IsAddedBlock : List Image → List ℕ → Form → Head → Block → Type 0
IsAddedBlock images bytes form.Hex head block = IsAdded images (hex_words block.lines) head
IsAddedBlock images bytes form.Asm head block = IsAdded images (asm_words bytes block) head
IsAddedBlock images bytes form.Elf head block = Unit {0}

abbrev IsAddedItem : List Image → List ℕ → Item → Type 0
IsAddedItem images bytes (FaultyLine line why) = Unit {0}
IsAddedItem images bytes (SettingLine line setting) = Unit {0}
IsAddedItem images bytes (SourceLine line head) = Unit {0}
IsAddedItem images bytes (ImageBlock head block) = IsAddedBlock images bytes head.form head block

-- IMAGES STAY

stays : (old new : List Image) (said : Result (List ℕ) At) (head : Head) → Grows old new → IsAdded old said head → IsAdded new said head
stays old new said head grows is = record {
  address = is.address;
  there = is.there;
  words = is.words;
  are = is.are;
  among = subst (IsAmong (record { address = is.address; bytes = bytes_of is.words })) (sym grows.1) (among_more _ old grows.0 is.among);
}

block_stays : (old new : List Image) (bytes : List ℕ) (f : Form) (head : Head) (block : Block) → Grows old new → IsAddedBlock old bytes f head block → IsAddedBlock new bytes f head block
block_stays old new bytes form.Hex head block grows is = stays old new (hex_words block.lines) head grows is
block_stays old new bytes form.Asm head block grows is = stays old new (asm_words bytes block) head grows is
block_stays old new bytes form.Elf head block grows is = tt

item_stays : (old new : List Image) (bytes : List ℕ) (item : Item) → Grows old new → IsAddedItem old bytes item → IsAddedItem new bytes item
item_stays old new bytes (FaultyLine line why) grows is = tt
item_stays old new bytes (SettingLine line setting) grows is = tt
item_stays old new bytes (SourceLine line head) grows is = tt
item_stays old new bytes (ImageBlock head block) grows is = block_stays old new bytes head.form head block grows is

-- AND ARE ADDED

in_bytes-ok : (r : Result (List ℕ) At) (laid : List ℕ) → in_bytes r ≡ Ok laid → (ws : List ℕ) × (r ≡ Ok ws) × (laid ≡ bytes_of ws)
in_bytes-ok (Ok ws) laid is = (ws, refl, cc)
in_bytes-ok (Err fault) laid is = cc

words_added : (d e : Draft) (said : Result (List ℕ) At) (head : Head) (address : ℕ) (laid : List ℕ) → head.address ≡ Some address → in_bytes said ≡ Ok laid →
    e.images ≡ d.images ++ record { address = address; bytes = laid } ∷ [] → IsAdded e.images said head
words_added d e said head address laid at are adds =
    let w = in_bytes-ok said laid are in
    let image : Image = record { address = address; bytes = laid } in record {
      address = address;
      there = at;
      words = w.0;
      are = w.1;
      among = subst (λ b. IsAmong (record { address = address; bytes = b }) e.images) w.2 (subst (IsAmong image) (sym adds) (among_last image d.images []));
    }

bytes_added : (bytes : List ℕ) (d e : Draft) (f : Form) (head : Head) (block : Block) (address : ℕ) (laid : List ℕ) → head.address ≡ Some address →
    block_bytes bytes block f ≡ Ok laid → with_bytes f d address laid ≡ Ok e → IsAddedBlock e.images bytes f head block × Grows d.images e.images
bytes_added bytes d e form.Hex head block address laid at are is =
    let adds = image_adds d e _ is in (words_added d e (hex_words block.lines) head address laid at are adds, (_, adds))
bytes_added bytes d e form.Asm head block address laid at are is =
    let adds = image_adds d e _ is in (words_added d e (asm_words bytes block) head address laid at are adds, (_, adds))
bytes_added bytes d e form.Elf head block address laid at are is =
    let a = executable_adds d e address laid is in (tt, (map (segment_image address laid) a.0.segments, a.2))

block_added : (bytes : List ℕ) (d e : Draft) (head : Head) (block : Block) → with_block bytes d head block ≡ Ok e → IsAddedBlock e.images bytes head.form head block × Grows d.images e.images
block_added bytes d e head block is =
    let a = and_then-ok (on_line block.first.number (begun d.settings head.address)) (λ address. and_then {B = Draft} (block_bytes bytes block head.form) (λ image_bytes. ended bytes block.end (with_bytes head.form d address image_bytes))) e is in
    let b = and_then-ok (block_bytes bytes block head.form) (λ image_bytes. ended bytes block.end (with_bytes head.form d a.0 image_bytes)) e a.2 in
    let begins = on_line-ok block.first.number (begun d.settings head.address) a.0 a.1 in
    bytes_added bytes d e head.form head block a.0 b.0 (address-is d.settings head.address a.0 begins) b.1
    (ended-ok bytes e block.end (with_bytes head.form d a.0 b.0) b.2)

item_added : (bytes : List ℕ) (d e : Draft) (item : Item) → with_item bytes d item ≡ Ok e → IsAddedItem e.images bytes item × Grows d.images e.images
item_added bytes d e (FaultyLine line why) is = cc
item_added bytes d e (SettingLine line setting) is =
    let p = settings-ok d e (with_setting d.settings setting) (on_line-ok line (with_settings d (with_setting d.settings setting)) e is) in
    (tt, ([], ap (λ (x : Draft). x.images) p.2 ∙ sym (append-nil d.images)))
item_added bytes d e (SourceLine line head) is =
    (tt, ([], source-images d e head (on_line-ok line (with_source d head) e is) ∙ sym (append-nil d.images)))
item_added bytes d e (ImageBlock head block) is = block_added bytes (closing d) e head block is

read_added : (bytes : List ℕ) (d : Draft) (its : List Item) (s : Scenario) → read_items bytes d its ≡ Ok s → AllByRecursion (IsAddedItem s.images bytes) its × Grows d.images s.images
read_added bytes d [] s is =
    (tt, ([], whole-images d.settings.cpus d.settings.ram d.settings.consoles d.settings.root d.images d.sources s (or_missing-ok bytes (finished d) s is) ∙ sym (append-nil d.images)))
read_added bytes d (item ∷ its) s is =
    let a = and_then-ok (with_item bytes d item) (λ e. read_items bytes e its) s is in
    let here = item_added bytes d a.0 item a.1 in
    let rest = read_added bytes a.0 its s a.2 in
    ((item_stays a.0.images s.images bytes item rest.1 here.0, rest.0), grows_on d.images a.0.images s.images here.1 rest.1)

-- SO THEY LIE IN MEMORY

module _ (m : Memory) (images : List Image) (there : AllByRecursion (LiesThere m) images) (bytes : List ℕ) where
  block_held : (f : Form) (head : Head) (block : Block) → IsAddedBlock images bytes f head block → HoldsBlock m bytes f head block
  block_held form.Hex head block is = record {
    address = is.address;
    there = is.there;
    words = is.words;
    are = is.are;
    lie = words_lie m is.address is.words (of_one (LiesThere m) (record { address = is.address; bytes = bytes_of is.words }) images there is.among);
  }
  block_held form.Asm head block is = record {
    address = is.address;
    there = is.there;
    words = is.words;
    are = is.are;
    lie = words_lie m is.address is.words (of_one (LiesThere m) (record { address = is.address; bytes = bytes_of is.words }) images there is.among);
  }
  block_held form.Elf head block is = tt

  items_held : (its : List Item) → AllByRecursion (IsAddedItem images bytes) its → AllByRecursion (HoldsItem m bytes) its
  items_held [] all = tt
  items_held (FaultyLine line why ∷ its) all = (tt, items_held its all.1)
  items_held (SettingLine line setting ∷ its) all = (tt, items_held its all.1)
  items_held (SourceLine line head ∷ its) all = (tt, items_held its all.1)
  items_held (ImageBlock head block ∷ its) all = (block_held head.form head block all.0, items_held its all.1)

pub words_held : (bytes : List ℕ) (s : Scenario) (m : Memory) → scenario bytes ≡ Ok s → AllByRecursion (LiesThere m) s.images → AllByRecursion (HoldsItem m bytes) (items false (lines bytes))
unfolding scenario
words_held bytes s m is there = items_held m s.images there bytes (items false (lines bytes)) (read_added bytes empty (items false (lines bytes)) s is).0
