-- Each image is that of a block of words, at a multiple of 4, or of a segment of an executable.
use Rattle.std.proofs.Common.{◌≡◌, ℕ, ◌%◌, Bool, true, false, ◌||◌, List, [], ◌∷◌, ◌++◌, map, Option, Some, None, Ok, Err, refl, sym, subst, inl, inr, append_assoc, arith}
use Rattle.std.specs.List.{AllByRecursion, list_any}
use Rattle.std.proofs.lemmas.Bool.Decides.{nat_tests}
use Rattle.nova_text.specs.Line.{lines}
use Rattle.nova_scenario.specs.Sources.{closing, with_source}
use Rattle.nova_scenario.specs.Executables.{IsAmong}
use Rattle.nova_scenario.specs.Fault.{on_line, and_then}
use Rattle.nova_scenario.specs.Images.{Draft, empty, is_word_address, address_in, begun}
use Rattle.nova_scenario.specs.Items.{Block, Item, FaultyLine, SettingLine, SourceLine, ImageBlock, items}
use Rattle.nova_scenario.specs.Origins.{IsOfExecutable, IsOfBlock, IsOfItem, IsOfSome, is_executable, has_executable, HaveWordsAlone}
use Rattle.nova_scenario.specs.Scenario.{block_bytes, with_bytes, ended, with_block, with_item, finished, read_items, scenario}
use Rattle.nova_scenario.specs.Segments.{with_settings, segment_image}
use Rattle.nova_scenario.specs.Settings.{with_setting, is_whole, ram_size}
use Rattle.nova_scenario.specs.Sound.{IsAligned}
use Rattle.nova_scenario.specs.declared.fault.Why.TheVariants.{Missing, Range}
use Rattle.nova_scenario.specs.declared.image.Image.{Image}
use Rattle.nova_scenario.specs.declared.scenario.Scenario.{Scenario}
use Rattle.nova_scenario.specs.declared.settings.Settings.{Settings}
use Rattle.nova_scenario.specs.declared.statement.Form.{Form}
use Rattle.nova_scenario.specs.declared.statement.Form.TheVariants as form
use Rattle.nova_scenario.specs.declared.statement.Head.{Head}
use Rattle.nova_scenario.proofs.SoundLemmas.{and_then-ok, on_line-ok, settings-ok, ended-ok, or_missing-ok}
use Rattle.nova_scenario.proofs.LaidLemmas.{source-images, among_last, image_adds, executable_adds, address-is, whole-images}

-- what holds of each of a list
all_on : {A : Type 0} (P Q : A → Type 0) (xs : List A) → ((x : A) → P x → Q x) → AllByRecursion P xs → AllByRecursion Q xs
all_on P Q [] more all = tt
all_on P Q (x ∷ xs) more all = (more x all.0, all_on P Q xs more all.1)

all_joined : (P : Image → Type 0) (xs ys : List Image) → AllByRecursion P xs → AllByRecursion P ys → AllByRecursion P (xs ++ ys)
all_joined P [] ys all more = more
all_joined P (x ∷ xs) ys all more = (all.0, all_joined P xs ys all.1 more)

each_among : (front rest : List Image) → AllByRecursion (λ image. IsAmong image (front ++ rest)) rest
each_among front [] = tt
each_among front (image ∷ rest) = (
  among_last image front rest,
  subst (λ images. AllByRecursion (λ i. IsAmong i images) rest) (append_assoc front (image ∷ []) rest) (each_among (front ++ image ∷ []) rest),
)

-- the address of a block is a multiple of 4
address_aligned : (ram : ℕ) (o : Option ℕ) (address : ℕ) → address_in ram o ≡ Ok address → address % 4 ≡ 0
address_aligned ram None address is = cc
address_aligned ram (Some n) address is = go (is_word_address ram n) refl where
  go : (b : Bool) → is_word_address ram n ≡ b → address % 4 ≡ 0
  go true t = let same : Ok n ≡ Ok address = rw t at is in let n_is : n ≡ address = cc in grind (arith, nat_tests)
  go false t = let same : Err Range ≡ Ok address = rw t at is in cc

begun_aligned : (s : Settings) (o : Option ℕ) (address : ℕ) → begun s o ≡ Ok address → address % 4 ≡ 0
begun_aligned s o address is = go (is_whole s) refl where
  go : (b : Bool) → is_whole s ≡ b → address % 4 ≡ 0
  go true t = address_aligned (ram_size s) o address (rw t at is)
  go false t = let same : Err Missing ≡ Ok address = rw t at is in cc

-- what is added is of an item
abbrev Adds : (Image → Type 0) → List Image → List Image → Type 0
Adds P old new = (more : List Image) × (new ≡ old ++ more) × AllByRecursion P more

bytes_add : (bytes : List ℕ) (d e : Draft) (f : Form) (head : Head) (block : Block) (address : ℕ) (laid : List ℕ) → head.address ≡ Some address → address % 4 ≡ 0
    → block_bytes bytes block f ≡ Ok laid → with_bytes f d address laid ≡ Ok e → Adds (IsOfBlock bytes f head block) d.images e.images
bytes_add bytes d e form.Hex head block address laid at aligned of_block is =
    (record { address = address; bytes = laid } ∷ [], image_adds d e _ is, (record { address = at; aligned = aligned; bytes = of_block }, tt))
bytes_add bytes d e form.Asm head block address laid at aligned of_block is =
    (record { address = address; bytes = laid } ∷ [], image_adds d e _ is, (record { address = at; aligned = aligned; bytes = of_block }, tt))
bytes_add bytes d e form.Elf head block address laid at aligned of_block is =
    let a = executable_adds d e address laid is in
    let images = map (segment_image address laid) a.0.segments in
    (images, a.2, all_on (λ i. IsAmong i images) (IsOfExecutable head block) images (λ i among. (address, laid, a.0, at, of_block, a.1, among)) (each_among [] images))

block_adds : (bytes : List ℕ) (d e : Draft) (head : Head) (block : Block) → with_block bytes d head block ≡ Ok e → Adds (IsOfItem bytes (ImageBlock head block)) d.images e.images
block_adds bytes d e head block is =
    let a = and_then-ok (on_line block.first.number (begun d.settings head.address)) (λ address. and_then {B = Draft} (block_bytes bytes block head.form) (λ image_bytes. ended bytes block.end (with_bytes head.form d address image_bytes))) e is in
    let b = and_then-ok (block_bytes bytes block head.form) (λ image_bytes. ended bytes block.end (with_bytes head.form d a.0 image_bytes)) e a.2 in
    let begins = on_line-ok block.first.number (begun d.settings head.address) a.0 a.1 in
    bytes_add bytes d e head.form head block a.0 b.0 (address-is d.settings head.address a.0 begins) (begun_aligned d.settings head.address a.0 begins) b.1
    (ended-ok bytes e block.end (with_bytes head.form d a.0 b.0) b.2)

-- what each image of an item is, all images are
item_adds : (bytes : List ℕ) (d e : Draft) (item : Item) (P : Image → Type 0) → ((image : Image) → IsOfItem bytes item image → P image) → AllByRecursion P d.images → with_item bytes d item ≡ Ok e → AllByRecursion P e.images
item_adds bytes d e (FaultyLine line why) P each all is = cc
item_adds bytes d e (SettingLine line setting) P each all is =
    let p = settings-ok d e (with_setting d.settings setting) (on_line-ok line (with_settings d (with_setting d.settings setting)) e is) in
    subst (λ (x : Draft). AllByRecursion P x.images) (sym p.2) all
item_adds bytes d e (SourceLine line head) P each all is =
    subst (AllByRecursion P) (sym (source-images d e head (on_line-ok line (with_source d head) e is))) all
item_adds bytes d e (ImageBlock head block) P each all is =
    let a = block_adds bytes (closing d) e head block is in
    subst (AllByRecursion P) (sym a.1) (all_joined P d.images a.0 all (all_on (IsOfItem bytes (ImageBlock head block)) P a.0 each a.2))

abbrev EachGives : List ℕ → (Image → Type 0) → List Item → Type 0
EachGives bytes P its = AllByRecursion (λ item. (image : Image) → IsOfItem bytes item image → P image) its

read_adds : (bytes : List ℕ) (d : Draft) (its : List Item) (s : Scenario) (P : Image → Type 0) → EachGives bytes P its → AllByRecursion P d.images → read_items bytes d its ≡ Ok s → AllByRecursion P s.images
read_adds bytes d [] s P each all is =
    subst (AllByRecursion P) (sym (whole-images d.settings.cpus d.settings.ram d.settings.consoles d.settings.root d.images d.sources s (or_missing-ok bytes (finished d) s is))) all
read_adds bytes d (item ∷ its) s P each all is =
    let a = and_then-ok (with_item bytes d item) (λ e. read_items bytes e its) s is in
    read_adds bytes a.0 its s P each.1 (item_adds bytes d a.0 item P each.0 all a.1) a.2

-- each item's images are of one of the items
of_some : (bytes : List ℕ) (its : List Item) → EachGives bytes (IsOfSome bytes its) its
of_some bytes [] = tt
of_some bytes (item ∷ its) = (
  λ image is. inl is,
  all_on (λ i. (image : Image) → IsOfItem bytes i image → IsOfSome bytes its image) (λ i. (image : Image) → IsOfItem bytes i image → IsOfSome bytes (item ∷ its) image) its
      (λ i is image of_i. inr (is image of_i)) (of_some bytes its),
)

pub images_are_of_items : (bytes : List ℕ) (s : Scenario) → scenario bytes ≡ Ok s → AllByRecursion (IsOfSome bytes (items false (lines bytes))) s.images
unfolding scenario
images_are_of_items bytes s is = read_adds bytes empty (items false (lines bytes)) s _ (of_some bytes (items false (lines bytes))) tt is

-- where no item is an executable, each begins at a multiple of 4
words_aligned : (bytes : List ℕ) (f : Form) (head : Head) (block : Block) (image : Image) → is_executable f ≡ false → IsOfBlock bytes f head block image → IsAligned image
words_aligned bytes form.Hex head block image alone is = is.aligned
words_aligned bytes form.Asm head block image alone is = is.aligned
words_aligned bytes form.Elf head block image alone is = cc

item_aligned : (bytes : List ℕ) (item : Item) → has_executable item ≡ false → (image : Image) → IsOfItem bytes item image → IsAligned image
item_aligned bytes (FaultyLine line why) alone image is = absurd is
item_aligned bytes (SettingLine line setting) alone image is = absurd is
item_aligned bytes (SourceLine line head) alone image is = absurd is
item_aligned bytes (ImageBlock head block) alone image is = words_aligned bytes head.form head block image alone is

or_false : (a b : Bool) → (a || b) ≡ false → (a ≡ false) × (b ≡ false)
or_false true b e = cc
or_false false b e = (refl, e)

all_aligned : (bytes : List ℕ) (its : List Item) → HaveWordsAlone its → EachGives bytes IsAligned its
all_aligned bytes [] alone = tt
all_aligned bytes (item ∷ its) alone =
    let both = or_false (has_executable item) (list_any has_executable its) alone in
    (item_aligned bytes item both.0, all_aligned bytes its both.1)

pub images_are_aligned : (bytes : List ℕ) (s : Scenario) → scenario bytes ≡ Ok s → HaveWordsAlone (items false (lines bytes)) → AllByRecursion IsAligned s.images
unfolding scenario
images_are_aligned bytes s is alone = read_adds bytes empty (items false (lines bytes)) s IsAligned (all_aligned bytes (items false (lines bytes)) alone) tt is
