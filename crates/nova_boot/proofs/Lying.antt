-- Images that lie apart all lie in RAM once they were laid there, and the rest of RAM is 0.
use Rattle.std.proofs.Common.{◌≡◌, ℕ, zero, suc, ◌+◌, ◌-◌, ◌*◌, ◌/◌, ◌%◌, ◌^◌, ◌<◌, ◌≤◌, ◌⊎◌, List, [], ◌∷◌, ◌++◌, length, map, take, drop, replicate, get_or, slice_get, Some, refl, ap, sym, ◌∙◌, subst, inl, inr, arith}
use Rattle.std.specs.Prelude.{slice_index, slice_range}
use Rattle.std.specs.List.{AllByRecursion}
use Rattle.std.proofs.lemmas.Bool.{cases_lt}
use Rattle.std.proofs.lemmas.List.{length-append, length-take-le, length-drop, length-replicate, get_or-replicate, get_or_append_left, get_or-append-add, get_or-take, get_or-drop}
use Rattle.std.proofs.lemmas.List.Elements.{All-replicate}
use Rattle.std.proofs.lemmas.Option.{slice_get-get_or}
use Rattle.nova_elf.specs.SegmentFits.{SegmentFits}
use Rattle.nova_elf.specs.declared.program.Segment.{Segment}
use Rattle.nova_frames.specs.Store.{AreWhole}
use Rattle.nova_model.specs.Boot.{laid, with_image, with_images}
use Rattle.nova_model.specs.Memory.{Memory, read}
use Rattle.nova_model.specs.State.{KernelState}
use Rattle.nova_guest.specs.Frames.{read_in}
use Rattle.nova_scenario.specs.Images.{end_of}
use Rattle.nova_scenario.specs.Segments.{segment_image}
use Rattle.nova_scenario.specs.Sound.{LiesAt, ShareNone, AreApart as ImagesAreApart}
use Rattle.nova_scenario.specs.declared.image.Image.{Image}
use Rattle.nova_memory.proofs.Remembered.{LeavesOthers}
use Rattle.nova_boot.specs.Boot.{image_of, EndsWithin, LieInRam}
use Rattle.nova_boot.specs.Laid.{byte_at, IsLaid}
use Rattle.nova_boot.specs.Lying.{LiesThere, HoldsImages, HoldsSegment}
use Rattle.nova_boot.proofs.Laid.{GivesStored, laid_there, laid_whole}

abbrev IsNotAt : ℕ → Image → Type 0
IsNotAt address image = LiesAt image address → ⊥

-- an image that is laid, as far as others than its bytes go
module _ (stored : GivesStored) (leaves : LeavesOthers) where
  abbrev Sized : KernelState → List Image → Type 0
  Sized k images = AreWhole k.memory.ram × LieInRam (4096 * length k.memory.ram) images

  next_sized : (k : KernelState) (image : Image) (images : List Image) → Sized k (image ∷ images) → Sized (with_image k (image_of image)) images
  next_sized k image images sized =
      let w = laid_whole k.memory image.address image.bytes sized.0 sized.1.0 in
      (w.0, subst (λ n. LieInRam (4096 * n) images) (sym w.1) sized.1.1)

  first_laid : (k : KernelState) (image : Image) (images : List Image) → Sized k (image ∷ images) → IsLaid k.memory image.address image.bytes (with_image k (image_of image)).memory
  first_laid k image images sized = laid_there stored leaves k.memory image.address image.bytes sized.0 sized.1.0

  elsewhere : (address : ℕ) (image : Image) → IsNotAt address image → (address < image.address) ⊎ (end_of image ≤ address)
  elsewhere address image away = go (cases_lt address image.address) (cases_lt address (end_of image)) where
    go : (address < image.address) ⊎ (image.address ≤ address) → (address < end_of image) ⊎ (end_of image ≤ address) → (address < image.address) ⊎ (end_of image ≤ address)
    go (inl before) side = inl before
    go (inr from) (inl below) = absurd (away (from, below))
    go (inr from) (inr past) = inr past

  -- a byte that no image has stays
  byte_kept : (k : KernelState) (images : List Image) (address : ℕ) → Sized k images → AllByRecursion (IsNotAt address) images → byte_at (with_images k (map image_of images)).memory address ≡ byte_at k.memory address
  byte_kept k [] address sized away = refl
  byte_kept k (image ∷ images) address sized away =
      byte_kept (with_image k (image_of image)) images address (next_sized k image images sized) away.1
      ∙ (first_laid k image images sized).others address (elsewhere address image away.0)

  away_of : (address : ℕ) (image : Image) (images : List Image) → LiesAt image address → AllByRecursion (ShareNone image) images → AllByRecursion (IsNotAt address) images
  away_of address image [] at apart = tt
  away_of address image (other ∷ images) at apart = (λ in_other. apart.0 address at in_other, away_of address image images at apart.1)

  -- so each image lies where it was laid
  pub each_there : (k : KernelState) (images : List Image) → Sized k images → ImagesAreApart images → AllByRecursion (LiesThere (with_images k (map image_of images)).memory) images
  each_there k [] sized apart = tt
  each_there k (image ∷ images) sized apart =
      let next = next_sized k image images sized in (
        λ j below.
            byte_kept (with_image k (image_of image)) images (image.address + j) next (away_of (image.address + j) image images (omega arith, omega arith) apart.0)
            ∙ (first_laid k image images sized).laid j below,
        each_there (with_image k (image_of image)) images next apart.1,
      )

  ram_kept : (k : KernelState) (images : List Image) → Sized k images → length (with_images k (map image_of images)).memory.ram ≡ length k.memory.ram
  ram_kept k [] sized = refl
  ram_kept k (image ∷ images) sized =
      ram_kept (with_image k (image_of image)) images (next_sized k image images sized) ∙ (laid_whole k.memory image.address image.bytes sized.0 sized.1.0).1

  pub holds : (k : KernelState) (images : List Image) → Sized k images → ImagesAreApart images → ((address : ℕ) → address < 4096 * length k.memory.ram → byte_at k.memory address ≡ 0) →
      HoldsImages images (with_images k (map image_of images)).memory
  holds k images sized apart empty = record {
    there = each_there k images sized apart;
    others = λ address below away. byte_kept k images address sized away ∙ empty address (let same = ram_kept k images sized in omega arith);
  }

-- RAM begins with zeros
pub empty_whole : (frames : ℕ) → AreWhole (replicate frames (replicate 4096 0))
empty_whole frames = All-replicate (λ (bytes : List ℕ). length bytes ≡ 4096) frames (replicate 4096 0) (length-replicate {A = ℕ} 4096 0)

pub empty_byte : (m : Memory) (frames address : ℕ) → m.ram ≡ replicate frames (replicate 4096 0) → address < 4096 * frames → byte_at m address ≡ 0
empty_byte m frames address is below =
    let frame = address / 4096 in
    let zeros : List ℕ = replicate 4096 0 in
    let there : frame < frames = omega arith in
    let found : slice_get (replicate frames zeros) frame ≡ Some zeros =
    slice_get-get_or (replicate frames zeros) frame zeros (let len = length-replicate frames zeros in omega arith)
    ∙ ap Some (get_or-replicate frames frame zeros zeros there) in
    let byte : get_or (drop (address % 4096) zeros) 0 0 ≡ 0 =
    get_or-drop (address % 4096) zeros 0 0 ∙ get_or-replicate 4096 (address % 4096 + 0) 0 0 (omega arith) in
    ap (λ ram. read_in (slice_get ram frame) (address % 4096) 1) is
    ∙ ap (λ o. read_in o (address % 4096) 1) found
    ∙ omega (arith, byte)

-- the bytes of a segment's image
module _ (address : ℕ) (file : List ℕ) (s : Segment) (fits : SegmentFits (length file) s) where
  abbrev front : List ℕ
  front = slice_range file s.offset (s.offset + s.file)

  abbrev back : List ℕ
  back = replicate (s.memory - s.file) 0

  front_size : length front ≡ s.file
  front_size =
      let count : (s.offset + s.file) - s.offset ≡ s.file = omega arith in
      let w = fits.within in
      ap (λ n. length (take n (drop s.offset file))) count ∙ length-take-le s.file (drop s.offset file) (let d = length-drop s.offset file in omega arith)

  pub image_size : length (segment_image address file s).bytes ≡ s.memory
  image_size = let r = fits.room in omega (arith, front_size, length-append front back, length-replicate (s.memory - s.file) zero)

  pub image_byte : (j : ℕ) → j < s.file → slice_index (segment_image address file s).bytes j ≡ slice_index file (s.offset + j)
  image_byte j below =
      get_or_append_left front back 0 j (let f = front_size in omega arith)
      ∙ get_or-take ((s.offset + s.file) - s.offset) (drop s.offset file) j 0 (omega arith)
      ∙ get_or-drop s.offset file j 0

  pub image_zero : (j : ℕ) → s.file ≤ j → j < s.memory → slice_index (segment_image address file s).bytes j ≡ 0
  image_zero j from below =
      let place : j ≡ length front + (j - s.file) = let f = front_size in omega arith in
      ap (λ i. get_or (front ++ back) i 0) place
      ∙ get_or-append-add front back (j - s.file) 0
      ∙ get_or-replicate (s.memory - s.file) (j - s.file) 0 0 (omega arith)

  pub segment_held : (m : Memory) → ((i : ℕ) → slice_index file i < 256) → LiesThere m (segment_image address file s) → HoldsSegment m address file s
  segment_held m small there = record {
    bytes = λ j below.
        there j (let n = image_size in let r = fits.room in omega arith)
        ∙ ap (λ b. b % 256) (image_byte j below)
        ∙ (let b = small (s.offset + j) in omega arith);
    zeros = λ j from below. there j (let n = image_size in omega arith) ∙ ap (λ b. b % 256) (image_zero j from below);
  }
