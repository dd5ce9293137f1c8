-- Images that are laid leave what is set and the sources.
use Rattle.std.proofs.Common.{◌≡◌, ℕ, Bool, true, false, List, [], ◌∷◌, ◌++◌, map, refl, ap, ◌∙◌, nat_lt}
use Rattle.std.specs.Prelude.{Ok, Err}
use Rattle.std.specs.List.{list_any}
use Rattle.nova_elf.specs.declared.program.Segment.{Segment}
use Rattle.nova_scenario.specs.Images.{Draft, end_of, shares, with_apart, with_image}
use Rattle.nova_scenario.specs.Segments.{reaches_past, segment_image, with_images, with_segments}
use Rattle.nova_scenario.specs.Settings.{ram_size}
use Rattle.nova_scenario.specs.declared.fault.Why.TheVariants.{Range, Overlap}
use Rattle.nova_scenario.specs.declared.image.Image.{Image}
use Rattle.nova_scenario.proofs.SoundLemmas.{and_then-ok}

pub record Leaves (d e : Draft) : Type 0 where
  pub settings : e.settings ≡ d.settings
  pub sources : e.sources ≡ d.sources

apart_leaves : (d e : Draft) (image : Image) → with_apart d image ≡ Ok e → Leaves d e
apart_leaves d e image is = go (list_any (shares image) d.images) refl where
  go : (meets : Bool) → list_any (shares image) d.images ≡ meets → Leaves d e
  go true m = let same : Err Overlap ≡ Ok e = rw m at is in cc
  go false m =
      let same : Ok (record d { images = d.images ++ image ∷ [] }) ≡ Ok e = rw m at is in
      let e_is : e ≡ record d { images = d.images ++ image ∷ [] } = cc in
      record { settings = ap (λ (x : Draft). x.settings) e_is; sources = ap (λ (x : Draft). x.sources) e_is }

pub image_leaves : (d e : Draft) (image : Image) → with_image d image ≡ Ok e → Leaves d e
image_leaves d e image is = go (nat_lt (ram_size d.settings) (end_of image)) refl where
  go : (past : Bool) → nat_lt (ram_size d.settings) (end_of image) ≡ past → Leaves d e
  go true p = let same : Err Range ≡ Ok e = rw p at is in cc
  go false p = apart_leaves d e image (rw p at is)

images_leave : (d e : Draft) (images : List Image) → with_images d images ≡ Ok e → Leaves d e
images_leave d e [] is = let e_is : e ≡ d = cc in record { settings = ap (λ (x : Draft). x.settings) e_is; sources = ap (λ (x : Draft). x.sources) e_is }
images_leave d e (image ∷ images) is =
    let a = and_then-ok (with_apart d image) (λ next. with_images next images) e is in
    let here = apart_leaves d a.0 image a.1 in
    let rest = images_leave a.0 e images a.2 in
    record { settings = rest.settings ∙ here.settings; sources = rest.sources ∙ here.sources }

pub segments_leave : (d e : Draft) (address : ℕ) (file : List ℕ) (segments : List Segment) → with_segments address file segments d ≡ Ok e → Leaves d e
segments_leave d e address file segments is = go (list_any (reaches_past (ram_size d.settings) address) segments) refl where
  go : (past : Bool) → list_any (reaches_past (ram_size d.settings) address) segments ≡ past → Leaves d e
  go true p = let same : Err Range ≡ Ok e = rw p at is in cc
  go false p = images_leave d e (map (segment_image address file) segments) (rw p at is)
