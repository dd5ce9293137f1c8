-- What a draft keeps.
use Rattle.std.specs.Prelude.{◌≡◌, ℕ, List}
use Rattle.std.specs.List.{list_any}
use Rattle.nova_scenario.specs.Images.{end_of}
use Rattle.nova_scenario.specs.Occupied.{meets}
use Rattle.nova_scenario.specs.Settings.{HasSmallRam}
use Rattle.nova_scenario.specs.declared.image.Image.{Image}
use Rattle.nova_scenario.specs.declared.settings.Settings.{Settings}

-- the addresses of an image as a part of memory
abbrev pub part_of : Image → ℕ × ℕ
part_of image = (image.address, end_of image)

-- RAM is not too large, and what meets an occupied part is what meets an image
pub record IsKept (settings : Settings) (images : List Image) (occupied : List (ℕ × ℕ)) : Type 0 where
  pub ram : HasSmallRam settings
  pub parts : (start end : ℕ) → list_any (meets start end) occupied ≡ list_any (λ image. meets start end (part_of image)) images
