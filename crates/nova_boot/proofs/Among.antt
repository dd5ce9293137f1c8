-- What holds of each image holds of the segments among them.
use Rattle.std.proofs.Common.{◌≡◌, ℕ, ◌<◌, ◌⊎◌, List, [], ◌∷◌, length, subst, sym, inl, inr}
use Rattle.std.specs.Prelude.{slice_index}
use Rattle.std.specs.List.{AllByRecursion}
use Rattle.nova_elf.specs.SegmentFits.{SegmentFits}
use Rattle.nova_elf.specs.declared.program.Segment.{Segment}
use Rattle.nova_model.specs.Memory.{Memory}
use Rattle.nova_scenario.specs.Executables.{IsAmong, AreLaidIn, IsLaidItem}
use Rattle.nova_scenario.specs.Items.{Item, FaultyLine, SettingLine, SourceLine, ImageBlock}
use Rattle.nova_scenario.specs.Segments.{segment_image}
use Rattle.nova_scenario.specs.declared.image.Image.{Image}
use Rattle.nova_scenario.specs.Sound.{IsIn}
use Rattle.nova_elf.proofs.ReadLemmas.{program_fits}
use Rattle.nova_scenario.proofs.ByteLemmas.{file_small}
use Rattle.nova_boot.specs.Boot.{LieInRam}
use Rattle.nova_boot.specs.Lying.{LiesThere, HoldsSegment, HoldsProgram, HoldsItem}
use Rattle.nova_boot.proofs.Lying.{segment_held}

pub of_one : (P : Image → Type 0) (image : Image) (images : List Image) → AllByRecursion P images → IsAmong image images → P image
of_one P image [] all among = absurd among
of_one P image (first ∷ images) all (inl is) = subst P (sym is) all.0
of_one P image (first ∷ images) all (inr later) = of_one P image images all.1 later

pub segments_held : (m : Memory) (images : List Image) (address : ℕ) (file : List ℕ) (segments : List Segment) → ((i : ℕ) → slice_index file i < 256) → AllByRecursion (LiesThere m) images → AllByRecursion (SegmentFits (length file)) segments → AreLaidIn images address file segments → AllByRecursion (HoldsSegment m address file) segments
segments_held m images address file [] small there fit among = tt
segments_held m images address file (s ∷ segments) small there fit among = (
  segment_held address file s fit.0 m small (of_one (LiesThere m) (segment_image address file s) images there among.0),
  segments_held m images address file segments small there fit.1 among.1,
)

pub items_held : (m : Memory) (images : List Image) (its : List Item) → AllByRecursion (LiesThere m) images → AllByRecursion (IsLaidItem images) its → AllByRecursion (HoldsItem m) its
items_held m images [] there laid = tt
items_held m images (FaultyLine line why ∷ its) there laid = (tt, items_held m images its there laid.1)
items_held m images (SettingLine line setting ∷ its) there laid = (tt, items_held m images its there laid.1)
items_held m images (SourceLine line head ∷ its) there laid = (tt, items_held m images its there laid.1)
items_held m images (ImageBlock head block ∷ its) there laid = (
  λ of_form.
      let h = laid.0 of_form in (
        h.0,
        h.1,
        h.2,
        h.3,
        h.4,
        record {
          is_program = h.5.is_program;
          segments = segments_held m images h.0 h.1 h.2.segments (file_small block.lines h.1 h.4) there (program_fits h.1 h.2 h.5.is_program) h.5.laid;
        },
      ),
  items_held m images its there laid.1,
)

pub lie_in : (ram : ℕ) (images : List Image) → AllByRecursion (IsIn ram) images → LieInRam ram images
lie_in ram [] all = tt
lie_in ram (image ∷ images) all = (all.0.within, lie_in ram images all.1)
