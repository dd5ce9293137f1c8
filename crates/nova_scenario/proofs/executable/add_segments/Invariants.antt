use Rattle.std.proofs.Common.{◌≡◌, ◌≤◌, ◌^◌, false, drop, map}
use Rattle.std.specs.List.{list_any}
use Rattle.nova_scenario.specs.Fault.{on_line}
use Rattle.nova_scenario.specs.Segments.{segment_image, reaches_past, with_images}
use Rattle.nova_scenario.specs.Settings.{ram_size}
use Rattle.nova_scenario.proofs.executable.add_segments.Given as goal

-- with the segments that are left the images are the same, and none of those reaches past RAM
abbrev pub invariant-loop-segment : goal.invariant-loop-segment
invariant-loop-segment l = record {
  images : on_line l.line (with_images l.draft (map (segment_image l.address l.file) (drop l.segment-index l.segments))) ≡ on_line l.line (with_images l.fn.draft (map (segment_image l.address l.file) l.segments));
  within : list_any (reaches_past (ram_size l.draft.settings) l.address) (drop l.segment-index l.segments) ≡ false;
  small : ram_size l.draft.settings ≤ 2 ^ 26;
}
