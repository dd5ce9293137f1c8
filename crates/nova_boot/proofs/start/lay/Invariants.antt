use Rattle.std.proofs.Common.{◌≡◌, ◌*◌, length, drop, map}
use Rattle.nova_model.specs.Boot.{with_images}
use Rattle.nova_boot.specs.Boot.{image_of, LieInRam}
use Rattle.nova_boot.proofs.start.lay.Given as goal

-- with the images that are left the kernel is that which is to be made, and they lie in its RAM
abbrev pub invariant-loop-image : goal.invariant-loop-image
invariant-loop-image l = record {
  rest : record l.kernel { state = with_images l.kernel.state (map image_of (drop l.image-index l.images)) }
      ≡ record l.fn.kernel { state = with_images l.fn.kernel.state (map image_of l.images) };
  turns : l.kernel.state.turns ≡ 0;
  cpus : l.kernel.state.cpus ≡ l.fn.kernel.state.cpus;
  objects : length l.kernel.state.objects ≡ length l.fn.kernel.state.objects;
  within : LieInRam (4096 * length l.kernel.state.memory.ram) (drop l.image-index l.images);
}
