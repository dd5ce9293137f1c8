use Rattle.std.proofs.Common.{◌≡◌, ◌^◌, ◌*◌, length, subst, sym, refl, replicate, ℕ, List, arith}
use Rattle.std.proofs.lemmas.List.{length-replicate}
use Rattle.nova_model.specs.Boot.{bare, with_images}
use Rattle.law_isolation.proofs.Ranges.{sources_frames as sources_memory}
use Rattle.nova_boot.specs.Boot.{scenario_of, LieInRam}
use Rattle.nova_boot.specs.Lying.{HoldsImages}
use Rattle.nova_boot.proofs.Lying.{holds, empty_whole, empty_byte}
use Rattle.nova_boot.proofs.laws.images_lie_in_memory.Goals as goal

pub returns : goal.returns
returns c = λ s lie apart.
    let t = scenario_of s in
    let k = bare t.cpus t.ram t.consoles t.root in
    let zeros : List ℕ = replicate 4096 0 in
    let size : length k.memory.ram ≡ 2 ^ s.ram = length-replicate (2 ^ s.ram) zeros in
    subst (HoldsImages s.images) (sym (sources_memory (with_images k t.images) t.sources))
    (holds c.loads_give_what_was_stored.ensures.same c.loads_give_what_was_stored.ensures.others k s.images
    (empty_whole (2 ^ s.ram), subst (λ n. LieInRam (4096 * n) s.images) (sym size) lie) apart
    (λ address below. empty_byte k.memory (2 ^ s.ram) address refl (omega arith)))
