-- Lines that tell what trusted domains are.
use Rattle.std.specs.Prelude.{ℕ, ◌==◌, if◌then◌else◌, List, [], ◌++◌, codes, decimal, flat_map}
use Rattle.std.specs.List.{enumerate_from}
use Rattle.nova_objects.specs.declared.object.Object.{Object}
use Rattle.nova_objects.specs.declared.object.Object.TheVariants.{Pd}
use Rattle.nova_model.specs.State.{KernelState}
use Rattle.nova_ties.specs.Ties.{label_in}
use Rattle.nova_sides.specs.Works.{role_of}
use Rattle.nova_sides.specs.declared.roles.Role.{Role}
use Rattle.nova_sides.specs.declared.roles.Role.TheVariants.{Rests, Bare, Mute, Works}

-- a trusted domain: at rest, where it does nothing unless one that is at work calls it; bare, mute or at work
abbrev pub role_text : ℕ → Role → List ℕ
role_text n Rests = codes "domain " ++ (decimal n ++ codes " at rest\n")
role_text n Bare = codes "domain " ++ (decimal n ++ codes " bare\n")
role_text n Mute = codes "domain " ++ (decimal n ++ codes " mute\n")
role_text n Works = codes "domain " ++ (decimal n ++ codes " at work\n")

abbrev pub role_line : KernelState → List ℕ → ℕ × Object → List ℕ
role_line k labels (n, Pd) = if label_in labels n == 0 then role_text n (role_of k (label_in labels) n) else []
role_line k labels (n, other) = []

abbrev pub role_lines : KernelState → List ℕ → List ℕ
role_lines k labels = flat_map (role_line k labels) (enumerate_from 0 k.objects)
