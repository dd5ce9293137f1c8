-- A side among the others of some labels: what its domains are, what its part of the objects is, and which processors are its own.
use Rattle.std.specs.Prelude.{ℕ, ◌==◌, ◌&&◌, ◌||◌, Bool, false, List, map, Some}
use Rattle.std.specs.List.{enumerate_from, list_any, range_with_len}
use Rattle.nova_objects.specs.declared.object.Object.{Object}
use Rattle.nova_objects.specs.declared.object.Object.TheVariants.{Ec, Sm}
use Rattle.nova_model.specs.State.{KernelState}
use Rattle.nova_ties.specs.Ties.{is_another}
use Rattle.nova_flowing.specs.Tests.{holds, is_in, is_owned, queues_of}

-- the domains of a label, and those of the other sides
abbrev pub is_label : ℕ → ℕ → Bool
is_label label other = other == label

abbrev pub own_table : List ℕ → ℕ → List Bool
own_table labels label = map (is_label label) labels

abbrev pub others_table : List ℕ → ℕ → List Bool
others_table labels label = map (is_another label) labels

-- its processors are those that have an execution context of its
abbrev pub is_on : (ℕ → Bool) → ℕ → Object → Bool
is_on S cpu (Ec pd at kind event) = (at == cpu) && S pd
is_on S cpu other = false

abbrev pub is_home : KernelState → (ℕ → Bool) → ℕ → Bool
is_home k S cpu = list_any (is_on S cpu) k.objects

abbrev pub home_table : KernelState → (ℕ → Bool) → List Bool
home_table k S = map (is_home k S) (range_with_len 0 k.cpus)

-- its part of the objects is what is its own; and of semaphores those that it holds, or at which one of it waits
abbrev pub is_semaphore_of : KernelState → (ℕ → Bool) → ℕ → Bool
is_semaphore_of k S n = holds k.delegations.list S n || list_any (queues_of k S n) (enumerate_from 0 k.objects)

abbrev pub is_part : KernelState → (ℕ → Bool) → ℕ × Object → Bool
is_part k S (n, Sm) = is_semaphore_of k S n
is_part k S (n, other) = is_owned k S n (Some other)

abbrev pub part_table : KernelState → (ℕ → Bool) → List Bool
part_table k S = map (is_part k S) (enumerate_from 0 k.objects)

-- the four of a label
abbrev pub own_by : List ℕ → ℕ → ℕ → Bool
own_by labels label n = is_in (own_table labels label) n

abbrev pub others_by : List ℕ → ℕ → ℕ → Bool
others_by labels label n = is_in (others_table labels label) n

abbrev pub home_by : KernelState → List ℕ → ℕ → ℕ → Bool
home_by k labels label cpu = is_in (home_table k (own_by labels label)) cpu

abbrev pub part_by : KernelState → List ℕ → ℕ → ℕ → Bool
part_by k labels label n = is_in (part_table k (own_by labels label)) n
