-- Lines that tell which sides may take turns of which processor.
use Rattle.std.specs.Prelude.{ℕ, ◌==◌, Bool, false, not, ◌&&◌, ◌||◌, if◌then◌else◌, List, [], ◌++◌, codes, decimal, flat_map}
use Rattle.std.specs.List.{enumerate_from, list_any, range_with_len}
use Rattle.nova_objects.specs.declared.object.Object.{Object}
use Rattle.nova_objects.specs.declared.object.Object.TheVariants.{Ec}
use Rattle.nova_range.specs.Rights.{allows}
use Rattle.nova_model.specs.Capabilities.{create_right}
use Rattle.nova_model.specs.Delegations.{is_memory}
use Rattle.nova_model.specs.State.{KernelState}
use Rattle.nova_model.specs.declared.delegation.Derivation.{Derivation}
use Rattle.nova_report.specs.Words.{line_feed}
use Rattle.nova_ties.specs.Ties.{label_in}
use Rattle.nova_naming.specs.Labels.{side_text}
use Rattle.nova_naming.specs.Statements.{Stated}
use Rattle.nova_judging.specs.Labelled.{is_domain_of}
use Rattle.nova_judging.specs.Sides.{begins_side}

-- an execution context of a side is on the processor
abbrev pub is_on : List ℕ → ℕ → ℕ → Object → Bool
is_on labels label cpu (Ec pd at kind event) = (at == cpu) && (label_in labels pd == label)
is_on labels label cpu other = false

-- or a side holds a protection domain, to create in it: there it may make one of the greatest priority on each processor
abbrev pub creates : KernelState → List ℕ → ℕ → Derivation → Bool
creates k labels label d = (label_in labels d.pd == label) && (not (is_memory d.kind) && (allows d.rights create_right && is_domain_of k d.target))

abbrev pub may_run : KernelState → List ℕ → ℕ → ℕ → Bool
may_run k labels cpu label = list_any (is_on labels label cpu) k.objects || list_any (creates k labels label) k.delegations.list

-- a processor, with the sides that may take turns of it
abbrev pub runner_text : List Stated → KernelState → List ℕ → ℕ → ℕ × ℕ → List ℕ
runner_text policy k labels cpu (n, label) = if begins_side labels (n, label) && may_run k labels cpu label then codes " " ++ side_text policy label else []

abbrev pub processor_line : List Stated → KernelState → List ℕ → ℕ → List ℕ
processor_line policy k labels cpu = codes "processor " ++ (decimal cpu ++ (codes ":" ++ (flat_map (runner_text policy k labels cpu) (enumerate_from 0 labels) ++ line_feed)))

abbrev pub processor_lines : List Stated → KernelState → List ℕ → List ℕ
processor_lines policy k labels = flat_map (processor_line policy k labels) (range_with_len 0 k.cpus)
