-- Lines that tell who holds the semaphores that sides share, and who waits there.
use Rattle.std.specs.Prelude.{ℕ, ◌==◌, Bool, true, false, not, ◌&&◌, ◌||◌, if◌then◌else◌, List, [], ◌∷◌, ◌++◌, codes, decimal, flat_map}
use Rattle.std.specs.List.{enumerate_from, list_any}
use Rattle.nova_range.specs.Rights.{allows}
use Rattle.nova_model.specs.Capabilities.{down_right, up_right}
use Rattle.nova_model.specs.Delegations.{is_memory}
use Rattle.nova_model.specs.Semaphores.{semaphore}
use Rattle.nova_model.specs.State.{KernelState, pd_of}
use Rattle.nova_model.specs.declared.delegation.Derivation.{Derivation}
use Rattle.nova_report.specs.Words.{line_feed}
use Rattle.nova_ties.specs.Ties.{label_in}
use Rattle.nova_naming.specs.Labels.{semaphores_of, side_text}
use Rattle.nova_naming.specs.Statements.{Stated}
use Rattle.nova_judging.specs.Sides.{begins_side}

-- a capability of the side leads to the semaphore, with the right; one of its execution contexts waits there
abbrev pub holds : List ℕ → ℕ → ℕ → ℕ → Derivation → Bool
holds labels sm right label d = (label_in labels d.pd == label) && (not (is_memory d.kind) && ((d.target == sm) && allows d.rights right))

abbrev pub raises : KernelState → List ℕ → ℕ → ℕ → Bool
raises k labels sm label = list_any (holds labels sm up_right label) k.delegations.list

abbrev pub lowers : KernelState → List ℕ → ℕ → ℕ → Bool
lowers k labels sm label = list_any (holds labels sm down_right label) k.delegations.list

abbrev pub is_of : KernelState → List ℕ → ℕ → ℕ → Bool
is_of k labels label ec = label_in labels (pd_of k ec) == label

abbrev pub waits : KernelState → List ℕ → ℕ → ℕ → Bool
waits k labels sm label = list_any (is_of k labels label) (semaphore k.semaphores sm).waiting

abbrev pub shares : KernelState → List ℕ → ℕ → ℕ → Bool
shares k labels sm label = raises k labels sm label || (lowers k labels sm label || waits k labels sm label)

-- the labels of which this is so: what is trusted, then sides, in the order of the lines that tell them
abbrev pub sharer_of : KernelState → List ℕ → ℕ → ℕ → List ℕ
sharer_of k labels sm label = if shares k labels sm label then label ∷ [] else []

abbrev pub sharer_at : KernelState → List ℕ → ℕ → ℕ × ℕ → List ℕ
sharer_at k labels sm (n, label) = if begins_side labels (n, label) then sharer_of k labels sm label else []

abbrev pub sharers : KernelState → List ℕ → ℕ → List ℕ
sharers k labels sm = sharer_of k labels sm 0 ++ flat_map (sharer_at k labels sm) (enumerate_from 0 labels)

-- each semaphore that sides share, with all that hold it or wait there
abbrev pub up_text : Bool → List ℕ
up_text true = codes " up"
up_text false = codes ""

abbrev pub down_text : Bool → List ℕ
down_text true = codes " down"
down_text false = codes ""

abbrev pub waits_text : Bool → List ℕ
waits_text true = codes " waits"
waits_text false = codes ""

abbrev pub sharer_text : List Stated → KernelState → List ℕ → ℕ → ℕ → List ℕ
sharer_text policy k labels sm label = side_text policy label ++ (up_text (raises k labels sm label) ++ (down_text (lowers k labels sm label) ++ waits_text (waits k labels sm label)))

abbrev pub next_text : List Stated → KernelState → List ℕ → ℕ → ℕ → List ℕ
next_text policy k labels sm label = codes ", " ++ sharer_text policy k labels sm label

abbrev pub sharers_text : List Stated → KernelState → List ℕ → ℕ → List ℕ → List ℕ
sharers_text policy k labels sm [] = []
sharers_text policy k labels sm (label ∷ others) = codes " " ++ (sharer_text policy k labels sm label ++ flat_map (next_text policy k labels sm) others)

abbrev pub shared_line : List Stated → KernelState → List ℕ → ℕ → List ℕ
shared_line policy k labels sm = codes "shared " ++ (decimal sm ++ (codes ":" ++ (sharers_text policy k labels sm (sharers k labels sm) ++ line_feed)))

abbrev pub shared_lines : List Stated → KernelState → List ℕ → List ℕ
shared_lines policy k labels = flat_map (shared_line policy k labels) (semaphores_of policy)
