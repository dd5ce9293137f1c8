-- The labels that a policy gives to the objects of a state.
use Rattle.std.specs.Prelude.{ℕ, ◌==◌, Bool, true, false, not, ◌&&◌, List, codes, find, is_some, map, slice_get, Option, Some, None}
use Rattle.std.specs.List.{enumerate_from, list_any}
use Rattle.nova_objects.specs.declared.object.Object.{Object}
use Rattle.nova_objects.specs.declared.object.Object.TheVariants.{Pd, Sm}
use Rattle.nova_model.specs.State.{KernelState}
use Rattle.nova_naming.specs.Labels.{flows_of, label_of, semaphores_of}
use Rattle.nova_naming.specs.Statements.{Stated}
use Rattle.nova_sides.specs.Among.{is_among, is_flow}
use Rattle.nova_ties.specs.Ties.{is_another}
use Rattle.nova_objects.specs.ObjectTables.{is_domain}
use Rattle.nova_judging.specs.declared.strangers.Expected.{Expected}
use Rattle.nova_judging.specs.declared.strangers.Expected.TheVariants.{Domain, Semaphore}
use Rattle.nova_judging.specs.declared.strangers.Stranger.{Stranger}

-- a domain has the label that the policy gives it, and what is no domain has none
abbrev pub labelled : List Stated → ℕ × Object → ℕ
labelled policy (n, Pd) = label_of policy n
labelled policy (n, other) = 0

unfoldable pub labels_of : List Stated → KernelState → List ℕ
labels_of policy k = map (labelled policy) (enumerate_from 0 k.objects)

-- the semaphores that its sides share
abbrev pub shared_by : List Stated → ℕ → Bool
shared_by policy = is_among (semaphores_of policy)

-- and one of them flows to another, by their labels
abbrev pub flows_between : List Stated → ℕ → ℕ → Bool
flows_between policy = is_flow (flows_of policy)

-- a number is that of a domain, or of a semaphore
abbrev pub is_domain_of : KernelState → ℕ → Bool
is_domain_of k n = is_domain (slice_get k.objects n)

abbrev pub is_semaphore : Option Object → Bool
is_semaphore (Some Sm) = true
is_semaphore other = false

abbrev pub is_semaphore_of : KernelState → ℕ → Bool
is_semaphore_of k n = is_semaphore (slice_get k.objects n)

-- the first number of a line that is not of what it is to be, and the first of a policy, with its line
abbrev pub is_stranger : KernelState → ℕ → Bool
is_stranger k n = not (is_domain_of k n)

abbrev pub is_no_semaphore : KernelState → ℕ → Bool
is_no_semaphore k n = not (is_semaphore_of k n)

abbrev pub at_line : ℕ → Expected → Option ℕ → Option Stranger
at_line line expected None = None
at_line line expected (Some n) = Some (record { line = line; expected = expected; number = n })

abbrev pub first_or : Option Stranger → Option Stranger → Option Stranger
first_or (Some stranger) other = Some stranger
first_or None other = other

abbrev pub stranger_in : KernelState → Stated → Option Stranger
stranger_in k s = first_or (at_line s.line Domain (find (is_stranger k) s.domains)) (at_line s.line Semaphore (find (is_no_semaphore k) s.semaphores))

abbrev pub is_strange : KernelState → Stated → Bool
is_strange k s = is_some (stranger_in k s)

abbrev pub stranger_of : KernelState → Option Stated → Option Stranger
stranger_of k None = None
stranger_of k (Some s) = stranger_in k s

-- what a number isn't of
abbrev pub expected_text : Expected → List ℕ
expected_text Domain = codes "NoDomain"
expected_text Semaphore = codes "NoSemaphore"

abbrev pub first_stranger : List Stated → KernelState → Option Stranger
first_stranger policy k = stranger_of k (find (is_strange k) policy)

-- two domains have two sides
abbrev pub has_another : List ℕ → ℕ → Bool
has_another labels label = not (label == 0) && list_any (is_another label) labels

abbrev pub are_two : List ℕ → Bool
are_two labels = list_any (has_another labels) labels
