-- What a turn of a side leaves of isolated others, and what it can't depend on, unless it flows.
use Rattle.std.proofs.Common.{◌≡◌, ◌≢◌, ◌++◌, ℕ, zero, suc, List, refl, sym, ap, ◌∙◌, subst, inl, inr}
use Rattle.std.specs.Prelude.{Bool, true, false, Contains, slice_get, Option, Some, None}
use Rattle.nova_range.specs.Rights.{allows, write_right}
use Rattle.nova_range.specs.declared.range.Kind.TheVariants.{Mem}
use Rattle.nova_model.specs.Boot.{Scenario, boot}
use Rattle.nova_model.specs.Delegations.{Delegations, parent_of}
use Rattle.nova_model.specs.Forest.{IsForest}
use Rattle.nova_model.specs.Lines.{line, line_by}
use Rattle.nova_model.specs.Runs.{after, run}
use Rattle.nova_model.specs.State.{KernelState, pd_of}
use Rattle.nova_model.specs.declared.delegation.Derivation.{Derivation}
use Rattle.law_forest.proofs.Changes.{boot_run_forest}
use Rattle.law_forest.proofs.Lines.{line_none, parent_facts}
use Rattle.law_forest.proofs.Members.{IsIn, contains_from_in, in_from_contains}
use Rattle.law_forest.proofs.Reached.{reached_within}
use Rattle.law_origins.specs.Giving.{Acts}
use Rattle.law_origins.proofs.Lists.{run_append}
use Rattle.law_integrity.specs.Confined.{Reach, ReachAny}
use Rattle.law_integrity.specs.Secrecy.{with_bytes}
use Rattle.law_integrity.specs.Trusted.{Labelled, labels}
use Rattle.law_integrity.proofs.Confining.{any_reached}
use Rattle.law_integrity.proofs.Sides.{side_blind, side_leaves}
use Rattle.law_sides.specs.Isolated.{AreIsolated}
use Rattle.law_sides.specs.Resting.{IsAtRest}
use Rattle.law_sides.proofs.Frames.{leads_first}
use Rattle.law_sides.proofs.Lasting.{resting_isolated}

-- a frame that a side may write another doesn't reach, unless the first flows to it
unreached : {shared : ℕ → Bool} {flows : ℕ → ℕ → Bool} (k : KernelState) (label : ℕ → ℕ) (from to frame : ℕ) → AreIsolated shared flows k label → from ≢ 0 → to ≢ 0 → to ≢ from → flows from to ≡ false →
    Reach k (Labelled label from) write_right frame → ReachAny k (Labelled label to) frame → ⊥
unreached k label from to frame isolated own some other held reach any = elim (isolated.frames from to frame own some reach any) [
  | inl same ↦ other same
  | inr flow ↦ let no : true ≡ false = sym flow ∙ held in absurd (cc)
]

pub frames_left : {shared : ℕ → Bool} {flows : ℕ → ℕ → Bool} (s : Scenario) (turns : List ℕ) (label : ℕ → ℕ) (cpu ec side frame : ℕ) → AreIsolated shared flows (run (boot s) turns) label → Acts (run (boot s) turns) cpu ec →
    label (pd_of (run (boot s) turns) ec) ≢ 0 → side ≢ 0 → side ≢ label (pd_of (run (boot s) turns) ec) → flows (label (pd_of (run (boot s) turns) ec)) side ≡ false → ReachAny (run (boot s) turns) (Labelled label side) frame →
    slice_get (after (run (boot s) turns) cpu).memory.ram frame ≡ slice_get (run (boot s) turns).memory.ram frame
frames_left s turns label cpu ec side frame isolated acts_ own some other held any =
    (side_leaves s turns label cpu ec side isolated.policy acts_ own some other).frames frame
    (λ reach. unreached (run (boot s) turns) label (label (pd_of (run (boot s) turns) ec)) side frame isolated own some other held reach any)

pub frames_hidden : {shared : ℕ → Bool} {flows : ℕ → ℕ → Bool} (s : Scenario) (turns : List ℕ) (label : ℕ → ℕ) (cpu ec side frame : ℕ) (bytes : List ℕ) → AreIsolated shared flows (run (boot s) turns) label → Acts (run (boot s) turns) cpu ec →
    label (pd_of (run (boot s) turns) ec) ≢ 0 → side ≢ 0 → side ≢ label (pd_of (run (boot s) turns) ec) → flows side (label (pd_of (run (boot s) turns) ec)) ≡ false → Reach (run (boot s) turns) (Labelled label side) write_right frame →
    after (with_bytes (run (boot s) turns) frame bytes) cpu ≡ with_bytes (after (run (boot s) turns) cpu) frame bytes
frames_hidden s turns label cpu ec side frame bytes isolated acts_ own some other held reach =
    side_blind s turns label cpu ec frame bytes acts_
    (λ right its. unreached (run (boot s) turns) label side (label (pd_of (run (boot s) turns) ec)) frame isolated some own (λ same. other (sym same)) held reach (any_reached its))

-- what a derivation came from is there
line_there : (f : Delegations) → IsForest f → (n : ℕ) (d a : Derivation) → IsIn f.list d → IsIn (line_by n f.list (Some d)) a → IsIn f.list a
line_there f forest zero d a i above = absurd above
line_there f forest (suc n) d a i (inl same) = subst (IsIn f.list) same i
line_there f forest (suc n) d a i (inr above) = by_parent (parent_of f.list d) refl above (λ p j on. line_there f forest n p a j on)
  where
    by_parent : (o : Option Derivation) → parent_of f.list d ≡ o → IsIn (line_by n f.list o) a → ((p : Derivation) → IsIn f.list p → IsIn (line_by n f.list (Some p)) a → IsIn f.list a) → IsIn f.list a
    by_parent None is on rest = absurd (subst (λ (l : List Derivation). IsIn l a) (line_none n f.list) on)
    by_parent (Some p) is on rest = rest p (parent_facts f d p forest i is).there on

-- and memory to write came of no side that may not write to its holder's
pub memory_left : {shared : ℕ → Bool} {flows : ℕ → ℕ → Bool} (s : Scenario) (turns : List ℕ) (label : ℕ → ℕ) (cpu ec side : ℕ) (d : Derivation) → AreIsolated shared flows (run (boot s) turns) label → Acts (run (boot s) turns) cpu ec →
    label (pd_of (run (boot s) turns) ec) ≢ 0 → side ≢ 0 → side ≢ label (pd_of (run (boot s) turns) ec) → flows (label (pd_of (run (boot s) turns) ec)) side ≡ false → Contains (run (boot s) turns).delegations.list d → d.kind ≡ Mem →
    label d.pd ≡ side → allows d.rights write_right ≡ true → Contains (after (run (boot s) turns) cpu).delegations.list d
memory_left s turns label cpu ec side d isolated acts_ own some other held there kind its writes =
    (side_leaves s turns label cpu ec side isolated.policy acts_ own some other).keeps d there
    (λ ancestor above mine.
    let f = (run (boot s) turns).delegations in
    let within = reached_within s turns d ancestor there above in
    let was = contains_from_in f.list ancestor (line_there f (boot_run_forest s turns) (suc d.id) d ancestor (in_from_contains f.list d there) (in_from_contains (line f.list d) ancestor above)) in
    unreached (run (boot s) turns) label (label (pd_of (run (boot s) turns) ec)) side d.target isolated own some other held
    (record { derivation = ancestor; there = was; of = mine; kind = sym within.kind ∙ kind; leads = within.targets d.target (leads_first d); allowed = within.rights write_right writes })
    (record { derivation = d; there = there; of = its; kind = kind; leads = leads_first d }))

-- A SOURCE AND ITS SINK, whatever turns follow

abbrev Leaves : (ℕ → Bool) → (ℕ → ℕ → Bool) → (ℕ → ℕ) → KernelState → Type 0
Leaves shared flows label k = (cpu ec source sink frame : ℕ) → AreIsolated shared flows k label → Acts k cpu ec → label (pd_of k ec) ≡ sink → source ≢ 0 → sink ≢ 0 → source ≢ sink → flows sink source ≡ false →
    ReachAny k (Labelled label source) frame → slice_get (after k cpu).memory.ram frame ≡ slice_get k.memory.ram frame

leaves_here : (shared : ℕ → Bool) (flows : ℕ → ℕ → Bool) (s : Scenario) (turns : List ℕ) (label : ℕ → ℕ) → Leaves shared flows label (run (boot s) turns)
leaves_here shared flows s turns label cpu ec source sink frame isolated acts_ its some own other held any =
    frames_left s turns label cpu ec source frame isolated acts_ (λ none. own (sym its ∙ none)) some (λ same. other (same ∙ its)) (ap (λ (l : ℕ). flows l source) its ∙ held) any

pub sink_leaves : {shared : ℕ → Bool} {flows : ℕ → ℕ → Bool} (s : Scenario) (before turns : List ℕ) (label : ℕ → ℕ) (cpu ec source sink frame : ℕ) →
    AreIsolated shared flows (run (boot s) before) label → IsAtRest (run (boot s) before) label → Acts (run (run (boot s) before) turns) cpu ec →
    labels (run (boot s) before) label turns (pd_of (run (run (boot s) before) turns) ec) ≡ sink → source ≢ 0 → sink ≢ 0 → source ≢ sink → flows sink source ≡ false →
    ReachAny (run (run (boot s) before) turns) (Labelled (labels (run (boot s) before) label turns) source) frame →
    slice_get (after (run (run (boot s) before) turns) cpu).memory.ram frame ≡ slice_get (run (run (boot s) before) turns).memory.ram frame
sink_leaves {shared} {flows} s before turns label cpu ec source sink frame isolated at_rest acts_ its some own other held any =
    subst (Leaves shared flows (labels (run (boot s) before) label turns)) (run_append (boot s) before turns) (leaves_here shared flows s (before ++ turns) (labels (run (boot s) before) label turns))
    cpu ec source sink frame (resting_isolated s before turns label isolated at_rest) acts_ its some own other held any

abbrev Hides : (ℕ → Bool) → (ℕ → ℕ → Bool) → (ℕ → ℕ) → KernelState → Type 0
Hides shared flows label k = (cpu ec source sink frame : ℕ) (bytes : List ℕ) → AreIsolated shared flows k label → Acts k cpu ec → label (pd_of k ec) ≡ source → source ≢ 0 → sink ≢ 0 → source ≢ sink → flows sink source ≡ false →
    Reach k (Labelled label sink) write_right frame → after (with_bytes k frame bytes) cpu ≡ with_bytes (after k cpu) frame bytes

hides_here : (shared : ℕ → Bool) (flows : ℕ → ℕ → Bool) (s : Scenario) (turns : List ℕ) (label : ℕ → ℕ) → Hides shared flows label (run (boot s) turns)
hides_here shared flows s turns label cpu ec source sink frame bytes isolated acts_ its some own other held reach =
    frames_hidden s turns label cpu ec sink frame bytes isolated acts_ (λ none. some (sym its ∙ none)) own (λ same. other (sym (same ∙ its))) (ap (flows sink) its ∙ held) reach

pub source_blind : {shared : ℕ → Bool} {flows : ℕ → ℕ → Bool} (s : Scenario) (before turns : List ℕ) (label : ℕ → ℕ) (cpu ec source sink frame : ℕ) (bytes : List ℕ) →
    AreIsolated shared flows (run (boot s) before) label → IsAtRest (run (boot s) before) label → Acts (run (run (boot s) before) turns) cpu ec →
    labels (run (boot s) before) label turns (pd_of (run (run (boot s) before) turns) ec) ≡ source → source ≢ 0 → sink ≢ 0 → source ≢ sink → flows sink source ≡ false →
    Reach (run (run (boot s) before) turns) (Labelled (labels (run (boot s) before) label turns) sink) write_right frame →
    after (with_bytes (run (run (boot s) before) turns) frame bytes) cpu ≡ with_bytes (after (run (run (boot s) before) turns) cpu) frame bytes
source_blind {shared} {flows} s before turns label cpu ec source sink frame bytes isolated at_rest acts_ its some own other held reach =
    subst (Hides shared flows (labels (run (boot s) before) label turns)) (run_append (boot s) before turns) (hides_here shared flows s (before ++ turns) (labels (run (boot s) before) label turns))
    cpu ec source sink frame bytes (resting_isolated s before turns label isolated at_rest) acts_ its some own other held reach

abbrev Keeps : (ℕ → Bool) → (ℕ → ℕ → Bool) → (ℕ → ℕ) → KernelState → Type 0
Keeps shared flows label k = (cpu ec source sink : ℕ) (d : Derivation) → AreIsolated shared flows k label → Acts k cpu ec → label (pd_of k ec) ≡ sink → source ≢ 0 → sink ≢ 0 → source ≢ sink → flows sink source ≡ false →
    Contains k.delegations.list d → d.kind ≡ Mem → label d.pd ≡ source → allows d.rights write_right ≡ true → Contains (after k cpu).delegations.list d

keeps_here : (shared : ℕ → Bool) (flows : ℕ → ℕ → Bool) (s : Scenario) (turns : List ℕ) (label : ℕ → ℕ) → Keeps shared flows label (run (boot s) turns)
keeps_here shared flows s turns label cpu ec source sink d isolated acts_ its some own other held there kind of writes =
    memory_left s turns label cpu ec source d isolated acts_ (λ none. own (sym its ∙ none)) some (λ same. other (same ∙ its)) (ap (λ (l : ℕ). flows l source) its ∙ held) there kind of writes

pub sink_keeps : {shared : ℕ → Bool} {flows : ℕ → ℕ → Bool} (s : Scenario) (before turns : List ℕ) (label : ℕ → ℕ) (cpu ec source sink : ℕ) (d : Derivation) →
    AreIsolated shared flows (run (boot s) before) label → IsAtRest (run (boot s) before) label → Acts (run (run (boot s) before) turns) cpu ec →
    labels (run (boot s) before) label turns (pd_of (run (run (boot s) before) turns) ec) ≡ sink → source ≢ 0 → sink ≢ 0 → source ≢ sink → flows sink source ≡ false →
    Contains (run (run (boot s) before) turns).delegations.list d → d.kind ≡ Mem → labels (run (boot s) before) label turns d.pd ≡ source → allows d.rights write_right ≡ true →
    Contains (after (run (run (boot s) before) turns) cpu).delegations.list d
sink_keeps {shared} {flows} s before turns label cpu ec source sink d isolated at_rest acts_ its some own other held there kind of writes =
    subst (Keeps shared flows (labels (run (boot s) before) label turns)) (run_append (boot s) before turns) (keeps_here shared flows s (before ++ turns) (labels (run (boot s) before) label turns))
    cpu ec source sink d (resting_isolated s before turns label isolated at_rest) acts_ its some own other held there kind of writes
