-- What a step over a bus answers and leaves.
use Rattle.std.specs.Prelude.{◌≡◌, ℕ, ◌*◌, Bool, Option, Some, None}
use Rattle.rv_model.specs.Words.{extended}
use Rattle.rv_model.specs.Registers.{Registers}
use Rattle.rv_model.specs.Step.{Space, Store, Once, Raised, Went}
use Rattle.rv_core.specs.declared.hart.Extension.{Extension}
use Rattle.rv_core.specs.declared.hart.Extension.TheVariants.{Zero, Sign}
use Rattle.rv_core.specs.declared.outcome.Outcome.{Outcome}
use Rattle.rv_core.specs.declared.outcome.Outcome.TheVariants.{Next, Raise}

-- the address space that a state of a bus is
abbrev pub space_of : {S : Type 0} → (S → ℕ → Option ℕ) → (S → ℕ → ℕ → Option ℕ) → (S → ℕ → ℕ → Bool) → S → Space
space_of fetched loaded takes s = record { fetch = fetched s; load = loaded s; takes = takes s }

-- registers and a state, the outcome, and the registers and the state after it: a raise leaves both as they were
abbrev pub Follows : {S : Type 0} → (Store → S → S) → Once → Registers → S → Outcome → Registers → S → Type 0
Follows stored (Raised reason q0 q1) r s outcome r' s' = (outcome ≡ Raise reason q0 q1) × (r' ≡ r) × (s' ≡ s)
Follows stored (Went next None) r s outcome r' s' = (outcome ≡ Next) × (r' ≡ next) × (s' ≡ s)
Follows stored (Went next (Some store)) r s outcome r' s' = (outcome ≡ Next) × (r' ≡ next) × (s' ≡ stored store s)

-- registers, the outcome, and the registers after it, of an instruction that needs no bus: it makes no store
abbrev pub FollowsAlone : Once → Registers → Outcome → Registers → Type 0
FollowsAlone (Raised reason q0 q1) r outcome r' = (outcome ≡ Raise reason q0 q1) × (r' ≡ r)
FollowsAlone (Went next None) r outcome r' = (outcome ≡ Next) × (r' ≡ next)
FollowsAlone (Went next (Some store)) r outcome r' = ⊥

-- how a loaded number of `width` bytes becomes a word
abbrev pub extension_of : Extension → ℕ → ℕ → ℕ
extension_of Zero width n = n
extension_of Sign width n = extended (8 * width) n
